-- What a head asks for, by the checks in their order.
use Rattle.std.specs.Prelude.{ℕ, List, map, Option, Some, None, Result, Ok, Err}
use Rattle.httparse.specs.Grammar.{RequestHead}
use Rattle.httparse.specs.Spans.{name_and_value}
use Rattle.http_exchange.specs.Texts.{front_of, rest_of}
use Rattle.http_exchange.specs.Places.{methods_of, method_in}
use Rattle.http_exchange.specs.Routes.{place_of}
use Rattle.http_exchange.specs.Parameters.{Given, names_of, given_by}
use Rattle.http_exchange.specs.Asked.{PathCommand, asked_of}
use Rattle.http_exchange.specs.Lengths.{body_length}
use Rattle.http_exchange.specs.Failings.{and_then}
use Rattle.http_exchange.specs.declared.failings.Failing.{Failing}
use Rattle.http_exchange.specs.declared.failings.Failing.TheVariants.{BadRequest, NotFound, WrongMethod}
use Rattle.http_exchange.specs.declared.places.Place.{Place}
use Rattle.http_exchange.specs.declared.places.Place.TheVariants as at
use Rattle.http_exchange.specs.declared.places.Method.{Method}
use Rattle.http_exchange.specs.declared.checks.Request.{Request}

-- how many bytes a body has at most, where files have at most `limit`; none where no body is read
abbrev pub body_limit : ℕ → Place → Option ℕ
body_limit limit at.CallgrindRuns = Some limit
body_limit limit at.FoldedRuns = Some limit
body_limit limit at.Annotate = Some 16777216
body_limit limit place = None

-- the length of the body, by the names and values of the fields
abbrev pub length_in : Option ℕ → List (List ℕ × List ℕ) → Result ℕ Failing
length_in (Some limit) fields = body_length limit fields
length_in None fields = Ok 0

abbrev pub length_at : ℕ → Place → List (List ℕ × List ℕ) → Result ℕ Failing
length_at limit place fields = length_in (body_limit limit place) fields

-- the parameters, and what is asked
abbrev pub after_parameters : List ℕ → Place → Method → Option Given → Result (Place × PathCommand) Failing
after_parameters target place method None = Err BadRequest
after_parameters target place method (Some given) = and_then (asked_of place method (front_of 63 target) given) (λ asked. Ok (place, asked))

-- the method
abbrev pub after_method : List ℕ → Place → Option Method → Result (Place × PathCommand) Failing
after_method target place None = Err (WrongMethod place)
after_method target place (Some method) = after_parameters target place method (given_by (names_of place) (rest_of 63 target))

-- the path, which ends at the first `?`
abbrev pub after_path : List ℕ → List ℕ → Option Place → Result (Place × PathCommand) Failing
after_path method target None = Err NotFound
after_path method target (Some place) = after_method target place (method_in (methods_of place) method)

abbrev pub asked_by : List ℕ → List ℕ → Result (Place × PathCommand) Failing
asked_by method target = after_path method target (place_of (front_of 63 target))

-- the length, last
abbrev pub request_by : ℕ → List ℕ → List ℕ → List (List ℕ × List ℕ) → Result Request Failing
request_by limit method target fields =
    and_then (asked_by method target) (λ found.
    and_then (length_at limit found.0 fields) (λ length.
    Ok (record { asked = found.1; length = length })))

-- what a head asks for, where files have at most `limit` bytes, or the first check that it fails
unfoldable pub request_of : ℕ → RequestHead → Result Request Failing
request_of limit head = request_by limit head.method head.target (map name_and_value head.fields)
