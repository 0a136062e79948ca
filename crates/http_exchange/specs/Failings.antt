-- The checks that a request can fail before its command, and what is answered then.
use Rattle.std.specs.Prelude.{◌≡◌, ◌⊎◌, ℕ, List, [], codes, Result, Ok, Err, MatchResult}
use Rattle.http_exchange.specs.Places.{methods_of, joined}
use Rattle.http_exchange.specs.Responses.{response_text}
use Rattle.http_exchange.specs.declared.failings.Failing.{Failing}
use Rattle.http_exchange.specs.declared.failings.Failing.TheVariants.{BadRequest, NotFound, WrongMethod, LengthRequired, TooLong, NoMemory}

abbrev pub status_of : Failing → ℕ
status_of BadRequest = 400
status_of NotFound = 404
status_of (WrongMethod place) = 405
status_of LengthRequired = 411
status_of TooLong = 413
status_of NoMemory = 507

-- the methods of the field Allow; none but for a wrong method
abbrev pub allow_of : Failing → List ℕ
allow_of (WrongMethod place) = joined (methods_of place)
allow_of BadRequest = []
allow_of NotFound = []
allow_of LengthRequired = []
allow_of TooLong = []
allow_of NoMemory = []

abbrev pub body_of : Failing → List ℕ
body_of BadRequest = codes "bad request\n"
body_of NotFound = codes "not found\n"
body_of (WrongMethod place) = codes "method not allowed\n"
body_of LengthRequired = codes "length required\n"
body_of TooLong = codes "refused: too long\n"
body_of NoMemory = codes "refused: out of memory\n"

-- the response to a request that fails a check
abbrev pub failing_text : Failing → List ℕ
failing_text failing = response_text (status_of failing) (allow_of failing) (body_of failing)

-- what a check gives is wanted next
abbrev pub and_then : {A B : Type 0} → Result A Failing → (A → Result B Failing) → Result B Failing
and_then (Ok a) next = next a
and_then (Err failing) next = Err failing

-- the result is the one that is wanted, or there was no memory for it
abbrev pub IsMet : {A : Type 0} → Result A Failing → Result A Failing → Type 0
IsMet wanted result = MatchResult result (λ a. wanted ≡ Ok a) (λ failing. (failing ≡ NoMemory) ⊎ (wanted ≡ Err failing))
