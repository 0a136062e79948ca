-- The definitions, computed on examples: each route, each failing check, each status.
use Rattle.std.proofs.Common.{◌≡◌, ℕ, List, [], ◌∷◌, Some, None, Result, Ok, Err, refl, codes}
use Rattle.std.specs.Fmt.{digits}
use Rattle.matchit.proofs.OnLiterals.{matchit_on_literals}
use Rattle.httparse.specs.Grammar.{RequestHead, Field, crlf, trim_ows}
use Rattle.percent_encoding.specs.Percent.{percent_decode}
use Rattle.cost_rows.specs.declared.keys.Key.TheVariants as key
use Rattle.http_exchange.specs.Texts.{parts_of}
use Rattle.http_exchange.specs.Places.{methods_of, joined}
use Rattle.http_exchange.specs.Routes.{routes, place_of}
use Rattle.http_exchange.specs.Failings.{failing_text}
use Rattle.http_exchange.specs.Responses.{head_text, response_text, status_text}
use Rattle.http_exchange.specs.Requests.{request_of}
use Rattle.http_exchange.specs.declared.failings.Failing.{Failing}
use Rattle.http_exchange.specs.declared.failings.Failing.TheVariants.{BadRequest, NotFound, WrongMethod, LengthRequired, TooLong, NoMemory}
use Rattle.http_exchange.specs.declared.places.Place.TheVariants as at
use Rattle.http_exchange.specs.Asked.{PathCommand}
use Rattle.profile_records.specs.declared.kinds.Kind.TheVariants as kinds
use Rattle.requests.specs.declared.selections.Selection.TheVariants as selections
use Rattle.requests.specs.declared.queries.Query.TheVariants as queries
use Rattle.requests.specs.declared.commands.Command.TheVariants as asks
use Rattle.http_exchange.specs.declared.checks.Request.{Request}

-- ---- paths

of_run : place_of (codes "/runs/3") ≡ Some at.OneRun
unfolding routes matchit_on_literals
of_run = refl

-- a literal path goes before a pattern
of_callgrind : place_of (codes "/runs/callgrind") ≡ Some at.CallgrindRuns
unfolding routes matchit_on_literals
of_callgrind = refl

of_callgrindx : place_of (codes "/runs/callgrindx") ≡ Some at.OneRun
unfolding routes matchit_on_literals
of_callgrindx = refl

of_groups_runs : place_of (codes "/groups/runs/runs/runs") ≡ Some at.Member
unfolding routes matchit_on_literals
of_groups_runs = refl

of_baseline : place_of (codes "/groups/g/baseline/1") ≡ Some at.Baseline
unfolding routes matchit_on_literals
of_baseline = refl

of_subtract : place_of (codes "/subtract/line") ≡ Some (at.Subtract key.Line)
unfolding routes matchit_on_literals
of_subtract = refl

of_subtracted_threads : place_of (codes "/subtract/thread") ≡ Some (at.Subtract key.Thread)
unfolding routes matchit_on_literals
of_subtracted_threads = refl

-- a key that is none is no path
none_of_threads : place_of (codes "/reports/threads") ≡ None
unfolding routes matchit_on_literals
none_of_threads = refl

none_of_slash : place_of (codes "/runs/") ≡ None
unfolding routes matchit_on_literals
none_of_slash = refl

none_of_empty_group : place_of (codes "/groups//runs/1") ≡ None
unfolding routes matchit_on_literals
none_of_empty_group = refl

parts : parts_of 47 (codes "/groups/g/runs/1") ≡ [] ∷ codes "groups" ∷ codes "g" ∷ codes "runs" ∷ codes "1" ∷ []
parts = refl

allowed : joined (methods_of at.OneGroup) ≡ codes "PUT, DELETE"
allowed = refl

-- ---- what heads ask for

abbrev head : List ℕ → List ℕ → List Field → RequestHead
head method target fields = record { blank = []; method = method; target = target; minor = 1; line_end = crlf; fields = fields; last = crlf }

abbrev field : List ℕ → List ℕ → Field
field name raw = record { name = name; raw = raw; end = crlf }

-- what a head without a body asks for
abbrev Asks : List ℕ → List ℕ → PathCommand → Type 0
Asks method target asked = request_of 100 (head method target []) ≡ Ok (record { asked = asked; length = 0 })

abbrev Fails : List ℕ → List ℕ → Failing → Type 0
Fails method target failing = request_of 100 (head method target []) ≡ Err failing

-- what a folded import with such fields comes to
abbrev Imports : List Field → Result Request Failing → Type 0
Imports fields result = request_of 100 (head (codes "POST") (codes "/runs/folded?label=t") fields) ≡ result

asks_runs : Asks (codes "GET") (codes "/runs?") (asks.Ask queries.Runs)
unfolding request_of routes matchit_on_literals percent_decode
asks_runs = refl

asks_groups : Asks (codes "GET") (codes "/groups") (asks.Ask queries.Groups)
unfolding request_of routes matchit_on_literals percent_decode
asks_groups = refl

asks_remove : Asks (codes "DELETE") (codes "/runs/3") (asks.Remove 3)
unfolding request_of routes matchit_on_literals percent_decode
asks_remove = refl

-- the number of a run in a path is not decoded
asks_remove_none : Asks (codes "DELETE") (codes "/runs/%31") (asks.Remove 0)
unfolding request_of routes matchit_on_literals percent_decode
asks_remove_none = refl

asks_remove_eleven_digits : Asks (codes "DELETE") (codes "/runs/00000000001") (asks.Remove 0)
unfolding request_of routes matchit_on_literals percent_decode
asks_remove_eleven_digits = refl

asks_make_group : Asks (codes "PUT") (codes "/groups/a%2Eb") (asks.MakeGroup (codes "a.b"))
unfolding request_of routes matchit_on_literals percent_decode
asks_make_group = refl

asks_drop_group : Asks (codes "DELETE") (codes "/groups/g") (asks.DropGroup (codes "g"))
unfolding request_of routes matchit_on_literals percent_decode
asks_drop_group = refl

asks_join : Asks (codes "PUT") (codes "/groups/a+b/runs/1") (asks.Join (codes "a+b") 1)
unfolding request_of routes matchit_on_literals percent_decode
asks_join = refl

asks_leave : Asks (codes "DELETE") (codes "/groups/g/runs/2147483647") (asks.Leave (codes "g") 2147483647)
unfolding request_of routes matchit_on_literals percent_decode
asks_leave = refl

asks_baseline : Asks (codes "PUT") (codes "/groups/g/baseline/2147483648") (asks.SetBaseline (codes "g") 0)
unfolding request_of routes matchit_on_literals percent_decode
asks_baseline = refl

asks_by : Asks (codes "GET") (codes "/reports/function?event=samples") (asks.Ask (queries.By selections.All key.Function (codes "samples") (record { limit = None; threshold = 100 })))
unfolding request_of routes matchit_on_literals percent_decode
asks_by = refl

-- values are decoded after the split, and before their digits are looked at
asks_by_line : Asks (codes "GET") (codes "/reports/line?limit=4&event=I%72%26&run=%31&threshold=0") (asks.Ask (queries.By (selections.Run 1) key.Line (codes "Ir&") (record { limit = Some 4; threshold = 0 })))
unfolding request_of routes matchit_on_literals percent_decode
asks_by_line = refl

asks_by_thread : Asks (codes "GET") (codes "/reports/thread?event=Ir&group=g") (asks.Ask (queries.By (selections.Group (codes "g")) key.Thread (codes "Ir") (record { limit = None; threshold = 100 })))
unfolding request_of routes matchit_on_literals percent_decode
asks_by_thread = refl

asks_inclusive : Asks (codes "GET") (codes "/inclusive?event=Ir&group=a=b") (asks.Ask (queries.Inclusive (selections.Group (codes "a=b")) (codes "Ir")))
unfolding request_of routes matchit_on_literals percent_decode
asks_inclusive = refl

asks_callers : Asks (codes "GET") (codes "/callers?event=Ir&function=f+g") (asks.Ask (queries.Callers selections.All (codes "Ir") (codes "???") (codes "f+g")))
unfolding request_of routes matchit_on_literals percent_decode
asks_callers = refl

asks_callees : Asks (codes "GET") (codes "/callees?object=&event=Ir&function=f") (asks.Ask (queries.Callees selections.All (codes "Ir") [] (codes "f")))
unfolding request_of routes matchit_on_literals percent_decode
asks_callees = refl

asks_subtract : Asks (codes "GET") (codes "/subtract/object?event=Ir&run=2&less_group=g") (asks.Ask (queries.Subtract (selections.Run 2) (Some (selections.Group (codes "g"))) key.Object (codes "Ir")))
unfolding request_of routes matchit_on_literals percent_decode
asks_subtract = refl

asks_subtract_baseline : Asks (codes "GET") (codes "/subtract/file?event=Ir&group=g") (asks.Ask (queries.Subtract (selections.Group (codes "g")) None key.File (codes "Ir")))
unfolding request_of routes matchit_on_literals percent_decode
asks_subtract_baseline = refl

-- run 0 is a run's number, and never held
asks_verify : Asks (codes "GET") (codes "/verify?run=0") (asks.Ask (queries.Verify (selections.Run 0)))
unfolding request_of routes matchit_on_literals percent_decode
asks_verify = refl

asks_csv : Asks (codes "GET") (codes "/csv") (asks.Ask (queries.Csv selections.All))
unfolding request_of routes matchit_on_literals percent_decode
asks_csv = refl

asks_folded : Asks (codes "GET") (codes "/folded?group=g") (asks.Ask (queries.Folded (selections.Group (codes "g"))))
unfolding request_of routes matchit_on_literals percent_decode
asks_folded = refl

-- ---- 404

no_path : Fails (codes "GET") (codes "/nothing") NotFound
unfolding request_of routes matchit_on_literals percent_decode
no_path = refl

no_key : Fails (codes "GET") (codes "/reports/colour?event=Ir") NotFound
unfolding request_of routes matchit_on_literals percent_decode
no_key = refl

-- a key is not decoded
no_decoded_key : Fails (codes "GET") (codes "/reports/lin%65?event=Ir") NotFound
unfolding request_of routes matchit_on_literals percent_decode
no_decoded_key = refl

-- the path is looked at before the method
no_path_first : Fails (codes "PATCH") (codes "/runs/?x") NotFound
unfolding request_of routes matchit_on_literals percent_decode
no_path_first = refl

-- ---- 405

wrong_method : Fails (codes "GET") (codes "/runs/3?x") (WrongMethod at.OneRun)
unfolding request_of routes matchit_on_literals percent_decode
wrong_method = refl

no_head_method : Fails (codes "HEAD") (codes "/runs") (WrongMethod at.Runs)
unfolding request_of routes matchit_on_literals percent_decode
no_head_method = refl

no_small_letters : Fails (codes "get") (codes "/runs") (WrongMethod at.Runs)
unfolding request_of routes matchit_on_literals percent_decode
no_small_letters = refl

-- ---- 400

unknown : Fails (codes "GET") (codes "/runs?x=1") BadRequest
unfolding request_of routes matchit_on_literals percent_decode
unknown = refl

unknown_encoded : Fails (codes "GET") (codes "/inclusive?ev%65nt=Ir") BadRequest
unfolding request_of routes matchit_on_literals percent_decode
unknown_encoded = refl

repeated : Fails (codes "GET") (codes "/inclusive?event=Ir&event=Ir") BadRequest
unfolding request_of routes matchit_on_literals percent_decode
repeated = refl

missing : Fails (codes "GET") (codes "/callers?event=Ir") BadRequest
unfolding request_of routes matchit_on_literals percent_decode
missing = refl

without_equals : Fails (codes "GET") (codes "/verify?run") BadRequest
unfolding request_of routes matchit_on_literals percent_decode
without_equals = refl

empty_part : Fails (codes "GET") (codes "/verify?run=1&") BadRequest
unfolding request_of routes matchit_on_literals percent_decode
empty_part = refl

run_and_group : Fails (codes "GET") (codes "/verify?run=1&group=g") BadRequest
unfolding request_of routes matchit_on_literals percent_decode
run_and_group = refl

two_less : Fails (codes "GET") (codes "/subtract/line?event=Ir&less_run=1&less_group=g") BadRequest
unfolding request_of routes matchit_on_literals percent_decode
two_less = refl

run_out_of_range : Fails (codes "GET") (codes "/verify?run=2147483648") BadRequest
unfolding request_of routes matchit_on_literals percent_decode
run_out_of_range = refl

run_of_eleven_digits : Fails (codes "GET") (codes "/verify?run=00000000001") BadRequest
unfolding request_of routes matchit_on_literals percent_decode
run_of_eleven_digits = refl

run_with_a_sign : Fails (codes "GET") (codes "/verify?run=+1") BadRequest
unfolding request_of routes matchit_on_literals percent_decode
run_with_a_sign = refl

no_threshold : Fails (codes "GET") (codes "/reports/line?event=Ir&threshold=101") BadRequest
unfolding request_of routes matchit_on_literals percent_decode
no_threshold = refl

no_limit : Fails (codes "GET") (codes "/reports/line?event=Ir&limit=4294967296") BadRequest
unfolding request_of routes matchit_on_literals percent_decode
no_limit = refl

-- parameters are looked at before the length
label_missing : Fails (codes "POST") (codes "/runs/folded") BadRequest
unfolding request_of routes matchit_on_literals percent_decode
label_missing = refl

-- ---- the length of a body

imports : Imports (field (codes "CONTENT-length") (codes "\t 6 ") ∷ []) (Ok (record { asked = asks.Import kinds.Folded (codes "t") tt; length = 6 }))
unfolding request_of routes matchit_on_literals percent_decode trim_ows
imports = refl

imports_as_long_as_may_be : Imports (field (codes "Content-Length") (codes "00000000000000000000100") ∷ []) (Ok (record { asked = asks.Import kinds.Folded (codes "t") tt; length = 100 }))
unfolding request_of routes matchit_on_literals percent_decode trim_ows
imports_as_long_as_may_be = refl

no_length : Imports [] (Err LengthRequired)
unfolding request_of routes matchit_on_literals percent_decode trim_ows
no_length = refl

only_coded : Imports (field (codes "Transfer-Encoding") (codes "chunked") ∷ []) (Err LengthRequired)
unfolding request_of routes matchit_on_literals percent_decode trim_ows
only_coded = refl

coded_beside : Imports (field (codes "transfer-encoding") (codes "chunked") ∷ field (codes "Content-Length") (codes "6") ∷ []) (Err BadRequest)
unfolding request_of routes matchit_on_literals percent_decode trim_ows
coded_beside = refl

two_lengths : Imports (field (codes "Content-Length") (codes "6") ∷ field (codes "content-length") (codes "6") ∷ []) (Err BadRequest)
unfolding request_of routes matchit_on_literals percent_decode trim_ows
two_lengths = refl

signed : Imports (field (codes "Content-Length") (codes "+1") ∷ []) (Err BadRequest)
unfolding request_of routes matchit_on_literals percent_decode trim_ows
signed = refl

empty_length : Imports (field (codes "Content-Length") (codes " ") ∷ []) (Err BadRequest)
unfolding request_of routes matchit_on_literals percent_decode trim_ows
empty_length = refl

too_long : Imports (field (codes "Content-Length") (codes "101") ∷ []) (Err TooLong)
unfolding request_of routes matchit_on_literals percent_decode trim_ows
too_long = refl

far_too_long : Imports (field (codes "Content-Length") (codes "18446744073709551616") ∷ []) (Err TooLong)
unfolding request_of routes matchit_on_literals percent_decode trim_ows
far_too_long = refl

-- a source has a limit of its own
annotates : request_of 100 (head (codes "POST") (codes "/annotate?event=Ir&file=a.c") (field (codes "Content-Length") (codes "16777216") ∷ []))
    ≡ Ok (record { asked = asks.Annotate selections.All (codes "Ir") (codes "a.c") tt; length = 16777216 })
unfolding request_of routes matchit_on_literals percent_decode trim_ows
annotates = refl

annotates_too_long : request_of 100 (head (codes "POST") (codes "/annotate?event=Ir&file=a.c") (field (codes "Content-Length") (codes "16777217") ∷ [])) ≡ Err TooLong
unfolding request_of routes matchit_on_literals percent_decode trim_ows
annotates_too_long = refl

-- ---- responses

created : response_text 201 [] (codes "run 1\n") ≡ codes "HTTP/1.1 201 Created\r\nContent-Type: text/plain\r\nContent-Length: 6\r\nConnection: close\r\n\r\nrun 1\n"
unfolding head_text status_text digits
created = refl

okay : response_text 200 [] [] ≡ codes "HTTP/1.1 200 OK\r\nContent-Type: text/plain\r\nContent-Length: 0\r\nConnection: close\r\n\r\n"
unfolding head_text status_text digits
okay = refl

text_of_bad_request : failing_text BadRequest ≡ codes "HTTP/1.1 400 Bad Request\r\nContent-Type: text/plain\r\nContent-Length: 12\r\nConnection: close\r\n\r\nbad request\n"
unfolding head_text status_text digits
text_of_bad_request = refl

text_of_not_found : failing_text NotFound ≡ codes "HTTP/1.1 404 Not Found\r\nContent-Type: text/plain\r\nContent-Length: 10\r\nConnection: close\r\n\r\nnot found\n"
unfolding head_text status_text digits
text_of_not_found = refl

text_of_wrong_method : failing_text (WrongMethod at.Member) ≡ codes "HTTP/1.1 405 Method Not Allowed\r\nContent-Type: text/plain\r\nContent-Length: 19\r\nAllow: PUT, DELETE\r\nConnection: close\r\n\r\nmethod not allowed\n"
unfolding head_text status_text digits
text_of_wrong_method = refl

text_of_conflict : response_text 409 [] (codes "refused: full\n") ≡ codes "HTTP/1.1 409 Conflict\r\nContent-Type: text/plain\r\nContent-Length: 14\r\nConnection: close\r\n\r\nrefused: full\n"
unfolding head_text status_text digits
text_of_conflict = refl

text_of_length_required : failing_text LengthRequired ≡ codes "HTTP/1.1 411 Length Required\r\nContent-Type: text/plain\r\nContent-Length: 16\r\nConnection: close\r\n\r\nlength required\n"
unfolding head_text status_text digits
text_of_length_required = refl

text_of_too_long : failing_text TooLong ≡ codes "HTTP/1.1 413 Payload Too Large\r\nContent-Type: text/plain\r\nContent-Length: 18\r\nConnection: close\r\n\r\nrefused: too long\n"
unfolding head_text status_text digits
text_of_too_long = refl

text_of_unprocessable : head_text 422 [] 9 ≡ codes "HTTP/1.1 422 Unprocessable Entity\r\nContent-Type: text/plain\r\nContent-Length: 9\r\nConnection: close\r\n\r\n"
unfolding head_text status_text digits
text_of_unprocessable = refl

text_of_store_failure : head_text 500 [] 22 ≡ codes "HTTP/1.1 500 Internal Server Error\r\nContent-Type: text/plain\r\nContent-Length: 22\r\nConnection: close\r\n\r\n"
unfolding head_text status_text digits
text_of_store_failure = refl

text_of_no_memory : failing_text NoMemory ≡ codes "HTTP/1.1 507 Insufficient Storage\r\nContent-Type: text/plain\r\nContent-Length: 23\r\nConnection: close\r\n\r\nrefused: out of memory\n"
unfolding head_text status_text digits
text_of_no_memory = refl
