-- The definitions, computed on examples: the command of each route, and the response of each answer.
use Rattle.std.proofs.Common.{◌≡◌, ℕ, List, [], ◌∷◌, Option, Some, None, Result, Ok, Err, refl, codes}
use Rattle.std.specs.Fmt.{digits}
use Rattle.matchit.proofs.OnLiterals.{matchit_on_literals}
use Rattle.httparse.specs.Grammar.{Field, crlf, trim_ows}
use Rattle.percent_encoding.specs.Percent.{percent_decode}
use Rattle.cg_text.specs.declared.faults.Fault.TheVariants as faults
use Rattle.profile_records.specs.declared.kinds.Kind.TheVariants as kind
use Rattle.cost_rows.specs.declared.keys.Key.TheVariants as key
use Rattle.byte_io.specs.Outcomes.{Outcome, Gave}
use Rattle.histories.specs.Formats.{today}
use Rattle.histories.specs.History as history
use Rattle.histories.specs.History.{Command}
use Rattle.histories.specs.declared.answers.Answer.{Answer}
use Rattle.histories.specs.declared.answers.Answer.TheVariants as answers
use Rattle.histories.specs.declared.answers.Excess.TheVariants as excesses
use Rattle.requests.specs.declared.queries.Query.TheVariants as queries
use Rattle.histories.specs.declared.answers.Refusal.{Refusal}
use Rattle.histories.specs.declared.answers.Refusal.TheVariants as reasons
use Rattle.requests.specs.declared.selections.Selection.TheVariants as selections
use Rattle.warehouse.specs.Answers.{line_text}
use Rattle.http_exchange.specs.Requests.{request_of}
use Rattle.http_exchange.specs.Responses.{head_text, response_text, status_text}
use Rattle.http_exchange.specs.Routes.{routes}
use Rattle.http_exchange.specs.declared.failings.Failing.{Failing}
use Rattle.http_exchange.specs.declared.checks.Request.{Request}
use Rattle.prof_http.specs.Replies.{status_of}
use Rattle.histories.specs.Requests.{command_read}

-- ---- the command of a request

-- the reads of a body of six bytes, and the field that says its length
abbrev body : List Outcome
body = Gave (codes "a;b 3\n") ∷ Gave [] ∷ []

abbrev six : List Field
six = record { name = codes "Content-Length"; raw = codes "6"; end = crlf } ∷ []

-- the command that is run, over that body, and none where a check fails
abbrev said_to : Result Request Failing → Option Command
said_to (Ok request) = Some (command_read request.asked body)
said_to (Err failing) = None

abbrev Says : List ℕ → List ℕ → List Field → Command → Type 0
Says method target fields command = said_to (request_of 100 (record { blank = []; method = method; target = target; minor = 1; line_end = crlf; fields = fields; last = crlf })) ≡ Some command

says_import_callgrind : Says (codes "POST") (codes "/runs/callgrind?label=build+7") six (history.Import (today kind.Callgrind) (codes "build+7") body)
unfolding request_of routes matchit_on_literals percent_decode trim_ows
says_import_callgrind = refl

says_import_folded : Says (codes "POST") (codes "/runs/folded?label=t") six (history.Import (today kind.Folded) (codes "t") body)
unfolding request_of routes matchit_on_literals percent_decode trim_ows
says_import_folded = refl

says_runs : Says (codes "GET") (codes "/runs") [] (history.Ask queries.Runs)
unfolding request_of routes matchit_on_literals percent_decode
says_runs = refl

says_groups : Says (codes "GET") (codes "/groups") [] (history.Ask queries.Groups)
unfolding request_of routes matchit_on_literals percent_decode
says_groups = refl

says_remove : Says (codes "DELETE") (codes "/runs/3") [] (history.Remove 3)
unfolding request_of routes matchit_on_literals percent_decode
says_remove = refl

says_make_group : Says (codes "PUT") (codes "/groups/g") [] (history.MakeGroup (codes "g"))
unfolding request_of routes matchit_on_literals percent_decode
says_make_group = refl

says_drop_group : Says (codes "DELETE") (codes "/groups/g") [] (history.DropGroup (codes "g"))
unfolding request_of routes matchit_on_literals percent_decode
says_drop_group = refl

says_join : Says (codes "PUT") (codes "/groups/g/runs/3") [] (history.Join (codes "g") 3)
unfolding request_of routes matchit_on_literals percent_decode
says_join = refl

says_leave : Says (codes "DELETE") (codes "/groups/g/runs/3") [] (history.Leave (codes "g") 3)
unfolding request_of routes matchit_on_literals percent_decode
says_leave = refl

says_set_baseline : Says (codes "PUT") (codes "/groups/g/baseline/3") [] (history.SetBaseline (codes "g") 3)
unfolding request_of routes matchit_on_literals percent_decode
says_set_baseline = refl

says_by : Says (codes "GET") (codes "/reports/line?event=Ir&run=2&limit=4&threshold=90") [] (history.Ask (queries.By (selections.Run 2) key.Line (codes "Ir") (record { limit = Some 4; threshold = 90 })))
unfolding request_of routes matchit_on_literals percent_decode
says_by = refl

says_inclusive : Says (codes "GET") (codes "/inclusive?event=Ir&group=g") [] (history.Ask (queries.Inclusive (selections.Group (codes "g")) (codes "Ir")))
unfolding request_of routes matchit_on_literals percent_decode
says_inclusive = refl

says_callers : Says (codes "GET") (codes "/callers?event=Ir&object=o&function=f") [] (history.Ask (queries.Callers selections.All (codes "Ir") (codes "o") (codes "f")))
unfolding request_of routes matchit_on_literals percent_decode
says_callers = refl

says_callees : Says (codes "GET") (codes "/callees?event=Ir&object=o&function=f") [] (history.Ask (queries.Callees selections.All (codes "Ir") (codes "o") (codes "f")))
unfolding request_of routes matchit_on_literals percent_decode
says_callees = refl

says_annotate : Says (codes "POST") (codes "/annotate?event=Ir&file=a.c&run=2") six (history.Annotate (selections.Run 2) (codes "Ir") (codes "a.c") body)
unfolding request_of routes matchit_on_literals percent_decode trim_ows
says_annotate = refl

says_subtract : Says (codes "GET") (codes "/subtract/function?event=Ir&run=2&less_run=1") [] (history.Ask (queries.Subtract (selections.Run 2) (Some (selections.Run 1)) key.Function (codes "Ir")))
unfolding request_of routes matchit_on_literals percent_decode
says_subtract = refl

says_subtract_baseline : Says (codes "GET") (codes "/subtract/object?event=Ir&group=g") [] (history.Ask (queries.Subtract (selections.Group (codes "g")) None key.Object (codes "Ir")))
unfolding request_of routes matchit_on_literals percent_decode
says_subtract_baseline = refl

says_verify : Says (codes "GET") (codes "/verify") [] (history.Ask (queries.Verify selections.All))
unfolding request_of routes matchit_on_literals percent_decode
says_verify = refl

says_csv : Says (codes "GET") (codes "/csv?run=2") [] (history.Ask (queries.Csv (selections.Run 2)))
unfolding request_of routes matchit_on_literals percent_decode
says_csv = refl

says_folded : Says (codes "GET") (codes "/folded?group=g") [] (history.Ask (queries.Folded (selections.Group (codes "g"))))
unfolding request_of routes matchit_on_literals percent_decode
says_folded = refl

-- ---- the response of an answer

abbrev answer_text : Answer → List ℕ
answer_text answer = response_text (status_of answer) [] (line_text answer)

abbrev refusal_text : Refusal → List ℕ
refusal_text refusal = answer_text (answers.Refused refusal)

text_of_run : answer_text (answers.Run 12) ≡ codes "HTTP/1.1 201 Created\r\nContent-Type: text/plain\r\nContent-Length: 7\r\nConnection: close\r\n\r\nrun 12\n"
unfolding head_text status_text digits
text_of_run = refl

text_of_held : answer_text (answers.Held 2) ≡ codes "HTTP/1.1 200 OK\r\nContent-Type: text/plain\r\nContent-Length: 7\r\nConnection: close\r\n\r\nheld 2\n"
unfolding head_text status_text digits
text_of_held = refl

text_of_done : answer_text answers.Done ≡ codes "HTTP/1.1 200 OK\r\nContent-Type: text/plain\r\nContent-Length: 5\r\nConnection: close\r\n\r\ndone\n"
unfolding head_text status_text digits
text_of_done = refl

text_of_text : answer_text (answers.Text (codes "0 0 rest\n")) ≡ codes "HTTP/1.1 200 OK\r\nContent-Type: text/plain\r\nContent-Length: 9\r\nConnection: close\r\n\r\n0 0 rest\n"
unfolding head_text status_text digits
text_of_text = refl

text_of_empty_text : answer_text (answers.Text []) ≡ codes "HTTP/1.1 200 OK\r\nContent-Type: text/plain\r\nContent-Length: 0\r\nConnection: close\r\n\r\n"
unfolding head_text status_text digits
text_of_empty_text = refl

text_of_no_memory : refusal_text reasons.Memory ≡ codes "HTTP/1.1 507 Insufficient Storage\r\nContent-Type: text/plain\r\nContent-Length: 23\r\nConnection: close\r\n\r\nrefused: out of memory\n"
unfolding head_text status_text digits
text_of_no_memory = refl

text_of_store_failure : refusal_text reasons.Store ≡ codes "HTTP/1.1 500 Internal Server Error\r\nContent-Type: text/plain\r\nContent-Length: 22\r\nConnection: close\r\n\r\nrefused: store failed\n"
unfolding head_text status_text digits
text_of_store_failure = refl

text_of_read_fault : refusal_text reasons.ReadFault ≡ codes "HTTP/1.1 400 Bad Request\r\nContent-Type: text/plain\r\nContent-Length: 21\r\nConnection: close\r\n\r\nrefused: read failed\n"
unfolding head_text status_text digits
text_of_read_fault = refl

text_of_too_long : refusal_text reasons.TooLong ≡ codes "HTTP/1.1 413 Payload Too Large\r\nContent-Type: text/plain\r\nContent-Length: 18\r\nConnection: close\r\n\r\nrefused: too long\n"
unfolding head_text status_text digits
text_of_too_long = refl

text_of_bad_file : refusal_text (reasons.File faults.FoldedLine 2) ≡ codes "HTTP/1.1 422 Unprocessable Entity\r\nContent-Type: text/plain\r\nContent-Length: 33\r\nConnection: close\r\n\r\nrefused: line 2: F19 folded line\n"
unfolding head_text status_text digits
text_of_bad_file = refl

text_of_overflow : refusal_text (reasons.Overflow (excesses.SelfCost (codes "Ir"))) ≡ codes "HTTP/1.1 422 Unprocessable Entity\r\nContent-Type: text/plain\r\nContent-Length: 34\r\nConnection: close\r\n\r\nrefused: overflow of self cost Ir\n"
unfolding head_text status_text digits
text_of_overflow = refl

text_of_full : refusal_text reasons.Full ≡ codes "HTTP/1.1 409 Conflict\r\nContent-Type: text/plain\r\nContent-Length: 14\r\nConnection: close\r\n\r\nrefused: full\n"
unfolding head_text status_text digits
text_of_full = refl

text_of_numbers_spent : refusal_text reasons.NumbersSpent ≡ codes "HTTP/1.1 409 Conflict\r\nContent-Type: text/plain\r\nContent-Length: 27\r\nConnection: close\r\n\r\nrefused: run numbers spent\n"
unfolding head_text status_text digits
text_of_numbers_spent = refl

text_of_no_run : refusal_text reasons.NoSuchRun ≡ codes "HTTP/1.1 404 Not Found\r\nContent-Type: text/plain\r\nContent-Length: 21\r\nConnection: close\r\n\r\nrefused: no such run\n"
unfolding head_text status_text digits
text_of_no_run = refl

text_of_no_group : refusal_text reasons.NoSuchGroup ≡ codes "HTTP/1.1 404 Not Found\r\nContent-Type: text/plain\r\nContent-Length: 23\r\nConnection: close\r\n\r\nrefused: no such group\n"
unfolding head_text status_text digits
text_of_no_group = refl

text_of_group_taken : refusal_text reasons.GroupTaken ≡ codes "HTTP/1.1 409 Conflict\r\nContent-Type: text/plain\r\nContent-Length: 22\r\nConnection: close\r\n\r\nrefused: group exists\n"
unfolding head_text status_text digits
text_of_group_taken = refl

text_of_bad_name : refusal_text reasons.BadName ≡ codes "HTTP/1.1 400 Bad Request\r\nContent-Type: text/plain\r\nContent-Length: 18\r\nConnection: close\r\n\r\nrefused: bad name\n"
unfolding head_text status_text digits
text_of_bad_name = refl

text_of_no_event : refusal_text reasons.NoSuchEvent ≡ codes "HTTP/1.1 404 Not Found\r\nContent-Type: text/plain\r\nContent-Length: 23\r\nConnection: close\r\n\r\nrefused: no such event\n"
unfolding head_text status_text digits
text_of_no_event = refl

text_of_no_name : refusal_text reasons.NoSuchName ≡ codes "HTTP/1.1 404 Not Found\r\nContent-Type: text/plain\r\nContent-Length: 22\r\nConnection: close\r\n\r\nrefused: no such name\n"
unfolding head_text status_text digits
text_of_no_name = refl

text_of_no_baseline : refusal_text reasons.NoBaseline ≡ codes "HTTP/1.1 404 Not Found\r\nContent-Type: text/plain\r\nContent-Length: 21\r\nConnection: close\r\n\r\nrefused: no baseline\n"
unfolding head_text status_text digits
text_of_no_baseline = refl
