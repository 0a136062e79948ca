-- No phrase of a status is longer than 31 bytes.
use Rattle.std.proofs.Common.{ℕ, ◌≤◌, Bool, true, false, if◌then◌else◌, ◌==◌, List, [], length, codes, arith}
use Rattle.std.specs.Prelude.{Option, Some, None, unwrap_or}
use Rattle.http_exchange.specs.Responses.{phrase_of}

abbrev IsShort : Option (List ℕ) → Type 0
IsShort phrase = length (unwrap_or phrase []) ≤ 32

or_else : (b : Bool) (text : List ℕ) (rest : Option (List ℕ)) → length text ≤ 32 → IsShort rest → IsShort (if b then Some text else rest)
or_else true text rest short others = short
or_else false text rest short others = others

pub phrases_are_short : (n : ℕ) → length (phrase_of n) ≤ 32
phrases_are_short n =
    or_else (n == 100) (codes "Continue") _ (omega arith) (
    or_else (n == 101) (codes "Switching Protocols") _ (omega arith) (
    or_else (n == 102) (codes "Processing") _ (omega arith) (
    or_else (n == 103) (codes "Early Hints") _ (omega arith) (
    or_else (n == 200) (codes "OK") _ (omega arith) (
    or_else (n == 201) (codes "Created") _ (omega arith) (
    or_else (n == 202) (codes "Accepted") _ (omega arith) (
    or_else (n == 203) (codes "Non Authoritative Information") _ (omega arith) (
    or_else (n == 204) (codes "No Content") _ (omega arith) (
    or_else (n == 205) (codes "Reset Content") _ (omega arith) (
    or_else (n == 206) (codes "Partial Content") _ (omega arith) (
    or_else (n == 207) (codes "Multi-Status") _ (omega arith) (
    or_else (n == 208) (codes "Already Reported") _ (omega arith) (
    or_else (n == 226) (codes "IM Used") _ (omega arith) (
    or_else (n == 300) (codes "Multiple Choices") _ (omega arith) (
    or_else (n == 301) (codes "Moved Permanently") _ (omega arith) (
    or_else (n == 302) (codes "Found") _ (omega arith) (
    or_else (n == 303) (codes "See Other") _ (omega arith) (
    or_else (n == 304) (codes "Not Modified") _ (omega arith) (
    or_else (n == 305) (codes "Use Proxy") _ (omega arith) (
    or_else (n == 307) (codes "Temporary Redirect") _ (omega arith) (
    or_else (n == 308) (codes "Permanent Redirect") _ (omega arith) (
    or_else (n == 400) (codes "Bad Request") _ (omega arith) (
    or_else (n == 401) (codes "Unauthorized") _ (omega arith) (
    or_else (n == 402) (codes "Payment Required") _ (omega arith) (
    or_else (n == 403) (codes "Forbidden") _ (omega arith) (
    or_else (n == 404) (codes "Not Found") _ (omega arith) (
    or_else (n == 405) (codes "Method Not Allowed") _ (omega arith) (
    or_else (n == 406) (codes "Not Acceptable") _ (omega arith) (
    or_else (n == 407) (codes "Proxy Authentication Required") _ (omega arith) (
    or_else (n == 408) (codes "Request Timeout") _ (omega arith) (
    or_else (n == 409) (codes "Conflict") _ (omega arith) (
    or_else (n == 410) (codes "Gone") _ (omega arith) (
    or_else (n == 411) (codes "Length Required") _ (omega arith) (
    or_else (n == 412) (codes "Precondition Failed") _ (omega arith) (
    or_else (n == 413) (codes "Payload Too Large") _ (omega arith) (
    or_else (n == 414) (codes "URI Too Long") _ (omega arith) (
    or_else (n == 415) (codes "Unsupported Media Type") _ (omega arith) (
    or_else (n == 416) (codes "Range Not Satisfiable") _ (omega arith) (
    or_else (n == 417) (codes "Expectation Failed") _ (omega arith) (
    or_else (n == 418) (codes "I'm a teapot") _ (omega arith) (
    or_else (n == 421) (codes "Misdirected Request") _ (omega arith) (
    or_else (n == 422) (codes "Unprocessable Entity") _ (omega arith) (
    or_else (n == 423) (codes "Locked") _ (omega arith) (
    or_else (n == 424) (codes "Failed Dependency") _ (omega arith) (
    or_else (n == 425) (codes "Too Early") _ (omega arith) (
    or_else (n == 426) (codes "Upgrade Required") _ (omega arith) (
    or_else (n == 428) (codes "Precondition Required") _ (omega arith) (
    or_else (n == 429) (codes "Too Many Requests") _ (omega arith) (
    or_else (n == 431) (codes "Request Header Fields Too Large") _ (omega arith) (
    or_else (n == 451) (codes "Unavailable For Legal Reasons") _ (omega arith) (
    or_else (n == 500) (codes "Internal Server Error") _ (omega arith) (
    or_else (n == 501) (codes "Not Implemented") _ (omega arith) (
    or_else (n == 502) (codes "Bad Gateway") _ (omega arith) (
    or_else (n == 503) (codes "Service Unavailable") _ (omega arith) (
    or_else (n == 504) (codes "Gateway Timeout") _ (omega arith) (
    or_else (n == 505) (codes "HTTP Version Not Supported") _ (omega arith) (
    or_else (n == 506) (codes "Variant Also Negotiates") _ (omega arith) (
    or_else (n == 507) (codes "Insufficient Storage") _ (omega arith) (
    or_else (n == 508) (codes "Loop Detected") _ (omega arith) (
    or_else (n == 510) (codes "Not Extended") _ (omega arith) (
    or_else (n == 511) (codes "Network Authentication Required") _ (omega arith) (
    omega arith))))))))))))))))))))))))))))))))))))))))))))))))))))))))))))))
