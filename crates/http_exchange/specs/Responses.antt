-- The bytes of a response.
use Rattle.std.specs.Prelude.{ℕ, List, [], ◌∷◌, ◌++◌, length, codes, unwrap_or}
use Rattle.std.specs.Fmt.{decimal}
use Rattle.http.specs.StatusCode.{code_digits, reason_phrase}

-- the phrase of a code, none of one that has no name
abbrev pub phrase_of : ℕ → List ℕ
phrase_of code = unwrap_or (reason_phrase code) []

-- the code and its phrase
unfoldable pub status_text : ℕ → List ℕ
status_text code = code_digits code ++ (codes " " ++ phrase_of code)

-- the field Allow, for a text of its methods; no field for an empty text
abbrev pub allow_line : List ℕ → List ℕ
allow_line [] = []
allow_line (b ∷ text) = codes "Allow: " ++ ((b ∷ text) ++ codes "\r\n")

-- the head of a response, its empty line with it, for a body of so many bytes
unfoldable pub head_text : ℕ → List ℕ → ℕ → List ℕ
head_text status allow size =
    codes "HTTP/1.1 " ++ (status_text status
    ++ (codes "\r\nContent-Type: text/plain\r\nContent-Length: " ++ (decimal size
    ++ (codes "\r\n" ++ (allow_line allow ++ codes "Connection: close\r\n\r\n")))))

-- a response
abbrev pub response_text : ℕ → List ℕ → List ℕ → List ℕ
response_text status allow body = head_text status allow (length body) ++ body
