-- The kinds of lines, by the first case that fits.
use Rattle.std.specs.Prelude.{ℕ, Bool, ◌||◌, ◌&&◌, List, [], ◌∷◌, take_while, drop, nat_le, ◌==◌, if◌then◌else◌, codes, Option, Some, None, unwrap_or, Result, Ok, Err}
use Rattle.std.specs.List.{prefix_len}
use Rattle.std.specs.Map.{lookup}
use Rattle.std.specs.Str.{bytes_eq}
use Rattle.cg_text.specs.Bytes.{hash, star, plus, minus, colon, equals}
use Rattle.cg_text.specs.Numbers.{is_digit}
use Rattle.cg_text.specs.declared.faults.Fault.{Fault}
use Rattle.cg_text.specs.declared.faults.Fault.TheVariants.{UnknownLine}
use Rattle.cg_text.specs.declared.words.HeaderKey.{HeaderKey}
use Rattle.cg_text.specs.declared.words.HeaderKey.TheVariants.{Version, Positions, Events, Event, Summary, Totals, Thread, Other}
use Rattle.cg_text.specs.declared.words.NameWord.{NameWord}
use Rattle.cg_text.specs.declared.words.NameWord.TheVariants.{Ob, Fl, Fi, Fe, Fn, Cob, Cfi, Cfl, Cfn, Jfi, Jfn}

-- the kind of a line, with the bytes that it goes on with
pub data Kind : Type 0 where
  Nothing : Kind
  Cost : List ℕ → Kind
  Header : HeaderKey → List ℕ → Kind
  Name : NameWord → List ℕ → Kind
  Calls : List ℕ → Kind
  Jump : Kind

-- `A` to `Z`, `a` to `z`
abbrev pub is_letter : ℕ → Bool
is_letter b = (nat_le 65 b && nat_le b 90) || (nat_le 97 b && nat_le b 122)

-- a cost line begins with a digit, `+`, `-` or `*`
abbrev pub begins_cost : ℕ → Bool
begins_cost b = is_digit b || (b == plus || (b == minus || b == star))

abbrev pub known_keys : List (List ℕ × HeaderKey)
known_keys =
    (codes "version", Version) ∷ (codes "positions", Positions) ∷ (codes "events", Events)
    ∷ (codes "event", Event) ∷ (codes "summary", Summary) ∷ (codes "totals", Totals) ∷ (codes "thread", Thread) ∷ []

-- the key that a word is
abbrev pub key_of : List ℕ → HeaderKey
key_of word = unwrap_or (lookup (bytes_eq word) known_keys) Other

abbrev pub name_words : List (List ℕ × NameWord)
name_words =
    (codes "ob", Ob) ∷ (codes "fl", Fl) ∷ (codes "fi", Fi) ∷ (codes "fe", Fe) ∷ (codes "fn", Fn)
    ∷ (codes "cob", Cob) ∷ (codes "cfi", Cfi) ∷ (codes "cfl", Cfl) ∷ (codes "cfn", Cfn)
    ∷ (codes "jfi", Jfi) ∷ (codes "jfn", Jfn) ∷ []

abbrev pub name_line : Option NameWord → List ℕ → Result Kind Fault
name_line (Some word) value = Ok (Name word value)
name_line None value = Err UnknownLine

-- a word and `=`
abbrev pub assignment : List ℕ → List ℕ → Result Kind Fault
assignment word value =
    if bytes_eq word (codes "calls") then Ok (Calls value)
    else (if bytes_eq word (codes "jump") || bytes_eq word (codes "jcnd") then Ok Jump
    else name_line (lookup (bytes_eq word) name_words) value)

-- a line of letters and what follows them: `:` makes a header line, `=` one of a known word
abbrev pub worded : List ℕ → List ℕ → Result Kind Fault
worded [] rest = Err UnknownLine
worded (a ∷ word) [] = Err UnknownLine
worded (a ∷ word) (b ∷ value) =
    if b == colon then Ok (Header (key_of (a ∷ word)) value)
    else (if b == equals then assignment (a ∷ word) value else Err UnknownLine)

-- the kind of a line's text
unfoldable pub kind_of : List ℕ → Result Kind Fault
kind_of [] = Ok Nothing
kind_of (b ∷ bs) =
    if b == hash then Ok Nothing
    else (if begins_cost b then Ok (Cost (b ∷ bs))
    else worded (take_while is_letter (b ∷ bs)) (drop (prefix_len is_letter (b ∷ bs)) (b ∷ bs)))
