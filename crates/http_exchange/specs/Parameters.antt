-- The parameters of a target.
use Rattle.std.specs.Prelude.{ℕ, bytes_eq, if◌then◌else◌, List, [], ◌∷◌, get_or, set, codes, Option, Some, None, is_some}
use Rattle.http_exchange.specs.Texts.{front_of, rest_of, parts_after}
use Rattle.http_exchange.specs.declared.places.Place.{Place}
use Rattle.http_exchange.specs.declared.places.Place.TheVariants as at
use Rattle.http_exchange.specs.declared.names.Name.{Name}
use Rattle.http_exchange.specs.declared.names.Name.TheVariants as is

abbrev pub name_text : Name → List ℕ
name_text is.Label = codes "label"
name_text is.Event = codes "event"
name_text is.Function = codes "function"
name_text is.Object = codes "object"
name_text is.File = codes "file"
name_text is.Run = codes "run"
name_text is.Group = codes "group"
name_text is.LessRun = codes "less_run"
name_text is.LessGroup = codes "less_group"
name_text is.Limit = codes "limit"
name_text is.Threshold = codes "threshold"

abbrev pub index_of : Name → ℕ
index_of is.Label = 0
index_of is.Event = 1
index_of is.Function = 2
index_of is.Object = 3
index_of is.File = 4
index_of is.Run = 5
index_of is.Group = 6
index_of is.LessRun = 7
index_of is.LessGroup = 8
index_of is.Limit = 9
index_of is.Threshold = 10

-- the parameters that a place takes
abbrev pub names_of : Place → List Name
names_of at.CallgrindRuns = is.Label ∷ []
names_of at.FoldedRuns = is.Label ∷ []
names_of (at.Report by) = is.Event ∷ is.Run ∷ is.Group ∷ is.Limit ∷ is.Threshold ∷ []
names_of at.Inclusive = is.Event ∷ is.Run ∷ is.Group ∷ []
names_of (at.Calls of) = is.Event ∷ is.Function ∷ is.Object ∷ is.Run ∷ is.Group ∷ []
names_of at.Annotate = is.Event ∷ is.File ∷ is.Run ∷ is.Group ∷ []
names_of (at.Subtract by) = is.Event ∷ is.Run ∷ is.Group ∷ is.LessRun ∷ is.LessGroup ∷ []
names_of at.Verify = is.Run ∷ is.Group ∷ []
names_of at.Csv = is.Run ∷ is.Group ∷ []
names_of at.Folded = is.Run ∷ is.Group ∷ []
names_of place = []

-- the name of this text, in just these letters
abbrev pub name_in : List Name → List ℕ → Option Name
name_in [] text = None
name_in (one ∷ more) text = if bytes_eq (name_text one) text then Some one else name_in more text

-- what was given: for each name its value as it stands in the target, in the order of the names
abbrev pub Given : Type 0
Given = List (Option (List ℕ))

abbrev pub nothing_given : Given
nothing_given = None ∷ None ∷ None ∷ None ∷ None ∷ None ∷ None ∷ None ∷ None ∷ None ∷ None ∷ []

abbrev pub value_of : Name → Given → Option (List ℕ)
value_of name given = get_or given (index_of name) None

-- one more value: of a name that is taken and was not given
abbrev pub with_value : Option Name → Option (List ℕ) → Given → Option Given
with_value (Some name) (Some value) given = if is_some (value_of name given) then None else Some (set given (index_of name) (Some value))
with_value (Some name) None given = None
with_value None value given = None

-- one more part: a name, the first `=` and a value
abbrev pub with_part : List Name → List ℕ → Given → Option Given
with_part names part given = with_value (name_in names (front_of 61 part)) (rest_of 61 part) given

abbrev pub with_parts : List Name → List (List ℕ) → Option Given → Option Given
with_parts names [] given = given
with_parts names (part ∷ more) None = None
with_parts names (part ∷ more) (Some given) = with_parts names more (with_part names part given)

-- what follows a question mark, unless it is nothing
abbrev pub unless_empty : Option (List ℕ) → Option (List ℕ)
unless_empty None = None
unless_empty (Some []) = None
unless_empty (Some (b ∷ query)) = Some (b ∷ query)

-- what is given by all that follows a question mark, its parts between `&`; none where one of them is malformed
abbrev pub given_by : List Name → Option (List ℕ) → Option Given
given_by names query = with_parts names (parts_after 38 (unless_empty query)) (Some nothing_given)
