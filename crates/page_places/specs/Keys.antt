-- The keys of the lines that tables hold, as numbers, and when lines are new.
use Rattle.std.specs.Prelude.{◌≡◌, ◌≢◌, ℕ, ◌==◌, Bool, false, take, List, [], ◌∷◌}
use Rattle.std.specs.List.{AllByRecursion, list_any}
use Rattle.std.specs.Ordering.{is_eq}
use Rattle.sqlite_value.specs.Order.{Row, row_cmp}
use Rattle.plain_tables.specs.Lists.{IsAscending}
use Rattle.plain_tables.specs.Tables.{EventRow, DerivedRow, CoefRow, StoredCell, StoredCall, StoredStack, MemberRow}

-- the keys of lines differ from one another and from the keys that are there
pub record AreNew {X : Type 0} (key : X → List ℕ) (olds news : List X) : Type 0 where
  pub apart : AllByRecursion (λ x. AllByRecursion (λ y. key x ≢ key y) news) olds
  pub among : IsAscending (λ x y. key x ≢ key y) news

-- lines of one run, of which the others have none
pub record AreOfNewRun {X : Type 0} (run : X → ℕ) (n : ℕ) (olds news : List X) : Type 0 where
  pub of_run : AllByRecursion (λ x. run x ≡ n) news
  pub none : list_any (λ x. run x == n) olds ≡ false

-- lines whose keys differ from one another
abbrev pub Differ : {X : Type 0} → (X → List ℕ) → List X → Type 0
Differ key lines = IsAscending (λ x y. key x ≢ key y) lines

-- entries of which no two have the same first columns
abbrev pub same_head : ℕ → Row → Row → Bool
same_head count a b = is_eq (row_cmp (take count a) (take count b))

abbrev pub HeadsDiffer : ℕ → List Row → Type 0
HeadsDiffer count = IsAscending (λ a b. same_head count a b ≡ false)

abbrev pub member_key : MemberRow → List ℕ
member_key m = m.run ∷ m.group

abbrev pub event_key : EventRow → List ℕ
event_key e = e.run ∷ e.place ∷ []

abbrev pub event_name_key : EventRow → List ℕ
event_name_key e = e.run ∷ e.name

abbrev pub derived_key : DerivedRow → List ℕ
derived_key d = d.run ∷ d.place ∷ []

abbrev pub derived_name_key : DerivedRow → List ℕ
derived_name_key d = d.run ∷ d.name

abbrev pub coef_key : CoefRow → List ℕ
coef_key c = c.run ∷ c.place ∷ c.event ∷ []

abbrev pub cell_key : StoredCell → List ℕ
cell_key c = c.run ∷ c.function ∷ c.line ∷ c.file ∷ c.object ∷ c.thread ∷ c.event ∷ []

abbrev pub call_key : StoredCall → List ℕ
call_key a = a.run ∷ a.object ∷ a.file ∷ a.function ∷ a.line ∷ a.called_object ∷ a.called_file ∷ a.called_function ∷ a.part ∷ []

abbrev pub stack_key : StoredStack → List ℕ
stack_key s = s.run ∷ s.frames
