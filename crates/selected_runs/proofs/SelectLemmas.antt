-- The numbers that tables tell of a selection are those of its files.
use Rattle.std.proofs.Common.{◌≡◌, ◌⊎◌, ℕ, Bool, true, false, not, if◌then◌else◌, List, [], ◌∷◌, map, filter, Result, Ok, Err, inl, inr, refl, sym, ap, ap₂, subst, ◌∙◌, arith}
use Rattle.plain_tables.proofs.Lists.{filter_same_on}
use Rattle.plain_tables.specs.Changes as tables
use Rattle.plain_tables.specs.Labels.{IsGroupName}
use Rattle.plain_tables.specs.Tables.{Tables, RunRow}
use Rattle.run_stores.specs.Book.{run_held}
use Rattle.run_stores.specs.Lookups.{members_in_tables, numbers_in_tables}
use Rattle.histories.specs.History.{History, File, held, is_member}
use Rattle.histories.specs.Legal.{has_group, has_run, when}
use Rattle.histories.specs.Selections.{numbers_of}
use Rattle.histories.specs.Representation.{AreBooksOf, TablesRepresent}
use Rattle.histories.specs.declared.answers.Answer.TheVariants.{Refused}
use Rattle.histories.specs.declared.answers.Refusal.{Refusal}
use Rattle.histories.specs.declared.answers.Refusal.TheVariants.{NoSuchGroup, NoSuchRun}
use Rattle.requests.specs.Plain.{Selection}
use Rattle.requests.specs.declared.selections.Selection.TheVariants as selections
use Rattle.histories.proofs.Selections.{are_selected}
use Rattle.histories.proofs.Tells.{tells_group, tells_run}
use Rattle.histories.proofs.Settled.{no_group_named}
use Rattle.selected_runs.specs.Selected.{AreSelected, AreSelectedIn, IsSought}

numbers_of_books : (t : Tables) (files : List File) (lines : List RunRow) → AreBooksOf files (map (run_held t) lines) → map (λ (r : RunRow). r.number) lines ≡ numbers_of files
numbers_of_books t [] [] all = refl
numbers_of_books t [] (r ∷ lines) all = absurd all
numbers_of_books t (f ∷ files) [] all = absurd all
numbers_of_books t (f ∷ files) (r ∷ lines) all = ap₂ ◌∷◌ all.0.number (numbers_of_books t files lines all.1)

numbers_held : (h : History) (t : Tables) → TablesRepresent h t → numbers_in_tables t ≡ numbers_of (held h)
numbers_held h t represent = numbers_of_books t (held h) t.runs represent.runs

all_selected : (h : History) (t : Tables) (numbers : List ℕ) → TablesRepresent h t → numbers ≡ numbers_in_tables t → AreSelected h selections.All (Ok numbers)
all_selected h t numbers represent is = (refl, is ∙ numbers_held h t represent ∙ sym (ap numbers_of (are_selected h represent.legal).all))

-- ---- one run

run_missing : (h : History) (t : Tables) (n : ℕ) → TablesRepresent h t → tables.has_run t n ≡ false → AreSelected h (selections.Run n) (Err NoSuchRun)
run_missing h t n represent none = ap (λ b. when (not b) (Refused NoSuchRun)) (sym (tells_run h t represent n) ∙ none)

run_selected : (h : History) (t : Tables) (n : ℕ) → TablesRepresent h t → tables.has_run t n ≡ true → AreSelected h (selections.Run n) (Ok (n ∷ []))
run_selected h t n represent some =
    let there : has_run h n ≡ true = sym (tells_run h t represent n) ∙ some in
    let one = (are_selected h represent.legal).one n there in
    (ap (λ b. when (not b) (Refused NoSuchRun)) there, ap (λ m. m ∷ []) (sym one.2) ∙ sym (ap numbers_of one.1))

-- ---- a group

no_empty_name : IsGroupName [] → ⊥
no_empty_name named = omega (arith, named.0)

-- the name that represents bytes is theirs, where a group has it
pub group_there : (h : History) (t : Tables) (name text : List ℕ) → TablesRepresent h t → (IsGroupName name → text ≡ name) → (text ≡ name) ⊎ (text ≡ []) → tables.has_group t text ≡ true → text ≡ name
group_there h t name text represent named (inl same) some = same
group_there h t name text represent named (inr empty) some =
    let none : has_group h [] ≡ false = no_group_named h [] represent.legal no_empty_name in
    let there : has_group h [] ≡ true = sym (tells_group h t represent []) ∙ ap (tables.has_group t) (sym empty) ∙ some in
    absurd (let b : true ≡ false = sym there ∙ none in cc)

group_selected : (h : History) (t : Tables) (name text : List ℕ) (numbers : List ℕ) → TablesRepresent h t → (IsGroupName name → text ≡ name) → (text ≡ name) ⊎ (text ≡ []) → tables.has_group t text ≡ true
    → numbers ≡ members_in_tables text t → AreSelected h (selections.Group name) (Ok numbers)
group_selected h t name text numbers represent named other some is =
    let same = group_there h t name text represent named other some in
    let there : has_group h name ≡ true = sym (tells_group h t represent name) ∙ ap (tables.has_group t) (sym same) ∙ some in
    let members : members_in_tables text t ≡ filter (is_member h name) (numbers_of (held h)) =
    ap (λ x. members_in_tables x t) same ∙ filter_same_on (tables.has_member t name) (is_member h name) (numbers_in_tables t) (λ n is. represent.members name n) ∙ ap (filter (is_member h name)) (numbers_held h t represent) in
    (ap (λ b. when (not b) (Refused NoSuchGroup)) there, is ∙ members ∙ sym ((are_selected h represent.legal).group name))

missing_group : (h : History) (t : Tables) (name text : List ℕ) → TablesRepresent h t → (IsGroupName name → text ≡ name) → (text ≡ name) ⊎ (text ≡ []) → tables.has_group t text ≡ false → has_group h name ≡ false
missing_group h t name text represent named (inl same) none = sym (tells_group h t represent name) ∙ ap (tables.has_group t) (sym same) ∙ none
missing_group h t name text represent named (inr empty) none =
    no_group_named h name represent.legal (λ form. no_empty_name (subst IsGroupName (sym (named form) ∙ empty) form))

group_missing : (h : History) (t : Tables) (name text : List ℕ) → TablesRepresent h t → (IsGroupName name → text ≡ name) → (text ≡ name) ⊎ (text ≡ []) → tables.has_group t text ≡ false
    → AreSelected h (selections.Group name) (Err NoSuchGroup)
group_missing h t name text represent named other none = ap (λ b. when (not b) (Refused NoSuchGroup)) (missing_group h t name text represent named other none)

-- ---- what the tables tell of a selection

run_told : (h : History) (t : Tables) (n : ℕ) (b : Bool) (found : Result (List ℕ) Refusal) → TablesRepresent h t → tables.has_run t n ≡ b → found ≡ (if b then Ok (n ∷ []) else Err NoSuchRun) → AreSelected h (selections.Run n) found
run_told h t n true found represent is same = subst (AreSelected h (selections.Run n)) (sym same) (run_selected h t n represent is)
run_told h t n false found represent is same = subst (AreSelected h (selections.Run n)) (sym same) (run_missing h t n represent is)

group_told : (h : History) (t : Tables) (name text : List ℕ) (b : Bool) (found : Result (List ℕ) Refusal) → TablesRepresent h t → IsSought name text → tables.has_group t text ≡ b
    → found ≡ (if b then Ok (members_in_tables text t) else Err NoSuchGroup) → AreSelected h (selections.Group name) found
group_told h t name text true found represent sought is same =
    subst (AreSelected h (selections.Group name)) (sym same) (group_selected h t name text (members_in_tables text t) represent sought.named sought.other is refl)
group_told h t name text false found represent sought is same =
    subst (AreSelected h (selections.Group name)) (sym same) (group_missing h t name text represent sought.named sought.other is)

pub selected_told : (h : History) (t : Tables) (s : Selection) (found : Result (List ℕ) Refusal) → TablesRepresent h t → AreSelectedIn t s found → AreSelected h s found
selected_told h t selections.All found represent is = subst (AreSelected h selections.All) (sym is) (all_selected h t (numbers_in_tables t) represent refl)
selected_told h t (selections.Run n) found represent is = run_told h t n (tables.has_run t n) found represent refl is
selected_told h t (selections.Group name) found represent is = group_told h t name is.0 (tables.has_group t is.0) found represent is.1 refl is.2
