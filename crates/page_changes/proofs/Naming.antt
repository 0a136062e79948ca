-- Rows of names and numbers, found among others.
use Rattle.std.proofs.Common.{◌≡◌, ℕ, ℤ, false, is_eq, bytes_eq, Option, None, List, [], ◌∷◌, ◌++◌, refl, ap, subst, ◌∙◌}
use Rattle.std.proofs.lemmas.Map.Text.{is_eq-slice_cmp}
use Rattle.sqlite_record.specs.declared.fields.Fields.{Fields}
use Rattle.sqlite_record.specs.Fields.{GivesField, fields_left}
use Rattle.sqlite_value.specs.declared.value.Value.TheVariants.{Int, Null, Text}
use Rattle.sqlite_value.specs.declared.value.ValueRef.{ValueRef}
use Rattle.sqlite_value.proofs.OrderLemmas.{value_cmp-Text}
use Rattle.sqlite_value.specs.Order.{Row, value_cmp}
use Rattle.page_changes.specs.Named.{AreOthers, IsOther, is_of_name, named}

module _ (row : Row) (id : ℤ) (read : List ℕ) (m : Option ℕ) (is : row ≡ named id read m) (name : List ℕ) (sought : Option ℕ) where
  -- a row of another name
  pub other_name : (read ≡ name → ⊥) → IsOther name sought row
  other_name differ = λ other n same wanted. differ (let here : read ≡ name = cc in here)

pub others_more : (name : List ℕ) (sought : Option ℕ) (rows : List Row) (row : Row) → AreOthers name sought rows → IsOther name sought row → AreOthers name sought (rows ++ row ∷ [])
others_more name sought [] row others other = (other, tt)
others_more name sought (first ∷ rows) row others other = (others.0, others_more name sought rows row others.1 other)

-- ---- rows whose first column is a name

-- texts as SQL compares them
pub same_text : (a b : List ℕ) → is_eq (value_cmp (Text a) (Text b)) ≡ bytes_eq a b
same_text a b = ap is_eq (value_cmp-Text a b) ∙ is_eq-slice_cmp a b

-- where no value is given, none is left
pub none_left : (old new : Fields) (given : Option ValueRef) → given ≡ None → GivesField old given new → fields_left old ≡ []
none_left old new given is steps = (subst (λ o. GivesField old o new) is steps).0

-- NULL is no text
null_is_no_text : (name : List ℕ) → is_eq (value_cmp Null (Text name)) ≡ false
unfolding value_cmp
null_is_no_text name = refl

pub no_name_left : (name : List ℕ) (id : ℤ) (row : Row) → row ≡ [] → is_of_name name (Int id ∷ row) ≡ false
no_name_left name id row is = ap (λ (r : Row). is_of_name name (Int id ∷ r)) is ∙ null_is_no_text name
