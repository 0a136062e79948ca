-- The columns of a record, read one after another.
use Rattle.std.proofs.Common.{◌≡◌, ℕ, ℤ, pos, false, [], ◌∷◌, Option, None, refl, ap, subst, ◌∙◌}
use Rattle.std.specs.Ordering.{is_eq}
use Rattle.sqlite_record.specs.declared.fields.Fields.{Fields}
use Rattle.sqlite_record.specs.Fields.{GivesField, fields_left}
use Rattle.sqlite_value.specs.declared.value.Value.{Value}
use Rattle.sqlite_value.specs.declared.value.ValueRef.{ValueRef}
use Rattle.sqlite_value.specs.declared.value.Value.TheVariants.{Int, Null}
use Rattle.sqlite_value.specs.Order.{Row, value_cmp}
use Rattle.page_changes.specs.Removed.{is_second}

-- where no value is given, none is left
pub none_left : (old new : Fields) (given : Option ValueRef) → given ≡ None → GivesField old given new → fields_left old ≡ []
none_left old new given is steps = (subst (λ o. GivesField old o new) is steps).0

-- a row of one column or none is of no run
-- NULL is no number
pub null_is_no_number : (n : ℕ) → is_eq (value_cmp Null (Int (pos n))) ≡ false
unfolding value_cmp
null_is_no_number n = refl

-- a row of one column or none is of no run
pub no_column : (n : ℕ) (id : ℤ) (row : Row) → row ≡ [] → is_second n (Int id ∷ row) ≡ false
no_column n id row is = ap (λ (r : Row). is_second n (Int id ∷ r)) is ∙ null_is_no_number n

pub one_column : (n : ℕ) (id : ℤ) (row rest : Row) (value : Value) → row ≡ value ∷ rest → rest ≡ [] → is_second n (Int id ∷ row) ≡ false
one_column n id row rest value is none = ap (λ (r : Row). is_second n (Int id ∷ r)) (is ∙ ap (λ (r : Row). value ∷ r) none) ∙ null_is_no_number n
