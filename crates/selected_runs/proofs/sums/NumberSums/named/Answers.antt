use Rattle.std.proofs.Common.{◌≡◌, ℕ, List, [], fold, map, Result, Ok, Err, ap, ◌∙◌}
use Rattle.std.specs.List.{AllByRecursion}
use Rattle.std.specs.Result.{IfOk}
use Rattle.cost_rows.specs.KeySums.{Sums, sums_by, with_row}
use Rattle.plain_tables.specs.Tables.{NameRow}
use Rattle.run_stores.specs.Book.{IsHeld}
use Rattle.run_stores.specs.Names.{named_cell}
use Rattle.selected_runs.specs.Named.{AreOf}
use Rattle.selected_runs.specs.Sums.{SumsByNumber, number_rows, numbers_told}
use Rattle.selected_runs.specs.declared.parts.NumberPart.{NumberPart}
use Rattle.selected_runs.proofs.NamedLemmas.{merged_by_all}
use Rattle.selected_runs.proofs.sums.NumberSums.named.Goals as goal

if_both : {X E : Type 0} (r : Result X E) (P Q R : X → Type 0) → ((x : X) → P x → Q x → R x) → IfOk r P → IfOk r Q → IfOk r R
if_both (Ok x) P Q R both first second = both x first second
if_both (Err e) P Q R both first second = tt

pub returns-clause-sums : goal.returns-clause-sums
returns-clause-sums g c =
    let some : List NameRow = g.N.NameTable.name_rows c.args.names.now in
    let key = c.self.inside.key in
    let sums : List (NumberPart × ℕ) = c.self.inside.sums in
    if_both c.merge_named.result
    (λ merged. merged ≡ fold with_row (record { key = key; sums = [] }) (map (named_cell some) (number_rows sums)))
    (λ _. AllByRecursion (IsHeld some) (numbers_told key sums))
    (λ merged. (all : List NameRow) → AreOf all some → merged.sums ≡ sums_by c.args.self.now.key (map (named_cell all) (number_rows c.args.self.now.sums)))
    (λ merged is held all of.
    ap (λ (s : Sums). s.sums) is
    ∙ merged_by_all all some of key sums held
    ∙ ap (λ (s : SumsByNumber). sums_by s.key (map (named_cell all) (number_rows s.sums))) c.self.view_is)
    c.merge_named.ensures.sums c.merge_named.ensures.held
