use Rattle.std.proofs.Common.{◌≡◌, ◌<◌, ◌^◌, List, [], ◌∷◌, ℕ, Some, sym, ap, ◌∙◌, subst, arith}
use Rattle.profile_records.specs.Columns.{added}
use Rattle.cost_rows.specs.Content.{place_in, stacks_with}
use Rattle.cost_rows.specs.Marks.{HaveNames}
use Rattle.cost_rows.specs.Merging.{merge}
use Rattle.cost_rows.specs.Places.{cell_cmp}
use Rattle.cost_rows.specs.Slots.{Slotted, sums_in}
use Rattle.cost_rows.specs.StackCounts.{slot_of_stack}
use Rattle.cost_rows.specs.Totals.{AreWithin}
use Rattle.cost_rows.specs.Trimmed.{trimmed}
use Rattle.cost_rows.specs.declared.places.CellPlace.{CellPlace}
use Rattle.cost_rows.proofs.MarksLemmas.{have-more}
use Rattle.cost_rows.proofs.StackCountsLemmas.{forgotten_again}
use Rattle.cost_rows.proofs.TotalsLemmas.{cells-small, within-stack, content-same}
use Rattle.cost_rows.proofs.counted_stacks.FileRowsStackSink.stack.Goals as goal
use Rattle.cost_rows.proofs.counted_stacks.FileRowsStackSink.stack.Goals.{in-Some+in_ok-merge_leaf-in-Some, in-None+in_ok-put-in-None+in_default}

pub merge_leaf-requires : goal.merge_leaf-requires
merge_leaf-requires c =
    let few : c.args.self.now.last < 2 ^ 64 = omega arith in
    cells-small c.args.self.now.cells c.args.self.now.last few c.args.self.now.within.cells_fit

pub merge_leaf-requires-in-None : goal.merge_leaf-requires-in-None
merge_leaf-requires-in-None c =
    let few : c.args.self.now.last < 2 ^ 64 = omega arith in
    cells-small c.args.self.now.cells c.args.self.now.last few c.args.self.now.within.cells_fit

pub invariant_of-self-in-Err : goal.invariant_of-self-in-Err
invariant_of-self-in-Err c =
    let old = c.args.self.now in
    let back = forgotten_again old.stacks c.find.new.self c.put.new.self c.forget.new.self c.args.stack.now c.args.count c.in_ok-slot.field-0 c.in_ok-slot.ensures.slot c.in-None.is c.in_ok-slot.ensures.same c.in_ok-put-in-None.ensures.ok c.forget.ensures in
    let P : List (CellPlace × List ℕ) → Type 0 = λ cells. AreWithin cells old.calls (sums_in c.forget.new.self) old.last in
    let Q : List (List ℕ × ℕ) → Type 0 = λ stacks. AreWithin old.cells old.calls stacks old.last in
    record {
      within = subst P (sym c.in-Err.ensures.err.1) (subst Q (sym back) old.within);
      named = subst (λ names. HaveNames names old.marks) (sym c.in-Err.ensures.err.0) old.named;
    }

pub returns-in-Err-clause-err : goal.returns-in-Err-clause-err
returns-in-Err-clause-err c =
    let old = c.args.self.now in
    content-same c.merge_leaf-in-None.new.names old.names c.merge_leaf-in-None.new.cells old.cells old.calls (sums_in c.forget.new.self) (sums_in old.stacks)
    c.in-Err.ensures.err.0 c.in-Err.ensures.err.1
    (forgotten_again old.stacks c.find.new.self c.put.new.self c.forget.new.self c.args.stack.now c.args.count c.in_ok-slot.field-0 c.in_ok-slot.ensures.slot c.in-None.is c.in_ok-slot.ensures.same c.in_ok-put-in-None.ensures.ok c.forget.ensures)

pub invariant_of-self-2 : goal.invariant_of-self-2
invariant_of-self-2 c =
    let old = c.args.self.now in
    let frames = c.args.stack.now in
    let counts = stacks_with frames c.args.count (sums_in old.stacks) in
    elim c.match-branch-2.branch [
      | in-Some+in_ok-merge_leaf-in-Some w ↦
          let names = w.merge_leaf.new.names in
          let place : CellPlace = record { place = place_in names (63 ∷ 63 ∷ 63 ∷ []) (63 ∷ 63 ∷ 63 ∷ []) c.leaf-function.result.now 0; thread = 0 } in
          let cells = merge cell_cmp added old.cells place (trimmed (c.args.count ∷ [])) in
          let same = c.in_ok-slot.ensures.same in
          let known : slot_of_stack frames c.find.new.self.slots ≡ Some w.in-Some.slot = ap (λ (s : Slotted (List ℕ)). slot_of_stack frames s.slots) same ∙ sym c.in_ok-slot.ensures.slot ∙ w.in-Some.is in
          let counted : sums_in w.add.new.self ≡ counts = w.add.ensures frames known ∙ ap (λ (s : Slotted (List ℕ)). stacks_with frames c.args.count (sums_in s)) same in
          let P : List (CellPlace × List ℕ) → Type 0 = λ cs. AreWithin cs old.calls (sums_in w.add.new.self) c.args.at in
          let Q : List (List ℕ × ℕ) → Type 0 = λ stacks. AreWithin cells old.calls stacks c.args.at in
          rw w.self-is (record {
            within = subst P (sym w.in_ok-merge_leaf-in-Some.ensures.cells) (subst Q (sym counted)
                (within-stack old.cells old.calls (sums_in old.stacks) old.last c.args.at place frames c.args.count old.within c.requires.rises c.requires.small));
            named = have-more old.names names w.merge_leaf.ensures.grows old.marks old.named;
          })
      | in-None+in_ok-put-in-None+in_default w ↦
          let names = w.merge_leaf-in-None.new.names in
          let place : CellPlace = record { place = place_in names (63 ∷ 63 ∷ 63 ∷ []) (63 ∷ 63 ∷ 63 ∷ []) c.leaf-function.result.now 0; thread = 0 } in
          let cells = merge cell_cmp added old.cells place (trimmed (c.args.count ∷ [])) in
          let counted : sums_in w.put.new.self ≡ counts = w.in_ok-put-in-None.ensures.ok ∙ ap (λ (s : Slotted (List ℕ)). stacks_with frames c.args.count (sums_in s)) c.in_ok-slot.ensures.same in
          let P : List (CellPlace × List ℕ) → Type 0 = λ cs. AreWithin cs old.calls (sums_in w.put.new.self) c.args.at in
          let Q : List (List ℕ × ℕ) → Type 0 = λ stacks. AreWithin cells old.calls stacks c.args.at in
          rw w.self-is (record {
            within = subst P (sym w.in_default.ensures.cells) (subst Q (sym counted)
                (within-stack old.cells old.calls (sums_in old.stacks) old.last c.args.at place frames c.args.count old.within c.requires.rises c.requires.small));
            named = have-more old.names names w.merge_leaf-in-None.ensures.grows old.marks old.named;
          })
    ]
