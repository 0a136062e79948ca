use Rattle.std.proofs.Common.{◌≡◌, ℕ, ◌++◌, List, All, length, sym, ◌∙◌, ap, subst, arith}
use Rattle.std.proofs.lemmas.List.{with_items_is}
use Rattle.std.specs.BTreeMap.{is_at}
use Rattle.std.specs.Map.{values_of}
use Rattle.profile_records.specs.Columns.{added, HaveRoom}
use Rattle.cost_rows.specs.Merging.{merge}
use Rattle.cost_rows.specs.Own.{valued}
use Rattle.cost_rows.specs.Stretches.{sums_at, AreRaised, HaveSums, IsWithin}
use Rattle.cost_rows.proofs.StretchLemmas.{front-kept, held-room, held-there, held-within, on_err, own-front, sums-own, put-merged, raised-merged}
use Rattle.cost_rows.proofs.sum_map.SumMap.merge.Goals as goal

pub raise_at-requires-clause-within : goal.raise_at-requires-clause-within
raise_at-requires-clause-within g c =
    subst (λ xs. IsWithin (length xs) c.unwrap_or-held.result) (sym c.as_mut_slice.ensures.value)
    (held-within (is_at (g.K.Ord.cmp c.args.key)) c.self.inside.stretches.entries (length c.self.inside.sums.items) c.find-found.result c.empty.result c.unwrap_or-held.result
    c.self.invariant.0.within c.find-found.ensures c.empty.ensures.start c.empty.ensures.len c.unwrap_or-held.ensures)

pub raise_at-requires-clause-small : goal.raise_at-requires-clause-small
raise_at-requires-clause-small g c =
    let held = c.unwrap_or-held.result in
    let room = subst (λ entries. All HaveRoom (values_of entries)) (sym c.self.view_is) c.requires in
    subst (λ xs. HaveRoom (sums_at xs held)) (sym c.as_mut_slice.ensures.value)
    (held-room (is_at (g.K.Ord.cmp c.args.key)) c.self.inside.stretches.entries c.self.inside.sums.items c.find-found.result c.empty.result held
    room (c.find-found.ensures) c.empty.ensures.len c.unwrap_or-held.ensures)

pub returns-then-costs-len-clause-ok : goal.returns-then-costs-len-clause-ok
returns-then-costs-len-clause-ok g c =
    let held = c.unwrap_or-held.result in
    let es = c.self.inside.stretches.entries in
    let sums : List ℕ = c.self.inside.sums.items in
    let new : List ℕ = c.raise_at.new.sums in
    let raised : AreRaised held c.args.costs.now sums new = subst (λ xs. AreRaised held c.args.costs.now xs new) c.as_mut_slice.ensures.value c.raise_at.ensures in
    let there = held-there c.find-found.result c.empty.result held (sym c.is_some.ensures ∙ c.if-is_some.true) c.unwrap_or-held.ensures in
    ap (λ xs. valued (sums_at xs) es) (with_items_is c.self.inside.sums new (omega (arith, raised.same, c.self.inside.sums.ok.0)))
    ∙ raised-merged g.K.Ord.cmp g.met.K.Ord.total es sums new held c.args.key c.args.costs.now c.self.invariant.0 c.len-in_order.ensures.ordered
    (sym (c.find-found.ensures) ∙ there) raised.sums raised.others
    ∙ ap (λ entries. merge g.K.Ord.cmp added entries c.args.key c.args.costs.now) c.self.view_is

pub put_behind-requires-clause-within : goal.put_behind-requires-clause-within
put_behind-requires-clause-within g c =
    held-within (is_at (g.K.Ord.cmp c.args.key)) c.self.inside.stretches.entries (length c.self.inside.sums.items) c.find-found.result c.empty.result c.unwrap_or-held.result
    c.self.invariant.0.within c.find-found.ensures c.empty.ensures.start c.empty.ensures.len c.unwrap_or-held.ensures

pub put_behind-requires-clause-small : goal.put_behind-requires-clause-small
put_behind-requires-clause-small g c =
    let room = subst (λ entries. All HaveRoom (values_of entries)) (sym c.self.view_is) c.requires in
    held-room (is_at (g.K.Ord.cmp c.args.key)) c.self.inside.stretches.entries c.self.inside.sums.items c.find-found.result c.empty.result c.unwrap_or-held.result
    room (c.find-found.ensures) c.empty.ensures.len c.unwrap_or-held.ensures

pub invariant_of-self-in_err-stretch : goal.invariant_of-self-in_err-stretch
invariant_of-self-in_err-stretch g c =
    (own-front c.self.inside.stretches.entries c.self.inside.sums.items c.put_behind.new.sums.items c.self.invariant.0 c.put_behind.ensures.others, tt)

pub returns-in_err-stretch-clause-err : goal.returns-in_err-stretch-clause-err
returns-in_err-stretch-clause-err g c =
    on_err c.from_residual.result
    (front-kept c.self.inside.stretches.entries c.self.inside.sums.items c.put_behind.new.sums.items c.self.invariant.0.within c.put_behind.ensures.others ∙ c.self.view_is)

pub invariant_of-self-in_err-insert : goal.invariant_of-self-in_err-insert
invariant_of-self-in_err-insert g c = (
  subst (λ es. HaveSums es (length c.put_behind.new.sums.items)) (sym c.in_err-insert.ensures.err)
      (own-front c.self.inside.stretches.entries c.self.inside.sums.items c.put_behind.new.sums.items c.self.invariant.0 c.put_behind.ensures.others),
  tt,
)

pub returns-in_err-insert-clause-err : goal.returns-in_err-insert-clause-err
returns-in_err-insert-clause-err g c =
    on_err c.from_residual-in_err-insert.result
    (ap (valued (sums_at c.put_behind.new.sums.items)) c.in_err-insert.ensures.err
    ∙ front-kept c.self.inside.stretches.entries c.self.inside.sums.items c.put_behind.new.sums.items c.self.invariant.0.within c.put_behind.ensures.others ∙ c.self.view_is)

pub invariant_of-self-2 : goal.invariant_of-self-2
invariant_of-self-2 g c =
    let sums : List ℕ = c.self.inside.sums.items in
    let more : List ℕ = added (sums_at sums c.unwrap_or-held.result) c.args.costs.now in
    let now : c.put_behind.new.sums.items ≡ sums ++ more = c.in_ok-stretch.ensures.sums in
    let P : List ℕ → Type 0 = λ xs. HaveSums c.insert.new.self.entries (length xs) in (
      subst P (sym now)
          (sums-own g.K.Ord.cmp c.self.inside.stretches.entries c.insert.new.self.entries sums more c.args.key c.in_ok-stretch.stretch c.self.invariant.0
          c.in_ok-stretch.ensures.stretch.0 c.in_ok-stretch.ensures.stretch.1 c.in_ok-insert.ensures.entries),
      tt,
    )

pub returns-clause-ok : goal.returns-clause-ok
returns-clause-ok g c =
    put-merged g.K.Ord.cmp g.met.K.Ord.total c.self.inside.stretches.entries c.insert.new.self.entries c.self.inside.sums.items c.put_behind.new.sums.items c.args.key
    c.find-found.result c.empty.result c.unwrap_or-held.result c.in_ok-stretch.stretch c.args.costs.now c.self.invariant.0 c.len-in_order.ensures.ordered
    (c.find-found.ensures) c.empty.ensures.len c.unwrap_or-held.ensures c.in_ok-stretch.ensures.sums
    c.in_ok-stretch.ensures.stretch.0 c.in_ok-stretch.ensures.stretch.1 c.in_ok-insert.ensures.entries
    ∙ ap (λ entries. merge g.K.Ord.cmp added entries c.args.key c.args.costs.now) c.self.view_is
