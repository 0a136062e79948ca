use Rattle.std.proofs.Common.{◌∙◌, map, sym, ap, subst, inl, inr, refl, arith, IsPermutation}
use Rattle.std.proofs.lemmas.List.{length-map, take_all}
use Rattle.std.proofs.lemmas.List.Sorted.{IsPermutation-map}
use Rattle.sqlite_value.specs.Keys.{plain}
use Rattle.page_files.specs.Trees.{trees_of}
use Rattle.page_rows.specs.Indexes.{from_entry}
use Rattle.page_lists.specs.Indexed.{key_of}
use Rattle.page_lists.proofs.Indexed.{all_from_none}
use Rattle.page_lists.proofs.indexes.check_keys.Goals as goal

pub returns-in-Ok-clause-same : goal.returns-in-Ok-clause-same
returns-in-Ok-clause-same g c faithful = rw c.in_ok-keys.was (λ wanted t shows.
    let columns = g.K.Key.columns in
    let lines = c.as_slice.result.now in
    let keys = map columns lines in
    let entries = trees_of wanted c.args.file.now t in
    let whole = ap (λ row. from_entry plain row entries) c.new.ensures ∙ all_from_none plain entries in
    let moved = IsPermutation-map columns _ _ c.sort_unstable.ensures.permutation in
    elim (c.in-Ok.ensures.done faithful wanted t shows keys (refl, refl)) [
      | inl (same, all) ↦
          (let taken = take_all c.walk_entries-2.new.sink.taken keys (omega (arith, length-map lines columns, c.if-compared-len.true, c.len.ensures, c.as_slice.ensures.len)) in
          subst (IsPermutation (map columns c.in_ok-keys.keys.items)) (sym (sym (ap (map key_of) whole) ∙ all ∙ taken ∙ ap (map columns) c.as_slice.ensures.value)) moved)
      | inr (front, rest, parts, none) ↦ absurd none
    ])
