use Rattle.std.proofs.Common.{◌≡◌, ◌∷◌, [], map, take}
use Rattle.sqlite_value.specs.declared.value.Value.TheVariants.{Text}
use Rattle.page_lists.specs.Indexed.{group_key}
use Rattle.page_lists.proofs.index_keys.group_names.Given as goal

abbrev pub invariant-loop-group : goal.invariant-loop-group
invariant-loop-group l = map (λ k. Text k.now ∷ []) l.keys.items ≡ map group_key (take l.group-index l.groups)
