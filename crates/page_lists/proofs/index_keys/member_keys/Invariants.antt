use Rattle.std.proofs.Common.{◌≡◌, ◌∷◌, [], map, take}
use Rattle.sqlite_value.specs.declared.value.Value.TheVariants.{Text}
use Rattle.prof_store.specs.Tables.{number}
use Rattle.page_lists.specs.Indexed.{member_key}
use Rattle.page_lists.proofs.index_keys.member_keys.Given as goal

abbrev pub invariant-loop-member : goal.invariant-loop-member
invariant-loop-member l = map (λ k. Text k.0.now ∷ number k.1 ∷ []) l.keys.items ≡ map member_key (take l.member-index l.members)
