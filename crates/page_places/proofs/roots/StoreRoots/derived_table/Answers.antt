use Rattle.std.proofs.Common.{sym, subst, ◌∙◌}
use Rattle.prof_store.specs.Schema.{schema_two, derived_at}
use Rattle.page_places.specs.Places.{indexes_of}
use Rattle.page_places.specs.Rooted.{AreKeys}
use Rattle.page_places.proofs.roots.StoreRoots.derived_table.Goals as goal

pub returns : goal.returns
returns c known are = record {
  root = c.with_keys.ensures.root ∙ are.derived;
  keys = subst (λ keys. AreKeys known keys (indexes_of schema_two derived_at)) (sym c.with_keys.ensures.keys) (record { root = c.key-places.ensures.root ∙ are.derived_places; columns = c.key-places.ensures.columns }, (record { root = c.key.ensures.root ∙ are.derived_names; columns = c.key.ensures.columns }, tt));
}
