use Rattle.std.proofs.Common.{sym, subst, ◌∙◌}
use Rattle.prof_store.specs.Schema.{schema_two, coef_at}
use Rattle.page_places.specs.Places.{indexes_of}
use Rattle.page_places.specs.Rooted.{AreKeys}
use Rattle.page_places.proofs.roots.StoreRoots.coef_table.Goals as goal

pub returns : goal.returns
returns c known are = record {
  root = c.with_key.ensures.root ∙ are.coefs;
  keys = subst (λ keys. AreKeys known keys (indexes_of schema_two coef_at)) (sym c.with_key.ensures.keys) (record { root = c.key.ensures.root ∙ are.coef_keys; columns = c.key.ensures.columns }, tt);
}
