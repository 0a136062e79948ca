use Rattle.std.proofs.Common.{sym, subst, ◌∙◌}
use Rattle.prof_store.specs.Schema.{schema_two, thread_cell_at}
use Rattle.page_places.specs.Places.{indexes_of}
use Rattle.page_places.specs.Rooted.{AreKeys}
use Rattle.page_places.proofs.roots.StoreRoots.cell_table.Goals as goal

pub returns : goal.returns
returns c known are = record {
  root = c.with_key.ensures.root ∙ are.cells;
  keys = subst (λ keys. AreKeys known keys (indexes_of schema_two thread_cell_at)) (sym c.with_key.ensures.keys) (record { root = c.key.ensures.root ∙ are.cell_keys; columns = c.key.ensures.columns }, tt);
}
