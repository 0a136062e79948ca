use Rattle.std.proofs.Common.{sym, subst, ◌∙◌}
use Rattle.prof_store.specs.Schema.{schema_two, run_event_at}
use Rattle.page_places.specs.Places.{indexes_of}
use Rattle.page_places.specs.Rooted.{AreKeys}
use Rattle.page_places.proofs.roots.StoreRoots.event_table.Goals as goal

pub returns : goal.returns
returns c known are = record {
  root = c.with_keys.ensures.root ∙ are.events;
  keys = subst (λ keys. AreKeys known keys (indexes_of schema_two run_event_at)) (sym c.with_keys.ensures.keys) (record { root = c.key-places.ensures.root ∙ are.event_places; columns = c.key-places.ensures.columns }, (record { root = c.key.ensures.root ∙ are.event_names; columns = c.key.ensures.columns }, tt));
}
