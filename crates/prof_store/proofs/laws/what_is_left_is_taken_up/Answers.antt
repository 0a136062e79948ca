use Rattle.std.proofs.Common.{sym}
use Rattle.sqlite_trees.specs.Objects.{catalog_tree}
use Rattle.sqlite_catalog.proofs.ReadLemmas.{lists_once}
use Rattle.sqlite.specs.Held.{state}
use Rattle.prof_store.specs.Schema.{schema_one, schema_two}
use Rattle.prof_store.proofs.laws.what_is_left_is_taken_up.Goals as goal

pub returns-clause-second : goal.returns-clause-second
returns-clause-second g c t conn opened sound holds =
    let s = state g.S.Store conn in record {
      schema_is = lists_once (s.now.trees catalog_tree) s.now.schema schema_two sound.lists holds.contain.sound.lists;
      holds = holds;
      settled = sym opened.clean;
      autocommit = opened.autocommit;
      usable = opened.is_open;
    }

pub returns-clause-first : goal.returns-clause-first
returns-clause-first g c t conn opened sound holds =
    let s = state g.S.Store conn in record {
      schema_is = lists_once (s.now.trees catalog_tree) s.now.schema schema_one sound.lists holds.contain.sound.lists;
      holds = holds;
      settled = sym opened.clean;
      autocommit = opened.autocommit;
      usable = opened.is_open;
    }
