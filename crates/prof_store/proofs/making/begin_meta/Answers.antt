use Rattle.std.proofs.Common.{[]}
use Rattle.sql_tables.specs.States.{Works}
use Rattle.sql_tables.proofs.Statements.{inside_done}
use Rattle.prof_store.specs.Schema.{schema_two}
use Rattle.plain_tables.specs.Tables.{new_tables}
use Rattle.prof_store.specs.Tables.{Holds}
use Rattle.prof_store.specs.Texts.{begin_sql}
use Rattle.prof_store.proofs.Means.{begin_means, begin_plain}
use Rattle.prof_store.proofs.Rows.{begins}
use Rattle.prof_store.specs.Making.{AreEmpty}
use Rattle.prof_store.proofs.Parts.{statement_makes}
use Rattle.prof_store.proofs.making.begin_meta.Goals as goal

pub returns : goal.returns
returns g c = statement_makes g.S.Store begin_sql (Works schema_two (AreEmpty schema_two)) (Works schema_two (Holds new_tables)) (λ s was. was.running)
    (λ old new count was h. inside_done schema_two begin_sql [] _ begin_means begin_plain tt (AreEmpty schema_two) (Holds new_tables) begins old new count was h) _ _ _ c.write_inside.ensures
