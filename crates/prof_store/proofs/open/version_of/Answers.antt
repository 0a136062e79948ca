use Rattle.sqlite_resolve.specs.Compile.{first}
use Rattle.sqlite_tied.specs.Compute.{everything}
use Rattle.std.proofs.Common.{[]}
use Rattle.sql_tables.proofs.Returning.{HasNoReturning}
use Rattle.prof_store.specs.Texts.{schema_sql}
use Rattle.prof_store.proofs.Opening.{only_asks}
use Rattle.prof_store.proofs.open.version_of.Goals as goal

schema_query : HasNoReturning schema_sql
unfolding first everything
schema_query = tt

pub returns : goal.returns
returns g c clean =
    let answer = c.select_schema-answer.result in
    let shown = c.select_schema-answer.ensures.row clean in
    record {
      answer = answer;
      shown = shown;
      says = c.version_by.ensures;
      asked = only_asks schema_sql schema_query [] _ _ clean c.select_schema-answer.ensures.survives answer shown c.version_by.result c.version_by.ensures;
    }
