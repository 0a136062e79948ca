-- What the texts mean, computed.
use Rattle.std.proofs.Common.{◌≡◌, List, [], ◌∷◌, false, codes, pos, refl}
use Rattle.sqlite_value.specs.declared.keys.Key.{Key}
use Rattle.sqlite_value.specs.declared.value.Value.TheVariants.{Null, Int}
use Rattle.sqlite_sql.specs.Term.{Term, lit, col}
use Rattle.sqlite_schema.specs.declared.command.Source.TheVariants.{Values}
use Rattle.sqlite_schema.specs.declared.command.Command.TheVariants.{Select, Insert}
use Rattle.sqlite.specs.Listing.{understood, reads_listing}
use Rattle.sqlite.proofs.Callers.{IsPlain, command_of}
use Rattle.sqlite_tied.specs.Compute.{everything}
use Rattle.sql_tables.specs.Queries.{scan, only, is}
use Rattle.sql_tables.proofs.Queries.{sorted_scan}
use Rattle.prof_store.specs.Schema.{schema_one, schema_two}
use Rattle.prof_store.specs.Texts.{begin_sql, schema_sql}

abbrev pub begin_terms : List Term
begin_terms = lit (Int (pos 1)) ∷ lit Null ∷ lit (Int (pos 2)) ∷ lit (Int (pos 1)) ∷ []

pub begin_means : command_of (understood schema_two begin_sql) ≡ Insert 0 (Values begin_terms 4)
unfolding understood everything
begin_means = refl

pub begin_plain : IsPlain (understood schema_two begin_sql)
unfolding understood everything
begin_plain = (refl, refl)

abbrev pub schema_terms : List Term
schema_terms = []

abbrev pub schema_shown : List Term
schema_shown = col 1 2 ∷ []

abbrev pub schema_order : List (Term × Key)
schema_order = []

pub schema_means : command_of (understood schema_two schema_sql) ≡ Select (only (sorted_scan 0 schema_terms schema_shown schema_order)) (codes "schema" ∷ [])
unfolding understood everything
schema_means = refl

pub schema_plain : IsPlain (understood schema_two schema_sql)
unfolding understood everything
schema_plain = (refl, refl)

pub schema_unlisted : reads_listing schema_two schema_sql ≡ false
unfolding understood everything
schema_unlisted = refl

-- the same over the tables of version 1
pub first_schema_means : command_of (understood schema_one schema_sql) ≡ Select (only (sorted_scan 0 schema_terms schema_shown schema_order)) (codes "schema" ∷ [])
unfolding understood everything
first_schema_means = refl

pub first_schema_plain : IsPlain (understood schema_one schema_sql)
unfolding understood everything
first_schema_plain = (refl, refl)

pub first_schema_unlisted : reads_listing schema_one schema_sql ≡ false
unfolding understood everything
first_schema_unlisted = refl
