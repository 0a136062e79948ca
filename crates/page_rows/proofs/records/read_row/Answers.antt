use Rattle.std.proofs.Common.{◌++◌, [], ◌∷◌, ◌∙◌, ap₂, to_z-of_z}
use Rattle.std.proofs.lemmas.Result.{on_ok_weaker}
use Rattle.sqlite_record.specs.Record.{decode}
use Rattle.sqlite_record.proofs.AffinityLemmas.{widen-zero}
use Rattle.sqlite_value.specs.declared.value.Value.TheVariants.{Int}
use Rattle.page_rows.proofs.records.read_row.Goals as goal

pub returns : goal.returns
returns c = on_ok_weaker c.decode_into.result (λ is.
    is ∙ ap₂ ◌++◌ (c.in_ok-push.ensures.ok ∙ ap₂ (λ r i. r ++ Int i ∷ []) c.clear.ensures (to_z-of_z c.ranges.rowid)) (widen-zero (decode c.args.payload.now)))
    c.decode_into.ensures
