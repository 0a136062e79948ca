use Rattle.std.proofs.Common.{ℕ, List, ◌∷◌, Option, Some, refl, ap, ap₂, sym, ◌∙◌}
use Rattle.histories.specs.Legal.{first_or, most_of_source, once_read}
use Rattle.histories.specs.declared.answers.Answer.{Answer}
use Rattle.histories.specs.declared.answers.Answer.TheVariants.{Text}
use Rattle.byte_io.specs.Outcomes.{bytes_of}
use Rattle.store_laws.proofs.Exports.{same_annotation, same_csv, same_folded, same_source}
use Rattle.store_laws.proofs.Reports.{same_event}
use Rattle.store_laws.proofs.same_file_laws.only_the_files_matter_to_exports.Goals as goal

abbrev answered : List (Option Answer) → List ℕ → Answer
answered refusals text = first_or refusals (Text text)

pub returns-clause-annotate : goal.returns-clause-annotate
returns-clause-annotate c h k s r event file source same limits =
    ap (once_read most_of_source source)
    (ap₂ answered (ap₂ ◌∷◌ (same.here ∙ sym same.there) (ap₂ ◌∷◌ (same_event event _ _ same.files) (ap₂ ◌∷◌ (same_source file _ _ same.files) refl)))
    (same_annotation event file (bytes_of source) _ _ same.files))

pub returns-clause-csv : goal.returns-clause-csv
returns-clause-csv c h k s r same limits = ap₂ (λ refusals text. Some (answered refusals text)) (ap₂ ◌∷◌ (same.here ∙ sym same.there) refl) (same_csv _ _ same.files)

pub returns-clause-folded : goal.returns-clause-folded
returns-clause-folded c h k s r same limits = ap₂ (λ refusals text. Some (answered refusals text)) (ap₂ ◌∷◌ (same.here ∙ sym same.there) refl) (same_folded _ _ same.files)
