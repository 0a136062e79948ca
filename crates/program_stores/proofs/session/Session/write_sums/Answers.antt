use Rattle.std.proofs.Common.{[], ◌∷◌, inl, inr, refl, ap, subst, ◌∙◌}
use Rattle.report_texts.specs.Csv.{csv_text}
use Rattle.histories.specs.declared.answers.Answer.TheVariants.{Refused, Text}
use Rattle.histories.specs.declared.answers.Refusal.TheVariants.{Memory}
use Rattle.program_stores.specs.Sessions.{Prints, status_after}
use Rattle.program_stores.proofs.PrintedLemmas.{all_printed, printed_in_part}
use Rattle.program_stores.proofs.SessionLemmas.{part_printed, whole_printed}
use Rattle.program_stores.proofs.session.Session.write_sums.Goals as goal

pub returns-in-Ok-clause-warehouse : goal.returns-in-Ok-clause-warehouse
returns-in-Ok-clause-warehouse g c = (all_printed g.W.Write.contents c.args.self.now (csv_text c.args.sums.now) c.write_csv.new.out c.in-Ok.ensures.whole).1

pub returns-in-Ok-clause-told : goal.returns-in-Ok-clause-told
returns-in-Ok-clause-told g c =
    let text = csv_text c.args.sums.now in
    let all = all_printed g.W.Write.contents c.args.self.now text c.write_csv.new.out c.in-Ok.ensures.whole in
    (Text text, inl refl, all.2, whole_printed text (g.W.Write.contents c.args.self.now.out) (g.W.Write.contents c.write_csv.new.out.out) all.0)

pub returns-in-Err-Memory-clause-warehouse : goal.returns-in-Err-Memory-clause-warehouse
returns-in-Err-Memory-clause-warehouse g c = c.tell.ensures.warehouse ∙ ap (λ s. s.warehouse) (c.in-Err-Memory.ensures.none c.in-Err-Memory.field-0-is)

pub returns-in-Err-Memory-clause-told : goal.returns-in-Err-Memory-clause-told
returns-in-Err-Memory-clause-told g c =
    let same = c.in-Err-Memory.ensures.none c.in-Err-Memory.field-0-is in (
      Refused Memory,
      inr refl,
      c.tell.ensures.status ∙ ap (λ s. status_after s.status (Refused Memory ∷ [])) same,
      subst (λ s. Prints c.tell.result (Refused Memory ∷ []) (g.W.Write.contents s.out) (g.W.Write.contents c.tell.new.self.out)) same c.tell.ensures.printed,
    )

pub returns-in-Err-Failed-clause-warehouse : goal.returns-in-Err-Failed-clause-warehouse
returns-in-Err-Failed-clause-warehouse g c = (printed_in_part g.W.Write.contents c.args.self.now (csv_text c.args.sums.now) c.write_csv.new.out c.in-Err-Failed.ensures.part).1

pub returns-in-Err-Failed-clause-told : goal.returns-in-Err-Failed-clause-told
returns-in-Err-Failed-clause-told g c =
    let text = csv_text c.args.sums.now in
    let part = printed_in_part g.W.Write.contents c.args.self.now text c.write_csv.new.out c.in-Err-Failed.ensures.part in
    (Text text, inl refl, part.2, part_printed text (g.W.Write.contents c.args.self.now.out) (g.W.Write.contents c.write_csv.new.out.out) part.0)
