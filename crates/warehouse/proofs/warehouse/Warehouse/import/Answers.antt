use Rattle.std.specs.Bool.{⊤}
use Rattle.std.proofs.Common.{[], inl, inr, refl, sym, subst}
use Rattle.std.specs.Str.{IsUtf8}
use Rattle.plain_tables.specs.Labels.{IsLabel}
use Rattle.run_stores.specs.Calls.{Represents}
use Rattle.run_stores.proofs.Calls.{changed_none, shut_none}
use Rattle.byte_io.specs.Outcomes.{bytes_of}
use Rattle.histories.specs.Formats.{today}
use Rattle.histories.specs.Legal.{expected_of_file}
use Rattle.histories.specs.History.{Import}
use Rattle.histories.specs.declared.answers.Answer.TheVariants.{Refused}
use Rattle.histories.specs.declared.answers.Refusal.TheVariants.{BadName}
use Rattle.histories.specs.Representation.{TablesRepresent}
use Rattle.histories.specs.Answered.{Answers, Follows}
use Rattle.histories.specs.FromTables.{WasChangedIn}
use Rattle.histories.proofs.Questions.{or_failed}
use Rattle.histories.proofs.Settled.{bad_name, closes_for, settled, steps_answer, untouched}
use Rattle.store_commands.specs.FromTables.{IsImported}
use Rattle.warehouse.specs.Answered.{WasAnsweredOver}
use Rattle.warehouse.specs.FromTables.{WasImported}
use Rattle.warehouse.proofs.Unread.{unread_answered}
use Rattle.warehouse.proofs.warehouse.Warehouse.import.Goals as goal

pub returns-in-Ok : goal.returns-in-Ok
returns-in-Ok g c =
    let limits = c.args.self.now.limits in
    let read = c.in-Ok.ensures in
    let old = c.args.self.now.store in
    let new = c.import_parsed-imported.new.store in
    let result = c.import_parsed-imported.result in
    let label = c.in-Some.label.now in
    let same = c.in-Some.ensures.0 in
    record {
      limits = refl {a = limits};
      answered =
          subst (λ l. WasAnsweredOver g.S.StoreState g.R.Source.reads limits (Import (today c.args.kind) l) c.args.source.now c.parse_file.new.source c.answer_of.result old new) same
          (let command = Import (today c.args.kind) label read.outcomes in
          record {
            outcomes = read.outcomes;
            came = read.came;
            answers = λ clean.
                let form : IsUtf8 label × IsLabel label = subst (λ l. IsUtf8 l × IsLabel l) (sym same) (c.in-Some.ensures.1, c.in-Some.ensures.2) in
                let stepped = c.import_parsed-imported.ensures.steps read.outcomes read.read.0 read.read.1 clean in
                subst (λ a. Answers g.S.StoreState limits command a old new) (sym c.answer_of.ensures) (record {
                  stepped = steps_answer g.S.StoreState limits command result _ _ stepped;
                  answered = λ h has. settled g.S.StoreState limits h command old new has result form (λ s. c.import_parsed-imported.ensures.answered clean h read.outcomes s read.read.0 read.read.1) stepped;
                  closes = closes_for g.S.StoreState result _ _ stepped.stays;
                  shut = c.import_parsed-imported.ensures.shut clean;
                });
          });
      found =
          subst (λ l. WasImported g.S.StoreState g.R.Source.reads limits c.args.kind l c.args.source.now c.parse_file.new.source c.answer_of.result old new) same
          (let says = IsImported limits c.args.kind label c.in-Ok.parsed in
          let changed = subst (λ a. WasChangedIn g.S.StoreState says a old new) (sym c.answer_of.ensures)
          (record {
            told = λ clean t was. or_failed (says (λ _. ⊤) t) result (c.import_parsed-imported.ensures.told clean t was);
            made = λ clean t represents. or_failed (says (λ left. Represents g.S.StoreState left new) t) result (c.import_parsed-imported.ensures.made clean t represents);
          }) in
          record {
            outcomes = read.outcomes;
            came = read.came;
            answered = inr (inr (c.in-Ok.parsed, read.read.0, read.read.1, changed));
          });
    }

pub returns-in-Err : goal.returns-in-Err
returns-in-Err g c =
    let limits = c.args.self.now.limits in
    let read = c.in-Err.ensures in
    let store = c.args.self.now.store in
    let command = Import (today c.args.kind) c.args.label.now read.outcomes in
    record {
      limits = refl {a = limits};
      answered = record {
        outcomes = read.outcomes;
        came = read.came;
        answers = λ clean. subst (λ a. Answers g.S.StoreState limits command a store store) (sym c.unread_answer.ensures)
            (unread_answered limits command (c.in-Some.ensures.1, c.in-Some.ensures.2) limits.bytes read.outcomes (λ h. expected_of_file limits h (today c.args.kind) (bytes_of read.outcomes)) (λ h. refl) g.S.StoreState store clean c.in-Err.unread read.read);
      };
      found = record {
        outcomes = read.outcomes;
        came = read.came;
        answered = inr (inl (c.in-Err.unread, read.read, c.unread_answer.ensures));
      };
    }

pub returns-in_default : goal.returns-in_default
returns-in_default g c =
    let limits = c.args.self.now.limits in
    let store = c.args.self.now.store in
    let command = Import (today c.args.kind) c.args.label.now [] in
    record {
      limits = refl {a = limits};
      answered = record {
        outcomes = [];
        came = refl;
        answers = λ clean. record {
          stepped = changed_none g.S.StoreState TablesRepresent (Follows limits command) store clean;
          answered = λ h has. untouched g.S.StoreState limits h command store has clean (Refused BadName) tt (bad_name limits h command c.in_default.ensures refl);
          closes = λ usable. inl usable;
          shut = shut_none g.S.StoreState store;
        };
      };
      found = record { outcomes = []; came = refl; answered = inl (c.in_default.ensures, refl, refl) };
    }
