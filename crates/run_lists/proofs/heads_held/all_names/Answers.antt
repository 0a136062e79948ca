use Rattle.std.proofs.Common.{◌∙◌, sym, append-nil}
use Rattle.run_lists.proofs.HeadReading.{names_of_places}
use Rattle.run_lists.proofs.heads_held.all_names.Goals as goal

pub derived-init : goal.derived-init
derived-init c = names_of_places c.args.events.now c.in_ok-names.names c.in_ok-names.ensures.read ∙ sym (append-nil _)
