use Rattle.histories.proofs.Texts.{tells_runs_text, tells_groups_text}
use Rattle.histories.proofs.laws.tables_represent_the_lists.Goals as goal

pub returns-clause-runs : goal.returns-clause-runs
returns-clause-runs g c = λ shows h t represent entries show.
    tells_runs_text (λ e. (shows e).number) (λ e. (shows e).kind) (λ e. (shows e).digest) (λ e. (shows e).label) h t entries represent show

pub returns-clause-groups : goal.returns-clause-groups
returns-clause-groups g c = λ shows h t represent entries show.
    tells_groups_text (λ e. (shows e).name) (λ e. (shows e).base) (λ e. (shows e).numbers) h t entries represent show.lines show.rising show.members show.numbered
