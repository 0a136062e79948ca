use Rattle.store_openers.proofs.opening.store_to_change_in.Goals as goal

pub returns-then-may_be_changed : goal.returns-then-may_be_changed
returns-then-may_be_changed g c = λ image shown. c.in_ok-store.ensures image shown
