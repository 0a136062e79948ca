use Rattle.page_lists.proofs.alike.makes_alike.Goals as goal

pub returns-in-Some : goal.returns-in-Some
returns-in-Some c is = record { other = c.in-Some.other; makes = rw c.in-Some.is at c.in_ok-other.ensures; alike = c.are_alike-is_alike.ensures is }
