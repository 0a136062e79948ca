use Rattle.store_paths.proofs.bytes.read_whole.Goals as goal

pub returns-in_default-clause-whole : goal.returns-in_default-clause-whole
returns-in_default-clause-whole g c = tt

pub returns-in_default-clause-most : goal.returns-in_default-clause-most
returns-in_default-clause-most g c = tt

pub returns-in_default-clause-faults : goal.returns-in_default-clause-faults
returns-in_default-clause-faults g c = tt

pub returns-in_default-clause-tally : goal.returns-in_default-clause-tally
returns-in_default-clause-tally g c = c.len.ensures.tally

pub returns-in_default-clause-reads : goal.returns-in_default-clause-reads
returns-in_default-clause-reads g c = record { seen = c.len.ensures.seen; clean = c.len.ensures.clean; usable = c.len.ensures.usable; key = c.len.ensures.key; rot = c.len.ensures.rot; crash = c.len.ensures.crash }

pub returns-then-len-most-clause-whole : goal.returns-then-len-most-clause-whole
returns-then-len-most-clause-whole g c = tt

pub returns-then-len-most-clause-most : goal.returns-then-len-most-clause-most
returns-then-len-most-clause-most g c = tt

pub returns-then-len-most-clause-faults : goal.returns-then-len-most-clause-faults
returns-then-len-most-clause-faults g c = tt

pub returns-then-len-most-clause-tally : goal.returns-then-len-most-clause-tally
returns-then-len-most-clause-tally g c = c.len.ensures.tally

pub returns-then-len-most-clause-reads : goal.returns-then-len-most-clause-reads
returns-then-len-most-clause-reads g c = record { seen = c.len.ensures.seen; clean = c.len.ensures.clean; usable = c.len.ensures.usable; key = c.len.ensures.key; rot = c.len.ensures.rot; crash = c.len.ensures.crash }

pub returns-then-is_err-clause-whole : goal.returns-then-is_err-clause-whole
returns-then-is_err-clause-whole g c = tt

pub returns-then-is_err-clause-most : goal.returns-then-is_err-clause-most
returns-then-is_err-clause-most g c = tt

pub returns-then-is_err-clause-faults : goal.returns-then-is_err-clause-faults
returns-then-is_err-clause-faults g c = tt
