-- How many loads of pages are asked of a store, and how many may be.
use Rattle.std.specs.Prelude.{◌≡◌, ℕ, ◌+◌, ◌*◌, ◌≤◌, cond, sum, vec_len}
use Rattle.page_rows.specs.declared.loads.Loads.{Loads}

-- how many were counted
abbrev pub counted : Loads → ℕ
counted loads = loads.early + sum loads.counts.items

-- how many may be: some at first, and some of each page up to the greatest that was loaded
abbrev pub may_be_counted : Loads → ℕ
may_be_counted loads = loads.grace + vec_len loads.counts * loads.most

-- how many were asked of the store: after one that was not counted no other is
abbrev pub asked : Loads → ℕ
asked loads = counted loads + cond loads.is_over 1 0

-- what a call asks of a store is counted, and no more than may be: where it asks for nothing, the store is as it was
pub record Asks {P : Type 0} (old new : Loads) (before after : P) : Type 0 where
  pub most : new.most ≡ old.most
  pub grace : new.grace ≡ old.grace
  pub more : asked old ≤ asked new
  pub few : asked new ≤ may_be_counted new + 1
  pub idle : asked new ≡ asked old → after ≡ before
