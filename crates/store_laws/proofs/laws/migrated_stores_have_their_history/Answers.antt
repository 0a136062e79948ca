use Rattle.std.proofs.Common.{inl, inr, refl}
use Rattle.histories.proofs.Marks.{marked_at_end}
use Rattle.store_laws.proofs.laws.migrated_stores_have_their_history.Goals as goal

pub returns-clause-opened : goal.returns-clause-opened
returns-clause-opened g c h conn next was opened = (record { t = was.t; rests = opened.first refl was.t was.rests; agrees = was.agrees }, marked_at_end h was.by_first)

pub returns-clause-crash : goal.returns-clause-crash
returns-clause-crash g c is_done h conn next was opened db may = elim (opened.first_crash was.t was.rests db may) [
  | inl before ↦ inl (record { t = was.t; holds = c.what_stands_survives.ensures.first was.t conn was.rests db before; agrees = was.agrees })
  | inr made ↦ inr (record { t = was.t; holds = made; agrees = was.agrees })
]
