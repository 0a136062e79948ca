use Rattle.std.proofs.Common.{◌≡◌, sym, subst, ap, ◌∙◌}
use Rattle.sqlite.specs.Effect.{Database}
use Rattle.prof_store.specs.First.{HoldsFirst}
use Rattle.prof_store.specs.Tables.{Holds}
use Rattle.prof_store.proofs.laws.what_stands_survives.Goals as goal

pub returns-clause-second : goal.returns-clause-second
returns-clause-second g c t store was db may =
    let same : db ≡ _ = g.met.S.Store.settled store.conn.store db was.usable may in
    subst (Holds t) (sym (same ∙ ap (λ (d : Database). d.trees) was.settled)) was.holds

pub returns-clause-first : goal.returns-clause-first
returns-clause-first g c t conn was db may =
    let same : db ≡ _ = g.met.S.Store.settled conn.store db was.usable may in
    subst (HoldsFirst t) (sym (same ∙ ap (λ (d : Database). d.trees) was.settled)) was.holds
