-- A crash after steps, one after another.
use Rattle.std.proofs.Common.{◌≡◌, ◌∙◌, Bool, true, false, List, [], ◌∷◌, ◌++◌, inl, inr, refl, sym, ap, subst, append_assoc, append-nil}
use Rattle.std.specs.List.{AllByRecursion}
use Rattle.run_stores.specs.declared.states.StoreState.{Ghosts}
use Rattle.plain_tables.specs.Tables.{Tables}
use Rattle.run_stores.specs.Calls.{Holds, Represents}
use Rattle.histories.specs.History.{History, Command, Step, with_step}
use Rattle.histories.specs.Legal.{IsLegal}
use Rattle.histories.specs.declared.answers.Answer.{Answer}
use Rattle.histories.specs.declared.limits.Limits.{Limits}
use Rattle.histories.specs.Representation.{TablesRepresent}
use Rattle.histories.proofs.Steps.{tell_same}
use Rattle.histories.specs.Answered.{Answers, HasHistory, Links, RepresentsHistory, is_accepted}
use Rattle.histories.specs.Left.{LeavesHistory, MayBeLeft}
use Rattle.histories.proofs.Questions.{stays_still}

all_more : {X : Type 0} (P : X → Type 0) (xs : List X) (x : X) → AllByRecursion P xs → P x → AllByRecursion P (xs ++ x ∷ [])
all_more P [] x all is = (is, tt)
all_more P (y ∷ xs) x all is = (all.0, all_more P xs x all.1 is)

not_open : (b : Bool) → b ≡ false → b ≡ true → ⊥
not_open b is usable = let both : false ≡ true = sym is ∙ usable in cc both

-- ---- an answer that changed nothing changes nothing of what may be left

still_left : {S : Type 0} (g : Ghosts S) (limits : Limits) (h : History) (command : Command) (answer : Answer) → IsLegal limits h command answer → is_accepted answer ≡ false → (left : g.Left) → MayBeLeft g limits h left → MayBeLeft g limits (with_step h command answer) left
still_left g limits h command answer legal undone left was = elim was.may [
  | inl same ↦
      (let held = subst (λ told. Holds g (TablesRepresent told) left) same was.held in
      record {
        told = with_step h command answer;
        may = inl refl;
        held = record { t = held.t; holds = tell_same limits h command answer held.t (stays_still answer undone) held.holds legal; is = held.is };
      })
  | inr done ↦
      (let step : Step = record { command = command; answer = answer } in
      record {
        told = was.told;
        may = inr (record {
          before = done.before;
          step = done.step;
          later = done.later ++ step ∷ [];
          parts = ap (λ l. l ++ step ∷ []) done.parts ∙ append_assoc done.before (done.step ∷ done.later) (step ∷ []);
          failed = done.failed;
          undone = all_more (λ (t : Step). is_accepted t.answer ≡ false) done.later step done.undone undone;
          answer = done.answer;
          accepted = done.accepted;
          legal = done.legal;
          is = done.is;
        });
        held = was.held;
      })
]

module _ {S : Type 0} (g : Ghosts S) (limits : Limits) (survives : (t : Tables) (store : S) (left : g.Left) → Represents g t store → g.may_leave store left → g.holds t left) where
  pub left_standing : (h : History) (store : S) → RepresentsHistory g h store → LeavesHistory g limits h store
  left_standing h store s left may = record { told = h; may = inl refl; held = record { t = s.t; holds = s.agrees; is = survives s.t store left s.represents may } }

  left_more : (h : History) (command : Command) (answer : Answer) (old new : S) → HasHistory g h old → Answers g limits command answer old new → LeavesHistory g limits h old → LeavesHistory g limits (with_step h command answer) new
  left_more h command answer old new has step was left may = by_new (g.is_usable new) refl
    where
      shut_left : (g.is_usable new) ≡ false → MayBeLeft g limits (with_step h command answer) left
      shut_left is = by_old (g.is_usable old) refl
        where
          undone_if : (b : Bool) → is_accepted answer ≡ b → is_accepted answer ≡ false
          undone_if true accepted = absurd (not_open (g.is_usable new) is (step.stepped.stays.is_usable accepted))
          undone_if false none = none

          undone : is_accepted answer ≡ false
          undone = undone_if (is_accepted answer) refl

          still : MayBeLeft g limits h left → MayBeLeft g limits (with_step h command answer) left
          still = still_left g limits h command answer (step.answered h has).legal undone left

          by_old : (b : Bool) → (g.is_usable old) ≡ b → MayBeLeft g limits (with_step h command answer) left
          by_old true usable =
              let s = has.represents usable in
              elim (step.stepped.crash h (record { t = s.t; holds = s.agrees; represents = s.represents }) left may) [
                | inl before ↦ still (was left before)
                | inr after ↦ record {
                  told = with_step h command after.holds.answer;
                  may = inr (record {
                    before = h;
                    step = record { command = command; answer = answer };
                    later = [];
                    parts = refl;
                    failed = elim (step.closes usable) [ inl yet ↦ absurd (not_open (g.is_usable new) is yet) | inr failed ↦ failed ];
                    undone = tt;
                    answer = after.holds.answer;
                    accepted = after.holds.accepted;
                    legal = after.holds.legal;
                    is = refl;
                  });
                  held = record { t = after.t; holds = after.holds.agrees; is = after.is };
                }
              ]
          by_old false shut = elim (step.shut (not_open (g.is_usable old) shut) left may) [ inl before ↦ still (was left before) | inr none ↦ absurd none ]

      by_new : (b : Bool) → (g.is_usable new) ≡ b → MayBeLeft g limits (with_step h command answer) left
      by_new true usable = left_standing (with_step h command answer) new ((step.answered h has).after.represents usable) left may
      by_new false shut = shut_left shut

  pub left_after : (h steps : History) (old new : S) → HasHistory g h old → LeavesHistory g limits h old → Links g limits steps old new → LeavesHistory g limits (h ++ steps) new
  left_after h [] old new has was same = subst (λ l. LeavesHistory g limits l new) (sym (append-nil h)) (subst (LeavesHistory g limits h) same was)
  left_after h (step ∷ later) old new has was links =
      subst (λ l. LeavesHistory g limits l new) (append_assoc h (step ∷ []) later)
      (left_after (h ++ step ∷ []) later links.0 new (links.1.answered h has).after (left_more h step.command step.answer old links.0 has links.1 was) links.2)
