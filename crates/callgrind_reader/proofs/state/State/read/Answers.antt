use Rattle.std.proofs.Common.{◌≡◌, ◌+◌, ℕ, true, false, List, [], ◌∷◌, fold, Option, Some, None, is_some, Ok, refl, sym, ap, subst, ◌∙◌, arith}
use Rattle.cg_text.specs.Readings.{Reading}
use Rattle.cg_text.specs.Views.{kind_is}
use Rattle.cg_text.specs.declared.faults.Fault.{Fault}
use Rattle.cg_text.specs.declared.faults.Fault.TheVariants.{CallWithoutCost}
use Rattle.profile_records.specs.declared.sink.Sink.{Ghosts}
use Rattle.callgrind_reader.specs.Accept.{adds, breaks, broken, seen}
use Rattle.callgrind_reader.specs.Calls.{awaiting, number_after}
use Rattle.callgrind_reader.specs.Representation.{Live, RepresentsAfter}
use Rattle.callgrind_reader.specs.Steps.{Fits, ReadsLine, ReadsOn}
use Rattle.callgrind_reader.specs.declared.state.State.{State}
use Rattle.callgrind_reader.proofs.SeenLemmas.{seen-later, seen-broken, seen-own, seen-none}
use Rattle.callgrind_reader.proofs.state.State.read.Goals as goal

some_of : {A : Type 0} (o : Option A) → is_some o ≡ true → (x : A) × (o ≡ Some x)
some_of (Some x) is = (x, refl)
some_of None is = absurd (cc)

none_of : {A : Type 0} (o : Option A) → is_some o ≡ false → o ≡ None
none_of (Some x) is = absurd (cc)
none_of None is = refl

module _ {S : Type 0} (g : Ghosts S) where
  -- a fault is shown from here on
  stops : (s new : State) (r : Reading) (x : Fault × ℕ) (old to : S) → new.lines ≡ s.lines + 1 → new.fault ≡ Some x → Fits g new to
      → ((back : List Reading) → RepresentsAfter s back → (seen (r ∷ back) ≡ Some x) × (adds r back ≡ []) × (g.meaning to ≡ g.meaning old))
      → ReadsOn g s new r (Ok tt) old to
  stops s new r x old to counted fault fits shown = record {
    represents = λ back was.
        let it = shown back was in
        let first : seen (r ∷ back) ≡ Some x = it.0 in
        record {
          lines = omega (arith, counted, was.lines);
          fault = fault ∙ sym first;
          live = λ none. absurd (cc (none, first));
        };
    told = λ back was.
        let it = shown back was in
        it.2 ∙ ap (fold g.step (g.meaning old)) (sym it.1);
    fits = fits;
    refused = tt;
    lines = counted;
  }

  -- the line was taken where no fault was shown before it
  module _ (s at taken : State) (r : Reading) (old to : S) (counted : at.lines ≡ s.lines + 1) (same : (back : List Reading) → Live s back → Live at back)
      (none : s.fault ≡ None) (whole : broken s.call (breaks r) ≡ None) where
    unseen : (back : List Reading) → RepresentsAfter s back → seen back ≡ None
    unseen back was = sym was.fault ∙ none

    lives : (back : List Reading) → RepresentsAfter s back → Live s back
    lives back was = was.live (unseen back was)

    unbroken : (back : List Reading) → RepresentsAfter s back → broken (awaiting back) (breaks r) ≡ None
    unbroken back was = let live = lives back was in ap (λ call. broken call (breaks r)) (sym live.call) ∙ whole

    numbered : (back : List Reading) → RepresentsAfter s back → at.lines ≡ number_after back
    numbered back was = omega (arith, counted, was.lines)

    stops_here : (new : State) (f : Fault) (own : Option Fault) → own ≡ Some f → ReadsLine g at taken r (Ok own) old to → new.lines ≡ taken.lines → new.fault ≡ Some (f, taken.lines) → Fits g new to → ReadsOn g s new r (Ok tt) old to
    stops_here new f own is ended lines fault fits =
        let took = subst (λ o. ReadsLine g at taken r (Ok o) old to) is ended in
        stops s new r (f, taken.lines) old to (lines ∙ took.same.lines ∙ counted) fault fits
        (λ back was.
        let number = numbered back was in
        let live = same back (lives back was) in
        let follows = took.follows back live number in
        let own = seen-own r back f (unseen back was) (unbroken back was) follows.fault in (
          own.0 ∙ ap (λ n. Some (f, n)) (sym (took.same.lines ∙ number)),
          own.1,
          took.told back live number ∙ ap (fold g.step (g.meaning old)) own.2,
        ))

    goes_on : (own : Option Fault) → own ≡ None → ReadsLine g at taken r (Ok own) old to → at.fault ≡ s.fault → ReadsOn g s taken r (Ok tt) old to
    goes_on own is ended kept =
        let took = subst (λ o. ReadsLine g at taken r (Ok o) old to) is ended in
        record {
          represents = λ back was.
              let number = numbered back was in
              let live = same back (lives back was) in
              let follows = took.follows back live number in
              let now = seen-none r back (unseen back was) (unbroken back was) follows.fault in
              record {
                lines = omega (arith, took.same.lines, number);
                fault = took.same.fault ∙ kept ∙ none ∙ sym now.0;
                live = λ is. follows.live refl;
              };
          told = λ back was.
              let number = numbered back was in
              let live = same back (lives back was) in
              let follows = took.follows back live number in
              let now = seen-none r back (unseen back was) (unbroken back was) follows.fault in
              took.told back live number ∙ ap (fold g.step (g.meaning old)) (sym now.1);
          fits = took.fits;
          refused = tt;
          lines = took.same.lines ∙ counted;
        }

pub returns-then-is_some : goal.returns-then-is_some
returns-then-is_some g c =
    let it = some_of c.args.self.now.fault (sym c.is_some.ensures ∙ c.if-is_some.true) in
    let fits = c.requires.fits in
    stops g.S.Sink c.args.self.now _ _ it.0 c.args.sink.now c.args.sink.now refl it.1 (omega (arith, fits.0), fits.1, fits.2)
    (λ back was. let later = seen-later _ back it.0 (sym was.fault ∙ it.1) in (later.0, later.1, refl))

pub returns-in-Some : goal.returns-in-Some
returns-in-Some g c =
    let fits = c.requires.fits in
    stops g.S.Sink c.args.self.now _ (kind_is c.args.reading) (CallWithoutCost, c.in-Some.at) c.args.sink.now c.args.sink.now refl refl (omega (arith, fits.0), fits.1, fits.2)
    (λ back was.
    let none = sym was.fault ∙ none_of c.args.self.now.fault (sym c.is_some.ensures ∙ c.if-is_some.false) in
    let live = was.live none in
    let shown = seen-broken (kind_is c.args.reading) back c.in-Some.at none (ap (λ call. broken call (breaks (kind_is c.args.reading))) (sym live.call) ∙ sym c.broken_call.ensures ∙ c.in-Some.is) in
    (shown.0, shown.1, refl))

pub returns-in-Some-2 : goal.returns-in-Some-2
returns-in-Some-2 g c =
    stops_here g.S.Sink c.args.self.now _ c.take.new.self (kind_is c.args.reading) c.args.sink.now c.take.new.sink refl (λ back l. record { header = l.header; names = l.names; places = l.places; call = l.call })
    (none_of c.args.self.now.fault (sym c.is_some.ensures ∙ c.if-is_some.false)) (sym c.broken_call.ensures ∙ c.in_default.is) _ c.in-Some-2.fault _ c.in-Some-2.is c.in_ok-fault.ensures refl refl c.in_ok-fault.ensures.fits

pub returns-in_default-2 : goal.returns-in_default-2
returns-in_default-2 g c =
    goes_on g.S.Sink c.args.self.now _ c.take.new.self (kind_is c.args.reading) c.args.sink.now c.take.new.sink refl (λ back l. record { header = l.header; names = l.names; places = l.places; call = l.call })
    (none_of c.args.self.now.fault (sym c.is_some.ensures ∙ c.if-is_some.false)) (sym c.broken_call.ensures ∙ c.in_default.is) _ c.in_default-2.is c.in_ok-fault.ensures refl
