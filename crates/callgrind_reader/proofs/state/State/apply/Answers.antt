use Rattle.std.proofs.Common.{◌≡◌, List, [], Option, Some, None, Result, Ok, Err, IfOk, IfSome, ℕ, refl, sym, ap, subst, ◌∙◌, arith}
use Rattle.std.specs.declared.alloc.AllocError.{AllocError}
use Rattle.cg_text.specs.Readings.{Reading}
use Rattle.cg_text.specs.Kinds as kinds
use Rattle.cg_text.specs.Views.{plain_kind}
use Rattle.cg_text.specs.declared.faults.Fault.{Fault}
use Rattle.profile_records.specs.declared.sink.Sink.{Ghosts}
use Rattle.callgrind_reader.specs.Lines.{record_of}
use Rattle.callgrind_reader.specs.Representation.{count_of}
use Rattle.callgrind_reader.specs.Steps.{FitsNow, ReadsLine, SameLine, Takes}
use Rattle.callgrind_reader.specs.declared.state.State.{State}
use Rattle.callgrind_reader.proofs.MarksLemmas.{known-stays}
use Rattle.callgrind_reader.proofs.state.State.apply.Goals as goal

-- events that stay are as many
wide_on : (width : Option ℕ) (names new : Option (List (List ℕ))) → IfSome names (λ n. new ≡ Some n) → IfSome width (λ n. count_of names ≡ Some n) → IfSome width (λ n. count_of new ≡ Some n)
wide_on None names new stays wide = tt
wide_on (Some n) None new stays wide = absurd (cc)
wide_on (Some n) (Some x) new stays wide = ap count_of stays ∙ wide

-- a line was read that has no record
no_record : {S : Type 0} (g : Ghosts S) (s new : State) (r : Reading) (sink : S) (result : Result (Option Fault) AllocError) → ((back : List Reading) → record_of r back ≡ []) → FitsNow g s sink
    → IfOk result (λ f. Takes s r f new) → SameLine s new → ReadsLine g s new r result sink sink
no_record g s new r sink (Ok fault) none fits takes same = record {
  follows = takes.follows;
  told = λ back live at. rw none refl;
  fits = (
    omega (arith, fits.rises, same.lines),
    wide_on (g.width sink) s.header.events.names new.header.events.names takes.events fits.wide,
    known-stays s.names new.names (g.known sink) takes.marks fits.known,
  );
  refused = tt;
  same = same;
}
no_record g s new r sink (Err e) none fits takes same = record {
  follows = tt;
  told = tt;
  fits = tt;
  refused = refl;
  same = same;
}

pub returns-in-Header : goal.returns-in-Header
returns-in-Header g c =
    subst (λ k. ReadsLine g.S.Sink c.args.self.now c.header_line.new.self (Ok (plain_kind k)) c.header_line.result c.args.sink.now c.args.sink.now) (sym c.in-Header.is)
    (no_record g.S.Sink c.args.self.now c.header_line.new.self (Ok (kinds.Header c.in-Header.key c.in-Header.value.now)) c.args.sink.now c.header_line.result (λ back. refl) c.requires.fits c.header_line.ensures.takes c.header_line.ensures.same)

pub returns-in-Name : goal.returns-in-Name
returns-in-Name g c =
    subst (λ k. ReadsLine g.S.Sink c.args.self.now c.name_line.new.self (Ok (plain_kind k)) c.name_line.result c.args.sink.now c.args.sink.now) (sym c.in-Name.is)
    (no_record g.S.Sink c.args.self.now c.name_line.new.self (Ok (kinds.Name c.in-Name.word c.in-Name.value.now)) c.args.sink.now c.name_line.result (λ back. refl) c.requires.fits c.name_line.ensures.takes c.name_line.ensures.same)

pub returns-in-Calls : goal.returns-in-Calls
returns-in-Calls g c =
    subst (λ k. ReadsLine g.S.Sink c.args.self.now c.calls_line.new.self (Ok (plain_kind k)) (Ok c.calls_line.result) c.args.sink.now c.args.sink.now) (sym c.in-Calls.is)
    (no_record g.S.Sink c.args.self.now c.calls_line.new.self (Ok (kinds.Calls c.in-Calls.value.now)) c.args.sink.now (Ok c.calls_line.result) (λ back. refl) c.requires.fits c.calls_line.ensures.takes c.calls_line.ensures.same)

pub returns-in-Jump : goal.returns-in-Jump
returns-in-Jump g c =
    subst (λ k. ReadsLine g.S.Sink c.args.self.now c.jump_line.new.self (Ok (plain_kind k)) (Ok None) c.args.sink.now c.args.sink.now) (sym c.in-Jump.is)
    (no_record g.S.Sink c.args.self.now c.jump_line.new.self (Ok (kinds.Jump)) c.args.sink.now (Ok None) (λ back. refl) c.requires.fits c.jump_line.ensures.takes c.jump_line.ensures.same)
