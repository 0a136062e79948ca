use Rattle.std.proofs.Common.{◌≡◌, ◌++◌, ◌-◌, [], map, filter, length, take, drop, ap, sym, ◌∙◌, arith}
use Rattle.std.proofs.lemmas.List.{map-append}
use Rattle.std.proofs.lemmas.List.Sorted.{IsNonDecreasingBy-drop, IsNonDecreasingBy-take}
use Rattle.std.proofs.Math.Seq.{take-length}
use Rattle.std.proofs.lemmas.Result.{IfOk-from_err}
use Rattle.page_files.proofs.Reading.{OnlyReads-trans}
use Rattle.page_lists.specs.Among.{is_among}
use Rattle.page_lists.proofs.Among.{among_group, among_none, shown_rise}
use Rattle.page_files.proofs.Reading.{OnlyReads-refl}
use Rattle.page_lists.proofs.Shows.{shows_after}
use Rattle.page_places.proofs.Failing.{reads_later}
use Rattle.page_lists.proofs.Refusing.{handed_on}
use Rattle.page_lists.proofs.some_rows.rows_of_sorted.Goals as goal

pub groups-init : goal.groups-init
groups-init g c = record {
  within = omega arith;
  far = λ some. absurd (omega (arith, some));
  reads = OnlyReads-refl _;
  read = λ up faithful rows is.
      let l = g.L.FromRecord in
      ap (map l.columns) c.new-lines.ensures.items ∙ ap (map l.seen) (sym (among_none [] rows (omega arith)));
}

pub groups-preserved : goal.groups-preserved
groups-preserved g c = record {
  within = c.end_of_group-end.ensures.within;
  far = λ some inside. c.end_of_group-end.ensures.far inside;
  reads = OnlyReads-trans _ _ _ c.groups.invariant.reads c.with_group.ensures.reads;
  read = λ up faithful rows is.
      let l = g.L.FromRecord in
      let numbers = c.args.sorted.now in
      let at = c.groups.at in
      let end = c.end_of_group-end.result in
      let reads = c.with_group.ensures.reads in
      let before = c.groups.invariant.read up (reads.keeps.stays.clean faithful) rows is in
      let rises = IsNonDecreasingBy-take (λ n. n) (end - at) (drop at numbers) (IsNonDecreasingBy-drop (λ n. n) at numbers up) in
      let here = c.in_ok-lines.ensures.read rises faithful rows (shows_after _ _ _ rows c.groups.invariant.reads is) in
      let parts = among_group numbers at end up c.groups.invariant.far c.end_of_group-end.ensures.onward c.end_of_group-end.ensures.within rows (shown_rise _ _ rows is) in
      here ∙ ap (λ list. list ++ map l.seen (filter (is_among (take (end - at) (drop at numbers))) rows)) before
      ∙ sym (map-append l.seen (filter (is_among (take at numbers)) rows) (filter (is_among (take (end - at) (drop at numbers))) rows)) ∙ ap (map l.seen) (sym parts);
}

pub returns-in_err-lines-clause-reads : goal.returns-in_err-lines-clause-reads
returns-in_err-lines-clause-reads g c = OnlyReads-trans _ _ _ c.groups.invariant.reads c.with_group.ensures.reads

pub returns-clause-read : goal.returns-clause-read
returns-clause-read g c up faithful rows is =
    let l = g.L.FromRecord in
    let numbers = c.args.sorted.now in
    let all : c.groups.at ≡ length numbers = omega arith in
    c.groups.invariant.read up faithful rows is ∙ ap (λ ns. map l.seen (filter (is_among ns) rows)) (ap (λ n. take n numbers) all ∙ take-length numbers)

pub returns-in_err-lines-clause-read : goal.returns-in_err-lines-clause-read
returns-in_err-lines-clause-read g c = λ up faithful rows is. IfOk-from_err c.from_residual.result _ c.from_residual.ensures.0

pub returns-clause-reads : goal.returns-clause-reads
returns-clause-reads g c = c.groups.invariant.reads

pub returns-in_err-lines-clause-serves : goal.returns-in_err-lines-clause-serves
returns-in_err-lines-clause-serves g c = λ faithful rows is all.
    handed_on c.from_residual.result _ _ c.from_residual.ensures.1
    (reads_later c.args.file.now c.groups.file c.with_group.new.file _ c.groups.invariant.reads (c.in_err-lines.ensures.serves faithful rows (shows_after _ _ _ rows c.groups.invariant.reads is) all))
