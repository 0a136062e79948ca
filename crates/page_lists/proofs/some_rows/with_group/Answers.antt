use Rattle.std.proofs.Common.{◌≡◌, ◌≤◌, ◌<◌, ◌++◌, ℕ, pos, w64, of_z, to_z, map, filter, length, get_or, ap, ap₂, subst, sym, refl, inl, inr, ◌∙◌, to_z-of_z, arith, append-nil, rules, SFits}
use Rattle.std.specs.List.{AllByRecursion}
use Rattle.page_rows.specs.Rows.{from_rowid}
use Rattle.page_files.proofs.Reading.{OnlyReads-refl}
use Rattle.page_lists.specs.Among.{Rise, is_among}
use Rattle.page_lists.proofs.Among.{among_from, among_none, nothing_taken, rise_from, rise_front, shown_numbered, shown_rise, taken_all}
use Rattle.page_lists.proofs.Refusing.{all_from, walk_fails}
use Rattle.page_lists.proofs.some_rows.with_group.Goals as goal

pub returns-in_default-clause-read : goal.returns-in_default-clause-read
returns-in_default-clause-read g c up faithful rows is =
    let l = g.L.FromRecord in
    let before = map l.columns c.args.lines.items in
    sym (ap (λ list. before ++ map l.seen list) (among_none c.args.group.now rows c.in_default.ensures.item.3) ∙ append-nil before)

pub returns-in-Ok-clause-read : goal.returns-in-Ok-clause-read
returns-in-Ok-clause-read g c up faithful rows is =
    let l = g.L.FromRecord in
    let group = c.args.group.now in
    let first = c.in-Some.first.now in
    let before = map l.columns c.args.lines.items in
    let fits : SFits w64 c.from.result = search rules in
    let here : from_rowid (to_z w64 (of_z w64 c.from.result)) _ ≡ from_rowid (pos first) rows = ap₂ from_rowid (to_z-of_z fits ∙ c.from.ensures) is.rows_are in
    let rise : Rise (from_rowid (pos first) rows) = rise_from (pos first) rows (shown_rise _ _ rows is) in
    let least : (k : ℕ) → k < length group → first ≤ get_or group k 0 = λ k low. (let e = c.in-Some.ensures.item.3.1 0 in let r = up 0 k 0 (omega arith) low in omega (arith, e, r)) in
    let all = ap (λ list. before ++ map l.seen list) (among_from group first rows least (shown_numbered _ _ rows is)) in
    elim (c.in-Ok.ensures.done faithful is.wanted is.t is.shows (group, before) (refl, λ rises none. nothing_taken l.columns l.seen group c.args.lines.items)) [
      | inl (same, has) ↦ (has up (subst Rise (sym here) rise)).taken ∙ ap (λ list. before ++ map l.seen (filter (is_among group) list)) here ∙ all
      | inr (front, rest, parts, ends) ↦
          let whole = sym here ∙ parts in
          let rises = subst Rise whole rise in
          taken_all l.columns l.seen group before up front rest c.walk.new.sink.lines.items rises (ends up (rise_front front rest rises))
          ∙ ap (λ list. before ++ map l.seen (filter (is_among group) list)) (sym whole) ∙ all
    ]

pub returns-in_default-clause-reads : goal.returns-in_default-clause-reads
returns-in_default-clause-reads g c = OnlyReads-refl _

pub returns-in-Ok-clause-reads : goal.returns-in-Ok-clause-reads
returns-in-Ok-clause-reads g c = c.walk.ensures.reads

pub returns-in-Err-clause-read : goal.returns-in-Err-clause-read
returns-in-Err-clause-read g c up faithful rows is = tt

pub returns-in-Err-clause-reads : goal.returns-in-Err-clause-reads
returns-in-Err-clause-reads g c = c.walk.ensures.reads

pub returns-in-Err-clause-serves : goal.returns-in-Err-clause-serves
returns-in-Err-clause-serves g c faithful = λ rows is all.
    let l = g.L.FromRecord in
    let group = c.args.group.now in
    let before = map l.columns c.args.lines.items in
    let whole = all_from l.IsRead _ _ (subst (AllByRecursion l.IsRead) (sym is.rows_are) all) in
    walk_fails c.args.file.now c.walk.new.self l.IsRead _ c.in-Err.error _ c.error_of_walk.ensures whole
    (c.in-Err.ensures.done faithful is.wanted is.t is.shows (group, before) (refl, λ rises none. nothing_taken l.columns l.seen group c.args.lines.items))
