use Rattle.std.proofs.Common.{◌≡◌, ◌<◌, ◌+◌, ◌∙◌, ◌++◌, ◌∷◌, [], map, take, drop, length, get_or, sym, ap, ap₂, arith}
use Rattle.std.proofs.lemmas.List.{length-map, length-take-le, map-append, map_more, take-map, take_all}
use Rattle.std.proofs.lemmas.Result.{err_from_is_err_and}
use Rattle.run_stores.specs.HeldHeads.{PlacedName, coefs_at, coefs_from, placed}
use Rattle.run_lists.specs.HeadLines.{derived_place, entry_of_coef}
use Rattle.run_lists.proofs.HeadReading.{at_place, placed-one_more, coefs_from-one_more, read_part, part_within, rest_is}
use Rattle.run_lists.proofs.HeadServed.{all_used, as_many, line_placed, name_of, next_derived, next_place, one_more, rest_of_rows, row_of, wide_row}
use Rattle.run_lists.proofs.Steps.{no_err}
use Rattle.run_lists.proofs.heads_held.derived_in.Goals as goal

pub lines-preserved : goal.lines-preserved
lines-preserved c =
    let derived = c.lines.derived in
    let coefs = c.args.coefs.now in
    let name = c.in_ok-name.name in
    let row = c.in_ok-row.row in
    let more = c.in_ok-row.more in
    let line = c.line-item.result in
    let low = c.lines.invariant.1 in
    let pushed : c.push.new.self ≡ derived ++ (name, row) ∷ [] = no_err c.push.result (sym c.is_err.ensures.value ∙ c.if-is_err.false) c.push.ensures.ok in
    let place : c.len-place.result ≡ length derived = c.len-place.ensures in
    let one : derived_place line ≡ at_place (length (map name_of derived)) name = ap₂ at_place (c.in_ok-name.ensures.read.0 ∙ place ∙ sym (length-map derived name_of)) (sym (c.in_ok-name.ensures.read.1 ∙ c.deref.ensures.value)) in
    let names : map name_of c.push.new.self ≡ map name_of derived ++ name ∷ [] = ap (map name_of) pushed ∙ map-append name_of derived ((name, row) ∷ []) in
    let rows : map row_of c.push.new.self ≡ map row_of derived ++ row ∷ [] = ap (map row_of) pushed ∙ map-append row_of derived ((name, row) ∷ []) in (
      map_more derived_place c.args.lines.now c.lines.line-index line c.lines-test.true
          ∙ ap₂ (λ l x. l ++ derived_place x ∷ []) c.lines.invariant.0 (sym c.line-item.is)
          ∙ ap (λ p. placed 0 (map name_of derived) ++ p ∷ []) one
          ∙ sym (placed-one_more (map name_of derived) name)
          ∙ sym (ap (placed 0) names),
      part_within coefs c.lines.used more low c.in_ok-row.ensures.within,
      read_part entry_of_coef coefs c.lines.used more (coefs_from 0 (map row_of derived)) _ low c.lines.invariant.2 c.in_ok-row.ensures.said
          ∙ ap (λ k. coefs_from 0 (map row_of derived) ++ coefs_at k 0 row) (place ∙ sym (length-map derived row_of))
          ∙ sym (coefs_from-one_more (map row_of derived) row)
          ∙ sym (ap (coefs_from 0) rows),
      λ wanted named all wide.
          (let at = c.lines.line-index in
          let lines = c.args.lines.now in
          let low : at < length wanted = omega (arith, as_many derived_place lines (map name_of wanted) named, length-map wanted name_of, c.lines-test.true) in
          let was : derived ≡ take at wanted = c.lines.invariant.3 wanted named all wide in
          let next : c.len-place.result ≡ at = place ∙ ap length was ∙ length-take-le at wanted (omega (arith, low)) in
          let rest = rest_of_rows at c.lines.used coefs (map row_of derived) (map row_of wanted) (omega (arith, low, length-map wanted row_of)) (ap (map row_of) was ∙ sym (take-map row_of at wanted)) c.lines.invariant.2 all in
          let counted : row ≡ get_or (map row_of wanted) at [] =
          c.in_ok-row.ensures.all (get_or (map row_of wanted) at []) (drop (at + 1) (map row_of wanted)) (wide_row wanted at c.args.events low wide)
          (ap (map entry_of_coef) (rest_is c.lines.used coefs) ∙ rest ∙ ap (λ k. coefs_from k (get_or (map row_of wanted) at [] ∷ drop (at + 1) (map row_of wanted))) (sym next)) in
          let known : name ≡ get_or (map name_of wanted) at [] = c.in_ok-name.ensures.read.1 ∙ c.deref.ensures.value ∙ ap (λ (p : PlacedName). p.name) (line_placed derived_place lines (map name_of wanted) named at line c.lines-test.true c.line-item.is) in
          one_more wanted at derived c.push.new.self (name, row) low was pushed (next_derived wanted at name row low known counted)),
    )

pub returns-in_err-name-clause-serves : goal.returns-in_err-name-clause-serves
returns-in_err-name-clause-serves c = λ wanted named all wide.
    let p = err_from_is_err_and c.from_residual.result c.from_residual.ensures.1 in
    let next = next_place derived_place c.args.lines.now (map name_of wanted) (map name_of c.lines.derived) c.lines.line-index c.line-item.result named c.lines.invariant.0 c.lines-test.true c.line-item.is in
    rw (p.1, p.2) (c.in_err-name.ensures.serves (next ∙ length-map c.lines.derived name_of ∙ sym c.len-place.ensures))

pub returns-then-used-coefs-clause-serves : goal.returns-then-used-coefs-clause-serves
returns-then-used-coefs-clause-serves c = λ wanted named all wide.
    c.lines.invariant.3 wanted named all wide ∙ take_all c.lines.line-index wanted (omega (arith, as_many derived_place c.args.lines.now (map name_of wanted) named, length-map wanted name_of))

pub returns-else-used-coefs-clause-serves : goal.returns-else-used-coefs-clause-serves
returns-else-used-coefs-clause-serves c = λ wanted named all wide.
    let many = as_many derived_place c.args.lines.now (map name_of wanted) named in
    let whole : c.lines.derived ≡ wanted = c.lines.invariant.3 wanted named all wide ∙ take_all c.lines.line-index wanted (omega (arith, many, length-map wanted name_of)) in
    absurd (c.if-used-coefs.false (all_used c.args.coefs.now c.lines.used (coefs_from 0 (map row_of wanted)) c.lines.invariant.1 (c.lines.invariant.2 ∙ ap (λ d. coefs_from 0 (map row_of d)) whole) all))
