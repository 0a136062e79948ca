use Rattle.std.proofs.Common.{◌≡◌, ◌≤◌, ◌<◌, ◌<ℤ◌, ◌≤ℤ◌, ◌+◌, ℕ, ℤ, pos, w64, of_z, to_z, to_z-of_z, SFits, [], ◌∷◌, ◌++◌, length, get_or, List, sym, ap, subst, ◌∙◌, arith, rules}
use Rattle.std.proofs.lemmas.Bool.{ltb-false}
use Rattle.std.proofs.lemmas.Int.{by_lt_z, ints}
use Rattle.sqlite_store.specs.Db.{table_row}
use Rattle.std.specs.List.Sorted.{IsNonDecreasing}
use Rattle.sqlite_value.specs.Order.{Row}
use Rattle.page_lists.specs.Among.{HasTaken, IsPassedTo, Rise}
use Rattle.page_lists.proofs.Among.{met, passed_by, rise_front}
use Rattle.page_lists.proofs.some_rows.AmongRowSink.take.Goals as goal

-- the place in the numbers that it began with
place_in : (now begun : List ℕ) (at to : ℕ) (id : ℤ) → SFits w64 id → now ≡ begun → IsPassedTo now at (to_z w64 (of_z w64 id)) to → IsPassedTo begun at id to
place_in now begun at to id fits same is =
    subst (λ z. IsPassedTo begun at z to) (to_z-of_z fits) (subst (λ ns. IsPassedTo ns at (to_z w64 (of_z w64 id)) to) same is)

-- two numbers of the same bits
same_bits : (z id : ℤ) → SFits w64 z → SFits w64 id → of_z w64 z ≡ of_z w64 id → id ≡ z
same_bits z id first second same = sym (to_z-of_z second) ∙ ap (to_z w64) (sym same) ∙ to_z-of_z first

below_other : (z id : ℤ) (n : ℕ) → z ≡ pos n → id ≤ℤ pos n → (of_z w64 z ≡ of_z w64 id → ⊥) → id <ℤ pos n
below_other z id n is le other = by_lt_z id (pos n) (λ low. low) (λ high. absurd (other (ap (of_z w64) (let same : z ≡ id = omega (arith, ints, is, le, high) in same))))

pub returns-in-None-clause-last : goal.returns-in-None-clause-last
returns-in-None-clause-last g c ok start rows has up rise =
    let row = table_row (c.args.rowid, c.args.payload.now) in
    let l = g.L.FromRecord in
    let now = place_in c.args.self.now.numbers.now start.0 c.args.self.now.at c.passed_to-at.result c.args.rowid c.ranges.rowid has.0 c.passed_to-at.ensures in
    let was = has.1 up (rise_front rows (row ∷ []) rise) in
    let over = c.in-None.ensures.lookup.3 in
    let sized = ap length has.0 in
    let within = now.within was.within in
    let top : c.passed_to-at.result ≡ length start.0 = omega (arith, over, sized, within) in
    subst (λ n. HasTaken l.columns l.seen start.0 start.1 (rows ++ row ∷ []) n c.args.self.now.lines.items) top
    (passed_by l.columns l.seen start.0 start.1 up rows row c.args.self.now.at c.passed_to-at.result c.args.self.now.lines.items rise was now (λ low. absurd (omega (arith, low, top))))

pub returns-else-is_err : goal.returns-else-is_err
returns-else-is_err g c =
    let l = g.L.FromRecord in
    let numbers = c.args.self.now.numbers.now in
    let from = c.args.self.now.at in
    let to = c.passed_to-at.result in
    let row = table_row (c.args.rowid, c.args.payload.now) in
    let found = c.in-Some.ensures.lookup.3 in
    let taken : (start : List ℕ × List Row) (rows : List Row) → numbers ≡ start.0 → (IsNonDecreasing start.0 → Rise rows → HasTaken l.columns l.seen start.0 start.1 rows from c.args.self.now.lines.items)
    → IsNonDecreasing start.0 → Rise (rows ++ row ∷ []) → HasTaken l.columns l.seen start.0 start.1 (rows ++ row ∷ []) (to + 1) c.push.new.self.items
    = λ start rows same has up rise.
    let now = place_in numbers start.0 from to c.args.rowid c.ranges.rowid same c.passed_to-at.ensures in
    let number : c.in-Some.number.now ≡ get_or start.0 to 0 = found.1 0 ∙ ap (λ ns. get_or ns to 0) same in
    let id : c.args.rowid ≡ pos (get_or start.0 to 0) = same_bits c.from.result c.args.rowid (search rules) c.ranges.rowid c.if-from-rowid.true ∙ c.from.ensures ∙ ap pos number in
    let shown : l.columns c.in_ok-line-in-Some.line ≡ l.seen row = c.in_ok-line-in-Some.ensures.read ∙ ap (λ z. l.seen (table_row (z, c.args.payload.now))) (to_z-of_z c.ranges.rowid) in
    let pushed : c.push.new.self.items ≡ c.args.self.now.lines.items ++ c.in_ok-line-in-Some.line ∷ [] = rw c.if-is_err.ensures.negation at c.push.ensures.items in
    met l.columns l.seen start.0 start.1 up rows row from to c.args.self.now.lines.items rise (has up (rise_front rows (row ∷ []) rise)) now c.in_ok-line-in-Some.line c.push.new.self.items
    (subst (λ ns. to < length ns) same found.0) id shown pushed in
    record {
      more = λ ok start rows has. (has.0, taken start rows has.0 has.1);
      last = λ ok start rows has up rise.
          let sized = ap length has.0 in
          let over : length numbers ≤ to + 1 = ltb-false (to + 1) (length numbers) (let e = ok in cc) in
          let inside = found.0 in
          let top : to + 1 ≡ length start.0 = omega (arith, over, sized, inside) in
          subst (λ n. HasTaken l.columns l.seen start.0 start.1 (rows ++ row ∷ []) n c.push.new.self.items) top (taken start rows has.0 has.1 up rise);
      refuses = tt;
    }

pub returns-in-Some-2-clause-more : goal.returns-in-Some-2-clause-more
returns-in-Some-2-clause-more g c ok start rows has = (
  has.0,
  λ up rise.
      let row = table_row (c.args.rowid, c.args.payload.now) in
      let l = g.L.FromRecord in
      let now = place_in c.args.self.now.numbers.now start.0 c.args.self.now.at c.passed_to-at.result c.args.rowid c.ranges.rowid has.0 c.passed_to-at.ensures in
      let was = has.1 up (rise_front rows (row ∷ []) rise) in
      let at = c.in-Some.ensures.lookup.3 in
      let number : c.in-Some.number.now ≡ get_or start.0 c.passed_to-at.result 0 = at.1 0 ∙ ap (λ ns. get_or ns c.passed_to-at.result 0) has.0 in
      passed_by l.columns l.seen start.0 start.1 up rows row c.args.self.now.at c.passed_to-at.result c.args.self.now.lines.items rise was now
      (λ low. below_other c.from.result c.args.rowid (get_or start.0 c.passed_to-at.result 0) (c.from.ensures ∙ ap pos number) (now.reached low) c.if-from-rowid.false),
)
