-- What each change of the tables makes of the book.
use Rattle.std.proofs.Common.{◌≡◌, ℕ, ◌<◌, suc, List, [], ◌∷◌, ◌++◌, map, filter, Bool, true, false, not, ◌==◌, eqb, if◌then◌else◌, refl, sym, ap, ap₂, subst, ◌∙◌, arith, append-nil}
use Rattle.std.proofs.lemmas.Bool.Decides.{nat_tests}
use Rattle.std.specs.List.{AllByRecursion}
use Rattle.plain_tables.proofs.Lists.{all-append, map-append}
use Rattle.cost_rows.specs.Content.{Content}
use Rattle.cost_rows.specs.Held.{AreHeld}
use Rattle.plain_tables.specs.Tables.{Tables, RunRow, EventRow, DerivedRow, CoefRow, NameRow, StoredCell, StoredCall, StoredStack, GroupRow, MemberRow, new_tables}
use Rattle.plain_tables.specs.Sound.{AreSound}
use Rattle.plain_tables.specs.Changes.{without_run, has_baseline, unbased}
use Rattle.plain_tables.specs.Files.{all_named, numbers_in}
use Rattle.plain_tables.specs.RunRows.{cells_in, calls_in, stacks_in}
use Rattle.plain_tables.proofs.Numbering.{AllHeld, all_held}
use Rattle.plain_tables.proofs.Runs.{lines_below}
use Rattle.run_stores.specs.Book.{AreOf, Book, RunBook, book_of, run_held, run_book, with_run_book, without_run_book, new_book, cell_held, part_held, stack_held, IsNamed, CellIsNamed, CallIsNamed}
use Rattle.run_stores.specs.Files.{with_head, with_rows, cell_rows, call_rows, stack_rows}
use Rattle.run_stores.proofs.BookNames.{Rising, name_kept, held_more, all_grown}
use Rattle.run_stores.proofs.Rows.{cells_are, parts_are, cells_named, calls_named, stacks_are, cells_of_run, calls_of_run, stacks_of_run}

-- ---- rows of one run among those of others

self : (n : ℕ) → eqb n n ≡ true
self n = grind (arith, nat_tests)

apart : (m n : ℕ) → m < n → eqb m n ≡ false
apart m n below = grind (arith, nat_tests)

not_equal : (m n : ℕ) → m < n → eqb n m ≡ false
not_equal m n below = grind (arith, nat_tests)

filter-append : {X : Type 0} (p : X → Bool) (xs ys : List X) → filter p (xs ++ ys) ≡ filter p xs ++ filter p ys
filter-append p [] ys = refl
filter-append p (x ∷ xs) ys = go (p x) (filter-append p xs ys)
  where
    go : (b : Bool) → filter p (xs ++ ys) ≡ filter p xs ++ filter p ys → (if b then x ∷ filter p (xs ++ ys) else filter p (xs ++ ys)) ≡ (if b then x ∷ filter p xs else filter p xs) ++ filter p ys
    go true rest = ap (λ l. x ∷ l) rest
    go false rest = rest

module _ {X : Type 0} (run : X → ℕ) where
  of_other : (m n : ℕ) (lines : List X) → m < n → AllByRecursion (λ x. run x ≡ n) lines → filter (λ x. run x == m) lines ≡ []
  of_other m n [] below h = refl
  of_other m n (x ∷ lines) below h = ap (λ b. if b then x ∷ filter (λ y. run y == m) lines else filter (λ y. run y == m) lines) (ap (λ k. eqb k m) h.0 ∙ not_equal m n below) ∙ of_other m n lines below h.1

  of_later : (n : ℕ) (lines : List X) → AllByRecursion (λ x. run x < n) lines → filter (λ x. run x == n) lines ≡ []
  of_later n [] h = refl
  of_later n (x ∷ lines) h = ap (λ b. if b then x ∷ filter (λ y. run y == n) lines else filter (λ y. run y == n) lines) (apart (run x) n h.0) ∙ of_later n lines h.1

  of_all : (n : ℕ) (lines : List X) → AllByRecursion (λ x. run x ≡ n) lines → filter (λ x. run x == n) lines ≡ lines
  of_all n [] h = refl
  of_all n (x ∷ lines) h = ap (λ b. if b then x ∷ filter (λ y. run y == n) lines else filter (λ y. run y == n) lines) (ap (λ k. eqb k n) h.0 ∙ self n) ∙ ap (λ l. x ∷ l) (of_all n lines h.1)

  -- those of an earlier run stay
  pub old_lines : (m n : ℕ) (old new : List X) → m < n → AllByRecursion (λ x. run x ≡ n) new → filter (λ x. run x == m) (old ++ new) ≡ filter (λ x. run x == m) old
  old_lines m n old new below h =
      filter-append (λ x. run x == m) old new ∙ ap (λ l. filter (λ x. run x == m) old ++ l) (of_other m n new below h) ∙ append-nil (filter (λ x. run x == m) old)

  -- and those of the new run are the new ones
  pub new_lines : (n : ℕ) (old new : List X) → AllByRecursion (λ x. run x < n) old → AllByRecursion (λ x. run x ≡ n) new → filter (λ x. run x == n) (old ++ new) ≡ new
  new_lines n old new below h = filter-append (λ x. run x == n) old new ∙ ap₂ ◌++◌ (of_later n old below) (of_all n new h)

  -- where a run goes those of another stay
  pub left_lines : (m n : ℕ) (lines : List X) → eqb m n ≡ false → filter (λ x. run x == m) (filter (λ x. not (run x == n)) lines) ≡ filter (λ x. run x == m) lines
  left_lines m n [] other = refl
  left_lines m n (x ∷ lines) other = go (eqb (run x) n) refl (left_lines m n lines other)
    where
      differs : (k : ℕ) → eqb k n ≡ true → eqb m n ≡ false → eqb k m ≡ false
      differs k e f = grind (arith, nat_tests)

      go : (b : Bool) → eqb (run x) n ≡ b → filter (λ y. run y == m) (filter (λ y. not (run y == n)) lines) ≡ filter (λ y. run y == m) lines
          → filter (λ y. run y == m) (if not b then x ∷ filter (λ y. not (run y == n)) lines else filter (λ y. not (run y == n)) lines) ≡ filter (λ y. run y == m) (x ∷ lines)
      go true e rest = rest ∙ ap (λ b. if b then x ∷ filter (λ y. run y == m) lines else filter (λ y. run y == m) lines) (sym (differs (run x) e other))
      go false e rest = ap (λ l. if run x == m then x ∷ l else l) rest

map_on : {X Y : Type 0} (f g : X → Y) (P : X → Type 0) (xs : List X) → ((x : X) → P x → f x ≡ g x) → AllByRecursion P xs → map f xs ≡ map g xs
map_on f g P [] same h = refl
map_on f g P (x ∷ xs) same h = ap₂ ◌∷◌ (same x h.0) (map_on f g P xs same h.1)

all_filter : {X : Type 0} (P : X → Type 0) (p : X → Bool) (xs : List X) → AllByRecursion P xs → AllByRecursion P (filter p xs)
all_filter P p [] h = tt
all_filter P p (x ∷ xs) h = go (p x) (all_filter P p xs h.1)
  where
    go : (b : Bool) → AllByRecursion P (filter p xs) → AllByRecursion P (if b then x ∷ filter p xs else filter p xs)
    go true rest = (h.0, rest)
    go false rest = rest

all_on : {X : Type 0} (P Q : X → Type 0) (xs : List X) → ((x : X) → P x → Q x) → AllByRecursion P xs → AllByRecursion Q xs
all_on P Q [] weaker h = tt
all_on P Q (x ∷ xs) weaker h = (weaker x h.0, all_on P Q xs weaker h.1)

-- ---- rows keep their names while further names come

module _ (names more : List NameRow) where
  cell_kept : (c : StoredCell) → CellIsNamed names c → cell_held (names ++ more) c ≡ cell_held names c
  cell_kept c h = cc (name_kept names more c.object h.0, name_kept names more c.file h.1, name_kept names more c.function h.2)

  part_kept : (a : StoredCall) → CallIsNamed names a → part_held (names ++ more) a ≡ part_held names a
  part_kept a h =
      cc (
        name_kept names more a.object h.0,
        name_kept names more a.file h.1,
        name_kept names more a.function h.2,
        name_kept names more a.called_object h.3,
        name_kept names more a.called_file h.4,
        name_kept names more a.called_function h.5,
      )

  cell_stays : (c : StoredCell) → CellIsNamed names c → CellIsNamed (names ++ more) c
  cell_stays c h = (held_more names more c.object h.0, held_more names more c.file h.1, held_more names more c.function h.2)

  call_stays : (a : StoredCall) → CallIsNamed names a → CallIsNamed (names ++ more) a
  call_stays a h = (
    held_more names more a.object h.0,
    held_more names more a.file h.1,
    held_more names more a.function h.2,
    held_more names more a.called_object h.3,
    held_more names more a.called_file h.4,
    held_more names more a.called_function h.5,
  )

-- ---- a run more

module _ (r : RunRow) (events : List EventRow) (derived : List DerivedRow) (coefs : List CoefRow) (c : Content) (t : Tables) where
  abbrev head : Tables
  head = with_head r events derived coefs t

  abbrev known : Tables
  known = all_named c.names head

  abbrev pub after : Tables
  after = with_rows r.number c head

  abbrev numbers : List ℕ
  numbers = numbers_in known c.names

  -- the same, written out
  abbrev whole : Tables
  whole = record {
    next = suc r.number;
    runs = t.runs ++ r ∷ [];
    events = t.events ++ events;
    derived = t.derived ++ derived;
    coefs = t.coefs ++ coefs;
    names = known.names;
    cells = t.cells ++ cell_rows r.number numbers c.cells;
    calls = t.calls ++ call_rows r.number numbers c.calls;
    stacks = t.stacks ++ stack_rows r.number c.stacks;
    groups = t.groups;
    members = t.members;
  }

  grown : (more : List NameRow) × (known ≡ record head { names = t.names ++ more })
  grown = all_grown c.names head

  names_are : known.names ≡ t.names ++ grown.0
  names_are = ap (λ (u : Tables). u.names) grown.1

  known_is : known ≡ record head { names = known.names }
  known_is = grown.1 ∙ ap (λ l. let u : Tables = record head { names = l } in u) (sym names_are)

  after_is : after ≡ whole
  after_is =
      ap
      (λ (u : Tables). let v : Tables = record u { cells = u.cells ++ cell_rows r.number numbers c.cells; calls = u.calls ++ call_rows r.number numbers c.calls; stacks = u.stacks ++ stack_rows r.number c.stacks } in v)
      known_is

  module _ (was : AreSound t) (is : AreSound after) (named : IsNamed t) (held : AreHeld c) (number : r.number ≡ t.next) (of : AreOf r.number events derived coefs) where
    up : Rising known.names
    up = is.names_rise

    all : AllHeld known c.names
    all = all_held head c.names

    below : {X : Type 0} (run : X → ℕ) (lines : List X) → AllByRecursion (λ x. run x < t.next) lines → AllByRecursion (λ x. run x < r.number) lines
    below run lines h = subst (λ n. AllByRecursion (λ x. run x < n) lines) (sym number) h

    cell_same : (l : StoredCell) → CellIsNamed t.names l → cell_held known.names l ≡ cell_held t.names l
    cell_same l h = ap (λ names. cell_held names l) names_are ∙ cell_kept t.names grown.0 l h

    part_same : (l : StoredCall) → CallIsNamed t.names l → part_held known.names l ≡ part_held t.names l
    part_same l h = ap (λ names. part_held names l) names_are ∙ part_kept t.names grown.0 l h

    -- the runs that were there are as they were
    old_same : (q : RunRow) → q.number < r.number → run_held whole q ≡ run_held t q
    old_same q low =
        let cells : map (cell_held known.names) (cells_in q.number whole) ≡ map (cell_held t.names) (cells_in q.number t) =
        ap (map (cell_held known.names)) (old_lines (λ l. l.run) q.number r.number t.cells (cell_rows r.number numbers c.cells) low (cells_of_run r.number numbers c.cells))
        ∙ map_on (cell_held known.names) (cell_held t.names) (CellIsNamed t.names) (cells_in q.number t) cell_same (all_filter (CellIsNamed t.names) (λ l. l.run == q.number) t.cells named.cells) in
        let parts : map (part_held known.names) (calls_in q.number whole) ≡ map (part_held t.names) (calls_in q.number t) =
        ap (map (part_held known.names)) (old_lines (λ l. l.run) q.number r.number t.calls (call_rows r.number numbers c.calls) low (calls_of_run r.number numbers c.calls))
        ∙ map_on (part_held known.names) (part_held t.names) (CallIsNamed t.names) (calls_in q.number t) part_same (all_filter (CallIsNamed t.names) (λ l. l.run == q.number) t.calls named.calls) in
        let stacks : map stack_held (stacks_in q.number whole) ≡ map stack_held (stacks_in q.number t) =
        ap (map stack_held) (old_lines (λ l. l.run) q.number r.number t.stacks (stack_rows r.number c.stacks) low (stacks_of_run r.number c.stacks)) in
        cc (
          old_lines (λ l. l.run) q.number r.number t.events events low of.events_of,
          old_lines (λ l. l.run) q.number r.number t.derived derived low of.derived_of,
          old_lines (λ l. l.run) q.number r.number t.coefs coefs low of.coefs_of,
          cells,
          parts,
          stacks,
        )

    -- and the new one is what the file says, and its rows
    new_same : run_held whole r ≡ run_book r events derived coefs c
    new_same =
        let cells =
        ap (map (cell_held known.names)) (new_lines (λ l. l.run) r.number t.cells (cell_rows r.number numbers c.cells) (below (λ l. l.run) t.cells (lines_below t was (λ l. l.run) t.cells was.cells)) (cells_of_run r.number numbers c.cells))
        ∙ cells_are known.names up r.number c.names all c.cells held.cells in
        let parts =
        ap (map (part_held known.names)) (new_lines (λ l. l.run) r.number t.calls (call_rows r.number numbers c.calls) (below (λ l. l.run) t.calls (lines_below t was (λ l. l.run) t.calls was.calls)) (calls_of_run r.number numbers c.calls))
        ∙ parts_are known.names up r.number c.names all c.calls held.calls in
        let stacks =
        ap (map stack_held) (new_lines (λ l. l.run) r.number t.stacks (stack_rows r.number c.stacks) (below (λ l. l.run) t.stacks (lines_below t was (λ l. l.run) t.stacks was.stacks)) (stacks_of_run r.number c.stacks))
        ∙ stacks_are r.number c.stacks in
        cc (
          new_lines (λ l. l.run) r.number t.events events (below (λ l. l.run) t.events (lines_below t was (λ l. l.run) t.events was.events)) of.events_of,
          new_lines (λ l. l.run) r.number t.derived derived (below (λ l. l.run) t.derived (lines_below t was (λ l. l.run) t.derived was.derived)) of.derived_of,
          new_lines (λ l. l.run) r.number t.coefs coefs (below (λ l. l.run) t.coefs (lines_below t was (λ l. l.run) t.coefs was.coefs)) of.coefs_of,
          cells,
          parts,
          stacks,
        )

    runs_are : map (run_held whole) (t.runs ++ r ∷ []) ≡ map (run_held t) t.runs ++ run_book r events derived coefs c ∷ []
    runs_are =
        map-append (run_held whole) t.runs (r ∷ [])
        ∙ ap₂ ◌++◌ (map_on (run_held whole) (run_held t) (λ q. q.number < r.number) t.runs old_same (below (λ q. q.number) t.runs was.below)) (ap (λ b. b ∷ []) new_same)

    pub book_insert : book_of after ≡ with_run_book (run_book r events derived coefs c) (book_of t)
    book_insert = ap book_of after_is ∙ ap (λ l. let b : Book = record { next = suc r.number; runs = l; groups = t.groups; members = t.members } in b) runs_are

    pub named_insert : IsNamed after
    named_insert =
        subst IsNamed (sym after_is) (record {
          cells =
              all-append (CellIsNamed known.names) t.cells (cell_rows r.number numbers c.cells)
              (all_on (CellIsNamed t.names) (CellIsNamed known.names) t.cells (λ l h. subst (λ names. CellIsNamed names l) (sym names_are) (cell_stays t.names grown.0 l h)) named.cells)
              (cells_named known.names up r.number c.names all c.cells held.cells);
          calls =
              all-append (CallIsNamed known.names) t.calls (call_rows r.number numbers c.calls)
              (all_on (CallIsNamed t.names) (CallIsNamed known.names) t.calls (λ l h. subst (λ names. CallIsNamed names l) (sym names_are) (call_stays t.names grown.0 l h)) named.calls)
              (calls_named known.names up r.number c.names all c.calls held.calls);
        })

-- ---- a run less

module _ (n : ℕ) (t : Tables) where
  left_same : (r : RunRow) → eqb r.number n ≡ false → run_held (without_run n t) r ≡ run_held t r
  left_same r other =
      cc (
        left_lines (λ (e : EventRow). e.run) r.number n t.events other,
        left_lines (λ (d : DerivedRow). d.run) r.number n t.derived other,
        left_lines (λ (k : CoefRow). k.run) r.number n t.coefs other,
        ap (map (cell_held t.names)) (left_lines (λ (l : StoredCell). l.run) r.number n t.cells other),
        ap (map (part_held t.names)) (left_lines (λ (l : StoredCall). l.run) r.number n t.calls other),
        ap (map stack_held) (left_lines (λ (l : StoredStack). l.run) r.number n t.stacks other),
      )

  left_runs : (runs : List RunRow) → map (run_held (without_run n t)) (filter (λ (r : RunRow). not (r.number == n)) runs) ≡ filter (λ (b : RunBook). not (b.line.number == n)) (map (run_held t) runs)
  left_runs [] = refl
  left_runs (r ∷ runs) = go (eqb r.number n) refl (left_runs runs)
    where
      go : (b : Bool) → eqb r.number n ≡ b → map (run_held (without_run n t)) (filter (λ (q : RunRow). not (q.number == n)) runs) ≡ filter (λ (q : RunBook). not (q.line.number == n)) (map (run_held t) runs)
          → map (run_held (without_run n t)) (if not b then r ∷ filter (λ (q : RunRow). not (q.number == n)) runs else filter (λ (q : RunRow). not (q.number == n)) runs)
          ≡ (if not b then run_held t r ∷ filter (λ (q : RunBook). not (q.line.number == n)) (map (run_held t) runs) else filter (λ (q : RunBook). not (q.line.number == n)) (map (run_held t) runs))
      go true e rest = rest
      go false e rest = ap₂ ◌∷◌ (left_same r e) rest

  pub book_dropped : book_of (without_run n t) ≡ without_run_book n (book_of t)
  book_dropped =
      ap
      (λ l. let b : Book = record { next = t.next; runs = l; groups = map (λ g. if has_baseline n g then unbased g else g) t.groups; members = filter (λ (m : MemberRow). not (m.run == n)) t.members } in b)
      (left_runs t.runs)

  pub named_dropped : IsNamed t → IsNamed (without_run n t)
  named_dropped h = record { cells = all_filter (CellIsNamed t.names) (λ (l : StoredCell). not (l.run == n)) t.cells h.cells; calls = all_filter (CallIsNamed t.names) (λ (l : StoredCall). not (l.run == n)) t.calls h.calls }

-- ---- other groups and members

pub book_grouped : (t : Tables) (groups : List GroupRow) (members : List MemberRow) → book_of (record t { groups = groups; members = members }) ≡ record (book_of t) { groups = groups; members = members }
book_grouped t groups members = refl

pub named_grouped : (t : Tables) (groups : List GroupRow) (members : List MemberRow) → IsNamed t → IsNamed (record t { groups = groups; members = members })
named_grouped t groups members h = record { cells = h.cells; calls = h.calls }

-- ---- a new store

pub book_new : book_of new_tables ≡ new_book
book_new = refl

pub named_new : IsNamed new_tables
named_new = record { cells = tt; calls = tt }
