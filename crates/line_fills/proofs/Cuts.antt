-- Records in one buffer, and one more.
use Rattle.std.proofs.Common.{◌≡◌, ℕ, ◌+◌, List, [], ◌∷◌, ◌++◌, All, drop, get_or, length, map, sum, ap, ap₂, sym, subst, ◌∙◌, arith, length-drop}
use Rattle.std.proofs.lemmas.List.{drop-append-le, get_or-map, length-map, map-append, take-append-le, take_all}
use Rattle.std.proofs.lemmas.List.Sums.{sum_by-cons}
use Rattle.std.proofs.lemmas.List.Elements.{All-append, All-cons, All-nil}
use Rattle.std.specs.Borrow.{Bor}
use Rattle.sqlite_record.specs.Record.{decode}
use Rattle.sqlite_trees.proofs.ListLemmas.{map-map}
use Rattle.sqlite_value.specs.Order.{Row}
use Rattle.page_files.specs.Places.{entries_given}
use Rattle.line_fills.specs.Records.{AreRecordsOf, IsWritable, cut}

pub cut-append : (bytes more lengths : List ℕ) → sum lengths ≡ length bytes → cut (bytes ++ more) (lengths ++ length more ∷ []) ≡ cut bytes lengths ++ more ∷ []
cut-append [] more [] same = ap (λ l. l ∷ []) (take_all (length more) more (omega arith))
cut-append (b ∷ bytes) more [] same = absurd (omega (arith, same))
cut-append bytes more (n ∷ lengths) same =
    let parts : n + sum lengths ≡ length bytes = sym (sum_by-cons (λ x. x) n lengths) ∙ same in
    ap₂ ◌∷◌ (take-append-le n bytes more (omega (arith, parts)))
    (ap (λ l. cut l (lengths ++ length more ∷ [])) (drop-append-le n bytes more (omega (arith, parts))) ∙ cut-append (drop n bytes) more lengths (omega (arith, parts, length-drop n bytes)))

-- one more row is written
pub one_written : (rows : List Row) (records : List (List ℕ)) (row : Row) (bytes : List ℕ) → AreRecordsOf rows records → decode bytes ≡ row → IsWritable bytes → AreRecordsOf (rows ++ row ∷ []) (records ++ bytes ∷ [])
one_written rows records row bytes was is writable = record {
  rows_are = map-append decode records (bytes ∷ []) ∙ ap₂ ◌++◌ was.rows_are (ap (λ r. r ∷ []) is);
  writable = All-append IsWritable records (bytes ∷ []) was.writable (All-cons IsWritable bytes [] writable (All-nil IsWritable));
}

-- what all records have, each that shows one has
pub all_shown : {X Y : Type 0} (show : X → Y) (P : Y → Type 0) (xs : List X) (ys : List Y) → map show xs ≡ ys → All P ys → All (λ x. P (show x)) xs
all_shown show P xs ys same all = λ k d low.
    subst P (ap (λ l. get_or l k (show d)) (sym same) ∙ get_or-map show xs k d (show d) low) (all k (show d) (omega (arith, low, ap length same, length-map xs show)))

-- records that are lent as entries are those of their rows
pub entries_shown : (entries : List (Bor (List ℕ))) (records : List (List ℕ)) (rows : List Row) → map (λ (entry : Bor (List ℕ)). entry.now) entries ≡ records → map decode records ≡ rows → entries_given entries ≡ rows
entries_shown entries records rows lent are = sym (map-map decode (λ (entry : Bor (List ℕ)). entry.now) entries) ∙ ap (map decode) lent ∙ are
