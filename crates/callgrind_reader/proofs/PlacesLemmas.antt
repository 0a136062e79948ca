-- Positions read one by one.
use Rattle.std.proofs.Common.{◌≡◌, ℕ, ◌+◌, ◌-◌, ◌^◌, ◌<◌, ◌≤◌, Bool, true, false, ◌&&◌, nat_le, nat_lt, if◌then◌else◌, List, [], ◌∷◌, length, drop, Result, Ok, Err, Some, refl, sym, ◌∙◌, ap, subst, arith}
use Rattle.std.proofs.lemmas.Bool.Decides.{nat_tests}
use Rattle.cg_text.specs.Subpositions.{subpos_of}
use Rattle.cg_text.specs.declared.faults.Fault.{Fault}
use Rattle.cg_text.specs.declared.faults.Fault.TheVariants.{PositionRange}
use Rattle.cg_text.specs.declared.positions.SubPos.{SubPos}
use Rattle.cg_text.specs.Fields.{fields_of}
use Rattle.callgrind_reader.specs.Positions.{up, down, moved, moved_by, ranged, placed, has_address, has_line, column, behind, width, line_of}
use Rattle.callgrind_reader.specs.Places.{ReadPlaces}
use Rattle.callgrind_reader.specs.declared.layouts.Layout.{Layout}
use Rattle.callgrind_reader.specs.declared.layouts.Layout.TheVariants.{Line, InstrLine, Instr}
use Rattle.callgrind_reader.specs.declared.places.Places.{Places}
use Rattle.callgrind_reader.specs.declared.places.PlacedLine.{PlacedLine}
use Rattle.callgrind_reader.specs.Columns.{ReadColumn}
use Rattle.callgrind_reader.specs.Faulty.{◌>>=◌}

abbrev by_tests : Bool → Bool → ℕ → Result ℕ Fault
by_tests low high n = if low && high then Ok n else Err PositionRange

-- a position in its range is the offsets up less those down
pub in_range : (limit u d n : ℕ) → ranged limit u d ≡ Ok n → (n + d ≡ u) × (n < limit)
in_range limit u d n = go (nat_le d u) (nat_lt (u - d) limit) refl refl
  where
    go : (a b : Bool) → nat_le d u ≡ a → nat_lt (u - d) limit ≡ b → by_tests a b (u - d) ≡ Ok n → (n + d ≡ u) × (n < limit)
    go true true le lt is = let e : u - d ≡ n = cc in let low : d ≤ u = grind (arith, nat_tests) in let high : u - d < limit = grind (arith, nat_tests) in (omega (arith, e, low), omega (arith, e, high))
    go true false le lt is = cc
    go false b le lt is = cc

pub placed_is : (limit u d n : ℕ) (field : List ℕ) → placed limit (Some field) u d ≡ Ok n → (n + moved down (Some field) d ≡ moved up (Some field) u) × (n < limit)
placed_is limit u d n field = go (subpos_of field)
  where
    go : (p : Result SubPos Fault) → (p >>= λ s. ranged limit (up s u) (down s d)) ≡ Ok n → (n + moved_by down p d ≡ moved_by up p u) × (n < limit)
    go (Ok s) is = in_range limit (up s u) (down s d) n is
    go (Err fault) is = cc

-- the next position by the field of a column
pub one_column : (limit before next : ℕ) (is_there : Bool) (field : List ℕ) (fields rest : List (List ℕ)) → is_there ≡ true → fields ≡ field ∷ rest → ((u d : ℕ) → before + d ≡ u → Ok next ≡ placed limit (Some field) u d)
    → ReadColumn is_there limit before fields next rest
one_column limit before next false field fields rest there front said = cc
one_column limit before next true field [] rest there front said = cc
one_column limit before next true field (f ∷ fs) rest there front said =
    let same : f ≡ field = cc in
    let behind_it : rest ≡ fs = cc in
    record {
      said = λ u d e. ap (λ f. placed limit (Some f) u d) same ∙ sym (said u d e);
      moves = λ u d e. subst (λ f. next + moved down (Some f) d ≡ moved up (Some f) u) (sym same) (placed_is limit u d next field (sym (said u d e))).0;
      within = (placed_is limit before 0 next field (sym (said before 0 (omega arith)))).1;
      behind_it = behind_it;
      count = let n = ap length behind_it in omega (arith, n);
    }

-- ---- both columns

behind_both : (layout : Layout) (fields : List (List ℕ)) → behind (has_line layout) (behind (has_address layout) fields) ≡ drop (width layout) fields
behind_both Line [] = refl
behind_both Line (f ∷ fs) = refl
behind_both InstrLine [] = refl
behind_both InstrLine (f ∷ []) = refl
behind_both InstrLine (f ∷ g ∷ fs) = refl
behind_both Instr [] = refl
behind_both Instr (f ∷ fs) = refl

width_both : (layout : Layout) → width layout ≡ (if has_address layout then 1 else 0) + (if has_line layout then 1 else 0)
width_both Line = refl
width_both InstrLine = refl
width_both Instr = refl

module _ (layout : Layout) (before : Places) (fields rest : List (List ℕ)) (p : PlacedLine) where
  pub both_columns : ReadColumn (has_address layout) 18446744073709551616 before.address fields p.places.address rest → ReadColumn (has_line layout) 9223372036854775808 before.line rest p.places.line (fields_of p.costs.now)
      → p.line ≡ (if has_line layout then p.places.line else 0) → ReadPlaces layout before fields (Ok p)
  both_columns first second line = record {
    place = λ o at w.
        ap (λ a. a >>= λ address. line_of layout fields o) (first.said o.address_up o.address_down at.address)
        ∙ ap (λ r. placed (2 ^ 63) (column (has_line layout) r) o.line_up o.line_down) (sym first.behind_it)
        ∙ second.said o.line_up o.line_down at.line
        ∙ ap Ok (sym line);
    moves = λ o at. record {
      address = first.moves o.address_up o.address_down at.address;
      line =
          subst (λ r. p.places.line + moved down (column (has_line layout) r) o.line_down ≡ moved up (column (has_line layout) r) o.line_up) first.behind_it
          (second.moves o.line_up o.line_down at.line);
    };
    costs = second.behind_it ∙ ap (behind (has_line layout)) first.behind_it ∙ behind_both layout fields;
    count = let a = first.count in let b = second.count in let w = width_both layout in omega (arith, a, b, w);
  }
