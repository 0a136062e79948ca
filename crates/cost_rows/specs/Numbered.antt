-- When two maps find the place of each name.
use Rattle.std.specs.Prelude.{◌≡◌, ◌⊎◌, ℕ, ◌≤◌, ◌^◌, true, false, List, Some, length, slice_get}
use Rattle.std.specs.Ordering.{nat_cmp}
use Rattle.std.specs.Cmp.Lexicographic.{slice_cmp}
use Rattle.std.specs.Str.{bytes_eq}
use Rattle.std.specs.BTreeMap.{BTreeMap, get, get_by}
use Rattle.std.specs.declared.vec.Vec.{Vec}
use Rattle.cg_text.specs.Distinct.{are_distinct}
use Rattle.cost_rows.specs.Hashes.{hash_of}

module _ {Z : Type 0} where
  -- a name has this number by its hash, or by itself
  abbrev pub IsFoundAt : List ℕ → ℕ → BTreeMap ℕ ℕ → BTreeMap (Vec ℕ Z) ℕ → Type 0
  IsFoundAt name n hashes others = (get nat_cmp hashes (hash_of name) ≡ Some n) ⊎ (get_by (λ k. slice_cmp nat_cmp name k.items) others ≡ Some n)

  -- what other maps find of every name but one, these find at the same number
  abbrev pub FindsAllBut : List ℕ → BTreeMap ℕ ℕ → BTreeMap (Vec ℕ Z) ℕ → BTreeMap ℕ ℕ → BTreeMap (Vec ℕ Z) ℕ → Type 0
  FindsAllBut name hashes others more_hashes more_others =
      (other : List ℕ) (n : ℕ) → bytes_eq other name ≡ false → IsFoundAt other n hashes others → IsFoundAt other n more_hashes more_others

  pub record IsNumbered (names : List (List ℕ)) (hashes : BTreeMap ℕ ℕ) (others : BTreeMap (Vec ℕ Z) ℕ) : Type 0 where
    -- each name is found at its place; a map may have more
    pub found : (name : List ℕ) (n : ℕ) → slice_get names n ≡ Some name → IsFoundAt name n hashes others
    -- no name stands twice
    pub distinct : are_distinct names ≡ true
    -- each number fits 32 bits
    pub few : length names ≤ 2 ^ 32
