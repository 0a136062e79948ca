-- The names of groups are UTF-8.
use Rattle.std.proofs.Common.{◌≡◌, ℕ, zero, suc, ◌<◌, true, List, [], ◌∷◌, arith}
use Rattle.std.specs.Bool.{IsTrue}
use Rattle.std.specs.List.{AllByRecursion, slice_index}
use Rattle.std.specs.Str.{IsUtf8}
use Rattle.std.proofs.lemmas.List.Elements.{recursion_from_All}
use Rattle.std.proofs.lemmas.Str.{IsUtf8-from_ascii}
use Rattle.std.proofs.lemmas.Bool.Decides.{nat_tests}
use Rattle.plain_tables.specs.Labels.{IsGroupName, is_name_byte}

small : (b : ℕ) → is_name_byte b ≡ true → b < 128
small b is = grind (arith, nat_tests)

all_small : (text : List ℕ) → AllByRecursion (λ byte. IsTrue (is_name_byte byte)) text → (i : ℕ) → slice_index text i < 128
all_small [] all i = omega arith
all_small (b ∷ text) all zero = small b all.0
all_small (b ∷ text) all (suc i) = all_small text all.1 i

pub group_utf8 : (text : List ℕ) → IsGroupName text → IsUtf8 text
group_utf8 text named = IsUtf8-from_ascii text (all_small text (recursion_from_All (λ byte. IsTrue (is_name_byte byte)) text named.2))
