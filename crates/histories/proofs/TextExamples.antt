-- The rows of whole texts, computed.
use Rattle.std.proofs.Common.{◌≡◌, true, [], ◌∷◌, codes, refl}
use Rattle.cg_text.specs.Fields.{line_text}
use Rattle.cg_text.specs.Kinds.{kind_of}
use Rattle.cg_text.specs.Names.{name_of}
use Rattle.cg_text.specs.Numbers.{number_of, amount_of}
use Rattle.cg_text.specs.Readings.{reading_of}
use Rattle.cg_text.specs.Subpositions.{subpos_of}
use Rattle.callgrind_reader.specs.Files.{records_of_file}
use Rattle.folded_reader.specs.Lines as folded
use Rattle.folded_reader.specs.Files.{stacks_of_file}
use Rattle.cost_rows.specs.StackSums.{leaf_sum, frames_sum}
use Rattle.cost_rows.specs.Sums.{count_sum}
use Rattle.histories.specs.Files.{content_of_text, content_of_folded}
use Rattle.std.specs.Str.{bytes_eq}

-- two rows of one place
cells-twice : (content_of_text (codes "events: Ir\n1 1\n1 2\n")).cells ≡ (record { place = record { object = 0; file = 0; function = 0; line = 1 }; thread = 0 }, 3 ∷ []) ∷ []
unfolding reading_of line_text kind_of name_of number_of amount_of subpos_of
cells-twice = refl

-- two calls of one function
edges-twice : (content_of_text (codes "events: Ir\nfn=f\ncfn=g\ncalls=1 1\n5 10\ncfn=g\ncalls=2 1\n5 20\n")).calls
    ≡ (record { place = record { object = 0; file = 0; function = 1; line = 5 }; object = 0; file = 0; function = 2 }, record { count = 3; costs = 30 ∷ [] }) ∷ []
unfolding reading_of line_text kind_of name_of number_of amount_of subpos_of
edges-twice = refl

calls-twice : count_sum (λ _ _. true) (records_of_file (codes "events: Ir\nfn=f\ncfn=g\ncalls=1 1\n5 10\ncfn=g\ncalls=2 1\n5 20\n")) ≡ 3
unfolding reading_of line_text kind_of name_of number_of amount_of subpos_of
calls-twice = refl

-- a function that stands twice in a stack counts once
folded-names : (content_of_folded (codes "a;b;a 3\na;b 2\n")).names ≡ codes "???" ∷ codes "a" ∷ codes "b" ∷ []
unfolding folded.reading_of
folded-names = refl

folded-stacks : (content_of_folded (codes "a;b;a 3\na;b 2\n")).stacks ≡ (codes "a;b", 2) ∷ (codes "a;b;a", 3) ∷ []
unfolding folded.reading_of
folded-stacks = refl

leaves-of_a : leaf_sum (λ s. bytes_eq s.function (codes "a")) (stacks_of_file (codes "a;b;a 3\na;b 2\n")) ≡ 3
unfolding folded.reading_of
leaves-of_a = refl

frames-of_b : frames_sum (λ frames. bytes_eq frames (codes "a;b")) (stacks_of_file (codes "a;b;a 3\na;b 2\n")) ≡ 2
unfolding folded.reading_of
frames-of_b = refl
