-- Texts that are held, or counted.
use Rattle.std.proofs.Common.{◌≡◌, ◌+◌, ℕ, List, ◌++◌, length, refl, sym, ap, ◌∙◌, append_assoc, append-nil, arith}
use Rattle.std.proofs.lemmas.List.{length-append}
use Rattle.byte_io.specs.Sinks.{HasGone}
use Rattle.cost_exports.specs.declared.held_texts.CountedText.{CountedText}
use Rattle.cost_exports.specs.declared.held_texts.HeldText.{HeldText}
use Rattle.byte_io.proofs.SinkLemmas.{gone_as}

abbrev Holds : HeldText → List ℕ → HeldText → Type 0
Holds old piece new = (new.text.items ≡ old.text.items ++ piece) × (new.most ≡ old.most)

-- a text that was taken is held behind what was
pub held_all : (from : HeldText) (text : List ℕ) (to : HeldText) → HasGone (λ old piece new. (new.text.items ≡ old.text.items ++ piece) × (new.most ≡ old.most)) from text to → Holds from text to
held_all = gone_as Holds Holds (λ held. (sym (append-nil held.text.items), refl)) (λ a b c x y one more. (more.0 ∙ ap (λ l. l ++ y) one.0 ∙ append_assoc a.text.items x y, more.1 ∙ one.1))

abbrev Counts : CountedText → List ℕ → CountedText → Type 0
Counts old piece new = (new.count ≡ old.count + length piece) × (new.most ≡ old.most)

-- or counted
pub counted_all : (from : CountedText) (text : List ℕ) (to : CountedText) → HasGone (λ old piece new. (new.count ≡ old.count + length piece) × (new.most ≡ old.most)) from text to → Counts from text to
counted_all = gone_as Counts Counts (λ held. (omega arith, refl)) (λ a b c x y one more. (let here = one.0 in let later = more.0 in let all = length-append x y in omega (arith, here, later, all), more.1 ∙ one.1))

pub counted_from_none : (from : CountedText) (text : List ℕ) (to : CountedText) → from.count ≡ 0 → HasGone (λ old piece new. (new.count ≡ old.count + length piece) × (new.most ≡ old.most)) from text to → to.count ≡ length text
counted_from_none from text to none gone = let all = counted_all from text to gone in let count = all.0 in omega (arith, count, none)
