use Rattle.std.proofs.Common.{◌≡◌, ◌<◌, ◌++◌, length, length-append, ◌∙◌, ap, arith, rules}
use Rattle.std.proofs.lemmas.Bool.{MatchBool-at_true, MatchBool-at_false}
use Rattle.text_pieces.specs.Cut.{cut}
use Rattle.text_pieces.proofs.CutLemmas.{rest-run}
use Rattle.text_pieces.proofs.pieces.Pieces.keep.Goals as goal

pub returns-then-self-clause-keeps : goal.returns-then-self-clause-keeps
returns-then-self-clause-keeps c = λ text keeps.
    let was : 1048576 < length (cut text).rest = MatchBool-at_true _ _ c.if-self.true keeps in
    rw (c.if-self.true, rest-run c.args.bytes.now text c.requires.none) (omega (arith, was, length-append (cut text).rest c.args.bytes.now))

pub returns-then-bytes-len-clause-keeps : goal.returns-then-bytes-len-clause-keeps
returns-then-bytes-len-clause-keeps c = λ text keeps.
    let same : c.args.self.now.partial.items ≡ (cut text).rest = MatchBool-at_false _ _ c.if-self.false keeps in
    rw (rest-run c.args.bytes.now text c.requires.none) (omega (arith, length-append (cut text).rest c.args.bytes.now, ap length same, c.args.self.now.partial.ok.0))

pub returns-clause-keeps : goal.returns-clause-keeps
returns-clause-keeps c = λ text keeps.
    let same : c.args.self.now.partial.items ≡ (cut text).rest = MatchBool-at_false _ _ c.if-self.false keeps in
    let pushed : c.extend_from_slice.new.self.items ≡ c.args.self.now.partial.items ++ c.args.bytes.now = search rules in
    rw (c.if-self.false, rest-run c.args.bytes.now text c.requires.none) (pushed ∙ ap (λ xs. xs ++ c.args.bytes.now) same)
