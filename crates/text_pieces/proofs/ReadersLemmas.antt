-- What is told from the first line on.
use Rattle.std.proofs.Common.{◌≡◌, ℕ, List, [], ◌++◌, fold, map, Result, Ok, Err, OnOk, OnErr, sym, ◌∙◌, ap, subst}
use Rattle.std.proofs.lemmas.List.{append-nil}
use Rattle.cg_text.specs.Lines.{lines_of}
use Rattle.text_pieces.specs.Cut.{cut}
use Rattle.text_pieces.specs.Backwards.{back_of, end_of, handed_on, so_far, in_all, Agrees, IsPrefix}
use Rattle.text_pieces.specs.Moves.{at, Took, TakesBytes, Ends}
use Rattle.text_pieces.specs.Readers.{Represents, HandsAll, HandsPart}
use Rattle.text_pieces.specs.declared.pieces.Pieces.{Pieces}
use Rattle.text_pieces.specs.declared.takes.LineSink.{Ghosts}
use Rattle.text_pieces.proofs.PrefixLemmas.{text_prefix, file_prefix}

-- ---- a format that is told from the first line on as looking back

module _ {A B : Type 0} (says : List ℕ → A) (tells : List A → List B) (adds : A → List A → List B) (agrees : Agrees tells adds) where
  pub so_far_is : (text : List ℕ) → so_far says tells text ≡ handed_on adds (back_of says text)
  so_far_is text = agrees (map says (cut text).lines)

  pub in_all_is : (text : List ℕ) → in_all says tells text ≡ handed_on adds (end_of says text)
  in_all_is text = agrees (map says (lines_of text))

  -- what was handed on comes first among what a text hands on that goes on
  pub handed_first : (text bytes : List ℕ) (told : List B) → told ≡ so_far says tells text → IsPrefix told (in_all says tells (text ++ bytes))
  handed_first text bytes told handed =
      let first = file_prefix says adds text bytes in
      (first.0, in_all_is (text ++ bytes) ∙ first.1 ∙ ap (λ xs. xs ++ first.0) (sym (handed ∙ so_far_is text)))

  pub handed_now : (text : List ℕ) (told : List B) → told ≡ so_far says tells text → IsPrefix told (in_all says tells text)
  handed_now text told handed =
      let first = text_prefix says adds text in
      (first.0, in_all_is text ∙ first.1 ∙ ap (λ xs. xs ++ first.0) (sym (handed ∙ so_far_is text)))

  -- a sink that means what it meant was told a part of the rest, which is empty
  pub part_none : {M : Type 0} (step : M → B → M) (text : List ℕ) (told : List B) (before after : M) → told ≡ so_far says tells text → after ≡ before → HandsPart (in_all says tells) step text told before after
  part_none step text told before after handed same = ([], subst (λ xs. IsPrefix xs (in_all says tells text)) (sym (append-nil told)) (handed_now text told handed), same)

  -- with what comes it is all
  pub all_on : (text : List ℕ) (told more : List B) → told ≡ so_far says tells text → handed_on adds (end_of says text) ≡ handed_on adds (back_of says text) ++ more → in_all says tells text ≡ told ++ more
  all_on text told more handed is = in_all_is text ∙ is ∙ ap (λ xs. xs ++ more) (sym (handed ∙ so_far_is text))

-- ---- calls of the pieces, as those of a reader

module _ {T S : Type 0} (t : Ghosts T S) (tells : List t.Reading → List t.Record) (agrees : Agrees tells t.adds) where
  abbrev Stands : Pieces → T → List ℕ → List t.Record → Type 0
  Stands = Represents t.reading_of tells t.represents

  took : (p : Pieces) (s : T) (k : S) (text : List ℕ) (told : List t.Record) → Stands p s text told → Took t (at p s k) text
  took p s k text told reads = record { keeps = reads.rest; represents = reads.lines }

  module _ (p : Pieces) (s : T) (k : S) where
    pub goes_on : {X E : Type 0} (r : Result X E) (q : Pieces) (s' : T) (k' : S) (bytes : List ℕ) → TakesBytes t r (at p s k) bytes (at q s' k')
        → OnOk r ((text : List ℕ) (told : List t.Record) → Stands p s text told → (more : List t.Record) × Stands q s' (text ++ bytes) (told ++ more) × (t.meaning k' ≡ fold t.step (t.meaning k) more))
    goes_on (Ok x) q s' k' bytes h = λ text told reads.
        let before = took p s k text told reads in
        let more = h.done.told text before in
        let all = so_far_is t.reading_of tells t.adds agrees in (
          more.more,
          record {
            lines = h.done.represents text before;
            rest = h.done.keeps text reads.rest;
            handed = ap (λ xs. xs ++ more.more) (reads.handed ∙ all text) ∙ sym (all (text ++ bytes) ∙ more.adds);
          },
          more.means,
        )
    goes_on (Err e) q s' k' bytes h = tt

    pub breaks_off : {X E : Type 0} (r : Result X E) (q : Pieces) (s' : T) (k' : S) (bytes : List ℕ) → TakesBytes t r (at p s k) bytes (at q s' k')
        → OnErr r ((text : List ℕ) (told : List t.Record) → Stands p s text told → HandsPart (in_all t.reading_of tells) t.step (text ++ bytes) told (t.meaning k) (t.meaning k'))
    breaks_off (Ok x) q s' k' bytes h = tt
    breaks_off (Err e) q s' k' bytes h = λ text told reads.
        let part = h.stopped.told text (took p s k text told reads) in
        let all = in_all_is t.reading_of tells t.adds agrees (text ++ bytes) in
        let same = reads.handed ∙ so_far_is t.reading_of tells t.adds agrees text in
        (part.more, (part.first.0, all ∙ part.first.1 ∙ ap (λ xs. (xs ++ part.more) ++ part.first.0) (sym same)), part.means)

    pub hands_all : (s' : T) (k' : S) (text : List ℕ) (told : List t.Record) → Ends t (at p s k) s' k' → Stands p s text told → HandsAll (in_all t.reading_of tells) t.step text told (t.meaning k) (t.meaning k')
    hands_all s' k' text told h reads =
        let more = h.told text (took p s k text told reads) in
        (more.more, all_on t.reading_of tells t.adds agrees text told more.more reads.handed more.adds, more.means)

    pub stands_at_end : (s' : T) (k' : S) (text : List ℕ) (told : List t.Record) → Ends t (at p s k) s' k' → Stands p s text told → t.represents s' (end_of t.reading_of text)
    stands_at_end s' k' text told h reads = h.represents text (took p s k text told reads)

-- what was handed on is a part of the rest too
pub part_of : {B M : Type 0} (all : List ℕ → List B) (step : M → B → M) (text : List ℕ) (told : List B) (before after : M) → HandsAll all step text told before after → HandsPart all step text told before after
part_of all step text told before after h = (h.0, ([], h.1 ∙ sym (append-nil (told ++ h.0))), h.2)
