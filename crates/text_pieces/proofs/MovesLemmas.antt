-- What calls do to a text that comes in pieces, one after another.
use Rattle.std.proofs.Common.{◌≡◌, ◌≢◌, ℕ, ◌+◌, ◌≤◌, ◌<◌, List, [], ◌∷◌, ◌++◌, fold, length, Result, Ok, Err, OnOk, OnErr, IsErr, refl, sym, ◌∙◌, ap, subst, arith}
use Rattle.std.specs.List.{AllByRecursion}
use Rattle.std.proofs.lemmas.List.{append-nil, append_assoc, length-append}
use Rattle.std.proofs.lemmas.Grind.{fold-append}
use Rattle.text_pieces.specs.Cut.{cut}
use Rattle.text_pieces.specs.Backwards.{back_of, handed_on}
use Rattle.text_pieces.specs.Kept.{Keeps, taken_of, IsSpent}
use Rattle.text_pieces.specs.LineIs.{IsLine}
use Rattle.text_pieces.specs.Moves.{Moment, at, Took, Ready, Told, Moves, Refused, Stops, TakesLine, TakesBytes, Ends}
use Rattle.text_pieces.specs.declared.pieces.Pieces.{Pieces}
use Rattle.text_pieces.specs.declared.takes.Line.{Line}
use Rattle.text_pieces.specs.declared.takes.LineSink.{Ghosts}
use Rattle.text_pieces.proofs.CutLemmas.{back-run, end-none, end-some}
use Rattle.text_pieces.proofs.PrefixLemmas.{first_of, nothing_more}

module _ {T S : Type 0} (t : Ghosts T S) where
  -- ---- what was told

  told_none : (k : S) (back : List t.Reading) → Told t k k back back
  told_none k back = record { more = []; adds = sym (append-nil (handed_on t.adds back)); means = refl }

  told_then : (k l m : S) (a b c : List t.Reading) → Told t k l a b → Told t l m b c → Told t k m a c
  told_then k l m a b c one two = record {
    more = one.more ++ two.more;
    adds = two.adds ∙ ap (λ xs. xs ++ two.more) one.adds ∙ append_assoc (handed_on t.adds a) one.more two.more;
    means = two.means ∙ ap (λ x. fold t.step x two.more) one.means ∙ sym (fold-append t.step (t.meaning k) one.more two.more);
  }

  -- ---- bytes that are taken

  pub ready_less : (m : Moment T S) (n k : ℕ) → Ready t m n → k ≤ n → Ready t m k
  ready_less m n k ready less = let room = ready.room in record { room = omega (arith, room, less); lines = ready.lines; fits = ready.fits; fresh = ready.fresh }

  -- what is taken is a text and the bytes
  took_more : (old new : Moment T S) (bytes text : List ℕ) → Moves t old bytes new → Took t old text → Took t new (text ++ bytes)
  took_more old new bytes text h took = record { keeps = h.keeps text took.keeps; represents = h.represents text took }

  -- none are taken
  pub moves_none : (m : Moment T S) → Ready t m 0 → Moves t m [] m
  moves_none m ready = record {
    keeps = λ text keeps. rw (append-nil text) keeps;
    represents = λ text took. rw (append-nil text) took.represents;
    told = λ text took. rw (append-nil text) (told_none m.sink (back_of t.reading_of text));
    taken = omega arith;
    lines = ready.lines;
    fits = ready.fits;
    fresh = ready.fresh;
  }

  -- bytes, and then more
  pub moves_then : (a b c : Moment T S) (xs ys : List ℕ) → Moves t a xs b → Moves t b ys c → Moves t a (xs ++ ys) c
  moves_then a b c xs ys one two = record {
    keeps = λ text keeps. rw (← append_assoc text xs ys) (two.keeps (text ++ xs) (one.keeps text keeps));
    represents = λ text took. rw (← append_assoc text xs ys) (two.represents (text ++ xs) (took_more a b xs text one took));
    told = λ text took. rw (← append_assoc text xs ys) (told_then a.sink b.sink c.sink _ _ _ (one.told text took) (two.told (text ++ xs) (took_more a b xs text one took)));
    taken = omega (arith, one.taken, two.taken, length-append xs ys);
    lines = two.lines;
    fits = two.fits;
    fresh = two.fresh;
  }

  pub ready_on : (a b : Moment T S) (bytes : List ℕ) (n k : ℕ) → Ready t a n → Moves t a bytes b → length bytes + k ≤ n → Ready t b k
  ready_on a b bytes n k ready h less = let room = ready.room in let taken = h.taken in record { room = omega (arith, room, taken, less); lines = h.lines; fits = h.fits; fresh = h.fresh }

  -- bytes that end no line
  pub moves_run : (p q : Pieces) (s : T) (k : S) (run : List ℕ) → AllByRecursion (λ b. b ≢ 10) run → ((text : List ℕ) → Keeps p text → Keeps q (text ++ run)) → taken_of q ≡ taken_of p + length run → q.spent ≡ p.spent
      → Ready t (at p s k) (length run) → Moves t (at p s k) run (at q s k)
  moves_run p q s k run none keeps taken spent ready = record {
    keeps = keeps;
    represents = λ text took. rw (back-run t.reading_of run text none).0 took.represents;
    told = λ text took. rw (back-run t.reading_of run text none).0 (told_none k (back_of t.reading_of text));
    taken = taken;
    lines = let few = ready.lines in omega (arith, few, taken);
    fits = ready.fits;
    fresh = λ is. ready.fresh (sym spent ∙ is);
  }

  -- ---- a line that is taken

  -- behind a text these bytes end a line, which is kept no more
  pub record EndsLine (line : Line) (p q : Pieces) (bytes text : List ℕ) : Type 0 where
    pub said : List ℕ
    pub is_line : IsLine line said
    pub nearest : back_of t.reading_of (text ++ bytes) ≡ t.reading_of said ∷ back_of t.reading_of text
    pub keeps : Keeps q (text ++ bytes)

  module _ (line : Line) (p q : Pieces) (s s' : T) (k k' : S) (bytes : List ℕ) where
    pub moves_line : ((text : List ℕ) → Keeps p text → EndsLine line p q bytes text) → taken_of q ≡ taken_of p + length bytes → 0 < length bytes → t.lines s ≤ taken_of p → (IsSpent q → ⊥)
        → ((text : List ℕ) (back : List t.Reading) → IsLine line text → t.represents s back → t.represents s' (t.reading_of text ∷ back))
        → ((text : List ℕ) (back : List t.Reading) → IsLine line text → t.represents s back → t.meaning k' ≡ fold t.step (t.meaning k) (t.adds (t.reading_of text) back))
        → t.fits s' k' → t.lines s' ≡ t.lines s + 1 → Moves t (at p s k) bytes (at q s' k')
    moves_line ends taken some few fresh represents told fits lines = record {
      keeps = λ text keeps. (ends text keeps).keeps;
      represents = λ text took. let end = ends text took.keeps in rw end.nearest (represents end.said (back_of t.reading_of text) end.is_line took.represents);
      told = λ text took.
          let end = ends text took.keeps in
          let back = back_of t.reading_of text in
          record { more = t.adds (t.reading_of end.said) back; adds = ap (handed_on t.adds) end.nearest; means = told end.said back end.is_line took.represents };
      taken = taken;
      lines = omega (arith, taken, some, few, lines);
      fits = fits;
      fresh = fresh;
    }

    -- whatever is answered
    pub takes_line : {X E : Type 0} (r : Result X E) → ((text : List ℕ) → Keeps p text → EndsLine line p q bytes text) → taken_of q ≡ taken_of p + length bytes → 0 < length bytes → t.lines s ≤ taken_of p → (IsSpent q → ⊥)
        → OnOk r ((text : List ℕ) (back : List t.Reading) → IsLine line text → t.represents s back → t.represents s' (t.reading_of text ∷ back))
        → OnOk r ((text : List ℕ) (back : List t.Reading) → IsLine line text → t.represents s back → t.meaning k' ≡ fold t.step (t.meaning k) (t.adds (t.reading_of text) back))
        → OnOk r (t.fits s' k') → t.lines s' ≡ t.lines s + 1 → OnErr r (t.meaning k' ≡ t.meaning k) → TakesLine t r (at p s k) bytes (at q s' k')
    takes_line (Ok x) ends taken some few fresh represents told fits lines same = record { done = moves_line ends taken some few fresh represents told fits lines; refused = tt }
    takes_line (Err e) ends taken some few fresh represents told fits lines same = record { done = tt; refused = record { untouched = same; lines = omega (arith, taken, some, few, lines) } }

  -- ---- a line that is refused

  -- nothing was told since some bytes were taken
  pub stops_behind : (a b c : Moment T S) (xs ys zs : List ℕ) → xs ++ ys ≡ zs → Moves t a xs b → Refused t b c → Stops t a zs c
  stops_behind a b c xs ys zs joined one h = record {
    told = λ text took.
        let told = one.told text took in
        let all : (text ++ xs) ++ ys ≡ text ++ zs = append_assoc text xs ys ∙ ap (λ bs. text ++ bs) joined in
        record {
          more = told.more;
          first = first_of t.reading_of t.adds (text ++ xs) ys (text ++ zs) _ all told.adds;
          means = h.untouched ∙ told.means;
        };
    lines = h.lines;
  }

  -- nothing was told at all
  pub stops_first : (a c : Moment T S) (bytes : List ℕ) → Refused t a c → Stops t a bytes c
  stops_first a c bytes h = record {
    told = λ text took. record { more = []; first = nothing_more t.reading_of t.adds text bytes; means = h.untouched };
    lines = h.lines;
  }

  -- ---- what is answered

  pub stops : {X E : Type 0} (r : Result X E) (a c : Moment T S) (bytes : List ℕ) → IsErr r → Stops t a bytes c → TakesBytes t r a bytes c
  stops (Ok x) a c bytes is h = absurd (cc is)
  stops (Err e) a c bytes is h = record { done = tt; stopped = h }

  -- bytes that hand nothing on, and then a line
  pub takes_then : {X E : Type 0} (r : Result X E) (a b c : Moment T S) (xs ys : List ℕ) → Moves t a xs b → t.meaning b.sink ≡ t.meaning a.sink → TakesLine t r b ys c → TakesLine t r a (xs ++ ys) c
  takes_then (Ok x) a b c xs ys one same h = record { done = moves_then a b c xs ys one h.done; refused = tt }
  takes_then (Err e) a b c xs ys one same h = let last : Refused t b c = h.refused in record { done = tt; refused = record { untouched = last.untouched ∙ same; lines = last.lines } }

  -- bytes, and then the last ones, which end no line
  pub takes_last : {X E : Type 0} (r : Result X E) (a : Moment T S) (p q : Pieces) (s : T) (k : S) (xs run zs : List ℕ) → xs ++ run ≡ zs → Moves t a xs (at p s k) → AllByRecursion (λ b. b ≢ 10) run → Ready t (at p s k) (length run)
      → OnOk r ((text : List ℕ) → Keeps p text → Keeps q (text ++ run)) → taken_of q ≡ taken_of p + length run → q.spent ≡ p.spent → TakesBytes t r a zs (at q s k)
  takes_last (Ok x) a p q s k xs run zs joined one none ready keeps taken spent = record {
    done = subst (λ bytes. Moves t a bytes (at q s k)) joined (moves_then a (at p s k) (at q s k) xs run one (moves_run p q s k run none keeps taken spent ready));
    stopped = tt;
  }
  takes_last (Err e) a p q s k xs run zs joined one none ready keeps taken spent = record {
    done = tt;
    stopped = stops_behind a (at p s k) (at q s k) xs run zs joined one (record { untouched = refl; lines = let few = ready.lines in omega (arith, few, taken) });
  }

  -- ---- the end of a text

  -- nothing is left
  pub ends_none : (p : Pieces) (s : T) (k : S) → ((text : List ℕ) → Keeps p text → (cut text).rest ≡ []) → Ends t (at p s k) s k
  ends_none p s k none = record {
    represents = λ text took. rw (end-none t.reading_of text (none text took.keeps)) took.represents;
    told = λ text took. rw (end-none t.reading_of text (none text took.keeps)) (told_none k (back_of t.reading_of text));
  }

  -- what is left is a line
  pub ends_line : {X E : Type 0} (r : Result X E) (line : Line) (p : Pieces) (s s' : T) (k k' : S) → ((text : List ℕ) → Keeps p text → IsLine line (cut text).rest) → ((text : List ℕ) → Keeps p text → (cut text).rest ≡ [] → ⊥)
      → OnOk r ((text : List ℕ) (back : List t.Reading) → IsLine line text → t.represents s back → t.represents s' (t.reading_of text ∷ back))
      → OnOk r ((text : List ℕ) (back : List t.Reading) → IsLine line text → t.represents s back → t.meaning k' ≡ fold t.step (t.meaning k) (t.adds (t.reading_of text) back))
      → OnOk r (Ends t (at p s k) s' k')
  ends_line (Ok x) line p s s' k k' is_line some represents told = record {
    represents = λ text took. rw (end-some t.reading_of text (some text took.keeps)) (represents (cut text).rest (back_of t.reading_of text) (is_line text took.keeps) took.represents);
    told = λ text took.
        let said = (cut text).rest in
        let back = back_of t.reading_of text in
        record { more = t.adds (t.reading_of said) back; adds = ap (handed_on t.adds) (end-some t.reading_of text (some text took.keeps)); means = told said back (is_line text took.keeps) took.represents };
  }
  ends_line (Err e) line p s s' k k' is_line some represents told = tt
