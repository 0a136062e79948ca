-- Texts in one buffer, and one more or fewer.
use Rattle.std.proofs.Common.{◌≡◌, ◌≤◌, ◌<◌, ◌+◌, ◌-◌, ℕ, zero, suc, List, [], ◌∷◌, ◌++◌, Some, drop, length, take, slice_get, slice_index, ap, ap₂, refl, sym, subst, ◌∙◌, arith, length-drop}
use Rattle.std.proofs.lemmas.List.{drop-append-le, length-take-le, take-append-drop, take-append-le, take_all}
use Rattle.cg_text.specs.Texts.{RiseTo, begin_at, last_end, texts_from}

pub count_of : (bytes ends : List ℕ) (from : ℕ) → length (texts_from bytes from ends) ≡ length ends
count_of bytes [] from = refl
count_of bytes (end ∷ ends) from = ap suc (count_of bytes ends end)

-- the first place is not behind the last
pub rises : (from : ℕ) (ends : List ℕ) (last : ℕ) → RiseTo from ends last → from ≤ last
rises from [] last same = let is : from ≡ last = same in omega (arith, is)
rises from (end ∷ ends) last (up, more) = let rest = rises end ends last more in omega (arith, up, rest)

-- bytes behind the last place are no part of them
pub longer : (bytes more ends : List ℕ) (from : ℕ) → RiseTo from ends (length bytes) → texts_from (bytes ++ more) from ends ≡ texts_from bytes from ends
longer bytes more [] from rise = refl
longer bytes more (end ∷ ends) from (up, rest) =
    let low = rises end ends (length bytes) rest in
    ap₂ ◌∷◌
    (ap (take (end - from)) (drop-append-le from bytes more (omega (arith, up, low)))
    ∙ take-append-le (end - from) (drop from bytes) more (omega (arith, up, low, length-drop from bytes)))
    (longer bytes more ends end rest)

-- one more text
pub pushed : (bytes text ends : List ℕ) (from end : ℕ) → RiseTo from ends (length bytes) → end ≡ length bytes + length text
    → texts_from (bytes ++ text) from (ends ++ end ∷ []) ≡ texts_from bytes from ends ++ text ∷ []
pushed bytes text [] from end same is =
    let at : from ≡ length bytes = same in
    ap (λ l. l ∷ [])
    (ap (take (end - from)) (subst (λ n. drop n (bytes ++ text) ≡ text) (sym at) (drop_front bytes text))
    ∙ take_all (end - from) text (omega (arith, at, is)))
  where
    drop_front : (xs ys : List ℕ) → drop (length xs) (xs ++ ys) ≡ ys
    drop_front [] ys = refl
    drop_front (x ∷ xs) ys = drop_front xs ys
pushed bytes text (first ∷ ends) from end (up, rest) is =
    let low = rises first ends (length bytes) rest in
    ap₂ ◌∷◌
    (ap (take (first - from)) (drop-append-le from bytes text (omega (arith, up, low)))
    ∙ take-append-le (first - from) (drop from bytes) text (omega (arith, up, low, length-drop from bytes)))
    (pushed bytes text ends first end rest is)

pub rise_on : (from last : ℕ) (ends : List ℕ) (end : ℕ) → RiseTo from ends last → last ≤ end → RiseTo from (ends ++ end ∷ []) end
rise_on from last [] end same up = let is : from ≡ last = same in (omega (arith, is, up), refl)
rise_on from last (first ∷ ends) end (low, rest) up = (low, rise_on first last ends end rest up)

-- the text at a place
pub text_there : (bytes ends : List ℕ) (from at : ℕ) → at < length ends
    → slice_get (texts_from bytes from ends) at ≡ Some (take (slice_index ends at - begin_at from ends at) (drop (begin_at from ends at) bytes))
text_there bytes [] from at low = absurd (omega (arith, low))
text_there bytes (end ∷ ends) from zero low = refl
text_there bytes (end ∷ ends) from (suc zero) low = text_there bytes ends end zero (omega (arith, low))
text_there bytes (end ∷ ends) from (suc (suc at)) low = text_there bytes ends end (suc at) (omega (arith, low))

pub begins_low : (ends : List ℕ) (from at last : ℕ) → RiseTo from ends last → at < length ends → begin_at from ends at ≤ slice_index ends at
begins_low [] from at last rise low = absurd (omega (arith, low))
begins_low (end ∷ ends) from zero last (up, rest) low = up
begins_low (end ∷ ends) from (suc zero) last (up, rest) low = begins_low ends end zero last rest (omega (arith, low))
begins_low (end ∷ ends) from (suc (suc at)) last (up, rest) low = begins_low ends end (suc at) last rest (omega (arith, low))

pub ends_low : (ends : List ℕ) (from at last : ℕ) → RiseTo from ends last → at < length ends → slice_index ends at ≤ last
ends_low [] from at last rise low = absurd (omega (arith, low))
ends_low (end ∷ ends) from zero last (up, rest) low = rises end ends last rest
ends_low (end ∷ ends) from (suc at) last (up, rest) low = ends_low ends end at last rest (omega (arith, low))

-- the first texts
pub first_texts : (bytes ends : List ℕ) (from count : ℕ) → texts_from bytes from (take count ends) ≡ take count (texts_from bytes from ends)
first_texts bytes ends from zero = refl
first_texts bytes [] from (suc count) = refl
first_texts bytes (end ∷ ends) from (suc count) = ap (λ l. take (end - from) (drop from bytes) ∷ l) (first_texts bytes ends end count)

pub first_rise : (ends : List ℕ) (from count last : ℕ) → RiseTo from ends last → RiseTo from (take count ends) (last_end from (take count ends))
first_rise ends from zero last rise = refl
first_rise [] from (suc count) last rise = refl
first_rise (end ∷ ends) from (suc count) last (up, rest) = (up, first_rise ends end count last rest)

pub last_low : (ends : List ℕ) (from count last : ℕ) → RiseTo from ends last → last_end from (take count ends) ≤ last
last_low ends from zero last rise = rises from ends last rise
last_low [] from (suc count) last rise = rises from [] last rise
last_low (end ∷ ends) from (suc count) last (up, rest) = last_low ends end count last rest

-- with no byte behind them
pub cut_behind : (bytes ends : List ℕ) (from last : ℕ) → RiseTo from ends last → last ≤ length bytes → texts_from (take last bytes) from ends ≡ texts_from bytes from ends
cut_behind bytes ends from last rise low =
    let same : length (take last bytes) ≡ last = length-take-le last bytes low in
    sym (longer (take last bytes) (drop last bytes) ends from (subst (RiseTo from ends) (sym same) rise)) ∙ ap (λ l. texts_from l from ends) (take-append-drop last bytes)

-- so many texts are left, and no byte behind them
pub cut_to : (bytes ends new_bytes new_ends : List ℕ) (count end : ℕ) → RiseTo 0 ends (length bytes) → new_ends ≡ take count ends → end ≡ last_end 0 new_ends → new_bytes ≡ take end bytes
    → RiseTo 0 new_ends (length new_bytes) × (texts_from new_bytes 0 new_ends ≡ take count (texts_from bytes 0 ends))
cut_to bytes ends new_bytes new_ends count end rise ends_are end_is bytes_are =
    let low : last_end 0 (take count ends) ≤ length bytes = last_low ends 0 count (length bytes) rise in
    let at : end ≡ last_end 0 (take count ends) = end_is ∙ ap (last_end 0) ends_are in
    let cut : RiseTo 0 (take count ends) end = subst (RiseTo 0 (take count ends)) (sym at) (first_rise ends 0 count (length bytes) rise) in
    let long : length new_bytes ≡ end = ap length bytes_are ∙ length-take-le end bytes (subst (λ n. n ≤ length bytes) (sym at) low) in (
      subst (λ l. RiseTo 0 l (length new_bytes)) (sym ends_are) (subst (RiseTo 0 (take count ends)) (sym long) cut),
      ap₂ (λ b e. texts_from b 0 e) bytes_are ends_are ∙ cut_behind bytes (take count ends) 0 end cut (subst (λ n. n ≤ length bytes) (sym at) low) ∙ first_texts bytes ends 0 count,
    )

-- the text at a place stands between two places of the buffer
pub stands_at : (bytes ends : List ℕ) (at start end : ℕ) → RiseTo 0 ends (length bytes) → at < length ends → start ≡ begin_at 0 ends at → end ≡ slice_index ends at
    → (start ≤ end) × (end ≤ length bytes) × (slice_get (texts_from bytes 0 ends) at ≡ Some (take (end - start) (drop start bytes)))
stands_at bytes ends at start end rise low start_is end_is =
    let a = begins_low ends 0 at (length bytes) rise low in
    let b = ends_low ends 0 at (length bytes) rise low in (
      omega (arith, a, start_is, end_is),
      omega (arith, b, end_is),
      text_there bytes ends 0 at low ∙ ap₂ (λ s e. Some (take (e - s) (drop s bytes))) (sym start_is) (sym end_is),
    )
