-- A table of names that goes on by one.
use Rattle.std.proofs.Common.{◌≡◌, ℕ, ◌<◌, ◌≤◌, zero, suc, ◌==◌, Bool, true, false, if◌then◌else◌, List, [], ◌∷◌, ◌++◌, length, Option, Some, None, unwrap_or, refl, sym, ap, ◌∙◌, arith}
use Rattle.std.specs.List.{slice_get}
use Rattle.callgrind_reader.specs.Inside.{AreInside, IsInside}
use Rattle.callgrind_reader.specs.Table.{name_among}

-- ---- lists

pub get-front : {X : Type 0} (xs ys : List X) (n : ℕ) → n < length xs → slice_get (xs ++ ys) n ≡ slice_get xs n
get-front [] ys n below = absurd (omega arith)
get-front (x ∷ xs) ys zero below = refl
get-front (x ∷ xs) ys (suc n) below = get-front xs ys n (omega arith)

get-last : {X : Type 0} (xs : List X) (x : X) (n : ℕ) → n ≡ length xs → slice_get (xs ++ x ∷ []) n ≡ Some x
get-last [] x zero last = refl
get-last [] x (suc n) last = absurd (omega arith)
get-last (first ∷ xs) x zero last = absurd (omega arith)
get-last (first ∷ xs) x (suc n) last = get-last xs x n (omega arith)

-- ---- places

inside-more : (places : ℕ → Option ℕ) (count more : ℕ) → AreInside places count → count ≤ more → AreInside places more
inside-more places count more inside few = λ q at here. let below : at < count = inside q at here in omega arith

-- an identifier that is given a place
inside-cond : (b : Bool) (place more : ℕ) (before after : Option ℕ) → after ≡ (if b then Some place else before) → place < more → IsInside more before → IsInside more after
inside-cond true place more before after e below inside = λ at here. let same : place ≡ at = ap (λ o. unwrap_or o 0) (sym e ∙ here) in omega arith
inside-cond false place more before after e below inside = λ at here. inside at (sym e ∙ here)

pub inside-after : (old new : ℕ → Option ℕ) (id place count more : ℕ) → AreInside old count → count ≤ more → place < more → ((q : ℕ) → new q ≡ (if id == q then Some place else old q)) → AreInside new more
inside-after old new id place count more inside few below updates = λ q. inside-cond (id == q) place more (old q) (new q) (updates q) below (inside-more old count more inside few q)

-- one whose place is taken back
inside-none : (b : Bool) (place more : ℕ) (before given after : Option ℕ) → given ≡ (if b then Some place else before) → after ≡ (if b then None else given) → IsInside more before → IsInside more after
inside-none true place more before given after g e inside = λ at here. let none : None ≡ Some at = sym e ∙ here in absurd (cc)
inside-none false place more before given after g e inside = λ at here. inside at (sym g ∙ sym e ∙ here)

pub inside-back : (old given new : ℕ → Option ℕ) (id place count more : ℕ) → AreInside old count → count ≤ more → ((q : ℕ) → given q ≡ (if id == q then Some place else old q)) → ((q : ℕ) → new q ≡ (if id == q then None else given q)) → AreInside new more
inside-back old given new id place count more inside few updates removes = λ q. inside-none (id == q) place more (old q) (given q) (new q) (updates q) (removes q) (inside-more old count more inside few q)

-- a place that is the next one was just given, and each other one was there
pub place-new : (before : Option ℕ) (place next : ℕ) → IsInside next before → place ≡ unwrap_or before next → place ≡ next → before ≡ None
place-new None place next inside found new = refl
place-new (Some p) place next inside found new = let below : p < next = inside p refl in absurd (omega (arith, below, found, new))

pub place-held : (before : Option ℕ) (place next : ℕ) → place ≡ unwrap_or before next → ¬ (place ≡ next) → before ≡ Some place
place-held None place next found old = absurd (old found)
place-held (Some p) place next found old = ap Some (sym found)

-- ---- names

pub among-front : (names : List (List ℕ)) (name : List ℕ) (place : Option ℕ) → IsInside (length names) place → name_among (names ++ name ∷ []) place ≡ name_among names place
among-front names name None inside = refl
among-front names name (Some n) inside = get-front names (name ∷ []) n (inside n refl)

among-cond : (b : Bool) (names : List (List ℕ)) (name : List ℕ) (place : ℕ) (before : Option ℕ) → place ≡ length names → IsInside (length names) before → name_among (names ++ name ∷ []) (if b then Some place else before) ≡ (if b then Some name else name_among names before)
among-cond true names name place before last inside = get-last names name place last
among-cond false names name place before last inside = among-front names name before inside

-- where a name is put at the end, and its place given to an identifier, that means the name, and each other one what it meant
means-after : (old new : ℕ → Option ℕ) (names : List (List ℕ)) (name : List ℕ) (id place q : ℕ) → AreInside old (length names) → place ≡ length names → new q ≡ (if id == q then Some place else old q)
    → name_among (names ++ name ∷ []) (new q) ≡ (if id == q then Some name else name_among names (old q))
means-after old new names name id place q inside last updates = ap (name_among (names ++ name ∷ [])) updates ∙ among-cond (id == q) names name place (old q) last (inside q)

-- where the identifier had no place
pub means-new : (old new : ℕ → Option ℕ) (names : List (List ℕ)) (name : List ℕ) (id place q : ℕ) → AreInside old (length names) → place ≡ length names → old id ≡ None → new q ≡ (if id == q then Some place else old q)
    → name_among (names ++ name ∷ []) (new q) ≡ (if id == q then Some (unwrap_or (name_among names (old id)) name) else name_among names (old q))
means-new old new names name id place q inside last none updates =
    means-after old new names name id place q inside last updates ∙ ap (λ o. if id == q then Some (unwrap_or (name_among names o) name) else name_among names (old q)) (sym none)

pub name-new : (names : List (List ℕ)) (name : List ℕ) (place : ℕ) (before : Option ℕ) → place ≡ length names → before ≡ None → slice_get (names ++ name ∷ []) place ≡ Some (unwrap_or (name_among names before) name)
name-new names name place before last none = get-last names name place last ∙ ap (λ o. Some (unwrap_or (name_among names o) name)) (sym none)

-- where its place was there, each identifier means what it meant
get-held : (names : List (List ℕ)) (text : List ℕ) (place : ℕ) → place < length names → slice_get names place ≡ Some (unwrap_or (slice_get names place) text)
get-held [] text place below = absurd (omega arith)
get-held (name ∷ names) text zero below = refl
get-held (name ∷ names) text (suc place) below = get-held names text place (omega arith)

pub name-held : (names : List (List ℕ)) (text : List ℕ) (place : ℕ) (before : Option ℕ) → place < length names → before ≡ Some place → slice_get names place ≡ Some (unwrap_or (name_among names before) text)
name-held names text place before below held = get-held names text place below ∙ ap (λ o. Some (unwrap_or (name_among names o) text)) (sym held)

pub means-held : (old new : ℕ → Option ℕ) (names : List (List ℕ)) (text : List ℕ) (id place q : ℕ) → place < length names → old id ≡ Some place → new q ≡ (if id == q then Some place else old q)
    → name_among names (new q) ≡ (if id == q then Some (unwrap_or (name_among names (old id)) text) else name_among names (old q))
means-held old new names text id place q below held updates = ap (name_among names) updates ∙ chosen (id == q)
  where
    chosen : (b : Bool) → name_among names (if b then Some place else old q) ≡ (if b then Some (unwrap_or (name_among names (old id)) text) else name_among names (old q))
    chosen true = name-held names text place (old id) below held
    chosen false = refl
