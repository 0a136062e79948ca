-- The entries of sqlite_schema, taken one after another.
use Rattle.std.proofs.Common.{◌≡◌, ℕ, ◌+◌, ◌-◌, ◌^◌, min, Bool, true, false, cond, not, ◌||◌, List, [], ◌∷◌, ◌++◌, Option, None, Some, is_some, IfSome, Result, Ok, refl, sym, ap, ◌∙◌, arith}
use Rattle.std.specs.List.{AllByRecursion, list_any}
use Rattle.std.proofs.lemmas.List.Sums.{sum_by_push}
use Rattle.sqlite_value.specs.Order.{Row}
use Rattle.page_lists.specs.Entries.{count_of_ours, is_added, place_in_schema, AreCounted, AreOpened, IsCounted, IsFoundOf, IsMadeAs, IsOurs}
use Rattle.page_lists.specs.Texts.{alone_in}
use Rattle.page_lists.specs.declared.texts.Found.{Found}
use Rattle.page_lists.specs.declared.texts.Found.TheVariants.{Ours, OursWithMore, Others}

-- ---- those that were taken, and one more

all_more : {X : Type 0} (P : X → Type 0) (xs : List X) (x : X) → AllByRecursion P xs → P x → AllByRecursion P (xs ++ x ∷ [])
all_more P [] x all one = (one, tt)
all_more P (y ∷ ys) x all one = (all.0, all_more P ys x all.1 one)

or_false : (b : Bool) → (b || false) ≡ b
or_false true = refl
or_false false = refl

any_more : {X : Type 0} (p : X → Bool) (xs : List X) (x : X) → list_any p (xs ++ x ∷ []) ≡ (list_any p xs || p x)
any_more p [] x = or_false (p x)
any_more p (y ∷ ys) x = joined (p y) (list_any p (ys ++ x ∷ [])) (list_any p ys) (any_more p ys x)
  where
    joined : (b c d : Bool) → c ≡ (d || p x) → (b || c) ≡ ((b || d) || p x)
    joined true c d same = refl
    joined false c d same = same

counted_same : (n m before after : ℕ) → before ≡ min n m → after ≡ before → after ≡ min (n + 0) m
counted_same n m before after was now = omega arith

counted_more : (n m before after : ℕ) → before ≡ min n m → after ≡ min (before + 1) m → after ≡ min (n + 1) m
counted_more n m before after was now = omega arith

one_more : (place : Option ℕ) (entry : Row) (n before after : ℕ) → before ≡ min n (2 ^ 64 - 1) → IsCounted place entry before after
    → IfSome place (λ at. IsMadeAs at entry) × (after ≡ min (n + cond (is_some place) 1 0) (2 ^ 64 - 1))
one_more None entry n before after was now = (tt, counted_same n (2 ^ 64 - 1) before after was now)
one_more (Some at) entry n before after was now = (now.0, counted_more n (2 ^ 64 - 1) before after was now.1)

pub taken : (entries : List Row) (entry : Row) (before after : ℕ) (had has : Bool) → AreCounted entries before had
    → IsCounted (place_in_schema entry) entry before after → has ≡ (had || is_added entry) → AreCounted (entries ++ entry ∷ []) after has
taken entries entry before after had has was now more =
    let one = one_more (place_in_schema entry) entry (count_of_ours entries) before after was.count now in
    record {
      each = all_more IsOurs entries entry was.each one.0;
      count = one.1 ∙ ap (λ n. min n (2 ^ 64 - 1)) (sym (sum_by_push (λ e. cond (is_some (place_in_schema e)) 1 0) entries entry));
      more = more ∙ ap (λ b. b || is_added entry) was.more ∙ sym (any_more is_added entries entry);
    }

-- before the first
pub none_taken : AreCounted [] 0 false
none_taken = record { each = tt; count = refl; more = refl }

-- what a walk is told
pub is_unset : {E : Type 0} (b : Bool) → ◌≡◌ {A = Result Bool E} (Ok (not b)) (Ok true) → b ≡ false
is_unset true told = absurd (cc)
is_unset false told = refl

pub is_set : {E : Type 0} (b : Bool) → ◌≡◌ {A = Result Bool E} (Ok (not b)) (Ok false) → b ≡ true
is_set true told = refl
is_set false told = absurd (cc)

-- ---- all of them

-- a store is opened where they are ours
pub opened : (entries : List Row) (found : Found) (is_alone : Bool) → Ok is_alone ≡ alone_in found → IsFoundOf entries found → AreOpened entries is_alone
opened entries Ours is_alone said is = record { ours = is.0; alone = λ told. is.1 }
opened entries OursWithMore is_alone said is = record { ours = is; alone = λ told. absurd (cc) }
opened entries Others is_alone said is = absurd (cc)
