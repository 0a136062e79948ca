-- What clap's getters give, in the words of plans.
use Rattle.std.proofs.Common.{◌≡◌, ◌≢◌, ◌≤◌, ◌↔◌, ◌==◌, All, IsSome, length, take, get_or, ◌+◌, arith, refl, ℕ, Bool, true, false, List, [], ◌∷◌, map, Option, Some, None, Result, Ok, Err, IfOk, IfNone, IfSome, ◌<◌, ◌^◌, subst, option_map, ap, sym, ◌∙◌, codes}
use Rattle.std.proofs.lemmas.List.Elements.{All-cons, All-head, All-map, All-push, All-tail}
use Rattle.std.proofs.lemmas.List.{take_more}
use Rattle.std.proofs.lemmas.Option.{none-some, same_Some}
use Rattle.requests.specs.Plain.{LentSelection}
use Rattle.requests.specs.declared.selections.Selection.TheVariants as selections
use Rattle.std.specs.Borrow.{Bor}
use Rattle.std.specs.Result.{result_ok}
use Rattle.std.specs.Str.Parse.{ExplainsUnsignedError, HasUnsignedDigitsIfOk, ParsesUnsigned}
use Rattle.std.specs.declared.alloc.AllocError.{AllocError}
use Rattle.std.specs.declared.num.ParseIntError.{ParseIntError}
use Rattle.clap.specs.Matches.{ReadsOne, TriesOne, first_value, matched_of, one_text, raw_values}
use Rattle.clap.specs.Walk.{Row, Text, all_of, first_of, one_of, rows_of}
use Rattle.clap.specs.declared.parser.matches.Found.{Found}
use Rattle.clap.proofs.WalkLemmas.{first_value-rows, one_text-rows, raw_values-rows}
use Rattle.command_line.specs.Plans.{HasLess, HasNumber, HasRuns, HasSelectionBy, HasWord, HasWords, HaveRuns, IsFlag, IsLimit, IsNumber, IsPort, IsRunNumber, IsSoundSelection, NoneIs, SaysRun, number_of}

pub word_found : (f : Found) (id : Text) (r : Option (Bor Text)) → option_map (λ s. s.now) r ≡ first_value f id → IfSome r (λ w. HasWord (rows_of f) id w.now)
word_found f id None e = tt
word_found f id (Some w) e = sym (first_value-rows f id) ∙ sym e

pub word_missing : (f : Found) (id : Text) (r : Option (Bor Text)) → option_map (λ s. s.now) r ≡ first_value f id → r ≡ None → first_of id (rows_of f) ≡ None
word_missing f id r e is = sym (first_value-rows f id) ∙ sym e ∙ ap (option_map (λ (s : Bor Text). s.now)) is

pub words_found : (f : Found) (id : Text) (r : Option (Bor (List (Bor Text)))) (s : Bor (List (Bor Text))) → r ≡ Some s
    → option_map (λ (s : Bor (List (Bor Text))). map (λ v. v.now) s.now) r ≡ option_map raw_values (matched_of f id) → all_of id (rows_of f) ≡ Some (map (λ v. v.now) s.now)
words_found f id r s is e = sym (raw_values-rows f id) ∙ sym e ∙ ap (option_map (λ (s : Bor (List (Bor Text))). map (λ v. v.now) s.now)) is

flag_is : (t : Option Text) (given : Bool) → (t ≡ None → given ≡ false) → (t ≡ Some (codes "true") → given ≡ true) → (t ≡ Some (codes "false") → given ≡ false) → IsFlag t given
flag_is None given none on off = none refl
flag_is (Some text) given none on off = ((λ e. on (ap (λ t. Some t) e)), (λ e. off (ap (λ t. Some t) e)))

pub flag_found : (f : Found) (id : Text) (given : Bool) → (one_text f id ≡ None → given ≡ false) → (one_text f id ≡ Some (codes "true") → given ≡ true) → (one_text f id ≡ Some (codes "false") → given ≡ false)
    → IsFlag (one_of id (rows_of f)) given
flag_found f id given none on off =
    let same = one_text-rows f id in
    flag_is (one_of id (rows_of f)) given (λ e. none (same ∙ e)) (λ e. on (same ∙ e)) (λ e. off (same ∙ e))

map_numbers : (texts : List (Bor Text)) → map number_of (map (λ v. v.now) texts) ≡ map (λ v. number_of v.now) texts
map_numbers [] = refl
map_numbers (v ∷ texts) = ap (λ ns. number_of v.now ∷ ns) (map_numbers texts)

-- one element more has it
pub all_more : {X : Type 0} (P : X → Type 0) (xs : List X) (i : ℕ) (d : X) → i < length xs → All P (take i xs) → P (get_or xs i d) → All P (take (i + 1) xs)
all_more P xs i d within so one = rw (take_more xs i d within) (All-push P (take i xs) (get_or xs i d) so one)

digits_said : (texts : List (Bor Text)) → All (λ text. SaysRun text.now) texts → All IsNumber (map (λ v. v.now) texts)
digits_said texts said = All-map IsNumber (λ (v : Bor Text). v.now) texts (λ k d within. (said k d within).0)

runs_said : (texts : List (Bor Text)) → All IsNumber (map (λ v. v.now) texts) → All IsRunNumber (map number_of (map (λ v. v.now) texts)) → All (λ text. SaysRun text.now) texts
runs_said [] digits range = λ k d within. absurd (omega (arith, within))
runs_said (v ∷ texts) digits range =
    let words = map (λ (v : Bor Text). v.now) texts in
    All-cons (λ (text : Bor Text). SaysRun text.now) v texts (All-head IsNumber v.now words digits, All-head IsRunNumber (number_of v.now) (map number_of words) range)
    (runs_said texts (All-tail IsNumber v.now words digits) (All-tail IsRunNumber (number_of v.now) (map number_of words) range))

numbers_are : (rows : List Row) (texts : List (Bor Text)) (found : Option (List ℕ)) → all_of (codes "N") rows ≡ Some (map (λ v. v.now) texts) → IfSome found (λ numbers. numbers ≡ map (λ v. number_of v.now) texts)
    → IsSome found ↔ All (λ text. SaysRun text.now) texts → IfSome found (HaveRuns rows)
numbers_are rows texts None all are said = tt
numbers_are rows texts (Some numbers) all are said =
    (ap (option_map (map number_of)) all ∙ ap (λ ns. Some ns) (map_numbers texts ∙ sym are), subst (λ found. IfSome found (All IsNumber)) (sym all) (digits_said texts (said.0 refl)))

pub numbers_found : (rows : List Row) (texts : List (Bor Text)) (r : Result (Option (List ℕ)) AllocError) → all_of (codes "N") rows ≡ Some (map (λ v. v.now) texts)
    → IfOk r (λ found. IfSome found (λ numbers. numbers ≡ map (λ v. number_of v.now) texts)) → IfOk r (λ found. IsSome found ↔ All (λ text. SaysRun text.now) texts) → IfOk r (λ found. IfSome found (HaveRuns rows))
numbers_found rows texts (Err e) all are said = tt
numbers_found rows texts (Ok found) all are said = numbers_are rows texts found all are said

other_runs : (rows : List Row) (texts : List (Bor Text)) (numbers : List ℕ) → all_of (codes "N") rows ≡ Some (map (λ v. v.now) texts) → HasRuns rows numbers → All (λ text. SaysRun text.now) texts
other_runs rows texts numbers all (some, range, has) =
    let words = map (λ (v : Bor Text). v.now) texts in
    let same : map number_of words ≡ numbers = same_Some (map number_of words) numbers (sym (ap (option_map (map number_of)) all) ∙ has.0) in
    runs_said texts (subst (λ found. IfSome found (All IsNumber)) all has.1) (subst (All IsRunNumber) (sym same) range)

no_runs_in : (rows : List Row) (texts : List (Bor Text)) (found : Option (List ℕ)) → all_of (codes "N") rows ≡ Some (map (λ v. v.now) texts) → IsSome found ↔ All (λ text. SaysRun text.now) texts
    → IfNone found (NoneIs (HasRuns rows))
no_runs_in rows texts (Some numbers) all said = tt
no_runs_in rows texts None all said = λ numbers are. absurd (let no = said.1 (other_runs rows texts numbers all are) in cc)

pub no_runs_found : (rows : List Row) (texts : List (Bor Text)) (r : Result (Option (List ℕ)) AllocError) → all_of (codes "N") rows ≡ Some (map (λ v. v.now) texts)
    → IfOk r (λ found. IsSome found ↔ All (λ text. SaysRun text.now) texts) → IfOk r (λ found. IfNone found (NoneIs (HasRuns rows)))
no_runs_found rows texts (Err e) all said = tt
no_runs_found rows texts (Ok found) all said = no_runs_in rows texts found all said

-- where there are no words, no numbers are said
none_said : (words : Option (List Text)) (numbers : List ℕ) → ((texts : List Text) → (texts ≢ []) × (words ≡ Some texts) → ⊥) → numbers ≢ [] → option_map (map number_of) words ≡ Some numbers → ⊥
none_said None numbers none some is = absurd cc
none_said (Some texts) numbers none some is =
    let same : map number_of texts ≡ numbers = same_Some (map number_of texts) numbers is in
    none texts ((λ empty. some (sym same ∙ ap (map number_of) empty)), refl)

pub no_runs_named : (rows : List Row) → NoneIs (HasWords rows (codes "N")) → NoneIs (HasRuns rows)
no_runs_named rows none numbers (some, range, has) = none_said (all_of (codes "N") rows) numbers none some has.0

-- ---- numbers of options

-- what `from_str` gives at an unsigned type of k bits
abbrev Gives : ℕ → Text → Result ℕ ParseIntError → Type 0
Gives k t r = ParsesUnsigned k 10 t r × ExplainsUnsignedError 10 t r × HasUnsignedDigitsIfOk t r

-- the number that a text says, where there is one
abbrev Says : Option Text → Option ℕ → Type 0
Says read number = (option_map number_of read ≡ number) × IfSome read IsNumber

number_is : (k : ℕ) (t : Text) (n : ℕ) → Gives k t (Ok n) → Says (Some t) (Some n)
number_is k t n given = (ap (λ n. Some n) (sym given.0.1), given.0.0.0)

tried : (k : ℕ) (t : Text) (r : Result (Option ℕ) ParseIntError) → TriesOne (Gives k) t r → IfSome (result_ok r) (Says (Some t))
tried k t (Ok (Some n)) given = number_is k t n given
tried k t (Ok None) given = absurd given
tried k t (Err e) given = tt

number_tried : (k : ℕ) (read : Option Text) (r : Result (Option ℕ) ParseIntError) → (read ≡ None → r ≡ Ok None) → ((t : Text) → read ≡ Some t → TriesOne (Gives k) t r)
    → IfSome (result_ok r) (Says read)
number_tried k None r none some = rw (none refl) (refl, tt)
number_tried k (Some t) r none some = tried k t r (some t refl)

pub option_tried : (k : ℕ) (f : Found) (id : Text) (r : Result (Option ℕ) ParseIntError) → (one_text f id ≡ None → r ≡ Ok None) → ((t : Text) → one_text f id ≡ Some t → TriesOne (Gives k) t r)
    → IfSome (result_ok r) (HasNumber (rows_of f) id)
option_tried k f id r none some =
    let same = one_text-rows f id in
    number_tried k (one_of id (rows_of f)) r (λ e. none (same ∙ e)) (λ t e. some t (same ∙ e))

number_read : (k : ℕ) (read : Option Text) (n : ℕ) → (read ≡ None → Some n ≡ None) → ((t : Text) → read ≡ Some t → ReadsOne (Gives k) t (Some n)) → Says read (Some n)
number_read k None n none some = absurd (let no = none refl in cc)
number_read k (Some t) n none some = number_is k t n (some t refl)

pub option_read : (k : ℕ) (f : Found) (id : Text) (n : ℕ) → (one_text f id ≡ None → Some n ≡ None) → ((t : Text) → one_text f id ≡ Some t → ReadsOne (Gives k) t (Some n)) → HasNumber (rows_of f) id (Some n)
option_read k f id n none some =
    let same = one_text-rows f id in
    number_read k (one_of id (rows_of f)) n (λ e. none (same ∙ e)) (λ t e. some t (same ∙ e))

-- ---- where an option has no number

-- a text that was not read at k bits says no number that fits there
not_said : (k : ℕ) (t : Text) (e : ParseIntError) (n : ℕ) → Gives k t (Err e) → n < 2 ^ k → Says (Some t) (Some n) → ⊥
not_said k t e n given fits (is, digits) =
    let same : number_of t ≡ n = same_Some (number_of t) n is in
    given.0 (digits, subst (λ m. m < 2 ^ k) (sym same) fits)

not_tried : (k : ℕ) (P : ℕ → Type 0) (t : Text) (e : ParseIntError) (number : Option ℕ) → ((n : ℕ) → P n → n < 2 ^ k) → Gives k t (Err e) → IfSome number P → Says (Some t) number → ⊥
not_tried k P t e None fits given within says = absurd (let no = says.0 in cc)
not_tried k P t e (Some n) fits given within says = not_said k t e n given (fits n within) says

none_tried : (k : ℕ) (P : ℕ → Type 0) (t : Text) (r : Result (Option ℕ) ParseIntError) → ((n : ℕ) → P n → n < 2 ^ k) → TriesOne (Gives k) t r
    → IfNone (result_ok r) (NoneIs (λ number. IfSome number P × Says (Some t) number))
none_tried k P t (Ok (Some n)) fits given = tt
none_tried k P t (Ok None) fits given = absurd given
none_tried k P t (Err e) fits given = λ number has. not_tried k P t e number fits given has.0 has.1

no_number_tried : (k : ℕ) (P : ℕ → Type 0) (read : Option Text) (r : Result (Option ℕ) ParseIntError) → ((n : ℕ) → P n → n < 2 ^ k) → (read ≡ None → r ≡ Ok None)
    → ((t : Text) → read ≡ Some t → TriesOne (Gives k) t r) → IfNone (result_ok r) (NoneIs (λ number. IfSome number P × Says read number))
no_number_tried k P None r fits none some = rw (none refl) tt
no_number_tried k P (Some t) r fits none some = none_tried k P t r fits (some t refl)

pub no_option_tried : (k : ℕ) (P : ℕ → Type 0) (f : Found) (id : Text) (r : Result (Option ℕ) ParseIntError) → ((n : ℕ) → P n → n < 2 ^ k) → (one_text f id ≡ None → r ≡ Ok None)
    → ((t : Text) → one_text f id ≡ Some t → TriesOne (Gives k) t r) → IfNone (result_ok r) (NoneIs (λ number. IfSome number P × HasNumber (rows_of f) id number))
no_option_tried k P f id r fits none some =
    let same = one_text-rows f id in
    no_number_tried k P (one_of id (rows_of f)) r fits (λ e. none (same ∙ e)) (λ t e. some t (same ∙ e))

no_number_read : (k : ℕ) (read : Option Text) (n : ℕ) → n < 2 ^ k → ((t : Text) → read ≡ Some t → ReadsOne (Gives k) t None) → Says read (Some n) → ⊥
no_number_read k None n fits some (is, digits) = absurd cc
no_number_read k (Some t) n fits some says = let given = some t refl in not_said k t given.0 n given.1 fits says

-- nothing was read
pub no_option_read : (k : ℕ) (f : Found) (id : Text) (n : ℕ) → n < 2 ^ k → ((t : Text) → one_text f id ≡ Some t → ReadsOne (Gives k) t None) → HasNumber (rows_of f) id (Some n) → ⊥
no_option_read k f id n fits some says = no_number_read k (one_of id (rows_of f)) n fits (λ t e. some t (one_text-rows f id ∙ e)) says

pub option_got : (k : ℕ) (f : Found) (id : Text) (r : Option ℕ) → (one_text f id ≡ None → r ≡ None) → ((t : Text) → one_text f id ≡ Some t → ReadsOne (Gives k) t r)
    → IfSome r (λ number. HasNumber (rows_of f) id (Some number))
option_got k f id None none some = tt
option_got k f id (Some n) none some = option_read k f id n none some

pub no_option_got : (k : ℕ) (P : ℕ → Type 0) (f : Found) (id : Text) (r : Option ℕ) → ((n : ℕ) → P n → n < 2 ^ k) → ((t : Text) → one_text f id ≡ Some t → ReadsOne (Gives k) t r)
    → IfNone r (NoneIs (λ number. P number × HasNumber (rows_of f) id (Some number)))
no_option_got k P f id (Some n) fits some = tt
no_option_got k P f id None fits some = λ number is. no_option_read k f id number (fits number is.0) some is.1

-- at most one number is read
pub one_number : (rows : List Row) (id : Text) (m n : ℕ) → HasNumber rows id (Some m) → HasNumber rows id (Some n) → m ≡ n
one_number rows id m n one other = same_Some m n (sym one.0 ∙ other.0)

-- the number that is read is above the most
pub above_most : (rows : List Row) (id : Text) (most m : ℕ) → HasNumber rows id (Some m) → most < m → NoneIs (λ (n : ℕ). (n ≤ most) × HasNumber rows id (Some n))
above_most rows id most m has above n (within, says) = let same : m ≡ n = one_number rows id m n has says in absurd (omega (arith, same, above, within))

pub within_byte : (n : ℕ) → n ≤ 100 → n < 2 ^ 8
within_byte n within = omega arith

pub port_fits : (n : ℕ) → IsPort n → n < 2 ^ 16
port_fits n within = omega arith

pub limit_fits : (n : ℕ) → IsLimit n → n < 2 ^ 32
limit_fits n within = omega arith

-- ---- where an argument has no words

pub words_missing : (f : Found) (id : Text) (r : Option (Bor (List (Bor Text)))) → r ≡ None
    → option_map (λ (s : Bor (List (Bor Text))). map (λ v. v.now) s.now) r ≡ option_map raw_values (matched_of f id) → NoneIs (HasWords (rows_of f) id)
words_missing f id r is e texts (some, all) =
    let none : all_of id (rows_of f) ≡ None = sym (raw_values-rows f id) ∙ sym e ∙ ap (option_map (λ (s : Bor (List (Bor Text))). map (λ v. v.now) s.now)) is in
    none-some texts (sym none ∙ all)

pub words_empty : (rows : List Row) (id : Text) (given : List (Bor Text)) → all_of id rows ≡ Some (map (λ v. v.now) given) → (length given == 0) ≡ true → NoneIs (HasWords rows id)
words_empty rows id [] all empty texts (some, other) = some (sym (same_Some [] texts (sym all ∙ other)))
words_empty rows id (v ∷ given) all empty texts (some, other) = absurd (grind (arith, empty))

-- ---- where words select no runs

pub nothing_less : (rows : List Row) → NoneIs (λ runs. IsSoundSelection runs × HasSelectionBy (codes "less-run") (codes "less-group") rows runs)
    → NoneIs (λ (less : Option LentSelection). IfSome less IsSoundSelection × HasLess rows less)
nothing_less rows none None (sound, has) = none selections.All (tt, has)
nothing_less rows none (Some selections.All) (sound, has) = absurd has
nothing_less rows none (Some (selections.Run n)) (sound, has) = none (selections.Run n) (sound, has)
nothing_less rows none (Some (selections.Group name)) (sound, has) = none (selections.Group name) (sound, has)

-- ---- what a `?` hands on

pub on_none : {T : Type 0} (r : Option T) (P : Type 0) → r ≡ None → P → IfNone r P
on_none r P is p = rw is p
