-- Names that grow at their end keep those before, and their places.
use Rattle.std.proofs.Common.{◌≡◌, inl, inr, ℕ, suc, List, [], ◌∷◌, ◌++◌, Some, unwrap_or, Result, Ok, Err, refl, sym, ap, ◌∙◌, append_assoc, append-nil}
use Rattle.std.specs.Str.{bytes_eq}
use Rattle.std.proofs.lemmas.Bool.{cases_Bool}
use Rattle.cost_rows.specs.Naming.{further, place_of, with_name, GivesNumber}
use Rattle.cost_rows.specs.Growing.{Grows}
use Rattle.cost_rows.specs.Content.{number_of, place_in, place_of_cost, with_three, names_with_cost, names_with_callee, call_of}
use Rattle.cost_rows.specs.declared.places.Place.{Place}
use Rattle.cost_rows.specs.declared.places.Call.{Call}
use Rattle.profile_records.specs.Records.{Cost, Callee}
use Rattle.cost_rows.proofs.NamingLemmas.{bytes-same, place-here, place-further, with-here, with-further, place-kept}

pub grows-same : (old new : List (List ℕ)) → new ≡ old → Grows old new
grows-same old new e = ([], e ∙ sym (append-nil old))

pub grows-more : (a b c : List (List ℕ)) → Grows a b → Grows b c → Grows a c
grows-more a b c one two = (one.0 ++ two.0, two.1 ∙ ap (λ ns. ns ++ two.0) one.1 ∙ append_assoc a one.0 two.0)

pub grows-with : (names : List (List ℕ)) (name : List ℕ) → Grows names (with_name name names)
grows-with [] name = (name ∷ [], refl)
grows-with (first ∷ names) name = elim (cases_Bool (bytes_eq name first)) [
  | inl same ↦ grows-same (first ∷ names) (with_name name (first ∷ names)) (with-here name first names same)
  | inr other ↦
      let rest = grows-with names name in
      (rest.0, with-further name first names other ∙ ap (λ ns. first ∷ ns) rest.1)
]

-- after a call that may be refused
pub grows-after : {E : Type 0} (r : Result ℕ E) (old new : List (List ℕ)) (name : List ℕ) → GivesNumber name old r new → Grows old new
grows-after (Ok n) old new name gives =
    let more = grows-with old name in
    (more.0, gives.1 ∙ more.1)
grows-after (Err e) old new name same = grows-same old new same

number-kept : (names : List (List ℕ)) (name new : List ℕ) (n : ℕ) → place_of name names ≡ Some n → number_of name (with_name new names) ≡ n
number-kept names name new n h = ap (λ o. unwrap_or o 0) (place-kept names name new n h)

number-here : (names : List (List ℕ)) (name : List ℕ) (n : ℕ) → place_of name names ≡ Some n → number_of name names ≡ n
number-here names name n h = ap (λ o. unwrap_or o 0) h

-- the numbers of three names that come in, one after another
pub place-numbered : (one two three : List (List ℕ)) (object file function : List ℕ) (o f u line : ℕ) → place_of object one ≡ Some o → two ≡ with_name file one → place_of file two ≡ Some f → three ≡ with_name function two → place_of function three ≡ Some u
    → record { object = o; file = f; function = u; line = line } ≡ place_in three object file function line
place-numbered one two three object file function o f u line first more second last third =
    let P : ℕ → ℕ → ℕ → Place = λ x y z. record { object = x; file = y; function = z; line = line } in
    let object_kept : place_of object two ≡ Some o = ap (place_of object) more ∙ place-kept one object file o first in
    let a : o ≡ number_of object three = sym (ap (number_of object) last ∙ number-kept two object function o object_kept) in
    let b : f ≡ number_of file three = sym (ap (number_of file) last ∙ number-kept two file function f second) in
    let d : u ≡ number_of function three = sym (number-here three function u third) in
    let e : P o f u ≡ P (number_of object three) (number_of file three) (number_of function three) =
    ap (λ n. P n f u) a ∙ ap (λ n. P (number_of object three) n u) b ∙ ap (P (number_of object three) (number_of file three)) d in
    e

-- ---- names that are held keep their numbers

pub held-with : (names : List (List ℕ)) (name : List ℕ) → (n : ℕ) × (place_of name (with_name name names) ≡ Some n)
held-with [] name = (0, place-here name name [] (bytes-same name name refl))
held-with (first ∷ names) name = elim (cases_Bool (bytes_eq name first)) [
  | inl same ↦ (0, ap (place_of name) (with-here name first names same) ∙ place-here name first names same)
  | inr other ↦
      let rest = held-with names name in
      (suc rest.0, ap (place_of name) (with-further name first names other) ∙ place-further name first (with_name name names) other ∙ ap further rest.1)
]

pub kept-by_three : (names : List (List ℕ)) (a b d name : List ℕ) (n : ℕ) → place_of name names ≡ Some n → place_of name (with_three a b d names) ≡ Some n
kept-by_three names a b d name n h =
    place-kept (with_name b (with_name a names)) name d n (place-kept (with_name a names) name b n (place-kept names name a n h))

number-by_three : (names : List (List ℕ)) (a b d name : List ℕ) (n : ℕ) → place_of name names ≡ Some n → number_of name (with_three a b d names) ≡ number_of name names
number-by_three names a b d name n h = number-here (with_three a b d names) name n (kept-by_three names a b d name n h) ∙ sym (number-here names name n h)

-- the place of a caller, where the names of what it calls come in after its own
pub place-called : (names : List (List ℕ)) (object file function a b d : List ℕ) (line : ℕ)
    → place_in (with_three a b d (with_three object file function names)) object file function line ≡ place_in (with_three object file function names) object file function line
place-called names object file function a b d line =
    let m = with_three object file function names in
    let all = with_three a b d m in
    let o = held-with names object in
    let f = held-with (with_name object names) file in
    let u = held-with (with_name file (with_name object names)) function in
    let o_held : place_of object m ≡ Some o.0 = place-kept (with_name file (with_name object names)) object function o.0 (place-kept (with_name object names) object file o.0 o.1) in
    let f_held : place_of file m ≡ Some f.0 = place-kept (with_name file (with_name object names)) file function f.0 f.1 in
    let P : ℕ → ℕ → ℕ → Place = λ x y z. record { object = x; file = y; function = z; line = line } in
    let e : P (number_of object all) (number_of file all) (number_of function all) ≡ P (number_of object m) (number_of file m) (number_of function m) =
    ap (λ n. P n (number_of file all) (number_of function all)) (number-by_three m a b d object o.0 o_held)
    ∙ ap (λ n. P (number_of object m) n (number_of function all)) (number-by_three m a b d file f.0 f_held)
    ∙ ap (P (number_of object m) (number_of file m)) (number-by_three m a b d function u.0 u.1) in
    e

-- a call, where its caller's names came in and then those of what it calls
pub call-numbered : (names mid all : List (List ℕ)) (callee : Callee) (cost : Cost) (p q : Place) → mid ≡ names_with_cost cost names → p ≡ place_in mid cost.object cost.file cost.function cost.line
    → all ≡ names_with_callee callee mid → q ≡ place_in all callee.object callee.file callee.function 0 → record { place = p; object = q.object; file = q.file; function = q.function } ≡ call_of all callee cost
call-numbered names mid all callee cost p q first caller second called =
    let P : Place → ℕ → ℕ → ℕ → Call = λ w x y z. record { place = w; object = x; file = y; function = z } in
    let in_mid : p ≡ place_of_cost (names_with_cost cost names) cost = caller ∙ ap (λ ns. place_of_cost ns cost) first in
    let both : all ≡ names_with_callee callee (names_with_cost cost names) = second ∙ ap (names_with_callee callee) first in
    let in_all : p ≡ place_of_cost all cost =
    in_mid ∙ sym (place-called names cost.object cost.file cost.function callee.object callee.file callee.function cost.line) ∙ ap (λ ns. place_of_cost ns cost) (sym both) in
    let e : P p q.object q.file q.function ≡ P (place_of_cost all cost) (number_of callee.object all) (number_of callee.file all) (number_of callee.function all) =
    ap (λ w. P w q.object q.file q.function) in_all ∙ ap (λ r. P (place_of_cost all cost) r.object r.file r.function) called in
    e

-- three names that came in are held
pub held-three : (names : List (List ℕ)) (object file function : List ℕ)
    → ((n : ℕ) × (place_of object (with_three object file function names) ≡ Some n)) × ((n : ℕ) × (place_of file (with_three object file function names) ≡ Some n)) × ((n : ℕ) × (place_of function (with_three object file function names) ≡ Some n))
held-three names object file function =
    let o = held-with names object in
    let f = held-with (with_name object names) file in
    let u = held-with (with_name file (with_name object names)) function in (
      (o.0, place-kept (with_name file (with_name object names)) object function o.0 (place-kept (with_name object names) object file o.0 o.1)),
      (f.0, place-kept (with_name file (with_name object names)) file function f.0 f.1),
      u,
    )
