-- What all definitions yield, from what is kept of them.
use Rattle.std.proofs.Common.{ℕ, ◌≡◌, ◌+◌, ◌<◌, false, List, [], ◌∷◌, ◌++◌, map, reverse, length, take, drop, get_or, Option, Some, None, Err, sym, ap, ◌∙◌, subst}
use Rattle.std.proofs.lemmas.List.{map-append, reverse-append, take-append-drop, take_more}
use Rattle.cg_formulas.specs.Formulas.{Definition, is_defined, first_or, formula_fault}
use Rattle.cg_formulas.specs.Definitions.{plain_definition, plain_back}
use Rattle.cg_formulas.specs.Flats.{FlatIs, Defines}
use Rattle.cg_formulas.specs.Held.{Stands, AreFresh, Holds}
use Rattle.cg_formulas.specs.declared.definitions.Definition as kept
use Rattle.cg_text.specs.declared.faults.Fault as faults
use Rattle.cg_text.specs.declared.faults.Fault.TheVariants.{EventTwice}
use Rattle.cg_formulas.specs.declared.flats.Flat.{Flat}
use Rattle.cg_formulas.specs.declared.flats.FlatEnd.{FlatEnd}
use Rattle.cg_formulas.specs.declared.flats.FlatEnd.TheVariants.{Fault, Memory}
use Rattle.cg_formulas.specs.declared.formulas.Formulas.{Formulas}
use Rattle.cg_formulas.proofs.HeldLemmas.{fault-stays, plain_back-push}

-- ---- one by one

pub plain_back-more : (ds : List kept.Definition) (i : ℕ) (d : kept.Definition) → i < length ds → plain_back (take (i + 1) ds) ≡ plain_definition (get_or ds i d) ∷ plain_back (take i ds)
plain_back-more ds i d inside =
    let split : take (i + 1) ds ≡ take i ds ++ get_or ds i d ∷ [] = take_more ds i d inside in
    ap plain_back split ∙ plain_back-push (take i ds) (get_or ds i d)

plain_back-append : (ds es : List kept.Definition) → plain_back (ds ++ es) ≡ plain_back es ++ plain_back ds
plain_back-append ds es = ap reverse (map-append plain_definition ds es) ∙ reverse-append (map plain_definition ds) (map plain_definition es)

plain_back-split : (ds : List kept.Definition) (i : ℕ) (d : kept.Definition) → i < length ds → plain_back ds ≡ plain_back (drop (i + 1) ds) ++ (plain_definition (get_or ds i d) ∷ plain_back (take i ds))
plain_back-split ds i d inside =
    ap plain_back (sym (take-append-drop (i + 1) ds))
    ∙ (plain_back-append (take (i + 1) ds) (drop (i + 1) ds)
    ∙ ap (λ es. plain_back (drop (i + 1) ds) ++ es) (plain_back-more ds i d inside))

fresh-part : (es ds : List Definition) → AreFresh (es ++ ds) → AreFresh ds
fresh-part [] ds fresh = fresh
fresh-part (e ∷ es) ds fresh = fresh-part es ds fresh.1

pub fresh-at : (ds : List kept.Definition) (i : ℕ) (d : kept.Definition) → i < length ds → AreFresh (plain_back ds) → is_defined (get_or ds i d).name (plain_back (take i ds)) ≡ false
fresh-at ds i d inside fresh =
    (fresh-part (plain_back (drop (i + 1) ds)) (plain_definition (get_or ds i d) ∷ plain_back (take i ds)) (subst AreFresh (plain_back-split ds i d inside) fresh)).0

fault-part : (events : List (List ℕ)) (es ds : List Definition) (x : faults.Fault × ℕ) → formula_fault events ds ≡ Some x → formula_fault events (es ++ ds) ≡ Some x
fault-part events [] ds x h = h
fault-part events (e ∷ es) ds x h = fault-stays events e (es ++ ds) x (fault-part events es ds x h)

pub fault-at : (events : List (List ℕ)) (ds : List kept.Definition) (i : ℕ) (d : kept.Definition) (x : faults.Fault × ℕ) → i < length ds → formula_fault events (plain_definition (get_or ds i d) ∷ plain_back (take i ds)) ≡ Some x → formula_fault events (plain_back ds) ≡ Some x
fault-at events ds i d x inside h =
    ap (formula_fault events) (plain_back-split ds i d inside) ∙ fault-part events (plain_back (drop (i + 1) ds)) (plain_definition (get_or ds i d) ∷ plain_back (take i ds)) x h

-- ---- all of them

represents-fault : (events : List (List ℕ)) (o : Option ℕ) (es ds : List Definition) (x : faults.Fault × ℕ) → Stands o es ds → formula_fault events es ≡ Some x → formula_fault events ds ≡ Some x
represents-fault events None es ds x represents h = represents.fault events ∙ h
represents-fault events (Some line) es ds x represents h = represents events ∙ ap (λ o. first_or o (Some EventTwice) line) h

flat_err : (e : FlatEnd) (flat : Flat) (events : List (List ℕ)) (o : Option ℕ) (ks : List kept.Definition) (i : ℕ) (d : kept.Definition) (ds : List Definition) → flat.events ≡ events → i < length ks
    → Stands o (plain_back ks) ds → Defines (Err e) flat (get_or ks i d) (plain_back (take i ks)) → FlatIs (Err e) events ds
flat_err Memory flat events o ks i d ds same inside represents h = h
flat_err (Fault f line) flat events o ks i d ds same inside represents h =
    represents-fault events o (plain_back ks) ds (f, line) represents
    (fault-at events ks i d (f, line) inside (subst (λ ns. formula_fault ns (plain_definition (get_or ks i d) ∷ plain_back (take i ks)) ≡ Some (f, line)) same h))

pub flat-err : (f : Formulas) (e : FlatEnd) (flat : Flat) (events : List (List ℕ)) (i : ℕ) (d : kept.Definition) (ds : List Definition) → flat.events ≡ events → i < length f.definitions
    → Holds f ds → Defines (Err e) flat (get_or f.definitions i d) (plain_back (take i f.definitions)) → FlatIs (Err e) events ds
flat-err f e flat events i d ds same inside holds h = flat_err e flat events f.changed f.definitions i d ds same inside holds.represents h
