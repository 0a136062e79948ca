-- The kind that the tables tell of a run is that of its file.
use Rattle.std.proofs.Common.{◌≡◌, ℕ, Bool, true, ◌==◌, List, [], ◌∷◌, map, inl, inr, refl, sym, ap, subst, ◌∙◌, arith}
use Rattle.std.proofs.lemmas.Bool.Decides.{nat_tests}
use Rattle.plain_tables.specs.Lists.{Has}
use Rattle.plain_tables.proofs.Lists.{kept_has}
use Rattle.run_stores.specs.Book.{run_held}
use Rattle.plain_tables.specs.Tables.{Tables, RunRow}
use Rattle.profile_records.specs.Kinds.{kind_number}
use Rattle.profile_records.specs.declared.kinds.Kind.{Kind}
use Rattle.profile_records.specs.declared.kinds.Kind.TheVariants.{Callgrind, Folded}
use Rattle.run_stores.specs.Lookups.{IsKindOf}
use Rattle.histories.specs.Formats.{kind_in}
use Rattle.histories.specs.History.{History, File, held}
use Rattle.histories.specs.Representation.{AreBooksOf, IsBookOf, TablesRepresent}
use Rattle.histories.proofs.Selections.{are_selected}
use Rattle.selected_runs.proofs.AnyLemmas.{any_of}

same_kind : (a b : Kind) → kind_number a ≡ kind_number b → a ≡ b
same_kind Callgrind Callgrind same = refl
same_kind Folded Folded same = refl
same_kind Callgrind Folded same = absurd cc
same_kind Folded Callgrind same = absurd cc

same_number : (n : ℕ) → (n == n) ≡ true
same_number n = grind (arith, nat_tests)

-- the file whose run this line is
file_for : (t : Tables) (lines : List RunRow) (files : List File) (r : RunRow) → AreBooksOf files (map (run_held t) lines) → Has lines r → (f : File) × Has files f × IsBookOf f (run_held t r)
file_for t [] files r all there = absurd there
file_for t (q ∷ lines) [] r all there = absurd all
file_for t (q ∷ lines) (f ∷ files) r all (inl same) = (f, inl refl, subst (λ l. IsBookOf f (run_held t l)) (sym same) all.0)
file_for t (q ∷ lines) (f ∷ files) r all (inr later) = let rest = file_for t lines files r all.1 later in (rest.0, inr rest.1, rest.2)

only_one : {X : Type 0} (x y : X) → Has (y ∷ []) x → x ≡ y
only_one x y (inl same) = same
only_one x y (inr later) = absurd later

-- of one number there is one file
one_file : (h : History) (t : Tables) (f g : File) → TablesRepresent h t → Has (held h) f → Has (held h) g → g.number ≡ f.number → g ≡ f
one_file h t f g represent has_f has_g same =
    let is_of : File → Bool = λ (e : File). e.number == f.number in
    let here : is_of f ≡ true = same_number f.number in
    let there : is_of g ≡ true = ap (λ n. n == f.number) same ∙ here in
    let one = (are_selected h represent.legal).one f.number (any_of is_of (held h) f has_f here) in
    let f_is = only_one f one.0 (subst (λ l. Has l f) one.1 (kept_has is_of (held h) f has_f here)) in
    let g_is = only_one g one.0 (subst (λ l. Has l g) one.1 (kept_has is_of (held h) g has_g there)) in
    g_is ∙ sym f_is

pub kind_told : (h : History) (t : Tables) (f : File) (kind : Kind) → TablesRepresent h t → Has (held h) f → IsKindOf f.number t kind → kind ≡ kind_in f.format
kind_told h t f kind represent there is =
    let line = is.0 in
    let of = file_for t t.runs (held h) line represent.runs is.1 in
    let same = one_file h t f of.0 represent there of.1 (sym of.2.number ∙ is.2) in
    same_kind kind (kind_in f.format) (sym is.3 ∙ of.2.kind ∙ ap (λ (g : File). kind_number (kind_in g.format)) same)
