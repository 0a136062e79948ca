-- Names that are inserted many at a time.
use Rattle.std.proofs.Common.{◌≡◌, ℕ, suc, ◌≤◌, ◌||◌, pos, nat_abs, int_lt, cond, if◌then◌else◌, Bool, true, false, bytes_eq, List, [], ◌∷◌, ◌++◌, fold, map, refl, sym, ap, ap₂, subst, ◌∙◌, arith, append_assoc, append-nil}
use Rattle.std.specs.List.{AllByRecursion, list_any}
use Rattle.std.proofs.lemmas.Int.{ints}
use Rattle.std.proofs.lemmas.List.Sums.{fold-append}
use Rattle.sqlite_rules.specs.Edit.{next_rowid}
use Rattle.sqlite_trees.specs.Tree.{Trees}
use Rattle.sqlite_value.specs.declared.value.Value.TheVariants.{Int}
use Rattle.plain_tables.specs.Changes.{has_name, named, next_name, with_new_name}
use Rattle.plain_tables.specs.Files.{all_named, number_in}
use Rattle.plain_tables.specs.Tables.{Tables, NameRow}
use Rattle.plain_tables.proofs.Lists.{all-append}
use Rattle.plain_tables.proofs.Numbering.{named_held, named_new, numbers_more, one_named}
use Rattle.prof_store.specs.Schema.{schema_two, name_at}
use Rattle.prof_store.specs.Tables.{Holds, name_columns}
use Rattle.page_places.specs.Fills.{Fills}
use Rattle.page_places.proofs.Fills as fills
use Rattle.line_fills.specs.Filled.{IsTableFilled}
use Rattle.line_fills.specs.Rows.{first_from, numbered, rows_behind}
use Rattle.page_imports.specs.declared.numbering.Numbered.{Numbered}
use Rattle.page_imports.specs.Names.{AreNumbered, AreUnheld, IsNextName, bytes_of, name_line, numbered_names, with_names}
use Rattle.page_imports.proofs.Numbers.{new_next, new_number, next_rowid_is}
use Rattle.page_imports.proofs.Unnamed.{not_yet}

-- ---- their rows

some_next : (lines : List NameRow) (n : ℕ) → 1 ≤ n → 1 ≤ fold (λ _ (line : NameRow). suc line.number) n lines
some_next [] n low = low
some_next (line ∷ lines) n low = some_next lines (suc line.number) (omega arith)

first_is : (n : ℕ) → 1 ≤ n → first_from (pos n) ≡ n
first_is n low = go (int_lt (pos 1) (pos n)) refl
  where
    go : (b : Bool) → int_lt (pos 1) (pos n) ≡ b → nat_abs (cond b (pos n) (pos 1)) ≡ n
    go true e = refl
    go false e = grind (arith, ints, low)

rows_of_names : (first : ℕ) (names : List (List ℕ)) → numbered first (map name_line names) ≡ map name_columns (numbered_names first names)
rows_of_names first [] = refl
rows_of_names first (name ∷ names) = ap (λ l. (Int (pos first) ∷ name_line name) ∷ l) (rows_of_names (suc first) names)

lines_unheld : (t : Tables) (first : ℕ) (names : List (List ℕ)) → AreUnheld names t → AllByRecursion (λ (x : NameRow). has_name t x.name ≡ false) (numbered_names first names)
lines_unheld t first [] all = tt
lines_unheld t first (name ∷ names) all = (all.0, lines_unheld t (suc first) names all.1)

-- names of which rows are filled in are held
pub names_filled : (t : Tables) (now next : Trees) → Holds t now → (names : List (List ℕ)) → AreUnheld names t → IsTableFilled schema_two now next name_at (map name_line names) → Holds (with_names names t) next
names_filled t now next was names unheld f =
    let n = next_name t.names in
    let first : first_from (next_rowid (now 11)) ≡ n = ap first_from (next_rowid_is t now was) ∙ first_is n (some_next t.names 1 (omega arith)) in
    let rows : rows_behind (now 11) (map name_line names) ≡ map name_columns (numbered_names n names) = ap (λ k. numbered k (map name_line names)) first ∙ rows_of_names n names in
    fills.names_filled t now next was (numbered_names n names) (lines_unheld t n names unheld) f.spared f.shaped (f.behind ∙ ap (λ l. now 11 ++ l) rows) (subst (λ l. Fills (2 ∷ []) 1 l (now 12) (next 12)) rows f.filled.0)

-- ---- one more name

numbered_more : (first : ℕ) (names : List (List ℕ)) (name : List ℕ)
    → numbered_names first (names ++ name ∷ []) ≡ numbered_names first names ++ record { number = fold (λ _ (line : NameRow). suc line.number) first (numbered_names first names); name = name } ∷ []
numbered_more first [] name = refl
numbered_more first (x ∷ names) name = let line : NameRow = record { number = first; name = x } in ap (λ l. line ∷ l) (numbered_more (suc first) names name)

one_more : (t : Tables) (names : List (List ℕ)) (name : List ℕ) → with_new_name name (with_names names t) ≡ with_names (names ++ name ∷ []) t
one_more t names name =
    let first = next_name t.names in
    let news = numbered_names first names in
    let line = λ (n : ℕ). let it : NameRow = record { number = n; name = name } in it in
    ap (λ l. let u : Tables = record t { names = l } in u)
    (append_assoc t.names news (line (next_name (t.names ++ news)) ∷ [])
    ∙ ap (λ n. t.names ++ (news ++ line n ∷ [])) (fold-append (λ _ (it : NameRow). suc it.number) 1 t.names news)
    ∙ ap (λ l. t.names ++ l) (sym (numbered_more first names name)))

still_any : (p : NameRow → Bool) (lines more : List NameRow) → list_any p lines ≡ true → list_any p (lines ++ more) ≡ true
still_any p [] more h = absurd cc
still_any p (line ∷ lines) more h = go (p line) h (still_any p lines more)
  where
    go : (b : Bool) → (b || list_any p lines) ≡ true → (list_any p lines ≡ true → list_any p (lines ++ more) ≡ true) → (b || list_any p (lines ++ more)) ≡ true
    go true is rest = refl
    go false is rest = rest is

number_stays : (name : List ℕ) (lines more : List NameRow) → list_any (λ (l : NameRow). bytes_eq l.name name) lines ≡ true → number_in (lines ++ more) name ≡ number_in lines name
number_stays name [] more h = absurd cc
number_stays name (line ∷ lines) more h = go (bytes_eq line.name name) h (number_stays name lines more)
  where
    go : (b : Bool) → (b || list_any (λ (l : NameRow). bytes_eq l.name name) lines) ≡ true → (list_any (λ (l : NameRow). bytes_eq l.name name) lines ≡ true → number_in (lines ++ more) name ≡ number_in lines name)
        → (if b then line.number else number_in (lines ++ more) name) ≡ (if b then line.number else number_in lines name)
    go true is rest = refl
    go false is rest = rest is

pub none_taken : (t : Tables) (it : Numbered) → it.numbers.items ≡ [] → it.news.items ≡ [] → IsNextName it.next t → AreNumbered t [] it
none_taken t it numbers news next = record {
  unheld = subst (λ l. AreUnheld (bytes_of l) t) (sym news) tt;
  named = ap (λ l. let u : Tables = record t { names = l } in u) (sym (append-nil t.names)) ∙ ap (λ l. with_names (bytes_of l) t) (sym news);
  numbers = numbers;
  next = next;
}

module _ (t : Tables) (names : List (List ℕ)) (name : List ℕ) (old new : Numbered) (was : AreNumbered t names old) (number : ℕ) (pushed : new.numbers.items ≡ old.numbers.items ++ number ∷ []) where
  -- one that is held keeps its number
  pub held_taken : has_name t name ≡ true → number ≡ number_in t.names name → new.news.items ≡ old.news.items → new.next ≡ old.next → AreNumbered t (names ++ name ∷ []) new
  held_taken held number_is news_are next_is =
      let news = bytes_of old.news.items in
      let more = numbered_names (next_name t.names) news in
      let there : has_name (with_names news t) name ≡ true = still_any (λ (l : NameRow). bytes_eq l.name name) t.names more held in
      let same : named name (all_named names t) ≡ all_named names t = ap (named name) was.named ∙ named_held (with_names news t) name there ∙ sym was.named in
      let all : all_named (names ++ name ∷ []) t ≡ all_named names t = one_named t names name ∙ same in
      let is : number ≡ number_in (named name (all_named names t)).names name =
      number_is ∙ sym (number_stays name t.names more held) ∙ ap (λ (u : Tables). number_in u.names name) (sym (same ∙ was.named)) in
      record {
        unheld = subst (λ l. AreUnheld (bytes_of l) t) (sym news_are) was.unheld;
        named = all ∙ was.named ∙ ap (λ l. with_names (bytes_of l) t) (sym news_are);
        numbers = pushed ∙ ap₂ (λ l n. l ++ n ∷ []) was.numbers is ∙ sym (numbers_more t names name);
        next = next_is ∙ was.next ∙ ap (λ (u : Tables). next_name u.names) (sym all);
      }

  -- one that is not gets the next number
  pub new_taken : has_name t name ≡ false → list_any (λ other. bytes_eq other name) names ≡ false → number ≡ old.next → bytes_of new.news.items ≡ bytes_of old.news.items ++ name ∷ [] → new.next ≡ suc number
      → AreNumbered t (names ++ name ∷ []) new
  new_taken none apart number_is listed next_is =
      let known = all_named names t in
      let unheld : has_name known name ≡ false = not_yet names t name none apart in
      let fresh = named_new known name unheld in
      let all : all_named (names ++ name ∷ []) t ≡ with_new_name name known = one_named t names name ∙ fresh in
      let is : number ≡ number_in (named name known).names name =
      number_is ∙ was.next ∙ sym (new_number known name unheld) ∙ ap (λ (u : Tables). number_in u.names name) (sym fresh) in
      record {
        unheld = subst (λ l. AreUnheld l t) (sym listed) (all-append (λ n. has_name t n ≡ false) (bytes_of old.news.items) (name ∷ []) was.unheld (none, tt));
        named = all ∙ ap (with_new_name name) was.named ∙ one_more t (bytes_of old.news.items) name ∙ ap (λ l. with_names l t) (sym listed);
        numbers = pushed ∙ ap₂ (λ l n. l ++ n ∷ []) was.numbers is ∙ sym (numbers_more t names name);
        next = next_is ∙ ap suc (number_is ∙ was.next) ∙ sym (new_next known name) ∙ ap (λ (u : Tables). next_name u.names) (sym all);
      }

-- a new name's number
pub number_of_new : (t : Tables) (names : List (List ℕ)) (name : List ℕ) (old : Numbered) → AreNumbered t names old → has_name t name ≡ false → list_any (λ other. bytes_eq other name) names ≡ false
    → number_in (named name (all_named names t)).names name ≡ old.next
number_of_new t names name old was none apart =
    let known = all_named names t in
    let unheld : has_name known name ≡ false = not_yet names t name none apart in
    ap (λ (u : Tables). number_in u.names name) (named_new known name unheld) ∙ new_number known name unheld ∙ sym was.next
