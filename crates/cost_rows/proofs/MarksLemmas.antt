-- The numbers of names by their marks.
use Rattle.std.proofs.Common.{◌≡◌, ◌⊎◌, inl, inr, ℕ, ◌<◌, zero, suc, true, List, [], ◌∷◌, ◌++◌, length, Option, Some, None, refl, sym, ap, subst, ◌∙◌, arith}
use Rattle.std.specs.List.{slice_get}
use Rattle.cg_text.specs.Distinct.{are_distinct}
use Rattle.cg_text.specs.declared.words.Namespace.{Namespace}
use Rattle.cg_text.specs.declared.words.Namespace.TheVariants.{Object, File, Function}
use Rattle.profile_records.specs.Marks.{Agrees, Learns, names_tell}
use Rattle.profile_records.specs.declared.marks.LentName.{LentName}
use Rattle.profile_records.specs.declared.marks.LentNames.{LentNames}
use Rattle.profile_records.specs.declared.marks.Mark.{Mark}
use Rattle.cost_rows.specs.Growing.{Grows}
use Rattle.cost_rows.specs.Marks.{number_at, marks_in, name_numbered, known_at, known_by, AreNamed, HaveNames, KeepsMark, LearnsName, LearnsNames}
use Rattle.cost_rows.specs.Naming.{place_of}
use Rattle.cost_rows.specs.declared.marks.Marks.{Marks}
use Rattle.cost_rows.specs.declared.marks.SpaceMarks.{SpaceMarks}
use Rattle.cost_rows.proofs.NamingLemmas.{at_place, place_at}

-- ---- names that grow at their end

get-below : (names : List (List ℕ)) (n : ℕ) → n < length names → (name : List ℕ) × (slice_get names n ≡ Some name)
get-below [] n below = absurd (omega arith)
get-below (name ∷ names) zero below = (name, refl)
get-below (name ∷ names) (suc n) below = get-below names n (omega arith)

get-front : (names more : List (List ℕ)) (n : ℕ) → n < length names → slice_get (names ++ more) n ≡ slice_get names n
get-front [] more n below = absurd (omega arith)
get-front (name ∷ names) more zero below = refl
get-front (name ∷ names) more (suc n) below = get-front names more n (omega arith)

length-front : (names more : List (List ℕ)) (n : ℕ) → n < length names → n < length (names ++ more)
length-front [] more n below = absurd (omega arith)
length-front (name ∷ names) more zero below = omega arith
length-front (name ∷ names) more (suc n) below = let rest = length-front names more n (omega arith) in omega (arith, rest)

module _ (old new : List (List ℕ)) (grows : Grows old new) where
  pub named-more : (s : SpaceMarks) → AreNamed old s → AreNamed new s
  named-more s named = λ mark n is. subst (λ names. n < length names) (sym grows.1) (length-front old grows.0 n (named mark n is))

  pub have-more : (m : Marks) → HaveNames old m → HaveNames new m
  have-more m named = λ space. named-more (marks_in m space) (named space)

  name-kept : (n : ℕ) → n < length old → slice_get new n ≡ slice_get old n
  name-kept n below = ap (λ names. slice_get names n) grows.1 ∙ get-front old grows.0 n below

  numbered-kept : (o : Option ℕ) → ((n : ℕ) → o ≡ Some n → n < length old) → name_numbered new o ≡ name_numbered old o
  numbered-kept None below = refl
  numbered-kept (Some n) below = name-kept n (below n refl)

  -- what is known of a mark is the same text among more names
  pub known-more : (s : SpaceMarks) → AreNamed old s → (mark : Mark) → known_at new s mark ≡ known_at old s mark
  known-more s named mark = numbered-kept (number_at s mark) (named mark)

-- a mark that is known has a number
known-number : (names : List (List ℕ)) (o : Option ℕ) (text : List ℕ) → name_numbered names o ≡ Some text → (n : ℕ) × (o ≡ Some n) × (slice_get names n ≡ Some text)
known-number names None text is = absurd (cc)
known-number names (Some n) text is = (n, refl, is)

-- ---- a name that is lent

module _ (names : List (List ℕ)) (s : SpaceMarks) (name : LentName) where
  -- a number that is kept of its mark is its number
  pub number-known : (n : ℕ) → are_distinct names ≡ true → AreNamed names s → ((text : List ℕ) → known_at names s name.mark ≡ Some text → text ≡ name.text.now) → number_at s name.mark ≡ Some n → place_of name.text.now names ≡ Some n
  number-known n distinct named same is =
      let found = get-below names n (named name.mark n is) in
      let known : known_at names s name.mark ≡ Some found.0 = ap (name_numbered names) is ∙ found.1 in
      place_at names name.text.now n distinct (found.1 ∙ ap Some (same found.0 known))

  -- a name that got a number, which is kept of its mark
  pub learns-number : (new : List (List ℕ)) (after : SpaceMarks) (number : ℕ) → AreNamed names s → Grows names new → place_of name.text.now new ≡ Some number → number < length new → KeepsMark name.mark number s after → LearnsName names s name new after
  learns-number new after number named grows place below keeps = record {
    named = λ mark n is. elim (keeps mark n is) [
      | inl was ↦ named-more names new grows s named mark n was
      | inr now ↦ subst (λ k. k < length new) (sym now.1) below
    ];
    learns = λ mark text is.
        let at = known-number new (number_at after mark) text is in
        elim (keeps mark at.0 at.1) [
          | inl was ↦ inl (sym (known-more names new grows s named mark) ∙ ap (name_numbered new) was ∙ at.2)
          | inr now ↦ inr (sym now.0, told at.0 text now.1 at.2)
        ];
  }
    where
      told : (n : ℕ) (text : List ℕ) → n ≡ number → slice_get new n ≡ Some text → name.text.now ≡ text
      told n text e is = let here = at_place new name.text.now number place in let both : Some name.text.now ≡ Some text = sym here ∙ ap (slice_get new) (sym e) ∙ is in cc

-- a name's number is below the number of names
pub place-below : (names : List (List ℕ)) (name : List ℕ) (n : ℕ) → place_of name names ≡ Some n → n < length names
place-below names name n place = go names n name (at_place names name n place)
  where
    go : (names : List (List ℕ)) (n : ℕ) (name : List ℕ) → slice_get names n ≡ Some name → n < length names
    go [] n name is = absurd (cc)
    go (first ∷ names) zero name is = omega arith
    go (first ∷ names) (suc n) name is = let rest = go names n name is in omega (arith, rest)

-- ---- three names that are lent

module _ (one two : List (List ℕ)) (before : Marks) (first : Grows one two) (named : HaveNames one before) where
  -- the marks of files, among the names after the object's
  pub file-named : AreNamed two before.files
  file-named = named-more one two first before.files (named File)

  pub file-same : (lent : LentNames) → Agrees (known_by one before) (names_tell lent) → (text : List ℕ) → known_at two before.files lent.file.mark ≡ Some text → text ≡ lent.file.text.now
  file-same lent agrees text is = agrees.before File lent.file.mark text lent.file.text.now (sym (known-more one two first before.files (named File) lent.file.mark) ∙ is) (refl, refl)

module _ (one two three : List (List ℕ)) (before : Marks) (first : Grows one two) (second : Grows two three) (named : HaveNames one before) where
  -- those of functions, among the names after the file's
  pub function-named : AreNamed three before.functions
  function-named = named-more two three second before.functions (named-more one two first before.functions (named Function))

  function_before : (mark : Mark) → known_at three before.functions mark ≡ known_at one before.functions mark
  function_before mark = known-more two three second before.functions (named-more one two first before.functions (named Function)) mark ∙ known-more one two first before.functions (named Function) mark

  pub function-same : (lent : LentNames) → Agrees (known_by one before) (names_tell lent) → (text : List ℕ) → known_at three before.functions lent.function.mark ≡ Some text → text ≡ lent.function.text.now
  function-same lent agrees text is = agrees.before Function lent.function.mark text lent.function.text.now (sym (function_before lent.function.mark) ∙ is) (refl, refl)

  -- and what all three teach
  pub learns-three : (four : List (List ℕ)) (after : Marks) (lent : LentNames) → Grows three four → LearnsName one before.objects lent.object two after.objects → LearnsName two before.files lent.file three after.files → LearnsName three before.functions lent.function four after.functions
      → LearnsNames one before (names_tell lent) four after
  learns-three four after lent third object file function = record { named = now_named; learns = now_known }
    where
      object_named : AreNamed three after.objects
      object_named = named-more two three second after.objects object.named

      now_named : (space : Namespace) → AreNamed four (marks_in after space)
      now_named Object = named-more three four third after.objects object_named
      now_named File = named-more three four third after.files file.named
      now_named Function = function.named

      now_known : Learns (known_by one before) (names_tell lent) (known_by four after)
      now_known Object mark text is =
          object.learns mark text (sym (known-more two three second after.objects object.named mark) ∙ sym (known-more three four third after.objects object_named mark) ∙ is)
      now_known File mark text is = elim (file.learns mark text (sym (known-more three four third after.files file.named mark) ∙ is)) [
        | inl was ↦ inl (sym (known-more one two first before.files (named File) mark) ∙ was)
        | inr now ↦ inr now
      ]
      now_known Function mark text is = elim (function.learns mark text is) [
        | inl was ↦ inl (sym (function_before mark) ∙ was)
        | inr now ↦ inr now
      ]

-- ---- a call's names

abbrev both_tell : LentNames → LentNames → Namespace → Mark → List ℕ → Type 0
both_tell own called space mark text = names_tell own space mark text ⊎ names_tell called space mark text

pub agrees-own : (known : Namespace → Mark → Option (List ℕ)) (own called : LentNames) → Agrees known (both_tell own called) → Agrees known (names_tell own)
agrees-own known own called agrees = record {
  before = λ space mark text other is told. agrees.before space mark text other is (inl told);
  alike = λ space mark text other one two. agrees.alike space mark text other (inl one) (inl two);
}

-- the names of what is called, after those of the place
pub agrees-called : (known between : Namespace → Mark → Option (List ℕ)) (own called : LentNames) → Agrees known (both_tell own called) → Learns known (names_tell own) between → Agrees between (names_tell called)
agrees-called known between own called agrees learns = record {
  before = λ space mark text other is told. elim (learns space mark text is) [
    | inl was ↦ agrees.before space mark text other was (inr told)
    | inr now ↦ agrees.alike space mark text other (inl now) (inr told)
  ];
  alike = λ space mark text other one two. agrees.alike space mark text other (inr one) (inr two);
}

pub learns-both : (known between after : Namespace → Mark → Option (List ℕ)) (own called : LentNames) → Learns known (names_tell own) between → Learns between (names_tell called) after → Learns known (both_tell own called) after
learns-both known between after own called first second = λ space mark text is. elim (second space mark text is) [
  | inl was ↦ elim (first space mark text was) [ inl before ↦ inl before | inr now ↦ inr (inl now) ]
  | inr now ↦ inr (inr now)
]
