-- What a file of one kind or of another shows.
use Rattle.std.specs.Prelude.{ℕ, Bool, List, IsTrue}
use Rattle.sqlite_disk.specs.declared.Files.{Files}
use Rattle.store_paths.specs.declared.either.EitherDisk.{EitherDisk}
use Rattle.store_paths.specs.declared.either.EitherDisk.TheVariants.{One, Other}

-- what is read off it, by its kind
abbrev pub shown_by : {A B T : Type 0} → (A → T) → (B → T) → EitherDisk A B → T
shown_by one other (One it) = one it
shown_by one other (Other it) = other it

-- what a crash may leave of it
abbrev pub left_by : {A B : Type 0} → (A → List ℕ → Type 0) → (B → List ℕ → Type 0) → EitherDisk A B → List ℕ → Type 0
left_by one other (One it) = one it
left_by one other (Other it) = other it

-- a crash may leave what it shows
abbrev pub stays_by : {A B : Type 0} {seen_one : A → List ℕ} {seen_other : B → List ℕ} (left_one : A → List ℕ → Type 0)
    (left_other : B → List ℕ → Type 0) → ((it : A) → left_one it (seen_one it)) → ((it : B) → left_other it (seen_other it))
    → (it : EitherDisk A B) → left_by left_one left_other it (shown_by seen_one seen_other it)
stays_by left_one left_other one other (One it) = one it
stays_by left_one left_other one other (Other it) = other it

-- it is fair where it is clean
abbrev pub fair_by : {A B : Type 0} {clean_one : A → Bool} {clean_other : B → Bool} {fair_one : A → ℕ → Bool} {fair_other : B → ℕ → Bool}
    → ((it : A) (key : ℕ) → IsTrue (clean_one it) → IsTrue (fair_one it key))
    → ((it : B) (key : ℕ) → IsTrue (clean_other it) → IsTrue (fair_other it key)) → (it : EitherDisk A B) (key : ℕ)
    → IsTrue (shown_by clean_one clean_other it) → IsTrue (shown_by fair_one fair_other it key)
fair_by one other (One it) = one it
fair_by one other (Other it) = other it

-- files of one kind
abbrev pub are_one : {A B : Type 0} → Files A → Files (EitherDisk A B)
are_one files = record { log = One files.log; db = One files.db }

abbrev pub are_other : {A B : Type 0} → Files B → Files (EitherDisk A B)
are_other files = record { log = Other files.log; db = Other files.db }
