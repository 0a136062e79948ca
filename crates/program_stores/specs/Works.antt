-- What is printed of a total, and of a work over a store.
use Rattle.std.specs.Prelude.{◌≡◌, ℕ, if◌then◌else◌, List, [], ◌++◌, codes, Option, take, Result, Ok, Err, MatchResult}
use Rattle.std.specs.Io.KnownBytes.{Appends}
use Rattle.std.specs.declared.alloc.AllocError.{AllocError}
use Rattle.file_reading.specs.declared.total.TotalText.{TotalText}
use Rattle.histories.specs.History.{History, Command}
use Rattle.program_stores.specs.Sessions.{ArePrinted, ArePrintedInPart, answers_of, commands_of, status_after}

-- ---- a total

-- the text of a total, or that of out of memory
abbrev pub total_printed : Result TotalText AllocError → List ℕ
total_printed (Ok total) = total.text
total_printed (Err e) = codes "refused: out of memory\n"

-- 0 where the file was accepted
abbrev pub total_status : Result TotalText AllocError → ℕ
total_status (Ok total) = if total.accepted then 0 else 1
total_status (Err e) = 1

-- the text is printed, and the status is that of the total; or its first bytes are
abbrev pub TotalPrinted : {E : Type 0} → Result TotalText AllocError → Result ℕ E → Option (List ℕ) → Option (List ℕ) → Type 0
TotalPrinted total result old new =
    MatchResult result (λ status. (status ≡ total_status total) × Appends old new (total_printed total)) (λ e. (n : ℕ) × Appends old new (take n (total_printed total)))

-- ---- a work

module _ {W : Type 0} (contents : W → Option (List ℕ)) (wanted : List Command → Type 0) where
  -- the commands of these steps are the first of those wanted, and all where a status came of it, which is 1 where an answer is a refusal and else 0; their answers are printed, as far as they could be
  pub record WerePrinted {E : Type 0} (result : Result ℕ E) (from to : W) (steps : History) : Type 0 where
    pub rest : List Command
    pub commands : wanted (commands_of steps ++ rest)
    pub told : MatchResult result
        (λ status. (rest ≡ []) × (status ≡ status_after 0 (answers_of steps)) × ArePrinted (answers_of steps) (contents from) (contents to))
        (λ e. ArePrintedInPart (answers_of steps) (contents from) (contents to))
