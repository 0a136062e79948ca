-- Steps of a session, one after another.
use Rattle.std.proofs.Common.{◌≡◌, ℕ, ◌+◌, ◌<◌, Bool, true, false, ◌||◌, if◌then◌else◌, List, [], ◌∷◌, ◌++◌, map, length, drop, get_or, Option, None, Result, Ok, Err, OnOk, OnErr, inl, refl, sym, ap, ap₂, take, subst, ◌∙◌, append_assoc, append-nil}
use Rattle.std.specs.Io.KnownBytes.{Appends}
use Rattle.std.proofs.KnownBytes.{Appends-nil, Appends-trans}
use Rattle.std.proofs.Math.Seq.{take-add, take-length, take-append_seam, drop-append_seam}
use Rattle.std.specs.List.{list_any}
use Rattle.std.proofs.lemmas.List.{map-append, drop_more}
use Rattle.std.proofs.lemmas.List.Folds.{list_any-append}
use Rattle.run_stores.specs.declared.states.StoreState.{Ghosts}
use Rattle.run_stores.specs.Calls.{IsFaithful}
use Rattle.byte_io.specs.Outcomes.{Outcome}
use Rattle.histories.specs.History.{History, Command, Step}
use Rattle.histories.specs.Requests.{command_read}
use Rattle.requests.specs.declared.commands.Command as requests
use Rattle.histories.specs.declared.answers.Answer.{Answer}
use Rattle.histories.specs.declared.answers.Answer.TheVariants.{Text}
use Rattle.histories.specs.Answered.{Answers, Links}
use Rattle.histories.proofs.Links.{links_append}
use Rattle.warehouse.proofs.Taken.{taken_by, taken_clean}
use Rattle.byte_io.specs.Reads.{Reads}
use Rattle.byte_io.specs.Imported.{IsReadOf, WereRead}
use Rattle.file_reading.specs.Seen.{SeenReads, opened}
use Rattle.file_reading.specs.declared.seen.SeenFile.{SeenFile}
use Rattle.warehouse.specs.Answers.{is_refused}
use Rattle.program_stores.specs.Sessions.{AreLinesOf, AreReadAs, ArePrinted, ArePrintedInPart, IsLineOf, Prints, Took, WasPerformed, WasTold, answers_of, commands_of, status_after}
use Rattle.program_stores.specs.declared.session.Session.{Session}

-- ---- the status

choose : (a b : Bool) (s : ℕ) → (if b then 1 else (if a then 1 else s)) ≡ (if a || b then 1 else s)
choose true true s = refl
choose true false s = refl
choose false true s = refl
choose false false s = refl

status_on : (status : ℕ) (xs ys : List Answer) → status_after (status_after status xs) ys ≡ status_after status (xs ++ ys)
status_on status xs ys = choose (list_any is_refused xs) (list_any is_refused ys) status ∙ ap (λ b. if b then 1 else status) (sym (list_any-append is_refused xs ys))

-- ---- what was printed

lines_on : (xs ys : List Answer) (text more : List ℕ) → AreLinesOf xs text → AreLinesOf ys more → AreLinesOf (xs ++ ys) (text ++ more)
lines_on [] ys text more none second = subst (λ l. AreLinesOf ys (l ++ more)) (sym none) second
lines_on (x ∷ xs) ys text more first second =
    (first.0, first.1 ++ more, first.2, lines_on xs ys first.1 more first.3 second, ap (λ l. l ++ more) first.4 ∙ append_assoc first.0 first.1 more)

printed_none : (known : Option (List ℕ)) → ArePrinted [] known known
printed_none known = ([], refl, Appends-nil known)

printed_on : (xs ys : List Answer) (a b c : Option (List ℕ)) → ArePrinted xs a b → ArePrinted ys b c → ArePrinted (xs ++ ys) a c
printed_on xs ys a b c first second = (first.0 ++ second.0, lines_on xs ys first.0 second.0 first.1 second.1, Appends-trans a b c first.0 second.0 first.2 second.2)

-- what is printed whole is printed as far as it goes
in_part : {E : Type 0} (result : Result Unit E) (xs : List Answer) (a b : Option (List ℕ)) → Prints result xs a b → ArePrintedInPart xs a b
in_part (Ok done) xs a b it = (it.0, length it.0, it.1, subst (Appends a b) (sym (take-length it.0)) it.2)
in_part (Err e) xs a b it = it

part_on : (xs ys : List Answer) (a b c : Option (List ℕ)) → ArePrinted xs a b → ArePrintedInPart ys b c → ArePrintedInPart (xs ++ ys) a c
part_on xs ys a b c first second =
    let text = first.0 in
    let more = second.0 in
    let n = second.1 in
    let same : take (length text + n) (text ++ more) ≡ text ++ take n more = take-add (length text) n (text ++ more) ∙ ap₂ ◌++◌ (take-append_seam text more) (ap (take n) (drop-append_seam text more)) in
    (text ++ more, length text + n, lines_on xs ys text more first.1 second.2, subst (Appends a c) (sym same) (Appends-trans a b c text (take n more) first.2 second.3))

-- a line was written, whole or in part
pub wrote : {E : Type 0} (result : Result Unit E) (answer : Answer) (line : List ℕ) (a b : Option (List ℕ)) → IsLineOf answer line → OnOk result (Appends a b line) → OnErr result ((n : ℕ) × Appends a b (take n line)) → Prints result (answer ∷ []) a b
wrote (Ok done) answer line a b is whole part = (line, (line, [], is, refl, sym (append-nil line)), whole)
wrote (Err e) answer line a b is whole part = (line, part.0, (line, [], is, refl, sym (append-nil line)), part.1)

line_alone : (answer : Answer) (line : List ℕ) → IsLineOf answer line → AreLinesOf (answer ∷ []) line
line_alone answer line is = (line, [], is, refl, sym (append-nil line))

-- a text was written whole, or its first bytes
pub whole_printed : (text : List ℕ) (a b : Option (List ℕ)) → Appends a b text → ArePrinted (Text text ∷ []) a b
whole_printed text a b is = (text, line_alone (Text text) text (inl refl), is)

pub part_printed : (text : List ℕ) (a b : Option (List ℕ)) → (n : ℕ) × Appends a b (take n text) → ArePrintedInPart (Text text ∷ []) a b
part_printed text a b part = (text, part.0, line_alone (Text text) text (inl refl), part.1)

-- ---- steps that were taken

module _ {R W S N : Type 0} (g : Ghosts S) where
  took : (steps : History) (old new : Session R W S N) → Links g old.warehouse.limits steps old.warehouse.store new.warehouse.store → new.status ≡ status_after old.status (answers_of steps) → Took g steps old new
  took steps old new links status = record {
    taken = taken_by g old.warehouse.limits steps old.warehouse.store new.warehouse.store links;
    status = status;
  }

  took_none : (s : Session R W S N) → Took g [] s s
  took_none s = took [] s s refl refl

  took_one : (command : Command) (answer : Answer) (old new : Session R W S N) → Answers g old.warehouse.limits command answer old.warehouse.store new.warehouse.store → new.status ≡ status_after old.status (answer ∷ [])
      → Took g (record { command = command; answer = answer } ∷ []) old new
  took_one command answer old new is status = took (record { command = command; answer = answer } ∷ []) old new (new.warehouse.store, is, refl) status

  took_on : (steps : History) (step : Step) (old mid new : Session R W S N) → mid.warehouse.limits ≡ old.warehouse.limits → Took g steps old mid → Took g (step ∷ []) mid new → Took g (steps ++ step ∷ []) old new
  took_on steps step old mid new same first last =
      took (steps ++ step ∷ []) old new
      (links_append g old.warehouse.limits steps (step ∷ []) old.warehouse.store mid.warehouse.store new.warehouse.store first.taken.links (subst (λ l. Links g l (step ∷ []) mid.warehouse.store new.warehouse.store) same last.taken.links))
      (last.status ∙ ap (λ s. status_after s (step.answer ∷ [])) first.status ∙ status_on old.status (answers_of steps) (step.answer ∷ []) ∙ ap (status_after old.status) (sym (map-append (λ (t : Step). t.answer) steps (step ∷ []))))

  -- the disk was faithful before
  pub took_clean : (steps : History) (old new : Session R W S N) → Took g steps old new → IsFaithful g new.warehouse.store → IsFaithful g old.warehouse.store
  took_clean steps old new it clean = taken_clean g old.warehouse.limits steps old.warehouse.store new.warehouse.store it.taken clean

  -- ---- one command

  pub told : (contents : W → Option (List ℕ)) (command : Command) (answer : Answer) {E : Type 0} (result : Result Unit E) (old new : Session R W S N)
      → Answers g old.warehouse.limits command answer old.warehouse.store new.warehouse.store → new.status ≡ status_after old.status (answer ∷ [])
      → Prints result (answer ∷ []) (contents old.out) (contents new.out) → WasTold g contents command result old new
  told contents command answer result old new is status printed = record { answer = answer; took = took_one command answer old new is status; printed = printed }

  -- ---- commands so far

  pub record SoFar (contents : W → Option (List ℕ)) (list : List Command) (old new : Session R W S N) : Type 0 where
    pub steps : History
    pub commands : commands_of steps ≡ list
    pub took : Took g steps old new
    pub printed : ArePrinted (answers_of steps) (contents old.out) (contents new.out)

  pub so_far_none : (contents : W → Option (List ℕ)) (s : Session R W S N) → SoFar contents [] s s
  so_far_none contents s = record { steps = []; commands = refl; took = took_none s; printed = printed_none (contents s.out) }

  pub so_far_on : (contents : W → Option (List ℕ)) (list : List Command) (command : Command) {E : Type 0} (done : Unit {0}) (old mid new : Session R W S N) → mid.warehouse.limits ≡ old.warehouse.limits
      → (w : SoFar contents list old mid) → WasTold g contents command {E = E} (Ok done) mid new → SoFar contents (list ++ command ∷ []) old new
  so_far_on contents list command done old mid new same w t =
      let step : Step = record { command = command; answer = t.answer } in record {
        steps = w.steps ++ step ∷ [];
        commands = map-append (λ (x : Step). x.command) w.steps (step ∷ []) ∙ ap (λ l. l ++ command ∷ []) w.commands;
        took = took_on w.steps step old mid new same w.took t.took;
        printed = subst (λ l. ArePrinted l (contents old.out) (contents new.out)) (sym (map-append (λ (x : Step). x.answer) w.steps (step ∷ [])))
            (printed_on (answers_of w.steps) (t.answer ∷ []) (contents old.out) (contents mid.out) (contents new.out) w.printed t.printed);
      }

  -- what was wanted is done as far as answers could be printed: the commands of the steps that were taken are the first of its commands
  pub record WasCut (contents : W → Option (List ℕ)) (wanted : List Command → Type 0) (old new : Session R W S N) : Type 0 where
    pub steps : History
    pub rest : List Command
    pub commands : wanted (commands_of steps ++ rest)
    pub took : Took g steps old new
    pub printed : ArePrintedInPart (answers_of steps) (contents old.out) (contents new.out)

  pub so_far_cut : (contents : W → Option (List ℕ)) (list rest : List Command) (command : Command) (wanted : List Command → Type 0) {E : Type 0} (result : Result Unit E) (old mid new : Session R W S N) → mid.warehouse.limits ≡ old.warehouse.limits
      → (w : SoFar contents list old mid) → WasTold g contents command result mid new → wanted (list ++ command ∷ rest) → WasCut contents wanted old new
  so_far_cut contents list rest command wanted result old mid new same w t is =
      let step : Step = record { command = command; answer = t.answer } in record {
        steps = w.steps ++ step ∷ [];
        rest = rest;
        commands = subst wanted (sym (ap (λ l. l ++ rest) (map-append (λ (x : Step). x.command) w.steps (step ∷ []) ∙ ap (λ l. l ++ command ∷ []) w.commands) ∙ append_assoc list (command ∷ []) rest)) is;
        took = took_on w.steps step old mid new same w.took t.took;
        printed = subst (λ l. ArePrintedInPart l (contents old.out) (contents new.out)) (sym (map-append (λ (x : Step). x.answer) w.steps (step ∷ [])))
            (part_on (answers_of w.steps) (t.answer ∷ []) (contents old.out) (contents mid.out) (contents new.out) w.printed (in_part result (t.answer ∷ []) (contents mid.out) (contents new.out) t.printed));
      }

-- ---- commands that are asked for

-- those that were not begun, with no reads
abbrev unread : List (requests.Command (List ℕ) (List ℕ)) → List Command
unread list = map (λ one. command_read one []) list

all_unread : (reads : List Outcome → Type 0) → reads [] → (list : List (requests.Command (List ℕ) (List ℕ))) → AreReadAs reads list (unread list)
all_unread reads none [] = tt
all_unread reads none (one ∷ more) = (([], none, refl), all_unread reads none more)

module _ {X : Type 0} (reads : List Outcome → Type 0) (plain : X → requests.Command (List ℕ) (List ℕ)) (list : List X) where
  next_read : (i : ℕ) (d : X) (outcomes : List Outcome) (rest : List Command) → i < length list → reads outcomes
      → AreReadAs reads (map plain (drop (i + 1) list)) rest → AreReadAs reads (map plain (drop i list)) (command_read (plain (get_or list i d)) outcomes ∷ rest)
  next_read i d outcomes rest low read all =
      subst (λ l. AreReadAs reads (map plain l) (command_read (plain (get_or list i d)) outcomes ∷ rest)) (sym (drop_more list i d low)) ((outcomes, read, refl), all)

  -- the commands so far fit those of all, with the others behind them
  abbrev pub Fits : List Command → ℕ → Type 0
  Fits done n = (rest : List Command) → AreReadAs reads (map plain (drop n list)) rest → AreReadAs reads (map plain list) (done ++ rest)

  module _ {R W S N : Type 0} (g : Ghosts S) (contents : W → Option (List ℕ)) (i : ℕ) (d : X) (done : List Command) (old mid new : Session R W S N) where
    pub fits_on : {E : Type 0} (is : Unit {0}) → i < length list → mid.warehouse.limits ≡ old.warehouse.limits → Fits done i → (w : SoFar g contents done old mid)
        → WasPerformed g contents reads (plain (get_or list i d)) {E = E} (Ok is) mid new → (more : List Command) × Fits more (i + 1) × SoFar g contents more old new
    fits_on is low same fits w t =
        let command = command_read (plain (get_or list i d)) t.0 in (
          done ++ command ∷ [],
          λ rest all. subst (AreReadAs reads (map plain list)) (sym (append_assoc done (command ∷ []) rest)) (fits (command ∷ rest) (next_read i d t.0 rest low t.1 all)),
          so_far_on g contents done command is old mid new same w t.2,
        )

    pub fits_cut : {E : Type 0} (result : Result Unit E) → reads [] → i < length list → mid.warehouse.limits ≡ old.warehouse.limits → Fits done i → (w : SoFar g contents done old mid)
        → WasPerformed g contents reads (plain (get_or list i d)) result mid new → WasCut g contents (AreReadAs reads (map plain list)) old new
    fits_cut result none low same fits w t =
        let command = command_read (plain (get_or list i d)) t.0 in
        let rest = unread (map plain (drop (i + 1) list)) in
        so_far_cut g contents done rest command (AreReadAs reads (map plain list)) result old mid new same w t.2
        (fits (command ∷ rest) (next_read i d t.0 rest low t.1 (all_unread reads none (map plain (drop (i + 1) list)))))

-- a file that is not read yet
pub none_read : {F : Type 0} (remaining : F → Option (List ℕ)) → WereRead remaining []
none_read remaining = (None, refl)

-- what came of a source that was newly made
come_of : {R F D : Type 0} (remaining : F → Option (List ℕ)) (from to : SeenFile R F D) (outcomes : List Outcome) → Reads (SeenReads remaining) from outcomes to → Reads (IsReadOf remaining) (opened from.file) outcomes (opened to.file)
come_of remaining from to [] same = ap (λ (s : SeenFile _ _ _). opened s.file) same
come_of remaining from to (o ∷ outcomes) it = (opened it.0.file, it.1, come_of remaining it.0 to outcomes it.2)

pub were_read : {R F D : Type 0} (remaining : F → Option (List ℕ)) (from to : SeenFile R F D) (outcomes : List Outcome) → from.file ≡ None → Reads (SeenReads remaining) from outcomes to → WereRead remaining outcomes
were_read remaining from to outcomes new it = (opened to.file, subst (λ file. Reads (IsReadOf remaining) (opened file) outcomes (opened to.file)) new (come_of remaining from to outcomes it))
