use Rattle.std.proofs.Common.{Result, Ok, Err, IfOk, subst}
use Rattle.histories.specs.Answered.{RepresentsHistory}
use Rattle.histories.specs.History.{History}
use Rattle.page_files.specs.Files.{page_size}
use Rattle.page_runs.specs.States.{state_of}
use Rattle.store_paths.specs.Opened.{HoldHistory}
use Rattle.store_paths.specs.Shown.{HoldsInOrder}
use Rattle.store_openers.proofs.Plain.{held_plainly}
use Rattle.store_openers.proofs.opening.store_in.Goals as goal

all_ok : {T E : Type 0} {P Q R S : T → Type 0} (r : Result T E) → IfOk r P → IfOk r Q → IfOk r R → ((x : T) → P x → Q x → R x → S x) → IfOk r S
all_ok (Ok x) p q s f = f x p q s
all_ok (Err e) p q s f = tt

pub returns : goal.returns
returns g c = λ image shown.
    all_ok c.open.result c.open.ensures.honest c.open.ensures.size c.open.ensures.represents (λ store honest size represents faithful.
    subst (λ it. (h : History) → HoldHistory (HoldsInOrder it) h → RepresentsHistory state_of h store) (shown.shows (honest faithful)) (λ h holds.
    let (db, held, rows) = holds.holds.0 in
    record {
      t = holds.t;
      represents = represents faithful holds.t (held_plainly holds.t (page_size store.file) _ db (size faithful) rows held holds.holds.1);
      agrees = holds.agrees;
    }))
