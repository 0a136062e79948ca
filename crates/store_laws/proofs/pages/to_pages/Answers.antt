use Rattle.std.proofs.Common.{Result, Ok, Err, IfOk, ap, sym, subst}
use Rattle.std.proofs.Math.Logic.{∥∥₁_map}
use Rattle.sqlite.specs.Effect.{Database}
use Rattle.prof_store.specs.Tables.{Holds}
use Rattle.page_files.specs.Files.{page_size}
use Rattle.store_openers.proofs.Plain.{held_plainly}
use Rattle.store_laws.proofs.pages.to_pages.Goals as goal

all_three : {X E : Type 0} {P Q R S : X → Type 0} (opened : Result X E) → ((x : X) → P x → Q x → R x → S x) → IfOk opened P → IfOk opened Q → IfOk opened R → IfOk opened S
all_three (Ok x) so one two three = so x one two three
all_three (Err e) so one two three = tt

taken : goal.returns-in-Ok-clause-committed
taken g c =
    all_three c.open.result
    (λ store honest sized represents faithful t holds order.
    let copied = c.in-Ok.ensures.copied (honest faithful) in
    ∥∥₁_map copied.seen.both (λ held. represents faithful t (held_plainly t (page_size store.file) _ _ (sized faithful) holds held order)))
    c.open.ensures.honest c.open.ensures.size c.open.ensures.represents

pub returns-in-Ok-clause-committed : goal.returns-in-Ok-clause-committed
returns-in-Ok-clause-committed = taken

each_ok : {X E : Type 0} {P Q : X → Type 0} (opened : Result X E) → ((x : X) → P x → Q x) → IfOk opened P → IfOk opened Q
each_ok (Ok x) so is = so x is
each_ok (Err e) so is = tt

pub returns-in-Ok-clause-store : goal.returns-in-Ok-clause-store
returns-in-Ok-clause-store g c =
    each_ok c.open.result
    (λ store represents faithful t rests order. represents faithful t (subst (Holds t) (sym (ap (λ (d : Database). d.trees) rests.settled)) rests.holds) order)
    (taken g c)
