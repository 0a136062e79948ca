-- Imports of the same bytes make the same of a history, however they were cut into reads.
use Rattle.std.proofs.Common.{◌≡◌, ℕ, List, [], ◌∷◌, ◌++◌, filter, Option, Some, None, refl, sym, ap, subst, ◌∙◌}
use Rattle.histories.specs.Formats.{Format}
use Rattle.plain_tables.specs.Tables.{Tables, GroupRow}
use Rattle.run_stores.specs.Book.{book_of}
use Rattle.byte_io.specs.Outcomes.{Outcome, bytes_of}
use Rattle.histories.specs.History.{Import, Step, History, File, held, next, groups, is_member, baseline}
use Rattle.histories.specs.Legal.{IsLegal, IsHistory}
use Rattle.histories.specs.Representation.{AreBooksOf, TablesRepresent}
use Rattle.histories.specs.declared.answers.Answer.{Answer}
use Rattle.histories.specs.declared.answers.Answer.TheVariants.{Run}
use Rattle.histories.specs.declared.limits.Limits.{Limits}
use Rattle.histories.proofs.Baselines.{baseline_more, left_by, set_or}
use Rattle.histories.proofs.Groups.{groups_more}
use Rattle.histories.proofs.Held.{held_more, next_more, taken, stays}
use Rattle.histories.proofs.Members.{member_more}
use Rattle.histories.proofs.Tests.{all_on}
use Rattle.histories.proofs.StepsTo.{history_more}

module _ (h : History) (format : Format) (label : List ℕ) (xs ys : List Outcome) (answer : Answer) (same : bytes_of xs ≡ bytes_of ys) where
  abbrev first : Step
  first = record { command = Import format label xs; answer = answer }

  abbrev second : Step
  second = record { command = Import format label ys; answer = answer }

  taken_same : (a : Answer) → taken (Import format label xs) a ≡ taken (Import format label ys) a
  taken_same (Run n) = ap (λ bytes. let f : File = record { number = n; format = format; label = label; bytes = bytes } in f ∷ []) same
  taken_same a = refl

  held_same : held (h ++ first ∷ []) ≡ held (h ++ second ∷ [])
  held_same = held_more h first ∙ ap (λ l. filter (stays (Import format label xs) answer) (held h) ++ l) (taken_same answer) ∙ sym (held_more h second)

  next_same : next (h ++ first ∷ []) ≡ next (h ++ second ∷ [])
  next_same = next_more h first ∙ sym (next_more h second)

  groups_same : groups (h ++ first ∷ []) ≡ groups (h ++ second ∷ [])
  groups_same = groups_more h first ∙ sym (groups_more h second)

  member_same : (name : List ℕ) (n : ℕ) → is_member (h ++ first ∷ []) name n ≡ is_member (h ++ second ∷ []) name n
  member_same name n = member_more h first name n ∙ sym (member_more h second name n)

  left_same : (name : List ℕ) (was : Option ℕ) → left_by name (Import format label xs) answer was ≡ left_by name (Import format label ys) answer was
  left_same name None = refl
  left_same name (Some n) = refl

  baseline_same : (name : List ℕ) → baseline (h ++ first ∷ []) name ≡ baseline (h ++ second ∷ []) name
  baseline_same name = baseline_more h first name ∙ ap (set_or None) (left_same name (baseline h name)) ∙ sym (baseline_more h second name)

  pub tell_same : (limits : Limits) (t : Tables) → IsHistory h → IsLegal limits h (Import format label ys) answer → TablesRepresent (h ++ first ∷ []) t → TablesRepresent (h ++ second ∷ []) t
  tell_same limits t is legal represent = record {
    legal = history_more limits h (Import format label ys) answer is legal;
    named = represent.named;
    next = represent.next ∙ next_same;
    runs = subst (λ files. AreBooksOf files (book_of t).runs) held_same represent.runs;
    groups = represent.groups ∙ groups_same;
    baselines = all_on (λ (g : GroupRow). g.baseline ≡ baseline (h ++ first ∷ []) g.name) (λ (g : GroupRow). g.baseline ≡ baseline (h ++ second ∷ []) g.name) t.groups (λ g is. is ∙ baseline_same g.name) represent.baselines;
    members = λ name n. represent.members name n ∙ member_same name n;
  }
