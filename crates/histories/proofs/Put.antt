-- What an import makes of tables that represent a history.
use Rattle.std.proofs.Common.{◌≡◌, ℕ, suc, true, List, [], ◌∷◌, ◌++◌, map, refl, sym, ap, ap₂, subst, ◌∙◌}
use Rattle.std.specs.List.{list_any, AllByRecursion}
use Rattle.sha2.specs.Sha256.{sha256}
use Rattle.cg_formulas.specs.declared.heads.FileHead.{FileHead}
use Rattle.cost_rows.specs.Content.{Content}
use Rattle.cost_rows.specs.Held.{AreHeld}
use Rattle.cost_rows.specs.Walks.{named_calls}
use Rattle.cost_rows.proofs.AboveLemmas.{cells-above, stacks-above}
use Rattle.cost_rows.proofs.WalkSumsLemmas.{walked-cells, walked-costs, walked-counts, walked-calls, walked-stacks}
use Rattle.plain_tables.specs.Tables.{Tables, GroupRow}
use Rattle.plain_tables.specs.Sound.{AreSound}
use Rattle.plain_tables.specs.Changes as changes
use Rattle.run_stores.specs.Book.{Book, book_of, with_run_book}
use Rattle.run_stores.specs.Heads as heads
use Rattle.run_stores.specs.Heads.{event_rows, derived_rows, coef_rows, derived_rows_from, coef_rows_from, stated_at}
use Rattle.run_stores.specs.BookRuns.{run_row_of, with_file, file_book}
use Rattle.profile_records.specs.Kinds.{kind_number}
use Rattle.profile_records.specs.declared.kinds.Kind.{Kind}
use Rattle.profile_records.specs.declared.kinds.Kind.TheVariants.{Callgrind, Folded}
use Rattle.run_stores.proofs.Books.{book_insert, named_insert}
use Rattle.run_stores.proofs.Filed.{head_of_run}
use Rattle.run_stores.proofs.Parts.{counts_are, costs_are, calls_are}
use Rattle.histories.specs.Formats.{kind_in, today}
use Rattle.histories.specs.Files.{events_of, derived_of, stated_of, IsHeadOf, rows_of}
use Rattle.byte_io.specs.Outcomes.{Outcome, bytes_of}
use Rattle.histories.specs.History.{Import, History, File, held, baseline}
use Rattle.histories.specs.Legal.{IsLegal}
use Rattle.histories.specs.Representation.{IsBookOf, AreBooksOf, TablesRepresent, event_rows_from}
use Rattle.histories.specs.declared.answers.Answer.TheVariants.{Run}
use Rattle.histories.specs.declared.limits.Limits.{Limits}
use Rattle.histories.proofs.Baselines.{baseline_other}
use Rattle.histories.proofs.Books.{books_push}
use Rattle.histories.proofs.Groups.{groups_other}
use Rattle.histories.proofs.Held.{held_insert, next_run}
use Rattle.histories.proofs.Members.{member_other}
use Rattle.histories.proofs.Rows.{rows_come}
use Rattle.histories.proofs.Tests.{all_on}
use Rattle.histories.proofs.StepsTo.{history_more}

-- ---- the parts of a head

head_events : (kind : Kind) (head : FileHead) (bytes : List ℕ) → IsHeadOf kind head bytes → head.events ≡ events_of (today kind) bytes
head_events Callgrind head bytes is = is.events
head_events Folded head bytes is = is.events

head_derived : (kind : Kind) (head : FileHead) (bytes : List ℕ) → IsHeadOf kind head bytes → head.derived.derived ≡ derived_of (today kind) bytes
head_derived Callgrind head bytes is = is.derived
head_derived Folded head bytes is = is.derived

head_stated : (kind : Kind) (head : FileHead) (bytes : List ℕ) → IsHeadOf kind head bytes → head.stated ≡ stated_of (today kind) bytes
head_stated Callgrind head bytes is = is.stated
head_stated Folded head bytes is = is.stated

kind_back : (kind : Kind) → kind_in (today kind) ≡ kind
kind_back Callgrind = refl
kind_back Folded = refl

-- ---- the run of a file in the book

module _ (number : ℕ) (kind : Kind) (label bytes : List ℕ) (head : FileHead) (is : IsHeadOf kind head bytes) where
  abbrev file : File
  file = record { number = number; format = today kind; label = label; bytes = bytes }

  abbrev rows : Content
  rows = rows_of kind bytes

  lines_are : (place : ℕ) (names : List (List ℕ)) → heads.event_rows_from number head rows place names ≡ event_rows_from file place names
  lines_are place [] = refl
  lines_are place (name ∷ names) =
      let all = rows_come kind bytes in
      ap₂ ◌∷◌ (cc (all.cells (λ _. true) place, all.calls (λ _ _. true) place, ap (λ o. stated_at o place) (head_stated kind head bytes is))) (lines_are (suc place) names)

  pub book_of_file : IsBookOf file (file_book number kind (sha256 bytes) label head rows)
  book_of_file =
      let all = rows_come kind bytes in
      record {
        number = refl;
        kind = ap kind_number (sym (kind_back kind));
        digest = refl;
        label = refl;
        call_count = all.counts (λ _ _. true);
        events = lines_are 0 head.events ∙ ap (event_rows_from file 0) (head_events kind head bytes is);
        derived = ap (derived_rows_from number 0) (head_derived kind head bytes is);
        coefs = ap (coef_rows_from number 0) (head_derived kind head bytes is);
        cells = λ passes k. walked-cells passes k rows.names rows.cells ∙ all.cells passes k;
        counts = λ passes. sym (counts_are passes (named_calls rows.names rows.calls)) ∙ walked-counts passes rows.names rows.calls ∙ all.counts passes;
        costs = λ passes k. sym (costs_are passes k (named_calls rows.names rows.calls)) ∙ walked-costs passes k rows.names rows.calls ∙ all.calls passes k;
        called = λ passes. sym (calls_are passes (named_calls rows.names rows.calls)) ∙ walked-calls passes rows.names rows.calls ∙ all.called passes;
        stacks = λ passes. walked-stacks passes rows.stacks ∙ all.stacks_are passes;
        whole = (named_calls rows.names rows.calls, refl);
        cells_above = cells-above rows.names rows.cells;
        stacks_above = stacks-above rows.stacks;
      }

-- ---- the tables

module _ (limits : Limits) (h : History) (kind : Kind) (label : List ℕ) (outcomes : List Outcome) (head : FileHead) (c : Content) (t : Tables) where
  abbrev digest : List ℕ
  digest = sha256 (bytes_of outcomes)

  abbrev after : Tables
  after = with_file t.next kind digest label head c t

  abbrev later : History
  later = h ++ record { command = Import (today kind) label outcomes; answer = Run t.next } ∷ []

  pub tell_insert : AreSound t → AreSound (with_file t.next kind (sha256 (bytes_of outcomes)) label head c t) → TablesRepresent h t → IsLegal limits h (Import (today kind) label outcomes) (Run t.next)
      → IsHeadOf kind head (bytes_of outcomes) → c ≡ rows_of kind (bytes_of outcomes)
      → TablesRepresent (h ++ record { command = Import (today kind) label outcomes; answer = Run t.next } ∷ []) (with_file t.next kind (sha256 (bytes_of outcomes)) label head c t)
  tell_insert was is represent legal has rows_are =
      let names = subst AreHeld (sym rows_are) (rows_come kind (bytes_of outcomes)).held in
      let lines = head_of_run t.next head c in
      let run = run_row_of t.next kind digest label c in
      let book : book_of after ≡ with_run_book (file_book t.next kind digest label head c) (book_of t) =
      book_insert run (event_rows t.next head c) (derived_rows t.next head) (coef_rows t.next head) c t was is represent.named names refl lines in
      let one : IsBookOf (record { number = t.next; format = today kind; label = label; bytes = bytes_of outcomes }) (file_book t.next kind digest label head c) =
      subst (λ rows. IsBookOf (record { number = t.next; format = today kind; label = label; bytes = bytes_of outcomes }) (file_book t.next kind digest label head rows)) (sym rows_are)
      (book_of_file t.next kind label (bytes_of outcomes) head has) in
      record {
        legal = history_more limits h (Import (today kind) label outcomes) (Run t.next) represent.legal legal;
        named = named_insert run (event_rows t.next head c) (derived_rows t.next head) (coef_rows t.next head) c t was is represent.named names refl lines;
        next = ap (λ (b : Book). b.next) book ∙ ap suc represent.next ∙ sym (next_run h (Import (today kind) label outcomes) t.next);
        runs =
            subst (λ (b : Book). AreBooksOf (held later) b.runs) (sym book)
            (subst (λ files. AreBooksOf files ((book_of t).runs ++ file_book t.next kind digest label head c ∷ [])) (sym (held_insert h (today kind) label outcomes t.next))
            (books_push (held h) (book_of t).runs (record { number = t.next; format = today kind; label = label; bytes = bytes_of outcomes }) (file_book t.next kind digest label head c) represent.runs one));
        groups = ap (λ (b : Book). map (λ (g : GroupRow). g.name) b.groups) book ∙ represent.groups ∙ sym (groups_other h (Import (today kind) label outcomes) (Run t.next) tt);
        baselines =
            subst (λ (b : Book). AllByRecursion (λ (g : GroupRow). g.baseline ≡ baseline later g.name) b.groups) (sym book)
            (all_on (λ (g : GroupRow). g.baseline ≡ baseline h g.name) (λ (g : GroupRow). g.baseline ≡ baseline later g.name) t.groups
            (λ g same. same ∙ sym (baseline_other h (Import (today kind) label outcomes) (Run t.next) g.name tt)) represent.baselines);
        members = λ name n.
            ap (λ (b : Book). list_any (changes.is_member name n) b.members) book ∙ represent.members name n
            ∙ sym (member_other h (Import (today kind) label outcomes) (Run t.next) name n tt);
      }
