-- Annotated sources and exports of the same files are the same.
use Rattle.std.proofs.Common.{◌≡◌, ℕ, ◌==◌, Bool, true, false, not, bytes_eq, if◌then◌else◌, List, [], ◌∷◌, ◌++◌, length, map, flat_map, refl, ap, ap₂}
use Rattle.std.specs.Str.Lines.{strip_carriage_return}
use Rattle.cg_text.specs.Lines.{lines_of, numbered}
use Rattle.cost_rows.specs.Sums.{Spot}
use Rattle.cost_rows.proofs.StacksLemmas.{bytes_cmp-total}
use Rattle.report_texts.specs.Costs.{all_costs}
use Rattle.report_texts.specs.Annotations.{SourceLine, annotation_of, annotation_text, costs_in, is_outside, source_lines}
use Rattle.report_texts.specs.Csv.{EventSpot, all_named, csv_text, named_costs}
use Rattle.report_texts.specs.Folded.{counts_of, folded_text}
use Rattle.cost_exports.proofs.SpreadLemmas.{event_spot-apart, event_spot-total}
use Rattle.cost_exports.proofs.StackLemmas.{bytes_apart}
use Rattle.profile_records.specs.Stacks.{Seen}
use Rattle.histories.specs.Exports.{annotated_text, csv_of_files, file_stacks, folded_of_files, knows_source, named_records}
use Rattle.histories.specs.History.{File}
use Rattle.histories.specs.Legal.{no_source, when}
use Rattle.histories.specs.Reports.{event_records}
use Rattle.histories.specs.declared.answers.Answer.TheVariants.{Refused}
use Rattle.histories.specs.declared.answers.Refusal.TheVariants as reasons
use Rattle.store_laws.specs.SameFiles.{AreSameFiles}
use Rattle.store_laws.proofs.Alike.{Alike, amounts_alike, pieces_alike, where_alike}
use Rattle.store_laws.proofs.FilesAlike.{said_alike, same_any}
use Rattle.store_laws.proofs.Reports.{costs_alike, seen_as}

-- ---- a source

module _ (file : List ℕ) where
  in_piece : Spot × ℕ → List (ℕ × ℕ)
  in_piece e = if bytes_eq e.0.file file then (e.0.line, e.1) ∷ [] else []

  in_said : (costs : List (Spot × ℕ)) → costs_in file costs ≡ flat_map in_piece costs
  unfolding in_piece
  in_said [] = refl
  in_said (e ∷ costs) = go (bytes_eq e.0.file file) (in_said costs)
    where
      go : (b : Bool) → costs_in file costs ≡ flat_map in_piece costs
          → (if b then (e.0.line, e.1) ∷ costs_in file costs else costs_in file costs) ≡ (if b then (e.0.line, e.1) ∷ [] else []) ++ flat_map in_piece costs
      go true rest = ap (λ l. (e.0.line, e.1) ∷ l) rest
      go false rest = rest

in_alike : (file : List ℕ) (costs others : List (Spot × ℕ)) → Alike costs others → Alike (costs_in file costs) (costs_in file others)
in_alike file costs others same =
    seen_as (costs_in file costs) (costs_in file others) (flat_map (in_piece file) costs) (flat_map (in_piece file) others) (in_said file costs) (in_said file others) (pieces_alike (in_piece file) costs others same)

same_lines : (costs others : List (ℕ × ℕ)) → Alike costs others → (lines : List (ℕ × List ℕ)) → source_lines costs lines ≡ source_lines others lines
same_lines costs others same [] = refl
same_lines costs others same (line ∷ lines) =
    ap₂ (λ (cost : ℕ) (rest : List SourceLine). record { number = line.0; text = strip_carriage_return line.1; cost = cost } ∷ rest)
    (where_alike (λ n. n == line.0) (λ n. n) costs others same) (same_lines costs others same lines)

annotation_alike : (file source : List ℕ) (costs others : List (ℕ × ℕ)) → Alike costs others → annotation_of file source costs ≡ annotation_of file source others
annotation_alike file source costs others same =
    ap₂ (λ (lines : List SourceLine) (sums : ℕ × ℕ). record { file = file; lines = lines; outside = sums.0; total = sums.1 })
    (same_lines costs others same (numbered 1 (lines_of source)))
    (ap₂ (λ (m n : ℕ). (m, n)) (where_alike (is_outside (length (lines_of source))) (λ n. n) costs others same) (where_alike (λ _. true) (λ n. n) costs others same))

pub same_annotation : (event file source : List ℕ) (files others : List File) → AreSameFiles files others → annotated_text event file source files ≡ annotated_text event file source others
same_annotation event file source files others same =
    let own = all_costs (map (event_records event) files) in
    let other = all_costs (map (event_records event) others) in
    ap (annotation_text event)
    (annotation_alike file source (costs_in file own) (costs_in file other) (in_alike file own other (costs_alike (event_records event) (λ f. refl) files others same)))

pub same_source : (name : List ℕ) (files others : List File) → AreSameFiles files others → no_source name files ≡ no_source name others
same_source name files others same = ap (λ b. when (not b) (Refused reasons.NoSuchName)) (same_any (knows_source name) (λ f. refl) files others same)

-- ---- exports

named_piece : File → List (EventSpot × ℕ)
named_piece f = named_costs (named_records f).events (named_records f).records

named_said : (files : List File) → all_named (map named_records files) ≡ flat_map named_piece files
unfolding named_piece
named_said [] = refl
named_said (f ∷ files) = ap (λ l. named_costs (named_records f).events (named_records f).records ++ l) (named_said files)

pub same_csv : (files others : List File) → AreSameFiles files others → csv_of_files files ≡ csv_of_files others
unfolding named_piece
same_csv files others same =
    let own = all_named (map named_records files) in
    let other = all_named (map named_records others) in
    ap csv_text (amounts_alike event_spot-total event_spot-apart own other
    (seen_as own other (flat_map named_piece files) (flat_map named_piece others) (named_said files) (named_said others) (said_alike named_piece (λ f. refl) files others same)))

counts_piece : Seen → List (List ℕ × ℕ)
counts_piece s = (s.stack.frames, s.stack.count) ∷ []

counts_said : (seen : List Seen) → counts_of seen ≡ flat_map counts_piece seen
unfolding counts_piece
counts_said [] = refl
counts_said (s ∷ seen) = ap (λ l. (s.stack.frames, s.stack.count) ∷ l) (counts_said seen)

counts_alike : (seen more : List Seen) → Alike seen more → Alike (counts_of seen) (counts_of more)
counts_alike seen more same =
    seen_as (counts_of seen) (counts_of more) (flat_map counts_piece seen) (flat_map counts_piece more) (counts_said seen) (counts_said more) (pieces_alike counts_piece seen more same)

pub same_folded : (files others : List File) → AreSameFiles files others → folded_of_files files ≡ folded_of_files others
same_folded files others same =
    let seen = flat_map file_stacks files in
    let more = flat_map file_stacks others in
    ap folded_text (amounts_alike bytes_cmp-total bytes_apart (counts_of seen) (counts_of more) (counts_alike seen more (said_alike file_stacks (λ f. refl) files others same)))
