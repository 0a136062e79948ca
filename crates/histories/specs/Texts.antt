-- The texts of lists.
use Rattle.std.specs.Prelude.{ℕ, List, [], ◌∷◌, ◌++◌, flat_map, codes, Option, Some, None}
use Rattle.std.specs.Fmt.{decimal}
use Rattle.std.specs.Ordering.{nat_cmp}
use Rattle.std.specs.Cmp.Lexicographic.{slice_cmp}
use Rattle.std.specs.declared.cmp.Ordering.{Ordering}
use Rattle.std.specs.declared.cmp.Ordering.TheVariants.{Greater}
use Rattle.sha2.specs.Sha256.{sha256}
use Rattle.hex.specs.Hex.{encode_lower}
use Rattle.profile_records.specs.declared.kinds.Kind.{Kind}
use Rattle.profile_records.specs.declared.kinds.Kind.TheVariants.{Callgrind, Folded}
use Rattle.histories.specs.Formats.{kind_in}
use Rattle.histories.specs.History.{History, File, held, groups, members, baseline}

-- ---- runs

abbrev pub kind_text : Kind → List ℕ
kind_text Callgrind = codes "callgrind"
kind_text Folded = codes "folded"

-- number, kind, digest and label of a run
abbrev pub run_text : ℕ → Kind → List ℕ → List ℕ → List ℕ
run_text number kind digest label =
    decimal number ++ (codes " " ++ (kind_text kind ++ (codes " " ++ (encode_lower digest ++ (codes " " ++ (label ++ codes "\n"))))))

abbrev pub run_line : File → List ℕ
run_line f = run_text f.number (kind_in f.format) (sha256 f.bytes) f.label

abbrev pub runs_text : History → List ℕ
runs_text h = flat_map run_line (held h)

-- ---- groups

abbrev pub baseline_text : Option ℕ → List ℕ
baseline_text None = codes "-"
baseline_text (Some n) = decimal n

-- numbers behind a first one
abbrev pub more_text : List ℕ → List ℕ
more_text [] = []
more_text (n ∷ numbers) = (codes "," ++ decimal n) ++ more_text numbers

abbrev pub members_text : List ℕ → List ℕ
members_text [] = codes "-"
members_text (n ∷ numbers) = decimal n ++ more_text numbers

-- name, baseline and members of a group
abbrev pub group_line : List ℕ → Option ℕ → List ℕ → List ℕ
group_line name base numbers = name ++ (codes " " ++ (baseline_text base ++ (codes " " ++ (members_text numbers ++ codes "\n"))))

-- a name among names that rise by their bytes
abbrev pub placed : Ordering → List ℕ → List ℕ → List (List ℕ) → List (List ℕ) → List (List ℕ)
placed Greater name other before after = other ∷ before
placed order name other before after = name ∷ other ∷ after

abbrev pub among : List ℕ → List (List ℕ) → List (List ℕ)
among name [] = name ∷ []
among name (other ∷ names) = placed (slice_cmp nat_cmp name other) name other (among name names) names

-- names by their bytes
abbrev pub rising : List (List ℕ) → List (List ℕ)
rising [] = []
rising (name ∷ names) = among name (rising names)

abbrev pub groups_text : History → List ℕ
groups_text h = flat_map (λ name. group_line name (baseline h name) (members h name)) (rising (groups h))
