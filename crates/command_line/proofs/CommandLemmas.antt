-- From what clap says of a parse to the plan of the words.
use Rattle.std.proofs.Common.{◌≡◌, ◌≢◌, refl, inl, inr, true, List, [], Option, ap, sym, subst, ◌∙◌}
use Rattle.clap.specs.Words.{App, HasKind, HasMatchesOf, IsAmong, Kinds, Row, Text, fault_of, is_simple, is_simple_and_free, kind_of, subcommand_rows_of}
use Rattle.clap.specs.declared.builder.value_parser.ValueParser.{ValueParser}
use Rattle.clap.specs.declared.parser.matches.ArgMatches.{ArgMatches}
use Rattle.clap.specs.declared.error.Error.{Error}
use Rattle.clap.specs.declared.error.kind.ErrorKind.{ErrorKind}
use Rattle.clap.specs.declared.error.kind.ErrorKind.TheVariants.{OutOfMemory}
use Rattle.command_line.specs.declared.plans.Plan.{Plan}
use Rattle.command_line.specs.declared.plans.PlanEnd.{PlanEnd}
use Rattle.command_line.specs.declared.plans.PlanEnd.TheVariants.{Memory, RunAndGroup, LessRunAndLessGroup, Clap}
use Rattle.command_line.specs.Grammar.{IsCommandLine, command_line}
use Rattle.command_line.specs.Plans.{AreApart, AreBothLessNamed, AreBothNamed, HasNoPlan, IsEndBy, IsEndFor, IsEndFound, IsPlanFor, IsPlannedFor}

-- ---- the command line is one of those of which clap's definitions say all

line_simple : (keys : ValueParser) → is_simple (command_line keys) ≡ true
line_simple keys = refl

line_free : (keys : ValueParser) → is_simple_and_free (command_line keys) ≡ true
line_free keys = refl

simple : (a : App) → IsCommandLine a → is_simple a ≡ true
simple a (keys, takes, is) = ap is_simple is ∙ line_simple keys

free : (a : App) → IsCommandLine a → is_simple_and_free a ≡ true
free a (keys, takes, is) = ap is_simple_and_free is ∙ line_free keys

-- ---- plans

pub plan_for : (a : App) (m : ArgMatches) (words : List Text) (plan : Plan) → IsCommandLine a → HasMatchesOf a words m → (is_simple_and_free a ≡ true → fault_of a words ≡ [])
    → IsPlannedFor (subcommand_rows_of m) plan → IsPlanFor words plan
plan_for a m words plan line matches none given =
    let P : Option (Text × List Row) → Type 0 = λ found. IsPlannedFor found plan in
    record { app = a; line = line; faultless = none (free a line); planned = subst P (matches (simple a line)).1 given }

-- ---- faults

among_kept : (kinds : Kinds) (error kept : Error) → HasKind kinds error → kept ≡ error → (kind_of error ≢ OutOfMemory) → IsAmong (kind_of kept) kinds
among_kept kinds error kept (inl memory) same other = absurd (other memory)
among_kept kinds error kept (inr among) same other =
    let P : Error → Type 0 = λ e. IsAmong (kind_of e) kinds in
    subst P (sym same) among

none_among : (kind : ErrorKind) (kinds : Kinds) → IsAmong kind kinds → kinds ≡ [] → ⊥
none_among kind kinds among none = subst (IsAmong kind) none among

pub fault_kept : (a : App) (words : List Text) (error : Error) (end : PlanEnd) → IsCommandLine a → (is_simple_and_free a ≡ true → HasKind (fault_of a words) error) → IsEndBy error end
    → IsEndFor words end
fault_kept a words error Memory line kinds by = tt
fault_kept a words error RunAndGroup line kinds by = absurd by
fault_kept a words error LessRunAndLessGroup line kinds by = absurd by
fault_kept a words error (Clap kept) line kinds (same, other) =
    let among = among_kept (fault_of a words) error kept (kinds (free a line)) same other in
    (a, line, ((λ some. among), (λ none. absurd (none_among (kind_of kept) (fault_of a words) among none))))

pub both_named : (a : App) (m : ArgMatches) (words : List Text) (end : PlanEnd) → IsCommandLine a → HasMatchesOf a words m → (is_simple_and_free a ≡ true → fault_of a words ≡ [])
    → IsEndFound (subcommand_rows_of m) end → IsEndFor words end
both_named a m words Memory line matches none found = tt
both_named a m words RunAndGroup line matches none found = (a, line, (none (free a line), subst AreBothNamed (matches (simple a line)).1 found))
both_named a m words LessRunAndLessGroup line matches none found =
    let same = (matches (simple a line)).1 in
    (a, line, (none (free a line), (λ both. found.0 (subst AreBothNamed (sym same) both)), subst AreBothLessNamed same found.1))
both_named a m words (Clap error) line matches none found = absurd found

pub no_plan : (a : App) (m : ArgMatches) (words : List Text) (error : Error) → IsCommandLine a → HasMatchesOf a words m → (is_simple_and_free a ≡ true → fault_of a words ≡ [])
    → AreApart (subcommand_rows_of m) → HasNoPlan (subcommand_rows_of m) → IsEndFor words (Clap error)
no_plan a m words error line matches none apart nothing =
    let same = (matches (simple a line)).1 in
    (a, line, ((λ some. absurd (some (none (free a line)))), (λ _. (subst AreApart same apart, subst HasNoPlan same nothing))))
