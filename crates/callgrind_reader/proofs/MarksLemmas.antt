-- Marks of names, and what was told of them.
use Rattle.std.proofs.Common.{◌≡◌, ◌⊎◌, inl, inr, ℕ, List, Option, Some, unwrap_or, sym, ap, ◌∙◌, arith}
use Rattle.cg_text.specs.Names.{unknown}
use Rattle.cg_text.specs.Readings.{Reading}
use Rattle.cg_text.specs.declared.words.Namespace.{Namespace}
use Rattle.cg_text.specs.declared.words.Namespace.TheVariants.{Object, File, Function}
use Rattle.profile_records.specs.Marks.{Agrees, Learns, names_tell}
use Rattle.profile_records.specs.declared.marks.LentName.{LentName}
use Rattle.profile_records.specs.declared.marks.LentNames.{LentNames}
use Rattle.profile_records.specs.declared.marks.Mark.{Mark}
use Rattle.profile_records.specs.declared.marks.Mark.TheVariants.{Held, Own, Called, Unnamed}
use Rattle.profile_records.specs.Records.{Cost, Callee}
use Rattle.callgrind_reader.specs.Calls.{number_after, called, callee_of}
use Rattle.callgrind_reader.specs.Lines.{cost_of}
use Rattle.callgrind_reader.specs.Threads.{thread_of}
use Rattle.callgrind_reader.specs.Names.{in_force}
use Rattle.callgrind_reader.specs.Representation.{NamesAre}
use Rattle.callgrind_reader.specs.Marks.{AreLent, AreOwn, AreCalled, own_text, IsLent, StillIs, KnownHolds, MarksStay, space_of}
use Rattle.callgrind_reader.specs.declared.names.Names.{Names}
use Rattle.callgrind_reader.specs.declared.spaces.Space.{Space}

-- what is lent holds of its mark
pub still-lent : (s : Space) (mark : Mark) (text : List ℕ) → IsLent s mark text → StillIs s mark text
still-lent s (Held place) text lent = lent
still-lent s (Own count) text lent = (omega (arith, lent.0), λ _. lent.1)
still-lent s (Called count) text lent = (omega (arith, lent.0), λ _. lent.1)
still-lent s Unnamed text lent = lent

-- and what holds of a mark is what is lent with it
pub lent-again : (s : Space) (mark : Mark) (text other : List ℕ) → StillIs s mark text → IsLent s mark other → text ≡ other
lent-again s (Held place) text other still lent = cc
lent-again s (Own count) text other still lent = sym (still.1 lent.0) ∙ lent.1
lent-again s (Called count) text other still lent = sym (still.1 lent.0) ∙ lent.1
lent-again s Unnamed text other still lent = still ∙ sym lent

module _ (n : Names) (told : Namespace → Mark → List ℕ → Type 0) (lent : (space : Namespace) (mark : Mark) (text : List ℕ) → told space mark text → IsLent (space_of n space) mark text) where
  -- a sink that knows what holds may be lent what is told
  pub lent-agrees : (known : Namespace → Mark → Option (List ℕ)) → KnownHolds n known → Agrees known told
  lent-agrees known holds = record {
    before = λ space mark text other was now. lent-again (space_of n space) mark text other (holds.still space mark text was) (lent space mark other now);
    alike = λ space mark text other one two.
        lent-again (space_of n space) mark text other (still-lent (space_of n space) mark text (lent space mark text one)) (lent space mark other two);
  }

  -- and what it knows then holds
  pub learnt-holds : (known after : Namespace → Mark → Option (List ℕ)) → KnownHolds n known → Learns known told after → KnownHolds n after
  learnt-holds known after holds learns = record {
    still = λ space mark text is. elim (learns space mark text is) [
      | inl was ↦ holds.still space mark text was
      | inr now ↦ still-lent (space_of n space) mark text (lent space mark text now)
    ];
  }

-- those of a call are
pub both-lent : (n : Names) (own called : LentNames) → AreLent n own → AreLent n called → (space : Namespace) (mark : Mark) (text : List ℕ) → (names_tell own space mark text ⊎ names_tell called space mark text) → IsLent (space_of n space) mark text
both-lent n own called own_lent called_lent space mark text told = elim told [
  | inl one ↦ own_lent space mark text one
  | inr other ↦ called_lent space mark text other
]

-- what is known holds on
pub known-stays : (old new : Names) (known : Namespace → Mark → Option (List ℕ)) → MarksStay old new → KnownHolds old known → KnownHolds new known
known-stays old new known stay holds = record { still = go }
  where
    go : (space : Namespace) (mark : Mark) (text : List ℕ) → known space mark ≡ Some text → StillIs (space_of new space) mark text
    go Object mark text is = stay.objects mark text (holds.still Object mark text is)
    go File mark text is = stay.files mark text (holds.still File mark text is)
    go Function mark text is = stay.functions mark text (holds.still Function mark text is)

pub marks-same : (n : Names) → MarksStay n n
marks-same n = record { objects = λ mark text is. is; files = λ mark text is. is; functions = λ mark text is. is }

pub ruleset marks_rules = (known-stays, marks-same)

-- ---- the records that are lent

-- costs with the names in force
pub lent-cost : (n : Names) (names : LentNames) (at line thread : ℕ) (costs : List ℕ) (back : List Reading) → NamesAre n back → AreOwn n names → at ≡ number_after back → thread ≡ thread_of back
    → record { at = at; object = names.object.text.now; file = names.file.text.now; function = names.function.text.now; line = line; thread = thread; costs = costs } ≡ cost_of line costs back
lent-cost n names at line thread costs back are own number ran =
    let P : ℕ → ℕ → List ℕ → List ℕ → List ℕ → Cost = λ t a o f u. record { at = a; object = o; file = f; function = u; line = line; thread = t; costs = costs } in
    let object : names.object.text.now ≡ in_force Object back = own.object ∙ ap (λ t. unwrap_or t unknown) are.objects.own in
    let file : names.file.text.now ≡ in_force File back = own.file ∙ ap (λ t. unwrap_or t unknown) are.files.own in
    let function : names.function.text.now ≡ in_force Function back = own.function ∙ ap (λ t. unwrap_or t unknown) are.functions.own in
    let e : P thread at names.object.text.now names.file.text.now names.function.text.now ≡ P (thread_of back) (number_after back) (in_force Object back) (in_force File back) (in_force Function back) =
    ap (λ t. P t at names.object.text.now names.file.text.now names.function.text.now) ran
    ∙ ap (λ a. P (thread_of back) a names.object.text.now names.file.text.now names.function.text.now) number
    ∙ ap (λ o. P (thread_of back) (number_after back) o names.file.text.now names.function.text.now) object
    ∙ ap (λ f. P (thread_of back) (number_after back) (in_force Object back) f names.function.text.now) file
    ∙ ap (P (thread_of back) (number_after back) (in_force Object back) (in_force File back)) function in
    e

-- whom calls called
pub lent-callee : (n : Names) (names : LentNames) (count : ℕ) (back : List Reading) → NamesAre n back → AreCalled n names
    → record { object = names.object.text.now; file = names.file.text.now; function = names.function.text.now; count = count } ≡ callee_of count back
lent-callee n names count back are called_is =
    let P : List ℕ → List ℕ → List ℕ → Callee = λ o f u. record { object = o; file = f; function = u; count = count } in
    let object : names.object.text.now ≡ unwrap_or (called Object back) (in_force Object back) =
    called_is.object ∙ ap (λ t. unwrap_or t (own_text n.objects)) are.objects.called ∙ ap (λ t. unwrap_or (called Object back) (unwrap_or t unknown)) are.objects.own in
    let file : names.file.text.now ≡ unwrap_or (called File back) (in_force File back) =
    called_is.file ∙ ap (λ t. unwrap_or t (own_text n.files)) are.files.called ∙ ap (λ t. unwrap_or (called File back) (unwrap_or t unknown)) are.files.own in
    let function : names.function.text.now ≡ unwrap_or (called Function back) unknown =
    called_is.function ∙ ap (λ t. unwrap_or t unknown) are.functions.called in
    let e : P names.object.text.now names.file.text.now names.function.text.now ≡ callee_of count back =
    ap (λ o. P o names.file.text.now names.function.text.now) object
    ∙ ap (λ f. P (unwrap_or (called Object back) (in_force Object back)) f names.function.text.now) file
    ∙ ap (P (unwrap_or (called Object back) (in_force Object back)) (unwrap_or (called File back) (in_force File back))) function in
    e
