-- Answers by the reads of a source, and by the bytes that it is known to give.
use Rattle.std.proofs.Common.{◌≡◌, ℕ, ◌≤◌, inl, inr, List, length, Option, Some, Result, Ok, Err, IfOk, codes, subst, arith}
use Rattle.std.specs.declared.alloc.AllocError.{AllocError}
use Rattle.byte_io.specs.Outcomes.{Outcome, bytes_of}
use Rattle.byte_io.specs.Reads.{Reads, IsUnreadFor}
use Rattle.byte_io.specs.Known.{IsRead}
use Rattle.byte_io.specs.declared.reading.Unread.TheVariants.{Failed, TooLong}
use Rattle.byte_io.proofs.Known.{known_whole, known_most}
use Rattle.file_reading.specs.Readers.{IsTotalOf, IsRefusal, IsAnswer, IsAnswerOf}
use Rattle.file_reading.specs.declared.total.TotalText.{TotalText}

module _ (outcomes : List Outcome) (r : Result TotalText AllocError) where
  pub answer_too_long : IsUnreadFor 1073741824 outcomes TooLong → IfOk r (IsRefusal (codes "too long")) → IfOk r (IsAnswer outcomes)
  answer_too_long cause = go r
    where
      go : (r : Result TotalText AllocError) → IfOk r (IsRefusal (codes "too long")) → IfOk r (IsAnswer outcomes)
      go (Ok t) refused = inr (inl (cause, refused))
      go (Err e) refused = tt

  pub answer_failed : IsUnreadFor 1073741824 outcomes Failed → IfOk r (IsRefusal (codes "read failed")) → IfOk r (IsAnswer outcomes)
  answer_failed cause = go r
    where
      go : (r : Result TotalText AllocError) → IfOk r (IsRefusal (codes "read failed")) → IfOk r (IsAnswer outcomes)
      go (Ok t) refused = inr (inr (cause, refused))
      go (Err e) refused = tt

module _ {S : Type 0} (remaining : S → Option (List ℕ)) (from to : S) (outcomes : List Outcome) (text : List ℕ) (known : remaining from ≡ Some text) (came : Reads (λ a o b. IsRead (remaining a) o (remaining b)) from outcomes to) where
  pub answer_known : (r : Result TotalText AllocError) → IfOk r (IsAnswer outcomes) → IfOk r (IsAnswerOf text)
  answer_known (Err e) is = tt
  answer_known (Ok t) (inl whole) =
      let same : bytes_of outcomes ≡ text = known_whole remaining outcomes from to text known came whole.0.ended in
      inl (subst (λ b. length b ≤ 1073741824) same whole.0.reads.within, subst (λ b. IsTotalOf b t) same whole.1)
  answer_known (Ok t) (inr (inl cut)) =
      let most = known_most remaining outcomes from to text known came in let over = cut.0 in
      inr (inl (omega (arith, most, over), cut.1))
  answer_known (Ok t) (inr (inr cut)) = inr (inr cut.1)
