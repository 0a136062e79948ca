-- The definitions, on examples.
use Rattle.std.proofs.Common.{◌≡◌, ◌⊎◌, inl, inr, ◌+◌, ◌<◌, ◌≤◌, true, false, [], ◌∷◌, length, refl, arith, codes}
use Rattle.byte_io.specs.Outcomes.{Gave, Failed}
use Rattle.http_exchange.specs.Streams.{Took, Broke, WentAs}
use Rattle.http_exchange.specs.Bodies.{IsBodyOf}

-- ---- writes

-- a text in two writes
in_two_writes : WentAs true (codes "abc") (Took (codes "a") ∷ Took (codes "bc") ∷ [])
in_two_writes = (refl, refl)

-- a front of it, and then a write that took no byte
cut_by_an_empty_write : WentAs false (codes "abc") (Took (codes "ab") ∷ Took [] ∷ [])
cut_by_an_empty_write = ((codes "c", refl), record { before = Took (codes "ab") ∷ []; last = Took []; are = refl; taken = refl; stopped = refl }, omega arith)

-- the first write failed
cut_at_once : WentAs false (codes "abc") (Broke ∷ [])
cut_at_once = ((codes "abc", refl), record { before = []; last = Broke; are = refl; taken = refl; stopped = refl }, omega arith)

-- a short write is not the whole
short_is_not_whole : WentAs true (codes "abc") (Took (codes "ab") ∷ []) → ⊥
short_is_not_whole whole = let same = whole.0 in cc

-- nor is a failed write passed over
failure_is_not_whole : WentAs true (codes "abc") (Took (codes "ab") ∷ Broke ∷ Took (codes "c") ∷ []) → ⊥
failure_is_not_whole whole = let same = whole.1 in cc

-- ---- bodies

-- a body of 3 bytes, with 5 held: all is there, and the stream is not read
of_held_bytes : IsBodyOf 3 (codes "abcde") [] (Gave (codes "abc") ∷ Gave [] ∷ [])
of_held_bytes = record { front = ([], refl); whole = λ _. (refl, omega arith); short = λ h. cc; within = inl refl }

-- one of 5 bytes, with 2 held
of_both : IsBodyOf 5 (codes "ab") (Gave (codes "cde") ∷ []) (Gave (codes "ab") ∷ Gave (codes "cde") ∷ Gave [] ∷ [])
of_both = record { front = ([], refl); whole = λ _. (refl, omega arith); short = λ h. cc; within = inr (omega arith, omega arith) }

-- the stream ended too soon
of_an_early_end : IsBodyOf 5 (codes "ab") (Gave [] ∷ []) (Gave (codes "ab") ∷ Failed ∷ [])
of_an_early_end = record { front = ([], refl); whole = λ h. cc; short = λ _. refl; within = inr (omega arith, omega arith) }

-- an early end is not the end of the body
early_end_is_no_end : IsBodyOf 5 (codes "ab") (Gave [] ∷ []) (Gave (codes "ab") ∷ Gave [] ∷ []) → ⊥
early_end_is_no_end body = let all = body.whole refl in omega (arith, all.1)

-- no byte behind the body is given
no_byte_behind : IsBodyOf 3 (codes "abcde") [] (Gave (codes "abcd") ∷ []) → ⊥
no_byte_behind body = let is = body.front.1 in cc

-- nor is one read from the stream
none_is_read_behind : IsBodyOf 3 (codes "ab") (Gave (codes "cd") ∷ []) (Gave (codes "ab") ∷ Gave (codes "c") ∷ Gave [] ∷ []) → ⊥
none_is_read_behind body = go body.within
  where
    go : ((Gave (codes "cd") ∷ []) ≡ []) ⊎ ((length (codes "ab") < 3) × (length (codes "ab") + 2 ≤ 3)) → ⊥
    go (inl none) = cc
    go (inr within) = omega (arith, within.1)
