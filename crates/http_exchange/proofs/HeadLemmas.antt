-- What is known of a head after some reads.
use Rattle.std.proofs.Common.{◌≡◌, ◌⊎◌, inl, inr, ℕ, ◌<◌, false, ◌||◌, IsTrue, List, [], ◌∷◌, ◌++◌, length, refl, sym, ap, subst, ◌∙◌, arith, append-nil}
use Rattle.std.proofs.lemmas.List.{length-append}
use Rattle.std.proofs.lemmas.List.Elements.{All-nil, All-cons}
use Rattle.std.proofs.lemmas.Str.{IsUtf8-from_ascii}
use Rattle.std.proofs.lemmas.Str.Ascii.{IsAscii-cons, IsAscii-nil}
use Rattle.httparse.specs.Grammar.{RequestHead, IsRequestHead, MayBecomeRequest, is_token_byte, is_uri_byte, crlf, print_request}
use Rattle.httparse.specs.Spans.{RequestOverflows}
use Rattle.httparse.specs.declared.spans.HeaderSpan.{HeaderSpan}
use Rattle.byte_io.specs.Outcomes.{Outcome, Gave, Failed, bytes_of}
use Rattle.byte_io.proofs.Outcomes.{bytes_on, bytes_failed}
use Rattle.http_exchange.specs.Heads.{HasNoHead, IsHeadFound, head_limit, field_limit}
use Rattle.http_exchange.specs.declared.heads.Head.TheVariants.{Unfinished, Malformed}
use Rattle.http_exchange.specs.Received.{is_short, IsAwaiting, EndWith, IsBadHead, IsCutOff}
use Rattle.http_exchange.proofs.Steps.{any_join}

-- ---- before the first read

print_some : (head : RequestHead) (rest : List ℕ) → 0 ≡ length (print_request head ++ rest) → ⊥
unfolding print_request
print_some head rest e = grind (arith, length-append)

none_in_nothing : HasNoHead []
none_in_nothing head rest begins = print_some head rest (ap length begins.reads.1)

-- a head that can still come: "A / HTTP/1.1"
abbrev short_head : RequestHead
short_head = record { blank = []; method = 65 ∷ []; target = 47 ∷ []; minor = 1; line_end = crlf; fields = []; last = crlf }

is_short_head : IsRequestHead short_head
unfolding is_token_byte
is_short_head = record {
  method = (omega arith, All-cons (λ b. IsTrue (is_token_byte b)) 65 [] refl (All-nil _));
  target = (omega arith, All-cons (λ b. IsTrue (is_uri_byte b)) 47 [] refl (All-nil _));
  target_text = IsUtf8-from_ascii (47 ∷ []) (IsAscii-cons 47 [] (omega arith) IsAscii-nil);
  minor = omega arith;
  fields = All-nil _;
}

pub await_first : IsAwaiting []
await_first = record {
  gave = refl;
  none = none_in_nothing;
  may = inl (print_request short_head, short_head, (is_short_head, sym (append-nil (print_request short_head))));
  short = omega arith;
}

-- ---- one read more

no_short : (piece : List ℕ) → 0 < length piece → is_short (Gave piece) ≡ false
no_short [] some = absurd (omega (arith, some))
no_short (b ∷ piece) some = refl

module _ (reads : List Outcome) (was : IsAwaiting reads) where
  pub cut_off : IsCutOff (reads ++ Failed ∷ [])
  cut_off = record { none = subst HasNoHead (sym (bytes_failed reads)) was.none; failed = (reads, refl); awaited = (reads, Failed, refl, was) }

  pub ended_early : IsBadHead (reads ++ Gave [] ∷ [])
  ended_early = record {
    none = subst HasNoHead (sym (bytes_on reads [] ∙ append-nil (bytes_of reads))) was.none;
    why = inr (inr (reads, refl));
    awaited = (reads, Gave [], refl, was);
  }

  -- the bytes that came with one read more
  module _ (piece bytes : List ℕ) (fields : List HeaderSpan) (all : bytes_of (reads ++ Gave piece ∷ []) ≡ bytes) where
    pub await_on : 0 < length piece → IsHeadFound bytes fields Unfinished → IsAwaiting (reads ++ Gave piece ∷ [])
    await_on some found = record {
      gave = any_join is_short reads (Gave piece ∷ []) was.gave (ap (λ b. b || false) (no_short piece some));
      none = subst HasNoHead (sym all) found.0;
      may = subst MayBecomeRequest (sym all) found.1;
      short = let many = ap length all in let few = found.2 in omega (arith, many, few);
    }

    pub bad_head : IsHeadFound bytes fields Malformed → IsBadHead (reads ++ Gave piece ∷ [])
    bad_head found = record { none = subst HasNoHead (sym all) found.0; why = go found.1; awaited = (reads, Gave piece, refl, was) }
      where
        go : (RequestOverflows field_limit bytes ⊎ (length bytes ≡ head_limit)) → RequestOverflows field_limit (bytes_of (reads ++ Gave piece ∷ [])) ⊎ (length (bytes_of (reads ++ Gave piece ∷ [])) ≡ head_limit) ⊎ EndWith (reads ++ Gave piece ∷ []) (Gave [])
        go (inl over) = inl (subst (RequestOverflows field_limit) (sym all) over)
        go (inr full) = inr (inl (ap length all ∙ full))
