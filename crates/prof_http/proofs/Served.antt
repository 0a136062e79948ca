-- Requests that were served, one after another.
use Rattle.std.proofs.Common.{◌≡◌, inl, inr, ℕ, ◌+◌, ◌≤◌, List, [], ◌∷◌, ◌++◌, length, Result, Ok, Err, refl, sym, subst, arith}
use Rattle.std.proofs.lemmas.List.{length-append}
use Rattle.run_stores.specs.declared.states.StoreState.{Ghosts}
use Rattle.run_stores.specs.Calls.{IsFaithful}
use Rattle.byte_io.specs.Outcomes.{Outcome}
use Rattle.byte_io.specs.Reads.{Reads}
use Rattle.histories.specs.declared.answers.Answer.{Answer}
use Rattle.histories.specs.declared.limits.Limits.{Limits}
use Rattle.histories.specs.Answered.{Links}
use Rattle.histories.specs.Standard.{IsStandard}
use Rattle.histories.proofs.Links.{links_append, links_clean}
use Rattle.http_exchange.specs.declared.failings.Failing.{Failing}
use Rattle.http_exchange.specs.declared.checks.Request.{Request}
use Rattle.http_exchange.specs.Streams.{Written, Writes}
use Rattle.prof_http.specs.Exchanges.{IsReplied, WasExchanged}
use Rattle.prof_http.specs.declared.replies.Exchange.{Exchange}
use Rattle.warehouse.specs.Taken.{CameTo}
use Rattle.warehouse.proofs.Taken.{taken_by, taken_clean}
use Rattle.prof_http.specs.Served.{AreOfRequests, HasServed, WasExchangedWithAny, WereExchanged, steps_of, steps_of_exchange, steps_of_reply}

-- ---- any bytes

any_reads : (outcomes : List Outcome) → Reads {S = Unit {0}} (λ _ _ _. Unit {0}) tt outcomes tt
any_reads [] = refl
any_reads (o ∷ outcomes) = (tt, tt, any_reads outcomes)

any_writes : (written : List Written) → Writes {S = Unit {0}} (λ _ _ _. Unit {0}) tt written tt
any_writes [] = refl
any_writes (one ∷ written) = (tt, tt, any_writes written)

module _ {S : Type 0} (g : Ghosts S) (limits : Limits) where
  -- what was exchanged over a stream was exchanged with somebody
  pub with_any : {T : Type 0} (reads : T → Outcome → T → Type 0) (writes : T → Written → T → Type 0) (hears : T → T → Type 0) (exchange : Exchange) (from to : T) (old new : S)
      → WasExchanged g limits reads writes hears exchange from to old new → WasExchangedWithAny g limits exchange old new
  with_any reads writes hears exchange from to old new (inl served) =
      let it = served.responded in
      inl (record {
        head_reads = served.head_reads;
        headed = tt;
        head_came = any_reads served.head_reads;
        awaited = served.awaited;
        head = served.head;
        after = served.after;
        begins = served.begins;
        told = tt;
        heard = tt;
        responded = record {
          body_reads = it.body_reads;
          bodied = tt;
          body_came = any_reads it.body_reads;
          reply = it.reply;
          replied = it.replied;
          written = it.written;
          went = any_writes it.written;
          sent = it.sent;
        };
      })
  with_any reads writes hears exchange from to old new (inr (inl rejected)) =
      inr (inl (record {
        head_reads = rejected.head_reads;
        headed = tt;
        head_came = any_reads rejected.head_reads;
        bad = rejected.bad;
        same = rejected.same;
        written = rejected.written;
        went = any_writes rejected.written;
        sent = rejected.sent;
      }))
  with_any reads writes hears exchange from to old new (inr (inr dropped)) =
      inr (inr (record {
        head_reads = dropped.head_reads;
        head_came = any_reads dropped.head_reads;
        cut = dropped.cut;
        same = dropped.same;
        exchange_is = dropped.exchange_is;
      }))

  -- ---- the commands lead from store to store

  reply_links : (wanted : Result Request Failing) (after : List ℕ) (reads : List Outcome) (reply : Result Answer Failing) (old new : S) (is : IsReplied g limits wanted after reads reply old new)
      → IsFaithful g new → Links g limits (steps_of_reply g limits wanted after reads reply old new is) old new
  reply_links wanted after reads (Ok answer) old new done clean = (new, done.answers clean, refl)
  reply_links wanted after reads (Err failing) old new away clean = sym away.same

  exchange_links : (exchange : Exchange) (old new : S) (was : WasExchangedWithAny g limits exchange old new) → IsFaithful g new → Links g limits (steps_of_exchange g limits exchange old new was) old new
  exchange_links exchange old new (inl served) clean = reply_links _ served.after served.responded.body_reads served.responded.reply old new served.responded.replied clean
  exchange_links exchange old new (inr (inl rejected)) clean = sym rejected.same
  exchange_links exchange old new (inr (inr dropped)) clean = sym dropped.same

  were_links : (exchanges : List Exchange) (old new : S) (were : WereExchanged g limits exchanges old new) → IsFaithful g new → Links g limits (steps_of g limits exchanges old new were) old new
  were_links [] old new same clean = same
  were_links (exchange ∷ later) old new were clean =
      let rest = were_links later were.0 new were.2 clean in
      let here = exchange_links exchange old were.0 were.1 (links_clean g limits (steps_of g limits later were.0 new were.2) were.0 new rest clean) in
      links_append g limits (steps_of_exchange g limits exchange old were.0 were.1) (steps_of g limits later were.0 new were.2) old were.0 new here rest

  were_append : (exchanges later : List Exchange) (old mid new : S) → WereExchanged g limits exchanges old mid → WereExchanged g limits later mid new → WereExchanged g limits (exchanges ++ later) old new
  were_append [] later old mid new same were = subst (λ s. WereExchanged g limits later s new) (sym same) were
  were_append (exchange ∷ exchanges) later old mid new one two = (one.0, one.1, were_append exchanges later one.0 mid new one.2 two)

  -- ---- served

  served_by : (requests : ℕ) (exchanges : List Exchange) (old new : S) → length exchanges ≤ requests → WereExchanged g limits exchanges old new → IsFaithful g new → HasServed g limits requests old new
  served_by requests exchanges old new few were clean =
      let links = were_links exchanges old new were clean in
      record {
        steps = steps_of g limits exchanges old new were;
        of_requests = record { exchanges = exchanges; few = few; were = were; are = refl };
        taken = taken_by g limits (steps_of g limits exchanges old new were) old new links;
      }

  pub served_none : (requests : ℕ) (store : S) → IsFaithful g store → HasServed g limits requests store store
  served_none requests store clean = served_by requests [] store store (omega arith) refl clean

  pub served_one : (exchange : Exchange) (old new : S) → WasExchangedWithAny g limits exchange old new → IsFaithful g new → HasServed g limits 1 old new
  served_one exchange old new was clean = served_by 1 (exchange ∷ []) old new (omega arith) (new, was, refl) clean

  pub served_on : (before more : ℕ) (old mid new : S) → HasServed g limits before old mid → HasServed g limits more mid new → IsFaithful g new → HasServed g limits (before + more) old new
  served_on before more old mid new one two clean =
      let first = one.of_requests in
      let last = two.of_requests in
      let few_before = first.few in
      let few_more = last.few in
      let all = length-append first.exchanges last.exchanges in
      served_by (before + more) (first.exchanges ++ last.exchanges) old new (omega (arith, few_before, few_more, all)) (were_append first.exchanges last.exchanges old mid new first.were last.were) clean

  -- the disk was faithful before, too
  pub served_clean : (requests : ℕ) (old new : S) → HasServed g limits requests old new → IsFaithful g new → IsFaithful g old
  served_clean requests old new served clean = taken_clean g limits served.steps old new served.taken clean

-- what was served under standard limits between two stores is what the one came to
pub came_served : {S : Type 0} (g : Ghosts S) (limits : Limits) (requests : ℕ) (store old new end : S) → IsStandard limits → old ≡ store → end ≡ new → HasServed g limits requests old new
    → CameTo g (AreOfRequests g requests store end) store end
came_served g limits requests store old new end standard first last served =
    let here : HasServed g limits requests store end = subst (λ s. HasServed g limits requests s end) first (subst (HasServed g limits requests old) (sym last) served) in record {
      limits = limits;
      standard = standard;
      steps = here.steps;
      taken = here.taken;
      says = here.of_requests;
    }
