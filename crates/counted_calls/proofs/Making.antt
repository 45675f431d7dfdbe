-- The calls that a session has made, as its pass sees more.
use Rattle.std.proofs.Common.{◌≡◌, ℕ, suc, ◌+◌, ◌<◌, Bool, true, false, cond, eqb, List, [], ◌∷◌, ◌++◌, map, filter, length, All, refl, sym, ap, ◌∙◌, subst, ⊎_elim, arith, append_assoc}
use Rattle.std.proofs.lemmas.List.{length-append, map-append}
use Rattle.std.proofs.lemmas.List.Elements.{All-append, All-weaker, All-nil, All-cons, filter-append, Contains-append_right}
use Rattle.grid_base.specs.declared.calls.Request.{Request}
use Rattle.hand_cell.specs.declared.outcome.LiveOutcome.{LiveOutcome}
use Rattle.hand_cell.specs.declared.outcome.LiveOutcome.TheVariants as live
use Rattle.hand_cell.specs.Names.{has_number}
use Rattle.hand_cell.specs.Ready.{most_events}
use Rattle.hand_cell.specs.Told.{Told}
use Rattle.job_queues.specs.Answers.{IsWhyNot}
use Rattle.partition_world.specs.declared.event.Event.{Event}
use Rattle.session_calls.specs.Clause.{HasCalled, StandsOnce, StandsNowhere}
use Rattle.live_grid.specs.declared.plan.GridPlan.{GridPlan}
use Rattle.live_grid.specs.Histories.{live_key}
use Rattle.live_grid.specs.Outcomes.{LiveTells}
use Rattle.counted_calls.specs.Calls.{call_of, calls_by, id_of}
use Rattle.counted_calls.specs.Sessions.{Ran, WasTold, WasMade, HaveBeenMade, event_of, counting, is_answered}
use Rattle.counted_calls.proofs.Later.{itself, none_by, nothing_more, passed_before}
use Rattle.counted_calls.proofs.Lists.{there_between}
use Rattle.counted_calls.proofs.Numbers.{one_number_more}

counted_one : (one : Ran) → length (filter is_answered (one ∷ [])) ≡ counting one.outcome
counted_one one = go (is_answered one)
  where
    go : (b : Bool) → length (cond b (one ∷ []) []) ≡ cond b 1 0
    go true = refl
    go false = refl

less_before : (xs ys : List (Event Request)) → length (xs ++ ys) < most_events → length xs < most_events
less_before xs ys less = let parts = length-append xs ys in omega (arith, less, parts)

module _ (plan : GridPlan) where
  pub told_longer : (seen later : List (Event Request)) (event : Event Request) (outcome : LiveOutcome) → WasTold plan seen event outcome → WasTold plan (seen ++ later) event outcome
  told_longer seen later event outcome is = record {
    before = is.before;
    after = is.after ++ later;
    whole = ap (λ xs. xs ++ later) is.whole ∙ append_assoc is.before is.after later;
    there = is.there;
    told = is.told;
  }

  module _ (key : List ℕ) (conn calls answered : ℕ) (seen : List (Event Request)) (made : HaveBeenMade plan key conn calls answered seen) where
    still_made : (later : List (Event Request)) → All (WasMade plan key conn calls (seen ++ later)) made.ran
    still_made later = All-weaker (WasMade plan key conn calls seen) (WasMade plan key conn calls (seen ++ later))
        (λ one is. record { conn_is = is.conn_is; below = is.below; told = told_longer seen later (event_of key one) one.outcome is.told }) made.ran made.each

    -- what was made stays, where none of the connection's calls is new
    pub made_longer : (later : List (Event Request)) → calls_by conn later ≡ [] → HaveBeenMade plan key conn calls answered (seen ++ later)
    made_longer later none = record {
      ran = made.ran;
      own = passed_before _ seen later none ∙ made.own;
      each = still_made later;
      few = made.few;
      count = made.count;
      whole = λ less. made.whole (less_before seen later less);
    }

    -- a call that wasn't run came at the limit
    made_at_limit : (later : List (Event Request)) → calls_by conn later ≡ [] → length (seen ++ later) ≡ most_events → HaveBeenMade plan key conn (suc calls) answered (seen ++ later)
    made_at_limit later none limit = record {
      ran = made.ran;
      own = passed_before _ seen later none ∙ made.own;
      each = All-weaker (WasMade plan key conn calls (seen ++ later)) (WasMade plan key conn (suc calls) (seen ++ later))
          (λ one is. record { conn_is = is.conn_is; below = (let below = is.below in omega (arith, below)); told = is.told }) made.ran (still_made later);
      few = (let few = made.few in omega (arith, few));
      count = made.count;
      whole = λ less. absurd (omega (arith, less, limit));
    }

    -- one more call was run
    module _ (outcome : LiveOutcome) (before after : List (Event Request)) (none_before : calls_by conn before ≡ []) (none_after : calls_by conn after ≡ []) where
      abbrev event : Event Request
      event = call_of key conn calls

      abbrev later : List (Event Request)
      later = before ++ event ∷ after

      abbrev one : Ran
      one = record { conn = conn; number = calls; outcome = outcome }

      own_first : calls_by conn (event ∷ after) ≡ event ∷ []
      own_first = go (eqb conn conn) (itself conn)
        where
          go : (b : Bool) → b ≡ true → cond b (event ∷ calls_by conn after) (calls_by conn after) ≡ event ∷ []
          go true e = ap (λ xs. event ∷ xs) none_after
          go false e = absurd cc

      own_later : calls_by conn later ≡ event ∷ []
      own_later = filter-append _ before (event ∷ after) ∙ (ap (λ xs. xs ++ calls_by conn (event ∷ after)) none_before ∙ own_first)

      own_more : calls_by conn (seen ++ later) ≡ map (event_of key) (made.ran ++ one ∷ [])
      own_more = filter-append _ seen later ∙ (ap (λ xs. xs ++ calls_by conn later) made.own ∙ (ap (λ xs. map (event_of key) made.ran ++ xs) own_later ∙ sym (map-append (event_of key) made.ran (one ∷ []))))

      made_more : LiveTells plan (seen ++ later) event outcome → HaveBeenMade plan key conn (suc calls) (answered + counting outcome) (seen ++ later)
      made_more told = record {
        ran = made.ran ++ one ∷ [];
        own = own_more;
        each = All-append (WasMade plan key conn (suc calls) (seen ++ later)) made.ran (one ∷ [])
            (All-weaker (WasMade plan key conn calls (seen ++ later)) (WasMade plan key conn (suc calls) (seen ++ later))
            (λ one is. record { conn_is = is.conn_is; below = (let below = is.below in omega (arith, below)); told = is.told }) made.ran (still_made later))
            (All-cons (WasMade plan key conn (suc calls) (seen ++ later)) one [] (record {
              conn_is = refl;
              below = omega arith;
              told = record { before = seen ++ later; after = []; whole = sym (nothing_more (seen ++ later)); there = Contains-append_right seen later event (there_between before after event); told = told };
            }) (All-nil (WasMade plan key conn (suc calls) (seen ++ later))));
        few = (let few = made.few in let parts = length-append made.ran (one ∷ []) in omega (arith, few, parts));
        count = (let parts = length-append (filter is_answered made.ran) (filter is_answered (one ∷ [])) in let mine = counted_one one in let were = made.count in omega (arith, parts, mine, were))
            ∙ ap length (sym (filter-append is_answered made.ran (one ∷ [])));
        whole = λ less. map-append (λ (r : Ran). r.number) made.ran (one ∷ []) ∙ (ap (λ ns. ns ++ calls ∷ []) (made.whole (less_before seen later less)) ∙ sym (one_number_more calls));
      }

-- why an event wasn't run, where that isn't want of memory
at_limit : (n : ℕ) (outcome : LiveOutcome) → IsWhyNot n outcome → ¬ (outcome ≡ live.Memory) → (n ≡ most_events) × (counting outcome ≡ 0)
at_limit n live.Exhausted why ne = (why, refl)
at_limit n live.Memory why ne = absurd (ne refl)
at_limit n (live.Replied reply) why ne = absurd why
at_limit n (live.PartitionLost version) why ne = absurd why
at_limit n (live.WrongTarget version) why ne = absurd why
at_limit n (live.Migrating version) why ne = absurd why
at_limit n live.MemberGone why ne = absurd why

-- A call that has ended was made
module _ (plan : GridPlan) (key : List ℕ) (conn number answered : ℕ) (first last : Told (Event Request)) (outcome : LiveOutcome) where
  pub made_next : has_number first.names.numbers conn ≡ true → HaveBeenMade plan key conn number answered first.seen
      → HasCalled live_key LiveTells (record { plan = plan; first = first; event = call_of key conn number }) (id_of conn number) last outcome
      → ¬ (outcome ≡ live.Memory) → HaveBeenMade plan key conn (suc number) (answered + counting outcome) last.seen
  made_next named made called ne =
      subst (λ seen. HaveBeenMade plan key conn (suc number) (answered + counting outcome) seen) (sym called.longer)
      (⊎_elim run_once nowhere called.came)
    where
      run_once : StandsOnce live_key LiveTells (record { plan = plan; first = first; event = call_of key conn number }) (id_of conn number) called.later outcome
          → HaveBeenMade plan key conn (suc number) (answered + counting outcome) (first.seen ++ called.later)
      run_once is =
          subst (λ xs. HaveBeenMade plan key conn (suc number) (answered + counting outcome) (first.seen ++ xs)) (sym is.event_is.whole)
          (made_more plan key conn number answered first.seen made outcome is.event_is.before is.event_is.after
          (none_by first.names is.event_is.before is.event_is.none_before conn named)
          (none_by first.names is.event_is.after is.event_is.none_after conn named)
          (subst (λ xs. LiveTells plan (first.seen ++ xs) (call_of key conn number) outcome) is.event_is.whole is.told))

      nowhere : StandsNowhere live_key LiveTells (record { plan = plan; first = first; event = call_of key conn number }) (id_of conn number) called.later outcome
          → HaveBeenMade plan key conn (suc number) (answered + counting outcome) (first.seen ++ called.later)
      nowhere is =
          let why = at_limit (length (first.seen ++ called.later)) outcome is.why ne in
          let none = why.1 in
          subst (λ n. HaveBeenMade plan key conn (suc number) n (first.seen ++ called.later)) (omega (arith, none))
          (made_at_limit plan key conn number answered first.seen made called.later (none_by first.names called.later is.none conn named) why.0)
