-- The sessions' calls, as one session after another is joined.
use Rattle.std.proofs.Common.{◌≡◌, ◌⊎◌, inl, inr, ⊎_elim, ℕ, suc, ◌+◌, ◌<◌, ◌≤◌, Bool, true, false, cond, eqb, nat_le, List, [], ◌++◌, map, filter, length, All, Contains, refl, sym, ap, ◌∙◌, subst, arith}
use Rattle.std.proofs.lemmas.Bool.Decides.{nat_tests}
use Rattle.std.proofs.lemmas.List.{length-append, length-map, map-append}
use Rattle.std.proofs.lemmas.List.Elements.{All-append, All-contains, All-weaker, filter-append, Contains-append_left, Contains-append_right}
use Rattle.grid_base.specs.declared.calls.Request.{Request}
use Rattle.hand_cell.specs.declared.names.Key.{Key}
use Rattle.hand_cell.specs.declared.names.Key.TheVariants.{Call, Control, Free}
use Rattle.hand_cell.specs.declared.names.NameSet.{NameSet}
use Rattle.hand_cell.specs.Names.{has_number}
use Rattle.hand_cell.specs.Ready.{most_events}
use Rattle.hand_cell.specs.Rule.{Extends, longer_of}
use Rattle.hand_cell.proofs.Prefixes.{longer_left, longer_right}
use Rattle.partition_world.specs.declared.event.Event.{Event}
use Rattle.live_grid.specs.declared.plan.GridPlan.{GridPlan}
use Rattle.live_grid.specs.Control.{controls_in}
use Rattle.live_grid.specs.Histories.{live_key}
use Rattle.counted_calls.specs.Calls.{call_of, calls_by, calls_from, is_call_by, is_call_from}
use Rattle.counted_calls.specs.Gathered.{AreAllThere, AreGathered, IsCounted}
use Rattle.counted_calls.specs.Sessions.{Ran, WasMade, HaveBeenMade, event_of, is_answered}
use Rattle.counted_calls.specs.declared.requests.TheConstants.{SESSIONS, CALLS}
use Rattle.counted_calls.proofs.Later.{same_number, other_number, less_or_same, passes_from, none_by, none_from, no_controls, passed_before}
use Rattle.counted_calls.proofs.Lists.{all_from, there_map, there_from_map, there_passed, passed_there, parts_of_test}
use Rattle.counted_calls.proofs.Numbers.{as_many_numbers, number_there}
use Rattle.counted_calls.proofs.Making.{made_longer, told_longer}

-- a connection's calls, and those of the connections behind it

split_test : (from : ℕ) (k : Key) → cond (is_call_from from k) 1 0 ≡ cond (is_call_by from k) 1 0 + cond (is_call_from (suc from) k) 1 0
split_test from (Call id) = numbers from id.conn
  where
    numbers : (m n : ℕ) → cond (nat_le m n) 1 0 ≡ cond (eqb n m) 1 0 + cond (nat_le (suc m) n) 1 0
    numbers m n = grind (arith, nat_tests)
split_test from Control = refl
split_test from Free = refl

by_or_behind : (from : ℕ) (k : Key) → is_call_from from k ≡ true → (is_call_by from k ≡ true) ⊎ (is_call_from (suc from) k ≡ true)
by_or_behind from (Call id) e = go (eqb id.conn from) refl
  where
    go : (b : Bool) → eqb id.conn from ≡ b → (eqb id.conn from ≡ true) ⊎ (nat_le (suc from) id.conn ≡ true)
    go true is = inl is
    go false is = let other = other_number id.conn from is in let less = less_or_same from id.conn e in inr (passes_from (suc from) id.conn (omega (arith, other, less)))
by_or_behind from Control e = absurd cc
by_or_behind from Free e = absurd cc

module _ (seen : List (Event Request)) where
  pub as_many_from : (from : ℕ) → length (calls_from from seen) ≡ length (calls_by from seen) + length (calls_from (suc from) seen)
  as_many_from from = parts_of_test _ _ _ seen (λ event. split_test from (live_key event))

  -- a call of a connection is one of the connections from one on, where it isn't before that one
  by_there : (from conn number : ℕ) (key : List ℕ) → from ≤ conn → Contains seen (call_of key conn number) → Contains (calls_from from seen) (call_of key conn number)
  by_there from conn number key less there = there_passed _ seen (call_of key conn number) there (passes_from from conn less)

module _ (plan : GridPlan) (key : List ℕ) where
  counted_longer : (seen later : List (Event Request)) (one : Ran) → IsCounted plan key seen one → IsCounted plan key (seen ++ later) one
  counted_longer seen later one is = record { session = is.session; below = is.below; told = told_longer plan seen later (event_of key one) one.outcome is.told }

  -- what was gathered stays, where no call of these connections and no operator's event is new
  pub gathered_longer : (from answered : ℕ) (seen later : List (Event Request)) → controls_in later ≡ [] → calls_from from later ≡ [] → AreGathered plan key from answered seen → AreGathered plan key from answered (seen ++ later)
  gathered_longer from answered seen later calm none is = record {
    uncontrolled = passed_before _ seen later calm ∙ is.uncontrolled;
    ran = is.ran;
    as_many = ap length same ∙ is.as_many;
    theirs = subst (λ es. All (Contains (map (event_of key) is.ran)) es) (sym same) is.theirs;
    each = All-weaker (IsCounted plan key seen) (IsCounted plan key (seen ++ later)) (λ one counted. counted_longer seen later one counted) is.ran is.each;
    few = is.few;
    count = is.count;
    whole = λ less. still_there (is.whole (let parts = length-append seen later in omega (arith, less, parts)));
  }
    where
      same : calls_from from (seen ++ later) ≡ calls_from from seen
      same = passed_before _ seen later none

      still_there : AreAllThere plan key from (length is.ran) seen → AreAllThere plan key from (length is.ran) (seen ++ later)
      still_there there = record {
        many_are = there.many_are;
        each = λ conn number low high below. subst (λ es. Contains es (call_of key conn number)) (sym same) (there.each conn number low high below);
      }

  -- One more session's calls, and those of the sessions behind it
  module _ (conn others answered : ℕ) (seen : List (Event Request)) (high : conn < SESSIONS) (made : HaveBeenMade plan key conn CALLS answered seen) (is : AreGathered plan key (suc conn) others seen) where
    abbrev ran : List Ran
    ran = made.ran ++ is.ran

    events_are : map (event_of key) ran ≡ map (event_of key) made.ran ++ map (event_of key) is.ran
    events_are = map-append (event_of key) made.ran is.ran

    as_many : length (calls_from conn seen) ≡ length ran
    as_many =
        let parts = as_many_from seen conn in
        let mine = ap length made.own ∙ length-map made.ran (event_of key) in
        let theirs = is.as_many in
        let both = length-append made.ran is.ran in
        omega (arith, parts, mine, theirs, both)

    one_of_them : (event : Event Request) → Contains (calls_from conn seen) event → Contains (map (event_of key) ran) event
    one_of_them event there = subst (λ es. Contains es event) (sym events_are) (⊎_elim
        (λ (e : is_call_by conn (live_key event) ≡ true). Contains-append_left (map (event_of key) made.ran) (map (event_of key) is.ran) event (subst (λ es. Contains es event) made.own (there_passed _ seen event passed.0 e)))
        (λ (e : is_call_from (suc conn) (live_key event) ≡ true). Contains-append_right (map (event_of key) made.ran) (map (event_of key) is.ran) event (All-contains (Contains (map (event_of key) is.ran)) (calls_from (suc conn) seen) event is.theirs (there_passed _ seen event passed.0 e)))
        (by_or_behind conn (live_key event) passed.1))
      where
        passed : Contains seen event × (is_call_from conn (live_key event) ≡ true)
        passed = passed_there _ seen event there

    count : answered + others ≡ length (filter is_answered ran)
    count =
        let parts = ap length (filter-append is_answered made.ran is.ran) ∙ length-append (filter is_answered made.ran) (filter is_answered is.ran) in
        let mine = made.count in
        let theirs = is.count in
        omega (arith, parts, mine, theirs)

    module _ (less : length seen < most_events) where
      own_there : (number : ℕ) → number < CALLS → Contains seen (call_of key conn number)
      own_there number below = (passed_there _ seen (call_of key conn number) (subst (λ es. Contains es (call_of key conn number)) (sym made.own) there)).0
        where
          found : (one : Ran) × Contains made.ran one × (one.number ≡ number)
          found = there_from_map (λ (one : Ran). one.number) made.ran number (subst (λ ns. Contains ns number) (sym (made.whole less)) (number_there CALLS number below))

          conn_is : found.0.conn ≡ conn
          conn_is = (All-contains (WasMade plan key conn CALLS seen) made.ran found.0 made.each found.1).conn_is

          there : Contains (map (event_of key) made.ran) (call_of key conn number)
          there = subst (λ n. Contains (map (event_of key) made.ran) (call_of key conn n)) found.2
              (subst (λ c. Contains (map (event_of key) made.ran) (call_of key c found.0.number)) conn_is (there_map (event_of key) made.ran found.0 found.1))

      all_there : AreAllThere plan key conn (length ran) seen
      all_there = record {
        many_are =
            let mine = sym (length-map made.ran (λ (one : Ran). one.number)) ∙ (ap length (made.whole less) ∙ as_many_numbers CALLS) in
            let theirs = (is.whole less).many_are in
            let both = length-append made.ran is.ran in
            omega (arith, mine, theirs, both);
        each = λ c number low below_sessions below. go c number low below_sessions below (eqb c conn) refl;
      }
        where
          go : (c number : ℕ) → conn ≤ c → c < SESSIONS → number < CALLS → (b : Bool) → eqb c conn ≡ b → Contains (calls_from conn seen) (call_of key c number)
          go c number low below_sessions below true e = by_there seen conn c number key low (subst (λ n. Contains seen (call_of key n number)) (sym (same_number c conn e)) (own_there number below))
          go c number low below_sessions below false e =
              let other = other_number c conn e in
              let there = (is.whole less).each c number (omega (arith, low, other)) below_sessions below in
              by_there seen conn c number key low (passed_there _ seen (call_of key c number) there).0

    pub gathered_more : AreGathered plan key conn (answered + others) seen
    gathered_more = record {
      uncontrolled = is.uncontrolled;
      ran = ran;
      as_many = as_many;
      theirs = all_from (Contains (map (event_of key) ran)) (calls_from conn seen) one_of_them;
      each = All-append (IsCounted plan key seen) made.ran is.ran
          (All-weaker (WasMade plan key conn CALLS seen) (IsCounted plan key seen) (λ one mine. record { session = (let same = mine.conn_is in omega (arith, same, high)); below = mine.below; told = mine.told }) made.ran made.each)
          is.each;
      few = (let mine = made.few in let theirs = is.few in let both = length-append made.ran is.ran in omega (arith, mine, theirs, both));
      count = count;
      whole = all_there;
    }

  -- A session is joined: one of the two passes has seen what the other has, and more
  module _ (conn others answered : ℕ) (high : conn < SESSIONS) (names names_of_other : NameSet) (seen other : List (Event Request))
      (control : names.control ≡ true) (behind : (n : ℕ) → suc conn ≤ n → has_number names.numbers n ≡ true) (own : has_number names_of_other.numbers conn ≡ true)
      (is : AreGathered plan key (suc conn) others seen) (made : HaveBeenMade plan key conn CALLS answered other) where
    pub gathered_joined : Extends live_key seen names other names_of_other → AreGathered plan key conn (answered + others) (longer_of seen other)
    gathered_joined (inl (later, longer, none)) =
        subst (λ xs. AreGathered plan key conn (answered + others) xs) (sym (ap (longer_of seen) longer ∙ longer_right seen later))
        (gathered_more conn others answered (seen ++ later) high (subst (HaveBeenMade plan key conn CALLS answered) longer made)
        (gathered_longer (suc conn) others seen later (no_controls names later none control) (none_from names later none (suc conn) behind) is))
    gathered_joined (inr (later, longer, none)) =
        subst (λ xs. AreGathered plan key conn (answered + others) xs) (sym (ap (λ xs. longer_of xs other) longer ∙ longer_left other later))
        (gathered_more conn others answered (other ++ later) high (made_longer plan key conn CALLS answered other made later (none_by names_of_other later none conn own))
        (subst (AreGathered plan key (suc conn) others) longer is))
