-- Each partition of a run goes by its machine of calls that wait: a turn of a list is the machine's turn, and what gives turns is a line of it.
use Rattle.std.proofs.Common.{◌≡◌, ◌≢◌, true≢false, ℕ, zero, suc, ◌+◌, ◌-◌, Bool, true, false, not, ◌==◌, ◌&&◌, cond, List, [], ◌∷◌, ◌++◌, length, map, filter, slice_get, pos, Option, Some, None, refl, ap, sym, ◌∙◌, subst, ◌⊎◌, ⊎_elim, inl, inr, arith, append-nil, append_assoc}
use Rattle.std.specs.List.{find}
use Rattle.std.proofs.lemmas.List.{map-append, length-map}
use Rattle.std.proofs.lemmas.List.Elements.{filter-append}
use Rattle.grid_base.specs.Objects.{Object}
use Rattle.grid_base.specs.Errors.{want_of_memory}
use Rattle.grid_base.specs.declared.names.CallId.{CallId}
use Rattle.grid_base.specs.declared.calls.Request.{Request}
use Rattle.object_store.specs.Partitions.{Partition}
use Rattle.partition_protocol.specs.Arrivals.{NamedOnce}
use Rattle.partition_protocol.specs.Claims.{IsLawful}
use Rattle.partition_protocol.specs.Events.{Event, run}
use Rattle.partition_protocol.specs.Execution.{Reached, Executes, PartitionLost, WrongTarget, Migrating, reached}
use Rattle.partition_protocol.specs.Node.{Node}
use Rattle.partition_protocol.specs.World as world
use Rattle.partition_protocol.specs.World.{World, is_live, map_or}
use Rattle.partition_protocol.proofs.Extends.{run_append}
use Rattle.partition_protocol.proofs.Lists.{In, in_left, in_right}
use Rattle.partition_protocol.proofs.RowFacts.{false_or_not, number_same}
use Rattle.wait_sets.specs.Laws.{grid_terms}
use Rattle.waiting_protocol.specs.Machine.{Waiting, Picked, pick, skipping, Fate, Stays, Runs, Starves, IsRefused, Leaves, fate_of, fate_at, fate_in, comes, is_over, stirs, plain, event_if, event_of, events_of, gone_as, leaving, turn, gone_in, turned, gone}
use Rattle.waiting_protocol.specs.Machine as machine
use Rattle.waiting_protocol.proofs.Fates.{as_plain}
use Rattle.waiting_protocol.proofs.Sources.{filter_few}
use Rattle.waiting_protocol.proofs.Turns as turns
use Rattle.replay_run.specs.ByMachine.{starves, terms_by}
use Rattle.replay_run.specs.Runs.{Run, At, Arrival, Waiter, Appended, events_at, world_at, moment_of, is_full, is_skipped, refusal, refused_at, happening, arrived, asked, asks, given_up, without, ending, leaves_so, fate_now, as_machine, is_its_turn, next_in_turn, turn_of, served_so_often, served}
use Rattle.replay_run.specs.ScriptRuns.{IsRun}
use Rattle.replay_run.specs.Staying.{waiting_in}
use Rattle.replay_run.proofs.EventRuns.{IsFull, is_other, events_at-append, run_turns}
use Rattle.replay_run.proofs.Growing.{so_often_goes}
use Rattle.replay_run.proofs.Parts.{in_mapped, in_filtered, named_append}
use Rattle.replay_run.proofs.Places.{same_number, same_call_refl}
use Rattle.replay_run.proofs.RunFacts.{waiter_name, id_name}
use Rattle.replay_run.proofs.RunsOfLines.{run_ok}
use Rattle.replay_run.proofs.Serving.{first_holds, second_holds}
use Rattle.replay_run.proofs.SkipLaws.{unless_same}
use Rattle.replay_run.proofs.Staying.{Only, And, none_passes, turn_only}
use Rattle.replay_run.proofs.Trails.{find_some}
use Rattle.replay_run.proofs.Turns.{its_event, turn_keeps}

-- who waits in a partition

abbrev pub is_in : ℕ → Waiter → Bool
is_in p w = w.request.partition == p

-- as the machine has them
abbrev pub listed : ℕ → List Waiter → List (machine.Waiter Request)
listed p ws = map as_machine (filter (is_in p) ws)

pub listed-append : (p : ℕ) (xs ys : List Waiter) → listed p (xs ++ ys) ≡ listed p xs ++ listed p ys
listed-append p xs ys = ap (map as_machine) (filter-append (is_in p) xs ys) ∙ map-append as_machine (filter (is_in p) xs) (filter (is_in p) ys)

pub listed_here : (p : ℕ) (w : Waiter) (ws : List Waiter) → w.request.partition ≡ p → listed p (w ∷ ws) ≡ as_machine w ∷ listed p ws
listed_here p w ws e = ap (λ b. map as_machine (cond b (w ∷ filter (is_in p) ws) (filter (is_in p) ws))) (number_same w.request.partition p e)

in_listed : (p : ℕ) (ws : List Waiter) (x : machine.Waiter Request) → In x (listed p ws) → (w : Waiter) × In w ws × (w.request.partition ≡ p) × (as_machine w ≡ x)
in_listed p ws x i =
    let m = in_mapped as_machine (filter (is_in p) ws) x i in
    let f = in_filtered (is_in p) ws m.0 m.1 in
    (m.0, f.0, same_number m.0.request.partition p f.1, m.2)

-- one that is found stands behind others that aren't it
found_at : {X : Type 0} (t : X → Bool) (xs : List X) (x : X) → find t xs ≡ Some x → (front : List X) × (back : List X) × (xs ≡ front ++ x ∷ back) × ((y : X) → In y front → t y ≡ false)
found_at t [] x e = absurd cc
found_at {X} t (y ∷ ys) x e = go (t y) refl e (found_at t ys x)
  where
    go : (b : Bool) → t y ≡ b → cond b (Some y) (find t ys) ≡ Some x → (find t ys ≡ Some x → (front : List X) × (back : List X) × (ys ≡ front ++ x ∷ back) × ((z : X) → In z front → t z ≡ false))
        → (front : List X) × (back : List X) × (y ∷ ys ≡ front ++ x ∷ back) × ((z : X) → In z front → t z ≡ false)
    go true k found rest = let same : y ≡ x = cc in ([], ys, ap (λ z. z ∷ ys) same, λ z i. absurd i)
    go false k found rest = let r = rest found in (y ∷ r.0, r.1, ap (λ zs. y ∷ zs) r.2, λ z i. ⊎_elim (λ s. ap t (sym s) ∙ k) (λ j. r.3 z j) i)

-- and without it the others stay

all_other : (w : Waiter) (xs : List Waiter) → ((v : Waiter) → In v xs → is_other w v ≡ true) → filter (is_other w) xs ≡ xs
all_other w [] h = refl
all_other w (x ∷ xs) h = ap (λ b. cond b (x ∷ filter (is_other w) xs) (filter (is_other w) xs)) (h x (inl refl)) ∙ ap (λ ys. x ∷ ys) (all_other w xs (λ v i. h v (inr i)))

other_of : (w v : Waiter) → waiter_name v ≢ waiter_name w → is_other w v ≡ true
other_of w v different = ap not (unless_same v.request.id w.request.id (λ e. different (ap id_name e)))

without_at : (w : Waiter) (front back : List Waiter) → NamedOnce (map waiter_name (front ++ w ∷ back)) → filter (is_other w) (front ++ w ∷ back) ≡ front ++ back
without_at w front back once =
    filter-append (is_other w) front (w ∷ back)
    ∙ (λ i. all_other w front (λ v j. other_of w v (named_append waiter_name front (w ∷ back) v w once j (inl refl))) i ++ last i)
  where
    behind : NamedOnce (map waiter_name ((front ++ w ∷ []) ++ back))
    behind = subst (λ ws. NamedOnce (map waiter_name ws)) (sym (append_assoc front (w ∷ []) back)) once

    same : is_other w w ≡ false
    same = ap not (same_call_refl w.request.id)

    last : filter (is_other w) (w ∷ back) ≡ back
    last =
        ap (λ b. cond b (w ∷ filter (is_other w) back) (filter (is_other w) back)) same
        ∙ all_other w back (λ v j. other_of w v (λ e. named_append waiter_name (front ++ w ∷ []) back w v behind (in_right w front (w ∷ []) (inl refl)) j (sym e)))

-- what is done with a waiter, where its call may find no memory

abbrev pub starved : Fate → Bool → Fate
starved Runs none = cond none Starves Runs
starved fate none = fate

starved_of : (r : Reached) (b none : Bool) → fate_of r b none ≡ starved (fate_of r b false) none
starved_of Executes true none = refl
starved_of Executes false none = refl
starved_of (PartitionLost v) b none = refl
starved_of (WrongTarget v) b none = refl
starved_of (Migrating v) b none = refl

over_starved : (f : Fate) (none : Bool) → is_over (starved f none) ≡ is_over f
over_starved Stays none = refl
over_starved Runs true = refl
over_starved Runs false = refl
over_starved Starves none = refl
over_starved (IsRefused why) none = refl
over_starved Leaves none = refl

fate_starved : (o : Object Request Partition) (t : machine.Waiter Request → Bool) (w : World Request) (now : ℕ) (x : machine.Waiter Request)
    → fate_in o (grid_terms t) w now x ≡ starved (fate_in o (grid_terms (λ y. false)) w now x) (t x)
fate_starved o t w now x = go (is_live w x.member) (slice_get w.nodes x.member)
  where
    go : (b : Bool) (n : Option Node) → cond b (map_or n Leaves (fate_at o (grid_terms t) w now x)) Leaves ≡ starved (cond b (map_or n Leaves (fate_at o (grid_terms (λ y. false)) w now x)) Leaves) (t x)
    go false n = refl
    go true None = refl
    go true (Some n) = starved_of (reached x.member n) (comes o (grid_terms t) w now x n) (t x)

-- who is picked

pick_at : {C : Type 0} (f : machine.Waiter C → Bool) (xs ys : List (machine.Waiter C)) (x : machine.Waiter C) → ((y : machine.Waiter C) → In y xs → f y ≡ false) → f x ≡ true
    → pick f (xs ++ x ∷ ys) ≡ Some (record { front = xs; one = x; back = ys })
pick_at f [] ys x earlier e = turns.takes_at (f x) (record { front = []; one = x; back = ys }) (skipping x (pick f ys)) e
pick_at f (z ∷ xs) ys x earlier e =
    turns.skips_at z (record { front = []; one = z; back = xs ++ x ∷ ys }) (f z) (pick f (xs ++ x ∷ ys)) (Some (record { front = xs; one = x; back = ys })) (earlier z (inl refl))
    (pick_at f xs ys x (λ y i. earlier y (inr i)) e)

-- more turns than there are who wait change nothing
no_more : {C State : Type 0} (o : Object C State) (t : machine.Terms C) (j : Waiting C) (d n : ℕ) → n ≡ d + length j.waiters → (turned o t n j ≡ turned o t (length j.waiters) j) × (gone o t n j ≡ gone o t (length j.waiters) j)
no_more o t j zero n e = let same : n ≡ length j.waiters = omega (arith, e) in (ap (λ k. turned o t k j) same, ap (λ k. gone o t k j) same)
no_more o t j (suc d) zero e = absurd (omega (arith, e))
no_more o t j (suc d) (suc n) e =
    let before : n ≡ d + length j.waiters = omega (arith, e) in
    let last = turns.steady o t n j (omega (arith, before)) in
    let rest = no_more o t j d n before in
    (last.0 ∙ rest.0, last.1 ∙ rest.1)

-- a turn

module _ (o : Object Request Partition) (skips : List CallId) (p : ℕ) where
  -- With these events more, and whoever has left, the partition is so.
  abbrev IsThen : Run → Run → List (machine.Waiter Request) → List (Event Request) → Type 0
  IsThen r next waiters es = (waiting_in o next p ≡ record { world = run o (world_at o r p) es; clock = moment_of r; waiters = waiters }) × (events_at p next.events ≡ events_at p r.events ++ es)

  -- something is to be done with a waiter there
  stirs_as : (r : Run) (w : Waiter) → w.request.partition ≡ p → stirs o (terms_by skips) (waiting_in o r p) (as_machine w) ≡ is_over (fate_now o r w)
  stirs_as r w here =
      let x = as_machine w in
      let now = moment_of r w.member in
      ap is_over (fate_starved o (starves skips) (world_at o r p) now x)
      ∙ over_starved (fate_in o (grid_terms (λ y. false)) (world_at o r p) now x) (starves skips x)
      ∙ ap (λ q. is_over (fate_in o (grid_terms (λ y. false)) (world_at o r q) now x)) (sym here)

  module _ (r : Run) (w : Waiter) (front back : List Waiter) (whole : r.waiters ≡ front ++ w ∷ back) (once : NamedOnce (map waiter_name r.waiters)) (here : w.request.partition ≡ p) where
    ended_then : (made : List At) (es : List (Event Request)) (appended : List Appended) → events_at p made ≡ es → IsThen r (arrived (without r w) (ending r w) made appended) (listed p front ++ listed p back) es
    ended_then made es appended e =
        let all = events_at-append p r.events made ∙ ap (λ xs. events_at p r.events ++ xs) e in
        let began : World Request = world.start p r.members r.backups in
        let after_it = ap (run o began) all ∙ run_append o began (events_at p r.events) es in
        let left : filter (is_other w) r.waiters ≡ front ++ back = ap (filter (is_other w)) whole ∙ without_at w front back (subst (λ ws. NamedOnce (map waiter_name ws)) whole once) in
        let there = ap (listed p) left ∙ listed-append p front back in
        (λ i. record { world = after_it i; clock = moment_of r; waiters = there i }, all)

    abbrev its_call : Event Request
    its_call = plain (as_machine w) (moment_of r w.member)

    made_then : (own : Option ℕ) → let next = asks o skips (without r w) own (ending r w) in IsFull next ⊎ IsThen r next (listed p front ++ listed p back) (event_if its_call (starved Runs (is_skipped skips w.request.id)))
    made_then own = by_room (is_full (world_at o (without r w) w.request.partition))
      where
        a : Arrival
        a = ending r w

        just : events_at p (its_event a ∷ []) ≡ its_call ∷ []
        just = ap (λ b. map (λ (e : At). e.event) (cond b (its_event a ∷ []) [])) (number_same w.request.partition p here)

        by_memory : (none : Bool) → IsThen r (cond none (arrived (without r w) a [] (refusal a.made a.request (pos want_of_memory) 0 ∷ [])) (arrived (without r w) a (its_event a ∷ []) (happening o (without r w) own a)))
            (listed p front ++ listed p back) (event_if its_call (starved Runs none))
        by_memory true = ended_then [] [] (refusal a.made a.request (pos want_of_memory) 0 ∷ []) refl
        by_memory false = ended_then (its_event a ∷ []) (its_call ∷ []) (happening o (without r w) own a) just

        by_room : (full : Bool) → let next = cond full (given_up (arrived (without r w) a [] [])) (asked o skips (without r w) own a) in
            IsFull next ⊎ IsThen r next (listed p front ++ listed p back) (event_if its_call (starved Runs (is_skipped skips w.request.id)))
        by_room true = inl refl
        by_room false = inr (by_memory (is_skipped skips w.request.id))

    leaving_then : (own : Option ℕ) (f : Fate) → is_over f ≡ true → (f ≡ Starves → ⊥) → let next = leaves_so o skips r own w f in
        IsFull next ⊎ IsThen r next (listed p front ++ listed p back) (event_if its_call (starved f (is_skipped skips w.request.id)))
    leaving_then own Stays over fed = absurd cc
    leaving_then own Runs over fed = made_then own
    leaving_then own Starves over fed = absurd (fed refl)
    leaving_then own (IsRefused why) over fed = inr (ended_then [] [] (refused_at r.lines w.request why) refl)
    leaving_then own Leaves over fed = inr (ended_then [] [] [] refl)

  -- Nobody else in the partition has a turn.
  module _ (A : ℕ → ℕ → Type 0) (member : ℕ) (away : (k : ℕ) → A p k → ⊥) where
    abbrev HasTurn : Run → Run → Type 0
    HasTurn r next = let j = waiting_in o r p in (waiting_in o next p ≡ turn o (terms_by skips) j) × (events_at p next.events ≡ events_at p r.events ++ events_of (gone_in o (terms_by skips) j))

    module _ (r : Run) (is : IsRun o r) (only : Only o (And A p member) r) where
      -- whoever has one there is of the list
      its_turn : (v : Waiter) → In v r.waiters → v.request.partition ≡ p → is_over (fate_now o r v) ≡ true → is_its_turn o r p member v ≡ true
      its_turn v i here busy = ⊎_elim (λ a. absurd (away v.member (subst (λ q. A q v.member) here a))) (λ at. all at.1) (only v i busy)
        where
          all : v.member ≡ member → is_its_turn o r p member v ≡ true
          all there = λ j. (number_same v.request.partition p here j && number_same v.member member there j) && busy j

      nobodys : (own : Option ℕ) → next_in_turn o r p member ≡ None → HasTurn r r
      nobodys own none =
          let t = terms_by skips in
          let j = waiting_in o r p in
          ⊎_elim (λ s. (sym s.1, sym (append-nil (events_at p r.events)) ∙ ap (λ gs. events_at p r.events ++ events_of gs) (sym s.2)))
          (λ s. absurd (clash s.0 (subst (In s.0) (sym s.1.place) (in_right s.0 s.1.front (s.0 ∷ s.1.back) (inl refl))) s.1.stirred))
          (turns.turn_of o t j)
        where
          clash : (x : machine.Waiter Request) → In x (listed p r.waiters) → stirs o (terms_by skips) (waiting_in o r p) x ≡ true → ⊥
          clash x i stirred =
              let v = in_listed p r.waiters x i in
              let busy : is_over (fate_now o r v.0) ≡ true = sym (stirs_as r v.0 v.2) ∙ ap (stirs o (terms_by skips) (waiting_in o r p)) v.3 ∙ stirred in
              none_passes (is_its_turn o r p member) r.waiters v.0 none v.1 (its_turn v.0 v.1 v.2 busy)

      somebodys : (own : Option ℕ) (w : Waiter) → next_in_turn o r p member ≡ Some w → let next = leaves_so o skips r own w (fate_now o r w) in IsFull next ⊎ HasTurn r next
      somebodys own w found =
          ⊎_elim (λ full. inl full) (λ then. inr (then.0 ∙ sym left, then.1 ∙ ap (λ es. events_at p r.events ++ es) (sym happened)))
          (leaving_then r w front back whole once here own (fate_now o r w) over fed)
        where
          t : machine.Terms Request
          t = terms_by skips

          j : Waiting Request
          j = waiting_in o r p

          x : machine.Waiter Request
          x = as_machine w

          at : (front : List Waiter) × (back : List Waiter) × (r.waiters ≡ front ++ w ∷ back) × ((y : Waiter) → In y front → is_its_turn o r p member y ≡ false)
          at = found_at (is_its_turn o r p member) r.waiters w found

          front : List Waiter
          front = at.0

          back : List Waiter
          back = at.1

          whole : r.waiters ≡ front ++ w ∷ back
          whole = at.2

          once : NamedOnce (map waiter_name r.waiters)
          once = (run_ok is).of_waiters.once

          passes : is_its_turn o r p member w ≡ true
          passes = (find_some (is_its_turn o r p member) r.waiters w found).1

          here : w.request.partition ≡ p
          here = same_number w.request.partition p (first_holds (w.request.partition == p) (w.member == member) (first_holds ((w.request.partition == p) && (w.member == member)) (is_over (fate_now o r w)) passes))

          over : is_over (fate_now o r w) ≡ true
          over = second_holds ((w.request.partition == p) && (w.member == member)) (is_over (fate_now o r w)) passes

          fed : fate_now o r w ≡ Starves → ⊥
          fed e = true≢false (sym ((as_plain o (grid_terms (λ y. false)) (waiting_in o r w.request.partition) x).unfed e))

          listed_so : j.waiters ≡ listed p front ++ x ∷ listed p back
          listed_so = ap (listed p) whole ∙ listed-append p front (w ∷ back) ∙ ap (λ xs. listed p front ++ xs) (listed_here p w back here)

          earlier : (y : machine.Waiter Request) → In y (listed p front) → stirs o t j y ≡ false
          earlier y i =
              let v = in_listed p front y i in
              let there = subst (In v.0) (sym whole) (in_left v.0 front (w ∷ back) v.1) in
              ap (stirs o t j) (sym v.3) ∙ stirs_as r v.0 v.2
              ∙ false_or_not (is_over (fate_now o r v.0)) (λ busy. true≢false (sym (its_turn v.0 there v.2 busy) ∙ at.3 v.0 v.1))

          one : Picked Request
          one = record { front = listed p front; one = x; back = listed p back }

          picked : pick (stirs o t j) j.waiters ≡ Some one
          picked = ap (pick (stirs o t j)) listed_so ∙ pick_at (stirs o t j) (listed p front) (listed p back) x earlier (stirs_as r w here ∙ over)

          fates : machine.fate o t j x ≡ starved (fate_now o r w) (is_skipped skips w.request.id)
          fates =
              fate_starved o (starves skips) (world_at o r p) (moment_of r w.member) x
              ∙ ap (λ q. starved (fate_in o (grid_terms (λ y. false)) (world_at o r q) (moment_of r w.member) x) (is_skipped skips w.request.id)) (sym here)

          left : turn o t j ≡ record { world = run o (world_at o r p) (event_if (plain x (moment_of r w.member)) (starved (fate_now o r w) (is_skipped skips w.request.id))); clock = moment_of r; waiters = listed p front ++ listed p back }
          left =
              turns.at_some (pick (stirs o t j) j.waiters) j (leaving o t j) one picked
              ∙ ap (λ f. record { world = run o (world_at o r p) (event_if (plain x (moment_of r w.member)) f); clock = moment_of r; waiters = listed p front ++ listed p back }) fates

          happened : events_of (gone_in o t j) ≡ event_if (plain x (moment_of r w.member)) (starved (fate_now o r w) (is_skipped skips w.request.id))
          happened =
              ap events_of (turns.at_some (pick (stirs o t j) j.waiters) [] (λ (q : Picked Request). gone_as o t j q.one ∷ []) one picked)
              ∙ append-nil (event_of (gone_as o t j x))
              ∙ ap (event_if (plain x (moment_of r w.member))) fates

      turn_follows : (own : Option ℕ) → let next = turn_of o skips r own (next_in_turn o r p member) in IsFull next ⊎ HasTurn r next
      turn_follows own = go (next_in_turn o r p member) refl
        where
          go : (found : Option Waiter) → next_in_turn o r p member ≡ found → IsFull (turn_of o skips r own found) ⊎ HasTurn r (turn_of o skips r own found)
          go None e = inr (nobodys own e)
          go (Some w) e = somebodys own w e

    -- so many turns
    abbrev GoesOn : ℕ → Run → Run → Type 0
    GoesOn n r next = let j = waiting_in o r p in (waiting_in o next p ≡ turned o (terms_by skips) n j) × (events_at p next.events ≡ events_at p r.events ++ events_of (gone o (terms_by skips) n j))

    module _ (law : IsLawful o) (own : Option ℕ) where
      so_often_follows : (n : ℕ) (r : Run) → IsRun o r → Only o (And A p member) r → let next = served_so_often o skips own p member n r in IsFull next ⊎ GoesOn n r next
      so_often_follows zero r is only = inr (refl, sym (append-nil (events_at p r.events)))
      so_often_follows (suc n) r is only =
          ⊎_elim (λ full. inl (up full))
          (λ busy. ⊎_elim (λ full. inl (up full)) (λ one. ⊎_elim (λ full. inl full) (λ rest. inr (further one rest)) (so_often_follows n then next_run busy)) (turn_follows r is only own))
          (turn_only o law skips A own p member r (run_ok is).members only)
        where
          t : machine.Terms Request
          t = terms_by skips

          then : Run
          then = turn_of o skips r own (next_in_turn o r p member)

          last : Run
          last = served_so_often o skips own p member n then

          up : IsFull then → IsFull last
          up full = ((so_often_goes o own p member n then).grows skips).full full

          next_run : IsRun o then
          next_run = turn_keeps o skips p (IsRun o) (run_turns skips p) r own member is

          further : HasTurn r then → GoesOn n then last → GoesOn (suc n) r last
          further one rest =
              let j = waiting_in o r p in (
                rest.0 ∙ ap (turned o t n) one.0,
                rest.1 ∙ (λ i. one.1 i ++ events_of (gone o t n (one.0 i)))
                    ∙ append_assoc (events_at p r.events) (events_of (gone_in o t j)) (events_of (gone o t n (turn o t j)))
                    ∙ ap (λ es. events_at p r.events ++ es) (sym (turns.events_append o t (gone_in o t j) (gone o t n (turn o t j)))),
              )

      -- no more than there are who wait in the partition
      pub served_follows : (r : Run) → IsRun o r → Only o (And A p member) r → let next = served o skips r own p member in IsFull next ⊎ GoesOn (length (waiting_in o r p).waiters) r next
      served_follows r is only =
          let j = waiting_in o r p in
          let few = filter_few (is_in p) r.waiters in
          let same = length-map (filter (is_in p) r.waiters) as_machine in
          let enough = no_more o (terms_by skips) j (length r.waiters - length j.waiters) (length r.waiters) (omega (arith, few, same)) in
          ⊎_elim (λ full. inl full) (λ on. inr (on.0 ∙ enough.0, on.1 ∙ ap (λ gs. events_at p r.events ++ events_of gs) enough.1)) (so_often_follows (length r.waiters) r is only)
