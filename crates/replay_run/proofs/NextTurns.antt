-- Whose turn it is in a list of the code: the first of the run that waits there and with whom something is to be done, who is taken out of it.
use Rattle.std.proofs.Common.{◌≡◌, ◌≢◌, ℕ, ◌<◌, ◌==◌, Bool, true, false, not, cond, ◌&&◌, List, [], ◌∷◌, ◌++◌, length, get_or, map, filter, Option, Some, None, Contains, refl, ap, sym, ◌∙◌, subst, ⊎_elim, inl, inr, arith}
use Rattle.std.specs.List.{find}
use Rattle.std.proofs.lemmas.Bool.{cases_Bool}
use Rattle.std.proofs.lemmas.List.{length-set, set-get_or, get_or-set_other}
use Rattle.grid_base.specs.declared.calls.Request.{Request}
use Rattle.grid_base.specs.Objects.{Object}
use Rattle.object_store.specs.Partitions.{Partition}
use Rattle.partition_protocol.specs.Arrivals.{NamedOnce}
use Rattle.partition_protocol.specs.Events.{Event}
use Rattle.partition_protocol.specs.Node.{Node, no_pair}
use Rattle.partition_protocol.specs.World.{map_or, pair_state}
use Rattle.partition_protocol.proofs.Lists.{In, contains_in, in_contains}
use Rattle.partition_protocol.proofs.RowFacts.{false_or_not}
use Rattle.partition_world.specs.ContentsOf.{contents_at}
use Rattle.partition_world.specs.Worlds.{run_of, node_count}
use Rattle.call_engine.specs.Calls.{Settings}
use Rattle.call_engine.specs.Env.{settings_of}
use Rattle.call_engine.specs.Objects.{partition_object}
use Rattle.waiting_protocol.specs.Machine.{Waiting, Fate, fate, fate_in, is_over, stirs, Picked, skipping, pick}
use Rattle.waiting_protocol.specs.Machine as machine
use Rattle.waiting_protocol.specs.LineClaims.{standing}
use Rattle.wait_sets.specs.declared.waiter.Waiter.{Waiter as ListedWaiter}
use Rattle.wait_sets.specs.Laws.{meant, all_meant, grid_terms}
use Rattle.wait_sets.specs.declared.turn.Standing.{Standing}
use Rattle.wait_sets.specs.declared.turn.Turn.{Turn}
use Rattle.wait_sets.specs.declared.turn.Turn.TheVariants.{Call, Refusal, Silence}
use Rattle.wait_sets.specs.Lists.{place_of, list_at, with_list}
use Rattle.wait_sets.specs.Turns.{TakesTurn}
use Rattle.wait_sets.specs.ListLaws.{standing_as, request_of, IsFate, StandsSo, LeavesAsPicked}
use Rattle.wait_sets.proofs.Partitions.{every_turn_is_its_lists}
use Rattle.replay_run.specs.declared.grid.Grid.{Grid}
use Rattle.replay_run.specs.Runs.{Run, Waiter, partitions, events_at, moment_of, world_at, is_waiter, without, as_machine, fate_now, is_its_turn}
use Rattle.replay_run.specs.ScriptRuns.{IsRun}
use Rattle.replay_run.specs.Shelves.{grid_meaning}
use Rattle.replay_run.specs.Grids.{FormOf, GridWorld, StandsForEvents, IsWorld, HasWaiters, Holds, as_listed, waits_at}
use Rattle.replay_run.specs.WaiterCalls.{IsTurnOf, HoldsBut, HasTakenOut}
use Rattle.replay_run.proofs.Asking.{world_is, nodes_of, moment_there}
use Rattle.replay_run.proofs.EventRuns.{is_other}
use Rattle.replay_run.proofs.Joining.{other_place}
use Rattle.replay_run.proofs.Parts.{in_map, in_filtered}
use Rattle.replay_run.proofs.Places.{same_call, same_call_refl, same_number}
use Rattle.replay_run.proofs.RunFacts.{waiter_name, id_name}
use Rattle.replay_run.proofs.RunsOfLines.{run_ok}
use Rattle.replay_run.proofs.Serving.{first_holds, second_holds}
use Rattle.replay_run.proofs.Trails.{find_some}
use Rattle.replay_run.proofs.WorldRuns.{run_is}

-- one leaves

abbrev Meant : Type 0
Meant = machine.Waiter Request

goes_itself : (w : Waiter) → is_other w w ≡ false
goes_itself w = ap not (same_call_refl w.request.id)

apart_stays : (w v : Waiter) → waiter_name v ≢ waiter_name w → is_other w v ≡ true
apart_stays w v apart = ap not (false_or_not (is_waiter w.request.id v) (λ s. apart (ap id_name (same_call v.request.id w.request.id s))))

-- no other has its name
abbrev AreApartFrom : Waiter → List Waiter → Type 0
AreApartFrom w vs = (v : Waiter) → In v vs → waiter_name v ≢ waiter_name w

apart_by : (w : Waiter) (ws : List Waiter) → NamedOnce (map waiter_name (w ∷ ws)) → AreApartFrom w ws
apart_by w ws once v i = once.0 (waiter_name v) (contains_in (waiter_name v) (map waiter_name ws) (in_map waiter_name ws v i))

others_stay : (w : Waiter) (vs : List Waiter) → AreApartFrom w vs → filter (is_other w) vs ≡ vs
others_stay w [] apart = refl
others_stay w (v ∷ vs) apart =
    ap (λ b. cond b (v ∷ filter (is_other w) vs) (filter (is_other w) vs)) (apart_stays w v (apart v (inl refl)))
    ∙ ap (λ xs. v ∷ xs) (others_stay w vs (λ u i. apart u (inr i)))

first_goes : (w : Waiter) (ws : List Waiter) → NamedOnce (map waiter_name (w ∷ ws)) → filter (is_other w) (w ∷ ws) ≡ ws
first_goes w ws once = ap (λ b. cond b (w ∷ filter (is_other w) ws) (filter (is_other w) ws)) (goes_itself w) ∙ others_stay w ws (apart_by w ws once)

first_stays : (v w : Waiter) (ws : List Waiter) → NamedOnce (map waiter_name (v ∷ ws)) → In w ws → filter (is_other w) (v ∷ ws) ≡ v ∷ filter (is_other w) ws
first_stays v w ws once i = ap (λ b. cond b (v ∷ filter (is_other w) ws) (filter (is_other w) ws)) (apart_stays w v (λ e. apart_by v ws once w i (sym e)))

-- where it doesn't pass a test, those that do are the same
same_passing : (test : Waiter → Bool) (w : Waiter) → test w ≡ false → (ws : List Waiter) → NamedOnce (map waiter_name ws) → In w ws → filter test (filter (is_other w) ws) ≡ filter test ws
same_passing test w fails [] once i = absurd i
same_passing test w fails (v ∷ vs) once (inl e) =
    subst (λ (x : Waiter). filter test (filter (is_other x) (v ∷ vs)) ≡ filter test (v ∷ vs)) e
    (ap (filter test) (first_goes v vs once) ∙ sym (ap (λ b. cond b (v ∷ filter test vs) (filter test vs)) (subst (λ (x : Waiter). test x ≡ false) (sym e) fails)))
same_passing test w fails (v ∷ vs) once (inr i) =
    ap (filter test) (first_stays v w vs once i) ∙ ap (λ xs. cond (test v) (v ∷ xs) xs) (same_passing test w fails vs once.1 i)

-- The first of some in a list with whom something is to be done: the machine picks the same, and leaves the same.

pub record IsFound (here turns : Waiter → Bool) (ws : List Waiter) (q : Picked Request) : Type 0 where
  pub w : Waiter
  pub found : find turns ws ≡ Some w
  pub one : q.one ≡ as_machine w
  pub left : map as_machine (filter here (filter (is_other w) ws)) ≡ q.front ++ q.back

abbrev pub IsFoundSo : (here turns : Waiter → Bool) → List Waiter → Option (Picked Request) → Type 0
IsFoundSo here turns ws None = find turns ws ≡ None
IsFoundSo here turns ws (Some q) = IsFound here turns ws q

module _ (here turns : Waiter → Bool) (test : Meant → Bool) (same : (w : Waiter) → turns w ≡ (here w && test (as_machine w))) where
  abbrev pub meant_here : List Waiter → List Meant
  meant_here ws = map as_machine (filter here ws)

  find_first : (w : Waiter) (ws : List Waiter) → turns w ≡ true → find turns (w ∷ ws) ≡ Some w
  find_first w ws e = ap (λ b. cond b (Some w) (find turns ws)) e

  find_later : (w : Waiter) (ws : List Waiter) → turns w ≡ false → find turns (w ∷ ws) ≡ find turns ws
  find_later w ws e = ap (λ b. cond b (Some w) (find turns ws)) e

  here_first : (w : Waiter) (ws : List Waiter) → here w ≡ true → meant_here (w ∷ ws) ≡ as_machine w ∷ meant_here ws
  here_first w ws e = ap (λ b. map as_machine (cond b (w ∷ filter here ws) (filter here ws))) e

  not_here : (w : Waiter) (ws : List Waiter) → here w ≡ false → meant_here (w ∷ ws) ≡ meant_here ws
  not_here w ws e = ap (λ b. map as_machine (cond b (w ∷ filter here ws) (filter here ws))) e

  found_first : (w : Waiter) (ws : List Waiter) → NamedOnce (map waiter_name (w ∷ ws)) → turns w ≡ true → IsFound here turns (w ∷ ws) (record { front = []; one = as_machine w; back = meant_here ws })
  found_first w ws once e = record { w = w; found = find_first w ws e; one = refl; left = ap meant_here (first_goes w ws once) }

  -- one that has no turn stands before
  passed : (v : Waiter) (ws : List Waiter) → NamedOnce (map waiter_name (v ∷ ws)) → turns v ≡ false → here v ≡ true → (q : Option (Picked Request)) → IsFoundSo here turns ws q → IsFoundSo here turns (v ∷ ws) (skipping (as_machine v) q)
  passed v ws once e h None none = find_later v ws e ∙ none
  passed v ws once e h (Some q) f =
      let i = (find_some turns ws f.w f.found).0 in
      record {
        w = f.w;
        found = find_later v ws e ∙ f.found;
        one = f.one;
        left = ap meant_here (first_stays v f.w ws once i) ∙ here_first v (filter (is_other f.w) ws) h ∙ ap (λ xs. as_machine v ∷ xs) f.left;
      }

  -- one of elsewhere does
  passed_by : (v : Waiter) (ws : List Waiter) → NamedOnce (map waiter_name (v ∷ ws)) → turns v ≡ false → here v ≡ false → (q : Option (Picked Request)) → IsFoundSo here turns ws q → IsFoundSo here turns (v ∷ ws) q
  passed_by v ws once e h None none = find_later v ws e ∙ none
  passed_by v ws once e h (Some q) f =
      let i = (find_some turns ws f.w f.found).0 in
      record {
        w = f.w;
        found = find_later v ws e ∙ f.found;
        one = f.one;
        left = ap meant_here (first_stays v f.w ws once i) ∙ not_here v (filter (is_other f.w) ws) h ∙ f.left;
      }

  pub picked_found : (ws : List Waiter) → NamedOnce (map waiter_name ws) → IsFoundSo here turns ws (pick test (meant_here ws))
  picked_found [] once = refl
  picked_found (v ∷ vs) once = go (here v) (test (as_machine v)) refl refl (picked_found vs once.1)
    where
      go : (a b : Bool) → here v ≡ a → test (as_machine v) ≡ b → IsFoundSo here turns vs (pick test (meant_here vs)) → IsFoundSo here turns (v ∷ vs) (pick test (meant_here (v ∷ vs)))
      go true true h t rest =
          subst (IsFoundSo here turns (v ∷ vs)) (sym (ap (pick test) (here_first v vs h) ∙ ap (λ b. cond b (Some (record { front = []; one = as_machine v; back = meant_here vs })) (skipping (as_machine v) (pick test (meant_here vs)))) t))
          (found_first v vs once (same v ∙ (λ i. h i && t i)))
      go true false h t rest =
          subst (IsFoundSo here turns (v ∷ vs)) (sym (ap (pick test) (here_first v vs h) ∙ ap (λ b. cond b (Some (record { front = []; one = as_machine v; back = meant_here vs })) (skipping (as_machine v) (pick test (meant_here vs)))) t))
          (passed v vs once (same v ∙ (λ i. h i && t i)) h (pick test (meant_here vs)) rest)
      go false b h t rest =
          subst (IsFoundSo here turns (v ∷ vs)) (sym (ap (pick test) (not_here v vs h)))
          (passed_by v vs once (same v ∙ (λ i. h i && t i)) h (pick test (meant_here vs)) rest)

-- the lists

abbrev unmeant : Meant → ListedWaiter
unmeant x = record { request = x.call; deadline = x.deadline }

unmeant_all : (m : ℕ) (ws : List ListedWaiter) → map unmeant (all_meant m ws) ≡ ws
unmeant_all m [] = refl
unmeant_all m (w ∷ ws) = ap (λ xs. w ∷ xs) (unmeant_all m ws)

meant_alike : (m : ℕ) (vs ws : List ListedWaiter) → all_meant m vs ≡ all_meant m ws → vs ≡ ws
meant_alike m vs ws e = sym (unmeant_all m vs) ∙ ap (map unmeant) e ∙ unmeant_all m ws

meant_listed : (m p : ℕ) (ws : List Waiter) → all_meant m (map as_listed (filter (waits_at m p) ws)) ≡ map as_machine (filter (waits_at m p) ws)
meant_listed m p [] = refl
meant_listed m p (w ∷ ws) = go (waits_at m p w) refl (meant_listed m p ws)
  where
    go : (b : Bool) → waits_at m p w ≡ b → all_meant m (map as_listed (filter (waits_at m p) ws)) ≡ map as_machine (filter (waits_at m p) ws)
        → all_meant m (map as_listed (cond b (w ∷ filter (waits_at m p) ws) (filter (waits_at m p) ws))) ≡ map as_machine (cond b (w ∷ filter (waits_at m p) ws) (filter (waits_at m p) ws))
    go true e rest =
        let member = same_number w.member m (first_holds (w.member == m) (w.request.partition == p) e) in
        let its : meant m (as_listed w) ≡ as_machine w = sym (ap (λ n. meant n (as_listed w)) member) in
        (λ i. its i ∷ rest i)
    go false e rest = rest

-- its list lost the waiter, and no other did
pub taken_waiters : (lists new : List (List ListedWaiter)) (r : Run) (m p : ℕ) (w : Waiter) → HasWaiters lists r → NamedOnce (map waiter_name r.waiters) → In w r.waiters → waits_at m p w ≡ true → m < r.members → p < partitions
    → new ≡ with_list lists m p (list_at new m p) → list_at new m p ≡ map as_listed (filter (waits_at m p) (without r w).waiters) → HasWaiters new (without r w)
taken_waiters lists new r m p w h once i at within low others its = record {
  size = ap length others ∙ length-set lists (place_of m p) (list_at new m p) ∙ h.size;
  listed = λ member q inside below. ⊎_elim (here member q) (elsewhere member q inside below) (cases_Bool (waits_at member q w));
  there = λ v c. h.there v (before v c);
  fit = λ v c. h.fit v (before v c);
}
  where
    member_is : w.member ≡ m
    member_is = same_number w.member m (first_holds (w.member == m) (w.request.partition == p) at)

    partition_is : w.request.partition ≡ p
    partition_is = same_number w.request.partition p (second_holds (w.member == m) (w.request.partition == p) at)

    before : (v : Waiter) → Contains (without r w).waiters v → Contains r.waiters v
    before v c = contains_in v r.waiters (in_filtered (is_other w) r.waiters v (in_contains v (without r w).waiters c)).0

    here : (member q : ℕ) → waits_at member q w ≡ true → list_at new member q ≡ map as_listed (filter (waits_at member q) (without r w).waiters)
    here member q e =
        let members : m ≡ member = sym member_is ∙ same_number w.member member (first_holds (w.member == member) (w.request.partition == q) e) in
        let parts : p ≡ q = sym partition_is ∙ same_number w.request.partition q (second_holds (w.member == member) (w.request.partition == q) e) in
        subst (λ a. list_at new a q ≡ map as_listed (filter (waits_at a q) (without r w).waiters)) members (subst (λ b. list_at new m b ≡ map as_listed (filter (waits_at m b) (without r w).waiters)) parts its)

    elsewhere : (member q : ℕ) → member < r.members → q < partitions → waits_at member q w ≡ false → list_at new member q ≡ map as_listed (filter (waits_at member q) (without r w).waiters)
    elsewhere member q inside below e =
        let apart : place_of member q ≢ place_of m p = (λ s. other_place member q w below (subst (λ b. b < partitions) (sym partition_is) low) e (s ∙ sym (λ j. place_of (member_is j) (partition_is j)))) in
        ap (λ ls. list_at ls member q) others
        ∙ get_or-set_other lists (place_of m p) (place_of member q) (list_at new m p) [] apart
        ∙ h.listed member q inside below
        ∙ ap (map as_listed) (sym (same_passing (waits_at member q) w e r.waiters once i))

-- a turn

module _ (settings : Settings) (r : Run) (m p : ℕ) where
  abbrev pub o : Object Request Partition
  o = partition_object settings

  -- the machine of the partition
  abbrev pub machine_now : Waiting Request
  machine_now = record { world = world_at o r p; clock = moment_of r; waiters = map as_machine (filter (waits_at m p) r.waiters) }

  abbrev pub fate_then : Meant → Fate
  fate_then x = fate o (grid_terms (λ y. false)) machine_now x

  fate_same : (w : Waiter) → w.request.partition ≡ p → fate_now o r w ≡ fate_then (as_machine w)
  fate_same w e = ap (λ q. fate_in o (grid_terms (λ y. false)) (world_at o r q) (moment_of r w.member) (as_machine w)) e

  turn_same : (w : Waiter) → is_its_turn o r p m w ≡ (waits_at m p w && stirs o (grid_terms (λ y. false)) machine_now (as_machine w))
  turn_same w = go (w.request.partition == p) (w.member == m) refl
    where
      go : (a b : Bool) → (w.request.partition == p) ≡ a → ((a && b) && is_over (fate_now o r w)) ≡ ((b && a) && is_over (fate_then (as_machine w)))
      go true true e = ap is_over (fate_same w (same_number w.request.partition p e))
      go true false e = refl
      go false true e = refl
      go false false e = refl

  pub found_so : IsRun o r → IsFoundSo (waits_at m p) (is_its_turn o r p m) r.waiters (pick (stirs o (grid_terms (λ y. false)) machine_now) (map as_machine (filter (waits_at m p) r.waiters)))
  found_so run = picked_found (waits_at m p) (is_its_turn o r p m) (stirs o (grid_terms (λ y. false)) machine_now) turn_same r.waiters (run_ok run).of_waiters.once

  -- what is to be done with it
  turn_of : (turn : Turn) (w : Waiter) (x : Meant) → x ≡ as_machine w → w.request.partition ≡ p → x.call ≡ request_of turn → IsFate turn (fate_then x) → IsTurnOf turn w (fate_now o r w)
  turn_of turn w x e at call is = go turn (sym call ∙ ap (λ (y : Meant). y.call) e) (subst (IsFate turn) (ap fate_then e ∙ sym (fate_same w at)) is)
    where
      go : (t : Turn) → request_of t ≡ w.request → IsFate t (fate_now o r w) → IsTurnOf t w (fate_now o r w)
      go (Call request) s f = (s, f)
      go (Refusal request why) s f = (s, f)
      go (Silence request) s f = (s, f)

module _ {V : Type 0} {T : V → Type 0} {form : FormOf V T} {settings : Settings} (grid new : Grid V T) (rest : new ≡ record grid { waiters = new.waiters }) (r : Run) (h : Holds form settings grid r) where
  -- Nobody had a turn, and the lists are as they were.
  none_taken : HasWaiters new.waiters r → Holds form settings new r
  none_taken waiters = subst (λ (g : Grid V T). Holds form settings g r) (sym rest) (record {
    goes_by = h.goes_by;
    goes_on = h.goes_on;
    lines = h.lines;
    members = h.members;
    links = h.links;
    moments = h.moments;
    clocks = h.clocks;
    table = h.table;
    waiters = waiters;
    tally = h.tally;
    reopened = h.reopened;
    worlds = h.worlds;
  })

  one_taken : (w : Waiter) → HasWaiters new.waiters (without r w) → HoldsBut form settings new r w
  one_taken w waiters = subst (λ (g : Grid V T). HoldsBut form settings g r w) (sym rest) (record {
    goes_by = h.goes_by;
    goes_on = h.goes_on;
    lines = h.lines;
    members = h.members;
    links = h.links;
    moments = h.moments;
    clocks = h.clocks;
    table = h.table;
    waiters = waiters;
    tally = h.tally;
    reopened = h.reopened;
    worlds = h.worlds;
  })

  module _ (run : IsRun (partition_object settings) r) (m p : ℕ) (within : m < grid.members) (low : p < partitions) where
    here_listed : all_meant m (list_at grid.waiters m p) ≡ map as_machine (filter (waits_at m p) r.waiters)
    here_listed = ap (all_meant m) (h.waiters.listed m p (subst (λ n. m < n) h.members within) low) ∙ meant_listed m p r.waiters

    -- As the list's turn leaves it, the run's does.
    pub taken_out : (turn : Option Turn) → new.waiters ≡ with_list grid.waiters m p (list_at new.waiters m p)
        → LeavesAsPicked (fate_then settings r m p) m (pick (stirs (partition_object settings) (grid_terms (λ y. false)) (machine_now settings r m p)) (all_meant m (list_at grid.waiters m p))) (list_at grid.waiters m p) turn (list_at new.waiters m p)
        → HasTakenOut form settings new r p m turn
    taken_out turn others leaves =
        go (pick (stirs (partition_object settings) (grid_terms (λ y. false)) (machine_now settings r m p)) (map as_machine (filter (waits_at m p) r.waiters))) turn (found_so settings r m p run)
        (subst (λ (xs : List Meant). LeavesAsPicked (fate_then settings r m p) m (pick (stirs (partition_object settings) (grid_terms (λ y. false)) (machine_now settings r m p)) xs) (list_at grid.waiters m p) turn (list_at new.waiters m p)) here_listed leaves)
      where
        same_lists : list_at new.waiters m p ≡ list_at grid.waiters m p → grid.waiters ≡ new.waiters
        same_lists e = sym (others ∙ ap (with_list grid.waiters m p) e ∙ set-get_or grid.waiters (place_of m p) [])

        taken : (q : Picked Request) (it : Turn) → IsFound (waits_at m p) (is_its_turn (partition_object settings) r p m) r.waiters q → LeavesAsPicked (fate_then settings r m p) m (Some q) (list_at grid.waiters m p) (Some it) (list_at new.waiters m p)
            → HasTakenOut form settings new r p m (Some it)
        taken q it f left =
            let some = find_some (is_its_turn (partition_object settings) r p m) r.waiters f.w f.found in
            let spot = first_holds ((f.w.request.partition == p) && (f.w.member == m)) (is_over (fate_now (partition_object settings) r f.w)) some.1 in
            let part = first_holds (f.w.request.partition == p) (f.w.member == m) spot in
            let at : waits_at m p f.w ≡ true = (λ i. second_holds (f.w.request.partition == p) (f.w.member == m) spot i && part i) in
            let its : list_at new.waiters m p ≡ map as_listed (filter (waits_at m p) (without r f.w).waiters) =
            meant_alike m (list_at new.waiters m p) (map as_listed (filter (waits_at m p) (without r f.w).waiters)) (left.2 ∙ sym f.left ∙ sym (meant_listed m p (without r f.w).waiters)) in (
              f.w,
              f.found,
              turn_of settings r m p it f.w q.one f.one (same_number f.w.request.partition p part) left.0 left.1,
              one_taken f.w (taken_waiters grid.waiters new.waiters r m p f.w h.waiters (run_ok run).of_waiters.once some.0 at (subst (λ n. m < n) h.members within) low others its),
            )

        go : (q : Option (Picked Request)) (it : Option Turn) → IsFoundSo (waits_at m p) (is_its_turn (partition_object settings) r p m) r.waiters q
            → LeavesAsPicked (fate_then settings r m p) m q (list_at grid.waiters m p) it (list_at new.waiters m p) → HasTakenOut form settings new r p m it
        go None None none left = (none, none_taken (subst (λ ls. HasWaiters ls r) (same_lists left) h.waiters))
        go None (Some it) none left = absurd left
        go (Some q) None f left = absurd left
        go (Some q) (Some it) f left = taken q it f left

    -- where the code reads the partition's world and the member's clock
    module _ (i : ℕ) (same : i ≡ p) (world : GridWorld) (read : world ≡ get_or grid.worlds.items i world) (k : ℕ) (clock : k ≡ m) (now : ℕ) (at : now ≡ get_or grid.moments.items k now) where
      pub turn_taken : (stands : Standing) (s : Partition) → ((plan : Settings) (events : List (Event Request)) → StandsForEvents plan world events → standing_as stands ≡ standing (run_of (grid_meaning plan) world events) m)
          → ((plan : Settings) (events : List (Event Request)) → StandsForEvents plan world events → s ≡ contents_at (partition_object plan) (run_of (grid_meaning plan) world events) m)
          → (turn : Option Turn) → TakesTurn (settings_of form grid.env) s now stands (list_at grid.waiters m p) turn (list_at new.waiters m p) → new.waiters ≡ with_list grid.waiters m p (list_at new.waiters m p)
          → HasTakenOut form settings new r p m turn
      turn_taken stands s so has turn takes others = taken_out turn others (every_turn_is_its_lists settings (λ y. false) (machine_now settings r m p) m stands s (list_at grid.waiters m p) turn (list_at new.waiters m p) seen taken)
        where
          is : IsWorld settings world r p
          is = world_is grid r h p i low same world read

          seen : StandsSo settings (machine_now settings r m p) m stands s
          seen = record {
            does = so settings (events_at p r.events) is.stands ∙ ap (λ w. standing w m) (run_is world r p is);
            has = λ node e. has settings (events_at p r.events) is.stands ∙ ap (λ w. contents_at (partition_object settings) w m) (run_is world r p is)
                ∙ ap (λ (n : Option Node). pair_state (partition_object settings) (world_at (partition_object settings) r p) (map_or n no_pair (λ (x : Node). x.pair))) e;
          }

          taken : TakesTurn settings s (moment_of r m) stands (list_at grid.waiters m p) turn (list_at new.waiters m p)
          taken = subst (λ (x : Settings). TakesTurn x s (moment_of r m) stands (list_at grid.waiters m p) turn (list_at new.waiters m p)) h.goes_by
              (subst (λ n. TakesTurn (settings_of form grid.env) s n stands (list_at grid.waiters m p) turn (list_at new.waiters m p)) (moment_there grid r h m k within clock now at) takes)

-- where the code looks

module _ {V : Type 0} {T : V → Type 0} {form : FormOf V T} {settings : Settings} (grid : Grid V T) (r : Run) (h : Holds form settings grid r) (m p : ℕ) (within : m < grid.members) (low : p < partitions) where
  -- it has a list
  pub list_there : place_of m p < length grid.waiters
  list_there =
      let size = h.waiters.size in
      let members = h.members in
      omega (arith, size, members, within, low)

  -- its world has a node of the member
  pub node_there : (i : ℕ) → i ≡ p → (world : GridWorld) → world ≡ get_or grid.worlds.items i world → m < node_count world
  node_there i same world read =
      let nodes = nodes_of settings world r p (world_is grid r h p i low same world read) in
      let members = h.members in
      omega (arith, nodes, members, within)
