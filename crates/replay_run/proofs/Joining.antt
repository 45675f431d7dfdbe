-- A waiting call arrives: it joins the list of its member and partition, and the grid follows.
use Rattle.std.proofs.Common.{◌≡◌, ◌≢◌, ℕ, ℤ, ◌+◌, ◌<◌, ◌==◌, true, false, cond, ◌&&◌, true≢false, List, [], ◌∷◌, ◌++◌, length, map, filter, Option, Some, Contains, Result, OnOk, refl, ap, sym, ◌∙◌, subst, ⊎_elim, append-nil, arith, length-append}
use Rattle.std.proofs.lemmas.Bool.{cases_Bool, eq-eqb}
use Rattle.std.proofs.lemmas.List.{length-set, map-append, get_or-set_same, get_or-set_other}
use Rattle.std.proofs.lemmas.List.Elements.{filter-append}
use Rattle.std.proofs.lemmas.Result.{on_ok_weaker}
use Rattle.grid_base.specs.Limits.{CallFits}
use Rattle.grid_base.specs.declared.calls.Request.{Request}
use Rattle.partition_protocol.proofs.Lists.{In, in_cases, in_contains, contains_in}
use Rattle.call_engine.specs.Calls.{Settings}
use Rattle.call_engine.specs.Env.{settings_of}
use Rattle.call_engine.specs.Objects.{partition_object}
use Rattle.wait_sets.specs.declared.waiter.Waiter.{Waiter as ListedWaiter}
use Rattle.wait_sets.specs.Lists.{place_of, list_at, with_list}
use Rattle.replay_run.specs.declared.grid.Grid.{Grid}
use Rattle.replay_run.specs.declared.tally.Reception.TheVariants.{Taken}
use Rattle.replay_run.specs.Runs.{Run, Waiter, partitions, waits, waiter_at}
use Rattle.replay_run.specs.ScriptRuns.{IsRun, IsNext, waiter_came}
use Rattle.replay_run.specs.Tables.{with_arrival}
use Rattle.replay_run.specs.Tallies.{tallied}
use Rattle.replay_run.specs.Grids.{FormOf, HasTable, HasWaiters, IsTally, HasWorld, Holds, AreListening, AreFew, IsCounting, as_listed, waits_at}
use Rattle.replay_run.specs.WorldCalls.{GivesUpSo, HasCallRoom, HasRoomAt}
use Rattle.replay_run.specs.WaiterCalls.{IsBetween, HasServed, HasHandledCall, by_turns, by_waiting}
use Rattle.replay_run.proofs.EventRuns.{served_kept}
use Rattle.replay_run.proofs.NewCalls.{waiting_table}
use Rattle.replay_run.proofs.Places.{same_number}
use Rattle.replay_run.proofs.Serving.{first_holds, second_holds, counting_by}
use Rattle.replay_run.proofs.TableCounts.{counting_called}
use Rattle.replay_run.proofs.Tallies.{waiting_tally}
use Rattle.line_told.specs.declared.told.Told.{Told}

-- who joins a list is last there

listed_more : (member p : ℕ) (ws : List Waiter) (w : Waiter) → map as_listed (filter (waits_at member p) (ws ++ w ∷ [])) ≡ map as_listed (filter (waits_at member p) ws) ++ map as_listed (cond (waits_at member p w) (w ∷ []) [])
listed_more member p ws w =
    ap (map as_listed) (filter-append (waits_at member p) ws (w ∷ [])) ∙ map-append as_listed (filter (waits_at member p) ws) (filter (waits_at member p) (w ∷ []))

-- each member and partition has a place of its own
pub other_place : (m p : ℕ) (w : Waiter) → p < partitions → w.request.partition < partitions → waits_at m p w ≡ false → place_of m p ≢ place_of w.member w.request.partition
other_place m p w low below away e =
    let members : w.member ≡ m = omega (arith, e, low, below) in
    let here : w.request.partition ≡ p = omega (arith, e, members) in
    true≢false (sym (λ i. eq-eqb w.member m members i && eq-eqb w.request.partition p here i) ∙ away)

module _ (lists : List (List ListedWaiter)) (r : Run) (w : Waiter) (h : HasWaiters lists r) (within : w.member < r.members) (low : w.request.partition < partitions) (fits : CallFits w.request.call) where
  abbrev its_list : List ListedWaiter
  its_list = list_at lists w.member w.request.partition ++ as_listed w ∷ []

  pub place_there : place_of w.member w.request.partition < length lists
  place_there = let size = h.size in omega (arith, size, within, low)

  joined_list : (member p : ℕ) → member < r.members → p < partitions → list_at (with_list lists w.member w.request.partition its_list) member p ≡ map as_listed (filter (waits_at member p) (waits r w).waiters)
  joined_list member p inside below = ⊎_elim here elsewhere (cases_Bool (waits_at member p w))
    where
      here : waits_at member p w ≡ true → list_at (with_list lists w.member w.request.partition its_list) member p ≡ map as_listed (filter (waits_at member p) (waits r w).waiters)
      here e =
          let members = same_number w.member member (first_holds (w.member == member) (w.request.partition == p) e) in
          let parts = same_number w.request.partition p (second_holds (w.member == member) (w.request.partition == p) e) in
          (λ i. list_at (with_list lists w.member w.request.partition its_list) (sym members i) (sym parts i))
          ∙ get_or-set_same lists (place_of w.member w.request.partition) its_list [] place_there
          ∙ (λ i. list_at lists (members i) (parts i) ++ as_listed w ∷ [])
          ∙ ap (λ xs. xs ++ as_listed w ∷ []) (h.listed member p inside below)
          ∙ sym (listed_more member p r.waiters w ∙ ap (λ b. map as_listed (filter (waits_at member p) r.waiters) ++ map as_listed (cond b (w ∷ []) [])) e)

      elsewhere : waits_at member p w ≡ false → list_at (with_list lists w.member w.request.partition its_list) member p ≡ map as_listed (filter (waits_at member p) (waits r w).waiters)
      elsewhere e =
          get_or-set_other lists (place_of w.member w.request.partition) (place_of member p) its_list [] (other_place member p w below low e)
          ∙ h.listed member p inside below
          ∙ sym (listed_more member p r.waiters w ∙ ap (λ b. map as_listed (filter (waits_at member p) r.waiters) ++ map as_listed (cond b (w ∷ []) [])) e ∙ append-nil (map as_listed (filter (waits_at member p) r.waiters)))

  -- each of them, and who joins
  among_both : (P : Waiter → Type 0) → ((x : Waiter) → Contains r.waiters x → P x) → P w → (x : Waiter) → Contains (waits r w).waiters x → P x
  among_both P before own x c = ⊎_elim (λ i. before x (contains_in x r.waiters i)) last (in_cases x r.waiters (w ∷ []) (in_contains x (r.waiters ++ w ∷ []) c))
    where
      last : In x (w ∷ []) → P x
      last i = ⊎_elim (λ e. subst P e own) (λ j. absurd j) i

  pub joined_waiters : HasWaiters (with_list lists w.member w.request.partition its_list) (waits r w)
  joined_waiters = record {
    size = length-set lists (place_of w.member w.request.partition) its_list ∙ h.size;
    listed = joined_list;
    there = among_both (λ x. (x.member < r.members) × (x.request.partition < partitions)) h.there (within, low);
    fit = among_both (λ x. CallFits x.request.call) h.fit fits;
  }

-- by its deadline
pub joined_at : (lists : List (List ListedWaiter)) (member : ℕ) (request : Request) (deadline other : Option ℕ) → deadline ≡ other
    → with_list lists member request.partition (list_at lists member request.partition ++ record { request = request; deadline = deadline } ∷ []) ≡ with_list lists member request.partition (list_at lists member request.partition ++ record { request = request; deadline = other } ∷ [])
joined_at lists member request deadline other = ap (λ d. with_list lists member request.partition (list_at lists member request.partition ++ record { request = request; deadline = d } ∷ []))

-- The grid of the code, once a waiter has joined its list: its table has the call, which was counted.
pub record HasJoined {V : Type 0} {T : V → Type 0} (grid new : Grid V T) (w : Waiter) : Type 0 where
  pub env : new.env ≡ grid.env
  pub lines : new.lines ≡ grid.lines
  pub members : new.members ≡ grid.members
  pub links : new.links.items ≡ grid.links.items
  pub moments : new.moments.items ≡ grid.moments.items
  pub connections : new.connections ≡ with_arrival grid.connections w.request.id.conn grid.lines
  pub tally : new.tally ≡ tallied Taken grid.tally
  pub waiters : new.waiters ≡ with_list grid.waiters w.member w.request.partition (list_at grid.waiters w.member w.request.partition ++ as_listed w ∷ [])
  pub listeners : new.listeners.items ≡ grid.listeners.items
  pub reopened : new.reopened.items ≡ grid.reopened.items
  pub worlds : new.worlds.items ≡ grid.worlds.items

-- There is room for the calls that wait, and for the one that joins.
pub wait_room : (r : Run) (w : Waiter) (p : ℕ) → HasCallRoom r → AreFew r → HasRoomAt (waits r w) p 0
wait_room r w p room few = let own = few p in let one = length-append r.waiters (w ∷ []) in omega (arith, room, own, one)

module _ {V : Type 0} {T : V → Type 0} {form : FormOf V T} {settings : Settings} (grid : Grid V T) (r : Run) (run : IsRun (partition_object settings) r) (h : Holds form settings grid r) (member : ℕ) (request : Request) (timeout : ℤ) (next : IsNext r request)
    (within : member < r.members) (fits : CallFits request.call) (new : Grid V T) (joined : HasJoined grid new (waiter_at r member request timeout)) (count : IsCounting grid.connections r request.id.conn request.id.number) where
  abbrev w : Waiter
  w = waiter_at r member request timeout

  low : request.partition < partitions
  low = next.placed.within

  come_table : HasTable new.connections (waits r (waiter_at r member request timeout))
  come_table =
      subst (λ t. HasTable t (waits r w)) (sym (joined.connections ∙ ap (with_arrival grid.connections request.id.conn) h.lines)) (waiting_table grid r run h request next count w refl refl)

  joined_holds : Holds form settings new (waits r (waiter_at r member request timeout))
  joined_holds = record {
    goes_by = ap (settings_of form) joined.env ∙ h.goes_by;
    goes_on = h.goes_on;
    lines = joined.lines ∙ h.lines;
    members = joined.members ∙ h.members;
    links = joined.links ∙ h.links;
    moments = joined.moments ∙ h.moments;
    clocks = h.clocks;
    table = come_table;
    waiters = subst (λ ls. HasWaiters ls (waits r w)) (sym joined.waiters) (joined_waiters grid.waiters r w h.waiters within low fits);
    tally = subst (λ t. IsTally t (waits r w)) (sym joined.tally) (waiting_tally grid.tally r w h.tally);
    reopened = joined.reopened ∙ h.reopened;
    worlds = λ p below.
        (let has = h.worlds p below in
        subst (λ ws. HasWorld settings ws (waits r w) p) (sym joined.worlds) (record { world = has.world; there = has.there; is = record { stands = has.is.stands; setup = has.is.setup }; given = has.given }));
  }

  pub joined_between : (own : Option ℕ) → AreListening grid.listeners.items r own → IsBetween form settings new (waits r (waiter_at r member request timeout)) own
  joined_between own are = record {
    run = waiter_came r member request w.deadline run next;
    holds = joined_holds;
    listeners = subst (λ ls. AreListening ls (waits r w) own) (sym joined.listeners) (record { size = are.size; each = are.each });
  }

  joined_count : IsCounting new.connections (waits r (waiter_at r member request timeout)) request.id.conn (request.id.number + 1)
  joined_count =
      let more = counting_called grid.connections r request.id.conn request.id.number grid.lines count in
      subst (λ t. IsCounting t (waits r w) request.id.conn (request.id.number + 1)) (sym joined.connections) (record { here = more.here; others = more.others })

  -- Then the turns of its list are made.
  pub has_waited : (after : Grid V T) (earlier later : List Told) → HasServed form settings new after (waits r (waiter_at r member request timeout)) (Some request.id.conn) (by_turns settings (waits r (waiter_at r member request timeout)) (Some request.id.conn) request.partition member) earlier later
      → HasHandledCall form settings after r request.id.conn (request.id.number + 1) (by_waiting settings r member request timeout) earlier later
  has_waited after earlier later did =
      let own = Some request.id.conn in
      record {
        skips = did.skips;
        among = did.among;
        between = did.between;
        counting = counting_by new.connections after.connections (waits r w) (by_waiting settings r member request timeout did.skips) request.id.conn (request.id.number + 1) did.counts (served_kept (partition_object settings) did.skips (waits r w) own request.partition member).connections joined_count;
        added = did.added;
      }

  pub wait_handled : {A E : Type 0} (result : Result A E) → AreListening grid.listeners.items r (Some request.id.conn) → (after : Grid V T) (earlier later : List Told)
      → (IsBetween form settings new (waits r (waiter_at r member request timeout)) (Some request.id.conn)
      → OnOk result (HasServed form settings new after (waits r (waiter_at r member request timeout)) (Some request.id.conn) (by_turns settings (waits r (waiter_at r member request timeout)) (Some request.id.conn) request.partition member) earlier later))
      → OnOk result (HasHandledCall form settings after r request.id.conn (request.id.number + 1) (by_waiting settings r member request timeout) earlier later)
  wait_handled result are after earlier later turns = on_ok_weaker result (has_waited after earlier later) (turns (joined_between (Some request.id.conn) are))

-- or one meets a full partition
pub waiting_full : (settings : Settings) (r : Run) (member : ℕ) (request : Request) (timeout : ℤ) → GivesUpSo (waits r (waiter_at r member request timeout)) (by_turns settings (waits r (waiter_at r member request timeout)) (Some request.id.conn) request.partition member)
    → GivesUpSo r (by_waiting settings r member request timeout)
waiting_full settings r member request timeout up = record { skips = up.skips; own = up.own; full = up.full }
