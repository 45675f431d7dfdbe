-- An event of a partition, and the turns of those whom it stirs.
use Rattle.std.proofs.Common.{◌≡◌, ℕ, ◌<◌, ◌==◌, true, ◌&&◌, List, [], ◌∷◌, ◌++◌, length, Option, Some, None, ap, sym, ◌∙◌, subst, arith}
use Rattle.grid_base.specs.Objects.{Object}
use Rattle.grid_base.specs.declared.names.CallId.{CallId}
use Rattle.grid_base.specs.declared.calls.Request.{Request}
use Rattle.object_store.specs.Partitions.{Partition}
use Rattle.partition_protocol.specs.Events.{Event}
use Rattle.partition_protocol.proofs.Lists.{In, in_contains, contains_in}
use Rattle.partition_world.specs.declared.event.Happened.{Happened}
use Rattle.wait_sets.specs.declared.waiter.Waiter.{Waiter as ListedWaiter}
use Rattle.call_engine.specs.Calls.{Settings}
use Rattle.call_engine.specs.Objects.{partition_object}
use Rattle.replay_run.specs.declared.grid.Grid.{Grid}
use Rattle.replay_run.specs.Endings.{new_arrivals, AreAmong}
use Rattle.replay_run.specs.Runs.{Run, Waiter, world_at, meets_full, stirred_by, occurred, served_at, served, takes, is_its_turn}
use Rattle.replay_run.specs.Grids.{FormOf, HasWaiters}
use Rattle.replay_run.specs.WorldCalls.{HasRoomAt, IsAmid, HasGoneOn, GivesUpSo, HasOccurred, HasTaken}
use Rattle.replay_run.specs.WaiterCalls.{IsBetween, HasServed, by_turns}
use Rattle.replay_run.proofs.EventRuns.{events_more, takes_here, takes_nothing, served_kept}
use Rattle.replay_run.proofs.Flowing.{gone_further, gone_as}
use Rattle.replay_run.proofs.Growing.{served_goes}
use Rattle.replay_run.proofs.LineTexts.{new_with}
use Rattle.replay_run.proofs.Lookups.{find_none}
use Rattle.replay_run.proofs.Places.{same_number}
use Rattle.replay_run.proofs.Serving.{first_holds, second_holds, settled_by, often_none}
use Rattle.replay_run.specs.LineTold.{all_told}
use Rattle.line_told.specs.declared.told.Told.{Told}

-- Nobody waits at a member that isn't there.
pub nobody_there : (o : Object Request Partition) (skips : List CallId) (lists : List (List ListedWaiter)) (r : Run) (own : Option ℕ) (p member : ℕ) → HasWaiters lists r → (member < r.members → ⊥) → served o skips r own p member ≡ r
nobody_there o skips lists r own p member has out = often_none o skips own p member r (length r.waiters) (find_none (is_its_turn o r p member) r.waiters nobody)
  where
    nobody : (w : Waiter) → In w r.waiters → is_its_turn o r p member w ≡ true → ⊥
    nobody w i turn =
        let there = (has.there w (contains_in w r.waiters i)).0 in
        let at = same_number w.member member (second_holds (w.request.partition == p) (w.member == member) (first_holds ((w.request.partition == p) && (w.member == member)) _ turn)) in
        out (subst (λ n. n < r.members) at there)

pub between_amid : {V : Type 0} {T : V → Type 0} {form : FormOf V T} {settings : Settings} (grid : Grid V T) (r : Run) → IsAmid form settings grid r → IsBetween form settings grid r None
between_amid grid r amid = record { run = amid.run; holds = amid.holds; listeners = amid.listeners }

-- Its event counted, the calls that wait have the room that they had.
pub turn_room : (o : Object Request Partition) (r : Run) (p : ℕ) (event : Event Request) → HasRoomAt r p 1 → HasRoomAt (occurred o r p event) p 0
turn_room o r p event room = let more = events_more p r.events (record { partition = p; event = event } ∷ []) in omega (arith, room, more)

-- The event meets the partition full.
pub met_full : (o : Object Request Partition) (r : Run) (p : ℕ) (event : Event Request) → meets_full (world_at o r p) event ≡ true → GivesUpSo r (λ skips. takes o skips r p event)
met_full o r p event full = record { skips = []; own = λ id c. absurd (in_contains id [] c); full = takes_nothing o [] r p event full }

module _ {V : Type 0} {T : V → Type 0} {form : FormOf V T} {settings : Settings} (mid : Grid V T) (r : Run) (p : ℕ) (event : Event Request) (happened : Happened) (earlier so_far : List Told) (did : HasOccurred form settings mid r p event happened earlier so_far) where
  abbrev o : Object Request Partition
  o = partition_object settings

  abbrev next : Run
  next = occurred (partition_object settings) r p event

  stirs_so : (skips : List CallId) (stirred : Option ℕ) → stirred_by event ≡ stirred → takes o skips r p event ≡ served_at o skips next p stirred
  stirs_so skips stirred is = takes_here o skips r p event did.goes ∙ ap (served_at o skips next p) is

  -- It goes on without a turn.
  taken_so : ((skips : List CallId) → takes o skips r p event ≡ next) → HasTaken form settings mid r p event happened earlier so_far
  taken_so same = record {
    on = record { skips = []; own = λ id c. absurd (in_contains id [] c); on = gone_as (sym (same [])) did.on };
    outcome = did.outcome;
  }

  -- It stirs nobody.
  pub taken_quietly : stirred_by event ≡ None → HasTaken form settings mid r p event happened earlier so_far
  taken_quietly none = taken_so (λ skips. stirs_so skips None none)

  pub taken_nowhere : (member : ℕ) → stirred_by event ≡ Some member → (member < r.members → ⊥) → HasTaken form settings mid r p event happened earlier so_far
  taken_nowhere member some out = taken_so (λ skips. stirs_so skips (Some member) some ∙ nobody_there o skips mid.waiters next None p member did.on.amid.holds.waiters out)

  module _ (member : ℕ) (some : stirred_by event ≡ Some member) where
    -- Those whom it stirs had their turns.
    pub taken_stirring : (new : Grid V T) (later : List Told) → HasServed form settings mid new next None (by_turns settings next None p member) so_far later → HasTaken form settings new r p event happened earlier later
    taken_stirring new later b =
        let last = served o b.skips next None p member in
        let same : takes o b.skips r p event ≡ last = stirs_so b.skips (Some member) some in
        let more = ((served_goes o next None p member).grows b.skips).appended in
        let on : HasGoneOn form settings new next last so_far later = record {
          amid = record {
            run = b.between.run;
            holds = b.between.holds;
            listeners = b.between.listeners;
            settled = settled_by mid.connections new.connections next last b.counts (served_kept o b.skips next None p member).connections did.on.amid.settled;
          };
          messages = more.0;
          appended = sym more.1;
          added = b.added ∙ ap (λ ms. so_far ++ all_told ms) (new_with next last more.0 (sym more.1));
        } in
        record {
          on = record {
            skips = b.skips;
            own = subst (λ (x : Run). AreAmong (new_arrivals r x) b.skips) (sym same) b.among;
            on = gone_as (sym same) (gone_further mid new r next last earlier so_far later did.on on);
          };
          outcome = did.outcome;
        }

    -- or one meets the partition full
    pub stirred_full : GivesUpSo next (by_turns settings next None p member) → GivesUpSo r (λ skips. takes (partition_object settings) skips r p event)
    stirred_full up =
        let same : takes o up.skips r p event ≡ served o up.skips next None p member = stirs_so up.skips (Some member) some in
        record { skips = up.skips; own = subst (λ (x : Run). AreAmong (new_arrivals r x) up.skips) (sym same) up.own; full = ap (λ (x : Run). x.full) same ∙ up.full }
