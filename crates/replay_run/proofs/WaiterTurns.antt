-- A turn of a list, as the code makes it: there is room for it, whoever has it was there, and one less waits there then.
use Rattle.std.proofs.Common.{◌≡◌, ℕ, ◌+◌, ◌≤◌, ◌<◌, ◌==◌, true, ◌&&◌, List, [], ◌∷◌, length, filter, Option, Some, None, ap, sym, ◌∙◌, subst, arith, length-append}
use Rattle.std.specs.Option.{option_map}
use Rattle.std.proofs.lemmas.Bool.{eq-eqb}
use Rattle.std.proofs.lemmas.List.{length-map}
use Rattle.grid_base.specs.Objects.{Object}
use Rattle.grid_base.specs.declared.names.CallId.{CallId}
use Rattle.grid_base.specs.declared.calls.Request.{Request}
use Rattle.object_store.specs.Partitions.{Partition}
use Rattle.partition_protocol.specs.Service.{numbers_below}
use Rattle.partition_protocol.proofs.Lists.{In, contains_in}
use Rattle.waiting_protocol.specs.Machine.{is_over}
use Rattle.call_engine.specs.Calls.{Settings}
use Rattle.call_engine.specs.Objects.{partition_object}
use Rattle.wait_sets.specs.declared.waiter.Waiter.{Waiter as ListedWaiter}
use Rattle.wait_sets.specs.Lists.{list_at}
use Rattle.wait_sets.specs.declared.spot.Spot.{Spot}
use Rattle.wait_sets.specs.declared.turn.Turn.{Turn}
use Rattle.replay_run.specs.declared.grid.Grid.{Grid}
use Rattle.replay_run.specs.Runs.{Run, Waiter, partitions, events_at, without, ending, leaves_so, fate_now, is_its_turn, next_in_turn, served_in, served_so_often}
use Rattle.replay_run.specs.Tables.{opened_at}
use Rattle.replay_run.specs.Grids.{FormOf, HasWaiters, Holds, AreListening, as_listed, waits_at}
use Rattle.replay_run.specs.WorldCalls.{Onward, HasRoomAt}
use Rattle.replay_run.specs.WaiterCalls.{IsBetween, handled_count, HasServed, HoldsBut, IsTurnOf, MayLeave}
use Rattle.replay_run.proofs.EventRuns.{Kept, kept_refl, kept_turns, fewer, ended_few, served_in_keeps, served_in_kept}
use Rattle.replay_run.proofs.Leaving.{fewer_passing}
use Rattle.replay_run.proofs.Places.{same_number}
use Rattle.replay_run.proofs.Serving.{first_holds, second_holds, gone_from, HasTurned, turned_so_far}
use Rattle.replay_run.proofs.Trails.{find_some}
use Rattle.replay_run.proofs.Turns.{KeepsTurns, by_endings, leaving_keeps, so_often_keeps, served_keeps}
use Rattle.line_told.specs.declared.told.Told.{Told}

-- room

-- A partition's events, and all that wait, are no more.
abbrev pub AreWithin : ℕ → ℕ → Run → Type 0
AreWithin q n r = length (events_at q r.events) + length r.waiters ≤ n

module _ (o : Object Request Partition) (skips : List CallId) where
  -- whoever leaves makes one event at most
  within_turns : (p q n : ℕ) → KeepsTurns o skips p (AreWithin q n)
  within_turns p q n = by_endings o skips p (AreWithin q n) (λ x h. h)
      (λ x w events appended i made here h.
      (let one = ended_few x w events appended q made in
      let less = fewer w x.waiters i in
      let come = length-append x.arrivals (ending x w ∷ []) in
      omega (arith, one, less, come, h)))

  pub often_room : (r : Run) (own : Option ℕ) (p member n q most : ℕ) → HasRoomAt r q most → HasRoomAt (served_so_often o skips own p member n r) q most
  often_room r own p member n q most room =
      let all = length (events_at q r.events) + length r.waiters in
      let few = so_often_keeps o skips p (AreWithin q all) (within_turns p q all) own member n r (omega arith) in
      omega (arith, few, room)

  pub lists_room : (r : Run) (member : ℕ) (ps : List ℕ) (q most : ℕ) → HasRoomAt r q most → HasRoomAt (served_in o skips r member ps) q most
  lists_room r member ps q most room =
      let all = length (events_at q r.events) + length r.waiters in
      let few = served_in_keeps o skips (AreWithin q all) member (λ x p h. served_keeps o skips p (AreWithin q all) (within_turns p q all) x None member h) r ps (omega arith) in
      omega (arith, few, room)

  -- the same members are there, however many turns were made
  pub often_kept : (r : Run) (own : Option ℕ) (p member n : ℕ) → Kept r (served_so_often o skips own p member n r)
  often_kept r own p member n = so_often_keeps o skips p (Kept r) (kept_turns o skips r p) own member n r (kept_refl r)

-- whose turn it is

-- it waits there, and something is to be done with it
pub record HasTurn (o : Object Request Partition) (r : Run) (p member : ℕ) (w : Waiter) : Type 0 where
  pub there : In w r.waiters
  pub in_partition : w.request.partition ≡ p
  pub at_member : w.member ≡ member
  pub over : is_over (fate_now o r w) ≡ true

pub has_turn : (o : Object Request Partition) (r : Run) (p member : ℕ) (w : Waiter) → next_in_turn o r p member ≡ Some w → HasTurn o r p member w
has_turn o r p at w next =
    let found = find_some (is_its_turn o r p at) r.waiters w next in
    let spot = first_holds ((w.request.partition == p) && (w.member == at)) (is_over (fate_now o r w)) found.1 in
    record {
      there = found.0;
      in_partition = same_number w.request.partition p (first_holds (w.request.partition == p) (w.member == at) spot);
      at_member = same_number w.member at (second_holds (w.request.partition == p) (w.member == at) spot);
      over = second_holds ((w.request.partition == p) && (w.member == at)) (is_over (fate_now o r w)) found.1;
    }

-- as it leaves

module _ {V : Type 0} {T : V → Type 0} {form : FormOf V T} {settings : Settings} (grid taken : Grid V T) (rest : taken ≡ record grid { waiters = taken.waiters }) (r : Run) (own : Option ℕ) where
  -- It may leave, once it was taken out of its list.
  pub may_leave : (at : Spot) (turn : Turn) (w : Waiter) → IsBetween form settings grid r own → at.member < grid.members → at.partition < partitions → next_in_turn (partition_object settings) r at.partition at.member ≡ Some w
      → IsTurnOf turn w (fate_now (partition_object settings) r w) → HoldsBut form settings taken r w → MayLeave form settings taken r at own turn w
  may_leave at turn w between within low next turns holds =
      let has = has_turn (partition_object settings) r at.partition at.member w next in
      let there = contains_in w r.waiters has.there in
      record {
        run = between.run;
        holds = holds;
        listeners = subst (λ (g : Grid V T). AreListening g.listeners.items r own) (sym rest) between.listeners;
        there = there;
        fits = between.holds.waiters.fit w there;
        within = subst (λ n. at.member < n) between.holds.members within;
        low = low;
        member = has.at_member;
        partition = has.in_partition;
        turns = turns;
      }

  -- To take it out handles no message.
  pub served_since : (new : Grid V T) (onward : Onward) (earlier later : List Told) → HasServed form settings taken new r own onward earlier later → HasServed form settings grid new r own onward earlier later
  served_since new onward earlier later did = record {
    skips = did.skips;
    among = did.among;
    between = did.between;
    counts = λ c. did.counts c ∙ ap (λ (g : Grid V T). option_map handled_count (opened_at g.connections c)) rest;
    added = did.added;
  }

-- who waits there then

module _ (o : Object Request Partition) (skips : List CallId) (r : Run) (own : Option ℕ) (p member : ℕ) (w : Waiter) (next : next_in_turn o r p member ≡ Some w) where
  left_then : (leaves_so o skips r own w (fate_now o r w)).waiters ≡ (without r w).waiters
  left_then = gone_from o skips r own w (fate_now o r w) (has_turn o r p member w next).over

  members_then : (leaves_so o skips r own w (fate_now o r w)).members ≡ r.members
  members_then =
      let has = has_turn o r p member w next in
      (leaving_keeps o skips p (Kept r) (kept_turns o skips r p) r own w (fate_now o r w) has.there has.in_partition (kept_refl r)).members

  pub list_less : (lists new : List (List ListedWaiter)) → HasWaiters lists r → HasWaiters new (leaves_so o skips r own w (fate_now o r w)) → member < r.members → p < partitions → length (list_at new member p) < length (list_at lists member p)
  list_less lists new h after within low =
      let has = has_turn o r p member w next in
      let here : waits_at member p w ≡ true = (λ i. eq-eqb w.member member has.at_member i && eq-eqb w.request.partition p has.in_partition i) in
      let before = ap length (h.listed member p within low) ∙ length-map (filter (waits_at member p) r.waiters) as_listed in
      let now = ap length (after.listed member p (subst (λ n. member < n) (sym members_then) within) low) ∙ length-map (filter (waits_at member p) (leaves_so o skips r own w (fate_now o r w)).waiters) as_listed
      ∙ ap (λ ws. length (filter (waits_at member p) ws)) left_then in
      let less = fewer_passing (waits_at member p) w here r.waiters has.there in
      omega (arith, before, now, less)

-- so many turns were made

module _ {V : Type 0} {T : V → Type 0} {form : FormOf V T} {settings : Settings} (old grid : Grid V T) (r : Run) (own : Option ℕ) (p member number : ℕ) (earlier later : List Told) (did : HasTurned form settings old grid r own p member number earlier later) where
  abbrev turned : Run
  turned = turned_so_far old r own p member grid number earlier later did

  pub members_still : IsBetween form settings old r own → grid.members ≡ old.members
  members_still between = did.on.between.holds.members ∙ (often_kept (partition_object settings) did.on.skips r own p member number).members ∙ sym between.holds.members

  pub turned_room : HasRoomAt r p 0 → HasRoomAt (turned_so_far old r own p member grid number earlier later did) p 0
  turned_room room = often_room (partition_object settings) did.on.skips r own p member number p 0 room

  -- Nobody was left to be taken out.
  abbrev pub turned_still : (taken : Grid V T) → taken ≡ record grid { waiters = taken.waiters } → Holds form settings taken (turned_so_far old r own p member grid number earlier later did) → HasTurned form settings old taken r own p member number earlier later
  turned_still taken rest holds = record {
    on = record {
      skips = did.on.skips;
      among = did.on.among;
      between = record { run = did.on.between.run; holds = holds; listeners = subst (λ (g : Grid V T). AreListening g.listeners.items turned own) (sym rest) did.on.between.listeners };
      counts = λ c. ap (λ (g : Grid V T). option_map handled_count (opened_at g.connections c)) rest ∙ did.on.counts c;
      added = did.on.added;
    };
    few = did.few;
  }

-- list after list
pub lists_members : {V : Type 0} {T : V → Type 0} {form : FormOf V T} {settings : Settings} (old grid : Grid V T) (r : Run) (member n : ℕ) (earlier later : List Told) → HasServed form settings old grid r None (λ skips. served_in (partition_object settings) skips r member (numbers_below n)) earlier later
    → IsBetween form settings old r None → grid.members ≡ old.members
lists_members {settings = settings} old grid r member n earlier later did between = did.between.holds.members ∙ (served_in_kept (partition_object settings) did.skips r member (numbers_below n)).members ∙ sym between.holds.members

-- what becomes of it, as the code tells it
pub may_as : {V : Type 0} {T : V → Type 0} {form : FormOf V T} {settings : Settings} {grid : Grid V T} {r : Run} {at : Spot} {own : Option ℕ} {turn other : Turn} {w : Waiter} → turn ≡ other → MayLeave form settings grid r at own turn w → MayLeave form settings grid r at own other w
may_as {form = form} {settings = settings} {grid = grid} {r = r} {at = at} {own = own} {w = w} same = subst (λ t. MayLeave form settings grid r at own t w) same
