-- A grid whose messages flow: its masters are still there, its partition has the room that is left, and the line ends as it is counted.
use Rattle.std.proofs.Common.{◌≡◌, ℕ, zero, suc, ◌+◌, ◌<◌, ◌≤◌, Bool, true, false, List, [], ◌∷◌, ◌++◌, length, unwrap_or, Option, Some, None, nat_lt, refl, ap, sym, ◌∙◌, subst, arith}
use Rattle.grid_base.specs.Objects.{Object}
use Rattle.grid_base.specs.declared.names.CallId.{CallId}
use Rattle.grid_base.specs.declared.calls.Request.{Request}
use Rattle.object_store.specs.Partitions.{Partition}
use Rattle.call_engine.specs.Calls.{Settings}
use Rattle.call_engine.specs.Objects.{partition_object}
use Rattle.partition_protocol.specs.Service.{numbers_below}
use Rattle.partition_protocol.proofs.RowFacts.{less, not_less}
use Rattle.partition_world.specs.declared.Link.{Link}
use Rattle.line_told.specs.declared.told.LineOutcome.TheVariants.{Flowed}
use Rattle.master_log.specs.declared.masters.Masters.{Masters}
use Rattle.masters_protocol.specs.Machine as masters
use Rattle.masters_world.specs.Machine.{Asks, start, asked}
use Rattle.masters_world.proofs.Theorem.{masters_go}
use Rattle.script_lang.specs.Limits.{most_lines}
use Rattle.line_told.specs.declared.told.Told.{Told}
use Rattle.replay_run.specs.Runs.{partitions, world_at, delivery_on, next_line}
use Rattle.script_lang.specs.declared.line.Line.TheVariants.{Flow, FlowAll, MasterFlow}
use Rattle.replay_run.specs.Grids.{FormOf}
use Rattle.replay_run.specs.LineTold.{came_to}
use Rattle.replay_run.specs.WorldCalls.{HasRoomAt}
use Rattle.replay_run.proofs.Flowing.{deliveries_are}
use Rattle.replay_run.proofs.LineEnds.{line_has_room}
use Rattle.replay_run.proofs.TakenApart.{room_after, few_none}
use Rattle.masters_run.specs.declared.grid.RuledGrid.{RuledGrid}
use Rattle.masters_run.specs.Runs.{RuledRun, has_masters, masters_at, goes, link_to_member, flowed, flowed_in, link_between, handing_over, flowed_between, counted}
use Rattle.masters_run.specs.AfterLines.{after_line}
use Rattle.masters_run.specs.LineTold.{followed_each}
use Rattle.masters_run.specs.Grids.{Rules, Stands, HasRun, IsGivenUp}
use Rattle.masters_run.specs.Steps.{IsAmid, MayAsk, MayFlow, GivesUp, HasFlowed, HasFlowedBetween}
use Rattle.masters_run.proofs.Coming.{HaveCome, AllHaveCome, beyond}
use Rattle.masters_run.proofs.Delivering.{HasDelivered, HasFlowedIn, told_since, by_then, delivered_so}
use Rattle.masters_run.proofs.FewEvents.{between_few, flowed_few, flowed_in_few}
use Rattle.masters_run.proofs.Going.{goes_count}
use Rattle.masters_run.proofs.HandingOver.{HasHandedOver, handed_by_then, all_handed}
use Rattle.masters_run.proofs.LineParts.{with_masters, told_with_masters, line_ran, line_given_up}
use Rattle.masters_run.proofs.MastersAsked.{some_are}
use Rattle.masters_run.proofs.RuledGrowing.{flowed_in_goes}
use Rattle.masters_run.proofs.RuledRuns.{flowed_on, between_on}

-- as many masters as before

module _ (o : Object Request Partition) (skips : List CallId) where
  pub flowed_count : (s : RuledRun) (p most : ℕ) → length (flowed o skips s p most).masters ≡ length s.masters
  flowed_count s p zero = refl
  flowed_count s p (suc most) = go (link_to_member (world_at o s.run p)) (λ x. flowed_count x p most)
    where
      go : (next : Option Link) → ((x : RuledRun) → length (flowed o skips x p most).masters ≡ length x.masters) → length (flowed_on o skips s p most next).masters ≡ length s.masters
      go None f = refl
      go (Some l) f = f (goes o skips s p (Asks (delivery_on l))) ∙ goes_count o skips s p (Asks (delivery_on l))

  pub flowed_in_count : (s : RuledRun) (most : ℕ) (ps : List ℕ) → length (flowed_in o skips s most ps).masters ≡ length s.masters
  flowed_in_count s most [] = refl
  flowed_in_count s most (p ∷ ps) = flowed_in_count (flowed o skips s p most) most ps ∙ flowed_count s p most

  pub between_count : (s : RuledRun) (p most : ℕ) → length (flowed_between o skips s p most).masters ≡ length s.masters
  between_count s p zero = refl
  between_count s p (suc most) = go (link_between (masters_at s p)) (λ x. between_count x p most)
    where
      go : (next : Option Link) → ((x : RuledRun) → length (flowed_between o skips x p most).masters ≡ length x.masters) → length (between_on o skips s p most next).masters ≡ length s.masters
      go None f = refl
      go (Some l) f = f (goes o skips s p (handing_over l)) ∙ goes_count o skips s p (handing_over l)

-- The masters that the code's stand for have come to be what they are by events.
pub rules_come : {settings : Settings} {all : List Masters} (s : RuledRun) → Rules settings all s → has_masters s ≡ true → AllHaveCome s.run.members s
rules_come {settings} s rules is = record { members = refl; each = λ p. come p (nat_lt p partitions) refl }
  where
    come : (p : ℕ) (b : Bool) → nat_lt p partitions ≡ b → HaveCome s.run.members (masters_at s p)
    come p true low =
        let are = (rules.each is p (less p partitions low)).are in
        let o = partition_object settings in
        let first = start p s.run.members s.run.backups in
        record { events = asked o first are.lines; is = masters_go o first are.lines ∙ are.of_lines.masters }
    come p false high =
        let past = not_less p partitions high in
        let whole = rules.ruled is in
        record { events = []; is = ap (λ w. unwrap_or w (masters.start s.run.members)) (sym (beyond s.masters p (omega (arith, past, whole)))) }

module _ {V : Type 0} {T : V → Type 0} {form : FormOf V T} where
  -- Whatever run the grid stands for, all of its masters are there.
  pub whole_by : (all : RuledGrid V T) (p most : ℕ) → MayFlow form all p most → {settings : Settings} (s : RuledRun) → IsAmid form settings all s → length s.masters ≡ partitions
  whole_by all p most may s amid = sym amid.masters.count ∙ may.amid.masters.count ∙ may.amid.masters.ruled may.ruled

  -- so many messages of the masters were handed over
  module _ (all mid : RuledGrid V T) (p most number : ℕ) (earlier so_far : List Told) (may : MayFlow form all p most) (did : HasHandedOver form may.settings mid may.run p number earlier so_far) where
    pub may_hand : number < most → MayAsk form mid p
    may_hand below =
        let o = partition_object may.settings in
        let few = between_few o did.on.skips may.run.run.members may.run p number (rules_come may.run may.amid.masters may.ruled) in
        record {
          settings = may.settings;
          run = handed_by_then may.settings may.run p mid number earlier so_far did;
          amid = did.on.amid;
          ruled = some_are (handed_by_then may.settings may.run p mid number earlier so_far did).masters (between_count o did.on.skips may.run p number ∙ may.amid.masters.ruled may.ruled);
          placed = may.placed;
          room = room_after few.few p 1 (let room = may.room in omega (arith, room, below));
        }

  pub handed_all : {settings : Settings} (s : RuledRun) (mid : RuledGrid V T) (p number : ℕ) (earlier so_far : List Told) → HasHandedOver form settings mid s p number earlier so_far → (most : ℕ) → number ≤ most → most ≤ number
      → HasFlowedBetween form settings mid s p most number earlier so_far
  handed_all {settings} s mid p number earlier so_far did most below past =
      let same : number ≡ most = omega (arith, below, past) in
      subst (λ m. HasFlowedBetween form settings mid s p m number earlier so_far) same (all_handed settings s p mid number earlier so_far did)

  -- so many messages to members were delivered
  module _ (all mid : RuledGrid V T) (p most number : ℕ) (earlier so_far : List Told) (may : MayFlow form all p most) where
    module _ {settings : Settings} (s : RuledRun) (amid : IsAmid form settings all s) (did : HasDelivered form settings mid s p number earlier so_far) where
      pub still_whole : length (by_then settings s p mid number earlier so_far did).masters ≡ partitions
      still_whole = flowed_count (partition_object settings) did.on.skips s p number ∙ whole_by all p most may s amid

      pub still_low : p < length (by_then settings s p mid number earlier so_far did).masters
      still_low = let low = may.placed in let whole = still_whole in omega (arith, low, whole)

      pub still_ruled : has_masters (by_then settings s p mid number earlier so_far did) ≡ true
      still_ruled = some_are (by_then settings s p mid number earlier so_far did).masters still_whole

    pub room_left : (did : HasDelivered form may.settings mid may.run p number earlier so_far) → number < most → HasRoomAt (by_then may.settings may.run p mid number earlier so_far did).run p 1
    room_left did below = room_after (flowed_few (partition_object may.settings) did.on.skips may.run p number).few p 1 (let room = may.room in omega (arith, room, below))

  pub delivered_all : {settings : Settings} (s : RuledRun) (mid : RuledGrid V T) (p number : ℕ) (earlier so_far : List Told) → HasDelivered form settings mid s p number earlier so_far → (most : ℕ) → number ≤ most → most ≤ number
      → HasFlowed form settings mid s p most number earlier so_far
  delivered_all {settings} s mid p number earlier so_far did most below past =
      let same : number ≡ most = omega (arith, below, past) in
      subst (λ m. HasFlowed form settings mid s p m number earlier so_far) same (delivered_so settings s p mid number earlier so_far did)

  pub flowed_at : {settings : Settings} (s : RuledRun) (mid : RuledGrid V T) (most n m count : ℕ) (earlier later : List Told) → n ≡ m → HasFlowedIn form settings mid s most n count earlier later → HasFlowedIn form settings mid s most m count earlier later
  flowed_at {settings} s mid most n m count earlier later same = subst (λ k. HasFlowedIn form settings mid s most k count earlier later) same

  -- A line has room for its flow.
  module _ {settings : Settings} (all : RuledGrid V T) (s : RuledRun) (stands : Stands form settings all s) (limit : s.run.lines + 1 ≤ most_lines) (ruled : has_masters s ≡ true) where
    pub may_flow : (new : RuledGrid V T) → IsAmid form settings new (counted s) → (p : ℕ) → p < partitions → (most : ℕ) → most ≤ 1000 → MayFlow form new p most
    may_flow new now p low most within = record {
      settings = settings;
      run = counted s;
      amid = now;
      ruled = ruled;
      placed = low;
      room = line_has_room all.grid s.run stands.grid limit (next_line s.run) 0 0 (few_none (next_line s.run)) p most (omega (arith, within));
    }

    -- and for that of each partition
    pub may_flow_more : (new : RuledGrid V T) (most n count : ℕ) (earlier so_far : List Told) → HasFlowedIn form settings new (counted s) most n count earlier so_far → n < partitions → most ≤ 1000 → MayFlow form new n most
    may_flow_more new most n count earlier so_far did low within =
        let o = partition_object settings in
        let mid = flowed_in o did.on.skips (counted s) most (numbers_below n) in
        record {
          settings = settings;
          run = mid;
          amid = did.on.amid;
          ruled = some_are mid.masters (flowed_in_count o did.on.skips (counted s) most (numbers_below n) ∙ stands.masters.ruled ruled);
          placed = low;
          room = line_has_room all.grid s.run stands.grid limit mid.run most 0 (flowed_in_few o did.on.skips (counted s) most n) n most (omega (arith, within));
        }

  -- The line is a flow, and comes to this.
  module _ {settings : Settings} (all : RuledGrid V T) (s : RuledRun) (stands : Stands form settings all s) (ruled : has_masters s ≡ true) where
    abbrev o : Object Request Partition
    o = partition_object settings

    between_after : (p most : ℕ) (skips : List CallId) → after_line o skips s (MasterFlow p most) ≡ flowed_between o skips (counted s) p most
    between_after p most skips = with_masters o skips s (MasterFlow p most) ruled

    flow_after : (p most : ℕ) (skips : List CallId) → after_line o skips s (Flow p most) ≡ flowed o skips (counted s) p most
    flow_after p most skips = with_masters o skips s (Flow p most) ruled

    all_after : (most : ℕ) (skips : List CallId) → after_line o skips s (FlowAll most) ≡ flowed_in o skips (counted s) most (numbers_below partitions)
    all_after most skips = with_masters o skips s (FlowAll most) ruled

    -- or is given up at it

    pub between_up : (p most : ℕ) → GivesUp (counted s) (λ skips. flowed_between o skips (counted s) p most) → IsGivenUp settings s (MasterFlow p most)
    between_up p most up = line_given_up all s stands (MasterFlow p most) (λ skips. flowed_between o skips (counted s) p most) (between_after p most) up

    pub flow_up : (p most : ℕ) → GivesUp (counted s) (λ skips. flowed o skips (counted s) p most) → IsGivenUp settings s (Flow p most)
    flow_up p most up = line_given_up all s stands (Flow p most) (λ skips. flowed o skips (counted s) p most) (flow_after p most) up

    pub all_up : (most : ℕ) → GivesUp (counted s) (λ skips. flowed_in o skips (counted s) most (numbers_below partitions)) → IsGivenUp settings s (FlowAll most)
    all_up most up = line_given_up all s stands (FlowAll most) (λ skips. flowed_in o skips (counted s) most (numbers_below partitions)) (all_after most) up

    module _ (mid : RuledGrid V T) (amid : IsAmid form settings mid (counted s)) (limit : s.run.lines + 1 ≤ most_lines) where
      pub between_ran : (p most : ℕ) → most ≤ 1000 → (new : RuledGrid V T) (count : ℕ) (start said : List Told) → HasFlowedBetween form settings new (counted s) p most count start said
          → (earlier later : List Told) → start ≡ [] → later ≡ earlier ++ came_to (Flowed count) ++ said → HasRun form settings new s (MasterFlow p most) earlier later
      between_ran p most within new count start said did earlier later none is =
          let k = did.on.skips in
          let next = flowed_between o k (counted s) p most in
          let few = (between_few o k s.run.members (counted s) p most (rules_come (counted s) amid.masters ruled)).few in
          let handed = did.handed in
          line_ran all s stands limit new (MasterFlow p most) (λ skips. flowed_between o skips (counted s) p most) (λ skips. followed_each o skips (counted s) p most) start said did.on (between_after p most k)
          most most few (omega (arith, within)) (omega (arith, within)) (came_to (Flowed count)) earlier later
          (told_with_masters settings k s (MasterFlow p most) next ruled ∙ (λ i. came_to (Flowed (handed i)) ++ followed_each o k (counted s) p most)) none is

      pub flow_ran : (p most : ℕ) → most ≤ 1000 → (new : RuledGrid V T) (count : ℕ) (start said : List Told) → HasFlowed form settings new (counted s) p most count start said
          → (earlier later : List Told) → start ≡ [] → later ≡ earlier ++ came_to (Flowed count) ++ said → HasRun form settings new s (Flow p most) earlier later
      flow_ran p most within new count start said did earlier later none is =
          let k = did.on.skips in
          let next = flowed o k (counted s) p most in
          let few = (flowed_few o k (counted s) p most).few in
          let counts = did.deliveries in
          line_ran all s stands limit new (Flow p most) (λ skips. flowed o skips (counted s) p most) (λ skips. told_since (counted s) (flowed o skips (counted s) p most)) start said did.on (flow_after p most k)
          most 0 few (omega (arith, within)) (omega arith) (came_to (Flowed count)) earlier later
          (told_with_masters settings k s (Flow p most) next ruled ∙ (λ i. came_to (Flowed (counts i)) ++ told_since (counted s) next)) none is

      pub all_ran : (most : ℕ) → most ≤ 1000 → (new : RuledGrid V T) (count : ℕ) (start said : List Told) → HasFlowedIn form settings new (counted s) most partitions count start said
          → (earlier later : List Told) → start ≡ [] → later ≡ earlier ++ came_to (Flowed count) ++ said → HasRun form settings new s (FlowAll most) earlier later
      all_ran most within new count start said did earlier later none is =
          let k = did.on.skips in
          let ps = numbers_below partitions in
          let next = flowed_in o k (counted s) most ps in
          let few = flowed_in_few o k (counted s) most partitions in
          let counts = deliveries_are (counted s).run next.run count ((flowed_in_goes o (counted s) most ps).by.grows k).events did.counts in
          line_ran all s stands limit new (FlowAll most) (λ skips. flowed_in o skips (counted s) most ps) (λ skips. told_since (counted s) (flowed_in o skips (counted s) most ps)) start said did.on (all_after most k)
          most 0 few (omega (arith, within)) (omega arith) (came_to (Flowed count)) earlier later
          (told_with_masters settings k s (FlowAll most) next ruled ∙ (λ i. came_to (Flowed (counts i)) ++ told_since (counted s) next)) none is
