-- A run that goes on by several steps, each by skips of its own, and the grid that follows it.
use Rattle.std.proofs.Common.{◌≡◌, ℕ, zero, suc, ◌+◌, ◌-◌, ◌≤◌, ◌<◌, true≢false, false, cond, List, [], ◌∷◌, ◌++◌, length, drop, count_by, Option, Some, None, refl, ap, sym, ◌∙◌, subst, inl, inr, append-nil, append_assoc, add-one, arith}
use Rattle.std.proofs.lemmas.List.Sums.{sum_by-append, sum_by-cons}
use Rattle.std.proofs.Math.Seq.{drop-append_seam}
use Rattle.grid_base.specs.Objects.{Object}
use Rattle.grid_base.specs.declared.names.CallId.{CallId}
use Rattle.grid_base.specs.declared.calls.Request.{Request}
use Rattle.partition_protocol.specs.Arrivals.{asked_by}
use Rattle.partition_protocol.specs.Events.{Event}
use Rattle.partition_protocol.specs.Sequences.{IsFrontOf}
use Rattle.partition_protocol.specs.Service.{numbers_below}
use Rattle.partition_protocol.proofs.Lists.{in_contains}
use Rattle.partition_protocol.proofs.RowFacts.{false_or_not}
use Rattle.partition_world.specs.Events.{happened_of}
use Rattle.partition_world.specs.declared.event.Happened.{Happened}
use Rattle.call_engine.specs.Calls.{Settings}
use Rattle.call_engine.specs.Objects.{partition_object}
use Rattle.object_store.specs.Partitions.{Partition}
use Rattle.replay_run.specs.declared.grid.Grid.{Grid}
use Rattle.partition_world.specs.declared.Link.{Link}
use Rattle.partition_world.specs.LinkOrder.{next_link}
use Rattle.replay_run.specs.Runs.{Run, At, Arrival, Appended, world_at, meets_full, ending, stirred_by, delivery_on, occurred, takes, takes_in, flowed, flowed_in}
use Rattle.replay_run.specs.Endings.{new_arrivals, AreAmong}
use Rattle.replay_run.specs.Printing.{outcome_at, is_delivery, deliveries}
use Rattle.replay_run.specs.ScriptRuns.{IsRun}
use Rattle.replay_run.specs.Grids.{FormOf}
use Rattle.replay_run.specs.WorldCalls.{HasRoomAt, IsAmid, HasGoneOn, Onward, HasGoneOnSo, GivesUpSo, HasTaken, HasFlowed}
use Rattle.replay_run.proofs.LineTexts.{told-append}
use Rattle.replay_run.proofs.Turns.{KeepsTurns, by_endings, served_at_keeps, IsMade, its_event}
use Rattle.replay_run.proofs.EventRuns.{takes_here, takes_nothing, takes_in_kept, takes_in_no_fewer, takes_run, flowed_kept, flowed_few, flowed_run, flowed_none, flowed_some, flowed_in_kept, flowed_in_no_fewer, takes_in_more, flowed_in_more, takes_in_later, flowed_in_later}
use Rattle.replay_run.proofs.Growing.{GoesBy, takes_goes, takes_in_goes, flowed_goes, flowed_in_goes}
use Rattle.replay_run.proofs.RunFacts.{ArrivalsOk}
use Rattle.replay_run.proofs.RunsOfLines.{run_ok}
use Rattle.replay_run.proofs.SkipLaws.{both_go, both_among}
use Rattle.replay_run.proofs.GivingUp.{stays_on, up_as, gives_up_first, gives_up_then}
use Rattle.replay_run.specs.LineTold.{all_told}
use Rattle.line_told.specs.declared.told.Told.{Told}

module _ {V : Type 0} {T : V → Type 0} {form : FormOf V T} {settings : Settings} where
  pub gone_nowhere : (grid : Grid V T) (r : Run) (later : List Told) → IsAmid form settings grid r → HasGoneOn form settings grid r r later later
  gone_nowhere grid r later amid = record { amid = amid; messages = []; appended = sym (append-nil r.appended); added = sym (append-nil later) }

  pub gone_further : (mid new : Grid V T) (r now next : Run) (earlier so_far later : List Told) → HasGoneOn form settings mid r now earlier so_far → HasGoneOn form settings new now next so_far later → HasGoneOn form settings new r next earlier later
  gone_further mid new r now next earlier so_far later a b = record {
    amid = b.amid;
    messages = a.messages ++ b.messages;
    appended = b.appended ∙ ap (λ (ms : List Appended). ms ++ b.messages) a.appended ∙ append_assoc r.appended a.messages b.messages;
    added = b.added ∙ ap (λ xs. xs ++ all_told b.messages) a.added ∙ append_assoc earlier (all_told a.messages) (all_told b.messages) ∙ ap (λ xs. earlier ++ xs) (sym (told-append a.messages b.messages));
  }

  pub gone_as : {new : Grid V T} {r now next : Run} {earlier later : List Told} → now ≡ next → HasGoneOn form settings new r now earlier later → HasGoneOn form settings new r next earlier later
  gone_as {new = new} {r = r} {earlier = earlier} {later = later} same = subst (λ n. HasGoneOn form settings new r n earlier later) same

  pub taken_by : {new : Grid V T} {r : Run} {p : ℕ} {event other : Event Request} {happened : Happened} {earlier later : List Told} → event ≡ other → HasTaken form settings new r p event happened earlier later → HasTaken form settings new r p other happened earlier later
  taken_by {new = new} {r = r} {p = p} {happened = happened} {earlier = earlier} {later = later} same = subst (λ e. HasTaken form settings new r p e happened earlier later) same

  -- by skips

  pub so_nowhere : (grid : Grid V T) (r : Run) (later : List Told) → IsAmid form settings grid r → HasGoneOnSo form settings grid r (λ s. r) later later
  so_nowhere grid r later amid = record { skips = []; own = λ id c. absurd (in_contains id [] c); on = gone_nowhere grid r later amid }

  -- the same by another name of where that leads
  pub so_as : (new : Grid V T) (r : Run) (f g : Onward) (earlier later : List Told) (a : HasGoneOnSo form settings new r f earlier later) → f a.skips ≡ g a.skips → (c : HasGoneOnSo form settings new r g earlier later) × (g c.skips ≡ f a.skips)
  so_as new r f g earlier later a same = (
    record { skips = a.skips; own = subst (λ (x : Run). AreAmong (new_arrivals r x) a.skips) same a.own; on = gone_as same a.on },
    sym same,
  )

  pub so_all : (new : Grid V T) (r : Run) (f g : Onward) (earlier later : List Told) → ((s : List CallId) → f s ≡ g s) → HasGoneOnSo form settings new r f earlier later → HasGoneOnSo form settings new r g earlier later
  so_all new r f g earlier later same a = (so_as new r f g earlier later a (same a.skips)).0

  -- one step, and then another: both with the skips of either
  module _ (mid new : Grid V T) (r : Run) (first : Onward) (then : Run → Onward) (g : GoesBy r first) (h : (x : Run) → GoesBy x (then x)) (earlier so_far : List Told) (a : HasGoneOnSo form settings mid r first earlier so_far) where
    pub so_further : (later : List Told) (b : HasGoneOnSo form settings new (first a.skips) (then (first a.skips)) so_far later)
        → (c : HasGoneOnSo form settings new r (λ s. then (first s) s) earlier later) × (then (first c.skips) c.skips ≡ then (first a.skips) b.skips)
    so_further later b =
        let once : ArrivalsOk (then (first a.skips) b.skips) = (run_ok b.on.amid.run).of_arrivals in
        let same : then (first (a.skips ++ b.skips)) (a.skips ++ b.skips) ≡ then (first a.skips) b.skips = both_go r first then g h a.skips b.skips once a.own b.own in (
          record {
            skips = a.skips ++ b.skips;
            own = both_among r first then g h a.skips b.skips once a.own b.own;
            on = gone_as (sym same) (gone_further mid new r (first a.skips) (then (first a.skips) b.skips) earlier so_far later a.on b.on);
          },
          same,
        )

    -- or the run is given up at the other
    pub gives_up_after : GivesUpSo (first a.skips) (then (first a.skips)) → ((s : List CallId) → IsRun (partition_object settings) (then (first a.skips) s)) → GivesUpSo r (λ s. then (first s) s)
    gives_up_after b runs = gives_up_then r first then g h a.skips a.own b runs

-- how many messages were delivered

abbrev pub delivered : Run → ℕ
delivered r = count_by is_delivery r.events

abbrev one_if_delivery : At → ℕ
one_if_delivery e = cond (is_delivery e) 1 0

pub deliveries_are : (r next : Run) (n : ℕ) → IsFrontOf r.events next.events → delivered next ≡ delivered r + n → deliveries r next ≡ n
deliveries_are r next n (more, e) counts =
    let whole = ap (count_by is_delivery) (sym e) ∙ sum_by-append one_if_delivery r.events more in
    let new = ap (count_by is_delivery) (ap (drop (length r.events)) (sym e) ∙ drop-append_seam r.events more) in
    omega (arith, whole, new, counts)

pub deliveries_counted : (r next : Run) → IsFrontOf r.events next.events → delivered next ≡ delivered r + deliveries r next
deliveries_counted r next (more, e) =
    let whole = ap (count_by is_delivery) (sym e) ∙ sum_by-append one_if_delivery r.events more in
    let new = ap (count_by is_delivery) (ap (drop (length r.events)) (sym e) ∙ drop-append_seam r.events more) in
    omega (arith, whole, new)

-- a call that waited delivers none
made_none : (a : Arrival) (events : List At) → IsMade a events → count_by is_delivery events ≡ 0
made_none a events (inl e) = ap (count_by is_delivery) e
made_none a events (inr e) =
    let same = ap (count_by is_delivery) e in
    let one = sum_by-cons one_if_delivery (its_event a) [] in
    omega (arith, same, one)

module _ (o : Object Request Partition) (skips : List CallId) where
  undelivered_turns : (p n : ℕ) → KeepsTurns o skips p (λ x. delivered x ≡ n)
  undelivered_turns p n = by_endings o skips p (λ x. delivered x ≡ n) (λ x h. h)
      (λ x w events appended i made here h. (let more = sum_by-append one_if_delivery x.events events in let none = made_none (ending x w) events made in omega (arith, more, none, h)))

  one_occurred : (r : Run) (p : ℕ) (l : Link) → delivered (occurred o r p (delivery_on l)) ≡ delivered r + 1
  one_occurred r p l =
      let its : At = record { partition = p; event = delivery_on l } in
      let more = sum_by-append one_if_delivery r.events (its ∷ []) in
      let one = sum_by-cons one_if_delivery its [] in
      omega (arith, more, one)

  pub took_one : (r : Run) (p : ℕ) (l : Link) → meets_full (world_at o r p) (delivery_on l) ≡ false → delivered (takes o skips r p (delivery_on l)) ≡ delivered r + 1
  took_one r p l free =
      ap delivered (takes_here o skips r p (delivery_on l) free)
      ∙ served_at_keeps o skips p (λ x. delivered x ≡ delivered r + 1) (undelivered_turns p (delivered r + 1)) (occurred o r p (delivery_on l)) (stirred_by (delivery_on l)) (one_occurred r p l)

  -- a run that isn't given up at an event has room for it
  pub had_room : (r : Run) (p : ℕ) (event : Event Request) → (takes o skips r p event).full ≡ false → meets_full (world_at o r p) event ≡ false
  had_room r p event goes_on = false_or_not (meets_full (world_at o r p) event) (λ full. true≢false (sym (takes_nothing o skips r p event full) ∙ goes_on))

  -- a flow in two parts
  flowed_parts : (r : Run) (p a b all : ℕ) → a + b ≡ all → flowed o skips r p all ≡ flowed o skips (flowed o skips r p a) p b
  flowed_parts r p zero b all e = let same : all ≡ b = omega (arith, e) in ap (flowed o skips r p) same
  flowed_parts r p (suc a) b zero e = absurd (omega (arith, e))
  flowed_parts r p (suc a) b (suc all) e = go (next_link (world_at o r p)) refl (λ x. flowed_parts x p a b all left)
    where
      left : a + b ≡ all
      left = omega (arith, e)

      go : (next : Option Link) → next_link (world_at o r p) ≡ next → ((x : Run) → flowed o skips x p all ≡ flowed o skips (flowed o skips x p a) p b) → flowed o skips r p (suc all) ≡ flowed o skips (flowed o skips r p (suc a)) p b
      go None none parts =
          flowed_none o skips r p (suc all) none
          ∙ sym (ap (λ (x : Run). flowed o skips x p b) (flowed_none o skips r p (suc a) none) ∙ flowed_none o skips r p b none)
      go (Some l) some parts =
          flowed_some o skips r p all l some ∙ parts (takes o skips r p (delivery_on l))
          ∙ sym (ap (λ (x : Run). flowed o skips x p b) (flowed_some o skips r p a l some))

-- Of a flow of one partition so many messages were delivered.
pub record HasDelivered {V : Type 0} {T : V → Type 0} (form : FormOf V T) (settings : Settings) (grid : Grid V T) (r : Run) (p number : ℕ) (earlier later : List Told) : Type 0 where
  pub on : HasGoneOnSo form settings grid r (λ skips. flowed (partition_object settings) skips r p number) earlier later
  pub counts : delivered (flowed (partition_object settings) on.skips r p number) ≡ delivered r + number

module _ {V : Type 0} {T : V → Type 0} {form : FormOf V T} {settings : Settings} (r : Run) (p : ℕ) where
  pub none_delivered : (grid : Grid V T) (later : List Told) → IsAmid form settings grid r → HasDelivered form settings grid r p 0 later later
  none_delivered grid later amid = record { on = so_nowhere grid r later amid; counts = omega arith }

  module _ (grid : Grid V T) (number : ℕ) (earlier mid : List Told) (did : HasDelivered form settings grid r p number earlier mid) where
    -- the run by then
    abbrev pub so_far : Run
    so_far = flowed (partition_object settings) did.on.skips r p number

    pub delivered_room : (most : ℕ) → HasRoomAt r p most → number < most → HasRoomAt so_far p 1
    delivered_room most room more =
        let few = flowed_few (partition_object settings) did.on.skips r p number p in
        let calls = (flowed_kept (partition_object settings) did.on.skips r p number).calls in
        omega (arith, room, more, few, calls)

    -- One more is delivered.
    module _ (l : Link) (next : next_link (world_at (partition_object settings) so_far p) ≡ Some l) where
      pub one_delivered : (new : Grid V T) (event : Event Request) → event ≡ delivery_on l → (happened : Happened) (later : List Told) → HasTaken form settings new so_far p event happened mid later
          → HasDelivered form settings new r p (number + 1) earlier later
      one_delivered new event is happened later taken =
          let o = partition_object settings in
          let took : HasTaken form settings new so_far p (delivery_on l) happened mid later = taken_by is taken in
          let step = so_as new so_far (λ s. takes o s so_far p (delivery_on l)) (λ s. flowed o s so_far p (suc zero)) mid later took.on (sym (flowed_some o took.on.skips so_far p zero l next)) in
          let whole = so_further grid new r (λ s. flowed o s r p number) (λ x s. flowed o s x p (suc zero)) (flowed_goes o r p number) (λ x. flowed_goes o x p (suc zero)) earlier mid did.on later step.0 in
          let all = so_as new r (λ s. flowed o s (flowed o s r p number) p (suc zero)) (λ s. flowed o s r p (number + 1)) earlier later whole.0 (sym (flowed_parts o whole.0.skips r p number (suc zero) (number + 1) (omega arith))) in
          let one = took_one o took.on.skips so_far p l (had_room o took.on.skips so_far p (delivery_on l) took.on.on.amid.holds.goes_on) in
          let last = ap delivered (all.1 ∙ whole.1 ∙ step.1) in
          let before = did.counts in
          record { on = all.0; counts = omega (arith, last, one, before) }

      -- or meets the partition full
      pub meets_one : (most : ℕ) → number < most → (event : Event Request) → event ≡ delivery_on l → GivesUpSo so_far (λ skips. takes (partition_object settings) skips so_far p event) → GivesUpSo r (λ skips. flowed (partition_object settings) skips r p most)
      meets_one most more event is full =
          let o = partition_object settings in
          let rest = most - suc number in
          let e : number + suc rest ≡ most = omega (arith, more) in
          let step = gives_up_first so_far (λ s. takes o s so_far p (delivery_on l)) (λ x s. flowed o s x p rest) (takes_goes o so_far p (delivery_on l) refl) (λ x. flowed_goes o x p rest)
          (subst (λ v. GivesUpSo so_far (λ s. takes o s so_far p v)) is full) in
          let its = up_as so_far (λ s. flowed o s (takes o s so_far p (delivery_on l)) p rest) (λ s. flowed o s so_far p (suc rest)) (λ s. sym (flowed_some o s so_far p rest l next)) step in
          let whole = gives_up_after grid grid r (λ s. flowed o s r p number) (λ x s. flowed o s x p (suc rest)) (flowed_goes o r p number) (λ x. flowed_goes o x p (suc rest)) earlier mid did.on its (λ s. flowed_run s so_far p (suc rest) did.on.on.amid.run) in
          up_as r (λ s. flowed o s (flowed o s r p number) p (suc rest)) (λ s. flowed o s r p most) (λ s. sym (flowed_parts o s r p number (suc rest) most e)) whole

    -- None is left, in flight or of those that may flow.

    delivered_all : (most : ℕ) → flowed (partition_object settings) did.on.skips r p most ≡ so_far → HasFlowed form settings grid r (λ skips. flowed (partition_object settings) skips r p most) number earlier mid
    delivered_all most same =
        let o = partition_object settings in
        let all = so_as grid r (λ s. flowed o s r p number) (λ s. flowed o s r p most) earlier mid did.on (sym same) in
        record { on = all.0; deliveries = ap (deliveries r) all.1 ∙ deliveries_are r so_far number ((flowed_goes o r p number).grows did.on.skips).events did.counts }

    pub none_next : (most : ℕ) → number ≤ most → next_link (world_at (partition_object settings) so_far p) ≡ None → HasFlowed form settings grid r (λ skips. flowed (partition_object settings) skips r p most) number earlier mid
    none_next most within none =
        let o = partition_object settings in
        let e : number + (most - number) ≡ most = omega (arith, within) in
        delivered_all most (flowed_parts o did.on.skips r p number (most - number) most e ∙ flowed_none o did.on.skips so_far p (most - number) none)

    pub all_flowed : (most : ℕ) → number ≤ most → most ≤ number → HasFlowed form settings grid r (λ skips. flowed (partition_object settings) skips r p most) number earlier mid
    all_flowed most within reached = let same : most ≡ number = omega (arith, within, reached) in delivered_all most (ap (flowed (partition_object settings) did.on.skips r p) same)

-- partition after partition

module _ (o : Object Request Partition) where
  -- A run that is given up in one partition is so in the end.

  abbrev flows_up_to : Run → ℕ → ℕ → Type 0
  flows_up_to r most k = GivesUpSo r (λ s. flowed_in o s r most (numbers_below k))

  abbrev takes_up_to : Run → Event Request → ℕ → Type 0
  takes_up_to r event k = GivesUpSo r (λ s. takes_in o s r event (numbers_below k))

  flowed_in_ends : (r : Run) (most n m : ℕ) → n ≤ m → flows_up_to r most n → flows_up_to r most m
  flowed_in_ends r most = stays_on (flows_up_to r most)
      (λ k full. up_as r (λ s. flowed o s (flowed_in o s r most (numbers_below k)) k most) (λ s. flowed_in o s r most (numbers_below (suc k))) (λ s. sym (flowed_in_more o s r most k))
      (gives_up_first r (λ s. flowed_in o s r most (numbers_below k)) (λ x s. flowed o s x k most) (flowed_in_goes o r most (numbers_below k)) (λ x. flowed_goes o x k most) full))

  takes_in_ends : (r : Run) (event : Event Request) → asked_by event ≡ [] → (n m : ℕ) → n ≤ m → takes_up_to r event n → takes_up_to r event m
  takes_in_ends r event quiet = stays_on (takes_up_to r event)
      (λ k full. up_as r (λ s. takes o s (takes_in o s r event (numbers_below k)) k event) (λ s. takes_in o s r event (numbers_below (suc k))) (λ s. sym (takes_in_more o s r event k))
      (gives_up_first r (λ s. takes_in o s r event (numbers_below k)) (λ x s. takes o s x k event) (takes_in_goes o r event (numbers_below k) quiet) (λ x. takes_goes o x k event quiet) full))

  -- The partition that comes next has the room that it had.

  pub flow_room : (skips : List CallId) (r : Run) (most n room : ℕ) → HasRoomAt r n room → HasRoomAt (flowed_in o skips r most (numbers_below n)) n room
  flow_room skips r most n room h =
      let same = ap length (flowed_in_later o skips r most n n (omega arith)) in
      let calls = (flowed_in_kept o skips r most (numbers_below n)).calls in
      let come = flowed_in_no_fewer o skips r most n in
      omega (arith, h, same, calls, come)

  pub take_room : (skips : List CallId) (r : Run) (event : Event Request) (n room : ℕ) → HasRoomAt r n room → HasRoomAt (takes_in o skips r event (numbers_below n)) n room
  take_room skips r event n room h =
      let same = ap length (takes_in_later o skips r event n n (omega arith)) in
      let calls = (takes_in_kept o skips r event (numbers_below n)).calls in
      let come = takes_in_no_fewer o skips r event n in
      omega (arith, h, same, calls, come)

module _ {V : Type 0} {T : V → Type 0} {form : FormOf V T} {settings : Settings} (r : Run) where
  -- the flows of the partitions so far

  pub none_flowed : (grid : Grid V T) (most : ℕ) (later : List Told) → IsAmid form settings grid r → HasFlowed form settings grid r (λ skips. flowed_in (partition_object settings) skips r most (numbers_below 0)) 0 later later
  none_flowed grid most later amid = record { on = so_nowhere grid r later amid; deliveries = deliveries_are r r 0 ([], append-nil r.events) (omega arith) }

  module _ (grid new : Grid V T) (most n number more : ℕ) (earlier mid : List Told) (a : HasFlowed form settings grid r (λ skips. flowed_in (partition_object settings) skips r most (numbers_below n)) number earlier mid) where
    -- the run by then
    abbrev pub flowed_by : Run
    flowed_by = flowed_in (partition_object settings) a.on.skips r most (numbers_below n)

    pub one_flowed : (later : List Told) → HasFlowed form settings new flowed_by (λ skips. flowed (partition_object settings) skips flowed_by n most) more mid later
        → HasFlowed form settings new r (λ skips. flowed_in (partition_object settings) skips r most (numbers_below (n + 1))) (number + more) earlier later
    one_flowed later b =
        let o = partition_object settings in
        let last = flowed o b.on.skips flowed_by n most in
        let whole = so_further grid new r (λ s. flowed_in o s r most (numbers_below n)) (λ x s. flowed o s x n most) (flowed_in_goes o r most (numbers_below n)) (λ x. flowed_goes o x n most) earlier mid a.on later b.on in
        let all = so_as new r (λ s. flowed o s (flowed_in o s r most (numbers_below n)) n most) (λ s. flowed_in o s r most (numbers_below (n + 1))) earlier later whole.0
        (sym (ap (λ k. flowed_in o whole.0.skips r most (numbers_below k)) (add-one n) ∙ flowed_in_more o whole.0.skips r most n)) in
        let to_mid = ((flowed_in_goes o r most (numbers_below n)).grows a.on.skips).events in
        let to_last = ((flowed_goes o flowed_by n most).grows b.on.skips).events in
        let to_end = ((flowed_in_goes o r most (numbers_below (n + 1))).grows all.0.skips).events in
        let first = deliveries_counted r flowed_by to_mid in
        let then = deliveries_counted flowed_by last to_last in
        let same = ap delivered (all.1 ∙ whole.1) in
        let so_many = a.deliveries in
        let so_many_more = b.deliveries in
        record { on = all.0; deliveries = deliveries_are r (flowed_in o all.0.skips r most (numbers_below (n + 1))) (number + more) to_end (omega (arith, first, then, same, so_many, so_many_more)) }

    -- or one meets its partition full
    pub flow_ends : (m : ℕ) → n < m → GivesUpSo flowed_by (λ skips. flowed (partition_object settings) skips flowed_by n most) → GivesUpSo r (λ skips. flowed_in (partition_object settings) skips r most (numbers_below m))
    flow_ends m l full =
        let o = partition_object settings in
        let whole = gives_up_after grid grid r (λ s. flowed_in o s r most (numbers_below n)) (λ x s. flowed o s x n most) (flowed_in_goes o r most (numbers_below n)) (λ x. flowed_goes o x n most) earlier mid a.on full (λ s. flowed_run s flowed_by n most a.on.on.amid.run) in
        flowed_in_ends o r most (suc n) m (omega (arith, l)) (up_as r (λ s. flowed o s (flowed_in o s r most (numbers_below n)) n most) (λ s. flowed_in o s r most (numbers_below (suc n))) (λ s. sym (flowed_in_more o s r most n)) whole)

  pub flowed_at : (grid : Grid V T) (most n m number : ℕ) (earlier later : List Told) → n ≡ m → HasFlowed form settings grid r (λ skips. flowed_in (partition_object settings) skips r most (numbers_below n)) number earlier later
      → HasFlowed form settings grid r (λ skips. flowed_in (partition_object settings) skips r most (numbers_below m)) number earlier later
  flowed_at grid most n m number earlier later same = subst (λ k. HasFlowed form settings grid r (λ skips. flowed_in (partition_object settings) skips r most (numbers_below k)) number earlier later) same

  -- and the same event of each

  module _ (event : Event Request) (quiet : asked_by event ≡ []) where
    pub none_taken : (grid : Grid V T) (later : List Told) → IsAmid form settings grid r → HasGoneOnSo form settings grid r (λ skips. takes_in (partition_object settings) skips r event (numbers_below 0)) later later
    none_taken grid later amid = so_nowhere grid r later amid

    module _ (grid new : Grid V T) (n : ℕ) (earlier mid : List Told) (a : HasGoneOnSo form settings grid r (λ skips. takes_in (partition_object settings) skips r event (numbers_below n)) earlier mid) where
      -- the run by then
      abbrev pub taken_so_far : Run
      taken_so_far = takes_in (partition_object settings) a.skips r event (numbers_below n)

      pub one_taken : (happened : Happened) (later : List Told) → HasTaken form settings new taken_so_far n event happened mid later
          → HasGoneOnSo form settings new r (λ skips. takes_in (partition_object settings) skips r event (numbers_below (n + 1))) earlier later
      one_taken happened later b =
          let o = partition_object settings in
          let whole = so_further grid new r (λ s. takes_in o s r event (numbers_below n)) (λ x s. takes o s x n event) (takes_in_goes o r event (numbers_below n) quiet) (λ x. takes_goes o x n event quiet) earlier mid a later b.on in
          (so_as new r (λ s. takes o s (takes_in o s r event (numbers_below n)) n event) (λ s. takes_in o s r event (numbers_below (n + 1))) earlier later whole.0
          (sym (ap (λ k. takes_in o whole.0.skips r event (numbers_below k)) (add-one n) ∙ takes_in_more o whole.0.skips r event n))).0

      -- or it meets its partition full
      pub take_ends : (m : ℕ) → n < m → GivesUpSo taken_so_far (λ skips. takes (partition_object settings) skips taken_so_far n event) → GivesUpSo r (λ skips. takes_in (partition_object settings) skips r event (numbers_below m))
      take_ends m l full =
          let o = partition_object settings in
          let whole = gives_up_after grid grid r (λ s. takes_in o s r event (numbers_below n)) (λ x s. takes o s x n event) (takes_in_goes o r event (numbers_below n) quiet) (λ x. takes_goes o x n event quiet) earlier mid a full (λ s. takes_run s taken_so_far n event a.on.amid.run quiet) in
          takes_in_ends o r event quiet (suc n) m (omega (arith, l)) (up_as r (λ s. takes o s (takes_in o s r event (numbers_below n)) n event) (λ s. takes_in o s r event (numbers_below (suc n))) (λ s. sym (takes_in_more o s r event n)) whole)

      pub first_outcome : (happened : Happened) (later : List Told) → n ≡ 0 → HasTaken form settings new taken_so_far n event happened mid later → happened_of happened ≡ outcome_at (partition_object settings) r 0 event
      first_outcome happened later e b = b.outcome ∙ ap (λ k. outcome_at (partition_object settings) (takes_in (partition_object settings) a.skips r event (numbers_below k)) k event) e

    pub taken_at : (grid : Grid V T) (n m : ℕ) (earlier later : List Told) → n ≡ m → HasGoneOnSo form settings grid r (λ skips. takes_in (partition_object settings) skips r event (numbers_below n)) earlier later
        → HasGoneOnSo form settings grid r (λ skips. takes_in (partition_object settings) skips r event (numbers_below m)) earlier later
    taken_at grid n m earlier later same = subst (λ k. HasGoneOnSo form settings grid r (λ skips. takes_in (partition_object settings) skips r event (numbers_below k)) earlier later) same
