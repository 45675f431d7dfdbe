-- A call that arrives: it reaches its world, which gives out what waited there, and then those who wait at its member have their turns.
use Rattle.std.proofs.Common.{◌≡◌, ℕ, ◌+◌, ◌<◌, true, false, cond, List, [], ◌∷◌, ◌++◌, length, drop, slice_get, Option, Some, None, Contains, refl, ap, sym, ◌∙◌, subst, ◌⊎◌, ⊎_elim, inl, append_assoc, length-append, arith}
use Rattle.std.specs.Option.{option_or}
use Rattle.std.proofs.Math.Seq.{drop-append_seam}
use Rattle.grid_base.specs.Names.{is_same_call}
use Rattle.grid_base.specs.declared.names.CallId.{CallId}
use Rattle.grid_base.specs.declared.calls.Request.{Request}
use Rattle.grid_base.specs.Objects.{Object}
use Rattle.object_store.specs.Partitions.{Partition}
use Rattle.partition_protocol.specs.Sequences.{IsFrontOf}
use Rattle.partition_protocol.proofs.Lists.{in_contains, contains_in, on_if}
use Rattle.partition_world.specs.Worlds.{waiting}
use Rattle.call_engine.specs.Calls.{Settings}
use Rattle.call_engine.specs.Objects.{partition_object}
use Rattle.replay_run.specs.declared.grid.Grid.{Grid}
use Rattle.replay_run.specs.declared.tally.Tally.{Tally}
use Rattle.replay_run.specs.declared.tally.Reception.{Reception}
use Rattle.replay_run.specs.Runs.{Run, Arrival, Waiter, connection_of, events_at, world_at, is_full, is_skipped, version_known, moment_of, arrival_at, waits, asked, asks, served, partitions}
use Rattle.replay_run.specs.Endings.{new_arrivals, AreAmong}
use Rattle.replay_run.specs.Printing.{new_messages, came_at, answer_of}
use Rattle.replay_run.specs.ScriptRuns.{IsRun, IsNext, call_asked}
use Rattle.replay_run.specs.Tables.{Table, Opened, opened_at, with_arrival}
use Rattle.replay_run.specs.Tallies.{tallied}
use Rattle.replay_run.specs.Grids.{FormOf, AreFew, GridWorld, HasTable, IsConnection, IsCounting, IsTally, AreListening, Holds}
use Rattle.replay_run.specs.WorldCalls.{Onward, GivesUpSo, going_out, arrival_to, IsCalledSo, IsSkippedSo, HasAsked, HasCallRoom, HasRoomAt}
use Rattle.replay_run.specs.WaiterCalls.{IsBetween, HasServed, HasHandledCall, by_turns, by_call}
use Rattle.replay_run.proofs.Arriving.{arrives_now}
use Rattle.replay_run.proofs.Bounds.{asked_few}
use Rattle.replay_run.proofs.EventRuns.{asks_here, asks_nothing, served_run, served_kept}
use Rattle.replay_run.proofs.GivingOut.{HasGivenOut}
use Rattle.replay_run.proofs.GivingUp.{gives_up_first, gives_up_then}
use Rattle.replay_run.proofs.GridCalls.{HoldsApart, IsAfter, HasSaid, HasMade, call_ran, call_skipped}
use Rattle.replay_run.proofs.Growing.{asks_goes, served_goes}
use Rattle.replay_run.proofs.HistoryTexts.{uncome_unanswered}
use Rattle.replay_run.proofs.Lines.{asked_come}
use Rattle.replay_run.proofs.LineTexts.{new_with, told_more}
use Rattle.replay_run.proofs.RunFacts.{ArrivalsOk}
use Rattle.replay_run.proofs.RunsOfLines.{run_ok}
use Rattle.replay_run.proofs.Serving.{counting_by}
use Rattle.replay_run.proofs.SkipLaws.{both_go, both_among}
use Rattle.replay_run.proofs.TableCounts.{counting_called, counting_answers}
use Rattle.replay_run.proofs.TableRuns.{found_opened, unheard, came_arriving, came_waiting, arrived_table}
use Rattle.replay_run.proofs.Tallies.{HasTallied, arrived_tally}
use Rattle.replay_run.specs.LineTold.{all_told}
use Rattle.line_told.specs.declared.told.Told.{Told}

-- it is the only arrival that is new

one_new : (o : Object Request Partition) (skips : List CallId) (r : Run) (own : Option ℕ) (a : Arrival) → (asked o skips r own a).arrivals ≡ r.arrivals ++ a ∷ []
one_new o skips r own a = on_if (λ (x : Run). x.arrivals ≡ r.arrivals ++ a ∷ []) (is_skipped skips a.request.id) _ _ refl refl

its_arrivals : (o : Object Request Partition) (skips : List CallId) (r : Run) (own : Option ℕ) (a : Arrival) → new_arrivals r (asked o skips r own a) ≡ a ∷ []
its_arrivals o skips r own a = ap (drop (length r.arrivals)) (one_new o skips r own a) ∙ drop-append_seam r.arrivals (a ∷ [])

none_more_waits : (o : Object Request Partition) (skips : List CallId) (r : Run) (own : Option ℕ) (a : Arrival) → (asked o skips r own a).waiters ≡ r.waiters
none_more_waits o skips r own a = on_if (λ (x : Run). x.waiters ≡ r.waiters) (is_skipped skips a.request.id) _ _ refl refl

-- The call is the next of its connection, of whose messages those before it were handled.
module _ {V : Type 0} {T : V → Type 0} {form : FormOf V T} {settings : Settings} (grid : Grid V T) (r : Run) (run : IsRun (partition_object settings) r) (h : Holds form settings grid r) (request : Request) (next : IsNext r request) (count : IsCounting grid.connections r request.id.conn request.id.number) where
  slot : (o : Opened) × (opened_at grid.connections request.id.conn ≡ Some o) × IsConnection o next.connection
  slot = found_opened grid.connections r h.table request.id.conn next.connection (ap (connection_of r) next.on ∙ next.may.there)

  numbered : request.id ≡ record { conn = request.id.conn; number = length slot.0.calls }
  numbered = λ i. record { conn = request.id.conn; number = sym (count.here slot.0 slot.1) i }

  -- it hasn't come before
  pub comes_first : came_at r request.id ≡ None
  comes_first = unheard grid.connections r h.table request.id.conn slot.0 slot.1 request.id r.lines numbered

  unanswered : answer_of r request.id ≡ None
  unanswered = uncome_unanswered r run request.id comes_first

  -- The table has it as an arrival,
  pub arriving_table : (a : Arrival) → a.request.id ≡ request.id → a.line ≡ r.lines → HasTable (with_arrival grid.connections request.id.conn r.lines) (record r { arrivals = r.arrivals ++ a ∷ [] })
  arriving_table a named at_line =
      arrived_table grid.connections r h.table request.id.conn slot.0 slot.1 request.id r.lines numbered unanswered (record r { arrivals = r.arrivals ++ a ∷ [] }) refl refl
      (λ j. came_arriving r a r.events (ap (came_at r) named ∙ comes_first) j ∙ (λ i. option_or (came_at r j) (cond (is_same_call (named i) j) (Some (at_line i)) None)))

  -- or as one that waits.
  pub waiting_table : (w : Waiter) → w.request.id ≡ request.id → w.line ≡ r.lines → HasTable (with_arrival grid.connections request.id.conn r.lines) (waits r w)
  waiting_table w named at_line =
      arrived_table grid.connections r h.table request.id.conn slot.0 slot.1 request.id r.lines numbered unanswered (waits r w) refl refl
      (λ j. came_waiting r w j ∙ (λ i. option_or (came_at r j) (cond (is_same_call (named i) j) (Some (at_line i)) None)))

  -- One message more of its connection was handled.
  pub coming_count : IsCounting (with_arrival grid.connections request.id.conn r.lines) r request.id.conn (request.id.number + 1)
  coming_count = counting_called grid.connections r request.id.conn request.id.number r.lines count

-- but for its table and its tally the grid has what the run has
abbrev pub held_apart : {V : Type 0} {T : V → Type 0} {form : FormOf V T} {settings : Settings} (grid : Grid V T) (r : Run) → Holds form settings grid r → HoldsApart form settings grid r
held_apart grid r h = record {
  goes_by = h.goes_by;
  goes_on = h.goes_on;
  lines = h.lines;
  members = h.members;
  links = h.links;
  moments = h.moments;
  clocks = h.clocks;
  waiters = h.waiters;
  reopened = h.reopened;
  worlds = h.worlds;
}

-- A call that reached its world, which then gave out all that waited.

module _ {V : Type 0} {T : V → Type 0} {form : FormOf V T} {settings : Settings} (grid : Grid V T) (r : Run) (run : IsRun (partition_object settings) r) (h : Holds form settings grid r) (member : ℕ) (request : Request) (next : IsNext r request) (are : AreListening grid.listeners.items r (Some request.id.conn)) (count : IsCounting grid.connections r request.id.conn request.id.number)
    (low : request.partition < partitions) (new : Grid V T) (called world : GridWorld) (known : ℕ) (knew : known ≡ version_known (world_at (partition_object settings) r request.partition) member) (reception : Reception) (added earlier later : List Told)
    (after : IsAfter grid new r.lines request.partition (with_arrival grid.connections request.id.conn r.lines) world (going_out r (Some request.id.conn) (waiting called member)))
    (tally : new.tally ≡ tallied reception grid.tally)
    (out : HasGivenOut settings called world member)
    (wrote : HasSaid settings called r (Some request.id.conn) (arrival_at r member request) known earlier added later)
    (goes : is_full (world_at (partition_object settings) r request.partition) ≡ false) where
  abbrev o : Object Request Partition
  o = partition_object settings

  abbrev own : Option ℕ
  own = Some request.id.conn

  abbrev a : Arrival
  a = arrival_at r member request

  abbrev its_table : Table
  its_table = with_arrival grid.connections request.id.conn r.lines

  come_table : HasTable its_table (record r { arrivals = r.arrivals ++ a ∷ [] })
  come_table = arriving_table grid r run h request next count a refl refl

  count_now : (skips : List CallId) → IsCounting new.connections (asked o skips r own a) request.id.conn (request.id.number + 1)
  count_now skips =
      counting_by new.connections new.connections r (asked o skips r own a) request.id.conn (request.id.number + 1) (λ c. refl) (asked_come o skips r own a).connections
      (subst (λ t. IsCounting t r request.id.conn (request.id.number + 1)) (sym after.answered)
      (counting_answers r.lines (going_out r own (waiting called member)) its_table r request.id.conn (request.id.number + 1) (coming_count grid r run h request next count)))

  tally_now : (later : Run) → later.arrivals ≡ r.arrivals ++ a ∷ [] → later.waiters ≡ r.waiters → HasTallied reception grid.tally later → IsTally new.tally later
  tally_now later come waiting has = subst (λ t. IsTally t later) (sym tally) (arrived_tally grid.tally r later a reception h.tally come waiting has)

  made_asked : HasMade form settings new r own a earlier later → HasAsked form settings new r member request earlier later
  made_asked made = record {
    skips = made.skips;
    its_own = made.its_own;
    holds = made.holds;
    listeners = made.listeners;
    counting = count_now made.skips;
    added = made.added;
    goes = goes;
  }

  asked_ran : IsCalledSo settings (h.worlds request.partition low).world called (events_at request.partition r.events) a added reception → HasAsked form settings new r member request earlier later
  asked_ran did = made_asked (call_ran grid r (run_ok run) (held_apart grid r h) own a (arrives_now r member request next) are low its_table come_table new called world known knew reception added earlier later after out wrote tally_now h.tally.refused h.tally.memory did)

  asked_missed : IsSkippedSo settings (h.worlds request.partition low).world called (events_at request.partition r.events) a added reception → HasAsked form settings new r member request earlier later
  asked_missed did = made_asked (call_skipped grid r (run_ok run) (held_apart grid r h) own a (arrives_now r member request next) are low its_table come_table new called world known knew reception added earlier later after out wrote tally_now h.tally.refused h.tally.memory did)

-- as the code has it
pub asked_grid : {V : Type 0} {T : V → Type 0} {form : FormOf V T} {settings : Settings} (grid : Grid V T) (r : Run) → IsRun (partition_object settings) r → (h : Holds form settings grid r) (member : ℕ) (request : Request) → IsNext r request → AreListening grid.listeners.items r (Some request.id.conn) → IsCounting grid.connections r request.id.conn request.id.number → (low : request.partition < partitions)
    → (new : Grid V T) (old called world : GridWorld) (line now known : ℕ) → known ≡ version_known (world_at (partition_object settings) r request.partition) member → (reception : Reception) (added earlier later : List Told) → slice_get grid.worlds.items request.partition ≡ Some old → line ≡ r.lines → now ≡ moment_of r member
    → IsAfter grid new line request.partition (with_arrival grid.connections request.id.conn line) world (going_out r (Some request.id.conn) (waiting called member)) → new.tally ≡ tallied reception grid.tally → HasGivenOut settings called world member
    → IsCalledSo settings old called (events_at request.partition r.events) (arrival_to line member now request) added reception ⊎ IsSkippedSo settings old called (events_at request.partition r.events) (arrival_to line member now request) added reception
    → HasSaid settings called r (Some request.id.conn) (arrival_at r member request) known earlier added later → is_full (world_at (partition_object settings) r request.partition) ≡ false → HasAsked form settings new r member request earlier later
asked_grid {form = form} {settings = settings} grid r run h member request next are count low new old called world line now known knew reception added earlier later there at_line at_moment after tally out did wrote goes = ⊎_elim ran skipped did
  where
    same_world : old ≡ (h.worlds request.partition low).world
    same_world =
        let both : Some old ≡ Some (h.worlds request.partition low).world = sym there ∙ (h.worlds request.partition low).there in
        cc

    same_arrival : arrival_to line member now request ≡ arrival_at r member request
    same_arrival = λ i. arrival_to (at_line i) member (at_moment i) request

    after_it : IsAfter grid new r.lines request.partition (with_arrival grid.connections request.id.conn r.lines) world (going_out r (Some request.id.conn) (waiting called member))
    after_it = subst (λ l. IsAfter grid new l request.partition (with_arrival grid.connections request.id.conn l) world (going_out r (Some request.id.conn) (waiting called member))) at_line after

    ran : IsCalledSo settings old called (events_at request.partition r.events) (arrival_to line member now request) added reception → HasAsked form settings new r member request earlier later
    ran d =
        asked_ran grid r run h member request next are count low new called world known knew reception added earlier later after_it tally out wrote goes
        (subst (λ w. IsCalledSo settings w called (events_at request.partition r.events) (arrival_at r member request) added reception) same_world
        (subst (λ x. IsCalledSo settings old called (events_at request.partition r.events) x added reception) same_arrival d))

    skipped : IsSkippedSo settings old called (events_at request.partition r.events) (arrival_to line member now request) added reception → HasAsked form settings new r member request earlier later
    skipped d =
        asked_missed grid r run h member request next are count low new called world known knew reception added earlier later after_it tally out wrote goes
        (subst (λ w. IsSkippedSo settings w called (events_at request.partition r.events) (arrival_at r member request) added reception) same_world
        (subst (λ x. IsSkippedSo settings old called (events_at request.partition r.events) x added reception) same_arrival d))

-- where its tally is made otherwise
pub counted_as : {V : Type 0} {T : V → Type 0} {form : FormOf V T} {settings : Settings} {r : Run} {member : ℕ} {request : Request} {earlier later : List Told} (new : Grid V T) (tally other : Tally) → tally ≡ other
    → HasAsked form settings (record new { tally = other }) r member request earlier later → HasAsked form settings (record new { tally = tally }) r member request earlier later
counted_as {form = form} {settings = settings} {r = r} {member = member} {request = request} {earlier = earlier} {later = later} new tally other same =
    subst (λ t. HasAsked form settings (record new { tally = t }) r member request earlier later) (sym same)

-- The turns come after it.

module _ (settings : Settings) (r : Run) (member : ℕ) (request : Request) where
  abbrev object : Object Request Partition
  object = partition_object settings

  abbrev its_conn : Option ℕ
  its_conn = Some request.id.conn

  abbrev coming : Arrival
  coming = arrival_at r member request

  abbrev first : Onward
  first skips = asks (partition_object settings) skips r (Some request.id.conn) (arrival_at r member request)

  abbrev then : Run → Onward
  then x = by_turns settings x (Some request.id.conn) request.partition member

  -- It meets a full partition.
  pub admits_none : is_full (world_at (partition_object settings) r request.partition) ≡ true → GivesUpSo r (by_call settings r member request)
  admits_none full =
      gives_up_first r first then (asks_goes object r its_conn coming) (λ x. served_goes object x its_conn request.partition member)
      (record { skips = []; own = λ id c. absurd (in_contains id [] c); full = asks_nothing object [] r its_conn coming full })

  module _ {V : Type 0} {T : V → Type 0} {form : FormOf V T} (mid : Grid V T) (run : IsRun (partition_object settings) r) (next : IsNext r request) (earlier so_far : List Told) (did : HasAsked form settings mid r member request earlier so_far) where
    -- the run by then
    abbrev pub admitted : Run
    admitted = asked (partition_object settings) did.skips r (Some request.id.conn) (arrival_at r member request)

    admitted_is : first did.skips ≡ admitted
    admitted_is = asks_here object did.skips r its_conn coming did.goes

    of_first : AreAmong (new_arrivals r (first did.skips)) did.skips
    of_first =
        subst (λ (x : Run). AreAmong (new_arrivals r x) did.skips) (sym admitted_is)
        (λ id c. (coming, subst (λ xs. Contains xs coming) (sym (its_arrivals object did.skips r its_conn coming)) (contains_in coming (coming ∷ []) (inl refl)), did.its_own id c))

    pub admitted_run : IsRun (partition_object settings) admitted
    admitted_run = call_asked did.skips r its_conn member request run next

    pub admitted_between : IsBetween form settings mid admitted (Some request.id.conn)
    admitted_between = record { run = admitted_run; holds = did.holds; listeners = did.listeners }

    pub admitted_reached : member < r.members → member < mid.members
    admitted_reached reached = subst (λ n. member < n) (sym (did.holds.members ∙ (asked_come object did.skips r its_conn coming).members)) reached

    -- there is room for the calls of all who wait
    pub admitted_room : HasCallRoom r → AreFew r → HasRoomAt admitted request.partition 0
    admitted_room room few =
        let its = asked_few object did.skips r its_conn coming few request.partition in
        let come = ap length (one_new object did.skips r its_conn coming) ∙ length-append r.arrivals (coming ∷ []) in
        let waiters = ap length (none_more_waits object did.skips r its_conn coming) in
        let lines = (asked_come object did.skips r its_conn coming).lines in
        omega (arith, its, come, waiters, lines, room)

    -- A turn meets a full partition.
    pub turns_none : GivesUpSo admitted (by_turns settings admitted (Some request.id.conn) request.partition member) → GivesUpSo r (by_call settings r member request)
    turns_none up =
        gives_up_then r first then (asks_goes object r its_conn coming) (λ x. served_goes object x its_conn request.partition member) did.skips of_first
        (subst (λ (x : Run). GivesUpSo x (then x)) (sym admitted_is) up)
        (λ t. served_run t (first did.skips) its_conn request.partition member (subst (IsRun object) (sym admitted_is) admitted_run))

    -- All had their turns.
    module _ (new : Grid V T) (later : List Told) (turns : HasServed form settings mid new admitted (Some request.id.conn) (by_turns settings admitted (Some request.id.conn) request.partition member) so_far later) where
      abbrev last : Run
      last = served object turns.skips admitted its_conn request.partition member

      abbrev both : List CallId
      both = did.skips ++ turns.skips

      last_is : then (first did.skips) turns.skips ≡ last
      last_is = ap (λ (x : Run). then x turns.skips) admitted_is

      once : ArrivalsOk (then (first did.skips) turns.skips)
      once = subst ArrivalsOk (sym last_is) (run_ok turns.between.run).of_arrivals

      of_then : AreAmong (new_arrivals (first did.skips) (then (first did.skips) turns.skips)) turns.skips
      of_then = subst (λ (x : Run). AreAmong (new_arrivals x (then x turns.skips)) turns.skips) (sym admitted_is) turns.among

      same : by_call settings r member request both ≡ last
      same = both_go r first then (asks_goes object r its_conn coming) (λ x. served_goes object x its_conn request.partition member) did.skips turns.skips once of_first of_then ∙ last_is

      its_told : later ≡ earlier ++ all_told (new_messages r last)
      its_told =
          let more = ((served_goes object admitted its_conn request.partition member).grows turns.skips).appended in
          let before = ((asks_goes object r its_conn coming).grows did.skips).appended in
          turns.added
          ∙ (λ i. did.added i ++ all_told (new_with admitted last more.0 (sym more.1) i))
          ∙ append_assoc earlier (all_told (new_messages r admitted)) (all_told more.0)
          ∙ ap (λ xs. earlier ++ xs) (sym (told_more r admitted last more.0 (subst (λ (x : Run). IsFrontOf r.appended x.appended) admitted_is before) (sym more.1)))

      pub handled_call : HasHandledCall form settings new r request.id.conn (request.id.number + 1) (by_call settings r member request) earlier later
      handled_call = record {
        skips = both;
        among = both_among r first then (asks_goes object r its_conn coming) (λ x. served_goes object x its_conn request.partition member) did.skips turns.skips once of_first of_then;
        between = subst (λ (x : Run). IsBetween form settings new x its_conn) (sym same) turns.between;
        counting = subst (λ (x : Run). IsCounting new.connections x request.id.conn (request.id.number + 1)) (sym same)
            (counting_by mid.connections new.connections admitted last request.id.conn (request.id.number + 1) turns.counts (served_kept object turns.skips admitted its_conn request.partition member).connections did.counting);
        added = its_told ∙ ap (λ (x : Run). earlier ++ all_told (new_messages r x)) (sym same);
      }
