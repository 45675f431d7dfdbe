-- A line of a script leaves the events of its run proper.
use Rattle.std.proofs.Common.{◌≡◌, ℕ, zero, suc, ◌+◌, ◌<◌, ◌≤◌, List, [], ◌∷◌, ◌++◌, length, Option, Some, None, refl, ap, ◌∙◌, subst, ⊎_elim, inl, inr, append-nil, arith}
use Rattle.std.specs.Prelude.{ℤ, pos, slice_get, option_and_then, Contains}
use Rattle.grid_base.specs.Errors.{want_of_memory}
use Rattle.grid_base.specs.Limits.{CallFits}
use Rattle.grid_base.specs.Objects.{Object}
use Rattle.grid_base.specs.declared.calls.GridCall.{GridCall}
use Rattle.grid_base.specs.declared.calls.GridCall.TheVariants as call
use Rattle.grid_base.specs.declared.calls.Request.{Request}
use Rattle.grid_base.specs.declared.names.CallId.{CallId}
use Rattle.message_frames.specs.declared.message.Message.{Message}
use Rattle.rebalance.specs.declared.Step.{Step}
use Rattle.object_store.specs.Partitions.{Partition}
use Rattle.partition_protocol.specs.Service.{numbers_below}
use Rattle.partition_protocol.specs.Events.{Event, Call, Deliver, Lose, Repeat, Resend, BeginMove, BeginJoin, BeginHandover, Advance, Reopen}
use Rattle.partition_protocol.specs.Events as event
use Rattle.partition_protocol.specs.Arrivals.{asked_by}
use Rattle.partition_protocol.proofs.Lists.{In, in_cases, in_contains, contains_in, on_if}
use Rattle.session_core.specs.Laws.{request_in, IsCallAt}
use Rattle.session_core.specs.Places.{SaysWhere}
use Rattle.session_core.specs.declared.item.Item.{Item}
use Rattle.session_core.specs.declared.item.Item.TheVariants.{Call as Asks, Wait, Register, Reply}
use Rattle.session_core.proofs.CallsAt.{call_at}
use Rattle.session_core.proofs.CallsRead.{asked_read}
use Rattle.script_lang.specs.Lines.{IsWithin}
use Rattle.script_lang.specs.declared.line.Line.{Line}
use Rattle.script_lang.specs.declared.line.Line.TheVariants as lines
use Rattle.replay_run.specs.Rebalancing.{stepped, stepped_all, steps_in}
use Rattle.replay_run.specs.Runs.{Run, At, Connection, Arrival, Waiter, Appended, world_at, connection_of, messages_on, items_on, items_by, events_at, with_bytes, took_bytes, takes_bytes, opened, next_line, clock_set, can_open, told, registers, refusal, arrival_at, call_of, arrived, is_skipped, given_up, asked, asks, is_full, happening, waiter_at, waits, without, ending, served, forsaken, takes, takes_in, flowed, flowed_in, delivery_on, calls, begins_to_wait, handled_all, bytes_arrived, partitions}
use Rattle.replay_run.specs.AfterLines.{after_line}
use Rattle.replay_run.proofs.Turns.{KeepsTurns, IsMade, by_endings, served_keeps, takes_keeps, forsaken_keeps}
use Rattle.replay_run.proofs.EventRuns.{is_other, served_in_keeps, flowed_keeps}
use Rattle.replay_run.proofs.Items.{AreNumbered, items_room, calls_fit, waits_fit}
use Rattle.replay_run.proofs.Parts.{in_drop, in_filtered}
use Rattle.replay_run.proofs.Planning.{steps_are_rising}
use Rattle.replay_run.proofs.Rebalanced.{AreRising, step_keeps}
use Rattle.near_run_laws.specs.Modest.{HasKey, IsFitting, BringsFitting, AreProper, StaysProper, EveryLineStaysProper}
use Rattle.near_run_laws.proofs.Following.{events_more}
use Rattle.near_run_laws.proofs.Spoken.{below}

-- ---- calls that were heard

in_at : {X : Type 0} (xs : List X) (x : X) → In x xs → (place : ℕ) × (slice_get xs place ≡ Some x)
in_at [] x i = absurd i
in_at (y ∷ ys) x (inl e) = (zero, ap Some e)
in_at (y ∷ ys) x (inr i) = let at = in_at ys x i in (suc at.0, at.1)

has_key : (stated : ℤ) (c : GridCall) → SaysWhere stated c → HasKey c
has_key stated (call.Map c) says = says
has_key stated (call.Queue c) says = tt

key_heard : (conn member : ℕ) (messages : List Message) (place : ℕ) (request : Request) → IsCallAt conn member messages place request → HasKey request.call
key_heard conn member messages place request e =
    let at = call_at conn member messages place request e in
    let read = asked_read at.client at.message at.is.call at.is.read in
    subst (λ (r : Request). HasKey r.call) at.is.request_is (has_key _ at.is.call read.where_is)

-- the calls among the items that bytes bring, waiting or not

abbrev AreFitting : List Item → Type 0
AreFitting items = (item : Item) (request : Request) → request_in item ≡ Some request → In item items → IsFitting request

keys_heard : (k : Connection) (bytes : List ℕ) (item : Item) (request : Request) → request_in item ≡ Some request → In item (items_by k bytes) → HasKey request.call
keys_heard k bytes item request its i =
    let new : Connection = with_bytes k bytes in
    let at = in_at (items_on new) item (in_drop (length (items_on k)) (items_on new) item i) in
    key_heard k.conn k.member (messages_on new) at.0 request (ap (option_and_then request_in) at.1 ∙ its)

fits_heard : (k : Connection) (bytes : List ℕ) (item : Item) (request : Request) → request_in item ≡ Some request → In item (items_by k bytes) → CallFits request.call
fits_heard k bytes (Asks asked) request its i = let same : asked ≡ request = cc in subst (λ (q : Request). CallFits q.call) same (calls_fit k bytes asked i)
fits_heard k bytes (Wait asked timeout) request its i = let same : asked ≡ request = cc in subst (λ (q : Request). CallFits q.call) same (waits_fit k bytes asked timeout i)
fits_heard k bytes (Register registration) request its i = absurd cc
fits_heard k bytes (Reply answer) request its i = absurd cc

-- ---- events that bring no calls

brings_none : (e : Event Request) → asked_by e ≡ [] → BringsFitting e
brings_none (Call k conn number request now) none = absurd cc
brings_none (Deliver f t k) none = tt
brings_none (Lose f t k) none = tt
brings_none (Repeat f t k) none = tt
brings_none (Resend k) none = tt
brings_none (event.Crash k) none = tt
brings_none (event.Detect k) none = tt
brings_none (BeginMove f t) none = tt
brings_none (BeginJoin t) none = tt
brings_none (BeginHandover f t) none = tt
brings_none Advance none = tt
brings_none Reopen none = tt

module _ (o : Object Request Partition) where
  one_more : (r : Run) (p : ℕ) (e : Event Request) → p < partitions → BringsFitting e → AreProper r → (q : ℕ) (d : Event Request) → Contains (events_at q (r.events ++ record { partition = p; event = e } ∷ [])) d → (q < partitions) × BringsFitting d
  one_more r p e within brings h q d i = ⊎_elim (λ j. h q d (contains_in d (events_at q r.events) j)) (λ s. (subst (λ n. n < partitions) s.0 within, subst BringsFitting s.1 brings))
      (events_more p q e r.events d (in_contains d (events_at q (r.events ++ record { partition = p; event = e } ∷ [])) i))

  -- ---- calls that wait

  pub counted_proper : (r : Run) → StaysProper r → StaysProper (next_line r)
  counted_proper r h = record { events = h.events; waiters = h.waiters }

  pub stays : (r : Run) → StaysProper r → StaysProper (given_up r)
  stays r h = record { events = h.events; waiters = h.waiters }

  unmade_proper : (r : Run) (events : List At) → events ≡ [] → AreProper r → (q : ℕ) (d : Event Request) → Contains (events_at q (r.events ++ events)) d → (q < partitions) × BringsFitting d
  unmade_proper r events none h q d i = h q d (subst (λ es. Contains (events_at q es) d) (ap (λ es. r.events ++ es) none ∙ append-nil r.events) i)

  ended_proper : (r : Run) (w : Waiter) (events : List At) (appended : List Appended) → In w r.waiters → IsMade (ending r w) events → StaysProper r → StaysProper (arrived (without r w) (ending r w) events appended)
  ended_proper r w events appended i made h = record {
    events = by made;
    waiters = λ v c. h.waiters v (contains_in v r.waiters (in_filtered (is_other w) r.waiters v (in_contains v (without r w).waiters c)).0);
  }
    where
      its : (w.request.partition < partitions) × IsFitting w.request
      its = h.waiters w (contains_in w r.waiters i)

      by : IsMade (ending r w) events → (q : ℕ) (d : Event Request) → Contains (events_at q (r.events ++ events)) d → (q < partitions) × BringsFitting d
      by (inl none) = unmade_proper r events none h.events
      by (inr one) = λ q d j. one_more r w.request.partition (call_of (ending r w)) its.0 its.1 h.events q d (subst (λ es. Contains (events_at q (r.events ++ es)) d) one j)

  turns : (skips : List CallId) (p : ℕ) → KeepsTurns o skips p StaysProper
  turns skips p = by_endings o skips p StaysProper stays (λ r w events appended i made here h. ended_proper r w events appended i made h)

  module _ (skips : List CallId) where
    served_proper : (r : Run) (own : Option ℕ) (p member : ℕ) → StaysProper r → StaysProper (served o skips r own p member)
    served_proper r own p member h = served_keeps o skips p StaysProper (turns skips p) r own member h

    pub takes_proper : (p : ℕ) → p < partitions → (r : Run) (e : Event Request) → asked_by e ≡ [] → StaysProper r → StaysProper (takes o skips r p e)
    takes_proper p within r e none h = takes_keeps o skips p StaysProper (turns skips p) r e h (record { events = one_more r p e within (brings_none e none) h.events; waiters = h.waiters })

    takes_in_proper : (e : Event Request) → asked_by e ≡ [] → (ps : List ℕ) → ((p : ℕ) → In p ps → p < partitions) → (r : Run) → StaysProper r → StaysProper (takes_in o skips r e ps)
    takes_in_proper e none [] within r h = h
    takes_in_proper e none (p ∷ ps) within r h = takes_in_proper e none ps (λ q i. within q (inr i)) (takes o skips r p e) (takes_proper p (within p (inl refl)) r e none h)

    flowed_proper : (p : ℕ) → p < partitions → (r : Run) (most : ℕ) → StaysProper r → StaysProper (flowed o skips r p most)
    flowed_proper p within r most h = flowed_keeps o skips StaysProper p (λ x l k. takes_proper p within x (delivery_on l) refl k) r most h

    flowed_in_proper : (most : ℕ) (ps : List ℕ) → ((p : ℕ) → In p ps → p < partitions) → (r : Run) → StaysProper r → StaysProper (flowed_in o skips r most ps)
    flowed_in_proper most [] within r h = h
    flowed_in_proper most (p ∷ ps) within r h = flowed_in_proper most ps (λ q i. within q (inr i)) (flowed o skips r p most) (flowed_proper p (within p (inl refl)) r most h)

    steps_proper : (next : ℕ) (steps : List Step) (r : Run) → AreRising partitions next steps → StaysProper r → StaysProper (stepped_all o skips r steps)
    steps_proper next [] r rising h = h
    steps_proper next (step ∷ steps) r rising h =
        steps_proper (step.partition + 1) steps (stepped o skips r step) rising.2 (step_keeps o skips StaysProper step (λ x e of_step k. takes_proper step.partition rising.1 x e of_step.asks k) r h)

    -- ---- calls

    asked_proper : (r : Run) (own : Option ℕ) (a : Arrival) → a.request.partition < partitions → IsFitting a.request → StaysProper r → StaysProper (asked o skips r own a)
    asked_proper r own a within fits h =
        on_if StaysProper (is_skipped skips a.request.id) (arrived r a [] (refusal a.made a.request (pos want_of_memory) 0 ∷ [])) (arrived r a (record { partition = a.request.partition; event = call_of a } ∷ []) (happening o r own a))
        (record { events = unmade_proper r [] refl h.events; waiters = h.waiters }) (record { events = one_more r a.request.partition (call_of a) within fits h.events; waiters = h.waiters })

    calls_proper : (r : Run) (member : ℕ) (request : Request) → request.partition < partitions → IsFitting request → StaysProper r → StaysProper (calls o skips r member request)
    calls_proper r member request within fits h =
        let own = Some request.id.conn in
        let a = arrival_at r member request in
        served_proper (asks o skips r own a) own request.partition member
        (on_if StaysProper (is_full (world_at o r request.partition)) (given_up (arrived r a [] [])) (asked o skips r own a)
        (record { events = unmade_proper r [] refl h.events; waiters = h.waiters }) (asked_proper r own a within fits h))

    waits_proper : (r : Run) (w : Waiter) → w.request.partition < partitions → IsFitting w.request → StaysProper r → StaysProper (waits r w)
    waits_proper r w within fits h = record {
      events = h.events;
      waiters = λ v c. ⊎_elim (λ i. h.waiters v (contains_in v r.waiters i)) (λ i. last v i) (in_cases v r.waiters (w ∷ []) (in_contains v (r.waiters ++ w ∷ []) c));
    }
      where
        last : (v : Waiter) → In v (w ∷ []) → (v.request.partition < partitions) × IsFitting v.request
        last v (inl e) = subst (λ (x : Waiter). (x.request.partition < partitions) × IsFitting x.request) e (within, fits)
        last v (inr i) = absurd i

    begins_proper : (r : Run) (member : ℕ) (request : Request) (timeout : ℤ) → request.partition < partitions → IsFitting request → StaysProper r → StaysProper (begins_to_wait o skips r member request timeout)
    begins_proper r member request timeout within fits h =
        let w = waiter_at r member request timeout in
        served_proper (waits r w) (Some request.id.conn) request.partition member (waits_proper r w within fits h)

    handled_proper : (k : Connection) (items : List Item) (n : ℕ) (r : Run) → AreNumbered k.conn n items → AreFitting items → StaysProper r → StaysProper (handled_all o skips r k items)
    handled_proper k [] n r numbered fit h = h
    handled_proper k (Reply bytes ∷ items) n r numbered fit h = handled_proper k items (n + 1) (told r k.conn bytes) numbered.1 (λ item q e i. fit item q e (inr i)) (record { events = h.events; waiters = h.waiters })
    handled_proper k (Register registration ∷ items) n r numbered fit h = handled_proper k items (n + 1) (registers o r k.conn k.member registration) numbered.1 (λ item q e i. fit item q e (inr i)) (record { events = h.events; waiters = h.waiters })
    handled_proper k (Wait request timeout ∷ items) n r numbered fit h =
        handled_proper k items (n + 1) (begins_to_wait o skips r k.member request timeout) numbered.1 (λ item q e i. fit item q e (inr i))
        (begins_proper r k.member request timeout numbered.0.1.within (fit (Wait request timeout) request refl (inl refl)) h)
    handled_proper k (Asks request ∷ items) n r numbered fit h =
        handled_proper k items (n + 1) (calls o skips r k.member request) numbered.1 (λ item q e i. fit item q e (inr i))
        (calls_proper r k.member request numbered.0.1.within (fit (Asks request) request refl (inl refl)) h)

    bytes_proper : (r : Run) (k : Connection) (bytes : List ℕ) → StaysProper r → StaysProper (bytes_arrived o skips r k bytes)
    bytes_proper r k bytes h =
        let taken = took_bytes r k bytes in
        let all = handled_all o skips taken k (items_by k bytes) in
        on_if StaysProper (takes_bytes o r k) (forsaken all k.conn) (next_line r)
        (forsaken_keeps StaysProper (λ x w i u. ended_proper x w [] [] i (inl refl) u) k.conn all
        (handled_proper k (items_by k bytes) (length (messages_on k)) taken (items_room k bytes).0 (λ item q e i. (fits_heard k bytes item q e i, keys_heard k bytes item q e i)) (record { events = h.events; waiters = h.waiters })))
        (counted_proper r h)

    arrives_proper : (r : Run) (bytes : List ℕ) (found : Option Connection) → StaysProper r → StaysProper (elim found [ None ↦ next_line r | Some k ↦ bytes_arrived o skips r k bytes ])
    arrives_proper r bytes None h = counted_proper r h
    arrives_proper r bytes (Some k) h = bytes_proper r k bytes h

    -- ---- lines

    event_proper : (r : Run) (p : ℕ) (e : Event Request) → p ≤ 270 → asked_by e ≡ [] → StaysProper r → StaysProper (takes o skips (next_line r) p e)
    event_proper r p e within none h = takes_proper p (omega (arith, within)) (next_line r) e none (counted_proper r h)

    pub line_proper : (r : Run) (members size : ℕ) (line : Line) → IsWithin members size line → StaysProper r → StaysProper (after_line o skips r line)
    line_proper r members size (lines.OpenConn c member) within h = on_if StaysProper (can_open o r c member) (opened r c member) (next_line r) (record { events = h.events; waiters = h.waiters }) (counted_proper r h)
    line_proper r members size (lines.Arrive c bytes) within h = arrives_proper r bytes (connection_of r c) h
    line_proper r members size (lines.Clock member moment) within h = served_in_keeps o skips StaysProper member (λ x p u. served_proper x None p member u) (clock_set r member moment) (numbers_below partitions) (record { events = h.events; waiters = h.waiters })
    line_proper r members size (lines.Flow p most) within h = flowed_proper p (let l = within.0 in omega (arith, l)) (next_line r) most (counted_proper r h)
    line_proper r members size (lines.FlowAll most) within h = flowed_in_proper most (numbers_below partitions) (below partitions) (next_line r) (counted_proper r h)
    line_proper r members size (lines.Crash member) within h = takes_in_proper (event.Crash member) refl (numbers_below partitions) (below partitions) (next_line r) (counted_proper r h)
    line_proper r members size (lines.Detect member) within h = takes_in_proper (event.Detect member) refl (numbers_below partitions) (below partitions) (next_line r) (counted_proper r h)
    line_proper r members size (lines.Rebalance most) within h = steps_proper 0 (steps_in o (next_line r) most) (next_line r) (steps_are_rising o (next_line r) most) (counted_proper r h)
    line_proper r members size (lines.Deliver p from to place) within h = event_proper r p (Deliver from to place) within.0 refl h
    line_proper r members size (lines.Lose p from to place) within h = event_proper r p (Lose from to place) within.0 refl h
    line_proper r members size (lines.Repeat p from to place) within h = event_proper r p (Repeat from to place) within.0 refl h
    line_proper r members size (lines.Resend p end) within h = event_proper r p (Resend end) within.0 refl h
    line_proper r members size (lines.Move p from to) within h = event_proper r p (BeginMove from to) within.0 refl h
    line_proper r members size (lines.Join p to) within h = event_proper r p (BeginJoin to) within.0 refl h
    line_proper r members size (lines.Handover p from to) within h = event_proper r p (BeginHandover from to) within.0 refl h
    line_proper r members size (lines.Advance p) within h = event_proper r p Advance within refl h
    line_proper r members size (lines.Reopen p) within h = event_proper r p Reopen within refl h
    line_proper r members size line within h = counted_proper r h

pub every_line_stays_proper : EveryLineStaysProper
every_line_stays_proper o skips r members size line within h = line_proper o skips r members size line within h
