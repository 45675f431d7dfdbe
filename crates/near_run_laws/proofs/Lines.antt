-- A line that isn't a near client's is followed by its machine.
use Rattle.std.proofs.Common.{◌≡◌, ◌≢◌, ℕ, ◌+◌, Bool, true, false, cond, not, ◌&&◌, ◌==◌, List, [], ◌∷◌, ◌++◌, map, filter, length, Option, Some, None, refl, ap, sym, ◌∙◌, subst, ⊎_elim, inl, inr, append-nil}
use Rattle.std.specs.Prelude.{ℤ, pos, is_some}
use Rattle.std.specs.List.{find}
use Rattle.std.proofs.lemmas.List.Elements.{filter-append}
use Rattle.grid_base.specs.Objects.{Object}
use Rattle.grid_base.specs.Errors.{want_of_memory, partition_lost, wrong_target, migrating}
use Rattle.grid_base.specs.declared.calls.Request.{Request}
use Rattle.grid_base.specs.declared.names.CallId.{CallId}
use Rattle.object_store.specs.Partitions.{Partition}
use Rattle.call_engine.specs.Calls.{Settings}
use Rattle.call_engine.specs.Objects.{partition_object}
use Rattle.partition_protocol.specs.Service.{numbers_below}
use Rattle.partition_protocol.specs.Execution.{Reached, Executes, PartitionLost, WrongTarget, Migrating}
use Rattle.partition_protocol.specs.Events.{Event}
use Rattle.partition_protocol.specs.Events as event
use Rattle.partition_protocol.specs.Arrivals.{asked_by}
use Rattle.partition_protocol.proofs.Lists.{In, in_cases, in_contains, contains_in, on_if}
use Rattle.partition_protocol.proofs.RowFacts.{same_number, number_other}
use Rattle.event_codecs.specs.declared.registration.Registration.{Registration}
use Rattle.listeners.specs.Standing.{is_about_rows}
use Rattle.listeners.specs.Telling.{row_event, rows_of}
use Rattle.listeners.specs.declared.listener.Listener.{Listener}
use Rattle.session_core.specs.declared.item.Item.{Item}
use Rattle.session_core.specs.declared.item.Item.TheVariants.{Call as Asks, Wait, Register, Reply}
use Rattle.script_lang.specs.declared.line.Line.{Line}
use Rattle.script_lang.specs.declared.line.Line.TheVariants.{OpenConn, Arrive, Clock, Flow, FlowAll, Crash, Detect, Rebalance, Deliver, Lose, Repeat, Resend, Move, Join, Handover, Advance, Reopen}
use Rattle.near_protocol.specs.Client.{Said}
use Rattle.near_protocol.specs.Near.{Occurs, occurred as machine_occurred, is_call_on}
use Rattle.near_protocol.proofs.Hear.{find_in}
use Rattle.replay_run.specs.ScriptRuns.{home}
use Rattle.replay_run.specs.Runs.{Run, Connection, Arrival, Waiter, Appended, At, world_at, is_connection, connection_of, is_full, updated, with_bytes, took_bytes, takes_bytes, lives, opened, next_line, clock_set, told, listener_registered, registered_reply, rows_known, registers, events_to, refusal, refused_at, arrival_at, call_of, arrived, is_skipped, given_up, asked, asks, happening, waiter_at, waits, without, ending, leaves, served, forsaken, occurred, takes, delivery_on, own_answer, event_by, calls, begins_to_wait, handled_all, items_by, bytes_arrived, partitions, messages_on}
use Rattle.replay_run.specs.AfterLines.{after_event, after_line}
use Rattle.replay_run.proofs.Turns.{KeepsTurns, served_keeps, takes_keeps, forsaken_keeps}
use Rattle.replay_run.proofs.EventRuns.{is_other, served_in_keeps, takes_in_keeps, flowed_keeps, flowed_in_keeps}
use Rattle.replay_run.proofs.Parts.{in_filtered}
use Rattle.replay_run.proofs.Rebalanced.{rebalance_keeps}
use Rattle.replay_run.proofs.Items.{AreNumbered, items_room}
use Rattle.near_run_laws.specs.Maps.{keyed}
use Rattle.near_run_laws.specs.Messages.{sent_to}
use Rattle.near_run_laws.specs.NearConnections.{is_of}
use Rattle.near_run_laws.specs.Following.{Machine, step, IsAside}
use Rattle.near_run_laws.specs.NearRuns.{IsNearRun, went_aside, event_happened, call_arrived}
use Rattle.near_run_laws.specs.Lines.{IsOthers, WaitElsewhere, GoesOn, EveryOtherLineIsFollowed}
use Rattle.near_run_laws.proofs.Sent.{sent_to-append, sent_to-told, events_for}

-- ---- connections

not_last : {X : Type 0} (p : X → Bool) (xs : List X) (y : X) → p y ≡ false → find p (xs ++ y ∷ []) ≡ find p xs
not_last p [] y e = ap (λ b. cond b (Some y) None) e
not_last {X} p (x ∷ xs) y e = go (p x) (not_last p xs y e)
  where
    go : (b : Bool) → find p (xs ++ y ∷ []) ≡ find p xs → cond b (Some x) (find p (xs ++ y ∷ [])) ≡ cond b (Some x) (find p xs)
    go true ih = refl
    go false ih = ih

not_updated : (c : ℕ) (new : Connection) (ks : List Connection) → new.conn ≢ c → find (is_connection c) (updated new ks) ≡ find (is_connection c) ks
not_updated c new [] apart = refl
not_updated c new (k ∷ ks) apart = go (k.conn == new.conn) refl (not_updated c new ks apart)
  where
    other : (new.conn == c) ≡ false
    other = number_other new.conn c apart

    go : (b : Bool) → (k.conn == new.conn) ≡ b → find (is_connection c) (updated new ks) ≡ find (is_connection c) ks
        → cond ((cond b new k).conn == c) (Some (cond b new k)) (find (is_connection c) (updated new ks)) ≡ cond (k.conn == c) (Some k) (find (is_connection c) ks)
    go true t ih =
        let same : (k.conn == c) ≡ false = ap (λ n. n == c) (same_number k.conn new.conn t) ∙ other in
        ap (λ b. cond b (Some new) (find (is_connection c) (updated new ks))) other ∙ ih ∙ sym (ap (λ b. cond b (Some k) (find (is_connection c) ks)) same)
    go false t ih = ap (λ x. cond (k.conn == c) (Some k) x) ih

-- an event that is a line is no call

abbrev quiet_at : Option At → Type 0
quiet_at None = Unit {0}
quiet_at (Some e) = asked_by e.event ≡ []

quiet_line : (line : Line) → quiet_at (event_by line)
quiet_line (Deliver partition from to place) = refl
quiet_line (Lose partition from to place) = refl
quiet_line (Repeat partition from to place) = refl
quiet_line (Resend partition end) = refl
quiet_line (Move partition from to) = refl
quiet_line (Join partition to) = refl
quiet_line (Handover partition from to) = refl
quiet_line (Advance partition) = refl
quiet_line (Reopen partition) = refl
quiet_line line = tt

-- ---- what the machine doesn't see

nothing_to : (c : ℕ) (xs new : List Appended) → sent_to c new ≡ [] → sent_to c (xs ++ new) ≡ sent_to c xs
nothing_to c xs new none = sent_to-append c xs new ∙ ap (λ ys. sent_to c xs ++ ys) none ∙ append-nil (sent_to c xs)

another : (c : ℕ) (m : Appended) → m.conn ≢ c → sent_to c (m ∷ []) ≡ []
another c m apart = ap (λ b. map (λ (x : Appended). x.bytes) (cond b (m ∷ []) [])) (number_other m.conn c apart)

module _ (settings : Settings) (client : ℕ) (name : List ℕ) (s : Machine) (earlier : List (List ℕ)) (heard : List (Said (List ℕ))) where
  abbrev o : Object Request Partition
  o = partition_object settings

  abbrev Goes : Run → Type 0
  Goes r = GoesOn settings client name s earlier heard r

  -- something that the machine doesn't see, after which whoever waits is still elsewhere
  aside : (r next : Run) → Goes r → IsAside s.conn r next → WaitElsewhere s.conn next → Goes next
  aside r next g a elsewhere = record {
    machine = g.machine;
    run = went_aside r next g.machine earlier heard g.run (subst (λ n. IsAside n r next) (sym g.conn) a);
    conn = g.conn;
    idle = g.idle;
    number = g.number;
    elsewhere = elsewhere;
  }

  pub counted : (r : Run) → Goes r → Goes (next_line r)
  counted r g = aside r (next_line r) g (record { members = refl; backups = refl; events = refl; connection = λ k e still. (k, e, refl, still); registered = refl; sent = refl }) g.elsewhere

  pub given : (r : Run) → Goes r → Goes (given_up r)
  given r g = aside r (given_up r) g (record { members = refl; backups = refl; events = refl; connection = λ k e still. (k, e, refl, still); registered = refl; sent = refl }) g.elsewhere

  -- a step of the machine's grid
  stepped : (r next : Run) (g : Goes r) (p : ℕ) (e : Event Request) → IsNearRun settings client name next (step settings client name g.machine (Occurs p e)) earlier heard → WaitElsewhere s.conn next → Goes next
  stepped r next g p e run elsewhere = by (is_call_on g.machine.conn e) refl
    where
      by : (b : Bool) → is_call_on g.machine.conn e ≡ b → Goes next
      by true t = record {
        machine = g.machine;
        run = subst (λ z. IsNearRun settings client name next z earlier heard) (ap (λ b. cond b g.machine (machine_occurred (partition_object settings) (keyed settings g.machine.conn name client) g.machine p e)) t) run;
        conn = g.conn;
        idle = g.idle;
        number = g.number;
        elsewhere = elsewhere;
      }
      by false t = record {
        machine = machine_occurred (partition_object settings) (keyed settings g.machine.conn name client) g.machine p e;
        run = subst (λ z. IsNearRun settings client name next z earlier heard) (ap (λ b. cond b g.machine (machine_occurred (partition_object settings) (keyed settings g.machine.conn name client) g.machine p e)) t) run;
        conn = g.conn;
        idle = g.idle;
        number = g.number;
        elsewhere = elsewhere;
      }

  -- ---- a call of another connection

  -- a call that makes no event
  unmade : (r : Run) (a : Arrival) (new : List Appended) → sent_to s.conn new ≡ [] → Goes r → Goes (arrived r a [] new)
  unmade r a new none g =
      aside r (arrived r a [] new) g (record { members = refl; backups = refl; events = append-nil r.events; connection = λ k e still. (k, e, refl, still); registered = refl; sent = nothing_to s.conn r.appended new none }) g.elsewhere

  module _ (skips : List CallId) where
    asked_on : (r : Run) (own : Option ℕ) (a : Arrival) → a.request.id.conn ≢ s.conn → home a.request ≡ a.request.partition → Goes r → Goes (asked o skips r own a)
    asked_on r own a apart placed g = by (is_skipped skips a.request.id) refl
      where
        in_vain : List Appended
        in_vain = refusal a.made a.request (pos want_of_memory) 0 ∷ []

        made : Run
        made = arrived r a (record { partition = a.request.partition; event = call_of a } ∷ []) (happening o r own a)

        by : (b : Bool) → is_skipped skips a.request.id ≡ b → Goes (asked o skips r own a)
        by true t = subst Goes (sym (ap (λ b. cond b (arrived r a [] in_vain) made) t)) (unmade r a in_vain (another s.conn (refusal a.made a.request (pos want_of_memory) 0) apart) g)
        by false t = stepped r (asked o skips r own a) g a.request.partition (call_of a)
            (call_arrived r g.machine earlier heard own a skips g.run (λ e. apart (e ∙ g.conn)) (placed, λ e. absurd (apart (e ∙ g.conn))) t)
            (on_if (WaitElsewhere s.conn) (is_skipped skips a.request.id) (arrived r a [] in_vain) made g.elsewhere g.elsewhere)

    asks_on : (r : Run) (own : Option ℕ) (a : Arrival) → a.request.id.conn ≢ s.conn → home a.request ≡ a.request.partition → Goes r → Goes (asks o skips r own a)
    asks_on r own a apart placed g = on_if Goes (is_full (world_at o r a.request.partition)) (given_up (arrived r a [] [])) (asked o skips r own a) (given (arrived r a [] []) (unmade r a [] refl g)) (asked_on r own a apart placed g)

  -- ---- calls that wait

  waits_on : (r : Run) (w : Waiter) → w.request.id.conn ≢ s.conn → home w.request ≡ w.request.partition → Goes r → Goes (waits r w)
  waits_on r w apart placed g = aside r (waits r w) g (record { members = refl; backups = refl; events = refl; connection = λ k e still. (k, e, refl, still); registered = refl; sent = refl })
      (λ v c. ⊎_elim (λ i. g.elsewhere v (contains_in v r.waiters i)) (λ i. last v i) (in_cases v r.waiters (w ∷ []) (in_contains v (r.waiters ++ w ∷ []) c)))
    where
      last : (v : Waiter) → In v (w ∷ []) → (v.request.id.conn ≢ s.conn) × (home v.request ≡ v.request.partition)
      last v (inl e) = subst (λ (x : Waiter). (x.request.id.conn ≢ s.conn) × (home x.request ≡ x.request.partition)) e (apart, placed)
      last v (inr i) = absurd i

  without_on : (r : Run) (w : Waiter) → Goes r → Goes (without r w)
  without_on r w g = aside r (without r w) g (record { members = refl; backups = refl; events = refl; connection = λ k e still. (k, e, refl, still); registered = refl; sent = refl })
      (λ v c. g.elsewhere v (contains_in v r.waiters (in_filtered (is_other w) r.waiters v (in_contains v (without r w).waiters c)).0))

  -- it leaves without an answer
  leaves_on : (r : Run) (w : Waiter) → In w r.waiters → Goes r → Goes (leaves r w)
  leaves_on r w i g = unmade (without r w) (ending r w) [] refl (without_on r w g)

  turned_away : (line : ℕ) (request : Request) (why : Reached) → request.id.conn ≢ s.conn → sent_to s.conn (refused_at line request why) ≡ []
  turned_away line request Executes apart = refl
  turned_away line request (PartitionLost version) apart = another s.conn (refusal line request (pos partition_lost) version) apart
  turned_away line request (WrongTarget version) apart = another s.conn (refusal line request (pos wrong_target) version) apart
  turned_away line request (Migrating version) apart = another s.conn (refusal line request (pos migrating) version) apart

  turns : (skips : List CallId) (p : ℕ) → KeepsTurns o skips p Goes
  turns skips p = record {
    up = given;
    asked = λ r own w i here g. let its = g.elsewhere w (contains_in w r.waiters i) in asked_on skips (without r w) own (ending r w) its.0 its.1 (without_on r w g);
    refused = λ r w why i here g. let its = g.elsewhere w (contains_in w r.waiters i) in unmade (without r w) (ending r w) (refused_at r.lines w.request why) (turned_away r.lines w.request why its.0) (without_on r w g);
    left = λ r w i here g. leaves_on r w i g;
  }

  pub served_on : (skips : List CallId) (r : Run) (own : Option ℕ) (p member : ℕ) → Goes r → Goes (served o skips r own p member)
  served_on skips r own p member g = served_keeps o skips p Goes (turns skips p) r own member g

  pub event_on : (skips : List CallId) (r : Run) (p : ℕ) (e : Event Request) → asked_by e ≡ [] → Goes r → Goes (takes o skips r p e)
  event_on skips r p e quiet g = takes_keeps o skips p Goes (turns skips p) r e g (stepped r (occurred o r p e) g p e (event_happened r g.machine earlier heard p e g.run quiet) g.elsewhere)

  -- ---- items of another connection

  told_on : (r : Run) (k : ℕ) (bytes : List ℕ) → k ≢ s.conn → Goes r → Goes (told r k bytes)
  told_on r k bytes apart g =
      aside r (told r k bytes) g (record { members = refl; backups = refl; events = refl; connection = λ k e still. (k, e, refl, still); registered = refl; sent = nothing_to s.conn r.appended (own_answer r.lines k bytes ∷ []) (another s.conn (own_answer r.lines k bytes) apart) }) g.elsewhere

  registers_on : (r : Run) (k member : ℕ) (registration : Registration) → k ≢ s.conn → Goes r → Goes (registers o r k member registration)
  registers_on r k member registration apart g =
      aside listens (registers o r k member registration) listens_on
      (record { members = refl; backups = refl; events = refl; connection = λ k e still. (k, e, refl, still); registered = refl; sent = nothing_to s.conn listens.appended (events_to r.lines (rows_of (rows_known o r member) (record { conn = k; registration = registration } ∷ []))) none }) g.elsewhere
    where
      listener : Listener
      listener = record { conn = k; registration = registration }

      answered : Run
      answered = told r k (registered_reply registration)

      listens : Run
      listens = listener_registered (told r k (registered_reply registration)) (record { conn = k; registration = registration })

      other : (k == s.conn) ≡ false
      other = number_other k s.conn apart

      listens_on : Goes (listener_registered (told r k (registered_reply registration)) (record { conn = k; registration = registration }))
      listens_on = aside answered listens (told_on r k (registered_reply registration) apart g) (record {
        members = refl;
        backups = refl;
        events = refl;
        connection = λ k e still. (k, e, refl, still);
        registered = filter-append (is_of s.conn) r.registered (record { conn = k; registration = registration } ∷ []) ∙ ap (λ b. filter (is_of s.conn) r.registered ++ cond b (record { conn = k; registration = registration } ∷ []) []) other ∙ append-nil (filter (is_of s.conn) r.registered);
        sent = refl;
      }) g.elsewhere

      none : sent_to s.conn (events_to r.lines (rows_of (rows_known o r member) (record { conn = k; registration = registration } ∷ []))) ≡ []
      none = sent_to-told s.conn r.lines (row_event (rows_known o r member)) (filter is_about_rows (record { conn = k; registration = registration } ∷ [])) ∙ by (is_about_rows (record { conn = k; registration = registration }))
        where
          by : (b : Bool) → events_for (row_event (rows_known o r member)) (filter (is_of s.conn) (cond b (record { conn = k; registration = registration } ∷ []) [])) ≡ []
          by true = ap (λ b. events_for (row_event (rows_known o r member)) (cond b (record { conn = k; registration = registration } ∷ []) [])) other
          by false = refl

  module _ (skips : List CallId) where
    calls_on : (r : Run) (member : ℕ) (request : Request) → request.id.conn ≢ s.conn → home request ≡ request.partition → Goes r → Goes (calls o skips r member request)
    calls_on r member request apart placed g =
        let own = Some request.id.conn in
        served_on skips (asks o skips r own (arrival_at r member request)) own request.partition member (asks_on skips r own (arrival_at r member request) apart placed g)

    begins_on : (r : Run) (member : ℕ) (request : Request) (timeout : ℤ) → request.id.conn ≢ s.conn → home request ≡ request.partition → Goes r → Goes (begins_to_wait o skips r member request timeout)
    begins_on r member request timeout apart placed g =
        let w = waiter_at r member request timeout in
        served_on skips (waits r w) (Some request.id.conn) request.partition member (waits_on r w apart placed g)

    handled_on : (k : Connection) → k.conn ≢ s.conn → (items : List Item) (n : ℕ) (r : Run) → AreNumbered k.conn n items → Goes r → Goes (handled_all o skips r k items)
    handled_on k apart [] n r numbered g = g
    handled_on k apart (Reply bytes ∷ items) n r numbered g = handled_on k apart items (n + 1) (told r k.conn bytes) numbered.1 (told_on r k.conn bytes apart g)
    handled_on k apart (Register registration ∷ items) n r numbered g = handled_on k apart items (n + 1) (registers o r k.conn k.member registration) numbered.1 (registers_on r k.conn k.member registration apart g)
    handled_on k apart (Wait request timeout ∷ items) n r numbered g =
        handled_on k apart items (n + 1) (begins_to_wait o skips r k.member request timeout) numbered.1
        (begins_on r k.member request timeout (λ e. apart (sym (ap (λ (id : CallId). id.conn) numbered.0.0) ∙ e)) numbered.0.1.own g)
    handled_on k apart (Asks request ∷ items) n r numbered g =
        handled_on k apart items (n + 1) (calls o skips r k.member request) numbered.1
        (calls_on r k.member request (λ e. apart (sym (ap (λ (id : CallId). id.conn) numbered.0.0) ∙ e)) numbered.0.1.own g)

    -- ---- lines

    bytes_on : (r : Run) (k : Connection) (bytes : List ℕ) → k.conn ≢ s.conn → Goes r → Goes (bytes_arrived o skips r k bytes)
    bytes_on r k bytes apart g =
        let taken = took_bytes r k bytes in
        let all = handled_all o skips taken k (items_by k bytes) in
        let begun : Goes taken = aside r taken g (record { members = refl; backups = refl; events = refl; connection = λ j e still. (j, not_updated s.conn (with_bytes k bytes) r.connections apart ∙ e, refl, still); registered = refl; sent = refl }) g.elsewhere in
        on_if Goes (takes_bytes o r k) (forsaken all k.conn) (next_line r)
        (forsaken_keeps Goes leaves_on k.conn all (handled_on k apart (items_by k bytes) (length (messages_on k)) taken (items_room k bytes).0 begun))
        (counted r g)

    arrives_on : (r : Run) (c : ℕ) (bytes : List ℕ) (found : Option Connection) → connection_of r c ≡ found → c ≢ s.conn → Goes r → Goes (elim found [ None ↦ next_line r | Some k ↦ bytes_arrived o skips r k bytes ])
    arrives_on r c bytes None e apart g = counted r g
    arrives_on r c bytes (Some k) e apart g = bytes_on r k bytes (λ z. apart (sym (same_number k.conn c (find_in (is_connection c) r.connections k e).1) ∙ z)) g

    opens_on : (r : Run) (c member : ℕ) → c ≢ s.conn → Goes r → Goes (opened r c member)
    opens_on r c member apart g =
        aside r (opened r c member) g (record { members = refl; backups = refl; events = refl; connection = λ k e still. (k, not_last (is_connection s.conn) r.connections (record { conn = c; member = member; bytes = [] }) (number_other c s.conn apart) ∙ e, refl, still); registered = refl; sent = refl }) g.elsewhere

    after_on : (r : Run) (e : Option At) → quiet_at e → Goes r → Goes (after_event o skips r e)
    after_on r None quiet g = g
    after_on r (Some e) quiet g = event_on skips r e.partition e.event quiet g

    set_on : (r : Run) (member moment : ℕ) → Goes r → Goes (clock_set r member moment)
    set_on r member moment g = aside r (clock_set r member moment) g (record { members = refl; backups = refl; events = refl; connection = λ k e still. (k, e, refl, still); registered = refl; sent = refl }) g.elsewhere

    pub line_on : (r : Run) (line : Line) → IsOthers s.conn line → Goes r → Goes (after_line o skips r line)
    line_on r (OpenConn c member) others g = on_if Goes (not (is_some (connection_of r c)) && lives o r member) (opened r c member) (next_line r) (opens_on r c member others g) (counted r g)
    line_on r (Arrive c bytes) others g = arrives_on r c bytes (connection_of r c) refl others g
    line_on r (Clock member moment) others g = served_in_keeps o skips Goes member (λ x p h. served_on skips x None p member h) (clock_set r member moment) (numbers_below partitions) (set_on r member moment g)
    line_on r (Flow partition most) others g = flowed_keeps o skips Goes partition (λ x l h. event_on skips x partition (delivery_on l) refl h) (next_line r) most (counted r g)
    line_on r (FlowAll most) others g = flowed_in_keeps o skips Goes (λ x p l h. event_on skips x p (delivery_on l) refl h) (next_line r) most (numbers_below partitions) (counted r g)
    line_on r (Crash member) others g = takes_in_keeps o skips Goes (event.Crash member) (λ x p h. event_on skips x p (event.Crash member) refl h) (next_line r) (numbers_below partitions) (counted r g)
    line_on r (Detect member) others g = takes_in_keeps o skips Goes (event.Detect member) (λ x p h. event_on skips x p (event.Detect member) refl h) (next_line r) (numbers_below partitions) (counted r g)
    line_on r (Rebalance most) others g = rebalance_keeps o skips Goes (λ x p e of_step h. event_on skips x p e of_step.asks h) (next_line r) most (counted r g)
    line_on r line others g = after_on (next_line r) (event_by line) (quiet_line line) (counted r g)

pub every_other_line_is_followed : EveryOtherLineIsFollowed
every_other_line_is_followed settings client name r s earlier heard skips line run elsewhere others =
    line_on settings client name s earlier heard skips r line others (record { machine = s; run = run; conn = refl; idle = refl; number = refl; elsewhere = elsewhere })
