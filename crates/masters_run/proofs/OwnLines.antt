-- A line that is the grid's own and no event brings calls to partitions, and nothing else.
use Rattle.std.proofs.Common.{◌≡◌, ℕ, List, [], ◌∷◌, pos, Option, Some, None, option_map, refl, sym, inl, inr, append-nil}
use Rattle.grid_base.specs.Errors.{want_of_memory}
use Rattle.grid_base.specs.Objects.{Object}
use Rattle.grid_base.specs.declared.names.CallId.{CallId}
use Rattle.grid_base.specs.declared.calls.Request.{Request}
use Rattle.object_store.specs.Partitions.{Partition}
use Rattle.partition_protocol.specs.Events.{Event}
use Rattle.partition_protocol.specs.Service.{numbers_below}
use Rattle.partition_protocol.proofs.Lists.{on_if}
use Rattle.session_core.specs.declared.item.Item.{Item}
use Rattle.session_core.specs.declared.item.Item.TheVariants.{Call as Asks, Wait, Register, Reply}
use Rattle.script_lang.specs.declared.line.Line.{Line}
use Rattle.script_lang.specs.declared.line.Line.TheVariants.{OpenConn, Arrive, Clock, Flow, FlowAll, Crash, Detect, Rebalance, MasterDeliver, MasterLose, MasterResend}
use Rattle.replay_run.specs.Runs.{Run, At, Connection, Arrival, partitions, events_at, world_at, connection_of, can_open, opened, next_line, clock_set, took_bytes, takes_bytes, items_by, bytes_arrived, arrival_at, is_full, is_skipped, refusal, happening, arrived, told, registers, asked, asks, given_up, waiter_at, waits, leaves, ending, forsaken, handled, handled_all, event_by}
use Rattle.replay_run.specs.AfterLines.{after_event, after_line}
use Rattle.replay_run.proofs.EventRuns.{served_in_keeps}
use Rattle.replay_run.proofs.Turns.{forsaken_keeps, its_event}
use Rattle.masters_run.specs.AfterLines.{as_asked, asked_at}
use Rattle.masters_run.proofs.Extending.{HasCalls, calls_still, calls_made, served_calls}

-- none of those that go through partitions by themselves
abbrev pub IsPlain : Line → Type 0
IsPlain (Flow p most) = ⊥
IsPlain (FlowAll most) = ⊥
IsPlain (Crash member) = ⊥
IsPlain (Detect member) = ⊥
IsPlain (Rebalance most) = ⊥
IsPlain line = Unit {0}

-- What asks for nothing in a partition is no event.
no_event : (e : Option At) → option_map as_asked e ≡ None → e ≡ None
no_event None none = refl
no_event (Some e) none = let clash : Some (as_asked e) ≡ None = none in absurd cc

pub asks_no_event : (line : Line) → asked_at line ≡ None → event_by line ≡ None
asks_no_event (MasterDeliver p from to place) none = refl
asks_no_event (MasterLose p from to place) none = refl
asks_no_event (MasterResend p member) none = refl
asks_no_event line none = no_event (event_by line) none

module _ (first : Run) (p : ℕ) (before : List (Event Request)) where
  abbrev Has : Run → Type 0
  Has x = HasCalls first p before x

  same : (x next : Run) → next.events ≡ x.events → next.members ≡ x.members → next.backups ≡ x.backups → Has x → Has next
  same x next events members backups h = calls_still first p before x next events members backups h

  forsaken_calls : (x : Run) (c : ℕ) → Has x → Has (forsaken x c)
  forsaken_calls x c h = forsaken_keeps Has (λ y w i k. calls_made first p before y (leaves y w) (ending y w) [] (inl refl) refl refl refl k) c x h

  module _ (o : Object Request Partition) (skips : List CallId) where
    asks_calls : (x : Run) (own : Option ℕ) (a : Arrival) → Has x → Has (asks o skips x own a)
    asks_calls x own a h =
        let excuse = refusal a.made a.request (pos want_of_memory) 0 ∷ [] in
        on_if Has (is_full (world_at o x a.request.partition)) (given_up (arrived x a [] [])) (asked o skips x own a)
        (calls_made first p before x (given_up (arrived x a [] [])) a [] (inl refl) refl refl refl h)
        (on_if Has (is_skipped skips a.request.id) (arrived x a [] excuse) (arrived x a (its_event a ∷ []) (happening o x own a))
        (calls_made first p before x (arrived x a [] excuse) a [] (inl refl) refl refl refl h)
        (calls_made first p before x (arrived x a (its_event a ∷ []) (happening o x own a)) a (its_event a ∷ []) (inr refl) refl refl refl h))

    handled_calls : (x : Run) (k : Connection) (item : Item) → Has x → Has (handled o skips x k item)
    handled_calls x k (Reply bytes) h = same x (told x k.conn bytes) refl refl refl h
    handled_calls x k (Register registration) h = same x (registers o x k.conn k.member registration) refl refl refl h
    handled_calls x k (Asks request) h =
        let own = Some request.id.conn in
        let a = arrival_at x k.member request in
        served_calls first p before o skips (asks o skips x own a) own request.partition k.member (asks_calls x own a h)
    handled_calls x k (Wait request timeout) h =
        let mid = waits x (waiter_at x k.member request timeout) in
        served_calls first p before o skips mid (Some request.id.conn) request.partition k.member (same x mid refl refl refl h)

    handled_all_calls : (x : Run) (k : Connection) (items : List Item) → Has x → Has (handled_all o skips x k items)
    handled_all_calls x k [] h = h
    handled_all_calls x k (item ∷ items) h = handled_all_calls (handled o skips x k item) k items (handled_calls x k item h)

    bytes_calls : (x : Run) (bytes : List ℕ) (found : Option Connection) → Has x → Has (elim found [ None ↦ next_line x | Some k ↦ bytes_arrived o skips x k bytes ])
    bytes_calls x bytes None h = same x (next_line x) refl refl refl h
    bytes_calls x bytes (Some k) h =
        let taken = took_bytes x k bytes in
        let all = handled_all o skips taken k (items_by k bytes) in
        on_if Has (takes_bytes o x k) (forsaken all k.conn) (next_line x)
        (forsaken_calls all k.conn (handled_all_calls taken k (items_by k bytes) (same x taken refl refl refl h))) (same x (next_line x) refl refl refl h)

    -- a line of which this is the event, and it is none
    quiet_calls : (x : Run) (e : Option At) → e ≡ None → Has x → Has (after_event o skips (next_line x) e)
    quiet_calls x None none h = same x (next_line x) refl refl refl h
    quiet_calls x (Some e) none h = absurd cc

    plain_calls : (x : Run) (line : Line) → IsPlain line → event_by line ≡ None → Has x → Has (after_line o skips x line)
    plain_calls x (OpenConn c member) is none h = on_if Has (can_open o x c member) (opened x c member) (next_line x) (same x (opened x c member) refl refl refl h) (same x (next_line x) refl refl refl h)
    plain_calls x (Arrive c bytes) is none h = bytes_calls x bytes (connection_of x c) h
    plain_calls x (Clock member moment) is none h =
        let set = clock_set x member moment in
        served_in_keeps o skips Has member (λ y q k. served_calls first p before o skips y None q member k) set (numbers_below partitions) (same x set refl refl refl h)
    plain_calls x (Flow q most) is none h = absurd is
    plain_calls x (FlowAll most) is none h = absurd is
    plain_calls x (Crash member) is none h = absurd is
    plain_calls x (Detect member) is none h = absurd is
    plain_calls x (Rebalance most) is none h = absurd is
    plain_calls x line is none h = quiet_calls x (event_by line) none h

-- behind those that the partition had
pub own_calls : (o : Object Request Partition) (skips : List CallId) (r : Run) (p : ℕ) (line : Line) → IsPlain line → event_by line ≡ None → HasCalls r p (events_at p r.events) (after_line o skips r line)
own_calls o skips r p line is none =
    plain_calls r p (events_at p r.events) o skips r line is none (record { calls = []; are = tt; here = sym (append-nil (events_at p r.events)); members = refl; backups = refl })
