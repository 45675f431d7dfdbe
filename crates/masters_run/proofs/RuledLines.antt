-- Each partition of a run of a script's lines, with masters or without, goes by its machine: what is asked for in partitions are events that the grid takes, and each other line is the grid's own.
use Rattle.std.proofs.Common.{◌≡◌, ℕ, zero, suc, ◌≤◌, ◌<◌, Bool, true, false, cond, List, [], ◌∷◌, ◌++◌, length, Option, Some, None, refl, sym, ◌∙◌, subst, ◌⊎◌, ⊎_elim, inl, inr, arith, append-nil, true≢false}
use Rattle.grid_base.specs.Objects.{Object}
use Rattle.grid_base.specs.declared.names.CallId.{CallId}
use Rattle.grid_base.specs.declared.calls.Request.{Request}
use Rattle.object_store.specs.Partitions.{Partition}
use Rattle.partition_protocol.specs.Claims.{IsLawful}
use Rattle.partition_protocol.specs.Events as event
use Rattle.partition_protocol.specs.Sequences.{IsFrontOf}
use Rattle.partition_protocol.specs.Service.{numbers_below}
use Rattle.partition_protocol.specs.World as world
use Rattle.partition_protocol.proofs.Lists.{on_if}
use Rattle.partition_protocol.proofs.RowFacts.{false_or_not}
use Rattle.call_engine.specs.Calls.{Settings}
use Rattle.call_engine.specs.Objects.{partition_object}
use Rattle.script_lang.specs.declared.line.Line.{Line}
use Rattle.script_lang.specs.declared.line.Line.TheVariants.{OpenConn, Arrive, Clock, Flow, FlowAll, Rebalance}
use Rattle.script_lang.specs.declared.line.Line.TheVariants as line
use Rattle.waiting_protocol.specs.Machine as machine
use Rattle.replay_run.specs.AfterLines as alone
use Rattle.replay_run.specs.Runs.{Run, At, Connection, partitions, connection_of, can_open, next_line, took_bytes, takes_bytes, items_by, bytes_arrived, messages_on, moment_of, delivery_on, handled_all, forsaken, event_by}
use Rattle.replay_run.specs.Runs as runs
use Rattle.replay_run.specs.ScriptRuns.{IsRun, grid_begun, line_counted, run_given_up}
use Rattle.replay_run.proofs.EventRuns.{IsFull, takes_in_keeps, flowed_keeps, flowed_in_keeps}
use Rattle.replay_run.proofs.Items.{items_room}
use Rattle.replay_run.proofs.Lines.{IsNoCall, events_are_no_calls, line_run, connection_there, has_taken}
use Rattle.replay_run.proofs.Rebalanced.{rebalance_keeps}
use Rattle.replay_run.proofs.Staying.{Only, Nobody, Leaving, lawful, line_nobody}
use Rattle.masters_run.specs.Laws.{ruled_with}
use Rattle.masters_run.specs.Runs.{RuledRun, begun}
use Rattle.masters_run.specs.AfterLines.{after_line, after_lines}
use Rattle.masters_run.proofs.RuledGrowing.{ruled_lines_grow}
use Rattle.masters_run.proofs.RuledRuns.{line_keeps}
use Rattle.masters_run.specs.ByMachine.{GoesByItsMachine, EveryPartitionGoesByItsMachine, EveryPartitionGoesOn}
use Rattle.masters_run.proofs.Called.{none_called, brings_its_calls, called_by}
use Rattle.masters_run.proofs.MachineLines.{HasCome, IsBy, takes_by, items_by_line, forsaken_by, still_by, clock_by}

module _ (o : Object Request Partition) (skips : List CallId) (q : ℕ) (front : List (machine.Line Request)) (law : IsLawful o) (low : q < partitions) where
  abbrev IsBetween : Run → Type 0
  IsBetween r = IsBy o skips q front law r

  module _ (r : Run) (by : IsBetween r) where
    counted : IsBetween (next_line r)
    counted = still_by o skips q front law r (next_line r) (line_counted r by.0) refl refl refl refl refl refl refl by

    bytes_by : (c : ℕ) (bytes : List ℕ) (found : Option Connection) → connection_of r c ≡ found → IsBetween (elim found [ None ↦ next_line r | Some k ↦ bytes_arrived o skips r k bytes ])
    bytes_by c bytes None there = counted
    bytes_by c bytes (Some k) there =
        let items = items_by k bytes in
        let taken = took_bytes r k bytes in
        let all = handled_all o skips taken k items in
        let may = has_taken r k bytes by.0 (connection_there r c k there) in
        let room = items_room k bytes in
        let began : IsBetween taken = still_by o skips q front law r taken may.run refl refl refl refl refl refl refl by in
        on_if IsBetween (takes_bytes o r k) (forsaken all k.conn) (next_line r)
        (forsaken_by o skips q front law all k.conn (items_by_line o skips q front law taken k bytes (length (messages_on k)) items began may.may room.0 (omega (arith, room.1)))) counted

    event_by_it : (e : Option At) → IsNoCall e → IsBetween (alone.after_event o skips (next_line r) e)
    event_by_it None quiet = counted
    event_by_it (Some e) quiet = takes_by o skips q front law (next_line r) e.partition e.event quiet counted

    -- a line that is the grid's own
    own_line : (one : Line) → IsBetween (alone.after_line o skips r one)
    own_line (OpenConn c member) =
        let can = can_open o r c member in
        still_if can (line_run skips r by.0 (OpenConn c member))
      where
        still_if : (b : Bool) → IsRun o (cond b (runs.opened r c member) (next_line r)) → IsBetween (cond b (runs.opened r c member) (next_line r))
        still_if true is = still_by o skips q front law r (runs.opened r c member) is refl refl refl refl refl refl refl by
        still_if false is = counted
    own_line (Arrive c bytes) = bytes_by c bytes (connection_of r c) refl
    own_line (Clock member moment) = clock_by o skips q front law low r member moment (line_nobody o law skips r by.0 (unless by.1) (Clock member moment)) by
      where
        unless : IsFull r ⊎ (Only o Nobody r × HasCome o skips q front r) → Leaving o Nobody r
        unless rest = ⊎_elim (λ full. inl full) (λ h. inr h.0) rest
    own_line (Flow partition most) = flowed_keeps o skips IsBetween partition (λ x l k. takes_by o skips q front law x partition (delivery_on l) refl k) (next_line r) most counted
    own_line (FlowAll most) = flowed_in_keeps o skips IsBetween (λ x p l k. takes_by o skips q front law x p (delivery_on l) refl k) (next_line r) most (numbers_below partitions) counted
    own_line (line.Crash member) = takes_in_keeps o skips IsBetween (event.Crash member) (λ x p k. takes_by o skips q front law x p (event.Crash member) refl k) (next_line r) (numbers_below partitions) counted
    own_line (line.Detect member) = takes_in_keeps o skips IsBetween (event.Detect member) (λ x p k. takes_by o skips q front law x p (event.Detect member) refl k) (next_line r) (numbers_below partitions) counted
    own_line (Rebalance most) = rebalance_keeps o skips IsBetween (λ x p e of_step k. takes_by o skips q front law x p e of_step.asks k) (next_line r) most counted
    own_line one = event_by_it (event_by one) (events_are_no_calls one)

  ruled_line_by : (s : RuledRun) (one : Line) → IsBetween s.run → IsBetween (after_line o skips s one).run
  ruled_line_by s one by =
      line_keeps o skips IsBetween (λ r k. (run_given_up r k.0, inl refl)) (λ r p e quiet k. takes_by o skips q front law r p e quiet k) s one (counted s.run by) (own_line s.run by one)

  lines_by : (s : RuledRun) (lines : List Line) → IsBetween s.run → IsBetween (after_lines o skips s lines).run
  lines_by s [] by = by
  lines_by s (one ∷ lines) by = lines_by (after_line o skips s one) lines (ruled_line_by s one by)

after_lines_append : (o : Object Request Partition) (skips : List CallId) (s : RuledRun) (lines more : List Line) → after_lines o skips s (lines ++ more) ≡ after_lines o skips (after_lines o skips s lines) more
after_lines_append o skips s [] more = refl
after_lines_append o skips s (one ∷ lines) more = after_lines_append o skips (after_line o skips s one) lines more

-- at first

first_clock : (members backups k : ℕ) → moment_of (runs.begun members backups) k ≡ 0
first_clock zero backups k = refl
first_clock (suc n) backups zero = refl
first_clock (suc n) backups (suc k) = first_clock n backups k

begun_by : (o : Object Request Partition) (skips : List CallId) (q members backups : ℕ) → HasCome o skips q [] (runs.begun members backups)
begun_by o skips q members backups = record {
  by = record { lines = []; states = λ i. record { world = world.start q members backups; clock = λ k. first_clock members backups k i; waiters = [] }; happened = refl };
  called = none_called q;
  goes_on = ([], refl);
}

module _ (o : Object Request Partition) (skips : List CallId) (q : ℕ) where
  goes_by : (front : List (machine.Line Request)) (r : Run) → HasCome o skips q front r → (on : GoesByItsMachine o skips r q) × IsFrontOf front on.by.lines
  goes_by front r h = (record { by = h.by; calls = brings_its_calls q r h.by.lines h.called }, h.goes_on)

  unless_full : (front : List (machine.Line Request)) (r : Run) → IsFull r ⊎ (Only o Nobody r × HasCome o skips q front r) → r.full ≡ false → HasCome o skips q front r
  unless_full front r rest goes_on = ⊎_elim (λ full. absurd (true≢false (sym full ∙ goes_on))) (λ h. h.1) rest

  module _ (law : IsLawful o) (low : q < partitions) (s : RuledRun) (more : List Line) where
    abbrev last : RuledRun
    last = after_lines o skips s more

    lasted : last.run.full ≡ false → s.run.full ≡ false
    lasted lasts = false_or_not s.run.full (λ full. true≢false (sym ((ruled_lines_grow o skips s more).full full) ∙ lasts))

    quiet_lines : IsRun o s.run → Only o Nobody s.run → (goes : GoesByItsMachine o skips s.run q) → last.run.full ≡ false → HasCome o skips q goes.by.lines last.run
    quiet_lines is nobody goes lasts =
        let front = goes.by.lines in
        let come : HasCome o skips q front s.run = record { by = goes.by; called = called_by q s.run front goes.calls; goes_on = ([], append-nil front) } in
        unless_full front last.run (lines_by o skips q front law low s more (is, inr (nobody, come))).1 lasts

    -- by whichever lines it has gone, it goes on
    goes_on_from : IsBetween o skips q [] law low s.run → (goes : GoesByItsMachine o skips s.run q) → last.run.full ≡ false → (on : GoesByItsMachine o skips last.run q) × IsFrontOf goes.by.lines on.by.lines
    goes_on_from by goes lasts =
        let nobody : Only o Nobody s.run = ⊎_elim (λ full. absurd (true≢false (sym full ∙ lasted lasts))) (λ h. h.0) by.1 in
        goes_by goes.by.lines last.run (quiet_lines by.0 nobody goes lasts)

-- of a script's lines

by_lines : (settings : Settings) (members backups : ℕ) (skips : List CallId) (lines : List Line) (p : ℕ) (some : 1 ≤ members) (low : p < partitions)
    → IsBetween (partition_object settings) skips p [] (lawful settings) low (ruled_with settings members backups skips lines).run
by_lines settings members backups skips lines p some low =
    let o = partition_object settings in
    lines_by o skips p [] (lawful settings) low (begun members backups) lines (grid_begun members backups some, inr ((λ w i over. absurd i), begun_by o skips p members backups))

pub every_partition_goes_by_its_machine : EveryPartitionGoesByItsMachine
every_partition_goes_by_its_machine settings members backups skips lines p some low lasts =
    let o = partition_object settings in
    let r = (ruled_with settings members backups skips lines).run in
    (goes_by o skips p [] r (unless_full o skips p [] r (by_lines settings members backups skips lines p some low).1 lasts)).0

pub every_partition_goes_on : EveryPartitionGoesOn
every_partition_goes_on settings members backups skips lines more p some low =
    let o = partition_object settings in
    let first = ruled_with settings members backups skips lines in
    subst (λ (x : RuledRun). x.run.full ≡ false → (goes : GoesByItsMachine o skips first.run p) → (on : GoesByItsMachine o skips x.run p) × IsFrontOf goes.by.lines on.by.lines)
    (sym (after_lines_append o skips (begun members backups) lines more))
    (λ lasts goes. goes_on_from o skips p (lawful settings) low first more (by_lines settings members backups skips lines p some low) goes lasts)
