-- A line reopens one partition at most, so that few are reopened.
use Rattle.std.proofs.Common.{◌≡◌, ℕ, ◌+◌, ◌≤◌, List, [], ◌∷◌, ◌++◌, length, Option, Some, None, refl, ap, ◌∙◌, arith, append-nil, length-append}
use Rattle.grid_base.specs.Objects.{Object}
use Rattle.grid_base.specs.declared.calls.Request.{Request}
use Rattle.grid_base.specs.declared.names.CallId.{CallId}
use Rattle.object_store.specs.Partitions.{Partition}
use Rattle.partition_protocol.specs.Events.{Event, Outcome, happens}
use Rattle.partition_protocol.specs.Events as event
use Rattle.partition_protocol.specs.Service.{numbers_below}
use Rattle.partition_protocol.proofs.Lists.{on_if}
use Rattle.session_core.specs.declared.item.Item.{Item}
use Rattle.session_core.specs.declared.item.Item.TheVariants.{Call as Asks, Wait, Register, Reply}
use Rattle.script_lang.specs.Limits.{most_lines}
use Rattle.script_lang.specs.declared.line.Line.{Line}
use Rattle.script_lang.specs.declared.line.Line.TheVariants.{OpenConn, Arrive, Clock, Flow, FlowAll, Crash, Detect, Rebalance}
use Rattle.replay_run.specs.Runs.{Run, At, Connection, Arrival, Reopened, partitions, world_at, connection_of, takes_bytes, took_bytes, items_by, can_open, opened, next_line, is_full, is_skipped, given_up, arrived, arrival_at, asked, asks, waiter_at, waits, served, served_in, forsaken, handled, handled_all, bytes_arrived, reopening_by, clock_set, clock_turned, takes, takes_in, delivery_on, flowed, flowed_in, event_by}
use Rattle.replay_run.specs.AfterLines.{after_event, after_line}
use Rattle.replay_run.specs.Rebalancing.{rebalanced}
use Rattle.replay_run.specs.Grids.{IsBounded}
use Rattle.replay_run.proofs.Turns.{KeepsTurns, by_endings, served_keeps, takes_keeps, forsaken_keeps}
use Rattle.replay_run.proofs.EventRuns.{served_in_keeps, takes_in_keeps, flowed_keeps, flowed_in_keeps}
use Rattle.replay_run.proofs.Rebalanced.{rebalance_keeps}
use Rattle.replay_run.proofs.Bounds.{line_lines}
use Rattle.replay_run.proofs.TakenApart.{one_reopening}

abbrev HasReopened : List Reopened → Run → Type 0
HasReopened known r = r.reopened ≡ known

-- what reopens nothing
module _ (o : Object Request Partition) (skips : List CallId) (known : List Reopened) where
  -- whoever waits reopens nothing
  quiet_turns : (p : ℕ) → KeepsTurns o skips p (HasReopened known)
  quiet_turns p = by_endings o skips p (HasReopened known) (λ r same. same) (λ r w events appended i made here same. same)

  quiet_served : (r : Run) (own : Option ℕ) (p member : ℕ) → r.reopened ≡ known → (served o skips r own p member).reopened ≡ known
  quiet_served r own p member same = served_keeps o skips p (HasReopened known) (quiet_turns p) r own member same

  quiet_clock : (r : Run) (member : ℕ) (ps : List ℕ) → r.reopened ≡ known → (served_in o skips r member ps).reopened ≡ known
  quiet_clock r member ps same = served_in_keeps o skips (HasReopened known) member (λ x p h. quiet_served x None p member h) r ps same

  quiet_takes : (e : Event Request) → ((p line : ℕ) (outcome : Outcome) → reopening_by p line e outcome ≡ []) → (r : Run) (p : ℕ) → r.reopened ≡ known → (takes o skips r p e).reopened ≡ known
  quiet_takes e none r p same =
      takes_keeps o skips p (HasReopened known) (quiet_turns p) r e same
      (ap (λ more. r.reopened ++ more) (none p r.lines (happens o (world_at o r p) e).outcome) ∙ append-nil r.reopened ∙ same)

  quiet_flow : (r : Run) (p most : ℕ) → r.reopened ≡ known → (flowed o skips r p most).reopened ≡ known
  quiet_flow r p most same = flowed_keeps o skips (HasReopened known) p (λ x l h. quiet_takes (delivery_on l) (λ q line outcome. refl) x p h) r most same

  quiet_flow_all : (r : Run) (most : ℕ) (ps : List ℕ) → r.reopened ≡ known → (flowed_in o skips r most ps).reopened ≡ known
  quiet_flow_all r most ps same = flowed_in_keeps o skips (HasReopened known) (λ x p l h. quiet_takes (delivery_on l) (λ q line outcome. refl) x p h) r most ps same

  quiet_in_all : (e : Event Request) → ((p line : ℕ) (outcome : Outcome) → reopening_by p line e outcome ≡ []) → (r : Run) (ps : List ℕ) → r.reopened ≡ known → (takes_in o skips r e ps).reopened ≡ known
  quiet_in_all e none r ps same = takes_in_keeps o skips (HasReopened known) e (λ x p h. quiet_takes e none x p h) r ps same

  quiet_rebalance : (r : Run) (most : ℕ) → r.reopened ≡ known → (rebalanced o skips r most).reopened ≡ known
  quiet_rebalance r most same = rebalance_keeps o skips (HasReopened known) (λ x p e of_step h. quiet_takes e of_step.reopens x p h) r most same

  quiet_asks : (r : Run) (own : Option ℕ) (a : Arrival) → r.reopened ≡ known → (asks o skips r own a).reopened ≡ known
  quiet_asks r own a same =
      on_if (HasReopened known) (is_full (world_at o r a.request.partition)) (given_up (arrived r a [] [])) (asked o skips r own a) same
      (on_if (HasReopened known) (is_skipped skips a.request.id) _ _ same same)

  quiet_item : (r : Run) (k : Connection) (item : Item) → r.reopened ≡ known → (handled o skips r k item).reopened ≡ known
  quiet_item r k (Reply bytes) same = same
  quiet_item r k (Wait request timeout) same = quiet_served (waits r (waiter_at r k.member request timeout)) (Some request.id.conn) request.partition k.member same
  quiet_item r k (Register registration) same = same
  quiet_item r k (Asks request) same =
      let own = Some request.id.conn in
      quiet_served (asks o skips r own (arrival_at r k.member request)) own request.partition k.member (quiet_asks r own (arrival_at r k.member request) same)

  quiet_items : (r : Run) (k : Connection) (items : List Item) → r.reopened ≡ known → (handled_all o skips r k items).reopened ≡ known
  quiet_items r k [] same = same
  quiet_items r k (item ∷ items) same = quiet_items (handled o skips r k item) k items (quiet_item r k item same)

  quiet_close : (r : Run) (c : ℕ) → r.reopened ≡ known → (forsaken r c).reopened ≡ known
  quiet_close r c same = forsaken_keeps (HasReopened known) (λ x w i h. h) c r same

module _ (o : Object Request Partition) (skips : List CallId) (r : Run) where
  abbrev HasOneMore : Run → Type 0
  HasOneMore next = length next.reopened ≤ length r.reopened + 1

  none_more : (next : Run) → next.reopened ≡ r.reopened → HasOneMore next
  none_more next same = let as_many = ap length same in omega (arith, as_many)

  of_event : (e : Option At) → HasOneMore (after_event o skips (next_line r) e)
  of_event None = omega arith
  of_event (Some e) =
      let more = reopening_by e.partition (r.lines + 1) e.event (happens o (world_at o (next_line r) e.partition) e.event).outcome in
      let both = length-append r.reopened more in
      let one = one_reopening e.partition (r.lines + 1) e.event (happens o (world_at o (next_line r) e.partition) e.event).outcome in
      takes_keeps o skips e.partition HasOneMore (by_endings o skips e.partition HasOneMore (λ x h. h) (λ x w events appended i made here h. h)) (next_line r) e.event (omega arith) (omega (arith, both, one))

  of_bytes : (bytes : List ℕ) (found : Option Connection) → HasOneMore (elim found [ None ↦ next_line r | Some k ↦ bytes_arrived o skips r k bytes ])
  of_bytes bytes None = omega arith
  of_bytes bytes (Some k) =
      let all = handled_all o skips (took_bytes r k bytes) k (items_by k bytes) in
      on_if HasOneMore (takes_bytes o r k) (forsaken all k.conn) (next_line r)
      (none_more (forsaken all k.conn) (quiet_close o skips r.reopened all k.conn (quiet_items o skips r.reopened (took_bytes r k bytes) k (items_by k bytes) refl))) (omega arith)

  line_reopens : (line : Line) → HasOneMore (after_line o skips r line)
  line_reopens (OpenConn c member) = on_if HasOneMore (can_open o r c member) (opened r c member) (next_line r) (omega arith) (omega arith)
  line_reopens (Arrive c bytes) = of_bytes bytes (connection_of r c)
  line_reopens (Clock member moment) = none_more (clock_turned o skips r member moment) (quiet_clock o skips r.reopened (clock_set r member moment) member (numbers_below partitions) refl)
  line_reopens (Flow partition most) = none_more (flowed o skips (next_line r) partition most) (quiet_flow o skips r.reopened (next_line r) partition most refl)
  line_reopens (FlowAll most) = none_more (flowed_in o skips (next_line r) most (numbers_below partitions)) (quiet_flow_all o skips r.reopened (next_line r) most (numbers_below partitions) refl)
  line_reopens (Crash member) =
      none_more (takes_in o skips (next_line r) (event.Crash member) (numbers_below partitions)) (quiet_in_all o skips r.reopened (event.Crash member) (λ p line outcome. refl) (next_line r) (numbers_below partitions) refl)
  line_reopens (Detect member) =
      none_more (takes_in o skips (next_line r) (event.Detect member) (numbers_below partitions)) (quiet_in_all o skips r.reopened (event.Detect member) (λ p line outcome. refl) (next_line r) (numbers_below partitions) refl)
  line_reopens (Rebalance most) = none_more (rebalanced o skips (next_line r) most) (quiet_rebalance o skips r.reopened (next_line r) most refl)
  line_reopens line = of_event (event_by line)

  -- and stays within the limit of lines
  pub line_bounded : r.lines + 1 ≤ most_lines → IsBounded r → (line : Line) → IsBounded (after_line o skips r line)
  line_bounded limit bounded line =
      let counted = line_lines o skips r line in
      let more = line_reopens line in
      let few = bounded.reopenings in
      record { lines = omega (arith, counted, limit); reopenings = omega (arith, counted, few, more) }
