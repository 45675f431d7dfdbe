-- The messages that a line of the grid by itself tells are those that it appended.
use Rattle.std.proofs.Common.{◌≡◌, ℕ, Bool, true, false, not, cond, List, [], ◌∷◌, ◌++◌, length, map, drop, Option, Some, None, refl, ap, sym, ◌∙◌, append-nil, arith}
use Rattle.std.proofs.lemmas.List.{drop_all}
use Rattle.std.proofs.lemmas.List.Concat.{flat_map-append}
use Rattle.frame_codec.specs.declared.malformed.Malformed.{Malformed}
use Rattle.grid_base.specs.declared.names.CallId.{CallId}
use Rattle.call_engine.specs.Calls.{Settings}
use Rattle.call_engine.specs.Objects.{partition_object}
use Rattle.object_store.specs.Partitions.{Partition}
use Rattle.grid_base.specs.Objects.{Object}
use Rattle.grid_base.specs.declared.calls.Request.{Request}
use Rattle.partition_protocol.proofs.Lists.{on_if}
use Rattle.rebalance.specs.declared.Step.{Step}
use Rattle.rebalance.specs.Plans.{Planned, NoMember, Unsettled, Balanced}
use Rattle.script_lang.specs.declared.line.Line.{Line}
use Rattle.script_lang.specs.declared.line.Line.TheVariants.{OpenConn, Arrive, Clock, Deliver, Lose, Repeat, Flow, FlowAll, Resend, Crash, Detect, Move, Join, Handover, Advance, Reopen, Rebalance}
use Rattle.line_told.specs.declared.told.LineOutcome.TheVariants as outcome
use Rattle.line_told.specs.declared.told.Told.{Told}
use Rattle.line_told.specs.declared.told.Told.TheVariants as told
use Rattle.replay_run.specs.AfterLines.{after_line}
use Rattle.replay_run.specs.Appending.{new_messages}
use Rattle.replay_run.specs.LineTold.{came_to, all_told, plan_told, outcome_told, end_told, ran_told, ran_all_told, messages_told, close_told, closing_told, line_closing, line_told}
use Rattle.replay_run.specs.Printing.{does_nothing}
use Rattle.replay_run.specs.Rebalancing.{stepped, stepped_all, steps_in, plan_in, is_moving_at}
use Rattle.replay_run.specs.Runs.{Run, Connection, Appended, connection_of, fault_on, takes_bytes, next_line, can_open, opened, took_bytes, items_by, forsaken, handled_all, bytes_arrived}
use Rattle.replay_run.proofs.Growing.{Grows, stepped_goes, stepped_all_goes}
use Rattle.replay_run.proofs.LineTexts.{new_with, new_more}
use Rattle.script_run.specs.Outputs.{message_in, messages_in}

-- nothing was appended
pub none_new : (r next : Run) → next.appended ≡ r.appended → new_messages r next ≡ []
none_new r next same = ap (drop (length r.appended)) same ∙ drop_all (length r.appended) r.appended (omega arith)

-- in two parts
both_new : (r mid last : Run) → Grows r mid → Grows mid last → new_messages r last ≡ new_messages r mid ++ new_messages mid last
both_new r mid last first rest =
    let more = rest.appended in
    let is : new_messages mid last ≡ more.0 = new_with mid last more.0 (sym more.1) in
    new_more r mid last more.0 first.appended (sym more.1) ∙ ap (λ ms. new_messages r mid ++ ms) (sym is)

-- what several lists tell

in_both : (a b : List Told) → messages_in (a ++ b) ≡ messages_in a ++ messages_in b
in_both a b = flat_map-append message_in a b

pub in_parts : (a b : List Told) (r mid last : Run) → Grows r mid → Grows mid last → messages_in a ≡ new_messages r mid → messages_in b ≡ new_messages mid last → messages_in (a ++ b) ≡ new_messages r last
in_parts a b r mid last first rest one two = in_both a b ∙ (λ i. one i ++ two i) ∙ sym (both_new r mid last first rest)

-- where one tells no message
pub in_front : (a b : List Told) → messages_in a ≡ [] → messages_in (a ++ b) ≡ messages_in b
in_front a b none = in_both a b ∙ ap (λ ms. ms ++ messages_in b) none

in_back : (a b : List Told) → messages_in b ≡ [] → messages_in (a ++ b) ≡ messages_in a
in_back a b none = in_both a b ∙ ap (λ ms. messages_in a ++ ms) none ∙ append-nil (messages_in a)

pub in_all : (messages : List Appended) → messages_in (all_told messages) ≡ messages
in_all [] = refl
in_all (m ∷ messages) = ap (λ ms. m ∷ ms) (in_all messages)

-- the plan of `rebalance`

in_steps : (steps : List Step) → messages_in (map told.Step steps) ≡ []
in_steps [] = refl
in_steps (step ∷ steps) = in_steps steps

in_plan : (plan : Planned) → messages_in (plan_told plan) ≡ []
in_plan NoMember = refl
in_plan (Unsettled partition) = refl
in_plan (Balanced plan) = in_steps plan.steps

-- the steps that are run
in_ran : (o : Object Request Partition) (skips : List CallId) (r : Run) (steps : List Step) → messages_in (ran_all_told o skips r steps) ≡ new_messages r (stepped_all o skips r steps)
in_ran o skips r [] = sym (none_new r r refl)
in_ran o skips r (step ∷ steps) =
    let mid = stepped o skips r step in
    let sent = new_messages r mid in
    in_parts (ran_told o skips r step) (ran_all_told o skips mid steps) r mid (stepped_all o skips mid steps) ((stepped_goes o r step).grows skips) ((stepped_all_goes o mid steps).grows skips)
    (in_back (all_told sent) (end_told step.partition (is_moving_at o mid step.partition)) refl ∙ in_all sent) (in_ran o skips mid steps)

-- closes

in_close : (c : ℕ) (fault : Option Malformed) → messages_in (close_told c fault) ≡ []
in_close c None = refl
in_close c (Some fault) = refl

in_closing : (after : Run) (line : Line) → messages_in (line_closing after line) ≡ []
in_closing after (Arrive c bytes) = found (connection_of after c)
  where
    found : (at : Option Connection) → messages_in (closing_told c at) ≡ []
    found None = refl
    found (Some k) = in_close c (fault_on k)
in_closing after line = refl

-- a line

module _ (settings : Settings) (skips : List CallId) (r : Run) where
  abbrev o : Object Request Partition
  o = partition_object settings

  -- An outcome tells no message.
  in_outcome : (line : Line) (next : Run) → messages_in (outcome_told settings r line next) ≡ []
  in_outcome (Rebalance most) next = in_plan (plan_in o (next_line r))
  in_outcome line next = refl

  -- What follows it tells them all.
  pub in_busy : (line : Line) (next : Run) → messages_in (messages_told settings skips r line next) ≡ new_messages r next
      → messages_in (outcome_told settings r line next ++ messages_told settings skips r line next ++ line_closing next line) ≡ new_messages r next
  in_busy line next all =
      let first = outcome_told settings r line next in
      let then = messages_told settings skips r line next in
      in_back (first ++ then) (line_closing next line) (in_closing next line) ∙ in_front first then (in_outcome line next) ∙ all

  in_messages : (line : Line) → messages_in (messages_told settings skips r line (after_line o skips r line)) ≡ new_messages r (after_line o skips r line)
  in_messages (Rebalance most) = in_ran o skips (next_line r) (steps_in o (next_line r) most)
  in_messages line = in_all (new_messages r (after_line o skips r line))

  -- bytes that do nothing
  idle_bytes : (k : ℕ) (bytes : List ℕ) → does_nothing o r (Arrive k bytes) ≡ true → new_messages r (after_line o skips r (Arrive k bytes)) ≡ []
  idle_bytes k bytes idle = found (connection_of r k) idle
    where
      by : (x : Connection) (b : Bool) → not b ≡ true → new_messages r (cond b (forsaken (handled_all o skips (took_bytes r x bytes) x (items_by x bytes)) x.conn) (next_line r)) ≡ []
      by x true e = absurd cc
      by x false e = none_new r (next_line r) refl

      found : (at : Option Connection) → elim at [ None ↦ true | Some x ↦ not (takes_bytes o r x) ] ≡ true
          → new_messages r (elim at [ None ↦ next_line r | Some x ↦ bytes_arrived o skips r x bytes ]) ≡ []
      found None e = none_new r (next_line r) refl
      found (Some x) e = by x (takes_bytes o r x) e

  -- A line that does nothing appends nothing.
  idle_none : (line : Line) → does_nothing o r line ≡ true → new_messages r (after_line o skips r line) ≡ []
  idle_none (OpenConn k member) idle = on_if (λ x. new_messages r x ≡ []) (can_open o r k member) (opened r k member) (next_line r) (none_new r (opened r k member) refl) (none_new r (next_line r) refl)
  idle_none (Arrive k bytes) idle = idle_bytes k bytes idle
  idle_none (Clock member moment) idle = absurd cc
  idle_none (Deliver p from to place) idle = absurd cc
  idle_none (Lose p from to place) idle = absurd cc
  idle_none (Repeat p from to place) idle = absurd cc
  idle_none (Resend p end) idle = absurd cc
  idle_none (Move p from to) idle = absurd cc
  idle_none (Join p to) idle = absurd cc
  idle_none (Handover p from to) idle = absurd cc
  idle_none (Advance p) idle = absurd cc
  idle_none (Reopen p) idle = absurd cc
  idle_none (Flow p most) idle = absurd cc
  idle_none (FlowAll most) idle = absurd cc
  idle_none (Crash member) idle = absurd cc
  idle_none (Detect member) idle = absurd cc
  idle_none (Rebalance most) idle = absurd cc
  idle_none line idle = none_new r (next_line r) refl

  pub in_line : (line : Line) → messages_in (line_told settings skips r line (after_line o skips r line)) ≡ new_messages r (after_line o skips r line)
  in_line line = by (does_nothing o r line) refl
    where
      next : Run
      next = after_line o skips r line

      by : (idle : Bool) → does_nothing o r line ≡ idle
          → messages_in (cond idle (came_to outcome.Idle) (outcome_told settings r line next ++ messages_told settings skips r line next ++ line_closing next line)) ≡ new_messages r next
      by true idle = sym (idle_none line idle)
      by false goes = in_busy line next (in_messages line)
