-- The text of a line is that of what it tells, and behind it what it wrote as it went.
use Rattle.std.proofs.Common.{◌≡◌, ℕ, ◌+◌, Bool, true, false, List, [], ◌∷◌, ◌++◌, length, map, codes, Option, Some, None, refl, ap, sym, ◌∙◌, append-nil, append_assoc}
use Rattle.std.specs.List.{flat_map}
use Rattle.std.proofs.lemmas.List.Concat.{flat_map-append}
use Rattle.frame_codec.specs.declared.malformed.Malformed.{Malformed}
use Rattle.grid_base.specs.Objects.{Object}
use Rattle.grid_base.specs.declared.names.CallId.{CallId}
use Rattle.grid_base.specs.declared.calls.Request.{Request}
use Rattle.partition_protocol.specs.Events.{Event, Outcome}
use Rattle.partition_protocol.specs.Events as event
use Rattle.partition_protocol.specs.World.{trail}
use Rattle.partition_world.specs.ContentsOf.{pair_at}
use Rattle.call_engine.specs.Calls.{Settings}
use Rattle.call_engine.specs.Objects.{partition_object}
use Rattle.object_store.specs.Partitions.{Partition}
use Rattle.rebalance.specs.declared.Step.{Step}
use Rattle.rebalance.specs.Plans.{Planned, NoMember, Unsettled, Balanced}
use Rattle.script_lang.specs.declared.line.Line.{Line}
use Rattle.script_lang.specs.declared.line.Line.TheVariants.{Arrive, Flow, FlowAll, Crash, Detect, Rebalance, Dump, Links, Trail, MasterFlow, End}
use Rattle.line_told.specs.Happenings.{event_told, fate_told}
use Rattle.line_told.specs.Outcomes.{words_of}
use Rattle.line_told.specs.Printing.{outcome_text as told_outcome, planned_text, step_text, end_text, fault_text, text_of}
use Rattle.line_told.specs.Words.{words_line}
use Rattle.line_told.specs.declared.told.Appended.{Appended}
use Rattle.line_told.specs.declared.told.LineOutcome.{LineOutcome}
use Rattle.line_told.specs.declared.told.LineOutcome.TheVariants as outcome
use Rattle.line_told.specs.declared.told.Told.{Told}
use Rattle.line_told.specs.declared.told.Told.TheVariants as told
use Rattle.line_told.proofs.ToldHappenings.{same_words}
use Rattle.replay_run.specs.AfterLines.{after_line}
use Rattle.replay_run.specs.Appending.{appended_text, new_messages}
use Rattle.replay_run.specs.LineTold.{came_to, all_told, is_advance, event_outcome, fate_outcome, plan_told, outcome_told, end_told, ran_told, ran_all_told, messages_told, close_told, closing_told, line_closing, line_told, line_printed}
use Rattle.replay_run.specs.Printing.{done_word, fate_words, does_nothing, event_text, fate_text, deliveries, in_flight, outcome_text, line_messages, close_text, closing_text, line_close, line_dump, line_links, line_text, printed_by, entry_text, outcome_at, nothing_text}
use Rattle.replay_run.specs.Rebalancing.{is_moving_at, stepped, steps_in, plan_in}
use Rattle.replay_run.specs.RebalancingTexts.{plan_text, ran_text, ran_texts}
use Rattle.replay_run.specs.Runs.{Run, Connection, At, connection_of, fault_on, next_line, event_by, world_at}
use Rattle.replay_run.specs.WorldCalls.{texts_of}
use Rattle.replay_run.proofs.LineCases.{is_writing, writes_nothing}
use Rattle.replay_run.proofs.Bounds.{line_lines}
use Rattle.replay_run.proofs.Rebalanced.{stepped_kept}

module _ (line : ℕ) where
  pub text_append : (xs ys : List Told) → text_of line (xs ++ ys) ≡ text_of line xs ++ text_of line ys
  text_append xs ys = flat_map-append _ xs ys

  pub messages_text : (ms : List Appended) → text_of line (all_told ms) ≡ texts_of ms
  messages_text [] = refl
  messages_text (m ∷ ms) = ap (λ xs. appended_text m ++ xs) (messages_text ms)

  -- outcomes

  pub one_text : (came : LineOutcome) → text_of line (came_to came) ≡ told_outcome line came
  one_text came = append-nil (told_outcome line came)

  pub event_words : (e : Event Request) (x : Outcome) → told_outcome line (event_told (is_advance e) x) ≡ words_line line (words_of (done_word e) x)
  event_words event.Advance event.NothingDone = refl
  event_words event.Advance event.Done = refl
  event_words event.Advance (event.HeldAt seen) = refl
  event_words event.Advance (event.ReleasedAt seen) = refl
  event_words event.Advance (event.Refused why) = ap (words_line line) (same_words (codes "ok") (event.Refused why))
  event_words event.Advance (event.TookMessage how) = ap (words_line line) (same_words (codes "ok") (event.TookMessage how))
  event_words event.Advance (event.RowMadeAt version) = refl
  event_words event.Advance (event.MoveIsRefused why) = ap (words_line line) (same_words (codes "ok") (event.MoveIsRefused why))
  event_words event.Advance (event.ReopenIsRefused why) = ap (words_line line) (same_words (codes "ok") (event.ReopenIsRefused why))
  event_words e x = ap (words_line line) (same_words (codes "ok") x)

  pub fate_is : (x : Outcome) → told_outcome line (fate_told x) ≡ words_line line (fate_words x)
  fate_is event.Done = refl
  fate_is (event.RowMadeAt version) = refl
  fate_is x = refl

  steps_is : (steps : List Step) → text_of line (map told.Step steps) ≡ flat_map (step_text line) steps
  steps_is [] = refl
  steps_is (step ∷ steps) = ap (λ xs. step_text line step ++ xs) (steps_is steps)

  plan_is : (planned : Planned) → text_of line (plan_told planned) ≡ plan_text line planned
  plan_is NoMember = one_text outcome.NoMember
  plan_is (Unsettled partition) = one_text (outcome.Unsettled partition)
  plan_is (Balanced plan) = ap (λ xs. planned_text line (length plan.steps) ++ xs) (steps_is plan.steps)

  one_event : (settings : Settings) (before : Run) (at : Option At) → text_of line (came_to (event_outcome settings before at)) ≡ event_text settings before line at
  one_event settings before None = one_text outcome.Ran
  one_event settings before (Some e) =
      one_text (event_outcome settings before (Some e)) ∙ event_words e.event (outcome_at (partition_object settings) before e.partition e.event)

  one_fate : (settings : Settings) (before : Run) (e : Event Request) → text_of line (came_to (fate_outcome settings before e)) ≡ fate_text settings before line e
  one_fate settings before e = one_text (fate_outcome settings before e) ∙ fate_is (outcome_at (partition_object settings) before 0 e)

  -- closes

  close_is : (c : ℕ) (fault : Option Malformed) → text_of line (close_told c fault) ≡ close_text line c fault
  close_is c None = refl
  close_is c (Some fault) = append-nil (fault_text line c fault)

  closing_is : (c : ℕ) (found : Option Connection) → text_of line (closing_told c found) ≡ closing_text line c found
  closing_is c None = refl
  closing_is c (Some k) = close_is c (fault_on k)

  -- steps that are run

  ran_is : (o : Object Request Partition) (skips : List CallId) (r : Run) (steps : List Step) → r.lines ≡ line → text_of line (ran_all_told o skips r steps) ≡ ran_texts o skips r steps
  ran_is o skips r [] at = refl
  ran_is o skips r (step ∷ steps) at =
      let next = stepped o skips r step in
      let moving = is_moving_at o next step.partition in
      let said = new_messages r next in
      let one : text_of line (ran_told o skips r step) ≡ ran_text o skips r step =
      text_append (all_told said) (end_told step.partition moving)
      ∙ (λ i. messages_text said i ++ (append-nil (end_text line step.partition moving) ∙ ap (λ n. end_text n step.partition moving) (sym at)) i) in
      text_append (ran_told o skips r step) (ran_all_told o skips next steps)
      ∙ (λ i. one i ++ ran_is o skips next steps ((stepped_kept o skips r step).lines ∙ at) i)

outcome_is : (settings : Settings) (before : Run) (line : Line) (after : Run) → text_of after.lines (outcome_told settings before line after) ≡ outcome_text settings before line after
outcome_is settings before (Dump p member) after = one_text after.lines (outcome.Dumped (pair_at (world_at (partition_object settings) after p) member))
outcome_is settings before (Trail p) after = one_text after.lines (outcome.Trail (length (trail (world_at (partition_object settings) after p))))
outcome_is settings before (Links p) after = one_text after.lines (outcome.InFlight (in_flight settings after p))
outcome_is settings before (Flow p most) after = one_text after.lines (outcome.Flowed (deliveries before after))
outcome_is settings before (FlowAll most) after = one_text after.lines (outcome.Flowed (deliveries before after))
outcome_is settings before (MasterFlow p most) after = one_text after.lines (outcome.Flowed 0)
outcome_is settings before (Crash member) after = one_fate after.lines settings before (event.Crash member)
outcome_is settings before (Detect member) after = one_fate after.lines settings before (event.Detect member)
outcome_is settings before (Rebalance most) after = plan_is after.lines (plan_in (partition_object settings) (next_line before))
outcome_is settings before line after = one_event after.lines settings before (event_by line)

-- what follows, of a line that is counted once
messages_is : (settings : Settings) (skips : List CallId) (before : Run) (line : Line) (after : Run) → after.lines ≡ before.lines + 1 → text_of after.lines (messages_told settings skips before line after) ≡ line_messages settings skips before line after
messages_is settings skips before (Rebalance most) after counted = ran_is after.lines (partition_object settings) skips (next_line before) (steps_in (partition_object settings) (next_line before) most) (sym counted)
messages_is settings skips before line after counted = messages_text after.lines (new_messages before after)

closes_is : (after : Run) (line : Line) → text_of after.lines (line_closing after line) ≡ line_close after line
closes_is after (Arrive c bytes) = closing_is after.lines c (connection_of after c)
closes_is after line = refl

-- A line that does nothing writes nothing.
idle_writes_nothing : (settings : Settings) (r : Run) (line : Line) → does_nothing (partition_object settings) r line ≡ true → is_writing line ≡ false
idle_writes_nothing settings r (Dump p member) idle = absurd cc
idle_writes_nothing settings r (Links p) idle = absurd cc
idle_writes_nothing settings r (Trail p) idle = absurd cc
idle_writes_nothing settings r End idle = absurd cc
idle_writes_nothing settings r line idle = refl

-- A line that writes is counted, and changes nothing.
abbrev written_after : Settings → Run → Line → Run → List ℕ
written_after settings r line after =
    let o = partition_object settings in
    line_dump o after line ++ line_links settings after line ++ flat_map (entry_text after.lines) (printed_by o after line)

writes_is : (settings : Settings) (skips : List CallId) (r : Run) (line : Line) → line_printed settings r line ≡ written_after settings r line (after_line (partition_object settings) skips r line)
writes_is settings skips r (Dump p member) = refl
writes_is settings skips r (Links p) = refl
writes_is settings skips r (Trail p) = refl
writes_is settings skips r End = refl
writes_is settings skips r line = refl

-- the law of a line
module _ (settings : Settings) (skips : List CallId) (r : Run) (line : Line) where
  abbrev o : Object Request Partition
  o = partition_object settings

  abbrev next : Run
  next = after_line o skips r line

  abbrev outcome_first : List Told
  outcome_first = outcome_told settings r line next

  abbrev said : List Told
  said = messages_told settings skips r line next

  abbrev front : List ℕ
  front = outcome_text settings r line next ++ line_messages settings skips r line next ++ line_close next line

  abbrev dumped : List ℕ
  dumped = line_dump o next line

  abbrev linked : List ℕ
  linked = line_links settings next line

  abbrev entries : List ℕ
  entries = flat_map (entry_text next.lines) (printed_by o next line)

  told_front : text_of next.lines (outcome_first ++ said ++ line_closing next line) ≡ front
  told_front =
      text_append next.lines (outcome_first ++ said) (line_closing next line)
      ∙ ap (λ xs. xs ++ text_of next.lines (line_closing next line)) (text_append next.lines outcome_first said)
      ∙ (λ i. (outcome_is settings r line next i ++ messages_is settings skips r line next (line_lines o skips r line) i) ++ closes_is next line i)

  grouped : front ++ (dumped ++ linked ++ entries) ≡ front ++ dumped ++ linked ++ entries
  grouped = sym (append_assoc front (dumped ++ linked) entries) ∙ ap (λ xs. xs ++ entries) (sym (append_assoc front dumped linked))

  by_idle : (idle : Bool) → does_nothing o r line ≡ idle → text_of next.lines (line_told settings skips r line next) ++ line_printed settings r line ≡ line_text settings skips r line next
  by_idle true idle = rw idle ((λ i. append-nil (nothing_text next.lines) i ++ writes_nothing settings r line (idle_writes_nothing settings r line idle) i) ∙ append-nil (nothing_text next.lines))
  by_idle false goes = rw goes ((λ i. told_front i ++ writes_is settings skips r line i) ∙ grouped)

  pub line_is : text_of next.lines (line_told settings skips r line next) ++ line_printed settings r line ≡ line_text settings skips r line next
  line_is = by_idle (does_nothing o r line) refl
