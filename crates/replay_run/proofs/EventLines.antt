-- The lines of events: the run goes on from its next line, and tells the outcome and the messages.
use Rattle.std.proofs.Common.{◌≡◌, ℕ, ◌+◌, ◌≤◌, ◌<◌, false, List, [], ◌++◌, Some, refl, ap, sym, ◌∙◌, subst, append-nil, append_assoc, arith}
use Rattle.std.specs.List.{find}
use Rattle.grid_base.specs.declared.names.CallId.{CallId}
use Rattle.partition_protocol.specs.Arrivals.{asked_by}
use Rattle.partition_protocol.specs.Events as event
use Rattle.partition_protocol.specs.Service.{numbers_below}
use Rattle.partition_protocol.proofs.Lists.{in_contains}
use Rattle.call_engine.specs.Calls.{Settings}
use Rattle.call_engine.specs.Objects.{partition_object}
use Rattle.script_lang.specs.Limits.{most_lines}
use Rattle.script_lang.specs.Lines.{IsWithin}
use Rattle.script_lang.specs.declared.line.Line.{Line as ScriptLine}
use Rattle.script_lang.specs.declared.line.Line.TheVariants.{Grid as Begin, OpenConn, Arrive, Clock, Deliver, Lose, Repeat, Flow, FlowAll, Resend, Crash, Detect, Move, Join, Handover, Advance, Reopen, Rebalance, Dump, Links, Trail, Near, NearGet, NearFeed, Masters, Told as IsTold, MasterDeliver, MasterLose, MasterResend, MasterFlow, Comment, End}
use Rattle.replay_run.specs.declared.events.Fate.{Fate}
use Rattle.replay_run.specs.declared.events.Fate.TheVariants as fate
use Rattle.replay_run.specs.declared.grid.Grid.{Grid}
use Rattle.replay_run.specs.Runs.{Run, At, partitions, is_connection, next_line, event_by, takes, takes_in}
use Rattle.replay_run.specs.AfterLines.{after_line}
use Rattle.replay_run.specs.Printing.{does_nothing, line_dump, line_links, printed_by, outcome_at, words_line, words_of, done_word, deliveries, new_messages, outcome_text, line_messages, line_close}
use Rattle.replay_run.specs.Rebalancing.{most_line_events}
use Rattle.replay_run.specs.Endings.{new_arrivals, AreAmong}
use Rattle.replay_run.specs.Skips.{AreOfLine}
use Rattle.replay_run.specs.ScriptRuns.{IsRun, line_counted}
use Rattle.replay_run.specs.Grids.{FormOf, IsSmall, AreFew, IsBounded, Stands, HasRun, IsGivenUp}
use Rattle.replay_run.specs.WorldCalls.{texts_of, event_in_all, line_of_fate, HasRoomAt, IsAmid, HasGoneOn, Onward, GivesUpSo}
use Rattle.replay_run.proofs.Bounds.{messages_fewer, arrivals_fewer, kept_small}
use Rattle.replay_run.proofs.EventRuns.{Kept}
use Rattle.replay_run.proofs.GridLines.{counted, next_holds}
use Rattle.replay_run.proofs.LineBounds.{line_bounded}
use Rattle.replay_run.proofs.LineTexts.{told_with}
use Rattle.replay_run.specs.LineTold.{came_to, all_told, is_advance, outcome_told, messages_told, line_closing, line_told}
use Rattle.line_told.specs.Happenings.{event_told, fate_told}
use Rattle.line_told.specs.declared.told.LineOutcome.TheVariants.{Flowed}
use Rattle.line_told.specs.declared.told.Told.{Told}

-- the run of the next line, before its events
pub counted_amid : {V : Type 0} {T : V → Type 0} {form : FormOf V T} {settings : Settings} (grid : Grid V T) (r : Run) (number : ℕ) → Stands form settings grid r → number ≡ r.lines + 1 → IsAmid form settings (counted grid number) (next_line r)
counted_amid grid r number s at_line = record {
  run = line_counted r s.run;
  holds = next_holds grid r number s.holds at_line;
  listeners = record { size = s.listeners.size; each = s.listeners.each };
  settled = s.settled;
}

-- Each partition has room for the events of one line.
line_room : (settings : Settings) (r : Run) → IsRun (partition_object settings) r → IsSmall r → AreFew r → r.lines + 1 ≤ most_lines → (p most : ℕ) → most ≤ most_line_events → HasRoomAt (next_line r) p most
line_room settings r run small few lines p most size =
    let own = few p in
    let calls = arrivals_fewer r run in
    let messages = messages_fewer r in
    omega (arith, own, calls, messages, small, lines, size)

pub stands_room : {V : Type 0} {T : V → Type 0} {form : FormOf V T} {settings : Settings} (grid : Grid V T) (r : Run) → Stands form settings grid r → r.lines + 1 ≤ most_lines → (p most : ℕ) → most ≤ most_line_events → HasRoomAt (next_line r) p most
stands_room {settings = settings} grid r s = line_room settings r s.run s.small s.few

-- a line of which no call found no memory
pub no_calls : (settings : Settings) (r : Run) (line : ScriptLine) → AreOfLine (partition_object settings) r line []
no_calls settings r line id there = absurd (in_contains id [] there)

pub line_given_up : (settings : Settings) (r : Run) (line : ScriptLine) (onward : Onward) → ((skips : List CallId) → after_line (partition_object settings) skips r line ≡ onward skips) → GivesUpSo (next_line r) onward → IsGivenUp settings r line
line_given_up settings r line onward after up = record {
  skips = up.skips;
  of_line = subst (λ (x : Run). AreAmong (new_arrivals r x) up.skips) (sym (after up.skips)) up.own;
  full = ap (λ (x : Run). x.full) (after up.skips) ∙ up.full;
}

-- It tells its outcome and its messages alone, and they alone are its text.
pub record PrintsMessages (settings : Settings) (skips : List CallId) (r next : Run) (line : ScriptLine) : Type 0 where
  pub goes : does_nothing (partition_object settings) r line ≡ false
  pub tells : messages_told settings skips r line next ≡ all_told (new_messages r next)
  pub closes : line_closing next line ≡ []
  pub said : line_messages settings skips r line next ≡ texts_of (new_messages r next)
  pub close : line_close next line ≡ []
  pub dump : line_dump (partition_object settings) next line ≡ []
  pub links : line_links settings next line ≡ []
  pub printed : printed_by (partition_object settings) next line ≡ []

module _ {V : Type 0} {T : V → Type 0} {form : FormOf V T} {settings : Settings} (grid new : Grid V T) (r : Run) (skips : List CallId) (next : Run) (line : ScriptLine) (s : Stands form settings grid r) (limit : r.lines + 1 ≤ most_lines)
    (after : after_line (partition_object settings) skips r line ≡ next) (own : AreAmong (new_arrivals r next) skips) (kept : Kept (next_line r) next) (few : AreFew next) (prints : PrintsMessages settings skips r next line)
    (start said : List Told) (on : HasGoneOn form settings new (next_line r) next start said) where
  stands_now : Stands form settings new next
  stands_now = record {
    run = on.amid.run;
    small = kept_small r next kept s.small;
    few = few;
    bounded = subst IsBounded after (line_bounded (partition_object settings) skips r limit s.bounded line);
    holds = on.amid.holds;
    listeners = on.amid.listeners;
    settled = on.amid.settled;
    reached = λ c k found. subst (λ m. k.member < m) (sym kept.members) (s.reached c k (ap (find (is_connection c)) (sym kept.connections) ∙ found));
  }

  abbrev parts : List Told
  parts = outcome_told settings r line next ++ all_told on.messages

  line_tells : line_told settings skips r line next ≡ outcome_told settings r line next ++ all_told on.messages
  line_tells =
      told_with settings skips r next line on.messages prints.goes prints.tells on.appended
      ∙ ap (λ xs. parts ++ xs) prints.closes
      ∙ append-nil parts

  pub events_line : (outcome earlier mid later : List Told) → start ≡ [] → outcome ≡ outcome_told settings r line next → mid ≡ earlier ++ outcome → later ≡ mid ++ said → HasRun form settings new r line earlier later
  events_line outcome earlier mid later none outcome_is began is = record {
    skips = skips;
    of_line = subst (λ (x : Run). AreAmong (new_arrivals r x) skips) (sym after) own;
    stands = subst (Stands form settings new) (sym after) stands_now;
    added =
        is ∙ (λ i. (began ∙ ap (λ xs. earlier ++ xs) outcome_is) i ++ (on.added ∙ ap (λ xs. xs ++ all_told on.messages) none) i)
        ∙ append_assoc earlier (outcome_told settings r line next) (all_told on.messages)
        ∙ ap (λ xs. earlier ++ xs) (sym (ap (λ (x : Run). line_told settings skips r line x) after ∙ line_tells));
  }

-- one event of a partition

pub record IsOfEvent (settings : Settings) (r : Run) (line : ScriptLine) (e : At) : Type 0 where
  pub after : (skips : List CallId) → after_line (partition_object settings) skips r line ≡ takes (partition_object settings) skips (next_line r) e.partition e.event
  pub tells : (next : Run) → came_to (event_told (is_advance e.event) (outcome_at (partition_object settings) r e.partition e.event)) ≡ outcome_told settings r line next
  pub outcome : (next : Run) → words_line next.lines (words_of (done_word e.event) (outcome_at (partition_object settings) r e.partition e.event)) ≡ outcome_text settings r line next
  pub prints : (skips : List CallId) (next : Run) → PrintsMessages settings skips r next line
  pub unasked : asked_by e.event ≡ []
  pub within : (members size : ℕ) → IsWithin members size line → e.partition < partitions

module _ (settings : Settings) (r : Run) where
  same_event : (line : ScriptLine) (x e : At) → Some x ≡ Some e → IsOfEvent settings r line x → IsOfEvent settings r line e
  same_event line x e same = let one : x ≡ e = cc in subst (IsOfEvent settings r line) one

  pub of_event : (line : ScriptLine) (e : At) → event_by line ≡ Some e → IsOfEvent settings r line e
  of_event (Deliver p from to place) e same = same_event (Deliver p from to place) (record { partition = p; event = event.Deliver from to place }) e same
      (record { after = λ skips. refl; tells = λ next. refl; outcome = λ next. refl; prints = λ skips next. record { goes = refl; tells = refl; closes = refl; said = refl; close = refl; dump = refl; links = refl; printed = refl }; unasked = refl; within = λ members size h. (let low = h.0 in omega (arith, low)) })
  of_event (Lose p from to place) e same = same_event (Lose p from to place) (record { partition = p; event = event.Lose from to place }) e same
      (record { after = λ skips. refl; tells = λ next. refl; outcome = λ next. refl; prints = λ skips next. record { goes = refl; tells = refl; closes = refl; said = refl; close = refl; dump = refl; links = refl; printed = refl }; unasked = refl; within = λ members size h. (let low = h.0 in omega (arith, low)) })
  of_event (Repeat p from to place) e same = same_event (Repeat p from to place) (record { partition = p; event = event.Repeat from to place }) e same
      (record { after = λ skips. refl; tells = λ next. refl; outcome = λ next. refl; prints = λ skips next. record { goes = refl; tells = refl; closes = refl; said = refl; close = refl; dump = refl; links = refl; printed = refl }; unasked = refl; within = λ members size h. (let low = h.0 in omega (arith, low)) })
  of_event (Resend p end) e same = same_event (Resend p end) (record { partition = p; event = event.Resend end }) e same
      (record { after = λ skips. refl; tells = λ next. refl; outcome = λ next. refl; prints = λ skips next. record { goes = refl; tells = refl; closes = refl; said = refl; close = refl; dump = refl; links = refl; printed = refl }; unasked = refl; within = λ members size h. (let low = h.0 in omega (arith, low)) })
  of_event (Move p from to) e same = same_event (Move p from to) (record { partition = p; event = event.BeginMove from to }) e same
      (record { after = λ skips. refl; tells = λ next. refl; outcome = λ next. refl; prints = λ skips next. record { goes = refl; tells = refl; closes = refl; said = refl; close = refl; dump = refl; links = refl; printed = refl }; unasked = refl; within = λ members size h. (let low = h.0 in omega (arith, low)) })
  of_event (Join p to) e same = same_event (Join p to) (record { partition = p; event = event.BeginJoin to }) e same
      (record { after = λ skips. refl; tells = λ next. refl; outcome = λ next. refl; prints = λ skips next. record { goes = refl; tells = refl; closes = refl; said = refl; close = refl; dump = refl; links = refl; printed = refl }; unasked = refl; within = λ members size h. (let low = h.0 in omega (arith, low)) })
  of_event (Handover p from to) e same = same_event (Handover p from to) (record { partition = p; event = event.BeginHandover from to }) e same
      (record { after = λ skips. refl; tells = λ next. refl; outcome = λ next. refl; prints = λ skips next. record { goes = refl; tells = refl; closes = refl; said = refl; close = refl; dump = refl; links = refl; printed = refl }; unasked = refl; within = λ members size h. (let low = h.0 in omega (arith, low)) })
  of_event (Advance p) e same = same_event (Advance p) (record { partition = p; event = event.Advance }) e same
      (record { after = λ skips. refl; tells = λ next. refl; outcome = λ next. refl; prints = λ skips next. record { goes = refl; tells = refl; closes = refl; said = refl; close = refl; dump = refl; links = refl; printed = refl }; unasked = refl; within = λ members size h. omega (arith, h) })
  of_event (Reopen p) e same = same_event (Reopen p) (record { partition = p; event = event.Reopen }) e same
      (record { after = λ skips. refl; tells = λ next. refl; outcome = λ next. refl; prints = λ skips next. record { goes = refl; tells = refl; closes = refl; said = refl; close = refl; dump = refl; links = refl; printed = refl }; unasked = refl; within = λ members size h. omega (arith, h) })
  of_event (Begin members backups capacity) e same = absurd cc
  of_event (OpenConn c member) e same = absurd cc
  of_event (Arrive c bytes) e same = absurd cc
  of_event (Clock member moment) e same = absurd cc
  of_event (Flow p most) e same = absurd cc
  of_event (FlowAll most) e same = absurd cc
  of_event (Crash member) e same = absurd cc
  of_event (Detect member) e same = absurd cc
  of_event (Rebalance most) e same = absurd cc
  of_event (Dump p member) e same = absurd cc
  of_event (Links p) e same = absurd cc
  of_event (Trail p) e same = absurd cc
  of_event (Near c name capacity) e same = absurd cc
  of_event (NearGet c key) e same = absurd cc
  of_event (NearFeed c most) e same = absurd cc
  of_event Masters e same = absurd cc
  of_event (IsTold member crashed) e same = absurd cc
  of_event (MasterDeliver p from to place) e same = absurd cc
  of_event (MasterLose p from to place) e same = absurd cc
  of_event (MasterResend p member) e same = absurd cc
  of_event (MasterFlow p most) e same = absurd cc
  of_event Comment e same = absurd cc
  of_event End e same = absurd cc

  pub event_given_up : (line : ScriptLine) (e : At) → event_by line ≡ Some e → GivesUpSo (next_line r) (λ skips. takes (partition_object settings) skips (next_line r) e.partition e.event) → IsGivenUp settings r line
  event_given_up line e is up = line_given_up settings r line (λ skips. takes (partition_object settings) skips (next_line r) e.partition e.event) (of_event line e is).after up

  -- flows

  pub flow_prints : (skips : List CallId) (next : Run) (p most : ℕ) → PrintsMessages settings skips r next (Flow p most)
  flow_prints skips next p most = record { goes = refl; tells = refl; closes = refl; said = refl; close = refl; dump = refl; links = refl; printed = refl }

  pub flow_all_prints : (skips : List CallId) (next : Run) (most : ℕ) → PrintsMessages settings skips r next (FlowAll most)
  flow_all_prints skips next most = record { goes = refl; tells = refl; closes = refl; said = refl; close = refl; dump = refl; links = refl; printed = refl }

  -- It tells how many messages were delivered.
  pub flow_outcome : (next : Run) (delivered : ℕ) → deliveries (next_line r) next ≡ delivered → came_to (Flowed delivered) ≡ came_to (Flowed (deliveries r next))
  flow_outcome next delivered counts = λ i. came_to (Flowed (sym counts i))

  -- the same event of all partitions

  pub record IsOfFate (f : Fate) : Type 0 where
    pub after : (skips : List CallId) → after_line (partition_object settings) skips r (line_of_fate f) ≡ takes_in (partition_object settings) skips (next_line r) (event_in_all f) (numbers_below partitions)
    pub tells : (next : Run) → came_to (fate_told (outcome_at (partition_object settings) r 0 (event_in_all f))) ≡ outcome_told settings r (line_of_fate f) next
    pub prints : (skips : List CallId) (next : Run) → PrintsMessages settings skips r next (line_of_fate f)

  pub of_fate : (f : Fate) → IsOfFate f
  of_fate (fate.Crash member) = record { after = λ skips. refl; tells = λ next. refl; prints = λ skips next. record { goes = refl; tells = refl; closes = refl; said = refl; close = refl; dump = refl; links = refl; printed = refl } }
  of_fate (fate.Detect member) = record { after = λ skips. refl; tells = λ next. refl; prints = λ skips next. record { goes = refl; tells = refl; closes = refl; said = refl; close = refl; dump = refl; links = refl; printed = refl } }
