-- A line with masters that the grid runs as it stands: one that asks for no event, or for one that happens at once and of which the masters are asked nothing.
use Rattle.std.proofs.Common.{◌≡◌, ◌≢◌, ℕ, ◌+◌, ◌<◌, Bool, true, false, true≢false, not, ◌&&◌, ◌==◌, is_some, cond, List, [], ◌∷◌, ◌++◌, map, length, Some, None, slice_get, slice_set, unwrap_or, refl, ap, sym, ◌∙◌, subst, append-nil}
use Rattle.std.proofs.lemmas.Option.{slice_get-get_or}
use Rattle.grid_base.specs.Objects.{Object}
use Rattle.grid_base.specs.declared.names.CallId.{CallId}
use Rattle.grid_base.specs.declared.calls.Request.{Request}
use Rattle.object_store.specs.Partitions.{Partition}
use Rattle.call_engine.specs.Calls.{Settings}
use Rattle.call_engine.specs.Objects.{partition_object}
use Rattle.partition_table.specs.Rows.{is_empty}
use Rattle.partition_protocol.specs.Events.{Event, happens, run}
use Rattle.partition_protocol.specs.World.{map_or}
use Rattle.partition_protocol.specs.Events as event
use Rattle.partition_protocol.proofs.Lists.{set_itself}
use Rattle.masters_protocol.specs.Machine.{Masters, master, pending}
use Rattle.masters_protocol.specs.Machine as masters
use Rattle.masters_world.specs.Decisions.{Decision, event_of}
use Rattle.masters_world.specs.Machine.{Ruled, Asks, past, proposals, proposing, asked_by, at_once_of, masters_say, masters_after, published_by, events_by}
use Rattle.masters_world.proofs.Lists.{past_append}
use Rattle.script_lang.specs.declared.line.Line.{Line as ScriptLine}
use Rattle.script_lang.specs.declared.line.Line.TheVariants.{Grid, OpenConn, Arrive, Clock, Deliver, Lose, Repeat, Flow, FlowAll, Resend, Crash, Detect, Move, Join, Handover, Advance, Reopen, Rebalance, Dump, Links, Trail, Near, NearGet, NearFeed, Masters as MastersLine, Told, MasterDeliver, MasterLose, MasterResend, MasterFlow, Comment, End}
use Rattle.replay_run.specs.Runs.{Run, At, next_line, event_by}
use Rattle.replay_run.specs.Appending.{new_messages}
use Rattle.line_told.specs.Happenings.{event_told}
use Rattle.replay_run.specs.LineTold.{came_to, all_told, is_advance, outcome_told, messages_told, line_closing}
use Rattle.replay_run.specs.LineTold as grid
use Rattle.replay_run.specs.Printing.{outcome_at}
use Rattle.line_told.specs.declared.told.LineOutcome.TheVariants.{Idle}
use Rattle.replay_run.proofs.EventLines.{PrintsMessages, of_event}
use Rattle.masters_run.specs.Runs.{RuledRun, masters_at, ruled_at, meets_full_link, takes_each, goes, counted}
use Rattle.masters_run.specs.AfterLines.{by_grid, ruled_line}
use Rattle.masters_run.specs.LineTold.{event_outcome, said, asked_outcome, all_published, followed, grid_told, asked_told, ruled_told}
use Rattle.masters_run.specs.Parts.{is_later, is_held_back, is_of_masters}
use Rattle.masters_run.proofs.Going.{goes_far}
use Rattle.masters_run.proofs.OwnLines.{IsPlain}

-- an event that happens at once, and proposes nothing

pub past_itself : {X : Type 0} (xs : List X) → past xs xs ≡ []
past_itself xs = ap (λ ys. past xs ys) (sym (append-nil xs)) ∙ past_append xs []

pub asks_by_proposals : {C : Type 0} (j : Ruled C) (e : Event C) → ((m : ℕ) → e ≢ event.Crash m) → asked_by j (Asks e) ≡ proposing (proposals j e)
asks_by_proposals j (event.Call m conn number call now) other = refl
asks_by_proposals j (event.Deliver f t i) other = refl
asks_by_proposals j (event.Lose f t i) other = refl
asks_by_proposals j (event.Repeat f t i) other = refl
asks_by_proposals j (event.Resend end) other = refl
asks_by_proposals j (event.Crash m) other = absurd (other m refl)
asks_by_proposals j (event.Detect m) other = refl
asks_by_proposals j (event.BeginMove from to) other = refl
asks_by_proposals j (event.BeginJoin to) other = refl
asks_by_proposals j (event.BeginHandover from to) other = refl
asks_by_proposals j event.Advance other = refl
asks_by_proposals j event.Reopen other = refl

pub masters_there : (s : RuledRun) (p : ℕ) → p < length s.masters → slice_get s.masters p ≡ Some (masters_at s p)
masters_there s p low =
    let there = slice_get-get_or s.masters p (masters.start s.run.members) low in
    there ∙ ap Some (sym (ap (λ m. unwrap_or m (masters.start s.run.members)) there))

-- Where the masters are asked nothing, their run stays as it is.
module _ (o : Object Request Partition) (s : RuledRun) (p : ℕ) (e : Event Request) (none : asked_by (ruled_at o s p) (Asks e) ≡ []) where
  abbrev j : Ruled Request
  j = ruled_at o s p

  pub masters_stay : masters_after j (Asks e) ≡ j.masters
  masters_stay = ap (masters.run j.masters) none

  pub nothing_published : published_by j (Asks e) ≡ []
  nothing_published = ap (λ (w : Masters Decision). past j.masters.published w.published) masters_stay ∙ past_itself j.masters.published

  pub events_at_once : events_by j (Asks e) ≡ at_once_of j e
  events_at_once = ap (λ ds. at_once_of j e ++ map (event_of j.world.members) ds) nothing_published ∙ append-nil (at_once_of j e)

  module _ (skips : List CallId) (low : p < length s.masters) where
    pub goes_at_once : goes o skips s p (Asks e) ≡ record s { run = takes_each o skips s.run p (at_once_of j e) }
    goes_at_once =
        let free = ap (λ es. meets_full_link j.masters es) none in
        let run = ap (λ es. takes_each o skips s.run p es) events_at_once in
        let same = ap (λ w. slice_set s.masters p w) masters_stay ∙ set_itself s.masters p j.masters (masters_there s p low) in
        goes_far o skips s p (Asks e) free ∙ (λ i. record { run = run i; masters = same i })

  -- what it says

  pub followed_at_once : (skips : List CallId) → followed o skips s p (Asks e) ≡ all_told (new_messages s.run (goes o skips s p (Asks e)).run)
  followed_at_once skips =
      ap (λ ds. all_published o p (length j.masters.published + 1) (run o j.world (at_once_of j e)) ds ++ all_told (new_messages s.run (goes o skips s p (Asks e)).run)) nothing_published

  pub says_at_once : asked_outcome o j (Asks e) ≡ said [] (map (event_outcome o j.world) (at_once_of j e))
  says_at_once = ap (λ es. said (masters_say j.masters es) (map (event_outcome o j.world) (at_once_of j e))) none

-- a line of the grid that tells its outcome and its messages alone
pub told_of_messages : (settings : Settings) (skips : List CallId) (r next : Run) (line : ScriptLine) → PrintsMessages settings skips r next line → grid.line_told settings skips r line next ≡ outcome_told settings r line next ++ all_told (new_messages r next)
told_of_messages settings skips r next line prints =
    let outcome = outcome_told settings r line next in
    ap (λ b. cond b (came_to Idle) (outcome ++ messages_told settings skips r line next ++ line_closing next line)) prints.goes
    ∙ (λ i. outcome ++ prints.tells i ++ prints.closes i) ∙ append-nil (outcome ++ all_told (new_messages r next))

-- lines

-- a line that is the grid's own
pub record IsOwn (settings : Settings) (s : RuledRun) (line : ScriptLine) : Type 0 where
  pub after : (skips : List CallId) → ruled_line (partition_object settings) skips s line ≡ by_grid (partition_object settings) skips s line
  pub tells : (skips : List CallId) (next : RuledRun) → ruled_told settings skips s line next ≡ grid_told settings skips s line next
  pub plain : IsPlain line
  pub none : event_by line ≡ None

-- a line that is an event of a partition
pub record IsEvent (settings : Settings) (s : RuledRun) (line : ScriptLine) (e : At) : Type 0 where
  pub is : event_by line ≡ Some e
  pub after : (skips : List CallId) → ruled_line (partition_object settings) skips s line ≡ goes (partition_object settings) skips (counted s) e.partition (Asks e.event)
  pub tells : (skips : List CallId) (next : RuledRun) → ruled_told settings skips s line next ≡ asked_told (partition_object settings) skips (counted s) e.partition (Asks e.event)
  pub no_crash : (m : ℕ) → e.event ≢ event.Crash m

module _ (settings : Settings) (s : RuledRun) where
  same_event : (line : ScriptLine) (x e : At) → Some x ≡ Some e → IsEvent settings s line x → IsEvent settings s line e
  same_event line x e same = let one : x ≡ e = cc in subst (IsEvent settings s line) one

  pub as_event : (line : ScriptLine) (e : At) → event_by line ≡ Some e → IsEvent settings s line e
  as_event (Deliver p from to place) e same = same_event (Deliver p from to place) (record { partition = p; event = event.Deliver from to place }) e same (record { is = refl; after = λ skips. refl; tells = λ skips next. refl; no_crash = λ m z. absurd cc })
  as_event (Lose p from to place) e same = same_event (Lose p from to place) (record { partition = p; event = event.Lose from to place }) e same (record { is = refl; after = λ skips. refl; tells = λ skips next. refl; no_crash = λ m z. absurd cc })
  as_event (Repeat p from to place) e same = same_event (Repeat p from to place) (record { partition = p; event = event.Repeat from to place }) e same (record { is = refl; after = λ skips. refl; tells = λ skips next. refl; no_crash = λ m z. absurd cc })
  as_event (Resend p end) e same = same_event (Resend p end) (record { partition = p; event = event.Resend end }) e same (record { is = refl; after = λ skips. refl; tells = λ skips next. refl; no_crash = λ m z. absurd cc })
  as_event (Move p from to) e same = same_event (Move p from to) (record { partition = p; event = event.BeginMove from to }) e same (record { is = refl; after = λ skips. refl; tells = λ skips next. refl; no_crash = λ m z. absurd cc })
  as_event (Join p to) e same = same_event (Join p to) (record { partition = p; event = event.BeginJoin to }) e same (record { is = refl; after = λ skips. refl; tells = λ skips next. refl; no_crash = λ m z. absurd cc })
  as_event (Handover p from to) e same = same_event (Handover p from to) (record { partition = p; event = event.BeginHandover from to }) e same (record { is = refl; after = λ skips. refl; tells = λ skips next. refl; no_crash = λ m z. absurd cc })
  as_event (Advance p) e same = same_event (Advance p) (record { partition = p; event = event.Advance }) e same (record { is = refl; after = λ skips. refl; tells = λ skips next. refl; no_crash = λ m z. absurd cc })
  as_event (Reopen p) e same = same_event (Reopen p) (record { partition = p; event = event.Reopen }) e same (record { is = refl; after = λ skips. refl; tells = λ skips next. refl; no_crash = λ m z. absurd cc })
  as_event (Grid members backups capacity) e same = absurd cc
  as_event (OpenConn c member) e same = absurd cc
  as_event (Arrive c bytes) e same = absurd cc
  as_event (Clock member moment) e same = absurd cc
  as_event (Flow p most) e same = absurd cc
  as_event (FlowAll most) e same = absurd cc
  as_event (Crash member) e same = absurd cc
  as_event (Detect member) e same = absurd cc
  as_event (Rebalance most) e same = absurd cc
  as_event (Dump p member) e same = absurd cc
  as_event (Links p) e same = absurd cc
  as_event (Trail p) e same = absurd cc
  as_event (Near c name capacity) e same = absurd cc
  as_event (NearGet c key) e same = absurd cc
  as_event (NearFeed c most) e same = absurd cc
  as_event MastersLine e same = absurd cc
  as_event (Told member crashed) e same = absurd cc
  as_event (MasterDeliver p from to place) e same = absurd cc
  as_event (MasterLose p from to place) e same = absurd cc
  as_event (MasterResend p member) e same = absurd cc
  as_event (MasterFlow p most) e same = absurd cc
  as_event Comment e same = absurd cc
  as_event End e same = absurd cc

  -- Of the lines without an event those are the grid's own that go through no partitions, aren't held back and aren't of masters alone.
  pub as_own : (line : ScriptLine) → event_by line ≡ None → ((p most : ℕ) → line ≢ Flow p most) → ((most : ℕ) → line ≢ FlowAll most) → ((member : ℕ) → line ≢ Crash member) → ((member : ℕ) → line ≢ Detect member)
      → is_held_back settings s line ≡ false → is_of_masters line ≡ false → IsOwn settings s line
  as_own (Flow p most) none flow all crash detect on other = absurd (flow p most refl)
  as_own (FlowAll most) none flow all crash detect on other = absurd (all most refl)
  as_own (Crash member) none flow all crash detect on other = absurd (crash member refl)
  as_own (Detect member) none flow all crash detect on other = absurd (detect member refl)
  as_own (Rebalance most) none flow all crash detect on other = absurd (true≢false on)
  as_own MastersLine none flow all crash detect on other = absurd (true≢false on)
  as_own (Told member crashed) none flow all crash detect on other = absurd (true≢false other)
  as_own (MasterDeliver p from to place) none flow all crash detect on other = absurd (true≢false other)
  as_own (MasterLose p from to place) none flow all crash detect on other = absurd (true≢false other)
  as_own (MasterResend p member) none flow all crash detect on other = absurd (true≢false other)
  as_own (MasterFlow p most) none flow all crash detect on other = absurd (true≢false other)
  as_own (Grid members backups capacity) none flow all crash detect on other = record { after = λ skips. refl; tells = λ skips next. refl; plain = tt; none = refl }
  as_own (OpenConn c member) none flow all crash detect on other = record { after = λ skips. refl; tells = λ skips next. refl; plain = tt; none = refl }
  as_own (Arrive c bytes) none flow all crash detect on other = record { after = λ skips. refl; tells = λ skips next. refl; plain = tt; none = refl }
  as_own (Clock member moment) none flow all crash detect on other = record { after = λ skips. refl; tells = λ skips next. refl; plain = tt; none = refl }
  as_own (Dump p member) none flow all crash detect on other = record { after = λ skips. refl; tells = λ skips next. refl; plain = tt; none = refl }
  as_own (Links p) none flow all crash detect on other = record { after = λ skips. refl; tells = λ skips next. refl; plain = tt; none = refl }
  as_own (Trail p) none flow all crash detect on other = record { after = λ skips. refl; tells = λ skips next. refl; plain = tt; none = refl }
  as_own (Near c name capacity) none flow all crash detect on other = record { after = λ skips. refl; tells = λ skips next. refl; plain = tt; none = refl }
  as_own (NearGet c key) none flow all crash detect on other = record { after = λ skips. refl; tells = λ skips next. refl; plain = tt; none = refl }
  as_own (NearFeed c most) none flow all crash detect on other = record { after = λ skips. refl; tells = λ skips next. refl; plain = tt; none = refl }
  as_own Comment none flow all crash detect on other = record { after = λ skips. refl; tells = λ skips next. refl; plain = tt; none = refl }
  as_own End none flow all crash detect on other = record { after = λ skips. refl; tells = λ skips next. refl; plain = tt; none = refl }
  as_own line none flow all crash detect on other = absurd cc

-- What happens at once of an event is itself, or nothing.

itself_or_none : {X : Type 0} (b : Bool) (x : X) → is_empty (cond b [] (x ∷ [])) ≡ false → cond b [] (x ∷ []) ≡ x ∷ []
itself_or_none false x some = refl
itself_or_none true x some = absurd (true≢false some)

pub at_once_itself : {C : Type 0} (j : Ruled C) (e : Event C) → is_empty (at_once_of j e) ≡ false → at_once_of j e ≡ e ∷ []
at_once_itself j (event.Call m conn number call now) some = refl
at_once_itself j (event.Deliver f t i) some = itself_or_none (t == j.world.members) (event.Deliver f t i) some
at_once_itself j (event.Lose f t i) some = itself_or_none ((t == j.world.members) && pending j.masters) (event.Lose f t i) some
at_once_itself j (event.Repeat f t i) some = refl
at_once_itself j (event.Resend end) some = itself_or_none ((end == j.world.members) && not (is_some (master j.masters))) (event.Resend end) some
at_once_itself j (event.Crash m) some = refl
at_once_itself j (event.Detect m) some = absurd (true≢false some)
at_once_itself j (event.BeginMove from to) some = absurd (true≢false some)
at_once_itself j (event.BeginJoin to) some = absurd (true≢false some)
at_once_itself j (event.BeginHandover from to) some = absurd (true≢false some)
at_once_itself j event.Advance some = absurd (true≢false some)
at_once_itself j event.Reopen some = absurd (true≢false some)

-- whether a line that is an event is held back
pub held_by_event : (settings : Settings) (s : RuledRun) (line : ScriptLine) (e : At) → event_by line ≡ Some e → is_held_back settings s line ≡ is_later settings s e
held_by_event settings s (Rebalance most) e is = absurd cc
held_by_event settings s MastersLine e is = absurd cc
held_by_event settings s line e is = ap (λ x. map_or x false (is_later settings s)) is

-- The grid runs a line that is an event of which that holds.
module _ (settings : Settings) (s : RuledRun) (line : ScriptLine) (e : At) (is : event_by line ≡ Some e) (nothing : proposals (ruled_at (partition_object settings) s e.partition) e.event ≡ [])
    (on : is_held_back settings s line ≡ false) (low : e.partition < length s.masters) where
  abbrev o : Object Request Partition
  o = partition_object settings

  abbrev k : Ruled Request
  k = ruled_at o s e.partition

  its : IsEvent settings s line e
  its = as_event settings s line e is

  pub asks_none : asked_by k (Asks e.event) ≡ []
  asks_none = asks_by_proposals k e.event its.no_crash ∙ ap (λ ds. proposing ds) nothing

  alone : at_once_of k e.event ≡ e.event ∷ []
  alone = at_once_itself k e.event (sym (held_by_event settings s line e is) ∙ on)

  pub event_goes : (skips : List CallId) → goes o skips (counted s) e.partition (Asks e.event) ≡ by_grid o skips s line
  event_goes skips =
      goes_at_once o (counted s) e.partition e.event asks_none skips low
      ∙ ap (λ es. record { run = takes_each o skips (next_line s.run) e.partition es; masters = s.masters }) alone
      ∙ ap (λ r. record { run = r; masters = s.masters }) (sym ((of_event settings s.run line e is).after skips))

  pub event_tells : (skips : List CallId) (next : RuledRun) → next ≡ goes o skips (counted s) e.partition (Asks e.event)
      → asked_told o skips (counted s) e.partition (Asks e.event) ≡ grid_told settings skips s line next
  event_tells skips next same =
      let by = of_event settings s.run line e is in
      let came : asked_outcome o k (Asks e.event) ≡ event_told (is_advance e.event) (outcome_at o s.run e.partition e.event) =
      says_at_once o (counted s) e.partition e.event asks_none ∙ ap (λ es. said [] (map (event_outcome o k.world) es)) alone in
      let outcome : came_to (asked_outcome o k (Asks e.event)) ≡ outcome_told settings s.run line next.run = ap came_to came ∙ by.tells next.run in
      let rest : followed o skips (counted s) e.partition (Asks e.event) ≡ all_told (new_messages s.run next.run) =
      followed_at_once o (counted s) e.partition e.event asks_none skips ∙ ap (λ (x : RuledRun). all_told (new_messages s.run x.run)) (sym same) in
      (λ i. outcome i ++ rest i) ∙ sym (told_of_messages settings skips s.run next.run line (by.prints skips next.run))
