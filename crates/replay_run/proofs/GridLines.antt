-- The grid after each line: it stands for the run after it, and what the line tells was added.
use Rattle.std.proofs.Common.{◌≡◌, ℕ, ◌+◌, ◌*◌, ◌<◌, ◌≤◌, Bool, true, false, not, cond, List, [], ◌++◌, length, drop, map, slice_get, slice_set, Option, Some, None, refl, ap, sym, ◌∙◌, subst, ⊎_elim, append-nil, append_assoc, arith, Vec, Global}
use Rattle.std.specs.Option.{is_some, option_and_then}
use Rattle.std.specs.List.{find}
use Rattle.std.proofs.lemmas.Bool.{cases_eq}
use Rattle.std.proofs.lemmas.List.{length-set}
use Rattle.frame_codec.specs.declared.malformed.Malformed.{Malformed}
use Rattle.partition_protocol.proofs.Lists.{in_contains}
use Rattle.session_core.specs.Sessions.{session_after}
use Rattle.session_core.specs.declared.item.Item.{Item}
use Rattle.script_lang.specs.Limits.{most_lines}
use Rattle.script_lang.specs.declared.line.Line.{Line}
use Rattle.script_lang.specs.declared.line.Line.TheVariants.{OpenConn, Arrive, Clock}
use Rattle.replay_run.specs.declared.grid.Grid.{Grid}
use Rattle.listeners.specs.declared.listeners.Listeners.{Listeners}
use Rattle.call_engine.specs.Calls.{Settings}
use Rattle.call_engine.specs.Env.{settings_of}
use Rattle.call_engine.specs.Objects.{partition_object}
use Rattle.replay_run.specs.Runs.{Run, Connection, Appended, partitions, is_open as stays_open, served_in, forsaken, is_connection, connection_of, fault_on, messages_on, with_bytes, took_bytes, opened, next_line, clock_set, can_open, takes_bytes}
use Rattle.wait_sets.specs.declared.waiter.Waiter.{Waiter as ListedWaiter}
use Rattle.partition_protocol.specs.Service.{numbers_below}
use Rattle.replay_run.specs.WaiterCalls.{IsBetween, HasServed}
use Rattle.replay_run.specs.AfterLines.{after_line}
use Rattle.replay_run.specs.Printing.{does_nothing, new_messages}
use Rattle.replay_run.specs.Skips.{AreOfLine}
use Rattle.replay_run.specs.ScriptRuns.{line_counted, clock_was_set, connection_opened}
use Rattle.replay_run.specs.Tables.{Table, most_connections, opened_at, with_opened, with_session}
use Rattle.replay_run.specs.Grids.{FormOf, GridWorld, HasTable, HasWaiters, IsSettled, IsCounting, IsTally, AreListening, Holds, IsSmall, AreFew, IsBounded, AreReached, Stands, MayRun, HasRun, HasGiven, IsGivenUp, most_arriving}
use Rattle.replay_run.specs.WorldCalls.{GivesUpSo, member_if_open, open_member_in, Brings, HasHandledSome}
use Rattle.replay_run.proofs.Bounds.{stays_small, adds_few, clock_few}
use Rattle.replay_run.proofs.LineBounds.{line_bounded}
use Rattle.replay_run.proofs.Items.{items_room}
use Rattle.replay_run.proofs.Listening.{opened_listening, taken_listening}
use Rattle.replay_run.proofs.LineTexts.{told_nothing, told_with, told_without, new_with}
use Rattle.replay_run.proofs.Midway.{begun_midway, midway_come, midway_few, unopened_line, unopened_does_nothing, closed_line, closed_does_nothing, open_does_something, ended_line, ended_skips}
use Rattle.replay_run.proofs.Places.{same_number}
use Rattle.replay_run.proofs.Reaching.{opened_reached, taken_reached}
use Rattle.replay_run.proofs.Trails.{find_some}
use Rattle.replay_run.proofs.TableRuns.{none_opened, opened_table, fed_table}
use Rattle.replay_run.proofs.TableCounts.{settled_opened, counting_fed}
use Rattle.replay_run.proofs.WaiterLists.{waiters_alike}
use Rattle.replay_run.proofs.EventRuns.{Kept, forsaken_kept, forsaken_run, forsaken_few, served_in_kept}
use Rattle.replay_run.proofs.Growing.{served_in_goes}
use Rattle.replay_run.proofs.Leaving.{HoldsElse, but_lists, forsaken_else, forsaken_open, forsaken_waiters, forsaken_holds, dropped, dropped_lists}
use Rattle.replay_run.proofs.Serving.{settled_by}
use Rattle.replay_run.proofs.Turns.{forsaken_keeps}
use Rattle.replay_run.specs.LineTold.{came_to, all_told, outcome_told, messages_told, close_told, line_closing, line_told}
use Rattle.line_told.specs.declared.told.LineOutcome.TheVariants.{Ran, Idle}
use Rattle.line_told.specs.declared.told.Told.{Told}
use Rattle.line_told.specs.declared.told.Ready.{Ready}

-- the grid once the line of that number is counted
abbrev pub counted : {V : Type 0} {T : V → Type 0} → Grid V T → ℕ → Grid V T
counted grid number = record grid { lines = number }

abbrev pub with_table : {V : Type 0} {T : V → Type 0} → Grid V T → ℕ → Table → Grid V T
with_table grid number t = record grid { lines = number; connections = t }

pub counted_holds : {V : Type 0} {T : V → Type 0} {form : FormOf V T} {settings : Settings} (grid : Grid V T) (r : Run) (number : ℕ) (t : Table) (ks : List Connection) → Holds form settings grid r → number ≡ r.lines + 1 → HasTable t (record r { lines = r.lines + 1; connections = ks })
    → Holds form settings (with_table grid number t) (record r { lines = r.lines + 1; connections = ks })
counted_holds grid r number t ks h at_line table = record {
  goes_by = h.goes_by;
  goes_on = h.goes_on;
  lines = at_line;
  members = h.members;
  links = h.links;
  moments = h.moments;
  clocks = h.clocks;
  table = table;
  waiters = waiters_alike grid.waiters r (record r { lines = r.lines + 1; connections = ks }) refl refl h.waiters;
  tally = record { arrived = h.tally.arrived; refused = h.tally.refused; memory = h.tally.memory };
  reopened = h.reopened;
  worlds = λ p low. let w = h.worlds p low in record { world = w.world; there = w.there; is = record { stands = w.is.stands; setup = w.is.setup }; given = w.given };
}

pub next_holds : {V : Type 0} {T : V → Type 0} {form : FormOf V T} {settings : Settings} (grid : Grid V T) (r : Run) (number : ℕ) → Holds form settings grid r → number ≡ r.lines + 1 → Holds form settings (counted grid number) (next_line r)
next_holds grid r number h at_line = counted_holds grid r number grid.connections r.connections h at_line (record { size = h.table.size; connections = h.table.connections; calls = h.table.calls })

-- a run with one line more, and no reopening
one_line_more : (r next : Run) (number : ℕ) → IsBounded r → number ≡ r.lines + 1 → number ≤ most_lines → next.lines ≡ r.lines + 1 → next.reopened ≡ r.reopened → IsBounded next
one_line_more r next number bounded at_line limit lines same =
    let few = bounded.reopenings in
    let as_many = ap length same in
    record { lines = omega (arith, at_line, limit, lines); reopenings = omega (arith, few, lines, as_many) }

pub counted_stands : {V : Type 0} {T : V → Type 0} {form : FormOf V T} {settings : Settings} (grid : Grid V T) (r : Run) (number : ℕ) → Stands form settings grid r → number ≡ r.lines + 1 → number ≤ most_lines → Stands form settings (counted grid number) (next_line r)
counted_stands grid r number s at_line limit = record {
  run = line_counted r s.run;
  small = let small : IsSmall r = s.small in omega (arith, small);
  few = λ p. (let few = s.few p in omega (arith, few));
  bounded = one_line_more r (next_line r) number s.bounded at_line limit refl refl;
  listeners = record { size = s.listeners.size; each = s.listeners.each };
  holds = next_holds grid r number s.holds at_line;
  settled = s.settled;
  reached = s.reached;
}

-- the next line

pub next_number : {V : Type 0} {T : V → Type 0} {form : FormOf V T} {settings : Settings} (grid : Grid V T) (number : ℕ) (line : Line) → MayRun form grid number line → (r : Run) → Stands form settings grid r → number ≡ r.lines + 1
next_number grid number line may r s = may.next ∙ ap (λ n. n + 1) (sym may.stands.holds.lines ∙ s.holds.lines)

pub few_lines : {V : Type 0} {T : V → Type 0} {form : FormOf V T} {settings : Settings} (grid : Grid V T) (number : ℕ) (line : Line) → MayRun form grid number line → (r : Run) → Stands form settings grid r → r.lines + 1 ≤ most_lines
few_lines grid number line may r s = let next = next_number grid number line may r s in let within = may.within in omega (arith, next, within)

pub same_members : {V : Type 0} {T : V → Type 0} {form : FormOf V T} {settings : Settings} (grid : Grid V T) (number : ℕ) (line : Line) (may : MayRun form grid number line) (r : Run) → Stands form settings grid r → may.run.members ≡ r.members
same_members grid number line may r s = sym may.stands.holds.members ∙ s.holds.members

-- the same of another line, and of another grid

pub may_run_as : {V : Type 0} {T : V → Type 0} {form : FormOf V T} {grid : Grid V T} {number : ℕ} {line other : Line} → line ≡ other → MayRun form grid number line → MayRun form grid number other
may_run_as {form = form} {grid = grid} {number = number} same = subst (MayRun form grid number) same

pub has_run_as : {V : Type 0} {T : V → Type 0} {form : FormOf V T} {settings : Settings} {new : Grid V T} {r : Run} {line other : Line} {earlier later : List Told} → line ≡ other → HasRun form settings new r other earlier later → HasRun form settings new r line earlier later
has_run_as {form = form} {settings = settings} {new = new} {r = r} {earlier = earlier} {later = later} same = subst (λ l. HasRun form settings new r l earlier later) (sym same)

pub has_given_as : {V : Type 0} {T : V → Type 0} {form : FormOf V T} {settings : Settings} {new : Grid V T} {r : Run} {line other : Line} {earlier later : Ready} → line ≡ other → HasGiven form settings new r other earlier later → HasGiven form settings new r line earlier later
has_given_as {form = form} {settings = settings} {new = new} {r = r} {earlier = earlier} {later = later} same = subst (λ l. HasGiven form settings new r l earlier later) (sym same)

pub stands_as : {V : Type 0} {T : V → Type 0} {form : FormOf V T} {settings : Settings} {new grid : Grid V T} {r : Run} → new ≡ grid → Stands form settings grid r → Stands form settings new r
stands_as {form = form} {settings = settings} {r = r} same = subst (λ g. Stands form settings g r) (sym same)

-- a line that brings no call skips none
no_skips : (settings : Settings) (r : Run) (line : Line) → AreOfLine (partition_object settings) r line []
no_skips settings r line id there = absurd (in_contains id [] there)

-- a line that is only counted
module _ {V : Type 0} {T : V → Type 0} {form : FormOf V T} {settings : Settings} (grid new : Grid V T) (r : Run) (number : ℕ) (line : Line) (s : Stands form settings grid r) (at_line : number ≡ r.lines + 1) (limit : number ≤ most_lines) (after : after_line (partition_object settings) [] r line ≡ next_line r)
    (made : new ≡ counted grid number) (earlier later : List Told) where
  stands_after : Stands form settings new (after_line (partition_object settings) [] r line)
  stands_after = subst (λ g. Stands form settings g (after_line (partition_object settings) [] r line)) (sym made) (subst (Stands form settings (counted grid number)) (sym after) (counted_stands grid r number s at_line limit))

  -- Its condition is false.
  pub passed_line : does_nothing (partition_object settings) r line ≡ true → later ≡ earlier ++ came_to Idle → HasRun form settings new r line earlier later
  passed_line idle is = record {
    skips = [];
    of_line = no_skips settings r line;
    stands = stands_after;
    added = is ∙ ap (λ xs. earlier ++ xs) (sym (told_nothing settings [] r (after_line (partition_object settings) [] r line) line idle));
  }

  -- It tells its outcome.
  pub counted_line : does_nothing (partition_object settings) r line ≡ false → messages_told settings [] r line (next_line r) ≡ all_told (new_messages r (next_line r)) → line_closing (next_line r) line ≡ []
      → later ≡ earlier ++ outcome_told settings r line (next_line r)
      → HasRun form settings new r line earlier later
  counted_line goes said open_still is = record {
    skips = [];
    of_line = no_skips settings r line;
    stands = stands_after;
    added = is ∙ ap (λ xs. earlier ++ xs) (sym (ap (λ (x : Run). line_told settings [] r line x) after ∙ told_without settings [] r (next_line r) line goes said refl open_still));
  }

-- `open`

-- of a connection that was opened before, or to a member that crashed
pub unopened : {V : Type 0} {T : V → Type 0} {form : FormOf V T} {settings : Settings} (grid new : Grid V T) (r : Run) (number c member : ℕ) (earlier later : List Told) → Stands form settings grid r → number ≡ r.lines + 1 → number ≤ most_lines → can_open (partition_object settings) r c member ≡ false
    → new ≡ counted grid number → later ≡ earlier ++ came_to Idle → HasRun form settings new r (OpenConn c member) earlier later
unopened grid new r number c member earlier later s at_line limit cannot made is =
    passed_line grid new r number (OpenConn c member) s at_line limit (ap (λ b. cond b (opened r c member) (next_line r)) cannot) made earlier later (ap not cannot) is

pub opened_line : {V : Type 0} {T : V → Type 0} {form : FormOf V T} {settings : Settings} (grid new : Grid V T) (r : Run) (number c member : ℕ) (earlier later : List Told) → Stands form settings grid r → number ≡ r.lines + 1 → number ≤ most_lines → c < most_connections → member < r.members
    → opened_at grid.connections c ≡ None → can_open (partition_object settings) r c member ≡ true
    → new ≡ with_table grid number (with_opened grid.connections c member) → later ≡ earlier ++ came_to Ran → HasRun form settings new r (OpenConn c member) earlier later
opened_line {form = form} {settings = settings} grid new r number c member earlier later s at_line limit within there closed can made is = record {
  skips = [];
  of_line = no_skips settings r (OpenConn c member);
  stands = subst (λ g. Stands form settings g (after_line (partition_object settings) [] r (OpenConn c member))) (sym made) (subst (Stands form settings (with_table grid number (with_opened grid.connections c member))) (sym after) stands_opened);
  added = is ∙ ap (λ xs. earlier ++ xs) (sym its_told);
}
  where
    free : connection_of r c ≡ None
    free = none_opened grid.connections r s.holds.table c closed

    after : after_line (partition_object settings) [] r (OpenConn c member) ≡ opened r c member
    after = ap (λ b. cond b (opened r c member) (next_line r)) can

    stands_opened : Stands form settings (with_table grid number (with_opened grid.connections c member)) (opened r c member)
    stands_opened = record {
      run = connection_opened r c member s.run free;
      small = subst IsSmall after (stays_small [] r s.run (OpenConn c member) s.small (omega arith));
      few = λ p. (let few = s.few p in omega (arith, few));
      bounded = one_line_more r (opened r c member) number s.bounded at_line limit refl refl;
      holds = counted_holds grid r number (with_opened grid.connections c member) (opened r c member).connections s.holds at_line (opened_table grid.connections r s.holds.table c member within closed);
      listeners = opened_listening grid.connections r s.run s.holds.table c member within closed grid.listeners.items s.listeners;
      settled = settled_opened grid.connections r s.holds.table c member within closed s.settled;
      reached = opened_reached r c member s.reached there;
    }

    its_told : line_told settings [] r (OpenConn c member) (after_line (partition_object settings) [] r (OpenConn c member)) ≡ came_to Ran
    its_told =
        ap (λ (x : Run). line_told settings [] r (OpenConn c member) x) after
        ∙ told_without settings [] r (opened r c member) (OpenConn c member) (ap not can) refl refl refl

-- `clock`

-- The line is counted, and the member's clock is set.
pub record HasClock {V : Type 0} {T : V → Type 0} (grid new : Grid V T) (number member moment : ℕ) : Type 0 where
  pub env : new.env ≡ grid.env
  pub lines : new.lines ≡ number
  pub members : new.members ≡ grid.members
  pub links : new.links.items ≡ grid.links.items
  pub moments : new.moments.items ≡ slice_set grid.moments.items member moment
  pub connections : new.connections ≡ grid.connections
  pub waiters : new.waiters ≡ grid.waiters
  pub tally : new.tally ≡ grid.tally
  pub listeners : new.listeners.items ≡ grid.listeners.items
  pub reopened : new.reopened.items ≡ grid.reopened.items
  pub worlds : new.worlds.items ≡ grid.worlds.items

pub has_clock : {V : Type 0} {T : V → Type 0} (grid new : Grid V T) (number member moment : ℕ) (moments : Vec ℕ Global) → new ≡ record grid { lines = number; moments = moments } → moments.items ≡ slice_set grid.moments.items member moment → HasClock grid new number member moment
has_clock {V = V} {T = T} grid new number member moment moments made set = record {
  env = ap (λ (x : Grid V T). x.env) made;
  lines = ap (λ (x : Grid V T). x.lines) made;
  members = ap (λ (x : Grid V T). x.members) made;
  links = ap (λ (x : Grid V T). x.links.items) made;
  moments = ap (λ (x : Grid V T). x.moments.items) made ∙ set;
  connections = ap (λ (x : Grid V T). x.connections) made;
  waiters = ap (λ (x : Grid V T). x.waiters) made;
  tally = ap (λ (x : Grid V T). x.tally) made;
  listeners = ap (λ (x : Grid V T). x.listeners.items) made;
  reopened = ap (λ (x : Grid V T). x.reopened.items) made;
  worlds = ap (λ (x : Grid V T). x.worlds.items) made;
}

module _ {V : Type 0} {T : V → Type 0} {form : FormOf V T} {settings : Settings} (grid new : Grid V T) (r : Run) (number member moment : ℕ) (s : Stands form settings grid r) (at_line : number ≡ r.lines + 1) (limit : number ≤ most_lines) (set : HasClock grid new number member moment) where
  abbrev clocked : Run
  clocked = clock_set r member moment

  clocked_table : HasTable grid.connections clocked
  clocked_table = record { size = s.holds.table.size; connections = s.holds.table.connections; calls = s.holds.table.calls }

  clocked_holds : Holds form settings new clocked
  clocked_holds = record {
    goes_by = ap (settings_of form) set.env ∙ s.holds.goes_by;
    goes_on = s.holds.goes_on;
    lines = set.lines ∙ at_line;
    members = set.members ∙ s.holds.members;
    links = set.links ∙ s.holds.links;
    moments = set.moments ∙ ap (λ ms. slice_set ms member moment) s.holds.moments;
    clocks = length-set r.moments member moment ∙ s.holds.clocks;
    table = subst (λ t. HasTable t clocked) (sym set.connections) clocked_table;
    waiters = subst (λ ls. HasWaiters ls clocked) (sym set.waiters) (waiters_alike grid.waiters r clocked refl refl s.holds.waiters);
    tally = subst (λ t. IsTally t clocked) (sym set.tally) (record { arrived = s.holds.tally.arrived; refused = s.holds.tally.refused; memory = s.holds.tally.memory });
    reopened = set.reopened ∙ s.holds.reopened;
    worlds = λ p low.
        let w = s.holds.worlds p low in
        record { world = w.world; there = ap (λ (ws : List GridWorld). slice_get ws p) set.worlds ∙ w.there; is = record { stands = w.is.stands; setup = w.is.setup }; given = w.given };
  }

  -- the lists of the member are still to have their turns
  pub clocked_between : IsBetween form settings new clocked None
  clocked_between = record {
    run = clock_was_set r member moment s.run;
    holds = clocked_holds;
    listeners = subst (λ ls. AreListening ls clocked None) (sym set.listeners) (record { size = s.listeners.size; each = s.listeners.each });
  }

  pub clock_line : (last : Grid V T) (earlier start later : List Told) → start ≡ earlier ++ came_to Ran → HasServed form settings new last clocked None (λ skips. served_in (partition_object settings) skips clocked member (numbers_below partitions)) start later
      → HasRun form settings last r (Clock member moment) earlier later
  clock_line last earlier start later began did =
      let o = partition_object settings in
      let next = served_in o did.skips clocked member (numbers_below partitions) in
      let kept = served_in_kept o did.skips clocked member (numbers_below partitions) in
      let more = ((served_in_goes o clocked member (numbers_below partitions)).grows did.skips).appended in
      let ms = more.0 in
      let line = Clock member moment in
      let its_told : line_told settings did.skips r line next ≡ came_to Ran ++ all_told ms =
      told_with settings did.skips r next line ms refl refl (sym more.1)
      ∙ append-nil (came_to Ran ++ all_told ms) in
      record {
        skips = did.skips;
        of_line = did.among;
        stands = record {
          run = did.between.run;
          small = stays_small did.skips r s.run line s.small (omega arith);
          few = clock_few o did.skips r member moment s.few;
          bounded = line_bounded o did.skips r (omega (arith, at_line, limit)) s.bounded line;
          holds = did.between.holds;
          listeners = did.between.listeners;
          settled = settled_by new.connections last.connections clocked next did.counts kept.connections (subst (λ t. IsSettled t clocked) (sym set.connections) s.settled);
          reached = λ c k found. subst (λ m. k.member < m) (sym kept.members) (s.reached c k (ap (find (is_connection c)) (sym kept.connections) ∙ found));
        };
        added =
            did.added ∙ (λ i. began i ++ all_told (new_with clocked next ms (sym more.1) i))
            ∙ append_assoc earlier (came_to Ran) (all_told ms)
            ∙ ap (λ xs. earlier ++ xs) (sym its_told);
      }

-- The run is given up at its turns.
pub clock_given_up : (settings : Settings) (r : Run) (member moment : ℕ) → GivesUpSo (clock_set r member moment) (λ skips. served_in (partition_object settings) skips (clock_set r member moment) member (numbers_below partitions)) → IsGivenUp settings r (Clock member moment)
clock_given_up settings r member moment up = record { skips = up.skips; of_line = up.own; full = up.full }

-- Who listens and who waits is no matter of what the grid holds else.
pub else_with : {V : Type 0} {T : V → Type 0} {form : FormOf V T} {settings : Settings} (grid : Grid V T) (listeners : Vec Listeners Global) (waiters : List (List ListedWaiter)) (r : Run) → HoldsElse form settings grid r → HoldsElse form settings (record grid { listeners = listeners; waiters = waiters }) r
else_with grid listeners waiters r h = record {
  run = h.run;
  goes_by = h.goes_by;
  goes_on = h.goes_on;
  lines = h.lines;
  members = h.members;
  links = h.links;
  moments = h.moments;
  clocks = h.clocks;
  table = h.table;
  tally = h.tally;
  reopened = h.reopened;
  worlds = h.worlds;
}

-- bytes where none can arrive

pub record IsIdle (settings : Settings) (r : Run) (line : Line) : Type 0 where
  pub after : after_line (partition_object settings) [] r line ≡ next_line r
  pub nothing : does_nothing (partition_object settings) r line ≡ true

pub not_open : (settings : Settings) (r : Run) (c : ℕ) (bytes : List ℕ) → open_member_in settings r c ≡ None → IsIdle settings r (Arrive c bytes)
not_open settings r c bytes none = go (connection_of r c) refl none
  where
    closed : (k : Connection) → connection_of r c ≡ Some k → (takes : Bool) → takes_bytes (partition_object settings) r k ≡ takes → cond takes (Some k.member) None ≡ None → IsIdle settings r (Arrive c bytes)
    closed k there false shown e = record { after = closed_line (partition_object settings) r c bytes k there [] shown; nothing = closed_does_nothing (partition_object settings) r c bytes k there shown }
    closed k there true shown e = absurd cc

    go : (found : Option Connection) → connection_of r c ≡ found → option_and_then (member_if_open settings r) found ≡ None → IsIdle settings r (Arrive c bytes)
    go None there e = record { after = unopened_line (partition_object settings) r c bytes [] there; nothing = unopened_does_nothing (partition_object settings) r c bytes there }
    go (Some k) there e = closed k there (takes_bytes (partition_object settings) r k) refl e

pub idle_line : {V : Type 0} {T : V → Type 0} {form : FormOf V T} {settings : Settings} (grid new : Grid V T) (r : Run) (number c : ℕ) (bytes : List ℕ) (earlier later : List Told) → Stands form settings grid r → number ≡ r.lines + 1 → number ≤ most_lines → open_member_in settings r c ≡ None
    → new ≡ counted grid number → later ≡ earlier ++ came_to Idle → HasRun form settings new r (Arrive c bytes) earlier later
idle_line {settings = settings} grid new r number c bytes earlier later s at_line limit none made is =
    let idle = not_open settings r c bytes none in
    passed_line grid new r number (Arrive c bytes) s at_line limit idle.after made earlier later idle.nothing is

-- bytes on an open connection, to a member that lives

pub record IsOpen (settings : Settings) (r : Run) (c member : ℕ) : Type 0 where
  pub connection : Connection
  pub there : connection_of r c ≡ Some connection
  pub itself : connection_of r connection.conn ≡ Some connection
  pub numbered : connection.conn ≡ c
  pub to : connection.member ≡ member
  pub takes : takes_bytes (partition_object settings) r connection ≡ true

pub its_number : (r : Run) (c : ℕ) (k : Connection) → connection_of r c ≡ Some k → k.conn ≡ c
its_number r c k there = same_number k.conn c (find_some (is_connection c) r.connections k there).1

pub is_open : (settings : Settings) (r : Run) (c member : ℕ) → open_member_in settings r c ≡ Some member → IsOpen settings r c member
is_open settings r c member open_to = go (connection_of r c) refl open_to
  where
    taking : (k : Connection) → connection_of r c ≡ Some k → (takes : Bool) → takes_bytes (partition_object settings) r k ≡ takes → cond takes (Some k.member) None ≡ Some member → IsOpen settings r c member
    taking k there false shown e = absurd cc
    taking k there true shown e =
        let to : k.member ≡ member = cc in
        let at = its_number r c k there in
        record { connection = k; there = there; itself = ap (connection_of r) at ∙ there; numbered = at; to = to; takes = shown }

    go : (found : Option Connection) → connection_of r c ≡ found → option_and_then (member_if_open settings r) found ≡ Some member → IsOpen settings r c member
    go None there e = absurd cc
    go (Some k) there e = taking k there (takes_bytes (partition_object settings) r k) refl e

-- The line is counted and the connection has its bytes.
pub begun_some : {V : Type 0} {T : V → Type 0} {form : FormOf V T} {settings : Settings} (grid new : Grid V T) (r : Run) (s : Stands form settings grid r) (number c : ℕ) (k : Connection) → number ≡ r.lines + 1 → connection_of r c ≡ Some k → connection_of r k.conn ≡ Some k → not (is_some (fault_on k)) ≡ true → (bytes : List ℕ) (later : List Told)
    → new ≡ with_table grid number (with_session grid.connections c (session_after k.conn k.member (k.bytes ++ bytes))) → HasHandledSome form settings new r k bytes [] later later
begun_some {form = form} {settings = settings} grid new r s number c k at_line there itself open_still bytes later made = record {
  skips = [];
  now = took_bytes r k bytes;
  midway = begun_midway r s.run k itself bytes;
  holds = subst (λ g. Holds form settings g (took_bytes r k bytes)) (sym made)
      (counted_holds grid r number fed (took_bytes r k bytes).connections s.holds at_line (fed_table grid.connections r s.holds.table c k there bytes));
  listeners = subst (λ (g : Grid _ _). AreListening g.listeners.items (took_bytes r k bytes) (Some k.conn)) (sym made)
      (taken_listening grid.connections r s.holds.table k.conn k itself bytes open_still grid.listeners.items s.listeners);
  counting = subst (λ (g : Grid _ _). IsCounting g.connections (took_bytes r k bytes) k.conn (length (messages_on k) + 0)) (sym made)
      (subst (λ n. IsCounting fed (took_bytes r k bytes) n (length (messages_on k) + 0)) (sym (its_number r c k there))
      (subst (λ n. IsCounting fed (took_bytes r k bytes) c n) none_yet (counting_fed grid.connections r s.holds.table c k there bytes s.settled)));
  added = sym (ap (λ ms. later ++ all_told ms) (new_with r (took_bytes r k bytes) [] (sym (append-nil r.appended))) ∙ append-nil later);
}
  where
    fed : Table
    fed = with_session grid.connections c (session_after k.conn k.member (k.bytes ++ bytes))

    none_yet : length (messages_on k) ≡ length (messages_on k) + 0
    none_yet = omega arith

module _ {V : Type 0} {T : V → Type 0} {form : FormOf V T} {settings : Settings} (r : Run) (c : ℕ) (k : Connection) (there : connection_of r c ≡ Some k) (bytes : List ℕ) (items : List Item) (brings : Brings settings r k bytes items)
    (handled : Grid V T) (start mid : List Told) (did : HasHandledSome form settings handled r k bytes items start mid) where
  -- all items were handled
  all_settled : IsSettled handled.connections did.now
  all_settled d o j at found = ⊎_elim here (λ apart. did.counting.others d o j apart at found) (cases_eq d k.conn)
    where
      here : d ≡ k.conn → length o.calls ≡ length (messages_on j)
      here e =
          let both : Some (with_bytes k bytes) ≡ Some j = sym did.midway.may.there ∙ ap (connection_of did.now) (sym e) ∙ found in
          let same : with_bytes k bytes ≡ j = cc in
          let room = (items_room k bytes).1 in
          let came = ap length brings.come in
          let counts = did.counting.here o (ap (opened_at handled.connections) (sym e) ∙ at) in
          let whole : length o.calls ≡ length (messages_on (with_bytes k bytes)) = omega (arith, room, came, counts) in
          whole ∙ ap (λ (x : Connection). length (messages_on x)) same

  now_lines : did.now.lines ≡ r.lines + 1
  now_lines = (midway_come r brings.run k brings.there bytes items did.skips did.now did.midway).lines

  -- its member has its listeners
  pub heard_within : k.member < length handled.listeners.items
  heard_within =
      let members = (midway_come r brings.run k brings.there bytes items did.skips did.now did.midway).members in
      let size = did.listeners.size in
      let reached = brings.reached in
      omega (arith, members, size, reached)

  -- who listened while they were handled
  pub heard_on : AreListening handled.listeners.items did.now (Some c)
  heard_on = subst (λ n. AreListening handled.listeners.items did.now (Some n)) (its_number r c k there) did.listeners

  pub now_there : connection_of did.now c ≡ Some (with_bytes k bytes)
  now_there = ap (connection_of did.now) (sym (its_number r c k there)) ∙ did.midway.may.there

  still_reached : AreReached r → AreReached did.now
  still_reached reached =
      let came = midway_come r brings.run k brings.there bytes items did.skips did.now did.midway in
      λ d j found. subst (λ n. j.member < n) (sym came.members) (taken_reached r k bytes reached brings.reached d j (ap (λ ks. find (is_connection d) ks) (sym came.connections) ∙ found))

  -- The connection may close: then its calls that wait leave.

  abbrev pub closing : Run
  closing = forsaken did.now k.conn

  closing_kept : Kept did.now closing
  closing_kept = forsaken_kept did.now k.conn

  closing_lines : closing.lines ≡ r.lines + 1
  closing_lines = closing_kept.lines ∙ now_lines

  closing_there : connection_of closing c ≡ Some (with_bytes k bytes)
  closing_there = ap (find (is_connection c)) closing_kept.connections ∙ now_there

  -- they leave without an answer
  closing_says : closing.appended ≡ did.now.appended
  closing_says = forsaken_keeps (λ (x : Run). x.appended ≡ did.now.appended) (λ x w i h. append-nil x.appended ∙ h) k.conn did.now refl

  closing_listening : (all : List Listeners) → AreListening all did.now None → AreListening all closing None
  closing_listening all are = forsaken_keeps (λ x. AreListening all x None) (λ x w i h. record { size = h.size; each = h.each }) k.conn did.now are

  -- what becomes of the lists of those who wait
  pub record AreLeft (waiters : List (List ListedWaiter)) : Type 0 where
    pub if_open : stays_open (Some (with_bytes k bytes)) ≡ true → waiters ≡ handled.waiters
    pub if_closed : stays_open (Some (with_bytes k bytes)) ≡ false → waiters ≡ map (dropped k.conn) handled.waiters

  its_open : stays_open (connection_of did.now k.conn) ≡ stays_open (Some (with_bytes k bytes))
  its_open = ap stays_open did.midway.may.there

  closing_waiters : (waiters : List (List ListedWaiter)) → AreLeft waiters → HasWaiters waiters closing
  closing_waiters waiters left = go (stays_open (Some (with_bytes k bytes))) refl
    where
      go : (b : Bool) → stays_open (Some (with_bytes k bytes)) ≡ b → HasWaiters waiters closing
      go true e = subst (HasWaiters waiters) (sym (forsaken_open did.now k.conn (its_open ∙ e))) (subst (λ ls. HasWaiters ls did.now) (sym (left.if_open e)) did.holds.waiters)
      go false e =
          subst (λ ls. HasWaiters ls closing) (sym (left.if_closed e))
          (dropped_lists handled.waiters did.now closing k.conn closing_kept.members (forsaken_waiters did.now k.conn (its_open ∙ e)) did.holds.waiters)

  closing_holds : (listeners : Vec Listeners Global) (waiters : List (List ListedWaiter)) → AreLeft waiters → Holds form settings (record handled { listeners = listeners; waiters = waiters }) closing
  closing_holds listeners waiters left =
      let grid = record handled { listeners = listeners; waiters = waiters } in
      forsaken_holds grid did.now k.conn (forsaken_else grid did.now k.conn (else_with handled listeners waiters did.now (but_lists handled did.now did.midway.run did.holds))) (closing_waiters waiters left)

  closing_reached : AreReached r → AreReached closing
  closing_reached reached d j found = subst (λ n. j.member < n) (sym closing_kept.members) (still_reached reached d j (ap (find (is_connection d)) (sym closing_kept.connections) ∙ found))

  closing_settled : IsSettled handled.connections closing
  closing_settled d o j at found = all_settled d o j at (ap (find (is_connection d)) (sym closing_kept.connections) ∙ found)

  module _ (takes : takes_bytes (partition_object settings) r k ≡ true) where
    after : after_line (partition_object settings) did.skips r (Arrive c bytes) ≡ closing
    after = ended_line (partition_object settings) r c bytes k there takes items did.skips did.now brings.come did.midway

    abbrev its_parts : List Told
    its_parts = (came_to Ran ++ all_told (new_messages r closing)) ++ close_told c (fault_on (with_bytes k bytes))

    told_by : (next : Run) → connection_of next c ≡ Some (with_bytes k bytes)
        → line_told settings did.skips r (Arrive c bytes) next ≡ (came_to Ran ++ all_told (new_messages r next)) ++ close_told c (fault_on (with_bytes k bytes))
    told_by next found = rw (open_does_something (partition_object settings) r c bytes k there takes, found) refl

    its_told : line_told settings did.skips r (Arrive c bytes) closing ≡ its_parts
    its_told = told_by closing closing_there

    pub bytes_line : (fault : Option Malformed) (number : ℕ) (earlier later : List Told) (listeners : Vec Listeners Global) (waiters : List (List ListedWaiter)) (new : Grid V T) → new ≡ record handled { listeners = listeners; waiters = waiters } → AreListening listeners.items did.now None → AreLeft waiters → IsSmall r → AreFew r → IsBounded r → AreReached r
        → 2 * length bytes ≤ most_arriving → start ≡ earlier ++ came_to Ran → number ≡ r.lines + 1 → number ≤ most_lines
        → fault ≡ fault_on (with_bytes k bytes) → later ≡ mid ++ close_told c fault → HasRun form settings new r (Arrive c bytes) earlier later
    bytes_line fault number earlier later listeners waiters new made are left small few bounded reached size began at_line limit shown is = record {
      skips = did.skips;
      of_line = ended_skips (partition_object settings) r c bytes k there takes items did.skips did.now brings.come did.midway;
      stands = subst (Stands form settings new) (sym after) (subst (λ g. Stands form settings g closing) (sym made) (record {
        run = forsaken_run did.skips did.now k.conn did.midway.run;
        small = subst IsSmall after (stays_small did.skips r brings.run (Arrive c bytes) small size);
        few = adds_few did.now closing closing_kept.lines (forsaken_few did.now k.conn) (midway_few r brings.run k brings.there bytes items did.skips did.now did.midway few);
        bounded = subst IsBounded after (line_bounded (partition_object settings) did.skips r (omega (arith, at_line, limit)) bounded (Arrive c bytes));
        holds = closing_holds listeners waiters left;
        listeners = closing_listening listeners.items are;
        settled = closing_settled;
        reached = closing_reached reached;
      }));
      added = is ∙ (λ i. whole i ++ close_told c (shown i)) ∙ grouped
          ∙ ap (λ xs. earlier ++ xs) (sym (ap (λ (x : Run). line_told settings did.skips r (Arrive c bytes) x) after ∙ its_told));
    }
      where
        whole : mid ≡ (earlier ++ came_to Ran) ++ all_told (new_messages r closing)
        whole =
            did.added ∙ ap (λ xs. xs ++ all_told (new_messages r did.now)) began
            ∙ ap (λ (ms : List Appended). (earlier ++ came_to Ran) ++ all_told (drop (length r.appended) ms)) (sym closing_says)

        grouped : ((earlier ++ came_to Ran) ++ all_told (new_messages r closing)) ++ close_told c (fault_on (with_bytes k bytes)) ≡ earlier ++ its_parts
        grouped =
            ap (λ xs. xs ++ close_told c (fault_on (with_bytes k bytes))) (append_assoc earlier (came_to Ran) (all_told (new_messages r closing)))
            ∙ append_assoc earlier (came_to Ran ++ all_told (new_messages r closing)) (close_told c (fault_on (with_bytes k bytes)))
