-- A run without what those who listen are told: at an event it appends the answers that are released and heard, as their calls were executed.
use Rattle.std.specs.Prelude.{ℕ, Bool, ◌||◌, List, ◌∷◌, [], ◌++◌, length, map, filter, drop, Option, Some, None}
use Rattle.std.specs.List.{filter_map}
use Rattle.grid_base.specs.Objects.{Object}
use Rattle.grid_base.specs.declared.calls.Request.{Request}
use Rattle.partition_protocol.specs.Node.{Held}
use Rattle.partition_protocol.specs.History.{Executed}
use Rattle.partition_protocol.specs.World.{World}
use Rattle.partition_protocol.specs.Events.{Event, happens}
use Rattle.partition_world.specs.Answers.{id_of, newest_call}
use Rattle.replay_run.specs.Runs.{Run, Arrival, Appended, connection_of, is_open, is_own, world_at, call_of, refused_by, reopening_by}

-- the call of an answer, as it was executed
abbrev pub executed_for : World Request → Held → Option (Executed Request)
executed_for w h = newest_call (record { conn = h.conn; number = h.number }) w.recorded.log

-- the calls whose answers were released between two moments of a world, in order of release
abbrev pub executed_by : World Request → World Request → List (Executed Request)
executed_by before after = filter_map (executed_for after) (drop (length before.released) after.released)

abbrev pub answer_to : ℕ → Executed Request → Appended
answer_to line x = record { conn = x.conn; line = line; bytes = x.reply; answers = Some (id_of x); refuses = None }

abbrev pub is_heard : Run → Executed Request → Bool
is_heard r x = is_open (connection_of r x.conn)

-- at a call the connection whose bytes are at hand counts as open
abbrev pub is_heard_by : Run → Option ℕ → Executed Request → Bool
is_heard_by r own x = is_own own x.conn || is_heard r x

module _ {State : Type 0} (o : Object Request State) (r : Run) where
  abbrev pub bare_happening : Option ℕ → Arrival → List Appended
  bare_happening own a =
      let before = world_at o r a.request.partition in
      let next = happens o before (call_of a) in
      refused_by a.made a.request next.outcome ++ map (answer_to r.lines) (filter (is_heard_by r own) (executed_by before next.world))

  abbrev pub bare_given_out : ℕ → Event Request → List Appended
  bare_given_out p event =
      let before = world_at o r p in
      map (answer_to r.lines) (filter (is_heard r) (executed_by before (happens o before event).world))

  abbrev pub bare_occurred : ℕ → Event Request → Run
  bare_occurred p event = record r {
    events = r.events ++ record { partition = p; event = event } ∷ [];
    appended = r.appended ++ bare_given_out p event;
    reopened = r.reopened ++ reopening_by p r.lines event (happens o (world_at o r p) event).outcome;
  }
