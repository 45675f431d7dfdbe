-- A run that goes on: what was logged and replied to stays, and calls that are logged came with the history.
use Rattle.std.proofs.Common.{◌≡◌, ℕ, List, ◌∷◌, ◌++◌, map, Contains, refl, sym, ap, ◌∙◌, subst, ⊎_elim, inl}
use Rattle.std.proofs.lemmas.List.{map-append}
use Rattle.grid_base.specs.declared.names.CallId.{CallId}
use Rattle.grid_base.specs.declared.calls.Request.{Request}
use Rattle.grid_base.specs.Objects.{Object}
use Rattle.object_store.specs.Partitions.{Partition}
use Rattle.call_engine.specs.Objects.{partition_object}
use Rattle.partition_protocol.specs.Arrivals.{NamedOnce, name, calls_in}
use Rattle.partition_protocol.specs.History.{Entry, Executed, Called}
use Rattle.partition_protocol.specs.HistorySizes.{asked_of}
use Rattle.partition_protocol.specs.World.{World, start}
use Rattle.partition_protocol.specs.Events.{run, Refused}
use Rattle.partition_protocol.specs.Execution.{Reached}
use Rattle.partition_protocol.specs.Sequences.{IsFrontOf}
use Rattle.partition_protocol.proofs.Extends.{run_append, run_longer}
use Rattle.partition_protocol.proofs.Faithful.{calls_append, part_in, run_part}
use Rattle.partition_protocol.proofs.HistorySizes.{every_logged_call_arrived, in_calls}
use Rattle.partition_protocol.proofs.Lists.{In, in_left, in_right, in_cases, in_contains, contains_in, IsPart}
use Rattle.partition_world.specs.declared.event.Event.{Event}
use Rattle.partition_world.specs.declared.event.Event.TheVariants as event
use Rattle.partition_world.specs.Events.{event_of}
use Rattle.live_grid.specs.declared.plan.GridPlan.{GridPlan}
use Rattle.live_grid.specs.Plans.{settings_for}
use Rattle.live_grid.specs.Histories.{cells, outcome_after}
use Rattle.live_grid.specs.Outcomes.{IsRepliedIn}
use Rattle.live_history_laws.specs.Entries.{CameIn}
use Rattle.live_history_laws.proofs.Arrivals.{arrived, came_at}
use Rattle.live_history_laws.proofs.Elements.{named_append}
use Rattle.live_history_laws.proofs.Refused.{refused_kept}

in_front : {X : Type 0} (xs ys : List X) (x : X) → IsFrontOf xs ys → Contains xs x → Contains ys x
in_front xs ys x front c = subst (λ zs. Contains zs x) front.1 (contains_in x (xs ++ front.0) (in_left x xs front.0 (in_contains x xs c)))

-- a call that arrived came with the history
pub came_in : (history : List (Event Request)) (x : Executed Request) → In (asked_of x) (arrived history) → CameIn history x
came_in history x i =
    let at = came_at history (asked_of x) i in
    let e = event.Call at.member (record { conn = x.conn; number = x.number }) x.call x.now in record {
      member = at.member;
      there = contains_in e history (subst (λ es. In e es) (sym at.whole) (in_right e at.before (e ∷ at.after) (inl refl)));
    }

module _ (plan : GridPlan) where
  abbrev pub object : Object Request Partition
  object = partition_object (settings_for plan)

  abbrev pub opening : World Request
  opening = start plan.partition plan.members plan.backups

  pub longer : (before after : List (Event Request)) → IsFrontOf (cells plan before).recorded.log (cells plan (before ++ after)).recorded.log × IsFrontOf (cells plan before).released (cells plan (before ++ after)).released
  longer before after =
      subst (λ es. IsFrontOf (cells plan before).recorded.log (run object opening es).recorded.log × IsFrontOf (cells plan before).released (run object opening es).released)
      (sym (map-append event_of before after)) (run_longer object opening (map event_of before) (map event_of after))

  pub still_replied : (before after : List (Event Request)) (id : CallId) (reply : List ℕ) → IsRepliedIn plan before id reply → IsRepliedIn plan (before ++ after) id reply
  still_replied before after id reply is =
      let more = longer before after in record {
        answer = is.answer;
        released = record {
          released = in_front (cells plan before).released (cells plan (before ++ after)).released _ more.1 is.released.released;
          call = is.released.call;
          executed = in_front (cells plan before).recorded.log (cells plan (before ++ after)).recorded.log _ more.0 is.released.executed;
          id = is.released.id;
          version = is.released.version;
          seen = is.released.seen;
          reply = is.released.reply;
        };
        named = is.named;
        reply_is = is.reply_is;
      }

  -- a call that is logged came with the history
  pub logged_arrives : (history : List (Event Request)) (x : Executed Request) → In (Called x) (cells plan history).recorded.log → In (asked_of x) (arrived history)
  logged_arrives history x i =
      in_contains (asked_of x) (arrived history)
      ((every_logged_call_arrived object plan.partition plan.members plan.backups (map event_of history)).each x (contains_in (Called x) (cells plan history).recorded.log i))

  pub logged_came : (history : List (Event Request)) (x : Executed Request) → In (Called x) (cells plan history).recorded.log → CameIn history x
  logged_came history x i = came_in history x (logged_arrives history x i)

  -- a call that was refused leaves no trace
  pub without_refused : (before after : List (Event Request)) (member : ℕ) (id : CallId) (request : Request) (now : ℕ) (why : Reached)
      → outcome_after plan before (event.Call member id request now) ≡ Refused why → cells plan (before ++ event.Call member id request now ∷ after) ≡ cells plan (before ++ after)
  without_refused before after member id request now why e =
      ap (run object opening) (map-append event_of before (event.Call member id request now ∷ after))
      ∙ (run_append object opening (map event_of before) (event_of (event.Call member id request now) ∷ map event_of after)
      ∙ (ap (λ (u : World Request). run object u (map event_of after)) (refused_kept object (cells plan before) member id.conn id.number request now why e)
      ∙ (sym (run_append object opening (map event_of before) (map event_of after)) ∙ ap (run object opening) (sym (map-append event_of before after)))))

  -- what was logged after a moment came after it
  pub late_came : (before after : List (Event Request)) (rest : List (Entry Request)) (x : Executed Request) → (cells plan before).recorded.log ++ rest ≡ (cells plan (before ++ after)).recorded.log
      → NamedOnce (map name (calls_in ((cells plan before).recorded.log ++ rest))) → In (Called x) rest → CameIn after x
  late_came before after rest x whole once i = came_in after x (⊎_elim (λ j. absurd (earlier j)) (λ j. j) (in_cases (asked_of x) (calls_in log) (arrived after) there))
    where
      log : List (Entry Request)
      log = (cells plan before).recorded.log

      parts : IsPart (calls_in (log ++ rest)) (calls_in log ++ arrived after)
      parts =
          subst (λ es. IsPart (calls_in es) (calls_in log ++ arrived after)) (sym whole)
          (subst (λ (u : World Request). IsPart (calls_in u.recorded.log) (calls_in log ++ arrived after))
          (sym (ap (run object opening) (map-append event_of before after) ∙ run_append object opening (map event_of before) (map event_of after)))
          (run_part object (cells plan before) (map event_of after)))

      there : In (asked_of x) (calls_in log ++ arrived after)
      there = part_in (calls_in (log ++ rest)) (calls_in log ++ arrived after) (asked_of x) parts (in_calls (log ++ rest) x (in_right (Called x) log rest i))

      earlier : In (asked_of x) (calls_in log) → ⊥
      earlier j = named_append name (calls_in log) (calls_in rest) (asked_of x) (asked_of x) (subst (λ xs. NamedOnce (map name xs)) (calls_append log rest) once) j (in_calls rest x i) refl
