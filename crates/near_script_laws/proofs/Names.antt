-- In a near client's machine no two calls of one partition have one name, since none have in its run.
use Rattle.std.proofs.Common.{◌≡◌, ℕ, Bool, true, false, cond, List, [], ◌∷◌, ◌++◌, map, Option, Some, None, refl, ap, sym, ◌∙◌, subst, append-nil}
use Rattle.std.specs.Prelude.{pos}
use Rattle.grid_base.specs.Errors.{want_of_memory}
use Rattle.grid_base.specs.Objects.{Object}
use Rattle.grid_base.specs.declared.names.CallId.{CallId}
use Rattle.grid_base.specs.declared.calls.Request.{Request}
use Rattle.object_store.specs.Partitions.{Partition}
use Rattle.session_core.specs.Places.{partition_of_key}
use Rattle.request_codecs.specs.Openings.{opening}
use Rattle.call_engine.specs.Calls.{Settings}
use Rattle.call_engine.specs.Objects.{partition_object}
use Rattle.partition_protocol.specs.World.{start, is_live}
use Rattle.partition_protocol.specs.Events.{Event, Call, run}
use Rattle.partition_protocol.specs.Arrivals.{arrivals, name, NamedOnce}
use Rattle.partition_protocol.proofs.Answers.{map_append}
use Rattle.partition_protocol.proofs.RowFacts.{number_other}
use Rattle.near_protocol.specs.Keyed.{Keyed}
use Rattle.near_protocol.specs.Client.{Said, hit}
use Rattle.near_protocol.specs.Near.{Grid, Occurs, LooksUp, LooksUpInVain, new_grid, world, happened, occurred as machine_occurred, opening_at, looked_up, looked_up_in_vain, hears, events_at}
use Rattle.near_protocol.specs.Claims.{AreNamedOnce}
use Rattle.near_protocol.proofs.Attaching.{all_events}
use Rattle.grid_client.specs.Nears.{Value}
use Rattle.replay_run.specs.ScriptRuns.{IsRun}
use Rattle.replay_run.specs.Runs.{Run, At, Arrival, Appended, call_of, is_skipped, asked, arrived, refusal, happening, world_at}
use Rattle.replay_run.specs.Runs as replay
use Rattle.replay_run.proofs.RunFacts.{named}
use Rattle.replay_run.proofs.RunsOfLines.{run_ok}
use Rattle.near_run_laws.specs.Maps.{keyed, get_request}
use Rattle.near_run_laws.specs.NearConnections.{machine_events}
use Rattle.near_run_laws.specs.Sessions.{near_opened}
use Rattle.near_run_laws.specs.Following.{Machine, step, IsNextGet}
use Rattle.near_run_laws.specs.NearRuns.{IsNearRun, client_came, went_aside, event_happened, call_arrived, client_missed, client_missed_in_vain, client_hit, client_heard}
use Rattle.near_run_laws.proofs.Following.{no_call_on}
use Rattle.near_run_laws.proofs.Runs.{members_is, backups_is, events_is}

-- ---- the machine's events are those of the run

record Alike (r : Run) (g : Grid Request (List ℕ)) : Type 0 where
  members : g.members ≡ r.members
  backups : g.backups ≡ r.backups
  events : g.events ≡ machine_events r.events

-- one event more
more_alike : (o : Object Request Partition) (l : Keyed Request Partition (List ℕ) Value) (r next : Run) (g : Grid Request (List ℕ)) (p : ℕ) (e : Event Request) → next.members ≡ r.members → next.backups ≡ r.backups
    → next.events ≡ r.events ++ record { partition = p; event = e } ∷ [] → Alike r g → Alike next (happened o l g p e)
more_alike o l r next g p e members backups events a = record {
  members = a.members ∙ sym members;
  backups = a.backups ∙ sym backups;
  events = ap (λ es. es ++ record { partition = p; event = e } ∷ []) a.events ∙ sym (ap machine_events events ∙ map_append (λ (x : At). record { partition = x.partition; event = x.event }) r.events (record { partition = p; event = e } ∷ []));
}

none_alike : (r next : Run) (g : Grid Request (List ℕ)) → next.members ≡ r.members → next.backups ≡ r.backups → next.events ≡ r.events → Alike r g → Alike next g
none_alike r next g members backups events a = record { members = a.members ∙ sym members; backups = a.backups ∙ sym backups; events = a.events ∙ sym (ap machine_events events) }

module _ (settings : Settings) (client : ℕ) (name : List ℕ) where
  abbrev o : Object Request Partition
  o = partition_object settings

  -- a call's part in the run, where it finds memory and where it doesn't
  abbrev with_call : Run → Option ℕ → Arrival → Run
  with_call r own a = arrived r a (record { partition = a.request.partition; event = call_of a } ∷ []) (happening o r own a)

  abbrev choice : Run → Option ℕ → Arrival → Bool → Run
  choice r own a b = cond b (arrived r a [] (refusal a.made a.request (pos want_of_memory) 0 ∷ [])) (with_call r own a)

  found_is : (skips : List CallId) (r : Run) (own : Option ℕ) (a : Arrival) → is_skipped skips a.request.id ≡ false → asked o skips r own a ≡ with_call r own a
  found_is skips r own a found = ap (choice r own a) found

  world_alike : (r : Run) (g : Grid Request (List ℕ)) (p : ℕ) → Alike r g → world o g p ≡ world_at o r p
  world_alike r g p a =
      ap (λ n. run o (start p n g.backups) (events_at p g.events)) a.members
      ∙ ap (λ n. run o (start p r.members n) (events_at p g.events)) a.backups
      ∙ ap (λ es. run o (start p r.members r.backups) (events_at p es)) a.events
      ∙ sym (ap (λ es. run o (start p r.members r.backups) (events_at p es)) (all_events o (keyed settings 0 name client) (new_grid r.members r.backups) (machine_events r.events)))
      ∙ ap (run o (start p r.members r.backups)) (events_is settings 0 name client r p)

  -- a look-up that misses
  module _ (r : Run) (s : Machine) (key : List ℕ) (own : Option ℕ) (a : Arrival) (skips : List CallId) (like : Alike r s.grid) (next : IsNextGet settings client name key r s a) (none : hit (keyed settings s.conn name client) key s.client ≡ None) where
    abbrev its_event : Event Request
    its_event = Call s.member s.conn s.next_number (get_request s.conn name client s.next_number key) a.now

    same_at : ◌≡◌ {A = At} (record { partition = a.request.partition; event = call_of a }) (record { partition = partition_of_key key; event = its_event })
    same_at = ap (λ m. record { partition = a.request.partition; event = Call m a.request.id.conn a.request.id.number a.request a.now }) next.member ∙ ap (λ (q : Request). record { partition = q.partition; event = Call s.member q.id.conn q.id.number q a.now }) next.request

    lives : is_live (world o s.grid (partition_of_key key)) s.member ≡ true
    lives = ap (λ w. is_live w s.member) (world_alike r s.grid (partition_of_key key) like) ∙ ap (λ (q : Request). is_live (world_at o r q.partition) s.member) (sym next.request) ∙ next.lives

    missed_is : (step settings client name s (LooksUp key a.now)).grid ≡ happened o (keyed settings s.conn name client) s.grid (partition_of_key key) its_event
    missed_is = ap (λ x. (looked_up o (keyed settings s.conn name client) s key a.now x).grid) none ∙ ap (λ b. (cond b (machine_occurred o (keyed settings s.conn name client) (opening_at s key) (partition_of_key key) its_event) s).grid) lives

    missed_alike : is_skipped skips a.request.id ≡ false → Alike (asked o skips r own a) (step settings client name s (LooksUp key a.now)).grid
    missed_alike found =
        subst (λ (x : Run). Alike x (step settings client name s (LooksUp key a.now)).grid) (sym (found_is skips r own a found))
        (subst (Alike (with_call r own a)) (sym missed_is)
        (more_alike o (keyed settings s.conn name client) r (with_call r own a) s.grid (partition_of_key key) its_event refl refl (ap (λ (x : At). r.events ++ x ∷ []) same_at) like))

  -- and whose get finds no memory
  vain_alike : (r : Run) (s : Machine) (key : List ℕ) (own : Option ℕ) (a : Arrival) (skips : List CallId) → Alike r s.grid → hit (keyed settings s.conn name client) key s.client ≡ None → is_skipped skips a.request.id ≡ true
      → Alike (asked o skips r own a) (step settings client name s (LooksUpInVain key)).grid
  vain_alike r s key own a skips like none skipped =
      subst (λ (x : Run). Alike x (step settings client name s (LooksUpInVain key)).grid) (sym (ap (choice r own a) skipped))
      (subst (Alike (arrived r a [] (refusal a.made a.request (pos want_of_memory) 0 ∷ []))) (sym (ap (λ x. (looked_up_in_vain (keyed settings s.conn name client) s key x).grid) none))
      (none_alike r (arrived r a [] (refusal a.made a.request (pos want_of_memory) 0 ∷ [])) s.grid refl refl (append-nil r.events) like))

  alike : {r : Run} {s : Machine} {earlier : List (List ℕ)} {heard : List (Said (List ℕ))} → IsNearRun settings client name r s earlier heard → Alike r s.grid
  alike (client_came r0 k first capacity one within fresh new may) =
      let next = near_opened o r0 k name (opening client (Some name)) in
      record {
        members = members_is settings k.conn name client next;
        backups = backups_is settings k.conn name client next;
        events = all_events o (keyed settings k.conn name client) (new_grid next.members next.backups) (machine_events next.events);
      }
  alike (went_aside r next s earlier heard run aside) = none_alike r next s.grid aside.members aside.backups aside.events (alike run)
  alike (event_happened r s earlier heard p e run quiet) =
      subst (Alike (replay.occurred o r p e)) (sym (ap (λ b. (cond b s (machine_occurred o (keyed settings s.conn name client) s p e)).grid) (no_call_on s.conn e quiet)))
      (more_alike o (keyed settings s.conn name client) r (replay.occurred o r p e) s.grid p e refl refl refl (alike run))
  alike (call_arrived r s earlier heard own a skips run apart right found) =
      subst (λ (x : Run). Alike x (step settings client name s (Occurs a.request.partition (call_of a))).grid) (sym (found_is skips r own a found))
      (subst (Alike (with_call r own a)) (sym (ap (λ b. (cond b s (machine_occurred o (keyed settings s.conn name client) s a.request.partition (call_of a))).grid) (number_other a.request.id.conn s.conn apart)))
      (more_alike o (keyed settings s.conn name client) r (with_call r own a) s.grid a.request.partition (call_of a) refl refl refl (alike run)))
  alike (client_missed r s earlier heard key own a skips run next none found) = missed_alike r s key own a skips (alike run) next none found
  alike (client_missed_in_vain r s earlier heard key own a skips run may request none skipped) = vain_alike r s key own a skips (alike run) none skipped
  alike (client_hit r s earlier heard key value now run found) = subst (Alike r) (sym (ap (λ x. (looked_up o (keyed settings s.conn name client) s key now x).grid) found)) (alike run)
  alike (client_heard r s earlier heard message rest run is) = subst (Alike r) (sym (ap (λ ms. (hears (keyed settings s.conn name client) s ms).grid) is)) (alike run)

-- ---- names

pub machine_named : (settings : Settings) (client : ℕ) (name : List ℕ) {r : Run} {s : Machine} {earlier : List (List ℕ)} {heard : List (Said (List ℕ))} → IsNearRun settings client name r s earlier heard → IsRun (partition_object settings) r → AreNamedOnce s.grid
machine_named settings client its_name {r} {s} run is p =
    let ok = run_ok is in
    let a = alike settings client its_name run in
    subst (λ es. NamedOnce (map name (arrivals es))) (sym (ap (events_at p) (a.events ∙ sym (all_events (partition_object settings) (keyed settings 0 its_name client) (new_grid r.members r.backups) (machine_events r.events))) ∙ events_is settings 0 its_name client r p))
    (named (partition_object settings) r ok.members ok.of_arrivals p)
