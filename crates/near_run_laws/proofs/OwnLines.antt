-- A near client's own lines are followed by its machine.
use Rattle.std.proofs.Common.{◌≡◌, ℕ, Bool, true, false, cond, not, List, [], ◌∷◌, ◌++◌, Option, Some, None, refl, ap, sym, ◌∙◌, subst}
use Rattle.std.specs.Prelude.{pos, is_some}
use Rattle.grid_base.specs.Errors.{want_of_memory}
use Rattle.grid_base.specs.Objects.{Object}
use Rattle.grid_base.specs.declared.calls.Request.{Request}
use Rattle.grid_base.specs.declared.names.CallId.{CallId}
use Rattle.object_store.specs.Partitions.{Partition}
use Rattle.message_frames.specs.Messages.{fault_of}
use Rattle.call_engine.specs.Calls.{Settings}
use Rattle.call_engine.specs.Objects.{partition_object}
use Rattle.partition_protocol.proofs.Lists.{on_if}
use Rattle.partition_protocol.proofs.RowFacts.{same_number}
use Rattle.session_core.specs.Places.{partition_of_key}
use Rattle.script_lang.specs.declared.line.Line.TheVariants.{Arrive}
use Rattle.request_codecs.specs.Openings.{opening}
use Rattle.near_protocol.specs.Client.{Said, hit}
use Rattle.near_protocol.specs.Near.{LooksUp, LooksUpInVain, looked_up_in_vain, missed_in_vain, attached}
use Rattle.near_protocol.specs.Claims.{AreNamedOnce}
use Rattle.near_protocol.proofs.Hear.{find_in}
use Rattle.replay_run.specs.Runs.{Run, Connection, Arrival, call_of, connection_of, is_connection, took_bytes, with_bytes, arrival_at, refusal, happening, is_skipped, arrived, given_up, asked, served, calls, next_line, bytes_arrived, partitions}
use Rattle.replay_run.specs.AfterLines.{after_line}
use Rattle.near_run_laws.specs.Maps.{keyed, get_request}
use Rattle.near_run_laws.specs.Messages.{sent_to}
use Rattle.near_run_laws.specs.NearConnections.{grid_of}
use Rattle.near_run_laws.specs.Sessions.{MayGet, get_bytes}
use Rattle.near_run_laws.specs.Following.{Machine, Follows, step, IsNextGet}
use Rattle.near_run_laws.specs.NearRuns.{IsNearRun, client_came, went_aside, client_missed, client_missed_in_vain}
use Rattle.near_run_laws.specs.Lines.{WaitElsewhere}
use Rattle.near_run_laws.specs.OwnLines.{EveryOpeningLineIsFollowed, MayMiss, HasOpened, EveryGetLineIsFollowed}
use Rattle.near_run_laws.proofs.Lines.{served_on}
use Rattle.near_run_laws.proofs.Sessions.{find_updated, every_get_is_heard, every_opening_is_served, every_get_is_served}
use Rattle.near_run_laws.proofs.Following.{missed}
use Rattle.near_run_laws.proofs.NearRuns.{every_near_run_goes_well}

-- the line of bytes on a connection that is there
arrives : (o : Object Request Partition) (skips : List CallId) (r : Run) (c : ℕ) (k : Connection) (bytes : List ℕ) → connection_of r c ≡ Some k → after_line o skips r (Arrive c bytes) ≡ bytes_arrived o skips r k bytes
arrives o skips r c k bytes there = ap (λ x. elim x [ None ↦ next_line r | Some j ↦ bytes_arrived o skips r j bytes ]) there

pub every_opening_line_is_followed : EveryOpeningLineIsFollowed
every_opening_line_is_followed settings client name r k skips first capacity one within fresh new may takes =
    subst (λ (z : Run). IsNearRun settings client name z (attached (partition_object settings) partitions k.member k.conn first capacity (grid_of settings k.conn name client z)) (sent_to k.conn r.appended) [])
    (sym (arrives (partition_object settings) skips r k.conn k (opening client (Some name)) fresh.there ∙ every_opening_is_served (partition_object settings) skips r k client name fresh.there takes fresh.empty may))
    (client_came r k first capacity one within fresh new may)

module _ (settings : Settings) (client : ℕ) (name key : List ℕ) (r : Run) (s : Machine) (earlier : List (List ℕ)) (heard : List (Said (List ℕ))) (k : Connection) (skips : List CallId) (run : IsNearRun settings client name r s earlier heard) (named : AreNamedOnce s.grid) (may : MayMiss settings client name key r s k) (none : hit (keyed settings s.conn name client) key s.client ≡ None) where
  abbrev o : Object Request Partition
  o = partition_object settings

  abbrev bytes : List ℕ
  bytes = get_bytes name client s.next_number key

  abbrev taken : Run
  taken = took_bytes r k (get_bytes name client s.next_number key)

  abbrev a : Arrival
  a = arrival_at (took_bytes r k (get_bytes name client s.next_number key)) k.member (get_request k.conn name client s.next_number key)

  same_conn : k.conn ≡ s.conn
  same_conn = same_number k.conn s.conn (find_in (is_connection s.conn) r.connections k may.there).1

  abbrev own : Option ℕ
  own = Some k.conn

  there : connection_of r k.conn ≡ Some k
  there = subst (λ c. connection_of r c ≡ Some k) (sym same_conn) may.there

  -- what the line does
  called : bytes_arrived o skips r k bytes ≡ calls o skips taken k.member (get_request k.conn name client s.next_number key)
  called = subst (λ n. MayGet name client n key → bytes_arrived o skips r k (get_bytes name client n key) ≡ calls o skips (took_bytes r k (get_bytes name client n key)) k.member (get_request k.conn name client n key)) may.number
      (λ fits. every_get_is_served o skips r k client name key there may.takes may.sent fits) may.fits

  is_served : after_line o skips r (Arrive s.conn bytes) ≡ served o skips (asked o skips taken own a) own (partition_of_key key) k.member
  is_served = arrives o skips r s.conn k bytes may.there ∙ called ∙ ap (λ b. served o skips (cond b (given_up (arrived taken a [] [])) (asked o skips taken own a)) own (partition_of_key key) k.member) may.room

  -- the connection has the bytes, and is open still
  whole : fault_of true (k.bytes ++ bytes) ≡ None
  whole = subst (λ n. MayGet name client n key → fault_of true (k.bytes ++ get_bytes name client n key) ≡ None) may.number (λ fits. (every_get_is_heard k.conn k.member client name key k.bytes may.sent fits).0.whole) may.fits

  run_taken : IsNearRun settings client name taken s earlier heard
  run_taken = went_aside r taken s earlier heard run (record {
    members = refl;
    backups = refl;
    events = refl;
    connection = λ j e still. (with_bytes k bytes, there_now, ap (λ (x : Connection). x.member) (same j e), ap (λ f. not (is_some f)) whole);
    registered = refl;
    sent = refl;
  })
    where
      there_now : connection_of taken s.conn ≡ Some (with_bytes k bytes)
      there_now = subst (λ c. connection_of taken c ≡ Some (with_bytes k bytes)) same_conn (find_updated (with_bytes k bytes) r.connections k there)

      same : (j : Connection) → connection_of r s.conn ≡ Some j → k ≡ j
      same j e = (let both : Some k ≡ Some j = sym may.there ∙ e in cc)

  request_is : a.request ≡ get_request s.conn name client s.next_number key
  request_is = ap (λ c. get_request c name client s.next_number key) same_conn

  next_get : IsNextGet settings client name key taken s a
  next_get = record { may = may.fits; member = may.member_is; request = request_is; lives = may.lives }

  follows : Follows settings client name taken s
  follows = (every_near_run_goes_well settings client name taken s earlier heard run_taken named).follows

  -- whoever waits is where it was
  elsewhere : WaitElsewhere s.conn (asked o skips taken own a)
  elsewhere = on_if (WaitElsewhere s.conn) (is_skipped skips a.request.id) (arrived taken a [] (refusal a.made a.request (pos want_of_memory) 0 ∷ [])) (arrived taken a (record { partition = a.request.partition; event = call_of a } ∷ []) (happening o taken own a))
      may.elsewhere may.elsewhere

  by_memory : (b : Bool) → is_skipped skips a.request.id ≡ b → HasOpened settings client name key s earlier heard (asked o skips taken own a)
  by_memory false found =
      let is = missed settings client name key taken s a follows next_get none in
      record {
        machine = step settings client name s (LooksUp key a.now);
        run = client_missed taken s earlier heard key own a skips run_taken next_get none found;
        conn = ap (λ (z : Machine). z.conn) is;
        looks = ap (λ (z : Machine). z.client) is;
        number = ap (λ (z : Machine). z.next_number) is;
        elsewhere = elsewhere;
      }
  by_memory true skipped =
      let is : step settings client name s (LooksUpInVain key) ≡ missed_in_vain s key = ap (looked_up_in_vain (keyed settings s.conn name client) s key) none in
      record {
        machine = step settings client name s (LooksUpInVain key);
        run = client_missed_in_vain taken s earlier heard key own a skips run_taken may.fits request_is none skipped;
        conn = ap (λ (z : Machine). z.conn) is;
        looks = ap (λ (z : Machine). z.client) is;
        number = ap (λ (z : Machine). z.next_number) is;
        elsewhere = elsewhere;
      }

  -- then others that wait there have their turns
  with_turns : HasOpened settings client name key s earlier heard (asked o skips taken own a) → HasOpened settings client name key s earlier heard (served o skips (asked o skips taken own a) own (partition_of_key key) k.member)
  with_turns h =
      let made = asked o skips taken own a in
      let g = served_on settings client name h.machine earlier heard skips made own (partition_of_key key) k.member
      (record { machine = h.machine; run = h.run; conn = refl; idle = refl; number = refl; elsewhere = subst (λ c. WaitElsewhere c made) (sym h.conn) h.elsewhere })
      in
      record {
        machine = g.machine;
        run = g.run;
        conn = g.conn ∙ h.conn;
        looks = g.idle ∙ h.looks;
        number = g.number ∙ h.number;
        elsewhere = subst (λ c. WaitElsewhere c (served o skips made own (partition_of_key key) k.member)) h.conn g.elsewhere;
      }

  pub get_followed : HasOpened settings client name key s earlier heard (after_line o skips r (Arrive s.conn bytes))
  get_followed = subst (HasOpened settings client name key s earlier heard) (sym is_served) (with_turns (by_memory (is_skipped skips a.request.id) refl))

pub every_get_line_is_followed : EveryGetLineIsFollowed
every_get_line_is_followed settings client name key r s earlier heard k skips run named may none = get_followed settings client name key r s earlier heard k skips run named may none
