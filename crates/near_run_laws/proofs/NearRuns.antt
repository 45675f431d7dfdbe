-- Each run with a near client goes with its machine, whose hits stand.
use Rattle.std.proofs.Common.{◌≡◌, ℕ, ◌≤◌, Bool, true, false, cond, List, [], ◌∷◌, ◌++◌, Option, Some, None, refl, ap, sym, ◌∙◌, subst, append_assoc}
use Rattle.std.specs.Prelude.{pos}
use Rattle.grid_base.specs.Errors.{want_of_memory}
use Rattle.grid_base.specs.declared.names.CallId.{CallId}
use Rattle.grid_base.specs.Objects.{Object}
use Rattle.grid_base.specs.declared.calls.Request.{Request}
use Rattle.object_store.specs.Partitions.{Partition}
use Rattle.partition_protocol.specs.World.{is_live}
use Rattle.partition_protocol.specs.Events.{Event, Call}
use Rattle.call_engine.specs.Calls.{Settings}
use Rattle.call_engine.specs.Objects.{partition_object}
use Rattle.near_protocol.specs.Keyed.{Keyed}
use Rattle.near_protocol.specs.Client.{Said, hit}
use Rattle.near_protocol.specs.Near.{At as MachineAt, Near, Move, Occurs, LooksUp, LooksUpInVain, Hears, new_grid, world, happened, all_happened, attached, occurred as machine_occurred, opening_at, looked_up, looked_up_in_vain, hears, is_call_on, moved, all_moved}
use Rattle.near_protocol.specs.Claims.{IsNew, AreNamedOnce, IsHit}
use Rattle.near_protocol.proofs.Moves.{named_later, move_later}
use Rattle.near_protocol.proofs.Theorem.{every_hit_stands}
use Rattle.grid_client.specs.Nears.{Value}
use Rattle.replay_run.specs.Runs.{Run, Arrival, partitions, call_of, arrived, refusal, is_skipped, asked, happening}
use Rattle.near_run_laws.specs.Maps.{keyed}
use Rattle.near_run_laws.specs.Messages.{sent_to}
use Rattle.near_run_laws.specs.NearConnections.{machine_events, grid_after}
use Rattle.near_run_laws.specs.Following.{Machine, Follows, step}
use Rattle.near_run_laws.specs.NearRuns.{IsNearRun, client_came, went_aside, event_happened, call_arrived, client_missed, client_missed_in_vain, client_hit, client_heard, EveryNearRunGoesWell}
use Rattle.near_run_laws.proofs.Maps.{every_map_is_keyed}
use Rattle.near_run_laws.proofs.Attaching.{every_opening_attaches}
use Rattle.near_run_laws.proofs.Following.{every_other_step_is_aside, every_event_is_followed, every_other_call_is_followed, every_miss_is_followed, every_hit_is_followed, every_hearing_is_followed, no_call_on, missed}
use Rattle.near_run_laws.proofs.FollowingInVain.{every_miss_in_vain_is_followed}
use Rattle.partition_protocol.proofs.RowFacts.{number_other}

-- ---- moves

moved_more : {C State K V : Type 0} (o : Object C State) (l : Keyed C State K V) (s : Near C K V) (ms : List (Move C K)) (m : Move C K) → all_moved o l s (ms ++ m ∷ []) ≡ moved o l (all_moved o l s ms) m
moved_more o l s [] m = refl
moved_more o l s (n ∷ ms) m = moved_more o l (moved o l s n) ms m

-- a move leaves the connection
pub same_conn : {C State K V : Type 0} (o : Object C State) (l : Keyed C State K V) (s : Near C K V) (m : Move C K) → (moved o l s m).conn ≡ s.conn
same_conn {C} {K = K} {V} o l s (Occurs p e) = by (is_call_on s.conn e)
  where
    by : (b : Bool) → (cond b s (machine_occurred o l s p e)).conn ≡ s.conn
    by true = refl
    by false = refl
same_conn {C} {K = K} {V} o l s (LooksUp k now) = by (hit l k s.client)
  where
    on : (b : Bool) → (cond b (machine_occurred o l (opening_at s k) (l.partition k) (Call s.member s.conn s.next_number (l.get s.next_number k) now)) s).conn ≡ s.conn
    on true = refl
    on false = refl

    by : (x : Option V) → (looked_up o l s k now x).conn ≡ s.conn
    by (Some v) = refl
    by None = on (is_live (world o s.grid (l.partition k)) s.member)
same_conn {C} {K = K} {V} o l s (LooksUpInVain k) = by (hit l k s.client)
  where
    by : (x : Option V) → (looked_up_in_vain l s k x).conn ≡ s.conn
    by (Some v) = refl
    by None = refl
same_conn {C} {K = K} {V} o l s Hears = by s.unread
  where
    by : (ms : List (Said K)) → (hears l s ms).conn ≡ s.conn
    by [] = refl
    by (m ∷ ms) = refl

-- ---- a machine that was made by moves

record Made (settings : Settings) (client : ℕ) (name : List ℕ) (s : Machine) : Type 0 where
  c : ℕ
  on : s.conn ≡ c
  members : ℕ
  backups : ℕ
  member : ℕ
  first : ℕ
  capacity : ℕ
  earlier : List (MachineAt Request)
  moves : List (Move Request (List ℕ))
  one : 1 ≤ members
  new : IsNew c earlier
  is : s ≡ all_moved (partition_object settings) (keyed settings c name client) (attached (partition_object settings) partitions member c first capacity (all_happened (partition_object settings) (keyed settings c name client) (new_grid members backups) earlier)) moves

module _ (settings : Settings) (client : ℕ) (name : List ℕ) where
  abbrev o : Object Request Partition
  o = partition_object settings

  made_step : (s : Machine) → Made settings client name s → (move : Move Request (List ℕ)) → Made settings client name (step settings client name s move)
  made_step s m move = record {
    c = m.c;
    on = same_conn o (keyed settings s.conn name client) s move ∙ m.on;
    members = m.members;
    backups = m.backups;
    member = m.member;
    first = m.first;
    capacity = m.capacity;
    earlier = m.earlier;
    moves = m.moves ++ move ∷ [];
    one = m.one;
    new = m.new;
    is =
        ap (λ n. moved o (keyed settings n name client) s move) m.on
        ∙ ap (λ z. moved o (keyed settings m.c name client) z move) m.is
        ∙ sym (moved_more o (keyed settings m.c name client) (attached o partitions m.member m.c m.first m.capacity (all_happened o (keyed settings m.c name client) (new_grid m.members m.backups) m.earlier)) m.moves move);
  }

  -- its hits stand
  made_hits : (s : Machine) → Made settings client name s → AreNamedOnce s.grid → (key : List ℕ) (value : Value) → hit (keyed settings s.conn name client) key s.client ≡ Some value → IsHit o (keyed settings s.conn name client) s key value
  made_hits s m named key value found = subst (λ n. IsHit o (keyed settings n name client) s key value) (sym m.on) (subst (λ (z : Machine). IsHit o (keyed settings m.c name client) z key value) (sym m.is)
      (every_hit_stands o (keyed settings m.c name client) m.members m.backups partitions m.member m.c m.first m.capacity m.earlier m.moves key value m.one (every_map_is_keyed settings m.c name client).0 m.new
      (subst (λ (z : Machine). AreNamedOnce z.grid) m.is named)
      (subst (λ (z : Machine). hit (keyed settings m.c name client) key z.client ≡ Some value) m.is (subst (λ n. hit (keyed settings n name client) key s.client ≡ Some value) m.on found))))

  -- ---- the run and the machine go together

  record Both (r : Run) (s : Machine) : Type 0 where
    members : 1 ≤ r.members
    made : Made settings client name s
    follows : Follows settings client name r s

  -- the names before a step stand once, where they do after it
  pub before : (s : Machine) (move : Move Request (List ℕ)) → AreNamedOnce (step settings client name s move).grid → AreNamedOnce s.grid
  before s move named = named_later s.grid (step settings client name s move).grid (move_later o (keyed settings s.conn name client) s move) named

  -- the grid after an event is that of the run
  after_event : (r : Run) (s t : Machine) (p : ℕ) (e : Event Request) → Follows settings client name r s → t.grid ≡ happened o (keyed settings s.conn name client) s.grid p e → AreNamedOnce t.grid → AreNamedOnce (grid_after settings s.conn name client r p e)
  after_event r s t p e f is named = subst AreNamedOnce (is ∙ ap (λ g. happened o (keyed settings s.conn name client) g p e) f.grid) named

  goes_event : (r : Run) (s : Machine) (p : ℕ) (e : Event Request) → is_call_on s.conn e ≡ false → (step settings client name s (Occurs p e)).grid ≡ happened o (keyed settings s.conn name client) s.grid p e
  goes_event r s p e other = ap (λ b. (cond b s (machine_occurred o (keyed settings s.conn name client) s p e)).grid) other

  asked_members : (r : Run) (own : Option ℕ) (a : Arrival) (skips : List CallId) → (asked (partition_object settings) skips r own a).members ≡ r.members
  asked_members r own a skips = by (is_skipped skips a.request.id)
    where
      by : (b : Bool) → (cond b (arrived r a [] (refusal a.made a.request (pos want_of_memory) 0 ∷ [])) (arrived r a (record { partition = a.request.partition; event = call_of a } ∷ []) (happening (partition_object settings) r own a))).members ≡ r.members
      by true = refl
      by false = refl

  both : {r : Run} {s : Machine} {earlier : List (List ℕ)} {heard : List (Said (List ℕ))} → IsNearRun settings client name r s earlier heard → AreNamedOnce s.grid → Both r s
  both (client_came r0 k first capacity one within fresh new may) named =
      let at = every_opening_attaches settings r0 k client name one within fresh may in
      record {
        members = one;
        made = record { c = k.conn; on = refl; members = r0.members; backups = r0.backups; member = k.member; first = first; capacity = capacity; earlier = machine_events r0.events; moves = []; one = one; new = new; is = refl };
        follows = record {
          grid = refl;
          near = at.near;
          earlier = sent_to k.conn r0.appended ++ at.first ∷ at.second ∷ at.third ∷ [];
          since = at.rows ∷ [];
          heard = [];
          sent = at.sent ∙ sym (append_assoc (sent_to k.conn r0.appended) (at.first ∷ at.second ∷ at.third ∷ []) (at.rows ∷ []));
          said = at.told first capacity;
        };
      }
  both (went_aside r next s earlier heard run aside) named =
      let b = both run named in
      record { members = subst (λ n. 1 ≤ n) (sym aside.members) b.members; made = b.made; follows = every_other_step_is_aside settings client name r next s b.follows aside }
  both (event_happened r s earlier heard p e run quiet) named =
      let b = both run (before s (Occurs p e) named) in
      let once = after_event r s (step settings client name s (Occurs p e)) p e b.follows (goes_event r s p e (no_call_on s.conn e quiet)) named in
      record { members = b.members; made = made_step s b.made (Occurs p e); follows = every_event_is_followed settings client name r s p e b.members b.follows quiet once }
  both (call_arrived r s earlier heard own a skips run apart right found) named =
      let b = both run (before s (Occurs a.request.partition (call_of a)) named) in
      let once = after_event r s (step settings client name s (Occurs a.request.partition (call_of a))) a.request.partition (call_of a) b.follows (goes_event r s a.request.partition (call_of a) (number_other a.request.id.conn s.conn apart)) named in
      record {
        members = subst (λ n. 1 ≤ n) (sym (asked_members r own a skips)) b.members;
        made = made_step s b.made (Occurs a.request.partition (call_of a));
        follows = every_other_call_is_followed settings client name r s own a skips b.members b.follows apart right once found;
      }
  both (client_missed r s earlier heard key own a skips run next none found) named =
      let b = both run (before s (LooksUp key a.now) named) in
      let once = after_event r s (step settings client name s (LooksUp key a.now)) a.request.partition (call_of a) b.follows (ap (λ (z : Machine). z.grid) (missed settings client name key r s a b.follows next none)) named in
      record {
        members = subst (λ n. 1 ≤ n) (sym (asked_members r own a skips)) b.members;
        made = made_step s b.made (LooksUp key a.now);
        follows = every_miss_is_followed settings client name key r s own a skips b.members b.follows next none once found;
      }
  both (client_missed_in_vain r s earlier heard key own a skips run may request none skipped) named =
      let b = both run (before s (LooksUpInVain key) named) in
      record {
        members = subst (λ n. 1 ≤ n) (sym (asked_members r own a skips)) b.members;
        made = made_step s b.made (LooksUpInVain key);
        follows = every_miss_in_vain_is_followed settings client name key r s own a skips b.follows request none skipped;
      }
  both (client_hit r s earlier heard key value now run found) named =
      let b = both run (before s (LooksUp key now) named) in
      record { members = b.members; made = made_step s b.made (LooksUp key now); follows = every_hit_is_followed settings client name key r s now value b.follows found }
  both (client_heard r s earlier heard message rest run is) named =
      let b = both run (before s Hears named) in
      record { members = b.members; made = made_step s b.made Hears; follows = every_hearing_is_followed settings client name r s message rest b.follows is }

pub every_near_run_goes_well : EveryNearRunGoesWell
every_near_run_goes_well settings client name r s earlier heard run named =
    let b = both settings client name run named in
    record { members = b.members; follows = b.follows; hits = made_hits settings client name s b.made named }
