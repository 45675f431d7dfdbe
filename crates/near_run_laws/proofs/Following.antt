-- A run goes with a near client's machine, event by event.
use Rattle.std.proofs.Common.{◌≡◌, ℕ, ◌≤◌, Bool, true, false, cond, ◌==◌, List, [], ◌∷◌, ◌++◌, map, filter, Option, None, Contains, refl, ap, sym, ◌∙◌, subst, ◌⊎◌, ⊎_elim, inl, inr, append_assoc}
use Rattle.std.specs.Prelude.{pos}
use Rattle.std.specs.List.{find}
use Rattle.std.proofs.lemmas.List.Elements.{filter-append}
use Rattle.grid_base.specs.Errors.{want_of_memory}
use Rattle.grid_base.specs.Objects.{Object}
use Rattle.grid_base.specs.declared.calls.Request.{Request}
use Rattle.grid_base.specs.declared.names.CallId.{CallId}
use Rattle.grid_base.specs.declared.names.ClientKey.TheVariants.{Known}
use Rattle.partition_protocol.specs.World.{is_live}
use Rattle.partition_protocol.specs.Events.{Event, Call, Deliver, Lose, Repeat, Resend, Crash, Detect, BeginMove, BeginJoin, BeginHandover, Advance, Reopen}
use Rattle.partition_protocol.specs.Arrivals.{asked_by}
use Rattle.partition_protocol.proofs.Lists.{In, in_cases, in_contains, contains_in}
use Rattle.partition_protocol.proofs.RowFacts.{same_number, number_other}
use Rattle.partition_protocol.proofs.Answers.{map_append}
use Rattle.object_store.specs.Partitions.{Partition}
use Rattle.call_engine.specs.Calls.{Settings}
use Rattle.call_engine.specs.Objects.{partition_object}
use Rattle.near_protocol.specs.Keyed.{Keyed}
use Rattle.near_protocol.specs.Client.{hit}
use Rattle.near_protocol.specs.Near.{At as MachineAt, Grid, Occurs, LooksUp, new_grid, world, happened, all_happened, said_by, occurred as machine_occurred, opening_at, looked_up, hears, is_call_on}
use Rattle.near_protocol.specs.Claims.{AreNamedOnce}
use Rattle.grid_client.specs.Nears.{Value}
use Rattle.replay_run.specs.ScriptRuns.{home}
use Rattle.replay_run.specs.Runs.{Run, At, Arrival, Appended, world_at, connection_of, is_open, call_of, arrived, is_skipped, asked, happening, given_out, occurred}
use Rattle.replay_run.specs.Runs as replay
use Rattle.near_run_laws.specs.Maps.{keyed}
use Rattle.near_run_laws.specs.Messages.{sent_to, AreBytesOf, AreSaid}
use Rattle.near_run_laws.specs.NearConnections.{machine_events, is_of, IsGet, IsRight, IsNear, grid_of, grid_after}
use Rattle.near_run_laws.specs.Following.{Machine, Follows, step, IsNextGet, EveryOtherStepIsAside, EveryEventIsFollowed, EveryOtherCallIsFollowed, EveryMissIsFollowed, EveryHitIsFollowed, EveryHearingIsFollowed}
use Rattle.near_run_laws.proofs.Sent.{sent_to-append, said-append}
use Rattle.near_run_laws.proofs.Runs.{world_is, quiet_right, every_call_says, every_event_says}

-- ---- one event more

one_happened : {C State K V : Type 0} (o : Object C State) (l : Keyed C State K V) (g : Grid C K) (es : List (MachineAt C)) (e : MachineAt C) → all_happened o l g (es ++ e ∷ []) ≡ happened o l (all_happened o l g es) e.partition e.event
one_happened o l g [] e = refl
one_happened o l g (d ∷ es) e = one_happened o l (happened o l g d.partition d.event) es e

pub events_more : (p q : ℕ) (e : Event Request) (es : List At) (d : Event Request) → In d (replay.events_at q (es ++ record { partition = p; event = e } ∷ [])) → In d (replay.events_at q es) ⊎ ((p ≡ q) × (e ≡ d))
events_more p q e es d i = go (in_cases d (replay.events_at q es) (replay.events_at q (record { partition = p; event = e } ∷ [])) (subst (In d) parted i))
  where
    at : At
    at = record { partition = p; event = e }

    parted : replay.events_at q (es ++ record { partition = p; event = e } ∷ []) ≡ replay.events_at q es ++ replay.events_at q (record { partition = p; event = e } ∷ [])
    parted = ap (map (λ (x : At). x.event)) (filter-append (replay.is_at q) es (record { partition = p; event = e } ∷ [])) ∙ map_append (λ (x : At). x.event) (filter (replay.is_at q) es) (filter (replay.is_at q) (record { partition = p; event = e } ∷ []))

    last : (b : Bool) → (p == q) ≡ b → In d (map (λ (x : At). x.event) (cond b (record { partition = p; event = e } ∷ []) [])) → (p ≡ q) × (e ≡ d)
    last true t (inl s) = (same_number p q t, s)
    last true t (inr j) = absurd j
    last false t j = absurd j

    go : In d (replay.events_at q es) ⊎ In d (replay.events_at q (record { partition = p; event = e } ∷ [])) → In d (replay.events_at q es) ⊎ ((p ≡ q) × (e ≡ d))
    go (inl j) = inl j
    go (inr j) = inr (last (p == q) refl j)

-- a run with one event more, and some messages
record Adds (r next : Run) (p : ℕ) (e : Event Request) (new : List Appended) : Type 0 where
  members : next.members ≡ r.members
  backups : next.backups ≡ r.backups
  events : next.events ≡ r.events ++ record { partition = p; event = e } ∷ []
  connections : next.connections ≡ r.connections
  registered : next.registered ≡ r.registered
  appended : next.appended ≡ r.appended ++ new

module _ (settings : Settings) (client : ℕ) (name : List ℕ) (r next : Run) (p : ℕ) (e : Event Request) (new : List Appended) (adds : Adds r next p e new) where
  grid_more : (c : ℕ) → grid_of settings c name client next ≡ grid_after settings c name client r p e
  grid_more c =
      ap (λ n. all_happened (partition_object settings) (keyed settings c name client) (new_grid n next.backups) (machine_events next.events)) adds.members
      ∙ ap (λ n. all_happened (partition_object settings) (keyed settings c name client) (new_grid r.members n) (machine_events next.events)) adds.backups
      ∙ ap (all_happened (partition_object settings) (keyed settings c name client) (new_grid r.members r.backups)) (ap machine_events adds.events ∙ map_append (λ (x : At). record { partition = x.partition; event = x.event }) r.events (record { partition = p; event = e } ∷ []))
      ∙ one_happened (partition_object settings) (keyed settings c name client) (new_grid r.members r.backups) (machine_events r.events) (record { partition = p; event = e })

  near_more : (c m : ℕ) → IsNear r c m name → IsRight c m p e → IsNear next c m name
  near_more c m near right = record {
    connection = near.connection;
    there = ap (λ ks. find (replay.is_connection c) ks) adds.connections ∙ near.there;
    member = near.member;
    opened = near.opened;
    listens = ap (filter (is_of c)) adds.registered ∙ near.listens;
    events = λ q d i. ⊎_elim (λ j. near.events q d (contains_in d (replay.events_at q r.events) j)) (λ s. subst (IsRight c m q) s.1 (subst (λ k. IsRight c m k e) s.0 right))
        (events_more p q e r.events d (subst (λ es. In d (replay.events_at q es)) adds.events (in_contains d (replay.events_at q next.events) i)));
  }

  -- the machine goes on with that event
  follows_more : (s t : Machine) → Follows settings client name r s → IsRight s.conn s.member p e
      → AreSaid name (sent_to s.conn new) (said_by (partition_object settings) s.member s.conn (world (partition_object settings) (grid_of settings s.conn name client r) p) (grid_after settings s.conn name client r p e).changes p e)
      → t ≡ machine_occurred (partition_object settings) (keyed settings s.conn name client) s p e → Follows settings client name next t
  follows_more s t f right says is = subst (Follows settings client name next) (sym is) (record {
    grid = ap (λ g. happened (partition_object settings) (keyed settings s.conn name client) g p e) f.grid ∙ sym (grid_more s.conn);
    near = near_more s.conn s.member f.near right;
    earlier = f.earlier;
    since = f.since ++ sent_to s.conn new;
    heard = f.heard;
    sent = ap (sent_to s.conn) adds.appended ∙ sent_to-append s.conn r.appended new ∙ ap (λ xs. xs ++ sent_to s.conn new) f.sent ∙ append_assoc f.earlier f.since (sent_to s.conn new);
    said = subst (AreSaid name (f.since ++ sent_to s.conn new)) (append_assoc f.heard s.unread (said_by (partition_object settings) s.member s.conn (world (partition_object settings) s.grid p) (happened (partition_object settings) (keyed settings s.conn name client) s.grid p e).changes p e))
        (said-append (AreBytesOf name) f.since (sent_to s.conn new) (f.heard ++ s.unread) (said_by (partition_object settings) s.member s.conn (world (partition_object settings) s.grid p) (happened (partition_object settings) (keyed settings s.conn name client) s.grid p e).changes p e) f.said
        (subst (λ g. AreSaid name (sent_to s.conn new) (said_by (partition_object settings) s.member s.conn (world (partition_object settings) g p) (happened (partition_object settings) (keyed settings s.conn name client) g p e).changes p e)) (sym f.grid) says));
  })

-- ---- the steps of a run

pub every_other_step_is_aside : EveryOtherStepIsAside
every_other_step_is_aside settings client name r next s f aside = record {
  grid = f.grid
      ∙ sym (ap (λ n. all_happened (partition_object settings) (keyed settings s.conn name client) (new_grid n next.backups) (machine_events next.events)) aside.members
      ∙ ap (λ n. all_happened (partition_object settings) (keyed settings s.conn name client) (new_grid r.members n) (machine_events next.events)) aside.backups
      ∙ ap (λ es. all_happened (partition_object settings) (keyed settings s.conn name client) (new_grid r.members r.backups) (machine_events es)) aside.events);
  near = record {
    connection = (aside.connection f.near.connection f.near.there f.near.opened).0;
    there = (aside.connection f.near.connection f.near.there f.near.opened).1;
    member = (aside.connection f.near.connection f.near.there f.near.opened).2 ∙ f.near.member;
    opened = (aside.connection f.near.connection f.near.there f.near.opened).3;
    listens = aside.registered ∙ f.near.listens;
    events = λ p e i. f.near.events p e (subst (λ es. Contains (replay.events_at p es) e) aside.events i);
  };
  earlier = f.earlier;
  since = f.since;
  heard = f.heard;
  sent = aside.sent ∙ f.sent;
  said = f.said;
}

pub no_call_on : (c : ℕ) (e : Event Request) → asked_by e ≡ [] → is_call_on c e ≡ false
no_call_on c (Call k conn number request now) none = absurd cc
no_call_on c (Deliver f t k) none = refl
no_call_on c (Lose f t k) none = refl
no_call_on c (Repeat f t k) none = refl
no_call_on c (Resend k) none = refl
no_call_on c (Crash k) none = refl
no_call_on c (Detect k) none = refl
no_call_on c (BeginMove f t) none = refl
no_call_on c (BeginJoin t) none = refl
no_call_on c (BeginHandover f t) none = refl
no_call_on c Advance none = refl
no_call_on c Reopen none = refl

pub every_event_is_followed : EveryEventIsFollowed
every_event_is_followed settings client name r s p e one f quiet named =
    follows_more settings client name r (occurred (partition_object settings) r p e) p e (given_out (partition_object settings) r p e)
    (record { members = refl; backups = refl; events = refl; connections = refl; registered = refl; appended = refl })
    s (step settings client name s (Occurs p e)) f (quiet_right s.conn s.member p e quiet)
    (every_event_says settings r s.conn s.member name client p e one f.near quiet named)
    (ap (λ b. cond b s (machine_occurred (partition_object settings) (keyed settings s.conn name client) s p e)) (no_call_on s.conn e quiet))

-- a call that finds memory
module _ (settings : Settings) (client : ℕ) (name : List ℕ) (r : Run) (s : Machine) (own : Option ℕ) (a : Arrival) (skips : List CallId) (one : 1 ≤ r.members) (f : Follows settings client name r s) (right : IsRight s.conn s.member a.request.partition (call_of a))
    (named : AreNamedOnce (grid_after settings s.conn name client r a.request.partition (call_of a))) (found : is_skipped skips a.request.id ≡ false) where
  call_followed : (t : Machine) → t ≡ machine_occurred (partition_object settings) (keyed settings s.conn name client) s a.request.partition (call_of a) → Follows settings client name (asked (partition_object settings) skips r own a) t
  call_followed t is = subst (λ z. Follows settings client name z t) (sym now)
      (follows_more settings client name r (arrived r a (record { partition = a.request.partition; event = call_of a } ∷ []) (happening (partition_object settings) r own a)) a.request.partition (call_of a) (happening (partition_object settings) r own a)
      (record { members = refl; backups = refl; events = refl; connections = refl; registered = refl; appended = refl })
      s t f right (every_call_says settings r s.conn s.member name client own a one f.near right named) is)
    where
      now : asked (partition_object settings) skips r own a ≡ arrived r a (record { partition = a.request.partition; event = call_of a } ∷ []) (happening (partition_object settings) r own a)
      now = ap (λ b. cond b (arrived r a [] (replay.refusal a.made a.request (pos want_of_memory) 0 ∷ [])) (arrived r a (record { partition = a.request.partition; event = call_of a } ∷ []) (happening (partition_object settings) r own a))) found

pub every_other_call_is_followed : EveryOtherCallIsFollowed
every_other_call_is_followed settings client name r s own a skips one f apart right named found =
    call_followed settings client name r s own a skips one f right named found (step settings client name s (Occurs a.request.partition (call_of a)))
    (ap (λ b. cond b s (machine_occurred (partition_object settings) (keyed settings s.conn name client) s a.request.partition (call_of a))) (number_other a.request.id.conn s.conn apart))

-- ---- a look-up that misses

module _ (settings : Settings) (client : ℕ) (name key : List ℕ) (r : Run) (s : Machine) (a : Arrival) (f : Follows settings client name r s) (next : IsNextGet settings client name key r s a) where
  abbrev l : Keyed Request Partition (List ℕ) Value
  l = keyed settings s.conn name client

  -- the machine's call is the one that arrives
  its_call : call_of a ≡ Call s.member s.conn s.next_number (l.get s.next_number key) a.now
  its_call = ap (λ (q : Request). Call a.member q.id.conn q.id.number q a.now) next.request ∙ ap (λ m. Call m s.conn s.next_number (l.get s.next_number key) a.now) next.member

  its_partition : a.request.partition ≡ l.partition key
  its_partition = ap (λ (q : Request). q.partition) next.request

  pub right : IsRight s.conn s.member a.request.partition (call_of a)
  right = (home_here, λ e. (next.member, subst (λ q. IsGet q.id.number q) (sym next.request) (record { map = name; key = key; owner = record { client = Known client; thread = pos 0 }; call = refl; kind = refl; correlation = refl; small = next.may.room })))
    where
      home_here : home a.request ≡ a.request.partition
      home_here = ap home next.request ∙ sym (ap (λ (q : Request). q.partition) next.request)

  -- with the look-up open
  opened : Follows settings client name r (opening_at s key)
  opened = record { grid = f.grid; near = f.near; earlier = f.earlier; since = f.since; heard = f.heard; sent = f.sent; said = f.said }

  lives : is_live (world (partition_object settings) s.grid (l.partition key)) s.member ≡ true
  lives =
      ap (λ g. is_live (world (partition_object settings) g (l.partition key)) s.member) f.grid
      ∙ ap (λ w. is_live w s.member) (world_is settings s.conn name client r (l.partition key))
      ∙ ap (λ q. is_live (world_at (partition_object settings) r q) s.member) (sym its_partition) ∙ next.lives

  pub missed : hit l key s.client ≡ None → step settings client name s (LooksUp key a.now) ≡ machine_occurred (partition_object settings) l (opening_at s key) a.request.partition (call_of a)
  missed none =
      ap (looked_up (partition_object settings) l s key a.now) none
      ∙ ap (λ b. cond b (machine_occurred (partition_object settings) l (opening_at s key) (l.partition key) (Call s.member s.conn s.next_number (l.get s.next_number key) a.now)) s) lives
      ∙ ap (λ q. machine_occurred (partition_object settings) l (opening_at s key) q (Call s.member s.conn s.next_number (l.get s.next_number key) a.now)) (sym its_partition)
      ∙ ap (λ e. machine_occurred (partition_object settings) l (opening_at s key) a.request.partition e) (sym its_call)

  miss_followed : (own : Option ℕ) (skips : List CallId) → 1 ≤ r.members → AreNamedOnce (grid_after settings s.conn name client r a.request.partition (call_of a)) → is_skipped skips a.request.id ≡ false → hit l key s.client ≡ None
      → Follows settings client name (asked (partition_object settings) skips r own a) (step settings client name s (LooksUp key a.now))
  miss_followed own skips one named found none = call_followed settings client name r (opening_at s key) own a skips one opened right named found (step settings client name s (LooksUp key a.now)) (missed none)

pub every_miss_is_followed : EveryMissIsFollowed
every_miss_is_followed settings client name key r s own a skips one f next none named found = miss_followed settings client name key r s a f next own skips one named found none

-- ---- what is nothing to the run

pub every_hit_is_followed : EveryHitIsFollowed
every_hit_is_followed settings client name key r s now value f found =
    subst (Follows settings client name r) (sym (ap (looked_up (partition_object settings) (keyed settings s.conn name client) s key now) found))
    (record { grid = f.grid; near = f.near; earlier = f.earlier; since = f.since; heard = f.heard; sent = f.sent; said = f.said })

pub every_hearing_is_followed : EveryHearingIsFollowed
every_hearing_is_followed settings client name r s message rest f is =
    subst (Follows settings client name r) (sym (ap (hears (keyed settings s.conn name client) s) is)) (record {
      grid = f.grid;
      near = f.near;
      earlier = f.earlier;
      since = f.since;
      heard = f.heard ++ message ∷ [];
      sent = f.sent;
      said = subst (AreSaid name f.since) (ap (λ ms. f.heard ++ ms) is ∙ sym (append_assoc f.heard (message ∷ []) rest)) f.said;
    })
