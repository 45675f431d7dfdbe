-- A near client that comes goes with a machine, or its member has crashed.
use Rattle.std.proofs.Common.{◌≡◌, ◌≢◌, ℕ, ◌+◌, ◌*◌, ◌<◌, ◌≤◌, true, false, cond, ◌&&◌, List, [], ◌∷◌, ◌++◌, length, filter, Some, None, refl, ap, sym, ◌∙◌, subst, inl, inr, ⊎_elim, arith}
use Rattle.std.specs.Prelude.{All, Contains}
use Rattle.std.specs.Str.{IsUtf8}
use Rattle.grid_base.specs.Objects.{Object}
use Rattle.grid_base.specs.declared.names.CallId.{CallId}
use Rattle.grid_base.specs.declared.calls.Request.{Request}
use Rattle.std.proofs.lemmas.List.Elements.{All-nil}
use Rattle.frame_codec.specs.Laws.{IsWithinLimits}
use Rattle.message_frames.specs.Grammar.{piece_frames}
use Rattle.message_frames.specs.Messages.{messages_of}
use Rattle.message_frames.proofs.HeardPieces.{unheard}
use Rattle.object_store.specs.Partitions.{Partition}
use Rattle.session_core.specs.Items.{items_of}
use Rattle.session_core.specs.declared.item.Item.{Item}
use Rattle.call_engine.specs.Calls.{Settings}
use Rattle.call_engine.specs.Objects.{partition_object}
use Rattle.partition_protocol.specs.Events.{Event, Call, Deliver, Lose, Repeat, Resend, Crash, Detect, BeginMove, BeginJoin, BeginHandover, Advance, Reopen}
use Rattle.partition_protocol.specs.Arrivals.{Asked, asked_by, arrivals}
use Rattle.partition_protocol.proofs.Lists.{In, in_left, in_right, in_contains, cases}
use Rattle.partition_protocol.proofs.Faithful.{part_in}
use Rattle.partition_protocol.proofs.RowFacts.{same_number, both_right, both_left, less}
use Rattle.partition_protocol.proofs.WellFormed.{every_run_is_well_formed}
use Rattle.near_protocol.specs.Near.{new_grid, attached}
use Rattle.near_protocol.specs.Near as near
use Rattle.near_protocol.specs.Claims.{IsNew}
use Rattle.near_protocol.proofs.Attaching.{all_events}
use Rattle.script_lang.specs.Limits.{most_line_bytes}
use Rattle.script_lang.specs.declared.line.Line.TheVariants.{Arrive}
use Rattle.grid_client.specs.Nears.{new_near as new_cache}
use Rattle.grid_client.specs.States.{first_number}
use Rattle.replay_run.specs.ScriptRuns.{home}
use Rattle.replay_run.specs.Runs.{Run, Connection, Arrival, connection_of, messages_on, lives, is_open, takes_bytes, took_bytes, with_bytes, items_by, forsaken, handled_all, next_line, bytes_arrived, events_at, partitions}
use Rattle.replay_run.specs.AfterLines.{after_line}
use Rattle.replay_run.specs.Appending.{new_messages}
use Rattle.replay_run.proofs.RunFacts.{RunOk, ArrivalsOk, WaitersOk, asked_of, is_of}
use Rattle.replay_run.proofs.RunsOfLines.{run_ok}
use Rattle.replay_run.proofs.Parts.{in_mapped, in_filtered}
use Rattle.near_run_laws.specs.NearConnections.{machine_events, grid_of, IsRight}
use Rattle.near_run_laws.specs.Messages.{sent_to}
use Rattle.near_run_laws.specs.Maps.{keyed}
use Rattle.near_run_laws.specs.Sessions.{MayOpen, HasSent, opening_items}
use Rattle.near_run_laws.specs.Following.{Machine}
use Rattle.near_run_laws.specs.Lines.{WaitElsewhere}
use Rattle.near_run_laws.specs.NearRuns.{IsNearRun}
use Rattle.near_run_laws.specs.Pieces.{AllMean}
use Rattle.near_run_laws.specs.Attaching.{IsFresh}
use Rattle.near_run_laws.proofs.Runs.{events_is}
use Rattle.near_run_laws.proofs.Sent.{sent_to-append}
use Rattle.near_run_laws.proofs.OwnLines.{every_opening_line_is_followed}
use Rattle.near_run_laws.proofs.Sessions.{every_opening_is_heard, every_opening_is_served}
use Rattle.script_run.specs.NearClients.{NearClient, client_number, opening_of, new_near}
use Rattle.script_run.specs.AfterLines.{noting}
use Rattle.script_run.proofs.OneConnection.{begun_one}
use Rattle.near_script_laws.proofs.Told.{new_bare}
use Rattle.near_script_laws.proofs.Connections.{its_conn}
use Rattle.near_script_laws.proofs.Patterns.{all_heard}
use Rattle.near_script_laws.proofs.Sizes.{may_open}
use Rattle.near_script_laws.proofs.Looking.{items_length, has_bytes}
use Rattle.near_script_laws.proofs.Others.{line_appends}
use Rattle.near_script_laws.proofs.Facts.{Stands, IsLive, IsDead, Goes, read_more}

-- ---- no call arrived on a connection that no byte has reached

none_sent : messages_of true [] ≡ []
none_sent = unheard true [] (λ bytes e. absurd cc)

none_said : messages_of false [] ≡ []
none_said = all_heard [] (record { frames = All-nil (λ piece. All IsWithinLimits (piece_frames piece)); rules = refl })

-- a call of it would be one of its messages
none_counted : (r : Run) (k : Connection) → connection_of r k.conn ≡ Some k → k.bytes ≡ [] → (q : Request) → (j : Connection) × (connection_of r q.id.conn ≡ Some j) × (q.id.number < length (messages_on j)) → q.id.conn ≢ k.conn
none_counted r k there empty q (j, found, some) on =
    let one : j ≡ k = (let both : Some j ≡ Some k = sym found ∙ ap (connection_of r) on ∙ there in cc) in
    let no_more : length (messages_on j) ≡ 0 = ap (λ (x : Connection). length (messages_on x)) one ∙ ap (λ bs. length (messages_of true bs)) empty ∙ ap length none_sent in
    omega (arith, no_more, some)

-- nor does one wait there
waits_elsewhere : (r : Run) → WaitersOk r → (k : Connection) → connection_of r k.conn ≡ Some k → k.bytes ≡ [] → WaitElsewhere k.conn r
waits_elsewhere r ok k there empty w c = let i = in_contains w r.waiters c in (none_counted r k there empty w.request (ok.counted w i), (ok.placed w i).own)

module _ (r : Run) (ok : ArrivalsOk r) (k : Connection) (there : connection_of r k.conn ≡ Some k) (empty : k.bytes ≡ []) where
  -- a call in a partition's events is an arrival of that partition
  arrival : (p : ℕ) (a : Asked Request) → In a (arrivals (events_at p r.events)) → (x : Arrival) × In x r.arrivals × (is_of p x ≡ true) × (asked_of x ≡ a)
  arrival p a i =
      let m = in_mapped asked_of (filter (is_of p) r.arrivals) a (part_in (arrivals (events_at p r.events)) _ a (ok.calls p) i) in
      let f = in_filtered (is_of p) r.arrivals m.0 m.1 in
      (m.0, f.0, f.1, m.2)

  pub none_arrived : (p : ℕ) (a : Asked Request) → In a (arrivals (events_at p r.events)) → a.conn ≢ k.conn
  none_arrived p a i same =
      let x = arrival p a i in
      none_counted r k there empty x.0.request (ok.counted x.0 x.1) (ap (λ (b : Asked Request). b.conn) x.3 ∙ same)

  -- ---- so each event is right for a client that comes on it

  arrives : (es : List (Event Request)) (e : Event Request) (a : Asked Request) → In e es → In a (asked_by e) → In a (arrivals es)
  arrives [] e a i j = absurd i
  arrives (d ∷ es) e a (inl s) j = in_left a (asked_by d) (arrivals es) (subst (λ (x : Event Request). In a (asked_by x)) (sym s) j)
  arrives (d ∷ es) e a (inr i) j = in_right a (asked_by d) (arrivals es) (arrives es e a i j)

  pub all_right : (p : ℕ) (e : Event Request) → Contains (events_at p r.events) e → IsRight k.conn k.member p e
  all_right p (Call m conn number request now) i =
      let a : Asked Request = record { conn = conn; number = number; now = now; call = request } in
      let j : In a (arrivals (events_at p r.events)) = arrives (events_at p r.events) (Call m conn number request now) a (in_contains (Call m conn number request now) (events_at p r.events) i) (inl refl) in
      let x = arrival p a j in
      (ap home (sym (ap (λ (b : Asked Request). b.call) x.3)) ∙ (ok.placed x.0 x.1).own ∙ same_number x.0.request.partition p x.2, λ s. absurd (none_arrived p a j s))
  all_right p (Deliver f t place) i = tt
  all_right p (Lose f t place) i = tt
  all_right p (Repeat f t place) i = tt
  all_right p (Resend end) i = tt
  all_right p (Crash m) i = tt
  all_right p (Detect m) i = tt
  all_right p (BeginMove f t) i = tt
  all_right p (BeginJoin t) i = tt
  all_right p (BeginHandover f t) i = tt
  all_right p Advance i = tt
  all_right p Reopen i = tt

-- ---- the line

module _ (settings : Settings) (skips : List CallId) (r : Run) (s : Stands settings r) (c : ℕ) (name : List ℕ) (capacity : ℕ) (low : c ≤ 63) (short : 2 * length name ≤ most_line_bytes) (text : IsUtf8 name)
    (k : Connection) (there : connection_of r c ≡ Some k) (empty : k.bytes ≡ []) where
  abbrev o : Object Request Partition
  o = partition_object settings

  abbrev client : ℕ
  client = client_number c

  abbrev n : NearClient
  n = new_near c name capacity

  abbrev next : Run
  next = after_line (partition_object settings) skips r (Arrive c (opening_of c name))

  abbrev after : NearClient
  after = noting (new_messages r next) (new_near c name capacity)

  ok : RunOk (partition_object settings) r
  ok = run_ok s.run

  on : k.conn ≡ c
  on = its_conn r c k there

  there_too : connection_of r k.conn ≡ Some k
  there_too = ap (connection_of r) on ∙ there

  fresh : IsFresh r k
  fresh = record {
    there = there_too;
    empty = empty;
    silent = s.listens k.conn (λ j e. (let both : Some j ≡ Some k = sym e ∙ there_too in let one : j ≡ k = cc in ap (λ (x : Connection). x.bytes) one) ∙ empty);
    events = all_right r ok.of_arrivals k there_too empty;
  }

  new : IsNew k.conn (machine_events r.events)
  new p a i = none_arrived r ok.of_arrivals k there_too empty p a
      (subst (λ es. In a (arrivals es))
      (ap (near.events_at p) (sym (all_events (partition_object settings) (keyed settings 0 name client) (new_grid r.members r.backups) (machine_events r.events))) ∙ events_is settings 0 name client r p)
      (in_contains a (arrivals (near.events_at p (machine_events r.events))) i))

  may : MayOpen (client_number c) name
  may = may_open c name low text short

  -- its member takes bytes: the client is attached
  module _ (takes : takes_bytes (partition_object settings) r k ≡ true) where
    within : k.member < r.members
    within = subst (λ m. k.member < m) (every_run_is_well_formed (partition_object settings) 0 r.members r.backups (events_at 0 r.events)).same_members
        (less k.member _ (both_left _ _ (both_right (is_open (Some k)) (lives (partition_object settings) r k.member) takes)))

    abbrev its : Connection
    its = with_bytes k (opening_of c name)

    heard : HasSent k.conn (client_number c) (opening_of c name) × (items_of k.conn k.member (messages_of true (opening_of c name)) ≡ opening_items k.member name)
    heard = every_opening_is_heard k.conn k.member (client_number c) name may

    has_sent : HasSent its.conn (client_number c) its.bytes
    has_sent = subst (λ bs. HasSent k.conn (client_number c) bs) (ap (λ bs. bs ++ opening_of c name) (sym empty)) heard.0

    three : length (messages_of true (k.bytes ++ opening_of c name)) ≡ first_number
    three = ap (λ bs. length (messages_of true (bs ++ opening_of c name))) empty ∙ sym (items_length k.conn k.member 0 None (messages_of true (opening_of c name))) ∙ ap (λ (xs : List Item). length xs) heard.1

    opened_at : (d : ℕ) → d ≡ k.conn → IsNearRun settings client name (after_line o skips r (Arrive d (opening_of c name)))
        (attached o partitions k.member k.conn first_number capacity (grid_of settings k.conn name client (after_line o skips r (Arrive d (opening_of c name))))) (sent_to k.conn r.appended) []
    opened_at d same = subst (λ e. IsNearRun settings client name (after_line o skips r (Arrive e (opening_of c name))) (attached o partitions k.member k.conn first_number capacity (grid_of settings k.conn name client (after_line o skips r (Arrive e (opening_of c name))))) (sent_to k.conn r.appended) []) (sym same)
        (every_opening_line_is_followed settings client name r k skips first_number capacity ok.members within fresh new may takes)

    -- nobody begins to wait as it comes
    elsewhere : WaitElsewhere c next
    elsewhere = subst (λ (x : Run). WaitElsewhere c x)
        (sym (ap (λ x. elim x [ None ↦ next_line r | Some j ↦ bytes_arrived o skips r j (opening_of c name) ]) there ∙ every_opening_is_served o skips r k client name there_too takes empty may))
        (subst (λ (d : ℕ). WaitElsewhere d r) on (waits_elsewhere r ok.of_waiters k there_too empty))

    comes : IsLive settings next after
    comes =
        let adds = line_appends settings skips r (Arrive c (opening_of c name)) in
        let one = begun_one c name capacity short in
        let machine : Machine = attached o partitions k.member k.conn first_number capacity (grid_of settings k.conn name client next) in
        record {
          client = client_number c;
          name = name;
          machine = machine;
          earlier = sent_to k.conn r.appended;
          heard = [];
          run = opened_at c (sym on);
          conn = on;
          goes = record {
            near = new_cache name capacity;
            tied = record { listens = refl; capacity = refl; entries = refl; waiting = refl; rows = λ p. refl; kept = tt; asked = tt; numbers = tt };
            named = refl;
            gets = tt;
            awaited = tt;
          };
          number = refl;
          its_client = refl;
          one = record { uuid = one.uuid; connections = one.connections; near = one.near; keeps = one.keeps; short = one.short };
          text = text;
          connection = its;
          there = has_bytes o skips r c k (opening_of c name) there takes;
          sent = has_sent;
          messages = three;
          few = (let few : 3 ≤ next.lines + 3 = omega arith in few);
          elsewhere = elsewhere;
          since = sent_to c adds.more;
          appended = ap (sent_to c) adds.are ∙ sent_to-append c r.appended adds.more ∙ ap (λ d. sent_to d r.appended ++ sent_to c adds.more) (sym on);
          reading = read_more r next adds n [] refl;
          says = [];
          mean = subst (λ ms. AllMean name ms []) (sym none_said) tt;
          is_heard = refl;
        }

  -- or it doesn't, since its member has crashed
  abbrev IsOpen : Type 0
  IsOpen = is_open (Some k) ≡ true

  idle : takes_bytes (partition_object settings) r k ≡ false → next ≡ next_line r
  idle gone = ap (λ x. elim x [ None ↦ next_line r | Some j ↦ bytes_arrived o skips r j (opening_of c name) ]) there ∙ ap (λ b. cond b (forsaken (handled_all o skips (took_bytes r k (opening_of c name)) k (items_by k (opening_of c name))) k.conn) (next_line r)) gone

  never : IsOpen → takes_bytes (partition_object settings) r k ≡ false → IsDead settings next after
  never opened gone =
      let bare = new_bare c name capacity in
      record {
        bare = record { near = bare.near; keeps = bare.keeps; entries = bare.entries; waiting = bare.waiting; calls = bare.calls };
        connection = k;
        there = ap (λ (x : Run). connection_of x c) (idle gone) ∙ there;
        crashed = ap (λ (x : Run). lives o x k.member) (idle gone) ∙ ap (λ b. b && lives o r k.member) (sym opened) ∙ gone;
      }

  pub begins : IsOpen → Goes settings next after
  begins opened = ⊎_elim (λ takes. inl (comes takes)) (λ gone. inr (never opened gone)) (cases (takes_bytes (partition_object settings) r k))
