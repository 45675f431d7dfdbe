-- After its opening a near client is attached.
use Rattle.std.proofs.Common.{◌≡◌, ℕ, zero, suc, ◌+◌, ◌<◌, ◌≤◌, true, cond, not, List, [], ◌∷◌, ◌++◌, map, filter, length, Some, None, option_map, is_some, slice_get, refl, ap, sym, ◌∙◌, subst, append_assoc, append-nil, arith, le_of_suc-le-suc}
use Rattle.std.specs.List.{filter_map, cons_option}
use Rattle.std.proofs.lemmas.List.Elements.{filter-append}
use Rattle.grid_base.specs.Objects.{Object}
use Rattle.grid_base.specs.declared.calls.Request.{Request}
use Rattle.frame_codec.specs.Laws.{spelled}
use Rattle.message_frames.specs.Messages.{fault_of}
use Rattle.client_codecs.specs.Replies.{authentication_reply}
use Rattle.partition_table.specs.declared.Row.{Row}
use Rattle.partition_protocol.specs.Node.{Node}
use Rattle.partition_protocol.specs.Service.{numbers_below}
use Rattle.partition_protocol.specs.World.{map_or}
use Rattle.partition_protocol.proofs.RowFacts.{number_same}
use Rattle.partition_protocol.proofs.WellFormed.{every_run_is_well_formed}
use Rattle.event_codecs.specs.Writing.{rows_frames}
use Rattle.event_codecs.specs.declared.registration.Registration.{Registration}
use Rattle.event_codecs.specs.declared.registration.Registration.TheVariants as registration
use Rattle.listeners.specs.declared.listener.Listener.{Listener}
use Rattle.object_store.specs.Partitions.{Partition}
use Rattle.call_engine.specs.Calls.{Settings}
use Rattle.call_engine.specs.Objects.{partition_object}
use Rattle.request_codecs.specs.Openings.{authentication_correlation, invalidations_correlation, rows_correlation, opening}
use Rattle.near_protocol.specs.Client.{RowHeard}
use Rattle.near_protocol.specs.Near.{world, known_version}
use Rattle.replay_run.specs.Runs.{Run, Connection, Appended, world_at, connection_of, is_open, with_bytes, took_bytes, own_answer, events_to, registered_reply, known_at, rows_known, partitions}
use Rattle.replay_run.specs.Runs as replay
use Rattle.near_run_laws.specs.Messages.{sent_to, row_said}
use Rattle.near_run_laws.specs.NearConnections.{is_of, IsNear, grid_of}
use Rattle.near_run_laws.specs.Sessions.{MayOpen, near_opened}
use Rattle.near_run_laws.specs.Attaching.{IsFresh, IsAttached, EveryOpeningAttaches}
use Rattle.near_run_laws.proofs.Sent.{sent_to-append}
use Rattle.near_run_laws.proofs.Runs.{world_is}
use Rattle.near_run_laws.proofs.Sessions.{find_updated, every_opening_is_heard}

got : {X : Type 0} (xs : List X) (m : ℕ) → m < length xs → (x : X) × (slice_get xs m ≡ Some x)
got [] m l = absurd (omega (arith, l))
got (x ∷ xs) zero l = (x, refl)
got (x ∷ xs) (suc m) l = got xs m (le_of_suc-le-suc l)

-- one message more to the connection
one_more : (c : ℕ) (all : List Appended) (m : Appended) → m.conn ≡ c → sent_to c (all ++ m ∷ []) ≡ sent_to c all ++ m.bytes ∷ []
one_more c all m e = sent_to-append c all (m ∷ []) ∙ ap (λ b. sent_to c all ++ map (λ (x : Appended). x.bytes) (cond b (m ∷ []) [])) (number_same m.conn c e)

-- one listener more on it
one_listener : (c : ℕ) (all : List Listener) (g : Registration) → filter (is_of c) (all ++ record { conn = c; registration = g } ∷ []) ≡ filter (is_of c) all ++ record { conn = c; registration = g } ∷ []
one_listener c all g = filter-append (is_of c) all (record { conn = c; registration = g } ∷ []) ∙ ap (λ b. filter (is_of c) all ++ cond b (record { conn = c; registration = g } ∷ []) []) (number_same c c refl)

module _ (settings : Settings) (r : Run) (k : Connection) (client : ℕ) (name : List ℕ) (one : 1 ≤ r.members) (within : k.member < r.members) (fresh : IsFresh r k) (may : MayOpen client name) where
  abbrev text : List ℕ
  text = opening client (Some name)

  abbrev o : Object Request Partition
  o = partition_object settings

  abbrev pub next : Run
  next = near_opened (partition_object settings) r k name (opening client (Some name))

  whole : fault_of true (k.bytes ++ text) ≡ None
  whole = ap (λ b. fault_of true (b ++ text)) fresh.empty ∙ (every_opening_is_heard k.conn k.member client name may).0.whole

  is_near : IsNear next k.conn k.member name
  is_near = record {
    connection = with_bytes k text;
    there = find_updated (with_bytes k text) r.connections k fresh.there;
    member = refl;
    opened = ap (λ f. not (is_some f)) whole;
    listens =
        one_listener k.conn (r.registered ++ record { conn = k.conn; registration = registration.Invalidations invalidations_correlation name } ∷ []) (registration.Rows rows_correlation)
        ∙ ap (λ xs. xs ++ record { conn = k.conn; registration = registration.Rows rows_correlation } ∷ []) (one_listener k.conn r.registered (registration.Invalidations invalidations_correlation name)
        ∙ ap (λ xs. xs ++ record { conn = k.conn; registration = registration.Invalidations invalidations_correlation name } ∷ []) fresh.silent);
    events = fresh.events;
  }

  -- the answers, and the rows
  abbrev line : ℕ
  line = r.lines + 1

  abbrev pub known : List (ℕ × Row)
  known = rows_known o next k.member

  abbrev message : List ℕ → Appended
  message bytes = own_answer line k.conn bytes

  pub sent : sent_to k.conn next.appended
      ≡ sent_to k.conn r.appended ++ authentication_reply authentication_correlation true k.member ∷ registered_reply (registration.Invalidations invalidations_correlation name) ∷ registered_reply (registration.Rows rows_correlation) ∷ spelled (rows_frames rows_correlation known) ∷ []
  sent =
      let m1 = message (authentication_reply authentication_correlation true k.member) in
      let m2 = message (registered_reply (registration.Invalidations invalidations_correlation name)) in
      let m3 = message (registered_reply (registration.Rows rows_correlation)) in
      let m4 = message (spelled (rows_frames rows_correlation known)) in
      let first = one_more k.conn r.appended m1 refl in
      let second = one_more k.conn (r.appended ++ m1 ∷ []) m2 refl ∙ ap (λ xs. xs ++ m2.bytes ∷ []) first in
      let quiet = ap (sent_to k.conn) (append-nil ((r.appended ++ m1 ∷ []) ++ m2 ∷ [])) ∙ second in
      let third = one_more k.conn (((r.appended ++ m1 ∷ []) ++ m2 ∷ []) ++ []) m3 refl ∙ ap (λ xs. xs ++ m3.bytes ∷ []) quiet in
      one_more k.conn ((((r.appended ++ m1 ∷ []) ++ m2 ∷ []) ++ []) ++ m3 ∷ []) m4 refl ∙ ap (λ xs. xs ++ m4.bytes ∷ []) third
      ∙ four (sent_to k.conn r.appended) m1.bytes m2.bytes m3.bytes m4.bytes
    where
      four : {X : Type 0} (xs : List X) (a b c d : X) → (((xs ++ a ∷ []) ++ b ∷ []) ++ c ∷ []) ++ d ∷ [] ≡ xs ++ a ∷ b ∷ c ∷ d ∷ []
      four xs a b c d = append_assoc ((xs ++ a ∷ []) ++ b ∷ []) (c ∷ []) (d ∷ []) ∙ append_assoc (xs ++ a ∷ []) (b ∷ []) (c ∷ d ∷ []) ∙ append_assoc xs (a ∷ []) (b ∷ c ∷ d ∷ [])

  -- the rows are those that the machine tells

  abbrev pub row_told : ℕ → RowHeard
  row_told p = record { partition = p; version = known_version k.member (world o (grid_of settings k.conn name client next) p) }

  there : (p : ℕ) → (n : Node) × (slice_get (world_at o next p).nodes k.member ≡ Some n)
  there p = got (world_at o next p).nodes k.member (subst (λ m. k.member < m) (sym (every_run_is_well_formed o p r.members r.backups (replay.events_at p r.events)).nodes) within)

  pub rows_told : (ps : List ℕ) → map row_told ps ≡ map row_said (filter_map (known_at o next k.member) ps)
  rows_told [] = refl
  rows_told (p ∷ ps) = go (there p) (rows_told ps)
    where
      go : (n : Node) × (slice_get (world_at o next p).nodes k.member ≡ Some n) → map row_told ps ≡ map row_said (filter_map (known_at o next k.member) ps)
          → map row_told (p ∷ ps) ≡ map row_said (cons_option (known_at o next k.member p) (filter_map (known_at o next k.member) ps))
      go (n, at) ih =
          let version : known_version k.member (world o (grid_of settings k.conn name client next) p) ≡ n.known.version =
          ap (known_version k.member) (world_is settings k.conn name client next p) ∙ ap (λ x. map_or x 0 (λ (node : Node). node.known.version)) at
          in
          ap (λ v. record { partition = p; version = v } ∷ map row_told ps) version
          ∙ ap (λ rs. record { partition = p; version = n.known.version } ∷ rs) ih
          ∙ sym (ap (λ x. map row_said (cons_option (option_map (λ (node : Node). (p, node.known)) x) (filter_map (known_at o next k.member) ps))) at)

  pub is_attached : IsAttached settings r k client name next
  is_attached = record {
    near = is_near;
    first = authentication_reply authentication_correlation true k.member;
    second = registered_reply (registration.Invalidations invalidations_correlation name);
    third = registered_reply (registration.Rows rows_correlation);
    rows = spelled (rows_frames rows_correlation known);
    sent = sent;
    told = λ number capacity. ((known, (refl, rows_told (numbers_below partitions))), tt);
  }

pub every_opening_attaches : EveryOpeningAttaches
every_opening_attaches settings r k client name one within fresh may = is_attached settings r k client name one within fresh may
