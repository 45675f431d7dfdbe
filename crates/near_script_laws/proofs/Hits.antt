-- What a near client hits that goes with its machine stands.
use Rattle.std.proofs.Common.{◌≡◌, ℕ, ◌≤◌, false, List, [], ◌∷◌, ◌++◌, length, map, drop, Some, refl, ap, sym, ◌∙◌, subst, inl, inr, append_assoc, append-nil}
use Rattle.std.specs.Prelude.{Ok, Contains}
use Rattle.std.proofs.Math.Seq.{drop-append_seam}
use Rattle.frame_codec.specs.declared.frames.Frame.{Frame}
use Rattle.message_frames.specs.Assembly.{most_messages}
use Rattle.message_frames.specs.Messages.{messages_of}
use Rattle.message_frames.specs.declared.message.Message.{Message}
use Rattle.session_core.specs.Places.{partition_of_key}
use Rattle.event_codecs.specs.declared.events.ClientEvent.TheVariants as event
use Rattle.event_codecs.specs.declared.seen.SeenRow.{SeenRow}
use Rattle.call_engine.specs.Calls.{Settings}
use Rattle.call_engine.specs.Objects.{partition_object}
use Rattle.partition_protocol.specs.History.{Called, Reset}
use Rattle.partition_protocol.specs.World.{trail}
use Rattle.partition_protocol.specs.NamedStates.{effect_call}
use Rattle.partition_protocol.proofs.Lists.{In, in_contains, contains_in}
use Rattle.near_protocol.specs.Client.{Said, Answer, Refusal, Invalidation, Rows, RowHeard}
use Rattle.near_protocol.specs.Near.{world, known_version, name_of}
use Rattle.near_protocol.specs.Claims.{AreNamedOnce, Before, WasReleased, Changed, SpeaksOf as MachineSpeaksOf, HasRead as MachineHasRead, IsHit}
use Rattle.grid_client.specs.Nears.{Value, hit}
use Rattle.grid_client.specs.Ties.{row_heard}
use Rattle.replay_run.specs.Runs.{Run, connection_of}
use Rattle.near_run_laws.specs.Maps.{keyed, get_request}
use Rattle.near_run_laws.specs.Messages.{sent_to}
use Rattle.near_run_laws.specs.NearConnections.{grid_of}
use Rattle.near_run_laws.specs.Following.{Follows}
use Rattle.near_run_laws.specs.Readings.{messages_sent, HearsNext}
use Rattle.near_run_laws.specs.Clients.{GoesWith, SaysIt}
use Rattle.near_run_laws.proofs.Runs.{world_is}
use Rattle.near_run_laws.proofs.NearHits.{every_hit_of_a_near_client_stands}
use Rattle.near_run_laws.proofs.NearRuns.{every_near_run_goes_well}
use Rattle.near_run_laws.proofs.Readings.{every_output_is_heard}
use Rattle.script_run.specs.NearClients.{NearClient, map_name, value_kept}
use Rattle.near_script_laws.specs.HitsStand.{world_of, unheard_by, Invalidates, SpeaksOf, HasRead, IsAfterNamed, HitStands}
use Rattle.near_script_laws.proofs.Names.{machine_named}
use Rattle.near_script_laws.proofs.Patterns.{invalidation_said, handled_too, IsSaidBy, said_by_one, all_heard, sent_parts}
use Rattle.near_script_laws.proofs.Facts.{Stands, IsLive, map_named, kept_is}
use Rattle.near_script_laws.proofs.Feeding.{spoken, output_is, Cut, cut}

-- a row that is said of what a message tells
row_told : (key : List ℕ) (seen : List SeenRow) (r : RowHeard) → In r (map row_heard seen) → r.partition ≡ partition_of_key key → (row : SeenRow) × In row seen × (row.partition ≡ partition_of_key key)
row_told key [] r i e = absurd i
row_told key (row ∷ seen) r (inl s) e = (row, inl refl, ap (λ (x : RowHeard). x.partition) s ∙ e)
row_told key (row ∷ seen) r (inr i) e = let rest = row_told key seen r i e in (rest.0, inr rest.1, rest.2)

module _ (settings : Settings) (r : Run) (s : Stands settings r) (n : NearClient) (a : IsLive settings r n) (room : length (sent_to n.conn r.appended) ≤ most_messages) (key : List ℕ) (value : Value) (kept : value_kept n key ≡ Some value) where
  named : AreNamedOnce a.machine.grid
  named = machine_named settings a.client a.name a.run s.run

  its_hit : IsHit (partition_object settings) (keyed settings a.machine.conn a.name a.client) a.machine key value
  its_hit = every_hit_of_a_near_client_stands settings a.client a.name key r a.machine a.earlier a.heard n.state value a.run named
      goes (ap (hit key) near_is ∙ sym (kept_is settings r n a key) ∙ kept)
    where
      goes : GoesWith a.machine.conn a.name n.state a.machine.client
      goes = subst (λ (c : ℕ). GoesWith c a.name n.state a.machine.client) (sym a.conn) a.goes

      near_is : goes.near ≡ a.goes.near
      near_is = (let both : Some goes.near ≡ Some a.goes.near = sym goes.tied.listens ∙ a.goes.tied.listens in cc)

  follows : Follows settings a.client a.name r a.machine
  follows = (every_near_run_goes_well settings a.client a.name r a.machine a.earlier a.heard a.run named).follows

  -- ---- the machine's world is that of the run

  its_world : world (partition_object settings) a.machine.grid (partition_of_key key) ≡ world_of settings r key
  its_world = ap (λ g. world (partition_object settings) g (partition_of_key key)) follows.grid ∙ world_is settings a.machine.conn a.name a.client r (partition_of_key key)

  its_grid : a.machine.grid ≡ grid_of settings n.conn (map_name n) n.state.client r
  its_grid =
      follows.grid ∙ ap (λ c. grid_of settings c a.name a.client r) a.conn
      ∙ ap (λ name. grid_of settings n.conn name a.client r) (sym (map_named settings r n a)) ∙ ap (λ client. grid_of settings n.conn (map_name n) client r) (sym a.its_client)

  call_is : its_hit.get.call ≡ get_request n.conn (map_name n) n.state.client its_hit.get.number key
  call_is =
      its_hit.call ∙ ap (λ c. get_request c a.name a.client its_hit.get.number key) a.conn
      ∙ ap (λ name. get_request n.conn name a.client its_hit.get.number key) (sym (map_named settings r n a)) ∙ ap (λ client. get_request n.conn (map_name n) client its_hit.get.number key) (sym a.its_client)

  -- ---- what it has heard

  after : (message : Message) (version number : ℕ) → Contains (messages_of false n.read) message → Invalidates (map_name n) key version number message → IsAfterNamed settings r n key version number its_hit.get
  after message version number there (correlation, (partition, is)) =
      let said = invalidation_said a.name key version number message correlation partition
      (is ∙ ap (λ name. Ok (event.Invalidation correlation partition version number name key)) (map_named settings r n a)) (messages_of false n.read) a.says a.mean (in_contains message (messages_of false n.read) there) in
      let heard = subst (λ xs. In (Invalidation key version number) xs) (sym a.is_heard) said in
      let handled = subst (λ xs. In (record { key = key; version = version; number = number }) xs) (sym (spoken settings r s n a room).processed) (handled_too key version number a.heard heard) in
      let named = its_hit.after (record { key = key; version = version; number = number }) (contains_in (record { key = key; version = version; number = number }) a.machine.processed handled) refl in
      record {
        write = named.write;
        named = subst (λ w. effect_call w version number ≡ Some named.write) its_world named.named;
        changed = subst (λ g. Changed g (partition_of_key key) key named.write) its_grid named.changed;
        before = subst (λ w. Before (trail w) (Called named.write) (Called its_hit.get)) its_world named.before;
      }

  -- ---- what it has yet to read

  abbrev sent : List (List Frame)
  sent = (spoken settings r s n a room).sent

  -- all of the rest of what was sent to it
  h : HearsNext sent n.read n.unread
  h = every_output_is_heard sent n.read n.unread [] (spoken settings r s n a room).stream (append-nil (n.read ++ n.unread) ∙ output_is settings r s n a room)

  -- Where it has read on, so has the machine.
  has_read : HasRead n key → MachineHasRead (keyed settings a.machine.conn a.name a.client) key a.machine.unread
  has_read read m i speaks = of_message (said_by_one a.name m (messages_sent (h.new ++ h.later)) rest.says rest.mean (subst (λ xs. In m xs) rest.unread (in_contains m a.machine.unread i)))
    where
      rest : Cut settings r s n a room h.done (h.new ++ h.later)
      rest = cut settings r s n a room h.done (h.new ++ h.later) (h.order ∙ append_assoc h.done h.new h.later) h.before

      -- what it hasn't heard is the rest
      all_unheard : unheard_by n ≡ messages_sent (h.new ++ h.later)
      all_unheard =
          ap (λ ms. drop (length ms) (messages_of false (n.read ++ n.unread))) h.before
          ∙ ap (drop (length (messages_sent h.done))) (ap (messages_of false) (output_is settings r s n a room) ∙ all_heard sent (spoken settings r s n a room).stream ∙ ap messages_sent (h.order ∙ append_assoc h.done h.new h.later) ∙ sent_parts h.done (h.new ++ h.later))
          ∙ drop-append_seam (messages_sent h.done) (messages_sent (h.new ++ h.later))

      of_message : IsSaidBy a.name (messages_sent (h.new ++ h.later)) m → ⊥
      of_message by = read by.message (contains_in by.message (unheard_by n) (subst (λ ms. In by.message ms) (sym all_unheard) by.there)) (spoken_of m speaks by.says)
        where
          spoken_of : (m : Said (List ℕ)) → MachineSpeaksOf (keyed settings a.machine.conn a.name a.client) key m → SaysIt a.name by.message m → SpeaksOf (map_name n) key by.message
          spoken_of (Invalidation q v i) speaks (correlation, (partition, (head, is))) =
              inl (v, (i, (correlation, (partition, is ∙ ap (λ name. Ok (event.Invalidation correlation partition v i name q)) (sym (map_named settings r n a)) ∙ ap (λ k. Ok (event.Invalidation correlation partition v i (map_name n) k)) speaks))))
          spoken_of (Rows rows) (row, there, own) (correlation, (seen, (head, (is, rows_are)))) =
              let told = row_told key seen row (subst (λ xs. In row xs) rows_are (in_contains row rows there)) own in
              inr (correlation, (seen, is, (told.0, contains_in told.0 seen told.1, told.2)))
          spoken_of (Answer number reply) speaks says = absurd speaks
          spoken_of (Refusal number) speaks says = absurd speaks

  known_is : known_version follows.near.connection.member (world_of settings r key) ≡ known_version a.machine.member (world (partition_object settings) a.machine.grid (partition_of_key key))
  known_is = ap (λ m. known_version m (world_of settings r key)) follows.near.member ∙ ap (known_version a.machine.member) (sym its_world)

  pub stands : HitStands settings r n key value
  stands = record {
    get = its_hit.get;
    conn = its_hit.conn ∙ a.conn;
    call = call_is;
    says = its_hit.says;
    released = subst (λ w. WasReleased w (name_of its_hit.get)) its_world its_hit.released;
    stands = subst (λ w. Contains (trail w) (Called its_hit.get)) its_world its_hit.stands;
    after = after;
    connection = follows.near.connection;
    there = ap (connection_of r) (sym a.conn) ∙ follows.near.there;
    fresh = λ read write known. subst (λ w. Before (trail w) (Called write) (Called its_hit.get)) its_world (its_hit.fresh (has_read read) write (record {
      changed = subst (λ g. Changed g (partition_of_key key) key write) (sym its_grid) known.changed;
      stands = subst (λ w. Contains (trail w) (Called write)) (sym its_world) known.stands;
      released = subst (λ w. WasReleased w (name_of write)) (sym its_world) known.released;
      known = subst (λ v. write.version ≤ v) known_is known.known;
    }));
    reopened = λ read version there known. subst (λ w. Before (trail w) (Reset version) (Called its_hit.get)) its_world
        (its_hit.reopened (has_read read) version (subst (λ w. Contains (trail w) (Reset version)) (sym its_world) there) (subst (λ v. version ≤ v) known_is known));
  }
