-- A near client that looks a key up goes on with its machine.
use Rattle.std.proofs.Common.{◌≡◌, ℕ, suc, ◌+◌, ◌*◌, ◌≤◌, true, false, cond, List, [], ◌∷◌, ◌++◌, length, Option, Some, None, refl, ap, sym, ◌∙◌, subst, append_assoc, length-append, arith}
use Rattle.std.specs.List.{find}
use Rattle.grid_base.specs.Objects.{Object}
use Rattle.grid_base.specs.declared.names.CallId.{CallId}
use Rattle.grid_base.specs.declared.names.ClientKey.{ClientKey}
use Rattle.grid_base.specs.declared.calls.Request.{Request}
use Rattle.message_frames.specs.Messages.{messages_of}
use Rattle.message_frames.specs.declared.message.Message.{Message}
use Rattle.object_store.specs.Partitions.{Partition}
use Rattle.session_core.specs.Items.{items_of, items_from, identity_after}
use Rattle.session_core.specs.Places.{partition_of_key}
use Rattle.session_core.proofs.CallsAt.{below_partitions}
use Rattle.session_core.specs.declared.item.Item.{Item}
use Rattle.session_core.specs.declared.item.Item.TheVariants.{Call}
use Rattle.call_engine.specs.Calls.{Settings}
use Rattle.call_engine.specs.Objects.{partition_object}
use Rattle.partition_protocol.specs.World.{World}
use Rattle.partition_protocol.proofs.RowFacts.{false_or_not, both_right}
use Rattle.script_lang.specs.Limits.{most_line_bytes, most_lines}
use Rattle.script_lang.specs.declared.line.Line.TheVariants.{Arrive}
use Rattle.near_protocol.specs.Client.{opened}
use Rattle.near_protocol.specs.Client as machine
use Rattle.near_protocol.specs.Near.{LooksUp, looked_up}
use Rattle.near_protocol.specs.Claims.{AreNamedOnce}
use Rattle.grid_client.specs.Nears.{Value, hit}
use Rattle.grid_client.specs.Calls.{correlation_of, asked_call}
use Rattle.request_codecs.specs.Requests.{request_bytes}
use Rattle.grid_client.specs.States.{asking, opening_look_up, get_of, looked}
use Rattle.replay_run.specs.Runs.{Run, Connection, Arrival, connection_of, is_connection, is_open, lives, takes_bytes, took_bytes, with_bytes, items_by, forsaken, calls, handled_all, bytes_arrived, next_line, world_at, is_full, arrival_at, asks}
use Rattle.replay_run.specs.AfterLines.{after_line}
use Rattle.replay_run.specs.Appending.{new_messages}
use Rattle.replay_run.proofs.Lines.{handled_all_come}
use Rattle.replay_run.proofs.Bounds.{line_lines}
use Rattle.replay_run.proofs.EventRuns.{forsaken_kept, served_full, asks_nothing}
use Rattle.near_run_laws.specs.Maps.{keyed, get_request}
use Rattle.near_run_laws.specs.Messages.{sent_to}
use Rattle.near_run_laws.specs.Sessions.{HasSent, MayGet, get_bytes}
use Rattle.near_run_laws.specs.NearConnections.{IsNear}
use Rattle.near_run_laws.specs.Following.{Machine, step}
use Rattle.near_run_laws.specs.NearRuns.{client_hit}
use Rattle.near_run_laws.specs.Lines.{WaitElsewhere}
use Rattle.near_run_laws.specs.OwnLines.{MayMiss}
use Rattle.near_run_laws.specs.Clients.{GoesWith}
use Rattle.near_run_laws.proofs.Sent.{sent_to-append}
use Rattle.near_run_laws.proofs.Looks.{hits, misses}
use Rattle.near_run_laws.proofs.NearRuns.{every_near_run_goes_well}
use Rattle.near_run_laws.proofs.OwnLines.{every_get_line_is_followed}
use Rattle.near_run_laws.proofs.Sessions.{every_get_is_heard, every_get_is_served}
use Rattle.script_run.specs.NearClients.{NearClient, value_kept, map_name, used, missed, get_sent}
use Rattle.script_run.specs.AfterLines.{noting}
use Rattle.script_run.proofs.OneConnection.{used_one, missed_one, target_one}
use Rattle.near_script_laws.proofs.Lives.{lives_alike}
use Rattle.near_script_laws.proofs.Names.{machine_named}
use Rattle.near_script_laws.proofs.Connections.{its_conn, now_updated}
use Rattle.near_script_laws.proofs.Sizes.{may_get}
use Rattle.near_script_laws.proofs.Others.{line_appends}
use Rattle.near_script_laws.proofs.Facts.{Stands, IsLive, read_more, named_short, map_named, kept_is}

-- ---- a hit

pub hit_on : (settings : Settings) (r : Run) (n : NearClient) (key : List ℕ) (value : Value) → value_kept n key ≡ Some value → IsLive settings r n → IsLive settings r (used key n)
hit_on settings r n key value kept a =
    let there : hit key a.goes.near ≡ Some value = sym (kept_is settings r n a key) ∙ kept in
    let goes = hits settings a.client n.conn a.name key n.state a.machine.client value a.goes there in
    let is : step settings a.client a.name a.machine (LooksUp key 0) ≡ record a.machine { client = machine.used (keyed settings a.machine.conn a.name a.client) key a.machine.client } =
    ap (looked_up (partition_object settings) (keyed settings a.machine.conn a.name a.client) a.machine key 0) goes.0 in
    record {
      client = a.client;
      name = a.name;
      machine = step settings a.client a.name a.machine (LooksUp key 0);
      earlier = a.earlier;
      heard = a.heard;
      run = client_hit r a.machine a.earlier a.heard key value 0 a.run goes.0;
      conn = ap (λ (z : Machine). z.conn) is ∙ a.conn;
      goes = subst (λ (z : Machine). GoesWith n.conn a.name (looked key n.state) z.client) (sym is) goes.1;
      number = ap (λ (z : Machine). z.next_number) is ∙ a.number;
      its_client = a.its_client;
      one = used_one n.conn n.read key n.state a.one;
      text = a.text;
      connection = a.connection;
      there = a.there;
      sent = a.sent;
      messages = a.messages ∙ sym (ap (λ (z : Machine). z.next_number) is);
      few = subst (λ (k : ℕ). k ≤ r.lines + 3) (sym (ap (λ (z : Machine). z.next_number) is)) a.few;
      elsewhere = a.elsewhere;
      since = a.since;
      appended = a.appended;
      reading = a.reading;
      says = a.says;
      mean = a.mean;
      is_heard = a.is_heard;
    }

-- ---- a miss

pub items_length : (conn member number : ℕ) (identity : Option ClientKey) (messages : List Message) → length (items_from conn member number identity messages) ≡ length messages
items_length conn member number identity [] = refl
items_length conn member number identity (message ∷ messages) = ap (λ n. suc n) (items_length conn member (number + 1) (identity_after conn identity message) messages)

-- bytes on a connection that takes them
module _ (o : Object Request Partition) (skips : List CallId) (r : Run) (c : ℕ) (k : Connection) (bytes : List ℕ) (there : connection_of r c ≡ Some k) (takes : takes_bytes o r k ≡ true) where
  abbrev all : Run
  all = handled_all o skips (took_bytes r k bytes) k (items_by k bytes)

  pub arrives : after_line o skips r (Arrive c bytes) ≡ forsaken (handled_all o skips (took_bytes r k bytes) k (items_by k bytes)) k.conn
  arrives = ap (λ x. elim x [ None ↦ next_line r | Some j ↦ bytes_arrived o skips r j bytes ]) there ∙ ap (λ b. cond b (forsaken all k.conn) (next_line r)) takes

  pub has_bytes : connection_of (after_line o skips r (Arrive c bytes)) c ≡ Some (with_bytes k bytes)
  has_bytes =
      ap (λ (x : Run). connection_of x c) arrives
      ∙ ap (λ ks. find (is_connection c) ks) ((forsaken_kept all k.conn).connections ∙ (handled_all_come o skips (took_bytes r k bytes) k (items_by k bytes)).connections)
      ∙ subst (λ n. find (is_connection n) (took_bytes r k bytes).connections ≡ Some (with_bytes k bytes)) (its_conn r c k there) (now_updated (with_bytes k bytes) r.connections k (ap (connection_of r) (its_conn r c k there) ∙ there))

module _ (settings : Settings) (skips : List CallId) (r : Run) (s : Stands settings r) (n : NearClient) (a : IsLive settings r n) (key : List ℕ) (whole : 8 ≤ length key) (short : 2 * length key ≤ most_line_bytes)
    (lines : r.lines + 1 ≤ most_lines) (takes : takes_bytes (partition_object settings) r a.connection ≡ true) (none : value_kept n key ≡ None) where
  abbrev o : Object Request Partition
  o = partition_object settings

  abbrev k : Connection
  k = a.connection

  abbrev number : ℕ
  number = a.machine.next_number

  abbrev bytes : List ℕ
  bytes = get_bytes a.name a.client a.machine.next_number key

  abbrev next : Run
  next = after_line (partition_object settings) skips r (Arrive a.machine.conn (get_bytes a.name a.client a.machine.next_number key))

  there_too : connection_of r a.machine.conn ≡ Some a.connection
  there_too = ap (connection_of r) a.conn ∙ a.there

  fits : MayGet a.name a.client a.machine.next_number key
  fits = let few = a.few in may_get a.name a.client a.machine.next_number key a.text whole (omega (arith, few, lines)) (named_short settings r n a) short

  -- its get is one message more
  abbrev IsHeard : ℕ → Type 0
  IsHeard m = MayGet a.name a.client m key → HasSent k.conn a.client (k.bytes ++ get_bytes a.name a.client m key) × (length (messages_of true (k.bytes ++ get_bytes a.name a.client m key)) ≡ m + 1)

  heard : IsHeard a.machine.next_number
  heard = subst IsHeard a.messages (λ may. both (every_get_is_heard k.conn k.member a.client a.name key k.bytes a.sent may))
    where
      text : List ℕ
      text = k.bytes ++ get_bytes a.name a.client (length (messages_of true k.bytes)) key

      both : HasSent k.conn a.client text × (items_of k.conn k.member (messages_of true text) ≡ items_of k.conn k.member (messages_of true k.bytes) ++ Call (get_request k.conn a.name a.client (length (messages_of true k.bytes)) key) ∷ [])
          → HasSent k.conn a.client text × (length (messages_of true text) ≡ length (messages_of true k.bytes) + 1)
      both (sent, items) =
          (sent, sym (items_length k.conn k.member 0 None (messages_of true text)) ∙ ap (λ (xs : List Item). length xs) items ∙ length-append (items_of k.conn k.member (messages_of true k.bytes)) _ ∙ ap (λ m. m + 1) (items_length k.conn k.member 0 None (messages_of true k.bytes)))

  named : AreNamedOnce a.machine.grid
  named = machine_named settings a.client a.name a.run s.run

  near : IsNear r a.machine.conn a.machine.member a.name
  near = (every_near_run_goes_well settings a.client a.name r a.machine a.earlier a.heard a.run named).follows.near

  member_is : a.connection.member ≡ a.machine.member
  member_is = (let same : Some a.connection ≡ Some near.connection = sym there_too ∙ near.there in let one : a.connection ≡ near.connection = cc in ap (λ (x : Connection). x.member) one) ∙ near.member

  -- its partition takes the call, since the run goes on
  abbrev its_world : World Request
  its_world = world_at (partition_object settings) r (partition_of_key key)

  abbrev IsServed : ℕ → Type 0
  IsServed m = MayGet a.name a.client m key → bytes_arrived o skips r k (get_bytes a.name a.client m key)
      ≡ calls o skips (took_bytes r k (get_bytes a.name a.client m key)) k.member (get_request k.conn a.name a.client m key)

  there_own : connection_of r k.conn ≡ Some k
  there_own = ap (connection_of r) (its_conn r n.conn k a.there) ∙ a.there

  is_served : IsServed a.machine.next_number
  is_served = subst IsServed a.messages (λ may. every_get_is_served o skips r k a.client a.name key there_own takes a.sent may)

  has_room : next.full ≡ false → is_full its_world ≡ false
  has_room going = false_or_not (is_full its_world) (λ full.
      absurd (let clash : true ≡ false = sym (ap (λ (x : Run). x.full) (ap (λ x. elim x [ None ↦ next_line r | Some j ↦ bytes_arrived o skips r j bytes ]) there_too ∙ is_served fits) ∙ given_up_there full) ∙ going in cc))
    where
      taken : Run
      taken = took_bytes r k bytes

      own : Option ℕ
      own = Some k.conn

      it : Arrival
      it = arrival_at taken k.member (get_request k.conn a.name a.client number key)

      given_up_there : is_full its_world ≡ true → (calls o skips taken k.member (get_request k.conn a.name a.client number key)).full ≡ true
      given_up_there full = served_full o skips (asks o skips taken own it) own (partition_of_key key) k.member (asks_nothing o skips taken own it full)

  may : next.full ≡ false → MayMiss settings a.client a.name key r a.machine a.connection
  may going = record {
    there = there_too;
    member_is = member_is;
    sent = a.sent;
    number = a.messages;
    takes = takes;
    lives = lives_alike o r s.together (partition_of_key key) (below_partitions key) a.machine.member ∙ ap (λ m. lives o r m) (sym member_is) ∙ both_right (is_open (Some k)) (lives o r k.member) takes;
    room = has_room going;
    fits = fits;
    elsewhere = subst (λ (c : ℕ). WaitElsewhere c r) (sym a.conn) a.elsewhere;
  }

  goes : (machine.hit (keyed settings n.conn a.name a.client) key a.machine.client ≡ None) × GoesWith n.conn a.name (asking (asked_call n.state.next n.conn (partition_of_key key) (get_of a.name key a.client)) (opening_look_up key n.state)) (opened n.state.next key a.machine.client)
  goes = misses settings a.client n.conn a.name key n.state a.machine.client a.goes whole a.its_client (target_one n.conn n.read n.state (partition_of_key key) a.one) (sym (kept_is settings r n a key) ∙ none)

  -- what it sends is that get
  sent_is : (get_sent n key).request ≡ get_bytes a.name a.client a.machine.next_number key
  sent_is =
      ap (λ m. request_bytes (correlation_of m) (partition_of_key key) (get_of (map_name n) key n.state.client)) (sym a.number)
      ∙ ap (λ name. request_bytes (correlation_of number) (partition_of_key key) (get_of name key n.state.client)) (map_named settings r n a)
      ∙ ap (λ client. request_bytes (correlation_of number) (partition_of_key key) (get_of a.name key client)) a.its_client

  state_is : (missed key n).state ≡ asking (asked_call n.state.next n.conn (partition_of_key key) (get_of a.name key a.client)) (opening_look_up key n.state)
  state_is =
      ap (λ name. asking (asked_call n.state.next n.conn (partition_of_key key) (get_of name key n.state.client)) (opening_look_up key n.state)) (map_named settings r n a)
      ∙ ap (λ client. asking (asked_call n.state.next n.conn (partition_of_key key) (get_of a.name key client)) (opening_look_up key n.state)) a.its_client

  there_still : connection_of next n.conn ≡ Some (with_bytes k bytes)
  there_still = subst (λ c. connection_of (after_line o skips r (Arrive c bytes)) n.conn ≡ Some (with_bytes k bytes)) (sym a.conn) (has_bytes o skips r n.conn k bytes a.there takes)

  missed_there : next.full ≡ false → IsLive settings next (noting (new_messages r next) (missed key n))
  missed_there going =
      let h = every_get_line_is_followed settings a.client a.name key r a.machine a.earlier a.heard a.connection skips a.run named (may going) goes.0 in
      let adds = line_appends settings skips r (Arrive a.machine.conn bytes) in
      let counted = line_lines o skips r (Arrive a.machine.conn bytes) in
      let few = a.few in
      let one = missed_one key n a.one in
      let more = heard fits in
      let numbers = h.number in
      record {
        client = a.client;
        name = a.name;
        machine = h.machine;
        earlier = a.earlier;
        heard = a.heard;
        run = h.run;
        conn = h.conn ∙ a.conn;
        goes = subst (λ st. GoesWith n.conn a.name st h.machine.client) (sym state_is)
            (subst (GoesWith n.conn a.name (asking (asked_call n.state.next n.conn (partition_of_key key) (get_of a.name key a.client)) (opening_look_up key n.state))) (ap (λ m. opened m key a.machine.client) (sym a.number) ∙ sym h.looks) goes.1);
        number = h.number ∙ ap (λ m. m + 1) a.number;
        its_client = a.its_client;
        one = record { uuid = one.uuid; connections = one.connections; near = one.near; keeps = one.keeps; short = one.short };
        text = a.text;
        connection = with_bytes k bytes;
        there = there_still;
        sent = more.0;
        messages = more.1 ∙ sym h.number;
        few = omega (arith, few, numbers, counted);
        elsewhere = subst (λ (c : ℕ). WaitElsewhere c next) a.conn h.elsewhere;
        since = a.since ++ sent_to n.conn adds.more;
        appended = ap (sent_to n.conn) adds.are ∙ sent_to-append n.conn r.appended adds.more ∙ ap (λ xs. xs ++ sent_to n.conn adds.more) a.appended ∙ append_assoc a.earlier a.since (sent_to n.conn adds.more);
        reading = read_more r next adds n a.since a.reading;
        says = a.says;
        mean = a.mean;
        is_heard = a.is_heard;
      }

  line_is : Arrive n.conn (get_sent n key).request ≡ Arrive a.machine.conn (get_bytes a.name a.client a.machine.next_number key)
  line_is = ap (λ c. Arrive c (get_sent n key).request) (sym a.conn) ∙ ap (λ bs. Arrive a.machine.conn bs) sent_is

  pub missed_on : (after_line o skips r (Arrive n.conn (get_sent n key).request)).full ≡ false
      → IsLive settings (after_line o skips r (Arrive n.conn (get_sent n key).request)) (noting (new_messages r (after_line o skips r (Arrive n.conn (get_sent n key).request))) (missed key n))
  missed_on = subst (λ l. (after_line o skips r l).full ≡ false → IsLive settings (after_line o skips r l) (noting (new_messages r (after_line o skips r l)) (missed key n))) (sym line_is) missed_there
