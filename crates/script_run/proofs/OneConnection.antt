-- A client with one connection stays one, whatever it is told and asked.
use Rattle.std.proofs.Common.{◌≡◌, ℕ, ◌*◌, ◌≤◌, ◌==◌, Bool, true, false, cond, nat_lt, ℤ, List, [], ◌∷◌, ◌++◌, length, Option, Some, None, option_map, refl, ap, sym, ◌∙◌, subst, arith}
use Rattle.std.specs.Option.{option_map_or, option_or}
use Rattle.std.specs.List.{find, list_any}
use Rattle.std.specs.Result.{result_ok}
use Rattle.std.proofs.lemmas.Bool.Decides.{nat_tests}
use Rattle.message_frames.specs.MessageReaders.{standing}
use Rattle.message_frames.specs.declared.message.Message.{Message}
use Rattle.event_codecs.specs.Events.{event_of}
use Rattle.event_codecs.specs.declared.events.ClientEvent.{ClientEvent}
use Rattle.event_codecs.specs.declared.events.ClientEvent.TheVariants.{Entry, Invalidation, Rows}
use Rattle.event_codecs.specs.declared.seen.SeenRow.{SeenRow}
use Rattle.near_protocol.specs.Client.{Overtaking}
use Rattle.grid_client.specs.Nears.{Near, Value, Look, look_up, closed, kept, filled, answered, used, opened, invalidated, cleared, new_near as near_of_map}
use Rattle.grid_client.specs.Rows.{version_in, leader_in}
use Rattle.grid_client.specs.Calls.{answered_number}
use Rattle.grid_client.specs.Connections.{is_conn, is_to, target_of, with_uuid, with_reader}
use Rattle.grid_client.specs.Messages.{head_of, code_of, value_of, accepted_of}
use Rattle.grid_client.specs.States.{State, looked, target}
use Rattle.grid_client.specs.Hearing.{Told, nothing, near_answered, told_by_answer, is_near_map, clearing, cleared_by, knowing_row, told_by_row, told_by_rows, told_by_event, is_welcome, welcomed, told_by_number, told_by_head, told_by_message, told_by_messages, HasHeard, messages_by, reading}
use Rattle.grid_client.specs.declared.connections.Connection.{Connection}
use Rattle.script_lang.specs.Limits.{most_line_bytes}
use Rattle.script_run.specs.NearClients.{NearClient, piece, told, missed, new_near}
use Rattle.script_run.specs.Grids.{IsOnOne}

pub same_number : (c : ℕ) → (c == c) ≡ true
same_number c = grind (arith, nat_tests)

-- a change of the near cache that leaves its name
module _ {c : ℕ} {text : List ℕ} {s : State} (one : IsOnOne c text s) where
  pub with_near : (f : Near → Near) → ((n : Near) → (f n).name ≡ n.name) → (t : State) → t.connections ≡ s.connections → t.near ≡ option_map f s.near → IsOnOne c text t
  with_near f keeps t connections near = record {
    uuid = one.uuid;
    connections = connections ∙ one.connections;
    near = f one.near;
    keeps = near ∙ ap (option_map f) one.keeps;
    short = subst (λ (name : List ℕ). 2 * length name ≤ most_line_bytes) (sym (keeps one.near)) one.short;
  }

  -- a change of something else
  pub with_other : (t : State) → t.connections ≡ s.connections → t.near ≡ s.near → IsOnOne c text t
  with_other t connections near = record {
    uuid = one.uuid;
    connections = connections ∙ one.connections;
    near = one.near;
    keeps = near ∙ one.keeps;
    short = one.short;
  }

  -- what the member tells of itself
  welcomed_one : (uuid : Option (Option ℕ)) → IsOnOne c text (welcomed c uuid s)
  welcomed_one None = one
  welcomed_one (Some uuid) = record {
    uuid = uuid;
    connections = ap (with_uuid c uuid) one.connections ∙ rw (same_number c) refl;
    near = one.near;
    keeps = one.keeps;
    short = one.short;
  }

  -- bytes that it reads
  pub reading_one : (more : List ℕ) → IsOnOne c more (reading c more s)
  reading_one more = record {
    uuid = one.uuid;
    connections = ap (with_reader c (standing false more)) one.connections ∙ rw (same_number c) refl;
    near = one.near;
    keeps = one.keeps;
    short = one.short;
  }

-- what the near cache makes of an answer

filled_name : (r : Look) (value : Value) (n : Near) → (filled r value n).name ≡ n.name
filled_name r value n = go r.overtaken
  where
    go : (by : Option Overtaking) → (option_map_or (λ (by : Overtaking). n) by (kept r.key value n)).name ≡ n.name
    go None = refl
    go (Some by) = refl

answered_name : (number : ℕ) (value : Option Value) (n : Near) → (answered number value n).name ≡ n.name
answered_name number None n = refl
answered_name number (Some value) n = go (look_up number n)
  where
    go : (found : Option Look) → (option_map_or (λ (r : Look). closed number (filled r value n)) found n).name ≡ n.name
    go None = refl
    go (Some r) = filled_name r value n

near_answered_name : (number : ℕ) (code : Option ℤ) (value : Option Value) (n : Near) → (near_answered number code value n).name ≡ n.name
near_answered_name number (Some code) value n = refl
near_answered_name number None value n = answered_name number value n

pub used_name : (key : List ℕ) (n : Near) → (used key n).name ≡ n.name
used_name key n = refl

-- what it makes of a message

module _ (c : ℕ) (text : List ℕ) where
  either : (b : Bool) (x y : Told) → IsOnOne c text x.after → IsOnOne c text y.after → IsOnOne c text (cond b x y).after
  either true x y p q = p
  either false x y p q = q

  row_one : (row : SeenRow) (s : State) → IsOnOne c text s → IsOnOne c text (told_by_row row s).after
  row_one row s one = go (version_in row.partition s.rows)
    where
      go : (version : Option ℕ) → IsOnOne c text
          (elim version as (λ (v : Option ℕ). Told) [
            | None ↦ nothing (knowing_row row s)
            | Some version ↦ cond (nat_lt version row.version) (record { after = knowing_row row (clearing row s); heard = cleared_by row s.near }) (nothing s)
          ]).after
      go None = with_other one (knowing_row row s) refl refl
      go (Some version) =
          either (nat_lt version row.version) (record { after = knowing_row row (clearing row s); heard = cleared_by row s.near }) (nothing s)
          (with_near one (cleared row.partition row.version) (λ n. refl) (knowing_row row (clearing row s)) refl refl) one

  rows_one : (rows : List SeenRow) (s : State) → IsOnOne c text s → IsOnOne c text (told_by_rows rows s).after
  rows_one [] s one = one
  rows_one (row ∷ rows) s one = rows_one rows (told_by_row row s).after (row_one row s one)

  event_one : (event : Option ClientEvent) (s : State) → IsOnOne c text s → IsOnOne c text (told_by_event event s).after
  event_one None s one = one
  event_one (Some (Entry correlation partition kind key new old)) s one = one
  event_one (Some (Invalidation correlation partition version number name key)) s one =
      either (is_near_map name s.near) _ (nothing s) (with_near one (invalidated key version number) (λ n. refl) (record s { near = option_map (invalidated key version number) s.near }) refl refl) one
  event_one (Some (Rows correlation rows)) s one = rows_one rows s one

  message_one : (message : Message) (s : State) → IsOnOne c text s → IsOnOne c text (told_by_message c message s).after
  message_one message s one =
      elim (head_of message) as (λ head. IsOnOne c text (told_by_head c head message s).after) [
        | None ↦ one
        | Some head ↦
            elim (answered_number c head s.calls) as (λ number. IsOnOne c text (told_by_number c number head message s).after) [
              | None ↦
                  either (is_welcome head) (nothing (welcomed c (accepted_of message) s)) (told_by_event (result_ok (event_of message)) s)
                  (welcomed_one one (accepted_of message)) (event_one (result_ok (event_of message)) s one)
              | Some number ↦
                  with_near one (near_answered number (code_of head.kind message) (value_of message)) (near_answered_name number (code_of head.kind message) (value_of message))
                  (told_by_answer c number head message s).after refl refl
            ]
      ]

  pub messages_one : (messages : List Message) (s : State) → IsOnOne c text s → IsOnOne c text (told_by_messages c messages s).after
  messages_one [] s one = one
  messages_one (message ∷ messages) s one = messages_one messages (told_by_message c message s).after (message_one message s one)

-- what is read of it

pub attached_one : (c : ℕ) (text : List ℕ) (s : State) → IsOnOne c text s → list_any (is_conn c) s.connections ≡ true
attached_one c text s one = ap (list_any (is_conn c)) one.connections ∙ rw (same_number c) refl

pub heard_one : (c : ℕ) (text : List ℕ) (s : State) → IsOnOne c text s → HasHeard c text s
heard_one c text s one = ap (λ cs. option_map (λ (x : Connection). x.reader) (find (is_conn c) cs)) one.connections ∙ rw (same_number c) refl

pub fed_one : (most : ℕ) (n : NearClient) → IsOnOne n.conn n.read n.state → IsOnOne n.conn (n.read ++ piece most n) (told most n).after
fed_one most n one =
    let text = n.read ++ piece most n in
    messages_one n.conn text (messages_by n.read (piece most n)) (reading n.conn text n.state) (reading_one one text)

-- what it is asked

pub used_one : (c : ℕ) (text key : List ℕ) (s : State) → IsOnOne c text s → IsOnOne c text (looked key s)
used_one c text key s one = with_near one (used key) (λ n. refl) (looked key s) refl refl

pub missed_one : (key : List ℕ) (n : NearClient) → IsOnOne n.conn n.read n.state → IsOnOne n.conn n.read (missed key n).state
missed_one key n one = with_near one (opened n.state.next key) (λ m. refl) (missed key n).state refl refl

-- its calls go on its connection
pub target_one : (c : ℕ) (text : List ℕ) (s : State) (partition : ℕ) → IsOnOne c text s → target partition s ≡ Some c
target_one c text s partition one = ap (target_of (leader_in partition s.rows)) one.connections ∙ go (is_to (leader_in partition s.rows) its)
  where
    its : Connection
    its = record { conn = c; uuid = one.uuid; reader = standing false text }

    go : (b : Bool) → option_map (λ (x : Connection). x.conn) (option_or (cond b (Some its) None) (Some its)) ≡ Some c
    go true = refl
    go false = refl

-- at first
pub begun_one : (c : ℕ) (name : List ℕ) (capacity : ℕ) → 2 * length name ≤ most_line_bytes → IsOnOne c [] (new_near c name capacity).state
begun_one c name capacity short = record {
  uuid = None;
  connections = refl;
  near = near_of_map name capacity;
  keeps = refl;
  short = short;
}
