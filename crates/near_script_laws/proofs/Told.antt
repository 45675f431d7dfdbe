-- What a client hears leaves its own number and that of its next call. One that never asked keeps nothing.
use Rattle.std.proofs.Common.{◌≡◌, ℕ, Bool, true, false, cond, nat_lt, List, [], ◌∷◌, ◌++◌, Option, Some, None, option_map, refl, ap, sym, ◌∙◌}
use Rattle.std.specs.Result.{result_ok}
use Rattle.message_frames.specs.declared.message.Message.{Message}
use Rattle.event_codecs.specs.Events.{event_of}
use Rattle.event_codecs.specs.declared.events.ClientEvent.{ClientEvent}
use Rattle.event_codecs.specs.declared.events.ClientEvent.TheVariants as event
use Rattle.event_codecs.specs.declared.seen.SeenRow.{SeenRow}
use Rattle.grid_client.specs.Nears.{Near, invalidated, cleared, new_near}
use Rattle.grid_client.specs.Calls.{answered_number, awaited_number, number_in}
use Rattle.grid_client.specs.Messages.{head_of, accepted_of}
use Rattle.grid_client.specs.Rows.{version_in}
use Rattle.grid_client.specs.States.{State}
use Rattle.grid_client.specs.Hearing.{Told, nothing, is_near_map, clearing, knowing_row, cleared_by, told_by_row, told_by_rows, told_by_event, is_welcome, welcomed, told_by_number, told_by_head, told_by_message, told_by_messages, messages_by, reading}
use Rattle.grid_client.specs.declared.heard.Heard.TheVariants as sayings
use Rattle.near_run_laws.specs.Clients.{Head}
use Rattle.script_run.specs.NearClients.{NearClient, new_near as new_client_on, fed, piece, value_kept}

-- ---- its numbers

pub record Same (s t : State) : Type 0 where
  pub client : t.client ≡ s.client
  pub next : t.next ≡ s.next

still : (s : State) → Same s s
still s = record { client = refl; next = refl }

then : (s t u : State) → Same s t → Same t u → Same s u
then s t u a b = record { client = b.client ∙ a.client; next = b.next ∙ a.next }

row_same : (row : SeenRow) (s : State) → Same s (told_by_row row s).after
row_same row s = by (version_in row.partition s.rows)
  where
    newer : (b : Bool) → Same s (cond b (record { after = knowing_row row (clearing row s); heard = cleared_by row s.near }) (nothing s)).after
    newer true = record { client = refl; next = refl }
    newer false = still s

    by : (x : Option ℕ) → Same s (elim x as (λ _. Told) [ None ↦ nothing (knowing_row row s) | Some version ↦ cond (nat_lt version row.version) (record { after = knowing_row row (clearing row s); heard = cleared_by row s.near }) (nothing s) ]).after
    by None = record { client = refl; next = refl }
    by (Some version) = newer (nat_lt version row.version)

rows_same : (rows : List SeenRow) (s : State) → Same s (told_by_rows rows s).after
rows_same [] s = still s
rows_same (row ∷ rows) s = then s (told_by_row row s).after (told_by_rows rows (told_by_row row s).after).after (row_same row s) (rows_same rows (told_by_row row s).after)

event_same : (x : Option ClientEvent) (s : State) → Same s (told_by_event x s).after
event_same None s = still s
event_same (Some (event.Entry correlation partition kind key new old)) s = still s
event_same (Some (event.Invalidation correlation partition version number name key)) s = by (is_near_map name s.near)
  where
    by : (b : Bool) → Same s (cond b (record { after = record s { near = option_map (invalidated key version number) s.near }; heard = sayings.Invalidated ∷ [] }) (nothing s)).after
    by true = record { client = refl; next = refl }
    by false = still s
event_same (Some (event.Rows correlation rows)) s = rows_same rows s

message_same : (c : ℕ) (message : Message) (s : State) → Same s (told_by_message c message s).after
message_same c message s = by_head (head_of message)
  where
    welcome : (x : Option (Option ℕ)) → Same s (welcomed c x s)
    welcome None = still s
    welcome (Some uuid) = record { client = refl; next = refl }

    otherwise : (b : Bool) → Same s (cond b (nothing (welcomed c (accepted_of message) s)) (told_by_event (result_ok (event_of message)) s)).after
    otherwise true = welcome (accepted_of message)
    otherwise false = event_same (result_ok (event_of message)) s

    by_number : (head : Head) (x : Option ℕ) → Same s (told_by_number c x head message s).after
    by_number head None = otherwise (is_welcome head)
    by_number head (Some number) = record { client = refl; next = refl }

    by_head : (x : Option Head) → Same s (told_by_head c x message s).after
    by_head None = still s
    by_head (Some head) = by_number head (answered_number c head s.calls)

messages_same : (c : ℕ) (messages : List Message) (s : State) → Same s (told_by_messages c messages s).after
messages_same c [] s = still s
messages_same c (message ∷ messages) s =
    then s (told_by_message c message s).after (told_by_messages c messages (told_by_message c message s).after).after (message_same c message s) (messages_same c messages (told_by_message c message s).after)

pub fed_same : (most : ℕ) (n : NearClient) → Same n.state (fed most n).state
fed_same most n =
    let first = reading n.conn (n.read ++ piece most n) n.state in
    let all = messages_same n.conn (messages_by n.read (piece most n)) first in
    record { client = all.client; next = all.next }

-- ---- a client that never asked

pub record IsBare (s : State) : Type 0 where
  pub near : Near
  pub keeps : s.near ≡ Some near
  pub entries : near.entries ≡ []
  pub waiting : near.waiting ≡ []
  pub calls : s.calls ≡ []

-- something that leaves what has no entry and no look-up without them
bare_near : (s t : State) (f : Near → Near) → ((n : Near) → n.entries ≡ [] → (f n).entries ≡ []) → ((n : Near) → n.waiting ≡ [] → (f n).waiting ≡ []) → t.near ≡ option_map f s.near → t.calls ≡ s.calls → IsBare s → IsBare t
bare_near s t f entries waiting near calls bare = record {
  near = f bare.near;
  keeps = near ∙ ap (option_map f) bare.keeps;
  entries = entries bare.near bare.entries;
  waiting = waiting bare.near bare.waiting;
  calls = calls ∙ bare.calls;
}

bare_other : (s t : State) → t.near ≡ s.near → t.calls ≡ s.calls → IsBare s → IsBare t
bare_other s t near calls bare = record { near = bare.near; keeps = near ∙ bare.keeps; entries = bare.entries; waiting = bare.waiting; calls = calls ∙ bare.calls }

row_bare : (row : SeenRow) (s : State) → IsBare s → IsBare (told_by_row row s).after
row_bare row s bare = by (version_in row.partition s.rows)
  where
    clears : (b : Bool) → IsBare (cond b (record { after = knowing_row row (clearing row s); heard = cleared_by row s.near }) (nothing s)).after
    clears true = bare_near s (knowing_row row (clearing row s)) (cleared row.partition row.version) (λ n e. rw e refl) (λ n e. rw e refl) refl refl bare
    clears false = bare

    by : (x : Option ℕ) → IsBare (elim x as (λ _. Told) [ None ↦ nothing (knowing_row row s) | Some version ↦ cond (nat_lt version row.version) (record { after = knowing_row row (clearing row s); heard = cleared_by row s.near }) (nothing s) ]).after
    by None = bare_other s (knowing_row row s) refl refl bare
    by (Some version) = clears (nat_lt version row.version)

rows_bare : (rows : List SeenRow) (s : State) → IsBare s → IsBare (told_by_rows rows s).after
rows_bare [] s bare = bare
rows_bare (row ∷ rows) s bare = rows_bare rows (told_by_row row s).after (row_bare row s bare)

event_bare : (x : Option ClientEvent) (s : State) → IsBare s → IsBare (told_by_event x s).after
event_bare None s bare = bare
event_bare (Some (event.Entry correlation partition kind key new old)) s bare = bare
event_bare (Some (event.Invalidation correlation partition version number name key)) s bare = by (is_near_map name s.near)
  where
    by : (b : Bool) → IsBare (cond b (record { after = record s { near = option_map (invalidated key version number) s.near }; heard = sayings.Invalidated ∷ [] }) (nothing s)).after
    by true = bare_near s (record s { near = option_map (invalidated key version number) s.near }) (invalidated key version number) (λ n e. rw e refl) (λ n e. rw e refl) refl refl bare
    by false = bare
event_bare (Some (event.Rows correlation rows)) s bare = rows_bare rows s bare

-- no message answers a call of a client that made none
none_answered : (c : ℕ) (head : Head) (number : Option ℕ) → awaited_number c head.kind [] number ≡ None
none_answered c head None = refl
none_answered c head (Some number) = refl

message_bare : (c : ℕ) (message : Message) (s : State) → IsBare s → IsBare (told_by_message c message s).after
message_bare c message s bare = by_head (head_of message)
  where
    welcome : (x : Option (Option ℕ)) → IsBare (welcomed c x s)
    welcome None = bare
    welcome (Some uuid) = bare_other s (welcomed c (Some uuid) s) refl refl bare

    otherwise : (b : Bool) → IsBare (cond b (nothing (welcomed c (accepted_of message) s)) (told_by_event (result_ok (event_of message)) s)).after
    otherwise true = welcome (accepted_of message)
    otherwise false = event_bare (result_ok (event_of message)) s bare

    by_number : (head : Head) (x : Option ℕ) → answered_number c head s.calls ≡ x → IsBare (told_by_number c x head message s).after
    by_number head None e = otherwise (is_welcome head)
    by_number head (Some number) e = absurd (let clash : None ≡ Some number = sym (none_answered c head (number_in head.correlation)) ∙ ap (answered_number c head) (sym bare.calls) ∙ e in cc)

    by_head : (x : Option Head) → IsBare (told_by_head c x message s).after
    by_head None = bare
    by_head (Some head) = by_number head (answered_number c head s.calls) refl

messages_bare : (c : ℕ) (messages : List Message) (s : State) → IsBare s → IsBare (told_by_messages c messages s).after
messages_bare c [] s bare = bare
messages_bare c (message ∷ messages) s bare = messages_bare c messages (told_by_message c message s).after (message_bare c message s bare)

pub fed_bare : (most : ℕ) (n : NearClient) → IsBare n.state → IsBare (fed most n).state
fed_bare most n bare = messages_bare n.conn (messages_by n.read (piece most n)) (reading n.conn (n.read ++ piece most n) n.state) (bare_other n.state (reading n.conn (n.read ++ piece most n) n.state) refl refl bare)

pub new_bare : (c : ℕ) (name : List ℕ) (capacity : ℕ) → IsBare (new_client_on c name capacity).state
new_bare c name capacity = record { near = new_near name capacity; keeps = refl; entries = refl; waiting = refl; calls = refl }

pub bare_keeps_none : (n : NearClient) (key : List ℕ) → IsBare n.state → value_kept n key ≡ None
bare_keeps_none n key bare = rw bare.keeps (rw bare.entries refl)
