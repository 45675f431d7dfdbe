-- The client of a near connection goes with the machine's, message by message.
use Rattle.std.specs.Prelude.{◌≡◌, ℕ, ◌+◌, Bool, true, not, ◌&&◌, ◌==◌, ℤ, List, map, Some, Ok}
use Rattle.std.specs.List.{list_any, AllByRecursion}
use Rattle.fixed_fields.specs.Fields.{int32_at}
use Rattle.message_frames.specs.Assembly.{first_payload}
use Rattle.message_frames.specs.declared.message.Message.{Message}
use Rattle.map_codecs.specs.Calls.{get_kind}
use Rattle.event_codecs.specs.Events.{invalidation_kind, rows_kind, event_of}
use Rattle.event_codecs.specs.declared.events.ClientEvent.TheVariants as event
use Rattle.event_codecs.specs.declared.seen.SeenRow.{SeenRow}
use Rattle.call_engine.specs.Calls.{Settings}
use Rattle.near_protocol.specs.Client.{Client, Said, Answer, Refusal, Invalidation, Rows, handled}
use Rattle.grid_client.specs.Nears.{Near, Value, Look}
use Rattle.grid_client.specs.Calls.{correlation_of, is_answered_by, answered_number}
use Rattle.grid_client.specs.Messages.{value_of}
use Rattle.grid_client.specs.States.{State}
use Rattle.grid_client.specs.Hearing.{told_by_message}
use Rattle.grid_client.specs.Ties.{IsTied, row_heard}
use Rattle.near_run_laws.specs.Maps.{value_in, keyed}
use Rattle.near_run_laws.specs.Hearings.{HasHead}

-- a client's calls, and the heads of messages, whose types aren't named outside of their crate

abbrev pub Domain : {A B : Type 0} → (A → B) → Type 0
Domain {A} f = A

abbrev pub Call : Type 0
Call = Domain (is_answered_by 0 0 0)

abbrev pub Head : Type 0
Head = Domain (answered_number 0)

-- a call that waits on the connection under that number
abbrev pub is_waiting : ℕ → ℕ → Call → Bool
is_waiting c number call = not call.refused && (call.conn == c) && (call.number == number)

abbrev pub AreGets : List Call → Type 0
AreGets calls = AllByRecursion (λ (call : Call). call.kind ≡ get_kind) calls

-- each open look-up's get waits
abbrev pub AreAwaited : ℕ → List Call → List Look → Type 0
AreAwaited c calls looks = AllByRecursion (λ (r : Look). list_any (is_waiting c r.number) calls ≡ true) looks

-- A client of one connection that is tied to the machine's. It makes no calls but gets of one map, which wait while their
-- look-ups are open.
pub record GoesWith (c : ℕ) (name : List ℕ) (s : State) (m : Client (List ℕ) Value) : Type 0 where
  pub near : Near
  pub tied : IsTied s near m
  pub named : near.name ≡ name
  pub gets : AreGets s.calls
  pub awaited : AreAwaited c s.calls near.waiting

-- A message says this, whatever its client knows.
abbrev pub SaysIt : List ℕ → Message → Said (List ℕ) → Type 0
SaysIt name message (Answer number reply) = HasHead message (get_kind + 1) (correlation_of number) × (value_in reply ≡ value_of message)
SaysIt name message (Refusal number) = HasHead message 0 (correlation_of number) × ((code : ℤ) × (int32_at (first_payload message.frames) 13 ≡ Some code))
SaysIt name message (Invalidation key version number) =
    (correlation : ℤ) × ((partition : ℤ) × (HasHead message invalidation_kind correlation × (event_of message ≡ Ok (event.Invalidation correlation partition version number name key))))
SaysIt name message (Rows rows) =
    (correlation : ℤ) × ((seen : List SeenRow) × (HasHead message rows_kind correlation × ((event_of message ≡ Ok (event.Rows correlation seen)) × (rows ≡ map row_heard seen))))

-- What the client makes of it is what the machine's makes of it, also where no call waits for it.
abbrev pub EveryMessageIsHeard : Type 0
EveryMessageIsHeard = (settings : Settings) (client c : ℕ) (name : List ℕ) (s : State) (m : Client (List ℕ) Value) (message : Message) (said : Said (List ℕ))
    → GoesWith c name s m → SaysIt name message said → GoesWith c name (told_by_message c message s).after (handled (keyed settings c name client) said m)
