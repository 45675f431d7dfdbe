-- How a client goes with the near cache's machine, in which it is proved what a hit is worth.
use Rattle.std.specs.Prelude.{◌≡◌, ◌≢◌, ℕ, ◌<◌, ◌≤◌, false, ℤ, List, [], ◌∷◌, length, map, Some, None, Ok, ⊤}
use Rattle.std.specs.Bool.{Decides}
use Rattle.std.specs.List.{AllByRecursion}
use Rattle.grid_base.specs.Objects.{Object}
use Rattle.grid_base.specs.declared.calls.GridCall.{GridCall}
use Rattle.message_frames.specs.declared.message.Message.{Message}
use Rattle.session_core.specs.Places.{partition_of_key}
use Rattle.event_codecs.specs.Events.{event_of}
use Rattle.event_codecs.specs.declared.events.ClientEvent.TheVariants as event
use Rattle.event_codecs.specs.declared.seen.SeenRow.{SeenRow}
use Rattle.near_protocol.specs.Keyed.{Keyed, IsKeyed}
use Rattle.near_protocol.specs.Client.{Client, Said, Answer, Refusal, Invalidation, Rows, RowHeard, known_in, handled}
use Rattle.near_protocol.specs.Client as machine
use Rattle.near_protocol.specs.Near.{Move, At, new_grid, all_happened, attached, all_moved}
use Rattle.near_protocol.specs.Claims.{IsHit, IsNew, AreNamedOnce}
use Rattle.grid_client.specs.Nears.{Near, Value, Entry, Look, hit}
use Rattle.grid_client.specs.Calls.{answered_number}
use Rattle.grid_client.specs.Messages.{head_of, code_of, value_of}
use Rattle.grid_client.specs.Rows.{version_in}
use Rattle.grid_client.specs.States.{State, HasHit, HasMissed, HasAsked, HasRetried, attached as attaching}
use Rattle.grid_client.specs.Hearing.{told_by_message, is_welcome}
use Rattle.grid_client.specs.declared.heard.Sending.{Sending}
use Rattle.grid_client.specs.declared.messages.Head.{Head}

-- The machine tells keys apart, and finds the partition of each key that has one, as the grid does.
pub record GoesByKeys {C State : Type 0} (l : Keyed C State (List ℕ) Value) : Type 0 where
  pub same : (a b : List ℕ) → Decides (l.same a b) (a ≡ b)
  pub partition : (key : List ℕ) → 8 ≤ length key → l.partition key ≡ partition_of_key key

-- Look-ups have numbers below the next call's, each another one.
abbrev pub AreBelow : ℕ → List Look → Type 0
AreBelow next [] = ⊤
AreBelow next (r ∷ rs) = (r.number < next) × AllByRecursion (λ (q : Look). q.number ≢ r.number) rs × AreBelow next rs

-- a key of fewer than eight bytes is in no partition
abbrev pub IsKey : List ℕ → Type 0
IsKey key = 8 ≤ length key

-- What a client keeps of its map, its open look-ups and the versions of rows that it knows are those of the machine.
pub record IsTied (s : State) (near : Near) (c : Client (List ℕ) Value) : Type 0 where
  pub listens : s.near ≡ Some near
  pub capacity : c.capacity ≡ near.capacity
  pub entries : c.entries ≡ near.entries
  pub waiting : c.waiting ≡ near.waiting
  pub rows : (partition : ℕ) → known_in partition c.rows ≡ version_in partition s.rows
  pub kept : AllByRecursion (λ (e : Entry). IsKey e.key) near.entries
  pub asked : AllByRecursion (λ (r : Look). IsKey r.key) near.waiting
  pub numbers : AreBelow s.next near.waiting

-- with some near cache
pub record IsTiedTo (s : State) (c : Client (List ℕ) Value) : Type 0 where
  pub near : Near
  pub tied : IsTied s near c

-- what a row tells the machine
abbrev pub row_heard : SeenRow → RowHeard
row_heard row = record { partition = row.partition; version = row.version }

-- A message is the answer to the call of that number.
pub record IsAnswerTo (conn : ℕ) (s : State) (message : Message) (number : ℕ) : Type 0 where
  pub head : Head
  pub there : head_of message ≡ Some head
  pub number_is : answered_number conn head s.calls ≡ Some number

-- It is no answer.
pub record IsNoAnswer (conn : ℕ) (s : State) (message : Message) : Type 0 where
  pub head : Head
  pub there : head_of message ≡ Some head
  pub none : answered_number conn head s.calls ≡ None
  pub other : is_welcome head ≡ false

-- What a message on a connection says, as the machine hears it
abbrev pub IsSaid : {C State' : Type 0} → Keyed C State' (List ℕ) Value → ℕ → State → Near → Message → Said (List ℕ) → Type 0
IsSaid l conn s near message (Answer number reply) =
    (a : IsAnswerTo conn s message number) × (code_of a.head.kind message ≡ None) × (l.value_in reply ≡ value_of message)
IsSaid l conn s near message (Refusal number) =
    (a : IsAnswerTo conn s message number) × ((code : ℤ) × (code_of a.head.kind message ≡ Some code))
IsSaid l conn s near message (Invalidation key version number) =
    IsNoAnswer conn s message × ((correlation : ℤ) × ((partition : ℤ) × (event_of message ≡ Ok (event.Invalidation correlation partition version number near.name key))))
IsSaid l conn s near message (Rows rows) =
    IsNoAnswer conn s message × ((correlation : ℤ) × ((seen : List SeenRow) × ((event_of message ≡ Ok (event.Rows correlation seen)) × (rows ≡ map row_heard seen))))

-- ---- each call is a step of the machine's

-- a look-up hits what the machine's does
abbrev pub EveryLookIsTheMachines : {C State' : Type 0} → Keyed C State' (List ℕ) Value → Type 0
EveryLookIsTheMachines l =
    (s : State) (near : Near) (c : Client (List ℕ) Value) (key : List ℕ) → GoesByKeys l → IsTied s near c → hit key near ≡ machine.hit l key c

abbrev pub EveryHitIsTheMachines : {C State' : Type 0} → Keyed C State' (List ℕ) Value → Type 0
EveryHitIsTheMachines l =
    (s new : State) (c : Client (List ℕ) Value) (key : List ℕ) (value : Value)
    → GoesByKeys l → IsTiedTo s c → HasHit key value s new → IsTiedTo new (machine.used l key c)

abbrev pub EveryMissIsTheMachines : Type 0
EveryMissIsTheMachines =
    (s new : State) (c : Client (List ℕ) Value) (key : List ℕ) (sending : Sending)
    → IsKey key → IsTiedTo s c → HasMissed key sending s new → IsTiedTo new (machine.opened s.next key c)

abbrev pub EveryMessageIsTheMachines : {C State' : Type 0} → Keyed C State' (List ℕ) Value → Type 0
EveryMessageIsTheMachines l =
    (conn : ℕ) (s : State) (near : Near) (c : Client (List ℕ) Value) (message : Message) (said : Said (List ℕ))
    → GoesByKeys l → IsTied s near c → IsSaid l conn s near message said → IsTiedTo (told_by_message conn message s).after (handled l said c)

-- whose other calls change nothing of it
abbrev pub EveryCallKeepsTheTie : Type 0
EveryCallKeepsTheTie =
    (s new : State) (c : Client (List ℕ) Value) (partition : ℕ) (call : GridCall) (sending : Sending)
    → IsTiedTo s c → HasAsked partition call s new sending → IsTiedTo new c

abbrev pub EveryRetryKeepsTheTie : Type 0
EveryRetryKeepsTheTie =
    (s new : State) (c : Client (List ℕ) Value) (number : ℕ) (sending : Sending) → IsTiedTo s c → HasRetried number s new sending → IsTiedTo new c

abbrev pub EveryConnectionKeepsTheTie : Type 0
EveryConnectionKeepsTheTie = (s : State) (c : Client (List ℕ) Value) (conn : ℕ) → IsTiedTo s c → IsTiedTo (attaching conn s) c

-- ---- what a hit is worth

-- Where a client goes with the machine's run, a value that it hits is a hit of the run: `IsHit` says what holds of it.
abbrev pub EveryHitOfAClientStands : {C State' : Type 0} → Object C State' → Keyed C State' (List ℕ) Value → Type 0
EveryHitOfAClientStands {C} o l =
    (members backups partitions member conn first capacity : ℕ) (earlier : List (At C)) (moves : List (Move C (List ℕ)))
    (s : State) (near : Near) (key : List ℕ) (value : Value)
    → 1 ≤ members → IsKeyed o l partitions → GoesByKeys l → IsNew conn earlier
    → let r = all_moved o l (attached o partitions member conn first capacity (all_happened o l (new_grid members backups) earlier)) moves in
    AreNamedOnce r.grid → IsTied s near r.client → hit key near ≡ Some value → IsHit o l r key value
