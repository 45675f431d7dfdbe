-- Which frame goes where: what one frame more is, and what it does to the state of a connection, apart from the frames that came before it.
use Rattle.std.specs.Prelude.{◌≡◌, ℕ, ◌+◌, ◌<◌, ◌≤◌, ◌==◌, slice_index_or, slice_set, remove, Bool, true, false, not, if◌then◌else◌, List, [], ◌∷◌, ◌++◌, length, Option, Some, None, Ok, Err, nat_lt}
use Rattle.std.specs.List.{list_any}
use Rattle.frame_codec.specs.declared.frames.PlacedFrame.{PlacedFrame}
use Rattle.frame_codec.specs.declared.malformed.Malformed.{Malformed}
use Rattle.frame_codec.specs.declared.malformed.Why.{Why}
use Rattle.frame_codec.specs.declared.malformed.Why.TheVariants.{BadFragment, OpenFragments, ShortStart, Spent}
use Rattle.message_frames.specs.Assembly.{most_chains, most_messages, is_unfragmented, is_final, is_header, begins_chain, ends_chain, chain_id}
use Rattle.message_frames.specs.Tallies.{no_tally, counted}
use Rattle.message_frames.specs.declared.tally.Tally.{Tally}
use Rattle.message_frames.specs.declared.control.OpenChain.{OpenChain}
use Rattle.message_frames.specs.declared.control.Begun.{Begun}
use Rattle.message_frames.specs.declared.control.Spot.{Spot}
use Rattle.message_frames.specs.declared.control.Spot.TheVariants.{Free, OfMessage, OfFragment}
use Rattle.message_frames.specs.declared.control.Control.{Control}
use Rattle.message_frames.specs.declared.control.Ending.TheVariants.{GoesOn, EndsFragment, EndsMessage}
use Rattle.message_frames.specs.declared.control.Turn.{Turn}
use Rattle.message_frames.specs.declared.control.Turn.TheVariants.{Fails, Heads, Joins}

-- what a frame is, and the state after it
pub record Turned : Type 0 where
  pub turn : Turn
  pub after : Control

abbrev pub at_first : Control
at_first = record { spot = Free; chains = record { items = [] }; lists = 0; complete = 0 }

-- a message of which no frame was taken, with the place of its first byte and its list
abbrev pub begun_at : ℕ → ℕ → Begun
begun_at at list = record { at = at; list = list; tally = no_tally }

-- chains

abbrev pub is_named : ℕ → OpenChain → Bool
is_named id chain = chain.id == id

abbrev pub chain_named : ℕ → List OpenChain → Option OpenChain
chain_named id [] = None
chain_named id (chain ∷ chains) = if is_named id chain then Some chain else chain_named id chains

abbrev pub is_known : ℕ → List OpenChain → Bool
is_known id chains = list_any (is_named id) chains

abbrev pub with_tally : ℕ → Tally → List OpenChain → List OpenChain
with_tally id tally [] = []
with_tally id tally (chain ∷ chains) = if is_named id chain then (record chain { tally = tally }) ∷ chains else chain ∷ with_tally id tally chains

abbrev pub without_chain : ℕ → List OpenChain → List OpenChain
without_chain id [] = []
without_chain id (chain ∷ chains) = if is_named id chain then chains else chain ∷ without_chain id chains

-- The chain of an id is at a place, where it is changed and taken away.
pub record IsAt (id : ℕ) (chains : List OpenChain) (place : ℕ) : Type 0 where
  pub within : place < length chains
  pub named : (default : OpenChain) → chain_named id chains ≡ Some (slice_index_or chains place default)
  pub changed : (tally : Tally) (chain : OpenChain) → chain_named id chains ≡ Some chain → slice_set chains place (record chain { tally = tally }) ≡ with_tally id tally chains
  pub removed : remove chains place ≡ without_chain id chains

-- faults

abbrev pub fails : Malformed → Control → Turned
fails fault c = record { turn = Fails fault; after = c }

abbrev pub fails_at : PlacedFrame → Why → Control → Turned
fails_at new why c = fails (record { at = new.at; why = why }) c

-- why a message that has all its frames isn't given
abbrev pub completion_fault : ℕ → ℕ → ℕ → Tally → Control → Option Malformed
completion_fault shortest began ended tally c =
    if nat_lt tally.first shortest then Some (record { at = began; why = ShortStart })
    else if c.complete == most_messages then Some (record { at = ended; why = Spent })
    else None

-- one frame more

-- of an unfragmented message, with which there are so many lists
abbrev pub message_turn : ℕ → Begun → ℕ → PlacedFrame → Control → Turned
message_turn shortest begun lists new c =
    elim (counted new.frame begun.tally) [
      | Err why ↦ fails_at new why c
      | Ok all ↦
          if not (is_final new.frame) then (record {
            turn = Joins begun.list all.count GoesOn;
            after = record c { spot = OfMessage (record begun { tally = all }); lists = lists };
          })
          else elim (completion_fault shortest begun.at new.at all c) [
            | Some fault ↦ fails fault c
            | None ↦ record {
              turn = Joins begun.list all.count EndsMessage;
              after = record c { spot = Free; lists = lists; complete = c.complete + 1 };
            }
          ]
    ]

-- A header opens a chain or continues one.
abbrev pub header_turn : PlacedFrame → Control → Turned
header_turn new c =
    let id = chain_id new.frame in
    if not (is_header new.frame) then fails_at new BadFragment c
    else if begins_chain new.frame then
    (if is_known id c.chains.items then fails_at new BadFragment c
    else if length c.chains.items == most_chains then fails_at new OpenFragments c
    else (record {
      turn = Heads;
      after = record c {
        spot = OfFragment id false;
        chains = record { items = c.chains.items ++ record { id = id; list = c.lists; tally = no_tally } ∷ [] };
        lists = c.lists + 1;
      };
    }))
    else if is_known id c.chains.items then (record { turn = Heads; after = record c { spot = OfFragment id (ends_chain new.frame) } })
    else fails_at new BadFragment c

-- of a fragment of a chain, its last one or not
abbrev pub fragment_turn : ℕ → ℕ → Bool → PlacedFrame → Control → OpenChain → Turned
fragment_turn shortest id last new c chain =
    elim (counted new.frame chain.tally) [
      | Err why ↦ fails_at new why c
      | Ok all ↦
          let more = record c { chains = record { items = with_tally id all c.chains.items } } in
          if not (is_final new.frame) then (record { turn = Joins chain.list all.count GoesOn; after = more })
          else if not last then (record { turn = Joins chain.list all.count EndsFragment; after = record more { spot = Free } })
          else elim (completion_fault shortest new.at new.at all c) [
            | Some fault ↦ fails fault c
            | None ↦ record {
              turn = Joins chain.list all.count EndsMessage;
              after = record c {
                spot = Free;
                chains = record { items = without_chain id c.chains.items };
                complete = c.complete + 1;
              };
            }
          ]
    ]

abbrev pub turned_at : ℕ → Spot → PlacedFrame → Control → Turned
turned_at shortest Free new c = if is_unfragmented new.frame then message_turn shortest (begun_at new.at c.lists) (c.lists + 1) new c else header_turn new c
turned_at shortest (OfMessage begun) new c = message_turn shortest begun c.lists new c
turned_at shortest (OfFragment id last) new c =
    elim (chain_named id c.chains.items) [
      | None ↦ fails_at new BadFragment c
      | Some chain ↦ fragment_turn shortest id last new c chain
    ]

-- one frame more, where a first payload has at least so many bytes
abbrev pub turned : ℕ → PlacedFrame → Control → Turned
turned shortest new c = turned_at shortest c.spot new c

-- frames in order

abbrev pub is_failing : Turn → Bool
is_failing (Fails fault) = true
is_failing Heads = false
is_failing (Joins list count ending) = false

-- the state after frames, up to the first that fails
abbrev pub after_all : ℕ → List PlacedFrame → Control → Control
after_all shortest [] c = c
after_all shortest (new ∷ frames) c =
    let t = turned shortest new c in
    if is_failing t.turn then c else after_all shortest frames t.after

-- The list that a turn joins is one of so many.
abbrev pub JoinsBelow : ℕ → Turn → Type 0
JoinsBelow count (Fails fault) = Unit {0}
JoinsBelow count Heads = Unit {0}
JoinsBelow count (Joins list joined ending) = list < count

-- The list that a turn joins is there, and has room for so many frames as it then has. Rooms are the capacities of the lists.
abbrev pub HasRoom : List ℕ → Turn → Type 0
HasRoom rooms (Fails fault) = Unit {0}
HasRoom rooms Heads = Unit {0}
HasRoom rooms (Joins list count ending) = (list < length rooms) × (count ≤ slice_index_or rooms list 0)

-- Frames in order find their lists there, with room.
abbrev pub HaveRoom : ℕ → List ℕ → List PlacedFrame → Control → Type 0
HaveRoom shortest rooms [] c = c.lists ≤ length rooms
HaveRoom shortest rooms (new ∷ frames) c =
    let t = turned shortest new c in
    (c.lists ≤ length rooms) × HasRoom rooms t.turn × (is_failing t.turn ≡ false → HaveRoom shortest rooms frames t.after)
