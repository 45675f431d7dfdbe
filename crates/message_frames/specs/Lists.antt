-- The frames of open messages, which are in numbered lists: with the control they are the state of a connection.
use Rattle.std.specs.Prelude.{◌≡◌, ◌≢◌, ℕ, suc, ◌<◌, ◌≤◌, true, false, List, [], ◌∷◌, ◌++◌, length, map, slice_index_or, slice_set, vec_len, vec_capacity}
use Rattle.std.specs.Global.{Vec}
use Rattle.frame_codec.specs.Flags.{without_flag}
use Rattle.frame_codec.specs.declared.frames.Frame.{Frame}
use Rattle.frame_codec.specs.declared.flags.TheConstants.{FINAL}
use Rattle.message_frames.specs.Assembly.{Assembly, Chain, Place, Between, InMessage, InFragment, Step, Faulty, Goes, Gives}
use Rattle.message_frames.specs.Tallies.{tally_of}
use Rattle.message_frames.specs.Turns.{Turned, is_known}
use Rattle.message_frames.specs.declared.message.Message.{Message}
use Rattle.message_frames.specs.declared.control.OpenChain.{OpenChain}
use Rattle.message_frames.specs.declared.control.Spot.{Spot}
use Rattle.message_frames.specs.declared.control.Spot.TheVariants.{Free, OfMessage, OfFragment}
use Rattle.message_frames.specs.declared.control.Control.{Control}
use Rattle.message_frames.specs.declared.control.Ending.{Ending}
use Rattle.message_frames.specs.declared.control.Ending.TheVariants.{GoesOn, EndsFragment, EndsMessage}
use Rattle.message_frames.specs.declared.control.Turn.{Turn}
use Rattle.message_frames.specs.declared.control.Turn.TheVariants.{Fails, Heads, Joins}

-- the frames of a list; none past the last
abbrev pub list_at : List (List Frame) → ℕ → List Frame
list_at lists k = slice_index_or lists k []

-- the state that control and lists are

abbrev pub chain_of : List (List Frame) → OpenChain → Chain
chain_of lists chain = record { id = chain.id; frames = list_at lists chain.list }

abbrev pub place_of : List (List Frame) → Spot → Place
place_of lists Free = Between
place_of lists (OfMessage begun) = InMessage begun.at (list_at lists begun.list)
place_of lists (OfFragment id last) = InFragment id last

abbrev pub assembly_of : Control → List (List Frame) → Assembly
assembly_of c lists = record { place = place_of lists c.spot; chains = map (chain_of lists) c.chains.items; complete = c.complete }

-- Control knows what the lists have, and no list is another's.

-- The chains have different ids, and lists in rising order from one number up to another.
abbrev pub AreSound : ℕ → List OpenChain → ℕ → List (List Frame) → Type 0
AreSound from [] end lists = from ≤ end
AreSound from (chain ∷ chains) end lists =
    (from ≤ chain.list) × (is_known chain.id chains ≡ false) × (chain.tally ≡ tally_of (list_at lists chain.list)) × AreSound (suc chain.list) chains end lists

-- A message in progress has the last list.
abbrev pub chains_end : Spot → ℕ → ℕ
chains_end Free lists = lists
chains_end (OfMessage begun) lists = begun.list
chains_end (OfFragment id last) lists = lists

abbrev pub IsSoundSpot : Spot → Control → List (List Frame) → Type 0
IsSoundSpot Free c lists = Unit {0}
IsSoundSpot (OfMessage begun) c lists = (begun.list < c.lists) × (begun.tally ≡ tally_of (list_at lists begun.list))
IsSoundSpot (OfFragment id last) c lists = is_known id c.chains.items ≡ true

pub record IsSound (c : Control) (lists : List (List Frame)) : Type 0 where
  pub chains : AreSound 0 c.chains.items (chains_end c.spot c.lists) lists
  pub spot : IsSoundSpot c.spot c lists
  pub unused : (k : ℕ) → c.lists ≤ k → list_at lists k ≡ []

-- what a turn does to the lists

abbrev pub ended : Ending → List (List Frame) → ℕ → Frame → List (List Frame)
ended GoesOn lists list frame = slice_set lists list (list_at lists list ++ frame ∷ [])
ended EndsFragment lists list frame = slice_set lists list (list_at lists list ++ without_flag FINAL frame ∷ [])
ended EndsMessage lists list frame = slice_set lists list []

abbrev pub lists_after : Turn → List (List Frame) → Frame → List (List Frame)
lists_after (Fails fault) lists frame = lists
lists_after Heads lists frame = lists
lists_after (Joins list count ending) lists frame = ended ending lists list frame

-- a turn as a step of the state
abbrev pub ending_step : Ending → List Frame → Assembly → Step
ending_step GoesOn all next = Goes next
ending_step EndsFragment all next = Goes next
ending_step EndsMessage all next = Gives (record { frames = all }) next

abbrev pub turn_step : Turn → List (List Frame) → Frame → Assembly → Step
turn_step (Fails fault) lists frame next = Faulty fault
turn_step Heads lists frame next = Goes next
turn_step (Joins list count ending) lists frame next = ending_step ending (list_at lists list ++ frame ∷ []) next

abbrev pub step_of : Turned → List (List Frame) → Frame → Step
step_of t lists frame = turn_step t.turn lists frame (assembly_of t.after (lists_after t.turn lists frame))

-- lists in memory

abbrev pub frames_in : List (Vec Frame) → List (List Frame)
frames_in lists = map (λ list. list.items) lists

abbrev pub rooms_in : List (Vec Frame) → List ℕ
rooms_in lists = map vec_capacity lists

-- Lists that got room, and empty lists behind them: what they have stays.
pub record GetRoom (old new : List (Vec Frame)) : Type 0 where
  pub frames : (k : ℕ) → list_at (frames_in new) k ≡ list_at (frames_in old) k
  pub rooms : (k : ℕ) → slice_index_or (rooms_in old) k 0 ≤ slice_index_or (rooms_in new) k 0
  pub count : length old ≤ length new

-- One list is replaced, and what room it had. The others keep theirs.
pub record LosesRoom (old new : List ℕ) (list : ℕ) : Type 0 where
  pub count : length new ≡ length old
  pub others : (k : ℕ) → k ≢ list → slice_index_or new k 0 ≡ slice_index_or old k 0

abbrev pub KeepsRoom : Ending → List ℕ → List ℕ → ℕ → Type 0
KeepsRoom GoesOn old new list = new ≡ old
KeepsRoom EndsFragment old new list = new ≡ old
KeepsRoom EndsMessage old new list = LosesRoom old new list

-- a message that is given needs room among those that are given
abbrev pub HasNumber : Ending → Vec Message → Type 0
HasNumber GoesOn messages = Unit {0}
HasNumber EndsFragment messages = Unit {0}
HasNumber EndsMessage messages = vec_len messages < vec_capacity messages

-- the message that a frame ends, if it ends one
abbrev pub given : Ending → List Frame → List Message
given GoesOn frames = []
given EndsFragment frames = []
given EndsMessage frames = record { frames = frames } ∷ []

-- chains with lists numbered from one number on, in their order
abbrev pub renumbered : ℕ → List OpenChain → List OpenChain
renumbered n [] = []
renumbered n (chain ∷ chains) = record chain { list = n } ∷ renumbered (suc n) chains

abbrev pub lists_of : List (List Frame) → List OpenChain → List (List Frame)
lists_of lists chains = map (λ (chain : OpenChain). list_at lists chain.list) chains

-- a message in progress, with another list

abbrev pub IsBelow : Spot → ℕ → Type 0
IsBelow Free count = Unit {0}
IsBelow (OfMessage begun) count = begun.list < count
IsBelow (OfFragment id last) count = Unit {0}

abbrev pub spot_with : ℕ → Spot → Spot
spot_with list Free = Free
spot_with list (OfMessage begun) = OfMessage (record begun { list = list })
spot_with list (OfFragment id last) = OfFragment id last

abbrev pub spot_lists : List (List Frame) → Spot → List (List Frame)
spot_lists lists Free = []
spot_lists lists (OfMessage begun) = list_at lists begun.list ∷ []
spot_lists lists (OfFragment id last) = []
