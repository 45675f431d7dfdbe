-- How pieces make messages, and which pieces a connection takes.
use Rattle.std.specs.Prelude.{ℕ, ◌+◌, Bool, true, not, ◌&&◌, if◌then◌else◌, List, [], ◌∷◌, ◌++◌, length, sum_by, nat_lt, nat_le}
use Rattle.frame_codec.specs.Flags.{without_flag}
use Rattle.frame_codec.specs.Frames.{frame_length}
use Rattle.frame_codec.specs.declared.frames.Frame.{Frame}
use Rattle.frame_codec.specs.declared.flags.TheConstants.{FINAL}
use Rattle.message_frames.specs.declared.message.Message.{Message}
use Rattle.message_frames.specs.Assembly.{most_frames, most_length, most_chains, most_messages, begins_chain, ends_chain, chain_id, Chain, is_open, frames_of, with_frames, without, first_payload}
use Rattle.message_frames.specs.Grammar.{Piece, Unfragmented, Fragment, is_piece}

-- merging

-- the frames of a fragment that others follow: its last frame is not final in the message
abbrev pub unfinished : List Frame → List Frame
unfinished [] = []
unfinished (frame ∷ []) = without_flag FINAL frame ∷ []
unfinished (frame ∷ next ∷ frames) = frame ∷ unfinished (next ∷ frames)

-- A piece completes a message, unless it is a fragment that others follow.
abbrev pub completes : Piece → Bool
completes (Unfragmented frames) = true
completes (Fragment header frames) = ends_chain header

-- the frames of the piece's message up to the piece's end, without headers
abbrev pub gathered : Piece → List Chain → List Frame
gathered (Unfragmented frames) chains = frames
gathered (Fragment header frames) chains = frames_of (chain_id header) chains ++ frames

abbrev pub opened : Frame → List Chain → List Chain
opened header chains = if begins_chain header then chains ++ record { id = chain_id header; frames = [] } ∷ [] else chains

-- The last fragment closes its chain. Each other one adds its frames.
abbrev pub chains_after : Piece → List Chain → List Chain
chains_after (Unfragmented frames) chains = chains
chains_after (Fragment header frames) chains =
    let id = chain_id header in
    if ends_chain header then without id chains
    else with_frames id (frames_of id chains ++ unfinished frames) (opened header chains)

-- the messages of pieces, from where these chains are open
abbrev pub merged : List Chain → List Piece → List Message
merged chains [] = []
merged chains (piece ∷ pieces) =
    if completes piece then record { frames = gathered piece chains } ∷ merged (chains_after piece chains) pieces
    else merged (chains_after piece chains) pieces

-- the chains that pieces leave open
abbrev pub open_after : List Chain → List Piece → List Chain
open_after chains [] = chains
open_after chains (piece ∷ pieces) = open_after (chains_after piece chains) pieces

-- rules and limits

-- A header with the begin bit opens a chain that isn't open; another one continues a chain that is.
abbrev pub may_follow : Piece → List Chain → Bool
may_follow (Unfragmented frames) chains = true
may_follow (Fragment header frames) chains =
    if begins_chain header then not (is_open (chain_id header) chains) && nat_lt (length chains) most_chains
    else is_open (chain_id header) chains

abbrev pub fits : List Frame → Bool
fits frames = nat_le (length frames) most_frames && nat_le (sum_by frame_length frames) most_length

-- The first payload of a message has a head, of at least so many bytes, and there is a number for the message.
abbrev pub may_complete : ℕ → ℕ → List Frame → Bool
may_complete shortest complete frames = nat_le shortest (length (first_payload frames)) && nat_lt complete most_messages

-- whether a piece may come where these chains are open and so many messages were complete
abbrev pub may_come : ℕ → List Chain → ℕ → Piece → Bool
may_come shortest chains complete piece =
    may_follow piece chains && fits (gathered piece chains) && (if completes piece then may_complete shortest complete (gathered piece chains) else true)

abbrev pub complete_after : Piece → ℕ → ℕ
complete_after piece complete = if completes piece then complete + 1 else complete

abbrev pub keeps_rules : ℕ → List Chain → ℕ → List Piece → Bool
keeps_rules shortest chains complete [] = true
keeps_rules shortest chains complete (piece ∷ pieces) =
    is_piece piece && may_come shortest chains complete piece && keeps_rules shortest (chains_after piece chains) (complete_after piece complete) pieces
