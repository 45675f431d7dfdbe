-- All that was sent on a near connection since it was opened is one stream of messages, and is what the machine said.
use Rattle.std.specs.Prelude.{◌≡◌, ℕ, false, List, ◌++◌, map, Option}
use Rattle.std.specs.List.{flat_map}
use Rattle.frame_codec.specs.Laws.{spelled}
use Rattle.frame_codec.specs.declared.frames.Frame.{Frame}
use Rattle.message_frames.specs.Laws.{IsStream}
use Rattle.message_frames.specs.Messages.{shortest_start}
use Rattle.call_engine.specs.Calls.{Settings}
use Rattle.near_protocol.specs.Client.{Said}
use Rattle.near_protocol.specs.Near.{invalidated_by}
use Rattle.near_protocol.specs.Claims.{AreNamedOnce}
use Rattle.replay_run.specs.Runs.{Run}
use Rattle.near_run_laws.specs.Messages.{sent_to}
use Rattle.near_run_laws.specs.Readings.{pieces_sent, messages_sent}
use Rattle.near_run_laws.specs.Following.{Machine}
use Rattle.near_run_laws.specs.NearRuns.{IsNearRun}
use Rattle.near_run_laws.specs.Pieces.{AllMean}
use Rattle.near_run_laws.specs.Feeds.{all_said}
use Rattle.near_run_laws.specs.Modest.{IsModest}

-- The messages that were sent on the connection since its client came, by their frames, and what they mean: first what the client
-- has heard, and then what it has yet to read. It has handled the invalidations of what it has heard.
pub record HasSpoken (name : List ℕ) (r : Run) (s : Machine) (earlier : List (List ℕ)) (heard : List (Said (List ℕ))) : Type 0 where
  pub sent : List (List Frame)
  pub bytes : sent_to s.conn r.appended ≡ earlier ++ map spelled sent
  pub stream : IsStream (shortest_start false) (pieces_sent sent)
  pub says : List (Option (Said (List ℕ)))
  pub mean : AllMean name (messages_sent sent) says
  pub all : all_said says ≡ heard ++ s.unread
  pub processed : s.processed ≡ flat_map invalidated_by heard

abbrev pub EveryNearRunSpeaks : Type 0
EveryNearRunSpeaks = (settings : Settings) (client : ℕ) (name : List ℕ) (r : Run) (s : Machine) (earlier : List (List ℕ)) (heard : List (Said (List ℕ)))
    → IsNearRun settings client name r s earlier heard → AreNamedOnce s.grid → IsModest s.conn name r → HasSpoken name r s earlier heard
