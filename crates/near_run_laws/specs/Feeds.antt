-- A near client that reads on goes with the machine.
use Rattle.std.specs.Prelude.{◌≡◌, ℕ, List, [], ◌∷◌, ◌++◌, Option, Some, None}
use Rattle.frame_codec.specs.declared.frames.Frame.{Frame}
use Rattle.call_engine.specs.Calls.{Settings}
use Rattle.near_protocol.specs.Client.{Said}
use Rattle.grid_client.specs.States.{State}
use Rattle.grid_client.specs.Hearing.{told_by_piece}
use Rattle.replay_run.specs.Runs.{Run}
use Rattle.near_run_laws.specs.Readings.{messages_sent, HearsNext}
use Rattle.near_run_laws.specs.Following.{Machine}
use Rattle.near_run_laws.specs.NearRuns.{IsNearRun}
use Rattle.near_run_laws.specs.Clients.{GoesWith}
use Rattle.near_run_laws.specs.Pieces.{AllMean}

-- what is said, of what messages mean
abbrev pub all_said : List (Option (Said (List ℕ))) → List (Said (List ℕ))
all_said [] = []
all_said (None ∷ more) = all_said more
all_said (Some said ∷ more) = said ∷ all_said more

-- The machine has heard what the client was handed, and so has heard all of this. It goes with the client.
pub record HasRead (settings : Settings) (client : ℕ) (name : List ℕ) (r : Run) (s : Machine) (earlier : List (List ℕ)) (heard : List (Said (List ℕ))) (after : State) (rest : List (Said (List ℕ))) : Type 0 where
  pub machine : Machine
  pub run : IsNearRun settings client name r machine earlier heard
  pub conn : machine.conn ≡ s.conn
  pub goes : GoesWith s.conn name after machine.client
  pub unread : machine.unread ≡ rest
  pub number : machine.next_number ≡ s.next_number

-- Where the messages that a piece completes mean what the machine's client has to read next, a client that is fed the piece goes on with it.
abbrev pub EveryFeedIsFollowed : Type 0
EveryFeedIsFollowed = (settings : Settings) (client : ℕ) (name : List ℕ) (r : Run) (s : Machine) (earlier : List (List ℕ)) (heard : List (Said (List ℕ))) (st : State) (sent : List (List Frame)) (text piece : List ℕ) (says : List (Option (Said (List ℕ)))) (rest : List (Said (List ℕ)))
    → IsNearRun settings client name r s earlier heard → GoesWith s.conn name st s.client → (h : HearsNext sent text piece) → AllMean name (messages_sent h.new) says → s.unread ≡ all_said says ++ rest
    → HasRead settings client name r s earlier (heard ++ all_said says) (told_by_piece s.conn text piece st).after rest
