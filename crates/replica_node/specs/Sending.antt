-- What a node writes: the contents that its messages carry, and lists of messages that were written one after the other.
use Rattle.std.specs.Prelude.{◌≡◌, ℕ, List, [], ◌++◌, map, Option, Some, unwrap_or, All}
use Rattle.partition_protocol.specs.Messages.{Message, Sent}
use Rattle.member_wire.specs.Said.{Contents, said_with, written}
use Rattle.member_wire.specs.Spelling.{LengthsFit}
use Rattle.primary_hold.specs.Rings.{kept}

-- a snapshot is of the state at hand, whatever names it, and an effect is one of the newest effects, of which the last has the number `count`
abbrev pub carried : {State : Type 0} → (State → List ℕ) → State → List (List ℕ) → ℕ → Contents
carried snapshot_of state ring count = record {
  snapshot = λ version counted. snapshot_of state;
  effect = λ version number. unwrap_or (kept ring count number) [];
}

-- the lengths of what the message carries can be written down
abbrev pub Fits : Contents → Sent → Type 0
Fits k sent = LengthsFit (said_with k sent.message)

-- the messages were written in order behind those that there were, and each fits
pub record Sends (k : Contents) (sent : List Sent) (old new : List (ℕ × List ℕ)) : Type 0 where
  pub out : new ≡ old ++ map (written k) sent
  pub fits : All (Fits k) sent

-- messages to one end
abbrev pub all_to : ℕ → List Message → List Sent
all_to to messages = map (λ m. record { to = to; message = m }) messages

-- a snapshot that was made before is of the state at hand
abbrev pub IsOf : List ℕ → Option (List ℕ) → Type 0
IsOf snapshot made = (bytes : List ℕ) → made ≡ Some bytes → bytes ≡ snapshot
