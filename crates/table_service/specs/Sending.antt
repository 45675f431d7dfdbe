-- What is put into an outbox for messages of the protocol.
use Rattle.std.specs.Prelude.{◌≡◌, ℕ, List, map, All}
use Rattle.partition_table.specs.declared.row.Row.{Row}
use Rattle.partition_protocol.specs.Messages.{Sent}
use Rattle.partition_protocol.specs.Service.{Service, NoMove, telling}
use Rattle.member_wire.specs.Said.{Contents, said_with, written}
use Rattle.member_wire.specs.Spelling.{LengthsFit}
use Rattle.table_service.specs.declared.told.Told.{Told}

-- The outbox has what is written for these messages. None of them has contents, so they are written in one way whatever
-- the contents are
abbrev pub Tells : List (ℕ × List ℕ) → List Sent → Type 0
Tells out sent = (k : Contents) → out ≡ map (written k) sent

-- bytes can carry each of these messages
abbrev pub AllFit : List Sent → Type 0
AllFit sent = (k : Contents) → All (λ s. LengthsFit (said_with k s.message)) sent

-- The outbox has these messages, and bytes can carry each of them
pub record IsTold (out : List (ℕ × List ℕ)) (sent : List Sent) : Type 0 where
  pub told : Tells out sent
  pub fits : AllFit sent

-- The version of this service's row is answered, and the row is told
pub record IsRowTold (members : ℕ) (s : Service) (made : Told ℕ) : Type 0 where
  pub version : made.outcome ≡ s.row.version
  pub told : IsTold made.out (telling members s)

-- a service with this row and these detected members tells the others of the row
abbrev pub row_told : ℕ → Row → List ℕ → List Sent
row_told members row detected = telling members (record { row = row; move = NoMove; detected = detected })
