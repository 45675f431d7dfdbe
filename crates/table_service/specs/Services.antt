-- What the table service's part of a partition is, in the protocol's words.
use Rattle.std.specs.Prelude.{ℕ}
use Rattle.partition_protocol.specs.Service.{Service as ProtocolService}
use Rattle.table_service.specs.declared.service.Service.{Service}
use Rattle.table_service.specs.Phases.{phase_step}

-- the newest row, the move under way, and who is detected
abbrev pub service_of : Service → ProtocolService
service_of s = record { row = (phase_step s.phase).row; move = (phase_step s.phase).move; detected = s.detected.items }

-- what never changes: which partition it is, of how many members, and how many backups a reopened row gets
pub record Setup : Type 0 where
  pub partition : ℕ
  pub members : ℕ
  pub backups : ℕ

abbrev pub setup_of : Service → Setup
setup_of s = record { partition = s.partition; members = s.members; backups = s.backups }

-- members have the numbers below this one, which is the service's own
abbrev pub service_number : Service → ℕ
service_number s = s.members
