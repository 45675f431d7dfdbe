-- What became of a message, in the machine's words.
use Rattle.masters_protocol.specs.Members as machine
use Rattle.masters_protocol.specs.Members.{Outcome}
use Rattle.master_member.specs.declared.took.MasterTook.{MasterTook}
use Rattle.master_member.specs.declared.took.MasterTook.TheVariants as took

abbrev pub outcome_of : MasterTook → Outcome
outcome_of took.Stored = machine.StoreTaken
outcome_of took.Counted = machine.Counted
outcome_of took.Asked = machine.Asked
outcome_of took.Told = machine.TellKept
outcome_of took.Other = machine.Other
outcome_of took.Stale = machine.Stale
outcome_of took.Dropped = machine.Dropped
outcome_of took.Nothing = machine.NothingDone
