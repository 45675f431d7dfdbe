-- What the code's messages say, as the masters' machine has it.
use Rattle.masters_protocol.specs.Members.{Message, Store, Stored, Ask, Tell}
use Rattle.master_wire.specs.declared.decision.Decision.{Decision}
use Rattle.master_wire.specs.declared.message.MasterMessage.{MasterMessage}
use Rattle.master_wire.specs.declared.message.MasterMessage.TheVariants as code

abbrev pub said : MasterMessage → Message Decision
said (code.Store term log) = Store term log.items
said (code.Stored term length) = Stored term length
said (code.Ask term) = Ask term
said (code.Tell term log) = Tell term log.items
