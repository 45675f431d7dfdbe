use Rattle.message_frames.proofs.SoFar.{fault_outside}
use Rattle.message_frames.proofs.Staying.{faults_stay, heard_messages_stay}
use Rattle.message_frames.proofs.laws.a_fault_stays.Goals as goal

pub returns-clause-fault : goal.returns-clause-fault
returns-clause-fault c = faults_stay

pub returns-clause-messages : goal.returns-clause-messages
returns-clause-messages c = heard_messages_stay

pub returns-clause-outside : goal.returns-clause-outside
returns-clause-outside c = fault_outside
