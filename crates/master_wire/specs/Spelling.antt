-- The one spelling of each decision and of each message, and which of them have one.
use Rattle.std.specs.Prelude.{ℕ, List, [], ◌∷◌, ◌++◌, length}
use Rattle.std.specs.List.{flat_map, AllByRecursion}
use Rattle.masters_protocol.specs.Members.{Message, Store, Stored, Ask, Tell}
use Rattle.wire_parts.specs.Parts.{IsByte, IsNumber, number, sized}
use Rattle.master_wire.specs.declared.decision.Decision.{Decision}
use Rattle.master_wire.specs.declared.decision.Decision.TheVariants.{Detect, BeginMove, BeginJoin, BeginHandover, Advance, Reopen, Take}
use Rattle.master_wire.specs.declared.kinds.DecisionKind.{DecisionKind}
use Rattle.master_wire.specs.declared.kinds.DecisionKind.TheVariants as decisions
use Rattle.master_wire.specs.declared.kinds.MessageKind.{MessageKind}
use Rattle.master_wire.specs.declared.kinds.MessageKind.TheVariants as messages
use Rattle.master_wire.specs.Kinds.{decision_byte, message_byte}

-- a decision: its kind, and then its fields

abbrev pub kind_of_decision : Decision → DecisionKind
kind_of_decision (Detect member) = decisions.Detect
kind_of_decision (BeginMove from to) = decisions.BeginMove
kind_of_decision (BeginJoin to) = decisions.BeginJoin
kind_of_decision (BeginHandover from to) = decisions.BeginHandover
kind_of_decision Advance = decisions.Advance
kind_of_decision Reopen = decisions.Reopen
kind_of_decision (Take from place message) = decisions.Take

abbrev pub decision_fields : Decision → List ℕ
decision_fields (Detect member) = member ∷ []
decision_fields (BeginMove from to) = from ∷ to ∷ []
decision_fields (BeginJoin to) = to ∷ []
decision_fields (BeginHandover from to) = from ∷ to ∷ []
decision_fields Advance = []
decision_fields Reopen = []
decision_fields (Take from place message) = from ∷ (number place ++ sized message)

abbrev pub decision_bytes : Decision → List ℕ
decision_bytes d = decision_byte (kind_of_decision d) ∷ decision_fields d

-- a log: how many decisions it has, and each of them
abbrev pub log_bytes : List Decision → List ℕ
log_bytes log = number (length log) ++ flat_map decision_bytes log

-- a message: its kind, its term, and then what else it says

abbrev pub kind_of_message : Message Decision → MessageKind
kind_of_message (Store term log) = messages.Store
kind_of_message (Stored term length') = messages.Stored
kind_of_message (Ask term) = messages.Ask
kind_of_message (Tell term log) = messages.Tell

abbrev pub message_fields : Message Decision → List ℕ
message_fields (Store term log) = term ∷ log_bytes log
message_fields (Stored term length') = term ∷ number length'
message_fields (Ask term) = term ∷ []
message_fields (Tell term log) = term ∷ log_bytes log

abbrev pub spelling : Message Decision → List ℕ
spelling m = message_byte (kind_of_message m) ∷ message_fields m

-- What has a spelling: numbers within their ranges.

abbrev pub IsSpelledDecision : Decision → Type 0
IsSpelledDecision (Detect member) = IsByte member
IsSpelledDecision (BeginMove from to) = IsByte from × IsByte to
IsSpelledDecision (BeginJoin to) = IsByte to
IsSpelledDecision (BeginHandover from to) = IsByte from × IsByte to
IsSpelledDecision Advance = Unit {0}
IsSpelledDecision Reopen = Unit {0}
IsSpelledDecision (Take from place message) = IsByte from × IsNumber place × IsNumber (length message)

abbrev pub AreSpelled : List Decision → Type 0
AreSpelled log = AllByRecursion IsSpelledDecision log

abbrev pub IsSpelled : Message Decision → Type 0
IsSpelled (Store term log) = IsByte term × IsNumber (length log) × AreSpelled log
IsSpelled (Stored term length') = IsByte term × IsNumber length'
IsSpelled (Ask term) = IsByte term
IsSpelled (Tell term log) = IsByte term × IsNumber (length log) × AreSpelled log
