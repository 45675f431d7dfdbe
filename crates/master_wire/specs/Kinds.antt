-- The kinds of decision and of message, and the byte that each begins with.
use Rattle.std.specs.Prelude.{ℕ, ◌==◌, List, [], ◌∷◌, Option}
use Rattle.std.specs.List.{find}
use Rattle.master_wire.specs.declared.kinds.DecisionKind.{DecisionKind}
use Rattle.master_wire.specs.declared.kinds.DecisionKind.TheVariants.{Detect, BeginMove, BeginJoin, BeginHandover, Advance, Reopen, Take}
use Rattle.master_wire.specs.declared.kinds.MessageKind.{MessageKind}
use Rattle.master_wire.specs.declared.kinds.MessageKind.TheVariants.{Store, Stored, Ask, Tell}

abbrev pub decision_byte : DecisionKind → ℕ
decision_byte Detect = 1
decision_byte BeginMove = 2
decision_byte BeginJoin = 3
decision_byte BeginHandover = 4
decision_byte Advance = 5
decision_byte Reopen = 6
decision_byte Take = 7

abbrev pub decision_kinds : List DecisionKind
decision_kinds = Detect ∷ BeginMove ∷ BeginJoin ∷ BeginHandover ∷ Advance ∷ Reopen ∷ Take ∷ []

-- the kind of decision that a byte stands for
abbrev pub decision_of : ℕ → Option DecisionKind
decision_of byte = find (λ kind. decision_byte kind == byte) decision_kinds

abbrev pub message_byte : MessageKind → ℕ
message_byte Store = 16
message_byte Stored = 17
message_byte Ask = 18
message_byte Tell = 19

abbrev pub message_kinds : List MessageKind
message_kinds = Store ∷ Stored ∷ Ask ∷ Tell ∷ []

-- the kind of message that a byte stands for
abbrev pub message_of : ℕ → Option MessageKind
message_of byte = find (λ kind. message_byte kind == byte) message_kinds
