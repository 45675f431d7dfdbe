-- Reading a message from left to right: the message and the place behind it, or the first fault.
use Rattle.std.specs.Prelude.{ℕ, zero, suc, Bool, ◌&&◌, ◌||◌, ◌==◌, nat_le, if◌then◌else◌, List, [], ◌∷◌, ◌++◌, length, take, Option, Some, None, Result, Ok, Err}
use Rattle.std.specs.Int.{w32, from_le_bytes}
use Rattle.masters_protocol.specs.Members.{Message, Store, Stored, Ask, Tell}
use Rattle.wire_parts.specs.declared.refusal.WireRefused.{WireRefused}
use Rattle.wire_parts.specs.declared.refusal.WireRefused.TheVariants.{Tag}
use Rattle.wire_parts.specs.Places.{Place, start}
use Rattle.wire_parts.specs.Parts.{◌>>=◌, byte_at, number_at, sized_at, end_at}
use Rattle.master_wire.specs.declared.decision.Decision.{Decision}
use Rattle.master_wire.specs.declared.decision.Decision.TheVariants.{Detect, BeginMove, BeginJoin, BeginHandover, Advance, Reopen, Take}
use Rattle.master_wire.specs.declared.kinds.DecisionKind.{DecisionKind}
use Rattle.master_wire.specs.declared.kinds.DecisionKind.TheVariants as decisions
use Rattle.master_wire.specs.declared.kinds.MessageKind.{MessageKind}
use Rattle.master_wire.specs.declared.kinds.MessageKind.TheVariants as messages
use Rattle.master_wire.specs.Kinds.{decision_of, message_byte, message_of}

-- a kind, whose byte has to be that of one
abbrev pub known : {K : Type 0} → ℕ → Option K → Place → Result (K × Place) WireRefused
known at None p = Err (Tag at)
known at (Some kind) p = Ok (kind, p)

abbrev pub kind_at : {K : Type 0} → (ℕ → Option K) → Place → Result (K × Place) WireRefused
kind_at kind_of p = do
  byte ← byte_at p
  known p.at (kind_of byte.0) byte.1

-- decisions

abbrev pub decision_kind_at : Place → Result (DecisionKind × Place) WireRefused
decision_kind_at = kind_at decision_of

unfoldable pub detect_at : Place → Result (Decision × Place) WireRefused
detect_at p = do
  member ← byte_at p
  Ok (Detect member.0, member.1)

unfoldable pub begin_move_at : Place → Result (Decision × Place) WireRefused
begin_move_at p = do
  from ← byte_at p
  to ← byte_at from.1
  Ok (BeginMove from.0 to.0, to.1)

unfoldable pub begin_join_at : Place → Result (Decision × Place) WireRefused
begin_join_at p = do
  to ← byte_at p
  Ok (BeginJoin to.0, to.1)

unfoldable pub begin_handover_at : Place → Result (Decision × Place) WireRefused
begin_handover_at p = do
  from ← byte_at p
  to ← byte_at from.1
  Ok (BeginHandover from.0 to.0, to.1)

unfoldable pub take_at : Place → Result (Decision × Place) WireRefused
take_at p = do
  from ← byte_at p
  place ← number_at w32 from.1
  message ← sized_at place.1
  Ok (Take from.0 place.0 message.0, message.1)

abbrev pub decision_fields_at : DecisionKind → Place → Result (Decision × Place) WireRefused
decision_fields_at decisions.Detect p = detect_at p
decision_fields_at decisions.BeginMove p = begin_move_at p
decision_fields_at decisions.BeginJoin p = begin_join_at p
decision_fields_at decisions.BeginHandover p = begin_handover_at p
decision_fields_at decisions.Advance p = Ok (Advance, p)
decision_fields_at decisions.Reopen p = Ok (Reopen, p)
decision_fields_at decisions.Take p = take_at p

unfoldable pub decision_at : Place → Result (Decision × Place) WireRefused
decision_at p = do
  kind ← decision_kind_at p
  decision_fields_at kind.0 kind.1

-- so many more decisions of a log that has these already
unfoldable pub decisions_at : List Decision → ℕ → Place → Result (List Decision × Place) WireRefused
decisions_at log zero p = Ok (log, p)
decisions_at log (suc count) p = do
  decision ← decision_at p
  decisions_at (log ++ decision.0 ∷ []) count decision.1

unfoldable pub log_at : Place → Result (List Decision × Place) WireRefused
log_at p = do
  count ← number_at w32 p
  decisions_at [] count.0 count.1

-- messages

abbrev pub message_kind_at : Place → Result (MessageKind × Place) WireRefused
message_kind_at = kind_at message_of

unfoldable pub store_at : Place → Result (Message Decision × Place) WireRefused
store_at p = do
  term ← byte_at p
  log ← log_at term.1
  Ok (Store term.0 log.0, log.1)

unfoldable pub stored_at : Place → Result (Message Decision × Place) WireRefused
stored_at p = do
  term ← byte_at p
  length ← number_at w32 term.1
  Ok (Stored term.0 length.0, length.1)

unfoldable pub ask_at : Place → Result (Message Decision × Place) WireRefused
ask_at p = do
  term ← byte_at p
  Ok (Ask term.0, term.1)

unfoldable pub tell_at : Place → Result (Message Decision × Place) WireRefused
tell_at p = do
  term ← byte_at p
  log ← log_at term.1
  Ok (Tell term.0 log.0, log.1)

abbrev pub message_fields_at : MessageKind → Place → Result (Message Decision × Place) WireRefused
message_fields_at messages.Store p = store_at p
message_fields_at messages.Stored p = stored_at p
message_fields_at messages.Ask p = ask_at p
message_fields_at messages.Tell p = tell_at p

unfoldable pub message_at : Place → Result (Message Decision × Place) WireRefused
message_at p = do
  kind ← message_kind_at p
  message_fields_at kind.0 kind.1

-- the message that the bytes are, all of them
unfoldable pub reading : List ℕ → Result (Message Decision) WireRefused
reading bytes = do
  message ← message_at (start bytes)
  end ← end_at message.1
  Ok message.0

-- how many decisions the log of a message has, by its first bytes

abbrev pub has_log : ℕ → Bool
has_log kind = (kind == message_byte messages.Store) || (kind == message_byte messages.Tell)

abbrev pub log_length : List ℕ → ℕ
log_length [] = 0
log_length (kind ∷ []) = 0
log_length (kind ∷ term ∷ rest) = if has_log kind && nat_le 4 (length rest) then from_le_bytes w32 (take 4 rest) else 0
