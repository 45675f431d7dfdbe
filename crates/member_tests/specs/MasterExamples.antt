-- Messages between masters, which the definitions of `master_wire` compute: their bytes are those of the table of docs/MASTERS.md.
use Rattle.std.specs.Prelude.{◌≡◌, ℕ, List, [], ◌∷◌, ◌++◌, map, Ok, Err, refl}
use Rattle.masters_protocol.specs.Members.{Message, Store, Stored, Ask, Tell}
use Rattle.wire_parts.specs.declared.refusal.WireRefused.{WireRefused}
use Rattle.wire_parts.specs.declared.refusal.WireRefused.TheVariants.{Short, Tag, Rest}
use Rattle.wire_parts.specs.Parts.{sized_at}
use Rattle.master_wire.specs.declared.decision.Decision.{Decision}
use Rattle.master_wire.specs.declared.decision.Decision.TheVariants.{Detect, BeginMove, BeginJoin, BeginHandover, Advance, Reopen, Take}
use Rattle.master_wire.specs.Spelling.{spelling}
use Rattle.master_wire.specs.Reading.{detect_at, begin_move_at, begin_join_at, begin_handover_at, take_at, decision_at, decisions_at, log_at, store_at, stored_at, ask_at, tell_at, message_at, reading, log_length}

-- a number below 256 in four bytes, the lowest first
abbrev four : ℕ → List ℕ
four byte = byte ∷ 0 ∷ 0 ∷ 0 ∷ []

-- one decision of each kind
abbrev log : List Decision
log = Detect 2 ∷ BeginMove 0 1 ∷ BeginJoin 2 ∷ BeginHandover 1 0 ∷ Advance ∷ Reopen ∷ Take 2 257 (5 ∷ 2 ∷ 0 ∷ 0 ∷ 0 ∷ 1 ∷ []) ∷ []

abbrev log_bytes : List ℕ
log_bytes = (1 ∷ 2 ∷ 2 ∷ 0 ∷ 1 ∷ 3 ∷ 2 ∷ 4 ∷ 1 ∷ 0 ∷ 5 ∷ 6 ∷ 7 ∷ 2 ∷ 1 ∷ 1 ∷ 0 ∷ 0 ∷ []) ++ four 6 ++ 5 ∷ 2 ∷ 0 ∷ 0 ∷ 0 ∷ 1 ∷ []

-- one message of each kind, with its bytes
abbrev messages : List (Message Decision × List ℕ)
messages =
    (Store 1 (BeginMove 2 1 ∷ Advance ∷ []), 16 ∷ 1 ∷ four 2 ++ 2 ∷ 2 ∷ 1 ∷ 5 ∷ [])
    ∷ (Stored 1 2, 17 ∷ 1 ∷ four 2)
    ∷ (Ask 3, 18 ∷ 3 ∷ [])
    ∷ (Tell 3 log, 19 ∷ 3 ∷ four 7 ++ log_bytes)
    ∷ []

messages_are_spelled : map (λ (case : Message Decision × List ℕ). spelling case.0) messages ≡ map (λ (case : Message Decision × List ℕ). case.1) messages
messages_are_spelled = refl

messages_are_read : map (λ (case : Message Decision × List ℕ). reading case.1) messages ≡ map (λ (case : Message Decision × List ℕ). Ok case.0) messages
unfolding sized_at detect_at begin_move_at begin_join_at begin_handover_at take_at decision_at decisions_at log_at store_at stored_at ask_at tell_at message_at reading
messages_are_read = refl

a_log_is_counted_without_reading_it : map (λ (case : Message Decision × List ℕ). log_length case.1) messages ≡ 2 ∷ 0 ∷ 0 ∷ 7 ∷ []
a_log_is_counted_without_reading_it = refl

abbrev Refused : List (List ℕ × WireRefused) → Type 0
Refused cases = map (λ (case : List ℕ × WireRefused). reading case.0) cases ≡ map (λ (case : List ℕ × WireRefused). Err case.1) cases

-- nothing, a kind that there is not, a count that ends early, a decision of no kind, and bytes after the message
a_refusal_names_the_first_place_that_fails : Refused
    (([], Short 0) ∷ (20 ∷ 1 ∷ [], Tag 0) ∷ (16 ∷ 1 ∷ 2 ∷ 0 ∷ 0 ∷ [], Short 2) ∷ (16 ∷ 1 ∷ four 1 ++ 8 ∷ [], Tag 6) ∷ (18 ∷ 1 ∷ 0 ∷ [], Rest 2) ∷ [])
unfolding sized_at detect_at begin_move_at begin_join_at begin_handover_at take_at decision_at decisions_at log_at store_at stored_at ask_at tell_at message_at reading
a_refusal_names_the_first_place_that_fails = refl
