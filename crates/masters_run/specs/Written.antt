-- Decisions as the masters of the code keep them: a message that the table service takes is kept as its bytes.
use Rattle.std.specs.Prelude.{ℕ, List, [], map}
use Rattle.member_wire.specs.Said.{Contents, said_with}
use Rattle.member_wire.specs.Spelling.{spelling}
use Rattle.partition_protocol.specs.Messages.{Message}
use Rattle.masters_protocol.specs.Machine.{Event, Told, Crash, Propose, Deliver, Lose, Resend}
use Rattle.masters_world.specs.Decisions.{Decision}
use Rattle.masters_world.specs.Decisions as decision
use Rattle.master_wire.specs.declared.decision.Decision.{Decision as Written}
use Rattle.master_wire.specs.declared.decision.Decision.TheVariants as written

-- Nothing goes with what is said to the table service: that a member has joined, or that the primary is frozen.
abbrev pub no_contents : Contents
no_contents = record { snapshot = λ version count. []; effect = λ version number. [] }

abbrev pub bytes_said : Message → List ℕ
bytes_said message = spelling (said_with no_contents message)

abbrev pub as_written : Decision → Written
as_written (decision.Detect m) = written.Detect m
as_written (decision.BeginMove from to) = written.BeginMove from to
as_written (decision.BeginJoin to) = written.BeginJoin to
as_written (decision.BeginHandover from to) = written.BeginHandover from to
as_written decision.Advance = written.Advance
as_written decision.Reopen = written.Reopen
as_written (decision.Take from place message) = written.Take from place (bytes_said message)

abbrev pub written_event : Event Decision → Event Written
written_event (Told m x) = Told m x
written_event (Crash m) = Crash m
written_event (Propose d) = Propose (as_written d)
written_event (Deliver f t i) = Deliver f t i
written_event (Lose f t i) = Lose f t i
written_event (Resend m) = Resend m

abbrev pub written_events : List (Event Decision) → List (Event Written)
written_events events = map written_event events
