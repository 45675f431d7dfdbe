-- An entry of a recorded history as the code has it, and what is printed of it.
use Rattle.std.specs.Prelude.{ℕ, suc, List, [], ◌∷◌, Option, option_map, option_and_then, unwrap_or}
use Rattle.grid_base.specs.declared.calls.Request.{Request}
use Rattle.partition_protocol.specs.History.{Entry as ProtocolEntry, Called, Reset as WasReset}
use Rattle.partition_world.specs.declared.entry.Entry.{Entry}
use Rattle.partition_world.specs.declared.entry.Entry.TheVariants as entry
use Rattle.replay_run.specs.declared.connections.CallLines.{CallLines}
use Rattle.replay_run.specs.Printing.{Printed, Call, Reset}
use Rattle.replay_run.specs.Tables.{Table, lines_of}

-- A call that never arrived, which no history has, would have come at line 0.
abbrev pub arrived_in : Option CallLines → ℕ
arrived_in lines = unwrap_or (option_map (λ (l : CallLines). l.arrived) lines) 0

abbrev pub answered_in : Option CallLines → Option ℕ
answered_in lines = option_and_then (λ (l : CallLines). l.answered) lines

-- a call with its lines by the table, and a reset with the line of the next reopening
abbrev pub printed_as : ℕ → ℕ → ℕ → Entry Request → Table → Printed
printed_as partition place reopened (entry.Call id version seen now call reply) table = Call (record {
  partition = partition;
  place = place;
  id = id;
  arrived = arrived_in (lines_of table id);
  answered = answered_in (lines_of table id);
  now = now;
  request = call;
  reply = reply;
})
printed_as partition place reopened (entry.Reset version) table = Reset (record { partition = partition; place = place; line = reopened })

-- how many reopenings are among entries
abbrev pub resets_in : List (ProtocolEntry Request) → ℕ
resets_in [] = 0
resets_in (Called x ∷ es) = resets_in es
resets_in (WasReset version ∷ es) = suc (resets_in es)
