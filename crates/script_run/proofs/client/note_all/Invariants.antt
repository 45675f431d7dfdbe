use Rattle.std.proofs.Common.{List}
use Rattle.script_run.specs.NearClients.{NearClient}
use Rattle.script_run.specs.Outputs.{messages_in}
use Rattle.script_run.specs.Grids.{AreNear}
use Rattle.script_run.proofs.Nears.{noted}
use Rattle.script_run.proofs.client.note_all.Given as goal

-- so many of them have the line's messages to read
abbrev pub invariant-loop-near : goal.invariant-loop-near
invariant-loop-near l = (all : List NearClient) → AreNear l.fn.nears.items all → AreNear l.near-items (noted (messages_in l.fn.told) l.near-index all)
