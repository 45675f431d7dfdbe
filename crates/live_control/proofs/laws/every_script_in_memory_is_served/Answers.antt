-- By what was read and what is left.
use Rattle.std.proofs.Common.{ℕ, List}
use Rattle.grid_cli.proofs.MemoryScripts.{reads, at_script}
use Rattle.live_control.specs.Serving.{ServesAs}
use Rattle.live_control.proofs.laws.every_script_in_memory_is_served.Goals as goal

pub returns : goal.returns
returns c = λ grid members status count first now before after old new some going read served.
    let of = at_script (λ (script read : List ℕ). ServesAs grid members script old new status read served.written) first now going (reads count first now some read) served.script in
    (of.0, served.written, of.1, served.written_is, of.2)
