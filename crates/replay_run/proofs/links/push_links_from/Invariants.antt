use Rattle.std.proofs.Common.{◌≡◌, ℕ, ◌++◌, map}
use Rattle.partition_protocol.specs.Service.{numbers_below}
use Rattle.partition_world.specs.declared.Link.{Link}
use Rattle.replay_run.proofs.links.push_links_from.Given as goal

-- the links to the ends so far were added
abbrev pub invariant-loop-to : goal.invariant-loop-to
invariant-loop-to l = l.links.items ≡ l.initial.links.items ++ map (λ (to : ℕ). let x : Link = record { from = l.from; to = to } in x) (numbers_below l.to)
