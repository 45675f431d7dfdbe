use Rattle.std.proofs.Common.{◌≡◌}
use Rattle.masters_protocol.specs.Members.{longest}
use Rattle.master_member.proofs.tells.Tells.into_longest.Given as goal

-- what is left to look at gives the longest of all
abbrev pub invariant-loop-told : goal.invariant-loop-told
invariant-loop-told l = longest l.longest.items l.told-iterator.rest.items ≡ longest l.fn.own.items l.fn.self
