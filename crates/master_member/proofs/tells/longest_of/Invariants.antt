use Rattle.std.proofs.Common.{◌≡◌, drop}
use Rattle.masters_protocol.specs.Members.{longest}
use Rattle.master_member.proofs.tells.longest_of.Given as goal

-- what is left to look at gives the longest of all
abbrev pub invariant-loop-told : goal.invariant-loop-told
invariant-loop-told l = longest l.longest (drop l.told-index l.tells) ≡ longest l.own l.tells
