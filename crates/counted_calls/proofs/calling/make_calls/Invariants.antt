use Rattle.std.proofs.Common.{ℕ, ◌≤◌}
use Rattle.counted_calls.specs.Sessions.{HasMade}
use Rattle.counted_calls.proofs.calling.make_calls.Given as goal

abbrev pub invariant-loop-number : goal.invariant-loop-number
invariant-loop-number g l = record {
  made : (conn : ℕ) → HasMade l.grid l.key conn 0 0 l.initial.session → HasMade l.grid l.key conn l.number l.answered l.session;
  some : (conn : ℕ) × (answered : ℕ) × HasMade l.grid l.key conn l.number answered l.session;
  few : l.answered ≤ l.number;
}
