use Rattle.std.proofs.Common.{◌≡◌, ◌≤◌, length}
use Rattle.std.specs.Vec.{vec_capacity}
use Rattle.session_calls.specs.Passes.{AreTokensFrom}
use Rattle.session_calls.proofs.sharing.split_tokens.Given as goal

abbrev pub invariant-loop-at : goal.invariant-loop-at
invariant-loop-at g l = record {
  long : length l.parts.items ≡ l.at;
  parts : AreTokensFrom l.place l.first l.parts.items;
  stay : l.tokens.items ≡ l.initial.tokens.items;
  room : l.count ≤ vec_capacity l.parts;
}
