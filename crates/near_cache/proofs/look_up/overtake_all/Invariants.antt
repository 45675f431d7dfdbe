use Rattle.std.proofs.Common.{◌≡◌, ℕ, ◌<◌, ◌≤◌, option_map}
use Rattle.slab.specs.Slab.{get}
use Rattle.near_cache.specs.Scopes.{is_covered}
use Rattle.near_cache.specs.LookUps.{overtaking}
use Rattle.near_cache.proofs.look_up.overtake_all.Given as goal

abbrev pub invariant-loop-number : goal.invariant-loop-number
invariant-loop-number l = record {
  passed : (n : ℕ) → n < l.number → get l.waiting n ≡ option_map (overtaking (is_covered l.scope) l.by) (get l.initial.waiting n);
  ahead : (n : ℕ) → l.number ≤ n → get l.waiting n ≡ get l.initial.waiting n;
}
