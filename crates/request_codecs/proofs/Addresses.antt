-- A request under another correlation.
use Rattle.std.proofs.Common.{◌≡◌, ℕ, ◌≤◌, ℤ, length, List, ◌++◌, take, drop, refl, ap, ◌∙◌, arith}
use Rattle.std.proofs.lemmas.List.{drop-drop}
use Rattle.grid_base.specs.declared.calls.GridCall.{GridCall}
use Rattle.grid_base.specs.declared.calls.GridCall.TheVariants.{Map, Queue}
use Rattle.fixed_fields.specs.Fields.{int64_bytes}
use Rattle.request_codecs.specs.Readdressing.{readdressed}
use Rattle.request_codecs.specs.Requests.{request_bytes}
use Rattle.request_codecs.specs.Laws.{EveryRequestIsReaddressed}

long : (correlation : ℤ) (partition : ℕ) (call : GridCall) → 18 ≤ length (request_bytes correlation partition call)
long correlation partition (Map call) = omega arith
long correlation partition (Queue call) = omega arith

again : (correlation other : ℤ) (partition : ℕ) (call : GridCall) → readdressed other (request_bytes correlation partition call) ≡ request_bytes other partition call
again correlation other partition (Map call) = refl
again correlation other partition (Queue call) = refl

pub every_request_is_readdressed : EveryRequestIsReaddressed
every_request_is_readdressed correlation other partition call = (long correlation partition call, again correlation other partition call)

-- what is behind the correlation, in two steps
pub parts_joined : (again request : List ℕ) (correlation : ℤ) → again ≡ (take 10 request ++ int64_bytes correlation) ++ drop 8 (drop 10 request) → again ≡ readdressed correlation request
parts_joined again request correlation is = is ∙ ap (λ (behind : List ℕ). (take 10 request ++ int64_bytes correlation) ++ behind) (drop-drop 8 10 request)
