-- A refusal, as the code writes it.
use Rattle.std.proofs.Common.{◌≡◌, ℕ, List, Option, Some, None, pos, ap, sym, ◌∙◌}
use Rattle.std.specs.Prelude.{ℤ}
use Rattle.grid_base.specs.declared.calls.Request.{Request}
use Rattle.grid_base.specs.declared.names.CallId.{CallId}
use Rattle.replay_run.specs.declared.calls.Refusal.{Refusal}
use Rattle.std.specs.Int.{w32, cast_signed}
use Rattle.fixed_fields.specs.Responses.{error_bytes}
use Rattle.replay_run.specs.WorldCalls.{refusals}
use Rattle.replay_run.specs.LineTold.{message_told, all_told}

pub refusal_told : (line : ℕ) (id : CallId) (correlation : ℤ) (r : Refusal) (refused : Option Refusal) (bytes : List ℕ) (request : Request) → request.id ≡ id → request.correlation ≡ correlation
    → refused ≡ Some r → bytes ≡ error_bytes correlation r.code (cast_signed w32 r.version) (pos 0) → message_told (record { conn = id.conn; line = line; bytes = bytes; answers = None; refuses = Some id }) ≡ all_told (refusals line request refused)
refusal_told line id correlation r refused bytes request its asked is written =
    (λ i. message_told (record { conn = (sym its i).conn; line = line; bytes = whole i; answers = None; refuses = Some (sym its i) }))
    ∙ ap (λ o. all_told (refusals line request o)) (sym is)
  where
    whole : bytes ≡ error_bytes request.correlation r.code (cast_signed w32 r.version) (pos 0)
    whole = written ∙ ap (λ (z : ℤ). error_bytes z r.code (cast_signed w32 r.version) (pos 0)) (sym asked)
