-- What executing a call gives.
use Rattle.std.specs.Prelude.{◌≡◌, ℕ, option_map}
use Rattle.grid_base.specs.declared.calls.Executed.{Executed}
use Rattle.grid_base.specs.declared.calls.GridCall.{GridCall}
use Rattle.grid_base.specs.declared.calls.Request.{Request}
use Rattle.fixed_fields.specs.Replies.{reply_bytes}
use Rattle.object_store.specs.Records.{Record}
use Rattle.object_store.specs.Spelling.{effect_bytes}
use Rattle.call_engine.specs.Calls.{Settings, answer}
use Rattle.call_engine.specs.Effects.{effect_on}
use Rattle.call_engine.specs.Changes.{change_on}

-- the reply to a request with that call on what is kept of its object, the effect, and the change of a value
pub record IsExecution (settings : Settings) (kept : Record) (r : Request) (c : GridCall) (now : ℕ) (made : Executed) : Type 0 where
  pub reply : made.reply ≡ reply_bytes r.kind r.correlation (answer settings kept c now)
  pub effect : made.effect ≡ option_map effect_bytes (effect_on settings kept c now)
  pub change : made.change ≡ change_on settings kept c now
