-- A part that can't be read is told apart from the other causes.
use Rattle.std.proofs.Common.{◌≢◌, Option, Some, None, Err}
use Rattle.std.specs.Option.{ok_or}
use Rattle.grid_base.specs.declared.refusal.CallRefused.TheVariants.{UnknownType, BadCall, Memory}

pub bad_not_unknown : {A : Type 0} (read : Option A) → ok_or read BadCall ≢ Err UnknownType
bad_not_unknown (Some x) e = cc
bad_not_unknown None e = cc

pub bad_not_memory : {A : Type 0} (read : Option A) → ok_or read BadCall ≢ Err Memory
bad_not_memory (Some x) e = cc
bad_not_memory None e = cc
