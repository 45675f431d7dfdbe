-- The events of an echo.
use Rattle.std.specs.Prelude.{ℕ}
use Rattle.grid_base.specs.declared.names.CallId.{CallId}
use Rattle.grid_base.specs.declared.calls.Request.{Request}
use Rattle.hand_cell.specs.declared.names.Key.{Key}
use Rattle.hand_cell.specs.declared.names.Key.TheVariants.{Call}
use Rattle.turns_bench.specs.declared.echo.Asked.{Asked}

abbrev pub key_of : Asked → Key
key_of event = Call event.call

abbrev pub asked_of : Request → Asked
asked_of request = record { call = request.id }

-- the first call of a connection
abbrev pub first_call : ℕ → CallId
first_call conn = record { conn = conn; number = 0 }
