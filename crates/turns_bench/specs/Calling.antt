-- What a client that makes one call for each connection holds.
use Rattle.std.specs.Prelude.{◌≡◌, ℕ, ◌≤◌, false, List, [], Some, slice_get}
use Rattle.hand_cell.specs.declared.names.Numbers.TheVariants.{AllBut}
use Rattle.hand_cell.specs.Names.{listed}
use Rattle.hand_cell.specs.Told.{Told}
use Rattle.job_queues.specs.Roster.{roster_of}
use Rattle.job_queues.specs.Tokens.{Token}
use Rattle.partition_threads.specs.declared.workplace.Workplace.{Workplace}
use Rattle.partition_threads.specs.Workplaces.{IsTokenAt}
use Rattle.turns_bench.specs.declared.echo.Echo.{Echo}
use Rattle.turns_bench.specs.declared.echo.Asked.{Asked}

abbrev pub Place : Type 0
Place = Workplace Echo (Unit {0}) Asked (Unit {0})

-- the pass of the place's cell has seen nothing, and has the names of all connections from this one on
pub record IsBase (place : Place) (next : ℕ) (pass : Told Asked) : Type 0 where
  pub cell : slice_get (roster_of place.cells.items).tables 0 ≡ Some pass.table
  pub given : List ℕ
  pub numbers : pass.names.numbers ≡ AllBut given
  pub unlisted : (n : ℕ) → next ≤ n → listed n given ≡ false
  pub unseen : pass.seen ≡ []

-- a token of the first worker's queue, and the pass from which those of the calls are split
pub record MayCall (place : Place) (token : Token (Unit {0})) (base : Told Asked) : Type 0 where
  pub token_is : IsTokenAt place 0 token
  pub base_is : IsBase place 0 base
