-- What the caller of the example holds.
use Rattle.std.specs.Prelude.{◌≡◌, ℕ, true, [], Some, slice_get}
use Rattle.hand_cell.specs.declared.names.Key.TheVariants.{Call}
use Rattle.hand_cell.specs.Names.{has}
use Rattle.hand_cell.specs.Told.{Told}
use Rattle.job_queues.specs.Roster.{roster_of}
use Rattle.partition_threads.specs.declared.workplace.Workplace.{Workplace}
use Rattle.partition_threads.specs.Workplaces.{IsTokenAt}
use Rattle.job_examples.specs.declared.relay.Relay.{Relay}
use Rattle.job_examples.specs.declared.relay.Event.{Event}
use Rattle.job_queues.specs.Terms.{Terms}
use Rattle.partition_threads.specs.declared.starting.Awaited.{Awaited}
use Rattle.partition_threads.specs.Starting.{IsAwaited}
use Rattle.job_examples.specs.declared.serving.Caller.{Caller}
use Rattle.job_examples.specs.declared.serving.Opened.{Opened}
use Rattle.job_examples.specs.Relays.{first_call}

abbrev pub Place : Type 0
Place = Workplace Relay (Unit {0}) Event (Unit {0})

-- a pass of the cell at partition 0 with this connection's name, which has seen nothing
pub record IsNewPass (place : Place) (conn : ℕ) (pass : Told Event) : Type 0 where
  pub cell : slice_get (roster_of place.cells.items).tables 0 ≡ Some pass.table
  pub named : has pass.names (Call (first_call conn)) ≡ true
  pub unused : pass.seen ≡ []

-- tokens of the queues of workers 0 and 4, and a pass of each connection
pub record MayCall (place : Place) (caller : Caller) : Type 0 where
  pub first : IsTokenAt place 0 caller.first
  pub second : IsTokenAt place 4 caller.second
  pub one : IsNewPass place 1 caller.one
  pub two : IsNewPass place 2 caller.two

-- the place is open to its caller and to workers 0 and 4
pub record IsOpened (opened : Opened) : Type 0 where
  pub caller : MayCall opened.place opened.caller
  pub first : IsTokenAt opened.place 0 opened.first
  pub second : IsTokenAt opened.place 4 opened.second

-- an answer is awaited on some terms
abbrev pub IsUnderWay : Awaited Relay (Unit {0}) Event (Unit {0}) → Type 0
IsUnderWay awaited = (terms : Terms (Unit {0}) Event) × IsAwaited terms awaited
