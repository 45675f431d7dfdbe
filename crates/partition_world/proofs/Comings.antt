-- What is known where an event may come next.
use Rattle.std.proofs.Common.{ℕ, ◌+◌, ◌<◌, ◌^◌, List, length, Option, arith}
use Rattle.partition_protocol.specs.World.{World as Machine}
use Rattle.partition_protocol.specs.Events.{Event, happens}
use Rattle.partition_protocol.specs.WellFormed.{IsWellFormed}
use Rattle.partition_protocol.proofs.WellFormed.{every_run_is_well_formed}
use Rattle.partition_protocol.proofs.Answers.{Single}
use Rattle.table_service.specs.Services.{Setup}
use Rattle.partition_world.specs.declared.world.World.{World}
use Rattle.grid_base.specs.Shelves.{Meaning}
use Rattle.partition_world.specs.Shelves.{IsShelf}
use Rattle.partition_world.specs.Worlds.{setup_of, run_of, Agrees, Comes}
use Rattle.partition_world.proofs.EffectsLead.{Stood, run_stood, next_stood}
use Rattle.partition_world.proofs.HeldAnswers.{IsNewlyNamed, newly_named, answers_single}
use Rattle.partition_protocol.specs.Recorded.{Recorded}

module _ {S R Plan C State : Type 0} (k : Meaning S C State) (records : R → Recorded C → Type 0) (limits : C → Type 0) (within : ℕ → State → Type 0) (applied : List ℕ → State → Option State) (shelf : IsShelf k limits within applied)
    (world : World S R Plan C) (events : List (Event C)) (event : Event C) (comes : Comes k records limits world events event) where
  abbrev pub w : Machine C
  w = run_of k world events

  abbrev pub next : Machine C
  next = (happens k.object w event).world

  abbrev pub setup : Setup
  setup = setup_of world

  pub agrees : Agrees k records world w
  agrees = comes.stands.agrees

  pub few : length events + 2 < 2 ^ 32
  few = comes.may.room

  pub stood : Stood k.object limits within w
  stood = run_stood k limits within applied shelf setup.partition setup.members setup.backups events comes.stands.some (let l = few in omega (arith, l)) comes.stands.within

  pub stood_next : Stood k.object limits within next
  stood_next = next_stood k limits within applied shelf setup.partition setup.members setup.backups events event comes.stands.some (let l = few in omega (arith, l)) comes.stands.within comes.may.within

  pub new : IsNewlyNamed w event
  new = newly_named k.object setup.partition setup.members setup.backups events event comes.may.once

  pub single : Single w
  single = answers_single k.object setup.partition setup.members setup.backups events event comes.may.once

  pub formed : IsWellFormed setup.partition setup.members setup.backups w
  formed = every_run_is_well_formed k.object setup.partition setup.members setup.backups events
