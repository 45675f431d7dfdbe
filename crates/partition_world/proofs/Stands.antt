-- A world that stands for a list of events, after one event more.
use Rattle.std.proofs.Common.{◌≡◌, ◌+◌, ◌≤◌, List, [], ◌∷◌, ◌++◌, length-append, ap, sym, ◌∙◌, subst, arith}
use Rattle.std.proofs.lemmas.List.Elements.{All-append}
use Rattle.partition_protocol.specs.World.{World as Machine, start}
use Rattle.partition_protocol.specs.Events.{Event, happens, run}
use Rattle.partition_protocol.proofs.EventFacts.{run_next}
use Rattle.table_service.specs.Services.{Setup}
use Rattle.partition_world.specs.declared.world.World.{World}
use Rattle.partition_world.specs.declared.event.Happened.{Happened}
use Rattle.grid_base.specs.Shelves.{Meaning}
use Rattle.partition_world.specs.Events.{EventWithin}
use Rattle.partition_world.specs.Worlds.{setup_of, run_of, Agrees, StandsFor, Comes, HasRun, KeepsSetup}
use Rattle.partition_world.proofs.Newest.{all_one}
use Rattle.partition_protocol.specs.Recorded.{Recorded}

module _ {S R Plan C State : Type 0} (k : Meaning S C State) (records : R → Recorded C → Type 0) (limits : C → Type 0) (old new : World S R Plan C) (events : List (Event C)) (event : Event C) (comes : Comes k records limits old events event) (keeps : KeepsSetup old new) where
  -- the event is counted
  abbrev pub counted : World S R Plan C
  counted = record new { steps = new.steps + 1 }

  counted_agrees : (w : Machine C) → Agrees k records new w → Agrees k records counted w
  counted_agrees w a = record {
    setup = a.setup;
    members = a.members;
    size = a.size;
    nodes = a.nodes;
    each = a.each;
    crashed = a.crashed;
    service = a.service;
    ends = a.ends;
    links = a.links;
    fit = a.fit;
    recorded = a.recorded;
    waiting = a.waiting;
  }

  more_run : run_of k counted (events ++ event ∷ []) ≡ (happens k.object (run_of k old events) event).world
  more_run =
      ap (λ (s : Setup). run k.object (start s.partition s.members s.backups) (events ++ event ∷ [])) keeps.setup
      ∙ run_next k.object (start (setup_of old).partition (setup_of old).members (setup_of old).backups) events event

  pub stands_next : (happened : Happened) → HasRun k records old new events event happened → StandsFor k records limits counted (events ++ event ∷ [])
  stands_next happened ran = record {
    some = subst (λ (s : Setup). 1 ≤ s.members) (sym keeps.setup) comes.stands.some;
    most = subst (λ (s : Setup). s.members ≤ 8) (sym keeps.setup) comes.stands.most;
    agrees = subst (λ (w : Machine C). Agrees k records counted w) (sym more_run) (counted_agrees (happens k.object (run_of k old events) event).world ran.agrees);
    steps = let kept = keeps.steps in let were = comes.stands.steps in let longer = length-append events (event ∷ []) in omega (arith, kept, were, longer);
    within = All-append (EventWithin limits) events (event ∷ []) comes.stands.within (all_one (EventWithin limits) event comes.may.within);
    once = comes.may.once;
  }
