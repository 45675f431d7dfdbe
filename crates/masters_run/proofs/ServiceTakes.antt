-- The message at a place of a link to the table service, as it is read in a grid's world.
use Rattle.std.proofs.Common.{◌≡◌, ℕ, ◌<◌, ◌≤◌, List, [], ◌∷◌, map, length, get_or, slice_get, false, refl, ap, sym, ◌∙◌}
use Rattle.std.proofs.lemmas.Option.{slice_get_past, slice_get_read}
use Rattle.grid_base.specs.declared.calls.Request.{Request}
use Rattle.call_engine.specs.Calls.{Settings}
use Rattle.call_engine.specs.Objects.{partition_object}
use Rattle.masters_protocol.specs.Machine.{pending}
use Rattle.master_wire.specs.declared.decision.Decision.TheVariants.{Take}
use Rattle.masters_world.specs.Machine.{proposals}
use Rattle.partition_protocol.specs.Events.{Event, Deliver}
use Rattle.partition_world.specs.Sending.{flying}
use Rattle.partition_world.specs.Worlds.{run_of}
use Rattle.replay_run.specs.Runs.{events_at, world_at}
use Rattle.replay_run.specs.Grids.{GridWorld, StandsForEvents, IsWorld}
use Rattle.replay_run.specs.Shelves.{grid_meaning}
use Rattle.replay_run.proofs.WorldRuns.{run_is}
use Rattle.masters_run.specs.Runs.{RuledRun, masters_at, ruled_at}
use Rattle.masters_run.specs.Written.{as_written}
use Rattle.masters_run.proofs.RuledMasters.{taking_none, taking_written}

module _ (settings : Settings) (s : RuledRun) (p from place : ℕ) (world : GridWorld) (is : IsWorld settings world s.run p) (members : ℕ) (same : members ≡ s.run.members) (list : List (List ℕ))
    (read : (events : List (Event Request)) → StandsForEvents settings world events → list ≡ flying (grid_meaning settings) (run_of (grid_meaning settings) world events) from members) (idle : pending (masters_at s p) ≡ false) where
  flies : list ≡ flying (grid_meaning settings) (world_at (partition_object settings) s.run p) from s.run.members
  flies =
      read (events_at p s.run.events) is.stands ∙ ap (λ w. flying (grid_meaning settings) w from members) (run_is world s.run p is)
      ∙ ap (λ n. flying (grid_meaning settings) (world_at (partition_object settings) s.run p) from n) same

  pub none_to_take : length list ≤ place → [] ≡ map as_written (proposals (ruled_at (partition_object settings) s p) (Deliver from s.run.members place))
  none_to_take past = sym (ap (λ ds. map as_written ds) (taking_none settings s p from place (grid_meaning settings) idle (ap (λ xs. slice_get xs place) (sym flies) ∙ slice_get_past list place past)))

  pub one_to_take : (bytes : List ℕ) → place < length list → bytes ≡ get_or list place bytes → (number : ℕ) (copy : List ℕ) → number ≡ place → copy ≡ bytes
      → Take from number copy ∷ [] ≡ map as_written (proposals (ruled_at (partition_object settings) s p) (Deliver from s.run.members place))
  one_to_take bytes within at number copy counts copied =
      let there = ap (λ xs. slice_get xs place) (sym flies) ∙ slice_get_read list (length list) place bytes refl within at in
      (λ i. Take from (counts i) (copied i) ∷ []) ∙ sym (taking_written settings s p from place (grid_meaning settings) idle bytes there)
