-- The messages in flight that a line counts and prints are those of the run.
use Rattle.std.proofs.Common.{◌≡◌, ℕ, List, length}
use Rattle.std.specs.List.{flat_map, sum_by}
use Rattle.partition_protocol.specs.World.{World as Machine}
use Rattle.grid_base.specs.declared.calls.Request.{Request}
use Rattle.partition_world.specs.Sending.{flying}
use Rattle.partition_world.specs.Worlds.{run_of}
use Rattle.call_engine.specs.Calls.{Settings}
use Rattle.partition_world.specs.declared.Link.{Link}
use Rattle.partition_world.specs.LinkOrder.{links_of}
use Rattle.replay_run.specs.Runs.{Run, events_at}
use Rattle.replay_run.specs.Printing.{in_flight, link_text, link_text_from}
use Rattle.replay_run.specs.Shelves.{grid_meaning}
use Rattle.replay_run.specs.Grids.{GridWorld, IsWorld}
use Rattle.replay_run.proofs.WorldRuns.{run_is}

-- the messages on a link of a world, as their bytes
abbrev pub link_of : Settings → Machine Request → Link → List (List ℕ)
link_of settings w l = flying (grid_meaning settings) w l.from l.to

module _ {settings : Settings} (world : GridWorld) (r : Run) (p : ℕ) (is : IsWorld settings world r p) (links : List Link) (all : links ≡ links_of r.members) where
  abbrev its_run : Machine Request
  its_run = run_of (grid_meaning settings) world (events_at p r.events)

  pub links_counted : sum_by (λ (l : Link). length (link_of settings its_run l)) links ≡ in_flight settings r p
  links_counted i = sum_by (λ (l : Link). length (link_of settings (run_is world r p is i) l)) (all i)

  pub links_shown : (line : ℕ) → flat_map (λ (l : Link). link_text_from line l 0 (link_of settings its_run l)) links ≡ flat_map (link_text settings line r p) (links_of r.members)
  links_shown line i = flat_map (λ (l : Link). link_text_from line l 0 (link_of settings (run_is world r p is i) l)) (all i)
