-- The masters of the code that stand for what lines asked them: each answer of theirs is that of the masters of the run.
use Rattle.std.proofs.Common.{◌≡◌, ℕ, ◌≤◌, false, List, map, length, slice_get, ap, sym, ◌∙◌, subst}
use Rattle.std.proofs.lemmas.List.{length-map}
use Rattle.grid_base.specs.Objects.{Object}
use Rattle.partition_protocol.specs.World.{map_or}
use Rattle.partition_table.specs.Rows.{is_among}
use Rattle.masters_protocol.specs.Members.{Member}
use Rattle.masters_protocol.specs.Machine.{Masters as Machine, Event, start as opening, run, link, master, pending}
use Rattle.masters_world.specs.Decisions.{Decision}
use Rattle.masters_world.specs.Machine.{Line, start, after, asked}
use Rattle.masters_world.proofs.Theorem.{masters_go}
use Rattle.master_wire.specs.declared.decision.Decision.{Decision as Written}
use Rattle.master_log.specs.declared.masters.Masters.{Masters}
use Rattle.master_log.specs.Standing.{StandsFor, run_of, size_of, was_told}
use Rattle.master_log.specs.Laws.{published_of}
use Rattle.masters_run.specs.Written.{as_written, written_events}
use Rattle.masters_run.proofs.Natural.{masters_by, pending_same, leads_same, flight_same, told_of_same}
use Rattle.masters_run.proofs.WrittenMasters.{kept_run}

-- what lines asked the masters of a partition of n members, as the code keeps it
abbrev pub asked_in_code : {C State : Type 0} → Object C State → ℕ → ℕ → ℕ → List (Line C) → List (Event Written)
asked_in_code o p n b lines = written_events (asked o (start p n b) lines)

pub record StandForLines {C State : Type 0} (o : Object C State) (p n b : ℕ) (lines : List (Line C)) (kept : Masters) : Type 0 where
  pub size : size_of kept ≡ n
  pub stands : StandsFor kept (asked_in_code o p n b lines)

module _ {C State : Type 0} (o : Object C State) (p n b : ℕ) (lines : List (Line C)) (kept : Masters) (k : StandForLines o p n b lines kept) where
  -- the run's masters
  abbrev pub theirs : Machine Decision
  theirs = (after o (start p n b) lines).masters

  abbrev pub own_events : List (Event Written)
  own_events = asked_in_code o p n b lines

  -- The masters of the code are these, with decisions as they are written.
  pub machine_is : run_of kept own_events ≡ masters_by as_written theirs
  machine_is =
      ap (λ m. run (opening m) own_events) k.size
      ∙ kept_run n (asked o (start p n b) lines)
      ∙ ap (masters_by as_written) (masters_go o (start p n b) lines)

  pub some : 1 ≤ n
  some = subst (λ m. 1 ≤ m) k.size k.stands.some

  pub most : n ≤ 8
  most = subst (λ m. m ≤ 8) k.size k.stands.most

  pub published_is : published_of kept own_events ≡ map as_written theirs.published
  published_is = ap (λ (w : Machine Written). w.published) machine_is

  pub published_long : length (published_of kept own_events) ≡ length theirs.published
  published_long = ap (λ ds. length ds) published_is ∙ length-map theirs.published as_written

  pub pending_is : pending (run_of kept own_events) ≡ pending theirs
  pending_is = ap pending machine_is ∙ pending_same as_written theirs

  pub serving_is : master (run_of kept own_events) ≡ master theirs
  serving_is = ap master machine_is ∙ leads_same as_written theirs

  pub told_is : (m x : ℕ) → was_told (run_of kept own_events) m x ≡ map_or (slice_get theirs.members m) false (λ (y : Member Decision). is_among y.told x)
  told_is m x = ap (λ (w : Machine Written). was_told w m x) machine_is ∙ told_of_same as_written theirs m x

  -- how many messages are on a link
  pub flight_is : (f t : ℕ) → length (link f t (run_of kept own_events).packets) ≡ length (link f t theirs.packets)
  flight_is f t = ap (λ (w : Machine Written). length (link f t w.packets)) machine_is ∙ flight_same as_written theirs f t

  pub size_is : theirs.size ≡ n
  size_is = sym (ap (λ (w : Machine Written). w.size) machine_is) ∙ sym k.stands.shows.size ∙ k.size
