-- The messages that a line tells are those that it appended, where masters run the table service as well.
use Rattle.std.proofs.Common.{◌≡◌, ℕ, zero, suc, ◌+◌, ◌==◌, Bool, true, false, cond, List, [], ◌∷◌, ◌++◌, length, Option, Some, None, refl, sym, ◌∙◌}
use Rattle.grid_base.specs.Objects.{Object}
use Rattle.grid_base.specs.declared.names.CallId.{CallId}
use Rattle.grid_base.specs.declared.calls.Request.{Request}
use Rattle.call_engine.specs.Calls.{Settings}
use Rattle.call_engine.specs.Objects.{partition_object}
use Rattle.object_store.specs.Partitions.{Partition}
use Rattle.partition_protocol.specs.World.{World}
use Rattle.partition_protocol.specs.Events.{Detect, happens, run}
use Rattle.partition_protocol.specs.Service.{numbers_below}
use Rattle.partition_protocol.proofs.Lists.{on_if}
use Rattle.partition_world.specs.declared.Link.{Link}
use Rattle.masters_world.specs.Decisions.{Decision, event_of}
use Rattle.masters_world.specs.Machine.{Line, Asks, Told as ToldOf, at_once, published_by}
use Rattle.script_lang.specs.declared.line.Line.{Line as ScriptLine}
use Rattle.script_lang.specs.declared.line.Line.TheVariants as line
use Rattle.line_told.specs.declared.told.Told.{Told}
use Rattle.replay_run.specs.Appending.{new_messages}
use Rattle.replay_run.specs.LineTold.{all_told}
use Rattle.replay_run.specs.Runs.{partitions}
use Rattle.masters_run.specs.Runs.{RuledRun, has_masters, opening_masters, masters_at, ruled_at, goes, goes_in, link_between, handing_over, flowed_between, counted}
use Rattle.masters_run.specs.AfterLines.{Asked, asked_at, by_grid, by_partition, unruled, ruled_line, after_line}
use Rattle.masters_run.specs.LineTold.{all_published, followed, followed_in, followed_each, asked_told_of, ruled_told, unruled_told, line_told}
use Rattle.masters_run.proofs.RuledRuns.{AsksNoCall, between_on}
use Rattle.masters_run.proofs.RuledGrowing.{goes_goes, goes_in_goes, between_goes}
use Rattle.script_run.specs.Outputs.{messages_in}
use Rattle.script_run.proofs.LineMessages.{none_new, in_parts, in_front, in_all, in_busy, in_line}

-- What was told tells the messages that this run has more than that one.
abbrev TellsAll : List Told → RuledRun → RuledRun → Type 0
TellsAll told s next = messages_in told ≡ new_messages s.run next.run

tells_none : (s : RuledRun) → TellsAll [] s s
tells_none s = sym (none_new s.run s.run refl)

-- what follows an outcome

in_published : {State : Type 0} (o : Object Request State) (p n : ℕ) (w : World Request) (ds : List Decision) → messages_in (all_published o p n w ds) ≡ []
in_published o p n w [] = refl
in_published o p n w (d ∷ ds) = in_published o p (n + 1) (happens o w (event_of w.members d)).world ds

module _ (o : Object Request Partition) (skips : List CallId) where
  in_followed : (s : RuledRun) (p : ℕ) (l : Line Request) → TellsAll (followed o skips s p l) s (goes o skips s p l)
  in_followed s p l =
      let j = ruled_at o s p in
      let n = length j.masters.published + 1 in
      let w = run o j.world (at_once j l) in
      let sent = new_messages s.run (goes o skips s p l).run in
      in_front (all_published o p n w (published_by j l)) (all_told sent) (in_published o p n w (published_by j l)) ∙ in_all sent

  in_each_partition : (s : RuledRun) (l : Line Request) (ps : List ℕ) → AsksNoCall l → TellsAll (followed_in o skips s l ps) s (goes_in o skips s l ps)
  in_each_partition s l [] q = tells_none s
  in_each_partition s l (p ∷ ps) q =
      let mid = goes o skips s p l in
      in_parts (followed o skips s p l) (followed_in o skips mid l ps) s.run mid.run (goes_in o skips mid l ps).run ((goes_goes o s p l q).by.grows skips) ((goes_in_goes o mid l ps q).by.grows skips)
      (in_followed s p l) (in_each_partition mid l ps q)

  abbrev followed_on : RuledRun → ℕ → ℕ → Option Link → List Told
  followed_on s p most next = elim next [ None ↦ [] | Some l ↦ followed o skips s p (handing_over l) ++ followed_each o skips (goes o skips s p (handing_over l)) p most ]

  in_each_handing : (s : RuledRun) (p most : ℕ) → TellsAll (followed_each o skips s p most) s (flowed_between o skips s p most)
  in_each_handing s p zero = tells_none s
  in_each_handing s p (suc most) = go (link_between (masters_at s p)) (λ x. in_each_handing x p most)
    where
      go : (next : Option Link) → ((x : RuledRun) → TellsAll (followed_each o skips x p most) x (flowed_between o skips x p most)) → TellsAll (followed_on s p most next) s (between_on o skips s p most next)
      go None rest = tells_none s
      go (Some l) rest =
          let mid = goes o skips s p (handing_over l) in
          in_parts (followed o skips s p (handing_over l)) (followed_each o skips mid p most) s.run mid.run (flowed_between o skips mid p most).run
          ((goes_goes o s p (handing_over l) tt).by.grows skips) ((between_goes o mid p most).by.grows skips) (in_followed s p (handing_over l)) (rest mid)

-- lines

module _ (settings : Settings) (skips : List CallId) (s : RuledRun) where
  abbrev o : Object Request Partition
  o = partition_object settings

  in_asked : (l : ScriptLine) (a : Option Asked) → TellsAll (asked_told_of settings skips s l (by_partition o skips s l a) a) s (by_partition o skips s l a)
  in_asked l None = in_line settings skips s.run l
  in_asked l (Some a) = in_followed o skips (counted s) a.partition a.line

  -- with masters
  in_ruled : (l : ScriptLine) → TellsAll (ruled_told settings skips s l (ruled_line o skips s l)) s (ruled_line o skips s l)
  in_ruled line.Masters = tells_none s
  in_ruled (line.Rebalance most) = tells_none s
  in_ruled (line.Flow p most) = in_all (new_messages s.run (ruled_line o skips s (line.Flow p most)).run)
  in_ruled (line.FlowAll most) = in_all (new_messages s.run (ruled_line o skips s (line.FlowAll most)).run)
  in_ruled (line.MasterFlow p most) = in_each_handing o skips (counted s) p most
  in_ruled (line.Told m x) = in_each_partition o skips (counted s) (ToldOf m x) (numbers_below partitions) tt
  in_ruled (line.Detect m) = in_each_partition o skips (counted s) (Asks (Detect m)) (numbers_below partitions) refl
  in_ruled (line.Crash m) = let next = ruled_line o skips s (line.Crash m) in in_busy settings skips s.run (line.Crash m) next.run (in_all (new_messages s.run next.run))
  in_ruled l = in_asked l (asked_at l)

  -- without
  in_unruled : (l : ScriptLine) → TellsAll (unruled_told settings skips s l (unruled o skips s l)) s (unruled o skips s l)
  in_unruled line.Masters = on_if (λ x. [] ≡ new_messages s.run x.run) (s.run.lines == 1) (record (counted s) { masters = opening_masters s.run.members }) (by_grid o skips s line.Masters) (tells_none s) (tells_none s)
  in_unruled l = in_line settings skips s.run l

  abbrev after_by : ScriptLine → Bool → RuledRun
  after_by l b = cond b (ruled_line o skips s l) (unruled o skips s l)

  pub in_ruled_line : (l : ScriptLine) → TellsAll (line_told settings skips s l (after_line o skips s l)) s (after_line o skips s l)
  in_ruled_line l = go (has_masters s)
    where
      go : (b : Bool) → TellsAll (cond b (ruled_told settings skips s l (after_by l b)) (unruled_told settings skips s l (after_by l b))) s (after_by l b)
      go true = in_ruled l
      go false = in_unruled l
