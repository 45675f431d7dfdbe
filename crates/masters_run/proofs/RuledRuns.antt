-- The run of a grid with masters is a run: each event of a partition is taken as the grid takes it, and none is a call.
use Rattle.std.proofs.Common.{◌≡◌, ℕ, zero, suc, ◌≤◌, not, ◌&&◌, ◌==◌, List, [], ◌∷◌, ◌++◌, map, Option, Some, None, is_some, option_map, slice_set, refl, arith}
use Rattle.grid_base.specs.Objects.{Object}
use Rattle.grid_base.specs.declared.names.CallId.{CallId}
use Rattle.grid_base.specs.declared.calls.Request.{Request}
use Rattle.object_store.specs.Partitions.{Partition}
use Rattle.partition_protocol.specs.Arrivals.{asked_by}
use Rattle.partition_protocol.specs.Events.{Event, Call, Deliver, Lose, Repeat, Resend, Crash, Detect, BeginMove, BeginJoin, BeginHandover, Advance, Reopen}
use Rattle.partition_protocol.specs.Service.{numbers_below}
use Rattle.partition_protocol.proofs.Lists.{on_if}
use Rattle.partition_world.specs.declared.Link.{Link}
use Rattle.masters_protocol.specs.Machine.{master, pending}
use Rattle.masters_world.specs.Decisions.{Decision, event_of}
use Rattle.masters_world.specs.Decisions as decision
use Rattle.masters_world.specs.Machine.{Ruled, Line, Asks, Told, MasterDeliver, MasterLose, MasterResend, at_once, at_once_of, published_by, events_by}
use Rattle.masters_world.specs.Machine as ruled
use Rattle.script_lang.specs.declared.line.Line.{Line as ScriptLine}
use Rattle.script_lang.specs.declared.line.Line.TheVariants as line
use Rattle.replay_run.specs.Runs as grid
use Rattle.replay_run.specs.Runs.{Run, At, partitions, world_at, takes, delivery_on, next_line, event_by}
use Rattle.replay_run.specs.AfterLines as alone
use Rattle.replay_run.specs.ScriptRuns.{IsRun, grid_begun, line_counted, run_given_up}
use Rattle.replay_run.proofs.EventRuns.{takes_run}
use Rattle.replay_run.proofs.Lines.{IsNoCall, events_are_no_calls, line_run}
use Rattle.call_engine.specs.Calls.{Settings}
use Rattle.call_engine.specs.Objects.{partition_object}
use Rattle.replay_run.proofs.CallKinds.{one_kind, kinds_of_all}
use Rattle.replay_run.proofs.Linear.{linear}
use Rattle.replay_run.proofs.RunFacts.{RunOk}
use Rattle.replay_run.proofs.RunsOfLines.{run_ok}
use Rattle.masters_run.specs.Laws.{ruled_with, EveryRuledRunIsARun, EveryRunIsLinearizable, EveryCallCountsOnce}
use Rattle.masters_run.specs.Runs.{RuledRun, begun, has_masters, opening_masters, masters_at, ruled_at, takes_each, meets_full_link, given_up, goes, goes_in, link_to_member, flowed, flowed_in, link_between, handing_over, flowed_between, counted}
use Rattle.masters_run.specs.AfterLines.{by_grid, unruled, Asked, as_asked, asked_at, by_partition, ruled_line, after_line, after_lines}

-- no call

abbrev pub AreQuiet : List (Event Request) → Type 0
AreQuiet [] = Unit {0}
AreQuiet (e ∷ es) = (asked_by e ≡ []) × AreQuiet es

-- what is asked for is no call
abbrev pub AsksNoCall : Line Request → Type 0
AsksNoCall (Asks e) = asked_by e ≡ []
AsksNoCall l = Unit {0}

pub both_quiet : (es fs : List (Event Request)) → AreQuiet es → AreQuiet fs → AreQuiet (es ++ fs)
both_quiet [] fs h k = k
both_quiet (e ∷ es) fs (q, h) k = (q, both_quiet es fs h k)

pub decision_quiet : (n : ℕ) (d : Decision) → asked_by (event_of {C = Request} n d) ≡ []
decision_quiet n (decision.Detect m) = refl
decision_quiet n (decision.BeginMove from to) = refl
decision_quiet n (decision.BeginJoin to) = refl
decision_quiet n (decision.BeginHandover from to) = refl
decision_quiet n decision.Advance = refl
decision_quiet n decision.Reopen = refl
decision_quiet n (decision.Take from place message) = refl

published_quiet : (n : ℕ) (ds : List Decision) → AreQuiet (map (event_of n) ds)
published_quiet n [] = tt
published_quiet n (d ∷ ds) = (decision_quiet n d, published_quiet n ds)

at_once_quiet : (j : Ruled Request) (e : Event Request) → asked_by e ≡ [] → AreQuiet (at_once_of j e)
at_once_quiet j (Call m conn number call now) q = (q, tt)
at_once_quiet j (Deliver f t i) q = on_if AreQuiet (t == j.world.members) [] (Deliver f t i ∷ []) tt (refl, tt)
at_once_quiet j (Lose f t i) q = on_if AreQuiet ((t == j.world.members) && pending j.masters) [] (Lose f t i ∷ []) tt (refl, tt)
at_once_quiet j (Repeat f t i) q = (refl, tt)
at_once_quiet j (Resend end) q = on_if AreQuiet ((end == j.world.members) && not (is_some (master j.masters))) [] (Resend end ∷ []) tt (refl, tt)
at_once_quiet j (Crash m) q = (refl, tt)
at_once_quiet j (Detect m) q = tt
at_once_quiet j (BeginMove from to) q = tt
at_once_quiet j (BeginJoin to) q = tt
at_once_quiet j (BeginHandover from to) q = tt
at_once_quiet j Advance q = tt
at_once_quiet j Reopen q = tt

line_quiet : (j : Ruled Request) (l : Line Request) → AsksNoCall l → AreQuiet (at_once j l)
line_quiet j (Asks e) q = at_once_quiet j e q
line_quiet j (Told m x) q = tt
line_quiet j (MasterDeliver f t i) q = tt
line_quiet j (MasterLose f t i) q = tt
line_quiet j (MasterResend m) q = tt

pub events_quiet : (j : Ruled Request) (l : Line Request) → AsksNoCall l → AreQuiet (events_by j l)
events_quiet j l q = both_quiet (at_once j l) (map (event_of j.world.members) (published_by j l)) (line_quiet j l q) (published_quiet j.world.members (published_by j l))

-- a flow of one delivery more, where this is the link that comes first

abbrev pub flowed_on : Object Request Partition → List CallId → RuledRun → ℕ → ℕ → Option Link → RuledRun
flowed_on o skips s p most next = elim next [ None ↦ s | Some l ↦ flowed o skips (goes o skips s p (Asks (delivery_on l))) p most ]

abbrev pub between_on : Object Request Partition → List CallId → RuledRun → ℕ → ℕ → Option Link → RuledRun
between_on o skips s p most next = elim next [ None ↦ s | Some l ↦ flowed_between o skips (goes o skips s p (handing_over l)) p most ]

-- what a line asks for in one partition is no call

abbrev pub IsQuietAsked : Option Asked → Type 0
IsQuietAsked None = Unit {0}
IsQuietAsked (Some a) = AsksNoCall a.line

as_asked_quiet : (e : Option At) → IsNoCall e → IsQuietAsked (option_map as_asked e)
as_asked_quiet None q = tt
as_asked_quiet (Some e) q = q

pub asked_quiet : (l : ScriptLine) → IsQuietAsked (asked_at l)
asked_quiet (line.MasterDeliver p from to place) = tt
asked_quiet (line.MasterLose p from to place) = tt
asked_quiet (line.MasterResend p member) = tt
asked_quiet l = as_asked_quiet (event_by l) (events_are_no_calls l)

-- What holds of the grid's run after each event that is no call, and as it is given up, holds after what is asked for in partitions; and after a line, if it holds as that is counted, and as the grid alone runs it.
module _ (o : Object Request Partition) (skips : List CallId) (P : Run → Type 0)
    (up : (r : Run) → P r → P (grid.given_up r)) (step : (r : Run) (p : ℕ) (e : Event Request) → asked_by e ≡ [] → P r → P (takes o skips r p e)) where
  pub each_keeps : (r : Run) (p : ℕ) (es : List (Event Request)) → AreQuiet es → P r → P (takes_each o skips r p es)
  each_keeps r p [] q h = h
  each_keeps r p (e ∷ es) (quiet, q) h = each_keeps (takes o skips r p e) p es q (step r p e quiet h)

  -- of a run with its masters
  abbrev Of : RuledRun → Type 0
  Of s = P s.run

  pub goes_keeps : (s : RuledRun) (p : ℕ) (l : Line Request) → AsksNoCall l → P s.run → P (goes o skips s p l).run
  goes_keeps s p l q h =
      let j = ruled_at o s p in
      on_if Of (meets_full_link j.masters (ruled.asked_by j l)) (given_up s) (record { run = takes_each o skips s.run p (events_by j l); masters = slice_set s.masters p (ruled.masters_after j l) })
      (up s.run h) (each_keeps s.run p (events_by j l) (events_quiet j l q) h)

  pub goes_in_keeps : (s : RuledRun) (l : Line Request) (ps : List ℕ) → AsksNoCall l → P s.run → P (goes_in o skips s l ps).run
  goes_in_keeps s l [] q h = h
  goes_in_keeps s l (p ∷ ps) q h = goes_in_keeps (goes o skips s p l) l ps q (goes_keeps s p l q h)

  pub flowed_keeps : (s : RuledRun) (p most : ℕ) → P s.run → P (flowed o skips s p most).run
  flowed_keeps s p zero h = h
  flowed_keeps s p (suc most) h = go (link_to_member (world_at o s.run p)) (λ l. flowed_keeps (goes o skips s p (Asks (delivery_on l))) p most (goes_keeps s p (Asks (delivery_on l)) refl h))
    where
      go : (next : Option Link) → ((l : Link) → P (flowed o skips (goes o skips s p (Asks (delivery_on l))) p most).run)
          → P (flowed_on o skips s p most next).run
      go None f = h
      go (Some l) f = f l

  pub flowed_in_keeps : (s : RuledRun) (most : ℕ) (ps : List ℕ) → P s.run → P (flowed_in o skips s most ps).run
  flowed_in_keeps s most [] h = h
  flowed_in_keeps s most (p ∷ ps) h = flowed_in_keeps (flowed o skips s p most) most ps (flowed_keeps s p most h)

  pub between_keeps : (s : RuledRun) (p most : ℕ) → P s.run → P (flowed_between o skips s p most).run
  between_keeps s p zero h = h
  between_keeps s p (suc most) h = go (link_between (masters_at s p)) (λ l. between_keeps (goes o skips s p (handing_over l)) p most (goes_keeps s p (handing_over l) tt h))
    where
      go : (next : Option Link) → ((l : Link) → P (flowed_between o skips (goes o skips s p (handing_over l)) p most).run)
          → P (between_on o skips s p most next).run
      go None f = h
      go (Some l) f = f l

  -- what a line asks for in one partition, or in each, once it is counted

  partition_keeps : (s : RuledRun) (l : ScriptLine) (a : Option Asked) → IsQuietAsked a → P (next_line s.run) → P (alone.after_line o skips s.run l) → P (by_partition o skips s l a).run
  partition_keeps s l None q now own = own
  partition_keeps s l (Some a) q now own = goes_keeps (counted s) a.partition a.line q now

  all_keeps : (s : RuledRun) (l : Line Request) → AsksNoCall l → P (next_line s.run) → P (goes_in o skips (counted s) l (numbers_below partitions)).run
  all_keeps s l q now = goes_in_keeps (counted s) l (numbers_below partitions) q now

  -- a line: as it is counted, and as it is the grid's own

  ruled_line_keeps : (s : RuledRun) (l : ScriptLine) → P (next_line s.run) → P (alone.after_line o skips s.run l) → P (ruled_line o skips s l).run
  ruled_line_keeps s line.Masters now own = now
  ruled_line_keeps s (line.Rebalance most) now own = now
  ruled_line_keeps s (line.Flow p most) now own = flowed_keeps (counted s) p most now
  ruled_line_keeps s (line.FlowAll most) now own = flowed_in_keeps (counted s) most (numbers_below partitions) now
  ruled_line_keeps s (line.MasterFlow p most) now own = between_keeps (counted s) p most now
  ruled_line_keeps s (line.Told m x) now own = all_keeps s (Told m x) tt now
  ruled_line_keeps s (line.Crash m) now own = all_keeps s (Asks (Crash m)) refl now
  ruled_line_keeps s (line.Detect m) now own = all_keeps s (Asks (Detect m)) refl now
  ruled_line_keeps s l now own = partition_keeps s l (asked_at l) (asked_quiet l) now own

  unruled_keeps : (s : RuledRun) (l : ScriptLine) → P (next_line s.run) → P (alone.after_line o skips s.run l) → P (unruled o skips s l).run
  unruled_keeps s line.Masters now own = on_if Of (s.run.lines == 1) (record (counted s) { masters = opening_masters s.run.members }) (by_grid o skips s line.Masters) now own
  unruled_keeps s l now own = own

  pub line_keeps : (s : RuledRun) (l : ScriptLine) → P (next_line s.run) → P (alone.after_line o skips s.run l) → P (after_line o skips s l).run
  line_keeps s l now own = on_if Of (has_masters s) (ruled_line o skips s l) (unruled o skips s l) (ruled_line_keeps s l now own) (unruled_keeps s l now own)

-- So a ruled run is a run.

pub masters_run : {o : Object Request Partition} (skips : List CallId) (s : RuledRun) → IsRun o s.run → (l : ScriptLine) → IsRun o (after_line o skips s l).run
masters_run {o} skips s is l = line_keeps o skips (IsRun o) run_given_up (λ r p e quiet h. takes_run skips r p e h quiet) s l (line_counted s.run is) (line_run skips s.run is l)

pub ruled_runs : {o : Object Request Partition} (skips : List CallId) (s : RuledRun) (ls : List ScriptLine) → IsRun o s.run → IsRun o (after_lines o skips s ls).run
ruled_runs skips s [] is = is
ruled_runs {o} skips s (l ∷ ls) is = ruled_runs skips (after_line o skips s l) ls (masters_run skips s is l)

-- laws

-- each run of a script's lines is a run
pub law_run : (settings : Settings) (members backups : ℕ) (skips : List CallId) (ls : List ScriptLine) → 1 ≤ members → IsRun (partition_object settings) (ruled_with settings members backups skips ls).run
law_run settings members backups skips ls some = ruled_runs skips (begun members backups) ls (grid_begun members backups some)

pub every_ruled_run_is_a_run : EveryRuledRunIsARun
every_ruled_run_is_a_run = law_run

pub every_run_is_linearizable : EveryRunIsLinearizable
every_run_is_linearizable settings members backups skips ls some =
    linear settings (ruled_with settings members backups skips ls).run (run_ok (law_run settings members backups skips ls some))

pub every_call_counts_once : EveryCallCountsOnce
every_call_counts_once settings members backups skips ls some =
    let r = (ruled_with settings members backups skips ls).run in
    let ok : RunOk (partition_object settings) r = run_ok (law_run settings members backups skips ls some) in
    record { kinds = λ a there. one_kind (partition_object settings) r ok a; all = let all = kinds_of_all (partition_object settings) r ok in omega (arith, all) }
