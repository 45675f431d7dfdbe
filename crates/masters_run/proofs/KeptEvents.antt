-- What each event of some kind keeps, in some partitions, each line with masters keeps that brings no others: published decisions are of that kind, and so are deliveries.
use Rattle.std.proofs.Common.{ℕ, zero, suc, not, ◌&&◌, ◌==◌, List, [], ◌∷◌, ◌++◌, map, Option, Some, None, is_some, option_map, slice_set, refl, inl, inr}
use Rattle.grid_base.specs.Objects.{Object}
use Rattle.grid_base.specs.declared.names.CallId.{CallId}
use Rattle.grid_base.specs.declared.calls.Request.{Request}
use Rattle.object_store.specs.Partitions.{Partition}
use Rattle.partition_protocol.specs.Events.{Event, Call, Deliver, Lose, Repeat, Resend, Crash, Detect, BeginMove, BeginJoin, BeginHandover, Advance, Reopen}
use Rattle.partition_protocol.specs.Messages.{Frozen}
use Rattle.partition_protocol.specs.Service.{numbers_below}
use Rattle.partition_protocol.proofs.Lists.{In, on_if}
use Rattle.partition_world.specs.declared.Link.{Link}
use Rattle.masters_protocol.specs.Machine.{master, pending}
use Rattle.masters_world.specs.Decisions.{Decision, event_of}
use Rattle.masters_world.specs.Decisions as decision
use Rattle.masters_world.specs.Machine.{Ruled, Line, Asks, Told, MasterDeliver, MasterLose, MasterResend, at_once, at_once_of, published_by, events_by}
use Rattle.masters_world.specs.Machine as ruled
use Rattle.script_lang.specs.declared.line.Line.{Line as ScriptLine}
use Rattle.script_lang.specs.declared.line.Line.TheVariants as line
use Rattle.replay_run.specs.AfterLines as alone
use Rattle.replay_run.specs.Runs as grid
use Rattle.replay_run.specs.Runs.{Run, At, partitions, world_at, takes, delivery_on, next_line, event_by}
use Rattle.masters_run.specs.Runs.{RuledRun, has_masters, opening_masters, masters_at, ruled_at, takes_each, meets_full_link, given_up, goes, goes_in, link_to_member, flowed, flowed_in, link_between, handing_over, flowed_between, counted}
use Rattle.masters_run.specs.AfterLines.{by_grid, unruled, Asked, as_asked, by_partition, ruled_line, after_line}
use Rattle.masters_run.proofs.RuledRuns.{flowed_on, between_on}

-- events of a kind

abbrev pub AreAll : (Event Request → Type 0) → List (Event Request) → Type 0
AreAll Q [] = Unit {0}
AreAll Q (e ∷ es) = Q e × AreAll Q es

-- what is asked for is of that kind
abbrev pub AsksFor : (Event Request → Type 0) → Line Request → Type 0
AsksFor Q (Asks e) = Q e
AsksFor Q l = Unit {0}

module _ (Q : Event Request → Type 0) (decided : (n : ℕ) (d : Decision) → Q (event_of n d)) where
  both_all : (es fs : List (Event Request)) → AreAll Q es → AreAll Q fs → AreAll Q (es ++ fs)
  both_all [] fs h k = k
  both_all (e ∷ es) fs (q, h) k = (q, both_all es fs h k)

  published_all : (n : ℕ) (ds : List Decision) → AreAll Q (map (event_of n) ds)
  published_all n [] = tt
  published_all n (d ∷ ds) = (decided n d, published_all n ds)

  at_once_all : (j : Ruled Request) (e : Event Request) → Q e → AreAll Q (at_once_of j e)
  at_once_all j (Call m conn number call now) q = (q, tt)
  at_once_all j (Deliver f t i) q = on_if (AreAll Q) (t == j.world.members) [] (Deliver f t i ∷ []) tt (q, tt)
  at_once_all j (Lose f t i) q = on_if (AreAll Q) ((t == j.world.members) && pending j.masters) [] (Lose f t i ∷ []) tt (q, tt)
  at_once_all j (Repeat f t i) q = (q, tt)
  at_once_all j (Resend end) q = on_if (AreAll Q) ((end == j.world.members) && not (is_some (master j.masters))) [] (Resend end ∷ []) tt (q, tt)
  at_once_all j (Crash m) q = (q, tt)
  at_once_all j (Detect m) q = tt
  at_once_all j (BeginMove from to) q = tt
  at_once_all j (BeginJoin to) q = tt
  at_once_all j (BeginHandover from to) q = tt
  at_once_all j Advance q = tt
  at_once_all j Reopen q = tt

  line_all : (j : Ruled Request) (l : Line Request) → AsksFor Q l → AreAll Q (at_once j l)
  line_all j (Asks e) q = at_once_all j e q
  line_all j (Told m x) q = tt
  line_all j (MasterDeliver f t i) q = tt
  line_all j (MasterLose f t i) q = tt
  line_all j (MasterResend m) q = tt

  pub events_all : (j : Ruled Request) (l : Line Request) → AsksFor Q l → AreAll Q (events_by j l)
  events_all j l q = both_all (at_once j l) (map (event_of j.world.members) (published_by j l)) (line_all j l q) (published_all j.world.members (published_by j l))

  pub delivered : (l : Link) → Q (delivery_on l)
  delivered l = decided l.to (decision.Take l.from 0 (Frozen 0))

-- lines of a script

abbrev pub IsEventFor : (ℕ → Type 0) → (Event Request → Type 0) → Option At → Type 0
IsEventFor Here Q None = Unit {0}
IsEventFor Here Q (Some e) = Here e.partition × Q e.event

-- A line is of one of these partitions, or of all; and what it asks for is of that kind.
abbrev pub IsFor : (ℕ → Type 0) → (Event Request → Type 0) → ScriptLine → Type 0
IsFor Here Q (line.Crash m) = Q (Crash m)
IsFor Here Q (line.Flow p most) = Here p
IsFor Here Q (line.MasterFlow p most) = Here p
IsFor Here Q (line.MasterDeliver p from to place) = Here p
IsFor Here Q (line.MasterLose p from to place) = Here p
IsFor Here Q (line.MasterResend p member) = Here p
IsFor Here Q l = IsEventFor Here Q (event_by l)

abbrev IsAskedFor : (ℕ → Type 0) → (Event Request → Type 0) → Option Asked → Type 0
IsAskedFor Here Q None = Unit {0}
IsAskedFor Here Q (Some a) = Here a.partition × AsksFor Q a.line

-- What holds of a run with its masters after each such line of one partition holds after a line of a script: if it holds as the line is counted, as it is the grid's own, and as masters begin.
module _ (o : Object Request Partition) (skips : List CallId) (Here : ℕ → Type 0) (everywhere : (p : ℕ) → In p (numbers_below partitions) → Here p) (Q : Event Request → Type 0) (decided : (n : ℕ) (d : Decision) → Q (event_of n d))
    (R : RuledRun → Type 0) (on : (s : RuledRun) (p : ℕ) (l : Line Request) → Here p → AsksFor Q l → R s → R (goes o skips s p l)) where
  pub goes_in_keeps : (s : RuledRun) (l : Line Request) (ps : List ℕ) → ((p : ℕ) → In p ps → Here p) → AsksFor Q l → R s → R (goes_in o skips s l ps)
  goes_in_keeps s l [] here q h = h
  goes_in_keeps s l (p ∷ ps) here q h = goes_in_keeps (goes o skips s p l) l ps (λ n i. here n (inr i)) q (on s p l (here p (inl refl)) q h)

  pub flowed_keeps : (s : RuledRun) (p most : ℕ) → Here p → R s → R (flowed o skips s p most)
  flowed_keeps s p zero here h = h
  flowed_keeps s p (suc most) here h =
      go (link_to_member (world_at o s.run p)) (λ l. flowed_keeps (goes o skips s p (Asks (delivery_on l))) p most here (on s p (Asks (delivery_on l)) here (delivered Q decided l) h))
    where
      go : (next : Option Link) → ((l : Link) → R (flowed o skips (goes o skips s p (Asks (delivery_on l))) p most)) → R (flowed_on o skips s p most next)
      go None f = h
      go (Some l) f = f l

  pub flowed_in_keeps : (s : RuledRun) (most : ℕ) (ps : List ℕ) → ((p : ℕ) → In p ps → Here p) → R s → R (flowed_in o skips s most ps)
  flowed_in_keeps s most [] here h = h
  flowed_in_keeps s most (p ∷ ps) here h = flowed_in_keeps (flowed o skips s p most) most ps (λ n i. here n (inr i)) (flowed_keeps s p most (here p (inl refl)) h)

  pub between_keeps : (s : RuledRun) (p most : ℕ) → Here p → R s → R (flowed_between o skips s p most)
  between_keeps s p zero here h = h
  between_keeps s p (suc most) here h = go (link_between (masters_at s p)) (λ l. between_keeps (goes o skips s p (handing_over l)) p most here (on s p (handing_over l) here tt h))
    where
      go : (next : Option Link) → ((l : Link) → R (flowed_between o skips (goes o skips s p (handing_over l)) p most)) → R (between_on o skips s p most next)
      go None f = h
      go (Some l) f = f l

  -- lines

  partition_keeps : (s : RuledRun) (l : ScriptLine) (a : Option Asked) → IsAskedFor Here Q a → R (counted s) → R (by_grid o skips s l) → R (by_partition o skips s l a)
  partition_keeps s l None q now own = own
  partition_keeps s l (Some a) (here, q) now own = on (counted s) a.partition a.line here q now

  all_keeps : (s : RuledRun) (l : Line Request) → AsksFor Q l → R (counted s) → R (goes_in o skips (counted s) l (numbers_below partitions))
  all_keeps s l q now = goes_in_keeps (counted s) l (numbers_below partitions) everywhere q now

  event_asked : (e : Option At) → IsEventFor Here Q e → IsAskedFor Here Q (option_map as_asked e)
  event_asked None q = tt
  event_asked (Some e) q = q

  ruled_line_keeps : (s : RuledRun) (l : ScriptLine) → IsFor Here Q l → R (counted s) → R (by_grid o skips s l) → R (ruled_line o skips s l)
  ruled_line_keeps s line.Masters q now own = now
  ruled_line_keeps s (line.Rebalance most) q now own = now
  ruled_line_keeps s (line.Flow p most) q now own = flowed_keeps (counted s) p most q now
  ruled_line_keeps s (line.FlowAll most) q now own = flowed_in_keeps (counted s) most (numbers_below partitions) everywhere now
  ruled_line_keeps s (line.MasterFlow p most) q now own = between_keeps (counted s) p most q now
  ruled_line_keeps s (line.Told m x) q now own = all_keeps s (Told m x) tt now
  ruled_line_keeps s (line.Crash m) q now own = all_keeps s (Asks (Crash m)) q now
  ruled_line_keeps s (line.Detect m) q now own = all_keeps s (Asks (Detect m)) (decided 0 (decision.Detect m)) now
  ruled_line_keeps s (line.MasterDeliver p from to place) q now own = on (counted s) p (MasterDeliver from to place) q tt now
  ruled_line_keeps s (line.MasterLose p from to place) q now own = on (counted s) p (MasterLose from to place) q tt now
  ruled_line_keeps s (line.MasterResend p member) q now own = on (counted s) p (MasterResend member) q tt now
  ruled_line_keeps s l q now own = partition_keeps s l (option_map as_asked (event_by l)) (event_asked (event_by l) q) now own

  abbrev opening : RuledRun → RuledRun
  opening s = record (counted s) { masters = opening_masters s.run.members }

  unruled_keeps : (s : RuledRun) (l : ScriptLine) → R (opening s) → R (by_grid o skips s l) → R (unruled o skips s l)
  unruled_keeps s line.Masters opens own = on_if R (s.run.lines == 1) (opening s) (by_grid o skips s line.Masters) opens own
  unruled_keeps s l opens own = own

  pub ruled_keeps : (s : RuledRun) (l : ScriptLine) → IsFor Here Q l → R (counted s) → R (opening s) → R (by_grid o skips s l) → R (after_line o skips s l)
  ruled_keeps s l q now opens own = on_if R (has_masters s) (ruled_line o skips s l) (unruled o skips s l) (ruled_line_keeps s l q now own) (unruled_keeps s l opens own)

-- What each event of that kind keeps of the grid's run.
module _ (o : Object Request Partition) (skips : List CallId) (Here : ℕ → Type 0) (everywhere : (p : ℕ) → In p (numbers_below partitions) → Here p) (Q : Event Request → Type 0) (decided : (n : ℕ) (d : Decision) → Q (event_of n d))
    (P : Run → Type 0) (up : (r : Run) → P r → P (grid.given_up r)) (step : (r : Run) (p : ℕ) (e : Event Request) → Here p → Q e → P r → P (takes o skips r p e)) where
  abbrev Of : RuledRun → Type 0
  Of s = P s.run

  each_keeps : (r : Run) (p : ℕ) (es : List (Event Request)) → Here p → AreAll Q es → P r → P (takes_each o skips r p es)
  each_keeps r p [] here q h = h
  each_keeps r p (e ∷ es) here (its, q) h = each_keeps (takes o skips r p e) p es here q (step r p e here its h)

  pub goes_keeps : (s : RuledRun) (p : ℕ) (l : Line Request) → Here p → AsksFor Q l → P s.run → P (goes o skips s p l).run
  goes_keeps s p l here q h =
      let j = ruled_at o s p in
      on_if Of (meets_full_link j.masters (ruled.asked_by j l)) (given_up s) (record { run = takes_each o skips s.run p (events_by j l); masters = slice_set s.masters p (ruled.masters_after j l) })
      (up s.run h) (each_keeps s.run p (events_by j l) here (events_all Q decided j l q) h)

  pub event_line_keeps : (s : RuledRun) (l : ScriptLine) → IsFor Here Q l → P (next_line s.run) → P (alone.after_line o skips s.run l) → P (after_line o skips s l).run
  event_line_keeps s l q now own = ruled_keeps o skips Here everywhere Q decided Of goes_keeps s l q now now own
