-- A run with its masters grows at a line as its grid does, and the line asks of the skips no more than which of the calls are among them that it makes.
use Rattle.std.proofs.Common.{◌≡◌, ℕ, zero, suc, true≢false, Bool, true, false, ◌==◌, cond, List, [], ◌∷◌, ◌++◌, slice_set, Option, Some, None, refl, ap, sym, ◌∙◌, ⊎_elim, append-nil}
use Rattle.grid_base.specs.Objects.{Object}
use Rattle.grid_base.specs.declared.names.CallId.{CallId}
use Rattle.grid_base.specs.declared.calls.Request.{Request}
use Rattle.object_store.specs.Partitions.{Partition}
use Rattle.partition_protocol.specs.Events.{Event, Crash, Detect}
use Rattle.partition_protocol.specs.Service.{numbers_below}
use Rattle.partition_protocol.proofs.Lists.{in_left, in_right, in_cases}
use Rattle.partition_protocol.proofs.RowFacts.{false_or_not}
use Rattle.partition_world.specs.declared.Link.{Link}
use Rattle.masters_protocol.specs.Machine.{Masters}
use Rattle.masters_world.specs.Decisions.{Decision}
use Rattle.masters_world.specs.Machine.{Line, Asks, Told, asked_by, masters_after, events_by}
use Rattle.script_lang.specs.declared.line.Line.{Line as ScriptLine}
use Rattle.script_lang.specs.declared.line.Line.TheVariants as line
use Rattle.replay_run.specs.Runs.{Run, Arrival, partitions, world_at, is_skipped, takes, delivery_on, next_line}
use Rattle.replay_run.specs.Runs as grid
use Rattle.replay_run.specs.AfterLines as alone
use Rattle.replay_run.proofs.Growing.{Grows, grows_trans, told_still, Agree, GoesBy, goes_quietly, goes_on, goes_nowhere, goes_then, takes_goes, line_goes}
use Rattle.masters_run.specs.Runs.{RuledRun, opening_masters, has_masters, masters_at, ruled_at, takes_each, meets_full_link, given_up, goes, goes_in, link_to_member, flowed, flowed_in, link_between, handing_over, flowed_between, counted}
use Rattle.masters_run.specs.AfterLines.{by_grid, unruled, Asked, asked_at, by_partition, ruled_line, after_line, after_lines}
use Rattle.masters_run.proofs.RuledRuns.{AreQuiet, AsksNoCall, events_quiet, flowed_on, between_on, IsQuietAsked, asked_quiet}

-- The grid goes by the skips, and so do its masters.
pub record RuledGoesBy (s : RuledRun) (onward : List CallId → RuledRun) : Type 0 where
  pub by : GoesBy s.run (λ k. (onward k).run)
  pub alike : (k t : List CallId) → Agree (by.tries k) k t → onward k ≡ onward t

-- whatever the skips are, the masters come to this
pub with_masters : (s : RuledRun) (ms : List (Masters Decision)) (onward : List CallId → Run) → GoesBy s.run onward → RuledGoesBy s (λ k. record { run = onward k; masters = ms })
with_masters s ms onward g = record { by = g; alike = λ k t agree. ap (λ (r : Run). record { run = r; masters = ms }) (g.alike k t agree) }

pub stays : (s : RuledRun) → RuledGoesBy s (λ k. s)
stays s = with_masters s s.masters (λ k. s.run) (goes_nowhere s.run)

pub gives_up : (s : RuledRun) → RuledGoesBy s (λ k. given_up s)
gives_up s = with_masters s s.masters (λ k. grid.given_up s.run) (goes_on s.run (grid.given_up s.run) (goes_quietly s.run (grid.given_up s.run) refl refl ([], append-nil s.run.appended) (λ e. refl)))

-- a choice that the skips have no part in
pub either : (s : RuledRun) (b : Bool) (first other : List CallId → RuledRun) → RuledGoesBy s first → RuledGoesBy s other → RuledGoesBy s (λ k. cond b (first k) (other k))
either s true first other g h = g
either s false first other g h = h

-- the line is counted first
pub counted_first : (s : RuledRun) (onward : List CallId → RuledRun) → RuledGoesBy (counted s) onward → RuledGoesBy s onward
counted_first s onward g = record {
  by = record {
    tries = g.by.tries;
    grows = λ k. record { events = (g.by.grows k).events; arrivals = (g.by.grows k).arrivals; appended = (g.by.grows k).appended; full = (g.by.grows k).full };
    come = g.by.come;
    tells = g.by.tells;
    alike = g.by.alike;
    plain = g.by.plain;
    fed = g.by.fed;
  };
  alike = g.alike;
}

-- one step, and then another from where that leads
module _ (s : RuledRun) (first : List CallId → RuledRun) (then : RuledRun → List CallId → RuledRun) (g : RuledGoesBy s first) (h : (x : RuledRun) → RuledGoesBy x (then x)) where
  last : List CallId → RuledRun
  last k = then (first k) k

  abbrev tried : List CallId → List Arrival
  tried k = g.by.tries k ++ (h (first k)).by.tries k

  lasted : (k : List CallId) → (then (first k) k).run.full ≡ false → (first k).run.full ≡ false
  lasted k lasts = false_or_not (first k).run.full (λ full. true≢false (sym (((h (first k)).by.grows k).full full) ∙ lasts))

  both_alike : (k t : List CallId) → Agree (tried k) k t → then (first k) k ≡ then (first t) t
  both_alike k t agree =
      (h (first k)).alike k t (λ a i. agree a (in_right a (g.by.tries k) ((h (first k)).by.tries k) i))
      ∙ ap (λ x. then x t) (g.alike k t (λ a i. agree a (in_left a (g.by.tries k) ((h (first k)).by.tries k) i)))

  both_go : GoesBy s.run (λ k. (then (first k) k).run)
  both_go = record {
    tries = tried;
    grows = λ k. grows_trans s.run (first k).run (then (first k) k).run (g.by.grows k) ((h (first k)).by.grows k);
    come = λ k a i. ⊎_elim
        (λ j. in_left a (g.by.grows k).arrivals.0 ((h (first k)).by.grows k).arrivals.0 (g.by.come k a j))
        (λ j. in_right a (g.by.grows k).arrivals.0 ((h (first k)).by.grows k).arrivals.0 ((h (first k)).by.come k a j))
        (in_cases a (g.by.tries k) ((h (first k)).by.tries k) i);
    tells = λ k a i skipped. ⊎_elim
        (λ j. told_still (first k).run (then (first k) k).run a ((h (first k)).by.grows k) (g.by.tells k a j skipped))
        (λ j. (h (first k)).by.tells k a j skipped)
        (in_cases a (g.by.tries k) ((h (first k)).by.tries k) i);
    alike = λ k t agree. ap (λ (x : RuledRun). x.run) (both_alike k t agree);
    plain = λ k a i plain lasts. ⊎_elim
        (λ j. in_left a (g.by.tries k) ((h (first k)).by.tries k) (g.by.plain k a j plain (lasted k lasts)))
        (λ j. in_right a (g.by.tries k) ((h (first k)).by.tries k) ((h (first k)).by.plain k a j plain lasts))
        (in_cases a (g.by.grows k).arrivals.0 ((h (first k)).by.grows k).arrivals.0 i);
    fed = λ k e i. ⊎_elim (λ j. g.by.fed k e j) (λ j. (h (first k)).by.fed k e j) (in_cases e (g.by.grows k).events.0 ((h (first k)).by.grows k).events.0 i);
  }

  pub and_then : RuledGoesBy s (λ k. then (first k) k)
  unfolding both_go
  and_then = record { by = both_go; alike = both_alike }

module _ (o : Object Request Partition) where
  each_goes : (r : Run) (p : ℕ) (es : List (Event Request)) → AreQuiet es → GoesBy r (λ k. takes_each o k r p es)
  each_goes r p [] q = goes_nowhere r
  each_goes r p (e ∷ es) (quiet, q) = goes_then r (λ k. takes o k r p e) (λ x k. takes_each o k x p es) (takes_goes o r p e quiet) (λ x. each_goes x p es q)

  -- what is asked for in one partition

  pub goes_goes : (s : RuledRun) (p : ℕ) (l : Line Request) → AsksNoCall l → RuledGoesBy s (λ k. goes o k s p l)
  goes_goes s p l q =
      let j = ruled_at o s p in
      let ms = slice_set s.masters p (masters_after j l) in
      either s (meets_full_link j.masters (asked_by j l)) (λ k. given_up s) (λ k. record { run = takes_each o k s.run p (events_by j l); masters = ms })
      (gives_up s) (with_masters s ms (λ k. takes_each o k s.run p (events_by j l)) (each_goes s.run p (events_by j l) (events_quiet j l q)))

  pub goes_in_goes : (s : RuledRun) (l : Line Request) (ps : List ℕ) → AsksNoCall l → RuledGoesBy s (λ k. goes_in o k s l ps)
  goes_in_goes s l [] q = stays s
  goes_in_goes s l (p ∷ ps) q = and_then s (λ k. goes o k s p l) (λ x k. goes_in o k x l ps) (goes_goes s p l q) (λ x. goes_in_goes x l ps q)

  -- flows

  pub flowed_goes : (s : RuledRun) (p most : ℕ) → RuledGoesBy s (λ k. flowed o k s p most)
  flowed_goes s p zero = stays s
  flowed_goes s p (suc most) = go (link_to_member (world_at o s.run p)) (λ x. flowed_goes x p most)
    where
      go : (next : Option Link) → ((x : RuledRun) → RuledGoesBy x (λ k. flowed o k x p most)) → RuledGoesBy s (λ k. flowed_on o k s p most next)
      go None on = stays s
      go (Some l) on = and_then s (λ k. goes o k s p (Asks (delivery_on l))) (λ x k. flowed o k x p most) (goes_goes s p (Asks (delivery_on l)) refl) on

  pub flowed_in_goes : (s : RuledRun) (most : ℕ) (ps : List ℕ) → RuledGoesBy s (λ k. flowed_in o k s most ps)
  flowed_in_goes s most [] = stays s
  flowed_in_goes s most (p ∷ ps) = and_then s (λ k. flowed o k s p most) (λ x k. flowed_in o k x most ps) (flowed_goes s p most) (λ x. flowed_in_goes x most ps)

  pub between_goes : (s : RuledRun) (p most : ℕ) → RuledGoesBy s (λ k. flowed_between o k s p most)
  between_goes s p zero = stays s
  between_goes s p (suc most) = go (link_between (masters_at s p)) (λ x. between_goes x p most)
    where
      go : (next : Option Link) → ((x : RuledRun) → RuledGoesBy x (λ k. flowed_between o k x p most)) → RuledGoesBy s (λ k. between_on o k s p most next)
      go None on = stays s
      go (Some l) on = and_then s (λ k. goes o k s p (handing_over l)) (λ x k. flowed_between o k x p most) (goes_goes s p (handing_over l) tt) on

  -- lines

  own_goes : (s : RuledRun) (l : ScriptLine) → RuledGoesBy s (λ k. by_grid o k s l)
  own_goes s l = with_masters s s.masters (λ k. alone.after_line o k s.run l) (line_goes o s.run l)

  partition_goes : (s : RuledRun) (l : ScriptLine) (a : Option Asked) → IsQuietAsked a → RuledGoesBy s (λ k. by_partition o k s l a)
  partition_goes s l None q = own_goes s l
  partition_goes s l (Some a) q = counted_first s (λ k. goes o k (counted s) a.partition a.line) (goes_goes (counted s) a.partition a.line q)

  all_goes : (s : RuledRun) (l : Line Request) → AsksNoCall l → RuledGoesBy s (λ k. goes_in o k (counted s) l (numbers_below partitions))
  all_goes s l q = counted_first s (λ k. goes_in o k (counted s) l (numbers_below partitions)) (goes_in_goes (counted s) l (numbers_below partitions) q)

  just_counted : (s : RuledRun) → RuledGoesBy s (λ k. counted s)
  just_counted s = counted_first s (λ k. counted s) (stays (counted s))

  ruled_goes : (s : RuledRun) (l : ScriptLine) → RuledGoesBy s (λ k. ruled_line o k s l)
  ruled_goes s line.Masters = just_counted s
  ruled_goes s (line.Rebalance most) = just_counted s
  ruled_goes s (line.Flow p most) = counted_first s (λ k. flowed o k (counted s) p most) (flowed_goes (counted s) p most)
  ruled_goes s (line.FlowAll most) = counted_first s (λ k. flowed_in o k (counted s) most (numbers_below partitions)) (flowed_in_goes (counted s) most (numbers_below partitions))
  ruled_goes s (line.MasterFlow p most) = counted_first s (λ k. flowed_between o k (counted s) p most) (between_goes (counted s) p most)
  ruled_goes s (line.Told m x) = all_goes s (Told m x) tt
  ruled_goes s (line.Crash m) = all_goes s (Asks (Crash m)) refl
  ruled_goes s (line.Detect m) = all_goes s (Asks (Detect m)) refl
  ruled_goes s l = partition_goes s l (asked_at l) (asked_quiet l)

  unruled_goes : (s : RuledRun) (l : ScriptLine) → RuledGoesBy s (λ k. unruled o k s l)
  unruled_goes s line.Masters =
      either s (s.run.lines == 1) (λ k. record (counted s) { masters = opening_masters s.run.members }) (λ k. by_grid o k s line.Masters)
      (with_masters s (opening_masters s.run.members) (λ k. next_line s.run) (just_counted s).by) (own_goes s line.Masters)
  unruled_goes s l = own_goes s l

  pub ruled_line_goes : (s : RuledRun) (l : ScriptLine) → RuledGoesBy s (λ k. after_line o k s l)
  ruled_line_goes s l = either s (has_masters s) (λ k. ruled_line o k s l) (λ k. unruled o k s l) (ruled_goes s l) (unruled_goes s l)

  pub ruled_lines_go : (s : RuledRun) (ls : List ScriptLine) → RuledGoesBy s (λ k. after_lines o k s ls)
  ruled_lines_go s [] = stays s
  ruled_lines_go s (l ∷ ls) = and_then s (λ k. after_line o k s l) (λ x k. after_lines o k x ls) (ruled_line_goes s l) (λ x. ruled_lines_go x ls)

  pub ruled_line_grows : (k : List CallId) (s : RuledRun) (l : ScriptLine) → Grows s.run (after_line o k s l).run
  ruled_line_grows k s l = (ruled_line_goes s l).by.grows k

  pub ruled_lines_grow : (k : List CallId) (s : RuledRun) (ls : List ScriptLine) → Grows s.run (after_lines o k s ls).run
  ruled_lines_grow k s ls = (ruled_lines_go s ls).by.grows k
