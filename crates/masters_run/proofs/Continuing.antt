-- Each line of a grid with masters extends the lines for which its partitions stand, unless the run is given up: so every run is ruled, and the lines of a later moment begin with those of an earlier one.
use Rattle.std.proofs.Common.{◌≡◌, ◌≢◌, ℕ, zero, suc, ◌<◌, ◌≤◌, true, false, List, [], ◌∷◌, ◌++◌, length, Option, Some, None, refl, ap, sym, ◌∙◌, subst, true≢false, append-nil, append_assoc, ⊎_elim, arith}
use Rattle.grid_base.specs.Objects.{Object}
use Rattle.grid_base.specs.declared.names.CallId.{CallId}
use Rattle.grid_base.specs.declared.calls.Request.{Request}
use Rattle.object_store.specs.Partitions.{Partition}
use Rattle.partition_protocol.specs.Events.{Crash, Detect}
use Rattle.partition_protocol.specs.Service.{numbers_below}
use Rattle.partition_protocol.proofs.RowFacts.{false_or_not, number_cases}
use Rattle.partition_world.specs.declared.Link.{Link}
use Rattle.masters_world.specs.Machine.{Line, Asks, Told}
use Rattle.script_lang.specs.declared.line.Line.{Line as ScriptLine}
use Rattle.script_lang.specs.declared.line.Line.TheVariants as line
use Rattle.replay_run.specs.Runs.{partitions, world_at, delivery_on}
use Rattle.masters_run.specs.Runs.{RuledRun, masters_at, goes, goes_in, link_to_member, flowed, flowed_in, link_between, handing_over, flowed_between, counted}
use Rattle.masters_run.specs.AfterLines.{by_grid, Asked, asked_at, by_partition, ruled_line}
use Rattle.masters_run.specs.Standing.{IsOfLines, IsRuled}
use Rattle.masters_run.proofs.Extending.{asking}
use Rattle.masters_run.proofs.OwnLines.{IsPlain, asks_no_event, own_calls}
use Rattle.masters_run.proofs.RuledRuns.{flowed_on, between_on}
use Rattle.masters_run.proofs.Going.{single_at, CallsCome, no_calls, calls_extend, line_extends, goes_count, goes_kept, goes_elsewhere, goes_comes, goes_in_full, flowed_full, flowed_in_full, between_full}

-- From one run to a later one: the lines of each partition are more by these.
pub record Continues (o : Object Request Partition) (s next : RuledRun) : Type 0 where
  pub count : length next.masters ≡ length s.masters
  pub members : next.run.members ≡ s.run.members
  pub backups : next.run.backups ≡ s.run.backups
  pub more : (p : ℕ) → p < partitions → List (Line Request)
  pub on : (p : ℕ) (low : p < partitions) (lines : List (Line Request)) → IsOfLines o s p lines → IsOfLines o next p (lines ++ more p low)

-- of one partition
abbrev pub Extends : Object Request Partition → RuledRun → RuledRun → ℕ → Type 0
Extends o s next p = (more : List (Line Request)) × ((lines : List (Line Request)) → IsOfLines o s p lines → IsOfLines o next p (lines ++ more))

module _ (o : Object Request Partition) where
  pub continues_refl : (s : RuledRun) → Continues o s s
  continues_refl s = record { count = refl; members = refl; backups = refl; more = λ p low. []; on = λ p low lines of. subst (IsOfLines o s p) (sym (append-nil lines)) of }

  pub continues_trans : (s mid next : RuledRun) → Continues o s mid → Continues o mid next → Continues o s next
  continues_trans s mid next a b = record {
    count = b.count ∙ a.count;
    members = b.members ∙ a.members;
    backups = b.backups ∙ a.backups;
    more = λ p low. a.more p low ++ b.more p low;
    on = λ p low lines of. subst (IsOfLines o next p) (append_assoc lines (a.more p low) (b.more p low)) (b.on p low (lines ++ a.more p low) (a.on p low lines of));
  }

  pub by_each : (s next : RuledRun) → length next.masters ≡ length s.masters → next.run.members ≡ s.run.members → next.run.backups ≡ s.run.backups → ((p : ℕ) → p < partitions → Extends o s next p) → Continues o s next
  by_each s next count members backups each = record { count = count; members = members; backups = backups; more = λ p low. (each p low).0; on = λ p low. (each p low).1 }

  -- what is ruled stays so
  pub still_ruled : (s next : RuledRun) → Continues o s next → IsRuled o s → IsRuled o next
  still_ruled s next c is = record {
    count = c.count ∙ is.count;
    some = subst (λ n. 1 ≤ n) (sym c.members) is.some;
    most = subst (λ n. n ≤ 8) (sym c.members) is.most;
    lines = λ p low. is.lines p low ++ c.more p low;
    stands = λ p low. c.on p low (is.lines p low) (is.stands p low);
  }

  -- one step, and then another, where neither gives the run up
  pub both_continue : (s mid next : RuledRun) → (mid.run.full ≡ true → next.run.full ≡ true) → (IsRuled o s → mid.run.full ≡ false → Continues o s mid) → (IsRuled o mid → next.run.full ≡ false → Continues o mid next)
      → IsRuled o s → next.run.full ≡ false → Continues o s next
  both_continue s mid next full first then is goes_on =
      let so_far = false_or_not mid.run.full (λ up. true≢false (sym (full up) ∙ goes_on)) in
      let a = first is so_far in
      continues_trans s mid next a (then (still_ruled s mid a is) goes_on)

  -- a line of the grid's own
  pub own_continues : (skips : List CallId) (s : RuledRun) (l : ScriptLine) → IsPlain l → asked_at l ≡ None → Continues o s (by_grid o skips s l)
  own_continues skips s l plain none =
      let h = own_calls o skips s.run 0 l plain (asks_no_event l none) in
      by_each s (by_grid o skips s l) refl h.members h.backups (λ p low. (asking (come p).calls, calls_extend o s (by_grid o skips s l) p (come p)))
    where
      come : (p : ℕ) → CallsCome s (by_grid o skips s l) p
      come p =
          let h = own_calls o skips s.run p l plain (asks_no_event l none) in
          record { calls = h.calls; are = h.are; members = h.members; backups = h.backups; masters = ap (λ n. masters_at (record { run = record s.run { members = n }; masters = s.masters }) p) h.members; here = h.here }

  pub counted_continues : (s : RuledRun) → Continues o s (counted s)
  counted_continues s = by_each s (counted s) refl refl refl (λ p low. let h : CallsCome s (counted s) p = no_calls (record { members = refl; backups = refl; masters = refl; here = refl }) in (asking h.calls, calls_extend o s (counted s) p h))

  module _ (skips : List CallId) where
    pub goes_continues : (s : RuledRun) (p : ℕ) (l : Line Request) → IsRuled o s → (goes o skips s p l).run.full ≡ false → Continues o s (goes o skips s p l)
    goes_continues s p l is goes_on =
        let kept = goes_kept o skips s p l in
        by_each s (goes o skips s p l) (goes_count o skips s p l) kept.members kept.backups each
      where
        here : p < partitions → Extends o s (goes o skips s p l) p
        here low =
            let whole = is.count in
            let h = goes_comes o skips s p l (omega (arith, low, whole)) (single_at o s p (is.lines p low) (is.stands p low) is.some is.most l) goes_on in
            (l ∷ asking h.calls, line_extends o s (goes o skips s p l) p l h)

        elsewhere : (q : ℕ) → q ≢ p → Extends o s (goes o skips s p l) q
        elsewhere q other =
            let h : CallsCome s (goes o skips s p l) q = no_calls (goes_elsewhere o skips s p l q other) in
            (asking h.calls, calls_extend o s (goes o skips s p l) q h)

        each : (q : ℕ) → q < partitions → Extends o s (goes o skips s p l) q
        each q low = ⊎_elim (λ same. subst (Extends o s (goes o skips s p l)) (sym same) (here (subst (λ k. k < partitions) same low))) (elsewhere q) (number_cases q p)

    pub goes_in_continues : (s : RuledRun) (l : Line Request) (ps : List ℕ) → IsRuled o s → (goes_in o skips s l ps).run.full ≡ false → Continues o s (goes_in o skips s l ps)
    goes_in_continues s l [] is goes_on = continues_refl s
    goes_in_continues s l (p ∷ ps) is goes_on =
        let mid = goes o skips s p l in
        both_continue s mid (goes_in o skips mid l ps) (goes_in_full o skips mid l ps) (goes_continues s p l) (goes_in_continues mid l ps) is goes_on

    pub flowed_continues : (s : RuledRun) (p most : ℕ) → IsRuled o s → (flowed o skips s p most).run.full ≡ false → Continues o s (flowed o skips s p most)
    flowed_continues s p zero is goes_on = continues_refl s
    flowed_continues s p (suc most) is goes_on = go (link_to_member (world_at o s.run p)) (λ x. flowed_continues x p most) goes_on
      where
        go : (next : Option Link) → ((x : RuledRun) → IsRuled o x → (flowed o skips x p most).run.full ≡ false → Continues o x (flowed o skips x p most)) → (flowed_on o skips s p most next).run.full ≡ false
            → Continues o s (flowed_on o skips s p most next)
        go None more on = continues_refl s
        go (Some l) more on =
            let mid = goes o skips s p (Asks (delivery_on l)) in
            both_continue s mid (flowed o skips mid p most) (flowed_full o skips mid p most) (goes_continues s p (Asks (delivery_on l))) (more mid) is on

    pub flowed_in_continues : (s : RuledRun) (most : ℕ) (ps : List ℕ) → IsRuled o s → (flowed_in o skips s most ps).run.full ≡ false → Continues o s (flowed_in o skips s most ps)
    flowed_in_continues s most [] is goes_on = continues_refl s
    flowed_in_continues s most (p ∷ ps) is goes_on =
        let mid = flowed o skips s p most in
        both_continue s mid (flowed_in o skips mid most ps) (flowed_in_full o skips mid most ps) (flowed_continues s p most) (flowed_in_continues mid most ps) is goes_on

    pub between_continues : (s : RuledRun) (p most : ℕ) → IsRuled o s → (flowed_between o skips s p most).run.full ≡ false → Continues o s (flowed_between o skips s p most)
    between_continues s p zero is goes_on = continues_refl s
    between_continues s p (suc most) is goes_on = go (link_between (masters_at s p)) (λ x. between_continues x p most) goes_on
      where
        go : (next : Option Link) → ((x : RuledRun) → IsRuled o x → (flowed_between o skips x p most).run.full ≡ false → Continues o x (flowed_between o skips x p most)) → (between_on o skips s p most next).run.full ≡ false
            → Continues o s (between_on o skips s p most next)
        go None more on = continues_refl s
        go (Some l) more on =
            let mid = goes o skips s p (handing_over l) in
            both_continue s mid (flowed_between o skips mid p most) (between_full o skips mid p most) (goes_continues s p (handing_over l)) (more mid) is on

    -- lines

    -- a line is counted first
    then_continues : (s next : RuledRun) → (IsRuled o (counted s) → next.run.full ≡ false → Continues o (counted s) next) → IsRuled o s → next.run.full ≡ false → Continues o s next
    then_continues s next then is goes_on =
        let first = counted_continues s in
        continues_trans s (counted s) next first (then (still_ruled s (counted s) first is) goes_on)

    partition_continues : (s : RuledRun) (l : ScriptLine) (a : Option Asked) → IsPlain l → asked_at l ≡ a → IsRuled o s → (by_partition o skips s l a).run.full ≡ false → Continues o s (by_partition o skips s l a)
    partition_continues s l None plain asks is goes_on = own_continues skips s l plain asks
    partition_continues s l (Some a) plain asks is goes_on = then_continues s (goes o skips (counted s) a.partition a.line) (goes_continues (counted s) a.partition a.line) is goes_on

    all_continues : (s : RuledRun) (l : Line Request) → IsRuled o s → (goes_in o skips (counted s) l (numbers_below partitions)).run.full ≡ false → Continues o s (goes_in o skips (counted s) l (numbers_below partitions))
    all_continues s l = then_continues s (goes_in o skips (counted s) l (numbers_below partitions)) (goes_in_continues (counted s) l (numbers_below partitions))

    pub ruled_line_continues : (s : RuledRun) (l : ScriptLine) → IsRuled o s → (ruled_line o skips s l).run.full ≡ false → Continues o s (ruled_line o skips s l)
    ruled_line_continues s line.Masters is goes_on = counted_continues s
    ruled_line_continues s (line.Rebalance most) is goes_on = counted_continues s
    ruled_line_continues s (line.Flow p most) is goes_on = then_continues s (flowed o skips (counted s) p most) (flowed_continues (counted s) p most) is goes_on
    ruled_line_continues s (line.FlowAll most) is goes_on = then_continues s (flowed_in o skips (counted s) most (numbers_below partitions)) (flowed_in_continues (counted s) most (numbers_below partitions)) is goes_on
    ruled_line_continues s (line.MasterFlow p most) is goes_on = then_continues s (flowed_between o skips (counted s) p most) (between_continues (counted s) p most) is goes_on
    ruled_line_continues s (line.Told m x) is goes_on = all_continues s (Told m x) is goes_on
    ruled_line_continues s (line.Crash m) is goes_on = all_continues s (Asks (Crash m)) is goes_on
    ruled_line_continues s (line.Detect m) is goes_on = all_continues s (Asks (Detect m)) is goes_on
    ruled_line_continues s l is goes_on = partition_continues s l (asked_at l) tt refl is goes_on
