-- The masters of the code stand for those of the run after each step: what is asked for in a partition, a line that is the grid's own, and a line in each partition.
use Rattle.std.proofs.Common.{◌≡◌, ◌≢◌, ℕ, ◌<◌, ◌≤◌, true, false, List, [], ◌∷◌, ◌++◌, length, Some, None, slice_get, unwrap_or, refl, ap, sym, ◌∙◌, subst, ⊎_elim, append-nil, append_assoc, arith}
use Rattle.std.proofs.lemmas.Option.{slice_get-get_or}
use Rattle.std.proofs.Math.ListN.{length-replicate, get_or-replicate}
use Rattle.grid_base.specs.Objects.{Object}
use Rattle.grid_base.specs.declared.names.CallId.{CallId}
use Rattle.grid_base.specs.declared.calls.Request.{Request}
use Rattle.object_store.specs.Partitions.{Partition}
use Rattle.call_engine.specs.Calls.{Settings}
use Rattle.call_engine.specs.Objects.{partition_object}
use Rattle.partition_protocol.specs.Service.{numbers_below}
use Rattle.partition_protocol.proofs.RowFacts.{number_cases}
use Rattle.masters_protocol.specs.Machine as masters
use Rattle.master_log.specs.declared.masters.Masters.{Masters}
use Rattle.master_log.specs.Standing.{StandsFor, size_of}
use Rattle.masters_world.specs.Decisions.{Decision}
use Rattle.masters_world.specs.Machine.{Ruled, Line, start, asked_by, events_by, after, asked}
use Rattle.script_lang.specs.declared.line.Line.{Line as ScriptLine}
use Rattle.replay_run.specs.Runs.{partitions, events_at, event_by}
use Rattle.masters_run.specs.Runs.{RuledRun, are_some, has_masters, opening_masters, ruled_at, goes, goes_in, counted}
use Rattle.masters_run.specs.AfterLines.{by_grid}
use Rattle.masters_run.specs.Standing.{IsOfLines}
use Rattle.masters_run.specs.Grids.{AreMasters, HasMastersAt, Rules}
use Rattle.masters_run.specs.Written.{written_events}
use Rattle.masters_run.proofs.AskedLines.{asked_more}
use Rattle.masters_run.proofs.Extending.{calls_add_nothing, asking}
use Rattle.masters_run.proofs.OwnLines.{IsPlain, own_calls}
use Rattle.masters_run.proofs.Going.{at_lines, single_at, CallsCome, LineComes, no_calls, calls_extend, line_extends, goes_count, goes_kept, goes_elsewhere, goes_comes, through, through_count, through_kept, line_came}

-- there are masters, or none, as there were
some_alike : (xs ys : List (masters.Masters Decision)) → length xs ≡ length ys → are_some xs ≡ are_some ys
some_alike [] [] same = refl
some_alike (x ∷ xs) (y ∷ ys) same = refl
some_alike [] (y ∷ ys) same = absurd (omega (arith, same))
some_alike (x ∷ xs) [] same = absurd (omega (arith, same))

module _ (settings : Settings) where
  abbrev o : Object Request Partition
  o = partition_object settings

  -- what the masters of a partition were asked by these lines
  abbrev pub asked_of : RuledRun → ℕ → List (Line Request) → List (masters.Event Decision)
  asked_of s p lines = asked o (start p s.run.members s.run.backups) lines

  -- Calls ask nothing.
  module _ (s next : RuledRun) (p : ℕ) (members : next.run.members ≡ s.run.members) (backups : next.run.backups ≡ s.run.backups) where
    asked_still : (lines : List (Line Request)) → asked_of next p lines ≡ asked_of s p lines
    asked_still lines = λ i. asked o (start p (members i) (backups i)) lines

  pub calls_masters : (kept : Masters) (s next : RuledRun) (p : ℕ) → CallsCome s next p → AreMasters settings kept s p → AreMasters settings kept next p
  calls_masters kept s next p h a =
      let first : Ruled Request = start p s.run.members s.run.backups in
      let same : asked_of next p (a.lines ++ asking h.calls) ≡ asked_of s p a.lines = asked_still s next p h.members h.backups (a.lines ++ asking h.calls) ∙ calls_add_nothing o first a.lines h.calls h.are in
      record {
        lines = a.lines ++ asking h.calls;
        of_lines = calls_extend o s next p h a.lines a.of_lines;
        size = a.size ∙ sym h.members;
        stands = subst (λ es. StandsFor kept (written_events es)) (sym same) a.stands;
      }

  -- masters that were asked one line more
  pub line_masters : (kept : Masters) (s next : RuledRun) (p : ℕ) (l : Line Request) → LineComes o s next p l → (lines : List (Line Request)) → IsOfLines o s p lines → size_of kept ≡ s.run.members
      → StandsFor kept (written_events (asked_of s p (lines ++ l ∷ []))) → AreMasters settings kept next p
  line_masters kept s next p l h lines of size stands =
      let first : Ruled Request = start p s.run.members s.run.backups in
      let whole : lines ++ l ∷ asking h.calls ≡ (lines ++ l ∷ []) ++ asking h.calls = sym (append_assoc lines (l ∷ []) (asking h.calls)) in
      let same : asked_of next p (lines ++ l ∷ asking h.calls) ≡ asked_of s p (lines ++ l ∷ []) =
      asked_still s next p h.members h.backups (lines ++ l ∷ asking h.calls) ∙ ap (asked o first) whole ∙ calls_add_nothing o first (lines ++ l ∷ []) h.calls h.are in
      record {
        lines = lines ++ l ∷ asking h.calls;
        of_lines = line_extends o s next p l h lines of;
        size = size ∙ sym h.members;
        stands = subst (λ es. StandsFor kept (written_events es)) (sym same) stands;
      }

  -- in all partitions

  pub rules_then : (all : List Masters) (s next : RuledRun) → length all ≡ length next.masters → length next.masters ≡ length s.masters → next.run.members ≡ s.run.members
      → (has_masters s ≡ true → length s.masters ≡ partitions) → s.run.members ≤ 8 → (has_masters s ≡ true → (p : ℕ) → p < partitions → HasMastersAt settings all next p) → Rules settings all next
  rules_then all s next count same members whole most each =
      let some : has_masters next ≡ has_masters s = some_alike next.masters s.masters same in
      record {
        count = count;
        ruled = λ is. same ∙ whole (sym some ∙ is);
        each = λ is. each (sym some ∙ is);
        most = subst (λ n. n ≤ 8) (sym members) most;
      }

  -- Where only calls came, the masters are those that they were.
  pub calls_rules : (all : List Masters) (s next : RuledRun) → length next.masters ≡ length s.masters → next.run.members ≡ s.run.members → ((p : ℕ) → CallsCome s next p) → Rules settings all s → Rules settings all next
  calls_rules all s next same members come rules =
      rules_then all s next (rules.count ∙ sym same) same members rules.ruled rules.most
      (λ is p low. let at = rules.each is p low in record { masters = at.masters; there = at.there; are = calls_masters at.masters s next p (come p) at.are })

  pub own_come : (skips : List CallId) (s : RuledRun) (line : ScriptLine) → IsPlain line → event_by line ≡ None → (p : ℕ) → CallsCome s (by_grid o skips s line) p
  own_come skips s line plain none p =
      let h = own_calls o skips s.run p line plain none in
      record { calls = h.calls; are = h.are; members = h.members; backups = h.backups; masters = ap (λ n. unwrap_or (slice_get s.masters p) (masters.start n)) h.members; here = h.here }

  pub own_rules : (all : List Masters) (skips : List CallId) (s : RuledRun) (line : ScriptLine) → IsPlain line → event_by line ≡ None → Rules settings all s → Rules settings all (by_grid o skips s line)
  own_rules all skips s line plain none rules =
      let come = own_come skips s line plain none in
      calls_rules all s (by_grid o skips s line) refl (come 0).members come rules

  pub counted_rules : (all : List Masters) (s : RuledRun) → Rules settings all s → Rules settings all (counted s)
  counted_rules all s rules = calls_rules all s (counted s) refl refl (λ p. no_calls (record { members = refl; backups = refl; masters = refl; here = refl })) rules

  -- What is asked for in a partition: the masters there were asked one line more, those of the others nothing.
  pub rules_after : (all : List Masters) (s : RuledRun) (p : ℕ) (l : Line Request) (skips : List CallId) → p < partitions → length all ≡ length s.masters → length s.masters ≡ partitions → s.run.members ≤ 8
      → ((q : ℕ) → q < partitions → q ≢ p → HasMastersAt settings all s q)
      → (kept : Masters) → slice_get all p ≡ Some kept → (lines : List (Line Request)) → IsOfLines o s p lines → size_of kept ≡ s.run.members → StandsFor kept (written_events (asked_of s p (lines ++ l ∷ [])))
      → (goes o skips s p l).run.full ≡ false → Rules settings all (goes o skips s p l)
  rules_after all s p l skips low count whole most others kept there lines of size stands goes_on =
      let next = goes o skips s p l in
      let same = goes_count o skips s p l in
      rules_then all s next (count ∙ sym same) same (goes_kept o skips s p l).members (λ is. whole) most (λ is. each)
    where
      own : LineComes o s (goes o skips s p l) p l
      own =
          let some : 1 ≤ s.run.members = subst (λ n. 1 ≤ n) size stands.some in
          goes_comes o skips s p l (omega (arith, low, whole)) (single_at o s p lines of some most l) goes_on

      here : HasMastersAt settings all (goes o skips s p l) p
      here = record { masters = kept; there = there; are = line_masters kept s (goes o skips s p l) p l own lines of size stands }

      each : (q : ℕ) → q < partitions → HasMastersAt settings all (goes o skips s p l) q
      each q q_low = ⊎_elim
          (λ is. subst (HasMastersAt settings all (goes o skips s p l)) (sym is) here)
          (λ other. let at = others q q_low other in record { masters = at.masters; there = at.there; are = calls_masters at.masters s (goes o skips s p l) q (no_calls (goes_elsewhere o skips s p l q other)) at.are })
          (number_cases q p)

  -- of which the masters were asked nothing
  pub asked_nothing : (s : RuledRun) (p : ℕ) (l : Line Request) (lines : List (Line Request)) → IsOfLines o s p lines → asked_by (ruled_at o s p) l ≡ [] → asked_of s p (lines ++ l ∷ []) ≡ asked_of s p lines
  asked_nothing s p l lines of none =
      let first : Ruled Request = start p s.run.members s.run.backups in
      let here : asked_by (after o first lines) l ≡ [] = ap (λ (j : Ruled Request). asked_by j l) (sym (at_lines o s p lines of)) ∙ none in
      asked_more o first lines l ∙ ap (λ es. asked o first lines ++ es) here ∙ append-nil (asked o first lines)

  pub quiet_rules : (all : List Masters) (skips : List CallId) (s : RuledRun) (p : ℕ) (l : Line Request) → has_masters s ≡ true → p < partitions → asked_by (ruled_at o s p) l ≡ [] → (goes o skips s p l).run.full ≡ false
      → Rules settings all s → Rules settings all (goes o skips s p l)
  quiet_rules all skips s p l is low none goes_on rules =
      let at = rules.each is p low in
      rules_after all s p l skips low rules.count (rules.ruled is) rules.most (λ q q_low other. rules.each is q q_low) at.masters at.there at.are.lines at.are.of_lines at.are.size
      (subst (λ es. StandsFor at.masters (written_events es)) (sym (asked_nothing s p l at.are.lines at.are.of_lines none)) at.are.stands) goes_on

  -- A line in each partition: each of the masters was asked one more.
  pub record WereAskedIn (all new : List Masters) (s : RuledRun) (l : Line Request) (p : ℕ) (at : HasMastersAt settings all s p) : Type 0 where
    pub masters : Masters
    pub there : slice_get new p ≡ Some masters
    pub size : size_of masters ≡ s.run.members
    pub stands : StandsFor masters (written_events (asked_of s p (at.are.lines ++ l ∷ [])))

  pub goes_in_rules : (all new : List Masters) (skips : List CallId) (s : RuledRun) (l : Line Request) → length new ≡ length all → ((p : ℕ) → p < partitions → (at : HasMastersAt settings all s p) → WereAskedIn all new s l p at)
      → has_masters s ≡ true → (goes_in o skips s l (numbers_below partitions)).run.full ≡ false → Rules settings all s → Rules settings new (goes_in o skips s l (numbers_below partitions))
  goes_in_rules all new skips s l same asked_each is goes_on rules =
      let next = through o skips s l partitions in
      let count = through_count o skips s l partitions in
      rules_then new s next (same ∙ rules.count ∙ sym count) count (through_kept o skips s l partitions).members rules.ruled rules.most (λ k. each)
    where
      few : (q : ℕ) → q < partitions → length (events_by (ruled_at o s q) l) ≤ 1
      few q low =
          let at = rules.each is q low in
          single_at o s q at.are.lines at.are.of_lines (subst (λ n. 1 ≤ n) at.are.size at.are.stands.some) rules.most l

      each : (p : ℕ) → p < partitions → HasMastersAt settings new (through o skips s l partitions) p
      each p low =
          let at = rules.each is p low in
          let by = asked_each p low at in
          let whole = rules.ruled is in
          record {
            masters = by.masters;
            there = by.there;
            are = line_masters by.masters s (through o skips s l partitions) p l (line_came o skips s l partitions (omega (arith, whole)) few goes_on p low) at.are.lines at.are.of_lines by.size by.stands;
          }

-- masters as they begin, where nothing has happened

pub opening_at : (n p : ℕ) → p < partitions → slice_get (opening_masters n) p ≡ Some (masters.start {D = Decision} n)
opening_at n p low =
    let first : masters.Masters Decision = masters.start n in
    let size : length (opening_masters n) ≡ partitions = length-replicate partitions first in
    slice_get-get_or (opening_masters n) p first (subst (λ k. p < k) (sym size) low) ∙ ap Some (get_or-replicate partitions p first first low)

pub opening_of_lines : {State : Type 0} (o : Object Request State) (s : RuledRun) (p : ℕ) → p < partitions → s.masters ≡ opening_masters s.run.members → s.run.events ≡ [] → IsOfLines o s p []
opening_of_lines o s p low opens none = record {
  masters = sym (ap (λ ws. unwrap_or (slice_get ws p) (masters.start s.run.members)) opens ∙ ap (λ m. unwrap_or m (masters.start s.run.members)) (opening_at s.run.members p low));
  happened = ap (events_at p) (sym none);
}

pub opening_rules : (settings : Settings) (all : List Masters) (s : RuledRun) → s.masters ≡ opening_masters s.run.members → s.run.events ≡ [] → length all ≡ partitions → s.run.members ≤ 8
    → ((p : ℕ) → p < partitions → (kept : Masters) × (slice_get all p ≡ Some kept) × (size_of kept ≡ s.run.members) × StandsFor kept []) → Rules settings all s
opening_rules settings all s opens none count most each =
    let first : masters.Masters Decision = masters.start s.run.members in
    let whole : length s.masters ≡ partitions = ap length opens ∙ length-replicate partitions first in
    record {
      count = count ∙ sym whole;
      ruled = λ is. whole;
      each = λ is p low. let at = each p low in record {
        masters = at.0;
        there = at.1;
        are = record { lines = []; of_lines = opening_of_lines (partition_object settings) s p low opens none; size = at.2; stands = at.3 };
      };
      most = most;
    }
