-- What is asked for in a partition extends its lines, unless the run is given up; and other partitions stay.
use Rattle.std.proofs.Common.{◌≡◌, ◌≢◌, ℕ, zero, suc, ◌<◌, ◌≤◌, Bool, true, false, cond, List, [], ◌∷◌, ◌++◌, length, slice_get, slice_set, unwrap_or, get_or, refl, ap, sym, ◌∙◌, subst, true≢false, append-nil, ⊎_elim, arith}
use Rattle.std.proofs.lemmas.Option.{slice_get-get_or}
use Rattle.grid_base.specs.Objects.{Object}
use Rattle.grid_base.specs.declared.names.CallId.{CallId}
use Rattle.grid_base.specs.declared.calls.Request.{Request}
use Rattle.object_store.specs.Partitions.{Partition}
use Rattle.partition_protocol.specs.Events.{Event}
use Rattle.partition_protocol.specs.Events as partition
use Rattle.partition_protocol.specs.Service.{numbers_below}
use Rattle.partition_protocol.specs.World as world
use Rattle.partition_protocol.proofs.Lists.{on_if, set_get_same, set_get_other}
use Rattle.partition_protocol.proofs.RowFacts.{false_or_not, number_cases}
use Rattle.masters_protocol.specs.Machine.{Masters}
use Rattle.masters_protocol.specs.Machine as masters
use Rattle.masters_protocol.proofs.Lists.{length_set}
use Rattle.masters_world.specs.Decisions.{Decision}
use Rattle.masters_world.specs.Machine.{Ruled, Line, start, asked_by, masters_after, events_by, after}
use Rattle.masters_world.proofs.Theorem.{world_goes, every_run_is_well_ruled}
use Rattle.replay_run.specs.Runs.{Run, events_at, world_at, meets_full, takes}
use Rattle.replay_run.proofs.EventRuns.{IsFull, Kept, kept_refl, kept_trans, takes_kept, takes_nothing, takes_elsewhere, takes_full}
use Rattle.masters_run.specs.Runs.{RuledRun, masters_at, ruled_at, meets_full_link, takes_each, given_up, goes, goes_in, flowed, flowed_in, flowed_between}
use Rattle.masters_run.specs.Standing.{IsOfLines}
use Rattle.masters_run.proofs.Extending.{AreCalls, HasCalls, takes_calls, asking, extended, extended_by_calls}
use Rattle.masters_run.proofs.RuledRuns.{flowed_keeps, flowed_in_keeps, between_keeps}

-- A partition that stands for lines is what the composite is after them.
pub at_lines : {State : Type 0} (o : Object Request State) (s : RuledRun) (p : ℕ) (lines : List (Line Request)) → IsOfLines o s p lines → ruled_at o s p ≡ after o (start p s.run.members s.run.backups) lines
at_lines o s p lines of =
    let first : Ruled Request = start p s.run.members s.run.backups in
    let gone = ap (λ es. partition.run o first.world es) (sym of.happened) ∙ world_goes o first lines in
    ap (λ m. record { masters = m; world = world_at o s.run p }) (sym of.masters) ∙ ap (λ w. record { masters = (after o first lines).masters; world = w }) gone

-- So a line makes one event at most there.
pub single_at : {State : Type 0} (o : Object Request State) (s : RuledRun) (p : ℕ) (lines : List (Line Request)) → IsOfLines o s p lines → 1 ≤ s.run.members → s.run.members ≤ 8 → (l : Line Request) → length (events_by (ruled_at o s p) l) ≤ 1
single_at o s p lines of some most l =
    let well = every_run_is_well_ruled o p s.run.members s.run.backups lines some most in
    subst (λ (j : Ruled Request). length (events_by j l) ≤ 1) (sym (at_lines o s p lines of)) (well.single l)

-- a partition's own masters, once they are set
pub masters_set : (s : RuledRun) (r : Run) (p : ℕ) (w : Masters Decision) → p < length s.masters → masters_at (record { run = r; masters = slice_set s.masters p w }) p ≡ w
masters_set s r p w low = ap (λ m. unwrap_or m (masters.start r.members)) (set_get_same s.masters p w (get_or s.masters p w) (slice_get-get_or s.masters p w low))

-- and those of the others
pub masters_other : (s : RuledRun) (r : Run) (p q : ℕ) (w : Masters Decision) → q ≢ p → r.members ≡ s.run.members → masters_at (record { run = r; masters = slice_set s.masters p w }) q ≡ masters_at s q
masters_other s r p q w other same = ap (λ m. unwrap_or m (masters.start r.members)) (set_get_other s.masters p q w other) ∙ ap (λ n. unwrap_or (slice_get s.masters q) (masters.start n)) same

-- What happens to one partition as a run goes on.

-- nothing
pub record Stays (s next : RuledRun) (p : ℕ) : Type 0 where
  pub members : next.run.members ≡ s.run.members
  pub backups : next.run.backups ≡ s.run.backups
  pub masters : masters_at next p ≡ masters_at s p
  pub here : events_at p next.run.events ≡ events_at p s.run.events

-- calls
pub record CallsCome (s next : RuledRun) (p : ℕ) : Type 0 where
  pub calls : List (Event Request)
  pub are : AreCalls calls
  pub members : next.run.members ≡ s.run.members
  pub backups : next.run.backups ≡ s.run.backups
  pub masters : masters_at next p ≡ masters_at s p
  pub here : events_at p next.run.events ≡ events_at p s.run.events ++ calls

-- a line, and calls that had turns behind it
pub record LineComes {State : Type 0} (o : Object Request State) (s next : RuledRun) (p : ℕ) (l : Line Request) : Type 0 where
  pub calls : List (Event Request)
  pub are : AreCalls calls
  pub members : next.run.members ≡ s.run.members
  pub backups : next.run.backups ≡ s.run.backups
  pub masters : masters_at next p ≡ masters_after (ruled_at o s p) l
  pub here : events_at p next.run.events ≡ (events_at p s.run.events ++ events_by (ruled_at o s p) l) ++ calls

pub stays_refl : (s : RuledRun) (p : ℕ) → Stays s s p
stays_refl s p = record { members = refl; backups = refl; masters = refl; here = refl }

pub stays_trans : {s mid next : RuledRun} {p : ℕ} → Stays s mid p → Stays mid next p → Stays s next p
stays_trans a b = record { members = b.members ∙ a.members; backups = b.backups ∙ a.backups; masters = b.masters ∙ a.masters; here = b.here ∙ a.here }

pub no_calls : {s next : RuledRun} {p : ℕ} → Stays s next p → CallsCome s next p
no_calls {s} {next} {p} h = record { calls = []; are = tt; members = h.members; backups = h.backups; masters = h.masters; here = h.here ∙ sym (append-nil (events_at p s.run.events)) }

-- where nothing happens, the partition is as it was
pub ruled_stays : (o : Object Request Partition) (s next : RuledRun) (p : ℕ) → Stays s next p → ruled_at o next p ≡ ruled_at o s p
ruled_stays o s next p h = λ i. record { masters = h.masters i; world = partition.run o (world.start p (h.members i) (h.backups i)) (h.here i) }

pub line_then_stays : (o : Object Request Partition) (s mid next : RuledRun) (p : ℕ) (l : Line Request) → LineComes o s mid p l → Stays mid next p → LineComes o s next p l
line_then_stays o s mid next p l a b = record { calls = a.calls; are = a.are; members = b.members ∙ a.members; backups = b.backups ∙ a.backups; masters = b.masters ∙ a.masters; here = b.here ∙ a.here }

pub stays_then_line : (o : Object Request Partition) (s mid next : RuledRun) (p : ℕ) (l : Line Request) → Stays s mid p → LineComes o mid next p l → LineComes o s next p l
stays_then_line o s mid next p l a b =
    let same = ruled_stays o s mid p a in
    record {
      calls = b.calls;
      are = b.are;
      members = b.members ∙ a.members;
      backups = b.backups ∙ a.backups;
      masters = b.masters ∙ ap (λ (j : Ruled Request). masters_after j l) same;
      here = b.here ∙ ap (λ es. (es ++ events_by (ruled_at o mid p) l) ++ b.calls) a.here ∙ ap (λ (j : Ruled Request). (events_at p s.run.events ++ events_by j l) ++ b.calls) same;
    }

-- So its lines are more by these.

pub calls_extend : {State : Type 0} (o : Object Request State) (s next : RuledRun) (p : ℕ) (h : CallsCome s next p) (lines : List (Line Request)) → IsOfLines o s p lines → IsOfLines o next p (lines ++ asking h.calls)
calls_extend o s next p h lines of = extended_by_calls o s next p lines h.calls of h.are h.members h.backups h.masters h.here

pub line_extends : {State : Type 0} (o : Object Request State) (s next : RuledRun) (p : ℕ) (l : Line Request) (h : LineComes o s next p l) (lines : List (Line Request)) → IsOfLines o s p lines → IsOfLines o next p (lines ++ l ∷ asking h.calls)
line_extends o s next p l h lines of =
    let here = at_lines o s p lines of in
    extended o s next p lines l h.calls of h.are h.members h.backups (h.masters ∙ ap (λ (j : Ruled Request). masters_after j l) here) (h.here ∙ ap (λ (j : Ruled Request). (events_at p s.run.events ++ events_by j l) ++ h.calls) here)

-- Events are taken.

module _ (o : Object Request Partition) (skips : List CallId) where
  pub each_kept : (r : Run) (p : ℕ) (es : List (Event Request)) → Kept r (takes_each o skips r p es)
  each_kept r p [] = kept_refl r
  each_kept r p (e ∷ es) = kept_trans (takes_kept o skips r p e) (each_kept (takes o skips r p e) p es)

  pub each_elsewhere : (r : Run) (p q : ℕ) (es : List (Event Request)) → q ≢ p → events_at q (takes_each o skips r p es).events ≡ events_at q r.events
  each_elsewhere r p q [] other = refl
  each_elsewhere r p q (e ∷ es) other = each_elsewhere (takes o skips r p e) p q es other ∙ takes_elsewhere o skips r p e q other

  pub each_full : (r : Run) (p : ℕ) (es : List (Event Request)) → r.full ≡ true → (takes_each o skips r p es).full ≡ true
  each_full r p [] full = full
  each_full r p (e ∷ es) full = each_full (takes o skips r p e) p es (takes_full o skips r p e full)

  -- One at most, and behind it come calls.
  pub one_taken : (r : Run) (p : ℕ) (es : List (Event Request)) → length es ≤ 1 → (takes_each o skips r p es).full ≡ false → HasCalls r p (events_at p r.events ++ es) (takes_each o skips r p es)
  one_taken r p [] few goes_on = record { calls = []; are = tt; here = sym (append-nil (events_at p r.events ++ []) ∙ append-nil (events_at p r.events)); members = refl; backups = refl }
  one_taken r p (e ∷ f ∷ es) few goes_on = absurd (omega (arith, few))
  one_taken r p (e ∷ []) few goes_on =
      takes_calls o skips r p e (false_or_not (meets_full (world_at o r p) e) (λ full. true≢false (sym (takes_nothing o skips r p e full) ∙ goes_on)))

-- What is asked for in a partition

module _ (o : Object Request Partition) (skips : List CallId) (s : RuledRun) (p : ℕ) (l : Line Request) where
  -- once the masters of the partition were asked
  abbrev pub asked_run : RuledRun
  asked_run = record { run = takes_each o skips s.run p (events_by (ruled_at o s p) l); masters = slice_set s.masters p (masters_after (ruled_at o s p) l) }

  abbrev pub is_held_up : Bool
  is_held_up = meets_full_link (masters_at s p) (asked_by (ruled_at o s p) l)

  pub goes_up : is_held_up ≡ true → goes o skips s p l ≡ given_up s
  goes_up held = ap (λ b. cond b (given_up s) asked_run) held

  pub goes_far : is_held_up ≡ false → goes o skips s p l ≡ asked_run
  goes_far free = ap (λ b. cond b (given_up s) asked_run) free

  -- unless it is given up, the masters were asked
  pub goes_free : (goes o skips s p l).run.full ≡ false → is_held_up ≡ false
  goes_free goes_on = false_or_not is_held_up (λ held. true≢false (sym (ap (λ (x : RuledRun). x.run.full) (goes_up held)) ∙ goes_on))

  pub goes_count : length (goes o skips s p l).masters ≡ length s.masters
  goes_count = on_if (λ (x : RuledRun). length x.masters ≡ length s.masters) is_held_up (given_up s) asked_run refl (length_set s.masters p (masters_after (ruled_at o s p) l))

  pub goes_kept : Kept s.run (goes o skips s p l).run
  goes_kept = on_if (λ (x : RuledRun). Kept s.run x.run) is_held_up (given_up s) asked_run (kept_up s.run) (each_kept o skips s.run p (events_by (ruled_at o s p) l))
    where
      kept_up : (r : Run) → Kept r (record r { full = true })
      kept_up r = record { members = refl; backups = refl; lines = refl; moments = refl; connections = refl; calls = omega arith }

  pub goes_full : s.run.full ≡ true → (goes o skips s p l).run.full ≡ true
  goes_full full = on_if (λ (x : RuledRun). x.run.full ≡ true) is_held_up (given_up s) asked_run refl (each_full o skips s.run p (events_by (ruled_at o s p) l) full)

  pub goes_elsewhere : (q : ℕ) → q ≢ p → Stays s (goes o skips s p l) q
  goes_elsewhere q other =
      let kept = each_kept o skips s.run p (events_by (ruled_at o s p) l) in
      on_if (λ (x : RuledRun). Stays s x q) is_held_up (given_up s) asked_run (record { members = refl; backups = refl; masters = refl; here = refl })
      (record {
        members = kept.members;
        backups = kept.backups;
        masters = masters_other s asked_run.run p q (masters_after (ruled_at o s p) l) other kept.members;
        here = each_elsewhere o skips s.run p q (events_by (ruled_at o s p) l) other;
      })

  pub goes_comes : p < length s.masters → length (events_by (ruled_at o s p) l) ≤ 1 → (goes o skips s p l).run.full ≡ false → LineComes o s (goes o skips s p l) p l
  goes_comes low few goes_on =
      let far = goes_far (goes_free goes_on) in
      let took = one_taken o skips s.run p (events_by (ruled_at o s p) l) few (sym (ap (λ (x : RuledRun). x.run.full) far) ∙ goes_on) in
      subst (λ (x : RuledRun). LineComes o s x p l) (sym far) (record {
        calls = took.calls;
        are = took.are;
        members = took.members;
        backups = took.backups;
        masters = masters_set s asked_run.run p (masters_after (ruled_at o s p) l) low;
        here = took.here;
      })

-- A run that is given up stays so.

module _ (o : Object Request Partition) (skips : List CallId) where
  pub goes_in_full : (s : RuledRun) (l : Line Request) (ps : List ℕ) → s.run.full ≡ true → (goes_in o skips s l ps).run.full ≡ true
  goes_in_full s l [] full = full
  goes_in_full s l (p ∷ ps) full = goes_in_full (goes o skips s p l) l ps (goes_full o skips s p l full)

  pub flowed_full : (s : RuledRun) (p most : ℕ) → s.run.full ≡ true → (flowed o skips s p most).run.full ≡ true
  flowed_full s p most full = flowed_keeps o skips IsFull (λ r up. refl) (λ r q e quiet up. takes_full o skips r q e up) s p most full

  pub flowed_in_full : (s : RuledRun) (most : ℕ) (ps : List ℕ) → s.run.full ≡ true → (flowed_in o skips s most ps).run.full ≡ true
  flowed_in_full s most ps full = flowed_in_keeps o skips IsFull (λ r up. refl) (λ r q e quiet up. takes_full o skips r q e up) s most ps full

  pub between_full : (s : RuledRun) (p most : ℕ) → s.run.full ≡ true → (flowed_between o skips s p most).run.full ≡ true
  between_full s p most full = between_keeps o skips IsFull (λ r up. refl) (λ r q e quiet up. takes_full o skips r q e up) s p most full

-- in each partition, one after the other

module _ (o : Object Request Partition) (skips : List CallId) (s : RuledRun) (l : Line Request) where
  pub goes_in-append : (x : RuledRun) (ps qs : List ℕ) → goes_in o skips x l (ps ++ qs) ≡ goes_in o skips (goes_in o skips x l ps) l qs
  goes_in-append x [] qs = refl
  goes_in-append x (p ∷ ps) qs = goes_in-append (goes o skips x p l) ps qs

  abbrev pub through : ℕ → RuledRun
  through n = goes_in o skips s l (numbers_below n)

  -- one partition more
  pub through_more : (n : ℕ) → through (suc n) ≡ goes o skips (through n) n l
  through_more n = goes_in-append s (numbers_below n) (n ∷ [])

  pub through_count : (n : ℕ) → length (through n).masters ≡ length s.masters
  through_count zero = refl
  through_count (suc n) = ap (λ (x : RuledRun). length x.masters) (through_more n) ∙ goes_count o skips (through n) n l ∙ through_count n

  pub through_kept : (n : ℕ) → Kept s.run (through n).run
  through_kept zero = kept_refl s.run
  through_kept (suc n) = subst (λ (x : RuledRun). Kept s.run x.run) (sym (through_more n)) (kept_trans (through_kept n) (goes_kept o skips (through n) n l))

  pub through_full : (n : ℕ) → s.run.full ≡ true → (through n).run.full ≡ true
  through_full zero full = full
  through_full (suc n) full = ap (λ (x : RuledRun). x.run.full) (through_more n) ∙ goes_full o skips (through n) n l (through_full n full)

  -- those to come stay
  pub still_to_come : (n q : ℕ) → n ≤ q → Stays s (through n) q
  still_to_come zero q high = stays_refl s q
  still_to_come (suc n) q high =
      subst (λ (x : RuledRun). Stays s x q) (sym (through_more n))
      (stays_trans (still_to_come n q (omega (arith, high))) (goes_elsewhere o skips (through n) n l q (omega (arith, high))))

  -- and in each before them the line came

  -- where it came to those before this one, so it does to this one
  came_on : (n : ℕ) → n < length s.masters → length (events_by (ruled_at o s n) l) ≤ 1 → (goes o skips (through n) n l).run.full ≡ false → ((q : ℕ) → q < n → LineComes o s (through n) q l) → (q : ℕ) → q < suc n
      → LineComes o s (goes o skips (through n) n l) q l
  came_on n within few on earlier q low = ⊎_elim here before (number_cases q n)
    where
      own : LineComes o s (goes o skips (through n) n l) n l
      own =
          let same = ruled_stays o s (through n) n (still_to_come n n (omega arith)) in
          let alone = subst (λ (j : Ruled Request). length (events_by j l) ≤ 1) (sym same) few in
          let count = through_count n in
          stays_then_line o s (through n) (goes o skips (through n) n l) n l (still_to_come n n (omega arith)) (goes_comes o skips (through n) n l (omega (arith, within, count)) alone on)

      here : q ≡ n → LineComes o s (goes o skips (through n) n l) q l
      here same = subst (λ k. LineComes o s (goes o skips (through n) n l) k l) (sym same) own

      before : q ≢ n → LineComes o s (goes o skips (through n) n l) q l
      before other = line_then_stays o s (through n) (goes o skips (through n) n l) q l (earlier q (omega (arith, low, other))) (goes_elsewhere o skips (through n) n l q other)

  pub line_came : (n : ℕ) → n ≤ length s.masters → ((q : ℕ) → q < n → length (events_by (ruled_at o s q) l) ≤ 1) → (through n).run.full ≡ false → (q : ℕ) → q < n → LineComes o s (through n) q l
  line_came zero within few goes_on q low = absurd (omega (arith, low))
  line_came (suc n) within few goes_on q low =
      let on : (goes o skips (through n) n l).run.full ≡ false = sym (ap (λ (x : RuledRun). x.run.full) (through_more n)) ∙ goes_on in
      let so_far = false_or_not (through n).run.full (λ full. true≢false (sym (goes_full o skips (through n) n l full) ∙ on)) in
      subst (λ (x : RuledRun). LineComes o s x q l) (sym (through_more n))
      (came_on n (omega (arith, within)) (few n (omega arith)) on (line_came n (omega (arith, within)) (λ k k_low. few k (omega (arith, k_low))) so_far) q low)
