-- How many entries the trails of a run have, and that they are no more than its arrivals and reopenings.
use Rattle.std.proofs.Common.{◌≡◌, ℕ, zero, suc, ◌+◌, ◌*◌, ◌≤◌, ◌<◌, ◌^◌, ◌==◌, Bool, true, false, cond, List, [], ◌∷◌, length, map, filter, drop, refl, ap, ◌∙◌, arith, length-append, add-one}
use Rattle.std.specs.Prelude.{nat_lt, count_by}
use Rattle.std.specs.List.{sum_by, flat_map}
use Rattle.std.proofs.lemmas.Bool.Decides.{nat_tests}
use Rattle.std.proofs.lemmas.List.Sums.{sum_by-cons, sum_by_push}
use Rattle.grid_base.specs.Objects.{Object}
use Rattle.grid_base.specs.declared.calls.Request.{Request}
use Rattle.object_store.specs.Partitions.{Partition}
use Rattle.partition_protocol.specs.History.{Entry, Called, Reset}
use Rattle.partition_protocol.specs.Service.{numbers_below}
use Rattle.partition_protocol.specs.World.{trail}
use Rattle.partition_protocol.proofs.HistorySizes.{part_length}
use Rattle.script_lang.specs.Limits.{most_lines}
use Rattle.replay_run.specs.Runs.{Run, Arrival, Reopened, partitions, bytes_of, reopened_at, world_at}
use Rattle.replay_run.specs.Printing.{printed_from, entries_of, all_entries}
use Rattle.replay_run.specs.Rebalancing.{most_line_events}
use Rattle.replay_run.specs.ScriptRuns.{IsRun}
use Rattle.replay_run.specs.Grids.{IsSmall, IsBounded, most_arriving}
use Rattle.replay_run.proofs.Bounds.{sum_more, sum_both, messages_in, messages_fewer, arrivals_fewer}
use Rattle.replay_run.proofs.Hearing.{header}
use Rattle.replay_run.proofs.Parts.{subsequence_part}
use Rattle.replay_run.proofs.Stamps.{AreStamped}
use Rattle.replay_run.proofs.Trails.{executed, asked}
use Rattle.replay_run.proofs.RunFacts.{RunOk, asked_of, is_of, safe, log_part}
use Rattle.replay_run.proofs.RunsOfLines.{run_ok}

length_map : {X Y : Type 0} (f : X → Y) (xs : List X) → length (map f xs) ≡ length xs
length_map f [] = refl
length_map f (x ∷ xs) = ap (λ n. suc n) (length_map f xs)

-- one is printed for each entry
length_printed : (r : Run) (p place : ℕ) (lines : List ℕ) (es : List (Entry Request)) → length (printed_from r p place lines es) ≡ length es
length_printed r p place lines [] = refl
length_printed r p place lines (Called x ∷ es) = ap (λ n. suc n) (length_printed r p (place + 1) lines es)
length_printed r p place lines (Reset version ∷ es) = ap (λ n. suc n) (length_printed r p (place + 1) (drop 1 lines) es)

-- one partition more
pub sum_by_one_more : (f : ℕ → ℕ) (n : ℕ) → sum_by f (numbers_below (n + 1)) ≡ sum_by f (numbers_below n) + f n
sum_by_one_more f n = ap (λ k. sum_by f (numbers_below k)) (add-one n) ∙ sum_by_push f (numbers_below n) n

pub count_more : (t : ℕ → Bool) (n : ℕ) → count_by t (numbers_below (n + 1)) ≡ count_by t (numbers_below n) + cond (t n) 1 0
count_more t n = sum_by_one_more (λ p. cond (t p) 1 0) n

-- sums below a bound

pub below_first : (a b whole : ℕ) → whole ≡ a + b → whole < 2 ^ 128 → a < 2 ^ 128
below_first a b whole is small = omega (arith, is, small)

pub below_both : (x y a b whole : ℕ) → x ≡ a → y ≡ b → whole ≡ a + b → whole < 2 ^ 128 → x + y < 2 ^ 128
below_both x y a b whole first second is small = omega (arith, first, second, is, small)

-- What four bytes count: as many entries as calls and reopenings, where these are of no more lines than a script may have, and each has few reopenings.
few_entries : (whole calls resets messages bytes lines : ℕ) → whole ≤ calls + resets → calls ≤ messages → header * messages ≤ bytes → 2 * bytes ≤ most_arriving * lines → resets ≤ most_line_events * lines → lines ≤ most_lines → whole < 2 ^ 32
few_entries whole calls resets messages bytes lines few come sized small reopened within = omega (arith, few, come, sized, small, reopened, within)

pub field_below : (whole : ℕ) → whole < 2 ^ 32 → whole < 2 ^ 128
field_below whole small = omega (arith, small)

module _ {State : Type 0} (o : Object Request State) (r : Run) where
  -- how many entries a partition's trail has
  abbrev pub entries_at : ℕ → ℕ
  entries_at p = length (trail (world_at o r p))

  all_printed : (ps : List ℕ) → length (flat_map (entries_of o r) ps) ≡ sum_by entries_at ps
  all_printed [] = refl
  all_printed (p ∷ ps) =
      let rest = all_printed ps in
      let here = length_printed r p 0 (reopened_at p r.reopened) (trail (world_at o r p)) in
      let both = length-append (entries_of o r p) (flat_map (entries_of o r) ps) in
      let whole = sum_by-cons entries_at p ps in
      omega (arith, rest, here, both, whole)

  pub length-all_entries : length (all_entries o r) ≡ sum_by entries_at (numbers_below partitions)
  length-all_entries = all_printed (numbers_below partitions)

-- each of the numbers is one's own

one_below : (k n : ℕ) → sum_by (λ p. cond (k == p) 1 0) (numbers_below n) ≡ cond (nat_lt k n) 1 0
one_below k zero = grind (arith, nat_tests)
one_below k (suc n) =
    let before = one_below k n in
    let more = sum_by_push (λ p. cond (k == p) 1 0) (numbers_below n) n in
    let step = below_step k n in
    omega (arith, before, more, step)
  where
    below_step : (k n : ℕ) → cond (nat_lt k n) 1 0 + cond (k == n) 1 0 ≡ cond (nat_lt k (suc n)) 1 0
    below_step k n = grind (arith, nat_tests)

at_most_one : (b : Bool) → cond b 1 0 ≤ 1
at_most_one true = omega arith
at_most_one false = omega arith

-- elements by their numbers are no more than there are
by_numbers : {X : Type 0} (number : X → ℕ) (xs : List X) (n : ℕ) → sum_by (λ p. length (filter (λ x. number x == p) xs)) (numbers_below n) ≤ length xs
by_numbers number [] n = none (numbers_below n)
  where
    none : (ps : List ℕ) → sum_by (λ p. 0) ps ≤ 0
    none [] = omega arith
    none (p ∷ ps) = let rest = none ps in let whole = sum_by-cons (λ q. 0) p ps in omega (arith, rest, whole)
by_numbers {X = X} number (x ∷ xs) n =
    let rest = by_numbers number xs n in
    let one = one_below (number x) n in
    let few = at_most_one (nat_lt (number x) n) in
    let both = sum_both (λ p. cond (number x == p) 1 0) (λ p. length (filter (λ y. number y == p) xs)) (numbers_below n) in
    let more = sum_more (λ p. length (filter (λ y. number y == p) (x ∷ xs))) (λ p. cond (number x == p) 1 0 + length (filter (λ y. number y == p) xs)) (numbers_below n) (λ p i. at p (number x == p)) in
    omega (arith, rest, one, few, both, more)
  where
    at : (p : ℕ) (b : Bool) → length (cond b (x ∷ filter (λ y. number y == p) xs) (filter (λ y. number y == p) xs)) ≤ cond b 1 0 + length (filter (λ y. number y == p) xs)
    at p true = omega arith
    at p false = omega arith

-- a log has its calls, and a reset for each line
length_stamped : (come : List Arrival) (since now : ℕ) (lines : List ℕ) (es : List (Entry Request)) → AreStamped come since now lines es → length es ≡ length (executed es) + length lines
length_stamped come since now lines [] h = let none = ap length h.0 in omega (arith, none)
length_stamped come since now lines (Called x ∷ es) (a, i, e, l, h) = let rest = length_stamped come a.made now lines es h in omega (arith, rest)
length_stamped come since now [] (Reset version ∷ es) h = absurd h
length_stamped come since now (line ∷ lines) (Reset version ∷ es) (l, h) = let rest = length_stamped come line now lines es h in omega (arith, rest)

module _ {State : Type 0} (o : Object Request State) (r : Run) (ok : RunOk o r) where
  -- a trail is a part of the log, whose calls are arrivals of the partition
  entries_few : (p : ℕ) → entries_at o r p ≤ length (filter (is_of p) r.arrivals) + length (filter (λ (x : Reopened). x.partition == p) r.reopened)
  entries_few p =
      let log = (world_at o r p).recorded.log in
      let part = part_length (trail (world_at o r p)) log (subsequence_part (trail (world_at o r p)) log (safe o r ok.members ok.of_arrivals p).0.in_order) in
      let logged = length_stamped r.arrivals 0 r.lines (reopened_at p r.reopened) log (ok.of_reopenings.stamped p) in
      let calls = part_length (map asked (executed log)) (map asked_of (filter (is_of p) r.arrivals)) (log_part o r ok.members ok.of_arrivals p) in
      let left = length_map asked (executed log) in
      let right = length_map asked_of (filter (is_of p) r.arrivals) in
      let lines = length_map (λ (x : Reopened). x.line) (filter (λ (x : Reopened). x.partition == p) r.reopened) in
      omega (arith, part, logged, calls, left, right, lines)

  -- those of so many partitions
  pub all_entries_few : (n : ℕ) → sum_by (entries_at o r) (numbers_below n) ≤ length r.arrivals + length r.reopened
  all_entries_few n =
      let more = sum_more (entries_at o r) (λ p. length (filter (is_of p) r.arrivals) + length (filter (λ (x : Reopened). x.partition == p) r.reopened)) (numbers_below n) (λ p i. entries_few p) in
      let both = sum_both (λ p. length (filter (is_of p) r.arrivals)) (λ p. length (filter (λ (x : Reopened). x.partition == p) r.reopened)) (numbers_below n) in
      let calls = by_numbers (λ (a : Arrival). a.request.partition) r.arrivals n in
      let resets = by_numbers (λ (x : Reopened). x.partition) r.reopened n in
      omega (arith, more, both, calls, resets)

-- and of a run of no more lines than a script may have: four bytes count them
pub entries_fit : (o : Object Request Partition) (r : Run) → IsRun o r → IsSmall r → IsBounded r → sum_by (entries_at o r) (numbers_below partitions) < 2 ^ 32
entries_fit o r is small bounded =
    few_entries (sum_by (entries_at o r) (numbers_below partitions)) (length r.arrivals) (length r.reopened) (messages_in r) (bytes_of r) r.lines
    (all_entries_few o r (run_ok is) partitions) (let fewer = arrivals_fewer r is in omega (arith, fewer)) (messages_fewer r) small bounded.reopenings bounded.lines
