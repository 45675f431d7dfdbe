-- A connection closes: its calls that wait leave, and the grid drops them from their lists.
use Rattle.std.proofs.Common.{◌≡◌, ℕ, zero, suc, ◌+◌, ◌*◌, ◌≤◌, ◌<◌, ◌==◌, Bool, true, false, not, cond, List, [], ◌∷◌, length, map, filter, Option, Some, None, Contains, refl, ap, sym, ◌∙◌, subst, inl, inr, append-nil, arith}
use Rattle.std.specs.List.{find}
use Rattle.std.proofs.Math.ListN.{get_or-map}
use Rattle.std.proofs.lemmas.List.{length-map}
use Rattle.grid_base.specs.declared.names.CallId.{CallId}
use Rattle.partition_protocol.proofs.Lists.{In, in_contains, contains_in}
use Rattle.call_engine.specs.Calls.{Settings}
use Rattle.call_engine.specs.Env.{settings_of}
use Rattle.call_engine.specs.Objects.{partition_object}
use Rattle.partition_world.specs.LinkOrder.{links_of}
use Rattle.wait_sets.specs.declared.waiter.Waiter.{Waiter as ListedWaiter}
use Rattle.wait_sets.specs.WaitSets.{is_of}
use Rattle.wait_sets.specs.Lists.{place_of}
use Rattle.replay_run.specs.declared.grid.Grid.{Grid}
use Rattle.replay_run.specs.declared.tally.Reception.TheVariants.{Taken}
use Rattle.replay_run.specs.Runs.{Run, Waiter, partitions, connection_of, is_open, events_at, is_waiter, without, ending, leaves, is_waiting_on, left_by, left_so_often, forsaken}
use Rattle.replay_run.specs.ScriptRuns.{IsRun, waiter_left}
use Rattle.replay_run.specs.Grids.{FormOf, HasTable, HasWaiters, IsTally, HasWorld, Holds, as_listed, waits_at}
use Rattle.replay_run.proofs.Arriving.{without_ok, comes_later}
use Rattle.replay_run.proofs.EventRuns.{is_other, fewer}
use Rattle.replay_run.proofs.Parts.{in_filtered}
use Rattle.replay_run.proofs.Places.{same_call}
use Rattle.replay_run.proofs.RunsOfLines.{run_ok}
use Rattle.replay_run.proofs.TableRuns.{table_alike, came_ending}
use Rattle.replay_run.proofs.Tallies.{left_so, ended_tally}
use Rattle.replay_run.proofs.Trails.{find_some}
use Rattle.replay_run.proofs.Turns.{forsaken_keeps}
use Rattle.replay_run.proofs.WorldRuns.{same_events}

-- The grid has what the run has, but for the lists of those who wait.
pub record HoldsElse {V : Type 0} {T : V → Type 0} (form : FormOf V T) (settings : Settings) (grid : Grid V T) (r : Run) : Type 0 where
  pub run : IsRun (partition_object settings) r
  pub goes_by : settings_of form grid.env ≡ settings
  pub goes_on : r.full ≡ false
  pub lines : grid.lines ≡ r.lines
  pub members : grid.members ≡ r.members
  pub links : grid.links.items ≡ links_of r.members
  pub moments : grid.moments.items ≡ r.moments
  pub clocks : length r.moments ≡ r.members
  pub table : HasTable grid.connections r
  pub tally : IsTally grid.tally r
  pub reopened : grid.reopened.items ≡ r.reopened
  pub worlds : (p : ℕ) → p < partitions → HasWorld settings grid.worlds.items r p

module _ {V : Type 0} {T : V → Type 0} {form : FormOf V T} {settings : Settings} (grid : Grid V T) where
  -- one leaves
  left_else : (r : Run) (w : Waiter) → In w r.waiters → HoldsElse form settings grid r → HoldsElse form settings grid (leaves r w)
  left_else r w i h =
      let o = partition_object settings in
      let ok = run_ok h.run in
      record {
        run = waiter_left r w h.run (contains_in w r.waiters i);
        goes_by = h.goes_by;
        goes_on = h.goes_on;
        lines = h.lines;
        members = h.members;
        links = h.links;
        moments = h.moments;
        clocks = h.clocks;
        table = table_alike grid.connections r (leaves r w) refl (append-nil r.appended) (came_ending r w ok.of_waiters i []) h.table;
        tally = ended_tally grid.tally r (leaves r w) w Taken ok.of_waiters i h.tally refl refl
            (left_so (without r w) (without_ok o r w ok) (ending r w) (comes_later o r w ok i) grid.tally h.tally.refused h.tally.memory);
        reopened = h.reopened;
        worlds = λ p low.
            (let has = h.worlds p low in
            record { world = has.world; there = has.there; is = same_events has.world r (leaves r w) p has.is (ap (events_at p) (append-nil r.events)) refl refl; given = has.given });
      }

  -- all do
  pub forsaken_else : (r : Run) (c : ℕ) → HoldsElse form settings grid r → HoldsElse form settings grid (forsaken r c)
  forsaken_else r c h = forsaken_keeps (HoldsElse form settings grid) left_else c r h

  pub but_lists : (r : Run) → IsRun (partition_object settings) r → Holds form settings grid r → HoldsElse form settings grid r
  but_lists r is h = record {
    run = is;
    goes_by = h.goes_by;
    goes_on = h.goes_on;
    lines = h.lines;
    members = h.members;
    links = h.links;
    moments = h.moments;
    clocks = h.clocks;
    table = h.table;
    tally = h.tally;
    reopened = h.reopened;
    worlds = h.worlds;
  }

-- who stays

abbrev pub stays : ℕ → Waiter → Bool
stays c w = not (is_waiting_on c w)

-- those of another connection stay, whoever of this one leaves
other_stays : (c : ℕ) (w : Waiter) → is_waiting_on c w ≡ true → (ws : List Waiter) → filter (stays c) (filter (is_other w) ws) ≡ filter (stays c) ws
other_stays c w on [] = refl
other_stays c w on (v ∷ vs) = go (is_other w v) refl (other_stays c w on vs)
  where
    go : (b : Bool) → is_other w v ≡ b → filter (stays c) (filter (is_other w) vs) ≡ filter (stays c) vs → filter (stays c) (cond b (v ∷ filter (is_other w) vs) (filter (is_other w) vs)) ≡ filter (stays c) (v ∷ vs)
    go true e rest = ap (λ xs. cond (stays c v) (v ∷ xs) xs) rest
    go false e rest =
        let named : is_waiter w.request.id v ≡ true = it (is_waiter w.request.id v) e in
        let same = same_call v.request.id w.request.id named in
        let too : stays c v ≡ false = ap (λ (id : CallId). not (id.conn == c)) same ∙ ap not on in
        rest ∙ sym (ap (λ b. cond b (v ∷ filter (stays c) vs) (filter (stays c) vs)) too)
      where
        it : (b : Bool) → not b ≡ false → b ≡ true
        it true e = refl
        it false e = absurd cc

-- two tests in either order
pub two_tests : (p q : Waiter → Bool) (xs : List Waiter) → filter p (filter q xs) ≡ filter q (filter p xs)
two_tests p q [] = refl
two_tests p q (x ∷ xs) = both (p x) (q x) refl refl (two_tests p q xs)
  where
    both : (a b : Bool) → p x ≡ a → q x ≡ b → filter p (filter q xs) ≡ filter q (filter p xs) → filter p (cond b (x ∷ filter q xs) (filter q xs)) ≡ filter q (cond a (x ∷ filter p xs) (filter p xs))
    both true true e f rest = ap (λ t. cond t (x ∷ filter p (filter q xs)) (filter p (filter q xs))) e ∙ ap (λ ys. x ∷ ys) rest ∙ sym (ap (λ t. cond t (x ∷ filter q (filter p xs)) (filter q (filter p xs))) f)
    both true false e f rest = rest ∙ sym (ap (λ t. cond t (x ∷ filter q (filter p xs)) (filter q (filter p xs))) f)
    both false true e f rest = ap (λ t. cond t (x ∷ filter p (filter q xs)) (filter p (filter q xs))) e ∙ rest
    both false false e f rest = rest

-- and of those that pass a test, as who leaves does, there is one less
pub fewer_passing : (test : Waiter → Bool) (w : Waiter) → test w ≡ true → (ws : List Waiter) → In w ws → length (filter test (filter (is_other w) ws)) + 1 ≤ length (filter test ws)
fewer_passing test w on ws i =
    let there = in_kept test ws w i on in
    let less = fewer w (filter test ws) there in
    let same = ap length (two_tests test (is_other w) ws) in
    omega (arith, less, same)
  where
    in_kept : (t : Waiter → Bool) (xs : List Waiter) (x : Waiter) → In x xs → t x ≡ true → In x (filter t xs)
    in_kept t [] x i e = absurd i
    in_kept t (y ∷ ys) x (inl s) e = let here : t y ≡ true = subst (λ z. t z ≡ true) (sym s) e in subst (λ b. In x (cond b (y ∷ filter t ys) (filter t ys))) (sym here) (inl s)
    in_kept t (y ∷ ys) x (inr j) e = later (t y) (in_kept t ys x j e)
      where
        later : (b : Bool) → In x (filter t ys) → In x (cond b (y ∷ filter t ys) (filter t ys))
        later true k = inr k
        later false k = k

-- where nobody waits on it all stay
all_stay : (c : ℕ) (ws : List Waiter) → length (filter (is_waiting_on c) ws) ≤ 0 → filter (stays c) ws ≡ ws
all_stay c [] none = refl
all_stay c (v ∷ vs) none = go (is_waiting_on c v) refl none (all_stay c vs)
  where
    go : (b : Bool) → is_waiting_on c v ≡ b → length (cond b (v ∷ filter (is_waiting_on c) vs) (filter (is_waiting_on c) vs)) ≤ 0 → (length (filter (is_waiting_on c) vs) ≤ 0 → filter (stays c) vs ≡ vs) → cond (not (is_waiting_on c v)) (v ∷ filter (stays c) vs) (filter (stays c) vs) ≡ v ∷ vs
    go true e l rest = absurd (omega (arith, l))
    go false e l rest = ap (λ b. cond (not b) (v ∷ filter (stays c) vs) (filter (stays c) vs)) e ∙ ap (λ xs. v ∷ xs) (rest l)

nobody_on : (c : ℕ) (ws : List Waiter) → find (is_waiting_on c) ws ≡ None → length (filter (is_waiting_on c) ws) ≤ 0
nobody_on c [] none = omega arith
nobody_on c (v ∷ vs) none = go (is_waiting_on c v) refl none (nobody_on c vs)
  where
    go : (b : Bool) → is_waiting_on c v ≡ b → cond b (Some v) (find (is_waiting_on c) vs) ≡ None → (find (is_waiting_on c) vs ≡ None → length (filter (is_waiting_on c) vs) ≤ 0) → length (cond b (v ∷ filter (is_waiting_on c) vs) (filter (is_waiting_on c) vs)) ≤ 0
    go true e n rest = absurd cc
    go false e n rest = rest n

left_waiters : (c n : ℕ) (r : Run) → length (filter (is_waiting_on c) r.waiters) ≤ n → (left_so_often c n r).waiters ≡ filter (stays c) r.waiters
left_waiters c zero r few = sym (all_stay c r.waiters few)
left_waiters c (suc n) r few = go (find (is_waiting_on c) r.waiters) refl (left_waiters c n)
  where
    go : (next : Option Waiter) → find (is_waiting_on c) r.waiters ≡ next → ((x : Run) → length (filter (is_waiting_on c) x.waiters) ≤ n → (left_so_often c n x).waiters ≡ filter (stays c) x.waiters) → (left_so_often c n (left_by r next)).waiters ≡ filter (stays c) r.waiters
    go None none rest = let no_more = nobody_on c r.waiters none in rest r (omega (arith, no_more))
    go (Some w) some rest =
        let k = find_some (is_waiting_on c) r.waiters w some in
        let less = fewer_passing (is_waiting_on c) w k.1 r.waiters k.0 in
        rest (leaves r w) (omega (arith, few, less)) ∙ other_stays c w k.1 r.waiters

no_more_than : (t : Waiter → Bool) (ws : List Waiter) → length (filter t ws) ≤ length ws
no_more_than t [] = omega arith
no_more_than t (w ∷ ws) = go (t w) (no_more_than t ws)
  where
    go : (b : Bool) → length (filter t ws) ≤ length ws → length (cond b (w ∷ filter t ws) (filter t ws)) ≤ length (w ∷ ws)
    go true l = omega (arith, l)
    go false l = omega (arith, l)

pub forsaken_waiters : (r : Run) (c : ℕ) → is_open (connection_of r c) ≡ false → (forsaken r c).waiters ≡ filter (stays c) r.waiters
forsaken_waiters r c closed =
    ap (λ b. (cond b r (left_so_often c (length r.waiters) r)).waiters) closed ∙ left_waiters c (length r.waiters) r (no_more_than (is_waiting_on c) r.waiters)

pub forsaken_open : (r : Run) (c : ℕ) → is_open (connection_of r c) ≡ true → forsaken r c ≡ r
forsaken_open r c lasts = ap (λ b. cond b r (left_so_often c (length r.waiters) r)) lasts

-- the lists

abbrev pub dropped : ℕ → List ListedWaiter → List ListedWaiter
dropped c list = filter (λ waiter. not (is_of c waiter)) list

listed_stays : (c : ℕ) (ws : List Waiter) → dropped c (map as_listed ws) ≡ map as_listed (filter (stays c) ws)
listed_stays c [] = refl
listed_stays c (w ∷ ws) = go (stays c w) (listed_stays c ws)
  where
    go : (b : Bool) → dropped c (map as_listed ws) ≡ map as_listed (filter (stays c) ws) → cond b (as_listed w ∷ dropped c (map as_listed ws)) (dropped c (map as_listed ws)) ≡ map as_listed (cond b (w ∷ filter (stays c) ws) (filter (stays c) ws))
    go true rest = ap (λ xs. as_listed w ∷ xs) rest
    go false rest = rest

pub dropped_lists : (lists : List (List ListedWaiter)) (r next : Run) (c : ℕ) → next.members ≡ r.members → next.waiters ≡ filter (stays c) r.waiters → HasWaiters lists r → HasWaiters (map (dropped c) lists) next
dropped_lists lists r next c members left h = record {
  size = length-map lists (dropped c) ∙ h.size ∙ ap (λ n. n * partitions) (sym members);
  listed = λ member p low below.
      get_or-map (dropped c) lists (place_of member p) []
      ∙ ap (dropped c) (h.listed member p (subst (λ n. member < n) members low) below)
      ∙ listed_stays c (filter (waits_at member p) r.waiters)
      ∙ ap (map as_listed) (two_tests (stays c) (waits_at member p) r.waiters ∙ ap (filter (waits_at member p)) (sym left));
  there = λ w i. let at = h.there w (before w i) in (subst (λ n. w.member < n) (sym members) at.0, at.1);
  fit = λ w i. h.fit w (before w i);
}
  where
    before : (w : Waiter) → Contains next.waiters w → Contains r.waiters w
    before w i = contains_in w r.waiters (in_filtered (stays c) r.waiters w (subst (In w) left (in_contains w next.waiters i))).0

-- The grid follows: it dropped the lists of a connection that closed.
pub forsaken_holds : {V : Type 0} {T : V → Type 0} {form : FormOf V T} {settings : Settings} (new : Grid V T) (r : Run) (c : ℕ) → HoldsElse form settings new (forsaken r c) → HasWaiters new.waiters (forsaken r c) → Holds form settings new (forsaken r c)
forsaken_holds new r c h waiters = record {
  goes_by = h.goes_by;
  goes_on = h.goes_on;
  lines = h.lines;
  members = h.members;
  links = h.links;
  moments = h.moments;
  clocks = h.clocks;
  table = h.table;
  waiters = waiters;
  tally = h.tally;
  reopened = h.reopened;
  worlds = h.worlds;
}
