-- The partitions of a grid, each with the calls that wait there. A line is one of a partition, or the same in each of them, one after the other.
use Rattle.std.specs.Prelude.{◌≡◌, ℕ, zero, suc, ◌<◌, ◌==◌, if◌then◌else◌, List, [], ◌∷◌, ◌++◌, map}
use Rattle.std.specs.List.{flat_map}
use Rattle.grid_base.specs.Objects.{Object}
use Rattle.partition_protocol.specs.Events.{Event}
use Rattle.partition_protocol.specs.Service.{numbers_below}
use Rattle.waiting_protocol.specs.Machine.{Waiting, Line, Terms, Gone, start, goes, gone_by, events_by, after, events, all_gone}

-- the machine of each partition, by its number
abbrev pub Grid : Type 0 → Type 0
Grid C = ℕ → Waiting C

-- a line of a grid
pub data GridLine (C : Type 0) : Type 0 where
  -- in one partition: an event is asked for, or a waiting call arrives
  In : (partition : ℕ) (line : Line C) → GridLine C
  -- in each one, in their order: a member's moment is set, a connection closes, a member crashes
  InEach : (line : Line C) → GridLine C

abbrev pub begun : {C : Type 0} → (members backups : ℕ) → Grid C
begun members backups = λ p. start p members backups

-- what is so of one partition
pub record Of (X : Type 0) : Type 0 where
  pub partition : ℕ
  pub it : X

abbrev pub all_of : {X : Type 0} → ℕ → List X → List (Of X)
all_of {X} p xs = map (λ (x : X). record { partition = p; it = x }) xs

-- one partition

-- the line is run in partition p, and the others stay
abbrev pub goes_in : {C State : Type 0} → Object C State → Terms C → Grid C → ℕ → Line C → Grid C
goes_in o t grid p l = λ q. if q == p then goes o t (grid p) l else grid q

-- all below a number, one after the other

abbrev pub goes_below : {C State : Type 0} → Object C State → Terms C → ℕ → Grid C → Line C → Grid C
goes_below o t zero grid l = grid
goes_below o t (suc n) grid l = goes_in o t (goes_below o t n grid l) n l

-- who leaves meanwhile, in order
abbrev pub gone_below : {C State : Type 0} → Object C State → Terms C → ℕ → Grid C → Line C → List (Of (Gone C))
gone_below o t zero grid l = []
gone_below o t (suc n) grid l = gone_below o t n grid l ++ all_of n (gone_by o t (goes_below o t n grid l n) l)

-- and what happens
abbrev pub events_below : {C State : Type 0} → Object C State → Terms C → ℕ → Grid C → Line C → List (Of (Event C))
events_below o t zero grid l = []
events_below o t (suc n) grid l = events_below o t n grid l ++ all_of n (events_by o t (goes_below o t n grid l n) l)

-- lines of a grid of so many partitions

abbrev pub grid_goes : {C State : Type 0} → Object C State → Terms C → ℕ → Grid C → GridLine C → Grid C
grid_goes o t count grid (In p l) = goes_in o t grid p l
grid_goes o t count grid (InEach l) = goes_below o t count grid l

abbrev pub grid_gone : {C State : Type 0} → Object C State → Terms C → ℕ → Grid C → GridLine C → List (Of (Gone C))
grid_gone o t count grid (In p l) = all_of p (gone_by o t (grid p) l)
grid_gone o t count grid (InEach l) = gone_below o t count grid l

abbrev pub grid_events : {C State : Type 0} → Object C State → Terms C → ℕ → Grid C → GridLine C → List (Of (Event C))
grid_events o t count grid (In p l) = all_of p (events_by o t (grid p) l)
grid_events o t count grid (InEach l) = events_below o t count grid l

abbrev pub grid_after : {C State : Type 0} → Object C State → Terms C → ℕ → Grid C → List (GridLine C) → Grid C
grid_after o t count grid [] = grid
grid_after o t count grid (l ∷ ls) = grid_after o t count (grid_goes o t count grid l) ls

-- the lines of one partition

abbrev pub line_at : {C : Type 0} → ℕ → GridLine C → List (Line C)
line_at p (In q l) = if p == q then l ∷ [] else []
line_at p (InEach l) = l ∷ []

abbrev pub lines_at : {C : Type 0} → ℕ → List (GridLine C) → List (Line C)
lines_at p ls = flat_map (line_at p) ls

-- what holds

-- Each partition goes by its own lines alone: so all that holds of one partition's machine holds of each.
pub record GoesByItself {C State : Type 0} (o : Object C State) (t : Terms C) (count : ℕ) (grid : Grid C) : Type 0 where
  pub after : (lines : List (GridLine C)) (p : ℕ) → p < count → grid_after o t count grid lines p ≡ after o t (grid p) (lines_at p lines)
  -- At a line of all partitions those of the first leave first, each as its partition's machine says as the line began: no turn of one partition changes those of another.
  pub gone : (l : Line C) → grid_gone o t count grid (InEach l) ≡ flat_map (λ p. all_of p (gone_by o t (grid p) l)) (numbers_below count)
  pub events : (l : Line C) → grid_events o t count grid (InEach l) ≡ flat_map (λ p. all_of p (events_by o t (grid p) l)) (numbers_below count)

abbrev pub EveryPartitionGoesByItself : {C State : Type 0} → Object C State → Type 0
EveryPartitionGoesByItself {C} o = (t : Terms C) (count : ℕ) (grid : Grid C) → GoesByItself o t count grid
