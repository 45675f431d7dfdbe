-- What a member keeps of its log: the state that the decisions at its front lead to, in their place, and the decisions behind them.
use Rattle.std.specs.Prelude.{ℕ, zero, suc, ◌+◌, ◌-◌, Bool, false, nat_lt, nat_le, if◌then◌else◌, List, [], ◌∷◌, ◌++◌, length, drop}

-- what a list of decisions leads to
pub record Folding (Decision State : Type 0) : Type 0 where
  pub opening : State
  pub next : State → Decision → State

abbrev pub folded : {D S : Type 0} → Folding D S → S → List D → S
folded o s [] = s
folded o s (d ∷ ds) = folded o (o.next s d) ds

pub record Kept (Decision State : Type 0) : Type 0 where
  pub cut : ℕ  -- how many decisions are cut off at the front
  pub base : State  -- what they lead to
  pub rest : List Decision

abbrev pub nothing_yet : {D S : Type 0} → Folding D S → Kept D S
nothing_yet o = record { cut = 0; base = o.opening; rest = [] }

-- how long the log is
abbrev pub reach : {D S : Type 0} → Kept D S → ℕ
reach k = k.cut + length k.rest

-- what the log leads to
abbrev pub state_of : {D S : Type 0} → Folding D S → Kept D S → S
state_of o k = folded o k.base k.rest

-- what is said of a log: its decisions from a position on, or all that is kept of it
pub data Part (Decision State : Type 0) : Type 0 where
  From : (position : ℕ) (decisions : List Decision) → Part Decision State
  Whole : (kept : Kept Decision State) → Part Decision State

abbrev pub part_reach : {D S : Type 0} → Part D S → ℕ
part_reach (From p ds) = p + length ds
part_reach (Whole k) = reach k

-- how many decisions it carries
abbrev pub part_size : {D S : Type 0} → Part D S → ℕ
part_size (From p ds) = length ds
part_size (Whole k) = length k.rest

-- the decisions behind so many, which begin at a position
abbrev pub behind : {D S : Type 0} → ℕ → ℕ → List D → Part D S
behind p zero ds = From p ds
behind p (suc k) [] = From p []
behind p (suc k) (d ∷ ds) = behind (suc p) k ds

-- what one who has a log up to a position lacks. Where its first decision is cut off, that is all
abbrev pub part_from : {D S : Type 0} → ℕ → Kept D S → Part D S
part_from p k = if nat_lt p k.cut then Whole k else behind k.cut (p - k.cut) k.rest

-- with what lies past one's own log, of decisions that begin at a position that it reaches
abbrev pub spliced : {D S : Type 0} → Kept D S → ℕ → List D → Kept D S
spliced k p ds = record { cut = k.cut; base = k.base; rest = k.rest ++ drop (reach k - p) ds }

-- whether decisions are missing between a log of that length and a part
abbrev pub has_gap : {D S : Type 0} → ℕ → Part D S → Bool
has_gap here (From p ds) = nat_lt here p
has_gap here (Whole k) = false

-- one's own log is the front of what is told, or the other way round. A base is taken over only by one who lacks what is cut off
abbrev pub with_part : {D S : Type 0} → Kept D S → Part D S → Kept D S
with_part k (From p ds) = spliced k p ds
with_part k (Whole j) = if nat_le j.cut (reach k) then spliced k j.cut j.rest else j

-- with so many more decisions cut off
abbrev pub shortened : {D S : Type 0} → Folding D S → ℕ → ℕ → S → List D → Kept D S
shortened o zero c b ds = record { cut = c; base = b; rest = ds }
shortened o (suc k) c b [] = record { cut = c; base = b; rest = [] }
shortened o (suc k) c b (d ∷ ds) = shortened o k (suc c) (o.next b d) ds
