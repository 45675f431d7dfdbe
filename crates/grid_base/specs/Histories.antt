-- Histories of one object: what was called, one call after the other, and what was answered.
use Rattle.std.specs.Prelude.{◌≡◌, ℕ, List, [], ◌∷◌}
use Rattle.grid_base.specs.Objects.{Object}

-- a call at a moment, with its reply
pub record Answered (Call : Type 0) : Type 0 where
  pub call : Call
  pub now : ℕ
  pub reply : List ℕ

-- Each reply is the one that the object gives in the state that the calls before it leave.
abbrev pub IsLegal : {Call State : Type 0} → Object Call State → State → List (Answered Call) → Type 0
IsLegal o s [] = Unit {0}
IsLegal o s (x ∷ xs) = (x.reply ≡ o.reply s x.call x.now) × IsLegal o (o.after s x.call x.now) xs
