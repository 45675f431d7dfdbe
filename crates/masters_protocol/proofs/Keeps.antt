-- A step keeps the invariant, the published list grows by at most one decision, and live logs grow at their end.
use Rattle.std.proofs.Common.{◌≡◌, ◌≢◌, ℕ, suc, ◌≤◌, false, List, length, refl, sym, subst, ◌⊎◌, inl, inr, arith}
use Rattle.partition_protocol.proofs.Extends.{same as front_refl, front_trans}
use Rattle.partition_protocol.proofs.Lists.{get_set}
use Rattle.partition_protocol.specs.Sequences.{IsFrontOf}
use Rattle.partition_table.specs.Rows.{is_among}
use Rattle.masters_protocol.specs.Members.{Member, Sent}
use Rattle.masters_protocol.specs.Machine.{Masters, with_member, sending}
use Rattle.masters_protocol.proofs.Invariant.{MemberAt, Inv}

abbrev pub Good : {D : Type 0} → Masters D → Type 0
Good {D} w = (s : ℕ) × (lead : List D) × Inv w s lead

-- a member that lives after it lived before, with a prefix of its log
abbrev pub Lasts : {D : Type 0} → Masters D → Masters D → Type 0
Lasts {D} w w' = (k : ℕ) (j : Member D) → is_among w'.crashed k ≡ false → MemberAt w'.members k j → (n : Member D) × (is_among w.crashed k ≡ false) × MemberAt w.members k n × IsFrontOf n.log j.log

pub lasts_refl : {D : Type 0} (w : Masters D) → Lasts w w
lasts_refl w k j v e = (j, v, e, front_refl j.log)

pub lasts_trans : {D : Type 0} (u v w : Masters D) → Lasts u v → Lasts v w → Lasts u w
lasts_trans u v w f h k j l e = let a = h k j l e in let b = f k a.0 a.1 a.2 in (b.0, b.1, b.2, front_trans b.0.log a.0.log j.log b.3 a.3)

pub lasts_set : {D : Type 0} (w : Masters D) (m : ℕ) (n n' : Member D) (ss : List (Sent D)) → MemberAt w.members m n → IsFrontOf n.log n'.log → Lasts w (sending (with_member w m n') m ss)
lasts_set {D} w m n n' ss at p k j v e = go (get_set w.members m k n' j e)
  where
    go : ((k ≡ m) × (n' ≡ j)) ⊎ ((k ≢ m) × MemberAt w.members k j) → (x : Member D) × (is_among w.crashed k ≡ false) × MemberAt w.members k x × IsFrontOf x.log j.log
    go (inl h) = (n, v, subst (λ i. MemberAt w.members i n) (sym h.0) at, subst (λ (y : Member D). IsFrontOf n.log y.log) h.1 p)
    go (inr h) = (j, v, h.1, front_refl j.log)

-- with the same members crashed
pub record Keeps {D : Type 0} (w w' : Masters D) : Type 0 where
  pub good : Good w'
  pub grows : IsFrontOf w.published w'.published
  pub pace : length w'.published ≤ suc (length w.published)
  pub crashed : w'.crashed ≡ w.crashed
  pub lasts : Lasts w w'

pub keeps_refl : {D : Type 0} (w : Masters D) → Good w → Keeps w w
keeps_refl w g = record { good = g; grows = front_refl w.published; pace = omega arith; crashed = refl; lasts = lasts_refl w }
