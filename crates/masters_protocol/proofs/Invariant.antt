-- What every event keeps.
use Rattle.std.proofs.Common.{◌≡◌, ℕ, suc, ◌<◌, ◌≤◌, true, false, List, length, Some, slice_get, subst}
use Rattle.std.proofs.lemmas.Option.{slice_get_within}
use Rattle.partition_protocol.proofs.Lists.{Every}
use Rattle.partition_protocol.specs.Sequences.{IsFrontOf}
use Rattle.partition_table.specs.Rows.{is_among}
use Rattle.masters_protocol.specs.Members.{Member, ToldLog, StoredLength, Message, Store, Stored, Ask, Tell, is_serving, is_master, tells_of, counts_of, was_told_of_lower}
use Rattle.masters_protocol.specs.Machine.{Masters, Packet}

abbrev pub MemberAt : {D : Type 0} → List (Member D) → ℕ → Member D → Type 0
MemberAt ms m n = slice_get ms m ≡ Some n

-- a member takes a term only when all below it have crashed
abbrev pub MayRise : List ℕ → ℕ → Type 0
MayRise crashed t = (k : ℕ) → k < t → is_among crashed k ≡ true

-- member f has c entries
abbrev pub HasStored : {D : Type 0} → List (Member D) → ℕ → ℕ → Type 0
HasStored {D} ms f c = (n : Member D) → MemberAt ms f n → c ≤ length n.log

-- s is the last member that served, and lead its log. A log that f told in a later term is part of that,
-- and if f lives, it has seen that term and has no more than it told
abbrev pub IsTold : {D : Type 0} → List (Member D) → List ℕ → ℕ → List D → ℕ → ℕ → List D → Type 0
IsTold {D} ms crashed s lead t f l =
    MayRise crashed t × (s < t → IsFrontOf l lead × ((n : Member D) → MemberAt ms f n → is_among crashed f ≡ false → (t ≤ n.seen) × (length n.log ≤ length l)))

abbrev pub MessageOk : {D : Type 0} → List (Member D) → List ℕ → ℕ → List D → ℕ → Message D → Type 0
MessageOk ms crashed s lead from (Store t l) = (t ≤ s) × (t ≡ s → IsFrontOf l lead)
MessageOk ms crashed s lead from (Stored t c) = HasStored ms from c
MessageOk ms crashed s lead from (Ask t) = MayRise crashed t
MessageOk ms crashed s lead from (Tell t l) = IsTold ms crashed s lead t from l

-- a live member
pub record LiveOk {D : Type 0} (s : ℕ) (lead published : List D) (m : ℕ) (n : Member D) : Type 0 where
  pub seen_up : s ≤ n.seen
  pub seen_own : n.seen ≤ m
  pub own : is_master n.role ≡ true → n.seen ≡ m
  pub log : IsFrontOf n.log lead
  pub has : IsFrontOf published n.log
  pub master : is_serving n.role ≡ true → n.log ≡ lead
  pub other : is_serving n.role ≡ false → s < m

pub record MemberOk {D : Type 0} (ms : List (Member D)) (crashed : List ℕ) (s : ℕ) (lead published : List D) (m : ℕ) (n : Member D) : Type 0 where
  pub told : (k : ℕ) → is_among n.told k ≡ true → is_among crashed k ≡ true
  pub rule : is_master n.role ≡ was_told_of_lower m n
  pub rises : is_master n.role ≡ true → MayRise crashed m
  pub serves : is_serving n.role ≡ true → m ≤ s
  pub counted : Every (λ (c : StoredLength). HasStored ms c.member c.count) (counts_of n.role)
  pub kept : Every (λ (k : ToldLog D). IsTold ms crashed s lead m k.member k.log) (tells_of n.role)
  pub live : is_among crashed m ≡ false → LiveOk s lead published m n

pub record Inv {D : Type 0} (w : Masters D) (s : ℕ) (lead : List D) : Type 0 where
  pub whole : length w.members ≡ w.size
  pub rise : MayRise w.crashed s
  pub most : length lead ≤ suc (length w.published)
  pub members : (m : ℕ) (n : Member D) → MemberAt w.members m n → MemberOk w.members w.crashed s lead w.published m n
  pub packets : Every (λ (p : Packet D). MessageOk w.members w.crashed s lead p.from p.message) w.packets

pub within : {D : Type 0} (w : Masters D) (m : ℕ) (n : Member D) → length w.members ≡ w.size → MemberAt w.members m n → m < w.size
within w m n e at = subst (λ k. m < k) e (slice_get_within w.members m n at)
