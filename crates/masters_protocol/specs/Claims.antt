-- What holds of the mastership after every list of events, whoever was master.
use Rattle.std.specs.Prelude.{◌≡◌, ℕ, suc, ◌+◌, ◌<◌, ◌≤◌, ◌⊎◌, Bool, true, false, ◌&&◌, nat_le, if◌then◌else◌, List, [], ◌∷◌, ◌++◌, length, Some, slice_get, Contains}
use Rattle.partition_protocol.specs.Sequences.{IsFrontOf, IsSubsequence}
use Rattle.partition_table.specs.Rows.{is_among}
use Rattle.masters_protocol.specs.Members.{Member, ToldLog, StoredLength, Message, Store, Stored, Ask, Tell, Outcome, NothingDone, Proposed, RefusedBusy, RefusedFull, most_decisions, is_master, is_serving, tells_of, counts_of, was_told_of_lower, is_gathered, is_stored}
use Rattle.masters_protocol.specs.Machine.{Masters, Packet, Event, Propose, is_live, is_ahead, pending, happens, run, start}

-- m is live, and its state is n
abbrev pub IsLiveMember : {D : Type 0} → Masters D → ℕ → Member D → Type 0
IsLiveMember w m n = (is_live w m ≡ true) × (slice_get w.members m ≡ Some n)

abbrev pub is_busy : Outcome → Bool
is_busy (RefusedBusy k) = true
is_busy _ = false

-- the numbers of a message, and of a member, fit the number of members and the longest log

abbrev pub Fits : {D : Type 0} → ℕ → Message D → Type 0
Fits size (Store t l) = (t < size) × (length l ≤ most_decisions)
Fits size (Stored t c) = (t < size) × (c ≤ most_decisions)
Fits size (Ask t) = t < size
Fits size (Tell t l) = (t < size) × (length l ≤ most_decisions)

pub record PacketFits {D : Type 0} (size : ℕ) (p : Packet D) : Type 0 where
  pub from : p.from < size
  pub to : p.to < size
  pub message : Fits size p.message

pub record MemberFits {D : Type 0} (size : ℕ) (n : Member D) : Type 0 where
  pub told : (k : ℕ) → is_among n.told k ≡ true → k < size
  pub seen : n.seen < size
  pub log : length n.log ≤ most_decisions
  pub tells : (k : ToldLog D) → Contains (tells_of n.role) k → (k.member < size) × (length k.log ≤ most_decisions)
  pub counts : (k : StoredLength) → Contains (counts_of n.role) k → (k.member < size) × (k.count ≤ most_decisions)

-- how a proposal is answered where n is the live master that serves
abbrev pub answer_of : {D : Type 0} → Masters D → Member D → Outcome
answer_of w n =
    if is_ahead w n.log then RefusedBusy (length n.log)
    else if nat_le most_decisions (length n.log) then RefusedFull
    else Proposed (length n.log + 1)

abbrev pub is_proposed : Outcome → Bool
is_proposed (Proposed k) = true
is_proposed _ = false

abbrev pub accepted_by : {D : Type 0} → Event D → Outcome → List D
accepted_by (Propose d) x = if is_proposed x then d ∷ [] else []
accepted_by _ x = []

-- the decisions that were proposed and not refused, in order
abbrev pub accepted : {D : Type 0} → Masters D → List (Event D) → List D
accepted w [] = []
accepted w (e ∷ es) = accepted_by e (happens w e).outcome ++ accepted (happens w e).world es

-- at one moment
pub record IsSound {D : Type 0} (w : Masters D) : Type 0 where
  pub whole : length w.members ≡ w.size
  pub members_fit : (m : ℕ) (n : Member D) → slice_get w.members m ≡ Some n → MemberFits w.size n
  pub packets_fit : (p : Packet D) → Contains w.packets p → PacketFits w.size p
  pub published_fits : length w.published ≤ most_decisions
  -- a member is told only of members that crashed
  pub truthful : (m x : ℕ) (n : Member D) → slice_get w.members m ≡ Some n → is_among n.told x ≡ true → is_among w.crashed x ≡ true
  -- a published list is a prefix of the log of every live member
  pub held : (m : ℕ) (n : Member D) → IsLiveMember w m n → IsFrontOf w.published n.log
  -- exactly the live members that were told of every lower one gather or serve
  pub rule : (m : ℕ) (n : Member D) → IsLiveMember w m n → is_master n.role ≡ was_told_of_lower m n
  -- such a member is the lowest that lives
  pub lowest : (m k : ℕ) (n j : Member D) → IsLiveMember w m n → IsLiveMember w k j → is_master n.role ≡ true → m ≤ k
  -- so at most one live member gathers or serves
  pub one : (m k : ℕ) (n j : Member D) → IsLiveMember w m n → IsLiveMember w k j → is_master n.role ≡ true → is_master j.role ≡ true → m ≡ k
  -- while one serves, each live log is a prefix of its log
  pub leads : (m k : ℕ) (n j : Member D) → IsLiveMember w m n → IsLiveMember w k j → is_serving n.role ≡ true → IsFrontOf j.log n.log
  -- a live log has at most one decision that isn't published
  pub one_open : (m : ℕ) (n : Member D) → IsLiveMember w m n → length n.log ≤ suc (length w.published)
  -- an event publishes one decision or none
  pub paced : (e : Event D) → ((happens w e).world.published ≡ w.published) ⊎ ((d : D) × ((happens w e).world.published ≡ w.published ++ d ∷ []))
  -- a master serves as soon as each peer has told, and publishes as soon as each peer has stored
  pub gathers : (m : ℕ) (n : Member D) → IsLiveMember w m n → is_gathered w.size m n ≡ false
  pub publishes : (m : ℕ) (n : Member D) → IsLiveMember w m n → (is_stored w.size m n && is_ahead w n.log) ≡ false
  -- it doesn't matter which of two told logs of one length a live master takes
  pub alike : (m : ℕ) (n : Member D) (a b : ToldLog D) → IsLiveMember w m n → Contains (tells_of n.role) a → Contains (tells_of n.role) b → length a.log ≡ length b.log → a.log ≡ b.log
  -- a proposal is refused as busy exactly where the log of the live master that serves is longer than the published list
  pub busy : (m : ℕ) (n : Member D) (d : D) → IsLiveMember w m n → is_serving n.role ≡ true → is_busy (happens w (Propose d)).outcome ≡ is_ahead w n.log
  -- and all its answers
  pub answered : (m : ℕ) (n : Member D) (d : D) → IsLiveMember w m n → is_serving n.role ≡ true → (happens w (Propose d)).outcome ≡ answer_of w n
  -- it is nothing where no live master serves
  pub none : (d : D) → ((m : ℕ) (n : Member D) → IsLiveMember w m n → is_serving n.role ≡ false) → (happens w (Propose d)).outcome ≡ NothingDone

-- at one moment and a later one, with the events between
pub record Agrees {D : Type 0} (w : Masters D) (events : List (Event D)) (later : Masters D) : Type 0 where
  -- the published list only grows, at its end
  pub grows : IsFrontOf w.published later.published
  -- no two different decisions are ever published at one number
  pub fixed : (i : ℕ) (d e : D) → slice_get w.published i ≡ Some d → slice_get later.published i ≡ Some e → d ≡ e
  -- what was published stands in every later live log
  pub kept : (m : ℕ) (n : Member D) → IsLiveMember later m n → IsFrontOf w.published n.log
  -- a live log only grows, at its end
  pub lasting : (m : ℕ) (n j : Member D) → IsLiveMember later m j → slice_get w.members m ≡ Some n → IsFrontOf n.log j.log
  -- where nothing is pending, what is published from then on was proposed from then on, in that order, each proposal at most once
  pub fresh : pending w ≡ false → (new : List D) × (w.published ++ new ≡ later.published) × IsSubsequence new (accepted w events)

abbrev pub EveryRunAgrees : Type 0 → Type 0
EveryRunAgrees D = (size : ℕ) (before after : List (Event D)) → 1 ≤ size → size ≤ 8
    → IsSound (run (start size) before) × Agrees (run (start size) before) after (run (start size) (before ++ after))
