-- What holds of every run of masters on a network that repeats: of those with whole logs, and of those that keep a base and the rest.
use Rattle.std.specs.Prelude.{◌≡◌, ℕ, suc, ◌<◌, ◌≤◌, ◌⊎◌, true, false, List, [], ◌∷◌, ◌++◌, length, Some, slice_get}
use Rattle.partition_protocol.specs.Sequences.{IsFrontOf, IsSubsequence}
use Rattle.partition_table.specs.Rows.{is_among}
use Rattle.masters_protocol.specs.Members.{Member, is_master, is_serving, is_stored, was_told_of_lower}
use Rattle.masters_protocol.specs.Machine.{Masters, start}
use Rattle.masters_protocol.specs.Claims.{IsLiveMember}
use Rattle.lasting_masters.specs.Repeated.{Event, is_open, happens, run, accepted}
use Rattle.lasting_masters.specs.Kept.{Folding, folded, reach, state_of, Part, part_size}
use Rattle.lasting_masters.specs.Members as own
use Rattle.lasting_masters.specs.Machine as lasting
use Rattle.lasting_masters.specs.Machine.{Lasting, begin}
use Rattle.lasting_masters.specs.Own.{IsByItself}
use Rattle.lasting_masters.specs.Stands.{Keeps, Matches, events_of}

-- at one moment
pub record IsSound {D : Type 0} (w : Masters D) : Type 0 where
  pub whole : length w.members ≡ w.size
  -- a member is told only of members that crashed
  pub truthful : (m x : ℕ) (n : Member D) → slice_get w.members m ≡ Some n → is_among n.told x ≡ true → is_among w.crashed x ≡ true
  -- a published list is a prefix of the log of every live member
  pub held : (m : ℕ) (n : Member D) → IsLiveMember w m n → IsFrontOf w.published n.log
  -- exactly the live members that were told of every lower one gather or serve
  pub rule : (m : ℕ) (n : Member D) → IsLiveMember w m n → is_master n.role ≡ was_told_of_lower m n
  -- such a member is the lowest that lives
  pub lowest : (m k : ℕ) (n j : Member D) → IsLiveMember w m n → IsLiveMember w k j → is_master n.role ≡ true → m ≤ k
  -- so at most one live member gathers or serves
  pub one : (m k : ℕ) (n j : Member D) → IsLiveMember w m n → IsLiveMember w k j → is_master n.role ≡ true → is_master j.role ≡ true → m ≡ k
  -- while one serves, each live log is a prefix of its log
  pub leads : (m k : ℕ) (n j : Member D) → IsLiveMember w m n → IsLiveMember w k j → is_serving n.role ≡ true → IsFrontOf j.log n.log
  -- a live log has at most one decision that isn't published
  pub one_open : (m : ℕ) (n : Member D) → IsLiveMember w m n → length n.log ≤ suc (length w.published)
  -- an event publishes one decision or none
  pub paced : (e : Event D) → ((happens w e).world.published ≡ w.published) ⊎ ((d : D) × ((happens w e).world.published ≡ w.published ++ d ∷ []))
  -- and as it publishes one, no log is longer than the published list, in no message that was ever sent
  pub quiet : (e : Event D) (d : D) → (happens w e).world.published ≡ w.published ++ d ∷ [] → is_open (happens w e).world ≡ false
  -- what a serving master sees stored at each peer is published
  pub stored : (m : ℕ) (n : Member D) → IsLiveMember w m n → is_stored w.size m n ≡ true → n.log ≡ w.published

-- at one moment and a later one, with the events between
pub record Agrees {D : Type 0} (w : Masters D) (events : List (Event D)) (later : Masters D) : Type 0 where
  -- the published list only grows, at its end
  pub grows : IsFrontOf w.published later.published
  -- no two different decisions are ever published at one number
  pub fixed : (i : ℕ) (d e : D) → slice_get w.published i ≡ Some d → slice_get later.published i ≡ Some e → d ≡ e
  -- what was published stands in every later live log
  pub kept : (m : ℕ) (n : Member D) → IsLiveMember later m n → IsFrontOf w.published n.log
  -- a live log only grows, at its end
  pub lasting : (m : ℕ) (n j : Member D) → IsLiveMember later m j → slice_get w.members m ≡ Some n → IsFrontOf n.log j.log
  -- Where no log is longer than the published list, neither a live member's own, nor one told to a live master,
  -- nor one in a message that a live member would still take, what is published from then on was proposed from then on,
  -- in that order, each proposal at most once
  pub fresh : is_open w ≡ false → (new : List D) × (w.published ++ new ≡ later.published) × IsSubsequence new (accepted w events)

abbrev pub EveryRepeatedRunAgrees : Type 0 → Type 0
EveryRepeatedRunAgrees D = (size : ℕ) (before after : List (Event D))
    → IsSound (run (start size) before) × Agrees (run (start size) before) after (run (start size) (before ++ after))

-- masters that keep a base and the rest

-- m is live, and its state is n
abbrev pub IsLive : {D S : Type 0} → Lasting D S → ℕ → own.Member D S → Type 0
IsLive w m n = (lasting.is_live w m ≡ true) × (slice_get w.members m ≡ Some n)

-- what member m keeps is exactly a base and the rest of its whole log
pub record KeepsLog {D S : Type 0} (o : Folding D S) (w : Lasting D S) (u : Masters D) (m : ℕ) (n : own.Member D S) : Type 0 where
  pub whole : Member D
  pub there : slice_get u.members m ≡ Some whole
  pub keeps : Keeps o n.kept whole.log
  -- so the state that it computes is what its whole log leads to
  pub state : state_of o n.kept ≡ folded o o.opening whole.log
  -- while it lives, every published list is a front of its whole log
  pub held : lasting.is_live w m ≡ true → IsFrontOf u.published whole.log
  -- and it keeps exactly the published list as it sees its log stored at each peer
  pub stored : lasting.is_live w m ≡ true → own.is_stored w.size m n ≡ true → whole.log ≡ u.published
  -- and knows how long that is
  pub known : lasting.is_live w m ≡ true → own.is_stored w.size m n ≡ true → n.settled ≡ length u.published

pub record IsLasting {D S : Type 0} (o : Folding D S) (w : Lasting D S) (u : Masters D) : Type 0 where
  -- the whole stands for masters with whole logs, of which all above holds
  pub matches : Matches o w u
  pub sound : IsSound u
  pub logs : (m : ℕ) (n : own.Member D S) → slice_get w.members m ≡ Some n → KeepsLog o w u m n
  -- at most one live member gathers or serves, the lowest that lives
  pub lowest : (m k : ℕ) (n j : own.Member D S) → IsLive w m n → IsLive w k j → own.is_master n.role ≡ true → m ≤ k
  pub one : (m k : ℕ) (n j : own.Member D S) → IsLive w m n → IsLive w k j → own.is_master n.role ≡ true → own.is_master j.role ≡ true → m ≡ k
  -- what a member cuts off, or knows to be published, is published
  pub cut : (m : ℕ) (n : own.Member D S) → slice_get w.members m ≡ Some n → n.kept.cut ≤ length u.published
  pub settled : (m : ℕ) (n : own.Member D S) → slice_get w.members m ≡ Some n → n.settled ≤ length u.published
  -- No decision is missing between what a member has and any message that was ever sent to it: so none is left for want of others
  pub fitting : (i : ℕ) (p : lasting.Packet D S) (n : own.Member D S) → slice_get w.packets i ≡ Some p → slice_get w.members p.to ≡ Some n
      → own.fits p.message n ≡ true
  -- so each live member has what any member has cut off
  pub reached : (m k : ℕ) (n j : own.Member D S) → slice_get w.members m ≡ Some n → IsLive w k j → n.kept.cut ≤ reach j.kept

-- the masters with whole logs for which a run stands
abbrev pub whole_of : {D S : Type 0} → Folding D S → ℕ → List (lasting.Event D) → Masters D
whole_of o size es = run (start size) (events_of o (begin o size) es)

abbrev pub EveryLastingRunIsARun : {D S : Type 0} → Folding D S → Type 0
EveryLastingRunIsARun {D} o = (size : ℕ) (before after : List (lasting.Event D)) →
    let w = lasting.run o (begin o size) before in
    IsLasting o w (whole_of o size before)
    × Agrees (whole_of o size before) (events_of o w after) (whole_of o size (before ++ after))
    -- what was proposed and taken on is the same
    × (accepted (whole_of o size before) (events_of o w after) ≡ lasting.all_taken_on o w after)

-- a member is what its own steps make of it
abbrev pub EveryOneIsByItself : {D S : Type 0} → Folding D S → Type 0
EveryOneIsByItself {D} o = (size m : ℕ) (es : List (lasting.Event D)) → m < size → IsByItself o size m es

-- to who has stored all before it, a decision goes out with no other
abbrev pub EveryDecisionGoesOutAlone : Type 0 → Type 0 → Type 0
EveryDecisionGoesOutAlone D S = (size m p : ℕ) (n : own.Member D S) (d : D)
    → own.is_stored size m n ≡ true → is_among (own.peers size m n.told) p ≡ true
    → (part : Part D S) × (own.stores m (own.with_decision d n) p ≡ own.Store m n.settled part) × (part_size part ≤ 1)
