-- What was said stays right while logs grow and seen terms rise.
use Rattle.std.proofs.Common.{◌∙◌, ◌≡◌, ◌≢◌, ℕ, suc, ◌<◌, ◌≤◌, true, false, List, [], ◌∷◌, length, slice_set, sym, subst, ◌⊎◌, ⊎_elim, inl, inr, arith, le_refl, le_trans}
use Rattle.partition_protocol.proofs.Extends.{front_trans}
use Rattle.partition_protocol.proofs.Lists.{Every, every_append, every_weaker, get_set, set_get_same, cases}
use Rattle.partition_protocol.specs.Sequences.{IsFrontOf}
use Rattle.partition_table.specs.Rows.{is_among}
use Rattle.masters_protocol.specs.Members.{Member, ToldLog, StoredLength, Message, Store, Stored, Ask, Tell, Sent, tells_of, counts_of}
use Rattle.masters_protocol.specs.Machine.{Masters, Packet, packets_from, with_member, sending}
use Rattle.masters_protocol.proofs.Lists.{length_set}
use Rattle.masters_protocol.proofs.Tests.{clash}
use Rattle.masters_protocol.proofs.Invariant.{MemberAt, MayRise, HasStored, IsTold, MessageOk, LiveOk, MemberOk, Inv}

-- a member's log grows only while it has seen no term after s
pub record Onward {D : Type 0} (s : ℕ) (n n' : Member D) : Type 0 where
  pub longer : length n.log ≤ length n'.log
  pub later : n.seen ≤ n'.seen
  pub still : s < n.seen → length n'.log ≤ length n.log

pub onward_refl : {D : Type 0} (s : ℕ) (n : Member D) → Onward s n n
onward_refl s n = record { longer = le_refl (length n.log); later = le_refl n.seen; still = λ l. le_refl (length n.log) }

pub record Ahead {D : Type 0} (ms ms' : List (Member D)) (crashed crashed' : List ℕ) (s : ℕ) (lead lead' : List D) : Type 0 where
  pub ups : (m : ℕ) (x : Member D) → MemberAt ms' m x → (n : Member D) × MemberAt ms m n × Onward s n x
  pub more : (k : ℕ) → is_among crashed k ≡ true → is_among crashed' k ≡ true
  pub leads : IsFrontOf lead lead'

pub ahead_set : {D : Type 0} (ms : List (Member D)) (crashed : List ℕ) (s : ℕ) (lead lead' : List D) (m : ℕ) (n n' : Member D) → MemberAt ms m n → Onward s n n' → IsFrontOf lead lead' → Ahead ms (slice_set ms m n') crashed crashed s lead lead'
ahead_set ms crashed s lead lead' m n n' at f p = record { ups = λ k x y. go k x (get_set ms m k n' x y); more = λ k e. e; leads = p }
  where
    go : (k : ℕ) (x : Member _) → ((k ≡ m) × (n' ≡ x)) ⊎ ((k ≢ m) × MemberAt ms k x) → (a : Member _) × MemberAt ms k a × Onward s a x
    go k x (inl e) = (n, subst (λ j. MemberAt ms j n) (sym e.0) at, subst (λ y. Onward s n y) e.1 f)
    go k x (inr e) = (x, e.1, onward_refl s x)

module _ {D : Type 0} (ms ms' : List (Member D)) (crashed crashed' : List ℕ) (s : ℕ) (lead lead' : List D) (a : Ahead ms ms' crashed crashed' s lead lead') where
  pub rise_ahead : (t : ℕ) → MayRise crashed t → MayRise crashed' t
  rise_ahead t h k l = a.more k (h k l)

  pub stored_ahead : (f c : ℕ) → HasStored ms f c → HasStored ms' f c
  stored_ahead f c h x e = let r = a.ups f x e in le_trans (h r.0 r.1) r.2.longer

  pub lives_before : (k : ℕ) → is_among crashed' k ≡ false → is_among crashed k ≡ false
  lives_before k e = ⊎_elim (λ h. clash (is_among crashed' k) (a.more k h) e) (λ h. h) (cases (is_among crashed k))

  pub told_ahead : (t f : ℕ) (l : List D) → IsTold ms crashed s lead t f l → IsTold ms' crashed' s lead' t f l
  told_ahead t f l h = (rise_ahead t h.0, λ u. (front_trans l lead lead' (h.1 u).0 a.leads, λ x e v. go u x (a.ups f x e) v))
    where
      go : s < t → (x : Member D) → (n : Member D) × MemberAt ms f n × Onward s n x → is_among crashed' f ≡ false → (t ≤ x.seen) × (length x.log ≤ length l)
      go u x r v =
          let old = (h.1 u).1 r.0 r.1 (lives_before f v) in
          let w = r.2.later in
          let c = r.2.still (omega (arith, u, old.0)) in
          (omega (arith, old.0, w), omega (arith, old.1, c))

  pub message_ahead : (from : ℕ) (x : Message D) → MessageOk ms crashed s lead from x → MessageOk ms' crashed' s lead' from x
  message_ahead from (Store t l) h = (h.0, λ e. front_trans l lead lead' (h.1 e) a.leads)
  message_ahead from (Stored t c) h = stored_ahead from c h
  message_ahead from (Ask t) h = rise_ahead t h
  message_ahead from (Tell t l) h = told_ahead t from l h

  pub packets_ahead : (ps : List (Packet D)) → Every (λ (p : Packet D). MessageOk ms crashed s lead p.from p.message) ps → Every (λ (p : Packet D). MessageOk ms' crashed' s lead' p.from p.message) ps
  packets_ahead ps h = every_weaker (λ (p : Packet D). MessageOk ms crashed s lead p.from p.message) (λ (p : Packet D). MessageOk ms' crashed' s lead' p.from p.message) ps (λ p. message_ahead p.from p.message) h

  pub counted_ahead : (cs : List StoredLength) → Every (λ (c : StoredLength). HasStored ms c.member c.count) cs → Every (λ (c : StoredLength). HasStored ms' c.member c.count) cs
  counted_ahead cs h = every_weaker (λ (c : StoredLength). HasStored ms c.member c.count) (λ (c : StoredLength). HasStored ms' c.member c.count) cs (λ c. stored_ahead c.member c.count) h

  pub kept_ahead : (m : ℕ) (ks : List (ToldLog D)) → Every (λ (k : ToldLog D). IsTold ms crashed s lead m k.member k.log) ks → Every (λ (k : ToldLog D). IsTold ms' crashed' s lead' m k.member k.log) ks
  kept_ahead m ks h = every_weaker (λ (k : ToldLog D). IsTold ms crashed s lead m k.member k.log) (λ (k : ToldLog D). IsTold ms' crashed' s lead' m k.member k.log) ks (λ k. told_ahead m k.member k.log) h

  pub member_ahead : (published published' : List D) (m : ℕ) (n : Member D) → MemberOk ms crashed s lead published m n → (is_among crashed' m ≡ false → LiveOk s lead' published' m n) → MemberOk ms' crashed' s lead' published' m n
  member_ahead published published' m n h f = record {
    told = λ k e. a.more k (h.told k e);
    rule = h.rule;
    rises = λ e. rise_ahead m (h.rises e);
    serves = h.serves;
    counted = counted_ahead (counts_of n.role) h.counted;
    kept = kept_ahead m (tells_of n.role) h.kept;
    live = f;
  }

-- what a member sends
pub packets_sent : {D : Type 0} (P : ℕ → Message D → Type 0) (from : ℕ) (ss : List (Sent D)) → Every (λ (x : Sent D). P from x.message) ss → Every (λ (p : Packet D). P p.from p.message) (packets_from from ss)
packets_sent P from [] h = tt
packets_sent P from (x ∷ ss) h = (h.0, packets_sent P from ss h.1)

-- all but member m
pub record Rest {D : Type 0} (w : Masters D) (s : ℕ) (lead : List D) (m : ℕ) : Type 0 where
  pub whole : length w.members ≡ w.size
  pub rise : MayRise w.crashed s
  pub others : (k : ℕ) (x : Member D) → k ≢ m → MemberAt w.members k x → MemberOk w.members w.crashed s lead w.published k x
  pub packets : Every (λ (p : Packet D). MessageOk w.members w.crashed s lead p.from p.message) w.packets

pub rest_of : {D : Type 0} (w : Masters D) (s : ℕ) (lead : List D) (m : ℕ) → Inv w s lead → Rest w s lead m
rest_of w s lead m inv = record { whole = inv.whole; rise = inv.rise; others = λ k x d e. inv.members k x e; packets = inv.packets }

-- a step of one member, which may lengthen the lead
module _ {D : Type 0} (w : Masters D) (s : ℕ) (lead lead' : List D) (m : ℕ) (rest : Rest w s lead m) (n n' : Member D) (at : MemberAt w.members m n) where
  abbrev pub after : List (Member D)
  after = slice_set w.members m n'

  pub here : MemberAt after m n'
  here = set_get_same w.members m n' n at

  pub only_here : (x : Member D) → MemberAt after m x → n' ≡ x
  only_here x e = cc (here, e)

  pub member_step : Onward s n n' → IsFrontOf lead lead' → length lead' ≤ suc (length w.published)
      → MemberOk after w.crashed s lead' w.published m n'
      → ((k : ℕ) (x : Member D) → k ≢ m → MemberAt w.members k x → is_among w.crashed k ≡ false → LiveOk s lead' w.published k x)
      → (ss : List (Sent D)) → Every (λ (x : Sent D). MessageOk after w.crashed s lead' m x.message) ss
      → Inv (sending (with_member w m n') m ss) s lead'
  member_step f p l ok others ss sent = record {
    whole = length_set w.members m n' ∙ rest.whole;
    rise = rest.rise;
    most = l;
    members = λ k x e. members k x (get_set w.members m k n' x e);
    packets = every_append (λ (q : Packet D). MessageOk after w.crashed s lead' q.from q.message) w.packets (packets_from m ss) (packets_ahead w.members after w.crashed w.crashed s lead lead' a w.packets rest.packets) (packets_sent (MessageOk after w.crashed s lead') m ss sent);
  }
    where
      a : Ahead w.members after w.crashed w.crashed s lead lead'
      a = ahead_set w.members w.crashed s lead lead' m n n' at f p

      members : (k : ℕ) (x : Member D) → ((k ≡ m) × (n' ≡ x)) ⊎ ((k ≢ m) × MemberAt w.members k x) → MemberOk after w.crashed s lead' w.published k x
      members k x (inl e) = subst (λ j. MemberOk after w.crashed s lead' w.published j x) (sym e.0) (subst (λ y. MemberOk after w.crashed s lead' w.published m y) e.1 ok)
      members k x (inr e) = member_ahead w.members after w.crashed w.crashed s lead lead' a w.published w.published k x (rest.others k x e.0 e.1) (others k x e.0 e.1)
