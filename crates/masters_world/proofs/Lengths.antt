-- No log is longer than the published list by more than one decision. So nothing is pending as a decision is published.
use Rattle.std.proofs.Common.{◌≡◌, ◌≢◌, ℕ, suc, ◌<◌, ◌≤◌, Bool, true, false, cond, not, ◌&&◌, ◌||◌, ◌==◌, nat_lt, nat_le, List, [], ◌∷◌, ◌++◌, filter, length, Some, slice_get, refl, ap, subst, ◌⊎◌, inl, inr, arith, length-append, le_trans}
use Rattle.std.specs.List.{list_any}
use Rattle.partition_protocol.proofs.Adopt.{and_false}
use Rattle.partition_protocol.proofs.Events.{get_in}
use Rattle.partition_protocol.proofs.Lists.{Every, every_append, every_weaker, every_in, every_filter, on_cond, get_set}
use Rattle.partition_protocol.proofs.RowFacts.{both_left, or_false_left, less, not_less, is_not_less}
use Rattle.partition_protocol.specs.Service.{numbers_below}
use Rattle.partition_protocol.specs.World.{map_or}
use Rattle.partition_table.specs.Rows.{is_among, is_empty}
use Rattle.masters_protocol.specs.Members.{Gathering, Serving, Member, ToldLog, Message, Store, Stored, Ask, Tell, Sent, Step, Other, StoreTaken, Counted, Asked, TellKept, Stale, Done, Dropped, RefusedBusy, RefusedFull, log_of, quiet, is_gathering, is_serving, tells_of, counts_of, peers, has_told, has_stored, with_tell, with_count, longer, longest, is_gathered, is_stored, to_each, begins, gatherer, with_told, hearing, server, storing, with_log, with_seen, with_role, taking, most_decisions, with_decision, proposing, has_sent, asking_again, storing_again, sent_again}
use Rattle.masters_protocol.specs.Machine.{Masters, Packet, Event, Told, Crash, Propose, Deliver, Lose, Resend, Happened, is_live, is_ahead, is_pending_at, is_pending_member, pending, is_on, link, taken_out, packets_from, with_packets, with_member, sending, serving, serving_at, publishing, publishing_at, nothing, done, refused, stepped, at_member, handed_over, master, proposed_at, resent, happens, start}
use Rattle.masters_protocol.specs.Claims.{is_busy}
use Rattle.masters_protocol.proofs.Lists.{on_some, none_in}
use Rattle.masters_protocol.proofs.Tests.{clash, in_below}
use Rattle.masters_protocol.proofs.Invariant.{MemberAt}
use Rattle.masters_protocol.proofs.Forward.{packets_sent}
use Rattle.masters_protocol.proofs.Serve.{each_sent}
use Rattle.masters_protocol.proofs.Members.{every_tell}
use Rattle.masters_protocol.proofs.Events.{every_taken_out}
use Rattle.masters_protocol.proofs.Theorem.{opened}

pub record IsShort {D : Type 0} (k : ℕ) (n : Member D) : Type 0 where
  pub log : length n.log ≤ k
  pub kept : Every (λ (t : ToldLog D). length t.log ≤ k) (tells_of n.role)

-- no log is longer than k
pub record Short {D : Type 0} (k : ℕ) (w : Masters D) : Type 0 where
  pub members : (m : ℕ) (n : Member D) → MemberAt w.members m n → IsShort k n
  pub packets : Every (λ (p : Packet D). length (log_of p.message) ≤ k) w.packets

pub least : (k : ℕ) → 0 ≤ k
least k = omega arith

module _ {D : Type 0} (k : ℕ) where
  abbrev pub AreShort : List (Sent D) → Type 0
  AreShort ss = Every (λ (x : Sent D). length (log_of x.message) ≤ k) ss

  abbrev pub IsShortStep : Step D → Type 0
  IsShortStep st = IsShort k st.member × AreShort st.sent

  pub short_longer : (l t : List D) → length l ≤ k → length t ≤ k → length (longer l t) ≤ k
  short_longer l t a b = on_cond (λ us. length us ≤ k) (nat_lt (length l) (length t)) t l (λ e. b) (λ e. a)

  pub short_longest : (l : List D) (ks : List (ToldLog D)) → length l ≤ k → Every (λ (t : ToldLog D). length t.log ≤ k) ks → length (longest l ks) ≤ k
  short_longest l [] a f = a
  short_longest l (t ∷ ks) a f = short_longest (longer l t.log) ks (short_longer l t.log a f.0) f.1

  pub short_each : (x : Message D) (ms : List ℕ) → length (log_of x) ≤ k → AreShort (to_each x ms)
  short_each x ms h = each_sent (λ (y : Sent D). length (log_of y.message) ≤ k) x ms (λ m. h)

  module _ (w : Masters D) (s : Short k w) where
    pub short_steps : (m : ℕ) (n : Member D) (ss : List (Sent D)) → IsShort k n → AreShort ss → Short k (sending (with_member w m n) m ss)
    short_steps m n ss h f = record {
      members = λ q x e. go q x (get_set w.members m q n x e);
      packets = every_append (λ (p : Packet D). length (log_of p.message) ≤ k) w.packets (packets_from m ss) s.packets (packets_sent (λ from x. length (log_of x) ≤ k) m ss f);
    }
      where
        go : (q : ℕ) (x : Member D) → ((q ≡ m) × (n ≡ x)) ⊎ ((q ≢ m) × MemberAt w.members q x) → IsShort k x
        go q x (inl e) = subst (λ y. IsShort k y) e.1 h
        go q x (inr e) = s.members q x e.1

    pub short_serving : (m : ℕ) → Short k (serving w m)
    short_serving m = on_some (Short k) (slice_get w.members m) w (serving_at w m) s
        (λ n at. on_cond (Short k) (is_gathered w.size m n) (sending (with_member w m (server n)) m (storing w.size m (server n))) w
        (λ e. let h = s.members m n at in let l = short_longest n.log (tells_of n.role) h.log h.kept in
        short_steps m (server n) (storing w.size m (server n)) (record { log = l; kept = tt }) (short_each (Store m (longest n.log (tells_of n.role))) (peers w.size m (server n)) l)) (λ e. s))

    pub short_publishing : (m : ℕ) → Short k (publishing w m)
    short_publishing m = on_some (Short k) (slice_get w.members m) w (publishing_at w m) s
        (λ n at. on_cond (Short k) (is_stored w.size m n && is_ahead w n.log) (record w { published = n.log }) w (λ e. record { members = s.members; packets = s.packets }) (λ e. s))

  pub short_stepped : (w : Masters D) (m : ℕ) (st : Step D) → Short k w → IsShortStep st → Short k (stepped w m st).world
  short_stepped w m st s h =
      let u : Masters D = sending (with_member w m st.member) m st.sent in
      short_publishing (serving u m) (short_serving u (short_steps w s m st.member st.sent h.0 h.1) m) m

  pub short_taking : (m from : ℕ) (x : Message D) (n : Member D) → IsShort k n → length (log_of x) ≤ k → IsShortStep (taking m from x n)
  short_taking m from (Store t l) n h f =
      on_cond IsShortStep (nat_lt t n.seen) (quiet n Other) (record { member = with_log t (longer n.log l) n; sent = record { to = from; message = Stored t (length (longer n.log l)) } ∷ []; outcome = StoreTaken })
      (λ e. (h, tt)) (λ e. (record { log = short_longer n.log l h.log f; kept = h.kept }, (least k, tt)))
  short_taking m from (Stored t c) n h f =
      on_cond IsShortStep (is_serving n.role && (t == m)) (quiet (with_role (Serving (with_count from c (counts_of n.role))) n) Counted) (quiet n Stale) (λ e. (record { log = h.log; kept = tt }, tt)) (λ e. (h, tt))
  short_taking m from (Ask t) n h f =
      on_cond IsShortStep (nat_lt t n.seen) (quiet n Other) (record { member = with_seen t n; sent = record { to = from; message = Tell t n.log } ∷ []; outcome = Asked })
      (λ e. (h, tt)) (λ e. (record { log = h.log; kept = h.kept }, (h.log, tt)))
  short_taking m from (Tell t l) n h f =
      on_cond IsShortStep (is_gathering n.role && (t == m)) (quiet (with_role (Gathering (with_tell from l (tells_of n.role))) n) TellKept) (quiet n Stale)
      (λ e. (record { log = h.log; kept = every_tell (λ (j : ToldLog D). length j.log ≤ k) from l (tells_of n.role) f h.kept }, tt)) (λ e. (h, tt))

  pub short_hearing : (size m x : ℕ) (n : Member D) → IsShort k n → IsShortStep (hearing size m x n)
  short_hearing size m x n h =
      on_cond IsShortStep (begins m (with_told x n)) (record { member = gatherer m (with_told x n); sent = to_each (Ask m) (peers size m (with_told x n)); outcome = Done }) (quiet (with_told x n) Done)
      (λ e. (record { log = h.log; kept = tt }, short_each (Ask m) (peers size m (with_told x n)) (least k))) (λ e. (record { log = h.log; kept = h.kept }, tt))

  pub short_again : (size m : ℕ) (n : Member D) → IsShort k n → AreShort (sent_again size m n)
  short_again size m n h =
      on_cond AreShort (is_gathering n.role) (asking_again size m n) (cond (is_serving n.role && has_sent m n) (storing_again size m n) [])
      (λ e. short_each (Ask m) (filter (λ p. not (has_told (tells_of n.role) p)) (peers size m n)) (least k))
      (λ b. on_cond AreShort (is_serving n.role && has_sent m n) (storing_again size m n) []
      (λ e. short_each (Store m n.log) (filter (λ p. not (has_stored (length n.log) (counts_of n.role) p)) (peers size m n)) h.log) (λ e. tt))

  pub short_proposing : (size m : ℕ) (d : D) (n : Member D) → IsShort k n → length n.log < k → IsShortStep (proposing size m d n)
  short_proposing size m d n h l =
      let a = length-append n.log (d ∷ []) in
      let b : length (n.log ++ d ∷ []) ≤ k = omega (arith, a, l) in
      (record { log = b; kept = h.kept }, short_each (Store m (n.log ++ d ∷ [])) (peers size m (with_decision d n)) b)

  abbrev pub Shorts : Happened D → Type 0
  Shorts h = Short k h.world

  pub short_member : (w : Masters D) (m : ℕ) (f : Member D → Happened D) → Short k w → ((n : Member D) → MemberAt w.members m n → Shorts (f n)) → Shorts (at_member w m f)
  short_member w m f s h = on_cond Shorts (is_live w m) (map_or (slice_get w.members m) (nothing w) f) (nothing w) (λ e. on_some Shorts (slice_get w.members m) (nothing w) f s (λ n at. h n at)) (λ e. s)

  pub short_handed : (w : Masters D) (p : Packet D) → Short k w → length (log_of p.message) ≤ k → Shorts (handed_over w p)
  short_handed w p s h = on_cond Shorts (is_live w p.to) (at_member w p.to (λ n. stepped w p.to (taking p.to p.from p.message n))) (refused w Dropped)
      (λ e. short_member w p.to (λ n. stepped w p.to (taking p.to p.from p.message n)) s (λ n at. short_stepped w p.to (taking p.to p.from p.message n) s (short_taking p.to p.from p.message n (s.members p.to n at) h))) (λ e. s)

  module _ (w : Masters D) (s : Short k w) where
    pub fewer : (f t i : ℕ) → Short k (with_packets w (taken_out f t i w.packets))
    fewer f t i = record { members = s.members; packets = every_taken_out (λ (p : Packet D). length (log_of p.message) ≤ k) f t i w.packets s.packets }

    -- an event makes none longer than k, where the published list is shorter
    pub short_event : (e : Event D) → length w.published < k → Shorts (happens w e)
    short_event (Told m x) u = on_cond Shorts (is_among w.crashed x) (at_member w m (λ n. stepped w m (hearing w.size m x n))) (nothing w)
        (λ e. short_member w m (λ n. stepped w m (hearing w.size m x n)) s (λ n at. short_stepped w m (hearing w.size m x n) s (short_hearing w.size m x n (s.members m n at)))) (λ e. s)
    short_event (Crash m) u = on_cond Shorts (is_live w m) (done (record w { crashed = w.crashed ++ m ∷ [] })) (nothing w) (λ e. record { members = s.members; packets = s.packets }) (λ e. s)
    short_event (Propose d) u = on_some Shorts (master w) (nothing w) (λ m. at_member w m (proposed_at w d m)) s (λ m e. short_member w m (proposed_at w d m) s (λ n at.
        on_cond Shorts (is_ahead w n.log) (refused w (RefusedBusy (length n.log))) (cond (nat_le most_decisions (length n.log)) (refused w RefusedFull) (stepped w m (proposing w.size m d n))) (λ b. s)
        (λ b. on_cond Shorts (nat_le most_decisions (length n.log)) (refused w RefusedFull) (stepped w m (proposing w.size m d n)) (λ c. s)
        (λ c. let l = not_less (length w.published) (length n.log) b in short_stepped w m (proposing w.size m d n) s (short_proposing w.size m d n (s.members m n at) (omega (arith, l, u)))))))
    short_event (Deliver f t i) u = on_some Shorts (slice_get (link f t w.packets) i) (nothing w) (λ p. handed_over (with_packets w (taken_out f t i w.packets)) p) s
        (λ p e. short_handed (with_packets w (taken_out f t i w.packets)) p (fewer f t i) (in_flight p e))
      where
        in_flight : (p : Packet D) → slice_get (link f t w.packets) i ≡ Some p → length (log_of p.message) ≤ k
        in_flight p e = every_in (λ (q : Packet D). length (log_of q.message) ≤ k) (link f t w.packets) p (every_filter (λ (q : Packet D). length (log_of q.message) ≤ k) (is_on f t) w.packets s.packets) (get_in (link f t w.packets) i p e)
    short_event (Lose f t i) u = on_some Shorts (slice_get (link f t w.packets) i) (nothing w) (λ p. done (with_packets w (taken_out f t i w.packets))) s (λ p e. fewer f t i)
    short_event (Resend m) u = short_member w m (resent w m) s (λ n at. on_cond Shorts (is_empty (sent_again w.size m n)) (nothing w) (done (sending w m (sent_again w.size m n))) (λ e. s)
        (λ e. record { members = s.members; packets = every_append (λ (p : Packet D). length (log_of p.message) ≤ k) w.packets (packets_from m (sent_again w.size m n)) s.packets (packets_sent (λ from x. length (log_of x) ≤ k) m (sent_again w.size m n) (short_again w.size m n (s.members m n at))) }))

-- a greater bound does too
pub short_more : {D : Type 0} (k q : ℕ) (w : Masters D) → k ≤ q → Short k w → Short q w
short_more {D} k q w l s = record {
  members = λ m n at. let h = s.members m n at in record { log = le_trans h.log l; kept = every_weaker (λ (t : ToldLog D). length t.log ≤ k) (λ (t : ToldLog D). length t.log ≤ q) (tells_of n.role) (λ t a. le_trans a l) h.kept };
  packets = every_weaker (λ (p : Packet D). length (log_of p.message) ≤ k) (λ (p : Packet D). length (log_of p.message) ≤ q) w.packets (λ p a. le_trans a l) s.packets;
}

-- at most one more than is published
abbrev pub IsLean : {D : Type 0} → Masters D → Type 0
IsLean w = Short (suc (length w.published)) w

pub start_lean : {D : Type 0} (size : ℕ) → IsLean (start {D = D} size)
start_lean {D} size = record {
  members = λ m n at. subst (λ x. IsShort 1 x) (opened size m n at).1 (record { log = omega arith; kept = on_cond (λ r. Every (λ (t : ToldLog D). length t.log ≤ 1) (tells_of r)) (m == 0) (Serving []) _ (λ e. tt) (λ e. tt) });
  packets = tt;
}

pub event_lean : {D : Type 0} (w : Masters D) (e : Event D) → length w.published ≤ length (happens w e).world.published → IsLean w → IsLean (happens w e).world
event_lean w e l s = short_more (suc (length w.published)) (suc (length (happens w e).world.published)) (happens w e).world (omega (arith, l)) (short_event (suc (length w.published)) w s e (omega arith))

-- where no log is longer than the published list nothing is pending

pub none_passing : {X : Type 0} (t : X → Bool) (xs : List X) → Every (λ x. t x ≡ false) xs → list_any t xs ≡ false
none_passing t [] h = refl
none_passing t (x ∷ xs) h = rw h.0 (none_passing t xs h.1)

pub none_of : {X : Type 0} (t : X → Bool) (xs : List X) → ((x : X) → t x ≡ false) → list_any t xs ≡ false
none_of t [] h = refl
none_of t (x ∷ xs) h = rw (h x) (none_of t xs h)

pub no_either : (a b : Bool) → a ≡ false → b ≡ false → (a || b) ≡ false
no_either a b e f = rw (e, f) refl

pub short_quiet : {D : Type 0} (w : Masters D) → Short (length w.published) w → pending w ≡ false
short_quiet {D} w s = no_either (list_any (is_pending_member w) (numbers_below w.size)) (list_any (λ (p : Packet D). is_ahead w (log_of p.message)) w.packets)
    (none_of (is_pending_member w) (numbers_below w.size) (λ m. and_false (is_live w m) (map_or (slice_get w.members m) false (is_pending_at w)) (on_some (λ b. b ≡ false) (slice_get w.members m) false (is_pending_at w) refl (λ n at. member m n at))))
    (none_passing (λ (p : Packet D). is_ahead w (log_of p.message)) w.packets (every_weaker (λ (p : Packet D). length (log_of p.message) ≤ length w.published) (λ (p : Packet D). is_ahead w (log_of p.message) ≡ false) w.packets (λ p l. is_not_less (length w.published) (length (log_of p.message)) l) s.packets))
  where
    member : (m : ℕ) (n : Member D) → MemberAt w.members m n → is_pending_at w n ≡ false
    member m n at =
        let h = s.members m n at in
        no_either (is_ahead w n.log) (list_any (λ (t : ToldLog D). is_ahead w t.log) (tells_of n.role)) (is_not_less (length w.published) (length n.log) h.log)
        (none_passing (λ (t : ToldLog D). is_ahead w t.log) (tells_of n.role) (every_weaker (λ (t : ToldLog D). length t.log ≤ length w.published) (λ (t : ToldLog D). is_ahead w t.log ≡ false) (tells_of n.role) (λ t l. is_not_less (length w.published) (length t.log) l) h.kept))

-- nothing is pending as a decision is published
pub published_quiet : {D : Type 0} (w : Masters D) (e : Event D) (d : D) → IsLean w → (happens w e).world.published ≡ w.published ++ d ∷ [] → pending (happens w e).world ≡ false
published_quiet w e d s q =
    let a = length-append w.published (d ∷ []) in
    let b = ap (λ us. length us) q in
    let l : suc (length w.published) ≤ length (happens w e).world.published = omega (arith, a, b) in
    short_quiet (happens w e).world (short_more (suc (length w.published)) (length (happens w e).world.published) (happens w e).world l (short_event (suc (length w.published)) w s e (omega arith)))

-- where nothing is pending no proposal is refused as busy
abbrev pub Free : {D : Type 0} → Happened D → Type 0
Free h = is_busy h.outcome ≡ false

pub quiet_not_busy : {D : Type 0} (w : Masters D) (d : D) → pending w ≡ false → is_busy (happens w (Propose d)).outcome ≡ false
quiet_not_busy {D} w d q = on_some Free (master w) (nothing w) (λ m. at_member w m (proposed_at w d m)) refl (λ m e.
    on_cond Free (is_live w m) (map_or (slice_get w.members m) (nothing w) (proposed_at w d m)) (nothing w) (λ l. on_some Free (slice_get w.members m) (nothing w) (proposed_at w d m) refl (λ n at.
    on_cond Free (is_ahead w n.log) (refused w (RefusedBusy (length n.log))) (cond (nat_le most_decisions (length n.log)) (refused w RefusedFull) (stepped w m (proposing w.size m d n)))
    (λ b. clash (is_ahead w n.log) b (or_false_left (is_ahead w n.log) (list_any (λ (t : ToldLog D). is_ahead w t.log) (tells_of n.role)) (still m n l at)))
    (λ b. on_cond Free (nat_le most_decisions (length n.log)) (refused w RefusedFull) (stepped w m (proposing w.size m d n)) (λ c. refl) (λ c. refl)))) (λ l. refl))
  where
    still : (m : ℕ) (n : Member D) → is_live w m ≡ true → MemberAt w.members m n → is_pending_at w n ≡ false
    still m n l at =
        let a = none_in (is_pending_member w) (numbers_below w.size) m (or_false_left (list_any (is_pending_member w) (numbers_below w.size)) (list_any (λ (p : Packet D). is_ahead w (log_of p.message)) w.packets) q) (in_below w.size m (less m w.size (both_left (nat_lt m w.size) (not (is_among w.crashed m)) l))) in
        subst (λ o. map_or o false (is_pending_at w) ≡ false) at (subst (λ b. (b && map_or (slice_get w.members m) false (is_pending_at w)) ≡ false) l a)
