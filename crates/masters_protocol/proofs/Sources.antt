-- Where the decisions of a log come from.
use Rattle.std.proofs.Common.{◌≡◌, ◌≢◌, ℕ, ◌≤◌, true, false, cond, not, ◌&&◌, ◌==◌, nat_lt, nat_le, List, [], ◌∷◌, ◌++◌, filter, length, slice_get, refl, ap, sym, ◌∙◌, subst, ◌⊎◌, ⊎_elim, inl, inr, arith, append_assoc, append-nil, length-append}
use Rattle.std.specs.List.{list_any}
use Rattle.partition_protocol.proofs.Events.{get_in}
use Rattle.partition_protocol.proofs.Lists.{Every, every_append, every_weaker, every_in, every_from_in, every_filter, on_cond, get_set, cases, IsPart, part_longer, part_both, part_subsequence}
use Rattle.partition_protocol.proofs.RowFacts.{or_false_left, or_false_right, both, less, not_less, is_less}
use Rattle.partition_protocol.specs.Sequences.{IsSubsequence}
use Rattle.partition_protocol.specs.Service.{numbers_below}
use Rattle.partition_protocol.specs.World.{map_or}
use Rattle.partition_table.specs.Rows.{is_among, is_empty}
use Rattle.masters_protocol.specs.Members.{Gathering, Serving, Member, ToldLog, Message, Store, Stored, Ask, Tell, Sent, Step, Other, StoreTaken, Counted, Asked, TellKept, Stale, Done, Dropped, RefusedBusy, RefusedFull, log_of, quiet, is_gathering, is_serving, tells_of, counts_of, peers, has_told, has_stored, with_tell, with_count, longer, longest, is_gathered, is_stored, to_each, begins, gatherer, with_told, hearing, server, storing, with_log, with_seen, with_role, taking, most_decisions, with_decision, proposing, has_sent, asking_again, storing_again, sent_again}
use Rattle.masters_protocol.specs.Machine.{Masters, Packet, Event, Told, Crash, Propose, Deliver, Lose, Resend, Happened, is_live, is_ahead, is_pending_at, is_pending_member, pending, is_on, link, taken_out, packets_from, with_packets, with_member, sending, serving, serving_at, publishing, publishing_at, nothing, done, refused, stepped, at_member, handed_over, at_place, master, proposed_at, resent, happens, run}
use Rattle.masters_protocol.specs.Claims.{accepted_by, accepted}
use Rattle.masters_protocol.proofs.Lists.{on_some, none_in}
use Rattle.masters_protocol.proofs.Tests.{clash, true_not, in_below, among_more}
use Rattle.masters_protocol.proofs.Fronts.{front_same}
use Rattle.masters_protocol.proofs.Invariant.{within, MemberAt}
use Rattle.masters_protocol.proofs.Forward.{packets_sent}
use Rattle.masters_protocol.proofs.Keeps.{Good}
use Rattle.masters_protocol.proofs.Serve.{each_sent}
use Rattle.masters_protocol.proofs.Members.{every_tell}
use Rattle.masters_protocol.proofs.Events.{lives, every_taken_out}

-- parts in order

-- a log that begins with base and goes on with some of the new decisions
abbrev pub IsFrom : {D : Type 0} → List D → List D → List D → Type 0
IsFrom {D} base new l = (r : List D) × (base ++ r ≡ l) × IsPart r new

-- or one that is no longer than base
abbrev pub IsFromOrOld : {D : Type 0} → List D → List D → List D → Type 0
IsFromOrOld base new l = (length l ≤ length base) ⊎ IsFrom base new l

pub from_length : {D : Type 0} (base new l : List D) → IsFrom base new l → length base ≤ length l
from_length base new l h = let a = length-append base h.0 in let b = ap (λ us. length us) h.1 in omega (arith, a, b)

pub from_longer : {D : Type 0} (base new l k : List D) → IsFrom base new l → IsFromOrOld base new k → IsFrom base new (longer l k)
from_longer base new l k h f =
    on_cond (λ us. IsFrom base new us) (nat_lt (length l) (length k)) k l
    (λ e. ⊎_elim (λ a. let b = less (length l) (length k) e in let c = from_length base new l h in absurd (omega (arith, a, b, c))) (λ a. a) f) (λ e. h)

pub from_longest : {D : Type 0} (base new l : List D) (ks : List (ToldLog D)) → IsFrom base new l → Every (λ (k : ToldLog D). IsFromOrOld base new k.log) ks → IsFrom base new (longest l ks)
from_longest base new l [] h f = h
from_longest base new l (k ∷ ks) h f = from_longest base new (longer l k.log) ks (from_longer base new l k.log h f.0) f.1

pub from_more : {D : Type 0} (base new l : List D) (d : D) → IsFrom base new l → IsFrom base (new ++ d ∷ []) l
from_more base new l d h = (h.0, h.1, part_longer h.0 new d h.2)

pub either_more : {D : Type 0} (base new l : List D) (d : D) → IsFromOrOld base new l → IsFromOrOld base (new ++ d ∷ []) l
either_more base new l d h = ⊎_elim (λ a. inl a) (λ a. inr (from_more base new l d a)) h

pub from_added : {D : Type 0} (base new l : List D) (d : D) → IsFrom base new l → IsFrom base (new ++ d ∷ []) (l ++ d ∷ [])
from_added base new l d h = (h.0 ++ d ∷ [], sym (append_assoc base h.0 (d ∷ [])) ∙ ap (λ us. us ++ d ∷ []) h.1, part_both h.0 new d h.2)

pub record IsSourced {D : Type 0} (base new : List D) (n : Member D) : Type 0 where
  pub log : IsFrom base new n.log
  pub kept : Every (λ (k : ToldLog D). IsFromOrOld base new k.log) (tells_of n.role)

abbrev pub AreSent : {D : Type 0} → List D → List D → List (Sent D) → Type 0
AreSent {D} base new ss = Every (λ (x : Sent D). IsFromOrOld base new (log_of x.message)) ss

pub record Sourced {D : Type 0} (base new : List D) (w : Masters D) : Type 0 where
  pub members : (m : ℕ) (n : Member D) → is_among w.crashed m ≡ false → MemberAt w.members m n → IsSourced base new n
  pub packets : Every (λ (p : Packet D). IsFromOrOld base new (log_of p.message)) w.packets
  pub published : IsFrom base new w.published

pub sourced_more : {D : Type 0} (base new : List D) (w : Masters D) (d : D) → Sourced base new w → Sourced base (new ++ d ∷ []) w
sourced_more base new w d h = record {
  members = λ m n v e. let s = h.members m n v e in record { log = from_more base new n.log d s.log; kept = every_weaker (λ (k : ToldLog _). IsFromOrOld base new k.log) (λ (k : ToldLog _). IsFromOrOld base (new ++ d ∷ []) k.log) (tells_of n.role) (λ k. either_more base new k.log d) s.kept };
  packets = every_weaker (λ (p : Packet _). IsFromOrOld base new (log_of p.message)) (λ (p : Packet _). IsFromOrOld base (new ++ d ∷ []) (log_of p.message)) w.packets (λ p. either_more base new (log_of p.message) d) h.packets;
  published = from_more base new w.published d h.published;
}

module _ {D : Type 0} (base new : List D) where
  pub sends_nothing : IsFromOrOld base new []
  sends_nothing = inl (omega arith)

  pub sends_to : (x : Message D) (ms : List ℕ) → IsFromOrOld base new (log_of x) → AreSent base new (to_each x ms)
  sends_to x ms h = each_sent (λ (y : Sent D). IsFromOrOld base new (log_of y.message)) x ms (λ m. h)

  module _ (w : Masters D) (src : Sourced base new w) where
    pub steps : (m : ℕ) (n : Member D) (ss : List (Sent D)) → IsSourced base new n → AreSent base new ss → Sourced base new (sending (with_member w m n) m ss)
    steps m n ss h f = record {
      members = λ k x v e. go k x v (get_set w.members m k n x e);
      packets = every_append (λ (p : Packet D). IsFromOrOld base new (log_of p.message)) w.packets (packets_from m ss) src.packets (packets_sent (λ from x. IsFromOrOld base new (log_of x)) m ss f);
      published = src.published;
    }
      where
        go : (k : ℕ) (x : Member D) → is_among w.crashed k ≡ false → ((k ≡ m) × (n ≡ x)) ⊎ ((k ≢ m) × MemberAt w.members k x) → IsSourced base new x
        go k x v (inl e) = subst (λ y. IsSourced base new y) e.1 h
        go k x v (inr e) = src.members k x v e.1

    pub serves : (m : ℕ) → is_among w.crashed m ≡ false → Sourced base new (serving w m)
    serves m v = on_some (λ u. Sourced base new u) (slice_get w.members m) w (serving_at w m) src
        (λ n at. on_cond (λ u. Sourced base new u) (is_gathered w.size m n) (sending (with_member w m (server n)) m (storing w.size m (server n))) w
        (λ e. let s = src.members m n v at in let l = from_longest base new n.log (tells_of n.role) s.log s.kept in
        steps m (server n) (storing w.size m (server n)) (record { log = l; kept = tt }) (sends_to (Store m (longest n.log (tells_of n.role))) (peers w.size m (server n)) (inr l))) (λ e. src))

    pub publishes : (m : ℕ) → is_among w.crashed m ≡ false → Sourced base new (publishing w m)
    publishes m v = on_some (λ u. Sourced base new u) (slice_get w.members m) w (publishing_at w m) src
        (λ n at. on_cond (λ u. Sourced base new u) (is_stored w.size m n && is_ahead w n.log) (record w { published = n.log }) w
        (λ e. record { members = src.members; packets = src.packets; published = (src.members m n v at).log }) (λ e. src))

    pub same_crashed : (m k : ℕ) → is_among w.crashed k ≡ false → is_among (serving w m).crashed k ≡ false
    same_crashed m k v = on_some (λ (u : Masters D). is_among u.crashed k ≡ false) (slice_get w.members m) w (serving_at w m) v
        (λ n at. on_cond (λ (u : Masters D). is_among u.crashed k ≡ false) (is_gathered w.size m n) (sending (with_member w m (server n)) m (storing w.size m (server n))) w (λ e. v) (λ e. v))

  abbrev pub IsStep : Step D → Type 0
  IsStep st = IsSourced base new st.member × AreSent base new st.sent

  pub stepped_from : (w : Masters D) (m : ℕ) (st : Step D) → Sourced base new w → is_among w.crashed m ≡ false → IsStep st → Sourced base new (stepped w m st).world
  stepped_from w m st src v h =
      let u = sending (with_member w m st.member) m st.sent in
      let a : Sourced base new u = steps w src m st.member st.sent h.0 h.1 in
      publishes (serving u m) (serves u a m v) m (same_crashed u a m m v)

  pub taking_from : (m from : ℕ) (x : Message D) (n : Member D) → IsSourced base new n → IsFromOrOld base new (log_of x) → IsStep (taking m from x n)
  taking_from m from (Store t l) n h f =
      on_cond IsStep (nat_lt t n.seen) (quiet n Other) (record { member = with_log t (longer n.log l) n; sent = record { to = from; message = Stored t (length (longer n.log l)) } ∷ []; outcome = StoreTaken })
      (λ e. (h, tt)) (λ e. (record { log = from_longer base new n.log l h.log f; kept = h.kept }, (sends_nothing, tt)))
  taking_from m from (Stored t c) n h f =
      on_cond IsStep (is_serving n.role && (t == m)) (quiet (with_role (Serving (with_count from c (counts_of n.role))) n) Counted) (quiet n Stale)
      (λ e. (record { log = h.log; kept = tt }, tt)) (λ e. (h, tt))
  taking_from m from (Ask t) n h f =
      on_cond IsStep (nat_lt t n.seen) (quiet n Other) (record { member = with_seen t n; sent = record { to = from; message = Tell t n.log } ∷ []; outcome = Asked })
      (λ e. (h, tt)) (λ e. (record { log = h.log; kept = h.kept }, (inr h.log, tt)))
  taking_from m from (Tell t l) n h f =
      on_cond IsStep (is_gathering n.role && (t == m)) (quiet (with_role (Gathering (with_tell from l (tells_of n.role))) n) TellKept) (quiet n Stale)
      (λ e. (record { log = h.log; kept = every_tell (λ (k : ToldLog D). IsFromOrOld base new k.log) from l (tells_of n.role) f h.kept }, tt)) (λ e. (h, tt))

  pub hearing_from : (size m x : ℕ) (n : Member D) → IsSourced base new n → IsStep (hearing size m x n)
  hearing_from size m x n h =
      on_cond IsStep (begins m (with_told x n)) (record { member = gatherer m (with_told x n); sent = to_each (Ask m) (peers size m (with_told x n)); outcome = Done }) (quiet (with_told x n) Done)
      (λ e. (record { log = h.log; kept = tt }, sends_to (Ask m) (peers size m (with_told x n)) sends_nothing)) (λ e. (record { log = h.log; kept = h.kept }, tt))

  pub again_from : (size m : ℕ) (n : Member D) → IsSourced base new n → AreSent base new (sent_again size m n)
  again_from size m n h =
      on_cond (AreSent base new) (is_gathering n.role) (asking_again size m n) (cond (is_serving n.role && has_sent m n) (storing_again size m n) [])
      (λ e. sends_to (Ask m) (filter (λ p. not (has_told (tells_of n.role) p)) (peers size m n)) sends_nothing)
      (λ b. on_cond (AreSent base new) (is_serving n.role && has_sent m n) (storing_again size m n) []
      (λ e. sends_to (Store m n.log) (filter (λ p. not (has_stored (length n.log) (counts_of n.role) p)) (peers size m n)) (inr h.log)) (λ e. tt))

pub proposing_from : {D : Type 0} (base new : List D) (size m : ℕ) (d : D) (n : Member D) → IsSourced base new n → IsStep base (new ++ d ∷ []) (proposing size m d n)
proposing_from base new size m d n h =
    let l = from_added base new n.log d h.log in (
      record { log = l; kept = every_weaker (λ (k : ToldLog _). IsFromOrOld base new k.log) (λ (k : ToldLog _). IsFromOrOld base (new ++ d ∷ []) k.log) (tells_of n.role) (λ k. either_more base new k.log d) h.kept },
      sends_to base (new ++ d ∷ []) (Store m (n.log ++ d ∷ [])) (peers size m (with_decision d n)) (inr l),
    )

-- each event

module _ {D : Type 0} (base new : List D) (w : Masters D) (src : Sourced base new w) where
  abbrev pub Flows : Event D → Happened D → Type 0
  Flows e h = Sourced base (new ++ accepted_by e h.outcome) h.world

  pub no_more : (u : Masters D) → Sourced base new u → Sourced base (new ++ []) u
  no_more u h = subst (λ ds. Sourced base ds u) (sym (append-nil new)) h

  pub at_member_from : (m : ℕ) (f : Member D → Happened D) (P : Happened D → Type 0) → P (nothing w) → ((n : Member D) → is_among w.crashed m ≡ false → MemberAt w.members m n → P (f n)) → P (at_member w m f)
  at_member_from m f P z h = on_cond P (is_live w m) (map_or (slice_get w.members m) (nothing w) f) (nothing w) (λ e. on_some P (slice_get w.members m) (nothing w) f z (λ n at. h n (lives w m e) at)) (λ e. z)

  pub told_flows : (m x : ℕ) → Sourced base new (happens w (Told m x)).world
  told_flows m x =
      on_cond (λ (h : Happened D). Sourced base new h.world) (is_among w.crashed x) (at_member w m (λ n. stepped w m (hearing w.size m x n))) (nothing w)
      (λ e. at_member_from m (λ n. stepped w m (hearing w.size m x n)) (λ (h : Happened D). Sourced base new h.world) src
      (λ n v at. stepped_from base new w m (hearing w.size m x n) src v (hearing_from base new w.size m x n (src.members m n v at)))) (λ e. src)

  pub crash_flows : (m : ℕ) → Sourced base new (happens w (Crash m)).world
  crash_flows m = on_cond (λ (h : Happened D). Sourced base new h.world) (is_live w m) (done (record w { crashed = w.crashed ++ m ∷ [] })) (nothing w)
      (λ e. record { members = λ k n v at. src.members k n (before k v) at; packets = src.packets; published = src.published }) (λ e. src)
    where
      before : (k : ℕ) → is_among (w.crashed ++ m ∷ []) k ≡ false → is_among w.crashed k ≡ false
      before k v = ⊎_elim (λ e. clash (is_among (w.crashed ++ m ∷ []) k) (among_more w.crashed m k e) v) (λ e. e) (cases (is_among w.crashed k))

  pub propose_flows : (d : D) → Flows (Propose d) (happens w (Propose d))
  propose_flows d = on_some (Flows (Propose d)) (master w) (nothing w) (λ m. at_member w m (proposed_at w d m)) (no_more w src)
      (λ m e. at_member_from m (proposed_at w d m) (Flows (Propose d)) (no_more w src) (λ n v at.
      on_cond (Flows (Propose d)) (is_ahead w n.log) (refused w (RefusedBusy (length n.log))) (cond (nat_le most_decisions (length n.log)) (refused w RefusedFull) (stepped w m (proposing w.size m d n)))
      (λ b. no_more w src) (λ b. on_cond (Flows (Propose d)) (nat_le most_decisions (length n.log)) (refused w RefusedFull) (stepped w m (proposing w.size m d n)) (λ c. no_more w src)
      (λ c. stepped_from base (new ++ d ∷ []) w m (proposing w.size m d n) (sourced_more base new w d src) v (proposing_from base new w.size m d n (src.members m n v at))))))

  pub at_place_from : (f t i : ℕ) (k : Packet D → Happened D) → ((p : Packet D) → IsFromOrOld base new (log_of p.message) → Sourced base new (k p).world) → Sourced base new (at_place w f t i k).world
  at_place_from f t i k h =
      on_some (λ (x : Happened D). Sourced base new x.world) (slice_get (link f t w.packets) i) (nothing w) k src
      (λ p e. h p (every_in (λ (q : Packet D). IsFromOrOld base new (log_of q.message)) (link f t w.packets) p (every_filter (λ (q : Packet D). IsFromOrOld base new (log_of q.message)) (is_on f t) w.packets src.packets) (get_in (link f t w.packets) i p e)))

  pub without_from : (f t i : ℕ) → Sourced base new (with_packets w (taken_out f t i w.packets))
  without_from f t i = record { members = src.members; packets = every_taken_out (λ (q : Packet D). IsFromOrOld base new (log_of q.message)) f t i w.packets src.packets; published = src.published }

  pub resend_flows : (m : ℕ) → Sourced base new (happens w (Resend m)).world
  resend_flows m = at_member_from m (resent w m) (λ (h : Happened D). Sourced base new h.world) src
      (λ n v at. on_cond (λ (h : Happened D). Sourced base new h.world) (is_empty (sent_again w.size m n)) (nothing w) (done (sending w m (sent_again w.size m n))) (λ e. src)
      (λ e. record { members = src.members; published = src.published; packets = every_append (λ (p : Packet D). IsFromOrOld base new (log_of p.message)) w.packets (packets_from m (sent_again w.size m n)) src.packets (packets_sent (λ from x. IsFromOrOld base new (log_of x)) m (sent_again w.size m n) (again_from base new w.size m n (src.members m n v at))) }))

pub deliver_flows : {D : Type 0} (base new : List D) (w : Masters D) (src : Sourced base new w) (f t i : ℕ) → Sourced base new (happens w (Deliver f t i)).world
deliver_flows {D} base new w src f t i = at_place_from base new w src f t i (λ p. handed_over (with_packets w (taken_out f t i w.packets)) p) given
  where
    given : (p : Packet D) → IsFromOrOld base new (log_of p.message) → Sourced base new (handed_over (with_packets w (taken_out f t i w.packets)) p).world
    given p h =
        let x : Masters D = with_packets w (taken_out f t i w.packets) in
        let s : Sourced base new x = without_from base new w src f t i in
        on_cond (λ (y : Happened D). Sourced base new y.world) (is_live x p.to) (at_member x p.to (λ n. stepped x p.to (taking p.to p.from p.message n))) (refused x Dropped)
        (λ e. at_member_from base new x s p.to (λ n. stepped x p.to (taking p.to p.from p.message n)) (λ (y : Happened D). Sourced base new y.world) s
        (λ n v at. stepped_from base new x p.to (taking p.to p.from p.message n) s v (taking_from base new p.to p.from p.message n (s.members p.to n v at) h)))
        (λ e. s)

pub event_flows : {D : Type 0} (base new : List D) (w : Masters D) (src : Sourced base new w) (e : Event D) → Sourced base (new ++ accepted_by e (happens w e).outcome) (happens w e).world
event_flows base new w src (Told m x) = no_more base new w src (happens w (Told m x)).world (told_flows base new w src m x)
event_flows base new w src (Crash m) = no_more base new w src (happens w (Crash m)).world (crash_flows base new w src m)
event_flows base new w src (Propose d) = propose_flows base new w src d
event_flows base new w src (Deliver f t i) = no_more base new w src (happens w (Deliver f t i)).world (deliver_flows base new w src f t i)
event_flows base new w src (Lose f t i) = no_more base new w src (happens w (Lose f t i)).world (at_place_from base new w src f t i (λ p. done (with_packets w (taken_out f t i w.packets))) (λ p h. without_from base new w src f t i))
event_flows base new w src (Resend m) = no_more base new w src (happens w (Resend m)).world (resend_flows base new w src m)

pub run_flows : {D : Type 0} (base new : List D) (w : Masters D) (es : List (Event D)) → Sourced base new w → Sourced base (new ++ accepted w es) (run w es)
run_flows base new w [] src = no_more base new w src w src
run_flows base new w (e ∷ es) src =
    let ds = accepted_by e (happens w e).outcome in
    subst (λ ks. Sourced base ks (run (happens w e).world es)) (append_assoc new ds (accepted (happens w e).world es)) (run_flows base (new ++ ds) (happens w e).world es (event_flows base new w src e))

-- where nothing is pending

module _ {D : Type 0} (w : Masters D) (g : Good w) (quiet_now : pending w ≡ false) where
  pub itself : IsFrom w.published [] w.published
  itself = ([], append-nil w.published, refl)

  pub not_ahead : (l : List D) → is_ahead w l ≡ false → length l ≤ length w.published
  not_ahead l e = not_less (length w.published) (length l) e

  pub member_still : (m : ℕ) (n : Member D) → is_among w.crashed m ≡ false → MemberAt w.members m n → is_pending_at w n ≡ false
  member_still m n v at =
      let a = none_in (is_pending_member w) (numbers_below w.size) m (or_false_left (list_any (is_pending_member w) (numbers_below w.size)) (list_any (λ (p : Packet D). is_ahead w (log_of p.message)) w.packets) quiet_now) (in_below w.size m (within w m n g.2.whole at)) in
      let live : is_live w m ≡ true = both (nat_lt m w.size) (not (is_among w.crashed m)) (is_less m w.size (within w m n g.2.whole at)) (true_not (is_among w.crashed m) v) in
      subst (λ o. map_or o false (is_pending_at w) ≡ false) at (subst (λ b. (b && map_or (slice_get w.members m) false (is_pending_at w)) ≡ false) live a)

  pub still_sourced : Sourced w.published [] w
  still_sourced = record {
    members = λ m n v at. record {
      log = ([], append-nil w.published ∙ front_same w.published n.log ((g.2.members m n at).live v).has (not_ahead n.log (or_false_left (is_ahead w n.log) (list_any (λ (k : ToldLog D). is_ahead w k.log) (tells_of n.role)) (member_still m n v at))), refl);
      kept = every_from_in (λ (k : ToldLog D). IsFromOrOld w.published [] k.log) (tells_of n.role)
          (λ k i. inl (not_ahead k.log (none_in (λ (j : ToldLog D). is_ahead w j.log) (tells_of n.role) k (or_false_right (is_ahead w n.log) (list_any (λ (j : ToldLog D). is_ahead w j.log) (tells_of n.role)) (member_still m n v at)) i)));
    };
    packets = every_from_in (λ (p : Packet D). IsFromOrOld w.published [] (log_of p.message)) w.packets
        (λ p i. inl (not_ahead (log_of p.message) (none_in (λ (q : Packet D). is_ahead w (log_of q.message)) w.packets p (or_false_right (list_any (is_pending_member w) (numbers_below w.size)) (list_any (λ (q : Packet D). is_ahead w (log_of q.message)) w.packets) quiet_now) i)));
    published = itself;
  }

  pub fresh : (es : List (Event D)) → (new : List D) × (w.published ++ new ≡ (run w es).published) × IsSubsequence new (accepted w es)
  fresh es = let r = (run_flows w.published [] w es still_sourced).published in (r.0, r.1, part_subsequence r.0 (accepted w es) r.2)
