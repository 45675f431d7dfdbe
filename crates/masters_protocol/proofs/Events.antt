-- Each event keeps the invariant, and the published list only grows.
use Rattle.std.proofs.Common.{◌≡◌, ℕ, zero, suc, ◌≤◌, Bool, true, false, cond, not, ◌&&◌, nat_lt, nat_le, List, [], ◌∷◌, ◌++◌, length, filter, Option, Some, slice_get, subst, ⊎_elim, arith}
use Rattle.partition_protocol.proofs.Events.{get_in}
use Rattle.partition_protocol.proofs.Extends.{same as front_refl, front_trans}
use Rattle.partition_protocol.proofs.Lists.{Every, every_append, every_in, every_filter, on_cond, cases}
use Rattle.partition_protocol.proofs.RowFacts.{both_left, both_right, not_true, not_less}
use Rattle.partition_protocol.specs.Sequences.{IsFrontOf}
use Rattle.partition_protocol.specs.Service.{numbers_below}
use Rattle.partition_protocol.specs.World.{map_or}
use Rattle.partition_table.specs.Rows.{is_among, is_empty}
use Rattle.masters_protocol.specs.Members.{Member, Store, Ask, Sent, RefusedBusy, RefusedFull, Dropped, is_gathering, is_serving, tells_of, counts_of, peers, has_told, has_stored, hearing, taking, proposing, most_decisions, has_sent, asking_again, storing_again, sent_again}
use Rattle.masters_protocol.specs.Machine.{Masters, Packet, Event, Told, Crash, Propose, Deliver, Lose, Resend, Happened, is_live, is_on, link, taken_out, packets_from, with_packets, sending, nothing, done, refused, stepped, at_member, handed_over, at_place, serves, lowest_of, master, proposed_at, resent, happens, run}
use Rattle.masters_protocol.proofs.Lists.{on_some}
use Rattle.masters_protocol.proofs.Tests.{clash, gathering_master, among_more}
use Rattle.masters_protocol.proofs.Invariant.{MemberAt, MessageOk, MemberOk, Inv}
use Rattle.masters_protocol.proofs.Forward.{Ahead, onward_refl, member_ahead, packets_ahead, lives_before, packets_sent}
use Rattle.masters_protocol.proofs.Keeps.{Good, Keeps, Lasts, lasts_refl, lasts_trans}
use Rattle.masters_protocol.proofs.Serve.{each_sent}
use Rattle.masters_protocol.proofs.Members.{stepped_on, lands_taking, lands_hearing, lands_proposing}

pub record Goes {D : Type 0} (w w' : Masters D) : Type 0 where
  pub good : Good w'
  pub grows : IsFrontOf w.published w'.published
  pub pace : length w'.published ≤ suc (length w.published)
  pub lasts : Lasts w w'

pub goes_nowhere : {D : Type 0} (w : Masters D) → Good w → Goes w w
goes_nowhere w g = record { good = g; grows = front_refl w.published; pace = omega arith; lasts = lasts_refl w }

pub goes_keeps : {D : Type 0} (w w' : Masters D) → Keeps w w' → Goes w w'
goes_keeps w w' k = record { good = k.good; grows = k.grows; pace = k.pace; lasts = k.lasts }

-- with other messages in flight
pub goes_packets : {D : Type 0} (w : Masters D) (ps : List (Packet D)) → Good (with_packets w ps) → Goes w (with_packets w ps)
goes_packets w ps g = record { good = g; grows = front_refl w.published; pace = omega arith; lasts = λ k j v e. (j, v, e, front_refl j.log) }

pub lives : {D : Type 0} (w : Masters D) (m : ℕ) → is_live w m ≡ true → is_among w.crashed m ≡ false
lives w m e = not_true (is_among w.crashed m) (both_right (nat_lt m w.size) (not (is_among w.crashed m)) e)

-- messages in flight

pub inv_packets : {D : Type 0} (w : Masters D) (s : ℕ) (lead : List D) (ps : List (Packet D)) → Inv w s lead → Every (λ (p : Packet D). MessageOk w.members w.crashed s lead p.from p.message) ps → Inv (with_packets w ps) s lead
inv_packets w s lead ps inv h = record { whole = inv.whole; rise = inv.rise; most = inv.most; members = inv.members; packets = h }

pub every_taken_out : {D : Type 0} (P : Packet D → Type 0) (f t i : ℕ) (ps : List (Packet D)) → Every P ps → Every P (taken_out f t i ps)
every_taken_out P f t zero [] h = tt
every_taken_out P f t (suc i) [] h = tt
every_taken_out P f t zero (p ∷ ps) h = on_cond (λ qs. Every P qs) (is_on f t p) ps (p ∷ taken_out f t zero ps) (λ e. h.1) (λ e. (h.0, every_taken_out P f t zero ps h.1))
every_taken_out P f t (suc i) (p ∷ ps) h = on_cond (λ qs. Every P qs) (is_on f t p) (p ∷ taken_out f t i ps) (p ∷ taken_out f t (suc i) ps) (λ e. (h.0, every_taken_out P f t i ps h.1)) (λ e. (h.0, every_taken_out P f t (suc i) ps h.1))

-- the first that passes a test

pub first_passes : (t : ℕ → Bool) (xs : List ℕ) (m : ℕ) → lowest_of (filter t xs) ≡ Some m → t m ≡ true
first_passes t [] m h = absurd cc
first_passes t (x ∷ xs) m h =
    let ih : lowest_of (filter t xs) ≡ Some m → t m ≡ true = first_passes t xs m in
    ⊎_elim (λ e. let g : lowest_of (x ∷ filter t xs) ≡ Some m = subst (λ b. lowest_of (cond b (x ∷ filter t xs) (filter t xs)) ≡ Some m) e h in let same : x ≡ m = cc in subst (λ j. t j ≡ true) same e)
    (λ e. ih (subst (λ b. lowest_of (cond b (x ∷ filter t xs) (filter t xs)) ≡ Some m) e h)) (cases (t x))

pub passes_at : {X : Type 0} (o : Option X) (f : X → Bool) (x : X) → map_or o false f ≡ true → o ≡ Some x → f x ≡ true
passes_at o f x e at = subst (λ p. map_or p false f ≡ true) at e

pub master_serves : {D : Type 0} (w : Masters D) (m : ℕ) (n : Member D) → master w ≡ Some m → MemberAt w.members m n → is_serving n.role ≡ true
master_serves w m n e at = passes_at (slice_get w.members m) (λ (x : Member _). is_serving x.role) n (both_right (is_live w m) (map_or (slice_get w.members m) false (λ x. is_serving x.role)) (first_passes (serves w) (numbers_below w.size) m e)) at

module _ {D : Type 0} (w : Masters D) (g : Good w) where
  pub at_member_goes : (m : ℕ) (f : Member D → Happened D) → ((n : Member D) → is_among w.crashed m ≡ false → MemberAt w.members m n → Goes w (f n).world) → Goes w (at_member w m f).world
  at_member_goes m f h =
      on_cond (λ (x : Happened D). Goes w x.world) (is_live w m) (map_or (slice_get w.members m) (nothing w) f) (nothing w)
      (λ e. on_some (λ (x : Happened D). Goes w x.world) (slice_get w.members m) (nothing w) f (goes_nowhere w g) (λ n at. h n (lives w m e) at)) (λ e. goes_nowhere w g)

  pub told_goes : (m x : ℕ) → Goes w (happens w (Told m x)).world
  told_goes m x =
      on_cond (λ (h : Happened D). Goes w h.world) (is_among w.crashed x) (at_member w m (λ n. stepped w m (hearing w.size m x n))) (nothing w)
      (λ e. at_member_goes m (λ n. stepped w m (hearing w.size m x n)) (λ n v at. goes_keeps w (stepped w m (hearing w.size m x n)).world (stepped_on w m n (hearing w.size m x n) at v (lands_hearing w g.0 g.1 g.2 m n at v x e)))) (λ e. goes_nowhere w g)

  pub crash_inv : (m : ℕ) → Inv (record w { crashed = w.crashed ++ m ∷ [] }) g.0 g.1
  crash_inv m = record {
    whole = inv.whole;
    rise = λ k l. more k (inv.rise k l);
    most = inv.most;
    members = λ k x e. let o = inv.members k x e in member_ahead w.members w.members w.crashed (w.crashed ++ m ∷ []) g.0 g.1 g.1 a w.published w.published k x o (λ v. o.live (lives_before w.members w.members w.crashed (w.crashed ++ m ∷ []) g.0 g.1 g.1 a k v));
    packets = packets_ahead w.members w.members w.crashed (w.crashed ++ m ∷ []) g.0 g.1 g.1 a w.packets inv.packets;
  }
    where
      inv : Inv w g.0 g.1
      inv = g.2

      more : (k : ℕ) → is_among w.crashed k ≡ true → is_among (w.crashed ++ m ∷ []) k ≡ true
      more k e = among_more w.crashed m k e

      a : Ahead w.members w.members w.crashed (w.crashed ++ m ∷ []) g.0 g.1 g.1
      a = record { ups = λ k x e. (x, e, onward_refl g.0 x); more = more; leads = front_refl g.1 }

  pub crash_goes : (m : ℕ) → Goes w (happens w (Crash m)).world
  crash_goes m = on_cond (λ (h : Happened D). Goes w h.world) (is_live w m) (done (record w { crashed = w.crashed ++ m ∷ [] })) (nothing w) (λ e. record { good = (g.0, g.1, crash_inv m); grows = front_refl w.published; pace = omega arith; lasts = λ k j v at. (j, before k v, at, front_refl j.log) }) (λ e. goes_nowhere w g)
    where
      before : (k : ℕ) → is_among (w.crashed ++ m ∷ []) k ≡ false → is_among w.crashed k ≡ false
      before k v = ⊎_elim (λ e. clash (is_among (w.crashed ++ m ∷ []) k) (among_more w.crashed m k e) v) (λ e. e) (cases (is_among w.crashed k))

  pub proposed_goes : (d : D) (m : ℕ) (n : Member D) → master w ≡ Some m → is_among w.crashed m ≡ false → MemberAt w.members m n → Goes w (proposed_at w d m n).world
  proposed_goes d m n e v at =
      on_cond (λ (h : Happened D). Goes w h.world) (nat_lt (length w.published) (length n.log)) (refused w (RefusedBusy (length n.log))) (cond (nat_le most_decisions (length n.log)) (refused w RefusedFull) (stepped w m (proposing w.size m d n)))
      (λ b. goes_nowhere w g)
      (λ b. on_cond (λ (h : Happened D). Goes w h.world) (nat_le most_decisions (length n.log)) (refused w RefusedFull) (stepped w m (proposing w.size m d n)) (λ c. goes_nowhere w g)
      (λ c. goes_keeps w (stepped w m (proposing w.size m d n)).world (stepped_on w m n (proposing w.size m d n) at v (lands_proposing w g.0 g.1 g.2 m n at v d (master_serves w m n e at) (not_less (length w.published) (length n.log) b)))))

  pub propose_goes : (d : D) → Goes w (happens w (Propose d)).world
  propose_goes d = on_some (λ (h : Happened D). Goes w h.world) (master w) (nothing w) (λ m. at_member w m (proposed_at w d m)) (goes_nowhere w g) (λ m e. at_member_goes m (proposed_at w d m) (λ n v at. proposed_goes d m n e v at))

  -- the packet at a place of a link, and the world without it
  pub at_place_goes : (f t i : ℕ) (k : Packet D → Happened D) → ((p : Packet D) → MessageOk w.members w.crashed g.0 g.1 p.from p.message → Goes w (k p).world) → Goes w (at_place w f t i k).world
  at_place_goes f t i k h =
      on_some (λ (x : Happened D). Goes w x.world) (slice_get (link f t w.packets) i) (nothing w) k (goes_nowhere w g)
      (λ p e. h p (every_in (λ (q : Packet D). MessageOk w.members w.crashed g.0 g.1 q.from q.message) (link f t w.packets) p (every_filter (λ (q : Packet D). MessageOk w.members w.crashed g.0 g.1 q.from q.message) (is_on f t) w.packets g.2.packets) (get_in (link f t w.packets) i p e)))

  pub without_packet : (f t i : ℕ) → Inv (with_packets w (taken_out f t i w.packets)) g.0 g.1
  without_packet f t i = inv_packets w g.0 g.1 (taken_out f t i w.packets) g.2 (every_taken_out (λ (q : Packet D). MessageOk w.members w.crashed g.0 g.1 q.from q.message) f t i w.packets g.2.packets)

  pub lose_goes : (f t i : ℕ) → Goes w (happens w (Lose f t i)).world
  lose_goes f t i = at_place_goes f t i (λ p. done (with_packets w (taken_out f t i w.packets))) (λ p h. goes_packets w (taken_out f t i w.packets) (g.0, g.1, without_packet f t i))

  pub resent_goes : (m : ℕ) (n : Member D) → is_among w.crashed m ≡ false → MemberAt w.members m n → Goes w (resent w m n).world
  resent_goes m n v at =
      on_cond (λ (h : Happened D). Goes w h.world) (is_empty (sent_again w.size m n)) (nothing w) (done (sending w m (sent_again w.size m n))) (λ e. goes_nowhere w g)
      (λ e. goes_packets w (w.packets ++ packets_from m (sent_again w.size m n)) (
        g.0,
        g.1,
        inv_packets w g.0 g.1 (w.packets ++ packets_from m (sent_again w.size m n)) g.2 (every_append (λ (q : Packet D). MessageOk w.members w.crashed g.0 g.1 q.from q.message) w.packets (packets_from m (sent_again w.size m n)) g.2.packets
            (packets_sent (MessageOk w.members w.crashed g.0 g.1) m (sent_again w.size m n) again)),
      ))
    where
      ok : MemberOk w.members w.crashed g.0 g.1 w.published m n
      ok = g.2.members m n at

      again : Every (λ (x : Sent D). MessageOk w.members w.crashed g.0 g.1 m x.message) (sent_again w.size m n)
      again = on_cond (λ ss. Every (λ (x : Sent D). MessageOk w.members w.crashed g.0 g.1 m x.message) ss) (is_gathering n.role) (asking_again w.size m n) (cond (is_serving n.role && has_sent m n) (storing_again w.size m n) [])
          (λ e. each_sent (λ (x : Sent D). MessageOk w.members w.crashed g.0 g.1 m x.message) (Ask m) (filter (λ p. not (has_told (tells_of n.role) p)) (peers w.size m n)) (λ k. ok.rises (gathering_master n.role e)))
          (λ b. on_cond (λ ss. Every (λ (x : Sent D). MessageOk w.members w.crashed g.0 g.1 m x.message) ss) (is_serving n.role && has_sent m n) (storing_again w.size m n) []
          (λ e. each_sent (λ (x : Sent D). MessageOk w.members w.crashed g.0 g.1 m x.message) (Store m n.log) (filter (λ p. not (has_stored (length n.log) (counts_of n.role) p)) (peers w.size m n)) (λ k. (ok.serves (both_left (is_serving n.role) (has_sent m n) e), λ h. (ok.live v).log))) (λ e. tt))

pub deliver_goes : {D : Type 0} (w : Masters D) (g : Good w) (f t i : ℕ) → Goes w (happens w (Deliver f t i)).world
deliver_goes {D} w g f t i = at_place_goes w g f t i (λ p. handed_over (with_packets w (taken_out f t i w.packets)) p) given
  where
    u : Masters D
    u = with_packets w (taken_out f t i w.packets)

    given : (p : Packet D) → MessageOk w.members w.crashed g.0 g.1 p.from p.message → Goes w (handed_over (with_packets w (taken_out f t i w.packets)) p).world
    given p h =
        let x : Masters D = with_packets w (taken_out f t i w.packets) in
        let good : Good x = (g.0, g.1, without_packet w g f t i) in
        let r = on_cond (λ (y : Happened D). Goes x y.world) (is_live x p.to) (at_member x p.to (λ n. stepped x p.to (taking p.to p.from p.message n))) (refused x Dropped)
        (λ e. at_member_goes x good p.to (λ n. stepped x p.to (taking p.to p.from p.message n)) (λ n v at. goes_keeps x (stepped x p.to (taking p.to p.from p.message n)).world (stepped_on x p.to n (taking p.to p.from p.message n) at v (lands_taking x g.0 g.1 good.2 p.to n at v p.from p.message h))))
        (λ e. goes_nowhere x good) in
        record { good = r.good; grows = r.grows; pace = r.pace; lasts = r.lasts }

pub event_goes : {D : Type 0} (w : Masters D) (g : Good w) (e : Event D) → Goes w (happens w e).world
event_goes w g (Told m x) = told_goes w g m x
event_goes w g (Crash m) = crash_goes w g m
event_goes w g (Propose d) = propose_goes w g d
event_goes w g (Deliver f t i) = deliver_goes w g f t i
event_goes w g (Lose f t i) = lose_goes w g f t i
event_goes w g (Resend m) = at_member_goes w g m (resent w m) (λ n v at. resent_goes w g m n v at)

pub run_goes : {D : Type 0} (w : Masters D) (g : Good w) (es : List (Event D)) → Good (run w es) × IsFrontOf w.published (run w es).published × Lasts w (run w es)
run_goes w g [] = (g, front_refl w.published, lasts_refl w)
run_goes w g (e ∷ es) =
    let h = event_goes w g e in
    let r = run_goes (happens w e).world h.good es in
    (r.0, front_trans w.published (happens w e).world.published (run (happens w e).world es).published h.grows r.1, lasts_trans w (happens w e).world (run (happens w e).world es) h.lasts r.2)
