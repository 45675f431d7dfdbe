-- Members, terms and lengths stay in their ranges.
use Rattle.std.proofs.Common.{◌≡◌, ◌≢◌, ℕ, zero, suc, ◌<◌, ◌≤◌, true, false, cond, not, ◌&&◌, ◌==◌, nat_lt, nat_le, List, [], ◌∷◌, ◌++◌, max, filter, length, slice_get, refl, sym, subst, ◌⊎◌, ⊎_elim, inl, inr, arith, length-append}
use Rattle.partition_protocol.proofs.Events.{get_in}
use Rattle.partition_protocol.proofs.Lists.{Every, every_append, every_weaker, every_in, in_contains, every_filter, on_cond, get_set}
use Rattle.partition_protocol.proofs.RowFacts.{both_left, less}
use Rattle.partition_protocol.specs.Service.{numbers_below}
use Rattle.partition_protocol.specs.World.{map_or}
use Rattle.partition_table.specs.Rows.{is_among, is_empty}
use Rattle.masters_protocol.specs.Members.{Gathering, Serving, Member, ToldLog, StoredLength, Message, Store, Stored, Ask, Tell, Sent, Step, Other, StoreTaken, Counted, Asked, TellKept, Stale, Done, Dropped, RefusedBusy, RefusedFull, quiet, is_gathering, is_serving, tells_of, counts_of, peers, has_told, has_stored, with_one, with_tell, with_count, longer, longest, is_gathered, is_stored, to_each, begins, gatherer, with_told, hearing, server, storing, with_log, with_seen, with_role, taking, most_decisions, with_decision, proposing, has_sent, asking_again, storing_again, sent_again}
use Rattle.masters_protocol.specs.Machine.{Masters, Packet, Event, Told, Crash, Propose, Deliver, Lose, Resend, Happened, is_live, is_ahead, is_on, link, taken_out, packets_from, with_packets, with_member, sending, serving, serving_at, publishing, publishing_at, nothing, done, refused, stepped, at_member, handed_over, at_place, master, proposed_at, resent, happens, run}
use Rattle.masters_protocol.specs.Claims.{Fits, PacketFits, MemberFits}
use Rattle.masters_protocol.proofs.Lists.{on_some}
use Rattle.masters_protocol.proofs.Tests.{among_one, among_last, not_at_most}
use Rattle.masters_protocol.proofs.Invariant.{MemberAt}
use Rattle.masters_protocol.proofs.Members.{every_tell}
use Rattle.masters_protocol.proofs.Events.{every_taken_out}

abbrev pub TellFits : {D : Type 0} → ℕ → ToldLog D → Type 0
TellFits size k = (k.member < size) × (length k.log ≤ most_decisions)

abbrev pub CountFits : ℕ → StoredLength → Type 0
CountFits size k = (k.member < size) × (k.count ≤ most_decisions)

pub record InRange {D : Type 0} (size : ℕ) (n : Member D) : Type 0 where
  pub told : (k : ℕ) → is_among n.told k ≡ true → k < size
  pub seen : n.seen < size
  pub log : length n.log ≤ most_decisions
  pub tells : Every (TellFits size) (tells_of n.role)
  pub counts : Every (CountFits size) (counts_of n.role)

pub record Ranged {D : Type 0} (w : Masters D) : Type 0 where
  pub crashed : (k : ℕ) → is_among w.crashed k ≡ true → k < w.size
  pub members : (m : ℕ) (n : Member D) → MemberAt w.members m n → InRange w.size n
  pub packets : Every (PacketFits w.size) w.packets
  pub published : length w.published ≤ most_decisions

abbrev pub SentFits : {D : Type 0} → ℕ → Sent D → Type 0
SentFits size x = (x.to < size) × Fits size x.message

pub every_below : (n : ℕ) → Every (λ k. k < n) (numbers_below n)
every_below zero = tt
every_below (suc n) = every_append (λ k. k < suc n) (numbers_below n) (n ∷ []) (every_weaker (λ k. k < n) (λ k. k < suc n) (numbers_below n) (λ k l. omega (arith, l)) (every_below n)) (omega arith, tt)

pub each_fits : {D : Type 0} (size : ℕ) (x : Message D) (ms : List ℕ) → Every (λ k. k < size) ms → Fits size x → Every (SentFits size) (to_each x ms)
each_fits size x [] h f = tt
each_fits size x (m ∷ ms) h f = ((h.0, f), each_fits size x ms h.1 f)

pub peers_below : {D : Type 0} (size m : ℕ) (n : Member D) → Every (λ k. k < size) (peers size m n)
peers_below size m n = every_filter (λ k. k < size) (λ p. not (p == m) && not (is_among n.told p)) (numbers_below size) (every_below size)

pub longer_fits : {D : Type 0} (l k : List D) → length l ≤ most_decisions → length k ≤ most_decisions → length (longer l k) ≤ most_decisions
longer_fits l k h f = on_cond (λ us. length us ≤ most_decisions) (nat_lt (length l) (length k)) k l (λ e. f) (λ e. h)

pub longest_fits : {D : Type 0} (size : ℕ) (l : List D) (ks : List (ToldLog D)) → length l ≤ most_decisions → Every (TellFits size) ks → length (longest l ks) ≤ most_decisions
longest_fits size l [] h f = h
longest_fits size l (k ∷ ks) h f = longest_fits size (longer l k.log) ks (longer_fits l k.log h f.0.1) f.1

pub count_fits : (size m c : ℕ) (ks : List StoredLength) → m < size → c ≤ most_decisions → Every (CountFits size) ks → Every (CountFits size) (with_count m c ks)
count_fits size m c [] l h f = ((l, h), tt)
count_fits size m c (k ∷ ks) l h f =
    on_cond (λ js. Every (CountFits size) js) (k.member == m) (record { member = m; count = max c k.count } ∷ ks) (k ∷ with_count m c ks)
    (λ e. let r = f.0.1 in ((l, omega (arith, h, r)), f.1)) (λ e. (f.0, count_fits size m c ks l h f.1))

pub packets_fitting : {D : Type 0} (size from : ℕ) (ss : List (Sent D)) → from < size → Every (SentFits size) ss → Every (PacketFits size) (packets_from from ss)
packets_fitting size from [] l h = tt
packets_fitting size from (x ∷ ss) l h = (record { from = l; to = h.0.0; message = h.0.1 }, packets_fitting size from ss l h.1)

module _ {D : Type 0} where
  pub range_steps : (w : Masters D) (m : ℕ) (n : Member D) (ss : List (Sent D)) → Ranged w → m < w.size → InRange w.size n → Every (SentFits w.size) ss → Ranged (sending (with_member w m n) m ss)
  range_steps w m n ss r l h f = record {
    crashed = r.crashed;
    members = λ k x e. go k x (get_set w.members m k n x e);
    packets = every_append (PacketFits w.size) w.packets (packets_from m ss) r.packets (packets_fitting w.size m ss l f);
    published = r.published;
  }
    where
      go : (k : ℕ) (x : Member D) → ((k ≡ m) × (n ≡ x)) ⊎ ((k ≢ m) × MemberAt w.members k x) → InRange w.size x
      go k x (inl e) = subst (λ y. InRange w.size y) e.1 h
      go k x (inr e) = r.members k x e.1

  pub range_serves : (w : Masters D) (m : ℕ) → Ranged w → m < w.size → Ranged (serving w m)
  range_serves w m r l = on_some Ranged (slice_get w.members m) w (serving_at w m) r
      (λ n at. on_cond Ranged (is_gathered w.size m n) (sending (with_member w m (server n)) m (storing w.size m (server n))) w
      (λ e. let h = r.members m n at in let k = longest_fits w.size n.log (tells_of n.role) h.log h.tells in
      range_steps w m (server n) (storing w.size m (server n)) r l (record { told = h.told; seen = h.seen; log = k; tells = tt; counts = tt })
      (each_fits w.size (Store m (longest n.log (tells_of n.role))) (peers w.size m (server n)) (peers_below w.size m (server n)) (l, k))) (λ e. r))

  pub range_publishes : (w : Masters D) (m : ℕ) → Ranged w → Ranged (publishing w m)
  range_publishes w m r = on_some Ranged (slice_get w.members m) w (publishing_at w m) r
      (λ n at. on_cond Ranged (is_stored w.size m n && is_ahead w n.log) (record w { published = n.log }) w
      (λ e. record { crashed = r.crashed; members = r.members; packets = r.packets; published = (r.members m n at).log }) (λ e. r))

  pub same_size : (w : Masters D) (m : ℕ) → (serving w m).size ≡ w.size
  same_size w m = on_some (λ (u : Masters D). u.size ≡ w.size) (slice_get w.members m) w (serving_at w m) refl
      (λ n at. on_cond (λ (u : Masters D). u.size ≡ w.size) (is_gathered w.size m n) (sending (with_member w m (server n)) m (storing w.size m (server n))) w (λ e. refl) (λ e. refl))

  abbrev pub StepFits : ℕ → Step D → Type 0
  StepFits size st = InRange size st.member × Every (SentFits size) st.sent

  pub range_stepped : (w : Masters D) (m : ℕ) (st : Step D) → Ranged w → m < w.size → StepFits w.size st → Ranged (stepped w m st).world
  range_stepped w m st r l h =
      let u : Masters D = sending (with_member w m st.member) m st.sent in
      range_publishes (serving u m) m (range_serves u m (range_steps w m st.member st.sent r l h.0 h.1) l)

  pub range_taking : (size m from : ℕ) (x : Message D) (n : Member D) → m < size → from < size → Fits size x → InRange size n → StepFits size (taking m from x n)
  range_taking size m from (Store t l) n u v f h =
      on_cond (StepFits size) (nat_lt t n.seen) (quiet n Other) (record { member = with_log t (longer n.log l) n; sent = record { to = from; message = Stored t (length (longer n.log l)) } ∷ []; outcome = StoreTaken })
      (λ e. (h, tt)) (λ e. let k = longer_fits n.log l h.log f.1 in (record { told = h.told; seen = f.0; log = k; tells = h.tells; counts = h.counts }, ((v, (f.0, k)), tt)))
  range_taking size m from (Stored t c) n u v f h =
      on_cond (StepFits size) (is_serving n.role && (t == m)) (quiet (with_role (Serving (with_count from c (counts_of n.role))) n) Counted) (quiet n Stale)
      (λ e. (record { told = h.told; seen = h.seen; log = h.log; tells = tt; counts = count_fits size from c (counts_of n.role) v f.1 h.counts }, tt)) (λ e. (h, tt))
  range_taking size m from (Ask t) n u v f h =
      on_cond (StepFits size) (nat_lt t n.seen) (quiet n Other) (record { member = with_seen t n; sent = record { to = from; message = Tell t n.log } ∷ []; outcome = Asked })
      (λ e. (h, tt)) (λ e. (record { told = h.told; seen = f; log = h.log; tells = h.tells; counts = h.counts }, ((v, (f, h.log)), tt)))
  range_taking size m from (Tell t l) n u v f h =
      on_cond (StepFits size) (is_gathering n.role && (t == m)) (quiet (with_role (Gathering (with_tell from l (tells_of n.role))) n) TellKept) (quiet n Stale)
      (λ e. (record { told = h.told; seen = h.seen; log = h.log; tells = every_tell (TellFits size) from l (tells_of n.role) (v, f.1) h.tells; counts = tt }, tt)) (λ e. (h, tt))

  pub range_hearing : (size m x : ℕ) (n : Member D) → m < size → x < size → InRange size n → StepFits size (hearing size m x n)
  range_hearing size m x n u v h =
      on_cond (StepFits size) (begins m (with_told x n)) (record { member = gatherer m (with_told x n); sent = to_each (Ask m) (peers size m (with_told x n)); outcome = Done }) (quiet (with_told x n) Done)
      (λ e. (record { told = more; seen = u; log = h.log; tells = tt; counts = tt }, each_fits size (Ask m) (peers size m (with_told x n)) (peers_below size m (with_told x n)) u))
      (λ e. (record { told = more; seen = h.seen; log = h.log; tells = h.tells; counts = h.counts }, tt))
    where
      more : (k : ℕ) → is_among (with_one x n.told) k ≡ true → k < size
      more k e = ⊎_elim (λ s. subst (λ j. j < size) (sym s) v) (λ a. h.told k a) (among_one x n.told k e)

  pub range_proposing : (size m : ℕ) (d : D) (n : Member D) → m < size → nat_le most_decisions (length n.log) ≡ false → InRange size n → StepFits size (proposing size m d n)
  range_proposing size m d n u e h =
      (record { told = h.told; seen = h.seen; log = room; tells = h.tells; counts = h.counts }, each_fits size (Store m (n.log ++ d ∷ [])) (peers size m (with_decision d n)) (peers_below size m (with_decision d n)) (u, room))
    where
      room : length (n.log ++ d ∷ []) ≤ most_decisions
      room = let a = length-append n.log (d ∷ []) in let b = not_at_most most_decisions (length n.log) e in omega (arith, a, b)

  pub range_again : (size m : ℕ) (n : Member D) → m < size → InRange size n → Every (SentFits size) (sent_again size m n)
  range_again size m n u h =
      on_cond (λ ss. Every (SentFits size) ss) (is_gathering n.role) (asking_again size m n) (cond (is_serving n.role && has_sent m n) (storing_again size m n) [])
      (λ e. each_fits size (Ask m) (filter (λ p. not (has_told (tells_of n.role) p)) (peers size m n)) (every_filter (λ k. k < size) (λ p. not (has_told (tells_of n.role) p)) (peers size m n) (peers_below size m n)) u)
      (λ b. on_cond (λ ss. Every (SentFits size) ss) (is_serving n.role && has_sent m n) (storing_again size m n) []
      (λ e. each_fits size (Store m n.log) (filter (λ p. not (has_stored (length n.log) (counts_of n.role) p)) (peers size m n)) (every_filter (λ k. k < size) (λ p. not (has_stored (length n.log) (counts_of n.role) p)) (peers size m n) (peers_below size m n)) (u, h.log)) (λ e. tt))

  pub is_below : (w : Masters D) (m : ℕ) → is_live w m ≡ true → m < w.size
  is_below w m e = less m w.size (both_left (nat_lt m w.size) (not (is_among w.crashed m)) e)

  pub range_at_member : (w : Masters D) (m : ℕ) (f : Member D → Happened D) → Ranged w → ((n : Member D) → m < w.size → InRange w.size n → Ranged (f n).world) → Ranged (at_member w m f).world
  range_at_member w m f r h = on_cond (λ (x : Happened D). Ranged x.world) (is_live w m) (map_or (slice_get w.members m) (nothing w) f) (nothing w)
      (λ e. on_some (λ (x : Happened D). Ranged x.world) (slice_get w.members m) (nothing w) f r (λ n at. h n (is_below w m e) (r.members m n at))) (λ e. r)

  pub range_packets : (w : Masters D) (ps : List (Packet D)) → Ranged w → Every (PacketFits w.size) ps → Ranged (with_packets w ps)
  range_packets w ps r h = record { crashed = r.crashed; members = r.members; packets = h; published = r.published }

  pub range_at_place : (w : Masters D) (f t i : ℕ) (k : Packet D → Happened D) → Ranged w → ((p : Packet D) → PacketFits w.size p → Ranged (k p).world) → Ranged (at_place w f t i k).world
  range_at_place w f t i k r h = on_some (λ (x : Happened D). Ranged x.world) (slice_get (link f t w.packets) i) (nothing w) k r
      (λ p e. h p (every_in (PacketFits w.size) (link f t w.packets) p (every_filter (PacketFits w.size) (is_on f t) w.packets r.packets) (get_in (link f t w.packets) i p e)))

  pub range_event : (w : Masters D) (e : Event D) → Ranged w → Ranged (happens w e).world
  range_event w (Told m x) r = on_cond (λ (h : Happened D). Ranged h.world) (is_among w.crashed x) (at_member w m (λ n. stepped w m (hearing w.size m x n))) (nothing w)
      (λ e. range_at_member w m (λ n. stepped w m (hearing w.size m x n)) r (λ n l h. range_stepped w m (hearing w.size m x n) r l (range_hearing w.size m x n l (r.crashed x e) h))) (λ e. r)
  range_event w (Crash m) r = on_cond (λ (h : Happened D). Ranged h.world) (is_live w m) (done (record w { crashed = w.crashed ++ m ∷ [] })) (nothing w)
      (λ e. record { crashed = λ k a. ⊎_elim (λ b. r.crashed k b) (λ s. subst (λ j. j < w.size) (sym s) (is_below w m e)) (among_last w.crashed m k a); members = r.members; packets = r.packets; published = r.published }) (λ e. r)
  range_event w (Propose d) r = on_some (λ (h : Happened D). Ranged h.world) (master w) (nothing w) (λ m. at_member w m (proposed_at w d m)) r
      (λ m e. range_at_member w m (proposed_at w d m) r (λ n l h.
      on_cond (λ (x : Happened D). Ranged x.world) (is_ahead w n.log) (refused w (RefusedBusy (length n.log))) (cond (nat_le most_decisions (length n.log)) (refused w RefusedFull) (stepped w m (proposing w.size m d n))) (λ b. r)
      (λ b. on_cond (λ (x : Happened D). Ranged x.world) (nat_le most_decisions (length n.log)) (refused w RefusedFull) (stepped w m (proposing w.size m d n)) (λ c. r) (λ c. range_stepped w m (proposing w.size m d n) r l (range_proposing w.size m d n l c h)))))
  range_event w (Deliver f t i) r = range_at_place w f t i (λ q. handed_over (with_packets w (taken_out f t i w.packets)) q) r
      (λ q h. let u : Masters D = with_packets w (taken_out f t i w.packets) in let ru : Ranged u = range_packets w (taken_out f t i w.packets) r (every_taken_out (PacketFits w.size) f t i w.packets r.packets) in
      on_cond (λ (x : Happened D). Ranged x.world) (is_live u q.to) (at_member u q.to (λ n. stepped u q.to (taking q.to q.from q.message n))) (refused u Dropped)
      (λ b. range_at_member u q.to (λ n. stepped u q.to (taking q.to q.from q.message n)) ru (λ n l k. range_stepped u q.to (taking q.to q.from q.message n) ru l (range_taking w.size q.to q.from q.message n l h.from h.message k))) (λ b. ru))
  range_event w (Lose f t i) r = range_at_place w f t i (λ q. done (with_packets w (taken_out f t i w.packets))) r (λ q h. range_packets w (taken_out f t i w.packets) r (every_taken_out (PacketFits w.size) f t i w.packets r.packets))
  range_event w (Resend m) r = range_at_member w m (resent w m) r (λ n l h. on_cond (λ (x : Happened D). Ranged x.world) (is_empty (sent_again w.size m n)) (nothing w) (done (sending w m (sent_again w.size m n))) (λ e. r)
      (λ e. range_packets w (w.packets ++ packets_from m (sent_again w.size m n)) r (every_append (PacketFits w.size) w.packets (packets_from m (sent_again w.size m n)) r.packets (packets_fitting w.size m (sent_again w.size m n) l (range_again w.size m n l h)))))

  pub range_run : (w : Masters D) (es : List (Event D)) → Ranged w → Ranged (run w es)
  range_run w [] r = r
  range_run w (e ∷ es) r = range_run (happens w e).world es (range_event w e r)

  pub fits : (size : ℕ) (n : Member D) → InRange size n → MemberFits size n
  fits size n h = record {
    told = h.told;
    seen = h.seen;
    log = h.log;
    tells = λ k c. every_in (TellFits size) (tells_of n.role) k h.tells (in_contains k (tells_of n.role) c);
    counts = λ k c. every_in (CountFits size) (counts_of n.role) k h.counts (in_contains k (counts_of n.role) c);
  }
