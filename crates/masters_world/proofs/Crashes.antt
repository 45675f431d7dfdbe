-- Who has crashed is the same among the masters and in the partition, and changes by crashes alone.
use Rattle.std.proofs.Common.{◌≡◌, ℕ, Bool, true, false, cond, not, ◌&&◌, ◌||◌, nat_eq, nat_lt, nat_le, List, [], ◌∷◌, ◌++◌, length, slice_get, refl, ap, sym, ◌∙◌, subst, ◌⊎◌, inl, inr, true≢false}
use Rattle.std.proofs.lemmas.List.Folds.{list_any-append}
use Rattle.grid_base.specs.Objects.{Object}
use Rattle.partition_protocol.proofs.RowFacts.{either_right}
use Rattle.partition_table.specs.Rows.{is_among, is_empty}
use Rattle.masters_protocol.specs.Members.{Member, Step, RefusedBusy, RefusedFull, Dropped, server, storing, is_gathered, is_stored, hearing, taking, proposing, most_decisions, sent_again}
use Rattle.masters_protocol.specs.Machine as masters
use Rattle.masters_protocol.specs.Machine.{Masters, Packet as MastersPacket, with_member, serving_at, publishing_at, serving, publishing, is_ahead, stepped, at_member, proposed_at, resent, master}
use Rattle.masters_protocol.proofs.Lists.{on_some}
use Rattle.partition_protocol.proofs.Lists.{Every, cases, on_cond}
use Rattle.partition_protocol.specs.World.{World, is_live, map_or}
use Rattle.partition_protocol.specs.Events as partition
use Rattle.partition_protocol.proofs.EventCases.{EventCases, every_event}

-- among the masters

abbrev pub Keeps : {D : Type 0} → Masters D → Masters D → Type 0
Keeps w u = (u.crashed ≡ w.crashed) × (u.size ≡ w.size)

pub keeps_on : {D : Type 0} (w u v : Masters D) → Keeps w u → Keeps u v → Keeps w v
keeps_on w u v h k = (k.0 ∙ h.0, k.1 ∙ h.1)

module _ {D : Type 0} (w : Masters D) where
  abbrev pub Kept : masters.Happened D → Type 0
  Kept h = Keeps w h.world

  pub serving_keeps : (m : ℕ) → Keeps w (serving w m)
  serving_keeps m = on_some (Keeps w) (slice_get w.members m) w (serving_at w m) (refl, refl) (λ n at. on_cond (Keeps w) (is_gathered w.size m n) (masters.sending (with_member w m (server n)) m (storing w.size m (server n))) w (λ e. (refl, refl)) (λ e. (refl, refl)))

  pub publishing_keeps : (m : ℕ) → Keeps w (publishing w m)
  publishing_keeps m = on_some (Keeps w) (slice_get w.members m) w (publishing_at w m) (refl, refl) (λ n at. on_cond (Keeps w) (is_stored w.size m n && is_ahead w n.log) (record w { published = n.log }) w (λ e. (refl, refl)) (λ e. (refl, refl)))

pub stepped_keeps : {D : Type 0} (w : Masters D) (m : ℕ) (s : Step D) → Keeps w (stepped w m s).world
stepped_keeps {D} w m s =
    let u : Masters D = masters.sending (with_member w m s.member) m s.sent in
    keeps_on w (serving u m) (publishing (serving u m) m) (serving_keeps u m) (publishing_keeps (serving u m) m)

pub member_keeps : {D : Type 0} (w : Masters D) (m : ℕ) (f : Member D → masters.Happened D) → ((n : Member D) → Keeps w (f n).world) → Keeps w (at_member w m f).world
member_keeps w m f h = on_cond (Kept w) (masters.is_live w m) (map_or (slice_get w.members m) (masters.nothing w) f) (masters.nothing w) (λ e. on_some (Kept w) (slice_get w.members m) (masters.nothing w) f (refl, refl) (λ n at. h n)) (λ e. (refl, refl))

abbrev pub is_crash : {D : Type 0} → masters.Event D → Bool
is_crash (masters.Crash m) = true
is_crash _ = false

pub event_keeps : {D : Type 0} (w : Masters D) (e : masters.Event D) → is_crash e ≡ false → Keeps w (masters.happens w e).world
event_keeps w (masters.Told m x) d = on_cond (Kept w) (is_among w.crashed x) (at_member w m (λ n. stepped w m (hearing w.size m x n))) (masters.nothing w)
    (λ e. member_keeps w m (λ n. stepped w m (hearing w.size m x n)) (λ n. stepped_keeps w m (hearing w.size m x n))) (λ e. (refl, refl))
event_keeps w (masters.Crash m) d = absurd (true≢false d)
event_keeps w (masters.Propose x) d = on_some (Kept w) (master w) (masters.nothing w) (λ m. at_member w m (proposed_at w x m)) (refl, refl) (λ m e. member_keeps w m (proposed_at w x m) (λ n.
    on_cond (Kept w) (is_ahead w n.log) (masters.refused w (RefusedBusy (length n.log))) (cond (nat_le most_decisions (length n.log)) (masters.refused w RefusedFull) (stepped w m (proposing w.size m x n))) (λ b. (refl, refl))
    (λ b. on_cond (Kept w) (nat_le most_decisions (length n.log)) (masters.refused w RefusedFull) (stepped w m (proposing w.size m x n)) (λ c. (refl, refl)) (λ c. stepped_keeps w m (proposing w.size m x n)))))
event_keeps {D} w (masters.Deliver f t i) d = on_some (Kept w) (slice_get (masters.link f t w.packets) i) (masters.nothing w) (λ p. masters.handed_over (masters.with_packets w (masters.taken_out f t i w.packets)) p) (refl, refl) (λ p at. given p)
  where
    given : (p : MastersPacket D) → Keeps w (masters.handed_over (masters.with_packets w (masters.taken_out f t i w.packets)) p).world
    given p =
        let u : Masters D = masters.with_packets w (masters.taken_out f t i w.packets) in
        on_cond (Kept w) (masters.is_live u p.to) (at_member u p.to (λ n. stepped u p.to (taking p.to p.from p.message n))) (masters.refused u Dropped)
        (λ e. member_keeps u p.to (λ n. stepped u p.to (taking p.to p.from p.message n)) (λ n. stepped_keeps u p.to (taking p.to p.from p.message n))) (λ e. (refl, refl))
event_keeps w (masters.Lose f t i) d = on_some (Kept w) (slice_get (masters.link f t w.packets) i) (masters.nothing w) (λ p. masters.done (masters.with_packets w (masters.taken_out f t i w.packets))) (refl, refl) (λ p at. (refl, refl))
event_keeps w (masters.Resend m) d = member_keeps w m (resent w m) (λ n. on_cond (Kept w) (is_empty (sent_again w.size m n)) (masters.nothing w) (masters.done (masters.sending w m (sent_again w.size m n))) (λ e. (refl, refl)) (λ e. (refl, refl)))

-- a crash publishes nothing
pub crash_publishes : {D : Type 0} (w : Masters D) (m : ℕ) → ((masters.happens w (masters.Crash m)).world.published ≡ w.published) × ((masters.happens w (masters.Crash m)).world.size ≡ w.size)
crash_publishes {D} w m = on_cond (λ (h : masters.Happened D). (h.world.published ≡ w.published) × (h.world.size ≡ w.size)) (masters.is_live w m) (masters.done (record w { crashed = w.crashed ++ m ∷ [] })) (masters.nothing w) (λ e. (refl, refl)) (λ e. (refl, refl))

-- no event changes how many members there are

pub event_size : {D : Type 0} (w : Masters D) (e : masters.Event D) → (masters.happens w e).world.size ≡ w.size
event_size w (masters.Told m x) = (event_keeps w (masters.Told m x) refl).1
event_size w (masters.Crash m) = (crash_publishes w m).1
event_size w (masters.Propose x) = (event_keeps w (masters.Propose x) refl).1
event_size w (masters.Deliver f t i) = (event_keeps w (masters.Deliver f t i) refl).1
event_size w (masters.Lose f t i) = (event_keeps w (masters.Lose f t i) refl).1
event_size w (masters.Resend m) = (event_keeps w (masters.Resend m) refl).1

pub run_size : {D : Type 0} (es : List (masters.Event D)) (w : Masters D) → (masters.run w es).size ≡ w.size
run_size [] w = refl
run_size (e ∷ es) w = run_size es (masters.happens w e).world ∙ event_size w e

pub run_keeps : {D : Type 0} (w : Masters D) (es : List (masters.Event D)) → Every (λ e. is_crash e ≡ false) es → Keeps w (masters.run w es)
run_keeps w [] h = (refl, refl)
run_keeps w (e ∷ es) h = keeps_on w (masters.happens w e).world (masters.run (masters.happens w e).world es) (event_keeps w e h.0) (run_keeps (masters.happens w e).world es h.1)

-- in the partition

abbrev pub is_falling : {C : Type 0} → partition.Event C → Bool
is_falling (partition.Crash m) = true
is_falling _ = false

module _ {C State : Type 0} (o : Object C State) (w : World C) where
  abbrev pub Stands : partition.Event C → World C → Type 0
  Stands e u = is_falling e ≡ false → u.crashed ≡ w.crashed

  pub stand_cases : EventCases o w Stands
  stand_cases = record {
    stays = λ e z s. refl;
    loses = λ g t k q h s. refl;
    drops = λ g t k q h d s. refl;
    repeats = λ g t k q h s. refl;
    tells_again = λ s. refl;
    sends_again = λ m x h l k s. refl;
    crashes = λ m l s. absurd (true≢false s);
    detects = λ m l c u k s. refl;
    notes = λ m l c u k s. refl;
    begins = λ e source to r k z s. refl;
    hands_over = λ from to r s. refl;
    freezes = λ from to e k s. refl;
    leaves = λ from to e k s. refl;
    hands = λ from to e s. refl;
    reopens = λ r s. refl;
    joins = λ g t k q v m h e x s. refl;
    drains = λ g t k q v h e x s. refl;
    delivers = λ g t k q x h a l s. refl;
    calls = λ m conn number call now x h l b d z s. refl;
  }

  pub event_stands : (e : partition.Event C) → is_falling e ≡ false → (partition.happens o w e).world.crashed ≡ w.crashed
  event_stands e = every_event o w Stands stand_cases e

pub run_stands : {C State : Type 0} (o : Object C State) (w : World C) (es : List (partition.Event C)) → Every (λ e. is_falling e ≡ false) es → (partition.run o w es).crashed ≡ w.crashed
run_stands o w [] h = refl
run_stands o w (e ∷ es) h = run_stands o (partition.happens o w e).world es h.1 ∙ event_stands o w e h.0

-- who has crashed stays so

pub event_fallen : {C State : Type 0} (o : Object C State) (w : World C) (k : ℕ) (e : partition.Event C) → is_among w.crashed k ≡ true → is_among (partition.happens o w e).world.crashed k ≡ true
event_fallen {C} o w k e h = go e (cases (is_falling e))
  where
    crash : (e : partition.Event C) → is_falling e ≡ true → is_among (partition.happens o w e).world.crashed k ≡ true
    crash (partition.Crash m) z = on_cond (λ (x : partition.Happened C). is_among x.world.crashed k ≡ true) (is_live w m) (partition.done (record w { crashed = m ∷ w.crashed })) (partition.nothing w) (λ l. either_right (nat_eq k m) (is_among w.crashed k) h) (λ l. h)
    crash (partition.Call m conn number call now) z = absurd (true≢false (sym z))
    crash (partition.Deliver f t i) z = absurd (true≢false (sym z))
    crash (partition.Lose f t i) z = absurd (true≢false (sym z))
    crash (partition.Repeat f t i) z = absurd (true≢false (sym z))
    crash (partition.Resend end) z = absurd (true≢false (sym z))
    crash (partition.Detect m) z = absurd (true≢false (sym z))
    crash (partition.BeginMove from to) z = absurd (true≢false (sym z))
    crash (partition.BeginJoin to) z = absurd (true≢false (sym z))
    crash (partition.BeginHandover from to) z = absurd (true≢false (sym z))
    crash partition.Advance z = absurd (true≢false (sym z))
    crash partition.Reopen z = absurd (true≢false (sym z))

    go : (e : partition.Event C) → (is_falling e ≡ true) ⊎ (is_falling e ≡ false) → is_among (partition.happens o w e).world.crashed k ≡ true
    go e (inl z) = crash e z
    go e (inr z) = subst (λ ks. is_among ks k ≡ true) (sym (event_stands o w e z)) h

pub run_fallen : {C State : Type 0} (o : Object C State) (w : World C) (k : ℕ) (es : List (partition.Event C)) → is_among w.crashed k ≡ true → is_among (partition.run o w es).crashed k ≡ true
run_fallen o w k [] h = h
run_fallen o w k (e ∷ es) h = run_fallen o (partition.happens o w e).world k es (event_fallen o w k e h)

-- both

abbrev pub Alike : {C D : Type 0} → Masters D → World C → Type 0
Alike M w = ((k : ℕ) → is_among M.crashed k ≡ is_among w.crashed k) × (M.size ≡ w.members)

pub swapped : (a b c : Bool) → a ≡ c → (a || (b || false)) ≡ (b || c)
swapped true true c e = refl
swapped true false c e = e
swapped false true c e = refl
swapped false false c e = e

pub crash_alike : {C State D : Type 0} (o : Object C State) (M : Masters D) (w : World C) → Alike M w → (m : ℕ) → Alike (masters.happens M (masters.Crash m)).world (partition.happens o w (partition.Crash m)).world
crash_alike {C} {State} {D} o M w a m = go (masters.is_live M m) (is_live w m) (ap (λ s. nat_lt m s && not (is_among M.crashed m)) a.1 ∙ ap (λ b. nat_lt m w.members && not b) (a.0 m))
  where
    go : (x y : Bool) → x ≡ y → Alike (cond x (masters.done (record M { crashed = M.crashed ++ m ∷ [] })) (masters.nothing M)).world (cond y (partition.done (record w { crashed = m ∷ w.crashed })) (partition.nothing w)).world
    go true true e = (λ k. list_any-append (nat_eq k) M.crashed (m ∷ []) ∙ swapped (is_among M.crashed k) (nat_eq k m) (is_among w.crashed k) (a.0 k), a.1)
    go false false e = a
    go true false e = absurd (true≢false e)
    go false true e = absurd (true≢false (sym e))
