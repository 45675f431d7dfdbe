-- What is done with a waiter: it agrees with its plain call, and events elsewhere don't change it.
use Rattle.std.proofs.Common.{◌≡◌, ℕ, Bool, true, false, cond, not, ◌||◌, ◌&&◌, ◌==◌, nat_lt, ◌∷◌, Option, Some, None, slice_get, slice_set, refl, ap, sym, ◌∙◌, subst, ◌⊎◌, ⊎_elim, inl, inr}
use Rattle.grid_base.specs.Objects.{Object}
use Rattle.partition_table.specs.Rows.{is_empty}
use Rattle.partition_protocol.specs.Messages.{Packet}
use Rattle.partition_protocol.specs.Node.{Node, settled}
use Rattle.partition_protocol.specs.Execution.{Reached, Executes, PartitionLost, WrongTarget, Migrating, reached, executing}
use Rattle.partition_protocol.specs.Links.{is_on, link}
use Rattle.partition_protocol.specs.World as world
use Rattle.partition_protocol.specs.World.{World, map_or, is_live, pair_state}
use Rattle.partition_protocol.specs.Events.{Event, HeldAt, ReleasedAt, Refused, executes, happens, run}
use Rattle.partition_protocol.proofs.Lists.{set_get_other}
use Rattle.partition_protocol.proofs.Histories.{filter_in}
use Rattle.partition_protocol.proofs.RowFacts.{same_number, number_other, both_right}
use Rattle.partition_protocol.proofs.Events.{get_in}
use Rattle.partition_protocol.proofs.EventCases.{every_event}
use Rattle.partition_protocol.proofs.EventFacts.{call_executed, call_refused}
use Rattle.partition_protocol.proofs.Theorem.{every_state_stays}
use Rattle.waiting_protocol.specs.Machine.{Waiter, Waiting, Terms, is_due, is_ready, comes, Fate, Stays, Runs, Starves, IsRefused, Leaves, fate_of, fate_at, fate_in, fate, is_over, is_made, stirs, plain}
use Rattle.waiting_protocol.specs.Claims.{IsAsPlain, WaitsOn, EarlierOfTwoGoesFirst, IsAt, EveryOtherEventIsIdle}

-- over variables

pub open_fate : (b : Bool) (r : Option Node) (F : Node → Fate) (f : Fate) → cond b (map_or r Leaves F) Leaves ≡ f → (f ≡ Leaves → ⊥) → (b ≡ true) × (n : Node) × (r ≡ Some n) × (F n ≡ f)
open_fate true (Some n) F f e d = (refl, n, refl, e)
open_fate true None F f e d = absurd (d (sym e))
open_fate false r F f e d = absurd (d (sym e))

pub closed_fate : (b : Bool) (r : Option Node) (F : Node → Fate) (n : Node) → b ≡ true → r ≡ Some n → cond b (map_or r Leaves F) Leaves ≡ F n
closed_fate b r F n e s = rw (e, s) refl

pub refusal : (r : Reached) (b h : Bool) (s : Reached) → fate_of r b h ≡ IsRefused s → (r ≡ s) × (s ≡ Executes → ⊥)
refusal Executes true true s e = absurd cc
refusal Executes true false s e = absurd cc
refusal Executes false h s e = absurd cc
refusal (PartitionLost v) b h s e = let i : PartitionLost v ≡ s = cc in (i, λ z. absurd cc)
refusal (WrongTarget v) b h s e = let i : WrongTarget v ≡ s = cc in (i, λ z. absurd cc)
refusal (Migrating v) b h s e = let i : Migrating v ≡ s = cc in (i, λ z. absurd cc)

pub made : (r : Reached) (b h : Bool) → is_made (fate_of r b h) ≡ true → (r ≡ Executes) × (b ≡ true)
made Executes true h e = (refl, refl)
made Executes false h e = absurd cc
made (PartitionLost v) b h e = absurd cc
made (WrongTarget v) b h e = absurd cc
made (Migrating v) b h e = absurd cc

pub feeding : (r : Reached) (b h : Bool) → fate_of r b h ≡ Runs → h ≡ false
feeding Executes true true e = absurd cc
feeding Executes true false e = refl
feeding Executes false h e = absurd cc
feeding (PartitionLost v) b h e = absurd cc
feeding (WrongTarget v) b h e = absurd cc
feeding (Migrating v) b h e = absurd cc

pub starving : (r : Reached) (b h : Bool) → fate_of r b h ≡ Starves → h ≡ true
starving Executes true true e = refl
starving Executes true false e = absurd cc
starving Executes false h e = absurd cc
starving (PartitionLost v) b h e = absurd cc
starving (WrongTarget v) b h e = absurd cc
starving (Migrating v) b h e = absurd cc

pub never : (r : Reached) (b h : Bool) → fate_of r b h ≡ Leaves → ⊥
never Executes true true e = absurd cc
never Executes true false e = absurd cc
never Executes false h e = absurd cc
never (PartitionLost v) b h e = absurd cc
never (WrongTarget v) b h e = absurd cc
never (Migrating v) b h e = absurd cc

pub drops : (b : Bool) (r : Option Node) (F : Node → Fate) → ((n : Node) → F n ≡ Leaves → ⊥) → cond b (map_or r Leaves F) Leaves ≡ Leaves → (b ≡ false) ⊎ (r ≡ None)
drops false r F h e = inl refl
drops true None F h e = inr refl
drops true (Some n) F h e = absurd (h n e)

pub staying : (r : Reached) (a d h : Bool) → fate_of r (a || d) h ≡ Stays → (r ≡ Executes) × (a ≡ false) × (d ≡ false)
staying Executes true d true e = absurd cc
staying Executes true d false e = absurd cc
staying Executes false true true e = absurd cc
staying Executes false true false e = absurd cc
staying Executes false false h e = (refl, refl, refl)
staying (PartitionLost v) a d h e = absurd cc
staying (WrongTarget v) a d h e = absurd cc
staying (Migrating v) a d h e = absurd cc

pub not_over : (f : Fate) → is_over f ≡ false → f ≡ Stays
not_over Stays e = refl
not_over Runs e = absurd cc
not_over Starves e = absurd cc
not_over (IsRefused r) e = absurd cc
not_over Leaves e = absurd cc

pub due_alone : (r : Reached) (a d h : Bool) → r ≡ Executes → a ≡ false → is_over (fate_of r (a || d) h) ≡ true → (is_made (fate_of r (a || d) h) ≡ true) × (d ≡ true)
due_alone Executes true d h e f g = absurd cc
due_alone Executes false true true e f g = (refl, refl)
due_alone Executes false true false e f g = (refl, refl)
due_alone Executes false false h e f g = absurd cc
due_alone (PartitionLost v) a d h e f g = absurd cc
due_alone (WrongTarget v) a d h e f g = absurd cc
due_alone (Migrating v) a d h e f g = absurd cc

pub either : (b : Bool) (c : ℕ) → (cond b (ReleasedAt c) (HeldAt c) ≡ HeldAt c) ⊎ (cond b (ReleasedAt c) (HeldAt c) ≡ ReleasedAt c)
either true c = inr refl
either false c = inl refl

-- the plain call

module _ {C State : Type 0} (o : Object C State) (t : Terms C) where
  pub outcomes : (w : World C) (m conn number : ℕ) (call : C) (now : ℕ) (n : Node) → (s : ℕ) × (((executes o w m conn number call now n).outcome ≡ HeldAt s) ⊎ ((executes o w m conn number call now n).outcome ≡ ReleasedAt s))
  outcomes w m conn number call now n = let a = executing (o.changes (pair_state o w n.pair) call now) conn number n in (a.pair.count, either (is_empty (settled a).held) a.pair.count)

  -- a live member's fate, opened
  pub at_member : (w : World C) (now : ℕ) (x : Waiter C) (f : Fate) → fate_in o t w now x ≡ f → (f ≡ Leaves → ⊥)
      → (is_live w x.member ≡ true) × (n : Node) × (slice_get w.nodes x.member ≡ Some n) × (fate_at o t w now x n ≡ f)
  at_member w now x f e d = open_fate (is_live w x.member) (slice_get w.nodes x.member) (fate_at o t w now x) f e d

  pub made_at : (w : World C) (now : ℕ) (x : Waiter C) (f : Fate) → fate_in o t w now x ≡ f → is_made f ≡ true → (is_live w x.member ≡ true) × (n : Node) × (slice_get w.nodes x.member ≡ Some n) × (reached x.member n ≡ Executes) × (comes o t w now x n ≡ true)
  made_at w now x f e m =
      let s = at_member w now x f e (λ z. let a : is_made f ≡ false = ap is_made z in let b : true ≡ false = sym m ∙ a in absurd cc) in
      let d = made (reached x.member s.1) (comes o t w now x s.1) (t.starves x) (ap is_made s.3 ∙ m) in
      (s.0, s.1, s.2, d.0, d.1)

  pub as_plain : (j : Waiting C) (x : Waiter C) → IsAsPlain o t j x
  as_plain j x = record { refused = refused; runs = runs; wished = wished; fed = fed; unfed = unfed; dropped = drops (is_live j.world x.member) (slice_get j.world.nodes x.member) (fate_at o t j.world (j.clock x.member) x) (λ n z. never (reached x.member n) (comes o t j.world (j.clock x.member) x n) (t.starves x) z) }
    where
      refused : (r : Reached) → fate o t j x ≡ IsRefused r → happens o j.world (plain x (j.clock x.member)) ≡ record { world = j.world; outcome = Refused r }
      refused r e =
          let now = j.clock x.member in
          let s = at_member j.world now x (IsRefused r) e (λ z. absurd cc) in
          let d = refusal (reached x.member s.1) (comes o t j.world now x s.1) (t.starves x) r s.3 in
          call_refused o j.world x.member x.conn x.number x.call now s.1 r s.0 s.2 d.0 d.1

      wished : is_made (fate o t j x) ≡ true → (node : Node) × (slice_get j.world.nodes x.member ≡ Some node) × (reached x.member node ≡ Executes) × (comes o t j.world (j.clock x.member) x node ≡ true)
      wished e = let s = made_at j.world (j.clock x.member) x (fate o t j x) refl e in (s.1, s.2, s.3, s.4)

      fed : fate o t j x ≡ Runs → t.starves x ≡ false
      fed e = let s = at_member j.world (j.clock x.member) x Runs e (λ z. absurd cc) in feeding (reached x.member s.1) (comes o t j.world (j.clock x.member) x s.1) (t.starves x) s.3

      unfed : fate o t j x ≡ Starves → t.starves x ≡ true
      unfed e = let s = at_member j.world (j.clock x.member) x Starves e (λ z. absurd cc) in starving (reached x.member s.1) (comes o t j.world (j.clock x.member) x s.1) (t.starves x) s.3

      runs : fate o t j x ≡ Runs → (seen : ℕ) × (((happens o j.world (plain x (j.clock x.member))).outcome ≡ HeldAt seen) ⊎ ((happens o j.world (plain x (j.clock x.member))).outcome ≡ ReleasedAt seen))
      runs e =
          let now = j.clock x.member in
          let s = made_at j.world now x Runs e refl in
          let h = call_executed o j.world x.member x.conn x.number x.call now s.1 s.0 s.2 s.3 in
          let r = outcomes j.world x.member x.conn x.number x.call now s.1 in
          (r.0, ⊎_elim (λ a. inl (ap (λ z. z.outcome) h ∙ a)) (λ a. inr (ap (λ z. z.outcome) h ∙ a)) r.1)

  pub waits_on : (j : Waiting C) (x : Waiter C) → stirs o t j x ≡ false → WaitsOn o t j x
  waits_on j x quiet =
      let now = j.clock x.member in
      let s = open_fate (is_live j.world x.member) (slice_get j.world.nodes x.member) (fate_at o t j.world now x) Stays (not_over (fate o t j x) quiet) (λ z. absurd cc) in
      let a = staying (reached x.member s.1) (is_ready o t (pair_state o j.world s.1.pair) x.call now) (is_due now x.deadline) (t.starves x) s.3 in
      record { live = s.0; node = s.1; known = s.2; serves = a.0; unready = a.1; undue = a.2 }

  abbrev pub fate_with : Waiting C → Waiter C → ℕ → C → Fate
  fate_with j x m c = fate_in o t j.world (j.clock m) (record { member = m; conn = x.conn; number = x.number; call = c; deadline = x.deadline })

  pub two : (j : Waiting C) (x y : Waiter C) → stirs o t j x ≡ false → stirs o t j y ≡ true → x.member ≡ y.member → x.call ≡ y.call → (node : Node) → slice_get j.world.nodes y.member ≡ Some node
      → (is_made (fate o t j y) ≡ true) × (is_ready o t (pair_state o j.world node.pair) y.call (j.clock y.member) ≡ false) × (is_due (j.clock y.member) x.deadline ≡ false) × (is_due (j.clock y.member) y.deadline ≡ true)
  two j x y quiet busy same call node at = go s.1 s.0 s.2 s.3
    where
      stays : fate_with j x y.member y.call ≡ Stays
      stays = subst (λ m. fate_with j x m y.call ≡ Stays) same (subst (λ c. fate_with j x x.member c ≡ Stays) call (not_over (fate o t j x) quiet))

      s : (is_live j.world y.member ≡ true) × (n : Node) × (slice_get j.world.nodes y.member ≡ Some n) × (fate_at o t j.world (j.clock y.member) (record { member = y.member; conn = x.conn; number = x.number; call = y.call; deadline = x.deadline }) n ≡ Stays)
      s = open_fate (is_live j.world y.member) (slice_get j.world.nodes y.member) (fate_at o t j.world (j.clock y.member) (record { member = y.member; conn = x.conn; number = x.number; call = y.call; deadline = x.deadline })) Stays stays (λ z. absurd cc)

      go : (n : Node) → is_live j.world y.member ≡ true → slice_get j.world.nodes y.member ≡ Some n → fate_at o t j.world (j.clock y.member) (record { member = y.member; conn = x.conn; number = x.number; call = y.call; deadline = x.deadline }) n ≡ Stays
          → (is_made (fate o t j y) ≡ true) × (is_ready o t (pair_state o j.world node.pair) y.call (j.clock y.member) ≡ false) × (is_due (j.clock y.member) x.deadline ≡ false) × (is_due (j.clock y.member) y.deadline ≡ true)
      go n live there f =
          let i : n ≡ node = cc in
          let now = j.clock y.member in
          let g = subst (λ (k : Node). fate_at o t j.world now (record { member = y.member; conn = x.conn; number = x.number; call = y.call; deadline = x.deadline }) k ≡ Stays) i f in
          let a = staying (reached y.member node) (is_ready o t (pair_state o j.world node.pair) y.call now) (is_due now x.deadline) (t.starves (record { member = y.member; conn = x.conn; number = x.number; call = y.call; deadline = x.deadline })) g in
          let e = closed_fate (is_live j.world y.member) (slice_get j.world.nodes y.member) (fate_at o t j.world now y) node live at in
          let d = due_alone (reached y.member node) (is_ready o t (pair_state o j.world node.pair) y.call now) (is_due now y.deadline) (t.starves y) a.0 a.1 (ap is_over (sym e) ∙ busy) in
          (ap is_made e ∙ d.0, a.1, a.2, d.1)

pub earlier_of_two_goes_first : {C State : Type 0} (o : Object C State) → EarlierOfTwoGoesFirst o
earlier_of_two_goes_first o t j x y i c same call node at = two o t j x y (i.earlier x c) i.stirred same call node at

-- elsewhere

abbrev pub SameAt : {C : Type 0} → ℕ → World C → Event C → World C → Type 0
SameAt k w e u = (IsAt e k → ⊥) → (slice_get u.nodes k ≡ slice_get w.nodes k) × (is_live u k ≡ is_live w k)

module _ {C State : Type 0} (o : Object C State) (w : World C) (k : ℕ) where
  pub takes_elsewhere : (f t i : ℕ) (q : Packet) (a : Node) → slice_get (link f t w.packets) i ≡ Some q → (t ≡ k → ⊥) → slice_get (slice_set w.nodes q.to a) k ≡ slice_get w.nodes k
  takes_elsewhere f t i q a place d = set_get_other w.nodes q.to k a (λ e. d (to ∙ sym e))
    where
      on : is_on f t q ≡ true
      on = (filter_in (is_on f t) w.packets q (get_in (link f t w.packets) i q place)).1

      to : t ≡ q.to
      to = sym (same_number q.to t (both_right (q.from == f) (q.to == t) on))

  pub crash_elsewhere : (m : ℕ) → (m ≡ k → ⊥) → is_live (record w { crashed = m ∷ w.crashed }) k ≡ is_live w k
  crash_elsewhere m d = ap (λ b. nat_lt k w.members && not b) (rw (number_other k m (λ e. d (sym e))) refl)

  pub elsewhere : (e : Event C) → SameAt k w e (happens o w e).world
  elsewhere = every_event o w (SameAt k w) (record {
    stays = λ e z d. (refl, refl);
    loses = λ f t i q at d. (refl, refl);
    drops = λ f t i q at z d. (refl, refl);
    repeats = λ f t i q at d. (refl, refl);
    tells_again = λ d. (refl, refl);
    sends_again = λ m n at l p d. (refl, refl);
    crashes = λ m l d. (refl, crash_elsewhere m d);
    detects = λ m a b c d z. (refl, refl);
    notes = λ m a b c d z. (refl, refl);
    begins = λ e s t a b c d. (refl, refl);
    hands_over = λ f t a d. (refl, refl);
    freezes = λ f t a b d. (refl, refl);
    leaves = λ f t a b d. (refl, refl);
    hands = λ f t a d. (refl, refl);
    reopens = λ a d. (refl, refl);
    joins = λ f t i q v m a b c d. (refl, refl);
    drains = λ f t i q v a b c d. (refl, refl);
    delivers = λ f t i q n place at l d. (takes_elsewhere f t i q _ place d, refl);
    calls = λ m conn number call now n at l a b c d. (set_get_other w.nodes m k _ (λ e. d (sym e)), refl);
  })

pub fates_same : (b c : Bool) (r s : Option Node) (F G : Node → Fate) → b ≡ c → r ≡ s → ((n : Node) → s ≡ Some n → F n ≡ G n) → cond b (map_or r Leaves F) Leaves ≡ cond c (map_or s Leaves G) Leaves
fates_same b c r s F G e f h = ap (λ z. cond z (map_or r Leaves F) Leaves) e ∙ ap (λ z. cond c (map_or z Leaves F) Leaves) f ∙ at c s h
  where
    at : (c : Bool) (s : Option Node) → ((n : Node) → s ≡ Some n → F n ≡ G n) → cond c (map_or s Leaves F) Leaves ≡ cond c (map_or s Leaves G) Leaves
    at false s h = refl
    at true None h = refl
    at true (Some n) h = h n refl

pub every_other_event_is_idle : {C State : Type 0} (o : Object C State) → EveryOtherEventIsIdle o
every_other_event_is_idle {C} o t p n b events event now x some law d =
    let w : World C = run o (world.start p n b) events in
    let u : World C = (happens o w event).world in
    let s = elsewhere o w x.member event d in
    fates_same (is_live u x.member) (is_live w x.member) (slice_get u.nodes x.member) (slice_get w.nodes x.member) (fate_at o t u now x) (fate_at o t w now x) s.1 s.0
    (λ k at. ap (λ a. fate_of (reached x.member k) (is_ready o t a x.call now || is_due now x.deadline) (t.starves x)) (every_state_stays o p n b events event x.member k some law at))
