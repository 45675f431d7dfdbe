-- What an event does to a member that it doesn't reach, and what becomes of a call.
use Rattle.std.proofs.Common.{◌≡◌, ℕ, Bool, true, false, cond, ◌==◌, List, [], ◌∷◌, ◌++◌, map, Option, Some, None, slice_get, slice_set, refl, ap, sym, ◌∙◌, subst, ◌⊎◌, inl, inr}
use Rattle.grid_base.specs.Objects.{Object}
use Rattle.partition_protocol.specs.Messages.{Packet}
use Rattle.partition_protocol.specs.Node.{Node, settled}
use Rattle.partition_protocol.specs.Replica.{taking}
use Rattle.partition_protocol.specs.Execution.{Reached, Executes, PartitionLost, WrongTarget, Migrating, reached, executing}
use Rattle.partition_protocol.specs.World.{World, is_live, map_or, pair_state}
use Rattle.partition_protocol.specs.Links.{is_on, link}
use Rattle.partition_protocol.specs.Events.{Event, Call, Happened, nothing, calling, happens}
use Rattle.partition_protocol.specs.Arrivals.{CallName, name, asked_by, arrivals, NamedOnce}
use Rattle.partition_protocol.proofs.Lists.{In, in_right, set_get_same, set_get_other}
use Rattle.partition_protocol.proofs.Invariant.{NodeAt}
use Rattle.partition_protocol.proofs.Histories.{filter_in}
use Rattle.partition_protocol.proofs.RowFacts.{same_number, both_right}
use Rattle.partition_protocol.proofs.Answers.{map_append, once_right, once_apart}
use Rattle.partition_protocol.proofs.Events.{get_in}
use Rattle.partition_protocol.proofs.EventFacts.{call_dead, call_executed, call_refused}
use Rattle.partition_protocol.proofs.EventCases.{every_event}
use Rattle.near_protocol.specs.Laws.{IsStepOf}

-- whom a call reached

-- a call of that name reached the member
abbrev pub WasCalled : {C : Type 0} → List (Event C) → ℕ → CallName → Type 0
WasCalled {C} es m n = (call : C) × (now : ℕ) × In (Call m n.conn n.number call now) es

pub called_arrived : {C : Type 0} (es : List (Event C)) (m : ℕ) (n : CallName) → WasCalled es m n → In n (map name (arrivals es))
called_arrived [] m n (call, now, i) = absurd i
called_arrived (e ∷ es) m n (call, now, inl s) = subst (λ d. In n (map name (asked_by d ++ arrivals es))) (sym s) (inl refl)
called_arrived (e ∷ es) m n (call, now, inr i) =
    subst (In n) (sym (map_append name (asked_by e) (arrivals es))) (in_right n (map name (asked_by e)) (map name (arrivals es)) (called_arrived es m n (call, now, i)))

-- it is one member, where no two calls have one name
pub called_once : {C : Type 0} (es : List (Event C)) (m k : ℕ) (n : CallName) → NamedOnce (map name (arrivals es)) → WasCalled es m n → WasCalled es k n → m ≡ k
called_once [] m k n once (call, now, i) b = absurd i
called_once {C} (e ∷ es) m k n once a b = go a b (λ r. called_once es m k n r)
  where
    parted : NamedOnce (map name (asked_by e) ++ map name (arrivals es))
    parted = subst NamedOnce (map_append name (asked_by e) (arrivals es)) once

    first : (j : ℕ) (call : C) (now : ℕ) → e ≡ Call j n.conn n.number call now → In n (map name (asked_by e))
    first j call now s = subst (λ d. In n (map name (asked_by d))) (sym s) (inl refl)

    twice : (j : ℕ) (call : C) (now : ℕ) → e ≡ Call j n.conn n.number call now → In n (map name (arrivals es)) → m ≡ k
    twice j call now s i = absurd (once_apart (map name (asked_by e)) (map name (arrivals es)) n n parted (first j call now s) i refl)

    go : WasCalled (e ∷ es) m n → WasCalled (e ∷ es) k n → (NamedOnce (map name (arrivals es)) → WasCalled es m n → WasCalled es k n → m ≡ k) → m ≡ k
    go (c, t, inl s) (d, u, inl z) ih = let both : Call m n.conn n.number c t ≡ Call k n.conn n.number d u = sym s ∙ z in cc
    go (c, t, inl s) (d, u, inr j) ih = twice m c t s (called_arrived es k n (d, u, j))
    go (c, t, inr i) (d, u, inl z) ih = twice k d u z (called_arrived es m n (c, t, i))
    go (c, t, inr i) (d, u, inr j) ih = ih (once_right (map name (asked_by e)) (map name (arrivals es)) parted) (c, t, i) (d, u, j)

-- a member that an event doesn't reach stays as it is
abbrev pub StaysAt : {C : Type 0} → World C → Event C → World C → Type 0
StaysAt w e u = (m : ℕ) → (IsStepOf e m → ⊥) → slice_get u.nodes m ≡ slice_get w.nodes m

pub untouched : {C State : Type 0} (o : Object C State) (w : World C) (e : Event C) → StaysAt w e (happens o w e).world
untouched {C} o w = every_event o w (StaysAt w) (record {
  stays = λ e z m d. refl;
  loses = λ f t i q at m d. refl;
  drops = λ f t i q at z m d. refl;
  repeats = λ f t i q at m d. refl;
  tells_again = λ m d. refl;
  sends_again = λ k n at l p m d. refl;
  crashes = λ k l m d. refl;
  detects = λ k a b c z m d. refl;
  notes = λ k a b c z m d. refl;
  begins = λ e s t a b c m d. refl;
  hands_over = λ f t a m d. refl;
  freezes = λ f t a b m d. refl;
  leaves = λ f t a b m d. refl;
  hands = λ f t a m d. refl;
  reopens = λ a m d. refl;
  joins = λ f t i q v k a b c m d. refl;
  drains = λ f t i q v a b c m d. refl;
  delivers = λ f t i q n place at l m d. takes f t i q n place m d;
  calls = λ k conn number call now n at l a b c m d. set_get_other w.nodes k m (settled (executing (o.changes (pair_state o w n.pair) call now) conn number n)) (λ s. d (sym s));
})
  where
    takes : (f t i : ℕ) (q : Packet) (n : Node) → slice_get (link f t w.packets) i ≡ Some q → (m : ℕ) → (t ≡ m → ⊥) → slice_get (slice_set w.nodes q.to (settled (taking w.members q.to q.from q.message n).node)) m ≡ slice_get w.nodes m
    takes f t i q n place m d = set_get_other w.nodes q.to m (settled (taking w.members q.to q.from q.message n).node) (λ s. d (sym to ∙ sym s))
      where
        to : q.to ≡ t
        to = same_number q.to t (both_right (q.from == f) (q.to == t) (filter_in (is_on f t) w.packets q (get_in (link f t w.packets) i q place)).1)

-- what becomes of a call

module _ {C State : Type 0} (o : Object C State) (w : World C) (m conn number : ℕ) (call : C) (now : ℕ) where
  -- it reaches no member that lives
  abbrev pub ReachesNone : Type 0
  ReachesNone = (is_live w m ≡ false) ⊎ (slice_get w.nodes m ≡ None)

  -- a member executes it
  abbrev pub IsExecuted : Type 0
  IsExecuted = (n : Node) × NodeAt w.nodes m n × (is_live w m ≡ true) × (reached m n ≡ Executes)

  -- or refuses it
  abbrev pub IsRefused : Type 0
  IsRefused = (n : Node) × NodeAt w.nodes m n × (is_live w m ≡ true) × (reached m n ≡ Executes → ⊥)

  pub call_goes : ReachesNone ⊎ IsExecuted ⊎ IsRefused
  call_goes = by (is_live w m) refl (slice_get w.nodes m) refl
    where
      by_reached : (n : Node) → NodeAt w.nodes m n → is_live w m ≡ true → (r : Reached) → reached m n ≡ r → ReachesNone ⊎ IsExecuted ⊎ IsRefused
      by_reached n at lives Executes z = inr (inl (n, at, lives, z))
      by_reached n at lives (PartitionLost v) z = inr (inr (n, at, lives, λ f. absurd (let q : PartitionLost v ≡ Executes = sym z ∙ f in cc)))
      by_reached n at lives (WrongTarget v) z = inr (inr (n, at, lives, λ f. absurd (let q : WrongTarget v ≡ Executes = sym z ∙ f in cc)))
      by_reached n at lives (Migrating v) z = inr (inr (n, at, lives, λ f. absurd (let q : Migrating v ≡ Executes = sym z ∙ f in cc)))

      by : (b : Bool) → is_live w m ≡ b → (x : Option Node) → slice_get w.nodes m ≡ x → ReachesNone ⊎ IsExecuted ⊎ IsRefused
      by false e x s = inl (inl e)
      by true e None s = inl (inr s)
      by true e (Some n) s = by_reached n s e (reached m n) refl

  pub none_happens : ReachesNone → happens o w (Call m conn number call now) ≡ nothing w
  none_happens (inl dead) = call_dead o w m conn number call now dead
  none_happens (inr none) = ap (λ x. cond (is_live w m) (map_or x (nothing w) (calling o w m conn number call now)) (nothing w)) none ∙ same (is_live w m)
    where
      same : (b : Bool) → cond b (nothing w) (nothing w) ≡ nothing w
      same true = refl
      same false = refl

  -- it leaves the row that its member knows
  pub call_keeps_row : (n : Node) → NodeAt w.nodes m n → (a : Node) × NodeAt (happens o w (Call m conn number call now)).world.nodes m a × (a.known ≡ n.known)
  call_keeps_row n at = go call_goes
    where
      stays : (happens o w (Call m conn number call now)).world ≡ w → (a : Node) × NodeAt (happens o w (Call m conn number call now)).world.nodes m a × (a.known ≡ n.known)
      stays e = (n, ap (λ (u : World C). slice_get u.nodes m) e ∙ at, refl)

      go : ReachesNone ⊎ IsExecuted ⊎ IsRefused → (a : Node) × NodeAt (happens o w (Call m conn number call now)).world.nodes m a × (a.known ≡ n.known)
      go (inl none) = stays (ap (λ (h : Happened C). h.world) (none_happens none))
      go (inr (inl (k, there, lives, z))) =
          let after = executing (o.changes (pair_state o w k.pair) call now) conn number k in
          let same : k ≡ n = (let both : Some k ≡ Some n = sym there ∙ at in cc) in
          (settled after, ap (λ (h : Happened C). slice_get h.world.nodes m) (call_executed o w m conn number call now k lives there z) ∙ set_get_same w.nodes m (settled after) k there, ap (λ (x : Node). x.known) same)
      go (inr (inr (k, there, lives, z))) = stays (ap (λ (h : Happened C). h.world) (call_refused o w m conn number call now k (reached m k) lives there refl z))
