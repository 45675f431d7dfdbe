-- A message stays in its place on a link to the service while nothing is taken from such a link.
use Rattle.std.proofs.Common.{◌≡◌, ℕ, Bool, true, false, not, ◌&&◌, ◌==◌, List, [], ◌∷◌, ◌++◌, map, Some, slice_get, refl, sym, subst, arith}
use Rattle.grid_base.specs.Objects.{Object}
use Rattle.partition_protocol.specs.Messages.{Packet}
use Rattle.partition_protocol.specs.World.{World}
use Rattle.partition_protocol.specs.Links.{link, taken_out}
use Rattle.partition_protocol.specs.Events.{Event, Deliver, Lose, happens, run}
use Rattle.partition_protocol.proofs.Lists.{Every}
use Rattle.partition_protocol.proofs.RowFacts.{not_true, other_number, number_other}
use Rattle.partition_protocol.proofs.LinkFacts.{link_append, link_taken_other}
use Rattle.partition_protocol.proofs.EventCases.{EventCases, every_event}
use Rattle.partition_protocol.proofs.Theorem.{get_front}
use Rattle.partition_protocol.proofs.Adopt.{and_false}
use Rattle.masters_world.specs.Decisions as decisions
use Rattle.masters_world.specs.Decisions.{Decision, event_of}
use Rattle.masters_world.proofs.Lists.{takes}

-- the event takes no message from a link to that end
abbrev pub spares : {C : Type 0} → ℕ → Event C → Bool
spares n (Deliver f t i) = not (t == n)
spares n (Lose f t i) = not (t == n)
spares n _ = true

module _ {C State : Type 0} (o : Object C State) (w : World C) (n f i : ℕ) (p : Packet) (at : slice_get (link f n w.packets) i ≡ Some p) where
  abbrev pub Stays : Event C → World C → Type 0
  Stays e u = spares n e ≡ true → slice_get (link f n u.packets) i ≡ Some p

  pub more : (ps qs : List Packet) → slice_get (link f n ps) i ≡ Some p → slice_get (link f n (ps ++ qs)) i ≡ Some p
  more ps qs h = subst (λ l. slice_get l i ≡ Some p) (sym (link_append f n ps qs)) (get_front (link f n ps) (link f n qs) i p h)

  pub less : (g t k : ℕ) → not (t == n) ≡ true → slice_get (link f n (taken_out g t k w.packets)) i ≡ Some p
  less g t k e =
      let d = other_number t n (not_true (t == n) e) in
      let apart : ((f == g) && (n == t)) ≡ false = and_false (f == g) (n == t) (number_other n t (λ z. d (sym z))) in
      subst (λ l. slice_get l i ≡ Some p) (sym (link_taken_other g t f n k w.packets apart)) at

  pub stay_cases : EventCases o w Stays
  stay_cases = record {
    stays = λ e z s. at;
    loses = λ g t k q h s. less g t k s;
    drops = λ g t k q h d s. less g t k s;
    repeats = λ g t k q h s. more w.packets _ at;
    tells_again = λ s. more w.packets _ at;
    sends_again = λ m x h l k s. more w.packets _ at;
    crashes = λ m l s. at;
    detects = λ m l c u k s. more w.packets _ at;
    notes = λ m l c u k s. at;
    begins = λ e source to r k z s. more w.packets _ at;
    hands_over = λ from to r s. at;
    freezes = λ from to e k s. more w.packets _ at;
    leaves = λ from to e k s. more w.packets _ at;
    hands = λ from to e s. more w.packets _ at;
    reopens = λ r s. more w.packets _ at;
    joins = λ g t k q v m h e x s. less g t k s;
    drains = λ g t k q v h e x s. less g t k s;
    delivers = λ g t k q x h a l s. more (taken_out g t k w.packets) _ (less g t k s);
    calls = λ m conn number call now x h l b d z s. more w.packets _ at;
  }

  pub stays_in_place : (e : Event C) → spares n e ≡ true → slice_get (link f n (happens o w e).world.packets) i ≡ Some p
  stays_in_place e = every_event o w Stays stay_cases e

pub run_in_place : {C State : Type 0} (o : Object C State) (w : World C) (n f i : ℕ) (p : Packet) (es : List (Event C)) → Every (λ e. spares n e ≡ true) es
    → slice_get (link f n w.packets) i ≡ Some p → slice_get (link f n (run o w es).packets) i ≡ Some p
run_in_place o w n f i p [] h at = at
run_in_place o w n f i p (e ∷ es) h at = run_in_place o (happens o w e).world n f i p es h.1 (stays_in_place o w n f i p at e h.0)

-- a decision that takes no message spares each of them
pub decisions_spare : (C : Type 0) (n m : ℕ) (ds : List Decision) → takes ds ≡ 0 → Every (λ (e : Event C). spares n e ≡ true) (map (event_of m) ds)
decisions_spare C n m [] z = tt
decisions_spare C n m (decisions.Detect k ∷ ds) z = (refl, decisions_spare C n m ds z)
decisions_spare C n m (decisions.BeginMove from to ∷ ds) z = (refl, decisions_spare C n m ds z)
decisions_spare C n m (decisions.BeginJoin to ∷ ds) z = (refl, decisions_spare C n m ds z)
decisions_spare C n m (decisions.BeginHandover from to ∷ ds) z = (refl, decisions_spare C n m ds z)
decisions_spare C n m (decisions.Advance ∷ ds) z = (refl, decisions_spare C n m ds z)
decisions_spare C n m (decisions.Reopen ∷ ds) z = (refl, decisions_spare C n m ds z)
decisions_spare C n m (decisions.Take f i x ∷ ds) z = absurd (omega (arith, z))
