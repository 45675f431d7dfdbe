-- The call of an effect is the first of its version with its number, and stays the first as the log grows.
use Rattle.std.proofs.Common.{◌≡◌, ℕ, ◌<◌, ◌≤◌, Bool, true, false, cond, ◌&&◌, ◌==◌, List, [], ◌∷◌, ◌++◌, Some, refl, subst, arith}
use Rattle.std.proofs.lemmas.Bool.Decides.{nat_tests}
use Rattle.grid_base.specs.Objects.{Object}
use Rattle.partition_table.specs.Rows.{is_primary, is_among}
use Rattle.partition_protocol.specs.Node.{Held, Node}
use Rattle.partition_protocol.specs.History.{Executed, Entry, Called, Reset, history, state_after}
use Rattle.partition_protocol.specs.World.{World}
use Rattle.partition_protocol.specs.Events.{Event, happens}
use Rattle.partition_protocol.specs.NamedStates.{is_numbered, first_numbered, effect_call}
use Rattle.partition_protocol.proofs.Lists.{Every}
use Rattle.partition_protocol.proofs.Histories.{IsWithin}
use Rattle.partition_protocol.proofs.Invariant.{Shape, NodeAt, Invariant}
use Rattle.partition_protocol.proofs.RowFacts.{same_number}
use Rattle.partition_protocol.proofs.Extends.{extends}
use Rattle.partition_protocol.proofs.States

-- the first of a log is the first of a longer one
pub first_front : {C : Type 0} (v i : ℕ) (x : Executed C) (log more : List (Entry C)) → first_numbered v i log ≡ Some x → first_numbered v i (log ++ more) ≡ Some x
first_front v i x [] more e = absurd cc
first_front v i x (Reset r ∷ log) more e = first_front v i x log more e
first_front v i x (Called y ∷ log) more e = go (is_numbered v i (Called y)) (λ h. first_front v i x log more h) e
  where
    go : (b : Bool) → (first_numbered v i log ≡ Some x → first_numbered v i (log ++ more) ≡ Some x) → cond b (Some y) (first_numbered v i log) ≡ Some x → cond b (Some y) (first_numbered v i (log ++ more)) ≡ Some x
    go true f h = h
    go false f h = f h

-- a call whose number no entry of its version has reached is the first of it
pub first_last : {C : Type 0} (v c i : ℕ) (x : Executed C) (log : List (Entry C)) → Every (IsWithin v c) log → c < i → x.version ≡ v → x.seen ≡ i → first_numbered v i (log ++ Called x ∷ []) ≡ Some x
first_last v c i x [] h l e s = let t : is_numbered v i (Called x) ≡ true = grind (arith, nat_tests) in rw t refl
first_last v c i x (Reset r ∷ log) h l e s = first_last v c i x log h.1 l e s
first_last {C} v c i x (Called y ∷ log) h l e s = let t = other y h.0 in rw t (first_last v c i x log h.1 l e s)
  where
    apart : (a b : Bool) → (a ≡ true → b ≡ false) → (a && b) ≡ false
    apart true b f = f refl
    apart false b f = refl

    other : (z : Executed C) → (z.version ≡ v → z.seen ≤ c) → is_numbered v i (Called z) ≡ false
    other z f = apart (z.version == v) (z.seen == i) (λ t. (let k = f (same_number z.version v t) in grind (arith, nat_tests)))

-- whatever happens, an effect's call stays the first
pub first_longer : {C State : Type 0} (o : Object C State) (w : World C) (e : Event C) (v i : ℕ) (x : Executed C) → effect_call w v i ≡ Some x → effect_call (happens o w e).world v i ≡ Some x
first_longer o w e v i x h =
    let more = (extends o w e).0 in
    subst (λ log. first_numbered v i log ≡ Some x) more.1 (first_front v i x w.recorded.log more.0 h)

module _ {C State : Type 0} (o : Object C State) (w : World C) (made : List Shape) (inv : Invariant o w made) (m : ℕ) (n : Node) (at : NodeAt w.nodes m n)
    (lives : is_among w.crashed m ≡ false) (leads : is_primary n.known m ≡ true) (thawed : n.frozen ≡ false)
    (x : Executed C) (c r : ℕ) (h : Held) (more : n.pair.count ≤ c) (version : x.version ≡ n.pair.version) (seen : x.seen ≡ c) (conn : x.conn ≡ h.conn) (number : x.number ≡ h.number) (held_seen : h.seen ≡ c)
    (reply : x.reply ≡ o.reply (state_after o o.empty (history w.recorded.openings w.recorded.log w.recorded.bases n.pair)) x.call x.now) where
  -- a call with an effect is the first of its number
  pub first_called : n.pair.count < c → first_numbered n.pair.version c (w.recorded.log ++ Called x ∷ []) ≡ Some x
  first_called l = first_last n.pair.version n.pair.count c x w.recorded.log (States.within o w made inv m n at lives leads thawed x c r h more version seen conn number held_seen reply) l version seen
