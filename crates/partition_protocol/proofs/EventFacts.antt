-- What an event does, as an equation, where it is known whom it reaches.
use Rattle.std.proofs.Common.{◌≡◌, ℕ, ◌≤◌, Bool, true, false, cond, not, ◌==◌, List, [], ◌∷◌, ◌++◌, length, Some, slice_get, refl, ap, ◌∙◌}
use Rattle.std.proofs.lemmas.Option.{slice_get_past}
use Rattle.grid_base.specs.Objects.{Object}
use Rattle.partition_table.specs.Rows.{is_primary}
use Rattle.partition_protocol.specs.Messages.{Message, Packet}
use Rattle.partition_protocol.specs.Took.{Dropped}
use Rattle.partition_protocol.specs.Node.{Node}
use Rattle.partition_protocol.specs.Execution.{reached, Reached, Executes, PartitionLost, WrongTarget, Migrating}
use Rattle.partition_protocol.specs.World.{World, map_or, is_live}
use Rattle.partition_protocol.specs.Links.{link, taken_out, with_packets}
use Rattle.partition_protocol.specs.Events.{Event, Call, Deliver, Lose, Repeat, Happened, Refused, TookMessage, nothing, done, at_node, at_place, calling, delivered, service_takes, handed_over, executes, happens, run}
use Rattle.partition_protocol.proofs.Extends.{run_append}
use Rattle.partition_protocol.proofs.LinkFacts.{packet}

-- a run with one event more
pub run_next : {C State : Type 0} (o : Object C State) (w : World C) (events : List (Event C)) (event : Event C) → run o w (events ++ event ∷ []) ≡ (happens o (run o w events) event).world
run_next o w events event = run_append o w events (event ∷ [])

-- at a place of a link

pub at_packet : {C : Type 0} (w : World C) (f t i : ℕ) (g : Packet → Happened C) (p : Packet) → slice_get (link f t w.packets) i ≡ Some p → at_place w f t i g ≡ g p
at_packet w f t i g p e = ap (λ x. map_or x (nothing w) g) e

pub no_packet : {C : Type 0} (w : World C) (f t i : ℕ) (g : Packet → Happened C) → length (link f t w.packets) ≤ i → at_place w f t i g ≡ nothing w
no_packet w f t i g l = ap (λ x. map_or x (nothing w) g) (slice_get_past (link f t w.packets) i l)

module _ {C State : Type 0} (o : Object C State) (w : World C) (f t i : ℕ) (msg : Message) (at : slice_get (link f t w.packets) i ≡ Some (packet f t msg)) where
  -- the world without the message
  abbrev pub rest : World C
  rest = with_packets w (taken_out f t i w.packets)

  pub lose_there : happens o w (Lose f t i) ≡ done (with_packets w (taken_out f t i w.packets))
  lose_there = at_packet w f t i (λ p. done (with_packets w (taken_out f t i w.packets))) (packet f t msg) at

  pub repeat_there : happens o w (Repeat f t i) ≡ done (with_packets w (w.packets ++ packet f t msg ∷ []))
  repeat_there = at_packet w f t i (λ p. done (with_packets w (w.packets ++ p ∷ []))) (packet f t msg) at

  pub deliver_live : (n : Node) → (t == w.members) ≡ false → is_live w t ≡ true → slice_get w.nodes t ≡ Some n → happens o w (Deliver f t i) ≡ delivered (with_packets w (taken_out f t i w.packets)) (packet f t msg) n
  deliver_live n not_service lives node = at_packet w f t i (λ p. handed_over (with_packets w (taken_out f t i w.packets)) p) (packet f t msg) at ∙ rw (not_service, lives, node) refl

  pub deliver_dead : (t == w.members) ≡ false → is_live w t ≡ false → happens o w (Deliver f t i) ≡ record { world = with_packets w (taken_out f t i w.packets); outcome = TookMessage Dropped }
  deliver_dead not_service dead = at_packet w f t i (λ p. handed_over (with_packets w (taken_out f t i w.packets)) p) (packet f t msg) at ∙ rw (not_service, dead) refl

  pub deliver_service : (t == w.members) ≡ true → happens o w (Deliver f t i) ≡ service_takes (with_packets w (taken_out f t i w.packets)) msg
  deliver_service service = at_packet w f t i (λ p. handed_over (with_packets w (taken_out f t i w.packets)) p) (packet f t msg) at ∙ rw service refl

-- at a member

pub at_live : {C : Type 0} (w : World C) (m : ℕ) (f : Node → Happened C) (n : Node) → is_live w m ≡ true → slice_get w.nodes m ≡ Some n → at_node w m f ≡ f n
at_live w m f n lives node = rw (lives, node) refl

pub at_dead : {C : Type 0} (w : World C) (m : ℕ) (f : Node → Happened C) → is_live w m ≡ false → at_node w m f ≡ nothing w
at_dead w m f dead = rw dead refl

module _ {C State : Type 0} (o : Object C State) (w : World C) (m conn number : ℕ) (call : C) (now : ℕ) where
  pub call_dead : is_live w m ≡ false → happens o w (Call m conn number call now) ≡ nothing w
  call_dead dead = at_dead w m (calling o w m conn number call now) dead

  pub call_live : (n : Node) → is_live w m ≡ true → slice_get w.nodes m ≡ Some n → happens o w (Call m conn number call now) ≡ calling o w m conn number call now n
  call_live n lives node = at_live w m (calling o w m conn number call now) n lives node

  -- a node that the call reaches executes it
  pub call_executed : (n : Node) → is_live w m ≡ true → slice_get w.nodes m ≡ Some n → reached m n ≡ Executes → happens o w (Call m conn number call now) ≡ executes o w m conn number call now n
  call_executed n lives node e = call_live n lives node ∙ rw e refl

  -- or refuses it, by the word for it
  pub call_refused : (n : Node) (r : Reached) → is_live w m ≡ true → slice_get w.nodes m ≡ Some n → reached m n ≡ r → (r ≡ Executes → ⊥) → happens o w (Call m conn number call now) ≡ record { world = w; outcome = Refused r }
  call_refused n Executes lives node e d = absurd (d refl)
  call_refused n (PartitionLost v) lives node e d = call_live n lives node ∙ rw e refl
  call_refused n (WrongTarget v) lives node e d = call_live n lives node ∙ rw e refl
  call_refused n (Migrating v) lives node e d = call_live n lives node ∙ rw e refl

-- a node that executes is primary, of a row that isn't lost, and isn't frozen
pub reached_cases : (lost leads frozen : Bool) (v : ℕ) → cond lost (PartitionLost v) (cond (not leads) (WrongTarget v) (cond frozen (Migrating v) Executes)) ≡ Executes → (lost ≡ false) × (leads ≡ true) × (frozen ≡ false)
reached_cases true leads frozen v e = absurd cc
reached_cases false false frozen v e = absurd cc
reached_cases false true true v e = absurd cc
reached_cases false true false v e = (refl, refl, refl)

pub reached_leads : (m : ℕ) (n : Node) → reached m n ≡ Executes → (n.known.lost ≡ false) × (is_primary n.known m ≡ true) × (n.frozen ≡ false)
reached_leads m n e = reached_cases n.known.lost (is_primary n.known m) n.frozen n.known.version e
