-- What messages in flight say of contents stays right, whatever happens: so their bytes stay those of what is named.
use Rattle.std.proofs.Common.{◌≡◌, ℕ, ◌-◌, List, [], ◌∷◌, map, refl, ap, sym, ◌∙◌}
use Rattle.partition_protocol.specs.Messages.{Message, NewRow, Sync, Effect, Bridge, Ack, Joined, Freeze, Frozen, Packet}
use Rattle.partition_protocol.specs.World.{World as Machine}
use Rattle.partition_protocol.specs.Links.{link, is_on}
use Rattle.partition_protocol.specs.Events.{Event, happens}
use Rattle.partition_protocol.specs.Claims.{IsLawful}
use Rattle.partition_protocol.specs.NamedStates.{IsEffect, effect_call}
use Rattle.partition_protocol.proofs.Lists.{In, Every, every_in, every_from_in}
use Rattle.partition_protocol.proofs.Histories.{filter_in}
use Rattle.partition_protocol.proofs.Invariant.{PacketOk}
use Rattle.partition_protocol.proofs.Events.{Good}
use Rattle.partition_protocol.proofs.NamedStates.{IsKnown, flies, sync_known, effect_known, state_after_event}
use Rattle.partition_protocol.proofs.Effects.{MessageLed, PacketLed, Led}
use Rattle.partition_protocol.proofs.EffectCalls.{first_longer}
use Rattle.member_wire.specs.Said.{said_with}
use Rattle.member_wire.specs.declared.message.MemberMessage.TheVariants as said
use Rattle.member_wire.specs.Spelling.{spelling}
use Rattle.grid_base.specs.Shelves.{Meaning}
use Rattle.partition_world.specs.InFlight.{state_at, bytes_by, effect_bytes, contents_in, bytes_of}

module _ {S C State : Type 0} (k : Meaning S C State) (law : IsLawful k.object) (w : Machine C) (good : Good k.object w) (event : Event C) where
  abbrev pub next : Machine C
  next = (happens k.object w event).world

  pub state_stays : (v c : ℕ) → IsKnown w (record { version = v; count = c }) → state_at k next v c ≡ state_at k w v c
  state_stays v c known = state_after_event k.object w good.0 good.1 law (record { version = v; count = c }) known event

  pub effect_bytes_stay : (v i : ℕ) → IsKnown w (record { version = v; count = i - 1 }) → IsEffect k.object w v i → effect_bytes k next v i ≡ effect_bytes k w v i
  effect_bytes_stay v i known e =
      ap (bytes_by k (state_at k next v (i - 1))) (first_longer k.object w event v i e.executed e.first ∙ sym e.first)
      ∙ ap (λ s. bytes_by k s (effect_call w v i)) (state_stays v (i - 1) known)

  module _ (led : Led k.object w) where
    said_now : (from : ℕ) (msg : Message) → PacketOk w.nodes w.recorded.bases good.0 w.crashed from msg → MessageLed k.object w msg
        → said_with (contents_in k next) msg ≡ said_with (contents_in k w) msg
    said_now from (NewRow row) ok h = refl
    said_now from (Sync row c) ok h = ap (λ s. said.Sync row c (k.snapshot_of s)) (state_stays row.version c (sync_known k.object w good.0 good.1 from row c ok))
    said_now from (Effect v i) ok h = ap (said.Effect v i) (effect_bytes_stay v i (effect_known k.object w good.0 good.1 from v i ok).0 (h.1 law))
    said_now from (Bridge row e c) ok h = refl
    said_now from (Ack v c) ok h = refl
    said_now from (Joined v b) ok h = refl
    said_now from (Freeze v) ok h = refl
    said_now from (Frozen v) ok h = refl

    -- a message in flight keeps what goes with it
    pub said_stays : (p : Packet) → In p w.packets → said_with (contents_in k next) p.message ≡ said_with (contents_in k w) p.message
    said_stays p i = said_now p.from p.message (flies k.object w good.0 good.1 p i) (every_in (PacketLed k.object w) w.packets p led.packets i)

    pub bytes_stay : (p : Packet) → In p w.packets → bytes_of k next p ≡ bytes_of k w p
    bytes_stay p i = ap spelling (said_stays p i)

    same_bytes : (ps : List Packet) → Every (λ p. bytes_of k next p ≡ bytes_of k w p) ps → map (bytes_of k next) ps ≡ map (bytes_of k w) ps
    same_bytes [] h = refl
    same_bytes (p ∷ ps) h = ap (λ b. b ∷ map (bytes_of k next) ps) h.0 ∙ ap (λ bs. bytes_of k w p ∷ bs) (same_bytes ps h.1)

    -- and so do all on a link
    pub link_stays : (f t : ℕ) → map (bytes_of k next) (link f t w.packets) ≡ map (bytes_of k w) (link f t w.packets)
    link_stays f t = same_bytes (link f t w.packets) (every_from_in (λ p. bytes_of k next p ≡ bytes_of k w p) (link f t w.packets) (λ p i. bytes_stay p (filter_in (is_on f t) w.packets p i).0))
