-- On a link to the table service stand only messages with which nothing goes: so what the code has there is the message as a decision to take it is written.
use Rattle.std.proofs.Common.{◌≡◌, ℕ, ◌<◌, Bool, true, false, cond, not, ◌&&◌, ◌==◌, List, [], ◌∷◌, map, Option, Some, None, option_map, slice_get, refl, ap, sym, ◌∙◌, subst}
use Rattle.std.proofs.lemmas.Option.{slice_get-map, same_Some}
use Rattle.grid_base.specs.Shelves.{Meaning}
use Rattle.member_wire.specs.Said.{Contents, said_with}
use Rattle.member_wire.specs.Spelling.{spelling}
use Rattle.partition_protocol.specs.Messages.{Message, NewRow, Sync, Effect, Bridge, Ack, Joined, Freeze, Frozen, Packet}
use Rattle.partition_protocol.specs.Links.{link}
use Rattle.partition_protocol.specs.World.{World}
use Rattle.partition_protocol.specs.Events as partition
use Rattle.partition_protocol.specs.WellFormed.{IsWellFormed, IsPacketOf}
use Rattle.partition_protocol.proofs.EventCases.{place_in}
use Rattle.partition_protocol.proofs.LinkFacts.{packet, packet_at}
use Rattle.partition_protocol.proofs.Lists.{contains_in}
use Rattle.partition_protocol.proofs.RowFacts.{number_same}
use Rattle.masters_protocol.specs.Machine.{pending}
use Rattle.masters_world.specs.Decisions.{Take}
use Rattle.masters_world.specs.Machine.{Ruled, taking, proposals}
use Rattle.masters_world.specs.Claims.{IsForService}
use Rattle.masters_world.proofs.Since.{for_service}
use Rattle.partition_world.specs.InFlight.{contents_in}
use Rattle.partition_world.specs.Sending.{flying}
use Rattle.master_wire.specs.declared.decision.Decision.TheVariants as written
use Rattle.masters_run.specs.Written.{no_contents, bytes_said, as_written}

-- whatever the contents are
pub said_alone : (n : ℕ) (contents : Contents) (x : Message) → IsForService n x → said_with contents x ≡ said_with no_contents x
said_alone n contents (NewRow row) is = absurd is
said_alone n contents (Sync row count) is = absurd is
said_alone n contents (Effect version number) is = absurd is
said_alone n contents (Bridge row base count) is = absurd is
said_alone n contents (Ack version count) is = absurd is
said_alone n contents (Joined version member) is = refl
said_alone n contents (Freeze version) is = absurd is
said_alone n contents (Frozen version) is = refl

module _ {C : Type 0} (p n b : ℕ) (w : World C) (formed : IsWellFormed p n b w) (f i : ℕ) where
  -- at each place of a link to the service
  pub for_service_there : (q : Packet) → slice_get (link f n w.packets) i ≡ Some q → (f < n) × IsForService n q.message
  for_service_there q at =
      let is : q ≡ packet f n q.message = packet_at f n i w.packets q at in
      let of : IsPacketOf n (packet f n q.message) = subst (IsPacketOf n) is (formed.packets q (contains_in q w.packets (place_in f n i w.packets q at))) in
      for_service n f q.message of.message

  pub bytes_there : (contents : Contents) (q : Packet) → slice_get (link f n w.packets) i ≡ Some q → spelling (said_with contents q.message) ≡ bytes_said q.message
  bytes_there contents q at = ap spelling (said_alone n contents q.message (for_service_there q at).1)

  -- the message whose bytes the code has there
  pub message_there : {S State : Type 0} (k : Meaning S C State) (bytes : List ℕ) → slice_get (flying k w f n) i ≡ Some bytes → (q : Packet) × (slice_get (link f n w.packets) i ≡ Some q) × (bytes ≡ bytes_said q.message)
  message_there k bytes at = go (slice_get (link f n w.packets) i) refl
    where
      read : option_map (λ (q : Packet). spelling (said_with (contents_in k w) q.message)) (slice_get (link f n w.packets) i) ≡ Some bytes
      read = sym (slice_get-map (λ (q : Packet). spelling (said_with (contents_in k w) q.message)) (link f n w.packets) i) ∙ at

      go : (found : Option Packet) → slice_get (link f n w.packets) i ≡ found → (q : Packet) × (slice_get (link f n w.packets) i ≡ Some q) × (bytes ≡ bytes_said q.message)
      go None is = absurd (let e : None ≡ Some bytes = sym (ap (option_map (λ (q : Packet). spelling (said_with (contents_in k w) q.message))) is) ∙ read in cc)
      go (Some q) is =
          let e : Some (spelling (said_with (contents_in k w) q.message)) ≡ Some bytes = sym (ap (option_map (λ (q : Packet). spelling (said_with (contents_in k w) q.message))) is) ∙ read in
          (q, is, sym (same_Some (spelling (said_with (contents_in k w) q.message)) bytes e) ∙ bytes_there (contents_in k w) q is)

  pub none_there : {S State : Type 0} (k : Meaning S C State) → slice_get (flying k w f n) i ≡ None → slice_get (link f n w.packets) i ≡ None
  none_there k at = go (slice_get (link f n w.packets) i) refl
    where
      read : option_map (λ (q : Packet). spelling (said_with (contents_in k w) q.message)) (slice_get (link f n w.packets) i) ≡ None
      read = sym (slice_get-map (λ (q : Packet). spelling (said_with (contents_in k w) q.message)) (link f n w.packets) i) ∙ at

      go : (found : Option Packet) → slice_get (link f n w.packets) i ≡ found → slice_get (link f n w.packets) i ≡ None
      go None is = is
      go (Some q) is = absurd (let e : Some (spelling (said_with (contents_in k w) q.message)) ≡ None = sym (ap (option_map (λ (q : Packet). spelling (said_with (contents_in k w) q.message))) is) ∙ read in cc)

-- what is proposed as the service is to take the message at that place

module _ {C : Type 0} (j : Ruled C) (n f i : ℕ) (same : j.world.members ≡ n) where
  taking_so : (quiet : Bool) → pending j.masters ≡ quiet → proposals j (partition.Deliver f n i) ≡ cond (not quiet) (taking f i (slice_get (link f n j.world.packets) i)) []
  taking_so quiet is =
      let one : (n == j.world.members) ≡ true = number_same n j.world.members (sym same) in
      let found = taking f i (slice_get (link f n j.world.packets) i) in
      ap (λ b. cond (b && not (pending j.masters)) found []) one ∙ ap (λ b. cond (not b) found []) is

  -- nothing, while something is pending
  pub takes_nothing_pending : pending j.masters ≡ true → proposals j (partition.Deliver f n i) ≡ []
  takes_nothing_pending is = taking_so true is

  -- nothing, where there is none
  pub takes_nothing_there : pending j.masters ≡ false → slice_get (link f n j.world.packets) i ≡ None → proposals j (partition.Deliver f n i) ≡ []
  takes_nothing_there is none = taking_so false is ∙ ap (taking f i) none

  pub takes_there : pending j.masters ≡ false → (q : Packet) → slice_get (link f n j.world.packets) i ≡ Some q → proposals j (partition.Deliver f n i) ≡ Take f i q.message ∷ []
  takes_there is q at = taking_so false is ∙ ap (taking f i) at

  -- the decision that the code makes of the bytes there
  pub takes_written : (p b : ℕ) → IsWellFormed p n b j.world → pending j.masters ≡ false → {S State : Type 0} (k : Meaning S C State) (bytes : List ℕ) → slice_get (flying k j.world f n) i ≡ Some bytes
      → map as_written (proposals j (partition.Deliver f n i)) ≡ written.Take f i bytes ∷ []
  takes_written p b formed is k bytes at =
      let h = message_there p n b j.world formed f i k bytes at in
      ap (map as_written) (takes_there is h.0 h.1) ∙ ap (λ xs. written.Take f i xs ∷ []) (sym h.2)
