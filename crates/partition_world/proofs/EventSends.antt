-- What an event sends: few messages of it go from one end to one other, at most 65; and a primary or the service sends again.
use Rattle.std.proofs.Common.{◌≡◌, ℕ, ◌<◌, ◌≤◌, Bool, true, List, [], ◌∷◌, ◌++◌, map, length, Option, Some, slice_get, refl, ap, sym, ◌∙◌, arith, inr}
use Rattle.partition_table.specs.declared.Row.{Row}
use Rattle.partition_table.specs.declared.RowMember.{RowMember}
use Rattle.partition_table.specs.Rows.{is_primary, number_of, rest_of, backups_of}
use Rattle.grid_base.specs.Objects.{Object}
use Rattle.partition_protocol.specs.Messages.{Message}
use Rattle.partition_protocol.specs.Node.{Node, settled}
use Rattle.partition_protocol.specs.Replica.{taking, sent_again}
use Rattle.partition_protocol.specs.Execution.{executing, sent_on_executing}
use Rattle.partition_protocol.specs.Service.{telling, freezing_again}
use Rattle.partition_protocol.specs.World.{World as Machine, is_live, pair_state}
use Rattle.partition_protocol.specs.WellFormed.{IsRowOf}
use Rattle.partition_protocol.specs.Links.{link, sending}
use Rattle.partition_protocol.specs.Events.{Deliver, Resend, Happened, done, happens}
use Rattle.partition_protocol.proofs.Lists.{In, Every, every_in}
use Rattle.partition_protocol.proofs.Invariant.{NodeAt}
use Rattle.partition_protocol.proofs.RowFacts.{number_same}
use Rattle.partition_protocol.proofs.LinkFacts.{packet}
use Rattle.grid_base.specs.Shelves.{Meaning}
use Rattle.partition_world.specs.InFlight.{IsRing}
use Rattle.partition_world.proofs.SmallStates.{every_of_all}
use Rattle.partition_world.specs.Shelves.{IsShelf}
use Rattle.partition_world.specs.Sending.{carried_of, HasNewest, IsNamed, most_of}
use Rattle.partition_world.proofs.EffectsLead.{Stood}
use Rattle.partition_world.proofs.Taking.{member_apart}
use Rattle.partition_world.proofs.Sending.{again_sent, sent_named}
use Rattle.partition_world.proofs.Rings as rings
use Rattle.partition_world.proofs.Spelled.{below_few, numbers_every, numbers_length}
use Rattle.partition_world.proofs.FewOnLinks.{HasFew, count_to, node_few, taking_few, executing_few, executing_none, again_few}

pub resend_live : {C State : Type 0} (o : Object C State) (w : Machine C) (m : ℕ) (n : Node) → is_live w m ≡ true → NodeAt w.nodes m n → is_primary n.known m ≡ true
    → happens o w (Resend m) ≡ done (sending w m (sent_again w.members n))
resend_live o w m n lives there leads = let apart = member_apart w m lives in rw (apart, lives, there, leads) refl

pub resend_service : {C State : Type 0} (o : Object C State) (w : Machine C) → happens o w (Resend w.members) ≡ done (sending w w.members (telling w.members w.service ++ freezing_again w.service))
resend_service o w = let same = number_same w.members w.members refl in rw same refl

-- the backups of a row are members
pub backups_below : (members : ℕ) (row : Row) → IsRowOf members row → (b : RowMember) → In b (backups_of row) → b.member < members
backups_below members row of b i =
    every_in (λ (r : RowMember). r.member < members) row.members b (every_of_all (λ (r : RowMember). r.member < members) row.members of.below) (rest_in row.members i)
  where
    rest_in : (rs : List RowMember) → In b (rest_of rs) → In b rs
    rest_in [] i = i
    rest_in (r ∷ rs) i = inr i

module _ {S C State : Type 0} (k : Meaning S C State) (limits : C → Type 0) (within : ℕ → State → Type 0) (applied : List ℕ → State → Option State) (shelf : IsShelf k limits within applied)
    (w : Machine C) (stood : Stood k.object limits within w) (m : ℕ) (n : Node) (lives : is_live w m ≡ true) (there : NodeAt w.nodes m n) (leads : is_primary n.known m ≡ true) where
  abbrev pub next : Machine C
  next = (happens k.object w (Resend m)).world

  pub next_is : next ≡ sending w m (sent_again w.members n)
  next_is = ap (λ (h : Happened C). h.world) (resend_live k.object w m n lives there leads)

  pub node_next : NodeAt next.nodes m n
  node_next = ap (λ (u : Machine C). slice_get u.nodes m) next_is ∙ there

  -- what goes with it is what the world names
  pub again_named : Stood k.object limits within next → (kept : ℕ → Option (List ℕ)) → IsRing k w n kept → HasNewest n kept → (state : State) → state ≡ pair_state k.object w n.pair
      → Every (IsNamed k next (carried_of k.snapshot_of state kept)) (sent_again w.members n)
  again_named stood_next kept ring newest state has =
      sent_named k limits within applied shelf next stood_next m n node_next kept (λ p. rings.ring_stays k limits within applied shelf w stood (Resend m) m n there leads kept ring) (λ p. newest) state
      (has ∙ ap (λ (u : Machine C). pair_state k.object u n.pair) (sym next_is)) (sent_again w.members n) (again_sent m w.members n leads)

  -- and at most 65 of it go to one end
  pub again_few_to : (h : ℕ) → w.members ≤ 64 → count_to h (sent_again w.members n) ≤ 65
  again_few_to h most =
      again_few h m w.members n leads (node_few k.object w stood.good stood.led m n there of.distinct) (backups_below w.members n.known of) few
    where
      of : IsRowOf w.members n.known
      of = stood.rows m n there

      every_below : Every (λ (r : RowMember). r.member < w.members) n.known.members
      every_below = every_of_all (λ (r : RowMember). r.member < w.members) n.known.members of.below

      rest_few : (rs : List RowMember) → length (rest_of rs) ≤ length rs
      rest_few [] = omega arith
      rest_few (r ∷ rs) = omega arith

      few : length (backups_of n.known) ≤ 64
      few =
          let all = below_few w.members (map number_of n.known.members) of.distinct (numbers_every w.members n.known.members every_below) in
          let same = numbers_length n.known.members in
          let rest = rest_few n.known.members in
          omega (arith, all, same, rest, most)

-- a member takes a message
module _ {S C State : Type 0} (k : Meaning S C State) (limits : C → Type 0) (within : ℕ → State → Type 0) (applied : List ℕ → State → Option State) (shelf : IsShelf k limits within applied)
    (w : Machine C) (stood : Stood k.object limits within w) (f m i : ℕ) (msg : Message) (n : Node) (at : slice_get (link f m w.packets) i ≡ Some (packet f m msg)) (lives : is_live w m ≡ true) (there : NodeAt w.nodes m n) where
  pub taken_few_to : (h : ℕ) → Stood k.object limits within (happens k.object w (Deliver f m i)).world → count_to h (taking w.members m f msg n).sent ≤ most_of msg
  taken_few_to h then =
      let few : HasFew m (settled (taking w.members m f msg n).node) =
      node_few k.object (happens k.object w (Deliver f m i)).world then.good then.led m (settled (taking w.members m f msg n).node) (rings.node_then k limits within applied shelf w stood f m i msg n at lives there)
      (then.rows m (settled (taking w.members m f msg n).node) (rings.node_then k limits within applied shelf w stood f m i msg n at lives there)).distinct in
      taking_few h m w.members f n msg (record { distinct = few.distinct; catch_ups = few.catch_ups })

-- and executes a call
pub called_few_to : {C State : Type 0} (o : Object C State) (limits : C → Type 0) (within : ℕ → State → Type 0) (w : Machine C) → Stood o limits within w → (h m conn number : ℕ) (n : Node) (changes : Bool) → NodeAt w.nodes m n
    → count_to h (sent_on_executing changes (executing changes conn number n)) ≤ 1
called_few_to o limits within w stood h m conn number n changes there = executing_few h m changes (executing changes conn number n) (stood.rows m n there).distinct

-- which goes to no end but members
pub called_none_to : {C State : Type 0} (o : Object C State) (limits : C → Type 0) (within : ℕ → State → Type 0) (w : Machine C) → Stood o limits within w → (h m conn number : ℕ) (n : Node) (changes : Bool) → NodeAt w.nodes m n
    → w.members ≤ h → count_to h (sent_on_executing changes (executing changes conn number n)) ≡ 0
called_none_to o limits within w stood h m conn number n changes there past =
    executing_none h m changes (executing changes conn number n) (λ b i e. (let l = backups_below w.members n.known (stood.rows m n there) b i in omega (arith, l, past, e)))
