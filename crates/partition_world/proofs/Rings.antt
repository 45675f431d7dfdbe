-- The newest effects that a primary keeps stay right: as any event happens, and as it takes a message.
use Rattle.std.proofs.Common.{◌≡◌, ℕ, ◌+◌, ◌-◌, ◌<◌, ◌≤◌, Bool, true, false, cond, not, ◌&&◌, List, Option, Some, None, slice_get, refl, ap, sym, ◌∙◌, subst, arith, ◌⊎◌, inl, inr, Contains}
use Rattle.partition_table.specs.declared.Row.{Row}
use Rattle.partition_table.specs.Rows.{is_primary, is_backup, is_in}
use Rattle.partition_protocol.specs.Messages.{Message}
use Rattle.partition_protocol.specs.Node.{Pair, Earlier, Node, no_pair, opening_pair, opening_node, with_ack, settled}
use Rattle.partition_protocol.specs.Adoption.{adopted_row, is_before_reset, begun, emptied, adopt_as_primary, adopt_as_other, carried_answers, stays_primary}
use Rattle.partition_protocol.specs.Replica.{Step, taking}
use Rattle.partition_protocol.specs.History.{Base}
use Rattle.partition_protocol.specs.World.{World as Machine, is_live, pair_state}
use Rattle.partition_protocol.specs.Links.{link}
use Rattle.partition_protocol.specs.Events.{Event, Deliver, happens}
use Rattle.partition_protocol.specs.Claims.{IsLawful}
use Rattle.partition_protocol.specs.NamedStates.{IsEffect}
use Rattle.partition_protocol.specs.Beginnings.{AreCountsEffects, KnowsBeginning, KnowsEarlier}
use Rattle.partition_protocol.proofs.Lists.{In, Every, in_contains, on_cond, on_if, set_get_same}
use Rattle.partition_protocol.proofs.Histories.{base_same}
use Rattle.partition_protocol.proofs.Invariant.{NodeAt}
use Rattle.partition_protocol.proofs.RowFacts.{both_left, not_both}
use Rattle.partition_protocol.proofs.Events.{Good, happens_good}
use Rattle.partition_protocol.proofs.LinkFacts.{packet}
use Rattle.partition_protocol.proofs.States.{Grows, grown}
use Rattle.partition_protocol.proofs.NamedStates.{node_known, base_known, part_known}
use Rattle.partition_protocol.proofs.Takings.{backup_not_primary, every_taking}
use Rattle.partition_protocol.proofs.Beginnings.{counts_are_effects, knows_beginning}
use Rattle.grid_base.specs.Shelves.{Meaning}
use Rattle.partition_world.specs.InFlight.{effect_bytes, IsRing}
use Rattle.partition_world.proofs.InFlight.{effect_bytes_stay}
use Rattle.partition_world.specs.Shelves.{IsShelf}
use Rattle.partition_world.specs.Sending.{carried_of, HasNewest, IsNamed}
use Rattle.partition_world.proofs.EffectsLead.{lawful, Stood}
use Rattle.partition_world.proofs.Sending.{taking_sent, sent_named}
use Rattle.partition_world.proofs.Taking as taken

-- a node in which only acknowledgements, answers and a freeze are others keeps the same effects
pub ring_of_same : {S C State : Type 0} (k : Meaning S C State) (w : Machine C) (n a : Node) (kept : ℕ → Option (List ℕ))
    → a.known.version ≡ n.known.version → a.pair.count ≡ n.pair.count → a.adopted ≡ n.adopted → a.earlier ≡ n.earlier → IsRing k w n kept → IsRing k w a kept
ring_of_same k w n a kept version count adopted earlier ring = record {
  known = λ i bytes l r is. ring.known i bytes (omega (arith, adopted, l)) (omega (arith, count, r)) is ∙ ap (λ v. effect_bytes k w v i) (sym version);
  earlier = λ e b i bytes z c s l r is. ring.earlier e b i bytes (sym earlier ∙ z) c s l (omega (arith, adopted, r)) is;
}

-- fewer that are kept are right
pub ring_of_fewer : {S C State : Type 0} (k : Meaning S C State) (w : Machine C) (n : Node) (kept fewer : ℕ → Option (List ℕ)) → ((i : ℕ) (bytes : List ℕ) → fewer i ≡ Some bytes → kept i ≡ Some bytes) → IsRing k w n kept → IsRing k w n fewer
ring_of_fewer k w n kept fewer f ring = record {
  known = λ i bytes l r is. ring.known i bytes l r (f i bytes is);
  earlier = λ e b i bytes z c s l r is. ring.earlier e b i bytes z c s l r (f i bytes is);
}

-- nothing is adopted, counted or known of earlier at the start
pub ring_opened : {S C State : Type 0} (k : Meaning S C State) (w : Machine C) (row : Row) (m : ℕ) (kept : ℕ → Option (List ℕ)) → IsRing k w (opening_node row m) kept
ring_opened k w row m kept = record {
  known = λ i bytes l r is. absurd (let z = none in omega (arith, l, r, z));
  earlier = λ e b i bytes z c s l r is. absurd cc;
}
  where
    none : (opening_pair row m).count ≡ 0
    none = on_if (λ (p : Pair). p.count ≡ 0) (is_in row m) (record { version = 1; count = 0 }) no_pair refl refl

module _ {S C State : Type 0} (k : Meaning S C State) (limits : C → Type 0) (within : ℕ → State → Type 0) (applied : List ℕ → State → Option State) (shelf : IsShelf k limits within applied)
    (w : Machine C) (stood : Stood k.object limits within w) where
  pub law : IsLawful k.object
  law = lawful k limits within applied shelf

  pub counts : AreCountsEffects k.object w
  counts = counts_are_effects k.object w stood.good stood.led law

  -- whatever happens, the effects that a primary knows keep their bytes
  module _ (event : Event C) (m : ℕ) (n : Node) (at : NodeAt w.nodes m n) (leads : is_primary n.known m ≡ true) where
    abbrev pub next : Machine C
    next = (happens k.object w event).world

    pub good_next : Good k.object next
    good_next = happens_good k.object w stood.good.0 stood.good.1 event

    pub begins : KnowsBeginning w n
    begins = knows_beginning k.object w stood.good stood.led m n at leads

    pub known_stays : (i : ℕ) → n.adopted < i → i ≤ n.pair.count → effect_bytes k next n.known.version i ≡ effect_bytes k w n.known.version i
    known_stays i l r =
        effect_bytes_stay k law w stood.good event n.known.version i
        (part_known k.object w stood.good.0 stood.good.1 (record { version = n.known.version; count = i - 1 }) n.pair (sym begins.contents, omega (arith, r)) (node_known k.object w stood.good.0 stood.good.1 m n at))
        (counts.primaries m n i at leads l r)

    -- a base that was recorded is the only one of its version
    pub base_stays : (b before : Base) → Contains next.recorded.bases b → Contains w.recorded.bases before → b.version ≡ before.version → b ≡ before
    base_stays b before c d e = base_same next.recorded.bases (next.service.row.version + 1) b before good_next.1.frame.falling (in_contains b next.recorded.bases c) (go (grown k.object w stood.good.0 stood.good.1 event)) e
      where
        old : In before w.recorded.bases
        old = in_contains before w.recorded.bases d

        go : Grows k.object w stood.good.0 stood.good.1 next → In before next.recorded.bases
        go (inl s) = subst (In before) (sym s) old
        go (inr g) = subst (In before) (sym g.1) (inr old)

    pub earlier_stays : (e : Earlier) (b : Base) (i : ℕ) → n.earlier ≡ Some e → Contains next.recorded.bases b → b.version ≡ e.version → b.pair.count < i → i ≤ n.adopted
        → Contains w.recorded.bases b × (effect_bytes k next e.version i ≡ effect_bytes k w e.version i)
    earlier_stays e b i z c s l r = (
      subst (Contains w.recorded.bases) (sym same) knows.recorded,
      effect_bytes_stay k law w stood.good event e.version i
          (part_known k.object w stood.good.0 stood.good.1 (record { version = e.version; count = i - 1 }) began.pair (ap (λ (p : Pair). p.version) (sym knows.pair), (let count = ap (λ (p : Pair). p.count) knows.pair in omega (arith, r, count)))
          (base_known k.object w stood.good.0 stood.good.1 began (in_contains began w.recorded.bases begins.recorded)))
          (subst (λ v. IsEffect k.object w v i) (ap (λ (p : Pair). p.version) knows.pair)
          (counts.bases began knows.before i begins.recorded knows.recorded (knows.version ∙ ap (λ (p : Pair). p.version) (sym knows.pair))
          (let count = ap (λ (x : Base). x.pair.count) same in omega (arith, count, l)) (let count = ap (λ (p : Pair). p.count) knows.pair in omega (arith, r, count)))),
    )
      where
        began : Base
        began = begins.began

        knows : KnowsEarlier w n begins.began e
        knows = begins.earlier e z

        same : b ≡ knows.before
        same = base_stays b knows.before c knows.recorded (s ∙ sym knows.version)

    -- So a primary's ring stays right
    pub ring_stays : (kept : ℕ → Option (List ℕ)) → IsRing k w n kept → IsRing k next n kept
    ring_stays kept ring = record {
      known = λ i bytes l r is. ring.known i bytes l r is ∙ sym (known_stays i l r);
      earlier = λ e b i bytes z c s l r is. (let h = earlier_stays e b i z c s l r in ring.earlier e b i bytes z h.0 s l r is ∙ sym h.1);
    }

  -- a member takes a message
  module _ (f m i : ℕ) (msg : Message) (n : Node) (at : slice_get (link f m w.packets) i ≡ Some (packet f m msg)) (lives : is_live w m ≡ true) (there : NodeAt w.nodes m n) where
    abbrev pub event : Event C
    event = Deliver f m i

    abbrev pub then : Machine C
    then = (happens k.object w (Deliver f m i)).world

    abbrev pub T : Step
    T = taking w.members m f msg n

    pub node_then : NodeAt then.nodes m (settled T.node)
    node_then =
        ap (λ (u : Machine C). slice_get u.nodes m) (taken.next_is k limits within applied shelf w stood f m i msg n at lives there)
        ∙ set_get_same w.nodes m (settled T.node) n there

    module _ (kept : ℕ → Option (List ℕ)) (ring : is_primary n.known m ≡ true → IsRing k w n kept) where
      -- the ring of the node that it is then, where it is primary
      abbrev pub HasRing : Node → Type 0
      HasRing a = is_primary a.known m ≡ true → IsRing k then a kept

      pub ring_here : HasRing n
      ring_here leads = ring_stays (Deliver f m i) m n there leads kept (ring leads)

      -- a primary that begins a version has no effects of it, and of the version before those that it had
      pub ring_led : (row : Row) → HasRing (adopt_as_primary row (stays_primary row n m) (carried_answers m n) (begun row n))
      ring_led row leads = record {
        known = λ j bytes l r is. absurd (omega (arith, l, r));
        earlier = λ e b j bytes z c s l r is. earlier (stays_primary row n m) refl e b j bytes z c s l r is;
      }
        where
          earlier : (t : Bool) → stays_primary row n m ≡ t → (e : Earlier) (b : Base) (j : ℕ) (bytes : List ℕ) → cond t (Some (record { version = (begun row n).known.version; acks = (begun row n).acks })) None ≡ Some e
              → Contains then.recorded.bases b → b.version ≡ e.version → b.pair.count < j → j ≤ (begun row n).pair.count → kept j ≡ Some bytes → bytes ≡ effect_bytes k then e.version j
          earlier false t e b j bytes z c s l r is = absurd cc
          earlier true t e b j bytes z c s l r is =
              let led : is_primary n.known m ≡ true = both_left (is_primary n.known m) (not (is_before_reset row n)) t in
              let knows : KnowsBeginning w n = begins (Deliver f m i) m n there led in
              let began : begun row n ≡ n = whole t in
              let same : record { version = (begun row n).known.version; acks = (begun row n).acks } ≡ e = cc in
              let version : n.known.version ≡ e.version = ap (λ (x : Node). x.known.version) (sym began) ∙ ap (λ (x : Earlier). x.version) same in
              let old : b ≡ knows.began = base_stays (Deliver f m i) m n there led b knows.began c knows.recorded (s ∙ sym version ∙ sym knows.version) in
              let count : b.pair.count ≡ n.adopted = ap (λ (x : Base). x.pair.count) old ∙ knows.count in
              let most : (begun row n).pair.count ≡ n.pair.count = ap (λ (x : Node). x.pair.count) began in
              (ring_here led).known j bytes (omega (arith, l, count)) (omega (arith, r, most)) is ∙ ap (λ v. effect_bytes k then v j) version
            where
              whole : stays_primary row n m ≡ true → begun row n ≡ n
              whole t = go (is_before_reset row n) (is_primary n.known m) t
                where
                  go : (b c : Bool) → (c && not b) ≡ true → cond b (emptied n) n ≡ n
                  go true true e = absurd cc
                  go true false e = absurd cc
                  go false c e = refl

      pub ring_adopted : (row : Row) → HasRing (adopted_row m row n)
      ring_adopted row =
          on_cond HasRing (is_primary row m) (adopt_as_primary row (stays_primary row n m) (carried_answers m n) (begun row n)) (cond (is_backup row m) (adopt_as_other row (begun row n).pair) (adopt_as_other row no_pair))
          (λ p. ring_led row)
          (λ p. on_if HasRing (is_backup row m) (adopt_as_other row (begun row n).pair) (adopt_as_other row no_pair) (λ z. absurd (not_both (is_primary row m) z p)) (λ z. absurd (not_both (is_primary row m) z p)))

      pub ring_taking : HasRing (taking w.members m f msg n).node
      ring_taking = every_taking m f msg n HasRing (record {
        stays = λ u. ring_here;
        adopts = λ row e newer. ring_adopted row;
        syncs = λ row c a e h v b l p. absurd (backup_not_primary a.known m b p);
        bridges = λ row v c a e h z b s t p. absurd (backup_not_primary a.known m b p);
        applies = λ v j e b s t p. absurd (backup_not_primary n.known m b p);
        acks = λ v c e p z b. (λ q. ring_of_same k then n (record n { acks = with_ack f c n.acks }) kept refl refl refl refl (ring_here q));
        freezes = λ v e p z. (λ q. ring_of_same k then n (record n { frozen = true }) kept refl refl refl refl (ring_here q));
      }) w.members

      -- where it has executed since it became primary, it was primary before, and counts what it counted
      abbrev pub HasRecent : Node → Type 0
      HasRecent a = is_primary a.known m ≡ true → (a.recent ≡ 0) ⊎ ((is_primary n.known m ≡ true) × (a.recent ≡ n.recent) × (a.pair.count ≡ n.pair.count))

      pub recent_adopted : (row : Row) → HasRecent (adopted_row m row n)
      recent_adopted row =
          on_cond HasRecent (is_primary row m) (adopt_as_primary row (stays_primary row n m) (carried_answers m n) (begun row n)) (cond (is_backup row m) (adopt_as_other row (begun row n).pair) (adopt_as_other row no_pair))
          (λ p z. led (is_primary n.known m) (is_before_reset row n) refl)
          (λ p. on_if HasRecent (is_backup row m) (adopt_as_other row (begun row n).pair) (adopt_as_other row no_pair) (λ z. inl refl) (λ z. inl refl))
        where
          led : (c b : Bool) → is_primary n.known m ≡ c
              → (cond (c && not b) (cond b (emptied n) n).recent 0 ≡ 0) ⊎ ((is_primary n.known m ≡ true) × (cond (c && not b) (cond b (emptied n) n).recent 0 ≡ n.recent) × ((cond b (emptied n) n).pair.count ≡ n.pair.count))
          led true true e = inl refl
          led true false e = inr (e, refl, refl)
          led false b e = inl refl

      pub recent_taking : HasRecent (taking w.members m f msg n).node
      recent_taking = every_taking m f msg n HasRecent (record {
        stays = λ u p. inr (p, refl, refl);
        adopts = λ row e newer. recent_adopted row;
        syncs = λ row c a e h v b l p. absurd (backup_not_primary a.known m b p);
        bridges = λ row v c a e h z b s t p. absurd (backup_not_primary a.known m b p);
        applies = λ v j e b s t p. absurd (backup_not_primary n.known m b p);
        acks = λ v c e p z b q. inr (q, refl, refl);
        freezes = λ v e p z q. inr (q, refl, refl);
      }) w.members

      -- so it keeps its newest effects, where it keeps those that it kept
      pub newest_taken : (is_primary n.known m ≡ true → HasNewest n kept) → (fewer : ℕ → Option (List ℕ)) → ((j : ℕ) (bytes : List ℕ) → 1 ≤ T.node.recent → kept j ≡ Some bytes → fewer j ≡ Some bytes)
          → is_primary T.node.known m ≡ true → HasNewest T.node fewer
      newest_taken newest fewer on leads j l r = go (recent_taking leads)
        where
          go : (T.node.recent ≡ 0) ⊎ ((is_primary n.known m ≡ true) × (T.node.recent ≡ n.recent) × (T.node.pair.count ≡ n.pair.count)) → (bytes : List ℕ) × (fewer j ≡ Some bytes)
          go (inl z) = absurd (omega (arith, z, l, r))
          go (inr (p, z, c)) = let is = newest p j (omega (arith, z, c, l)) (omega (arith, c, r)) in (is.0, on j is.0 (omega (arith, l, r)) is.1)

      -- What it keeps then are some of the effects that it kept, and right
      pub ring_taken : (fewer : ℕ → Option (List ℕ)) → ((j : ℕ) (bytes : List ℕ) → fewer j ≡ Some bytes → kept j ≡ Some bytes) → is_primary (settled T.node).known m ≡ true → IsRing k then (settled T.node) fewer
      ring_taken fewer some leads = ring_of_fewer k then (settled T.node) kept fewer some (ring_of_same k then (taking w.members m f msg n).node (settled (taking w.members m f msg n).node) kept refl refl refl refl (ring_taking leads))

      -- and what goes with what it sends is what the world names then
      module _ (stood_then : Stood k.object limits within then) (fewer : ℕ → Option (List ℕ)) (some : (j : ℕ) (bytes : List ℕ) → fewer j ≡ Some bytes → kept j ≡ Some bytes)
          (newest : is_primary T.node.known m ≡ true → HasNewest T.node fewer) (state : State) (has : state ≡ pair_state k.object then T.node.pair) where
        pub taken_named : Every (IsNamed k then (carried_of k.snapshot_of state fewer)) T.sent
        taken_named = sent_named k limits within applied shelf then stood_then m (settled T.node) node_then fewer (ring_taken fewer some) newest state has T.sent (taking_sent m w.members f n msg)
