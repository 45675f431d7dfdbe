-- What a member's taking of a message leaves is what its pair names then.
use Rattle.std.proofs.Common.{◌≡◌, ℕ, ◌+◌, ◌-◌, Bool, true, false, cond, not, ◌&&◌, ◌||◌, ◌==◌, nat_lt, nat_le, List, ◌∷◌, ◌++◌, Option, Some, is_some, slice_get, refl, ap, sym, ◌∙◌, subst, arith, ◌⊎◌, inl, inr, append-nil}
use Rattle.grid_base.specs.Objects.{Object, IsSmall}
use Rattle.partition_table.specs.declared.Row.{Row}
use Rattle.partition_table.specs.Rows.{is_primary, is_backup, is_in, numbers_of}
use Rattle.partition_protocol.specs.Messages.{Message, NewRow, Sync, Effect, Bridge, Ack, Joined, Freeze, Frozen}
use Rattle.partition_protocol.specs.Took.{Adopted, Synced, Applied, Bridged as TookBridged, Acked, Frozen as TookFrozen, Already, Gap, Other, Stale}
use Rattle.partition_protocol.specs.Node.{Pair, Node, no_pair, with_ack, settled}
use Rattle.partition_protocol.specs.Adoption.{adopted_row, is_before_reset, adopt_as_other, sent_on_adopting}
use Rattle.partition_protocol.specs.Replica.{Step, is_newer, after_row, sent_by_row, with_sent, with_pair, unanswered, acknowledging, is_ahead, sync_backup, bridge_backup, on_row, on_sync, on_bridge, on_effect, on_ack, on_freeze, taking}
use Rattle.partition_protocol.specs.History.{Base, begins_anew, history, state_after}
use Rattle.partition_protocol.specs.World.{World as Machine, is_live, pair_state}
use Rattle.partition_protocol.specs.Links.{link, taken_out, with_packets}
use Rattle.partition_protocol.specs.Events.{Event, Deliver, Happened, delivered, happens}
use Rattle.partition_protocol.specs.Claims.{IsLawful}
use Rattle.partition_protocol.proofs.Lists.{In, on_cond, cases}
use Rattle.partition_protocol.proofs.Histories.{Falling, start_of, history_at}
use Rattle.partition_protocol.proofs.Invariant.{NodeAt, PacketOk}
use Rattle.partition_protocol.proofs.RowFacts.{less, not_less, is_not_less, same_number, other_number, number_other, both_left, both_right, not_false, first_among}
use Rattle.partition_protocol.proofs.Adopt.{adopted_anew, adopted_backup, adopted_emptied, adopted_idle}
use Rattle.partition_protocol.proofs.Events.{Good, happens_good}
use Rattle.partition_protocol.proofs.EventCases.{place_in}
use Rattle.partition_protocol.proofs.EventFacts.{deliver_live}
use Rattle.partition_protocol.proofs.LinkFacts.{packet}
use Rattle.partition_protocol.proofs.NamedStates.{IsKnown, flies, node_known, sync_known, effect_known, bridge_known, bridge_joins, state_after_event}
use Rattle.partition_protocol.proofs.States.{none_yet, empty_new, pair_same}
use Rattle.partition_protocol.proofs.Takings.{brought, taking_known}
use Rattle.partition_protocol.proofs.Safe.{base_positive, history_none}
use Rattle.member_wire.specs.Said.{said_with}
use Rattle.member_wire.specs.declared.message.MemberMessage.{MemberMessage}
use Rattle.grid_base.specs.Shelves.{Meaning}
use Rattle.partition_world.specs.InFlight.{state_at, effect_bytes, contents_in}
use Rattle.partition_world.specs.Shelves.{IsShelf, IsLeading}
use Rattle.replica_node.specs.Takings.{state_in, state_after_row, Leaves, IsFit}
use Rattle.partition_world.proofs.EffectsLead.{lawful, Stood, flying_leads}

-- a member's number isn't the service's
pub member_apart : {C : Type 0} (w : Machine C) (m : ℕ) → is_live w m ≡ true → (m == w.members) ≡ false
member_apart w m e = let l = less m w.members (both_left (nat_lt m w.members) (not _) e) in number_other m w.members (omega (arith, l))

-- the pair with which a version began that isn't begun anew names its first state
pub begun_whole : {C State : Type 0} (o : Object C State) (w : Machine C) (good : Good o w) (b : Base) (n : ℕ) → Falling n (b ∷ w.recorded.bases) → begins_anew b ≡ false
    → state_after o o.empty (history w.recorded.openings w.recorded.log (b ∷ w.recorded.bases) (record { version = b.version; count = b.pair.count })) ≡ pair_state o w b.pair
begun_whole o w good b n f e =
    let begins : start_of w.recorded.openings w.recorded.log b w.recorded.bases ≡ history w.recorded.openings w.recorded.log w.recorded.bases b.pair = rw e refl in
    ap (state_after o o.empty) (history_at w.recorded.openings w.recorded.log b w.recorded.bases (record { version = b.version; count = b.pair.count }) refl
    ∙ ap (λ es. start_of w.recorded.openings w.recorded.log b w.recorded.bases ++ es) (none_yet o w good.0 good.1 b b.pair.count n f)
    ∙ append-nil (start_of w.recorded.openings w.recorded.log b w.recorded.bases) ∙ begins)

-- no version began with nothing's pair
pub none_empty : {C State : Type 0} (o : Object C State) (w : Machine C) → Good o w → pair_state o w no_pair ≡ o.empty
none_empty o w good = ap (state_after o o.empty) (history_none w.recorded.openings w.recorded.log w.recorded.bases no_pair (λ b i e. (let l = base_positive o w good.0 good.1 b i in omega (arith, l, e))))

-- what is left is the one state that the message leaves
pub record IsLeft {State : Type 0} (Left : State → Type 0) (after : State) : Type 0 where
  pub leaves : Left after
  pub only : (new : State) → Left new → new ≡ after

pub left_same : {State : Type 0} (after x : State) → after ≡ x → IsLeft (λ new. new ≡ x) after
left_same after x e = record { leaves = e; only = λ new h. h ∙ sym e }

module _ {S C State : Type 0} (k : Meaning S C State) (limits : C → Type 0) (within : ℕ → State → Type 0) (applied : List ℕ → State → Option State) (shelf : IsShelf k limits within applied)
    (w : Machine C) (stood : Stood k.object limits within w) (f m i : ℕ) (msg : Message) (n : Node) (at : slice_get (link f m w.packets) i ≡ Some (packet f m msg)) (lives : is_live w m ≡ true) (there : NodeAt w.nodes m n) where
  abbrev pub event : Event C
  event = Deliver f m i

  abbrev pub next : Machine C
  next = (happens k.object w event).world

  abbrev pub T : Step
  T = taking w.members m f msg n

  pub law : IsLawful k.object
  law = lawful k limits within applied shelf

  pub happened : happens k.object w event ≡ delivered (with_packets w (taken_out f m i w.packets)) (packet f m msg) n
  happened = deliver_live k.object w f m i msg at n (member_apart w m lives) lives there

  pub next_is : next ≡ (delivered (with_packets w (taken_out f m i w.packets)) (packet f m msg) n).world
  next_is = ap (λ (h : Happened C). h.world) happened

  pub good_next : Good k.object next
  good_next = happens_good k.object w stood.good.0 stood.good.1 event

  pub flew : In (packet f m msg) w.packets
  flew = place_in f m i w.packets (packet f m msg) at

  pub said_ok : PacketOk w.nodes w.recorded.bases stood.good.0 w.crashed f msg
  said_ok = flies k.object w stood.good.0 stood.good.1 (packet f m msg) flew

  pub stays : (p : Pair) → IsKnown w p → pair_state k.object next p ≡ pair_state k.object w p
  stays p known = state_after_event k.object w stood.good.0 stood.good.1 law p known event

  pub pair_stays : pair_state k.object next n.pair ≡ pair_state k.object w n.pair
  pair_stays = stays n.pair (node_known k.object w stood.good.0 stood.good.1 m n there)

  -- the contents of any member stay those that its pair named
  pub node_stays : (q : ℕ) (x : Node) → NodeAt w.nodes q x → pair_state k.object next x.pair ≡ pair_state k.object w x.pair
  node_stays q x z = stays x.pair (node_known k.object w stood.good.0 stood.good.1 q x z)

  -- a row that it brings

  module _ (row : Row) (brings : brought msg ≡ Some row) (newer : is_newer row n ≡ true) where
    module _ (leads : is_primary row m ≡ true) where
      abbrev pub base : Base
      base = record { version = row.version; reset = row.reset; pair = cond (is_before_reset row n) no_pair n.pair }

      pub bases_next : next.recorded.bases ≡ base ∷ w.recorded.bases
      bases_next =
          ap (λ (u : Machine C). u.recorded.bases) next_is
          ∙ ap (λ (r : Row). cond (is_newer r n && is_primary r m) (record { version = r.version; reset = r.reset; pair = cond (is_before_reset r n) no_pair n.pair } ∷ w.recorded.bases) w.recorded.bases) (taking_known w.members m f msg n row brings newer)
          ∙ rw (newer, leads) refl

      pub falls : Falling (next.service.row.version + 1) (base ∷ w.recorded.bases)
      falls = subst (Falling (next.service.row.version + 1)) bases_next good_next.1.frame.falling

      pub state_next : (p : Pair) → pair_state k.object next p ≡ state_after k.object k.object.empty (history w.recorded.openings w.recorded.log (base ∷ w.recorded.bases) p)
      state_next p =
          ap (λ bs. state_after k.object k.object.empty (history next.recorded.openings next.recorded.log bs p)) bases_next
          ∙ ap (λ (u : Machine C). state_after k.object k.object.empty (history u.recorded.openings u.recorded.log (base ∷ w.recorded.bases) p)) next_is

      pub leads_anew : is_before_reset row n ≡ true → pair_state k.object next (record { version = row.version; count = 0 }) ≡ k.object.empty
      leads_anew e =
          state_next (record { version = row.version; count = 0 }) ∙ empty_new k.object w stood.good.0 stood.good.1 base (next.service.row.version + 1) falls anew stood.opened
        where
          reset : (row.reset == 0) ≡ false
          reset = let l = less n.pair.version row.reset e in number_other row.reset 0 (omega (arith, l))

          anew : begins_anew base ≡ true
          anew = rw (e, reset) refl

      pub leads_on : is_before_reset row n ≡ false → pair_state k.object next (record { version = row.version; count = n.pair.count }) ≡ pair_state k.object w n.pair
      leads_on e =
          state_next (record { version = row.version; count = n.pair.count })
          ∙ ap (λ c. state_after k.object k.object.empty (history w.recorded.openings w.recorded.log (base ∷ w.recorded.bases) (record { version = row.version; count = c }))) (ap (λ (p : Pair). p.count) (sym whole))
          ∙ begun_whole k.object w stood.good base (next.service.row.version + 1) falls anew ∙ ap (pair_state k.object w) whole
        where
          whole : base.pair ≡ n.pair
          whole = rw e refl

          by_number : (r v c : ℕ) → nat_lt v r ≡ false → (not (r == 0) && (v == 0) && (c == 0)) ≡ false
          by_number r v c z = go (cases (r == 0)) (cases (v == 0))
            where
              go : ((r == 0) ≡ true) ⊎ ((r == 0) ≡ false) → ((v == 0) ≡ true) ⊎ ((v == 0) ≡ false) → (not (r == 0) && (v == 0) && (c == 0)) ≡ false
              go (inl e) h = rw e refl
              go (inr e) (inr h) = rw (e, h) refl
              go (inr e) (inl h) = let l = not_less v r z in let none = same_number v 0 h in absurd (other_number r 0 e (omega (arith, l, none)))

          anew : begins_anew base ≡ false
          anew = ap (λ (p : Pair). not (row.reset == 0) && (p.version == 0) && (p.count == 0)) whole ∙ by_number row.reset n.pair.version n.pair.count e

    pub adopted_state : pair_state k.object next (adopted_row m row n).pair ≡ state_in k.object.empty m row n (pair_state k.object w n.pair)
    adopted_state = by_role (cases (is_primary row m)) (cases (is_in row m)) (cases (is_before_reset row n))
      where
        old : State
        old = pair_state k.object w n.pair

        named : (a : Node) → adopted_row m row n ≡ a → pair_state k.object next (adopted_row m row n).pair ≡ pair_state k.object next a.pair
        named a e = ap (λ (x : Node). pair_state k.object next x.pair) e

        kept : (b c : Bool) → is_before_reset row n ≡ b → is_in row m ≡ c → state_in k.object.empty m row n old ≡ cond (b || not c) k.object.empty old
        kept b c e z = rw (e, z) refl

        within_row : is_primary row m ≡ true → is_in row m ≡ true
        within_row p = first_among (numbers_of row) m p

        dropped : (b c : Bool) → is_before_reset row n ≡ b → is_in row m ≡ c → (b || not c) ≡ true → adopted_row m row n ≡ adopt_as_other row no_pair → pair_state k.object next (adopted_row m row n).pair ≡ state_in k.object.empty m row n old
        dropped b c e z d a = named (adopt_as_other row no_pair) a ∙ none_empty k.object next good_next ∙ sym (kept b c e z ∙ rw d refl)

        by_role : (is_primary row m ≡ true) ⊎ (is_primary row m ≡ false) → (is_in row m ≡ true) ⊎ (is_in row m ≡ false) → (is_before_reset row n ≡ true) ⊎ (is_before_reset row n ≡ false)
            → pair_state k.object next (adopted_row m row n).pair ≡ state_in k.object.empty m row n old
        by_role (inl p) z (inl e) = ap (λ (x : Node). pair_state k.object next x.pair) (adopted_anew m row n p e) ∙ leads_anew p e ∙ sym (kept true true e (within_row p))
        by_role (inl p) z (inr e) = ap (pair_state k.object next) led ∙ leads_on p e ∙ sym (kept false true e (within_row p))
          where
            led : (adopted_row m row n).pair ≡ record { version = row.version; count = n.pair.count }
            led = rw (p, e) refl
        by_role (inr p) (inl z) (inl e) = dropped true true e z refl (adopted_emptied m row n p z e)
        by_role (inr p) (inl z) (inr e) = named (adopt_as_other row n.pair) (adopted_backup m row n p z e) ∙ pair_stays ∙ sym (kept false true e z)
        by_role (inr p) (inr z) (inl e) = dropped true false e z refl (adopted_idle m row n p z)
        by_role (inr p) (inr z) (inr e) = dropped false false e z refl (adopted_idle m row n p z)

  pub after_row_state : (row : Row) → brought msg ≡ Some row → pair_state k.object next (after_row m row n).pair ≡ state_after_row k.object.empty m row n (pair_state k.object w n.pair)
  after_row_state row brings = go (cases (is_newer row n))
    where
      go : (is_newer row n ≡ true) ⊎ (is_newer row n ≡ false) → pair_state k.object next (after_row m row n).pair ≡ state_after_row k.object.empty m row n (pair_state k.object w n.pair)
      go (inl e) = (let a : after_row m row n ≡ adopted_row m row n = rw e refl in ap (λ (x : Node). pair_state k.object next x.pair) a) ∙ adopted_state row brings e ∙ sym (rw e refl)
      go (inr e) = (let a : after_row m row n ≡ n = rw e refl in ap (λ (x : Node). pair_state k.object next x.pair) a) ∙ pair_stays ∙ sym (rw e refl)

  -- what the message leaves

  abbrev pub heard : MemberMessage
  heard = said_with (contents_in k w) msg

  abbrev pub old : State
  old = pair_state k.object w n.pair

  -- an effect that is applied
  pub applied_state : (v j : ℕ) → msg ≡ Effect v j → n.pair.version ≡ v → j ≡ n.pair.count + 1
      → (applied (effect_bytes k w v j) old ≡ Some (state_at k next v j))
  applied_state v j e version count =
      let leads : IsLeading k applied w v j = flying_leads k limits within applied shelf w stood (packet f m msg) v j flew e in
      let ok : PacketOk w.nodes w.recorded.bases stood.good.0 w.crashed f (Effect v j) = subst (PacketOk w.nodes w.recorded.bases stood.good.0 w.crashed f) e said_ok in
      let before : n.pair ≡ record { version = v; count = j - 1 } = pair_same n.pair (record { version = v; count = j - 1 }) version (omega (arith, count)) in
      ap (λ p. applied (effect_bytes k w v j) (pair_state k.object w p)) before ∙ leads.leads
      ∙ ap Some (sym (stays (record { version = v; count = j }) (effect_known k.object w stood.good.0 stood.good.1 f v j ok).1))

  -- whole contents that are installed
  pub synced_state : (row : Row) (c : ℕ) → msg ≡ Sync row c → state_at k next row.version c ≡ state_at k w row.version c
  synced_state row c e =
      let ok : PacketOk w.nodes w.recorded.bases stood.good.0 w.crashed f (Sync row c) = subst (PacketOk w.nodes w.recorded.bases stood.good.0 w.crashed f) e said_ok in
      stays (record { version = row.version; count = c }) (sync_known k.object w stood.good.0 stood.good.1 f row c ok)

  -- contents that go on in the row's version
  pub bridged_state : (row : Row) (e c : ℕ) (p : Pair) → msg ≡ Bridge row e c → p.version ≡ e → p.count ≡ c → state_at k next row.version c ≡ pair_state k.object next p
  bridged_state row e c p said version count =
      let ok : PacketOk w.nodes w.recorded.bases stood.good.0 w.crashed f (Bridge row e c) = subst (PacketOk w.nodes w.recorded.bases stood.good.0 w.crashed f) said said_ok in
      let known = bridge_known k.object w stood.good.0 stood.good.1 f row e c ok in
      stays (record { version = row.version; count = c }) known.1
      ∙ bridge_joins k.object w stood.good.0 stood.good.1 stood.bridged (packet f m msg) row e c flew said
      ∙ sym (stays (record { version = e; count = c }) known.0)
      ∙ ap (pair_state k.object next) (sym (pair_same p (record { version = e; count = c }) version count))

  -- all that a step leaves is right, and it asks for no more than there is
  pub record IsRight (x : Message) (s : Step) : Type 0 where
    pub left : IsLeft (Leaves within k.object.empty applied k.snapshot_of m n (said_with (contents_in k w) x) s.took old) (pair_state k.object next s.node.pair)
    pub fit : IsFit within applied k.snapshot_of (said_with (contents_in k w) x) s.took old

  pub row_right : (row : Row) → msg ≡ NewRow row → IsRight (NewRow row) (on_row m row n)
  row_right row e =
      on_cond (IsRight (NewRow row)) (is_newer row n) (record { node = adopted_row m row n; sent = sent_on_adopting m (adopted_row m row n); took = Adopted }) (unanswered n Stale)
      (λ z. record { left = left_same (pair_state k.object next (adopted_row m row n).pair) (state_after_row k.object.empty m row n old) (adopted_state row (ap brought e) z ∙ sym (rw z refl)); fit = tt })
      (λ z. record { left = left_same (pair_state k.object next n.pair) (state_after_row k.object.empty m row n old) (pair_stays ∙ sym (rw z refl)); fit = tt })

  -- a row that isn't newer leaves what there was
  pub same_row : (row : Row) → nat_lt row.version n.known.version ≡ true → pair_state k.object next n.pair ≡ state_after_row k.object.empty m row n old
  same_row row e =
      let older : is_newer row n ≡ false = is_not_less n.known.version row.version (let l = less row.version n.known.version e in omega (arith, l)) in
      pair_stays ∙ sym (rw older refl)

  pub sync_right : (row : Row) (c : ℕ) → msg ≡ Sync row c → IsRight (Sync row c) (on_sync m f row c n)
  sync_right row c e =
      on_cond (IsRight (Sync row c)) (nat_lt row.version n.known.version) (unanswered n Other) (with_sent (sent_by_row m row n) (cond (is_backup a.known m) (sync_backup f row c a) (unanswered a Other)))
      (λ z. record { left = left_same (pair_state k.object next n.pair) (state_after_row k.object.empty m row n old) (same_row row z); fit = fit })
      (λ z. on_cond (λ (s : Step). IsRight (Sync row c) (with_sent (sent_by_row m row n) s)) (is_backup a.known m) (sync_backup f row c a) (unanswered a Other)
      (λ b. on_cond (λ (s : Step). IsRight (Sync row c) (with_sent (sent_by_row m row n) s)) (is_ahead row c a) (acknowledging (with_pair a row.version c) f Synced) (acknowledging a f Already)
      (λ h. record { left = record { leaves = installed; only = λ new left. left (state_at k w row.version c) small refl ∙ sym synced }; fit = fit })
      (λ h. record { left = rested; fit = fit })) (λ b. record { left = rested; fit = fit }))
    where
      a : Node
      a = after_row m row n

      small : IsSmall within (state_at k w row.version c)
      small = stood.small (record { version = row.version; count = c })

      fit : (x : State) × IsSmall within x × (k.snapshot_of x ≡ k.snapshot_of (state_at k w row.version c))
      fit = (state_at k w row.version c, small, refl)

      synced : state_at k next row.version c ≡ state_at k w row.version c
      synced = synced_state row c e

      installed : (x : State) → IsSmall within x → k.snapshot_of x ≡ k.snapshot_of (state_at k w row.version c) → state_at k next row.version c ≡ x
      installed x s z = synced ∙ shelf.one_spelling (state_at k w row.version c) x small s (sym z)

      rested : IsLeft (λ new. new ≡ state_after_row k.object.empty m row n old) (pair_state k.object next (after_row m row n).pair)
      rested = left_same (pair_state k.object next (after_row m row n).pair) (state_after_row k.object.empty m row n old) (after_row_state row (ap brought e))

  pub bridge_right : (row : Row) (v c : ℕ) → msg ≡ Bridge row v c → IsRight (Bridge row v c) (on_bridge m f row v c n)
  bridge_right row v c e =
      on_cond (IsRight (Bridge row v c)) (nat_lt row.version n.known.version) (unanswered n Other) (with_sent (sent_by_row m row n) (cond (is_backup a.known m) (bridge_backup f row v c a) (unanswered a Other)))
      (λ z. record { left = left_same (pair_state k.object next n.pair) (state_after_row k.object.empty m row n old) (same_row row z); fit = tt })
      (λ z. on_cond (λ (s : Step). IsRight (Bridge row v c) (with_sent (sent_by_row m row n) s)) (is_backup a.known m) (bridge_backup f row v c a) (unanswered a Other)
      (λ b. on_cond (λ (s : Step). IsRight (Bridge row v c) (with_sent (sent_by_row m row n) s)) (a.pair.version == row.version) (acknowledging a f Already)
      (cond ((a.pair.version == v) && (a.pair.count == c)) (acknowledging (with_pair a row.version c) f TookBridged) (unanswered a Gap))
      (λ h. rested)
      (λ h. on_cond (λ (s : Step). IsRight (Bridge row v c) (with_sent (sent_by_row m row n) s)) ((a.pair.version == v) && (a.pair.count == c)) (acknowledging (with_pair a row.version c) f TookBridged) (unanswered a Gap)
      (λ t. record { left = left_same (state_at k next row.version c) (state_after_row k.object.empty m row n old) (goes_on t); fit = tt })
      (λ t. rested_gap))) (λ b. rested_other))
    where
      a : Node
      a = after_row m row n

      there_then : pair_state k.object next (after_row m row n).pair ≡ state_after_row k.object.empty m row n old
      there_then = after_row_state row (ap brought e)

      goes_on : ((a.pair.version == v) && (a.pair.count == c)) ≡ true → state_at k next row.version c ≡ state_after_row k.object.empty m row n old
      goes_on t =
          bridged_state row v c (after_row m row n).pair e (same_number a.pair.version v (both_left (a.pair.version == v) (a.pair.count == c) t)) (same_number a.pair.count c (both_right (a.pair.version == v) (a.pair.count == c) t))
          ∙ there_then

      same : IsLeft (λ new. new ≡ state_after_row k.object.empty m row n old) (pair_state k.object next (after_row m row n).pair)
      same = left_same (pair_state k.object next (after_row m row n).pair) (state_after_row k.object.empty m row n old) there_then

      rested : IsRight (Bridge row v c) (with_sent (sent_by_row m row n) (acknowledging (after_row m row n) f Already))
      rested = record { left = same; fit = tt }

      rested_gap : IsRight (Bridge row v c) (with_sent (sent_by_row m row n) (unanswered (after_row m row n) Gap))
      rested_gap = record { left = same; fit = tt }

      rested_other : IsRight (Bridge row v c) (with_sent (sent_by_row m row n) (unanswered (after_row m row n) Other))
      rested_other = record { left = same; fit = tt }

  -- what leaves the node's pair
  pub unmoved : IsLeft (λ new. new ≡ old) (pair_state k.object next n.pair)
  unmoved = left_same (pair_state k.object next n.pair) old pair_stays

  pub effect_right : (v j : ℕ) → msg ≡ Effect v j → IsRight (Effect v j) (on_effect m f v j n)
  effect_right v j e =
      on_cond (IsRight (Effect v j)) (not (is_backup n.known m && (n.pair.version == v))) (unanswered n Other) (cond (j == n.pair.count + 1) (acknowledging (with_pair n v j) f Applied) (cond (nat_le j n.pair.count) (acknowledging n f Already) (unanswered n Gap)))
      (λ z. record { left = unmoved; fit = λ t. absurd cc })
      (λ z. on_cond (IsRight (Effect v j)) (j == n.pair.count + 1) (acknowledging (with_pair n v j) f Applied) (cond (nat_le j n.pair.count) (acknowledging n f Already) (unanswered n Gap))
      (λ h. taken (same_number n.pair.version v (both_right (is_backup n.known m) (n.pair.version == v) (not_false (is_backup n.known m && (n.pair.version == v)) z))) (same_number j (n.pair.count + 1) h))
      (λ h. on_cond (IsRight (Effect v j)) (nat_le j n.pair.count) (acknowledging n f Already) (unanswered n Gap) (λ t. record { left = unmoved; fit = λ e. absurd cc }) (λ t. record { left = unmoved; fit = λ e. absurd cc })))
    where
      taken : n.pair.version ≡ v → j ≡ n.pair.count + 1 → IsRight (Effect v j) (acknowledging (with_pair n v j) f Applied)
      taken version count =
          let made : applied (effect_bytes k w v j) old ≡ Some (state_at k next v j) = applied_state v j e version count in
          record {
            left = record { leaves = made; only = λ new h. (let same : Some new ≡ Some (state_at k next v j) = sym h ∙ made in cc) };
            fit = λ t. ap is_some made;
          }

  pub ack_right : (v c : ℕ) → IsRight (Ack v c) (on_ack w.members m f v c n)
  ack_right v c =
      on_cond (IsRight (Ack v c)) (is_primary n.known m && (n.known.version == v) && is_backup n.known f)
      (record { node = record n { acks = with_ack f c n.acks }; sent = _; took = Acked }) (unanswered n Stale)
      (λ z. record { left = unmoved; fit = tt }) (λ z. record { left = unmoved; fit = tt })

  pub freeze_right : (v : ℕ) → IsRight (Freeze v) (on_freeze w.members m v n)
  freeze_right v =
      on_cond (IsRight (Freeze v)) (is_primary n.known m && (n.known.version == v)) (record { node = record n { frozen = true }; sent = _; took = TookFrozen }) (unanswered n Stale)
      (λ z. record { left = unmoved; fit = tt }) (λ z. record { left = unmoved; fit = tt })

  pub right_by : (x : Message) → msg ≡ x → IsRight x (taking w.members m f x n)
  right_by (NewRow row) e = row_right row e
  right_by (Sync row c) e = sync_right row c e
  right_by (Bridge row v c) e = bridge_right row v c e
  right_by (Effect v j) e = effect_right v j e
  right_by (Ack v c) e = ack_right v c
  right_by (Freeze v) e = freeze_right v
  right_by (Joined v b) e = record { left = unmoved; fit = tt }
  right_by (Frozen v) e = record { left = unmoved; fit = tt }

  pub right : IsRight msg T
  right = right_by msg refl

  -- A shelf that has what the message leaves has what the member's pair names then
  pub left_named : (new : State) → Leaves within k.object.empty applied k.snapshot_of m n heard T.took old new → new ≡ pair_state k.object next (settled T.node).pair
  left_named new left = right.left.only new left

  -- and what the pair names is what the message leaves
  pub named_left : Leaves within k.object.empty applied k.snapshot_of m n heard T.took old (pair_state k.object next (settled T.node).pair)
  named_left = right.left.leaves

  -- the message fits the old state
  pub fits : IsFit within applied k.snapshot_of heard T.took old
  fits = right.fit
