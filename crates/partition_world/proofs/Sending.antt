-- What goes with each message that is sent is what the world names then.
use Rattle.std.proofs.Common.{◌≡◌, ℕ, ◌+◌, min, ◌<◌, ◌≤◌, Bool, true, false, cond, not, ◌&&◌, ◌||◌, ◌==◌, nat_lt, nat_le, List, [], ◌∷◌, ◌++◌, map, Option, Some, is_some, unwrap_or, flat_map, refl, ap, sym, ◌∙◌, subst, arith, ◌⊎◌, inl, inr}
use Rattle.partition_table.specs.declared.Row.{Row}
use Rattle.partition_table.specs.declared.RowMember.{RowMember}
use Rattle.partition_table.specs.Rows.{is_primary, is_backup, is_eligible, backups_of, is_empty}
use Rattle.partition_protocol.specs.Messages.{Message, NewRow, Sync, Effect, Bridge, Ack, Joined, Freeze, Frozen, Sent}
use Rattle.partition_protocol.specs.Took.{Synced, Applied, Bridged as TookBridged, Already, Gap, Other, Stale, Adopted, Acked, Frozen as TookFrozen}
use Rattle.partition_protocol.specs.Node.{Pair, Acknowledged, Earlier, Node, acked, acked_by, with_ack, settled}
use Rattle.partition_protocol.specs.CatchUp.{recent_limit, heard, catch_up, catch_up_by}
use Rattle.partition_protocol.specs.Adoption.{adopted_row, sent_on_adopting}
use Rattle.partition_protocol.specs.Replica.{Step, is_newer, after_row, sent_by_row, with_sent, with_pair, unanswered, acknowledging, to_one, is_ahead, sync_backup, bridge_backup, on_sync, on_bridge, on_effect, on_ack, on_freeze, joined_note, frozen_note, taking, lags, joined_again, sent_again}
use Rattle.partition_protocol.specs.Service.{Service, Move, NoMove, Joining, Joined as JoinedMove, Freezing, Drained, telling, freezing_again, freeze_of, undetected}
use Rattle.partition_protocol.specs.World.{World as Machine, pair_state}
use Rattle.partition_protocol.specs.Beginnings.{KnowsBeginning, KnowsEarlier}
use Rattle.partition_protocol.proofs.Lists.{In, contains_in, Every, every_append, every_in, every_from_in, every_flat_map, every_if, on_cond, on_if}
use Rattle.partition_protocol.proofs.Invariant.{NodeAt}
use Rattle.partition_protocol.proofs.Release.{acked_by_in}
use Rattle.partition_protocol.proofs.Answers.{map_in}
use Rattle.partition_protocol.proofs.Says.{IsLater, Says, SaysSent, backup_sends_none, catch_up_says}
use Rattle.partition_protocol.proofs.Effects.{heard_from}
use Rattle.partition_protocol.proofs.Beginnings.{knows_beginning, IsRecent, from_catch_up}
use Rattle.member_wire.specs.Said.{Contents, said_with, written}
use Rattle.member_wire.specs.Spelling.{spelling}
use Rattle.grid_base.specs.Shelves.{Meaning}
use Rattle.partition_world.specs.InFlight.{state_at, effect_bytes, contents_in, IsRing}
use Rattle.partition_world.specs.Shelves.{IsShelf}
use Rattle.partition_world.specs.Sending.{carried_of, HasNewest, IsNamed}
use Rattle.partition_world.proofs.EffectsLead.{lawful, Stood}

-- no contents go with the message
abbrev pub IsBare : Message → Type 0
IsBare (Sync row c) = ⊥
IsBare (Effect v i) = ⊥
IsBare (NewRow row) = Unit {0}
IsBare (Bridge row e k) = Unit {0}
IsBare (Ack v c) = Unit {0}
IsBare (Joined v b) = Unit {0}
IsBare (Freeze v) = Unit {0}
IsBare (Frozen v) = Unit {0}

-- Member m, whose node this is, sends bare messages, and as primary the catch-up of each backup
abbrev pub IsBareOrCatchUp : ℕ → Node → Sent → Type 0
IsBareOrCatchUp m node sent =
    IsBare sent.message ⊎ ((is_primary node.known m ≡ true) × (b : RowMember) × In b (backups_of node.known) × In sent (catch_up node b))

-- a bare message says the same with any contents
pub bare_same : (c d : Contents) (x : Message) → IsBare x → said_with c x ≡ said_with d x
bare_same c d (NewRow row) h = refl
bare_same c d (Sync row n) h = absurd h
bare_same c d (Effect v i) h = absurd h
bare_same c d (Bridge row e n) h = refl
bare_same c d (Ack v n) h = refl
bare_same c d (Joined v b) h = refl
bare_same c d (Freeze v) h = refl
bare_same c d (Frozen v) h = refl

-- what is written then are the bytes that the world names
pub named_written : {S C State : Type 0} (k : Meaning S C State) (w : Machine C) (contents : Contents) (ss : List Sent) → Every (IsNamed k w contents) ss → map (written contents) ss ≡ map (written (contents_in k w)) ss
named_written k w contents [] h = refl
named_written k w contents (s ∷ ss) h =
    ap (λ m. (s.to, spelling m) ∷ map (written contents) ss) h.0 ∙ ap (λ rest. written (contents_in k w) s ∷ rest) (named_written k w contents ss h.1)

pub bare_named : {S C State : Type 0} (k : Meaning S C State) (w : Machine C) (contents : Contents) (ss : List Sent) → Every (λ (s : Sent). IsBare s.message) ss → Every (IsNamed k w contents) ss
bare_named k w contents [] h = tt
bare_named k w contents (s ∷ ss) h = (bare_same contents (contents_in k w) s.message h.0, bare_named k w contents ss h.1)

-- of the world's own contents
pub named_itself : {S C State : Type 0} (k : Meaning S C State) (w : Machine C) (ss : List Sent) → Every (IsNamed k w (contents_in k w)) ss
named_itself k w [] = tt
named_itself k w (s ∷ ss) = (refl, named_itself k w ss)

-- what a member sends

module _ (m : ℕ) where
  pub catch_up_sent : (a : Node) (b : RowMember) → is_primary a.known m ≡ true → In b (backups_of a.known) → Every (IsBareOrCatchUp m a) (catch_up a b)
  catch_up_sent a b leads i = every_from_in (IsBareOrCatchUp m a) (catch_up a b) (λ s j. inr (leads, b, i, j))

  pub adopting_sent : (a : Node) → Every (IsBareOrCatchUp m a) (sent_on_adopting m a)
  adopting_sent a =
      on_cond (Every (IsBareOrCatchUp m a)) (is_primary a.known m) (flat_map (catch_up a) (backups_of a.known)) []
      (λ leads. every_flat_map (IsBareOrCatchUp m a) (catch_up a) (backups_of a.known) (λ b i. catch_up_sent a b leads i)) (λ e. tt)

  abbrev pub IsStepSent : Step → Type 0
  IsStepSent s = Every (IsBareOrCatchUp m s.node) s.sent

  module _ (service from : ℕ) (n : Node) where
    pub rest_sent : (row : Row) (rest : Step) → IsStepSent rest → IsStepSent (with_sent (sent_by_row m row n) (cond (is_backup (after_row m row n).known m) rest (unanswered (after_row m row n) Other)))
    rest_sent row rest h =
        on_cond (λ (s : Step). IsStepSent (with_sent (sent_by_row m row n) s)) (is_backup (after_row m row n).known m) rest (unanswered (after_row m row n) Other)
        (λ b. subst (λ ss. Every (IsBareOrCatchUp m rest.node) (ss ++ rest.sent)) (sym (backup_sends_none service m from (Unit {0}) n row b)) h)
        (λ b. every_append (IsBareOrCatchUp m (after_row m row n)) (sent_by_row m row n) [] quiet tt)
      where
        quiet : Every (IsBareOrCatchUp m (after_row m row n)) (sent_by_row m row n)
        quiet = go (is_newer row n)
          where
            go : (t : Bool) → Every (IsBareOrCatchUp m (cond t (adopted_row m row n) n)) (cond t (sent_on_adopting m (adopted_row m row n)) [])
            go true = adopting_sent (adopted_row m row n)
            go false = tt

    pub sync_sent : (row : Row) (c : ℕ) → IsStepSent (on_sync m from row c n)
    sync_sent row c =
        on_if IsStepSent (nat_lt row.version n.known.version) (unanswered n Other) (with_sent (sent_by_row m row n) (cond (is_backup (after_row m row n).known m) (sync_backup from row c (after_row m row n)) (unanswered (after_row m row n) Other))) tt
        (rest_sent row (sync_backup from row c (after_row m row n))
        (on_if IsStepSent (is_ahead row c (after_row m row n)) (acknowledging (with_pair (after_row m row n) row.version c) from Synced) (acknowledging (after_row m row n) from Already) (inl tt, tt) (inl tt, tt)))

    pub bridge_sent : (row : Row) (v c : ℕ) → IsStepSent (on_bridge m from row v c n)
    bridge_sent row v c =
        on_if IsStepSent (nat_lt row.version n.known.version) (unanswered n Other) (with_sent (sent_by_row m row n) (cond (is_backup (after_row m row n).known m) (bridge_backup from row v c (after_row m row n)) (unanswered (after_row m row n) Other))) tt
        (rest_sent row (bridge_backup from row v c (after_row m row n))
        (on_if IsStepSent ((after_row m row n).pair.version == row.version) (acknowledging (after_row m row n) from Already)
        (cond (((after_row m row n).pair.version == v) && ((after_row m row n).pair.count == c)) (acknowledging (with_pair (after_row m row n) row.version c) from TookBridged) (unanswered (after_row m row n) Gap))
        (inl tt, tt)
        (on_if IsStepSent (((after_row m row n).pair.version == v) && ((after_row m row n).pair.count == c)) (acknowledging (with_pair (after_row m row n) row.version c) from TookBridged) (unanswered (after_row m row n) Gap) (inl tt, tt) tt)))

    pub effect_sent : (v i : ℕ) → IsStepSent (on_effect m from v i n)
    effect_sent v i =
        on_if IsStepSent (not (is_backup n.known m && (n.pair.version == v))) (unanswered n Other) (cond (i == n.pair.count + 1) (acknowledging (with_pair n v i) from Applied) (cond (nat_le i n.pair.count) (acknowledging n from Already) (unanswered n Gap))) tt
        (on_if IsStepSent (i == n.pair.count + 1) (acknowledging (with_pair n v i) from Applied) (cond (nat_le i n.pair.count) (acknowledging n from Already) (unanswered n Gap)) (inl tt, tt)
        (on_if IsStepSent (nat_le i n.pair.count) (acknowledging n from Already) (unanswered n Gap) (inl tt, tt) tt))

    pub ack_sent : (v c : ℕ) → IsStepSent (on_ack service m from v c n)
    ack_sent v c =
        on_if IsStepSent (is_primary n.known m && (n.known.version == v) && is_backup n.known from)
        (record { node = next; sent = joined_note service from n ++ frozen_note service next (settled next); took = Acked }) (unanswered n Stale)
        (every_append (IsBareOrCatchUp m next) (joined_note service from n) (frozen_note service next (settled next))
        (every_if (IsBareOrCatchUp m next) (is_some (acked n from) || is_eligible n.known from) [] (to_one service (Joined n.known.version from)) tt (inl tt, tt))
        (every_if (IsBareOrCatchUp m next) (next.frozen && not (is_empty next.held) && is_empty (settled next).held) (to_one service (Frozen next.known.version)) [] (inl tt, tt) tt))
        tt
      where
        next : Node
        next = record n { acks = with_ack from c n.acks }

    pub freeze_sent : (v : ℕ) → IsStepSent (on_freeze service m v n)
    freeze_sent v =
        on_if IsStepSent (is_primary n.known m && (n.known.version == v)) (record { node = record n { frozen = true }; sent = cond (is_empty n.held) (to_one service (Frozen v)) []; took = TookFrozen }) (unanswered n Stale)
        (every_if (IsBareOrCatchUp m (record n { frozen = true })) (is_empty n.held) (to_one service (Frozen v)) [] (inl tt, tt) tt) tt

    -- whatever the message
    pub taking_sent : (msg : Message) → IsStepSent (taking service m from msg n)
    taking_sent (NewRow row) = on_if IsStepSent (is_newer row n) (record { node = adopted_row m row n; sent = sent_on_adopting m (adopted_row m row n); took = Adopted }) (unanswered n Stale) (adopting_sent (adopted_row m row n)) tt
    taking_sent (Sync row c) = sync_sent row c
    taking_sent (Bridge row v c) = bridge_sent row v c
    taking_sent (Effect v i) = effect_sent v i
    taking_sent (Ack v c) = ack_sent v c
    taking_sent (Freeze v) = freeze_sent v
    taking_sent (Joined v b) = tt
    taking_sent (Frozen v) = tt

  -- a primary that sends again
  pub again_sent : (service : ℕ) (n : Node) → is_primary n.known m ≡ true → Every (IsBareOrCatchUp m n) (sent_again service n)
  again_sent service n leads =
      every_append (IsBareOrCatchUp m n) (catching ++ joining) frozen
      (every_append (IsBareOrCatchUp m n) catching joining
      (every_flat_map (IsBareOrCatchUp m n) (λ (b : RowMember). cond (lags n b.member) (catch_up n b) []) (backups_of n.known) (λ b i. every_if (IsBareOrCatchUp m n) (lags n b.member) (catch_up n b) [] (catch_up_sent n b leads i) tt))
      (every_flat_map (IsBareOrCatchUp m n) (joined_again service n) (backups_of n.known) (λ b i. every_if (IsBareOrCatchUp m n) (is_some (acked n b.member) && not b.eligible) (to_one service (Joined n.known.version b.member)) [] (inl tt, tt) tt)))
      (every_if (IsBareOrCatchUp m n) (n.frozen && is_empty n.held) (to_one service (Frozen n.known.version)) [] (inl tt, tt) tt)
    where
      catching : List Sent
      catching = flat_map (λ (b : RowMember). cond (lags n b.member) (catch_up n b) []) (backups_of n.known)

      joining : List Sent
      joining = flat_map (joined_again service n) (backups_of n.known)

      frozen : List Sent
      frozen = cond (n.frozen && is_empty n.held) (to_one service (Frozen n.known.version)) []

-- what the service sends

pub told_bare : (row : Row) (ms : List ℕ) → Every (λ (s : Sent). IsBare s.message) (map (λ m. record { to = m; message = NewRow row }) ms)
told_bare row [] = tt
told_bare row (m ∷ ms) = (tt, told_bare row ms)

pub telling_bare : (members : ℕ) (s : Service) → Every (λ (x : Sent). IsBare x.message) (telling members s)
telling_bare members s = told_bare s.row (undetected members s.detected)

pub freezing_bare : (row : Row) (v : Move) → Every (λ (s : Sent). IsBare s.message) (freeze_of row v)
freezing_bare row NoMove = tt
freezing_bare row (Joining s t) = tt
freezing_bare row (JoinedMove s t) = tt
freezing_bare row (Freezing s t) = (tt, tt)
freezing_bare row (Drained s t) = tt

pub service_bare : (members : ℕ) (s : Service) → Every (λ (x : Sent). IsBare x.message) (telling members s ++ freezing_again s)
service_bare members s = every_append (λ (x : Sent). IsBare x.message) (telling members s) (freezing_again s) (telling_bare members s) (freezing_bare s.row s.move)

-- what goes with it

module _ {S C State : Type 0} (k : Meaning S C State) (limits : C → Type 0) (within : ℕ → State → Type 0) (applied : List ℕ → State → Option State) (shelf : IsShelf k limits within applied)
    (w : Machine C) (stood : Stood k.object limits within w) (m : ℕ) (n : Node) (at : NodeAt w.nodes m n) where
  module _ (leads : is_primary n.known m ≡ true) where
    pub begins : KnowsBeginning w n
    begins = knows_beginning k.object w stood.good stood.led m n at leads

    -- the effects of a catch-up are among the newest
    pub catch_up_recent : (b : RowMember) (s : Sent) (v i : ℕ) → In b (backups_of n.known) → In s (catch_up n b) → s.message ≡ Effect v i → IsRecent k.object w stood.good stood.led m n at leads v i
    catch_up_recent b s v i j c said =
        let r = map_in (λ (x : Message). let y : Sent = record { to = b.member; message = x } in y) (catch_up_by n b.eligible (heard n b.member)) s c in
        let message : r.0 ≡ s.message = ap (λ (y : Sent). y.message) r.2 in
        from_catch_up k.object w stood.good stood.led m n at leads (lawful k limits within applied shelf) b (b, j, refl) v i b.eligible (heard n b.member) r.0 refl (message ∙ said) r.1

    module _ (kept : ℕ → Option (List ℕ)) (ring : IsRing k w n kept) where
      -- an effect that a backup lacks is kept right
      pub later_right : (to v i : ℕ) (p : Pair) (bytes : List ℕ) → heard n to ≡ Some p → IsLater n p v i → kept i ≡ Some bytes → bytes ≡ effect_bytes k w v i
      later_right to v i p bytes h later is = go (heard_from n to p h) later
        where
          of_known : v ≡ n.known.version → n.adopted < i → i ≤ n.pair.count → bytes ≡ effect_bytes k w v i
          of_known e l r = ring.known i bytes l r is ∙ ap (λ x. effect_bytes k w x i) (sym e)

          go : ((acked n to ≡ Some p.count) × (p.version ≡ n.known.version)) ⊎ ((e : Earlier) × (n.earlier ≡ Some e) × (acked_by to e.acks ≡ Some p.count) × (p.version ≡ e.version)) → IsLater n p v i → bytes ≡ effect_bytes k w v i
          go (inl a) (inl l) = let c = (begins.counted to p.count a.0).0 in let f = l.2 in of_known l.1 (omega (arith, c, f)) l.3
          go (inl a) (inr (inl l)) = absurd (l.0 a.1)
          go (inl a) (inr (inr l)) = of_known l.1 l.2 l.3
          go (inr a) (inl l) = let older = (begins.earlier a.0 a.1).older in absurd (let v = a.3 in let u = l.0 in omega (arith, older, v, u))
          go (inr a) (inr (inl l)) =
              let knows : KnowsEarlier w n begins.began a.0 = begins.earlier a.0 a.1 in
              let counts : knows.before.pair.count ≤ p.count = acked_by_in (λ c j. knows.before.pair.count ≤ c) to p.count a.0.acks (every_from_in (λ (x : Acknowledged). knows.before.pair.count ≤ x.count) a.0.acks (λ x j. (knows.acks x (contains_in x a.0.acks j)).0)) a.2 in
              let f = l.2 in
              ring.earlier a.0 knows.before i bytes a.1 knows.recorded knows.version (omega (arith, counts, f)) l.3 is
              ∙ ap (λ x. effect_bytes k w x i) (sym a.3 ∙ sym l.1)
          go (inr a) (inr (inr l)) = of_known l.1 l.2 l.3

      module _ (newest : HasNewest n kept) (state : State) (has : state ≡ pair_state k.object w n.pair) where
        abbrev pub written_with : Contents
        written_with = carried_of k.snapshot_of state kept

        pub kept_named : (v i : ℕ) → n.pair.count < i + min recent_limit n.recent → i ≤ n.pair.count → ((bytes : List ℕ) → kept i ≡ Some bytes → bytes ≡ effect_bytes k w v i) → unwrap_or (kept i) [] ≡ effect_bytes k w v i
        kept_named v i l r right = let is = newest i l r in ap (λ x. unwrap_or x []) is.1 ∙ right is.0 is.1

        pub sync_named : (row : Row) (c : ℕ) → row ≡ n.known → c ≡ n.pair.count → said_with written_with (Sync row c) ≡ said_with (contents_in k w) (Sync row c)
        sync_named row c e z =
            let snapshot : k.snapshot_of state ≡ k.snapshot_of (state_at k w row.version c) =
            ap k.snapshot_of (has ∙ ap (λ v. state_at k w v n.pair.count) (begins.contents ∙ ap (λ (r : Row). r.version) (sym e)) ∙ ap (λ d. state_at k w row.version d) (sym z)) in
            ap (λ bytes. said_with (record { snapshot = λ version count. bytes; effect = λ version number. [] }) (Sync row c)) snapshot

        pub effect_named : (v i : ℕ) → unwrap_or (kept i) [] ≡ effect_bytes k w v i → said_with written_with (Effect v i) ≡ said_with (contents_in k w) (Effect v i)
        effect_named v i e = ap (λ bytes. said_with (record { snapshot = λ version count. []; effect = λ version number. bytes }) (Effect v i)) e

        pub catch_up_named : (b : RowMember) → In b (backups_of n.known) → (s : Sent) → In s (catch_up n b) → IsNamed k w written_with s
        catch_up_named b j s c = by_said s.message refl (every_in (SaysSent m m m ⊥ n) (catch_up n b) s (catch_up_says m m m ⊥ n leads b j) c)
          where
            by_said : (x : Message) → s.message ≡ x → Says m m m ⊥ n s.to x → said_with written_with s.message ≡ said_with (contents_in k w) s.message
            by_said (NewRow row) e says = absurd says
            by_said (Sync row d) e says = ap (said_with written_with) e ∙ sync_named row d says.2 says.3 ∙ ap (said_with (contents_in k w)) (sym e)
            by_said (Effect v i) e says =
                let recent : IsRecent k.object w stood.good stood.led m n at leads v i = catch_up_recent b s v i j c e in
                ap (said_with written_with) e
                ∙ effect_named v i (kept_named v i recent.1 recent.2 (λ bytes is. later_right s.to v i says.2.0 bytes says.2.1 says.2.2 is))
                ∙ ap (said_with (contents_in k w)) (sym e)
            by_said (Bridge row v d) e says = bare_same written_with (contents_in k w) s.message (subst IsBare (sym e) tt)
            by_said (Ack v d) e says = absurd says.0
            by_said (Joined v d) e says = bare_same written_with (contents_in k w) s.message (subst IsBare (sym e) tt)
            by_said (Freeze v) e says = absurd says
            by_said (Frozen v) e says = bare_same written_with (contents_in k w) s.message (subst IsBare (sym e) tt)

  -- of a primary that keeps its newest effects right, and of a member that is no primary
  module _ (kept : ℕ → Option (List ℕ)) (ring : is_primary n.known m ≡ true → IsRing k w n kept) (newest : is_primary n.known m ≡ true → HasNewest n kept) (state : State) (has : state ≡ pair_state k.object w n.pair) where
    pub sent_named_one : (s : Sent) → IsBareOrCatchUp m n s → IsNamed k w (carried_of k.snapshot_of state kept) s
    sent_named_one s (inl bare) = bare_same (carried_of k.snapshot_of state kept) (contents_in k w) s.message bare
    sent_named_one s (inr (leads, b, i, j)) = catch_up_named leads kept (ring leads) (newest leads) state has b i s j

    pub sent_named : (ss : List Sent) → Every (IsBareOrCatchUp m n) ss → Every (IsNamed k w (carried_of k.snapshot_of state kept)) ss
    sent_named [] h = tt
    sent_named (s ∷ ss) h = (sent_named_one s h.0, sent_named ss h.1)
