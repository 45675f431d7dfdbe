-- Every count is an effect of a call, and a primary knows with which count its version began.
use Rattle.std.proofs.Common.{◌≡◌, ◌≢◌, ℕ, ◌+◌, ◌-◌, min, ◌<◌, ◌≤◌, Bool, true, false, Option, Some, None, refl, ap, sym, ◌∙◌, subst, ◌⊎◌, inl, inr, arith, le_trans}
use Rattle.std.proofs.lemmas.Bool.Decides.{nat_tests}
use Rattle.grid_base.specs.Objects.{Object}
use Rattle.partition_table.specs.declared.RowMember.{RowMember}
use Rattle.partition_table.specs.Rows.{is_primary, backups_of}
use Rattle.partition_protocol.specs.Messages.{Message, Effect, Sent}
use Rattle.partition_protocol.specs.Node.{Pair, Acknowledged, Earlier, Node, acked, acked_by, settled}
use Rattle.partition_protocol.specs.CatchUp.{heard, recent_limit, is_covered, recent_effects_to, whole_snapshot, catch_up_by, catch_up}
use Rattle.partition_protocol.specs.History.{Base}
use Rattle.partition_protocol.specs.World.{World, start}
use Rattle.partition_protocol.specs.Events.{run}
use Rattle.partition_protocol.specs.Claims.{IsLawful}
use Rattle.partition_protocol.specs.NamedStates.{IsEffect}
use Rattle.partition_protocol.specs.Beginnings.{AreCountsEffects, EveryCountIsAnEffect, KnowsEarlier, KnowsBeginning, EveryPrimaryKnowsItsBeginning, EveryCatchUpIsRecent}
use Rattle.partition_protocol.proofs.Lists.{In, in_contains, contains_in, every_in, every_from_in, on_cond}
use Rattle.partition_protocol.proofs.Histories.{IsBase, base_same}
use Rattle.partition_protocol.proofs.Invariant.{Shape, shape, NodeAt, NodeOk, BaseOk}
use Rattle.partition_protocol.proofs.RowFacts.{not_both}
use Rattle.partition_protocol.proofs.Release.{acked_by_in, or_opening_cases}
use Rattle.partition_protocol.proofs.Answers.{map_in}
use Rattle.partition_protocol.proofs.Says.{IsLater, IsBackupIn, Says, recent_effects_says}
use Rattle.partition_protocol.proofs.Events.{Good}
use Rattle.partition_protocol.proofs.Effects.{NodeLed, Led, heard_from, later_led, grid_led}
use Rattle.partition_protocol.proofs.Theorem.{grid_good}

-- counts

module _ {C State : Type 0} (o : Object C State) (w : World C) (good : Good o w) (led : Led o w) where
  pub counts_are_effects : IsLawful o → AreCountsEffects o w
  counts_are_effects law = record {
    members = λ m n b i at c e l r. (led.nodes m n at).pair.1 i b (in_contains b w.recorded.bases c) e l r law;
    primaries = λ m n i at p l r. primary m n i at p l r;
    bases = λ b before i c k e l r. led.bases b (in_contains b w.recorded.bases c) i before (in_contains before w.recorded.bases k) e l r law;
  }
    where
      primary : (m : ℕ) (n : Node) (i : ℕ) → NodeAt w.nodes m n → is_primary n.known m ≡ true → n.adopted < i → i ≤ n.pair.count → IsEffect o w n.known.version i
      primary m n i at p l r =
          let ok = (good.1.frame.nodes m n at).primary p in
          let b = ok.1 in
          let h = led.nodes m n at in
          let count = h.adopted p b.0 b.1 b.2 in
          subst (λ v. IsEffect o w v i) ok.0 (h.pair.1 i b.0 b.1 (b.2 ∙ sym ok.0) (omega (arith, count, l)) r law)

  -- a primary

  module _ (m : ℕ) (n : Node) (at : NodeAt w.nodes m n) (leads : is_primary n.known m ≡ true) where
    pub ok : NodeOk w.recorded.bases good.0 m n
    ok = good.1.frame.nodes m n at

    pub mine : NodeLed o w m n
    mine = led.nodes m n at

    pub began : IsBase w.recorded.bases n.known.version
    began = (ok.primary leads).1

    pub began_count : began.0.pair.count ≡ n.adopted
    began_count = mine.adopted leads began.0 began.1 began.2

    pub began_reset : began.0.reset ≡ n.known.reset
    began_reset =
        let b : BaseOk w.nodes good.0 began.0 = every_in (BaseOk w.nodes good.0) w.recorded.bases began.0 good.1.frame.bases began.1 in
        sym b.reset ∙ ap (λ (s : Shape). s.reset) (good.1.frame.rows.one b.row (shape n.known) b.made_row ok.known (b.version ∙ began.2))

    pub acks_between : (a : Acknowledged) → In a n.acks → (n.adopted ≤ a.count) × (a.count ≤ n.pair.count)
    acks_between a i = let h = mine.acks leads a i in let f = h.0 began.0 began.1 began.2 in (omega (arith, f, began_count), h.1)

    pub counted_between : (b c : ℕ) → acked n b ≡ Some c → (n.adopted ≤ c) × (c ≤ n.pair.count)
    counted_between b c e = go (or_opening_cases n.opening (acked_by b n.acks) c e)
      where
        go : (acked_by b n.acks ≡ Some c) ⊎ ((n.opening ≡ true) × (0 ≡ c)) → (n.adopted ≤ c) × (c ≤ n.pair.count)
        go (inl h) = acked_by_in (λ d k. (n.adopted ≤ d) × (d ≤ n.pair.count)) b c n.acks (every_from_in (λ (a : Acknowledged). (n.adopted ≤ a.count) × (a.count ≤ n.pair.count)) n.acks acks_between) h
        go (inr h) = let f = (mine.opening h.0).1 began.0 began.1 began.2 in let z = h.1 in (omega (arith, f, began_count, z), omega (arith, z))

    pub earlier_acks : (e : Earlier) → n.earlier ≡ Some e → (a : Acknowledged) → In a e.acks → a.count ≤ n.adopted
    earlier_acks e s a i = (mine.earlier e leads s a i).1

    pub knows_earlier : (e : Earlier) → n.earlier ≡ Some e → KnowsEarlier w n began.0 e
    knows_earlier e s =
        let h = ok.earlier e leads s in
        let same : began.0 ≡ h.4.0 = base_same w.recorded.bases (w.service.row.version + 1) began.0 h.4.0 good.1.frame.falling began.1 h.4.1 (began.2 ∙ sym h.4.2) in
        record {
          older = h.1;
          pair = ap (λ (b : Base). b.pair) same ∙ h.4.3;
          before = h.2.0;
          recorded = contains_in h.2.0 w.recorded.bases h.2.1;
          version = h.2.2;
          acks = λ a c. (let i = in_contains a e.acks c in ((mine.earlier e leads s a i).0 h.2.0 h.2.1 h.2.2, earlier_acks e s a i));
        }

    pub knows_beginning : KnowsBeginning w n
    knows_beginning = record {
      contents = (ok.primary leads).0;
      began = began.0;
      recorded = contains_in began.0 w.recorded.bases began.1;
      version = began.2;
      reset = began_reset;
      count = began_count;
      adopted = ok.adopted leads;
      recent = mine.recent leads;
      acks = λ a c. acks_between a (in_contains a n.acks c);
      counted = counted_between;
      earlier = knows_earlier;
    }

    -- catching up

    -- what was heard of the version before is no more than was adopted
    pub heard_adopted : (b : ℕ) (p : Pair) → heard n b ≡ Some p → p.version ≢ n.known.version → p.count ≤ n.adopted
    heard_adopted b p h d = go (heard_from n b p h)
      where
        go : ((acked n b ≡ Some p.count) × (p.version ≡ n.known.version)) ⊎ ((e : Earlier) × (n.earlier ≡ Some e) × (acked_by b e.acks ≡ Some p.count) × (p.version ≡ e.version)) → p.count ≤ n.adopted
        go (inl k) = absurd (d k.1)
        go (inr k) = acked_by_in (λ c j. c ≤ n.adopted) b p.count k.0.acks (every_from_in (λ (a : Acknowledged). a.count ≤ n.adopted) k.0.acks (earlier_acks k.0 k.1)) k.2

    pub later_between : (b v i : ℕ) (p : Pair) → heard n b ≡ Some p → IsLater n p v i → (p.count < i) × (i ≤ n.pair.count)
    later_between b v i p h (inl k) = (k.2, k.3)
    later_between b v i p h (inr (inl k)) = (k.2, le_trans k.3 (ok.adopted leads))
    later_between b v i p h (inr (inr k)) = let l = heard_adopted b p h k.0 in let r = k.2 in (omega (arith, l, r), k.3)

    -- the effect is one that was counted, of the newest that are kept
    abbrev pub IsRecent : ℕ → ℕ → Type 0
    IsRecent v i = IsEffect o w v i × (n.pair.count < i + min recent_limit n.recent) × (i ≤ n.pair.count)

    pub covered : (p : Pair) (i : ℕ) → is_covered n p ≡ true → p.count < i → i ≤ n.pair.count → n.pair.count < i + min recent_limit n.recent
    covered p i e l r = let k : n.pair.count - p.count ≤ min recent_limit n.recent = grind (arith, nat_tests) in omega (arith, k, l, r)

    pub recent_later : IsLawful o → (b v i : ℕ) (p : Pair) → heard n b ≡ Some p → is_covered n p ≡ true → IsLater n p v i → IsRecent v i
    recent_later law b v i p h e k =
        let r = later_between b v i p h k in
        ((later_led o w good m n mine node led.bases (good.1.frame.tops m n at) leads b v i p h k).1 law, covered p i e r.0 r.1, r.1)
      where
        node : NodeOk w.recorded.bases good.0 m (settled n)
        node = record { known = ok.known; pair = ok.pair; primary = ok.primary; held = λ z. absurd (not_both (is_primary n.known m) leads z); earlier = ok.earlier; adopted = ok.adopted }

    module _ (law : IsLawful o) (b : RowMember) (backup : IsBackupIn n.known b.member) (v i : ℕ) where
      pub not_snapshot : (x : Message) → x ≡ Effect v i → In x (whole_snapshot n) → IsRecent v i
      not_snapshot x e (inl s) = absurd cc
      not_snapshot x e (inr j) = absurd j

      pub from_recent : (p : Pair) (x : Message) → heard n b.member ≡ Some p → is_covered n p ≡ true → x ≡ Effect v i → In x (recent_effects_to n p) → IsRecent v i
      from_recent p x h e s j =
          let says = every_in (Says m m m ⊥ n b.member) (recent_effects_to n p) x (recent_effects_says m m m ⊥ n leads b.member backup p h) j in
          by_said (subst (Says m m m ⊥ n b.member) s says)
        where
          by_said : Says m m m ⊥ n b.member (Effect v i) → IsRecent v i
          by_said k = let same : k.2.0 ≡ p = cc (k.2.1, h) in recent_later law b.member v i p h e (subst (λ (q : Pair). IsLater n q v i) same k.2.2)

      pub from_catch_up : (eligible : Bool) (p : Option Pair) (x : Message) → heard n b.member ≡ p → x ≡ Effect v i → In x (catch_up_by n eligible p) → IsRecent v i
      from_catch_up false p x h s j = not_snapshot x s j
      from_catch_up true None x h s j = not_snapshot x s j
      from_catch_up true (Some p) x h s j = on_cond (λ xs. In x xs → IsRecent v i) (is_covered n p) (recent_effects_to n p) (whole_snapshot n) (λ e. from_recent p x h e s) (λ e. not_snapshot x s) j

-- of every run

pub every_count_is_an_effect : {C State : Type 0} (o : Object C State) → EveryCountIsAnEffect o
every_count_is_an_effect o partition members backups events one law =
    counts_are_effects o (run o (start partition members backups) events) (grid_good o partition members backups events one) (grid_led o partition members backups events one) law

pub every_primary_knows_its_beginning : {C State : Type 0} (o : Object C State) → EveryPrimaryKnowsItsBeginning o
every_primary_knows_its_beginning o partition members backups events m node one at leads =
    knows_beginning o (run o (start partition members backups) events) (grid_good o partition members backups events one) (grid_led o partition members backups events one) m node at leads

pub every_catch_up_is_recent : {C State : Type 0} (o : Object C State) → EveryCatchUpIsRecent o
every_catch_up_is_recent o partition members backups events m node b s v i one law at leads backup c said =
    let w = run o (start partition members backups) events in
    let r = map_in (λ (x : Message). let y : Sent = record { to = b.member; message = x } in y) (catch_up_by node b.eligible (heard node b.member)) s (in_contains s (catch_up node b) c) in
    let message : r.0 ≡ s.message = ap (λ (y : Sent). y.message) r.2 in
    from_catch_up o w (grid_good o partition members backups events one) (grid_led o partition members backups events one) m node at leads law b (b, in_contains b (backups_of node.known) backup, refl) v i
    b.eligible (heard node b.member) r.0 refl (message ∙ said) r.1
