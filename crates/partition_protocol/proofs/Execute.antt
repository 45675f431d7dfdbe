-- A call that is executed.
use Rattle.std.proofs.Common.{◌≡◌, ◌≢◌, ℕ, ◌+◌, ◌≤◌, true, false, List, [], ◌∷◌, ◌++◌, Contains, filter, nat_lt, slice_set, refl, ap, sym, ◌∙◌, subst, ◌⊎◌, inl, inr, arith, le_refl, le_trans}
use Rattle.partition_table.specs.Rows.{is_among, is_primary, is_eligible}
use Rattle.partition_protocol.specs.Node.{Pair, Held, Node}
use Rattle.grid_base.specs.Objects.{Object}
use Rattle.partition_protocol.specs.History.{Executed, Entry, Called, Reset, Base, Opening, entries_in, is_in_pair, history, state_after}
use Rattle.partition_protocol.specs.World.{World}
use Rattle.partition_protocol.specs.Claims.{Stands, is_reset}
use Rattle.partition_protocol.proofs.Lists.{In, Every, every_weaker, every_append, in_right, in_cases, in_contains, contains_in, get_set, cases}
use Rattle.partition_protocol.proofs.Histories.{AreGood, IsWithin, Falling, IsBase, start_at, rising_called, good_executed, opened_longer, start_called, stands_called, stands_more, stands_right, wider, base_below, filter_out, filter_keeps, is_in_its_pair, history_base}
use Rattle.partition_protocol.proofs.Invariant.{Shape, shape, NodeAt, IsUpTo, IsGone, IsGoneAt, EntryOk, NodeOk, AcksOk, Frame, content, ContentOk, Invariant}
use Rattle.partition_protocol.proofs.RowFacts.{less, not_less, is_not_less, not_both, one_primary}
use Rattle.partition_protocol.proofs.Forward.{NodeForward, Forward, acks_forward}
use Rattle.partition_protocol.proofs.Steps.{set_forward, packets_kept, log_kept, pairs_kept, bases_kept, frame_step}
use Rattle.partition_protocol.proofs.Contents.{HasKept, IsPair, content_step}
use Rattle.partition_protocol.proofs.Safe.{history_none, base_positive}
use Rattle.partition_protocol.proofs.Awake

-- where no version above v began
abbrev pub NoneAbove : List Base → ℕ → Type 0
NoneAbove bs v = (u : ℕ) → IsBase bs u → u ≤ v

pub falling_at : (bs : List Base) (n v : ℕ) → Falling n bs → NoneAbove bs v → Falling (v + 1) bs
falling_at [] n v f a = tt
falling_at (b ∷ bs) n v f a = let l = a b.version (b, inl refl, refl) in (omega (arith, l), f.1)

pub good_newest : {C State : Type 0} (o : Object C State) (os : List (Opening C)) (log : List (Entry C)) (bs : List Base) (n : ℕ) (p : Pair) (x : Executed C)
    → Falling n bs → IsBase bs p.version → NoneAbove bs p.version → x.version ≡ p.version → Every (IsWithin p.version p.count) log → AreGood o os log bs
    → x.reply ≡ o.reply (state_after o o.empty (history os log bs p)) x.call x.now → AreGood o os (log ++ Called x ∷ []) bs
good_newest o os log [] n p x f i a v w g r = absurd i.1
good_newest o os log (b ∷ bs) n p x f (c, inl s, e) a v w g r = good_executed o os log b bs p x (ap (λ (k : Base). k.version) s ∙ e) v f.1 w g r
good_newest o os log (b ∷ bs) n p x f (c, inr i, e) a v w g r =
    let above = a b.version (b, inl refl, refl) in
    let below = base_below bs b.version p.version f.1 (c, i, e) in
    absurd (omega (arith, above, below))

-- the node after it
abbrev pub ran : Node → ℕ → ℕ → Held → Node
ran n c r h = record n { pair = record { version = n.pair.version; count = c }; recent = r; held = n.held ++ h ∷ [] }

module _ {C State : Type 0} (o : Object C State) (w : World C) (made : List Shape) (inv : Invariant o w made) (m : ℕ) (n : Node) (at : NodeAt w.nodes m n)
    (lives : is_among w.crashed m ≡ false) (leads : is_primary n.known m ≡ true) (thawed : n.frozen ≡ false)
    (x : Executed C) (c r : ℕ) (h : Held) (more : n.pair.count ≤ c) (version : x.version ≡ n.pair.version) (seen : x.seen ≡ c) (conn : x.conn ≡ h.conn) (number : x.number ≡ h.number) (held_seen : h.seen ≡ c)
    (reply : x.reply ≡ o.reply (state_after o o.empty (history w.recorded.openings w.recorded.log w.recorded.bases n.pair)) x.call x.now) where
  abbrev pub n' : Node
  n' = ran n c r h

  abbrev pub lg : List (Entry C)
  lg = w.recorded.log ++ Called x ∷ []

  pub ok : NodeOk w.recorded.bases made m n
  ok = inv.frame.nodes m n at

  pub knows : n.pair.version ≡ n.known.version
  knows = (ok.primary leads).0

  pub begun : IsBase w.recorded.bases n.pair.version
  begun = subst (λ v. IsBase w.recorded.bases v) (sym knows) (ok.primary leads).1

  pub awake : IsGone w.nodes w.crashed n.known.version m → ⊥
  awake (inl d) = not_both (is_among w.crashed m) d lives
  awake (inr f) = go (f n at)
    where
      go : IsGoneAt n.known.version n → ⊥
      go (inl l) = absurd (omega (arith, l))
      go (inr d) = not_both n.frozen d.1 thawed

  pub none_above : NoneAbove w.recorded.bases n.pair.version
  none_above u b = go (cases (nat_lt n.known.version u))
    where
      go : (nat_lt n.known.version u ≡ true) ⊎ (nat_lt n.known.version u ≡ false) → u ≤ n.pair.version
      go (inl t) = let l = less n.known.version u t in let k = Awake.base_known w made inv.frame m (shape n.known) ok.known leads awake n at u b (omega (arith, l)) in absurd (omega (arith, k, l))
      go (inr t) = let l = not_less n.known.version u t in omega (arith, l, knows)

  pub tight : Falling (n.pair.version + 1) w.recorded.bases
  tight = falling_at w.recorded.bases (w.service.row.version + 1) n.pair.version inv.frame.falling none_above

  pub at_seen : n.pair.version + 1 ≤ x.version + 1
  at_seen = omega (arith, version)

  pub within : Every (IsWithin n.pair.version n.pair.count) w.recorded.log
  within = every_weaker (EntryOk w.nodes w.recorded.bases) (IsWithin n.pair.version n.pair.count) w.recorded.log one inv.frame.log
    where
      one : (e : Entry C) → EntryOk w.nodes w.recorded.bases e → IsWithin n.pair.version n.pair.count e
      one (Called y) k = λ s. k.1 m n at leads (sym knows ∙ sym s)
      one (Reset q) k = tt

  pub within_seen : Every (IsWithin x.version x.seen) w.recorded.log
  within_seen = every_weaker (IsWithin n.pair.version n.pair.count) (IsWithin x.version x.seen) w.recorded.log (wider n.pair.version x.version n.pair.count x.seen (sym version) (omega (arith, more, seen))) within

  pub forward : NodeForward w.recorded.bases w.recorded.bases made m n n'
  forward = record { known_up = le_refl n.known.version; stays = λ e z k. absurd (not_both n.frozen z thawed); pair_up = inl (refl, more); count_up = λ p i. (p, refl, more) }

  pub top : IsUpTo (slice_set w.nodes m n') n.pair.version c
  top k y a p e = go (get_set w.nodes m k n' y a)
    where
      go : ((k ≡ m) × (n' ≡ y)) ⊎ ((k ≢ m) × NodeAt w.nodes k y) → c ≤ y.pair.count
      go (inl s) = subst (λ (z : Node). c ≤ z.pair.count) s.1 (le_refl c)
      go (inr s) = absurd (s.0 (one_primary inv.frame.rows (shape y.known) (shape n.known) k m (inv.frame.nodes k y s.1).known ok.known (e ∙ knows) p leads))

  pub execute_frame : Frame (record w { nodes = slice_set w.nodes m n'; recorded = record w.recorded { log = lg } }) made
  execute_frame = frame_step w made inv.frame m n n' at w.recorded.bases w.packets lg w.released (record {
    forward = forward;
    bases_in = λ b i. i;
    node = node;
    acks = acks;
    top = top;
    packets = packets_kept w made inv.frame m n n' at w.recorded.bases forward (λ b i. i) w.packets inv.frame.packets;
    falling = inv.frame.falling;
    bases = bases_kept w made inv.frame m n n' at w.recorded.bases forward (λ b i. i);
    pairs = pairs_kept w made inv.frame m n n' at w.recorded.bases forward (λ b i. i);
    log = every_append (EntryOk (slice_set w.nodes m n') w.recorded.bases) w.recorded.log (Called x ∷ []) (log_kept w made inv.frame m n n' at w.recorded.bases forward (λ b i. i)) (entry, tt);
  })
    where
      whole : Forward w.nodes (slice_set w.nodes m n') w.recorded.bases w.recorded.bases made made w.crashed w.crashed
      whole = set_forward w.nodes w.recorded.bases w.recorded.bases made w.crashed m n n' at forward (λ d i. i)

      node : NodeOk w.recorded.bases made m n'
      node = record {
        known = ok.known;
        pair = inr (begun, omega (arith, knows));
        primary = ok.primary;
        held = λ p. absurd (not_both (is_primary n.known m) leads p);
        earlier = ok.earlier;
        adopted = λ p. le_trans (ok.adopted p) more;
      }

      acks : AcksOk (slice_set w.nodes m n') w.recorded.bases made n'
      acks = let a = acks_forward w.nodes (slice_set w.nodes m n') w.recorded.bases w.recorded.bases made made w.crashed w.crashed whole n (inv.frame.acks m n at) in record { taken = a.taken; opening = a.opening }

      entry : IsBase w.recorded.bases x.version × IsUpTo (slice_set w.nodes m n') x.version x.seen
      entry = subst (λ v. IsBase w.recorded.bases v × IsUpTo (slice_set w.nodes m n') v x.seen) (sym version) (begun, subst (λ k. IsUpTo (slice_set w.nodes m n') n.pair.version k) (sym seen) top)

  pub history_kept : (p : Pair) (k : Held) → IsPair w.recorded.bases p → Stands k (history w.recorded.openings w.recorded.log w.recorded.bases p) → Stands k (history w.recorded.openings lg w.recorded.bases p)
  history_kept p k (inr i) s = stands_called w.recorded.openings w.recorded.log x w.recorded.bases (n.pair.version + 1) p k tight at_seen i s
  history_kept p k (inl e) s =
      let zero : p.version ≡ 0 = ap (λ (q : Pair). q.version) e in
      let none : history w.recorded.openings w.recorded.log w.recorded.bases p ≡ [] = history_none w.recorded.openings w.recorded.log w.recorded.bases p (λ b i. let l = base_positive o w made inv b i in omega (arith, l, zero)) in
      absurd (in_contains (Called s.0) [] (subst (λ es. Contains es (Called s.0)) none s.1))

  pub start_kept : (v : ℕ) → start_at w.recorded.openings lg w.recorded.bases v ≡ start_at w.recorded.openings w.recorded.log w.recorded.bases v
  start_kept v = start_called w.recorded.openings w.recorded.log x w.recorded.bases v (n.pair.version + 1) tight at_seen

  pub history_more : (k : Held) → Stands k (history w.recorded.openings w.recorded.log w.recorded.bases n.pair) → Stands k (history w.recorded.openings lg w.recorded.bases n'.pair)
  history_more k s = stands_more w.recorded.openings lg w.recorded.bases (w.service.row.version + 1) n.pair.version n.pair.count c k inv.frame.falling begun more (history_kept n.pair k (inr begun) s)

  pub stands_itself : Stands h (history w.recorded.openings lg w.recorded.bases n'.pair)
  stands_itself =
      let p : Pair = n'.pair in
      let i : In (Called x) (entries_in p lg) = rw (filter_keeps (is_in_pair p) w.recorded.log (Called x) (is_in_its_pair p x version (omega (arith, seen)))) (in_right (Called x) (entries_in p w.recorded.log) (Called x ∷ []) (inl refl)) in
      rw (history_base w.recorded.openings lg w.recorded.bases p (w.service.row.version + 1) inv.frame.falling begun)
      (stands_right h (start_at w.recorded.openings lg w.recorded.bases p.version) (entries_in p lg) (x, contains_in (Called x) (entries_in p lg) i, conn, number, seen ∙ sym held_seen))

  pub execute_content : ContentOk o (record w { nodes = slice_set w.nodes m n'; recorded = record w.recorded { log = lg } }) made
  execute_content = content_step o w made inv.frame inv.content m n' w.recorded.bases lg (record {
    rising = rising_called w.recorded.log x inv.content.rising within_seen;
    good = good_newest o w.recorded.openings w.recorded.log w.recorded.bases (w.service.row.version + 1) n.pair x inv.frame.falling begun none_above version within inv.content.good reply;
    opened = opened_longer o w.recorded.log (Called x) w.recorded.openings inv.content.opened;
    resets = record {
      started = λ b i e. ap (λ es. filter is_reset es) (start_kept b.version) ∙ inv.content.resets.started b i e ∙ sym (filter_out is_reset w.recorded.log (Called x) refl);
      opened = λ l. inv.content.resets.opened l ∙ sym (filter_out is_reset w.recorded.log (Called x) refl);
      none = λ e. filter_out is_reset w.recorded.log (Called x) refl ∙ inv.content.resets.none e;
    };
    history_kept = history_kept;
    start_kept = λ v k i s. subst (λ es. Stands k es) (sym (start_kept v)) s;
    start_new = λ v i. inl i;
    kept = kept;
    base_kept = λ v k i q j e l. base_kept v k (inv.content.base_kept v m n k i q j e at l);
    held = λ k i. held k (in_cases k n.held (h ∷ []) i);
  }) w.packets
    where
      reset_low : w.recorded.standing.reset ≤ n.pair.version
      reset_low = let l = Awake.standing_reset w made inv.frame m (shape n.known) ok.known leads awake in omega (arith, l, knows)

      kept : (k : Held) → is_eligible w.recorded.standing m ≡ true → In k w.released → Stands k (content w.recorded.openings lg w.recorded.bases w.recorded.standing.reset n'.pair)
      kept k e i =
          let before : Stands k (history w.recorded.openings w.recorded.log w.recorded.bases n.pair) = rw (is_not_less n.pair.version w.recorded.standing.reset reset_low) at (inv.content.kept m n k e at i) in
          rw (is_not_less n.pair.version w.recorded.standing.reset reset_low) (history_more k before)

      base_kept : (v : ℕ) (k : Held) → HasKept w.recorded.openings w.recorded.log w.recorded.bases v n k → HasKept w.recorded.openings lg w.recorded.bases v n' k
      base_kept v k (inl s) = inl (subst (λ es. Stands k es) (sym (start_kept v)) s)
      base_kept v k (inr (inl l)) = inr (inl l)
      base_kept v k (inr (inr d)) = inr (inr (d.0, history_more k d.1))

      held : (k : Held) → In k n.held ⊎ In k (h ∷ []) → (k.seen ≤ c) × Stands k (history w.recorded.openings lg w.recorded.bases (record { version = n.known.version; count = k.seen }))
      held k (inl i) = let old = inv.content.held m n k at i in (le_trans old.0 more, history_kept (record { version = n.known.version; count = k.seen }) k (inr (ok.primary leads).1) old.1)
      held k (inr (inl e)) = subst (λ (j : Held). (j.seen ≤ c) × Stands j (history w.recorded.openings lg w.recorded.bases (record { version = n.known.version; count = j.seen }))) e (
        omega (arith, held_seen),
        subst (λ v. Stands h (history w.recorded.openings lg w.recorded.bases (record { version = v; count = h.seen }))) knows
            (subst (λ k'. Stands h (history w.recorded.openings lg w.recorded.bases (record { version = n.pair.version; count = k' }))) (sym held_seen) stands_itself),
      )
      held k (inr (inr i)) = absurd i

  pub execute : Invariant o (record w { nodes = slice_set w.nodes m n'; recorded = record w.recorded { log = lg } }) made
  execute = record { frame = execute_frame; content = execute_content }
