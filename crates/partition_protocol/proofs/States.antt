-- The states that pairs name: each stays as the run goes on, and a call leaves what the object says.
use Rattle.partition_protocol.proofs.Walk.{walk}
use Rattle.std.proofs.Common.{◌≡◌, ◌≢◌, ℕ, ◌+◌, ◌<◌, ◌≤◌, Bool, true, false, cond, not, ◌&&◌, ◌==◌, List, [], ◌∷◌, ◌++◌, nat_lt, refl, ap, sym, ◌∙◌, subst, ◌⊎◌, inl, inr, arith, le_refl, append_assoc, append-nil, ⊎_elim}
use Rattle.partition_table.specs.Rows.{is_among, is_primary}
use Rattle.partition_protocol.specs.Messages.{Packet}
use Rattle.partition_protocol.specs.Node.{Pair, Held, Node, no_pair}
use Rattle.partition_protocol.specs.Replica.{taking, is_newer}
use Rattle.partition_protocol.specs.Execution.{executing}
use Rattle.partition_protocol.specs.Service.{Service}
use Rattle.grid_base.specs.Objects.{Object}
use Rattle.partition_protocol.specs.History.{Executed, Entry, Called, Reset, Base, Opening, is_in_pair, entries_in, history, state_after, begins_anew, opening_at}
use Rattle.partition_protocol.specs.World.{World, bases_after, pair_state, trail}
use Rattle.partition_protocol.specs.Links.{taken_out, with_packets}
use Rattle.partition_protocol.specs.Events.{Event, delivered, with_reset, executed_with, entry_of, happens, run}
use Rattle.partition_protocol.specs.Claims.{IsLawful}
use Rattle.partition_table.specs.declared.Row.{Row}
use Rattle.partition_protocol.proofs.Lists.{In, Every, every_in, every_from_in, every_weaker, on_if}
use Rattle.partition_protocol.proofs.Histories.{IsBase, IsWithin, wider, Falling, base_below, start_at, entries_all, filter_out, filter_keeps, not_in_pair, past_pair, is_in_its_pair, history_base, history_skips, history_reset, IsOtherReset, history_at, IsBelow, none_of, start_of}
use Rattle.partition_protocol.proofs.Invariant.{Shape, NodeAt, IsUpTo, PacketOk, BaseOk, Invariant, EntryOk}
use Rattle.partition_protocol.proofs.RowFacts.{number_cases, number_other, same_number, both_right}
use Rattle.partition_protocol.proofs.Forward.{le_cases}
use Rattle.partition_protocol.proofs.Contents.{IsPair}
use Rattle.partition_protocol.proofs.Safe
use Rattle.partition_protocol.proofs.Execute
use Rattle.partition_protocol.proofs.Events.{Good, fewer, delivered_good, happens_good}

pub state_append : {C State : Type 0} (o : Object C State) (s : State) (es : List (Entry C)) (x : Executed C) → state_after o s (es ++ Called x ∷ []) ≡ o.after (state_after o s es) x.call x.now
state_append o s [] x = refl
state_append o s (Called y ∷ es) x = state_append o (o.after s y.call y.now) es x
state_append o s (Reset r ∷ es) x = state_append o o.empty es x

pub pair_same : (p q : Pair) → p.version ≡ q.version → p.count ≡ q.count → p ≡ q
pair_same p q e f = ap (λ v. let z : Pair = record { version = v; count = p.count } in z) e ∙ ap (λ k. let z : Pair = record { version = q.version; count = k } in z) f

module _ {C State : Type 0} (o : Object C State) (w : World C) (made : List Shape) (inv : Invariant o w made) (m : ℕ) (n : Node) (at : NodeAt w.nodes m n)
    (lives : is_among w.crashed m ≡ false) (leads : is_primary n.known m ≡ true) (thawed : n.frozen ≡ false)
    (x : Executed C) (c r : ℕ) (h : Held) (more : n.pair.count ≤ c) (version : x.version ≡ n.pair.version) (seen : x.seen ≡ c) (conn : x.conn ≡ h.conn) (number : x.number ≡ h.number) (held_seen : h.seen ≡ c)
    (reply : x.reply ≡ o.reply (state_after o o.empty (history w.recorded.openings w.recorded.log w.recorded.bases n.pair)) x.call x.now) where
  abbrev pub lg : List (Entry C)
  lg = w.recorded.log ++ Called x ∷ []

  abbrev pub after : Pair
  after = record { version = n.pair.version; count = c }

  pub begun : IsBase w.recorded.bases n.pair.version
  begun = Execute.begun o w made inv m n at lives leads thawed x c r h more version seen conn number held_seen reply

  pub start_kept : (v : ℕ) → start_at w.recorded.openings lg w.recorded.bases v ≡ start_at w.recorded.openings w.recorded.log w.recorded.bases v
  start_kept = Execute.start_kept o w made inv m n at lives leads thawed x c r h more version seen conn number held_seen reply

  pub within : Every (IsWithin n.pair.version n.pair.count) w.recorded.log
  within = Execute.within o w made inv m n at lives leads thawed x c r h more version seen conn number held_seen reply

  -- the history of the primary's pair gains the call
  pub history_gains : history w.recorded.openings lg w.recorded.bases after ≡ history w.recorded.openings w.recorded.log w.recorded.bases n.pair ++ Called x ∷ []
  history_gains =
      let now : entries_in after lg ≡ entries_in after w.recorded.log ++ Called x ∷ [] = filter_keeps (is_in_pair after) w.recorded.log (Called x) (is_in_its_pair after x version (omega (arith, seen))) in
      let all : entries_in after w.recorded.log ≡ entries_in n.pair w.recorded.log =
      entries_all after w.recorded.log (every_weaker (IsWithin n.pair.version n.pair.count) (IsWithin n.pair.version c) w.recorded.log (wider n.pair.version n.pair.version n.pair.count c refl more) within) ∙ sym (entries_all n.pair w.recorded.log within) in
      history_base w.recorded.openings lg w.recorded.bases after (w.service.row.version + 1) inv.frame.falling begun
      ∙ rw (start_kept n.pair.version, now, all) (sym (append_assoc (start_at w.recorded.openings w.recorded.log w.recorded.bases n.pair.version) (entries_in n.pair w.recorded.log) (Called x ∷ [])))
      ∙ ap (λ es. es ++ Called x ∷ []) (sym (history_base w.recorded.openings w.recorded.log w.recorded.bases n.pair (w.service.row.version + 1) inv.frame.falling begun))

  -- so its state is what the call leaves
  pub state_executed : state_after o o.empty (history w.recorded.openings lg w.recorded.bases after) ≡ o.after (state_after o o.empty (history w.recorded.openings w.recorded.log w.recorded.bases n.pair)) x.call x.now
  state_executed = ap (state_after o o.empty) history_gains ∙ state_append o o.empty (history w.recorded.openings w.recorded.log w.recorded.bases n.pair) x

  -- a pair that doesn't count the call keeps its history
  pub history_out : (p : Pair) → IsPair w.recorded.bases p → is_in_pair p (Called x) ≡ false → history w.recorded.openings lg w.recorded.bases p ≡ history w.recorded.openings w.recorded.log w.recorded.bases p
  history_out p (inl e) f =
      let zero : p.version ≡ 0 = ap (λ (q : Pair). q.version) e in
      let none : (lg : List (Entry C)) → history w.recorded.openings lg w.recorded.bases p ≡ [] = λ lg. Safe.history_none w.recorded.openings lg w.recorded.bases p (λ b i. let l = Safe.base_positive o w made inv b i in omega (arith, l, zero)) in
      none lg ∙ sym (none w.recorded.log)
  history_out p (inr i) f =
      history_base w.recorded.openings lg w.recorded.bases p (w.service.row.version + 1) inv.frame.falling i
      ∙ rw (start_kept p.version, filter_out (is_in_pair p) w.recorded.log (Called x) f) (sym (history_base w.recorded.openings w.recorded.log w.recorded.bases p (w.service.row.version + 1) inv.frame.falling i))

  -- every other pair keeps its state, and so does the primary's old pair: a call is either counted by no pair at hand, or it leaves no change
  pub states_stay : IsLawful o → (p : Pair) → IsPair w.recorded.bases p → IsUpTo w.nodes p.version p.count
      → (n.pair.count < c) ⊎ ((n.pair.count ≡ c) × (o.changes (state_after o o.empty (history w.recorded.openings w.recorded.log w.recorded.bases n.pair)) x.call x.now ≡ false))
      → state_after o o.empty (history w.recorded.openings lg w.recorded.bases p) ≡ state_after o o.empty (history w.recorded.openings w.recorded.log w.recorded.bases p)
  states_stay law p i u how = by_version (number_cases x.version p.version)
    where
      out : is_in_pair p (Called x) ≡ false → state_after o o.empty (history w.recorded.openings lg w.recorded.bases p) ≡ state_after o o.empty (history w.recorded.openings w.recorded.log w.recorded.bases p)
      out f = ap (state_after o o.empty) (history_out p i f)

      bound : x.version ≡ p.version → p.count ≤ n.pair.count
      bound e = u m n at leads (let k = (inv.frame.nodes m n at).primary leads in sym k.0 ∙ sym version ∙ e)

      equal : x.version ≡ p.version → p.count ≡ n.pair.count → n.pair.count ≡ c → o.changes (state_after o o.empty (history w.recorded.openings w.recorded.log w.recorded.bases n.pair)) x.call x.now ≡ false
          → state_after o o.empty (history w.recorded.openings lg w.recorded.bases p) ≡ state_after o o.empty (history w.recorded.openings w.recorded.log w.recorded.bases p)
      equal e k s q =
          let is : p ≡ n.pair = pair_same p n.pair (sym e ∙ version) k in
          let is' : p ≡ after = pair_same p after (sym e ∙ version) (k ∙ s) in
          ap (λ z. state_after o o.empty (history w.recorded.openings lg w.recorded.bases z)) is' ∙ state_executed ∙ law.unchanged (state_after o o.empty (history w.recorded.openings w.recorded.log w.recorded.bases n.pair)) x.call x.now q
          ∙ ap (λ z. state_after o o.empty (history w.recorded.openings w.recorded.log w.recorded.bases z)) (sym is)

      by_count : x.version ≡ p.version → (p.count ≡ n.pair.count) ⊎ (p.count < n.pair.count) → (n.pair.count < c) ⊎ ((n.pair.count ≡ c) × (o.changes (state_after o o.empty (history w.recorded.openings w.recorded.log w.recorded.bases n.pair)) x.call x.now ≡ false))
          → state_after o o.empty (history w.recorded.openings lg w.recorded.bases p) ≡ state_after o o.empty (history w.recorded.openings w.recorded.log w.recorded.bases p)
      by_count e k (inl l) = let b = bound e in out (past_pair p x (omega (arith, b, l, seen)))
      by_count e (inr l) k = out (past_pair p x (omega (arith, l, more, seen)))
      by_count e (inl s) (inr q) = equal e s q.0 q.1

      by_version : (x.version ≡ p.version) ⊎ (x.version ≢ p.version) → state_after o o.empty (history w.recorded.openings lg w.recorded.bases p) ≡ state_after o o.empty (history w.recorded.openings w.recorded.log w.recorded.bases p)
      by_version (inl e) = by_count e (le_cases p.count n.pair.count (bound e)) how
      by_version (inr d) = out (not_in_pair p x d)

-- a base that is added changes no history of an older pair
pub history_added : {C : Type 0} (os : List (Opening C)) (log : List (Entry C)) (bs : List Base) (p : Pair) (b : Base) (n : ℕ) → IsPair bs p → Falling n (b ∷ bs) → 1 ≤ b.version → history os log (b ∷ bs) p ≡ history os log bs p
history_added os log bs p b n (inl e) f l = let zero : p.version ≡ 0 = ap (λ (q : Pair). q.version) e in history_skips os log b bs p (omega (arith, l, zero))
history_added os log bs p b n (inr i) f l = let k = base_below bs b.version p.version f.1 i in history_skips os log b bs p (omega (arith, k))

module _ {C State : Type 0} (o : Object C State) (law : IsLawful o) (w : World C) (made : List Shape) (inv : Invariant o w made) (p : Pair) (pair : IsPair w.recorded.bases p) (up : IsUpTo w.nodes p.version p.count) where
  -- the state of the pair is what it was
  abbrev pub Stays : World C → Type 0
  Stays u = state_after o o.empty (history u.recorded.openings u.recorded.log u.recorded.bases p) ≡ state_after o o.empty (history w.recorded.openings w.recorded.log w.recorded.bases p)

  -- with the bases that a node's adoption leaves
  pub stays_based : (b : Bool) (base : Base) → ((b ≡ true) → Falling (w.service.row.version + 1) (base ∷ w.recorded.bases) × (1 ≤ base.version))
      → state_after o o.empty (history w.recorded.openings w.recorded.log (cond b (base ∷ w.recorded.bases) w.recorded.bases) p) ≡ state_after o o.empty (history w.recorded.openings w.recorded.log w.recorded.bases p)
  stays_based true base f = let h = f refl in ap (state_after o o.empty) (history_added w.recorded.openings w.recorded.log w.recorded.bases p base (w.service.row.version + 1) pair h.0 h.1)
  stays_based false base f = refl

  module _ (ps : List Packet) (inv' : Invariant o (with_packets w ps) made) where
    pub stays_delivered : (q : Packet) (n : Node) → NodeAt w.nodes q.to n → is_among w.crashed q.to ≡ false → PacketOk w.nodes w.recorded.bases made w.crashed q.from q.message → Stays (delivered (with_packets w ps) q n).world
    stays_delivered q n at lives g =
        stays_based (is_newer a.known n && is_primary a.known q.to) b falls
      where
        a : Node
        a = (taking w.members q.to q.from q.message n).node

        b : Base
        b = record { version = a.known.version; reset = a.known.reset; pair = cond (nat_lt n.pair.version a.known.reset) no_pair n.pair }

        done : Good o (delivered (with_packets w ps) q n).world
        done = delivered_good o (with_packets w ps) made inv' q n at lives g

        falls : (is_newer a.known n && is_primary a.known q.to) ≡ true → Falling (w.service.row.version + 1) (b ∷ w.recorded.bases) × (1 ≤ b.version)
        falls e =
            let same : bases_after q.to n a w.recorded.bases ≡ b ∷ w.recorded.bases = rw e refl in
            (subst (λ bs. Falling (w.service.row.version + 1) bs) same done.1.frame.falling, Safe.base_positive o (delivered (with_packets w ps) q n).world done.0 done.1 b (subst (λ bs. In b bs) (sym same) (inl refl)))

  pub stays_reopened : (s : Service) (st : Row) (ps : List Packet) → Stays (record (with_reset w (w.service.row.version + 1)) { service = s; packets = ps; recorded = record (with_reset w (w.service.row.version + 1)).recorded { standing = st } })
  stays_reopened s st ps = ap (state_after o o.empty) (history_reset (record { reset = w.service.row.version + 1; entries = trail w ++ Reset (w.service.row.version + 1) ∷ [] }) w.recorded.openings w.recorded.log w.recorded.bases p others)
    where
      others : Every (IsOtherReset (w.service.row.version + 1)) w.recorded.bases
      others = every_from_in (IsOtherReset (w.service.row.version + 1)) w.recorded.bases one
        where
          one : (b : Base) → In b w.recorded.bases → b.reset ≢ w.service.row.version + 1
          one b i = let k : BaseOk w.nodes made b = every_in (BaseOk w.nodes made) w.recorded.bases b inv.frame.bases i in
              let a = inv.frame.rows.old_reset k.row k.made_row in let c = inv.frame.rows.newest_top k.row k.made_row in omega (arith, a, c, k.reset)

  pub stays_called : (m conn number : ℕ) (call : C) (now : ℕ) (n : Node) → NodeAt w.nodes m n → is_among w.crashed m ≡ false → is_primary n.known m ≡ true → n.frozen ≡ false → (changes : Bool) → o.changes (pair_state o w n.pair) call now ≡ changes
      → Stays (executed_with o w m conn number call now (pair_state o w n.pair) changes (executing changes conn number n)).world
  stays_called m conn number call now n at lives leads thawed true e =
      states_stay o w made inv m n at lives leads thawed (entry_of o (pair_state o w n.pair) conn number call now (executing true conn number n).pair) (n.pair.count + 1) (n.recent + 1) (record { conn = conn; number = number; seen = n.pair.count + 1 })
      (omega arith) refl refl refl refl refl refl law p pair up (inl (omega arith))
  stays_called m conn number call now n at lives leads thawed false e =
      states_stay o w made inv m n at lives leads thawed (entry_of o (pair_state o w n.pair) conn number call now (executing false conn number n).pair) n.pair.count n.recent (record { conn = conn; number = number; seen = n.pair.count })
      (le_refl n.pair.count) refl refl refl refl refl refl law p pair up (inr (refl, e))

  -- whatever happens
  pub stays : (e : Event C) → Stays (happens o w e).world
  stays = walk o w (λ e u. Stays u) (λ e ps. refl) (λ e m. refl) (λ e s st ps. refl) (λ e s st ps. stays_reopened s st ps)
      (λ e f t i q n j at l. stays_delivered (taken_out f t i w.packets) (fewer o w made inv f t i) q n at l (every_in Flies w.packets q inv.frame.packets j))
      (λ m conn number call now n at l k f. stays_called m conn number call now n at l k f (o.changes (pair_state o w n.pair) call now) refl)
    where
      Flies : Packet → Type 0
      Flies q = PacketOk w.nodes w.recorded.bases made w.crashed q.from q.message

-- the bases as an event leaves them: as they were, or with one more, and then the log is as it was
module _ {C State : Type 0} (o : Object C State) (w : World C) (made : List Shape) (inv : Invariant o w made) where
  abbrev pub Grows : World C → Type 0
  Grows u = (u.recorded.bases ≡ w.recorded.bases) ⊎ ((b : Base) × (u.recorded.bases ≡ b ∷ w.recorded.bases) × ((p : Pair) → history u.recorded.openings u.recorded.log u.recorded.bases p ≡ history w.recorded.openings w.recorded.log (b ∷ w.recorded.bases) p) × IsPair w.recorded.bases b.pair)

  -- what adding a base by a test does
  pub added : (t : Bool) (b : Base) → IsPair w.recorded.bases b.pair → (cond t (b ∷ w.recorded.bases) w.recorded.bases ≡ w.recorded.bases) ⊎ ((k : Base) × (cond t (b ∷ w.recorded.bases) w.recorded.bases ≡ k ∷ w.recorded.bases) × ((p : Pair) → history w.recorded.openings w.recorded.log (cond t (b ∷ w.recorded.bases) w.recorded.bases) p ≡ history w.recorded.openings w.recorded.log (k ∷ w.recorded.bases) p) × IsPair w.recorded.bases k.pair)
  added true b i = inr (b, refl, λ p. refl, i)
  added false b i = inl refl

  pub grown : (e : Event C) → Grows (happens o w e).world
  grown = walk o w (λ e u. Grows u) (λ e ps. inl refl) (λ e m. inl refl) (λ e s st ps. inl refl) (λ e s st ps. inl refl) (λ e f t i q n j at l. delivered_grows q n at) (λ m conn number call now n at l p f. inl refl)
    where
      delivered_grows : (q : Packet) (n : Node) → NodeAt w.nodes q.to n → Grows (record w { recorded = record w.recorded { bases = bases_after q.to n (taking w.members q.to q.from q.message n).node w.recorded.bases } })
      delivered_grows q n at = added (is_newer a.known n && is_primary a.known q.to) (record { version = a.known.version; reset = a.known.reset; pair = cond (nat_lt n.pair.version a.known.reset) no_pair n.pair })
          (on_if (λ p. IsPair w.recorded.bases p) (nat_lt n.pair.version a.known.reset) no_pair n.pair (inl refl) (⊎_elim (λ e. inl e) (λ k. inr k.0) (inv.frame.nodes q.to n at).pair))
        where
          a : Node
          a = (taking w.members q.to q.from q.message n).node

-- a Bridge changes no state: the pair from which a version began names the state that the version begins with
abbrev pub Bridged : {C State : Type 0} → Object C State → World C → Type 0
Bridged o w = (b : Base) → In b w.recorded.bases → 1 ≤ b.pair.version → pair_state o w (record { version = b.version; count = b.pair.count }) ≡ pair_state o w b.pair

-- at the base itself, as the version begins
pub bridged_new : {C State : Type 0} (o : Object C State) (w : World C) (made : List Shape) (inv : Invariant o w made) (b : Base) (n : ℕ) → Falling n (b ∷ w.recorded.bases) → 1 ≤ b.version → IsPair w.recorded.bases b.pair → 1 ≤ b.pair.version
    → history w.recorded.openings w.recorded.log (b ∷ w.recorded.bases) (record { version = b.version; count = b.pair.count }) ≡ history w.recorded.openings w.recorded.log (b ∷ w.recorded.bases) b.pair
bridged_new {C} o w made inv b n f l i k =
    history_at w.recorded.openings w.recorded.log b w.recorded.bases (record { version = b.version; count = b.pair.count }) refl
    ∙ ap (λ es. start_of w.recorded.openings w.recorded.log b w.recorded.bases ++ es) none ∙ append-nil (start_of w.recorded.openings w.recorded.log b w.recorded.bases) ∙ start ∙ sym (history_added w.recorded.openings w.recorded.log w.recorded.bases b.pair b n i f l)
  where
    differs : (b.pair.version == 0) ≡ false
    differs = number_other b.pair.version 0 (omega (arith, k))

    anew : begins_anew b ≡ false
    anew = go (not (b.reset == 0))
      where
        go : (a : Bool) → (a && (b.pair.version == 0) && (b.pair.count == 0)) ≡ false
        go true = rw differs refl
        go false = refl

    start : start_of w.recorded.openings w.recorded.log b w.recorded.bases ≡ history w.recorded.openings w.recorded.log w.recorded.bases b.pair
    start = rw anew refl

    below : Every (IsBelow b.version) w.recorded.log
    below = every_weaker (EntryOk w.nodes w.recorded.bases) (IsBelow b.version) w.recorded.log one inv.frame.log
      where
        one : (x : Entry C) → EntryOk w.nodes w.recorded.bases x → IsBelow b.version x
        one (Called x) h = base_below w.recorded.bases b.version x.version f.1 h.0
        one (Reset q) h = tt

    none : entries_in (record { version = b.version; count = b.pair.count }) w.recorded.log ≡ []
    none = entries_all (record { version = b.version; count = b.pair.count }) w.recorded.log (every_weaker (IsBelow b.version) (IsWithin b.version b.pair.count) w.recorded.log within below) ∙ none_of b.version b.version w.recorded.log (le_refl b.version) below
      where
        within : (x : Entry C) → IsBelow b.version x → IsWithin b.version b.pair.count x
        within (Called x) h = λ e. absurd (omega (arith, h, e))
        within (Reset q) h = tt

pub bridged_step : {C State : Type 0} (o : Object C State) (law : IsLawful o) (w : World C) (made : List Shape) (inv : Invariant o w made) (e : Event C) → Bridged o w → Bridged o (happens o w e).world
bridged_step o law w made inv e h b i l = go (grown o w made inv e)
  where
    after : Good o (happens o w e).world
    after = happens_good o w made inv e

    old : In b w.recorded.bases → pair_state o (happens o w e).world (record { version = b.version; count = b.pair.count }) ≡ pair_state o (happens o w e).world b.pair
    old j =
        let u = inv.frame.pairs b j in
        stays o law w made inv (record { version = b.version; count = b.pair.count }) (inr (b, j, refl)) u.1 e ∙ h b j l ∙ sym (stays o law w made inv b.pair u.0 u.2 e)

    new : (k : Base) → (happens o w e).world.recorded.bases ≡ k ∷ w.recorded.bases → ((p : Pair) → history (happens o w e).world.recorded.openings (happens o w e).world.recorded.log (happens o w e).world.recorded.bases p ≡ history w.recorded.openings w.recorded.log (k ∷ w.recorded.bases) p) → IsPair w.recorded.bases k.pair → k ≡ b
        → pair_state o (happens o w e).world (record { version = b.version; count = b.pair.count }) ≡ pair_state o (happens o w e).world b.pair
    new k s f p t =
        let falls : Falling ((happens o w e).world.service.row.version + 1) (k ∷ w.recorded.bases) = subst (λ bs. Falling ((happens o w e).world.service.row.version + 1) bs) s after.1.frame.falling in
        let positive : 1 ≤ k.version = Safe.base_positive o (happens o w e).world after.0 after.1 k (subst (λ bs. In k bs) (sym s) (inl refl)) in
        let started : 1 ≤ k.pair.version = subst (λ (z : Base). 1 ≤ z.pair.version) (sym t) l in
        subst (λ (z : Base). pair_state o (happens o w e).world (record { version = z.version; count = z.pair.count }) ≡ pair_state o (happens o w e).world z.pair) t
        (ap (state_after o o.empty) (f (record { version = k.version; count = k.pair.count }) ∙ bridged_new o w made inv k ((happens o w e).world.service.row.version + 1) falls positive p started ∙ sym (f k.pair)))

    in_more : (k : Base) → (happens o w e).world.recorded.bases ≡ k ∷ w.recorded.bases → (k ≡ b) ⊎ In b w.recorded.bases
    in_more k s = subst (λ bs. In b bs) s i

    go : Grows o w made inv (happens o w e).world → pair_state o (happens o w e).world (record { version = b.version; count = b.pair.count }) ≡ pair_state o (happens o w e).world b.pair
    go (inl s) = old (subst (λ bs. In b bs) s i)
    go (inr k) = ⊎_elim (λ t. new k.0 k.1 k.2 k.3 t) old (in_more k.0 k.1)

pub run_bridged : {C State : Type 0} (o : Object C State) (law : IsLawful o) (w : World C) (es : List (Event C)) → Good o w → Bridged o w → Bridged o (run o w es)
run_bridged o law w [] g h = h
run_bridged o law w (e ∷ es) g h = run_bridged o law (happens o w e).world es (happens_good o w g.0 g.1 e) (bridged_step o law w g.0 g.1 e h)

-- what was opened leaves the empty state

abbrev pub IsEmptied : {C State : Type 0} → Object C State → Opening C → Type 0
IsEmptied o n = state_after o o.empty n.entries ≡ o.empty

pub state_reset : {C State : Type 0} (o : Object C State) (s : State) (es : List (Entry C)) (r : ℕ) → state_after o s (es ++ Reset r ∷ []) ≡ o.empty
state_reset o s [] r = refl
state_reset o s (Called y ∷ es) r = state_reset o (o.after s y.call y.now) es r
state_reset o s (Reset q ∷ es) r = state_reset o o.empty es r

pub opening_empty : {C State : Type 0} (o : Object C State) (r : ℕ) (os : List (Opening C)) → Every (IsEmptied o) os → state_after o o.empty (opening_at r os) ≡ o.empty
opening_empty o r [] h = refl
opening_empty o r (n ∷ os) h = on_if (λ es. state_after o o.empty es ≡ o.empty) (n.reset == r) n.entries (opening_at r os) h.0 (opening_empty o r os h.1)

pub emptied_step : {C State : Type 0} (o : Object C State) (w : World C) (e : Event C) → Every (IsEmptied o) w.recorded.openings → Every (IsEmptied o) (happens o w e).world.recorded.openings
emptied_step o w e h = walk o w (λ e u. Every (IsEmptied o) u.recorded.openings) (λ e ps. h) (λ e m. h) (λ e s st ps. h) (λ e s st ps. (state_reset o o.empty (trail w) (w.service.row.version + 1), h)) (λ e f t i q n j at l. h) (λ m conn number call now n at l p f. h) e

-- a version that is begun anew begins with the empty state
abbrev pub BeginsEmpty : {C State : Type 0} → Object C State → World C → Type 0
BeginsEmpty o w = (b : Base) → In b w.recorded.bases → begins_anew b ≡ true → pair_state o w (record { version = b.version; count = 0 }) ≡ o.empty

pub anew_zero : (b : Base) → begins_anew b ≡ true → b.pair.count ≡ 0
anew_zero b e = same_number b.pair.count 0 (both_right (not (b.reset == 0) && (b.pair.version == 0)) (b.pair.count == 0) e)

pub none_yet : {C State : Type 0} (o : Object C State) (w : World C) (made : List Shape) (inv : Invariant o w made) (b : Base) (c n : ℕ) → Falling n (b ∷ w.recorded.bases) → entries_in (record { version = b.version; count = c }) w.recorded.log ≡ []
none_yet {C} o w made inv b c n f = entries_all (record { version = b.version; count = c }) w.recorded.log (every_weaker (IsBelow b.version) (IsWithin b.version c) w.recorded.log within below) ∙ none_of b.version b.version w.recorded.log (le_refl b.version) below
  where
    below : Every (IsBelow b.version) w.recorded.log
    below = every_weaker (EntryOk w.nodes w.recorded.bases) (IsBelow b.version) w.recorded.log one inv.frame.log
      where
        one : (x : Entry C) → EntryOk w.nodes w.recorded.bases x → IsBelow b.version x
        one (Called x) h = base_below w.recorded.bases b.version x.version f.1 h.0
        one (Reset q) h = tt

    within : (x : Entry C) → IsBelow b.version x → IsWithin b.version c x
    within (Called x) h = λ e. absurd (omega (arith, h, e))
    within (Reset q) h = tt

pub empty_new : {C State : Type 0} (o : Object C State) (w : World C) (made : List Shape) (inv : Invariant o w made) (b : Base) (n : ℕ) → Falling n (b ∷ w.recorded.bases) → begins_anew b ≡ true → Every (IsEmptied o) w.recorded.openings
    → state_after o o.empty (history w.recorded.openings w.recorded.log (b ∷ w.recorded.bases) (record { version = b.version; count = 0 })) ≡ o.empty
empty_new o w made inv b n f a h =
    let start : start_of w.recorded.openings w.recorded.log b w.recorded.bases ≡ opening_at b.reset w.recorded.openings = rw a refl in
    ap (state_after o o.empty) (history_at w.recorded.openings w.recorded.log b w.recorded.bases (record { version = b.version; count = 0 }) refl
    ∙ ap (λ es. start_of w.recorded.openings w.recorded.log b w.recorded.bases ++ es) (none_yet o w made inv b 0 n f) ∙ append-nil (start_of w.recorded.openings w.recorded.log b w.recorded.bases) ∙ start)
    ∙ opening_empty o b.reset w.recorded.openings h

pub empty_step : {C State : Type 0} (o : Object C State) (law : IsLawful o) (w : World C) (made : List Shape) (inv : Invariant o w made) (e : Event C) → Every (IsEmptied o) w.recorded.openings → BeginsEmpty o w → BeginsEmpty o (happens o w e).world
empty_step o law w made inv e emptied h b i a = go (grown o w made inv e)
  where
    after : Good o (happens o w e).world
    after = happens_good o w made inv e

    old : In b w.recorded.bases → pair_state o (happens o w e).world (record { version = b.version; count = 0 }) ≡ o.empty
    old j =
        let u = inv.frame.pairs b j in
        let up : IsUpTo w.nodes b.version 0 = subst (λ c. IsUpTo w.nodes b.version c) (anew_zero b a) u.1 in
        stays o law w made inv (record { version = b.version; count = 0 }) (inr (b, j, refl)) up e ∙ h b j a

    new : (k : Base) → (happens o w e).world.recorded.bases ≡ k ∷ w.recorded.bases → ((p : Pair) → history (happens o w e).world.recorded.openings (happens o w e).world.recorded.log (happens o w e).world.recorded.bases p ≡ history w.recorded.openings w.recorded.log (k ∷ w.recorded.bases) p) → k ≡ b
        → pair_state o (happens o w e).world (record { version = b.version; count = 0 }) ≡ o.empty
    new k s f t =
        let falls : Falling ((happens o w e).world.service.row.version + 1) (k ∷ w.recorded.bases) = subst (λ bs. Falling ((happens o w e).world.service.row.version + 1) bs) s after.1.frame.falling in
        subst (λ (z : Base). pair_state o (happens o w e).world (record { version = z.version; count = 0 }) ≡ o.empty) t
        (ap (state_after o o.empty) (f (record { version = k.version; count = 0 })) ∙ empty_new o w made inv k ((happens o w e).world.service.row.version + 1) falls (subst (λ z. begins_anew z ≡ true) (sym t) a) emptied)

    in_more : (k : Base) → (happens o w e).world.recorded.bases ≡ k ∷ w.recorded.bases → (k ≡ b) ⊎ In b w.recorded.bases
    in_more k s = subst (λ bs. In b bs) s i

    go : Grows o w made inv (happens o w e).world → pair_state o (happens o w e).world (record { version = b.version; count = 0 }) ≡ o.empty
    go (inl s) = old (subst (λ bs. In b bs) s i)
    go (inr k) = ⊎_elim (λ t. new k.0 k.1 k.2 t) old (in_more k.0 k.1)

pub run_empty : {C State : Type 0} (o : Object C State) (law : IsLawful o) (w : World C) (es : List (Event C)) → Good o w → Every (IsEmptied o) w.recorded.openings → BeginsEmpty o w → BeginsEmpty o (run o w es)
run_empty o law w [] g n h = h
run_empty o law w (e ∷ es) g n h = run_empty o law (happens o w e).world es (happens_good o w g.0 g.1 e) (emptied_step o w e n) (empty_step o law w g.0 g.1 e n h)
