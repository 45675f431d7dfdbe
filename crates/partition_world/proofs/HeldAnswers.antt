-- The answer of an executed call stays what it was as the run goes on, where no two calls have one name; and what a step releases.
use Rattle.std.proofs.Common.{◌≡◌, ◌≢◌, ℕ, ◌+◌, ◌-◌, ◌≤◌, le_refl, Bool, true, false, cond, not, ◌&&◌, ◌==◌, nat_lt, List, [], ◌∷◌, ◌++◌, map, length, take, drop, reverse, Option, Some, None, option_map, slice_get, refl, ap, sym, ◌∙◌, subst, arith, ◌⊎◌, ⊎_elim, inl, inr, append_assoc, append-nil, length-append}
use Rattle.std.specs.List.{find, filter_map, cons_option, before_last, suffix_len}
use Rattle.std.specs.Option.{option_and_then}
use Rattle.std.proofs.lemmas.List.{reverse-append, take-append-le}
use Rattle.std.proofs.Math.Seq.{drop-append_seam}
use Rattle.grid_base.specs.Objects.{Object}
use Rattle.grid_base.specs.Names.{is_same_call}
use Rattle.grid_base.specs.declared.names.CallId.{CallId}
use Rattle.grid_base.specs.declared.calls.Change.{Change}
use Rattle.partition_table.specs.Rows.{is_primary, is_among}
use Rattle.partition_protocol.specs.Messages.{Message, Packet}
use Rattle.partition_protocol.specs.Node.{Pair, Held, Node, no_pair, now_released}
use Rattle.partition_protocol.specs.Replica.{taking, is_newer}
use Rattle.partition_protocol.specs.Execution.{reached, Executes, executing}
use Rattle.partition_protocol.specs.History.{Executed, Entry, Called, Reset, Base, is_in_pair, entries_in, history, state_after}
use Rattle.partition_protocol.specs.World.{World as Machine, start, is_live, bases_after, pair_history, pair_state, trail}
use Rattle.partition_protocol.specs.Links.{link, taken_out, with_packets}
use Rattle.partition_protocol.specs.Events.{Event, Call, Deliver, Happened, delivered, executed_with, executes, entry_of, happens, run}
use Rattle.partition_protocol.specs.Arrivals.{Asked, CallName, name, asked_by, arrivals, calls_in, NamedOnce}
use Rattle.partition_protocol.specs.Answers.{answered_call}
use Rattle.partition_protocol.specs.HistorySizes.{asked_of}
use Rattle.partition_protocol.proofs.Lists.{In, Every, every_in, every_from_in, in_cases, cases}
use Rattle.partition_protocol.proofs.Histories.{IsBase, Falling, start_at, filter_out, filter_keeps, history_base, history_reset, IsOtherReset}
use Rattle.partition_protocol.proofs.Invariant.{Shape, NodeAt, PacketOk, BaseOk, EntryOk, Invariant}
use Rattle.partition_protocol.proofs.RowFacts.{same_number, not_true, both_right}
use Rattle.partition_protocol.proofs.Events.{Good, fewer, delivered_good}
use Rattle.partition_protocol.proofs.EventFacts.{deliver_live, call_executed, reached_leads}
use Rattle.partition_protocol.proofs.LinkFacts.{packet}
use Rattle.partition_protocol.proofs.States as states
use Rattle.partition_protocol.proofs.States.{history_added}
use Rattle.partition_protocol.proofs.Safe.{base_positive}
use Rattle.partition_protocol.proofs.Walk.{walk}
use Rattle.partition_protocol.proofs.Faithful.{part_in, part_map, run_part}
use Rattle.partition_protocol.proofs.Answers.{map_append, once_left, once_apart, called_in, Single, run_single, start_single}
use Rattle.primary_hold.specs.declared.answer.CallAnswer.{CallAnswer}
use Rattle.partition_world.specs.Answers.{id_of, is_call, executed_in, newest_call, state_before, answer_of, held_answer, released_by}
use Rattle.partition_world.proofs.Newest.{newest_last, before_newest}
use Rattle.partition_world.proofs.Taking.{member_apart}

-- lists

pub in_reverse : {X : Type 0} (x : X) (xs : List X) → In x (reverse xs) → In x xs
in_reverse x [] i = i
in_reverse x (y ∷ xs) i = go (in_reverse x xs) (in_cases x (reverse xs) (y ∷ []) (subst (In x) (reverse-append (y ∷ []) xs) i))
  where
    go : (In x (reverse xs) → In x xs) → In x (reverse xs) ⊎ In x (y ∷ []) → In x (y ∷ xs)
    go f (inl j) = inr (f j)
    go f (inr (inl e)) = inl e
    go f (inr (inr j)) = absurd j

pub found_in : {X : Type 0} (p : X → Bool) (xs : List X) (x : X) → find p xs ≡ Some x → In x xs
found_in p [] x e = absurd cc
found_in p (y ∷ xs) x e = go (found_in p xs x) (cases (p y)) e
  where
    go : (find p xs ≡ Some x → In x xs) → (p y ≡ true) ⊎ (p y ≡ false) → find p (y ∷ xs) ≡ Some x → In x (y ∷ xs)
    go h (inl t) f = inl (let z : Some y ≡ Some x = rw t at f in cc)
    go h (inr t) f = inr (h (rw t at f))

-- an element that doesn't pass changes nothing of what stands before the last that does
pub before_more : {X : Type 0} (p : X → Bool) (xs : List X) (x : X) → p x ≡ false → before_last p (xs ++ x ∷ []) ≡ before_last p xs
before_more p xs x e =
    let more : suffix_len (λ y. not (p y)) (xs ++ x ∷ []) ≡ 1 + suffix_len (λ y. not (p y)) xs = rw (reverse-append xs (x ∷ []), e) refl in
    let whole = length-append xs (x ∷ []) in
    let at : length (xs ++ x ∷ []) - suffix_len (λ y. not (p y)) (xs ++ x ∷ []) - 1 ≡ length xs - suffix_len (λ y. not (p y)) xs - 1 = omega (arith, more, whole) in
    ap (λ n. take n (xs ++ x ∷ [])) at ∙ take-append-le (length xs - suffix_len (λ y. not (p y)) xs - 1) xs (x ∷ []) (omega arith)

-- names

pub ids_apart : {C : Type 0} (x y : Executed C) → name (asked_of x) ≢ name (asked_of y) → is_same_call (id_of y) (id_of x) ≡ false
ids_apart x y d = go (cases (y.conn == x.conn)) (cases (y.number == x.number))
  where
    go : ((y.conn == x.conn) ≡ true) ⊎ ((y.conn == x.conn) ≡ false) → ((y.number == x.number) ≡ true) ⊎ ((y.number == x.number) ≡ false) → ((y.conn == x.conn) && (y.number == x.number)) ≡ false
    go (inl e) (inl f) = absurd (d (let a = same_number y.conn x.conn e in let b = same_number y.number x.number f in cc))
    go (inl e) (inr f) = rw (e, f) refl
    go (inr e) f = rw e refl

pub held_apart : {C : Type 0} (h : Held) (y : Executed C) → answered_call h ≢ name (asked_of y) → is_same_call (id_of y) (record { conn = h.conn; number = h.number }) ≡ false
held_apart h y d = go (cases (y.conn == h.conn)) (cases (y.number == h.number))
  where
    go : ((y.conn == h.conn) ≡ true) ⊎ ((y.conn == h.conn) ≡ false) → ((y.number == h.number) ≡ true) ⊎ ((y.number == h.number) ≡ false) → ((y.conn == h.conn) && (y.number == h.number)) ≡ false
    go (inl e) (inl f) = absurd (d (let a = same_number y.conn h.conn e in let b = same_number y.number h.number f in cc))
    go (inl e) (inr f) = rw (e, f) refl
    go (inr e) f = rw e refl

-- an entry of another name leaves the newest call of this one
pub newest_stays : {C : Type 0} (id : CallId) (log : List (Entry C)) (e : Entry C) → is_call id e ≡ false → newest_call id (log ++ e ∷ []) ≡ newest_call id log
newest_stays id log e d = rw (reverse-append log (e ∷ []), d) refl

-- and stands in the log
pub newest_in : {C : Type 0} (id : CallId) (log : List (Entry C)) (x : Executed C) → newest_call id log ≡ Some x → In (Called x) log
newest_in {C = C} id log x e = go (find (is_call id) (reverse log)) refl e
  where
    of_entry : (z : Entry C) → In z log → executed_in z ≡ Some x → In (Called x) log
    of_entry (Called y) i f = let same : y ≡ x = cc in subst (λ v. In (Called v) log) same i
    of_entry (Reset r) i f = absurd cc

    go : (z : Option (Entry C)) → find (is_call id) (reverse log) ≡ z → option_and_then executed_in z ≡ Some x → In (Called x) log
    go None s f = absurd cc
    go (Some z) s f = of_entry z (in_reverse z log (found_in (is_call id) (reverse log) z s)) f

pub in_called : {C : Type 0} (log : List (Entry C)) (x : Executed C) → In (Called x) log → In (name (asked_of x)) (called_in log)
in_called [] x i = i
in_called (Called y ∷ log) x (inl e) = inl (let same : y ≡ x = cc in ap (λ z. name (asked_of z)) same)
in_called (Called y ∷ log) x (inr i) = inr (in_called log x i)
in_called (Reset r ∷ log) x (inl e) = absurd cc
in_called (Reset r ∷ log) x (inr i) = in_called log x i

-- the call that an event brings has no name that a logged call has
abbrev pub IsNewlyNamed : {C : Type 0} → Machine C → Event C → Type 0
IsNewlyNamed {C} w event = (a : Asked C) (c : CallName) → asked_by event ≡ a ∷ [] → In c (called_in w.recorded.log) → c ≢ name a

pub arrivals_more : {C : Type 0} (es : List (Event C)) (e : Event C) → arrivals (es ++ e ∷ []) ≡ arrivals es ++ asked_by e
arrivals_more [] e = append-nil (asked_by e)
arrivals_more (x ∷ es) e = ap (λ zs. asked_by x ++ zs) (arrivals_more es e) ∙ sym (append_assoc (asked_by x) (arrivals es) (asked_by e))

-- so it is where no two calls that arrived have one name
pub newly_named : {C State : Type 0} (o : Object C State) (partition members backups : ℕ) (events : List (Event C)) (event : Event C) → NamedOnce (map name (arrivals (events ++ event ∷ [])))
    → IsNewlyNamed (run o (start partition members backups) events) event
newly_named {C} o partition members backups events event once a c asked i =
    once_apart (map name (arrivals events)) (map name (asked_by event)) c (name a)
    (subst NamedOnce (ap (map name) (arrivals_more events event) ∙ map_append name (arrivals events) (asked_by event)) once)
    (part_in (called_in w.recorded.log) (map name (arrivals events)) c (part_map name (calls_in w.recorded.log) (arrivals events) (run_part o (start partition members backups) events)) i)
    (subst (λ zs. In (name a) (map name zs)) (sym asked) (inl refl))
  where
    w : Machine C
    w = run o (start partition members backups) events

-- histories

-- the history is as it was, or has the event's call at its end
abbrev pub HistoryGoesOn : {C : Type 0} → Machine C → Pair → Event C → Machine C → Type 0
HistoryGoesOn {C} w p e u = (pair_history u p ≡ pair_history w p) ⊎ ((y : Executed C) × (asked_by e ≡ asked_of y ∷ []) × (pair_history u p ≡ pair_history w p ++ Called y ∷ []))

-- so is the log, or it has a reopening at its end
abbrev pub LogGoesOn : {C : Type 0} → Machine C → Event C → Machine C → Type 0
LogGoesOn {C} w e u =
    (u.recorded.log ≡ w.recorded.log) ⊎ ((r : ℕ) × (u.recorded.log ≡ w.recorded.log ++ Reset r ∷ []))
    ⊎ ((y : Executed C) × (asked_by e ≡ asked_of y ∷ []) × (u.recorded.log ≡ w.recorded.log ++ Called y ∷ []))

pub log_goes_on : {C State : Type 0} (o : Object C State) (w : Machine C) (e : Event C) → LogGoesOn w e (happens o w e).world
log_goes_on o w = walk o w (LogGoesOn w) (λ e ps. inl refl) (λ e m. inl refl) (λ e s st ps. inl refl) (λ e s st ps. inr (inl (w.service.row.version + 1, refl))) (λ e f t i q n j at l. inl refl)
    (λ m conn number call now n at l p f. inr (inr (entry_of o (pair_state o w n.pair) conn number call now (executing (o.changes (pair_state o w n.pair) call now) conn number n).pair, refl, refl)))

module _ {C State : Type 0} (o : Object C State) (w : Machine C) (made : List Shape) (inv : Invariant o w made) (p : Pair) (begun : IsBase w.recorded.bases p.version) where
  pub based_on : (b : Bool) (base : Base) → (b ≡ true → Falling (w.service.row.version + 1) (base ∷ w.recorded.bases) × (1 ≤ base.version))
      → history w.recorded.openings w.recorded.log (cond b (base ∷ w.recorded.bases) w.recorded.bases) p ≡ pair_history w p
  based_on true base f = let h = f refl in history_added w.recorded.openings w.recorded.log w.recorded.bases p base (w.service.row.version + 1) (inr begun) h.0 h.1
  based_on false base f = refl

  pub delivered_on : (ps : List Packet) (inv' : Invariant o (with_packets w ps) made) (q : Packet) (n : Node) → NodeAt w.nodes q.to n → is_among w.crashed q.to ≡ false → PacketOk w.nodes w.recorded.bases made w.crashed q.from q.message
      → pair_history (delivered (with_packets w ps) q n).world p ≡ pair_history w p
  delivered_on ps inv' q n at lives g = based_on (is_newer a.known n && is_primary a.known q.to) b falls
    where
      a : Node
      a = (taking w.members q.to q.from q.message n).node

      b : Base
      b = record { version = a.known.version; reset = a.known.reset; pair = cond (nat_lt n.pair.version a.known.reset) no_pair n.pair }

      done : Good o (delivered (with_packets w ps) q n).world
      done = delivered_good o (with_packets w ps) made inv' q n at lives g

      falls : (is_newer a.known n && is_primary a.known q.to) ≡ true → Falling (w.service.row.version + 1) (b ∷ w.recorded.bases) × (1 ≤ b.version)
      falls e =
          let same : bases_after q.to n a w.recorded.bases ≡ b ∷ w.recorded.bases = rw e refl in
          (subst (λ bs. Falling (w.service.row.version + 1) bs) same done.1.frame.falling, base_positive o (delivered (with_packets w ps) q n).world done.0 done.1 b (subst (λ bs. In b bs) (sym same) (inl refl)))

  pub others_reset : Every (IsOtherReset (w.service.row.version + 1)) w.recorded.bases
  others_reset = every_from_in (IsOtherReset (w.service.row.version + 1)) w.recorded.bases one
    where
      one : (b : Base) → In b w.recorded.bases → b.reset ≢ w.service.row.version + 1
      one b i = let k : BaseOk w.nodes made b = every_in (BaseOk w.nodes made) w.recorded.bases b inv.frame.bases i in
          let a = inv.frame.rows.old_reset k.row k.made_row in let c = inv.frame.rows.newest_top k.row k.made_row in omega (arith, a, c, k.reset)

  -- a call that the pair counts stands last
  module _ (m : ℕ) (n : Node) (at : NodeAt w.nodes m n) (lives : is_among w.crashed m ≡ false) (leads : is_primary n.known m ≡ true) (thawed : n.frozen ≡ false)
      (x : Executed C) (c r : ℕ) (h : Held) (more : n.pair.count ≤ c) (version : x.version ≡ n.pair.version) (seen : x.seen ≡ c) (conn : x.conn ≡ h.conn) (number : x.number ≡ h.number) (held_seen : h.seen ≡ c)
      (reply : x.reply ≡ o.reply (state_after o o.empty (history w.recorded.openings w.recorded.log w.recorded.bases n.pair)) x.call x.now) where
    pub called_on : (history w.recorded.openings (w.recorded.log ++ Called x ∷ []) w.recorded.bases p ≡ pair_history w p)
        ⊎ (history w.recorded.openings (w.recorded.log ++ Called x ∷ []) w.recorded.bases p ≡ pair_history w p ++ Called x ∷ [])
    called_on = go (cases (is_in_pair p (Called x)))
      where
        lg : List (Entry C)
        lg = w.recorded.log ++ Called x ∷ []

        begins : start_at w.recorded.openings lg w.recorded.bases p.version ≡ start_at w.recorded.openings w.recorded.log w.recorded.bases p.version
        begins = states.start_kept o w made inv m n at lives leads thawed x c r h more version seen conn number held_seen reply p.version

        before : pair_history w p ≡ start_at w.recorded.openings w.recorded.log w.recorded.bases p.version ++ entries_in p w.recorded.log
        before = history_base w.recorded.openings w.recorded.log w.recorded.bases p (w.service.row.version + 1) inv.frame.falling begun

        now : history w.recorded.openings lg w.recorded.bases p ≡ start_at w.recorded.openings w.recorded.log w.recorded.bases p.version ++ entries_in p lg
        now = history_base w.recorded.openings lg w.recorded.bases p (w.service.row.version + 1) inv.frame.falling begun ∙ ap (λ es. es ++ entries_in p lg) begins

        go : (is_in_pair p (Called x) ≡ true) ⊎ (is_in_pair p (Called x) ≡ false)
            → (history w.recorded.openings lg w.recorded.bases p ≡ pair_history w p) ⊎ (history w.recorded.openings lg w.recorded.bases p ≡ pair_history w p ++ Called x ∷ [])
        go (inl e) = inr (now ∙ ap (λ es. start_at w.recorded.openings w.recorded.log w.recorded.bases p.version ++ es) (filter_keeps (is_in_pair p) w.recorded.log (Called x) e)
            ∙ sym (append_assoc (start_at w.recorded.openings w.recorded.log w.recorded.bases p.version) (entries_in p w.recorded.log) (Called x ∷ [])) ∙ ap (λ es. es ++ Called x ∷ []) (sym before))
        go (inr e) = inl (now ∙ ap (λ es. start_at w.recorded.openings w.recorded.log w.recorded.bases p.version ++ es) (filter_out (is_in_pair p) w.recorded.log (Called x) e) ∙ sym before)

  pub executed_on : (m conn number : ℕ) (call : C) (now : ℕ) (n : Node) → NodeAt w.nodes m n → is_among w.crashed m ≡ false → is_primary n.known m ≡ true → n.frozen ≡ false → (b : Bool)
      → HistoryGoesOn w p (Call m conn number call now) (executed_with o w m conn number call now (pair_state o w n.pair) b (executing b conn number n)).world
  executed_on m conn number call now n at lives leads thawed true =
      let x : Executed C = entry_of o (pair_state o w n.pair) conn number call now (executing true conn number n).pair in
      ⊎_elim (λ e. inl e) (λ e. inr (x, refl, e))
      (called_on m n at lives leads thawed x (n.pair.count + 1) (n.recent + 1) (record { conn = conn; number = number; seen = n.pair.count + 1 }) (omega arith) refl refl refl refl refl refl)
  executed_on m conn number call now n at lives leads thawed false =
      let x : Executed C = entry_of o (pair_state o w n.pair) conn number call now (executing false conn number n).pair in
      ⊎_elim (λ e. inl e) (λ e. inr (x, refl, e))
      (called_on m n at lives leads thawed x n.pair.count n.recent (record { conn = conn; number = number; seen = n.pair.count }) (le_refl n.pair.count) refl refl refl refl refl refl)

  -- whatever happens
  pub history_goes_on : (e : Event C) → HistoryGoesOn w p e (happens o w e).world
  history_goes_on = walk o w (HistoryGoesOn w p) (λ e ps. inl refl) (λ e m. inl refl) (λ e s st ps. inl refl)
      (λ e s st ps. inl (history_reset (record { reset = w.service.row.version + 1; entries = trail w ++ Reset (w.service.row.version + 1) ∷ [] }) w.recorded.openings w.recorded.log w.recorded.bases p others_reset))
      (λ e f t i q n j at l. inl (delivered_on (taken_out f t i w.packets) (fewer o w made inv f t i) q n at l (every_in (λ (q : Packet). PacketOk w.nodes w.recorded.bases made w.crashed q.from q.message) w.packets q inv.frame.packets j)))
      (λ m conn number call now n at l k f. executed_on m conn number call now n at l k f (o.changes (pair_state o w n.pair) call now))

-- answers

module _ {C State : Type 0} (o : Object C State) (change_of : State → C → ℕ → Option Change) (w : Machine C) (good : Good o w) (event : Event C) (new : IsNewlyNamed w event) where
  abbrev pub next : Machine C
  next = (happens o w event).world

  -- the state in which a logged call was executed stays
  pub before_stays : (x : Executed C) → In (Called x) w.recorded.log → state_before o next x ≡ state_before o w x
  before_stays x i = go (history_goes_on o w good.0 good.1 p begun event)
    where
      p : Pair
      p = record { version = x.version; count = x.seen }

      ok : EntryOk w.nodes w.recorded.bases (Called x)
      ok = every_in (EntryOk w.nodes w.recorded.bases) w.recorded.log (Called x) good.1.frame.log i

      begun : IsBase w.recorded.bases x.version
      begun = ok.0

      go : HistoryGoesOn w p event next → state_before o next x ≡ state_before o w x
      go (inl e) = ap (λ es. state_after o o.empty (before_last (is_call (id_of x)) es)) e
      go (inr (y, asked, e)) =
          ap (λ es. state_after o o.empty (before_last (is_call (id_of x)) es)) e
          ∙ ap (state_after o o.empty) (before_more (is_call (id_of x)) (pair_history w p) (Called y) (ids_apart x y (new (asked_of y) (name (asked_of x)) asked (in_called w.recorded.log x i))))

  pub answer_stays : (x : Executed C) → In (Called x) w.recorded.log → answer_of o change_of next x ≡ answer_of o change_of w x
  answer_stays x i = ap (λ s. record { id = id_of x; version = x.version; seen = x.seen; reply = x.reply; change = change_of s x.call x.now }) (before_stays x i)

  -- the newest call of a logged name stays
  pub newest_call_stays : (h : Held) → In (answered_call h) (called_in w.recorded.log) → newest_call (record { conn = h.conn; number = h.number }) next.recorded.log ≡ newest_call (record { conn = h.conn; number = h.number }) w.recorded.log
  newest_call_stays h i = go (log_goes_on o w event)
    where
      id : CallId
      id = record { conn = h.conn; number = h.number }

      go : LogGoesOn w event next → newest_call (record { conn = h.conn; number = h.number }) next.recorded.log ≡ newest_call (record { conn = h.conn; number = h.number }) w.recorded.log
      go (inl e) = ap (newest_call id) e
      go (inr (inl (r, e))) = ap (newest_call id) e ∙ newest_stays id w.recorded.log (Reset r) refl
      go (inr (inr (y, asked, e))) = ap (newest_call id) e ∙ newest_stays id w.recorded.log (Called y) (held_apart h y (new (asked_of y) (answered_call h) asked i))

  -- So an answer of a logged call stays what it was
  pub held_answer_stays : (h : Held) → In (answered_call h) (called_in w.recorded.log) → held_answer o change_of next h ≡ held_answer o change_of w h
  held_answer_stays h i = ap (option_map (answer_of o change_of next)) (newest_call_stays h i) ∙ go (newest_call id w.recorded.log) refl
    where
      id : CallId
      id = record { conn = h.conn; number = h.number }

      go : (x : Option (Executed C)) → newest_call id w.recorded.log ≡ x → option_map (answer_of o change_of next) x ≡ option_map (answer_of o change_of w) x
      go None e = refl
      go (Some x) e = ap Some (answer_stays x (newest_in id w.recorded.log x e))

  -- and so does each that a member holds, and each that was released
  module _ (single : Single w) where
    pub node_answer_stays : (m : ℕ) (n : Node) (h : Held) → NodeAt w.nodes m n → In h n.held → held_answer o change_of next h ≡ held_answer o change_of w h
    node_answer_stays m n h at i = held_answer_stays h (single.held_called m n h at i)

    pub released_answer_stays : (h : Held) → In h w.released → held_answer o change_of next h ≡ held_answer o change_of w h
    released_answer_stays h i = held_answer_stays h (single.released_called h i)

-- the answer of the call that is executed now
module _ {C State : Type 0} (o : Object C State) (change_of : State → C → ℕ → Option Change) (w : Machine C) (good : Good o w) (m conn number : ℕ) (call : C) (now : ℕ) (n : Node)
    (lives : is_live w m ≡ true) (there : NodeAt w.nodes m n) (executed : reached m n ≡ Executes) where
  abbrev pub before : State
  before = pair_state o w n.pair

  abbrev pub after : Node
  after = executing (o.changes before call now) conn number n

  abbrev pub then : Machine C
  then = (happens o w (Call m conn number call now)).world

  pub then_is : then ≡ (executes o w m conn number call now n).world
  then_is = ap (λ (h : Happened C). h.world) (call_executed o w m conn number call now n lives there executed)

  abbrev pub entry : Bool → Executed C
  entry b = entry_of o before conn number call now (executing b conn number n).pair

  abbrev pub run_with : Bool → Machine C
  run_with b = (executed_with o w m conn number call now before b (executing b conn number n)).world

  pub alive : is_among w.crashed m ≡ false
  alive = not_true (is_among w.crashed m) (both_right (nat_lt m w.members) (not (is_among w.crashed m)) lives)

  pub history_with : (b : Bool) → pair_history (run_with b) (executing b conn number n).pair ≡ pair_history w n.pair ++ Called (entry b) ∷ []
  history_with true =
      states.history_gains o w good.0 good.1 m n there alive (reached_leads m n executed).1 (reached_leads m n executed).2 (entry true) (n.pair.count + 1) (n.recent + 1)
      (record { conn = conn; number = number; seen = n.pair.count + 1 }) (omega arith) refl refl refl refl refl refl
  history_with false =
      states.history_gains o w good.0 good.1 m n there alive (reached_leads m n executed).1 (reached_leads m n executed).2 (entry false) n.pair.count n.recent
      (record { conn = conn; number = number; seen = n.pair.count }) (le_refl n.pair.count) refl refl refl refl refl refl

  pub before_with : (b : Bool) → state_before o (run_with b) (entry b) ≡ before
  before_with b = ap (λ es. state_after o o.empty (before_last (is_call (id_of (entry b))) es)) (history_with b) ∙ ap (state_after o o.empty) (before_newest (pair_history w n.pair) (entry b))

  -- the answer of the executed call
  abbrev pub answer : CallAnswer
  answer = record {
    id = record { conn = conn; number = number };
    version = after.pair.version;
    seen = after.pair.count;
    reply = o.reply before call now;
    change = change_of before call now;
  }

  pub called_answer : held_answer o change_of then (record { conn = conn; number = number; seen = after.pair.count }) ≡ Some answer
  called_answer =
      ap (λ (u : Machine C). held_answer o change_of u (record { conn = conn; number = number; seen = after.pair.count })) then_is
      ∙ ap (option_map (answer_of o change_of (run_with changes))) (newest_last w.recorded.log (entry changes))
      ∙ ap (λ s. Some (record { id = record { conn = conn; number = number }; version = after.pair.version; seen = after.pair.count; reply = o.reply before call now; change = change_of s call now })) (before_with changes)
    where
      changes : Bool
      changes = o.changes before call now

-- what a step releases

pub released_more : {C State : Type 0} (o : Object C State) (change_of : State → C → ℕ → Option Change) (w u : Machine C) (hs : List Held) → u.released ≡ w.released ++ hs → released_by o change_of w u ≡ filter_map (held_answer o change_of u) hs
released_more o change_of w u hs e = ap (filter_map (held_answer o change_of u)) (ap (drop (length w.released)) e ∙ drop-append_seam w.released hs)

-- answers that are those of what is held
pub answers_of_held : {C State : Type 0} (o : Object C State) (change_of : State → C → ℕ → Option Change) (u : Machine C) (hs : List Held) (answers : List CallAnswer)
    → map (held_answer o change_of u) hs ≡ map (λ a. Some a) answers → filter_map (held_answer o change_of u) hs ≡ answers
answers_of_held o change_of u [] [] e = refl
answers_of_held o change_of u [] (a ∷ answers) e = absurd cc
answers_of_held o change_of u (h ∷ hs) [] e = absurd cc
answers_of_held o change_of u (h ∷ hs) (a ∷ answers) e =
    let first : held_answer o change_of u h ≡ Some a = cc in
    let rest : map (held_answer o change_of u) hs ≡ map (λ a. Some a) answers = cc in
    ap (λ x. cons_option x (filter_map (held_answer o change_of u) hs)) first ∙ ap (λ xs. a ∷ xs) (answers_of_held o change_of u hs answers rest)

-- answers, each of which is that of what is held for it
pub answers_of_each : {C State : Type 0} (o : Object C State) (change_of : State → C → ℕ → Option Change) (u : Machine C) (held_for : CallAnswer → Held) (answers : List CallAnswer)
    → Every (λ a. held_answer o change_of u (held_for a) ≡ Some a) answers → filter_map (held_answer o change_of u) (map held_for answers) ≡ answers
answers_of_each o change_of u held_for [] h = refl
answers_of_each o change_of u held_for (a ∷ answers) h =
    ap (λ x. cons_option x (filter_map (held_answer o change_of u) (map held_for answers))) h.0 ∙ ap (λ xs. a ∷ xs) (answers_of_each o change_of u held_for answers h.1)

-- where no two calls that arrived have one name, each answer is of a logged call
pub answers_single : {C State : Type 0} (o : Object C State) (partition members backups : ℕ) (events : List (Event C)) (event : Event C) → NamedOnce (map name (arrivals (events ++ event ∷ [])))
    → Single (run o (start partition members backups) events)
answers_single o partition members backups events event once =
    run_single o (start partition members backups) events (start_single partition members backups)
    (once_left (map name (arrivals events)) (map name (asked_by event)) (subst NamedOnce (ap (map name) (arrivals_more events event) ∙ map_append name (arrivals events) (asked_by event)) once))

-- a member's step releases what its node does
module _ {C State : Type 0} (o : Object C State) (change_of : State → C → ℕ → Option Change) (w : Machine C) where
  pub taken_released : (f m i : ℕ) (msg : Message) (n : Node) → slice_get (link f m w.packets) i ≡ Some (packet f m msg) → is_live w m ≡ true → NodeAt w.nodes m n
      → let a = (taking w.members m f msg n).node in
      let u = (happens o w (Deliver f m i)).world in
      released_by o change_of w u ≡ filter_map (held_answer o change_of u) (now_released a a.held)
  taken_released f m i msg n at lives there =
      let a = (taking w.members m f msg n).node in
      let h = deliver_live o w f m i msg at n (member_apart w m lives) lives there in
      released_more o change_of w (happens o w (Deliver f m i)).world (now_released a a.held) (ap (λ (h : Happened C). h.world.released) h)

  pub called_released : (m conn number : ℕ) (call : C) (now : ℕ) (n : Node) → is_live w m ≡ true → NodeAt w.nodes m n → reached m n ≡ Executes
      → let a = executing (o.changes (pair_state o w n.pair) call now) conn number n in
      let u = (happens o w (Call m conn number call now)).world in
      released_by o change_of w u ≡ filter_map (held_answer o change_of u) (now_released a a.held)
  called_released m conn number call now n lives there executed =
      let a = executing (o.changes (pair_state o w n.pair) call now) conn number n in
      let h = call_executed o w m conn number call now n lives there executed in
      released_more o change_of w (happens o w (Call m conn number call now)).world (now_released a a.held) (ap (λ (h : Happened C). h.world.released) h)
