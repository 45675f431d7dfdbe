-- The facts of a node are those read off the messages that it took.
use Rattle.partition_protocol.proofs.Adopt.{adopted_known, and_false}
use Rattle.std.proofs.Common.{◌≡◌, ◌≢◌, ℕ, ◌<◌, ◌≤◌, max, Bool, true, false, cond, ◌&&◌, ◌||◌, ◌==◌, List, [], ◌∷◌, ◌++◌, Option, Some, None, nat_lt, slice_get, slice_set, filter, flat_map, refl, ap, sym, ◌∙◌, subst, ◌⊎◌, inl, inr, arith, le_refl, le_trans, append-nil, append_assoc}
use Rattle.std.specs.List.{list_any}
use Rattle.grid_base.specs.Objects.{Object}
use Rattle.partition_table.specs.declared.Row.{Row}
use Rattle.partition_table.specs.Rows.{is_primary, is_backup, initial_row}
use Rattle.partition_protocol.specs.Messages.{Message, NewRow, Sync, Effect, Bridge, Ack, Joined as JoinedMessage, Freeze, Frozen as FrozenMessage, Packet}
use Rattle.partition_protocol.specs.Node.{Acknowledged, Node, acked_by, or_opening, with_ack, settled, opening_node, no_pair}
use Rattle.partition_protocol.specs.Adoption.{adopted_row, adopt_as_primary, adopt_as_other, begun, stays_primary, carried_answers}
use Rattle.partition_protocol.specs.Replica.{is_newer, taking}
use Rattle.partition_protocol.specs.Execution.{executing}
use Rattle.partition_protocol.specs.World.{World, start, is_live, pair_state}
use Rattle.partition_protocol.specs.Links.{link, taken_out, with_packets}
use Rattle.partition_protocol.specs.Events.{Event, Deliver, delivered, happens, run, Lose, Repeat, Resend, Crash, Detect, BeginHandover, Advance, Reopen}
use Rattle.partition_protocol.specs.ReadOff.{handed_by, taken_by, row_in, newest, known_by, Came, as_they_came, is_to_primary, count_in, counts_by, greatest, is_freeze, is_frozen_by, IsReadOff, EveryFactIsReadOff, greater}
use Rattle.partition_protocol.proofs.Lists.{cases, get_set, on_cond, on_if}
use Rattle.partition_protocol.proofs.Invariant.{NodeAt}
use Rattle.partition_protocol.proofs.RowFacts.{both, both_left, both_right, not_both, less, is_not_less, same_number, number_same, number_other, false_or_not, number_cases}
use Rattle.partition_protocol.proofs.Takings.{brought, IsUnmoved, every_taking}
use Rattle.partition_protocol.proofs.EventCases.{EventCases, every_event}
use Rattle.partition_protocol.proofs.Theorem.{opened_node}

-- lists that end in one more

pub flat_append : {X Y : Type 0} (f : X → List Y) (xs ys : List X) → flat_map f (xs ++ ys) ≡ flat_map f xs ++ flat_map f ys
flat_append f [] ys = refl
flat_append f (x ∷ xs) ys = ap (λ zs. f x ++ zs) (flat_append f xs ys) ∙ sym (append_assoc (f x) (flat_map f xs) (flat_map f ys))

pub any_append : {X : Type 0} (t : X → Bool) (xs : List X) (x : X) → list_any t (xs ++ x ∷ []) ≡ (list_any t xs || t x)
any_append t [] x = go (t x)
  where
    go : (b : Bool) → (b || false) ≡ (false || b)
    go true = refl
    go false = refl
any_append t (y ∷ xs) x = ap (λ b. t y || b) (any_append t xs x) ∙ go (t y) (list_any t xs) (t x)
  where
    go : (a b c : Bool) → (a || (b || c)) ≡ ((a || b) || c)
    go true b c = refl
    go false b c = refl

pub newest_append : (row : Row) (rs qs : List Row) → newest row (rs ++ qs) ≡ newest (newest row rs) qs
newest_append row [] qs = refl
newest_append row (r ∷ rs) qs = newest_append (cond (nat_lt row.version r.version) r row) rs qs

pub newest_later : (row : Row) (rs : List Row) → row.version ≤ (newest row rs).version
newest_later row [] = le_refl row.version
newest_later row (r ∷ rs) = le_trans (on_cond (λ (x : Row). row.version ≤ x.version) (nat_lt row.version r.version) r row (λ e. (let l = less row.version r.version e in omega (arith, l))) (λ e. le_refl row.version)) (newest_later (cond (nat_lt row.version r.version) r row) rs)

pub known_first : (row : Row) (p : Packet) (ps : List Packet) → known_by row (p ∷ ps) ≡ known_by (newest row (row_in p.message)) ps
known_first row p ps = newest_append row (row_in p.message) (flat_map (λ (q : Packet). row_in q.message) ps)

pub known_more : (row : Row) (ps : List Packet) (p : Packet) → known_by row (ps ++ p ∷ []) ≡ newest (known_by row ps) (row_in p.message)
known_more row ps p =
    ap (newest row) (flat_append (λ (q : Packet). row_in q.message) ps (p ∷ []))
    ∙ newest_append row (flat_map (λ (q : Packet). row_in q.message) ps) (row_in p.message ++ [])
    ∙ ap (newest (known_by row ps)) (append-nil (row_in p.message))

-- a message as it comes
abbrev pub came : Row → Packet → Came
came row p = record { row = row; from = p.from; message = p.message }

pub came_more : (row : Row) (ps : List Packet) (p : Packet) → as_they_came row (ps ++ p ∷ []) ≡ as_they_came row ps ++ came (known_by row ps) p ∷ []
came_more row [] p = refl
came_more row (q ∷ ps) p =
    ap (λ xs. came row q ∷ xs) (came_more (newest row (row_in q.message)) ps p)
    ∙ ap (λ r. came row q ∷ (as_they_came (newest row (row_in q.message)) ps ++ came r p ∷ [])) (sym (known_first row q ps))

pub counts_more : (m b v : ℕ) (row : Row) (ps : List Packet) (p : Packet) → counts_by m b v row (ps ++ p ∷ []) ≡ counts_by m b v row ps ++ count_in m b v (known_by row ps) p.from p.message
counts_more m b v row ps p =
    let f : Came → List ℕ = λ x. count_in m b v x.row x.from x.message in
    ap (flat_map f) (came_more row ps p) ∙ flat_append f (as_they_came row ps) (came (known_by row ps) p ∷ []) ∙ ap (λ cs. counts_by m b v row ps ++ cs) (append-nil (count_in m b v (known_by row ps) p.from p.message))

pub frozen_more : (m v : ℕ) (row : Row) (ps : List Packet) (p : Packet) → is_frozen_by m v row (ps ++ p ∷ []) ≡ (is_frozen_by m v row ps || is_freeze m v (known_by row ps) p.message)
frozen_more m v row ps p =
    let f : Came → Bool = λ x. is_freeze m v x.row x.message in
    ap (list_any f) (came_more row ps p) ∙ any_append f (as_they_came row ps) (came (known_by row ps) p)

-- the greatest count

pub greater_swap : (c d : ℕ) (x : Option ℕ) → greater d (greater c x) ≡ greater c (greater d x)
greater_swap c d None = let e : max d c ≡ max c d = omega arith in ap (λ k. Some k) e
greater_swap c d (Some k) = let e : max d (max c k) ≡ max c (max d k) = omega arith in ap (λ z. Some z) e

pub greatest_more : (cs : List ℕ) (c : ℕ) → greatest (cs ++ c ∷ []) ≡ greater c (greatest cs)
greatest_more [] c = refl
greatest_more (d ∷ cs) c = ap (greater d) (greatest_more cs c) ∙ greater_swap c d (greatest cs)

pub ack_same : (m c : ℕ) (acks : List Acknowledged) → acked_by m (with_ack m c acks) ≡ greater c (acked_by m acks)
ack_same m c [] = rw (number_same m m refl) refl
ack_same m c (a ∷ acks) = go (cases (a.member == m)) (ack_same m c acks)
  where
    go : ((a.member == m) ≡ true) ⊎ ((a.member == m) ≡ false) → acked_by m (with_ack m c acks) ≡ greater c (acked_by m acks) → acked_by m (with_ack m c (a ∷ acks)) ≡ greater c (acked_by m (a ∷ acks))
    go (inl e) h = rw (e, acked_by, with_ack) (rw (number_same m m refl) refl)
    go (inr e) h = rw (e, acked_by, with_ack) (rw (e, acked_by) h)

pub ack_other : (b m c : ℕ) (acks : List Acknowledged) → b ≢ m → acked_by b (with_ack m c acks) ≡ acked_by b acks
ack_other b m c [] d = rw (number_other m b (λ e. d (sym e))) refl
ack_other b m c (a ∷ acks) d = go (cases (a.member == m)) (ack_other b m c acks d)
  where
    go : ((a.member == m) ≡ true) ⊎ ((a.member == m) ≡ false) → acked_by b (with_ack m c acks) ≡ acked_by b acks → acked_by b (with_ack m c (a ∷ acks)) ≡ acked_by b (a ∷ acks)
    go (inl e) h =
        let first : (m == b) ≡ false = number_other m b (λ z. d (sym z)) in
        let old : (a.member == b) ≡ false = number_other a.member b (λ z. d (sym z ∙ same_number a.member m e)) in
        rw (e, with_ack) (rw (first, old) refl)
    go (inr e) h = rw (e, with_ack) (ap (λ x. cond (a.member == b) (Some a.count) x) h)

-- what a version heard before it began

pub not_its_primary : (m v : ℕ) (row : Row) → row.version ≢ v → is_to_primary m v row ≡ false
not_its_primary m v row d = rw (number_other row.version v d) refl

pub no_count : (m b v : ℕ) (row : Row) (from : ℕ) (msg : Message) → row.version ≢ v → count_in m b v row from msg ≡ []
no_count m b v row from (Ack u c) d = rw (and_false (u == v) (is_to_primary m v row) (not_its_primary m v row d)) refl
no_count m b v row from (NewRow r) d = refl
no_count m b v row from (Sync r c) d = refl
no_count m b v row from (Effect u i) d = refl
no_count m b v row from (Bridge r e k) d = refl
no_count m b v row from (JoinedMessage u k) d = refl
no_count m b v row from (Freeze u) d = refl
no_count m b v row from (FrozenMessage u) d = refl

pub no_freeze : (m v : ℕ) (row : Row) (msg : Message) → row.version ≢ v → is_freeze m v row msg ≡ false
no_freeze m v row (Freeze u) d = and_false (u == v) (is_to_primary m v row) (not_its_primary m v row d)
no_freeze m v row (NewRow r) d = refl
no_freeze m v row (Sync r c) d = refl
no_freeze m v row (Effect u i) d = refl
no_freeze m v row (Bridge r e k) d = refl
no_freeze m v row (Ack u c) d = refl
no_freeze m v row (JoinedMessage u k) d = refl
no_freeze m v row (FrozenMessage u) d = refl

pub first_below : (row : Row) (ps : List Packet) (v : ℕ) → (known_by row ps).version < v → row.version ≢ v
first_below row ps v l = let k = newest_later row (flat_map (λ (p : Packet). row_in p.message) ps) in omega (arith, k, l)

pub counts_none : (m b v : ℕ) (row : Row) (ps : List Packet) → (known_by row ps).version < v → counts_by m b v row ps ≡ []
counts_none m b v row [] l = refl
counts_none m b v row (p ∷ ps) l =
    ap (λ cs. cs ++ counts_by m b v (newest row (row_in p.message)) ps) (no_count m b v row p.from p.message (first_below row (p ∷ ps) v l))
    ∙ counts_none m b v (newest row (row_in p.message)) ps (subst (λ (r : Row). r.version < v) (known_first row p ps) l)

pub frozen_none : (m v : ℕ) (row : Row) (ps : List Packet) → (known_by row ps).version < v → is_frozen_by m v row ps ≡ false
frozen_none m v row [] l = refl
frozen_none m v row (p ∷ ps) l =
    ap (λ b. b || is_frozen_by m v (newest row (row_in p.message)) ps) (no_freeze m v row p.message (first_below row (p ∷ ps) v l))
    ∙ frozen_none m v (newest row (row_in p.message)) ps (subst (λ (r : Row). r.version < v) (known_first row p ps) l)

-- a message that leaves what is known and heard

pub unmoved_row : (m from : ℕ) (msg : Message) (n : Node) → IsUnmoved m from msg n → newest n.known (row_in msg) ≡ n.known
unmoved_row m from (NewRow row) n u = rw u refl
unmoved_row m from (Sync row c) n u = rw u refl
unmoved_row m from (Bridge row e k) n u = rw u refl
unmoved_row m from (Effect v i) n u = refl
unmoved_row m from (Ack v c) n u = refl
unmoved_row m from (JoinedMessage v b) n u = refl
unmoved_row m from (Freeze v) n u = refl
unmoved_row m from (FrozenMessage v) n u = refl

pub or_none : (a : Bool) → (a || false) ≡ a
or_none true = refl
or_none false = refl

pub unmoved_count : (m b from : ℕ) (msg : Message) (n : Node) → IsUnmoved m from msg n → count_in m b n.known.version n.known from msg ≡ []
unmoved_count m b from (Ack v c) n u = rw (false_or_not ((v == n.known.version) && is_to_primary m n.known.version n.known && (from == b) && is_backup n.known b) counted) refl
  where
    counted : ((v == n.known.version) && is_to_primary m n.known.version n.known && (from == b) && is_backup n.known b) ≡ true → ⊥
    counted e =
        let three = both_left ((v == n.known.version) && is_to_primary m n.known.version n.known && (from == b)) (is_backup n.known b) e in
        let two = both_left ((v == n.known.version) && is_to_primary m n.known.version n.known) (from == b) three in
        let version = sym (same_number v n.known.version (both_left (v == n.known.version) (is_to_primary m n.known.version n.known) two)) in
        let primary = both_right (n.known.version == n.known.version) (is_primary n.known m) (both_right (v == n.known.version) (is_to_primary m n.known.version n.known) two) in
        let sender = same_number from b (both_right ((v == n.known.version) && is_to_primary m n.known.version n.known) (from == b) three) in
        let backup = subst (λ k. is_backup n.known k ≡ true) (sym sender) (both_right ((v == n.known.version) && is_to_primary m n.known.version n.known && (from == b)) (is_backup n.known b) e) in
        not_both (is_primary n.known m && (n.known.version == v) && is_backup n.known from) (both (is_primary n.known m && (n.known.version == v)) (is_backup n.known from) (both (is_primary n.known m) (n.known.version == v) primary (number_same n.known.version v version)) backup) u
unmoved_count m b from (NewRow row) n u = refl
unmoved_count m b from (Sync row c) n u = refl
unmoved_count m b from (Bridge row e k) n u = refl
unmoved_count m b from (Effect v i) n u = refl
unmoved_count m b from (JoinedMessage v k) n u = refl
unmoved_count m b from (Freeze v) n u = refl
unmoved_count m b from (FrozenMessage v) n u = refl

pub unmoved_freeze : (m from : ℕ) (msg : Message) (n : Node) → IsUnmoved m from msg n → is_freeze m n.known.version n.known msg ≡ false
unmoved_freeze m from (Freeze v) n u = false_or_not ((v == n.known.version) && is_to_primary m n.known.version n.known) frozen
  where
    frozen : ((v == n.known.version) && is_to_primary m n.known.version n.known) ≡ true → ⊥
    frozen e =
        let version = sym (same_number v n.known.version (both_left (v == n.known.version) (is_to_primary m n.known.version n.known) e)) in
        let primary = both_right (n.known.version == n.known.version) (is_primary n.known m) (both_right (v == n.known.version) (is_to_primary m n.known.version n.known) e) in
        not_both (is_primary n.known m && (n.known.version == v)) (both (is_primary n.known m) (n.known.version == v) primary (number_same n.known.version v version)) u
unmoved_freeze m from (NewRow row) n u = refl
unmoved_freeze m from (Sync row c) n u = refl
unmoved_freeze m from (Bridge row e k) n u = refl
unmoved_freeze m from (Effect v i) n u = refl
unmoved_freeze m from (Ack v c) n u = refl
unmoved_freeze m from (JoinedMessage v k) n u = refl
unmoved_freeze m from (FrozenMessage v) n u = refl

-- a message that brings a row

pub brought_row : (msg : Message) (row : Row) → brought msg ≡ Some row → row_in msg ≡ row ∷ []
brought_row (NewRow r) row e = let same : r ≡ row = cc in ap (λ x. x ∷ []) same
brought_row (Sync r c) row e = let same : r ≡ row = cc in ap (λ x. x ∷ []) same
brought_row (Bridge r v k) row e = let same : r ≡ row = cc in ap (λ x. x ∷ []) same
brought_row (Effect v i) row e = absurd cc
brought_row (Ack v c) row e = absurd cc
brought_row (JoinedMessage v b) row e = absurd cc
brought_row (Freeze v) row e = absurd cc
brought_row (FrozenMessage v) row e = absurd cc

pub brought_count : (m b v : ℕ) (k : Row) (from : ℕ) (msg : Message) (row : Row) → brought msg ≡ Some row → count_in m b v k from msg ≡ []
brought_count m b v k from (NewRow r) row e = refl
brought_count m b v k from (Sync r c) row e = refl
brought_count m b v k from (Bridge r u c) row e = refl
brought_count m b v k from (Effect u i) row e = absurd cc
brought_count m b v k from (Ack u c) row e = absurd cc
brought_count m b v k from (JoinedMessage u j) row e = absurd cc
brought_count m b v k from (Freeze u) row e = absurd cc
brought_count m b v k from (FrozenMessage u) row e = absurd cc

pub brought_freeze : (m v : ℕ) (k : Row) (msg : Message) (row : Row) → brought msg ≡ Some row → is_freeze m v k msg ≡ false
brought_freeze m v k (NewRow r) row e = refl
brought_freeze m v k (Sync r c) row e = refl
brought_freeze m v k (Bridge r u c) row e = refl
brought_freeze m v k (Effect u i) row e = absurd cc
brought_freeze m v k (Ack u c) row e = absurd cc
brought_freeze m v k (JoinedMessage u j) row e = absurd cc
brought_freeze m v k (Freeze u) row e = absurd cc
brought_freeze m v k (FrozenMessage u) row e = absurd cc

-- a node that has heard nothing in a row that isn't the first
pub record IsPlain (a : Node) : Type 0 where
  pub acks : a.acks ≡ []
  pub opening : a.opening ≡ false
  pub frozen : a.frozen ≡ false

-- what a node has of the messages so far

pub record Heard (row : Row) (m : ℕ) (ps : List Packet) (n : Node) : Type 0 where
  pub known : n.known ≡ known_by row ps
  pub counts : (b : ℕ) → acked_by b n.acks ≡ greatest (counts_by m b n.known.version row ps)
  pub opening : n.opening ≡ (n.known.version == row.version)
  pub frozen : n.frozen ≡ is_frozen_by m n.known.version row ps

module _ (row : Row) (m : ℕ) (ps : List Packet) (n : Node) (h : Heard row m ps n) (p : Packet) where
  abbrev pub more : List Packet
  more = ps ++ p ∷ []

  pub known_now : known_by row (ps ++ p ∷ []) ≡ newest n.known (row_in p.message)
  known_now = known_more row ps p ∙ ap (λ r. newest r (row_in p.message)) (sym h.known)

  pub counts_now : (b v : ℕ) → counts_by m b v row (ps ++ p ∷ []) ≡ counts_by m b v row ps ++ count_in m b v n.known p.from p.message
  counts_now b v = counts_more m b v row ps p ∙ ap (λ r. counts_by m b v row ps ++ count_in m b v r p.from p.message) (sym h.known)

  pub frozen_now : (v : ℕ) → is_frozen_by m v row (ps ++ p ∷ []) ≡ (is_frozen_by m v row ps || is_freeze m v n.known p.message)
  frozen_now v = frozen_more m v row ps p ∙ ap (λ r. is_frozen_by m v row ps || is_freeze m v r p.message) (sym h.known)

  -- the counts of the known version, where the message has none
  pub same_counts : (b : ℕ) → count_in m b n.known.version n.known p.from p.message ≡ [] → acked_by b n.acks ≡ greatest (counts_by m b n.known.version row (ps ++ p ∷ []))
  same_counts b e = h.counts b ∙ ap greatest (sym (counts_now b n.known.version ∙ ap (λ cs. counts_by m b n.known.version row ps ++ cs) e ∙ append-nil (counts_by m b n.known.version row ps)))

  pub same_frozen : is_freeze m n.known.version n.known p.message ≡ false → n.frozen ≡ is_frozen_by m n.known.version row (ps ++ p ∷ [])
  same_frozen e = h.frozen ∙ sym (frozen_now n.known.version ∙ ap (λ b. is_frozen_by m n.known.version row ps || b) e ∙ or_none (is_frozen_by m n.known.version row ps))

  pub unmoved_heard : IsUnmoved m p.from p.message n → Heard row m (ps ++ p ∷ []) n
  unmoved_heard u = record {
    known = sym (known_now ∙ unmoved_row m p.from p.message n u);
    counts = λ b. same_counts b (unmoved_count m b p.from p.message n u);
    opening = h.opening;
    frozen = same_frozen (unmoved_freeze m p.from p.message n u);
  }

  -- a newer row
  pub adopted_heard : (r : Row) → brought p.message ≡ Some r → is_newer r n ≡ true → (a : Node) → a.known ≡ r → a.acks ≡ [] → a.opening ≡ false → a.frozen ≡ false → Heard row m (ps ++ p ∷ []) a
  adopted_heard r e newer a k acks opening frozen = record {
    known = k ∙ sym (known_now ∙ ap (newest n.known) (brought_row p.message r e) ∙ rw newer refl);
    counts = λ b. ap (acked_by b) acks ∙ subst (λ (x : Row). None ≡ greatest (counts_by m b x.version row (ps ++ p ∷ []))) (sym k) (ap greatest (sym (none_counted b)));
    opening = opening ∙ subst (λ (x : Row). false ≡ (x.version == row.version)) (sym k) (sym (number_other r.version row.version past));
    frozen = frozen ∙ subst (λ (x : Row). false ≡ is_frozen_by m x.version row (ps ++ p ∷ [])) (sym k) (sym none_frozen);
  }
    where
      later : n.known.version < r.version
      later = less n.known.version r.version newer

      before : (known_by row ps).version < r.version
      before = subst (λ (x : Row). x.version < r.version) h.known later

      past : r.version ≢ row.version
      past = let l = newest_later row (flat_map (λ (q : Packet). row_in q.message) ps) in omega (arith, l, before)

      none_counted : (b : ℕ) → counts_by m b r.version row (ps ++ p ∷ []) ≡ []
      none_counted b = counts_now b r.version ∙ ap (λ cs. counts_by m b r.version row ps ++ cs) (brought_count m b r.version n.known p.from p.message r e) ∙ append-nil (counts_by m b r.version row ps) ∙ counts_none m b r.version row ps before

      none_frozen : is_frozen_by m r.version row (ps ++ p ∷ []) ≡ false
      none_frozen = frozen_now r.version ∙ ap (λ b. is_frozen_by m r.version row ps || b) (brought_freeze m r.version n.known p.message r e) ∙ or_none (is_frozen_by m r.version row ps) ∙ frozen_none m r.version row ps before

  -- an acknowledgement that counts
  pub ack_heard : (v c : ℕ) → p.message ≡ Ack v c → is_primary n.known m ≡ true → n.known.version ≡ v → is_backup n.known p.from ≡ true → Heard row m (ps ++ p ∷ []) (record n { acks = with_ack p.from c n.acks })
  ack_heard v c e leads version backup = record {
    known = sym (known_now ∙ ap (λ x. newest n.known (row_in x)) e);
    counts = counts;
    opening = h.opening;
    frozen = same_frozen (ap (is_freeze m n.known.version n.known) e);
  }
    where
      to_primary : is_to_primary m n.known.version n.known ≡ true
      to_primary = both (n.known.version == n.known.version) (is_primary n.known m) (number_same n.known.version n.known.version refl) leads

      counted : count_in m p.from n.known.version n.known p.from (Ack v c) ≡ c ∷ []
      counted = rw (number_same v n.known.version (sym version), to_primary, number_same p.from p.from refl, backup) refl

      not_counted : (b : ℕ) → b ≢ p.from → count_in m b n.known.version n.known p.from (Ack v c) ≡ []
      not_counted b d = rw (and_false ((v == n.known.version) && is_to_primary m n.known.version n.known) (p.from == b) (number_other p.from b (λ z. d (sym z)))) refl

      from_it : acked_by p.from (with_ack p.from c n.acks) ≡ greatest (counts_by m p.from n.known.version row (ps ++ p ∷ []))
      from_it = ack_same p.from c n.acks ∙ ap (greater c) (h.counts p.from) ∙ sym (greatest_more (counts_by m p.from n.known.version row ps) c)
          ∙ ap (λ cs. greatest (counts_by m p.from n.known.version row ps ++ cs)) (sym (ap (count_in m p.from n.known.version n.known p.from) e ∙ counted)) ∙ ap greatest (sym (counts_now p.from n.known.version))

      counts : (b : ℕ) → acked_by b (with_ack p.from c n.acks) ≡ greatest (counts_by m b n.known.version row (ps ++ p ∷ []))
      counts b = go (number_cases b p.from)
        where
          go : (b ≡ p.from) ⊎ (b ≢ p.from) → acked_by b (with_ack p.from c n.acks) ≡ greatest (counts_by m b n.known.version row (ps ++ p ∷ []))
          go (inl z) = subst (λ k. acked_by k (with_ack p.from c n.acks) ≡ greatest (counts_by m k n.known.version row (ps ++ p ∷ []))) (sym z) from_it
          go (inr d) = ack_other b p.from c n.acks d ∙ same_counts b (ap (count_in m b n.known.version n.known p.from) e ∙ not_counted b d)

  pub freeze_heard : (v : ℕ) → p.message ≡ Freeze v → is_primary n.known m ≡ true → n.known.version ≡ v → Heard row m (ps ++ p ∷ []) (record n { frozen = true })
  freeze_heard v e leads version = record {
    known = sym (known_now ∙ ap (λ x. newest n.known (row_in x)) e);
    counts = λ b. same_counts b (ap (count_in m b n.known.version n.known p.from) e);
    opening = h.opening;
    frozen = sym (frozen_now n.known.version ∙ ap (λ x. is_frozen_by m n.known.version row ps || is_freeze m n.known.version n.known x) e ∙ ap (λ b. is_frozen_by m n.known.version row ps || b) frozen ∙ or_all (is_frozen_by m n.known.version row ps));
  }
    where
      frozen : is_freeze m n.known.version n.known (Freeze v) ≡ true
      frozen = both (v == n.known.version) (is_to_primary m n.known.version n.known) (number_same v n.known.version (sym version)) (both (n.known.version == n.known.version) (is_primary n.known m) (number_same n.known.version n.known.version refl) leads)

      or_all : (a : Bool) → (a || true) ≡ true
      or_all true = refl
      or_all false = refl

  pub taking_heard : (service : ℕ) → Heard row m (ps ++ p ∷ []) (taking service m p.from p.message n).node
  taking_heard service = every_taking m p.from p.message n (Heard row m (ps ++ p ∷ [])) (record {
    stays = unmoved_heard;
    adopts = λ r e newer. adopted_heard r e newer (adopted_row m r n) (adopted_known m r n) (plain r).acks (plain r).opening (plain r).frozen;
    syncs = λ r c a e k v b l. record { known = k.known; counts = k.counts; opening = k.opening; frozen = k.frozen };
    bridges = λ r v c a e k z b s t. record { known = k.known; counts = k.counts; opening = k.opening; frozen = k.frozen };
    applies = λ v i e b s t. (let k = unmoved_heard (subst (λ x. IsUnmoved m p.from x n) (sym e) tt) in record { known = k.known; counts = k.counts; opening = k.opening; frozen = k.frozen });
    acks = ack_heard;
    freezes = freeze_heard;
  }) service
    where
      plain : (r : Row) → IsPlain (adopted_row m r n)
      plain r = on_if IsPlain (is_primary r m) (adopt_as_primary r (stays_primary r n m) (carried_answers m n) (begun r n)) (cond (is_backup r m) (adopt_as_other r (begun r n).pair) (adopt_as_other r no_pair)) (record { acks = refl; opening = refl; frozen = refl })
          (on_if IsPlain (is_backup r m) (adopt_as_other r (begun r n).pair) (adopt_as_other r no_pair) (record { acks = refl; opening = refl; frozen = refl }) (record { acks = refl; opening = refl; frozen = refl }))

-- what is handed over to m

abbrev pub is_for : ℕ → Packet → Bool
is_for m p = p.to == m

-- those that an event hands over to m
abbrev pub handed_to : {C : Type 0} → ℕ → World C → Event C → List Packet
handed_to m w e = filter (is_for m) (handed_by w e)

module _ {C : Type 0} (w : World C) (m f t i : ℕ) (q : Packet) (at : slice_get (link f t w.packets) i ≡ Some q) where
  pub handed : handed_by w (Deliver f t i) ≡ cond (is_live w q.to) (q ∷ []) []
  handed = rw (at, handed_by) refl

  pub handed_dead : is_live w q.to ≡ false → handed_to m w (Deliver f t i) ≡ []
  handed_dead e = ap (filter (is_for m)) handed ∙ rw e refl

  pub handed_other : q.to ≢ m → handed_to m w (Deliver f t i) ≡ []
  handed_other d = ap (filter (is_for m)) handed ∙ go (is_live w q.to)
    where
      go : (b : Bool) → filter (is_for m) (cond b (q ∷ []) []) ≡ []
      go true = rw (number_other q.to m d) refl
      go false = refl

  pub handed_live : q.to ≡ m → is_live w q.to ≡ true → handed_to m w (Deliver f t i) ≡ q ∷ []
  handed_live e l = ap (filter (is_for m)) handed ∙ rw l (rw (number_same q.to m e) refl)

  pub service_dead : q.to ≡ w.members → is_live w q.to ≡ false
  service_dead e = subst (λ k. is_live w k ≡ false) (sym e) (rw (is_not_less w.members w.members (le_refl w.members)) refl)

module _ {C State : Type 0} (o : Object C State) (row : Row) (m : ℕ) (w : World C) (ps : List Packet) (before : (n : Node) → NodeAt w.nodes m n → Heard row m ps n) where
  abbrev pub HeardAfter : Event C → World C → Type 0
  HeardAfter e u = (n : Node) → NodeAt u.nodes m n → Heard row m (ps ++ handed_to m w e) n

  -- the node is as it was, and nothing was handed over to it
  pub as_before : (e : Event C) → handed_to m w e ≡ [] → (n : Node) → NodeAt w.nodes m n → Heard row m (ps ++ handed_to m w e) n
  as_before e z n at = subst (λ qs. Heard row m (ps ++ qs) n) (sym z) (subst (λ qs. Heard row m qs n) (sym (append-nil ps)) (before n at))

  pub nothing_handed : (e : Event C) → handed_by w e ≡ [] → handed_to m w e ≡ []
  nothing_handed e z = ap (filter (is_for m)) z

  -- the settled node knows and heard the same
  pub settled_heard : (qs : List Packet) (a : Node) → Heard row m qs a → Heard row m qs (settled a)
  settled_heard qs a h = record { known = h.known; counts = h.counts; opening = h.opening; frozen = h.frozen }

  pub delivered_heard : (f t i : ℕ) (q : Packet) (n : Node) → slice_get (link f t w.packets) i ≡ Some q → NodeAt w.nodes q.to n → is_live w q.to ≡ true → HeardAfter (Deliver f t i) (delivered (with_packets w (taken_out f t i w.packets)) q n).world
  delivered_heard f t i q n at there lives x now = go (get_set w.nodes q.to m (settled a) x now)
    where
      a : Node
      a = (taking w.members q.to q.from q.message n).node

      mine : q.to ≡ m → Heard row m (ps ++ q ∷ []) a
      mine e = subst (λ k. Heard row m (ps ++ q ∷ []) (taking w.members k q.from q.message n).node) (sym e) (taking_heard row m ps n (before n (subst (λ k. NodeAt w.nodes k n) e there)) q w.members)

      go : ((m ≡ q.to) × (settled a ≡ x)) ⊎ ((m ≢ q.to) × NodeAt w.nodes m x) → Heard row m (ps ++ handed_to m w (Deliver f t i)) x
      go (inl e) = subst (λ qs. Heard row m (ps ++ qs) x) (sym (handed_live w m f t i q at (sym e.0) lives)) (subst (Heard row m (ps ++ q ∷ [])) e.1 (settled_heard (ps ++ q ∷ []) a (mine (sym e.0))))
      go (inr d) = as_before (Deliver f t i) (handed_other w m f t i q at (λ z. d.0 (sym z))) x d.1

  pub called_heard : (j conn number : ℕ) (call : C) (now : ℕ) (n : Node) (changes : Bool) → NodeAt w.nodes j n → (x : Node) → NodeAt (slice_set w.nodes j (settled (executing changes conn number n))) m x → Heard row m (ps ++ []) x
  called_heard j conn number call now n changes there x after = go (get_set w.nodes j m (settled a) x after)
    where
      a : Node
      a = executing changes conn number n

      old : (k : Node) → NodeAt w.nodes m k → Heard row m (ps ++ []) k
      old k z = subst (λ qs. Heard row m qs k) (sym (append-nil ps)) (before k z)

      go : ((m ≡ j) × (settled a ≡ x)) ⊎ ((m ≢ j) × NodeAt w.nodes m x) → Heard row m (ps ++ []) x
      go (inl e) = let h = old n (subst (λ k. NodeAt w.nodes k n) (sym e.0) there) in
          subst (Heard row m (ps ++ [])) e.1 (record { known = h.known; counts = h.counts; opening = h.opening; frozen = h.frozen })
      go (inr d) = old x d.1

  pub heard_after : EventCases o w HeardAfter
  heard_after = record {
    stays = λ e z. as_before e (nothing_handed e z);
    loses = λ f t i q at. as_before (Lose f t i) refl;
    drops = λ f t i q at z n now. dropped f t i q at z n now;
    repeats = λ f t i q at. as_before (Repeat f t i) refl;
    tells_again = as_before (Resend w.members) refl;
    sends_again = λ j n at lives p. as_before (Resend j) refl;
    crashes = λ j lives. as_before (Crash j) refl;
    detects = λ j a b c d. as_before (Detect j) refl;
    notes = λ j a b c d. as_before (Detect j) refl;
    begins = λ e source to r there z. as_before e (nothing_handed e z);
    hands_over = λ from to r. as_before (BeginHandover from to) refl;
    freezes = λ from to v p. as_before Advance refl;
    leaves = λ from to v p. as_before Advance refl;
    hands = λ from to v. as_before Advance refl;
    reopens = λ r. as_before Reopen refl;
    joins = λ f t i q v k at to e. as_before (Deliver f t i) (handed_dead w m f t i q at (service_dead w m f t i q at to));
    drains = λ f t i q v at to e. as_before (Deliver f t i) (handed_dead w m f t i q at (service_dead w m f t i q at to));
    delivers = λ f t i q n at there lives. delivered_heard f t i q n at there lives;
    calls = λ j conn number call now n at lives still leads thawed. called_heard j conn number call now n (o.changes (pair_state o w n.pair) call now) at;
  }
    where
      dropped : (f t i : ℕ) (q : Packet) → slice_get (link f t w.packets) i ≡ Some q → (is_live w q.to ≡ false) ⊎ (slice_get w.nodes q.to ≡ None) → (n : Node) → NodeAt w.nodes m n → Heard row m (ps ++ handed_to m w (Deliver f t i)) n
      dropped f t i q at (inl dead) n now = as_before (Deliver f t i) (handed_dead w m f t i q at dead) n now
      dropped f t i q at (inr none) n now = as_before (Deliver f t i) (handed_other w m f t i q at (λ e. absurd (cc (subst (λ k. slice_get w.nodes k ≡ None) e none, now)))) n now

pub run_heard : {C State : Type 0} (o : Object C State) (row : Row) (m : ℕ) (w : World C) (es : List (Event C)) (ps : List Packet) → ((n : Node) → NodeAt w.nodes m n → Heard row m ps n)
    → (n : Node) → NodeAt (run o w es).nodes m n → Heard row m (ps ++ taken_by o m w es) n
run_heard o row m w [] ps h n at = subst (λ qs. Heard row m qs n) (sym (append-nil ps)) (h n at)
run_heard o row m w (e ∷ es) ps h n at =
    subst (λ qs. Heard row m qs n) (append_assoc ps (handed_to m w e) (taken_by o m (happens o w e).world es))
    (run_heard o row m (happens o w e).world es (ps ++ handed_to m w e) (every_event o w (HeardAfter o row m w ps h) (heard_after o row m w ps h) e) n at)

pub opening_heard : (row : Row) (m : ℕ) → Heard row m [] (opening_node row m)
opening_heard row m = record { known = refl; counts = λ b. refl; opening = sym (number_same row.version row.version refl); frozen = refl }

pub heard_read_off : (row : Row) (m : ℕ) (taken : List Packet) (n : Node) → Heard row m taken n → IsReadOff row m taken n
heard_read_off row m taken n h = record {
  known = h.known;
  acked_by = λ b. ap (λ x. or_opening x (acked_by b n.acks)) h.opening ∙ ap (or_opening (n.known.version == row.version)) (h.counts b);
  frozen = h.frozen;
}

pub every_fact_is_read_off : {C State : Type 0} (o : Object C State) → EveryFactIsReadOff o
every_fact_is_read_off o partition members backups events m node at =
    let row = initial_row partition members backups in
    heard_read_off row m (taken_by o m (start partition members backups) events) node
    (run_heard o row m (start partition members backups) events [] (λ n there. subst (Heard row m []) (opened_node row members m n there) (opening_heard row m)) node at)
