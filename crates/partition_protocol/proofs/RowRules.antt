-- A member never goes back to an earlier row, and rows are lost by rule.
use Rattle.partition_protocol.proofs.Listings.{members_from_listing}
use Rattle.std.proofs.lemmas.Nat.{mod-mul-add}
use Rattle.std.proofs.Common.{◌≡◌, ◌≢◌, ℕ, zero, suc, ◌+◌, ◌%◌, ◌<◌, ◌≤◌, Bool, true, false, cond, not, ◌&&◌, ◌==◌, List, [], ◌∷◌, Option, Some, None, nat_lt, slice_set, refl, ap, sym, ◌∙◌, subst, ◌⊎◌, ⊎_elim, inl, inr, arith, true≢false, mod-lt, ◌*◌, ◌/◌, ◌-◌}
use Rattle.std.specs.Prelude.{◌↔◌}
use Rattle.std.proofs.Math.Nat.{mod-add-div'}
use Rattle.grid_base.specs.Objects.{Object}
use Rattle.partition_table.specs.declared.Row.{Row}
use Rattle.partition_table.specs.declared.RowMember.{RowMember}
use Rattle.partition_table.specs.Rows.{is_among, is_in, is_eligible, is_primary, numbers_of, others, first_eligible, led_by, is_empty, without, members_from}
use Rattle.partition_protocol.specs.Node.{Node, settled}
use Rattle.partition_protocol.specs.Replica.{taking}
use Rattle.partition_protocol.specs.Execution.{Reached, Executes, PartitionLost, WrongTarget, Migrating, executing, reached}
use Rattle.partition_protocol.specs.Service.{Move, Joined, Drained, ServiceStep, detecting, join_refused, is_freezing, candidates, reopening, on_joined}
use Rattle.partition_protocol.specs.World.{World, start, pair_state}
use Rattle.partition_protocol.specs.Events.{Event, Call, Detect, Reopen, Refused, HeldAt, ReleasedAt, Happened, executes, calling, if_executes, happens, run, detected, reopened_row}
use Rattle.partition_protocol.specs.RowRules.{EveryKnownRowGoesOn, EveryLossIsTold, IsUntold, IsLastToLead, LosesByRule, EveryRowIsLostByRule}
use Rattle.partition_protocol.proofs.Lists.{In, set_get_same, set_get_other, cases, on_cond, on_if, every_in}
use Rattle.partition_protocol.proofs.Histories.{filter_in, in_filter}
use Rattle.partition_protocol.proofs.Invariant.{Shape, NodeAt, Invariant, MoveOk}
use Rattle.partition_protocol.proofs.RowFacts.{both_left, both_right, not_true, not_both, less, is_less, number_cases, false_or_not, no_first, eligible_in}
use Rattle.partition_protocol.proofs.NextRows.{eligible_at, at_eligible, in_others, others_in, find_in, in_find, led_lost, empty_is, snoc_some, some_in, leads, f_primary}
use Rattle.partition_protocol.proofs.Takings.{KeepsRow, taking_keeps}
use Rattle.partition_protocol.proofs.EventFacts.{call_live}
use Rattle.partition_protocol.proofs.EventCases.{EventCases, every_event}
use Rattle.partition_protocol.proofs.Theorem.{grid_good}
use Rattle.partition_protocol.proofs.Walk.{walk}

-- known rows

abbrev pub GoesOn : Node → Node → Type 0
GoesOn n a = (a.known ≡ n.known) ⊎ (n.known.version < a.known.version)

pub goes_on : (a b c : Node) → GoesOn a b → GoesOn b c → GoesOn a c
goes_on a b c (inl e) (inl f) = inl (f ∙ e)
goes_on a b c (inl e) (inr l) = inr (subst (λ (r : Row). r.version < c.known.version) e l)
goes_on a b c (inr l) (inl f) = inr (subst (λ (r : Row). a.known.version < r.version) (sym f) l)
goes_on a b c (inr l) (inr k) = inr (omega (arith, l, k))

-- the member's node after an event
abbrev pub NodeOn : {C : Type 0} → ℕ → Node → World C → Type 0
NodeOn m n u = (a : Node) × NodeAt u.nodes m a × GoesOn n a

pub node_on : {C State : Type 0} (o : Object C State) (w : World C) (m : ℕ) (n : Node) → NodeAt w.nodes m n → (e : Event C) → NodeOn m n (happens o w e).world
node_on {C} o w m n at = walk o w (λ e u. NodeOn m n u) (λ e ps. same) (λ e j. same) (λ e s st ps. same) (λ e s st ps. same)
    (λ e f t i q x j there l. step q.to x (taking w.members q.to q.from q.message x).node there (row_of q.to x (taking w.members q.to q.from q.message x).node (taking_keeps w.members q.to q.from q.message x)))
    (λ j conn number call now x there l p f. step j x (executing (o.changes (pair_state o w x.pair) call now) conn number x) there (inl refl))
  where
    same : (a : Node) × NodeAt w.nodes m a × GoesOn n a
    same = (n, at, inl refl)

    row_of : (j : ℕ) (x a : Node) → KeepsRow j x a → GoesOn x a
    row_of j x a (inl h) = inl h.0
    row_of j x a (inr l) = inr l

    step : (j : ℕ) (x a : Node) → NodeAt w.nodes j x → GoesOn x a → (b : Node) × NodeAt (slice_set w.nodes j (settled a)) m b × GoesOn n b
    step j x a there g = go (number_cases m j)
      where
        go : (m ≡ j) ⊎ (m ≢ j) → (b : Node) × NodeAt (slice_set w.nodes j (settled a)) m b × GoesOn n b
        go (inr d) = (n, set_get_other w.nodes j m (settled a) d ∙ at, inl refl)
        go (inl e) =
            let it : n ≡ x = cc (subst (λ k. NodeAt w.nodes k n) e at, there) in
            (settled a, subst (λ k. NodeAt (slice_set w.nodes j (settled a)) k (settled a)) (sym e) (set_get_same w.nodes j (settled a) x there), subst (λ y. GoesOn y (settled a)) (sym it) g)

pub every_known_row_goes_on : {C State : Type 0} (o : Object C State) → EveryKnownRowGoesOn o
every_known_row_goes_on o w [] m before after at then = let same : before ≡ after = cc in inl (ap (λ (n : Node). n.known) (sym same))
every_known_row_goes_on o w (e ∷ events) m before after at then =
    let next = node_on o w m before at e in
    goes_on before next.0 after next.2 (every_known_row_goes_on o (happens o w e).world events m next.0 after next.1 then)

-- calls of a lost partition

-- a call that is executed isn't refused
pub not_refused : (b : Bool) (c d v : ℕ) → cond b (ReleasedAt c) (HeldAt d) ≡ Refused (PartitionLost v) → ⊥
not_refused true c d v e = absurd cc
not_refused false c d v e = absurd cc

-- as the node is reached, so is the call answered
pub refused_lost : {C : Type 0} (w : World C) (r : Reached) (h : Happened C) (v : ℕ) → (h.outcome ≡ Refused (PartitionLost v) → ⊥) → ((if_executes w r h).outcome ≡ Refused (PartitionLost v)) ↔ (r ≡ PartitionLost v)
refused_lost w Executes h v f = ((λ e. absurd (f e)), (λ e. absurd cc))
refused_lost w (PartitionLost u) h v f = ((λ e. cc), (λ e. ap (λ z. Refused z) e))
refused_lost w (WrongTarget u) h v f = ((λ e. absurd cc), (λ e. absurd cc))
refused_lost w (Migrating u) h v f = ((λ e. absurd cc), (λ e. absurd cc))

pub reached_lost : (m : ℕ) (node : Node) (v : ℕ) → (reached m node ≡ PartitionLost v) ↔ ((node.known.lost ≡ true) × (node.known.version ≡ v))
reached_lost m node v = (there, back)
  where
    there : reached m node ≡ PartitionLost v → (node.known.lost ≡ true) × (node.known.version ≡ v)
    there =
        on_cond (λ r. r ≡ PartitionLost v → (node.known.lost ≡ true) × (node.known.version ≡ v)) node.known.lost (PartitionLost node.known.version) (cond (not (is_primary node.known m)) (WrongTarget node.known.version) (cond node.frozen (Migrating node.known.version) Executes))
        (λ l e. (l, cc))
        (λ l. on_if (λ r. r ≡ PartitionLost v → (node.known.lost ≡ true) × (node.known.version ≡ v)) (not (is_primary node.known m)) (WrongTarget node.known.version) (cond node.frozen (Migrating node.known.version) Executes)
        (λ e. absurd cc)
        (on_if (λ r. r ≡ PartitionLost v → (node.known.lost ≡ true) × (node.known.version ≡ v)) node.frozen (Migrating node.known.version) Executes (λ e. absurd cc) (λ e. absurd cc)))

    back : (node.known.lost ≡ true) × (node.known.version ≡ v) → reached m node ≡ PartitionLost v
    back h = rw h.0 (ap (λ z. PartitionLost z) h.1)

pub every_loss_is_told : {C State : Type 0} (o : Object C State) → EveryLossIsTold o
every_loss_is_told o w m conn number call now node v lives at =
    let answered : (happens o w (Call m conn number call now)).outcome ≡ (calling o w m conn number call now node).outcome = ap (λ (h : Happened _). h.outcome) (call_live o w m conn number call now node lives at) in
    let by_reached = refused_lost w (reached m node) (executes o w m conn number call now node) v (λ e. not_refused _ _ _ v e) in
    let by_row = reached_lost m node v in
    ((λ e. by_row.0 (by_reached.0 (sym answered ∙ e))), (λ h. answered ∙ by_reached.1 (by_row.1 h)))

-- lost rows

-- without m nobody may lead exactly where m is the last that may
pub without_lost : (row : Row) (m : ℕ) → ((without row m).lost ≡ true) ↔ ((q : ℕ) → is_eligible row q ≡ true → q ≡ m)
without_lost row m = (there, back)
  where
    rest : List RowMember
    rest = others m row.members

    there : is_empty (led_by (first_eligible rest) rest) ≡ true → (q : ℕ) → is_eligible row q ≡ true → q ≡ m
    there e q el =
        let none = led_lost (first_eligible rest) rest e in
        let p = eligible_at row q el in
        ⊎_elim (λ s. s) (λ d. absurd (in_find (λ (r : RowMember). r.eligible) rest p.0 (others_in m row.members p.0 p.1 (λ z. d (sym p.2 ∙ z))) p.3 none)) (number_cases q m)

    back : ((q : ℕ) → is_eligible row q ≡ true → q ≡ m) → is_empty (led_by (first_eligible rest) rest) ≡ true
    back f = go (first_eligible rest) refl
      where
        go : (c : Option RowMember) → first_eligible rest ≡ c → is_empty (led_by c rest) ≡ true
        go None e = refl
        go (Some r) e =
            let found = find_in (λ (x : RowMember). x.eligible) rest r e in
            let old = in_others m row.members r found.0 in
            absurd (old.1 (f r.member (at_eligible row r.member r old.0 refl found.1)))

-- a detection

abbrev pub is_untold : {C : Type 0} → World C → ℕ → Bool
is_untold w m = nat_lt m w.members && is_among w.crashed m && not (is_among w.service.detected m)

pub untold : {C : Type 0} (w : World C) (m : ℕ) → is_untold w m ≡ true → IsUntold w m
untold w m e =
    let crashed = both_left (nat_lt m w.members && is_among w.crashed m) (not (is_among w.service.detected m)) e in (
      less m w.members (both_left (nat_lt m w.members) (is_among w.crashed m) crashed),
      both_right (nat_lt m w.members) (is_among w.crashed m) crashed,
      not_true (is_among w.service.detected m) (both_right (nat_lt m w.members && is_among w.crashed m) (not (is_among w.service.detected m)) e),
    )

pub told_now : {C : Type 0} (w : World C) (m : ℕ) → IsUntold w m → is_untold w m ≡ true
told_now w m h = rw (is_less m w.members h.0, h.1, h.2) refl

pub row_without : {C : Type 0} (w : World C) (m : ℕ) → is_untold w m ≡ true → is_in w.service.row m ≡ true → (detected w m).world.service.row ≡ without w.service.row m
row_without w m t i = rw (t, i) refl

pub row_not_in : {C : Type 0} (w : World C) (m : ℕ) → is_untold w m ≡ true → is_in w.service.row m ≡ false → (detected w m).world.service.row ≡ w.service.row
row_not_in w m t i = rw (t, i) refl

pub row_not_told : {C : Type 0} (w : World C) (m : ℕ) → is_untold w m ≡ false → (detected w m).world.service.row ≡ w.service.row
row_not_told w m t = rw t refl

pub detected_loses : {C : Type 0} (w : World C) (m : ℕ) → w.service.row.lost ≡ false → ((detected w m).world.service.row.lost ≡ true) ↔ (IsUntold w m × IsLastToLead w.service.row m)
detected_loses {C} w m still = (there, back)
  where
    same : (row : Row) → row ≡ w.service.row → row.lost ≡ true → ⊥
    same row e l = not_both w.service.row.lost (subst (λ (r : Row). r.lost ≡ true) e l) still

    lost : is_untold w m ≡ true → is_in w.service.row m ≡ true → (detected w m).world.service.row.lost ≡ true → IsUntold w m × IsLastToLead w.service.row m
    lost t i l = (untold w m t, (i, (without_lost w.service.row m).0 (subst (λ (r : Row). r.lost ≡ true) (row_without w m t i) l)))

    there : (detected w m).world.service.row.lost ≡ true → IsUntold w m × IsLastToLead w.service.row m
    there l = ⊎_elim (λ t. ⊎_elim (λ i. lost t i l) (λ i. absurd (same (detected w m).world.service.row (row_not_in w m t i) l)) (cases (is_in w.service.row m)))
        (λ t. absurd (same (detected w m).world.service.row (row_not_told w m t) l)) (cases (is_untold w m))

    back : IsUntold w m × IsLastToLead w.service.row m → (detected w m).world.service.row.lost ≡ true
    back h = subst (λ (r : Row). r.lost ≡ true) (sym (row_without w m (told_now w m h.0) h.1.0)) ((without_lost w.service.row m).1 h.1.1)

module _ {C State : Type 0} (o : Object C State) (w : World C) (made : List Shape) (inv : Invariant o w made) where
  pub not_lost : (m : ℕ) → is_in w.service.row m ≡ true → w.service.row.lost ≡ true → ⊥
  not_lost m i l = not_both w.service.row.lost l (some_in w made inv.frame m i)

  pub move_not_lost : (v : Move) → w.service.move ≡ v → (t : ℕ) → is_eligible w.service.row t ≡ true → w.service.row.lost ≡ true → ⊥
  move_not_lost v e t el l = not_lost t (eligible_in w.service.row t el) l

  -- no other event loses a row

  abbrev pub Keeps : Event C → World C → Type 0
  Keeps e u = ((m : ℕ) → e ≢ Detect m) → w.service.row.lost ≡ false → u.service.row.lost ≡ false

  -- a backup leaves, and the first member stays
  pub backup_leaves : (from : ℕ) → is_primary w.service.row from ≡ false → w.service.row.lost ≡ false → (without w.service.row from).lost ≡ false
  backup_leaves from backup still =
      false_or_not (without w.service.row from).lost
      (λ l. not_both (is_primary (without w.service.row from) inv.frame.standing.first) (leads w made inv.frame from still (inr backup) other) (no_first (numbers_of (without w.service.row from)) inv.frame.standing.first (empty_is (without w.service.row from) l)))
    where
      other : inv.frame.standing.first ≢ from
      other e = not_both (is_primary w.service.row from) (subst (λ k. is_primary w.service.row k ≡ true) e (f_primary w made inv.frame from still (inr backup))) backup

  -- what was eligible is in the row
  pub keeps : EventCases o w Keeps
  keeps = record {
    stays = λ e z f l. l;
    loses = λ f t i q at g l. l;
    drops = λ f t i q at z g l. l;
    repeats = λ f t i q at g l. l;
    tells_again = λ g l. l;
    sends_again = λ m n at lives p g l. l;
    crashes = λ m lives g l. l;
    detects = λ m a b c d g l. absurd (g m refl);
    notes = λ m a b c d g l. absurd (g m refl);
    begins = λ e source to r there z g l. snoc_some w.service.row.members (record { member = to; eligible = false });
    hands_over = λ from to r g l. l;
    freezes = λ from to v p g l. l;
    leaves = λ from to v p g l. backup_leaves from p l;
    hands = λ from to v g l. refl;
    reopens = λ r g l. refl;
    joins = λ f t i q v m at to e g l. on_if (λ (s : ServiceStep). s.service.row.lost ≡ false) ((w.service.row.version == v) && is_in w.service.row m && not (is_eligible w.service.row m)) _ _ l l;
    drains = λ f t i q v at to e g l. on_if (λ (s : ServiceStep). s.service.row.lost ≡ false) (is_freezing w.service.move && (w.service.row.version == v)) _ _ l l;
    delivers = λ f t i q n at there lives g l. l;
    calls = λ m conn number call now n at lives still leads thawed g l. l;
  }

  -- a lost row stays

  abbrev pub Stays : Event C → World C → Type 0
  Stays e u = e ≢ Reopen → w.service.row.lost ≡ true → u.service.row ≡ w.service.row

  pub not_joining : (to : ℕ) → join_refused w.members to w.service ≡ None → w.service.row.lost ≡ true → ⊥
  not_joining to r l = absurd (cc (rw l at r))

  pub moving : (v : Move) → w.service.move ≡ v → MoveOk w.nodes w.crashed w.service.row v
  moving v e = subst (MoveOk w.nodes w.crashed w.service.row) e inv.frame.moving

  pub stays_lost : EventCases o w Stays
  stays_lost = record {
    stays = λ e z f l. refl;
    loses = λ f t i q at g l. refl;
    drops = λ f t i q at z g l. refl;
    repeats = λ f t i q at g l. refl;
    tells_again = λ g l. refl;
    sends_again = λ m n at lives p g l. refl;
    crashes = λ m lives g l. refl;
    detects = λ m a b c d g l. absurd (not_lost m d l);
    notes = λ m a b c d g l. row_noted m d;
    begins = λ e source to r there z g l. absurd (not_joining to r l);
    hands_over = λ from to r g l. refl;
    freezes = λ from to v p g l. refl;
    leaves = λ from to v p g l. absurd (move_not_lost (Joined from to) v to (moving (Joined from to) v) l);
    hands = λ from to v g l. absurd (move_not_lost (Drained from to) v to (moving (Drained from to) v).0 l);
    reopens = λ r g l. absurd (g refl);
    joins = λ f t i q v m at to e g l. joined v m l;
    drains = λ f t i q v at to e g l. on_if (λ (s : ServiceStep). s.service.row ≡ w.service.row) (is_freezing w.service.move && (w.service.row.version == v)) _ _ refl refl;
    delivers = λ f t i q n at there lives g l. refl;
    calls = λ m conn number call now n at lives still leads thawed g l. refl;
  }
    where
      row_noted : (m : ℕ) → is_in w.service.row m ≡ false → (detecting m w.service).row ≡ w.service.row
      row_noted m d = rw d refl

      joined : (v m : ℕ) → w.service.row.lost ≡ true → (on_joined v m w.service).service.row ≡ w.service.row
      joined v m l = on_cond (λ (s : ServiceStep). s.service.row ≡ w.service.row) ((w.service.row.version == v) && is_in w.service.row m && not (is_eligible w.service.row m)) _ _
          (λ e. absurd (not_lost m (both_right (w.service.row.version == v) (is_in w.service.row m) (both_left ((w.service.row.version == v) && is_in w.service.row m) (not (is_eligible w.service.row m)) e)) l)) (λ e. refl)

-- a reopening

-- all members stand among the members from any one on
pub from_one_on : (n k from j : ℕ) → j < k → In ((from + j) % n) (members_from n k from)
from_one_on n zero from j l = absurd (omega (arith, l))
from_one_on n (suc k) from zero l = let same : from ≡ from + 0 = omega arith in inl (ap (λ x. x % n) same)
from_one_on n (suc k) from (suc j) l =
    let same : from + 1 + j ≡ from + suc j = omega arith in
    inr (subst (λ x. In (x % n) (members_from n k (from + 1))) same (from_one_on n k (from + 1) j (omega (arith, l))))

pub in_members_from : (n from m : ℕ) → m < n → In m (members_from n n from)
in_members_from n from m l = ⊎_elim after before (at_least (from % n) m)
  where
    at_least : (r k : ℕ) → (r ≤ k) ⊎ (k < r)
    at_least r k = grind arith

    whole : from % n + from / n * n ≡ from
    whole = mod-add-div' from n

    after : from % n ≤ m → In m (members_from n n from)
    after h =
        let same : from + (m - from % n) ≡ from / n * n + m = omega (arith, whole, h) in
        subst (λ k. In k (members_from n n from)) (ap (λ x. x % n) same ∙ mod-mul-add (from / n) n m l) (from_one_on n n from (m - from % n) (omega (arith, l)))

    before : m < from % n → In m (members_from n n from)
    before h =
        let low : from % n < n = mod-lt from (omega (arith, l)) in
        let same : from + (m + n - from % n) ≡ (from / n + 1) * n + m = omega (arith, whole, h, low) in
        subst (λ k. In k (members_from n n from)) (ap (λ x. x % n) same ∙ mod-mul-add (from / n + 1) n m l) (from_one_on n n from (m + n - from % n) (omega (arith, h, low)))

pub some_full : {X : Type 0} (xs : List X) (x : X) → In x xs → is_empty xs ≡ false
some_full [] x i = absurd i
some_full (y ∷ xs) x i = refl

pub full_some : {X : Type 0} (xs : List X) → is_empty xs ≡ false → (x : X) × In x xs
full_some [] e = absurd (true≢false e)
full_some (x ∷ xs) e = (x, inl refl)

-- somebody may reopen exactly where a member is there of whose crash the service wasn't told
pub candidates_there : (partition n : ℕ) (detected : List ℕ) → (is_empty (candidates partition n detected) ≡ false) ↔ ((m : ℕ) × (m < n) × (is_among detected m ≡ false))
candidates_there partition n detected = (there, back)
  where
    is_out : ℕ → Bool
    is_out m = not (is_among detected m)

    there : is_empty (candidates partition n detected) ≡ false → (m : ℕ) × (m < n) × (is_among detected m ≡ false)
    there e =
        let c = full_some (candidates partition n detected) e in
        let f = filter_in is_out (members_from n n partition) c.0 c.1 in
        (c.0, every_in (λ m. m < n) (members_from n n partition) c.0 (members_from_listing n partition).0 f.0, not_true (is_among detected c.0) f.1)

    back : (m : ℕ) × (m < n) × (is_among detected m ≡ false) → is_empty (candidates partition n detected) ≡ false
    back h = some_full (candidates partition n detected) h.0 (in_filter is_out (members_from n n partition) h.0 (in_members_from n partition h.0 h.1) (rw h.2 refl))

pub reopened_row_is : {C : Type 0} (w : World C) → w.service.row.lost ≡ true → is_empty (candidates w.partition w.members w.service.detected) ≡ false
    → (reopened_row w).world.service.row ≡ (reopening w.partition w.members w.backups w.service).row
reopened_row_is w l c = rw (l, c) refl

pub not_reopened : {C : Type 0} (w : World C) → w.service.row.lost ≡ true → is_empty (candidates w.partition w.members w.service.detected) ≡ true → (reopened_row w).world.service.row ≡ w.service.row
not_reopened w l c = rw (l, c) refl

pub reopens_by_rule : {C : Type 0} (w : World C) → w.service.row.lost ≡ true → ((reopened_row w).world.service.row.lost ≡ false) ↔ ((m : ℕ) × (m < w.members) × (is_among w.service.detected m ≡ false))
reopens_by_rule w l = (there, back)
  where
    somebody : (is_empty (candidates w.partition w.members w.service.detected) ≡ false) ↔ ((m : ℕ) × (m < w.members) × (is_among w.service.detected m ≡ false))
    somebody = candidates_there w.partition w.members w.service.detected

    there : (reopened_row w).world.service.row.lost ≡ false → (m : ℕ) × (m < w.members) × (is_among w.service.detected m ≡ false)
    there e = somebody.0 (false_or_not (is_empty (candidates w.partition w.members w.service.detected)) (λ c. not_both w.service.row.lost l (subst (λ (r : Row). r.lost ≡ false) (not_reopened w l c) e)))

    back : (m : ℕ) × (m < w.members) × (is_among w.service.detected m ≡ false) → (reopened_row w).world.service.row.lost ≡ false
    back h = ap (λ (r : Row). r.lost) (reopened_row_is w l (somebody.1 h))

pub loses_by_rule : {C State : Type 0} (o : Object C State) (w : World C) (made : List Shape) → Invariant o w made → LosesByRule o w
loses_by_rule o w made inv = record {
  detected = λ m still. detected_loses w m still;
  others = λ event other still. every_event o w (Keeps o w made inv) (keeps o w made inv) event other still;
  stays = λ event other lost. every_event o w (Stays o w made inv) (stays_lost o w made inv) event other lost;
  reopened = λ lost. reopens_by_rule w lost;
}

pub every_row_is_lost_by_rule : {C State : Type 0} (o : Object C State) → EveryRowIsLostByRule o
every_row_is_lost_by_rule o partition members backups events one =
    let g = grid_good o partition members backups events one in loses_by_rule o (run o (start partition members backups) events) g.0 g.1
