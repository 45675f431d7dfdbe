-- Every run is safe.
use Rattle.std.proofs.Common.{◌≡◌, ℕ, zero, suc, ◌+◌, ◌%◌, ◌<◌, ◌≤◌, true, List, [], ◌∷◌, ◌++◌, map, filter, take, length, Some, slice_get, refl, ap, sym, ◌∙◌, subst, ◌⊎◌, ⊎_elim, inl, inr, arith, le_refl, length-append, true≢false}
use Rattle.std.proofs.lemmas.Option.{slice_get_within}
use Rattle.partition_table.specs.Rows.{number_of, is_among, is_primary, is_in, numbers_of, initial_row, with_backups, members_from, eligible_member}
use Rattle.partition_protocol.specs.Node.{Pair, Node, no_pair, opening_node, opening_pair}
use Rattle.partition_protocol.specs.Service.{numbers_below}
use Rattle.grid_base.specs.Objects.{Object}
use Rattle.partition_protocol.specs.History.{begins_anew, Base}
use Rattle.partition_protocol.specs.World.{World, start}
use Rattle.partition_protocol.specs.Events.{Event, happens, run}
use Rattle.partition_protocol.specs.Claims.{EveryAnswerStays, EveryAckHolds, EveryBeginningIsEmpty, EveryRunExtends, is_reset, IsSafe, EveryRunIsSafe, EveryStateStays, EveryBridgeStays}
use Rattle.partition_table.specs.declared.Row.{Row}
use Rattle.partition_table.specs.declared.RowMember.{RowMember}
use Rattle.partition_protocol.proofs.Lists.{In, on_if}
use Rattle.partition_protocol.proofs.Histories.{IsBase, good_nil, start_at}
use Rattle.partition_protocol.proofs.Invariant.{PairUp, Shape, shape, NodeAt, RowsOk, HasUpTo, NodeOk, AcksOk, Frame, ContentOk}
use Rattle.partition_protocol.proofs.RowFacts.{eligible_in, first_among, number_same}
use Rattle.partition_protocol.proofs.Forward.{le_cases}
use Rattle.partition_protocol.proofs.NextRows.{members_from_below, with_backups_in, is_in_member}
use Rattle.partition_protocol.proofs.Safe.{safe}
use Rattle.partition_protocol.proofs.Extends.{run_longer}
use Rattle.partition_protocol.proofs.Acknowledgements.{is_acknowledged}
use Rattle.partition_protocol.proofs.HeldAnswers.{stays_held}
use Rattle.partition_protocol.proofs.Faithful.{faithful}
use Rattle.partition_protocol.proofs.Lists.{in_contains, contains_in}
use Rattle.partition_protocol.proofs.Contents.{IsPair}
use Rattle.partition_protocol.proofs.States.{BeginsEmpty, run_empty, Bridged, stays, run_bridged}
use Rattle.std.proofs.Common.{⊎_elim}
use Rattle.partition_protocol.proofs.Events.{Good, run_good}

-- the nodes at the start

pub get_front : {X : Type 0} (xs ys : List X) (i : ℕ) (x : X) → slice_get xs i ≡ Some x → slice_get (xs ++ ys) i ≡ Some x
get_front [] ys i x e = absurd cc
get_front (y ∷ xs) ys zero x e = e
get_front (y ∷ xs) ys (suc i) x e = get_front xs ys i x e

pub get_last : {X : Type 0} (xs : List X) (x : X) → slice_get (xs ++ x ∷ []) (length xs) ≡ Some x
get_last [] x = refl
get_last (y ∷ xs) x = get_last xs x

pub length-numbers_below : (n : ℕ) → length (numbers_below n) ≡ n
length-numbers_below zero = refl
length-numbers_below (suc n) = let l = length-numbers_below n in let k = length-append (numbers_below n) (n ∷ []) in omega (arith, l, k)

pub get-numbers_below : (n m : ℕ) → m < n → slice_get (numbers_below n) m ≡ Some m
get-numbers_below zero m l = absurd (omega (arith, l))
get-numbers_below (suc n) m l =
    ⊎_elim (λ e. subst (λ k. slice_get (numbers_below n ++ n ∷ []) k ≡ Some k) (sym e) (subst (λ k. slice_get (numbers_below n ++ n ∷ []) k ≡ Some n) (length-numbers_below n) (get_last (numbers_below n) n)))
    (λ k. get_front (numbers_below n) (n ∷ []) m m (get-numbers_below n m k)) (le_cases m n (omega (arith, l)))

pub map_get : {X Y : Type 0} (f : X → Y) (xs : List X) (i : ℕ) (x : X) → slice_get xs i ≡ Some x → slice_get (map f xs) i ≡ Some (f x)
map_get f [] i x e = absurd cc
map_get f (y ∷ ys) zero x e = let same : y ≡ x = cc in ap (λ z. Some (f z)) same
map_get f (y ∷ ys) (suc i) x e = map_get f ys i x e

pub get_map : {X Y : Type 0} (f : X → Y) (xs : List X) (i : ℕ) (y : Y) → slice_get (map f xs) i ≡ Some y → (x : X) × (slice_get xs i ≡ Some x) × (f x ≡ y)
get_map f [] i y e = absurd cc
get_map f (x ∷ xs) zero y e = (x, refl, cc)
get_map f (x ∷ xs) (suc i) y e = get_map f xs i y e

pub opened_node : (row : Row) (n m : ℕ) (x : Node) → NodeAt (map (opening_node row) (numbers_below n)) m x → opening_node row m ≡ x
opened_node row n m x e =
    let r = get_map (opening_node row) (numbers_below n) m x e in
    let l = slice_get_within (numbers_below n) m r.0 r.1 in
    let k = get-numbers_below n m (omega (arith, l, length-numbers_below n)) in
    let same : m ≡ r.0 = cc (k, r.1) in
    ap (opening_node row) same ∙ r.2

module _ {C State : Type 0} (o : Object C State) (partition k backups : ℕ) where
  abbrev pub w : World C
  w = start partition (suc k) backups

  abbrev pub row : Row
  row = initial_row partition (suc k) backups

  abbrev pub made : List Shape
  made = shape row ∷ []

  abbrev pub first : ℕ
  first = partition % suc k

  pub leads : is_primary row first ≡ true
  leads = number_same first first refl

  pub began : IsBase w.recorded.bases 1
  began = (record { version = 1; reset = 0; pair = no_pair }, inl refl, refl)

  pub only : (s : Shape) → In s made → shape row ≡ s
  only s (inl e) = e
  only s (inr i) = absurd i

  pub version_one : (s : Shape) → In s made → s.version ≡ 1
  version_one s i = ap (λ (t : Shape). t.version) (sym (only s i))

  pub reset_none : (s : Shape) → In s made → s.reset ≡ 0
  reset_none s i = ap (λ (t : Shape). t.reset) (sym (only s i))

  pub marked_below : (q : ℕ) → is_in row q ≡ true → q < suc k
  marked_below q e =
      let p = is_in_member row q e in members_from_below (suc k) (suc k) partition q (omega arith) (with_backups_in backups (members_from (suc k) (suc k) partition) q (subst (λ j. In j (with_backups backups (members_from (suc k) (suc k) partition))) p.2 (back (with_backups backups (members_from (suc k) (suc k) partition)) p.0 p.1)))
    where
      back : (ms : List ℕ) (p : RowMember) → In p (map eligible_member ms) → In p.member ms
      back [] p i = absurd i
      back (m ∷ ms) p (inl e) = inl (ap number_of e)
      back (m ∷ ms) p (inr i) = inr (back ms p i)

  pub start_rows : RowsOk (suc k) made (shape row)
  start_rows = record {
    newest_in = inl refl;
    newest_top = λ s i. omega (arith, version_one s i);
    one = λ s t i j e. sym (only s i) ∙ only t j;
    lost = λ s i l. absurd (true≢false (sym l ∙ ap (λ (t : Shape). t.lost) (sym (only s i))));
    old_reset = λ s i. omega (arith, version_one s i, reset_none s i);
    same_reset = λ s t i j l r. reset_none s i ∙ sym (reset_none t j);
    lost_between = λ s t i j l. absurd (omega (arith, l, reset_none t j));
    below = λ s m i e. marked_below m (subst (λ (t : Shape). is_among t.members m ≡ true) (sym (only s i)) e);
    positive = λ s i. omega (arith, version_one s i);
  }

  pub pair_in : (m : ℕ) → is_in row m ≡ true → opening_pair row m ≡ record { version = 1; count = 0 }
  pair_in m e = rw e refl

  pub pair_zero : (m : ℕ) → (opening_pair row m).count ≡ 0
  pair_zero m = on_if (λ (p : Pair). p.count ≡ 0) (is_in row m) (record { version = 1; count = 0 }) no_pair refl refl

  pub start_node : (m : ℕ) → NodeOk w.recorded.bases made m (opening_node row m)
  start_node m = record {
    known = inl refl;
    pair = on_if (λ (p : Pair). (p ≡ no_pair) ⊎ (IsBase w.recorded.bases p.version × (p.version ≤ 1))) (is_in row m) (record { version = 1; count = 0 }) no_pair (inr (began, le_refl 1)) (inl refl);
    primary = λ p. (ap (λ (q : Pair). q.version) (pair_in m (first_among (numbers_of row) m p)), began);
    held = λ p. refl;
    earlier = λ e p s. absurd cc;
    adopted = λ p. omega arith;
  }

  pub node_is : (m : ℕ) (x : Node) → NodeAt w.nodes m x → opening_node row m ≡ x
  node_is m x at = opened_node row (suc k) m x at

  pub start_acks : (m : ℕ) → AcksOk w.nodes w.recorded.bases made (opening_node row m)
  start_acks m = record { taken = tt; opening = λ e b i x at. subst (λ (y : Node). HasUpTo w.recorded.bases made 1 0 b y) (node_is b x at) (inl (ap (λ (q : Pair). q.version) (pair_in b i), omega arith)) }

  pub pairs : (b : Base) → In b w.recorded.bases → PairUp w.nodes w.recorded.bases b
  pairs b (inl e) = subst (λ c. PairUp w.nodes w.recorded.bases c) e (inl refl, λ m n at p v. omega arith, λ m n at p v. omega arith)
  pairs b (inr i) = absurd i

  pub start_frame : Frame w made
  start_frame = record {
    rows = start_rows;
    standing = record {
      made_row = inl refl;
      first = first;
      rest = map eligible_member (take backups (members_from (suc k) k (partition + 1)));
      begins = refl;
      now = λ e. refl;
      next = λ l. absurd (true≢false (sym l));
      after_loss = λ l. absurd (true≢false (sym l));
    };
    moving = tt;
    detected = λ m e. absurd (true≢false (sym e));
    gone = λ s t m i j l e d. absurd (omega (arith, l, version_one s i, version_one t j));
    there = λ m l. (opening_node row m, map_get (opening_node row) (numbers_below (suc k)) m m (get-numbers_below (suc k) m l));
    nodes = λ m x at. subst (λ y. NodeOk w.recorded.bases made m y) (node_is m x at) (start_node m);
    acks = λ m x at. subst (λ y. AcksOk w.nodes w.recorded.bases made y) (node_is m x at) (start_acks m);
    tops = λ m x at j y b p e. subst (λ (z : Node). z.pair.count ≤ y.pair.count) (node_is m x at) (omega (arith, pair_zero m));
    packets = tt;
    falling = (omega arith, tt);
    bases = (record { row = shape row; made_row = inl refl; version = refl; reset = refl; primary = first; heads = leads; knows = λ x at. subst (λ (y : Node). 1 ≤ y.known.version) (node_is first x at) (le_refl 1) }, tt);
    pairs = λ b i. pairs b i;
    log = tt;
    since = λ q x s e at i l. inl (subst (λ (t : Shape). is_among t.members q ≡ true) (only s i) (eligible_in row q e));
  }

  pub start_content : ContentOk o w made
  start_content = record {
    rising = λ p. ([], refl);
    good = (good_nil o [], tt);
    opened = tt;
    old = tt;
    resets = record { started = λ b i e. started b i; opened = λ l. refl; none = λ e. refl };
    kept = λ q n h e at i. absurd i;
    base_kept = λ v q n h b r j e at i. absurd i;
    held = λ m n h at i. absurd (subst (λ (y : Node). In h y.held) (sym (node_is m n at)) i);
  }
    where
      started : (b : Base) → In b w.recorded.bases → filter is_reset (start_at w.recorded.openings w.recorded.log w.recorded.bases b.version) ≡ []
      started b (inl e) = subst (λ (c : Base). filter is_reset (start_at w.recorded.openings w.recorded.log w.recorded.bases c.version) ≡ []) e refl
      started b (inr i) = absurd i

  pub start_good : Good o w
  start_good = (made, record { frame = start_frame; content = start_content })

pub grid_safe : {C State : Type 0} (o : Object C State) (partition members backups : ℕ) (events : List (Event C)) → 1 ≤ members → IsSafe o (run o (start partition members backups) events)
grid_safe o partition zero backups events l = absurd (omega (arith, l))
grid_safe o partition (suc k) backups events l = let g = run_good o (start partition (suc k) backups) events (start_good o partition k backups) in safe o (run o (start partition (suc k) backups) events) g.0 g.1

-- no version begins from a pair yet
pub bridged : {C State : Type 0} (o : Object C State) (k partition backups : ℕ) → Bridged o (start partition (suc k) backups)
bridged o k partition backups b (inl e) l = let z : 0 ≡ b.pair.version = ap (λ (c : Base). c.pair.version) e in absurd (omega (arith, z, l))
bridged o k partition backups b (inr i) l = absurd i

-- THE THEOREM
pub every_run_is_safe : {C State : Type 0} (o : Object C State) → EveryRunIsSafe o
every_run_is_safe o partition members backups events grid named =
    (grid_safe o partition members backups events grid, faithful o (start partition members backups) events refl named)

pub grid_good : {C State : Type 0} (o : Object C State) (partition members backups : ℕ) (events : List (Event C)) → 1 ≤ members → Good o (run o (start partition members backups) events)
grid_good o partition zero backups events l = absurd (omega (arith, l))
grid_good o partition (suc k) backups events l = run_good o (start partition (suc k) backups) events (start_good o partition k backups)

pub every_state_stays : {C State : Type 0} (o : Object C State) → EveryStateStays o
every_state_stays o partition members backups events event m node grid law at =
    let w = run o (start partition members backups) events in
    let g = grid_good o partition members backups events grid in
    let pair : IsPair w.recorded.bases node.pair = ⊎_elim (λ e. inl e) (λ h. inr h.0) (g.1.frame.nodes m node at).pair in
    stays o law w g.0 g.1 node.pair pair (g.1.frame.tops m node at) event

pub every_bridge_stays : {C State : Type 0} (o : Object C State) → EveryBridgeStays o
every_bridge_stays o partition zero backups events b grid law c l = let one = grid in absurd (omega (arith, one))
every_bridge_stays o partition (suc k) backups events b grid law c l =
    run_bridged o law (start partition (suc k) backups) events (start_good o partition k backups) (bridged o k partition backups) b (in_contains b (run o (start partition (suc k) backups) events).recorded.bases c) l

pub every_run_extends : {C State : Type 0} (o : Object C State) → EveryRunExtends o
every_run_extends o partition members backups events more = run_longer o (start partition members backups) events more

-- the first version isn't begun anew
pub not_anew : {C State : Type 0} (o : Object C State) (k partition backups : ℕ) → BeginsEmpty o (start partition (suc k) backups)
not_anew o k partition backups b (inl e) a = absurd (true≢false (sym a ∙ ap begins_anew (sym e)))
not_anew o k partition backups b (inr i) a = absurd i

pub every_beginning_is_empty : {C State : Type 0} (o : Object C State) → EveryBeginningIsEmpty o
every_beginning_is_empty o partition zero backups events b grid law c a = let one = grid in absurd (omega (arith, one))
every_beginning_is_empty o partition (suc k) backups events b grid law c a =
    run_empty o law (start partition (suc k) backups) events (start_good o partition k backups) tt (not_anew o k partition backups) b (in_contains b (run o (start partition (suc k) backups) events).recorded.bases c) a

pub every_answer_stays : {C State : Type 0} (o : Object C State) → EveryAnswerStays o
every_answer_stays o partition members backups events event m node h one at c =
    let w = run o (start partition members backups) events in
    let g = grid_good o partition members backups events one in
    ⊎_elim (λ i. inl (contains_in h (happens o w event).world.released i)) (λ s. inr (s.0, s.1, contains_in h s.0.held s.2))
    (stays_held o w g.0 g.1 event m node h at (in_contains h node.held c))

pub every_ack_holds : {C State : Type 0} (o : Object C State) → EveryAckHolds o
every_ack_holds o partition members backups events one =
    let g = grid_good o partition members backups events one in is_acknowledged (run o (start partition members backups) events) g.0 g.1.frame
