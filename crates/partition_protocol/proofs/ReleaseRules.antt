-- Held answers wait for a backup, and what is released is the oldest of what was held.
use Rattle.std.proofs.Common.{◌≡◌, ◌≢◌, ℕ, zero, suc, ◌≤◌, Bool, true, false, cond, not, List, [], ◌∷◌, ◌++◌, map, Option, Some, None, slice_set, nat_le, refl, sym, ◌∙◌, subst, ◌⊎◌, inl, inr, arith, le_trans, true≢false, append-nil, ◌+◌, ◌&&◌, nat_lt}
use Rattle.std.specs.List.{list_all}
use Rattle.std.proofs.lemmas.Bool.Decides.{nat_tests}
use Rattle.grid_base.specs.Objects.{Object}
use Rattle.partition_table.specs.declared.Row.{Row}
use Rattle.partition_table.specs.declared.RowMember.{RowMember}
use Rattle.partition_table.specs.Rows.{number_of, numbers_of, is_first, is_primary, is_in, is_backup, is_among, backups_of, rest_of, initial_row}
use Rattle.partition_table.specs.RowFacts.{are_distinct}
use Rattle.partition_protocol.specs.Messages.{Packet}
use Rattle.partition_protocol.specs.Node.{Held, Node, acked, is_at_least, is_released, still_held, now_released, settled}
use Rattle.partition_protocol.specs.Replica.{taking}
use Rattle.partition_protocol.specs.Execution.{executing}
use Rattle.partition_protocol.specs.World.{World, start, is_live, pair_state}
use Rattle.partition_protocol.specs.Events.{Event, Call, Deliver, happens, run}
use Rattle.partition_protocol.specs.ReleaseRules.{AllHaveAcknowledged, OneHasNotAcknowledged, EveryHeldAnswerWaits, answer_to, IsStepOfOne, IsStepOfNone, EveryReleaseIsInOrder}
use Rattle.partition_protocol.proofs.Lists.{In, Every, every_append, every_in, every_from_in, in_contains, get_set, on_cond, on_if, cases}
use Rattle.partition_protocol.proofs.Invariant.{Shape, NodeAt, PacketOk, Invariant}
use Rattle.partition_protocol.proofs.RowFacts.{both, both_left, both_right, not_true, not_both, in_among, among_in, in_map, number_same, number_other}
use Rattle.partition_protocol.proofs.Release.{all_in, now_in, in_map_back, at_least_some}
use Rattle.partition_protocol.proofs.Listings.{IsRowListing, first_apart}
use Rattle.partition_protocol.proofs.WellFormed.{run_placed, start_placed}
use Rattle.partition_protocol.proofs.HeldAnswers.{taking_held}
use Rattle.partition_protocol.proofs.Answers.{now_still, taking_held as held_or_none}
use Rattle.partition_protocol.proofs.EventCases.{EventCases, every_event, place_in}
use Rattle.partition_protocol.proofs.Events.{Good, happens_good}
use Rattle.partition_protocol.proofs.Theorem.{opened_node, start_good, grid_good}
use Rattle.partition_protocol.proofs.Walk.{walk}

-- backups

-- a backup is a member after the first
pub backup_in_rest : (row : Row) (b : ℕ) → is_backup row b ≡ true → (p : RowMember) × In p (backups_of row) × (p.member ≡ b)
backup_in_rest row b e = go row.members (not_true (is_primary row b) (both_left (not (is_primary row b)) (is_in row b) e)) (in_among (numbers_of row) b (both_right (not (is_primary row b)) (is_in row b) e))
  where
    go : (ps : List RowMember) → is_first (map number_of ps) b ≡ false → In b (map number_of ps) → (p : RowMember) × In p (rest_of ps) × (p.member ≡ b)
    go [] f i = absurd i
    go (p ∷ ps) f (inl s) = absurd (not_both (is_first (map number_of (p ∷ ps)) b) (number_same p.member b s) f)
    go (p ∷ ps) f (inr i) = in_map_back ps b i

-- and who is after the first of a row that lists each member once is a backup
pub rest_is_backup : (n : ℕ) (row : Row) → IsRowListing n row → (p : RowMember) → In p (backups_of row) → is_backup row p.member ≡ true
rest_is_backup n row listing p i = go row.members listing.1 i
  where
    go : (ps : List RowMember) → are_distinct (map number_of ps) ≡ true → In p (rest_of ps) → (not (is_first (map number_of ps) p.member) && is_among (map number_of ps) p.member) ≡ true
    go [] d j = absurd j
    go (q ∷ ps) d j =
        let there : In p.member (map number_of ps) = in_map number_of ps p j in
        let other : is_first (map number_of (q ∷ ps)) p.member ≡ false = number_other q.member p.member (λ e. first_apart q.member (map number_of ps) d (subst (λ k. In k (map number_of ps)) (sym e) there)) in
        both (not (is_first (map number_of (q ∷ ps)) p.member)) (is_among (map number_of (q ∷ ps)) p.member) (rw other refl) (among_in (map number_of (q ∷ ps)) p.member (inr there))

-- what is released was acknowledged by all
pub all_acknowledged : (n : Node) (k : ℕ) → is_released n k ≡ true → AllHaveAcknowledged n k
all_acknowledged n k r b e =
    let p = backup_in_rest n.known b e in
    let some = at_least_some k (acked n p.0.member) (all_in (λ (q : RowMember). is_at_least k (acked n q.member)) (backups_of n.known) p.0 r p.1) in
    (some.0, subst (λ j. acked n j ≡ Some some.0) p.2 some.1, some.2)

-- and what isn't, wasn't
pub none_at : {X : Type 0} (t : X → Bool) (xs : List X) → list_all t xs ≡ false → (x : X) × In x xs × (t x ≡ false)
none_at t [] e = absurd (true≢false e)
none_at t (y ∷ ys) e = go (cases (t y)) (none_at t ys)
  where
    go : (t y ≡ true) ⊎ (t y ≡ false) → (list_all t ys ≡ false → (x : _) × In x ys × (t x ≡ false)) → (x : _) × In x (y ∷ ys) × (t x ≡ false)
    go (inl h) f = let r = f (rw h at e) in (r.0, inr r.1, r.2)
    go (inr h) f = (y, inl refl, h)

pub too_few : (k c : ℕ) (x : Option ℕ) → is_at_least k x ≡ false → x ≡ Some c → k ≤ c → ⊥
too_few k c None f e l = absurd cc
too_few k c (Some d) f e l = let same : d ≡ c = cc in absurd (not_both (nat_le k c) (is_le k c l) (subst (λ j. nat_le k j ≡ false) same f))
  where
    is_le : (a b : ℕ) → a ≤ b → nat_le a b ≡ true
    is_le a b h = grind (arith, nat_tests)

pub one_lacks : (members : ℕ) (n : Node) (k : ℕ) → IsRowListing members n.known → is_released n k ≡ false → OneHasNotAcknowledged n k
one_lacks members n k listing f =
    let p = none_at (λ (q : RowMember). is_at_least k (acked n q.member)) (backups_of n.known) f in
    (p.0.member, rest_is_backup members n.known listing p.0 p.1, λ h. too_few k h.0 (acked n p.0.member) p.2 h.1 h.2)

-- held answers

-- the oldest isn't released
abbrev pub Blocked : Node → List Held → Type 0
Blocked n [] = Unit {0}
Blocked n (h ∷ hs) = is_released n h.seen ≡ false

-- what came later saw no less
abbrev pub Rising : List Held → Type 0
Rising [] = Unit {0}
Rising (h ∷ hs) = Every (λ (k : Held). h.seen ≤ k.seen) hs × Rising hs

pub blocked_still : (n : Node) (hs : List Held) → Blocked n (still_held n hs)
blocked_still n [] = tt
blocked_still n (h ∷ hs) = on_cond (Blocked n) (is_released n h.seen) (still_held n hs) (h ∷ hs) (λ e. blocked_still n hs) (λ e. e)

pub rising_still : (n : Node) (hs : List Held) → Rising hs → Rising (still_held n hs)
rising_still n [] r = tt
rising_still n (h ∷ hs) r = on_if Rising (is_released n h.seen) (still_held n hs) (h ∷ hs) (rising_still n hs r.1) r

pub rising_last : (hs : List Held) (k : Held) → Rising hs → Every (λ (h : Held). h.seen ≤ k.seen) hs → Rising (hs ++ k ∷ [])
rising_last [] k r l = (tt, tt)
rising_last (h ∷ hs) k r l = (every_append (λ (j : Held). h.seen ≤ j.seen) hs (k ∷ []) r.0 (l.0, tt), rising_last hs k r.1 l.1)

-- so who blocks the oldest blocks all
pub all_block : (members : ℕ) (n : Node) (hs : List Held) → IsRowListing members n.known → Blocked n hs → Rising hs → (h : Held) → In h hs → OneHasNotAcknowledged n h.seen
all_block members n [] listing b r h i = absurd i
all_block members n (k ∷ hs) listing b r h i = go (one_lacks members n k.seen listing b) i
  where
    go : OneHasNotAcknowledged n k.seen → In h (k ∷ hs) → OneHasNotAcknowledged n h.seen
    go o (inl e) = subst (λ (j : Held). OneHasNotAcknowledged n j.seen) e o
    go o (inr j) = (o.0, o.1, λ z. o.2 (z.0, z.1, le_trans (every_in (λ (g : Held). k.seen ≤ g.seen) hs h r.0 j) z.2))

-- a node's step

pub same_or_none : (xs ys : List Held) → ((h : Held) → In h xs → In h ys) → (ys ≡ xs) ⊎ (ys ≡ []) → ys ≡ xs
same_or_none [] ys f (inl e) = e
same_or_none [] ys f (inr e) = e
same_or_none (x ∷ xs) ys f (inl e) = e
same_or_none (x ∷ xs) ys f (inr e) = absurd (subst (In x) e (f x (inl refl)))

-- the nodes of a world hold back only what they must
pub record HoldsBack (n : Node) : Type 0 where
  pub blocked : Blocked n n.held
  pub rising : Rising n.held

abbrev pub AllHoldBack : {C : Type 0} → World C → Type 0
AllHoldBack w = (m : ℕ) (n : Node) → NodeAt w.nodes m n → HoldsBack n

pub settled_back : (a : Node) → Rising a.held → HoldsBack (settled a)
settled_back a r = record { blocked = blocked_still a a.held; rising = rising_still a a.held r }

pub settles_back : {C : Type 0} (w : World C) → AllHoldBack w → (m : ℕ) (a : Node) → Rising a.held → (k : ℕ) (x : Node) → NodeAt (slice_set w.nodes m (settled a)) k x → HoldsBack x
settles_back w h m a r k x at = go (get_set w.nodes m k (settled a) x at)
  where
    go : ((k ≡ m) × (settled a ≡ x)) ⊎ ((k ≢ m) × NodeAt w.nodes k x) → HoldsBack x
    go (inl e) = subst HoldsBack e.1 (settled_back a r)
    go (inr e) = h k x e.1

-- an effect more is counted, or none
pub grows : (changes : Bool) (k : ℕ) → k ≤ cond changes (k + 1) k
grows true k = omega arith
grows false k = omega arith

module _ {C State : Type 0} (o : Object C State) (w : World C) (made : List Shape) (inv : Invariant o w made) where
  -- a live node that takes a message holds what it held
  pub taking_holds : (q : Packet) (n : Node) → In q w.packets → NodeAt w.nodes q.to n → is_among w.crashed q.to ≡ false → (taking w.members q.to q.from q.message n).node.held ≡ n.held
  taking_holds q n j at lives = same_or_none n.held (taking w.members q.to q.from q.message n).node.held
      (λ h k. taking_held o w made inv q.to n at lives h k w.members q.from q.message (every_in (λ (p : Packet). PacketOk w.nodes w.recorded.bases made w.crashed p.from p.message) w.packets q inv.frame.packets j))
      (held_or_none w.members q.to q.from q.message n)

  -- none is late

  pub executing_rises : (m : ℕ) (n : Node) → NodeAt w.nodes m n → Rising n.held → (changes : Bool) (conn number : ℕ) → Rising (executing changes conn number n).held
  executing_rises m n at r changes conn number =
      let a = executing changes conn number n in
      rising_last n.held (record { conn = conn; number = number; seen = a.pair.count }) r
      (every_from_in (λ (h : Held). h.seen ≤ a.pair.count) n.held (λ h i. le_trans (inv.content.held m n h at i).0 (grows changes n.pair.count)))

  pub back_after : AllHoldBack w → (e : Event C) → AllHoldBack (happens o w e).world
  back_after h = walk o w (λ e u. AllHoldBack u) (λ e ps. h) (λ e m. h) (λ e s st ps. h) (λ e s st ps. h)
      (λ e f t i q n j at l. settles_back w h q.to (taking w.members q.to q.from q.message n).node (subst Rising (sym (taking_holds q n j at l)) (h q.to n at).rising))
      (λ m conn number call now n at l p f. settles_back w h m (executing (o.changes (pair_state o w n.pair) call now) conn number n) (executing_rises m n at (h m n at).rising (o.changes (pair_state o w n.pair) call now) conn number))

  -- none is early

  pub awake : (m : ℕ) → is_live w m ≡ true → is_among w.crashed m ≡ false
  awake m e = not_true (is_among w.crashed m) (both_right (nat_lt m w.members) (not (is_among w.crashed m)) e)

  abbrev pub IsStep : Event C → World C → Type 0
  IsStep e u = IsStepOfNone w u ⊎ IsStepOfOne e w u

  pub none : {e : Event C} {u : World C} → u.nodes ≡ w.nodes → u.released ≡ w.released → IsStep e u
  none f g = inl (f, g)

  pub one : (e : Event C) (u : World C) (m : ℕ) (n a : Node) → is_live w m ≡ true → NodeAt w.nodes m n → u.nodes ≡ slice_set w.nodes m (settled a) → u.released ≡ w.released ++ now_released a a.held
      → a.held ≡ n.held ++ answer_to e (settled a) → IsStep e u
  one e u m n a lives at nodes released held = inr (record {
    member = m;
    before = n;
    after = settled a;
    answers = now_released a a.held;
    lives = lives;
    was = at;
    nodes = nodes;
    released = released;
    in_order = record {
      oldest = now_still a a.held ∙ held;
      acknowledged = λ h c. all_acknowledged a h.seen (now_in a h a.held (in_contains h (now_released a a.held) c)).1;
    };
  })

  pub steps : EventCases o w IsStep
  steps = record {
    stays = λ e z. none refl refl;
    loses = λ f t i q at. none refl refl;
    drops = λ f t i q at z. none refl refl;
    repeats = λ f t i q at. none refl refl;
    tells_again = none refl refl;
    sends_again = λ m n at lives p. none refl refl;
    crashes = λ m lives. none refl refl;
    detects = λ m a b c d. none refl refl;
    notes = λ m a b c d. none refl refl;
    begins = λ e source to r there z. none refl refl;
    hands_over = λ from to r. none refl refl;
    freezes = λ from to v p. none refl refl;
    leaves = λ from to v p. none refl refl;
    hands = λ from to v. none refl refl;
    reopens = λ r. none refl refl;
    joins = λ f t i q v m at to e. none refl refl;
    drains = λ f t i q v at to e. none refl refl;
    delivers = λ f t i q n at there lives. one (Deliver f t i) _ q.to n (taking w.members q.to q.from q.message n).node lives there refl refl
        (taking_holds q n (place_in f t i w.packets q at) there (awake q.to lives) ∙ sym (append-nil n.held));
    calls = λ m conn number call now n at lives still leads thawed. one (Call m conn number call now) _ m n (executing (o.changes (pair_state o w n.pair) call now) conn number n) lives at refl refl refl;
  }

-- every run

pub run_back : {C State : Type 0} (o : Object C State) (w : World C) (es : List (Event C)) → Good o w → AllHoldBack w → AllHoldBack (run o w es)
run_back o w [] g h = h
run_back o w (e ∷ es) g h = run_back o (happens o w e).world es (happens_good o w g.0 g.1 e) (back_after o w g.0 g.1 h e)

pub start_back : (C : Type 0) (partition members backups : ℕ) → AllHoldBack (start {C = C} partition members backups)
start_back C partition members backups m n at = subst HoldsBack (opened_node (initial_row partition members backups) members m n at) (record { blocked = tt; rising = tt })

pub every_held_answer_waits : {C State : Type 0} (o : Object C State) → EveryHeldAnswerWaits o
every_held_answer_waits o partition zero backups events m node h some at c = absurd (omega (arith, some))
every_held_answer_waits {C} o partition (suc k) backups events m node h some at c =
    let opening = start partition (suc k) backups in
    let back = run_back o opening events (start_good o partition k backups) (start_back C partition (suc k) backups) m node at in
    let listing = (run_placed o opening events (start_placed partition (suc k) backups)).known m node at in
    all_block (run o opening events).members node node.held listing back.blocked back.rising h (in_contains h node.held c)

pub every_release_is_in_order : {C State : Type 0} (o : Object C State) → EveryReleaseIsInOrder o
every_release_is_in_order o partition members backups events event some =
    let w = run o (start partition members backups) events in
    let g = grid_good o partition members backups events some in
    every_event o w (IsStep o w g.0 g.1) (steps o w g.0 g.1) event
