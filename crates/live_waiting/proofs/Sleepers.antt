-- Who need be looked at, and until when nobody need look.
use Rattle.std.proofs.Common.{◌≡◌, ℕ, zero, suc, min, ◌≤◌, ◌==◌, ◌||◌, ◌&&◌, Bool, true, false, cond, not, List, [], ◌∷◌, length, filter, Option, Some, None, slice_get, refl, ap, sym, ◌∙◌, subst, ◌⊎◌, ⊎_elim, inl, inr, arith}
use Rattle.std.specs.Prelude.{nat_le}
use Rattle.std.proofs.lemmas.Bool.Decides.{nat_tests}
use Rattle.std.proofs.Math.Nat.{min-eq_left, min-eq_right}
use Rattle.std.specs.List.{list_any}
use Rattle.grid_base.specs.Objects.{Object}
use Rattle.partition_protocol.specs.Node.{Node}
use Rattle.partition_protocol.specs.Execution.{Reached, Executes, reached}
use Rattle.partition_protocol.specs.World.{map_or, is_live, pair_state}
use Rattle.partition_protocol.specs.Claims.{IsLawful}
use Rattle.partition_protocol.proofs.Lists.{In, in_left, in_right, in_contains, contains_in, cases}
use Rattle.partition_protocol.proofs.Histories.{filter_in}
use Rattle.partition_protocol.proofs.RowFacts.{in_any, same_number, number_same}
use Rattle.waiting_protocol.specs.Machine.{Waiter, Waiting, Line, Closes, Terms, Gone, is_due, is_ready, fate_of, fate_at, fate_in, is_over, stirs, gone_as, turn, gone_in, turned, gone, opened, gone_by, after, start}
use Rattle.waiting_protocol.specs.Claims.{IsQuiet, IsItsTurn, WaitsOn}
use Rattle.waiting_protocol.proofs.Turns.{shorter}
use Rattle.waiting_protocol.proofs.Fates.{closed_fate, waits_on}
use Rattle.waiting_protocol.proofs.Places.{every_leaver_is_of_its_line}
use Rattle.waiting_protocol.proofs.Theorem.{start_quiet}
use Rattle.live_waiting.specs.Cell.{Visit, moment, timed, clock_line, line_for, own, cell_after, cell_left, cell_events, cell_lines}
use Rattle.live_waiting.specs.Claims.{Serves}
use Rattle.live_waiting.specs.LookClaims.{IsOfLastLine, EveryLeaverIsAtOneOfTwo, EveryIdleVisitLetsNobodyGo, EveryNewcomerIsLookedAtAlone, earlier_end, earliest, IsTheEarliest, EveryEarliestEndIsSomebodys, EverySleeperMaySleep}
use Rattle.live_waiting.proofs.Visits.{nobodys, fails}
use Rattle.live_waiting.proofs.Lines.{Under, under_way, continues, is_served}
use Rattle.live_waiting.proofs.Moments.{set_at, kept_at}

-- at which member

module _ {C State : Type 0} (o : Object C State) (t : Terms C) where
  -- whose turn it is, is among those who leave
  pub leaves_next : (n : ℕ) (i : Waiting C) (x : Waiter C) → IsItsTurn o t i x → length i.waiters ≤ n → In (gone_as o t i x) (gone o t n i)
  leaves_next zero i x s l = absurd (let a = shorter o t i x s in omega (arith, a, l))
  leaves_next (suc n) i x s l = in_left (gone_as o t i x) (gone_in o t i) (gone o t n (turn o t i)) (subst (In (gone_as o t i x)) (sym s.gone) (inl refl))

  pub leaves_line : (n : ℕ) (y : Waiting C) (x : Waiter C) → IsItsTurn o t (turned o t n y) x → In (gone_as o t (turned o t n y) x) (gone o t (length y.waiters) y)
  leaves_line n y x s =
      let i : Waiting C = turned o t n y in
      subst (In (gone_as o t i x)) (sym (continues o t n (length y.waiters) y (omega arith)).1)
      (in_right (gone_as o t i x) (gone o t n y) (gone o t (length i.waiters) i) (leaves_next (length i.waiters) i x s (omega arith)))

module _ {C State : Type 0} (o : Object C State) (t : Terms C) (p n b : ℕ) (some : 1 ≤ n) (law : IsLawful o) where
  module _ (visits : List (Visit C)) where
    abbrev pub s : Waiting C
    s = start p n b

    abbrev pub lines : List (Line C)
    lines = cell_lines o t s visits

    abbrev pub j : Waiting C
    j = cell_after o t s visits

    pub of_last : (x : Waiter C) → IsItsTurn o t j x → Under o t s (start_quiet o t p n b) lines j (cell_left o t s visits) (cell_events o t s visits) → IsOfLastLine lines x.member
    of_last x i (inl e) = absurd (nobodys o t j (subst (IsQuiet o t) (sym e.state) (start_quiet o t p n b)) x i)
    of_last x i (inr u) =
        let k : Waiting C = opened o (after o t s u.served) u.last in
        let m : IsItsTurn o t (turned o t u.turns k) x = subst (λ z. IsItsTurn o t z x) u.state i in
        record {
          served = u.served;
          last = u.last;
          whole = u.whole;
          at = every_leaver_is_of_its_line o t p n b u.served u.last (gone_as o t (turned o t u.turns k) x) some law
              (contains_in (gone_as o t (turned o t u.turns k) x) (gone_by o t (after o t s u.served) u.last) (leaves_line o t u.turns k x m));
        }

    pub of_visit : (v : Visit C) (x : Waiter C) → IsQuiet o t j → IsItsTurn o t (timed o j v) x → x.member ≡ v.member
    of_visit v x q i =
        let d = is_served o t s (start_quiet o t p n b) lines j (cell_left o t s visits) (cell_events o t s visits) (under_way o t s (start_quiet o t p n b) visits) q in
        let g : Gone C = gone_as o t (timed o j v) x in
        let here : In g (gone_by o t j (clock_line j v)) = leaves_line o t 0 (timed o j v) x i in
        sym (every_leaver_is_of_its_line o t p n b lines (clock_line j v) g some law
        (contains_in g (gone_by o t (after o t s lines) (clock_line j v)) (subst (λ z. In g (gone_by o t z (clock_line j v))) d.state here)))

    pub one_of_two : (v : Visit C) (k : Waiting C) (x : Waiter C) → Serves o t j v k x → (k ≡ j) ⊎ (IsQuiet o t j × (k ≡ timed o j v)) → IsOfLastLine lines x.member ⊎ (IsQuiet o t j × (x.member ≡ v.member))
    one_of_two v k x s (inl e) = inl (of_last x (subst (λ z. IsItsTurn o t z x) e s.its) (under_way o t (start p n b) (start_quiet o t p n b) visits))
    one_of_two v k x s (inr e) = inr (e.0, of_visit v x e.0 (subst (λ z. IsItsTurn o t z x) e.1 s.its))

pub every_leaver_is_at_one_of_two : {C State : Type 0} (o : Object C State) → EveryLeaverIsAtOneOfTwo o
every_leaver_is_at_one_of_two o t p n b visits v k x some law r = one_of_two o t p n b some law visits v k x r r.stands

-- after a visit

pub every_idle_visit_lets_nobody_go : {C State : Type 0} (o : Object C State) → EveryIdleVisitLetsNobodyGo o
every_idle_visit_lets_nobody_go {C} o t j v d (inl e) =
    let f : own o j v ≡ timed o j v = ap (λ p. map_or (line_for v.member (moment j v) p) (timed o j v) (opened o (timed o j v))) e in
    subst (IsQuiet o t) (sym (d.state ∙ f)) d.quiet
every_idle_visit_lets_nobody_go {C} o t j v d (inr (c, e)) =
    let f : own o j v ≡ opened o (timed o j v) (Closes c) = ap (λ p. map_or (line_for v.member (moment j v) p) (timed o j v) (opened o (timed o j v))) e in
    let kept : List (Waiter C) = filter (λ (x : Waiter C). not (x.conn == c)) j.waiters in
    let q : IsQuiet o t (opened o (timed o j v) (Closes c)) = λ x i. d.quiet x (contains_in x j.waiters (filter_in (λ (y : Waiter C). not (y.conn == c)) j.waiters x (in_contains x kept i)).0) in
    subst (IsQuiet o t) (sym (d.state ∙ f)) q

pub every_newcomer_is_looked_at_alone : {C State : Type 0} (o : Object C State) → EveryNewcomerIsLookedAtAlone o
every_newcomer_is_looked_at_alone o t j v conn number call deadline d e x c =
    ap (λ k. stirs o t k x) (d.state ∙ ap (λ p. map_or (line_for v.member (moment j v) p) (timed o j v) (opened o (timed o j v))) e) ∙ d.quiet x c

-- the earliest end

pub first_holds : (a b : Bool) → (b ≡ true → a ≡ true) → a ≡ (a || b)
first_holds true b h = refl
first_holds false true h = h refl
first_holds false false h = refl

pub second_holds : (a b : Bool) → (a ≡ true → b ≡ true) → b ≡ (a || b)
second_holds true b h = h refl
second_holds false b h = refl

pub no_later : (a b now : ℕ) → a ≤ b → nat_le b now ≡ true → nat_le a now ≡ true
no_later a b now l e = grind (arith, nat_tests)

pub at_most : (a b : ℕ) → nat_le a b ≡ true → a ≤ b
at_most a b e = grind (arith, nat_tests)

pub not_at_most : (a b : ℕ) → nat_le a b ≡ false → b ≤ a
not_at_most a b e = grind (arith, nat_tests)

pub due_min : (a b now : ℕ) → nat_le (min a b) now ≡ (nat_le a now || nat_le b now)
due_min a b now = ⊎_elim
    (λ e. let l = at_most a b e in ap (λ z. nat_le z now) (min-eq_left l) ∙ first_holds (nat_le a now) (nat_le b now) (no_later a b now l))
    (λ e. let l = not_at_most a b e in ap (λ z. nat_le z now) (min-eq_right l) ∙ second_holds (nat_le a now) (nat_le b now) (no_later b a now l)) (cases (nat_le a b))

pub due_of : (now : ℕ) (a b : Option ℕ) → is_due now (earlier_end a b) ≡ (is_due now a || is_due now b)
due_of now None b = refl
due_of now (Some a) None = second_holds false (nat_le a now) (λ e. absurd cc) ∙ or_comm (nat_le a now)
  where
    or_comm : (z : Bool) → (false || z) ≡ (z || false)
    or_comm true = refl
    or_comm false = refl
due_of now (Some a) (Some b) = due_min a b now

-- it waits at that member, and is due
abbrev pub is_due_at : {C : Type 0} → ℕ → ℕ → Waiter C → Bool
is_due_at m now x = (x.member == m) && is_due now x.deadline

pub one_more : (now : ℕ) (b : Bool) (d e : Option ℕ) (r : Bool) → is_due now e ≡ r → is_due now (cond b (earlier_end d e) e) ≡ ((b && is_due now d) || r)
one_more now true d e r h = due_of now d e ∙ ap (λ z. is_due now d || z) h
one_more now false d e r h = h

pub earliest_due : {C : Type 0} (m now : ℕ) (xs : List (Waiter C)) → is_due now (earliest m xs) ≡ list_any (is_due_at m now) xs
earliest_due m now [] = refl
earliest_due m now (x ∷ xs) = one_more now (x.member == m) x.deadline (earliest m xs) (list_any (is_due_at m now) xs) (earliest_due m now xs)

pub both_parts : (a b : Bool) → (a && b) ≡ true → (a ≡ true) × (b ≡ true)
both_parts true b e = (refl, e)
both_parts false b e = absurd cc

pub the_earliest : {C : Type 0} (m now : ℕ) (xs : List (Waiter C)) → IsTheEarliest m now xs
the_earliest {C} m now xs = record {
  before = λ e x c s. sym (ap (λ b. b && is_due now x.deadline) (number_same x.member m s)) ∙ fails (is_due_at m now) xs (sym (earliest_due m now xs) ∙ e) x (in_contains x xs c);
  after = λ e.
      let r = in_any (is_due_at m now) xs (sym (earliest_due m now xs) ∙ e) in
      let x : Waiter C = r.0 in
      let p = both_parts (x.member == m) (is_due now x.deadline) r.2 in
      (x, contains_in x xs r.1, same_number x.member m p.0, p.1);
}

pub every_earliest_end_is_somebodys : {C : Type 0} → EveryEarliestEndIsSomebodys C
every_earliest_end_is_somebodys m now xs = the_earliest m now xs

-- sleeping

pub stays_so : (r : Reached) (a d h : Bool) → r ≡ Executes → a ≡ false → d ≡ false → is_over (fate_of r (a || d) h) ≡ false
stays_so r a d h e f g = subst (λ z. is_over (fate_of z (a || d) h) ≡ false) (sym e) (subst (λ z. is_over (fate_of Executes (z || d) h) ≡ false) (sym f) (subst (λ z. is_over (fate_of Executes (false || z) h) ≡ false) (sym g) refl))

module _ {C State : Type 0} (o : Object C State) (t : Terms C) where
  pub sleeps_at : (j : Waiting C) (x : Waiter C) (now : ℕ) → WaitsOn o t j x → is_due now x.deadline ≡ false
      → ((node : Node) → slice_get j.world.nodes x.member ≡ Some node → is_ready o t (pair_state o j.world node.pair) x.call now ≡ false) → is_over (fate_in o t j.world now x) ≡ false
  sleeps_at j x now w d h =
      ap is_over (closed_fate (is_live j.world x.member) (slice_get j.world.nodes x.member) (fate_at o t j.world now x) w.node w.live w.known)
      ∙ stays_so (reached x.member w.node) (is_ready o t (pair_state o j.world w.node.pair) x.call now) (is_due now x.deadline) (t.starves x) w.serves (h w.node w.known) d

pub every_sleeper_may_sleep : {C State : Type 0} (o : Object C State) → EverySleeperMaySleep o
every_sleeper_may_sleep {C} o t j v q e unready x c = ⊎_elim here elsewhere (cases (x.member == v.member))
  where
    here : (x.member == v.member) ≡ true → stirs o t (timed o j v) x ≡ false
    here s =
        let m = same_number x.member v.member s in
        ap (λ z. is_over (fate_in o t j.world z x)) (set_at o t (x.member == v.member) (moment j v) (j.clock x.member) s)
        ∙ sleeps_at o t j x (moment j v) (waits_on o t j x (q x c)) ((the_earliest v.member (moment j v) j.waiters).before e x c m) (λ node at. unready x node c m at)

    elsewhere : (x.member == v.member) ≡ false → stirs o t (timed o j v) x ≡ false
    elsewhere s = ap (λ z. is_over (fate_in o t j.world z x)) (kept_at o t (x.member == v.member) (moment j v) (j.clock x.member) s) ∙ q x c
