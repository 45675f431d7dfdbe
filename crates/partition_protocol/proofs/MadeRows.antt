-- Every row that is known or in flight is one that the service made, and of one version it made one.
use Rattle.std.proofs.Common.{◌≡◌, ℕ, ◌<◌, not, ◌&&◌, ◌==◌, List, [], ◌∷◌, ◌++◌, refl, ap, sym, ◌∙◌, subst, ◌⊎◌, ⊎_elim, inl, inr, arith, append_assoc, append-nil}
use Rattle.grid_base.specs.Objects.{Object}
use Rattle.partition_table.specs.declared.Row.{Row}
use Rattle.partition_table.specs.Rows.{is_in, is_eligible}
use Rattle.partition_protocol.specs.Messages.{Packet}
use Rattle.partition_protocol.specs.Service.{Service, ServiceStep, detecting, is_freezing}
use Rattle.partition_protocol.specs.World.{World, start}
use Rattle.partition_protocol.specs.Events.{Event, happens, run}
use Rattle.partition_protocol.specs.Sequences.{IsFrontOf}
use Rattle.partition_protocol.specs.ReadOff.{row_in}
use Rattle.partition_protocol.specs.MadeRows.{WasMade, EveryRowWasMade, DifferInMarks, EveryVersionHasOneRow}
use Rattle.partition_protocol.proofs.Lists.{in_contains, Every, every_in, on_if}
use Rattle.partition_protocol.proofs.Invariant.{Shape, shape}
use Rattle.partition_protocol.proofs.Joins.{marked_shape}
use Rattle.partition_protocol.proofs.Extends.{run_append}
use Rattle.partition_protocol.proofs.EventFacts.{run_next}
use Rattle.partition_protocol.proofs.EventCases.{EventCases, every_event}
use Rattle.partition_protocol.proofs.CarriedRows.{RowsHave, start_has, carry}

-- rows that were made

module _ {C State : Type 0} (o : Object C State) (opening : World C) (events : List (Event C)) where
  pub run_made : (front rest : List (Event C)) → front ++ rest ≡ events → RowsHave (WasMade o opening events) (run o opening front) → RowsHave (WasMade o opening events) (run o opening events)
  run_made front [] e h = subst (λ es. RowsHave (WasMade o opening events) (run o opening es)) (sym (append-nil front) ∙ e) h
  run_made front (x ∷ rest) e h = run_made (front ++ x ∷ []) rest split (subst (RowsHave (WasMade o opening events)) (sym next) (carry (WasMade o opening events) o (run o opening front) h x newest))
    where
      split : (front ++ x ∷ []) ++ rest ≡ events
      split = append_assoc front (x ∷ []) rest ∙ e

      next : run o opening (front ++ x ∷ []) ≡ (happens o (run o opening front) x).world
      next = run_next o opening front x

      newest : WasMade o opening events (happens o (run o opening front) x).world.service.row
      newest = (front ++ x ∷ [], (rest, split), ap (λ (u : World C). u.service.row) next)

pub every_row_was_made : {C State : Type 0} (o : Object C State) → EveryRowWasMade o
every_row_was_made {C} o partition members backups events =
    let opening = start partition members backups in
    let h = run_made o opening events [] events refl (start_has C (WasMade o opening events) partition members backups ([], (events, refl), refl)) in
    record {
      known = h.known;
      in_flight = λ p row c d. every_in (WasMade o opening events) (row_in p.message) row
          (every_in (λ (q : Packet). Every (WasMade o opening events) (row_in q.message)) (run o opening events).packets p h.packets (in_contains p (run o opening events).packets c)) (in_contains row (row_in p.message) d);
      standing = h.standing;
    }

-- one row of a version

-- a later row, or the same with other marks
abbrev pub GoesOn : Row → Row → Type 0
GoesOn r s = (r.version < s.version) ⊎ (shape r ≡ shape s)

pub goes_on : (r s t : Row) → GoesOn r s → GoesOn s t → GoesOn r t
goes_on r s t (inl l) (inl k) = inl (omega (arith, l, k))
goes_on r s t (inl l) (inr e) = inl (subst (λ (x : Shape). r.version < x.version) e l)
goes_on r s t (inr e) (inl l) = inl (subst (λ (x : Shape). x.version < t.version) (sym e) l)
goes_on r s t (inr e) (inr f) = inr (e ∙ f)

module _ {C State : Type 0} (o : Object C State) (w : World C) where
  abbrev pub RowGoesOn : Event C → World C → Type 0
  RowGoesOn e u = GoesOn w.service.row u.service.row

  pub row_goes_on : EventCases o w RowGoesOn
  row_goes_on = record {
    stays = λ e z. inr refl;
    loses = λ f t i q at. inr refl;
    drops = λ f t i q at z. inr refl;
    repeats = λ f t i q at. inr refl;
    tells_again = inr refl;
    sends_again = λ m n at lives leads. inr refl;
    crashes = λ m lives. inr refl;
    detects = λ m l c d i. detected m;
    notes = λ m l c d i. detected m;
    begins = λ e source to r there z. inl (omega arith);
    hands_over = λ from to r. inr refl;
    freezes = λ from to v p. inr refl;
    leaves = λ from to v p. inl (omega arith);
    hands = λ from to v. inl (omega arith);
    reopens = λ r. inl (omega arith);
    joins = λ f t i q v m at to e. on_if (λ (s : ServiceStep). GoesOn w.service.row s.service.row) ((w.service.row.version == v) && is_in w.service.row m && not (is_eligible w.service.row m)) _ _ (inr (sym (marked_shape w.service.row m))) (inr refl);
    drains = λ f t i q v at to e. on_if (λ (s : ServiceStep). GoesOn w.service.row s.service.row) (is_freezing w.service.move && (w.service.row.version == v)) _ _ (inr refl) (inr refl);
    delivers = λ f t i q n at there lives. inr refl;
    calls = λ m conn number call now n at lives still leads thawed. inr refl;
  }
    where
      detected : (m : ℕ) → GoesOn w.service.row (detecting m w.service).row
      detected m = on_if (λ (s : Service). GoesOn w.service.row s.row) (is_in w.service.row m) _ _ (inl (omega arith)) (inr refl)

pub run_goes_on : {C State : Type 0} (o : Object C State) (w : World C) (es : List (Event C)) → GoesOn w.service.row (run o w es).service.row
run_goes_on o w [] = inr refl
run_goes_on o w (e ∷ es) =
    let u = (happens o w e).world in
    goes_on w.service.row u.service.row (run o u es).service.row (every_event o w (RowGoesOn o w) (row_goes_on o w) e) (run_goes_on o u es)

-- of two fronts of a list one is a front of the other

pub front_longer : {X : Type 0} (x y : X) (xs ys : List X) → x ≡ y → IsFrontOf xs ys → IsFrontOf (x ∷ xs) (y ∷ ys)
front_longer x y xs ys e f = (f.0, rw (e, f.1) refl)

pub front_front : {X : Type 0} (xs ys zs : List X) → IsFrontOf xs zs → IsFrontOf ys zs → IsFrontOf xs ys ⊎ IsFrontOf ys xs
front_front [] ys zs f g = inl (ys, refl)
front_front (x ∷ xs) [] zs f g = inr (x ∷ xs, refl)
front_front (x ∷ xs) (y ∷ ys) [] f g = let none : x ∷ (xs ++ f.0) ≡ [] = f.1 in absurd cc
front_front (x ∷ xs) (y ∷ ys) (z ∷ zs) f g =
    let same : x ≡ y = cc (f.1, g.1) in
    let more : xs ++ f.0 ≡ zs = cc (f.1) in
    let others : ys ++ g.0 ≡ zs = cc (g.1) in
    ⊎_elim (λ r. inl (front_longer x y xs ys same r)) (λ r. inr (front_longer y x ys xs (sym same) r)) (front_front xs ys zs (f.0, more) (g.0, others))

-- the rows that the service has after the one front and after the other
pub front_goes_on : {C State : Type 0} (o : Object C State) (opening : World C) (xs ys : List (Event C)) → IsFrontOf xs ys → GoesOn (run o opening xs).service.row (run o opening ys).service.row
front_goes_on {C} o opening xs ys f = subst (λ (u : World C). GoesOn (run o opening xs).service.row u.service.row) (sym (run_append o opening xs f.0) ∙ ap (run o opening) f.1) (run_goes_on o (run o opening xs) f.0)

-- rows of one shape
pub differ : (r s : Row) → shape r ≡ shape s → DifferInMarks r s
differ r s e = record { reset = ap (λ (t : Shape). t.reset) e; lost = ap (λ (t : Shape). t.lost) e; members = ap (λ (t : Shape). t.members) e }

pub same_version : (r s : Row) → GoesOn r s → r.version ≡ s.version → shape r ≡ shape s
same_version r s (inl l) e = absurd (omega (arith, l, e))
same_version r s (inr f) e = f

pub every_version_has_one_row : {C State : Type 0} (o : Object C State) → EveryVersionHasOneRow o
every_version_has_one_row {C} o partition members backups events r s (xs, f, a) (ys, g, b) v = differ r s (⊎_elim first second (front_front xs ys events f g))
  where
    opening : World C
    opening = start partition members backups

    first : IsFrontOf xs ys → shape r ≡ shape s
    first k = same_version r s (subst (λ x. GoesOn x s) a (subst (λ x. GoesOn (run o opening xs).service.row x) b (front_goes_on o opening xs ys k))) v

    second : IsFrontOf ys xs → shape r ≡ shape s
    second k = sym (same_version s r (subst (λ x. GoesOn x r) b (subst (λ x. GoesOn (run o opening ys).service.row x) a (front_goes_on o opening ys xs k))) (sym v))
