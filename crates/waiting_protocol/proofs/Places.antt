-- A line makes waiters of one member leave.
use Rattle.std.proofs.Common.{◌≡◌, ◌≢◌, ℕ, zero, suc, ◌≤◌, true, false, cond, not, ◌==◌, List, [], ◌∷◌, ◌++◌, length, refl, ap, sym, ◌∙◌, subst, ◌⊎◌, ⊎_elim, inl, inr}
use Rattle.grid_base.specs.Objects.{Object}
use Rattle.partition_protocol.specs.World as world
use Rattle.partition_protocol.specs.World.{World}
use Rattle.partition_protocol.specs.Events.{Event, Call, Deliver, Lose, Repeat, Resend, Crash, Detect, BeginMove, BeginJoin, BeginHandover, Advance, Reopen, happens, run}
use Rattle.partition_protocol.specs.Claims.{IsLawful}
use Rattle.partition_protocol.proofs.Lists.{In, in_left, in_right, in_cases, in_contains, contains_in}
use Rattle.partition_protocol.proofs.Histories.{filter_in}
use Rattle.partition_protocol.proofs.RowFacts.{number_cases, number_other}
use Rattle.partition_protocol.proofs.Extends.{run_append}
use Rattle.waiting_protocol.specs.Machine.{Waiter, Waiting, Line, Asks, Waits, Clock, Closes, Terms, Fate, Stays, Runs, Starves, IsRefused, Leaves, fate_in, is_over, stirs, Gone, plain, event_if, event_of, gone_as, leaving, turn, gone_in, gone, opened, gone_by, after, events, start}
use Rattle.waiting_protocol.specs.Claims.{IsQuiet, IsItsTurn, IsAt, IsLineAt, EveryLeaverIsOfItsLine}
use Rattle.waiting_protocol.proofs.Turns.{turn_of, after_quiet, all_run}
use Rattle.waiting_protocol.proofs.Fates.{every_other_event_is_idle}
use Rattle.waiting_protocol.proofs.Theorem.{start_quiet}

pub at_or : {C : Type 0} (e : Event C) (k : ℕ) → IsAt e k ⊎ (IsAt e k → ⊥)
at_or (Call m conn number call now) k = number_cases m k
at_or (Deliver f t i) k = number_cases t k
at_or (Lose f t i) k = inr (λ z. z)
at_or (Repeat f t i) k = inr (λ z. z)
at_or (Resend end) k = inr (λ z. z)
at_or (Crash m) k = number_cases m k
at_or (Detect m) k = inr (λ z. z)
at_or (BeginMove from to) k = inr (λ z. z)
at_or (BeginJoin to) k = inr (λ z. z)
at_or (BeginHandover from to) k = inr (λ z. z)
at_or Advance k = inr (λ z. z)
at_or Reopen k = inr (λ z. z)

module _ {C State : Type 0} (o : Object C State) (t : Terms C) (p n b : ℕ) (some : 1 ≤ n) (law : IsLawful o) where
  -- a world that can come
  abbrev pub Comes : World C → Type 0
  Comes w = (es : List (Event C)) × (run o (world.start p n b) es ≡ w)

  pub idle : (w : World C) → Comes w → (e : Event C) (now : ℕ) (y : Waiter C) → (IsAt e y.member → ⊥) → fate_in o t (happens o w e).world now y ≡ fate_in o t w now y
  idle w c e now y d = subst (λ (v : World C). fate_in o t (happens o v e).world now y ≡ fate_in o t v now y) c.1 (every_other_event_is_idle o t p n b c.0 e now y some law d)

  pub run_idle : (w : World C) → Comes w → (x : Waiter C) (at : ℕ) (f : Fate) (now : ℕ) (y : Waiter C) → (x.member ≡ y.member → ⊥) → fate_in o t (run o w (event_if (plain x at) f)) now y ≡ fate_in o t w now y
  run_idle w c x at Stays now y d = refl
  run_idle w c x at Runs now y d = idle w c (plain x at) now y d
  run_idle w c x at Starves now y d = refl
  run_idle w c x at (IsRefused r) now y d = refl
  run_idle w c x at Leaves now y d = refl

  pub comes_on : (w : World C) (es : List (Event C)) → Comes w → Comes (run o w es)
  comes_on w es c = (c.0 ++ es, run_append o (world.start p n b) c.0 es ∙ ap (λ v. run o v es) c.1)

  -- whoever is to leave is of the line
  abbrev pub IsOf : Line C → Waiting C → Type 0
  IsOf l i = Comes i.world × ((y : Waiter C) → In y i.waiters → stirs o t i y ≡ true → IsLineAt l y.member)

  pub not_stirred : (j : Waiting C) → IsQuiet o t j → (y : Waiter C) → In y j.waiters → (f : Fate) → is_over f ≡ true → f ≡ fate_in o t j.world (j.clock y.member) y → ⊥
  not_stirred j q y i f s e = let a : is_over f ≡ false = ap is_over e ∙ q y (contains_in y j.waiters i) in let z : true ≡ false = sym s ∙ a in absurd cc

  pub opened_is_of : (j : Waiting C) → Comes j.world → IsQuiet o t j → (l : Line C) → IsOf l (opened o j l)
  opened_is_of j c q (Asks e) = (comes_on j.world (e ∷ []) c, λ y i s. ⊎_elim (λ a. a) (λ d. absurd (not_stirred j q y i (fate_in o t (happens o j.world e).world (j.clock y.member) y) s (idle j.world c e (j.clock y.member) y d))) (at_or e y.member))
  opened_is_of j c q (Waits x) = (c, λ y i s. ⊎_elim (λ a. absurd (not_stirred j q y a (fate_in o t j.world (j.clock y.member) y) s refl)) (λ a. last y a) (in_cases y j.waiters (x ∷ []) i))
    where
      last : (y : Waiter C) → In y (x ∷ []) → x.member ≡ y.member
      last y (inl e) = ap (λ (z : Waiter C). z.member) e
      last y (inr i) = absurd i
  opened_is_of j c q (Clock m now) = (c, λ y i s. ⊎_elim (λ a. a) (λ d. absurd (not_stirred j q y i (fate_in o t j.world (cond (y.member == m) now (j.clock y.member)) y) s (ap (λ z. fate_in o t j.world (cond z now (j.clock y.member)) y) (number_other y.member m (λ e. d (sym e)))))) (number_cases m y.member))
  opened_is_of j c q (Closes k) = (c, λ y i s. absurd (not_stirred j q y (filter_in (λ (x : Waiter C). not (x.conn == k)) j.waiters y i).0 (fate_in o t j.world (j.clock y.member) y) s refl))

  pub turn_is_of : (l : Line C) (i : Waiting C) → IsOf l i → IsOf l (turn o t i)
  turn_is_of l i h = ⊎_elim (λ s. subst (IsOf l) (sym s.1) h) (λ s. busy s.0 s.1) (turn_of o t i)
    where
      busy : (x : Waiter C) → IsItsTurn o t i x → IsOf l (turn o t i)
      busy x r = subst (IsOf l) (sym r.left) (comes_on i.world (event_of (gone_as o t i x)) h.0, λ y k s. other y k s (number_cases x.member y.member))
        where
          here : (y : Waiter C) → In y (r.front ++ x ∷ r.back) → In y i.waiters
          here y k = subst (In y) (sym r.place) k

          other : (y : Waiter C) → In y (r.front ++ r.back) → stirs o t (leaving o t i (record { front = r.front; one = x; back = r.back })) y ≡ true → (x.member ≡ y.member) ⊎ (x.member ≢ y.member) → IsLineAt l y.member
          other y k s (inl e) = subst (IsLineAt l) e (h.1 x (here x (in_right x r.front (x ∷ r.back) (inl refl))) r.stirred)
          other y k s (inr d) = h.1 y (here y (⊎_elim (λ a. in_left y r.front (x ∷ r.back) a) (λ a. in_right y r.front (x ∷ r.back) (inr a)) (in_cases y r.front r.back k)))
              (ap is_over (sym (run_idle i.world h.0 x (gone_as o t i x).now (gone_as o t i x).fate (i.clock y.member) y d)) ∙ s)

  pub gone_is_of : (l : Line C) (m : ℕ) (i : Waiting C) → IsOf l i → (g : Gone C) → In g (gone o t m i) → IsLineAt l g.waiter.member
  gone_is_of l zero i h g k = absurd k
  gone_is_of l (suc m) i h g k = ⊎_elim (λ a. now a (turn_of o t i)) (λ a. gone_is_of l m (turn o t i) (turn_is_of l i h) g a) (in_cases g (gone_in o t i) (gone o t m (turn o t i)) k)
    where
      its : (x : Waiter C) → IsItsTurn o t i x → In g (gone_as o t i x ∷ []) → IsLineAt l g.waiter.member
      its x r (inl e) = subst (λ (z : Gone C). IsLineAt l z.waiter.member) e (h.1 x (subst (In x) (sym r.place) (in_right x r.front (x ∷ r.back) (inl refl))) r.stirred)
      its x r (inr z) = absurd z

      now : In g (gone_in o t i) → (IsQuiet o t i × (turn o t i ≡ i) × (gone_in o t i ≡ [])) ⊎ ((x : Waiter C) × IsItsTurn o t i x) → IsLineAt l g.waiter.member
      now a (inl s) = absurd (subst (In g) s.2 a)
      now a (inr (x, r)) = its x r (subst (In g) r.gone a)

pub every_leaver_is_of_its_line : {C State : Type 0} (o : Object C State) → EveryLeaverIsOfItsLine o
every_leaver_is_of_its_line {C} o t p n b lines l g some law c =
    let j : Waiting C = after o t (start p n b) lines in
    let u : Waiting C = opened o j l in
    gone_is_of o t p n b some law l (length u.waiters) u
    (opened_is_of o t p n b some law j (events o t (start p n b) lines, all_run o t (start p n b) lines) (after_quiet o t (start p n b) lines (start_quiet o t p n b)) l)
    g (in_contains g (gone_by o t j l) c)
