-- The lines of which a cell is a run under way.
use Rattle.std.proofs.Common.{◌≡◌, ℕ, zero, suc, ◌<◌, ◌≤◌, true, false, List, [], ◌∷◌, ◌++◌, length, Option, Some, None, refl, ap, sym, ◌∙◌, subst, ◌⊎◌, ⊎_elim, inl, inr, arith, append_assoc, append-nil}
use Rattle.std.specs.Option.{option_to_list}
use Rattle.grid_base.specs.Objects.{Object}
use Rattle.partition_protocol.specs.World.{map_or}
use Rattle.partition_protocol.specs.Events.{Event}
use Rattle.waiting_protocol.specs.Machine.{Waiting, Line, Terms, Gone, events_of, turn, gone_in, turned, gone, opened, event_in, goes, gone_by, events_by, after, events, all_gone}
use Rattle.waiting_protocol.specs.Claims.{IsQuiet}
use Rattle.waiting_protocol.proofs.Turns.{turn_of, shorter, rests, ends, events_append}
use Rattle.live_waiting.specs.Cell.{Visit, timed, clock_line, own_line, own, own_events, visited, left_at, events_at, lines_at, cell_after, cell_left, cell_events, cell_lines}
use Rattle.live_waiting.specs.Claims.{IsUnderWay, IsYetToBegin, HasItsEnd}
use Rattle.live_waiting.proofs.Visits.{GoesFirst, IsOwn, ways, not_busy, nobodys}

module _ {C State : Type 0} (o : Object C State) (t : Terms C) where
  -- one turn more

  pub turned_once : (n : ℕ) (j : Waiting C) → turned o t (suc n) j ≡ turn o t (turned o t n j)
  turned_once zero j = refl
  turned_once (suc n) j = turned_once n (turn o t j)

  pub gone_once : (n : ℕ) (j : Waiting C) → gone o t (suc n) j ≡ gone o t n j ++ gone_in o t (turned o t n j)
  gone_once zero j = append-nil (gone_in o t j)
  gone_once (suc n) j = ap (λ gs. gone_in o t j ++ gs) (gone_once n (turn o t j)) ∙ sym (append_assoc (gone_in o t j) (gone o t n (turn o t j)) (gone_in o t (turned o t n (turn o t j))))

  -- turns that end with nothing to be done are as good as any number that is enough

  abbrev pub Same : ℕ → ℕ → Waiting C → Type 0
  Same n m j = (turned o t n j ≡ turned o t m j) × (gone o t n j ≡ gone o t m j)

  pub rest_alike : (n m : ℕ) (j : Waiting C) → IsQuiet o t j × (turn o t j ≡ j) × (gone_in o t j ≡ []) → Same n m j
  rest_alike n m j s = let a = rests o t n j s.1 s.2 in let b = rests o t m j s.1 s.2 in (a.0 ∙ sym b.0, a.1 ∙ sym b.1)

  pub quiet_rest : (n m : ℕ) (j : Waiting C) → IsQuiet o t j → Same n m j
  quiet_rest n m j q = ⊎_elim (rest_alike n m j) (λ s. absurd (nobodys o t j q s.0 s.1)) (turn_of o t j)

  pub settles : (n m : ℕ) (j : Waiting C) → IsQuiet o t (turned o t n j) → length j.waiters ≤ m → Same m n j
  settles zero m j q l = quiet_rest m zero j q
  settles (suc n) zero j q l = ⊎_elim (rest_alike zero (suc n) j) (λ s. absurd (let k = shorter o t j s.0 s.1 in omega (arith, k, l))) (turn_of o t j)
  settles (suc n) (suc m) j q l = ⊎_elim (rest_alike (suc m) (suc n) j)
      (λ s. let r = settles n m (turn o t j) q (let k = shorter o t j s.0 s.1 in omega (arith, k, l)) in (r.0, ap (λ gs. gone_in o t j ++ gs) r.1)) (turn_of o t j)

  -- what is left to be done after some turns brings it to the same end
  abbrev pub Continues : ℕ → ℕ → Waiting C → Type 0
  Continues n m j = let k = turned o t n j in (turned o t m j ≡ turned o t (length k.waiters) k) × (gone o t m j ≡ gone o t n j ++ gone o t (length k.waiters) k)

  pub resting : (n m : ℕ) (j : Waiting C) → length j.waiters ≤ m → (length (turn o t j).waiters ≤ m → Continues n m (turn o t j)) → IsQuiet o t j × (turn o t j ≡ j) × (gone_in o t j ≡ []) → Continues (suc n) m j
  resting n m j l more s =
      let k : Waiting C = turned o t n (turn o t j) in
      let r = more (subst (λ (i : Waiting C). length i.waiters ≤ m) (sym s.1) l) in (
        ap (turned o t m) (sym s.1) ∙ r.0,
        ap (gone o t m) (sym s.1) ∙ r.1 ∙ sym (ap (λ gs. (gs ++ gone o t n (turn o t j)) ++ gone o t (length k.waiters) k) s.2),
      )

  pub moving : (n m : ℕ) (j : Waiting C) → length j.waiters ≤ m → length (turn o t j).waiters < length j.waiters → ((i : ℕ) → length (turn o t j).waiters ≤ i → Continues n i (turn o t j)) → Continues (suc n) m j
  moving n zero j l s more = absurd (omega (arith, s, l))
  moving n (suc m) j l s more =
      let k : Waiting C = turned o t n (turn o t j) in
      let r = more m (omega (arith, s, l)) in (
        r.0,
        ap (λ gs. gone_in o t j ++ gs) r.1 ∙ sym (append_assoc (gone_in o t j) (gone o t n (turn o t j)) (gone o t (length k.waiters) k)),
      )

  pub continues : (n m : ℕ) (j : Waiting C) → length j.waiters ≤ m → Continues n m j
  continues zero m j l = settles (length j.waiters) m j (ends o t (length j.waiters) j (omega arith)) l
  continues (suc n) m j l = ⊎_elim (resting n m j l (continues n m (turn o t j))) (λ s. moving n m j l (shorter o t j s.0 s.1) (λ i h. continues n i (turn o t j) h)) (turn_of o t j)

  -- one line more

  pub after_once : (s : Waiting C) (ls : List (Line C)) (l : Line C) → after o t s (ls ++ l ∷ []) ≡ goes o t (after o t s ls) l
  after_once s [] l = refl
  after_once s (m ∷ ls) l = after_once (goes o t s m) ls l

  pub gone_line : (s : Waiting C) (ls : List (Line C)) (l : Line C) → all_gone o t s (ls ++ l ∷ []) ≡ all_gone o t s ls ++ gone_by o t (after o t s ls) l
  gone_line s [] l = append-nil (gone_by o t s l)
  gone_line s (m ∷ ls) l = ap (λ gs. gone_by o t s m ++ gs) (gone_line (goes o t s m) ls l) ∙ sym (append_assoc (gone_by o t s m) (all_gone o t (goes o t s m) ls) (gone_by o t (after o t (goes o t s m) ls) l))

  pub events_line : (s : Waiting C) (ls : List (Line C)) (l : Line C) → events o t s (ls ++ l ∷ []) ≡ events o t s ls ++ events_by o t (after o t s ls) l
  events_line s [] l = append-nil (events_by o t s l)
  events_line s (m ∷ ls) l = ap (λ es. events_by o t s m ++ es) (events_line (goes o t s m) ls l) ∙ sym (append_assoc (events_by o t s m) (events o t (goes o t s m) ls) (events_by o t (after o t (goes o t s m) ls) l))

  -- runs under way

  module _ (s : Waiting C) (rests_at_first : IsQuiet o t s) where
    -- all lines are served to their end
    pub record IsServed (lines : List (Line C)) (j : Waiting C) (left : List (Gone C)) (happened : List (Event C)) : Type 0 where
      pub state : j ≡ after o t s lines
      pub leavers : left ≡ all_gone o t s lines
      pub making : happened ≡ events o t s lines

    abbrev pub Under : List (Line C) → Waiting C → List (Gone C) → List (Event C) → Type 0
    Under lines j left happened = IsYetToBegin s lines j left happened ⊎ IsUnderWay o t s lines j left happened

    pub under_as : (lines more : List (Line C)) (j k : Waiting C) (left gone_too : List (Gone C)) (happened made : List (Event C))
        → more ≡ lines → k ≡ j → gone_too ≡ left → made ≡ happened → IsUnderWay o t s lines j left happened → IsUnderWay o t s more k gone_too made
    under_as lines more j k left gone_too happened made e f g h u = record {
      served = u.served;
      last = u.last;
      turns = u.turns;
      whole = e ∙ u.whole;
      state = f ∙ u.state;
      leavers = g ∙ u.leavers;
      making = h ∙ u.making;
    }

    -- with nothing to be done, the last line is served to its end
    pub is_served : (lines : List (Line C)) (j : Waiting C) (left : List (Gone C)) (happened : List (Event C)) → Under lines j left happened → IsQuiet o t j → IsServed lines j left happened
    is_served lines j left happened (inl b) q = record {
      state = b.state ∙ ap (after o t s) (sym b.whole);
      leavers = b.leavers ∙ ap (all_gone o t s) (sym b.whole);
      making = b.making ∙ ap (events o t s) (sym b.whole);
    }
    is_served lines j left happened (inr u) q =
        let before : Waiting C = after o t s u.served in
        let k : Waiting C = opened o before u.last in
        let r = settles u.turns (length k.waiters) k (subst (IsQuiet o t) u.state q) (omega arith) in
        record {
          state = u.state ∙ sym r.0 ∙ sym (after_once s u.served u.last) ∙ ap (after o t s) (sym u.whole);
          leavers = u.leavers ∙ ap (λ gs. all_gone o t s u.served ++ gs) (sym r.1) ∙ sym (gone_line s u.served u.last) ∙ ap (all_gone o t s) (sym u.whole);
          making = u.making ∙ ap (λ gs. events o t s u.served ++ (event_in u.last ++ events_of gs)) (sym r.1) ∙ sym (events_line s u.served u.last) ∙ ap (events o t s) (sym u.whole);
        }

    -- a further line begins
    pub line_begins : (lines : List (Line C)) (j : Waiting C) (left : List (Gone C)) (happened : List (Event C)) (l : Line C) → IsServed lines j left happened
        → IsUnderWay o t s (lines ++ l ∷ []) (opened o j l) left (happened ++ event_in l)
    line_begins lines j left happened l d = record {
      served = lines;
      last = l;
      turns = 0;
      whole = refl;
      state = ap (λ i. opened o i l) d.state;
      leavers = d.leavers ∙ sym (append-nil (all_gone o t s lines));
      making = ap (λ es. es ++ event_in l) d.making ∙ ap (λ es. events o t s lines ++ es) (sym (append-nil (event_in l)));
    }

    -- a further turn of the last line
    pub turn_goes : (lines : List (Line C)) (j : Waiting C) (left : List (Gone C)) (happened : List (Event C)) → IsUnderWay o t s lines j left happened
        → IsUnderWay o t s lines (turn o t j) (left ++ gone_in o t j) (happened ++ events_of (gone_in o t j))
    turn_goes lines j left happened u =
        let before : Waiting C = after o t s u.served in
        let k : Waiting C = opened o before u.last in
        let i : Waiting C = turned o t u.turns k in
        let gs : List (Gone C) = gone o t u.turns k in
        let more : List (Gone C) = gone_in o t i in
        let f : gone_in o t j ≡ more = ap (gone_in o t) u.state in
        record {
          served = u.served;
          last = u.last;
          turns = suc u.turns;
          whole = u.whole;
          state = ap (turn o t) u.state ∙ sym (turned_once u.turns k);
          leavers = ap (λ hs. hs ++ gone_in o t j) u.leavers ∙ ap (λ hs. (all_gone o t s u.served ++ gs) ++ hs) f
              ∙ append_assoc (all_gone o t s u.served) gs more ∙ ap (λ hs. all_gone o t s u.served ++ hs) (sym (gone_once u.turns k));
          making = ap (λ es. es ++ events_of (gone_in o t j)) u.making ∙ ap (λ hs. (events o t s u.served ++ (event_in u.last ++ events_of gs)) ++ events_of hs) f
              ∙ append_assoc (events o t s u.served) (event_in u.last ++ events_of gs) (events_of more)
              ∙ ap (λ es. events o t s u.served ++ es) (append_assoc (event_in u.last) (events_of gs) (events_of more)
              ∙ ap (λ es. event_in u.last ++ es) (sym (events_append o t gs more) ∙ ap events_of (sym (gone_once u.turns k))));
        }

    -- a visit

    abbrev pub Stepped : List (Line C) → Waiting C → List (Gone C) → List (Event C) → Visit C → Type 0
    Stepped lines j left happened v = IsUnderWay o t s (lines ++ lines_at o t j v) (visited o t j v) (left ++ left_at o t j v) (happened ++ events_at o t j v)

    module _ (lines : List (Line C)) (j : Waiting C) (left : List (Gone C)) (happened : List (Event C)) (v : Visit C) where
      pub lets_go : Under lines j left happened → GoesFirst o t j v j → lines_at o t j v ≡ [] → Stepped lines j left happened v
      lets_go (inl b) f e = absurd (let g : true ≡ false = sym f.busy ∙ not_busy o t j (subst (IsQuiet o t) (sym b.state) rests_at_first) in cc)
      lets_go (inr u) f e =
          under_as lines (lines ++ lines_at o t j v) (turn o t j) (visited o t j v) (left ++ gone_in o t j) (left ++ left_at o t j v) (happened ++ events_of (gone_in o t j)) (happened ++ events_at o t j v)
          (ap (λ ls. lines ++ ls) e ∙ append-nil lines) f.state (ap (λ gs. left ++ gs) f.leavers) (ap (λ es. happened ++ es) f.making) (turn_goes lines j left happened u)

      -- the member's moment is set first
      pub is_timed : Under lines j left happened → IsQuiet o t j → IsUnderWay o t s (lines ++ clock_line j v ∷ []) (timed o j v) left (happened ++ [])
      is_timed u q = line_begins lines j left happened (clock_line j v) (is_served lines j left happened u q)

      pub comes_due : Under lines j left happened → IsQuiet o t j → GoesFirst o t j v (timed o j v) → lines_at o t j v ≡ clock_line j v ∷ [] → Stepped lines j left happened v
      comes_due u q f e =
          let k : Waiting C = timed o j v in
          let more : List (Line C) = lines ++ clock_line j v ∷ [] in
          under_as more (lines ++ lines_at o t j v) (turn o t k) (visited o t j v) (left ++ gone_in o t k) (left ++ left_at o t j v) ((happened ++ []) ++ events_of (gone_in o t k)) (happened ++ events_at o t j v)
          (ap (λ ls. lines ++ ls) e) f.state (ap (λ gs. left ++ gs) f.leavers) (ap (λ es. happened ++ es) f.making ∙ ap (λ es. es ++ events_of (gone_in o t k)) (sym (append-nil happened))) (turn_goes more k left (happened ++ []) (is_timed u q))

      -- its own line, if it brings one
      pub own_goes : (r : Option (Line C)) → IsUnderWay o t s (lines ++ clock_line j v ∷ []) (timed o j v) left (happened ++ []) → IsQuiet o t (timed o j v)
          → IsUnderWay o t s (lines ++ clock_line j v ∷ option_to_list r) (map_or r (timed o j v) (opened o (timed o j v))) left (happened ++ map_or r [] event_in)
      own_goes None u q = u
      own_goes (Some l) u q =
          let k : Waiting C = timed o j v in
          let more : List (Line C) = lines ++ clock_line j v ∷ [] in
          under_as (more ++ l ∷ []) (lines ++ clock_line j v ∷ l ∷ []) (opened o k l) (opened o k l) left left ((happened ++ []) ++ event_in l) (happened ++ event_in l)
          (sym (append_assoc lines (clock_line j v ∷ []) (l ∷ []))) refl refl (ap (λ es. es ++ event_in l) (sym (append-nil happened)))
          (line_begins more k left (happened ++ []) l (is_served more k left (happened ++ []) (inr u) q))

      pub does_own : Under lines j left happened → IsOwn o t j v → Stepped lines j left happened v
      does_own u d =
          under_as (lines ++ clock_line j v ∷ option_to_list (own_line j v)) (lines ++ lines_at o t j v) (own o j v) (visited o t j v) left (left ++ left_at o t j v) (happened ++ own_events j v) (happened ++ events_at o t j v)
          (ap (λ ls. lines ++ ls) d.1) d.0.state (ap (λ gs. left ++ gs) d.0.leavers ∙ append-nil left) (ap (λ es. happened ++ es) d.0.making)
          (own_goes (own_line j v) (is_timed u d.0.served) d.0.quiet)

      pub step : Under lines j left happened → Stepped lines j left happened v
      step u = ⊎_elim (λ r. lets_go u r.0 r.1) (λ r. ⊎_elim (λ z. comes_due u z.0 z.1 z.2) (λ z. does_own u z) r) (ways o t j v)

    -- visits

    pub all_steps : (vs : List (Visit C)) (lines : List (Line C)) (j : Waiting C) (left : List (Gone C)) (happened : List (Event C)) → Under lines j left happened
        → Under (lines ++ cell_lines o t j vs) (cell_after o t j vs) (left ++ cell_left o t j vs) (happened ++ cell_events o t j vs)
    all_steps [] lines j left happened u =
        subst (λ ls. Under ls j (left ++ []) (happened ++ [])) (sym (append-nil lines))
        (subst (λ gs. Under lines j gs (happened ++ [])) (sym (append-nil left)) (subst (λ es. Under lines j left es) (sym (append-nil happened)) u))
    all_steps (v ∷ vs) lines j left happened u =
        let k : Waiting C = visited o t j v in
        let ls : List (Line C) = lines_at o t j v in
        let gs : List (Gone C) = left_at o t j v in
        let es : List (Event C) = events_at o t j v in
        let r = all_steps vs (lines ++ ls) k (left ++ gs) (happened ++ es) (inr (step lines j left happened v u)) in
        subst (λ ms. Under ms (cell_after o t k vs) (left ++ (gs ++ cell_left o t k vs)) (happened ++ (es ++ cell_events o t k vs))) (append_assoc lines ls (cell_lines o t k vs))
        (subst (λ hs. Under ((lines ++ ls) ++ cell_lines o t k vs) (cell_after o t k vs) hs (happened ++ (es ++ cell_events o t k vs))) (append_assoc left gs (cell_left o t k vs))
        (subst (λ fs. Under ((lines ++ ls) ++ cell_lines o t k vs) (cell_after o t k vs) ((left ++ gs) ++ cell_left o t k vs) fs) (append_assoc happened es (cell_events o t k vs)) r))

    pub under_way : (vs : List (Visit C)) → Under (cell_lines o t s vs) (cell_after o t s vs) (cell_left o t s vs) (cell_events o t s vs)
    under_way vs = all_steps vs [] s [] [] (inl (record { whole = refl; state = refl; leavers = refl; making = refl }))

    -- the end of a run under way

    pub its_end : (lines : List (Line C)) (j : Waiting C) (left : List (Gone C)) (happened : List (Event C)) → Under lines j left happened → HasItsEnd o t s lines j left happened
    its_end lines j left happened (inl b) =
        let q : IsQuiet o t j = subst (IsQuiet o t) (sym b.state) rests_at_first in
        let r = quiet_rest (length j.waiters) zero j q in
        let d = is_served lines j left happened (inl b) q in
        record {
          state = r.0 ∙ d.state;
          leavers = ap (λ gs. left ++ gs) r.1 ∙ append-nil left ∙ d.leavers;
          making = ap (λ gs. happened ++ events_of gs) r.1 ∙ append-nil happened ∙ d.making;
        }
    its_end lines j left happened (inr u) =
        let before : Waiting C = after o t s u.served in
        let k : Waiting C = opened o before u.last in
        let i : Waiting C = turned o t u.turns k in
        let gs : List (Gone C) = gone o t u.turns k in
        let more : List (Gone C) = gone o t (length i.waiters) i in
        let r = continues u.turns (length k.waiters) k (omega arith) in
        record {
          state = ap (λ (z : Waiting C). turned o t (length z.waiters) z) u.state ∙ sym r.0 ∙ sym (after_once s u.served u.last) ∙ ap (after o t s) (sym u.whole);
          leavers = ap (λ (z : Waiting C). left ++ gone o t (length z.waiters) z) u.state ∙ ap (λ hs. hs ++ more) u.leavers
              ∙ append_assoc (all_gone o t s u.served) gs more ∙ ap (λ hs. all_gone o t s u.served ++ hs) (sym r.1)
              ∙ sym (gone_line s u.served u.last) ∙ ap (all_gone o t s) (sym u.whole);
          making = ap (λ (z : Waiting C). happened ++ events_of (gone o t (length z.waiters) z)) u.state ∙ ap (λ es. es ++ events_of more) u.making
              ∙ append_assoc (events o t s u.served) (event_in u.last ++ events_of gs) (events_of more)
              ∙ ap (λ es. events o t s u.served ++ es) (append_assoc (event_in u.last) (events_of gs) (events_of more) ∙ ap (λ es. event_in u.last ++ es) (sym (events_append o t gs more) ∙ ap events_of (sym r.1)))
              ∙ sym (events_line s u.served u.last) ∙ ap (events o t s) (sym u.whole);
        }
