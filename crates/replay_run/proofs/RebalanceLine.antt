-- The line that runs the steps of a plan: the run goes on from part to part, and the line prints the plan and each step's end.
use Rattle.std.proofs.Common.{◌≡◌, ℕ, zero, suc, ◌+◌, ◌-◌, ◌≤◌, ◌<◌, Bool, true, false, ◌&&◌, cond, List, [], ◌∷◌, ◌++◌, map, filter, take, drop, length, get_or, Option, Some, None, Result, Ok, refl, ap, sym, ◌∙◌, subst, append-nil, append_assoc, add-one, arith}
use Rattle.std.specs.List.{list_all, find}
use Rattle.std.proofs.lemmas.List.{map-append, take-append-drop, take_more, drop_more}
use Rattle.partition_protocol.proofs.Lists.{In, in_contains}
use Rattle.grid_base.specs.declared.names.CallId.{CallId}
use Rattle.partition_protocol.proofs.RowFacts.{false_or_not, not_both}
use Rattle.partition_protocol.proofs.Events.{get_in}
use Rattle.partition_protocol.proofs.Theorem.{get-numbers_below}
use Rattle.replay_run.proofs.Planning.{all_in}
use Rattle.std.proofs.lemmas.List.Elements.{filter-append}
use Rattle.std.proofs.lemmas.List.Sums.{fold_push}
use Rattle.grid_base.specs.Objects.{Object}
use Rattle.grid_base.specs.declared.calls.Request.{Request}
use Rattle.object_store.specs.Partitions.{Partition}
use Rattle.partition_table.specs.Rows.{first_of}
use Rattle.partition_protocol.specs.Events.{Resend, Advance}
use Rattle.partition_protocol.specs.Service.{numbers_below}
use Rattle.rebalance.specs.declared.Step.{Step}
use Rattle.rebalance.specs.declared.StepKind.TheVariants.{Handover}
use Rattle.rebalance.specs.declared.Plan.{Plan}
use Rattle.rebalance.specs.declared.PlanRefused.{PlanRefused}
use Rattle.rebalance.specs.Plans.{Planned, Balanced, Gives}
use Rattle.call_engine.specs.Calls.{Settings}
use Rattle.call_engine.specs.Objects.{partition_object}
use Rattle.script_lang.specs.Limits.{most_lines}
use Rattle.script_lang.specs.declared.line.Line.TheVariants.{Rebalance}
use Rattle.replay_run.specs.declared.grid.Grid.{Grid}
use Rattle.replay_run.specs.Runs.{Run, is_connection, events_at, next_line, takes, flowed}
use Rattle.replay_run.specs.Appending.{new_messages}
use Rattle.replay_run.specs.Endings.{new_arrivals, AreAmong}
use Rattle.replay_run.specs.Rebalancing.{service_at, is_moving_at, most_deliveries, most_turns, most_line_events, event_begun, first_resends, turned, turned_on, joined, rejoined, stepped, stepped_all, plan_in, first_steps, steps_in, rebalanced}
use Rattle.replay_run.specs.Grids.{FormOf, Stands, HasRun, IsGivenUp}
use Rattle.replay_run.specs.WorldCalls.{Onward, GivesUpSo, HasGoneOnSo, HasRoomAt, IsAmid, MayStep, HasStepped, HasNoSteps}
use Rattle.replay_run.proofs.Bounds.{kept_small, rebalance_few}
use Rattle.replay_run.proofs.LineBounds.{line_bounded}
use Rattle.replay_run.proofs.EventRuns.{Kept, kept_refl, kept_trans, takes_few, takes_kept, flowed_few, flowed_kept}
use Rattle.replay_run.proofs.EventLines.{line_given_up}
use Rattle.replay_run.proofs.Flowing.{so_nowhere, so_as, so_further, gives_up_after}
use Rattle.replay_run.proofs.GivingUp.{up_as, gives_up_first, gives_up_then}
use Rattle.replay_run.proofs.Growing.{GoesBy, goes_then, takes_goes, first_goes, flowed_goes, turned_goes, turned_on_goes, rejoined_goes, stepped_goes, stepped_all_goes, ran_told_alike}
use Rattle.replay_run.proofs.RunFacts.{ArrivalsOk}
use Rattle.replay_run.proofs.RunsOfLines.{run_ok}
use Rattle.replay_run.proofs.SkipLaws.{alike_first, both_go, both_among}
use Rattle.replay_run.proofs.LineTexts.{new_with}
use Rattle.replay_run.proofs.Rebalanced.{begun_unasked, first_few, first_kept, turned_on_few, turned_on_kept, turned_on_run, stepped_kept, stepped_run, steps_run, rebalanced_kept, stepped_elsewhere, stepped_come, steps_come}
use Rattle.replay_run.specs.LineTold.{all_told, plan_told, end_told, ran_told, ran_all_told}
use Rattle.line_told.specs.declared.told.Told.{Told}

-- parts of the line
module _ (o : Object Request Partition) (skips : List CallId) (r : Run) (p : ℕ) where
  -- the first member sends again, if there is one

  abbrev resends : Option ℕ → Run
  resends first = elim first [ None ↦ r | Some first ↦ takes o skips r p (Resend first) ]

  pub none_resends : (first : Option ℕ) → first ≡ first_of (service_at o r p).row.members → first ≡ None → first_resends o skips r p ≡ r
  none_resends first is none = ap resends (sym is ∙ none)

  pub one_resends : (first : Option ℕ) (m : ℕ) → first ≡ first_of (service_at o r p).row.members → first ≡ Some m → first_resends o skips r p ≡ takes o skips r p (Resend m)
  one_resends first m is some = ap resends (sym is ∙ some)

  -- turns

  pub turn_more : (turns : ℕ) → is_moving_at o r p ≡ true → turned_on o skips r p (suc turns) ≡ turned_on o skips (turned o skips r p) p turns
  turn_more turns moving = ap (λ b. cond b (turned_on o skips (turned o skips r p) p turns) r) moving

  pub turns_end : (turns : ℕ) → is_moving_at o r p ≡ false → turned_on o skips r p turns ≡ r
  turns_end zero still = refl
  turns_end (suc turns) still = ap (λ b. cond b (turned_on o skips (turned o skips r p) p turns) r) still

  pub rejoined_open : (from : ℕ) → is_moving_at o r p ≡ true → rejoined o skips r p from Handover ≡ r
  rejoined_open from moving = ap (λ b. cond b r (joined o skips r p from)) moving

  pub rejoined_done : (from : ℕ) → is_moving_at o r p ≡ false → rejoined o skips r p from Handover ≡ joined o skips r p from
  rejoined_done from still = ap (λ b. cond b r (joined o skips r p from)) still

-- turns in two parts
turned_parts : (o : Object Request Partition) (skips : List CallId) (r : Run) (p a b all : ℕ) → a + b ≡ all → turned_on o skips r p all ≡ turned_on o skips (turned_on o skips r p a) p b
turned_parts o skips r p zero b all e = let same : all ≡ b = omega (arith, e) in ap (turned_on o skips r p) same
turned_parts o skips r p (suc a) b zero e = absurd (omega (arith, e))
turned_parts o skips r p (suc a) b (suc all) e = go (is_moving_at o r p) refl (λ x. turned_parts o skips x p a b all left)
  where
    left : a + b ≡ all
    left = omega (arith, e)

    go : (m : Bool) → is_moving_at o r p ≡ m → ((x : Run) → turned_on o skips x p all ≡ turned_on o skips (turned_on o skips x p a) p b) → turned_on o skips r p (suc all) ≡ turned_on o skips (turned_on o skips r p (suc a)) p b
    go true moving parts =
        turn_more o skips r p all moving ∙ parts (turned o skips r p)
        ∙ sym (ap (λ (x : Run). turned_on o skips x p b) (turn_more o skips r p a moving))
    go false still parts =
        turns_end o skips r p (suc all) still
        ∙ sym (ap (λ (x : Run). turned_on o skips x p b) (turns_end o skips r p (suc a) still) ∙ turns_end o skips r p b still)

-- So many turns were taken.
pub record HasTurned {V : Type 0} {T : V → Type 0} (form : FormOf V T) (settings : Settings) (grid : Grid V T) (r : Run) (p turns : ℕ) (earlier later : List Told) : Type 0 where
  pub on : HasGoneOnSo form settings grid r (λ skips. turned_on (partition_object settings) skips r p turns) earlier later

abbrev turns_on : Settings → ℕ → ℕ → Run → Onward
turns_on settings p turns x skips = turned_on (partition_object settings) skips x p turns

abbrev one_turn : Settings → ℕ → Run → Onward
one_turn settings p x skips = turned (partition_object settings) skips x p

module _ {V : Type 0} {T : V → Type 0} {form : FormOf V T} {settings : Settings} (r : Run) (p : ℕ) where
  pub none_turned : (grid : Grid V T) (later : List Told) → IsAmid form settings grid r → HasTurned form settings grid r p 0 later later
  none_turned grid later amid = record { on = so_nowhere grid r later amid }

  module _ (grid : Grid V T) (turns : ℕ) (earlier mid : List Told) (did : HasTurned form settings grid r p turns earlier mid) where
    -- the run by then
    abbrev pub turned_so_far : Run
    turned_so_far = turned_on (partition_object settings) did.on.skips r p turns

    pub turn_room : HasRoomAt r p 4012 → turns < 4 → HasRoomAt turned_so_far p 1003
    turn_room room more =
        let few = turned_on_few (partition_object settings) did.on.skips p p r turns in
        let calls = (turned_on_kept (partition_object settings) did.on.skips r p turns).calls in
        omega (arith, room, more, few, calls)

    -- One more is taken.
    module _ (moving : is_moving_at (partition_object settings) turned_so_far p ≡ true) where
      pub one_turned : (new : Grid V T) (later : List Told) → HasGoneOnSo form settings new turned_so_far (λ skips. turned (partition_object settings) skips turned_so_far p) mid later → HasTurned form settings new r p (turns + 1) earlier later
      one_turned new later taken =
          let o = partition_object settings in
          let now = turned_so_far in
          let step = so_as new now (one_turn settings p now) (turns_on settings p (suc zero) now) mid later taken (sym (turn_more o taken.skips now p zero moving)) in
          let whole = so_further grid new r (turns_on settings p turns r) (turns_on settings p (suc zero)) (turned_on_goes o r p turns) (λ x. turned_on_goes o x p (suc zero)) earlier mid did.on later step.0 in
          record { on = (so_as new r (λ s. turns_on settings p (suc zero) (turns_on settings p turns r s) s) (turns_on settings p (turns + 1) r) earlier later whole.0 (sym (turned_parts o whole.0.skips r p turns (suc zero) (turns + 1) (omega arith)))).0 }

      -- or the run is given up
      pub turn_ends : turns < 4 → GivesUpSo turned_so_far (λ skips. turned (partition_object settings) skips turned_so_far p) → GivesUpSo r (λ skips. turned_on (partition_object settings) skips r p most_turns)
      turn_ends more full =
          let o = partition_object settings in
          let now = turned_so_far in
          let rest : ℕ = 3 - turns in
          let all : turns + suc rest ≡ most_turns = omega (arith, more) in
          let step = gives_up_first now (one_turn settings p now) (turns_on settings p rest) (turned_goes o now p) (λ x. turned_on_goes o x p rest) full in
          let its = up_as now (λ s. turns_on settings p rest (one_turn settings p now s) s) (turns_on settings p (suc rest) now) (λ s. sym (turn_more o s now p rest moving)) step in
          let whole = gives_up_after grid grid r (turns_on settings p turns r) (turns_on settings p (suc rest)) (turned_on_goes o r p turns) (λ x. turned_on_goes o x p (suc rest)) earlier mid did.on its (λ s. turned_on_run s now p (suc rest) did.on.on.amid.run) in
          up_as r (λ s. turns_on settings p (suc rest) (turns_on settings p turns r s) s) (turns_on settings p most_turns r) (λ s. sym (turned_parts o s r p turns (suc rest) most_turns all)) whole

    all_turned : turned_on (partition_object settings) did.on.skips r p most_turns ≡ turned_so_far → HasGoneOnSo form settings grid r (λ skips. turned_on (partition_object settings) skips r p most_turns) earlier mid
    all_turned same = (so_as grid r (turns_on settings p turns r) (turns_on settings p most_turns r) earlier mid did.on (sym same)).0

    pub none_moving : turns ≤ 4 → is_moving_at (partition_object settings) turned_so_far p ≡ false → HasGoneOnSo form settings grid r (λ skips. turned_on (partition_object settings) skips r p most_turns) earlier mid
    none_moving within still =
        let rest : ℕ = 4 - turns in
        let all : turns + rest ≡ most_turns = omega (arith, within) in
        all_turned (turned_parts (partition_object settings) did.on.skips r p turns rest most_turns all ∙ turns_end (partition_object settings) did.on.skips turned_so_far p rest still)

    pub four_turned : turns ≤ 4 → 4 ≤ turns → HasGoneOnSo form settings grid r (λ skips. turned_on (partition_object settings) skips r p most_turns) earlier mid
    four_turned within reached = let same : most_turns ≡ turns = omega (arith, within, reached) in all_turned (ap (turned_on (partition_object settings) did.on.skips r p) same)

-- lists over the numbers below a bound, one more

pub map_more : {X : Type 0} (f : ℕ → X) (k : ℕ) → map f (numbers_below (k + 1)) ≡ map f (numbers_below k) ++ f k ∷ []
map_more f k = ap (λ n. map f (numbers_below n)) (add-one k) ∙ map-append f (numbers_below k) (k ∷ [])

pub filter_more : (t : ℕ → Bool) (k : ℕ) → filter t (numbers_below (k + 1)) ≡ filter t (numbers_below k) ++ filter t (k ∷ [])
filter_more t k = ap (λ n. filter t (numbers_below n)) (add-one k) ∙ filter-append t (numbers_below k) (k ∷ [])

all_append : {X : Type 0} (t : X → Bool) (xs : List X) (x : X) → list_all t (xs ++ x ∷ []) ≡ (list_all t xs && t x)
all_append t [] x = go (t x)
  where
    go : (b : Bool) → (b && true) ≡ (true && b)
    go true = refl
    go false = refl
all_append t (y ∷ xs) x = go (t y) (all_append t xs x)
  where
    go : (b : Bool) → list_all t (xs ++ x ∷ []) ≡ (list_all t xs && t x) → (b && list_all t (xs ++ x ∷ [])) ≡ ((b && list_all t xs) && t x)
    go true e = e
    go false e = refl

pub all_more : (t : ℕ → Bool) (k : ℕ) → list_all t (numbers_below k) ≡ true → t k ≡ true → list_all t (numbers_below (k + 1)) ≡ true
all_more t k front last = ap (λ n. list_all t (numbers_below n)) (add-one k) ∙ all_append t (numbers_below k) k ∙ (λ i. front i && last i)

-- one that fails
pub not_all : (t : ℕ → Bool) (k n : ℕ) → k < n → t k ≡ false → list_all t (numbers_below n) ≡ false
not_all t k n l fails = false_or_not (list_all t (numbers_below n)) (λ e. not_both (t k) (all_in t (numbers_below n) k e (in_below_all n)) fails)
  where
    in_below_all : (m : ℕ) → In k (numbers_below n)
    in_below_all m = get_in (numbers_below n) k k (get-numbers_below n k l)

-- a list with one of its elements
pub split_at : {X : Type 0} (xs : List X) (i : ℕ) (x : X) → i < length xs → x ≡ get_or xs i x → xs ≡ take i xs ++ x ∷ drop (i + 1) xs
split_at xs i x within at = sym (take-append-drop i xs) ∙ ap (λ ys. take i xs ++ ys) (drop_more xs i x within ∙ ap (λ y. y ∷ drop (i + 1) xs) (sym at))

-- what is read at a place of the list doesn't go by what would be read past its end
pub read_any : {X : Type 0} (xs : List X) (i : ℕ) (d e : X) → i < length xs → get_or xs i d ≡ get_or xs i e
read_any [] i d e l = absurd (omega (arith, l))
read_any (x ∷ xs) zero d e l = refl
read_any (x ∷ xs) (suc i) d e l = read_any xs i d e (omega (arith, l))

pub take_one : {X : Type 0} (xs : List X) (i : ℕ) (x : X) → i < length xs → x ≡ get_or xs i x → take (i + 1) xs ≡ take i xs ++ x ∷ []
take_one xs i x within at = take_more xs i x within ∙ ap (λ y. take i xs ++ y ∷ []) (sym at)

-- the parts of a turn

abbrev pub resent : Object Request Partition → Run → ℕ → Onward
resent o r p skips = takes o skips r p (Resend r.members)

abbrev pub again : Object Request Partition → ℕ → Run → Onward
again o p r skips = first_resends o skips r p

abbrev pub flows : Object Request Partition → ℕ → Run → Onward
flows o p r skips = flowed o skips r p most_deliveries

abbrev pub advances : Object Request Partition → ℕ → Run → Onward
advances o p r skips = takes o skips r p Advance

abbrev pub sent_again : Object Request Partition → Run → ℕ → Onward
sent_again o r p skips = again o p (resent o r p skips) skips

abbrev pub late_flows : Object Request Partition → Run → ℕ → Onward
late_flows o r p skips = flows o p (sent_again o r p skips) skips

module _ (o : Object Request Partition) (r : Run) (p : ℕ) where
  pub sent_goes : GoesBy r (sent_again o r p)
  sent_goes = goes_then r (resent o r p) (again o p) (takes_goes o r p (Resend r.members) refl) (λ x. first_goes o x p)

  pub late_goes : GoesBy r (late_flows o r p)
  late_goes = goes_then r (sent_again o r p) (flows o p) sent_goes (λ x. flowed_goes o x p most_deliveries)

  -- A run that is given up at a part of it is so at its end.

  pub ends_again : GivesUpSo r (sent_again o r p) → GivesUpSo r (late_flows o r p)
  ends_again = gives_up_first r (sent_again o r p) (flows o p) sent_goes (λ x. flowed_goes o x p most_deliveries)

  pub ends_later : GivesUpSo r (late_flows o r p) → GivesUpSo r (λ skips. turned o skips r p)
  ends_later = gives_up_first r (late_flows o r p) (advances o p) late_goes (λ x. takes_goes o x p Advance refl)

-- the parts of a step

abbrev pub begins : Object Request Partition → Run → Step → Onward
begins o r step skips = takes o skips r step.partition (event_begun step.kind step.from step.to)

abbrev pub turns_of : Object Request Partition → Step → Run → Onward
turns_of o step r skips = turned_on o skips r step.partition most_turns

abbrev pub joins_of : Object Request Partition → Step → Run → Onward
joins_of o step r skips = rejoined o skips r step.partition step.from step.kind

abbrev pub turned_after : Object Request Partition → Run → Step → Onward
turned_after o r step skips = turns_of o step (begins o r step skips) skips

module _ (o : Object Request Partition) (r : Run) (step : Step) where
  pub begins_goes : GoesBy r (begins o r step)
  begins_goes = takes_goes o r step.partition (event_begun step.kind step.from step.to) (begun_unasked step.kind step.from step.to)

  pub after_goes : GoesBy r (turned_after o r step)
  after_goes = goes_then r (begins o r step) (turns_of o step) begins_goes (λ x. turned_on_goes o x step.partition most_turns)

  pub ends_after : GivesUpSo r (turned_after o r step) → GivesUpSo r (λ skips. stepped o skips r step)
  ends_after = gives_up_first r (turned_after o r step) (joins_of o step) after_goes (λ x. rejoined_goes o x step.partition step.from step.kind)

-- the room for a turn's last event
pub late_room : (o : Object Request Partition) (s t u : List CallId) (r : Run) (p : ℕ) → HasRoomAt r p 1003 → HasRoomAt (flowed o u (first_resends o t (takes o s r p (Resend r.members)) p) p most_deliveries) p 1
late_room o s t u r p room =
    let told = takes o s r p (Resend r.members) in
    let again = first_resends o t told p in
    let few = takes_few o s r p (Resend r.members) p in
    let more = first_few o t p p told in
    let most = flowed_few o u again p most_deliveries p in
    let first = (takes_kept o s r p (Resend r.members)).calls in
    let second = (first_kept o t told p).calls in
    let third = (flowed_kept o u again p most_deliveries).calls in
    omega (arith, room, few, more, most, first, second, third)

-- steps

module _ (o : Object Request Partition) (skips : List CallId) where
  pub ran_more : (r : Run) (steps : List Step) (step : Step) → ran_all_told o skips r (steps ++ step ∷ []) ≡ ran_all_told o skips r steps ++ ran_told o skips (stepped_all o skips r steps) step
  ran_more r [] step = append-nil (ran_told o skips r step)
  ran_more r (s ∷ steps) step =
      ap (λ xs. ran_told o skips r s ++ xs) (ran_more (stepped o skips r s) steps step)
      ∙ sym (append_assoc (ran_told o skips r s) (ran_all_told o skips (stepped o skips r s) steps) (ran_told o skips (stepped_all o skips (stepped o skips r s) steps) step))

  pub stepped_more : (r : Run) (steps : List Step) (step : Step) → stepped_all o skips r (steps ++ step ∷ []) ≡ stepped o skips (stepped_all o skips r steps) step
  stepped_more r steps step = fold_push (stepped o skips) r steps step

  stepped_parts : (r : Run) (front : List Step) (step : Step) (rest : List Step) → stepped_all o skips r (front ++ step ∷ rest) ≡ stepped_all o skips (stepped o skips (stepped_all o skips r front) step) rest
  stepped_parts r [] step rest = refl
  stepped_parts r (s ∷ front) step rest = stepped_parts (stepped o skips r s) front step rest

-- the step that comes next may be run, where those before it were
pub next_may : (o : Object Request Partition) (skips : List CallId) (r : Run) (next : ℕ) (front : List Step) (step : Step) (rest : List Step) → MayStep r next (front ++ step ∷ rest) → HasRoomAt (stepped_all o skips r front) step.partition most_line_events
next_may o skips r next front step rest may =
    let same = ap length (untouched r next front may) in
    let room = its_room r next front may in
    let calls = (steps_kept r front).calls in
    let come = steps_come o skips 0 r front in
    omega (arith, same, room, calls, come)
  where
    within : (now : Run) (low : ℕ) (steps : List Step) → MayStep now low (steps ++ step ∷ rest) → low ≤ step.partition
    within now low [] m = m.0
    within now low (s ∷ steps) m = let first = m.0 in let others = within now (s.partition + 1) steps m.3 in omega (arith, first, others)

    its_room : (now : Run) (low : ℕ) (steps : List Step) → MayStep now low (steps ++ step ∷ rest) → HasRoomAt now step.partition most_line_events
    its_room now low [] m = m.2
    its_room now low (s ∷ steps) m = its_room now (s.partition + 1) steps m.3

    steps_kept : (now : Run) (steps : List Step) → Kept now (stepped_all o skips now steps)
    steps_kept now [] = kept_refl now
    steps_kept now (s ∷ steps) = kept_trans (stepped_kept o skips now s) (steps_kept (stepped o skips now s) steps)

    -- The room that later steps have doesn't get less.
    others_may : (now : Run) (s : Step) (low : ℕ) (steps : List Step) → s.partition < low → MayStep now low steps → MayStep (stepped o skips now s) low steps
    others_may now s low [] l m = tt
    others_may now s low (t ∷ steps) l m =
        let first = m.0 in
        let same = ap length (stepped_elsewhere o skips now s t.partition (λ e. (omega (arith, e, first, l)))) in
        let room = m.2 in
        let calls = (stepped_kept o skips now s).calls in
        let come = stepped_come o skips now s in (
          m.0,
          m.1,
          omega (arith, same, room, calls, come),
          others_may now s (t.partition + 1) steps (omega (arith, first, l)) m.3,
        )

    untouched : (now : Run) (low : ℕ) (steps : List Step) → MayStep now low (steps ++ step ∷ rest) → events_at step.partition (stepped_all o skips now steps).events ≡ events_at step.partition now.events
    untouched now low [] m = refl
    untouched now low (s ∷ steps) m =
        let later = within now (s.partition + 1) steps m.3 in
        untouched (stepped o skips now s) (s.partition + 1) steps (others_may now s (s.partition + 1) (steps ++ step ∷ rest) (omega arith) m.3)
        ∙ stepped_elsewhere o skips now s step.partition (λ e. (omega (arith, e, later)))

pub next_placed : (r : Run) (next : ℕ) (front : List Step) (step : Step) (rest : List Step) → MayStep r next (front ++ step ∷ rest) → step.partition < 271
next_placed r next [] step rest may = may.1
next_placed r next (s ∷ front) step rest may = next_placed r (s.partition + 1) front step rest may.3

module _ {V : Type 0} {T : V → Type 0} {form : FormOf V T} {settings : Settings} (r : Run) where
  pub none_stepped : (grid : Grid V T) (later : List Told) → IsAmid form settings grid r → HasStepped form settings grid r [] later later
  none_stepped grid later amid = record { skips = []; own = λ id c. absurd (in_contains id [] c); amid = amid; added = sym (append-nil later) }

  -- one step, and its end
  pub one_stepped : (new : Grid V T) (step : Step) (earlier said later : List Told) (moving : Bool) (on : HasGoneOnSo form settings new r (λ skips. stepped (partition_object settings) skips r step) earlier said)
      → moving ≡ is_moving_at (partition_object settings) (stepped (partition_object settings) on.skips r step) step.partition → later ≡ said ++ end_told step.partition moving → HasStepped form settings new r (step ∷ []) earlier later
  one_stepped new step earlier said later moving on is_moving is =
      let o = partition_object settings in
      let next = stepped o on.skips r step in
      record {
        skips = on.skips;
        own = on.own;
        amid = on.on.amid;
        added =
            is ∙ (λ i. (on.on.added ∙ (λ j. earlier ++ all_told (sym (new_with r next on.on.messages on.on.appended) j))) i ++ end_told step.partition (is_moving i))
            ∙ append_assoc earlier (all_told (new_messages r next)) (end_told step.partition (is_moving_at o next step.partition))
            ∙ ap (λ xs. earlier ++ xs) (sym (append-nil (ran_told o on.skips r step)));
      }

  module _ (grid new : Grid V T) (steps : List Step) (step : Step) (earlier mid : List Told) (did : HasStepped form settings grid r steps earlier mid) where
    -- the run by then
    abbrev pub stepped_so_far : Run
    stepped_so_far = stepped_all (partition_object settings) did.skips r steps

    abbrev steps_on : Onward
    steps_on skips = stepped_all (partition_object settings) skips r steps

    abbrev its_step : Run → Onward
    its_step x skips = stepped (partition_object settings) skips x step

    pub more_stepped : (later : List Told) → HasStepped form settings new stepped_so_far (step ∷ []) mid later → HasStepped form settings new r (steps ++ step ∷ []) earlier later
    more_stepped later one =
        let o = partition_object settings in
        let now = stepped_so_far in
        let both = did.skips ++ one.skips in
        let last = stepped o one.skips now step in
        let g = stepped_all_goes o r steps in
        let h = λ (x : Run). stepped_goes o x step in
        let once : ArrivalsOk last = (run_ok one.amid.run).of_arrivals in
        let same : stepped o both (stepped_all o both r steps) step ≡ last = both_go r steps_on its_step g h did.skips one.skips once did.own one.own in
        let whole : stepped_all o both r (steps ++ step ∷ []) ≡ last = stepped_more o both r steps step ∙ same in
        let to_now : stepped_all o both r steps ≡ now = sym (g.alike did.skips both (λ a i. sym (alike_first r steps_on its_step g h did.skips one.skips once did.own one.own a i))) in
        let front : ran_all_told o both r steps ≡ ran_all_told o did.skips r steps = sym (ran_told_alike o r steps did.skips both (λ a i. sym (alike_first r steps_on its_step g h did.skips one.skips once did.own one.own a i))) in
        let its : ran_told o both (stepped_all o both r steps) step ≡ ran_told o one.skips now step =
        (λ i. all_told (new_messages (to_now i) (same i)) ++ end_told step.partition (is_moving_at o (same i) step.partition)) in
        record {
          skips = both;
          own = subst (λ (x : Run). AreAmong (new_arrivals r x) both) (sym (stepped_more o both r steps step)) (both_among r steps_on its_step g h did.skips one.skips once did.own one.own);
          amid = subst (λ n. IsAmid form settings new n) (sym whole) one.amid;
          added =
              one.added ∙ (λ i. did.added i ++ append-nil (ran_told o one.skips now step) i)
              ∙ append_assoc earlier (ran_all_told o did.skips r steps) (ran_told o one.skips now step)
              ∙ ap (λ xs. earlier ++ xs) (sym (ran_more o both r steps step ∙ (λ i. front i ++ its i)));
        }

    -- or the run is given up at it
    pub steps_end : (rest : List Step) → GivesUpSo stepped_so_far (λ skips. stepped (partition_object settings) skips stepped_so_far step) → GivesUpSo r (λ skips. stepped_all (partition_object settings) skips r (steps ++ step ∷ rest))
    steps_end rest full =
        let o = partition_object settings in
        let now = stepped_so_far in
        let onward = λ (x : Run) (s : List CallId). stepped_all o s (stepped o s x step) rest in
        let goes = λ (x : Run). goes_then x (its_step x) (λ y s. stepped_all o s y rest) (stepped_goes o x step) (λ y. stepped_all_goes o y rest) in
        let its = gives_up_first now (its_step now) (λ y s. stepped_all o s y rest) (stepped_goes o now step) (λ y. stepped_all_goes o y rest) full in
        let whole = gives_up_then r steps_on onward (stepped_all_goes o r steps) goes did.skips did.own its (λ s. steps_run s (stepped o s now step) rest (stepped_run s now step did.amid.run)) in
        up_as r (λ s. onward (steps_on s) s) (λ s. stepped_all o s r (steps ++ step ∷ rest)) (λ s. sym (stepped_parts o s r steps step rest)) whole

pub stepped_as : {V : Type 0} {T : V → Type 0} {form : FormOf V T} {settings : Settings} {r : Run} {new : Grid V T} {steps others : List Step} {earlier later : List Told} → steps ≡ others
    → HasStepped form settings new r steps earlier later → HasStepped form settings new r others earlier later
stepped_as {form = form} {settings = settings} {r = r} {new = new} {earlier = earlier} {later = later} same = subst (λ ss. HasStepped form settings new r ss earlier later) same

-- what is planned, as it is given

pub gives_plan : (result : Result Plan PlanRefused) (plan : Plan) (planned : Planned) → result ≡ Ok plan → Gives result planned → planned ≡ Balanced plan
gives_plan result plan planned is = subst (λ x. Gives x planned) is

pub refuses : (earlier later : List Told) (planned none : Planned) → HasNoSteps none → planned ≡ none → later ≡ earlier ++ plan_told none → HasNoSteps planned × (later ≡ earlier ++ plan_told planned)
refuses earlier later planned none empty is shown = (subst HasNoSteps (sym is) empty, shown ∙ ap (λ x. earlier ++ plan_told x) (sym is))

-- the line

module _ {V : Type 0} {T : V → Type 0} {form : FormOf V T} {settings : Settings} (grid new : Grid V T) (r : Run) (most : ℕ) (s : Stands form settings grid r) (limit : r.lines + 1 ≤ most_lines)
    (skips : List CallId) (own : AreAmong (new_arrivals r (rebalanced (partition_object settings) skips (next_line r) most)) skips) (on : IsAmid form settings new (rebalanced (partition_object settings) skips (next_line r) most)) where
  next_stands : Stands form settings new (rebalanced (partition_object settings) skips (next_line r) most)
  next_stands =
      let kept = rebalanced_kept (partition_object settings) skips (next_line r) most in
      record {
        run = on.run;
        small = kept_small r (rebalanced (partition_object settings) skips (next_line r) most) kept s.small;
        few = rebalance_few (partition_object settings) skips r s.few most;
        bounded = line_bounded (partition_object settings) skips r limit s.bounded (Rebalance most);
        holds = on.holds;
        listeners = on.listeners;
        settled = on.settled;
        reached = λ c k found. subst (λ m. k.member < m) (sym kept.members) (s.reached c k (ap (find (is_connection c)) (sym kept.connections) ∙ found));
      }

  pub rebalance_line : (earlier later : List Told)
      → later ≡ (earlier ++ plan_told (plan_in (partition_object settings) (next_line r))) ++ ran_all_told (partition_object settings) skips (next_line r) (steps_in (partition_object settings) (next_line r) most)
      → HasRun form settings new r (Rebalance most) earlier later
  rebalance_line earlier later is = record {
    skips = skips;
    of_line = own;
    stands = next_stands;
    added =
        is ∙ append_assoc earlier plan ran
        ∙ ap (λ xs. earlier ++ xs) (sym (append-nil (plan ++ ran)));
  }
    where
      plan : List Told
      plan = plan_told (plan_in (partition_object settings) (next_line r))

      ran : List Told
      ran = ran_all_told (partition_object settings) skips (next_line r) (steps_in (partition_object settings) (next_line r) most)

-- where this is what is planned
module _ {V : Type 0} {T : V → Type 0} {form : FormOf V T} {settings : Settings} (grid new : Grid V T) (r : Run) (most : ℕ) (s : Stands form settings grid r) (planned : Planned) (is : plan_in (partition_object settings) (next_line r) ≡ planned) where
  steps_are : steps_in (partition_object settings) (next_line r) most ≡ first_steps most planned
  steps_are = ap (first_steps most) is

  pub planned_full : GivesUpSo (next_line r) (λ skips. stepped_all (partition_object settings) skips (next_line r) (first_steps most planned)) → IsGivenUp settings r (Rebalance most)
  planned_full up =
      line_given_up settings r (Rebalance most) (λ skips. stepped_all (partition_object settings) skips (next_line r) (first_steps most planned))
      (λ skips. ap (stepped_all (partition_object settings) skips (next_line r)) steps_are) up

  pub planned_line : (earlier start later : List Told) → HasStepped form settings new (next_line r) (first_steps most planned) start later → r.lines + 1 ≤ most_lines → start ≡ earlier ++ plan_told planned → HasRun form settings new r (Rebalance most) earlier later
  planned_line earlier start later did limit began =
      let o = partition_object settings in
      let all = stepped_as (sym steps_are) did in
      rebalance_line grid new r most s limit all.skips all.own all.amid earlier later
      (all.added ∙ ap (λ xs. xs ++ ran_all_told o all.skips (next_line r) (steps_in o (next_line r) most)) (began ∙ ap (λ x. earlier ++ plan_told x) (sym is)))

-- where nothing is run
pub refused_line : {V : Type 0} {T : V → Type 0} {form : FormOf V T} {settings : Settings} (grid : Grid V T) (r : Run) (most : ℕ) (s : Stands form settings grid r) (planned : Planned) → plan_in (partition_object settings) (next_line r) ≡ planned
    → first_steps most planned ≡ [] → {new : Grid V T} → IsAmid form settings new (next_line r) → (earlier later : List Told) → r.lines + 1 ≤ most_lines → later ≡ earlier ++ plan_told planned → HasRun form settings new r (Rebalance most) earlier later
refused_line {form = form} {settings = settings} grid r most s planned is none {new = new} amid earlier later limit shown =
    planned_line grid new r most s planned is earlier later later (stepped_as (sym none) (none_stepped (next_line r) new later amid)) limit shown
