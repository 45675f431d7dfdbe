-- The resets of a partition's log are the reopenings of its history.
use Rattle.std.proofs.Common.{◌≡◌, ℕ, ◌+◌, Bool, true, false, List, [], ◌∷◌, ◌++◌, map, length, filter, Option, Some, None, refl, sym, ap, ◌∙◌, subst, inl, inr, arith, append_assoc, append-nil, true≢false}
use Rattle.std.proofs.lemmas.List.{map-append, length-append}
use Rattle.grid_base.specs.Objects.{Object}
use Rattle.grid_base.specs.declared.calls.Request.{Request}
use Rattle.partition_protocol.specs.Claims.{is_reset}
use Rattle.partition_protocol.specs.Events.{Event as EventThere, Reopen, Happened, row_made, with_reset, unless_reopen_refused, run, happens}
use Rattle.partition_protocol.specs.History.{Entry, Called, Reset}
use Rattle.partition_protocol.specs.Service.{ReopenRefused, reopen_refused, reopening}
use Rattle.partition_protocol.specs.World.{World}
use Rattle.partition_protocol.proofs.EventCases.{every_event}
use Rattle.partition_protocol.proofs.Extends.{run_append}
use Rattle.partition_protocol.proofs.HistorySizes.{part_length}
use Rattle.partition_protocol.proofs.Lists.{IsPart}
use Rattle.partition_world.specs.declared.event.Event.{Event}
use Rattle.partition_world.specs.declared.event.Event.TheVariants as event
use Rattle.partition_world.specs.Events.{event_of}
use Rattle.live_grid.specs.declared.plan.GridPlan.{GridPlan}
use Rattle.live_grid.specs.Histories.{cells, outcome_after}
use Rattle.live_history_laws.specs.Reopenings.{reopening_by, reopened_since, reopened, resets_in}
use Rattle.live_history_laws.proofs.Released.{object, opening}

-- resets of lists

pub resets_append : {C : Type 0} (es fs : List (Entry C)) → resets_in (es ++ fs) ≡ resets_in es ++ resets_in fs
resets_append [] fs = refl
resets_append (Called x ∷ es) fs = resets_append es fs
resets_append (Reset version ∷ es) fs = ap (λ rs. version ∷ rs) (resets_append es fs)

resets_filtered : {C : Type 0} (es : List (Entry C)) → resets_in (filter is_reset es) ≡ resets_in es
resets_filtered [] = refl
resets_filtered (Called x ∷ es) = resets_filtered es
resets_filtered (Reset version ∷ es) = ap (λ rs. version ∷ rs) (resets_filtered es)

pub same_resets : {C : Type 0} (es fs : List (Entry C)) → filter is_reset es ≡ filter is_reset fs → resets_in es ≡ resets_in fs
same_resets es fs e = sym (resets_filtered es) ∙ (ap resets_in e ∙ resets_filtered fs)

part_resets : {C : Type 0} (es log : List (Entry C)) → IsPart es log → IsPart (resets_in es) (resets_in log)
part_resets es [] h = ap resets_in h
part_resets es (Reset version ∷ log) (inl h) = inl (part_resets es log h)
part_resets es (Reset version ∷ log) (inr (zs, e, h)) = inr (resets_in zs, ap resets_in e, part_resets zs log h)
part_resets es (Called x ∷ log) (inl h) = part_resets es log h
part_resets es (Called x ∷ log) (inr (zs, e, h)) = subst (λ rs. IsPart rs (resets_in log)) (sym (ap resets_in e)) (part_resets zs log h)

front_same : {X : Type 0} (xs us ys vs : List X) → xs ++ us ≡ ys ++ vs → length xs ≡ length ys → xs ≡ ys
front_same [] us [] vs e l = refl
front_same [] us (y ∷ ys) vs e l = absurd (omega (arith, l))
front_same (x ∷ xs) us [] vs e l = absurd (omega (arith, l))
front_same (x ∷ xs) us (y ∷ ys) vs e l =
    let head : x ≡ y = cc in
    let tail : xs ++ us ≡ ys ++ vs = cc in
    let rest = front_same xs us ys vs tail (omega (arith, l)) in
    ap (λ z. z ∷ xs) head ∙ ap (λ zs. y ∷ zs) rest

-- two parts that have all resets of two lists together have those of each
pub resets_of_front : {C : Type 0} (es fs xs ys : List (Entry C)) → IsPart es xs → IsPart fs ys → resets_in (es ++ fs) ≡ resets_in (xs ++ ys) → resets_in es ≡ resets_in xs
resets_of_front es fs xs ys first second e =
    let whole : resets_in es ++ resets_in fs ≡ resets_in xs ++ resets_in ys = sym (resets_append es fs) ∙ (e ∙ resets_append xs ys) in
    let left = part_length (resets_in es) (resets_in xs) (part_resets es xs first) in
    let right = part_length (resets_in fs) (resets_in ys) (part_resets fs ys second) in
    let all = sym (length-append (resets_in es) (resets_in fs)) ∙ (ap length whole ∙ length-append (resets_in xs) (resets_in ys)) in
    front_same (resets_in es) (resets_in fs) (resets_in xs) (resets_in ys) whole (omega (arith, left, right, all))

-- an event

abbrev pub is_reopening : EventThere Request → Bool
is_reopening Reopen = true
is_reopening e = false

module _ {State : Type 0} (o : Object Request State) (w : World Request) where
  abbrev Quiet : EventThere Request → World Request → Type 0
  Quiet e u = is_reopening e ≡ false → resets_in u.recorded.log ≡ resets_in w.recorded.log

  quiet : (e : EventThere Request) → Quiet e (happens o w e).world
  quiet = every_event o w Quiet (record {
    stays = λ e z r. refl;
    loses = λ f t i q at r. refl;
    drops = λ f t i q at z r. refl;
    repeats = λ f t i q at r. refl;
    tells_again = λ r. refl;
    sends_again = λ m n at l p r. refl;
    crashes = λ m l r. refl;
    detects = λ m b c d e r. refl;
    notes = λ m b c d e r. refl;
    begins = λ e s t j g z r. refl;
    hands_over = λ f t g r. refl;
    freezes = λ f t g p r. refl;
    leaves = λ f t g p r. refl;
    hands = λ f t g r. refl;
    reopens = λ none r. absurd (true≢false r);
    joins = λ f t i q v m at g z r. refl;
    drains = λ f t i q v at g z r. refl;
    delivers = λ f t i q n at there l r. refl;
    calls = λ m conn number call now n at l k p f r. resets_append w.recorded.log (Called _ ∷ []) ∙ append-nil (resets_in w.recorded.log);
  })

  abbrev Adds : Event Request → Happened Request → Type 0
  Adds e h = resets_in h.world.recorded.log ≡ resets_in w.recorded.log ++ reopening_by e h.outcome

  adds_none : (e : Event Request) → is_reopening (event_of e) ≡ false → resets_in (happens o w (event_of e)).world.recorded.log ≡ resets_in w.recorded.log ++ []
  adds_none e is = quiet (event_of e) is ∙ sym (append-nil (resets_in w.recorded.log))

  pub adds : (e : Event Request) → Adds e (happens o w (event_of e))
  adds (event.Call member id request now) = adds_none (event.Call member id request now) refl
  adds (event.Deliver from to place) = adds_none (event.Deliver from to place) refl
  adds (event.Lose from to place) = adds_none (event.Lose from to place) refl
  adds (event.Repeat from to place) = adds_none (event.Repeat from to place) refl
  adds (event.Resend end) = adds_none (event.Resend end) refl
  adds (event.Crash member) = adds_none (event.Crash member) refl
  adds (event.Detect member) = adds_none (event.Detect member) refl
  adds (event.BeginMove from to) = adds_none (event.BeginMove from to) refl
  adds (event.BeginJoin to) = adds_none (event.BeginJoin to) refl
  adds (event.BeginHandover from to) = adds_none (event.BeginHandover from to) refl
  adds event.Advance = adds_none event.Advance refl
  adds event.Reopen = go (reopen_refused w.partition w.members w.service)
    where
      made : Happened Request
      made = row_made (with_reset w (w.service.row.version + 1)) (reopening w.partition w.members w.backups w.service)

      go : (refused : Option ReopenRefused) → Adds event.Reopen (unless_reopen_refused w refused made)
      go None = resets_append w.recorded.log (Reset (w.service.row.version + 1) ∷ [])
      go (Some why) = sym (append-nil (resets_in w.recorded.log))

-- a history

module _ (plan : GridPlan) where
  abbrev logged_resets : List (Event Request) → List ℕ
  logged_resets history = resets_in (cells plan history).recorded.log

  one_more : (before : List (Event Request)) (e : Event Request) → logged_resets (before ++ e ∷ []) ≡ logged_resets before ++ reopening_by e (outcome_after plan before e)
  one_more before e =
      ap (λ es. resets_in (run (object plan) (opening plan) es).recorded.log) (map-append event_of before (e ∷ []))
      ∙ (ap (λ (u : World Request). resets_in u.recorded.log) (run_append (object plan) (opening plan) (map event_of before) (event_of e ∷ []))
      ∙ adds (object plan) (cells plan before) e)

  resets_since : (before es : List (Event Request)) → logged_resets (before ++ es) ≡ logged_resets before ++ reopened_since plan before es
  resets_since before [] = ap logged_resets (append-nil before) ∙ sym (append-nil (logged_resets before))
  resets_since before (e ∷ es) =
      ap logged_resets (sym (append_assoc before (e ∷ []) es))
      ∙ (resets_since (before ++ e ∷ []) es
      ∙ (ap (λ rs. rs ++ reopened_since plan (before ++ e ∷ []) es) (one_more before e)
      ∙ append_assoc (logged_resets before) (reopening_by e (outcome_after plan before e)) (reopened_since plan (before ++ e ∷ []) es)))

  pub log_resets : (history : List (Event Request)) → resets_in (cells plan history).recorded.log ≡ reopened plan history
  log_resets history = resets_since [] history
