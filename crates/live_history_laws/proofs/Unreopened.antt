-- The reset of the newest row, which a reopening alone changes.
use Rattle.std.proofs.Common.{◌≡◌, ℕ, ◌+◌, false, not, ◌&&◌, ◌==◌, List, [], ◌∷◌, ◌++◌, map, Option, Some, None, refl, sym, ap, ◌∙◌, append_assoc, append-nil, true≢false}
use Rattle.std.proofs.lemmas.List.{map-append}
use Rattle.grid_base.specs.Objects.{Object}
use Rattle.grid_base.specs.declared.calls.Request.{Request}
use Rattle.partition_table.specs.Rows.{is_in, is_eligible}
use Rattle.partition_protocol.specs.Service.{Service, ServiceStep, ReopenRefused, detecting, is_freezing, reopen_refused, reopening}
use Rattle.partition_protocol.specs.World.{World}
use Rattle.partition_protocol.specs.Events.{Happened, row_made, with_reset, unless_reopen_refused, run, happens}
use Rattle.partition_protocol.specs.Events as protocol
use Rattle.partition_protocol.proofs.EventCases.{every_event}
use Rattle.partition_protocol.proofs.Extends.{run_append}
use Rattle.partition_protocol.proofs.Lists.{on_if}
use Rattle.partition_world.specs.declared.event.Event.{Event}
use Rattle.partition_world.specs.declared.event.Event.TheVariants as event
use Rattle.partition_world.specs.Events.{event_of}
use Rattle.live_grid.specs.declared.plan.GridPlan.{GridPlan}
use Rattle.live_grid.specs.Histories.{cells, outcome_after}
use Rattle.live_history_laws.specs.Reopenings.{reopening_by, reopened_since, reopened}
use Rattle.live_history_laws.proofs.Released.{object, opening}
use Rattle.live_history_laws.proofs.Resets.{is_reopening}

none_left : {X : Type 0} (xs ys : List X) → xs ++ ys ≡ [] → (xs ≡ []) × (ys ≡ [])
none_left [] ys e = (refl, e)
none_left (x ∷ xs) ys e = absurd cc

module _ {State : Type 0} (o : Object Request State) (w : World Request) where
  abbrev Keeps : protocol.Event Request → World Request → Type 0
  Keeps e u = is_reopening e ≡ false → u.service.row.reset ≡ w.service.row.reset

  keeps : (e : protocol.Event Request) → Keeps e (happens o w e).world
  keeps = every_event o w Keeps (record {
    stays = λ e z r. refl;
    loses = λ f t i q at r. refl;
    drops = λ f t i q at z r. refl;
    repeats = λ f t i q at r. refl;
    tells_again = λ r. refl;
    sends_again = λ m n at l p r. refl;
    crashes = λ m l r. refl;
    detects = λ m b c d e r. detected m;
    notes = λ m b c d e r. detected m;
    begins = λ e s t j g z r. refl;
    hands_over = λ f t g r. refl;
    freezes = λ f t g p r. refl;
    leaves = λ f t g p r. refl;
    hands = λ f t g r. refl;
    reopens = λ none r. absurd (true≢false r);
    joins = λ f t i q v m at g z r. on_if (λ (s : ServiceStep). s.service.row.reset ≡ w.service.row.reset) ((w.service.row.version == v) && is_in w.service.row m && not (is_eligible w.service.row m)) _ _ refl refl;
    drains = λ f t i q v at g z r. on_if (λ (s : ServiceStep). s.service.row.reset ≡ w.service.row.reset) (is_freezing w.service.move && (w.service.row.version == v)) _ _ refl refl;
    delivers = λ f t i q n at there l r. refl;
    calls = λ m conn number call now n at l k p f r. refl;
  })
    where
      detected : (m : ℕ) → (detecting m w.service).row.reset ≡ w.service.row.reset
      detected m = on_if (λ (s : Service). s.row.reset ≡ w.service.row.reset) (is_in w.service.row m) _ _ refl refl

  abbrev KeepsUnreopened : Event Request → Happened Request → Type 0
  KeepsUnreopened e h = reopening_by e h.outcome ≡ [] → h.world.service.row.reset ≡ w.service.row.reset

  keeps_unreopened : (e : Event Request) → KeepsUnreopened e (happens o w (event_of e))
  keeps_unreopened (event.Call member id request now) none = keeps (event_of (event.Call member id request now)) refl
  keeps_unreopened (event.Deliver from to place) none = keeps (event_of (event.Deliver from to place)) refl
  keeps_unreopened (event.Lose from to place) none = keeps (event_of (event.Lose from to place)) refl
  keeps_unreopened (event.Repeat from to place) none = keeps (event_of (event.Repeat from to place)) refl
  keeps_unreopened (event.Resend end) none = keeps (event_of (event.Resend end)) refl
  keeps_unreopened (event.Crash member) none = keeps (event_of (event.Crash member)) refl
  keeps_unreopened (event.Detect member) none = keeps (event_of (event.Detect member)) refl
  keeps_unreopened (event.BeginMove from to) none = keeps (event_of (event.BeginMove from to)) refl
  keeps_unreopened (event.BeginJoin to) none = keeps (event_of (event.BeginJoin to)) refl
  keeps_unreopened (event.BeginHandover from to) none = keeps (event_of (event.BeginHandover from to)) refl
  keeps_unreopened event.Advance none = keeps (event_of event.Advance) refl
  keeps_unreopened event.Reopen none = go (reopen_refused w.partition w.members w.service) none
    where
      made : Happened Request
      made = row_made (with_reset w (w.service.row.version + 1)) (reopening w.partition w.members w.backups w.service)

      go : (refused : Option ReopenRefused) → KeepsUnreopened event.Reopen (unless_reopen_refused w refused made)
      go None none = absurd cc
      go (Some why) none = refl

module _ (plan : GridPlan) where
  abbrev reset_after : List (Event Request) → ℕ
  reset_after history = (cells plan history).service.row.reset

  one_more : (before : List (Event Request)) (e : Event Request) → reopening_by e (outcome_after plan before e) ≡ [] → reset_after (before ++ e ∷ []) ≡ reset_after before
  one_more before e none =
      ap (λ es. (run (object plan) (opening plan) es).service.row.reset) (map-append event_of before (e ∷ []))
      ∙ (ap (λ (u : World Request). u.service.row.reset) (run_append (object plan) (opening plan) (map event_of before) (event_of e ∷ []))
      ∙ keeps_unreopened (object plan) (cells plan before) e none)

  kept_since : (before es : List (Event Request)) → reopened_since plan before es ≡ [] → reset_after (before ++ es) ≡ reset_after before
  kept_since before [] none = ap reset_after (append-nil before)
  kept_since before (e ∷ es) none =
      let parts = none_left (reopening_by e (outcome_after plan before e)) (reopened_since plan (before ++ e ∷ []) es) none in
      ap reset_after (sym (append_assoc before (e ∷ []) es)) ∙ (kept_since (before ++ e ∷ []) es parts.1 ∙ one_more before e parts.0)

  -- where the partition was never reopened it is none
  pub never_reset : (history : List (Event Request)) → reopened plan history ≡ [] → reset_after history ≡ 0
  never_reset history none = kept_since [] history none
