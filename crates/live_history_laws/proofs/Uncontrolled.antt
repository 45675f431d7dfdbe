-- A partition in which no operator's event was run.
use Rattle.std.proofs.Common.{◌≡◌, ℕ, zero, suc, ◌≤◌, ◌<◌, ◌%◌, Bool, true, false, cond, List, [], ◌∷◌, ◌++◌, map, refl, sym, ap, ◌∙◌, subst, inl, inr, arith, mod-lt, true≢false}
use Rattle.grid_base.specs.declared.names.CallId.{CallId}
use Rattle.grid_base.specs.declared.calls.Request.{Request}
use Rattle.partition_table.specs.declared.Row.{Row}
use Rattle.partition_table.specs.declared.RowMember.{RowMember}
use Rattle.partition_table.specs.Rows.{is_eligible, is_primary, eligible_member, initial_row, with_backups, members_from}
use Rattle.partition_protocol.specs.Node.{Node}
use Rattle.partition_protocol.specs.Events as protocol
use Rattle.partition_protocol.proofs.Lists.{In, Every}
use Rattle.partition_protocol.proofs.NextRows.{is_in_member}
use Rattle.partition_protocol.proofs.RowFacts.{member_eligible, number_same}
use Rattle.partition_protocol.proofs.Theorem.{opened_node}
use Rattle.partition_protocol.proofs.WellFormed.{every_run_is_well_formed}
use Rattle.partition_world.proofs.KeptRings.{some_at}
use Rattle.partition_world.specs.declared.event.Event.{Event}
use Rattle.partition_world.specs.declared.event.Event.TheVariants as event
use Rattle.partition_world.specs.Events.{event_of}
use Rattle.live_grid.specs.declared.plan.GridPlan.{GridPlan}
use Rattle.live_grid.specs.Control.{controls_in, is_control}
use Rattle.live_grid.specs.Histories.{cells, live_key, outcome_after}
use Rattle.live_history_laws.specs.Reopenings.{reopening_by, reopened_since, reopened}
use Rattle.live_history_laws.specs.Uncontrolled.{IsUncontrolled, IsExecuted, first_leader}
use Rattle.live_history_laws.proofs.Calm.{MayAllLead, IsCalm, is_quiet, run_calm, calm_executes}
use Rattle.live_history_laws.proofs.Released.{object, opening}

-- the events

quiet_event : (e : Event Request) → is_control (live_key e) ≡ false → is_quiet (event_of e) ≡ true
quiet_event (event.Call member id call now) is = refl
quiet_event (event.Deliver from to place) is = refl
quiet_event (event.Lose from to place) is = refl
quiet_event (event.Repeat from to place) is = refl
quiet_event e is = absurd (true≢false is)

not_reopening : (e : Event Request) (outcome : protocol.Outcome) → is_control (live_key e) ≡ false → reopening_by e outcome ≡ []
not_reopening event.Reopen outcome is = absurd (true≢false is)
not_reopening e outcome is = refl

-- the first is none, and so are the others
first_free : (e : Event Request) (es : List (Event Request)) → IsUncontrolled (e ∷ es) → (is_control (live_key e) ≡ false) × IsUncontrolled es
first_free e es none = go (is_control (live_key e)) none
  where
    go : (b : Bool) → cond b (e ∷ controls_in es) (controls_in es) ≡ [] → (b ≡ false) × IsUncontrolled es
    go true none = absurd cc
    go false none = (refl, none)

quiet_all : (history : List (Event Request)) → IsUncontrolled history → Every (λ (e : protocol.Event Request). is_quiet e ≡ true) (map event_of history)
quiet_all [] none = tt
quiet_all (e ∷ es) none = let parts = first_free e es none in (quiet_event e parts.0, quiet_all es parts.1)

never_reopened : (plan : GridPlan) (before es : List (Event Request)) → IsUncontrolled es → reopened_since plan before es ≡ []
never_reopened plan before [] none = refl
never_reopened plan before (e ∷ es) none =
    let parts = first_free e es none in
    ap (λ rs. rs ++ reopened_since plan (before ++ e ∷ []) es) (not_reopening e (outcome_after plan before e) parts.0) ∙ never_reopened plan (before ++ e ∷ []) es parts.1

-- the initial row

all_marked : (ms : List ℕ) (p : RowMember) → In p (map eligible_member ms) → p.eligible ≡ true
all_marked [] p i = absurd i
all_marked (m ∷ ms) p (inl e) = ap (λ (q : RowMember). q.eligible) (sym e)
all_marked (m ∷ ms) p (inr i) = all_marked ms p i

first_may_lead : (partition n backups : ℕ) → MayAllLead (initial_row partition n backups)
first_may_lead partition n backups m there =
    let row = initial_row partition n backups in
    let p = is_in_member row m there in
    subst (λ k. is_eligible row k ≡ true) p.2 (member_eligible row p.0 p.1 (all_marked (with_backups backups (members_from n n partition)) p.0 p.1))

first_leads : (partition n backups : ℕ) → 1 ≤ n → is_primary (initial_row partition n backups) (partition % n) ≡ true
first_leads partition zero backups some = absurd (omega (arith, some))
first_leads partition (suc k) backups some = number_same (partition % suc k) (partition % suc k) refl

first_below : (partition n : ℕ) → 1 ≤ n → partition % n < n
first_below partition n some = mod-lt partition some

-- the history

module _ (plan : GridPlan) (history : List (Event Request)) (none : IsUncontrolled history) where
  abbrev row : Row
  row = initial_row plan.partition plan.members plan.backups

  calm : IsCalm row (cells plan history)
  calm = run_calm row (object plan) (first_may_lead plan.partition plan.members plan.backups) (opening plan) (map event_of history) begins (quiet_all history none)
    where
      begins : IsCalm row (opening plan)
      begins = record {
        row = refl;
        none_crashed = refl;
        nodes = λ m n at. (let same = opened_node row plan.members m n at in (ap (λ (x : Node). x.known) (sym same), ap (λ (x : Node). x.frozen) (sym same)));
        packets = tt;
      }

  pub first_row_stands : (cells plan history).service.row ≡ row
  first_row_stands = calm.row

  pub unreopened : reopened plan history ≡ []
  unreopened = never_reopened plan [] history none

  pub executed : 1 ≤ plan.members → (id : CallId) (request : Request) (now : ℕ) → IsExecuted (outcome_after plan history (event.Call (first_leader plan) id request now))
  executed some id request now =
      let formed = every_run_is_well_formed (object plan) plan.partition plan.members plan.backups (map event_of history) in
      let below = first_below plan.partition plan.members some in
      let node = some_at (cells plan history).nodes (first_leader plan) (omega (arith, below, formed.nodes)) in
      calm_executes row (object plan) (first_may_lead plan.partition plan.members plan.backups) (cells plan history) calm (first_leader plan) id.conn id.number request now (omega (arith, below, formed.same_members)) node.0 node.1 refl
      (first_leads plan.partition plan.members plan.backups some)
