-- A world of a history, and an event more.
use Rattle.std.proofs.Common.{◌≡◌, ◌<◌, List, [], ◌∷◌, ◌++◌, map, length, sym, ap, ◌∙◌, subst, arith, Contains, Result, Ok, Err, IfOk, OnOk, OnErr}
use Rattle.std.proofs.lemmas.List.{map-append, length-map}
use Rattle.std.proofs.lemmas.List.Elements.{Contains-append_left}
use Rattle.grid_base.specs.declared.calls.Request.{Request}
use Rattle.table_service.specs.Services.{Setup}
use Rattle.call_engine.specs.Calls.{Settings}
use Rattle.call_engine.specs.Limits.{RequestFits}
use Rattle.call_engine.specs.Objects.{partition_object}
use Rattle.hand_cell.specs.Names.{IsNew}
use Rattle.primary_hold.specs.declared.answer.CallAnswer.{CallAnswer}
use Rattle.partition_protocol.specs.Node.{Held}
use Rattle.partition_protocol.specs.History.{Entry, Called}
use Rattle.partition_protocol.specs.World.{World as Machine, start}
use Rattle.partition_protocol.specs.Events.{run, happens}
use Rattle.partition_protocol.proofs.Extends.{run_longer}
use Rattle.partition_world.specs.declared.event.Event.{Event}
use Rattle.partition_world.specs.declared.event.Happened.{Happened}
use Rattle.partition_world.specs.Events.{event_of, happened_of, IsWithinLimits}
use Rattle.partition_world.specs.Recorders.{KeepsStanding}
use Rattle.partition_world.specs.Worlds.{StandsFor, Comes, IsReleased, run_of, next_of, setup_of}
use Rattle.live_grid.specs.declared.plan.GridPlan.{GridPlan}
use Rattle.live_grid.specs.Plans.{settings_for, setup_for}
use Rattle.live_grid.specs.Histories.{cells, live_key}
use Rattle.live_grid.specs.Outcomes.{LiveGives}
use Rattle.live_grid.specs.Lives.{GridWorld, grid_meaning, IsWorldOf}
use Rattle.live_grid.proofs.Once.{still_once}

module _ (s : Settings) (plan : GridPlan) (means : s ≡ settings_for plan) (world : GridWorld) (history : List (Event Request)) where
  stood : IsWorldOf world plan history → StandsFor (grid_meaning s) KeepsStanding RequestFits world (map event_of history)
  stood w = subst (λ (z : Settings). StandsFor (grid_meaning z) KeepsStanding RequestFits world (map event_of history)) (sym means) w.stands

  pub comes : (e : Event Request) → IsWorldOf world plan history → length history < 4294967294 → IsNew live_key history e → IsWithinLimits RequestFits e
      → Comes (grid_meaning s) KeepsStanding RequestFits world (map event_of history) (event_of e)
  comes e is few new within = record {
    stands = stood is;
    may = record { room = rw (length-map history event_of) (omega arith); within = within; once = still_once history e is.stands.once new };
  }

  pub is_again : (new : GridWorld) (h : List (Event Request)) → StandsFor (grid_meaning s) KeepsStanding RequestFits new (map event_of h) → IsWorldOf world plan history → setup_of new ≡ setup_of world → IsWorldOf new plan h
  is_again new h stands w same = record { stands = subst (λ (z : Settings). StandsFor (grid_meaning z) KeepsStanding RequestFits new (map event_of h)) means stands; setup = same ∙ w.setup }

  pub is_next : (new : GridWorld) (e : Event Request) → StandsFor (grid_meaning s) KeepsStanding RequestFits new (map event_of history ++ event_of e ∷ []) → IsWorldOf world plan history → setup_of new ≡ setup_of world
      → IsWorldOf new plan (history ++ e ∷ [])
  is_next new e stands w same = is_again new (history ++ e ∷ []) (subst (StandsFor (grid_meaning s) KeepsStanding RequestFits new) (sym (map-append event_of history (e ∷ []))) stands) w same

  abbrev machine : Settings → Setup → Machine Request
  machine z st = run (partition_object z) (start st.partition st.members st.backups) (map event_of history)

  pub gives : (e : Event Request) (happened : Happened) → IsWorldOf world plan history → happened_of happened ≡ (next_of (grid_meaning s) world (map event_of history) (event_of e)).outcome → LiveGives plan history e happened
  gives e happened w is = is ∙ (ap (λ (z : Settings). (happens (partition_object z) (machine z (setup_of world)) (event_of e)).outcome) means
      ∙ ap (λ (st : Setup). (happens (partition_object (settings_for plan)) (machine (settings_for plan) st) (event_of e)).outcome) w.setup)

-- the protocol's world is the plan's
pub machine_is : (plan : GridPlan) (world : GridWorld) (history : List (Event Request)) → IsWorldOf world plan history → run_of (grid_meaning (settings_for plan)) world (map event_of history) ≡ cells plan history
machine_is plan world history w = ap (λ (st : Setup). run (partition_object (settings_for plan)) (start st.partition st.members st.backups) (map event_of history)) w.setup

-- what was released stays
pub still_released : (plan : GridPlan) (history : List (Event Request)) (e : Event Request) (a : CallAnswer) → IsReleased (cells plan history) a → IsReleased (cells plan (history ++ e ∷ [])) a
still_released plan history e a is =
    let st = setup_for plan in
    let o = partition_object (settings_for plan) in
    let w = start {C = Request} st.partition st.members st.backups in
    let more = run_longer o w (map event_of history) (map event_of (e ∷ [])) in
    let longer : Machine Request = run o w (map event_of history ++ map event_of (e ∷ [])) in
    let at : IsReleased longer a = record {
      released = subst (λ (l : List Held). Contains l (record { conn = a.id.conn; number = a.id.number; seen = a.seen })) more.1.1 (Contains-append_left (cells plan history).released more.1.0 (record { conn = a.id.conn; number = a.id.number; seen = a.seen }) is.released);
      call = is.call;
      executed = subst (λ (l : List (Entry Request)). Contains l (Called is.call)) more.0.1 (Contains-append_left (cells plan history).recorded.log more.0.0 (Called is.call) is.executed);
      id = is.id;
      version = is.version;
      seen = is.seen;
      reply = is.reply;
    } in
    subst (λ es. IsReleased (run o w es) a) (sym (map-append event_of history (e ∷ []))) at

-- a result of both

pub both : {X Y : Type 0} (P : X → Type 0) (A B : Type 0) (C : X → Type 0) (r : Result X Y) → (A → B) → ((o : X) → P o → C o) → IfOk r P → OnOk r A → IfOk r (λ o. B × C o)
both P A B C (Ok o) f h p a = (f a, h o p)
both P A B C (Err e) f h p a = tt

pub on_err : {X Y : Type 0} (A B : Type 0) (r : Result X Y) → (A → B) → OnErr r A → OnErr r B
on_err A B (Ok o) f a = tt
on_err A B (Err e) f a = f a
