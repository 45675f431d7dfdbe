-- A call that was answered stands in its object's history as its answer says.
use Rattle.std.proofs.Common.{◌≡◌, ◌⊎◌, inl, inr, ⊎_elim, ℕ, ℤ, pos, ◌≤◌, true, List, [], ◌∷◌, ◌++◌, Contains, Option, Some, None, slice_get, refl, sym, ap, ◌∙◌, subst, append_assoc}
use Rattle.std.proofs.lemmas.List.Elements.{Contains-append_left}
use Rattle.std.specs.Int.{w32, cast_signed}
use Rattle.grid_base.specs.Errors.{partition_lost, wrong_target, migrating}
use Rattle.grid_base.specs.declared.names.CallId.{CallId}
use Rattle.grid_base.specs.declared.names.ObjectKey.{ObjectKey}
use Rattle.grid_base.specs.declared.calls.Request.{Request}
use Rattle.object_store.proofs.PartitionLaws.{is_same_self}
use Rattle.hand_cell.specs.declared.names.Key.{Key}
use Rattle.hand_cell.specs.declared.names.Key.TheVariants as key
use Rattle.hand_cell.specs.declared.outcome.LiveOutcome.{LiveOutcome}
use Rattle.hand_cell.specs.declared.outcome.LiveOutcome.TheVariants as live
use Rattle.hand_cell.specs.Names.{Lacks}
use Rattle.job_queues.specs.Roster.{roster_of}
use Rattle.call_engine.specs.Objects.{one_object, partition_object, target_of}
use Rattle.partition_protocol.specs.Execution.{Reached}
use Rattle.partition_protocol.specs.History.{Entry}
use Rattle.partition_protocol.proofs.Lists.{In, in_contains, in_cases, in_left, in_right, contains_in}
use Rattle.partition_threads.specs.declared.workplace.Workplace.{Workplace}
use Rattle.partition_world.specs.Answers.{id_of}
use Rattle.partition_world.specs.declared.event.Event.{Event}
use Rattle.partition_world.specs.declared.event.Event.TheVariants as event
use Rattle.partition_world.specs.declared.event.Happened.{Happened}
use Rattle.live_grid.specs.declared.plan.GridPlan.{GridPlan}
use Rattle.live_grid.specs.declared.world.LiveWorld.{LiveWorld}
use Rattle.live_grid.specs.Histories.{live_key, live_call}
use Rattle.live_grid.specs.Outcomes.{LiveTells, IsRepliedIn, IsRefusedIn}
use Rattle.live_grid.specs.Plans.{settings_for}
use Rattle.live_history_laws.specs.Entries.{CameIn, HasEntry, HasReply, asks_of, object_trail, trail_of}
use Rattle.live_history_laws.specs.Fitting.{Fits}
use Rattle.live_history_laws.specs.Names.{AreNamedOnce, AreNew}
use Rattle.live_session.specs.Connections.{IsServed, IsNotRun, TellsOutcome}
use Rattle.live_session.specs.Replies.{error_to, told_bytes}
use Rattle.live_session.specs.Starts.{Start, Log, start_of, AreGiven}
use Rattle.served_history_laws.specs.Histories.{IsErrorTo, IsRefusedWith, IsAnsweredWith}

-- What the laws of live histories say

abbrev pub NewAreNamedOnce : Type 0
NewAreNamedOnce = (history : List (Event Request)) → AreNew history → AreNamedOnce history

abbrev pub RepliesStand : Type 0
RepliesStand = (plan : GridPlan) (history : List (Event Request)) (id : CallId) (reply : List ℕ) → 1 ≤ plan.members → AreNamedOnce history
    → IsRepliedIn plan history id reply → HasReply (trail_of plan history) id reply

abbrev pub PartitionsFit : Type 0
PartitionsFit = (plan : GridPlan) (history : List (Event Request)) → 1 ≤ plan.members → AreNamedOnce history
    → Fits (partition_object (settings_for plan)) (λ request. true) plan history (trail_of plan history)

abbrev pub ObjectsFit : Type 0
ObjectsFit = (plan : GridPlan) (history : List (Event Request)) (name : ObjectKey) → 1 ≤ plan.members → AreNamedOnce history
    → Fits (one_object (settings_for plan) name) (asks_of name) plan history (object_trail plan history name)

-- the moment of a start is one that the clock gave
moment_in : (starts : List Start) (given : List ℕ) → AreGiven starts given → (start : Start) → In start starts → In start.moment given
moment_in [] given are start there = absurd there
moment_in (latest ∷ earlier) given are start (inl same) =
    subst (λ (l : List ℕ). In start.moment l) (sym are.2) (in_right start.moment are.0 (latest.moment ∷ are.1) (inl (ap (λ (s : Start). s.moment) same)))
moment_in (latest ∷ earlier) given are start (inr there) =
    subst (λ (l : List ℕ). In start.moment l) (sym are.2) (in_left start.moment are.0 (latest.moment ∷ are.1) (moment_in earlier are.0 are.3 start there))

moment_given : (starts : List Start) (given : List ℕ) → AreGiven starts given → (start : Start) → Contains starts start → Contains given start.moment
moment_given starts given are start there = contains_in start.moment given (moment_in starts given are start (in_contains start starts there))

-- What is known by a key

lacks_in : (k : Key) (events : List (Event Request)) (e : Event Request) → Lacks live_key k events → In e events → live_key e ≡ k → ⊥
lacks_in k [] e lacks there named = there
lacks_in k (x ∷ xs) e lacks (inl same) named = lacks.0 (ap live_key same ∙ named)
lacks_in k (x ∷ xs) e lacks (inr there) named = lacks_in k xs e lacks.1 there named

-- what stands in a list, where nothing before and behind an element is known by the key, is that element
only_one : (k : Key) (before after : List (Event Request)) (own e : Event Request) → Lacks live_key k before → Lacks live_key k after → In e (before ++ own ∷ after) → live_key e ≡ k → own ≡ e
only_one k before after own e first last there named = ⊎_elim
    (λ (i : In e before). absurd (lacks_in k before e first i named))
    (λ (i : In e (own ∷ after)). at_or_behind i)
    (in_cases e before (own ∷ after) there)
  where
    at_or_behind : In e (own ∷ after) → own ≡ e
    at_or_behind (inl same) = same
    at_or_behind (inr behind) = absurd (lacks_in k after e last behind named)

-- each event of a beginning was new too
new_until : (history until later : List (Event Request)) → history ≡ until ++ later → AreNew history → AreNew until
new_until history until later cut new before after e is = new before (after ++ later) e (cut ∙ (ap (λ l. l ++ later) is ∙ append_assoc before (e ∷ after) later))

some_bytes : (bytes told : List ℕ) → ◌≡◌ {A = Option (List ℕ)} (Some told) (Some bytes) → bytes ≡ told
some_bytes bytes told e = cc

none_bytes : (bytes : List ℕ) → ◌≡◌ {A = Option (List ℕ)} None (Some bytes) → ⊥
none_bytes bytes e = cc

same_plan : (p q : GridPlan) → ◌≡◌ {A = Option GridPlan} (Some p) (Some q) → p ≡ q
same_plan p q e = cc

module _ (once : NewAreNamedOnce) (stand : RepliesStand) (partitions : PartitionsFit) (objects : ObjectsFit)
    (place : Workplace LiveWorld GridPlan (Event Request) Happened) (given : List ℕ) (log : Log) (by_clock : AreGiven log.starts given)
    (plan : GridPlan) (some : 1 ≤ plan.members) (history : List (Event Request)) (new : AreNew history) (member : ℕ) (request : Request)
    (plan_is : slice_get (roster_of place.cells.items).plans request.partition ≡ Some plan) where
  abbrev entries : List (Entry Request)
  entries = object_trail plan history (target_of request)

  fits : Fits (one_object (settings_for plan) (target_of request)) (asks_of (target_of request)) plan history entries
  fits = objects plan history (target_of request) some (once history new)

  module _ (outcome : LiveOutcome) (served : IsServed live_key LiveTells live_call log place member request history outcome) where
    abbrev own : Event Request
    own = live_call member request served.now

    in_history : In own history
    in_history = subst (λ (l : List (Event Request)). In own l) (sym served.whole) (in_right own served.before (own ∷ served.after) (inl refl))

    told : LiveTells plan served.until own outcome
    told = subst (λ (p : GridPlan). LiveTells p served.until own outcome) (same_plan served.plan plan (sym served.plan_is ∙ plan_is)) served.told

    -- a call that was replied to had come by then
    came_until : (reply : List ℕ) → IsRepliedIn plan served.until request.id reply → Contains served.until own
    came_until reply replied =
        subst (λ (e : Event Request). Contains served.until e) (sym same) came.there
      where
        until_once : AreNamedOnce served.until
        until_once = once served.until (new_until history served.until served.later served.cut new)

        has : HasReply (trail_of plan served.until) request.id reply
        has = stand plan served.until request.id reply some until_once replied

        came : CameIn served.until has.call
        came = ((partitions plan served.until some until_once).came has.call has.there).1

        other : Event Request
        other = event.Call came.member (id_of has.call) has.call.call has.call.now

        same : own ≡ event.Call came.member (id_of has.call) has.call.call has.call.now
        same = only_one (key.Call request.id) served.before served.after own (event.Call came.member (id_of has.call) has.call.call has.call.now) served.first served.last
            (subst (λ (l : List (Event Request)). In (event.Call came.member (id_of has.call) has.call.call has.call.now) l) (sym served.cut ∙ served.whole)
            (in_contains (event.Call came.member (id_of has.call) has.call.call has.call.now) (served.until ++ served.later)
            (Contains-append_left served.until served.later (event.Call came.member (id_of has.call) has.call.call has.call.now) came.there)))
            (ap (λ (i : CallId). key.Call i) has.named)

    refused_until : (why : Reached) → IsRefusedIn plan served.until own why → Contains served.until own
    refused_until why refused = contains_in own served.until (subst (λ (l : List (Event Request)). In own l) (sym refused.whole) (in_right own refused.before (own ∷ refused.after) (inl refl)))

    is_own : asks_of (target_of request) request ≡ true
    is_own = is_same_self (target_of request)

    is_error : (bytes : List ℕ) (code : ℕ) (more : ℤ) → bytes ≡ error_to request.correlation code more → IsErrorTo request.correlation bytes
    is_error bytes code more is = (code, more, is)

    by_outcome : (o : LiveOutcome) → LiveTells plan served.until own o → (bytes : List ℕ) → told_bytes request.correlation o ≡ Some bytes → IsAnsweredWith given plan history member request bytes
    by_outcome (live.Replied reply) tells bytes is = inl (record {
      now = served.now;
      by_clock = moment_given log.starts given by_clock (start_of request served.now) served.given;
      came = contains_in own history in_history;
      entry = subst (λ (r : List ℕ). HasEntry entries request.id request served.now r) (sym (some_bytes bytes reply is))
          (fits.told served.until served.later member request.id request served.now (live.Replied reply) served.cut (came_until reply tells) is_own tells);
    })
    by_outcome (live.PartitionLost version) tells bytes is = inr (record {
      nowhere = fits.told served.until served.later member request.id request served.now (live.PartitionLost version) served.cut (refused_until _ tells) is_own tells;
      error = is_error bytes partition_lost (cast_signed w32 version) (some_bytes bytes _ is);
    })
    by_outcome (live.WrongTarget version) tells bytes is = inr (record {
      nowhere = fits.told served.until served.later member request.id request served.now (live.WrongTarget version) served.cut (refused_until _ tells) is_own tells;
      error = is_error bytes wrong_target (cast_signed w32 version) (some_bytes bytes _ is);
    })
    by_outcome (live.Migrating version) tells bytes is = inr (record {
      nowhere = fits.told served.until served.later member request.id request served.now (live.Migrating version) served.cut (refused_until _ tells) is_own tells;
      error = is_error bytes migrating (cast_signed w32 version) (some_bytes bytes _ is);
    })
    by_outcome live.MemberGone tells bytes is = absurd (none_bytes bytes is)
    by_outcome live.Exhausted tells bytes is = absurd tells
    by_outcome live.Memory tells bytes is = absurd tells

  -- a call that wasn't run stands nowhere
  not_run : (bytes : List ℕ) → IsNotRun live_key LiveTells live_call log place request history bytes → IsRefusedWith given plan history request bytes
  not_run bytes refused = record {
    nowhere = λ call there same.
        let came = (fits.came call there).1 in
        lacks_in (key.Call request.id) history (event.Call came.member (id_of call) call.call call.now) refused.nowhere (in_contains _ history came.there) (ap (λ (i : CallId). key.Call i) same);
    error = (refused.code, pos 0, refused.reply_is);
  }

  pub is_answered : (bytes : List ℕ) → TellsOutcome live_key LiveTells live_call log place member request history bytes ⊎ IsNotRun live_key LiveTells live_call log place request history bytes
      → IsAnsweredWith given plan history member request bytes
  is_answered bytes = ⊎_elim
      (λ (tells : TellsOutcome live_key LiveTells live_call log place member request history bytes). by_outcome tells.outcome tells.served tells.outcome (told tells.outcome tells.served) bytes tells.reply_is)
      (λ (refused : IsNotRun live_key LiveTells live_call log place request history bytes). inr (not_run bytes refused))
