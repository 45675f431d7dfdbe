-- A session's next call: that it may be started, and what the session is once it has ended.
use Rattle.std.proofs.Common.{◌≡◌, ◌≢◌, ℕ, suc, ◌+◌, ◌<◌, true, List, [], ◌∷◌, Contains, Option, Some, None, Result, Ok, Err, IfOk, slice_get, set, refl, sym, ap, ◌∙◌, subst, inl, inr, ⊎_elim, arith}
use Rattle.std.proofs.lemmas.List.{set-set}
use Rattle.std.proofs.lemmas.List.Elements.{All-contains}
use Rattle.grid_base.specs.declared.calls.Request.{Request}
use Rattle.grid_base.specs.declared.names.CallId.{CallId}
use Rattle.call_engine.specs.Limits.{RequestFits}
use Rattle.hand_cell.specs.declared.names.Key.{Key}
use Rattle.hand_cell.specs.declared.names.Key.TheVariants.{Call}
use Rattle.hand_cell.specs.declared.outcome.LiveOutcome.{LiveOutcome}
use Rattle.hand_cell.specs.declared.outcome.LiveOutcome.TheVariants as live
use Rattle.hand_cell.specs.Names.{has_number, Lacks}
use Rattle.hand_cell.specs.Told.{Told}
use Rattle.job_queues.specs.Terms.{Terms}
use Rattle.partition_protocol.proofs.Lists.{In, contains_in}
use Rattle.partition_world.specs.declared.event.Event.{Event}
use Rattle.partition_world.specs.declared.event.Happened.{Happened}
use Rattle.session_calls.specs.declared.session.Started.{Started}
use Rattle.session_calls.specs.Calls.{HasStarted, IsReady, IsSameCall, MayCall, MayFinish, HasRefused}
use Rattle.session_calls.specs.Clause.{HasCalled}
use Rattle.session_calls.specs.Laws.{IsCallBack}
use Rattle.session_calls.specs.Openings.{HasAllPasses}
use Rattle.session_calls.specs.Sessions.{HasPassAt, IsSessionOf, pass_at}
use Rattle.session_calls.proofs.Places.{after_set, set_there}
use Rattle.session_calls.proofs.WholeCalls.{ends_as_it_was_started, started_may_finish}
use Rattle.live_grid.specs.declared.grid.LiveGrid.{LiveGrid}
use Rattle.live_grid.specs.declared.plan.GridPlan.{GridPlan}
use Rattle.live_grid.specs.declared.world.LiveWorld.{LiveWorld}
use Rattle.live_grid.specs.Grids.{place_of}
use Rattle.live_grid.specs.Histories.{live_key, live_call}
use Rattle.live_grid.specs.Outcomes.{LiveTells}
use Rattle.counted_calls.specs.Calls.{call_of, calls_by, id_of, is_call_by, request_of}
use Rattle.counted_calls.specs.Callers.{GridPlace, IsFree, IsSameSession, WasStarted}
use Rattle.counted_calls.specs.Sessions.{GridSession, HasMade, HasNumber, HaveBeenMade, Ran, WasMade, counting, event_of}
use Rattle.counted_calls.specs.declared.requests.TheConstants.{PARTITION, LEADER}
use Rattle.counted_calls.proofs.Later.{itself}
use Rattle.counted_calls.proofs.Lists.{there_from_map, there_passed}
use Rattle.counted_calls.proofs.Making.{made_next}

same_some : {A : Type 0} (a b : A) → ◌≡◌ {A = Option A} (Some a) (Some b) → a ≡ b
same_some a b e = cc

-- a key that no element has
lacks_it : (k : Key) (es : List (Event Request)) → ((e : Event Request) → In e es → ¬ (live_key e ≡ k)) → Lacks live_key k es
lacks_it k [] none = tt
lacks_it k (e ∷ es) none = (none e (inl refl), lacks_it k es (λ x i. none x (inr i)))

-- the number of a call's key
number_of : (conn conn' number number' : ℕ) → Call (id_of conn number) ≡ Call (id_of conn' number') → number ≡ number'
number_of conn conn' number number' e = let same : id_of conn number ≡ id_of conn' number' = cc in ap (λ (id : CallId). id.number) same

module _ (plan : GridPlan) (key : List ℕ) (conn number answered : ℕ) (seen : List (Event Request)) (made : HaveBeenMade plan key conn number answered seen) where
  -- the next call is new
  pub next_is_new : Lacks live_key (Call (id_of conn number)) seen
  next_is_new = lacks_it (Call (id_of conn number)) seen never
    where
      never : (e : Event Request) → In e seen → ¬ (live_key e ≡ Call (id_of conn number))
      never e i same = let less = below in let is = number_is in omega (arith, less, is)
        where
          own : Contains (calls_by conn seen) e
          own = there_passed _ seen e (contains_in e seen i) (ap (is_call_by conn) same ∙ itself conn)

          found : (one : Ran) × Contains made.ran one × (event_of key one ≡ e)
          found = there_from_map (event_of key) made.ran e (subst (λ es. Contains es e) made.own own)

          below : found.0.number < number
          below = (All-contains (WasMade plan key conn number seen) made.ran found.0 made.each found.1).below

          number_is : found.0.number ≡ number
          number_is = number_of found.0.conn conn found.0.number number (ap live_key found.2 ∙ same)

-- the session may make its next call
pub is_free : (grid : LiveGrid) (key : List ℕ) (conn number answered : ℕ) (session : GridSession) → HasMade grid key conn number answered session → IsFree number session
is_free grid key conn number answered session is = record {
  pass = is.pass;
  there = is.there;
  named = subst (λ n. has_number is.pass.names.numbers n ≡ true) (sym is.conn_is) (is.named PARTITION is.pass is.there);
  unused = subst (λ n. Lacks live_key (Call (id_of n number)) is.pass.seen) (sym is.conn_is) (next_is_new is.plan key conn number answered is.pass.seen is.made);
}

pub may_call : (key : List ℕ) (number : ℕ) (old session : GridSession) (request : Request) → IsFree number old → IsSameSession old session → request ≡ request_of key session.conn number → RequestFits request
    → MayCall live_key RequestFits session request
may_call key number old session request free same is fits = record {
  pass = free.pass;
  there = ap (λ (r : Request). pass_at session r.partition) is ∙ (ap (λ l. slice_get l PARTITION) same.passes ∙ free.there);
  named = ap (λ (r : Request). has_number free.pass.names.numbers r.id.conn) is ∙ (ap (λ n. has_number free.pass.names.numbers n) same.conn ∙ free.named);
  unused = subst (λ (r : Request). Lacks live_key (Call r.id) free.pass.seen) (sym is) (subst (λ n. Lacks live_key (Call (id_of n number)) free.pass.seen) (sym same.conn) free.unused);
  within = fits;
}

-- a session that was refused is the same
pub still_same : (old session new : GridSession) (partition : ℕ) (why : _) → IsSameSession old session → HasRefused session new partition why → IsSameSession old new
still_same old session new partition why same refused = record { passes = refused.same_passes ∙ same.passes; member = refused.same_member ∙ same.member; conn = refused.same_conn ∙ same.conn }

pub was_started : (place : GridPlace) (key : List ℕ) (number : ℕ) (old session new : GridSession) (request : Request) (started : Started LiveWorld GridPlan (Event Request) Happened)
    → IsSameSession old session → request ≡ request_of key session.conn number → HasStarted live_key live_call place session new request 0 started → WasStarted place key number old new started
was_started place key number old session new request started same is start = record {
  before = session;
  same = same;
  start = subst (λ n. HasStarted live_key live_call place session new (request_of key n number) 0 started) same.conn
      (subst (λ r. HasStarted live_key live_call place session new r 0 started) is start);
}

-- a call that was found ready after looks that found it not yet ended
pub ready_as_started : (terms : Terms GridPlan (Event Request)) (started again : Started LiveWorld GridPlan (Event Request) Happened) (old new : GridSession) (outcome : LiveOutcome)
    → IsSameCall started again → IsReady live_key LiveTells terms again old new outcome → IsReady live_key LiveTells terms started old new outcome
ready_as_started terms started again old new outcome same ready = record {
  pass = ready.pass;
  back = subst (λ n. HasPassAt old new n (Some ready.pass)) same.same_partition ready.back;
  called = subst (λ (id : CallId). HasCalled live_key LiveTells terms id ready.pass outcome) same.same_id ready.called;
}

-- Once the call has ended
module _ (grid : LiveGrid) (key : List ℕ) (conn number answered : ℕ) (old away new : GridSession) (started : Started LiveWorld GridPlan (Event Request) Happened) (outcome : LiveOutcome)
    (made : HasMade grid key conn number answered old) (was : WasStarted (place_of grid) key number old away started) where
  pub may_finish : MayFinish live_key (place_of grid) was.start.terms away started
  may_finish = started_may_finish live_key live_call (place_of grid) was.before away (request_of key old.conn number) 0 started was.start

  module _ (ready : IsReady live_key LiveTells was.start.terms started away new outcome) (of_grid : IsSessionOf (place_of grid) new) (no_memory : outcome ≢ live.Memory) where
    there_before : pass_at was.before PARTITION ≡ Some (Some made.pass)
    there_before = ap (λ l. slice_get l PARTITION) was.same.passes ∙ made.there

    back : IsCallBack live_key live_call LiveTells (place_of grid) was.before.member (request_of key old.conn number) 0 made.pass away new outcome
    back = ends_as_it_was_started live_key live_call LiveTells (place_of grid) was.before away (request_of key old.conn number) 0 started was.start made.pass there_before
        started (record { same_id = refl; same_partition = refl }) away new outcome ready

    plan_is : back.call.plan ≡ made.plan
    plan_is = same_some back.call.plan made.plan (sym back.call.here ∙ made.plan_here.there)

    member_is : was.before.member ≡ LEADER
    member_is = was.same.member ∙ made.member_is

    called : HasCalled live_key LiveTells (record { plan = made.plan; first = made.pass; event = call_of key conn number }) (id_of conn number) back.last outcome
    called =
        subst (λ n. HasCalled live_key LiveTells (record { plan = made.plan; first = made.pass; event = call_of key n number }) (id_of n number) back.last outcome) made.conn_is
        (subst (λ m. HasCalled live_key LiveTells (record { plan = made.plan; first = made.pass; event = live_call m (request_of key old.conn number) 0 }) (id_of old.conn number) back.last outcome) member_is
        (subst (λ (p : GridPlan). HasCalled live_key LiveTells (record { plan = p; first = made.pass; event = live_call was.before.member (request_of key old.conn number) 0 }) (id_of old.conn number) back.last outcome) plan_is
        back.call.called))

    written : new.passes.items ≡ set old.passes.items PARTITION (Some back.last)
    written = back.back.passes
        ∙ (ap (λ l. set l PARTITION (Some back.last)) was.start.away.passes
        ∙ (set-set was.before.passes.items PARTITION None (Some back.last)
        ∙ ap (λ l. set l PARTITION (Some back.last)) was.same.passes))

    rests : HasAllPasses new
    rests partition e = ⊎_elim
        (λ (h : (None ≡ Some back.last) × (partition ≡ PARTITION)). absurd (none_there h.0))
        (λ (h : slice_get old.passes.items partition ≡ Some None). made.rests partition h)
        (after_set old.passes.items PARTITION (Some back.last) partition None (ap (λ l. slice_get l partition) (sym written) ∙ e))
      where
        none_there : ◌≡◌ {A = Option (Told (Event Request))} None (Some back.last) → ⊥
        none_there h = cc

    named_here : has_number made.pass.names.numbers conn ≡ true
    named_here = made.named PARTITION made.pass made.there

    still_named : HasNumber conn new
    still_named partition pass e = ⊎_elim
        (λ (h : (Some pass ≡ Some back.last) × (partition ≡ PARTITION)). ap (λ (p : Told (Event Request)). has_number p.names.numbers conn) (same_some pass back.last h.0) ∙ (ap (λ names. has_number names.numbers conn) called.same_names ∙ named_here))
        (λ (h : slice_get old.passes.items partition ≡ Some (Some pass)). made.named partition pass h)
        (after_set old.passes.items PARTITION (Some back.last) partition (Some pass) (ap (λ l. slice_get l partition) (sym written) ∙ e))

    pub has_made : HasMade grid key conn (suc number) (answered + counting outcome) new
    has_made = record {
      of_grid = of_grid;
      rests = rests;
      conn_is = back.back.same_conn ∙ (was.start.away.same_conn ∙ (was.same.conn ∙ made.conn_is));
      member_is = back.back.same_member ∙ (was.start.away.same_member ∙ (was.same.member ∙ made.member_is));
      plan = made.plan;
      plan_here = made.plan_here;
      pass = back.last;
      there = ap (λ l. slice_get l PARTITION) written ∙ set_there old.passes.items PARTITION (Some made.pass) (Some back.last) made.there;
      named = still_named;
      made = made_next made.plan key conn number answered made.pass back.last outcome named_here made.made called no_memory;
    }

-- what the call counts
pub made_if_counted : {Error : Type 0} (grid : LiveGrid) (key : List ℕ) (conn number answered : ℕ) (session : GridSession) (outcome : LiveOutcome) (result : Result ℕ Error)
    → IfOk result (λ count. count ≡ counting outcome) → IfOk result (λ count. outcome ≢ live.Memory) → (outcome ≢ live.Memory → HasMade grid key conn (suc number) (answered + counting outcome) session)
    → IfOk result (λ count. HasMade grid key conn (number + 1) (answered + count) session)
made_if_counted grid key conn number answered session outcome (Ok count) same no_memory made =
    subst (λ n. HasMade grid key conn n (answered + count) session) (omega arith) (subst (λ n. HasMade grid key conn (suc number) (answered + n) session) (sym same) (made no_memory))
made_if_counted grid key conn number answered session outcome (Err error) same no_memory made = tt
