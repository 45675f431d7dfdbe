-- What a session's call came to that was made at once, or gone on with.
use Rattle.std.proofs.Common.{◌≡◌, ℕ, ◌%◌, List, Option, Some, None, slice_get, get_or, set, true, sym, refl, ap, ◌∙◌, subst}
use Rattle.std.proofs.lemmas.List.{set-set}
use Rattle.grid_base.specs.declared.names.CallId.{CallId}
use Rattle.grid_base.specs.declared.calls.Request.{Request}
use Rattle.hand_cell.specs.declared.names.Key.{Key}
use Rattle.hand_cell.specs.declared.names.Key.TheVariants.{Call}
use Rattle.hand_cell.specs.declared.outcome.LiveOutcome.{LiveOutcome}
use Rattle.hand_cell.specs.Names.{has as has_name, IsNewKey}
use Rattle.hand_cell.specs.Told.{Told}
use Rattle.job_queues.specs.declared.call.BegunCall.{BegunCall}
use Rattle.job_queues.specs.Roster.{roster_of}
use Rattle.job_queues.specs.Terms.{Terms}
use Rattle.job_queues.specs.Tokens.{Token, IsSameQueue}
use Rattle.partition_threads.specs.declared.making.Made.{Made as Came}
use Rattle.partition_threads.specs.declared.making.Made.TheVariants as came
use Rattle.partition_threads.specs.declared.starting.Obstacle.{Obstacle}
use Rattle.partition_threads.specs.declared.workplace.Workplace.{Workplace}
use Rattle.partition_threads.specs.Making as threads
use Rattle.partition_threads.specs.Steps.{IsRun}
use Rattle.session_calls.specs.declared.making.Made.{Made}
use Rattle.session_calls.specs.declared.making.Made.TheVariants.{Ready, Started, Kept}
use Rattle.session_calls.specs.declared.session.SessionPass.{SessionPass}
use Rattle.session_calls.specs.Calls.{MayCall, IsWhyUnstarted}
use Rattle.session_calls.specs.Clause.{HasCalled}
use Rattle.session_calls.specs.Making.{IsAsBefore, HasTakenIn, AreTermsOf, MayGoOn, CameTo, HasMade}
use Rattle.session_calls.specs.Sessions.{IsSessionOf, HasPassAt, pass_at}
use Rattle.session_calls.proofs.Ending.{called_as}
use Rattle.session_calls.proofs.Keeping.{with_pass, with_token}
use Rattle.session_calls.proofs.Places.{same_some, none_some, set_same}
use Rattle.session_calls.proofs.Refusing.{met_queue, there, same_tokens, why_unstarted}
use Rattle.session_calls.proofs.Starting.{named_is, unused_is, started}

module _ {T P E O : Type 0} (token after : Token P) where
  -- the token is of the same queue
  pub told_queue : (c : Came T P E O) → threads.HasTold token after c → IsSameQueue token after
  told_queue (came.Done done) told = record { queue = ap (λ (t : Token P). t.queue) told; roster = ap (λ (t : Token P). t.roster) told }
  told_queue (came.Started awaited) told = record { queue = ap (λ (t : Token P). t.queue) told; roster = ap (λ (t : Token P). t.roster) told }
  told_queue (came.Kept call why) told = met_queue token after why told

module _ {T P E O : Type 0} (place : Workplace T P E O) (s : SessionPass T P E O) (is : IsSessionOf place s) (slot : ℕ) (token after : Token P) (read : token ≡ get_or s.tokens.items (slot % 4) token) where
  module _ (away new : SessionPass T P E O) (tokens : away.tokens.items ≡ set s.tokens.items (slot % 4) after) (member : away.member ≡ s.member) (conn : away.conn ≡ s.conn) where
    -- the tokens are as before where the one at hand is
    pub unchanged : after ≡ token → away.tokens.items ≡ s.tokens.items
    unchanged same = tokens ∙ same_tokens place s is slot token after read same

    module _ (p : ℕ) (left : away.passes.items ≡ set s.passes.items p None) where
      -- the pass is back
      pub has_back : after ≡ token → (v : Option (Told E)) → HasPassAt away new p v → HasPassAt s new p v
      has_back same v back = record {
        passes = back.passes ∙ (ap (λ l. set l p v) left ∙ set-set s.passes.items p None v);
        same_tokens = back.same_tokens ∙ unchanged same;
        same_member = back.same_member ∙ member;
        same_conn = back.same_conn ∙ conn;
      }

      -- it is still away
      pub is_away : after ≡ token → IsAsBefore away new → HasPassAt s new p None
      is_away same before = record {
        passes = before.same_passes ∙ left;
        same_tokens = before.same_tokens ∙ unchanged same;
        same_member = before.same_member ∙ member;
        same_conn = before.same_conn ∙ conn;
      }

  -- a session that has its pass, or none, at the partition is one of the place
  module _ (away new : SessionPass T P E O) (tokens : away.tokens.items ≡ set s.tokens.items (slot % 4) after) (same : IsSameQueue token after) (p : ℕ) (v : Option (Told E)) (of_cell : (q : Told E) → v ≡ Some q → slice_get (roster_of place.cells.items).tables p ≡ Some q.table)
      (passes : new.passes.items ≡ set s.passes.items p v) (new_tokens : new.tokens.items ≡ away.tokens.items) (member : new.member ≡ s.member) where
    abbrev between : SessionPass T P E O
    between = record new { tokens = s.tokens; member = s.member; conn = s.conn }

    pub still_session : IsSessionOf place new
    still_session = with_token place between new (with_pass place s between is p v of_cell (record { passes = passes; same_tokens = refl; same_member = refl; same_conn = refl })) (slot % 4) token after
        (there place s is slot token after read) same refl member (new_tokens ∙ tokens)

module _ {T P E O : Type 0} (key_of : E → Key) (call_of : ℕ → Request → ℕ → E) (tells : P → List E → E → LiveOutcome → Type 0) (fits : Request → Type 0) (place : Workplace T P E O) (s : SessionPass T P E O) (is : IsSessionOf place s) (token after : Token P) where
  -- a call that was made
  module _ (request : Request) (now : ℕ) (may : MayCall key_of fits s request) (key : key_of (call_of s.member request now) ≡ Call request.id) (pass : Told E) (pass_there : pass_at s request.partition ≡ Some (Some pass))
      (slot : ℕ) (slot_is : slot ≡ request.partition) (read : token ≡ get_or s.tokens.items (slot % 4) token)
      (away new : SessionPass T P E O) (left : away.passes.items ≡ set s.passes.items request.partition None) (tokens : away.tokens.items ≡ set s.tokens.items (slot % 4) after) (member : away.member ≡ s.member) (conn : away.conn ≡ s.conn) where
    module _ (c : Came T P E O) (has : threads.HasMade key_of tells call_of (roster_of place.cells.items) pass s.member request now c) where
      terms_are : AreTermsOf call_of place s request now has.terms
      terms_are = record { pass = pass_there ∙ ap (λ (q : Told E). Some (Some q)) (sym has.first); event = has.event; plan = has.plan }

      key_is : key_of has.terms.event ≡ Call request.id
      key_is = ap key_of has.event ∙ key

      named : has_name has.terms.first.names (Call request.id) ≡ true
      named = subst (λ (q : Told E). has_name q.names (Call request.id) ≡ true) (sym has.first) (named_is key_of fits s request may pass pass_there)

      unused : IsNewKey key_of (Call request.id) has.terms.first.seen
      unused = subst (λ (q : Told E). IsNewKey key_of (Call request.id) q.seen) (sym has.first) (unused_is key_of fits s request may pass pass_there)

    kept_as : (call again : BegunCall T P E O) (met why : Obstacle) (has : threads.HasMade key_of tells call_of (roster_of place.cells.items) pass s.member request now (came.Kept call met)) → again ≡ call → IsAsBefore away new
        → IsWhyUnstarted s new request.partition why → HasMade key_of call_of tells place s new request now (Kept again why)
    kept_as call again met why has same before why_is = subst (λ k. HasMade key_of call_of tells place s new request now (Kept k why)) (sym same) (record {
      terms = has.terms;
      terms_are = terms_are (came.Kept call met) has;
      running = record {
        begun = has.came.begun;
        named = subst (λ (id : CallId). has_name has.terms.first.names (Call id) ≡ true) (sym has.came.same_id) (named (came.Kept call met) has);
        unused = subst (λ (id : CallId). IsNewKey key_of (Call id) has.terms.first.seen) (sym has.came.same_id) (unused (came.Kept call met) has);
      };
      same_member = has.came.same_member;
      same_id = has.came.same_id;
      same_partition = has.came.same_partition;
      away = before.same_passes ∙ left;
      member = before.same_member ∙ member;
      conn = before.same_conn ∙ conn;
      why_is = why_is;
    })

    pub took : (c : Came T P E O) (made : Made T P E O) → threads.HasTold token after c → threads.HasMade key_of tells call_of (roster_of place.cells.items) pass s.member request now c
        → HasTakenIn away new request.id request.partition c made → HasMade key_of call_of tells place s new request now made
    took (came.Done done) (Ready outcome) told has taken = record {
      terms = has.terms;
      terms_are = terms_are (came.Done done) has;
      returned = record {
        pass = done.pass;
        back = has_back place s is slot token after read away new tokens member conn request.partition left told (Some done.pass) taken.0;
        called = subst (λ (o : LiveOutcome). HasCalled key_of tells has.terms request.id done.pass o) (sym taken.1)
            (called_as key_of has.terms request.id (key_is (came.Done done) has) (named (came.Done done) has) (unused (came.Done done) has) tells done.pass done.outcome has.came.answered);
      };
    }
    took (came.Started awaited) (Started begun) told has taken = subst (λ k. HasMade key_of call_of tells place s new request now (Started k)) (sym taken.1)
        (started key_of fits s request may pass pass_there place is call_of now key awaited (record { terms = has.terms; plan = has.plan; first = has.first; event = has.event; awaits = has.came }) new
        (is_away place s is slot token after read away new tokens member conn request.partition left told taken.0))
    took (came.Kept call met) (Kept again why) told has taken = kept_as call again met why has taken.1 taken.0
        (subst (IsWhyUnstarted s new request.partition) (sym taken.2) (why_unstarted place s is slot token after read new (taken.0.same_tokens ∙ tokens) request.partition slot_is met told))
    took (came.Done done) (Started k) told has taken = absurd taken
    took (came.Done done) (Kept k why) told has taken = absurd taken
    took (came.Started awaited) (Ready o) told has taken = absurd taken
    took (came.Started awaited) (Kept k why) told has taken = absurd taken
    took (came.Kept call met) (Ready o) told has taken = absurd taken
    took (came.Kept call met) (Started k) told has taken = absurd taken

    -- the session is one of the place still
    pub took_keeps : (c : Came T P E O) (made : Made T P E O) → threads.HasTold token after c → threads.HasMade key_of tells call_of (roster_of place.cells.items) pass s.member request now c
        → HasTakenIn away new request.id request.partition c made → IsSessionOf place new
    took_keeps (came.Done done) (Ready outcome) told has taken =
        still_session place s is slot token after read away new tokens (told_queue token after (came.Done done) told) request.partition (Some done.pass)
        (λ q e. is.passes request.partition pass pass_there ∙ (ap Some (sym (has.came.answered.same_table ∙ ap (λ (z : Told E). z.table) has.first)) ∙ ap (λ (z : Told E). Some z.table) (same_some done.pass q e)))
        (has_back place s is slot token after read away new tokens member conn request.partition left told (Some done.pass) taken.0).passes taken.0.same_tokens (taken.0.same_member ∙ member)
    took_keeps (came.Started awaited) (Started begun) told has taken =
        still_session place s is slot token after read away new tokens (told_queue token after (came.Started awaited) told) request.partition None (λ q e. absurd (none_some q e))
        (taken.0.same_passes ∙ left) taken.0.same_tokens (taken.0.same_member ∙ member)
    took_keeps (came.Kept call met) (Kept again why) told has taken =
        still_session place s is slot token after read away new tokens (met_queue token after met told) request.partition None (λ q e. absurd (none_some q e))
        (taken.0.same_passes ∙ left) taken.0.same_tokens (taken.0.same_member ∙ member)
    took_keeps (came.Done done) (Started k) told has taken = absurd taken
    took_keeps (came.Done done) (Kept k why) told has taken = absurd taken
    took_keeps (came.Started awaited) (Ready o) told has taken = absurd taken
    took_keeps (came.Started awaited) (Kept k why) told has taken = absurd taken
    took_keeps (came.Kept call met) (Ready o) told has taken = absurd taken
    took_keeps (came.Kept call met) (Started k) told has taken = absurd taken

  -- a call that was gone on with
  module _ (terms : Terms P E) (call : BegunCall T P E O) (may : MayGoOn key_of call_of tells place terms s call) (slot : ℕ) (slot_is : slot ≡ call.partition) (read : token ≡ get_or s.tokens.items (slot % 4) token)
      (away new : SessionPass T P E O) (stay : away.passes.items ≡ s.passes.items) (tokens : away.tokens.items ≡ set s.tokens.items (slot % 4) after) (member : away.member ≡ s.member) (conn : away.conn ≡ s.conn) where
    still_as : (again k : BegunCall T P E O) (why : Obstacle) (run : IsRun key_of tells call_of (roster_of place.cells.items) terms call.member call.partition call.id k None) → again ≡ k → IsAsBefore away new
        → IsWhyUnstarted s new call.partition why → CameTo key_of call_of tells place terms call.id call.partition s new (Kept again why)
    still_as again k why run same before why_is = subst (λ z. CameTo key_of call_of tells place terms call.id call.partition s new (Kept z why)) (sym same) (record {
      running = record {
        begun = run.begun;
        named = subst (λ (id : CallId). has_name terms.first.names (Call id) ≡ true) (sym run.same_id) may.running.named;
        unused = subst (λ (id : CallId). IsNewKey key_of (Call id) terms.first.seen) (sym run.same_id) may.running.unused;
      };
      same_member = run.same_member ∙ may.same_member;
      same_id = run.same_id;
      same_partition = run.same_partition;
      same_session = record { same_passes = before.same_passes ∙ stay; same_member = before.same_member ∙ member; same_conn = before.same_conn ∙ conn; why_is = why_is };
    })

    pub went : (c : Came T P E O) (made : Made T P E O) → threads.HasTold token after c → threads.CameTo key_of tells call_of (roster_of place.cells.items) terms call.member call.partition call.id c
        → HasTakenIn away new call.id call.partition c made → CameTo key_of call_of tells place terms call.id call.partition s new made
    went (came.Done done) (Ready outcome) told has taken = record {
      pass = done.pass;
      back = record {
        passes = taken.0.passes ∙ ap (λ l. set l call.partition (Some done.pass)) stay;
        same_tokens = taken.0.same_tokens ∙ unchanged place s is slot token after read away new tokens member conn told;
        same_member = taken.0.same_member ∙ member;
        same_conn = taken.0.same_conn ∙ conn;
      };
      called = subst (λ (o : LiveOutcome). HasCalled key_of tells terms call.id done.pass o) (sym taken.1)
          (called_as key_of terms call.id may.running.begun.of_call.key may.running.named may.running.unused tells done.pass done.outcome has.answered);
    }
    went (came.Started awaited) (Started begun) told has taken = subst (λ k. CameTo key_of call_of tells place terms call.id call.partition s new (Started k)) (sym taken.1) (record {
      under_way = record {
        awaited = has;
        here = may.running.begun.here ∙ ap Some may.running.begun.served.same_table;
        plan = may.running.begun.plan;
        key = may.running.begun.of_call.key;
        named = may.running.named;
        unused = may.running.unused;
      };
      same_id = refl;
      same_partition = refl;
      same_session = record {
        same_passes = taken.0.same_passes ∙ stay;
        same_tokens = taken.0.same_tokens ∙ unchanged place s is slot token after read away new tokens member conn told;
        same_member = taken.0.same_member ∙ member;
        same_conn = taken.0.same_conn ∙ conn;
      };
    })
    went (came.Kept k met) (Kept again why) told has taken = still_as again k why has taken.1 taken.0
        (subst (IsWhyUnstarted s new call.partition) (sym taken.2) (why_unstarted place s is slot token after read new (taken.0.same_tokens ∙ tokens) call.partition slot_is met told))
    went (came.Done done) (Started k) told has taken = absurd taken
    went (came.Done done) (Kept k why) told has taken = absurd taken
    went (came.Started awaited) (Ready o) told has taken = absurd taken
    went (came.Started awaited) (Kept k why) told has taken = absurd taken
    went (came.Kept k met) (Ready o) told has taken = absurd taken
    went (came.Kept k met) (Started z) told has taken = absurd taken

    -- the session is one of the place still
    pub went_keeps : (c : Came T P E O) (made : Made T P E O) → threads.HasTold token after c → threads.CameTo key_of tells call_of (roster_of place.cells.items) terms call.member call.partition call.id c
        → HasTakenIn away new call.id call.partition c made → IsSessionOf place new
    went_keeps (came.Done done) (Ready outcome) told has taken =
        still_session place s is slot token after read away new tokens (told_queue token after (came.Done done) told) call.partition (Some done.pass)
        (λ q e. may.running.begun.here ∙ (ap Some (may.running.begun.served.same_table ∙ sym has.answered.same_table) ∙ ap (λ (z : Told E). Some z.table) (same_some done.pass q e)))
        (taken.0.passes ∙ ap (λ l. set l call.partition (Some done.pass)) stay) taken.0.same_tokens (taken.0.same_member ∙ member)
    went_keeps (came.Started awaited) (Started begun) told has taken =
        still_session place s is slot token after read away new tokens (told_queue token after (came.Started awaited) told) call.partition None (λ q e. absurd (none_some q e))
        (taken.0.same_passes ∙ (stay ∙ sym (set_same s.passes.items call.partition None may.away))) taken.0.same_tokens (taken.0.same_member ∙ member)
    went_keeps (came.Kept k met) (Kept again why) told has taken =
        still_session place s is slot token after read away new tokens (met_queue token after met told) call.partition None (λ q e. absurd (none_some q e))
        (taken.0.same_passes ∙ (stay ∙ sym (set_same s.passes.items call.partition None may.away))) taken.0.same_tokens (taken.0.same_member ∙ member)
    went_keeps (came.Done done) (Started k) told has taken = absurd taken
    went_keeps (came.Done done) (Kept k why) told has taken = absurd taken
    went_keeps (came.Started awaited) (Ready o) told has taken = absurd taken
    went_keeps (came.Started awaited) (Kept k why) told has taken = absurd taken
    went_keeps (came.Kept k met) (Ready o) told has taken = absurd taken
    went_keeps (came.Kept k met) (Started z) told has taken = absurd taken
