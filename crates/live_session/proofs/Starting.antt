-- How a call is made or started.
use Rattle.std.proofs.Common.{◌≡◌, ℕ, suc, ℤ, ◌<◌, inl, inr, true, List, [], ◌∷◌, ◌++◌, length, Contains, Option, Some, None, slice_get, slice_set, refl, sym, ap, ◌∙◌, subst, append_assoc, append-nil, arith}
use Rattle.std.specs.Prelude.{option_and_then}
use Rattle.std.proofs.lemmas.Option.{slice_get_within}
use Rattle.grid_base.specs.Errors.{want_of_memory}
use Rattle.grid_base.specs.Limits.{CallFits, NumbersFit}
use Rattle.grid_base.specs.declared.names.CallId.{CallId}
use Rattle.grid_base.specs.declared.calls.Request.{Request}
use Rattle.hand_cell.specs.declared.names.Key.{Key}
use Rattle.hand_cell.specs.declared.names.Key.TheVariants.{Call as CallKey}
use Rattle.hand_cell.specs.declared.outcome.LiveOutcome.{LiveOutcome}
use Rattle.hand_cell.specs.Names.{has_number, Lacks}
use Rattle.hand_cell.specs.Told.{Told}
use Rattle.job_queues.specs.Roster.{roster_of}
use Rattle.job_queues.specs.Terms.{Terms}
use Rattle.loop_journal.specs.declared.entry.Entry.{Entry}
use Rattle.loop_journal.specs.declared.entry.Entry.TheVariants.{Started as StartNoted, Finished as FinishNoted}
use Rattle.loop_journal.specs.declared.entry.NotedCall.{NotedCall}
use Rattle.message_frames.specs.Messages.{messages_of}
use Rattle.partition_threads.specs.declared.workplace.Workplace.{Workplace}
use Rattle.partition_threads.specs.declared.starting.Obstacle.{Obstacle}
use Rattle.partition_threads.specs.declared.starting.Obstacle.TheVariants.{Busy, Memory as NoMemory}
use Rattle.session_calls.specs.declared.making.Made.{Made as MadeCall}
use Rattle.session_calls.specs.declared.making.Made.TheVariants.{Ready, Started as StartedCall, Kept as KeptCall}
use Rattle.session_calls.specs.declared.session.SessionPass.{SessionPass}
use Rattle.session_calls.specs.Calls.{MayCall, HasReturned, HasRefused}
use Rattle.session_calls.specs.Making.{HasMade}
use Rattle.session_calls.specs.Sessions.{IsSessionOf, pass_at}
use Rattle.session_core.specs.Items.{items_of}
use Rattle.session_core.specs.Sessions.{session_after}
use Rattle.session_core.specs.declared.item.Item.{Item}
use Rattle.session_core.specs.declared.item.Item.TheVariants.{Call}
use Rattle.session_core.specs.Laws.{request_in}
use Rattle.session_core.proofs.CallsAt.{placed_call, fitting_call}
use Rattle.live_session.specs.declared.connection.Asked.{Asked}
use Rattle.live_session.specs.declared.connection.Connection.{Connection}
use Rattle.live_session.specs.declared.connection.Going.{Going}
use Rattle.live_session.specs.declared.connection.Going.TheVariants.{Worker, Connection as Here, Lost}
use Rattle.live_session.specs.declared.step.CallStep.{CallStep}
use Rattle.live_session.specs.declared.step.CallStep.TheVariants.{Nothing, Begun, Made}
use Rattle.live_session.specs.declared.turned.ConnectionEnd.TheVariants.{Memory}
use Rattle.live_session.specs.declared.turned.Turned.{Turned}
use Rattle.live_session.specs.declared.turned.Turned.TheVariants.{Moved, Ended as Over}
use Rattle.live_session.specs.Asking.{HasAnswer, IsUnderWayBy, HasNotedMade}
use Rattle.live_session.specs.Going.{GoesOn, noted_by}
use Rattle.live_session.specs.Replies.{busy, unstarted_bytes}
use Rattle.live_session.specs.Connections.{HasSeen, HaveSeen, HasAnswered, IsNotRun, IsAsked, AwaitsCall, RemainsBy, IsServedWith, IsServedTo, ServesCalls}
use Rattle.live_session.specs.Next.{noted_of}
use Rattle.live_session.specs.Starts.{Start, Log, start_of, after_turn}
use Rattle.live_session.specs.Steps.{StepsTo}
use Rattle.live_session.specs.Times.{HasCome, IsNotedWhole, IsInTime}
use Rattle.live_session.specs.Turns.{Streams, Before, before_of, with_message, HasNoted, StandsAfter, HasTurned}
use Rattle.live_session.proofs.Answering.{next_number, grows_not, Kept, kept_by, kept_more, kept_since}
use Rattle.live_session.proofs.Choosing.{in_vain}
use Rattle.live_session.proofs.Numbers.{below_lacks, stands_within}
use Rattle.live_session.proofs.Passes.{others_stay, have_seen_by}
use Rattle.live_session.proofs.Places.{get_seam, set_there, same_some}
use Rattle.live_session.proofs.Returned.{Returns, has_returned}
use Rattle.live_session.proofs.Timing.{in_time_noted, one_start, one_finish, is_unanswered, has_come, noted_still, noted_begun, noted_made}
use Rattle.live_session.proofs.Turning.{unmoved, none_moved, steps_still, breaks_still}

module _ {T P E O : Type 0} (key_of : E → Key) (tells : P → List E → E → LiveOutcome → Type 0) (call_of : ℕ → Request → ℕ → E) (log : Log) (place : Workplace T P E O)
    (c : Connection T P E O) (request : Request) (seen : ℕ → List E) (read written : List ℕ) (served : IsServedWith key_of tells call_of log place c None (Call request ∷ c.items.items) seen read written) where
  had : Kept key_of tells call_of place log c.pass.conn c.pass.member seen read written c.out (Call request ∷ c.items.items)
  had = subst (λ (r : List Item). Kept key_of tells call_of place log c.pass.conn c.pass.member seen read written c.out r) served.remains.rest_is (record { answers = served.answers; below = served.remains.below })

  number : ℕ
  number = length had.answers.answered

  id_is : request.id ≡ record { conn = c.pass.conn; number = number }
  unfolding number
  id_is = next_number key_of tells call_of log log place c.pass.conn c.pass.member seen seen read written c.out (Call request) c.items.items had.answers request refl

  here : slice_get (items_of c.pass.conn c.pass.member (messages_of true read)) number ≡ Some (Call request)
  unfolding number
  here = ap (λ (l : List Item). slice_get l (length had.answers.answered)) had.answers.whole ∙ get_seam had.answers.answered (Call request) c.items.items

  pub call_fits : CallFits request.call
  call_fits = fitting_call c.pass.conn c.pass.member read number request (ap (option_and_then request_in) here)

  module _ (fits : Request → Type 0) (calls : ServesCalls fits place) where
    within : request.partition < length c.pass.passes.items
    within = subst (λ (n : ℕ). request.partition < n) (sym (served.pass.each ∙ calls.cells)) (placed_call c.pass.conn c.pass.member (messages_of true read) number request (ap (option_and_then request_in) here)).within

    at_place : HasSeen c.pass request.partition (seen request.partition)
    at_place = served.remains.passes request.partition within (λ none. none)

    is_new : Lacks key_of (CallKey request.id) (seen request.partition)
    unfolding number
    is_new = below_lacks key_of c.pass.conn (length had.answers.answered) request.id (seen request.partition) (ap (λ (i : CallId). i.conn) id_is)
        (λ less. let same : request.id.number ≡ length had.answers.answered = ap (λ (i : CallId). i.number) id_is in omega (arith, less, same)) (had.below request.partition)

    pub may_call : NumbersFit request.call → MayCall key_of fits c.pass request
    may_call numbers = record {
      pass = at_place.pass;
      there = at_place.there;
      named = ap (λ (i : CallId). has_number at_place.pass.names.numbers i.conn) id_is ∙ at_place.named;
      unused = subst (λ (l : List E). Lacks key_of (CallKey request.id) l) (sym at_place.seen_is) is_new;
      within = calls.requests request call_fits numbers;
    }

    -- The call was started on these terms
    module _ (now : ℕ) (pass_now : SessionPass T P E O) (terms : Terms P E) (pass_is : pass_at c.pass request.partition ≡ Some (Some terms.first)) (event : terms.event ≡ call_of c.pass.member request now)
        (call : NotedCall) (same_id : call.id ≡ request.id) (same_partition : call.partition ≡ request.partition) (correlation : ℤ) (same_correlation : correlation ≡ request.correlation) where
      first_is : terms.first ≡ at_place.pass
      first_is = same_some terms.first at_place.pass (same_some (Some terms.first) (Some at_place.pass) (sym pass_is ∙ at_place.there))

      seen_is : terms.first.seen ≡ seen request.partition
      seen_is = ap (λ (p : Told E). p.seen) first_is ∙ at_place.seen_is

      named : has_number terms.first.names.numbers c.pass.conn ≡ true
      named = ap (λ (p : Told E). has_number p.names.numbers c.pass.conn) first_is ∙ at_place.named

      numbered : call.id ≡ record { conn = c.pass.conn; number = number }
      numbered = same_id ∙ id_is

      own_call : call.id.conn ≡ c.pass.conn
      own_call = ap (λ (i : CallId). i.conn) numbered

      abbrev with_entries : List Entry → Log
      with_entries entries = after_turn log (Some (start_of request now)) entries

      abbrev begun : List Entry
      begun = StartNoted call ∷ []

      -- its message has come
      in_time : IsInTime c.pass.conn c.pass.member (log.entries ++ begun) read had.answers.replies
      unfolding number
      in_time = in_time_noted c.pass.conn c.pass.member log.entries read had.answers.replies begun
          (one_start c.pass.conn c.pass.member log.entries read had.answers.replies call
          (has_come c.pass.conn c.pass.member call.id.number log.entries read written served.noted
          (subst (λ (n : ℕ). HasCome c.pass.conn c.pass.member read n) (sym (ap (λ (i : CallId). i.number) numbered))
          (slice_get_within (items_of c.pass.conn c.pass.member (messages_of true read)) number (Call request) here))))
          had.answers.in_time

      whole_then : IsNotedWhole c.pass.conn (log.entries ++ begun) read written
      whole_then = noted_still c.pass.conn log.entries begun read written served.noted (noted_begun c.pass.conn call own_call).whole

      older : (entries : List Entry) (one : Start) → Contains log.starts one → Contains (with_entries entries).starts one
      older entries one there = let less : there.0 < length log.starts = there.1 in (suc there.0, omega (arith, less), there.2)

      -- It is under way
      module _ (kept : IsSessionOf place pass_now) (away : pass_now.passes.items ≡ slice_set c.pass.passes.items request.partition None) (same_member : pass_now.member ≡ c.pass.member) (same_conn : pass_now.conn ≡ c.pass.conn)
          (going : Going T P E O) (goes_on : GoesOn key_of call_of tells place terms c.pass.member call going) where
        abbrev asked : Asked T P E O
        asked = record { call = call; going = going; correlation = correlation }

        abbrev new : Connection T P E O
        new = record c { pass = pass_now; asked = Some asked }

        kept_now : Kept key_of tells call_of place (with_entries begun) pass_now.conn pass_now.member seen read written c.out (Call request ∷ c.items.items)
        kept_now = kept_by key_of tells call_of place (with_entries begun) c.pass.conn pass_now.conn c.pass.member pass_now.member seen read written c.out (Call request ∷ c.items.items) same_conn same_member
            (kept_since key_of tells call_of place log (with_entries begun) (older begun) c.pass.conn c.pass.member seen read written c.out (Call request ∷ c.items.items) had in_time)

        is_asked : IsAsked key_of tells call_of (with_entries begun) place pass_now seen asked request
        is_asked = record {
          terms = terms;
          now = now;
          given = (0, omega arith, refl);
          event = event ∙ ap (λ (n : ℕ). call_of n request now) (sym same_member);
          goes_on = subst (λ (n : ℕ). GoesOn key_of call_of tells place terms n call going) (sym same_member) goes_on;
          id = same_id;
          partition = same_partition;
          correlation = same_correlation;
          away = ap (λ l. slice_get l request.partition) away ∙ set_there c.pass.passes.items request.partition (Some at_place.pass) None at_place.there;
          seen_is = seen_is;
          named = ap (has_number terms.first.names.numbers) same_conn ∙ named;
          others = others_stay c.pass pass_now request.partition away same_conn seen served.remains.passes;
        }

        awaits : AwaitsCall key_of tells call_of (with_entries begun) place pass_now seen (length kept_now.answers.answered) asked c.items.items (Call request ∷ c.items.items)
        awaits = record { request = request; rest_is = refl; is_asked = is_asked; below = kept_now.below }

        remains_by : (g : Going T P E O) → GoesOn key_of call_of tells place terms c.pass.member call g
            → RemainsBy key_of tells call_of (with_entries begun) place pass_now seen (length kept_now.answers.answered) asked g c.items.items (Call request ∷ c.items.items)
        remains_by (Worker started) on = awaits
        remains_by (Here kept_call) on = awaits
        remains_by Lost on = absurd on

        noted_so : (g : Going T P E O) → GoesOn key_of call_of tells place terms c.pass.member call g → Some call ≡ noted_by g call
        noted_so (Worker started) on = refl
        noted_so (Here kept_call) on = refl
        noted_so Lost on = absurd on

        is_under_way : IsServedTo key_of tells call_of (with_entries begun) place new seen read written
        is_under_way = record {
          pass = kept;
          session = served.session ∙ (ap (λ (n : ℕ). session_after n c.pass.member read) (sym same_conn) ∙ ap (λ (n : ℕ). session_after pass_now.conn n read) (sym same_member));
          rest = Call request ∷ c.items.items;
          answers = kept_now.answers;
          remains = remains_by going goes_on;
          noted = subst (λ (n : ℕ). IsNotedWhole n (log.entries ++ begun) read written) (sym same_conn) whole_then;
        }

        pub has_begun : (idle : c.asked ≡ None) (streams : Streams) (given : List ℕ) (journal journal_now : List Entry) → journal_now ≡ journal ++ begun
            → HasTurned key_of tells call_of place given (given ++ now ∷ []) journal journal_now (with_message (before_of c)) new streams streams seen log read written Moved (Begun call)
        has_begun idle streams given journal journal_now more_entries = record {
          moves = unmoved;
          moved = record { read = sym (append-nil streams.from.given.bytes); written = sym (append-nil streams.to.bytes) };
          steps = subst (λ (was : Option (Asked T P E O)). StepsTo (noted_of was) (noted_by going call) (Begun call)) (sym idle)
              (subst (λ (is : Option NotedCall). StepsTo None is (Begun call)) (noted_so going goes_on) refl);
          breaks = breaks_still c.broken c.broken streams.to.faults streams.to.faults refl;
          started = Some (start_of request now);
          asks = (ap (λ (i : CallId). i.number) same_id, refl);
          entries = begun;
          more_entries = more_entries;
          noted = subst (λ (n : ℕ). HasNoted n (Begun call) unmoved begun) (sym same_conn) (noted_begun c.pass.conn call own_call);
          sees = seen;
          more = λ partition. ([], sym (append-nil (seen partition)));
          anew = λ id partition at mine is past. absurd (past (stands_within key_of id (seen partition) at is));
          stands = subst (λ (r : List ℕ). StandsAfter key_of tells call_of place Moved (Begun call) (with_entries begun) (with_message (before_of c)) new seen r (written ++ []) unmoved streams streams) (sym (append-nil read))
              (subst (λ (w : List ℕ). StandsAfter key_of tells call_of place Moved (Begun call) (with_entries begun) (with_message (before_of c)) new seen read w unmoved streams streams) (sym (append-nil written))
              (is_under_way, inr (inr (inr (inl (omega arith))))));
        }

      -- It has come to its outcome at once
      abbrev made : List Entry
      made = StartNoted call ∷ FinishNoted call ∷ []

      made_in_time : IsInTime c.pass.conn c.pass.member (log.entries ++ made) read had.answers.replies
      unfolding number
      made_in_time = subst (λ (l : List Entry). IsInTime c.pass.conn c.pass.member l read had.answers.replies) (append_assoc log.entries begun (FinishNoted call ∷ []))
          (in_time_noted c.pass.conn c.pass.member (log.entries ++ begun) read had.answers.replies (FinishNoted call ∷ [])
          (one_finish c.pass.conn c.pass.member (log.entries ++ begun) read had.answers.replies call
          (is_unanswered c.pass.conn call.id.number (log.entries ++ begun) read written c.out had.answers.replies whole_then had.answers.bytes
          (ap (λ (i : CallId). i.number) numbered ∙ sym had.answers.each.as_many)))
          in_time)

      module _ (kept : IsSessionOf place pass_now) (outcome : LiveOutcome) (plan : slice_get (roster_of place.cells.items).plans request.partition ≡ Some terms.plan)
          (returned : HasReturned key_of tells terms request.id request.partition c.pass pass_now outcome) where
        returns : Returns key_of tells call_of (with_entries made) place c request terms seen read written pass_now outcome
        returns = record {
          had = kept_since key_of tells call_of place log (with_entries made) (older made) c.pass.conn c.pass.member seen read written c.out (Call request ∷ c.items.items) had made_in_time;
          on = record { now = now; given = (0, omega arith, refl); event = event; plan = plan; seen_is = seen_is; named = named };
          session = served.session;
          noted = noted_still c.pass.conn log.entries made read written served.noted (noted_made c.pass.conn call own_call).whole;
          was = Some at_place.pass;
          there = at_place.there;
          others = λ partition inside other. served.remains.passes partition inside (λ none. none);
          kept = kept;
          returned = returned;
        }

        pub has_made : (idle : c.asked ≡ None) (streams : Streams) (given : List ℕ) (journal journal_now : List Entry) (turned : Turned) (new : Connection T P E O)
            → HasAnswer call correlation outcome (record c { pass = pass_now }) new (journal ++ begun) journal_now turned
            → HasTurned key_of tells call_of place given (given ++ now ∷ []) journal journal_now (with_message (before_of c)) new streams streams seen log read written turned (Made call)
        has_made idle streams given journal journal_now turned new answer =
            has_returned key_of tells call_of log (Some (start_of request now)) made place c request terms seen read written pass_now outcome returns idle call correlation same_correlation (with_message (before_of c)) refl
            (Made call) tt (same_id, same_partition)
            (subst (λ (was : Option (Asked T P E O)). StepsTo (noted_of was) None (Made call)) (sym idle) tt)
            (noted_made c.pass.conn call own_call)
            given (given ++ now ∷ []) (ap (λ (i : CallId). i.number) same_id, refl)
            journal journal_now (answer.noted ∙ append_assoc journal begun (FinishNoted call ∷ [])) turned new answer.told streams

    -- with what was noted of it
    begun_by : {given given_now : List ℕ} {was : Before T P E O} {streams : Streams} (call : NotedCall) (correlation : ℤ) (going : Going T P E O) (old new : Connection T P E O) (journal journal_now : List Entry) (turned : Turned) (step : CallStep)
        → IsUnderWayBy call correlation going old new journal journal_now turned step
        → HasTurned key_of tells call_of place given given_now journal journal_now was (record old { asked = Some (record { call = call; going = going; correlation = correlation }) }) streams streams seen log read written Moved (Begun call)
        → HasTurned key_of tells call_of place given given_now journal journal_now was new streams streams seen log read written turned step
    begun_by {given} {given_now} {was} {streams} call correlation going old new journal journal_now turned step noted turn =
        subst (λ (n : Connection T P E O). HasTurned key_of tells call_of place given given_now journal journal_now was n streams streams seen log read written turned step) (sym noted.asked)
        (subst (λ (t : Turned). HasTurned key_of tells call_of place given given_now journal journal_now was (record old { asked = Some (record { call = call; going = going; correlation = correlation }) }) streams streams seen log read written t step) (sym noted.moved)
        (subst (λ (s : CallStep). HasTurned key_of tells call_of place given given_now journal journal_now was (record old { asked = Some (record { call = call; going = going; correlation = correlation }) }) streams streams seen log read written Moved s) (sym noted.did_is) turn))

    -- What the call came to, and what was noted of it
    module _ (idle : c.asked ≡ None) (now : ℕ) (pass_now : SessionPass T P E O) (kept : IsSessionOf place pass_now) (call : NotedCall) (same_id : call.id ≡ request.id) (same_partition : call.partition ≡ request.partition)
        (correlation : ℤ) (same_correlation : correlation ≡ request.correlation) where
      pub has_asked : (it : MadeCall T P E O) → HasMade key_of call_of tells place c.pass pass_now request now it → (new : Connection T P E O) (journal journal_now : List Entry) (turned : Turned) (step : CallStep)
          → HasNotedMade call correlation it (record c { pass = pass_now }) new journal journal_now turned step → (streams : Streams) (given : List ℕ)
          → HasTurned key_of tells call_of place given (given ++ now ∷ []) journal journal_now (with_message (before_of c)) new streams streams seen log read written turned step
      has_asked (Ready outcome) is new journal journal_now turned step noted streams given =
          subst (λ (s : CallStep). HasTurned key_of tells call_of place given (given ++ now ∷ []) journal journal_now (with_message (before_of c)) new streams streams seen log read written turned s) (sym noted.did_is)
          (has_made now pass_now is.terms is.terms_are.pass is.terms_are.event call same_id same_partition correlation same_correlation kept outcome is.terms_are.plan is.returned
          idle streams given journal journal_now turned new noted.answer)
      has_asked (StartedCall started) is new journal journal_now turned step noted streams given = begun_by call correlation _ (record c { pass = pass_now }) new journal journal_now turned step noted
          (has_begun now pass_now is.terms is.pass is.event call same_id same_partition correlation same_correlation kept is.away.passes is.away.same_member is.away.same_conn (Worker started)
          (record { under_way = is.under_way; same_id = is.id ∙ sym same_id; same_partition = is.partition ∙ sym same_partition }) idle streams given journal journal_now noted.noted)
      has_asked (KeptCall begun why) is new journal journal_now turned step noted streams given = begun_by call correlation _ (record c { pass = pass_now }) new journal journal_now turned step noted
          (has_begun now pass_now is.terms is.terms_are.pass is.terms_are.event call same_id same_partition correlation same_correlation kept is.away is.member is.conn (Here begun)
          (record { running = is.running; same_member = is.same_member; same_id = is.same_id ∙ sym same_id; same_partition = is.same_partition ∙ sym same_partition }) idle streams given journal journal_now noted.noted)

      pub has_asked_as : (old : Connection T P E O) → old ≡ record c { pass = pass_now } → (it : MadeCall T P E O) → HasMade key_of call_of tells place c.pass pass_now request now it
          → (new : Connection T P E O) (journal journal_now : List Entry) (turned : Turned) (step : CallStep)
          → HasNotedMade call correlation it old new journal journal_now turned step → (streams : Streams) (given : List ℕ)
          → HasTurned key_of tells call_of place given (given ++ now ∷ []) journal journal_now (with_message (before_of c)) new streams streams seen log read written turned step
      has_asked_as old same it is new journal journal_now turned step noted streams given =
          has_asked it is new journal journal_now turned step (subst (λ (o : Connection T P E O). HasNotedMade call correlation it o new journal journal_now turned step) same noted) streams given

    -- or wasn't started
    module _ (idle : c.asked ≡ None) (pass_now : SessionPass T P E O) (kept : IsSessionOf place pass_now) (why : Obstacle) (refused : HasRefused c.pass pass_now request.partition why) where
      passes : HaveSeen pass_now (λ partition. ⊥) seen
      passes = have_seen_by c.pass pass_now refused.same_passes refused.same_conn (λ partition. ⊥) seen served.remains.passes

      answers_call : (told : List ℕ) → told ≡ unstarted_bytes request.correlation why → IsNotRun key_of tells call_of log place request (seen request.partition) told
      answers_call told is = go why is
        where
          go : (w : Obstacle) → told ≡ unstarted_bytes request.correlation w → IsNotRun key_of tells call_of log place request (seen request.partition) told
          go Busy e = record { nowhere = is_new; code = busy; why = inl refl; reply_is = e }
          go NoMemory e = record { nowhere = is_new; code = want_of_memory; why = inr (inl refl); reply_is = e }

      kept_refused : (told out_now : List ℕ) → told ≡ unstarted_bytes request.correlation why → out_now ≡ c.out ++ told → Kept key_of tells call_of place log pass_now.conn pass_now.member seen read written out_now c.items.items
      kept_refused told out_now is behind = kept_by key_of tells call_of place log c.pass.conn pass_now.conn c.pass.member pass_now.member seen read written out_now c.items.items refused.same_conn refused.same_member
          (kept_more key_of tells call_of place log c.pass.conn c.pass.member seen seen read written c.out (Call request) c.items.items had
          (grows_not key_of tells call_of log log place c.pass.conn (length had.answers.answered) c.pass.member (items_of c.pass.conn c.pass.member (messages_of true read)) seen) told out_now behind (inr (answers_call told is)))

      session : c.session ≡ session_after pass_now.conn pass_now.member read
      session = served.session ∙ (ap (λ (n : ℕ). session_after n c.pass.member read) (sym refused.same_conn) ∙ ap (λ (n : ℕ). session_after pass_now.conn n read) (sym refused.same_member))

      pub is_refused : (told out_now : List ℕ) → told ≡ unstarted_bytes request.correlation why → out_now ≡ c.out ++ told → IsServedTo key_of tells call_of log place (record c { pass = pass_now; out = out_now }) seen read written
      is_refused told out_now is behind = let now = kept_refused told out_now is behind in
          subst (λ (a : Option (Asked T P E O)). IsServedWith key_of tells call_of log place (record c { pass = pass_now; out = out_now }) a c.items.items seen read written) (sym idle) (record {
            pass = kept;
            session = session;
            rest = c.items.items;
            answers = now.answers;
            remains = record { rest_is = refl; passes = passes; below = now.below };
            noted = subst (λ (n : ℕ). IsNotedWhole n log.entries read written) (sym refused.same_conn) served.noted;
          })

      -- it was told of
      pub has_refused : (told out_now : List ℕ) → told ≡ unstarted_bytes request.correlation why → out_now ≡ c.out ++ told → (streams : Streams) (given : List ℕ) (journal : List Entry) (now : ℕ)
          → HasTurned key_of tells call_of place given (given ++ now ∷ []) journal journal (with_message (before_of c)) (record c { pass = pass_now; out = out_now }) streams streams seen log read written Moved Nothing
      has_refused told out_now is behind streams given journal now =
          in_vain key_of tells call_of place (record c { pass = pass_now; out = out_now }) streams streams seen log read written Moved Nothing given now (with_message (before_of c))
          (none_moved key_of tells call_of place (with_message (before_of c)) (record c { pass = pass_now; out = out_now }) seen log read written Moved streams (steps_still (noted_of c.asked) (noted_of c.asked) refl) refl
          (is_refused told out_now is behind, inr (inr (inr (inl (omega arith))))))

      -- or there was no memory for it
      pub refused_no_memory : (out_now : List ℕ) → out_now ≡ c.out → (streams : Streams) (given : List ℕ) (journal : List Entry) (now : ℕ)
          → HasTurned key_of tells call_of place given (given ++ now ∷ []) journal journal (with_message (before_of c)) (record c { pass = pass_now; out = out_now }) streams streams seen log read written (Over Memory) Nothing
      refused_no_memory out_now same streams given journal now =
          in_vain key_of tells call_of place (record c { pass = pass_now; out = out_now }) streams streams seen log read written (Over Memory) Nothing given now (with_message (before_of c))
          (none_moved key_of tells call_of place (with_message (before_of c)) (record c { pass = pass_now; out = out_now }) seen log read written (Over Memory) streams (steps_still (noted_of c.asked) (noted_of c.asked) refl) refl (
            idle,
            record {
              heard = read;
              unheard = [];
              cut = sym (append-nil read);
              ended = record {
                pass = kept;
                rest = Call request ∷ c.items.items;
                answers = subst (λ (l : List ℕ). HasAnswered key_of tells call_of log place pass_now.conn pass_now.member seen read written l (Call request ∷ c.items.items)) (sym same)
                    (kept_by key_of tells call_of place log c.pass.conn pass_now.conn c.pass.member pass_now.member seen read written c.out (Call request ∷ c.items.items) refused.same_conn refused.same_member had).answers;
                passes = passes;
              };
            },
          ))

      -- as it is after the refusal
      module _ (old : Connection T P E O) (same : old ≡ record c { pass = pass_now }) (out_now : List ℕ) (turned : Turned) (step : CallStep) (step_is : step ≡ Nothing) (streams : Streams) (given : List ℕ) (journal : List Entry) (now : ℕ) where
        abbrev Turns : Connection T P E O → Turned → CallStep → Type 0
        Turns new how did = HasTurned key_of tells call_of place given (given ++ now ∷ []) journal journal (with_message (before_of c)) new streams streams seen log read written how did

        told_so : (how : Turned) → turned ≡ how → Turns (record c { pass = pass_now; out = out_now }) how Nothing → Turns (record old { out = out_now }) turned step
        told_so how is turns = subst (λ (o : Connection T P E O). Turns (record o { out = out_now }) turned step) (sym same)
            (subst (λ (h : Turned). Turns (record c { pass = pass_now; out = out_now }) h step) (sym is)
            (subst (λ (s : CallStep). Turns (record c { pass = pass_now; out = out_now }) how s) (sym step_is) turns))

        pub refusal_told : (correlation : ℤ) → correlation ≡ request.correlation → out_now ≡ old.out ++ unstarted_bytes correlation why → turned ≡ Moved → Turns (record old { out = out_now }) turned step
        refusal_told correlation same_correlation behind is = told_so Moved is (has_refused (unstarted_bytes correlation why) out_now (ap (λ (k : ℤ). unstarted_bytes k why) same_correlation)
            (behind ∙ ap (λ (o : Connection T P E O). o.out ++ unstarted_bytes correlation why) same) streams given journal now)

        pub refusal_untold : out_now ≡ old.out → turned ≡ Over Memory → Turns (record old { out = out_now }) turned step
        refusal_untold unchanged is = told_so (Over Memory) is (refused_no_memory out_now (unchanged ∙ ap (λ (o : Connection T P E O). o.out) same) streams given journal now)
