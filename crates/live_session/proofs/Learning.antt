-- How a connection goes on among those of one loop.
use Rattle.std.proofs.Common.{◌≡◌, ◌⊎◌, inl, ⊎_elim, ℕ, ◌<◌, ◌≤◌, Bool, true, List, [], ◌∷◌, ◌++◌, length, Option, Some, None, slice_get, refl, sym, ap, ◌∙◌, subst, append_assoc, arith}
use Rattle.std.specs.Prelude.{option_and_then}
use Rattle.std.proofs.lemmas.Option.{slice_get_within}
use Rattle.grid_base.specs.declared.TheConstants.{PARTITIONS}
use Rattle.grid_base.specs.declared.names.CallId.{CallId}
use Rattle.grid_base.specs.declared.calls.Request.{Request}
use Rattle.hand_cell.specs.declared.names.Key.{Key}
use Rattle.hand_cell.specs.declared.outcome.LiveOutcome.{LiveOutcome}
use Rattle.hand_cell.specs.declared.outcome.LiveOutcome.TheVariants.{MemberGone as IsGone}
use Rattle.hand_cell.specs.Names.{has_number}
use Rattle.hand_cell.specs.Told.{Told}
use Rattle.loop_journal.specs.declared.entry.Entry.{Entry}
use Rattle.loop_journal.specs.declared.entry.NotedCall.{NotedCall}
use Rattle.message_frames.specs.Messages.{messages_of}
use Rattle.partition_threads.specs.declared.workplace.Workplace.{Workplace}
use Rattle.session_calls.specs.declared.session.SessionPass.{SessionPass}
use Rattle.session_calls.specs.Learning.{Begins, HasLearnedAt}
use Rattle.session_calls.specs.Sessions.{IsSessionOf, HasPassAt, pass_at}
use Rattle.session_calls.proofs.Places.{set_same}
use Rattle.session_core.specs.Items.{items_of}
use Rattle.session_core.specs.Laws.{request_in}
use Rattle.session_core.specs.Sessions.{session_after}
use Rattle.session_core.specs.declared.item.Item.{Item}
use Rattle.session_core.specs.declared.item.Item.TheVariants.{Call}
use Rattle.session_core.proofs.CallsAt.{placed_call}
use Rattle.live_session.specs.declared.connection.Asked.{Asked}
use Rattle.live_session.specs.declared.connection.Connection.{Connection}
use Rattle.live_session.specs.declared.connection.Going.{Going}
use Rattle.live_session.specs.declared.connection.Going.TheVariants.{Worker, Connection as Here, Lost}
use Rattle.live_session.specs.declared.step.CallStep.{CallStep}
use Rattle.live_session.specs.declared.turned.ConnectionEnd.{ConnectionEnd}
use Rattle.live_session.specs.declared.turned.ConnectionEnd.TheVariants.{Ended, Closed, ReadFault, WriteFault, MemberGone, Memory}
use Rattle.live_session.specs.declared.turned.Turned.{Turned}
use Rattle.live_session.specs.declared.turned.Turned.TheVariants.{Moved, NotYet, Ended as Over}
use Rattle.live_session.specs.Among.{StandsBehind}
use Rattle.live_session.specs.Connections.{AreBelow, StandsAt, HasSeen, HaveSeen, AllAnswer, AreCallsOf, AwaitsCall, RemainsBy, Remains, HasAnswered, IsServed, IsServedWith, IsServedTo, HasEnded}
use Rattle.live_session.specs.Going.{noted_by}
use Rattle.live_session.specs.Steps.{IsEnded}
use Rattle.live_session.specs.Turns.{Streams, Moves, Before, HasNoted, IsOver, StandsAfter, HasTurned}
use Rattle.live_session.proofs.Answering.{Grows, Kept, kept_by, kept_grown}
use Rattle.live_session.proofs.Numbers.{AreOnly, none_only, none_below, stood_all, stands_within, stands_front}
use Rattle.live_session.proofs.Passes.{seeing, seeing_there, seeing_each, seeing_whole, back_at}
use Rattle.live_session.proofs.Places.{get_seam, same_some, none_some}
use Rattle.live_session.specs.Next.{noted_of}
use Rattle.live_session.specs.Starts.{Log, after_turn}
use Rattle.live_session.specs.Times.{IsNotedWhole, IsInTime}

module _ {T P E O : Type 0} (key_of : E → Key) (tells : P → List E → E → LiveOutcome → Type 0) (call_of : ℕ → Request → ℕ → E) (log : Log) (place : Workplace T P E O)
    (c : Connection T P E O) (seen : ℕ → List E) (read written : List ℕ) (request : Request) (rest : List Item)
    (served : IsServedWith key_of tells call_of log place c None (Call request ∷ rest) seen read written) (cells : length place.cells.items ≡ PARTITIONS) where
  had : Kept key_of tells call_of place log c.pass.conn c.pass.member seen read written c.out (Call request ∷ rest)
  had = subst (λ (r : List Item). Kept key_of tells call_of place log c.pass.conn c.pass.member seen read written c.out r) served.remains.rest_is (record { answers = served.answers; below = served.remains.below })

  here : slice_get (items_of c.pass.conn c.pass.member (messages_of true read)) (length had.answers.answered) ≡ Some (Call request)
  here = ap (λ (l : List Item). slice_get l (length had.answers.answered)) had.answers.whole ∙ get_seam had.answers.answered (Call request) rest

  within : request.partition < length c.pass.passes.items
  within = subst (λ (n : ℕ). request.partition < n) (sym (served.pass.each ∙ cells)) (placed_call c.pass.conn c.pass.member (messages_of true read) (length had.answers.answered) request (ap (option_and_then request_in) here)).within

  at_place : HasSeen c.pass request.partition (seen request.partition)
  at_place = served.remains.passes request.partition within (λ none. none)

  -- the pass of the partition of the call that comes next is there
  pub pass_there : (pass : Told E) × (pass_at c.pass request.partition ≡ Some (Some pass))
  pass_there = (at_place.pass, at_place.there)

  module _ (known : List (Told E)) (pass_now : SessionPass T P E O) (kept : IsSessionOf place pass_now) (learned : HasLearnedAt key_of known c.pass pass_now request.partition) where
    was_is : learned.pass ≡ at_place.pass
    was_is = same_some learned.pass at_place.pass (same_some (Some learned.pass) (Some at_place.pass) (sym learned.there ∙ at_place.there))

    named : has_number learned.pass.names.numbers c.pass.conn ≡ true
    named = ap (λ (t : Told E). has_number t.names.numbers c.pass.conn) was_is ∙ at_place.named

    named_now : has_number learned.now.names.numbers c.pass.conn ≡ true
    named_now = ap (λ (t : Told E). has_number t.names.numbers c.pass.conn) learned.learned.pass_is ∙ named

    abbrev later : List E
    later = learned.learned.sees_more.0

    now_is : learned.now.seen ≡ seen request.partition ++ later
    now_is = learned.learned.sees_more.1 ∙ ap (λ (l : List E). l ++ later) (ap (λ (t : Told E). t.seen) was_is ∙ at_place.seen_is)

    abbrev pub sees_then : ℕ → List E
    sees_then = seeing seen request.partition learned.now.seen

    -- none of that is a call of its own
    none_of_own : (partition : ℕ) → AreBelow key_of c.pass.conn 0 (seeing (λ p. []) request.partition later partition)
    none_of_own = seeing_each (λ p. []) request.partition later (λ p l. AreBelow key_of c.pass.conn 0 l)
        (none_below key_of c.pass.conn 0 learned.pass.names later named learned.learned.sees_more.2) (λ p. tt)

    grown : Grows key_of tells call_of log log place c.pass.conn (length had.answers.answered) c.pass.member (items_of c.pass.conn c.pass.member (messages_of true read)) seen sees_then
    grown = record {
      by = seeing (λ p. []) request.partition later;
      whole = seeing_whole seen request.partition learned.now.seen later now_is;
      only = seeing_each (λ p. []) request.partition later (λ p l. AreOnly key_of c.pass.conn (length had.answers.answered) l)
          (none_only key_of c.pass.conn (length had.answers.answered) learned.pass.names later named learned.learned.sees_more.2) (λ p. tt);
      came = λ partition. inl (none_of_own partition);
    }

    none : (partition : ℕ) → AreBelow key_of c.pass.conn (length had.answers.answered) (seeing (λ p. []) request.partition later partition)
    none = seeing_each (λ p. []) request.partition later (λ p l. AreBelow key_of c.pass.conn (length had.answers.answered) l)
        (none_below key_of c.pass.conn (length had.answers.answered) learned.pass.names later named learned.learned.sees_more.2) (λ p. tt)

    pub more_then : (partition : ℕ) → Begins (seen partition) (sees_then partition)
    more_then partition = (seeing (λ p. []) request.partition later partition, seeing_whole seen request.partition learned.now.seen later now_is partition)

    -- so its calls stand where they stood
    pub own_then : (id : CallId) (partition at : ℕ) → id.conn ≡ c.pass.conn → StandsAt key_of id (sees_then partition) at → StandsAt key_of id (seen partition) at
    own_then id partition at mine is = stood_all key_of c.pass.conn id (seen partition) (seeing (λ p. []) request.partition later partition) at mine
        (none_of_own partition)
        (subst (λ (l : List E). StandsAt key_of id l at) (seeing_whole seen request.partition learned.now.seen later now_is partition) is)

    kept_then : Kept key_of tells call_of place log c.pass.conn c.pass.member sees_then read written c.out (Call request ∷ rest)
    unfolding grown
    kept_then = kept_grown key_of tells call_of place log c.pass.conn c.pass.member seen sees_then read written c.out (Call request ∷ rest) had grown none

    kept_now : Kept key_of tells call_of place log pass_now.conn pass_now.member sees_then read written c.out (Call request ∷ rest)
    kept_now = kept_by key_of tells call_of place log c.pass.conn pass_now.conn c.pass.member pass_now.member sees_then read written c.out (Call request ∷ rest) learned.back.same_conn learned.back.same_member kept_then

    -- its session learned of others, and it is served as before
    pub learned_with : IsServedWith key_of tells call_of log place (record c { pass = pass_now }) None (Call request ∷ rest) sees_then read written
    learned_with = record {
      pass = kept;
      session = served.session ∙ (ap (λ (n : ℕ). session_after n c.pass.member read) (sym learned.back.same_conn) ∙ ap (λ (n : ℕ). session_after pass_now.conn n read) (sym learned.back.same_member));
      rest = Call request ∷ rest;
      answers = kept_now.answers;
      remains = record {
        rest_is = refl;
        below = kept_now.below;
        passes = back_at c.pass pass_now request.partition (Some learned.pass) learned.now learned.back learned.there named_now seen (λ p inside other. served.remains.passes p inside (λ absent. absent));
      };
      noted = subst (λ (n : ℕ). IsNotedWhole n log.entries read written) (sym learned.back.same_conn) served.noted;
    }

    -- by what these passes have seen
    pub stands_then : StandsBehind known request.partition (sees_then request.partition)
    stands_then pass there =
        let same : learned.from ≡ pass = same_some learned.from pass (sym learned.from_is ∙ there) in
        (learned.learned.others, seeing_there seen request.partition learned.now.seen ∙ (learned.learned.knows ∙ ap (λ (t : Told E). t.seen ++ learned.learned.others) same))

-- A connection whose session taught others stands as before
module _ {T P E O : Type 0} (key_of : E → Key) (tells : P → List E → E → LiveOutcome → Type 0) (call_of : ℕ → Request → ℕ → E) (place : Workplace T P E O)
    (c : Connection T P E O) (pass_now : SessionPass T P E O) (kept : IsSessionOf place pass_now) (partition : ℕ) (pass : Told E) (there : pass_at c.pass partition ≡ Some (Some pass))
    (back : HasPassAt c.pass pass_now partition (Some pass)) where
  abbrev after : Connection T P E O
  after = record c { pass = pass_now }

  same_passes : pass_now.passes.items ≡ c.pass.passes.items
  same_passes = back.passes ∙ set_same c.pass.passes.items partition (Some pass) there

  have_seen : (sees : ℕ → List E) → HaveSeen c.pass (λ p. ⊥) sees → HaveSeen pass_now (λ p. ⊥) sees
  have_seen sees passes p inside none = let was = passes p (subst (λ (l : List (Option (Told E))). p < length l) same_passes inside) none in record {
    pass = was.pass;
    there = ap (λ (l : List (Option (Told E))). slice_get l p) same_passes ∙ was.there;
    seen_is = was.seen_is;
    named = ap (has_number was.pass.names.numbers) back.same_conn ∙ was.named;
  }

  -- what holds of the session's numbers holds of them still
  at_numbers : (holds : (conn member : ℕ) → Type 0) → holds c.pass.conn c.pass.member → holds pass_now.conn pass_now.member
  at_numbers holds held = subst (λ (n : ℕ). holds n pass_now.member) (sym back.same_conn) (subst (λ (m : ℕ). holds c.pass.conn m) (sym back.same_member) held)

  module _ (log : Log) (sees : ℕ → List E) where
    abbrev at_session : (read written left : List ℕ) (rest : List Item) → HasAnswered key_of tells call_of log place c.pass.conn c.pass.member sees read written left rest
        → HasAnswered key_of tells call_of log place pass_now.conn pass_now.member sees read written left rest
    at_session read written left rest has = record {
      answered = has.answered;
      whole = at_numbers (λ n m. items_of n m (messages_of true read) ≡ has.answered ++ rest) has.whole;
      replies = has.replies;
      each = at_numbers (λ n m. AllAnswer key_of tells call_of log place m sees has.answered has.replies) has.each;
      bytes = has.bytes;
      calls = λ partition. at_numbers (λ n m. AreCallsOf key_of tells call_of log place (items_of n m (messages_of true read)) n m partition (sees partition)) (has.calls partition);
      in_order = has.in_order;
      in_time = at_numbers (λ n m. IsInTime n m log.entries read has.replies) has.in_time;
    }

    still_below : (number : ℕ) → ((p : ℕ) → AreBelow key_of c.pass.conn number (sees p)) → (p : ℕ) → AreBelow key_of pass_now.conn number (sees p)
    still_below number below p = subst (λ (n : ℕ). AreBelow key_of n number (sees p)) (sym back.same_conn) (below p)

    still_gone : (request : Request) → IsServed key_of tells call_of log place c.pass.member request (sees request.partition) IsGone
        → IsServed key_of tells call_of log place pass_now.member request (sees request.partition) IsGone
    still_gone request gone = subst (λ (m : ℕ). IsServed key_of tells call_of log place m request (sees request.partition) IsGone) (sym back.same_member) gone

    still_by : (number : ℕ) (asked : Asked T P E O) (going : Going T P E O) (items rest : List Item) → noted_by going asked.call ≡ None → RemainsBy key_of tells call_of log place c.pass sees number asked going items rest
        → RemainsBy key_of tells call_of log place pass_now sees number asked going items rest
    still_by number asked (Worker started) items rest idle remains = absurd cc
    still_by number asked (Here begun) items rest idle remains = absurd cc
    still_by number asked Lost items rest idle remains =
        record { request = remains.request; rest_is = remains.rest_is; gone = still_gone remains.request remains.gone; passes = have_seen sees remains.passes }

    still_remains : (number : ℕ) (asked : Option (Asked T P E O)) (items rest : List Item) → noted_of asked ≡ None → Remains key_of tells call_of log place c.pass sees number asked items rest
        → Remains key_of tells call_of log place pass_now sees number asked items rest
    still_remains number None items rest idle remains = record { rest_is = remains.rest_is; below = still_below number remains.below; passes = have_seen sees remains.passes }
    still_remains number (Some asked) items rest idle remains = still_by number asked asked.going items rest idle remains

    still_with : (asked : Option (Asked T P E O)) (items : List Item) (read written : List ℕ) → noted_of asked ≡ None → IsServedWith key_of tells call_of log place c asked items sees read written
        → IsServedWith key_of tells call_of log place after asked items sees read written
    still_with asked items read written idle served = record {
      pass = kept;
      session = served.session ∙ (ap (λ (n : ℕ). session_after n c.pass.member read) (sym back.same_conn) ∙ ap (λ (n : ℕ). session_after pass_now.conn n read) (sym back.same_member));
      rest = served.rest;
      answers = at_session read written c.out served.rest served.answers;
      remains = still_remains (length served.answers.answered) asked items served.rest idle served.remains;
      noted = subst (λ (n : ℕ). IsNotedWhole n log.entries read written) (sym back.same_conn) served.noted;
    }

    abbrev still_ended : (heard written : List ℕ) → HasEnded key_of tells call_of log place c sees heard written → HasEnded key_of tells call_of log place after sees heard written
    still_ended heard written ended = record { pass = kept; rest = ended.rest; answers = at_session heard written c.out ended.rest ended.answers; passes = have_seen sees ended.passes }

    still_over : (end : ConnectionEnd) (broken : Bool) (read written : List ℕ) (first last : Streams) → IsOver key_of tells call_of place end broken log c sees read written first last
        → IsOver key_of tells call_of place end broken log after sees read written first last
    still_over Ended broken read written first last over = (record { ended = still_ended read written over.0.ended; none_left = over.0.none_left; all_answered = over.0.all_answered }, over.1)
    still_over (Closed fault) broken read written first last over = (record { ended = still_ended read written over.0.ended; none_left = over.0.none_left; all_answered = over.0.all_answered }, over.1)
    still_over ReadFault broken read written first last over = (still_ended read written over.0, over.1)
    still_over WriteFault broken read written first last over = (still_ended read written over.0, over.1)
    still_over MemberGone broken read written first last over = record {
      ended = still_ended read written over.ended;
      none_left = over.none_left;
      request = over.request;
      next = over.next;
      gone = still_gone over.request over.gone;
    }
    still_over Memory broken read written first last over = record { heard = over.heard; unheard = over.unheard; cut = over.cut; ended = still_ended over.heard written over.ended }

    pub still_stands : noted_of c.asked ≡ None → (turned : Turned) (step : CallStep) (was : Before T P E O) (read written : List ℕ) (moves : Moves) (first last : Streams)
        → StandsAfter key_of tells call_of place turned step log was c sees read written moves first last
        → StandsAfter key_of tells call_of place turned step log was after sees read written moves first last
    still_stands idle Moved step was read written moves first last stands = (still_with c.asked c.items.items read written idle stands.0, stands.1)
    still_stands idle NotYet step was read written moves first last stands = (still_with c.asked c.items.items read written idle stands.0, stands.1)
    still_stands idle (Over end) step was read written moves first last stands = (stands.0, still_over end was.broken read written first last stands.1)

module _ {T P E O : Type 0} (key_of : E → Key) (tells : P → List E → E → LiveOutcome → Type 0) (call_of : ℕ → Request → ℕ → E) (place : Workplace T P E O) where
  -- where no call is under way after a turn, all passes are there
  module _ (c : Connection T P E O) (idle : noted_of c.asked ≡ None) (log : Log) (sees : ℕ → List E) (read written : List ℕ) where
    pub record Rests : Type 0 where
      pub session : IsSessionOf place c.pass
      pub passes : HaveSeen c.pass (λ p. ⊥) sees

    rests_by : (number : ℕ) (asked : Asked T P E O) (going : Going T P E O) (items rest : List Item) → noted_by going asked.call ≡ None → RemainsBy key_of tells call_of log place c.pass sees number asked going items rest
        → HaveSeen c.pass (λ p. ⊥) sees
    rests_by number asked (Worker started) items rest none remains = absurd cc
    rests_by number asked (Here begun) items rest none remains = absurd cc
    rests_by number asked Lost items rest none remains = remains.passes

    rests_with : (number : ℕ) (asked : Option (Asked T P E O)) (items rest : List Item) → noted_of asked ≡ None → Remains key_of tells call_of log place c.pass sees number asked items rest → HaveSeen c.pass (λ p. ⊥) sees
    rests_with number None items rest none remains = remains.passes
    rests_with number (Some asked) items rest none remains = rests_by number asked asked.going items rest none remains

    rests_to : IsServedTo key_of tells call_of log place c sees read written → Rests
    rests_to served = record { session = served.pass; passes = rests_with (length served.answers.answered) c.asked c.items.items served.rest idle served.remains }

    rests_ended : (heard : List ℕ) → HasEnded key_of tells call_of log place c sees heard written → Rests
    rests_ended heard ended = record { session = ended.pass; passes = ended.passes }

    rests_over : (end : ConnectionEnd) (broken : Bool) (first last : Streams) → IsOver key_of tells call_of place end broken log c sees read written first last → Rests
    rests_over Ended broken first last over = rests_ended read over.0.ended
    rests_over (Closed fault) broken first last over = rests_ended read over.0.ended
    rests_over ReadFault broken first last over = rests_ended read over.0
    rests_over WriteFault broken first last over = rests_ended read over.0
    rests_over MemberGone broken first last over = rests_ended read over.ended
    rests_over Memory broken first last over = rests_ended over.heard over.ended

    pub rests : (turned : Turned) (step : CallStep) (was : Before T P E O) (moves : Moves) (first last : Streams) → StandsAfter key_of tells call_of place turned step log was c sees read written moves first last → Rests
    rests Moved step was moves first last stands = rests_to stands.0
    rests NotYet step was moves first last stands = rests_to stands.0
    rests (Over end) step was moves first last stands = rests_over end was.broken first last stands.1

  -- The partition of a call that is under way is one of the place
  module _ (session : SessionPass T P E O) (log : Log) (sees : ℕ → List E) (call : NotedCall) where
    within_call : (number : ℕ) (asked : Asked T P E O) (items rest : List Item) → ◌≡◌ {A = Option NotedCall} (Some asked.call) (Some call) → AwaitsCall key_of tells call_of log place session sees number asked items rest
        → call.partition < length session.passes.items
    within_call number asked items rest is awaits =
        let same : call.partition ≡ awaits.request.partition = ap (λ (n : NotedCall). n.partition) (sym (same_some asked.call call is)) ∙ awaits.is_asked.partition in
        subst (λ (n : ℕ). n < length session.passes.items) (sym same) (slice_get_within session.passes.items awaits.request.partition None awaits.is_asked.away)

    within_by : (number : ℕ) (asked : Asked T P E O) (going : Going T P E O) (items rest : List Item) → noted_by going asked.call ≡ Some call → RemainsBy key_of tells call_of log place session sees number asked going items rest
        → call.partition < length session.passes.items
    within_by number asked (Worker started) items rest is remains = within_call number asked items rest is remains
    within_by number asked (Here begun) items rest is remains = within_call number asked items rest is remains
    within_by number asked Lost items rest is remains = absurd (none_some call is)

    within_with : (number : ℕ) (asked : Option (Asked T P E O)) (items rest : List Item) → noted_of asked ≡ Some call → Remains key_of tells call_of log place session sees number asked items rest
        → call.partition < length session.passes.items
    within_with number None items rest is remains = absurd (none_some call is)
    within_with number (Some asked) items rest is remains = within_by number asked asked.going items rest is remains

  pub under_way_within : (c : Connection T P E O) (call : NotedCall) (log : Log) (sees : ℕ → List E) (read written : List ℕ) → noted_of c.asked ≡ Some call
      → IsServedTo key_of tells call_of log place c sees read written → call.partition < length place.cells.items
  under_way_within c call log sees read written is served =
      subst (λ (n : ℕ). call.partition < n) served.pass.each (within_with c.pass log sees call (length served.answers.answered) c.asked c.items.items served.rest is served.remains)

  -- a turn is one since less was seen, which had all calls of the connection's own
  module _ (given given_now : List ℕ) (journal journal_now : List Entry) (was : Before T P E O) (is : Connection T P E O) (before after : Streams) (less seen : ℕ → List E) (log : Log) (read written : List ℕ) (turned : Turned)
      (step : CallStep)
      (first : (partition : ℕ) → Begins (less partition) (seen partition))
      (own : (id : CallId) (partition at : ℕ) → id.conn ≡ is.pass.conn → StandsAt key_of id (seen partition) at → StandsAt key_of id (less partition) at)
      (turn : HasTurned key_of tells call_of place given given_now journal journal_now was is before after seen log read written turned step) where
    less_or_more : (n m : ℕ) → (n < m) ⊎ (m ≤ n)
    less_or_more n m = grind arith

    pub anew_since : (id : CallId) (partition at : ℕ) → id.conn ≡ is.pass.conn → StandsAt key_of id (turn.sees partition) at → ¬ (at < length (less partition)) → IsEnded step id partition
    anew_since id partition at mine stands past = ⊎_elim
        (λ (inside : at < length (seen partition)). let two = turn.more partition in
        absurd (past (stands_within key_of id (less partition) at (own id partition at mine
        (stands_front key_of id (seen partition) two.0 at inside (subst (λ (l : List E). StandsAt key_of id l at) two.1 stands))))))
        (λ (beyond : length (seen partition) ≤ at). turn.anew id partition at mine stands (λ (inside : at < length (seen partition)). omega (arith, inside, beyond)))
        (less_or_more at (length (seen partition)))

    unfoldable pub since_less : (pass_now : SessionPass T P E O) → pass_now.conn ≡ is.pass.conn
        → StandsAfter key_of tells call_of place turned step (after_turn log turn.started turn.entries) was (record is { pass = pass_now }) turn.sees (read ++ turn.moves.read) (written ++ turn.moves.written) turn.moves before after
        → HasTurned key_of tells call_of place given given_now journal journal_now was (record is { pass = pass_now }) before after less log read written turned step
    since_less pass_now same_conn stands = record {
      moves = turn.moves;
      moved = turn.moved;
      steps = turn.steps;
      breaks = turn.breaks;
      started = turn.started;
      asks = turn.asks;
      entries = turn.entries;
      more_entries = turn.more_entries;
      noted = subst (λ (n : ℕ). HasNoted n step turn.moves turn.entries) (sym same_conn) turn.noted;
      sees = turn.sees;
      more = λ partition. let one = first partition in let two = turn.more partition in
          (one.0 ++ two.0, two.1 ∙ ap (λ (l : List E). l ++ two.0) one.1 ∙ append_assoc (less partition) one.0 two.0);
      anew = λ id partition at mine is past. anew_since id partition at (mine ∙ same_conn) is past;
      stands = stands;
    }
