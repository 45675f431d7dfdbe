-- How a client goes on by a turn.
use Rattle.std.proofs.Common.{◌≡◌, ◌⊎◌, inl, inr, ℕ, ◌≤◌, Bool, true, false, List, [], ◌++◌, length, Option, Some, IsSome, slice_get, refl, sym, ap, ◌∙◌, subst, append_assoc, append-nil, arith}
use Rattle.std.proofs.lemmas.List.{map-append}
use Rattle.std.proofs.lemmas.List.Elements.{All-nil, All-append}
use Rattle.grid_base.specs.declared.calls.Request.{Request}
use Rattle.grid_edge.specs.Doors.{Arrival}
use Rattle.grid_edge.specs.Faults.{Rose}
use Rattle.grid_edge.specs.MemoryDoors.{Telling}
use Rattle.grid_edge.proofs.FaultCounts.{Rose_since, Rose_until}
use Rattle.grid_edge.proofs.Told.{more_taken}
use Rattle.hand_cell.specs.declared.names.Key.{Key}
use Rattle.hand_cell.specs.declared.outcome.LiveOutcome.{LiveOutcome}
use Rattle.hand_cell.specs.declared.outcome.LiveOutcome.TheVariants.{MemberGone as IsGone}
use Rattle.message_frames.specs.Messages.{messages_of, fault_of}
use Rattle.message_frames.proofs.Staying.{heard_messages_stay}
use Rattle.hand_cell.specs.Told.{Told}
use Rattle.loop_journal.specs.Journals.{conn_of, own_of, AreOf}
use Rattle.loop_journal.proofs.Owning.{own_more}
use Rattle.partition_threads.specs.declared.workplace.Workplace.{Workplace}
use Rattle.session_core.specs.Items.{items_of}
use Rattle.session_core.specs.declared.item.Item.{Item}
use Rattle.session_core.proofs.ItemLists.{items_go_on}
use Rattle.live_session.specs.declared.step.CallStep.{CallStep}
use Rattle.live_session.specs.declared.turned.ConnectionEnd.{ConnectionEnd}
use Rattle.live_session.specs.declared.turned.ConnectionEnd.TheVariants.{Ended, Closed, ReadFault, WriteFault, MemberGone, Memory}
use Rattle.live_session.specs.declared.turned.Turned.{Turned}
use Rattle.live_session.specs.declared.turned.Turned.TheVariants.{Moved, NotYet, Ended as Over}
use Rattle.live_session.specs.Connections.{AreCallsOf, HasAnswered, IsServed, IsServedTo, HasEnded as SessionEnded}
use Rattle.loop_journal.specs.declared.entry.Entry.{Entry}
use Rattle.live_session.specs.Among.{HasTurnedAmong}
use Rattle.live_session.specs.Next.{noted_of}
use Rattle.live_session.specs.Turns.{incoming, stream, before_of, HasBroken, HasTurned, StandsAfter, IsOver, IsAllWritten}
use Rattle.live_session.proofs.Calls.{calls_longer}
use Rattle.live_session.proofs.Timing.{noted_both, in_time_read}
use Rattle.live_server.specs.declared.client.Client.{Client}
use Rattle.live_server.specs.Order.{Mark, entries_of, StartIsMarked, KeepsMarks, AreMarks}
use Rattle.live_server.specs.Serving.{HaveMoved, IsComplete, IsCutShort, WasAnswered}
use Rattle.live_server.specs.declared.client.Progress.{Progress}
use Rattle.live_server.specs.declared.client.Progress.TheVariants.{Going, Ended as IsEnded}
use Rattle.live_server.specs.Clients.{is_memory, state_of, IsServedSince, HasEnded, IsProgress, HasGoneOn}
use Rattle.live_server.proofs.Marks.{learned_none, learned_both, still_marked}
use Rattle.live_server.proofs.Noting.{TurnMarks, turn_marks}
use Rattle.live_session.specs.Starts.{Log, after_turn, AreGiven}
use Rattle.live_session.specs.Times.{IsNotedWhole, IsInTime}
use Rattle.live_session.proofs.Given.{gives_more, asks_more, given_with}

is_some : {A : Type 0} (o : Option A) (x : A) → o ≡ Some x → IsSome o
is_some {A = A} o x e = subst (λ (p : Option A). IsSome p) (sym e) refl

module _ {T P E O : Type 0} (key_of : E → Key) (tells : P → List E → E → LiveOutcome → Type 0) (call_of : ℕ → Request → ℕ → E) (log : Log) (place : Workplace T P E O) where
  -- the answers to the messages of what was heard are the beginning of those to all that was read
  heard_of_read : (conn member : ℕ) (seen : ℕ → List E) (read heard unheard written left : List ℕ) (rest : List Item) → read ≡ heard ++ unheard
      → HasAnswered key_of tells call_of log place conn member seen heard written left rest → (all : List Item) × HasAnswered key_of tells call_of log place conn member seen read written left all
  heard_of_read conn member seen read heard unheard written left rest cut has =
      let later = heard_messages_stay true heard unheard in
      let more = items_go_on conn member (messages_of true heard) later.0 in (
        rest ++ more.0,
        record {
          answered = has.answered;
          whole = ap (λ (l : List ℕ). items_of conn member (messages_of true l)) cut ∙ (ap (items_of conn member) later.1 ∙ (more.1 ∙ (ap (λ (l : List Item). l ++ more.0) has.whole ∙ append_assoc has.answered rest more.0)));
          replies = has.replies;
          each = has.each;
          bytes = has.bytes;
          calls = λ partition. subst (λ (l : List Item). AreCallsOf key_of tells call_of log place l conn member partition (seen partition))
              (sym (ap (λ (l : List ℕ). items_of conn member (messages_of true l)) cut ∙ (ap (items_of conn member) later.1 ∙ more.1)))
              (calls_longer key_of tells call_of log place (items_of conn member (messages_of true heard)) more.0 conn member partition (seen partition) (has.calls partition));
          in_order = has.in_order;
          in_time = subst (λ (l : List ℕ). IsInTime conn member log.entries l has.replies) (sym cut) (in_time_read conn member log.entries heard has.replies unheard has.in_time);
        },
      )

  at_number : (conn conn_now member member_now : ℕ) → conn ≡ conn_now → member ≡ member_now → (seen : ℕ → List E) (read written left : List ℕ) (rest : List Item)
      → HasAnswered key_of tells call_of log place conn member seen read written left rest → HasAnswered key_of tells call_of log place conn_now member_now seen read written left rest
  at_number conn conn_now member member_now same_conn same_member seen read written left rest has =
      subst (λ (n : ℕ). HasAnswered key_of tells call_of log place n member_now seen read written left rest) same_conn
      (subst (λ (m : ℕ). HasAnswered key_of tells call_of log place conn m seen read written left rest) same_member has)

module _ {T P E O F K : Type 0} (key_of : E → Key) (tells : P → List E → E → LiveOutcome → Type 0) (call_of : ℕ → Request → ℕ → E) (place : Workplace T P E O) (given given_now : List ℕ) (journal journal_now : List Entry) (telling : Telling F K)
    (arrivals : List Arrival) (marks marks_now : List Mark) (old new : Client T F K P E O) (was_unready from_unready to_unready now_unready : ℕ) (turned : Turned) (step : CallStep) (served : IsServedSince key_of tells call_of place given telling arrivals marks old)
    (same_number : new.number ≡ old.number) (same_conn : new.connection.pass.conn ≡ old.connection.pass.conn) (same_member : new.connection.pass.member ≡ old.connection.pass.member)
    (read_faults : telling.read_faults old.from ≤ telling.read_faults new.from) (write_faults : telling.write_faults old.to ≤ telling.write_faults new.to)
    (turn : HasTurned key_of tells call_of place given given_now journal journal_now (before_of old.connection) new.connection
    (record { from = incoming (telling.given old.from) (telling.read_faults old.from) was_unready; to = stream (telling.taken old.to) (telling.write_faults old.to) to_unready })
    (record { from = incoming (telling.given new.from) (telling.read_faults new.from) from_unready; to = stream (telling.taken new.to) (telling.write_faults new.to) now_unready })
    served.seen served.log served.read served.written turned step)
    (by_journal : served.log.entries ++ turn.entries ≡ own_of new.number (entries_of marks_now))
    (marked : KeepsMarks key_of marks_now new.number turn.sees)
    (under_way : StartIsMarked marks_now turn.sees (noted_of new.connection.asked)) where
  conn_now : new.connection.pass.conn ≡ new.number
  conn_now = same_conn ∙ (served.conn ∙ sym same_number)

  member_now : new.connection.pass.member ≡ served.arrival.member
  member_now = same_member ∙ served.member

  came_now : slice_get arrivals new.number ≡ Some served.arrival
  came_now = ap (slice_get arrivals) same_number ∙ served.came

  moved_now : HaveMoved served.arrival.at (state_of telling new) (served.read ++ turn.moves.read) (served.written ++ turn.moves.written)
  moved_now = record {
    read_is = turn.moved.read ∙ ap (λ (l : List ℕ). l ++ turn.moves.read) served.moved.read_is ∙ append_assoc served.arrival.at.given.bytes served.read turn.moves.read;
    written_is = more_taken served.arrival.at.taken (telling.taken old.to) (telling.taken new.to) served.written turn.moves.written served.moved.written_is turn.moved.written;
    read_faults = let before : served.arrival.at.read_faults ≤ telling.read_faults old.from = served.moved.read_faults in omega (arith, before, read_faults);
    write_faults = let before : served.arrival.at.write_faults ≤ telling.write_faults old.to = served.moved.write_faults in omega (arith, before, write_faults);
  }

  by_clock_now : AreGiven (after_turn served.log turn.started turn.entries).starts given_now
  by_clock_now = given_with step given given_now turn.started served.log.starts turn.asks served.by_clock

  -- a write that failed was counted, before the turn or in it
  broke : (broken : Bool) → old.connection.broken ≡ broken → HasBroken broken (telling.write_faults old.to) (telling.write_faults new.to) → Rose served.arrival.at.write_faults (telling.write_faults new.to)
  broke true was has = Rose_until served.arrival.at.write_faults (telling.write_faults old.to) (telling.write_faults new.to) served.moved.write_faults (served.broken was) write_faults
  broke false was has = Rose_since served.arrival.at.write_faults (telling.write_faults old.to) (telling.write_faults new.to) served.moved.write_faults has

  -- all that was read and written by now
  noted_now : IsNotedWhole new.number (after_turn served.log turn.started turn.entries).entries (served.read ++ turn.moves.read) (served.written ++ turn.moves.written)
  noted_now = noted_both new.number served.log.entries turn.entries served.read served.written turn.moves.read turn.moves.written
      (subst (λ (n : ℕ). IsNotedWhole n served.log.entries served.read served.written) (served.conn ∙ sym same_number) served.served.noted)
      (subst (λ (n : ℕ). IsNotedWhole n turn.entries turn.moves.read turn.moves.written) conn_now turn.noted.whole)

  -- where it goes on, it is served as before
  pub still_served : IsServedTo key_of tells call_of (after_turn served.log turn.started turn.entries) place new.connection turn.sees (served.read ++ turn.moves.read) (served.written ++ turn.moves.written)
      → IsServedSince key_of tells call_of place given_now telling arrivals marks_now new
  still_served now = record {
    arrival = served.arrival;
    came = came_now;
    conn = conn_now;
    member = member_now;
    read = served.read ++ turn.moves.read;
    written = served.written ++ turn.moves.written;
    moved = moved_now;
    log = after_turn served.log turn.started turn.entries;
    by_clock = by_clock_now;
    by_journal = by_journal;
    seen = turn.sees;
    served = now;
    marked = marked;
    under_way = under_way;
    broken = λ broken. broke old.connection.broken refl (turn.breaks broken);
  }

  -- and else it has ended
  ended_with : (memory : Bool) (heard : List ℕ) (ended : SessionEnded key_of tells call_of (after_turn served.log turn.started turn.entries) place new.connection turn.sees heard (served.written ++ turn.moves.written))
      → WasAnswered key_of tells call_of place given_now (entries_of marks_now) new.number served.arrival.member served.arrival.at (state_of telling new) memory turn.sees
      → HasEnded key_of tells call_of place given_now telling arrivals marks_now new memory
  ended_with memory heard ended answered = record {
    arrival = served.arrival;
    came = came_now;
    conn = conn_now;
    of_place = ended.pass;
    seen = turn.sees;
    passes = ended.passes;
    answered = answered;
    marked = marked;
  }

  module _ (memory : Bool) (ended : SessionEnded key_of tells call_of (after_turn served.log turn.started turn.entries) place new.connection turn.sees (served.read ++ turn.moves.read) (served.written ++ turn.moves.written)) where
    answered_with : IsComplete (state_of telling new) (served.read ++ turn.moves.read) new.connection.out ended.rest
        ⊎ IsCutShort key_of tells call_of place served.arrival.member served.arrival.at (state_of telling new) memory (after_turn served.log turn.started turn.entries) turn.sees ended.rest
        → HasEnded key_of tells call_of place given_now telling arrivals marks_now new memory
    answered_with why = ended_with memory (served.read ++ turn.moves.read) ended (record {
      read = served.read ++ turn.moves.read;
      written = served.written ++ turn.moves.written;
      moved = moved_now;
      log = after_turn served.log turn.started turn.entries;
      by_clock = by_clock_now;
      by_journal = by_journal;
      noted = noted_now;
      left = new.connection.out;
      rest = ended.rest;
      answers = at_number key_of tells call_of (after_turn served.log turn.started turn.entries) place new.connection.pass.conn new.number new.connection.pass.member served.arrival.member conn_now member_now
          turn.sees (served.read ++ turn.moves.read) (served.written ++ turn.moves.written) new.connection.out ended.rest ended.answers;
      ended = why;
    })

  all_written : (memory : Bool) (all : IsAllWritten key_of tells call_of place (after_turn served.log turn.started turn.entries) new.connection turn.sees (served.read ++ turn.moves.read) (served.written ++ turn.moves.written))
      → ((telling.given new.from).ended ≡ true) ⊎ IsSome (fault_of true (served.read ++ turn.moves.read)) → HasEnded key_of tells call_of place given_now telling arrivals marks_now new memory
  all_written memory all why = answered_with memory all.ended (inl (record { none_left = all.none_left; all_answered = all.all_answered; no_more = why }))

  pub has_ended : (end : ConnectionEnd) → IsOver key_of tells call_of place end old.connection.broken (after_turn served.log turn.started turn.entries) new.connection turn.sees (served.read ++ turn.moves.read) (served.written ++ turn.moves.written)
      (record { from = incoming (telling.given old.from) (telling.read_faults old.from) was_unready; to = stream (telling.taken old.to) (telling.write_faults old.to) to_unready })
      (record { from = incoming (telling.given new.from) (telling.read_faults new.from) from_unready; to = stream (telling.taken new.to) (telling.write_faults new.to) now_unready })
      → HasEnded key_of tells call_of place given_now telling arrivals marks_now new (is_memory end)
  has_ended Ended over = all_written false over.0 (inl over.1)
  has_ended (Closed fault) over = all_written false over.0 (inr (is_some (fault_of true (served.read ++ turn.moves.read)) fault over.1))
  has_ended ReadFault over = answered_with false over.0 (inr (inr (inl (Rose_since served.arrival.at.read_faults (telling.read_faults old.from) (telling.read_faults new.from) served.moved.read_faults over.1))))
  has_ended WriteFault over = answered_with false over.0 (inr (inr (inr (inl (broke old.connection.broken refl over.1)))))
  has_ended MemberGone over = answered_with false over.ended (inr (inr (inr (inr (record {
    request = over.request;
    behind = over.next.0;
    next = over.next.1;
    gone = subst (λ (m : ℕ). IsServed key_of tells call_of (after_turn served.log turn.started turn.entries) place m over.request (turn.sees over.request.partition) IsGone) member_now over.gone;
  })))))
  has_ended Memory over =
      let all = heard_of_read key_of tells call_of (after_turn served.log turn.started turn.entries) place new.connection.pass.conn new.connection.pass.member turn.sees
      (served.read ++ turn.moves.read) over.heard over.unheard (served.written ++ turn.moves.written) new.connection.out over.ended.rest over.cut over.ended.answers in
      ended_with true over.heard over.ended (record {
        read = served.read ++ turn.moves.read;
        written = served.written ++ turn.moves.written;
        moved = moved_now;
        log = after_turn served.log turn.started turn.entries;
        by_clock = by_clock_now;
        by_journal = by_journal;
        noted = noted_now;
        left = new.connection.out;
        rest = all.0;
        answers = at_number key_of tells call_of (after_turn served.log turn.started turn.entries) place new.connection.pass.conn new.number new.connection.pass.member served.arrival.member conn_now member_now
            turn.sees (served.read ++ turn.moves.read) (served.written ++ turn.moves.written) new.connection.out all.0 all.1;
        ended = inr (inl refl);
      })

  -- what the turn came to
  stands_at : (is : Turned) → turned ≡ is → StandsAfter key_of tells call_of place is step (after_turn served.log turn.started turn.entries) (before_of old.connection) new.connection turn.sees (served.read ++ turn.moves.read) (served.written ++ turn.moves.written) turn.moves
      (record { from = incoming (telling.given old.from) (telling.read_faults old.from) was_unready; to = stream (telling.taken old.to) (telling.write_faults old.to) to_unready })
      (record { from = incoming (telling.given new.from) (telling.read_faults new.from) from_unready; to = stream (telling.taken new.to) (telling.write_faults new.to) now_unready })
  stands_at is e = subst (λ (t : Turned). StandsAfter key_of tells call_of place t step (after_turn served.log turn.started turn.entries) (before_of old.connection) new.connection turn.sees (served.read ++ turn.moves.read) (served.written ++ turn.moves.written) turn.moves
      (record { from = incoming (telling.given old.from) (telling.read_faults old.from) was_unready; to = stream (telling.taken old.to) (telling.write_faults old.to) to_unready })
      (record { from = incoming (telling.given new.from) (telling.read_faults new.from) from_unready; to = stream (telling.taken new.to) (telling.write_faults new.to) now_unready })) e turn.stands

  pub after_moved : turned ≡ Moved → IsServedSince key_of tells call_of place given_now telling arrivals marks_now new
  after_moved e = still_served (stands_at Moved e).0

  pub after_not_yet : turned ≡ NotYet → IsServedSince key_of tells call_of place given_now telling arrivals marks_now new
  after_not_yet e = still_served (stands_at NotYet e).0

  pub after_end : (end : ConnectionEnd) → turned ≡ Over end → HasEnded key_of tells call_of place given_now telling arrivals marks_now new (is_memory end)
  after_end end e = has_ended end (stands_at (Over end) e).1

module _ {T P E O F K : Type 0} (key_of : E → Key) (tells : P → List E → E → LiveOutcome → Type 0) (call_of : ℕ → Request → ℕ → E) (place : Workplace T P E O) (first_given : List ℕ) (telling : Telling F K)
    (arrivals : List Arrival) (marks : List Mark) where
  -- a client that had no turn yet
  pub gone_not : (client : Client T F K P E O) (known : List (Told E)) (journal : List Entry) → AreMarks key_of marks journal known → IsServedSince key_of tells call_of place first_given telling arrivals marks client
      → HasGoneOn key_of tells call_of place first_given first_given telling (Going 0) arrivals marks client known known journal
  gone_not client known journal are served = record {
    gave = ([], sym (append-nil first_given));
    more = [];
    own = All-nil (λ entry. conn_of entry ≡ client.number);
    are_marks = subst (λ (l : List Mark). AreMarks key_of l journal known) (sym (append-nil marks)) are;
    learned = learned_none key_of known;
    progress_is = still_marked key_of tells call_of place first_given telling arrivals marks [] client refl served;
  }

  -- how many turns moved says no more
  pub going_by : (given : List ℕ) (moves : ℕ) (client : Client T F K P E O) (known known_now : List (Told E)) (journal : List Entry)
      → HasGoneOn key_of tells call_of place first_given given telling (Going 0) arrivals marks client known known_now journal → HasGoneOn key_of tells call_of place first_given given telling (Going moves) arrivals marks client known known_now journal
  going_by given moves client known known_now journal gone = record { gave = gone.gave; more = gone.more; own = gone.own; are_marks = gone.are_marks; learned = gone.learned; progress_is = gone.progress_is }

  module _ (given given_now : List ℕ) (old new : Client T F K P E O) (was_unready from_unready to_unready now_unready : ℕ) (turned : Turned) (step : CallStep) (first known known_now : List (Told E)) (journal journal_now : List Entry)
      (gone : HasGoneOn key_of tells call_of place first_given given telling (Going 0) arrivals marks old first known journal)
      (same_number : new.number ≡ old.number) (same_conn : new.connection.pass.conn ≡ old.connection.pass.conn) (same_member : new.connection.pass.member ≡ old.connection.pass.member)
      (read_faults : telling.read_faults old.from ≤ telling.read_faults new.from) (write_faults : telling.write_faults old.to ≤ telling.write_faults new.to) (as_long : length known ≡ length place.cells.items)
      (among : HasTurnedAmong key_of tells call_of place given given_now journal journal_now (before_of old.connection) new.connection
      (record { from = incoming (telling.given old.from) (telling.read_faults old.from) was_unready; to = stream (telling.taken old.to) (telling.write_faults old.to) to_unready })
      (record { from = incoming (telling.given new.from) (telling.read_faults new.from) from_unready; to = stream (telling.taken new.to) (telling.write_faults new.to) now_unready })
      gone.progress_is.seen gone.progress_is.log gone.progress_is.read gone.progress_is.written turned step known known_now) where
    abbrev before : List Mark
    before = marks ++ gone.more

    conn_is : new.connection.pass.conn ≡ new.number
    conn_is = same_conn ∙ (gone.progress_is.conn ∙ sym same_number)

    keeps : KeepsMarks key_of before new.number gone.progress_is.seen
    keeps = subst (λ (n : ℕ). KeepsMarks key_of before n gone.progress_is.seen) (sym same_number) gone.progress_is.marked

    abbrev its : TurnMarks key_of tells call_of place given given_now (before_of old.connection) new.connection
        (record { from = incoming (telling.given old.from) (telling.read_faults old.from) was_unready; to = stream (telling.taken old.to) (telling.write_faults old.to) to_unready })
        (record { from = incoming (telling.given new.from) (telling.read_faults new.from) from_unready; to = stream (telling.taken new.to) (telling.write_faults new.to) now_unready })
        gone.progress_is.seen gone.progress_is.log gone.progress_is.read gone.progress_is.written turned step known known_now journal journal_now among as_long new.number conn_is before gone.are_marks keeps
    its = turn_marks key_of tells call_of place given given_now (before_of old.connection) new.connection
        (record { from = incoming (telling.given old.from) (telling.read_faults old.from) was_unready; to = stream (telling.taken old.to) (telling.write_faults old.to) to_unready })
        (record { from = incoming (telling.given new.from) (telling.read_faults new.from) from_unready; to = stream (telling.taken new.to) (telling.write_faults new.to) now_unready })
        gone.progress_is.seen gone.progress_is.log gone.progress_is.read gone.progress_is.written turned step known known_now journal journal_now among as_long new.number conn_is before gone.are_marks keeps
        gone.progress_is.under_way

    -- the journal has all that was done for the client
    by_journal_now : gone.progress_is.log.entries ++ among.turn.entries ≡ own_of new.number (entries_of (before ++ its.more))
    by_journal_now = sym (ap (own_of new.number) (map-append (λ (m : Mark). m.entry) before its.more ∙ ap (λ (es : List Entry). entries_of before ++ es) its.entries_are)
        ∙ (own_more new.number (entries_of before) among.turn.entries (subst (λ (n : ℕ). AreOf n among.turn.entries) conn_is among.turn.noted.own)
        ∙ ap (λ (es : List Entry). es ++ among.turn.entries) (ap (λ (n : ℕ). own_of n (entries_of before)) same_number ∙ sym gone.progress_is.by_journal)))

    gone_on : (progress : Progress) → IsProgress key_of tells call_of place given_now telling progress arrivals (before ++ its.more) new
        → HasGoneOn key_of tells call_of place first_given given_now telling progress arrivals marks new first known_now journal_now
    gone_on progress is = record {
      gave = gives_more first_given given given_now gone.gave (asks_more step given given_now among.turn.started among.turn.asks);
      more = gone.more ++ its.more;
      own = subst (AreOf new.number) (sym (map-append (λ (m : Mark). m.entry) gone.more its.more))
          (All-append (λ entry. conn_of entry ≡ new.number) (entries_of gone.more) (entries_of its.more) (subst (λ (n : ℕ). AreOf n (entries_of gone.more)) (sym same_number) gone.own)
          (subst (AreOf new.number) (sym its.entries_are) (subst (λ (n : ℕ). AreOf n among.turn.entries) conn_is among.turn.noted.own)));
      are_marks = subst (λ (l : List Mark). AreMarks key_of l journal_now known_now) (append_assoc marks gone.more its.more) its.are_marks;
      learned = learned_both key_of first known known_now gone.learned its.learned;
      progress_is = subst (λ (l : List Mark). IsProgress key_of tells call_of place given_now telling progress arrivals l new) (append_assoc marks gone.more its.more) is;
    }

    pub then_moved : turned ≡ Moved → HasGoneOn key_of tells call_of place first_given given_now telling (Going 0) arrivals marks new first known_now journal_now
    then_moved e = gone_on (Going 0) (after_moved key_of tells call_of place given given_now journal journal_now telling arrivals before (before ++ its.more) old new was_unready from_unready to_unready now_unready turned step gone.progress_is
        same_number same_conn same_member read_faults write_faults among.turn by_journal_now its.marked its.under_way e)

    pub then_not_yet : (moves : ℕ) → turned ≡ NotYet → HasGoneOn key_of tells call_of place first_given given_now telling (Going moves) arrivals marks new first known_now journal_now
    then_not_yet moves e = gone_on (Going moves) (after_not_yet key_of tells call_of place given given_now journal journal_now telling arrivals before (before ++ its.more) old new was_unready from_unready to_unready now_unready turned step gone.progress_is
        same_number same_conn same_member read_faults write_faults among.turn by_journal_now its.marked its.under_way e)

    pub then_end : (end : ConnectionEnd) → turned ≡ Over end → HasGoneOn key_of tells call_of place first_given given_now telling (IsEnded (is_memory end)) arrivals marks new first known_now journal_now
    then_end end e = gone_on (IsEnded (is_memory end)) (after_end key_of tells call_of place given given_now journal journal_now telling arrivals before (before ++ its.more) old new was_unready from_unready to_unready now_unready turned step gone.progress_is
        same_number same_conn same_member read_faults write_faults among.turn by_journal_now its.marked its.under_way end e)
