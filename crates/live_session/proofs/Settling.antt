-- What a turn among connections of one loop comes to.
use Rattle.std.proofs.Common.{◌≡◌, ℕ, ◌+◌, ◌<◌, List, [], ◌∷◌, ◌++◌, length, All, Option, Some, None, refl, sym, ap, ◌∙◌, subst, append_assoc, length-append, arith}
use Rattle.std.proofs.lemmas.List.Elements.{All-head}
use Rattle.grid_base.specs.declared.TheConstants.{PARTITIONS}
use Rattle.grid_base.specs.declared.names.CallId.{CallId}
use Rattle.grid_base.specs.declared.calls.Request.{Request}
use Rattle.hand_cell.specs.declared.names.Key.{Key}
use Rattle.hand_cell.specs.declared.outcome.LiveOutcome.{LiveOutcome}
use Rattle.hand_cell.specs.Told.{Told, having_seen}
use Rattle.loop_journal.specs.declared.entry.Entry.{Entry}
use Rattle.loop_journal.specs.declared.entry.Entry.TheVariants.{Started, Finished}
use Rattle.loop_journal.specs.declared.entry.NotedCall.{NotedCall}
use Rattle.loop_journal.specs.Journals.{conn_of}
use Rattle.partition_threads.specs.declared.workplace.Workplace.{Workplace}
use Rattle.session_calls.specs.declared.session.SessionPass.{SessionPass}
use Rattle.session_calls.specs.Learning.{Begins}
use Rattle.session_calls.specs.Sessions.{IsSessionOf}
use Rattle.live_session.specs.declared.connection.Connection.{Connection}
use Rattle.live_session.specs.declared.step.CallStep.{CallStep}
use Rattle.live_session.specs.declared.step.CallStep.TheVariants.{Nothing, Begun, Ended, Made}
use Rattle.live_session.specs.declared.turned.Turned.{Turned}
use Rattle.live_session.specs.Among.{StandsBehind, KnowsMore, IsMadeBehind, KeepsKnown, MaySettle, MaySettleAt, HasSettled, HasSettledAt, HasTurnedAmong}
use Rattle.live_session.specs.Connections.{StandsAt, HasSeen, IsServedTo}
use Rattle.live_session.specs.Next.{IsNext, noted_of}
use Rattle.live_session.specs.Steps.{StepsTo, IfStarts, HasNotedCalls}
use Rattle.live_session.specs.Turns.{Streams, HasTurned, before_of}
use Rattle.live_session.proofs.Learning.{still_stands, rests, under_way_within, since_less}
use Rattle.live_session.proofs.Numbers.{stands_within, stands_front}
use Rattle.live_session.proofs.Places.{same_some}
use Rattle.live_session.proofs.Preparing.{next_within}
use Rattle.live_session.specs.Starts.{Log, after_turn}

-- a call that ended was under way, and none is
steps_ended : (was is : Option NotedCall) (call : NotedCall) → StepsTo was is (Ended call) → (was ≡ Some call) × (is ≡ None)
steps_ended None None call steps = absurd steps
steps_ended None (Some is) call steps = absurd steps
steps_ended (Some was) None call steps = (ap (λ (c : NotedCall). Some c) (sym steps), refl)
steps_ended (Some was) (Some is) call steps = absurd steps

-- none is under way where one was made
steps_made : (was is : Option NotedCall) (call : NotedCall) → StepsTo was is (Made call) → is ≡ None
steps_made None None call steps = refl
steps_made None (Some is) call steps = absurd steps
steps_made (Some was) None call steps = absurd steps
steps_made (Some was) (Some is) call steps = absurd steps

module _ {T P E O : Type 0} (key_of : E → Key) (tells : P → List E → E → LiveOutcome → Type 0) (call_of : ℕ → Request → ℕ → E) (place : Workplace T P E O)
    (was is : Connection T P E O) (given given_now : List ℕ) (journal journal_now : List Entry) (before after : Streams) (seen : ℕ → List E) (log : Log) (read written : List ℕ) (turned : Turned) (step : CallStep)
    (served : IsServedTo key_of tells call_of log place was seen read written)
    (turn : HasTurned key_of tells call_of place given given_now journal journal_now (before_of was) is before after seen log read written turned step)
    (cells : length place.cells.items ≡ PARTITIONS) (starts : IfStarts (λ call. IsNext was call.partition) step) where
  -- the pass of a call that came to its outcome is back
  back_there : (call : NotedCall) → noted_of is.asked ≡ None → call.partition < length place.cells.items → IsSessionOf place is.pass × HasSeen is.pass call.partition (turn.sees call.partition)
  back_there call idle within =
      let rest = rests key_of tells call_of place is idle (after_turn log turn.started turn.entries) turn.sees (read ++ turn.moves.read) (written ++ turn.moves.written) turned step (before_of was) turn.moves before after turn.stands in
      (rest.session, rest.passes call.partition (subst (λ (n : ℕ). call.partition < n) (sym rest.session.each) within) (λ none. none))

  -- its partition is one of the place
  ended_within : (call : NotedCall) → StepsTo (noted_of was.asked) (noted_of is.asked) (Ended call) → call.partition < length place.cells.items
  ended_within call steps = under_way_within key_of tells call_of place was call log seen read written (steps_ended (noted_of was.asked) (noted_of is.asked) call steps).0 served

  made_within : (call : NotedCall) → IsNext was call.partition → call.partition < length place.cells.items
  made_within call next = subst (λ (n : ℕ). n < length place.cells.items) next.partition_is
      (next_within key_of tells call_of place was seen log read written served next.idle next.request next.behind next.first cells)

  settles_at : (call : NotedCall) → noted_of is.asked ≡ None → call.partition < length place.cells.items → MaySettleAt place is call
  settles_at call idle within = let there = back_there call idle within in record { session = there.0; pass = there.1.pass; there = there.1.there }

  settles : (did : CallStep) → StepsTo (noted_of was.asked) (noted_of is.asked) did → IfStarts (λ call. IsNext was call.partition) did → MaySettle place did is
  settles Nothing steps first = tt
  settles (Begun call) steps first = tt
  settles (Ended call) steps first = settles_at call (steps_ended (noted_of was.asked) (noted_of is.asked) call steps).1 (ended_within call steps)
  settles (Made call) steps first = settles_at call (steps_made (noted_of was.asked) (noted_of is.asked) call steps) (made_within call first)

  pub may_settle : MaySettle place step is
  may_settle = settles step turn.steps starts

  module _ (new : Connection T P E O) (less : ℕ → List E) (more : (partition : ℕ) → Begins (less partition) (seen partition))
      (own : (id : CallId) (partition at : ℕ) → id.conn ≡ is.pass.conn → StandsAt key_of id (seen partition) at → StandsAt key_of id (less partition) at) (known known_now : List (Told E))
      (same : new ≡ record is { pass = new.pass })
      (behind : IfStarts (λ call. StandsBehind known call.partition (seen call.partition)) step) (settled : HasSettled key_of place step is new known known_now) where
    abbrev Among : Connection T P E O → Type 0
    Among connection = HasTurnedAmong key_of tells call_of place given given_now journal journal_now (before_of was) connection before after less log read written turned step known known_now

    -- what these passes know after a step
    abbrev Keeps : CallStep → Type 0
    Keeps did = KeepsKnown key_of did less turn.sees known known_now

    -- nothing was taught
    plainly : new.pass ≡ is.pass → Keeps step → Among new
    unfolding since_less
    plainly untaught keeps = subst Among (sym (same ∙ ap (λ (p : SessionPass T P E O). record is { pass = p }) untaught)) (record {
      turn = since_less key_of tells call_of place given given_now journal journal_now (before_of was) is before after less seen log read written turned step more own turn is.pass refl turn.stands;
      keeps = keeps;
    })

    module _ (call : NotedCall) where
      -- what they had seen begins what is seen
      begins : StandsBehind known call.partition (seen call.partition) → StandsBehind known call.partition (turn.sees call.partition)
      begins first pass there =
          let one = first pass there in
          let two = turn.more call.partition in
          (one.0 ++ two.0, two.1 ∙ ap (λ (l : List E). l ++ two.0) one.1 ∙ append_assoc pass.seen one.0 two.0)

      -- the event that is seen anew is behind it
      made_behind : call.id.conn ≡ is.pass.conn → StandsBehind known call.partition (seen call.partition) → IsMadeBehind key_of call (less call.partition) (turn.sees call.partition) known
      made_behind mine first = record {
        begins = begins first;
        behind = λ pass there at stands anew inside.
            let one = first pass there in
            let two = turn.more call.partition in
            let longer : length (seen call.partition) ≡ length pass.seen + length one.0 = ap (λ (l : List E). length l) one.1 ∙ length-append pass.seen one.0 in
            anew (stands_within key_of call.id (less call.partition) at (own call.id call.partition at mine
            (stands_front key_of call.id (seen call.partition) two.0 at (omega (arith, inside, longer)) (subst (λ (l : List E). StandsAt key_of call.id l at) two.1 stands))));
      }

      -- these passes were taught
      taught : noted_of is.asked ≡ None → call.partition < length place.cells.items → HasSettledAt key_of place call is new known known_now
          → (KnowsMore key_of call.partition (turn.sees call.partition) known known_now → Keeps step) → Among new
      unfolding since_less
      taught idle within at keeps =
          let there = back_there call idle within in
          let had = at.taught in
          let its : had.pass ≡ there.1.pass = same_some had.pass there.1.pass (same_some (Some had.pass) (Some there.1.pass) (sym had.there ∙ there.1.there)) in
          subst Among (sym same) (record {
            turn = since_less key_of tells call_of place given given_now journal journal_now (before_of was) is before after less seen log read written turned step more own turn new.pass had.back.same_conn
                (still_stands key_of tells call_of place is new.pass at.session call.partition had.pass had.there had.back
                (after_turn log turn.started turn.entries) turn.sees idle turned step (before_of was) (read ++ turn.moves.read) (written ++ turn.moves.written) turn.moves before after turn.stands);
            keeps = keeps (record {
              was = had.was;
              there = had.was_is;
              taught = had.taught;
              same = had.learned.pass_is ∙ ap (having_seen had.was) (sym (ap (λ (t : Told E). t.seen) had.learned.pass_is));
              more = had.learned.sees_more;
              knows = (had.learned.others, had.learned.knows ∙ ap (λ (l : List E). l ++ had.learned.others) (ap (λ (t : Told E). t.seen) its ∙ there.1.seen_is));
              written = had.written;
            });
          })

      -- a call that was noted is the connection's own
      noted_own : HasNotedCalls (Made call) turn.entries → call.id.conn ≡ is.pass.conn
      noted_own entries_are = All-head (λ (entry : Entry). conn_of entry ≡ is.pass.conn) (Started call) (Finished call ∷ [])
          (subst (λ (l : List Entry). All (λ (entry : Entry). conn_of entry ≡ is.pass.conn) l) entries_are turn.noted.own)

    by_step : (did : CallStep) → did ≡ step → StepsTo (noted_of was.asked) (noted_of is.asked) did → IfStarts (λ call. IsNext was call.partition) did
        → IfStarts (λ call. StandsBehind known call.partition (seen call.partition)) did → HasSettled key_of place did is new known known_now → Among new
    by_step Nothing is_so steps next first done = plainly done.0 (subst Keeps is_so done.1)
    by_step (Begun call) is_so steps next first done = plainly done.0 (subst Keeps is_so (done.1, begins call first))
    by_step (Ended call) is_so steps next first done =
        taught call (steps_ended (noted_of was.asked) (noted_of is.asked) call steps).1 (ended_within call steps) done (λ knows. subst Keeps is_so knows)
    by_step (Made call) is_so steps next first done =
        let own_call = noted_own call (subst (λ (did : CallStep). HasNotedCalls did turn.entries) (sym is_so) turn.noted.calls) in
        taught call (steps_made (noted_of was.asked) (noted_of is.asked) call steps) (made_within call next) done (λ knows. subst Keeps is_so (made_behind call own_call first, knows))

    pub turned_among : Among new
    turned_among = by_step step refl turn.steps starts behind settled
