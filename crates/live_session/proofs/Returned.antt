-- What a connection comes to whose call has its outcome.
use Rattle.std.proofs.Common.{◌≡◌, ℕ, ℤ, inr, inl, true, List, [], ◌∷◌, ◌++◌, length, Option, Some, None, slice_get, refl, sym, ap, ◌∙◌, subst, append-nil, ◌<◌, ⊎_elim}
use Rattle.grid_base.specs.declared.names.CallId.{CallId}
use Rattle.grid_base.specs.declared.calls.Request.{Request}
use Rattle.hand_cell.specs.declared.names.Key.{Key}
use Rattle.hand_cell.specs.declared.outcome.LiveOutcome.{LiveOutcome}
use Rattle.hand_cell.specs.declared.outcome.LiveOutcome.TheVariants.{Replied, PartitionLost, WrongTarget, Migrating, Exhausted, MemberGone as IsGone, Memory as NoMemory}
use Rattle.hand_cell.specs.Names.{has_number}
use Rattle.hand_cell.specs.Told.{Told}
use Rattle.job_queues.specs.Terms.{Terms}
use Rattle.loop_journal.specs.declared.entry.Entry.{Entry}
use Rattle.loop_journal.specs.declared.entry.NotedCall.{NotedCall}
use Rattle.message_frames.specs.Messages.{messages_of}
use Rattle.partition_threads.specs.declared.workplace.Workplace.{Workplace}
use Rattle.session_calls.specs.declared.session.SessionPass.{SessionPass}
use Rattle.session_calls.specs.Calls.{HasReturned}
use Rattle.session_calls.specs.Sessions.{IsSessionOf, pass_at}
use Rattle.session_core.specs.Items.{items_of}
use Rattle.session_core.specs.Sessions.{session_after}
use Rattle.session_core.specs.declared.item.Item.{Item}
use Rattle.session_core.specs.declared.item.Item.TheVariants.{Call}
use Rattle.live_session.specs.declared.connection.Asked.{Asked}
use Rattle.live_session.specs.declared.connection.Connection.{Connection}
use Rattle.live_session.specs.declared.connection.Going.TheVariants.{Lost}
use Rattle.live_session.specs.declared.step.CallStep.{CallStep}
use Rattle.live_session.specs.declared.turned.ConnectionEnd.TheVariants as end
use Rattle.live_session.specs.declared.turned.Turned.{Turned}
use Rattle.live_session.specs.declared.turned.Turned.TheVariants.{Moved, NotYet, Ended as Over}
use Rattle.live_session.specs.Asking.{told_of, IsTold}
use Rattle.live_session.specs.Replies.{told_bytes}
use Rattle.live_session.specs.Connections.{StandsAt, HaveSeen, HasAnswered, IsServed, IsServedWith, IsServedTo, HasEnded}
use Rattle.live_session.specs.Next.{noted_of}
use Rattle.live_session.specs.Starts.{Start, Log, after_turn, AsksClock}
use Rattle.live_session.specs.Steps.{StepsTo, EndsOne, IsEnded}
use Rattle.live_session.specs.Times.{IsNotedWhole}
use Rattle.live_session.specs.Turns.{Streams, Before, HasNoted, StandsAfter, HasTurned}
use Rattle.live_session.proofs.Answering.{next_number, same_answered, Grows, Kept, kept_by, kept_more}
use Rattle.live_session.proofs.Passes.{seeing, back_at, seeing_other, same_or_other}
use Rattle.live_session.proofs.Places.{get_seam}
use Rattle.live_session.proofs.Ending.{IsOn, grows, gone, answers_call}
use Rattle.live_session.proofs.Numbers.{AreOnly, stands_within, newly, same_id}
use Rattle.live_session.proofs.Turning.{unmoved, breaks_still}

-- nothing tells of a member that is gone, and of nothing else
gone_by : (correlation : ℤ) (outcome : LiveOutcome) → told_bytes correlation outcome ≡ None → outcome ≡ IsGone
gone_by correlation (Replied reply) none = absurd cc
gone_by correlation (PartitionLost version) none = absurd cc
gone_by correlation (WrongTarget version) none = absurd cc
gone_by correlation (Migrating version) none = absurd cc
gone_by correlation Exhausted none = absurd cc
gone_by correlation NoMemory none = absurd cc
gone_by correlation IsGone none = refl

module _ {T P E O : Type 0} (key_of : E → Key) (tells : P → List E → E → LiveOutcome → Type 0) (call_of : ℕ → Request → ℕ → E) (log : Log) (place : Workplace T P E O)
    (c : Connection T P E O) (request : Request) (terms : Terms P E) (seen : ℕ → List E) (read written : List ℕ) (pass_now : SessionPass T P E O) (outcome : LiveOutcome) where
  -- The connection's call of this request, which comes next, has come to its outcome, and its pass is back
  pub record Returns : Type 0 where
    pub had : Kept key_of tells call_of place log c.pass.conn c.pass.member seen read written c.out (Call request ∷ c.items.items)
    pub on : IsOn key_of tells call_of log place c.pass seen terms request
    pub session : c.session ≡ session_after c.pass.conn c.pass.member read
    pub noted : IsNotedWhole c.pass.conn log.entries read written
    pub was : Option (Told E)
    pub there : pass_at c.pass request.partition ≡ Some was
    pub others : HaveSeen c.pass (λ partition. partition ≡ request.partition) seen
    pub kept : IsSessionOf place pass_now
    pub returned : HasReturned key_of tells terms request.id request.partition c.pass pass_now outcome

  module _ (r : Returns) where
    abbrev pub sees : ℕ → List E
    sees = seeing seen request.partition r.returned.pass.seen

    id_is : request.id ≡ record { conn = c.pass.conn; number = length r.had.answers.answered }
    id_is = next_number key_of tells call_of log log place c.pass.conn c.pass.member seen sees read written c.out (Call request) c.items.items r.had.answers request refl

    message : slice_get (items_of c.pass.conn c.pass.member (messages_of true read)) (length r.had.answers.answered) ≡ Some (Call request)
    message = ap (λ (l : List Item). slice_get l (length r.had.answers.answered)) r.had.answers.whole ∙ get_seam r.had.answers.answered (Call request) c.items.items

    grown : Grows key_of tells call_of log log place c.pass.conn (length r.had.answers.answered) c.pass.member (items_of c.pass.conn c.pass.member (messages_of true read)) seen sees
    grown = grows key_of tells call_of log place c.pass seen terms request r.on r.returned.pass outcome r.returned.called (length r.had.answers.answered) id_is
        (items_of c.pass.conn c.pass.member (messages_of true read)) message r.had.below

    pub more : (partition : ℕ) → (later : List E) × (sees partition ≡ seen partition ++ later)
    more partition = (grown.by partition, grown.whole partition)

    -- of its own calls the connection sees anew this one
    own : (id : CallId) (partition at : ℕ) → id.conn ≡ c.pass.conn → StandsAt key_of id (sees partition) at → ¬ (at < length (seen partition))
        → (request.id ≡ id) × (request.partition ≡ partition)
    own id partition at mine is past = (id_is ∙ sym (same_id id c.pass.conn (length r.had.answers.answered) mine numbered), same)
      where
        at_once : (number : ℕ) (events : List E) → AreOnly key_of c.pass.conn number events → StandsAt key_of id (seen partition ++ events) at → id.number ≡ number
        at_once number events only stands = newly key_of c.pass.conn number id (seen partition) events at mine past only stands

        numbered : id.number ≡ length r.had.answers.answered
        numbered = at_once (length r.had.answers.answered) (grown.by partition) (grown.only partition) (subst (λ (l : List E). StandsAt key_of id l at) (grown.whole partition) is)

        same : request.partition ≡ partition
        same = ⊎_elim (λ (e : partition ≡ request.partition). sym e)
            (λ (other : ¬ (partition ≡ request.partition)). absurd (past (stands_within key_of id (seen partition) at (subst (λ (l : List E). StandsAt key_of id l at) (seeing_other seen request.partition r.returned.pass.seen partition other) is))))
            (same_or_other partition request.partition)

    same_conn : pass_now.conn ≡ c.pass.conn
    same_conn = r.returned.back.same_conn

    same_member : pass_now.member ≡ c.pass.member
    same_member = r.returned.back.same_member

    passes : HaveSeen pass_now (λ partition. ⊥) sees
    passes = back_at c.pass pass_now request.partition r.was r.returned.pass r.returned.back r.there
        (ap (λ names. has_number names.numbers c.pass.conn) r.returned.called.same_names ∙ r.on.named) seen r.others

    session_now : c.session ≡ session_after pass_now.conn pass_now.member read
    session_now = r.session ∙ (ap (λ (n : ℕ). session_after n c.pass.member read) (sym same_conn) ∙ ap (λ (n : ℕ). session_after pass_now.conn n read) (sym same_member))

    noted_now : IsNotedWhole pass_now.conn log.entries read written
    noted_now = subst (λ (n : ℕ). IsNotedWhole n log.entries read written) (sym same_conn) r.noted

    -- what tells of it was put behind what was left
    told_with : (told : List ℕ) → told_bytes request.correlation outcome ≡ Some told
        → IsServedWith key_of tells call_of log place (record c { pass = pass_now; out = c.out ++ told }) None c.items.items sees read written
    told_with told tells_it = record {
      pass = r.kept;
      session = session_now;
      rest = c.items.items;
      answers = kept_now.answers;
      remains = record { rest_is = refl; passes = passes; below = kept_now.below };
      noted = noted_now;
    }
      where
        kept_now : Kept key_of tells call_of place log pass_now.conn pass_now.member sees read written (c.out ++ told) c.items.items
        kept_now = kept_by key_of tells call_of place log c.pass.conn pass_now.conn c.pass.member pass_now.member sees read written (c.out ++ told) c.items.items same_conn same_member
            (kept_more key_of tells call_of place log c.pass.conn c.pass.member seen sees read written c.out (Call request) c.items.items r.had grown told (c.out ++ told) refl
            (answers_call key_of tells call_of log place c.pass seen terms request r.on r.returned.pass outcome r.returned.called told tells_it))

    -- what was answered before stays so
    answers_now : HasAnswered key_of tells call_of log place pass_now.conn pass_now.member sees read written c.out (Call request ∷ c.items.items)
    answers_now = subst (λ (n : ℕ). HasAnswered key_of tells call_of log place n pass_now.member sees read written c.out (Call request ∷ c.items.items)) (sym same_conn)
        (subst (λ (n : ℕ). HasAnswered key_of tells call_of log place c.pass.conn n sees read written c.out (Call request ∷ c.items.items)) (sym same_member)
        (same_answered key_of tells call_of log log place (λ now there. there) c.pass.conn c.pass.member seen sees read written c.out (Call request ∷ c.items.items) r.had.answers r.had.answers.in_time grown))

    -- or there is none
    lost_with : (call : NotedCall) (correlation : ℤ) → outcome ≡ IsGone
        → IsServedTo key_of tells call_of log place (record c { pass = pass_now; asked = Some (record { call = call; going = Lost; correlation = correlation }) }) sees read written
    lost_with call correlation is = record {
      pass = r.kept;
      session = session_now;
      rest = Call request ∷ c.items.items;
      answers = answers_now;
      remains = record {
        request = request;
        rest_is = refl;
        gone = subst (λ (n : ℕ). IsServed key_of tells call_of log place n request (sees request.partition) IsGone) (sym same_member)
            (gone key_of tells call_of log place c.pass seen terms request r.on r.returned.pass outcome r.returned.called is);
        passes = passes;
      };
      noted = noted_now;
    }

    ended : HasEnded key_of tells call_of log place (record c { pass = pass_now }) sees read written
    ended = record { pass = r.kept; rest = Call request ∷ c.items.items; answers = answers_now; passes = passes }

    module _ (idle : c.asked ≡ None) (call : NotedCall) (correlation : ℤ) (same_correlation : correlation ≡ request.correlation) (was : Before T P E O) (step : CallStep) (ends : EndsOne (λ _. Unit {0}) step) (streams : Streams) where
      abbrev old : Connection T P E O
      old = record c { pass = pass_now }

      abbrev stands_by : Turned → Connection T P E O → Type 0
      stands_by turned new = StandsAfter key_of tells call_of place turned step log was new sees read written unmoved streams streams

      told_stands : (bytes : Option (List ℕ)) → told_bytes correlation outcome ≡ bytes → stands_by Moved (told_of call correlation bytes old)
      told_stands (Some told) is = (
        subst (λ (a : Option (Asked T P E O)). IsServedWith key_of tells call_of log place (record c { pass = pass_now; out = c.out ++ told }) a c.items.items sees read written) (sym idle)
            (told_with told (subst (λ (k : ℤ). told_bytes k outcome ≡ Some told) same_correlation is)),
        inr (inr (inr (inr (inl ends)))),
      )
      told_stands None is = (lost_with call correlation (gone_by correlation outcome is), inr (inr (inr (inr (inl ends)))))

      stands : (turned : Turned) (new : Connection T P E O) → IsTold call correlation outcome old new turned → stands_by turned new
      stands Moved new is = subst (stands_by Moved) (sym is) (told_stands (told_bytes correlation outcome) refl)
      stands NotYet new is = absurd is
      stands (Over end.Memory) new is = subst (stands_by (Over end.Memory)) (sym is) (idle, record { heard = read; unheard = []; cut = sym (append-nil read); ended = ended })
      stands (Over end.Ended) new is = absurd is
      stands (Over (end.Closed fault)) new is = absurd is
      stands (Over end.ReadFault) new is = absurd is
      stands (Over end.WriteFault) new is = absurd is
      stands (Over end.MemberGone) new is = absurd is

-- What is as before in a connection whose call was told of
module _ {T P E O : Type 0} (call : NotedCall) (correlation : ℤ) (outcome : LiveOutcome) (old : Connection T P E O) where
  told_idle : (bytes : Option (List ℕ)) → old.asked ≡ None → noted_of (told_of call correlation bytes old).asked ≡ None
  told_idle (Some told) idle = ap (λ (a : Option (Asked T P E O)). noted_of a) idle
  told_idle None idle = refl

  told_pass : (bytes : Option (List ℕ)) → (told_of call correlation bytes old).pass ≡ old.pass
  told_pass (Some told) = refl
  told_pass None = refl

  told_broken : (bytes : Option (List ℕ)) → (told_of call correlation bytes old).broken ≡ old.broken
  told_broken (Some told) = refl
  told_broken None = refl

  -- no call is under way
  pub noted_none : (turned : Turned) (new : Connection T P E O) → IsTold call correlation outcome old new turned → old.asked ≡ None → noted_of new.asked ≡ None
  noted_none Moved new is idle = ap (λ (n : Connection T P E O). noted_of n.asked) is ∙ told_idle (told_bytes correlation outcome) idle
  noted_none NotYet new is idle = absurd is
  noted_none (Over end.Memory) new is idle = ap (λ (n : Connection T P E O). noted_of n.asked) is ∙ ap (λ (a : Option (Asked T P E O)). noted_of a) idle
  noted_none (Over end.Ended) new is idle = absurd is
  noted_none (Over (end.Closed fault)) new is idle = absurd is
  noted_none (Over end.ReadFault) new is idle = absurd is
  noted_none (Over end.WriteFault) new is idle = absurd is
  noted_none (Over end.MemberGone) new is idle = absurd is

  pub same_pass : (turned : Turned) (new : Connection T P E O) → IsTold call correlation outcome old new turned → new.pass ≡ old.pass
  same_pass Moved new is = ap (λ (n : Connection T P E O). n.pass) is ∙ told_pass (told_bytes correlation outcome)
  same_pass NotYet new is = absurd is
  same_pass (Over end.Memory) new is = ap (λ (n : Connection T P E O). n.pass) is
  same_pass (Over end.Ended) new is = absurd is
  same_pass (Over (end.Closed fault)) new is = absurd is
  same_pass (Over end.ReadFault) new is = absurd is
  same_pass (Over end.WriteFault) new is = absurd is
  same_pass (Over end.MemberGone) new is = absurd is

  pub same_broken : (turned : Turned) (new : Connection T P E O) → IsTold call correlation outcome old new turned → new.broken ≡ old.broken
  same_broken Moved new is = ap (λ (n : Connection T P E O). n.broken) is ∙ told_broken (told_bytes correlation outcome)
  same_broken NotYet new is = absurd is
  same_broken (Over end.Memory) new is = ap (λ (n : Connection T P E O). n.broken) is
  same_broken (Over end.Ended) new is = absurd is
  same_broken (Over (end.Closed fault)) new is = absurd is
  same_broken (Over end.ReadFault) new is = absurd is
  same_broken (Over end.WriteFault) new is = absurd is
  same_broken (Over end.MemberGone) new is = absurd is

-- A turn in which a call came to its outcome, of which this was noted
module _ {T P E O : Type 0} (key_of : E → Key) (tells : P → List E → E → LiveOutcome → Type 0) (call_of : ℕ → Request → ℕ → E) (log : Log) (started : Option Start) (entries : List Entry) (place : Workplace T P E O)
    (c : Connection T P E O) (request : Request) (terms : Terms P E) (seen : ℕ → List E) (read written : List ℕ) (pass_now : SessionPass T P E O) (outcome : LiveOutcome)
    (r : Returns key_of tells call_of (after_turn log started entries) place c request terms seen read written pass_now outcome)
    (idle : c.asked ≡ None) (call : NotedCall) (correlation : ℤ) (same_correlation : correlation ≡ request.correlation) (was : Before T P E O) (same_as : was.broken ≡ c.broken) where
  is_ended : (step : CallStep) (id : CallId) (partition : ℕ) → IsEnded step request.id request.partition → (request.id ≡ id) × (request.partition ≡ partition) → IsEnded step id partition
  is_ended step id partition its same = subst (λ (i : CallId). IsEnded step i partition) same.0 (subst (λ (p : ℕ). IsEnded step request.id p) same.1 its)

  pub has_returned : (step : CallStep) → EndsOne (λ _. Unit {0}) step → IsEnded step request.id request.partition → StepsTo (noted_of was.asked) None step → HasNoted c.pass.conn step unmoved entries
      → (given given_now : List ℕ) → AsksClock started step given given_now → (journal journal_now : List Entry) → journal_now ≡ journal ++ entries
      → (turned : Turned) (new : Connection T P E O) → IsTold call correlation outcome (record c { pass = pass_now }) new turned → (streams : Streams)
      → HasTurned key_of tells call_of place given given_now journal journal_now was new streams streams seen log read written turned step
  has_returned step ends its steps noted given given_now asks journal journal_now more_entries turned new is streams =
      let new_conn : new.pass.conn ≡ c.pass.conn = ap (λ (p : SessionPass T P E O). p.conn) (same_pass call correlation outcome (record c { pass = pass_now }) turned new is) ∙ r.returned.back.same_conn in
      let log_then : Log = after_turn log started entries in record {
        moves = unmoved;
        moved = record { read = sym (append-nil streams.from.given.bytes); written = sym (append-nil streams.to.bytes) };
        steps = subst (λ (n : Option NotedCall). StepsTo (noted_of was.asked) n step) (sym (noted_none call correlation outcome (record c { pass = pass_now }) turned new is idle)) steps;
        breaks = breaks_still was.broken new.broken streams.to.faults streams.to.faults (same_broken call correlation outcome (record c { pass = pass_now }) turned new is ∙ sym same_as);
        started = started;
        asks = asks;
        entries = entries;
        more_entries = more_entries;
        noted = subst (λ (n : ℕ). HasNoted n step unmoved entries) (sym new_conn) noted;
        sees = sees key_of tells call_of log_then place c request terms seen read written pass_now outcome r;
        more = more key_of tells call_of log_then place c request terms seen read written pass_now outcome r;
        anew = λ id partition at mine stands past. is_ended step id partition its (own key_of tells call_of log_then place c request terms seen read written pass_now outcome r id partition at (mine ∙ new_conn) stands past);
        stands = subst (λ (x : List ℕ). StandsAfter key_of tells call_of place turned step log_then was new (sees key_of tells call_of log_then place c request terms seen read written pass_now outcome r) x (written ++ []) unmoved streams streams) (sym (append-nil read))
            (subst (λ (w : List ℕ). StandsAfter key_of tells call_of place turned step log_then was new (sees key_of tells call_of log_then place c request terms seen read written pass_now outcome r) read w unmoved streams streams) (sym (append-nil written))
            (stands key_of tells call_of log_then place c request terms seen read written pass_now outcome r idle call correlation same_correlation was step ends streams turned new is));
      }
