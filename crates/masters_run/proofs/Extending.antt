-- A line of a partition extends the lines for which it stands: by itself, and by the calls that had their turns behind it. Other partitions stay.
use Rattle.std.proofs.Common.{◌≡◌, ℕ, Bool, true, false, cond, List, [], ◌∷◌, ◌++◌, map, Option, refl, ap, sym, ◌∙◌, subst, inl, inr, append_assoc, append-nil}
use Rattle.grid_base.specs.Objects.{Object}
use Rattle.grid_base.specs.declared.names.CallId.{CallId}
use Rattle.grid_base.specs.declared.calls.Request.{Request}
use Rattle.object_store.specs.Partitions.{Partition}
use Rattle.partition_protocol.specs.Events.{Event, Call, Deliver, Lose, Repeat, Resend, Crash, Detect, BeginMove, BeginJoin, BeginHandover, Advance, Reopen}
use Rattle.partition_protocol.proofs.RowFacts.{number_same}
use Rattle.masters_world.specs.Decisions.{event_of}
use Rattle.masters_world.specs.Machine.{Ruled, Line, Asks, start, past, asked_by, masters_after, events_by, after, asked, events}
use Rattle.masters_world.specs.Machine as ruled
use Rattle.masters_world.proofs.Lists.{past_append}
use Rattle.masters_world.proofs.Theorem.{after_append, events_append}
use Rattle.replay_run.specs.Runs.{Run, At, Arrival, is_at, events_at, world_at, meets_full, arrived, without, ending, given_up, occurred, served, served_at, takes, stirred_by}
use Rattle.replay_run.proofs.Turns.{KeepsTurns, by_endings, served_keeps, served_at_keeps, IsMade, its_event}
use Rattle.replay_run.proofs.EventRuns.{events_at-append, takes_here}
use Rattle.masters_run.specs.Runs.{RuledRun, masters_at}
use Rattle.masters_run.specs.Standing.{IsOfLines}
use Rattle.masters_run.proofs.AskedLines.{asked_append}

-- calls alone

abbrev pub IsCall : Event Request → Type 0
IsCall (Call m conn number call now) = Unit {0}
IsCall e = ⊥

abbrev pub AreCalls : List (Event Request) → Type 0
AreCalls [] = Unit {0}
AreCalls (e ∷ es) = IsCall e × AreCalls es

pub both_calls : (es fs : List (Event Request)) → AreCalls es → AreCalls fs → AreCalls (es ++ fs)
both_calls [] fs h k = k
both_calls (e ∷ es) fs (c, h) k = (c, both_calls es fs h k)

-- They ask the masters nothing, and happen at once.

pub past_same : {X : Type 0} (xs : List X) → past xs xs ≡ []
past_same xs = ap (λ ys. past xs ys) (sym (append-nil xs)) ∙ past_append xs []

asks_nothing : (j : Ruled Request) (e : Event Request) → IsCall e → masters_after j (Asks e) ≡ j.masters
asks_nothing j (Call m conn number call now) is = refl
asks_nothing j (Deliver a b i) is = absurd is
asks_nothing j (Lose a b i) is = absurd is
asks_nothing j (Repeat a b i) is = absurd is
asks_nothing j (Resend end) is = absurd is
asks_nothing j (Crash m) is = absurd is
asks_nothing j (Detect m) is = absurd is
asks_nothing j (BeginMove a b) is = absurd is
asks_nothing j (BeginJoin m) is = absurd is
asks_nothing j (BeginHandover a b) is = absurd is
asks_nothing j Advance is = absurd is
asks_nothing j Reopen is = absurd is

happens_alone : (j : Ruled Request) (e : Event Request) → IsCall e → events_by j (Asks e) ≡ e ∷ []
happens_alone j (Call m conn number call now) is = ap (λ ds. Call m conn number call now ∷ map (event_of j.world.members) ds) (past_same j.masters.published)
happens_alone j (Deliver a b i) is = absurd is
happens_alone j (Lose a b i) is = absurd is
happens_alone j (Repeat a b i) is = absurd is
happens_alone j (Resend end) is = absurd is
happens_alone j (Crash m) is = absurd is
happens_alone j (Detect m) is = absurd is
happens_alone j (BeginMove a b) is = absurd is
happens_alone j (BeginJoin m) is = absurd is
happens_alone j (BeginHandover a b) is = absurd is
happens_alone j Advance is = absurd is
happens_alone j Reopen is = absurd is

abbrev pub asking : List (Event Request) → List (Line Request)
asking es = map (λ e. Asks e) es

pub calls_ask_nothing : {State : Type 0} (o : Object Request State) (j : Ruled Request) (es : List (Event Request)) → AreCalls es → (after o j (asking es)).masters ≡ j.masters
calls_ask_nothing o j [] are = refl
calls_ask_nothing o j (e ∷ es) (is, are) = calls_ask_nothing o (ruled.goes o j (Asks e)) es are ∙ asks_nothing j e is

pub calls_happen : {State : Type 0} (o : Object Request State) (j : Ruled Request) (es : List (Event Request)) → AreCalls es → events o j (asking es) ≡ es
calls_happen o j [] are = refl
calls_happen o j (e ∷ es) (is, are) = ap (λ xs. xs ++ events o (ruled.goes o j (Asks e)) (asking es)) (happens_alone j e is) ∙ ap (λ xs. e ∷ xs) (calls_happen o (ruled.goes o j (Asks e)) es are)

-- After the turns of lists the events of a partition are those before, and then calls.

pub record HasCalls (r : Run) (p : ℕ) (before : List (Event Request)) (x : Run) : Type 0 where
  pub calls : List (Event Request)
  pub are : AreCalls calls
  pub here : events_at p x.events ≡ before ++ calls
  pub members : x.members ≡ r.members
  pub backups : x.backups ≡ r.backups

pub made_calls : (a : Arrival) (p : ℕ) (made : List At) → IsMade a made → AreCalls (events_at p made)
made_calls a p made (inl e) = subst (λ es. AreCalls (events_at p es)) (sym e) tt
made_calls a p made (inr e) = subst (λ es. AreCalls (events_at p es)) (sym e) (go (is_at p (its_event a)))
  where
    go : (b : Bool) → AreCalls (map (λ (x : At). x.event) (cond b (its_event a ∷ []) []))
    go true = (tt, tt)
    go false = tt

module _ (r : Run) (p : ℕ) (before : List (Event Request)) where
  -- nothing that matters has changed
  pub calls_still : (x next : Run) → next.events ≡ x.events → next.members ≡ x.members → next.backups ≡ x.backups → HasCalls r p before x → HasCalls r p before next
  calls_still x next events members backups h = record { calls = h.calls; are = h.are; here = ap (events_at p) events ∙ h.here; members = members ∙ h.members; backups = backups ∙ h.backups }

  -- a call more, or none
  pub calls_made : (x next : Run) (a : Arrival) (made : List At) → IsMade a made → next.events ≡ x.events ++ made → next.members ≡ x.members → next.backups ≡ x.backups → HasCalls r p before x → HasCalls r p before next
  calls_made x next a made is events members backups h = record {
    calls = h.calls ++ events_at p made;
    are = both_calls h.calls (events_at p made) h.are (made_calls a p made is);
    here = ap (events_at p) events ∙ events_at-append p x.events made ∙ ap (λ es. es ++ events_at p made) h.here ∙ append_assoc before h.calls (events_at p made);
    members = members ∙ h.members;
    backups = backups ∙ h.backups;
  }

  module _ (o : Object Request Partition) (skips : List CallId) where
    pub calls_turns : (q : ℕ) → KeepsTurns o skips q (HasCalls r p before)
    calls_turns q = by_endings o skips q (HasCalls r p before) (λ x h. calls_still x (given_up x) refl refl refl h)
        (λ x w made appended i is here h. calls_made x (arrived (without x w) (ending x w) made appended) (ending x w) made is refl refl refl h)

    pub served_calls : (x : Run) (own : Option ℕ) (q member : ℕ) → HasCalls r p before x → HasCalls r p before (served o skips x own q member)
    served_calls x own q member h = served_keeps o skips q (HasCalls r p before) (calls_turns q) x own member h

    pub served_at_calls : (x : Run) (q : ℕ) (stirred : Option ℕ) → HasCalls r p before x → HasCalls r p before (served_at o skips x q stirred)
    served_at_calls x q stirred h = served_at_keeps o skips q (HasCalls r p before) (calls_turns q) x stirred h

-- the event itself comes before them
own_event : (p : ℕ) (e : Event Request) → events_at p (record { partition = p; event = e } ∷ []) ≡ e ∷ []
own_event p e = let same : is_at p (record { partition = p; event = e }) ≡ true = number_same p p refl in rw same refl

pub takes_calls : (o : Object Request Partition) (skips : List CallId) (r : Run) (p : ℕ) (e : Event Request) → meets_full (world_at o r p) e ≡ false → HasCalls r p (events_at p r.events ++ e ∷ []) (takes o skips r p e)
takes_calls o skips r p e free =
    let one : At = record { partition = p; event = e } in
    let before = events_at p r.events ++ e ∷ [] in
    subst (HasCalls r p before) (sym (takes_here o skips r p e free))
    (served_at_calls r p before o skips (occurred o r p e) p (stirred_by e)
    (record {
      calls = [];
      are = tt;
      here = events_at-append p r.events (one ∷ []) ∙ ap (λ es. events_at p r.events ++ es) (own_event p e) ∙ sym (append-nil before);
      members = refl;
      backups = refl;
    }))

-- Of a partition that stands for these lines, one more and the calls behind it are what has happened by then.
pub extended : {State : Type 0} (o : Object Request State) (s next : RuledRun) (p : ℕ) (lines : List (Line Request)) (l : Line Request) (calls : List (Event Request)) → IsOfLines o s p lines → AreCalls calls
    → next.run.members ≡ s.run.members → next.run.backups ≡ s.run.backups
    → masters_at next p ≡ masters_after (after o (start p s.run.members s.run.backups) lines) l
    → events_at p next.run.events ≡ (events_at p s.run.events ++ events_by (after o (start p s.run.members s.run.backups) lines) l) ++ calls
    → IsOfLines o next p (lines ++ l ∷ asking calls)
extended o s next p lines l calls of are same backups by here =
    let first : Ruled Request = start p s.run.members s.run.backups in
    let j = after o first lines in
    let k = ruled.goes o j l in
    let begun : start p next.run.members next.run.backups ≡ first = ap (λ n. start p n next.run.backups) same ∙ ap (λ b. start p s.run.members b) backups in
    record {
      masters = ap (λ f. (after o f (lines ++ l ∷ asking calls)).masters) begun ∙ ap (λ (x : Ruled Request). x.masters) (after_append o first lines (l ∷ asking calls)) ∙ calls_ask_nothing o k calls are ∙ sym by;
      happened = ap (λ f. events o f (lines ++ l ∷ asking calls)) begun ∙ events_append o first lines (l ∷ asking calls)
          ∙ ap (λ es. events o first lines ++ (events_by j l ++ es)) (calls_happen o k calls are)
          ∙ ap (λ es. es ++ (events_by j l ++ calls)) of.happened ∙ sym (append_assoc (events_at p s.run.events) (events_by j l) calls) ∙ sym here;
    }

-- So are calls alone.
pub extended_by_calls : {State : Type 0} (o : Object Request State) (s next : RuledRun) (p : ℕ) (lines : List (Line Request)) (calls : List (Event Request)) → IsOfLines o s p lines → AreCalls calls
    → next.run.members ≡ s.run.members → next.run.backups ≡ s.run.backups → masters_at next p ≡ masters_at s p → events_at p next.run.events ≡ events_at p s.run.events ++ calls
    → IsOfLines o next p (lines ++ asking calls)
extended_by_calls o s next p lines calls of are same backups by here =
    let first : Ruled Request = start p s.run.members s.run.backups in
    let j = after o first lines in
    let begun : start p next.run.members next.run.backups ≡ first = ap (λ n. start p n next.run.backups) same ∙ ap (λ b. start p s.run.members b) backups in
    record {
      masters = ap (λ f. (after o f (lines ++ asking calls)).masters) begun ∙ ap (λ (x : Ruled Request). x.masters) (after_append o first lines (asking calls)) ∙ calls_ask_nothing o j calls are ∙ of.masters ∙ sym by;
      happened = ap (λ f. events o f (lines ++ asking calls)) begun ∙ events_append o first lines (asking calls) ∙ ap (λ es. events o first lines ++ es) (calls_happen o j calls are)
          ∙ ap (λ es. es ++ calls) of.happened ∙ sym here;
    }

-- Nothing is asked of the masters by calls.

call_asks : (j : Ruled Request) (e : Event Request) → IsCall e → asked_by j (Asks e) ≡ []
call_asks j (Call m conn number call now) is = refl
call_asks j (Deliver a b i) is = absurd is
call_asks j (Lose a b i) is = absurd is
call_asks j (Repeat a b i) is = absurd is
call_asks j (Resend end) is = absurd is
call_asks j (Crash m) is = absurd is
call_asks j (Detect m) is = absurd is
call_asks j (BeginMove a b) is = absurd is
call_asks j (BeginJoin m) is = absurd is
call_asks j (BeginHandover a b) is = absurd is
call_asks j Advance is = absurd is
call_asks j Reopen is = absurd is

calls_asked : {State : Type 0} (o : Object Request State) (j : Ruled Request) (es : List (Event Request)) → AreCalls es → asked o j (asking es) ≡ []
calls_asked o j [] are = refl
calls_asked o j (e ∷ es) (is, are) = ap (λ xs. xs ++ asked o (ruled.goes o j (Asks e)) (asking es)) (call_asks j e is) ∙ calls_asked o (ruled.goes o j (Asks e)) es are

pub calls_add_nothing : {State : Type 0} (o : Object Request State) (j : Ruled Request) (ls : List (Line Request)) (es : List (Event Request)) → AreCalls es → asked o j (ls ++ asking es) ≡ asked o j ls
calls_add_nothing o j ls es are = asked_append o j ls (asking es) ∙ ap (λ xs. asked o j ls ++ xs) (calls_asked o (after o j ls) es are) ∙ append-nil (asked o j ls)
