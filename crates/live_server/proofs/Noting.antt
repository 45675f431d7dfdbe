-- The marks of what a turn did, and how a client's calls keep to marks by it.
use Rattle.std.specs.Prelude.{IsSomeAnd}
use Rattle.std.proofs.Common.{◌≡◌, ◌⊎◌, ⊎_elim, ℕ, zero, suc, ◌+◌, ◌<◌, ◌≤◌, List, [], ◌∷◌, ◌++◌, length, map, All, Option, Some, None, slice_get, refl, sym, ap, ◌∙◌, subst, append_assoc, arith}
use Rattle.std.proofs.lemmas.List.{length-append}
use Rattle.std.proofs.lemmas.List.Elements.{All-head, All-tail}
use Rattle.std.proofs.lemmas.Option.{slice_get_within}
use Rattle.grid_base.specs.declared.names.CallId.{CallId}
use Rattle.grid_base.specs.declared.calls.Request.{Request}
use Rattle.hand_cell.specs.declared.names.Key.{Key}
use Rattle.hand_cell.specs.declared.outcome.LiveOutcome.{LiveOutcome}
use Rattle.hand_cell.specs.Told.{Told}
use Rattle.loop_journal.specs.Journals.{call_in}
use Rattle.partition_threads.specs.declared.workplace.Workplace.{Workplace}
use Rattle.session_calls.specs.Learning.{Begins}
use Rattle.live_session.specs.declared.connection.Connection.{Connection}
use Rattle.live_session.specs.declared.step.CallStep.{CallStep}
use Rattle.live_session.specs.declared.step.CallStep.TheVariants.{Nothing, Begun, Ended, Made}
use Rattle.loop_journal.specs.declared.entry.Entry.{Entry}
use Rattle.loop_journal.specs.declared.entry.Entry.TheVariants.{Started, Finished}
use Rattle.loop_journal.specs.declared.entry.NotedCall.{NotedCall}
use Rattle.live_session.specs.declared.turned.Turned.{Turned}
use Rattle.live_session.specs.declared.turned.Turned.TheVariants.{Moved, NotYet, Ended as Over}
use Rattle.live_session.specs.Among.{KnowsMore, StandsBehind, IsMadeBehind, KeepsKnown, HasTurnedAmong}
use Rattle.live_session.specs.Connections.{StandsAt}
use Rattle.live_session.specs.Next.{noted_of}
use Rattle.live_session.specs.Steps.{StepsTo, HasNotedCalls, IsEnded}
use Rattle.live_session.specs.Turns.{Streams, Moves, Before, StandsAfter}
use Rattle.live_session.proofs.Learning.{under_way_within}
use Rattle.live_session.proofs.Numbers.{stands_front, stands_within}
use Rattle.live_session.proofs.Places.{get_front, get_seam, same_some, none_some}
use Rattle.live_server.specs.Order.{Mark, entries_of, IsBetween, IsMarked, StartIsMarked, KeepsMarks, AreMarks, HaveLearned}
use Rattle.live_server.proofs.Marks.{between_more, start_stays, keeps_on, learned_gone, learned_none, knows_learned, knows_there, marks_seen, CountsAll, marks_more}
use Rattle.live_server.proofs.Passing.{get_some}
use Rattle.live_session.specs.Starts.{Log}

less_or_more : (n m : ℕ) → (n < m) ⊎ (m ≤ n)
less_or_more n m = grind arith

not_less : (n m : ℕ) → ¬ (n < m) → m ≤ n
not_less n m no_less = ⊎_elim (λ (less : n < m). absurd (no_less less)) (λ (more : m ≤ n). more) (less_or_more n m)

begins_length : {E : Type 0} (a b : List E) → Begins a b → length a ≤ length b
begins_length {E = E} a b begins = let l : length b ≡ length a + length begins.0 = ap (λ (x : List E). length x) begins.1 ∙ length-append a begins.0 in omega (arith, l)

-- the mark of what is of no call
plain : Entry → Mark
plain entry = record { entry = entry; count = 0 }

plain_entries : (entries : List Entry) → entries_of (map plain entries) ≡ entries
unfolding plain
plain_entries [] = refl
plain_entries (entry ∷ entries) = ap (λ (es : List Entry). entry ∷ es) (plain_entries entries)

no_calls : (entries : List Entry) → All (λ entry. call_in entry ≡ None) entries → (at : ℕ) (mark : Mark) → slice_get (map plain entries) at ≡ Some mark → call_in mark.entry ≡ None
unfolding plain
no_calls [] none at mark e = absurd (none_some mark e)
no_calls (entry ∷ entries) none zero mark e = subst (λ (m : Mark). call_in m.entry ≡ None) (same_some (plain entry) mark e) (All-head (λ (x : Entry). call_in x ≡ None) entry entries none)
no_calls (entry ∷ entries) none (suc at) mark e = no_calls entries (All-tail (λ (x : Entry). call_in x ≡ None) entry entries none) at mark e

-- the mark of a start, and of a finish, behind so much of the call's partition
start_mark : NotedCall → ℕ → Mark
start_mark call count = record { entry = Started call; count = count }

finish_mark : NotedCall → ℕ → Mark
finish_mark call count = record { entry = Finished call; count = count }

module _ {E : Type 0} (key_of : E → Key) where
  -- the mark of a call counts what the pass of its partition has seen
  one_counts : (passes : List (Told E)) (mark : Mark) (call : NotedCall) (pass : Told E) → call_in mark.entry ≡ Some call → slice_get passes call.partition ≡ Some pass → mark.count ≡ length pass.seen
      → (at : ℕ) (other : Mark) → slice_get (mark ∷ []) at ≡ Some other → CountsAll key_of passes other
  one_counts passes mark call pass is_call there counts zero other e = subst (CountsAll key_of passes) (same_some mark other e) (λ partition its.
      let same : call.partition ≡ partition = subst (λ (o : Option NotedCall). IsSomeAnd o (λ c. c.partition ≡ partition)) is_call its in
      (pass, ap (slice_get passes) (sym same) ∙ there, counts))
  one_counts passes mark call pass is_call there counts (suc at) other e = absurd (none_some other e)

  -- with the mark of a start behind all that the pass of its partition has seen
  start_marked : (marks : List Mark) (journal : List Entry) (passes : List (Told E)) (call : NotedCall) (pass : Told E) → slice_get passes call.partition ≡ Some pass
      → AreMarks key_of marks journal passes → AreMarks key_of (marks ++ start_mark call (length pass.seen) ∷ []) (journal ++ Started call ∷ []) passes
  unfolding start_mark
  start_marked marks journal passes call pass there are =
      marks_more key_of marks (start_mark call (length pass.seen) ∷ []) journal passes are (one_counts passes (start_mark call (length pass.seen)) call pass refl there refl)

  -- with the mark of a finish, once the pass of its partition has learned what was seen
  finish_marked : (marks : List Mark) (journal : List Entry) (known now : List (Told E)) (call : NotedCall) (sees : List E) (knows : KnowsMore key_of call.partition sees known now)
      → AreMarks key_of marks journal known → AreMarks key_of (marks ++ finish_mark call (length knows.taught.seen) ∷ []) (journal ++ Finished call ∷ []) now
  unfolding finish_mark
  finish_marked marks journal known now call sees knows are =
      let learned = learned_gone key_of known now (knows_learned key_of call.partition sees known now knows) in
      marks_more key_of marks (finish_mark call (length knows.taught.seen) ∷ []) journal now (marks_seen key_of marks journal known now learned are)
      (one_counts now (finish_mark call (length knows.taught.seen)) call knows.taught refl (knows_there key_of call.partition sees known now knows) refl)

-- A call whose start is marked stands between it and a finish behind those marks, where it stands behind the one and within what the other counts
finish_between : (marks : List Mark) (call : NotedCall) (before after at : ℕ) → IsMarked marks call before → before ≤ at → at < after → IsBetween (marks ++ finish_mark call after ∷ []) call at
unfolding finish_mark
finish_between marks call before after at way beyond within = record {
  start = way.start;
  finish = length marks;
  before = way.before;
  after = after;
  started = get_front marks (finish_mark call after ∷ []) way.start _ way.started;
  finished = get_seam marks (finish_mark call after) [];
  in_turn = slice_get_within marks way.start _ way.started;
  behind = let b : way.before ≤ before = way.behind in omega (arith, b, beyond);
  within = within;
}

-- the start that is marked last
last_marked : (marks : List Mark) (call : NotedCall) (before seen : ℕ) → before ≤ seen → IsMarked (marks ++ start_mark call before ∷ []) call seen
unfolding start_mark
last_marked marks call before seen behind = record { start = length marks; before = before; started = get_seam marks (start_mark call before) []; behind = behind }

module _ {T P E O : Type 0} (key_of : E → Key) (tells : P → List E → E → LiveOutcome → Type 0) (call_of : ℕ → Request → ℕ → E) (place : Workplace T P E O) (given given_now : List ℕ)
    (was : Before T P E O) (new : Connection T P E O) (before after : Streams) (seen : ℕ → List E) (log : Log) (read written : List ℕ) (turned : Turned) (step : CallStep)
    (known known_now : List (Told E)) (journal journal_now : List Entry)
    (among : HasTurnedAmong key_of tells call_of place given given_now journal journal_now was new before after seen log read written turned step known known_now)
    (as_long : length known ≡ length place.cells.items) (number : ℕ) (conn_now : new.pass.conn ≡ number) (marks : List Mark) (are : AreMarks key_of marks journal known)
    (keeps : KeepsMarks key_of marks number seen) where
  abbrev sees : ℕ → List E
  sees = among.turn.sees

  grew : (partition : ℕ) → length (seen partition) ≤ length (sees partition)
  grew partition = begins_length (seen partition) (sees partition) (among.turn.more partition)

  -- The marks with those of the turn
  pub record TurnMarks : Type 0 where
    pub more : List Mark
    pub entries_are : entries_of more ≡ among.turn.entries
    pub are_marks : AreMarks key_of (marks ++ more) journal_now known_now
    pub learned : HaveLearned key_of known known_now
    pub marked : KeepsMarks key_of (marks ++ more) number sees
    pub under_way : StartIsMarked (marks ++ more) sees (noted_of new.asked)

  -- what stood there before stands there still
  stood : (id : CallId) (partition at : ℕ) → at < length (seen partition) → StandsAt key_of id (sees partition) at → StandsAt key_of id (seen partition) at
  stood id partition at inside stands =
      stands_front key_of id (seen partition) (among.turn.more partition).0 at inside (subst (λ (l : List E). StandsAt key_of id l at) (among.turn.more partition).1 stands)

  -- the call of this name in this partition isn't behind what was seen, unless this
  abbrev IsOnlyAnew : (CallId → ℕ → Type 0) → Type 0
  IsOnlyAnew holds = (id : CallId) (partition at : ℕ) → id.conn ≡ new.pass.conn → StandsAt key_of id (sees partition) at → ¬ (at < length (seen partition)) → holds id partition

  -- no call of its own was seen anew
  own : IsOnlyAnew (λ id partition. ⊥) → (id : CallId) (partition at : ℕ) → id.conn ≡ number → StandsAt key_of id (sees partition) at → StandsAt key_of id (seen partition) at
  own never id partition at mine stands = ⊎_elim
      (λ (inside : at < length (seen partition)). stood id partition at inside stands)
      (λ (beyond : length (seen partition) ≤ at). absurd (never id partition at (mine ∙ sym conn_now) stands (λ (inside : at < length (seen partition)). omega (arith, inside, beyond))))
      (less_or_more at (length (seen partition)))

  -- The call alone was seen anew, and where it was it stands between these marks
  record IsAnew (all : List Mark) (call : NotedCall) : Type 0 where
    only : IsOnlyAnew (λ id partition. (call.id ≡ id) × (call.partition ≡ partition))
    between : (at : ℕ) → StandsAt key_of call.id (sees call.partition) at → length (seen call.partition) ≤ at → IsBetween all call at

  keeps_anew : (more : List Mark) (call : NotedCall) → IsAnew (marks ++ more) call → KeepsMarks key_of (marks ++ more) number sees
  keeps_anew more call anew other at mine stands = ⊎_elim
      (λ (inside : at < length (seen other.partition)). between_more marks more other at (keeps other at mine (stood other.id other.partition at inside stands)))
      (λ (beyond : length (seen other.partition) ≤ at).
      let its = anew.only other.id other.partition at (mine ∙ sym conn_now) stands (λ (inside : at < length (seen other.partition)). omega (arith, inside, beyond)) in
      let same : call ≡ other = λ i. record { id = its.0 i; partition = its.1 i } in
      subst (λ (c : NotedCall). IsBetween (marks ++ more) c at) same
      (anew.between at (subst (λ (c : NotedCall). StandsAt key_of c.id (sees c.partition) at) (sym same) stands) (subst (λ (c : NotedCall). length (seen c.partition) ≤ at) (sym same) beyond)))
      (less_or_more at (length (seen other.partition)))

  -- the journal has all that the turn did
  journal_is : (entries : List Entry) → among.turn.entries ≡ entries → journal ++ entries ≡ journal_now
  journal_is entries noted = sym (among.turn.more_entries ∙ ap (λ (es : List Entry). journal ++ es) noted)

  none_learned : known_now ≡ known → HaveLearned key_of known known_now
  none_learned same = subst (HaveLearned key_of known) (sym same) (learned_none key_of known)

  -- a call that is under way is of one of the cells
  within_at : (call : NotedCall) → noted_of new.asked ≡ Some call → (is : Turned) (moves : Moves) (now_read now_written : List ℕ) (now_log : Log)
      → StandsAfter key_of tells call_of place is step now_log was new sees now_read now_written moves before after → call.partition < length place.cells.items
  within_at call is_asked Moved moves r w m stands = under_way_within key_of tells call_of place new call m sees r w is_asked stands.0
  within_at call is_asked NotYet moves r w m stands = under_way_within key_of tells call_of place new call m sees r w is_asked stands.0
  within_at call is_asked (Over end) moves r w m stands = let none : ◌≡◌ {A = Option NotedCall} None (Some call) = sym (ap noted_of stands.0) ∙ is_asked in absurd cc

  -- nothing was started or finished
  unchanged : IsOnlyAnew (λ id partition. ⊥) → All (λ entry. call_in entry ≡ None) among.turn.entries → known_now ≡ known
      → ((more : List Mark) → StartIsMarked (marks ++ more) sees (noted_of new.asked)) → TurnMarks
  unchanged never none same_known way =
      let entries = among.turn.entries in
      let now : AreMarks key_of marks journal known_now = subst (AreMarks key_of marks journal) (sym same_known) are in
      let counts : (at : ℕ) (mark : Mark) → slice_get (map plain entries) at ≡ Some mark → CountsAll key_of known_now mark =
      λ at mark there partition its. absurd (subst (λ (o : Option NotedCall). IsSomeAnd o (λ call. call.partition ≡ partition)) (no_calls entries none at mark there) its) in record {
        more = map plain entries;
        entries_are = plain_entries entries;
        are_marks = subst (λ (l : List Entry). AreMarks key_of (marks ++ map plain entries) l known_now) (journal_is (entries_of (map plain entries)) (sym (plain_entries entries)))
            (marks_more key_of marks (map plain entries) journal known_now now counts);
        learned = none_learned same_known;
        marked = keeps_on key_of marks (map plain entries) number seen sees keeps (own never);
        under_way = way (map plain entries);
      }

  -- a call was started
  begun : (call : NotedCall) → noted_of new.asked ≡ Some call → IsOnlyAnew (λ id partition. ⊥) → among.turn.entries ≡ Started call ∷ []
      → known_now ≡ known → StandsBehind known call.partition (sees call.partition) → TurnMarks
  unfolding start_mark
  begun call is_asked never noted same_known behind =
      let turn = among.turn in
      let there = get_some known call.partition (subst (λ (n : ℕ). call.partition < n) (sym as_long) (within_at call is_asked turned turn.moves _ _ _ turn.stands)) in
      let count = length there.0.seen in record {
        more = start_mark call count ∷ [];
        entries_are = sym noted;
        are_marks = subst (λ (l : List (Told E)). AreMarks key_of (marks ++ start_mark call count ∷ []) journal_now l) (sym same_known)
            (subst (λ (l : List Entry). AreMarks key_of (marks ++ start_mark call count ∷ []) l known) (journal_is (Started call ∷ []) noted) (start_marked key_of marks journal known call there.0 there.1 are));
        learned = none_learned same_known;
        marked = keeps_on key_of marks (start_mark call count ∷ []) number seen sees keeps (own never);
        under_way = subst (StartIsMarked (marks ++ start_mark call count ∷ []) sees) (sym is_asked)
            (last_marked marks call count (length (sees call.partition)) (begins_length there.0.seen (sees call.partition) (behind there.0 there.1)));
      }

  -- an event of the call stands within what the pass of its partition has learned
  within_known : (call : NotedCall) (knows : KnowsMore key_of call.partition (sees call.partition) known known_now) (at : ℕ) → StandsAt key_of call.id (sees call.partition) at → at < length knows.taught.seen
  within_known call knows at stands =
      let inside : at < length (sees call.partition) = stands_within key_of call.id (sees call.partition) at stands in
      let learned : length (sees call.partition) ≤ length knows.taught.seen = begins_length (sees call.partition) knows.taught.seen knows.knows in
      omega (arith, inside, learned)

  -- the one under way came to its outcome
  ended : (call : NotedCall) → noted_of new.asked ≡ None → IsOnlyAnew (λ id partition. (call.id ≡ id) × (call.partition ≡ partition)) → IsMarked marks call (length (seen call.partition))
      → among.turn.entries ≡ Finished call ∷ [] → KnowsMore key_of call.partition (sees call.partition) known known_now → TurnMarks
  unfolding finish_mark
  ended call idle only way noted knows =
      let count = length knows.taught.seen in record {
        more = finish_mark call count ∷ [];
        entries_are = sym noted;
        are_marks = subst (λ (l : List Entry). AreMarks key_of (marks ++ finish_mark call count ∷ []) l known_now) (journal_is (Finished call ∷ []) noted)
            (finish_marked key_of marks journal known known_now call (sees call.partition) knows are);
        learned = knows_learned key_of call.partition (sees call.partition) known known_now knows;
        marked = keeps_anew (finish_mark call count ∷ []) call (record {
          only = only;
          between = λ at stands beyond. finish_between marks call (length (seen call.partition)) count at way beyond (within_known call knows at stands);
        });
        under_way = subst (StartIsMarked (marks ++ finish_mark call count ∷ []) sees) (sym idle) tt;
      }

  -- one was made
  made : (call : NotedCall) → noted_of new.asked ≡ None → IsOnlyAnew (λ id partition. (call.id ≡ id) × (call.partition ≡ partition))
      → among.turn.entries ≡ Started call ∷ Finished call ∷ [] → IsMadeBehind key_of call (seen call.partition) (sees call.partition) known → KnowsMore key_of call.partition (sees call.partition) known known_now → TurnMarks
  unfolding start_mark finish_mark
  made call idle only noted behind knows =
      let first = start_mark call (length knows.was.seen) in
      let last = finish_mark call (length knows.taught.seen) in
      let assoc : (marks ++ first ∷ []) ++ last ∷ [] ≡ marks ++ first ∷ last ∷ [] = append_assoc marks (first ∷ []) (last ∷ []) in record {
        more = first ∷ last ∷ [];
        entries_are = sym noted;
        are_marks = subst (λ (l : List Mark). AreMarks key_of l journal_now known_now) assoc
            (subst (λ (l : List Entry). AreMarks key_of ((marks ++ first ∷ []) ++ last ∷ []) l known_now) (append_assoc journal (Started call ∷ []) (Finished call ∷ []) ∙ journal_is (Started call ∷ Finished call ∷ []) noted)
            (finish_marked key_of (marks ++ first ∷ []) (journal ++ Started call ∷ []) known known_now call (sees call.partition) knows (start_marked key_of marks journal known call knows.was knows.there are)));
        learned = knows_learned key_of call.partition (sees call.partition) known known_now knows;
        marked = keeps_anew (first ∷ last ∷ []) call (record {
          only = only;
          between = λ at stands beyond. subst (λ (l : List Mark). IsBetween l call at) assoc
              (finish_between (marks ++ first ∷ []) call at (length knows.taught.seen) at (last_marked marks call (length knows.was.seen) at (not_less at (length knows.was.seen) (behind.behind knows.was knows.there at stands (λ (inside : at < length (seen call.partition)). omega (arith, inside, beyond))))) (omega arith)
              (within_known call knows at stands));
        });
        under_way = subst (StartIsMarked (marks ++ first ∷ last ∷ []) sees) (sym idle) tt;
      }

  -- by what the turn did to calls
  by_step : (s : CallStep) (w i : Option NotedCall) → noted_of new.asked ≡ i → StepsTo w i s → IsOnlyAnew (IsEnded s) → HasNotedCalls s among.turn.entries → KeepsKnown key_of s seen sees known known_now
      → StartIsMarked marks seen w → TurnMarks
  by_step Nothing None None now_is steps anew noted kept way = unchanged anew noted kept (λ more. subst (StartIsMarked (marks ++ more) sees) (sym now_is) tt)
  by_step Nothing (Some call) (Some still) now_is steps anew noted kept way =
      unchanged anew noted kept (λ more. subst (StartIsMarked (marks ++ more) sees) (sym (now_is ∙ ap (λ (c : NotedCall). Some c) steps)) (start_stays marks more seen sees grew (Some call) way))
  by_step (Begun call) None (Some is) now_is steps anew noted kept way = begun call (now_is ∙ ap (λ (c : NotedCall). Some c) (sym steps)) anew noted kept.0 kept.1
  by_step (Ended call) (Some is) None now_is steps anew noted kept way = ended call now_is anew (subst (λ (c : NotedCall). IsMarked marks c (length (seen c.partition))) (sym steps) way) noted kept
  by_step (Made call) None None now_is steps anew noted kept way = made call now_is anew noted kept.0 kept.1
  by_step Nothing None (Some still) now_is steps anew noted kept way = absurd steps
  by_step Nothing (Some call) None now_is steps anew noted kept way = absurd steps
  by_step (Begun call) None None now_is steps anew noted kept way = absurd steps
  by_step (Begun call) (Some is) None now_is steps anew noted kept way = absurd steps
  by_step (Begun call) (Some is) (Some still) now_is steps anew noted kept way = absurd steps
  by_step (Ended call) None None now_is steps anew noted kept way = absurd steps
  by_step (Ended call) None (Some still) now_is steps anew noted kept way = absurd steps
  by_step (Ended call) (Some is) (Some still) now_is steps anew noted kept way = absurd steps
  by_step (Made call) None (Some still) now_is steps anew noted kept way = absurd steps
  by_step (Made call) (Some is) None now_is steps anew noted kept way = absurd steps
  by_step (Made call) (Some is) (Some still) now_is steps anew noted kept way = absurd steps

  pub turn_marks : StartIsMarked marks seen (noted_of was.asked) → TurnMarks
  turn_marks way = by_step step (noted_of was.asked) (noted_of new.asked) refl among.turn.steps among.turn.anew among.turn.noted.calls among.keeps way
