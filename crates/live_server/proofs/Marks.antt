-- The marks of a journal, as more is noted and seen.
use Rattle.std.proofs.Common.{◌≡◌, ◌⊎◌, inl, inr, ⊎_elim, ℕ, zero, suc, ◌+◌, ◌<◌, ◌≤◌, true, List, [], ◌∷◌, ◌++◌, length, map, set, Option, Some, None, slice_get, refl, sym, ap, ◌∙◌, subst, append_assoc, append-nil, arith, length-set}
use Rattle.std.proofs.lemmas.List.{length-append, map-append}
use Rattle.std.proofs.lemmas.Option.{slice_get_within}
use Rattle.grid_base.specs.declared.names.CallId.{CallId}
use Rattle.grid_base.specs.declared.calls.Request.{Request}
use Rattle.grid_edge.specs.Doors.{Arrival}
use Rattle.grid_edge.specs.MemoryDoors.{Telling}
use Rattle.hand_cell.specs.declared.names.Key.{Key}
use Rattle.hand_cell.specs.declared.names.NameSet.{NameSet}
use Rattle.hand_cell.specs.declared.outcome.LiveOutcome.{LiveOutcome}
use Rattle.hand_cell.specs.Names.{has_number, NoneOf}
use Rattle.hand_cell.specs.Told.{Told, SeesMore, having_seen}
use Rattle.loop_journal.specs.Journals.{own_of}
use Rattle.partition_threads.specs.declared.workplace.Workplace.{Workplace}
use Rattle.session_calls.specs.Passes.{HaveNumber}
use Rattle.loop_journal.specs.declared.entry.Entry.{Entry}
use Rattle.loop_journal.specs.declared.entry.Entry.TheVariants.{Started, Finished}
use Rattle.loop_journal.specs.declared.entry.NotedCall.{NotedCall}
use Rattle.live_session.specs.Among.{KnowsMore}
use Rattle.live_session.specs.Connections.{AreBelow, StandsAt}
use Rattle.live_session.specs.Next.{noted_of}
use Rattle.live_session.proofs.Numbers.{none_below, stood_all}
use Rattle.live_session.proofs.Passes.{same_or_other}
use Rattle.live_session.proofs.Places.{get_front, same_some, none_some, set_other, set_there}
use Rattle.loop_journal.proofs.Owning.{own_both}
use Rattle.live_server.specs.declared.client.Client.{Client}
use Rattle.live_server.specs.Clients.{IsServedSince}
use Rattle.live_server.specs.Order.{WasSeenAt, KeepsOrder, Mark, entries_of, IsMarkIn, IsBetween, IsMarked, StartIsMarked, KeepsMarks, AreMarks, HaveLearned, seen_at, seen_of}
use Rattle.live_server.specs.Serving.{SawNone}
use Rattle.live_server.proofs.Passing.{HaveGone, get_some, get_mapped}

-- it stands in the second of two lists that follow each other
abbrev pub Behind : {A : Type 0} → List A → List A → ℕ → A → Type 0
Behind xs ys i y = (k : ℕ) × (i ≡ length xs + k) × (slice_get ys k ≡ Some y)

-- what stands in both stands in one of them
pub get_either : {A : Type 0} (xs ys : List A) (i : ℕ) (y : A) → slice_get (xs ++ ys) i ≡ Some y → (slice_get xs i ≡ Some y) ⊎ Behind xs ys i y
get_either [] ys i y e = let at : i ≡ 0 + i = omega arith in inr (i, at, e)
get_either (x ∷ xs) ys zero y e = inl e
get_either (x ∷ xs) ys (suc i) y e = ⊎_elim (λ h. inl h) (λ (h : Behind xs ys i y). let at : i ≡ length xs + h.0 = h.1 in inr (h.0, omega (arith, at), h.2)) (get_either xs ys i y e)

-- what was done for one connection, by marks and more of them
pub marks_both : (conn : ℕ) (marks more : List Mark) → own_of conn (entries_of (marks ++ more)) ≡ own_of conn (entries_of marks) ++ own_of conn (entries_of more)
marks_both conn marks more = ap (own_of conn) (map-append (λ (m : Mark). m.entry) marks more) ∙ own_both conn (entries_of marks) (entries_of more)

-- of which none is of it
pub marks_stay : (conn : ℕ) (marks more : List Mark) → own_of conn (entries_of more) ≡ [] → own_of conn (entries_of (marks ++ more)) ≡ own_of conn (entries_of marks)
marks_stay conn marks more none = marks_both conn marks more ∙ (ap (λ (es : List Entry). own_of conn (entries_of marks) ++ es) none ∙ append-nil (own_of conn (entries_of marks)))

-- with more marks
pub between_more : (marks more : List Mark) (call : NotedCall) (place : ℕ) → IsBetween marks call place → IsBetween (marks ++ more) call place
between_more marks more call place between = record {
  start = between.start;
  finish = between.finish;
  before = between.before;
  after = between.after;
  started = get_front marks more between.start _ between.started;
  finished = get_front marks more between.finish _ between.finished;
  in_turn = between.in_turn;
  behind = between.behind;
  within = between.within;
}

pub marked_more : (marks more : List Mark) (call : NotedCall) (seen sees : ℕ) → seen ≤ sees → IsMarked marks call seen → IsMarked (marks ++ more) call sees
marked_more marks more call seen sees less marked = record {
  start = marked.start;
  before = marked.before;
  started = get_front marks more marked.start _ marked.started;
  behind = let b : marked.before ≤ seen = marked.behind in omega (arith, b, less);
}

-- the start of the call that is under way stays marked, as no less was seen
pub start_stays : {E : Type 0} (marks more : List Mark) (seen sees : ℕ → List E) → ((partition : ℕ) → length (seen partition) ≤ length (sees partition)) → (call : Option NotedCall)
    → StartIsMarked marks seen call → StartIsMarked (marks ++ more) sees call
start_stays marks more seen sees grew None marked = tt
start_stays marks more seen sees grew (Some call) marked = marked_more marks more call (length (seen call.partition)) (length (sees call.partition)) (grew call.partition) marked

module _ {E : Type 0} (key_of : E → Key) where
  -- as the connection's calls stand where they stood
  pub keeps_on : (marks more : List Mark) (conn : ℕ) (seen sees : ℕ → List E) → KeepsMarks key_of marks conn seen
      → ((id : CallId) (partition at : ℕ) → id.conn ≡ conn → StandsAt key_of id (sees partition) at → StandsAt key_of id (seen partition) at) → KeepsMarks key_of (marks ++ more) conn sees
  keeps_on marks more conn seen sees keeps own call place mine stands = between_more marks more call place (keeps call place mine (own call.id call.partition place mine stands))

  pub keeps_more : (marks more : List Mark) (conn : ℕ) (seen : ℕ → List E) → KeepsMarks key_of marks conn seen → KeepsMarks key_of (marks ++ more) conn seen
  keeps_more marks more conn seen keeps = keeps_on marks more conn seen seen keeps (λ id partition at mine is. is)

  -- Passes that have learned

  pub learned_gone : (old new : List (Told E)) → HaveLearned key_of old new → HaveGone key_of old new
  learned_gone old new learned = record { as_long = learned.as_long; each = λ p pass now before after. (learned.each p pass now before after).1 }

  pub learned_none : (passes : List (Told E)) → HaveLearned key_of passes passes
  learned_none passes = record {
    as_long = refl;
    each = λ p pass now before after. let same : now ≡ pass = same_some now pass (sym after ∙ before) in (
      subst (λ (t : Told E). now ≡ having_seen t now.seen) same refl,
      ([], ap (λ (t : Told E). t.seen) same ∙ sym (append-nil pass.seen), tt),
    );
  }

  none_both : (names : NameSet) (xs ys : List E) → NoneOf key_of names xs → NoneOf key_of names ys → NoneOf key_of names (xs ++ ys)
  none_both names [] ys p q = q
  none_both names (x ∷ xs) ys p q = (p.0, none_both names xs ys p.1 q)

  pub learned_both : (old mid new : List (Told E)) → HaveLearned key_of old mid → HaveLearned key_of mid new → HaveLearned key_of old new
  learned_both old mid new one two = record {
    as_long = two.as_long ∙ one.as_long;
    each = λ p pass now before after.
        let between = get_some mid p (subst (λ (n : ℕ). p < n) two.as_long (slice_get_within new p now after)) in
        let a = one.each p pass between.0 before between.1 in
        let b = two.each p between.0 now between.1 after in (
          b.0 ∙ ap (λ (t : Told E). having_seen t now.seen) a.0,
          (
            a.1.0 ++ b.1.0,
            b.1.1 ∙ (ap (λ (l : List E). l ++ b.1.0) a.1.1 ∙ append_assoc pass.seen a.1.0 b.1.0),
            none_both pass.names a.1.0 b.1.0 a.1.2 (subst (λ (n : NameSet). NoneOf key_of n b.1.0) (ap (λ (t : Told E). t.names) a.0) b.1.2),
          ),
        );
  }

  -- and were joined then
  pub learned_then : (old mid new : List (Told E)) → HaveLearned key_of old mid → HaveGone key_of mid new → HaveGone key_of old new
  learned_then old mid new one two = record {
    as_long = two.as_long ∙ one.as_long;
    each = λ p pass now before after.
        let between = get_some mid p (subst (λ (n : ℕ). p < n) two.as_long (slice_get_within new p now after)) in
        let a = one.each p pass between.0 before between.1 in
        let b = two.each p between.0 now between.1 after in (
          a.1.0 ++ b.0,
          b.1 ∙ (ap (λ (l : List E). l ++ b.0) a.1.1 ∙ append_assoc pass.seen a.1.0 b.0),
          none_both pass.names a.1.0 b.0 a.1.2 (subst (λ (n : NameSet). NoneOf key_of n b.0) (ap (λ (t : Told E). t.names) a.0) b.2),
        );
  }

  -- their names stay
  pub learned_named : (number : ℕ) (old new : List (Told E)) → HaveLearned key_of old new → HaveNumber number old → HaveNumber number new
  learned_named number old new learned named p now here =
      let was = get_some old p (subst (λ (n : ℕ). p < n) learned.as_long (slice_get_within new p now here)) in
      subst (λ (n : NameSet). has_number n.numbers number ≡ true) (sym (ap (λ (t : Told E). t.names) (learned.each p was.0 now was.1 here).0)) (named p was.0 was.1)

  -- the pass of a partition has learned
  module _ (partition : ℕ) (seen : List E) (known now : List (Told E)) (knows : KnowsMore key_of partition seen known now) where
    pub knows_learned : HaveLearned key_of known now
    knows_learned = record {
      as_long = ap (λ (l : List (Told E)). length l) knows.written ∙ length-set known partition knows.taught;
      each = λ p pass after before there. ⊎_elim (here p pass after before there) (elsewhere p pass after before there) (same_or_other p partition);
    }
      where
        here : (p : ℕ) (pass after : Told E) → slice_get known p ≡ Some pass → slice_get now p ≡ Some after → p ≡ partition → (after ≡ having_seen pass after.seen) × SeesMore key_of pass.names pass.seen after.seen
        here p pass after before there e =
            let its : pass ≡ knows.was = same_some pass knows.was (sym before ∙ (ap (slice_get known) e ∙ knows.there)) in
            let is : after ≡ knows.taught = same_some after knows.taught (sym there ∙ (ap (λ (l : List (Told E)). slice_get l p) knows.written ∙ (ap (slice_get (set known partition knows.taught)) e ∙ set_there known partition knows.was knows.taught knows.there))) in
            subst (λ (a : Told E). (a ≡ having_seen pass a.seen) × SeesMore key_of pass.names pass.seen a.seen) (sym is)
            (subst (λ (w : Told E). (knows.taught ≡ having_seen w knows.taught.seen) × SeesMore key_of w.names w.seen knows.taught.seen) (sym its) (knows.same, knows.more))

        elsewhere : (p : ℕ) (pass after : Told E) → slice_get known p ≡ Some pass → slice_get now p ≡ Some after → ¬ (p ≡ partition) → (after ≡ having_seen pass after.seen) × SeesMore key_of pass.names pass.seen after.seen
        elsewhere p pass after before there other =
            let stays : slice_get known p ≡ Some after = sym (set_other known partition p knows.taught other) ∙ (sym (ap (λ (l : List (Told E)). slice_get l p) knows.written) ∙ there) in
            (learned_none known).each p pass after before stays

    pub knows_there : slice_get now partition ≡ Some knows.taught
    knows_there = ap (λ (l : List (Told E)). slice_get l partition) knows.written ∙ set_there known partition knows.was knows.taught knows.there

  -- Marks

  grown_length : (a b later : List E) → b ≡ a ++ later → length a ≤ length b
  grown_length a b later e = let l : length b ≡ length a + length later = ap (λ (x : List E). length x) e ∙ length-append a later in omega (arith, l)

  -- as passes have seen more
  pub marks_seen : (marks : List Mark) (journal : List Entry) (old new : List (Told E)) → HaveGone key_of old new → AreMarks key_of marks journal old → AreMarks key_of marks journal new
  marks_seen marks journal old new gone are = record {
    entries_are = are.entries_are;
    rise = are.rise;
    within = λ partition at mark pass there its here.
        let was = get_some old partition (subst (λ (n : ℕ). partition < n) gone.as_long (slice_get_within new partition pass here)) in
        let more = gone.each partition was.0 pass was.1 here in
        let before : mark.count ≤ length was.0.seen = are.within partition at mark was.0 there its was.1 in
        let grown : length was.0.seen ≤ length pass.seen = grown_length was.0.seen pass.seen more.0 more.1 in
        omega (arith, before, grown);
  }

  -- where the mark is of a call, it counts all that the pass of its partition has seen
  abbrev pub CountsAll : List (Told E) → Mark → Type 0
  CountsAll passes mark = (partition : ℕ) → IsMarkIn mark partition → (pass : Told E) × (slice_get passes partition ≡ Some pass) × (mark.count ≡ length pass.seen)

  -- with more marks that count all
  pub marks_more : (marks more : List Mark) (journal : List Entry) (passes : List (Told E)) → AreMarks key_of marks journal passes
      → ((at : ℕ) (mark : Mark) → slice_get more at ≡ Some mark → CountsAll passes mark) → AreMarks key_of (marks ++ more) (journal ++ entries_of more) passes
  marks_more marks more journal passes are counts = record {
    entries_are = ap (λ (l : List Entry). l ++ entries_of more) are.entries_are ∙ sym (map-append (λ (m : Mark). m.entry) marks more);
    rise = λ partition i j first second less one two in_first in_second. ⊎_elim
        (λ (b : slice_get marks j ≡ Some second). ⊎_elim
        (λ (a : slice_get marks i ≡ Some first). are.rise partition i j first second less a b in_first in_second)
        (λ (a : Behind marks more i first). let inside : j < length marks = slice_get_within marks j second b in let e : i ≡ length marks + a.0 = a.1 in absurd (omega (arith, inside, e, less)))
        (get_either marks more i first one))
        (λ (b : Behind marks more j second).
        let its = counts b.0 second b.2 partition in_second in
        let all : second.count ≡ length its.0.seen = its.2 in ⊎_elim
        (λ (a : slice_get marks i ≡ Some first). let most : first.count ≤ length its.0.seen = are.within partition i first its.0 a in_first its.1 in omega (arith, all, most))
        (λ (a : Behind marks more i first).
        let same = counts a.0 first a.2 partition in_first in
        let before : first.count ≡ length its.0.seen = same.2 ∙ ap (λ (t : Told E). length t.seen) (same_some same.0 its.0 (sym same.1 ∙ its.1)) in omega (arith, all, before))
        (get_either marks more i first one))
        (get_either marks more j second two);
    within = λ partition at mark pass stands its here. ⊎_elim
        (λ (a : slice_get marks at ≡ Some mark). are.within partition at mark pass a its here)
        (λ (a : Behind marks more at mark).
        let same = counts a.0 mark a.2 partition its in
        let all : mark.count ≡ length pass.seen = same.2 ∙ ap (λ (t : Told E). length t.seen) (same_some same.0 pass (sym same.1 ∙ here)) in omega (arith, all))
        (get_either marks more at mark stands);
  }

  pub marks_none : (journal : List Entry) (passes : List (Told E)) → journal ≡ [] → AreMarks key_of [] journal passes
  marks_none journal passes none = record {
    entries_are = none;
    rise = λ partition i j first second less one two in_first in_second. absurd (none_some first one);
    within = λ partition at mark pass there its here. absurd (none_some mark there);
  }

  -- Numbers that no client is served by

  -- what passes have seen that have seen more, of a number that was a name of theirs
  pub own_seen : (number : ℕ) (old new : List (Told E)) → HaveGone key_of old new → HaveNumber number old → (id : CallId) (partition at : ℕ) → id.conn ≡ number
      → StandsAt key_of id (seen_of new partition) at → StandsAt key_of id (seen_of old partition) at
  own_seen number old new gone named id partition at mine = go (slice_get new partition) refl
    where
      go : (now : Option (Told E)) → slice_get new partition ≡ now → StandsAt key_of id (seen_at now) at → StandsAt key_of id (seen_of old partition) at
      go None e stands = absurd (none_some stands.event stands.there)
      go (Some now) e stands =
          let was = get_some old partition (subst (λ (n : ℕ). partition < n) gone.as_long (slice_get_within new partition now e)) in
          let more = gone.each partition was.0 now was.1 e in
          subst (λ (o : Option (Told E)). StandsAt key_of id (seen_at o) at) (sym was.1)
          (stood_all key_of number id was.0.seen more.0 at mine (none_below key_of number 0 was.0.names more.0 (named partition was.0 was.1) more.2)
          (subst (λ (l : List E). StandsAt key_of id l at) more.1 stands))

  pub rested_on : (marks more : List Mark) (number : ℕ) (old new : List (Told E)) → HaveGone key_of old new → HaveNumber number old → KeepsMarks key_of marks number (seen_of old)
      → KeepsMarks key_of (marks ++ more) number (seen_of new)
  rested_on marks more number old new gone named keeps = keeps_on marks more number (seen_of old) (seen_of new) keeps (own_seen number old new gone named)

  -- none of a number was seen
  pub keeps_none : (marks : List Mark) (number : ℕ) (seen : ℕ → List E) → ((partition : ℕ) → AreBelow key_of number 0 (seen partition)) → KeepsMarks key_of marks number seen
  keeps_none marks number seen none call place mine stands =
      let nothing : StandsAt key_of call.id [] place = stood_all key_of number call.id [] (seen call.partition) place mine (none call.partition) stands in
      absurd (none_some nothing.event nothing.there)

  pub none_seen : (number : ℕ) (passes : List (Told E)) → SawNone key_of number passes → (partition : ℕ) → AreBelow key_of number 0 (seen_of passes partition)
  none_seen number passes none partition = go (slice_get passes partition) refl
    where
      go : (pass : Option (Told E)) → slice_get passes partition ≡ pass → AreBelow key_of number 0 (seen_at pass)
      go None e = tt
      go (Some pass) e = none partition pass e

  -- Calls that keep to marks were run in the order of the journal
  pub keeps_order : (marks : List Mark) (journal : List Entry) (passes : List (Told E)) → AreMarks key_of marks journal passes → ((number : ℕ) → KeepsMarks key_of marks number (seen_of passes)) → KeepsOrder key_of journal passes
  keeps_order marks journal passes are keeps = record {
    noted = λ call place seen. let b = between call place seen in record {
      start = b.start;
      finish = b.finish;
      started = as_noted b.start _ b.started;
      finished = as_noted b.finish _ b.finished;
      in_turn = b.in_turn;
    };
    in_order = λ first second place place' one two same less.
        let a = between first place one in
        let b = between second place' two in
        let rose : a.after ≤ b.before = are.rise second.partition a.finish b.start (record { entry = Finished first; count = a.after }) (record { entry = Started second; count = b.before }) less a.finished b.started same refl in
        let inside : place < a.after = a.within in
        let behind : b.before ≤ place' = b.behind in
        omega (arith, rose, inside, behind);
  }
    where
      between : (call : NotedCall) (place : ℕ) → WasSeenAt key_of passes call place → IsBetween marks call place
      between call place seen = keeps call.id.conn call place refl (subst (λ (o : Option (Told E)). StandsAt key_of call.id (seen_at o) place) (sym seen.there) seen.stands)

      mapped : (list : List Mark) (at : ℕ) (mark : Mark) → slice_get list at ≡ Some mark → slice_get (map (λ (m : Mark). m.entry) list) at ≡ Some mark.entry
      mapped = get_mapped (λ (m : Mark). m.entry)

      as_noted : (at : ℕ) (mark : Mark) → slice_get marks at ≡ Some mark → slice_get journal at ≡ Some mark.entry
      as_noted at mark there = ap (λ (l : List Entry). slice_get l at) are.entries_are ∙ mapped marks at mark there

module _ {T P E O F K : Type 0} (key_of : E → Key) (tells : P → List E → E → LiveOutcome → Type 0) (call_of : ℕ → Request → ℕ → E) (place : Workplace T P E O) (given : List ℕ) (telling : Telling F K) where
  -- a client is served as before, as more is done for others
  pub still_marked : (arrivals : List Arrival) (marks more : List Mark) (client : Client T F K P E O) → own_of client.number (entries_of more) ≡ []
      → IsServedSince key_of tells call_of place given telling arrivals marks client → IsServedSince key_of tells call_of place given telling arrivals (marks ++ more) client
  still_marked arrivals marks more client none served = record {
    arrival = served.arrival;
    came = served.came;
    conn = served.conn;
    member = served.member;
    read = served.read;
    written = served.written;
    moved = served.moved;
    log = served.log;
    by_clock = served.by_clock;
    by_journal = served.by_journal ∙ sym (marks_stay client.number marks more none);
    seen = served.seen;
    served = served.served;
    marked = keeps_more key_of marks more client.number served.seen served.marked;
    under_way = start_stays marks more served.seen served.seen (λ partition. omega arith) (noted_of client.connection.asked) served.under_way;
    broken = served.broken;
  }
