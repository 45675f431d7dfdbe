-- A line of bytes, item by item: how it begins, how each item is handled, and that it ends in the run after the line.
use Rattle.std.proofs.Common.{◌≡◌, ℕ, ◌+◌, ◌≤◌, ◌<◌, Bool, true, false, not, cond, List, [], ◌∷◌, ◌++◌, length, Option, Some, None, refl, ap, sym, ◌∙◌, subst, arith, length-append}
use Rattle.grid_base.specs.Objects.{Object}
use Rattle.grid_base.specs.declared.names.CallId.{CallId}
use Rattle.grid_base.specs.declared.calls.Request.{Request}
use Rattle.partition_protocol.proofs.Lists.{In, in_left, in_contains, contains_in}
use Rattle.event_codecs.specs.declared.registration.Registration.{Registration}
use Rattle.session_core.specs.declared.item.Item.{Item}
use Rattle.session_core.specs.declared.item.Item.TheVariants.{Register, Reply}
use Rattle.script_lang.specs.declared.line.Line.TheVariants.{Arrive}
use Rattle.object_store.specs.Partitions.{Partition}
use Rattle.replay_run.specs.Runs.{Run, Connection, connection_of, takes_bytes, messages_on, bytes_of, with_bytes, took_bytes, items_by, told, handled, handled_all, forsaken, next_line, bytes_arrived, registers}
use Rattle.replay_run.specs.AfterLines.{after_line}
use Rattle.replay_run.specs.Endings.{AreAmong, new_arrivals}
use Rattle.replay_run.specs.Printing.{does_nothing}
use Rattle.replay_run.specs.Skips.{AreOfLine}
use Rattle.replay_run.specs.ScriptRuns.{MayAsk, IsNext, IsRun, IsMidway, answer_told, calls_in}
use Rattle.call_engine.specs.Calls.{Settings}
use Rattle.call_engine.specs.Objects.{partition_object}
use Rattle.replay_run.proofs.EventRuns.{handled_all_full, forsaken_full}
use Rattle.replay_run.proofs.Growing.{Grows, grows_trans, handled_goes, handled_all_goes, forsaken_goes}
use Rattle.replay_run.proofs.Items.{IsNamed, IsNumbered, AreNumbered, numbered_at, items_room}
use Rattle.replay_run.proofs.Lines.{HasCome, handled_all_come, may_ask_after, may_ask_registered, registers_run, is_next, has_taken}
use Rattle.replay_run.proofs.RunFacts.{ArrivalsOk}
use Rattle.replay_run.proofs.RunsOfLines.{run_ok}
use Rattle.replay_run.proofs.SkipLaws.{new_of, both_go, both_among, handled_all-append}
use Rattle.replay_run.specs.Grids.{AreFew, IsGivenUp}
use Rattle.replay_run.specs.WorldCalls.{IsGivenUpMidway}
use Rattle.replay_run.proofs.Bounds.{bytes_taken_more, handled_no_more, handled_calls, handled_few, took_few}

-- the skips of a part of a line are among those of more of it
pub among_more : (r mid next : Run) (skips : List CallId) → Grows r mid → Grows mid next → AreAmong (new_arrivals r mid) skips → AreAmong (new_arrivals r next) skips
among_more r mid next skips first then among id c =
    let from = among id c in
    let whole = grows_trans r mid next first then in
    let there : In from.0 first.arrivals.0 = subst (In from.0) (new_of r mid first.arrivals) (in_contains from.0 (new_arrivals r mid) from.1) in
    (from.0, contains_in from.0 (new_arrivals r next) (subst (In from.0) (sym (new_of r next whole.arrivals)) (in_left from.0 first.arrivals.0 then.arrivals.0 there)), from.2)

module _ {o : Object Request Partition} (r : Run) (is : IsRun o r) (k : Connection) (there : connection_of r k.conn ≡ Some k) (bytes : List ℕ) where
  abbrev pub first_number : ℕ
  first_number = length (messages_on k)

  pub begun_midway : IsMidway o r k bytes [] [] (took_bytes r k bytes)
  begun_midway =
      let taken = has_taken r k bytes is there in
      record {
        run = taken.run;
        is = refl;
        own = λ id c. absurd (in_contains id [] c);
        may = subst (λ n. MayAsk (took_bytes r k bytes) (with_bytes k bytes) n) (let e : first_number ≡ first_number + 0 = omega arith in e) taken.may;
      }

  -- what the run has by then
  pub midway_come : (done : List Item) (skips : List CallId) (now : Run) → IsMidway o r k bytes done skips now → HasCome (took_bytes r k bytes) (length (calls_in done)) now
  midway_come done skips now m = subst (λ n. HasCome (took_bytes r k bytes) (length (calls_in done)) n) (sym m.is) (handled_all_come o skips (took_bytes r k bytes) k done)

  pub midway_bytes : (done : List Item) (skips : List CallId) (now : Run) → IsMidway o r k bytes done skips now → bytes_of now ≡ bytes_of r + length bytes
  midway_bytes done skips now m = ap bytes_of m.is ∙ handled_no_more o skips (took_bytes r k bytes) k done ∙ bytes_taken_more r k bytes is there

  -- Each item brings one call at most.
  pub midway_calls : (done : List Item) (skips : List CallId) (now : Run) → IsMidway o r k bytes done skips now → length now.arrivals + length now.waiters ≤ length r.arrivals + length r.waiters + length done
  midway_calls done skips now m =
      let more = handled_calls o skips (took_bytes r k bytes) k done in
      let arrivals = ap (λ (n : Run). length n.arrivals) m.is in
      let waiters = ap (λ (n : Run). length n.waiters) m.is in
      omega (arith, more, arrivals, waiters)

  pub midway_few : (done : List Item) (skips : List CallId) (now : Run) → IsMidway o r k bytes done skips now → AreFew r → AreFew now
  midway_few done skips now m few = subst AreFew (sym m.is) (handled_few o skips (took_bytes r k bytes) k done (took_few o skips r k bytes few))

  module _ (done : List Item) (item : Item) (rest : List Item) (come : items_by k bytes ≡ done ++ item ∷ rest) (skips : List CallId) (now : Run) (m : IsMidway o r k bytes done skips now) where
    numbered : AreNumbered k.conn first_number (done ++ item ∷ rest)
    numbered = subst (AreNumbered k.conn first_number) come (items_room k bytes).0

    pub its_number : first_number + length done < length (messages_on (with_bytes k bytes))
    its_number =
        let room = (items_room k bytes).1 in
        let all = ap length come ∙ length-append done (item ∷ rest) in
        omega (arith, room, all)

    one_more : first_number + length done + 1 ≡ first_number + length (done ++ item ∷ [])
    one_more = let more = length-append done (item ∷ []) in omega (arith, more)

  -- One item more, which its session answered itself.
  module _ (done : List Item) (answer : List ℕ) (rest : List Item) (come : items_by k bytes ≡ done ++ Reply answer ∷ rest) (skips : List CallId) (now : Run) (m : IsMidway o r k bytes done skips now) where
    pub told_midway : IsMidway o r k bytes (done ++ Reply answer ∷ []) skips (told now k.conn answer)
    told_midway = record {
      run = answer_told now k.conn answer m.run;
      is = ap (λ (x : Run). told x k.conn answer) m.is ∙ sym (handled_all-append o skips (took_bytes r k bytes) k done (Reply answer ∷ []));
      own = m.own;
      may = subst (λ n. MayAsk (told now k.conn answer) (with_bytes k bytes) n) (one_more done (Reply answer) rest come skips now m)
          (may_ask_after now (with_bytes k bytes) (first_number + length done) k.conn answer m.may);
    }

  -- One item more, which is a registration.
  module _ (done : List Item) (registration : Registration) (rest : List Item) (come : items_by k bytes ≡ done ++ Register registration ∷ rest) (skips : List CallId) (now : Run) (m : IsMidway o r k bytes done skips now) where
    pub registered_midway : IsMidway o r k bytes (done ++ Register registration ∷ []) skips (registers o now k.conn k.member registration)
    registered_midway = record {
      run = registers_run now (with_bytes k bytes) k.member registration m.run m.may.there;
      is =
          ap (λ (x : Run). registers o x k.conn k.member registration) m.is
          ∙ sym (handled_all-append o skips (took_bytes r k bytes) k done (Register registration ∷ []));
      own = m.own;
      may = subst (λ n. MayAsk (registers o now k.conn k.member registration) (with_bytes k bytes) n) (one_more done (Register registration) rest come skips now m)
          (may_ask_registered o now (with_bytes k bytes) (first_number + length done) k.conn k.member registration m.may);
    }

  -- Two parts of the line, each with its skips, are one with the skips of both.
  module _ (done : List Item) (item : Item) (skips : List CallId) (own : List CallId) (once : ArrivalsOk (handled o own (handled_all o skips (took_bytes r k bytes) k done) k item))
      (of_done : AreAmong (new_arrivals r (handled_all o skips (took_bytes r k bytes) k done)) skips)
      (of_item : AreAmong (new_arrivals (handled_all o skips (took_bytes r k bytes) k done) (handled o own (handled_all o skips (took_bytes r k bytes) k done) k item)) own) where
    abbrev taken : Run
    taken = took_bytes r k bytes

    item_more : handled o (skips ++ own) (handled_all o (skips ++ own) taken k done) k item ≡ handled o own (handled_all o skips taken k done) k item
    item_more = both_go taken (λ s. handled_all o s taken k done) (λ x s. handled o s x k item) (handled_all_goes o taken k done) (λ x. handled_goes o x k item) skips own once of_done of_item

    items_more : handled_all o (skips ++ own) taken k (done ++ item ∷ []) ≡ handled o own (handled_all o skips taken k done) k item
    items_more = handled_all-append o (skips ++ own) taken k done (item ∷ []) ∙ item_more

    among_both : AreAmong (new_arrivals r (handled_all o (skips ++ own) taken k (done ++ item ∷ []))) (skips ++ own)
    among_both =
        subst (λ x. AreAmong (new_arrivals r x) (skips ++ own)) (sym (handled_all-append o (skips ++ own) taken k done (item ∷ [])))
        (both_among taken (λ s. handled_all o s taken k done) (λ x s. handled o s x k item) (handled_all_goes o taken k done) (λ x. handled_goes o x k item) skips own once of_done of_item)

  -- One item more, of any kind, by skips of its own.
  module _ (done : List Item) (item : Item) (rest : List Item) (come : items_by k bytes ≡ done ++ item ∷ rest) (skips : List CallId) (now : Run) (m : IsMidway o r k bytes done skips now)
      (own : List CallId) (next : Run) (made : next ≡ handled o own now k item) (run : IsRun o next) (among : AreAmong (new_arrivals now next) own) where
    so_made : next ≡ handled o own (handled_all o skips (took_bytes r k bytes) k done) k item
    so_made = made ∙ ap (λ (x : Run). handled o own x k item) m.is

    once_made : ArrivalsOk (handled o own (handled_all o skips (took_bytes r k bytes) k done) k item)
    once_made = subst ArrivalsOk so_made (run_ok run).of_arrivals

    of_done : AreAmong (new_arrivals r (handled_all o skips (took_bytes r k bytes) k done)) skips
    of_done = subst (λ (x : Run). AreAmong (new_arrivals r x) skips) m.is m.own

    of_item : AreAmong (new_arrivals (handled_all o skips (took_bytes r k bytes) k done) (handled o own (handled_all o skips (took_bytes r k bytes) k done) k item)) own
    of_item = subst (λ (x : Run). AreAmong (new_arrivals x (handled o own (handled_all o skips (took_bytes r k bytes) k done) k item)) own) m.is (subst (λ (x : Run). AreAmong (new_arrivals now x) own) so_made among)

    pub item_midway : MayAsk next (with_bytes k bytes) (first_number + length done + 1) → IsMidway o r k bytes (done ++ item ∷ []) (skips ++ own) next
    item_midway may = record {
      run = run;
      is = so_made ∙ sym (items_more done item skips own once_made of_done of_item);
      own = subst (λ (x : Run). AreAmong (new_arrivals r x) (skips ++ own)) (items_more done item skips own once_made of_done of_item ∙ sym so_made) (among_both done item skips own once_made of_done of_item);
      may = subst (λ n. MayAsk next (with_bytes k bytes) n) (one_more done item rest come skips now m) may;
    }

    -- The run is given up at it, whatever comes after it.
    pub full_midway : next.full ≡ true → (handled_all o (skips ++ own) (took_bytes r k bytes) k (done ++ item ∷ rest)).full ≡ true
    full_midway full =
        ap (λ (x : Run). x.full) (handled_all-append o (skips ++ own) (took_bytes r k bytes) k done (item ∷ rest))
        ∙ handled_all_full o (skips ++ own) (handled o (skips ++ own) (handled_all o (skips ++ own) (took_bytes r k bytes) k done) k item) k rest
        (ap (λ (x : Run). x.full) (item_more done item skips own once_made of_done of_item ∙ sym so_made) ∙ full)

    pub own_midway : AreAmong (new_arrivals r (handled_all o (skips ++ own) (took_bytes r k bytes) k (done ++ item ∷ rest))) (skips ++ own)
    own_midway =
        let both = skips ++ own in
        let taken = took_bytes r k bytes in
        let mid = handled_all o both taken k (done ++ item ∷ []) in
        let last = handled_all o both mid k rest in
        let whole : handled_all o both taken k (done ++ item ∷ rest) ≡ last =
        handled_all-append o both taken k done (item ∷ rest) ∙ ap (λ (x : Run). handled_all o both x k rest) (sym (handled_all-append o both taken k done (item ∷ []))) in
        subst (λ (x : Run). AreAmong (new_arrivals r x) both) (sym whole)
        (among_more taken mid last both ((handled_all_goes o taken k (done ++ item ∷ [])).grows both) ((handled_all_goes o mid k rest).grows both) (among_both done item skips own once_made of_done of_item))

  -- A call may come next.
  module _ (done : List Item) (item : Item) (q : Request) (named : IsNumbered (record { conn = k.conn; number = first_number + length done }) item ≡ IsNamed (record { conn = k.conn; number = first_number + length done }) q) (rest : List Item)
      (come : items_by k bytes ≡ done ++ item ∷ rest) (skips : List CallId) (now : Run) (m : IsMidway o r k bytes done skips now) where
    as_named : IsNamed (record { conn = k.conn; number = first_number + length done }) q
    as_named = subst (λ (X : Type 0). X) named (numbered_at k.conn first_number done item rest (numbered done item rest come skips now m))

    pub its_name : q.id ≡ record { conn = k.conn; number = first_number + length done }
    its_name = as_named.0

    pub next_midway : IsNext now q
    next_midway = is_next now (with_bytes k bytes) (first_number + length done) q m.may (its_number done item rest come skips now m) its_name as_named.1

-- lines of bytes

-- the run after bytes on a connection, which may not have been opened
abbrev pub on_bytes : Object Request Partition → List CallId → Run → List ℕ → Option Connection → Run
on_bytes o skips r bytes found = elim found [ None ↦ next_line r | Some c ↦ bytes_arrived o skips r c bytes ]

-- The close of a connection adds to those that came to their end.
closes_among : (o : Object Request Partition) (r now after : Run) (c : ℕ) (skips : List CallId) → Grows r now → after ≡ forsaken now c → AreAmong (new_arrivals r now) skips → AreAmong (new_arrivals r after) skips
closes_among o r now after c skips grows is among =
    subst (λ (x : Run). AreAmong (new_arrivals r x) skips) (sym is) (among_more r now (forsaken now c) skips grows ((forsaken_goes o now c).grows skips) among)

module _ (o : Object Request Partition) (r : Run) (c : ℕ) (bytes : List ℕ) where
  does_nothing_on : Option Connection → Bool
  does_nothing_on found = elim found [ None ↦ true | Some k ↦ not (takes_bytes o r k) ]

  pub unopened_does_nothing : connection_of r c ≡ None → does_nothing o r (Arrive c bytes) ≡ true
  unfolding does_nothing_on
  unopened_does_nothing none = ap does_nothing_on none

  pub unopened_line : (skips : List CallId) → connection_of r c ≡ None → after_line o skips r (Arrive c bytes) ≡ next_line r
  unopened_line skips none = ap (on_bytes o skips r bytes) none

  module _ (k : Connection) (there : connection_of r c ≡ Some k) where
    pub closed_does_nothing : takes_bytes o r k ≡ false → does_nothing o r (Arrive c bytes) ≡ true
    unfolding does_nothing_on
    closed_does_nothing closed = ap does_nothing_on there ∙ ap not closed

    pub open_does_something : takes_bytes o r k ≡ true → does_nothing o r (Arrive c bytes) ≡ false
    unfolding does_nothing_on
    open_does_something takes = ap does_nothing_on there ∙ ap not takes

    on_takes : (skips : List CallId) (takes : Bool) → takes_bytes o r k ≡ takes
        → after_line o skips r (Arrive c bytes) ≡ cond takes (forsaken (handled_all o skips (took_bytes r k bytes) k (items_by k bytes)) k.conn) (next_line r)
    on_takes skips takes same =
        ap (on_bytes o skips r bytes) there
        ∙ ap (λ b. cond b (forsaken (handled_all o skips (took_bytes r k bytes) k (items_by k bytes)) k.conn) (next_line r)) same

    pub closed_line : (skips : List CallId) → takes_bytes o r k ≡ false → after_line o skips r (Arrive c bytes) ≡ next_line r
    closed_line skips closed = on_takes skips false closed

    module _ (takes : takes_bytes o r k ≡ true) where
      pub taken_line : (skips : List CallId) → after_line o skips r (Arrive c bytes) ≡ forsaken (handled_all o skips (took_bytes r k bytes) k (items_by k bytes)) k.conn
      taken_line skips = on_takes skips true takes

      -- All items were handled.
      module _ (done : List Item) (skips : List CallId) (now : Run) (come : items_by k bytes ≡ done) (m : IsMidway o r k bytes done skips now) where
        pub ended_line : after_line o skips r (Arrive c bytes) ≡ forsaken now k.conn
        ended_line = taken_line skips ∙ ap (λ items. forsaken (handled_all o skips (took_bytes r k bytes) k items) k.conn) come ∙ ap (λ (x : Run). forsaken x k.conn) (sym m.is)

        pub ended_skips : AreOfLine o r (Arrive c bytes) skips
        ended_skips = closes_among o (took_bytes r k bytes) now (after_line o skips r (Arrive c bytes)) k.conn skips
            (subst (λ (x : Run). Grows (took_bytes r k bytes) x) (sym m.is) ((handled_all_goes o (took_bytes r k bytes) k done).grows skips)) ended_line m.own

-- The run is given up.
pub given_up_line : (settings : Settings) (r : Run) (c : ℕ) (bytes : List ℕ) (k : Connection) → connection_of r c ≡ Some k → takes_bytes (partition_object settings) r k ≡ true
    → IsGivenUpMidway settings r k bytes (items_by k bytes) → IsGivenUp settings r (Arrive c bytes)
given_up_line settings r c bytes k there takes up =
    let o = partition_object settings in
    let taken = took_bytes r k bytes in
    let all = handled_all o up.skips taken k (items_by k bytes) in
    let line = taken_line o r c bytes k there takes up.skips in
    record {
      skips = up.skips;
      of_line = closes_among o taken all (after_line o up.skips r (Arrive c bytes)) k.conn up.skips ((handled_all_goes o taken k (items_by k bytes)).grows up.skips) line up.own;
      full = ap (λ (x : Run). x.full) line ∙ forsaken_full all k.conn up.full;
    }
