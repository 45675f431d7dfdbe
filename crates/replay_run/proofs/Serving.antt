-- Calls that wait have their turns, one after the other, and the grid follows.
use Rattle.std.proofs.Common.{◌≡◌, ℕ, zero, suc, ◌+◌, ◌-◌, ◌≤◌, ◌<◌, ◌==◌, Bool, true, false, ◌&&◌, List, [], ◌∷◌, ◌++◌, length, Option, Some, None, refl, ap, sym, ◌∙◌, subst, append-nil, append_assoc, add-one, ⊎_elim, arith}
use Rattle.std.specs.Option.{option_map}
use Rattle.std.proofs.lemmas.Bool.{cases_eq}
use Rattle.std.specs.List.{find}
use Rattle.grid_base.specs.Objects.{Object}
use Rattle.grid_base.specs.declared.names.CallId.{CallId}
use Rattle.grid_base.specs.declared.calls.Request.{Request}
use Rattle.object_store.specs.Partitions.{Partition}
use Rattle.partition_protocol.specs.Service.{numbers_below}
use Rattle.partition_protocol.proofs.Lists.{in_contains, on_if}
use Rattle.waiting_protocol.specs.Machine.{Fate, Stays, Runs, Starves, IsRefused, Leaves, is_over}
use Rattle.call_engine.specs.Calls.{Settings}
use Rattle.call_engine.specs.Objects.{partition_object}
use Rattle.replay_run.specs.declared.grid.Grid.{Grid}
use Rattle.replay_run.specs.Runs.{Run, Waiter, world_at, is_connection, is_full, is_skipped, asked, asks, given_up, without, ending, leaves, leaves_so, fate_now, is_its_turn, next_in_turn, turn_of, served_so_often, served, served_in}
use Rattle.replay_run.specs.Endings.{new_arrivals, AreAmong}
use Rattle.replay_run.specs.Printing.{new_messages}
use Rattle.replay_run.specs.ScriptRuns.{IsRun}
use Rattle.replay_run.specs.Tables.{Table, Opened, opened_at, lines_answered, answered, with_answer}
use Rattle.replay_run.specs.Grids.{FormOf, IsSettled, IsCounting}
use Rattle.replay_run.specs.WorldCalls.{with_answers, Onward, GivesUpSo}
use Rattle.replay_run.specs.WaiterCalls.{IsBetween, handled_count, SameCounts, HasServed, by_turns, by_leaving}
use Rattle.replay_run.proofs.EventRuns.{fewer, run_turns, served_run}
use Rattle.replay_run.proofs.GivingUp.{stays_on, up_as, gives_up_first, gives_up_then}
use Rattle.replay_run.proofs.Growing.{GoesBy, turn_goes, so_often_goes, served_goes, served_in_goes}
use Rattle.replay_run.proofs.LineTexts.{new_with, told_more}
use Rattle.replay_run.proofs.RunFacts.{ArrivalsOk}
use Rattle.replay_run.proofs.RunsOfLines.{run_ok}
use Rattle.replay_run.proofs.SkipLaws.{both_go, both_among}
use Rattle.primary_hold.specs.declared.answer.CallAnswer.{CallAnswer}
use Rattle.replay_run.proofs.TableChanges.{length-changed_at, opened_changed, opened_unchanged}
use Rattle.replay_run.proofs.Trails.{find_some}
use Rattle.replay_run.proofs.Turns.{so_often_keeps}
use Rattle.replay_run.specs.LineTold.{all_told}
use Rattle.line_told.specs.declared.told.Told.{Told}

-- how many messages of each connection were handled

-- one that is opened was opened before, with as many
as_many : (old new : Option Opened) (o : Opened) → option_map handled_count new ≡ option_map handled_count old → new ≡ Some o → (x : Opened) × (old ≡ Some x) × (length o.calls ≡ length x.calls)
as_many old new o same is = go old (sym same ∙ ap (option_map handled_count) is)
  where
    go : (found : Option Opened) → option_map handled_count found ≡ Some (length o.calls) → (x : Opened) × (found ≡ Some x) × (length o.calls ≡ length x.calls)
    go None e = absurd cc
    go (Some x) e = let same : length x.calls ≡ length o.calls = cc in (x, refl, sym same)

pub settled_by : (old new : Table) (r next : Run) → SameCounts old new → next.connections ≡ r.connections → IsSettled old r → IsSettled new next
settled_by old new r next counts same settled c o k at there =
    let x = as_many (opened_at old c) (opened_at new c) o (counts c) at in
    x.2 ∙ settled c x.0 k x.1 (sym (ap (find (is_connection c)) same) ∙ there)

pub counting_by : (old new : Table) (r next : Run) (conn number : ℕ) → SameCounts old new → next.connections ≡ r.connections → IsCounting old r conn number → IsCounting new next conn number
counting_by old new r next conn number counts same counting = record {
  here = λ o at. let x = as_many (opened_at old conn) (opened_at new conn) o (counts conn) at in x.2 ∙ counting.here x.0 x.1;
  others = λ c o k apart at there.
      (let x = as_many (opened_at old c) (opened_at new c) o (counts c) at in
      x.2 ∙ counting.others c x.0 k apart x.1 (sym (ap (find (is_connection c)) same) ∙ there));
}

-- An answer that is given out changes none.

counts_answered : (t : Table) (id : CallId) (line : ℕ) → SameCounts t (with_answer t id line)
counts_answered t id line c = ⊎_elim here (λ apart. ap (option_map handled_count) (opened_unchanged t id.conn c (answered id.number line) apart)) (cases_eq c id.conn)
  where
    kept : (x : Option Opened) → option_map handled_count (option_map (answered id.number line) x) ≡ option_map handled_count x
    kept None = refl
    kept (Some x) = ap Some (length-changed_at (option_map (lines_answered line)) x.calls id.number)

    here : c ≡ id.conn → option_map handled_count (opened_at (with_answer t id line) c) ≡ option_map handled_count (opened_at t c)
    here e =
        subst (λ d. option_map handled_count (opened_at (with_answer t id line) d) ≡ option_map handled_count (opened_at t d)) (sym e)
        (ap (option_map handled_count) (opened_changed t id.conn (answered id.number line)) ∙ kept (opened_at t id.conn))

pub counts_answers : (line : ℕ) (answers : List CallAnswer) (t : Table) → SameCounts t (with_answers t line answers)
counts_answers line [] t c = refl
counts_answers line (answer ∷ answers) t c = counts_answers line answers (with_answer t answer.id line) c ∙ counts_answered t answer.id line c

-- step by step

module _ {V : Type 0} {T : V → Type 0} {form : FormOf V T} {settings : Settings} (own : Option ℕ) where
  pub served_nowhere : (grid : Grid V T) (r : Run) (later : List Told) → IsBetween form settings grid r own → HasServed form settings grid grid r own (λ s. r) later later
  served_nowhere grid r later between = record {
    skips = [];
    among = λ id c. absurd (in_contains id [] c);
    between = between;
    counts = λ c. refl;
    added = sym (ap (λ ms. later ++ all_told ms) (new_with r r [] (sym (append-nil r.appended))) ∙ append-nil later);
  }

  -- the same by another name of where that leads
  pub served_as : (old new : Grid V T) (r : Run) (f g : Onward) (earlier later : List Told) (a : HasServed form settings old new r own f earlier later) → f a.skips ≡ g a.skips → (c : HasServed form settings old new r own g earlier later) × (g c.skips ≡ f a.skips)
  served_as old new r f g earlier later a same = (
    record {
      skips = a.skips;
      among = subst (λ (x : Run). AreAmong (new_arrivals r x) a.skips) same a.among;
      between = subst (λ (x : Run). IsBetween form settings new x own) same a.between;
      counts = a.counts;
      added = a.added ∙ ap (λ (x : Run). earlier ++ all_told (new_messages r x)) same;
    },
    sym same,
  )

  -- one step, and then another: both with the skips of either
  module _ (old mid new : Grid V T) (r : Run) (first : Onward) (then : Run → Onward) (g : GoesBy r first) (h : (x : Run) → GoesBy x (then x)) (earlier so_far : List Told) (a : HasServed form settings old mid r own first earlier so_far) where
    pub served_further : (later : List Told) (b : HasServed form settings mid new (first a.skips) own (then (first a.skips)) so_far later)
        → (c : HasServed form settings old new r own (λ s. then (first s) s) earlier later) × (then (first c.skips) c.skips ≡ then (first a.skips) b.skips)
    served_further later b =
        let now = first a.skips in
        let last = then now b.skips in
        let once : ArrivalsOk last = (run_ok b.between.run).of_arrivals in
        let both = a.skips ++ b.skips in
        let same : then (first both) both ≡ last = both_go r first then g h a.skips b.skips once a.among b.among in
        let more = ((h now).grows b.skips).appended in (
          record {
            skips = both;
            among = both_among r first then g h a.skips b.skips once a.among b.among;
            between = subst (λ (x : Run). IsBetween form settings new x own) (sym same) b.between;
            counts = λ c. b.counts c ∙ a.counts c;
            added =
                b.added
                ∙ (λ i. a.added i ++ all_told (new_with now last more.0 (sym more.1) i))
                ∙ append_assoc earlier (all_told (new_messages r now)) (all_told more.0)
                ∙ ap (λ xs. earlier ++ xs) (sym (told_more r now last more.0 (g.grows a.skips).appended (sym more.1)))
                ∙ ap (λ (x : Run). earlier ++ all_told (new_messages r x)) (sym same);
          },
          same,
        )

-- so many turns in a list

module _ (o : Object Request Partition) (skips : List CallId) (own : Option ℕ) (p member : ℕ) where
  -- in two parts
  often_parts : (r : Run) (a b all : ℕ) → a + b ≡ all → served_so_often o skips own p member all r ≡ served_so_often o skips own p member b (served_so_often o skips own p member a r)
  often_parts r zero b all e = let same : all ≡ b = omega (arith, e) in ap (λ n. served_so_often o skips own p member n r) same
  often_parts r (suc a) b zero e = absurd (omega (arith, e))
  often_parts r (suc a) b (suc all) e = often_parts (turn_of o skips r own (next_in_turn o r p member)) a b all (omega (arith, e))

  -- one more
  pub often_more : (r : Run) (n : ℕ) → let now = served_so_often o skips own p member n r in served_so_often o skips own p member (n + 1) r ≡ turn_of o skips now own (next_in_turn o now p member)
  often_more r n = often_parts r n (suc zero) (n + 1) (omega arith)

  -- where nobody has a turn
  pub often_none : (r : Run) (n : ℕ) → next_in_turn o r p member ≡ None → served_so_often o skips own p member n r ≡ r
  often_none r zero none = refl
  often_none r (suc n) none = ap (λ next. served_so_often o skips own p member n (turn_of o skips r own next)) none ∙ often_none r n none

  -- As many turns as there are who wait are enough.
  pub no_turn_left : (r : Run) (n : ℕ) → n ≤ length r.waiters → next_in_turn o (served_so_often o skips own p member n r) p member ≡ None → served o skips r own p member ≡ served_so_often o skips own p member n r
  no_turn_left r n few none =
      let left : n + (length r.waiters - n) ≡ length r.waiters = omega (arith, few) in
      often_parts r n (length r.waiters - n) (length r.waiters) left ∙ often_none (served_so_often o skips own p member n r) (length r.waiters - n) none

-- A turn leaves one less.

abbrev one_waits_less : Run → Run → Type 0
one_waits_less r next = length next.waiters + 1 ≤ length r.waiters

pub first_holds : (a b : Bool) → a && b ≡ true → a ≡ true
first_holds true b e = refl
first_holds false b e = e

pub second_holds : (a b : Bool) → a && b ≡ true → b ≡ true
second_holds true b e = e
second_holds false b e = absurd cc

over_of : (o : Object Request Partition) (r : Run) (p member : ℕ) (w : Waiter) → is_its_turn o r p member w ≡ true → is_over (fate_now o r w) ≡ true
over_of o r p member w e = second_holds ((w.request.partition == p) && (w.member == member)) (is_over (fate_now o r w)) e

made_from : (o : Object Request Partition) (skips : List CallId) (r : Run) (own : Option ℕ) (w : Waiter) → (asks o skips (without r w) own (ending r w)).waiters ≡ (without r w).waiters
made_from o skips r own w =
    on_if (λ (x : Run). x.waiters ≡ (without r w).waiters) (is_full (world_at o (without r w) w.request.partition)) (given_up (leaves r w)) (asked o skips (without r w) own (ending r w)) refl
    (on_if (λ (x : Run). x.waiters ≡ (without r w).waiters) (is_skipped skips w.request.id) _ _ refl refl)

-- whoever leaves is no longer among those who wait
pub gone_from : (o : Object Request Partition) (skips : List CallId) (r : Run) (own : Option ℕ) (w : Waiter) (fate : Fate) → is_over fate ≡ true → (leaves_so o skips r own w fate).waiters ≡ (without r w).waiters
gone_from o skips r own w Stays over = absurd cc
gone_from o skips r own w Runs over = made_from o skips r own w
gone_from o skips r own w Starves over = made_from o skips r own w
gone_from o skips r own w (IsRefused why) over = refl
gone_from o skips r own w Leaves over = refl

pub turn_less : (o : Object Request Partition) (skips : List CallId) (r : Run) (own : Option ℕ) (p member : ℕ) (w : Waiter) → next_in_turn o r p member ≡ Some w → one_waits_less r (turn_of o skips r own (next_in_turn o r p member))
turn_less o skips r own p member w next =
    let k = find_some (is_its_turn o r p member) r.waiters w next in
    let less = fewer w r.waiters k.0 in
    let same = ap (λ (x : Option Waiter). length (turn_of o skips r own x).waiters) next ∙ ap length (gone_from o skips r own w (fate_now o r w) (over_of o r p member w k.1)) in
    omega (arith, less, same)

-- So many turns of a list were made, and what they appended was printed.
pub record HasTurned {V : Type 0} {T : V → Type 0} (form : FormOf V T) (settings : Settings) (old grid : Grid V T) (r : Run) (own : Option ℕ) (p member number : ℕ) (earlier later : List Told) : Type 0 where
  pub on : HasServed form settings old grid r own (λ skips. served_so_often (partition_object settings) skips own p member number r) earlier later
  pub few : length (served_so_often (partition_object settings) on.skips own p member number r).waiters + number ≤ length r.waiters

-- where turns lead
module _ (settings : Settings) (own : Option ℕ) (p member : ℕ) where
  abbrev so_often : ℕ → Run → Onward
  so_often n x skips = served_so_often (partition_object settings) skips own p member n x

  abbrev one_turn : Run → Onward
  one_turn x skips = turn_of (partition_object settings) skips x own (next_in_turn (partition_object settings) x p member)

module _ {V : Type 0} {T : V → Type 0} {form : FormOf V T} {settings : Settings} (old : Grid V T) (r : Run) (own : Option ℕ) (p member : ℕ) where
  pub none_turned : (later : List Told) → IsBetween form settings old r own → HasTurned form settings old old r own p member 0 later later
  none_turned later between = record { on = served_nowhere own old r later between; few = omega arith }

  module _ (grid : Grid V T) (number : ℕ) (earlier mid : List Told) (did : HasTurned form settings old grid r own p member number earlier mid) where
    -- the run by then
    abbrev pub turned_so_far : Run
    turned_so_far = served_so_often (partition_object settings) did.on.skips own p member number r

    module _ (w : Waiter) (next : next_in_turn (partition_object settings) turned_so_far p member ≡ Some w) where
      -- One more leaves.
      pub one_turned : (new : Grid V T) (later : List Told) → HasServed form settings grid new turned_so_far own (by_leaving settings turned_so_far own w) mid later → HasTurned form settings old new r own p member (number + 1) earlier later
      one_turned new later b =
          let o = partition_object settings in
          let now = turned_so_far in
          let step = served_as own grid new now (by_leaving settings now own w) (one_turn settings own p member now) mid later b (sym (ap (turn_of o b.skips now own) next)) in
          let whole = served_further own old grid new r (so_often settings own p member number r) (one_turn settings own p member) (so_often_goes o own p member number r) (λ x. turn_goes o x own (next_in_turn o x p member)) earlier mid did.on later step.0 in
          let all = served_as own old new r (λ s. one_turn settings own p member (so_often settings own p member number r s) s) (so_often settings own p member (number + 1) r) earlier later whole.0 (sym (often_more o whole.0.skips own p member r number)) in
          let same = ap (λ (x : Run). length x.waiters) (all.1 ∙ whole.1) in
          let less = turn_less o step.0.skips now own p member w next in
          let before = did.few in
          record { on = all.0; few = omega (arith, same, less, before) }

      -- or its call meets a full partition
      pub meets_one : GivesUpSo turned_so_far (by_leaving settings turned_so_far own w) → GivesUpSo r (by_turns settings r own p member)
      meets_one b =
          let o = partition_object settings in
          let now = turned_so_far in
          let there = fewer w now.waiters (find_some (is_its_turn o now p member) now.waiters w next).0 in
          let before = did.few in
          let rest = length r.waiters - (number + 1) in
          let e : number + suc rest ≡ length r.waiters = omega (arith, there, before) in
          let step = up_as now (by_leaving settings now own w) (one_turn settings own p member now) (λ s. sym (ap (turn_of o s now own) next)) b in
          let its = gives_up_first now (one_turn settings own p member now) (so_often settings own p member rest) (turn_goes o now own (next_in_turn o now p member)) (λ x. so_often_goes o own p member rest x) step in
          let whole = gives_up_then r (so_often settings own p member number r) (so_often settings own p member (suc rest)) (so_often_goes o own p member number r) (λ x. so_often_goes o own p member (suc rest) x) did.on.skips did.on.among its
          (λ s. so_often_keeps o s p (IsRun o) (run_turns s p) own member (suc rest) now did.on.between.run) in
          up_as r (λ s. so_often settings own p member (suc rest) (so_often settings own p member number r s) s) (by_turns settings r own p member) (λ s. sym (often_parts o s own p member r number (suc rest) (length r.waiters) e)) whole

    -- Nobody has a turn.
    pub all_turned : next_in_turn (partition_object settings) turned_so_far p member ≡ None → HasServed form settings old grid r own (by_turns settings r own p member) earlier mid
    all_turned none =
        let o = partition_object settings in
        let few : number ≤ length r.waiters = (let before = did.few in omega (arith, before)) in
        (served_as own old grid r (so_often settings own p member number r) (by_turns settings r own p member) earlier mid did.on (sym (no_turn_left o did.on.skips own p member r number few none))).0

-- list after list of a member

served_in-append : (o : Object Request Partition) (skips : List CallId) (r : Run) (member : ℕ) (ps qs : List ℕ) → served_in o skips r member (ps ++ qs) ≡ served_in o skips (served_in o skips r member ps) member qs
served_in-append o skips r member [] qs = refl
served_in-append o skips r member (p ∷ ps) qs = served_in-append o skips (served o skips r None p member) member ps qs

pub served_in_more : (o : Object Request Partition) (skips : List CallId) (r : Run) (member n : ℕ) → served_in o skips r member (numbers_below (suc n)) ≡ served o skips (served_in o skips r member (numbers_below n)) None n member
served_in_more o skips r member n = served_in-append o skips r member (numbers_below n) (n ∷ [])

-- where nobody waits at all
pub none_served : (o : Object Request Partition) (skips : List CallId) (r : Run) (member : ℕ) (ps : List ℕ) → r.waiters ≡ [] → served_in o skips r member ps ≡ r
none_served o skips r member [] nobody = refl
none_served o skips r member (p ∷ ps) nobody =
    ap (λ x. served_in o skips x member ps) (ap (λ (ws : List Waiter). served_so_often o skips None p member (length ws) r) nobody) ∙ none_served o skips r member ps nobody

-- where the turns of so many lists lead
module _ (settings : Settings) (r : Run) (member : ℕ) where
  abbrev pub by_lists : ℕ → Onward
  by_lists n skips = served_in (partition_object settings) skips r member (numbers_below n)

abbrev its_list : Settings → ℕ → ℕ → Run → Onward
its_list settings member n x = by_turns settings x None n member

module _ {V : Type 0} {T : V → Type 0} {form : FormOf V T} {settings : Settings} (old : Grid V T) (r : Run) (member : ℕ) where
  pub no_list : (later : List Told) → IsBetween form settings old r None → HasServed form settings old old r None (by_lists settings r member 0) later later
  no_list later between = served_nowhere None old r later between

  module _ (grid : Grid V T) (n : ℕ) (earlier mid : List Told) (did : HasServed form settings old grid r None (by_lists settings r member n) earlier mid) where
    -- the run by then
    abbrev pub served_so_far : Run
    served_so_far = served_in (partition_object settings) did.skips r member (numbers_below n)

    pub one_list : (new : Grid V T) (later : List Told) → HasServed form settings grid new served_so_far None (by_turns settings served_so_far None n member) mid later → HasServed form settings old new r None (by_lists settings r member (n + 1)) earlier later
    one_list new later b =
        let o = partition_object settings in
        let whole = served_further None old grid new r (by_lists settings r member n) (its_list settings member n) (served_in_goes o r member (numbers_below n)) (λ x. served_goes o x None n member) earlier mid did later b in
        (served_as None old new r (λ s. its_list settings member n (by_lists settings r member n s) s) (by_lists settings r member (n + 1)) earlier later whole.0
        (sym (ap (λ k. served_in o whole.0.skips r member (numbers_below k)) (add-one n) ∙ served_in_more o whole.0.skips r member n))).0

    -- or one meets its partition full
    pub list_full : (m : ℕ) → n < m → GivesUpSo served_so_far (by_turns settings served_so_far None n member) → GivesUpSo r (by_lists settings r member m)
    list_full m l full =
        let o = partition_object settings in
        let whole = gives_up_then r (by_lists settings r member n) (its_list settings member n) (served_in_goes o r member (numbers_below n)) (λ x. served_goes o x None n member) did.skips did.among full (λ s. served_run s served_so_far None n member did.between.run) in
        let next : GivesUpSo r (by_lists settings r member (suc n)) = up_as r (λ s. its_list settings member n (by_lists settings r member n s) s) (by_lists settings r member (suc n)) (λ s. sym (served_in_more o s r member n)) whole in
        stays_on (λ k. GivesUpSo r (by_lists settings r member k))
        (λ k up. up_as r (λ s. by_turns settings (by_lists settings r member k s) None k member s) (by_lists settings r member (suc k)) (λ s. sym (served_in_more o s r member k))
        (gives_up_first r (by_lists settings r member k) (λ x. by_turns settings x None k member) (served_in_goes o r member (numbers_below k)) (λ x. served_goes o x None k member) up))
        (suc n) m (omega (arith, l)) next

  pub lists_at : (grid : Grid V T) (n m : ℕ) (earlier later : List Told) → n ≡ m → HasServed form settings old grid r None (by_lists settings r member n) earlier later → HasServed form settings old grid r None (by_lists settings r member m) earlier later
  lists_at grid n m earlier later same = subst (λ k. HasServed form settings old grid r None (by_lists settings r member k) earlier later) same

  pub idle_lists : (ps : List ℕ) (later : List Told) → r.waiters ≡ [] → IsBetween form settings old r None → HasServed form settings old old r None (λ skips. served_in (partition_object settings) skips r member ps) later later
  idle_lists ps later nobody between =
      let its = served_nowhere None old r later between in
      (served_as None old old r (λ s. r) (λ s. served_in (partition_object settings) s r member ps) later later its (sym (none_served (partition_object settings) its.skips r member ps nobody))).0
