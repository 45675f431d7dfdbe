-- How many events a line with masters adds to a partition: one where it asks for something, and as many as are delivered where messages flow. The masters' own messages publish one decision at most, each.
use Rattle.std.proofs.Common.{◌≡◌, ℕ, zero, suc, ◌≤◌, Bool, true, false, not, ◌&&◌, ◌==◌, cond, List, [], ◌∷◌, ◌++◌, map, length, slice_get, Option, Some, None, refl, ap, sym, ◌∙◌, subst, ⊎_elim, inl, inr, append-nil, arith}
use Rattle.grid_base.specs.Objects.{Object}
use Rattle.grid_base.specs.declared.names.CallId.{CallId}
use Rattle.grid_base.specs.declared.calls.Request.{Request}
use Rattle.object_store.specs.Partitions.{Partition}
use Rattle.partition_protocol.specs.Events.{Event, Crash, Detect}
use Rattle.partition_protocol.specs.Links.{link}
use Rattle.partition_protocol.specs.Service.{numbers_below}
use Rattle.partition_protocol.proofs.Lists.{on_if}
use Rattle.partition_protocol.proofs.RowFacts.{both_left}
use Rattle.partition_world.specs.LinkOrder.{links_of, is_busy}
use Rattle.partition_world.specs.declared.Link.{Link}
use Rattle.masters_protocol.specs.Claims.{IsSound}
use Rattle.masters_protocol.specs.Machine.{pending}
use Rattle.masters_world.specs.Decisions.{Decision, event_of}
use Rattle.masters_world.specs.Machine.{Ruled, Line, Asks, Told, taking, proposing, asked_by, at_once, published_by, events_by}
use Rattle.masters_world.proofs.Lines.{Single, publishes_single, either, at_once_others}
use Rattle.script_lang.specs.Lines.{IsWithin}
use Rattle.script_lang.specs.declared.line.Line.{Line as ScriptLine}
use Rattle.script_lang.specs.declared.line.Line.TheVariants as line
use Rattle.replay_run.specs.Grids.{AreFew}
use Rattle.replay_run.specs.Rebalancing.{most_line_events}
use Rattle.replay_run.specs.Runs.{Run, partitions, world_at, delivery_on, next_line, takes}
use Rattle.replay_run.proofs.Bounds.{next_few, stays_few}
use Rattle.replay_run.proofs.TakenApart.{TakesFew, few_none, few_wider, few_both, TakesFewIn, few_in_none, few_in_given_up, few_in_wider, few_in_both, takes_one, takes_delivery, flows_in_order}
use Rattle.replay_run.proofs.Trails.{find_some}
use Rattle.masters_run.specs.Runs.{RuledRun, has_masters, opening_masters, masters_at, ruled_at, takes_each, given_up, goes, goes_in, is_to_member, link_to_member, flowed, flowed_in, link_between, handing_over, flowed_between, counted}
use Rattle.masters_run.specs.AfterLines.{by_grid, unruled, Asked, asked_at, by_partition, ruled_line, after_line}
use Rattle.masters_run.proofs.Coming.{AllHaveCome, come_sound, goes_come, counted_come}
use Rattle.masters_run.proofs.Going.{is_held_up, asked_run, through, through_more}
use Rattle.masters_run.proofs.QuietGoing.{quiet_events}
use Rattle.masters_run.proofs.RuledRuns.{flowed_on, between_on}

-- one event at most

pub single_event : (j : Ruled Request) → IsSound j.masters → (l : Line Request) → length (events_by j l) ≤ 1
single_event j sound l = ⊎_elim published at_once_only (either j l)
  where
    of_decisions : (ds : List Decision) → Single ds → length (map (event_of {C = Request} j.world.members) ds) ≤ 1
    of_decisions ds (inl e) = subst (λ xs. length (map (event_of {C = Request} j.world.members) xs) ≤ 1) (sym e) (omega arith)
    of_decisions ds (inr (d, e)) = subst (λ xs. length (map (event_of {C = Request} j.world.members) xs) ≤ 1) (sym e) (omega arith)

    published : at_once j l ≡ [] → length (events_by j l) ≤ 1
    published none = subst (λ es. length (es ++ map (event_of j.world.members) (published_by j l)) ≤ 1) (sym none) (of_decisions (published_by j l) (publishes_single j sound l))

    at_once_only : published_by j l ≡ [] → length (events_by j l) ≤ 1
    at_once_only none =
        subst (λ ds. length (at_once j l ++ map (event_of j.world.members) ds) ≤ 1) (sym none) (subst (λ es. length es ≤ 1) (sym (append-nil (at_once j l))) (at_once_others j l).few)

module _ (o : Object Request Partition) (skips : List CallId) where
  pub each_few : (r : Run) (p : ℕ) (es : List (Event Request)) → TakesFewIn p (length es) (length es) r (takes_each o skips r p es)
  each_few r p [] = few_in_none p r
  each_few r p (e ∷ es) = few_in_wider (omega arith) (omega arith) (few_in_both (takes_one o skips r p e) (each_few (takes o skips r p e) p es))

  pub goes_few : (s : RuledRun) (p : ℕ) (l : Line Request) → length (events_by (ruled_at o s p) l) ≤ 1 → TakesFewIn p 1 1 s.run (goes o skips s p l).run
  goes_few s p l one =
      on_if (λ (x : RuledRun). TakesFewIn p 1 1 s.run x.run) (is_held_up o skips s p l) (given_up s) (asked_run o skips s p l)
      (few_in_wider (omega arith) (omega arith) (few_in_given_up p s.run)) (few_in_wider one one (each_few s.run p (events_by (ruled_at o s p) l)))

  -- whatever the masters are: those of so many members
  module _ (n : ℕ) where
    come_few : (s : RuledRun) → AllHaveCome n s → (p : ℕ) (l : Line Request) → TakesFewIn p 1 1 s.run (goes o skips s p l).run
    come_few s come p l = goes_few s p l (single_event (ruled_at o s p) (come_sound n (masters_at s p) (come.each p)) l)

    through_come : (s : RuledRun) (l : Line Request) → AllHaveCome n s → (k : ℕ) → AllHaveCome n (through o skips s l k)
    through_come s l come zero = come
    through_come s l come (suc k) = subst (AllHaveCome n) (sym (through_more o skips s l k)) (goes_come o skips n (through o skips s l k) k l (through_come s l come k))

    -- in each of so many partitions
    pub through_few : (s : RuledRun) (l : Line Request) → AllHaveCome n s → (k : ℕ) → TakesFew k k s.run (through o skips s l k).run
    through_few s l come zero = few_none s.run
    through_few s l come (suc k) =
        let mid = through o skips s l k in
        subst (λ (x : RuledRun). TakesFew (suc k) (suc k) s.run x.run) (sym (through_more o skips s l k))
        (few_wider (omega arith) (omega arith) (few_both (through_few s l come k) (come_few mid (through_come s l come k) k l).few))

    pub between_few : (s : RuledRun) (p most : ℕ) → AllHaveCome n s → TakesFewIn p most most s.run (flowed_between o skips s p most).run
    between_few s p zero come = few_in_none p s.run
    between_few s p (suc most) come = go (link_between (masters_at s p)) (λ x. between_few x p most)
      where
        go : (next : Option Link) → ((x : RuledRun) → AllHaveCome n x → TakesFewIn p most most x.run (flowed_between o skips x p most).run) → TakesFewIn p (suc most) (suc most) s.run (between_on o skips s p most next).run
        go None more = few_in_wider (omega arith) (omega arith) (few_in_none p s.run)
        go (Some l) more =
            few_in_wider (omega arith) (omega arith) (few_in_both (come_few s come p (handing_over l)) (more (goes o skips s p (handing_over l)) (goes_come o skips n s p (handing_over l) come)))

  -- A delivery to a member asks the masters nothing, and happens.

  pub asks_none : (j : Ruled Request) (l : Link) → (l.to == j.world.members) ≡ false → asked_by j (Asks (delivery_on l)) ≡ []
  asks_none j l other = ap (λ b. proposing (cond (b && not (pending j.masters)) (taking l.from 0 (slice_get (link l.from l.to j.world.packets) 0)) [])) other

  pub happens_alone : (j : Ruled Request) (l : Link) → (l.to == j.world.members) ≡ false → events_by j (Asks (delivery_on l)) ≡ delivery_on l ∷ []
  happens_alone j l other = quiet_events j (Asks (delivery_on l)) (asks_none j l other) ∙ ap (λ b. cond b [] (delivery_on l ∷ [])) other

  pub to_member : (s : RuledRun) (p : ℕ) (l : Link) → link_to_member (world_at o s.run p) ≡ Some l → (l.to == (world_at o s.run p).members) ≡ false
  to_member s p l found =
      let w = world_at o s.run p in
      not_so (l.to == w.members) (both_left (not (l.to == w.members)) (is_busy w l) (find_some (is_to_member w) (links_of w.members) l found).1)
    where
      not_so : (b : Bool) → not b ≡ true → b ≡ false
      not_so true e = absurd cc
      not_so false e = refl

  delivery_few : (s : RuledRun) (p : ℕ) (l : Link) → link_to_member (world_at o s.run p) ≡ Some l → TakesFewIn p 1 0 s.run (goes o skips s p (Asks (delivery_on l))).run
  delivery_few s p l found =
      let asked = Asks (delivery_on l) in
      on_if (λ (x : RuledRun). TakesFewIn p 1 0 s.run x.run) (is_held_up o skips s p asked) (given_up s) (asked_run o skips s p asked)
      (few_in_wider (omega arith) (omega arith) (few_in_given_up p s.run))
      (subst (λ es. TakesFewIn p 1 0 s.run (takes_each o skips s.run p es)) (sym (happens_alone (ruled_at o s p) l (to_member s p l found))) (takes_delivery o skips s.run p l.from l.to 0))

  pub flowed_few : (s : RuledRun) (p most : ℕ) → TakesFewIn p most 0 s.run (flowed o skips s p most).run
  flowed_few s p zero = few_in_none p s.run
  flowed_few s p (suc most) = go (link_to_member (world_at o s.run p)) refl (λ x. flowed_few x p most)
    where
      go : (next : Option Link) → link_to_member (world_at o s.run p) ≡ next → ((x : RuledRun) → TakesFewIn p most 0 x.run (flowed o skips x p most).run) → TakesFewIn p (suc most) 0 s.run (flowed_on o skips s p most next).run
      go None found more = few_in_wider (omega arith) (omega arith) (few_in_none p s.run)
      go (Some l) found more = few_in_wider (omega arith) (omega arith) (few_in_both (delivery_few s p l found) (more (goes o skips s p (Asks (delivery_on l)))))

  -- in each partition

  flowed_in-append : (s : RuledRun) (most : ℕ) (ps qs : List ℕ) → flowed_in o skips s most (ps ++ qs) ≡ flowed_in o skips (flowed_in o skips s most ps) most qs
  flowed_in-append s most [] qs = refl
  flowed_in-append s most (p ∷ ps) qs = flowed_in-append (flowed o skips s p most) most ps qs

  abbrev flowed_so_far : RuledRun → ℕ → ℕ → Run
  flowed_so_far s most k = (flowed_in o skips s most (numbers_below k)).run

  one_more_few : (s : RuledRun) (most k : ℕ) → TakesFewIn k most 0 (flowed_so_far s most k) (flowed_so_far s most (suc k))
  one_more_few s most k =
      let mid = flowed_in o skips s most (numbers_below k) in
      subst (λ (x : RuledRun). TakesFewIn k most 0 mid.run x.run) (sym (flowed_in-append s most (numbers_below k) (k ∷ []))) (flowed_few mid k most)

  pub flowed_in_few : (s : RuledRun) (most k : ℕ) → TakesFew most 0 s.run (flowed_in o skips s most (numbers_below k)).run
  flowed_in_few s most k = flows_in_order (flowed_so_far s most) most (one_more_few s most) k

  -- lines

  abbrev FewAfter : RuledRun → Type 0
  FewAfter x = AreFew x.run

  added_few : (s next : RuledRun) (most reopens : ℕ) → most ≤ most_line_events → TakesFew most reopens (next_line s.run) next.run → AreFew s.run → AreFew next.run
  added_few s next most reopens size added few p =
      let f = few p in
      let m = added.few p in
      let lines = added.kept.lines in
      omega (arith, size, f, m, lines)

  module _ (n members size : ℕ) (s : RuledRun) (come : AllHaveCome n s) (few : AreFew s.run) where
    abbrev now : RuledRun
    now = counted s

    now_come : AllHaveCome n (counted s)
    now_come = counted_come o skips n s come

    all_few : (l : Line Request) → AreFew (goes_in o skips (counted s) l (numbers_below partitions)).run
    all_few l = added_few s (goes_in o skips now l (numbers_below partitions)) partitions partitions (omega arith) (through_few n now l now_come partitions) few

    asked_few : (p : ℕ) (l : Line Request) → AreFew (goes o skips (counted s) p l).run
    asked_few p l = added_few s (goes o skips now p l) 1 1 (omega arith) (come_few n now now_come p l).few few

    partition_few : (l : ScriptLine) (a : Option Asked) → IsWithin members size l → AreFew (by_partition o skips s l a).run
    partition_few l None within = stays_few o skips s.run members size l within few
    partition_few l (Some a) within = asked_few a.partition a.line

    ruled_line_few : (l : ScriptLine) → IsWithin members size l → AreFew (ruled_line o skips s l).run
    ruled_line_few line.Masters within = next_few o skips s.run few
    ruled_line_few (line.Rebalance most) within = next_few o skips s.run few
    ruled_line_few (line.Flow p most) within = added_few s (flowed o skips now p most) most 0 (let m = within.2 in omega (arith, m)) (flowed_few now p most).few few
    ruled_line_few (line.FlowAll most) within = added_few s (flowed_in o skips now most (numbers_below partitions)) most 0 (let m = within.1 in omega (arith, m)) (flowed_in_few now most partitions) few
    ruled_line_few (line.MasterFlow p most) within = added_few s (flowed_between o skips now p most) most most (let m = within.2 in omega (arith, m)) (between_few n now p most now_come).few few
    ruled_line_few (line.Told m x) within = all_few (Told m x)
    ruled_line_few (line.Crash m) within = all_few (Asks (Crash m))
    ruled_line_few (line.Detect m) within = all_few (Asks (Detect m))
    ruled_line_few l within = partition_few l (asked_at l) within

    unruled_few : (l : ScriptLine) → IsWithin members size l → AreFew (unruled o skips s l).run
    unruled_few line.Masters within =
        on_if FewAfter (s.run.lines == 1) (record (counted s) { masters = opening_masters s.run.members }) (by_grid o skips s line.Masters) (next_few o skips s.run few) (stays_few o skips s.run members size line.Masters within few)
    unruled_few l within = stays_few o skips s.run members size l within few

    -- A line within its limits adds 5,014 events of a partition at most beside those of its calls.
    pub line_few : (l : ScriptLine) → IsWithin members size l → AreFew (after_line o skips s l).run
    line_few l within = on_if FewAfter (has_masters s) (ruled_line o skips s l) (unruled o skips s l) (ruled_line_few l within) (unruled_few l within)
