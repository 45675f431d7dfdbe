-- `flow` where a grid has masters: one delivery after another, each of them the first message of the first link to a member that has one.
use Rattle.std.proofs.Common.{◌≡◌, ℕ, zero, suc, ◌+◌, ◌-◌, ◌<◌, ◌≤◌, true, false, true≢false, not, ◌==◌, cond, List, [], ◌∷◌, ◌++◌, length, drop, Option, Some, None, refl, ap, sym, ◌∙◌, subst, append-nil, append_assoc, arith}
use Rattle.std.proofs.lemmas.List.{drop_all}
use Rattle.std.proofs.Math.Seq.{drop-append_seam}
use Rattle.grid_base.specs.Objects.{Object}
use Rattle.grid_base.specs.declared.names.CallId.{CallId}
use Rattle.grid_base.specs.declared.calls.Request.{Request}
use Rattle.object_store.specs.Partitions.{Partition}
use Rattle.call_engine.specs.Calls.{Settings}
use Rattle.call_engine.specs.Objects.{partition_object}
use Rattle.partition_protocol.specs.Events.{Event}
use Rattle.partition_protocol.specs.Sequences.{IsFrontOf}
use Rattle.partition_protocol.specs.Service.{numbers_below}
use Rattle.partition_protocol.proofs.Lists.{in_contains}
use Rattle.partition_protocol.proofs.RowFacts.{false_or_not, both_left}
use Rattle.partition_world.specs.declared.Link.{Link}
use Rattle.partition_world.specs.declared.event.Happened.{Happened}
use Rattle.partition_world.specs.LinkOrder.{links_of, is_busy}
use Rattle.masters_world.specs.Machine.{Asks, asked_by, at_once_of}
use Rattle.line_told.specs.declared.told.Told.{Told}
use Rattle.replay_run.specs.Runs.{Run, partitions, world_at, delivery_on, takes}
use Rattle.replay_run.specs.Appending.{new_messages}
use Rattle.replay_run.specs.Endings.{AreAmong, new_arrivals}
use Rattle.replay_run.specs.Printing.{deliveries}
use Rattle.replay_run.specs.Grids.{FormOf}
use Rattle.replay_run.specs.LineTold.{all_told}
use Rattle.replay_run.specs.WorldCalls.{GivesUpSo}
use Rattle.replay_run.specs.WorldCalls as grid
use Rattle.replay_run.proofs.Flowing.{delivered, deliveries_are, deliveries_counted, had_room, took_one}
use Rattle.replay_run.proofs.Growing.{Grows}
use Rattle.replay_run.proofs.LineTexts.{told-append, new_with}
use Rattle.replay_run.proofs.Trails.{find_some}
use Rattle.masters_run.specs.declared.grid.RuledGrid.{RuledGrid}
use Rattle.masters_run.specs.Runs.{RuledRun, has_masters, ruled_at, takes_each, goes, is_to_member, link_to_member, flowed, flowed_in}
use Rattle.masters_run.specs.Grids.{Rules}
use Rattle.masters_run.specs.Steps.{IsAmid, Onward, Tellings, HasGoneOn, GivesUp, delivering, HasFlowed}
use Rattle.masters_run.proofs.RuledRuns.{flowed_on}
use Rattle.masters_run.proofs.RuledGrowing.{flowed_goes, flowed_in_goes}
use Rattle.masters_run.proofs.RuleLemmas.{quiet_rules}
use Rattle.masters_run.proofs.Composing.{TellsBy, tells_by_run, gone_further, gives_up_then, gives_up_first, SameSteps, gone_at, gone_as, up_as}
use Rattle.masters_run.proofs.Loops.{flowed_run}
use Rattle.masters_run.proofs.AtOnce.{goes_at_once}

-- messages, of two parts of a line

pub new_messages_both : (r mid last : Run) → IsFrontOf r.appended mid.appended → IsFrontOf mid.appended last.appended → new_messages r last ≡ new_messages r mid ++ new_messages mid last
new_messages_both r mid last (first, a) (then, b) =
    let whole : r.appended ++ (first ++ then) ≡ last.appended = sym (append_assoc r.appended first then) ∙ ap (λ ms. ms ++ then) a ∙ b in
    ap (λ ms. drop (length r.appended) ms) (sym whole) ∙ drop-append_seam r.appended (first ++ then)
    ∙ sym (λ i. (ap (λ ms. drop (length r.appended) ms) (sym a) ∙ drop-append_seam r.appended first) i ++ (ap (λ ms. drop (length mid.appended) ms) (sym b) ∙ drop-append_seam mid.appended then) i)

-- what was appended since, as it is told
abbrev pub told_since : RuledRun → RuledRun → List Told
told_since s next = all_told (new_messages s.run next.run)

told_both : (s mid last : RuledRun) → Grows s.run mid.run → Grows mid.run last.run → told_since s last ≡ told_since s mid ++ told_since mid last
told_both s mid last a b = ap all_told (new_messages_both s.run mid.run last.run a.appended b.appended) ∙ told-append (new_messages s.run mid.run) (new_messages mid.run last.run)

-- a delivery to a member

module _ (o : Object Request Partition) (s : RuledRun) (p : ℕ) (l : Link) (next : link_to_member (world_at o s.run p) ≡ Some l) where
  to_member : (l.to == (world_at o s.run p).members) ≡ false
  to_member = false_or_not (l.to == (world_at o s.run p).members) (λ is. true≢false (sym (both_left (not (l.to == (world_at o s.run p).members)) (is_busy (world_at o s.run p) l) (find_some (is_to_member (world_at o s.run p)) (links_of (world_at o s.run p).members) l next).1) ∙ ap not is))

  pub delivery_asks_none : asked_by (ruled_at o s p) (Asks (delivery_on l)) ≡ []
  delivery_asks_none = rw to_member refl

  pub delivery_at_once : at_once_of (ruled_at o s p) (delivery_on l) ≡ delivery_on l ∷ []
  delivery_at_once = ap (λ b. cond b [] (delivery_on l ∷ [])) to_member

  pub delivery_goes : (skips : List CallId) → p < length s.masters → goes o skips s p (Asks (delivery_on l)) ≡ record s { run = takes o skips s.run p (delivery_on l) }
  delivery_goes skips low =
      goes_at_once o s p (delivery_on l) delivery_asks_none skips low
      ∙ ap (λ es. record s { run = takes_each o skips s.run p es }) delivery_at_once

-- flows in parts

module _ (o : Object Request Partition) (skips : List CallId) where
  pub flowed_none : (s : RuledRun) (p most : ℕ) → link_to_member (world_at o s.run p) ≡ None → flowed o skips s p most ≡ s
  flowed_none s p zero none = refl
  flowed_none s p (suc most) none = ap (flowed_on o skips s p most) none

  pub flowed_some : (s : RuledRun) (p most : ℕ) (l : Link) → link_to_member (world_at o s.run p) ≡ Some l → flowed o skips s p (suc most) ≡ flowed o skips (goes o skips s p (Asks (delivery_on l))) p most
  flowed_some s p most l some = ap (flowed_on o skips s p most) some

  pub flowed_parts : (s : RuledRun) (p a b all : ℕ) → a + b ≡ all → flowed o skips s p all ≡ flowed o skips (flowed o skips s p a) p b
  flowed_parts s p zero b all e = let same : all ≡ b = omega (arith, e) in ap (flowed o skips s p) same
  flowed_parts s p (suc a) b zero e = absurd (omega (arith, e))
  flowed_parts s p (suc a) b (suc all) e = go (link_to_member (world_at o s.run p)) refl (λ x. flowed_parts x p a b all left)
    where
      left : a + b ≡ all
      left = omega (arith, e)

      go : (next : Option Link) → link_to_member (world_at o s.run p) ≡ next → ((x : RuledRun) → flowed o skips x p all ≡ flowed o skips (flowed o skips x p a) p b) → flowed o skips s p (suc all) ≡ flowed o skips (flowed o skips s p (suc a)) p b
      go None none parts = flowed_none s p (suc all) none ∙ sym (ap (λ x. flowed o skips x p b) (flowed_none s p (suc a) none) ∙ flowed_none s p b none)
      go (Some l) some parts = flowed_some s p all l some ∙ parts (goes o skips s p (Asks (delivery_on l))) ∙ sym (ap (λ x. flowed o skips x p b) (flowed_some s p a l some))

-- Of a flow of one partition so many messages were delivered.
pub record HasDelivered {V : Type 0} {T : V → Type 0} (form : FormOf V T) (settings : Settings) (grid : RuledGrid V T) (s : RuledRun) (p number : ℕ) (earlier later : List Told) : Type 0 where
  pub on : HasGoneOn form settings grid s (λ k. flowed (partition_object settings) k s p number) (λ k. told_since s (flowed (partition_object settings) k s p number)) earlier later
  pub counts : delivered (flowed (partition_object settings) on.skips s p number).run ≡ delivered s.run + number

abbrev pub told_by : Settings → RuledRun → ℕ → ℕ → Tellings
told_by settings s p n skips = told_since s (delivering settings s p n skips)

none_since : (s : RuledRun) → told_since s s ≡ []
none_since s = ap all_told (drop_all (length s.run.appended) s.run.appended (omega arith))

pub none_delivered : {V : Type 0} {T : V → Type 0} {form : FormOf V T} {settings : Settings} (grid : RuledGrid V T) (s : RuledRun) (p : ℕ) (later : List Told) → IsAmid form settings grid s → HasDelivered form settings grid s p 0 later later
none_delivered grid s p later amid = record {
  on = record { skips = []; own = λ id c. absurd (in_contains id [] c); amid = amid; added = sym (append-nil later) ∙ ap (λ xs. later ++ xs) (sym (none_since s)) };
  counts = omega arith;
}

module _ (settings : Settings) (s : RuledRun) (p : ℕ) where
  abbrev o : Object Request Partition
  o = partition_object settings

  so_tells : (x : RuledRun) (n : ℕ) → TellsBy x (delivering settings x p n) (told_by settings x p n)
  so_tells x n = tells_by_run x (delivering settings x p n) (told_since x) (flowed_goes o x p n)

  -- in two parts
  so_parts : (a b all : ℕ) → a + b ≡ all → SameSteps (λ k. delivering settings (delivering settings s p a k) p b k) (delivering settings s p all) (λ k. told_by settings s p a k ++ told_by settings (delivering settings s p a k) p b k) (told_by settings s p all)
  so_parts a b all e = record {
    leads = λ k. sym (flowed_parts o k s p a b all e);
    says = λ k.
        (let mid = delivering settings s p a k in
        let last = delivering settings mid p b k in
        sym (told_both s mid last ((flowed_goes o s p a).by.grows k) ((flowed_goes o mid p b).by.grows k)) ∙ ap (told_since s) (sym (flowed_parts o k s p a b all e)));
  }

  module _ {V : Type 0} {T : V → Type 0} {form : FormOf V T} (mid : RuledGrid V T) (number : ℕ) (earlier so_far : List Told) (did : HasDelivered form settings mid s p number earlier so_far) where
    -- the run by then
    abbrev pub by_then : RuledRun
    by_then = delivering settings s p number did.on.skips

    pub delivered_so : HasFlowed form settings mid s p number number earlier so_far
    delivered_so = record { on = did.on; deliveries = deliveries_are s.run by_then.run number ((flowed_goes o s p number).by.grows did.on.skips).events did.counts }

    -- No message to a member is left.
    pub none_left : link_to_member (world_at o by_then.run p) ≡ None → (most : ℕ) → number ≤ most → HasFlowed form settings mid s p most number earlier so_far
    none_left none most below =
        let k = did.on.skips in
        let same : by_then ≡ delivering settings s p most k = sym (flowed_parts o k s p number (most - number) most (omega (arith, below)) ∙ flowed_none o k by_then p (most - number) none) in
        let on = gone_at {other = delivering settings s p most} {also = told_by settings s p most} did.on same (ap (told_since s) same) in
        record {
          on = on.0;
          deliveries =
              ap (λ x. deliveries s.run (delivering settings s p most x).run) on.1 ∙ ap (λ (x : RuledRun). deliveries s.run x.run) (sym same)
              ∙ deliveries_are s.run by_then.run number ((flowed_goes o s p number).by.grows k).events did.counts;
        }

    -- The first message of that link is next.
    module _ (l : Link) (next : link_to_member (world_at o by_then.run p) ≡ Some l) (low : p < length by_then.masters) where
      -- one delivery is that event, as the grid takes it
      one_step : (k : List CallId) → delivering settings by_then p (suc zero) k ≡ record by_then { run = takes o k by_then.run p (delivery_on l) }
      one_step k = flowed_some o k by_then p zero l next ∙ delivery_goes o by_then p l next k low

      module _ (is_ruled : has_masters by_then ≡ true) (placed : p < partitions) where
        taken_on : (new : RuledGrid V T) → new.masters ≡ mid.masters → (e : Event Request) → e ≡ delivery_on l → (happened : Happened) (later : List Told) → grid.HasTaken form settings new.grid by_then.run p e happened so_far later
            → HasGoneOn form settings new by_then (delivering settings by_then p (suc zero)) (told_by settings by_then p (suc zero)) so_far later
        taken_on new kept e is happened later taken =
            let k = taken.on.skips in
            let next_run = takes o k by_then.run p e in
            let same : delivering settings by_then p (suc zero) k ≡ record by_then { run = next_run } = one_step k ∙ ap (λ x. record by_then { run = takes o k by_then.run p x }) (sym is) in
            let asked = delivery_goes o by_then p l next k low in
            let its : goes o k by_then p (Asks (delivery_on l)) ≡ record by_then { run = next_run } = asked ∙ ap (λ x. record by_then { run = takes o k by_then.run p x }) (sym is) in
            let rules = quiet_rules settings mid.masters.items k by_then p (Asks (delivery_on l)) is_ruled placed (delivery_asks_none o by_then p l next) (ap (λ (x : RuledRun). x.run.full) its ∙ taken.on.on.amid.holds.goes_on) did.on.amid.masters in
            record {
              skips = k;
              own = subst (λ (x : RuledRun). AreAmong (new_arrivals by_then.run x.run) k) (sym same) taken.on.own;
              amid = subst (IsAmid form settings new) (sym same) (record {
                grid = taken.on.on.amid;
                masters = subst (λ ms. Rules settings ms (record by_then { run = next_run })) (ap (λ ms. ms.items) (sym kept)) (subst (Rules settings mid.masters.items) its rules);
              });
              added = taken.on.on.added ∙ ap (λ ms. so_far ++ all_told ms) (sym (new_with by_then.run next_run taken.on.on.messages taken.on.on.appended)) ∙ ap (λ (x : RuledRun). so_far ++ told_since by_then x) (sym same);
            }

        pub one_delivered : (new : RuledGrid V T) → new.masters ≡ mid.masters → (e : Event Request) → e ≡ delivery_on l → (happened : Happened) (later : List Told) → grid.HasTaken form settings new.grid by_then.run p e happened so_far later
            → HasDelivered form settings new s p (number + 1) earlier later
        one_delivered new kept e is happened later taken =
            let step = taken_on new kept e is happened later taken in
            let whole = gone_further settings s (delivering settings s p number) (λ x. delivering settings x p (suc zero)) (told_by settings s p number) (λ x. told_by settings x p (suc zero)) (so_tells s number) (λ x. so_tells x (suc zero)) mid new earlier so_far later did.on step in
            let parts = so_parts number (suc zero) (number + 1) (omega arith) in
            let all = gone_as parts whole.on in
            let k = taken.on.skips in
            let last : (delivering settings s p (number + 1) all.0.skips).run ≡ takes o step.skips by_then.run p (delivery_on l) =
            ap (λ x. (delivering settings s p (number + 1) x).run) all.1 ∙ ap (λ (x : RuledRun). x.run) (sym (parts.leads whole.on.skips) ∙ whole.same.then_same ∙ one_step step.skips) in
            let one = took_one o step.skips by_then.run p l (had_room o k by_then.run p (delivery_on l) (ap (λ x. (takes o k by_then.run p x).full) (sym is) ∙ taken.on.on.amid.holds.goes_on)) in
            let before = did.counts in
            let counted = ap delivered last in
            record { on = all.0; counts = omega (arith, counted, one, before) }

        -- or that meets the partition full
        pub meets_full_at : (most : ℕ) → number < most → (e : Event Request) → e ≡ delivery_on l → GivesUpSo by_then.run (λ k. takes o k by_then.run p e) → GivesUp s (delivering settings s p most)
        meets_full_at most below e is full =
            let rest = most - suc number in
            let up : GivesUp by_then (delivering settings by_then p (suc zero)) = record {
              skips = full.skips;
              own = subst (λ (x : RuledRun). AreAmong (new_arrivals by_then.run x.run) full.skips) (sym (one_step full.skips)) (subst (λ x. AreAmong (new_arrivals by_then.run (takes o full.skips by_then.run p x)) full.skips) is full.own);
              full = ap (λ (x : RuledRun). x.run.full) (one_step full.skips) ∙ ap (λ x. (takes o full.skips by_then.run p x).full) (sym is) ∙ full.full;
            } in
            let far = up_as (λ k. sym (flowed_parts o k by_then p (suc zero) rest (suc rest) (omega arith)))
            (gives_up_first settings by_then (delivering settings by_then p (suc zero)) (λ x. delivering settings x p rest) (told_by settings by_then p (suc zero)) (λ x. told_by settings x p rest) (so_tells by_then (suc zero)) (λ x. so_tells x rest) up) in
            up_as (so_parts number (suc rest) most (omega (arith, below))).leads
            (gives_up_then settings s (delivering settings s p number) (λ x. delivering settings x p (suc rest)) (told_by settings s p number) (λ x. told_by settings x p (suc rest)) (so_tells s number) (λ x. so_tells x (suc rest)) mid mid earlier so_far [] did.on far
            (λ t. flowed_run o t by_then p (suc rest) did.on.amid.grid.run))

-- in the first partitions

abbrev pub delivering_in : Settings → RuledRun → ℕ → ℕ → Onward
delivering_in settings s most n skips = flowed_in (partition_object settings) skips s most (numbers_below n)

abbrev pub told_in : Settings → RuledRun → ℕ → ℕ → Tellings
told_in settings s most n skips = told_since s (delivering_in settings s most n skips)

-- So many messages were delivered there.
pub record HasFlowedIn {V : Type 0} {T : V → Type 0} (form : FormOf V T) (settings : Settings) (grid : RuledGrid V T) (s : RuledRun) (most n count : ℕ) (earlier later : List Told) : Type 0 where
  pub on : HasGoneOn form settings grid s (delivering_in settings s most n) (told_in settings s most n) earlier later
  pub counts : delivered (delivering_in settings s most n on.skips).run ≡ delivered s.run + count

pub none_in : {V : Type 0} {T : V → Type 0} {form : FormOf V T} {settings : Settings} (grid : RuledGrid V T) (s : RuledRun) (most : ℕ) (later : List Told) → IsAmid form settings grid s → HasFlowedIn form settings grid s most 0 0 later later
none_in grid s most later amid = record {
  on = record { skips = []; own = λ id c. absurd (in_contains id [] c); amid = amid; added = sym (append-nil later) ∙ ap (λ xs. later ++ xs) (sym (none_since s)) };
  counts = omega arith;
}

flowed_in-append : (o : Object Request Partition) (skips : List CallId) (s : RuledRun) (most : ℕ) (ps qs : List ℕ) → flowed_in o skips s most (ps ++ qs) ≡ flowed_in o skips (flowed_in o skips s most ps) most qs
flowed_in-append o skips s most [] qs = refl
flowed_in-append o skips s most (p ∷ ps) qs = flowed_in-append o skips (flowed o skips s p most) most ps qs

module _ (settings : Settings) (s : RuledRun) (most : ℕ) where
  in_tells : (n : ℕ) → TellsBy s (delivering_in settings s most n) (told_in settings s most n)
  in_tells n = tells_by_run s (delivering_in settings s most n) (told_since s) (flowed_in_goes (partition_object settings) s most (numbers_below n))

  in_same : (n : ℕ) → SameSteps (λ k. delivering settings (delivering_in settings s most n k) n most k) (delivering_in settings s most (n + 1)) (λ k. told_in settings s most n k ++ told_by settings (delivering_in settings s most n k) n most k) (told_in settings s most (n + 1))
  in_same n = record {
    leads = leads;
    says = λ k.
        (let mid = delivering_in settings s most n k in
        let last = delivering settings mid n most k in
        sym (told_both s mid last ((flowed_in_goes (partition_object settings) s most (numbers_below n)).by.grows k) ((flowed_goes (partition_object settings) mid n most).by.grows k)) ∙ ap (told_since s) (leads k));
  }
    where
      leads : (k : List CallId) → delivering settings (delivering_in settings s most n k) n most k ≡ delivering_in settings s most (n + 1) k
      leads k = let one : suc n ≡ n + 1 = omega arith in sym (flowed_in-append (partition_object settings) k s most (numbers_below n) (n ∷ [])) ∙ ap (λ m. delivering_in settings s most m k) one

  module _ {V : Type 0} {T : V → Type 0} {form : FormOf V T} (mid new : RuledGrid V T) (n count : ℕ) (earlier so_far : List Told) (did : HasFlowedIn form settings mid s most n count earlier so_far) where
    -- the run by then
    abbrev pub flowed_by_then : RuledRun
    flowed_by_then = delivering_in settings s most n did.on.skips

    -- and in one more
    pub flowed_in_more : (more : ℕ) (later : List Told) → HasFlowed form settings new flowed_by_then n most more so_far later → HasFlowedIn form settings new s most (n + 1) (count + more) earlier later
    flowed_in_more more later flow =
        let whole = gone_further settings s (delivering_in settings s most n) (λ x. delivering settings x n most) (told_in settings s most n) (λ x. told_by settings x n most) (in_tells n) (λ x. so_tells settings s n x most) mid new earlier so_far later did.on flow.on in
        let all = gone_as (in_same n) whole.on in
        let next = delivering settings flowed_by_then n most flow.on.skips in
        let last : (delivering_in settings s most (n + 1) all.0.skips).run ≡ next.run =
        ap (λ x. (delivering_in settings s most (n + 1) x).run) all.1 ∙ ap (λ (x : RuledRun). x.run) (sym ((in_same n).leads whole.on.skips) ∙ whole.same.then_same) in
        let counted = ap delivered last in
        let before = did.counts in
        let step = deliveries_counted flowed_by_then.run next.run ((flowed_goes (partition_object settings) flowed_by_then n most).by.grows flow.on.skips).events in
        let its = flow.deliveries in
        record { on = all.0; counts = omega (arith, counted, before, step, its) }

    -- or it is given up there
    pub gives_up_in : (all : ℕ) → n < all → GivesUp flowed_by_then (delivering settings flowed_by_then n most) → GivesUp s (delivering_in settings s most all)
    gives_up_in all below b =
        let now = gives_up_then settings s (delivering_in settings s most n) (λ x. delivering settings x n most) (told_in settings s most n) (λ x. told_by settings x n most) (in_tells n) (λ x. so_tells settings s n x most) mid new earlier so_far [] did.on b
        (λ t. flowed_run (partition_object settings) t flowed_by_then n most did.on.amid.grid.run) in
        rest (all - (n + 1)) all (omega (arith, below)) (up_as (in_same n).leads now)
      where
        rest : (more last : ℕ) → (n + 1) + more ≡ last → GivesUp s (delivering_in settings s most (n + 1)) → GivesUp s (delivering_in settings s most last)
        rest zero last e up = let same : n + 1 ≡ last = omega (arith, e) in subst (λ m. GivesUp s (delivering_in settings s most m)) same up
        rest (suc more) last e up =
            let before = n + 1 + more in
            let same : before + 1 ≡ last = omega (arith, e) in
            subst (λ m. GivesUp s (delivering_in settings s most m)) same
            (up_as (in_same before).leads
            (gives_up_first settings s (delivering_in settings s most before) (λ x. delivering settings x before most) (told_in settings s most before) (λ x. told_by settings x before most) (in_tells before) (λ x. so_tells settings s before x most) (rest more before refl up)))
