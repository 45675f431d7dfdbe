-- A line with masters that goes on step by step, each step with skips of its own: with the skips of all of them it goes the same way, and says the same.
use Rattle.std.proofs.Common.{◌≡◌, ◌≢◌, Bool, true, false, ◌||◌, List, [], ◌++◌, map, Contains, append_assoc, append-nil, refl, ap, sym, ◌∙◌, subst, ⊎_elim}
use Rattle.grid_base.specs.declared.names.CallId.{CallId}
use Rattle.call_engine.specs.Calls.{Settings}
use Rattle.call_engine.specs.Objects.{partition_object}
use Rattle.partition_protocol.specs.Arrivals.{NamedOnce}
use Rattle.partition_protocol.proofs.Lists.{In, in_left, in_right, in_cases, in_contains, contains_in}
use Rattle.line_told.specs.declared.told.Told.{Told}
use Rattle.replay_run.specs.Runs.{Run, Arrival, is_skipped}
use Rattle.replay_run.specs.Endings.{AreAmong, new_arrivals}
use Rattle.replay_run.specs.Grids.{FormOf}
use Rattle.replay_run.specs.ScriptRuns.{IsRun}
use Rattle.replay_run.specs.Skips.{AgreeOn}
use Rattle.replay_run.proofs.Growing.{Grows, grows_trans, Agree, GoesBy}
use Rattle.replay_run.proofs.Midway.{among_more}
use Rattle.replay_run.proofs.Parts.{named_append}
use Rattle.replay_run.proofs.RunFacts.{ArrivalsOk, arrival_name, id_name}
use Rattle.replay_run.proofs.RunsOfLines.{run_ok}
use Rattle.replay_run.proofs.SkipLaws.{skipped_by_either, not_skipped, unless_same, new_of}
use Rattle.masters_run.specs.declared.grid.RuledGrid.{RuledGrid}
use Rattle.masters_run.specs.Runs.{RuledRun}
use Rattle.masters_run.specs.Steps.{IsAmid, Onward, Tellings, HasGoneOn, GivesUp}
use Rattle.masters_run.proofs.RuledGrowing.{RuledGoesBy}

-- two lists of skips

either_left : (b : Bool) → b || false ≡ b
either_left true = refl
either_left false = refl

-- skips that are none of these calls
none_skipped : (names : List CallId) (come : List Arrival) (a : Arrival) → AreAmong come names → ((b : Arrival) → In b come → a.request.id ≢ b.request.id) → is_skipped names a.request.id ≡ false
none_skipped names come a among apart = not_skipped names a.request.id (λ x i.
    let from = among x (contains_in x names i) in
    unless_same a.request.id x (λ e. apart from.0 (in_contains from.0 come from.1) (e ∙ sym from.2)))

-- A run goes on to a second one with skips of its own, and that to a third with its own: those of both skip the same of what comes first, and the same of what comes then.
module _ (r mid last : Run) (first : Grows r mid) (then : Grows mid last) (once : ArrivalsOk last) (s t : List CallId) (of_first : AreAmong (new_arrivals r mid) s) (of_then : AreAmong (new_arrivals mid last) t) where
  apart : (a b : Arrival) → In a first.arrivals.0 → In b then.arrivals.0 → a.request.id ≢ b.request.id
  apart a b i j e =
      let there = subst (In a) first.arrivals.1 (in_right a r.arrivals first.arrivals.0 i) in
      named_append arrival_name mid.arrivals then.arrivals.0 a b (subst (λ xs. NamedOnce (map arrival_name xs)) (sym then.arrivals.1) once.once) there j (ap id_name e)

  among_first : AreAmong first.arrivals.0 s
  among_first = subst (λ come. AreAmong come s) (new_of r mid first.arrivals) of_first

  among_then : AreAmong then.arrivals.0 t
  among_then = subst (λ come. AreAmong come t) (new_of mid last then.arrivals) of_then

  pub first_alike : AgreeOn (new_arrivals r mid) s (s ++ t)
  first_alike a there =
      let i = subst (In a) (new_of r mid first.arrivals) (in_contains a (new_arrivals r mid) there) in
      let none = none_skipped t then.arrivals.0 a among_then (λ b j. apart a b i j) in
      sym (skipped_by_either s t a.request.id ∙ ap (λ b. is_skipped s a.request.id || b) none ∙ either_left (is_skipped s a.request.id))

  pub then_alike : AgreeOn (new_arrivals mid last) t (s ++ t)
  then_alike a there =
      let i = subst (In a) (new_of mid last then.arrivals) (in_contains a (new_arrivals mid last) there) in
      let none = none_skipped s first.arrivals.0 a among_first (λ b j e. apart b a j i (sym e)) in
      sym (skipped_by_either s t a.request.id ∙ ap (λ b. b || is_skipped t a.request.id) none)

  -- and they are among what comes

  in_whole : (a : Arrival) → In a (first.arrivals.0 ++ then.arrivals.0) → Contains (new_arrivals r last) a
  in_whole a i = contains_in a (new_arrivals r last) (subst (In a) (sym (new_of r last (grows_trans r mid last first then).arrivals)) i)

  among_left : (id : CallId) → In id s → (a : Arrival) × Contains (new_arrivals r last) a × (a.request.id ≡ id)
  among_left id i =
      let from = among_first id (contains_in id s i) in
      (from.0, in_whole from.0 (in_left from.0 first.arrivals.0 then.arrivals.0 (in_contains from.0 first.arrivals.0 from.1)), from.2)

  among_right : (id : CallId) → In id t → (a : Arrival) × Contains (new_arrivals r last) a × (a.request.id ≡ id)
  among_right id i =
      let from = among_then id (contains_in id t i) in
      (from.0, in_whole from.0 (in_right from.0 first.arrivals.0 then.arrivals.0 (in_contains from.0 then.arrivals.0 from.1)), from.2)

  pub both_among : AreAmong (new_arrivals r last) (s ++ t)
  both_among id c = ⊎_elim (among_left id) (among_right id) (in_cases id s t (in_contains id (s ++ t) c))

-- what is tried is among what comes
pub tried_alike : (r : Run) (onward : List CallId → Run) (g : GoesBy r onward) (k t : List CallId) → AgreeOn (new_arrivals r (onward k)) k t → Agree (g.tries k) k t
tried_alike r onward g k t all a i = all a (contains_in a (new_arrivals r (onward k)) (subst (In a) (sym (new_of r (onward k) (g.grows k).arrivals)) (g.come k a i)))

-- A run with masters goes on by the skips, and what it says asks no more of them.
pub record TellsBy (s : RuledRun) (onward : Onward) (tellings : Tellings) : Type 0 where
  pub by : RuledGoesBy s onward
  pub alike : (k t : List CallId) → AgreeOn (new_arrivals s.run (onward k).run) k t → tellings k ≡ tellings t

pub same_run : {s : RuledRun} {onward : Onward} (g : RuledGoesBy s onward) (k t : List CallId) → AgreeOn (new_arrivals s.run (onward k).run) k t → onward k ≡ onward t
same_run {s = s} {onward = onward} g k t agree = g.alike k t (tried_alike s.run (λ x. (onward x).run) g.by k t agree)

-- where what it says is told by where it leads
pub tells_by_run : (s : RuledRun) (onward : Onward) (said : RuledRun → List Told) → RuledGoesBy s onward → TellsBy s onward (λ k. said (onward k))
tells_by_run s onward said g = record { by = g; alike = λ k t agree. ap said (same_run g k t agree) }

-- One step, and then another from where that leads.
module _ (settings : Settings) (s : RuledRun) (first : Onward) (then : RuledRun → Onward) (tellings : Tellings) (more : RuledRun → Tellings) (g : TellsBy s first tellings) (h : (x : RuledRun) → TellsBy x (then x) (more x)) where
  -- the skips of both parts lead and say the same
  pub record GoSame (a b both : List CallId) : Type 0 where
    pub first_same : first both ≡ first a
    pub then_same : then (first both) both ≡ then (first a) b
    pub first_told : tellings both ≡ tellings a
    pub agrees : AgreeOn (new_arrivals s.run (first a).run) a both
    pub then_told : more (first both) both ≡ more (first a) b
    pub among : AreAmong (new_arrivals s.run (then (first both) both).run) both

  module _ (a b : List CallId) (once : ArrivalsOk (then (first a) b).run) (of_first : AreAmong (new_arrivals s.run (first a).run) a) (of_then : AreAmong (new_arrivals (first a).run (then (first a) b).run) b) where
    pub go_same : GoSame a b (a ++ b)
    go_same =
        let mid = first a in
        let last = then mid b in
        let up = g.by.by.grows a in
        let on = (h mid).by.by.grows b in
        let agree_first = first_alike s.run mid.run last.run up on once a b of_first of_then in
        let agree_then = then_alike s.run mid.run last.run up on once a b of_first of_then in
        let same_first : first (a ++ b) ≡ first a = sym (same_run g.by a (a ++ b) agree_first) in
        let same_then : then (first (a ++ b)) (a ++ b) ≡ then (first a) b = ap (λ x. then x (a ++ b)) same_first ∙ sym (same_run (h mid).by b (a ++ b) agree_then) in
        record {
          first_same = same_first;
          then_same = same_then;
          first_told = sym (g.alike a (a ++ b) agree_first);
          agrees = agree_first;
          then_told = ap (λ x. more x (a ++ b)) same_first ∙ sym ((h mid).alike b (a ++ b) agree_then);
          among = subst (λ (x : RuledRun). AreAmong (new_arrivals s.run x.run) (a ++ b)) (sym same_then) (both_among s.run mid.run last.run up on once a b of_first of_then);
        }

  module _ {V : Type 0} {T : V → Type 0} {form : FormOf V T} (mid new : RuledGrid V T) (earlier so_far later : List Told) (a : HasGoneOn form settings mid s first tellings earlier so_far) where
    abbrev pub GoesFrom : Type 0
    GoesFrom = HasGoneOn form settings new (first a.skips) (then (first a.skips)) (more (first a.skips)) so_far later

    pub record HasGoneFurther (b : GoesFrom) : Type 0 where
      pub on : HasGoneOn form settings new s (λ k. then (first k) k) (λ k. tellings k ++ more (first k) k) earlier later
      pub same : GoSame a.skips b.skips on.skips

    pub gone_further : (b : GoesFrom) → HasGoneFurther b
    gone_further b =
        let once : ArrivalsOk (then (first a.skips) b.skips).run = (run_ok b.amid.grid.run).of_arrivals in
        let both = a.skips ++ b.skips in
        let same = go_same a.skips b.skips once a.own b.own in
        let told : earlier ++ (tellings both ++ more (first both) both) ≡ earlier ++ (tellings a.skips ++ more (first a.skips) b.skips) = λ i. earlier ++ (same.first_told i ++ same.then_told i) in
        record {
          on = record {
            skips = both;
            own = same.among;
            amid = subst (IsAmid form settings new) (sym same.then_same) b.amid;
            added = b.added ∙ ap (λ xs. xs ++ more (first a.skips) b.skips) a.added ∙ append_assoc earlier (tellings a.skips) (more (first a.skips) b.skips)
                ∙ sym told;
          };
          same = same;
        }

    -- or the run is given up at the other
    pub gives_up_then : GivesUp (first a.skips) (then (first a.skips)) → ((t : List CallId) → IsRun (partition_object settings) (then (first a.skips) t).run) → GivesUp s (λ k. then (first k) k)
    gives_up_then b runs =
        let same = go_same a.skips b.skips (run_ok (runs b.skips)).of_arrivals a.own b.own in
        record { skips = a.skips ++ b.skips; own = same.among; full = ap (λ (x : RuledRun). x.run.full) same.then_same ∙ b.full }

  -- or at the first
  pub gives_up_first : GivesUp s first → GivesUp s (λ k. then (first k) k)
  gives_up_first a =
      let mid = first a.skips in
      let on = (h mid).by.by.grows a.skips in
      record {
        skips = a.skips;
        own = among_more s.run mid.run (then mid a.skips).run a.skips (g.by.by.grows a.skips) on a.own;
        full = on.full a.full;
      }

-- nowhere yet
pub gone_nowhere : {V : Type 0} {T : V → Type 0} {form : FormOf V T} {settings : Settings} (grid : RuledGrid V T) (s : RuledRun) (later : List Told) → IsAmid form settings grid s → HasGoneOn form settings grid s (λ k. s) (λ k. []) later later
gone_nowhere grid s later amid = record { skips = []; own = λ id c. absurd (in_contains id [] c); amid = amid; added = sym (append-nil later) }

-- the same by other names of where it leads and of what it says
pub record SameSteps (first other : Onward) (tellings also : Tellings) : Type 0 where
  pub leads : (k : List CallId) → first k ≡ other k
  pub says : (k : List CallId) → tellings k ≡ also k

-- at the skips by which it has gone
pub gone_at : {V : Type 0} {T : V → Type 0} {form : FormOf V T} {settings : Settings} {new : RuledGrid V T} {s : RuledRun} {first other : Onward} {tellings also : Tellings} {earlier later : List Told}
    → (a : HasGoneOn form settings new s first tellings earlier later) → first a.skips ≡ other a.skips → tellings a.skips ≡ also a.skips → (c : HasGoneOn form settings new s other also earlier later) × (c.skips ≡ a.skips)
gone_at {form = form} {settings = settings} {new = new} {s = s} {earlier = earlier} a leads says = (
  record {
    skips = a.skips;
    own = subst (λ (x : RuledRun). AreAmong (new_arrivals s.run x.run) a.skips) leads a.own;
    amid = subst (IsAmid form settings new) leads a.amid;
    added = a.added ∙ ap (λ xs. earlier ++ xs) says;
  },
  refl,
)

pub gone_as : {V : Type 0} {T : V → Type 0} {form : FormOf V T} {settings : Settings} {new : RuledGrid V T} {s : RuledRun} {first other : Onward} {tellings also : Tellings} {earlier later : List Told} → SameSteps first other tellings also
    → (a : HasGoneOn form settings new s first tellings earlier later) → (c : HasGoneOn form settings new s other also earlier later) × (c.skips ≡ a.skips)
gone_as same a = gone_at a (same.leads a.skips) (same.says a.skips)

pub up_as : {s : RuledRun} {first other : Onward} → ((k : List CallId) → first k ≡ other k) → GivesUp s first → GivesUp s other
up_as {s = s} same a = record {
  skips = a.skips;
  own = subst (λ (x : RuledRun). AreAmong (new_arrivals s.run x.run) a.skips) (same a.skips) a.own;
  full = sym (ap (λ (x : RuledRun). x.run.full) (same a.skips)) ∙ a.full;
}
