-- Who is skipped: what a line asks of the skips it asks of calls that come to their end at it, so the skips of two parts of a line, or of two lines, can be put together.
use Rattle.std.proofs.Common.{◌≡◌, ◌≢◌, Bool, true, false, ◌||◌, List, [], ◌∷◌, ◌++◌, length, drop, map, Contains, append_assoc, refl, arith, ap, sym, ◌∙◌, subst, ⊎_elim, inl, inr}
use Rattle.std.proofs.Math.Seq.{drop-append_seam}
use Rattle.grid_base.specs.Objects.{Object}
use Rattle.grid_base.specs.declared.names.CallId.{CallId}
use Rattle.grid_base.specs.declared.calls.Request.{Request}
use Rattle.grid_base.specs.Names.{is_same_call}
use Rattle.partition_protocol.specs.Arrivals.{NamedOnce}
use Rattle.partition_protocol.specs.Sequences.{IsFrontOf}
use Rattle.partition_protocol.proofs.Lists.{In, in_left, in_right, in_cases, in_contains, contains_in}
use Rattle.partition_protocol.proofs.RowFacts.{false_or_not}
use Rattle.script_lang.specs.declared.line.Line.{Line}
use Rattle.object_store.specs.Partitions.{Partition}
use Rattle.replay_run.specs.Runs.{Run, Connection, Arrival, is_skipped, handled, handled_all}
use Rattle.replay_run.specs.AfterLines.{after_line}
use Rattle.replay_run.specs.Endings.{AreAmong, new_arrivals}
use Rattle.replay_run.specs.Skips.{AgreeOn}
use Rattle.session_core.specs.declared.item.Item.{Item}
use Rattle.replay_run.proofs.Parts.{named_append}
use Rattle.replay_run.proofs.Places.{same_call}
use Rattle.replay_run.proofs.RunFacts.{ArrivalsOk, arrival_name, id_name}
use Rattle.replay_run.proofs.Growing.{GoesBy, Agree, line_goes}

-- who is skipped

pub skipped_by_either : (k skips : List CallId) (id : CallId) → is_skipped (k ++ skips) id ≡ is_skipped k id || is_skipped skips id
skipped_by_either [] skips id = refl
skipped_by_either (x ∷ k) skips id = ap (λ b. is_same_call id x || b) (skipped_by_either k skips id) ∙ grind (arith)

pub not_skipped : (k : List CallId) (id : CallId) → ((x : CallId) → In x k → is_same_call id x ≡ false) → is_skipped k id ≡ false
not_skipped [] id h = refl
not_skipped (x ∷ k) id h = rw (h x (inl refl)) (not_skipped k id (λ y i. h y (inr i)))

pub unless_same : (a b : CallId) → a ≢ b → is_same_call a b ≡ false
unless_same a b different = false_or_not (is_same_call a b) (λ e. different (same_call a b e))

-- the arrivals that are new are those of the growth
pub new_of : (r next : Run) (front : IsFrontOf r.arrivals next.arrivals) → new_arrivals r next ≡ front.0
new_of r next front = ap (drop (length r.arrivals)) (sym front.1) ∙ drop-append_seam r.arrivals front.0

-- skips that are none of these calls
none_skipped : (names : List CallId) (come : List Arrival) (a : Arrival) → AreAmong come names → ((b : Arrival) → In b come → a.request.id ≢ b.request.id) → is_skipped names a.request.id ≡ false
none_skipped names come a among apart = not_skipped names a.request.id (λ x i.
    let from = among x (contains_in x names i) in
    unless_same a.request.id x (λ e. apart from.0 (in_contains from.0 come from.1) (e ∙ sym from.2)))

either_left : (b : Bool) → b || false ≡ b
either_left true = refl
either_left false = refl

-- One step with skips of its own, and then another with its own: both go so with the skips of either.
module _ (r : Run) (first : List CallId → Run) (then : Run → List CallId → Run) (g : GoesBy r first) (h : (x : Run) → GoesBy x (then x)) (s t : List CallId)
    (once : ArrivalsOk (then (first s) t)) (of_first : AreAmong (new_arrivals r (first s)) s) (of_then : AreAmong (new_arrivals (first s) (then (first s) t)) t) where
  abbrev mid : Run
  mid = first s

  abbrev last : Run
  last = then mid t

  abbrev first_come : List Arrival
  first_come = (g.grows s).arrivals.0

  abbrev then_come : List Arrival
  then_come = ((h mid).grows t).arrivals.0

  among_first : AreAmong first_come s
  among_first = subst (λ come. AreAmong come s) (new_of r mid (g.grows s).arrivals) of_first

  among_then : AreAmong then_come t
  among_then = subst (λ come. AreAmong come t) (new_of mid last ((h mid).grows t).arrivals) of_then

  -- those of the first step and of the other have no name in common
  apart : (a b : Arrival) → In a first_come → In b then_come → a.request.id ≢ b.request.id
  apart a b i j e =
      let whole : mid.arrivals ++ then_come ≡ last.arrivals = ((h mid).grows t).arrivals.1 in
      let there = subst (In a) (g.grows s).arrivals.1 (in_right a r.arrivals first_come i) in
      named_append arrival_name mid.arrivals then_come a b (subst (λ xs. NamedOnce (map arrival_name xs)) (sym whole) once.once) there j (ap id_name e)

  pub alike_first : Agree (g.tries s) (s ++ t) s
  alike_first a i =
      let none = none_skipped t then_come a among_then (λ b j. apart a b (g.come s a i) j) in
      skipped_by_either s t a.request.id ∙ ap (λ b. is_skipped s a.request.id || b) none ∙ either_left (is_skipped s a.request.id)

  alike_then : Agree ((h mid).tries t) (s ++ t) t
  alike_then a i =
      let none = none_skipped s first_come a among_first (λ b j e. apart b a j ((h mid).come t a i) (sym e)) in
      skipped_by_either s t a.request.id ∙ ap (λ b. b || is_skipped t a.request.id) none

  pub both_go : then (first (s ++ t)) (s ++ t) ≡ last
  both_go =
      ap (λ x. then x (s ++ t)) (sym (g.alike s (s ++ t) (λ a i. sym (alike_first a i))))
      ∙ sym ((h mid).alike t (s ++ t) (λ a i. sym (alike_then a i)))

  -- and the skips of either are among those of both

  whole_come : r.arrivals ++ (first_come ++ then_come) ≡ last.arrivals
  whole_come = sym (append_assoc r.arrivals first_come then_come) ∙ ap (λ xs. xs ++ then_come) (g.grows s).arrivals.1 ∙ ((h mid).grows t).arrivals.1

  among_left : (id : CallId) → In id s → (a : Arrival) × Contains (first_come ++ then_come) a × (a.request.id ≡ id)
  among_left id i =
      let from = among_first id (contains_in id s i) in
      (from.0, contains_in from.0 (first_come ++ then_come) (in_left from.0 first_come then_come (in_contains from.0 first_come from.1)), from.2)

  among_right : (id : CallId) → In id t → (a : Arrival) × Contains (first_come ++ then_come) a × (a.request.id ≡ id)
  among_right id i =
      let from = among_then id (contains_in id t i) in
      (from.0, contains_in from.0 (first_come ++ then_come) (in_right from.0 first_come then_come (in_contains from.0 then_come from.1)), from.2)

  among_either : AreAmong (first_come ++ then_come) (s ++ t)
  among_either id c = ⊎_elim (among_left id) (among_right id) (in_cases id s t (in_contains id (s ++ t) c))

  pub both_among : AreAmong (new_arrivals r (then (first (s ++ t)) (s ++ t))) (s ++ t)
  both_among =
      subst (λ x. AreAmong (new_arrivals r x) (s ++ t)) (sym both_go)
      (subst (λ come. AreAmong come (s ++ t)) (sym (new_of r last (first_come ++ then_come, whole_come))) among_either)

-- the items of a front, and then the others
pub handled_all-append : (o : Object Request Partition) (skips : List CallId) (r : Run) (c : Connection) (first then : List Item)
    → handled_all o skips r c (first ++ then) ≡ handled_all o skips (handled_all o skips r c first) c then
handled_all-append o skips r c [] then = refl
handled_all-append o skips r c (item ∷ items) then = handled_all-append o skips (handled o skips r c item) c items then

-- lines that agree on all arrivals after one
pub skips_alike : (o : Object Request Partition) (s k : List CallId) (r : Run) (line : Line) → AgreeOn (after_line o s r line).arrivals s k → after_line o s r line ≡ after_line o k r line
skips_alike o s k r line agree =
    let g = line_goes o r line in
    let front = (g.grows s).arrivals in
    g.alike s k (λ a i. agree a (contains_in a (after_line o s r line).arrivals (subst (In a) front.1 (in_right a r.arrivals front.0 (g.come s a i)))))
