-- Every run with masters is ruled: what `masters_world` proves of every list of lines holds in each partition of it.
use Rattle.std.proofs.Common.{◌≡◌, ℕ, ◌<◌, ◌≤◌, ◌==◌, true, false, cond, List, [], ◌∷◌, ◌++◌, length, map, filter, refl, ap, sym, ◌∙◌, subst, true≢false, arith}
use Rattle.std.proofs.Math.ListN.{length-replicate}
use Rattle.grid_base.specs.Objects.{Object}
use Rattle.grid_base.specs.declared.names.CallId.{CallId}
use Rattle.grid_base.specs.declared.calls.Request.{Request}
use Rattle.object_store.specs.Partitions.{Partition}
use Rattle.call_engine.specs.Calls.{Settings}
use Rattle.call_engine.specs.Objects.{partition_object}
use Rattle.partition_protocol.specs.World as world
use Rattle.partition_protocol.proofs.Lists.{on_cond}
use Rattle.partition_protocol.proofs.RowFacts.{false_or_not}
use Rattle.masters_protocol.specs.Machine.{Masters}
use Rattle.masters_protocol.specs.Machine as masters
use Rattle.masters_protocol.specs.Claims.{IsSound, Agrees}
use Rattle.masters_world.specs.Decisions.{Decision, event_of, is_of_service, all_decided}
use Rattle.masters_world.specs.Claims.{GoesUp}
use Rattle.masters_world.specs.Claims as composite
use Rattle.masters_world.specs.Machine.{Ruled, Line, start, after, asked}
use Rattle.masters_world.proofs.Theorem.{every_run_is_well_ruled, every_run_goes_on, after_append, masters_go}
use Rattle.script_lang.specs.declared.line.Line.{Line as ScriptLine}
use Rattle.script_lang.specs.declared.line.Line.TheVariants as line
use Rattle.replay_run.specs.Runs.{partitions, world_at}
use Rattle.replay_run.proofs.LineCounts as counts
use Rattle.replay_run.proofs.Places.{same_number}
use Rattle.masters_run.specs.Runs.{RuledRun, begun, are_some, has_masters, opening_masters, masters_at, ruled_at, counted}
use Rattle.masters_run.specs.AfterLines.{by_grid, unruled, ruled_line, after_line, after_lines}
use Rattle.masters_run.specs.Standing.{IsRuled}
use Rattle.masters_run.specs.Laws.{ruled_with, EveryRunIsRuled, EveryServiceServesAsPublished, EveryPublishedListGrows, EveryMastershipIsSound, MastersAgree, EveryMastershipAgrees}
use Rattle.masters_run.proofs.KeptLines.{line_lines, line_members}
use Rattle.masters_run.proofs.RuledGrowing.{ruled_line_grows, ruled_lines_grow}
use Rattle.masters_run.proofs.Going.{at_lines}
use Rattle.masters_run.proofs.Continuing.{Continues, continues_refl, both_continue, still_ruled, ruled_line_continues}
use Rattle.masters_run.proofs.RuleLemmas.{opening_of_lines}

some_there : (ws : List (Masters Decision)) → length ws ≡ partitions → are_some ws ≡ true
some_there [] none = absurd (omega (arith, none))
some_there (w ∷ ws) all = refl

module _ (o : Object Request Partition) where
  pub has_its_masters : (s : RuledRun) → IsRuled o s → has_masters s ≡ true
  has_its_masters s is = some_there s.masters is.count

  -- Masters come at the second line alone, before which nothing has happened.

  pub record Begins (s : RuledRun) : Type 0 where
    pub some : 1 ≤ s.run.members
    pub most : s.run.members ≤ 8
    pub beyond : 1 ≤ s.run.lines
    pub fresh : s.run.lines ≡ 1 → s.run.events ≡ []
    pub ruled : has_masters s ≡ true → s.run.full ≡ false → IsRuled o s

  -- it is ruled, if it has masters, and unless it is given up
  abbrev IsRuledIf : RuledRun → Type 0
  IsRuledIf x = has_masters x ≡ true → x.run.full ≡ false → IsRuled o x

  module _ (skips : List CallId) where
    -- a line of a grid with masters

    ruled_here : (s : RuledRun) (l : ScriptLine) → has_masters s ≡ true → after_line o skips s l ≡ ruled_line o skips s l
    ruled_here s l is = ap (λ b. cond b (ruled_line o skips s l) (unruled o skips s l)) is

    pub line_continues : (s : RuledRun) (l : ScriptLine) → IsRuled o s → (after_line o skips s l).run.full ≡ false → Continues o s (after_line o skips s l)
    line_continues s l is goes_on =
        let here = ruled_here s l (has_its_masters s is) in
        subst (Continues o s) (sym here) (ruled_line_continues o skips s l is (sym (ap (λ (x : RuledRun). x.run.full) here) ∙ goes_on))

    pub lines_continue : (s : RuledRun) (ls : List ScriptLine) → IsRuled o s → (after_lines o skips s ls).run.full ≡ false → Continues o s (after_lines o skips s ls)
    lines_continue s [] is goes_on = continues_refl o s
    lines_continue s (l ∷ ls) is goes_on =
        let mid = after_line o skips s l in
        both_continue o s mid (after_lines o skips mid ls) (ruled_lines_grow o skips mid ls).full (line_continues s l) (lines_continue mid ls) is goes_on

    opened : (s : RuledRun) → Begins s → s.run.lines ≡ 1 → IsRuledIf (record (counted s) { masters = opening_masters s.run.members })
    opened s b first is goes_on =
        let next : RuledRun = record (counted s) { masters = opening_masters s.run.members } in
        let first_masters : Masters Decision = masters.start s.run.members in
        record { count = length-replicate partitions first_masters; some = b.some; most = b.most; lines = λ p low. []; stands = λ p low. opening_of_lines o next p low refl (b.fresh first) }

    -- another line brings none
    none_yet : (s : RuledRun) (l : ScriptLine) → has_masters s ≡ false → IsRuledIf (by_grid o skips s l)
    none_yet s l none is goes_on = absurd (true≢false (sym is ∙ none))

    unruled_if : (s : RuledRun) (l : ScriptLine) → Begins s → has_masters s ≡ false → IsRuledIf (unruled o skips s l)
    unruled_if s line.Masters b none =
        on_cond IsRuledIf (s.run.lines == 1) (record (counted s) { masters = opening_masters s.run.members }) (by_grid o skips s line.Masters) (λ first. opened s b (same_number s.run.lines 1 first)) (λ other. none_yet s line.Masters none)
    unruled_if s l b none = none_yet s l none

    pub line_begins : (s : RuledRun) (l : ScriptLine) → Begins s → Begins (after_line o skips s l)
    line_begins s l b =
        let members = line_members o skips s l (counts.line_counted o skips s.run l).members in
        let lines = line_lines o skips s l in
        let beyond = b.beyond in
        record {
          some = subst (λ n. 1 ≤ n) (sym members) b.some;
          most = subst (λ n. n ≤ 8) (sym members) b.most;
          beyond = omega (arith, lines);
          fresh = λ first. absurd (omega (arith, lines, beyond, first));
          ruled = on_cond IsRuledIf (has_masters s) (ruled_line o skips s l) (unruled o skips s l) ruled (unruled_if s l b);
        }
      where
        ruled : has_masters s ≡ true → IsRuledIf (ruled_line o skips s l)
        ruled has is goes_on =
            let here = ruled_here s l has in
            let on : (after_line o skips s l).run.full ≡ false = ap (λ (x : RuledRun). x.run.full) here ∙ goes_on in
            let so_far = false_or_not s.run.full (λ full. true≢false (sym ((ruled_line_grows o skips s l).full full) ∙ on)) in
            let before = b.ruled has so_far in
            still_ruled o s (ruled_line o skips s l) (ruled_line_continues o skips s l before goes_on) before

    pub lines_begin : (s : RuledRun) (ls : List ScriptLine) → Begins s → Begins (after_lines o skips s ls)
    lines_begin s [] b = b
    lines_begin s (l ∷ ls) b = lines_begin (after_line o skips s l) ls (line_begins s l b)

    pub after_lines_append : (s : RuledRun) (ls ms : List ScriptLine) → after_lines o skips s (ls ++ ms) ≡ after_lines o skips (after_lines o skips s ls) ms
    after_lines_append s [] ms = refl
    after_lines_append s (l ∷ ls) ms = after_lines_append (after_line o skips s l) ls ms

  -- the first line
  pub first_begins : (members backups : ℕ) → 1 ≤ members → members ≤ 8 → Begins (begun members backups)
  first_begins members backups some most = record { some = some; most = most; beyond = omega arith; fresh = λ first. refl; ruled = λ is. absurd (true≢false (sym is)) }

pub every_run_is_ruled : EveryRunIsRuled
every_run_is_ruled settings members backups skips ls some most =
    let o = partition_object settings in
    (lines_begin o skips (begun members backups) ls (first_begins o members backups some most)).ruled

pub every_service_serves_as_published : EveryServiceServesAsPublished
every_service_serves_as_published settings members backups skips ls some most is goes_on p low =
    let o = partition_object settings in
    let s = ruled_with settings members backups skips ls in
    let ruled = every_run_is_ruled settings members backups skips ls some most is goes_on in
    let of = ruled.stands p low in
    let n = s.run.members in
    let b = s.run.backups in
    let well = every_run_is_well_ruled o p n b (ruled.lines p low) ruled.some ruled.most in
    record {
      listed = ap (filter (is_of_service n)) (sym of.happened) ∙ well.listed ∙ ap (λ (w : Masters Decision). map (event_of n) w.published) of.masters;
      service = ap (λ (w : Masters Decision). all_decided p n b (world.start {C = Request} p n b).service w.published) (sym of.masters) ∙ well.service
          ∙ ap (λ (j : Ruled Request). j.world.service) (sym (at_lines o s p (ruled.lines p low) of));
    }

pub every_mastership_is_sound : EveryMastershipIsSound
every_mastership_is_sound settings members backups skips ls some most is goes_on p low =
    let o = partition_object settings in
    let s = ruled_with settings members backups skips ls in
    let ruled = every_run_is_ruled settings members backups skips ls some most is goes_on in
    let well = every_run_is_well_ruled o p s.run.members s.run.backups (ruled.lines p low) ruled.some ruled.most in
    subst (λ (w : Masters Decision). IsSound w) (ruled.stands p low).masters well.sound

-- two moments of one run

module _ (o : Object Request Partition) (first later : RuledRun) (is : IsRuled o first) (c : Continues o first later) (p : ℕ) (low : p < partitions) where
  abbrev lines : List (Line Request)
  lines = is.lines p low

  abbrev more : List (Line Request)
  more = c.more p low

  abbrev begins : Ruled Request
  begins = start p first.run.members first.run.backups

  here : ruled_at o first p ≡ after o begins lines
  here = at_lines o first p lines (is.stands p low)

  there : ruled_at o later p ≡ after o begins (lines ++ more)
  there = at_lines o later p (lines ++ more) (c.on p low lines (is.stands p low)) ∙ (λ i. after o (start p (c.members i) (c.backups i)) (lines ++ more))

  then : composite.GoesOn o begins lines more
  then = every_run_goes_on o p first.run.members first.run.backups lines more is.some is.most

  abbrev asks : List (masters.Event Decision)
  asks = asked o (ruled_at o first p) more

  agrees : Agrees (masters_at first p) asks (masters_at later p)
  agrees =
      subst (λ (k : Ruled Request). Agrees (masters_at first p) asks k.masters) (sym there)
      (subst (λ (j : Ruled Request). Agrees j.masters (asked o j more) (after o begins (lines ++ more)).masters) (sym here) then.masters)

  asked_so : masters.run (masters_at first p) asks ≡ masters_at later p
  asked_so =
      masters_go o (ruled_at o first p) more ∙ ap (λ (j : Ruled Request). (after o j more).masters) here ∙ ap (λ (j : Ruled Request). j.masters) (sym (after_append o begins lines more))
      ∙ ap (λ (j : Ruled Request). j.masters) (sym there)

  pub masters_agree : MastersAgree first later p
  masters_agree = record { asked = asks; by = asked_so; agree = agrees }

  pub rows_go_up : GoesUp (world_at o first.run p).service.row (world_at o later.run p).service.row
  rows_go_up =
      subst (λ (k : Ruled Request). GoesUp (world_at o first.run p).service.row k.world.service.row) (sym there)
      (subst (λ (j : Ruled Request). GoesUp j.world.service.row (after o begins (lines ++ more)).world.service.row) (sym here) then.rows)

-- A run of more lines goes on from the one of fewer.
module _ (settings : Settings) (members backups : ℕ) (skips : List CallId) (ls ms : List ScriptLine) (some : 1 ≤ members) (most : members ≤ 8)
    (is : has_masters (ruled_with settings members backups skips ls) ≡ true) (goes_on : (ruled_with settings members backups skips (ls ++ ms)).run.full ≡ false) where
  abbrev earlier : RuledRun
  earlier = ruled_with settings members backups skips ls

  whole : ruled_with settings members backups skips (ls ++ ms) ≡ after_lines (partition_object settings) skips earlier ms
  whole = after_lines_append (partition_object settings) skips (begun members backups) ls ms

  lasts : (after_lines (partition_object settings) skips earlier ms).run.full ≡ false
  lasts = sym (ap (λ (x : RuledRun). x.run.full) whole) ∙ goes_on

  lasted : earlier.run.full ≡ false
  lasted = false_or_not earlier.run.full (λ full. true≢false (sym ((ruled_lines_grow (partition_object settings) skips earlier ms).full full) ∙ lasts))

  pub earlier_ruled : IsRuled (partition_object settings) earlier
  earlier_ruled = every_run_is_ruled settings members backups skips ls some most is lasted

  pub later_continues : Continues (partition_object settings) earlier (ruled_with settings members backups skips (ls ++ ms))
  later_continues = subst (Continues (partition_object settings) earlier) (sym whole) (lines_continue (partition_object settings) skips earlier ms earlier_ruled lasts)

pub every_mastership_agrees : EveryMastershipAgrees
every_mastership_agrees settings members backups skips ls ms some most is goes_on p low =
    masters_agree (partition_object settings) (ruled_with settings members backups skips ls) (ruled_with settings members backups skips (ls ++ ms))
    (earlier_ruled settings members backups skips ls ms some most is goes_on) (later_continues settings members backups skips ls ms some most is goes_on) p low

pub every_published_list_grows : EveryPublishedListGrows
every_published_list_grows settings members backups skips ls ms some most is goes_on p low = record {
  published = (every_mastership_agrees settings members backups skips ls ms some most is goes_on p low).agree.grows;
  rows = rows_go_up (partition_object settings) (ruled_with settings members backups skips ls) (ruled_with settings members backups skips (ls ++ ms))
      (earlier_ruled settings members backups skips ls ms some most is goes_on) (later_continues settings members backups skips ls ms some most is goes_on) p low;
}
