-- A line that is counted, and does nothing else to the grid: it is held back, or it brings the masters.
use Rattle.std.proofs.Common.{◌≡◌, ℕ, zero, suc, ◌+◌, ◌<◌, ◌≤◌, true, false, true≢false, cond, ◌==◌, List, [], ◌∷◌, ◌++◌, map, length, Option, Some, None, slice_get, refl, ap, sym, ◌∙◌, subst, ⊎_elim, append-nil, arith}
use Rattle.std.proofs.lemmas.Bool.{cases_eq}
use Rattle.std.proofs.lemmas.List.{drop_all}
use Rattle.grid_base.specs.Objects.{Object}
use Rattle.grid_base.specs.declared.names.CallId.{CallId}
use Rattle.grid_base.specs.declared.calls.Request.{Request}
use Rattle.object_store.specs.Partitions.{Partition}
use Rattle.call_engine.specs.Calls.{Settings}
use Rattle.call_engine.specs.Objects.{partition_object}
use Rattle.partition_table.specs.Rows.{is_empty}
use Rattle.partition_protocol.specs.World.{map_or}
use Rattle.partition_protocol.proofs.Lists.{in_contains}
use Rattle.partition_protocol.proofs.RowFacts.{number_same}
use Rattle.masters_world.specs.Machine.{Asks, proposals, proposing, asked_by, at_once_of}
use Rattle.master_log.specs.declared.masters.Masters.{Masters}
use Rattle.master_log.specs.Standing.{StandsFor, size_of}
use Rattle.script_lang.specs.Limits.{most_lines}
use Rattle.script_lang.specs.Lines.{IsWithin}
use Rattle.script_lang.specs.declared.line.Line.{Line as ScriptLine}
use Rattle.script_lang.specs.declared.line.Line.TheVariants as ScriptLines
use Rattle.line_told.specs.declared.told.Told.{Told}
use Rattle.replay_run.specs.Runs.{At, partitions, next_line, event_by}
use Rattle.replay_run.specs.Appending.{new_messages}
use Rattle.replay_run.specs.Grids.{FormOf, most_arriving}
use Rattle.replay_run.specs.LineTold.{came_to, all_told}
use Rattle.line_told.specs.declared.told.LineOutcome.TheVariants.{Ran, Idle}
use Rattle.replay_run.specs.WorldCalls as amid
use Rattle.replay_run.proofs.EventLines.{of_event}
use Rattle.replay_run.proofs.LineCases.{is_writing}
use Rattle.replay_run.proofs.TableChanges.{got_before, got_last}
use Rattle.replay_run.proofs.TakenApart.{few_none}
use Rattle.masters_run.specs.declared.grid.RuledGrid.{RuledGrid}
use Rattle.masters_run.specs.Runs.{RuledRun, has_masters, opening_masters, ruled_at, takes_each, goes, counted}
use Rattle.masters_run.specs.AfterLines.{by_grid, ruled_line, after_line}
use Rattle.masters_run.specs.LineTold.{event_outcome, said, asked_outcome, followed, ruled_told, line_told}
use Rattle.masters_run.specs.Grids.{Stands, HasRun}
use Rattle.masters_run.specs.Parts.{is_later, is_held_back}
use Rattle.masters_run.proofs.AtOnce.{as_event, asks_by_proposals, goes_at_once, followed_at_once, says_at_once}
use Rattle.masters_run.proofs.KeptLines.{comment_after}
use Rattle.masters_run.proofs.LineParts.{with_masters, told_with_masters, without_masters, told_without_masters, counted_amid, stands_then}
use Rattle.masters_run.proofs.RuleLemmas.{opening_rules}

some_at : {X : Type 0} (xs : List X) (p : ℕ) → p < length xs → (x : X) × (slice_get xs p ≡ Some x)
some_at [] p low = absurd (omega (arith, low))
some_at (x ∷ xs) zero low = (x, refl)
some_at (x ∷ xs) (suc p) low = some_at xs p (omega (arith, low))

-- A line that is held back writes nothing.
pub held_writes_none : (settings : Settings) (s : RuledRun) (line : ScriptLine) → is_held_back settings s line ≡ true → is_writing line ≡ false
held_writes_none settings s (ScriptLines.Dump p member) held = absurd (true≢false (sym held))
held_writes_none settings s (ScriptLines.Links p) held = absurd (true≢false (sym held))
held_writes_none settings s (ScriptLines.Trail p) held = absurd (true≢false (sym held))
held_writes_none settings s ScriptLines.End held = absurd (true≢false (sym held))
held_writes_none settings s line held = refl

-- a line that is held back

pub record PassesBy (settings : Settings) (s : RuledRun) (line : ScriptLine) : Type 0 where
  pub after : (skips : List CallId) → ruled_line (partition_object settings) skips s line ≡ counted s
  pub tells : (skips : List CallId) → ruled_told settings skips s line (counted s) ≡ came_to Idle

module _ (settings : Settings) (s : RuledRun) (whole : length s.masters ≡ partitions) where
  abbrev o : Object Request Partition
  o = partition_object settings

  empty_none : {X : Type 0} (xs : List X) → is_empty xs ≡ true → xs ≡ []
  empty_none [] is = refl
  empty_none (x ∷ xs) is = absurd (true≢false (sym is))

  event_passes : (line : ScriptLine) (e : At) → event_by line ≡ Some e → e.partition < partitions → proposals (ruled_at o s e.partition) e.event ≡ [] → is_later settings s e ≡ true → PassesBy settings s line
  event_passes line e is placed nothing later =
      let its = as_event settings s line e is in
      let j = ruled_at o s e.partition in
      let none : asked_by j (Asks e.event) ≡ [] = asks_by_proposals j e.event its.no_crash ∙ ap (λ ds. proposing ds) nothing in
      let nothing_now : at_once_of j e.event ≡ [] = empty_none (at_once_of j e.event) later in
      let low : e.partition < length s.masters = omega (arith, placed, whole) in
      let stays : (k : List CallId) → goes o k (counted s) e.partition (Asks e.event) ≡ counted s = λ k.
      goes_at_once o (counted s) e.partition e.event none k low ∙ ap (λ es. record (counted s) { run = takes_each o k (next_line s.run) e.partition es }) nothing_now in
      record {
        after = λ k. its.after k ∙ stays k;
        tells = λ k.
            (let came : asked_outcome o j (Asks e.event) ≡ Idle = says_at_once o (counted s) e.partition e.event none ∙ ap (λ es. said [] (map (event_outcome o j.world) es)) nothing_now in
            let rest : followed o k (counted s) e.partition (Asks e.event) ≡ [] =
            followed_at_once o (counted s) e.partition e.event none k ∙ ap (λ (x : RuledRun). all_told (new_messages (next_line s.run) x.run)) (stays k) ∙ ap all_told (drop_all (length s.run.appended) s.run.appended (omega arith)) in
            its.tells k (counted s) ∙ (λ i. came_to (came i) ++ rest i) ∙ append-nil (came_to Idle));
      }

  held_event : (line : ScriptLine) (x : Option At) → event_by line ≡ x → map_or x false (is_later settings s) ≡ true → ((e : At) → event_by line ≡ Some e → proposals (ruled_at o s e.partition) e.event ≡ []) → IsWithin s.run.members most_arriving line → PassesBy settings s line
  held_event line None is held nothing read = absurd (true≢false (sym held))
  held_event line (Some e) is held nothing read = event_passes line e is ((of_event settings s.run line e is).within s.run.members most_arriving read) (nothing e is) held

  pub passes : (line : ScriptLine) → is_held_back settings s line ≡ true → ((e : At) → event_by line ≡ Some e → proposals (ruled_at o s e.partition) e.event ≡ []) → IsWithin s.run.members most_arriving line → PassesBy settings s line
  passes ScriptLines.Masters held nothing read = record { after = λ k. refl; tells = λ k. refl }
  passes (ScriptLines.Rebalance most) held nothing read = record { after = λ k. refl; tells = λ k. refl }
  passes line held nothing read = held_event line (event_by line) refl held nothing read

module _ {V : Type 0} {T : V → Type 0} {form : FormOf V T} {settings : Settings} (all new : RuledGrid V T) (s : RuledRun) (stands : Stands form settings all s) (limit : s.run.lines + 1 ≤ most_lines) where
  -- A line was counted at which nothing happens.
  pub counts : new.masters ≡ all.masters → amid.IsAmid form settings new.grid (next_line s.run) → Stands form settings new (after_line (partition_object settings) [] s ScriptLines.Comment)
  counts kept now =
      subst (Stands form settings new) (sym (comment_after (partition_object settings) [] s))
      (stands_then all s stands limit new (counted s) 0 0 (few_none (next_line s.run)) (omega arith) (omega arith) (counted_amid all s stands new kept now))

  -- The line was counted, and nothing else.
  pub passed : (line : ScriptLine) → has_masters s ≡ true → PassesBy settings s line → new.masters ≡ all.masters → amid.IsAmid form settings new.grid (next_line s.run) → (earlier later : List Told) → later ≡ earlier ++ came_to Idle
      → HasRun form settings new s line earlier later
  passed line ruled its kept now earlier later is =
      let o = partition_object settings in
      let there = counted_amid all s stands new kept now in
      let after : after_line o [] s line ≡ counted s = with_masters o [] s line ruled ∙ its.after [] in
      record {
        skips = [];
        of_line = λ id c. absurd (in_contains id [] c);
        stands = subst (Stands form settings new) (sym after) (stands_then all s stands limit new (counted s) 0 0 (few_none (next_line s.run)) (omega arith) (omega arith) there);
        added = is ∙ ap (λ xs. earlier ++ xs) (sym (ap (λ x. line_told settings [] s line x) after ∙ told_with_masters settings [] s line (counted s) ruled ∙ its.tells []));
      }

  -- The masters begin, at the second line.
  pub begins : has_masters s ≡ false → s.run.lines ≡ 1 → amid.IsAmid form settings new.grid (next_line s.run) → length new.masters.items ≡ partitions
      → ((p : ℕ) (kept : Masters) → slice_get new.masters.items p ≡ Some kept → (size_of kept ≡ s.run.members) × StandsFor kept [])
      → (earlier later : List Told) → later ≡ earlier ++ came_to Ran → HasRun form settings new s ScriptLines.Masters earlier later
  begins none one now count each earlier later is =
      let o = partition_object settings in
      let next : RuledRun = record (counted s) { masters = opening_masters s.run.members } in
      let first : (s.run.lines == 1) ≡ true = number_same s.run.lines 1 one in
      let after : after_line o [] s ScriptLines.Masters ≡ next = without_masters o [] s ScriptLines.Masters none ∙ ap (λ b. cond b next (by_grid o [] s ScriptLines.Masters)) first in
      let rules = opening_rules settings new.masters.items next refl (stands.begun one) count stands.masters.most
      (λ p low. let there = some_at new.masters.items p (omega (arith, low, count)) in let its = each p there.0 there.1 in (there.0, there.1, its.0, its.1)) in
      record {
        skips = [];
        of_line = λ id c. absurd (in_contains id [] c);
        stands = subst (Stands form settings new) (sym after) (stands_then all s stands limit new next 0 0 (few_none (next_line s.run)) (omega arith) (omega arith) (record { grid = now; masters = rules }));
        added = is
            ∙ ap (λ xs. earlier ++ xs) (sym (ap (λ x. line_told settings [] s ScriptLines.Masters x) after ∙ told_without_masters settings [] s ScriptLines.Masters next none ∙ ap (λ b. came_to (cond b Ran Idle)) first));
      }

-- One partition more has its masters.
pub opened_more : (before : List Masters) (new : Masters) (members : ℕ) → ((p : ℕ) (masters : Masters) → slice_get before p ≡ Some masters → (size_of masters ≡ members) × StandsFor masters []) → size_of new ≡ members → StandsFor new []
    → (p : ℕ) (masters : Masters) → slice_get (before ++ new ∷ []) p ≡ Some masters → (size_of masters ≡ members) × StandsFor masters []
opened_more before new members each size stands p masters there = ⊎_elim last (λ apart. each p masters (sym (got_before before new p apart) ∙ there)) (cases_eq p (length before))
  where
    last : p ≡ length before → (size_of masters ≡ members) × StandsFor masters []
    last e =
        let both : Some new ≡ Some masters = sym (got_last before new) ∙ ap (slice_get (before ++ new ∷ [])) (sym e) ∙ there in
        let one : new ≡ masters = cc in
        subst (λ (m : Masters). (size_of m ≡ members) × StandsFor m []) one (size, stands)
