-- A line of a grid with masters, taken apart: it is counted, what it asks for goes on from there, and behind that the grid stands as between two lines.
use Rattle.std.proofs.Common.{◌≡◌, ℕ, ◌+◌, ◌<◌, ◌≤◌, true, false, cond, List, [], ◌++◌, length, get_or, ap, sym, ◌∙◌, subst, append_assoc, append-nil, arith, Vec, Global}
use Rattle.grid_base.specs.Objects.{Object}
use Rattle.grid_base.specs.declared.names.CallId.{CallId}
use Rattle.grid_base.specs.declared.calls.Request.{Request}
use Rattle.object_store.specs.Partitions.{Partition}
use Rattle.call_engine.specs.Calls.{Settings}
use Rattle.call_engine.specs.Objects.{partition_object}
use Rattle.master_log.specs.declared.masters.Masters.{Masters}
use Rattle.masters_world.specs.Machine.{Line, events_by}
use Rattle.script_lang.specs.Limits.{most_lines}
use Rattle.script_lang.specs.declared.line.Line.{Line as ScriptLine}
use Rattle.script_lang.specs.declared.line.Line.TheVariants.{Comment}
use Rattle.line_told.specs.declared.told.Ready.{Ready}
use Rattle.line_told.specs.declared.told.Told.{Told}
use Rattle.replay_run.specs.LineTold.{line_printed}
use Rattle.replay_run.proofs.LineCases.{is_writing, writes_nothing}
use Rattle.replay_run.specs.Runs.{partitions, next_line}
use Rattle.replay_run.specs.Rebalancing.{most_line_events}
use Rattle.replay_run.specs.Endings.{AreAmong, new_arrivals}
use Rattle.replay_run.specs.Grids.{FormOf}
use Rattle.replay_run.specs.Grids as grid
use Rattle.replay_run.specs.WorldCalls.{HasRoomAt}
use Rattle.replay_run.specs.WorldCalls as amid
use Rattle.replay_run.proofs.GridLines as lines
use Rattle.replay_run.proofs.LineEnds.{line_has_room, line_ends}
use Rattle.replay_run.proofs.TakenApart.{TakesFew, few_none}
use Rattle.masters_run.specs.declared.grid.RuledGrid.{RuledGrid}
use Rattle.masters_run.specs.Runs.{RuledRun, has_masters, ruled_at, counted}
use Rattle.masters_run.specs.AfterLines.{unruled, ruled_line, after_line}
use Rattle.masters_run.specs.LineTold.{unruled_told, ruled_told, line_told}
use Rattle.masters_run.specs.Grids.{AreMasters, Rules, Stands, MayRun, HasRun, HasGiven, IsGivenUp}
use Rattle.masters_run.specs.Steps.{IsAmid, MayAsk, Onward, Tellings, HasGoneOn, GivesUp}
use Rattle.masters_run.proofs.Going.{single_at}
use Rattle.masters_run.proofs.MastersAsked.{AreThere, is_read, they_are}
use Rattle.masters_run.proofs.RuleLemmas.{counted_rules}

-- what a grid with masters comes to at a line

pub with_masters : (o : Object Request Partition) (skips : List CallId) (s : RuledRun) (line : ScriptLine) → has_masters s ≡ true → after_line o skips s line ≡ ruled_line o skips s line
with_masters o skips s line is = ap (λ b. cond b (ruled_line o skips s line) (unruled o skips s line)) is

pub told_with_masters : (settings : Settings) (skips : List CallId) (s : RuledRun) (line : ScriptLine) (next : RuledRun) → has_masters s ≡ true → line_told settings skips s line next ≡ ruled_told settings skips s line next
told_with_masters settings skips s line next is = ap (λ b. cond b (ruled_told settings skips s line next) (unruled_told settings skips s line next)) is

pub without_masters : (o : Object Request Partition) (skips : List CallId) (s : RuledRun) (line : ScriptLine) → has_masters s ≡ false → after_line o skips s line ≡ unruled o skips s line
without_masters o skips s line is = ap (λ b. cond b (ruled_line o skips s line) (unruled o skips s line)) is

pub told_without_masters : (settings : Settings) (skips : List CallId) (s : RuledRun) (line : ScriptLine) (next : RuledRun) → has_masters s ≡ false → line_told settings skips s line next ≡ unruled_told settings skips s line next
told_without_masters settings skips s line next is = ap (λ b. cond b (ruled_told settings skips s line next) (unruled_told settings skips s line next)) is

module _ {V : Type 0} {T : V → Type 0} {form : FormOf V T} where
  -- It is counted as a comment is.
  pub may_count : (all : RuledGrid V T) (number : ℕ) (line : ScriptLine) → MayRun form all number line → grid.MayRun form all.grid number Comment
  may_count all number line may = record { settings = may.settings; run = may.run.run; stands = may.stands.grid; read = tt; next = may.next; within = may.within }

  -- It is one of the grid's.
  pub alone_may : (all new : RuledGrid V T) → new.grid ≡ all.grid → (number : ℕ) (line : ScriptLine) → MayRun form all number line → grid.MayRun form new.grid number line
  alone_may all new same number line may = subst (λ x. grid.MayRun form x number line) (sym same)
      (record { settings = may.settings; run = may.run.run; stands = may.stands.grid; read = may.read; next = may.next; within = may.within })

  pub may_run_as : {all : RuledGrid V T} {number : ℕ} {line other : ScriptLine} → line ≡ other → MayRun form all number line → MayRun form all number other
  may_run_as {all = all} {number = number} same = subst (MayRun form all number) same

  pub has_run_as : {settings : Settings} {new : RuledGrid V T} {s : RuledRun} {line other : ScriptLine} {earlier later : List Told} → line ≡ other → HasRun form settings new s other earlier later → HasRun form settings new s line earlier later
  has_run_as {settings = settings} {new = new} {s = s} {earlier = earlier} {later = later} same = subst (λ l. HasRun form settings new s l earlier later) (sym same)

  -- A line that writes nothing as it goes gives what it tells.
  pub gives_told : {settings : Settings} {new : RuledGrid V T} {s : RuledRun} {line other : ScriptLine} → line ≡ other → is_writing other ≡ false → (out : Ready) (told : Vec Told Global)
      → HasRun form settings new s other out.told.items told.items → HasGiven form settings new s line out (record out { told = told })
  gives_told {settings = settings} {s = s} {other = other} same none out told ran = record {
    told = has_run_as same ran;
    printed = sym (append-nil out.printed.items) ∙ ap (λ xs. out.printed.items ++ xs) (sym (ap (line_printed settings s.run) same ∙ writes_nothing settings s.run other none));
  }

  pub next_number : (all : RuledGrid V T) (number : ℕ) (line : ScriptLine) → MayRun form all number line → {settings : Settings} (s : RuledRun) → Stands form settings all s → number ≡ s.run.lines + 1
  next_number all number line may s stands = lines.next_number all.grid number Comment (may_count all number line may) s.run stands.grid

  pub few_lines : (all : RuledGrid V T) (number : ℕ) (line : ScriptLine) → MayRun form all number line → {settings : Settings} (s : RuledRun) → Stands form settings all s → s.run.lines + 1 ≤ most_lines
  few_lines all number line may s stands = lines.few_lines all.grid number Comment (may_count all number line may) s.run stands.grid

  module _ {settings : Settings} (all : RuledGrid V T) (s : RuledRun) (stands : Stands form settings all s) where
    pub counted_amid : (new : RuledGrid V T) → new.masters ≡ all.masters → amid.IsAmid form settings new.grid (next_line s.run) → IsAmid form settings new (counted s)
    counted_amid new kept now = record { grid = now; masters = subst (λ ms. Rules settings ms (counted s)) (ap (λ ms. ms.items) (sym kept)) (counted_rules settings all.masters.items s stands.masters) }

    -- the masters of a partition are there
    pub stand_there : has_masters s ≡ true → (p : ℕ) → p < partitions → AreThere settings all.masters.items s p
    stand_there is p low = record { placed = low; count = stands.masters.count; whole = stands.masters.ruled is; most = stands.masters.most; each = stands.masters.each is }

    pub stand_read : has_masters s ≡ true → (p : ℕ) → p < partitions → (i : ℕ) (kept : Masters) → i ≡ p → kept ≡ get_or all.masters.items i kept → AreMasters settings kept s p
    stand_read is p low i kept same read = let there = stand_there is p low in they_are settings all.masters.items s p there kept (is_read settings all.masters.items s p there i kept same read)

    -- one event at most, of what a line asks for in a partition
    pub single : has_masters s ≡ true → (p : ℕ) → p < partitions → (l : Line Request) → length (events_by (ruled_at (partition_object settings) s p) l) ≤ 1
    single is p low l =
        let at = stands.masters.each is p low in
        single_at (partition_object settings) s p at.are.lines at.are.of_lines (subst (λ n. 1 ≤ n) at.are.size at.are.stands.some) stands.masters.most l

    module _ (limit : s.run.lines + 1 ≤ most_lines) where
      abbrev pub may_ask : (new : RuledGrid V T) → has_masters s ≡ true → IsAmid form settings new (counted s) → (p : ℕ) → p < partitions → MayAsk form new p
      may_ask new is now p low = record {
        settings = settings;
        run = counted s;
        amid = now;
        ruled = is;
        placed = low;
        room = line_has_room all.grid s.run stands.grid limit (next_line s.run) 0 0 (few_none (next_line s.run)) p 1 (omega arith);
      }

      -- It stands behind its last event.
      pub stands_then : (new : RuledGrid V T) (next : RuledRun) (taken reopens : ℕ) → TakesFew taken reopens (next_line s.run) next.run → taken ≤ most_line_events → reopens ≤ most_line_events → IsAmid form settings new next → Stands form settings new next
      stands_then new next taken reopens few within rarely now =
          let lines = few.kept.lines in
          let some = stands.some in
          record {
            grid = line_ends all.grid s.run stands.grid limit next.run taken reopens few new.grid within rarely now.grid;
            masters = now.masters;
            some = omega (arith, lines);
            begun = λ one. absurd (omega (arith, lines, some, one));
          }

      -- The line ran, and its later is its outcome and what followed it.
      module _ (new : RuledGrid V T) (line : ScriptLine) (onward : Onward) (tellings : Tellings) (start said : List Told) (on : HasGoneOn form settings new (counted s) onward tellings start said)
          (after : after_line (partition_object settings) on.skips s line ≡ onward on.skips) (taken reopens : ℕ) (few : TakesFew taken reopens (next_line s.run) (onward on.skips).run) (within : taken ≤ most_line_events) (rarely : reopens ≤ most_line_events) where
        pub line_ran : (outcome earlier later : List Told) → line_told settings on.skips s line (onward on.skips) ≡ outcome ++ tellings on.skips → start ≡ [] → later ≡ earlier ++ outcome ++ said → HasRun form settings new s line earlier later
        line_ran outcome earlier later its none is = record {
          skips = on.skips;
          of_line = subst (λ (x : RuledRun). AreAmong (new_arrivals s.run x.run) on.skips) (sym after) on.own;
          stands = subst (Stands form settings new) (sym after) (stands_then new (onward on.skips) taken reopens few within rarely on.amid);
          added =
              is ∙ ap (λ xs. earlier ++ outcome ++ xs) (on.added ∙ ap (λ xs. xs ++ tellings on.skips) none) ∙ append_assoc earlier outcome (tellings on.skips)
              ∙ ap (λ xs. earlier ++ xs) (sym (ap (λ x. line_told settings on.skips s line x) after ∙ its));
        }

    -- or it was given up
    pub line_given_up : (line : ScriptLine) (onward : Onward) → ((skips : List CallId) → after_line (partition_object settings) skips s line ≡ onward skips) → GivesUp (counted s) onward → IsGivenUp settings s line
    line_given_up line onward after up = record {
      skips = up.skips;
      of_line = subst (λ (x : RuledRun). AreAmong (new_arrivals s.run x.run) up.skips) (sym (after up.skips)) up.own;
      full = ap (λ (x : RuledRun). x.run.full) (after up.skips) ∙ up.full;
    }
