-- Each message that a line appends stands in the line's text, where the grid has masters too.
use Rattle.std.proofs.Common.{ℕ, zero, suc, ◌+◌, Bool, true, false, ◌==◌, cond, List, [], ◌∷◌, ◌++◌, length, Option, Some, None, refl, ◌⊎◌, ⊎_elim, inl, inr}
use Rattle.std.specs.List.{flat_map}
use Rattle.grid_base.specs.Objects.{Object}
use Rattle.grid_base.specs.declared.names.CallId.{CallId}
use Rattle.grid_base.specs.declared.calls.Request.{Request}
use Rattle.object_store.specs.Partitions.{Partition}
use Rattle.partition_protocol.specs.Sequences.{IsFrontOf}
use Rattle.partition_protocol.specs.Events.{Crash, Detect, run}
use Rattle.partition_protocol.specs.Service.{numbers_below}
use Rattle.partition_protocol.proofs.Lists.{In, on_if}
use Rattle.partition_world.specs.declared.Link.{Link}
use Rattle.call_engine.specs.Calls.{Settings}
use Rattle.call_engine.specs.Objects.{partition_object}
use Rattle.masters_world.specs.Machine.{Line, Asks, Told, at_once, published_by}
use Rattle.script_lang.specs.declared.line.Line.{Line as ScriptLine}
use Rattle.script_lang.specs.declared.line.Line.TheVariants as line
use Rattle.replay_run.specs.Runs.{Appended, partitions}
use Rattle.replay_run.specs.Appending.{appended_text, new_messages}
use Rattle.replay_run.specs.Printing.{ok_text, flow_text, words_line, deliveries}
use Rattle.masters_run.specs.Runs.{RuledRun, opening_masters, has_masters, masters_at, ruled_at, goes, goes_in, flowed, flowed_in, link_between, handing_over, flowed_between, counted}
use Rattle.masters_run.specs.AfterLines.{by_grid, unruled, Asked, asked_at, by_partition, ruled_line, after_line}
use Rattle.masters_run.specs.Printing.{published_texts, followed, followed_in, handed_over, followed_each, outcome_words, asked_text_of, flowed_text, ruled_text, unruled_text, line_text}
use Rattle.masters_run.proofs.RuledRuns.{AsksNoCall, between_on, IsQuietAsked, asked_quiet}
use Rattle.masters_run.proofs.RuledGrowing.{goes_goes, goes_in_goes, flowed_goes, flowed_in_goes}
use Rattle.grid_cli.specs.PrintedRuns.{HasPart}
use Rattle.grid_cli.proofs.Parts.{part_left, part_right, behind_outcome, new_part}
use Rattle.grid_cli.proofs.GridPrints.{something_printed, line_prints}

module _ (m : Appended) where
  -- What was appended from a run to another stands in the text.
  abbrev pub Shows : List ℕ → RuledRun → RuledRun → Type 0
  Shows text s next = In m next.run.appended → In m s.run.appended ⊎ HasPart text (appended_text m)

  behind : (before text : List ℕ) (s next : RuledRun) → Shows text s next → Shows (before ++ text) s next
  behind before text s next shows i = behind_outcome before text (appended_text m) (shows i)

  and_then : (first then : List ℕ) (s mid next : RuledRun) → Shows first s mid → Shows then mid next → Shows (first ++ then) s next
  and_then first then s mid next one two i =
      ⊎_elim (λ j. ⊎_elim (λ k. inl k) (λ has. inr (part_left first then (appended_text m) has)) (one j)) (λ has. inr (part_right first then (appended_text m) has)) (two i)

  all_new : (s next : RuledRun) → IsFrontOf s.run.appended next.run.appended → Shows (flat_map appended_text (new_messages s.run next.run)) s next
  all_new s next grown i = new_part m s.run next.run grown i

  module _ (settings : Settings) (skips : List CallId) where
    abbrev o : Object Request Partition
    o = partition_object settings

    -- what is asked for in one partition, or in several

    goes_shows : (s : RuledRun) (p : ℕ) (l : Line Request) → AsksNoCall l → Shows (followed o skips s p l) s (goes o skips s p l)
    goes_shows s p l quiet =
        let j = ruled_at o s p in
        let next = goes o skips s p l in
        behind (published_texts o s.run.lines p (length j.masters.published + 1) (run o j.world (at_once j l)) (published_by j l)) (flat_map appended_text (new_messages s.run next.run)) s next
        (all_new s next ((goes_goes o s p l quiet).by.grows skips).appended)

    goes_in_shows : (s : RuledRun) (l : Line Request) (ps : List ℕ) → AsksNoCall l → Shows (followed_in o skips s l ps) s (goes_in o skips s l ps)
    goes_in_shows s l [] quiet = λ i. inl i
    goes_in_shows s l (p ∷ ps) quiet =
        let mid = goes o skips s p l in
        and_then (followed o skips s p l) (followed_in o skips mid l ps) s mid (goes_in o skips mid l ps) (goes_shows s p l quiet) (goes_in_shows mid l ps quiet)

    -- flows

    flows_show : (s next : RuledRun) → IsFrontOf s.run.appended next.run.appended → Shows (flowed_text s next) s next
    flows_show s next grown = behind (flow_text next.run.lines (deliveries s.run next.run)) (flat_map appended_text (new_messages s.run next.run)) s next (all_new s next grown)

    -- a flow between masters of one delivery more, where this is the link that comes first
    abbrev each_on : RuledRun → ℕ → ℕ → Option Link → List ℕ
    each_on s p most next = elim next [ None ↦ [] | Some l ↦ followed o skips s p (handing_over l) ++ followed_each o skips (goes o skips s p (handing_over l)) p most ]

    each_shows : (s : RuledRun) (p most : ℕ) → Shows (followed_each o skips s p most) s (flowed_between o skips s p most)
    each_shows s p zero = λ i. inl i
    each_shows s p (suc most) = go (link_between (masters_at s p)) (λ x. each_shows x p most)
      where
        go : (next : Option Link) → ((x : RuledRun) → Shows (followed_each o skips x p most) x (flowed_between o skips x p most)) → Shows (each_on s p most next) s (between_on o skips s p most next)
        go None on = λ i. inl i
        go (Some l) on =
            let mid = goes o skips s p (handing_over l) in
            and_then (followed o skips s p (handing_over l)) (followed_each o skips mid p most) s mid (flowed_between o skips mid p most) (goes_shows s p (handing_over l) tt) (on mid)

    -- lines

    in_partition : (s : RuledRun) (l : ScriptLine) (a : Option Asked) → IsQuietAsked a → let next = by_partition o skips s l a in Shows (asked_text_of settings skips s l next a) s next
    in_partition s l None quiet = line_prints settings skips s.run l m
    in_partition s l (Some a) quiet =
        let now = counted s in
        behind (words_line now.run.lines (outcome_words o (ruled_at o now a.partition) a.line)) (followed o skips now a.partition a.line) s (goes o skips now a.partition a.line) (goes_shows now a.partition a.line quiet)

    in_all : (s : RuledRun) (l : Line Request) → AsksNoCall l → (before : List ℕ)
        → Shows (before ++ followed_in o skips (counted s) l (numbers_below partitions)) s (goes_in o skips (counted s) l (numbers_below partitions))
    in_all s l quiet before =
        behind before (followed_in o skips (counted s) l (numbers_below partitions)) s (goes_in o skips (counted s) l (numbers_below partitions)) (goes_in_shows (counted s) l (numbers_below partitions) quiet)

    -- a crash appends what the calls that wait have for it, and the line tells all that is new
    crash_shows : (s : RuledRun) (c : ℕ) → let next = goes_in o skips (counted s) (Asks (Crash c)) (numbers_below partitions) in Shows (ruled_text settings skips s (line.Crash c) next) s next
    crash_shows s c i =
        let next = goes_in o skips (counted s) (Asks (Crash c)) (numbers_below partitions) in
        ⊎_elim (λ j. inl j) (λ has. inr (something_printed settings skips s.run (line.Crash c) next.run m refl has))
        (all_new (counted s) next ((goes_in_goes o (counted s) (Asks (Crash c)) (numbers_below partitions) refl).by.grows skips).appended i)

    ruled_shows : (s : RuledRun) (l : ScriptLine) → let next = ruled_line o skips s l in Shows (ruled_text settings skips s l next) s next
    ruled_shows s line.Masters = λ i. inl i
    ruled_shows s (line.Rebalance most) = λ i. inl i
    ruled_shows s (line.Flow p most) = flows_show s (flowed o skips (counted s) p most) ((flowed_goes o (counted s) p most).by.grows skips).appended
    ruled_shows s (line.FlowAll most) = flows_show s (flowed_in o skips (counted s) most (numbers_below partitions)) ((flowed_in_goes o (counted s) most (numbers_below partitions)).by.grows skips).appended
    ruled_shows s (line.MasterFlow p most) =
        let now = counted s in
        let next = flowed_between o skips now p most in
        behind (flow_text next.run.lines (handed_over o skips now p most)) (followed_each o skips now p most) s next (each_shows now p most)
    ruled_shows s (line.Told c x) = in_all s (Told c x) tt (words_line (counted s).run.lines (outcome_words o (ruled_at o (counted s) 0) (Told c x)))
    ruled_shows s (line.Detect c) = in_all s (Asks (Detect c)) refl (ok_text (ruled_line o skips s (line.Detect c)).run.lines)
    ruled_shows s (line.Crash c) = crash_shows s c
    ruled_shows s l = in_partition s l (asked_at l) (asked_quiet l)

    unruled_shows : (s : RuledRun) (l : ScriptLine) → let next = unruled o skips s l in Shows (unruled_text settings skips s l next) s next
    unruled_shows s line.Masters =
        on_if (λ (x : RuledRun). Shows (unruled_text settings skips s line.Masters x) s x) (s.run.lines == 1) (record (counted s) { masters = opening_masters s.run.members }) (by_grid o skips s line.Masters) (λ i. inl i) (λ i. inl i)
    unruled_shows s l = line_prints settings skips s.run l m

    pub line_shows : (s : RuledRun) (l : ScriptLine) → let next = after_line o skips s l in Shows (line_text settings skips s l next) s next
    line_shows s l = go (has_masters s)
      where
        go : (b : Bool) → let next = cond b (ruled_line o skips s l) (unruled o skips s l) in Shows (cond b (ruled_text settings skips s l next) (unruled_text settings skips s l next)) s next
        go true = ruled_shows s l
        go false = unruled_shows s l
