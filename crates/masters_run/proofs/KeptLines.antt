-- What each line leaves as it is, with masters or without.
use Rattle.std.proofs.Common.{◌≡◌, ℕ, ◌+◌, List, refl, ◌∙◌}
use Rattle.grid_base.specs.Objects.{Object}
use Rattle.grid_base.specs.declared.names.CallId.{CallId}
use Rattle.grid_base.specs.declared.calls.Request.{Request}
use Rattle.object_store.specs.Partitions.{Partition}
use Rattle.call_engine.specs.Calls.{Settings}
use Rattle.partition_protocol.proofs.Lists.{on_if}
use Rattle.script_lang.specs.declared.line.Line.{Line as ScriptLine}
use Rattle.script_lang.specs.declared.line.Line.TheVariants.{OpenConn, Arrive, Comment}
use Rattle.replay_run.specs.Runs.{Run}
use Rattle.replay_run.specs.AfterLines as alone
use Rattle.replay_run.proofs.Bounds as bounds
use Rattle.replay_run.proofs.EventRuns.{takes_kept}
use Rattle.masters_run.specs.Runs.{RuledRun, has_masters}
use Rattle.masters_run.specs.AfterLines.{by_grid, unruled, ruled_line, after_line}
use Rattle.masters_run.specs.Printing.{grid_text, ruled_text, unruled_text, line_text}
use Rattle.masters_run.proofs.RuledRuns.{line_keeps}

-- Each line counts one.

abbrev IsCountedFrom : Run → Run → Type 0
IsCountedFrom r next = next.lines ≡ r.lines + 1

pub line_lines : (o : Object Request Partition) (skips : List CallId) (s : RuledRun) (l : ScriptLine) → (after_line o skips s l).run.lines ≡ s.run.lines + 1
line_lines o skips s l =
    line_keeps o skips (IsCountedFrom s.run) (λ r h. h) (λ r p e quiet h. (takes_kept o skips r p e).lines ∙ h) s l refl (bounds.line_lines o skips s.run l)

-- The members are as many, and so are the backups.

pub line_members : (o : Object Request Partition) (skips : List CallId) (s : RuledRun) (l : ScriptLine) → (alone.after_line o skips s.run l).members ≡ s.run.members → (after_line o skips s l).run.members ≡ s.run.members
line_members o skips s l own = line_keeps o skips (λ (r : Run). r.members ≡ s.run.members) (λ r h. h) (λ r p e quiet h. (takes_kept o skips r p e).members ∙ h) s l refl own

-- Bytes are the grid's own line, and so are an opening and a comment.

pub bytes_after : (o : Object Request Partition) (skips : List CallId) (s : RuledRun) (c : ℕ) (bytes : List ℕ) → after_line o skips s (Arrive c bytes) ≡ by_grid o skips s (Arrive c bytes)
bytes_after o skips s c bytes = let l = Arrive c bytes in on_if (λ x. x ≡ by_grid o skips s l) (has_masters s) (ruled_line o skips s l) (unruled o skips s l) refl refl

pub bytes_text : (settings : Settings) (skips : List CallId) (s : RuledRun) (c : ℕ) (bytes : List ℕ) (next : RuledRun) → line_text settings skips s (Arrive c bytes) next ≡ grid_text settings skips s (Arrive c bytes) next
bytes_text settings skips s c bytes next =
    let l = Arrive c bytes in
    on_if (λ t. t ≡ grid_text settings skips s l next) (has_masters s) (ruled_text settings skips s l next) (unruled_text settings skips s l next) refl refl

pub opening_after : (o : Object Request Partition) (skips : List CallId) (s : RuledRun) (c member : ℕ) → after_line o skips s (OpenConn c member) ≡ by_grid o skips s (OpenConn c member)
opening_after o skips s c member = let l = OpenConn c member in on_if (λ x. x ≡ by_grid o skips s l) (has_masters s) (ruled_line o skips s l) (unruled o skips s l) refl refl

pub comment_after : (o : Object Request Partition) (skips : List CallId) (s : RuledRun) → after_line o skips s Comment ≡ by_grid o skips s Comment
comment_after o skips s = on_if (λ x. x ≡ by_grid o skips s Comment) (has_masters s) (ruled_line o skips s Comment) (unruled o skips s Comment) refl refl
