-- What a line tells, by what it appended.
use Rattle.std.proofs.Common.{◌≡◌, true, false, List, [], ◌++◌, length, drop, refl, ap, sym, ◌∙◌, append_assoc, append-nil}
use Rattle.std.proofs.lemmas.List.{drop_at, map-append}
use Rattle.std.proofs.lemmas.List.Concat.{flat_map-append}
use Rattle.grid_base.specs.Objects.{Object}
use Rattle.grid_base.specs.declared.names.CallId.{CallId}
use Rattle.grid_base.specs.declared.calls.Request.{Request}
use Rattle.partition_protocol.specs.Sequences.{IsFrontOf}
use Rattle.call_engine.specs.Calls.{Settings}
use Rattle.call_engine.specs.Objects.{partition_object}
use Rattle.object_store.specs.Partitions.{Partition}
use Rattle.replay_run.specs.Runs.{Run, Appended}
use Rattle.replay_run.specs.Printing.{does_nothing, new_messages}
use Rattle.line_told.specs.declared.told.LineOutcome.TheVariants.{Idle}
use Rattle.line_told.specs.declared.told.Told.TheVariants as told
use Rattle.script_lang.specs.declared.line.Line.{Line}
use Rattle.replay_run.specs.Appending.{appended_text}
use Rattle.replay_run.specs.WorldCalls.{texts_of}
use Rattle.replay_run.specs.LineTold.{came_to, all_told, outcome_told, messages_told, line_closing, line_told}

-- what was appended since

pub told-append : (xs ys : List Appended) → all_told (xs ++ ys) ≡ all_told xs ++ all_told ys
told-append xs ys = map-append told.Message xs ys

-- and so as text
pub texts-append : (xs ys : List Appended) → texts_of (xs ++ ys) ≡ texts_of xs ++ texts_of ys
texts-append xs ys = flat_map-append appended_text xs ys

pub new_with : (r next : Run) (ms : List Appended) → next.appended ≡ r.appended ++ ms → new_messages r next ≡ ms
new_with r next ms e = ap (drop (length r.appended)) e ∙ drop_at r.appended ms (length r.appended) refl

-- in two parts, as of one call and then another
pub new_more : (r mid next : Run) (ms : List Appended) → IsFrontOf r.appended mid.appended → next.appended ≡ mid.appended ++ ms → new_messages r next ≡ new_messages r mid ++ ms
new_more r mid next ms (first, e) more =
    new_with r next (first ++ ms) (more ∙ ap (λ xs. xs ++ ms) (sym e) ∙ append_assoc r.appended first ms)
    ∙ ap (λ xs. xs ++ ms) (sym (new_with r mid first (sym e)))

pub told_more : (r mid next : Run) (ms : List Appended) → IsFrontOf r.appended mid.appended → next.appended ≡ mid.appended ++ ms
    → all_told (new_messages r next) ≡ all_told (new_messages r mid) ++ all_told ms
told_more r mid next ms front more = ap all_told (new_more r mid next ms front more) ∙ told-append (new_messages r mid) ms

-- what a line tells

module _ (settings : Settings) (skips : List CallId) (r next : Run) (line : Line) where
  abbrev o : Object Request Partition
  o = partition_object settings

  -- a line whose condition is false
  pub told_nothing : does_nothing o r line ≡ true → line_told settings skips r line next ≡ came_to Idle
  told_nothing idle = rw idle refl

  -- another line: its outcome, its messages, and the connection that it closed
  pub told_with : (ms : List Appended) → does_nothing o r line ≡ false → messages_told settings skips r line next ≡ all_told (new_messages r next) → next.appended ≡ r.appended ++ ms
      → line_told settings skips r line next ≡ outcome_told settings r line next ++ all_told ms ++ line_closing next line
  told_with ms goes said e =
      rw goes (ap (λ xs. outcome_told settings r line next ++ xs ++ line_closing next line) (said ∙ ap all_told (new_with r next ms e)))

  -- a line that appends nothing and closes nothing
  pub told_without : does_nothing o r line ≡ false → messages_told settings skips r line next ≡ all_told (new_messages r next) → next.appended ≡ r.appended → line_closing next line ≡ []
      → line_told settings skips r line next ≡ outcome_told settings r line next
  told_without goes said e none =
      told_with [] goes said (e ∙ sym (append-nil r.appended))
      ∙ ap (λ xs. outcome_told settings r line next ++ [] ++ xs) none
      ∙ append-nil (outcome_told settings r line next ++ []) ∙ append-nil (outcome_told settings r line next)
