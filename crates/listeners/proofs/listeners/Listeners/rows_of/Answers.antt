use Rattle.std.proofs.Common.{ap, ◌∙◌}
use Rattle.std.proofs.lemmas.Result.{IfOk-weaker}
use Rattle.listeners.specs.Telling.{told, row_event}
use Rattle.listeners.proofs.listeners.Listeners.rows_of.Goals as goal

pub returns : goal.returns
returns c = λ all keep. IfOk-weaker c.row_events.result _ _ (λ events is. is ∙ ap (told (row_event c.args.rows.now)) (c.as_slice.ensures ∙ keep.rows_kept)) c.row_events.ensures
