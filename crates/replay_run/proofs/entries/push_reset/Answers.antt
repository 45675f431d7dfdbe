-- The parts of a reset's text, put together.
use Rattle.std.proofs.Common.{◌∙◌, ◌++◌, List, ℕ, ap, codes}
use Rattle.std.proofs.lemmas.Result.{on_ok_weaker}
use Rattle.replay_run.specs.Dumps.{number, line_end}
use Rattle.replay_run.proofs.HistoryTexts.{grouped}
use Rattle.replay_run.proofs.entries.push_reset.Goals as goal

pub returns : goal.returns
returns c =
    let start = c.args.out.now.items in
    let line = number c.from.result in
    let partition = number c.from-2.result in
    let place = number c.args.at.place in
    let reopened = number c.from-3.result in
    on_ok_weaker c.push_text-4.result
    (λ e. e ∙ ap (λ (t : List ℕ). t ++ line_end)
    (c.in_ok-push_text-3.ensures ∙ ap (λ (t : List ℕ). t ++ codes "- - reset - - -")
    (c.in_ok-push_number-4.ensures ∙ ap (λ (t : List ℕ). t ++ reopened)
    (c.in_ok-push_text-2.ensures ∙ ap (λ (t : List ℕ). t ++ codes "- - ")
    (c.in_ok-push_number-3.ensures ∙ ap (λ (t : List ℕ). t ++ place)
    (c.in_ok-push_number-2.ensures ∙ ap (λ (t : List ℕ). t ++ partition)
    (c.in_ok-push_text.ensures ∙ ap (λ (t : List ℕ). t ++ codes "entry ") c.in_ok-push_number.ensures))))))
    ∙ grouped start line (codes "entry ") partition place (codes "- - ") reopened (codes "- - reset - - -") line_end
    ∙ (λ i. start ++ (((((((number (c.from.ensures i) ++ codes "entry ") ++ number (c.from-2.ensures i)) ++ place) ++ codes "- - ") ++ number (c.from-3.ensures i)) ++ codes "- - reset - - -") ++ line_end)))
    c.push_text-4.ensures
