use Rattle.std.proofs.Common.{◌∙◌}
use Rattle.sample_run.specs.SampleRuns.{sample_settings, run_of, later_lines}
use Rattle.sample_run.proofs.LaterLines.{later_few, later_text}
use Rattle.sample_run.proofs.Samples.{is_summary, is_certain}
use Rattle.sample_run.proofs.sample.replay_watched.Goals as goal

pub run_lines-requires : goal.run_lines-requires
run_lines-requires g c =
    let number = c.args.number in
    let text = later_text number c.as_slice.result.now c.behind_first.result.now (c.as_slice.ensures.value ∙ c.in_ok-script.ensures) c.behind_first.ensures in
    (later_lines number, text, later_few number, c.in_ok-grid.ensures)

pub returns-in-None-clause-ends : goal.returns-in-None-clause-ends
returns-in-None-clause-ends g c =
    let number = c.args.number in
    let text = later_text number c.as_slice.result.now c.behind_first.result.now (c.as_slice.ensures.value ∙ c.in_ok-script.ensures) c.behind_first.ensures in
    let stands = rw c.in-None.is at (c.in_ok-run_lines.ensures (later_lines number) text) in
    let r = run_of stands.skips (later_lines number) in
    is_summary c.run_lines.new.grid number c.lines.result c.counts.result stands (c.lines.ensures sample_settings r stands.stands.holds) (c.counts.ensures sample_settings r stands.stands)

pub returns-in-None-clause-certain : goal.returns-in-None-clause-certain
returns-in-None-clause-certain g c = λ none. is_certain c.args.number _ (returns-in-None-clause-ends g c) none

pub returns-clause-ends : goal.returns-clause-ends
returns-clause-ends g c =
    let number = c.args.number in
    let text = later_text number c.as_slice.result.now c.behind_first.result.now (c.as_slice.ensures.value ∙ c.in_ok-script.ensures) c.behind_first.ensures in
    rw c.in-Some.is at (c.in_ok-run_lines.ensures (later_lines number) text)
