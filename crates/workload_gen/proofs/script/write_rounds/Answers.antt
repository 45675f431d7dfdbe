use Rattle.std.proofs.Common.{◌≡◌, ◌+◌, ◌++◌, ◌∙◌, ap, sym, List, append-nil}
use Rattle.rand_pcg.specs.Lcg.{Lcg}
use Rattle.script_lang.specs.declared.line.Line.{Line}
use Rattle.workload_gen.specs.Draws.{generator_at, draws_of, step_of, step_at, behind_round}
use Rattle.workload_gen.specs.Script.{each_below, step_line, crash_lines, round_lines, line_text, text_of}
use Rattle.workload_gen.specs.declared.steps.Step.{Step}
use Rattle.workload_gen.proofs.Appending.{both, more_lines, each_below-more, generator_at-more}
use Rattle.workload_gen.proofs.script.write_rounds.Goals as goal

pub loop-rounds-init : goal.loop-rounds-init
unfolding each_below generator_at
loop-rounds-init c = record { lines = sym (append-nil c.args.out.now.items); generator = c.new-workload.ensures }

pub loop-rounds-preserved : goal.loop-rounds-preserved
loop-rounds-preserved c =
    let number = c.args.number in
    let rounds = c.loop-rounds.rounds in
    let out = c.args.out.now.items in
    let before = c.loop-rounds.out.items in
    let after = c.write_crash.new.out.items in
    let step : c.next_step.result ≡ step_at number rounds = c.next_step.ensures.step ∙ ap (λ (generator : Lcg). step_of (draws_of generator)) c.loop-rounds.invariant.generator in
    let stepped : c.write_step.new.out.items ≡ before ++ line_text (step_line (rounds + 1) (step_at number rounds)) =
    c.in_ok-write_step.ensures ∙ ap (λ (its : Step). before ++ line_text (step_line (rounds + 1) its)) step in
    let round : after ≡ before ++ text_of (round_lines number rounds) =
    both before c.write_step.new.out.items after (line_text (step_line (rounds + 1) (step_at number rounds))) (text_of (crash_lines (rounds + 1))) stepped c.in_ok-write_crash.ensures in
    record {
      lines = more_lines out before after (each_below rounds (round_lines number)) (round_lines number rounds) c.loop-rounds.invariant.lines round
          ∙ ap (λ (lines : List Line). out ++ text_of lines) (sym (each_below-more rounds (round_lines number)));
      generator = c.next_step.ensures.behind ∙ ap behind_round c.loop-rounds.invariant.generator ∙ sym (generator_at-more number rounds);
    }
