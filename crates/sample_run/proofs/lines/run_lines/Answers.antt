use Rattle.std.proofs.Common.{◌+◌, Err, ap, arith}
use Rattle.std.proofs.lemmas.List.{length-drop, take_rest}
use Rattle.sample_run.specs.SampleRuns.{sample_settings}
use Rattle.sample_run.proofs.Sampling.{none_ran, in_limit, is_next, one_more, stops, all_ran}
use Rattle.sample_run.proofs.lines.run_lines.Goals as goal

pub texts-init : goal.texts-init
texts-init g c = record {
  ran = λ lines is. none_ran c.args.grid.now lines c.args.text.now c.requires.3 is;
  within = omega arith;
}

pub overflow_add-number : goal.overflow_add-number
overflow_add-number g c =
    let have = c.texts.invariant.ran c.requires.0 c.requires.1 in
    let within = in_limit c.texts.grid c.requires.0 c.texts.rest.now have c.in-Some.at c.in-Some.ensures c.lines-number.result (c.lines-number.ensures sample_settings) c.requires.2 in
    omega (arith, within)

pub run_line-requires : goal.run_line-requires
run_line-requires g c =
    let have = c.texts.invariant.ran c.requires.0 c.requires.1 in
    let within = in_limit c.texts.grid c.requires.0 c.texts.rest.now have c.in-Some.at c.in-Some.ensures c.lines-number.result (c.lines-number.ensures sample_settings) c.requires.2 in
    is_next c.texts.grid c.requires.0 c.texts.rest.now have c.in-Some.at c.in-Some.ensures c.lines-number.result (c.lines-number.ensures sample_settings) within

pub returns-in-Err-InFlight : goal.returns-in-Err-InFlight
returns-in-Err-InFlight g c = λ lines is.
    let first = c.texts.invariant.ran c.requires.0 c.requires.1 in
    let within = in_limit c.texts.grid c.requires.0 c.texts.rest.now first c.in-Some.at c.in-Some.ensures c.lines-number.result (c.lines-number.ensures sample_settings) c.requires.2 in
    let have = c.texts.invariant.ran lines is in
    let next = is_next c.texts.grid lines c.texts.rest.now have c.in-Some.at c.in-Some.ensures c.lines-number.result (c.lines-number.ensures sample_settings) within in
    stops c.texts.grid lines c.texts.rest.now have c.in-Some.at c.in-Some.ensures (c.lines-number.result + 1)
    (c.in-Err-InFlight.ensures.full next (ap Err c.in-Err-InFlight.field-0-is))

pub texts-smaller : goal.texts-smaller
texts-smaller g c = rw (take_rest c.texts.rest.now (c.in-Some.at + 1)) (omega (arith, length-drop (c.in-Some.at + 1) c.texts.rest.now, c.in-Some.ensures.0.high))

pub texts-preserved : goal.texts-preserved
texts-preserved g c =
    let first = c.texts.invariant.ran c.requires.0 c.requires.1 in
    let within = in_limit c.texts.grid c.requires.0 c.texts.rest.now first c.in-Some.at c.in-Some.ensures c.lines-number.result (c.lines-number.ensures sample_settings) c.requires.2 in
    record {
      ran = λ lines is.
          let have = c.texts.invariant.ran lines is in
          let next = is_next c.texts.grid lines c.texts.rest.now have c.in-Some.at c.in-Some.ensures c.lines-number.result (c.lines-number.ensures sample_settings) within in
          one_more c.texts.grid lines c.texts.rest.now have c.in-Some.at c.in-Some.ensures c.run_line.new.grid _ (take_rest c.texts.rest.now (c.in-Some.at + 1)) (c.in-Ok.ensures.ok next);
      within = rw (take_rest c.texts.rest.now (c.in-Some.at + 1)) (omega (arith, length-drop (c.in-Some.at + 1) c.texts.rest.now, c.texts.invariant.within));
    }

pub returns : goal.returns
returns g c = λ lines is. all_ran c.texts.grid lines c.texts.rest.now (c.texts.invariant.ran lines is) c.in_default.ensures
