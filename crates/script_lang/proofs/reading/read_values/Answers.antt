use Rattle.std.proofs.Common.{length, ap, arith, rules}
use Rattle.script_lang.specs.Lines.{value_of, values_of}
use Rattle.script_lang.specs.declared.reading.Value.{Value}
use Rattle.script_lang.proofs.Refusals.{refused_with}
use Rattle.script_lang.proofs.ValueLists.{next_pair, leaves_others, refuses_whole, leaves_none}
use Rattle.script_lang.proofs.reading.read_values.Goals as goal

pub returns-in_err-read : goal.returns-in_err-read
returns-in_err-read c =
    let whole = values_of c.args.members c.args.fields.now c.args.words in
    refused_with (λ (value : Value). value) (λ values. values.items) _ (value_of c.args.members c.in-Some.field.now c.in-Some.word.now) whole c.from_residual.result (search rules) c.in_err-read.ensures
    (refuses_whole c.args.members c.loop-field.values.items c.loop-field.field-iterator c.next.new.self whole c.loop-field.invariant.3 c.next.result (c.in-Some.field, c.in-Some.word) c.in-Some.is c.next.ensures.steps)

pub returns : goal.returns
returns c =
    leaves_none c.args.members c.loop-field.values.items c.loop-field.field-iterator c.next.new.self _ c.loop-field.invariant.3 c.next.result c.in-None.is c.next.ensures.steps

pub loop-field-preserved : goal.loop-field-preserved
loop-field-preserved c =
    let pair = next_pair c.loop-field.field-iterator c.next.new.self c.next.result (c.in-Some.field, c.in-Some.word) c.in-Some.is c.next.ensures.steps in (
      c.loop-field.invariant.0,
      tt,
      omega (arith, ap length pair.0, c.push.ensures.len, c.loop-field.invariant.2),
      leaves_others c.args.members c.loop-field.values.items c.loop-field.field-iterator c.next.new.self _ c.loop-field.invariant.3 c.next.result (c.in-Some.field, c.in-Some.word) c.in-Some.is c.next.ensures.steps
          c.in_ok-read.field-0 c.push.new.self.items c.in_ok-read.ensures c.push.ensures.items,
    )
