use Rattle.std.proofs.Common.{◌≡◌, ◌+◌, subst, arith}
use Rattle.counted_calls.specs.Sessions.{HasMade}
use Rattle.counted_calls.specs.declared.requests.TheConstants.{CALLS}
use Rattle.counted_calls.proofs.calling.make_calls.Goals as goal

pub make_call-requires-clause-made : goal.make_call-requires-clause-made
make_call-requires-clause-made g c = c.loop-number.invariant.some

pub loop-number-preserved : goal.loop-number-preserved
loop-number-preserved g c =
    let was = c.loop-number.invariant in
    let some = was.some in
    let few = was.few in
    let most = c.in_ok-count.ensures.most in
    record {
      made = λ conn first. c.in_ok-count.ensures.made conn c.loop-number.answered (was.made conn first);
      some = (some.0, some.1 + c.in_ok-count.count, c.in_ok-count.ensures.made some.0 some.1 some.2);
      few = omega (arith, few, most);
    }

pub returns : goal.returns
returns g c conn first =
    let done : c.loop-number.number ≡ CALLS = omega arith in
    subst (λ n. HasMade c.args.grid.now c.args.key.now conn n c.loop-number.answered c.loop-number.session) done (c.loop-number.invariant.made conn first)
