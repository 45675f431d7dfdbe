use Rattle.std.proofs.Common.{arith}
use Rattle.std.proofs.lemmas.Result.{on_ok_weaker}
use Rattle.sample_run.specs.SampleRuns.{sample_settings, run_of}
use Rattle.sample_run.proofs.Sampling.{members_of, reads, same_line, may_run, ran, given_up}
use Rattle.sample_run.proofs.lines.run_line.Goals as goal

pub read-requires-clause-some : goal.read-requires-clause-some
read-requires-clause-some g c =
    let next = c.requires in
    let members = c.members.ensures sample_settings (run_of next.stands.skips next.done) next.stands.stands.holds in
    let four = members_of next.stands.skips next.done in
    omega (arith, members, four)

pub read-requires-clause-most : goal.read-requires-clause-most
read-requires-clause-most g c =
    let next = c.requires in
    let members = c.members.ensures sample_settings (run_of next.stands.skips next.done) next.stands.stands.holds in
    let four = members_of next.stands.skips next.done in
    omega (arith, members, four)

pub read-requires-clause-readable : goal.read-requires-clause-readable
read-requires-clause-readable g c =
    let next = c.requires in
    let members = c.members.ensures sample_settings (run_of next.stands.skips next.done) next.stands.stands.holds in
    (next.line, reads c.args.grid.now c.args.number c.args.text.now next c.members.result members)

pub run_line-requires : goal.run_line-requires
run_line-requires g c =
    let next = c.requires in
    let members = c.members.ensures sample_settings (run_of next.stands.skips next.done) next.stands.stands.holds in
    may_run c.args.grid.now c.args.number c.args.text.now next c.members.result members c.in_ok-line.line c.in_ok-line.ensures.line c.in_ok-line.ensures.within

pub returns-clause-ok : goal.returns-clause-ok
returns-clause-ok g c = λ next.
    let r = run_of next.stands.skips next.done in
    let members = c.members.ensures sample_settings r next.stands.stands.holds in
    let same = same_line c.args.grid.now c.args.number c.args.text.now next c.members.result members c.in_ok-line.line c.in_ok-line.ensures.line in
    on_ok_weaker c.run_line.result (ran c.args.grid.now c.args.number c.args.text.now next c.run_line.new.self c.in_ok-line.line same) (c.run_line.ensures.ok sample_settings r next.stands.stands)

pub returns-clause-full : goal.returns-clause-full
returns-clause-full g c = λ next is.
    let r = run_of next.stands.skips next.done in
    let members = c.members.ensures sample_settings r next.stands.stands.holds in
    let same = same_line c.args.grid.now c.args.number c.args.text.now next c.members.result members c.in_ok-line.line c.in_ok-line.ensures.line in
    given_up c.args.grid.now c.args.number c.args.text.now next c.in_ok-line.line same (c.run_line.ensures.full sample_settings r next.stands.stands is)
