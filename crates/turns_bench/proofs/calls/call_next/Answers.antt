use Rattle.std.proofs.Common.{rules, ap, sym, ◌∙◌, Some}
use Rattle.turns_bench.proofs.Bases.{may_give, is_named, next_base}
use Rattle.turns_bench.proofs.calls.call_next.Goals as goal

pub split-pass-requires-clause-may : goal.split-pass-requires-clause-may
split-pass-requires-clause-may g c κs = may_give c.args.place.now c.args.conn c.args.base.now c.requires.base

pub call-requires-clause-cell : goal.call-requires-clause-cell
call-requires-clause-cell g c = c.requires.base.cell ∙ ap Some (sym (ap (λ p. p.table) c.split-pass.ensures.given))

pub call-requires-clause-named : goal.call-requires-clause-named
call-requires-clause-named g c = rw c.split-pass.ensures.given (is_named c.args.conn c.args.base.now.names)

pub call-requires-clause-unused : goal.call-requires-clause-unused
call-requires-clause-unused g c = ap (λ p. p.seen) c.split-pass.ensures.given ∙ c.requires.base.unseen

pub returns-clause-base : goal.returns-clause-base
returns-clause-base g c = next_base c.args.place.now c.args.conn c.args.base.now c.split-pass.new.pass c.requires.base c.split-pass.ensures.kept

pub returns-in_err-start-clause-base : goal.returns-in_err-start-clause-base
returns-in_err-start-clause-base g c = next_base c.args.place.now c.args.conn c.args.base.now c.split-pass.new.pass c.requires.base c.split-pass.ensures.kept

pub returns-in_err-call-clause-base : goal.returns-in_err-call-clause-base
returns-in_err-call-clause-base g c = next_base c.args.place.now c.args.conn c.args.base.now c.split-pass.new.pass c.requires.base c.split-pass.ensures.kept
