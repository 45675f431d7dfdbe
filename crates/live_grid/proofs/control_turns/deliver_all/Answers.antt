use Rattle.std.proofs.Common.{ap, ◌∙◌, sym, Some}
use Rattle.live_grid.specs.Histories.{live_key}
use Rattle.live_grid.proofs.Following.{follows_itself, follows_on}
use Rattle.live_grid.proofs.control_turns.deliver_all.Goals as goal

pub loop-init : goal.loop-init
loop-init g c = record { here = c.requires.cell; follows = follows_itself live_key c.args.pass }

pub returns-then-not-ran : goal.returns-then-not-ran
returns-then-not-ran g c = follows_on live_key c.args.pass c.loop.going c.delivery_turn-pass.result.0 c.loop.invariant.follows c.delivery_turn-pass.ensures

pub loop-preserved : goal.loop-preserved
loop-preserved g c = record {
  here = c.loop.invariant.here ∙ ap (λ p. Some p.table) (sym c.delivery_turn-pass.ensures.pass);
  follows = follows_on live_key c.args.pass c.loop.going c.delivery_turn-pass.result.0 c.loop.invariant.follows c.delivery_turn-pass.ensures;
}
