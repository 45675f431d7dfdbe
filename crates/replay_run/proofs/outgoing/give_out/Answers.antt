use Rattle.std.proofs.Common.{◌∙◌, ap, sym, ◌++◌, List, refl, subst, append-nil}
use Rattle.partition_world.specs.Worlds.{waiting}
use Rattle.primary_hold.specs.declared.answer.CallAnswer.{CallAnswer}
use Rattle.replay_run.specs.Grids.{HasConnections}
use Rattle.replay_run.specs.Tables.{Table}
use Rattle.replay_run.proofs.GivingOut.{gave_more, gives_out, popped, told_out, table_out, more_told, more_table, connections_out}
use Rattle.replay_run.proofs.outgoing.give_out.Goals as goal
use Rattle.line_told.specs.declared.told.Told.{Told}

-- One is released.
pub loop-answer-preserved : goal.loop-answer-preserved
loop-answer-preserved g c =
    let at = c.args.at in
    let answer = c.in-Some.answer in
    let answers = waiting c.loop-answer.world at.member in
    let rest = waiting c.pop_released.new.self at.member in
    let first = c.in-Some.ensures.given in
    record {
      connections = λ r has.
          let before = c.loop-answer.invariant.connections r has in
          subst (λ (t : Table). HasConnections t r) (sym (c.in_ok-release.ensures.table r before)) (connections_out r at.own at.line c.loop-answer.connections answer before);
      told = λ r all line has stand.
          ap (λ (out : List Told). out ++ told_out r at.own at.partition all rest) (c.in_ok-release.ensures.told r all line (c.loop-answer.invariant.connections r has) stand)
          ∙ more_told r at.own answer answers rest first at.partition all c.loop-answer.out.items ∙ c.loop-answer.invariant.told r all line has stand;
      table = λ r has.
          ap (λ (t : Table). table_out r at.own at.line t rest) (c.in_ok-release.ensures.table r (c.loop-answer.invariant.connections r has))
          ∙ more_table r at.own answer answers rest first at.line c.loop-answer.connections ∙ c.loop-answer.invariant.table r has;
      world = gave_more _ c.loop-answer.world c.pop_released.new.self at.member c.loop-answer.invariant.world
          (popped c.loop-answer.world c.pop_released.new.self at.member c.in-Some.ensures.stands c.in-Some.ensures.setup c.in-Some.ensures.others);
    }

-- None waits.
pub returns : goal.returns
returns g c =
    let at = c.args.at in
    let none = c.in_default.ensures.none.0 refl in record {
      told = λ r all line has stand. sym (append-nil c.loop-answer.out.items) ∙ ap (λ (answers : List CallAnswer). c.loop-answer.out.items ++ told_out r at.own at.partition all answers) (sym none) ∙ c.loop-answer.invariant.told r all line has stand;
      table = λ r has. ap (table_out r at.own at.line c.loop-answer.connections) (sym none) ∙ c.loop-answer.invariant.table r has;
      world = gives_out _ c.pop_released.new.self at.member
          (gave_more _ c.loop-answer.world c.pop_released.new.self at.member c.loop-answer.invariant.world
          (popped c.loop-answer.world c.pop_released.new.self at.member c.in_default.ensures.stands c.in_default.ensures.setup c.in_default.ensures.others))
          (c.in_default.ensures.kept ∙ none);
    }
