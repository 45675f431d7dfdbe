use Rattle.std.proofs.Common.{refl}
use Rattle.std.proofs.lemmas.Result.{on_ok_weaker}
use Rattle.script_lang.specs.declared.line.Line.TheVariants.{Comment, MasterFlow}
use Rattle.replay_run.proofs.GridLines.{may_run_as, has_given_as, next_number, counted_line, passed_line}
use Rattle.replay_run.proofs.LineCases.{begins_again, idle_writes_none, writes_none}
use Rattle.replay_run.proofs.grid.Grid.run_quiet_line.Goals as goal

pub returns-in-Comment : goal.returns-in-Comment
returns-in-Comment g c = λ settings r s.
    let at_line = next_number c.args.self.now c.args.number c.args.line.now c.requires.may r s in
    on_ok_weaker c.count.result
    (λ e. writes_none settings r c.args.line.now Comment c.in-Comment.is refl c.args.out.now c.count.new.out
    (counted_line c.args.self.now c.count.new.self r c.args.number Comment s at_line c.requires.may.within refl c.count.ensures.grid c.args.out.now.told.items c.count.new.out.items refl refl refl e))
    c.count.ensures.told

-- There are no masters whose messages could flow.
pub returns-in-MasterFlow : goal.returns-in-MasterFlow
returns-in-MasterFlow g c = λ settings r s.
    let line = MasterFlow c.in-MasterFlow.partition c.in-MasterFlow.most in
    let at_line = next_number c.args.self.now c.args.number c.args.line.now c.requires.may r s in
    on_ok_weaker c.flow_nothing.result
    (λ e. writes_none settings r c.args.line.now line c.in-MasterFlow.is refl c.args.out.now c.flow_nothing.new.out
    (counted_line c.args.self.now c.flow_nothing.new.self r c.args.number line s at_line c.requires.may.within refl c.flow_nothing.ensures.grid c.args.out.now.told.items c.flow_nothing.new.out.items refl refl refl e))
    c.flow_nothing.ensures.told

pub open-requires : goal.open-requires
open-requires g c = may_run_as c.in-OpenConn.is c.requires.may

pub returns-in-OpenConn : goal.returns-in-OpenConn
returns-in-OpenConn g c = λ settings r s. on_ok_weaker c.open.result (writes_none settings r c.args.line.now _ c.in-OpenConn.is refl c.args.out.now c.open.new.out) (c.open.ensures settings r s)

pub dump-requires : goal.dump-requires
dump-requires g c = may_run_as c.in-Dump.is c.requires.may

pub returns-in-Dump : goal.returns-in-Dump
returns-in-Dump g c = λ settings r s. on_ok_weaker c.dump.result (has_given_as c.in-Dump.is) (c.dump.ensures settings r s)

pub trail-requires : goal.trail-requires
trail-requires g c = may_run_as c.in-Trail.is c.requires.may

pub returns-in-Trail : goal.returns-in-Trail
returns-in-Trail g c = λ settings r s. on_ok_weaker c.trail.result (has_given_as c.in-Trail.is) (c.trail.ensures settings r s)

pub push_links-requires : goal.push_links-requires
push_links-requires g c = may_run_as c.in-Links.is c.requires.may

pub returns-in-Links : goal.returns-in-Links
returns-in-Links g c = λ settings r s. on_ok_weaker c.push_links.result (has_given_as c.in-Links.is) (c.push_links.ensures settings r s)

pub returns-in-End : goal.returns-in-End
returns-in-End g c = λ settings r s. on_ok_weaker c.end.result (has_given_as c.in-End.is) (c.end.ensures settings r s)

-- The grid is made once.
pub returns-in_default : goal.returns-in_default
returns-in_default g c = λ settings r s.
    let line = c.args.line.now in
    let at_line = next_number c.args.self.now c.args.number line c.requires.may r s in
    let begins = begins_again settings r line c.requires.quiet c.in_default.not-OpenConn c.in_default.not-Dump c.in_default.not-Links c.in_default.not-Trail c.in_default.not-MasterFlow c.in_default.not-Comment c.in_default.not-End in
    let none = idle_writes_none line c.in_default.not-Dump c.in_default.not-Links c.in_default.not-Trail c.in_default.not-End in
    on_ok_weaker c.pass.result
    (λ e. writes_none settings r line line refl none c.args.out.now c.pass.new.out
    (passed_line c.args.self.now c.pass.new.self r c.args.number line s at_line c.requires.may.within begins.after c.pass.ensures.grid c.args.out.now.told.items c.pass.new.out.items begins.nothing e))
    c.pass.ensures.told
