use Rattle.std.proofs.Common.{◌≡◌, ℕ, List, subst, ◌∙◌, arith}
use Rattle.live_control.specs.Serving.{Serves, StopsAs}
use Rattle.live_control.proofs.Ending.{nothing_served, at_first, went_on, stopped, no_end, past_limit, failed, no_memory}
use Rattle.live_control.proofs.serving.serve_control.Goals as goal

pub returns-in_default-clause-served : goal.returns-in_default-clause-served
returns-in_default-clause-served g c = nothing_served c.args.grid.now c.args.members (g.S.Source.given c.args.script.now) (g.K.Sink.taken c.args.out.now) c.args.pass.now

pub loop-init : goal.loop-init
loop-init g c = record {
  serving = at_first c.args.grid.now c.args.members c.in-Ok.reader (g.S.Source.given c.args.script.now) (g.K.Sink.taken c.args.out.now) c.args.pass.now (c.in-Ok.ensures (g.S.Source.given c.args.script.now));
  may = c.requires.pass;
  reads = omega arith;
  writes = omega arith;
}

pub loop-preserved : goal.loop-preserved
loop-preserved g c =
    let s = c.loop.invariant.serving in
    let n = c.in-Line.ensures.came s.read s.lines s.come in
    let next = c.next-in-loop.new.self in
    let before = g.K.Sink.taken c.loop.out in
    let after = g.K.Sink.taken c.serve_line.new.out in
    let goes = subst (λ (k : ℕ). Serves c.args.grid.now c.args.members k next.line.items c.loop.pass c.serve_line.new.pass before after) c.lines-number.ensures
    (subst (λ (l : List ℕ). Serves c.args.grid.now c.args.members c.lines-number.result l c.loop.pass c.serve_line.new.pass before after) c.line-line.ensures c.in-Ok-serve_line.ensures.goes) in record {
      serving =
          went_on c.args.grid.now c.args.members c.loop.reader (g.S.Source.given c.args.script.now) (g.S.Source.given c.loop.script) (g.K.Sink.taken c.args.out.now) before c.args.pass.now c.loop.pass s
          next (g.S.Source.given c.next-in-loop.new.script) n.0 n.1 next.line.items n.2.0 c.serve_line.new.pass after goes;
      may = c.serve_line.ensures.kept;
      reads = omega (arith, c.loop.invariant.reads, c.next-in-loop.ensures.never_falls);
      writes = omega (arith, c.loop.invariant.writes, c.serve_line.ensures.never_falls);
    }

pub returns-in-Err-clause-served : goal.returns-in-Err-clause-served
returns-in-Err-clause-served g c =
    let s = c.loop.invariant.serving in
    let n = c.in-Line.ensures.came s.read s.lines s.come in
    let next = c.next-in-loop.new.self in
    let before = g.K.Sink.taken c.loop.out in
    let after = g.K.Sink.taken c.serve_line.new.out in
    let stops = subst (λ (k : ℕ). StopsAs c.args.grid.now c.args.members k next.line.items c.loop.pass c.serve_line.new.pass before after c.in-Err.status) c.lines-number.ensures
    (subst (λ (l : List ℕ). StopsAs c.args.grid.now c.args.members c.lines-number.result l c.loop.pass c.serve_line.new.pass before after c.in-Err.status) c.line-line.ensures c.in-Err.ensures.stops) in
    stopped c.args.grid.now c.args.members c.loop.reader (g.S.Source.given c.args.script.now) (g.S.Source.given c.loop.script) (g.K.Sink.taken c.args.out.now) before c.args.pass.now c.loop.pass s
    next (g.S.Source.given c.next-in-loop.new.script) n.0 n.1 next.line.items n.2.0 c.in-Err.status c.serve_line.new.pass after stops

pub returns-in-Nothing-clause-served : goal.returns-in-Nothing-clause-served
returns-in-Nothing-clause-served g c =
    let s = c.loop.invariant.serving in
    let n = c.in-Nothing.ensures.came s.read s.lines s.come in
    no_end c.args.grid.now c.args.members c.loop.reader (g.S.Source.given c.args.script.now) (g.S.Source.given c.loop.script) (g.K.Sink.taken c.args.out.now) (g.K.Sink.taken c.loop.out) c.args.pass.now c.loop.pass s
    c.next-in-loop.new.self (g.S.Source.given c.next-in-loop.new.script) n.0 n.1 c.lines.result c.refuse_end.result (g.K.Sink.taken c.refuse_end.new.out) (c.lines.ensures ∙ n.2.count) n.2.all n.2.at_end c.refuse_end.ensures.last

pub stop_at_limit-requires : goal.stop_at_limit-requires
stop_at_limit-requires g c =
    let s = c.loop.invariant.serving in
    let n = c.in-Limit.ensures.came s.read s.lines s.come in
    let count : c.lines-in-Limit.result ≡ c.next-in-loop.new.self.lines = c.lines-in-Limit.ensures in
    omega (arith, count, n.2.count, n.2.few)

pub returns-in-Limit-clause-served : goal.returns-in-Limit-clause-served
returns-in-Limit-clause-served g c =
    let s = c.loop.invariant.serving in
    let n = c.in-Limit.ensures.came s.read s.lines s.come in
    past_limit c.args.grid.now c.args.members c.loop.reader (g.S.Source.given c.args.script.now) (g.S.Source.given c.loop.script) (g.K.Sink.taken c.args.out.now) (g.K.Sink.taken c.loop.out) c.args.pass.now c.loop.pass s
    c.next-in-loop.new.self (g.S.Source.given c.next-in-loop.new.script) n.0 n.1 c.lines-in-Limit.result c.in-Limit.what c.stop_at_limit.result (g.K.Sink.taken c.stop_at_limit.new.out) (c.lines-in-Limit.ensures ∙ n.2.count) n.2.past c.stop_at_limit.ensures.last

pub returns-in-Fault-clause-served : goal.returns-in-Fault-clause-served
returns-in-Fault-clause-served g c =
    let s = c.loop.invariant.serving in
    let n = c.in-Fault.ensures.came s.read s.lines s.come in
    failed c.args.grid.now c.args.members c.loop.reader (g.S.Source.given c.args.script.now) (g.S.Source.given c.loop.script) (g.K.Sink.taken c.args.out.now) (g.K.Sink.taken c.loop.out) c.args.pass.now c.loop.pass s
    c.next-in-loop.new.self (g.S.Source.given c.next-in-loop.new.script) n.0 n.1 n.2.0 n.2.1

pub returns-in-NoMemory-clause-served : goal.returns-in-NoMemory-clause-served
returns-in-NoMemory-clause-served g c =
    let s = c.loop.invariant.serving in
    let n = c.in-NoMemory.ensures.came s.read s.lines s.come in
    no_memory c.args.grid.now c.args.members c.loop.reader (g.S.Source.given c.args.script.now) (g.S.Source.given c.loop.script) (g.K.Sink.taken c.args.out.now) (g.K.Sink.taken c.loop.out) c.args.pass.now c.loop.pass s
    c.next-in-loop.new.self (g.S.Source.given c.next-in-loop.new.script) n.0 n.1 n.2
