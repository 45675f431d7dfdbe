use Rattle.std.proofs.Common.{ℕ, Bool, List, [], ◌++◌, Ok, refl, sym, subst, ap, ◌∙◌, arith, append-nil, append_assoc}
use Rattle.grid_edge.specs.Given.{Given}
use Rattle.live_control.specs.Reading.{HasCome, HasLooked, HasRead, AreLinesOf}
use Rattle.live_control.proofs.Ahead.{more_given}
use Rattle.live_control.proofs.Looking.{ended_at, other_line, no_line, past_bytes}
use Rattle.live_control.proofs.lines.LineReader.next.Goals as goal

pub returns-then-self-clause-came : goal.returns-then-self-clause-came
returns-then-self-clause-came g c = λ came given h.
    let source = g.S.Source.given c.args.script.now in
    let e = ended_at c.args.self.now source came given [] h c.if-self.true in
    ([], sym (append-nil source.bytes), record { count = h.count; all = subst (λ (l : List ℕ). AreLinesOf given l) (sym (append-nil came)) e.0; at_end = e.1 })

pub pieces-init : goal.pieces-init
pieces-init g c = record {
  going = c.if-self.false;
  never_falls = omega arith;
  come = λ came given h.
      let source = g.S.Source.given c.args.script.now in
      let cleared = other_line c.args.self.now (record c.args.self.now { line = c.clear.new.self }) source came given [] refl h in (
        [],
        sym (append-nil source.bytes),
        subst (λ (l : List ℕ). HasCome (record c.args.self.now { line = c.clear.new.self }) source l given c.clear.new.self.items) (sym (append-nil came))
            (subst (λ (l : List ℕ). HasCome (record c.args.self.now { line = c.clear.new.self }) source came given l) (sym c.clear.ensures.items) cleared),
      );
}

pub returns-in-Err-clause-came : goal.returns-in-Err-clause-came
returns-in-Err-clause-came g c = λ came given h.
    let i = c.pieces.invariant.come came given h in
    let source = g.S.Source.given c.pieces.script in
    (i.0, i.1, no_line c.in-Err.came c.look.new.self source (came ++ i.0) given (c.in-Err.ensures.looked source (came ++ i.0) given i.2))

pub returns-then-self-2-clause-came : goal.returns-then-self-2-clause-came
returns-then-self-2-clause-came g c = λ came given h.
    let i = c.pieces.invariant.come came given h in
    let source = g.S.Source.given c.pieces.script in
    let l = subst (λ (b : Bool). HasLooked (Ok b) c.look.new.self source (came ++ i.0) given) c.in-Ok-false.field-0-test (c.in-Ok-false.ensures.looked source (came ++ i.0) given i.2) in
    (i.0, i.1, past_bytes c.look.new.self source (came ++ i.0) given l.0 c.look.ensures.going l.1 c.if-self-2.true)

pub pieces-preserved : goal.pieces-preserved
pieces-preserved g c = record {
  going = c.read.ensures.going;
  never_falls = omega (arith, c.pieces.invariant.never_falls, c.read.ensures.cause.never_falls);
  come = λ came given h.
      let i = c.pieces.invariant.come came given h in
      let source = g.S.Source.given c.pieces.script in
      let l = subst (λ (b : Bool). HasLooked (Ok b) c.look.new.self source (came ++ i.0) given) c.in-Ok-false.field-0-test (c.in-Ok-false.ensures.looked source (came ++ i.0) given i.2) in
      let later = g.S.Source.given c.read.new.script in
      let r = subst (λ (b : Bool). HasRead (Ok b) c.look.new.self c.read.new.self source later (came ++ i.0) given) c.in-Ok-true-read.field-0-test (c.in-Ok-true-read.ensures.read (came ++ i.0) given l.0) in (
        i.0 ++ r.0,
        more_given (g.S.Source.given c.args.script.now).bytes source.bytes later.bytes i.0 r.0 i.1 r.1,
        subst (λ (x : List ℕ). HasCome c.read.new.self later x given c.read.new.self.line.items) (append_assoc came i.0 r.0) r.2.come,
      );
}

pub returns-in-Ok-false-read-clause-came : goal.returns-in-Ok-false-read-clause-came
returns-in-Ok-false-read-clause-came g c = λ came given h.
    let i = c.pieces.invariant.come came given h in
    let source = g.S.Source.given c.pieces.script in
    let l = subst (λ (b : Bool). HasLooked (Ok b) c.look.new.self source (came ++ i.0) given) c.in-Ok-false.field-0-test (c.in-Ok-false.ensures.looked source (came ++ i.0) given i.2) in
    let later = g.S.Source.given c.read.new.script in
    let r = subst (λ (b : Bool). HasRead (Ok b) c.look.new.self c.read.new.self source later (came ++ i.0) given) c.in-Ok-false-read.field-0-test (c.in-Ok-false-read.ensures.read (came ++ i.0) given l.0) in
    (i.0, r.kept ∙ i.1, c.last.ensures.came later (came ++ i.0) given r.come r.at_end)

pub returns-in-Err-read-clause-came : goal.returns-in-Err-read-clause-came
returns-in-Err-read-clause-came g c = λ came given h.
    let i = c.pieces.invariant.come came given h in
    let source = g.S.Source.given c.pieces.script in
    let l = subst (λ (b : Bool). HasLooked (Ok b) c.look.new.self source (came ++ i.0) given) c.in-Ok-false.field-0-test (c.in-Ok-false.ensures.looked source (came ++ i.0) given i.2) in
    let r = c.in-Err-read.ensures.read (came ++ i.0) given l.0 in
    (i.0, ap (λ (given : Given). given.bytes) r.0 ∙ i.1, (r.1, r.2))
