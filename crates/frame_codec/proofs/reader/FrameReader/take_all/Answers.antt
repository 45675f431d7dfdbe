-- One part of the piece after another, to its end or to the first fault.
use Rattle.std.proofs.Common.{◌≡◌, ℕ, ◌-◌, ◌≤◌, Option, is_some, not, List, length, take, drop, ap, sym, subst, ◌∙◌, arith}
use Rattle.std.proofs.lemmas.List.{take_rest, length-drop}
use Rattle.std.proofs.lemmas.Result.{err_from_is_err_and}
use Rattle.frame_codec.specs.FrameReaders.{InProgress}
use Rattle.frame_codec.specs.Feeding.{Takes}
use Rattle.frame_codec.specs.declared.frames.PlacedFrame.{PlacedFrame}
use Rattle.frame_codec.specs.declared.malformed.Malformed.{Malformed}
use Rattle.frame_codec.proofs.Feeds.{takes_more, takes_all_faulty}
use Rattle.frame_codec.proofs.reader.FrameReader.take_all.Goals as goal

pub returns-in_err-taken-clause-err : goal.returns-in_err-taken-clause-err
returns-in_err-taken-clause-err c =
    let p = err_from_is_err_and c.from_residual.result c.from_residual.ensures.1 in
    let old = c.args.self.now in
    let given = c.args.frames.now.items in
    let piece = c.args.piece.now in
    let n = c.loop-taken.taken in
    let same = c.in_err-taken.ensures.err in
    rw p.1 (
      n,
      c.loop-taken.invariant.within,
      subst (λ (s : InProgress). Takes old given s c.take_some.new.frames.items piece n) (sym same.0)
          (subst (λ (fs : List PlacedFrame). Takes old given c.loop-taken.self fs piece n) (sym same.1) c.loop-taken.invariant.takes),
    )

pub loop-taken-preserved : goal.loop-taken-preserved
loop-taken-preserved c =
    let piece = c.args.piece.now in
    let n = c.loop-taken.taken in
    let m = c.in_ok-taken.field-0 in
    let rest : take (length piece - n) (drop n piece) ≡ drop n piece = take_rest piece n in
    let count : m ≤ length (take (length piece - n) (drop n piece)) = c.in_ok-taken.ensures.count.1 in
    record {
      within = omega (arith, count, ap length rest, length-drop n piece, c.loop-taken.invariant.within);
      place = omega (arith, c.in_ok-taken.ensures.place, c.loop-taken.invariant.place);
      takes =
          takes_more c.args.self.now c.args.frames.now.items c.loop-taken.self c.loop-taken.frames.items c.take_some.new.self c.take_some.new.frames.items piece n m
          c.loop-taken.invariant.takes
          (subst (λ (xs : List ℕ). Takes c.loop-taken.self c.loop-taken.frames.items c.take_some.new.self c.take_some.new.frames.items xs m) rest c.in_ok-taken.ensures.ok);
    }

pub returns-else-is_none-clause-ok : goal.returns-else-is_none-clause-ok
returns-else-is_none-clause-ok c =
    takes_all_faulty c.args.self.now c.args.frames.now.items c.loop-taken.self c.loop-taken.frames.items c.args.piece.now c.loop-taken.taken c.loop-taken.invariant.takes
    (ap (λ (f : Option Malformed). is_some f) (sym c.fault.ensures) ∙ c.is_none.ensures ∙ ap not c.if-is_none.false)
