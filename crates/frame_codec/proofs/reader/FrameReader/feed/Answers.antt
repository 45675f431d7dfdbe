-- A feed takes all of the piece, or goes back over what it took.
use Rattle.std.proofs.Common.{◌≡◌, ◌++◌, take, ap, sym, subst, ◌∙◌, arith, length-append}
use Rattle.frame_codec.specs.FrameReaders.{InProgress, next_place}
use Rattle.frame_codec.specs.Marks.{IsMarkOf}
use Rattle.frame_codec.proofs.Feeds.{from_none, from_none_all}
use Rattle.frame_codec.proofs.Standing.{standing-is}
use Rattle.frame_codec.proofs.Rests.{next_place_within}
use Rattle.frame_codec.proofs.reader.FrameReader.feed.Goals as goal

pub returns-in-Err-clause-err : goal.returns-in-Err-clause-err
returns-in-Err-clause-err c =
    let old = c.args.self.now in
    let own = c.mark-mark.ensures.stands in
    let some = c.in-Err.ensures.err in
    let given = from_none old c.new-frames.result.items c.take_all.new.self c.take_all.new.frames.items c.args.piece.now some.0 c.new-frames.ensures.items some.2 old.at old.bytes own in
    c.put_back.ensures old.at old.bytes (take some.0 c.args.piece.now)
    (record {
      marked = subst (λ (s : InProgress). IsMarkOf c.mark-mark.result s) own c.mark-mark.ensures.mark;
      fed = given.stands;
      given = given.given;
    })
    ∙ sym own

pub returns-clause-stands : goal.returns-clause-stands
returns-clause-stands c = λ at text h.
    let f = c.take_all.new in
    (from_none_all c.args.self.now c.new-frames.result.items f.self f.frames.items c.args.piece.now c.new-frames.ensures.items c.in_default.ensures.ok at text h).stands

pub returns-clause-frames : goal.returns-clause-frames
returns-clause-frames c = λ at text h.
    let f = c.take_all.new in
    (from_none_all c.args.self.now c.new-frames.result.items f.self f.frames.items c.args.piece.now c.new-frames.ensures.items c.in_default.ensures.ok at text h).given

pub returns-clause-fault : goal.returns-clause-fault
returns-clause-fault c = λ at text h.
    let f = c.take_all.new in
    let now = from_none_all c.args.self.now c.new-frames.result.items f.self f.frames.items c.args.piece.now c.new-frames.ensures.items c.in_default.ensures.ok at text h in
    c.fault-fault.ensures
    ∙ ap (λ (s : InProgress). s.fault) now.stands
    ∙ ap (λ (s : InProgress). s.fault) (standing-is at (text ++ c.args.piece.now))

pub returns-in-Err-clause-places : goal.returns-in-Err-clause-places
returns-in-Err-clause-places c = let same : c.put_back.new.self ≡ c.args.self.now = returns-in-Err-clause-err c in omega (arith, ap next_place same)

pub returns-clause-places : goal.returns-clause-places
returns-clause-places c =
    let old = c.args.self.now in
    let piece = c.args.piece.now in
    let now = returns-clause-stands c old.at old.bytes c.mark-mark.ensures.stands in
    omega (arith, ap next_place now, next_place_within old.at (old.bytes ++ piece), length-append old.bytes piece)
