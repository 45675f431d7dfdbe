-- Each way of `take_some` is a part of a frame, or the rest of one.
use Rattle.std.proofs.Common.{◌≡◌, ℕ, ◌+◌, ◌-◌, ◌<◌, ◌≤◌, List, [], ◌∷◌, ◌++◌, length, take, ap, sym, subst, ◌∙◌, arith, length-append}
use Rattle.std.proofs.lemmas.List.{length-take, length-take-le, take_all}
use Rattle.frame_codec.specs.FrameReaders.{InProgress, in_progress}
use Rattle.frame_codec.specs.Feeding.{Takes}
use Rattle.frame_codec.specs.Reading.{stated_length, frame_of}
use Rattle.frame_codec.specs.declared.frames.Frame.{Frame}
use Rattle.frame_codec.specs.declared.frames.PlacedFrame.{PlacedFrame}
use Rattle.frame_codec.proofs.Taken.{open_frame, took_part, took_whole, still_unfinished, now_whole}
use Rattle.frame_codec.proofs.reader.FrameReader.take_some.Goals as goal

pub returns-then-have-lt-LENGTH_BYTES-clause-ok : goal.returns-then-have-lt-LENGTH_BYTES-clause-ok
returns-then-have-lt-LENGTH_BYTES-clause-ok c =
    let f = c.self.inside in
    let bytes = c.args.bytes.now in
    let grown = c.in_ok-append.ensures.ok in
    let few : length c.append.new.self ≤ 4 =
    omega (arith, ap length grown, length-append f.partial (take c.min-taken.result bytes), length-take c.min-taken.result bytes, c.min-taken.ensures, c.len-have.ensures) in
    took_part c.args.self.now c.args.frames.now.items f.at f.partial bytes c.append.new.self c.min-taken.result c.self.view_is c.requires.sound grown
    (λ long. absurd (omega arith))

pub returns-then-bytes-wanted-clause-ok : goal.returns-then-bytes-wanted-clause-ok
returns-then-bytes-wanted-clause-ok c =
    let f = c.self.inside in
    let bytes = c.args.bytes.now in
    let grown = c.in_ok-append-2.ensures.ok in
    let there : 4 ≤ length f.partial = omega (arith, c.len-have.ensures) in
    let limits = open_frame f.at f.partial c.self.invariant (ap (λ (s : InProgress). s.fault) c.self.view_is ∙ c.requires.sound) there in
    let stated : c.stated_length.result ≡ stated_length f.partial = c.stated_length.ensures in
    let few : length f.partial + length bytes < stated_length f.partial = omega (arith, stated, c.len-have.ensures, limits.2, c.if-bytes-wanted.true) in
    took_part c.args.self.now c.args.frames.now.items f.at f.partial bytes c.append-then-bytes-wanted.new.self (length bytes) c.self.view_is c.requires.sound
    (grown ∙ ap (λ (xs : List ℕ). f.partial ++ xs) (sym (take_all (length bytes) bytes (omega arith))))
    (still_unfinished f.partial bytes c.append-then-bytes-wanted.new.self grown there limits.0 limits.1 few)

pub returns-clause-ok : goal.returns-clause-ok
returns-clause-ok c =
    let f = c.self.inside in
    let bytes = c.args.bytes.now in
    let n = c.stated_length.result - c.len-have.result in
    let new = c.append-2.new.self in
    let grown : new ≡ f.partial ++ take n bytes = c.in_ok-append-3.ensures.ok in
    let there : 4 ≤ length f.partial = omega (arith, c.len-have.ensures) in
    let limits = open_frame f.at f.partial c.self.invariant (ap (λ (s : InProgress). s.fault) c.self.view_is ∙ c.requires.sound) there in
    let stated : c.stated_length.result ≡ stated_length f.partial = c.stated_length.ensures in
    let taken : length (take n bytes) ≡ n = length-take-le n bytes (omega (arith, c.if-bytes-wanted.false)) in
    let all : length f.partial + length (take n bytes) ≡ stated_length f.partial = omega (arith, stated, c.len-have.ensures, limits.2, taken) in
    let done = now_whole f.partial (take n bytes) new grown there limits.0 limits.1 all in
    let place : f.at + length new ≡ f.at + (c.len-have.result + n) = omega (arith, done.2, ap length grown, length-append f.partial (take n bytes), taken, c.len-have.ensures) in
    let state : in_progress (f.at + length new) [] ≡ in_progress (f.at + (c.len-have.result + n)) c.take_frame-frame.new.self =
    ap (λ (p : ℕ). in_progress p []) place ∙ ap (in_progress (f.at + (c.len-have.result + n))) (sym c.take_frame-frame.ensures.none_left) in
    let given : c.args.frames.now.items ++ record { at = f.at; frame = frame_of new } ∷ [] ≡ c.push_reserved.new.self.items =
    ap (λ (fs : List PlacedFrame). fs ++ record { at = f.at; frame = frame_of new } ∷ []) (sym c.reserve.ensures.items)
    ∙ ap (λ (frame : Frame). c.reserve.new.self.items ++ record { at = f.at; frame = frame } ∷ []) (sym c.take_frame-frame.ensures.frame)
    ∙ sym c.push_reserved.ensures.items in
    let took = took_whole c.args.self.now c.args.frames.now.items f.at f.partial bytes new n c.self.view_is c.requires.sound grown done.0 done.1 done.2 in
    subst (λ (s : InProgress). Takes c.args.self.now c.args.frames.now.items s c.push_reserved.new.self.items bytes n) state
    (subst (λ (fs : List PlacedFrame). Takes c.args.self.now c.args.frames.now.items (in_progress (f.at + length new) []) fs bytes n) given took)
