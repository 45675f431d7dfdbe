use Rattle.std.proofs.Common.{◌≡◌, ◌+◌, ◌++◌, ◌∷◌, List, ℕ, drop, sym, ap, ◌∙◌, append_assoc, append-nil}
use Rattle.std.proofs.lemmas.List.{drop_more, drop_all}
use Rattle.frame_codec.specs.Frames.{frame_bytes}
use Rattle.frame_codec.specs.Laws.{spelled}
use Rattle.frame_codec.specs.declared.frames.Frame.{Frame}
use Rattle.grid_client.proofs.messages.frames_bytes.Goals as goal

pub loop-frame-preserved : goal.loop-frame-preserved
loop-frame-preserved c =
    let frames = c.args.frames.now in
    let at = c.loop-frame.frame-index in
    let frame = c.frame-item.result in
    let rest = spelled (drop (at + 1) frames) in
    let split : drop at frames ≡ frame ∷ drop (at + 1) frames = drop_more frames at frame c.loop-frame-test.true ∙ ap (λ (x : Frame). x ∷ drop (at + 1) frames) (sym c.frame-item.is) in
    ap (λ (bytes : List ℕ). bytes ++ rest) c.in_ok-write_frame.ensures
    ∙ append_assoc c.loop-frame.bytes.items (frame_bytes frame) rest
    ∙ ap (λ (more : List ℕ). c.loop-frame.bytes.items ++ more) (sym (ap spelled split))
    ∙ c.loop-frame.invariant

pub returns : goal.returns
returns c =
    let frames = c.args.frames.now in
    let bytes = c.loop-frame.bytes.items in
    c.from_vec.ensures ∙ sym (append-nil bytes) ∙ ap (λ (fs : List Frame). bytes ++ spelled fs) (sym (drop_all c.loop-frame.frame-index frames c.loop-frame-test.false)) ∙ c.loop-frame.invariant
