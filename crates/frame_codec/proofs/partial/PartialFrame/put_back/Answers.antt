-- The payload is the frame's that was taken, or the one here.
use Rattle.std.proofs.Common.{◌≡◌, ℕ, List, ◌++◌, take, drop, sym, ap, ◌∙◌}
use Rattle.frame_codec.specs.Marks.{payload_since}
use Rattle.frame_codec.proofs.Parts.{drop-laid_out}
use Rattle.frame_codec.proofs.partial.PartialFrame.put_back.Goals as goal
use Rattle.frame_codec.proofs.partial.PartialFrame.put_back.Goals.{in-Some, in_default}

pub returns : goal.returns
returns c =
    let f = c.self.inside in
    let payload : c.match-first.self-inside.payload.items ≡ payload_since c.args.first c.args.self.now =
    elim c.match-first.branch [
      | in-Some w ↦ rw (w.self-inside-is, w.in-Some.is) w.into_vec.ensures
      | in_default w ↦
          rw (w.self-inside-is, w.in_default.is)
          (sym (drop-laid_out f.header f.count f.payload.items c.self.invariant) ∙ ap (drop 6) c.self.view_is)
    ] in
    ap (λ (xs : List ℕ). take c.args.mark.count c.args.mark.header ++ xs) (c.truncate.ensures.items ∙ ap (take c.args.mark.payload) payload)
