-- The header lies apart from the payload.
use Rattle.std.proofs.Common.{◌≡◌, length, take, sym, ap, ◌∙◌, arith}
use Rattle.frame_codec.proofs.Parts.{take-laid_out, length-laid_out}
use Rattle.frame_codec.proofs.partial.PartialFrame.mark.Goals as goal

pub returns : goal.returns
returns c =
    let f = c.self.inside in
    let n : length c.as_slice.result.now ≡ length f.payload.items = ap length c.as_slice.ensures.value in
    record {
      header = sym (take-laid_out f.header f.count f.payload.items c.self.invariant) ∙ ap (take 6) c.self.view_is;
      length = omega (arith, n, length-laid_out f.header f.count f.payload.items c.self.invariant, ap length c.self.view_is);
    }
