-- The length lies in the header.
use Rattle.std.proofs.Common.{◌≤◌, List, ℕ, length, take, subst, sym, ap, ◌∙◌}
use Rattle.std.specs.Int.{w32, from_le_bytes}
use Rattle.frame_codec.specs.Layout.{laid_out}
use Rattle.frame_codec.proofs.Parts.{take_4-laid_out, from_le_bytes-take}
use Rattle.frame_codec.proofs.partial.PartialFrame.stated_length.Goals as goal

pub returns : goal.returns
returns c =
    let f = c.self.inside in
    let long : 4 ≤ length (laid_out f.header f.count f.payload.items) = subst (λ (bytes : List ℕ). 4 ≤ length bytes) (sym c.self.view_is) c.requires in
    c.from_le_bytes.ensures
    ∙ sym (from_le_bytes-take f.header)
    ∙ sym (ap (from_le_bytes w32) (ap (take 4) (sym c.self.view_is) ∙ take_4-laid_out f.header f.count f.payload.items c.self.invariant long))
