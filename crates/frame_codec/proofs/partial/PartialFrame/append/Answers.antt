-- The front of the bytes fills the header up, and the others are payload.
use Rattle.std.proofs.Common.{ℕ, List, ◌++◌, ◌-◌, ◌≤◌, ap, ◌∙◌, arith}
use Rattle.frame_codec.proofs.Parts.{appended}
use Rattle.frame_codec.proofs.partial.PartialFrame.append.Goals as goal

pub returns-clause-ok : goal.returns-clause-ok
returns-clause-ok c =
    let f = c.self.inside in
    let few : c.min.result ≤ 6 - f.count = omega (arith, c.min.ensures) in
    appended f.header f.count f.payload.items c.args.bytes.now c.split_at.result.0.now c.split_at.result.1.now c.copy_from_slice.new.self c.extend_from_slice.new.self.items c.min.result _
    c.self.invariant few c.split_at.ensures.front c.split_at.ensures.back c.copy_from_slice.ensures.after c.in_ok-extend_from_slice.ensures.items
    ∙ ap (λ (xs : List ℕ). xs ++ c.args.bytes.now) c.self.view_is
