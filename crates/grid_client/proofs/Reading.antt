-- The first frame of a message.
use Rattle.std.proofs.Common.{◌≡◌, List, [], ◌∷◌, Some, None, refl, ap, sym}
use Rattle.std.specs.Prelude.{slice_get}
use Rattle.frame_codec.specs.declared.frames.Frame.{Frame}
use Rattle.message_frames.specs.Assembly.{first_payload}

pub first_is : (frames : List Frame) (first : Frame) → Some first ≡ slice_get frames 0 → first_payload frames ≡ first.payload
first_is [] first is = absurd cc
first_is (f ∷ fs) first is = let same : first ≡ f = cc in ap (λ (x : Frame). x.payload) (sym same)

pub no_first : (frames : List Frame) → None ≡ slice_get frames 0 → frames ≡ []
no_first [] is = refl
no_first (f ∷ fs) is = absurd cc
