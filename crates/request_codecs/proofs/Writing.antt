-- Requests are appended frame by frame.
use Rattle.std.proofs.Common.{◌≡◌, ℕ, List, [], ◌∷◌, ◌++◌, flat_map, ap, sym, ◌∙◌, append_assoc, append-nil}
use Rattle.std.proofs.lemmas.Grind.{flat_map-append}
use Rattle.frame_codec.specs.Frames.{frame_bytes}
use Rattle.frame_codec.specs.Laws.{spelled}
use Rattle.frame_codec.specs.declared.frames.Frame.{Frame}
use Rattle.fixed_fields.specs.Responses.{unfragmented}
use Rattle.fixed_fields.specs.Spelled.{with_parts}

abbrev pub frame : ℕ → List ℕ → Frame
frame flags payload = record { flags = flags; payload = payload }

-- three lists, spelled one after the other
pub all_written : {X : Type 0} (f : X → List ℕ) (out one two three : List ℕ) (a b c : List X)
    → one ≡ out ++ flat_map f a → two ≡ one ++ flat_map f b → three ≡ two ++ flat_map f c → three ≡ out ++ flat_map f ((a ++ b) ++ c)
all_written f out one two three a b c p q r =
    r ∙ ap (λ (bytes : List ℕ). bytes ++ flat_map f c) (q ∙ ap (λ (bytes : List ℕ). bytes ++ flat_map f b) p ∙ append_assoc out (flat_map f a) (flat_map f b) ∙ ap (λ (bytes : List ℕ). out ++ bytes) (sym (flat_map-append f a b)))
    ∙ append_assoc out (flat_map f (a ++ b)) (flat_map f c)
    ∙ ap (λ (bytes : List ℕ). out ++ bytes) (sym (flat_map-append f (a ++ b) c))

-- one frame, and two

pub one_written : (out new payload its : List ℕ) (flags : ℕ) → payload ≡ its → new ≡ out ++ frame_bytes (frame flags payload) → new ≡ out ++ spelled (frame flags its ∷ [])
one_written out new payload its flags is written =
    written ∙ ap (λ (bytes : List ℕ). out ++ frame_bytes (frame flags bytes)) is ∙ ap (λ (bytes : List ℕ). out ++ bytes) (sym (append-nil (frame_bytes (frame flags its))))

pub two_written : (out mid new payload its part other : List ℕ) (flags last : ℕ) → payload ≡ its → part ≡ other
    → mid ≡ out ++ frame_bytes (frame flags payload) → new ≡ mid ++ frame_bytes (frame last part) → new ≡ out ++ spelled (frame flags its ∷ frame last other ∷ [])
two_written out mid new payload its part other flags last is same first second =
    one_written mid new part other last same second
    ∙ ap (λ (bytes : List ℕ). bytes ++ spelled (frame last other ∷ [])) (first ∙ ap (λ (bytes : List ℕ). out ++ frame_bytes (frame flags bytes)) is)
    ∙ append_assoc out (frame_bytes (frame flags its)) (spelled (frame last other ∷ []))

-- a frame before others
pub next_written : (out mid new part : List ℕ) (frames : List Frame) → mid ≡ out ++ frame_bytes (frame 0 part) → new ≡ mid ++ spelled frames → new ≡ out ++ spelled (frame 0 part ∷ frames)
next_written out mid new part frames first others =
    others ∙ ap (λ (bytes : List ℕ). bytes ++ spelled frames) first ∙ append_assoc out (frame_bytes (frame 0 part)) (spelled frames)

-- a request: its first frame, and its parts
pub request_written : (request first_out payload head : List ℕ) (empty : List ℕ) (parts : List (List ℕ))
    → empty ≡ [] → payload ≡ head → first_out ≡ empty ++ frame_bytes (frame unfragmented payload) → request ≡ first_out ++ spelled (with_parts parts [])
    → request ≡ spelled (frame unfragmented (head ++ []) ∷ with_parts parts [])
request_written request first_out payload head empty parts none is first all =
    let front : first_out ≡ frame_bytes (frame unfragmented (head ++ [])) =
    first ∙ ap (λ (bytes : List ℕ). bytes ++ frame_bytes (frame unfragmented payload)) none ∙ ap (λ (bytes : List ℕ). frame_bytes (frame unfragmented bytes)) (is ∙ sym (append-nil head)) in
    all ∙ ap (λ (bytes : List ℕ). bytes ++ spelled (with_parts parts [])) front
