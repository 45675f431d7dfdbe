-- Whether frames begin with a piece that a connection takes, and that no message comes of frames that don't.
use Rattle.std.proofs.Common.{◌≡◌, ℕ, Bool, true, false, if◌then◌else◌, List, [], ◌∷◌, ◌++◌, refl, ap, subst, ◌⊎◌, inl, inr}
use Rattle.std.proofs.lemmas.Bool.{and_parts, and_from, false≢true, not-true, not_from_false}
use Rattle.frame_codec.specs.declared.frames.Frame.{Frame}
use Rattle.message_frames.specs.Assembly.{Chain, is_unfragmented, is_header, ends_chain, chain_id, frames_of}
use Rattle.message_frames.specs.Grammar.{Piece, Unfragmented, Fragment, is_piece, piece_frames, ends_at_final}
use Rattle.message_frames.specs.Merging.{fits, may_complete, may_come}
use Rattle.message_frames.proofs.Scanning.{Scan}
use Rattle.message_frames.proofs.Steps.{header_may_come}

-- The list begins with a piece that may come next.
pub record TakesNext (shortest : ℕ) (chains : List Chain) (complete : ℕ) (frames : List Frame) : Type 0 where
  pub piece : Piece
  pub more : List Frame
  pub front : frames ≡ piece_frames piece ++ more
  pub form : is_piece piece ≡ true
  pub may : may_come shortest chains complete piece ≡ true

-- what the frames of a fragment have to pass with those of its chain: if the chain ends, they make a message
abbrev pub fragment_passes : ℕ → ℕ → Frame → List Frame → Bool
fragment_passes shortest complete header frames = if ends_chain header then may_complete shortest complete frames else true

-- the piece that frames can begin with, by the first of them
abbrev pub Next : ℕ → List Chain → ℕ → Frame → List Frame → Type 0
Next shortest chains complete frame frames =
    ((is_unfragmented frame ≡ true) × Scan (may_complete shortest complete) [] (frame ∷ frames))
    ⊎ ((is_unfragmented frame ≡ false) × (is_header frame ≡ true) × (header_may_come frame chains ≡ true) × Scan (fragment_passes shortest complete frame) (frames_of (chain_id frame) chains) frames)

next_at : (shortest : ℕ) (chains : List Chain) (complete : ℕ) (frame : Frame) (frames : List Frame) (piece : Piece) (more : List Frame) →
    frame ∷ frames ≡ piece_frames piece ++ more → is_piece piece ≡ true → may_come shortest chains complete piece ≡ true → Next shortest chains complete frame frames
next_at shortest chains complete frame frames (Unfragmented []) more front form may = absurd (false≢true form)
next_at shortest chains complete frame frames (Unfragmented (x ∷ body)) more front form may =
    let same : x ≡ frame = cc in
    let forms = and_parts _ _ form in
    let rules = and_parts _ _ may in
    inl (
      subst (λ f. is_unfragmented f ≡ true) same forms.0,
      record { body = x ∷ body; more = more; front = front; ends = forms.1; small = (and_parts true _ rules.0).1; passes = rules.1 },
    )
next_at shortest chains complete frame frames (Fragment x body) more front form may =
    let same : x ≡ frame = cc in
    let behind : frames ≡ body ++ more = cc in
    let forms = and_parts _ _ form in
    let heads = and_parts _ _ forms.0 in
    let rules = and_parts _ _ may in
    let follows = and_parts _ _ rules.0 in
    let P : Frame → Type 0 = λ f. Next shortest chains complete f frames in
    subst P same (inr (not-true _ heads.0, heads.1, follows.0, record { body = body; more = more; front = behind; ends = forms.1; small = follows.1; passes = rules.1 }))

pub next_from : (shortest : ℕ) (chains : List Chain) (complete : ℕ) (frame : Frame) (frames : List Frame) →
    TakesNext shortest chains complete (frame ∷ frames) → Next shortest chains complete frame frames
next_from shortest chains complete frame frames t = next_at shortest chains complete frame frames t.piece t.more t.front t.form t.may

takes_message : (shortest : ℕ) (chains : List Chain) (complete : ℕ) (frame : Frame) (frames body more : List Frame) → is_unfragmented frame ≡ true →
    frame ∷ frames ≡ body ++ more → ends_at_final body ≡ true → fits body ≡ true → may_complete shortest complete body ≡ true → TakesNext shortest chains complete (frame ∷ frames)
takes_message shortest chains complete frame frames [] more begins front ends small passes = absurd (false≢true ends)
takes_message shortest chains complete frame frames (x ∷ body) more begins front ends small passes =
    let same : frame ≡ x = cc in
    record {
      piece = Unfragmented (x ∷ body);
      more = more;
      front = front;
      form = and_from _ _ (subst (λ f. is_unfragmented f ≡ true) same begins) ends;
      may = and_from _ _ (and_from true _ refl small) passes;
    }

pub takes_from : (shortest : ℕ) (chains : List Chain) (complete : ℕ) (frame : Frame) (frames : List Frame) →
    Next shortest chains complete frame frames → TakesNext shortest chains complete (frame ∷ frames)
takes_from shortest chains complete frame frames (inl (begins, s)) = takes_message shortest chains complete frame frames s.body s.more begins s.front s.ends s.small s.passes
takes_from shortest chains complete frame frames (inr (apart, header, follows, s)) =
    record {
      piece = Fragment frame s.body;
      more = s.more;
      front = ap (λ fs. frame ∷ fs) s.front;
      form = and_from _ _ (and_from _ _ (not_from_false _ apart) header) s.ends;
      may = and_from _ _ (and_from _ _ follows s.small) s.passes;
    }

pub takes_none : (shortest : ℕ) (chains : List Chain) (complete : ℕ) → TakesNext shortest chains complete [] → ⊥
takes_none shortest chains complete t = go t.piece t.front t.form
  where
    go : (piece : Piece) → [] ≡ piece_frames piece ++ t.more → is_piece piece ≡ true → ⊥
    go (Unfragmented []) e form = false≢true form
    go (Unfragmented (x ∷ body)) e form = absurd (cc)
    go (Fragment x body) e form = absurd (cc)
