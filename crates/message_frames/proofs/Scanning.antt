-- Frames up to the first final one, within the limits: whether they stand at the front of a list.
use Rattle.std.proofs.Common.{◌≡◌, Bool, true, false, ◌&&◌, List, [], ◌∷◌, ◌++◌, refl, ap, subst, ◌⊎◌, inl, inr, append_assoc}
use Rattle.std.proofs.lemmas.Bool.{cases_Bool, and_parts, and_from, false≢true, both_ways}
use Rattle.frame_codec.specs.declared.frames.Frame.{Frame}
use Rattle.message_frames.specs.Assembly.{is_final}
use Rattle.message_frames.specs.Grammar.{ends_at_final}
use Rattle.message_frames.specs.Merging.{fits}
use Rattle.message_frames.proofs.Pieces.{last_is_final, others_follow}

-- The list begins with frames up to the first final one. With the frames before them they fit, and pass the test.
pub record Scan (test : List Frame → Bool) (before frames : List Frame) : Type 0 where
  pub body : List Frame
  pub more : List Frame
  pub front : frames ≡ body ++ more
  pub ends : ends_at_final body ≡ true
  pub small : fits (before ++ body) ≡ true
  pub passes : test (before ++ body) ≡ true

-- a scan by its first frame: it is the last one too, or the scan goes on behind it
pub data ScanCase (test : List Frame → Bool) (before : List Frame) (frame : Frame) (frames : List Frame) : Type 0 where
  ScanEnds : is_final frame ≡ true → fits (before ++ frame ∷ []) ≡ true → test (before ++ frame ∷ []) ≡ true → ScanCase test before frame frames
  ScanGoes : is_final frame ≡ false → Scan test (before ++ frame ∷ []) frames → ScanCase test before frame frames

scan_cases_at : (test : List Frame → Bool) (before : List Frame) (frame : Frame) (frames body more : List Frame) → frame ∷ frames ≡ body ++ more →
    ends_at_final body ≡ true → fits (before ++ body) ≡ true → test (before ++ body) ≡ true → ScanCase test before frame frames
scan_cases_at test before frame frames [] more front ends small passes = absurd (false≢true ends)
scan_cases_at test before frame frames (x ∷ []) more front ends small passes =
    let same : x ≡ frame = cc in
    subst (λ f. ScanCase test before f frames) same (ScanEnds (last_is_final x ends) small passes)
scan_cases_at test before frame frames (x ∷ y ∷ body) more front ends small passes =
    let same : x ≡ frame = cc in
    let behind : frames ≡ y ∷ body ++ more = cc in
    let rest = others_follow x y body ends in
    subst (λ f. ScanCase test before f frames) same
    (ScanGoes rest.0 (record { body = y ∷ body; more = more; front = behind; ends = rest.1; small = rw append_assoc small; passes = rw append_assoc passes }))

pub scan_cases : (test : List Frame → Bool) (before : List Frame) (frame : Frame) (frames : List Frame) → Scan test before (frame ∷ frames) → ScanCase test before frame frames
scan_cases test before frame frames s = scan_cases_at test before frame frames s.body s.more s.front s.ends s.small s.passes

pub scan_none : (test : List Frame → Bool) (before : List Frame) → Scan test before [] → ⊥
scan_none test before s = go s.body s.front s.ends
  where
    go : (body : List Frame) → [] ≡ body ++ s.more → ends_at_final body ≡ true → ⊥
    go [] e ends = false≢true ends
    go (x ∷ body) e ends = absurd (cc)

pub scan_one : (test : List Frame → Bool) (before : List Frame) (frame : Frame) (frames : List Frame) →
    is_final frame ≡ true → fits (before ++ frame ∷ []) ≡ true → test (before ++ frame ∷ []) ≡ true → Scan test before (frame ∷ frames)
scan_one test before frame frames final small passes =
    record { body = frame ∷ []; more = frames; front = refl; ends = rw final refl; small = small; passes = passes }

pub scan_more : (test : List Frame → Bool) (before : List Frame) (frame : Frame) (frames : List Frame) →
    is_final frame ≡ false → Scan test (before ++ frame ∷ []) frames → Scan test before (frame ∷ frames)
scan_more test before frame frames goes s =
    record {
      body = frame ∷ s.body;
      more = s.more;
      front = ap (λ fs. frame ∷ fs) s.front;
      ends = rw goes s.ends;
      small = rw append_assoc at s.small;
      passes = rw append_assoc at s.passes;
    }

-- Whether there is a scan.
pub scan : (test : List Frame → Bool) (before frames : List Frame) → Scan test before frames ⊎ (Scan test before frames → ⊥)
scan test before [] = inr (scan_none test before)
scan test before (frame ∷ frames) = go (cases_Bool (is_final frame)) (cases_Bool (fits (before ++ frame ∷ []) && test (before ++ frame ∷ []))) (scan test (before ++ frame ∷ []) frames)
  where
    go : (is_final frame ≡ true) ⊎ (is_final frame ≡ false) →
        (fits (before ++ frame ∷ []) && test (before ++ frame ∷ []) ≡ true) ⊎ (fits (before ++ frame ∷ []) && test (before ++ frame ∷ []) ≡ false) →
        Scan test (before ++ frame ∷ []) frames ⊎ (Scan test (before ++ frame ∷ []) frames → ⊥) →
        Scan test before (frame ∷ frames) ⊎ (Scan test before (frame ∷ frames) → ⊥)
    go (inl final) (inl passes) later = let p = and_parts _ _ passes in inl (scan_one test before frame frames final p.0 p.1)
    go (inl final) (inr refused) later = inr (λ s. ended (scan_cases test before frame frames s))
      where
        ended : ScanCase test before frame frames → ⊥
        ended (ScanEnds e small passes) = both_ways _ refused (and_from _ _ small passes)
        ended (ScanGoes e s) = both_ways _ e final
    go (inr goes) passes (inl s) = inl (scan_more test before frame frames goes s)
    go (inr goes) passes (inr none) = inr (λ s. gone (scan_cases test before frame frames s))
      where
        gone : ScanCase test before frame frames → ⊥
        gone (ScanEnds e small passes) = both_ways _ goes e
        gone (ScanGoes e s) = none s
