-- Frames packed into fragments: how the first fragment grows frame by frame, and how a fragment is spelled.
use Rattle.std.proofs.Common.{◌≡◌, ◌≢◌, ℕ, ◌+◌, ◌-◌, ◌<◌, ◌≤◌, Bool, true, false, List, [], ◌∷◌, ◌++◌, length, take, drop, flat_map, nat_le, eqb, bit_or, refl, sym, ◌∙◌, ap, arith, append_assoc, append-nil, length-drop}
use Rattle.std.proofs.lemmas.Bool.{le-leb, lt-leb, eqb-true, eqb-false}
use Rattle.std.specs.Int.{w64, to_le_bytes}
use Rattle.std.proofs.lemmas.List.Concat.{flat_map-append}
use Rattle.frame_codec.specs.Frames.{frame_bytes, frame_length}
use Rattle.frame_codec.specs.Laws.{spelled}
use Rattle.frame_codec.specs.declared.frames.Frame.{Frame}
use Rattle.frame_codec.specs.declared.flags.TheConstants.{FINAL}
use Rattle.message_frames.specs.Grammar.{piece_bytes}
use Rattle.message_frames.specs.Writing.{with_first, packed_behind, packed, with_flag, ended, header_flags, header_of, fragment_of, chain_from, chain_of_groups, fragments_of}

-- frames put in front of the first group
abbrev pub glued : List Frame → List (List Frame) → List (List Frame)
glued front [] = front ∷ []
glued front (group ∷ groups) = (front ++ group) ∷ groups

glued_one : (frame : Frame) (groups : List (List Frame)) → with_first frame groups ≡ glued (frame ∷ []) groups
glued_one frame [] = refl
glued_one frame (group ∷ groups) = refl

pub glued_twice : (a b : List Frame) (groups : List (List Frame)) → glued a (glued b groups) ≡ glued (a ++ b) groups
glued_twice a b [] = refl
glued_twice a b (group ∷ groups) = ap (λ g. g ∷ groups) (sym (append_assoc a b group))

pub packed_first : (size : ℕ) (frame : Frame) (frames : List Frame) → packed size (frame ∷ frames) ≡ glued (frame ∷ []) (packed_behind size (size - frame_length frame) frames)
packed_first size frame frames = glued_one frame (packed_behind size (size - frame_length frame) frames)

-- A frame goes on in the fragment where it fits, with the frames before it.
pub packed_fits : (size used : ℕ) (frame : Frame) (frames : List Frame) → used + frame_length frame ≤ size →
    packed_behind size (size - used) (frame ∷ frames) ≡ glued (frame ∷ []) (packed_behind size (size - (used + frame_length frame)) frames)
packed_fits size used frame frames fits =
    let room : nat_le (frame_length frame) (size - used) ≡ true = le-leb (frame_length frame) (size - used) (omega (arith, fits)) in
    let less : (size - used) - frame_length frame ≡ size - (used + frame_length frame) = omega arith in
    rw (room, less) (glued_one frame (packed_behind size (size - (used + frame_length frame)) frames))

-- Where it doesn't, it begins the next one.
pub packed_full : (size used : ℕ) (frame : Frame) (frames : List Frame) → size < used + frame_length frame →
    packed_behind size (size - used) (frame ∷ frames) ≡ [] ∷ packed size (frame ∷ frames)
packed_full size used frame frames full =
    let no_room : nat_le (frame_length frame) (size - used) ≡ false = lt-leb (frame_length frame) (size - used) (omega (arith, full)) in
    rw no_room refl

-- a fragment's last frame

ended_last : (frames : List Frame) (frame : Frame) → ended (frames ++ frame ∷ []) ≡ frames ++ with_flag FINAL frame ∷ []
ended_last [] frame = refl
ended_last (x ∷ []) frame = refl
ended_last (x ∷ y ∷ frames) frame = ap (λ fs. x ∷ fs) (ended_last (y ∷ frames) frame)

-- what a fragment's parts come to, one after the other

joined : (old header body end all : List ℕ) → all ≡ body ++ end → ((old ++ header) ++ body) ++ end ≡ old ++ (header ++ all)
joined old header body end all e = simp append_assoc (ap (λ bs. old ++ (header ++ bs)) (sym e))

pub fragment_spelled : (id : ℕ) (first : Bool) (frames others : List Frame) (end : Frame) (old header body new : List ℕ) →
    frames ≡ others ++ end ∷ [] → header ≡ old ++ frame_bytes (header_of id first false) → body ≡ header ++ spelled others → new ≡ body ++ frame_bytes (with_flag FINAL end) →
    new ≡ old ++ piece_bytes (fragment_of id first false frames)
fragment_spelled id first frames others end old header body new parts e f g =
    let last : spelled (ended frames) ≡ spelled others ++ frame_bytes (with_flag FINAL end) =
    ap (λ fs. spelled (ended fs)) parts
    ∙ ap spelled (ended_last others end)
    ∙ flat_map-append frame_bytes others (with_flag FINAL end ∷ [])
    ∙ ap (λ bs. spelled others ++ bs) (append-nil (frame_bytes (with_flag FINAL end))) in
    g ∙ ap (λ bs. bs ++ frame_bytes (with_flag FINAL end)) (f ∙ ap (λ bs. bs ++ spelled others) e)
    ∙ joined old (frame_bytes (header_of id first false)) (spelled others) (frame_bytes (with_flag FINAL end)) (spelled (ended frames)) last

-- the same, from what the code's calls say
pub fragment_written : (id : ℕ) (first last : Bool) (frames others : List Frame) (end : Frame) (flags : ℕ) (payload bytes old header body new : List ℕ) →
    last ≡ false → frames ≡ others ++ end ∷ [] → flags ≡ header_flags first last → payload ≡ to_le_bytes w64 id →
    bytes ≡ end.payload →
    header ≡ old ++ frame_bytes (record { flags = flags; payload = payload }) → body ≡ header ++ spelled others →
    new ≡ body ++ frame_bytes (record { flags = bit_or end.flags FINAL; payload = bytes }) →
    new ≡ old ++ piece_bytes (fragment_of id first last frames)
fragment_written id first last frames others end flags payload bytes old header body new middle parts flags_are payload_is bytes_are e f g =
    let head : header ≡ old ++ frame_bytes (header_of id first false) =
    e ∙ ap (λ n. old ++ frame_bytes (record { flags = n; payload = payload })) (flags_are ∙ ap (header_flags first) middle)
    ∙ ap (λ bs. old ++ frame_bytes (record { flags = header_flags first false; payload = bs })) payload_is in
    let tail : new ≡ body ++ frame_bytes (with_flag FINAL end) = g ∙ ap (λ bs. body ++ frame_bytes (record { flags = bit_or end.flags FINAL; payload = bs })) bytes_are in
    rw middle (fragment_spelled id first frames others end old header body new parts head f tail)

-- The fragments of a chain are the first one and those behind it.
pub chain_first : (id : ℕ) (first last : Bool) (frames : List Frame) (groups : List (List Frame)) → (last ≡ true → groups ≡ []) → (last ≡ false → 0 < length groups) →
    chain_from id first (frames ∷ groups) ≡ fragment_of id first last frames ∷ chain_from id false groups
chain_first id first true frames groups none some = rw (none refl) refl
chain_first id first false frames [] none some = absurd (omega (arith, some refl))
chain_first id first false frames (next ∷ groups) none some = refl

-- the number of fragments

some_with_first : (frame : Frame) (groups : List (List Frame)) → 0 < length (with_first frame groups)
some_with_first frame [] = omega arith
some_with_first frame (group ∷ groups) = omega arith

pub packed_some : (size : ℕ) (frames : List Frame) → 0 < length frames → 0 < length (packed size frames)
packed_some size [] some = absurd (omega arith)
packed_some size (frame ∷ frames) some = some_with_first frame (packed_behind size (size - frame_length frame) frames)

pub packed_none : (size : ℕ) (frames : List Frame) → length frames ≡ 0 → packed size frames ≡ []
packed_none size [] none = refl
packed_none size (frame ∷ frames) none = absurd (omega arith)

pub two_fragments : (id size : ℕ) (frames front back : List Frame) → packed size frames ≡ front ∷ packed size back → 0 < length back →
    fragments_of id size frames ≡ chain_from id true (packed size frames)
two_fragments id size frames front back e some = ap (chain_of_groups id) e ∙ at (packed size back) (packed_some size back some) ∙ ap (chain_from id true) (sym e)
  where
    at : (groups : List (List Frame)) → 0 < length groups → chain_of_groups id (front ∷ groups) ≡ chain_from id true (front ∷ groups)
    at [] none = absurd (omega arith)
    at (next ∷ groups) more = refl

-- one step of writing a chain
pub chain_goes_on : (id size : ℕ) (first last : Bool) (rest group others : List Frame) (old out new written all : List ℕ) →
    packed size rest ≡ group ∷ packed size others → last ≡ eqb (length others) 0 →
    out ≡ old ++ written → written ++ flat_map piece_bytes (chain_from id first (packed size rest)) ≡ all → new ≡ out ++ piece_bytes (fragment_of id first last group) →
    (more : List ℕ) × (new ≡ old ++ more) × (more ++ flat_map piece_bytes (chain_from id false (packed size others)) ≡ all)
chain_goes_on id size first last rest group others old out new written all e last_is f whole g =
    let piece = piece_bytes (fragment_of id first last group) in
    let none : last ≡ true → packed size others ≡ [] = λ t. packed_none size others (eqb-true (length others) 0 (sym last_is ∙ t)) in
    let some : last ≡ false → 0 < length (packed size others) = λ t. packed_some size others (let n = eqb-false (length others) 0 (sym last_is ∙ t) in omega arith) in (
      written ++ piece,
      g ∙ ap (λ bs. bs ++ piece) f ∙ append_assoc old written piece,
      append_assoc written piece (flat_map piece_bytes (chain_from id false (packed size others)))
          ∙ ap (λ ps. written ++ flat_map piece_bytes ps) (sym (ap (chain_from id first) e ∙ chain_first id first last group (packed size others) none some))
          ∙ whole,
    )

-- the same of the code's first count: it leaves some frames
pub chain_of_some : (id size n : ℕ) (frames slice : List Frame) → slice ≡ frames → n ≤ length slice → n ≢ length slice → packed size slice ≡ take n slice ∷ packed size (drop n slice) →
    chain_from id true (packed size slice) ≡ fragments_of id size frames
chain_of_some id size n frames slice same within fewer e =
    sym (two_fragments id size slice (take n slice) (drop n slice) e (omega (arith, within, fewer, length-drop n slice))) ∙ ap (fragments_of id size) same
