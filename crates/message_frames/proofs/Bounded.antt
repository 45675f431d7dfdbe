-- A text without a fault is bounded.
use Rattle.std.proofs.Common.{◌≡◌, ℕ, ◌+◌, ◌≤◌, Bool, true, false, List, [], length, Option, Some, None, refl, sym, ◌∙◌, ap, arith, length-append, length-drop, append-nil}
use Rattle.frame_codec.specs.Reading.{reading}
use Rattle.frame_codec.specs.declared.malformed.Malformed.{Malformed}
use Rattle.frame_codec.specs.declared.frames.TheConstants.{MAX_FRAME_LENGTH}
use Rattle.message_frames.specs.Assembly.{nothing_yet, assembled}
use Rattle.message_frames.specs.Messages.{prefix_of, shortest_start, heard, heard_of_frames, or_else, fault_of, Heard}
use Rattle.message_frames.specs.Laws.{texts_without_fault_are_bounded, longest_text}
use Rattle.message_frames.proofs.Bounds.{lengths_bound, heaviest}
use Rattle.message_frames.proofs.Places.{reading_measured}
use Rattle.message_frames.proofs.Prefixes.{Begins, Differs, Shorter, Follows, begins, behind, heard_behind, heard_of_other}

neither : (first second : Option Malformed) → or_else first second ≡ None → (first ≡ None) × (second ≡ None)
neither None second e = (refl, e)
neither (Some fault) second e = absurd (cc)

prefix_is_short : (prefix : Bool) → behind prefix ≤ 3
prefix_is_short true = omega arith
prefix_is_short false = omega arith

-- Bytes without a fault, behind a prefix or from a stream's first.
pub bytes_bounded : (shortest at : ℕ) (bytes : List ℕ) → (heard_of_frames shortest (reading at bytes)).fault ≡ None → length bytes ≤ heaviest + MAX_FRAME_LENGTH
bytes_bounded shortest at bytes none =
    let r = reading at bytes in
    let both = neither (assembled shortest r.frames nothing_yet).fault r.fault none in
    let m = reading_measured at bytes in
    omega (arith, m.bytes, m.short both.1, lengths_bound shortest r.frames both.0)

pub texts_bounded : texts_without_fault_are_bounded
texts_bounded prefix text none = go (begins 0 (prefix_of prefix) text)
  where
    go : Begins 0 (prefix_of prefix) text → length text ≤ longest_text
    go (Differs place differs apart) =
        let shown = heard_of_other prefix text place (rw append-nil at (differs [])) in
        let clash : fault_of prefix text ≡ Some _ = ap (λ (h : Heard). h.fault) shown in absurd (cc)
    go (Shorter agrees short apart) = omega (arith, length-drop (behind prefix) text, ap length short, prefix_is_short prefix)
    go (Follows bytes e) =
        let sound = bytes_bounded (shortest_start prefix) (behind prefix) bytes (sym (ap (λ (h : Heard). h.fault) (ap (heard prefix) e ∙ heard_behind prefix bytes)) ∙ none) in
        omega (arith, sound, ap length e, length-append (prefix_of prefix) bytes, prefix_is_short prefix)
