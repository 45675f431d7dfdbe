-- The final flag, one bit, set on a frame and taken away again.
use Rattle.std.proofs.Common.{◌≡◌, ℕ, ◌-◌, ◌^◌, ◌<◌, ◌≤◌, true, false, bit_and, refl, ◌∙◌, ap, ◌⊎◌, inl, inr, arith}
use Rattle.std.specs.Int.{bit_at, w16}
use Rattle.std.proofs.lemmas.Bool.{eqb-true, not-false, cases_eq, cases_lt}
use Rattle.std.proofs.lemmas.Nat.{and_or_self, and_or_apart, or_of_16}
use Rattle.std.proofs.lemmas.Nat.Bits.{and_pow, bit_at_and, bit_at-lt, bit_at_above, same_from_bits, bit_at_not, bit_at-pow_other}
use Rattle.frame_codec.specs.Flags.{without_flag}
use Rattle.frame_codec.specs.Laws.{IsWithinLimits}
use Rattle.frame_codec.specs.declared.frames.Frame.{Frame}
use Rattle.frame_codec.specs.declared.flags.TheConstants.{FINAL}
use Rattle.message_frames.specs.Assembly.{is_final}
use Rattle.message_frames.specs.Writing.{with_flag}

pub final_when_set : (frame : Frame) → is_final (with_flag FINAL frame) ≡ true
final_when_set frame = rw (and_or_self 8192 frame.flags) refl

-- To take away a bit that a number of sixteen bits doesn't have leaves it.
and_others : (n : ℕ) → n < 2 ^ 16 → bit_and n 8192 ≡ 0 → bit_and n 57343 ≡ n
and_others n fits none = same_from_bits (bit_and n 57343) n (λ i. at i (cases_lt i 16) (cases_eq i 13))
  where
    zero_there : bit_at n 13 ≡ 0
    zero_there = let e = and_pow n 13 in omega (arith, e, none)

    at : (i : ℕ) → (i < 16) ⊎ (16 ≤ i) → (i ≡ 13) ⊎ (i ≡ 13 → ⊥) → bit_at (bit_and n 57343) i ≡ bit_at n i
    at i (inr above) same = let none_above = bit_at_above n 16 i fits above in bit_at_and n 57343 i ∙ omega (arith, none_above)
    at i (inl within) (inl same) = let gone : bit_at n i ≡ 0 = ap (bit_at n) same ∙ zero_there in bit_at_and n 57343 i ∙ omega (arith, gone)
    at i (inl within) (inr other) =
        let clear : bit_at 8192 i ≡ 0 = bit_at-pow_other 13 i other in
        let kept : bit_at 57343 i ≡ 1 - bit_at 8192 i = bit_at_not w16 8192 i (omega arith) within in
        let small = bit_at-lt n i in
        bit_at_and n 57343 i ∙ omega (arith, clear, kept, small)

pub unset_when_set : (frame : Frame) → IsWithinLimits frame → is_final frame ≡ false → without_flag FINAL (with_flag FINAL frame) ≡ frame
unset_when_set frame limits goes =
    let none : bit_and frame.flags 8192 ≡ 0 = eqb-true (bit_and frame.flags 8192) 0 (not-false _ goes) in
    ap (λ n. record frame { flags = n }) (and_or_apart 57343 frame.flags 8192 refl ∙ and_others frame.flags limits.0 none)

pub limits_when_set : (frame : Frame) → IsWithinLimits frame → IsWithinLimits (with_flag FINAL frame)
limits_when_set frame limits = (or_of_16 frame.flags 8192 limits.0 (omega arith), limits.1)
