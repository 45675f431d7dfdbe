-- Readings of short streams, by computation.
use Rattle.std.proofs.Common.{◌≡◌, [], ◌∷◌, None, Some, refl}
use Rattle.frame_codec.specs.Reading.{reading}
use Rattle.frame_codec.specs.declared.malformed.Why.TheVariants.{TooShort, TooLong}

-- two frames, and a length of five in the third's place
two_and_a_wrong_one :
    reading 3 (7 ∷ 0 ∷ 0 ∷ 0 ∷ 0 ∷ 32 ∷ 109 ∷ 6 ∷ 0 ∷ 0 ∷ 0 ∷ 1 ∷ 128 ∷ 5 ∷ 0 ∷ 0 ∷ 0 ∷ 9 ∷ [])
    ≡ record {
      frames =
          record { at = 3; frame = record { flags = 8192; payload = 109 ∷ [] } }
          ∷ record { at = 10; frame = record { flags = 32769; payload = [] } }
          ∷ [];
      fault = Some (record { at = 16; why = TooShort });
      rest = 5 ∷ 0 ∷ 0 ∷ 0 ∷ 9 ∷ [];
    }
unfolding reading
two_and_a_wrong_one = refl

-- a frame whose last byte isn't there
a_part : reading 0 (7 ∷ 0 ∷ 0 ∷ 0 ∷ 0 ∷ 32 ∷ []) ≡ record { frames = []; fault = None; rest = 7 ∷ 0 ∷ 0 ∷ 0 ∷ 0 ∷ 32 ∷ [] }
unfolding reading
a_part = refl

-- a length of 1,048,577, and one of 1,048,576 that goes on
one_too_long : reading 0 (1 ∷ 0 ∷ 16 ∷ 0 ∷ []) ≡ record { frames = []; fault = Some (record { at = 0; why = TooLong }); rest = 1 ∷ 0 ∷ 16 ∷ 0 ∷ [] }
unfolding reading
one_too_long = refl

the_longest : reading 0 (0 ∷ 0 ∷ 16 ∷ 0 ∷ []) ≡ record { frames = []; fault = None; rest = 0 ∷ 0 ∷ 16 ∷ 0 ∷ [] }
unfolding reading
the_longest = refl
