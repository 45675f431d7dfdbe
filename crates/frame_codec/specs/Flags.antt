-- The flags of a frame, one bit each.
use Rattle.std.specs.Prelude.{ℕ, ◌-◌, ◌==◌, Bool, not, bit_and}
use Rattle.frame_codec.specs.declared.frames.Frame.{Frame}

abbrev pub has_flag : ℕ → Frame → Bool
has_flag flag frame = not (bit_and frame.flags flag == 0)

-- the flags but for one
abbrev pub without_flag : ℕ → Frame → Frame
without_flag flag frame = record frame { flags = bit_and frame.flags (65535 - flag) }
