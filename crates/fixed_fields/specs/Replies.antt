-- What a call on an object is answered, as bytes.
use Rattle.std.specs.Prelude.{ℕ, Bool, if◌then◌else◌, ℤ, pos, List, [], ◌∷◌, ◌++◌, ⊤, IfSome}
use Rattle.std.specs.Int.{w32, to_le_bytes}
use Rattle.grid_base.specs.Errors.{key_locked, not_owner, unknown_processor}
use Rattle.grid_base.specs.Limits.{FitsFrame}
use Rattle.grid_base.specs.declared.calls.Answer.{Answer}
use Rattle.grid_base.specs.declared.calls.Answer.TheVariants.{Void, Flag, Number, Maybe, KeyLocked, NotOwner, UnknownProcessor}
use Rattle.fixed_fields.specs.Responses.{unfragmented, framed, response_head, response_of, void_bytes, nullable_frame, error_bytes}

abbrev pub flag_byte : Bool → ℕ
flag_byte flag = if flag then 1 else 0

-- what an object answers with an error has nothing more to say
abbrev pub object_error : ℤ → ℕ → List ℕ
object_error correlation code = error_bytes correlation (pos code) (pos 0) (pos 0)

-- The reply to a request of that type. Done, a flag or a number is one frame; a value or null is a frame behind the head; an error says its number.
abbrev pub reply_bytes : ℕ → ℤ → Answer → List ℕ
reply_bytes kind correlation Void = void_bytes kind correlation
reply_bytes kind correlation (Flag flag) = response_of kind correlation (flag_byte flag ∷ [])
reply_bytes kind correlation (Number n) = response_of kind correlation (to_le_bytes w32 n)
reply_bytes kind correlation (Maybe value) = framed unfragmented (response_head kind correlation) ++ nullable_frame value
reply_bytes kind correlation KeyLocked = object_error correlation key_locked
reply_bytes kind correlation NotOwner = object_error correlation not_owner
reply_bytes kind correlation UnknownProcessor = object_error correlation unknown_processor

-- an answer whose value, where it has one, fits a frame
abbrev pub AnswerFits : Answer → Type 0
AnswerFits (Maybe value) = IfSome value FitsFrame
AnswerFits Void = ⊤
AnswerFits (Flag flag) = ⊤
AnswerFits (Number n) = ⊤
AnswerFits KeyLocked = ⊤
AnswerFits NotOwner = ⊤
AnswerFits UnknownProcessor = ⊤
