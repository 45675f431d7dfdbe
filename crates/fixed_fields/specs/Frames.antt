-- What the next frame of a message holds.
use Rattle.std.specs.Prelude.{ℕ, List, [], ◌∷◌, Option, Some, None, Result, Ok, Err, if◌then◌else◌}
use Rattle.std.specs.Option.{ok_or}
use Rattle.std.specs.Str.{is_utf8}
use Rattle.frame_codec.specs.declared.frames.Frame.{Frame}
use Rattle.frame_codec.specs.declared.flags.TheConstants.{NULL}
use Rattle.fixed_fields.specs.declared.refusal.FieldRefused.{FieldRefused}
use Rattle.fixed_fields.specs.declared.refusal.FieldRefused.TheVariants.{NoFrame, NotUtf8}
use Rattle.fixed_fields.specs.Structures.{has_flag, is_plain, after_structure}

-- a null, whatever its payload, or the payload
abbrev pub content_of : Frame → Option (List ℕ)
content_of frame = if has_flag NULL frame then None else Some frame.payload

-- Data that may be null. Only a plain frame holds it: none that begins or ends a structure.
abbrev pub next_nullable : List Frame → Result (Option (List ℕ)) FieldRefused
next_nullable [] = Err NoFrame
next_nullable (frame ∷ frames) = if is_plain frame then Ok (content_of frame) else Err NoFrame

-- data that isn't null
abbrev pub not_null : Result (Option (List ℕ)) FieldRefused → Result (List ℕ) FieldRefused
not_null (Ok content) = ok_or content NoFrame
not_null (Err why) = Err why

abbrev pub next_data : List Frame → Result (List ℕ) FieldRefused
next_data frames = not_null (next_nullable frames)

-- data that is a text
abbrev pub as_text : Result (List ℕ) FieldRefused → Result (List ℕ) FieldRefused
as_text (Ok bytes) = if is_utf8 bytes then Ok bytes else Err NotUtf8
as_text (Err why) = Err why

abbrev pub next_text : List Frame → Result (List ℕ) FieldRefused
next_text frames = as_text (next_data frames)

-- the frames behind the structure that comes next
abbrev pub next_structure : List Frame → Result (List Frame) FieldRefused
next_structure frames = ok_or (after_structure frames) NoFrame
