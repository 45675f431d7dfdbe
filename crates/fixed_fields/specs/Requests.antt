-- How requests are read: their types by a table, and their fields and frames one after the other.
use Rattle.std.specs.Prelude.{◌≡◌, ℕ, ◌==◌, if◌then◌else◌, List, [], ◌∷◌, map, Option, Some, None, Result, Ok, Err, option_map, ⊤}
use Rattle.std.specs.Int.{w32, cast_unsigned}
use Rattle.std.specs.Result.{result_ok}
use Rattle.frame_codec.specs.declared.frames.Frame.{Frame}
use Rattle.grid_base.specs.declared.refusal.CallRefused.{CallRefused}
use Rattle.grid_base.specs.declared.refusal.CallRefused.TheVariants.{UnknownType, BadCall, Memory}
use Rattle.fixed_fields.specs.Fields.{int32_at}
use Rattle.fixed_fields.specs.Frames.{next_data, next_text}

-- Each part is there or not, and what follows is asked only where it is.

infixl 10 ◌>>=◌
abbrev pub ◌>>=◌ : {A B : Type 0} → Option A → (A → Option B) → Option B
None >>= f = None
(Some x) >>= f = f x

-- the type of a message, with which its first payload begins
abbrev pub kind_of : List ℕ → Option ℕ
kind_of payload = option_map (cast_unsigned w32) (int32_at payload 0)

-- the data or the text of the next frame, where it is one
abbrev pub data_in : List Frame → Option (List ℕ)
data_in frames = result_ok (next_data frames)

abbrev pub text_in : List Frame → Option (List ℕ)
text_in frames = result_ok (next_text frames)

-- A reader gives what the message says, or it found no memory.
abbrev pub IsReadAs : {A : Type 0} → Result A CallRefused → Result A CallRefused → Type 0
IsReadAs (Ok x) said = said ≡ Ok x
IsReadAs (Err UnknownType) said = said ≡ Err UnknownType
IsReadAs (Err BadCall) said = said ≡ Err BadCall
IsReadAs (Err Memory) said = ⊤

-- A table of requests: each type, with what reads the rest of a request of that type.
pub record Row (Reader : Type 0) : Type 0 where
  pub kind : ℕ
  pub reader : Reader

abbrev pub kinds_in : {Reader : Type 0} → List (Row Reader) → List ℕ
kinds_in rows = map (λ row. row.kind) rows

-- what reads a request of that type, if the table has it
abbrev pub reader_of : {Reader : Type 0} → ℕ → List (Row Reader) → Option Reader
reader_of kind [] = None
reader_of kind (row ∷ rows) = if kind == row.kind then Some row.reader else reader_of kind rows

abbrev pub reader_in : {Reader : Type 0} → Option ℕ → List (Row Reader) → Option Reader
reader_in None rows = None
reader_in (Some kind) rows = reader_of kind rows
