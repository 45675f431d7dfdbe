-- Rows are read one after another, up to the end of their list.
use Rattle.std.proofs.Common.{◌≡◌, ℕ, Bool, true, false, cond, List, [], ◌∷◌, ◌++◌, Option, Some, None, Ok, Err, option_map, refl, sym, ap, ◌∙◌, append_assoc, append-nil}
use Rattle.std.specs.Option.{ok_or}
use Rattle.std.specs.Result.{result_ok}
use Rattle.grid_base.specs.declared.refusal.CallRefused.TheVariants.{BadCall}
use Rattle.frame_codec.specs.declared.flags.TheConstants.{NULL}
use Rattle.frame_codec.specs.declared.frames.Frame.{Frame}
use Rattle.fixed_fields.specs.declared.refusal.FieldRefused.TheVariants.{NoFrame}
use Rattle.fixed_fields.specs.Frames.{not_null, next_data}
use Rattle.fixed_fields.specs.Requests.{◌>>=◌, data_in}
use Rattle.fixed_fields.specs.Structures.{has_flag, is_plain, closes}
use Rattle.fixed_fields.proofs.Steps.{ok_or_some}
use Rattle.event_codecs.specs.Events.{row_of, rows_until_end}
use Rattle.event_codecs.specs.declared.seen.SeenRow.{SeenRow}

-- rows that were read, and then those of the frames behind them
abbrev pub continued : List SeenRow → List Frame → Option (List SeenRow)
continued rows rest = option_map (λ more. rows ++ more) (rows_until_end rest)

none_before : (read : Option (List SeenRow)) → option_map (λ more. [] ++ more) read ≡ read
none_before None = refl
none_before (Some rows) = refl

pub continued_at_first : (frames : List Frame) → continued [] frames ≡ rows_until_end frames
continued_at_first frames = none_before (rows_until_end frames)

pub continued_at_end : (rows : List SeenRow) (frame : Frame) (behind : List Frame) → closes frame ≡ true → continued rows (frame ∷ behind) ≡ Some rows
continued_at_end rows frame behind ends = rw ends (ap Some (append-nil rows))

-- data is the payload of its frame
pub data_is_payload : (frame : Frame) (behind : List Frame) (bytes : List ℕ) → next_data (frame ∷ behind) ≡ Ok bytes → bytes ≡ frame.payload
data_is_payload frame behind bytes e = go (is_plain frame) (has_flag NULL frame) e
  where
    go : (plain null : Bool) → not_null (cond plain (Ok (cond null None (Some frame.payload))) (Err NoFrame)) ≡ Ok bytes → bytes ≡ frame.payload
    go true false s = cc
    go true true s = absurd cc
    go false null s = absurd cc

one_more : (rows : List SeenRow) (row : SeenRow) (read : Option (List SeenRow)) → option_map (λ more. rows ++ more) (read >>= (λ more. Some (row ∷ more))) ≡ option_map (λ more. (rows ++ row ∷ []) ++ more) read
one_more rows row None = refl
one_more rows row (Some more) = ap Some (sym (append_assoc rows (row ∷ []) more))

-- what is read behind what the first frame holds
abbrev pub rows_behind : Option (List ℕ) → List Frame → Option (List SeenRow)
rows_behind held behind = held >>= (λ bytes. row_of bytes >>= (λ row. rows_until_end behind >>= (λ more. Some (row ∷ more))))

pub at_frame : (frame : Frame) (behind : List Frame) (held : Option (List ℕ)) → closes frame ≡ false → data_in (frame ∷ behind) ≡ held → rows_until_end (frame ∷ behind) ≡ rows_behind held behind
at_frame frame behind held goes_on e =
    ap (λ (ends : Bool). cond ends (Some []) (rows_behind (data_in (frame ∷ behind)) behind)) goes_on ∙ ap (λ (h : Option (List ℕ)). rows_behind h behind) e

-- a frame of a row goes over from the rest to what was read
pub continued_by_row : (rows : List SeenRow) (frame : Frame) (behind : List Frame) (bytes : List ℕ) (row : SeenRow) → closes frame ≡ false → next_data (frame ∷ behind) ≡ Ok bytes → row_of frame.payload ≡ Some row → continued rows (frame ∷ behind) ≡ continued (rows ++ row ∷ []) behind
continued_by_row rows frame behind bytes row goes_on held read =
    let payload : bytes ≡ frame.payload = data_is_payload frame behind bytes held in
    let first = at_frame frame behind (Some bytes) goes_on (ap result_ok held) in
    let its : row_of bytes ≡ Some row = ap row_of payload ∙ read in
    ap (option_map (λ (more : List SeenRow). rows ++ more)) (first ∙ ap (λ (r : Option SeenRow). r >>= (λ row. rows_until_end behind >>= (λ more. Some (row ∷ more)))) its)
    ∙ one_more rows row (rows_until_end behind)

-- the same where a step of the reader took the row
pub row_taken : (rows taken : List SeenRow) (rest : List Frame) (frame : Frame) (behind : List Frame) (bytes : List ℕ) (row : SeenRow) (whole : Option (List SeenRow)) → rest ≡ frame ∷ behind → closes frame ≡ false → next_data rest ≡ Ok bytes
    → ok_or (row_of frame.payload) BadCall ≡ Ok row → taken ≡ rows ++ row ∷ [] → continued rows rest ≡ whole → continued taken behind ≡ whole
row_taken rows taken rest frame behind bytes row whole cut goes_on held read more so_far =
    let its = ok_or_some (row_of frame.payload) BadCall row read in
    let step = continued_by_row rows frame behind bytes row goes_on (ap next_data (sym cut) ∙ held) its in
    ap (λ (rows : List SeenRow). continued rows behind) more ∙ sym step ∙ ap (continued rows) (sym cut) ∙ so_far
