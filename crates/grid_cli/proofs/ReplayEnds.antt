-- How a replay ends, as the transcript of its script does.
use Rattle.std.proofs.Common.{◌≡◌, ℕ, ◌==◌, true, false, ◌⊎◌, inl, inr, List, [], ◌∷◌, ◌++◌, length, None, refl, ap, sym, ◌∙◌, arith, append-nil}
use Rattle.std.proofs.lemmas.Bool.Decides.{nat_tests}
use Rattle.grid_base.specs.declared.names.CallId.{CallId}
use Rattle.entry_processors.specs.Processors.{ProcessorForm}
use Rattle.grid_cli.specs.Transcribing.{Concludes, StopsAs, HasRoomFor}
use Rattle.grid_cli.specs.Replays.{last_line}
use Rattle.grid_cli.specs.declared.status.Status.{Status}
use Rattle.grid_cli.specs.declared.status.Status.TheVariants.{Done, Usage, ScriptRefused, ReadFault, WriteFault, Limit, DoorFault, Memory}

-- the last line, which no newline ends
pub no_last_line : (text : List ℕ) → (length text == 0) ≡ true → last_line text ≡ []
no_last_line [] e = refl
no_last_line (x ∷ xs) e = absurd (grind (arith, nat_tests))

pub last_line_is : (text : List ℕ) → (length text == 0) ≡ false → last_line text ≡ text ∷ []
last_line_is [] e = absurd (cc e)
last_line_is (x ∷ xs) e = refl

pub lines_without_last : (lines : List (List ℕ)) (text : List ℕ) → last_line text ≡ [] → lines ≡ lines ++ last_line text
lines_without_last lines text e = sym (ap (λ ls. lines ++ ls) e ∙ append-nil lines)

-- There is room for it.
pub room_for_last : (lines : List (List ℕ)) (text : List ℕ) → (text ≡ []) ⊎ HasRoomFor lines text → (length text == 0) ≡ false → HasRoomFor lines text
room_for_last lines [] room e = absurd (cc e)
room_for_last lines (x ∷ xs) (inl none) e = absurd (cc none)
room_for_last lines (x ∷ xs) (inr room) e = room

-- a run that stopped at the last line
pub stopped_at_last : (forms : List ProcessorForm) (status : Status) (skips : List CallId) (done : List (List ℕ)) (text written : List ℕ) → StopsAs forms status skips done text written → Concludes forms None status skips (done ++ text ∷ []) written
stopped_at_last forms Done skips done text written h = h None []
stopped_at_last forms Usage skips done text written h = absurd h
stopped_at_last forms (ScriptRefused line why) skips done text written h = h None []
stopped_at_last forms ReadFault skips done text written h = absurd h
stopped_at_last forms DoorFault skips done text written h = absurd h
stopped_at_last forms WriteFault skips done text written h = h None []
stopped_at_last forms (Limit what) skips done text written h = h None []
stopped_at_last forms Memory skips done text written h = h None []
