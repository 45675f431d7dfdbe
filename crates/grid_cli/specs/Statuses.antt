-- The statuses of a command, and what is read of a script and written of its transcript at each.
use Rattle.std.specs.Prelude.{◌≡◌, ℕ, ◌≤◌, List, [], ◌++◌, length, Option, None}
use Rattle.grid_base.specs.declared.names.CallId.{CallId}
use Rattle.grid_edge.specs.Given.{Given}
use Rattle.partition_protocol.specs.Sequences.{IsFrontOf}
use Rattle.script_lang.specs.declared.refusal.LineWhy.TheVariants.{NoEnd}
use Rattle.grid_cli.specs.declared.status.Status.{Status}
use Rattle.grid_cli.specs.declared.status.Status.TheVariants.{Done, Usage, ScriptRefused, ReadFault, WriteFault, Limit, DoorFault, Memory}
use Rattle.script_lang.specs.Words.{whole_lines}
use Rattle.entry_processors.specs.Processors.{ProcessorForm}
use Rattle.grid_cli.specs.Scripts.{lines_of}
use Rattle.grid_cli.specs.ReadScripts.{Prints}
use Rattle.grid_cli.specs.Transcripts.{Transcript, Ending, Ended, Refused, TooLong, transcript, first_line, following, refused}

abbrev pub exit_status : Status → ℕ
exit_status Done = 0
exit_status Usage = 1
exit_status (ScriptRefused line why) = 2
exit_status ReadFault = 3
exit_status WriteFault = 4
exit_status (Limit what) = 5
exit_status DoorFault = 6
exit_status Memory = 7

abbrev pub whole : List ℕ → Ending → Transcript
whole text ending = record { text = text; ending = ending }

-- The text is that of the lines that are whole in the bytes that were read, none of which ended the run: had the script
-- stopped there, only the refusal of its missing end would follow.
pub record IsTextSoFar (forms : List ProcessorForm) (skips : List CallId) (script read text : List ℕ) : Type 0 where
  pub within : IsFrontOf (whole_lines read) (lines_of script)
  pub lines : first_line forms skips None (whole_lines read) ≡ following text (refused (length (whole_lines read)) NoEnd)

-- With these statuses this was read and this text was written: the whole transcript where the run came to an end of its
-- own, the text of the lines that are whole in what was read where the source failed, and else a front of the transcript.
abbrev pub Writes : List ProcessorForm → Status → List CallId → List ℕ → List ℕ → List ℕ → Type 0
Writes forms Done skips script read text = transcript forms skips script ≡ whole text Ended
Writes forms Usage skips script read text = (read ≡ []) × (text ≡ [])
Writes forms (ScriptRefused line why) skips script read text = transcript forms skips script ≡ whole text (Refused line why)
Writes forms ReadFault skips script read text = IsTextSoFar forms skips script read text
Writes forms WriteFault skips script read text = IsFrontOf text (transcript forms skips script).text
Writes forms (Limit what) skips script read text = (line : ℕ) × (transcript forms skips script ≡ whole text (TooLong line what))
Writes forms DoorFault skips script read text = ⊥
Writes forms Memory skips script read text = IsFrontOf text (transcript forms skips script).text

-- how many bytes are asked for at a time
abbrev pub most_piece : ℕ
most_piece = 65536

-- No piece was read once the run had come to its end: no line that was whole before the last piece came ended it. The
-- text of those lines had been written by then, with the calls among the skips that had found no memory so far.
pub record StopsInLastPiece (forms : List ProcessorForm) (skips : List CallId) (script read text : List ℕ) : Type 0 where
  pub before : List ℕ
  pub piece : List ℕ
  pub pieces : read ≡ before ++ piece
  pub size : length piece ≤ most_piece
  pub earlier : List CallId
  pub later : List CallId
  pub calls : skips ≡ later ++ earlier
  pub shown : List ℕ
  pub so_far : IsTextSoFar forms earlier script before shown
  pub front : IsFrontOf shown text

-- A run with this status read this front of the script and wrote this text, where these calls found no memory.
pub record HasReplayed (forms : List ProcessorForm) (status : Status) (skips : List CallId) (script read text : List ℕ) : Type 0 where
  pub writes : Writes forms status skips script read text
  pub stops : StopsInLastPiece forms skips script read text

-- What was read and what was written is what a run of the script has, for some calls that found no memory.
abbrev pub ReadsAndWrites : List ProcessorForm → Status → (first now : Given) → (before after : List ℕ) → Type 0
ReadsAndWrites forms status = Prints (HasReplayed forms status)
