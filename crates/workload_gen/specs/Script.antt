-- The script that is made from a number.
use Rattle.std.specs.Prelude.{ℕ, zero, suc, ◌+◌, ◌==◌, true, if◌then◌else◌, pos, List, [], ◌∷◌, ◌++◌}
use Rattle.std.specs.List.{flat_map}
use Rattle.grid_base.specs.declared.calls.GridCall.{GridCall}
use Rattle.frame_codec.specs.Laws.{spelled as spelled_frames}
use Rattle.message_frames.specs.Messages.{prefix_of}
use Rattle.request_codecs.specs.Openings.{authentication_frames}
use Rattle.request_codecs.specs.Requests.{request_bytes}
use Rattle.script_lang.specs.Spelling.{spelled}
use Rattle.script_lang.specs.Words.{newline}
use Rattle.script_lang.specs.declared.line.Line.{Line}
use Rattle.script_lang.specs.declared.line.Line.TheVariants as Lines
use Rattle.workload_gen.specs.Calls.{client_on, conn_of, put, get}
use Rattle.workload_gen.specs.Draws.{step_at}
use Rattle.workload_gen.specs.declared.steps.Step.{Step}
use Rattle.workload_gen.specs.declared.steps.Step.TheVariants.{Put, Get, Flow, Move, Advance, Resend}

-- what f gives for 0, 1 and so on below n, one after the other
unfoldable pub each_below : ℕ → (ℕ → List Line) → List Line
each_below zero f = []
each_below (suc n) f = each_below n f ++ f n

-- A client connects to a member, and makes itself known.
abbrev pub connection_lines : ℕ → List Line
connection_lines conn =
    Lines.OpenConn conn conn
    ∷ Lines.Arrive conn (prefix_of true ++ spelled_frames (authentication_frames (pos 0) (client_on conn)))
    ∷ []

-- A round's call comes on the connection of its partition, with the round's number for its correlation.
abbrev pub call_line : ℕ → ℕ → GridCall → Line
call_line round partition call = Lines.Arrive (conn_of partition) (request_bytes (pos round) partition call)

abbrev pub step_line : ℕ → Step → Line
step_line round (Put partition) = call_line round partition (put round partition)
step_line round (Get partition) = call_line round partition (get partition)
step_line round Flow = Lines.FlowAll 50
step_line round (Move partition from to) = Lines.Move partition from to
step_line round (Advance partition) = Lines.Advance partition
step_line round (Resend partition end) = Lines.Resend partition end

-- After round 1,000 a member crashes.
abbrev pub crash_lines : ℕ → List Line
crash_lines round = if round == 1000 then Lines.Crash 3 ∷ Lines.Detect 3 ∷ [] else []

-- the lines of the round behind so many others
abbrev pub round_lines : ℕ → ℕ → List Line
round_lines number rounds = step_line (rounds + 1) (step_at number rounds) ∷ crash_lines (rounds + 1)

-- Four members and one backup; four clients; two thousand rounds; and what is left is delivered.
abbrev pub sample_lines : ℕ → List Line
sample_lines number =
    Lines.Grid 4 1 100 ∷ each_below 4 connection_lines
    ++ each_below 2000 (round_lines number)
    ++ Lines.FlowAll 1000 ∷ Lines.End ∷ []

-- a line with its newline
abbrev pub line_text : Line → List ℕ
line_text line = spelled line ++ newline ∷ []

abbrev pub text_of : List Line → List ℕ
text_of lines = flat_map line_text lines

abbrev pub sample_script : ℕ → List ℕ
sample_script number = text_of (sample_lines number)
