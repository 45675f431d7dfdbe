-- What holds of every script: what a reader makes of its lines, what a session makes of its calls, and its size.
use Rattle.std.specs.Prelude.{◌≡◌, ℕ, ◌*◌, ◌^◌, ◌<◌, ◌≤◌, pos, [], length, map, Some, None, Ok, All}
use Rattle.grid_base.specs.declared.names.CallId.{CallId}
use Rattle.grid_base.specs.declared.names.ClientKey.TheVariants.{Known}
use Rattle.grid_base.specs.declared.calls.GridCall.{GridCall}
use Rattle.session_core.specs.Items.{item_of, identity_after}
use Rattle.session_core.specs.declared.item.Item.TheVariants.{Call}
use Rattle.request_codecs.specs.Openings.{authentication_frames}
use Rattle.request_codecs.specs.Requests.{kind_of_call, request}
use Rattle.script_lang.specs.Lines.{line_of}
use Rattle.script_lang.specs.Spelling.{spelled, is_first}
use Rattle.script_lang.specs.Words.{whole_lines, unfinished}
use Rattle.script_lang.specs.declared.line.Line.{Line}
use Rattle.workload_gen.specs.Calls.{client_on, conn_of, put, get}
use Rattle.workload_gen.specs.Script.{line_text, sample_lines, sample_script}

-- Its spelling is read as the line that it is, in a grid of four members.
abbrev pub IsReadAsItself : Line → Type 0
IsReadAsItself line = line_of (is_first line) 4 (spelled line) ≡ Ok line

-- The newlines of the script's text cut it into its lines, each is read as itself, and nothing is left behind the last.
pub record IsReadBack (number : ℕ) : Type 0 where
  pub cut : whole_lines (sample_script number) ≡ map spelled (sample_lines number)
  pub read : All IsReadAsItself (sample_lines number)
  pub rest : unfinished (sample_script number) ≡ []

abbrev pub EveryScriptIsReadBack : Type 0
EveryScriptIsReadBack = (number : ℕ) → IsReadBack number

-- A script has 2,013 lines, and none has more than 155 bytes with its newline.
pub record IsShort (number : ℕ) : Type 0 where
  pub lines : length (sample_lines number) ≡ 2013
  pub each : All (λ line. length (line_text line) ≤ 155) (sample_lines number)
  pub bytes : length (sample_script number) ≤ 2013 * 155

abbrev pub EveryScriptIsShort : Type 0
EveryScriptIsShort = (number : ℕ) → IsShort number

-- What the client of a connection sends first makes it known by its number.
abbrev pub EveryClientIsKnown : Type 0
EveryClientIsKnown =
    (conn : ℕ) → conn < 4 → identity_after conn None (record { frames = authentication_frames (pos 0) (client_on conn) }) ≡ Some (Known (client_on conn))

-- A member's session makes of a round's request exactly that call: by the client of the connection that it comes on, in that partition, under the round's number.
abbrev pub IsHeard : ℕ → ℕ → GridCall → Type 0
IsHeard round partition call =
    (member : ℕ) (id : CallId) → item_of member id (Some (Known (client_on (conn_of partition)))) (request (pos round) partition call)
    ≡ Call (record { id = id; correlation = pos round; kind = kind_of_call call; partition = partition; call = call })

abbrev pub EveryCallIsHeard : Type 0
EveryCallIsHeard =
    (round partition : ℕ) → round < 2 ^ 63 → partition < 271 → IsHeard round partition (put round partition) × IsHeard round partition (get partition)
