-- The grid of the code, with its near clients, stands for the run of a script.
use Rattle.std.specs.Prelude.{◌≡◌, ℕ, ◌+◌, ◌*◌, ◌==◌, ◌≤◌, true, false, not, Bool, length, drop, List, [], ◌∷◌, ◌++◌, Option, Some, None, slice_get}
use Rattle.std.specs.List.{position}
use Rattle.message_frames.specs.MessageReaders.{standing}
use Rattle.grid_base.specs.declared.names.CallId.{CallId}
use Rattle.call_engine.specs.Calls.{Settings}
use Rattle.call_engine.specs.Objects.{partition_object}
use Rattle.grid_client.specs.Nears.{Near}
use Rattle.grid_client.specs.States.{State}
use Rattle.script_lang.specs.Limits.{most_lines, most_line_bytes}
use Rattle.script_lang.specs.Lines.{IsWithin}
use Rattle.script_lang.specs.declared.line.Line.{Line}
use Rattle.script_lang.specs.declared.line.Line.TheVariants.{Arrive, Comment}
use Rattle.line_told.specs.declared.told.LineOutcome.{LineOutcome}
use Rattle.line_told.specs.declared.told.Ready.{Ready}
use Rattle.replay_run.specs.LineTold.{came_to}
use Rattle.replay_run.specs.Runs.{Run, Connection, connection_of}
use Rattle.replay_run.specs.Grids.{FormOf, most_arriving}
use Rattle.masters_run.specs.LineTold as ruled_told
use Rattle.masters_run.specs.Grids as ruled
use Rattle.masters_run.specs.Grids.{AreOfLine}
use Rattle.script_run.specs.declared.client.NearClient.{NearClient as KeptClient}
use Rattle.script_run.specs.declared.grid.ScriptGrid.{ScriptGrid}
use Rattle.script_run.specs.declared.told.NearOutcome.TheVariants as near
use Rattle.script_run.specs.declared.told.ScriptTold.{ScriptTold}
use Rattle.script_run.specs.NearClients.{NearClient}
use Rattle.script_run.specs.Runs.{ScriptRun, ruled_of, grid_line, is_silent}
use Rattle.script_run.specs.AfterLines.{played, after_line}
use Rattle.script_run.specs.LineTold.{told_of, by_near, brought, line_told}
use Rattle.script_run.specs.Printing.{line_text}

-- The client has one connection, on which it has heard these bytes, and a near cache whose map's name came on a line.
pub record IsOnOne (c : ℕ) (text : List ℕ) (s : State) : Type 0 where
  pub uuid : Option ℕ
  pub connections : s.connections ≡ record { conn = c; uuid = uuid; reader = standing false text } ∷ []
  pub near : Near
  pub keeps : s.near ≡ Some near
  pub short : 2 * length near.name ≤ most_line_bytes

pub record IsNear (kept : KeptClient) (n : NearClient) : Type 0 where
  pub conn : kept.conn ≡ n.conn
  pub within : n.conn ≤ 63
  pub client : kept.client ≡ n.state
  pub unread : drop kept.handed kept.output.items ≡ n.unread
  pub handed : kept.handed ≤ length kept.output.items
  pub one : IsOnOne n.conn n.read n.state

abbrev pub AreNear : List KeptClient → List NearClient → Type 0
AreNear [] [] = Unit {0}
AreNear (k ∷ ks) (n ∷ ns) = IsNear k n × AreNear ks ns
AreNear ks ns = ⊥

-- the place of the client of a near connection
abbrev pub is_kept : ℕ → KeptClient → Bool
is_kept c kept = kept.conn == c

abbrev pub place_in : {V : Type 0} {T : V → Type 0} → ScriptGrid V T → ℕ → Option ℕ
place_in all c = position (is_kept c) all.nears.items

-- whether bytes have arrived on a connection
abbrev pub has_spoken : Option Connection → Bool
has_spoken None = false
has_spoken (Some k) = not (is_silent k.bytes)

abbrev pub AreSpoken : List Bool → Run → Type 0
AreSpoken spoken r = (c : ℕ) → c ≤ 63 → slice_get spoken c ≡ Some (has_spoken (connection_of r c))

-- The grid is that of the run, and so are the near clients.
pub record Goes {V : Type 0} {T : V → Type 0} (form : FormOf V T) (settings : Settings) (all : ScriptGrid V T) (s : ScriptRun) : Type 0 where
  pub grid : ruled.Stands form settings all.grid (ruled_of s)
  pub nears : AreNear all.nears.items s.nears

-- between two lines
pub record Stands {V : Type 0} {T : V → Type 0} (form : FormOf V T) (settings : Settings) (all : ScriptGrid V T) (s : ScriptRun) : Type 0 where
  pub goes : Goes form settings all s
  pub spoken : AreSpoken all.spoken.items s.run

-- The line is one that the script can have next: a line of its grammar, and within the limit of lines.
pub record MayRun {V : Type 0} {T : V → Type 0} (form : FormOf V T) (all : ScriptGrid V T) (number : ℕ) (line : Line) : Type 0 where
  pub settings : Settings
  pub run : ScriptRun
  pub stands : Stands form settings all run
  pub read : IsWithin run.run.members most_line_bytes line
  pub next : number ≡ run.run.lines + 1
  pub within : number ≤ most_lines

-- The line ran: the grid and the near clients stand for the run after it, and this was told. Its calls were skipped that found no memory.
pub record HasTold {V : Type 0} {T : V → Type 0} (form : FormOf V T) (settings : Settings) (new : ScriptGrid V T) (s : ScriptRun) (line : Line) (told : ScriptTold) : Type 0 where
  pub skips : List CallId
  pub of_line : AreOfLine settings (ruled_of s) (grid_line (partition_object settings) s line) skips
  pub stands : Stands form settings new (after_line settings skips s line)
  pub tells : told_of told ≡ line_told settings skips s line (after_line settings skips s line)

-- It ran, and its text was added.
pub record HasRun {V : Type 0} {T : V → Type 0} (form : FormOf V T) (settings : Settings) (new : ScriptGrid V T) (s : ScriptRun) (line : Line) (written text : List ℕ) : Type 0 where
  pub skips : List CallId
  pub of_line : AreOfLine settings (ruled_of s) (grid_line (partition_object settings) s line) skips
  pub stands : Stands form settings new (after_line settings skips s line)
  pub added : text ≡ written ++ line_text settings skips s line (after_line settings skips s line)

-- The run is given up at the line, of whose calls these found no memory: an event met a full partition, or masters a full link.
pub record IsGivenUp (settings : Settings) (s : ScriptRun) (line : Line) : Type 0 where
  pub skips : List CallId
  pub of_line : AreOfLine settings (ruled_of s) (grid_line (partition_object settings) s line) skips
  pub full : (after_line settings skips s line).run.full ≡ true

-- what the grid runs at a line

-- The grid may run it.
pub record MayPlay {V : Type 0} {T : V → Type 0} (form : FormOf V T) (all : ScriptGrid V T) (number : ℕ) (line : Line) : Type 0 where
  pub settings : Settings
  pub run : ScriptRun
  pub goes : Goes form settings all run
  pub read : IsWithin run.run.members most_arriving line
  pub next : number ≡ run.run.lines + 1
  pub within : number ≤ most_lines

-- The grid ran it and told this, and the near clients have its output to read.
pub record HasPlayed {V : Type 0} {T : V → Type 0} (form : FormOf V T) (settings : Settings) (new : ScriptGrid V T) (s : ScriptRun) (line : Line) (ready : Ready) : Type 0 where
  pub skips : List CallId
  pub of_line : AreOfLine settings (ruled_of s) line skips
  pub goes : Goes form settings new (played settings skips s line)
  pub told : ready.told.items ≡ ruled_told.line_told settings skips (ruled_of s) line (ruled_of (played settings skips s line))
  pub printed : ready.printed.items ≡ ruled_told.line_printed settings (ruled_of s) line

-- The run was given up at it.
pub record IsGivenUpAt (settings : Settings) (s : ScriptRun) (line : Line) : Type 0 where
  pub skips : List CallId
  pub of_line : AreOfLine settings (ruled_of s) line skips
  pub full : (played settings skips s line).run.full ≡ true

-- What a near client sends arrived on its connection: this was told, an outcome and behind it what that brings.
pub record HasSent {V : Type 0} {T : V → Type 0} (form : FormOf V T) (settings : Settings) (new : ScriptGrid V T) (s : ScriptRun) (c : ℕ) (bytes : List ℕ) (ready : Ready) : Type 0 where
  pub skips : List CallId
  pub of_line : AreOfLine settings (ruled_of s) (Arrive c bytes) skips
  pub stands : Stands form settings new (played settings skips s (Arrive c bytes))
  pub came : LineOutcome
  pub told : ready.told.items ≡ came_to came ++ brought settings skips s.run c bytes (played settings skips s (Arrive c bytes)).run
  pub printed : ready.printed.items ≡ []

-- They were the get of a look-up that missed: this is told.
pub record HasMissed {V : Type 0} {T : V → Type 0} (form : FormOf V T) (settings : Settings) (new : ScriptGrid V T) (s : ScriptRun) (c : ℕ) (get : List ℕ) (told : ScriptTold) : Type 0 where
  pub skips : List CallId
  pub of_line : AreOfLine settings (ruled_of s) (Arrive c get) skips
  pub stands : Stands form settings new (played settings skips s (Arrive c get))
  pub tells : told_of told ≡ by_near near.Miss [] (brought settings skips s.run c get (played settings skips s (Arrive c get)).run)

-- A near client may send these bytes.
pub record MaySend {V : Type 0} {T : V → Type 0} (form : FormOf V T) (all : ScriptGrid V T) (number c : ℕ) (bytes : List ℕ) : Type 0 where
  pub settings : Settings
  pub run : ScriptRun
  pub stands : Stands form settings all run
  pub read : IsWithin run.run.members most_arriving (Arrive c bytes)
  pub next : number ≡ run.run.lines + 1
  pub within : number ≤ most_lines
