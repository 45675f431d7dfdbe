-- The text of a line is that of what it tells.
use Rattle.std.proofs.Common.{◌≡◌, ℕ, ◌+◌, Bool, true, false, cond, List, [], ◌++◌, Option, Some, None, refl, ap, sym, ◌∙◌, subst, append-nil}
use Rattle.frame_codec.specs.declared.malformed.Malformed.{Malformed}
use Rattle.grid_base.specs.declared.names.CallId.{CallId}
use Rattle.call_engine.specs.Calls.{Settings}
use Rattle.call_engine.specs.Objects.{partition_object}
use Rattle.object_store.specs.Partitions.{Partition}
use Rattle.grid_base.specs.Objects.{Object}
use Rattle.grid_base.specs.declared.calls.Request.{Request}
use Rattle.script_lang.specs.declared.line.Line.{Line}
use Rattle.script_lang.specs.declared.line.Line.TheVariants.{Arrive, Near, NearGet, NearFeed, Comment}
use Rattle.line_told.specs.Printing.{fault_text, text_of}
use Rattle.line_told.specs.declared.told.LineOutcome.TheVariants as outcome
use Rattle.line_told.specs.declared.told.Told.{Told}
use Rattle.replay_run.specs.Appending.{new_messages}
use Rattle.replay_run.specs.Grids.{FormOf}
use Rattle.replay_run.specs.LineTold.{came_to, all_told, close_told, closing_told, line_closing}
use Rattle.replay_run.specs.Printing.{ok_text, nothing_text, does_nothing, close_text, closing_text, line_messages, line_close}
use Rattle.replay_run.specs.Runs.{Run, Connection, Appended, connection_of, fault_on}
use Rattle.replay_run.proofs.PrintedLines.{text_append, messages_text, one_text}
use Rattle.masters_run.specs.AfterLines as ruled
use Rattle.masters_run.specs.LineTold as ruled_told
use Rattle.masters_run.specs.Printing as ruled_text
use Rattle.masters_run.specs.Runs.{RuledRun}
use Rattle.masters_run.proofs.KeptLines.{line_lines}
use Rattle.masters_run.proofs.PrintedLines.{line_is}
use Rattle.script_run.specs.declared.grid.ScriptGrid.{ScriptGrid}
use Rattle.script_run.specs.declared.told.ScriptTold.{ScriptTold}
use Rattle.script_run.specs.AfterLines.{after_line}
use Rattle.script_run.specs.Grids.{HasTold, HasRun}
use Rattle.script_run.specs.LineTold as told
use Rattle.script_run.specs.NearClients.{NearClient, opening_of, get_sent, piece, told as told_by}
use Rattle.script_run.specs.Printing.{brought, hit_text, miss_text, look_text, handed_text, all_heard_text, fed_text, line_text, told_text}
use Rattle.script_run.specs.Runs.{ScriptRun, ruled_of, Look, Unmade, Hit, Miss, near_of, is_near_connection, can_begin, look, grid_line}
use Rattle.script_run.proofs.Playing.{if_false}

idle_is : (n : ℕ) → told_text n told.idle ≡ nothing_text n
idle_is n = append-nil (text_of n (came_to outcome.Idle)) ∙ one_text n outcome.Idle

module _ (settings : Settings) (skips : List CallId) (r after : Run) where
  closes : (c : ℕ) (found : Option Connection) → text_of after.lines (closing_told c found) ≡ closing_text after.lines c found
  closes c None = refl
  closes c (Some k) = by (fault_on k)
    where
      by : (fault : Option Malformed) → text_of after.lines (close_told c fault) ≡ close_text after.lines c fault
      by None = refl
      by (Some fault) = append-nil (fault_text after.lines c fault)

  -- what bytes bring
  brought_is : (c : ℕ) (bytes : List ℕ) → text_of after.lines (told.brought settings skips r c bytes after) ≡ brought settings skips r c bytes after
  brought_is c bytes = by (does_nothing (partition_object settings) r (Arrive c bytes))
    where
      sent : List Appended
      sent = new_messages r after

      closing : List Told
      closing = closing_told c (connection_of after c)

      by : (idle : Bool) → text_of after.lines (cond idle [] (all_told sent ++ closing)) ≡ cond idle [] (line_messages settings skips r (Arrive c bytes) after ++ line_close after (Arrive c bytes))
      by true = refl
      by false = text_append after.lines (all_told sent) closing ∙ (λ i. messages_text after.lines sent i ++ closes c (connection_of after c) i)

  begun_is : (c : ℕ) (name : List ℕ) → told_text after.lines (told.begun_told settings skips r c name after) ≡ ok_text after.lines ++ brought settings skips r c (opening_of c name) after
  begun_is c name =
      let brings = told.brought settings skips r c (opening_of c name) after in
      append-nil (text_of after.lines (came_to outcome.Ran ++ brings)) ∙ text_append after.lines (came_to outcome.Ran) brings ∙ (λ i. one_text after.lines outcome.Ran i ++ brought_is c (opening_of c name) i)

  looked_is : (c : ℕ) (key : List ℕ) (found : Look) → told_text after.lines (told.look_told settings skips r c key after found) ≡ look_text settings skips r c key after found
  looked_is c key Unmade = idle_is after.lines
  looked_is c key (Hit n value) = append-nil (hit_text after.lines value ++ []) ∙ append-nil (hit_text after.lines value)
  looked_is c key (Miss n) =
      let get = (get_sent n key).request in
      let brings = told.brought settings skips r c get after in
      (λ i. append-nil (miss_text after.lines) i ++ append-nil (text_of after.lines brings) i) ∙ ap (λ t. miss_text after.lines ++ t) (brought_is c get)

fed_is : (n most : ℕ) (found : Option NearClient) → told_text n (told.fed_told most found) ≡ fed_text n most found
fed_is n most None = idle_is n
fed_is n most (Some client) = append-nil (fed_text n most (Some client))

module _ (settings : Settings) (skips : List CallId) (s : ScriptRun) where
  abbrev o : Object Request Partition
  o = partition_object settings

  -- a line that is the grid's own
  grid_is : (line : Line) (next : ScriptRun) → ruled_of next ≡ ruled.after_line o skips (ruled_of s) line
      → told_text next.run.lines (told.grid_told settings skips s line next) ≡ ruled_text.line_text settings skips (ruled_of s) line (ruled_of next)
  grid_is line next is =
      let last = ruled.after_line o skips (ruled_of s) line in
      subst (λ (x : RuledRun). text_of x.run.lines (ruled_told.line_told settings skips (ruled_of s) line x) ++ ruled_told.line_printed settings (ruled_of s) line ≡ ruled_text.line_text settings skips (ruled_of s) line x) (sym is)
      (line_is settings skips (ruled_of s) last.run.lines (sym (line_lines o skips (ruled_of s) line)) line)

  -- bytes on a connection, which may be a near connection
  bytes_are : (c : ℕ) (bytes : List ℕ) (next : ScriptRun) → ruled_of next ≡ ruled.after_line o skips (ruled_of s) (grid_line o s (Arrive c bytes))
      → told_text next.run.lines (told.line_told settings skips s (Arrive c bytes) next) ≡ line_text settings skips s (Arrive c bytes) next
  bytes_are c bytes next is = by (is_near_connection s c) refl
    where
      by : (b : Bool) → is_near_connection s c ≡ b → told_text next.run.lines (cond b told.idle (told.grid_told settings skips s (Arrive c bytes) next))
          ≡ cond b (nothing_text next.run.lines) (ruled_text.line_text settings skips (ruled_of s) (Arrive c bytes) (ruled_of next))
      by true near = idle_is next.run.lines
      by false free = grid_is (Arrive c bytes) next (is ∙ ap (ruled.after_line o skips (ruled_of s)) (if_false (is_near_connection s c) Comment (Arrive c bytes) free))

  begins_is : (c : ℕ) (name : List ℕ) (after : Run) (b : Bool) → told_text after.lines (cond b (told.begun_told settings skips s.run c name after) told.idle)
      ≡ cond b (ok_text after.lines ++ brought settings skips s.run c (opening_of c name) after) (nothing_text after.lines)
  begins_is c name after true = begun_is settings skips s.run after c name
  begins_is c name after false = idle_is after.lines

  pub text_is : (line : Line) → let next = after_line settings skips s line in told_text next.run.lines (told.line_told settings skips s line next) ≡ line_text settings skips s line next
  text_is (Near c name capacity) = begins_is c name (after_line settings skips s (Near c name capacity)).run (can_begin s c name)
  text_is (NearGet c key) = looked_is settings skips s.run (after_line settings skips s (NearGet c key)).run c key (look o s c key)
  text_is (NearFeed c most) = fed_is (after_line settings skips s (NearFeed c most)).run.lines most (near_of s c)
  text_is (Arrive c bytes) = bytes_are c bytes (after_line settings skips s (Arrive c bytes)) refl
  text_is line = grid_is line (after_line settings skips s line) refl

-- What a line tells is printed as its text.
pub printed_line : {V : Type 0} {T : V → Type 0} {form : FormOf V T} {settings : Settings} (new : ScriptGrid V T) (s : ScriptRun) (line : Line) (number : ℕ) (it : ScriptTold) (written text : List ℕ) → number ≡ s.run.lines + 1
    → text ≡ written ++ told_text number (told.told_of it) → HasTold form settings new s line it → HasRun form settings new s line written text
printed_line {settings = settings} new s line number it written text at_line is has =
    let next = after_line settings has.skips s line in
    let lines : number ≡ next.run.lines = at_line ∙ sym (line_lines (partition_object settings) has.skips (ruled_of s) (grid_line (partition_object settings) s line)) in
    record {
      skips = has.skips;
      of_line = has.of_line;
      stands = has.stands;
      added = is ∙ (λ i. written ++ told_text (lines i) (has.tells i)) ∙ ap (λ t. written ++ t) (text_is settings has.skips s line);
    }
