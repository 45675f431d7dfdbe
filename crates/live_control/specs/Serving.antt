-- How a control script ends, and what was run and written of it by then.
use Rattle.std.specs.Prelude.{◌≡◌, ◌⊎◌, ℕ, ◌+◌, ◌<◌, false, List, [], ◌∷◌, ◌++◌, length, Option, Some, Ok, Err}
use Rattle.partition_protocol.specs.Sequences.{IsFrontOf}
use Rattle.script_lang.specs.Words.{whole_lines}
use Rattle.script_lang.specs.declared.refusal.LineWhy.{LineWhy}
use Rattle.script_lang.specs.declared.refusal.LineWhy.TheVariants.{NoEnd}
use Rattle.grid_cli.specs.MemoryScripts.{HasReadOn}
use Rattle.grid_cli.specs.ReadScripts.{IsOfScript}
use Rattle.grid_cli.specs.Scripts.{cut, lines_of}
use Rattle.grid_cli.specs.Transcripts.{refused_text, limit_text}
use Rattle.grid_cli.specs.declared.status.LimitWhat.{LimitWhat}
use Rattle.grid_cli.specs.declared.status.Status.{Status}
use Rattle.grid_cli.specs.declared.status.Status.TheVariants.{Done, ScriptRefused, ReadFault, WriteFault, Limit, Memory}
use Rattle.live_grid.specs.declared.grid.GridPass.{GridPass}
use Rattle.live_grid.specs.declared.grid.LiveGrid.{LiveGrid}
use Rattle.live_control.specs.declared.orders.Order.{Order}
use Rattle.live_control.specs.declared.orders.Order.TheVariants.{End}
use Rattle.live_control.specs.Orders.{order_in}
use Rattle.live_control.specs.Reading.{AreLinesOf}
use Rattle.live_control.specs.Running.{HasTried, HasRunLine, HasGoneOn, HaveRun}
use Rattle.live_control.specs.declared.serving.Ran.{Ran}
use Rattle.live_control.specs.declared.serving.Ran.TheVariants.{Goes, Ended, Refused}
use Rattle.grid_edge.specs.Given.{Given}
use Rattle.grid_edge.specs.Memory.{Input}
use Rattle.grid_edge.specs.Sink.{TakesFront}

module _ (grid : LiveGrid) (members : ℕ) (script : List ℕ) (old new : GridPass) where
  -- The lines before it were run, none of which ends the script, and this is their text
  pub record IsAtLine (line : List ℕ) (mid : GridPass) (shown : List ℕ) : Type 0 where
    pub done : List (List ℕ)
    pub first : IsFrontOf (done ++ line ∷ []) (lines_of script)
    pub ran : HaveRun grid members 1 done old mid shown

  -- All lines to the line `end` were run, and their text was written
  pub record HasEnded (written : List ℕ) : Type 0 where
    pub line : List ℕ
    pub mid : GridPass
    pub shown : List ℕ
    pub own : List ℕ
    pub before : IsAtLine line mid shown
    pub ended : HasRunLine grid members (length before.done + 1) line mid new End own
    pub text : written ≡ shown ++ own

  -- The lines before the first that is refused were run
  pub record HasMetRefused (number : ℕ) (why : LineWhy) (written : List ℕ) : Type 0 where
    pub line : List ℕ
    pub shown : List ℕ
    pub before : IsAtLine line new shown
    pub refused : order_in members line ≡ Err why
    pub numbered : number ≡ length before.done + 1
    pub text : written ≡ shown ++ refused_text number why

  -- All lines were run, and the script has no line `end`
  pub record HasMetNoEnd (number : ℕ) (why : LineWhy) (written : List ℕ) : Type 0 where
    pub lines : List (List ℕ)
    pub shown : List ℕ
    pub all : AreLinesOf lines script
    pub ran : HaveRun grid members 1 lines old new shown
    pub numbered : number ≡ length lines
    pub no_end : why ≡ NoEnd
    pub text : written ≡ shown ++ refused_text number why

  -- The lines before the byte that is past a limit were run
  pub record HasMetLimit (what : LimitWhat) (written : List ℕ) : Type 0 where
    pub lines : List (List ℕ)
    pub shown : List ℕ
    pub all : cut script ≡ record { lines = lines; limit = Some what }
    pub ran : HaveRun grid members 1 lines old new shown
    pub text : written ≡ shown ++ limit_text (length lines + 1) what

  -- The lines that are whole in what was read were run
  pub record HasReadSoFar (read written : List ℕ) : Type 0 where
    pub first : IsFrontOf (whole_lines read) (lines_of script)
    pub ran : HaveRun grid members 1 (whole_lines read) old new written

  -- The order of the line behind these was carried out as far as there was memory
  pub record HasTriedNext (done : List (List ℕ)) (mid : GridPass) : Type 0 where
    pub line : List ℕ
    pub order : Order
    pub next : IsFrontOf (done ++ line ∷ []) (lines_of script)
    pub ordered : order_in members line ≡ Ok order
    pub tried : HasTried grid mid new order

  -- The first lines were run and their text was written, and no more; of the next line's order a part may have been run
  pub record HasRunShort (written : List ℕ) : Type 0 where
    pub done : List (List ℕ)
    pub mid : GridPass
    pub first : IsFrontOf done (lines_of script)
    pub ran : HaveRun grid members 1 done old mid written
    pub further : (new ≡ mid) ⊎ HasTriedNext done mid

  -- The line behind these was run, and this is its text
  pub record HasRunNext (done : List (List ℕ)) (mid : GridPass) (own : List ℕ) : Type 0 where
    pub line : List ℕ
    pub order : Order
    pub next : IsFrontOf (done ++ line ∷ []) (lines_of script)
    pub ran : HasRunLine grid members (length done + 1) line mid new order own

  -- this is the whole text of the script
  abbrev pub IsWhole : List ℕ → Type 0
  IsWhole written = HasEnded written ⊎ (((number : ℕ) × (why : LineWhy) × (HasMetRefused number why written ⊎ HasMetNoEnd number why written)) ⊎ ((what : LimitWhat) × HasMetLimit what written))

  -- The text of these lines was written, and a front of the text behind it: that of one line more, which was run, or the
  -- script's last
  pub record HasBrokenOff (written : List ℕ) : Type 0 where
    pub done : List (List ℕ)
    pub mid : GridPass
    pub shown : List ℕ
    pub own : List ℕ
    pub part : List ℕ
    pub first : IsFrontOf done (lines_of script)
    pub ran : HaveRun grid members 1 done old mid shown
    pub text : written ≡ shown ++ part
    pub front : IsFrontOf part own
    pub broken : HasRunNext done mid own ⊎ IsWhole (shown ++ own)

  -- With these statuses this was read and written of the script
  abbrev pub ServesAs : Status → List ℕ → List ℕ → Type 0
  ServesAs Done read written = HasEnded written
  ServesAs (ScriptRefused number why) read written = HasMetRefused number why written ⊎ HasMetNoEnd number why written
  ServesAs (Limit what) read written = HasMetLimit what written
  ServesAs ReadFault read written = HasReadSoFar read written
  ServesAs WriteFault read written = HasBrokenOff written
  ServesAs Memory read written = HasRunShort written
  ServesAs _ read written = ⊥

-- Steps of it

-- what a line did, which left this text
abbrev pub HasRunAs : LiveGrid → ℕ → ℕ → List ℕ → GridPass → GridPass → List ℕ → Ran → Type 0
HasRunAs grid members number line old new text Goes = HasGoneOn grid members number line old new text
HasRunAs grid members number line old new text Ended = HasRunLine grid members number line old new End text
HasRunAs grid members number line old new text (Refused why) = (new ≡ old) × (order_in members line ≡ Err why) × (text ≡ refused_text number why)

-- There was no memory for the line, or for its events, or for its text
abbrev pub HasFailed : LiveGrid → ℕ → List ℕ → GridPass → GridPass → Type 0
HasFailed grid members line old new = (new ≡ old) ⊎ ((order : Order) × (order_in members line ≡ Ok order) × HasTried grid old new order)

-- A line was run that doesn't end the script, and its text was written
abbrev pub Serves : LiveGrid → ℕ → ℕ → List ℕ → GridPass → GridPass → List ℕ → List ℕ → Type 0
Serves grid members number line old new before after = (text : List ℕ) × HasGoneOn grid members number line old new text × (after ≡ before ++ text)

-- with which status the script stops at a line
abbrev pub StopsAs : LiveGrid → ℕ → ℕ → List ℕ → GridPass → GridPass → List ℕ → List ℕ → Status → Type 0
StopsAs grid members number line old new before after Done = (text : List ℕ) × HasRunAs grid members number line old new text Ended × (after ≡ before ++ text)
StopsAs grid members number line old new before after (ScriptRefused at why) =
    (at ≡ number) × ((text : List ℕ) × HasRunAs grid members number line old new text (Refused why) × (after ≡ before ++ text))
StopsAs grid members number line old new before after WriteFault = (ran : Ran) × (text : List ℕ) × HasRunAs grid members number line old new text ran × TakesFront before after text
StopsAs grid members number line old new before after Memory = HasFailed grid members line old new × (after ≡ before)
StopsAs grid members number line old new before after _ = ⊥

-- the last text was written, and this is the status; or a front of it, for a fault; or nothing, for want of memory
abbrev pub WritesLast : List ℕ → Status → List ℕ → List ℕ → Status → Type 0
WritesLast text ended before after WriteFault = TakesFront before after text
WritesLast text ended before after Memory = after ≡ before
WritesLast text ended before after status = (status ≡ ended) × (after ≡ before ++ text)

-- What was run and written is what the status says, of each script that begins with what was read of the source and may go on so
pub record HasServed (grid : LiveGrid) (members : ℕ) (status : Status) (first now : Given) (before after : List ℕ) (old new : GridPass) : Type 0 where
  pub written : List ℕ
  pub written_is : after ≡ before ++ written
  pub script : IsOfScript first now (λ script read. ServesAs grid members script old new status read written)

-- Where the script was in memory, and was read from its begin on, all this is said of that very script
abbrev pub EveryScriptInMemoryIsServed : Type 0
EveryScriptInMemoryIsServed = (grid : LiveGrid) (members : ℕ) (status : Status) (reads : ℕ) (first now : Input) (before after : List ℕ) (old new : GridPass)
    → 0 < first.most → first.given.ended ≡ false → HasReadOn reads first now → HasServed grid members status first.given now.given before after old new
    → (read written : List ℕ) × (first.left ≡ read ++ now.left) × (after ≡ before ++ written) × ServesAs grid members first.left old new status read written
