-- What a line of a control script does to a live grid, and the text that it prints.
use Rattle.std.specs.Prelude.{◌≡◌, ℕ, ◌+◌, false, List, [], ◌∷◌, ◌++◌, Result, Ok, Err, codes}
use Rattle.hand_cell.specs.declared.stands.RunRefused.{RunRefused}
use Rattle.hand_cell.specs.declared.stands.RunRefused.TheVariants.{Memory as NoMemory, Exhausted}
use Rattle.partition_world.specs.declared.event.Happened.{Happened}
use Rattle.partition_world.specs.Events.{event_of, happened_of}
use Rattle.live_grid.specs.declared.grid.GridPass.{GridPass}
use Rattle.live_grid.specs.declared.grid.LiveGrid.{LiveGrid}
use Rattle.live_grid.specs.Control.{CameToAt, CameToInAll, IsPassOfGrid, HasControl}
use Rattle.replay_run.specs.Printing.{done_word, words_of, fate_words, refusal_words, ok_text, words_line}
use Rattle.live_control.specs.declared.orders.Order.{Order}
use Rattle.live_control.specs.declared.orders.Order.TheVariants.{Everywhere, In}
use Rattle.live_control.specs.declared.orders.Step.{Step}
use Rattle.live_control.specs.Orders.{order_in, is_end, event_of_step, event_of_fate}

-- what a line says whose event met a history at its limit
abbrev pub exhausted_words : List ℕ
exhausted_words = refusal_words (codes "exhausted")

-- of an event of one partition
abbrev pub step_words : Step → Result Happened RunRefused → List ℕ
step_words step (Ok happened) = words_of (done_word (event_of (event_of_step step))) (happened_of happened)
step_words step (Err why) = exhausted_words

-- of one in all partitions
abbrev pub everywhere_words : Result Happened RunRefused → List ℕ
everywhere_words (Ok happened) = fate_words (happened_of happened)
everywhere_words (Err why) = exhausted_words

-- the event didn't want for memory
abbrev pub HadMemory : Result Happened RunRefused → Type 0
HadMemory (Ok happened) = Unit {0}
HadMemory (Err (Exhausted events)) = Unit {0}
HadMemory (Err NoMemory) = ⊥

-- A pass of each cell of the grid, each of which may run an operator's events
pub record MayServe (grid : LiveGrid) (pass : GridPass) : Type 0 where
  pub of_grid : IsPassOfGrid grid pass
  pub control : HasControl pass

module _ (grid : LiveGrid) (old new : GridPass) where
  -- The order was carried out by the line with this number, and this is the line's text
  abbrev pub HasRun : ℕ → Order → List ℕ → Type 0
  HasRun number (Everywhere fate) text =
      (came : Result Happened RunRefused) × CameToInAll grid (event_of_fate fate) old new came × HadMemory came × (text ≡ words_line number (everywhere_words came))
  HasRun number (In partition step) text =
      (came : Result Happened RunRefused) × CameToAt grid (event_of_step step) old new partition came × HadMemory came × (text ≡ words_line number (step_words step came))
  HasRun number _ text = (new ≡ old) × (text ≡ ok_text number)

  -- The order was carried out as far as there was memory for its events; nothing is said of its text
  abbrev pub HasTried : Order → Type 0
  HasTried (Everywhere fate) = (came : Result Happened RunRefused) × CameToInAll grid (event_of_fate fate) old new came
  HasTried (In partition step) = (came : Result Happened RunRefused) × CameToAt grid (event_of_step step) old new partition came
  HasTried _ = new ≡ old

-- The line's order was carried out, and this is its text
pub record HasRunLine (grid : LiveGrid) (members number : ℕ) (line : List ℕ) (old new : GridPass) (order : Order) (text : List ℕ) : Type 0 where
  pub ordered : order_in members line ≡ Ok order
  pub ran : HasRun grid old new number order text

module _ (grid : LiveGrid) (members : ℕ) where
  -- A line of the script was run, which doesn't end it
  abbrev pub HasGoneOn : ℕ → List ℕ → GridPass → GridPass → List ℕ → Type 0
  HasGoneOn number line old new text = (order : Order) × HasRunLine grid members number line old new order text × (is_end order ≡ false)

  -- These lines were run, one after another, the first of them with this number, and this is their text
  abbrev pub HaveRun : ℕ → List (List ℕ) → GridPass → GridPass → List ℕ → Type 0
  HaveRun number [] old new text = (new ≡ old) × (text ≡ [])
  HaveRun number (line ∷ lines) old new text =
      (mid : GridPass) × (own rest : List ℕ) × HasGoneOn number line old mid own × HaveRun (number + 1) lines mid new rest × (text ≡ own ++ rest)
