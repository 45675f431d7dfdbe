-- The answers of executed calls in order of execution: first those that were released and not given out, then those that wait for the backups.
use Rattle.std.specs.Prelude.{ℕ, Bool, false, ◌==◌, ◌&&◌, List, [], ◌∷◌, ◌++◌}
use Rattle.std.specs.List.{list_any}
use Rattle.grid_base.specs.declared.names.CallId.{CallId}
use Rattle.partition_protocol.specs.Node.{Held, Node, is_released}
use Rattle.primary_hold.specs.declared.answer.CallAnswer.{CallAnswer}

pub record Answering : Type 0 where
  pub released : List CallAnswer
  pub held : List CallAnswer

-- the same, and how many more can be held without memory
pub record AnswerQueue : Type 0 where
  pub released : List CallAnswer
  pub held : List CallAnswer
  pub spare : ℕ

abbrev pub answering_of : AnswerQueue → Answering
answering_of queue = record { released = queue.released; held = queue.held }

abbrev pub all_of : Answering → List CallAnswer
all_of answers = answers.released ++ answers.held

-- what the protocol says of an answer that waits
abbrev pub held_of : CallAnswer → Held
held_of answer = record { conn = answer.id.conn; number = answer.id.number; seen = answer.seen }

-- the answer of that call waits
abbrev pub holds_call : CallId → List Held → Bool
holds_call id held = list_any (λ (h : Held). (h.conn == id.conn) && (h.number == id.number)) held

-- there is an answer, and the first one may be released
abbrev pub releases_first : Node → List Held → Bool
releases_first node [] = false
releases_first node (h ∷ hs) = is_released node h.seen
