-- What a call does to what is kept of its object.
use Rattle.std.specs.Prelude.{ℕ, List}
use Rattle.grid_base.specs.declared.calls.Answer.{Answer}
use Rattle.grid_base.specs.declared.calls.GridCall.{GridCall}
use Rattle.grid_base.specs.declared.calls.GridCall.TheVariants as call
use Rattle.entry_processors.specs.Processors.{ProcessorForm}
use Rattle.map_records.specs.MapTable as entries
use Rattle.queue_records.specs.Queues as queues
use Rattle.object_store.specs.Records.{Record, Map, Queue, entry_in, items_in}

-- what objects go by: the processors that a grid has, and how many values its queues may have
pub record Settings : Type 0 where
  pub forms : List ProcessorForm
  pub capacity : ℕ

abbrev pub answer : Settings → Record → GridCall → ℕ → Answer
answer settings kept (call.Map c) now = entries.answer settings.forms (entry_in kept) c now
answer settings kept (call.Queue c) now = queues.answer (items_in kept) c settings.capacity

abbrev pub after : Settings → Record → GridCall → ℕ → Record
after settings kept (call.Map c) now = Map (entries.after settings.forms (entry_in kept) c now)
after settings kept (call.Queue c) now = Queue (queues.after (items_in kept) c settings.capacity)
