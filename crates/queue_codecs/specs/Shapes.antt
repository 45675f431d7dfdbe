-- Which call a queue's name makes.
use Rattle.std.specs.Prelude.{ℕ, List}
use Rattle.grid_base.specs.declared.calls.QueueCall.{QueueCall}
use Rattle.grid_base.specs.declared.calls.QueueCall.TheVariants as call
use Rattle.queue_codecs.specs.declared.calls.Named.{Named}
use Rattle.queue_codecs.specs.declared.calls.Named.TheVariants.{Size, Poll, Peek, Clear, RemainingCapacity}

abbrev pub named_call : Named → List ℕ → QueueCall
named_call Size = call.Size
named_call Poll = call.Poll
named_call Peek = call.Peek
named_call Clear = call.Clear
named_call RemainingCapacity = call.RemainingCapacity
