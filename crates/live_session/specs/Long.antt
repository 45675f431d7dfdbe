-- Which calls are left to a worker.
use Rattle.std.specs.Prelude.{ℕ, Bool, true, false, List, length, nat_lt}
use Rattle.grid_base.specs.declared.calls.GridCall.{GridCall}
use Rattle.grid_base.specs.declared.calls.GridCall.TheVariants.{Map, Queue}
use Rattle.grid_base.specs.declared.calls.MapCall.{MapCall}
use Rattle.grid_base.specs.declared.calls.MapCall.TheVariants.{Put, Set, PutIfAbsent, Replace, ReplaceIfSame, ExecuteOnKey, PutMaxIdle, SetMaxIdle}
use Rattle.grid_base.specs.declared.calls.QueueCall.{QueueCall}
use Rattle.grid_base.specs.declared.calls.QueueCall.TheVariants.{Offer}

-- the longest value with which a call is made where it is read
abbrev pub longest_made : ℕ
longest_made = 65536

abbrev pub is_long_value : List ℕ → Bool
is_long_value value = nat_lt longest_made (length value)

-- it runs a processor, or carries a long value
abbrev pub is_long_map : MapCall → Bool
is_long_map (ExecuteOnKey name key owner number argument) = true
is_long_map (Put name key owner value ttl) = is_long_value value
is_long_map (Set name key owner value ttl) = is_long_value value
is_long_map (PutIfAbsent name key owner value ttl) = is_long_value value
is_long_map (Replace name key owner value) = is_long_value value
is_long_map (ReplaceIfSame name key owner test value) = is_long_value value
is_long_map (PutMaxIdle name key owner value ttl idle) = is_long_value value
is_long_map (SetMaxIdle name key owner value ttl idle) = is_long_value value
is_long_map call = false

abbrev pub is_long_queue : QueueCall → Bool
is_long_queue (Offer name value) = is_long_value value
is_long_queue call = false

-- the call is known to take long
abbrev pub is_long : GridCall → Bool
is_long (Map call) = is_long_map call
is_long (Queue call) = is_long_queue call
