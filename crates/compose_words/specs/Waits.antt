-- Calls that may wait, and the plain calls for which they stand.
use Rattle.std.specs.Prelude.{ℕ}
use Rattle.grid_base.specs.declared.calls.MapCall.{MapCall}
use Rattle.grid_base.specs.declared.calls.MapCall.TheVariants as calls
use Rattle.grid_base.specs.declared.calls.QueueCall.{QueueCall}
use Rattle.grid_base.specs.declared.calls.QueueCall.TheVariants as queue_calls
use Rattle.map_codecs.specs.Waits.{lock_wait_kind, put_wait_kind}
use Rattle.queue_codecs.specs.Waits.{offer_wait_kind, poll_wait_kind}
use Rattle.compose_words.specs.declared.saying.MapWait.{MapWait}
use Rattle.compose_words.specs.declared.saying.MapWait.TheVariants as map_waits
use Rattle.compose_words.specs.declared.saying.QueueWait.{QueueWait}
use Rattle.compose_words.specs.declared.saying.QueueWait.TheVariants as queue_waits

abbrev pub plain_of : MapWait → MapCall
plain_of (map_waits.Lock name key owner lease) = calls.TryLock name key owner lease
plain_of (map_waits.Put name key owner value ttl) = calls.Put name key owner value ttl

abbrev pub plain_of_queue : QueueWait → QueueCall
plain_of_queue (queue_waits.Offer name value) = queue_calls.Offer name value
plain_of_queue (queue_waits.Poll name) = queue_calls.Poll name

abbrev pub kind_of_map_wait : MapWait → ℕ
kind_of_map_wait (map_waits.Lock name key owner lease) = lock_wait_kind
kind_of_map_wait (map_waits.Put name key owner value ttl) = put_wait_kind

abbrev pub kind_of_queue_wait : QueueWait → ℕ
kind_of_queue_wait (queue_waits.Offer name value) = offer_wait_kind
kind_of_queue_wait (queue_waits.Poll name) = poll_wait_kind
