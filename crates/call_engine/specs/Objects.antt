-- The objects of a grid: one of them used by one thread, and a partition, which has many.
use Rattle.std.specs.Prelude.{ℕ, List, is_some}
use Rattle.grid_base.specs.Objects.{Object}
use Rattle.grid_base.specs.Names.{object_of}
use Rattle.grid_base.specs.declared.names.ObjectKey.{ObjectKey}
use Rattle.grid_base.specs.declared.calls.Request.{Request}
use Rattle.fixed_fields.specs.Replies.{reply_bytes}
use Rattle.object_store.specs.Records.{Record, nothing_of}
use Rattle.object_store.specs.Partitions.{Partition, nothing_stored, record_at, with_record}
use Rattle.call_engine.specs.Calls.{Settings, answer, after}
use Rattle.call_engine.specs.Effects.{effect_on}

-- the object that a request is on
abbrev pub target_of : Request → ObjectKey
target_of r = object_of r.call

abbrev pub reply_to : Settings → Record → Request → ℕ → List ℕ
reply_to settings kept r now = reply_bytes r.kind r.correlation (answer settings kept r.call now)

-- One object, used by one thread: nothing is kept at first.
abbrev pub one_object : Settings → ObjectKey → Object Request Record
one_object settings name = record {
  empty = nothing_of name;
  reply = λ kept r now. reply_to settings kept r now;
  after = λ kept r now. after settings kept r.call now;
  changes = λ kept r now. is_some (effect_on settings kept r.call now);
}

-- A call is on one object of a partition, and leaves the others.
abbrev pub partition_object : Settings → Object Request Partition
partition_object settings = record {
  empty = nothing_stored;
  reply = λ s r now. reply_to settings (record_at s (target_of r)) r now;
  after = λ s r now. with_record s (target_of r) (after settings (record_at s (target_of r)) r.call now);
  changes = λ s r now. is_some (effect_on settings (record_at s (target_of r)) r.call now);
}
