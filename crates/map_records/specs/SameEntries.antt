-- When two records of an entry are one.
use Rattle.std.specs.Prelude.{Bool, ◌&&◌, ◌==◌, nat_eq}
use Rattle.std.specs.Option.{option_eq}
use Rattle.std.specs.Cmp.Lexicographic.{pointwise}
use Rattle.key_locks.specs.declared.locks.Lock.{Lock}
use Rattle.key_locks.specs.Locks.{is_same_owner}
use Rattle.map_records.specs.declared.records.Idle.{Idle}
use Rattle.map_records.specs.declared.records.MapRecord.{MapRecord}

-- Two records of an entry are the same where each of their parts is.

abbrev pub is_same_idle : Idle → Idle → Bool
is_same_idle a b = (a.span == b.span) && (a.end == b.end)

abbrev pub is_same_lock : Lock → Lock → Bool
is_same_lock a b = is_same_owner a.owner b.owner && (a.count == b.count) && option_eq nat_eq a.until b.until

abbrev pub is_same_entry : MapRecord → MapRecord → Bool
is_same_entry a b = option_eq (pointwise nat_eq) a.value b.value && option_eq nat_eq a.expires b.expires && option_eq is_same_idle a.idle b.idle && option_eq is_same_lock a.lock b.lock
