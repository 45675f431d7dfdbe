-- The lock of a key as one thread sees it.
use Rattle.std.specs.Prelude.{ℕ, ◌+◌, ◌-◌, Bool, true, false, nat_lt, nat_le, ◌==◌, ◌&&◌, Option, Some, None, if◌then◌else◌}
use Rattle.std.specs.Ordering.{int_eq}
use Rattle.grid_base.specs.declared.names.ClientKey.{ClientKey}
use Rattle.grid_base.specs.declared.names.ClientKey.TheVariants.{Known, OfConn}
use Rattle.grid_base.specs.declared.names.Owner.{Owner}
use Rattle.key_locks.specs.declared.locks.Lock.{Lock}
use Rattle.key_locks.specs.Ends.{has_ended}

abbrev pub is_same_client : ClientKey → ClientKey → Bool
is_same_client (Known a) (Known b) = a == b
is_same_client (OfConn a) (OfConn b) = a == b
is_same_client (Known a) (OfConn b) = false
is_same_client (OfConn a) (Known b) = false

-- An owner is a client with one of its threads.
abbrev pub is_same_owner : Owner → Owner → Bool
is_same_owner a b = is_same_client a.client b.client && int_eq a.thread b.thread

abbrev pub holder_of : Option Lock → Option Owner
holder_of None = None
holder_of (Some lock) = Some lock.owner

abbrev pub is_held_by : Option Lock → Owner → Bool
is_held_by None owner = false
is_held_by (Some lock) owner = is_same_owner lock.owner owner

-- A key may be written by all while it isn't locked, and then by the owner alone.
abbrev pub may_write : Option Lock → Owner → Bool
may_write None owner = true
may_write (Some lock) owner = is_same_owner lock.owner owner

-- The owner may lock a key again, up to 2,147,483,647 times in all.
abbrev pub may_lock : Option Lock → Owner → Bool
may_lock None owner = true
may_lock (Some lock) owner = is_same_owner lock.owner owner && nat_lt lock.count 2147483647

-- A lock begins with count 1. Each time that its owner takes it again it counts one more, and has the new end.
abbrev pub after_try_lock : Option Lock → Owner → Option ℕ → Option Lock
after_try_lock None owner until = Some (record { owner = owner; count = 1; until = until })
after_try_lock (Some lock) owner until = if may_lock (Some lock) owner then Some (record lock { count = lock.count + 1; until = until }) else Some lock

-- The owner's unlock counts one less. The lock goes with its last count.
abbrev pub after_unlock : Option Lock → Owner → Option Lock
after_unlock None owner = None
after_unlock (Some lock) owner = if is_same_owner lock.owner owner then one_less lock else Some lock
  where
    one_less : Lock → Option Lock
    one_less held = if nat_le held.count 1 then None else Some (record held { count = held.count - 1 })

-- A lock whose lease has ended is none.
abbrev pub cleaned : Option Lock → ℕ → Option Lock
cleaned None now = None
cleaned (Some lock) now = if has_ended lock.until now then None else Some lock
