-- The numbers with which a client's request is refused, in the order in which they are looked at.
use Rattle.std.specs.Prelude.{ℕ}

-- the session
abbrev pub not_authenticated : ℕ
not_authenticated = 2

abbrev pub unknown_type : ℕ
unknown_type = 3

abbrev pub bad_call : ℕ
bad_call = 4

abbrev pub wrong_partition : ℕ
wrong_partition = 5

-- what a partition answers with its version, and want of memory
abbrev pub partition_lost : ℕ
partition_lost = 7

abbrev pub wrong_target : ℕ
wrong_target = 8

abbrev pub migrating : ℕ
migrating = 9

abbrev pub want_of_memory : ℕ
want_of_memory = 10

-- answers of an object
abbrev pub key_locked : ℕ
key_locked = 11

abbrev pub not_owner : ℕ
not_owner = 12

abbrev pub unknown_processor : ℕ
unknown_processor = 13
