-- A map entry as one thread sees it: a value, an expiry, an idle span with its end, and a lock, each of them or none.
use Rattle.std.specs.Prelude.{ℕ, Bool, false, ◌||◌, List, nat_eq, Option, Some, None, is_some, if◌then◌else◌}
use Rattle.std.specs.Option.{option_map}
use Rattle.std.specs.Cmp.Lexicographic.{pointwise}
use Rattle.key_locks.specs.declared.locks.Lock.{Lock}
use Rattle.key_locks.specs.Ends.{has_ended}
use Rattle.key_locks.specs.Locks.{cleaned as cleaned_lock}
use Rattle.map_records.specs.declared.records.Idle.{Idle}
use Rattle.map_records.specs.declared.records.MapRecord.{MapRecord}
use Rattle.map_records.specs.Idling.{has_idled, used}

-- at first, and again where nothing is kept
abbrev pub empty_entry : MapRecord
empty_entry = record { value = None; expires = None; idle = None; lock = None }

-- A value has expired from its expiry moment on, and from its idle end on.
abbrev pub is_expired : MapRecord → ℕ → Bool
is_expired entry now = has_ended entry.expires now || has_idled entry.idle now

-- A value that goes takes its expiry and its idle span along. The lock stays.
abbrev pub without_value : MapRecord → MapRecord
without_value entry = record { value = None; expires = None; idle = None; lock = entry.lock }

abbrev pub with_lock : MapRecord → Option Lock → MapRecord
with_lock entry lock = record entry { lock = lock }

-- What has ended by now is removed, before a call looks at anything.
abbrev pub cleaned : MapRecord → ℕ → MapRecord
cleaned entry now = with_lock (if is_expired entry now then without_value entry else entry) (cleaned_lock entry.lock now)

-- A value that is set has its own expiry and idle span, or none.
abbrev pub with_value : MapRecord → List ℕ → Option ℕ → Option Idle → MapRecord
with_value entry value expires idle = record { value = Some value; expires = expires; idle = idle; lock = entry.lock }

abbrev pub with_value_if_absent : MapRecord → List ℕ → Option ℕ → MapRecord
with_value_if_absent entry value expires = if is_some entry.value then entry else with_value entry value expires None

-- A value in the place of another keeps the expiry and the idle span. Where there is none, nothing changes.
abbrev pub replaced : MapRecord → List ℕ → MapRecord
replaced entry value = record entry { value = option_map (λ old. value) entry.value }

abbrev pub is_value : Option (List ℕ) → List ℕ → Bool
is_value None test = false
is_value (Some value) test = pointwise nat_eq value test

abbrev pub replaced_if_same : MapRecord → List ℕ → List ℕ → MapRecord
replaced_if_same entry test value = if is_value entry.value test then replaced entry value else entry

abbrev pub removed_if_same : MapRecord → List ℕ → MapRecord
removed_if_same entry test = if is_value entry.value test then without_value entry else entry

-- What a processor leaves takes the value's place. It has no expiry and no idle span where there was none.
abbrev pub with_outcome : MapRecord → Option (List ℕ) → MapRecord
with_outcome entry None = without_value entry
with_outcome entry (Some value) = if is_some entry.value then replaced entry value else with_value entry value None None

-- A use of the entry begins its idle span anew, where it has one.
abbrev pub touched : MapRecord → ℕ → MapRecord
touched entry now = record entry { idle = used entry.idle now }
