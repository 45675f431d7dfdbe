-- The codes by which Rattle tells two partitions apart.
use Rattle.std.specs.Prelude.{◌≡◌, ℕ, ℤ, ◌⊎◌, T, List, Option, refl}
use Rattle.std.specs.List.{list_all}
use Rattle.std.specs.Coded.{Coded, code_by, coded_ℕ, coded_ℤ, coded_list, coded_option, coded×, coded⊎}
use Rattle.std.specs.FinMap as finite
use mathlib.Core.Logic.{inl, inr}
use mathlib.Core.HLevel.{Σ_prop_path}
use lib.Dec.{T_prop}
use base.Stored.{coded_via}
use Rattle.grid_base.specs.declared.names.ClientKey.{ClientKey}
use Rattle.grid_base.specs.declared.names.ClientKey.TheVariants.{Known, OfConn}
use Rattle.grid_base.specs.declared.names.Owner.{Owner}
use Rattle.grid_base.specs.declared.names.ObjectKey.{ObjectKey}
use Rattle.grid_base.specs.declared.names.ObjectKey.TheVariants as object
use Rattle.key_locks.specs.declared.locks.Lock.{Lock}
use Rattle.map_records.specs.declared.records.Idle.{Idle}
use Rattle.map_records.specs.declared.records.MapRecord.{MapRecord}
use Rattle.object_store.specs.Records.{Record, Map, Queue}
use Rattle.object_store.specs.Partitions.{Partition, object_cmp, is_kept, stored_in}

-- what is kept of an object

abbrev pub client_parts : ClientKey → ℕ ⊎ ℕ
client_parts (Known client) = inl client
client_parts (OfConn conn) = inr conn

abbrev pub client_of_parts : ℕ ⊎ ℕ → ClientKey
client_of_parts (inl client) = Known client
client_of_parts (inr conn) = OfConn conn

pub client_again : (client : ClientKey) → client_of_parts (client_parts client) ≡ client
client_again (Known client) = refl
client_again (OfConn conn) = refl

abbrev pub client_code : Coded ClientKey
client_code = code_by (ℕ ⊎ ℕ) (coded⊎ coded_ℕ coded_ℕ) client_parts client_of_parts client_again

abbrev pub owner_code : Coded Owner
owner_code = code_by (ClientKey × ℤ) (coded× client_code coded_ℤ) (λ owner. (owner.client, owner.thread)) (λ parts. record { client = parts.0; thread = parts.1 }) (λ _. refl)

abbrev pub lock_code : Coded Lock
lock_code = code_by (Owner × (ℕ × Option ℕ)) (coded× owner_code (coded× coded_ℕ (coded_option coded_ℕ)))
    (λ lock. (lock.owner, (lock.count, lock.until))) (λ parts. record { owner = parts.0; count = parts.1.0; until = parts.1.1 }) (λ _. refl)

abbrev pub idle_code : Coded Idle
idle_code = code_by (ℕ × ℕ) (coded× coded_ℕ coded_ℕ) (λ idle. (idle.span, idle.end)) (λ parts. record { span = parts.0; end = parts.1 }) (λ _. refl)

abbrev pub entry_code : Coded MapRecord
entry_code = code_by (Option (List ℕ) × (Option ℕ × (Option Idle × Option Lock)))
    (coded× (coded_option (coded_list coded_ℕ)) (coded× (coded_option coded_ℕ) (coded× (coded_option idle_code) (coded_option lock_code))))
    (λ entry. (entry.value, (entry.expires, (entry.idle, entry.lock))))
    (λ parts. record { value = parts.0; expires = parts.1.0; idle = parts.1.1.0; lock = parts.1.1.1 }) (λ _. refl)

abbrev pub record_parts : Record → MapRecord ⊎ List (List ℕ)
record_parts (Map entry) = inl entry
record_parts (Queue items) = inr items

abbrev pub record_of_parts : MapRecord ⊎ List (List ℕ) → Record
record_of_parts (inl entry) = Map entry
record_of_parts (inr items) = Queue items

pub record_again : (kept : Record) → record_of_parts (record_parts kept) ≡ kept
record_again (Map entry) = refl
record_again (Queue items) = refl

abbrev pub record_code : Coded Record
record_code = code_by (MapRecord ⊎ List (List ℕ)) (coded⊎ entry_code (coded_list (coded_list coded_ℕ))) record_parts record_of_parts record_again

-- the names of objects

abbrev pub name_parts : ObjectKey → (List ℕ × List ℕ) ⊎ List ℕ
name_parts (object.Entry map key) = inl (map, key)
name_parts (object.Queue name) = inr name

abbrev pub name_of_parts : (List ℕ × List ℕ) ⊎ List ℕ → ObjectKey
name_of_parts (inl names) = object.Entry names.0 names.1
name_of_parts (inr name) = object.Queue name

pub name_again : (name : ObjectKey) → name_of_parts (name_parts name) ≡ name
name_again (object.Entry map key) = refl
name_again (object.Queue name) = refl

abbrev pub name_code : Coded ObjectKey
name_code = code_by ((List ℕ × List ℕ) ⊎ List ℕ) (coded⊎ (coded× (coded_list coded_ℕ) (coded_list coded_ℕ)) (coded_list coded_ℕ)) name_parts name_of_parts name_again

-- A partition is what is stored in it.

pub same_objects : (s t : Partition) → s.objects ≡ t.objects → s ≡ t
same_objects s t e =
    let pairs : ◌≡◌ {A = (objects : finite.FinMap object_cmp Record) × T (list_all is_kept (finite.entries objects))} (s.objects, s.kept) (t.objects, t.kept) = Σ_prop_path (λ objects. T_prop _) e in
    λ i. record { objects = (pairs i).0; kept = (pairs i).1 }

pub same_stored : (s t : Partition) → stored_in s ≡ stored_in t → s ≡ t
same_stored s t e = same_objects s t (finite.same_entries_map s.objects t.objects e)

abbrev pub partition_code : Coded Partition
partition_code = coded_via (coded_list (coded× name_code record_code)) stored_in same_stored
