-- What a partition keeps: a finite map from its objects to what is kept of each, where nothing is kept of all others.
use Rattle.std.specs.Prelude.{◌≡◌, Bool, true, false, not, ◌&&◌, T, List, [], ◌∷◌, unwrap_or, refl, if◌then◌else◌}
use Rattle.std.proofs.Common.{sym, subst}
use Rattle.std.specs.List.{list_all}
use Rattle.std.specs.Ordering.{nat_cmp, ordering_then}
use Rattle.std.specs.declared.cmp.Ordering.{Ordering}
use Rattle.std.specs.declared.cmp.Ordering.TheVariants.{Less, Greater}
use Rattle.std.specs.Cmp.Lexicographic.{slice_cmp}
use Rattle.std.specs.FinMap as finite
use Rattle.grid_base.specs.declared.names.ObjectKey.{ObjectKey}
use Rattle.grid_base.specs.declared.names.ObjectKey.TheVariants.{Entry, Queue}
use Rattle.object_store.specs.Records.{Record, suits, is_nothing, nothing_of}

-- Entries come before queues, and each in the order of their names' bytes.
abbrev pub object_cmp : ObjectKey → ObjectKey → Ordering
object_cmp (Entry map key) (Entry map' key') = ordering_then (slice_cmp nat_cmp map map') (slice_cmp nat_cmp key key')
object_cmp (Queue name) (Queue name') = slice_cmp nat_cmp name name'
object_cmp (Entry map key) (Queue name) = Less
object_cmp (Queue name) (Entry map key) = Greater

-- an object with what is kept of it, which is of its kind, and something
abbrev pub is_kept : ObjectKey × Record → Bool
is_kept stored = suits stored.0 stored.1 && not (is_nothing stored.1)

pub record Partition : Type 0 where
  pub objects : finite.FinMap object_cmp Record
  pub kept : T (list_all is_kept (finite.entries objects))

-- each object with what is kept of it, in their order
abbrev pub stored_in : Partition → List (ObjectKey × Record)
stored_in s = finite.entries s.objects

-- what is kept of an object, which may be nothing
abbrev pub record_at : Partition → ObjectKey → Record
record_at s name = unwrap_or (finite.get s.objects name) (nothing_of name)

-- the partition that has these objects, where each of them is kept; else the one given
abbrev pub checked : (objects : finite.FinMap object_cmp Record) (b : Bool) → list_all is_kept (finite.entries objects) ≡ b → Partition → Partition
checked objects true e s = record { objects = objects; kept = subst T (sym e) tt }
checked objects false e s = s

-- the objects with a record that is kept, or without its object where there is nothing to keep
abbrev pub objects_with : Partition → ObjectKey → Record → finite.FinMap object_cmp Record
objects_with s name kept = if is_kept (name, kept) then finite.insert s.objects name kept else finite.remove s.objects name

-- The partition with that kept of an object. It has what `objects_with` has: each of those objects is kept.
abbrev pub with_record : Partition → ObjectKey → Record → Partition
with_record s name kept = checked (objects_with s name kept) _ refl s

abbrev pub nothing_stored : Partition
nothing_stored = record { objects = finite.from_sorted []; kept = subst (λ stored. T (list_all is_kept stored)) (sym (finite.entries-from_sorted object_cmp [] tt)) tt }

-- the partition that has all these; of an object that stands twice, what stands first
abbrev pub partition_of : List (ObjectKey × Record) → Partition
partition_of [] = nothing_stored
partition_of (stored ∷ more) = with_record (partition_of more) stored.0 stored.1
