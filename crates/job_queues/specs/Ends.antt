-- What contracts see of a parcel's ends.
use Rattle.std.specs.Prelude.{◌≡◌, ℕ, ◌+◌, min}
use Rattle.atomic_table.specs.Seated.{TableId}
use Rattle.crossbeam_queue.specs.Passes.{Pass, view}
use Rattle.job_queues.specs.declared.terms.ParcelSide.{ParcelSide}
use Rattle.job_queues.specs.declared.parcel.Done.{Done}
use Rattle.job_queues.specs.declared.parcel.Parcel.{Parcel}

-- of which parcel it is and on which side, and how often it found the parcel empty
pub record End (T P E O : Type 0) : Type 0 where
  pub parcel : TableId
  pub side : ParcelSide T P E O
  pub empty : ℕ

module _ {T P E O : Type 0} where
  abbrev pub end_of : Pass (Done T P E O) (ParcelSide T P E O) → ℕ → End T P E O
  end_of seat empty = record { parcel = seat.table_id; side = view seat; empty = empty }

  abbrev pub IsEndOf : Parcel T P E O → End T P E O → Type 0
  IsEndOf parcel end = end.parcel ≡ parcel.queue.table.shared.table_id

  -- an end of this parcel that hasn't looked
  abbrev pub new_end : Parcel T P E O → ParcelSide T P E O → End T P E O
  new_end parcel side = record { parcel = parcel.queue.table.shared.table_id; side = side; empty = 0 }

  -- its count of empty looks has risen
  abbrev pub after_empty_look : End T P E O → End T P E O
  after_empty_look end = record { parcel = end.parcel; side = end.side; empty = min (end.empty + 1) 18446744073709551615 }
