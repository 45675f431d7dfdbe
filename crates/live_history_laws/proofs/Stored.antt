-- What is stored of an object is what its history leaves.
use Rattle.std.proofs.Common.{◌≡◌, ℕ, ◌≤◌, true, false, List, [], ◌∷◌, map, Some, None, refl, sym, ap, ◌∙◌, arith, true≢false}
use Rattle.std.specs.Option.{option_and_then}
use Rattle.grid_base.specs.declared.names.ObjectKey.{ObjectKey}
use Rattle.grid_base.specs.declared.calls.Request.{Request}
use Rattle.object_store.specs.Records.{nothing_of}
use Rattle.object_store.specs.Partitions.{nothing_stored, record_at}
use Rattle.object_store.proofs.PartitionLaws.{record_at-nothing}
use Rattle.partition_table.specs.declared.Row.{Row}
use Rattle.partition_table.specs.declared.RowMember.{RowMember}
use Rattle.partition_table.specs.Rows.{first_of, is_empty}
use Rattle.partition_protocol.proofs.LostRows.{every_row_is_lost_if_empty}
use Rattle.partition_world.specs.declared.event.Event.{Event}
use Rattle.partition_world.specs.Events.{event_of}
use Rattle.live_grid.specs.declared.plan.GridPlan.{GridPlan}
use Rattle.live_grid.specs.Plans.{settings_for}
use Rattle.live_grid.specs.Histories.{cells}
use Rattle.live_grid.specs.Stored.{something_of, stored_at, stored_in}
use Rattle.live_history_laws.specs.Entries.{trail_of}
use Rattle.live_history_laws.specs.Leaving.{left_of, HasBegun}
use Rattle.live_history_laws.specs.Reopenings.{reopened}
use Rattle.live_history_laws.proofs.Begun.{first_has_trail}
use Rattle.live_history_laws.proofs.Locality.{left_of_object}
use Rattle.live_history_laws.proofs.Released.{object}
use Rattle.live_history_laws.proofs.Unreopened.{never_reset}

none_first : (row : Row) → row.lost ≡ true → row.lost ≡ is_empty row.members → first_of row.members ≡ None
none_first row lost empty = go row.members (sym empty ∙ lost)
  where
    go : (rs : List RowMember) → is_empty rs ≡ true → first_of rs ≡ None
    go [] e = refl
    go (r ∷ rs) e = absurd (true≢false (sym e))

some_first : (row : Row) → row.lost ≡ false → row.lost ≡ is_empty row.members → (first : ℕ) × (first_of row.members ≡ Some first)
some_first row lost empty = go row.members (sym empty ∙ lost)
  where
    go : (rs : List RowMember) → is_empty rs ≡ false → (first : ℕ) × (first_of rs ≡ Some first)
    go [] e = absurd (true≢false e)
    go (r ∷ rs) e = (r.member, refl)

module _ (plan : GridPlan) (history : List (Event Request)) (name : ObjectKey) (some : 1 ≤ plan.members) where
  abbrev row : Row
  row = (cells plan history).service.row

  lost_if_empty : row.lost ≡ is_empty row.members
  lost_if_empty = (every_row_is_lost_if_empty (object plan) plan.partition plan.members plan.backups (map event_of history) some).newest

  pub nothing_lost : row.lost ≡ true → stored_in plan history name ≡ None
  nothing_lost lost = ap (option_and_then (stored_at plan history name)) (none_first row lost lost_if_empty)

  pub left_if_begun : (first : ℕ) → HasBegun plan history first → stored_in plan history name ≡ left_of plan history name
  left_if_begun first begun =
      ap (option_and_then (stored_at plan history name)) begun.leads
      ∙ ap (λ s. something_of (record_at s name)) (first_has_trail (object plan) plan.partition plan.members plan.backups (map event_of history) some first begun.leads begun.since)
      ∙ ap something_of (left_of_object (settings_for plan) name nothing_stored (nothing_of name) (trail_of plan history) (record_at-nothing name))

  pub left_if_unreopened : reopened plan history ≡ [] → row.lost ≡ false → stored_in plan history name ≡ left_of plan history name
  left_if_unreopened none still =
      let first = some_first row still lost_if_empty in
      left_if_begun first.0 (record { leads = first.1; since = let zero = never_reset plan history none in omega (arith, zero) })
