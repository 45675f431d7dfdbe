-- What a cell is made for, in the words of the crates below.
use Rattle.std.specs.Prelude.{◌≡◌, ℕ, List, map}
use Rattle.entry_processors.specs.Forms.{form_of}
use Rattle.entry_processors.specs.declared.form.Form.{Form}
use Rattle.call_engine.specs.Calls.{Settings}
use Rattle.table_service.specs.Services.{Setup}
use Rattle.live_grid.specs.declared.plan.GridPlan.{GridPlan}

-- what processors of these forms and queues of that capacity mean to calls
abbrev pub settings_in : List Form → ℕ → Settings
settings_in forms capacity = record { forms = map form_of forms; capacity = capacity }

abbrev pub settings_for : GridPlan → Settings
settings_for plan = settings_in plan.forms.items plan.capacity

abbrev pub setup_for : GridPlan → Setup
setup_for plan = record { partition = plan.partition; members = plan.members; backups = plan.backups }

-- The plan is that of a partition of the grid of these members, backups, forms and capacity
pub record IsPlanOf (members backups : ℕ) (forms : List Form) (capacity : ℕ) (partition : ℕ) (plan : GridPlan) : Type 0 where
  pub partition_is : plan.partition ≡ partition
  pub members_are : plan.members ≡ members
  pub backups_are : plan.backups ≡ backups
  pub forms_are : plan.forms.items ≡ forms
  pub capacity_is : plan.capacity ≡ capacity
