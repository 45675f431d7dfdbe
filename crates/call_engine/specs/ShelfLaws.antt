-- The laws of a shelf, for the partition of a grid.
-- They stand here since an `impl` takes the proofs of its laws from specs/ alone; so do the lemmas that they need.
use Rattle.std.proofs.Common.{◌≡◌, ◌≢◌, ℕ, true, List, Option, Some, None, is_some, Result, Ok, refl, ap, sym, ◌∙◌}
use Rattle.std.specs.Prelude.{option_map, if◌then◌else◌}
use Rattle.grid_base.specs.Objects.{IsSmall}
use Rattle.grid_base.specs.Names.{object_of}
use Rattle.grid_base.specs.declared.calls.GridCall.{GridCall}
use Rattle.grid_base.specs.declared.calls.GridCall.TheVariants as call
use Rattle.grid_base.specs.declared.calls.Request.{Request}
use Rattle.wire_parts.specs.declared.refusal.WireRefused.{WireRefused}
use Rattle.object_store.specs.declared.effects.Effect.{Effect}
use Rattle.object_store.specs.Records.{Record, suits}
use Rattle.object_store.specs.Partitions.{Partition, record_at, with_record}
use Rattle.object_store.specs.Effects.{after_effect}
use Rattle.object_store.specs.Spelling.{effect_bytes, snapshot_bytes}
use Rattle.object_store.specs.Reading.{effect_in, snapshot_in}
use Rattle.object_store.proofs.EffectLaws.{effect_again}
use Rattle.object_store.proofs.SnapshotLaws.{snapshot_again}
use Rattle.object_store.proofs.PartitionLaws.{record_at-suits, record_at-with, with_same_record}
use Rattle.call_engine.specs.Calls.{Settings, after}
use Rattle.call_engine.specs.Effects.{effect_on, effect_of, applied, applied_to}
use Rattle.call_engine.specs.Limits.{RequestFits, IsWithin}
use Rattle.call_engine.specs.Objects.{target_of, partition_object}
use Rattle.call_engine.specs.EffectLaws.{same_on, differs_on, Makes, made_on}
use Rattle.call_engine.specs.Within.{record_fits, is_spelled}

some_mapped : {X Y : Type 0} (f : X → Y) (o : Option X) → is_some o ≡ is_some (option_map f o)
some_mapped f None = refl
some_mapped f (Some x) = refl

pub changes_by_effect : (settings : Settings) (s : Partition) (r : Request) (now : ℕ) → (partition_object settings).changes s r now ≡ is_some (effect_of settings s r now)
changes_by_effect settings s r now = some_mapped effect_bytes (effect_on settings (record_at s (target_of r)) r.call now)

none_before : {X Y : Type 0} (f : X → Y) (o : Option X) → option_map f o ≡ None → o ≡ None
none_before f None e = refl
none_before f (Some x) e = cc

pub same_without_effect : (settings : Settings) (s : Partition) (r : Request) (now : ℕ) → effect_of settings s r now ≡ None → (partition_object settings).after s r now ≡ s
same_without_effect settings s r now e =
    let name = target_of r in
    ap (with_record s name) (same_on settings (record_at s name) r.call now (record_at-suits s name) (none_before effect_bytes (effect_on settings (record_at s name) r.call now) e))
    ∙ with_same_record s name

some_before : {X Y P : Type 0} (f : X → Y) (o : Option X) (y : Y) → option_map f o ≡ Some y → ((x : X) → o ≡ Some x → P) → P
some_before f None y e use_it = absurd cc
some_before f (Some x) y e use_it = use_it x refl

-- what a call leaves is of the kind of its object
after-suits : (settings : Settings) (kept : Record) (r : GridCall) (now : ℕ) → suits (object_of r) (after settings kept r now) ≡ true
after-suits settings kept (call.Map c) now = refl
after-suits settings kept (call.Queue c) now = refl

pub differs_by_effect : (settings : Settings) (s : Partition) (r : Request) (now : ℕ) (effect : List ℕ) → effect_of settings s r now ≡ Some effect → (partition_object settings).after s r now ≢ s
differs_by_effect settings s r now bytes e same =
    let name = target_of r in
    let kept = record_at s name in
    let next = after settings kept r.call now in
    let is_kept : next ≡ kept = sym (record_at-with s name next (after-suits settings kept r.call now)) ∙ ap (λ t. record_at t name) same in
    some_before effect_bytes (effect_on settings kept r.call now) bytes e
    (λ effect is. differs_on settings kept r.call now effect (record_at-suits s name) is is_kept)

applied_where_fits : (s : Partition) (effect : Effect) (t : Partition) (read : Result Effect WireRefused) → read ≡ Ok effect → Makes s effect t → applied_to s read ≡ Some t
applied_where_fits s effect t read is makes = ap (applied_to s) is ∙ ap (λ test. if test then Some (after_effect s effect) else None) makes.fits ∙ ap Some makes.made

applied_by : (s t : Partition) (made : Option Effect) (bytes : List ℕ) → ((effect : Effect) → made ≡ Some effect → Makes s effect t) → option_map effect_bytes made ≡ Some bytes → applied bytes s ≡ Some t
applied_by s t None bytes makes e = cc
applied_by s t (Some effect) bytes makes e =
    let same : effect_bytes effect ≡ bytes = cc in
    let it : Makes s effect t = makes effect refl in
    applied_where_fits s effect t (effect_in bytes) (ap effect_in (sym same) ∙ effect_again effect it.spelled) it

pub made_by_effect : (settings : Settings) (s : Partition) (r : Request) (now : ℕ) (bytes : List ℕ) → IsSmall IsWithin s → RequestFits r → effect_of settings s r now ≡ Some bytes → applied bytes s ≡ Some ((partition_object settings).after s r now)
made_by_effect settings s r now bytes small limits e =
    let name = target_of r in
    applied_by s ((partition_object settings).after s r now) (effect_on settings (record_at s name) r.call now) bytes
    (λ effect is. made_on settings s small.calls r.call now effect limits.0 limits.1 (record_fits small.calls s name small.made) is) e

pub one_spelling : (s t : Partition) → IsSmall IsWithin s → IsSmall IsWithin t → snapshot_bytes s ≡ snapshot_bytes t → s ≡ t
one_spelling s t s_small t_small e =
    let read : Ok s ≡ Ok t = sym (snapshot_again s (is_spelled s s_small)) ∙ ap snapshot_in e ∙ snapshot_again t (is_spelled t t_small) in
    cc
