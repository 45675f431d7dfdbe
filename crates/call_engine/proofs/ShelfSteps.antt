-- What a shelf has after an effect was read and put, and after a snapshot was read.
use Rattle.std.proofs.Common.{◌≡◌, ℕ, ◌+◌, ◌<◌, Bool, true, false, List, Some, None, Result, Ok, Err, OnOk, is_some, refl, sym, ap, subst, ◌∙◌}
use Rattle.std.specs.Prelude.{◌^◌, if◌then◌else◌}
use Rattle.grid_base.specs.Objects.{IsSmall}
use Rattle.grid_base.specs.declared.calls.Request.{Request}
use Rattle.object_store.specs.declared.effects.Effect.{Effect}
use Rattle.object_store.specs.Partitions.{Partition}
use Rattle.object_store.specs.Effects.{fits, after_effect}
use Rattle.object_store.specs.Spelling.{snapshot_bytes}
use Rattle.object_store.specs.Reading.{effect_in, snapshot_in}
use Rattle.object_store.proofs.SnapshotLaws.{snapshot_again}
use Rattle.call_engine.specs.Calls.{Settings}
use Rattle.call_engine.specs.Effects.{effect_of, applied, applied_to}
use Rattle.call_engine.specs.Limits.{RequestFits, IsWithin}
use Rattle.call_engine.specs.Objects.{partition_object}
use Rattle.call_engine.specs.ShelfLaws.{made_by_effect}
use Rattle.call_engine.specs.Within.{grows_within, is_spelled}

-- a read effect that is some partition's fits it, and makes that partition
made_where_fits : (s : Partition) (effect : Effect) → is_some (applied_to s (Ok effect)) ≡ true → applied_to s (Ok effect) ≡ Some (after_effect s effect)
made_where_fits s effect e = go (fits s effect) e
  where
    go : (test : Bool) → is_some (if test then Some (after_effect s effect) else None) ≡ true → (if test then Some (after_effect s effect) else None) ≡ Some (after_effect s effect)
    go true is = refl
    go false is = cc

pub applied_where_put : {X E : Type 0} (s before t : Partition) (bytes shown : List ℕ) (effect : Effect) (put : Result X E) → before ≡ s → shown ≡ bytes → effect_in shown ≡ Ok effect → is_some (applied bytes s) ≡ true → OnOk put (t ≡ after_effect before effect) → OnOk put (applied bytes s ≡ Some t)
applied_where_put s before t bytes shown effect (Err e) view same read is put = tt
applied_where_put s before t bytes shown effect (Ok x) view same read is put =
    let reads : effect_in bytes ≡ Ok effect = sym (ap effect_in same) ∙ read in
    let some : is_some (applied_to s (Ok effect)) ≡ true = sym (ap (λ found. is_some (applied_to s found)) reads) ∙ is in
    ap (applied_to s) reads ∙ made_where_fits s effect some ∙ ap (λ old. Some (after_effect old effect)) (sym view) ∙ ap Some (sym put)

pub installed : (s t : Partition) (bytes shown : List ℕ) → shown ≡ bytes → snapshot_in shown ≡ Ok t → IsSmall IsWithin s → snapshot_bytes s ≡ bytes → t ≡ s
installed s t bytes shown same read small is =
    let both : Ok t ≡ Ok s = sym read ∙ ap snapshot_in (same ∙ sym is) ∙ snapshot_again s (is_spelled s small) in
    cc

-- what so few calls made, and what one call more makes of it

pub is_small : (calls : ℕ) (s : Partition) → calls < 2 ^ 32 → IsWithin calls s → IsSmall IsWithin s
is_small calls s few within = record { calls = calls; few = few; made = within }

pub own_effect_fits : (settings : Settings) (s : Partition) (r : Request) (now : ℕ) (effect : List ℕ) → IsSmall IsWithin s → RequestFits r → Some effect ≡ effect_of settings s r now → is_some (applied effect s) ≡ true
own_effect_fits settings s r now effect small limits e = ap is_some (made_by_effect settings s r now effect small limits (sym e))

pub one_call_more : (settings : Settings) (calls : ℕ) (s t : Partition) (r : Request) (now : ℕ) (effect : List ℕ) → calls < 2 ^ 32 → IsWithin calls s → RequestFits r → Some effect ≡ effect_of settings s r now → applied effect s ≡ Some t → IsWithin (calls + 1) t
one_call_more settings calls s t r now effect few within limits e is =
    let made = made_by_effect settings s r now effect (is_small calls s few within) limits (sym e) in
    let same : Some ((partition_object settings).after s r now) ≡ Some t = sym made ∙ is in
    let after : (partition_object settings).after s r now ≡ t = cc in
    subst (IsWithin (calls + 1)) after (grows_within settings calls s r now limits within)
