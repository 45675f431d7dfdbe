-- Each map is one that the machine of a near client can go by.
use Rattle.std.proofs.Common.{◌≡◌, ℕ, Bool, true, false, nat_eq, List, Option, Some, None, is_some, refl, ap, sym, ◌∙◌}
use Rattle.std.specs.Option.{option_eq}
use Rattle.std.specs.Cmp.Lexicographic.{pointwise}
use Rattle.std.proofs.lemmas.Slice.Eq.{bytes_eq-Decides}
use Rattle.grid_base.specs.declared.calls.GridCall.{GridCall}
use Rattle.grid_base.specs.declared.calls.GridCall.TheVariants as call
use Rattle.grid_base.specs.declared.calls.Request.{Request}
use Rattle.object_store.specs.Records.{Record, entry_in}
use Rattle.object_store.specs.Partitions.{Partition, record_at}
use Rattle.call_engine.specs.Calls.{Settings}
use Rattle.call_engine.specs.Effects.{effect_of}
use Rattle.call_engine.specs.Objects.{target_of, partition_object}
use Rattle.call_engine.specs.ShelfLaws.{changes_by_effect, same_without_effect}
use Rattle.session_core.proofs.CallsAt.{below_partitions}
use Rattle.replay_run.specs.Changes.{change_between, change_by}
use Rattle.near_run_laws.specs.Maps.{key_changed, EveryMapIsKeyed}

same_value : (v : Option (List ℕ)) → option_eq (pointwise nat_eq) v v ≡ true
same_value None = refl
same_value (Some bytes) = (bytes_eq-Decides bytes bytes).1 refl

-- what stays as it was has no change
unchanged_between : (c : GridCall) (kept : Record) (now : ℕ) → change_between c kept kept now ≡ None
unchanged_between (call.Queue c) kept now = refl
unchanged_between (call.Map c) kept now = let e = same_value (entry_in kept).value in rw e refl

unchanged : (settings : Settings) (s : Partition) (r : Request) (now : ℕ) → (partition_object settings).changes s r now ≡ false → change_by (partition_object settings) s r now ≡ None
unchanged settings s r now e = ap (λ (t : Partition). change_between r.call (record_at s (target_of r)) (record_at t (target_of r)) now) (stays (effect_of settings s r now) refl (sym (changes_by_effect settings s r now) ∙ e)) ∙ unchanged_between r.call (record_at s (target_of r)) now
  where
    stays : (f : Option (List ℕ)) → effect_of settings s r now ≡ f → is_some (effect_of settings s r now) ≡ false → (partition_object settings).after s r now ≡ s
    stays None is none = same_without_effect settings s r now is
    stays (Some bytes) is none = absurd (let clash : is_some (Some bytes) ≡ false = ap is_some (sym is) ∙ none in cc)

pub every_map_is_keyed : EveryMapIsKeyed
every_map_is_keyed settings conn name client = (
  record {
    same = λ a b. bytes_eq-Decides a b;
    partition = below_partitions;
    effect = effect;
  },
  record { same = λ a b. bytes_eq-Decides a b; partition = λ key some. refl },
)
  where
    effect : (s : Partition) (r : Request) (now : ℕ) (k : List ℕ) → key_changed name (change_by (partition_object settings) s r now) ≡ Some k → (partition_object settings).changes s r now ≡ true
    effect s r now k e = by ((partition_object settings).changes s r now) refl
      where
        by : (b : Bool) → (partition_object settings).changes s r now ≡ b → b ≡ true
        by true is = refl
        by false is = absurd (let clash : None ≡ Some k = sym (ap (key_changed name) (unchanged settings s r now is)) ∙ e in cc)
