-- `mflow`, message after message, as its loop takes it.
use Rattle.std.proofs.Common.{◌≡◌, ℕ, zero, suc, ◌+◌, ◌-◌, ◌<◌, ◌≤◌, List, [], ◌++◌, Some, None, refl, ap, sym, ◌∙◌, append-nil, arith}
use Rattle.grid_base.specs.Objects.{Object}
use Rattle.grid_base.specs.declared.calls.Request.{Request}
use Rattle.object_store.specs.Partitions.{Partition}
use Rattle.call_engine.specs.Calls.{Settings}
use Rattle.call_engine.specs.Objects.{partition_object}
use Rattle.partition_world.specs.declared.Link.{Link}
use Rattle.line_told.specs.declared.told.Told.{Told}
use Rattle.replay_run.specs.Grids.{FormOf}
use Rattle.masters_run.specs.declared.grid.RuledGrid.{RuledGrid}
use Rattle.masters_run.specs.Runs.{RuledRun, masters_at, link_between, handing_over}
use Rattle.masters_run.specs.LineTold.{followed_each}
use Rattle.masters_run.specs.Printing.{handed_over}
use Rattle.masters_run.specs.Steps.{IsAmid, Tellings, HasGoneOn, GivesUp, going, following, handing, HasFlowedBetween}
use Rattle.masters_run.proofs.RuledGrowing.{between_goes}
use Rattle.masters_run.proofs.SkippedTold.{handed_alike}
use Rattle.masters_run.proofs.Composing.{TellsBy, gone_further, gives_up_then, gives_up_first, gone_nowhere, SameSteps, gone_at, gone_as, up_as}
use Rattle.masters_run.proofs.Loops.{between_run, between_none, handed_none, each_none, between_parts, between_one}

abbrev pub saying : Settings → RuledRun → ℕ → ℕ → Tellings
saying settings s p n skips = followed_each (partition_object settings) skips s p n

-- So many messages between masters were handed over.
pub record HasHandedOver {V : Type 0} {T : V → Type 0} (form : FormOf V T) (settings : Settings) (grid : RuledGrid V T) (s : RuledRun) (p number : ℕ) (earlier later : List Told) : Type 0 where
  pub on : HasGoneOn form settings grid s (handing settings s p number) (saying settings s p number) earlier later
  pub count : handed_over (partition_object settings) on.skips s p number ≡ number

pub none_handed : {V : Type 0} {T : V → Type 0} {form : FormOf V T} {settings : Settings} (grid : RuledGrid V T) (s : RuledRun) (p : ℕ) (later : List Told) → IsAmid form settings grid s → HasHandedOver form settings grid s p 0 later later
none_handed grid s p later amid = record { on = gone_nowhere grid s later amid; count = refl }

module _ (settings : Settings) (s : RuledRun) (p : ℕ) where
  abbrev o : Object Request Partition
  o = partition_object settings

  so_tells : (x : RuledRun) (n : ℕ) → TellsBy x (handing settings x p n) (saying settings x p n)
  so_tells x n = record { by = between_goes o x p n; alike = λ k t agree. (handed_alike settings k t n x p agree).told }

  so_parts : (a b all : ℕ) → a + b ≡ all → SameSteps (λ k. handing settings (handing settings s p a k) p b k) (handing settings s p all) (λ k. saying settings s p a k ++ saying settings (handing settings s p a k) p b k) (saying settings s p all)
  so_parts a b all e = record { leads = λ k. sym (between_parts o k s p a b all e).leads; says = λ k. sym (between_parts o k s p a b all e).says }

  -- the next one, by the link that comes first
  next_same : (x : RuledRun) (l : Link) → link_between (masters_at x p) ≡ Some l → SameSteps (going settings x p (handing_over l)) (handing settings x p (suc zero)) (following settings x p (handing_over l)) (saying settings x p (suc zero))
  next_same x l some = record { leads = λ k. sym (between_one o k x p l some).leads; says = λ k. sym (between_one o k x p l some).says }

  module _ {V : Type 0} {T : V → Type 0} {form : FormOf V T} (mid : RuledGrid V T) (number : ℕ) (earlier so_far : List Told) (did : HasHandedOver form settings mid s p number earlier so_far) where
    -- the run by then
    abbrev pub handed_by_then : RuledRun
    handed_by_then = handing settings s p number did.on.skips

    -- All of them were, or no message is left.

    pub all_handed : HasFlowedBetween form settings mid s p number number earlier so_far
    all_handed = record { on = did.on; handed = did.count }

    pub none_left : link_between (masters_at handed_by_then p) ≡ None → (most : ℕ) → number ≤ most → HasFlowedBetween form settings mid s p most number earlier so_far
    none_left none most below =
        let k = did.on.skips in
        let parts = between_parts o k s p number (most - number) most (omega (arith, below)) in
        let on = gone_at {other = handing settings s p most} {also = saying settings s p most} did.on
        (sym (parts.leads ∙ between_none o k handed_by_then p (most - number) none))
        (sym (parts.says ∙ ap (λ xs. saying settings s p number k ++ xs) (each_none o k handed_by_then p (most - number) none) ∙ append-nil (saying settings s p number k))) in
        let rest = handed_none o k handed_by_then p (most - number) none in
        let both = parts.handed in
        let before = did.count in
        record { on = on.0; handed = ap (λ x. handed_over o x s p most) on.1 ∙ omega (arith, both, rest, before) }

    module _ (l : Link) (some : link_between (masters_at handed_by_then p) ≡ Some l) where
      -- One more is handed over.
      pub one_handed : (new : RuledGrid V T) (later : List Told) → HasGoneOn form settings new handed_by_then (going settings handed_by_then p (handing_over l)) (following settings handed_by_then p (handing_over l)) so_far later
          → HasHandedOver form settings new s p (number + 1) earlier later
      one_handed new later b =
          let step = (gone_as (next_same handed_by_then l some) b).0 in
          let whole = gone_further settings s (handing settings s p number) (λ x. handing settings x p (suc zero)) (saying settings s p number) (λ x. saying settings x p (suc zero)) (so_tells s number) (λ x. so_tells x (suc zero)) mid new earlier so_far later did.on step in
          let parts = so_parts number (suc zero) (number + 1) (omega arith) in
          let all = gone_as parts whole.on in
          let k = whole.on.skips in
          let there : link_between (masters_at (handing settings s p number k) p) ≡ Some l = ap (λ (x : RuledRun). link_between (masters_at x p)) whole.same.first_same ∙ some in
          let before = sym (handed_alike settings did.on.skips k number s p whole.same.agrees).handed ∙ did.count in
          let one = (between_one o k (handing settings s p number k) p l there).handed in
          let both = (between_parts o k s p number (suc zero) (number + 1) (omega arith)).handed in
          record { on = all.0; count = ap (λ x. handed_over o x s p (number + 1)) all.1 ∙ omega (arith, both, one, before) }

      -- or the run is given up at it
      pub gives_up_at : (most : ℕ) → number < most → GivesUp handed_by_then (going settings handed_by_then p (handing_over l)) → GivesUp s (handing settings s p most)
      gives_up_at most below up =
          let rest = most - suc number in
          let one = up_as (next_same handed_by_then l some).leads up in
          let far = up_as (λ k. sym (between_parts o k handed_by_then p (suc zero) rest (suc rest) (omega arith)).leads)
          (gives_up_first settings handed_by_then (handing settings handed_by_then p (suc zero)) (λ x. handing settings x p rest) (saying settings handed_by_then p (suc zero)) (λ x. saying settings x p rest) (so_tells handed_by_then (suc zero)) (λ x. so_tells x rest) one) in
          up_as (so_parts number (suc rest) most (omega (arith, below))).leads
          (gives_up_then settings s (handing settings s p number) (λ x. handing settings x p (suc rest)) (saying settings s p number) (λ x. saying settings x p (suc rest)) (so_tells s number) (λ x. so_tells x (suc rest)) mid mid earlier so_far [] did.on far
          (λ t. between_run o t handed_by_then p (suc rest) did.on.amid.grid.run))
