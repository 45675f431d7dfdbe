-- The agreement of the machine's runs, at the calls.
use Rattle.std.proofs.Common.{◌≡◌, ℕ, zero, suc, ◌<◌, true, List, [], ◌∷◌, ◌++◌, length, Some, slice_get, refl, sym, subst, arith}
use Rattle.partition_protocol.specs.Sequences.{IsFrontOf}
use Rattle.partition_protocol.specs.World.{map_or}
use Rattle.masters_protocol.specs.Members.{Member}
use Rattle.masters_protocol.specs.Machine.{Masters as Machine, Event, is_live, run, start}
use Rattle.masters_protocol.specs.Claims.{IsSound, Agrees}
use Rattle.masters_protocol.proofs.Ranges.{is_below}
use Rattle.masters_protocol.proofs.Theorem.{every_run_agrees}
use Rattle.master_wire.specs.declared.decision.Decision.{Decision}
use Rattle.master_log.specs.declared.masters.Masters.{Masters}
use Rattle.master_log.specs.Standing.{size_of, run_of, StandsFor}
use Rattle.master_log.specs.Laws.{EveryListIsAFront, AtMostOneIsMaster}

pub some_at : {X : Type 0} (xs : List X) (m : ℕ) → m < length xs → (x : X) × (slice_get xs m ≡ Some x)
some_at [] m l = absurd (omega (arith, l))
some_at (x ∷ xs) zero l = (x, refl)
some_at (x ∷ xs) (suc m) l = some_at xs m (omega (arith, l))

pub is_sound : (masters : Masters) (events : List (Event Decision)) → StandsFor masters events → IsSound (run_of masters events)
is_sound masters events stands = (every_run_agrees (size_of masters) events [] stands.some stands.most).0

pub is_agreed : (old new : Masters) (before after : List (Event Decision)) → StandsFor old before → size_of new ≡ size_of old → Agrees (run_of old before) after (run_of new (before ++ after))
is_agreed old new before after stands same =
    subst (λ k. Agrees (run_of old before) after (run (start k) (before ++ after))) (sym same) (every_run_agrees (size_of old) before after stands.some stands.most).1

-- a live member has a state
pub live_member : (w : Machine Decision) → IsSound w → (m : ℕ) → is_live w m ≡ true → (n : Member Decision) × (slice_get w.members m ≡ Some n)
live_member w sound m live = some_at w.members m (let l = is_below w m live in let s = sound.whole in omega (arith, l, s))

pub every_list_is_a_front : EveryListIsAFront
every_list_is_a_front old new before after later = record {
  published = agreed.grows;
  logs = λ m live.
      let n = live_member (run_of new (before ++ after)) (is_sound new (before ++ after) later.second) m live in
      subst (λ o. IsFrontOf (run_of old before).published (map_or o [] (λ (x : Member Decision). x.log))) (sym n.1) (agreed.kept m n.0 (live, n.1));
}
  where
    agreed : Agrees (run_of old before) after (run_of new (before ++ after))
    agreed = is_agreed old new before after later.first later.size

pub at_most_one_is_master : AtMostOneIsMaster
at_most_one_is_master masters events stands m k n j lives other leads =
    let sound = is_sound masters events stands in
    (sound.lowest m k n j lives other leads, λ too. sound.one m k n j lives other leads too)
