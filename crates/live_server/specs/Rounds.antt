-- What a round of a server comes to.
use Rattle.std.specs.Prelude.{◌≡◌, ℕ, Result, IfOk}
use Rattle.grid_edge.specs.Faults.{HasCause}
use Rattle.grid_edge.specs.declared.doors.DoorFault.{DoorFault}
use Rattle.slab.specs.Slab.{Slab, slab_len}
use Rattle.live_server.specs.declared.client.Client.{Client}
use Rattle.live_server.specs.declared.serving.Round.{Round}
use Rattle.live_server.specs.declared.serving.Rounds.{Rounds}
use Rattle.live_server.specs.declared.serving.Round.TheVariants.{Next, Last}
use Rattle.live_server.specs.Standing.{HasLetAllIn, IsSince}

module _ {D : Type 0} (empty_looks : D → ℕ) where
  module _ {T P E O F K : Type 0} (clients : Slab (Client T F K P E O)) (looks_before looks faults_before faults accepted : ℕ) where
    -- No connection is served any more. All that had come by the closing were let in, or the doors had a fault
    pub record IsOver (ended : Result D DoorFault) : Type 0 where
      pub none_left : slab_len clients ≡ 0
      pub all_in : IfOk ended (λ closed. HasLetAllIn looks_before (empty_looks closed) looks accepted)
      pub cause : HasCause faults_before faults ended

  -- Since before the first round the counts have not fallen, and connections are let in still, or aren't for their cause. The counts are those of empty
  -- looks and of faults, before and now
  abbrev pub IsAfter : Rounds D → (looks_before looks faults_before faults accepted : ℕ) → Type 0
  IsAfter rounds looks_before looks faults_before faults accepted = IsSince empty_looks rounds.entrance looks_before looks faults_before faults accepted

  abbrev pub ComesTo : {T P E O F K : Type 0} → Round D → Slab (Client T F K P E O) → (looks_before looks faults_before faults accepted : ℕ) → Type 0
  ComesTo (Next rounds) clients looks_before looks faults_before faults accepted = IsAfter rounds looks_before looks faults_before faults accepted
  ComesTo (Last ended) clients looks_before looks faults_before faults accepted = IsOver clients looks_before looks faults_before faults accepted ended
