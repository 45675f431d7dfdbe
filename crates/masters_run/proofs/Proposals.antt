-- What a line proposes, and whether it is held back.
use Rattle.std.proofs.Common.{◌≡◌, ◌≢◌, ℕ, Bool, true, false, cond, not, ◌&&◌, ◌==◌, List, [], ◌∷◌, map, Option, Some, None, is_some, option_map, slice_get, refl, ap, sym, ◌∙◌, subst}
use Rattle.std.specs.Prelude.{option_to_list}
use Rattle.grid_base.specs.declared.calls.Request.{Request}
use Rattle.call_engine.specs.Calls.{Settings}
use Rattle.call_engine.specs.Objects.{partition_object}
use Rattle.partition_protocol.specs.Events.{Event}
use Rattle.partition_protocol.specs.Events as event
use Rattle.partition_protocol.specs.Links.{link}
use Rattle.partition_table.specs.Rows.{is_empty}
use Rattle.masters_protocol.specs.Machine.{master, pending}
use Rattle.masters_world.specs.Decisions.{Decision}
use Rattle.masters_world.specs.Decisions as decision
use Rattle.masters_world.specs.Machine.{Ruled, taking, proposals}
use Rattle.master_wire.specs.declared.decision.Decision.{Decision as Written}
use Rattle.script_lang.specs.declared.line.Line.{Line as ScriptLine}
use Rattle.script_lang.specs.declared.line.Line.TheVariants.{Grid, OpenConn, Arrive, Clock, Deliver, Lose, Repeat, Flow, FlowAll, Resend, Crash, Detect, Move, Join, Handover, Advance, Reopen, Rebalance, Dump, Links, Trail, Near, NearGet, NearFeed, Masters, Told, MasterDeliver, MasterLose, MasterResend, MasterFlow, Comment, End}
use Rattle.replay_run.specs.Runs.{At, event_by}
use Rattle.replay_run.specs.Grids.{FormOf}
use Rattle.masters_run.specs.declared.grid.RuledGrid.{RuledGrid}
use Rattle.masters_run.specs.Runs.{RuledRun, ruled_at}
use Rattle.masters_run.specs.Grids.{Stands}
use Rattle.masters_run.specs.Written.{as_written}
use Rattle.masters_run.specs.Answers.{Decided, decision_by}
use Rattle.masters_run.specs.Parts.{IsProposalOf, is_held_back}
use Rattle.masters_run.proofs.RuledMasters.{world_formed}

-- the service's number is the number of members
pub its_members : (settings : Settings) (s : RuledRun) (p : ℕ) → (ruled_at (partition_object settings) s p).world.members ≡ s.run.members
its_members settings s p = (world_formed settings s p).same_members

-- A delivery to another proposes nothing.
pub other_delivery : {C : Type 0} (j : Ruled C) (f t i : ℕ) → (t == j.world.members) ≡ false → proposals j (event.Deliver f t i) ≡ []
other_delivery j f t i other = ap (λ b. cond (b && not (pending j.masters)) (taking f i (slice_get (link f t j.world.packets) i)) []) other

-- what a line decides by itself, it proposes
pub record DecidesSo (settings : Settings) (s : RuledRun) (line : ScriptLine) (p : ℕ) (d : Decision) : Type 0 where
  pub event : Event Request
  pub is : event_by line ≡ Some (record { partition = p; event = event })
  pub proposes : proposals (ruled_at (partition_object settings) s p) event ≡ d ∷ []

module _ (settings : Settings) (s : RuledRun) where
  same_decided : (line : ScriptLine) (x d : Decided) → Some x ≡ Some d → DecidesSo settings s line x.partition x.decision → DecidesSo settings s line d.partition d.decision
  same_decided line x d same = let one : x ≡ d = cc in subst (λ (y : Decided). DecidesSo settings s line y.partition y.decision) one

  pub decides : (line : ScriptLine) (d : Decided) → decision_by line ≡ Some d → DecidesSo settings s line d.partition d.decision
  decides (Move p from to) d is = same_decided (Move p from to) (record { partition = p; decision = decision.BeginMove from to }) d is (record { event = event.BeginMove from to; is = refl; proposes = refl })
  decides (Join p to) d is = same_decided (Join p to) (record { partition = p; decision = decision.BeginJoin to }) d is (record { event = event.BeginJoin to; is = refl; proposes = refl })
  decides (Handover p from to) d is = same_decided (Handover p from to) (record { partition = p; decision = decision.BeginHandover from to }) d is (record { event = event.BeginHandover from to; is = refl; proposes = refl })
  decides (Advance p) d is = same_decided (Advance p) (record { partition = p; decision = decision.Advance }) d is (record { event = event.Advance; is = refl; proposes = refl })
  decides (Reopen p) d is = same_decided (Reopen p) (record { partition = p; decision = decision.Reopen }) d is (record { event = event.Reopen; is = refl; proposes = refl })
  decides (Deliver p from to place) d is = absurd cc
  decides (Lose p from to place) d is = absurd cc
  decides (Repeat p from to place) d is = absurd cc
  decides (Resend p end) d is = absurd cc
  decides (Grid members backups capacity) d is = absurd cc
  decides (OpenConn c member) d is = absurd cc
  decides (Arrive c bytes) d is = absurd cc
  decides (Clock member moment) d is = absurd cc
  decides (Flow p most) d is = absurd cc
  decides (FlowAll most) d is = absurd cc
  decides (Crash member) d is = absurd cc
  decides (Detect member) d is = absurd cc
  decides (Rebalance most) d is = absurd cc
  decides (Dump p member) d is = absurd cc
  decides (Links p) d is = absurd cc
  decides (Trail p) d is = absurd cc
  decides (Near c name capacity) d is = absurd cc
  decides (NearGet c key) d is = absurd cc
  decides (NearFeed c most) d is = absurd cc
  decides Masters d is = absurd cc
  decides (Told member crashed) d is = absurd cc
  decides (MasterDeliver p from to place) d is = absurd cc
  decides (MasterLose p from to place) d is = absurd cc
  decides (MasterResend p member) d is = absurd cc
  decides (MasterFlow p most) d is = absurd cc
  decides Comment d is = absurd cc
  decides End d is = absurd cc

  -- what it doesn't decide by itself, nor is a delivery to the service, proposes nothing

  abbrev Nothing : At → Type 0
  Nothing e = proposals (ruled_at (partition_object settings) s e.partition) e.event ≡ []

  same_nothing : (x e : At) → Some x ≡ Some e → Nothing x → Nothing e
  same_nothing x e same = let one : x ≡ e = cc in subst Nothing one

  pub undecided : (line : ScriptLine) → decision_by line ≡ None → ((p f t i : ℕ) → line ≡ Deliver p f t i → (t == s.run.members) ≡ false) → (e : At) → event_by line ≡ Some e → Nothing e
  undecided (Deliver p from to place) none other e is =
      same_nothing (record { partition = p; event = event.Deliver from to place }) e is
      (other_delivery (ruled_at (partition_object settings) s p) from to place (ap (λ n. to == n) (its_members settings s p) ∙ other p from to place refl))
  undecided (Lose p from to place) none other e is = same_nothing (record { partition = p; event = event.Lose from to place }) e is refl
  undecided (Repeat p from to place) none other e is = same_nothing (record { partition = p; event = event.Repeat from to place }) e is refl
  undecided (Resend p end) none other e is = same_nothing (record { partition = p; event = event.Resend end }) e is refl
  undecided (Move p from to) none other e is = absurd cc
  undecided (Join p to) none other e is = absurd cc
  undecided (Handover p from to) none other e is = absurd cc
  undecided (Advance p) none other e is = absurd cc
  undecided (Reopen p) none other e is = absurd cc
  undecided (Grid members backups capacity) none other e is = absurd cc
  undecided (OpenConn c member) none other e is = absurd cc
  undecided (Arrive c bytes) none other e is = absurd cc
  undecided (Clock member moment) none other e is = absurd cc
  undecided (Flow p most) none other e is = absurd cc
  undecided (FlowAll most) none other e is = absurd cc
  undecided (Crash member) none other e is = absurd cc
  undecided (Detect member) none other e is = absurd cc
  undecided (Rebalance most) none other e is = absurd cc
  undecided (Dump p member) none other e is = absurd cc
  undecided (Links p) none other e is = absurd cc
  undecided (Trail p) none other e is = absurd cc
  undecided (Near c name capacity) none other e is = absurd cc
  undecided (NearGet c key) none other e is = absurd cc
  undecided (NearFeed c most) none other e is = absurd cc
  undecided Masters none other e is = absurd cc
  undecided (Told member crashed) none other e is = absurd cc
  undecided (MasterDeliver p from to place) none other e is = absurd cc
  undecided (MasterLose p from to place) none other e is = absurd cc
  undecided (MasterResend p member) none other e is = absurd cc
  undecided (MasterFlow p most) none other e is = absurd cc
  undecided Comment none other e is = absurd cc
  undecided End none other e is = absurd cc

-- in the words of contracts

module _ {V : Type 0} {T : V → Type 0} (form : FormOf V T) (all : RuledGrid V T) (line : ScriptLine) where
  -- a line that isn't a delivery to the service proposes what it decides by itself
  pub by_decision : ((settings : Settings) (s : RuledRun) (p f t i : ℕ) → Stands form settings all s → line ≡ Deliver p f t i → (t == s.run.members) ≡ false)
      → (found : Option (ℕ × Written)) → found ≡ option_map (λ (d : Decided). (d.partition, as_written d.decision)) (decision_by line) → IsProposalOf form all line found
  by_decision other found is = go (decision_by line) refl
    where
      as_found : (x y : Option (ℕ × Written)) → x ≡ y → IsProposalOf form all line y → IsProposalOf form all line x
      as_found x y same = subst (IsProposalOf form all line) (sym same)

      go : (d : Option Decided) → decision_by line ≡ d → IsProposalOf form all line found
      go None none = as_found found None (is ∙ ap (λ x. option_map (λ (d : Decided). (d.partition, as_written d.decision)) x) none)
          (λ settings s e stands by. undecided settings s line none (λ p f t i. other settings s p f t i stands) e by)
      go (Some d) some = as_found found (Some (d.partition, as_written d.decision)) (is ∙ ap (λ x. option_map (λ (d : Decided). (d.partition, as_written d.decision)) x) some)
          (λ settings s stands. (let h = decides settings s line d some in (h.event, h.is, ap (λ ds. map as_written ds) h.proposes)))

-- A delivery to the service proposes to take what is there.
module _ {V : Type 0} {T : V → Type 0} (form : FormOf V T) (all : RuledGrid V T) (p from to place : ℕ) where
  abbrev its : Settings → RuledRun → List Decision
  its settings s = proposals (ruled_at (partition_object settings) s p) (event.Deliver from to place)

  -- if it is this
  abbrev Takes : Option Written → Type 0
  Takes taking = (settings : Settings) (s : RuledRun) → Stands form settings all s → option_to_list taking ≡ map as_written (its settings s)

  none_written : (ds : List Decision) → [] ≡ map as_written ds → ds ≡ []
  none_written [] e = refl
  none_written (d ∷ ds) e = absurd cc

  at_it : (settings : Settings) (s : RuledRun) (e : At) → Some (record { partition = p; event = event.Deliver from to place }) ≡ Some e → its settings s ≡ [] → proposals (ruled_at (partition_object settings) s e.partition) e.event ≡ []
  at_it settings s e same none = let one : record { partition = p; event = event.Deliver from to place } ≡ e = cc in subst (λ (x : At). proposals (ruled_at (partition_object settings) s x.partition) x.event ≡ []) one none

  pub takes_none : Takes None → IsProposalOf form all (Deliver p from to place) None
  takes_none h settings s e stands is = at_it settings s e is (none_written (its settings s) (h settings s stands))

  pub takes_some : (decision : Written) → Takes (Some decision) → IsProposalOf form all (Deliver p from to place) (Some (p, decision))
  takes_some decision h settings s stands = (event.Deliver from to place, refl, sym (h settings s stands))

-- whether it is held back

module _ (settings : Settings) (s : RuledRun) where
  itself : {X : Type 0} (b : Bool) (x : X) → is_empty (cond b [] (x ∷ [])) ≡ b
  itself false x = refl
  itself true x = refl

  pub held_delivery : (p f t i : ℕ) → is_held_back settings s (Deliver p f t i) ≡ (t == s.run.members)
  held_delivery p f t i = let j = ruled_at (partition_object settings) s p in let e : Event Request = event.Deliver f t i in itself (t == j.world.members) e ∙ ap (λ n. t == n) (its_members settings s p)

  pub held_loss : (p f t i : ℕ) → is_held_back settings s (Lose p f t i) ≡ (t == s.run.members) && pending (ruled_at (partition_object settings) s p).masters
  held_loss p f t i =
      let j = ruled_at (partition_object settings) s p in
      let e : Event Request = event.Lose f t i in
      itself ((t == j.world.members) && pending j.masters) e ∙ ap (λ n. (t == n) && pending j.masters) (its_members settings s p)

  pub held_resending : (p end : ℕ) → is_held_back settings s (Resend p end) ≡ (end == s.run.members) && not (is_some (master (ruled_at (partition_object settings) s p).masters))
  held_resending p end =
      let j = ruled_at (partition_object settings) s p in
      let e : Event Request = event.Resend end in
      itself ((end == j.world.members) && not (is_some (master j.masters))) e ∙ ap (λ n. (end == n) && not (is_some (master j.masters))) (its_members settings s p)

  -- Of the others that propose nothing none is.
  pub not_held : (line : ScriptLine) → ((e : At) → event_by line ≡ Some e → proposals (ruled_at (partition_object settings) s e.partition) e.event ≡ []) → line ≢ Masters → ((most : ℕ) → line ≢ Rebalance most)
      → ((p f t i : ℕ) → line ≢ Deliver p f t i) → ((p f t i : ℕ) → line ≢ Lose p f t i) → ((p end : ℕ) → line ≢ Resend p end) → is_held_back settings s line ≡ false
  not_held Masters nothing masters rebalance deliver lose resend = absurd (masters refl)
  not_held (Rebalance most) nothing masters rebalance deliver lose resend = absurd (rebalance most refl)
  not_held (Deliver p f t i) nothing masters rebalance deliver lose resend = absurd (deliver p f t i refl)
  not_held (Lose p f t i) nothing masters rebalance deliver lose resend = absurd (lose p f t i refl)
  not_held (Resend p end) nothing masters rebalance deliver lose resend = absurd (resend p end refl)
  not_held (Repeat p f t i) nothing masters rebalance deliver lose resend = refl
  not_held (Move p from to) nothing masters rebalance deliver lose resend = absurd (let clash : proposals (ruled_at (partition_object settings) s p) (event.BeginMove from to) ≡ [] = nothing (record { partition = p; event = event.BeginMove from to }) refl in cc)
  not_held (Join p to) nothing masters rebalance deliver lose resend = absurd (let clash : proposals (ruled_at (partition_object settings) s p) (event.BeginJoin to) ≡ [] = nothing (record { partition = p; event = event.BeginJoin to }) refl in cc)
  not_held (Handover p from to) nothing masters rebalance deliver lose resend = absurd (let clash : proposals (ruled_at (partition_object settings) s p) (event.BeginHandover from to) ≡ [] = nothing (record { partition = p; event = event.BeginHandover from to }) refl in cc)
  not_held (Advance p) nothing masters rebalance deliver lose resend = absurd (let clash : proposals (ruled_at (partition_object settings) s p) event.Advance ≡ [] = nothing (record { partition = p; event = event.Advance }) refl in cc)
  not_held (Reopen p) nothing masters rebalance deliver lose resend = absurd (let clash : proposals (ruled_at (partition_object settings) s p) event.Reopen ≡ [] = nothing (record { partition = p; event = event.Reopen }) refl in cc)
  not_held line nothing masters rebalance deliver lose resend = refl

-- nobody is there
pub none_is : {X : Type 0} (is : Bool) (found there : Option X) → is_some found ≡ not is → found ≡ there → is ≡ not (is_some there)
none_is is found there e same = twice is ∙ ap not (sym e) ∙ ap (λ x. not (is_some x)) same
  where
    twice : (b : Bool) → b ≡ not (not b)
    twice true = refl
    twice false = refl
