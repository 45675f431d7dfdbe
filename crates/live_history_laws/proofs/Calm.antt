-- A partition in which nothing but calls has happened, and the messages that go with them: its first row stands, and its first member executes.
use Rattle.std.proofs.Common.{◌≡◌, ◌≢◌, ℕ, ◌+◌, ◌<◌, Bool, true, false, not, ◌&&◌, ◌||◌, ◌==◌, nat_le, List, [], ◌∷◌, ◌++◌, map, Option, Some, None, is_some, slice_get, slice_set, refl, sym, ◌∙◌, subst, ⊎_elim, true≢false}
use Rattle.grid_base.specs.Objects.{Object}
use Rattle.partition_table.specs.declared.Row.{Row}
use Rattle.partition_table.specs.declared.RowMember.{RowMember}
use Rattle.partition_table.specs.Rows.{is_in, is_eligible, is_primary, is_backup, is_empty, backups_of}
use Rattle.partition_protocol.specs.Messages.{Message, NewRow, Sync, Effect, Bridge, Ack, Joined, Freeze, Frozen, Packet}
use Rattle.partition_protocol.specs.Node.{Node, acked, settled, with_ack}
use Rattle.partition_protocol.specs.Took.{Acked}
use Rattle.partition_protocol.specs.Replica.{Step, taking, on_effect, on_ack, joined_note, frozen_note}
use Rattle.partition_protocol.specs.Execution.{Reached, Executes, PartitionLost, WrongTarget, Migrating, reached, executing, sent_on_executing}
use Rattle.partition_protocol.specs.World.{World, map_or, is_live}
use Rattle.partition_protocol.specs.Links.{link, taken_out, with_packets, packets_from}
use Rattle.partition_protocol.specs.Events.{Event, Call, Deliver, Lose, Repeat, Happened, nothing, if_executes, calling, executes, delivered, service_takes, handed_over, happens, run}
use Rattle.partition_protocol.proofs.Deliver.{packets_append}
use Rattle.partition_protocol.proofs.Lists.{In, Every, every_append, every_in, on_if, on_cond, get_set}
use Rattle.partition_protocol.proofs.Invariant.{NodeAt}
use Rattle.partition_protocol.proofs.Events.{taken_every}
use Rattle.partition_protocol.proofs.EventCases.{place_in}
use Rattle.partition_protocol.proofs.RowFacts.{both_right, is_less}
use Rattle.live_history_laws.specs.Uncontrolled.{IsExecuted}

-- what goes with calls: effects and their acknowledgements
abbrev pub is_of_calls : Message → Bool
is_of_calls (Effect v i) = true
is_of_calls (Ack v c) = true
is_of_calls _ = false

abbrev pub OfCalls : Packet → Type 0
OfCalls p = is_of_calls p.message ≡ true

-- a call, or what becomes of a message
abbrev pub is_quiet : {C : Type 0} → Event C → Bool
is_quiet (Call member conn number call now) = true
is_quiet (Deliver from to place) = true
is_quiet (Lose from to place) = true
is_quiet (Repeat from to place) = true
is_quiet _ = false

or_false : (x y : Bool) → (x || y) ≡ false → y ≡ false
or_false true y e = absurd (true≢false e)
or_false false y e = e

-- each member of the row may lead
abbrev pub MayAllLead : Row → Type 0
MayAllLead r = (m : ℕ) → is_in r m ≡ true → is_eligible r m ≡ true

module _ (r : Row) where
  abbrev pub IsNodeCalm : Node → Type 0
  IsNodeCalm n = (n.known ≡ r) × (n.frozen ≡ false)

  pub record IsCalm {C : Type 0} (w : World C) : Type 0 where
    pub row : w.service.row ≡ r
    pub none_crashed : w.crashed ≡ []
    pub nodes : (m : ℕ) (n : Node) → NodeAt w.nodes m n → IsNodeCalm n
    pub packets : Every OfCalls w.packets

  abbrev IsStepCalm : ℕ → Step → Type 0
  IsStepCalm m s = (s.node.known ≡ r) × (s.node.frozen ≡ false) × Every OfCalls (packets_from m s.sent)

  -- a message is taken
  module _ (lead : MayAllLead r) (service m from : ℕ) (n : Node) (calm : IsNodeCalm n) where
    effect_calm : (v i : ℕ) → IsStepCalm m (on_effect m from v i n)
    effect_calm v i =
        on_if (IsStepCalm m) (not (is_backup n.known m && (n.pair.version == v))) _ _ (calm.0, calm.1, tt)
        (on_if (IsStepCalm m) (i == n.pair.count + 1) _ _ (calm.0, calm.1, (refl, tt)) (on_if (IsStepCalm m) (nat_le i n.pair.count) _ _ (calm.0, calm.1, (refl, tt)) (calm.0, calm.1, tt)))

    not_joining : is_backup n.known from ≡ true → Every OfCalls (packets_from m (joined_note service from n))
    not_joining backup = on_cond (λ ss. Every OfCalls (packets_from m ss)) (is_some (acked n from) || is_eligible n.known from) _ _ (λ e. tt) (λ e. absurd (true≢false (sym eligible ∙ or_false (is_some (acked n from)) (is_eligible n.known from) e)))
      where
        eligible : is_eligible n.known from ≡ true
        eligible = subst (λ (x : Row). is_eligible x from ≡ true) (sym calm.0) (lead from (subst (λ (x : Row). is_in x from ≡ true) calm.0 (both_right (not (is_primary n.known from)) (is_in n.known from) backup)))

    not_frozen : (before after : Node) → after.frozen ≡ false → Every OfCalls (packets_from m (frozen_note service before after))
    not_frozen before after thawed = rw thawed tt

    ack_calm : (v c : ℕ) → IsStepCalm m (on_ack service m from v c n)
    ack_calm v c = on_cond (IsStepCalm m) (is_primary n.known m && (n.known.version == v) && is_backup n.known from) _ _ taken (λ e. (calm.0, calm.1, tt))
      where
        next : Node
        next = record n { acks = with_ack from c n.acks }

        sent : Every OfCalls (packets_from m (joined_note service from n)) → Every OfCalls (packets_from m (frozen_note service next (settled next))) → Every OfCalls (packets_from m (joined_note service from n ++ frozen_note service next (settled next)))
        sent a b = subst (Every OfCalls) (sym (packets_append m (joined_note service from n) (frozen_note service next (settled next)))) (every_append OfCalls _ _ a b)

        taken : (is_primary n.known m && (n.known.version == v) && is_backup n.known from) ≡ true → IsStepCalm m (record { node = next; sent = joined_note service from n ++ frozen_note service next (settled next); took = Acked })
        taken e = (calm.0, calm.1, sent (not_joining (both_right (is_primary n.known m && (n.known.version == v)) (is_backup n.known from) e)) (not_frozen next (settled next) calm.1))

    pub taking_calm : (msg : Message) → is_of_calls msg ≡ true → IsStepCalm m (taking service m from msg n)
    taking_calm (Effect v i) e = effect_calm v i
    taking_calm (Ack v c) e = ack_calm v c
    taking_calm (NewRow row) e = absurd (true≢false (sym e))
    taking_calm (Sync row c) e = absurd (true≢false (sym e))
    taking_calm (Bridge row b c) e = absurd (true≢false (sym e))
    taking_calm (Joined v b) e = absurd (true≢false (sym e))
    taking_calm (Freeze v) e = absurd (true≢false (sym e))
    taking_calm (Frozen v) e = absurd (true≢false (sym e))

  -- an event
  module _ {C State : Type 0} (o : Object C State) (lead : MayAllLead r) where
    fewer : (w : World C) (ps : List Packet) → IsCalm w → Every OfCalls ps → IsCalm (with_packets w ps)
    fewer w ps h q = record { row = h.row; none_crashed = h.none_crashed; nodes = h.nodes; packets = q }

    nodes_calm : (w : World C) → IsCalm w → (m : ℕ) (a : Node) → IsNodeCalm a → (k : ℕ) (n : Node) → NodeAt (slice_set w.nodes m (settled a)) k n → IsNodeCalm n
    nodes_calm w h m a calm k n at = ⊎_elim (λ (e : (k ≡ m) × (settled a ≡ n)). subst IsNodeCalm e.1 calm) (λ (e : (k ≢ m) × NodeAt w.nodes k n). h.nodes k n e.1) (get_set w.nodes m k (settled a) n at)

    effects_calm : (m : ℕ) (changes : Bool) (a : Node) → Every OfCalls (packets_from m (sent_on_executing changes a))
    effects_calm m changes a = on_if (λ ss. Every OfCalls (packets_from m ss)) changes (map (λ (p : RowMember). record { to = p.member; message = Effect a.pair.version a.pair.count }) (backups_of a.known)) [] (effects (backups_of a.known)) tt
      where
        effects : (ps : List RowMember) → Every OfCalls (packets_from m (map (λ (p : RowMember). record { to = p.member; message = Effect a.pair.version a.pair.count }) ps))
        effects [] = tt
        effects (p ∷ ps) = (refl, effects ps)

    call_calm : (w : World C) → IsCalm w → (m conn number : ℕ) (call : C) (now : ℕ) → IsCalm (happens o w (Call m conn number call now)).world
    call_calm w h m conn number call now = on_if (λ (x : Happened C). IsCalm x.world) (is_live w m) _ _ (go (slice_get w.nodes m) refl) h
      where
        ran : (n : Node) → NodeAt w.nodes m n → IsCalm (executes o w m conn number call now n).world
        ran n at = record {
          row = h.row;
          none_crashed = h.none_crashed;
          nodes = nodes_calm w h m (executing _ conn number n) (h.nodes m n at);
          packets = every_append OfCalls w.packets _ h.packets (effects_calm m _ (executing _ conn number n));
        }

        come : (x : Reached) (n : Node) → NodeAt w.nodes m n → IsCalm (if_executes w x (executes o w m conn number call now n)).world
        come Executes n at = ran n at
        come (PartitionLost v) n at = h
        come (WrongTarget v) n at = h
        come (Migrating v) n at = h

        go : (x : Option Node) → slice_get w.nodes m ≡ x → IsCalm (map_or x (nothing w) (calling o w m conn number call now)).world
        go None at = h
        go (Some n) at = come (reached m n) n at

    service_calm : (w : World C) → IsCalm w → (msg : Message) → is_of_calls msg ≡ true → IsCalm (service_takes w msg).world
    service_calm w h (Effect v i) e = h
    service_calm w h (Ack v c) e = h
    service_calm w h (NewRow row) e = h
    service_calm w h (Sync row c) e = h
    service_calm w h (Bridge row b c) e = h
    service_calm w h (Joined v b) e = absurd (true≢false (sym e))
    service_calm w h (Freeze v) e = h
    service_calm w h (Frozen v) e = absurd (true≢false (sym e))

    handed_calm : (w : World C) → IsCalm w → (q : Packet) → OfCalls q → IsCalm (handed_over w q).world
    handed_calm w h q of_calls =
        on_if (λ (x : Happened C). IsCalm x.world) (q.to == w.members) _ _ (service_calm w h q.message of_calls)
        (on_if (λ (x : Happened C). IsCalm x.world) (is_live w q.to) _ _ (on_if (λ (x : Happened C). IsCalm x.world) (is_live w q.to) _ _ (go (slice_get w.nodes q.to) refl) h) h)
      where
        takes : (n : Node) → NodeAt w.nodes q.to n → IsCalm (delivered w q n).world
        takes n at =
            let step = taking w.members q.to q.from q.message n in
            let calm = taking_calm lead w.members q.to q.from n (h.nodes q.to n at) q.message of_calls in record {
              row = h.row;
              none_crashed = h.none_crashed;
              nodes = nodes_calm w h q.to step.node (calm.0, calm.1);
              packets = every_append OfCalls w.packets (packets_from q.to step.sent) h.packets calm.2;
            }

        go : (x : Option Node) → slice_get w.nodes q.to ≡ x → IsCalm (map_or x (nothing w) (delivered w q)).world
        go None at = h
        go (Some n) at = takes n at

    placed_calm : (w : World C) → IsCalm w → (f t i : ℕ) (g : Packet → Happened C) → ((q : Packet) → In q w.packets → IsCalm (g q).world) → IsCalm (map_or (slice_get (link f t w.packets) i) (nothing w) g).world
    placed_calm w h f t i g each = go (slice_get (link f t w.packets) i) refl
      where
        go : (x : Option Packet) → slice_get (link f t w.packets) i ≡ x → IsCalm (map_or x (nothing w) g).world
        go None at = h
        go (Some q) at = each q (place_in f t i w.packets q at)

    without : (w : World C) → IsCalm w → (f t i : ℕ) → IsCalm (with_packets w (taken_out f t i w.packets))
    without w h f t i = fewer w (taken_out f t i w.packets) h (taken_every OfCalls f t i w.packets h.packets)

    event_calm : (w : World C) → IsCalm w → (e : Event C) → is_quiet e ≡ true → IsCalm (happens o w e).world
    event_calm w h (Call m conn number call now) e = call_calm w h m conn number call now
    event_calm w h (Deliver f t i) e = placed_calm w h f t i _ (λ q there. handed_calm (with_packets w (taken_out f t i w.packets)) (without w h f t i) q (every_in OfCalls w.packets q h.packets there))
    event_calm w h (Lose f t i) e = placed_calm w h f t i _ (λ q there. without w h f t i)
    event_calm w h (Repeat f t i) e = placed_calm w h f t i _ (λ q there. fewer w (w.packets ++ q ∷ []) h (every_append OfCalls w.packets (q ∷ []) h.packets (every_in OfCalls w.packets q h.packets there, tt)))
    event_calm w h x e = absurd (true≢false (sym e))

    pub run_calm : (w : World C) (es : List (Event C)) → IsCalm w → Every (λ e. is_quiet e ≡ true) es → IsCalm (run o w es)
    run_calm w [] h quiet = h
    run_calm w (e ∷ es) h quiet = run_calm (happens o w e).world es (event_calm w h e quiet.0) quiet.1

    -- a call that reaches the row's first member is executed
    pub calm_executes : (w : World C) → IsCalm w → (m conn number : ℕ) (call : C) (now : ℕ) → m < w.members → (n : Node) → NodeAt w.nodes m n → r.lost ≡ false → is_primary r m ≡ true
        → IsExecuted (happens o w (Call m conn number call now)).outcome
    calm_executes w h m conn number call now below n at still leads = rw (live, at, come) executed
      where
        live : is_live w m ≡ true
        live = rw (is_less m w.members below, h.none_crashed) refl

        come : reached m n ≡ Executes
        come = let calm = h.nodes m n at in rw (calm.0, still, leads, calm.1) refl

        executed : IsExecuted (executes o w m conn number call now n).outcome
        executed = on_if IsExecuted (is_empty (settled (executing _ conn number n)).held) _ _ tt tt
