-- A call that was refused is executed in no partition, then or later.
use Rattle.std.proofs.Common.{pos, ◌≡◌, ◌≢◌, ℕ, true, List, [], ◌∷◌, ◌++◌, map, filter, Option, Some, None, slice_get, refl, ap, sym, ◌∙◌, subst, ◌⊎◌, ⊎_elim, inl, inr, append-nil}
use Rattle.grid_base.specs.Objects.{Object}
use Rattle.grid_base.specs.declared.names.CallId.{CallId}
use Rattle.grid_base.specs.declared.calls.Request.{Request}
use Rattle.partition_table.specs.Rows.{is_empty}
use Rattle.partition_protocol.specs.Node.{Node, settled}
use Rattle.partition_protocol.specs.History.{Executed, Entry, Called}
use Rattle.partition_protocol.specs.Execution.{Reached, Executes, PartitionLost, WrongTarget, Migrating, reached, executing}
use Rattle.partition_protocol.specs.World.{World, start, is_live, map_or, pair_state}
use Rattle.partition_protocol.specs.Events.{Happened, entry_of, Outcome, Refused, HeldAt, ReleasedAt, nothing, if_executes, calling, executes, happens, run}
use Rattle.partition_protocol.specs.Arrivals.{name}
use Rattle.partition_protocol.proofs.Lists.{In, in_left, in_right, in_cases, cases, on_if}
use Rattle.replay_run.specs.Runs.{Run, Arrival, Appended, At, world_at, events_at, refusal, refused_at, refused_by, call_of, arrived}
use Rattle.grid_base.specs.Errors.{want_of_memory}
use Rattle.replay_run.proofs.Parts.{in_mapped}
use Rattle.replay_run.proofs.Places.{same_number}
use Rattle.replay_run.proofs.Trails.{executed, executed-append, executed_name}
use Rattle.replay_run.proofs.RunFacts.{id_name, arrival_name, is_of, RefusalsOk, RunOk, origin}
use Rattle.replay_run.proofs.Arriving.{MayCome, its_event}
use Rattle.replay_run.proofs.Answering.{refused_with, world_here, world_elsewhere}
use Rattle.replay_run.proofs.Bare.{answer_to, executed_by, is_heard_by, bare_happening}

-- a refusal names the call that it refuses
pub refusals_name_the_call : (line : ℕ) (request : Request) (outcome : Outcome) (m : Appended) → In m (refused_by line request outcome) → m.refuses ≡ Some request.id
refusals_name_the_call line request outcome m i = ap (λ (n : Appended). n.refuses) (sym (refused_with line request outcome m i).2)

-- a call that is logged, which isn't refused
pub record IsLogged (a : Arrival) (log : List (Entry Request)) (h : Happened Request) : Type 0 where
  pub call : Executed Request
  pub named : executed_name call ≡ arrival_name a
  pub is_last : h.world.recorded.log ≡ log ++ Called call ∷ []
  pub unrefused : refused_by a.made a.request h.outcome ≡ []

-- a call leaves the log, or is logged
pub call_log : {State : Type 0} (o : Object Request State) (w : World Request) (a : Arrival)
    → let h = happens o w (call_of a) in (h.world.recorded.log ≡ w.recorded.log) ⊎ IsLogged a w.recorded.log h
call_log o w a =
    on_if Leaves (is_live w a.member) (map_or (slice_get w.nodes a.member) (nothing w) (calling o w a.member a.request.id.conn a.request.id.number a.request a.now)) (nothing w)
    (at (slice_get w.nodes a.member)) (inl refl)
  where
    Leaves : Happened Request → Type 0
    Leaves h = (h.world.recorded.log ≡ w.recorded.log) ⊎ IsLogged a w.recorded.log h

    by : (node : Node) (why : Reached) → let h = if_executes w why (executes o w a.member a.request.id.conn a.request.id.number a.request a.now node) in
        (h.world.recorded.log ≡ w.recorded.log) ⊎ IsLogged a w.recorded.log h
    by node Executes =
        let s = pair_state o w node.pair in
        let after = executing (o.changes s a.request a.now) a.request.id.conn a.request.id.number node in
        inr (record {
          call = entry_of o s a.request.id.conn a.request.id.number a.request a.now after.pair;
          named = refl;
          is_last = refl;
          unrefused = on_if (λ (out : Outcome). refused_by a.made a.request out ≡ []) (is_empty (settled after).held) (ReleasedAt after.pair.count) (HeldAt after.pair.count) refl refl;
        })
    by node (PartitionLost version) = inl refl
    by node (WrongTarget version) = inl refl
    by node (Migrating version) = inl refl

    at : (node : Option Node) → let h = map_or node (nothing w) (calling o w a.member a.request.id.conn a.request.id.number a.request a.now) in
        (h.world.recorded.log ≡ w.recorded.log) ⊎ IsLogged a w.recorded.log h
    at None = inl refl
    at (Some node) = by node (reached a.member node)

module _ {State : Type 0} (o : Object Request State) (r : Run) (ok : RunOk o r) (a : Arrival) (may : MayCome r a) where
  -- a call that is new was executed nowhere
  not_yet : (p : ℕ) (x : Executed Request) → In x (executed (world_at o r p).recorded.log) → executed_name x ≢ arrival_name a
  not_yet p x i e =
      let from = origin o r ok.members ok.of_arrivals p x i in
      may.fresh from.0 from.1 (ap name from.3 ∙ e)

  -- Where nothing is executed but the new call, and that only if it isn't refused, what was refused stays so.
  refused_more : (events : List At) (appended : List Appended)
      → ((p : ℕ) (x : Executed Request) → In x (executed (world_at o (arrived r a events appended) p).recorded.log) → In x (executed (world_at o r p).recorded.log) ⊎ (executed_name x ≡ arrival_name a))
      → ((m : Appended) (id : CallId) → In m appended → m.refuses ≡ Some id
      → (id ≡ a.request.id) × ((p : ℕ) (x : Executed Request) → In x (executed (world_at o (arrived r a events appended) p).recorded.log) → executed_name x ≢ arrival_name a))
      → RefusalsOk o (arrived r a events appended)
  refused_more events appended only new = record {
    arrived = λ m id i e. ⊎_elim (earlier m id e) (λ j. (a, in_right a r.arrivals (a ∷ []) (inl refl), sym (new m id j e).0)) (in_cases m r.appended appended i);
    unexecuted = λ m id i e p x j. ⊎_elim (λ l. still m id l e p x (only p x j)) (λ l s. (new m id l e).1 p x j (s ∙ ap id_name (new m id l e).0)) (in_cases m r.appended appended i);
  }
    where
      earlier : (m : Appended) (id : CallId) → m.refuses ≡ Some id → In m r.appended → (b : Arrival) × In b (r.arrivals ++ a ∷ []) × (b.request.id ≡ id)
      earlier m id e i = let from = ok.of_refusals.arrived m id i e in (from.0, in_left from.0 r.arrivals (a ∷ []) from.1, from.2)

      still : (m : Appended) (id : CallId) → In m r.appended → m.refuses ≡ Some id → (p : ℕ) (x : Executed Request)
          → In x (executed (world_at o r p).recorded.log) ⊎ (executed_name x ≡ arrival_name a) → executed_name x ≢ id_name id
      still m id i e p x (inl j) = ok.of_refusals.unexecuted m id i e p x j
      still m id i e p x (inr s) =
          let from = ok.of_refusals.arrived m id i e in
          λ t. may.fresh from.0 from.1 (ap id_name from.2 ∙ sym t ∙ s)

  -- The call makes no event.

  as_before : (appended : List Appended) (p : ℕ) (x : Executed Request) → In x (executed (world_at o (arrived r a [] appended) p).recorded.log) → In x (executed (world_at o r p).recorded.log)
  as_before appended p x i = subst (λ es. In x (executed (run o (start p r.members r.backups) (events_at p es)).recorded.log)) (append-nil r.events) i

  pub unasked_refusals : RefusalsOk o (arrived r a [] [])
  unasked_refusals = refused_more [] [] (λ p x i. inl (as_before [] p x i)) (λ m id i e. absurd i)

  -- It found no memory.

  abbrev skipped : Run
  skipped = arrived r a [] (refusal a.made a.request (pos want_of_memory) 0 ∷ [])

  pub skipped_refusals : RefusalsOk o skipped
  skipped_refusals = refused_more [] (refusal a.made a.request (pos want_of_memory) 0 ∷ []) (λ p x i. inl (as_before (refusal a.made a.request (pos want_of_memory) 0 ∷ []) p x i)) refused
    where
      refused : (m : Appended) (id : CallId) → In m (refusal a.made a.request (pos want_of_memory) 0 ∷ []) → m.refuses ≡ Some id
          → (id ≡ a.request.id) × ((p : ℕ) (x : Executed Request) → In x (executed (world_at o skipped p).recorded.log) → executed_name x ≢ arrival_name a)
      refused m id (inl s) e =
          let whose : Some a.request.id ≡ Some id = ap (λ (n : Appended). n.refuses) s ∙ e in
          let its : id ≡ a.request.id = cc in
          (its, λ p x i. not_yet p x (as_before (refusal a.made a.request (pos want_of_memory) 0 ∷ []) p x i))
      refused m id (inr i) e = absurd i

  -- it is refused as it waited

  pub turned_away : (why : Reached) → RefusalsOk o (arrived r a [] (refused_at a.made a.request why))
  turned_away why = refused_more [] (refused_at a.made a.request why) (λ p x i. inl (as_before (refused_at a.made a.request why) p x i)) refused
    where
      refused : (m : Appended) (id : CallId) → In m (refused_at a.made a.request why) → m.refuses ≡ Some id
          → (id ≡ a.request.id) × ((p : ℕ) (x : Executed Request) → In x (executed (world_at o (arrived r a [] (refused_at a.made a.request why)) p).recorded.log) → executed_name x ≢ arrival_name a)
      refused m id i e =
          let whose : Some a.request.id ≡ Some id = sym (refusals_name_the_call a.made a.request (Refused why) m i) ∙ e in
          let its : id ≡ a.request.id = cc in
          (its, λ p x j. not_yet p x (as_before (refused_at a.made a.request why) p x j))

  -- the call has its event

  abbrev p : ℕ
  p = a.request.partition

  module _ (own : Option ℕ) where
    abbrev after : Run
    after = arrived r a (its_event a ∷ []) (bare_happening o r own a)

    executed_in : ℕ → List (Executed Request)
    executed_in q = executed (world_at o after q).recorded.log

    -- what it executes
    executed_now : (x : Executed Request) → In x (executed (happens o (world_at o r p) (call_of a)).world.recorded.log)
        → In x (executed (world_at o r p).recorded.log) ⊎ ((executed_name x ≡ arrival_name a) × (refused_by a.made a.request (happens o (world_at o r p) (call_of a)).outcome ≡ []))
    executed_now x i = ⊎_elim (λ e. inl (subst (λ es. In x (executed es)) e i)) logged (call_log o (world_at o r p) a)
      where
        logged : IsLogged a (world_at o r p).recorded.log (happens o (world_at o r p) (call_of a))
            → In x (executed (world_at o r p).recorded.log) ⊎ ((executed_name x ≡ arrival_name a) × (refused_by a.made a.request (happens o (world_at o r p) (call_of a)).outcome ≡ []))
        logged l =
            ⊎_elim (λ j. inl j) (λ j. inr (last j, l.unrefused))
            (in_cases x (executed (world_at o r p).recorded.log) (l.call ∷ [])
            (subst (λ xs. In x xs) (ap executed l.is_last ∙ executed-append (world_at o r p).recorded.log (Called l.call ∷ [])) i))
          where
            last : In x (l.call ∷ []) → executed_name x ≡ arrival_name a
            last (inl e) = ap executed_name (sym e) ∙ l.named
            last (inr j) = absurd j

    executed_after : (q : ℕ) (x : Executed Request) → In x (executed (world_at o after q).recorded.log)
        → In x (executed (world_at o r q).recorded.log) ⊎ ((executed_name x ≡ arrival_name a) × (refused_by a.made a.request (happens o (world_at o r p) (call_of a)).outcome ≡ []))
    executed_after q x i = ⊎_elim here (λ e. inl (subst (λ (w : World Request). In x (executed w.recorded.log)) (world_elsewhere o r p (call_of a) q e) i)) (cases (is_of q a))
      where
        here : is_of q a ≡ true → In x (executed (world_at o r q).recorded.log) ⊎ ((executed_name x ≡ arrival_name a) × (refused_by a.made a.request (happens o (world_at o r p) (call_of a)).outcome ≡ []))
        here e =
            let same : p ≡ q = same_number a.request.partition q e in
            let now = subst (λ v. In x (executed (world_at o after v).recorded.log)) (sym same) i in
            subst (λ v. In x (executed (world_at o r v).recorded.log) ⊎ ((executed_name x ≡ arrival_name a) × (refused_by a.made a.request (happens o (world_at o r p) (call_of a)).outcome ≡ []))) same
            (executed_now x (subst (λ (w : World Request). In x (executed w.recorded.log)) (world_here o r p (call_of a)) now))

    pub refusals_after : RefusalsOk o after
    refusals_after = refused_more (its_event a ∷ []) (bare_happening o r own a) (λ q x i. ⊎_elim (λ j. inl j) (λ j. inr j.0) (executed_after q x i)) refused
      where
        heard : List (Executed Request)
        heard = filter (is_heard_by r own) (executed_by (world_at o r p) (happens o (world_at o r p) (call_of a)).world)

        given : (m : Appended) (id : CallId) → In m (map (answer_to r.lines) heard) → m.refuses ≡ Some id → ⊥
        given m id i e =
            let made = in_mapped (answer_to r.lines) heard m i in
            let clash : None ≡ Some id = ap (λ (n : Appended). n.refuses) made.2 ∙ e in cc

        refused_here : (m : Appended) (id : CallId) → m.refuses ≡ Some id → In m (refused_by a.made a.request (happens o (world_at o r p) (call_of a)).outcome)
            → (id ≡ a.request.id) × ((q : ℕ) (x : Executed Request) → In x (executed (world_at o after q).recorded.log) → executed_name x ≢ arrival_name a)
        refused_here m id e i =
            let whose : Some a.request.id ≡ Some id = sym (refusals_name_the_call a.made a.request (happens o (world_at o r p) (call_of a)).outcome m i) ∙ e in
            let its : id ≡ a.request.id = cc in
            (its, λ q x j. ⊎_elim (not_yet q x) (λ l. absurd (subst (λ ms. In m ms) l.1 i)) (executed_after q x j))

        refused : (m : Appended) (id : CallId) → In m (bare_happening o r own a) → m.refuses ≡ Some id
            → (id ≡ a.request.id) × ((q : ℕ) (x : Executed Request) → In x (executed (world_at o after q).recorded.log) → executed_name x ≢ arrival_name a)
        refused m id i e =
            ⊎_elim (refused_here m id e) (λ j. absurd (given m id j e))
            (in_cases m (refused_by a.made a.request (happens o (world_at o r p) (call_of a)).outcome) (map (answer_to r.lines) heard) i)
