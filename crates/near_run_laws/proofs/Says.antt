-- What an event brings to a near connection is what the machine says at it.
use Rattle.std.proofs.Common.{◌≡◌, ◌≢◌, ℕ, ◌<◌, ◌≤◌, Bool, true, false, cond, ◌&&◌, ◌==◌, bytes_eq, List, [], ◌∷◌, ◌++◌, map, length, drop, Option, Some, None, nat_lt, slice_get, refl, ap, sym, ◌∙◌, subst, ◌⊎◌, ⊎_elim, inl, inr, le_refl, arith, lit<}
use Rattle.std.specs.Prelude.{ℤ, pos, nat_eq, ◌^◌}
use Rattle.std.specs.List.{flat_map}
use Rattle.std.specs.Option.{option_and_then, option_eq}
use Rattle.std.specs.Cmp.Lexicographic.{pointwise}
use Rattle.std.specs.Int.{w32, cast_signed}
use Rattle.std.proofs.lemmas.Slice.Eq.{bytes_eq-Decides}
use Rattle.grid_base.specs.Objects.{Object}
use Rattle.grid_base.specs.Errors.{partition_lost, wrong_target, migrating}
use Rattle.grid_base.specs.Names.{key_of}
use Rattle.grid_base.specs.declared.calls.Change.{Change}
use Rattle.grid_base.specs.declared.calls.GridCall.{GridCall}
use Rattle.grid_base.specs.declared.calls.GridCall.TheVariants as call
use Rattle.grid_base.specs.declared.calls.Request.{Request}
use Rattle.frame_codec.specs.Laws.{spelled}
use Rattle.fixed_fields.specs.Responses.{error_bytes}
use Rattle.message_frames.specs.Assembly.{most_messages}
use Rattle.partition_table.specs.declared.Row.{Row}
use Rattle.partition_protocol.specs.Node.{Held, Node}
use Rattle.partition_protocol.specs.Execution.{Reached, Executes, PartitionLost, WrongTarget, Migrating, reached}
use Rattle.partition_protocol.specs.History.{Executed, Called}
use Rattle.partition_protocol.specs.World.{World, map_or}
use Rattle.partition_protocol.specs.Events.{Event, Call, Outcome, NothingDone, Done, HeldAt, ReleasedAt, Refused, TookMessage, RowMadeAt, MoveIsRefused, ReopenIsRefused, Happened, happens}
use Rattle.partition_protocol.specs.Answers.{answered_call}
use Rattle.partition_protocol.proofs.Lists.{In}
use Rattle.partition_protocol.proofs.RowFacts.{same_number, number_same, number_other, is_less, is_not_less}
use Rattle.partition_protocol.proofs.RowRules.{GoesOn, node_on}
use Rattle.partition_protocol.proofs.EventFacts.{call_executed, call_refused}
use Rattle.primary_hold.specs.declared.answer.CallAnswer.{CallAnswer}
use Rattle.event_codecs.specs.Writing.{invalidation_frames, rows_frames}
use Rattle.listeners.specs.Telling.{change_events}
use Rattle.object_store.specs.Records.{Record, entry_in}
use Rattle.object_store.specs.Partitions.{Partition}
use Rattle.call_engine.specs.Calls.{Settings}
use Rattle.call_engine.specs.Objects.{partition_object}
use Rattle.session_core.specs.Places.{partition_of_key}
use Rattle.request_codecs.specs.Openings.{invalidations_correlation, rows_correlation}
use Rattle.partition_world.specs.Answers.{answer_of, state_before, released_by}
use Rattle.near_protocol.specs.Client.{Said, Answer, Refusal, Invalidation, Rows}
use Rattle.near_protocol.specs.Near.{Change as MachineChange, name_of, called_in, released_between, invalidations, said_of, rows_said, is_refused}
use Rattle.near_protocol.specs.Laws.{IsStepOf}
use Rattle.near_protocol.proofs.Orders.{IsOnce, flat_map_in}
use Rattle.near_protocol.proofs.Saying.{called_is}
use Rattle.near_protocol.proofs.Worlds.{node_back}
use Rattle.grid_client.specs.Calls.{correlation_of}
use Rattle.replay_run.specs.Changes.{change_between, change_by}
use Rattle.replay_run.specs.ScriptRuns.{home, home_of}
use Rattle.replay_run.specs.Runs.{Run, Appended, listening, hears, events_to, message_of, refusal, refused_at, refused_by, version_known, if_newer, adopted_since, row_messages, answer_messages, release_messages, messages_by}
use Rattle.near_run_laws.specs.Maps.{key_changed, keyed}
use Rattle.near_run_laws.specs.Messages.{sent_to, AreBytesOf, AreSaidBy}
use Rattle.near_run_laws.specs.NearConnections.{IsNear}
use Rattle.near_run_laws.proofs.Moments.{WasCalled, untouched, ReachesNone, IsExecuted, IsRefused, call_goes, none_happens}
use Rattle.near_run_laws.proofs.Changes.{said_change}
use Rattle.near_run_laws.proofs.Sent.{sent_to-append, sent_to-flat_map, it_hears, listens_here, listens_nowhere, rows_sent, no_rows_sent, change_sent, no_change_sent, said-append, said-flat_map}
use Rattle.near_run_laws.proofs.Answers.{flat_map_map, answers_listed}

-- the key of a change is that of its call
change_key : (c : GridCall) (before after : Record) (now stated : ℕ) (change : Change) → change_between c before after now ≡ Some change → home_of c stated ≡ partition_of_key change.key
change_key (call.Queue c) before after now stated change e = absurd cc
change_key (call.Map c) before after now stated change e = go (option_eq (pointwise nat_eq) (entry_in before).value (entry_in after).value) refl
  where
    go : (b : Bool) → option_eq (pointwise nat_eq) (entry_in before).value (entry_in after).value ≡ b → partition_of_key (key_of c) ≡ partition_of_key change.key
    go true t = absurd (let clash : None ≡ Some change = (rw t at e) in cc)
    go false t = (let same = (rw t at e) in ap (λ (o : Option Change). partition_of_key (key_in o)) same)
      where
        key_in : Option Change → List ℕ
        key_in None = []
        key_in (Some d) = d.key

-- nothing of other connections' messages

unsent : (c : ℕ) (m : Appended) (b : Bool) → (m.conn == c) ≡ false → sent_to c (cond b (m ∷ []) []) ≡ []
unsent c m true f = ap (λ t. map (λ (x : Appended). x.bytes) (cond t (m ∷ []) [])) f
unsent c m false f = refl

sent : (c : ℕ) (m : Appended) → (m.conn == c) ≡ true → sent_to c (m ∷ []) ≡ m.bytes ∷ []
sent c m t = ap (λ b. map (λ (x : Appended). x.bytes) (cond b (m ∷ []) [])) t

-- ---- how the bytes of messages say things

-- a refusal of a call of the client's
abbrev pub Refuses : (List ℕ → Said (List ℕ) → Type 0) → Type 0
Refuses P = (number code : ℕ) (first : ℤ) → number < most_messages → code < 2 ^ 31 → P (error_bytes (correlation_of number) (pos code) first (pos 0)) (Refusal number)

-- what is sent of a partition, after an event
pub record Speaks (settings : Settings) (P : List ℕ → Said (List ℕ) → Type 0) (c m : ℕ) (name : List ℕ) (p : ℕ) (u : World Request) : Type 0 where
  pub refuses : Refuses P
  pub rows : (a : Node) → slice_get u.nodes m ≡ Some a → P (spelled (rows_frames rows_correlation ((p, a.known) ∷ []))) (Rows (record { partition = p; version = a.known.version } ∷ []))
  pub answers : (x : Executed Request) → In (Called x) u.recorded.log → x.conn ≡ c → P x.reply (Answer x.number x.reply)
  pub changes : (x : Executed Request) → In (Called x) u.recorded.log → (d : Change) → change_by (partition_object settings) (state_before (partition_object settings) u x) x.call x.now ≡ Some d → bytes_eq name d.name ≡ true
      → P (spelled (invalidation_frames invalidations_correlation p x.version x.seen name d.key)) (Invalidation d.key x.version x.seen)

-- Whatever they are, they are the bytes of what is said.
pub speak_bytes : (settings : Settings) (c m : ℕ) (name : List ℕ) (p : ℕ) (u : World Request) → Speaks settings (AreBytesOf name) c m name p u
speak_bytes settings c m name p u = record {
  refuses = λ number code first small low. (pos code, (first, refl));
  rows = λ a at. ((p, a.known) ∷ [], (refl, refl));
  answers = λ x i own. refl;
  changes = λ x i d is named. (p, refl);
}

-- the message of a call that was refused
module _ (c line number : ℕ) (request : Request) (P : List ℕ → Said (List ℕ) → Type 0) (refuses : Refuses P) (own : request.id.conn ≡ c → (request.correlation ≡ correlation_of number) × (number < most_messages)) where
  refusal_says : (code first : ℕ) (b : Bool) → code < 2 ^ 31 → (request.id.conn == c) ≡ b → AreSaidBy P (sent_to c (refusal line request (pos code) first ∷ [])) (cond b (Refusal number ∷ []) [])
  refusal_says code first false low f = subst (λ xs. AreSaidBy P xs []) (sym (unsent c (refusal line request (pos code) first) true f)) tt
  refusal_says code first true low t =
      let its = own (same_number request.id.conn c t) in
      subst (λ xs. AreSaidBy P xs (Refusal number ∷ [])) (sym (sent c (refusal line request (pos code) first) t))
      (subst (λ k. P (error_bytes k (pos code) (cast_signed w32 first) (pos 0)) (Refusal number)) (sym its.0) (refuses number code (cast_signed w32 first) its.1 low), tt)

  reached_says : (r : Reached) → (r ≡ Executes → ⊥) → AreSaidBy P (sent_to c (refused_at line request r)) (cond (request.id.conn == c) (Refusal number ∷ []) [])
  reached_says Executes none = absurd (none refl)
  reached_says (PartitionLost v) none = refusal_says partition_lost v (request.id.conn == c) (lit< tt) refl
  reached_says (WrongTarget v) none = refusal_says wrong_target v (request.id.conn == c) (lit< tt) refl
  reached_says (Migrating v) none = refusal_says migrating v (request.id.conn == c) (lit< tt) refl

  pub refused_says : (outcome : Outcome) → (outcome ≡ Refused Executes → ⊥) → AreSaidBy P (sent_to c (refused_by line request outcome)) (cond (is_refused outcome && (request.id.conn == c)) (Refusal number ∷ []) [])
  refused_says (Refused r) none = reached_says r (λ e. none (ap (λ z. Refused z) e))
  refused_says NothingDone none = tt
  refused_says Done none = tt
  refused_says (HeldAt seen) none = tt
  refused_says (ReleasedAt seen) none = tt
  refused_says (TookMessage took) none = tt
  refused_says (RowMadeAt version) none = tt
  refused_says (MoveIsRefused why) none = tt
  refused_says (ReopenIsRefused why) none = tt

-- who executes refuses nothing
pub not_refused : {C State : Type 0} (o : Object C State) (w : World C) (m conn number : ℕ) (call : C) (now : ℕ) → (happens o w (Call m conn number call now)).outcome ≡ Refused Executes → ⊥
not_refused {C} o w m conn number call now e = go (call_goes o w m conn number call now)
  where
    held_or_not : (b : Bool) (x y : ℕ) → cond b (ReleasedAt x) (HeldAt y) ≡ Refused Executes → ⊥
    held_or_not true x y z = absurd cc
    held_or_not false x y z = absurd cc

    go : ReachesNone o w m conn number call now ⊎ IsExecuted o w m conn number call now ⊎ IsRefused o w m conn number call now → ⊥
    go (inl none) = absurd (let z : NothingDone ≡ Refused Executes = sym (ap (λ (h : Happened C). h.outcome) (none_happens o w m conn number call now none)) ∙ e in cc)
    go (inr (inl (n, at, lives, z))) = held_or_not _ _ _ (sym (ap (λ (h : Happened C). h.outcome) (call_executed o w m conn number call now n lives at z)) ∙ e)
    go (inr (inr (n, at, lives, z))) = z (let k : Refused (reached m n) ≡ Refused Executes = sym (ap (λ (h : Happened C). h.outcome) (call_refused o w m conn number call now n (reached m n) lives at refl z)) ∙ e in cc)

-- ---- what an event brings

-- the map, the connection and its member; an event of a partition
module _ (settings : Settings) (r : Run) (own : Option ℕ) (c m : ℕ) (name : List ℕ) (client : ℕ) (near : IsNear r c m name) (p : ℕ) (w : World Request) (e : Event Request) (changes : List (MachineChange (List ℕ))) (es : List (Event Request))
    (P : List ℕ → Said (List ℕ) → Type 0) (speaks : Speaks settings P c m name p (happens (partition_object settings) w e).world) where
  abbrev pub o : Object Request Partition
  o = partition_object settings

  abbrev pub u : World Request
  u = (happens o w e).world

  abbrev pub answer : Executed Request → CallAnswer
  answer x = answer_of o (change_by o) u x

  -- rows

  abbrev pub adopted : Option Node → Option Node → Option Row
  adopted x y = option_and_then (λ (node : Node). if_newer (map_or x 0 (λ (n : Node). n.known.version)) node.known) y

  rows_at : (x y : Option Node) → ((a : Node) → y ≡ Some a → P (spelled (rows_frames rows_correlation ((p, a.known) ∷ []))) (Rows (record { partition = p; version = a.known.version } ∷ [])))
      → ((n : Node) → x ≡ Some n → (a : Node) × (y ≡ Some a) × GoesOn n a) → ((a : Node) → y ≡ Some a → (n : Node) × (x ≡ Some n))
      → AreSaidBy P (sent_to c (row_messages r.lines p (listening r own m) (adopted x y))) (rows_said p x y)
  rows_at None None tells goes back = tt
  rows_at None (Some a) tells goes back = absurd (let k = (back a refl).1 in cc)
  rows_at (Some n) None tells goes back = absurd (let k = (goes n refl).1 in cc)
  rows_at (Some n) (Some a) tells goes back = by (goes n refl)
    where
      stays : a.known ≡ n.known → AreSaidBy P (sent_to c (row_messages r.lines p (listening r own m) (if_newer n.known.version a.known))) (rows_said p (Some n) (Some a))
      stays s =
          let same : a.known.version ≡ n.known.version = ap (λ (row : Row). row.version) s in
          let t : (a.known.version == n.known.version) ≡ true = number_same a.known.version n.known.version same in
          let f : nat_lt n.known.version a.known.version ≡ false = is_not_less n.known.version a.known.version (subst (λ k. k ≤ n.known.version) (sym same) (le_refl n.known.version)) in
          rw (t, f) tt

      rises : n.known.version < a.known.version → AreSaidBy P (sent_to c (row_messages r.lines p (listening r own m) (if_newer n.known.version a.known))) (rows_said p (Some n) (Some a))
      rises s =
          let f : (a.known.version == n.known.version) ≡ false = number_other a.known.version n.known.version (λ q. absurd (omega (arith, s, q))) in
          let t : nat_lt n.known.version a.known.version ≡ true = is_less n.known.version a.known.version s in
          let it : AreSaidBy P (sent_to c (row_messages r.lines p (listening r own m) (Some a.known))) (Rows (record { partition = p; version = a.known.version } ∷ []) ∷ []) =
          subst (λ xs. AreSaidBy P xs (Rows (record { partition = p; version = a.known.version } ∷ []) ∷ []))
          (sym (rows_sent c r.lines ((p, a.known) ∷ []) (listening r own m) name (listens_here r own c m name near))) (tells a refl, tt)
          in
          rw (f, t) it

      by : (b : Node) × (Some a ≡ Some b) × GoesOn n b → AreSaidBy P (sent_to c (row_messages r.lines p (listening r own m) (if_newer n.known.version a.known))) (rows_said p (Some n) (Some a))
      by (b, s, g) = let same : b ≡ a = cc in ⊎_elim stays rises (subst (GoesOn n) same g)

  rows_here : AreSaidBy P (sent_to c (row_messages r.lines p (listening r own m) (adopted_since (version_known w m) u m))) (rows_said p (slice_get w.nodes m) (slice_get u.nodes m))
  rows_here = rows_at (slice_get w.nodes m) (slice_get u.nodes m) speaks.rows (λ n at. node_on o w m n at e) (λ a at. node_back o w e m a at)

  no_rows : (k : ℕ) → k ≢ m → (row : Option Row) → sent_to c (row_messages r.lines p (listening r own k) row) ≡ []
  no_rows k apart None = refl
  no_rows k apart (Some row) = no_rows_sent c r.lines ((p, row) ∷ []) (listening r own k) (listens_nowhere r own c m name near k apart)

  -- answers

  answer_says : (x : Executed Request) (b : Bool) → In (Called x) u.recorded.log → (x.conn == c) ≡ b → AreSaidBy P (sent_to c (answer_messages r own (answer x))) (cond b (Answer x.number x.reply ∷ []) [])
  answer_says x false i f = subst (λ xs. AreSaidBy P xs []) (sym (unsent c (message_of r.lines (answer x)) (hears r own x.conn) f)) tt
  answer_says x true i t =
      let heard : hears r own x.conn ≡ true = ap (hears r own) (same_number x.conn c t) ∙ it_hears r own c m name near in
      subst (λ xs. AreSaidBy P xs (Answer x.number x.reply ∷ [])) (sym (ap (λ b. sent_to c (cond b (message_of r.lines (answer x) ∷ []) [])) heard ∙ sent c (message_of r.lines (answer x)) t)) (speaks.answers x i (same_number x.conn c t), tt)

  module _ (x : Executed Request) (logged : In (Called x) u.recorded.log) (placed : home x.call ≡ p) where
    change_says : (change : Option Change) → change_by o (state_before o u x) x.call x.now ≡ change
        → AreSaidBy P (sent_to c (events_to r.lines (change_events p (answer x) change (listening r own m)))) (said_change (keyed settings c name client) p x (key_changed name change))
    change_says None s = tt
    change_says (Some d) s = subst (λ xs. AreSaidBy P xs (said_change (keyed settings c name client) p x (key_changed name (Some d)))) (sym (change_sent c r.lines p (answer x) d (listening r own m) name (listens_here r own c m name near))) (go (bytes_eq name d.name) refl)
      where
        here : (partition_of_key d.key == p) ≡ true
        here = number_same (partition_of_key d.key) p (sym (change_key x.call.call _ _ x.now x.call.partition d s) ∙ placed)

        go : (b : Bool) → bytes_eq name d.name ≡ b
            → AreSaidBy P (cond b (spelled (invalidation_frames invalidations_correlation p x.version x.seen d.name d.key) ∷ []) []) (said_change (keyed settings c name client) p x (cond b (Some d.key) None))
        go false t = tt
        go true t = rw here (subst (λ q. P (spelled (invalidation_frames invalidations_correlation p x.version x.seen q d.key)) (Invalidation d.key x.version x.seen)) ((bytes_eq-Decides name d.name).0 t) (speaks.changes x logged d s t), tt)

    -- a release says the change and the answer
    release_says : flat_map (invalidations p m x) changes ≡ said_change (keyed settings c name client) p x (key_changed name (change_by o (state_before o u x) x.call x.now))
        → AreSaidBy P (sent_to c (release_messages r own p (listening r own m) (answer x))) (said_of p m c changes x)
    release_says told =
        subst (λ xs. AreSaidBy P xs (said_of p m c changes x)) (sym (sent_to-append c (events_to r.lines (change_events p (answer x) (answer x).change (listening r own m))) (answer_messages r own (answer x))))
        (subst (λ ys. AreSaidBy P (sent_to c (events_to r.lines (change_events p (answer x) (answer x).change (listening r own m))) ++ sent_to c (answer_messages r own (answer x))) (ys ++ cond (x.conn == c) (Answer x.number x.reply ∷ []) [])) (sym told)
        (said-append P (sent_to c (events_to r.lines (change_events p (answer x) (answer x).change (listening r own m)))) (sent_to c (answer_messages r own (answer x))) _ _
        (change_says (change_by o (state_before o u x) x.call x.now) refl) (answer_says x (x.conn == c) logged refl)))

  -- at another member nothing is sent
  no_change : (x : Executed Request) (k : ℕ) → k ≢ m → (change : Option Change) → sent_to c (events_to r.lines (change_events p (answer x) change (listening r own k))) ≡ []
  no_change x k apart None = refl
  no_change x k apart (Some d) = no_change_sent c r.lines p (answer x) d (listening r own k) (listens_nowhere r own c m name near k apart)

  no_release : (x : Executed Request) (k : ℕ) → k ≢ m → (x.conn ≡ c → ⊥) → sent_to c (release_messages r own p (listening r own k) (answer x)) ≡ []
  no_release x k apart other =
      sent_to-append c (events_to r.lines (change_events p (answer x) (answer x).change (listening r own k))) (answer_messages r own (answer x))
      ∙ ap (λ ys. ys ++ sent_to c (answer_messages r own (answer x))) (no_change x k apart (answer x).change)
      ∙ unsent c (message_of r.lines (answer x)) (hears r own x.conn) (number_other x.conn c other)

  -- ---- all answers of the event

  module _ (once : IsOnce u.recorded.log) (released : (h : Held) → In h (drop (length w.released) u.released) → (k : ℕ) × (IsStepOf e k × WasCalled es k (answered_call h))) where
    abbrev pub answers : List (Executed Request)
    answers = released_between w u

    -- each is of a logged call, which reached a member that takes this step
    pub answer_is : (x : Executed Request) → In x answers → In (Called x) u.recorded.log × ((k : ℕ) × (IsStepOf e k × WasCalled es k (name_of x)))
    answer_is x i =
        let a = flat_map_in (λ (h : Held). flat_map (called_in h) u.recorded.log) (drop (length w.released) u.released) x i in
        let b = flat_map_in (called_in a.0) u.recorded.log x a.2 in
        let d = called_is a.0 b.0 x b.2 in
        let f = released a.0 a.1 in
        (subst (λ y. In y u.recorded.log) (sym d.0) b.1, (f.0, (f.1.0, subst (WasCalled es f.0) (sym d.1) f.1.1)))

    all_answers : (k : ℕ) → sent_to c (flat_map (release_messages r own p (listening r own k)) (released_by o (change_by o) w u)) ≡ flat_map (λ x. sent_to c (release_messages r own p (listening r own k) (answer x))) answers
    all_answers k =
        ap (λ as'. sent_to c (flat_map (release_messages r own p (listening r own k)) as')) (answers_listed o (change_by o) u (drop (length w.released) u.released) once)
        ∙ ap (sent_to c) (flat_map_map (release_messages r own p (listening r own k)) answer answers)
        ∙ sent_to-flat_map c (λ x. release_messages r own p (listening r own k) (answer x)) answers

    -- where the event is a step of the connection's member
    pub says_here : ((x : Executed Request) → In (Called x) u.recorded.log → home x.call ≡ p)
        → ((x : Executed Request) → In (Called x) u.recorded.log → WasCalled es m (name_of x) → flat_map (invalidations p m x) changes ≡ said_change (keyed settings c name client) p x (key_changed name (change_by o (state_before o u x) x.call x.now)))
        → ((k : ℕ) → IsStepOf e k → k ≡ m)
        → AreSaidBy P (sent_to c (messages_by o r own p m w u)) (rows_said p (slice_get w.nodes m) (slice_get u.nodes m) ++ flat_map (said_of p m c changes) (released_between w u))
    says_here placed told step =
        subst (λ xs. AreSaidBy P xs (rows_said p (slice_get w.nodes m) (slice_get u.nodes m) ++ flat_map (said_of p m c changes) (released_between w u)))
        (sym (sent_to-append c (row_messages r.lines p (listening r own m) (adopted_since (version_known w m) u m)) (flat_map (release_messages r own p (listening r own m)) (released_by o (change_by o) w u))
        ∙ ap (λ ys. sent_to c (row_messages r.lines p (listening r own m) (adopted_since (version_known w m) u m)) ++ ys) (all_answers m)))
        (said-append P (sent_to c (row_messages r.lines p (listening r own m) (adopted_since (version_known w m) u m))) (flat_map (λ x. sent_to c (release_messages r own p (listening r own m) (answer x))) answers) _ _
        rows_here (said-flat_map P (λ x. sent_to c (release_messages r own p (listening r own m) (answer x))) (said_of p m c changes) answers each))
      where
        each : (x : Executed Request) → In x (released_between w u) → AreSaidBy P (sent_to c (release_messages r own p (listening r own m) (answer x))) (said_of p m c changes x)
        each x i =
            let it = answer_is x i in
            release_says x it.0 (placed x it.0) (told x it.0 (subst (λ k. WasCalled es k (name_of x)) (step it.1.0 it.1.1.0) it.1.1.1))

    -- where it is a step of another one
    module _ (own_calls : (k number : ℕ) → WasCalled es k (record { conn = c; number = number }) → k ≡ m) where
      not_own : (x : Executed Request) (k : ℕ) → WasCalled es k (name_of x) → k ≢ m → x.conn ≡ c → ⊥
      not_own x k called apart s = apart (own_calls k x.number (subst (λ n. WasCalled es k (record { conn = n; number = x.number })) s called))

      pub nothing_sent : (k : ℕ) → k ≢ m → ((j : ℕ) → IsStepOf e j → j ≡ k) → sent_to c (messages_by o r own p k w u) ≡ []
      nothing_sent k apart step =
          sent_to-append c (row_messages r.lines p (listening r own k) (adopted_since (version_known w k) u k)) (flat_map (release_messages r own p (listening r own k)) (released_by o (change_by o) w u))
          ∙ ap (λ ys. ys ++ sent_to c (flat_map (release_messages r own p (listening r own k)) (released_by o (change_by o) w u))) (no_rows k apart (adopted_since (version_known w k) u k))
          ∙ all_answers k ∙ none_of answers (λ x i. each x i)
        where
          none_of : (xs : List (Executed Request)) → ((x : Executed Request) → In x xs → sent_to c (release_messages r own p (listening r own k) (answer x)) ≡ []) → flat_map (λ x. sent_to c (release_messages r own p (listening r own k) (answer x))) xs ≡ []
          none_of [] f = refl
          none_of (x ∷ xs) f = ap (λ ys. ys ++ flat_map (λ x. sent_to c (release_messages r own p (listening r own k) (answer x))) xs) (f x (inl refl)) ∙ none_of xs (λ y i. f y (inr i))

          each : (x : Executed Request) → In x (released_between w u) → sent_to c (release_messages r own p (listening r own k) (answer x)) ≡ []
          each x i =
              let it = answer_is x i in
              no_release x k apart (λ s. not_own x it.1.0 it.1.1.1 (λ z. apart (sym (step it.1.0 it.1.1.0) ∙ z)) s)

      pub nothing_said : ((x : Executed Request) (k : ℕ) → In (Called x) u.recorded.log → WasCalled es k (name_of x) → k ≢ m → flat_map (invalidations p m x) changes ≡ [])
          → (IsStepOf e m → ⊥) → rows_said {K = List ℕ} p (slice_get w.nodes m) (slice_get u.nodes m) ++ flat_map (said_of p m c changes) (released_between w u) ≡ []
      nothing_said none away = ap (λ ys. ys ++ flat_map (said_of p m c changes) (released_between w u)) (no_row (slice_get w.nodes m) (slice_get u.nodes m) (untouched o w e m away)) ∙ none_of answers (λ x i. each x i)
        where
          same_row : (n : Node) → rows_said {K = List ℕ} p (Some n) (Some n) ≡ []
          same_row n = let f : nat_lt n.known.version n.known.version ≡ false = is_not_less n.known.version n.known.version (le_refl n.known.version) in rw f refl

          no_row : (x y : Option Node) → y ≡ x → rows_said {K = List ℕ} p x y ≡ []
          no_row None y s = refl
          no_row (Some n) None s = refl
          no_row (Some n) (Some a) s = let same : a ≡ n = cc in subst (λ (z : Node). rows_said {K = List ℕ} p (Some n) (Some z) ≡ []) (sym same) (same_row n)

          none_of : (xs : List (Executed Request)) → ((x : Executed Request) → In x xs → said_of p m c changes x ≡ []) → flat_map (said_of p m c changes) xs ≡ []
          none_of [] f = refl
          none_of (x ∷ xs) f = ap (λ ys. ys ++ flat_map (said_of p m c changes) xs) (f x (inl refl)) ∙ none_of xs (λ y i. f y (inr i))

          each : (x : Executed Request) → In x (released_between w u) → said_of p m c changes x ≡ []
          each x i =
              let it = answer_is x i in
              let apart : it.1.0 ≢ m = λ s. away (subst (IsStepOf e) s it.1.1.0) in
              let f : (x.conn == c) ≡ false = number_other x.conn c (λ s. not_own x it.1.0 it.1.1.1 apart s) in
              ap (λ ys. ys ++ cond (x.conn == c) (Answer x.number x.reply ∷ []) []) (none x it.1.0 it.0 it.1.1.1 apart) ∙ ap (λ b. cond b (Answer x.number x.reply ∷ []) []) f
