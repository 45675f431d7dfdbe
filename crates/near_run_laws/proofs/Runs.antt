-- Of every run: what an event brings to a near connection is what the machine says at it.
use Rattle.std.proofs.Common.{◌≡◌, ◌≢◌, ℕ, ◌≤◌, Bool, true, false, cond, ◌&&◌, ◌==◌, List, [], ◌∷◌, ◌++◌, map, filter, length, drop, Option, Some, None, nat_lt, slice_get, refl, ap, sym, ◌∙◌, subst, ◌⊎◌, ⊎_elim, inl, inr, append_assoc, append-nil, le_refl}
use Rattle.std.specs.List.{flat_map}
use Rattle.grid_base.specs.Objects.{Object}
use Rattle.grid_base.specs.declared.calls.Request.{Request}
use Rattle.partition_table.specs.declared.Row.{Row}
use Rattle.partition_protocol.specs.Node.{Held, Node}
use Rattle.partition_protocol.specs.History.{Executed, Called}
use Rattle.partition_protocol.specs.World.{World, start}
use Rattle.partition_protocol.specs.Events.{Event, Call, Deliver, Lose, Repeat, Resend, Crash, Detect, BeginMove, BeginJoin, BeginHandover, Advance, Reopen, Outcome, happens, run}
use Rattle.partition_protocol.specs.Arrivals.{Asked, asked_by, arrivals}
use Rattle.partition_protocol.specs.Answers.{answered_call}
use Rattle.partition_protocol.specs.HistorySizes.{asked_of}
use Rattle.partition_protocol.proofs.Lists.{In, in_cases, in_contains, contains_in}
use Rattle.partition_protocol.proofs.RowFacts.{number_other, number_cases, is_not_less}
use Rattle.partition_protocol.proofs.HistorySizes.{every_logged_call_arrived}
use Rattle.partition_protocol.proofs.Theorem.{every_run_is_safe}
use Rattle.object_store.specs.Partitions.{Partition}
use Rattle.call_engine.specs.Calls.{Settings}
use Rattle.call_engine.specs.Objects.{partition_object}
use Rattle.partition_world.specs.Answers.{state_before}
use Rattle.near_protocol.specs.Keyed.{Keyed}
use Rattle.near_protocol.specs.Client.{Said, Refusal}
use Rattle.near_protocol.specs.Near.{At as MachineAt, Grid, new_grid, is_at, events_at, world, happened, all_happened, name_of, released_between, invalidations, said_of, rows_said, is_refused, refusal_said}
use Rattle.near_protocol.specs.Claims.{AreNamedOnce}
use Rattle.near_protocol.specs.Laws.{IsStepOf}
use Rattle.near_protocol.proofs.Orders.{IsOnce}
use Rattle.near_protocol.proofs.Holders.{every_answer_is_of_its_member}
use Rattle.near_protocol.proofs.Attaching.{all_members}
use Rattle.near_protocol.proofs.Moves.{event_later, named_later}
use Rattle.grid_client.specs.Nears.{Value}
use Rattle.replay_run.specs.Changes.{change_by}
use Rattle.replay_run.specs.ScriptRuns.{home}
use Rattle.replay_run.specs.Runs.{Run, Arrival, At, Appended, world_at, call_of, refused_by, messages_by, happening, taker_of, given_to, given_out}
use Rattle.replay_run.specs.Runs as replay
use Rattle.near_run_laws.specs.Maps.{key_changed, keyed}
use Rattle.near_run_laws.specs.Messages.{sent_to, AreBytesOf, AreSaidBy}
use Rattle.near_run_laws.specs.NearConnections.{machine_events, grid_of, grid_after, IsRight, IsNear, EveryCallSays, EveryEventSays}
use Rattle.near_run_laws.proofs.Moments.{WasCalled, call_keeps_row}
use Rattle.near_run_laws.proofs.Changes.{said_change, ChangesRan, ChangesTold, none_elsewhere, events_here, world_here, ran_next, told_here, run_told}
use Rattle.near_run_laws.proofs.Sent.{sent_to-append, said-append}
use Rattle.near_run_laws.proofs.Says.{Speaks, speak_bytes, refused_says, not_refused, says_here, nothing_sent, nothing_said}

-- ---- the machine's grid is that of the run

same_events : (p : ℕ) (es : List At) → events_at p (machine_events es) ≡ replay.events_at p es
same_events p [] = refl
same_events p (e ∷ es) = go (e.partition == p) (same_events p es)
  where
    at : MachineAt Request
    at = record { partition = e.partition; event = e.event }

    go : (b : Bool) → events_at p (machine_events es) ≡ replay.events_at p es
        → map (λ (x : MachineAt Request). x.event) (cond b (record { partition = e.partition; event = e.event } ∷ filter (is_at p) (machine_events es)) (filter (is_at p) (machine_events es)))
        ≡ map (λ (x : At). x.event) (cond b (e ∷ filter (replay.is_at p) es) (filter (replay.is_at p) es))
    go true ih = ap (λ ys. e.event ∷ ys) ih
    go false ih = ih

all_events : {C State K V : Type 0} (o : Object C State) (l : Keyed C State K V) (g : Grid C K) (es : List (MachineAt C)) → (all_happened o l g es).events ≡ g.events ++ es
all_events o l g [] = sym (append-nil g.events)
all_events o l g (e ∷ es) = all_events o l (happened o l g e.partition e.event) es ∙ append_assoc g.events (e ∷ []) es

all_backups : {C State K V : Type 0} (o : Object C State) (l : Keyed C State K V) (g : Grid C K) (es : List (MachineAt C)) → (all_happened o l g es).backups ≡ g.backups
all_backups o l g [] = refl
all_backups o l g (e ∷ es) = all_backups o l (happened o l g e.partition e.event) es

module _ (settings : Settings) (c : ℕ) (name : List ℕ) (client : ℕ) (r : Run) where
  abbrev pub grid : Grid Request (List ℕ)
  grid = grid_of settings c name client r

  pub events_is : (p : ℕ) → events_at p grid.events ≡ replay.events_at p r.events
  events_is p = ap (events_at p) (all_events (partition_object settings) (keyed settings c name client) (new_grid r.members r.backups) (machine_events r.events)) ∙ same_events p r.events

  pub members_is : grid.members ≡ r.members
  members_is = all_members (partition_object settings) (keyed settings c name client) (new_grid r.members r.backups) (machine_events r.events)

  pub backups_is : grid.backups ≡ r.backups
  backups_is = all_backups (partition_object settings) (keyed settings c name client) (new_grid r.members r.backups) (machine_events r.events)

  pub world_is : (p : ℕ) → world (partition_object settings) grid p ≡ world_at (partition_object settings) r p
  world_is p =
      ap (λ n. run (partition_object settings) (start p n grid.backups) (events_at p grid.events)) members_is
      ∙ ap (λ n. run (partition_object settings) (start p r.members n) (events_at p grid.events)) backups_is
      ∙ ap (run (partition_object settings) (start p r.members r.backups)) (events_is p)

-- ---- calls that arrived

asked_event : {C : Type 0} (e : Event C) (a : Asked C) → In a (asked_by e) → (k : ℕ) × (e ≡ Call k a.conn a.number a.call a.now)
asked_event {C} (Call m conn number call now) a (inl s) = (m, ap (λ (b : Asked C). Call m b.conn b.number b.call b.now) s)
asked_event (Call m conn number call now) a (inr i) = absurd i
asked_event (Deliver f t k) a i = absurd i
asked_event (Lose f t k) a i = absurd i
asked_event (Repeat f t k) a i = absurd i
asked_event (Resend k) a i = absurd i
asked_event (Crash k) a i = absurd i
asked_event (Detect k) a i = absurd i
asked_event (BeginMove f t) a i = absurd i
asked_event (BeginJoin t) a i = absurd i
asked_event (BeginHandover f t) a i = absurd i
asked_event Advance a i = absurd i
asked_event Reopen a i = absurd i

pub arrived_event : {C : Type 0} (es : List (Event C)) (a : Asked C) → In a (arrivals es) → (k : ℕ) × In (Call k a.conn a.number a.call a.now) es
arrived_event [] a i = absurd i
arrived_event {C} (e ∷ es) a i = ⊎_elim (λ j. let f = asked_event e a j in (f.0, inl f.1)) (λ j. let f = arrived_event es a j in (f.0, inr f.1)) (in_cases a (asked_by e) (arrivals es) i)

-- ---- events that are no calls

pub quiet_right : (c m p : ℕ) (e : Event Request) → asked_by e ≡ [] → IsRight c m p e
quiet_right c m p (Call k conn number request now) none = absurd cc
quiet_right c m p (Deliver f t k) none = tt
quiet_right c m p (Lose f t k) none = tt
quiet_right c m p (Repeat f t k) none = tt
quiet_right c m p (Resend k) none = tt
quiet_right c m p (Crash k) none = tt
quiet_right c m p (Detect k) none = tt
quiet_right c m p (BeginMove f t) none = tt
quiet_right c m p (BeginJoin t) none = tt
quiet_right c m p (BeginHandover f t) none = tt
quiet_right c m p Advance none = tt
quiet_right c m p Reopen none = tt

quiet_refusal : (c : ℕ) (e : Event Request) (outcome : Outcome) → asked_by e ≡ [] → refusal_said {K = List ℕ} c e outcome ≡ []
quiet_refusal c (Call k conn number request now) outcome none = absurd cc
quiet_refusal c (Deliver f t k) outcome none = refl
quiet_refusal c (Lose f t k) outcome none = refl
quiet_refusal c (Repeat f t k) outcome none = refl
quiet_refusal c (Resend k) outcome none = refl
quiet_refusal c (Crash k) outcome none = refl
quiet_refusal c (Detect k) outcome none = refl
quiet_refusal c (BeginMove f t) outcome none = refl
quiet_refusal c (BeginJoin t) outcome none = refl
quiet_refusal c (BeginHandover f t) outcome none = refl
quiet_refusal c Advance outcome none = refl
quiet_refusal c Reopen outcome none = refl

-- whose step it is
abbrev pub Taken : Event Request → Type 0
Taken e = ((taker_of e ≡ None) × ((k : ℕ) → IsStepOf e k → ⊥)) ⊎ ((t : ℕ) × (taker_of e ≡ Some t) × ((k : ℕ) → IsStepOf e k → k ≡ t))

taken : (e : Event Request) → asked_by e ≡ [] → Taken e
taken (Call k conn number request now) none = absurd cc
taken (Deliver f t k) none = inr (t, refl, λ j s. sym s)
taken (Lose f t k) none = inl (refl, λ j s. s)
taken (Repeat f t k) none = inl (refl, λ j s. s)
taken (Resend k) none = inl (refl, λ j s. s)
taken (Crash k) none = inl (refl, λ j s. s)
taken (Detect k) none = inl (refl, λ j s. s)
taken (BeginMove f t) none = inl (refl, λ j s. s)
taken (BeginJoin t) none = inl (refl, λ j s. s)
taken (BeginHandover f t) none = inl (refl, λ j s. s)
taken Advance none = inl (refl, λ j s. s)
taken Reopen none = inl (refl, λ j s. s)

-- ---- one event

-- a partition's world after it
abbrev pub after_event : Settings → Run → ℕ → List ℕ → ℕ → ℕ → Event Request → World Request
after_event settings r c name client p e = (happens (partition_object settings) (world (partition_object settings) (grid_of settings c name client r) p) e).world

module _ (settings : Settings) (r : Run) (c m : ℕ) (name : List ℕ) (client : ℕ) (one : 1 ≤ r.members) (near : IsNear r c m name) (p : ℕ) (e : Event Request) (right : IsRight c m p e) (named : AreNamedOnce (grid_after settings c name client r p e))
    (P : List ℕ → Said (List ℕ) → Type 0) (speaks : Speaks settings P c m name p (after_event settings r c name client p e)) where
  abbrev pub o : Object Request Partition
  o = partition_object settings

  abbrev pub l : Keyed Request Partition (List ℕ) Value
  l = keyed settings c name client

  abbrev pub g : Grid Request (List ℕ)
  g = grid_of settings c name client r

  abbrev pub next : Grid Request (List ℕ)
  next = happened o l g p e

  abbrev pub w : World Request
  w = world o g p

  abbrev pub u : World Request
  u = (happens o w e).world

  abbrev pub es : List (Event Request)
  es = events_at p next.events

  one_here : 1 ≤ g.members
  one_here = subst (λ k. 1 ≤ k) (sym (members_is settings c name client r)) one

  before_it : AreNamedOnce g
  before_it = named_later g next (event_later o l g p e) named

  recorded : ChangesRan o l g × ChangesTold o l g
  recorded = run_told o l r.members r.backups (machine_events r.events) one before_it

  events_next : events_at p next.events ≡ events_at p g.events ++ e ∷ []
  events_next = events_here o l g p e one_here recorded.0

  world_next : world o next p ≡ u
  world_next = world_here o l g p e one_here recorded.0

  once : IsOnce u.recorded.log
  once = subst (λ (z : World Request). IsOnce z.recorded.log) world_next (every_run_is_safe o p g.members g.backups (events_at p next.events) one_here (named p)).1.once

  released : (h : Held) → In h (drop (length w.released) u.released) → (k : ℕ) × (IsStepOf e k × WasCalled es k (answered_call h))
  released h i =
      let f = (every_answer_is_of_its_member o p g.members g.backups (events_at p g.events) e).1 h (contains_in h (drop (length w.released) u.released) i) in
      (f.0, (f.1, (f.2.0, f.2.1, subst (In (Call f.0 h.conn h.number f.2.0 f.2.1)) (sym events_next) (in_contains (Call f.0 h.conn h.number f.2.0 f.2.1) (events_at p g.events ++ e ∷ []) f.2.2))))

  all_right : (d : Event Request) → In d es → IsRight c m p d
  all_right d i = ⊎_elim old new (in_cases d (events_at p g.events) (e ∷ []) (subst (In d) events_next i))
    where
      old : In d (events_at p g.events) → IsRight c m p d
      old j = near.events p d (contains_in d (replay.events_at p r.events) (subst (In d) (events_is settings c name client r p) j))

      new : In d (e ∷ []) → IsRight c m p d
      new (inl s) = subst (IsRight c m p) s right
      new (inr j) = absurd j

  placed : (x : Executed Request) → In (Called x) u.recorded.log → home x.call ≡ p
  placed x i =
      let there : In (Called x) (world o next p).recorded.log = subst (λ (z : World Request). In (Called x) z.recorded.log) (sym world_next) i in
      let came = (every_logged_call_arrived o p g.members g.backups (events_at p next.events)).each x (contains_in (Called x) (world o next p).recorded.log there) in
      let event = arrived_event (events_at p next.events) (asked_of x) (in_contains (asked_of x) (arrivals (events_at p next.events)) came) in
      (all_right (Call event.0 x.conn x.number x.call x.now) event.1).0

  own_calls : (k number : ℕ) → WasCalled es k (record { conn = c; number = number }) → k ≡ m
  own_calls k number (request, now, i) = ((all_right (Call k c number request now) i).1 refl).0

  told : (x : Executed Request) → In (Called x) u.recorded.log → WasCalled es m (name_of x)
      → flat_map (invalidations p m x) next.changes ≡ said_change l p x (key_changed name (change_by o (state_before o u x) x.call x.now))
  told x i called = told_here o l g p e one_here recorded.0 recorded.1 (named p) x m i called

  none : (x : Executed Request) (k : ℕ) → In (Called x) u.recorded.log → WasCalled es k (name_of x) → k ≢ m → flat_map (invalidations p m x) next.changes ≡ []
  none x k i called apart = none_elsewhere o l next (ran_next o l g p e one_here recorded.0) p m k x (named p) called apart

  abbrev pub rows : List (Said (List ℕ))
  rows = rows_said p (slice_get w.nodes m) (slice_get u.nodes m)

  abbrev pub freed : List (Said (List ℕ))
  freed = flat_map (said_of p m c next.changes) (released_between w u)

  pub here : (own : Option ℕ) → ((k : ℕ) → IsStepOf e k → k ≡ m) → AreSaidBy P (sent_to c (messages_by o r own p m w u)) (rows ++ freed)
  here own step = says_here settings r own c m name client near p w e next.changes es P speaks once released placed told step

  pub unsent : (own : Option ℕ) (k : ℕ) → k ≢ m → ((j : ℕ) → IsStepOf e j → j ≡ k) → sent_to c (messages_by o r own p k w u) ≡ []
  unsent own k apart step = nothing_sent settings r own c m name client near p w e next.changes es P speaks once released own_calls k apart step

  pub unsaid : (IsStepOf e m → ⊥) → rows ++ freed ≡ []
  unsaid away = nothing_said settings r None c m name client near p w e next.changes es P speaks once released own_calls none away

-- ---- of a call

module _ (settings : Settings) (r : Run) (c m : ℕ) (name : List ℕ) (client : ℕ) (own : Option ℕ) (a : Arrival) (one : 1 ≤ r.members) (near : IsNear r c m name)
    (right : IsRight c m a.request.partition (call_of a)) (named : AreNamedOnce (grid_after settings c name client r a.request.partition (call_of a)))
    (P : List ℕ → Said (List ℕ) → Type 0) (speaks : Speaks settings P c m name a.request.partition (after_event settings r c name client a.request.partition (call_of a))) where
  abbrev pub before : World Request
  before = world (partition_object settings) (grid_of settings c name client r) a.request.partition

  abbrev pub after : World Request
  after = (happens (partition_object settings) before (call_of a)).world

  abbrev pub outcome : Outcome
  outcome = (happens (partition_object settings) before (call_of a)).outcome

  abbrev pub refusal : List (Said (List ℕ))
  refusal = cond (is_refused outcome && (a.request.id.conn == c)) (Refusal a.request.id.number ∷ []) []

  abbrev pub told_rows : List (Said (List ℕ))
  told_rows = rows_said a.request.partition (slice_get before.nodes m) (slice_get after.nodes m)

  abbrev pub given : List (Said (List ℕ))
  given = flat_map (said_of a.request.partition m c (grid_after settings c name client r a.request.partition (call_of a)).changes) (released_between before after)

  refused : AreSaidBy P (sent_to c (refused_by a.made a.request outcome)) refusal
  refused = refused_says c a.made a.request.id.number a.request P speaks.refuses (λ s. let its = (right.1 s).1 in (its.correlation, its.small)) outcome (not_refused (partition_object settings) before a.member a.request.id.conn a.request.id.number a.request a.now)

  -- a call makes no member adopt a row
  no_rows : a.member ≡ m → told_rows ≡ []
  no_rows s = by (slice_get before.nodes m) refl (slice_get after.nodes m) refl
    where
      by : (x : Option Node) → slice_get before.nodes m ≡ x → (y : Option Node) → slice_get after.nodes m ≡ y → rows_said {K = List ℕ} a.request.partition x y ≡ []
      by None e y f = refl
      by (Some n) e None f = refl
      by (Some n) e (Some b) f =
          let kept = call_keeps_row (partition_object settings) before a.member a.request.id.conn a.request.id.number a.request a.now n (ap (slice_get before.nodes) s ∙ e) in
          let same : kept.0 ≡ b = (let both : Some kept.0 ≡ Some b = sym kept.1 ∙ ap (slice_get after.nodes) s ∙ f in cc) in
          let version : b.known.version ≡ n.known.version = ap (λ (z : Node). z.known.version) (sym same) ∙ ap (λ (row : Row). row.version) kept.2 in
          let t : nat_lt n.known.version b.known.version ≡ false = is_not_less n.known.version b.known.version (subst (λ k. k ≤ n.known.version) (sym version) (le_refl n.known.version)) in
          rw t refl

  says_at : a.member ≡ m → AreSaidBy P (sent_to c (refused_by a.made a.request outcome) ++ sent_to c (messages_by (partition_object settings) r own a.request.partition m before after)) (told_rows ++ (refusal ++ given))
  says_at s =
      let both = said-append P (sent_to c (refused_by a.made a.request outcome)) (sent_to c (messages_by (partition_object settings) r own a.request.partition m before after)) refusal (told_rows ++ given)
      refused (here settings r c m name client one near a.request.partition (call_of a) right named P speaks own (λ k z. sym z ∙ s)) in
      subst (λ ys. AreSaidBy P (sent_to c (refused_by a.made a.request outcome) ++ sent_to c (messages_by (partition_object settings) r own a.request.partition m before after)) (ys ++ (refusal ++ given))) (sym (no_rows s))
      (subst (λ ys. AreSaidBy P (sent_to c (refused_by a.made a.request outcome) ++ sent_to c (messages_by (partition_object settings) r own a.request.partition m before after)) (refusal ++ (ys ++ given))) (no_rows s) both)

  silent : a.member ≢ m → AreSaidBy P (sent_to c (refused_by a.made a.request outcome) ++ sent_to c (messages_by (partition_object settings) r own a.request.partition a.member before after)) (told_rows ++ (refusal ++ given))
  silent d =
      let other : (a.request.id.conn == c) ≡ false = number_other a.request.id.conn c (λ s. d ((right.1 s).0)) in
      let none : refusal ≡ [] = ap (λ b. cond (is_refused outcome && b) (Refusal a.request.id.number ∷ []) []) other ∙ no_refusal (is_refused outcome) (Refusal a.request.id.number ∷ []) in
      subst (λ xs. AreSaidBy P (sent_to c (refused_by a.made a.request outcome) ++ xs) (told_rows ++ (refusal ++ given)))
      (sym (unsent settings r c m name client one near a.request.partition (call_of a) right named P speaks own a.member d (λ j z. sym z)))
      (subst (λ ys. AreSaidBy P (sent_to c (refused_by a.made a.request outcome) ++ []) (told_rows ++ (ys ++ given))) (sym none)
      (subst (λ ys. AreSaidBy P (sent_to c (refused_by a.made a.request outcome) ++ []) ys) (sym (unsaid settings r c m name client one near a.request.partition (call_of a) right named P speaks (λ z. d z)))
      (said-append P (sent_to c (refused_by a.made a.request outcome)) [] [] [] (subst (AreSaidBy P (sent_to c (refused_by a.made a.request outcome))) none refused) tt)))
    where
      no_refusal : (b : Bool) (ms : List (Said (List ℕ))) → cond (b && false) ms [] ≡ []
      no_refusal true ms = refl
      no_refusal false ms = refl

  pub call_says : AreSaidBy P (sent_to c (happening (partition_object settings) r own a)) (told_rows ++ (refusal ++ given))
  call_says = subst
      (λ (z : World Request). AreSaidBy P (sent_to c (refused_by a.made a.request (happens (partition_object settings) z (call_of a)).outcome ++ messages_by (partition_object settings) r own a.request.partition a.member z (happens (partition_object settings) z (call_of a)).world)) (told_rows ++ (refusal ++ given)))
      (world_is settings c name client r a.request.partition)
      (subst (λ xs. AreSaidBy P xs (told_rows ++ (refusal ++ given))) (sym (sent_to-append c (refused_by a.made a.request outcome) (messages_by (partition_object settings) r own a.request.partition a.member before after)))
      (⊎_elim at_it silent (number_cases a.member m)))
    where
      at_it : a.member ≡ m → AreSaidBy P (sent_to c (refused_by a.made a.request outcome) ++ sent_to c (messages_by (partition_object settings) r own a.request.partition a.member before after)) (told_rows ++ (refusal ++ given))
      at_it s = subst (λ k. AreSaidBy P (sent_to c (refused_by a.made a.request outcome) ++ sent_to c (messages_by (partition_object settings) r own a.request.partition k before after)) (told_rows ++ (refusal ++ given))) (sym s) (says_at s)

pub every_call_says : EveryCallSays
every_call_says settings r c m name client own a one near right named = call_says settings r c m name client own a one near right named (AreBytesOf name) (speak_bytes settings c m name a.request.partition (after_event settings r c name client a.request.partition (call_of a)))

-- ---- of any other event

module _ (settings : Settings) (r : Run) (c m : ℕ) (name : List ℕ) (client p : ℕ) (e : Event Request) (one : 1 ≤ r.members) (near : IsNear r c m name) (quiet : asked_by e ≡ [])
    (named : AreNamedOnce (grid_after settings c name client r p e)) (P : List ℕ → Said (List ℕ) → Type 0) (speaks : Speaks settings P c m name p (after_event settings r c name client p e)) where
  its_right : IsRight c m p e
  its_right = quiet_right c m p e quiet

  abbrev pub old : World Request
  old = world (partition_object settings) (grid_of settings c name client r) p

  abbrev pub new : World Request
  new = (happens (partition_object settings) old e).world

  abbrev pub rows_now : List (Said (List ℕ))
  rows_now = rows_said p (slice_get old.nodes m) (slice_get new.nodes m)

  abbrev pub given_now : List (Said (List ℕ))
  given_now = flat_map (said_of p m c (grid_after settings c name client r p e).changes) (released_between old new)

  -- no call is refused
  no_call : (xs : List (List ℕ)) → AreSaidBy P xs (rows_now ++ given_now) → AreSaidBy P xs (rows_now ++ (refusal_said c e (happens (partition_object settings) old e).outcome ++ given_now))
  no_call xs h = subst (λ ys. AreSaidBy P xs (rows_now ++ (ys ++ given_now))) (sym (quiet_refusal c e (happens (partition_object settings) old e).outcome quiet)) h

  nothing : (IsStepOf e m → ⊥) → AreSaidBy P [] (rows_now ++ given_now)
  nothing away = subst (AreSaidBy P []) (sym (unsaid settings r c m name client one near p e its_right named P speaks away)) tt

  of_taker : Taken e → AreSaidBy P (sent_to c (given_to (partition_object settings) r p e (taker_of e))) (rows_now ++ given_now)
  of_taker (inl (no_one, away)) = subst (λ t. AreSaidBy P (sent_to c (given_to (partition_object settings) r p e t)) (rows_now ++ given_now)) (sym no_one) (nothing (away m))
  of_taker (inr (t, is, step)) = subst (λ t. AreSaidBy P (sent_to c (given_to (partition_object settings) r p e t)) (rows_now ++ given_now)) (sym is)
      (subst (λ (z : World Request). AreSaidBy P (sent_to c (messages_by (partition_object settings) r None p t z (happens (partition_object settings) z e).world)) (rows_now ++ given_now)) (world_is settings c name client r p)
      (⊎_elim at_it elsewhere (number_cases t m)))
    where
      at_it : t ≡ m → AreSaidBy P (sent_to c (messages_by (partition_object settings) r None p t old new)) (rows_now ++ given_now)
      at_it s = subst (λ k. AreSaidBy P (sent_to c (messages_by (partition_object settings) r None p k old new)) (rows_now ++ given_now)) (sym s) (here settings r c m name client one near p e its_right named P speaks None (λ k z. step k z ∙ s))

      elsewhere : t ≢ m → AreSaidBy P (sent_to c (messages_by (partition_object settings) r None p t old new)) (rows_now ++ given_now)
      elsewhere d = subst (λ xs. AreSaidBy P xs (rows_now ++ given_now)) (sym (unsent settings r c m name client one near p e its_right named P speaks None t d step)) (nothing (λ z. d (sym (step m z))))

  pub event_says : AreSaidBy P (sent_to c (given_out (partition_object settings) r p e)) (rows_now ++ (refusal_said c e (happens (partition_object settings) old e).outcome ++ given_now))
  event_says = no_call (sent_to c (given_out (partition_object settings) r p e)) (of_taker (taken e quiet))

pub every_event_says : EveryEventSays
every_event_says settings r c m name client p e one near quiet named = event_says settings r c m name client p e one near quiet named (AreBytesOf name) (speak_bytes settings c m name p (after_event settings r c name client p e))
