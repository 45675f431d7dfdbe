-- The changes that a grid records as calls are executed are those that their answers tell of as they are released.
use Rattle.std.proofs.Common.{◌≡◌, ◌≢◌, ℕ, ◌≤◌, Bool, true, false, cond, ◌&&◌, ◌==◌, if◌then◌else◌, List, [], ◌∷◌, ◌++◌, map, Option, Some, None, refl, ap, sym, ◌∙◌, subst, ◌⊎◌, ⊎_elim, inl, inr, append-nil}
use Rattle.std.specs.List.{flat_map}
use Rattle.grid_base.specs.Objects.{Object}
use Rattle.partition_protocol.specs.Node.{Node}
use Rattle.partition_protocol.specs.Execution.{Executes, reached, executing}
use Rattle.partition_protocol.specs.History.{Executed, Called, Reset}
use Rattle.partition_protocol.specs.World.{World, is_live, map_or, pair_state}
use Rattle.partition_protocol.specs.Events.{Event, Call, Deliver, Lose, Repeat, Resend, Crash, Detect, BeginMove, BeginJoin, BeginHandover, Advance, Reopen, Happened, entry_of, happens}
use Rattle.partition_protocol.specs.Arrivals.{CallName, name, asked_by, arrivals, NamedOnce}
use Rattle.partition_protocol.specs.HistorySizes.{asked_of}
use Rattle.partition_protocol.proofs.Lists.{In, in_left, in_right, in_cases}
use Rattle.partition_protocol.proofs.Invariant.{NodeAt}
use Rattle.partition_protocol.proofs.RowFacts.{same_number, number_same, number_cases, both_left, both_right, both}
use Rattle.partition_protocol.proofs.Events.{Good}
use Rattle.partition_protocol.proofs.EventFacts.{call_executed, call_refused}
use Rattle.partition_protocol.proofs.Theorem.{grid_good}
use Rattle.partition_world.specs.Answers.{state_before}
use Rattle.partition_world.proofs.HeldAnswers.{IsNewlyNamed, newly_named, in_called, LogGoesOn, log_goes_on, before_stays, before_with}
use Rattle.near_protocol.specs.Keyed.{Keyed}
use Rattle.near_protocol.specs.Client.{Said, Invalidation}
use Rattle.near_protocol.specs.Near.{At, Change, Grid, new_grid, events_at, world, is_executed, changed, changes_by, happened, all_happened, is_same_name, name_of, is_change_by, invalidations}
use Rattle.near_protocol.specs.Claims.{AreNamedOnce}
use Rattle.near_protocol.proofs.Saying.{same_name, name_same, flat_map_append}
use Rattle.near_protocol.proofs.Worlds.{events_at-append, one_at, none_at, world_goes, Makes, makes, makes_logged}
use Rattle.near_protocol.proofs.Attaching.{logged_later}
use Rattle.near_protocol.proofs.Moves.{IsLater, same_grid, later_trans, event_later, named_later}
use Rattle.near_run_laws.proofs.Moments.{WasCalled, called_once, ReachesNone, IsExecuted, IsRefused, call_goes, none_happens}

-- what an answer says of its call's change
abbrev pub said_change : {C State K V : Type 0} → Keyed C State K V → ℕ → Executed C → Option K → List (Said K)
said_change l p x None = []
said_change l p x (Some k) = if l.partition k == p then Invalidation k x.version x.seen ∷ [] else []

-- each recorded change is of a call that reached its member and was executed
abbrev pub ChangesRan : {C State K V : Type 0} → Object C State → Keyed C State K V → Grid C K → Type 0
ChangesRan {C} {K = K} o l g = (c : Change K) → In c g.changes
    → WasCalled (events_at c.partition g.events) c.member c.call × ((x : Executed C) × In (Called x) (world o g c.partition).recorded.log × (name_of x ≡ c.call))

-- of each executed call the change is recorded that it made in the state before it
abbrev pub ChangesTold : {C State K V : Type 0} → Object C State → Keyed C State K V → Grid C K → Type 0
ChangesTold {C} o l g = (p : ℕ) (x : Executed C) (m : ℕ) → In (Called x) (world o g p).recorded.log → WasCalled (events_at p g.events) m (name_of x)
    → flat_map (invalidations p m x) g.changes ≡ said_change l p x (l.altered (state_before o (world o g p) x) x.call x.now)

-- where no change is of the call at that member
pub no_invalidations : {C K : Type 0} (p m : ℕ) (x : Executed C) (cs : List (Change K)) → ((c : Change K) → In c cs → c.partition ≡ p → c.member ≡ m → c.call ≡ name_of x → ⊥) → flat_map (invalidations p m x) cs ≡ []
no_invalidations p m x [] f = refl
no_invalidations {K = K} p m x (c ∷ cs) f = go (is_change_by p m (name_of x) c) refl (no_invalidations p m x cs (λ d i. f d (inr i)))
  where
    go : (b : Bool) → is_change_by p m (name_of x) c ≡ b → flat_map (invalidations p m x) cs ≡ [] → cond b (Invalidation c.key x.version x.seen ∷ []) [] ++ flat_map (invalidations p m x) cs ≡ []
    go false t ih = ih
    go true t ih =
        let rest = both_right (c.partition == p) ((c.member == m) && is_same_name c.call (name_of x)) t in
        absurd (f c (inl refl) (same_number c.partition p (both_left (c.partition == p) ((c.member == m) && is_same_name c.call (name_of x)) t))
        (same_number c.member m (both_left (c.member == m) (is_same_name c.call (name_of x)) rest)) (same_name c.call (name_of x) (both_right (c.member == m) (is_same_name c.call (name_of x)) rest)))

-- a call that was executed at another member changed nothing at this one
pub none_elsewhere : {C State K V : Type 0} (o : Object C State) (l : Keyed C State K V) (g : Grid C K) → ChangesRan o l g → (p m k : ℕ) (x : Executed C) → NamedOnce (map name (arrivals (events_at p g.events)))
    → WasCalled (events_at p g.events) k (name_of x) → (k ≡ m → ⊥) → flat_map (invalidations p m x) g.changes ≡ []
none_elsewhere {C} {K = K} o l g ran p m k x once called apart = no_invalidations p m x g.changes of_change
  where
    of_change : (c : Change K) → In c g.changes → c.partition ≡ p → c.member ≡ m → c.call ≡ name_of x → ⊥
    of_change c i part mem is =
        let at = (ran c i).0 in
        let here : WasCalled (events_at p g.events) c.member (name_of x) = subst (λ n. WasCalled (events_at p g.events) c.member n) is (subst (λ q. WasCalled (events_at q g.events) c.member c.call) part at) in
        apart (called_once (events_at p g.events) k c.member (name_of x) once called here ∙ mem)

-- a call that is executed now
pub record IsNewCall {C State : Type 0} (o : Object C State) (w : World C) (e : Event C) (x : Executed C) : Type 0 where
  pub member : ℕ
  pub conn : ℕ
  pub number : ℕ
  pub call : C
  pub now : ℕ
  pub node : Node
  pub at : NodeAt w.nodes member node
  pub lives : is_live w member ≡ true
  pub executes : reached member node ≡ Executes
  pub is : e ≡ Call member conn number call now
  pub entry : entry_of o (pair_state o w node.pair) conn number call now (executing (o.changes (pair_state o w node.pair) call now) conn number node).pair ≡ x

-- what stands in the log after an event
module _ {C State : Type 0} (o : Object C State) (w : World C) where
  pub no_call : (e : Event C) → asked_by e ≡ [] → (x : Executed C) → In (Called x) (happens o w e).world.recorded.log → In (Called x) w.recorded.log
  no_call e none x i = go (log_goes_on o w e)
    where
      not_reset : (r : ℕ) → In (Called x) (Reset r ∷ []) → In (Called x) w.recorded.log
      not_reset r (inl s) = absurd cc
      not_reset r (inr j) = absurd j

      go : LogGoesOn w e (happens o w e).world → In (Called x) w.recorded.log
      go (inl s) = subst (In (Called x)) s i
      go (inr (inl (r, s))) = ⊎_elim (λ j. j) (not_reset r) (in_cases (Called x) w.recorded.log (Reset r ∷ []) (subst (In (Called x)) s i))
      go (inr (inr (y, asked, s))) = absurd (let clash : [] ≡ asked_of y ∷ [] = sym none ∙ asked in cc)

  pub called_log : (m conn number : ℕ) (call : C) (now : ℕ) (x : Executed C) → In (Called x) (happens o w (Call m conn number call now)).world.recorded.log → In (Called x) w.recorded.log ⊎ IsNewCall o w (Call m conn number call now) x
  called_log m conn number call now x i = go (call_goes o w m conn number call now)
    where
      stays : (happens o w (Call m conn number call now)).world ≡ w → In (Called x) w.recorded.log
      stays s = subst (λ (u : World C). In (Called x) u.recorded.log) s i

      go : ReachesNone o w m conn number call now ⊎ IsExecuted o w m conn number call now ⊎ IsRefused o w m conn number call now → In (Called x) w.recorded.log ⊎ IsNewCall o w (Call m conn number call now) x
      go (inl none) = inl (stays (ap (λ (h : Happened C). h.world) (none_happens o w m conn number call now none)))
      go (inr (inr (n, at, lives, z))) = inl (stays (ap (λ (h : Happened C). h.world) (call_refused o w m conn number call now n (reached m n) lives at refl z)))
      go (inr (inl (n, at, lives, z))) = by (in_cases (Called x) w.recorded.log (Called it ∷ []) (subst (λ (u : World C). In (Called x) u.recorded.log) (ap (λ (h : Happened C). h.world) (call_executed o w m conn number call now n lives at z)) i))
        where
          it : Executed C
          it = entry_of o (pair_state o w n.pair) conn number call now (executing (o.changes (pair_state o w n.pair) call now) conn number n).pair

          by : In (Called x) w.recorded.log ⊎ In (Called x) (Called it ∷ []) → In (Called x) w.recorded.log ⊎ IsNewCall o w (Call m conn number call now) x
          by (inl j) = inl j
          by (inr (inl s)) = inr (record { member = m; conn = conn; number = number; call = call; now = now; node = n; at = at; lives = lives; executes = z; is = refl; entry = cc })
          by (inr (inr j)) = absurd j

  pub logged_or_new : (e : Event C) (x : Executed C) → In (Called x) (happens o w e).world.recorded.log → In (Called x) w.recorded.log ⊎ IsNewCall o w e x
  logged_or_new (Call m conn number call now) x i = called_log m conn number call now x i
  logged_or_new (Deliver f t k) x i = inl (no_call (Deliver f t k) refl x i)
  logged_or_new (Lose f t k) x i = inl (no_call (Lose f t k) refl x i)
  logged_or_new (Repeat f t k) x i = inl (no_call (Repeat f t k) refl x i)
  logged_or_new (Resend k) x i = inl (no_call (Resend k) refl x i)
  logged_or_new (Crash k) x i = inl (no_call (Crash k) refl x i)
  logged_or_new (Detect k) x i = inl (no_call (Detect k) refl x i)
  logged_or_new (BeginMove f t) x i = inl (no_call (BeginMove f t) refl x i)
  logged_or_new (BeginJoin t) x i = inl (no_call (BeginJoin t) refl x i)
  logged_or_new (BeginHandover f t) x i = inl (no_call (BeginHandover f t) refl x i)
  logged_or_new Advance x i = inl (no_call Advance refl x i)
  logged_or_new Reopen x i = inl (no_call Reopen refl x i)

-- the change that is recorded as a call is executed
pub made_by : {C State K V : Type 0} (o : Object C State) (l : Keyed C State K V) (w : World C) (p m conn number : ℕ) (call : C) (now : ℕ) (n : Node) → NodeAt w.nodes m n → is_live w m ≡ true → reached m n ≡ Executes
    → changes_by o l w p (Call m conn number call now) ≡ changed l p m (record { conn = conn; number = number }) (l.altered (pair_state o w n.pair) call now)
made_by {C} {K = K} o l w p m conn number call now n at lives z =
    ap (λ x. map_or x [] (λ (node : Node). cond (is_live w m && is_executed (reached m node)) (changed l p m (record { conn = conn; number = number }) (l.altered (pair_state o w node.pair) call now)) [])) at
    ∙ ap (λ b. cond (b && is_executed (reached m n)) (changed l p m (record { conn = conn; number = number }) (l.altered (pair_state o w n.pair) call now)) []) lives
    ∙ ap (λ r. cond (is_executed r) (changed l p m (record { conn = conn; number = number }) (l.altered (pair_state o w n.pair) call now)) []) z

pub told_one : {C State K V : Type 0} (l : Keyed C State K V) (p m : ℕ) (x : Executed C) (altered : Option K) → flat_map (invalidations p m x) (changed l p m (name_of x) altered) ≡ said_change l p x altered
told_one l p m x None = refl
told_one {K = K} l p m x (Some k) = by (l.partition k == p)
  where
    it : Change K
    it = record { partition = p; member = m; call = name_of x; key = k }

    is_it : is_change_by p m (name_of x) (record { partition = p; member = m; call = name_of x; key = k }) ≡ true
    is_it = both (p == p) ((m == m) && is_same_name (name_of x) (name_of x)) (number_same p p refl) (both (m == m) (is_same_name (name_of x) (name_of x)) (number_same m m refl) (name_same (name_of x) (name_of x) refl))

    by : (b : Bool) → flat_map (invalidations p m x) (cond b (record { partition = p; member = m; call = name_of x; key = k } ∷ []) []) ≡ cond b (Invalidation k x.version x.seen ∷ []) []
    by false = refl
    by true = ap (λ b. cond b (Invalidation k x.version x.seen ∷ []) [] ++ []) is_it

-- one event more
module _ {C State K V : Type 0} (o : Object C State) (l : Keyed C State K V) (g : Grid C K) (p : ℕ) (e : Event C) (one : 1 ≤ g.members) (ran : ChangesRan o l g) where
  abbrev pub w : World C
  w = world o g p

  abbrev pub u : World C
  u = (happens o w e).world

  abbrev pub next : Grid C K
  next = happened o l g p e

  pub events_here : events_at p next.events ≡ events_at p g.events ++ e ∷ []
  events_here = events_at-append p g.events (record { partition = p; event = e } ∷ []) ∙ ap (λ es. events_at p g.events ++ es) (one_at p p e refl)

  pub events_else : (q : ℕ) → q ≢ p → events_at q next.events ≡ events_at q g.events
  events_else q d = events_at-append q g.events (record { partition = p; event = e } ∷ []) ∙ ap (λ es. events_at q g.events ++ es) (none_at q p e d) ∙ append-nil (events_at q g.events)

  pub world_here : world o next p ≡ u
  world_here = ⊎_elim (λ s. s.1) (λ s. absurd (s.0 refl)) (world_goes o l g p e p)

  pub world_else : (q : ℕ) → q ≢ p → world o next q ≡ world o g q
  world_else q d = ⊎_elim (λ s. absurd (d s.0)) (λ s. s.1) (world_goes o l g p e q)

  pub called_later : (q m : ℕ) (n : CallName) → WasCalled (events_at q g.events) m n → WasCalled (events_at q next.events) m n
  called_later q m n (call, now, i) = (call, now, subst (In (Call m n.conn n.number call now)) (sym (events_at-append q g.events (record { partition = p; event = e } ∷ []))) (in_left (Call m n.conn n.number call now) (events_at q g.events) (events_at q (record { partition = p; event = e } ∷ [])) i))

  pub ran_next : ChangesRan o l next
  ran_next c i = ⊎_elim old new (in_cases c g.changes (changes_by o l w p e) i)
    where
      old : In c g.changes → WasCalled (events_at c.partition next.events) c.member c.call × ((x : Executed C) × In (Called x) (world o next c.partition).recorded.log × (name_of x ≡ c.call))
      old j = let r = ran c j in (called_later c.partition c.member c.call r.0, (r.1.0, logged_later o l g p e c.partition (Called r.1.0) r.1.1, r.1.2))

      new : In c (changes_by o l w p e) → WasCalled (events_at c.partition next.events) c.member c.call × ((x : Executed C) × In (Called x) (world o next c.partition).recorded.log × (name_of x ≡ c.call))
      new j = by (makes o l w p c e j)
        where
          by : Makes o l w p e c → WasCalled (events_at c.partition next.events) c.member c.call × ((x : Executed C) × In (Called x) (world o next c.partition).recorded.log × (name_of x ≡ c.call))
          by k = ((k.call, k.now, subst (λ q. In (Call c.member c.call.conn c.call.number k.call k.now) (events_at q next.events)) (sym k.here) called), subst (λ q. (x : Executed C) × In (Called x) (world o next q).recorded.log × (name_of x ≡ c.call)) (sym k.here) logged)
            where
              is : e ≡ Call c.member c.call.conn c.call.number k.call k.now
              is = k.is ∙ ap (λ (n : CallName). Call c.member n.conn n.number k.call k.now) (sym k.named)

              called : In (Call c.member c.call.conn c.call.number k.call k.now) (events_at p next.events)
              called = subst (In (Call c.member c.call.conn c.call.number k.call k.now)) (sym events_here) (in_right (Call c.member c.call.conn c.call.number k.call k.now) (events_at p g.events) (e ∷ []) (inl is))

              logged : (x : Executed C) × In (Called x) (world o next p).recorded.log × (name_of x ≡ c.call)
              logged =
                  let r = makes_logged o l w p c e k in
                  (r.0, subst (λ (z : World C). In (Called r.0) z.recorded.log) (sym world_here) (subst (In (Called r.0)) (sym r.1) (in_right (Called r.0) w.recorded.log (Called r.0 ∷ []) (inl refl))), r.2)

  pub good : Good o w
  good = grid_good o p g.members g.backups (events_at p g.events) one

  module _ (told : ChangesTold o l g) (once : NamedOnce (map name (arrivals (events_at p next.events)))) where
    pub new_name : IsNewlyNamed w e
    new_name = newly_named o p g.members g.backups (events_at p g.events) e (subst (λ es. NamedOnce (map name (arrivals es))) events_here once)

    -- no logged call has the event's name
    pub apart : (y : Executed C) → In (Called y) w.recorded.log → (m conn number : ℕ) (call : C) (now : ℕ) → e ≡ Call m conn number call now → name_of y ≡ record { conn = conn; number = number } → ⊥
    apart y i m conn number call now is n = new_name (record { conn = conn; number = number; now = now; call = call }) (name_of y) (ap asked_by is) (in_called w.recorded.log y i) n

    -- of a call that was executed before
    pub old_told : (x : Executed C) (m : ℕ) → In (Called x) w.recorded.log → WasCalled (events_at p next.events) m (name_of x)
        → flat_map (invalidations p m x) next.changes ≡ said_change l p x (l.altered (state_before o u x) x.call x.now)
    old_told x m i called =
        flat_map_append (invalidations p m x) g.changes (changes_by o l w p e)
        ∙ ap (λ zs. flat_map (invalidations p m x) g.changes ++ zs) (no_invalidations p m x (changes_by o l w p e) not_new)
        ∙ append-nil (flat_map (invalidations p m x) g.changes)
        ∙ told p x m i (before called)
        ∙ ap (λ s. said_change l p x (l.altered s x.call x.now)) (sym (before_stays o (λ s c now. None) w good e new_name x i))
      where
        not_new : (c : Change K) → In c (changes_by o l w p e) → c.partition ≡ p → c.member ≡ m → c.call ≡ name_of x → ⊥
        not_new c j part mem is = by (makes o l w p c e j)
          where
            by : Makes o l w p e c → ⊥
            by k = apart x i c.member k.conn k.number k.call k.now k.is (sym is ∙ k.named)

        before : WasCalled (events_at p next.events) m (name_of x) → WasCalled (events_at p g.events) m (name_of x)
        before (call, now, j) = ⊎_elim (λ k. (call, now, k)) last (in_cases (Call m x.conn x.number call now) (events_at p g.events) (e ∷ []) (subst (In (Call m x.conn x.number call now)) events_here j))
          where
            last : In (Call m x.conn x.number call now) (e ∷ []) → WasCalled (events_at p g.events) m (name_of x)
            last (inl s) = absurd (apart x i m x.conn x.number call now s refl)
            last (inr k) = absurd k

    -- of the one that is executed now
    pub new_told : (x : Executed C) (m : ℕ) (k : IsNewCall o w e x) → WasCalled (events_at p next.events) m (name_of x)
        → flat_map (invalidations p m x) next.changes ≡ said_change l p x (l.altered (state_before o u x) x.call x.now)
    new_told x m k called = subst (λ j. flat_map (invalidations p j x) next.changes ≡ said_change l p x (l.altered (state_before o u x) x.call x.now)) (sym member) here
      where
        named : name_of x ≡ record { conn = k.conn; number = k.number }
        named = ap name_of (sym k.entry)

        own : WasCalled (events_at p next.events) k.member (record { conn = k.conn; number = k.number })
        own = (k.call, k.now, subst (In (Call k.member k.conn k.number k.call k.now)) (sym events_here) (in_right (Call k.member k.conn k.number k.call k.now) (events_at p g.events) (e ∷ []) (inl k.is)))

        member : m ≡ k.member
        member = called_once (events_at p next.events) m k.member (name_of x) once called (subst (WasCalled (events_at p next.events) k.member) (sym named) own)

        none_before : flat_map (invalidations p k.member x) g.changes ≡ []
        none_before = no_invalidations p k.member x g.changes old
          where
            old : (c : Change K) → In c g.changes → c.partition ≡ p → c.member ≡ k.member → c.call ≡ name_of x → ⊥
            old c i part mem is =
                let r = (ran c i).1 in
                apart r.0 (subst (λ q. In (Called r.0) (world o g q).recorded.log) part r.1) k.member k.conn k.number k.call k.now k.is (r.2 ∙ is ∙ named)

        made : changes_by o l w p e ≡ changed l p k.member (name_of x) (l.altered (pair_state o w k.node.pair) x.call x.now)
        made = ap (changes_by o l w p) k.is ∙ made_by o l w p k.member k.conn k.number k.call k.now k.node k.at k.lives k.executes
            ∙ ap (λ (y : Executed C). changed l p k.member (name_of y) (l.altered (pair_state o w k.node.pair) y.call y.now)) k.entry

        before : state_before o u x ≡ pair_state o w k.node.pair
        before =
            ap (λ (d : Event C). state_before o (happens o w d).world x) k.is
            ∙ ap (λ (y : Executed C). state_before o (happens o w (Call k.member k.conn k.number k.call k.now)).world y) (sym k.entry)
            ∙ ap (λ (h : Happened C). state_before o h.world (entry_of o (pair_state o w k.node.pair) k.conn k.number k.call k.now (executing (o.changes (pair_state o w k.node.pair) k.call k.now) k.conn k.number k.node).pair)) (call_executed o w k.member k.conn k.number k.call k.now k.node k.lives k.at k.executes)
            ∙ before_with o (λ s c now. None) w good k.member k.conn k.number k.call k.now k.node k.lives k.at k.executes (o.changes (pair_state o w k.node.pair) k.call k.now)

        here : flat_map (invalidations p k.member x) next.changes ≡ said_change l p x (l.altered (state_before o u x) x.call x.now)
        here =
            flat_map_append (invalidations p k.member x) g.changes (changes_by o l w p e)
            ∙ ap (λ zs. zs ++ flat_map (invalidations p k.member x) (changes_by o l w p e)) none_before
            ∙ ap (flat_map (invalidations p k.member x)) made
            ∙ told_one l p k.member x (l.altered (pair_state o w k.node.pair) x.call x.now)
            ∙ ap (λ s. said_change l p x (l.altered s x.call x.now)) (sym before)

    pub told_here : (x : Executed C) (m : ℕ) → In (Called x) u.recorded.log → WasCalled (events_at p next.events) m (name_of x)
        → flat_map (invalidations p m x) next.changes ≡ said_change l p x (l.altered (state_before o u x) x.call x.now)
    told_here x m i called = ⊎_elim (λ j. old_told x m j called) (λ k. new_told x m k called) (logged_or_new o w e x i)

    pub told_next : ChangesTold o l next
    told_next q x m i called = ⊎_elim here else_where (number_cases q p)
      where
        here : q ≡ p → flat_map (invalidations q m x) next.changes ≡ said_change l q x (l.altered (state_before o (world o next q) x) x.call x.now)
        here s = subst (λ r. flat_map (invalidations r m x) next.changes ≡ said_change l r x (l.altered (state_before o (world o next r) x) x.call x.now)) (sym s)
            (told_here x m (subst (λ (z : World C). In (Called x) z.recorded.log) world_here (subst (λ r. In (Called x) (world o next r).recorded.log) s i)) (subst (λ r. WasCalled (events_at r next.events) m (name_of x)) s called)
            ∙ ap (λ (z : World C). said_change l p x (l.altered (state_before o z x) x.call x.now)) (sym world_here))

        else_where : q ≢ p → flat_map (invalidations q m x) next.changes ≡ said_change l q x (l.altered (state_before o (world o next q) x) x.call x.now)
        else_where d =
            flat_map_append (invalidations q m x) g.changes (changes_by o l w p e)
            ∙ ap (λ zs. flat_map (invalidations q m x) g.changes ++ zs) (no_invalidations q m x (changes_by o l w p e) (λ c j part mem is. d (sym part ∙ (makes o l w p c e j).here)))
            ∙ append-nil (flat_map (invalidations q m x) g.changes)
            ∙ told q x m (subst (λ (z : World C). In (Called x) z.recorded.log) (world_else q d) i) (subst (λ es. WasCalled es m (name_of x)) (events_else q d) called)
            ∙ ap (λ (z : World C). said_change l q x (l.altered (state_before o z x) x.call x.now)) (sym (world_else q d))

-- of every run

pub all_later : {C State K V : Type 0} (o : Object C State) (l : Keyed C State K V) (g : Grid C K) (es : List (At C)) → IsLater g (all_happened o l g es)
all_later o l g [] = same_grid g
all_later o l g (a ∷ es) = later_trans g (happened o l g a.partition a.event) (all_happened o l (happened o l g a.partition a.event) es) (event_later o l g a.partition a.event) (all_later o l (happened o l g a.partition a.event) es)

pub all_told : {C State K V : Type 0} (o : Object C State) (l : Keyed C State K V) (g : Grid C K) (es : List (At C)) → 1 ≤ g.members → AreNamedOnce (all_happened o l g es)
    → ChangesRan o l g → ChangesTold o l g → ChangesRan o l (all_happened o l g es) × ChangesTold o l (all_happened o l g es)
all_told o l g [] one named ran told = (ran, told)
all_told o l g (a ∷ es) one named ran told =
    let next = happened o l g a.partition a.event in
    let once = named_later next (all_happened o l next es) (all_later o l next es) named in
    all_told o l next es one named (ran_next o l g a.partition a.event one ran) (told_next o l g a.partition a.event one ran told (once a.partition))

pub run_told : {C State K V : Type 0} (o : Object C State) (l : Keyed C State K V) (members backups : ℕ) (es : List (At C)) → 1 ≤ members → AreNamedOnce (all_happened o l (new_grid members backups) es)
    → ChangesRan o l (all_happened o l (new_grid members backups) es) × ChangesTold o l (all_happened o l (new_grid members backups) es)
run_told o l members backups es one named = all_told o l (new_grid members backups) es one named (λ c i. absurd i) (λ p x m i called. absurd i)
