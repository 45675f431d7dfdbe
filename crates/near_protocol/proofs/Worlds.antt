-- The worlds of a grid as its events go on.
use Rattle.std.proofs.Common.{◌≡◌, ◌≢◌, ℕ, ◌+◌, ◌<◌, ◌≤◌, true, cond, not, ◌&&◌, ◌==◌, List, [], ◌∷◌, ◌++◌, map, filter, Option, Some, None, slice_get, slice_set, Contains, refl, ap, sym, ◌∙◌, subst, ◌⊎◌, ⊎_elim, inl, inr, arith, append-nil}
use Rattle.std.proofs.lemmas.List.Elements.{filter-append}
use Rattle.grid_base.specs.Objects.{Object}
use Rattle.partition_table.specs.Rows.{is_primary}
use Rattle.partition_protocol.specs.Node.{Held, Node, settled}
use Rattle.partition_protocol.specs.Replica.{taking}
use Rattle.partition_protocol.specs.Execution.{Reached, Executes, PartitionLost, WrongTarget, Migrating, reached, executing}
use Rattle.partition_protocol.specs.History.{Executed, Entry, Called, Reset}
use Rattle.partition_protocol.specs.World.{World, start, is_live, map_or, pair_state, trail}
use Rattle.partition_protocol.specs.Events.{Event, Happened, Call, Deliver, Lose, Repeat, Resend, Crash, Detect, BeginMove, BeginJoin, BeginHandover, Advance, Reopen, entry_of, happens, run}
use Rattle.partition_protocol.specs.Arrivals.{Asked, CallName, name, asked_by, arrivals, calls_in, NamedOnce}
use Rattle.partition_protocol.specs.Answers.{answered_call}
use Rattle.partition_protocol.specs.Claims.{IsSafe, IsFaithful}
use Rattle.partition_protocol.proofs.Lists.{In, in_cases, in_contains, contains_in, IsPart, Every, every_in, every_from_in, get_set, on_cond}
use Rattle.partition_protocol.proofs.Invariant.{NodeAt, EntryOk, Frame}
use Rattle.partition_protocol.proofs.Events.{Good}
use Rattle.partition_protocol.proofs.RowFacts.{not_false, same_number, number_same, number_other, number_cases, both_left, both_right}
use Rattle.partition_protocol.specs.NamedStates.{first_numbered}
use Rattle.partition_protocol.proofs.Histories.{IsWithin}
use Rattle.partition_protocol.proofs.EffectCalls.{first_last}
use Rattle.partition_protocol.proofs.Faithful.{part_in, adds}
use Rattle.partition_protocol.proofs.Answers.{map_append}
use Rattle.partition_protocol.proofs.Extends.{run_append}
use Rattle.partition_protocol.proofs.EventFacts.{call_executed}
use Rattle.partition_protocol.proofs.Theorem.{every_run_is_safe, grid_good}
use Rattle.partition_protocol.proofs.Walk.{walk}
use Rattle.near_protocol.specs.Keyed.{Keyed}
use Rattle.near_protocol.specs.Near.{At, Change, Grid, is_at, events_at, world, is_executed, changed, changes_by, happened, name_of, known_version}
use Rattle.near_protocol.specs.Laws.{IsLogRising, IsLedByOne}
use Rattle.near_protocol.proofs.Parts.{subsequence_part}
use Rattle.near_protocol.proofs.Orders.{IsOnce}
use Rattle.near_protocol.proofs.Versions.{every_log_rises, every_version_is_led_by_one}

-- events of one partition

pub events_at-append : {C : Type 0} (p : ℕ) (es fs : List (At C)) → events_at p (es ++ fs) ≡ events_at p es ++ events_at p fs
events_at-append {C} p es fs = ap (map (λ (e : At C). e.event)) (filter-append (is_at p) es fs) ∙ map_append (λ (e : At C). e.event) (filter (is_at p) es) (filter (is_at p) fs)

pub one_at : {C : Type 0} (q p : ℕ) (e : Event C) → q ≡ p → events_at q (record { partition = p; event = e } ∷ []) ≡ e ∷ []
one_at q p e s = rw (number_same p q (sym s)) refl

pub none_at : {C : Type 0} (q p : ℕ) (e : Event C) → q ≢ p → events_at q (record { partition = p; event = e } ∷ []) ≡ []
none_at q p e d = rw (number_other p q (λ s. d (sym s))) refl

-- the world of a partition after an event in one
abbrev pub Goes : {C State : Type 0} → Object C State → ℕ → ℕ → Event C → World C → World C → Type 0
Goes o q p e w u = ((q ≡ p) × (u ≡ (happens o w e).world)) ⊎ ((q ≢ p) × (u ≡ w))

pub world_goes : {C State K V : Type 0} (o : Object C State) (l : Keyed C State K V) (g : Grid C K) (p : ℕ) (e : Event C) (q : ℕ) → Goes o q p e (world o g q) (world o (happened o l g p e) q)
world_goes {C} o l g p e q = go (number_cases q p)
  where
    at : List (At C)
    at = record { partition = p; event = e } ∷ []

    go : (q ≡ p) ⊎ (q ≢ p) → Goes o q p e (world o g q) (world o (happened o l g p e) q)
    go (inl s) = inl (s, ap (λ es. run o (start q g.members g.backups) es) (events_at-append q g.events at ∙ ap (λ es. events_at q g.events ++ es) (one_at q p e s)) ∙ run_append o (start q g.members g.backups) (events_at q g.events) (e ∷ []))
    go (inr d) = inr (d, ap (λ es. run o (start q g.members g.backups) es) (events_at-append q g.events at ∙ ap (λ es. events_at q g.events ++ es) (none_at q p e d) ∙ append-nil (events_at q g.events)))

-- what holds of a world of a run in which no two calls have one name
pub record Sound {C : Type 0} (w : World C) : Type 0 where
  pub part : IsPart (trail w) w.recorded.log
  pub once : IsOnce w.recorded.log
  pub released : (h : Held) → In h w.released → (x : Executed C) × In (Called x) (trail w) × (name_of x ≡ answered_call h)
  pub rising : IsLogRising w.recorded.log
  pub led : IsLedByOne w
  pub primary : (m : ℕ) (n : Node) → NodeAt w.nodes m n → is_primary n.known m ≡ true → n.pair.version ≡ n.known.version

pub sound : {C State K : Type 0} (o : Object C State) (g : Grid C K) (q : ℕ) → 1 ≤ g.members → NamedOnce (map name (arrivals (events_at q g.events))) → Sound (world o g q)
sound {C} o g q one named = record {
  part = subsequence_part (trail (world o g q)) (world o g q).recorded.log safe.0.in_order;
  once = safe.1.once;
  released = λ h i. released h (safe.0.answered h (contains_in h (world o g q).released i));
  rising = every_log_rises o q g.members g.backups (events_at q g.events) one;
  led = every_version_is_led_by_one o q g.members g.backups (events_at q g.events) one;
  primary = λ m n at p. (let good = grid_good o q g.members g.backups (events_at q g.events) one in let ok = good.1.frame.nodes m n at in (ok.primary p).0);
}
  where
    safe : IsSafe o (world o g q) × IsFaithful (events_at q g.events) (world o g q)
    safe = every_run_is_safe o q g.members g.backups (events_at q g.events) one named

    released : (h : Held) → (x : Executed C) × Contains (trail (world o g q)) (Called x) × (x.conn ≡ h.conn) × (x.number ≡ h.number) × (x.seen ≡ h.seen) → (x : Executed C) × In (Called x) (trail (world o g q)) × (name_of x ≡ answered_call h)
    released h (x, c, a, b, d) = (x, in_contains (Called x) (trail (world o g q)) c, cc)

pub in_trail_log : {C : Type 0} (w : World C) → Sound w → (x : Entry C) → In x (trail w) → In x w.recorded.log
in_trail_log w s x i = part_in (trail w) w.recorded.log x s.part i

-- a primary counts all that was executed in its version
pub record Counting {C : Type 0} (w : World C) : Type 0 where
  pub primary : (m : ℕ) (n : Node) → NodeAt w.nodes m n → is_primary n.known m ≡ true → n.pair.version ≡ n.known.version
  pub counted : (m : ℕ) (n : Node) → NodeAt w.nodes m n → is_primary n.known m ≡ true → (y : Executed C) → In (Called y) w.recorded.log → y.version ≡ n.known.version → y.seen ≤ n.pair.count

pub counting : {C State K : Type 0} (o : Object C State) (g : Grid C K) (q : ℕ) → 1 ≤ g.members → Counting (world o g q)
counting {C} o g q one = record { primary = λ m n at p. (let ok = frame.nodes m n at in (ok.primary p).0); counted = λ m n at p y i v. (every_in (EntryOk w.nodes w.recorded.bases) w.recorded.log (Called y) frame.log i).1 m n at p (sym v) }
  where
    w : World C
    w = world o g q

    good : Good o (world o g q)
    good = grid_good o q g.members g.backups (events_at q g.events) one

    frame : Frame (world o g q) good.0
    frame = good.1.frame

-- an event

-- the calls in the log after an event are those before it, and the one that it brings
pub new_asked : {C State : Type 0} (o : Object C State) (w : World C) (e : Event C) (a : Asked C) → In a (calls_in (happens o w e).world.recorded.log) → In a (calls_in w.recorded.log) ⊎ In a (asked_by e)
new_asked o w e a i = ⊎_elim (λ s. in_cases a (calls_in w.recorded.log) (asked_by e) (subst (In a) s i)) (λ s. inl (subst (In a) s i)) (adds o w e)

-- a call as it is executed, at a live member that knows itself primary
pub record Ran {C State : Type 0} (o : Object C State) (w : World C) (e : Event C) (x : Executed C) : Type 0 where
  pub member : ℕ
  pub conn : ℕ
  pub number : ℕ
  pub call : C
  pub now : ℕ
  pub node : Node
  pub at : NodeAt w.nodes member node
  pub leads : is_primary node.known member ≡ true
  pub is : e ≡ Call member conn number call now
  pub named : name_of x ≡ record { conn = conn; number = number }
  pub version : x.version ≡ node.pair.version

-- what is new in the log is the call of the event
abbrev pub Runs : {C State : Type 0} → Object C State → World C → Event C → World C → Type 0
Runs {C} o w e u = (rest : List (Entry C)) × (w.recorded.log ++ rest ≡ u.recorded.log) × ((x : Executed C) → In (Called x) rest → Ran o w e x)

pub runs : {C State : Type 0} (o : Object C State) (w : World C) (e : Event C) → Runs o w e (happens o w e).world
runs {C} o w = walk o w (Runs o w) (λ e ps. none e) (λ e m. none e) (λ e s st ps. none e) (λ e s st ps. (Reset (w.service.row.version + 1) ∷ [], refl, λ x i. absurd (not_reset x i)))
    (λ e f t i q n j at l. none e) (λ m conn number call now n at l p f. (Called (entry m conn number call now n) ∷ [], refl, λ x i. it m conn number call now n at p x i))
  where
    none : (e : Event C) → (rest : List (Entry C)) × (w.recorded.log ++ rest ≡ w.recorded.log) × ((x : Executed C) → In (Called x) rest → Ran o w e x)
    none e = ([], append-nil w.recorded.log, λ x i. absurd i)

    not_reset : (x : Executed C) → In (Called x) (Reset (w.service.row.version + 1) ∷ []) → ⊥
    not_reset x (inl s) = absurd cc
    not_reset x (inr j) = absurd j

    entry : ℕ → ℕ → ℕ → C → ℕ → Node → Executed C
    entry m conn number call now n = entry_of o (pair_state o w n.pair) conn number call now (executing (o.changes (pair_state o w n.pair) call now) conn number n).pair

    it : (m conn number : ℕ) (call : C) (now : ℕ) (n : Node) → NodeAt w.nodes m n → is_primary n.known m ≡ true → (x : Executed C) → In (Called x) (Called (entry m conn number call now n) ∷ []) → Ran o w (Call m conn number call now) x
    it m conn number call now n at p x (inl s) =
        let same : entry m conn number call now n ≡ x = cc in
        record {
          member = m;
          conn = conn;
          number = number;
          call = call;
          now = now;
          node = n;
          at = at;
          leads = p;
          is = refl;
          named = ap name_of (sym same);
          version = ap (λ (y : Executed C). y.version) (sym same);
        }
    it m conn number call now n at p x (inr j) = absurd j

-- who executes a call knows itself primary
pub reached_primary : (m : ℕ) (node : Node) → reached m node ≡ Executes → is_primary node.known m ≡ true
reached_primary m node = on_cond (λ r. r ≡ Executes → is_primary node.known m ≡ true) node.known.lost (PartitionLost node.known.version) (cond (not (is_primary node.known m)) (WrongTarget node.known.version) (cond node.frozen (Migrating node.known.version) Executes))
    (λ t e. absurd cc)
    (λ t. on_cond (λ r. r ≡ Executes → is_primary node.known m ≡ true) (not (is_primary node.known m)) (WrongTarget node.known.version) (cond node.frozen (Migrating node.known.version) Executes) (λ f e. absurd cc) (λ f e. not_false (is_primary node.known m) f))

-- a change, as the event makes it
pub record Makes {C State K V : Type 0} (o : Object C State) (l : Keyed C State K V) (w : World C) (p : ℕ) (e : Event C) (c : Change K) : Type 0 where
  pub conn : ℕ
  pub number : ℕ
  pub call : C
  pub now : ℕ
  pub node : Node
  pub at : NodeAt w.nodes c.member node
  pub lives : is_live w c.member ≡ true
  pub executes : reached c.member node ≡ Executes
  pub is : e ≡ Call c.member conn number call now
  pub named : c.call ≡ record { conn = conn; number = number }
  pub here : c.partition ≡ p
  pub home : l.partition c.key ≡ p
  pub altered : l.altered (pair_state o w node.pair) call now ≡ Some c.key

pub executes_is : (r : Reached) → is_executed r ≡ true → r ≡ Executes
executes_is Executes e = refl
executes_is (PartitionLost v) e = absurd cc
executes_is (WrongTarget v) e = absurd cc
executes_is (Migrating v) e = absurd cc

pub in_changed : {C State K V : Type 0} (l : Keyed C State K V) (p m : ℕ) (n : CallName) (k : Option K) (c : Change K) → In c (changed l p m n k) → (c.partition ≡ p) × (c.member ≡ m) × (c.call ≡ n) × (l.partition c.key ≡ p) × (k ≡ Some c.key)
in_changed l p m n None c i = absurd i
in_changed {K = K} l p m n (Some k) c i = on_cond (λ (cs : List (Change K)). In c cs → (c.partition ≡ p) × (c.member ≡ m) × (c.call ≡ n) × (l.partition c.key ≡ p) × (Some k ≡ Some c.key)) (l.partition k == p) (it ∷ []) [] there (λ e j. absurd j) i
  where
    it : Change K
    it = record { partition = p; member = m; call = n; key = k }

    there : (l.partition k == p) ≡ true → In c (it ∷ []) → (c.partition ≡ p) × (c.member ≡ m) × (c.call ≡ n) × (l.partition c.key ≡ p) × (Some k ≡ Some c.key)
    there e (inl s) = (ap (λ (d : Change K). d.partition) (sym s), ap (λ (d : Change K). d.member) (sym s), ap (λ (d : Change K). d.call) (sym s), ap (λ (d : Change K). l.partition d.key) (sym s) ∙ same_number (l.partition k) p e, ap (λ (d : Change K). Some d.key) s)
    there e (inr j) = absurd j

module _ {C State K V : Type 0} (o : Object C State) (l : Keyed C State K V) (w : World C) (p : ℕ) (c : Change K) where
  pub makes_at : (m conn number : ℕ) (call : C) (now : ℕ) (x : Option Node) → slice_get w.nodes m ≡ x
      → In c (map_or x [] (λ node. cond (is_live w m && is_executed (reached m node)) (changed l p m (record { conn = conn; number = number }) (l.altered (pair_state o w node.pair) call now)) [])) → Makes o l w p (Call m conn number call now) c
  makes_at m conn number call now None at i = absurd i
  makes_at m conn number call now (Some node) at i = on_cond (λ (cs : List (Change K)). In c cs → Makes o l w p (Call m conn number call now) c) (is_live w m && is_executed (reached m node))
      (changed l p m (record { conn = conn; number = number }) (l.altered (pair_state o w node.pair) call now)) [] there (λ e j. absurd j) i
    where
      there : (is_live w m && is_executed (reached m node)) ≡ true → In c (changed l p m (record { conn = conn; number = number }) (l.altered (pair_state o w node.pair) call now)) → Makes o l w p (Call m conn number call now) c
      there t j =
          let f = in_changed l p m (record { conn = conn; number = number }) (l.altered (pair_state o w node.pair) call now) c j in
          let same : m ≡ c.member = sym f.1 in
          record {
            conn = conn;
            number = number;
            call = call;
            now = now;
            node = node;
            at = subst (λ k. NodeAt w.nodes k node) same at;
            lives = subst (λ k. is_live w k ≡ true) same (both_left (is_live w m) (is_executed (reached m node)) t);
            executes = subst (λ k. reached k node ≡ Executes) same (executes_is (reached m node) (both_right (is_live w m) (is_executed (reached m node)) t));
            is = ap (λ k. Call k conn number call now) same;
            named = f.2;
            here = f.0;
            home = f.3;
            altered = f.4;
          }

  pub makes : (e : Event C) → In c (changes_by o l w p e) → Makes o l w p e c
  makes (Call m conn number call now) i = makes_at m conn number call now (slice_get w.nodes m) refl i
  makes (Deliver f t k) i = absurd i
  makes (Lose f t k) i = absurd i
  makes (Repeat f t k) i = absurd i
  makes (Resend m) i = absurd i
  makes (Crash m) i = absurd i
  makes (Detect m) i = absurd i
  makes (BeginMove f t) i = absurd i
  makes (BeginJoin t) i = absurd i
  makes (BeginHandover f t) i = absurd i
  makes Advance i = absurd i
  makes Reopen i = absurd i

  abbrev pub made_call : (e : Event C) → Makes o l w p e c → Executed C
  made_call e k = entry_of o (pair_state o w k.node.pair) k.conn k.number k.call k.now (executing (o.changes (pair_state o w k.node.pair) k.call k.now) k.conn k.number k.node).pair

  pub made_log : (e : Event C) (k : Makes o l w p e c) → (happens o w (Call c.member k.conn k.number k.call k.now)).world.recorded.log ≡ w.recorded.log ++ Called (made_call e k) ∷ []
  made_log e k = ap (λ (h : Happened C). h.world.recorded.log) (call_executed o w c.member k.conn k.number k.call k.now k.node k.lives k.at k.executes)

  -- its call comes last in the log
  pub makes_log : (e : Event C) (k : Makes o l w p e c) → (happens o w e).world.recorded.log ≡ w.recorded.log ++ Called (made_call e k) ∷ []
  makes_log e k = subst (λ (d : Event C). (happens o w d).world.recorded.log ≡ w.recorded.log ++ Called (made_call e k) ∷ []) (sym k.is) (made_log e k)

  pub makes_logged : (e : Event C) → Makes o l w p e c → (x : Executed C) × ((happens o w e).world.recorded.log ≡ w.recorded.log ++ Called x ∷ []) × (name_of x ≡ c.call)
  makes_logged e k = (made_call e k, makes_log e k, sym k.named)

  -- and is the first of its number
  pub makes_first : (e : Event C) (k : Makes o l w p e c) → Counting w → ((s : State) (d : C) (now : ℕ) (q : K) → l.altered s d now ≡ Some q → o.changes s d now ≡ true) → first_numbered (made_call e k).version (made_call e k).seen (w.recorded.log ++ Called (made_call e k) ∷ []) ≡ Some (made_call e k)
  makes_first e k counts effects = first_last k.node.pair.version k.node.pair.count (made_call e k).seen (made_call e k) w.recorded.log within grown refl refl
    where
      effect : o.changes (pair_state o w k.node.pair) k.call k.now ≡ true
      effect = effects (pair_state o w k.node.pair) k.call k.now c.key k.altered

      grown : k.node.pair.count < (executing (o.changes (pair_state o w k.node.pair) k.call k.now) k.conn k.number k.node).pair.count
      grown = rw effect (omega arith)

      leads : is_primary k.node.known c.member ≡ true
      leads = reached_primary c.member k.node k.executes

      within : Every (IsWithin k.node.pair.version k.node.pair.count) w.recorded.log
      within = every_from_in (IsWithin k.node.pair.version k.node.pair.count) w.recorded.log one
        where
          one : (y : Entry C) → In y w.recorded.log → IsWithin k.node.pair.version k.node.pair.count y
          one (Reset r) i = tt
          one (Called y) i = λ v. counts.counted c.member k.node k.at leads y i (v ∙ counts.primary c.member k.node k.at leads)

-- a member's node

-- no node is new
pub node_back : {C State : Type 0} (o : Object C State) (w : World C) (e : Event C) (m : ℕ) (a : Node) → NodeAt (happens o w e).world.nodes m a → (n : Node) × NodeAt w.nodes m n
node_back {C} o w e m a at = walk o w Backs (λ e ps. same) (λ e j. same) (λ e s st ps. same) (λ e s st ps. same)
    (λ e f t i q x j there l. changed_at q.to (settled (taking w.members q.to q.from q.message x).node) x there)
    (λ j conn number call now x there l p f. changed_at j (settled (executing (o.changes (pair_state o w x.pair) call now) conn number x)) x there) e m a at
  where
    Backs : Event C → World C → Type 0
    Backs e u = (m : ℕ) (a : Node) → NodeAt u.nodes m a → (n : Node) × NodeAt w.nodes m n

    same : (m : ℕ) (a : Node) → NodeAt w.nodes m a → (n : Node) × NodeAt w.nodes m n
    same m a at = (a, at)

    changed_at : (j : ℕ) (b x : Node) → NodeAt w.nodes j x → (m : ℕ) (a : Node) → NodeAt (slice_set w.nodes j b) m a → (n : Node) × NodeAt w.nodes m n
    changed_at j b x there m a at = ⊎_elim (λ s. (x, subst (λ k. NodeAt w.nodes k x) (sym s.0) there)) (λ s. (a, s.1)) (get_set w.nodes j m b a at)

pub known_at : {C : Type 0} (m : ℕ) (w : World C) (n : Node) → NodeAt w.nodes m n → known_version m w ≡ n.known.version
known_at m w n at = rw at refl
