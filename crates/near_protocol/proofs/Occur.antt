-- An event in the grid keeps the invariant.
use Rattle.std.proofs.Common.{◌≡◌, ◌≢◌, ℕ, ◌<◌, ◌≤◌, List, ◌++◌, refl, ap, sym, ◌∙◌, subst, ◌⊎◌, ⊎_elim, inl, inr, append_assoc, append-nil}
use Rattle.std.specs.List.{flat_map}
use Rattle.grid_base.specs.Objects.{Object}
use Rattle.partition_protocol.specs.History.{Executed, Entry, Called}
use Rattle.partition_protocol.specs.World.{World}
use Rattle.partition_protocol.specs.Events.{Event, Call, happens}
use Rattle.partition_protocol.specs.Arrivals.{Asked, CallName, asked_by, calls_in}
use Rattle.partition_protocol.proofs.Lists.{In, in_cases}
use Rattle.partition_protocol.proofs.RowFacts.{number_cases}
use Rattle.near_protocol.specs.Keyed.{Keyed, IsKeyed}
use Rattle.near_protocol.specs.Client.{Kept, LookUp, Said, Answer, Refusal, Invalidation, Rows, RowHeard, known_in}
use Rattle.near_protocol.specs.Near.{Change, Grid, Near, world, name_of, known_version, changes_by, happened, occurred}
use Rattle.near_protocol.proofs.Worlds.{world_goes, Sound, Ran, new_asked, makes}
use Rattle.near_protocol.proofs.Invariant.{Backed, SaidOk, versions_in, listed, told_versions, ClimbsTo, IsAfter, After, WaitOk, KeptOk, ChangeOk, Inv}
use Rattle.near_protocol.proofs.Attaching.{changes_happened}
use Rattle.near_protocol.proofs.Goes.{Step, in_log, log_cases, freed_on, backed_on, after_goes, after_new}
use Rattle.near_protocol.proofs.Saying.{next_is, said, step_here, step_else, said_ok, climbs_here, climbs_elsewhere, flat_map_append}

-- a call of the client's own is one of its look-ups
abbrev pub OwnOk : {C State K V : Type 0} → Keyed C State K V → Near C K V → ℕ → Event C → Type 0
OwnOk {C} {State} {K} l s p e = (a : Asked C) → In a (asked_by e) → a.conn ≡ s.conn
    → (a.number < s.next_number) × ((r : LookUp K) → In r s.client.waiting → a.number ≡ r.number → (p ≡ l.partition r.key) × (a.call ≡ l.get r.number r.key))

-- and reaches its member
abbrev pub OwnAt : {C K V : Type 0} → Near C K V → Event C → Type 0
OwnAt {C} s e = (m conn number : ℕ) (call : C) (now : ℕ) → e ≡ Call m conn number call now → conn ≡ s.conn → m ≡ s.member

pub told_more : {K : Type 0} (p : ℕ) (rows : List RowHeard) (unread said : List (Said K)) → told_versions p rows unread ++ flat_map (versions_in p) said ≡ told_versions p rows (unread ++ said)
told_more p rows unread said =
    append_assoc (listed (known_in p rows)) (flat_map (versions_in p) unread) (flat_map (versions_in p) said)
    ∙ ap (λ vs. listed (known_in p rows) ++ vs) (sym (flat_map_append (versions_in p) unread said))

module _ {C State K V : Type 0} (o : Object C State) (l : Keyed C State K V) (partitions : ℕ) (keyed : IsKeyed o l partitions) (s : Near C K V) (inv : Inv o l partitions s) (p : ℕ) (e : Event C)
    (own_ok : OwnOk l s p e) (own_at : OwnAt s e) (one : 1 ≤ s.grid.members) (before : (q : ℕ) → Sound (world o s.grid q)) (after : (q : ℕ) → Sound (world o (happened o l s.grid p e) q)) where
  abbrev pub g : Grid C K
  g = s.grid

  abbrev pub next : Grid C K
  next = happened o l g p e

  abbrev pub made : List (Change K)
  made = changes_by o l (world o g p) p e

  abbrev pub news : List (Said K)
  news = said o l g p e s.member s.conn

  abbrev pub s' : Near C K V
  s' = occurred o l s p e

  pub homes : (c : Change K) → In c next.changes → l.partition c.key ≡ c.partition
  homes c i = ⊎_elim (λ j. let h : ChangeOk o l g c = inv.changes c j in h.0) (λ j. let k = makes o l (world o g p) p c e j in k.home ∙ sym k.here) (in_cases c g.changes made i)

  pub step_at : (q : ℕ) → Step o l (world o g q) (world o next q) q e s.member made next.changes news
  step_at q = go (number_cases q p) (world_goes o l g p e q)
    where
      here : Step o l (world o g p) (world o next p) p e s.member made next.changes news
      here = subst (λ (z : World C). Step o l (world o g p) z p e s.member made next.changes news) (sym (next_is o l g p e s.member s.conn)) (step_here o l g p e s.member s.conn (before p) (subst Sound (next_is o l g p e s.member s.conn) (after p)))

      go : (q ≡ p) ⊎ (q ≢ p) → ((q ≡ p) × (world o next q ≡ (happens o (world o g q) e).world)) ⊎ ((q ≢ p) × (world o next q ≡ world o g q)) → Step o l (world o g q) (world o next q) q e s.member made next.changes news
      go (inl a) b = subst (λ k. Step o l (world o g k) (world o next k) k e s.member made next.changes news) (sym a) here
      go (inr a) (inl b) = absurd (a b.0)
      go (inr a) (inr b) = subst (λ (z : World C). Step o l (world o g q) z q e s.member made next.changes news) (sym b.1) (step_else o l g p e s.member s.conn q a (before q))

  pub logged_on : (q : ℕ) (x : Entry C) → In x (world o g q).recorded.log → In x (world o next q).recorded.log
  logged_on q x i = in_log o l (world o g q) (world o next q) q e s.member g.changes made news (step_at q) x i

  pub backed_next : (k : K) (v n : ℕ) → Backed g.changes (world o g (l.partition k)) k v n → Backed next.changes (world o next (l.partition k)) k v n
  backed_next k v n b = backed_on o l (world o g (l.partition k)) (world o next (l.partition k)) (l.partition k) e s.member g.changes made news (step_at (l.partition k)) k v n b

  pub asked_cases : (q : ℕ) (a : Asked C) → In a (calls_in (world o next q).recorded.log) → In a (calls_in (world o g q).recorded.log) ⊎ ((q ≡ p) × In a (asked_by e))
  asked_cases q a i = go (world_goes o l g p e q)
    where
      go : ((q ≡ p) × (world o next q ≡ (happens o (world o g q) e).world)) ⊎ ((q ≢ p) × (world o next q ≡ world o g q)) → In a (calls_in (world o g q).recorded.log) ⊎ ((q ≡ p) × In a (asked_by e))
      go (inl b) = ⊎_elim (λ j. inl j) (λ j. inr (b.0, j)) (new_asked o (world o g q) e a (subst (λ (z : World C). In a (calls_in z.recorded.log)) b.1 i))
      go (inr b) = inl (subst (λ (z : World C). In a (calls_in z.recorded.log)) b.1 i)

  pub old_ok : (q : ℕ) (c : Change K) → In c g.changes → c.partition ≡ q → (x : Executed C) × In (Called x) (world o g q).recorded.log × (name_of x ≡ c.call)
  old_ok q c i b = subst (λ k. (x : Executed C) × In (Called x) (world o g k).recorded.log × (name_of x ≡ c.call)) b (by (inv.changes c i))
    where
      by : ChangeOk o l g c → (x : Executed C) × In (Called x) (world o g c.partition).recorded.log × (name_of x ≡ c.call)
      by h = (h.1.origin, h.1.logged, h.1.named)

  pub climbs : (k : K) → ClimbsTo (told_versions (l.partition k) s.client.rows s.unread) (known_version s.member (world o g (l.partition k)))
  climbs k = inv.rows (l.partition k) (keyed.partition k)

  -- what is known of a get, be it new or not
  pub old_after : (k : K) (x : Executed C) → After o l s k x → In (Called x) (world o g (l.partition k)).recorded.log → After o l s' k x
  old_after k x a i = subst (λ vs. IsAfter (world o next (l.partition k)) s.member next.changes s.processed (s.unread ++ news) vs k x) (told_more (l.partition k) s.client.rows s.unread news)
      (after_goes o l (world o g (l.partition k)) (world o next (l.partition k)) (l.partition k) e s.member g.changes made news (step_at (l.partition k)) k refl homes (old_ok (l.partition k)) s.processed s.unread
      (told_versions (l.partition k) s.client.rows s.unread) (flat_map (versions_in (l.partition k)) news) (climbs k) x a i)

  pub new_after : (k : K) (x : Executed C) → In (Called x) (step_at (l.partition k)).rest → x.conn ≡ s.conn → After o l s' k x
  new_after k x i c = subst (λ vs. IsAfter (world o next (l.partition k)) s.member next.changes s.processed (s.unread ++ news) vs k x) (told_more (l.partition k) s.client.rows s.unread news)
      (after_new o l (world o g (l.partition k)) (world o next (l.partition k)) (l.partition k) e s.member g.changes made news (step_at (l.partition k)) k refl homes (old_ok (l.partition k)) s.processed s.unread
      (told_versions (l.partition k) s.client.rows s.unread) (flat_map (versions_in (l.partition k)) news) (climbs k) x i mine
      (λ j a b. subst (λ q. Backed g.changes (world o g (l.partition q)) q j.version j.number) b (inv.processed j a)))
    where
      mine : ((step_at (l.partition k)).ran x i).member ≡ s.member
      mine = its ((step_at (l.partition k)).ran x i)
        where
          its : (ran : Ran o (world o g (l.partition k)) e x) → ran.member ≡ s.member
          its ran = own_at ran.member ran.conn ran.number ran.call ran.now ran.is (ap (λ (n : CallName). n.conn) (sym ran.named) ∙ c)

  pub wait_ok : (r : LookUp K) → In r s.client.waiting → WaitOk o l s r → WaitOk o l s' r
  wait_ok r there h = record {
    number = h.number;
    own = λ q a i c n. ⊎_elim (λ j. h.own q a j c n) (λ j. let z = (own_ok a j.1 c).1 r there n in (j.0 ∙ z.0, z.1)) (asked_cases q a i);
    after = λ z x i c n. ⊎_elim (λ j. old_after r.key x (h.after z x j c n) j) (λ j. new_after r.key x j c)
        (log_cases o l (world o g (l.partition r.key)) (world o next (l.partition r.key)) (l.partition r.key) e s.member g.changes made news (step_at (l.partition r.key)) (Called x) i);
  }

  pub kept_ok : (k : Kept K V) → KeptOk o l s k → KeptOk o l s' k
  kept_ok k h = record {
    get = h.get;
    logged = logged_on (l.partition k.key) (Called h.get) h.logged;
    conn = h.conn;
    call = h.call;
    says = h.says;
    freed = freed_on o l (world o g (l.partition k.key)) (world o next (l.partition k.key)) (l.partition k.key) e s.member g.changes made news (step_at (l.partition k.key)) (name_of h.get) h.freed;
    after = old_after k.key h.get h.after h.logged;
  }

  pub said_on : (m : Said K) → SaidOk o l g s.conn m → SaidOk o l next s.conn m
  said_on (Answer n reply) (q, x, i, a, b, c, f) = (q, x, logged_on q (Called x) i, a, b, c, freed_on o l (world o g q) (world o next q) q e s.member g.changes made news (step_at q) (name_of x) f)
  said_on (Invalidation k v n) b = backed_next k v n b
  said_on (Refusal n) h = tt
  said_on (Rows rows) h = tt

  pub rows_on : (q : ℕ) → q < partitions → ClimbsTo (told_versions q s.client.rows (s.unread ++ news)) (known_version s.member (world o next q))
  rows_on q b = subst (λ vs. ClimbsTo vs (known_version s.member (world o next q))) (told_more q s.client.rows s.unread news) (go (number_cases q p) (world_goes o l g p e q))
    where
      go : (q ≡ p) ⊎ (q ≢ p) → ((q ≡ p) × (world o next q ≡ (happens o (world o g q) e).world)) ⊎ ((q ≢ p) × (world o next q ≡ world o g q))
          → ClimbsTo (told_versions q s.client.rows s.unread ++ flat_map (versions_in q) news) (known_version s.member (world o next q))
      go (inl a) k = subst (λ r. ClimbsTo (told_versions r s.client.rows s.unread ++ flat_map (versions_in r) news) (known_version s.member (world o next r))) (sym a)
          (subst (λ (z : World C). ClimbsTo (told_versions p s.client.rows s.unread ++ flat_map (versions_in p) news) (known_version s.member z)) (sym (next_is o l g p e s.member s.conn))
          (climbs_here o l g p e s.member s.conn homes (told_versions p s.client.rows s.unread) (inv.rows p (subst (λ r. r < partitions) a b))))
      go (inr a) (inl k) = absurd (a k.0)
      go (inr a) (inr k) = subst (λ (z : World C). ClimbsTo (told_versions q s.client.rows s.unread ++ flat_map (versions_in q) news) (known_version s.member z)) (sym k.1)
          (subst (λ us. ClimbsTo (told_versions q s.client.rows s.unread ++ us) (known_version s.member (world o g q))) (sym (climbs_elsewhere o l g p e s.member s.conn homes q a))
          (subst (λ us. ClimbsTo us (known_version s.member (world o g q))) (sym (append-nil (told_versions q s.client.rows s.unread))) (inv.rows q b)))

  pub occurs : Inv o l partitions s'
  occurs = record {
    numbers = λ q a i c. ⊎_elim (λ j. inv.numbers q a j c) (λ j. (own_ok a j.1 c).0) (asked_cases q a i);
    waiting = λ r i. wait_ok r i (inv.waiting r i);
    entries = λ k i. kept_ok k (inv.entries k i);
    unread = λ m i. ⊎_elim (λ j. said_on m (inv.unread m j)) (λ j. said_ok o l g p e s.member s.conn homes m j) (in_cases m s.unread news i);
    processed = λ i j. backed_next i.key i.version i.number (inv.processed i j);
    changes = changes_happened o l partitions keyed g p e one inv.changes;
    rows = rows_on;
  }
