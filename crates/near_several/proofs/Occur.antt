-- An event in the grid keeps the invariant.
use Rattle.std.proofs.Common.{◌≡◌, ◌≢◌, ℕ, ◌<◌, ◌≤◌, List, ◌++◌, map, refl, ap, sym, ◌∙◌, subst, ◌⊎◌, ⊎_elim, inl, inr}
use Rattle.grid_base.specs.Objects.{Object}
use Rattle.partition_protocol.specs.History.{Executed, Entry, Called}
use Rattle.partition_protocol.specs.World.{World}
use Rattle.partition_protocol.specs.Events.{Event, happens}
use Rattle.partition_protocol.specs.Arrivals.{Asked, asked_by, calls_in}
use Rattle.partition_protocol.proofs.Lists.{In, in_cases}
use Rattle.partition_protocol.proofs.RowFacts.{number_cases}
use Rattle.near_protocol.specs.Keyed.{Keyed, IsKeyed}
use Rattle.near_protocol.specs.Client.{Kept, LookUp, Said, Answer, Refusal, Invalidation, Rows}
use Rattle.near_protocol.specs.Near.{Change, Grid, world, name_of, changes_by, happened}
use Rattle.near_protocol.specs.Claims.{Before}
use Rattle.near_protocol.proofs.Parts.{in_map, in_mapped}
use Rattle.near_protocol.proofs.Worlds.{world_goes, Sound, new_asked, makes}
use Rattle.near_protocol.proofs.Invariant.{Freed, Backed, SaidOk}
use Rattle.near_protocol.proofs.Attaching.{changes_happened}
use Rattle.near_protocol.proofs.Goes.{Step, in_log, log_cases, before_on, before_rest, freed_on, backed_on}
use Rattle.near_protocol.proofs.Saying.{next_is, said, step_here, step_else, said_ok}
use Rattle.near_several.specs.Several.{Port, Several, telling, occurred}
use Rattle.near_several.proofs.Invariant.{IsOwn, After, WaitOk, KeptOk, Inv}

-- connections stay the client's, whatever is said there

pub own_mapped : {K : Type 0} (f : Port K → Port K) → ((port : Port K) → (f port).conn ≡ port.conn) → (ports : List (Port K)) (conn : ℕ) → IsOwn (map f ports) conn → IsOwn ports conn
own_mapped f same ports conn (port, i, c) = let r = in_mapped f ports port i in (r.0, r.1, sym (same r.0) ∙ ap (λ (p : Port _). p.conn) r.2 ∙ c)

pub mapped_own : {K : Type 0} (f : Port K → Port K) → ((port : Port K) → (f port).conn ≡ port.conn) → (ports : List (Port K)) (conn : ℕ) → IsOwn ports conn → IsOwn (map f ports) conn
mapped_own f same ports conn (port, i, c) = (f port, in_map f ports port i, same port ∙ c)

-- a call on one of the client's connections is one that it made
abbrev pub OwnOk : {C State K V : Type 0} → Keyed C State K V → Several C K V → ℕ → Event C → Type 0
OwnOk {C} {State} {K} l s p e =
    (a : Asked C) → In a (asked_by e) → IsOwn s.ports a.conn
    → (a.number < s.next_number) × ((r : LookUp K) → In r s.client.waiting → a.number ≡ r.number → (p ≡ l.partition r.key) × (a.call ≡ l.get r.number r.key))

module _ {C State K V : Type 0} (o : Object C State) (l : Keyed C State K V) (partitions : ℕ) (keyed : IsKeyed o l partitions) (s : Several C K V) (inv : Inv o l s) (p : ℕ) (e : Event C)
    (own_ok : OwnOk l s p e) (one : 1 ≤ s.grid.members) (before : (q : ℕ) → Sound (world o s.grid q)) (after : (q : ℕ) → Sound (world o (happened o l s.grid p e) q)) where
  abbrev pub g : Grid C K
  g = s.grid

  abbrev pub next : Grid C K
  next = happened o l g p e

  abbrev pub made : List (Change K)
  made = changes_by o l (world o g p) p e

  abbrev pub s' : Several C K V
  s' = occurred o l p e s

  -- a step of a world is one for any member; what is said at this one isn't asked for
  abbrev pub news : List (Said K)
  news = said o l g p e 0 0

  pub homes : (c : Change K) → In c next.changes → l.partition c.key ≡ c.partition
  homes c i = ⊎_elim (λ j. let h = inv.changes c j in h.0) (λ j. let k = makes o l (world o g p) p c e j in k.home ∙ sym k.here) (in_cases c g.changes made i)

  pub step_at : (q : ℕ) → Step o l (world o g q) (world o next q) q e 0 made next.changes news
  step_at q = go (number_cases q p) (world_goes o l g p e q)
    where
      here : Step o l (world o g p) (world o next p) p e 0 made next.changes news
      here = subst (λ (z : World C). Step o l (world o g p) z p e 0 made next.changes news) (sym (next_is o l g p e 0 0)) (step_here o l g p e 0 0 (before p) (subst Sound (next_is o l g p e 0 0) (after p)))

      go : (q ≡ p) ⊎ (q ≢ p) → ((q ≡ p) × (world o next q ≡ (happens o (world o g q) e).world)) ⊎ ((q ≢ p) × (world o next q ≡ world o g q)) → Step o l (world o g q) (world o next q) q e 0 made next.changes news
      go (inl a) b = subst (λ k. Step o l (world o g k) (world o next k) k e 0 made next.changes news) (sym a) here
      go (inr a) (inl b) = absurd (a b.0)
      go (inr a) (inr b) = subst (λ (z : World C). Step o l (world o g q) z q e 0 made next.changes news) (sym b.1) (step_else o l g p e 0 0 q a (before q))

  pub logged_on : (q : ℕ) (x : Entry C) → In x (world o g q).recorded.log → In x (world o next q).recorded.log
  logged_on q x i = in_log o l (world o g q) (world o next q) q e 0 g.changes made news (step_at q) x i

  pub freed_next : (q : ℕ) (x : Executed C) → Freed (world o g q) (name_of x) → Freed (world o next q) (name_of x)
  freed_next q x f = freed_on o l (world o g q) (world o next q) q e 0 g.changes made news (step_at q) (name_of x) f

  abbrev pub backed_next : (k : K) (v n : ℕ) → Backed g.changes (world o g (l.partition k)) k v n → Backed next.changes (world o next (l.partition k)) k v n
  backed_next k v n b = backed_on o l (world o g (l.partition k)) (world o next (l.partition k)) (l.partition k) e 0 g.changes made news (step_at (l.partition k)) k v n b

  pub asked_cases : (q : ℕ) (a : Asked C) → In a (calls_in (world o next q).recorded.log) → In a (calls_in (world o g q).recorded.log) ⊎ ((q ≡ p) × In a (asked_by e))
  asked_cases q a i = go (world_goes o l g p e q)
    where
      go : ((q ≡ p) × (world o next q ≡ (happens o (world o g q) e).world)) ⊎ ((q ≢ p) × (world o next q ≡ world o g q)) → In a (calls_in (world o g q).recorded.log) ⊎ ((q ≡ p) × In a (asked_by e))
      go (inl b) = ⊎_elim (λ j. inl j) (λ j. inr (b.0, j)) (new_asked o (world o g q) e a (subst (λ (z : World C). In a (calls_in z.recorded.log)) b.1 i))
      go (inr b) = inl (subst (λ (z : World C). In a (calls_in z.recorded.log)) b.1 i)

  pub own_before : (conn : ℕ) → IsOwn s'.ports conn → IsOwn s.ports conn
  own_before conn own = own_mapped (telling o g next p e) (λ port. refl) s.ports conn own

  pub own_after : (conn : ℕ) → IsOwn s.ports conn → IsOwn s'.ports conn
  own_after conn own = mapped_own (telling o g next p e) (λ port. refl) s.ports conn own

  -- what is known of a get that was executed before
  pub old_after : (k : K) (x : Executed C) → After o l g s.processed k x → After o l next s.processed k x
  old_after k x a i j same =
      let b = a i j same in
      (backed_next k i.version i.number b.0, before_on o l (world o g (l.partition k)) (world o next (l.partition k)) (l.partition k) e 0 g.changes made news (step_at (l.partition k)) (Called b.0.write) (Called x) b.1)

  -- one that is executed now stands after all that was
  pub new_after : (k : K) (x : Executed C) → In (Called x) (step_at (l.partition k)).rest → After o l next s.processed k x
  new_after k x new i j same = go (subst (λ q. Backed g.changes (world o g (l.partition q)) q i.version i.number) same (inv.processed i j))
    where
      go : Backed g.changes (world o g (l.partition k)) k i.version i.number → (b : Backed next.changes (world o next (l.partition k)) k i.version i.number) × Before (world o next (l.partition k)).recorded.log (Called b.write) (Called x)
      go b = (backed_next k i.version i.number b, before_rest o l (world o g (l.partition k)) (world o next (l.partition k)) (l.partition k) e 0 g.changes made news (step_at (l.partition k)) (Called b.write) (Called x) b.logged new)

  pub wait_ok : (r : LookUp K) → In r s.client.waiting → WaitOk o l s r → WaitOk o l s' r
  wait_ok r there h = record {
    number = h.number;
    own = λ q a i own n. ⊎_elim (λ j. h.own q a j (own_before a.conn own) n) (λ j. let z = (own_ok a j.1 (own_before a.conn own)).1 r there n in (j.0 ∙ z.0, z.1)) (asked_cases q a i);
    sent = h.sent;
    after = λ z x i own n. ⊎_elim (λ j. old_after r.key x (h.after z x j (own_before x.conn own) n)) (λ j. new_after r.key x j)
        (log_cases o l (world o g (l.partition r.key)) (world o next (l.partition r.key)) (l.partition r.key) e 0 g.changes made news (step_at (l.partition r.key)) (Called x) i);
  }

  pub kept_ok : (k : Kept K V) → KeptOk o l s k → KeptOk o l s' k
  kept_ok k h = record {
    get = h.get;
    logged = logged_on (l.partition k.key) (Called h.get) h.logged;
    conn = own_after h.get.conn h.conn;
    call = h.call;
    says = h.says;
    freed = freed_next (l.partition k.key) h.get h.freed;
    after = old_after k.key h.get h.after;
  }

  pub said_on : (conn : ℕ) (m : Said K) → SaidOk o l g conn m → SaidOk o l next conn m
  said_on conn (Answer n reply) (q, x, i, a, b, c, f) = (q, x, logged_on q (Called x) i, a, b, c, freed_next q x f)
  said_on conn (Invalidation k v n) b = backed_next k v n b
  said_on conn (Refusal n) h = tt
  said_on conn (Rows rows) h = tt

  pub unread_next : (port : Port K) → In port s'.ports → (m : Said K) → In m port.unread → SaidOk o l next port.conn m
  unread_next port i = go (in_mapped (telling o g next p e) s.ports port i)
    where
      told : (q : Port K) → In q s.ports → (m : Said K) → In m (q.unread ++ said o l g p e q.member q.conn) → SaidOk o l next q.conn m
      told q j m k = ⊎_elim (λ a. said_on q.conn m (inv.unread q j m a)) (λ b. said_ok o l g p e q.member q.conn homes m b) (in_cases m q.unread (said o l g p e q.member q.conn) k)

      go : (q : Port K) × In q s.ports × (telling o g next p e q ≡ port) → (m : Said K) → In m port.unread → SaidOk o l next port.conn m
      go (q, j, is) = subst (λ (z : Port K). (m : Said K) → In m z.unread → SaidOk o l next z.conn m) is (told q j)

  pub occurs : Inv o l s'
  occurs = record {
    numbers = λ q a i own. ⊎_elim (λ j. inv.numbers q a j (own_before a.conn own)) (λ j. (own_ok a j.1 (own_before a.conn own)).0) (asked_cases q a i);
    sent = inv.sent;
    waiting = λ r i. wait_ok r i (inv.waiting r i);
    entries = λ k i. kept_ok k (inv.entries k i);
    unread = unread_next;
    processed = λ i j. backed_next i.key i.version i.number (inv.processed i j);
    changes = changes_happened o l partitions keyed g p e one inv.changes;
  }
