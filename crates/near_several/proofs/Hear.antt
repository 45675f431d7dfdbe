-- A message that the client handles, on any of its connections, keeps the invariant.
use Rattle.std.proofs.Common.{◌≡◌, ◌≢◌, ℕ, ◌<◌, Bool, true, false, cond, not, ◌==◌, nat_lt, List, [], ◌∷◌, ◌++◌, map, filter, take, drop, Option, Some, None, refl, ap, sym, ◌∙◌, subst, ◌⊎◌, ⊎_elim, inl, inr}
use Rattle.std.specs.List.{find}
use Rattle.grid_base.specs.Objects.{Object}
use Rattle.partition_protocol.specs.History.{Executed, Called}
use Rattle.partition_protocol.specs.HistorySizes.{asked_of}
use Rattle.partition_protocol.proofs.HistorySizes.{in_calls}
use Rattle.partition_protocol.proofs.Lists.{In, in_cases, on_cond, on_if}
use Rattle.partition_protocol.proofs.RowFacts.{same_number, not_true, not_both}
use Rattle.near_protocol.specs.Keyed.{Keyed, IsKeyed}
use Rattle.near_protocol.specs.Client.{Client, Kept, LookUp, Overtaking, Said, Answer, Refusal, Invalidation, Rows, RowHeard, is_for, others, closed, kept, filled, answered, overtaking, dropping, invalidated, known_in, knowing, cleared, row_heard, rows_heard}
use Rattle.near_protocol.specs.Near.{Invalidated, world, name_of}
use Rattle.near_protocol.proofs.Parts.{in_filtered, in_mapped}
use Rattle.near_protocol.proofs.Invariant.{Freed, Backed, SaidOk}
use Rattle.near_protocol.proofs.Hear.{find_in, in_take}
use Rattle.near_several.specs.Several.{Port, Several, is_port, reading, heard, hears}
use Rattle.near_several.proofs.Invariant.{IsOwn, After, WaitOk, KeptOk, Inv}
use Rattle.near_several.proofs.Occur.{own_mapped, mapped_own}

-- none of the invalidations names the key
abbrev pub NotNamed : {K : Type 0} → List (Invalidated K) → K → Type 0
NotNamed {K} more k = (i : Invalidated K) → In i more → i.key ≢ k

-- The client goes on to c, with more of what was said handled, and nothing else happens
module _ {C State K V : Type 0} (o : Object C State) (l : Keyed C State K V) (s : Several C K V) (inv : Inv o l s) (c : Client K V) (ports : List (Port K)) (more ended : List (Invalidated K))
    (own_back : (conn : ℕ) → IsOwn ports conn → IsOwn s.ports conn) (own_on : (conn : ℕ) → IsOwn s.ports conn → IsOwn ports conn)
    (waits : (r : LookUp K) → In r c.waiting → (q : LookUp K) × In q s.client.waiting × (q.number ≡ r.number) × (q.key ≡ r.key) × (r.overtaken ≡ None → (q.overtaken ≡ None) × NotNamed more q.key))
    (keeps : (e : Kept K V) → In e c.entries → KeptOk o l s e × NotNamed more e.key)
    (unread : (port : Port K) → In port ports → (m : Said K) → In m port.unread → SaidOk o l s.grid port.conn m)
    (more_ok : (i : Invalidated K) → In i more → Backed s.grid.changes (world o s.grid (l.partition i.key)) i.key i.version i.number)
    (ended_is : (i : Invalidated K) → In i ended → In i s.processed ⊎ In i more) where
  abbrev pub s' : Several C K V
  s' = record s { client = c; ports = ports; processed = ended }

  pub after_on : (k : K) (x : Executed C) → NotNamed more k → After o l s.grid s.processed k x → After o l s.grid ended k x
  after_on k x other a i j same = ⊎_elim (λ p. a i p same) (λ p. absurd (other i p same)) (ended_is i j)

  pub wait_on : (r : LookUp K) → (q : LookUp K) × In q s.client.waiting × (q.number ≡ r.number) × (q.key ≡ r.key) × (r.overtaken ≡ None → (q.overtaken ≡ None) × NotNamed more q.key) → WaitOk o l s' r
  wait_on r (q, i, n, k, f) = record {
    number = subst (λ z. z < s.next_number) n h.number;
    own = λ p a j own e. (let z = h.own p a j (own_back a.conn own) (e ∙ sym n) in (z.0 ∙ ap l.partition k, z.1 ∙ ap (λ y. l.get y q.key) n ∙ ap (λ y. l.get r.number y) k));
    sent = λ t j e. (let z = h.sent t j (e ∙ sym n) in (z.0 ∙ ap l.partition k, z.1 ∙ ap (λ y. l.get y q.key) n ∙ ap (λ y. l.get r.number y) k));
    after = λ z x j own e. subst (λ y. After o l s.grid ended y x) k
        (let g = f z in after_on q.key x g.1 (h.after g.0 x (subst (λ y. In (Called x) (world o s.grid (l.partition y)).recorded.log) (sym k) j) (own_back x.conn own) (e ∙ sym n)));
  }
    where
      h : WaitOk o l s q
      h = inv.waiting q i

  pub kept_on : (e : Kept K V) → KeptOk o l s e × NotNamed more e.key → KeptOk o l s' e
  kept_on e (h, other) = record { get = h.get; logged = h.logged; conn = own_on h.get.conn h.conn; call = h.call; says = h.says; freed = h.freed; after = after_on e.key h.get other h.after }

  pub goes_on : Inv o l s'
  goes_on = record {
    numbers = λ p a i own. inv.numbers p a i (own_back a.conn own);
    sent = inv.sent;
    waiting = λ r i. wait_on r (waits r i);
    entries = λ e i. kept_on e (keeps e i);
    unread = unread;
    processed = λ i j. ⊎_elim (λ p. inv.processed i p) (λ p. more_ok i p) (ended_is i j);
    changes = inv.changes;
  }

-- a client that keeps no more than before, and whose look-ups are no less overtaken
pub record Shrinks {K V : Type 0} (c d : Client K V) : Type 0 where
  pub waits : (r : LookUp K) → In r d.waiting → (q : LookUp K) × In q c.waiting × (q.number ≡ r.number) × (q.key ≡ r.key) × (r.overtaken ≡ None → q.overtaken ≡ None)
  pub entries : (e : Kept K V) → In e d.entries → In e c.entries

pub stays : {K V : Type 0} (c d : Client K V) → d.waiting ≡ c.waiting → d.entries ≡ c.entries → Shrinks c d
stays c d w e = record { waits = λ r i. (r, subst (In r) w i, refl, refl, λ n. n); entries = λ x i. subst (In x) e i }

pub shrinks_more : {K V : Type 0} (c d f : Client K V) → Shrinks c d → Shrinks d f → Shrinks c f
shrinks_more {K} c d f a b = record { waits = λ r i. by r (b.waits r i); entries = λ e i. a.entries e (b.entries e i) }
  where
    by : (r : LookUp K) → (q : LookUp K) × In q d.waiting × (q.number ≡ r.number) × (q.key ≡ r.key) × (r.overtaken ≡ None → q.overtaken ≡ None)
        → (q : LookUp K) × In q c.waiting × (q.number ≡ r.number) × (q.key ≡ r.key) × (r.overtaken ≡ None → q.overtaken ≡ None)
    by r (q, i, n, k, g) = let t = a.waits q i in (t.0, t.1, t.2 ∙ n, t.3 ∙ k, λ z. t.4 (g z))

pub closing : {K V : Type 0} (n : ℕ) (c : Client K V) → Shrinks c (closed n c)
closing n c = record { waits = λ r i. (r, (in_filtered (λ (x : LookUp _). not (x.number == n)) c.waiting r i).0, refl, refl, λ z. z); entries = λ e i. i }

-- a look-up among those of which some are overtaken
pub overtaken_from : {K : Type 0} (t : K → Bool) (by : Overtaking) (rs : List (LookUp K)) (r : LookUp K) → In r (map (overtaking t by) rs)
    → (q : LookUp K) × In q rs × (q.number ≡ r.number) × (q.key ≡ r.key) × (r.overtaken ≡ None → (q.overtaken ≡ None) × (t q.key ≡ false))
overtaken_from {K} t by rs r i = go (in_mapped (overtaking t by) rs r i)
  where
    go : (q : LookUp K) × In q rs × (overtaking t by q ≡ r) → (q : LookUp K) × In q rs × (q.number ≡ r.number) × (q.key ≡ r.key) × (r.overtaken ≡ None → (q.overtaken ≡ None) × (t q.key ≡ false))
    go (q, j, e) = on_cond (λ (x : LookUp K). x ≡ r → (q : LookUp K) × In q rs × (q.number ≡ r.number) × (q.key ≡ r.key) × (r.overtaken ≡ None → (q.overtaken ≡ None) × (t q.key ≡ false))) (t q.key) (record q { overtaken = Some by }) q
        (λ p z. (q, j, ap (λ (x : LookUp K). x.number) z, ap (λ (x : LookUp K). x.key) z, λ n. absurd (let y = ap (λ (x : LookUp K). x.overtaken) z ∙ n in cc)))
        (λ p z. (q, j, ap (λ (x : LookUp K). x.number) z, ap (λ (x : LookUp K). x.key) z, λ n. (ap (λ (x : LookUp K). x.overtaken) z ∙ n, p))) e

pub dropped : {K V : Type 0} (t : K → Bool) (by : Overtaking) (c : Client K V) → Shrinks c (dropping t by c)
dropped {K} t by c = record { waits = λ r i. less r (overtaken_from t by c.waiting r i); entries = λ e i. (in_filtered (λ (x : Kept _ _). not (t x.key)) c.entries e i).0 }
  where
    less : (r : LookUp K) → (q : LookUp K) × In q c.waiting × (q.number ≡ r.number) × (q.key ≡ r.key) × (r.overtaken ≡ None → (q.overtaken ≡ None) × (t q.key ≡ false))
        → (q : LookUp K) × In q c.waiting × (q.number ≡ r.number) × (q.key ≡ r.key) × (r.overtaken ≡ None → q.overtaken ≡ None)
    less r (q, i, n, k, f) = (q, i, n, k, λ z. (f z).0)

pub row_shrinks : {C State K V : Type 0} (l : Keyed C State K V) (c : Client K V) (row : RowHeard) → Shrinks c (row_heard l c row)
row_shrinks l c row = by (known_in row.partition c.rows)
  where
    knows : Shrinks c (knowing row (cleared l row c))
    knows = shrinks_more c (cleared l row c) (knowing row (cleared l row c)) (dropped (λ q. l.partition q == row.partition) (record { version = row.version; number = 0 }) c) (stays (cleared l row c) (knowing row (cleared l row c)) refl refl)

    by : (x : Option ℕ) → Shrinks c (elim x [ None ↦ knowing row c | Some v ↦ cond (nat_lt v row.version) (knowing row (cleared l row c)) c ])
    by None = stays c (knowing row c) refl refl
    by (Some v) = on_if (Shrinks c) (nat_lt v row.version) (knowing row (cleared l row c)) c knows (stays c c refl refl)

pub rows_shrink : {C State K V : Type 0} (l : Keyed C State K V) (c : Client K V) (rows : List RowHeard) → Shrinks c (rows_heard l c rows)
rows_shrink l c [] = stays c c refl refl
rows_shrink l c (row ∷ rows) = shrinks_more c (row_heard l c row) (rows_heard l (row_heard l c row) rows) (row_shrinks l c row) (rows_shrink l (row_heard l c row) rows)

pub in_drop : {X : Type 0} (xs : List X) (x : X) → In x (drop 1 xs) → In x xs
in_drop [] x i = absurd i
in_drop (y ∷ ys) x i = inr i

-- one message of a connection
module _ {C State K V : Type 0} (o : Object C State) (l : Keyed C State K V) (partitions : ℕ) (keyed : IsKeyed o l partitions) (s : Several C K V) (inv : Inv o l s) (port : Port K) (there : In port s.ports) (m : Said K) (rest : List (Said K)) (is : port.unread ≡ m ∷ rest) where
  abbrev pub ports : List (Port K)
  ports = map (reading port.conn) s.ports

  pub same_conn : (q : Port K) → (reading port.conn q).conn ≡ q.conn
  same_conn q = on_if (λ (z : Port K). z.conn ≡ q.conn) (is_port port.conn q) (record q { unread = drop 1 q.unread }) q refl refl

  pub own_back : (conn : ℕ) → IsOwn ports conn → IsOwn s.ports conn
  own_back conn own = own_mapped (reading port.conn) same_conn s.ports conn own

  pub own_on : (conn : ℕ) → IsOwn s.ports conn → IsOwn ports conn
  own_on conn own = mapped_own (reading port.conn) same_conn s.ports conn own

  pub this_ok : SaidOk o l s.grid port.conn m
  this_ok = inv.unread port there m (subst (In m) (sym is) (inl refl))

  pub unread_rest : (q : Port K) → In q ports → (x : Said K) → In x q.unread → SaidOk o l s.grid q.conn x
  unread_rest q i = go (in_mapped (reading port.conn) s.ports q i)
    where
      go : (p : Port K) × In p s.ports × (reading port.conn p ≡ q) → (x : Said K) → In x q.unread → SaidOk o l s.grid q.conn x
      go (p, j, e) = subst (λ (z : Port K). (x : Said K) → In x z.unread → SaidOk o l s.grid z.conn x) e
          (on_if (λ (z : Port K). (x : Said K) → In x z.unread → SaidOk o l s.grid z.conn x) (is_port port.conn p) (record p { unread = drop 1 p.unread }) p (λ x k. inv.unread p j x (in_drop p.unread x k)) (inv.unread p j))

  pub same_ended : (i : Invalidated K) → In i (s.processed ++ []) → In i s.processed ⊎ In i []
  same_ended i j = in_cases i s.processed [] j

  -- no invalidation
  pub plain_on : (c : Client K V) → ((r : LookUp K) → In r c.waiting → (q : LookUp K) × In q s.client.waiting × (q.number ≡ r.number) × (q.key ≡ r.key) × (r.overtaken ≡ None → q.overtaken ≡ None)) → ((e : Kept K V) → In e c.entries → KeptOk o l s e)
      → Inv o l (record s { client = c; ports = map (reading port.conn) s.ports; processed = s.processed ++ [] })
  plain_on c w k = goes_on o l s inv c ports [] (s.processed ++ []) own_back own_on (λ r i. wider r (w r i)) (λ e i. (k e i, λ j z. absurd z)) unread_rest (λ i j. absurd j) same_ended
    where
      wider : (r : LookUp K) → (q : LookUp K) × In q s.client.waiting × (q.number ≡ r.number) × (q.key ≡ r.key) × (r.overtaken ≡ None → q.overtaken ≡ None)
          → (q : LookUp K) × In q s.client.waiting × (q.number ≡ r.number) × (q.key ≡ r.key) × (r.overtaken ≡ None → (q.overtaken ≡ None) × NotNamed [] q.key)
      wider r (q, i, n, e, f) = (q, i, n, e, λ z. (f z, λ j y. absurd y))

  pub shrinks_on : (c : Client K V) → Shrinks s.client c → Inv o l (record s { client = c; ports = map (reading port.conn) s.ports; processed = s.processed ++ [] })
  shrinks_on c h = plain_on c h.waits (λ e i. inv.entries e (h.entries e i))

  -- an answer
  module _ (n : ℕ) (reply : List ℕ) (answers : m ≡ Answer n reply) where
    -- the value that the answer of an open look-up has
    pub fills : (r : LookUp K) → In r s.client.waiting → (r.number == n) ≡ true → (v : V) → l.value_in reply ≡ Some v → r.overtaken ≡ None → KeptOk o l s (record { key = r.key; value = v })
    fills r i t v says none = go (subst (SaidOk o l s.grid port.conn) answers this_ok)
      where
        h : WaitOk o l s r
        h = inv.waiting r i

        number : r.number ≡ n
        number = same_number r.number n t

        go : (p : ℕ) × (x : Executed C) × In (Called x) (world o s.grid p).recorded.log × (x.conn ≡ port.conn) × (x.number ≡ n) × (x.reply ≡ reply) × Freed (world o s.grid p) (name_of x) → KeptOk o l s (record { key = r.key; value = v })
        go (p, x, logged, conn, num, said, freed) =
            let mine : IsOwn s.ports x.conn = (port, there, sym conn) in
            let own = h.own p (asked_of x) (in_calls (world o s.grid p).recorded.log x logged) mine (num ∙ sym number) in
            let here : In (Called x) (world o s.grid (l.partition r.key)).recorded.log = subst (λ q. In (Called x) (world o s.grid q).recorded.log) own.0 logged in
            record {
              get = x;
              logged = here;
              conn = mine;
              call = own.1 ∙ ap (λ z. l.get z r.key) (number ∙ sym num);
              says = ap l.value_in said ∙ says;
              freed = subst (λ q. Freed (world o s.grid q) (name_of x)) own.0 freed;
              after = h.after none x here mine (num ∙ sym number);
            }

    pub with_value : (r : LookUp K) → In r s.client.waiting → (r.number == n) ≡ true → (v : V) → l.value_in reply ≡ Some v → (z : Option Overtaking) → r.overtaken ≡ z
        → Inv o l (record s { client = closed n (elim z [ None ↦ kept l r.key v s.client | Some x ↦ s.client ]); ports = map (reading port.conn) s.ports; processed = s.processed ++ [] })
    with_value r i t v says (Some x) e = shrinks_on (closed n s.client) (closing n s.client)
    with_value r i t v says None e = plain_on (closed n (kept l r.key v s.client)) (closing n s.client).waits entries
      where
        new : Kept K V
        new = record { key = r.key; value = v }

        at : (y : Kept K V) → In y (new ∷ others l r.key s.client.entries) → KeptOk o l s y
        at y (inl d) = subst (KeptOk o l s) d (fills r i t v says e)
        at y (inr d) = inv.entries y (in_filtered (λ (k : Kept K V). not (is_for l r.key k)) s.client.entries y d).0

        entries : (y : Kept K V) → In y (take s.client.capacity (record { key = r.key; value = v } ∷ others l r.key s.client.entries)) → KeptOk o l s y
        entries y j = at y (in_take s.client.capacity (new ∷ others l r.key s.client.entries) y j)

    pub of_look_up : (r : LookUp K) → In r s.client.waiting → (r.number == n) ≡ true → (y : Option V) → l.value_in reply ≡ y
        → Inv o l (record s { client = closed n (elim y [ None ↦ s.client | Some v ↦ filled l r v s.client ]); ports = map (reading port.conn) s.ports; processed = s.processed ++ [] })
    of_look_up r i t None e = shrinks_on (closed n s.client) (closing n s.client)
    of_look_up r i t (Some v) e = with_value r i t v e r.overtaken refl

    pub answers_at : (x : Option (LookUp K)) → find (λ (r : LookUp K). r.number == n) s.client.waiting ≡ x
        → Inv o l (record s { client = elim x [ None ↦ s.client | Some r ↦ closed n (elim (l.value_in reply) [ None ↦ s.client | Some v ↦ filled l r v s.client ]) ]; ports = map (reading port.conn) s.ports; processed = s.processed ++ [] })
    answers_at None e = shrinks_on s.client (stays s.client s.client refl refl)
    answers_at (Some r) e = let f = find_in (λ (x : LookUp K). x.number == n) s.client.waiting r e in of_look_up r f.0 f.1 (l.value_in reply) refl

    pub is_answered : Inv o l (record s { client = answered l n reply s.client; ports = map (reading port.conn) s.ports; processed = s.processed ++ [] })
    is_answered = answers_at (find (λ (r : LookUp K). r.number == n) s.client.waiting) refl

  -- an invalidation, on whichever connection: what it names goes, and is overtaken
  pub is_invalidated : (k : K) (v n : ℕ) → m ≡ Invalidation k v n
      → Inv o l (record s { client = invalidated l k (record { version = v; number = n }) s.client; ports = map (reading port.conn) s.ports; processed = s.processed ++ record { key = k; version = v; number = n } ∷ [] })
  is_invalidated k v n e = goes_on o l s inv (invalidated l k by s.client) ports (this ∷ []) (s.processed ++ this ∷ []) own_back own_on waits entries unread_rest backed (λ i j. in_cases i s.processed (this ∷ []) j)
    where
      this : Invalidated K
      this = record { key = k; version = v; number = n }

      by : Overtaking
      by = record { version = v; number = n }

      differs : (q : K) → l.same q k ≡ false → NotNamed (record { key = k; version = v; number = n } ∷ []) q
      differs q f i (inl z) d = not_both (l.same q k) ((keyed.same q k).1 (sym (ap (λ (x : Invalidated K). x.key) z ∙ d))) f
      differs q f i (inr j) d = absurd j

      waits : (r : LookUp K) → In r (map (overtaking (λ q. l.same q k) (record { version = v; number = n })) s.client.waiting)
          → (q : LookUp K) × In q s.client.waiting × (q.number ≡ r.number) × (q.key ≡ r.key) × (r.overtaken ≡ None → (q.overtaken ≡ None) × NotNamed (record { key = k; version = v; number = n } ∷ []) q.key)
      waits r i = go (overtaken_from (λ q. l.same q k) by s.client.waiting r i)
        where
          go : (q : LookUp K) × In q s.client.waiting × (q.number ≡ r.number) × (q.key ≡ r.key) × (r.overtaken ≡ None → (q.overtaken ≡ None) × (l.same q.key k ≡ false))
              → (q : LookUp K) × In q s.client.waiting × (q.number ≡ r.number) × (q.key ≡ r.key) × (r.overtaken ≡ None → (q.overtaken ≡ None) × NotNamed (record { key = k; version = v; number = n } ∷ []) q.key)
          go (q, j, a, b, f) = (q, j, a, b, λ z. (let g = f z in (g.0, differs q.key g.1)))

      entries : (x : Kept K V) → In x (filter (λ (y : Kept K V). not (l.same y.key k)) s.client.entries) → KeptOk o l s x × NotNamed (record { key = k; version = v; number = n } ∷ []) x.key
      entries x i = let f = in_filtered (λ (y : Kept K V). not (l.same y.key k)) s.client.entries x i in (inv.entries x f.0, differs x.key (not_true (l.same x.key k) f.1))

      backed : (i : Invalidated K) → In i (record { key = k; version = v; number = n } ∷ []) → Backed s.grid.changes (world o s.grid (l.partition i.key)) i.key i.version i.number
      backed i (inl z) = subst (λ (x : Invalidated K). Backed s.grid.changes (world o s.grid (l.partition x.key)) x.key x.version x.number) z (subst (SaidOk o l s.grid port.conn) e this_ok)
      backed i (inr j) = absurd j

  pub hears_this : (x : Said K) → m ≡ x → Inv o l (heard l port.conn x s)
  hears_this (Answer n reply) e = is_answered n reply e
  hears_this (Refusal n) e = shrinks_on (closed n s.client) (closing n s.client)
  hears_this (Invalidation k v n) e = is_invalidated k v n e
  hears_this (Rows rows) e = shrinks_on (rows_heard l s.client rows) (rows_shrink l s.client rows)

pub hears_next : {C State K V : Type 0} (o : Object C State) (l : Keyed C State K V) (partitions : ℕ) → IsKeyed o l partitions → (s : Several C K V) → Inv o l s → (port : Port K) → In port s.ports → (ms : List (Said K)) → port.unread ≡ ms → Inv o l (hears l port.conn ms s)
hears_next o l partitions keyed s inv port there [] e = inv
hears_next o l partitions keyed s inv port there (m ∷ rest) e = hears_this o l partitions keyed s inv port there m rest e m refl
