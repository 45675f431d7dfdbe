-- A message that the client handles keeps the invariant.
use Rattle.std.proofs.Common.{◌≡◌, ◌≢◌, ℕ, ◌<◌, Bool, true, false, not, ◌==◌, List, [], ◌∷◌, ◌++◌, filter, take, Option, Some, None, zero, suc, refl, ap, sym, ◌∙◌, subst, ◌⊎◌, ⊎_elim, inl, inr}
use Rattle.std.specs.List.{find, flat_map}
use Rattle.grid_base.specs.Objects.{Object}
use Rattle.partition_protocol.specs.History.{Executed, Called}
use Rattle.partition_protocol.specs.HistorySizes.{asked_of}
use Rattle.partition_protocol.proofs.HistorySizes.{in_calls}
use Rattle.partition_protocol.proofs.Lists.{In, in_cases, on_cond}
use Rattle.partition_protocol.proofs.RowFacts.{same_number, not_true, not_both}
use Rattle.near_protocol.specs.Keyed.{Keyed, IsKeyed}
use Rattle.near_protocol.specs.Client.{Client, Kept, LookUp, Overtaking, Said, Answer, Refusal, Invalidation, RowHeard, is_for, others, closed, kept, filled, answered, overtaking, dropping, invalidated, known_in}
use Rattle.near_protocol.specs.Near.{Invalidated, Near, world, name_of, known_version}
use Rattle.near_protocol.proofs.Parts.{in_filtered, in_mapped}
use Rattle.near_protocol.proofs.Invariant.{Freed, Backed, SaidOk, versions_in, listed, told_versions, ClimbsTo, Beyond, After, WaitOk, KeptOk, Inv}

-- lists

pub find_in : {X : Type 0} (t : X → Bool) (xs : List X) (x : X) → find t xs ≡ Some x → In x xs × (t x ≡ true)
find_in t [] x e = absurd cc
find_in {X} t (y ∷ ys) x e = on_cond (λ (z : Option X). z ≡ Some x → In x (y ∷ ys) × (t x ≡ true)) (t y) (Some y) (find t ys) (λ p s. (let same : y ≡ x = cc in (inl same, subst (λ k. t k ≡ true) same p))) (λ p s. let r = find_in t ys x s in (inr r.0, r.1)) e

pub in_take : {X : Type 0} (n : ℕ) (xs : List X) (x : X) → In x (take n xs) → In x xs
in_take zero xs x i = absurd i
in_take (suc n) [] x i = absurd i
in_take (suc n) (y ∷ ys) x (inl e) = inl e
in_take (suc n) (y ∷ ys) x (inr i) = inr (in_take n ys x i)

-- what stays of a key as the client goes on to c, with u unread and more invalidations handled
pub record Keeps {C State K V : Type 0} (l : Keyed C State K V) (s : Near C K V) (c : Client K V) (u : List (Said K)) (more : List (Invalidated K)) (k : K) : Type 0 where
  pub told : (v n : ℕ) → In (Invalidation k v n) s.unread → In (Invalidation k v n) u
  pub others : (i : Invalidated K) → In i more → i.key ≢ k
  pub beyond : (n : ℕ) → Beyond (told_versions (l.partition k) s.client.rows s.unread) n → Beyond (told_versions (l.partition k) c.rows u) n

module _ {C State K V : Type 0} (o : Object C State) (l : Keyed C State K V) (partitions : ℕ) (s : Near C K V) (inv : Inv o l partitions s) (c : Client K V) (u : List (Said K)) (more ended : List (Invalidated K))
    (waits : (r : LookUp K) → In r c.waiting → (q : LookUp K) × In q s.client.waiting × (q.number ≡ r.number) × (q.key ≡ r.key) × (r.overtaken ≡ None → (q.overtaken ≡ None) × Keeps l s c u more q.key))
    (keeps : (e : Kept K V) → In e c.entries → KeptOk o l s e × Keeps l s c u more e.key)
    (unread : (m : Said K) → In m u → SaidOk o l s.grid s.conn m)
    (more_ok : (i : Invalidated K) → In i more → Backed s.grid.changes (world o s.grid (l.partition i.key)) i.key i.version i.number)
    (ended_is : (i : Invalidated K) → In i ended → In i s.processed ⊎ In i more)
    (rows : (p : ℕ) → p < partitions → ClimbsTo (told_versions p c.rows u) (known_version s.member (world o s.grid p))) where
  abbrev pub s' : Near C K V
  s' = record s { client = c; unread = u; processed = ended }

  pub after_on : (k : K) (x : Executed C) → Keeps l s c u more k → After o l s k x → After o l s' k x
  after_on k x h a = record {
    processed = λ i j e. ⊎_elim (λ p. a.processed i p e) (λ p. absurd (h.others i p e)) (ended_is i j);
    told = λ d i e m f. ⊎_elim (λ t. inl (t.0, t.1, h.told t.0 t.1 t.2)) (λ g. inr g) (a.told d i e m f);
    later = a.later;
    node = a.node;
    at = a.at;
    known = a.known;
    leads = a.leads;
    heard = h.beyond x.version a.heard;
  }

  pub wait_on : (r : LookUp K) → (q : LookUp K) × In q s.client.waiting × (q.number ≡ r.number) × (q.key ≡ r.key) × (r.overtaken ≡ None → (q.overtaken ≡ None) × Keeps l s c u more q.key) → WaitOk o l s' r
  wait_on r (q, i, n, k, f) = record {
    number = subst (λ z. z < s.next_number) n h.number;
    own = λ p a j d e. (let z = h.own p a j d (e ∙ sym n) in (z.0 ∙ ap l.partition k, z.1 ∙ ap (λ y. l.get y q.key) n ∙ ap (λ y. l.get r.number y) k));
    after = λ z x j d e. subst (λ y. After o l s' y x) k
        (let g = f z in after_on q.key x g.1 (h.after g.0 x (subst (λ y. In (Called x) (world o s.grid (l.partition y)).recorded.log) (sym k) j) d (e ∙ sym n)));
  }
    where
      h : WaitOk o l s q
      h = inv.waiting q i

  pub kept_on : (e : Kept K V) → KeptOk o l s e × Keeps l s c u more e.key → KeptOk o l s' e
  kept_on e (h, k) = record { get = h.get; logged = h.logged; conn = h.conn; call = h.call; says = h.says; freed = h.freed; after = after_on e.key h.get k h.after }

  pub goes_on : Inv o l partitions s'
  goes_on = record {
    numbers = inv.numbers;
    waiting = λ r i. wait_on r (waits r i);
    entries = λ e i. kept_on e (keeps e i);
    unread = unread;
    processed = λ i j. ⊎_elim (λ p. inv.processed i p) (λ p. more_ok i p) (ended_is i j);
    changes = inv.changes;
    rows = rows;
  }

-- one message

module _ {C State K V : Type 0} (o : Object C State) (l : Keyed C State K V) (partitions : ℕ) (keyed : IsKeyed o l partitions) (s : Near C K V) (inv : Inv o l partitions s) (m : Said K) (rest : List (Said K)) (is : s.unread ≡ m ∷ rest) where
  pub unread_rest : (x : Said K) → In x rest → SaidOk o l s.grid s.conn x
  unread_rest x i = inv.unread x (subst (In x) (sym is) (inr i))

  pub this_ok : SaidOk o l s.grid s.conn m
  this_ok = inv.unread m (subst (In m) (sym is) (inl refl))

  pub same_ended : (i : Invalidated K) → In i (s.processed ++ []) → In i s.processed ⊎ In i []
  same_ended i j = in_cases i s.processed [] j

  -- a message that is no invalidation and no row
  module _ (plain : (k : K) (v n : ℕ) → m ≢ Invalidation k v n) (quiet : (p : ℕ) → versions_in p m ≡ []) (c : Client K V) (same_rows : c.rows ≡ s.client.rows) where
    pub versions : (p : ℕ) → told_versions p s.client.rows s.unread ≡ told_versions p c.rows rest
    versions p = ap (λ ms. told_versions p s.client.rows ms) is ∙ ap (λ vs. listed (known_in p s.client.rows) ++ (vs ++ flat_map (versions_in p) rest)) (quiet p) ∙ ap (λ rs. told_versions p rs rest) (sym same_rows)

    pub plain_keeps : (k : K) → Keeps l s c rest [] k
    plain_keeps k = record {
      told = λ v n i. there v n (subst (In (Invalidation k v n)) is i);
      others = λ i j. absurd j;
      beyond = λ n b. subst (λ vs. Beyond vs n) (versions (l.partition k)) b;
    }
      where
        there : (v n : ℕ) → In (Invalidation k v n) (m ∷ rest) → In (Invalidation k v n) rest
        there v n (inl e) = absurd (plain k v n e)
        there v n (inr i) = i

    pub plain_on : ((r : LookUp K) → In r c.waiting → In r s.client.waiting) → ((e : Kept K V) → In e c.entries → KeptOk o l s e) → Inv o l partitions (record s { client = c; unread = rest; processed = s.processed ++ [] })
    plain_on w k = goes_on o l partitions s inv c rest [] (s.processed ++ []) (λ r i. (r, w r i, refl, refl, λ z. (z, plain_keeps r.key))) (λ e i. (k e i, plain_keeps e.key)) unread_rest (λ i j. absurd j) same_ended
        (λ p b. subst (λ vs. ClimbsTo vs (known_version s.member (world o s.grid p))) (versions p) (inv.rows p b))

  pub waits_less : (n : ℕ) (r : LookUp K) → In r (filter (λ (x : LookUp K). not (x.number == n)) s.client.waiting) → In r s.client.waiting
  waits_less n r i = (in_filtered (λ (x : LookUp K). not (x.number == n)) s.client.waiting r i).0

  pub refused : (n : ℕ) → m ≡ Refusal n → Inv o l partitions (record s { client = closed n s.client; unread = rest; processed = s.processed ++ [] })
  refused n e = plain_on (λ k v i f. absurd (let g = sym e ∙ f in cc)) (λ p. ap (versions_in p) e) (closed n s.client) refl (waits_less n) (λ x i. inv.entries x i)

  -- an answer
  module _ (n : ℕ) (reply : List ℕ) (answers : m ≡ Answer n reply) where
    pub answer_on : (c : Client K V) → c.rows ≡ s.client.rows → ((r : LookUp K) → In r c.waiting → In r s.client.waiting) → ((e : Kept K V) → In e c.entries → KeptOk o l s e) → Inv o l partitions (record s { client = c; unread = rest; processed = s.processed ++ [] })
    answer_on c = plain_on (λ k v i f. absurd (let g = sym answers ∙ f in cc)) (λ p. ap (versions_in p) answers) c

    -- the value that the answer of an open look-up has
    pub fills : (r : LookUp K) → In r s.client.waiting → (r.number == n) ≡ true → (v : V) → l.value_in reply ≡ Some v → r.overtaken ≡ None → KeptOk o l s (record { key = r.key; value = v })
    fills r i t v says none = go (subst (SaidOk o l s.grid s.conn) answers this_ok)
      where
        h : WaitOk o l s r
        h = inv.waiting r i

        number : r.number ≡ n
        number = same_number r.number n t

        go : (p : ℕ) × (x : Executed C) × In (Called x) (world o s.grid p).recorded.log × (x.conn ≡ s.conn) × (x.number ≡ n) × (x.reply ≡ reply) × Freed (world o s.grid p) (name_of x) → KeptOk o l s (record { key = r.key; value = v })
        go (p, x, logged, conn, num, said, freed) =
            let own = h.own p (asked_of x) (in_calls (world o s.grid p).recorded.log x logged) conn (num ∙ sym number) in
            let here : In (Called x) (world o s.grid (l.partition r.key)).recorded.log = subst (λ q. In (Called x) (world o s.grid q).recorded.log) own.0 logged in
            record {
              get = x;
              logged = here;
              conn = conn;
              call = own.1 ∙ ap (λ z. l.get z r.key) (number ∙ sym num);
              says = ap l.value_in said ∙ says;
              freed = subst (λ q. Freed (world o s.grid q) (name_of x)) own.0 freed;
              after = h.after none x here conn (num ∙ sym number);
            }

    pub with_value : (r : LookUp K) → In r s.client.waiting → (r.number == n) ≡ true → (v : V) → l.value_in reply ≡ Some v → (z : Option Overtaking) → r.overtaken ≡ z
        → Inv o l partitions (record s { client = closed n (elim z [ None ↦ kept l r.key v s.client | Some x ↦ s.client ]); unread = rest; processed = s.processed ++ [] })
    with_value r i t v says (Some x) e = answer_on (closed n s.client) refl (waits_less n) (λ y j. inv.entries y j)
    with_value r i t v says None e = answer_on (closed n (kept l r.key v s.client)) refl (waits_less n) entries
      where
        new : Kept K V
        new = record { key = r.key; value = v }

        there : (y : Kept K V) → In y (new ∷ others l r.key s.client.entries) → KeptOk o l s y
        there y (inl d) = subst (KeptOk o l s) d (fills r i t v says e)
        there y (inr d) = inv.entries y (in_filtered (λ (k : Kept K V). not (is_for l r.key k)) s.client.entries y d).0

        entries : (y : Kept K V) → In y (take s.client.capacity (record { key = r.key; value = v } ∷ others l r.key s.client.entries)) → KeptOk o l s y
        entries y j = there y (in_take s.client.capacity (new ∷ others l r.key s.client.entries) y j)

    pub of_look_up : (r : LookUp K) → In r s.client.waiting → (r.number == n) ≡ true → (y : Option V) → l.value_in reply ≡ y
        → Inv o l partitions (record s { client = closed n (elim y [ None ↦ s.client | Some v ↦ filled l r v s.client ]); unread = rest; processed = s.processed ++ [] })
    of_look_up r i t None e = answer_on (closed n s.client) refl (waits_less n) (λ y j. inv.entries y j)
    of_look_up r i t (Some v) e = with_value r i t v e r.overtaken refl

    pub answers_at : (x : Option (LookUp K)) → find (λ (r : LookUp K). r.number == n) s.client.waiting ≡ x
        → Inv o l partitions (record s { client = elim x [ None ↦ s.client | Some r ↦ closed n (elim (l.value_in reply) [ None ↦ s.client | Some v ↦ filled l r v s.client ]) ]; unread = rest; processed = s.processed ++ [] })
    answers_at None e = answer_on s.client refl (λ r i. i) (λ y j. inv.entries y j)
    answers_at (Some r) e = let f = find_in (λ (x : LookUp K). x.number == n) s.client.waiting r e in of_look_up r f.0 f.1 (l.value_in reply) refl

    pub is_answered : Inv o l partitions (record s { client = answered l n reply s.client; unread = rest; processed = s.processed ++ [] })
    is_answered = answers_at (find (λ (r : LookUp K). r.number == n) s.client.waiting) refl

  -- entries and look-ups of other keys stay as they were
  module _ (t : K → Bool) (by : Overtaking) (rows : List RowHeard) (u : List (Said K)) (more : List (Invalidated K))
      (others : (k : K) → t k ≡ false → Keeps l s (record (dropping t by s.client) { rows = rows }) u more k) where
    abbrev pub after_drop : Client K V
    after_drop = record (dropping t by s.client) { rows = rows }

    pub drop_entries : (e : Kept K V) → In e after_drop.entries → KeptOk o l s e × Keeps l s after_drop u more e.key
    drop_entries e i = let f = in_filtered (λ (x : Kept K V). not (t x.key)) s.client.entries e i in (inv.entries e f.0, others e.key (not_true (t e.key) f.1))

    pub drop_waits : (r : LookUp K) → In r after_drop.waiting → (q : LookUp K) × In q s.client.waiting × (q.number ≡ r.number) × (q.key ≡ r.key) × (r.overtaken ≡ None → (q.overtaken ≡ None) × Keeps l s after_drop u more q.key)
    drop_waits r i = go (in_mapped (overtaking t by) s.client.waiting r i)
      where
        go : (q : LookUp K) × In q s.client.waiting × (overtaking t by q ≡ r) → (q : LookUp K) × In q s.client.waiting × (q.number ≡ r.number) × (q.key ≡ r.key) × (r.overtaken ≡ None → (q.overtaken ≡ None) × Keeps l s after_drop u more q.key)
        go (q, j, e) = on_cond (λ (x : LookUp K). x ≡ r → (q : LookUp K) × In q s.client.waiting × (q.number ≡ r.number) × (q.key ≡ r.key) × (r.overtaken ≡ None → (q.overtaken ≡ None) × Keeps l s after_drop u more q.key)) (t q.key) (record q { overtaken = Some by }) q
            (λ p z. (q, j, ap (λ (x : LookUp K). x.number) z, ap (λ (x : LookUp K). x.key) z, λ n. absurd (let y = ap (λ (x : LookUp K). x.overtaken) z ∙ n in cc)))
            (λ p z. (q, j, ap (λ (x : LookUp K). x.number) z, ap (λ (x : LookUp K). x.key) z, λ n. (ap (λ (x : LookUp K). x.overtaken) z ∙ n, others q.key p))) e

  pub is_invalidated : (k : K) (v n : ℕ) → m ≡ Invalidation k v n → Inv o l partitions (record s { client = invalidated l k (record { version = v; number = n }) s.client; unread = rest; processed = s.processed ++ record { key = k; version = v; number = n } ∷ [] })
  is_invalidated k v n e = goes_on o l partitions s inv (invalidated l k by s.client) rest (this ∷ []) (s.processed ++ this ∷ []) (drop_waits t by s.client.rows rest (this ∷ []) keeps) (drop_entries t by s.client.rows rest (this ∷ []) keeps) unread_rest this_backed
      (λ i j. in_cases i s.processed (this ∷ []) j) (λ p b. subst (λ vs. ClimbsTo vs (known_version s.member (world o s.grid p))) (versions_on p) (inv.rows p b))
    where
      this : Invalidated K
      this = record { key = k; version = v; number = n }

      by : Overtaking
      by = record { version = v; number = n }

      t : K → Bool
      t q = l.same q k

      versions_on : (p : ℕ) → told_versions p s.client.rows s.unread ≡ told_versions p s.client.rows rest
      versions_on p = ap (λ ms. told_versions p s.client.rows ms) (is ∙ ap (λ z. z ∷ rest) e)

      differs : (q : K) → l.same q k ≡ false → k ≢ q
      differs q f d = not_both (l.same q k) ((keyed.same q k).1 (sym d)) f

      keeps : (q : K) → l.same q k ≡ false → Keeps l s (dropping (λ z. l.same z k) (record { version = v; number = n }) s.client) rest (record { key = k; version = v; number = n } ∷ []) q
      keeps q f = record {
        told = λ a b i. there a b (subst (In (Invalidation q a b)) (is ∙ ap (λ z. z ∷ rest) e) i);
        others = λ i j. by_other i j;
        beyond = λ a b. subst (λ vs. Beyond vs a) (versions_on (l.partition q)) b;
      }
        where
          there : (a b : ℕ) → In (Invalidation q a b) (Invalidation k v n ∷ rest) → In (Invalidation q a b) rest
          there a b (inl z) = absurd (differs q f cc)
          there a b (inr i) = i

          by_other : (i : Invalidated K) → In i (record { key = k; version = v; number = n } ∷ []) → i.key ≢ q
          by_other i (inl z) = λ y. differs q f (ap (λ (x : Invalidated K). x.key) z ∙ y)
          by_other i (inr j) = absurd j

      this_backed : (i : Invalidated K) → In i (this ∷ []) → Backed s.grid.changes (world o s.grid (l.partition i.key)) i.key i.version i.number
      this_backed i (inl z) = subst (λ (x : Invalidated K). Backed s.grid.changes (world o s.grid (l.partition x.key)) x.key x.version x.number) z (subst (SaidOk o l s.grid s.conn) e this_ok)
      this_backed i (inr j) = absurd j
