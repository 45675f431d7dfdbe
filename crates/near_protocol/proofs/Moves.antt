-- Every move of a near client keeps the invariant.
use Rattle.std.proofs.Common.{◌≡◌, ℕ, ◌≤◌, Bool, true, false, cond, not, ◌==◌, List, [], ◌∷◌, ◌++◌, map, Option, Some, None, refl, ap, sym, ◌∙◌, subst, ⊎_elim, inl, inr, arith, append_assoc, append-nil}
use Rattle.std.specs.List.{find, flat_map}
use Rattle.grid_base.specs.Objects.{Object}
use Rattle.partition_protocol.specs.World.{is_live}
use Rattle.partition_protocol.specs.Events.{Event, Call, Deliver, Lose, Repeat, Resend, Crash, Detect, BeginMove, BeginJoin, BeginHandover, Advance, Reopen}
use Rattle.partition_protocol.specs.Arrivals.{Asked, name, asked_by, arrivals, NamedOnce}
use Rattle.partition_protocol.specs.HistorySizes.{asked_of}
use Rattle.partition_protocol.proofs.HistorySizes.{in_calls}
use Rattle.partition_protocol.proofs.Lists.{In, in_left, in_cases}
use Rattle.partition_protocol.proofs.RowFacts.{number_same, not_both}
use Rattle.partition_protocol.proofs.Answers.{map_append, once_left}
use Rattle.near_protocol.specs.Keyed.{Keyed, IsKeyed}
use Rattle.near_protocol.specs.Client.{Kept, LookUp, Said, Refusal, Invalidation, RowHeard, is_for, hit, others, used, known_in}
use Rattle.near_protocol.specs.Near.{At, Grid, Near, Move, Occurs, LooksUp, LooksUpInVain, Hears, events_at, world, known_version, happened, occurred, opening_at, looked_up, missed_in_vain, looked_up_in_vain, hears, is_call_on, moved, all_moved}
use Rattle.near_protocol.specs.Claims.{AreNamedOnce}
use Rattle.near_protocol.proofs.Parts.{in_filtered}
use Rattle.near_protocol.proofs.Worlds.{Sound, sound, events_at-append}
use Rattle.near_protocol.proofs.Invariant.{SaidOk, versions_in, listed, ClimbsTo, Beyond, WaitOk, Inv}
use Rattle.near_protocol.proofs.Saying.{flat_map_append}
use Rattle.near_protocol.proofs.Occur.{OwnOk, OwnAt, occurs}
use Rattle.near_protocol.proofs.Hear.{Keeps, goes_on, find_in}
use Rattle.near_protocol.proofs.HearRows.{hears_next}

-- names that stand once in a longer list stand once in its front

pub arrivals_append : {C : Type 0} (es fs : List (Event C)) → arrivals (es ++ fs) ≡ arrivals es ++ arrivals fs
arrivals_append [] fs = refl
arrivals_append (e ∷ es) fs = ap (λ as'. asked_by e ++ as') (arrivals_append es fs) ∙ sym (append_assoc (asked_by e) (arrivals es) (arrivals fs))

pub named_front : {C : Type 0} (p : ℕ) (es fs : List (At C)) → NamedOnce (map name (arrivals (events_at p (es ++ fs)))) → NamedOnce (map name (arrivals (events_at p es)))
named_front p es fs n = once_left (map name (arrivals (events_at p es))) (map name (arrivals (events_at p fs)))
    (subst NamedOnce (ap (λ xs. map name (arrivals xs)) (events_at-append p es fs) ∙ ap (map name) (arrivals_append (events_at p es) (events_at p fs)) ∙ map_append name (arrivals (events_at p es)) (arrivals (events_at p fs))) n)

-- a later grid: of as many members, with more events
pub record IsLater {C K : Type 0} (g h : Grid C K) : Type 0 where
  pub members : h.members ≡ g.members
  pub more : List (At C)
  pub events : g.events ++ more ≡ h.events

pub same_grid : {C K : Type 0} (g : Grid C K) → IsLater g g
same_grid g = record { members = refl; more = []; events = append-nil g.events }

pub later_trans : {C K : Type 0} (g h k : Grid C K) → IsLater g h → IsLater h k → IsLater g k
later_trans g h k a b = record { members = b.members ∙ a.members; more = a.more ++ b.more; events = sym (append_assoc g.events a.more b.more) ∙ ap (λ es. es ++ b.more) a.events ∙ b.events }

pub named_later : {C K : Type 0} (g h : Grid C K) → IsLater g h → AreNamedOnce h → AreNamedOnce g
named_later g h a n p = named_front p g.events a.more (subst (λ es. NamedOnce (map name (arrivals (events_at p es)))) (sym a.events) (n p))

module _ {C State K V : Type 0} (o : Object C State) (l : Keyed C State K V) where
  pub event_later : (g : Grid C K) (p : ℕ) (e : Event C) → IsLater g (happened o l g p e)
  event_later g p e = record { members = refl; more = record { partition = p; event = e } ∷ []; events = refl }

  pub later_if : (s : Near C K V) (b : Bool) (x y : Near C K V) → IsLater s.grid x.grid → IsLater s.grid y.grid → IsLater s.grid (cond b x y).grid
  later_if s true x y a c = a
  later_if s false x y a c = c

  pub looked_later : (s : Near C K V) (k : K) (now : ℕ) (x : Option V) → IsLater s.grid (looked_up o l s k now x).grid
  looked_later s k now (Some v) = same_grid s.grid
  looked_later s k now None = later_if s (is_live (world o s.grid (l.partition k)) s.member) (occurred o l (opening_at s k) (l.partition k) (Call s.member s.conn s.next_number (l.get s.next_number k) now)) s
      (event_later s.grid (l.partition k) (Call s.member s.conn s.next_number (l.get s.next_number k) now)) (same_grid s.grid)

  pub vain_later : (s : Near C K V) (k : K) (x : Option V) → IsLater s.grid (looked_up_in_vain l s k x).grid
  vain_later s k (Some v) = same_grid s.grid
  vain_later s k None = same_grid s.grid

  pub heard_later : (s : Near C K V) (ms : List (Said K)) → IsLater s.grid (hears l s ms).grid
  heard_later s [] = same_grid s.grid
  heard_later s (m ∷ ms) = same_grid s.grid

  pub move_later : (s : Near C K V) (m : Move C K) → IsLater s.grid (moved o l s m).grid
  move_later s (Occurs p e) = later_if s (is_call_on s.conn e) s (occurred o l s p e) (same_grid s.grid) (event_later s.grid p e)
  move_later s (LooksUp k now) = looked_later s k now (hit l k s.client)
  move_later s (LooksUpInVain k) = vain_later s k (hit l k s.client)
  move_later s Hears = heard_later s s.unread

  pub moves_later : (s : Near C K V) (ms : List (Move C K)) → IsLater s.grid (all_moved o l s ms).grid
  moves_later s [] = same_grid s.grid
  moves_later s (m ∷ ms) = later_trans s.grid (moved o l s m).grid (all_moved o l (moved o l s m) ms).grid (move_later s m) (moves_later (moved o l s m) ms)

  pub all_sound : (g : Grid C K) → 1 ≤ g.members → AreNamedOnce g → (q : ℕ) → Sound (world o g q)
  all_sound g one named q = sound o g q one (named q)

  -- a call of another connection
  pub not_own : (s : Near C K V) (p : ℕ) (e : Event C) → is_call_on s.conn e ≡ false → OwnOk l s p e
  not_own s p (Call m c n call now) f a (inl i) own = absurd (not_both (c == s.conn) (number_same c s.conn (ap (λ (x : Asked C). x.conn) i ∙ own)) f)
  not_own s p (Call m c n call now) f a (inr i) own = absurd i
  not_own s p (Deliver x t i) f a j own = absurd j
  not_own s p (Lose x t i) f a j own = absurd j
  not_own s p (Repeat x t i) f a j own = absurd j
  not_own s p (Resend m) f a j own = absurd j
  not_own s p (Crash m) f a j own = absurd j
  not_own s p (Detect m) f a j own = absurd j
  not_own s p (BeginMove x t) f a j own = absurd j
  not_own s p (BeginJoin t) f a j own = absurd j
  not_own s p (BeginHandover x t) f a j own = absurd j
  not_own s p Advance f a j own = absurd j
  not_own s p Reopen f a j own = absurd j

  pub not_at : (s : Near C K V) (e : Event C) → is_call_on s.conn e ≡ false → OwnAt s e
  not_at s e f m conn number call now is own = absurd (not_both (is_call_on s.conn e) (ap (is_call_on s.conn) is ∙ number_same conn s.conn own) f)

  -- a refusal that is yet to be read
  module _ (partitions : ℕ) (s : Near C K V) (inv : Inv o l partitions s) (n : ℕ) where
    abbrev pub refusals : List (Said K)
    refusals = s.unread ++ Refusal n ∷ []

    pub no_more : (p : ℕ) → flat_map (versions_in p) s.unread ≡ flat_map (versions_in p) refusals
    no_more p = sym (flat_map_append (versions_in p) s.unread (Refusal n ∷ []) ∙ append-nil (flat_map (versions_in p) s.unread))

    pub refused_in : Inv o l partitions (record s { unread = s.unread ++ Refusal n ∷ [] })
    refused_in = goes_on o l partitions s inv s.client refusals [] s.processed (λ r i. (r, i, refl, refl, λ z. (z, keeps r.key))) (λ e i. (inv.entries e i, keeps e.key))
        said (λ i j. absurd j) (λ i j. inl j) (λ p b. subst (λ vs. ClimbsTo (listed (known_in p s.client.rows) ++ vs) (known_version s.member (world o s.grid p))) (no_more p) (inv.rows p b))
      where
        keeps : (q : K) → Keeps l s s.client (s.unread ++ Refusal n ∷ []) [] q
        keeps q = record {
          told = λ v m i. in_left (Invalidation q v m) s.unread (Refusal n ∷ []) i;
          others = λ i j. absurd j;
          beyond = λ m b. subst (λ vs. Beyond (listed (known_in (l.partition q) s.client.rows) ++ vs) m) (no_more (l.partition q)) b;
        }

        new : (m : Said K) → In m (Refusal n ∷ []) → SaidOk o l s.grid s.conn m
        new m (inl e) = subst (SaidOk o l s.grid s.conn) e tt
        new m (inr i) = absurd i

        said : (m : Said K) → In m (s.unread ++ Refusal n ∷ []) → SaidOk o l s.grid s.conn m
        said m i = ⊎_elim (λ j. inv.unread m j) (λ j. new m j) (in_cases m s.unread (Refusal n ∷ []) i)

  module _ (partitions : ℕ) (keyed : IsKeyed o l partitions) (s : Near C K V) (inv : Inv o l partitions s) (one : 1 ≤ s.grid.members) (named : AreNamedOnce s.grid) where
    pub occurs_if : (p : ℕ) (e : Event C) (b : Bool) → is_call_on s.conn e ≡ b → AreNamedOnce (cond b s (occurred o l s p e)).grid → Inv o l partitions (cond b s (occurred o l s p e))
    occurs_if p e true t n = inv
    occurs_if p e false t n = occurs o l partitions keyed s inv p e (not_own s p e t) (not_at s e t) one (all_sound s.grid one named) (all_sound (happened o l s.grid p e) one n)

    -- a hit moves an entry
    pub uses : (k : K) → Inv o l partitions (record s { client = used l k s.client })
    uses k = goes_on o l partitions s inv (used l k s.client) s.unread [] s.processed (λ r i. (r, i, refl, refl, λ z. (z, keeps r.key))) (λ e i. (inv.entries e (there (find (is_for l k) s.client.entries) refl e i), keeps e.key))
        inv.unread (λ i j. absurd j) (λ i j. inl j) inv.rows
      where
        keeps : (q : K) → Keeps l s (used l k s.client) s.unread [] q
        keeps q = record { told = λ v n i. i; others = λ i j. absurd j; beyond = λ n b. b }

        there : (x : Option (Kept K V)) → find (is_for l k) s.client.entries ≡ x → (e : Kept K V) → In e (elim x [ None ↦ s.client.entries | Some y ↦ y ∷ others l k s.client.entries ]) → In e s.client.entries
        there None z e i = i
        there (Some y) z e (inl d) = subst (λ h. In h s.client.entries) d (find_in (is_for l k) s.client.entries y z).0
        there (Some y) z e (inr i) = (in_filtered (λ (h : Kept K V). not (is_for l k h)) s.client.entries e i).0

    -- a miss opens a look-up under a number that no call has
    pub opens : (k : K) → Inv o l partitions (opening_at s k)
    opens k = record {
      numbers = λ p a i c. (let b = inv.numbers p a i c in omega (arith, b));
      waiting = λ r i. ⊎_elim (λ j. old r (inv.waiting r j)) (λ j. new r j) (in_cases r s.client.waiting (it ∷ []) i);
      entries = λ e i. (let h = inv.entries e i in record { get = h.get; logged = h.logged; conn = h.conn; call = h.call; says = h.says; freed = h.freed; after = h.after });
      unread = inv.unread;
      processed = inv.processed;
      changes = inv.changes;
      rows = inv.rows;
    }
      where
        it : LookUp K
        it = record { number = s.next_number; key = k; overtaken = None }

        old : (r : LookUp K) → WaitOk o l s r → WaitOk o l (opening_at s k) r
        old r h = record { number = (let b = h.number in omega (arith, b)); own = h.own; after = h.after }

        new : (r : LookUp K) → In r (record { number = s.next_number; key = k; overtaken = None } ∷ []) → WaitOk o l (opening_at s k) r
        new r (inr j) = absurd j
        new r (inl e) = subst (WaitOk o l (opening_at s k)) e (record {
          number = omega arith;
          own = λ p a i c n. absurd (let b = inv.numbers p a i c in omega (arith, b, n));
          after = λ z x i c n. absurd (let b = inv.numbers (l.partition k) (asked_of x) (in_calls (world o s.grid (l.partition k)).recorded.log x i) c in omega (arith, b, n));
        })

    pub asks : (k : K) (now : ℕ) → AreNamedOnce (occurred o l (opening_at s k) (l.partition k) (Call s.member s.conn s.next_number (l.get s.next_number k) now)).grid
        → Inv o l partitions (occurred o l (opening_at s k) (l.partition k) (Call s.member s.conn s.next_number (l.get s.next_number k) now))
    asks k now n = occurs o l partitions keyed (opening_at s k) (opens k) (l.partition k) (Call s.member s.conn s.next_number (l.get s.next_number k) now) own at one (all_sound s.grid one named) (all_sound (happened o l s.grid (l.partition k) (Call s.member s.conn s.next_number (l.get s.next_number k) now)) one n)
      where
        own : OwnOk l (opening_at s k) (l.partition k) (Call s.member s.conn s.next_number (l.get s.next_number k) now)
        own a (inr i) c = absurd i
        own a (inl e) c = ((let b = number in omega (arith, b)), λ r i z. ⊎_elim (λ j. old r z (inv.waiting r j)) (λ j. new r j) (in_cases r s.client.waiting (record { number = s.next_number; key = k; overtaken = None } ∷ []) i))
          where
            number : a.number ≡ s.next_number
            number = ap (λ (x : Asked C). x.number) (sym e)

            call : a.call ≡ l.get s.next_number k
            call = ap (λ (x : Asked C). x.call) (sym e)

            old : (r : LookUp K) → a.number ≡ r.number → WaitOk o l s r → (l.partition k ≡ l.partition r.key) × (a.call ≡ l.get r.number r.key)
            old r z h = absurd (let b = h.number in omega (arith, b, number, z))

            new : (r : LookUp K) → In r (record { number = s.next_number; key = k; overtaken = None } ∷ []) → (l.partition k ≡ l.partition r.key) × (a.call ≡ l.get r.number r.key)
            new r (inr j) = absurd j
            new r (inl d) = (ap (λ (x : LookUp K). l.partition x.key) d, call ∙ ap (λ (x : LookUp K). l.get x.number x.key) d)

        at : OwnAt (opening_at s k) (Call s.member s.conn s.next_number (l.get s.next_number k) now)
        at m conn number call t is own = cc

    pub asks_if : (k : K) (now : ℕ) (b : Bool) → AreNamedOnce (cond b (occurred o l (opening_at s k) (l.partition k) (Call s.member s.conn s.next_number (l.get s.next_number k) now)) s).grid
        → Inv o l partitions (cond b (occurred o l (opening_at s k) (l.partition k) (Call s.member s.conn s.next_number (l.get s.next_number k) now)) s)
    asks_if k now true n = asks k now n
    asks_if k now false n = inv

    pub looks_up : (k : K) (now : ℕ) (x : Option V) → AreNamedOnce (looked_up o l s k now x).grid
        → Inv o l partitions (looked_up o l s k now x)
    looks_up k now (Some v) n = uses k
    looks_up k now None n = asks_if k now (is_live (world o s.grid (l.partition k)) s.member) n

    -- a refusal says nothing of values and rows
    pub refuses : (k : K) → Inv o l partitions (missed_in_vain s k)
    refuses k = refused_in partitions (opening_at s k) (opens k) s.next_number

    pub looks_up_in_vain : (k : K) (x : Option V) → Inv o l partitions (looked_up_in_vain l s k x)
    looks_up_in_vain k (Some v) = uses k
    looks_up_in_vain k None = refuses k

    pub moves : (m : Move C K) → AreNamedOnce (moved o l s m).grid → Inv o l partitions (moved o l s m)
    moves (Occurs p e) n = occurs_if p e (is_call_on s.conn e) refl n
    moves (LooksUp k now) n = looks_up k now (hit l k s.client) n
    moves (LooksUpInVain k) n = looks_up_in_vain k (hit l k s.client)
    moves Hears n = hears_next o l partitions keyed s inv s.unread refl

  pub all_moves : (partitions : ℕ) → IsKeyed o l partitions → (ms : List (Move C K)) (s : Near C K V) → Inv o l partitions s → 1 ≤ s.grid.members → AreNamedOnce (all_moved o l s ms).grid → Inv o l partitions (all_moved o l s ms)
  all_moves partitions keyed [] s inv one named = inv
  all_moves partitions keyed (m ∷ ms) s inv one named = all_moves partitions keyed ms next (moves partitions keyed s inv one before m after) (subst (λ k. 1 ≤ k) (sym (move_later s m).members) one) named
    where
      next : Near C K V
      next = moved o l s m

      after : AreNamedOnce (moved o l s m).grid
      after = named_later (moved o l s m).grid (all_moved o l (moved o l s m) ms).grid (moves_later (moved o l s m) ms) named

      before : AreNamedOnce s.grid
      before = named_later s.grid (moved o l s m).grid (move_later s m) after
