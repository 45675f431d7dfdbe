-- Every move of a near client on several connections keeps the invariant.
use Rattle.std.proofs.Common.{◌≡◌, ◌≢◌, ℕ, ◌+◌, ◌<◌, ◌≤◌, Bool, true, false, cond, not, ◌||◌, ◌==◌, List, [], ◌∷◌, ◌++◌, map, Option, Some, None, refl, ap, sym, ◌∙◌, subst, ◌⊎◌, ⊎_elim, inl, inr, arith}
use Rattle.std.specs.List.{find, list_any}
use Rattle.grid_base.specs.Objects.{Object}
use Rattle.partition_protocol.specs.History.{Called}
use Rattle.partition_protocol.specs.World.{is_live}
use Rattle.partition_protocol.specs.Events.{Event, Call, Deliver, Lose, Repeat, Resend, Crash, Detect, BeginMove, BeginJoin, BeginHandover, Advance, Reopen}
use Rattle.partition_protocol.specs.Arrivals.{Asked, asked_by, arrivals, calls_in}
use Rattle.partition_protocol.specs.HistorySizes.{asked_of}
use Rattle.partition_protocol.proofs.HistorySizes.{in_calls}
use Rattle.partition_protocol.proofs.Lists.{In, in_left, in_cases, on_if}
use Rattle.partition_protocol.proofs.RowFacts.{same_number, number_same, not_both}
use Rattle.near_protocol.specs.Keyed.{Keyed, IsKeyed}
use Rattle.near_protocol.specs.Client.{Kept, LookUp, Said, Refusal, is_for, hit, others, used}
use Rattle.near_protocol.specs.Near.{At, is_at, events_at, world, name_of, happened, is_call_on}
use Rattle.near_protocol.specs.Claims.{AreNamedOnce}
use Rattle.near_protocol.proofs.Parts.{in_filtered, in_mapped}
use Rattle.near_protocol.proofs.Invariant.{Freed, SaidOk}
use Rattle.near_protocol.proofs.Attaching.{logged_asked}
use Rattle.near_protocol.proofs.Hear.{find_in}
use Rattle.near_protocol.proofs.Moves.{IsLater, same_grid, later_trans, named_later, event_later, all_sound}
use Rattle.near_several.specs.Several.{Port, Sent, Several, Move, Attaches, Occurs, LooksUp, Asks, Arrives, ArrivesInVain, Hears, is_port, is_taken, rows_of, occurred, sending, missed, looked_up, is_numbered, taken, arrived, refusing, refused, hears, is_own, moved, all_moved}
use Rattle.near_several.proofs.Invariant.{IsOwn, After, WaitOk, KeptOk, Inv}
use Rattle.near_several.proofs.Occur.{OwnOk, own_mapped, mapped_own, occurs}
use Rattle.near_several.proofs.Hear.{goes_on, hears_next}

-- lists and tests

pub or_left : (a b : Bool) → (a || b) ≡ false → a ≡ false
or_left true b e = e
or_left false b e = refl

pub or_right : (a b : Bool) → (a || b) ≡ false → b ≡ false
or_right true b e = absurd (not_both true refl e)
or_right false b e = e

pub any_none : {X : Type 0} (t : X → Bool) (xs : List X) → list_any t xs ≡ false → (x : X) → In x xs → t x ≡ false
any_none t [] e x i = absurd i
any_none t (y ∷ ys) e x (inl s) = ap t (sym s) ∙ or_left (t y) (list_any t ys) e
any_none t (y ∷ ys) e x (inr i) = any_none t ys (or_right (t y) (list_any t ys) e) x i

-- calls that arrived

pub arrived_from : {C : Type 0} (es : List (Event C)) (a : Asked C) → In a (arrivals es) → (e : Event C) × In e es × In a (asked_by e)
arrived_from [] a i = absurd i
arrived_from {C} (e ∷ es) a i = ⊎_elim (λ j. (e, inl refl, j)) (λ j. let r = arrived_from es a j in (r.0, inr r.1, r.2)) (in_cases a (asked_by e) (arrivals es) i)

pub event_from : {C : Type 0} (p : ℕ) (events : List (At C)) (e : Event C) → In e (events_at p events) → (x : At C) × In x events × (x.event ≡ e)
event_from {C} p events e i = let r = in_mapped (λ (x : At C). x.event) _ e i in (r.0, (in_filtered (is_at p) events r.0 r.1).0, r.2)

pub called_on : {C : Type 0} (e : Event C) (a : Asked C) → In a (asked_by e) → is_call_on a.conn e ≡ true
called_on (Call m c n call now) a (inl i) = number_same c a.conn (ap (λ (x : Asked _). x.conn) i)
called_on (Call m c n call now) a (inr i) = absurd i
called_on (Deliver x t i) a j = absurd j
called_on (Lose x t i) a j = absurd j
called_on (Repeat x t i) a j = absurd j
called_on (Resend m) a j = absurd j
called_on (Crash m) a j = absurd j
called_on (Detect m) a j = absurd j
called_on (BeginMove x t) a j = absurd j
called_on (BeginJoin t) a j = absurd j
called_on (BeginHandover x t) a j = absurd j
called_on Advance a j = absurd j
called_on Reopen a j = absurd j

module _ {C State K V : Type 0} (o : Object C State) (l : Keyed C State K V) (partitions : ℕ) where
  -- what a move does to the grid

  pub on_port_later : (s : Several C K V) (f : Port K → Several C K V → Several C K V) → ((port : Port K) → IsLater s.grid (f port s).grid) → (x : Option (Port K)) → IsLater s.grid (elim x as (λ _. Several C K V) [ None ↦ s | Some port ↦ f port s ]).grid
  on_port_later s f h None = same_grid s.grid
  on_port_later s f h (Some port) = h port

  pub of_sent_later : (s : Several C K V) (f : Sent C → Several C K V → Several C K V) → ((q : Sent C) → IsLater s.grid (f q s).grid) → (x : Option (Sent C)) → IsLater s.grid (elim x as (λ _. Several C K V) [ None ↦ s | Some q ↦ f q s ]).grid
  of_sent_later s f h None = same_grid s.grid
  of_sent_later s f h (Some q) = h q

  pub looked_later : (s : Several C K V) (k : K) (x : Option V) (port : Port K) → IsLater s.grid (looked_up l port k x s).grid
  looked_later s k (Some v) port = same_grid s.grid
  looked_later s k None port = same_grid s.grid

  pub arrived_later : (s : Several C K V) (now : ℕ) (q : Sent C) → IsLater s.grid (arrived o l now q s).grid
  arrived_later s now q = on_if (λ (z : Several C K V). IsLater s.grid z.grid) (is_live (world o s.grid q.partition) q.member) (occurred o l q.partition (Call q.member q.conn q.number q.call now) (taken q.number s)) (taken q.number s)
      (event_later o l s.grid q.partition (Call q.member q.conn q.number q.call now)) (same_grid s.grid)

  pub heard_later : (s : Several C K V) (conn : ℕ) (ms : List (Said K)) → IsLater s.grid (hears l conn ms s).grid
  heard_later s conn [] = same_grid s.grid
  heard_later s conn (m ∷ ms) = same_grid s.grid

  pub move_later : (s : Several C K V) (m : Move C K) → IsLater s.grid (moved o l partitions s m).grid
  move_later s (Attaches conn member) = on_if (λ (z : Several C K V). IsLater s.grid z.grid) (is_taken conn s) s (record s { ports = s.ports ++ record { conn = conn; member = member; unread = rows_of o partitions member s.grid ∷ [] } ∷ [] }) (same_grid s.grid) (same_grid s.grid)
  move_later s (Occurs p e) = on_if (λ (z : Several C K V). IsLater s.grid z.grid) (is_own s e) s (occurred o l p e s) (same_grid s.grid) (event_later o l s.grid p e)
  move_later s (LooksUp conn k) = on_port_later s (λ port. looked_up l port k (hit l k s.client)) (looked_later s k (hit l k s.client)) (find (is_port conn) s.ports)
  move_later s (Asks conn p call) = on_port_later s (λ port. sending port p call) (λ port. same_grid s.grid) (find (is_port conn) s.ports)
  move_later s (Arrives n now) = of_sent_later s (arrived o l now) (arrived_later s now) (find (is_numbered n) s.sent)
  move_later s (ArrivesInVain n) = of_sent_later s refused (λ q. same_grid s.grid) (find (is_numbered n) s.sent)
  move_later s (Hears conn) = on_port_later s (λ port. hears l conn port.unread) (λ port. heard_later s conn port.unread) (find (is_port conn) s.ports)

  pub moves_later : (s : Several C K V) (ms : List (Move C K)) → IsLater s.grid (all_moved o l partitions s ms).grid
  moves_later s [] = same_grid s.grid
  moves_later s (m ∷ ms) = later_trans s.grid (moved o l partitions s m).grid (all_moved o l partitions (moved o l partitions s m) ms).grid (move_later s m) (moves_later (moved o l partitions s m) ms)

  -- a further connection

  pub not_called : (s : Several C K V) (conn : ℕ) → is_taken conn s ≡ false → (p : ℕ) (a : Asked C) → In a (calls_in (world o s.grid p).recorded.log) → a.conn ≢ conn
  not_called s conn free p a i c =
      let arrival = arrived_from (events_at p s.grid.events) a (logged_asked o s.grid p a i) in
      let from = event_from p s.grid.events arrival.0 arrival.1 in
      let none : is_call_on conn from.0.event ≡ false = any_none (λ (e : At C). is_call_on conn e.event) s.grid.events (or_right (list_any (is_port conn) s.ports) (list_any (λ (e : At C). is_call_on conn e.event) s.grid.events) free) from.0 from.1 in
      let one : is_call_on conn from.0.event ≡ true = ap (is_call_on conn) from.2 ∙ ap (λ n. is_call_on n arrival.0) (sym c) ∙ called_on arrival.0 a arrival.2 in
      not_both (is_call_on conn from.0.event) one none

  module _ (s : Several C K V) (inv : Inv o l s) where
    module _ (conn member : ℕ) (free : (p : ℕ) (a : Asked C) → In a (calls_in (world o s.grid p).recorded.log) → a.conn ≢ conn) where
      abbrev pub new_port : Port K
      new_port = record { conn = conn; member = member; unread = rows_of o partitions member s.grid ∷ [] }

      abbrev pub joined : Several C K V
      joined = record s { ports = s.ports ++ record { conn = conn; member = member; unread = rows_of o partitions member s.grid ∷ [] } ∷ [] }

      pub own_cases : (c : ℕ) → IsOwn joined.ports c → IsOwn s.ports c ⊎ (c ≡ conn)
      own_cases c (port, i, e) = go (in_cases port s.ports (new_port ∷ []) i)
        where
          go : In port s.ports ⊎ In port (new_port ∷ []) → IsOwn s.ports c ⊎ (c ≡ conn)
          go (inl j) = inl (port, j, e)
          go (inr (inl j)) = inr (sym e ∙ sym (ap (λ (x : Port K). x.conn) j))
          go (inr (inr j)) = absurd j

      pub own_wider : (c : ℕ) → IsOwn s.ports c → IsOwn joined.ports c
      own_wider c (port, i, e) = (port, in_left port s.ports (new_port ∷ []) i, e)

      pub unread_joined : (port : Port K) → In port joined.ports → (m : Said K) → In m port.unread → SaidOk o l s.grid port.conn m
      unread_joined port i = ⊎_elim (inv.unread port) new (in_cases port s.ports (new_port ∷ []) i)
        where
          rows : (m : Said K) → In m (rows_of o partitions member s.grid ∷ []) → SaidOk o l s.grid conn m
          rows m (inl e) = subst (SaidOk o l s.grid conn) e tt
          rows m (inr j) = absurd j

          new : In port (new_port ∷ []) → (m : Said K) → In m port.unread → SaidOk o l s.grid port.conn m
          new (inl e) = subst (λ (z : Port K). (m : Said K) → In m z.unread → SaidOk o l s.grid z.conn m) e rows
          new (inr j) = absurd j

      pub joins : Inv o l (record s { ports = s.ports ++ record { conn = conn; member = member; unread = rows_of o partitions member s.grid ∷ [] } ∷ [] })
      joins = record {
        numbers = λ p a i own. ⊎_elim (inv.numbers p a i) (λ e. absurd (free p a i e)) (own_cases a.conn own);
        sent = inv.sent;
        waiting = λ r i. wait_on r (inv.waiting r i);
        entries = λ e i. kept_on e (inv.entries e i);
        unread = unread_joined;
        processed = inv.processed;
        changes = inv.changes;
      }
        where
          wait_on : (r : LookUp K) → WaitOk o l s r → WaitOk o l joined r
          wait_on r h = record {
            number = h.number;
            own = λ p a i own n. ⊎_elim (λ j. h.own p a i j n) (λ e. absurd (free p a i e)) (own_cases a.conn own);
            sent = h.sent;
            after = λ z x i own n. ⊎_elim (λ j. h.after z x i j n) (λ e. absurd (free (l.partition r.key) (asked_of x) (in_calls (world o s.grid (l.partition r.key)).recorded.log x i) e)) (own_cases x.conn own);
          }

          kept_on : (e : Kept K V) → KeptOk o l s e → KeptOk o l joined e
          kept_on e h = record { get = h.get; logged = h.logged; conn = own_wider h.get.conn h.conn; call = h.call; says = h.says; freed = h.freed; after = h.after }

    -- calls that are sent

    pub kept_same : (t : Several C K V) → t.grid ≡ s.grid → t.ports ≡ s.ports → t.processed ≡ s.processed → (e : Kept K V) → KeptOk o l s e → KeptOk o l t e
    kept_same t a b c e h = record {
      get = h.get;
      logged = subst (λ g. In (Called h.get) (world o g (l.partition e.key)).recorded.log) (sym a) h.logged;
      conn = subst (λ ports. IsOwn ports h.get.conn) (sym b) h.conn;
      call = h.call;
      says = h.says;
      freed = subst (λ g. Freed (world o g (l.partition e.key)) (name_of h.get)) (sym a) h.freed;
      after = subst (λ g. After o l g t.processed e.key h.get) (sym a) (subst (λ ended. After o l s.grid ended e.key h.get) (sym c) h.after);
    }

    pub sends : (port : Port K) (p : ℕ) (call : C) → Inv o l (sending port p call s)
    sends port p call = record {
      numbers = λ q a i own. (let b = inv.numbers q a i own in omega (arith, b));
      sent = λ q i. ⊎_elim (λ j. (let b = inv.sent q j in omega (arith, b))) (new q) (in_cases q s.sent (it ∷ []) i);
      waiting = λ r i. wait_on r (inv.waiting r i);
      entries = λ e i. kept_same (sending port p call s) refl refl refl e (inv.entries e i);
      unread = inv.unread;
      processed = inv.processed;
      changes = inv.changes;
    }
      where
        it : Sent C
        it = record { conn = port.conn; member = port.member; number = s.next_number; partition = p; call = call }

        new : (q : Sent C) → In q (record { conn = port.conn; member = port.member; number = s.next_number; partition = p; call = call } ∷ []) → q.number < s.next_number + 1
        new q (inl e) = subst (λ n. n < s.next_number + 1) (ap (λ (x : Sent C). x.number) e) (omega arith)
        new q (inr j) = absurd j

        wait_on : (r : LookUp K) → WaitOk o l s r → WaitOk o l (sending port p call s) r
        wait_on r h = record {
          number = (let b = h.number in omega (arith, b));
          own = h.own;
          sent = λ q i n. ⊎_elim (λ j. h.sent q j n) (λ j. at q n j) (in_cases q s.sent (it ∷ []) i);
          after = h.after;
        }
          where
            at : (q : Sent C) → q.number ≡ r.number → In q (record { conn = port.conn; member = port.member; number = s.next_number; partition = p; call = call } ∷ []) → (q.partition ≡ l.partition r.key) × (q.call ≡ l.get r.number r.key)
            at q n (inr j) = absurd j
            at q n (inl e) = absurd (let b = h.number in let same : s.next_number ≡ q.number = ap (λ (x : Sent C). x.number) e in omega (arith, b, same, n))

    -- a miss opens a look-up under a number that no call has
    pub opens : (port : Port K) (k : K) → Inv o l (missed l port k s)
    opens port k = record {
      numbers = sent.numbers;
      sent = sent.sent;
      waiting = λ r i. ⊎_elim (λ j. (let h = sent.waiting r j in record { number = h.number; own = h.own; sent = h.sent; after = h.after })) (new r) (in_cases r s.client.waiting (it ∷ []) i);
      entries = λ e i. kept_same (missed l port k s) refl refl refl e (inv.entries e i);
      unread = inv.unread;
      processed = inv.processed;
      changes = inv.changes;
    }
      where
        sent : Inv o l (sending port (l.partition k) (l.get s.next_number k) s)
        sent = sends port (l.partition k) (l.get s.next_number k)

        it : LookUp K
        it = record { number = s.next_number; key = k; overtaken = None }

        call : Sent C
        call = record { conn = port.conn; member = port.member; number = s.next_number; partition = l.partition k; call = l.get s.next_number k }

        on_its_way : (q : Sent C) → In q s.sent ⊎ In q (call ∷ []) → q.number ≡ s.next_number → (q.partition ≡ l.partition k) × (q.call ≡ l.get s.next_number k)
        on_its_way q (inl j) n = absurd (let b = inv.sent q j in omega (arith, b, n))
        on_its_way q (inr (inl e)) n = (sym (ap (λ (x : Sent C). x.partition) e), sym (ap (λ (x : Sent C). x.call) e))
        on_its_way q (inr (inr j)) n = absurd j

        new : (r : LookUp K) → In r (record { number = s.next_number; key = k; overtaken = None } ∷ []) → WaitOk o l (missed l port k s) r
        new r (inr j) = absurd j
        new r (inl e) = subst (WaitOk o l (missed l port k s)) e (record {
          number = omega arith;
          own = λ p a i own n. absurd (let b = inv.numbers p a i own in omega (arith, b, n));
          sent = λ q i n. on_its_way q (in_cases q s.sent (call ∷ []) i) n;
          after = λ z x i own n. absurd (let b = inv.numbers (l.partition k) (asked_of x) (in_calls (world o s.grid (l.partition k)).recorded.log x i) own in omega (arith, b, n));
        })

    -- a hit moves an entry
    pub uses : (k : K) → Inv o l (record s { client = used l k s.client })
    uses k = goes_on o l s inv (used l k s.client) s.ports [] s.processed (λ c own. own) (λ c own. own) (λ r i. (r, i, refl, refl, λ z. (z, λ j y. absurd y))) (λ e i. (inv.entries e (there (find (is_for l k) s.client.entries) refl e i), λ j y. absurd y))
        inv.unread (λ i j. absurd j) (λ i j. inl j)
      where
        there : (x : Option (Kept K V)) → find (is_for l k) s.client.entries ≡ x → (e : Kept K V) → In e (elim x [ None ↦ s.client.entries | Some y ↦ y ∷ others l k s.client.entries ]) → In e s.client.entries
        there None z e i = i
        there (Some y) z e (inl d) = subst (λ h. In h s.client.entries) d (find_in (is_for l k) s.client.entries y z).0
        there (Some y) z e (inr i) = (in_filtered (λ (h : Kept K V). not (is_for l k h)) s.client.entries e i).0

    pub looks_up : (k : K) (x : Option V) (port : Port K) → Inv o l (looked_up l port k x s)
    looks_up k (Some v) port = uses k
    looks_up k None port = opens port k

    -- a call that is on its way no more
    pub takes : (n : ℕ) → Inv o l (taken n s)
    takes n = record {
      numbers = inv.numbers;
      sent = λ q i. inv.sent q (before q i);
      waiting = λ r i. (let h = inv.waiting r i in record { number = h.number; own = h.own; sent = λ q j e. h.sent q (before q j) e; after = h.after });
      entries = λ e i. kept_same (taken n s) refl refl refl e (inv.entries e i);
      unread = inv.unread;
      processed = inv.processed;
      changes = inv.changes;
    }
      where
        before : (q : Sent C) → In q (taken n s).sent → In q s.sent
        before q i = (in_filtered (λ (x : Sent C). not (is_numbered n x)) s.sent q i).0

    -- a refusal says nothing of values
    pub refuses : (q : Sent C) → Inv o l (refused q s)
    refuses q = goes_on o l (taken q.number s) (takes q.number) s.client (map (refusing q.conn q.number) s.ports) [] s.processed (own_mapped (refusing q.conn q.number) same s.ports) (mapped_own (refusing q.conn q.number) same s.ports)
        (λ r i. (r, i, refl, refl, λ z. (z, λ j y. absurd y))) (λ e i. ((takes q.number).entries e i, λ j y. absurd y)) unread (λ i j. absurd j) (λ i j. inl j)
      where
        same : (port : Port K) → (refusing q.conn q.number port).conn ≡ port.conn
        same port = on_if (λ (z : Port K). z.conn ≡ port.conn) (is_port q.conn port) (record port { unread = port.unread ++ Refusal q.number ∷ [] }) port refl refl

        unread : (port : Port K) → In port (map (refusing q.conn q.number) s.ports) → (m : Said K) → In m port.unread → SaidOk o l s.grid port.conn m
        unread port i = go (in_mapped (refusing q.conn q.number) s.ports port i)
          where
            new : (conn : ℕ) (m : Said K) → In m (Refusal q.number ∷ []) → SaidOk o l s.grid conn m
            new conn m (inl e) = subst (SaidOk o l s.grid conn) e tt
            new conn m (inr j) = absurd j

            go : (t : Port K) × In t s.ports × (refusing q.conn q.number t ≡ port) → (m : Said K) → In m port.unread → SaidOk o l s.grid port.conn m
            go (t, j, e) = subst (λ (z : Port K). (m : Said K) → In m z.unread → SaidOk o l s.grid z.conn m) e
                (on_if (λ (z : Port K). (m : Said K) → In m z.unread → SaidOk o l s.grid z.conn m) (is_port q.conn t) (record t { unread = t.unread ++ Refusal q.number ∷ [] }) t
                (λ m k. ⊎_elim (inv.unread t j m) (new t.conn m) (in_cases m t.unread (Refusal q.number ∷ []) k)) (inv.unread t j))

  module _ (keyed : IsKeyed o l partitions) (s : Several C K V) (inv : Inv o l s) (one : 1 ≤ s.grid.members) (named : AreNamedOnce s.grid) where
    pub attaches_if : (conn member : ℕ) (b : Bool) → is_taken conn s ≡ b → Inv o l (cond b s (record s { ports = s.ports ++ record { conn = conn; member = member; unread = rows_of o partitions member s.grid ∷ [] } ∷ [] }))
    attaches_if conn member true e = inv
    attaches_if conn member false e = joins s inv conn member (not_called s conn e)

    -- a call of another connection
    pub not_own : (p : ℕ) (e : Event C) → is_own s e ≡ false → OwnOk l s p e
    not_own p e none a i (port, j, c) = absurd (not_both (is_call_on port.conn e) (ap (λ n. is_call_on n e) c ∙ called_on e a i) (any_none (λ (x : Port K). is_call_on x.conn e) s.ports none port j))

    pub occurs_if : (p : ℕ) (e : Event C) (b : Bool) → is_own s e ≡ b → AreNamedOnce (cond b s (occurred o l p e s)).grid → Inv o l (cond b s (occurred o l p e s))
    occurs_if p e true t n = inv
    occurs_if p e false t n = occurs o l partitions keyed s inv p e (not_own p e t) one (all_sound o l s.grid one named) (all_sound o l (happened o l s.grid p e) one n)

    -- its own call arrives
    pub arrives : (q : Sent C) → In q s.sent → (now : ℕ) → AreNamedOnce (happened o l s.grid q.partition (Call q.member q.conn q.number q.call now)) → Inv o l (occurred o l q.partition (Call q.member q.conn q.number q.call now) (taken q.number s))
    arrives q i now n = occurs o l partitions keyed (taken q.number s) (takes s inv q.number) q.partition (Call q.member q.conn q.number q.call now) own one (all_sound o l s.grid one named) (all_sound o l (happened o l s.grid q.partition (Call q.member q.conn q.number q.call now)) one n)
      where
        own : OwnOk l (taken q.number s) q.partition (Call q.member q.conn q.number q.call now)
        own a (inr j) c = absurd j
        own a (inl e) c = (subst (λ k. k < s.next_number) (ap (λ (x : Asked C). x.number) e) (inv.sent q i), λ r j z. asked r z (inv.waiting r j))
          where
            asked : (r : LookUp K) → a.number ≡ r.number → WaitOk o l s r → (q.partition ≡ l.partition r.key) × (a.call ≡ l.get r.number r.key)
            asked r z h = let t = h.sent q i (ap (λ (x : Asked C). x.number) e ∙ z) in (t.0, sym (ap (λ (x : Asked C). x.call) e) ∙ t.1)

    pub arrives_if : (q : Sent C) → In q s.sent → (now : ℕ) (b : Bool) → AreNamedOnce (cond b (occurred o l q.partition (Call q.member q.conn q.number q.call now) (taken q.number s)) (taken q.number s)).grid
        → Inv o l (cond b (occurred o l q.partition (Call q.member q.conn q.number q.call now) (taken q.number s)) (taken q.number s))
    arrives_if q i now true n = arrives q i now n
    arrives_if q i now false n = takes s inv q.number

    -- what is done on a connection of the client's, and what with a call on its way

    pub on_a_port : (conn : ℕ) (f : Port K → Several C K V → Several C K V) → ((port : Port K) → In port s.ports → (port.conn == conn) ≡ true → Inv o l (f port s)) → (x : Option (Port K)) → find (is_port conn) s.ports ≡ x
        → Inv o l (elim x as (λ _. Several C K V) [ None ↦ s | Some port ↦ f port s ])
    on_a_port conn f h None e = inv
    on_a_port conn f h (Some port) e = let r = find_in (is_port conn) s.ports port e in h port r.0 r.1

    pub of_a_call : (n : ℕ) (f : Sent C → Several C K V → Several C K V) (P : Several C K V → Type 0) → ((q : Sent C) → In q s.sent → P (f q s) → Inv o l (f q s)) → (x : Option (Sent C)) → find (is_numbered n) s.sent ≡ x
        → P (elim x as (λ _. Several C K V) [ None ↦ s | Some q ↦ f q s ]) → Inv o l (elim x as (λ _. Several C K V) [ None ↦ s | Some q ↦ f q s ])
    of_a_call n f P h None e p = inv
    of_a_call n f P h (Some q) e p = h q (find_in (is_numbered n) s.sent q e).0 p

    pub moves : (m : Move C K) → AreNamedOnce (moved o l partitions s m).grid → Inv o l (moved o l partitions s m)
    moves (Attaches conn member) n = attaches_if conn member (is_taken conn s) refl
    moves (Occurs p e) n = occurs_if p e (is_own s e) refl n
    moves (LooksUp conn k) n = on_a_port conn (λ port. looked_up l port k (hit l k s.client)) (λ port i t. looks_up s inv k (hit l k s.client) port) (find (is_port conn) s.ports) refl
    moves (Asks conn p call) n = on_a_port conn (λ port. sending port p call) (λ port i t. sends s inv port p call) (find (is_port conn) s.ports) refl
    moves (Arrives k now) n = of_a_call k (arrived o l now) (λ (z : Several C K V). AreNamedOnce z.grid) (λ q i p. arrives_if q i now (is_live (world o s.grid q.partition) q.member) p) (find (is_numbered k) s.sent) refl n
    moves (ArrivesInVain k) n = of_a_call k refused (λ (z : Several C K V). AreNamedOnce z.grid) (λ q i p. refuses s inv q) (find (is_numbered k) s.sent) refl n
    moves (Hears conn) n = on_a_port conn (λ port. hears l conn port.unread)
        (λ port i t. subst (λ c. Inv o l (hears l c port.unread s)) (same_number port.conn conn t) (hears_next o l partitions keyed s inv port i port.unread refl)) (find (is_port conn) s.ports) refl

  pub all_moves : IsKeyed o l partitions → (ms : List (Move C K)) (s : Several C K V) → Inv o l s → 1 ≤ s.grid.members → AreNamedOnce (all_moved o l partitions s ms).grid → Inv o l (all_moved o l partitions s ms)
  all_moves keyed [] s inv one named = inv
  all_moves keyed (m ∷ ms) s inv one named = all_moves keyed ms next (moves keyed s inv one before m after) (subst (λ k. 1 ≤ k) (sym (move_later s m).members) one) named
    where
      next : Several C K V
      next = moved o l partitions s m

      after : AreNamedOnce (moved o l partitions s m).grid
      after = named_later (moved o l partitions s m).grid (all_moved o l partitions (moved o l partitions s m) ms).grid (moves_later (moved o l partitions s m) ms) named

      before : AreNamedOnce s.grid
      before = named_later s.grid (moved o l partitions s m).grid (move_later s m) after
