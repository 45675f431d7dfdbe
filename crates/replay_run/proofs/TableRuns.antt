-- The table has what the run has, after each thing that a line does.
use Rattle.std.proofs.Common.{◌≡◌, ◌≢◌, ℕ, ◌<◌, ◌==◌, Bool, true, false, not, cond, List, [], ◌∷◌, ◌++◌, length, map, filter, Option, Some, None, refl, ap, sym, ◌∙◌, subst, ⊎_elim, inl, inr, append_assoc, append-nil, arith}
use Rattle.std.specs.Option.{option_map, option_and_then, option_or}
use Rattle.std.specs.List.{find}
use Rattle.std.proofs.lemmas.Bool.{cases_eq, cases_Bool, eq-eqb, ne_eqb, false≢true}
use Rattle.std.proofs.lemmas.List.{length-set}
use Rattle.std.proofs.lemmas.List.Folds.{find-append}
use Rattle.std.proofs.lemmas.Option.{slice_get_past}
use Rattle.grid_base.specs.Names.{is_same_call}
use Rattle.grid_base.specs.declared.names.CallId.{CallId}
use Rattle.session_core.specs.Sessions.{session_after}
use Rattle.partition_protocol.specs.Arrivals.{NamedOnce}
use Rattle.partition_protocol.proofs.Lists.{In, contains_in}
use Rattle.partition_protocol.proofs.RowFacts.{false_or_not}
use Rattle.primary_hold.specs.declared.answer.CallAnswer.{CallAnswer}
use Rattle.replay_run.specs.declared.connections.CallLines.{CallLines}
use Rattle.replay_run.specs.Runs.{Run, At, Connection, Arrival, Waiter, Appended, is_waiter, waits, without, ending, is_connection, connection_of, with_bytes, took_bytes, own_answer, told, opened, message_of}
use Rattle.replay_run.specs.Printing.{arrival_of, answer_of, came_at, is_answer_to, is_named}
use Rattle.replay_run.specs.Tables.{Table, Opened, most_connections, opened_at, lines_of, silent, present, with_opened, with_change, heard, with_session, replied, with_reply, called, with_arrival, or_line, lines_answered, answered, with_answer}
use Rattle.replay_run.specs.Grids.{IsConnection, Matches, HasConnections, HasTable, lines_in}
use Rattle.replay_run.specs.WorldCalls.{with_answers}
use Rattle.replay_run.proofs.Parts.{in_map}
use Rattle.replay_run.proofs.RunFacts.{WaitersOk, waiter_name, id_name}
use Rattle.replay_run.proofs.EventRuns.{is_other}
use Rattle.replay_run.proofs.Lookups.{find_none}
use Rattle.replay_run.proofs.Arriving.{find_map, same_test, in_place, in_place_number}
use Rattle.replay_run.proofs.Places.{same_call, same_call_refl, same_number}
use Rattle.replay_run.proofs.Trails.{find_some}
use Rattle.replay_run.proofs.TableChanges.{map_none, or_none, length-changed_at, got_last, got_before, opened_changed, opened_unchanged, opened_anew, opened_before, line_at, lines_elsewhere, lines_marked, answered_elsewhere}

-- a slot and its connection

pub matched : (slot : Option Opened) (found : Option Connection) (k : Connection) → Matches slot found → found ≡ Some k → (o : Opened) × (slot ≡ Some o) × IsConnection o k
matched None None k m e = absurd cc
matched None (Some j) k m e = absurd m
matched (Some o) None k m e = absurd m
matched (Some o) (Some j) k m e = let same : j ≡ k = cc in (o, refl, subst (IsConnection o) same m)

pub matched_back : (slot : Option Opened) (found : Option Connection) (o : Opened) → Matches slot found → slot ≡ Some o → (k : Connection) × (found ≡ Some k) × IsConnection o k
matched_back None None o m e = absurd cc
matched_back None (Some k) o m e = absurd m
matched_back (Some p) None o m e = absurd m
matched_back (Some p) (Some k) o m e = let same : p ≡ o = cc in (k, refl, subst (λ q. IsConnection q k) same m)

unmatched : (slot : Option Opened) (found : Option Connection) → Matches slot found → slot ≡ None → found ≡ None
unmatched None None m e = refl
unmatched None (Some k) m e = absurd m
unmatched (Some o) found m e = absurd cc

-- a change that keeps the member and the reader
matches_kept : (change : Opened → Opened) → ((o : Opened) (k : Connection) → IsConnection o k → IsConnection (change o) k) → (slot : Option Opened) (found : Option Connection) → Matches slot found → Matches (option_map change slot) found
matches_kept change kept None None m = tt
matches_kept change kept None (Some k) m = m
matches_kept change kept (Some o) None m = m
matches_kept change kept (Some o) (Some k) m = kept o k m

matches_at : {slot other : Option Opened} {found place : Option Connection} → slot ≡ other → found ≡ place → Matches other place → Matches slot found
matches_at {slot = slot} {other = other} {found = found} {place = place} s f m = subst (λ x. Matches x found) (sym s) (subst (λ y. Matches other y) (sym f) m)

pub found_opened : (t : Table) (r : Run) → HasTable t r → (c : ℕ) (k : Connection) → connection_of r c ≡ Some k → (o : Opened) × (opened_at t c ≡ Some o) × IsConnection o k
found_opened t r h c k e = matched (opened_at t c) (connection_of r c) k (h.connections c) e

pub found_connection : (t : Table) (r : Run) → HasTable t r → (c : ℕ) (o : Opened) → opened_at t c ≡ Some o → (k : Connection) × (connection_of r c ≡ Some k) × IsConnection o k
found_connection t r h c o e = matched_back (opened_at t c) (connection_of r c) o (h.connections c) e

pub none_opened : (t : Table) (r : Run) → HasTable t r → (c : ℕ) → opened_at t c ≡ None → connection_of r c ≡ None
none_opened t r h c e = unmatched (opened_at t c) (connection_of r c) (h.connections c) e

-- what is printed of a call with its answer
abbrev with_lines : Option Appended → ℕ → CallLines
with_lines answer line = record { arrived = line; answered = option_map (λ (m : Appended). m.line) answer }

-- a change that keeps each connection
changed_connections : (t : Table) (r : Run) → HasConnections t r → (c : ℕ) (change : Opened → Opened) → ((o : Opened) (k : Connection) → IsConnection o k → IsConnection (change o) k) → HasConnections (with_change t c change) r
changed_connections t r has c change kept d = ⊎_elim here (λ apart. matches_at (opened_unchanged t c d change apart) refl (has d)) (cases_eq d c)
  where
    here : d ≡ c → Matches (opened_at (with_change t c change) d) (connection_of r d)
    here e = subst (λ n. Matches (opened_at (with_change t c change) n) (connection_of r n)) (sym e)
        (matches_at (opened_changed t c change) refl (matches_kept change kept (opened_at t c) (connection_of r c) (has c)))

-- A call that arrives and an answer that is given out change no connection.

pub connections_called : (t : Table) (r : Run) (c line : ℕ) → HasConnections t r → HasConnections (with_arrival t c line) r
connections_called t r c line has = changed_connections t r has c (called line) (λ o k m. m)

pub connections_answered : (t : Table) (r : Run) (id : CallId) (line : ℕ) → HasConnections t r → HasConnections (with_answer t id line) r
connections_answered t r id line has = changed_connections t r has id.conn (answered id.number line) (λ o k m. m)

-- a connection is opened

abbrev pub silent_connection : ℕ → ℕ → Connection
silent_connection c member = record { conn = c; member = member; bytes = [] }

module _ (t : Table) (r : Run) (h : HasTable t r) (c member : ℕ) (within : c < most_connections) (closed : opened_at t c ≡ None) where
  in_table : c < length t
  in_table = omega (arith, h.size, within)

  pub anew : opened_at (with_opened t c member) c ≡ Some (silent c member)
  anew = opened_anew t c member in_table

  found_anew : (d : ℕ) → connection_of (opened r c member) d ≡ option_or (connection_of r d) (cond (c == d) (Some (silent_connection c member)) None)
  found_anew d = find-append (is_connection d) r.connections (silent_connection c member ∷ [])

  pub found_there : connection_of (opened r c member) c ≡ Some (silent_connection c member)
  found_there =
      let itself : (c == c) ≡ true = eq-eqb c c refl in
      found_anew c ∙ ap (λ x. option_or x (cond (c == c) (Some (silent_connection c member)) None)) (none_opened t r h c closed)
      ∙ ap (λ b. cond b (Some (silent_connection c member)) None) itself

  pub found_before : (d : ℕ) → d ≢ c → connection_of (opened r c member) d ≡ connection_of r d
  found_before d apart =
      let other : (c == d) ≡ false = ne_eqb c d (λ e. apart (sym e)) in
      found_anew d ∙ ap (λ b. option_or (connection_of r d) (cond b (Some (silent_connection c member)) None)) other ∙ or_none (connection_of r d)

  opening_connections : (d : ℕ) → Matches (opened_at (with_opened t c member) d) (connection_of (opened r c member) d)
  opening_connections d = ⊎_elim here (λ apart. matches_at (opened_before t c d member apart) (found_before d apart) (h.connections d)) (cases_eq d c)
    where
      here : d ≡ c → Matches (opened_at (with_opened t c member) d) (connection_of (opened r c member) d)
      here e = subst (λ n. Matches (opened_at (with_opened t c member) n) (connection_of (opened r c member) n)) (sym e)
          (matches_at anew found_there refl)

  opening_calls : (id : CallId) → lines_of (with_opened t c member) id ≡ lines_in r id
  opening_calls id = ⊎_elim here (λ apart. ap (option_and_then (line_at id.number)) (opened_before t c id.conn member apart)) (cases_eq id.conn c) ∙ h.calls id
    where
      here : id.conn ≡ c → lines_of (with_opened t c member) id ≡ lines_of t id
      here e =
          subst (λ n. option_and_then (line_at id.number) (opened_at (with_opened t c member) n) ≡ option_and_then (line_at id.number) (opened_at t n)) (sym e)
          (ap (option_and_then (line_at id.number)) anew ∙ sym (ap (option_and_then (line_at id.number)) closed))

  pub opened_table : HasTable (with_opened t c member) (opened r c member)
  opened_table = record {
    size = length-set t c (Some (silent c member)) ∙ h.size;
    connections = opening_connections;
    calls = opening_calls;
  }

-- its bytes come

module _ (t : Table) (r : Run) (h : HasTable t r) (c : ℕ) (k : Connection) (is : connection_of r c ≡ Some k) (bytes : List ℕ) where
  abbrev new : Connection
  new = with_bytes k bytes

  numbered : k.conn ≡ c
  numbered = same_number k.conn c (find_some (is_connection c) r.connections k is).1

  found_updated : (d : ℕ) → connection_of (took_bytes r k bytes) d ≡ option_map (in_place new) (connection_of r d)
  found_updated d = find_map (is_connection d) (in_place new) r.connections (λ x. ap (λ n. n == d) (in_place_number new x))

  pub took_here : connection_of (took_bytes r k bytes) c ≡ Some new
  took_here = let itself : (k.conn == k.conn) ≡ true = same_test k.conn k.conn refl in found_updated c ∙ ap (option_map (in_place new)) is ∙ ap (λ b. Some (cond b new k)) itself

  pub took_elsewhere : (d : ℕ) → d ≢ c → connection_of (took_bytes r k bytes) d ≡ connection_of r d
  took_elsewhere d apart = found_updated d ∙ go (connection_of r d) refl
    where
      go : (found : Option Connection) → connection_of r d ≡ found → option_map (in_place new) found ≡ found
      go None e = refl
      go (Some j) e =
          let at = same_number j.conn d (find_some (is_connection d) r.connections j e).1 in
          let other : (j.conn == k.conn) ≡ false = ne_eqb j.conn k.conn (λ s. apart (sym at ∙ s ∙ numbered)) in
          ap (λ b. Some (cond b new j)) other

  fed_connections : (d : ℕ) → Matches (opened_at (with_session t c (session_after k.conn k.member (k.bytes ++ bytes))) d) (connection_of (took_bytes r k bytes) d)
  fed_connections d = ⊎_elim here (λ apart. matches_at (opened_unchanged t c d (heard (session_after k.conn k.member (k.bytes ++ bytes))) apart) (took_elsewhere d apart) (h.connections d)) (cases_eq d c)
    where
      o : (x : Opened) × (opened_at t c ≡ Some x) × IsConnection x k
      o = found_opened t r h c k is

      here : d ≡ c → Matches (opened_at (with_session t c (session_after k.conn k.member (k.bytes ++ bytes))) d) (connection_of (took_bytes r k bytes) d)
      here e = subst (λ n. Matches (opened_at (with_session t c (session_after k.conn k.member (k.bytes ++ bytes))) n) (connection_of (took_bytes r k bytes) n)) (sym e)
          (matches_at (opened_changed t c (heard (session_after k.conn k.member (k.bytes ++ bytes))) ∙ ap (option_map (heard (session_after k.conn k.member (k.bytes ++ bytes)))) o.1) took_here refl)

  pub fed_table : HasTable (with_session t c (session_after k.conn k.member (k.bytes ++ bytes))) (took_bytes r k bytes)
  fed_table = record {
    size = length-changed_at (option_map (heard (session_after k.conn k.member (k.bytes ++ bytes)))) t c ∙ h.size;
    connections = fed_connections;
    calls = λ id. lines_elsewhere t c (heard (session_after k.conn k.member (k.bytes ++ bytes))) id (λ e x s. refl) ∙ h.calls id;
  }

-- at which lines calls came

-- a choice is made last or first
or_later : {X : Type 0} (x y z : Option X) → option_or (option_or x y) z ≡ option_or x (option_or y z)
or_later None y z = refl
or_later (Some v) y z = refl

map_or_one : {X Y : Type 0} (f : X → Y) (x : Option X) (b : Bool) (y : X) → option_map f (option_or x (cond b (Some y) None)) ≡ option_or (option_map f x) (cond b (Some (f y)) None)
map_or_one f (Some v) b y = refl
map_or_one f None true y = refl
map_or_one f None false y = refl

abbrev line_of_arrival : Arrival → ℕ
line_of_arrival a = a.line

abbrev line_of_waiter : Waiter → ℕ
line_of_waiter w = w.line

-- one that waits comes last
pub came_waiting : (r : Run) (w : Waiter) (j : CallId) → came_at (waits r w) j ≡ option_or (came_at r j) (cond (is_same_call w.request.id j) (Some w.line) None)
came_waiting r w j =
    let arrivals = option_map line_of_arrival (arrival_of r j) in
    let waiting = find (is_waiter j) r.waiters in
    ap (λ x. option_or arrivals (option_map line_of_waiter x)) (find-append (is_waiter j) r.waiters (w ∷ []))
    ∙ ap (option_or arrivals) (map_or_one line_of_waiter waiting (is_waiter j w) w)
    ∙ sym (or_later arrivals (option_map line_of_waiter waiting) (cond (is_same_call w.request.id j) (Some w.line) None))

-- and so does one that doesn't wait, and didn't come before
module _ (r : Run) (a : Arrival) (events : List At) (unheard : came_at r a.request.id ≡ None) where
  abbrev with_it : Run
  with_it = record r { events = events; arrivals = r.arrivals ++ a ∷ [] }

  abbrev its_own : CallId → Option ℕ
  its_own j = cond (is_same_call a.request.id j) (Some a.line) None

  none_first : (x y : Option ℕ) → option_or x y ≡ None → x ≡ None
  none_first None y e = refl
  none_first (Some v) y e = absurd cc

  none_then : (x y : Option ℕ) → option_or x y ≡ None → y ≡ None
  none_then None y e = e
  none_then (Some v) y e = absurd cc

  found_with : (j : CallId) → option_map line_of_arrival (arrival_of with_it j) ≡ option_or (option_map line_of_arrival (arrival_of r j)) (its_own j)
  found_with j =
      ap (option_map line_of_arrival) (find-append (λ (x : Arrival). is_same_call x.request.id j) r.arrivals (a ∷ []))
      ∙ map_or_one line_of_arrival (arrival_of r j) (is_same_call a.request.id j) a

  abbrev waiting_of : CallId → Option ℕ
  waiting_of j = option_map line_of_waiter (find (is_waiter j) r.waiters)

  none_waits : waiting_of a.request.id ≡ None
  none_waits = none_then (option_map line_of_arrival (arrival_of r a.request.id)) (waiting_of a.request.id) unheard

  swapped : (j : CallId) (b : Bool) → is_same_call a.request.id j ≡ b → option_or (cond b (Some a.line) None) (waiting_of j) ≡ option_or (waiting_of j) (cond b (Some a.line) None)
  swapped j false e = sym (or_none (waiting_of j))
  swapped j true e =
      let none : waiting_of j ≡ None = subst (λ i. waiting_of i ≡ None) (same_call a.request.id j e) none_waits in
      sym (ap (λ x. option_or x (Some a.line)) none)

  pub came_arriving : (j : CallId) → came_at with_it j ≡ option_or (came_at r j) (its_own j)
  came_arriving j =
      let arrivals = option_map line_of_arrival (arrival_of r j) in
      ap (λ x. option_or x (waiting_of j)) (found_with j)
      ∙ or_later arrivals (its_own j) (waiting_of j)
      ∙ ap (option_or arrivals) (swapped j (is_same_call a.request.id j) refl)
      ∙ sym (or_later arrivals (waiting_of j) (its_own j))

-- who leaves came at the line at which it did
module _ (r : Run) (w : Waiter) (ok : WaitersOk r) (there : In w r.waiters) (events : List At) where
  abbrev without_it : Run
  without_it = record r { events = events; arrivals = r.arrivals ++ ending r w ∷ []; waiters = (without r w).waiters }

  -- of the others
  found_other : (ws : List Waiter) (j : CallId) → is_same_call w.request.id j ≡ false → find (is_waiter j) (filter (is_other w) ws) ≡ find (is_waiter j) ws
  found_other [] j apart = refl
  found_other (v ∷ vs) j apart = go (is_waiter w.request.id v) refl (found_other vs j apart)
    where
      go : (b : Bool) → is_waiter w.request.id v ≡ b → find (is_waiter j) (filter (is_other w) vs) ≡ find (is_waiter j) vs
          → find (is_waiter j) (cond (not b) (v ∷ filter (is_other w) vs) (filter (is_other w) vs)) ≡ cond (is_waiter j v) (Some v) (find (is_waiter j) vs)
      go true e rest =
          let named = same_call v.request.id w.request.id e in
          let other : is_waiter j v ≡ false = subst (λ (c : CallId). is_same_call c j ≡ false) (sym named) apart in
          rest ∙ sym (ap (λ b. cond b (Some v) (find (is_waiter j) vs)) other)
      go false e rest = ap (λ x. cond (is_waiter j v) (Some v) x) rest

  found_itself : (ws : List Waiter) → NamedOnce (map waiter_name ws) → In w ws → find (is_waiter w.request.id) ws ≡ Some w
  found_itself [] once i = absurd i
  found_itself (v ∷ vs) once (inl e) = let here : is_waiter w.request.id v ≡ true = subst (λ (x : Waiter). is_waiter w.request.id x ≡ true) (sym e) (same_call_refl w.request.id) in rw here (ap Some e)
  found_itself (v ∷ vs) once (inr i) =
      let apart : is_waiter w.request.id v ≡ false = false_or_not (is_waiter w.request.id v) (λ s.
      once.0 (waiter_name w) (contains_in (waiter_name w) (map waiter_name vs) (in_map waiter_name vs w i)) (ap id_name (sym (same_call v.request.id w.request.id s)))) in
      rw apart (found_itself vs once.1 i)

  none_arrived : arrival_of r w.request.id ≡ None
  none_arrived = find_none (λ (b : Arrival). is_same_call b.request.id w.request.id) r.arrivals (λ b i e. ok.apart b w i there (ap id_name (same_call b.request.id w.request.id e)))

  pub came_ending : (j : CallId) → came_at without_it j ≡ came_at r j
  came_ending j = go (is_same_call w.request.id j) refl
    where
      arrivals : Option ℕ
      arrivals = option_map line_of_arrival (arrival_of r j)

      whole : option_map line_of_arrival (arrival_of without_it j) ≡ option_or arrivals (cond (is_same_call w.request.id j) (Some w.line) None)
      whole =
          ap (option_map line_of_arrival) (find-append (λ (x : Arrival). is_same_call x.request.id j) r.arrivals (ending r w ∷ []))
          ∙ map_or_one line_of_arrival (arrival_of r j) (is_same_call w.request.id j) (ending r w)

      at_it : came_at without_it w.request.id ≡ came_at r w.request.id
      at_it =
          ap (λ x. option_or (option_map line_of_arrival x) (option_map line_of_waiter (find (is_waiter w.request.id) (filter (is_other w) r.waiters))))
          (find-append (λ (x : Arrival). is_same_call x.request.id w.request.id) r.arrivals (ending r w ∷ []) ∙ ap (λ x. option_or x (cond (is_same_call w.request.id w.request.id) (Some (ending r w)) None)) none_arrived
          ∙ ap (λ b. cond b (Some (ending r w)) None) (same_call_refl w.request.id))
          ∙ sym (ap (λ x. option_or (option_map line_of_arrival x) (option_map line_of_waiter (find (is_waiter w.request.id) r.waiters))) none_arrived ∙ ap (option_map line_of_waiter) (found_itself r.waiters ok.once there))

      go : (b : Bool) → is_same_call w.request.id j ≡ b → came_at without_it j ≡ came_at r j
      go false e =
          ap (λ x. option_or x (option_map line_of_waiter (find (is_waiter j) (filter (is_other w) r.waiters)))) (whole ∙ ap (λ b. option_or arrivals (cond b (Some w.line) None)) e ∙ or_none arrivals)
          ∙ ap (λ x. option_or arrivals (option_map line_of_waiter x)) (found_other r.waiters j e)
      go true e = subst (λ i. came_at without_it i ≡ came_at r i) (same_call w.request.id j e) at_it

-- The same calls came at the same lines, on the same connections, and were answered so.
pub table_alike : (t : Table) (r next : Run) → next.connections ≡ r.connections → next.appended ≡ r.appended → ((j : CallId) → came_at next j ≡ came_at r j) → HasTable t r → HasTable t next
table_alike t r next connections appended come h = record {
  size = h.size;
  connections = λ c. subst (λ ks. Matches (opened_at t c) (find (is_connection c) ks)) (sym connections) (h.connections c);
  calls = λ id. h.calls id ∙ (λ i. option_map (with_lines (find (is_answer_to id) (sym appended i))) (sym (come id) i));
}

-- a call arrives, be it that it waits

module _ (t : Table) (r : Run) (h : HasTable t r) (c : ℕ) (o : Opened) (there : opened_at t c ≡ Some o) (its : CallId) (line : ℕ) (number : its ≡ record { conn = c; number = length o.calls }) where
  -- the call did not arrive before
  pub unheard : came_at r its ≡ None
  unheard =
      map_none (with_lines (answer_of r its)) (came_at r its)
      (sym (h.calls its) ∙ ap (lines_of t) number ∙ ap (option_and_then (line_at (length o.calls))) there ∙ ap present (slice_get_past o.calls (length o.calls) (omega arith)))

  in_table_now : lines_of (with_arrival t c line) its ≡ Some (record { arrived = line; answered = None })
  in_table_now =
      ap (lines_of (with_arrival t c line)) number
      ∙ ap (option_and_then (line_at (length o.calls))) (opened_changed t c (called line) ∙ ap (option_map (called line)) there)
      ∙ ap present (got_last o.calls (Some (record { arrived = line; answered = None })))

  module _ (fresh : answer_of r its ≡ None) (next : Run) (connections : next.connections ≡ r.connections) (appended : next.appended ≡ r.appended)
      (come : (j : CallId) → came_at next j ≡ option_or (came_at r j) (cond (is_same_call its j) (Some line) None)) where
    abbrev after : CallId → Option CallLines
    after j = option_map (with_lines (answer_of r j)) (option_or (came_at r j) (cond (is_same_call its j) (Some line) None))

    itself : is_same_call its its ≡ true
    itself = same_call_refl its

    at_it : lines_of (with_arrival t c line) its ≡ after its
    at_it =
        in_table_now ∙ ap (λ (m : Option Appended). Some (record { arrived = line; answered = option_map (λ (x : Appended). x.line) m })) (sym fresh)
        ∙ sym (ap (λ b. option_map (with_lines (answer_of r its)) (option_or (came_at r its) (cond b (Some line) None))) itself ∙ ap (λ x. option_map (with_lines (answer_of r its)) (option_or x (Some line))) unheard)

    here : (j : CallId) → is_same_call its j ≡ true → lines_of (with_arrival t c line) j ≡ after j
    here j e = subst (λ i. lines_of (with_arrival t c line) i ≡ after i) (same_call its j e) at_it

    -- another number of the same connection
    apart : (j : CallId) → is_same_call its j ≡ false → j.conn ≡ c → (x : Opened) → opened_at t c ≡ Some x → line_at j.number (called line x) ≡ line_at j.number x
    apart j e at_conn x same =
        let both : Some o ≡ Some x = sym there ∙ same in
        let one : o ≡ x = cc in
        subst (λ (y : Opened). line_at j.number (called line y) ≡ line_at j.number y) one
        (ap present (got_before o.calls (Some (record { arrived = line; answered = None })) j.number (λ s. false≢true (sym e ∙ ap (is_same_call its) (sym (number ∙ (λ i. record { conn = sym at_conn i; number = sym s i }))) ∙ same_call_refl its))))

    elsewhere : (j : CallId) → is_same_call its j ≡ false → lines_of (with_arrival t c line) j ≡ after j
    elsewhere j e = lines_elsewhere t c (called line) j (apart j e) ∙ h.calls j ∙ sym (ap (option_map (with_lines (answer_of r j))) (ap (λ b. option_or (came_at r j) (cond b (Some line) None)) e ∙ or_none (came_at r j)))

    arrival_calls : (j : CallId) → lines_of (with_arrival t c line) j ≡ lines_in next j
    arrival_calls j = ⊎_elim (here j) (elsewhere j) (cases_Bool (is_same_call its j)) ∙ (λ i. option_map (with_lines (find (is_answer_to j) (sym appended i))) (sym (come j) i))

    pub arrived_table : HasTable (with_arrival t c line) next
    arrived_table = record {
      size = length-changed_at (option_map (called line)) t c ∙ h.size;
      connections = λ d. subst (λ ks. Matches (opened_at (with_arrival t c line) d) (find (is_connection d) ks)) (sym connections) (changed_connections t r h.connections c (called line) (λ x k m. m) d);
      calls = arrival_calls;
    }

-- a message is appended

-- that answers no call
pub unanswered_table : (t : Table) (r : Run) (m : Appended) → HasTable t r → m.answers ≡ None → HasTable t (record r { appended = r.appended ++ m ∷ [] })
unanswered_table t r m h none = record {
  size = h.size;
  connections = h.connections;
  calls = λ id. h.calls id ∙ ap (λ x. option_map (with_lines x) (came_at r id)) (same id);
}
  where
    same : (id : CallId) → answer_of r id ≡ find (is_answer_to id) (r.appended ++ m ∷ [])
    same id = sym (find-append (is_answer_to id) r.appended (m ∷ []) ∙ ap (λ o. option_or (answer_of r id) (cond (is_named id o) (Some m) None)) none ∙ or_none (answer_of r id))

-- that answers a call
module _ (t : Table) (r : Run) (m : Appended) (h : HasTable t r) (id : CallId) (answers : m.answers ≡ Some id) where
  answers_after : (j : CallId) → find (is_answer_to j) (r.appended ++ m ∷ []) ≡ option_or (answer_of r j) (cond (is_same_call id j) (Some m) None)
  answers_after j = find-append (is_answer_to j) r.appended (m ∷ []) ∙ ap (λ o. option_or (answer_of r j) (cond (is_named j o) (Some m) None)) answers

  first_counts : (x : Option Appended) → or_line (option_map (λ (y : Appended). y.line) x) m.line ≡ option_map (λ (y : Appended). y.line) (option_or x (Some m))
  first_counts None = refl
  first_counts (Some y) = refl

  marked : (x : Option Appended) (a : Option ℕ) → option_map (lines_answered m.line) (option_map (with_lines x) a) ≡ option_map (with_lines (option_or x (Some m))) a
  marked x None = refl
  marked x (Some b) = ap (λ (n : Option ℕ). Some (record { arrived = b; answered = n })) (first_counts x)

  answer_calls : (j : CallId) → lines_of (with_answer t id m.line) j ≡ lines_in (record r { appended = r.appended ++ m ∷ [] }) j
  answer_calls j = ⊎_elim here elsewhere (cases_Bool (is_same_call id j)) ∙ sym (ap (λ x. option_map (with_lines x) (came_at r j)) (answers_after j))
    where
      itself : is_same_call id id ≡ true
      itself = same_call_refl id

      at_it : lines_of (with_answer t id m.line) id ≡ option_map (with_lines (option_or (answer_of r id) (cond (is_same_call id id) (Some m) None))) (came_at r id)
      at_it = lines_marked t id m.line ∙ ap (option_map (lines_answered m.line)) (h.calls id) ∙ marked (answer_of r id) (came_at r id)
          ∙ sym (ap (λ b. option_map (with_lines (option_or (answer_of r id) (cond b (Some m) None))) (came_at r id)) itself)

      here : is_same_call id j ≡ true → lines_of (with_answer t id m.line) j ≡ option_map (with_lines (option_or (answer_of r j) (cond (is_same_call id j) (Some m) None))) (came_at r j)
      here e = subst (λ i. lines_of (with_answer t id m.line) i ≡ option_map (with_lines (option_or (answer_of r i) (cond (is_same_call id i) (Some m) None))) (came_at r i)) (same_call id j e) at_it

      apart : is_same_call id j ≡ false → j.conn ≡ id.conn → (o : Opened) → opened_at t id.conn ≡ Some o → line_at j.number (answered id.number m.line o) ≡ line_at j.number o
      apart e at_conn o there = answered_elsewhere o id.number m.line j.number (λ s. false≢true (sym e ∙ ap (is_same_call id) (λ i. record { conn = at_conn i; number = s i }) ∙ same_call_refl id))

      elsewhere : is_same_call id j ≡ false → lines_of (with_answer t id m.line) j ≡ option_map (with_lines (option_or (answer_of r j) (cond (is_same_call id j) (Some m) None))) (came_at r j)
      elsewhere e = lines_elsewhere t id.conn (answered id.number m.line) j (apart e) ∙ h.calls j ∙ sym (ap (λ x. option_map (with_lines x) (came_at r j)) (ap (λ b. option_or (answer_of r j) (cond b (Some m) None)) e ∙ or_none (answer_of r j)))

  pub answered_table : HasTable (with_answer t id m.line) (record r { appended = r.appended ++ m ∷ [] })
  answered_table = record {
    size = length-changed_at (option_map (answered id.number m.line)) t id.conn ∙ h.size;
    connections = changed_connections t r h.connections id.conn (answered id.number m.line) (λ x k m. m);
    calls = answer_calls;
  }

-- a session answers a message itself

-- There is no call of that number, before and after.
replied_lines : (o : Opened) (n : ℕ) → line_at n (replied o) ≡ line_at n o
replied_lines o n = ⊎_elim here (λ apart. ap present (got_before o.calls None n apart)) (cases_eq n (length o.calls))
  where
    here : n ≡ length o.calls → line_at n (replied o) ≡ line_at n o
    here e = subst (λ k. line_at k (replied o) ≡ line_at k o) (sym e)
        (ap present (got_last o.calls None) ∙ sym (ap present (slice_get_past o.calls (length o.calls) (omega arith))))

replied_table : (t : Table) (r : Run) → HasTable t r → (c : ℕ) → HasTable (with_reply t c) r
replied_table t r h c = record {
  size = length-changed_at (option_map replied) t c ∙ h.size;
  connections = changed_connections t r h.connections c replied (λ x k m. m);
  calls = λ id. lines_elsewhere t c replied id (λ e x s. replied_lines x id.number) ∙ h.calls id;
}

pub told_table : (t : Table) (r : Run) (c : ℕ) (bytes : List ℕ) → HasTable t r → HasTable (with_reply t c) (told r c bytes)
told_table t r c bytes h = unanswered_table (with_reply t c) r (own_answer r.lines c bytes) (replied_table t r h c) refl

-- all answers that are given out at a line
pub answers_table : (line : ℕ) (answers : List CallAnswer) (t : Table) (r : Run) → HasTable t r → HasTable (with_answers t line answers) (record r { appended = r.appended ++ map (message_of line) answers })
answers_table line [] t r h = subst (λ (ms : List Appended). HasTable t (record r { appended = ms })) (sym (append-nil r.appended)) h
answers_table line (answer ∷ answers) t r h =
    subst (λ (ms : List Appended). HasTable (with_answers t line (answer ∷ answers)) (record r { appended = ms })) (append_assoc r.appended (message_of line answer ∷ []) (map (message_of line) answers))
    (answers_table line answers (with_answer t answer.id line) (record r { appended = r.appended ++ message_of line answer ∷ [] }) (answered_table t r (message_of line answer) h answer.id refl))

-- messages that answer no call
pub refusals_table : (ms : List Appended) (t : Table) (r : Run) → ((m : Appended) → In m ms → m.answers ≡ None) → HasTable t r → HasTable t (record r { appended = r.appended ++ ms })
refusals_table [] t r none h = subst (λ (xs : List Appended). HasTable t (record r { appended = xs })) (sym (append-nil r.appended)) h
refusals_table (m ∷ ms) t r none h =
    subst (λ (xs : List Appended). HasTable t (record r { appended = xs })) (append_assoc r.appended (m ∷ []) ms)
    (refusals_table ms t (record r { appended = r.appended ++ m ∷ [] }) (λ x i. none x (inr i)) (unanswered_table t r m h (none m (inl refl))))
