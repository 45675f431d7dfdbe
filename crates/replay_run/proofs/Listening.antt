-- Who listens at a member stays the same, or goes with a connection that closes.
use Rattle.std.proofs.Common.{◌≡◌, ◌≢◌, ℕ, ◌<◌, ◌==◌, Bool, true, false, not, cond, ◌&&◌, ◌||◌, List, [], ◌∷◌, ◌++◌, length, filter, fold, get_or, slice_get, slice_set, Option, Some, None, refl, ap, sym, ◌∙◌, subst, append-nil, ⊎_elim, inl, inr}
use Rattle.std.specs.Option.{is_some}
use Rattle.std.proofs.lemmas.Bool.{cases_eq, eq-eqb, ne_eqb}
use Rattle.std.proofs.lemmas.List.{length-set}
use Rattle.std.proofs.lemmas.List.Elements.{filter-append}
use Rattle.std.proofs.lemmas.Option.{slice_get-get_or}
use Rattle.grid_base.specs.Objects.{Object}
use Rattle.grid_base.specs.declared.calls.Request.{Request}
use Rattle.object_store.specs.Partitions.{Partition}
use Rattle.partition_protocol.proofs.Lists.{In, in_cases, on_if, cases, set_get_same, set_get_other}
use Rattle.frame_codec.specs.declared.malformed.Malformed.{Malformed}
use Rattle.listeners.specs.Standing.{placed, without}
use Rattle.listeners.specs.StandsFor.{StandFor}
use Rattle.listeners.specs.Tables.{AreInOrder}
use Rattle.listeners.specs.declared.listeners.Listeners.{Listeners}
use Rattle.listeners.specs.declared.listener.Listener.{Listener}
use Rattle.listeners.proofs.Placing.{order-placed, filter-placed, filter-placed_other}
use Rattle.replay_run.specs.Runs.{Run, Connection, begun, is_connection, connection_of, fault_on, is_open, hears, is_to, listens_at, placed_in, listening, listener_registered, opened, with_bytes, took_bytes, is_skipped}
use Rattle.replay_run.specs.ScriptRuns.{IsRun, grid_begun, line_counted, clock_was_set, connection_opened, bytes_taken, listener_was_registered, answer_told, event_occurred, call_arrived, run_given_up, call_asked, waiter_came, waiter_asked, waiter_refused, waiter_left}
use Rattle.replay_run.specs.Tables.{Table, most_connections, opened_at}
use Rattle.replay_run.specs.Grids.{HasTable, AreListening}
use Rattle.replay_run.proofs.Arriving.{find_front, updated_found, in_place}
use Rattle.replay_run.proofs.Places.{same_number}
use Rattle.replay_run.proofs.TableChanges.{got_last, got_before}
use Rattle.replay_run.proofs.TableRuns.{none_opened, found_before, took_here, took_elsewhere}

-- lists

abbrev order_in : List Listener → List Listener
order_in xs = fold placed_in [] xs

-- of those in order the ones that pass are the ones that pass, in order
filter_order : (p : Listener → Bool) (all xs : List Listener) → AreInOrder all → filter p (fold placed_in all xs) ≡ fold placed_in (filter p all) (filter p xs)
filter_order p all [] order = refl
filter_order p all (x ∷ xs) order = filter_order p (placed x all) xs (order-placed x all order) ∙ go (p x) refl
  where
    go : (b : Bool) → p x ≡ b → fold placed_in (filter p (placed x all)) (filter p xs) ≡ fold placed_in (filter p all) (cond b (x ∷ filter p xs) (filter p xs))
    go true e = ap (λ ys. fold placed_in ys (filter p xs)) (filter-placed p x all order e)
    go false e = ap (λ ys. fold placed_in ys (filter p xs)) (filter-placed_other p x all e)

-- two tests one after the other
filter_both : (p q both : Listener → Bool) (xs : List Listener) → ((x : Listener) → both x ≡ (p x && q x)) → filter p (filter q xs) ≡ filter both xs
filter_both p q both [] is = refl
filter_both p q both (x ∷ xs) is = go (q x) (p x) refl refl (filter_both p q both xs is)
  where
    go : (a b : Bool) → q x ≡ a → p x ≡ b → filter p (filter q xs) ≡ filter both xs → filter p (cond a (x ∷ filter q xs) (filter q xs)) ≡ filter both (x ∷ xs)
    go true true e f ih =
        let yes : both x ≡ true = is x ∙ (λ i. f i && e i) in
        ap (λ c. cond c (x ∷ filter p (filter q xs)) (filter p (filter q xs))) f ∙ ap (λ ys. x ∷ ys) ih ∙ sym (ap (λ c. cond c (x ∷ filter both xs) (filter both xs)) yes)
    go true false e f ih =
        let no_more : both x ≡ false = is x ∙ (λ i. f i && e i) in
        ap (λ c. cond c (x ∷ filter p (filter q xs)) (filter p (filter q xs))) f ∙ ih ∙ sym (ap (λ c. cond c (x ∷ filter both xs) (filter both xs)) no_more)
    go false true e f ih =
        let no_more : both x ≡ false = is x ∙ (λ i. f i && e i) in
        ih ∙ sym (ap (λ c. cond c (x ∷ filter both xs) (filter both xs)) no_more)
    go false false e f ih =
        let no_more : both x ≡ false = is x ∙ (λ i. f i && e i) in
        ih ∙ sym (ap (λ c. cond c (x ∷ filter both xs) (filter both xs)) no_more)

-- tests that agree on all of a list
filter_agree : (p q : Listener → Bool) (xs : List Listener) → ((x : Listener) → In x xs → p x ≡ q x) → filter p xs ≡ filter q xs
filter_agree p q [] same = refl
filter_agree p q (x ∷ xs) same = λ i. cond (same x (inl refl) i) (x ∷ filter_agree p q xs (λ y j. same y (inr j)) i) (filter_agree p q xs (λ y j. same y (inr j)) i)

-- who listens

pub listening_alike : (r next : Run) (own other : Option ℕ) (member : ℕ) → next.registered ≡ r.registered → ((listener : Listener) → In listener r.registered → listens_at r own member listener ≡ listens_at next other member listener)
    → listening r own member ≡ listening next other member
listening_alike r next own other member kept same =
    ap order_in (filter_agree (listens_at r own member) (listens_at next other member) r.registered same)
    ∙ ap (λ xs. order_in (filter (listens_at next other member) xs)) (sym kept)

-- where the same listen at every member
pub still_listening : (all : List Listeners) (r next : Run) (own other : Option ℕ) → next.members ≡ r.members → ((member : ℕ) → listening r own member ≡ listening next other member) → AreListening all r own → AreListening all next other
still_listening all r next own other members same are = record {
  size = are.size ∙ sym members;
  each = λ member here there. subst (StandFor here) (same member) (are.each member here there);
}

-- registrations are on connections that were opened

abbrev IsOpened : Run → Listener → Type 0
IsOpened r listener = (k : Connection) × (connection_of r listener.conn ≡ Some k)

abbrev AllOpened : Run → Type 0
AllOpened r = (listener : Listener) → In listener r.registered → IsOpened r listener

pub registered_opened : {o : Object Request Partition} {r : Run} → IsRun o r → (listener : Listener) → In listener r.registered → (k : Connection) × (connection_of r listener.conn ≡ Some k)
registered_opened (grid_begun members backups some) listener i = absurd i
registered_opened (line_counted r is) listener i = registered_opened is listener i
registered_opened (clock_was_set r member moment is) listener i = registered_opened is listener i
registered_opened (connection_opened r c member is free) listener i =
    let new : Connection = record { conn = c; member = member; bytes = [] } in
    let old = registered_opened is listener i in
    (old.0, find_front (is_connection listener.conn) r.connections (new ∷ []) old.0 old.1)
registered_opened (bytes_taken r connection bytes is there) listener i =
    let old = registered_opened is listener i in
    (in_place (with_bytes connection bytes) old.0, updated_found (with_bytes connection bytes) r.connections listener.conn old.0 old.1)
registered_opened (listener_was_registered r new connection is there) listener i = ⊎_elim (λ j. registered_opened is listener j) last (in_cases listener r.registered (new ∷ []) i)
  where
    last : In listener (new ∷ []) → IsOpened r listener
    last (inl e) = (connection, ap (λ (l : Listener). connection_of r l.conn) (sym e) ∙ there)
    last (inr j) = absurd j
registered_opened (answer_told r c bytes is) listener i = registered_opened is listener i
registered_opened (event_occurred r p event is quiet) listener i = registered_opened is listener i
registered_opened (call_arrived r member request is next) listener i = registered_opened is listener i
registered_opened (run_given_up r is) listener i = registered_opened is listener i
registered_opened {o} (call_asked skips r own member request is next) listener i =
    on_if AllOpened (is_skipped skips request.id) _ _ (λ l j. registered_opened is l j) (λ l j. registered_opened is l j) listener i
registered_opened (waiter_came r member request deadline is next) listener i = registered_opened is listener i
registered_opened {o} (waiter_asked skips r own w is there) listener i =
    on_if AllOpened (is_skipped skips w.request.id) _ _ (λ l j. registered_opened is l j) (λ l j. registered_opened is l j) listener i
registered_opened (waiter_refused r w why is there) listener i = registered_opened is listener i
registered_opened (waiter_left r w is there) listener i = registered_opened is listener i

-- a connection is opened, and nothing was registered on it
module _ {o : Object Request Partition} (t : Table) (r : Run) (is : IsRun o r) (h : HasTable t r) (c member : ℕ) (within : c < most_connections) (closed : opened_at t c ≡ None) where
  as_before : (at : ℕ) (listener : Listener) → In listener r.registered → listens_at r None at listener ≡ listens_at (opened r c member) None at listener
  as_before at listener i =
      let old = registered_opened is listener i in
      let apart : listener.conn ≢ c = λ e. (let clash : None ≡ Some old.0 = sym (none_opened t r h c closed) ∙ ap (connection_of r) (sym e) ∙ old.1 in cc) in
      sym (ap (λ found. is_to at found && is_open found) (found_before t r h c member within closed listener.conn apart))

  pub opened_listening : (all : List Listeners) → AreListening all r None → AreListening all (opened r c member) None
  opened_listening all are = still_listening all r (opened r c member) None None refl (λ at. listening_alike r (opened r c member) None None at refl (as_before at)) are

-- bytes come on an open connection, which counts as open while they are handled
module _ (t : Table) (r : Run) (h : HasTable t r) (c : ℕ) (k : Connection) (there : connection_of r c ≡ Some k) (bytes : List ℕ) (open_still : is_open (Some k) ≡ true) where
  abbrev taken : Run
  taken = took_bytes r k bytes

  on_it : (at : ℕ) → (is_to at (connection_of r c) && hears r None c) ≡ (is_to at (connection_of taken c) && hears taken (Some c) c)
  on_it at =
      let itself : (c == c) ≡ true = eq-eqb c c refl in
      ap (λ found. is_to at found && is_open found) there ∙ ap (λ b. (k.member == at) && b) open_still
      ∙ sym (ap (λ found. is_to at found && ((c == c) || is_open (connection_of taken c))) (took_here t r h c k there bytes) ∙ ap (λ b. (k.member == at) && (b || is_open (connection_of taken c))) itself)

  as_ever : (at : ℕ) (listener : Listener) → In listener r.registered → listens_at r None at listener ≡ listens_at taken (Some c) at listener
  as_ever at listener i = ⊎_elim here elsewhere (cases_eq listener.conn c)
    where
      here : listener.conn ≡ c → listens_at r None at listener ≡ listens_at taken (Some c) at listener
      here e = subst (λ d. (is_to at (connection_of r d) && hears r None d) ≡ (is_to at (connection_of taken d) && hears taken (Some c) d)) (sym e) (on_it at)

      elsewhere : listener.conn ≢ c → listens_at r None at listener ≡ listens_at taken (Some c) at listener
      elsewhere apart =
          let other : (listener.conn == c) ≡ false = ne_eqb listener.conn c apart in
          sym (ap (λ found. is_to at found && ((listener.conn == c) || is_open found)) (took_elsewhere t r h c k there bytes listener.conn apart) ∙ ap (λ b. is_to at (connection_of r listener.conn) && (b || is_open (connection_of r listener.conn))) other)

  pub taken_listening : (all : List Listeners) → AreListening all r None → AreListening all taken (Some c)
  taken_listening all are = still_listening all r taken None (Some c) refl (λ at. listening_alike r taken None (Some c) at refl (as_ever at)) are

-- the bytes were handled

module _ (r : Run) (c : ℕ) (k : Connection) (there : connection_of r c ≡ Some k) where
  -- on another connection
  on_other : (at : ℕ) (listener : Listener) → (listener.conn == c) ≡ false → listens_at r (Some c) at listener ≡ listens_at r None at listener
  on_other at listener other = ap (λ b. is_to at (connection_of r listener.conn) && (b || is_open (connection_of r listener.conn))) other

  its_own : (listener : Listener) → (listener.conn == c) ≡ true → connection_of r listener.conn ≡ Some k
  its_own listener same = ap (connection_of r) (same_number listener.conn c same) ∙ there

  -- It is open still.
  module _ (open_still : is_open (Some k) ≡ true) where
    as_open : (at : ℕ) (listener : Listener) → In listener r.registered → listens_at r (Some c) at listener ≡ listens_at r None at listener
    as_open at listener i = ⊎_elim same (on_other at listener) (cases (listener.conn == c))
      where
        same : (listener.conn == c) ≡ true → listens_at r (Some c) at listener ≡ listens_at r None at listener
        same e =
            ap (λ b. is_to at (connection_of r listener.conn) && (b || is_open (connection_of r listener.conn))) e
            ∙ sym (ap (λ b. is_to at (connection_of r listener.conn) && b) (ap is_open (its_own listener e) ∙ open_still))

    pub open_listening : (all : List Listeners) → AreListening all r (Some c) → AreListening all r None
    open_listening all are = still_listening all r r (Some c) None refl (λ at. listening_alike r r (Some c) None at refl (as_open at)) are

  -- It has closed.
  module _ (closed : is_open (Some k) ≡ false) where
    shut : (at : ℕ) (listener : Listener) → (listener.conn == c) ≡ true → listens_at r None at listener ≡ false
    shut at listener e = ap (λ b. is_to at (connection_of r listener.conn) && b) (ap is_open (its_own listener e) ∙ closed) ∙ and_false (is_to at (connection_of r listener.conn))
      where
        and_false : (b : Bool) → (b && false) ≡ false
        and_false true = refl
        and_false false = refl

    -- at the member that it is to
    left_there : (at : ℕ) (listener : Listener) → listens_at r None at listener ≡ (not (listener.conn == c) && listens_at r (Some c) at listener)
    left_there at listener = ⊎_elim
        (λ e. shut at listener e ∙ sym (ap (λ b. not b && listens_at r (Some c) at listener) e))
        (λ e. sym (on_other at listener e) ∙ sym (ap (λ b. not b && listens_at r (Some c) at listener) e))
        (cases (listener.conn == c))

    without_it : (at : ℕ) → without c (listening r (Some c) at) ≡ listening r None at
    without_it at =
        let apart : Listener → Bool = λ listener. not (listener.conn == c) in
        filter_order apart [] (filter (listens_at r (Some c) at) r.registered) tt
        ∙ ap order_in (filter_both apart (listens_at r (Some c) at) (listens_at r None at) r.registered (left_there at))

    -- and at another, where it had none
    none_there : (at : ℕ) → k.member ≢ at → (listener : Listener) → In listener r.registered → listens_at r (Some c) at listener ≡ listens_at r None at listener
    none_there at apart listener i = ⊎_elim same (on_other at listener) (cases (listener.conn == c))
      where
        elsewhere : (k.member == at) ≡ false
        elsewhere = ne_eqb k.member at apart

        same : (listener.conn == c) ≡ true → listens_at r (Some c) at listener ≡ listens_at r None at listener
        same e = ap (λ found. is_to at found && hears r (Some c) listener.conn) (its_own listener e) ∙ ap (λ b. b && hears r (Some c) listener.conn) elsewhere ∙ sym (shut at listener e)

    pub closed_listening : (all : List Listeners) (before now : Listeners) → slice_get all k.member ≡ Some before → ((xs : List Listener) → StandFor before xs → StandFor now (without c xs))
        → AreListening all r (Some c) → AreListening (slice_set all k.member now) r None
    closed_listening all before now at_it dropped are = record {
      size = length-set all k.member now ∙ are.size;
      each = λ member here got. ⊎_elim (same member here got) (λ apart. other member here got apart) (cases_eq member k.member);
    }
      where
        its : StandFor now (listening r None k.member)
        its = subst (StandFor now) (without_it k.member) (dropped (listening r (Some c) k.member) (are.each k.member before at_it))

        same : (member : ℕ) (here : Listeners) → slice_get (slice_set all k.member now) member ≡ Some here → member ≡ k.member → StandFor here (listening r None member)
        same member here got e =
            let both : Some now ≡ Some here = sym (set_get_same all k.member now before at_it) ∙ ap (slice_get (slice_set all k.member now)) (sym e) ∙ got in
            let one : now ≡ here = cc in
            subst (λ m. StandFor here (listening r None m)) (sym e) (subst (λ x. StandFor x (listening r None k.member)) one its)

        other : (member : ℕ) (here : Listeners) → slice_get (slice_set all k.member now) member ≡ Some here → member ≢ k.member → StandFor here (listening r None member)
        other member here got apart =
            subst (StandFor here) (listening_alike r r (Some c) None member refl (none_there member (λ e. apart (sym e))))
            (are.each member here (sym (set_get_other all k.member member now apart) ∙ got))

-- by what the session tells of its fault
open_without : (k : Connection) → fault_on k ≡ None → is_open (Some k) ≡ true
open_without k e = ap (λ (f : Option Malformed). not (is_some f)) e

shut_with : (k : Connection) (fault : Malformed) → fault_on k ≡ Some fault → is_open (Some k) ≡ false
shut_with k fault e = ap (λ (f : Option Malformed). not (is_some f)) e

-- a listener more, on a connection that is sent what comes

order_more : (all xs : List Listener) (new : Listener) → fold placed_in all (xs ++ new ∷ []) ≡ placed new (fold placed_in all xs)
order_more all [] new = refl
order_more all (x ∷ xs) new = order_more (placed x all) xs new

-- at its connection's member, and at others
listening_more : (r : Run) (own : Option ℕ) (at : ℕ) (new : Listener) (its : Bool) → listens_at r own at new ≡ its
    → listening (listener_registered r new) own at ≡ cond its (placed new (listening r own at)) (listening r own at)
listening_more r own at new its e = ap order_in (filter-append (listens_at r own at) r.registered (new ∷ [])) ∙ ap (λ b. order_in (filter (listens_at r own at) r.registered ++ cond b (new ∷ []) [])) e ∙ go its
  where
    go : (b : Bool) → order_in (filter (listens_at r own at) r.registered ++ cond b (new ∷ []) []) ≡ cond b (placed new (listening r own at)) (listening r own at)
    go true = order_more [] (filter (listens_at r own at) r.registered) new
    go false = ap order_in (append-nil (filter (listens_at r own at) r.registered))

module _ (r : Run) (c : ℕ) (k : Connection) (there : connection_of r c ≡ Some k) (new : Listener) (on : new.conn ≡ c) where
  listens_as : (at : ℕ) → listens_at r (Some c) at new ≡ (k.member == at)
  listens_as at =
      let itself : (c == c) ≡ true = eq-eqb c c refl in
      ap (λ n. is_to at (connection_of r n) && hears r (Some c) n) on
      ∙ ap (λ found. is_to at found && ((c == c) || is_open (connection_of r c))) there
      ∙ ap (λ b. (k.member == at) && (b || is_open (connection_of r c))) itself ∙ and_true (k.member == at)
    where
      and_true : (b : Bool) → (b && true) ≡ b
      and_true true = refl
      and_true false = refl

  pub more_listening : (all : List Listeners) (before now : Listeners) → slice_get all k.member ≡ Some before → ((xs : List Listener) → StandFor before xs → StandFor now (placed new xs))
      → AreListening all r (Some c) → AreListening (slice_set all k.member now) (listener_registered r new) (Some c)
  more_listening all before now at_it added are = record {
    size = length-set all k.member now ∙ are.size;
    each = λ member here got. ⊎_elim (same member here got) (λ apart. other member here got apart) (cases_eq member k.member);
  }
    where
      its : StandFor now (listening (listener_registered r new) (Some c) k.member)
      its =
          subst (StandFor now) (sym (listening_more r (Some c) k.member new true (listens_as k.member ∙ eq-eqb k.member k.member refl)))
          (added (listening r (Some c) k.member) (are.each k.member before at_it))

      same : (member : ℕ) (here : Listeners) → slice_get (slice_set all k.member now) member ≡ Some here → member ≡ k.member → StandFor here (listening (listener_registered r new) (Some c) member)
      same member here got e =
          let both : Some now ≡ Some here = sym (set_get_same all k.member now before at_it) ∙ ap (slice_get (slice_set all k.member now)) (sym e) ∙ got in
          let one : now ≡ here = cc in
          subst (λ m. StandFor here (listening (listener_registered r new) (Some c) m)) (sym e) (subst (λ x. StandFor x (listening (listener_registered r new) (Some c) k.member)) one its)

      other : (member : ℕ) (here : Listeners) → slice_get (slice_set all k.member now) member ≡ Some here → member ≢ k.member → StandFor here (listening (listener_registered r new) (Some c) member)
      other member here got apart =
          let elsewhere : (k.member == member) ≡ false = ne_eqb k.member member (λ e. apart (sym e)) in
          subst (StandFor here) (sym (listening_more r (Some c) member new false (listens_as member ∙ elsewhere)))
          (are.each member here (sym (set_get_other all k.member member now apart) ∙ got))

-- where the code looks at what the session tells

pub forgets : (all : List Listeners) (r : Run) (c member i : ℕ) (k : Connection) → connection_of r c ≡ Some k → k.member ≡ member → i ≡ member → i < length all → (closed : Option Malformed) → closed ≡ fault_on k → is_some closed ≡ true
    → (before now : Listeners) → before ≡ get_or all i before → ((xs : List Listener) → StandFor before xs → StandFor now (without c xs)) → AreListening all r (Some c) → AreListening (slice_set all i now) r None
forgets all r c member i k there its at within None shown some before now read dropped are = absurd cc
forgets all r c member i k there its at within (Some fault) shown some before now read dropped are =
    let place : i ≡ k.member = at ∙ sym its in
    subst (λ j. AreListening (slice_set all j now) r None) (sym place)
    (closed_listening r c k there (shut_with k fault (sym shown)) all before now (ap (slice_get all) (sym place) ∙ slice_get-get_or all i before within ∙ ap Some (sym read)) dropped are)

pub forgets_none : (all : List Listeners) (r : Run) (c : ℕ) (k : Connection) → connection_of r c ≡ Some k → (closed : Option Malformed) → closed ≡ fault_on k → is_some closed ≡ false → AreListening all r (Some c) → AreListening all r None
forgets_none all r c k there None shown none are = open_listening r c k there (open_without k (sym shown)) all are
forgets_none all r c k there (Some fault) shown none are = absurd cc

-- nobody listens at first

pub nobody_more : (all : List Listeners) (new : Listeners) → ((member : ℕ) (here : Listeners) → slice_get all member ≡ Some here → StandFor here []) → StandFor new []
    → (member : ℕ) (here : Listeners) → slice_get (all ++ new ∷ []) member ≡ Some here → StandFor here []
nobody_more all new none its member here there = ⊎_elim last (λ apart. none member here (sym (got_before all new member apart) ∙ there)) (cases_eq member (length all))
  where
    last : member ≡ length all → StandFor here []
    last e =
        let both : Some new ≡ Some here = sym (got_last all new) ∙ ap (slice_get (all ++ new ∷ [])) (sym e) ∙ there in
        let one : new ≡ here = cc in
        subst (λ x. StandFor x []) one its

pub nobody_listening : (all : List Listeners) (members backups : ℕ) → length all ≡ members → ((member : ℕ) (here : Listeners) → slice_get all member ≡ Some here → StandFor here []) → AreListening all (begun members backups) None
nobody_listening all members backups size each = record { size = size; each = each }
