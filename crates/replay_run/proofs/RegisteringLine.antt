-- The grid after a registration: its answer was appended, its listener stands, and who listens to rows was sent those that the member knows.
use Rattle.std.proofs.Common.{◌≡◌, ◌≢◌, ℕ, ℤ, ◌+◌, ◌<◌, List, [], ◌∷◌, ◌++◌, length, get_or, Option, None, Some, add-one, slice_get, slice_set, refl, ap, sym, ◌∙◌, subst, append-nil, append_assoc, Vec, Global}
use Rattle.std.specs.List.{filter_map, cons_option}
use Rattle.std.proofs.lemmas.Option.{slice_get-get_or}
use Rattle.frame_codec.specs.Laws.{spelled}
use Rattle.partition_protocol.specs.Service.{numbers_below}
use Rattle.partition_table.specs.declared.Row.{Row}
use Rattle.grid_base.specs.Objects.{Object}
use Rattle.grid_base.specs.declared.calls.Request.{Request}
use Rattle.object_store.specs.Partitions.{Partition}
use Rattle.call_engine.specs.Calls.{Settings}
use Rattle.call_engine.specs.Objects.{partition_object}
use Rattle.event_codecs.specs.Writing.{rows_frames}
use Rattle.event_codecs.specs.declared.registration.Registration.{Registration}
use Rattle.event_codecs.specs.declared.registration.Registration.TheVariants.{Entries, Invalidations, Rows}
use Rattle.listeners.specs.Standing.{placed}
use Rattle.listeners.specs.StandsFor.{StandFor}
use Rattle.listeners.specs.Telling.{Sent, rows_of}
use Rattle.listeners.specs.declared.listener.Listener.{Listener}
use Rattle.listeners.specs.declared.listeners.Listeners.{Listeners}
use Rattle.replay_run.specs.declared.grid.Grid.{Grid}
use Rattle.replay_run.specs.Runs.{Run, Appended, own_answer, event_to, events_to, told, listener_registered, rows_known, registered_reply, sends, registers}
use Rattle.replay_run.specs.Printing.{new_messages}
use Rattle.replay_run.specs.Tables.{Table}
use Rattle.replay_run.specs.Grids.{FormOf, HasTable, IsCounting, AreListening, Holds}
use Rattle.replay_run.specs.WorldCalls.{HasTold, HasRegistered, IsTo, first_events}
use Rattle.replay_run.proofs.LineTexts.{new_with, told-append}
use Rattle.replay_run.proofs.Listening.{more_listening}
use Rattle.replay_run.proofs.TableRuns.{unanswered_table}
use Rattle.replay_run.proofs.Releasing.{events_refuse_none}
use Rattle.replay_run.proofs.Tallies.{quiet_tally}
use Rattle.replay_run.proofs.WaiterLists.{waiters_alike}
use Rattle.replay_run.specs.LineTold.{message_told, all_told}
use Rattle.line_told.specs.declared.told.Told.{Told}

-- one more of what is known of each number

filter_map-append : {X Y : Type 0} (f : X → Option Y) (xs ys : List X) → filter_map f (xs ++ ys) ≡ filter_map f xs ++ filter_map f ys
filter_map-append f [] ys = refl
filter_map-append {X} {Y} f (x ∷ xs) ys = go (f x) (filter_map-append f xs ys)
  where
    go : (found : Option Y) → filter_map f (xs ++ ys) ≡ filter_map f xs ++ filter_map f ys → cons_option found (filter_map f (xs ++ ys)) ≡ cons_option found (filter_map f xs) ++ filter_map f ys
    go None e = e
    go (Some y) e = ap (λ zs. y ∷ zs) e

pub known_more : {Y : Type 0} (f : ℕ → Option Y) (n : ℕ) (y : Y) → f n ≡ Some y → filter_map f (numbers_below (n + 1)) ≡ filter_map f (numbers_below n) ++ y ∷ []
known_more f n y e =
    ap (λ k. filter_map f (numbers_below k)) (add-one n) ∙ filter_map-append f (numbers_below n) (n ∷ []) ∙ ap (λ o. filter_map f (numbers_below n) ++ cons_option o []) e

abbrev pub listener_on : ℕ → Registration → Listener
listener_on c registration = record { conn = c; registration = registration }

-- messages that are sent and answer nothing
sent_table : (t : Table) (r : Run) (sent : List Sent) → HasTable t r → HasTable t (sends r sent)
sent_table t r [] h = subst (λ (ms : List Appended). HasTable t (record r { appended = ms })) (sym (append-nil r.appended)) h
sent_table t r (one ∷ sent) h =
    subst (λ (ms : List Appended). HasTable t (record r { appended = ms })) (append_assoc r.appended (event_to r.lines one ∷ []) (events_to r.lines sent))
    (sent_table t (told r one.0 one.1) sent (unanswered_table t r (event_to r.lines one) h refl))

registered_table : (t : Table) (r : Run) (listener : Listener) → HasTable t r → HasTable t (listener_registered r listener)
registered_table t r listener h = record { size = h.size; connections = h.connections; calls = h.calls }

module _ (settings : Settings) (r : Run) (conn member number : ℕ) (registration : Registration) (to : IsTo r conn member) where
  abbrev o : Object Request Partition
  o = partition_object settings

  abbrev answered : Run
  answered = told r conn (registered_reply registration)

  abbrev next : Run
  next = registers o r conn member registration

  -- the grid once the answer was appended
  module _ {V : Type 0} {T : V → Type 0} {form : FormOf V T} (mid : Grid V T) (earlier so_far : List Told) (did : HasTold form settings mid r conn number (registered_reply registration) earlier so_far) where
    next_table : HasTable mid.connections next
    next_table =
        let listener = listener_on conn registration in
        sent_table mid.connections (listener_registered answered listener) (rows_of (rows_known o r member) (listener ∷ [])) (registered_table mid.connections answered listener did.holds.table)

    next_holds : (listeners : Vec Listeners Global) → Holds form settings (record mid { listeners = listeners }) next
    next_holds listeners = record {
      goes_by = did.holds.goes_by;
      goes_on = did.holds.goes_on;
      lines = did.holds.lines;
      members = did.holds.members;
      links = did.holds.links;
      moments = did.holds.moments;
      clocks = did.holds.clocks;
      table = next_table;
      waiters = waiters_alike mid.waiters answered next refl refl did.holds.waiters;
      tally =
          let sent = rows_of (rows_known o r member) (listener_on conn registration ∷ []) in
          quiet_tally mid.tally answered next (events_to r.lines sent) refl refl refl (events_refuse_none r.lines sent) did.holds.tally;
      reopened = did.holds.reopened;
      worlds = λ p low. let w = did.holds.worlds p low in record { world = w.world; there = w.there; is = record { stands = w.is.stands; setup = w.is.setup }; given = w.given };
    }

    next_listening : (i : ℕ) → i ≡ member → i < length mid.listeners.items → (before now : Listeners) → before ≡ get_or mid.listeners.items i before
        → ((xs : List Listener) → StandFor before xs → StandFor now (placed (listener_on conn registration) xs)) → AreListening (slice_set mid.listeners.items i now) next (Some conn)
    next_listening i at within before now read added =
        let place : i ≡ to.connection.member = at ∙ sym to.to in
        let more = more_listening answered conn to.connection to.there (listener_on conn registration) refl mid.listeners.items before now
        (ap (slice_get mid.listeners.items) (sym place) ∙ slice_get-get_or mid.listeners.items i before within ∙ ap Some (sym read)) added did.listeners in
        subst (λ j. AreListening (slice_set mid.listeners.items j now) next (Some conn)) (sym place) (record { size = more.size; each = more.each })

    next_told : (later : List Told) → later ≡ so_far ++ all_told (first_events o r conn member registration) → later ≡ earlier ++ all_told (new_messages r next)
    next_told later is =
        let reply = own_answer r.lines conn (registered_reply registration) in
        let events = first_events o r conn member registration in
        is ∙ ap (λ xs. xs ++ all_told events) (did.added ∙ ap (λ ms. earlier ++ all_told ms) (new_with r answered (reply ∷ []) refl))
        ∙ append_assoc earlier (all_told (reply ∷ [])) (all_told events)
        ∙ ap (λ xs. earlier ++ xs) (sym (told-append (reply ∷ []) events))
        ∙ ap (λ ms. earlier ++ all_told ms) (sym (new_with r next (reply ∷ events) (append_assoc r.appended (reply ∷ []) events)))

    pub has_registered : (later : List Told) (new : Grid V T) (listeners : Vec Listeners Global) → new ≡ record mid { listeners = listeners } → later ≡ so_far ++ all_told (first_events o r conn member registration)
        → (i : ℕ) → i ≡ member → i < length mid.listeners.items → (before now : Listeners) → before ≡ get_or mid.listeners.items i before
        → ((xs : List Listener) → StandFor before xs → StandFor now (placed (listener_on conn registration) xs)) → listeners.items ≡ slice_set mid.listeners.items i now
        → HasRegistered form settings new r conn member number registration earlier later
    has_registered later new listeners made is i at within before now read added placed_there = record {
      holds = subst (λ g. Holds form settings g next) (sym made) (next_holds listeners);
      listeners = subst (λ (g : Grid V T). AreListening g.listeners.items next (Some conn)) (sym made)
          (subst (λ ls. AreListening ls next (Some conn)) (sym placed_there) (next_listening i at within before now read added));
      counting = subst (λ (g : Grid V T). IsCounting g.connections next conn (number + 1)) (sym made) (record { here = did.counting.here; others = did.counting.others });
      added = next_told later is;
    }

-- where nothing more is sent: a listener of a map is sent no rows
pub none_first : (o : Object Request Partition) (r : Run) (c member : ℕ) (registration : Registration) → ((correlation : ℤ) → registration ≢ Rows correlation) → first_events o r c member registration ≡ []
none_first o r c member (Entries correlation name with_value) other = refl
none_first o r c member (Invalidations correlation name) other = refl
none_first o r c member (Rows correlation) other = absurd (other correlation refl)

-- where a connection listens to rows: the one event, of all that its member knows
row_told : (line c : ℕ) (bytes : List ℕ) → all_told (events_to line ((c, bytes) ∷ [])) ≡ message_told (own_answer line c bytes)
row_told line c bytes = append-nil (message_told (own_answer line c bytes))

first_is : (o : Object Request Partition) (r : Run) (c member : ℕ) (correlation : ℤ) → first_events o r c member (Rows correlation) ≡ events_to r.lines ((c, spelled (rows_frames correlation (rows_known o r member))) ∷ [])
first_is o r c member correlation = refl

pub first_rows : (o : Object Request Partition) (r : Run) (c member : ℕ) (registration : Registration) (correlation : ℤ) → registration ≡ Rows correlation → (line : ℕ) → line ≡ r.lines
    → (rows : List (ℕ × Row)) → rows ≡ rows_known o r member → (bytes : List ℕ) → bytes ≡ spelled (rows_frames correlation rows)
    → (out later : List Told) → later ≡ out ++ message_told (own_answer line c bytes) → later ≡ out ++ all_told (first_events o r c member registration)
first_rows o r c member registration correlation its line lines rows known bytes are out later is =
    let bytes_are = are ∙ ap (λ xs. spelled (rows_frames correlation xs)) known in
    is ∙ (λ i. out ++ message_told (own_answer (lines i) c (bytes_are i)))
    ∙ ap (λ xs. out ++ xs) (sym (row_told r.lines c (spelled (rows_frames correlation (rows_known o r member)))))
    ∙ ap (λ ms. out ++ all_told ms) (sym (ap (λ x. first_events o r c member x) its ∙ first_is o r c member correlation))
