-- How a connection is let in.
use Rattle.std.proofs.Common.{◌≡◌, ◌≢◌, ◌⊎◌, inl, inr, ⊎_elim, ℕ, ◌+◌, ◌<◌, ◌≤◌, true, false, List, [], ◌∷◌, ◌++◌, length, map, get_or, All, Option, Some, None, slice_get, refl, sym, ap, ◌∙◌, subst, append-nil, arith}
use Rattle.std.proofs.lemmas.List.{length-append, length-map}
use Rattle.std.proofs.lemmas.List.Elements.{All-push}
use Rattle.grid_base.specs.declared.calls.Request.{Request}
use Rattle.grid_edge.specs.Doors.{Arrival, Return, Book, after_arrival, after_return, IsOut}
use Rattle.grid_edge.specs.MemoryDoors.{Telling, connection_of}
use Rattle.hand_cell.specs.declared.names.Key.{Key}
use Rattle.hand_cell.specs.declared.names.Names.TheVariants.{One}
use Rattle.hand_cell.specs.declared.outcome.LiveOutcome.{LiveOutcome}
use Rattle.hand_cell.specs.Names.{has_number}
use Rattle.hand_cell.specs.Told.{Told}
use Rattle.message_frames.specs.Messages.{messages_of}
use Rattle.loop_journal.specs.Journals.{own_of}
use Rattle.loop_journal.specs.declared.entry.Entry.{Entry}
use Rattle.partition_threads.specs.declared.workplace.Workplace.{Workplace}
use Rattle.partition_threads.specs.Workplaces.{AreTokensAt}
use Rattle.session_calls.specs.declared.session.SessionPass.{SessionPass}
use Rattle.session_calls.specs.Openings.{IsOpened}
use Rattle.session_calls.specs.Passes.{ArePassesOf, HaveNumber, giving_up, given as given_names}
use Rattle.session_core.specs.Items.{items_of}
use Rattle.slab.specs.Slab.{Slab, get, Updates}
use Rattle.live_session.specs.declared.connection.Asked.{Asked}
use Rattle.live_session.specs.Connections.{HasSeen, AreBelow, IsFresh, IsServedTo}
use Rattle.live_session.specs.Next.{noted_of}
use Rattle.live_session.specs.Starts.{nothing_done}
use Rattle.live_session.proofs.Beginning.{no_messages}
use Rattle.live_session.proofs.Calls.{none_called}
use Rattle.live_session.proofs.Timing.{nothing_noted, nothing_in_time}
use Rattle.live_session.proofs.Places.{get_front, get_seam, same_some}
use Rattle.live_server.specs.declared.client.Client.{Client}
use Rattle.live_server.specs.declared.connections.Connections.{Connections}
use Rattle.live_server.specs.declared.connections.TheConstants.{ROOM}
use Rattle.live_server.specs.Serving.{times_returned, SawNone, WasServed}
use Rattle.live_server.specs.Clients.{IsServedSince}
use Rattle.live_server.specs.Standing.{OfEach, IsUnserved, IsServedBy, IsServing}
use Rattle.live_server.specs.Order.{Mark, StartIsMarked, KeepsMarks, AreMarks, seen_of}
use Rattle.live_server.proofs.Keyed.{of_each, came_was_unserved, came_unserved, came_served, others_served}
use Rattle.live_server.proofs.Marks.{keeps_none, marks_seen, rested_on}
use Rattle.live_server.proofs.Named.{still_named, named_one}
use Rattle.live_server.proofs.Passing.{HaveGone, gave_up, get_some, get_map, still_unseen, still_was_served, seen_by, seen_there, seen_case, get_mapped}
use Rattle.live_server.proofs.Tallies.{times_push, times_at, none_times, one_if, one_same, one_other, same_or_other}

pub is_out : (number : ℕ) (book : Book) → times_returned number book.returns ≡ 0 → IsOut book number
is_out number book none = none_times (λ (each : Return). each.number) number book.returns none

-- passes that stay as they are
pub stays : {E : Type 0} (key_of : E → Key) (passes : List (Told E)) → HaveGone key_of passes passes
stays key_of passes = record {
  as_long = refl;
  each = λ p pass now before after. ([], ap (λ (t : Told _). t.seen) (same_some now pass (sym after ∙ before)) ∙ sym (append-nil pass.seen), tt);
}

module _ {T P E O F K : Type 0} (key_of : E → Key) (tells : P → List E → E → LiveOutcome → Type 0) (call_of : ℕ → Request → ℕ → E) (place : Workplace T P E O) (given : List ℕ) (telling : Telling F K)
    (old : Connections T F K P E O) (book : Book) (serving : IsServing key_of tells call_of place given telling old book) where
  -- a number that was given back isn't served any more
  pub returned_rests : (k : ℕ) (d : Return) → k < length book.returns → IsUnserved (get_or book.returns k d).number old.clients
  returned_rests k d within = ⊎_elim
      (λ (less : number < length book.arrivals). ⊎_elim (λ served. let none = served.1 in absurd (omega (arith, there, none))) (λ back. back.0) (serving.once number less))
      (λ (more : length book.arrivals ≤ number). (serving.no_more number more).0)
      (less_or_more number (length book.arrivals))
    where
      number : ℕ
      number = (get_or book.returns k d).number

      there : 1 ≤ times_returned number book.returns
      there = times_at (λ (each : Return). each.number) number book.returns k d within refl

      less_or_more : (n m : ℕ) → (n < m) ⊎ (m ≤ n)
      less_or_more n m = grind arith

  -- what was given back stays as it was served, where the passes have seen more, and more was done for others that are served
  pub given_back_on : (journal : List Entry) → ((number : ℕ) → IsUnserved number old.clients → own_of number journal ≡ own_of number old.journal)
      → (passes : List (Told E)) → HaveGone key_of old.passes.items passes → (later : List Arrival) → All (WasServed key_of tells call_of place given journal passes (book.arrivals ++ later)) book.returns
  given_back_on journal same passes gone later k d within =
      still_was_served key_of tells call_of place given old.journal journal old.passes.items passes gone book.arrivals later (get_or book.returns k d)
      (serving.named (get_or book.returns k d).number (returned_rests k d within)) (same (get_or book.returns k d).number (returned_rests k d within)) (serving.given_back k d within)

  -- nobody is served yet by the next number
  pub next_rests : IsUnserved (length book.arrivals) old.clients × (times_returned (length book.arrivals) book.returns ≡ 0)
  next_rests = serving.no_more (length book.arrivals) (omega arith)

module _ {T P E O F K : Type 0} (key_of : E → Key) (tells : P → List E → E → LiveOutcome → Type 0) (call_of : ℕ → Request → ℕ → E) (place : Workplace T P E O) (given : List ℕ) (telling : Telling F K)
    (old : Connections T F K P E O) (book : Book) (serving : IsServing key_of tells call_of place given telling old book) (member : ℕ) (from : F) (to : K) where
  abbrev pub arrival : Arrival
  arrival = record { member = member; at = connection_of telling from to }

  came_last : slice_get (book.arrivals ++ arrival ∷ []) (length book.arrivals) ≡ Some arrival
  came_last = get_seam book.arrivals arrival []

  others_came : (client : Client T F K P E O) → IsServedSince key_of tells call_of place given telling book.arrivals serving.marks client
      → IsServedSince key_of tells call_of place given telling (book.arrivals ++ arrival ∷ []) serving.marks client
  others_came client served = record {
    arrival = served.arrival;
    came = get_front book.arrivals (arrival ∷ []) client.number served.arrival served.came;
    conn = served.conn;
    member = served.member;
    read = served.read;
    written = served.written;
    moved = served.moved;
    log = served.log;
    by_clock = served.by_clock;
    by_journal = served.by_journal;
    seen = served.seen;
    served = served.served;
    marked = served.marked;
    under_way = served.under_way;
    broken = served.broken;
  }

  more_arrivals : length (book.arrivals ++ arrival ∷ []) ≡ length book.arrivals + 1
  more_arrivals = length-append book.arrivals (arrival ∷ [])

  module _ (session : SessionPass T P E O) (number : ℕ) (number_is : number ≡ length book.arrivals) (opened : IsOpened place old.passes.items number member session) where
    has_seen : (p : ℕ) → p < length session.passes.items → HasSeen session p (seen_by old.passes.items (λ q. []) p)
    has_seen p within =
        let long : length session.passes.items ≡ length old.passes.items = ap (λ (l : List (Option (Told E))). length l) opened.passes_are ∙ length-map old.passes.items (λ pass. Some (given_names (One number) pass)) in
        let there = get_some old.passes.items p (subst (λ (n : ℕ). p < n) long within) in
        record {
          pass = given_names (One number) there.0;
          there = ap (λ (l : List (Option (Told E))). slice_get l p) opened.passes_are ∙ get_mapped (λ pass. Some (given_names (One number) pass)) old.passes.items p there.0 there.1;
          seen_is = sym (seen_there old.passes.items (λ q. []) p there.0 there.1);
          named = subst (λ (n : ℕ). has_number (given_names (One number) there.0).names.numbers n ≡ true) (sym opened.conn_is) (named_one number);
        }

    -- its session is fresh
    pub fresh : IsFresh key_of place session (seen_by old.passes.items (λ q. []))
    fresh = record {
      of_place = opened.of_place;
      passes = λ p within none. has_seen p within;
      no_calls = λ p. subst (λ (n : ℕ). AreBelow key_of n 0 (seen_by old.passes.items (λ q. []) p)) (sym (opened.conn_is ∙ number_is))
          (seen_case old.passes.items (λ q. []) (λ l. AreBelow key_of (length book.arrivals) 0 l) p (serving.unseen (length book.arrivals) (omega arith) p) tt);
    }

    -- the client is served from now on
    pub began : (client : Client T F K P E O) → client.number ≡ number → client.from ≡ from → client.to ≡ to → client.connection.pass ≡ session → client.connection.asked ≡ None → client.connection.broken ≡ false
        → IsServedTo key_of tells call_of nothing_done place client.connection (seen_by old.passes.items (λ q. [])) [] []
        → IsServedSince key_of tells call_of place given telling (book.arrivals ++ arrival ∷ []) serving.marks client
    began client has_number its_from its_to its_pass idle unbroken served = record {
      arrival = arrival;
      came = subst (λ (n : ℕ). slice_get (book.arrivals ++ arrival ∷ []) n ≡ Some arrival) (sym (has_number ∙ number_is)) came_last;
      conn = ap (λ (s : SessionPass T P E O). s.conn) its_pass ∙ (opened.conn_is ∙ sym has_number);
      member = ap (λ (s : SessionPass T P E O). s.member) its_pass ∙ opened.member_is;
      read = [];
      written = [];
      moved = record {
        read_is = ap (λ (f : F). (telling.given f).bytes) its_from ∙ sym (append-nil (telling.given from).bytes);
        written_is = ap telling.taken its_to ∙ sym (append-nil (telling.taken to));
        read_faults = let e : telling.read_faults client.from ≡ telling.read_faults from = ap telling.read_faults its_from in omega (arith, e);
        write_faults = let e : telling.write_faults client.to ≡ telling.write_faults to = ap telling.write_faults its_to in omega (arith, e);
      };
      log = nothing_done;
      by_clock = tt;
      by_journal = sym (ap (own_of client.number) (sym serving.are_marks.entries_are) ∙ (ap (λ (n : ℕ). own_of n old.journal) (has_number ∙ number_is) ∙ serving.undone (length book.arrivals) (omega arith)));
      seen = seen_by old.passes.items (λ q. []);
      served = served;
      marked = keeps_none key_of serving.marks client.number (seen_by old.passes.items (λ q. [])) (λ p. subst (λ (n : ℕ). AreBelow key_of n 0 (seen_by old.passes.items (λ q. []) p)) (sym (has_number ∙ number_is))
          (seen_case old.passes.items (λ q. []) (λ l. AreBelow key_of (length book.arrivals) 0 l) p (serving.unseen (length book.arrivals) (omega arith) p) tt));
      under_way = subst (λ (a : Option (Asked T P E O)). StartIsMarked serving.marks (seen_by old.passes.items (λ q. [])) (noted_of a)) (sym idle) tt;
      broken = λ broken. let never : true ≡ false = sym broken ∙ unbroken in absurd cc;
    }

  -- A connection came, and is served
  admitted : (new : Connections T F K P E O) (key : ℕ) (client : Client T F K P E O) → client.number ≡ length book.arrivals → IsServedSince key_of tells call_of place given telling (book.arrivals ++ arrival ∷ []) serving.marks client → new.journal ≡ old.journal
      → new.passes.items ≡ map (giving_up (One (length book.arrivals))) old.passes.items → new.tokens.items ≡ old.tokens.items → get old.clients key ≡ None → Updates old.clients new.clients key (Some client)
      → new.clients.capacity ≡ old.clients.capacity → new.accepted ≡ old.accepted + 1 → ArePassesOf place.cells.items new.passes.items
      → IsServing key_of tells call_of place given telling new (after_arrival book (record { member = member; at = connection_of telling from to }))
  admitted new key client its_number served journal_is passes_are tokens_are vacant updates room accepted of_cells = record {
    numbered = accepted ∙ (ap (λ (n : ℕ). n + 1) serving.numbered ∙ sym more_arrivals);
    room = subst (λ (n : ℕ). ROOM ≤ n) (sym room) serving.room;
    passes = of_cells;
    tokens = subst (AreTokensAt place) (sym tokens_are) serving.tokens;
    members = λ m opened. let many = serving.members m opened in let same : length new.tokens.items ≡ length old.tokens.items = ap (λ l. length l) tokens_are in omega (arith, many, same);
    once = λ number less. ⊎_elim
        (λ (same : length book.arrivals ≡ number). let none = serving.no_more number (omega (arith, same)) in
        inl (came_served old.clients new.clients key client vacant updates number (its_number ∙ same) none.0, none.1))
        (λ (other : length book.arrivals ≢ number). ⊎_elim
        (λ one. inl (others_served old.clients new.clients key client vacant updates number (another number other) one.0, one.1))
        (λ back. inr (came_unserved old.clients new.clients key client vacant updates number (another number other) back.0, back.1))
        (serving.once number (let m = more_arrivals in omega (arith, less, other, m))))
        (same_or_other (length book.arrivals) number);
    no_more = λ number more. let m = more_arrivals in let none = serving.no_more number (omega (arith, more, m)) in
        (came_unserved old.clients new.clients key client vacant updates number (another number (λ same. omega (arith, more, same, m))) none.0, none.1);
    marks = serving.marks;
    are_marks = subst (λ (n : List Entry). AreMarks key_of serving.marks n new.passes.items) (sym journal_is) (marks_seen key_of serving.marks old.journal old.passes.items new.passes.items gone serving.are_marks);
    clients = of_each old.clients new.clients key (Some client) updates (IsServedSince key_of tells call_of place given telling (book.arrivals ++ arrival ∷ []) serving.marks)
        (λ its e. subst (IsServedSince key_of tells call_of place given telling (book.arrivals ++ arrival ∷ []) serving.marks) (same_some client its e) served)
        (λ k its other there. others_came its (serving.clients k its there));
    given_back = given_back_on key_of tells call_of place given telling old book serving new.journal (λ number none. ap (own_of number) journal_is) new.passes.items gone (arrival ∷ []);
    named = λ number none. subst (HaveNumber number) (sym passes_are)
        (still_have number (λ same. none key client updates.changed (its_number ∙ sym same)) (serving.named number (before number none)));
    unseen = λ number more. let m = more_arrivals in still_unseen key_of number old.passes.items new.passes.items gone
        (serving.named number (serving.no_more number (omega (arith, more, m))).0) (serving.unseen number (omega (arith, more, m)));
    undone = λ number more. ap (own_of number) journal_is ∙ serving.undone number (let m = more_arrivals in omega (arith, more, m));
    marked = λ number none. subst (λ (l : List Mark). KeepsMarks key_of l number (seen_of new.passes.items)) (append-nil serving.marks)
        (rested_on key_of serving.marks [] number old.passes.items new.passes.items gone (serving.named number (before number none)) (serving.marked number (before number none)));
  }
    where
      before : (number : ℕ) → IsUnserved number new.clients → IsUnserved number old.clients
      before = came_was_unserved old.clients new.clients key client vacant updates

      another : (number : ℕ) → length book.arrivals ≢ number → client.number ≢ number
      another number other e = other (sym its_number ∙ e)

      gone : HaveGone key_of old.passes.items new.passes.items
      gone = subst (HaveGone key_of old.passes.items) (sym passes_are) (gave_up key_of (One (length book.arrivals)) old.passes.items)

      still_have : (number : ℕ) → ¬ (number ≡ length book.arrivals) → HaveNumber number old.passes.items → HaveNumber number (map (giving_up (One (length book.arrivals))) old.passes.items)
      still_have number other have p pass there =
          let was = get_map (giving_up (One (length book.arrivals))) old.passes.items p pass there in
          subst (λ (t : Told E). has_number t.names.numbers number ≡ true) (sym was.2) (still_named (length book.arrivals) number was.0.names.numbers other (have p was.0 was.1))

  -- A connection came, and there was no memory for it: it was given back
  refused : (new : Connections T F K P E O) → new.journal ≡ old.journal → new.passes.items ≡ old.passes.items → new.tokens.items ≡ old.tokens.items → new.clients ≡ old.clients → new.accepted ≡ old.accepted + 1
      → IsServing key_of tells call_of place given telling new
      (after_return (after_arrival book (record { member = member; at = connection_of telling from to })) (record { number = length book.arrivals; at = connection_of telling from to; memory = true }))
  refused new journal_is passes_are tokens_are clients_are accepted = record {
    numbered = accepted ∙ (ap (λ (n : ℕ). n + 1) serving.numbered ∙ sym more_arrivals);
    room = subst (λ (n : ℕ). ROOM ≤ n) (sym (ap (λ (v : Slab (Client T F K P E O)). v.capacity) clients_are)) serving.room;
    passes = subst (ArePassesOf place.cells.items) (sym passes_are) serving.passes;
    tokens = subst (AreTokensAt place) (sym tokens_are) serving.tokens;
    members = λ m opened. let many = serving.members m opened in let same : length new.tokens.items ≡ length old.tokens.items = ap (λ l. length l) tokens_are in omega (arith, many, same);
    once = λ number less. ⊎_elim
        (λ (same : length book.arrivals ≡ number). let d = times_back number in let one = one_same (length book.arrivals) number same in let none = serving.no_more number (omega (arith, same)) in let z = none.1 in
        inr (after number none.0, omega (arith, d, one, z)))
        (λ (other : length book.arrivals ≢ number). let d = times_back number in let zero = one_other (length book.arrivals) number other in ⊎_elim
        (λ served. let z = served.1 in inl (subst (IsServedBy number) (sym clients_are) served.0, omega (arith, d, zero, z)))
        (λ returned. let z = returned.1 in inr (after number returned.0, omega (arith, d, zero, z)))
        (serving.once number (let m = more_arrivals in omega (arith, less, other, m))))
        (same_or_other (length book.arrivals) number);
    no_more = λ number more. let m = more_arrivals in let d = times_back number in let zero = one_other (length book.arrivals) number (λ same. omega (arith, more, same, m)) in
        let none = serving.no_more number (omega (arith, more, m)) in let z = none.1 in (after number none.0, omega (arith, d, zero, z));
    marks = serving.marks;
    are_marks = subst (λ (n : List Entry). AreMarks key_of serving.marks n new.passes.items) (sym journal_is) (subst (AreMarks key_of serving.marks old.journal) (sym passes_are) serving.are_marks);
    clients = subst (OfEach (IsServedSince key_of tells call_of place given telling (book.arrivals ++ arrival ∷ []) serving.marks)) (sym clients_are)
        (λ key client there. others_came client (serving.clients key client there));
    given_back = subst (λ l. All (WasServed key_of tells call_of place given new.journal l (book.arrivals ++ arrival ∷ [])) (book.returns ++ back ∷ [])) (sym passes_are)
        (All-push (WasServed key_of tells call_of place given new.journal old.passes.items (book.arrivals ++ arrival ∷ [])) book.returns back
        (given_back_on key_of tells call_of place given telling old book serving new.journal (λ number none. ap (own_of number) journal_is) old.passes.items (stays key_of old.passes.items) (arrival ∷ [])) at_once);
    named = λ number none. subst (HaveNumber number) (sym passes_are) (serving.named number (subst (IsUnserved number) clients_are none));
    unseen = λ number more. subst (SawNone key_of number) (sym passes_are) (serving.unseen number (let m = more_arrivals in omega (arith, more, m)));
    undone = λ number more. ap (own_of number) journal_is ∙ serving.undone number (let m = more_arrivals in omega (arith, more, m));
    marked = λ number none. subst (λ l. KeepsMarks key_of serving.marks number (seen_of l)) (sym passes_are) (serving.marked number (subst (IsUnserved number) clients_are none));
  }
    where
      back : Return
      back = record { number = length book.arrivals; at = connection_of telling from to; memory = true }

      after : (number : ℕ) → IsUnserved number old.clients → IsUnserved number new.clients
      after number = subst (IsUnserved number) (sym clients_are)

      times_back : (number : ℕ) → times_returned number (book.returns ++ back ∷ []) ≡ times_returned number book.returns + one_if (length book.arrivals) number
      times_back number = times_push (λ (each : Return). each.number) number book.returns back

      at_once : WasServed key_of tells call_of place given new.journal old.passes.items (book.arrivals ++ arrival ∷ []) back
      at_once = record {
        arrival = arrival;
        came = came_last;
        seen = seen_by old.passes.items (λ q. []);
        seen_is = seen_there old.passes.items (λ q. []);
        answered = record {
          read = [];
          written = [];
          moved = record {
            read_is = sym (append-nil (telling.given from).bytes);
            written_is = sym (append-nil (telling.taken to));
            read_faults = omega arith;
            write_faults = omega arith;
          };
          log = nothing_done;
          by_clock = tt;
          by_journal = sym (ap (own_of (length book.arrivals)) journal_is ∙ serving.undone (length book.arrivals) (omega arith));
          noted = nothing_noted (length book.arrivals);
          left = [];
          rest = [];
          answers = record {
            answered = [];
            whole = ap (items_of (length book.arrivals) member) no_messages;
            replies = [];
            each = record { as_many = refl; each = λ i item reply there said. absurd cc };
            bytes = refl;
            calls = λ partition. none_called key_of tells call_of nothing_done place (items_of (length book.arrivals) member (messages_of true [])) (length book.arrivals) member partition (seen_by old.passes.items (λ q. []) partition)
                (seen_case old.passes.items (λ q. []) (λ l. AreBelow key_of (length book.arrivals) 0 l) partition (λ pass there. serving.unseen (length book.arrivals) (omega arith) partition pass there) tt);
            in_order = λ i j first second less one two same at at' x y. absurd cc;
            in_time = nothing_in_time (length book.arrivals) member [] [];
          };
          ended = inr (inl refl);
        };
      }

  -- So it is at the books that tell of it

  module _ (now : Book) (now_is : now ≡ after_arrival book (record { member = member; at = connection_of telling from to })) (number : ℕ) (number_is : number ≡ length book.arrivals) where
    pub came_in : (new : Connections T F K P E O) (key : ℕ) (client : Client T F K P E O) → client.number ≡ number → IsServedSince key_of tells call_of place given telling (book.arrivals ++ arrival ∷ []) serving.marks client
        → new.journal ≡ old.journal → new.passes.items ≡ map (giving_up (One number)) old.passes.items → new.tokens.items ≡ old.tokens.items → get old.clients key ≡ None → Updates old.clients new.clients key (Some client)
        → new.clients.capacity ≡ old.clients.capacity → new.accepted ≡ old.accepted + 1 → ArePassesOf place.cells.items new.passes.items
        → IsServing key_of tells call_of place given telling new now
    came_in new key client its_number served journal_is passes_are tokens_are vacant updates room accepted of_cells =
        subst (λ (b : Book). IsServing key_of tells call_of place given telling new b) (sym now_is)
        (admitted new key client (its_number ∙ number_is) served journal_is (passes_are ∙ ap (λ (n : ℕ). map (giving_up (One n)) old.passes.items) number_is) tokens_are vacant updates room accepted of_cells)

    pub turned_away : (last : Book) → last ≡ after_return now (record { number = number; at = connection_of telling from to; memory = true })
        → (new : Connections T F K P E O) → new.journal ≡ old.journal → new.passes.items ≡ old.passes.items → new.tokens.items ≡ old.tokens.items → new.clients ≡ old.clients → new.accepted ≡ old.accepted + 1
        → IsServing key_of tells call_of place given telling new last
    turned_away last last_is new journal_is passes_are tokens_are clients_are accepted =
        subst (λ (b : Book). IsServing key_of tells call_of place given telling new b)
        (sym (last_is ∙ (ap (λ (b : Book). after_return b (record { number = number; at = connection_of telling from to; memory = true })) now_is
        ∙ ap (λ (n : ℕ). after_return (after_arrival book (record { member = member; at = connection_of telling from to })) (record { number = n; at = connection_of telling from to; memory = true })) number_is)))
        (refused new journal_is passes_are tokens_are clients_are accepted)

    -- and it may be given back
    pub may_go_back : IsOut now number
    may_go_back = subst (λ (b : Book). IsOut b number) (sym now_is) (subst (λ (n : ℕ). IsOut book n) (sym number_is)
        (is_out (length book.arrivals) book (next_rests key_of tells call_of place given telling old book serving).1))
