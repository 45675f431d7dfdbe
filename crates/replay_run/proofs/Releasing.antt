-- What an event appends where it reaches a member: the events answer no call and refuse none, and the answers are those that the protocol releases.
use Rattle.std.proofs.Common.{◌≡◌, ℕ, ◌==◌, Bool, true, false, cond, ◌||◌, List, [], ◌∷◌, ◌++◌, map, filter, Option, Some, None, slice_get, refl, ap, sym, ◌∙◌, ⊎_elim, inl, inr}
use Rattle.std.specs.List.{filter_map, cons_option, flat_map}
use Rattle.std.specs.Option.{option_map, option_and_then}
use Rattle.std.proofs.lemmas.Bool.{eq-eqb}
use Rattle.grid_base.specs.Names.{object_of}
use Rattle.grid_base.specs.Objects.{Object}
use Rattle.grid_base.specs.declared.calls.Change.{Change}
use Rattle.grid_base.specs.declared.calls.GridCall.{GridCall}
use Rattle.grid_base.specs.declared.calls.GridCall.TheVariants as call
use Rattle.grid_base.specs.declared.calls.Request.{Request}
use Rattle.partition_table.specs.declared.Row.{Row}
use Rattle.partition_protocol.specs.Node.{Node, Held}
use Rattle.partition_protocol.specs.History.{Executed}
use Rattle.partition_protocol.specs.World.{World, map_or}
use Rattle.partition_protocol.specs.Events.{Event, happens}
use Rattle.partition_protocol.proofs.Lists.{In, in_cases}
use Rattle.partition_world.specs.Answers.{answer_of, held_answer, newest_call, released_by}
use Rattle.primary_hold.specs.declared.answer.CallAnswer.{CallAnswer}
use Rattle.object_store.specs.Records.{entry_in}
use Rattle.object_store.specs.Partitions.{Partition, record_at, with_record}
use Rattle.object_store.proofs.PartitionLaws.{record_at-with}
use Rattle.call_engine.specs.Calls.{Settings, after}
use Rattle.call_engine.specs.Changes.{change_of, change_on}
use Rattle.call_engine.specs.Objects.{partition_object}
use Rattle.listeners.specs.Telling.{Sent, events_of, rows_of}
use Rattle.listeners.specs.declared.listener.Listener.{Listener}
use Rattle.replay_run.specs.Changes.{entry_change, change_between, change_by}
use Rattle.replay_run.specs.Runs.{Run, Appended, connection_of, is_open, is_own, event_to, events_to, message_of, goes_out, if_newer, version_known, adopted_since, row_messages, answer_messages, release_messages, messages_at, messages_by, world_at, listening, given_to}
use Rattle.replay_run.specs.WorldCalls.{going_out}
use Rattle.replay_run.proofs.Parts.{in_mapped}
use Rattle.replay_run.proofs.Bare.{executed_for, answer_to}
use Rattle.replay_run.proofs.Speaking.{spoken, spoken-append}

-- changes

-- A call changes its object's value as the value before and after it tells.
change_is : (settings : Settings) (s : Partition) (r : Request) (now : ℕ) → change_by (partition_object settings) s r now ≡ change_of settings s r now
change_is settings s r now = go r.call
  where
    go : (c : GridCall) → let kept = record_at s (object_of c) in
        change_between c kept (record_at (with_record s (object_of c) (after settings kept c now)) (object_of c)) now ≡ change_on settings kept c now
    go (call.Map c) =
        let name = object_of (call.Map c) in
        let kept = record_at s name in
        ap (λ next. entry_change c (entry_in kept) (entry_in next) now) (record_at-with s name (after settings kept (call.Map c) now) refl)
    go (call.Queue c) = refl

pub changes_are : (settings : Settings) → change_by (partition_object settings) ≡ change_of settings
changes_are settings = λ i s r now. change_is settings s r now i

-- rows

-- Without a step nothing is adopted.
pub none_adopted : {C : Type 0} (w : World C) (member : ℕ) → adopted_since (version_known w member) w member ≡ None
none_adopted w member = go (slice_get w.nodes member) refl
  where
    go : (found : Option Node) → slice_get w.nodes member ≡ found → option_and_then (λ (node : Node). if_newer (version_known w member) node.known) found ≡ None
    go None e = refl
    go (Some node) e =
        let version : node.known.version ≡ version_known w member = sym (ap (λ (x : Option Node). map_or x 0 (λ (n : Node). n.known.version)) e) in
        let same : (node.known.version == version_known w member) ≡ true = eq-eqb node.known.version (version_known w member) version in
        ap (λ b. cond b None (Some node.known)) same

-- what speaks

module _ (r : Run) (own : Option ℕ) (p : ℕ) (all : List Listener) where
  pub spoken_events : (line : ℕ) (sent : List Sent) → spoken (events_to line sent) ≡ []
  spoken_events line [] = refl
  spoken_events line (one ∷ sent) = spoken_events line sent

  pub spoken_row : (line : ℕ) (row : Option Row) → spoken (row_messages line p all row) ≡ []
  spoken_row line None = refl
  spoken_row line (Some row) = spoken_events line (rows_of ((p, row) ∷ []) all)

  spoken_release : (answer : CallAnswer) → spoken (release_messages r own p all answer) ≡ spoken (answer_messages r own answer)
  spoken_release answer =
      spoken-append (events_to r.lines (events_of p answer all)) (answer_messages r own answer)
      ∙ ap (λ ms. ms ++ spoken (answer_messages r own answer)) (spoken_events r.lines (events_of p answer all))

  -- Of releases the answers that go out.
  pub spoken_releases : (answers : List CallAnswer) → spoken (flat_map (release_messages r own p all) answers) ≡ spoken (map (message_of r.lines) (going_out r own answers))
  spoken_releases [] = refl
  spoken_releases (answer ∷ answers) =
      spoken-append (release_messages r own p all answer) (flat_map (release_messages r own p all) answers)
      ∙ (λ i. spoken_release answer i ++ spoken_releases answers i) ∙ go (goes_out r own answer)
    where
      go : (b : Bool) → spoken (cond b (message_of r.lines answer ∷ []) []) ++ spoken (map (message_of r.lines) (going_out r own answers))
          ≡ spoken (map (message_of r.lines) (cond b (answer ∷ going_out r own answers) (going_out r own answers)))
      go true = refl
      go false = refl

  pub spoken_at : (row : Option Row) (answers : List CallAnswer) → spoken (row_messages r.lines p all row ++ flat_map (release_messages r own p all) answers) ≡ spoken (map (message_of r.lines) (going_out r own answers))
  spoken_at row answers =
      spoken-append (row_messages r.lines p all row) (flat_map (release_messages r own p all) answers)
      ∙ (λ i. spoken_row r.lines row i ++ spoken_releases answers i)

-- Nothing that is appended where an event reaches a member refuses a call.

pub events_refuse_none : (line : ℕ) (sent : List Sent) (m : Appended) → In m (events_to line sent) → m.refuses ≡ None
events_refuse_none line sent m i = let made = in_mapped (event_to line) sent m i in ap (λ (n : Appended). n.refuses) (sym made.2)

row_refuses_none : (line p : ℕ) (all : List Listener) (row : Option Row) (m : Appended) → In m (row_messages line p all row) → m.refuses ≡ None
row_refuses_none line p all None m i = absurd i
row_refuses_none line p all (Some row) m i = events_refuse_none line (rows_of ((p, row) ∷ []) all) m i

module _ (r : Run) (own : Option ℕ) (p : ℕ) (all : List Listener) where
  answer_refuses_none : (answer : CallAnswer) (m : Appended) → In m (answer_messages r own answer) → m.refuses ≡ None
  answer_refuses_none answer m i = go (goes_out r own answer) i
    where
      go : (b : Bool) → In m (cond b (message_of r.lines answer ∷ []) []) → m.refuses ≡ None
      go true (inl e) = ap (λ (n : Appended). n.refuses) (sym e)
      go true (inr j) = absurd j
      go false j = absurd j

  releases_refuse_none : (answers : List CallAnswer) (m : Appended) → In m (flat_map (release_messages r own p all) answers) → m.refuses ≡ None
  releases_refuse_none [] m i = absurd i
  releases_refuse_none (answer ∷ answers) m i =
      ⊎_elim here (λ j. releases_refuse_none answers m j) (in_cases m (release_messages r own p all answer) (flat_map (release_messages r own p all) answers) i)
    where
      here : In m (release_messages r own p all answer) → m.refuses ≡ None
      here j =
          ⊎_elim (λ k. events_refuse_none r.lines (events_of p answer all) m k) (λ k. answer_refuses_none answer m k)
          (in_cases m (events_to r.lines (events_of p answer all)) (answer_messages r own answer) j)

  refuse_none : (row : Option Row) (answers : List CallAnswer) (m : Appended) → In m (messages_at r own p all row answers) → m.refuses ≡ None
  refuse_none row answers m i =
      ⊎_elim (λ j. row_refuses_none r.lines p all row m j) (λ j. releases_refuse_none answers m j)
      (in_cases m (row_messages r.lines p all row) (flat_map (release_messages r own p all) answers) i)

module _ (o : Object Request Partition) (r : Run) (p : ℕ) where
  pub messages_refuse_none : (own : Option ℕ) (member : ℕ) (before after : World Request) (m : Appended) → In m (messages_by o r own p member before after) → m.refuses ≡ None
  messages_refuse_none own member before after m i =
      refuse_none r own p (listening r own member) (adopted_since (version_known before member) after member) (released_by o (change_by o) before after) m i

  pub given_refuse_none : (event : Event Request) (taker : Option ℕ) (m : Appended) → In m (given_to o r p event taker) → m.refuses ≡ None
  given_refuse_none event None m i = absurd i
  given_refuse_none event (Some member) m i = messages_refuse_none None member (world_at o r p) (happens o (world_at o r p) event).world m i

-- The answers that an event released and that go out, as their calls were executed. A call's own connection is open to them.

-- whether the answer of a call goes out
abbrev pub goes_to : Run → Option ℕ → Executed Request → Bool
goes_to r own x = is_own own x.conn || is_open (connection_of r x.conn)

module _ {State : Type 0} (o : Object Request State) (change_in : State → Request → ℕ → Option Change) (r : Run) (own : Option ℕ) (line : ℕ) (w : World Request) where
  -- as the code gives them out
  abbrev pub held_messages : List Held → List Appended
  held_messages hs = map (message_of line) (going_out r own (filter_map (held_answer o change_in w) hs))

  -- as the run has them
  abbrev pub run_messages : List Held → List Appended
  run_messages hs = map (answer_to line) (filter (goes_to r own) (filter_map (executed_for w) hs))

  pub answers_given : (hs : List Held) → map (message_of line) (going_out r own (filter_map (held_answer o change_in w) hs)) ≡ map (answer_to line) (filter (goes_to r own) (filter_map (executed_for w) hs))
  answers_given [] = refl
  answers_given (h ∷ hs) = go (newest_call (record { conn = h.conn; number = h.number }) w.recorded.log) (answers_given hs)
    where
      one : (x : Executed Request) (answer : CallAnswer) (goes : Bool) → message_of line answer ≡ answer_to line x → (answers : List CallAnswer) (calls : List (Executed Request)) → map (message_of line) answers ≡ map (answer_to line) calls
          → map (message_of line) (cond goes (answer ∷ answers) answers) ≡ map (answer_to line) (cond goes (x ∷ calls) calls)
      one x answer true same answers calls e = λ i. same i ∷ e i
      one x answer false same answers calls e = e

      go : (found : Option (Executed Request)) → held_messages hs ≡ run_messages hs
          → map (message_of line) (going_out r own (cons_option (option_map (answer_of o change_in w) found) (filter_map (held_answer o change_in w) hs)))
          ≡ map (answer_to line) (filter (goes_to r own) (cons_option found (filter_map (executed_for w) hs)))
      go None e = e
      go (Some x) e =
          one x (answer_of o change_in w x) (goes_to r own x) refl
          (going_out r own (filter_map (held_answer o change_in w) hs)) (filter (goes_to r own) (filter_map (executed_for w) hs)) e
