-- The history of the entry that the calls are on: it has each call once, and each adds 1.
use Rattle.std.proofs.Common.{◌≡◌, ◌≢◌, ℕ, suc, ◌+◌, ◌^◌, ◌<◌, ℤ, pos, Bool, cond, List, [], ◌∷◌, map, length, Contains, Option, Some, None, codes, refl, sym, ap, ◌∙◌, subst, inl, inr, arith}
use Rattle.std.specs.Option.{option_and_then}
use Rattle.std.proofs.lemmas.List.{length-map}
use Rattle.std.proofs.lemmas.List.Elements.{All-contains}
use Rattle.entry_processors.specs.NumberValues.{number_value}
use Rattle.entry_processors.specs.OutcomeFacts.{IsReadAsSpelled}
use Rattle.entry_processors.specs.Places.{item_at}
use Rattle.entry_processors.specs.Processors.{Add, counted}
use Rattle.grid_base.specs.declared.calls.Request.{Request}
use Rattle.grid_base.specs.declared.names.CallId.{CallId}
use Rattle.hand_cell.specs.declared.outcome.LiveOutcome.TheVariants as live
use Rattle.hand_cell.specs.declared.names.Key.{Key}
use Rattle.hand_cell.specs.declared.names.Key.TheVariants.{Call, Control, Free}
use Rattle.map_records.specs.declared.records.MapRecord.{MapRecord}
use Rattle.object_store.specs.Records.{Record, Map, entry_in, nothing_of}
use Rattle.object_store.proofs.PartitionLaws.{is_same_self}
use Rattle.call_engine.specs.Calls.{Settings}
use Rattle.call_engine.specs.Objects.{one_object}
use Rattle.partition_protocol.specs.Arrivals.{CallName, NamedOnce, arrivals, name, calls_in as calls_of}
use Rattle.partition_protocol.specs.History.{Entry, Executed, Called, Reset, state_after}
use Rattle.partition_protocol.proofs.Lists.{In, in_contains, contains_in}
use Rattle.partition_world.specs.Answers.{id_of as id_in}
use Rattle.partition_world.specs.declared.event.Event.{Event}
use Rattle.partition_world.specs.declared.event.Event.TheVariants as event
use Rattle.partition_world.specs.Events.{event_of}
use Rattle.live_grid.specs.declared.plan.GridPlan.{GridPlan}
use Rattle.live_grid.specs.Histories.{live_key}
use Rattle.live_grid.specs.Plans.{settings_for}
use Rattle.live_grid.specs.Stored.{something_of}
use Rattle.live_history_laws.specs.Entries.{HasEntry, StandsBefore, asks_of, object_trail}
use Rattle.live_history_laws.specs.Fitting.{Fits, StandsAs}
use Rattle.live_history_laws.specs.Names.{AreNamedOnce}
use Rattle.live_history_laws.specs.Reopenings.{reopened, resets_in}
use Rattle.counted_calls.specs.Calls.{calls_from, calls_in, id_of, is_call, is_call_from, name_of, one as the_one, owner_of, request_of}
use Rattle.counted_calls.specs.Gathered.{AreGathered, IsCounted}
use Rattle.counted_calls.specs.Sessions.{Ran, WasTold, event_of as run_as}
use Rattle.counted_calls.specs.declared.requests.TheConstants.{LEADER}
use Rattle.counted_calls.proofs.Adding.{plain, one_more, counted_more}
use Rattle.counted_calls.proofs.Later.{passes_from}
use Rattle.counted_calls.proofs.Lists.{in_map, from_map, there_from_map, there_passed, no_longer}

-- Names of calls, in a history and in a trail

-- the name of an event that is a call
named : Event Request → CallName
named (event.Call member id call now) = record { conn = id.conn; number = id.number }
named other = record { conn = 0; number = 0 }

-- the calls that arrive are those of the history
names_arrive : (history : List (Event Request)) → map name (arrivals (map event_of history)) ≡ map named (calls_in history)
unfolding named
names_arrive [] = refl
names_arrive (event.Call member id call now ∷ es) = ap (λ ns. record { conn = id.conn; number = id.number } ∷ ns) (names_arrive es)
names_arrive (event.Deliver from to place ∷ es) = names_arrive es
names_arrive (event.Lose from to place ∷ es) = names_arrive es
names_arrive (event.Repeat from to place ∷ es) = names_arrive es
names_arrive (event.Resend end ∷ es) = names_arrive es
names_arrive (event.Crash member ∷ es) = names_arrive es
names_arrive (event.Detect member ∷ es) = names_arrive es
names_arrive (event.BeginMove from to ∷ es) = names_arrive es
names_arrive (event.BeginJoin to ∷ es) = names_arrive es
names_arrive (event.BeginHandover from to ∷ es) = names_arrive es
names_arrive (event.Advance ∷ es) = names_arrive es
names_arrive (event.Reopen ∷ es) = names_arrive es

-- each entry is a call where nothing is a reset
all_calls : (es : List (Entry Request)) → resets_in es ≡ [] → length es ≡ length (map name (calls_of es))
all_calls [] none = refl
all_calls (Called call ∷ es) none = ap (λ n. suc n) (all_calls es none)
all_calls (Reset version ∷ es) none = absurd cc

no_reset : (es : List (Entry Request)) (version : ℕ) → resets_in es ≡ [] → In (Reset version) es → ⊥
no_reset [] version none i = absurd i
no_reset (Called call ∷ es) version none (inl e) = absurd cc
no_reset (Called call ∷ es) version none (inr i) = no_reset es version none i
no_reset (Reset v ∷ es) version none i = absurd cc

name_of_call : Executed Request → CallName
name_of_call call = record { conn = call.conn; number = call.number }

name_in : (es : List (Entry Request)) (call : Executed Request) → In (Called call) es → In (name_of_call call) (map name (calls_of es))
unfolding name_of_call
name_in [] call i = absurd i
name_in (Called first ∷ es) call (inl e) = let same : first ≡ call = cc in inl (ap (λ (c : Executed Request). record { conn = c.conn; number = c.number }) same)
name_in (Called first ∷ es) call (inr i) = inr (name_in es call i)
name_in (Reset version ∷ es) call (inl e) = absurd cc
name_in (Reset version ∷ es) call (inr i) = name_in es call i

call_in : (es : List (Entry Request)) (n : CallName) → In n (map name (calls_of es)) → (call : Executed Request) × In (Called call) es × (name_of_call call ≡ n)
unfolding name_of_call
call_in [] n i = absurd i
call_in (Called first ∷ es) n (inl e) = (first, inl refl, e)
call_in (Called first ∷ es) n (inr i) = let r = call_in es n i in (r.0, inr r.1, r.2)
call_in (Reset version ∷ es) n i = let r = call_in es n i in (r.0, inr r.1, r.2)

-- no call stands twice
abbrev IsOnce : List (Entry Request) → Type 0
IsOnce es = (first second : Executed Request) → StandsBefore es (Called first) (Called second) → id_in first ≢ id_in second

names_once : (es : List (Entry Request)) → IsOnce es → NamedOnce (map name (calls_of es))
unfolding name_of_call
names_once [] once = tt
names_once (Called first ∷ es) once = (
  λ n there same. (
      let r = call_in es n (in_contains n (map name (calls_of es)) there) in
      once first r.0 (inl (refl, contains_in (Called r.0) es r.1))
      (ap (λ (m : CallName). record { conn = m.conn; number = m.number }) (sym same ∙ sym r.2))
      ),
  names_once es (λ x y before. once x y (inr before)),
)
names_once (Reset version ∷ es) once = names_once es (λ x y before. once x y (inr before))

-- calls of all connections
pub all_from_none : (es : List (Event Request)) → calls_from 0 es ≡ calls_in es
all_from_none [] = refl
all_from_none (e ∷ es) = go (is_call_from 0 (live_key e)) (is_call (live_key e)) (same_test (live_key e)) (all_from_none es)
  where
    same_test : (k : Key) → is_call_from 0 k ≡ is_call k
    same_test (Call id) = passes_from 0 id.conn (omega arith)
    same_test Control = refl
    same_test Free = refl

    go : (a b : Bool) → a ≡ b → calls_from 0 es ≡ calls_in es → cond a (e ∷ calls_from 0 es) (calls_from 0 es) ≡ cond b (e ∷ calls_in es) (calls_in es)
    go a b same h = ap (λ c. cond c (e ∷ calls_from 0 es) (calls_from 0 es)) same ∙ ap (λ xs. cond b (e ∷ xs) xs) h

same_call : (m m' : ℕ) (i i' : CallId) (r r' : Request) (now now' : ℕ) → event.Call m i r now ≡ event.Call m' i' r' now' → (r ≡ r') × (now ≡ now')
same_call m m' i i' r r' now now' e = (cc, cc)

-- One of the calls, as an entry
pub record IsOneMore (key : List ℕ) (entry : Entry Request) : Type 0 where
  call : Executed Request
  is : entry ≡ Called call
  conn : ℕ
  number : ℕ
  asks : call.call ≡ request_of key conn number
  now : call.now ≡ 0

-- What entries leave that are all calls of a processor that adds 1
module _ (settings : Settings) (adding : item_at settings.forms (pos 1) ≡ Some Add) (read : (number : ℤ) → IsReadAsSpelled number) (key : List ℕ) where
  -- The record of an entry with a number in it
  pub record HasNumber (n : ℕ) (kept : Record) : Type 0 where
    value : Option (List ℕ)
    is : kept ≡ Map (plain value)
    number : counted value ≡ Some (pos n)

  after_entry : (n : ℕ) (kept : Record) (entry : Entry Request) → n + 1 < 2 ^ 63 → IsOneMore key entry → HasNumber n kept
      → (call : Executed Request) × (entry ≡ Called call) × HasNumber (n + 1) ((one_object settings (name_of key)).after kept call.call call.now)
  after_entry n kept entry fits is has = (
    is.call,
    is.is,
    record {
      value = Some (number_value (pos (n + 1)));
      is = ap (λ (r : Record). (one_object settings (name_of key)).after r is.call.call is.call.now) has.is
          ∙ (ap (λ (r : Request). (one_object settings (name_of key)).after (Map (plain has.value)) r is.call.now) is.asks
          ∙ (ap (λ now. (one_object settings (name_of key)).after (Map (plain has.value)) (request_of key is.conn is.number) now) is.now
          ∙ ap (λ (e : MapRecord). Map e) (one_more the_one refl n fits settings.forms adding (codes "m") key (owner_of is.conn) has.value has.number)));
      number = counted_more the_one refl n fits read;
    },
  )

  pub all_added : (es : List (Entry Request)) (n : ℕ) (kept : Record) → n + length es < 2 ^ 63 → ((entry : Entry Request) → In entry es → IsOneMore key entry) → HasNumber n kept
      → HasNumber (n + length es) (state_after (one_object settings (name_of key)) kept es)
  all_added [] n kept fits each has = subst (λ m. HasNumber m kept) (omega arith) has
  all_added (entry ∷ es) n kept fits each has =
      let next = after_entry n kept entry (omega (arith, fits)) (each entry (inl refl)) has in
      subst (λ (e : Entry Request). HasNumber (n + suc (length es)) (state_after (one_object settings (name_of key)) kept (e ∷ es))) (sym next.1)
      (subst (λ m. HasNumber m (state_after (one_object settings (name_of key)) ((one_object settings (name_of key)).after kept next.0.call next.0.now) es)) (omega arith)
      (all_added es (n + 1) ((one_object settings (name_of key)).after kept next.0.call next.0.now) (omega (arith, fits)) (λ e i. each e (inr i)) next.2))

  -- what is read of such a record
  pub number_read : (n : ℕ) (kept : Record) → HasNumber n kept → counted (option_and_then (λ (r : Record). (entry_in r).value) (something_of kept)) ≡ Some (pos n)
  number_read n kept has = ap (λ (r : Record). counted (option_and_then (λ (q : Record). (entry_in q).value) (something_of r))) has.is ∙ (same has.value ∙ has.number)
    where
      same : (value : Option (List ℕ)) → counted (option_and_then (λ (q : Record). (entry_in q).value) (something_of (Map (plain value)))) ≡ counted value
      same None = refl
      same (Some bytes) = refl

  pub nothing_counted : HasNumber 0 (nothing_of (name_of key))
  nothing_counted = record { value = None; is = refl; number = refl }

-- The history
module _ (plan : GridPlan) (key : List ℕ) (history : List (Event Request)) (answered : ℕ) (once : AreNamedOnce history)
    (fits : Fits (one_object (settings_for plan) (name_of key)) (asks_of (name_of key)) plan history (object_trail plan history (name_of key)))
    (never : reopened plan history ≡ []) (gathered : AreGathered plan key 0 answered history)
    (replied : (one : Ran) → IsCounted plan key history one → (reply : List ℕ) × (one.outcome ≡ live.Replied reply)) where
  abbrev trail : List (Entry Request)
  trail = object_trail plan history (name_of key)

  no_resets : resets_in trail ≡ []
  no_resets = fits.resets ∙ never

  -- a call of the history is one that was run
  pub run_of : (e : Event Request) → Contains (calls_in history) e → (one : Ran) × Contains gathered.ran one × (run_as key one ≡ e)
  run_of e there = there_from_map (run_as key) gathered.ran e
      (All-contains (Contains (map (run_as key) gathered.ran)) (calls_from 0 history) e gathered.theirs (subst (λ es. Contains es e) (sym (all_from_none history)) there))

  pub counted_in : (one : Ran) → Contains gathered.ran one → IsCounted plan key history one
  counted_in one there = All-contains (IsCounted plan key history) gathered.ran one gathered.each there

  -- it stands in the trail
  entry_of : (one : Ran) → Contains gathered.ran one → (reply : List ℕ) × HasEntry trail (id_of one.conn one.number) (request_of key one.conn one.number) 0 reply
  entry_of one there = (
    reply_is.0,
    subst (λ outcome. StandsAs trail (id_of one.conn one.number) (request_of key one.conn one.number) 0 outcome) reply_is.1
        (fits.told told.before told.after LEADER (id_of one.conn one.number) (request_of key one.conn one.number) 0 one.outcome told.whole told.there (is_same_self (name_of key)) told.told),
  )
    where
      told : WasTold plan history (run_as key one) one.outcome
      told = (counted_in one there).told

      reply_is : (reply : List ℕ) × (one.outcome ≡ live.Replied reply)
      reply_is = replied one (counted_in one there)

  name_in_trail : (n : CallName) → In n (map named (calls_in history)) → In n (map name (calls_of trail))
  unfolding named name_of_call
  name_in_trail n i =
      let event_is = from_map named (calls_in history) n i in
      let ran = run_of event_is.0 (contains_in event_is.0 (calls_in history) event_is.1) in
      let entry = (entry_of ran.0 ran.1).1 in
      subst (λ m. In m (map name (calls_of trail))) (ap named ran.2 ∙ event_is.2) (name_in trail _ (in_contains _ trail entry.there))

  -- each call of the trail came with the history
  event_for : (call : Executed Request) → In (Called call) trail → (member : ℕ) × Contains (calls_in history) (event.Call member (id_in call) call.call call.now)
  event_for call i =
      let came = (fits.came call (contains_in (Called call) trail i)).1 in
      (came.member, there_passed _ history (event.Call came.member (id_in call) call.call call.now) came.there refl)

  name_in_history : (n : CallName) → In n (map name (calls_of trail)) → In n (map named (calls_in history))
  unfolding named name_of_call
  name_in_history n i =
      let call = call_in trail n i in
      let came = event_for call.0 call.1 in
      subst (λ m. In m (map named (calls_in history))) call.2
      (in_map named (calls_in history) (event.Call came.0 (id_in call.0) call.0.call call.0.now) (in_contains (event.Call came.0 (id_in call.0) call.0.call call.0.now) (calls_in history) came.1))

  -- The trail has as many entries as the history has calls
  pub as_many : length trail ≡ length (calls_in history)
  as_many =
      let few = no_longer (map name (calls_of trail)) (map named (calls_in history)) (names_once trail fits.once) name_in_history in
      let many = no_longer (map named (calls_in history)) (map name (calls_of trail)) (subst NamedOnce (names_arrive history) once) name_in_trail in
      let of_trail = all_calls trail no_resets in
      let of_history = length-map (calls_in history) named in
      omega (arith, few, many, of_trail, of_history)

  pub one_more_each : (entry : Entry Request) → In entry trail → IsOneMore key entry
  one_more_each (Called call) i =
      let came = event_for call i in
      let ran = run_of (event.Call came.0 (id_in call) call.call call.now) came.1 in
      let same = same_call LEADER came.0 (id_of ran.0.conn ran.0.number) (id_in call) (request_of key ran.0.conn ran.0.number) call.call 0 call.now ran.2 in
      record { call = call; is = refl; conn = ran.0.conn; number = ran.0.number; asks = sym same.0; now = sym same.1 }
  one_more_each (Reset version) i = absurd (no_reset trail version no_resets i)
