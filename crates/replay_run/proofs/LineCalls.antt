-- The items of a line of bytes on the grid, one after the other.
use Rattle.std.proofs.Common.{◌≡◌, ℕ, ℤ, ◌+◌, ◌<◌, List, [], ◌∷◌, ◌++◌, length, get_or, map, take, drop, Option, Some, None, Result, Ok, Err, OnOk, refl, ap, sym, ◌∙◌, subst, inl, append_assoc, arith, length-append}
use Rattle.std.proofs.lemmas.List.{take-append-drop, drop_more}
use Rattle.std.specs.Iterator.{Yields}
use Rattle.std.proofs.lemmas.Iterator.Adapters.{YieldsList-from_vec}
use Rattle.std.proofs.lemmas.Iterator.Consumers.{YieldsList-so_far, YieldsList-turn, YieldsList-end}
use Rattle.std.specs.Vec.Iter.{into_iter_items, into_iter_len, into_iter_steps}
use Rattle.std.specs.declared.vec.IntoIter.{IntoIter}
use Rattle.grid_base.specs.declared.names.CallId.{CallId}
use Rattle.grid_base.specs.declared.calls.Request.{Request}
use Rattle.replay_run.specs.declared.grid.Grid.{Grid}
use Rattle.call_engine.specs.Calls.{Settings}
use Rattle.call_engine.specs.Objects.{partition_object}
use Rattle.event_codecs.specs.declared.registration.Registration.{Registration}
use Rattle.grid_base.specs.Limits.{CallFits}
use Rattle.grid_base.specs.Objects.{Object}
use Rattle.partition_protocol.proofs.Lists.{in_right, contains_in}
use Rattle.object_store.specs.Partitions.{Partition}
use Rattle.replay_run.specs.Runs.{Run, Connection, messages_on, with_bytes, told, registers, calls, begins_to_wait, handled, partitions}
use Rattle.replay_run.specs.Printing.{new_messages}
use Rattle.replay_run.specs.ScriptRuns.{IsRun, IsNext, MayAsk, calls_in}
use Rattle.session_core.specs.declared.item.Item.{Item}
use Rattle.session_core.specs.declared.item.Item.TheVariants.{Call as Asks, Wait, Register, Reply}
use Rattle.replay_run.specs.Grids.{FormOf, IsCounting, AreListening, AreFew}
use Rattle.replay_run.specs.WaiterCalls.{IsBetween, HasHandledCall, by_call, by_waiting}
use Rattle.replay_run.specs.WorldCalls.{Onward, GivesUpSo, IsTo, HasRegistered, HasTold, HasCallRoom, HasRoom, Brings, HasHandledSome, IsGivenUpMidway}
use Rattle.replay_run.proofs.Items.{IsNamed, IsNumbered}
use Rattle.replay_run.proofs.Lines.{HasCome, told_come, registers_come, handled_come, may_calls, may_begin, calls_run, begins_run}
use Rattle.replay_run.proofs.LineTexts.{new_with, told_more}
use Rattle.replay_run.proofs.Midway.{midway_come, midway_calls, midway_few, its_name, next_midway, item_midway, full_midway, own_midway, told_midway, registered_midway}
use Rattle.replay_run.specs.LineTold.{all_told}
use Rattle.line_told.specs.declared.told.Told.{Told}

map_same : {X : Type 0} (xs : List X) → map (λ (x : X). x) xs ≡ xs
map_same [] = refl
map_same (x ∷ xs) = ap (λ ys. x ∷ ys) (map_same xs)

-- a loop over a `Vec` by value

turn_splits : {X : Type 0} (all xs : List X) (x : X) → map (λ (y : X). y) xs ≡ take (length xs) all → length xs < length all → x ≡ get_or all (length xs) x → all ≡ xs ++ x ∷ drop (length xs + 1) all
turn_splits all xs x so_far within at =
    sym (take-append-drop (length xs) all)
    ∙ ap (λ ys. ys ++ drop (length xs) all) (sym so_far ∙ map_same xs)
    ∙ ap (λ ys. xs ++ ys) (drop_more all (length xs) x within ∙ ap (λ y. y ∷ drop (length xs + 1) all) (sym at))

module _ {X Z : Type 0} (s : IntoIter X Z) (all : List X) (items : into_iter_items s ≡ all) (len : into_iter_len s ≡ length all) (xs : List X) (t : IntoIter X Z) (yielded : Yields into_iter_steps s xs t) (r : Option X) (u : IntoIter X Z) (steps : into_iter_steps t r u) where
  -- at its next item
  pub at_next : (x : X) → r ≡ Some x → all ≡ xs ++ x ∷ drop (length xs + 1) all
  at_next x is =
      let turn = YieldsList-turn (YieldsList-from_vec {s = s} all items len) xs t yielded r u x is steps in
      turn_splits all xs x (YieldsList-so_far (YieldsList-from_vec {s = s} all items len) xs t yielded) turn.0 turn.1

  -- which is of this form
  pub at_next_as : (x y : X) → r ≡ Some x → x ≡ y → all ≡ xs ++ y ∷ drop (length xs + 1) all
  at_next_as x y is same = at_next x is ∙ ap (λ z. xs ++ z ∷ drop (length xs + 1) all) same

  pub at_end : r ≡ None → xs ≡ all
  at_end is = sym (map_same xs) ∙ (YieldsList-end (YieldsList-from_vec {s = s} all items len) xs t yielded r u is steps).0

-- One item more: its messages stand behind those of the items before it.
module _ {V : Type 0} {T : V → Type 0} {form : FormOf V T} {settings : Settings} (grid : Grid V T) (r : Run) (k : Connection) (bytes : List ℕ) (done : List Item) (item : Item) (rest : List Item) (brings : Brings settings r k bytes (done ++ item ∷ rest))
    (earlier mid : List Told) (so_far : HasHandledSome form settings grid r k bytes done earlier mid) where
  number_more : (length (messages_on k) + length done) + 1 ≡ length (messages_on k) + length (done ++ item ∷ [])
  number_more = let parts = length-append done (item ∷ []) in omega (arith, parts)

  -- its member, which is one of the grid's and has its listeners
  pub reached_now : k.member < grid.members
  reached_now =
      let same = (midway_come r brings.run k brings.there bytes done so_far.skips so_far.now so_far.midway).members in
      subst (λ n. k.member < n) (sym (so_far.holds.members ∙ same)) brings.reached

  pub heard_now : length grid.listeners.items ≡ grid.members
  heard_now = so_far.listeners.size ∙ sym so_far.holds.members

  pub to_now : IsTo so_far.now k.conn k.member
  to_now = record { connection = with_bytes k bytes; there = so_far.midway.may.there; to = refl }

  more_added : (next : Run) (come : ℕ) (later : List Told) → HasCome so_far.now come next → later ≡ mid ++ all_told (new_messages so_far.now next) → later ≡ earlier ++ all_told (new_messages r next)
  more_added next come later has is =
      let before = midway_come r brings.run k brings.there bytes done so_far.skips so_far.now so_far.midway in
      let grown = sym has.appended.1 in
      is ∙ ap (λ xs. xs ++ all_told (new_messages so_far.now next)) so_far.added
      ∙ append_assoc earlier (all_told (new_messages r so_far.now)) (all_told (new_messages so_far.now next))
      ∙ ap (λ ms. earlier ++ (all_told (new_messages r so_far.now) ++ all_told ms)) (new_with so_far.now next has.appended.0 grown)
      ∙ ap (λ xs. earlier ++ xs) (sym (told_more r so_far.now next has.appended.0 before.appended grown))

-- the same of other items, and of the connection by its number or its member

pub given_up_as : {settings : Settings} {r : Run} {k : Connection} {bytes : List ℕ} {items others : List Item} → items ≡ others → IsGivenUpMidway settings r k bytes others → IsGivenUpMidway settings r k bytes items
given_up_as {settings = settings} {r = r} {k = k} {bytes = bytes} same = subst (IsGivenUpMidway settings r k bytes) (sym same)

pub handled_as : {V : Type 0} {T : V → Type 0} {form : FormOf V T} {settings : Settings} {grid : Grid V T} {r : Run} {k : Connection} {bytes : List ℕ} {done others : List Item} {earlier later : List Told} → done ≡ others
    → HasHandledSome form settings grid r k bytes others earlier later → HasHandledSome form settings grid r k bytes done earlier later
handled_as {form = form} {settings = settings} {grid = grid} {r = r} {k = k} {bytes = bytes} {earlier = earlier} {later = later} same = subst (λ items. HasHandledSome form settings grid r k bytes items earlier later) (sym same)

pub told_on : {V : Type 0} {T : V → Type 0} {form : FormOf V T} {settings : Settings} {new : Grid V T} {r : Run} {conn other number : ℕ} {answer : List ℕ} {earlier later : List Told} → conn ≡ other
    → HasTold form settings new r other number answer earlier later → HasTold form settings new r conn number answer earlier later
told_on {form = form} {settings = settings} {new = new} {r = r} {number = number} {answer = answer} {earlier = earlier} {later = later} same = subst (λ n. HasTold form settings new r n number answer earlier later) (sym same)

pub told_with : {V : Type 0} {T : V → Type 0} {form : FormOf V T} {settings : Settings} {new : Grid V T} {r : Run} {conn number : ℕ} {answer other : List ℕ} {earlier later : List Told} → other ≡ answer
    → HasTold form settings new r conn number other earlier later → HasTold form settings new r conn number answer earlier later
told_with {form = form} {settings = settings} {new = new} {r = r} {conn = conn} {number = number} {earlier = earlier} {later = later} same = subst (λ a. HasTold form settings new r conn number a earlier later) same

pub on_ok_then : {A E : Type 0} (result : Result A E) (P Q : Type 0) → (P → Q) → OnOk result P → OnOk result Q
on_ok_then (Ok x) P Q f p = f p
on_ok_then (Err why) P Q f p = tt

-- an answer of its session
pub told_one_more : {V : Type 0} {T : V → Type 0} {form : FormOf V T} {settings : Settings} (grid : Grid V T) (r : Run) (k : Connection) (bytes : List ℕ) (done : List Item) (answer : List ℕ) (rest : List Item) → Brings settings r k bytes (done ++ Reply answer ∷ rest)
    → (earlier mid : List Told) (so_far : HasHandledSome form settings grid r k bytes done earlier mid) (new : Grid V T) (later : List Told)
    → HasTold form settings new so_far.now k.conn (length (messages_on k) + length done) answer mid later → HasHandledSome form settings new r k bytes (done ++ Reply answer ∷ []) earlier later
told_one_more grid r k bytes done answer rest brings earlier mid so_far new later did = record {
  skips = so_far.skips;
  now = told so_far.now k.conn answer;
  midway = told_midway r brings.run k brings.there bytes done answer rest brings.come so_far.skips so_far.now so_far.midway;
  holds = did.holds;
  listeners = did.listeners;
  counting = subst (λ n. IsCounting new.connections (told so_far.now k.conn answer) k.conn n) (number_more grid r k bytes done (Reply answer) rest brings earlier mid so_far) did.counting;
  added = more_added grid r k bytes done (Reply answer) rest brings earlier mid so_far (told so_far.now k.conn answer) 0 later (told_come so_far.now k.conn answer) did.added;
}

-- a registration
pub registered_on : {V : Type 0} {T : V → Type 0} {form : FormOf V T} {settings : Settings} {new : Grid V T} {r : Run} {conn c member m number : ℕ} {registration : Registration} {earlier later : List Told} → conn ≡ c → member ≡ m
    → HasRegistered form settings new r c m number registration earlier later → HasRegistered form settings new r conn member number registration earlier later
registered_on {form = form} {settings = settings} {new = new} {r = r} {c = c} {member = member} {number = number} {registration = registration} {earlier = earlier} {later = later} conns members did =
    subst (λ n. HasRegistered form settings new r n member number registration earlier later) (sym conns) (subst (λ n. HasRegistered form settings new r c n number registration earlier later) (sym members) did)

pub to_as : {r : Run} {conn c member m : ℕ} → c ≡ conn → m ≡ member → IsTo r c m → IsTo r conn member
to_as {r = r} {conn = conn} {c = c} {member = member} {m = m} conns members to = subst (λ n. IsTo r n member) conns (subst (λ n. IsTo r c n) members to)

pub registered_one_more : {V : Type 0} {T : V → Type 0} {form : FormOf V T} {settings : Settings} (grid : Grid V T) (r : Run) (k : Connection) (bytes : List ℕ) (done : List Item) (registration : Registration) (rest : List Item) → Brings settings r k bytes (done ++ Register registration ∷ rest)
    → (earlier mid : List Told) (so_far : HasHandledSome form settings grid r k bytes done earlier mid) (new : Grid V T) (later : List Told)
    → HasRegistered form settings new so_far.now k.conn k.member (length (messages_on k) + length done) registration mid later → HasHandledSome form settings new r k bytes (done ++ Register registration ∷ []) earlier later
registered_one_more {settings = settings} grid r k bytes done registration rest brings earlier mid so_far new later did =
    let o = partition_object settings in
    let next = registers o so_far.now k.conn k.member registration in
    record {
      skips = so_far.skips;
      now = next;
      midway = registered_midway r brings.run k brings.there bytes done registration rest brings.come so_far.skips so_far.now so_far.midway;
      holds = did.holds;
      listeners = did.listeners;
      counting = subst (λ n. IsCounting new.connections next k.conn n) (number_more grid r k bytes done (Register registration) rest brings earlier mid so_far) did.counting;
      added = more_added grid r k bytes done (Register registration) rest brings earlier mid so_far next 0 later (registers_come o so_far.now k.conn k.member registration) did.added;
    }

-- a call, waiting or not

-- It may be handled: its parts fit, its partition and its member are there, it is the next, and there is room for its event.
pub record MayHandleNext {V : Type 0} {T : V → Type 0} (form : FormOf V T) (grid : Grid V T) (member : ℕ) (q : Request) : Type 0 where
  pub fits : CallFits q.call
  pub placed : q.partition < partitions
  pub reached : member < grid.members
  pub stands : (settings : Settings) × (r : Run) × IsBetween form settings grid r (Some q.id.conn) × IsNext r q × HasCallRoom r × AreFew r × IsCounting grid.connections r q.id.conn q.id.number

module _ {V : Type 0} {T : V → Type 0} {form : FormOf V T} {settings : Settings} (grid : Grid V T) (r : Run) (k : Connection) (bytes : List ℕ) (done : List Item) (item : Item) (q : Request)
    (named : IsNumbered (record { conn = k.conn; number = length (messages_on k) + length done }) item ≡ IsNamed (record { conn = k.conn; number = length (messages_on k) + length done }) q)
    (rest : List Item) (brings : Brings settings r k bytes (done ++ item ∷ rest)) (earlier mid : List Told) (so_far : HasHandledSome form settings grid r k bytes done earlier mid) where
  abbrev o : Object Request Partition
  o = partition_object settings

  pub next_call : IsNext so_far.now q
  next_call = next_midway r brings.run k brings.there bytes done item q named rest brings.come so_far.skips so_far.now so_far.midway

  pub next_placed : q.partition < partitions
  next_placed = next_call.placed.within

  pub next_room : HasRoom r k bytes → HasCallRoom so_far.now
  next_room room =
      let come = midway_calls r brings.run k brings.there bytes done so_far.skips so_far.now so_far.midway in
      let line = (midway_come r brings.run k brings.there bytes done so_far.skips so_far.now so_far.midway).lines in
      let items = ap length brings.come in
      let parts = length-append done (item ∷ rest) in
      omega (arith, come, line, items, parts, room)

  pub next_few : AreFew r → AreFew so_far.now
  next_few few = midway_few r brings.run k brings.there bytes done so_far.skips so_far.now so_far.midway few

  name : q.id ≡ record { conn = k.conn; number = length (messages_on k) + length done }
  name = its_name r brings.run k brings.there bytes done item q named rest brings.come so_far.skips so_far.now so_far.midway

  pub next_between : IsBetween form settings grid so_far.now (Some q.id.conn)
  next_between = record {
    run = so_far.midway.run;
    holds = so_far.holds;
    listeners = subst (λ (id : CallId). AreListening grid.listeners.items so_far.now (Some id.conn)) (sym name) so_far.listeners;
  }

  pub next_count : IsCounting grid.connections so_far.now q.id.conn q.id.number
  next_count = subst (λ (id : CallId). IsCounting grid.connections so_far.now id.conn id.number) (sym name) so_far.counting

  -- what it asks for
  pub may_handle : CallFits q.call → HasRoom r k bytes → AreFew r → (member : ℕ) → k.member ≡ member → MayHandleNext form grid member q
  may_handle fits room few member to = record {
    fits = fits;
    placed = next_placed;
    reached = subst (λ m. m < grid.members) to (reached_now grid r k bytes done item rest brings earlier mid so_far);
    stands = (settings, so_far.now, next_between, next_call, next_room room, next_few few, next_count);
  }

  -- It was handled.
  module _ (onward : Onward) (made : (skips : List CallId) → onward skips ≡ handled o skips so_far.now k item) where
    come_by : (skips : List CallId) → HasCome so_far.now (length (calls_in (item ∷ []))) (onward skips)
    come_by skips = subst (HasCome so_far.now (length (calls_in (item ∷ [])))) (sym (made skips)) (handled_come o skips so_far.now k item)

    pub call_one_more : (new : Grid V T) (later : List Told) (did : HasHandledCall form settings new so_far.now q.id.conn (q.id.number + 1) onward mid later)
        → MayAsk (onward did.skips) (with_bytes k bytes) (length (messages_on k) + length done + 1) → HasHandledSome form settings new r k bytes (done ++ item ∷ []) earlier later
    call_one_more new later did may = record {
      skips = so_far.skips ++ did.skips;
      now = onward did.skips;
      midway = item_midway r brings.run k brings.there bytes done item rest brings.come so_far.skips so_far.now so_far.midway did.skips (onward did.skips) (made did.skips) did.between.run did.among may;
      holds = did.between.holds;
      listeners = subst (λ (id : CallId). AreListening new.listeners.items (onward did.skips) (Some id.conn)) name did.between.listeners;
      counting =
          subst (λ n. IsCounting new.connections (onward did.skips) k.conn n) (number_more grid r k bytes done item rest brings earlier mid so_far)
          (subst (λ (id : CallId). IsCounting new.connections (onward did.skips) id.conn (id.number + 1)) name did.counting);
      added = more_added grid r k bytes done item rest brings earlier mid so_far (onward did.skips) (length (calls_in (item ∷ []))) later (come_by did.skips) did.added;
    }

    -- The run is given up at it.
    pub call_given_up : (up : GivesUpSo so_far.now onward) → IsRun o (onward up.skips) → IsGivenUpMidway settings r k bytes (done ++ item ∷ rest)
    call_given_up up run = record {
      skips = so_far.skips ++ up.skips;
      own = own_midway r brings.run k brings.there bytes done item rest brings.come so_far.skips so_far.now so_far.midway up.skips (onward up.skips) (made up.skips) run up.own;
      full = full_midway r brings.run k brings.there bytes done item rest brings.come so_far.skips so_far.now so_far.midway up.skips (onward up.skips) (made up.skips) run up.own up.full;
    }

-- a call that is made at once
module _ {V : Type 0} {T : V → Type 0} {form : FormOf V T} {settings : Settings} (grid : Grid V T) (r : Run) (k : Connection) (bytes : List ℕ) (done : List Item) (q : Request) (rest : List Item) (brings : Brings settings r k bytes (done ++ Asks q ∷ rest))
    (earlier mid : List Told) (so_far : HasHandledSome form settings grid r k bytes done earlier mid) (member : ℕ) (to : k.member ≡ member) where
  asked_so : (skips : List CallId) → by_call settings so_far.now member q skips ≡ handled (partition_object settings) skips so_far.now k (Asks q)
  asked_so skips = ap (λ m. calls (partition_object settings) skips so_far.now m q) (sym to)

  pub may_ask : HasRoom r k bytes → AreFew r → MayHandleNext form grid member q
  may_ask room few =
      may_handle grid r k bytes done (Asks q) q refl rest brings earlier mid so_far (brings.fit q (contains_in (Asks q) (done ++ Asks q ∷ rest) (in_right (Asks q) done (Asks q ∷ rest) (inl refl)))) room few member to

  pub asked_one_more : (new : Grid V T) (later : List Told) → HasHandledCall form settings new so_far.now q.id.conn (q.id.number + 1) (by_call settings so_far.now member q) mid later → HasHandledSome form settings new r k bytes (done ++ Asks q ∷ []) earlier later
  asked_one_more new later did =
      call_one_more grid r k bytes done (Asks q) q refl rest brings earlier mid so_far (by_call settings so_far.now member q) asked_so new later did
      (may_calls so_far.now (with_bytes k bytes) (length (messages_on k) + length done) q so_far.midway.may (name grid r k bytes done (Asks q) q refl rest brings earlier mid so_far) (partition_object settings) did.skips member)

  pub asked_full : GivesUpSo so_far.now (by_call settings so_far.now member q) → IsGivenUpMidway settings r k bytes (done ++ Asks q ∷ rest)
  asked_full up =
      call_given_up grid r k bytes done (Asks q) q refl rest brings earlier mid so_far (by_call settings so_far.now member q) asked_so up
      (calls_run up.skips so_far.now member q so_far.midway.run (next_call grid r k bytes done (Asks q) q refl rest brings earlier mid so_far))

-- and one that waits, so long as the code has it
module _ {V : Type 0} {T : V → Type 0} {form : FormOf V T} {settings : Settings} (grid : Grid V T) (r : Run) (k : Connection) (bytes : List ℕ) (done : List Item) (q : Request) (timeout : ℤ) (rest : List Item) (brings : Brings settings r k bytes (done ++ Wait q timeout ∷ rest))
    (earlier mid : List Told) (so_far : HasHandledSome form settings grid r k bytes done earlier mid) (member : ℕ) (to : k.member ≡ member) (span : ℤ) (as_long : span ≡ timeout) where
  waited_so : (skips : List CallId) → by_waiting settings so_far.now member q span skips ≡ handled (partition_object settings) skips so_far.now k (Wait q timeout)
  waited_so skips = λ i. begins_to_wait (partition_object settings) skips so_far.now (sym to i) q (as_long i)

  pub may_wait_next : HasRoom r k bytes → AreFew r → MayHandleNext form grid member q
  may_wait_next room few =
      may_handle grid r k bytes done (Wait q timeout) q refl rest brings earlier mid so_far
      (brings.waits_fit q timeout (contains_in (Wait q timeout) (done ++ Wait q timeout ∷ rest) (in_right (Wait q timeout) done (Wait q timeout ∷ rest) (inl refl)))) room few member to

  pub waited_one_more : (new : Grid V T) (later : List Told) → HasHandledCall form settings new so_far.now q.id.conn (q.id.number + 1) (by_waiting settings so_far.now member q span) mid later → HasHandledSome form settings new r k bytes (done ++ Wait q timeout ∷ []) earlier later
  waited_one_more new later did =
      call_one_more grid r k bytes done (Wait q timeout) q refl rest brings earlier mid so_far (by_waiting settings so_far.now member q span) waited_so new later did
      (may_begin so_far.now (with_bytes k bytes) (length (messages_on k) + length done) q so_far.midway.may (name grid r k bytes done (Wait q timeout) q refl rest brings earlier mid so_far) (partition_object settings) did.skips member span)

  pub waited_full : GivesUpSo so_far.now (by_waiting settings so_far.now member q span) → IsGivenUpMidway settings r k bytes (done ++ Wait q timeout ∷ rest)
  waited_full up =
      call_given_up grid r k bytes done (Wait q timeout) q refl rest brings earlier mid so_far (by_waiting settings so_far.now member q span) waited_so up
      (begins_run up.skips so_far.now member q span so_far.midway.run (next_call grid r k bytes done (Wait q timeout) q refl rest brings earlier mid so_far))
