-- The order in which those who listen are told.
use Rattle.std.proofs.Common.{◌≡◌, ℕ, ◌≤◌, Bool, true, false, not, cond, ◌==◌, List, [], ◌∷◌, ◌++◌, filter, Option, Some, None, option_map, ap, sym, ◌∙◌, refl, arith}
use Rattle.std.specs.List.{AllByRecursion, cons_option}
use Rattle.std.proofs.lemmas.Bool.{eqb-true, eqb-false, ne_eqb, le-ltb}
use Rattle.grid_base.specs.declared.calls.Change.{Change}
use Rattle.primary_hold.specs.declared.answer.CallAnswer.{CallAnswer}
use Rattle.listeners.specs.Standing.{placed, without}
use Rattle.listeners.specs.Telling.{Sent, told, events_of, change_events, change_event, row_event}
use Rattle.listeners.specs.Tables.{AreInOrder}
use Rattle.listeners.specs.Steps.{Step, Registered, Closed, after, registered, GoInOrder, EveryConnectionKeepsItsOrder, EveryEventGoesInOrder}
use Rattle.listeners.specs.declared.listener.Listener.{Listener}
use Rattle.event_codecs.specs.declared.registration.Registration.{Registration}
use Rattle.listeners.proofs.Placing.{is_later, order-filter, order-placed, filter-placed, filter-placed_other}

abbrev is_of : ℕ → Listener → Bool
is_of conn listener = listener.conn == conn

-- a listener comes last of its own connection's

abbrev AreNotLater : Listener → List Listener → Type 0
AreNotLater new xs = AllByRecursion (λ (o : Listener). is_later new o ≡ false) xs

last-placed : (new : Listener) (xs : List Listener) → AreNotLater new xs → placed new xs ≡ xs ++ new ∷ []
last-placed new [] all = refl
last-placed new (x ∷ xs) all =
    let e : is_later new x ≡ false = all.0 in
    ap (λ b. cond b (new ∷ x ∷ xs) (x ∷ placed new xs)) e ∙ ap (λ l. x ∷ l) (last-placed new xs all.1)

of_conn : (conn : ℕ) (new : Listener) → new.conn ≡ conn → (xs : List Listener) → AreNotLater new (filter (is_of conn) xs)
of_conn conn new e [] = tt
of_conn conn new e (x ∷ xs) = by (x.conn == conn) refl (of_conn conn new e xs)
  where
    by : (b : Bool) → (x.conn == conn) ≡ b → AreNotLater new (filter (is_of conn) xs) → AreNotLater new (cond b (x ∷ filter (is_of conn) xs) (filter (is_of conn) xs))
    by true t ih =
        let same : x.conn ≡ conn = eqb-true x.conn conn t in
        let least : x.conn ≤ new.conn = omega (arith, same, e) in
        (le-ltb new.conn x.conn least, ih)
    by false t ih = ih

of-placed : (conn : ℕ) (new : Listener) (all : List Listener) → AreInOrder all
    → filter (is_of conn) (placed new all) ≡ cond (new.conn == conn) (filter (is_of conn) all ++ new ∷ []) (filter (is_of conn) all)
of-placed conn new all order = by (new.conn == conn) refl
  where
    by : (b : Bool) → (new.conn == conn) ≡ b → filter (is_of conn) (placed new all) ≡ cond b (filter (is_of conn) all ++ new ∷ []) (filter (is_of conn) all)
    by true t = filter-placed (is_of conn) new all order t ∙ last-placed new (filter (is_of conn) all) (of_conn conn new (eqb-true new.conn conn t) all)
    by false t = filter-placed_other (is_of conn) new all t

-- a connection that is closed has none left, and another one keeps its own

none-without : (conn : ℕ) (all : List Listener) → filter (is_of conn) (without conn all) ≡ []
none-without conn [] = refl
none-without conn (x ∷ xs) = by (x.conn == conn) refl (none-without conn xs)
  where
    by : (b : Bool) → (x.conn == conn) ≡ b → filter (is_of conn) (without conn xs) ≡ [] → filter (is_of conn) (cond (not b) (x ∷ without conn xs) (without conn xs)) ≡ []
    by true t ih = ih
    by false t ih = ap (λ b. cond b (x ∷ filter (is_of conn) (without conn xs)) (filter (is_of conn) (without conn xs))) t ∙ ih

others-without : (conn closed : ℕ) → (closed ≡ conn → ⊥) → (all : List Listener) → filter (is_of conn) (without closed all) ≡ filter (is_of conn) all
others-without conn closed apart [] = refl
others-without conn closed apart (x ∷ xs) = by (x.conn == closed) refl (others-without conn closed apart xs)
  where
    by : (b : Bool) → (x.conn == closed) ≡ b → filter (is_of conn) (without closed xs) ≡ filter (is_of conn) xs
        → filter (is_of conn) (cond (not b) (x ∷ without closed xs) (without closed xs)) ≡ filter (is_of conn) (x ∷ xs)
    by true t ih =
        let here : x.conn ≡ closed = eqb-true x.conn closed t in
        let other : (x.conn == conn) ≡ false = ne_eqb x.conn conn (λ e. apart (sym here ∙ e)) in
        ih ∙ sym (ap (λ b. cond b (x ∷ filter (is_of conn) xs) (filter (is_of conn) xs)) other)
    by false t ih = ap (λ l. cond (x.conn == conn) (x ∷ l) l) ih

of-without : (conn closed : ℕ) (all : List Listener) → filter (is_of conn) (without closed all) ≡ cond (closed == conn) [] (filter (is_of conn) all)
of-without conn closed all = by (closed == conn) refl
  where
    by : (b : Bool) → (closed == conn) ≡ b → filter (is_of conn) (without closed all) ≡ cond b [] (filter (is_of conn) all)
    by true t = ap (λ n. filter (is_of conn) (without n all)) (eqb-true closed conn t) ∙ none-without conn all
    by false t = others-without conn closed (eqb-false closed conn t) all

-- The order stays through all steps.
order-after : (all : List Listener) (steps : List Step) → AreInOrder all → AreInOrder (after all steps)
order-after all [] order = order
order-after all (Registered listener ∷ steps) order = order-after (placed listener all) steps (order-placed listener all order)
order-after all (Closed conn ∷ steps) order = order-after (without conn all) steps (order-filter _ all order)

of-after : (conn : ℕ) (all : List Listener) (steps : List Step) → AreInOrder all → filter (is_of conn) (after all steps) ≡ registered conn (filter (is_of conn) all) steps
of-after conn all [] order = refl
of-after conn all (Registered listener ∷ steps) order =
    of-after conn (placed listener all) steps (order-placed listener all order) ∙ ap (λ before. registered conn before steps) (of-placed conn listener all order)
of-after conn all (Closed closed ∷ steps) order =
    of-after conn (without closed all) steps (order-filter _ all order) ∙ ap (λ before. registered conn before steps) (of-without conn closed all)

pub every_connection_keeps_its_order : EveryConnectionKeepsItsOrder
every_connection_keeps_its_order steps conn = of-after conn [] steps tt

-- what is sent goes in the listeners' order

sent_later : (f : Registration → Option (List ℕ)) (conn : ℕ) (xs : List Listener) → AllByRecursion (λ (o : Listener). conn ≤ o.conn) xs → AllByRecursion (λ (o : Sent). conn ≤ o.0) (told f xs)
sent_later f conn [] all = tt
sent_later f conn (x ∷ xs) all = by (f x.registration) (sent_later f conn xs all.1)
  where
    by : (o : Option (List ℕ)) → AllByRecursion (λ (o : Sent). conn ≤ o.0) (told f xs) → AllByRecursion (λ (o : Sent). conn ≤ o.0) (cons_option (option_map (λ bytes. (x.conn, bytes)) o) (told f xs))
    by None ih = ih
    by (Some bytes) ih = (all.0, ih)

told_in_order : (f : Registration → Option (List ℕ)) (xs : List Listener) → AreInOrder xs → GoInOrder (told f xs)
told_in_order f [] order = tt
told_in_order f (x ∷ xs) order = by (f x.registration) (told_in_order f xs order.1)
  where
    by : (o : Option (List ℕ)) → GoInOrder (told f xs) → GoInOrder (cons_option (option_map (λ bytes. (x.conn, bytes)) o) (told f xs))
    by None ih = ih
    by (Some bytes) ih = (sent_later f x.conn xs order.0, ih)

events_in_order : (partition : ℕ) (answer : CallAnswer) (all : List Listener) → AreInOrder all → GoInOrder (events_of partition answer all)
events_in_order partition answer all order = by answer.change
  where
    by : (change : Option Change) → GoInOrder (change_events partition answer change all)
    by None = tt
    by (Some change) = told_in_order (change_event partition answer change) _ (order-filter _ all order)

pub every_event_goes_in_order : EveryEventGoesInOrder
every_event_goes_in_order steps partition answer rows =
    let order = order-after [] steps tt in
    (events_in_order partition answer (after [] steps) order, told_in_order (row_event rows) _ (order-filter _ (after [] steps) order))
