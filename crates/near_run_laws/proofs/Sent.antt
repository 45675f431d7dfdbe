-- What is sent to one connection, of what is sent to all who listen.
use Rattle.std.proofs.Common.{◌≡◌, ◌≢◌, ℕ, Bool, true, false, cond, ◌&&◌, ◌||◌, ◌==◌, bytes_eq, List, [], ◌∷◌, ◌++◌, map, filter, fold, nat_lt, Option, Some, None, option_map, refl, ap, sym, ◌∙◌, le_refl, inl, inr}
use Rattle.std.specs.List.{filter_map, flat_map, cons_option}
use Rattle.std.proofs.lemmas.List.Elements.{filter-append}
use Rattle.grid_base.specs.declared.calls.Change.{Change}
use Rattle.frame_codec.specs.Laws.{spelled}
use Rattle.partition_table.specs.declared.Row.{Row}
use Rattle.partition_protocol.proofs.Lists.{In}
use Rattle.partition_protocol.proofs.RowFacts.{number_same, number_other, is_not_less}
use Rattle.partition_protocol.proofs.Answers.{map_append}
use Rattle.primary_hold.specs.declared.answer.CallAnswer.{CallAnswer}
use Rattle.event_codecs.specs.Writing.{invalidation_frames, rows_frames}
use Rattle.event_codecs.specs.declared.registration.Registration.{Registration}
use Rattle.event_codecs.specs.declared.registration.Registration.TheVariants as registration
use Rattle.listeners.specs.Standing.{placed, is_about, is_about_rows}
use Rattle.listeners.specs.Tables.{AreInOrder}
use Rattle.listeners.specs.Telling.{told, change_event, row_event}
use Rattle.listeners.specs.declared.listener.Listener.{Listener}
use Rattle.listeners.proofs.Placing.{order-placed, filter-placed, filter-placed_other}
use Rattle.request_codecs.specs.Openings.{invalidations_correlation, rows_correlation}
use Rattle.near_protocol.specs.Client.{Said}
use Rattle.replay_run.specs.Runs.{Run, Appended, is_open, hears, is_own, is_to as goes_to, listens_at, placed_in, listening, event_to, events_to}
use Rattle.near_run_laws.specs.Messages.{is_to, sent_to, near_listeners, AreSaidBy}
use Rattle.near_run_laws.specs.NearConnections.{is_of, IsNear}

-- ---- lists

-- of those that pass one test, the ones that pass another, in either order
filter_swap : {X : Type 0} (p q : X → Bool) (xs : List X) → filter p (filter q xs) ≡ filter q (filter p xs)
filter_swap p q [] = refl
filter_swap {X} p q (x ∷ xs) = go (p x) (q x) refl refl (filter_swap p q xs)
  where
    go : (a b : Bool) → p x ≡ a → q x ≡ b → filter p (filter q xs) ≡ filter q (filter p xs) → filter p (cond b (x ∷ filter q xs) (filter q xs)) ≡ filter q (cond a (x ∷ filter p xs) (filter p xs))
    go true true e f ih = ap (λ t. cond t (x ∷ filter p (filter q xs)) (filter p (filter q xs))) e ∙ ap (λ ys. x ∷ ys) ih ∙ sym (ap (λ t. cond t (x ∷ filter q (filter p xs)) (filter q (filter p xs))) f)
    go true false e f ih = ih ∙ sym (ap (λ t. cond t (x ∷ filter q (filter p xs)) (filter q (filter p xs))) f)
    go false true e f ih = ap (λ t. cond t (x ∷ filter p (filter q xs)) (filter p (filter q xs))) e ∙ ih
    go false false e f ih = ih

-- ---- messages to a connection

pub sent_to-append : (c : ℕ) (xs ys : List Appended) → sent_to c (xs ++ ys) ≡ sent_to c xs ++ sent_to c ys
sent_to-append c xs ys = ap (map (λ (m : Appended). m.bytes)) (filter-append (is_to c) xs ys) ∙ map_append (λ (m : Appended). m.bytes) (filter (is_to c) xs) (filter (is_to c) ys)

pub sent_to-flat_map : {X : Type 0} (c : ℕ) (f : X → List Appended) (xs : List X) → sent_to c (flat_map f xs) ≡ flat_map (λ x. sent_to c (f x)) xs
sent_to-flat_map c f [] = refl
sent_to-flat_map c f (x ∷ xs) = sent_to-append c (f x) (flat_map f xs) ∙ ap (λ ys. sent_to c (f x) ++ ys) (sent_to-flat_map c f xs)

-- what each listener's event is
abbrev pub events_for : (Registration → Option (List ℕ)) → List Listener → List (List ℕ)
events_for event xs = filter_map (λ (x : Listener). event x.registration) xs

-- those on the connection are sent theirs, and no more
pub sent_to-told : (c line : ℕ) (event : Registration → Option (List ℕ)) (xs : List Listener) → sent_to c (events_to line (told event xs)) ≡ events_for event (filter (is_of c) xs)
sent_to-told c line event [] = refl
sent_to-told c line event (x ∷ xs) = go (event x.registration) (x.conn == c) refl refl (sent_to-told c line event xs)
  where
    go : (o : Option (List ℕ)) (b : Bool) → event x.registration ≡ o → (x.conn == c) ≡ b → sent_to c (events_to line (told event xs)) ≡ events_for event (filter (is_of c) xs)
        → sent_to c (events_to line (cons_option (option_map (λ bytes. (x.conn, bytes)) o) (told event xs))) ≡ events_for event (cond b (x ∷ filter (is_of c) xs) (filter (is_of c) xs))
    go None true e t ih = ih ∙ sym (ap (λ z. cons_option z (events_for event (filter (is_of c) xs))) e)
    go None false e t ih = ih
    go (Some bytes) true e t ih = ap (λ b. map (λ (m : Appended). m.bytes) (cond b (event_to line (x.conn, bytes) ∷ filter (is_to c) (events_to line (told event xs))) (filter (is_to c) (events_to line (told event xs))))) t
        ∙ ap (λ ys. bytes ∷ ys) ih ∙ sym (ap (λ z. cons_option z (events_for event (filter (is_of c) xs))) e)
    go (Some bytes) false e t ih = ap (λ b. map (λ (m : Appended). m.bytes) (cond b (event_to line (x.conn, bytes) ∷ filter (is_to c) (events_to line (told event xs))) (filter (is_to c) (events_to line (told event xs))))) t ∙ ih

-- ---- who listens on the connection

filter_order : (p : Listener → Bool) (all xs : List Listener) → AreInOrder all → filter p (fold placed_in all xs) ≡ fold placed_in (filter p all) (filter p xs)
filter_order p all [] order = refl
filter_order p all (x ∷ xs) order = filter_order p (placed x all) xs (order-placed x all order) ∙ go (p x) refl
  where
    go : (b : Bool) → p x ≡ b → fold placed_in (filter p (placed x all)) (filter p xs) ≡ fold placed_in (filter p all) (cond b (x ∷ filter p xs) (filter p xs))
    go true e = ap (λ ys. fold placed_in ys (filter p xs)) (filter-placed p x all order e)
    go false e = ap (λ ys. fold placed_in ys (filter p xs)) (filter-placed_other p x all e)

module _ (r : Run) (own : Option ℕ) (c m : ℕ) (name : List ℕ) (near : IsNear r c m name) where
  pub on_it : (k : ℕ) → filter (is_of c) (listening r own k) ≡ fold placed_in [] (filter (listens_at r own k) (near_listeners c name))
  on_it k =
      filter_order (is_of c) [] (filter (listens_at r own k) r.registered) tt
      ∙ ap (fold placed_in []) (filter_swap (is_of c) (listens_at r own k) r.registered ∙ ap (filter (listens_at r own k)) near.listens)

  -- the connection is sent what comes
  pub it_hears : hears r own c ≡ true
  it_hears = ap (λ b. is_own own c || b) (ap is_open near.there ∙ near.opened) ∙ or_true (is_own own c)
    where
      or_true : (b : Bool) → (b || true) ≡ true
      or_true true = refl
      or_true false = refl

  listens_as : (k : ℕ) (g : Registration) → listens_at r own k (record { conn = c; registration = g }) ≡ (near.connection.member == k)
  listens_as k g = ap (λ f. goes_to k f && hears r own c) near.there ∙ ap (λ b. (near.connection.member == k) && b) it_hears ∙ and_true (near.connection.member == k)
    where
      and_true : (b : Bool) → (b && true) ≡ b
      and_true true = refl
      and_true false = refl

  -- at its member it listens
  pub listens_here : filter (is_of c) (listening r own m) ≡ near_listeners c name
  listens_here =
      let yes : (near.connection.member == m) ≡ true = number_same near.connection.member m near.member in
      let first : listens_at r own m (record { conn = c; registration = registration.Invalidations invalidations_correlation name }) ≡ true = listens_as m (registration.Invalidations invalidations_correlation name) ∙ yes in
      let order : nat_lt c c ≡ false = is_not_less c c (le_refl c) in
      on_it m ∙ rw first (rw order refl)

  -- and at no other
  pub listens_nowhere : (k : ℕ) → k ≢ m → filter (is_of c) (listening r own k) ≡ []
  listens_nowhere k apart =
      let none : (near.connection.member == k) ≡ false = number_other near.connection.member k (λ e. apart (sym e ∙ near.member)) in
      let first : listens_at r own k (record { conn = c; registration = registration.Invalidations invalidations_correlation name }) ≡ false = listens_as k (registration.Invalidations invalidations_correlation name) ∙ none in
      on_it k ∙ rw first refl

-- ---- what a near client's listeners are sent

-- of those who listen, of whom these are on the connection
pub rows_sent : (c line : ℕ) (rows : List (ℕ × Row)) (all : List Listener) (name : List ℕ) → filter (is_of c) all ≡ near_listeners c name
    → sent_to c (events_to line (told (row_event rows) (filter is_about_rows all))) ≡ spelled (rows_frames rows_correlation rows) ∷ []
rows_sent c line rows all name is = sent_to-told c line (row_event rows) (filter is_about_rows all) ∙ ap (events_for (row_event rows)) (filter_swap (is_of c) is_about_rows all ∙ ap (filter is_about_rows) is)

pub no_rows_sent : (c line : ℕ) (rows : List (ℕ × Row)) (all : List Listener) → filter (is_of c) all ≡ [] → sent_to c (events_to line (told (row_event rows) (filter is_about_rows all))) ≡ []
no_rows_sent c line rows all is = sent_to-told c line (row_event rows) (filter is_about_rows all) ∙ ap (events_for (row_event rows)) (filter_swap (is_of c) is_about_rows all ∙ ap (filter is_about_rows) is)

pub change_sent : (c line p : ℕ) (answer : CallAnswer) (change : Change) (all : List Listener) (name : List ℕ) → filter (is_of c) all ≡ near_listeners c name
    → sent_to c (events_to line (told (change_event p answer change) (filter (is_about change.name) all)))
    ≡ cond (bytes_eq name change.name) (spelled (invalidation_frames invalidations_correlation p answer.version answer.seen change.name change.key) ∷ []) []
change_sent c line p answer change all name is =
    sent_to-told c line (change_event p answer change) (filter (is_about change.name) all)
    ∙ ap (events_for (change_event p answer change)) (filter_swap (is_of c) (is_about change.name) all ∙ ap (filter (is_about change.name)) is)
    ∙ go (bytes_eq name change.name)
  where
    go : (b : Bool) → events_for (change_event p answer change) (cond b (record { conn = c; registration = registration.Invalidations invalidations_correlation name } ∷ []) [])
        ≡ cond b (spelled (invalidation_frames invalidations_correlation p answer.version answer.seen change.name change.key) ∷ []) []
    go true = refl
    go false = refl

pub no_change_sent : (c line p : ℕ) (answer : CallAnswer) (change : Change) (all : List Listener) → filter (is_of c) all ≡ []
    → sent_to c (events_to line (told (change_event p answer change) (filter (is_about change.name) all))) ≡ []
no_change_sent c line p answer change all is =
    sent_to-told c line (change_event p answer change) (filter (is_about change.name) all)
    ∙ ap (events_for (change_event p answer change)) (filter_swap (is_of c) (is_about change.name) all ∙ ap (filter (is_about change.name)) is)

-- ---- message by message

pub said-append : (P : List ℕ → Said (List ℕ) → Type 0) (a b : List (List ℕ)) (x y : List (Said (List ℕ))) → AreSaidBy P a x → AreSaidBy P b y → AreSaidBy P (a ++ b) (x ++ y)
said-append P [] b [] y h k = k
said-append P [] b (s ∷ x) y h k = absurd h
said-append P (m ∷ a) b [] y h k = absurd h
said-append P (m ∷ a) b (s ∷ x) y h k = (h.0, said-append P a b x y h.1 k)

pub said-flat_map : {X : Type 0} (P : List ℕ → Said (List ℕ) → Type 0) (f : X → List (List ℕ)) (h : X → List (Said (List ℕ))) (xs : List X) → ((x : X) → In x xs → AreSaidBy P (f x) (h x)) → AreSaidBy P (flat_map f xs) (flat_map h xs)
said-flat_map P f h [] each = tt
said-flat_map P f h (x ∷ xs) each = said-append P (f x) (flat_map f xs) (h x) (flat_map h xs) (each x (inl refl)) (said-flat_map P f h xs (λ y i. each y (inr i)))
