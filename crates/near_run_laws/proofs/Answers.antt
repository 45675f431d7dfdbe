-- The answers that are released are those of the calls of their names in the log.
use Rattle.std.proofs.Common.{◌≡◌, ℕ, Bool, true, false, cond, List, [], ◌∷◌, ◌++◌, map, reverse, Option, Some, None, option_map, refl, ap, sym, ◌∙◌, inl, inr}
use Rattle.std.specs.List.{find, filter_map, flat_map, cons_option}
use Rattle.std.specs.Option.{option_and_then}
use Rattle.std.proofs.lemmas.List.{reverse-append}
use Rattle.grid_base.specs.Objects.{Object}
use Rattle.grid_base.specs.declared.names.CallId.{CallId}
use Rattle.grid_base.specs.declared.calls.Change.{Change}
use Rattle.partition_protocol.specs.Node.{Held}
use Rattle.partition_protocol.specs.History.{Executed, Entry, Called, Reset}
use Rattle.partition_protocol.specs.World.{World}
use Rattle.partition_protocol.specs.Answers.{answered_call}
use Rattle.partition_protocol.proofs.Lists.{In}
use Rattle.partition_protocol.proofs.RowFacts.{false_or_not}
use Rattle.partition_protocol.proofs.Answers.{map_append}
use Rattle.partition_world.specs.Answers.{is_call, executed_in, newest_call, answer_of, held_answer}
use Rattle.partition_world.proofs.HeldAnswers.{in_reverse}
use Rattle.near_protocol.specs.Near.{is_same_name, name_of, called_in}
use Rattle.near_protocol.proofs.Orders.{IsOnce, not_again}
use Rattle.near_protocol.proofs.Saying.{same_name}

-- lists

abbrev pub listed : {X : Type 0} → Option X → List X
listed None = []
listed (Some x) = x ∷ []

abbrev pub first_or : {X : Type 0} → Option X → Option X → Option X
first_or None y = y
first_or (Some x) y = Some x

find_last : {X : Type 0} (p : X → Bool) (xs : List X) (y : X) → find p (xs ++ y ∷ []) ≡ first_or (find p xs) (cond (p y) (Some y) None)
find_last p [] y = refl
find_last p (x ∷ xs) y = go (p x) (find_last p xs y)
  where
    go : (b : Bool) → find p (xs ++ y ∷ []) ≡ first_or (find p xs) (cond (p y) (Some y) None) → cond b (Some x) (find p (xs ++ y ∷ [])) ≡ first_or (cond b (Some x) (find p xs)) (cond (p y) (Some y) None)
    go true ih = refl
    go false ih = ih

find_none : {X : Type 0} (p : X → Bool) (xs : List X) → ((x : X) → In x xs → p x ≡ false) → find p xs ≡ None
find_none p [] f = refl
find_none p (x ∷ xs) f = ap (λ b. cond b (Some x) (find p xs)) (f x (inl refl)) ∙ find_none p xs (λ y i. f y (inr i))

pub flat_map_map : {X Y Z : Type 0} (f : Y → List Z) (g : X → Y) (xs : List X) → flat_map f (map g xs) ≡ flat_map (λ x. f (g x)) xs
flat_map_map f g [] = refl
flat_map_map f g (x ∷ xs) = ap (λ ys. f (g x) ++ ys) (flat_map_map f g xs)

-- the newest call of a name

abbrev pub id_held : Held → CallId
id_held h = record { conn = h.conn; number = h.number }

newest_more : {C : Type 0} (id : CallId) (e : Entry C) (log : List (Entry C)) → newest_call id (e ∷ log) ≡ option_and_then executed_in (first_or (find (is_call id) (reverse log)) (cond (is_call id e) (Some e) None))
newest_more id e log = ap (option_and_then executed_in) (ap (find (is_call id)) (reverse-append (e ∷ []) log) ∙ find_last (is_call id) (reverse log) e)

or_none : {C : Type 0} (x : Option (Entry C)) → first_or x None ≡ x
or_none None = refl
or_none (Some x) = refl

-- is the one in the log
pub newest_is : {C : Type 0} (h : Held) (log : List (Entry C)) → IsOnce log → listed (newest_call (id_held h) log) ≡ flat_map (called_in h) log
newest_is h [] once = refl
newest_is {C} h (Reset r ∷ log) once = ap listed (newest_more (id_held h) (Reset r) log ∙ ap (option_and_then executed_in) (or_none (find (is_call (id_held h)) (reverse log)))) ∙ newest_is h log once
newest_is {C} h (Called x ∷ log) once = go (is_same_name (name_of x) (answered_call h)) refl (newest_is h log once.1)
  where
    found : Option (Entry C)
    found = find (is_call (id_held h)) (reverse log)

    none_else : name_of x ≡ answered_call h → find (is_call (id_held h)) (reverse log) ≡ None
    none_else n = find_none (is_call (id_held h)) (reverse log) (λ z i. other z (in_reverse z log i))
      where
        other : (z : Entry C) → In z log → is_call (id_held h) z ≡ false
        other (Reset r) i = refl
        other (Called y) i = false_or_not (is_same_name (name_of y) (answered_call h)) (λ t. absurd (not_again log x y once i (n ∙ sym (same_name (name_of y) (answered_call h) t))))

    go : (b : Bool) → is_same_name (name_of x) (answered_call h) ≡ b → listed (newest_call (id_held h) log) ≡ flat_map (called_in h) log
        → listed (newest_call (id_held h) (Called x ∷ log)) ≡ cond b (x ∷ []) [] ++ flat_map (called_in h) log
    go true t ih =
        let none : find (is_call (id_held h)) (reverse log) ≡ None = none_else (same_name (name_of x) (answered_call h) t) in
        ap listed (newest_more (id_held h) (Called x) log)
        ∙ ap (λ b. listed (option_and_then executed_in (first_or (find (is_call (id_held h)) (reverse log)) (cond b (Some (Called x)) None)))) t
        ∙ ap (λ f. listed (option_and_then executed_in (first_or f (Some (Called x))))) none
        ∙ ap (λ ys. x ∷ ys) (ap (λ f. listed (option_and_then executed_in f)) (sym none) ∙ ih)
    go false t ih =
        ap listed (newest_more (id_held h) (Called x) log)
        ∙ ap (λ b. listed (option_and_then executed_in (first_or (find (is_call (id_held h)) (reverse log)) (cond b (Some (Called x)) None)))) t
        ∙ ap (λ f. listed (option_and_then executed_in f)) (or_none (find (is_call (id_held h)) (reverse log)))
        ∙ ih

pub answers_listed : {C State : Type 0} (o : Object C State) (change_of : State → C → ℕ → Option Change) (u : World C) (hs : List Held) → IsOnce u.recorded.log
    → filter_map (held_answer o change_of u) hs ≡ map (answer_of o change_of u) (flat_map (λ (h : Held). flat_map (called_in h) u.recorded.log) hs)
answers_listed o change_of u [] once = refl
answers_listed {C} o change_of u (h ∷ hs) once =
    go (newest_call (id_held h) u.recorded.log) refl (answers_listed o change_of u hs once)
    ∙ sym (map_append (answer_of o change_of u) (flat_map (called_in h) u.recorded.log) (flat_map (λ (k : Held). flat_map (called_in k) u.recorded.log) hs))
  where
    rest : List (Executed C)
    rest = flat_map (λ (k : Held). flat_map (called_in k) u.recorded.log) hs

    by : (x : Option (Executed C)) → cons_option (option_map (answer_of o change_of u) x) (map (answer_of o change_of u) rest) ≡ map (answer_of o change_of u) (listed x) ++ map (answer_of o change_of u) rest
    by None = refl
    by (Some x) = refl

    go : (x : Option (Executed C)) → newest_call (id_held h) u.recorded.log ≡ x → filter_map (held_answer o change_of u) hs ≡ map (answer_of o change_of u) rest
        → cons_option (held_answer o change_of u h) (filter_map (held_answer o change_of u) hs) ≡ map (answer_of o change_of u) (flat_map (called_in h) u.recorded.log) ++ map (answer_of o change_of u) rest
    go x e ih =
        ap (cons_option (held_answer o change_of u h)) ih
        ∙ by (newest_call (id_held h) u.recorded.log)
        ∙ ap (λ xs. map (answer_of o change_of u) xs ++ map (answer_of o change_of u) rest) (newest_is h u.recorded.log once)
