-- The calls of a log and of a trail, and what is printed of each.
use Rattle.std.proofs.Common.{◌≡◌, ℕ, ◌+◌, Bool, true, false, List, [], ◌∷◌, ◌++◌, map, drop, reverse, Option, Some, None, refl, ap, sym, ◌∙◌, subst, ◌⊎◌, ⊎_elim, inl, inr}
use Rattle.std.proofs.lemmas.Grind.{reverse_onto}
use Rattle.std.specs.List.{find}
use Rattle.std.specs.Option.{option_and_then}
use Rattle.grid_base.specs.declared.names.CallId.{CallId}
use Rattle.grid_base.specs.declared.calls.Request.{Request}
use Rattle.partition_protocol.specs.History.{Entry, Executed, Called, Reset}
use Rattle.partition_protocol.specs.Arrivals.{Asked, CallName, name, calls_in}
use Rattle.partition_protocol.proofs.Lists.{In, in_cases, in_contains, contains_in, IsPart, cases}
use Rattle.partition_world.specs.Answers.{id_of, is_call, executed_in, newest_call}
use Rattle.replay_run.specs.Runs.{Run}
use Rattle.replay_run.specs.Printing.{PrintedCall, Call, printed, printed_from}
use Rattle.replay_run.specs.Linearizability.{Before}
use Rattle.replay_run.proofs.Places.{same_call}

-- the calls of a history
abbrev pub executed : {C : Type 0} → List (Entry C) → List (Executed C)
executed [] = []
executed (Called x ∷ es) = x ∷ executed es
executed (Reset version ∷ es) = executed es

-- a call as it arrived
abbrev pub asked : {C : Type 0} → Executed C → Asked C
asked x = record { conn = x.conn; number = x.number; now = x.now; call = x.call }

abbrev pub executed_name : {C : Type 0} → Executed C → CallName
executed_name x = name (asked x)

pub calls_executed : {C : Type 0} (es : List (Entry C)) → calls_in es ≡ map asked (executed es)
calls_executed [] = refl
calls_executed (Called x ∷ es) = ap (λ ks. asked x ∷ ks) (calls_executed es)
calls_executed (Reset version ∷ es) = calls_executed es

pub names_executed : {C : Type 0} (es : List (Entry C)) → map name (calls_in es) ≡ map executed_name (executed es)
names_executed [] = refl
names_executed (Called x ∷ es) = ap (λ ks. executed_name x ∷ ks) (names_executed es)
names_executed (Reset version ∷ es) = names_executed es

pub executed-append : {C : Type 0} (es fs : List (Entry C)) → executed (es ++ fs) ≡ executed es ++ executed fs
executed-append [] fs = refl
executed-append (Called x ∷ es) fs = ap (λ ks. x ∷ ks) (executed-append es fs)
executed-append (Reset version ∷ es) fs = executed-append es fs

pub in_executed : {C : Type 0} (es : List (Entry C)) (x : Executed C) → In (Called x) es → In x (executed es)
in_executed [] x i = absurd i
in_executed (Called y ∷ es) x (inl e) = inl cc
in_executed (Called y ∷ es) x (inr i) = inr (in_executed es x i)
in_executed (Reset version ∷ es) x (inl e) = absurd cc
in_executed (Reset version ∷ es) x (inr i) = in_executed es x i

pub part_executed : {C : Type 0} (es fs : List (Entry C)) → IsPart es fs → IsPart (executed es) (executed fs)
part_executed es [] h = ap executed h
part_executed es (Called x ∷ fs) (inl h) = inl (part_executed es fs h)
part_executed es (Called x ∷ fs) (inr (zs, e, h)) = inr (executed zs, ap executed e, part_executed zs fs h)
part_executed es (Reset version ∷ fs) (inl h) = part_executed es fs h
part_executed es (Reset version ∷ fs) (inr (zs, e, h)) = subst (λ ks. IsPart ks (executed fs)) (sym (ap executed e)) (part_executed zs fs h)

-- the call that is found by its name

pub in_reversed : {X : Type 0} (xs : List X) (x : X) → In x (reverse xs) → In x xs
in_reversed [] x i = absurd i
in_reversed (y ∷ ys) x i = go (in_cases x (reverse ys) (y ∷ []) (subst (λ zs. In x zs) (reverse_onto ys y []) i)) (λ j. in_reversed ys x j)
  where
    go : In x (reverse ys) ⊎ In x (y ∷ []) → (In x (reverse ys) → In x ys) → In x (y ∷ ys)
    go (inl j) f = inr (f j)
    go (inr (inl e)) f = inl e
    go (inr (inr j)) f = absurd j

pub find_some : {X : Type 0} (t : X → Bool) (xs : List X) (x : X) → find t xs ≡ Some x → In x xs × (t x ≡ true)
find_some t [] x e = absurd cc
find_some t (y ∷ ys) x e = ⊎_elim here (there (λ s. find_some t ys x s)) (cases (t y))
  where
    here : t y ≡ true → In x (y ∷ ys) × (t x ≡ true)
    here p = let s : Some y ≡ Some x = rw p at e in let same : y ≡ x = cc in (inl same, ap t (sym same) ∙ p)

    there : (find t ys ≡ Some x → In x ys × (t x ≡ true)) → t y ≡ false → In x (y ∷ ys) × (t x ≡ true)
    there f p = let r = f (rw p at e) in (inr r.0, r.1)

pub newest_executed : {C : Type 0} (id : CallId) (log : List (Entry C)) (x : Executed C) → newest_call id log ≡ Some x → In x (executed log) × (id_of x ≡ id)
newest_executed {C} id log x e = go (find (is_call id) (reverse log)) (λ y s. find_some (is_call id) (reverse log) y s) e
  where
    go : (found : Option (Entry C)) → ((y : Entry C) → found ≡ Some y → In y (reverse log) × (is_call id y ≡ true))
        → option_and_then executed_in found ≡ Some x → In x (executed log) × (id_of x ≡ id)
    go None f s = absurd cc
    go (Some (Reset version)) f s = absurd cc
    go (Some (Called y)) f s =
        let r = f (Called y) refl in
        let same : y ≡ x = cc in
        subst (λ z. In z (executed log) × (id_of z ≡ id)) same (in_executed log y (in_reversed log (Called y) r.0), same_call (id_of y) id r.1)

-- what is printed of a trail

pub record Prints (r : Run) (p : ℕ) (x : Executed Request) (e : PrintedCall) : Type 0 where
  pub place : ℕ
  pub is : printed r p place x ≡ e

pub printed_in : (r : Run) (p place : ℕ) (lines : List ℕ) (es : List (Entry Request)) (e : PrintedCall) → In (Call e) (printed_from r p place lines es)
    → (x : Executed Request) × In x (executed es) × Prints r p x e
printed_in r p place lines [] e i = absurd i
printed_in r p place lines (Called x ∷ es) e (inl s) = (x, inl refl, record { place = place; is = cc })
printed_in r p place lines (Called x ∷ es) e (inr i) = let k = printed_in r p (place + 1) lines es e i in (k.0, inr k.1, k.2)
printed_in r p place lines (Reset version ∷ es) e (inl s) = absurd cc
printed_in r p place lines (Reset version ∷ es) e (inr i) = printed_in r p (place + 1) (drop 1 lines) es e i

pub in_printed : (r : Run) (p place : ℕ) (lines : List ℕ) (es : List (Entry Request)) (x : Executed Request) → In x (executed es)
    → (e : PrintedCall) × In (Call e) (printed_from r p place lines es) × Prints r p x e
in_printed r p place lines [] x i = absurd i
in_printed r p place lines (Called y ∷ es) x (inl s) = (printed r p place y, inl refl, record { place = place; is = ap (printed r p place) (sym s) })
in_printed r p place lines (Called y ∷ es) x (inr i) = let k = in_printed r p (place + 1) lines es x i in (k.0, inr k.1, k.2)
in_printed r p place lines (Reset version ∷ es) x i = let k = in_printed r p (place + 1) (drop 1 lines) es x i in (k.0, inr k.1, k.2)

pub printed_before : (r : Run) (p place : ℕ) (lines : List ℕ) (es : List (Entry Request)) (a b : PrintedCall) → Before (printed_from r p place lines es) (Call a) (Call b)
    → (x : Executed Request) × ((y : Executed Request) × Before (executed es) x y × Prints r p x a × Prints r p y b)
printed_before r p place lines [] a b h = absurd h
printed_before r p place lines (Called x ∷ es) a b (inl h) =
    let k = printed_in r p (place + 1) lines es b (in_contains (Call b) (printed_from r p (place + 1) lines es) h.1) in
    let is : printed r p place x ≡ a = cc in
    (x, (k.0, inl (refl, contains_in k.0 (executed es) k.1), record { place = place; is = is }, k.2))
printed_before r p place lines (Called x ∷ es) a b (inr h) =
    let k = printed_before r p (place + 1) lines es a b h in (k.0, (k.1.0, inr k.1.1, k.1.2, k.1.3))
printed_before r p place lines (Reset version ∷ es) a b (inl h) = absurd cc
printed_before r p place lines (Reset version ∷ es) a b (inr h) = printed_before r p (place + 1) (drop 1 lines) es a b h
