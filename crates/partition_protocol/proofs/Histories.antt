-- What the history of a pair is, and that it stays as the log, the bases and the reopenings grow.
use Rattle.std.proofs.Common.{◌≡◌, ◌≢◌, ℕ, ◌+◌, ◌<◌, ◌≤◌, Bool, true, false, cond, ◌&&◌, ◌==◌, nat_le, List, [], ◌∷◌, ◌++◌, filter, refl, ap, sym, ◌∙◌, subst, ◌⊎◌, inl, inr, arith, append_assoc, append-nil, le_trans, le_refl, ⊎_elim}
use Rattle.std.proofs.lemmas.Bool.Decides.{nat_tests}
use Rattle.std.proofs.lemmas.List.Elements.{filter-append}
use Rattle.partition_protocol.specs.Node.{Pair, Held}
use Rattle.grid_base.specs.Objects.{Object}
use Rattle.partition_protocol.specs.History.{Executed, Entry, Called, Reset, Base, Opening, is_in_pair, entries_in, opening_at, begins_anew, history, state_after, IsLegal}
use Rattle.partition_protocol.specs.Claims.{Stands, is_reset}
use Rattle.partition_protocol.proofs.Lists.{In, in_left, in_right, in_cases, in_contains, contains_in, Every, every_append, every_weaker, IsPart, part_nil, part_longer, part_both, part_front, cases, on_if}

-- legal histories

pub legal_front : {C State : Type 0} (o : Object C State) (s : State) (es fs : List (Entry C)) → IsLegal o s (es ++ fs) → IsLegal o s es
legal_front o s [] fs h = tt
legal_front o s (Called x ∷ es) fs h = (h.0, legal_front o (o.after s x.call x.now) es fs h.1)
legal_front o s (Reset r ∷ es) fs h = legal_front o o.empty es fs h

pub legal_called : {C State : Type 0} (o : Object C State) (s : State) (es : List (Entry C)) (x : Executed C) → IsLegal o s es
    → x.reply ≡ o.reply (state_after o s es) x.call x.now → IsLegal o s (es ++ Called x ∷ [])
legal_called o s [] x h e = (e, tt)
legal_called o s (Called y ∷ es) x h e = (h.0, legal_called o (o.after s y.call y.now) es x h.1 e)
legal_called o s (Reset r ∷ es) x h e = legal_called o o.empty es x h e

pub legal_reset : {C State : Type 0} (o : Object C State) (s : State) (es : List (Entry C)) (r : ℕ) → IsLegal o s es → IsLegal o s (es ++ Reset r ∷ [])
legal_reset o s [] r h = tt
legal_reset o s (Called y ∷ es) r h = (h.0, legal_reset o (o.after s y.call y.now) es r h.1)
legal_reset o s (Reset q ∷ es) r h = legal_reset o o.empty es r h

-- the entries of a version

abbrev pub is_of_version : {C : Type 0} → ℕ → Entry C → Bool
is_of_version v (Called x) = x.version == v
is_of_version v (Reset r) = false

abbrev pub entries_of : {C : Type 0} → ℕ → List (Entry C) → List (Entry C)
entries_of v log = filter (is_of_version v) log

-- an entry of version v has at most seen number c
abbrev pub IsWithin : {C : Type 0} → ℕ → ℕ → Entry C → Type 0
IsWithin v c (Called x) = x.version ≡ v → x.seen ≤ c
IsWithin v c (Reset r) = Unit {0}

-- its version is below n
abbrev pub IsBelow : {C : Type 0} → ℕ → Entry C → Type 0
IsBelow n (Called x) = x.version < n
IsBelow n (Reset r) = Unit {0}

pub in_pair_all : {C : Type 0} (p : Pair) (x : Entry C) → IsWithin p.version p.count x → is_in_pair p x ≡ is_of_version p.version x
in_pair_all p (Called x) h = grind (arith, nat_tests)
in_pair_all p (Reset r) h = refl

-- a pair that counts all of its version has them all
pub entries_all : {C : Type 0} (p : Pair) (log : List (Entry C)) → Every (IsWithin p.version p.count) log → entries_in p log ≡ entries_of p.version log
entries_all p [] h = refl
entries_all p (x ∷ log) h = rw (in_pair_all p x h.0, entries_all p log h.1) refl

pub none_of : {C : Type 0} (v n : ℕ) (log : List (Entry C)) → n ≤ v → Every (IsBelow n) log → entries_of v log ≡ []
none_of v n [] le h = refl
none_of v n (Called x ∷ log) le h = let differs : (x.version == v) ≡ false = grind (arith, nat_tests, h.0) in rw (differs, none_of v n log le h.1) refl
none_of v n (Reset r ∷ log) le h = none_of v n log le h.1

-- a filter of a log with one more entry
pub filter_out : {X : Type 0} (t : X → Bool) (xs : List X) (x : X) → t x ≡ false → filter t (xs ++ x ∷ []) ≡ filter t xs
filter_out t xs x e = filter-append t xs (x ∷ []) ∙ rw e (append-nil (filter t xs))

pub filter_keeps : {X : Type 0} (t : X → Bool) (xs : List X) (x : X) → t x ≡ true → filter t (xs ++ x ∷ []) ≡ filter t xs ++ x ∷ []
filter_keeps t xs x e = filter-append t xs (x ∷ []) ∙ rw e refl

pub not_in_pair : {C : Type 0} (p : Pair) (x : Executed C) → x.version ≢ p.version → is_in_pair p (Called x) ≡ false
not_in_pair p x n = grind (arith, nat_tests)

pub past_pair : {C : Type 0} (p : Pair) (x : Executed C) → p.count < x.seen → is_in_pair p (Called x) ≡ false
past_pair p x n = go (x.version == p.version)
  where
    go : (b : Bool) → (b && nat_le x.seen p.count) ≡ false
    go true = grind (arith, nat_tests)
    go false = refl

pub is_in_its_pair : {C : Type 0} (p : Pair) (x : Executed C) → x.version ≡ p.version → x.seen ≤ p.count → is_in_pair p (Called x) ≡ true
is_in_its_pair p x e l = grind (arith, nat_tests)

pub not_of_version : {C : Type 0} (v : ℕ) (x : Executed C) → x.version ≢ v → is_of_version v (Called x) ≡ false
not_of_version v x n = grind (arith, nat_tests)

pub of_its_version : {C : Type 0} (v : ℕ) (x : Executed C) → x.version ≡ v → is_of_version v (Called x) ≡ true
of_its_version v x e = grind (arith, nat_tests)

-- the entries of a pair are a front of those of its version
abbrev pub IsRising : {C : Type 0} → List (Entry C) → Type 0
IsRising {C} log = (p : Pair) → (rest : List (Entry C)) × (entries_in p log ++ rest ≡ entries_of p.version log)

pub wider : {C : Type 0} (v u c d : ℕ) → v ≡ u → c ≤ d → (x : Entry C) → IsWithin v c x → IsWithin u d x
wider v u c d e l (Called x) h = λ s. le_trans (h (s ∙ sym e)) l
wider v u c d e l (Reset r) h = tt

pub rising_called : {C : Type 0} (log : List (Entry C)) (x : Executed C) → IsRising log → Every (IsWithin x.version x.seen) log → IsRising (log ++ Called x ∷ [])
rising_called {C} log x h w p = by_version (cases (x.version == p.version))
  where
    other : x.version ≢ p.version → (rest : List (Entry C)) × (entries_in p (log ++ Called x ∷ []) ++ rest ≡ entries_of p.version (log ++ Called x ∷ []))
    other n = ((h p).0, rw (filter_out (is_in_pair p) log (Called x) (not_in_pair p x n), filter_out (is_of_version p.version) log (Called x) (not_of_version p.version x n)) (h p).1)

    within : x.version ≡ p.version → x.seen ≤ p.count → (rest : List (Entry C)) × (entries_in p (log ++ Called x ∷ []) ++ rest ≡ entries_of p.version (log ++ Called x ∷ []))
    within e l = ([], append-nil (entries_in p (log ++ Called x ∷ [])) ∙ entries_all p (log ++ Called x ∷ []) (every_append (IsWithin p.version p.count) log (Called x ∷ []) (every_weaker (IsWithin x.version x.seen) (IsWithin p.version p.count) log (wider x.version p.version x.seen p.count e l) w) (λ s. l, tt)))

    past : x.version ≡ p.version → p.count < x.seen → (rest : List (Entry C)) × (entries_in p (log ++ Called x ∷ []) ++ rest ≡ entries_of p.version (log ++ Called x ∷ []))
    past e l = ((h p).0 ++ Called x ∷ [], rw (filter_out (is_in_pair p) log (Called x) (past_pair p x l), filter_keeps (is_of_version p.version) log (Called x) (of_its_version p.version x e)) (sym (append_assoc (entries_in p log) (h p).0 (Called x ∷ [])) ∙ ap (λ es. es ++ Called x ∷ []) (h p).1))

    by_count : x.version ≡ p.version → (nat_le x.seen p.count ≡ true) ⊎ (nat_le x.seen p.count ≡ false) → (rest : List (Entry C)) × (entries_in p (log ++ Called x ∷ []) ++ rest ≡ entries_of p.version (log ++ Called x ∷ []))
    by_count e (inl l) = within e (grind (arith, nat_tests))
    by_count e (inr l) = past e (grind (arith, nat_tests))

    by_version : ((x.version == p.version) ≡ true) ⊎ ((x.version == p.version) ≡ false) → (rest : List (Entry C)) × (entries_in p (log ++ Called x ∷ []) ++ rest ≡ entries_of p.version (log ++ Called x ∷ []))
    by_version (inl e) = by_count (grind (arith, nat_tests)) (cases (nat_le x.seen p.count))
    by_version (inr e) = other (grind (arith, nat_tests))

pub rising_reset : {C : Type 0} (log : List (Entry C)) (r : ℕ) → IsRising log → IsRising (log ++ Reset r ∷ [])
rising_reset log r h p = ((h p).0, rw (filter_out (is_in_pair p) log (Reset r) refl, filter_out (is_of_version p.version) log (Reset r) refl) (h p).1)

-- the bases

-- strictly falling, from below n
abbrev pub Falling : ℕ → List Base → Type 0
Falling n [] = Unit {0}
Falling n (b ∷ bs) = (b.version < n) × Falling b.version bs

pub falling_higher : (n k : ℕ) (bs : List Base) → n ≤ k → Falling n bs → Falling k bs
falling_higher n k [] le h = tt
falling_higher n k (b ∷ bs) le h = (omega (arith, h.0), h.1)

-- what the history of a version begins with
abbrev pub start_of : {C : Type 0} → List (Opening C) → List (Entry C) → Base → List Base → List (Entry C)
start_of os log b bs = cond (begins_anew b) (opening_at b.reset os) (history os log bs b.pair)

pub history_at : {C : Type 0} (os : List (Opening C)) (log : List (Entry C)) (b : Base) (bs : List Base) (p : Pair) → b.version ≡ p.version
    → history os log (b ∷ bs) p ≡ start_of os log b bs ++ entries_in p log
history_at os log b bs p e = let a : (b.version == p.version) ≡ true = grind (arith, nat_tests) in rw (a, history) refl

pub history_skips : {C : Type 0} (os : List (Opening C)) (log : List (Entry C)) (b : Base) (bs : List Base) (p : Pair) → b.version ≢ p.version
    → history os log (b ∷ bs) p ≡ history os log bs p
history_skips os log b bs p n = let a : (b.version == p.version) ≡ false = grind (arith, nat_tests) in rw (a, history) refl

pub history_called_at : {C : Type 0} (os : List (Opening C)) (log : List (Entry C)) (x : Executed C) (b : Base) (bs : List Base) (p : Pair) → b.version < x.version
    → history os (log ++ Called x ∷ []) bs b.pair ≡ history os log bs b.pair → history os (log ++ Called x ∷ []) bs p ≡ history os log bs p
    → ((b.version == p.version) ≡ true) ⊎ ((b.version == p.version) ≡ false)
    → history os (log ++ Called x ∷ []) (b ∷ bs) p ≡ history os log (b ∷ bs) p
history_called_at os log x b bs p l h k (inl e) =
    let same : b.version ≡ p.version = grind (arith, nat_tests) in
    history_at os (log ++ Called x ∷ []) b bs p same
    ∙ (rw (h, filter_out (is_in_pair p) log (Called x) (not_in_pair p x (omega (arith, l, same)))) (sym (history_at os log b bs p same)))
history_called_at os log x b bs p l h k (inr e) = rw (e, history) k

-- an entry of a version above all bases changes no history
pub history_called : {C : Type 0} (os : List (Opening C)) (log : List (Entry C)) (x : Executed C) (bs : List Base) (p : Pair) → Falling x.version bs
    → history os (log ++ Called x ∷ []) bs p ≡ history os log bs p
history_called os log x [] p f = refl
history_called os log x (b ∷ bs) p f =
    let lower : Falling x.version bs = falling_higher b.version x.version bs (omega (arith, f.0)) f.1 in
    history_called_at os log x b bs p f.0 (history_called os log x bs b.pair lower) (history_called os log x bs p lower) (cases (b.version == p.version))

-- the reset of no base is r
abbrev pub IsOtherReset : ℕ → Base → Type 0
IsOtherReset r b = b.reset ≢ r

pub opening_other : {C : Type 0} (o : Opening C) (os : List (Opening C)) (r : ℕ) → r ≢ o.reset → opening_at r (o ∷ os) ≡ opening_at r os
opening_other o os r n = let a : (o.reset == r) ≡ false = grind (arith, nat_tests) in rw a refl

pub opening_same : {C : Type 0} (o : Opening C) (os : List (Opening C)) → opening_at o.reset (o ∷ os) ≡ o.entries
opening_same o os = let a : (o.reset == o.reset) ≡ true = grind (arith, nat_tests) in rw a refl

pub history_reset_at : {C : Type 0} (o : Opening C) (os : List (Opening C)) (log : List (Entry C)) (b : Base) (bs : List Base) (p : Pair) → b.reset ≢ o.reset
    → history (o ∷ os) (log ++ Reset o.reset ∷ []) bs b.pair ≡ history os log bs b.pair → history (o ∷ os) (log ++ Reset o.reset ∷ []) bs p ≡ history os log bs p
    → ((b.version == p.version) ≡ true) ⊎ ((b.version == p.version) ≡ false)
    → history (o ∷ os) (log ++ Reset o.reset ∷ []) (b ∷ bs) p ≡ history os log (b ∷ bs) p
history_reset_at o os log b bs p n h k (inl e) =
    let same : b.version ≡ p.version = grind (arith, nat_tests) in
    history_at (o ∷ os) (log ++ Reset o.reset ∷ []) b bs p same
    ∙ (rw (h, opening_other o os b.reset n, filter_out (is_in_pair p) log (Reset o.reset) refl) (sym (history_at os log b bs p same)))
history_reset_at o os log b bs p n h k (inr e) = rw (e, history) k

-- a reopening changes none
pub history_reset : {C : Type 0} (o : Opening C) (os : List (Opening C)) (log : List (Entry C)) (bs : List Base) (p : Pair) → Every (IsOtherReset o.reset) bs
    → history (o ∷ os) (log ++ Reset o.reset ∷ []) bs p ≡ history os log bs p
history_reset o os log [] p f = refl
history_reset o os log (b ∷ bs) p f =
    history_reset_at o os log b bs p f.0 (history_reset o os log bs b.pair f.1) (history_reset o os log bs p f.1) (cases (b.version == p.version))

-- the entries of a pair, by parts of their histories

-- legal, and in order of execution
pub record IsGood {C State : Type 0} (o : Object C State) (log es : List (Entry C)) : Type 0 where
  pub legal : IsLegal o o.empty es
  pub order : IsPart es log

pub good_nil : {C State : Type 0} (o : Object C State) (log : List (Entry C)) → IsGood o log []
good_nil o log = record { legal = tt; order = part_nil log }

pub good_longer : {C State : Type 0} (o : Object C State) (log es : List (Entry C)) (x : Entry C) → IsGood o log es → IsGood o (log ++ x ∷ []) es
good_longer o log es x g = record { legal = g.legal; order = part_longer es log x g.order }

pub good_front : {C State : Type 0} (o : Object C State) (log es fs : List (Entry C)) → IsGood o log (es ++ fs) → IsGood o log es
good_front o log es fs g = record { legal = legal_front o o.empty es fs g.legal; order = part_front es fs log g.order }

pub good_called : {C State : Type 0} (o : Object C State) (log es : List (Entry C)) (x : Executed C) → IsGood o log es
    → x.reply ≡ o.reply (state_after o o.empty es) x.call x.now → IsGood o (log ++ Called x ∷ []) (es ++ Called x ∷ [])
good_called o log es x g e = record { legal = legal_called o o.empty es x g.legal e; order = part_both es log (Called x) g.order }

pub good_reset : {C State : Type 0} (o : Object C State) (log es : List (Entry C)) (r : ℕ) → IsGood o log es → IsGood o (log ++ Reset r ∷ []) (es ++ Reset r ∷ [])
good_reset o log es r g = record { legal = legal_reset o o.empty es r g.legal; order = part_both es log (Reset r) g.order }

-- all that each version holds is good
abbrev pub AreGood : {C State : Type 0} → Object C State → List (Opening C) → List (Entry C) → List Base → Type 0
AreGood o os log [] = Unit {0}
AreGood o os log (b ∷ bs) = IsGood o log (start_of os log b bs ++ entries_of b.version log) × AreGood o os log bs

pub history_good_at : {C State : Type 0} (o : Object C State) (os : List (Opening C)) (log : List (Entry C)) (b : Base) (bs : List Base) (p : Pair) → IsRising log
    → IsGood o log (start_of os log b bs ++ entries_of b.version log) → IsGood o log (history os log bs p)
    → ((b.version == p.version) ≡ true) ⊎ ((b.version == p.version) ≡ false) → IsGood o log (history os log (b ∷ bs) p)
history_good_at o os log b bs p r g h (inl e) =
    let same : b.version ≡ p.version = grind (arith, nat_tests) in
    let rest = (r p).0 in
    let whole : (start_of os log b bs ++ entries_in p log) ++ rest ≡ start_of os log b bs ++ entries_of b.version log =
    append_assoc (start_of os log b bs) (entries_in p log) rest ∙ ap (λ es. start_of os log b bs ++ es) ((r p).1 ∙ ap (λ v. entries_of v log) (sym same)) in
    rw (history_at os log b bs p same) (good_front o log (start_of os log b bs ++ entries_in p log) rest (subst (λ es. IsGood o log es) (sym whole) g))
history_good_at o os log b bs p r g h (inr e) = rw (e, history) h

pub history_good : {C State : Type 0} (o : Object C State) (os : List (Opening C)) (log : List (Entry C)) (bs : List Base) (p : Pair) → IsRising log → AreGood o os log bs
    → IsGood o log (history os log bs p)
history_good o os log [] p r g = good_nil o log
history_good o os log (b ∷ bs) p r g = history_good_at o os log b bs p r g.0 (history_good o os log bs p r g.1) (cases (b.version == p.version))

-- older versions keep theirs as a call is executed
pub good_older : {C State : Type 0} (o : Object C State) (os : List (Opening C)) (log : List (Entry C)) (bs : List Base) (x : Executed C) → Falling x.version bs → AreGood o os log bs
    → AreGood o os (log ++ Called x ∷ []) bs
good_older o os log [] x f g = tt
good_older o os log (b ∷ bs) x f g =
    let lower : Falling x.version bs = falling_higher b.version x.version bs (omega (arith, f.0)) f.1 in
    let same = history_called os log x bs b.pair lower in
    let first : IsGood o (log ++ Called x ∷ []) (start_of os (log ++ Called x ∷ []) b bs ++ entries_of b.version (log ++ Called x ∷ [])) =
    rw (same, filter_out (is_of_version b.version) log (Called x) (not_of_version b.version x (omega (arith, f.0)))) (good_longer o log (start_of os log b bs ++ entries_of b.version log) (Called x) g.0) in
    (first, good_older o os log bs x lower g.1)

-- a call that is executed in the newest version, by the state of a pair that counts all of it
pub good_executed : {C State : Type 0} (o : Object C State) (os : List (Opening C)) (log : List (Entry C)) (b : Base) (bs : List Base) (p : Pair) (x : Executed C)
    → b.version ≡ p.version → x.version ≡ p.version → Falling b.version bs → Every (IsWithin p.version p.count) log → AreGood o os log (b ∷ bs)
    → x.reply ≡ o.reply (state_after o o.empty (history os log (b ∷ bs) p)) x.call x.now
    → AreGood o os (log ++ Called x ∷ []) (b ∷ bs)
good_executed o os log b bs p x e v f w g r =
    let lower : Falling x.version bs = subst (λ n. Falling n bs) (e ∙ sym v) f in
    let all : history os log (b ∷ bs) p ≡ start_of os log b bs ++ entries_of b.version log =
    history_at os log b bs p e ∙ ap (λ es. start_of os log b bs ++ es) (entries_all p log w ∙ ap (λ n. entries_of n log) (sym e)) in
    let reply : x.reply ≡ o.reply (state_after o o.empty (start_of os log b bs ++ entries_of b.version log)) x.call x.now = subst (λ es. x.reply ≡ o.reply (state_after o o.empty es) x.call x.now) all r in
    let first : IsGood o (log ++ Called x ∷ []) (start_of os (log ++ Called x ∷ []) b bs ++ entries_of b.version (log ++ Called x ∷ [])) =
    rw (history_called os log x bs b.pair lower, filter_keeps (is_of_version b.version) log (Called x) (of_its_version b.version x (v ∙ sym e)))
    (subst (λ es. IsGood o (log ++ Called x ∷ []) es) (append_assoc (start_of os log b bs) (entries_of b.version log) (Called x ∷ [])) (good_called o log (start_of os log b bs ++ entries_of b.version log) x g.0 reply)) in
    (first, good_older o os log bs x lower g.1)

-- a reopening
pub good_reopened : {C State : Type 0} (o : Object C State) (os : List (Opening C)) (log : List (Entry C)) (bs : List Base) (n : Opening C) → Every (IsOtherReset n.reset) bs → AreGood o os log bs
    → AreGood o (n ∷ os) (log ++ Reset n.reset ∷ []) bs
good_reopened o os log [] n f g = tt
good_reopened o os log (b ∷ bs) n f g =
    let same = history_reset n os log bs b.pair f.1 in
    let first : IsGood o (log ++ Reset n.reset ∷ []) (start_of (n ∷ os) (log ++ Reset n.reset ∷ []) b bs ++ entries_of b.version (log ++ Reset n.reset ∷ [])) =
    rw (same, opening_other n os b.reset f.0, filter_out (is_of_version b.version) log (Reset n.reset) refl) (good_longer o log (start_of os log b bs ++ entries_of b.version log) (Reset n.reset) g.0) in
    (first, good_reopened o os log bs n f.1 g.1)

pub opened_good : {C State : Type 0} (o : Object C State) (log : List (Entry C)) (r : ℕ) (os : List (Opening C)) → Every (λ (n : Opening C). IsGood o log n.entries) os → IsGood o log (opening_at r os)
opened_good o log r [] h = good_nil o log
opened_good o log r (n ∷ os) h = on_if (λ es. IsGood o log es) (n.reset == r) n.entries (opening_at r os) h.0 (opened_good o log r os h.1)

-- a base that is new
pub good_based : {C State : Type 0} (o : Object C State) (os : List (Opening C)) (log : List (Entry C)) (b : Base) (bs : List Base) → IsRising log → Every (IsBelow b.version) log
    → Every (λ (n : Opening C). IsGood o log n.entries) os → AreGood o os log bs → AreGood o os log (b ∷ bs)
good_based o os log b bs r w n g =
    let start : IsGood o log (start_of os log b bs) = on_if (λ es. IsGood o log es) (begins_anew b) (opening_at b.reset os) (history os log bs b.pair) (opened_good o log b.reset os n) (history_good o os log bs b.pair r g) in
    (rw (none_of b.version b.version log (le_refl b.version) w, append-nil) start, g)

pub opened_longer : {C State : Type 0} (o : Object C State) (log : List (Entry C)) (x : Entry C) (os : List (Opening C)) → Every (λ (n : Opening C). IsGood o log n.entries) os
    → Every (λ (n : Opening C). IsGood o (log ++ x ∷ []) n.entries) os
opened_longer {C = C} o log x os h = every_weaker (λ (n : Opening C). IsGood o log n.entries) (λ (n : Opening C). IsGood o (log ++ x ∷ []) n.entries) os (λ n g. good_longer o log n.entries x g) h

-- a call that stands in a history

pub stands_left : {C : Type 0} (h : Held) (es fs : List (Entry C)) → Stands h es → Stands h (es ++ fs)
stands_left h es fs s = (s.0, contains_in (Called s.0) (es ++ fs) (in_left (Called s.0) es fs (in_contains (Called s.0) es s.1)), s.2, s.3, s.4)

pub stands_right : {C : Type 0} (h : Held) (es fs : List (Entry C)) → Stands h fs → Stands h (es ++ fs)
stands_right h es fs s = (s.0, contains_in (Called s.0) (es ++ fs) (in_right (Called s.0) es fs (in_contains (Called s.0) fs s.1)), s.2, s.3, s.4)

pub stands_cases : {C : Type 0} (h : Held) (es fs : List (Entry C)) → Stands h (es ++ fs) → Stands h es ⊎ Stands h fs
stands_cases h es fs s = ⊎_elim (λ i. inl (s.0, contains_in (Called s.0) es i, s.2, s.3, s.4)) (λ i. inr (s.0, contains_in (Called s.0) fs i, s.2, s.3, s.4)) (in_cases (Called s.0) es fs (in_contains (Called s.0) (es ++ fs) s.1))

pub in_filter : {X : Type 0} (t : X → Bool) (xs : List X) (x : X) → In x xs → t x ≡ true → In x (filter t xs)
in_filter t [] x i e = absurd i
in_filter t (y ∷ ys) x (inl s) e = rw (s, e) (inl refl)
in_filter t (y ∷ ys) x (inr i) e = let rest = in_filter t ys x i e in on_if (λ zs. In x zs) (t y) (y ∷ filter t ys) (filter t ys) (inr rest) rest

pub filter_in_at : {X : Type 0} (t : X → Bool) (ys : List X) (x y : X) (b : Bool) → t y ≡ b → (In x (filter t ys) → In x ys × (t x ≡ true)) → In x (cond b (y ∷ filter t ys) (filter t ys)) → In x (y ∷ ys) × (t x ≡ true)
filter_in_at t ys x y true e f (inl s) = (inl s, subst (λ z. t z ≡ true) s e)
filter_in_at t ys x y true e f (inr i) = let r = f i in (inr r.0, r.1)
filter_in_at t ys x y false e f i = let r = f i in (inr r.0, r.1)

pub filter_in : {X : Type 0} (t : X → Bool) (xs : List X) (x : X) → In x (filter t xs) → In x xs × (t x ≡ true)
filter_in t [] x i = absurd i
filter_in t (y ∷ ys) x i = filter_in_at t ys x y (t y) refl (filter_in t ys x) i

pub in_pair_more : {C : Type 0} (v c d : ℕ) (x : Entry C) → c ≤ d → is_in_pair (record { version = v; count = c }) x ≡ true → is_in_pair (record { version = v; count = d }) x ≡ true
in_pair_more v c d (Called x) l e = grind (arith, nat_tests)
in_pair_more v c d (Reset r) l e = e

pub entries_more : {C : Type 0} (v c d : ℕ) (log : List (Entry C)) (h : Held) → c ≤ d → Stands h (entries_in (record { version = v; count = c }) log) → Stands h (entries_in (record { version = v; count = d }) log)
entries_more v c d log h l s =
    let p : Pair = record { version = v; count = c } in
    let q : Pair = record { version = v; count = d } in
    let i = filter_in (is_in_pair p) log (Called s.0) (in_contains (Called s.0) (entries_in p log) s.1) in
    (s.0, contains_in (Called s.0) (entries_in q log) (in_filter (is_in_pair q) log (Called s.0) i.0 (in_pair_more v c d (Called s.0) l i.1)), s.2, s.3, s.4)

-- by versions

abbrev pub IsBase : List Base → ℕ → Type 0
IsBase bs v = (b : Base) × In b bs × (b.version ≡ v)

-- what the history of a version begins with
abbrev pub start_at : {C : Type 0} → List (Opening C) → List (Entry C) → List Base → ℕ → List (Entry C)
start_at os log [] v = []
start_at os log (b ∷ bs) v = cond (b.version == v) (start_of os log b bs) (start_at os log bs v)

pub version_apart : (b : Base) (bs : List Base) (v : ℕ) → Falling b.version bs → IsBase bs v → b.version ≢ v
version_apart b [] v f (c, i, e) = absurd i
version_apart b (d ∷ bs) v f (c, inl s, e) = let w : d.version ≡ v = ap (λ (k : Base). k.version) s ∙ e in omega (arith, f.0, w)
version_apart b (d ∷ bs) v f (c, inr i, e) = version_apart b bs v (falling_higher d.version b.version bs (omega (arith, f.0)) f.1) (c, i, e)

pub start_first : {C : Type 0} (os : List (Opening C)) (log : List (Entry C)) (b : Base) (bs : List Base) (v : ℕ) → b.version ≡ v → start_at os log (b ∷ bs) v ≡ start_of os log b bs
start_first os log b bs v e = let a : (b.version == v) ≡ true = grind (arith, nat_tests) in rw (a, start_at) refl

pub start_later : {C : Type 0} (os : List (Opening C)) (log : List (Entry C)) (b : Base) (bs : List Base) (v : ℕ) → b.version ≢ v → start_at os log (b ∷ bs) v ≡ start_at os log bs v
start_later os log b bs v n = let a : (b.version == v) ≡ false = grind (arith, nat_tests) in rw (a, start_at) refl

pub history_base_at : {C : Type 0} (os : List (Opening C)) (log : List (Entry C)) (b : Base) (bs : List Base) (p : Pair) → Falling b.version bs → IsBase (b ∷ bs) p.version
    → (IsBase bs p.version → history os log bs p ≡ start_at os log bs p.version ++ entries_in p log)
    → history os log (b ∷ bs) p ≡ start_at os log (b ∷ bs) p.version ++ entries_in p log
history_base_at os log b bs p f (c, inl s, e) h =
    let same : b.version ≡ p.version = ap (λ (k : Base). k.version) s ∙ e in
    history_at os log b bs p same ∙ ap (λ es. es ++ entries_in p log) (sym (start_first os log b bs p.version same))
history_base_at os log b bs p f (c, inr i, e) h =
    let apart = version_apart b bs p.version f (c, i, e) in
    history_skips os log b bs p apart ∙ h (c, i, e) ∙ ap (λ es. es ++ entries_in p log) (sym (start_later os log b bs p.version apart))

pub history_base : {C : Type 0} (os : List (Opening C)) (log : List (Entry C)) (bs : List Base) (p : Pair) (n : ℕ) → Falling n bs → IsBase bs p.version
    → history os log bs p ≡ start_at os log bs p.version ++ entries_in p log
history_base os log [] p n f i = absurd (i.1)
history_base os log (b ∷ bs) p n f i = history_base_at os log b bs p f.1 i (history_base os log bs p b.version f.1)

-- one base to a version
pub base_same : (bs : List Base) (n : ℕ) (a b : Base) → Falling n bs → In a bs → In b bs → a.version ≡ b.version → a ≡ b
base_same [] n a b f i j e = absurd i
base_same (c ∷ bs) n a b f (inl s) (inl t) e = sym s ∙ t
base_same (c ∷ bs) n a b f (inl s) (inr j) e = absurd (version_apart c bs a.version f.1 (b, j, sym e) (ap (λ (k : Base). k.version) s))
base_same (c ∷ bs) n a b f (inr i) (inl t) e = absurd (version_apart c bs b.version f.1 (a, i, e) (ap (λ (k : Base). k.version) t))
base_same (c ∷ bs) n a b f (inr i) (inr j) e = base_same bs c.version a b f.1 i j e

pub base_below : (bs : List Base) (n v : ℕ) → Falling n bs → IsBase bs v → v < n
base_below [] n v f i = absurd i.1
base_below (b ∷ bs) n v f (c, inl s, e) = let w : b.version ≡ v = ap (λ (k : Base). k.version) s ∙ e in omega (arith, f.0, w)
base_below (b ∷ bs) n v f (c, inr i, e) = let r = base_below bs b.version v f.1 (c, i, e) in omega (arith, f.0, r)

-- nothing begins otherwise for a call in the newest version
pub start_called : {C : Type 0} (os : List (Opening C)) (log : List (Entry C)) (x : Executed C) (bs : List Base) (v n : ℕ) → Falling n bs → n ≤ x.version + 1
    → start_at os (log ++ Called x ∷ []) bs v ≡ start_at os log bs v
start_called os log x [] v n f l = refl
start_called os log x (b ∷ bs) v n f l =
    let lower : Falling x.version bs = falling_higher b.version x.version bs (omega (arith, f.0, l)) f.1 in
    rw (history_called os log x bs b.pair lower, start_called os log x bs v b.version f.1 (omega (arith, f.0, l))) refl

pub start_reset : {C : Type 0} (o : Opening C) (os : List (Opening C)) (log : List (Entry C)) (bs : List Base) (v : ℕ) → Every (IsOtherReset o.reset) bs
    → start_at (o ∷ os) (log ++ Reset o.reset ∷ []) bs v ≡ start_at os log bs v
start_reset o os log [] v f = refl
start_reset o os log (b ∷ bs) v f = rw (history_reset o os log bs b.pair f.1, opening_other o os b.reset f.0, start_reset o os log bs v f.1) refl

-- what stands in a history stays as it grows

pub stands_more : {C : Type 0} (os : List (Opening C)) (log : List (Entry C)) (bs : List Base) (n v c d : ℕ) (h : Held) → Falling n bs → IsBase bs v → c ≤ d
    → Stands h (history os log bs (record { version = v; count = c })) → Stands h (history os log bs (record { version = v; count = d }))
stands_more os log bs n v c d h f i l s =
    let p : Pair = record { version = v; count = c } in
    let q : Pair = record { version = v; count = d } in
    rw (history_base os log bs q n f i)
    (⊎_elim (λ a. stands_left h (start_at os log bs v) (entries_in q log) a) (λ a. stands_right h (start_at os log bs v) (entries_in q log) (entries_more v c d log h l a))
    (stands_cases h (start_at os log bs v) (entries_in p log) (rw (history_base os log bs p n f i) at s)))

pub stands_start : {C : Type 0} (os : List (Opening C)) (log : List (Entry C)) (bs : List Base) (n : ℕ) (p : Pair) (h : Held) → Falling n bs → IsBase bs p.version
    → Stands h (start_at os log bs p.version) → Stands h (history os log bs p)
stands_start os log bs n p h f i s = rw (history_base os log bs p n f i) (stands_left h (start_at os log bs p.version) (entries_in p log) s)

pub stands_called : {C : Type 0} (os : List (Opening C)) (log : List (Entry C)) (x : Executed C) (bs : List Base) (n : ℕ) (p : Pair) (h : Held) → Falling n bs → n ≤ x.version + 1 → IsBase bs p.version
    → Stands h (history os log bs p) → Stands h (history os (log ++ Called x ∷ []) bs p)
stands_called os log x bs n p h f l i s =
    rw (history_base os (log ++ Called x ∷ []) bs p n f i, start_called os log x bs p.version n f l, filter-append (is_in_pair p) log (Called x ∷ []))
    (subst (λ es. Stands h es) (append_assoc (start_at os log bs p.version) (entries_in p log) (filter (is_in_pair p) (Called x ∷ [])))
    (stands_left h (start_at os log bs p.version ++ entries_in p log) (filter (is_in_pair p) (Called x ∷ [])) (rw (history_base os log bs p n f i) at s)))

-- resets

pub no_resets_in : {C : Type 0} (p : Pair) (log : List (Entry C)) → filter is_reset (entries_in p log) ≡ []
no_resets_in p [] = refl
no_resets_in p (Called x ∷ log) = let rest = no_resets_in p log in on_if (λ es. filter is_reset es ≡ []) (is_in_pair p (Called x)) (Called x ∷ entries_in p log) (entries_in p log) rest rest
no_resets_in p (Reset r ∷ log) = no_resets_in p log

pub resets_of_history : {C : Type 0} (os : List (Opening C)) (log : List (Entry C)) (bs : List Base) (n : ℕ) (p : Pair) → Falling n bs → IsBase bs p.version
    → filter is_reset (history os log bs p) ≡ filter is_reset (start_at os log bs p.version)
resets_of_history os log bs n p f i =
    rw (history_base os log bs p n f i, filter-append is_reset (start_at os log bs p.version) (entries_in p log), no_resets_in p log) (append-nil (filter is_reset (start_at os log bs p.version)))
