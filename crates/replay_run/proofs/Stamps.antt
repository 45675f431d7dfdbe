-- The lines at which the entries of a log were logged: a call as it was made, and a reset as its partition was reopened. They never fall, and so stand the entries that are printed.
use Rattle.std.proofs.Common.{◌≡◌, ℕ, ◌+◌, ◌≤◌, ◌<◌, Bool, true, false, cond, List, [], ◌∷◌, ◌++◌, drop, filter, Option, Some, refl, ap, sym, ◌∙◌, subst, inl, inr, arith}
use Rattle.std.specs.Prelude.{unwrap_or, option_map}
use Rattle.grid_base.specs.declared.calls.Request.{Request}
use Rattle.partition_protocol.specs.History.{Entry, Executed, Called, Reset}
use Rattle.partition_protocol.specs.Claims.{is_reset}
use Rattle.partition_protocol.proofs.Lists.{In, contains_in, IsPart}
use Rattle.partition_protocol.proofs.RowFacts.{number_same}
use Rattle.partition_world.specs.Answers.{id_of}
use Rattle.replay_run.specs.Runs.{Run, Arrival}
use Rattle.replay_run.specs.Printing.{Printed, Call, Reset as Reopening, printed, first_line, printed_from, arrival_of}
use Rattle.replay_run.specs.Linearizability.{GridObject, is_on, history_of, Before, reset_lines}
use Rattle.replay_run.proofs.Counting.{count, count_part}

-- The entries were logged from one line to another: each call as it was made, and the resets at these lines.
abbrev pub AreStamped : List Arrival → ℕ → ℕ → List ℕ → List (Entry Request) → Type 0
AreStamped come since now lines [] = (lines ≡ []) × (since ≤ now)
AreStamped come since now lines (Called x ∷ es) = (a : Arrival) × In a come × (a.request.id ≡ id_of x) × (since ≤ a.made) × AreStamped come a.made now lines es
AreStamped come since now [] (Reset version ∷ es) = ⊥
AreStamped come since now (line ∷ lines) (Reset version ∷ es) = (since ≤ line) × AreStamped come line now lines es

-- more arrivals and later lines
pub stamped_later : (come more : List Arrival) (since now later : ℕ) (lines : List ℕ) (es : List (Entry Request)) → ((a : Arrival) → In a come → In a more) → now ≤ later
    → AreStamped come since now lines es → AreStamped more since later lines es
stamped_later come more since now later lines [] f l h = let before = h.1 in (h.0, omega (arith, l, before))
stamped_later come more since now later lines (Called x ∷ es) f l (a, i, e, k, h) = (a, f a i, e, k, stamped_later come more a.made now later lines es f l h)
stamped_later come more since now later [] (Reset version ∷ es) f l h = absurd h
stamped_later come more since now later (line ∷ lines) (Reset version ∷ es) f l (k, h) = (k, stamped_later come more line now later lines es f l h)

-- what was logged since a line was since an earlier one
pub stamped_sooner : (come : List Arrival) (sooner since now : ℕ) (lines : List ℕ) (es : List (Entry Request)) → sooner ≤ since
    → AreStamped come since now lines es → AreStamped come sooner now lines es
stamped_sooner come sooner since now lines [] l h = let before = h.1 in (h.0, omega (arith, l, before))
stamped_sooner come sooner since now lines (Called x ∷ es) l (a, i, e, k, h) = (a, i, e, omega (arith, l, k), h)
stamped_sooner come sooner since now [] (Reset version ∷ es) l h = absurd h
stamped_sooner come sooner since now (line ∷ lines) (Reset version ∷ es) l (k, h) = (omega (arith, l, k), h)

-- one call more
pub stamped_call : (come : List Arrival) (since now : ℕ) (lines : List ℕ) (es : List (Entry Request)) (x : Executed Request) (a : Arrival) → In a come → a.request.id ≡ id_of x → now ≤ a.made
    → AreStamped come since now lines es → AreStamped come since a.made lines (es ++ Called x ∷ [])
stamped_call come since now lines [] x a i e l h = let before = h.1 in (a, i, e, omega (arith, l, before), (h.0, omega arith))
stamped_call come since now lines (Called y ∷ es) x a i e l (b, j, f, k, h) = (b, j, f, k, stamped_call come b.made now lines es x a i e l h)
stamped_call come since now [] (Reset version ∷ es) x a i e l h = absurd h
stamped_call come since now (line ∷ lines) (Reset version ∷ es) x a i e l (k, h) = (k, stamped_call come line now lines es x a i e l h)

-- one reset more
pub stamped_reset : (come : List Arrival) (since now line : ℕ) (lines : List ℕ) (es : List (Entry Request)) (version : ℕ) → now ≤ line
    → AreStamped come since now lines es → AreStamped come since line (lines ++ line ∷ []) (es ++ Reset version ∷ [])
stamped_reset come since now line lines [] version l h =
    let before = h.1 in
    subst (λ ls. AreStamped come since line (ls ++ line ∷ []) (Reset version ∷ [])) (sym h.0) (omega (arith, l, before), (refl, omega arith))
stamped_reset come since now line lines (Called y ∷ es) version l (b, j, f, k, h) = (b, j, f, k, stamped_reset come b.made now line lines es version l h)
stamped_reset come since now line [] (Reset other ∷ es) version l h = absurd h
stamped_reset come since now line (first ∷ lines) (Reset other ∷ es) version l (k, h) = (k, stamped_reset come first now line lines es version l h)

-- a part that has all resets
pub stamped_part : (come : List Arrival) (since now : ℕ) (lines : List ℕ) (es fs : List (Entry Request)) → IsPart es fs → count is_reset es ≡ count is_reset fs
    → AreStamped come since now lines fs → AreStamped come since now lines es
stamped_part come since now lines es [] p s h = subst (λ ks. AreStamped come since now lines ks) (sym p) h
stamped_part come since now lines es (Called x ∷ fs) (inl p) s (a, i, e, l, h) = stamped_sooner come since a.made now lines es l (stamped_part come a.made now lines es fs p (omega (arith, s)) h)
stamped_part come since now lines es (Called x ∷ fs) (inr (zs, q, p)) s (a, i, e, l, h) =
    let resets : count is_reset zs ≡ count is_reset fs = let both = ap (count is_reset) q in omega (arith, both, s) in
    subst (λ ks. AreStamped come since now lines ks) (sym q) (a, i, e, l, stamped_part come a.made now lines zs fs p resets h)
stamped_part come since now [] es (Reset version ∷ fs) p s h = absurd h
stamped_part come since now (line ∷ lines) es (Reset version ∷ fs) (inl p) s h = let fewer = count_part is_reset es fs p in absurd (omega (arith, fewer, s))
stamped_part come since now (line ∷ lines) es (Reset version ∷ fs) (inr (zs, q, p)) s (l, h) =
    let both = ap (count is_reset) q in
    let resets : count is_reset zs ≡ count is_reset fs = omega (arith, both, s) in
    subst (λ ks. AreStamped come since now (line ∷ lines) ks) (sym q) (l, stamped_part come line now lines zs fs p resets h)

-- what is printed

-- the line at which an arrival that was found arrived, and that at which its call was made

abbrev pub made_of : Option Arrival → ℕ
made_of found = unwrap_or (option_map (λ (a : Arrival). a.made) found) 0

module _ (r : Run) where
  -- the line at which an entry was logged
  abbrev pub stamp : Printed → ℕ
  stamp (Call e) = made_of (arrival_of r e.id)
  stamp (Reopening e) = e.line

  abbrev pub NeverFalls : ℕ → List Printed → Type 0
  NeverFalls since [] = Unit {0}
  NeverFalls since (e ∷ es) = (since ≤ stamp e) × NeverFalls (stamp e) es

  pub falls_sooner : (sooner since : ℕ) (es : List Printed) → sooner ≤ since → NeverFalls since es → NeverFalls sooner es
  falls_sooner sooner since [] l h = tt
  falls_sooner sooner since (e ∷ es) l h = let k = h.0 in (omega (arith, l, k), h.1)

  pub falls_filtered : (t : Printed → Bool) (since : ℕ) (es : List Printed) → NeverFalls since es → NeverFalls since (filter t es)
  falls_filtered t since [] h = tt
  falls_filtered t since (e ∷ es) h = go (t e) (falls_filtered t (stamp e) es h.1)
    where
      go : (b : Bool) → NeverFalls (stamp e) (filter t es) → NeverFalls since (cond b (e ∷ filter t es) (filter t es))
      go true k = (h.0, k)
      go false k = falls_sooner since (stamp e) (filter t es) h.0 k

  pub falls_after : (since : ℕ) (es : List Printed) (a : Printed) → NeverFalls since es → In a es → since ≤ stamp a
  falls_after since [] a h i = absurd i
  falls_after since (e ∷ es) a h (inl s) = let k = ap stamp s in let l = h.0 in omega (arith, k, l)
  falls_after since (e ∷ es) a h (inr i) = let k = falls_after (stamp e) es a h.1 i in let l = h.0 in omega (arith, k, l)

  -- of two entries the one that was logged at the earlier line stands first
  pub stands_first : (since : ℕ) (es : List Printed) (a b : Printed) → NeverFalls since es → In a es → In b es → stamp a < stamp b → Before es a b
  stands_first since [] a b h i j l = absurd i
  stands_first since (e ∷ es) a b h (inl s) (inl t) l = let k = ap stamp s in let m = ap stamp t in absurd (omega (arith, k, m, l))
  stands_first since (e ∷ es) a b h (inl s) (inr j) l = inl (s, contains_in b es j)
  stands_first since (e ∷ es) a b h (inr i) (inl t) l = let k = falls_after (stamp e) es a h.1 i in let m = ap stamp t in absurd (omega (arith, k, m, l))
  stands_first since (e ∷ es) a b h (inr i) (inr j) l = inr (stands_first (stamp e) es a b h.1 i j l)

module _ (r : Run) (found : (a : Arrival) → In a r.arrivals → arrival_of r a.request.id ≡ Some a) where
  pub printed_falls : (p place since now : ℕ) (lines : List ℕ) (es : List (Entry Request)) → AreStamped r.arrivals since now lines es → NeverFalls r since (printed_from r p place lines es)
  printed_falls p place since now lines [] h = tt
  printed_falls p place since now lines (Called x ∷ es) (a, i, e, l, h) =
      let at : a.made ≡ stamp r (Call (printed r p place x)) = sym (ap made_of (found a i)) ∙ ap (λ c. made_of (arrival_of r c)) e in
      (subst (λ n. since ≤ n) at l, subst (λ n. NeverFalls r n (printed_from r p (place + 1) lines es)) at (printed_falls p (place + 1) a.made now lines es h))
  printed_falls p place since now [] (Reset version ∷ es) h = absurd h
  printed_falls p place since now (line ∷ lines) (Reset version ∷ es) (l, h) = (l, printed_falls p (place + 1) line now lines es h)

-- the resets are printed with their lines
pub printed_resets : (r : Run) (come : List Arrival) (p place since now : ℕ) (lines : List ℕ) (es : List (Entry Request)) → AreStamped come since now lines es
    → reset_lines (printed_from r p place lines es) ≡ lines
printed_resets r come p place since now lines [] h = sym h.0
printed_resets r come p place since now lines (Called x ∷ es) (a, i, e, l, h) = printed_resets r come p (place + 1) a.made now lines es h
printed_resets r come p place since now [] (Reset version ∷ es) h = absurd h
printed_resets r come p place since now (line ∷ lines) (Reset version ∷ es) (l, h) = ap (λ ls. line ∷ ls) (printed_resets r come p (place + 1) line now lines es h)

-- and stand in the history of each object of the partition
pub history_resets : (r : Run) (object : GridObject) (place : ℕ) (lines : List ℕ) (es : List (Entry Request))
    → reset_lines (history_of object (printed_from r object.partition place lines es)) ≡ reset_lines (printed_from r object.partition place lines es)
history_resets r object place lines [] = refl
history_resets r object place lines (Called x ∷ es) = go (is_on object x.call) (history_resets r object (place + 1) lines es)
  where
    rest : List Printed
    rest = printed_from r object.partition (place + 1) lines es

    go : (b : Bool) → reset_lines (history_of object rest) ≡ reset_lines rest → reset_lines (cond b (Call (printed r object.partition place x) ∷ history_of object rest) (history_of object rest)) ≡ reset_lines rest
    go true e = e
    go false e = e
history_resets r object place lines (Reset version ∷ es) = rw (number_same object.partition object.partition refl) (ap (λ ls. first_line lines ∷ ls) (history_resets r object (place + 1) (drop 1 lines) es))
