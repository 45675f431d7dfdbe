-- The text of a recorded history: what the code prints of its entries is what the run has of them.
use Rattle.std.proofs.Common.{◌≡◌, ℕ, zero, suc, ◌+◌, ◌≤◌, List, [], ◌∷◌, ◌++◌, length, get_or, take, drop, map, Option, Some, None, slice_get, refl, ap, sym, ◌∙◌, subst, append_assoc, append-nil, arith}
use Rattle.std.specs.Option.{option_map, option_or, unwrap_or}
use Rattle.std.specs.List.{find, flat_map}
use Rattle.std.proofs.lemmas.List.{take_all}
use Rattle.std.proofs.lemmas.List.Concat.{flat_map-append}
use Rattle.grid_base.specs.declared.names.CallId.{CallId}
use Rattle.grid_base.specs.declared.calls.Request.{Request}
use Rattle.partition_protocol.specs.History.{Entry as ProtocolEntry, Called, Reset}
use Rattle.partition_protocol.specs.Service.{numbers_below}
use Rattle.partition_world.specs.RecordedEntries.{entry_of}
use Rattle.partition_world.specs.declared.entry.Entry.{Entry}
use Rattle.partition_world.specs.declared.entry.Entry.TheVariants.{Call, Reset as ResetEntry}
use Rattle.partition_world.proofs.Places.{read_there, get_map}
use Rattle.replay_run.specs.declared.connections.CallLines.{CallLines}
use Rattle.grid_base.specs.Objects.{Object}
use Rattle.object_store.specs.Partitions.{Partition}
use Rattle.call_engine.specs.Calls.{Settings}
use Rattle.replay_run.specs.Runs.{Run, Arrival, Waiter, Appended, is_waiter, reopened_at}
use Rattle.replay_run.specs.Printing.{Printed, Call as CallShown, Reset as ResetShown, printed, first_line, printed_from, entry_text, entries_of, arrival_of, came_at, answer_of}
use Rattle.replay_run.specs.PrintedEntries.{arrived_in, answered_in, printed_as, resets_in}
use Rattle.replay_run.specs.ScriptRuns.{IsRun}
use Rattle.replay_run.specs.Grids.{GridWorld, IsWorld, HasWorld, HasTable}
use Rattle.replay_run.specs.Tables.{Table}
use Rattle.replay_run.proofs.RunsOfLines.{unheard_unanswered}

-- the world that the code reads is a partition's
pub indexed_world : {settings : Settings} (ws : List GridWorld) (r : Run) (p i : ℕ) (world : GridWorld) → HasWorld settings ws r p → i ≡ p → world ≡ get_or ws i world → IsWorld settings world r p
indexed_world {settings = settings} ws r p i world has same read = subst (λ w. IsWorld settings w r p) (sym (read_there ws p i has.world world same has.there read)) has.is

-- an entry

pub grouped : (out a b c d e f g h : List ℕ) → (((((((out ++ a) ++ b) ++ c) ++ d) ++ e) ++ f) ++ g) ++ h ≡ out ++ (((((((a ++ b) ++ c) ++ d) ++ e) ++ f) ++ g) ++ h)
grouped out a b c d e f g h =
    ap (λ t. (((((t ++ c) ++ d) ++ e) ++ f) ++ g) ++ h) (append_assoc out a b)
    ∙ ap (λ t. ((((t ++ d) ++ e) ++ f) ++ g) ++ h) (append_assoc out (a ++ b) c)
    ∙ ap (λ t. (((t ++ e) ++ f) ++ g) ++ h) (append_assoc out ((a ++ b) ++ c) d)
    ∙ ap (λ t. ((t ++ f) ++ g) ++ h) (append_assoc out (((a ++ b) ++ c) ++ d) e)
    ∙ ap (λ t. (t ++ g) ++ h) (append_assoc out ((((a ++ b) ++ c) ++ d) ++ e) f)
    ∙ ap (λ t. t ++ h) (append_assoc out (((((a ++ b) ++ c) ++ d) ++ e) ++ f) g)
    ∙ append_assoc out ((((((a ++ b) ++ c) ++ d) ++ e) ++ f) ++ g) h

abbrev with_lines : Option Appended → ℕ → CallLines
with_lines answer line = record { arrived = line; answered = option_map (λ (m : Appended). m.line) answer }

arrived_same : (come : Option ℕ) (answer : Option Appended) → arrived_in (option_map (with_lines answer) come) ≡ unwrap_or come 0
arrived_same None answer = refl
arrived_same (Some line) answer = refl

answered_same : (come : Option ℕ) (answer : Option Appended) → (come ≡ None → answer ≡ None) → answered_in (option_map (with_lines answer) come) ≡ option_map (λ (m : Appended). m.line) answer
answered_same None answer unheard = sym (ap (option_map (λ (m : Appended). m.line)) (unheard refl))
answered_same (Some line) answer unheard = refl

-- a call that came at no line has no answer
pub uncome_unanswered : {o : Object Request Partition} (r : Run) → IsRun o r → (id : CallId) → came_at r id ≡ None → answer_of r id ≡ None
uncome_unanswered r is id none = unheard_unanswered r is id (go (arrival_of r id) refl)
  where
    go : (found : Option Arrival) → arrival_of r id ≡ found → arrival_of r id ≡ None
    go None e = e
    go (Some a) e = absurd (let clash : Some a.line ≡ None = subst (λ (x : Option Arrival). option_or (option_map (λ (b : Arrival). b.line) x) (option_map (λ (w : Waiter). w.line) (find (is_waiter id) r.waiters)) ≡ None) e none in cc)

-- what the run prints of an entry at that place
abbrev pub printed_one : Run → ℕ → ℕ → List ℕ → ProtocolEntry Request → List Printed
printed_one r p place lines e = printed_from r p place lines (e ∷ [])

printed_is : {o : Object Request Partition} (r : Run) → IsRun o r → (table : Table) → HasTable table r → (p place : ℕ) (lines : List ℕ) (entry : Entry Request)
    → printed_as p place (first_line lines) entry table ∷ [] ≡ printed_one r p place lines (entry_of entry)
printed_is r is table has p place lines (Call id version seen now call reply) =
    let same = has.calls id in
    let come = ap arrived_in same ∙ arrived_same (came_at r id) (answer_of r id) in
    let answers = ap answered_in same ∙ answered_same (came_at r id) (answer_of r id) (uncome_unanswered r is id) in
    λ i. CallShown (record {
      partition = p;
      place = place;
      id = id;
      arrived = come i;
      answered = answers i;
      now = now;
      request = call;
      reply = reply;
    }) ∷ []
printed_is r is table has p place lines (ResetEntry version) = refl

-- a history

pub mapped_at : (es : List (Entry Request)) (k : ℕ) (e : Entry Request) → slice_get es k ≡ Some e → slice_get (map entry_of es) k ≡ Some (entry_of e)
mapped_at es k e there = get_map entry_of es k e there

drop_next : (n : ℕ) (xs : List ℕ) → drop n (drop 1 xs) ≡ drop (suc n) xs
drop_next zero [] = refl
drop_next (suc n) [] = refl
drop_next n (x ∷ xs) = refl

printed_more : (r : Run) (p n k : ℕ) (lines : List ℕ) (es : List (ProtocolEntry Request)) (x : ProtocolEntry Request) → slice_get es k ≡ Some x
    → printed_from r p n lines (take (suc k) es) ≡ printed_from r p n lines (take k es) ++ printed_one r p (n + k) (drop (resets_in (take k es)) lines) x
printed_more r p n k lines [] x there = absurd cc
printed_more r p n zero lines (y ∷ es) x there =
    let same : y ≡ x = cc in
    let at : n ≡ n + 0 = omega arith in
    λ i. printed_one r p (at i) lines (same i)
printed_more r p n (suc k) lines (Called y ∷ es) x there =
    let at : (n + 1) + k ≡ n + suc k = omega arith in
    ap (λ ps. CallShown (printed r p n y) ∷ ps)
    (printed_more r p (n + 1) k lines es x there ∙ ap (λ m. printed_from r p (n + 1) lines (take k es) ++ printed_one r p m (drop (resets_in (take k es)) lines) x) at)
printed_more r p n (suc k) lines (Reset version ∷ es) x there =
    let at : (n + 1) + k ≡ n + suc k = omega arith in
    ap (λ ps. ResetShown (record { partition = p; place = n; line = first_line lines }) ∷ ps)
    (printed_more r p (n + 1) k (drop 1 lines) es x there
    ∙ ap (λ m. printed_from r p (n + 1) (drop 1 lines) (take k es) ++ printed_one r p m (drop (resets_in (take k es)) (drop 1 lines)) x) at
    ∙ ap (λ ls. printed_from r p (n + 1) (drop 1 lines) (take k es) ++ printed_one r p (n + suc k) ls x) (drop_next (resets_in (take k es)) lines))

resets_one : (y : ProtocolEntry Request) (es : List (ProtocolEntry Request)) → resets_in (take (suc zero) (y ∷ es)) ≡ resets_in (y ∷ [])
resets_one (Called y) es = refl
resets_one (Reset version) es = refl

-- a reset counts, and a call doesn't
pub resets_more : (k : ℕ) (es : List (ProtocolEntry Request)) (entry : Entry Request) → slice_get es k ≡ Some (entry_of entry) → resets_in (take (suc k) es) ≡ resets_in (take k es) + resets_in (entry_of entry ∷ [])
resets_more k [] entry there = absurd cc
resets_more zero (y ∷ es) entry there =
    let same : y ≡ entry_of entry = cc in
    let one : resets_in (take (suc zero) (y ∷ es)) ≡ resets_in (entry_of entry ∷ []) = resets_one y es ∙ ap (λ e. resets_in (e ∷ [])) same in
    let none : resets_in (take zero (y ∷ es)) ≡ 0 = refl in
    omega (arith, one, none)
resets_more (suc k) (Called y ∷ es) entry there = resets_more k es entry there
resets_more (suc k) (Reset version ∷ es) entry there = let more = resets_more k es entry there in omega (arith, more)

pub resets_of_one : (entry : Entry Request) → resets_in (entry_of entry ∷ []) ≤ 1
resets_of_one (Call id version seen now call reply) = omega arith
resets_of_one (ResetEntry version) = omega arith

-- the text of a history's entries below a place
abbrev pub text_below : Run → ℕ → List (ProtocolEntry Request) → ℕ → List ℕ
text_below r p es place = flat_map (entry_text r.lines) (printed_from r p 0 (reopened_at p r.reopened) (take place es))

-- one entry more
pub text_more : {o : Object Request Partition} (r : Run) → IsRun o r → (table : Table) → HasTable table r → (p line place reopened : ℕ) (es : List (ProtocolEntry Request)) (entry : Entry Request) (written before after : List ℕ)
    → slice_get es place ≡ Some (entry_of entry) → line ≡ r.lines → reopened ≡ first_line (drop (resets_in (take place es)) (reopened_at p r.reopened))
    → before ≡ written ++ text_below r p es place → after ≡ before ++ entry_text line (printed_as p place reopened entry table) → after ≡ written ++ text_below r p es (place + 1)
text_more r is table has p line place reopened es entry written before after there at_line at_reset so_far more =
    more ∙ (λ i. so_far i ++ entry_text (at_line i) (printed_as p place (at_reset i) entry table))
    ∙ append_assoc written (text_below r p es place) (entry_text r.lines (printed_as p place (first_line left) entry table))
    ∙ ap (λ xs. written ++ (text_below r p es place ++ xs)) (sym (append-nil (entry_text r.lines (printed_as p place (first_line left) entry table))) ∙ ap (flat_map (entry_text r.lines)) (printed_is r is table has p place left entry))
    ∙ ap (λ xs. written ++ xs) (sym grown)
  where
    left : List ℕ
    left = drop (resets_in (take place es)) (reopened_at p r.reopened)

    at : place ≡ 0 + place
    at = omega arith

    next : place + 1 ≡ suc place
    next = omega arith

    grown : text_below r p es (place + 1) ≡ text_below r p es place ++ flat_map (entry_text r.lines) (printed_one r p place left (entry_of entry))
    grown =
        ap (λ n. flat_map (entry_text r.lines) (printed_from r p 0 (reopened_at p r.reopened) (take n es))) next
        ∙ ap (flat_map (entry_text r.lines)) (printed_more r p 0 place (reopened_at p r.reopened) es (entry_of entry) there)
        ∙ flat_map-append (entry_text r.lines) (printed_from r p 0 (reopened_at p r.reopened) (take place es)) (printed_one r p (0 + place) left (entry_of entry))
        ∙ ap (λ n. text_below r p es place ++ flat_map (entry_text r.lines) (printed_one r p n left (entry_of entry))) (sym at)

pub text_whole : (r : Run) (p place : ℕ) (es : List (ProtocolEntry Request)) → length es ≡ place → text_below r p es place ≡ flat_map (entry_text r.lines) (printed_from r p 0 (reopened_at p r.reopened) es)
text_whole r p place es whole = ap (λ xs. flat_map (entry_text r.lines) (printed_from r p 0 (reopened_at p r.reopened) xs)) (take_all place es (omega (arith, whole)))

-- all histories

-- the text of the histories of the partitions below a number
abbrev pub texts_below : {State : Type 0} → Object Request State → Run → ℕ → List ℕ
texts_below o r n = flat_map (entry_text r.lines) (flat_map (entries_of o r) (numbers_below n))

pub texts_more : {State : Type 0} (o : Object Request State) (r : Run) (n : ℕ) (written before after : List ℕ) → before ≡ written ++ texts_below o r n → after ≡ before ++ flat_map (entry_text r.lines) (entries_of o r n)
    → after ≡ written ++ texts_below o r (n + 1)
texts_more o r n written before after so_far more =
    more ∙ ap (λ xs. xs ++ flat_map (entry_text r.lines) (entries_of o r n)) so_far
    ∙ append_assoc written (texts_below o r n) (flat_map (entry_text r.lines) (entries_of o r n)) ∙ ap (λ xs. written ++ xs) (sym grown)
  where
    next : n + 1 ≡ suc n
    next = omega arith

    grown : texts_below o r (n + 1) ≡ texts_below o r n ++ flat_map (entry_text r.lines) (entries_of o r n)
    grown =
        ap (texts_below o r) next
        ∙ ap (flat_map (entry_text r.lines)) (flat_map-append (entries_of o r) (numbers_below n) (n ∷ []) ∙ ap (λ ps. flat_map (entries_of o r) (numbers_below n) ++ ps) (append-nil (entries_of o r n)))
        ∙ flat_map-append (entry_text r.lines) (flat_map (entries_of o r) (numbers_below n)) (entries_of o r n)
