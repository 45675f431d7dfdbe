-- A partition's history, of one of its objects: it is the history of that object, and no other partition has any of it.
use Rattle.std.proofs.Common.{◌≡◌, ◌≢◌, ℕ, ◌+◌, ◌==◌, ◌<◌, ◌≤◌, suc, zero, true, false, cond, List, [], ◌∷◌, ◌++◌, drop, flat_map, refl, ap, sym, ◌∙◌, subst, ⊎_elim, inl, inr, arith, append-nil, true≢false}
use Rattle.std.proofs.lemmas.List.Elements.{filter-append}
use Rattle.std.proofs.lemmas.Bool.Decides.{nat_tests}
use Rattle.std.proofs.lemmas.Grind.{flat_map-append}
use Rattle.grid_base.specs.Names.{is_same, object_of}
use Rattle.grid_base.specs.declared.names.ObjectKey.{ObjectKey}
use Rattle.grid_base.specs.declared.calls.GridCall.{GridCall}
use Rattle.grid_base.specs.declared.calls.GridCall.TheVariants as call
use Rattle.grid_base.specs.declared.calls.Request.{Request}
use Rattle.object_store.specs.Records.{Record, nothing_of, suits}
use Rattle.object_store.specs.Partitions.{Partition, nothing_stored, record_at, with_record}
use Rattle.object_store.proofs.PartitionLaws.{same_name, is_same_self, record_at-nothing, record_at-with, record_at-other}
use Rattle.call_engine.specs.Calls.{Settings, after}
use Rattle.call_engine.specs.Objects.{target_of, reply_to, one_object, partition_object}
use Rattle.partition_protocol.specs.History.{Entry, Executed, Called, Reset, IsLegal as IsLegalOf}
use Rattle.partition_protocol.specs.Service.{numbers_below}
use Rattle.partition_protocol.proofs.Lists.{In, cases}
use Rattle.partition_protocol.proofs.RowFacts.{false_or_not, both, both_left, both_right, number_same, number_other}
use Rattle.partition_protocol.proofs.Forward.{le_cases}
use Rattle.replay_run.specs.Runs.{Run}
use Rattle.replay_run.specs.Printing.{Printed, Call, Reset as Reopening, printed, first_line, printed_from}
use Rattle.replay_run.specs.Linearizability.{GridObject, is_on, is_of, history_of, IsLegal}
use Rattle.replay_run.specs.ScriptRuns.{home}
use Rattle.replay_run.proofs.Places.{same_number}
use Rattle.replay_run.proofs.Trails.{executed}

-- which object a call is on

pub on_partition : (object : GridObject) (request : Request) → is_on object request ≡ true → home request ≡ object.partition
on_partition object request on = same_number (home request) object.partition (both_left (home request == object.partition) (is_same (target_of request) object.name) on)

on_object : (object : GridObject) (request : Request) → home request ≡ object.partition → is_same (target_of request) object.name ≡ true → is_on object request ≡ true
on_object object request here same = both (home request == object.partition) (is_same (target_of request) object.name) (grind (arith, nat_tests, here)) same

on_other : (object : GridObject) (request : Request) → is_same (target_of request) object.name ≡ false → is_on object request ≡ false
on_other object request other = false_or_not (is_on object request) (λ on. let same = both_right (home request == object.partition) (is_same (target_of request) object.name) on in cc)

-- It doesn't matter which is named first.
same_name_sym : (a b : ObjectKey) → is_same a b ≡ false → is_same b a ≡ false
same_name_sym a b e = false_or_not (is_same b a) (λ s. true≢false (sym (subst (λ c. is_same a c ≡ true) (sym (same_name b a s)) (is_same_self a)) ∙ e))

-- what a call leaves of its object, and of another

suits_after : (settings : Settings) (kept : Record) (c : GridCall) (now : ℕ) → suits (object_of c) (after settings kept c now) ≡ true
suits_after settings kept (call.Map c) now = refl
suits_after settings kept (call.Queue c) now = refl

module _ (settings : Settings) (s : Partition) (request : Request) (now : ℕ) where
  abbrev pub left : Record
  left = after settings (record_at s (target_of request)) request.call now

  abbrev pub next : Partition
  next = with_record s (target_of request) left

  pub left_on : (name : ObjectKey) (kept : Record) → is_same (target_of request) name ≡ true → record_at s name ≡ kept → record_at next name ≡ after settings kept request.call now
  left_on name kept on is =
      ap (record_at next) (sym (same_name (target_of request) name on))
      ∙ record_at-with s (target_of request) left (suits_after settings (record_at s (target_of request)) request.call now)
      ∙ ap (λ k. after settings k request.call now) (ap (record_at s) (same_name (target_of request) name on) ∙ is)

  pub left_off : (name : ObjectKey) (kept : Record) → is_same (target_of request) name ≡ false → record_at s name ≡ kept → record_at next name ≡ kept
  left_off name kept other is = record_at-other s (target_of request) left name (same_name_sym (target_of request) name other) ∙ is

-- Of a partition whose calls are on its own objects, a legal history is legal for each of these: a reset empties them all.
pub legal_on : (settings : Settings) (r : Run) (object : GridObject) (place : ℕ) (lines : List ℕ) (s : Partition) (kept : Record) (es : List (Entry Request))
    → ((x : Executed Request) → In x (executed es) → home x.call ≡ object.partition)
    → record_at s object.name ≡ kept → IsLegalOf (partition_object settings) s es
    → IsLegal (one_object settings object.name) kept (history_of object (printed_from r object.partition place lines es))
legal_on settings r object place lines s kept [] own is h = tt
legal_on settings r object place lines s kept (Reset version ∷ es) own is h =
    let entry : Printed = Reopening (record { partition = object.partition; place = place; line = first_line lines }) in
    let rest = history_of object (printed_from r object.partition (place + 1) (drop 1 lines) es) in
    subst (λ b. IsLegal (one_object settings object.name) kept (cond b (entry ∷ rest) rest)) (sym (number_same object.partition object.partition refl))
    (legal_on settings r object (place + 1) (drop 1 lines) nothing_stored (nothing_of object.name) es own (record_at-nothing object.name) h)
legal_on settings r object place lines s kept (Called x ∷ es) own is h =
    ⊎_elim (λ on. here on (legal_on settings r object (place + 1) lines then (after settings kept x.call.call x.now) es later (left_on settings s x.call x.now object.name kept on is) h.1))
    (λ other. there other (legal_on settings r object (place + 1) lines then kept es later (left_off settings s x.call x.now object.name kept other is) h.1))
    (cases (is_same (target_of x.call) object.name))
  where
    then : Partition
    then = next settings s x.call x.now

    later : (y : Executed Request) → In y (executed es) → home y.call ≡ object.partition
    later y i = own y (inr i)

    entry : Printed
    entry = Call (printed r object.partition place x)

    entries : List Printed
    entries = history_of object (printed_from r object.partition (place + 1) lines es)

    here : is_same (target_of x.call) object.name ≡ true → IsLegal (one_object settings object.name) (after settings kept x.call.call x.now) entries
        → IsLegal (one_object settings object.name) kept (history_of object (printed_from r object.partition place lines (Called x ∷ es)))
    here on rest =
        subst (λ b. IsLegal (one_object settings object.name) kept (cond b (entry ∷ entries) entries)) (sym (on_object object x.call (own x (inl refl)) on))
        (h.0 ∙ ap (λ k. reply_to settings k x.call x.now) (ap (record_at s) (same_name (target_of x.call) object.name on) ∙ is), rest)

    there : is_same (target_of x.call) object.name ≡ false → IsLegal (one_object settings object.name) kept entries
        → IsLegal (one_object settings object.name) kept (history_of object (printed_from r object.partition place lines (Called x ∷ es)))
    there other rest =
        subst (λ b. IsLegal (one_object settings object.name) kept (cond b (entry ∷ entries) entries)) (sym (on_other object x.call other)) rest

-- entries of another partition, with its resets and its calls, which are elsewhere
pub history_elsewhere : (r : Run) (p place : ℕ) (lines : List ℕ) (object : GridObject) (es : List (Entry Request)) → p ≢ object.partition
    → ((x : Executed Request) → In x (executed es) → home x.call ≢ object.partition) → history_of object (printed_from r p place lines es) ≡ []
history_elsewhere r p place lines object [] other away = refl
history_elsewhere r p place lines object (Reset version ∷ es) other away = rw (number_other p object.partition other) (history_elsewhere r p (place + 1) (drop 1 lines) object es other away)
history_elsewhere r p place lines object (Called x ∷ es) other away =
    let rest = history_elsewhere r p (place + 1) lines object es other (λ y i. away y (inr i)) in
    let entries = history_of object (printed_from r p (place + 1) lines es) in
    ap (λ b. cond b (Call (printed r p place x) ∷ entries) entries) (false_or_not (is_on object x.call) (λ on. away x (inl refl) (on_partition object x.call on))) ∙ rest

-- of the entries of many partitions, those on an object are of its own
module _ (object : GridObject) (entries : ℕ → List Printed) (elsewhere : (q : ℕ) → object.partition ≢ q → history_of object (entries q) ≡ []) where
  abbrev pub history_below : ℕ → List Printed
  history_below n = history_of object (flat_map entries (numbers_below n))

  pub history_suc : (n : ℕ) → history_below (suc n) ≡ history_below n ++ history_of object (entries n)
  history_suc n =
      ap (history_of object) (flat_map-append entries (numbers_below n) (n ∷ []))
      ∙ filter-append (is_of object) (flat_map entries (numbers_below n)) (flat_map entries (n ∷ []))
      ∙ ap (λ es. history_below n ++ history_of object es) (append-nil (entries n))

  pub history_past : (n : ℕ) → n ≤ object.partition → history_below n ≡ []
  history_past zero l = refl
  history_past (suc n) l =
      let other : object.partition ≢ n = omega (arith, l) in
      let before = history_past n (omega (arith, l)) in
      history_suc n ∙ ap (λ es. es ++ history_of object (entries n)) before ∙ elsewhere n other

  pub history_at : (n : ℕ) → object.partition < n → history_below n ≡ history_of object (entries object.partition)
  history_at zero l = absurd (omega (arith, l))
  history_at (suc n) l = history_suc n ∙ ⊎_elim last (λ k. earlier k (history_at n k)) (le_cases object.partition n (omega (arith, l)))
    where
      last : object.partition ≡ n → history_below n ++ history_of object (entries n) ≡ history_of object (entries object.partition)
      last e = ap (λ es. es ++ history_of object (entries n)) (history_past n (omega (arith, e))) ∙ ap (λ k. history_of object (entries k)) (sym e)

      earlier : object.partition < n → history_below n ≡ history_of object (entries object.partition) → history_below n ++ history_of object (entries n) ≡ history_of object (entries object.partition)
      earlier k before =
          let other : object.partition ≢ n = omega (arith, k) in
          ap (λ es. history_below n ++ es) (elsewhere n other) ∙ append-nil (history_below n) ∙ before
