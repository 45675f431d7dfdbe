-- A partition's history, of one of its objects, is the history of that object.
use Rattle.std.proofs.Common.{◌≡◌, ℕ, Bool, true, false, cond, List, [], ◌∷◌, filter, refl, ap, sym, ◌∙◌, subst, ⊎_elim, true≢false}
use Rattle.grid_base.specs.Names.{is_same, object_of}
use Rattle.grid_base.specs.declared.names.ObjectKey.{ObjectKey}
use Rattle.grid_base.specs.declared.calls.GridCall.{GridCall}
use Rattle.grid_base.specs.declared.calls.GridCall.TheVariants as call
use Rattle.grid_base.specs.declared.calls.Request.{Request}
use Rattle.object_store.specs.Records.{Record, nothing_of, suits}
use Rattle.object_store.specs.Partitions.{Partition, nothing_stored, record_at, with_record}
use Rattle.object_store.proofs.PartitionLaws.{same_name, is_same_self, record_at-nothing, record_at-with, record_at-other}
use Rattle.call_engine.specs.Calls.{Settings, after}
use Rattle.call_engine.specs.Objects.{target_of, reply_to, one_object, partition_object}
use Rattle.partition_protocol.specs.Claims.{is_reset}
use Rattle.partition_protocol.specs.History.{Entry, Called, Reset, IsLegal, state_after}
use Rattle.partition_protocol.proofs.Lists.{cases}
use Rattle.partition_protocol.proofs.RowFacts.{false_or_not}
use Rattle.live_history_laws.specs.Entries.{asks_of, is_of}

-- it doesn't matter which is named first
same_name_sym : (a b : ObjectKey) → is_same a b ≡ false → is_same b a ≡ false
same_name_sym a b e = false_or_not (is_same b a) (λ s. true≢false (sym (subst (λ c. is_same a c ≡ true) (sym (same_name b a s)) (is_same_self a)) ∙ e))

suits_after : (settings : Settings) (kept : Record) (c : GridCall) (now : ℕ) → suits (object_of c) (after settings kept c now) ≡ true
suits_after settings kept (call.Map c) now = refl
suits_after settings kept (call.Queue c) now = refl

-- what a call leaves of its object, and of another
module _ (settings : Settings) (s : Partition) (request : Request) (now : ℕ) where
  abbrev left : Record
  left = after settings (record_at s (target_of request)) request.call now

  abbrev next : Partition
  next = with_record s (target_of request) left

  left_on : (name : ObjectKey) (kept : Record) → asks_of name request ≡ true → record_at s name ≡ kept → record_at next name ≡ after settings kept request.call now
  left_on name kept on is =
      ap (record_at next) (sym (same_name (target_of request) name on))
      ∙ record_at-with s (target_of request) left (suits_after settings (record_at s (target_of request)) request.call now)
      ∙ ap (λ k. after settings k request.call now) (ap (record_at s) (same_name (target_of request) name on) ∙ is)

  left_off : (name : ObjectKey) (kept : Record) → asks_of name request ≡ false → record_at s name ≡ kept → record_at next name ≡ kept
  left_off name kept other is = record_at-other s (target_of request) left name (same_name_sym (target_of request) name other) ∙ is

module _ (settings : Settings) (name : ObjectKey) where
  abbrev Legal : Record → List (Entry Request) → Type 0
  Legal kept es = IsLegal (one_object settings name) kept es

  -- a legal history is legal for each of the objects: a reset empties them all
  pub legal_on : (s : Partition) (kept : Record) (es : List (Entry Request)) → record_at s name ≡ kept → IsLegal (partition_object settings) s es → Legal kept (filter (is_of name) es)
  legal_on s kept [] is h = tt
  legal_on s kept (Reset version ∷ es) is h = legal_on nothing_stored (nothing_of name) es (record_at-nothing name) h
  legal_on s kept (Called x ∷ es) is h =
      ⊎_elim (λ on. here on (legal_on (next settings s x.call x.now) (after settings kept x.call.call x.now) es (left_on settings s x.call x.now name kept on is) h.1))
      (λ other. there other (legal_on (next settings s x.call x.now) kept es (left_off settings s x.call x.now name kept other is) h.1))
      (cases (asks_of name x.call))
    where
      rest : List (Entry Request)
      rest = filter (is_of name) es

      here : asks_of name x.call ≡ true → Legal (after settings kept x.call.call x.now) rest → Legal kept (filter (is_of name) (Called x ∷ es))
      here on legal =
          subst (λ b. Legal kept (cond b (Called x ∷ rest) rest)) (sym on)
          (h.0 ∙ ap (λ k. reply_to settings k x.call x.now) (ap (record_at s) (same_name (target_of x.call) name on) ∙ is), legal)

      there : asks_of name x.call ≡ false → Legal kept rest → Legal kept (filter (is_of name) (Called x ∷ es))
      there other legal = subst (λ b. Legal kept (cond b (Called x ∷ rest) rest)) (sym other) legal

  -- and what it leaves of each is what is left by what it has of it
  pub left_of_object : (s : Partition) (kept : Record) (es : List (Entry Request)) → record_at s name ≡ kept → record_at (state_after (partition_object settings) s es) name ≡ state_after (one_object settings name) kept (filter (is_of name) es)
  left_of_object s kept [] is = is
  left_of_object s kept (Reset version ∷ es) is = left_of_object nothing_stored (nothing_of name) es (record_at-nothing name)
  left_of_object s kept (Called x ∷ es) is =
      ⊎_elim (λ on. here on (left_of_object (next settings s x.call x.now) (after settings kept x.call.call x.now) es (left_on settings s x.call x.now name kept on is)))
      (λ other. there other (left_of_object (next settings s x.call x.now) kept es (left_off settings s x.call x.now name kept other is)))
      (cases (asks_of name x.call))
    where
      rest : List (Entry Request)
      rest = filter (is_of name) es

      Left : Bool → Type 0
      Left b = record_at (state_after (partition_object settings) (next settings s x.call x.now) es) name ≡ state_after (one_object settings name) kept (cond b (Called x ∷ rest) rest)

      here : asks_of name x.call ≡ true → record_at (state_after (partition_object settings) (next settings s x.call x.now) es) name ≡ state_after (one_object settings name) (after settings kept x.call.call x.now) rest
          → Left (asks_of name x.call)
      here on same = subst Left (sym on) same

      there : asks_of name x.call ≡ false → record_at (state_after (partition_object settings) (next settings s x.call x.now) es) name ≡ state_after (one_object settings name) kept rest → Left (asks_of name x.call)
      there other same = subst Left (sym other) same

  -- each has all resets
  pub resets_on : (es : List (Entry Request)) → filter is_reset (filter (is_of name) es) ≡ filter is_reset es
  resets_on [] = refl
  resets_on (Reset version ∷ es) = ap (λ rs. Reset version ∷ rs) (resets_on es)
  resets_on (Called x ∷ es) = go (asks_of name x.call) (resets_on es)
    where
      go : (b : Bool) → filter is_reset (filter (is_of name) es) ≡ filter is_reset es → filter is_reset (cond b (Called x ∷ filter (is_of name) es) (filter (is_of name) es)) ≡ filter is_reset es
      go true e = e
      go false e = e
