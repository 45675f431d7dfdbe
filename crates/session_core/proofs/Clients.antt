-- Who the client of a connection is after its messages.
use Rattle.std.specs.Prelude.{slice_get, take, All}
use Rattle.std.proofs.Common.{◌≡◌, ℕ, zero, suc, ◌+◌, ◌==◌, Bool, true, false, cond, List, [], ◌∷◌, Option, Some, None, Result, Ok, Err, pos, refl, ap, sym, ◌∙◌, subst, ◌⊎◌, inl, inr, arith}
use Rattle.std.specs.Cmp.Lexicographic.{same_text, other_text}
use Rattle.std.proofs.lemmas.Bool.Decides.{nat_tests}
use Rattle.std.proofs.lemmas.List.Elements.{All-nil, All-cons, All-head, All-tail}
use Rattle.grid_base.specs.Errors.{not_authenticated}
use Rattle.grid_base.specs.declared.names.CallId.{CallId}
use Rattle.grid_base.specs.declared.names.ClientKey.{ClientKey}
use Rattle.grid_base.specs.declared.calls.Request.{Request}
use Rattle.grid_base.specs.declared.refusal.CallRefused.{CallRefused}
use Rattle.message_frames.specs.declared.message.Message.{Message}
use Rattle.client_codecs.specs.Authentications.{authentication_kind, authentication_of}
use Rattle.client_codecs.specs.declared.authentications.Authentication.{Authentication}
use Rattle.session_core.specs.Items.{kind_of, cluster_name, is_accepted, client_of, identity_by, identity_after, identity_after_all, authentication_item, error_to, item_of, items_from}
use Rattle.session_core.specs.Laws.{Accepts, AcceptsNone, IsLastAccepted, IsOf, the_last_accepted_is_the_client, every_call_is_authenticated, nothing_else_is_served_before}
use Rattle.session_core.proofs.ItemLists.{identity_after_all-append}
use Rattle.session_core.proofs.CallsRead.{asked_read}
use Rattle.session_core.proofs.CallsAt.{call_at}

same_kind : (a b : ℕ) → (a == b) ≡ true → a ≡ b
same_kind a b e = grind (arith, nat_tests, e)

other_kind : (a b : ℕ) → (a == b) ≡ false → a ≡ b → ⊥
other_kind a b e = grind (arith, nat_tests, e)

-- A message makes a client known, or leaves it.
abbrev Changes : ℕ → Option ClientKey → Message → Type 0
Changes conn identity message = (authentication : Authentication) × Accepts message authentication × (identity_after conn identity message ≡ Some (client_of conn authentication.client))

abbrev Leaves : ℕ → Option ClientKey → Message → Type 0
Leaves conn identity message = AcceptsNone message × (identity_after conn identity message ≡ identity)

module _ (conn : ℕ) (identity : Option ClientKey) (message : Message) where
  by_name : (said : Result Authentication CallRefused) → authentication_of message ≡ said → kind_of message ≡ authentication_kind → identity_after conn identity message ≡ identity_by conn identity said
      → Changes conn identity message ⊎ Leaves conn identity message
  by_name (Err why) read kind e = inr ((λ authentication accepts. let f = accepts.read in absurd cc), e)
  by_name (Ok authentication) read kind e = go (is_accepted authentication) refl e
    where
      go : (b : Bool) → is_accepted authentication ≡ b → identity_after conn identity message ≡ cond b (Some (client_of conn authentication.client)) identity → Changes conn identity message ⊎ Leaves conn identity message
      go true accepted s = inl (authentication, record { kind = kind; read = read; cluster = same_text authentication.name cluster_name (sym accepted) }, s)
      go false other s = inr (
        (λ given accepts.
            let f = accepts.read in
            let same : given ≡ authentication = cc in
            other_text authentication.name cluster_name (sym other) (ap (λ (a : Authentication). a.name) (sym same) ∙ accepts.cluster)),
        s,
      )

  pub changes_or_leaves : Changes conn identity message ⊎ Leaves conn identity message
  changes_or_leaves = go (kind_of message == authentication_kind) refl refl
    where
      go : (b : Bool) → (kind_of message == authentication_kind) ≡ b → identity_after conn identity message ≡ cond b (identity_by conn identity (authentication_of message)) identity
          → Changes conn identity message ⊎ Leaves conn identity message
      go true kind e = by_name (authentication_of message) refl (same_kind (kind_of message) authentication_kind kind) e
      go false kind e = inr ((λ authentication accepts. other_kind (kind_of message) authentication_kind kind accepts.kind), e)

  accepted_changes : (authentication : Authentication) → Accepts message authentication → identity_after conn identity message ≡ Some (client_of conn authentication.client)
  accepted_changes authentication accepts = go changes_or_leaves
    where
      go : Changes conn identity message ⊎ Leaves conn identity message → identity_after conn identity message ≡ Some (client_of conn authentication.client)
      go (inl (given, other, e)) =
          let f = other.read in
          let g = accepts.read in
          let same : given ≡ authentication = cc in
          e ∙ ap (λ (a : Authentication). Some (client_of conn a.client)) same
      go (inr (none, e)) = absurd (none authentication accepts)

  none_leaves : AcceptsNone message → identity_after conn identity message ≡ identity
  none_leaves none = go changes_or_leaves
    where
      go : Changes conn identity message ⊎ Leaves conn identity message → identity_after conn identity message ≡ identity
      go (inl (given, accepts, e)) = absurd (none given accepts)
      go (inr (none, e)) = e

all_leave : (conn : ℕ) (identity : Option ClientKey) (messages : List Message) → All AcceptsNone messages → identity_after_all conn identity messages ≡ identity
all_leave conn identity [] none = refl
all_leave conn identity (message ∷ messages) none =
    all_leave conn (identity_after conn identity message) messages (All-tail AcceptsNone message messages none)
    ∙ none_leaves conn identity message (All-head AcceptsNone message messages none)

pub last_is_client : the_last_accepted_is_the_client
last_is_client conn messages client h =
    ap (identity_after_all conn None) h.whole
    ∙ identity_after_all-append conn None h.before (h.message ∷ h.behind)
    ∙ all_leave conn (identity_after conn (identity_after_all conn None h.before) h.message) h.behind h.last
    ∙ accepted_changes conn (identity_after_all conn None h.before) h.message h.authentication h.accepts
    ∙ ap Some (sym h.client_is)

-- A known client was known before, or one of the messages made it known.
pub client_from : (conn : ℕ) (identity : Option ClientKey) (messages : List Message) (client : ClientKey) → identity_after_all conn identity messages ≡ Some client
    → ((identity ≡ Some client) × All AcceptsNone messages) ⊎ IsLastAccepted conn messages client
client_from conn identity [] client e = inl (e, All-nil AcceptsNone)
client_from conn identity (message ∷ messages) client e = go (client_from conn (identity_after conn identity message) messages client e) (changes_or_leaves conn identity message)
  where
    go : ((identity_after conn identity message ≡ Some client) × All AcceptsNone messages) ⊎ IsLastAccepted conn messages client
        → Changes conn identity message ⊎ Leaves conn identity message
        → ((identity ≡ Some client) × All AcceptsNone (message ∷ messages)) ⊎ IsLastAccepted conn (message ∷ messages) client
    go (inr h) either = inr (record {
      before = message ∷ h.before;
      message = h.message;
      behind = h.behind;
      authentication = h.authentication;
      whole = ap (λ ms. message ∷ ms) h.whole;
      accepts = h.accepts;
      last = h.last;
      client_is = h.client_is;
    })
    go (inl (known, none)) (inl (authentication, accepts, changed)) =
        let same : client ≡ client_of conn authentication.client = cc in
        inr (record {
          before = [];
          message = message;
          behind = messages;
          authentication = authentication;
          whole = refl;
          accepts = accepts;
          last = none;
          client_is = same;
        })
    go (inl (known, none)) (inr (leaves, same)) = inl (sym same ∙ known, All-cons AcceptsNone message messages leaves none)

abbrev nobody : Option ClientKey
nobody = None

pub client_is_last : (conn : ℕ) (messages : List Message) (client : ClientKey) → identity_after_all conn None messages ≡ Some client → IsLastAccepted conn messages client
client_is_last conn messages client e = go (client_from conn None messages client e)
  where
    go : ((nobody ≡ Some client) × All AcceptsNone messages) ⊎ IsLastAccepted conn messages client → IsLastAccepted conn messages client
    go (inl (known, none)) = absurd cc
    go (inr h) = h

pub authenticated_call : every_call_is_authenticated
authenticated_call conn member messages place request e =
    let at = call_at conn member messages place request e in
    let read = asked_read at.client at.message at.is.call at.is.read in
    (at.client, client_is_last conn (take place messages) at.client at.known, subst (λ (r : Request). IsOf at.client r.call) at.is.request_is read.client_is)

item_at : (conn member number : ℕ) (identity : Option ClientKey) (messages : List Message) (place : ℕ) (message : Message) → slice_get messages place ≡ Some message
    → slice_get (items_from conn member number identity messages) place ≡ Some (item_of member (record { conn = conn; number = number + place }) (identity_after_all conn identity (take place messages)) message)
item_at conn member number identity [] place message e = absurd cc
item_at conn member number identity (first ∷ messages) zero message e =
    let same : first ≡ message = cc in
    let here : number ≡ number + 0 = omega arith in
    ap (λ n. Some (item_of member (record { conn = conn; number = n }) identity first)) here
    ∙ ap (λ m. Some (item_of member (record { conn = conn; number = number + 0 }) identity m)) same
item_at conn member number identity (first ∷ messages) (suc place) message e =
    let there : number + 1 + place ≡ number + suc place = omega arith in
    item_at conn member (number + 1) (identity_after conn identity first) messages place message e
    ∙ ap (λ n. Some (item_of member (record { conn = conn; number = n }) (identity_after_all conn identity (first ∷ take place messages)) message)) there

refused_item : (member : ℕ) (id : CallId) (identity : Option ClientKey) (message : Message) → identity ≡ None → (kind_of message ≡ authentication_kind → ⊥)
    → item_of member id identity message ≡ error_to message not_authenticated (pos 0) (pos 0)
refused_item member id identity message unknown other = ap (λ k. item_of member id k message) unknown ∙ go (kind_of message == authentication_kind) refl
  where
    go : (b : Bool) → (kind_of message == authentication_kind) ≡ b → cond b (authentication_item member message (authentication_of message)) (error_to message not_authenticated (pos 0) (pos 0)) ≡ error_to message not_authenticated (pos 0) (pos 0)
    go true kind = absurd (other (same_kind (kind_of message) authentication_kind kind))
    go false kind = refl

pub nothing_before : nothing_else_is_served_before
nothing_before conn member messages place message there none other =
    item_at conn member 0 None messages place message there
    ∙ ap Some (refused_item member (record { conn = conn; number = 0 + place }) (identity_after_all conn None (take place messages)) message (all_leave conn None (take place messages) none) other)
