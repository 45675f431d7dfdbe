-- The items that bytes bring on a connection: there is one for each new message, and each call among them is named by its message's number, is for its object's partition, and fits frames.
use Rattle.std.proofs.Common.{◌≡◌, ◌∙◌, ℤ, ℕ, zero, suc, ◌+◌, List, [], ◌∷◌, ◌++◌, drop, length, Some, refl, ap, sym, inl, inr, subst, arith, length-drop}
use Rattle.std.specs.Prelude.{slice_get, option_and_then}
use Rattle.grid_base.specs.Limits.{CallFits}
use Rattle.grid_base.specs.declared.calls.GridCall.{GridCall}
use Rattle.grid_base.specs.declared.calls.GridCall.TheVariants as call
use Rattle.grid_base.specs.declared.names.CallId.{CallId}
use Rattle.grid_base.specs.declared.calls.Request.{Request}
use Rattle.message_frames.specs.declared.message.Message.{Message}
use Rattle.partition_protocol.proofs.Lists.{In}
use Rattle.session_core.specs.Items.{items_of}
use Rattle.session_core.specs.Laws.{request_in, IsPlaced as IsPlacedCall}
use Rattle.session_core.specs.Places.{BelongsTo}
use Rattle.session_core.specs.declared.item.Item.{Item}
use Rattle.session_core.specs.declared.item.Item.TheVariants.{Call as Asks, Wait, Register, Reply}
use Rattle.session_core.proofs.CallsAt.{numbered_call, placed_call, fitting_call}
use Rattle.session_core.proofs.ItemLists.{one_item_each}
use Rattle.replay_run.specs.Runs.{Connection, messages_on, items_on, items_by, with_bytes}
use Rattle.replay_run.specs.ScriptRuns.{IsPlaced, home_of}
use Rattle.replay_run.proofs.Hearing.{no_fewer}
use Rattle.replay_run.proofs.Parts.{in_drop}

-- A call, waiting or not, is named so and is for its object's partition.

abbrev pub IsNamed : CallId → Request → Type 0
IsNamed id request = (request.id ≡ id) × IsPlaced request

abbrev pub IsNumbered : CallId → Item → Type 0
IsNumbered id (Reply bytes) = Unit {0}
IsNumbered id (Wait request timeout) = IsNamed id request
IsNumbered id (Register registration) = Unit {0}
IsNumbered id (Asks request) = IsNamed id request

-- items of messages that are numbered on from there
abbrev pub AreNumbered : ℕ → ℕ → List Item → Type 0
AreNumbered conn number [] = Unit {0}
AreNumbered conn number (item ∷ items) = IsNumbered (record { conn = conn; number = number }) item × AreNumbered conn (number + 1) items

-- each call is numbered by its place
abbrev NumberedAt : ℕ → ℕ → List Item → Type 0
NumberedAt conn number items = (place : ℕ) (request : Request) → option_and_then request_in (slice_get items place) ≡ Some request → IsNamed (record { conn = conn; number = number + place }) request

numbered_by : (conn number : ℕ) (items : List Item) → NumberedAt conn number items → AreNumbered conn number items
numbered_by conn number [] at = tt
numbered_by conn number (item ∷ items) at = (
  first item (λ request e. at zero request e),
  numbered_by conn (number + 1) items (λ place request e.
      subst (λ n. IsNamed (record { conn = conn; number = n }) request) (let later : number + suc place ≡ number + 1 + place = omega arith in later) (at (suc place) request e)),
)
  where
    here : (request : Request) → IsNamed (record { conn = conn; number = number + zero }) request → IsNamed (record { conn = conn; number = number }) request
    here request h = subst (λ n. IsNamed (record { conn = conn; number = n }) request) (let e : number + 0 ≡ number = omega arith in e) h

    first : (i : Item) → ((request : Request) → request_in i ≡ Some request → IsNamed (record { conn = conn; number = number + zero }) request) → IsNumbered (record { conn = conn; number = number }) i
    first (Reply bytes) h = tt
    first (Wait request timeout) h = here request (h request refl)
    first (Register registration) h = tt
    first (Asks request) h = here request (h request refl)

home_belongs : (c : GridCall) (partition : ℕ) → BelongsTo c partition → home_of c partition ≡ partition
home_belongs (call.Map c) partition belongs = sym belongs
home_belongs (call.Queue c) partition belongs = refl

placed : (request : Request) → IsPlacedCall request → IsPlaced request
placed request is = record { own = home_belongs request.call request.partition is.own; within = is.within }

items_numbered : (conn member : ℕ) (messages : List Message) → AreNumbered conn 0 (items_of conn member messages)
items_numbered conn member messages =
    numbered_by conn 0 (items_of conn member messages) (λ place request e.
    subst (λ n. IsNamed (record { conn = conn; number = n }) request) (let here : place ≡ 0 + place = omega arith in here)
    (numbered_call conn member messages place request e, placed request (placed_call conn member messages place request e)))

-- parts of them

pub numbered_front : (conn number : ℕ) (items more : List Item) → AreNumbered conn number (items ++ more) → AreNumbered conn number items
numbered_front conn number [] more h = tt
numbered_front conn number (item ∷ items) more h = (h.0, numbered_front conn (number + 1) items more h.1)

numbered_rest : (conn number n : ℕ) (items : List Item) → AreNumbered conn number items → AreNumbered conn (number + n) (drop n items)
numbered_rest conn number zero items h = subst (λ k. AreNumbered conn k items) (let e : number ≡ number + 0 = omega arith in e) h
numbered_rest conn number (suc n) [] h = tt
numbered_rest conn number (suc n) (item ∷ items) h =
    subst (λ k. AreNumbered conn k (drop n items)) (let e : number + 1 + n ≡ number + suc n = omega arith in e) (numbered_rest conn (number + 1) n items h.1)

pub numbered_at : (conn number : ℕ) (done : List Item) (item : Item) (rest : List Item) → AreNumbered conn number (done ++ item ∷ rest) → IsNumbered (record { conn = conn; number = number + length done }) item
numbered_at conn number [] item rest h = subst (λ k. IsNumbered (record { conn = conn; number = k }) item) (let e : number ≡ number + 0 = omega arith in e) h.0
numbered_at conn number (first ∷ done) item rest h =
    subst (λ k. IsNumbered (record { conn = conn; number = k }) item) (let e : number + 1 + length done ≡ number + length (first ∷ done) = omega arith in e) (numbered_at conn (number + 1) done item rest h.1)

pub items_length : (k : Connection) → length (items_on k) ≡ length (messages_on k)
items_length k = one_item_each k.conn k.member (messages_on k)

-- The items that bytes bring are numbered on from the messages before, and there is one for each new message.
pub items_room : (k : Connection) (bytes : List ℕ)
    → AreNumbered k.conn (length (messages_on k)) (items_by k bytes) × (length (messages_on k) + length (items_by k bytes) ≡ length (messages_on (with_bytes k bytes)))
items_room k bytes =
    let new : Connection = with_bytes k bytes in
    let before = items_length k in
    let after = items_length new in
    let numbered = numbered_rest k.conn 0 (length (items_on k)) (items_on new) (items_numbered k.conn k.member (messages_on new)) in
    let fewer = no_fewer k.bytes bytes in
    let rest = length-drop (length (items_on k)) (items_on new) in
    (subst (λ n. AreNumbered k.conn n (items_by k bytes)) (let e : 0 + length (items_on k) ≡ length (messages_on k) = omega (arith, before) in e) numbered, omega (arith, before, after, fewer, rest))

-- frames

in_at : {X : Type 0} (xs : List X) (x : X) → In x xs → (place : ℕ) × (slice_get xs place ≡ Some x)
in_at [] x i = absurd i
in_at (y ∷ ys) x (inl e) = (zero, ap Some e)
in_at (y ∷ ys) x (inr i) = let at = in_at ys x i in (suc at.0, at.1)

-- The calls among the items that bytes bring fit frames, waiting or not.

item_fits : (k : Connection) (bytes : List ℕ) (item : Item) (request : Request) → request_in item ≡ Some request → In item (items_by k bytes) → CallFits request.call
item_fits k bytes item request its i =
    let new : Connection = with_bytes k bytes in
    let at = in_at (items_on new) item (in_drop (length (items_on k)) (items_on new) item i) in
    fitting_call k.conn k.member new.bytes at.0 request (ap (option_and_then request_in) at.1 ∙ its)

pub calls_fit : (k : Connection) (bytes : List ℕ) (request : Request) → In (Asks request) (items_by k bytes) → CallFits request.call
calls_fit k bytes request i = item_fits k bytes (Asks request) request refl i

pub waits_fit : (k : Connection) (bytes : List ℕ) (request : Request) (timeout : ℤ) → In (Wait request timeout) (items_by k bytes) → CallFits request.call
waits_fit k bytes request timeout i = item_fits k bytes (Wait request timeout) request refl i
