-- The items of messages, one after the other.
use Rattle.std.specs.Prelude.{length, get_or, drop, true}
use Rattle.std.proofs.Common.{◌≡◌, ℕ, ◌+◌, ◌<◌, List, [], ◌∷◌, ◌++◌, Option, None, suc, refl, sym, ap, ◌∙◌, arith}
use Rattle.std.proofs.lemmas.List.{append_assoc, drop_more}
use Rattle.grid_base.specs.declared.names.CallId.{CallId}
use Rattle.grid_base.specs.declared.names.ClientKey.{ClientKey}
use Rattle.message_frames.specs.declared.message.Message.{Message}
use Rattle.session_core.specs.declared.item.Item.{Item}
use Rattle.message_frames.specs.Messages.{Heard}
use Rattle.message_frames.proofs.Staying.{faults_stay}
use Rattle.session_core.specs.Items.{identity_after, identity_after_all, item_of, items_from, items_of}
use Rattle.session_core.specs.Laws.{each_message_gives_one_item, items_stay, nothing_is_given_after_a_fault}

-- a later message's items

pub items_from-append : (conn member number : ℕ) (identity : Option ClientKey) (before later : List Message)
    → items_from conn member number identity (before ++ later) ≡ items_from conn member number identity before ++ items_from conn member (number + length before) (identity_after_all conn identity before) later
items_from-append conn member number identity [] later = let e : number ≡ number + 0 = omega arith in ap (λ n. items_from conn member n identity later) e
items_from-append conn member number identity (message ∷ before) later =
    let e : number + 1 + length before ≡ number + length (message ∷ before) = omega arith in
    ap (λ (items : List Item). item_of member (record { conn = conn; number = number }) identity message ∷ items) (items_from-append conn member (number + 1) (identity_after conn identity message) before later
    ∙ ap (λ n. items_from conn member (number + 1) (identity_after conn identity message) before ++ items_from conn member n (identity_after_all conn (identity_after conn identity message) before) later) e)

pub identity_after_all-append : (conn : ℕ) (identity : Option ClientKey) (before later : List Message)
    → identity_after_all conn identity (before ++ later) ≡ identity_after_all conn (identity_after_all conn identity before) later
identity_after_all-append conn identity [] later = refl
identity_after_all-append conn identity (message ∷ before) later = identity_after_all-append conn (identity_after conn identity message) before later

-- one message more, in order

module _ (conn member : ℕ) (id : CallId) (identity after : Option ClientKey) (ms : List Message) (i : ℕ) (m : Message) (of_conn : id.conn ≡ conn) (within : i < length ms) (there : m ≡ get_or ms i m) where
  next : drop i ms ≡ m ∷ drop (i + 1) ms
  next = drop_more ms i m within ∙ ap (λ x. x ∷ drop (i + 1) ms) (sym there)

  named : record { conn = conn; number = id.number } ≡ id
  named = ap {B = CallId} (λ c. record { conn = c; number = id.number }) (sym of_conn)

  module _ (known : after ≡ identity_after id.conn identity m) where
    after_is : identity_after conn identity m ≡ after
    after_is = ap (λ c. identity_after c identity m) (sym of_conn) ∙ sym known

    pub one_more_item : (before all : List Item) (item : Item) → item ≡ item_of member id identity m → before ++ items_from conn member id.number identity (drop i ms) ≡ all
        → (before ++ item ∷ []) ++ items_from conn member (id.number + 1) after (drop (i + 1) ms) ≡ all
    one_more_item before all item given told =
        let rest = items_from conn member (id.number + 1) in
        append_assoc before (item ∷ []) (rest after (drop (i + 1) ms))
        ∙ ap (λ x. before ++ (x ∷ rest after (drop (i + 1) ms))) (given ∙ ap (λ c. item_of member c identity m) (sym named))
        ∙ ap (λ k. before ++ (item_of member (record { conn = conn; number = id.number }) identity m ∷ rest k (drop (i + 1) ms))) (sym after_is)
        ∙ ap (λ xs. before ++ items_from conn member id.number identity xs) (sym next)
        ∙ told

    pub one_more_identity : (all : Option ClientKey) → identity_after_all conn identity (drop i ms) ≡ all → identity_after_all conn after (drop (i + 1) ms) ≡ all
    one_more_identity all told = ap (λ k. identity_after_all conn k (drop (i + 1) ms)) (sym after_is) ∙ ap (identity_after_all conn identity) (sym next) ∙ told

-- the items as a whole

items_from-length : (conn member number : ℕ) (identity : Option ClientKey) (messages : List Message) → length (items_from conn member number identity messages) ≡ length messages
items_from-length conn member number identity [] = refl
items_from-length conn member number identity (message ∷ messages) = ap suc (items_from-length conn member (number + 1) (identity_after conn identity message) messages)

pub one_item_each : each_message_gives_one_item
one_item_each conn member messages = items_from-length conn member 0 None messages

pub items_go_on : items_stay
items_go_on conn member messages later = (items_from conn member (0 + length messages) (identity_after_all conn None messages) later, items_from-append conn member 0 None messages later)

pub nothing_after : nothing_is_given_after_a_fault
nothing_after conn member text more fault e = ap (λ (h : Heard). items_of conn member h.messages) (faults_stay true text more fault e)
