-- What a session stands for, before a piece and after it.
use Rattle.std.specs.Prelude.{true, None}
use Rattle.std.proofs.Common.{◌≡◌, ℕ, ◌+◌, ◌≤◌, Bool, List, [], ◌++◌, length, Option, ap, sym, ◌∙◌, arith, length-append}
use Rattle.std.proofs.lemmas.List.{nil_from_length}
use Rattle.grid_base.specs.declared.names.ClientKey.{ClientKey}
use Rattle.message_frames.specs.Assembly.{most_messages}
use Rattle.message_frames.specs.MessageReaders.{Hearing, standing, StandsFor as ReaderStandsFor}
use Rattle.message_frames.specs.Messages.{messages_of}
use Rattle.message_frames.specs.declared.message.Message.{Message}
use Rattle.message_frames.proofs.Counting.{messages_count}
use Rattle.session_core.specs.Items.{identity_after_all, items_from, items_of}
use Rattle.session_core.specs.Sessions.{SessionState, session_after, StandsFor}
use Rattle.session_core.specs.declared.item.Item.{Item}
use Rattle.session_core.proofs.Counts.{messages_few}
use Rattle.session_core.proofs.ItemLists.{items_from-append, identity_after_all-append}

no_messages : messages_of true [] ≡ []
no_messages = let none : length (messages_of true []) ≡ 0 = omega (arith, messages_count true []) in nil_from_length (messages_of true []) none

abbrev pub state : ℕ → ℕ → Hearing → Option ClientKey → ℕ → SessionState
state conn member reader identity count = record { conn = conn; member = member; reader = reader; identity = identity; count = count }

pub first_session : (conn member : ℕ) (reader : Hearing) → reader ≡ standing true [] → state conn member reader None 0 ≡ session_after conn member []
first_session conn member reader e =
    ap (λ r. state conn member r None 0) e
    ∙ ap (λ (ms : List Message). state conn member (standing true []) (identity_after_all conn None ms) (length ms)) (sym no_messages)

-- What the reader of a session gives of a piece, and where it stands then.

abbrev pub Hears : Hearing → List ℕ → List Message → Type 0
Hears reader piece messages = (prefix : Bool) (text : List ℕ) → ReaderStandsFor reader prefix text → messages_of prefix text ++ messages ≡ messages_of prefix (text ++ piece)

abbrev pub GoesOn : Hearing → List ℕ → Hearing → Type 0
GoesOn reader piece later = (prefix : Bool) (text : List ℕ) → ReaderStandsFor reader prefix text → ReaderStandsFor later prefix (text ++ piece)

module _ (old : SessionState) (piece : List ℕ) (messages : List Message) (heard : Hears old.reader piece messages) (text : List ℕ) (stands : StandsFor old text) where
  its_reader : old.reader ≡ standing true text
  its_reader = ap (λ (s : SessionState). s.reader) stands

  heard_then : messages_of true text ++ messages ≡ messages_of true (text ++ piece)
  heard_then = heard true text its_reader

  counted : old.count ≡ length (messages_of true text)
  counted = ap (λ (s : SessionState). s.count) stands

  known : old.identity ≡ identity_after_all old.conn None (messages_of true text)
  known = ap (λ (s : SessionState). s.identity) stands

  all_counted : old.count + length messages ≡ length (messages_of true (text ++ piece))
  all_counted = omega (arith, counted, length-append (messages_of true text) messages, ap length heard_then)

  -- there is a number for each message
  pub numbered : old.count + length messages ≤ most_messages
  numbered = omega (arith, all_counted, messages_few true (text ++ piece))

  identity_then : identity_after_all old.conn old.identity messages ≡ identity_after_all old.conn None (messages_of true (text ++ piece))
  identity_then =
      ap (λ k. identity_after_all old.conn k messages) known
      ∙ sym (identity_after_all-append old.conn None (messages_of true text) messages)
      ∙ ap (identity_after_all old.conn None) heard_then

  pub later_session : (reader : Hearing) (identity : Option ClientKey) (count : ℕ) → GoesOn old.reader piece reader → identity ≡ identity_after_all old.conn old.identity messages → count ≡ old.count + length messages
      → state old.conn old.member reader identity count ≡ session_after old.conn old.member (text ++ piece)
  later_session reader identity count goes i n =
      ap (λ x. state old.conn old.member x identity count) (goes true text its_reader)
      ∙ ap (λ x. state old.conn old.member (standing true (text ++ piece)) x count) (i ∙ identity_then)
      ∙ ap (λ x. state old.conn old.member (standing true (text ++ piece)) (identity_after_all old.conn None (messages_of true (text ++ piece))) x) (n ∙ all_counted)

  pub later_items : (items : List Item) → items ≡ items_from old.conn old.member old.count old.identity messages
      → items_of old.conn old.member (messages_of true text) ++ items ≡ items_of old.conn old.member (messages_of true (text ++ piece))
  later_items items e =
      let front = items_of old.conn old.member (messages_of true text) in
      let place : old.count ≡ 0 + length (messages_of true text) = omega (arith, counted) in
      ap (λ (xs : List Item). front ++ xs) (e
      ∙ ap (λ n. items_from old.conn old.member n old.identity messages) place
      ∙ ap (λ k. items_from old.conn old.member (0 + length (messages_of true text)) k messages) known)
      ∙ sym (items_from-append old.conn old.member 0 None (messages_of true text) messages)
      ∙ ap (items_of old.conn old.member) heard_then
