-- A line of bytes on an open connection: what its session gave, and that the items are yet to be handled.
use Rattle.std.proofs.Common.{◌≡◌, true≢false, ℕ, ◌+◌, true, false, not, List, [], ◌++◌, map, Option, Some, None, subst, ap, sym, ◌∙◌}
use Rattle.std.specs.Option.{is_some}
use Rattle.partition_protocol.proofs.RowFacts.{both_left}
use Rattle.call_engine.specs.Calls.{Settings}
use Rattle.call_engine.specs.Objects.{partition_object}
use Rattle.frame_codec.specs.declared.malformed.Malformed.{Malformed}
use Rattle.wait_sets.specs.declared.waiter.Waiter.{Waiter as ListedWaiter}
use Rattle.session_core.specs.declared.item.Item.{Item}
use Rattle.session_core.specs.Sessions.{session_after, StandsFor}
use Rattle.session_core.specs.declared.session.FedSession.{FedSession}
use Rattle.line_told.specs.declared.told.Told.{Told}
use Rattle.replay_run.specs.declared.grid.Grid.{Grid}
use Rattle.replay_run.specs.Runs.{Run, Connection, connection_of, fault_on, lives, with_bytes}
use Rattle.replay_run.specs.Tables.{Table, Opened, opened_at, with_session, Gives, FeedGives}
use Rattle.replay_run.specs.Grids.{FormOf, IsConnection, Stands}
use Rattle.replay_run.specs.WorldCalls.{open_member_in, Brings, HasHandledSome}
use Rattle.replay_run.proofs.GridLines.{with_table, IsOpen, is_open, begun_some, AreLeft}
use Rattle.replay_run.proofs.Leaving.{dropped}
use Rattle.replay_run.proofs.LineFacts.{slot, slot_stands, fed_session, they_bring, closed_as}

-- The connection took its bytes, which bring these items, and none of them was handled.
pub record HasBegun {V : Type 0} {T : V → Type 0} (form : FormOf V T) (settings : Settings) (new : Grid V T) (r : Run) (conn member : ℕ) (bytes : List ℕ) (fed : FedSession) (told : List Told) : Type 0 where
  pub open_there : IsOpen settings r conn member
  pub brings : Brings settings r open_there.connection bytes fed.items.items
  pub none_handled : HasHandledSome form settings new r open_there.connection bytes [] told told
  pub closed : fed.closed ≡ fault_on (with_bytes open_there.connection bytes)

module _ {V : Type 0} {T : V → Type 0} {form : FormOf V T} {settings : Settings} (grid : Grid V T) (r : Run) (s : Stands form settings grid r) (conn member : ℕ) (is : open_member_in settings r conn ≡ Some member) (bytes : List ℕ) (gave : Option FedSession)
    (gives : (o : Opened) (text : List ℕ) → opened_at grid.connections conn ≡ Some o → StandsFor o.session text → Gives gave o.session.conn o.session.member text bytes) where
  abbrev its : IsOpen settings r conn member
  its = is_open settings r conn member is

  abbrev opened_slot : (o : Opened) × (opened_at grid.connections conn ≡ Some o) × IsConnection o its.connection
  opened_slot = slot grid r s conn its.connection its.there

  stands : StandsFor opened_slot.0.session its.connection.bytes
  stands = slot_stands grid r s conn its.connection its.there

  something_given : Gives gave opened_slot.0.session.conn opened_slot.0.session.member its.connection.bytes bytes
  something_given = gives opened_slot.0 its.connection.bytes opened_slot.1 stands

  -- It takes them.
  pub not_refused : gave ≡ None → ⊥
  not_refused none = subst (λ fed. Gives fed opened_slot.0.session.conn opened_slot.0.session.member its.connection.bytes bytes) none something_given

  pub has_begun : (new : Grid V T) (number : ℕ) (told : List Told) (fed : FedSession) (table : Table) → number ≡ r.lines + 1 → gave ≡ Some fed
      → ((o : Opened) (text : List ℕ) → opened_at grid.connections conn ≡ Some o → StandsFor o.session text
      → table ≡ with_session grid.connections conn (session_after o.session.conn o.session.member (text ++ bytes)))
      → new ≡ with_table grid number table → HasBegun form settings new r conn member bytes fed told
  has_begun new number told fed table at_line one took made =
      let given : FeedGives fed opened_slot.0.session.conn opened_slot.0.session.member its.connection.bytes bytes =
      subst (λ x. Gives x opened_slot.0.session.conn opened_slot.0.session.member its.connection.bytes bytes) one something_given in
      let table_is = fed_session grid r s conn its.connection its.there bytes table (took opened_slot.0 its.connection.bytes opened_slot.1 stands) in
      record {
        open_there = its;
        brings = they_bring grid r s conn its.connection its.there bytes fed given;
        none_handled = begun_some grid new r s number conn its.connection at_line its.there its.itself (both_left (not (is_some (fault_on its.connection))) (lives (partition_object settings) r its.connection.member) its.takes) bytes told (made ∙ ap (λ (t : Table). with_table grid number t) table_is);
        closed = closed_as grid r s conn its.connection its.there bytes fed given;
      }

-- What becomes of the lists of those who wait: where a fault has closed the connection, its own have left them.
module _ {V : Type 0} {T : V → Type 0} {form : FormOf V T} {settings : Settings} (r : Run) (c : ℕ) (k : Connection) (there : connection_of r c ≡ Some k) (bytes : List ℕ) (items : List Item) (brings : Brings settings r k bytes items)
    (handled : Grid V T) (start mid : List Told) (did : HasHandledSome form settings handled r k bytes items start mid) (fault : Option Malformed) (shown : fault ≡ fault_on (with_bytes k bytes)) (waiters : List (List ListedWaiter)) where
  pub all_left : is_some fault ≡ true → waiters ≡ map (dropped k.conn) handled.waiters → AreLeft r c k there bytes items brings handled start mid did waiters
  all_left some is = record { if_open = λ e. absurd (true≢false (sym e ∙ ap not (sym (ap is_some shown) ∙ some))); if_closed = λ e. is }

  pub none_left : is_some fault ≡ false → waiters ≡ handled.waiters → AreLeft r c k there bytes items brings handled start mid did waiters
  none_left none is = record { if_open = λ e. is; if_closed = λ e. absurd (true≢false (sym (ap not (sym (ap is_some shown) ∙ none)) ∙ e)) }
