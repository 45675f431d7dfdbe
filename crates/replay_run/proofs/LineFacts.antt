-- What the code reads of a connection, and the items that its bytes bring.
use Rattle.std.proofs.Common.{◌≡◌, ℕ, Bool, true, false, not, ◌&&◌, List, ◌++◌, length, drop, Option, Some, None, refl, ap, sym, ◌∙◌, subst}
use Rattle.std.specs.Option.{is_some}
use Rattle.std.proofs.lemmas.List.{drop_at}
use Rattle.grid_base.specs.Objects.{Object}
use Rattle.grid_base.specs.declared.calls.Request.{Request}
use Rattle.object_store.specs.Partitions.{Partition}
use Rattle.call_engine.specs.Calls.{Settings}
use Rattle.partition_protocol.proofs.Lists.{In, in_contains}
use Rattle.session_core.specs.Sessions.{SessionState, session_after, StandsFor}
use Rattle.session_core.specs.declared.item.Item.TheVariants.{Call as Asks, Wait}
use Rattle.session_core.specs.declared.session.FedSession.{FedSession}
use Rattle.replay_run.specs.declared.grid.Grid.{Grid}
use Rattle.replay_run.specs.Runs.{Run, Connection, can_open, connection_of, fault_on, items_on, items_by, lives, with_bytes}
use Rattle.replay_run.specs.Tables.{Table, Opened, opened_at, with_session, FeedGives}
use Rattle.replay_run.specs.Grids.{FormOf, IsConnection, HasTable, Stands}
use Rattle.replay_run.specs.WorldCalls.{Brings}
use Rattle.replay_run.proofs.Items.{calls_fit, waits_fit}
use Rattle.replay_run.proofs.Lines.{connection_there}
use Rattle.replay_run.proofs.TableRuns.{found_opened, found_connection, none_opened}

-- a connection that is there
pub its_opened : {X : Type 0} (o : Option X) → is_some o ≡ true → (x : X) × (o ≡ Some x)
its_opened None e = absurd cc
its_opened (Some x) e = (x, refl)

-- whether a connection can be opened, where the code looks at its table
module _ (o : Object Request Partition) (t : Table) (r : Run) (h : HasTable t r) (c member : ℕ) where
  abbrev can_after : Option Connection → Bool
  can_after found = not (is_some found) && lives o r member

  -- one that was opened before can't
  pub cannot_twice : is_some (opened_at t c) ≡ true → can_open o r c member ≡ false
  cannot_twice some =
      let opened = its_opened (opened_at t c) some in
      ap can_after (found_connection t r h c opened.0 opened.1).1

  -- another one can, to a member that lives
  pub can_once : opened_at t c ≡ None → can_open o r c member ≡ lives o r member
  can_once closed = ap can_after (none_opened t r h c closed)

-- a session stands for the bytes of its connection
stands_at : (session : SessionState) (conn member : ℕ) (text : List ℕ) → session ≡ session_after conn member text → StandsFor session text
stands_at session conn member text e = e ∙ (λ i. session_after (ap (λ (s : SessionState). s.conn) (sym e) i) (ap (λ (s : SessionState). s.member) (sym e) i) text)

module _ {V : Type 0} {T : V → Type 0} {form : FormOf V T} {settings : Settings} (grid : Grid V T) (r : Run) (s : Stands form settings grid r) (c : ℕ) (k : Connection) (there : connection_of r c ≡ Some k) where
  pub slot : (o : Opened) × (opened_at grid.connections c ≡ Some o) × IsConnection o k
  slot = found_opened grid.connections r s.holds.table c k there

  pub slot_stands : StandsFor slot.0.session k.bytes
  slot_stands = stands_at slot.0.session k.conn k.member k.bytes slot.2

  conn_is : slot.0.session.conn ≡ k.conn
  conn_is = ap (λ (x : SessionState). x.conn) slot.2

  member_is : slot.0.session.member ≡ k.member
  member_is = ap (λ (x : SessionState). x.member) slot.2

  module _ (bytes : List ℕ) where
    pub fed_session : (t : Table) → t ≡ with_session grid.connections c (session_after slot.0.session.conn slot.0.session.member (k.bytes ++ bytes))
        → t ≡ with_session grid.connections c (session_after k.conn k.member (k.bytes ++ bytes))
    fed_session t made = made ∙ (λ i. with_session grid.connections c (session_after (conn_is i) (member_is i) (k.bytes ++ bytes)))

    module _ (fed : FedSession) (gives : FeedGives fed slot.0.session.conn slot.0.session.member k.bytes bytes) where
      its_gives : FeedGives fed k.conn k.member k.bytes bytes
      its_gives = subst (λ m. FeedGives fed k.conn m k.bytes bytes) member_is (subst (λ n. FeedGives fed n slot.0.session.member k.bytes bytes) conn_is gives)

      come : items_by k bytes ≡ fed.items.items
      come = ap (drop (length (items_on k))) (sym its_gives.items) ∙ drop_at (items_on k) fed.items.items (length (items_on k)) refl

      pub they_bring : Brings settings r k bytes fed.items.items
      they_bring = record {
        run = s.run;
        there = connection_there r c k there;
        reached = s.reached c k there;
        come = come;
        fit = λ q i. calls_fit k bytes q (subst (λ xs. In (Asks q) xs) (sym come) (in_contains (Asks q) fed.items.items i));
        waits_fit = λ q timeout i. waits_fit k bytes q timeout (subst (λ xs. In (Wait q timeout) xs) (sym come) (in_contains (Wait q timeout) fed.items.items i));
      }

      pub closed_as : fed.closed ≡ fault_on (with_bytes k bytes)
      closed_as = gives.closed
