-- In every run a row is lost exactly where it has no members: the newest one, each that a member knows, and each that is in flight.
use Rattle.std.proofs.Common.{◌≡◌, ℕ, zero, suc, ◌≤◌, false, not, ◌&&◌, ◌==◌, List, [], ◌∷◌, map, None, refl, sym, ◌∙◌, arith}
use Rattle.grid_base.specs.Objects.{Object}
use Rattle.partition_table.specs.declared.Row.{Row}
use Rattle.partition_table.specs.Rows.{is_in, is_eligible, is_empty, initial_row, with_eligible, marked, begun_by, with_backups}
use Rattle.partition_protocol.specs.Messages.{Message, NewRow, Sync, Effect, Bridge, Ack, Joined as JoinedMessage, Freeze, Frozen as FrozenMessage, Packet}
use Rattle.partition_protocol.specs.Service.{Service, ServiceStep, detecting, reopening, candidates, is_freezing, reopen_refused}
use Rattle.partition_protocol.specs.World.{World, start}
use Rattle.partition_protocol.specs.Events.{Event, happens, run}
use Rattle.partition_protocol.specs.ReadOff.{row_in}
use Rattle.partition_protocol.specs.RowRules.{IsLostIfEmpty, IsRowLostIfEmpty, EveryRowIsLostIfEmpty}
use Rattle.partition_protocol.proofs.Lists.{in_contains, Every, every_in, on_if}
use Rattle.partition_protocol.proofs.RowFacts.{false_or_not}
use Rattle.partition_protocol.proofs.EventCases.{EventCases, every_event}
use Rattle.partition_protocol.proofs.CarriedRows.{RowsHave, start_has, carry}

-- rows that are made

pub none_mapped : {X Y : Type 0} (f : X → Y) (xs : List X) → is_empty (map f xs) ≡ is_empty xs
none_mapped f [] = refl
none_mapped f (x ∷ xs) = refl

pub eligible_lost : (row : Row) (m : ℕ) → IsLostIfEmpty row → IsLostIfEmpty (with_eligible row m)
eligible_lost row m h = h ∙ sym (none_mapped (marked m) row.members)

pub begun_some : (b : ℕ) (ms : List ℕ) → is_empty ms ≡ false → is_empty (begun_by (with_backups b ms)) ≡ false
begun_some b [] e = e
begun_some b (m ∷ ms) e = refl

pub reopened_lost : (partition members backups : ℕ) (s : Service) → reopen_refused partition members s ≡ None → IsLostIfEmpty (reopening partition members backups s).row
reopened_lost partition members backups s e = sym (begun_some backups (candidates partition members s.detected) there)
  where
    lost : not s.row.lost ≡ false
    lost = false_or_not (not s.row.lost) (λ z. absurd (cc (rw z at e)))

    there : is_empty (candidates partition members s.detected) ≡ false
    there = false_or_not (is_empty (candidates partition members s.detected)) (λ z. absurd (cc (rw (lost, z) at e)))

pub initial_lost : (partition members backups : ℕ) → 1 ≤ members → IsLostIfEmpty (initial_row partition members backups)
initial_lost partition zero backups some = absurd (omega (arith, some))
initial_lost partition (suc n) backups some = refl

-- the newest row after an event
module _ {C State : Type 0} (o : Object C State) (w : World C) (h : IsLostIfEmpty w.service.row) where
  abbrev pub IsNewestLost : Event C → World C → Type 0
  IsNewestLost e u = IsLostIfEmpty u.service.row

  pub newest_lost : EventCases o w IsNewestLost
  newest_lost = record {
    stays = λ e z. h;
    loses = λ f t i q at. h;
    drops = λ f t i q at z. h;
    repeats = λ f t i q at. h;
    tells_again = h;
    sends_again = λ m n at lives leads. h;
    crashes = λ m lives. h;
    detects = λ m l c d i. detected m;
    notes = λ m l c d i. detected m;
    begins = λ e source to r there z. refl;
    hands_over = λ from to r. h;
    freezes = λ from to v p. h;
    leaves = λ from to v p. refl;
    hands = λ from to v. refl;
    reopens = λ r. reopened_lost w.partition w.members w.backups w.service r;
    joins = λ f t i q v m at to e. on_if (λ (s : ServiceStep). IsLostIfEmpty s.service.row) ((w.service.row.version == v) && is_in w.service.row m && not (is_eligible w.service.row m)) _ _ (eligible_lost w.service.row m h) h;
    drains = λ f t i q v at to e. on_if (λ (s : ServiceStep). IsLostIfEmpty s.service.row) (is_freezing w.service.move && (w.service.row.version == v)) _ _ h h;
    delivers = λ f t i q n at there lives. h;
    calls = λ m conn number call now n at lives still leads thawed. h;
  }
    where
      detected : (m : ℕ) → IsLostIfEmpty (detecting m w.service).row
      detected m = on_if (λ (s : Service). IsLostIfEmpty s.row) (is_in w.service.row m) _ _ refl h

-- every run

pub run_lost : {C State : Type 0} (o : Object C State) (w : World C) (es : List (Event C)) → RowsHave IsLostIfEmpty w → RowsHave IsLostIfEmpty (run o w es)
run_lost o w [] h = h
run_lost o w (e ∷ es) h = run_lost o (happens o w e).world es (carry IsLostIfEmpty o w h e (every_event o w (IsNewestLost o w h.newest) (newest_lost o w h.newest) e))

-- a message says so of the row that it carries
pub in_message : (msg : Message) → Every IsLostIfEmpty (row_in msg) → IsRowLostIfEmpty msg
in_message (NewRow row) h = h.0
in_message (Sync row c) h = h.0
in_message (Bridge row e k) h = h.0
in_message (Effect v i) h = tt
in_message (Ack v c) h = tt
in_message (JoinedMessage v b) h = tt
in_message (Freeze v) h = tt
in_message (FrozenMessage v) h = tt

pub every_row_is_lost_if_empty : {C State : Type 0} (o : Object C State) → EveryRowIsLostIfEmpty o
every_row_is_lost_if_empty {C} o partition members backups events some =
    let opening = start partition members backups in
    let w = run o opening events in
    let h = run_lost o opening events (start_has C IsLostIfEmpty partition members backups (initial_lost partition members backups some)) in
    record {
      newest = h.newest;
      known = h.known;
      packets = λ p c. in_message p.message (every_in (λ (q : Packet). Every IsLostIfEmpty (row_in q.message)) w.packets p h.packets (in_contains p w.packets c));
    }
