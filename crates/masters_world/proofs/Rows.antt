-- A decision leaves the row, up to marks, or makes one of the next version.
use Rattle.std.proofs.Common.{◌≡◌, ℕ, ◌+◌, not, ◌&&◌, ◌==◌, List, [], ◌∷◌, Option, Some, None, refl, ◌∙◌, inl, inr, arith}
use Rattle.partition_table.specs.declared.Row.{Row}
use Rattle.partition_table.specs.Rows.{with_eligible, with_joiner, without, handed, is_in, is_eligible, is_primary, is_among}
use Rattle.partition_protocol.specs.Messages.{Message, NewRow, Sync, Effect, Bridge, Ack, Joined as JoinedMessage, Freeze, Frozen as FrozenMessage}
use Rattle.partition_protocol.specs.Took.{Joined as TookJoined, Drained as TookDrained, Stale}
use Rattle.partition_protocol.specs.Service.{Service, ServiceStep, Move, NoMove, Joining, Joined, Freezing, Drained, Freezes, MakesRow, with_row, joined_move, drained_move, is_freezing, detecting, move_after_loss, move_refused, join_refused, handover_refused, reopen_refused, beginning, handing_over, reopening, advance_by}
use Rattle.partition_protocol.proofs.Lists.{on_cond}
use Rattle.partition_protocol.proofs.Joins.{marked_members}
use Rattle.masters_world.specs.Decisions.{Decision, Detect, BeginMove, BeginJoin, BeginHandover, Advance, Reopen, Take, unless_refused, advanced_to, taken, decided, all_decided}
use Rattle.masters_world.specs.Claims.{IsSameRow, GoesUp}

pub same_row : (a : Row) → IsSameRow a a
same_row a = record { version = refl; reset = refl; lost = refl; members = refl }

pub stays : (a : Row) → GoesUp a a
stays a = inl (same_row a)

pub next_version : (a b : Row) → b.version ≡ a.version + 1 → GoesUp a b
next_version a b e = inr (omega (arith, e))

pub goes_on : (a b c : Row) → GoesUp a b → GoesUp b c → GoesUp a c
goes_on a b c (inl h) (inl k) = inl (record { version = k.version ∙ h.version; reset = k.reset ∙ h.reset; lost = k.lost ∙ h.lost; members = k.members ∙ h.members })
goes_on a b c (inl h) (inr k) = let e = h.version in inr (omega (arith, e, k))
goes_on a b c (inr h) (inl k) = let e = k.version in inr (omega (arith, e, h))
goes_on a b c (inr h) (inr k) = inr (omega (arith, h, k))

pub unless_goes : {X : Type 0} (r : Option X) (s next : Service) → GoesUp s.row next.row → GoesUp s.row (unless_refused r s next).row
unless_goes None s next h = h
unless_goes (Some r) s next h = stays s.row

abbrev pub On : Service → Service → Type 0
On s t = GoesUp s.row t.row

pub advance_goes : (s : Service) (v : Move) → On s (advanced_to s (advance_by s.row v))
advance_goes s NoMove = stays s.row
advance_goes s (Joining f t) = stays s.row
advance_goes s (Joined f t) = on_cond (λ a. On s (advanced_to s a)) (is_primary s.row f) (Freezes f t) (MakesRow (without s.row f)) (λ e. stays s.row) (λ e. next_version s.row (without s.row f) refl)
advance_goes s (Freezing f t) = stays s.row
advance_goes s (Drained f t) = next_version s.row (handed s.row f t) refl

pub taken_goes : (s : Service) (x : Message) → On s (taken s x)
taken_goes s (NewRow row) = stays s.row
taken_goes s (Sync row c) = stays s.row
taken_goes s (Effect v i) = stays s.row
taken_goes s (Bridge row e k) = stays s.row
taken_goes s (Ack v c) = stays s.row
taken_goes s (JoinedMessage v m) = on_cond (λ (t : ServiceStep). On s t.service) ((s.row.version == v) && is_in s.row m && not (is_eligible s.row m)) (record { service = with_row s (with_eligible s.row m) (joined_move m s.move); took = TookJoined }) (record { service = s; took = Stale })
    (λ e. inl (record { version = refl; reset = refl; lost = refl; members = marked_members m s.row.members })) (λ e. stays s.row)
taken_goes s (Freeze v) = stays s.row
taken_goes s (FrozenMessage v) = on_cond (λ (t : ServiceStep). On s t.service) (is_freezing s.move && (s.row.version == v)) (record { service = with_row s s.row (drained_move s.move); took = TookDrained }) (record { service = s; took = Stale }) (λ e. stays s.row) (λ e. stays s.row)

pub detecting_goes : (m : ℕ) (s : Service) → On s (detecting m s)
detecting_goes m s = on_cond (On s) (is_in s.row m) (with_row told (without s.row m) (move_after_loss m (without s.row m) s.move)) told (λ e. next_version s.row (without s.row m) refl) (λ e. stays s.row)
  where
    told : Service
    told = record { row = s.row; move = s.move; detected = m ∷ s.detected }

pub decided_goes : (p n b : ℕ) (s : Service) (d : Decision) → On s (decided p n b s d)
decided_goes p n b s (Detect m) = on_cond (On s) (is_among s.detected m) s (detecting m s) (λ e. stays s.row) (λ e. detecting_goes m s)
decided_goes p n b s (BeginMove from to) = unless_goes (move_refused n from to s) s (beginning (Some from) to s) (next_version s.row (with_joiner s.row to) refl)
decided_goes p n b s (BeginJoin to) = unless_goes (join_refused n to s) s (beginning None to s) (next_version s.row (with_joiner s.row to) refl)
decided_goes p n b s (BeginHandover from to) = unless_goes (handover_refused from to s) s (handing_over from to s) (stays s.row)
decided_goes p n b s Advance = advance_goes s s.move
decided_goes p n b s Reopen = unless_goes (reopen_refused p n s) s (reopening p n b s) (next_version s.row (reopening p n b s).row refl)
decided_goes p n b s (Take f i x) = taken_goes s x

pub all_go : (p n b : ℕ) (s : Service) (ds : List Decision) → On s (all_decided p n b s ds)
all_go p n b s [] = stays s.row
all_go p n b s (d ∷ ds) = goes_on s.row (decided p n b s d).row (all_decided p n b (decided p n b s d) ds).row (decided_goes p n b s d) (all_go p n b (decided p n b s d) ds)
