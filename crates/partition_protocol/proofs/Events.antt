-- Each event keeps the invariant.
use Rattle.std.proofs.Common.{◌≡◌, ℕ, zero, suc, ◌+◌, ◌<◌, ◌≤◌, Bool, true, false, cond, not, ◌&&◌, ◌||◌, ◌==◌, List, [], ◌∷◌, ◌++◌, map, take, Option, Some, None, nat_lt, nat_eq, slice_get, slice_set, refl, sym, ◌∙◌, subst, ⊎_elim, inl, inr, arith, le_refl, true≢false}
use Rattle.partition_table.specs.Rows.{is_among, is_primary, is_in, is_eligible, is_backup, numbers_of, backups_of, is_empty, without, with_joiner, handed, reopened, with_eligible, with_backups, members_from}
use Rattle.partition_protocol.specs.Messages.{Message, NewRow, Sync, Effect, Bridge, Ack, Joined as JoinedMessage, Freeze, Frozen as FrozenMessage, Sent, Packet}
use Rattle.partition_protocol.specs.Took.{Dropped, Joined as TookJoined, Drained as TookDrained, Stale}
use Rattle.partition_protocol.specs.Node.{Node, settled, now_released}
use Rattle.partition_protocol.specs.Replica.{sent_again}
use Rattle.partition_protocol.specs.Execution.{reached, Executes, PartitionLost, WrongTarget, Migrating, executing, sent_on_executing}
use Rattle.partition_protocol.specs.Service.{Service, Move, NoMove, Joining, Joined, Freezing, Drained, ServiceStep, undetected, telling, with_row, begun_move, is_in_move, move_in_row, move_after_loss, detecting, MoveRefused, is_idle, join_refused, move_refused, handover_refused, beginning, handing_over, Freezes, MakesRow, advance_by, ReopenRefused, candidates, reopen_refused, reopening, joined_move, drained_move, is_freezing, freeze_of, freezing_again}
use Rattle.grid_base.specs.Objects.{Object}
use Rattle.partition_protocol.specs.History.{Executed, Called}
use Rattle.partition_protocol.specs.World.{World, map_or, is_live, with_entry, with_service, pair_state}
use Rattle.partition_protocol.specs.Links.{is_on, link, taken_out, packets_from, with_packets, sending}
use Rattle.partition_protocol.specs.Events.{Event, Call, Deliver, Lose, Repeat, Resend, Crash, Detect, BeginMove, BeginJoin, BeginHandover, Advance, Reopen, entry_of, executed_with, executes, if_executes, calling, Happened, nothing, done, at_node, delivered, service_takes, handed_over, at_place, row_made, unless_move_refused, detected, advanced_by, advanced, with_reset, unless_reopen_refused, reopened_row, resent, happens, run, TookMessage}
use Rattle.partition_table.specs.declared.Row.{Row}
use Rattle.partition_table.specs.declared.RowMember.{RowMember}
use Rattle.partition_protocol.proofs.Lists.{In, Every, every_in, every_append, every_map, every_if, every_from_in, set_get_same, on_if, on_cond}
use Rattle.partition_protocol.proofs.Histories.{IsBase, filter_in}
use Rattle.partition_protocol.proofs.Invariant.{Shape, shape, NodeAt, IsUpTo, IsGone, PacketOk, MoveOk, Frame, Invariant}
use Rattle.partition_protocol.proofs.RowFacts.{both_left, both_right, either, or_false_right, not_true, not_false, false_or_not, true_or_not, less, same_number, eligible_in, one_primary, first_among, first_primary}
use Rattle.partition_protocol.proofs.SameRow.{inv_packets}
use Rattle.partition_protocol.proofs.Sends.{SentOk, sent_packets, again_ok}
use Rattle.partition_protocol.proofs.Deliver.{lands_taking, finish, packets_append}
use Rattle.partition_protocol.proofs.Execute.{execute}
use Rattle.partition_protocol.proofs.NewRow.{NextRow, packets_old, row_inv, reopen_inv}
use Rattle.partition_protocol.proofs.NextRows.{some_in, joiner_next, without_next, handed_next, reopened_next, members_from_below, with_backups_in}
use Rattle.partition_protocol.proofs.Joins.{join, same_row, standing_same, crash}

abbrev pub Good : {C State : Type 0} → Object C State → World C → Type 0
Good o w = (made : List Shape) × Invariant o w made

pub good_if : {C State : Type 0} (o : Object C State) (b : Bool) (h k : Happened C) → (b ≡ true → Good o h.world) → (b ≡ false → Good o k.world) → Good o (cond b h k).world
good_if o true h k f g = f refl
good_if o false h k f g = g refl

pub if_false : {X : Type 0} (b : Bool) (x y : X) → b ≡ false → cond b x y ≡ y
if_false b x y e = rw e refl

-- the service tells of its row

pub told : {C : Type 0} (w : World C) (made : List Shape) (row : Row) (from : ℕ) (ms : List ℕ) → In (shape row) made
    → Every (λ (p : Packet). PacketOk w.nodes w.recorded.bases made w.crashed p.from p.message) (packets_from from (map (λ m. record { to = m; message = NewRow row }) ms))
told w made row from [] i = tt
told w made row from (m ∷ ms) i = (i, told w made row from ms i)

module _ {C State : Type 0} (o : Object C State) (w : World C) (made : List Shape) (inv : Invariant o w made) where
  -- a row that keeps the reset
  pub makes_row : (row : Row) (move : Move) (detected : List ℕ) → NextRow w row → w.service.row.lost ≡ false → row.reset ≡ w.service.row.reset → MoveOk w.nodes w.crashed row move → ((m : ℕ) → is_among detected m ≡ true → is_among w.crashed m ≡ true)
      → Good o (row_made w (record { row = row; move = move; detected = detected })).world
  makes_row row move detected s still r mv dt =
      let s' : Service = record { row = row; move = move; detected = detected } in (
        shape row ∷ made,
        row_inv o w made inv row s move detected (w.packets ++ packets_from w.members (telling w.members s')) still r mv dt
            (every_append (λ (p : Packet). PacketOk w.nodes w.recorded.bases (shape row ∷ made) w.crashed p.from p.message) w.packets (packets_from w.members (telling w.members s')) (packets_old w made inv.frame row s)
            (told w (shape row ∷ made) row w.members (undetected w.members detected) (inl refl))),
      )

  -- another move, with the same row
  pub moves_on : (move : Move) (detected : List ℕ) → MoveOk w.nodes w.crashed w.service.row move → ((m : ℕ) → is_among detected m ≡ true → is_among w.crashed m ≡ true)
      → Invariant o (record w { service = record { row = w.service.row; move = move; detected = detected }; recorded = record w.recorded { standing = cond w.service.row.lost w.recorded.standing w.service.row } }) made
  moves_on move detected mv dt =
      subst (λ st. Invariant o (record w { service = record { row = w.service.row; move = move; detected = detected }; recorded = record w.recorded { standing = st } }) made) (sym (standing_same o w made inv)) (same_row o w made inv move detected mv dt)

  -- the crash of a member is told
  pub told_more : (m : ℕ) → is_among w.crashed m ≡ true → (k : ℕ) → is_among (m ∷ w.service.detected) k ≡ true → is_among w.crashed k ≡ true
  told_more m c k e = ⊎_elim (λ a. subst (λ j. is_among w.crashed j ≡ true) (sym (same_number k m a)) c) (λ a. inv.frame.detected k a) (either (nat_eq k m) (is_among w.service.detected k) e)

  pub after_loss_ok : (m : ℕ) (row : Row) (v : Move) → MoveOk w.nodes w.crashed row (move_after_loss m row v)
  after_loss_ok m row v = on_if (λ k. MoveOk w.nodes w.crashed row k) (row.lost || is_in_move m v) NoMove (move_in_row row v) tt (again_move v)
    where
      begun : (s : Option ℕ) (t : ℕ) → MoveOk w.nodes w.crashed row (begun_move row s t)
      begun None t = on_if (λ k. MoveOk w.nodes w.crashed row k) (is_eligible row t) NoMove (Joining None t) tt tt
      begun (Some s) t = on_cond (λ k. MoveOk w.nodes w.crashed row k) (is_eligible row t) (Joined s t) (Joining (Some s) t) (λ e. e) (λ e. tt)

      again_move : (v : Move) → MoveOk w.nodes w.crashed row (move_in_row row v)
      again_move NoMove = tt
      again_move (Joining s t) = begun s t
      again_move (Joined s t) = begun (Some s) t
      again_move (Freezing s t) = begun (Some s) t
      again_move (Drained s t) = begun (Some s) t

  pub detect_row : (m : ℕ) → is_among w.crashed m ≡ true → is_in w.service.row m ≡ true → Good o (row_made w (detecting m w.service)).world
  detect_row m c i =
      let still = some_in w made inv.frame m i in
      let row = without w.service.row m in
      let whole : detecting m w.service ≡ record { row = row; move = move_after_loss m row w.service.move; detected = m ∷ w.service.detected } = rw i refl in
      subst (λ s. Good o (row_made w s).world) (sym whole)
      (makes_row row (move_after_loss m row w.service.move) (m ∷ w.service.detected) (without_next w made inv.frame m still (inl c)) still refl (after_loss_ok m row w.service.move) (told_more m c))

  pub detect_quiet : (m : ℕ) → is_among w.crashed m ≡ true → is_in w.service.row m ≡ false → Good o (done (with_service w (detecting m w.service))).world
  detect_quiet m c i =
      let whole : detecting m w.service ≡ record { row = w.service.row; move = w.service.move; detected = m ∷ w.service.detected } = rw i refl in
      subst (λ s. Good o (done (with_service w s)).world) (sym whole) (made, moves_on w.service.move (m ∷ w.service.detected) inv.frame.moving (told_more m c))

  pub detected_good : (m : ℕ) → Good o (detected w m).world
  detected_good m =
      good_if o (nat_lt m w.members && is_among w.crashed m && not (is_among w.service.detected m))
      (cond (is_in w.service.row m) (row_made w (detecting m w.service)) (done (with_service w (detecting m w.service)))) (nothing w)
      (λ e. let c = both_right (nat_lt m w.members) (is_among w.crashed m) (both_left (nat_lt m w.members && is_among w.crashed m) (not (is_among w.service.detected m)) e) in
      good_if o (is_in w.service.row m) (row_made w (detecting m w.service)) (done (with_service w (detecting m w.service))) (detect_row m c) (detect_quiet m c))
      (λ e. (made, inv))

  pub advanced_good : Good o (advanced w).world
  advanced_good = go w.service.move inv.frame.moving
    where
      still_of : (q : ℕ) → is_eligible w.service.row q ≡ true → w.service.row.lost ≡ false
      still_of q e = some_in w made inv.frame q (eligible_in w.service.row q e)

      freezes : (s t : ℕ) → is_eligible w.service.row t ≡ true → is_primary w.service.row s ≡ true → Good o (advanced_by w (Freezes s t)).world
      freezes s t e p =
          let i = moves_on (Freezing s t) w.service.detected (e, p) inv.frame.detected in (
            made,
            inv_packets o (record w { service = record { row = w.service.row; move = Freezing s t; detected = w.service.detected }; recorded = record w.recorded { standing = cond w.service.row.lost w.recorded.standing w.service.row } }) made
                (w.packets ++ record { from = w.members; to = s; message = Freeze w.service.row.version } ∷ []) i
                (every_append (λ (p : Packet). PacketOk w.nodes w.recorded.bases made w.crashed p.from p.message) w.packets (record { from = w.members; to = s; message = Freeze w.service.row.version } ∷ []) inv.frame.packets (tt, tt)),
          )

      go : (v : Move) → MoveOk w.nodes w.crashed w.service.row v → Good o (advanced_by w (advance_by w.service.row v)).world
      go NoMove h = (made, inv)
      go (Joining s t) h = (made, inv)
      go (Joined s t) h = on_cond (λ a. Good o (advanced_by w a).world) (is_primary w.service.row s) (Freezes s t) (MakesRow (without w.service.row s)) (freezes s t h)
          (λ e. makes_row (without w.service.row s) NoMove w.service.detected (without_next w made inv.frame s (still_of t h) (inr e)) (still_of t h) refl tt inv.frame.detected)
      go (Freezing s t) h = (made, inv)
      go (Drained s t) h = makes_row (handed w.service.row s t) NoMove w.service.detected (handed_next w made inv.frame s t (still_of t h.0) h.0 h.1 h.2) (still_of t h.0) refl tt inv.frame.detected

  -- moves that begin

  pub unless_good : (r : Option MoveRefused) (h : Happened C) → (r ≡ None → Good o h.world) → Good o (unless_move_refused w r h).world
  unless_good None h f = f refl
  unless_good (Some r) h f = (made, inv)

  pub joining_good : (source : Option ℕ) (to : ℕ) → join_refused w.members to w.service ≡ None → Good o (row_made w (beginning source to w.service)).world
  joining_good source to e =
      makes_row (with_joiner w.service.row to) (Joining source to) w.service.detected (joiner_next w made inv.frame to still_there live) still_there refl tt inv.frame.detected
    where
      still_there : w.service.row.lost ≡ false
      still_there = false_or_not w.service.row.lost (λ z. absurd (cc (rw z at e)))

      idle : is_idle w.service.move ≡ true
      idle = true_or_not (is_idle w.service.move) (λ z. absurd (cc (rw (still_there, z) at e)))

      out : is_in w.service.row to ≡ false
      out = false_or_not (is_in w.service.row to) (λ z. absurd (cc (rw (still_there, idle, z) at e)))

      open_to : (is_among w.service.detected to || not (nat_lt to w.members)) ≡ false
      open_to = false_or_not (is_among w.service.detected to || not (nat_lt to w.members)) (λ z. absurd (cc (rw (still_there, idle, out, z) at e)))

      live : to < w.members
      live = less to w.members (not_false (nat_lt to w.members) (or_false_right (is_among w.service.detected to) (not (nat_lt to w.members)) open_to))

  -- a move is refused where a join would be
  pub move_as_join : (from to : ℕ) → move_refused w.members from to w.service ≡ None → join_refused w.members to w.service ≡ None
  move_as_join from to e = rw (still_there, idle) (rw (still_there, idle, there) at e)
    where
      still_there : w.service.row.lost ≡ false
      still_there = false_or_not w.service.row.lost (λ z. absurd (cc (rw z at e)))

      idle : is_idle w.service.move ≡ true
      idle = true_or_not (is_idle w.service.move) (λ z. absurd (cc (rw (still_there, z) at e)))

      there : is_in w.service.row from ≡ true
      there = true_or_not (is_in w.service.row from) (λ z. absurd (cc (rw (still_there, idle, z) at e)))

  pub handover_good : (from to : ℕ) → handover_refused from to w.service ≡ None → Good o (done (with_service w (handing_over from to w.service))).world
  handover_good from to e = (made, moves_on (Joined from to) w.service.detected eligible inv.frame.detected)
    where
      still_there : w.service.row.lost ≡ false
      still_there = false_or_not w.service.row.lost (λ z. absurd (cc (rw z at e)))

      idle : is_idle w.service.move ≡ true
      idle = true_or_not (is_idle w.service.move) (λ z. absurd (cc (rw (still_there, z) at e)))

      there : (is_primary w.service.row from && is_backup w.service.row to) ≡ true
      there = true_or_not (is_primary w.service.row from && is_backup w.service.row to) (λ z. absurd (cc (rw (still_there, idle, z) at e)))

      eligible : is_eligible w.service.row to ≡ true
      eligible = true_or_not (is_eligible w.service.row to) (λ z. absurd (cc (rw (still_there, idle, there, z) at e)))

  -- a reopening

  pub candidate_below : (q : ℕ) → In q (candidates w.partition w.members w.service.detected) → q < w.members
  candidate_below q i = members_from_below w.members w.members w.partition q (omega (arith, some)) (filter_in (λ m. not (is_among w.service.detected m)) (members_from w.members w.members w.partition) q i).0
    where
      some : inv.frame.standing.first < w.members
      some = inv.frame.rows.below (shape w.recorded.standing) inv.frame.standing.first inv.frame.standing.made_row
          (first_among (numbers_of w.recorded.standing) inv.frame.standing.first (first_primary w.recorded.standing inv.frame.standing.first inv.frame.standing.rest inv.frame.standing.begins))

  pub reopen_with : (ms : List ℕ) → w.service.row.lost ≡ true → is_empty ms ≡ false → ((q : ℕ) → In q ms → q < w.members)
      → Good o (row_made (with_reset w (w.service.row.version + 1)) (with_row w.service (reopened w.service.row (with_backups w.backups ms)) NoMove)).world
  reopen_with [] lost some below = absurd (true≢false some)
  reopen_with (m ∷ ms) lost some below =
      let row = reopened w.service.row (with_backups w.backups (m ∷ ms)) in
      let s' : Service = record { row = row; move = NoMove; detected = w.service.detected } in
      let next = reopened_next w made inv.frame m (take w.backups ms) lost (λ q i. below q (with_backups_in w.backups (m ∷ ms) q i)) in (
        shape row ∷ made,
        reopen_inv o w made inv row next refl refl NoMove w.service.detected (w.packets ++ packets_from w.members (telling w.members s')) tt inv.frame.detected
            (every_append (λ (p : Packet). PacketOk w.nodes w.recorded.bases (shape row ∷ made) w.crashed p.from p.message) w.packets (packets_from w.members (telling w.members s')) (packets_old w made inv.frame row next)
            (told w (shape row ∷ made) row w.members (undetected w.members w.service.detected) (inl refl))),
      )

  pub unless_reopen_good : (r : Option ReopenRefused) (h : Happened C) → (r ≡ None → Good o h.world) → Good o (unless_reopen_refused w r h).world
  unless_reopen_good None h f = f refl
  unless_reopen_good (Some r) h f = (made, inv)

  pub reopened_good : Good o (reopened_row w).world
  reopened_good = unless_reopen_good (reopen_refused w.partition w.members w.service) (row_made (with_reset w (w.service.row.version + 1)) (reopening w.partition w.members w.backups w.service)) go
    where
      go : reopen_refused w.partition w.members w.service ≡ None → Good o (row_made (with_reset w (w.service.row.version + 1)) (reopening w.partition w.members w.backups w.service)).world
      go e = reopen_with (candidates w.partition w.members w.service.detected) lost some candidate_below
        where
          lost : w.service.row.lost ≡ true
          lost = true_or_not w.service.row.lost (λ z. absurd (cc (rw z at e)))

          some : is_empty (candidates w.partition w.members w.service.detected) ≡ false
          some = false_or_not (is_empty (candidates w.partition w.members w.service.detected)) (λ z. absurd (cc (rw (lost, z) at e)))

  -- what the service takes

  pub takes_joined : (v m : ℕ) → ((from : ℕ) → PacketOk w.nodes w.recorded.bases made w.crashed from (JoinedMessage v m)) → Good o (service_takes w (JoinedMessage v m)).world
  takes_joined v m good =
      on_cond (λ (s : ServiceStep). Good o (record w { service = s.service; recorded = record w.recorded { standing = cond s.service.row.lost w.recorded.standing s.service.row } }))
      ((w.service.row.version == v) && is_in w.service.row m && not (is_eligible w.service.row m))
      (record { service = with_row w.service (with_eligible w.service.row m) (joined_move m w.service.move); took = TookJoined }) (record { service = w.service; took = Stale })
      taken (λ e. (made, moves_on w.service.move w.service.detected inv.frame.moving inv.frame.detected))
    where
      taken : ((w.service.row.version == v) && is_in w.service.row m && not (is_eligible w.service.row m)) ≡ true
          → Good o (record w { service = with_row w.service (with_eligible w.service.row m) (joined_move m w.service.move); recorded = record w.recorded { standing = cond w.service.row.lost w.recorded.standing (with_eligible w.service.row m) } })
      taken e =
          let both = both_left ((w.service.row.version == v) && is_in w.service.row m) (not (is_eligible w.service.row m)) e in
          let same = same_number w.service.row.version v (both_left (w.service.row.version == v) (is_in w.service.row m) both) in
          let there = both_right (w.service.row.version == v) (is_in w.service.row m) both in
          let still = some_in w made inv.frame m there in
          let row' : Row = with_eligible w.service.row m in (
            made,
            subst (λ st. Invariant o (record w { service = with_row w.service row' (joined_move m w.service.move); recorded = record w.recorded { standing = st } }) made) (sym (if_false w.service.row.lost w.recorded.standing row' still))
                (join o w made inv m there (subst (λ u. PacketOk w.nodes w.recorded.bases made w.crashed m (JoinedMessage u m)) (sym same) (good m))),
          )

  pub takes_frozen : (from v : ℕ) → PacketOk w.nodes w.recorded.bases made w.crashed from (FrozenMessage v) → Good o (service_takes w (FrozenMessage v)).world
  takes_frozen from v good =
      on_cond (λ (s : ServiceStep). Good o (record w { service = s.service })) (is_freezing w.service.move && (w.service.row.version == v))
      (record { service = with_row w.service w.service.row (drained_move w.service.move); took = TookDrained }) (record { service = w.service; took = Stale })
      (λ e. (
        made,
        same_row o w made inv (drained_move w.service.move) w.service.detected
            (drained w.service.move (same_number w.service.row.version v (both_right (is_freezing w.service.move) (w.service.row.version == v) e)) inv.frame.moving) inv.frame.detected,
      ))
      (λ e. (made, inv))
    where
      drained : (k : Move) → w.service.row.version ≡ v → MoveOk w.nodes w.crashed w.service.row k → MoveOk w.nodes w.crashed w.service.row (drained_move k)
      drained NoMove e h = tt
      drained (Joining s t) e h = tt
      drained (Joined s t) e h = h
      drained (Drained s t) e h = h
      drained (Freezing s t) e h =
          let head = good.1 in
          let same : good.0 ≡ s = one_primary inv.frame.rows head.0 (shape w.service.row) good.0 s head.1 inv.frame.rows.newest_in (head.2 ∙ sym e) head.3 h.1 in
          (h.0, h.1, subst (λ k. IsGone w.nodes w.crashed w.service.row.version k) same (subst (λ u. IsGone w.nodes w.crashed u good.0) (sym e) good.2))

  pub takes_good : (from : ℕ) (msg : Message) → PacketOk w.nodes w.recorded.bases made w.crashed from msg → Good o (service_takes w msg).world
  takes_good from (NewRow row) g = (made, inv)
  takes_good from (Sync row c) g = (made, inv)
  takes_good from (Effect v i) g = (made, inv)
  takes_good from (Bridge row e k) g = (made, inv)
  takes_good from (Ack v c) g = (made, inv)
  takes_good from (JoinedMessage v m) g = takes_joined v m (λ k. g)
  takes_good from (Freeze v) g = (made, inv)
  takes_good from (FrozenMessage v) g = takes_frozen from v g

  -- at a node

  pub alive : (m : ℕ) → is_live w m ≡ true → is_among w.crashed m ≡ false
  alive m e = not_true (is_among w.crashed m) (both_right (nat_lt m w.members) (not (is_among w.crashed m)) e)

  pub map_or_good : {X : Type 0} (x : Option X) (d : Happened C) (f : X → Happened C) → Good o d.world → ((k : X) → x ≡ Some k → Good o (f k).world) → Good o (map_or x d f).world
  map_or_good None d f g h = g
  map_or_good (Some k) d f g h = h k refl

  pub at_node_good : (m : ℕ) (f : Node → Happened C) → ((n : Node) → NodeAt w.nodes m n → is_among w.crashed m ≡ false → Good o (f n).world) → Good o (at_node w m f).world
  at_node_good m f g = good_if o (is_live w m) (map_or (slice_get w.nodes m) (nothing w) f) (nothing w)
      (λ e. map_or_good (slice_get w.nodes m) (nothing w) f (made, inv) (λ n at. g n at (alive m e))) (λ e. (made, inv))

  pub delivered_good : (p : Packet) (n : Node) → NodeAt w.nodes p.to n → is_among w.crashed p.to ≡ false → PacketOk w.nodes w.recorded.bases made w.crashed p.from p.message → Good o (delivered w p n).world
  delivered_good p n at lives g = (made, lands_taking o w made p.to n at lives inv w.members p.from p.message g)

  pub handed_over_good : (p : Packet) → PacketOk w.nodes w.recorded.bases made w.crashed p.from p.message → Good o (handed_over w p).world
  handed_over_good p g =
      good_if o (p.to == w.members) (service_takes w p.message) (cond (is_live w p.to) (at_node w p.to (delivered w p)) (record { world = w; outcome = TookMessage Dropped }))
      (λ e. takes_good p.from p.message g)
      (λ e. good_if o (is_live w p.to) (at_node w p.to (delivered w p)) (record { world = w; outcome = TookMessage Dropped })
      (λ l. at_node_good p.to (delivered w p) (λ n at lives. delivered_good p n at lives g)) (λ l. (made, inv)))

-- links

pub get_in : {X : Type 0} (xs : List X) (i : ℕ) (x : X) → slice_get xs i ≡ Some x → In x xs
get_in [] i x e = absurd cc
get_in (y ∷ ys) zero x e = inl cc
get_in (y ∷ ys) (suc i) x e = inr (get_in ys i x e)

pub taken_every : (P : Packet → Type 0) (f t i : ℕ) (ps : List Packet) → Every P ps → Every P (taken_out f t i ps)
taken_every P f t i [] h = tt
taken_every P f t zero (p ∷ ps) h = every_if P (is_on f t p) ps (p ∷ taken_out f t zero ps) h.1 (h.0, taken_every P f t zero ps h.1)
taken_every P f t (suc i) (p ∷ ps) h = every_if P (is_on f t p) (p ∷ taken_out f t i ps) (p ∷ taken_out f t (suc i) ps) (h.0, taken_every P f t i ps h.1) (h.0, taken_every P f t (suc i) ps h.1)

module _ {C State : Type 0} (o : Object C State) (w : World C) (made : List Shape) (inv : Invariant o w made) where
  abbrev pub Flies : Packet → Type 0
  Flies p = PacketOk w.nodes w.recorded.bases made w.crashed p.from p.message

  pub at_place_good : (f t i : ℕ) (g : Packet → Happened C) → ((p : Packet) → Flies p → Good o (g p).world) → Good o (at_place w f t i g).world
  at_place_good f t i g h = map_or_good o w made inv (slice_get (link f t w.packets) i) (nothing w) g (made, inv)
      (λ p e. h p (every_in Flies w.packets p inv.frame.packets (filter_in (is_on f t) w.packets p (get_in (link f t w.packets) i p e)).0))

  pub fewer : (f t i : ℕ) → Invariant o (with_packets w (taken_out f t i w.packets)) made
  fewer f t i = inv_packets o w made (taken_out f t i w.packets) inv (taken_every Flies f t i w.packets inv.frame.packets)

  pub deliver_good : (f t i : ℕ) → Good o (at_place w f t i (λ p. handed_over (with_packets w (taken_out f t i w.packets)) p)).world
  deliver_good f t i = at_place_good f t i (λ p. handed_over (with_packets w (taken_out f t i w.packets)) p) (λ p g. handed_over_good o (with_packets w (taken_out f t i w.packets)) made (fewer f t i) p g)

  pub lose_good : (f t i : ℕ) → Good o (at_place w f t i (λ p. done (with_packets w (taken_out f t i w.packets)))).world
  lose_good f t i = at_place_good f t i (λ p. done (with_packets w (taken_out f t i w.packets))) (λ p g. (made, fewer f t i))

  pub repeat_good : (f t i : ℕ) → Good o (at_place w f t i (λ p. done (with_packets w (w.packets ++ p ∷ [])))).world
  repeat_good f t i = at_place_good f t i (λ p. done (with_packets w (w.packets ++ p ∷ [])))
      (λ p g. (made, inv_packets o w made (w.packets ++ p ∷ []) inv (every_append Flies w.packets (p ∷ []) inv.frame.packets (g, tt))))

  -- sending again

  pub sends_good : (from : ℕ) (ss : List Sent) → Every Flies (packets_from from ss) → Good o (done (sending w from ss)).world
  sends_good from ss h = (made, inv_packets o w made (w.packets ++ packets_from from ss) inv (every_append Flies w.packets (packets_from from ss) inv.frame.packets h))

  pub service_again : Every Flies (packets_from w.members (telling w.members w.service ++ freezing_again w.service))
  service_again = rw (packets_append w.members (telling w.members w.service) (freezing_again w.service))
      (every_append Flies (packets_from w.members (telling w.members w.service)) (packets_from w.members (freezing_again w.service))
      (told w made w.service.row w.members (undetected w.members w.service.detected) inv.frame.rows.newest_in) (freezes w.service.move))
    where
      freezes : (v : Move) → Every Flies (packets_from w.members (freeze_of w.service.row v))
      freezes NoMove = tt
      freezes (Joining s t) = tt
      freezes (Joined s t) = tt
      freezes (Freezing s t) = (tt, tt)
      freezes (Drained s t) = tt

  pub node_again : (m : ℕ) (n : Node) → NodeAt w.nodes m n → Good o (cond (is_primary n.known m) (done (sending w m (sent_again w.members n))) (nothing w)).world
  node_again m n at = good_if o (is_primary n.known m) (done (sending w m (sent_again w.members n))) (nothing w)
      (λ p. sends_good m (sent_again w.members n) (sent_packets w made m (sent_again w.members n) (again_ok w made inv.frame m n at p w.members))) (λ e. (made, inv))

  pub resent_good : (m : ℕ) → Good o (resent w m).world
  resent_good m = good_if o (m == w.members) (done (sending w m (telling w.members w.service ++ freezing_again w.service))) (at_node w m (λ n. cond (is_primary n.known m) (done (sending w m (sent_again w.members n))) (nothing w)))
      (λ e. subst (λ k. Good o (done (sending w k (telling w.members w.service ++ freezing_again w.service))).world) (sym (same_number m w.members e)) (sends_good w.members (telling w.members w.service ++ freezing_again w.service) service_again))
      (λ e. at_node_good o w made inv m (λ n. cond (is_primary n.known m) (done (sending w m (sent_again w.members n))) (nothing w)) (λ n at lives. node_again m n at))

  pub crash_good : (m : ℕ) → Good o (cond (is_live w m) (done (record w { crashed = m ∷ w.crashed })) (nothing w)).world
  crash_good m = good_if o (is_live w m) (done (record w { crashed = m ∷ w.crashed })) (nothing w) (λ e. (made, crash o w made inv m)) (λ e. (made, inv))

  -- a call

  pub if_executes_good : (m : ℕ) (n : Node) (h : Happened C) → (is_primary n.known m ≡ true → n.frozen ≡ false → Good o h.world) → Good o (if_executes w (reached m n) h).world
  if_executes_good m n h f =
      on_cond (λ r. Good o (if_executes w r h).world) n.known.lost (PartitionLost n.known.version) (cond (not (is_primary n.known m)) (WrongTarget n.known.version) (cond n.frozen (Migrating n.known.version) Executes)) (λ e. (made, inv))
      (λ a. on_cond (λ r. Good o (if_executes w r h).world) (not (is_primary n.known m)) (WrongTarget n.known.version) (cond n.frozen (Migrating n.known.version) Executes) (λ e. (made, inv))
      (λ b. on_cond (λ r. Good o (if_executes w r h).world) n.frozen (Migrating n.known.version) Executes (λ e. (made, inv)) (λ c. f (not_false (is_primary n.known m) b) c)))

  module _ (m conn number : ℕ) (call : C) (now : ℕ) (n : Node) (at : NodeAt w.nodes m n) (lives : is_among w.crashed m ≡ false) (leads : is_primary n.known m ≡ true) (thawed : n.frozen ≡ false) (changes : Bool) where
    abbrev pub after : Node
    after = executing changes conn number n

    abbrev pub x : Executed C
    x = entry_of o (pair_state o w n.pair) conn number call now after.pair

    abbrev pub w' : World C
    w' = with_entry w (Called x)

    pub more : n.pair.count ≤ after.pair.count
    more = on_if (λ c. n.pair.count ≤ c) changes (n.pair.count + 1) n.pair.count (omega arith) (le_refl n.pair.count)

    pub executed : Invariant o (record w { nodes = slice_set w.nodes m after; recorded = record w.recorded { log = w.recorded.log ++ Called x ∷ [] } }) made
    executed = execute o w made inv m n at lives leads thawed x after.pair.count after.recent (record { conn = conn; number = number; seen = after.pair.count }) more refl refl refl refl refl refl

    abbrev pub Right : Sent → Type 0
    Right s = SentOk (record w' { nodes = slice_set w.nodes m (settled after); packets = w.packets; released = w.released ++ now_released after after.held; recorded = record w'.recorded { bases = w.recorded.bases } }) made m s

    pub effects_sent : (f : Frame (record w' { nodes = slice_set w.nodes m (settled after); packets = w.packets; released = w.released ++ now_released after after.held; recorded = record w'.recorded { bases = w.recorded.bases } }) made)
        → Every (SentOk (record w' { nodes = slice_set w.nodes m (settled after); packets = w.packets; released = w.released ++ now_released after after.held; recorded = record w'.recorded { bases = w.recorded.bases } }) made m) (sent_on_executing changes after)
    effects_sent f =
        every_if Right changes (map (λ (p : RowMember). record { to = p.member; message = Effect after.pair.version after.pair.count }) (backups_of after.known)) []
        (every_map Right (λ (p : RowMember). record { to = p.member; message = Effect after.pair.version after.pair.count }) (backups_of after.known) (every_from_in (λ (p : RowMember). Right (record { to = p.member; message = Effect after.pair.version after.pair.count })) (backups_of after.known) (λ p i. (based, top)))) tt
      where
        here : NodeAt (slice_set w.nodes m (settled after)) m (settled after)
        here = set_get_same w.nodes m (settled after) n at

        based : IsBase w.recorded.bases after.pair.version
        based = let p = (inv.frame.nodes m n at).primary leads in subst (λ v. IsBase w.recorded.bases v) (sym p.0) p.1

        top : IsUpTo (slice_set w.nodes m (settled after)) after.pair.version after.pair.count
        top = f.tops m (settled after) here

    pub executed_good : Good o (executed_with o w m conn number call now (pair_state o w n.pair) changes after).world
    executed_good = (made, finish o w' made m n at lives after (sent_on_executing changes after) w.recorded.bases w.packets executed effects_sent)

  pub calling_good : (m conn number : ℕ) (call : C) (now : ℕ) → Good o (at_node w m (calling o w m conn number call now)).world
  calling_good m conn number call now = at_node_good o w made inv m (calling o w m conn number call now)
      (λ n at lives. if_executes_good m n (executes o w m conn number call now n) (λ leads thawed. executed_good m conn number call now n at lives leads thawed (o.changes (pair_state o w n.pair) call now)))

  pub happens_good : (e : Event C) → Good o (happens o w e).world
  happens_good (Call m conn number call now) = calling_good m conn number call now
  happens_good (Deliver f t i) = deliver_good f t i
  happens_good (Lose f t i) = lose_good f t i
  happens_good (Repeat f t i) = repeat_good f t i
  happens_good (Resend end) = resent_good end
  happens_good (Crash m) = crash_good m
  happens_good (Detect m) = detected_good o w made inv m
  happens_good (BeginMove from to) = unless_good o w made inv (move_refused w.members from to w.service) (row_made w (beginning (Some from) to w.service)) (λ e. joining_good o w made inv (Some from) to (move_as_join o w made inv from to e))
  happens_good (BeginJoin to) = unless_good o w made inv (join_refused w.members to w.service) (row_made w (beginning None to w.service)) (joining_good o w made inv None to)
  happens_good (BeginHandover from to) = unless_good o w made inv (handover_refused from to w.service) (done (with_service w (handing_over from to w.service))) (handover_good o w made inv from to)
  happens_good Advance = advanced_good o w made inv
  happens_good Reopen = reopened_good o w made inv

pub run_good : {C State : Type 0} (o : Object C State) (w : World C) (es : List (Event C)) → Good o w → Good o (run o w es)
run_good o w [] g = g
run_good o w (e ∷ es) g = run_good o (happens o w e).world es (happens_good o w g.0 g.1 e)
