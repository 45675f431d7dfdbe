-- A line that is taken apart, in a grid: it is counted as a comment is, each of its events finds room, and behind the last one the grid stands as between two lines.
use Rattle.std.proofs.Common.{ℕ, ◌+◌, ◌<◌, ◌≤◌, ap, sym, ◌∙◌, subst, arith}
use Rattle.std.specs.List.{find}
use Rattle.call_engine.specs.Calls.{Settings}
use Rattle.script_lang.specs.Limits.{most_lines}
use Rattle.replay_run.specs.declared.grid.Grid.{Grid}
use Rattle.replay_run.specs.Runs.{Run, is_connection, next_line}
use Rattle.replay_run.specs.Rebalancing.{most_line_events}
use Rattle.replay_run.specs.Grids.{FormOf, AreFew, IsBounded, AreReached, Stands}
use Rattle.replay_run.specs.WorldCalls.{HasRoomAt, IsAmid}
use Rattle.replay_run.proofs.Bounds.{kept_small}
use Rattle.replay_run.proofs.EventLines.{stands_room}
use Rattle.replay_run.proofs.TakenApart.{TakesFew, room_after}

module _ {V : Type 0} {T : V → Type 0} {form : FormOf V T} {settings : Settings} where
  pub stands_amid : (grid : Grid V T) (r : Run) → Stands form settings grid r → IsAmid form settings grid r
  stands_amid grid r s = record { run = s.run; holds = s.holds; listeners = s.listeners; settled = s.settled }

  module _ (grid : Grid V T) (r : Run) (s : Stands form settings grid r) (limit : r.lines + 1 ≤ most_lines) (next : Run) (taken reopens : ℕ) (few : TakesFew taken reopens (next_line r) next) where
    -- Some of its events were taken.
    pub line_has_room : (p more : ℕ) → taken + more ≤ most_line_events → HasRoomAt next p more
    line_has_room p more within = room_after few p more (stands_room grid r s limit p (taken + more) within)

    ends_few : taken ≤ most_line_events → AreFew next
    ends_few within p = let before = s.few p in let more = few.few p in let lines = few.kept.lines in omega (arith, before, more, lines, within)

    ends_bounded : reopens ≤ most_line_events → IsBounded next
    ends_bounded within =
        let before = s.bounded.reopenings in
        let more = few.reopened in
        let lines = few.kept.lines in
        record { lines = omega (arith, limit, lines); reopenings = omega (arith, before, more, lines, within) }

    ends_reached : AreReached next
    ends_reached c k found = subst (λ m. k.member < m) (sym few.kept.members) (s.reached c k (ap (find (is_connection c)) (sym few.kept.connections) ∙ found))

    -- All were.
    pub line_ends : (new : Grid V T) → taken ≤ most_line_events → reopens ≤ most_line_events → IsAmid form settings new next → Stands form settings new next
    line_ends new within rarely amid = record {
      run = amid.run;
      small = kept_small r next few.kept s.small;
      few = ends_few within;
      bounded = ends_bounded rarely;
      holds = amid.holds;
      listeners = amid.listeners;
      settled = amid.settled;
      reached = ends_reached;
    }
