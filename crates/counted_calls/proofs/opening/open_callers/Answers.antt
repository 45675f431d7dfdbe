use Rattle.std.proofs.Common.{◌≡◌, suc, ◌+◌, map, ap, ◌∙◌, subst, arith}
use Rattle.hand_cell.specs.declared.names.Names.TheVariants.{One}
use Rattle.session_calls.specs.Passes.{giving_up}
use Rattle.live_grid.specs.Grids.{place_of}
use Rattle.counted_calls.specs.declared.requests.TheConstants.{SESSIONS}
use Rattle.counted_calls.proofs.Opened.{have_number, callers_more, none_joined, one_less, one_longer, opened_made, passes_left}
use Rattle.counted_calls.proofs.opening.open_callers.Goals as goal

pub session-requires-clause-named : goal.session-requires-clause-named
session-requires-clause-named g c =
    have_number c.loop-conn.conn (place_of c.args.stage.now.grid).cells.items c.loop-conn.pass.passes.items c.loop-conn.invariant.passes

pub loop-conn-preserved : goal.loop-conn-preserved
loop-conn-preserved g c =
    let grid = c.args.stage.now.grid in
    let cells = (place_of grid).cells.items in
    let was = c.loop-conn.invariant in
    let conn = c.loop-conn.conn in
    let before = c.loop-conn.pass.passes.items in
    let left = c.in_ok-session.ensures.left ∙ (ap (map (giving_up (One conn))) was.passes ∙ one_less conn cells) in
    let next : suc conn ≡ conn + 1 = omega arith in
    record {
      long = one_longer c.loop-conn.callers.items _ conn _ was.long c.in_ok-push.ensures.items;
      callers = callers_more grid c.args.stage.now.key c.loop-conn.callers.items _ conn _ was.long was.callers
          (opened_made grid c.args.stage.now.key c.requires.count conn before c.in_ok-session.session was.passes c.in_ok-session.ensures.opened) c.in_ok-push.ensures.items;
      of_grid = c.in_ok-session.ensures.kept;
      passes = subst (λ n. c.session.new.pass.passes.items ≡ passes_left n cells) next left;
      tokens = c.in_ok-session.ensures.tokens_stay ∙ was.tokens;
    }

pub returns-clause-none : goal.returns-clause-none
returns-clause-none g c =
    let grid = c.args.stage.now.grid in
    let done : c.loop-conn.conn ≡ SESSIONS = omega arith in
    none_joined grid c.args.stage.now.key c.requires.count c.loop-conn.pass
    (subst (λ n. c.loop-conn.pass.passes.items ≡ passes_left n (place_of grid).cells.items) done c.loop-conn.invariant.passes)
