use Rattle.std.proofs.Common.{◌≡◌, ℕ, Some, slice_get, set, subst, refl, sym, ap, ◌∙◌}
use Rattle.job_queues.specs.Roster.{roster_of}
use Rattle.session_calls.proofs.Ending.{called}
use Rattle.session_calls.proofs.Keeping.{with_pass}
use Rattle.session_calls.proofs.Places.{same_some}
use Rattle.session_calls.proofs.session.SessionPass.finish.Goals as goal

pub returns-in-Some-clause-ended : goal.returns-in-Some-clause-ended
returns-in-Some-clause-ended g c terms under = record {
  pass = c.in-Some.done.pass;
  back = record {
    passes = subst (λ (n : ℕ). c.put_pass.new.passes.items ≡ set c.args.self.now.passes.items n (Some c.in-Some.done.pass)) c.from.ensures c.put_pass.ensures;
    same_tokens = refl;
    same_member = refl;
    same_conn = refl;
  };
  called = called g.T.Stands.key_of c.args.place.now terms c.args.started under g.T.Served.tells c.in-Some.done.pass c.in-Some.done.outcome (c.in-Some.ensures.done terms under.awaited.side).answered;
}

pub returns-in-Some-clause-kept : goal.returns-in-Some-clause-kept
returns-in-Some-clause-kept g c =
    let terms = c.requires.may.0 in
    let under = c.requires.may.1.under_way in
    let answered = (c.in-Some.ensures.done terms under.awaited.side).answered in
    let tables = (roster_of c.args.place.now.cells.items).tables in
    with_pass c.args.place.now c.args.self.now _ c.requires.session c.from.result (Some c.in-Some.done.pass)
    (λ q e. subst (λ z. slice_get tables c.from.result ≡ Some z.table) (same_some c.in-Some.done.pass q e) (ap (slice_get tables) c.from.ensures ∙ (under.here ∙ ap Some (sym answered.same_table))))
    (record { passes = c.put_pass.ensures; same_tokens = refl; same_member = refl; same_conn = refl })
