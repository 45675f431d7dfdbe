use Rattle.std.proofs.Common.{◌≡◌, arith}
use Rattle.std.proofs.lemmas.Bool.Decides.{nat_tests}
use Rattle.thread_crew.proofs.Crews.{whole_worked}
use Rattle.thread_crew.proofs.crew.fn.run_beside.scope.Goals as goal

pub returns : goal.returns
returns g c = record {
  task = c.run-output.ensures;
  worked = λ whole.
      let same : c.len.result ≡ c.len-asked.result = grind (arith, nat_tests, whole) in
      whole_worked g.L.Labor.labors c.captures.work.now c.captures.workers.items c.start_all-made.result.items c.start_all-made.ensures
      (omega (arith, same, c.len.ensures, c.len-asked.ensures, c.start_all-made.result.ok.0, c.captures.workers.ok.0)) c.join_all.ensures;
}
