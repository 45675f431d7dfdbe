use Rattle.std.proofs.lemmas.Result.{IfOk-weaker}
use Rattle.sample_run.proofs.Samples.{stands_begun}
use Rattle.sample_run.proofs.sample.begin.Goals as goal

pub returns : goal.returns
returns g c = IfOk-weaker c.new.result _ _ (λ grid stands. stands_begun _ c.new-processors.result.items grid c.new-processors.ensures.items stands) c.new.ensures
