use Rattle.partition_threads.proofs.starting.Awaited.wait.Goals as goal

pub returns : goal.returns
returns g c = λ terms awaited. c.wait.ensures terms awaited.side
