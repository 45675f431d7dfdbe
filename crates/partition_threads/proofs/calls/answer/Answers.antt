use Rattle.partition_threads.proofs.calls.answer.Goals as goal

pub put-requires-clause-done : goal.put-requires-clause-done
put-requires-clause-done g c κs within = let call = c.requires.1 in (
  call.terms,
  call.side,
  record { same_call = call.begun.of_call.key; answered = call.begun.served },
)
