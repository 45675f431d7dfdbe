use Rattle.std.proofs.Common.{◌≡◌, arith, w32, to_z, of_z}
use Rattle.std.proofs.lemmas.Int.{ints}
use Rattle.entry_processors.proofs.registry.Numbered+Box+dyn+Processor.run.Goals as goal
use Rattle.entry_processors.proofs.Forms.{form_of_found, made_by_form, known}

pub returns-in-Some-clause-ok : goal.returns-in-Some-clause-ok
returns-in-Some-clause-ok g c =
    let same : to_z w32 (of_z w32 c.args.number) ≡ c.args.number = omega (arith, ints) in
    made_by_form _ _ _ _ (form_of_found _ _ _ _ _ c.in-Some.ensures same) c.run_boxed.ensures.ok

pub returns-in-Some-clause-unknown : goal.returns-in-Some-clause-unknown
returns-in-Some-clause-unknown g c =
    let same : to_z w32 (of_z w32 c.args.number) ≡ c.args.number = omega (arith, ints) in
    known _ _ _ (form_of_found _ _ _ _ _ c.in-Some.ensures same) c.run_boxed.ensures.memory
