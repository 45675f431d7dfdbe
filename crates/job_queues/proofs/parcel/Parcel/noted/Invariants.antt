use Rattle.std.proofs.Common.{Some}
use Rattle.job_queues.specs.Terms.{terms_noted}
use Rattle.job_queues.proofs.parcel.Parcel.noted.Given as goal

abbrev pub ghosts-seal_noted : goal.ghosts-seal_noted
ghosts-seal_noted g a = record { terms = Some (terms_noted a.cell.now a.call.now) }
