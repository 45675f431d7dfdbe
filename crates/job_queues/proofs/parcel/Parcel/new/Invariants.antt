use Rattle.std.proofs.Common.{Some}
use Rattle.job_queues.specs.Terms.{terms_for}
use Rattle.job_queues.proofs.parcel.Parcel.new.Given as goal

abbrev pub ghosts-seal : goal.ghosts-seal
ghosts-seal g a = record { terms = Some (terms_for g.T.Served.call_of a.cell.now a.pass.now a.member a.request.now a.now) }
