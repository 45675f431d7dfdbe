use Rattle.std.proofs.Common.{sym}
use Rattle.std.proofs.Math.Seq.{take-add}
use Rattle.std.proofs.lemmas.List.{drop-drop}
use Rattle.primary_hold.proofs.answers.Answers.release_first.Goals as goal

pub returns-clause-released : goal.returns-clause-released
returns-clause-released c = rw (← c.self.view_is) (take-add c.self.inside.ready 1 c.self.inside.list.items)

pub returns-clause-held : goal.returns-clause-held
returns-clause-held c = rw (← c.self.view_is) (sym (drop-drop 1 c.self.inside.ready c.self.inside.list.items))
