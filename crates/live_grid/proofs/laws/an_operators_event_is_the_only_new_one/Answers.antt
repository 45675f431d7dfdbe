use Rattle.live_grid.proofs.Controls.{new_in_one, new_in_all}
use Rattle.live_grid.proofs.laws.an_operators_event_is_the_only_new_one.Goals as goal

pub returns-clause-in_one : goal.returns-clause-in_one
returns-clause-in_one c = λ grid event old new partition came key control at. new_in_one grid event old new key control partition came at

pub returns-clause-in_all : goal.returns-clause-in_all
returns-clause-in_all c = λ grid event old new answer key control of_grid at. new_in_all grid event old new key control answer of_grid at
