use Rattle.near_script_laws.proofs.Theorem.{every_hit_of_a_script_stands}
use Rattle.near_script_laws.proofs.every_hit_of_a_script_stands.Goals as goal

pub returns : goal.returns
returns c = every_hit_of_a_script_stands
