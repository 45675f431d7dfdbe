-- Each hit of a near client stands.
use Rattle.near_run_laws.specs.NearHits.{EveryHitOfANearClientStands}
use Rattle.near_run_laws.proofs.NearRuns.{every_near_run_goes_well}
use Rattle.near_run_laws.proofs.Looks.{hits}

pub every_hit_of_a_near_client_stands : EveryHitOfANearClientStands
every_hit_of_a_near_client_stands settings client name key r s earlier heard st value run named g found =
    (every_near_run_goes_well settings client name r s earlier heard run named).hits key value (hits settings client s.conn name key st s.client value g found).0
