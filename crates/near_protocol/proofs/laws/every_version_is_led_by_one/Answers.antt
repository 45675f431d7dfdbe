use Rattle.near_protocol.proofs.laws.every_version_is_led_by_one.Goals as goal
use Rattle.near_protocol.proofs.Versions.{every_version_is_led_by_one}

pub returns : goal.returns
returns g c = λ o. every_version_is_led_by_one o
