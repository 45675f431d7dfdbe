use Rattle.near_run_laws.proofs.Feeds.{every_feed_is_followed}
use Rattle.near_run_laws.proofs.every_feed_is_followed.Goals as goal

pub returns : goal.returns
returns c = every_feed_is_followed
