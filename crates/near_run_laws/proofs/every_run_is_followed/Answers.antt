use Rattle.near_run_laws.proofs.Following.{every_other_step_is_aside, every_event_is_followed, every_other_call_is_followed, every_miss_is_followed, every_hit_is_followed, every_hearing_is_followed}
use Rattle.near_run_laws.proofs.FollowingInVain.{every_miss_in_vain_is_followed}
use Rattle.near_run_laws.proofs.every_run_is_followed.Goals as goal

pub returns : goal.returns
returns c = record {
  aside = every_other_step_is_aside;
  event = every_event_is_followed;
  call = every_other_call_is_followed;
  miss = every_miss_is_followed;
  vain = every_miss_in_vain_is_followed;
  hit = every_hit_is_followed;
  hearing = every_hearing_is_followed;
}
