-- A call that a session doesn't start.
use Rattle.std.proofs.Common.{◌≡◌, ℕ, ◌<◌, ◌%◌, Some, slice_get, get_or, set, sym, ap, ◌∙◌, subst, arith}
use Rattle.std.proofs.lemmas.Grind.{common_steps}
use Rattle.std.proofs.lemmas.Option.{slice_get_read}
use Rattle.job_queues.specs.Tokens.{Token, IsSameQueue, after_full_look}
use Rattle.partition_threads.specs.declared.starting.Obstacle.{Obstacle}
use Rattle.partition_threads.specs.declared.starting.Obstacle.TheVariants.{Busy, Memory}
use Rattle.partition_threads.specs.declared.workplace.Workplace.{Workplace}
use Rattle.partition_threads.specs.Starting.{HasMet}
use Rattle.session_calls.specs.declared.session.SessionPass.{SessionPass}
use Rattle.session_calls.specs.Calls.{HasRefused, IsWhyUnstarted}
use Rattle.session_calls.specs.Sessions.{IsSessionOf}
use Rattle.session_calls.proofs.Keeping.{with_token}
use Rattle.session_calls.proofs.Places.{set_same}

-- the token is of the same queue
pub met_queue : {P : Type 0} (token after : Token P) (why : Obstacle) → HasMet why token after → IsSameQueue token after
met_queue {P} token after Busy met = record { queue = ap (λ (t : Token P). t.queue) met; roster = ap (λ (t : Token P). t.roster) met }
met_queue {P} token after Memory met = record { queue = ap (λ (t : Token P). t.queue) met; roster = ap (λ (t : Token P). t.roster) met }

module _ {T P E O : Type 0} (place : Workplace T P E O) (s : SessionPass T P E O) (is : IsSessionOf place s) (slot : ℕ) (token after : Token P) (read : token ≡ get_or s.tokens.items (slot % 4) token) where
  -- the token for the partition
  pub there : slice_get s.tokens.items (slot % 4) ≡ Some token
  there = slice_get_read s.tokens.items 4 (slot % 4) token (sym is.four) small read
    where
      small : slot % 4 < 4
      small = grind (arith, common_steps)

  -- a token that is as before
  pub same_tokens : after ≡ token → set s.tokens.items (slot % 4) after ≡ s.tokens.items
  same_tokens same = ap (set s.tokens.items (slot % 4)) same ∙ set_same s.tokens.items (slot % 4) token there

  module _ (new : SessionPass T P E O) (written : new.tokens.items ≡ set s.tokens.items (slot % 4) after) where
    -- why a call wasn't handed over
    pub why_unstarted : (partition : ℕ) → slot ≡ partition → (why : Obstacle) → HasMet why token after → IsWhyUnstarted s new partition why
    why_unstarted partition slot_is Busy met = record {
      token = token;
      was = subst (λ (n : ℕ). slice_get s.tokens.items (n % 4) ≡ Some token) slot_is there;
      rose = subst (λ (n : ℕ). new.tokens.items ≡ set s.tokens.items (n % 4) (after_full_look token)) slot_is (written ∙ ap (set s.tokens.items (slot % 4)) met);
    }
    why_unstarted partition slot_is Memory met = written ∙ same_tokens met

    module _ (why : Obstacle) (met : HasMet why token after) (passes : new.passes.items ≡ s.passes.items) (member : new.member ≡ s.member) where
      pub refused : (partition : ℕ) → slot ≡ partition → new.conn ≡ s.conn → HasRefused s new partition why
      refused partition slot_is conn = record { same_passes = passes; same_member = member; same_conn = conn; why_is = why_unstarted partition slot_is why met }

      pub still_session : IsSessionOf place new
      still_session = with_token place s new is (slot % 4) token after there (met_queue token after why met) passes member written
