-- What the near clients of scripts hit stands.
use Rattle.std.proofs.Common.{◌≡◌, None, Some, sym, ◌∙◌, subst, inl, inr, length, ◌≤◌}
use Rattle.message_frames.specs.Assembly.{most_messages}
use Rattle.near_run_laws.specs.Messages.{sent_to}
use Rattle.script_run.specs.Laws.{run_with}
use Rattle.near_script_laws.specs.HitsStand.{EveryHitOfAScriptStands, HitStands}
use Rattle.near_script_laws.proofs.Told.{bare_keeps_none}
use Rattle.near_script_laws.proofs.Facts.{Stands, Goes}
use Rattle.near_script_laws.proofs.Hits.{stands}
use Rattle.near_script_laws.proofs.Scripts.{GoesThere, every_client_goes, its_number}

pub every_hit_of_a_script_stands : EveryHitOfAScriptStands
every_hit_of_a_script_stands settings members backups skips lines some low are going conn n there room key value kept =
    by (all.1 n there)
  where
    all : Stands settings (run_with settings members backups skips lines).run × GoesThere settings (run_with settings members backups skips lines) conn
    all = every_client_goes settings members backups skips lines some low are conn going room

    by : Goes settings (run_with settings members backups skips lines).run n → HitStands settings (run_with settings members backups skips lines).run n key value
    by (inl a) = stands settings (run_with settings members backups skips lines).run all.0 n a (subst (λ c. length (sent_to c (run_with settings members backups skips lines).run.appended) ≤ most_messages) (sym (its_number conn (run_with settings members backups skips lines).nears n there)) room) key value kept
    by (inr a) = absurd (let clash : None ≡ Some value = sym (bare_keeps_none n key a.bare) ∙ kept in cc)
