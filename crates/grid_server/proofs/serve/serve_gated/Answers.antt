use Rattle.grid_server.proofs.Ending.{has_ended}
use Rattle.grid_server.proofs.serve.serve_gated.Goals as goal

pub returns : goal.returns
returns g c =
    has_ended g.D.Doors.empty_looks _ _ _ _ _ _ _ _ _ c.in-Ok.options c.in-Ok.ensures.options c.in-Ok-open_with_room.ensures.looks c.in-Ok-open_with_room.ensures.never_falls
    (c.in-Some.ensures.served c.args.forms.now c.in-Ok-new.ensures.setting)
