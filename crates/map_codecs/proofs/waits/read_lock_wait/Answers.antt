use Rattle.std.proofs.Common.{rules, ◌≡◌, Ok, sym, ap, ◌∙◌}
use Rattle.std.specs.Option.{ok_or}
use Rattle.std.specs.Int.{w64}
use Rattle.grid_base.specs.declared.calls.MapCall.TheVariants.{TryLock}
use Rattle.grid_base.specs.declared.refusal.CallRefused.TheVariants.{BadCall}
use Rattle.fixed_fields.specs.Fields.{int64_at}
use Rattle.map_codecs.specs.Calls.{leased_in}
use Rattle.map_codecs.proofs.WaitReading.{waiting_ok}
use Rattle.map_codecs.proofs.waits.read_lock_wait.Goals as goal

pub returns : goal.returns
returns c =
    let payload = c.args.first.now.payload in
    waiting_ok (leased_in TryLock) c.args.client payload c.args.frames.now c.in_ok-call.call _ (search rules) c.in_ok-call.ensures
