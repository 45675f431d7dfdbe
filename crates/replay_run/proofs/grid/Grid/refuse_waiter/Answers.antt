use Rattle.std.proofs.Common.{◌≡◌, ◌∙◌, ◌++◌, List, ℕ, ℤ, pos, Some, ap, sym, w32, w64, refl, rules}
use mir.Val.{SFits}
use Rattle.std.proofs.lemmas.Int.{to_z-of_z}
use Rattle.std.proofs.lemmas.Result.{on_ok_weaker}
use Rattle.grid_base.specs.Refusals.{code_of, version_of}
use Rattle.grid_base.specs.declared.calls.Request.{Request}
use Rattle.grid_base.specs.declared.refusal.PartitionRefused.{PartitionRefused}
use Rattle.grid_base.specs.declared.refusal.PartitionRefused.TheVariants.{PartitionLost, WrongTarget, Migrating}
use Rattle.replica_node.specs.Calls.{refused_as}
use Rattle.replay_run.specs.Runs.{Appended, refused_at}
use Rattle.replay_run.specs.WorldCalls.{refusals}
use Rattle.replay_run.proofs.grid.Grid.refuse_waiter.Goals as goal
use Rattle.replay_run.specs.LineTold.{all_told}

-- by its number and its version
named : (line : ℕ) (request : Request) (why : PartitionRefused) → refusals line request (Some (record { code = pos (code_of why); version = version_of why })) ≡ refused_at line request (refused_as why)
named line request (PartitionLost version) = refl
named line request (WrongTarget version) = refl
named line request (Migrating version) = refl

told : (line : ℕ) (request : Request) (why : PartitionRefused) (code : ℤ) (version : ℕ) → code ≡ pos (code_of why) → version ≡ version_of why → refusals line request (Some (record { code = code; version = version })) ≡ refused_at line request (refused_as why)
told line request why code version numbers versions = (λ i. refusals line request (Some (record { code = numbers i; version = versions i }))) ∙ named line request why

pub returns-clause-told : goal.returns-clause-told
returns-clause-told g c =
    let fits : SFits w64 c.args.request.correlation = search rules in
    let whole : SFits w32 c.code.result = search rules in
    on_ok_weaker c.tell_refusal.result
    (λ e. e ∙ ap (λ (ms : List Appended). c.args.out.now.items ++ all_told ms) (told c.args.self.now.lines c.args.request c.args.why _ _ (to_z-of_z w32 c.code.result whole ∙ c.code.ensures) c.version.ensures))
    (c.tell_refusal.ensures c.args.request refl (sym (to_z-of_z w64 c.args.request.correlation fits)))
