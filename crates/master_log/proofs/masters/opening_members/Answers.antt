-- One member more.
use Rattle.std.proofs.Common.{◌∷◌, ◌++◌, [], map, ap, sym, ◌∙◌, arith}
use Rattle.partition_protocol.specs.Service.{numbers_below}
use Rattle.masters_protocol.specs.Members.{Member}
use Rattle.masters_protocol.specs.Machine.{opening_member}
use Rattle.master_wire.specs.declared.decision.Decision.{Decision}
use Rattle.master_log.proofs.Starts.{map_more}
use Rattle.master_log.proofs.masters.opening_members.Goals as goal

pub loop-number-preserved : goal.loop-number-preserved
loop-number-preserved c = record {
  len = omega (arith, c.in_ok-push.ensures.len, c.loop-number.invariant.len);
  items = c.in_ok-push.ensures.items ∙ ap (λ xs. xs ++ c.new.result ∷ []) c.loop-number.invariant.items ∙ ap (λ (m : Member Decision). map opening_member (numbers_below c.loop-number.number) ++ m ∷ []) c.new.ensures ∙ sym (map_more opening_member c.loop-number.number);
}
