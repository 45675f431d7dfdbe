-- One candidate more is found, unless the member is detected. Where there is no memory for it, it is one.
use Rattle.std.proofs.Common.{◌≡◌, ◌+◌, ◌++◌, ◌∷◌, [], ◌%◌, ◌<◌, ap, sym, ◌∙◌, subst, arith}
use Rattle.partition_table.specs.Rows.{is_among}
use Rattle.table_service.proofs.Candidates.{AreFound, one_more, none_more, some_found, on_err}
use Rattle.table_service.proofs.reopening.undetected_from.Goals as goal
use Rattle.table_service.proofs.reopening.undetected_from.Goals.{then-not-is_listed+in_ok-push, else-not-is_listed}

pub loop-k-preserved : goal.loop-k-preserved
loop-k-preserved c =
    let p = c.args.partition in
    let n = c.args.members in
    let k = c.loop-k.k in
    let detected = c.args.detected.now in
    let so_far = c.loop-k.invariant in
    let some : k < n = omega arith in
    let listed : c.is_listed.result ≡ is_among detected ((p + k) % n) = c.is_listed.ensures ∙ ap (is_among detected) c.member_from-member.ensures in
    elim c.if-not-is_listed.branch [
      | then-not-is_listed+in_ok-push w ↦
          let found : c.if-not-is_listed.found.items ≡ c.loop-k.found.items ++ ((p + k) % n) ∷ [] = ap (λ v. v.items) w.found-is ∙ w.in_ok-push.ensures.items ∙ ap (λ m. c.loop-k.found.items ++ m ∷ []) c.member_from-member.ensures in
          subst (AreFound p n (k + 1) detected) (sym found) (one_more p n k detected c.loop-k.found.items some (sym listed ∙ w.if-not-is_listed.true) so_far)
      | else-not-is_listed w ↦
          subst (AreFound p n (k + 1) detected) (ap (λ v. v.items) (sym w.found-is)) (none_more p n k detected c.loop-k.found.items some (sym listed ∙ w.if-not-is_listed.false) so_far)
    ]

pub returns-in_err-push-clause-err : goal.returns-in_err-push-clause-err
returns-in_err-push-clause-err c =
    let p = c.args.partition in
    let n = c.args.members in
    let k = c.loop-k.k in
    let detected = c.args.detected.now in
    let some : k < n = omega arith in
    let listed : c.is_listed.result ≡ is_among detected ((p + k) % n) = c.is_listed.ensures ∙ ap (is_among detected) c.member_from-member.ensures in
    on_err c.from_residual.result (some_found p n k detected c.loop-k.found.items some (sym listed ∙ c.if-not-is_listed.true) c.loop-k.invariant)
