use Rattle.std.proofs.Common.{◌≡◌, ◌∷◌, ◌++◌, [], Some, negsuc, rules, refl}
use Rattle.std.proofs.lemmas.Result.{on_ok_weaker}
use Rattle.fixed_fields.specs.Fields.{uuid_bytes}
use Rattle.fixed_fields.specs.Responses.{unfragmented, final}
use Rattle.fixed_fields.specs.Spelled.{request_head}
use Rattle.client_codecs.specs.Authentications.{authentication_kind}
use Rattle.request_codecs.proofs.Writing.{two_written}
use Rattle.request_codecs.proofs.opening.write_authentication.Goals as goal

pub returns : goal.returns
returns c =
    let its = request_head authentication_kind c.args.correlation (negsuc 0) ++ uuid_bytes (Some c.args.client) ++ 1 ∷ [] in
    let payload : c.as_slice.result.now ≡ its = search rules in
    let name = 100 ∷ 101 ∷ 118 ∷ [] in
    on_ok_weaker c.write_part-2.result
    (λ is. two_written c.args.out.now.items c.write_part.new.out.items c.write_part-2.new.out.items c.as_slice.result.now its name name unfragmented final payload refl c.in_ok-write_part.ensures is)
    c.write_part-2.ensures
