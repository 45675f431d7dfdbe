use Rattle.std.proofs.Common.{◌≡◌, ◌++◌, drop, take, rules, arith}
use Rattle.std.proofs.lemmas.Grind.{common_steps}
use Rattle.fixed_fields.specs.Fields.{int64_bytes}
use Rattle.request_codecs.proofs.Addresses.{parts_joined}
use Rattle.request_codecs.proofs.readdressing.readdressed.Goals as goal

pub returns : goal.returns
returns c =
    let request = c.args.request.now in
    let all : c.from_vec.result ≡ (take 10 request ++ int64_bytes c.args.correlation) ++ drop 8 (drop 10 request) = first_of (search rules, grind (arith, common_steps), cc) in
    parts_joined c.from_vec.result request c.args.correlation all
