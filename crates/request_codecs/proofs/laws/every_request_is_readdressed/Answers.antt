use Rattle.request_codecs.proofs.Addresses.{every_request_is_readdressed}
use Rattle.request_codecs.proofs.laws.every_request_is_readdressed.Goals as goal

pub returns : goal.returns
returns c = every_request_is_readdressed
