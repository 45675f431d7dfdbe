use Rattle.request_codecs.proofs.Sessions.{every_request_is_read}
use Rattle.request_codecs.proofs.laws.every_request_is_read.Goals as goal

pub returns : goal.returns
returns c = every_request_is_read
