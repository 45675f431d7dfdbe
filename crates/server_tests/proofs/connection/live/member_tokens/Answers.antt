use Rattle.server_tests.proofs.Opening.{four_tokens}
use Rattle.server_tests.proofs.connection.live.member_tokens.Goals as goal

pub returns : goal.returns
returns c = four_tokens _ c.token_at-first.result c.token_at-second.result c.token_at-third.result c.token_at-fourth.result
    c.token_at-first.ensures.token c.token_at-second.ensures.token c.token_at-third.ensures.token c.token_at-fourth.ensures.token
    _ c.in_ok-vec.ensures.items
