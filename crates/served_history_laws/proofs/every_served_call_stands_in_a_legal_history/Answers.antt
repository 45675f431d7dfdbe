use Rattle.served_history_laws.proofs.Served.{tells_histories}
use Rattle.served_history_laws.proofs.every_served_call_stands_in_a_legal_history.Goals as goal

pub returns : goal.returns
returns c given place journal passes book members all =
    tells_histories c.no_two_live_calls_have_one_name.ensures.new c.every_live_answer_stands_in_a_legal_history.ensures.answered
    c.every_live_history_is_linearizable.ensures.partition c.every_live_history_is_linearizable.ensures.object place given journal passes book members all
