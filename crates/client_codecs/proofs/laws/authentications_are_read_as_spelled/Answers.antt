use Rattle.client_codecs.proofs.Reading.{found, refused}
use Rattle.client_codecs.proofs.Spelling.{read_again, sent_again}
use Rattle.client_codecs.proofs.laws.authentications_are_read_as_spelled.Goals as goal

pub returns-clause-found : goal.returns-clause-found
returns-clause-found c message a bytes e = found message bytes a e

pub returns-clause-only : goal.returns-clause-only
returns-clause-only c = read_again

pub returns-clause-sent : goal.returns-clause-sent
returns-clause-sent c = sent_again

pub returns-clause-refused : goal.returns-clause-refused
returns-clause-refused c = refused
