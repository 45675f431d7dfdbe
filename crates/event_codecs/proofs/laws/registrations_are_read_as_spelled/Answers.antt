use Rattle.event_codecs.proofs.RegistrationReading.{registration_found, registration_again}
use Rattle.event_codecs.proofs.laws.registrations_are_read_as_spelled.Goals as goal

pub returns-clause-found : goal.returns-clause-found
returns-clause-found c = registration_found

pub returns-clause-only : goal.returns-clause-only
returns-clause-only c = registration_again
