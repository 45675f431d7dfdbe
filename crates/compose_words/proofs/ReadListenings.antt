-- What is said of listening is read as that registration.
use Rattle.std.proofs.Common.{◌≡◌, ◌≢◌, ℕ, ℤ, SFits, Bool, true, false, [], ◌∷◌, ◌++◌, Some, Ok, refl, sym, append-nil}
use Rattle.std.specs.Int.{w64}
use Rattle.fixed_fields.specs.Replies.{flag_byte}
use Rattle.fixed_fields.specs.Spelled.{request_head}
use Rattle.fixed_fields.proofs.Parts.{sent_held}
use Rattle.message_frames.specs.Assembly.{first_payload}
use Rattle.event_codecs.specs.Registrations.{registration_of as registration_in}
use Rattle.event_codecs.specs.SpelledRegistrations.{kind_of_registration, correlation_of, IsRegistration, SpellsFlag, SpellFields, Spells}
use Rattle.event_codecs.proofs.RegistrationReading.{registration_again}
use Rattle.compose_words.specs.Sayings.{no_partition, listening_message}
use Rattle.compose_words.specs.Listenings.{registration_of, kind_of_listening, listening_fields, IsNamedListening}
use Rattle.compose_words.specs.declared.saying.Listening.{Listening}
use Rattle.compose_words.specs.declared.saying.Listening.TheVariants.{Entries, Invalidations, Rows}
use Rattle.compose_words.proofs.ReadWaits.{IsNoCall, IsNoWait}

pub listening_no_call : (listening : Listening) → IsNoCall (kind_of_listening listening)
listening_no_call (Entries name with_value) = (refl, refl)
listening_no_call (Invalidations name) = (refl, refl)
listening_no_call Rows = (refl, refl)

pub listening_no_wait : (listening : Listening) → IsNoWait (kind_of_listening listening)
listening_no_wait (Entries name with_value) = (refl, refl)
listening_no_wait (Invalidations name) = (refl, refl)
listening_no_wait Rows = (refl, refl)

is_registration : (correlation : ℤ) (listening : Listening) → SFits w64 correlation → IsNamedListening listening → IsRegistration (registration_of correlation listening)
is_registration correlation (Entries name with_value) fits named = record { correlation = fits; name = named }
is_registration correlation (Invalidations name) fits named = record { correlation = fits; name = named }
is_registration correlation Rows fits named = record { correlation = fits; name = tt }

flag_spelled : (with_value : Bool) → SpellsFlag with_value (flag_byte with_value)
flag_spelled true = λ e. cc
flag_spelled false = refl

spelled : (correlation : ℤ) (listening : Listening) → Spells (listening_message correlation listening) (registration_of correlation listening)
spelled correlation (Entries name with_value) =
    record {
      partition = no_partition;
      fields = flag_byte with_value ∷ [];
      more = [];
      said = (flag_byte with_value, refl, flag_spelled with_value);
      payload = sym (append-nil (request_head (kind_of_listening (Entries name with_value)) correlation no_partition ++ flag_byte with_value ∷ []));
      parts = sent_held (name ∷ []) [];
    }
spelled correlation (Invalidations name) =
    record {
      partition = no_partition;
      fields = [];
      more = [];
      said = refl;
      payload = sym (append-nil (request_head (kind_of_listening (Invalidations name)) correlation no_partition ++ []));
      parts = sent_held (name ∷ []) [];
    }
spelled correlation Rows =
    record {
      partition = no_partition;
      fields = [];
      more = [];
      said = refl;
      payload = sym (append-nil (request_head (kind_of_listening Rows) correlation no_partition ++ []));
      parts = tt;
    }

pub listening_read : (correlation : ℤ) (listening : Listening) → SFits w64 correlation → IsNamedListening listening → registration_in (listening_message correlation listening) ≡ Ok (registration_of correlation listening)
listening_read correlation listening fits named = registration_again (listening_message correlation listening) (registration_of correlation listening) (is_registration correlation listening fits named) (spelled correlation listening)
