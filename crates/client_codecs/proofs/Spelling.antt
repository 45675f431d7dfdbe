-- An authentication is read from the messages that spell it.
use Rattle.std.proofs.Common.{◌≡◌, ℕ, ◌<◌, ℤ, List, [], ◌∷◌, ◌++◌, length, drop, Option, Some, None, Ok, refl, sym, ap, ◌∙◌, arith, length-append}
use Rattle.std.specs.Option.{ok_or}
use Rattle.std.proofs.lemmas.Option.{slice_get-get_or}
use Rattle.std.proofs.Math.Seq.{get_or-append_seam}
use Rattle.grid_base.specs.declared.refusal.CallRefused.TheVariants.{BadCall}
use Rattle.frame_codec.specs.declared.frames.Frame.{Frame}
use Rattle.fixed_fields.specs.Fields.{uuid_at, byte_at, uuid_bytes}
use Rattle.fixed_fields.specs.Requests.{text_in}
use Rattle.fixed_fields.specs.Spelled.{SpellsUuid, request_head}
use Rattle.fixed_fields.proofs.Parts.{first_held, text_held, sent_held}
use Rattle.fixed_fields.proofs.Written.{uuid_read}
use Rattle.message_frames.specs.Assembly.{first_payload}
use Rattle.message_frames.specs.declared.message.Message.{Message}
use Rattle.client_codecs.specs.Authentications.{authentication_kind, authentication_in, authentication_of}
use Rattle.client_codecs.specs.SpelledAuthentications.{IsAuthentication, Spells, authentication_message}
use Rattle.client_codecs.specs.declared.authentications.Authentication.{Authentication}

uuid_length : (uuid : Option ℕ) (field : List ℕ) → SpellsUuid uuid field → length field ≡ 17
uuid_length (Some n) field h = ap length h
uuid_length None [] h = absurd h
uuid_length None (mark ∷ halves) h = omega (arith, h.1)

byte_behind : (before : List ℕ) (byte : ℕ) (more : List ℕ) → byte_at (before ++ byte ∷ more) (length before) ≡ Some byte
byte_behind before byte more =
    let within : length before < length (before ++ byte ∷ more) = omega (arith, length-append before (byte ∷ more)) in
    slice_get-get_or (before ++ byte ∷ more) (length before) 0 within ∙ ap Some (get_or-append_seam before byte more 0)

authentication_is : (payload : List ℕ) (frames : List Frame) (client : Option ℕ) (version : ℕ) (name : List ℕ) → uuid_at payload 16 ≡ Some client → byte_at payload 33 ≡ Some version → text_in frames ≡ Some name
    → authentication_in payload frames ≡ Some (record { client = client; name = name })
authentication_is payload frames client version name c v n = rw (c, v, n) refl

pub read_again : (message : Message) (a : Authentication) → IsAuthentication a → Spells message a → authentication_of message ≡ Ok a
unfolding authentication_of
read_again message a h s =
    let payload : List ℕ = first_payload message.frames in
    let frames : List Frame = drop 1 message.frames in
    let behind : List ℕ = s.version ∷ s.more in
    let start : List ℕ = s.before ++ s.client in
    let there : length start ≡ 33 = omega (arith, s.sixteen, uuid_length a.client s.client s.uuid, length-append s.before s.client) in
    let client : uuid_at payload 16 ≡ Some a.client = ap (λ (p : List ℕ). uuid_at p 16) s.fields ∙ ap (λ (at : ℕ). uuid_at (start ++ behind) at) (sym s.sixteen) ∙ uuid_read s.before s.client behind a.client h.fits s.uuid in
    let version : byte_at payload 33 ≡ Some s.version = ap (λ (p : List ℕ). byte_at p 33) s.fields ∙ ap (λ (at : ℕ). byte_at (start ++ behind) at) (sym there) ∙ byte_behind start s.version s.more in
    let held = first_held frames a.name [] s.parts in
    ap (λ (read : Option Authentication). ok_or read BadCall) (authentication_is payload frames a.client s.version a.name client version (text_held frames a.name held.0 h.text))

uuid_spelled : (uuid : Option ℕ) → SpellsUuid uuid (uuid_bytes uuid)
uuid_spelled (Some n) = refl
uuid_spelled None = ((λ z. cc), refl)

pub sent_again : (correlation partition : ℤ) (version : ℕ) (a : Authentication) (more : List ℕ) (behind : List Frame) → IsAuthentication a → authentication_of (authentication_message correlation partition version a more behind) ≡ Ok a
sent_again correlation partition version a more behind h =
    read_again (authentication_message correlation partition version a more behind) a h (record {
      before = request_head authentication_kind correlation partition;
      sixteen = refl;
      client = uuid_bytes a.client;
      uuid = uuid_spelled a.client;
      version = version;
      more = more;
      fields = refl;
      parts = sent_held (a.name ∷ []) behind;
    })
