-- What is read as an authentication is one, and its message spells it.
use Rattle.std.proofs.Common.{◌≡◌, ℕ, suc, List, [], ◌∷◌, ◌++◌, take, drop, Option, Some, None, Ok, Err, refl, sym, ap, subst, ◌∙◌, arith}
use Rattle.std.specs.Option.{ok_or}
use Rattle.std.proofs.lemmas.List.{length-take}
use Rattle.std.proofs.lemmas.Option.{slice_get_within, get_or_from_slice_get}
use Rattle.std.proofs.Math.Seq.{split_at}
use Rattle.grid_base.specs.declared.refusal.CallRefused.{CallRefused}
use Rattle.grid_base.specs.declared.refusal.CallRefused.TheVariants.{BadCall}
use Rattle.frame_codec.specs.Laws.{IsBytes}
use Rattle.frame_codec.specs.declared.frames.Frame.{Frame}
use Rattle.fixed_fields.specs.Fields.{uuid_at, byte_at}
use Rattle.fixed_fields.specs.Requests.{◌>>=◌, text_in}
use Rattle.fixed_fields.proofs.Parts.{text_of, first_holds}
use Rattle.fixed_fields.proofs.ReadFields.{uuid_is, take_on}
use Rattle.fixed_fields.proofs.Steps.{ok_or_some}
use Rattle.message_frames.specs.Assembly.{first_payload}
use Rattle.message_frames.specs.declared.message.Message.{Message}
use Rattle.client_codecs.specs.Authentications.{authentication_in, authentication_of}
use Rattle.client_codecs.specs.SpelledAuthentications.{IsAuthentication, Spells}
use Rattle.client_codecs.specs.declared.authentications.Authentication.{Authentication}

-- a list with an element at a place: what is before it, the element, and what is behind it
cut_at : (bytes : List ℕ) (at byte : ℕ) → byte_at bytes at ≡ Some byte → bytes ≡ take at bytes ++ byte ∷ drop (suc at) bytes
cut_at bytes at byte e =
    let same = get_or_from_slice_get bytes at byte 0 e in
    split_at bytes at 0 (slice_get_within bytes at byte e) ∙ ap (λ (b : ℕ). take at bytes ++ b ∷ drop (suc at) bytes) same

module _ (message : Message) (bytes : IsBytes (first_payload message.frames)) where
  abbrev payload : List ℕ
  payload = first_payload message.frames

  abbrev frames : List Frame
  frames = drop 1 message.frames

  all_found : (client : Option ℕ) (version : ℕ) (name : List ℕ) → uuid_at payload 16 ≡ Some client → byte_at payload 33 ≡ Some version → text_in frames ≡ Some name
      → IsAuthentication (record { client = client; name = name }) × Spells message (record { client = client; name = name })
  all_found client version name c v n =
      let uuid = uuid_is payload 16 client bytes c in
      let text = text_of frames name n in (
        record { fits = uuid.fits; text = text.1 },
        record {
          before = take 16 payload;
          sixteen = omega (arith, uuid.room, length-take 16 payload);
          client = take 17 (drop 16 payload);
          uuid = uuid.spelled;
          version = version;
          more = drop 34 payload;
          fields = cut_at payload 33 version v ∙ ap (λ (t : List ℕ). t ++ version ∷ drop 34 payload) (sym (take_on 16 17 payload));
          parts = first_holds frames name [] text.0 tt;
        },
      )

  pub found : (a : Authentication) → authentication_of message ≡ Ok a → IsAuthentication a × Spells message a
  unfolding authentication_of
  found a e = go (uuid_at payload 16) (byte_at payload 33) (text_in frames) refl refl refl (ok_or_some (authentication_in payload frames) BadCall a e)
    where
      go : (c : Option (Option ℕ)) (v : Option ℕ) (n : Option (List ℕ)) → uuid_at payload 16 ≡ c → byte_at payload 33 ≡ v → text_in frames ≡ n
          → (c >>= (λ client. v >>= (λ version. n >>= (λ name. Some (record { client = client; name = name }))))) ≡ Some a → IsAuthentication a × Spells message a
      go (Some client) (Some version) (Some name) pc pv pn s =
          let is : record { client = client; name = name } ≡ a = cc in
          subst (λ (a : Authentication). IsAuthentication a × Spells message a) is (all_found client version name pc pv pn)
      go None v n pc pv pn s = absurd cc
      go (Some client) None n pc pv pn s = absurd cc
      go (Some client) (Some version) None pc pv pn s = absurd cc

bad_only : (read : Option Authentication) (why : CallRefused) → ok_or read BadCall ≡ Err why → why ≡ BadCall
bad_only (Some a) why e = absurd cc
bad_only None why e = cc

pub refused : (message : Message) (why : CallRefused) → authentication_of message ≡ Err why → why ≡ BadCall
unfolding authentication_of
refused message why e = bad_only (authentication_in (first_payload message.frames) (drop 1 message.frames)) why e
