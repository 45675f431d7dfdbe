-- What a near client sends fits a message.
use Rattle.std.proofs.Common.{◌≡◌, ℕ, ◌+◌, ◌*◌, ◌<◌, ◌≤◌, true, List, [], ◌∷◌, length, refl, arith, lit<, lit≤}
use Rattle.std.specs.Prelude.{nat_le}
use Rattle.std.proofs.lemmas.Bool.Decides.{nat_tests}
use Rattle.std.proofs.lemmas.List.Elements.{All-nil, All-cons}
use Rattle.std.specs.Str.{IsUtf8}
use Rattle.frame_codec.specs.Laws.{IsWithinLimits}
use Rattle.fixed_fields.specs.Responses.{unfragmented, final}
use Rattle.event_codecs.specs.Registrations.{invalidation_listener_kind}
use Rattle.request_codecs.specs.Openings.{invalidations_correlation, registration_head}
use Rattle.script_lang.specs.Limits.{most_line_bytes}
use Rattle.script_run.specs.NearClients.{client_number}
use Rattle.message_frames.specs.Assembly.{most_messages, most_length}
use Rattle.near_run_laws.specs.Sessions.{MayOpen, MayGet}

pub may_open : (c : ℕ) (name : List ℕ) → c ≤ 63 → IsUtf8 name → 2 * length name ≤ most_line_bytes → MayOpen (client_number c) name
may_open c name low text short = record {
  small = omega (arith, low);
  text = text;
  fits = record {
    each = All-cons IsWithinLimits (record { flags = unfragmented; payload = registration_head invalidation_listener_kind invalidations_correlation }) (record { flags = final; payload = name } ∷ []) (lit< tt, lit≤ tt)
        (All-cons IsWithinLimits (record { flags = final; payload = name }) [] (lit< tt, omega (arith, short)) (All-nil IsWithinLimits));
    form = refl;
    fits = (let small : nat_le (22 + (6 + length name)) most_length ≡ true = grind (arith, nat_tests) in small);
  };
}

pub may_get : (name : List ℕ) (client number : ℕ) (key : List ℕ) → IsUtf8 name → 8 ≤ length key → number < most_messages → 2 * length name ≤ most_line_bytes → 2 * length key ≤ most_line_bytes → MayGet name client number key
may_get name client number key text whole room short_name short_key = record {
  text = text;
  whole = whole;
  room = room;
  fits = record {
    each = All-cons IsWithinLimits _ (record { flags = 0; payload = name } ∷ record { flags = final; payload = key } ∷ []) (lit< tt, lit≤ tt)
        (All-cons IsWithinLimits (record { flags = 0; payload = name }) (record { flags = final; payload = key } ∷ []) (lit< tt, omega (arith, short_name))
        (All-cons IsWithinLimits (record { flags = final; payload = key }) [] (lit< tt, omega (arith, short_key)) (All-nil IsWithinLimits)));
    form = refl;
    fits = (let small : nat_le (30 + (6 + length name) + (6 + length key)) most_length ≡ true = grind (arith, nat_tests) in small);
  };
}
