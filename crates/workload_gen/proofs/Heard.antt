-- A round's calls are heard as they are.
use Rattle.std.proofs.Common.{◌≡◌, ℕ, zero, suc, ◌%◌, ◌<◌, ◌^◌, ◌==◌, false, pos, List, [], ◌∷◌, drop, All, refl, ap, sym, subst, ◌∙◌, arith, lit<, lit≤, negsuc, Some, None, Result, Ok}
use Rattle.std.specs.Prelude.{codes, slice_index, if◌then◌else◌}
use Rattle.std.specs.Int.{w32, w64, to_be_bytes, from_be_bytes, cast_signed}
use Rattle.std.specs.Int.RustNames.{FitsSigned}
use Rattle.std.specs.Str.{IsUtf8}
use Rattle.std.proofs.lemmas.Bool.Decides.{nat_tests}
use Rattle.std.proofs.lemmas.Int.{ints}
use Rattle.std.proofs.lemmas.Nat.{from_be_bytes-to_be_bytes_4}
use Rattle.std.proofs.lemmas.Str.{IsUtf8-from_ascii}
use Rattle.std.proofs.lemmas.List.Elements.{All-nil, All-cons}
use Rattle.murmur_partition.specs.Keys.{partition_of_hash}
use Rattle.murmur_partition.specs.Murmur.{murmur3_of}
use Rattle.frame_codec.specs.Laws.{IsWithinLimits}
use Rattle.frame_codec.specs.declared.frames.Frame.{Frame}
use Rattle.message_frames.specs.declared.message.Message.{Message}
use Rattle.client_codecs.specs.Authentications.{authentication_kind, authentication_of}
use Rattle.client_codecs.specs.declared.authentications.Authentication.{Authentication}
use Rattle.client_codecs.proofs.Spelling.{sent_again}
use Rattle.grid_base.specs.declared.refusal.CallRefused.{CallRefused}
use Rattle.request_codecs.specs.Openings.{authentication_frames}
use Rattle.session_core.specs.Items.{kind_of, identity_by}
use Rattle.session_core.specs.Places.{partition_of_key}
use Rattle.request_codecs.specs.Requests.{MayBeAsked, request}
use Rattle.request_codecs.proofs.Sessions.{every_request_is_read}
use Rattle.workload_gen.specs.Calls.{client_on, conn_of, stated_hash, key_of, put, get}
use Rattle.workload_gen.specs.Laws.{EveryClientIsKnown, EveryCallIsHeard}

-- ---- where a key is

stated_is : (n : ℕ) → stated_hash (suc n) ≡ suc n
stated_is n = let other : (suc n == 0) ≡ false = grind (arith, nat_tests) in rw other refl

cast : (n : ℕ) → n < 271 → cast_signed w32 n ≡ pos n
cast n below = omega (arith, ints)

same : (n : ℕ) → n < 271 → n % 271 ≡ n
same n below = omega arith

-- a partition's key belongs to it
placed : (partition : ℕ) → partition < 271 → partition ≡ partition_of_key (key_of partition)
placed zero below = refl
placed (suc partition) below =
    let n = suc partition in
    let content = murmur3_of (drop 8 (key_of n)) 0x01000193 in
    let own : (hash : ℕ) → ℕ = λ hash. partition_of_hash (cast_signed w32 (if hash == 0 then content else hash)) in
    let read : from_be_bytes w32 (to_be_bytes w32 (stated_hash n)) ≡ stated_hash n = from_be_bytes-to_be_bytes_4 (stated_hash n) (subst (λ (hash : ℕ). hash < 2 ^ 32) (sym (stated_is partition)) (omega arith)) in
    let other : (n == 0) ≡ false = grind (arith, nat_tests) in
    let found : own n ≡ partition_of_hash (cast_signed w32 n) = rw other refl in
    sym (ap own (read ∙ stated_is partition) ∙ found ∙ ap partition_of_hash (cast n below) ∙ same n below)

-- ---- who the client is

is_dev : (i : ℕ) → slice_index (codes "dev") i < 128
is_dev zero = lit< tt
is_dev (suc zero) = lit< tt
is_dev (suc (suc zero)) = lit< tt
is_dev (suc (suc (suc i))) = lit< tt

pub known : EveryClientIsKnown
known conn few =
    let a : Authentication = record { client = Some (client_on conn); name = codes "dev" } in
    let message : Message = record { frames = authentication_frames (pos 0) (client_on conn) } in
    let kind : kind_of message ≡ authentication_kind = refl in
    let read : authentication_of message ≡ Ok a = sent_again (pos 0) (negsuc 0) 1 a [] [] (record { fits = omega arith; text = IsUtf8-from_ascii (codes "dev") is_dev }) in
    ap (λ (k : ℕ). if k == authentication_kind then identity_by conn None (authentication_of message) else None) kind
    ∙ ap (λ (found : Result Authentication CallRefused). identity_by conn None found) read

-- ---- what may be asked

fits_zero : FitsSigned w64 (pos 0)
fits_zero = omega (arith, ints)

is_ascii : (i : ℕ) → slice_index (codes "m") i < 128
is_ascii zero = lit< tt
is_ascii (suc i) = lit< tt

named : IsUtf8 (codes "m")
named = IsUtf8-from_ascii (codes "m") is_ascii

abbrev AreWithin : List Frame → Type 0
AreWithin [] = Unit {0}
AreWithin (frame ∷ frames) = IsWithinLimits frame × AreWithin frames

within : (frames : List Frame) → AreWithin frames → All IsWithinLimits frames
within [] are = All-nil IsWithinLimits
within (frame ∷ frames) are = All-cons IsWithinLimits frame frames are.0 (within frames are.1)

may_put : (round partition : ℕ) → partition < 271 → MayBeAsked (client_on (conn_of partition)) partition (put round partition)
may_put round partition below = record {
  fits = λ correlation. record { each = within (request correlation partition (put round partition)).frames ((lit< tt, lit≤ tt), ((lit< tt, lit≤ tt), ((lit< tt, lit≤ tt), ((lit< tt, lit≤ tt), tt)))); form = refl; fits = refl };
  read = record {
    name = named;
    key = lit≤ tt;
    caller = refl;
    numbers = All-cons (FitsSigned w64) (pos 0) (pos 0 ∷ []) fits_zero (All-cons (FitsSigned w64) (pos 0) [] fits_zero (All-nil (FitsSigned w64)));
    processor = tt;
  };
  placed = placed partition below;
}

may_get : (partition : ℕ) → partition < 271 → MayBeAsked (client_on (conn_of partition)) partition (get partition)
may_get partition below = record {
  fits = λ correlation. record { each = within (request correlation partition (get partition)).frames ((lit< tt, lit≤ tt), ((lit< tt, lit≤ tt), ((lit< tt, lit≤ tt), tt))); form = refl; fits = refl };
  read = record {
    name = named;
    key = lit≤ tt;
    caller = refl;
    numbers = All-cons (FitsSigned w64) (pos 0) [] fits_zero (All-nil (FitsSigned w64));
    processor = tt;
  };
  placed = placed partition below;
}

fits_round : (round : ℕ) → round < 2 ^ 63 → FitsSigned w64 (pos round)
fits_round round small = omega (arith, ints)

pub heard : EveryCallIsHeard
heard round partition small below = (
  λ member id. every_request_is_read member id (client_on (conn_of partition)) partition (pos round) (put round partition) (fits_round round small) (may_put round partition below),
  λ member id. every_request_is_read member id (client_on (conn_of partition)) partition (pos round) (get partition) (fits_round round small) (may_get partition below),
)
