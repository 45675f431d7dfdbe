-- Signed numbers, clients and owners are read as they are spelled.
use Rattle.std.proofs.Common.{◌≡◌, ℕ, ◌^◌, ◌<◌, Bool, true, false, List, [], ◌++◌, Ok, Err, refl, sym, ap, subst, ◌∙◌, ⊎_elim, inl, append_assoc, arith}
use Rattle.std.specs.Prelude.{ℤ, nat_lt, if◌then◌else◌}
use Rattle.std.specs.Int.{w64, w128, cast_signed, cast_unsigned}
use Rattle.std.specs.Int.RustNames.{FitsSigned}
use mir.ValLaws.{to_z-Fits, of_z_fits}
use Rattle.std.proofs.lemmas.Int.{of_z-to_z, to_z-of_z}
use Rattle.std.proofs.lemmas.Bool.{ltb-true, lt-ltb}
use Rattle.std.proofs.lemmas.List.{append-nil}
use Rattle.grid_base.specs.declared.names.ClientKey.{ClientKey}
use Rattle.grid_base.specs.declared.names.ClientKey.TheVariants.{Known, OfConn}
use Rattle.grid_base.specs.declared.names.Owner.{Owner}
use Rattle.grid_base.specs.Limits.{ClientFits, OwnerFits}
use Rattle.wire_parts.specs.declared.refusal.WireRefused.TheVariants.{Tag}
use Rattle.wire_parts.specs.Parts.{◌>>=◌, number_at, mark, mark_at}
use Rattle.object_store.specs.Spelling.{long, wide, signed, client_bytes, owner_bytes}
use Rattle.object_store.specs.Reading.{signed_at, conn_at, known_at, client_behind, owner_at}
use Rattle.wire_parts.proofs.Formats.{Reads, Spells, reads_as}
use Rattle.wire_parts.proofs.Following.{Follows, reads_behind, reads_followed, IsDone, reads_ended, Made, reads_made}
use Rattle.wire_parts.proofs.Choices.{Either, reads_if, reads_refused}
use Rattle.wire_parts.proofs.PartFormats.{SpellsMark, mark_format}
use Rattle.wire_parts.proofs.WideNumbers.{SpellsLong, reads_long, SpellsWide, reads_wide}
use Rattle.object_store.proofs.OptionFormat.{itself, both}

-- ---- a signed number

abbrev pub SpellsSigned : ℤ → List ℕ → Type 0
SpellsSigned = Spells (FitsSigned w64) signed

to_signed : (z : ℤ) (text : List ℕ) → Made (cast_signed w64) SpellsLong z text → SpellsSigned z text
to_signed z text s =
    let back : s.first ≡ cast_unsigned w64 (cast_signed w64 s.first) = sym (of_z-to_z w64 s.first s.spells.fits) in
    subst (λ (x : ℤ). SpellsSigned x text) (sym s.value) (record { fits = to_z-Fits w64 s.first (record { fits = s.spells.fits }); is = s.spells.is ∙ ap long back })

from_signed : (z : ℤ) (text : List ℕ) → SpellsSigned z text → Made (cast_signed w64) SpellsLong z text
from_signed z text s = record { first = cast_unsigned w64 z; spells = record { fits = (of_z_fits w64 z s.fits).fits; is = s.is }; value = sym (to_z-of_z w64 z s.fits) }

pub reads_signed : Reads signed_at SpellsSigned
unfolding signed_at
reads_signed = reads_as signed_at (Made (cast_signed w64) SpellsLong) SpellsSigned to_signed from_signed (reads_made (cast_signed w64) (number_at w64) SpellsLong reads_long)

-- ---- a client

abbrev ConnParts : ClientKey → List ℕ → Type 0
ConnParts = Follows SpellsWide (λ n. Either (nat_lt n (2 ^ 32)) (IsDone (OfConn n)) (λ c text. ⊥))

conn_parts : Reads conn_at ConnParts
unfolding conn_at
conn_parts =
    reads_behind (number_at w128) SpellsWide (λ at n q. if nat_lt n (2 ^ 32) then Ok (OfConn n, q) else Err (Tag at)) (λ n. Either (nat_lt n (2 ^ 32)) (IsDone (OfConn n)) (λ c text. ⊥)) reads_wide
    (λ at n text s. reads_if (nat_lt n (2 ^ 32)) (λ q. Ok (OfConn n, q)) (IsDone (OfConn n)) (λ q. Err (Tag at)) (λ c text. ⊥) (reads_ended (OfConn n)) (reads_refused (Tag at)))

abbrev KnownParts : ClientKey → List ℕ → Type 0
KnownParts = Made Known SpellsWide

known_parts : Reads known_at KnownParts
unfolding known_at
known_parts = reads_made Known (number_at w128) SpellsWide reads_wide

abbrev ClientParts : Bool → ClientKey → List ℕ → Type 0
ClientParts false = KnownParts
ClientParts true = ConnParts

client_parts : (is : Bool) → Reads (client_behind is) (ClientParts is)
client_parts false = known_parts
client_parts true = conn_parts

abbrev pub SpellsClient : ClientKey → List ℕ → Type 0
SpellsClient = Spells ClientFits client_bytes

-- a connection's number, which has 32 bits, is spelled by sixteen bytes
narrow : (n : ℕ) → n < 2 ^ 32 → n < 2 ^ 128
narrow n small = omega (arith, small)

to_client : (is : Bool) (c : ClientKey) (text front back : List ℕ) → text ≡ front ++ back → front ≡ mark is → ClientParts is c back → SpellsClient c text
to_client false c text front back whole mark_is s = subst (λ (x : ClientKey). SpellsClient x text) (sym s.value) (record { fits = s.spells.fits; is = whole ∙ both mark_is s.spells.is })
to_client true c text front back whole mark_is s =
    ⊎_elim
    (λ one.
    let small : s.first < 2 ^ 32 = ltb-true _ _ one.0 in
    let spelled : back ≡ wide s.first = s.whole ∙ both s.is_front.is one.1.empty ∙ append-nil (wide s.first) in
    subst (λ (x : ClientKey). SpellsClient x text) (sym one.1.value) (record { fits = small; is = whole ∙ both mark_is spelled }))
    (λ two. absurd two.1) s.is_back

from_client : (c : ClientKey) → ClientFits c → Follows SpellsMark ClientParts c (client_bytes c)
from_client (Known n) fits = record { first = false; front = mark false; back = wide n; is_front = itself mark false tt; is_back = record { first = n; spells = itself wide n fits; value = refl }; whole = refl }
from_client (OfConn n) fits = record {
  first = true;
  front = mark true;
  back = wide n;
  is_front = itself mark true tt;
  is_back = record { first = n; front = wide n; back = []; is_front = itself wide n (narrow n fits); is_back = inl (lt-ltb n (2 ^ 32) fits, record { value = refl; empty = refl }); whole = sym (append-nil (wide n)) };
  whole = refl;
}

-- ---- an owner

abbrev pub SpellsOwner : Owner → List ℕ → Type 0
SpellsOwner = Spells OwnerFits owner_bytes

abbrev owner_of : ClientKey → ℤ → Owner
owner_of client thread = record { client = client; thread = thread }

abbrev OwnerParts : Owner → List ℕ → Type 0
OwnerParts = Follows SpellsMark (λ is. Follows (ClientParts is) (λ client. Made (owner_of client) SpellsSigned))

owner_parts : Reads owner_at OwnerParts
unfolding owner_at
owner_parts =
    reads_followed mark_at SpellsMark (λ is p. client_behind is p >>= λ client. signed_at client.1 >>= λ thread. Ok (owner_of client.0 thread.0, thread.1))
    (λ is. Follows (ClientParts is) (λ client. Made (owner_of client) SpellsSigned)) mark_format.reads
    (λ is text s. reads_followed (client_behind is) (ClientParts is) (λ client p. signed_at p >>= λ thread. Ok (owner_of client thread.0, thread.1)) (λ client. Made (owner_of client) SpellsSigned) (client_parts is)
    (λ client text s. reads_made (owner_of client) signed_at SpellsSigned reads_signed))

to_owner : (o : Owner) (text : List ℕ) → OwnerParts o text → SpellsOwner o text
to_owner o text s =
    let c = s.is_back in
    let client = to_client s.first c.first (s.front ++ c.front) s.front c.front refl s.is_front.is c.is_front in
    subst (λ (x : Owner). SpellsOwner x text) (sym c.is_back.value)
    (record { fits = (client.fits, c.is_back.spells.fits); is = s.whole ∙ both refl c.whole ∙ sym (append_assoc s.front c.front c.back) ∙ both client.is c.is_back.spells.is })

from_owner : (o : Owner) (text : List ℕ) → SpellsOwner o text → OwnerParts o text
from_owner o text s =
    let c = from_client o.client s.fits.0 in
    record {
      first = c.first;
      front = c.front;
      back = c.back ++ signed o.thread;
      is_front = c.is_front;
      is_back = record { first = o.client; front = c.back; back = signed o.thread; is_front = c.is_back; is_back = record { first = o.thread; spells = itself signed o.thread s.fits.1; value = refl }; whole = refl };
      whole = s.is ∙ both c.whole refl ∙ append_assoc c.front c.back (signed o.thread);
    }

pub reads_owner : Reads owner_at SpellsOwner
reads_owner = reads_as owner_at OwnerParts SpellsOwner to_owner from_owner owner_parts
