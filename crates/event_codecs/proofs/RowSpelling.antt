-- A list of rows is read from the frames that spell it.
use Rattle.std.proofs.Common.{◌≡◌, ℕ, ◌^◌, ◌<◌, arith, eq-eqb, Bool, true, false, List, [], ◌∷◌, ◌++◌, length, map, All, Option, Some, None, refl, ap, ◌∙◌, cond}
use Rattle.std.specs.Prelude.{IsTrue, ◌||◌, not, drop}
use Rattle.grid_base.specs.declared.TheConstants.{PARTITIONS}
use Rattle.std.specs.Int.{w32, to_le_bytes}
use Rattle.std.proofs.lemmas.Bool.{and_from, lt-ltb}
use Rattle.std.proofs.lemmas.List.Elements.{All-head, All-tail}
use Rattle.frame_codec.specs.declared.frames.Frame.{Frame}
use Rattle.fixed_fields.specs.Fields.{byte_at}
use Rattle.fixed_fields.specs.Replies.{flag_byte}
use Rattle.fixed_fields.specs.Requests.{◌>>=◌, data_in}
use Rattle.fixed_fields.specs.Structures.{opens, closes, is_plain}
use Rattle.fixed_fields.proofs.Parts.{first_held, data_held}
use Rattle.event_codecs.specs.Events.{number_at, mark_at, is_row, row_of, rows_until_end, rows_in}
use Rattle.event_codecs.specs.SpelledEvents.{IsSeenRow, HoldAll, BeginsWithList}
use Rattle.event_codecs.specs.Writing.{row_bytes}
use Rattle.event_codecs.specs.declared.seen.SeenRow.{SeenRow}
use Rattle.event_codecs.proofs.Numbers.{number_read, mark_read}
use Rattle.event_codecs.proofs.Listing.{at_frame}

row_is : (bytes : List ℕ) (partition version count : ℕ) (lost : Bool) → number_at bytes 0 ≡ Some partition → number_at bytes 4 ≡ Some version → mark_at bytes 8 ≡ Some lost → byte_at bytes 9 ≡ Some count → is_row partition count (drop 10 bytes) ≡ true
    → row_of bytes ≡ Some (record { partition = partition; version = version; lost = lost; members = drop 10 bytes })
row_is bytes partition version count lost p v l c is = rw (p, v, l, c, is) refl

pub row_read : (row : SeenRow) → IsSeenRow row → row_of (row_bytes row) ≡ Some row
row_read row h =
    let behind : List ℕ = flag_byte row.lost ∷ length row.members ∷ row.members in
    let partition : List ℕ = to_le_bytes w32 row.partition in
    let small : row.partition < 2 ^ 32 = omega (arith, h.partition) in
    row_is (row_bytes row) row.partition row.version (length row.members) row.lost
    (number_read [] (to_le_bytes w32 row.version ++ behind) row.partition small) (number_read partition behind row.version h.version) (mark_read row.lost) refl
    (and_from _ _ (lt-ltb row.partition PARTITIONS h.partition) (eq-eqb (length row.members) (length row.members) refl))

-- a plain frame ends no list
plain_goes_on : (frame : Frame) → IsTrue (is_plain frame) → closes frame ≡ false
plain_goes_on frame plain = go (opens frame) (closes frame) plain
  where
    go : (o c : Bool) → not (o || c) ≡ true → c ≡ false
    go true c e = absurd cc
    go false true e = absurd cc
    go false false e = refl

rows_read : (inside : List Frame) (closing : Frame) (rest : List Frame) (rows : List SeenRow) → All IsSeenRow rows → HoldAll inside (map row_bytes rows) → IsTrue (closes closing) → rows_until_end (inside ++ closing ∷ rest) ≡ Some rows
rows_read [] closing rest [] all held ends = let e : closes closing ≡ true = ends in rw e refl
rows_read [] closing rest (row ∷ rows) all held ends = absurd held
rows_read (frame ∷ inside) closing rest [] all held ends = absurd held
rows_read (frame ∷ inside) closing rest (row ∷ rows) all held ends =
    let behind : List Frame = inside ++ closing ∷ rest in
    let data_is : data_in (frame ∷ behind) ≡ Some (row_bytes row) = data_held (frame ∷ behind) (row_bytes row) (first_held (frame ∷ behind) (row_bytes row) [] (held.0, tt)).0 in
    let its = row_read row (All-head IsSeenRow row rows all) in
    let later = rows_read inside closing rest rows (All-tail IsSeenRow row rows all) held.1 ends in
    at_frame frame behind (Some (row_bytes row)) (plain_goes_on frame held.0.0) data_is
    ∙ ap (λ (r : Option SeenRow). r >>= (λ row. rows_until_end behind >>= (λ more. Some (row ∷ more)))) its
    ∙ ap (λ (r : Option (List SeenRow)). r >>= (λ more. Some (row ∷ more))) later

pub list_read : (frames : List Frame) (rows : List SeenRow) → All IsSeenRow rows → BeginsWithList frames (map row_bytes rows) → rows_in frames ≡ Some rows
list_read frames rows all list =
    let behind : List Frame = list.inside ++ list.closing ∷ list.rest in
    ap rows_in list.spelled ∙ ap (λ (b : Bool). cond b (rows_until_end behind) None) list.opened ∙ rows_read list.inside list.closing list.rest rows all list.held list.closed
