-- A list of rows that is read is spelled by the frames that it was read of.
use Rattle.std.proofs.Common.{◌≡◌, ℕ, suc, ◌<◌, arith, Bool, true, false, cond, List, [], ◌∷◌, ◌++◌, length, take, drop, map, All, Some, None, refl, sym, ap, subst, ◌∙◌, drop-cons, eqb-true}
use Rattle.std.specs.Prelude.{IsTrue}
use Rattle.std.specs.Int.{w32, to_le_bytes}
use Rattle.std.proofs.lemmas.Bool.{and_parts, ltb-true}
use Rattle.std.proofs.lemmas.List.{take-append-drop}
use Rattle.std.proofs.lemmas.List.Elements.{All-nil, All-cons, All-head, All-tail, All-get_or}
use Rattle.std.proofs.lemmas.Option.{slice_get_within, get_or_from_slice_get}
use Rattle.grid_base.specs.declared.TheConstants.{PARTITIONS}
use Rattle.frame_codec.specs.Laws.{IsBytes}
use Rattle.frame_codec.specs.declared.frames.Frame.{Frame}
use Rattle.fixed_fields.specs.Fields.{byte_at}
use Rattle.fixed_fields.specs.Replies.{flag_byte}
use Rattle.fixed_fields.specs.Requests.{data_in}
use Rattle.fixed_fields.specs.Spelled.{Holds}
use Rattle.fixed_fields.specs.Structures.{opens, closes}
use Rattle.fixed_fields.proofs.Parts.{data_of, first_holds}
use Rattle.fixed_fields.proofs.ReadFields.{take_on}
use Rattle.fixed_fields.proofs.Steps.{behind, given, if_some}
use Rattle.event_codecs.specs.Events.{number_at, mark_of, mark_at, is_row, row_of, rows_until_end, rows_in}
use Rattle.event_codecs.specs.SpelledEvents.{IsSeenRow, HoldAll, BeginsWithList}
use Rattle.event_codecs.specs.Writing.{row_bytes}
use Rattle.event_codecs.specs.declared.seen.SeenRow.{SeenRow}
use Rattle.event_codecs.proofs.Numbers.{number_is, mark_is}
use Rattle.event_codecs.proofs.Listing.{rows_behind, data_is_payload}

-- what stands from a place on, where the byte there is known
from_byte : (bytes : List ℕ) (at byte : ℕ) → byte_at bytes at ≡ Some byte → drop at bytes ≡ byte ∷ drop (suc at) bytes
from_byte bytes at byte e =
    let same = get_or_from_slice_get bytes at byte 0 e in
    drop-cons bytes at 0 (slice_get_within bytes at byte e) ∙ ap (λ (b : ℕ). b ∷ drop (suc at) bytes) same

-- a row and the bytes that it was read of
abbrev IsRowOf : List ℕ → SeenRow → Type 0
IsRowOf bytes row = IsSeenRow row × (bytes ≡ row_bytes row)

parts_found : (bytes : List ℕ) (partition version mark count : ℕ) (lost : Bool) → IsBytes bytes → number_at bytes 0 ≡ Some partition → number_at bytes 4 ≡ Some version → byte_at bytes 8 ≡ Some mark → mark_of mark ≡ Some lost → byte_at bytes 9 ≡ Some count
    → is_row partition count (drop 10 bytes) ≡ true → IsRowOf bytes (record { partition = partition; version = version; lost = lost; members = drop 10 bytes })
parts_found bytes partition version mark count lost all p v m l c tests =
    let first = number_is bytes 0 partition all p in
    let second = number_is bytes 4 version all v in
    let test = and_parts _ _ tests in
    let counted : length (drop 10 bytes) ≡ count = eqb-true (length (drop 10 bytes)) count test.1 in
    let byte : count < 256 = subst (λ (b : ℕ). b < 256) (get_or_from_slice_get bytes 9 count 0 c) (All-get_or (λ byte. byte < 256) bytes 9 0 (slice_get_within bytes 9 count c) all) in
    let numbers : to_le_bytes w32 partition ++ to_le_bytes w32 version ≡ take 8 bytes = (λ i. first.spelled i ++ second.spelled i) ∙ take_on 4 4 bytes in
    let others : drop 8 bytes ≡ flag_byte lost ∷ length (drop 10 bytes) ∷ drop 10 bytes = from_byte bytes 8 mark m ∙ (λ i. mark_is mark lost l i ∷ from_byte bytes 9 count c i) ∙ ap (λ (n : ℕ). flag_byte lost ∷ n ∷ drop 10 bytes) (sym counted) in (
      record { partition = ltb-true partition PARTITIONS test.0; version = second.fits; members = omega arith },
      sym (take-append-drop 8 bytes) ∙ (λ i. sym numbers i ++ others i),
    )

pub row_found : (bytes : List ℕ) (row : SeenRow) → IsBytes bytes → row_of bytes ≡ Some row → IsRowOf bytes row
row_found bytes row all e =
    behind (IsRowOf bytes row) (number_at bytes 0) _ row e (λ partition p e.
    behind (IsRowOf bytes row) (number_at bytes 4) _ row e (λ version v e.
    behind (IsRowOf bytes row) (mark_at bytes 8) _ row e (λ lost l e.
    behind (IsRowOf bytes row) (byte_at bytes 9) _ row e (λ count c e.
    behind (IsRowOf bytes row) (byte_at bytes 8) mark_of lost l (λ mark m l.
    let is = if_some _ _ row e in
    subst (IsRowOf bytes) is.1 (parts_found bytes partition version mark count lost all p v m l c is.0))))))

-- the rows of a list that has begun, and the frames that they were read of
pub record EndsWithList (frames : List Frame) (rows : List SeenRow) : Type 0 where
  pub inside : List Frame
  pub closing : Frame
  pub rest : List Frame
  pub held : HoldAll inside (map row_bytes rows)
  pub closed : IsTrue (closes closing)
  pub spelled : frames ≡ inside ++ closing ∷ rest
  pub are_rows : All IsSeenRow rows

until_found : (frames : List Frame) (rows : List SeenRow) → All (λ frame. IsBytes frame.payload) frames → rows_until_end frames ≡ Some rows → EndsWithList frames rows
until_found [] rows all e = absurd cc
until_found (frame ∷ frames) rows all e = go (closes frame) refl e (λ more e. until_found frames more (All-tail (λ frame. IsBytes frame.payload) frame frames all) e)
  where
    one_found : (bytes : List ℕ) (row : SeenRow) (more : List SeenRow) → data_in (frame ∷ frames) ≡ Some bytes → row_of bytes ≡ Some row → EndsWithList frames more → EndsWithList (frame ∷ frames) (row ∷ more)
    one_found bytes row more d r later =
        let data_is = data_of (frame ∷ frames) bytes d in
        let same = data_is_payload frame frames bytes data_is in
        let its = row_found bytes row (subst IsBytes (sym same) (All-head (λ frame. IsBytes frame.payload) frame frames all)) r in
        let here : Holds frame bytes = (first_holds (frame ∷ frames) bytes [] data_is tt).0 in
        record {
          inside = frame ∷ later.inside;
          closing = later.closing;
          rest = later.rest;
          held = (subst (Holds frame) its.1 here, later.held);
          closed = later.closed;
          spelled = ap (λ (behind : List Frame). frame ∷ behind) later.spelled;
          are_rows = All-cons IsSeenRow row more its.0 later.are_rows;
        }

    go : (ends : Bool) → closes frame ≡ ends → cond ends (Some []) (rows_behind (data_in (frame ∷ frames)) frames) ≡ Some rows → ((more : List SeenRow) → rows_until_end frames ≡ Some more → EndsWithList frames more) → EndsWithList (frame ∷ frames) rows
    go true ends s later =
        let none : [] ≡ rows = given [] rows s in
        subst (EndsWithList (frame ∷ frames)) none (record { inside = []; closing = frame; rest = frames; held = tt; closed = ends; spelled = refl; are_rows = All-nil IsSeenRow })
    go false on s later =
        behind (EndsWithList (frame ∷ frames) rows) (data_in (frame ∷ frames)) _ rows s (λ bytes d s.
        behind (EndsWithList (frame ∷ frames) rows) (row_of bytes) _ rows s (λ row r s.
        behind (EndsWithList (frame ∷ frames) rows) (rows_until_end frames) _ rows s (λ more m s.
        subst (EndsWithList (frame ∷ frames)) (given (row ∷ more) rows s) (one_found bytes row more d r (later more m)))))

pub list_found : (frames : List Frame) (rows : List SeenRow) → All (λ frame. IsBytes frame.payload) frames → rows_in frames ≡ Some rows → All IsSeenRow rows × BeginsWithList frames (map row_bytes rows)
list_found [] rows all e = absurd cc
list_found (frame ∷ frames) rows all e = go (opens frame) refl e
  where
    go : (begins : Bool) → opens frame ≡ begins → cond begins (rows_until_end frames) None ≡ Some rows → All IsSeenRow rows × BeginsWithList (frame ∷ frames) (map row_bytes rows)
    go false begins s = absurd cc
    go true begins s =
        let found = until_found frames rows (All-tail (λ frame. IsBytes frame.payload) frame frames all) s in (
          found.are_rows,
          record {
            opening = frame;
            inside = found.inside;
            closing = found.closing;
            rest = found.rest;
            opened = begins;
            held = found.held;
            closed = found.closed;
            spelled = ap (λ (behind : List Frame). frame ∷ behind) found.spelled;
          },
        )
