-- How many bytes a row is spelled by.
use Rattle.std.proofs.Common.{◌≡◌, ◌+◌, ◌*◌, Bool, true, false, List, [], ◌∷◌, ◌++◌, length, refl, ap, arith, length-append}
use Rattle.std.specs.List.{flat_map}
use Rattle.std.proofs.lemmas.List.Concat.{flat_map-cons}
use Rattle.partition_table.specs.declared.Row.{Row}
use Rattle.partition_table.specs.declared.RowMember.{RowMember}
use Rattle.wire_parts.specs.Parts.{number, mark}
use Rattle.member_wire.specs.Spelling.{member_bytes, row_bytes}

length-mark : (b : Bool) → length (mark b) ≡ 1
length-mark true = refl
length-mark false = refl

-- two bytes for each member
length-flat_map-member_bytes : (rs : List RowMember) → length (flat_map member_bytes rs) ≡ 2 * length rs
length-flat_map-member_bytes [] = refl
length-flat_map-member_bytes (r ∷ rs) =
    omega (arith, ap length (flat_map-cons member_bytes r rs), length-append (member_bytes r) (flat_map member_bytes rs), length-mark r.eligible, length-flat_map-member_bytes rs)

pub length-row_bytes : (row : Row) → length (row_bytes row) ≡ 10 + 2 * length row.members
length-row_bytes row =
    let members = length row.members ∷ flat_map member_bytes row.members in
    omega (arith, length-append (number row.version ++ number row.reset ++ mark row.lost) members, length-append (number row.version ++ number row.reset) (mark row.lost), length-mark row.lost, length-flat_map-member_bytes row.members)
