-- The members of a row one after the other, as a loop reads them.
use Rattle.std.proofs.Common.{◌≡◌, ℕ, suc, ◌-◌, ◌+◌, ◌≤◌, ◌<◌, List, [], ◌∷◌, ◌++◌, Result, Ok, refl, sym, ◌∙◌, arith}
use Rattle.partition_table.specs.declared.RowMember.{RowMember}
use Rattle.wire_parts.specs.declared.refusal.WireRefused.{WireRefused}
use Rattle.wire_parts.specs.Places.{Place}
use Rattle.wire_parts.specs.Parts.{◌>>=◌, Fails}
use Rattle.wire_parts.proofs.Refusals.{Fails-bind}
use Rattle.member_wire.specs.Reading.{member_at, members_at}

pub goes_on : (listed : List RowMember) (count i : ℕ) (p after : Place) (member : RowMember) (total : Result (List RowMember × Place) WireRefused) → i < count → member_at listed p ≡ Ok (member, after)
    → members_at listed (count - i) p ≡ total → members_at (listed ++ member ∷ []) (count - (i + 1)) after ≡ total
unfolding members_at
goes_on listed count i p after member total lt read so_far =
    let left : count - i ≡ suc (count - (i + 1)) = omega arith in
    let one : members_at listed (count - i) p ≡ members_at (listed ++ member ∷ []) (count - (i + 1)) after = rw (left, read) refl in
    sym one ∙ so_far

pub ends : (e : WireRefused) (listed : List RowMember) (count i : ℕ) (p : Place) (total : Result (List RowMember × Place) WireRefused) → i < count → Fails e (member_at listed p)
    → members_at listed (count - i) p ≡ total → Fails e total
unfolding members_at
ends e listed count i p total lt fails so_far =
    let left : count - i ≡ suc (count - (i + 1)) = omega arith in
    let first : members_at listed (count - i) p ≡ (member_at listed p >>= λ member. members_at (listed ++ member.0 ∷ []) (count - (i + 1)) member.1) = rw left refl in
    rw (← so_far, first) (Fails-bind e (member_at listed p) (λ member. members_at (listed ++ member.0 ∷ []) (count - (i + 1)) member.1) fails)

pub is_done : (listed : List RowMember) (count i : ℕ) (p : Place) (total : Result (List RowMember × Place) WireRefused) → count ≤ i → members_at listed (count - i) p ≡ total → total ≡ Ok (listed, p)
unfolding members_at
is_done listed count i p total le so_far =
    let left : count - i ≡ 0 = omega arith in
    let one : members_at listed (count - i) p ≡ Ok (listed, p) = rw left refl in
    sym so_far ∙ one
