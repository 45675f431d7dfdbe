-- What a member acknowledged, by a list with one acknowledgement more.
use Rattle.std.proofs.Common.{◌≡◌, ℕ, max, Bool, true, false, ◌==◌, List, [], ◌∷◌, Some, unwrap_or, refl, ap, sym, ◌∙◌, arith}
use Rattle.partition_protocol.specs.Node.{Acknowledged, acked_by, with_ack}
use Rattle.partition_protocol.proofs.RowFacts.{same_number, number_same}
use Rattle.primary_hold.proofs.AckLists.{with_ack_same, with_ack_other, acked_by_same, acked_by_other}

same_at : (m c : ℕ) (a : Acknowledged) (xs : List Acknowledged) (b : Bool) → (a.member == m) ≡ b
    → acked_by m (with_ack m c xs) ≡ Some (max c (unwrap_or (acked_by m xs) 0)) → acked_by m (with_ack m c (a ∷ xs)) ≡ Some (max c (unwrap_or (acked_by m (a ∷ xs)) 0))
same_at m c a xs true e rest =
    ap (acked_by m) (with_ack_same m c a xs e) ∙ acked_by_same m (record { member = m; count = max c a.count }) xs (number_same m m refl)
    ∙ ap (λ o. Some (max c (unwrap_or o 0))) (sym (acked_by_same m a xs e))
same_at m c a xs false e rest =
    ap (acked_by m) (with_ack_other m c a xs e) ∙ acked_by_other m a (with_ack m c xs) e ∙ rest ∙ ap (λ o. Some (max c (unwrap_or o 0))) (sym (acked_by_other m a xs e))

-- the greater of both
acked_same : (m c : ℕ) (xs : List Acknowledged) → acked_by m (with_ack m c xs) ≡ Some (max c (unwrap_or (acked_by m xs) 0))
acked_same m c [] = acked_by_same m (record { member = m; count = c }) [] (number_same m m refl) ∙ ap Some (omega arith)
acked_same m c (a ∷ xs) = same_at m c a xs (a.member == m) refl (acked_same m c xs)

other_at : (m k c : ℕ) (a : Acknowledged) (xs : List Acknowledged) (b d : Bool) → (a.member == k) ≡ b → (a.member == m) ≡ d → (k == m) ≡ false
    → acked_by m (with_ack k c xs) ≡ acked_by m xs → acked_by m (with_ack k c (a ∷ xs)) ≡ acked_by m (a ∷ xs)
other_at m k c a xs true d e f not rest =
    let differs : (a.member == m) ≡ false = ap (λ n. n == m) (same_number a.member k e) ∙ not in
    ap (acked_by m) (with_ack_same k c a xs e) ∙ acked_by_other m (record { member = k; count = max c a.count }) xs not ∙ sym (acked_by_other m a xs differs)
other_at m k c a xs false true e f not rest =
    ap (acked_by m) (with_ack_other k c a xs e) ∙ acked_by_same m a (with_ack k c xs) f ∙ sym (acked_by_same m a xs f)
other_at m k c a xs false false e f not rest =
    ap (acked_by m) (with_ack_other k c a xs e) ∙ acked_by_other m a (with_ack k c xs) f ∙ rest ∙ sym (acked_by_other m a xs f)

-- and what others acknowledged stays
acked_other : (m k c : ℕ) (xs : List Acknowledged) → (k == m) ≡ false → acked_by m (with_ack k c xs) ≡ acked_by m xs
acked_other m k c [] not = acked_by_other m (record { member = k; count = c }) [] not
acked_other m k c (a ∷ xs) not = other_at m k c a xs (a.member == k) (a.member == m) refl refl not (acked_other m k c xs not)

-- with the latest one named by its member
pub latest_same : (m k c : ℕ) (xs : List Acknowledged) → k ≡ m → Some (max c (unwrap_or (acked_by m xs) 0)) ≡ acked_by m (with_ack k c xs)
latest_same m k c xs e = sym (ap (λ n. acked_by m (with_ack n c xs)) e ∙ acked_same m c xs)

pub latest_other : (m k c : ℕ) (xs : List Acknowledged) → (k == m) ≡ false → acked_by m xs ≡ acked_by m (with_ack k c xs)
latest_other m k c xs not = sym (acked_other m k c xs not)
