-- Acknowledgements taken into a list, place by place.
use Rattle.std.proofs.Common.{◌≡◌, ◌≢◌, ◌≤◌, eq-eqb, ℕ, ◌+◌, suc, ◌<◌, max, true, false, ◌==◌, List, [], ◌∷◌, ◌++◌, Some, None, length, take, drop, get_or, refl, ap, sym, ◌∙◌, append_assoc, add-one}
use Rattle.std.proofs.Math.Seq.{drop-cons}
use Rattle.std.proofs.Math.ListN.{set, drop_of_length-le}
use Rattle.std.proofs.lemmas.List.{set_split, take_more, take_all}
use Rattle.partition_protocol.specs.Node.{Acknowledged, acked_by, with_ack}
use Rattle.partition_protocol.proofs.RowFacts.{number_other}

pub with_ack_same : (m c : ℕ) (a : Acknowledged) (xs : List Acknowledged) → (a.member == m) ≡ true → with_ack m c (a ∷ xs) ≡ record { member = m; count = max c a.count } ∷ xs
with_ack_same m c a xs e = rw (with_ack, e) refl

pub with_ack_other : (m c : ℕ) (a : Acknowledged) (xs : List Acknowledged) → (a.member == m) ≡ false → with_ack m c (a ∷ xs) ≡ a ∷ with_ack m c xs
with_ack_other m c a xs e = rw (with_ack, e) refl

pub acked_by_same : (m : ℕ) (a : Acknowledged) (xs : List Acknowledged) → (a.member == m) ≡ true → acked_by m (a ∷ xs) ≡ Some a.count
acked_by_same m a xs e = rw (acked_by, e) refl

pub acked_by_other : (m : ℕ) (a : Acknowledged) (xs : List Acknowledged) → (a.member == m) ≡ false → acked_by m (a ∷ xs) ≡ acked_by m xs
acked_by_other m a xs e = rw (acked_by, e) refl

pub found_at : (m c i : ℕ) (d : Acknowledged) (xs : List Acknowledged) → i < length xs → with_ack m c xs ≡ take i xs ++ with_ack m c (drop i xs) → ((get_or xs i d).member == m) ≡ true
    → with_ack m c xs ≡ set xs i (record { member = m; count = max c (get_or xs i d).count })
found_at m c i d xs l e t =
    e ∙ ap (λ ys. take i xs ++ with_ack m c ys) (drop-cons xs i d l) ∙ ap (λ ys. take i xs ++ ys) (with_ack_same m c (get_or xs i d) (drop (suc i) xs) t)
    ∙ sym (set_split xs i (record { member = m; count = max c (get_or xs i d).count }) l)

pub passed_at : (m c i : ℕ) (d : Acknowledged) (xs : List Acknowledged) → i < length xs → with_ack m c xs ≡ take i xs ++ with_ack m c (drop i xs) → ((get_or xs i d).member == m) ≡ false
    → with_ack m c xs ≡ take (i + 1) xs ++ with_ack m c (drop (i + 1) xs)
passed_at m c i d xs l e t =
    e ∙ ap (λ ys. take i xs ++ with_ack m c ys) (drop-cons xs i d l) ∙ ap (λ ys. take i xs ++ ys) (with_ack_other m c (get_or xs i d) (drop (suc i) xs) t)
    ∙ sym (append_assoc (take i xs) (get_or xs i d ∷ []) (with_ack m c (drop (suc i) xs))) ∙ ap (λ ys. ys ++ with_ack m c (drop (suc i) xs)) (sym (take_more xs i d l)) ∙ rw add-one refl

pub found_value : (m c i : ℕ) (v : Acknowledged) (xs : List Acknowledged) → i < length xs → v ≡ get_or xs i v → v.member ≡ m → with_ack m c xs ≡ take i xs ++ with_ack m c (drop i xs)
    → set xs i (record { member = m; count = max c v.count }) ≡ with_ack m c xs
found_value m c i v xs l at is e =
    ap (λ (k : Acknowledged). let z : Acknowledged = record { member = m; count = max c k.count } in set xs i z) at
    ∙ sym (found_at m c i v xs l e (eq-eqb (get_or xs i v).member m (ap (λ (k : Acknowledged). k.member) (sym at) ∙ is)))

pub passed_value : (m c i : ℕ) (v : Acknowledged) (xs : List Acknowledged) → i < length xs → v ≡ get_or xs i v → v.member ≢ m → with_ack m c xs ≡ take i xs ++ with_ack m c (drop i xs)
    → with_ack m c xs ≡ take (i + 1) xs ++ with_ack m c (drop (i + 1) xs)
passed_value m c i v xs l at not e =
    passed_at m c i v xs l e (number_other (get_or xs i v).member m (λ k. not (ap (λ (k : Acknowledged). k.member) at ∙ k)))

pub passed_other : (m i : ℕ) (v : Acknowledged) (xs : List Acknowledged) → i < length xs → v ≡ get_or xs i v → v.member ≢ m → acked_by m xs ≡ acked_by m (drop i xs) → acked_by m xs ≡ acked_by m (drop (i + 1) xs)
passed_other m i v xs l at not e =
    e ∙ ap (acked_by m) (drop-cons xs i v l) ∙ acked_by_other m (get_or xs i v) (drop (suc i) xs) (number_other (get_or xs i v).member m (λ k. not (ap (λ (k : Acknowledged). k.member) at ∙ k))) ∙ rw add-one refl

-- at the end of the list nothing is left
pub none_left : (m c i : ℕ) (xs : List Acknowledged) → length xs ≤ i → with_ack m c xs ≡ take i xs ++ with_ack m c (drop i xs) → xs ++ record { member = m; count = c } ∷ [] ≡ with_ack m c xs
none_left m c i xs l e = sym (e ∙ ap (λ ys. take i xs ++ with_ack m c ys) (drop_of_length-le xs l) ∙ ap (λ ys. ys ++ record { member = m; count = c } ∷ []) (take_all i xs l))

pub none_by : (m i : ℕ) (xs : List Acknowledged) → length xs ≤ i → acked_by m xs ≡ acked_by m (drop i xs) → acked_by m xs ≡ None
none_by m i xs l e = e ∙ ap (acked_by m) (drop_of_length-le xs l)
