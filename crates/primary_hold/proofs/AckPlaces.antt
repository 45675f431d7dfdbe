-- Who acknowledged is in one place of the list and among the row's backups, so that there is a place for each.
use Rattle.std.proofs.Common.{◌≡◌, ◌≢◌, ℕ, ◌+◌, ◌≤◌, Bool, true, false, not, ◌&&◌, ◌==◌, nat_eq, List, [], ◌∷◌, Some, None, if◌then◌else◌, length, map, refl, ap, sym, ◌∙◌, subst, ◌⊎◌, ⊎_elim, inl, inr, arith, true≢false}
use Rattle.std.proofs.Math.ListN.{length-map}
use Rattle.partition_table.specs.declared.Row.{Row}
use Rattle.partition_table.specs.declared.RowMember.{RowMember}
use Rattle.partition_table.specs.Rows.{number_of, is_among, is_first, is_backup, rest_of, backups_of}
use Rattle.partition_table.specs.RowFacts.{are_distinct}
use Rattle.partition_protocol.specs.Node.{Acknowledged, acked_by, with_ack}
use Rattle.partition_protocol.proofs.RowFacts.{both, both_left, both_right, either, either_left, either_right, not_true, not_both, false_or_not, same_number, number_same, other_number}
use Rattle.primary_hold.specs.Acks.{AckList, ackers_of, backup_numbers, acker_of, HasPlaces}
use Rattle.primary_hold.proofs.AckLists.{with_ack_same, with_ack_other, acked_by_same, acked_by_other}

-- a list without repetition whose numbers are all in another one is no longer than that

-- without the first m
abbrev less_one : ℕ → List ℕ → List ℕ
less_one m [] = []
less_one m (k ∷ ks) = if k == m then ks else k ∷ less_one m ks

less_one_same : (m k : ℕ) (ks : List ℕ) → (k == m) ≡ true → less_one m (k ∷ ks) ≡ ks
less_one_same m k ks e = rw (less_one, e) refl

less_one_other : (m k : ℕ) (ks : List ℕ) → (k == m) ≡ false → less_one m (k ∷ ks) ≡ k ∷ less_one m ks
less_one_other m k ks e = rw (less_one, e) refl

length_less_one_at : (m k : ℕ) (ks : List ℕ) (b : Bool) → (k == m) ≡ b → is_among (k ∷ ks) m ≡ true → (is_among ks m ≡ true → length (less_one m ks) + 1 ≡ length ks) → length (less_one m (k ∷ ks)) + 1 ≡ length (k ∷ ks)
length_less_one_at m k ks true t e rest = ap (λ ys. length ys + 1) (less_one_same m k ks t) ∙ omega arith
length_less_one_at m k ks false t e rest =
    let there : is_among ks m ≡ true = ⊎_elim (λ same. absurd (not_both (k == m) (number_same k m (sym (same_number m k same))) t)) (λ r. r) (either (nat_eq m k) (is_among ks m) e) in
    let shorter : length (less_one m ks) + 1 ≡ length ks = rest there in
    ap (λ ys. length ys + 1) (less_one_other m k ks t) ∙ omega (arith, shorter)

length_less_one : (m : ℕ) (ks : List ℕ) → is_among ks m ≡ true → length (less_one m ks) + 1 ≡ length ks
length_less_one m [] e = absurd (true≢false (sym e))
length_less_one m (k ∷ ks) e = length_less_one_at m k ks (k == m) refl e (length_less_one m ks)

among_less_one_at : (m n k : ℕ) (ks : List ℕ) (b : Bool) → (k == m) ≡ b → n ≢ m → (is_among ks n ≡ true → is_among (less_one m ks) n ≡ true) → (n ≡ k) ⊎ (is_among ks n ≡ true) → is_among (less_one m (k ∷ ks)) n ≡ true
among_less_one_at m n k ks true t other rest (inl same) = absurd (other (same ∙ same_number k m t))
among_less_one_at m n k ks true t other rest (inr there) = ap (λ ys. is_among ys n) (less_one_same m k ks t) ∙ there
among_less_one_at m n k ks false t other rest (inl same) = ap (λ ys. is_among ys n) (less_one_other m k ks t) ∙ either_left (nat_eq n k) (is_among (less_one m ks) n) (number_same n k same)
among_less_one_at m n k ks false t other rest (inr there) = ap (λ ys. is_among ys n) (less_one_other m k ks t) ∙ either_right (nat_eq n k) (is_among (less_one m ks) n) (rest there)

-- the number is the first one, or among the others
first_or_among : (n k : ℕ) (ks : List ℕ) → is_among (k ∷ ks) n ≡ true → (n ≡ k) ⊎ (is_among ks n ≡ true)
first_or_among n k ks e = ⊎_elim (λ same. inl (same_number n k same)) (λ there. inr there) (either (nat_eq n k) (is_among ks n) e)

among_less_one : (m n : ℕ) (ks : List ℕ) → n ≢ m → is_among ks n ≡ true → is_among (less_one m ks) n ≡ true
among_less_one m n [] other e = e
among_less_one m n (k ∷ ks) other e = among_less_one_at m n k ks (k == m) refl other (among_less_one m n ks other) (first_or_among n k ks e)

no_longer : (ms ks : List ℕ) → are_distinct ms ≡ true → ((n : ℕ) → is_among ms n ≡ true → is_among ks n ≡ true) → length ms ≤ length ks
no_longer [] ks once within = omega arith
no_longer (m ∷ ms) ks once within =
    let new : is_among ms m ≡ false = not_true (is_among ms m) (both_left (not (is_among ms m)) (are_distinct ms) once) in
    let there : is_among ks m ≡ true = within m (either_left (nat_eq m m) (is_among ms m) (number_same m m refl)) in
    let rest = no_longer ms (less_one m ks) (both_right (not (is_among ms m)) (are_distinct ms) once)
    (λ n i. among_less_one m n ks (λ same. not_both (is_among ms m) (subst (λ x. is_among ms x ≡ true) same i) new) (within n (either_right (nat_eq n m) (is_among ms n) i))) in
    omega (arith, rest, length_less_one m ks there)

-- who acknowledged, after one more acknowledgement

among_with_ack_at : (m c k : ℕ) (a : Acknowledged) (xs : List Acknowledged) (b : Bool) → (a.member == m) ≡ b
    → (is_among (ackers_of (with_ack m c xs)) k ≡ true → (is_among (ackers_of xs) k ≡ true) ⊎ (k ≡ m))
    → is_among (ackers_of (with_ack m c (a ∷ xs))) k ≡ true → (is_among (ackers_of (a ∷ xs)) k ≡ true) ⊎ (k ≡ m)
among_with_ack_at m c k a xs true t rest e =
    let there : is_among (m ∷ ackers_of xs) k ≡ true = sym (ap (λ ys. is_among (ackers_of ys) k) (with_ack_same m c a xs t)) ∙ e in
    ⊎_elim (λ same. inr same) (λ i. inl (either_right (nat_eq k a.member) (is_among (ackers_of xs) k) i)) (first_or_among k m (ackers_of xs) there)
among_with_ack_at m c k a xs false t rest e =
    let there : is_among (a.member ∷ ackers_of (with_ack m c xs)) k ≡ true = sym (ap (λ ys. is_among (ackers_of ys) k) (with_ack_other m c a xs t)) ∙ e in
    ⊎_elim (λ same. inl (either_left (nat_eq k a.member) (is_among (ackers_of xs) k) (number_same k a.member same)))
    (λ i. ⊎_elim (λ before. inl (either_right (nat_eq k a.member) (is_among (ackers_of xs) k) before)) (λ new. inr new) (rest i))
    (first_or_among k a.member (ackers_of (with_ack m c xs)) there)

among_with_ack : (m c k : ℕ) (xs : List Acknowledged) → is_among (ackers_of (with_ack m c xs)) k ≡ true → (is_among (ackers_of xs) k ≡ true) ⊎ (k ≡ m)
among_with_ack m c k [] e = ⊎_elim (λ same. inr same) (λ i. inl i) (first_or_among k m [] e)
among_with_ack m c k (a ∷ xs) e = among_with_ack_at m c k a xs (a.member == m) refl (among_with_ack m c k xs) e

distinct_with_ack_at : (m c : ℕ) (a : Acknowledged) (xs : List Acknowledged) (b : Bool) → (a.member == m) ≡ b
    → are_distinct (ackers_of (with_ack m c xs)) ≡ true → are_distinct (ackers_of (a ∷ xs)) ≡ true → are_distinct (ackers_of (with_ack m c (a ∷ xs))) ≡ true
distinct_with_ack_at m c a xs true t rest once =
    ap (λ ys. are_distinct (ackers_of ys)) (with_ack_same m c a xs t) ∙ subst (λ k. are_distinct (k ∷ ackers_of xs) ≡ true) (same_number a.member m t) once
distinct_with_ack_at m c a xs false t rest once =
    let new : is_among (ackers_of xs) a.member ≡ false = not_true (is_among (ackers_of xs) a.member) (both_left (not (is_among (ackers_of xs) a.member)) (are_distinct (ackers_of xs)) once) in
    let others = ackers_of (with_ack m c xs) in
    let still : is_among others a.member ≡ false =
    false_or_not (is_among others a.member) (λ i. ⊎_elim (λ before. not_both (is_among (ackers_of xs) a.member) before new) (λ same. other_number a.member m t same) (among_with_ack m c a.member xs i)) in
    ap (λ ys. are_distinct (ackers_of ys)) (with_ack_other m c a xs t) ∙ both (not (is_among others a.member)) (are_distinct others) (ap not still) rest

distinct_with_ack : (m c : ℕ) (xs : List Acknowledged) → are_distinct (ackers_of xs) ≡ true → are_distinct (ackers_of (with_ack m c xs)) ≡ true
distinct_with_ack m c [] once = refl
distinct_with_ack m c (a ∷ xs) once =
    distinct_with_ack_at m c a xs (a.member == m) refl (distinct_with_ack m c xs (both_right (not (is_among (ackers_of xs) a.member)) (are_distinct (ackers_of xs)) once)) once

new_by_at : (m : ℕ) (a : Acknowledged) (xs : List Acknowledged) (b : Bool) → (a.member == m) ≡ b → (acked_by m xs ≡ None → is_among (ackers_of xs) m ≡ false) → acked_by m (a ∷ xs) ≡ None → is_among (ackers_of (a ∷ xs)) m ≡ false
new_by_at m a xs true t rest e = let no : Some a.count ≡ None = sym (acked_by_same m a xs t) ∙ e in absurd (cc)
new_by_at m a xs false t rest e =
    let later : is_among (ackers_of xs) m ≡ false = rest (sym (acked_by_other m a xs t) ∙ e) in
    false_or_not (is_among (ackers_of (a ∷ xs)) m) (λ i. ⊎_elim (λ same. other_number a.member m t (sym same)) (λ there. not_both (is_among (ackers_of xs) m) there later) (first_or_among m a.member (ackers_of xs) i))

new_by : (m : ℕ) (xs : List Acknowledged) → acked_by m xs ≡ None → is_among (ackers_of xs) m ≡ false
new_by m [] e = refl
new_by m (a ∷ xs) e = new_by_at m a xs (a.member == m) refl (new_by m xs) e

-- a backup of the row

backup_among_rest : (rs : List RowMember) (m : ℕ) → (not (is_first (map number_of rs) m) && is_among (map number_of rs) m) ≡ true → is_among (map number_of (rest_of rs)) m ≡ true
backup_among_rest [] m e = absurd (true≢false (sym e))
backup_among_rest (r ∷ rs) m e =
    let other : (r.member == m) ≡ false = not_true (r.member == m) (both_left (not (r.member == m)) (is_among (map number_of (r ∷ rs)) m) e) in
    ⊎_elim (λ same. absurd (other_number r.member m other (sym same))) (λ there. there) (first_or_among m r.member (map number_of rs) (both_right (not (r.member == m)) (is_among (map number_of (r ∷ rs)) m) e))

backup_among : (row : Row) (m : ℕ) → is_backup row m ≡ true → is_among (backup_numbers row) m ≡ true
backup_among row m e = backup_among_rest row.members m e

-- there is a place for a backup that acknowledges for the first time
pub place_left : (row : Row) (acks : AckList) (m : ℕ) → HasPlaces row acks → is_backup row m ≡ true → acked_by m acks.list ≡ None → 1 ≤ acks.spare
place_left row acks m has backup none =
    let ackers = ackers_of acks.list in
    let new : is_among ackers m ≡ false = new_by m acks.list none in
    let once : are_distinct (m ∷ ackers) ≡ true = both (not (is_among ackers m)) (are_distinct ackers) (ap not new) has.once in
    let within : (n : ℕ) → is_among (m ∷ ackers) n ≡ true → is_among (backup_numbers row) n ≡ true =
    λ n i. ⊎_elim (λ same. subst (λ k. is_among (backup_numbers row) k ≡ true) (sym same) (backup_among row m backup)) (λ there. has.backups n there) (first_or_among n m ackers i) in
    let fits : length (m ∷ ackers) ≤ length (backup_numbers row) = no_longer (m ∷ ackers) (backup_numbers row) once within in
    let places = has.places in
    let one = length-map acks.list acker_of in
    let two = length-map (backups_of row) number_of in
    omega arith

-- the places stay as a backup acknowledges
pub places_kept : (row : Row) (old new : AckList) (m c : ℕ) → HasPlaces row old → is_backup row m ≡ true → new.list ≡ with_ack m c old.list → length new.list + new.spare ≡ length old.list + old.spare → HasPlaces row new
places_kept row old new m c has backup list room = record {
  once = ap (λ xs. are_distinct (ackers_of xs)) list ∙ distinct_with_ack m c old.list has.once;
  backups = λ n i. ⊎_elim (λ there. has.backups n there) (λ same. subst (λ k. is_among (backup_numbers row) k ≡ true) (sym same) (backup_among row m backup))
      (among_with_ack m c n old.list (sym (ap (λ xs. is_among (ackers_of xs) n) list) ∙ i));
  places = let places = has.places in omega arith;
}
