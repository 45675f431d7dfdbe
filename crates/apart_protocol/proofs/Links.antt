-- A message that was sent has a place on its link. Repeated and then taken from that place, it stays in flight, and so does every other.
use Rattle.std.proofs.Common.{◌≡◌, ℕ, zero, suc, true, false, List, [], ◌∷◌, ◌++◌, map, Some, slice_get, refl, ap, sym, ◌∙◌, subst, ◌⊎◌, inl, inr}
use Rattle.partition_protocol.specs.Messages.{Message, Packet, Sent}
use Rattle.partition_protocol.specs.Links.{is_on, link, taken_out, packets_from}
use Rattle.partition_protocol.proofs.Lists.{In, in_left, in_right, in_cases, every_in, every_from_in, cases}
use Rattle.partition_protocol.proofs.RowFacts.{number_same}
use Rattle.partition_protocol.proofs.Events.{taken_every}
use Rattle.partition_protocol.proofs.Histories.{in_filter}
use Rattle.partition_protocol.proofs.LinkFacts.{packet, link_on, link_off, taken_first, taken_later, taken_past, link_repeated}
use Rattle.partition_protocol.proofs.Theorem.{get_front}
use Rattle.apart_protocol.specs.Member.{Member, parcels}
use Rattle.apart_protocol.specs.Machine.{packet_of, bare}

pub in_get : {X : Type 0} (xs : List X) (x : X) → In x xs → (i : ℕ) × (slice_get xs i ≡ Some x)
in_get [] x i = absurd i
in_get (y ∷ ys) x (inl e) = (zero, ap (λ z. Some z) e)
in_get (y ∷ ys) x (inr j) = let r = in_get ys x j in (suc r.0, r.1)

-- the place of a message on its link
pub place_of : (f t : ℕ) (msg : Message) (ps : List Packet) → In (packet f t msg) ps → (i : ℕ) × (slice_get (link f t ps) i ≡ Some (packet f t msg))
place_of f t msg ps i = in_get (link f t ps) (packet f t msg) (in_filter (is_on f t) ps (packet f t msg) i (rw (number_same f f refl, number_same t t refl) refl))

-- it is in the same place once it is repeated
pub still_there : (f t i : ℕ) (msg : Message) (ps : List Packet) → slice_get (link f t ps) i ≡ Some (packet f t msg) → slice_get (link f t (ps ++ packet f t msg ∷ [])) i ≡ Some (packet f t msg)
still_there f t i msg ps e = ap (λ qs. slice_get qs i) (link_repeated f t ps msg) ∙ get_front (link f t ps) (packet f t msg ∷ []) i (packet f t msg) e

-- all that was in flight is, once it is taken
pub taken_keeps : (f t i : ℕ) (p : Packet) (ps : List Packet) (q : Packet) → slice_get (link f t ps) i ≡ Some p → In q ps → In q (taken_out f t i (ps ++ p ∷ []))
taken_keeps f t i p [] q e j = absurd j
taken_keeps f t zero p (x ∷ xs) q e j = go (cases (is_on f t x)) j (taken_keeps f t zero p xs q)
  where
    go : (is_on f t x ≡ true) ⊎ (is_on f t x ≡ false) → In q (x ∷ xs) → (slice_get (link f t xs) zero ≡ Some p → In q xs → In q (taken_out f t zero (xs ++ p ∷ []))) → In q (taken_out f t zero ((x ∷ xs) ++ p ∷ []))
    go (inl b) (inl s) h =
        let first : Some x ≡ Some p = sym (ap (λ l. slice_get l 0) (link_on f t x xs b)) ∙ e in
        let same : x ≡ p = cc in
        subst (In q) (sym (taken_first f t x (xs ++ p ∷ []) b)) (in_right q xs (p ∷ []) (inl (sym same ∙ s)))
    go (inl b) (inr k) h = subst (In q) (sym (taken_first f t x (xs ++ p ∷ []) b)) (in_left q xs (p ∷ []) k)
    go (inr b) (inl s) h = subst (In q) (sym (taken_past f t zero x (xs ++ p ∷ []) b)) (inl s)
    go (inr b) (inr k) h = subst (In q) (sym (taken_past f t zero x (xs ++ p ∷ []) b)) (inr (h (sym (ap (λ l. slice_get l 0) (link_off f t x xs b)) ∙ e) k))
taken_keeps f t (suc i) p (x ∷ xs) q e j = go (cases (is_on f t x)) j (taken_keeps f t i p xs q) (taken_keeps f t (suc i) p xs q)
  where
    go : (is_on f t x ≡ true) ⊎ (is_on f t x ≡ false) → In q (x ∷ xs) → (slice_get (link f t xs) i ≡ Some p → In q xs → In q (taken_out f t i (xs ++ p ∷ [])))
        → (slice_get (link f t xs) (suc i) ≡ Some p → In q xs → In q (taken_out f t (suc i) (xs ++ p ∷ []))) → In q (taken_out f t (suc i) ((x ∷ xs) ++ p ∷ []))
    go (inl b) (inl s) h k = subst (In q) (sym (taken_later f t i x (xs ++ p ∷ []) b)) (inl s)
    go (inl b) (inr r) h k = subst (In q) (sym (taken_later f t i x (xs ++ p ∷ []) b)) (inr (h (sym (ap (λ l. slice_get l (suc i)) (link_on f t x xs b)) ∙ e) r))
    go (inr b) (inl s) h k = subst (In q) (sym (taken_past f t (suc i) x (xs ++ p ∷ []) b)) (inl s)
    go (inr b) (inr r) h k = subst (In q) (sym (taken_past f t (suc i) x (xs ++ p ∷ []) b)) (inr (k (sym (ap (λ l. slice_get l (suc i)) (link_off f t x xs b)) ∙ e) r))

-- and nothing else
pub taken_in : (f t i : ℕ) (ps : List Packet) (q : Packet) → In q (taken_out f t i ps) → In q ps
taken_in f t i ps q j = every_in (λ x. In x ps) (taken_out f t i ps) q (taken_every (λ x. In x ps) f t i ps (every_from_in (λ x. In x ps) ps (λ x k. k))) j

pub in_repeated : (p q : Packet) (ps : List Packet) → In p ps → In q (ps ++ p ∷ []) → In q ps
in_repeated p q ps i j = go (in_cases q ps (p ∷ []) j)
  where
    go : In q ps ⊎ In q (p ∷ []) → In q ps
    go (inl h) = h
    go (inr (inl e)) = subst (λ x. In x ps) e i
    go (inr (inr z)) = absurd z

-- what is sent, without what goes with it

pub parcels_are : {C State : Type 0} (m : ℕ) (x : Member C State) (ss : List Sent) → map packet_of (parcels m x ss) ≡ packets_from m ss
parcels_are m x [] = refl
parcels_are m x (s ∷ ss) = ap (λ ps. packet m s.to s.message ∷ ps) (parcels_are m x ss)

pub bare_are : (C State : Type 0) (n : ℕ) (ss : List Sent) → map (packet_of {C = C} {State = State}) (map (bare n) ss) ≡ packets_from n ss
bare_are C State n [] = refl
bare_are C State n (s ∷ ss) = ap (λ ps. packet n s.to s.message ∷ ps) (bare_are C State n ss)
