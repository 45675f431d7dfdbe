-- The one list of packets, seen link by link: what a type that keeps a list for each link needs.
use Rattle.std.proofs.Common.{◌≡◌, ◌≢◌, ℕ, zero, suc, true, false, cond, ◌==◌, List, [], ◌∷◌, ◌++◌, refl, ap, sym, ◌∙◌, ◌⊎◌, ⊎_elim}
use Rattle.std.specs.List.{remove}
use Rattle.std.proofs.lemmas.List.Elements.{filter-append}
use Rattle.partition_protocol.proofs.Lists.{cases}
use Rattle.partition_protocol.proofs.RowFacts.{both_left, both_right, false_or_not, same_number}
use Rattle.masters_protocol.specs.Members.{Sent}
use Rattle.masters_protocol.specs.Machine.{Packet, is_on, link, taken_out, packets_from}

module _ {D : Type 0} where
  pub link_append : (f t : ℕ) (ps qs : List (Packet D)) → link f t (ps ++ qs) ≡ link f t ps ++ link f t qs
  link_append f t ps qs = filter-append (is_on f t) ps qs

  pub link_on : (f t : ℕ) (p : Packet D) (ps : List (Packet D)) → is_on f t p ≡ true → link f t (p ∷ ps) ≡ p ∷ link f t ps
  link_on f t p ps e = ap (λ b. cond b (p ∷ link f t ps) (link f t ps)) e

  pub link_off : (f t : ℕ) (p : Packet D) (ps : List (Packet D)) → is_on f t p ≡ false → link f t (p ∷ ps) ≡ link f t ps
  link_off f t p ps e = ap (λ b. cond b (p ∷ link f t ps) (link f t ps)) e

  -- on its own link the packet at the place goes
  pub link_taken : (f t i : ℕ) (ps : List (Packet D)) → link f t (taken_out f t i ps) ≡ remove (link f t ps) i
  link_taken f t zero [] = refl
  link_taken f t (suc i) [] = refl
  link_taken f t zero (p ∷ ps) = ⊎_elim
      (λ e. ap (λ b. link f t (cond b ps (p ∷ taken_out f t zero ps))) e ∙ sym (ap (λ qs. remove qs zero) (link_on f t p ps e)))
      (λ e. ap (λ b. link f t (cond b ps (p ∷ taken_out f t zero ps))) e ∙ link_off f t p (taken_out f t zero ps) e ∙ link_taken f t zero ps ∙ sym (ap (λ qs. remove qs zero) (link_off f t p ps e))) (cases (is_on f t p))
  link_taken f t (suc i) (p ∷ ps) = ⊎_elim
      (λ e. ap (λ b. link f t (cond b (p ∷ taken_out f t i ps) (p ∷ taken_out f t (suc i) ps))) e ∙ link_on f t p (taken_out f t i ps) e ∙ ap (λ qs. p ∷ qs) (link_taken f t i ps) ∙ sym (ap (λ qs. remove qs (suc i)) (link_on f t p ps e)))
      (λ e. ap (λ b. link f t (cond b (p ∷ taken_out f t i ps) (p ∷ taken_out f t (suc i) ps))) e ∙ link_off f t p (taken_out f t (suc i) ps) e ∙ link_taken f t (suc i) ps ∙ sym (ap (λ qs. remove qs (suc i)) (link_off f t p ps e))) (cases (is_on f t p))

  -- a packet is on one link
  pub on_one : (f t g u : ℕ) (p : Packet D) → (g ≢ f) ⊎ (u ≢ t) → is_on f t p ≡ true → is_on g u p ≡ false
  on_one f t g u p d e = false_or_not (is_on g u p) (λ h. ⊎_elim
      (λ n. n (sym (same_number p.from g (both_left (p.from == g) (p.to == u) h)) ∙ same_number p.from f (both_left (p.from == f) (p.to == t) e)))
      (λ n. n (sym (same_number p.to u (both_right (p.from == g) (p.to == u) h)) ∙ same_number p.to t (both_right (p.from == f) (p.to == t) e))) d)

  pub link_skips : (g u : ℕ) (p : Packet D) (ps qs : List (Packet D)) → link g u ps ≡ link g u qs → link g u (p ∷ ps) ≡ link g u (p ∷ qs)
  link_skips g u p ps qs e = ap (λ zs. cond (is_on g u p) (p ∷ zs) zs) e

  -- and the other links stay
  pub link_taken_other : (f t g u i : ℕ) (ps : List (Packet D)) → (g ≢ f) ⊎ (u ≢ t) → link g u (taken_out f t i ps) ≡ link g u ps
  link_taken_other f t g u zero [] d = refl
  link_taken_other f t g u (suc i) [] d = refl
  link_taken_other f t g u zero (p ∷ ps) d = ⊎_elim
      (λ e. ap (λ b. link g u (cond b ps (p ∷ taken_out f t zero ps))) e ∙ sym (link_off g u p ps (on_one f t g u p d e)))
      (λ e. ap (λ b. link g u (cond b ps (p ∷ taken_out f t zero ps))) e ∙ link_skips g u p (taken_out f t zero ps) ps (link_taken_other f t g u zero ps d)) (cases (is_on f t p))
  link_taken_other f t g u (suc i) (p ∷ ps) d = ⊎_elim
      (λ e. ap (λ b. link g u (cond b (p ∷ taken_out f t i ps) (p ∷ taken_out f t (suc i) ps))) e ∙ link_skips g u p (taken_out f t i ps) ps (link_taken_other f t g u i ps d))
      (λ e. ap (λ b. link g u (cond b (p ∷ taken_out f t i ps) (p ∷ taken_out f t (suc i) ps))) e ∙ link_skips g u p (taken_out f t (suc i) ps) ps (link_taken_other f t g u (suc i) ps d)) (cases (is_on f t p))

  -- what is sent comes last on its link, and nothing of it on a link from another
  pub link_sent_other : (m f t : ℕ) (ss : List (Sent D)) → f ≢ m → link f t (packets_from m ss) ≡ []
  link_sent_other m f t [] d = refl
  link_sent_other m f t (x ∷ ss) d =
      let p : Packet D = record { from = m; to = x.to; message = x.message } in
      link_off f t p (packets_from m ss) (false_or_not (is_on f t p) (λ h. d (sym (same_number m f (both_left (m == f) (x.to == t) h))))) ∙ link_sent_other m f t ss d
