-- Each call of a parcel keeps its rule.
use Rattle.std.proofs.Common.{◌≡◌, ◌≢◌, ℕ, zero, suc, ◌⊎◌, inl, inr, ⊎_elim, List, [], ◌∷◌, ◌++◌, All, set, sym, refl, ap, ◌∙◌, subst, Option, Some, None}
use Rattle.std.proofs.lemmas.List.Elements.{All-nil, All-head, All-tail, All-push}
use mathlib.Core.Option.{some-injective, some-ne-none}
use lib.ListN.{get_elem?}
use Rattle.atomic_table.proofs.Lists.{at_set, at_snoc, set_again}
use Rattle.crossbeam_queue.specs.Fifo.{Pushes, Pops, Forks, Learns}
use Rattle.job_queues.specs.declared.parcel.Done.{Done}
use Rattle.job_queues.specs.declared.terms.ParcelSide.{ParcelSide}
use Rattle.job_queues.specs.declared.terms.ParcelSide.TheVariants.{Opening, Sender, Receiver, Spent}
use Rattle.job_queues.specs.Terms.{Terms}
use Rattle.job_queues.specs.Lists.{At}
use Rattle.job_queues.specs.ParcelRule.{IsOpening, IsSender, IsSpent, Agrees, Fits, Parcelled, sees_room, gives}

same_at : {A : Type 0} (l : List A) (i j : ℕ) (a b : A) → At l i a → At l j b → i ≡ j → a ≡ b
same_at l i j a b p q e = some-injective a b (sym p ∙ (ap (get_elem? l) e ∙ q))

module _ {T P E O : Type 0} where
  only_one : (a b : ParcelSide T P E O) (j : ℕ) → At (a ∷ []) j b → (j ≡ 0) × (a ≡ b)
  only_one a b zero e = (refl, some-injective a b e)
  only_one a b (suc j) e = absurd (some-ne-none b (sym e))

  spent_agrees : (terms : Option (Terms P E)) (u : ParcelSide T P E O) → IsSpent u → Agrees terms u
  spent_agrees terms Spent s = tt
  spent_agrees terms Opening s = elim s [ ]
  spent_agrees terms (Sender q) s = elim s [ ]
  spent_agrees terms (Receiver q) s = elim s [ ]

  spent_sender : (u : ParcelSide T P E O) → IsSpent u → IsSender u → ⊥
  spent_sender Spent s t = t
  spent_sender Opening s t = s
  spent_sender (Sender q) s t = s
  spent_sender (Receiver q) s t = s

  spent_opening : (u : ParcelSide T P E O) → IsSpent u → IsOpening u → ⊥
  spent_opening Spent s t = t
  spent_opening Opening s t = s
  spent_opening (Sender q) s t = s
  spent_opening (Receiver q) s t = s

module _ {T P E O : Type 0} (fits : Terms P E → Done T P E O → Type 0) where
  abbrev D : Type 0
  D = Done T P E O

  abbrev V : Type 0
  V = ParcelSide T P E O

  pub starts : Parcelled fits [] (Opening ∷ [])
  starts = record {
    terms = None;
    fit = All-nil (Fits fits None);
    agree = λ j v at. subst (Agrees None) (only_one Opening v j at).1 tt;
    opening = λ j v at o. (refl, λ i u here. inl ((only_one Opening u i here).0 ∙ sym (only_one Opening v j at).0));
    sender = λ j v at s. absurd (subst IsSender (sym (only_one Opening v j at).1) s);
  }

  pub seals : (pass : ℕ) (p : Terms P E) → Forks (Parcelled fits) pass Opening (Sender p) (Receiver p)
  seals pass p items sides q at = let v : V = Sender p in let w : V = Receiver p in let o = q.opening pass Opening at tt in
      let who : ((i : ℕ) (u : V) → At (set sides pass v ++ w ∷ []) i u → ((i ≡ pass) × (v ≡ u)) ⊎ (IsSpent u ⊎ (w ≡ u))) = λ i u here. ⊎_elim
      (λ (was : At (set sides pass v) i u). ⊎_elim (λ (t : (i ≡ pass) × (v ≡ u)). inl t)
      (λ (t : (i ≢ pass) × At sides i u). ⊎_elim (λ (e : i ≡ pass). absurd (t.0 e)) (λ (s : IsSpent u). inr (inl s)) (o.1 i u t.1)) (at_set sides pass i v u was))
      (λ (e : w ≡ u). inr (inr e)) (at_snoc (set sides pass v) w u i here) in record {
        terms = Some p;
        fit = subst (All (Fits fits (Some p))) (sym o.0) (All-nil (Fits fits (Some p)));
        agree = λ i u here. ⊎_elim (λ (t : (i ≡ pass) × (v ≡ u)). subst (Agrees (Some p)) t.1 refl)
            (λ (t : IsSpent u ⊎ (w ≡ u)). ⊎_elim (spent_agrees (Some p) u) (λ (e : w ≡ u). subst (Agrees (Some p)) e refl) t) (who i u here);
        opening = λ i u here z. absurd (⊎_elim (λ (t : (i ≡ pass) × (v ≡ u)). subst IsOpening (sym t.1) z)
            (λ (t : IsSpent u ⊎ (w ≡ u)). ⊎_elim (λ (s : IsSpent u). spent_opening u s z) (λ (e : w ≡ u). subst IsOpening (sym e) z) t) (who i u here));
        sender = λ i u here z. (o.0, λ j x there y. at_pass who j x there y ∙ sym (at_pass who i u here z));
      }
    where
      at_pass : ((i : ℕ) (u : V) → At (set sides pass (Sender p) ++ Receiver p ∷ []) i u → ((i ≡ pass) × (Sender p ≡ u)) ⊎ (IsSpent u ⊎ (Receiver p ≡ u)))
          → (j : ℕ) (x : V) → At (set sides pass (Sender p) ++ Receiver p ∷ []) j x → IsSender x → j ≡ pass
      at_pass who j x there y = ⊎_elim (λ (t : (j ≡ pass) × (Sender p ≡ x)). t.0)
          (λ (t : IsSpent x ⊎ (Receiver p ≡ x)). absurd (⊎_elim (λ (s : IsSpent x). spent_sender x s y) (λ (e : Receiver p ≡ x). subst IsSender (sym e) y) t)) (who j x there)

  -- while a sender or a receiver is there, no end is opening
  none_opens : (items : List D) (sides : List V) (q : Parcelled fits items sides) (pass : ℕ) (v : V) → At sides pass v → (IsOpening v → ⊥) → (IsSpent v → ⊥) → (j : ℕ) (u : V) → At sides j u → IsOpening u → ⊥
  none_opens items sides q pass v at not_o not_s j u here o = ⊎_elim (λ (e : pass ≡ j). not_o (subst IsOpening (sym (same_at sides pass j v u at here e)) o)) not_s ((q.opening j u here o).1 pass v at)

  pub puts : (n pass : ℕ) (p : Terms P E) (x : D) → fits p x → Pushes (Parcelled fits) n pass (Sender p) x (λ w. Unit {0})
  puts n pass p x for items sides room q at = let v : V = Sender p in let s = q.sender pass v at tt in (
    Spent,
    record {
      terms = q.terms;
      fit = All-push (Fits fits q.terms) items x q.fit (subst (λ (z : Option (Terms P E)). Fits fits z x) (sym (q.agree pass v at)) for);
      agree = λ j u here. ⊎_elim (λ (t : (j ≡ pass) × (Spent ≡ u)). subst (Agrees q.terms) t.1 tt) (λ (t : (j ≢ pass) × At sides j u). q.agree j u t.1) (at_set sides pass j Spent u here);
      opening = λ j u here o. absurd (⊎_elim (λ (t : (j ≡ pass) × (Spent ≡ u)). subst IsOpening (sym t.1) o)
          (λ (t : (j ≢ pass) × At sides j u). none_opens items sides q pass v at (λ z. z) (λ z. z) j u t.1 o) (at_set sides pass j Spent u here));
      sender = λ j u here z. absurd (⊎_elim (λ (t : (j ≡ pass) × (Spent ≡ u)). subst IsSender (sym t.1) z)
          (λ (t : (j ≢ pass) × At sides j u). t.0 (s.1 j u t.1 z)) (at_set sides pass j Spent u here));
    },
    tt,
  )

  pub learns : (pass : ℕ) (v : V) → Learns (Parcelled fits) pass v (sees_room v)
  learns pass v items sides q at z = (q.sender pass v at z).0

  pub takes : (pass : ℕ) (p : Terms P E) → Pops (Parcelled fits) pass (Receiver p) (gives fits (Receiver p))
  takes pass p x items sides q at = let v : V = Receiver p in (
    v,
    subst (λ (z : List V). Parcelled fits items z) (sym (set_again sides pass v at)) record {
      terms = q.terms;
      fit = All-tail (Fits fits q.terms) x items q.fit;
      agree = q.agree;
      opening = λ j u here o. absurd (none_opens (x ∷ items) sides q pass v at (λ z. z) (λ z. z) j u here o);
      sender = λ j u here z. absurd (no_cons x items (q.sender j u here z).0);
    },
    (refl, λ known e. subst (λ (z : Option (Terms P E)). Fits fits z x) (subst (Agrees q.terms) e (q.agree pass v at)) (All-head (Fits fits q.terms) x items q.fit)),
  )
    where
      no_cons : (y : D) (ys : List D) → y ∷ ys ≡ [] → ⊥
      no_cons y ys e = cc
