-- The clients of a server by their keys, as one of them changes.
use Rattle.std.proofs.Common.{◌≡◌, ◌≢◌, ⊎_elim, ℕ, ◌<◌, Option, Some, None, is_some, IsSome, cond, refl, sym, ap, ◌∙◌, subst, arith}
use Rattle.std.proofs.lemmas.List.Sums.{sum_by_more_le}
use Rattle.slab.specs.Slab.{Slab, get, slab_len, Updates}
use Rattle.slab.proofs.SlabLemmas.{ContainsKey-within}
use Rattle.live_session.proofs.Places.{same_some, none_some}
use Rattle.live_server.specs.declared.client.Client.{Client}
use Rattle.live_server.specs.Standing.{OfEach, IsUnserved, IsServedBy}
use Rattle.live_server.proofs.Tallies.{same_or_other}

module _ {T P E O F K : Type 0} (old new : Slab (Client T F K P E O)) (key : ℕ) where
  -- where one client changed, what holds of it now, and of each other one, holds of each
  pub of_each : (slot : Option (Client T F K P E O)) → Updates old new key slot → (holds : Client T F K P E O → Type 0) → ((client : Client T F K P E O) → slot ≡ Some client → holds client)
      → ((other : ℕ) (client : Client T F K P E O) → other ≢ key → get old other ≡ Some client → holds client) → OfEach holds new
  of_each slot updates holds here there k client e = ⊎_elim
      (λ (same : k ≡ key). here client (sym updates.changed ∙ (ap (get new) (sym same) ∙ e)))
      (λ (other : k ≢ key). there k client other (sym (updates.others k other) ∙ e))
      (same_or_other k key)

  -- A client has another one of its number in its place
  module _ (was client : Client T F K P E O) (was_there : get old key ≡ Some was) (same_number : client.number ≡ was.number) (updates : Updates old new key (Some client)) where
    pub changed_unserved : (number : ℕ) → IsUnserved number old → IsUnserved number new
    changed_unserved number none = of_each (Some client) updates (λ c. c.number ≢ number)
        (λ c e mine. none key was was_there (sym same_number ∙ (ap (λ (x : Client T F K P E O). x.number) (same_some client c e) ∙ mine)))
        (λ k c other e. none k c e)

    pub changed_was_unserved : (number : ℕ) → IsUnserved number new → IsUnserved number old
    changed_was_unserved number none k c e mine = ⊎_elim
        (λ (same : k ≡ key). none key client updates.changed
        (same_number ∙ (ap (λ (x : Client T F K P E O). x.number) (same_some was c (sym was_there ∙ (ap (get old) (sym same) ∙ e))) ∙ mine)))
        (λ (other : k ≢ key). none k c (updates.others k other ∙ e) mine)
        (same_or_other k key)

    pub changed_served : (number : ℕ) → IsServedBy number old → IsServedBy number new
    changed_served number served = ⊎_elim
        (λ (same : served.key ≡ key). record {
          key = served.key;
          client = client;
          there = ap (get new) same ∙ updates.changed;
          its = same_number ∙ (ap (λ (x : Client T F K P E O). x.number) (same_some was served.client (sym was_there ∙ (ap (get old) (sym same) ∙ served.there))) ∙ served.its);
          alone = alone;
        })
        (λ (other : served.key ≢ key). record { key = served.key; client = served.client; there = updates.others served.key other ∙ served.there; its = served.its; alone = alone })
        (same_or_other served.key key)
      where
        alone : (k : ℕ) (c : Client T F K P E O) → get new k ≡ Some c → c.number ≡ number → k ≡ served.key
        alone k c e mine = ⊎_elim
            (λ (same : k ≡ key). same ∙ served.alone key was was_there
            (sym same_number ∙ (ap (λ (x : Client T F K P E O). x.number) (same_some client c (sym updates.changed ∙ (ap (get new) (sym same) ∙ e))) ∙ mine)))
            (λ (other : k ≢ key). served.alone k c (sym (updates.others k other) ∙ e) mine)
            (same_or_other k key)

  -- A client was let in
  module _ (client : Client T F K P E O) (vacant : get old key ≡ None) (updates : Updates old new key (Some client)) where
    other_key : (k : ℕ) (c : Client T F K P E O) → get old k ≡ Some c → k ≢ key
    other_key k c e same = none_some c (sym vacant ∙ (ap (get old) (sym same) ∙ e))

    pub came_was_unserved : (number : ℕ) → IsUnserved number new → IsUnserved number old
    came_was_unserved number none k c e mine = none k c (updates.others k (other_key k c e) ∙ e) mine

    pub came_unserved : (number : ℕ) → client.number ≢ number → IsUnserved number old → IsUnserved number new
    came_unserved number another none = of_each (Some client) updates (λ c. c.number ≢ number)
        (λ c e mine. another (ap (λ (x : Client T F K P E O). x.number) (same_some client c e) ∙ mine))
        (λ k c other e. none k c e)

    -- which is served from now on
    pub came_served : (number : ℕ) → client.number ≡ number → IsUnserved number old → IsServedBy number new
    came_served number its none = record {
      key = key;
      client = client;
      there = updates.changed;
      its = its;
      alone = λ k c e mine. ⊎_elim
          (λ (same : k ≡ key). same)
          (λ (other : k ≢ key). absurd (none k c (sym (updates.others k other) ∙ e) mine))
          (same_or_other k key);
    }

    pub others_served : (number : ℕ) → client.number ≢ number → IsServedBy number old → IsServedBy number new
    others_served number another served = record {
      key = served.key;
      client = served.client;
      there = updates.others served.key (other_key served.key served.client served.there) ∙ served.there;
      its = served.its;
      alone = λ k c e mine. ⊎_elim
          (λ (same : k ≡ key). absurd (another (ap (λ (x : Client T F K P E O). x.number) (same_some client c (sym updates.changed ∙ (ap (get new) (sym same) ∙ e))) ∙ mine)))
          (λ (other : k ≢ key). served.alone k c (sym (updates.others k other) ∙ e) mine)
          (same_or_other k key);
    }

  -- A client was taken out
  module _ (was : Client T F K P E O) (was_there : get old key ≡ Some was) (updates : Updates old new key None) where
    others_left : (k : ℕ) (c : Client T F K P E O) → get new k ≡ Some c → k ≢ key
    others_left k c e same = none_some c (sym updates.changed ∙ (ap (get new) (sym same) ∙ e))

    pub left_unserved : (number : ℕ) → IsUnserved number old → IsUnserved number new
    left_unserved number none k c e mine = none k c (sym (updates.others k (others_left k c e)) ∙ e) mine

    pub left_was_unserved : (number : ℕ) → was.number ≢ number → IsUnserved number new → IsUnserved number old
    left_was_unserved number another none k c e mine = ⊎_elim
        (λ (same : k ≡ key). another (ap (λ (x : Client T F K P E O). x.number) (same_some was c (sym was_there ∙ (ap (get old) (sym same) ∙ e))) ∙ mine))
        (λ (other : k ≢ key). none k c (updates.others k other ∙ e) mine)
        (same_or_other k key)

    -- whose number no client has any more
    pub left_rests : (number : ℕ) → was.number ≡ number → IsServedBy number old → IsUnserved number new
    left_rests number its served k c e mine =
        let other = others_left k c e in
        other (served.alone k c (sym (updates.others k other) ∙ e) mine ∙ sym (served.alone key was was_there its))

    pub left_served : (number : ℕ) → was.number ≢ number → IsServedBy number old → IsServedBy number new
    left_served number another served = record {
      key = served.key;
      client = served.client;
      there = updates.others served.key elsewhere ∙ served.there;
      its = served.its;
      alone = λ k c e mine. served.alone k c (sym (updates.others k (others_left k c e)) ∙ e) mine;
    }
      where
        elsewhere : served.key ≢ key
        elsewhere same = another (ap (λ (x : Client T F K P E O). x.number) (same_some was served.client (sym was_there ∙ (ap (get old) (sym same) ∙ served.there))) ∙ served.its)

module _ {T P E O F K : Type 0} (clients : Slab (Client T F K P E O)) where
  -- where no key has a client, all holds of each
  pub none_there : slab_len clients ≡ 0 → (holds : Client T F K P E O → Type 0) → OfEach holds clients
  none_there none holds key client there =
      let within : key < _ = ContainsKey-within clients key (subst (λ (o : Option (Client T F K P E O)). IsSome o) (sym there) refl) in
      let less = sum_by_more_le (λ (o : Option (Client T F K P E O)). cond (is_some o) 1 0) clients.slots key None within in
      let one : ◌≡◌ {A = ℕ} (cond (is_some (get clients key)) 1 0) 1 = ap (λ (o : Option (Client T F K P E O)). cond (is_some o) 1 0) there in
      absurd (omega (arith, less, one, none))
