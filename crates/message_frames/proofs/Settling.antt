-- Lists that are numbered anew are the same state.
use Rattle.std.proofs.Common.{◌≡◌, ◌≢◌, ℕ, suc, ◌+◌, ◌<◌, List, [], ◌∷◌, ◌++◌, length, map, get_or, set, take, drop, drop-cons, add-one, length-take, get_or-set_other, length-append, append_assoc, refl, sym, ◌∙◌, ap, subst, ◌⊎◌, inl, inr, arith}
use Rattle.std.specs.Prelude.{◌||◌}
use Rattle.std.proofs.lemmas.List.{map-append, take_more, take-append-drop}
use Rattle.frame_codec.specs.declared.frames.Frame.{Frame}
use Rattle.message_frames.specs.Tallies.{tally_of}
use Rattle.message_frames.specs.Turns.{is_named, is_known}
use Rattle.message_frames.specs.Lists.{list_at, chain_of, AreSound, renumbered, lists_of}
use Rattle.message_frames.specs.declared.control.OpenChain.{OpenChain}
use Rattle.message_frames.proofs.Live.{IsOfChain, of_within}

suc_moved : (a b : ℕ) → suc a + b ≡ a + suc b
suc_moved a b = omega arith

length-renumbered : (n : ℕ) (chains : List OpenChain) → length (renumbered n chains) ≡ 0 + length chains
length-renumbered n chains = same n chains ∙ plain (length chains)
  where
    same : (m : ℕ) (cs : List OpenChain) → length (renumbered m cs) ≡ length cs
    same m [] = refl
    same m (c ∷ cs) = ap suc (same (suc m) cs)

    plain : (m : ℕ) → m ≡ 0 + m
    plain m = omega arith

-- one chain more

pub renumbered-push : (n : ℕ) (chains : List OpenChain) (chain : OpenChain) → renumbered n (chains ++ chain ∷ []) ≡ renumbered n chains ++ record chain { list = n + length chains } ∷ []
renumbered-push n [] chain = ap (λ k. record chain { list = k } ∷ []) (omega arith)
renumbered-push n (first ∷ chains) chain =
    ap (λ rest. record first { list = n } ∷ rest)
    (renumbered-push (suc n) chains chain ∙ ap (λ k. renumbered (suc n) chains ++ record chain { list = k } ∷ []) (suc_moved n (length chains)))

pub lists_of-push : (lists : List (List Frame)) (chains : List OpenChain) (chain : OpenChain) → lists_of lists (chains ++ chain ∷ []) ≡ lists_of lists chains ++ list_at lists chain.list ∷ []
lists_of-push lists chains chain = map-append (λ (c : OpenChain). list_at lists c.list) chains (chain ∷ [])

of_push : (k : ℕ) (chains : List OpenChain) (chain : OpenChain) → IsOfChain k chains ⊎ (chain.list ≡ k) → IsOfChain k (chains ++ chain ∷ [])
of_push k [] chain (inl none) = absurd none
of_push k [] chain (inr here) = inl here
of_push k (first ∷ chains) chain (inl (inl here)) = inl here
of_push k (first ∷ chains) chain (inl (inr rest)) = inr (of_push k chains chain (inl rest))
of_push k (first ∷ chains) chain (inr here) = inr (of_push k chains chain (inr here))

of_middle : (before : List OpenChain) (chain : OpenChain) (after : List OpenChain) → IsOfChain chain.list (before ++ chain ∷ after)
of_middle [] chain after = inl refl
of_middle (first ∷ before) chain after = inr (of_middle before chain after)

-- A chain's list is none of those before it.
pub apart_before : (from : ℕ) (before : List OpenChain) (chain : OpenChain) (after : List OpenChain) (end : ℕ) (lists : List (List Frame)) → AreSound from (before ++ chain ∷ after) end lists → IsOfChain chain.list before → ⊥
apart_before from [] chain after end lists sound of = of
apart_before from (first ∷ before) chain after end lists sound (inl here) =
    absurd (omega (arith, (of_within chain.list (suc first.list) (before ++ chain ∷ after) end lists sound.3 (of_middle before chain after)).0))
apart_before from (first ∷ before) chain after end lists sound (inr rest) = apart_before (suc first.list) before chain after end lists sound.3 rest

-- the lists in their new order

pub at_seam : (front : List (List Frame)) (frames : List Frame) (rest : List (List Frame)) → list_at (front ++ frames ∷ rest) (length front) ≡ frames
at_seam [] frames rest = refl
at_seam (first ∷ front) frames rest = at_seam front frames rest

length-push : (front : List (List Frame)) (frames : List Frame) → length (front ++ frames ∷ []) ≡ suc (length front)
length-push front frames = omega (arith, length-append front (frames ∷ []))

pub is_known-renumbered : (id n : ℕ) (chains : List OpenChain) → is_known id (renumbered n chains) ≡ is_known id chains
is_known-renumbered id n [] = refl
is_known-renumbered id n (chain ∷ chains) = ap (λ rest. is_named id chain || rest) (is_known-renumbered id (suc n) chains)

module _ (lists behind : List (List Frame)) where
  abbrev pub placed : List (List Frame) → List OpenChain → List (List Frame)
  placed front chains = front ++ (lists_of lists chains ++ behind)

  next_placed : (front : List (List Frame)) (chain : OpenChain) (chains : List OpenChain) → placed (front ++ list_at lists chain.list ∷ []) chains ≡ placed front (chain ∷ chains)
  next_placed front chain chains = append_assoc front (list_at lists chain.list ∷ []) (lists_of lists chains ++ behind)

  pub chains_placed : (front : List (List Frame)) (chains : List OpenChain) → map (chain_of (placed front chains)) (renumbered (length front) chains) ≡ map (chain_of lists) chains
  chains_placed front [] = refl
  chains_placed front (chain ∷ chains) =
      let next = front ++ list_at lists chain.list ∷ [] in
      let rest : map (chain_of (placed front (chain ∷ chains))) (renumbered (suc (length front)) chains) ≡ map (chain_of lists) chains =
      ap (λ n. map (chain_of (placed front (chain ∷ chains))) (renumbered n chains)) (sym (length-push front (list_at lists chain.list)))
      ∙ ap (λ all. map (chain_of all) (renumbered (length next) chains)) (sym (next_placed front chain chains))
      ∙ chains_placed next chains in
      rw (at_seam front (list_at lists chain.list) (lists_of lists chains ++ behind), rest) refl

  pub sound_placed : (front : List (List Frame)) (chains : List OpenChain) (from end : ℕ) → AreSound from chains end lists →
      AreSound (length front) (renumbered (length front) chains) (length front + length chains) (placed front chains)
  sound_placed front [] from end sound = omega arith
  sound_placed front (chain ∷ chains) from end sound =
      let next = front ++ list_at lists chain.list ∷ [] in
      let rest : AreSound (suc (length front)) (renumbered (suc (length front)) chains) (length front + suc (length chains)) (placed front (chain ∷ chains)) =
      subst (λ all. AreSound (suc (length front)) (renumbered (suc (length front)) chains) (length front + suc (length chains)) all) (next_placed front chain chains)
      (subst (λ last. AreSound (suc (length front)) (renumbered (suc (length front)) chains) last (placed next chains)) (suc_moved (length front) (length chains))
      (subst (λ n. AreSound n (renumbered n chains) (n + length chains) (placed next chains)) (length-push front (list_at lists chain.list)) (sound_placed next chains (suc chain.list) end sound.3))) in (
        omega arith,
        is_known-renumbered chain.id (suc (length front)) chains ∙ sound.1,
        sound.2 ∙ ap tally_of (sym (at_seam front (list_at lists chain.list) (lists_of lists chains ++ behind))),
        rest,
      )

-- chains whose lists were moved, and what is left of the lists
pub record AreMoved (before : List (List Frame)) (done moved : List OpenChain) (lists kept : List (List Frame)) : Type 0 where
  pub chains : moved ≡ renumbered 0 done
  pub kept_are : kept ≡ lists_of before done
  pub others : (k : ℕ) → (IsOfChain k done → ⊥) → list_at lists k ≡ list_at before k

pub none_moved : (before : List (List Frame)) → AreMoved before [] [] before []
none_moved before = record { chains = refl; kept_are = refl; others = λ k none. refl }

pub one_moved : (before : List (List Frame)) (done moved : List OpenChain) (lists kept : List (List Frame)) (chain : OpenChain) (rest : List OpenChain) (end : ℕ) → AreSound 0 (done ++ chain ∷ rest) end before →
    AreMoved before done moved lists kept →
    AreMoved before (done ++ chain ∷ []) (moved ++ record chain { list = length moved } ∷ []) (set lists chain.list []) (kept ++ list_at lists chain.list ∷ [])
one_moved before done moved lists kept chain rest end sound so_far =
    let count : length moved ≡ 0 + length done = ap length so_far.chains ∙ length-renumbered 0 done in
    record {
      chains = ap (λ n. moved ++ record chain { list = n } ∷ []) count ∙ ap (λ front. front ++ record chain { list = 0 + length done } ∷ []) so_far.chains ∙ sym (renumbered-push 0 done chain);
      kept_are =
          ap (λ front. front ++ list_at lists chain.list ∷ []) so_far.kept_are
          ∙ ap (λ frames. lists_of before done ++ frames ∷ []) (so_far.others chain.list (apart_before 0 done chain rest end before sound))
          ∙ sym (lists_of-push before done chain);
      others = λ k none.
          let apart : k ≢ chain.list = λ same. none (of_push k done chain (inr (sym same))) in
          get_or-set_other lists chain.list k [] [] apart ∙ so_far.others k (λ of. none (of_push k done chain (inl of)));
    }

pub not_of_chain : (k : ℕ) (chains : List OpenChain) (lists : List (List Frame)) → AreSound 0 chains k lists → IsOfChain k chains → ⊥
not_of_chain k chains lists sound of = absurd (omega (arith, (of_within k 0 chains k lists sound of).1))

-- the chain at an index, as a loop reads it

chains_around : (chains : List OpenChain) (i : ℕ) (default : OpenChain) → i < length chains → take i chains ++ get_or chains i default ∷ drop (i + 1) chains ≡ chains
chains_around chains i default within =
    rw add-one (ap (λ rest. take i chains ++ rest) (sym (drop-cons chains i default within)) ∙ take-append-drop i chains)

module _ (before : List (List Frame)) (chains : List OpenChain) (end i : ℕ) (default : OpenChain) (sound : AreSound 0 chains end before) (within : i < length chains) where
  around : AreSound 0 (take i chains ++ get_or chains i default ∷ drop (i + 1) chains) end before
  around = subst (λ cs. AreSound 0 cs end before) (sym (chains_around chains i default within)) sound

  pub list_within : (get_or chains i default).list < end
  list_within = (of_within (get_or chains i default).list 0 (take i chains ++ get_or chains i default ∷ drop (i + 1) chains) end before around (of_middle (take i chains) (get_or chains i default) (drop (i + 1) chains))).1

  pub more_moved : (moved : List OpenChain) (lists kept : List (List Frame)) → AreMoved before (take i chains) moved lists kept →
      let chain = get_or chains i default in
      AreMoved before (take (i + 1) chains) (moved ++ record chain { list = length moved } ∷ []) (set lists chain.list []) (kept ++ list_at lists chain.list ∷ [])
  more_moved moved lists kept so_far =
      rw (take_more chains i default within) (one_moved before (take i chains) moved lists kept (get_or chains i default) (drop (i + 1) chains) end around so_far)

  pub moved_count : (moved : List OpenChain) (lists kept : List (List Frame)) → AreMoved before (take i chains) moved lists kept → length moved ≡ i
  moved_count moved lists kept so_far = ap length so_far.chains ∙ length-renumbered 0 (take i chains) ∙ omega (arith, length-take i chains)
