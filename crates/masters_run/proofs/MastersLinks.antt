-- The links between the masters of the code have as many messages as those of the run, so what is told of the ones is told of the others.
use Rattle.std.proofs.Common.{◌≡◌, ℕ, zero, suc, ◌+◌, ◌-◌, ◌≤◌, Bool, cond, ◌||◌, leb, not, ◌==◌, nat_le, List, [], ◌∷◌, ◌++◌, map, length, Some, refl, ap, sym, ◌∙◌, subst, arith, map-id}
use Rattle.std.specs.List.{find, flat_map, list_any, range_with_len}
use Rattle.std.proofs.lemmas.List.{length-map}
use Rattle.std.proofs.lemmas.List.FromFn.{map-range_with_len_more}
use Rattle.grid_base.specs.Objects.{Object}
use Rattle.partition_protocol.specs.Service.{numbers_below}
use Rattle.link_net.specs.declared.link.Link.{Link}
use Rattle.link_net.specs.Links.{Net, HasLists, list_of}
use Rattle.link_net.specs.Links as net
use Rattle.partition_world.specs.LinkOrder.{links_of}
use Rattle.masters_protocol.specs.Machine.{Masters as Machine, Packet, link}
use Rattle.masters_world.specs.Decisions.{Decision}
use Rattle.masters_world.specs.Machine.{Line}
use Rattle.master_wire.specs.declared.decision.Decision.{Decision as Written}
use Rattle.master_wire.specs.Spelling.{spelling}
use Rattle.master_log.specs.declared.masters.Masters.{Masters}
use Rattle.master_log.specs.Standing.{run_of, size_of, flying}
use Rattle.masters_run.proofs.KeptMasters.{StandForLines, theirs, own_events, some, size_is, flight_is}

find_alike : {X : Type 0} (p q : X → Bool) → ((x : X) → p x ≡ q x) → (xs : List X) → find p xs ≡ find q xs
find_alike p q same [] = refl
find_alike p q same (x ∷ xs) = ap (λ b. cond b (Some x) (find p xs)) (same x) ∙ ap (cond (q x) (Some x)) (find_alike p q same xs)

any_alike : {X : Type 0} (p q : X → Bool) → ((x : X) → p x ≡ q x) → (xs : List X) → list_any p xs ≡ list_any q xs
any_alike p q same [] = refl
any_alike p q same (x ∷ xs) = ap (λ b. b || list_any p xs) (same x) ∙ ap (λ b. q x || b) (any_alike p q same xs)

-- the numbers below one, from the first on
numbers_in_order : (n : ℕ) → range_with_len 0 n ≡ numbers_below n
numbers_in_order zero = refl
numbers_in_order (suc n) =
    let one : suc n ≡ n + 1 = omega arith in
    let first : 0 + n ≡ n = omega arith in
    let plain : map (λ x. x) (range_with_len 0 (n + 1)) ≡ map (λ x. x) (range_with_len 0 n) ++ n ∷ [] = map-range_with_len_more (λ x. x) 0 n n first in
    ap (range_with_len 0) one ∙ sym (map-id (range_with_len 0 (n + 1))) ∙ plain ∙ ap (λ xs. xs ++ n ∷ []) (map-id (range_with_len 0 n) ∙ numbers_in_order n)

-- the links from each of these to each
abbrev links_among : List ℕ → List Link
links_among ends = flat_map (λ from. map (λ to. let l : Link = record { from = from; to = to } in l) ends) ends

-- a link of the run that is full, and one that has a message

abbrev pub is_full : {D : Type 0} → ℕ → Machine D → Link → Bool
is_full most w l = nat_le most (length (link l.from l.to w.packets))

abbrev pub is_busy : {D : Type 0} → Machine D → Link → Bool
is_busy w l = not (length (link l.from l.to w.packets) == 0)

module _ {C State : Type 0} (o : Object C State) (p n b : ℕ) (lines : List (Line C)) (kept : Masters) (k : StandForLines o p n b lines kept)
    (links : Net) (lists : HasLists links (flying (run_of kept (own_events o p n b lines kept k)))) (ends : links.ends ≡ size_of kept) where
  abbrev machine : Machine Decision
  machine = theirs o p n b lines kept k

  all_links : net.links_of links.ends ≡ links_of (machine.size - 1)
  all_links =
      let same : machine.size ≡ n = size_is o p n b lines kept k in
      let low = subst (λ m. 1 ≤ m) (sym same) (some o p n b lines kept k) in
      let so : links.ends ≡ (machine.size - 1) + 1 = ends ∙ k.size ∙ sym same ∙ omega (arith, low) in
      ap links_among (numbers_in_order links.ends ∙ ap numbers_below so)

  as_many : (l : Link) → length (list_of links l.from l.to) ≡ length (link l.from l.to machine.packets)
  as_many l =
      ap length (lists l.from l.to)
      ∙ length-map (link l.from l.to (run_of kept (own_events o p n b lines kept k)).packets) (λ (q : Packet Written). spelling q.message)
      ∙ flight_is o p n b lines kept k l.from l.to

  pub crowded_is : (most : ℕ) → net.has_crowded_link most links ≡ list_any (is_full most machine) (links_of (machine.size - 1))
  crowded_is most = any_alike (net.is_crowded most links) (is_full most machine) (λ l. ap (leb most) (as_many l)) (net.links_of links.ends) ∙ ap (list_any (is_full most machine)) all_links

  pub next_is : net.next_link links ≡ find (is_busy machine) (links_of (machine.size - 1))
  next_is = find_alike (net.is_busy links) (is_busy machine) (λ l. ap (λ m. not (m == 0)) (as_many l)) (net.links_of links.ends) ∙ ap (find (is_busy machine)) all_links
