-- The lists of the code's links have as many messages as are in flight there, so what is told of the ones is told of the others.
use Rattle.std.proofs.Common.{◌≡◌, ℕ, zero, suc, ◌+◌, Bool, cond, ◌||◌, leb, not, ◌==◌, List, [], ◌∷◌, ◌++◌, map, length, Some, refl, ap, sym, ◌∙◌, arith, map-id}
use Rattle.std.specs.List.{find, flat_map, list_any, range_with_len}
use Rattle.std.proofs.lemmas.List.{length-map}
use Rattle.std.proofs.lemmas.List.FromFn.{map-range_with_len_more}
use Rattle.grid_base.specs.Shelves.{Meaning}
use Rattle.partition_protocol.specs.Links.{link}
use Rattle.partition_protocol.specs.Service.{numbers_below}
use Rattle.partition_protocol.specs.World.{World as Machine}
use Rattle.link_net.specs.declared.link.Link.{Link}
use Rattle.link_net.specs.Links.{Net, HasLists, list_of}
use Rattle.link_net.specs.Links as net
use Rattle.partition_world.specs.InFlight.{bytes_of}
use Rattle.partition_world.specs.Sending.{flying}
use Rattle.partition_world.specs.LinkOrder.{links_of, is_busy, next_link, is_crowded, has_crowded_link}

find_alike : {X : Type 0} (p q : X → Bool) → ((x : X) → p x ≡ q x) → (xs : List X) → find p xs ≡ find q xs
find_alike p q same [] = refl
find_alike p q same (x ∷ xs) = ap (λ b. cond b (Some x) (find p xs)) (same x) ∙ ap (cond (q x) (Some x)) (find_alike p q same xs)

any_alike : {X : Type 0} (p q : X → Bool) → ((x : X) → p x ≡ q x) → (xs : List X) → list_any p xs ≡ list_any q xs
any_alike p q same [] = refl
any_alike p q same (x ∷ xs) = ap (λ b. b || list_any p xs) (same x) ∙ ap (λ b. q x || b) (any_alike p q same xs)

-- the numbers below one, from the first on
numbers_in_order : (n : ℕ) → range_with_len 0 n ≡ numbers_below n
numbers_in_order zero = refl
numbers_in_order (suc n) =
    let one : suc n ≡ n + 1 = omega arith in
    let first : 0 + n ≡ n = omega arith in
    let plain : map (λ x. x) (range_with_len 0 (n + 1)) ≡ map (λ x. x) (range_with_len 0 n) ++ n ∷ [] = map-range_with_len_more (λ x. x) 0 n n first in
    ap (range_with_len 0) one ∙ sym (map-id (range_with_len 0 (n + 1))) ∙ plain ∙ ap (λ xs. xs ++ n ∷ []) (map-id (range_with_len 0 n) ∙ numbers_in_order n)

-- the links from each of these to each
abbrev links_among : List ℕ → List Link
links_among ends = flat_map (λ from. map (λ to. let l : Link = record { from = from; to = to } in l) ends) ends

module _ {S C State : Type 0} (k : Meaning S C State) (w : Machine C) (n : Net) (lists : HasLists n (flying k w)) (ends : n.ends ≡ w.members + 1) where
  all_links : net.links_of n.ends ≡ links_of w.members
  all_links = ap links_among (numbers_in_order n.ends ∙ ap numbers_below ends)

  as_many : (l : Link) → length (list_of n l.from l.to) ≡ length (link l.from l.to w.packets)
  as_many l = ap length (lists l.from l.to) ∙ length-map (link l.from l.to w.packets) (bytes_of k w)

  pub next_of_world : net.next_link n ≡ next_link w
  next_of_world = find_alike (net.is_busy n) (is_busy w) (λ l. ap (λ m. not (m == 0)) (as_many l)) (net.links_of n.ends) ∙ ap (find (is_busy w)) all_links

  pub crowded_in_world : (most : ℕ) → net.has_crowded_link most n ≡ has_crowded_link most w
  crowded_in_world most =
      any_alike (net.is_crowded most n) (is_crowded most w) (λ l. ap (leb most) (as_many l)) (net.links_of n.ends) ∙ ap (list_any (is_crowded most w)) all_links
