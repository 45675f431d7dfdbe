-- Room on the links of a member for what it sends at one event.
use Rattle.std.proofs.Common.{◌≡◌, ℕ, ◌<◌, ◌≤◌, List, length, sym, subst, ⊎_elim, arith}
use Rattle.masters_protocol.proofs.Tests.{order}
use Rattle.link_net.specs.Links.{Net, HasRoom, LowersNoSpare, spare_of, sent_to}
use Rattle.master_member.specs.Steps.{IsSingle}

-- one on each link is enough
pub room : (net after : Net) (m size : ℕ) (out : List (ℕ × List ℕ)) → net.ends ≡ size → m < size → HasRoom net m 1 → LowersNoSpare net after → IsSingle size out → (to : ℕ) → length (sent_to to out) ≤ spare_of after m to
room net after m size out ends inside has lowers single to = ⊎_elim
    (λ l. let one = has to (subst (λ k. m < k) (sym ends) inside) (subst (λ k. to < k) (sym ends) l) in
    let few = single.few to in let less = lowers m to in omega (arith, one, few, less))
    (λ l. subst (λ xs. length xs ≤ spare_of after m to) (sym (single.within to l)) (omega arith))
    (order to size)
