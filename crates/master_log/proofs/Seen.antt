-- What is read of the code, as the machine has it.
use Rattle.std.proofs.Common.{◌≡◌, ℕ, zero, suc, ◌<◌, ◌≤◌, true, List, [], ◌∷◌, length, take, get_or, Some, slice_get, ap, sym, ◌∙◌, subst, arith}
use Rattle.std.specs.Prelude.{vec_len}
use Rattle.std.proofs.lemmas.List.{length-take}
use Rattle.partition_protocol.specs.World.{map_or}
use Rattle.masters_protocol.specs.Members.{Member}
use Rattle.masters_protocol.specs.Machine.{Masters as Machine, Event, is_live}
use Rattle.masters_protocol.proofs.Ranges.{is_below}
use Rattle.master_wire.specs.declared.decision.Decision.{Decision}
use Rattle.master_log.specs.declared.masters.Masters.{Masters}
use Rattle.master_log.specs.Standing.{StandsFor, run_of, log_at}
use Rattle.master_log.proofs.Agreement.{is_sound}

-- the element that is read at a place stands there
pub stands_there : {X : Type 0} (xs : List X) (k i : ℕ) (x : X) → i ≡ k → k < length xs → x ≡ get_or xs i x → slice_get xs k ≡ Some x
stands_there xs k i x same within e = go xs k within (e ∙ ap (λ n. get_or xs n x) same)
  where
    go : (xs : List _) (k : ℕ) → k < length xs → x ≡ get_or xs k x → slice_get xs k ≡ Some x
    go [] k within e = absurd (omega (arith, within))
    go (y ∷ ys) zero within e = ap Some (sym e)
    go (y ∷ ys) (suc k) within e = go ys k (omega (arith, within)) e

module _ (masters : Masters) (events : List (Event Decision)) (stands : StandsFor masters events) where
  abbrev pub w : Machine Decision
  w = run_of masters events

  pub within : (m : ℕ) → m < w.size → m < length masters.members.items
  within m l = subst (λ ms. m < length ms) (sym stands.shows.members) (subst (λ k. m < k) (sym (is_sound masters events stands).whole) l)

  pub live_within : (m : ℕ) → is_live w m ≡ true → m < w.size
  live_within m e = is_below w m e

  pub size_within : (m : ℕ) → m < w.size → m < vec_len masters.members
  size_within m l = subst (λ k. m < k) (sym stands.shows.count) l

  pub marked_within : (m : ℕ) → m < w.size → m < length masters.crashed.items
  marked_within m l = let e = stands.shows.marks in let k = masters.crashed.ok.0 in omega (arith, l, e, k)

  -- a member that is read is the machine's
  pub member_at : (m i : ℕ) (n : Member Decision) → i ≡ m → m < w.size → n ≡ get_or masters.members.items i n → slice_get w.members m ≡ Some n
  member_at m i n same l read = subst (λ ms. slice_get ms m ≡ Some n) stands.shows.members (stands_there masters.members.items m i n same (within m l) read)

  pub log_is : (m : ℕ) (n : Member Decision) → slice_get w.members m ≡ Some n → log_at w m ≡ n.log
  log_is m n at = ap (λ o. map_or o [] (λ (x : Member Decision). x.log)) at

  -- what is published is no longer than the publisher's log
  pub published_within : masters.published ≤ length (log_at w masters.publisher)
  published_within = let e = length-take masters.published (log_at w masters.publisher) in let f = ap (λ (xs : List Decision). length xs) stands.shows.published in let g = stands.shows.length in omega (arith, e, f, g)

  -- it is a front of that log
  pub published_is : (n : Member Decision) → slice_get w.members masters.publisher ≡ Some n → take masters.published n.log ≡ w.published
  published_is n at = ap (take masters.published) (sym (log_is masters.publisher n at)) ∙ stands.shows.published
