-- A message is lost, or in flight once more, where there is one.
use Rattle.std.proofs.Common.{◌≡◌, ℕ, zero, suc, ◌<◌, ◌≤◌, ◌↔◌, Bool, IsTrue, true, false, cond, ◌&&◌, ◌==◌, List, [], ◌∷◌, ◌++◌, length, remove, Option, Some, slice_get, refl, ap, sym, ◌∙◌, subst, arith, inl, inr, ◌⊎◌, append-nil}
use Rattle.std.specs.Option.{option_to_list}
use Rattle.std.proofs.lemmas.List.{length-map}
use Rattle.std.proofs.lemmas.Option.{slice_get_past}
use Rattle.partition_protocol.specs.Messages.{Message, Packet}
use Rattle.partition_protocol.specs.World.{World as Machine}
use Rattle.partition_protocol.specs.Links.{link, is_on, taken_out, with_packets}
use Rattle.partition_protocol.specs.Events.{Event, Happened as HappenedThere, NothingDone, Done, Lose, Repeat, nothing, done, happens}
use Rattle.partition_protocol.specs.Claims.{IsLawful}
use Rattle.partition_protocol.proofs.Lists.{In, in_cases, in_contains, cases}
use Rattle.partition_protocol.proofs.Histories.{filter_in}
use Rattle.partition_protocol.proofs.Events.{get_in}
use Rattle.partition_protocol.proofs.RowFacts.{same_number, both_left, both_right}
use Rattle.partition_protocol.proofs.EventFacts.{lose_there, repeat_there, no_packet}
use Rattle.partition_protocol.proofs.LinkFacts.{packet}
use Rattle.link_net.specs.Links.{Net, HasLists, list_of, except}
use Rattle.partition_world.specs.declared.world.World.{World}
use Rattle.partition_world.specs.declared.event.Happened.TheVariants as happened
use Rattle.grid_base.specs.Shelves.{Meaning}
use Rattle.partition_world.specs.Shelves.{IsShelf}
use Rattle.partition_world.specs.InFlight.{bytes_of}
use Rattle.partition_world.specs.Sending.{HasFit, flying}
use Rattle.partition_world.specs.Worlds.{run_of, Comes, HasRun}
use Rattle.partition_world.proofs.Comings as comings
use Rattle.partition_world.proofs.EffectsLead.{lawful, Stood}
use Rattle.partition_world.proofs.LinkBytes as bytes
use Rattle.partition_world.proofs.Places.{there_at}
use Rattle.partition_world.proofs.Quiet as quiet
use Rattle.partition_protocol.specs.Recorded.{Recorded}

pub remove_past : {X : Type 0} (xs : List X) (i : ℕ) → length xs ≤ i → remove xs i ≡ xs
remove_past [] zero past = refl
remove_past [] (suc i) past = refl
remove_past (x ∷ xs) zero past = absurd (omega (arith, past))
remove_past (x ∷ xs) (suc i) past = ap (λ ys. x ∷ ys) (remove_past xs i (omega (arith, past)))

-- a test that is false tells that the place is past the last one
pub none_past : (tells : Bool) (i n : ℕ) → IsTrue tells ↔ (i < n) → tells ≡ false → n ≤ i
none_past tells i n e off = go (grind arith)
  where
    go : (i < n) ⊎ (n ≤ i) → n ≤ i
    go (inl l) = absurd (let z : true ≡ false = sym (e.1 l) ∙ off in cc)
    go (inr l) = l

pub except_same : {X : Type 0} (f t : ℕ) (x y : X) (a b : ℕ → ℕ → X) → x ≡ y → ((g h : ℕ) → a g h ≡ b g h) → (g h : ℕ) → except f t x a g h ≡ except f t y b g h
except_same f t x y a b e same g h = ap (λ z. except f t z a g h) e ∙ ap (λ z. cond ((g == f) && (h == t)) y z) (same g h)

-- a pair that has its own list is no exception
pub except_itself : {X : Type 0} (f t : ℕ) (x : X) (a : ℕ → ℕ → X) → x ≡ a f t → (g h : ℕ) → except f t x a g h ≡ a g h
except_itself {X = X} f t x a e g h = go (cases ((g == f) && (h == t)))
  where
    go : (((g == f) && (h == t)) ≡ true) ⊎ (((g == f) && (h == t)) ≡ false) → except f t x a g h ≡ a g h
    go (inl on) =
        ap (λ b. cond b x (a g h)) on ∙ e ∙ ap (λ z. a z t) (sym (same_number g f (both_left (g == f) (h == t) on)))
        ∙ ap (a g) (sym (same_number h t (both_right (g == f) (h == t) on)))
    go (inr off) = ap (λ b. cond b x (a g h)) off

module _ {S R Plan C State : Type 0} (k : Meaning S C State) (records : R → Recorded C → Type 0) (limits : C → Type 0) (within : ℕ → State → Type 0) (applied : List ℕ → State → Option State) (shelf : IsShelf k limits within applied)
    (world : World S R Plan C) (events : List (Event C)) (f t i : ℕ) where
  abbrev pub w : Machine C
  w = run_of k world events

  -- with other links
  abbrev pub over : Net → World S R Plan C
  over net = record world { links = net }

  module _ (event : Event C) (comes : Comes k records limits world events event) (net : Net) (ends : net.ends ≡ world.links.ends) where
    abbrev pub next : Machine C
    next = (happens k.object w event).world

    law : IsLawful k.object
    law = lawful k limits within applied shelf

    stood : Stood k.object limits within w
    stood = comings.stood k records limits within applied shelf world events event comes

    -- the code's lists are those in flight
    pub in_flight : (g h : ℕ) → list_of world.links g h ≡ flying k w g h
    in_flight g h = comes.stands.agrees.links g h

    pub many : length (list_of world.links f t) ≡ length (link f t w.packets)
    many = ap (λ xs. length xs) (in_flight f t) ∙ length-map (link f t w.packets) (bytes_of k w)

    pub still_fits : ((p : Packet) → In p next.packets → In p w.packets) → HasFit k next
    still_fits old p c = bytes.fits_stay k law w stood.good stood.led event comes.stands.agrees.fit p (old p (in_contains p next.packets c))

    -- where there is none, nothing happens
    pub still : happens k.object w event ≡ nothing w → HasLists net (list_of world.links) → HasRun k records world (over net) events event happened.Nothing
    still h lists =
        quiet.unmoved k records limits within applied shelf world events event comes NothingDone h (over net) happened.Nothing refl
        (record { setup = refl; members = refl; size = refl; crashed = refl; service = refl; ends = ends; links = lists; recorded = comes.stands.agrees.recorded }) refl

    pub with_others : (ps : List Packet) → happens k.object w event ≡ done (with_packets w ps) → HasLists net (flying k next) → HasFit k next → HasRun k records world (over net) events event happened.Done
    with_others ps h lists fit =
        quiet.packets_run k records limits within applied shelf world events event comes ps Done h (over net) happened.Done refl refl refl refl refl refl ends comes.stands.agrees.recorded lists fit refl

  -- the message at a place that the code's list has
  pub there : (event : Event C) (comes : Comes k records limits world events event) → i < length (list_of world.links f t) → (msg : Message) × (slice_get (link f t w.packets) i ≡ Some (packet f t msg))
  there event comes l =
      let inside : i < length (flying k w f t) = subst (λ n. i < n) (ap (λ xs. length xs) (comes.stands.agrees.links f t)) l in
      let read = there_at (flying k w f t) i inside in
      let at = bytes.at_link k w f t i read.0 read.1 in
      (at.0, at.1)

  module _ (comes : Comes k records limits world events (Lose f t i)) (net : Net) (ends : net.ends ≡ world.links.ends) (lists : HasLists net (except f t (remove (list_of world.links f t) i) (list_of world.links))) where
    pub lost : i < length (list_of world.links f t) → HasRun k records world (over net) events (Lose f t i) happened.Done
    lost l =
        let m = there (Lose f t i) comes l in
        let h = lose_there k.object w f t i m.0 m.1 in
        let others : (next (Lose f t i) comes net ends).packets ≡ taken_out f t i w.packets = ap (λ (x : HappenedThere C). x.world.packets) h in
        with_others (Lose f t i) comes net ends (taken_out f t i w.packets) h
        (λ g h. lists g h
        ∙ except_same f t (remove (list_of world.links f t) i) (remove (flying k w f t) i) (list_of world.links) (flying k w) (ap (λ xs. remove xs i) (in_flight (Lose f t i) comes net ends f t)) (in_flight (Lose f t i) comes net ends) g h
        ∙ sym (bytes.lost_lists k (law (Lose f t i) comes net ends) w (stood (Lose f t i) comes net ends).good (stood (Lose f t i) comes net ends).led (Lose f t i) f t i others g h))
        (still_fits (Lose f t i) comes net ends
        (λ p j. bytes.taken_in k (law (Lose f t i) comes net ends) w (stood (Lose f t i) comes net ends).good (stood (Lose f t i) comes net ends).led (Lose f t i) f t i w.packets p (subst (In p) others j)))

    pub not_lost : length (list_of world.links f t) ≤ i → HasRun k records world (over net) events (Lose f t i) happened.Nothing
    not_lost past =
        still (Lose f t i) comes net ends
        (no_packet w f t i (λ p. done (with_packets w (taken_out f t i w.packets))) (subst (λ n. n ≤ i) (many (Lose f t i) comes net ends) past))
        (λ g h. lists g h ∙ except_itself f t (remove (list_of world.links f t) i) (list_of world.links) (remove_past (list_of world.links f t) i past) g h)

  module _ (comes : Comes k records limits world events (Repeat f t i)) (net : Net) (ends : net.ends ≡ world.links.ends)
      (lists : HasLists net (except f t (list_of world.links f t ++ option_to_list (slice_get (list_of world.links f t) i)) (list_of world.links))) where
    pub repeated : i < length (list_of world.links f t) → HasRun k records world (over net) events (Repeat f t i) happened.Done
    repeated l =
        let m = there (Repeat f t i) comes l in
        let h = repeat_there k.object w f t i m.0 m.1 in
        let others : (next (Repeat f t i) comes net ends).packets ≡ w.packets ++ packet f t m.0 ∷ [] = ap (λ (x : HappenedThere C). x.world.packets) h in
        with_others (Repeat f t i) comes net ends (w.packets ++ packet f t m.0 ∷ []) h
        (λ g h. lists g h
        ∙ except_same f t (list_of world.links f t ++ option_to_list (slice_get (list_of world.links f t) i)) (flying k w f t ++ option_to_list (slice_get (flying k w f t) i)) (list_of world.links) (flying k w)
        (ap (λ xs. xs ++ option_to_list (slice_get xs i)) (in_flight (Repeat f t i) comes net ends f t)) (in_flight (Repeat f t i) comes net ends) g h
        ∙ sym (bytes.repeated_lists k (law (Repeat f t i) comes net ends) w (stood (Repeat f t i) comes net ends).good (stood (Repeat f t i) comes net ends).led (Repeat f t i) f t i m.0 m.1 others g h))
        (still_fits (Repeat f t i) comes net ends (λ p j. old m.0 m.1 p (in_cases p w.packets (packet f t m.0 ∷ []) (subst (In p) others j))))
      where
        old : (msg : Message) → slice_get (link f t w.packets) i ≡ Some (packet f t msg) → (p : Packet) → In p w.packets ⊎ In p (packet f t msg ∷ []) → In p w.packets
        old msg at p (inl j) = j
        old msg at p (inr (inl e)) = subst (λ q. In q w.packets) e (filter_in (is_on f t) w.packets (packet f t msg) (get_in (link f t w.packets) i (packet f t msg) at)).0
        old msg at p (inr (inr j)) = absurd j

    pub not_repeated : length (list_of world.links f t) ≤ i → HasRun k records world (over net) events (Repeat f t i) happened.Nothing
    not_repeated past =
        still (Repeat f t i) comes net ends (no_packet w f t i (λ p. done (with_packets w (w.packets ++ p ∷ []))) (subst (λ n. n ≤ i) (many (Repeat f t i) comes net ends) past))
        (λ g h. lists g h
        ∙ except_itself f t (list_of world.links f t ++ option_to_list (slice_get (list_of world.links f t) i)) (list_of world.links)
        (ap (λ x. list_of world.links f t ++ option_to_list x) (slice_get_past (list_of world.links f t) i past) ∙ append-nil (list_of world.links f t)) g h)
