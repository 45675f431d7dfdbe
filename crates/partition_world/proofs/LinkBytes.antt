-- The bytes on each link, as a message is taken from one, lost or repeated there, and as others are sent.
use Rattle.std.proofs.Common.{◌≡◌, ◌≢◌, ℕ, zero, suc, Bool, true, false, cond, ◌&&◌, ◌==◌, List, [], ◌∷◌, ◌++◌, map, length, Some, slice_get, refl, ap, sym, ◌∙◌, subst, ◌⊎◌, inl, inr}
use Rattle.std.specs.List.{remove}
use Rattle.std.specs.Option.{option_to_list}
use Rattle.link_net.specs.Links.{except, sent_to, with_sent}
use Rattle.partition_protocol.specs.Messages.{Message, Sent, Packet}
use Rattle.partition_protocol.specs.World.{World as Machine}
use Rattle.partition_protocol.specs.Links.{link, is_on, taken_out, packets_from}
use Rattle.partition_protocol.specs.Events.{Event, happens}
use Rattle.partition_protocol.specs.Claims.{IsLawful}
use Rattle.partition_protocol.proofs.Lists.{In, in_contains, contains_in, in_cases, Every, every_from_in, cases}
use Rattle.partition_protocol.proofs.Histories.{filter_in}
use Rattle.partition_protocol.proofs.RowFacts.{same_number, number_same, number_other, number_cases, both_left, both_right}
use Rattle.partition_protocol.proofs.Events.{Good, get_in}
use Rattle.partition_protocol.proofs.Effects.{Led}
use Rattle.partition_protocol.proofs.Answers.{map_append}
use Rattle.partition_protocol.proofs.Theorem.{get_map, map_get}
use Rattle.partition_protocol.proofs.LinkFacts.{packet, messages_to, link_append, link_on, link_off, link_taken, link_taken_other, link_sent_other, on_ends, off_others}
use Rattle.member_wire.specs.Said.{Contents, said_with, written}
use Rattle.member_wire.specs.Spelling.{spelling, LengthsFit}
use Rattle.grid_base.specs.Shelves.{Meaning}
use Rattle.partition_world.specs.InFlight.{contents_in, bytes_of}
use Rattle.partition_world.specs.Sending.{IsNamed, flying, HasFit}
use Rattle.partition_world.proofs.InFlight.{bytes_stay, said_stays}
use Rattle.partition_world.proofs.Sending.{named_written}
use Rattle.partition_world.proofs.FewOnLinks.{count_to}

pub map_remove : {X Y : Type 0} (f : X → Y) (xs : List X) (i : ℕ) → map f (remove xs i) ≡ remove (map f xs) i
map_remove f [] zero = refl
map_remove f [] (suc i) = refl
map_remove f (x ∷ xs) zero = refl
map_remove f (x ∷ xs) (suc i) = ap (λ ys. f x ∷ ys) (map_remove f xs i)

pub map_same : {X Y : Type 0} (f g : X → Y) (xs : List X) → Every (λ x. f x ≡ g x) xs → map f xs ≡ map g xs
map_same f g [] h = refl
map_same f g (x ∷ xs) h = ap (λ y. y ∷ map f xs) h.0 ∙ ap (λ ys. g x ∷ ys) (map_same f g xs h.1)

-- what goes to one end, of messages that are written, is as many as of those that are sent
pub sent_count : (contents : Contents) (h : ℕ) (ss : List Sent) → length (sent_to h (map (written contents) ss)) ≡ count_to h ss
sent_count contents h [] = refl
sent_count contents h (s ∷ ss) = go (s.to == h) (sent_count contents h ss)
  where
    go : (b : Bool) → length (sent_to h (map (written contents) ss)) ≡ count_to h ss
        → length (cond b (spelling (said_with contents s.message) ∷ sent_to h (map (written contents) ss)) (sent_to h (map (written contents) ss))) ≡ length (cond b (s.message ∷ messages_to h ss) (messages_to h ss))
    go true e = ap (λ n. suc n) e
    go false e = e

module _ {S C State : Type 0} (k : Meaning S C State) (u : Machine C) where
  -- the bytes of what member m sends, on each link
  pub sent_bytes : (m h : ℕ) (ss : List Sent) → map (bytes_of k u) (link m h (packets_from m ss)) ≡ sent_to h (map (written (contents_in k u)) ss)
  sent_bytes m h [] = refl
  sent_bytes m h (s ∷ ss) = go (cases (s.to == h)) (sent_bytes m h ss)
    where
      p : Packet
      p = packet m s.to s.message

      go : ((s.to == h) ≡ true) ⊎ ((s.to == h) ≡ false) → map (bytes_of k u) (link m h (packets_from m ss)) ≡ sent_to h (map (written (contents_in k u)) ss)
          → map (bytes_of k u) (link m h (packets_from m (s ∷ ss))) ≡ sent_to h (map (written (contents_in k u)) (s ∷ ss))
      go (inl e) z =
          ap (map (bytes_of k u)) (link_on m h (packet m s.to s.message) (packets_from m ss) (rw (number_same m m refl, e) refl))
          ∙ ap (λ bs. bytes_of k u (packet m s.to s.message) ∷ bs) z ∙ sym (rw (sent_to, e) refl)
      go (inr e) z =
          ap (map (bytes_of k u)) (link_off m h (packet m s.to s.message) (packets_from m ss) (rw (number_same m m refl, e) refl))
          ∙ z ∙ sym (rw (sent_to, e) refl)

  pub sent_on : (m g h : ℕ) (ss : List Sent) → map (bytes_of k u) (link g h (packets_from m ss)) ≡ cond (g == m) (sent_to h (map (written (contents_in k u)) ss)) []
  sent_on m g h ss = go (number_cases g m)
    where
      go : (g ≡ m) ⊎ (g ≢ m) → map (bytes_of k u) (link g h (packets_from m ss)) ≡ cond (g == m) (sent_to h (map (written (contents_in k u)) ss)) []
      go (inl e) = ap (λ z. map (bytes_of k u) (link z h (packets_from m ss))) e ∙ sent_bytes m h ss ∙ sym (rw (number_same g m e) refl)
      go (inr d) = ap (map (bytes_of k u)) (link_sent_other m g h ss (number_other g m d)) ∙ sym (rw (number_other g m d) refl)

  -- as they come last on their links
  pub with_packets_sent : (ps : List Packet) (m g h : ℕ) (contents : Contents) (ss : List Sent) → Every (IsNamed k u contents) ss
      → map (bytes_of k u) (link g h (ps ++ packets_from m ss)) ≡ map (bytes_of k u) (link g h ps) ++ cond (g == m) (sent_to h (map (written contents) ss)) []
  with_packets_sent ps m g h contents ss named =
      ap (map (bytes_of k u)) (link_append g h ps (packets_from m ss)) ∙ map_append (bytes_of k u) (link g h ps) (link g h (packets_from m ss))
      ∙ ap (λ bs. map (bytes_of k u) (link g h ps) ++ bs) (sent_on m g h ss ∙ ap (λ ms. cond (g == m) (sent_to h ms) []) (sym (named_written k u contents ss named)))

-- a message at a place of a link
module _ {S C State : Type 0} (k : Meaning S C State) (w : Machine C) (f t i : ℕ) where
  pub at_link : (bytes : List ℕ) → slice_get (flying k w f t) i ≡ Some bytes
      → (msg : Message) × (slice_get (link f t w.packets) i ≡ Some (packet f t msg)) × (spelling (said_with (contents_in k w) msg) ≡ bytes)
  at_link bytes e =
      let q = get_map (bytes_of k w) (link f t w.packets) i bytes e in
      let on : is_on f t q.0 ≡ true = (filter_in (is_on f t) w.packets q.0 (get_in (link f t w.packets) i q.0 q.1)).1 in
      (q.0.message, q.1 ∙ ap Some (on_ends f t q.0 on), q.2)

  pub link_at : (msg : Message) → slice_get (link f t w.packets) i ≡ Some (packet f t msg) → slice_get (flying k w f t) i ≡ Some (spelling (said_with (contents_in k w) msg))
  link_at msg e = map_get (bytes_of k w) (link f t w.packets) i (packet f t msg) e

-- an event
module _ {S C State : Type 0} (k : Meaning S C State) (law : IsLawful k.object) (w : Machine C) (good : Good k.object w) (led : Led k.object w) (event : Event C) where
  abbrev pub next : Machine C
  next = (happens k.object w event).world

  -- what was in flight keeps its bytes, and of it what is still there
  pub still_bytes : (ps : List Packet) → ((p : Packet) → In p ps → In p w.packets) → (g h : ℕ) → map (bytes_of k next) (link g h ps) ≡ map (bytes_of k w) (link g h ps)
  still_bytes ps old g h =
      map_same (bytes_of k next) (bytes_of k w) (link g h ps)
      (every_from_in (λ p. bytes_of k next p ≡ bytes_of k w p) (link g h ps) (λ p i. bytes_stay k law w good event led p (old p (filter_in (is_on g h) ps p i).0)))

  pub taken_in : (f t i : ℕ) (ps : List Packet) (p : Packet) → In p (taken_out f t i ps) → In p ps
  taken_in f t zero [] p j = j
  taken_in f t (suc i) [] p j = j
  taken_in f t zero (q ∷ ps) p j = go (is_on f t q) (taken_in f t zero ps p) j
    where
      go : (b : Bool) → (In p (taken_out f t zero ps) → In p ps) → In p (cond b ps (q ∷ taken_out f t zero ps)) → In p (q ∷ ps)
      go true r j = inr j
      go false r (inl e) = inl e
      go false r (inr j) = inr (r j)
  taken_in f t (suc i) (q ∷ ps) p j = go (is_on f t q) (taken_in f t i ps p) (taken_in f t (suc i) ps p) j
    where
      go : (b : Bool) → (In p (taken_out f t i ps) → In p ps) → (In p (taken_out f t (suc i) ps) → In p ps) → In p (cond b (q ∷ taken_out f t i ps) (q ∷ taken_out f t (suc i) ps)) → In p (q ∷ ps)
      go true r s (inl e) = inl e
      go true r s (inr j) = inr (r j)
      go false r s (inl e) = inl e
      go false r s (inr j) = inr (s j)

  -- a message leaves its link
  pub without_taken : (f t i g h : ℕ) → map (bytes_of k next) (link g h (taken_out f t i w.packets)) ≡ except f t (remove (flying k w f t) i) (flying k w) g h
  without_taken f t i g h = still_bytes (taken_out f t i w.packets) (taken_in f t i w.packets) g h ∙ go (cases ((g == f) && (h == t)))
    where
      go : (((g == f) && (h == t)) ≡ true) ⊎ (((g == f) && (h == t)) ≡ false) → map (bytes_of k w) (link g h (taken_out f t i w.packets)) ≡ except f t (remove (flying k w f t) i) (flying k w) g h
      go (inl e) =
          ap (λ z. map (bytes_of k w) (link z h (taken_out f t i w.packets))) (same_number g f (both_left (g == f) (h == t) e))
          ∙ ap (λ z. map (bytes_of k w) (link f z (taken_out f t i w.packets))) (same_number h t (both_right (g == f) (h == t) e))
          ∙ ap (map (bytes_of k w)) (link_taken f t i w.packets) ∙ map_remove (bytes_of k w) (link f t w.packets) i ∙ sym (rw e refl)
      go (inr e) = ap (map (bytes_of k w)) (link_taken_other f t g h i w.packets e) ∙ sym (rw e refl)

  -- it is taken, and others are sent
  pub taken_lists : (f t i m : ℕ) (contents : Contents) (ss : List Sent) → next.packets ≡ taken_out f t i w.packets ++ packets_from m ss → Every (IsNamed k next contents) ss
      → (g h : ℕ) → flying k next g h ≡ with_sent m (map (written contents) ss) (except f t (remove (flying k w f t) i) (flying k w)) g h
  taken_lists f t i m contents ss packets named g h =
      ap (λ ps. map (bytes_of k next) (link g h ps)) packets ∙ with_packets_sent k next (taken_out f t i w.packets) m g h contents ss named
      ∙ ap (λ bs. bs ++ cond (g == m) (sent_to h (map (written contents) ss)) []) (without_taken f t i g h)

  -- it is lost, or dropped
  pub lost_lists : (f t i : ℕ) → next.packets ≡ taken_out f t i w.packets → (g h : ℕ) → flying k next g h ≡ except f t (remove (flying k w f t) i) (flying k w) g h
  lost_lists f t i packets g h = ap (λ ps. map (bytes_of k next) (link g h ps)) packets ∙ without_taken f t i g h

  -- messages are sent, or none
  pub sent_lists : (m : ℕ) (contents : Contents) (ss : List Sent) → next.packets ≡ w.packets ++ packets_from m ss → Every (IsNamed k next contents) ss
      → (g h : ℕ) → flying k next g h ≡ with_sent m (map (written contents) ss) (flying k w) g h
  sent_lists m contents ss packets named g h =
      ap (λ ps. map (bytes_of k next) (link g h ps)) packets ∙ with_packets_sent k next w.packets m g h contents ss named
      ∙ ap (λ bs. bs ++ cond (g == m) (sent_to h (map (written contents) ss)) []) (still_bytes w.packets (λ p j. j) g h)

  pub same_lists : next.packets ≡ w.packets → (g h : ℕ) → flying k next g h ≡ flying k w g h
  same_lists packets g h = ap (λ ps. map (bytes_of k next) (link g h ps)) packets ∙ still_bytes w.packets (λ p j. j) g h

  -- a message is in flight once more
  pub repeated_lists : (f t i : ℕ) (msg : Message) → slice_get (link f t w.packets) i ≡ Some (packet f t msg) → next.packets ≡ w.packets ++ packet f t msg ∷ []
      → (g h : ℕ) → flying k next g h ≡ except f t (flying k w f t ++ option_to_list (slice_get (flying k w f t) i)) (flying k w) g h
  repeated_lists f t i msg at packets g h =
      ap (λ ps. map (bytes_of k next) (link g h ps)) packets ∙ still_bytes (w.packets ++ packet f t msg ∷ []) old g h
      ∙ ap (map (bytes_of k w)) (link_append g h w.packets (packet f t msg ∷ [])) ∙ map_append (bytes_of k w) (link g h w.packets) (link g h (packet f t msg ∷ []))
      ∙ go (cases ((g == f) && (h == t)))
    where
      there : In (packet f t msg) w.packets
      there = (filter_in (is_on f t) w.packets (packet f t msg) (get_in (link f t w.packets) i (packet f t msg) at)).0

      old : (p : Packet) → In p (w.packets ++ packet f t msg ∷ []) → In p w.packets
      old p j = of_both (in_cases p w.packets (packet f t msg ∷ []) j)
        where
          of_both : In p w.packets ⊎ In p (packet f t msg ∷ []) → In p w.packets
          of_both (inl j) = j
          of_both (inr (inl e)) = subst (λ q. In q w.packets) e there
          of_both (inr (inr j)) = absurd j

      on_it : link f t (packet f t msg ∷ []) ≡ packet f t msg ∷ []
      on_it = link_on f t (packet f t msg) [] (rw (number_same f f refl, number_same t t refl) refl)

      go : (((g == f) && (h == t)) ≡ true) ⊎ (((g == f) && (h == t)) ≡ false)
          → map (bytes_of k w) (link g h w.packets) ++ map (bytes_of k w) (link g h (packet f t msg ∷ [])) ≡ except f t (flying k w f t ++ option_to_list (slice_get (flying k w f t) i)) (flying k w) g h
      go (inl e) =
          ap (λ z. flying k w z h ++ map (bytes_of k w) (link z h (packet f t msg ∷ []))) (same_number g f (both_left (g == f) (h == t) e))
          ∙ ap (λ z. flying k w f z ++ map (bytes_of k w) (link f z (packet f t msg ∷ []))) (same_number h t (both_right (g == f) (h == t) e))
          ∙ ap (λ ps. flying k w f t ++ map (bytes_of k w) ps) on_it
          ∙ ap (λ b. flying k w f t ++ option_to_list b) (sym (link_at k w f t i msg at)) ∙ sym (rw e refl)
      go (inr e) =
          ap (λ ps. flying k w g h ++ map (bytes_of k w) ps) (link_off g h (packet f t msg) [] (off_others f t g h (packet f t msg) refl refl e))
          ∙ append_none (flying k w g h) ∙ sym (rw e refl)
        where
          append_none : (bs : List (List ℕ)) → bs ++ [] ≡ bs
          append_none [] = refl
          append_none (b ∷ bs) = ap (λ cs. b ∷ cs) (append_none bs)

  -- lengths

  -- what was in flight fits still
  pub fits_stay : HasFit k w → (p : Packet) → In p w.packets → LengthsFit (said_with (contents_in k next) p.message)
  fits_stay fit p i = subst LengthsFit (sym (said_stays k law w good event led p i)) (fit p (contains_in p w.packets i))

  -- and what is sent fits, where it fits as it was written
  pub named_fit : (m : ℕ) (contents : Contents) (ss : List Sent) → Every (IsNamed k next contents) ss → Every (λ (s : Sent). LengthsFit (said_with contents s.message)) ss
      → (p : Packet) → In p (packets_from m ss) → LengthsFit (said_with (contents_in k next) p.message)
  named_fit m contents [] named fit p i = absurd i
  named_fit m contents (s ∷ ss) named fit p (inl e) = subst (λ (q : Packet). LengthsFit (said_with (contents_in k next) q.message)) e (subst LengthsFit named.0 fit.0)
  named_fit m contents (s ∷ ss) named fit p (inr i) = named_fit m contents ss named.1 fit.1 p i

  -- so all that is in flight then fits
  pub fits_next : HasFit k w → (ps : List Packet) (m : ℕ) (contents : Contents) (ss : List Sent) → ((p : Packet) → In p ps → In p w.packets) → next.packets ≡ ps ++ packets_from m ss
      → Every (IsNamed k next contents) ss → Every (λ (s : Sent). LengthsFit (said_with contents s.message)) ss → HasFit k next
  fits_next fit ps m contents ss old packets named fits p c = go (in_cases p ps (packets_from m ss) (subst (In p) packets (in_contains p next.packets c)))
    where
      go : In p ps ⊎ In p (packets_from m ss) → LengthsFit (said_with (contents_in k next) p.message)
      go (inl i) = fits_stay fit p (old p i)
      go (inr i) = named_fit m contents ss named fits p i
