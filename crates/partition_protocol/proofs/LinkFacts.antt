-- The messages on each link, as messages are taken from it and sent.
use Rattle.std.proofs.Common.{◌≡◌, ◌≢◌, ℕ, zero, suc, Bool, true, false, ◌==◌, ◌&&◌, if◌then◌else◌, List, [], ◌∷◌, ◌++◌, map, Some, slice_get, refl, ap, sym, ◌∙◌, ◌⊎◌, inl, inr, append-nil}
use Rattle.std.specs.List.{remove}
use Rattle.partition_protocol.specs.Messages.{Message, Packet, Sent}
use Rattle.partition_protocol.specs.Links.{is_on, link, taken_out, packets_from}
use Rattle.partition_protocol.proofs.Histories.{filter_in}
use Rattle.partition_protocol.proofs.RowFacts.{number_cases, number_same, number_other, same_number, both_left, both_right}
use Rattle.partition_protocol.proofs.Events.{get_in}
use Rattle.partition_protocol.proofs.Theorem.{map_get}

abbrev pub packet : ℕ → ℕ → Message → Packet
packet f t msg = record { from = f; to = t; message = msg }

abbrev pub said : Packet → Message
said p = p.message

-- what of these is for that end
abbrev pub messages_to : ℕ → List Sent → List Message
messages_to h [] = []
messages_to h (s ∷ ss) = if s.to == h then s.message ∷ messages_to h ss else messages_to h ss

pub link_on : (f t : ℕ) (p : Packet) (ps : List Packet) → is_on f t p ≡ true → link f t (p ∷ ps) ≡ p ∷ link f t ps
link_on f t p ps e = rw (link, e) refl

pub link_off : (f t : ℕ) (p : Packet) (ps : List Packet) → is_on f t p ≡ false → link f t (p ∷ ps) ≡ link f t ps
link_off f t p ps e = rw (link, e) refl

-- a link has its messages, between its ends

pub on_ends : (f t : ℕ) (p : Packet) → is_on f t p ≡ true → p ≡ packet f t p.message
on_ends f t p e =
    ap (λ a. packet a p.to p.message) (same_number p.from f (both_left (p.from == f) (p.to == t) e))
    ∙ ap (λ a. packet f a p.message) (same_number p.to t (both_right (p.from == f) (p.to == t) e))

pub packet_at : (f t i : ℕ) (ps : List Packet) (p : Packet) → slice_get (link f t ps) i ≡ Some p → p ≡ packet f t p.message
packet_at f t i ps p e = on_ends f t p (filter_in (is_on f t) ps p (get_in (link f t ps) i p e)).1

pub link_said_at : (f t : ℕ) (p : Packet) (ps : List Packet) (b : Bool) → is_on f t p ≡ b → link f t ps ≡ map (packet f t) (map said (link f t ps)) → link f t (p ∷ ps) ≡ map (packet f t) (map said (link f t (p ∷ ps)))
link_said_at f t p ps true e h = link_on f t p ps e ∙ ap (λ q. q ∷ link f t ps) (on_ends f t p e) ∙ ap (λ qs. packet f t p.message ∷ qs) h ∙ ap (λ qs. map (packet f t) (map said qs)) (sym (link_on f t p ps e))
link_said_at f t p ps false e h = link_off f t p ps e ∙ h ∙ ap (λ qs. map (packet f t) (map said qs)) (sym (link_off f t p ps e))

pub link_said : (f t : ℕ) (ps : List Packet) → link f t ps ≡ map (packet f t) (map said (link f t ps))
link_said f t [] = refl
link_said f t (p ∷ ps) = link_said_at f t p ps (is_on f t p) refl (link_said f t ps)

-- the packet of the message at a place
pub packet_of : (f t i : ℕ) (ps : List Packet) (msg : Message) → slice_get (map said (link f t ps)) i ≡ Some msg → slice_get (link f t ps) i ≡ Some (packet f t msg)
packet_of f t i ps msg e = ap (λ qs. slice_get qs i) (link_said f t ps) ∙ map_get (packet f t) (map said (link f t ps)) i msg e

-- a message is taken out

pub taken_first : (f t : ℕ) (p : Packet) (ps : List Packet) → is_on f t p ≡ true → taken_out f t zero (p ∷ ps) ≡ ps
taken_first f t p ps e = rw (taken_out, e) refl

pub taken_later : (f t i : ℕ) (p : Packet) (ps : List Packet) → is_on f t p ≡ true → taken_out f t (suc i) (p ∷ ps) ≡ p ∷ taken_out f t i ps
taken_later f t i p ps e = rw (taken_out, e) refl

pub taken_past : (f t i : ℕ) (p : Packet) (ps : List Packet) → is_on f t p ≡ false → taken_out f t i (p ∷ ps) ≡ p ∷ taken_out f t i ps
taken_past f t zero p ps e = rw (taken_out, e) refl
taken_past f t (suc i) p ps e = rw (taken_out, e) refl

pub link_taken_at : (f t i : ℕ) (p : Packet) (ps : List Packet) (b : Bool) → is_on f t p ≡ b → ((j : ℕ) → link f t (taken_out f t j ps) ≡ remove (link f t ps) j) → link f t (taken_out f t i (p ∷ ps)) ≡ remove (link f t (p ∷ ps)) i
link_taken_at f t zero p ps true e h = ap (link f t) (taken_first f t p ps e) ∙ ap (λ xs. remove xs 0) (sym (link_on f t p ps e))
link_taken_at f t (suc i) p ps true e h = ap (link f t) (taken_later f t i p ps e) ∙ link_on f t p (taken_out f t i ps) e ∙ ap (λ xs. p ∷ xs) (h i) ∙ ap (λ xs. remove xs (suc i)) (sym (link_on f t p ps e))
link_taken_at f t i p ps false e h = ap (link f t) (taken_past f t i p ps e) ∙ link_off f t p (taken_out f t i ps) e ∙ h i ∙ ap (λ xs. remove xs i) (sym (link_off f t p ps e))

-- it leaves its place
pub link_taken : (f t i : ℕ) (ps : List Packet) → link f t (taken_out f t i ps) ≡ remove (link f t ps) i
link_taken f t zero [] = refl
link_taken f t (suc i) [] = refl
link_taken f t i (p ∷ ps) = link_taken_at f t i p ps (is_on f t p) refl (λ j. link_taken f t j ps)

-- a packet between two ends is on no other link
pub off_others : (f t g h : ℕ) (p : Packet) → p.from ≡ f → p.to ≡ t → ((g == f) && (h == t)) ≡ false → is_on g h p ≡ false
off_others f t g h p from to d = go (number_cases g f) (number_cases h t)
  where
    go : (g ≡ f) ⊎ (g ≢ f) → (h ≡ t) ⊎ (h ≢ t) → is_on g h p ≡ false
    go (inl x) (inl y) = absurd (let z : true ≡ false = sym (rw (number_same g f x, number_same h t y) refl) ∙ d in cc)
    go (inl x) (inr y) = rw (number_same p.from g (from ∙ sym x), number_other p.to h (λ e. y (sym e ∙ to))) refl
    go (inr x) k = rw (number_other p.from g (λ e. x (sym e ∙ from))) refl

pub on_one : (f t g h : ℕ) (p : Packet) → ((g == f) && (h == t)) ≡ false → is_on f t p ≡ true → is_on g h p ≡ false
on_one f t g h p d e = off_others f t g h p (same_number p.from f (both_left (p.from == f) (p.to == t) e)) (same_number p.to t (both_right (p.from == f) (p.to == t) e)) d

pub link_other_at : (f t g h i : ℕ) (p : Packet) (ps : List Packet) (b c : Bool) → is_on f t p ≡ b → is_on g h p ≡ c → (b ≡ true → c ≡ false) → ((j : ℕ) → link g h (taken_out f t j ps) ≡ link g h ps)
    → link g h (taken_out f t i (p ∷ ps)) ≡ link g h (p ∷ ps)
link_other_at f t g h zero p ps true c e k l r = ap (link g h) (taken_first f t p ps e) ∙ sym (link_off g h p ps (k ∙ l refl))
link_other_at f t g h (suc i) p ps true c e k l r = ap (link g h) (taken_later f t i p ps e) ∙ link_off g h p (taken_out f t i ps) (k ∙ l refl) ∙ r i ∙ sym (link_off g h p ps (k ∙ l refl))
link_other_at f t g h i p ps false true e k l r = ap (link g h) (taken_past f t i p ps e) ∙ link_on g h p (taken_out f t i ps) k ∙ ap (λ xs. p ∷ xs) (r i) ∙ sym (link_on g h p ps k)
link_other_at f t g h i p ps false false e k l r = ap (link g h) (taken_past f t i p ps e) ∙ link_off g h p (taken_out f t i ps) k ∙ r i ∙ sym (link_off g h p ps k)

-- and changes no other link
pub link_taken_other : (f t g h i : ℕ) (ps : List Packet) → ((g == f) && (h == t)) ≡ false → link g h (taken_out f t i ps) ≡ link g h ps
link_taken_other f t g h zero [] d = refl
link_taken_other f t g h (suc i) [] d = refl
link_taken_other f t g h i (p ∷ ps) d = link_other_at f t g h i p ps (is_on f t p) (is_on g h p) refl refl (on_one f t g h p d) (λ j. link_taken_other f t g h j ps d)

-- messages are sent

pub link_append_at : (f t : ℕ) (p : Packet) (ps qs : List Packet) (b : Bool) → is_on f t p ≡ b → link f t (ps ++ qs) ≡ link f t ps ++ link f t qs → link f t ((p ∷ ps) ++ qs) ≡ link f t (p ∷ ps) ++ link f t qs
link_append_at f t p ps qs true e h = link_on f t p (ps ++ qs) e ∙ ap (λ xs. p ∷ xs) h ∙ ap (λ xs. xs ++ link f t qs) (sym (link_on f t p ps e))
link_append_at f t p ps qs false e h = link_off f t p (ps ++ qs) e ∙ h ∙ ap (λ xs. xs ++ link f t qs) (sym (link_off f t p ps e))

pub link_append : (f t : ℕ) (ps qs : List Packet) → link f t (ps ++ qs) ≡ link f t ps ++ link f t qs
link_append f t [] qs = refl
link_append f t (p ∷ ps) qs = link_append_at f t p ps qs (is_on f t p) refl (link_append f t ps qs)

-- one message more, on its link and on another
pub link_repeated : (f t : ℕ) (ps : List Packet) (msg : Message) → link f t (ps ++ packet f t msg ∷ []) ≡ link f t ps ++ packet f t msg ∷ []
link_repeated f t ps msg = link_append f t ps (packet f t msg ∷ []) ∙ ap (λ qs. link f t ps ++ qs) (link_on f t (packet f t msg) [] (rw (number_same f f refl, number_same t t refl) refl))

pub link_repeated_other : (f t g h : ℕ) (ps : List Packet) (msg : Message) → ((g == f) && (h == t)) ≡ false → link g h (ps ++ packet f t msg ∷ []) ≡ link g h ps
link_repeated_other f t g h ps msg d =
    link_append g h ps (packet f t msg ∷ []) ∙ ap (λ qs. link g h ps ++ qs) (link_off g h (packet f t msg) [] (off_others f t g h (packet f t msg) refl refl d)) ∙ append-nil (link g h ps)

-- what one end sends stands on its own links
pub link_sent_other : (m g h : ℕ) (ss : List Sent) → (g == m) ≡ false → link g h (packets_from m ss) ≡ []
link_sent_other m g h [] d = refl
link_sent_other m g h (s ∷ ss) d =
    link_off g h (packet m s.to s.message) (packets_from m ss) (rw (number_other m g (λ e. (let z : true ≡ false = sym (number_same g m (sym e)) ∙ d in absurd cc))) refl) ∙ link_sent_other m g h ss d

pub link_sent_at : (m h : ℕ) (s : Sent) (ss : List Sent) (b : Bool) → (s.to == h) ≡ b → map said (link m h (packets_from m ss)) ≡ messages_to h ss → map said (link m h (packets_from m (s ∷ ss))) ≡ messages_to h (s ∷ ss)
link_sent_at m h s ss true e k = ap (map said) (link_on m h (packet m s.to s.message) (packets_from m ss) (rw (number_same m m refl, e) refl)) ∙ ap (λ xs. s.message ∷ xs) k ∙ rw (e, messages_to) refl
link_sent_at m h s ss false e k = ap (map said) (link_off m h (packet m s.to s.message) (packets_from m ss) (rw (number_same m m refl, e) refl)) ∙ k ∙ rw (e, messages_to) refl

-- each message on the link to whom it is for, in order
pub link_sent : (m h : ℕ) (ss : List Sent) → map said (link m h (packets_from m ss)) ≡ messages_to h ss
link_sent m h [] = refl
link_sent m h (s ∷ ss) = link_sent_at m h s ss (s.to == h) refl (link_sent m h ss)
