-- The code shows the machine as one of them changes.
use Rattle.std.proofs.Common.{◌≡◌, ◌≢◌, ℕ, zero, suc, ◌<◌, Bool, true, false, cond, ◌&&◌, ◌==◌, List, [], ◌∷◌, ◌++◌, map, length, take, remove, Some, slice_get, slice_set, refl, ap, sym, ◌∙◌, subst, ◌⊎◌, ⊎_elim, append-nil, inl, inr, true≢false}
use Rattle.std.specs.Prelude.{vec_len}
use Rattle.std.specs.List.{AllByRecursion}
use Rattle.partition_protocol.proofs.Lists.{cases, Every, every_append, set_get_same, set_get_other, set_itself}
use Rattle.partition_protocol.proofs.RowFacts.{number_cases, number_same, number_other, both}
use Rattle.partition_protocol.specs.Sequences.{IsFrontOf}
use Rattle.partition_protocol.specs.World.{map_or}
use Rattle.partition_table.specs.Rows.{is_among}
use Rattle.masters_protocol.specs.Members.{Member, Sent, is_stored}
use Rattle.masters_protocol.specs.Machine.{Masters as Machine, Packet, link, taken_out, packets_from, with_packets, with_member, sending, publishing, publishing_at, is_ahead}
use Rattle.masters_protocol.proofs.Events.{every_taken_out}
use Rattle.masters_protocol.proofs.Links.{link_append, link_taken, link_taken_other, link_sent_other, link_on, link_off}
use Rattle.link_net.specs.Links.{HasLists, list_of, except, sent_to, with_sent}
use Rattle.master_wire.specs.declared.decision.Decision.{Decision}
use Rattle.master_wire.specs.Spelling.{spelling, IsSpelled}
use Rattle.master_member.specs.Steps.{written, AreWritten}
use Rattle.master_log.specs.declared.masters.Masters.{Masters}
use Rattle.master_log.specs.Standing.{flying, log_at, has_crashed, Shows}
use Rattle.master_log.proofs.Whole.{take_front}

pub every_from : {X : Type 0} (P : X → Type 0) (xs : List X) → AllByRecursion P xs → Every P xs
every_from P [] h = tt
every_from P (x ∷ xs) h = (h.0, every_from P xs h.1)

pub all_from : {X : Type 0} (P : X → Type 0) (xs : List X) → Every P xs → AllByRecursion P xs
all_from P [] h = tt
all_from P (x ∷ xs) h = (h.0, all_from P xs h.1)

off_left : (a b : Bool) → a ≡ false → (a && b) ≡ false
off_left true b e = absurd (true≢false e)
off_left false b e = refl

off_right : (a b : Bool) → b ≡ false → (a && b) ≡ false
off_right true b e = e
off_right false b e = refl

abbrev pub spells : Packet Decision → List ℕ
spells p = spelling p.message

-- what is sent comes last on its links

sent_more : (m f t : ℕ) (s : Sent Decision) (ss : List (Sent Decision)) → m ≡ f → map spells (link f t (packets_from m ss)) ≡ sent_to t (map written ss) → map spells (link f t (packets_from m (s ∷ ss))) ≡ sent_to t (map written (s ∷ ss))
sent_more m f t s ss e ih = ⊎_elim
    (λ here. ap (map spells) (link_on f t p (packets_from m ss) (both (m == f) (s.to == t) from here)) ∙ ap (λ zs. spelling s.message ∷ zs) ih ∙ sym (ap (λ b. cond b (spelling s.message ∷ sent_to t (map written ss)) (sent_to t (map written ss))) here))
    (λ off. ap (map spells) (link_off f t p (packets_from m ss) (off_right (m == f) (s.to == t) off)) ∙ ih ∙ sym (ap (λ b. cond b (spelling s.message ∷ sent_to t (map written ss)) (sent_to t (map written ss))) off))
    (cases (s.to == t))
  where
    p : Packet Decision
    p = record { from = m; to = s.to; message = s.message }

    from : (m == f) ≡ true
    from = number_same m f e

sent_on : (m f t : ℕ) (ss : List (Sent Decision)) → m ≡ f → map spells (link f t (packets_from m ss)) ≡ sent_to t (map written ss)
sent_on m f t [] e = refl
sent_on m f t (s ∷ ss) e = sent_more m f t s ss e (sent_on m f t ss e)

module _ (w : Machine Decision) (m : ℕ) (ss : List (Sent Decision)) where
  pub flying_sent : (f t : ℕ) → flying (sending w m ss) f t ≡ with_sent m (map written ss) (flying w) f t
  flying_sent f t = ap (map spells) (link_append f t w.packets (packets_from m ss)) ∙ map_append (link f t w.packets) (link f t (packets_from m ss)) ∙ ap (λ zs. flying w f t ++ zs) (go (number_cases f m))
    where
      map_append : (xs ys : List (Packet Decision)) → map spells (xs ++ ys) ≡ map spells xs ++ map spells ys
      map_append [] ys = refl
      map_append (x ∷ xs) ys = ap (λ zs. spells x ∷ zs) (map_append xs ys)

      go : (f ≡ m) ⊎ (f ≢ m) → map spells (link f t (packets_from m ss)) ≡ cond (f == m) (sent_to t (map written ss)) []
      go (inl e) = sent_on m f t ss (sym e) ∙ sym (ap (λ b. cond b (sent_to t (map written ss)) []) (number_same f m e))
      go (inr d) = ap (map spells) (link_sent_other m f t ss d) ∙ sym (ap (λ b. cond b (sent_to t (map written ss)) []) (number_other f m d))

  pub spelled_sent : AllByRecursion (λ (p : Packet Decision). IsSpelled p.message) w.packets → AllByRecursion (λ (s : Sent Decision). IsSpelled s.message) ss → AllByRecursion (λ (p : Packet Decision). IsSpelled p.message) (sending w m ss).packets
  spelled_sent h g = all_from _ (sending w m ss).packets (every_append (λ (p : Packet Decision). IsSpelled p.message) w.packets (packets_from m ss) (every_from _ w.packets h) (each ss g))
    where
      each : (xs : List (Sent Decision)) → AllByRecursion (λ (s : Sent Decision). IsSpelled s.message) xs → Every (λ (p : Packet Decision). IsSpelled p.message) (packets_from m xs)
      each [] g = tt
      each (x ∷ xs) g = (g.0, each xs g.1)

-- a message leaves its link

module _ (w : Machine Decision) (f t i : ℕ) where
  abbrev pub less : Machine Decision
  less = with_packets w (taken_out f t i w.packets)

  pub flying_taken : (g h : ℕ) → flying less g h ≡ except f t (remove (flying w f t) i) (flying w) g h
  flying_taken g h = go (number_cases g f) (number_cases h t)
    where
      map_remove : (xs : List (Packet Decision)) (k : ℕ) → map spells (remove xs k) ≡ remove (map spells xs) k
      map_remove [] zero = refl
      map_remove [] (suc k) = refl
      map_remove (x ∷ xs) zero = refl
      map_remove (x ∷ xs) (suc k) = ap (λ zs. spells x ∷ zs) (map_remove xs k)

      other : (g ≢ f) ⊎ (h ≢ t) → ((g == f) && (h == t)) ≡ false → flying less g h ≡ except f t (remove (flying w f t) i) (flying w) g h
      other d e = ap (map spells) (link_taken_other f t g h i w.packets d) ∙ sym (ap (λ b. cond b (remove (flying w f t) i) (flying w g h)) e)

      go : (g ≡ f) ⊎ (g ≢ f) → (h ≡ t) ⊎ (h ≢ t) → flying less g h ≡ except f t (remove (flying w f t) i) (flying w) g h
      go (inl a) (inl b) = subst (λ x. flying less x h ≡ except f t (remove (flying w f t) i) (flying w) x h) (sym a) (subst (λ y. flying less f y ≡ except f t (remove (flying w f t) i) (flying w) f y) (sym b)
          (ap (map spells) (link_taken f t i w.packets) ∙ map_remove (link f t w.packets) i ∙ sym (ap (λ c. cond c (remove (flying w f t) i) (flying w f t)) (both (f == f) (t == t) (number_same f f refl) (number_same t t refl)))))
      go (inr d) b = other (inl d) (off_left (g == f) (h == t) (number_other g f d))
      go (inl a) (inr d) = other (inr d) (off_right (g == f) (h == t) (number_other h t d))

  pub spelled_taken : AllByRecursion (λ (p : Packet Decision). IsSpelled p.message) w.packets → AllByRecursion (λ (p : Packet Decision). IsSpelled p.message) less.packets
  spelled_taken h = all_from _ less.packets (every_taken_out (λ (p : Packet Decision). IsSpelled p.message) f t i w.packets (every_from _ w.packets h))

-- the code's steps

module _ (old : Masters) (w : Machine Decision) (shows : Shows old w) where
  -- other room on the links
  pub with_links : (new : Masters) → new ≡ record old { links = new.links } → new.links.ends ≡ old.links.ends → HasLists new.links (list_of old.links) → Shows new w
  with_links new is ends lists = subst (λ x. Shows x w) (sym is) (record {
    size = shows.size;
    count = shows.count;
    members = shows.members;
    marks = shows.marks;
    crashed = shows.crashed;
    ends = ends ∙ shows.ends;
    links = λ f t. lists f t ∙ shows.links f t;
    spelled = shows.spelled;
    publisher = shows.publisher;
    length = shows.length;
    published = shows.published;
  })

  -- a member changes, in whose log what is published stands
  module _ (m : ℕ) (n : Member Decision) (at : slice_get w.members m ≡ Some n) (n' : Member Decision) (front : IsFrontOf w.published n'.log) where
    pub publisher_keeps : take old.published (log_at (with_member w m n') old.publisher) ≡ w.published
    publisher_keeps = go (number_cases old.publisher m)
      where
        go : (old.publisher ≡ m) ⊎ (old.publisher ≢ m) → take old.published (log_at (with_member w m n') old.publisher) ≡ w.published
        go (inl e) = ap (λ k. take old.published (log_at (with_member w m n') k)) e ∙ ap (λ o. take old.published (map_or o [] (λ (x : Member Decision). x.log))) (set_get_same w.members m n' n at) ∙ take_front w.published n'.log old.published front shows.length
        go (inr d) = ap (λ o. take old.published (map_or o [] (λ (x : Member Decision). x.log))) (set_get_other w.members m old.publisher n' d) ∙ shows.published

    pub member_shows : (new : Masters) → new.size ≡ old.size → vec_len new.members ≡ vec_len old.members → new.members.items ≡ slice_set old.members.items m n' → new.crashed ≡ old.crashed → new.publisher ≡ old.publisher → new.published ≡ old.published
        → new.links.ends ≡ old.links.ends → HasLists new.links (list_of old.links) → Shows new (with_member w m n')
    member_shows new size count members crashed publisher published ends lists = record {
      size = size ∙ shows.size;
      count = count ∙ shows.count;
      members = members ∙ ap (λ ms. slice_set ms m n') shows.members;
      marks = ap (λ c. vec_len c) crashed ∙ shows.marks;
      crashed = λ k. ap (λ c. has_crashed c.items k) crashed ∙ shows.crashed k;
      ends = ends ∙ shows.ends;
      links = λ f t. lists f t ∙ shows.links f t;
      spelled = shows.spelled;
      publisher = subst (λ k. k < w.size) (sym publisher) shows.publisher;
      length = published ∙ shows.length;
      published = ap (λ k. take new.published (log_at (with_member w m n') k)) publisher ∙ ap (λ k. take k (log_at (with_member w m n') old.publisher)) published ∙ publisher_keeps;
    }

  -- want of memory leaves it as it was
  pub again_shows : (m : ℕ) (n : Member Decision) → slice_get w.members m ≡ Some n → (new : Masters) → new.size ≡ old.size → vec_len new.members ≡ vec_len old.members → new.members.items ≡ slice_set old.members.items m n → new.crashed ≡ old.crashed → new.publisher ≡ old.publisher → new.published ≡ old.published
      → new.links.ends ≡ old.links.ends → HasLists new.links (list_of old.links) → Shows new w
  again_shows m n at new size count members crashed publisher published ends lists = record {
    size = size ∙ shows.size;
    count = count ∙ shows.count;
    members = members ∙ ap (λ ms. slice_set ms m n) shows.members ∙ set_itself w.members m n at;
    marks = ap (λ c. vec_len c) crashed ∙ shows.marks;
    crashed = λ k. ap (λ c. has_crashed c.items k) crashed ∙ shows.crashed k;
    ends = ends ∙ shows.ends;
    links = λ f t. lists f t ∙ shows.links f t;
    spelled = shows.spelled;
    publisher = subst (λ k. k < w.size) (sym publisher) shows.publisher;
    length = published ∙ shows.length;
    published = ap (λ k. take new.published (log_at w k)) publisher ∙ ap (λ k. take k (log_at w old.publisher)) published ∙ shows.published;
  }

  -- a member has crashed
  pub crashed_shows : (m : ℕ) (new : Masters) → ((k : ℕ) → has_crashed new.crashed.items k ≡ is_among (w.crashed ++ m ∷ []) k) → vec_len new.crashed ≡ vec_len old.crashed → new.size ≡ old.size → new.members ≡ old.members → new.links ≡ old.links → new.publisher ≡ old.publisher → new.published ≡ old.published
      → Shows new (record w { crashed = w.crashed ++ m ∷ [] })
  crashed_shows m new crashed marks size members links publisher published = record {
    size = size ∙ shows.size;
    count = ap (λ ms. vec_len ms) members ∙ shows.count;
    members = ap (λ ms. ms.items) members ∙ shows.members;
    marks = marks ∙ shows.marks;
    crashed = crashed;
    ends = ap (λ l. l.ends) links ∙ shows.ends;
    links = λ f t. ap (λ l. list_of l f t) links ∙ shows.links f t;
    spelled = shows.spelled;
    publisher = subst (λ k. k < w.size) (sym publisher) shows.publisher;
    length = published ∙ shows.length;
    published = ap (λ k. take new.published (log_at w k)) publisher ∙ ap (λ k. take k (log_at w old.publisher)) published ∙ shows.published;
  }

  -- messages are sent from a member
  pub sent_shows : (new : Masters) (m : ℕ) (ss : List (Sent Decision)) (out : List (ℕ × List ℕ)) → AreWritten out ss → new ≡ record old { links = new.links } → new.links.ends ≡ old.links.ends → HasLists new.links (with_sent m out (list_of old.links)) → Shows new (sending w m ss)
  sent_shows new m ss out wrote is ends lists = subst (λ x. Shows x (sending w m ss)) (sym is) (record {
    size = shows.size;
    count = shows.count;
    members = shows.members;
    marks = shows.marks;
    crashed = shows.crashed;
    ends = ends ∙ shows.ends;
    links = λ f t. lists f t ∙ ap (λ xs. xs ++ cond (f == m) (sent_to t out) []) (shows.links f t) ∙ ap (λ zs. flying w f t ++ cond (f == m) (sent_to t zs) []) wrote.bytes ∙ sym (flying_sent w m ss f t);
    spelled = spelled_sent w m ss shows.spelled wrote.spelled;
    publisher = shows.publisher;
    length = shows.length;
    published = shows.published;
  })

  -- a message leaves its link
  pub taken_shows : (new : Masters) (f t i : ℕ) → new ≡ record old { links = new.links } → new.links.ends ≡ old.links.ends → HasLists new.links (except f t (remove (list_of old.links f t) i) (list_of old.links)) → Shows new (less w f t i)
  taken_shows new f t i is ends lists = subst (λ x. Shows x (less w f t i)) (sym is) (record {
    size = shows.size;
    count = shows.count;
    members = shows.members;
    marks = shows.marks;
    crashed = shows.crashed;
    ends = ends ∙ shows.ends;
    links = λ g h. lists g h ∙ ap (λ xs. cond ((g == f) && (h == t)) (remove xs i) (list_of old.links g h)) (shows.links f t) ∙ ap (λ xs. cond ((g == f) && (h == t)) (remove (flying w f t) i) xs) (shows.links g h) ∙ sym (flying_taken w f t i g h);
    spelled = spelled_taken w f t i shows.spelled;
    publisher = shows.publisher;
    length = shows.length;
    published = shows.published;
  })

  -- a member publishes its log, or doesn't
  module _ (m : ℕ) (n : Member Decision) (at : slice_get w.members m ≡ Some n) where
    pub published_shows : (new : Masters) → new ≡ record old { publisher = m; published = length n.log } → m < w.size → (is_stored w.size m n && is_ahead w n.log) ≡ true → Shows new (publishing w m)
    published_shows new is l e = subst (λ x. Shows x (publishing w m)) (sym is) (subst (Shows (record old { publisher = m; published = length n.log })) (sym (publishing_is ∙ ap (λ b. cond b (record w { published = n.log }) w) e)) (record {
      size = shows.size;
      count = shows.count;
      members = shows.members;
      marks = shows.marks;
      crashed = shows.crashed;
      ends = shows.ends;
      links = shows.links;
      spelled = shows.spelled;
      publisher = l;
      length = refl;
      published = ap (λ o. take (length n.log) (map_or o [] (λ (x : Member Decision). x.log))) at ∙ take_front n.log n.log (length n.log) ([], append-nil n.log) refl;
    }))
      where
        publishing_is : publishing w m ≡ publishing_at w m n
        publishing_is = ap (λ o. map_or o w (publishing_at w m)) at

    pub unpublished_shows : (is_stored w.size m n && is_ahead w n.log) ≡ false → Shows old (publishing w m)
    unpublished_shows e = subst (Shows old) (sym (ap (λ o. map_or o w (publishing_at w m)) at ∙ ap (λ b. cond b (record w { published = n.log }) w) e)) shows
