-- Each member is what its own list of steps makes of it, and so is the service. What was executed and answered only grows.
use Rattle.std.proofs.Common.{◌≡◌, ◌≢◌, ℕ, ◌<◌, Bool, true, false, ◌==◌, List, [], ◌∷◌, ◌++◌, map, filter, Option, Some, None, slice_get, refl, ap, sym, ◌∙◌, subst, ◌⊎◌, inl, inr, arith, append_assoc, append-nil}
use Rattle.std.proofs.lemmas.List.Elements.{filter-append}
use Rattle.grid_base.specs.Objects.{Object}
use Rattle.partition_table.specs.Rows.{initial_row, is_primary}
use Rattle.partition_protocol.specs.Messages.{Sent}
use Rattle.partition_protocol.specs.Execution.{Reached, Executes, PartitionLost, WrongTarget, Migrating, reached}
use Rattle.partition_protocol.specs.Replica.{sent_again}
use Rattle.partition_protocol.specs.Service.{numbers_below}
use Rattle.partition_protocol.specs.World.{map_or}
use Rattle.partition_protocol.specs.Node.{Held}
use Rattle.partition_protocol.specs.History.{Executed, Entry, Called, Reset}
use Rattle.partition_protocol.specs.Sequences.{IsFrontOf}
use Rattle.partition_protocol.proofs.Lists.{In, in_left, in_right, in_cases, in_contains, contains_in, Every, set_get_same, set_get_other, on_if}
use Rattle.partition_protocol.proofs.RowFacts.{in_map, number_same, number_other, number_cases}
use Rattle.partition_protocol.proofs.Extends.{same, front_trans}
use Rattle.partition_protocol.proofs.Theorem.{map_get, get-numbers_below}
use Rattle.apart_protocol.specs.Contents.{Parcel}
use Rattle.apart_protocol.specs.Member.{Member, Own, Receives, Takes, Resends, Done, opening, if_executes, executes, parcels, does, member_after, sent_over, executed_over, released_over}
use Rattle.apart_protocol.specs.Rulings.{Ruled, rules, service_after}
use Rattle.apart_protocol.specs.Machine.{Apart, Step, Acts, Rules, Crash, begin, bare, acted, ruled, goes, after, steps_of, rulings_of}
use Rattle.apart_protocol.specs.Claims.{EveryOneIsByItself, EveryApartRunExtends, whole_after, sent_by}

-- lists

pub filter_all : {X : Type 0} (t : X → Bool) (xs : List X) → Every (λ x. t x ≡ true) xs → filter t xs ≡ xs
filter_all t [] h = refl
filter_all t (x ∷ xs) h = rw (filter, h.0) (ap (λ zs. x ∷ zs) (filter_all t xs h.1))

pub filter_none : {X : Type 0} (t : X → Bool) (xs : List X) → Every (λ x. t x ≡ false) xs → filter t xs ≡ []
filter_none t [] h = refl
filter_none t (x ∷ xs) h = rw (filter, h.0) (filter_none t xs h.1)

-- what a member sends is from it

abbrev pub AreFrom : {C State : Type 0} → ℕ → List (Parcel C State) → Type 0
AreFrom {C} {State} m qs = Every (λ (q : Parcel C State). q.packet.from ≡ m) qs

pub parcels_from : {C State : Type 0} (m : ℕ) (x : Member C State) (ss : List Sent) → AreFrom m (parcels m x ss)
parcels_from m x [] = tt
parcels_from m x (s ∷ ss) = (refl, parcels_from m x ss)

pub does_from : {C State : Type 0} (o : Object C State) (n m : ℕ) (own : Own C State) (x : Member C State) → AreFrom m (does o n m own x).sent
does_from {C} {State} o n m (Receives conn number call now) x = go (reached m x.node)
  where
    go : (r : Reached) → AreFrom m (if_executes r x (executes o m conn number call now x)).sent
    go Executes = parcels_from m (executes o m conn number call now x).member _
    go (PartitionLost v) = tt
    go (WrongTarget v) = tt
    go (Migrating v) = tt
does_from o n m (Takes from message cargo) x = parcels_from m (does o n m (Takes from message cargo) x).member _
does_from {C} {State} o n m Resends x = on_if (AreFrom m) (is_primary x.node.known m) (parcels m x (sent_again n x.node)) [] (parcels_from m x (sent_again n x.node)) tt

pub bare_from : (C State : Type 0) (n : ℕ) (ss : List Sent) → AreFrom {C = C} {State = State} n (map (bare n) ss)
bare_from C State n [] = tt
bare_from C State n (s ∷ ss) = (refl, bare_from C State n ss)

module _ {C State : Type 0} (o : Object C State) (p n b : ℕ) (m : ℕ) (small : m < n) where
  pub sent_mine : (qs : List (Parcel C State)) → AreFrom m qs → sent_by m qs ≡ qs
  sent_mine qs h = filter_all (λ (q : Parcel C State). q.packet.from == m) qs (go qs h)
    where
      go : (ps : List (Parcel C State)) → AreFrom m ps → Every (λ (q : Parcel C State). (q.packet.from == m) ≡ true) ps
      go [] k = tt
      go (q ∷ ps) k = (number_same q.packet.from m k.0, go ps k.1)

  pub sent_others : (k : ℕ) (qs : List (Parcel C State)) → k ≢ m → AreFrom k qs → sent_by m qs ≡ []
  sent_others k qs d h = filter_none (λ (q : Parcel C State). q.packet.from == m) qs (go qs h)
    where
      go : (ps : List (Parcel C State)) → AreFrom k ps → Every (λ (q : Parcel C State). (q.packet.from == m) ≡ false) ps
      go [] z = tt
      go (q ∷ ps) z = (number_other q.packet.from m (λ e. d (sym z.0 ∙ e)), go ps z.1)

  pub sent_more : (qs ps : List (Parcel C State)) → sent_by m (qs ++ ps) ≡ sent_by m qs ++ sent_by m ps
  sent_more qs ps = filter-append (λ (q : Parcel C State). q.packet.from == m) qs ps

  -- the member is this one, and has sent, executed and answered this
  pub record Is (a : Apart C State) (x : Member C State) (qs : List (Parcel C State)) (es : List (Executed C)) (hs : List Held) : Type 0 where
    pub there : slice_get a.members m ≡ Some x
    pub sent : sent_by m a.sent ≡ qs
    pub executed : (y : Executed C) → In y es → In (Called y) a.log
    pub released : (h : Held) → In h hs → In h a.released

  pub called_more : (y : Executed C) (log : List (Entry C)) (es fs : List (Executed C)) → (In y es → In (Called y) log) → In y (es ++ fs) → In (Called y) (log ++ map Called fs)
  called_more y log es fs f i = go (in_cases y es fs i)
    where
      go : In y es ⊎ In y fs → In (Called y) (log ++ map Called fs)
      go (inl j) = in_left (Called y) log (map Called fs) (f j)
      go (inr j) = in_right (Called y) log (map Called fs) (in_map Called fs y j)

  pub given_more : (h : Held) (gs hs more : List Held) → (In h hs → In h gs) → In h (hs ++ more) → In h (gs ++ more)
  given_more h gs hs more f i = go (in_cases h hs more i)
    where
      go : In h hs ⊎ In h more → In h (gs ++ more)
      go (inl j) = in_left h gs more (f j)
      go (inr j) = in_right h gs more j

  -- its own step
  module _ (a : Apart C State) (x : Member C State) (qs : List (Parcel C State)) (es : List (Executed C)) (hs : List Held) (h : Is a x qs es hs) where
    pub mine : (k : ℕ) (own : Own C State) → k ≡ m → let d = does o n m own x in Is (goes o p n b a (Acts k own)) d.member (qs ++ d.sent) (es ++ d.executed) (hs ++ d.released)
    mine k own e = subst (λ j. Is (goes o p n b a (Acts j own)) d.member (qs ++ d.sent) (es ++ d.executed) (hs ++ d.released)) (sym e)
        (subst (λ z. Is z d.member (qs ++ d.sent) (es ++ d.executed) (hs ++ d.released)) (sym so) (record {
          there = set_get_same a.members m d.member x h.there;
          sent = sent_more a.sent d.sent ∙ ap (λ zs. zs ++ sent_by m d.sent) h.sent ∙ ap (λ zs. qs ++ zs) (sent_mine d.sent (does_from o n m own x));
          executed = λ y i. called_more y a.log es d.executed (h.executed y) i;
          released = λ g i. given_more g a.released hs d.released (h.released g) i;
        }))
      where
        d : Done C State
        d = does o n m own x

        so : goes o p n b a (Acts m own) ≡ acted a m (does o n m own x)
        so = ap (λ z. map_or z a (λ y. acted a m (does o n m own y))) h.there

    -- another's
    pub others : (k : ℕ) (own : Own C State) → k ≢ m → Is (goes o p n b a (Acts k own)) x qs es hs
    others k own d = go (slice_get a.members k)
      where
        go : (y : Option (Member C State)) → Is (map_or y a (λ z. acted a k (does o n k own z))) x qs es hs
        go None = h
        go (Some y) = record {
          there = set_get_other a.members k m (does o n k own y).member (λ e. d (sym e)) ∙ h.there;
          sent = sent_more a.sent (does o n k own y).sent ∙ ap (λ zs. zs ++ sent_by m (does o n k own y).sent) h.sent ∙ ap (λ zs. qs ++ zs) (sent_others k (does o n k own y).sent d (does_from o n k own y)) ∙ append-nil qs;
          executed = λ z i. in_left (Called z) a.log (map Called (does o n k own y).executed) (h.executed z i);
          released = λ g i. in_left g a.released (does o n k own y).released (h.released g i);
        }

    -- and one of the service
    pub served : (u : Ruled) → Is (ruled n a u) x qs es hs
    served u = record {
      there = h.there;
      sent = sent_more a.sent (map (bare n) u.sent) ∙ ap (λ zs. zs ++ sent_by m (map (bare n) u.sent)) h.sent
          ∙ ap (λ zs. qs ++ zs) (sent_others n (map (bare n) u.sent) (omega (arith, small)) (bare_from C State n u.sent)) ∙ append-nil qs;
      executed = λ z i. in_left (Called z) a.log (map Reset u.resets) (h.executed z i);
      released = h.released;
    }

  -- by its own steps from then on
  abbrev pub IsThen : Apart C State → Member C State → List (Parcel C State) → List (Executed C) → List Held → List (Own C State) → Type 0
  IsThen a x qs es hs owns = Is a (member_after o n m x owns) (qs ++ sent_over o n m x owns) (es ++ executed_over o n m x owns) (hs ++ released_over o n m x owns)

  pub over : (a : Apart C State) (x : Member C State) (qs : List (Parcel C State)) (es : List (Executed C)) (hs : List Held) (ss : List (Step C State)) → Is a x qs es hs → IsThen (after o p n b a ss) x qs es hs (steps_of m ss)
  over a x qs es hs [] h = record {
    there = h.there;
    sent = h.sent ∙ sym (append-nil qs);
    executed = λ y i. h.executed y (subst (In y) (append-nil es) i);
    released = λ g i. h.released g (subst (In g) (append-nil hs) i);
  }
  over a x qs es hs (Rules r ∷ ss) h = over (goes o p n b a (Rules r)) x qs es hs ss (served a x qs es hs h (rules p n b r a.service))
  over a x qs es hs (Crash k ∷ ss) h = over (goes o p n b a (Crash k)) x qs es hs ss (record { there = h.there; sent = h.sent; executed = h.executed; released = h.released })
  over a x qs es hs (Acts k own ∷ ss) h = go (number_cases k m) (λ y ps fs gs t. over (goes o p n b a (Acts k own)) y ps fs gs ss t)
    where
      go : (k ≡ m) ⊎ (k ≢ m)
          → ((y : Member C State) (ps : List (Parcel C State)) (fs : List (Executed C)) (gs : List Held) → Is (goes o p n b a (Acts k own)) y ps fs gs → IsThen (after o p n b (goes o p n b a (Acts k own)) ss) y ps fs gs (steps_of m ss))
          → IsThen (after o p n b a (Acts k own ∷ ss)) x qs es hs (steps_of m (Acts k own ∷ ss))
      go (inl e) rest =
          let owns : own ∷ steps_of m ss ≡ steps_of m (Acts k own ∷ ss) = sym (rw (number_same k m e) refl) in
          let d : Done C State = does o n m own x in
          let r = rest (does o n m own x).member (qs ++ (does o n m own x).sent) (es ++ (does o n m own x).executed) (hs ++ (does o n m own x).released) (mine a x qs es hs h k own e) in
          subst (IsThen (after o p n b a (Acts k own ∷ ss)) x qs es hs) owns (record {
            there = r.there;
            sent = r.sent ∙ append_assoc qs (does o n m own x).sent (sent_over o n m (does o n m own x).member (steps_of m ss));
            executed = λ y i. r.executed y (subst (In y) (sym (append_assoc es (does o n m own x).executed (executed_over o n m (does o n m own x).member (steps_of m ss)))) i);
            released = λ g i. r.released g (subst (In g) (sym (append_assoc hs (does o n m own x).released (released_over o n m (does o n m own x).member (steps_of m ss)))) i);
          })
      go (inr d) rest =
          let owns : steps_of m ss ≡ steps_of m (Acts k own ∷ ss) = sym (rw (number_other k m d) refl) in
          subst (IsThen (after o p n b a (Acts k own ∷ ss)) x qs es hs) owns (rest x qs es hs (others a x qs es hs h k own d))

-- the service

pub service_over : {C State : Type 0} (o : Object C State) (p n b : ℕ) (a : Apart C State) (ss : List (Step C State)) → (after o p n b a ss).service ≡ service_after p n b a.service (rulings_of ss)
service_over o p n b a [] = refl
service_over o p n b a (Rules r ∷ ss) = service_over o p n b (goes o p n b a (Rules r)) ss
service_over o p n b a (Crash k ∷ ss) = service_over o p n b (goes o p n b a (Crash k)) ss
service_over {C} {State} o p n b a (Acts k own ∷ ss) = service_over o p n b (goes o p n b a (Acts k own)) ss ∙ ap (λ s. service_after p n b s (rulings_of ss)) (go (slice_get a.members k))
  where
    go : (y : Option (Member C State)) → (map_or y a (λ z. acted a k (does o n k own z))).service ≡ a.service
    go None = refl
    go (Some y) = refl

pub every_one_is_by_itself : {C State : Type 0} (o : Object C State) → EveryOneIsByItself o
every_one_is_by_itself {C} {State} o p n b steps = record {
  member = λ m l. (all m l).there;
  sent = λ m l. (all m l).sent;
  executed = λ m x l c. contains_in (Called x) (whole_after o p n b steps).log ((all m l).executed x (in_contains x (executed_over o n m (opening o (initial_row p n b) m) (steps_of m steps)) c));
  released = λ m h l c. contains_in h (whole_after o p n b steps).released ((all m l).released h (in_contains h (released_over o n m (opening o (initial_row p n b) m) (steps_of m steps)) c));
  service = service_over o p n b (begin o p n b) steps;
}
  where
    all : (m : ℕ) (l : m < n) → IsThen o p n b m l (whole_after o p n b steps) (opening o (initial_row p n b) m) [] [] [] (steps_of m steps)
    all m l = over o p n b m l (begin o p n b) (opening o (initial_row p n b) m) [] [] [] steps (record {
      there = map_get (opening o (initial_row p n b)) (numbers_below n) m m (get-numbers_below n m l);
      sent = refl;
      executed = λ y i. absurd i;
      released = λ h i. absurd i;
    })

-- what was executed and answered

pub after_append : {C State : Type 0} (o : Object C State) (p n b : ℕ) (a : Apart C State) (ss ts : List (Step C State)) → after o p n b a (ss ++ ts) ≡ after o p n b (after o p n b a ss) ts
after_append o p n b a [] ts = refl
after_append o p n b a (s ∷ ss) ts = after_append o p n b (goes o p n b a s) ss ts

abbrev pub Longer : {C State : Type 0} → Apart C State → Apart C State → Type 0
Longer a c = IsFrontOf a.log c.log × IsFrontOf a.released c.released

pub longer : {C State : Type 0} (o : Object C State) (p n b : ℕ) (a : Apart C State) (s : Step C State) → Longer a (goes o p n b a s)
longer {C} {State} o p n b a (Acts m own) = go (slice_get a.members m)
  where
    go : (y : Option (Member C State)) → Longer a (map_or y a (λ z. acted a m (does o n m own z)))
    go None = (same a.log, same a.released)
    go (Some y) = ((map Called (does o n m own y).executed, refl), ((does o n m own y).released, refl))
longer o p n b a (Rules r) = ((map Reset (rules p n b r a.service).resets, refl), same a.released)
longer o p n b a (Crash m) = (same a.log, same a.released)

pub longer_over : {C State : Type 0} (o : Object C State) (p n b : ℕ) (a : Apart C State) (ss : List (Step C State)) → Longer a (after o p n b a ss)
longer_over o p n b a [] = (same a.log, same a.released)
longer_over o p n b a (s ∷ ss) =
    let c = goes o p n b a s in
    let one = longer o p n b a s in
    let rest = longer_over o p n b c ss in
    (front_trans a.log c.log (after o p n b c ss).log one.0 rest.0, front_trans a.released c.released (after o p n b c ss).released one.1 rest.1)

pub every_apart_run_extends : {C State : Type 0} (o : Object C State) → EveryApartRunExtends o
every_apart_run_extends o p n b steps more =
    subst (Longer (whole_after o p n b steps)) (sym (after_append o p n b (begin o p n b) steps more)) (longer_over o p n b (whole_after o p n b steps) more)
