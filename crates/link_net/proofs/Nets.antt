-- One lane of a net changes, and the others stay.
use Rattle.std.proofs.Common.{◌≡◌, ◌≢◌, ℕ, zero, suc, ◌+◌, ◌*◌, ◌<◌, ◌≤◌, Bool, true, false, ltb, ◌==◌, ◌&&◌, List, [], ◌∷◌, length, get_or, slice_get, slice_set, ◌++◌, ◌-◌, Option, Some, None, refl, sym, ap, subst, ◌∙◌, ◌⊎◌, inl, inr, ⊎_elim, eq-eqb, arith}
use Rattle.std.specs.Prelude.{option_and_then}
use Rattle.std.proofs.lemmas.Bool.{cases_lt, and_from, false≢true, and_parts, ltb-true, eqb-true}
use Rattle.std.proofs.lemmas.Option.{cond_some, slice_get_read}
use Rattle.std.proofs.lemmas.Nat.{mul-add-lt, same_from_place}
use Rattle.link_net.specs.Links.{Lane, Net, place_of, lane_between, list_in, spare_in, list_of, spare_of, except, HasLists, HasSpares, LowersNoSpare, LowersByOneAtMost}

-- ---- a pair, or another one

pub record IsPair (from to f t : ℕ) : Type 0 where
  pub from_is : f ≡ from
  pub to_is : t ≡ to

true_or_false : (b : Bool) → (b ≡ true) ⊎ (b ≡ false)
true_or_false true = inl refl
true_or_false false = inr refl

pair_cases : (from to f t : ℕ) → (((f == from) && (t == to)) ≡ true × IsPair from to f t) ⊎ (((f == from) && (t == to)) ≡ false × (IsPair from to f t → ⊥))
pair_cases from to f t =
    ⊎_elim (λ same. let parts = and_parts (f == from) (t == to) same in inl (same, record { from_is = eqb-true _ _ parts.0; to_is = eqb-true _ _ parts.1 }))
    (λ other. inr (other, λ pair. let both : ((f == from) && (t == to)) ≡ true = and_from _ _ (eq-eqb _ _ pair.from_is) (eq-eqb _ _ pair.to_is) in false≢true (sym other ∙ both)))
    (true_or_false ((f == from) && (t == to)))

pub except_here : {X : Type 0} (from to f t : ℕ) (x : X) (others : ℕ → ℕ → X) → ((f == from) && (t == to)) ≡ true → except from to x others f t ≡ x
except_here from to f t x others same = rw same refl

pub except_there : {X : Type 0} (from to f t : ℕ) (x : X) (others : ℕ → ℕ → X) → ((f == from) && (t == to)) ≡ false → except from to x others f t ≡ others f t
except_there from to f t x others other = rw other refl

-- what is so at the pair and what is so elsewhere
pub except_each : {X : Type 0} (P : ℕ → ℕ → X → Type 0) (from to : ℕ) (x : X) (others : ℕ → ℕ → X) → P from to x → ((f t : ℕ) → (IsPair from to f t → ⊥) → P f t (others f t)) → (f t : ℕ) → P f t (except from to x others f t)
except_each P from to x others here there f t =
    ⊎_elim
    (λ same. subst (P f t) (sym (except_here from to f t x others same.0)) (subst (λ n. P n t x) (sym same.1.from_is) (subst (λ n. P from n x) (sym same.1.to_is) here)))
    (λ other. subst (P f t) (sym (except_there from to f t x others other.0)) (there f t other.1))
    (pair_cases from to f t)

-- ---- the place of a lane

record StandsAt (ends from to at : ℕ) : Type 0 where
  from_end : from < ends
  to_end : to < ends
  at_is : at ≡ from * ends + to

stands_at : (ends from to at : ℕ) → place_of ends from to ≡ Some at → StandsAt ends from to at
stands_at ends from to at e =
    let c = cond_some (ltb from ends && ltb to ends) (from * ends + to) at e in
    let parts = and_parts (ltb from ends) (ltb to ends) c.0 in
    record { from_end = ltb-true _ _ parts.0; to_end = ltb-true _ _ parts.1; at_is = sym c.1 }

one_pair : (ends from to f t at : ℕ) → place_of ends from to ≡ Some at → place_of ends f t ≡ Some at → IsPair from to f t
one_pair ends from to f t at one two =
    let a = stands_at ends from to at one in
    let b = stands_at ends f t at two in
    let same = same_from_place f t from to ends b.to_end a.to_end (sym b.at_is ∙ a.at_is) in
    record { from_is = same.0; to_is = same.1 }

-- ---- one lane of the list

get_set_same : {X : Type 0} (xs : List X) (k : ℕ) (x : X) → k < length xs → slice_get (slice_set xs k x) k ≡ Some x
get_set_same [] k x few = absurd (omega (arith, few))
get_set_same (y ∷ ys) zero x few = refl
get_set_same (y ∷ ys) (suc k) x few = get_set_same ys k x (omega (arith, few))

get_set_other : {X : Type 0} (xs : List X) (k j : ℕ) (x : X) → j ≢ k → slice_get (slice_set xs k x) j ≡ slice_get xs j
get_set_other [] k j x apart = refl
get_set_other (y ∷ ys) zero zero x apart = absurd (apart refl)
get_set_other (y ∷ ys) zero (suc j) x apart = refl
get_set_other (y ∷ ys) (suc k) zero x apart = refl
get_set_other (y ∷ ys) (suc k) (suc j) x apart = get_set_other ys k j x (omega (arith, apart))

-- a link with room is between two ends
pub room_stands : (net : Net) (from to : ℕ) → 1 ≤ spare_of net from to → place_of net.ends from to ≡ Some (from * net.ends + to)
room_stands net from to some =
    ⊎_elim (λ ends. rw ends refl) (λ none. let nothing : spare_of net from to ≡ 0 = rw none refl in absurd (omega (arith, some, nothing)))
    (true_or_false (ltb from net.ends && ltb to net.ends))

abbrev pub IsSquare : Net → Type 0
IsSquare net = length net.lanes ≡ net.ends * net.ends

abbrev pub with_lane : Net → ℕ → Lane → Net
with_lane net at lane = record { ends = net.ends; lanes = slice_set net.lanes at lane }

module _ (net : Net) (square : IsSquare net) (from to at : ℕ) (stands : place_of net.ends from to ≡ Some at) where
  within : at < length net.lanes
  within =
      let s = stands_at net.ends from to at stands in
      let below = mul-add-lt from net.ends to net.ends s.from_end s.to_end in
      omega (arith, below, square, s.at_is)

  pub lane_there : (old : Lane) → old ≡ get_or net.lanes at old → lane_between net from to ≡ Some old
  lane_there old is = ap (option_and_then (slice_get net.lanes)) stands ∙ slice_get_read net.lanes (length net.lanes) at old refl within is

  module _ (lane : Lane) where
    lane_changed : lane_between (with_lane net at lane) from to ≡ Some lane
    lane_changed = ap (option_and_then (slice_get (slice_set net.lanes at lane))) stands ∙ get_set_same net.lanes at lane within

    other_stays : (f t : ℕ) (o : Option ℕ) → place_of net.ends f t ≡ o → (IsPair from to f t → ⊥) → option_and_then (slice_get (slice_set net.lanes at lane)) o ≡ option_and_then (slice_get net.lanes) o
    other_stays f t None is apart = refl
    other_stays f t (Some k) is apart =
        get_set_other net.lanes at k lane (λ same. apart (one_pair net.ends from to f t at stands (is ∙ ap Some same)))

    -- the lists and the spare room of the net in which that lane has changed
    pub lists_changed : HasLists (with_lane net at lane) (except from to lane.list (list_of net))
    lists_changed =
        except_each (λ f t x. list_of (with_lane net at lane) f t ≡ x) from to lane.list (list_of net) (ap list_in lane_changed)
        (λ f t apart. ap list_in (other_stays f t (place_of net.ends f t) refl apart))

    pub spares_changed : HasSpares (with_lane net at lane) (except from to lane.spare (spare_of net))
    spares_changed =
        except_each (λ f t x. spare_of (with_lane net at lane) f t ≡ x) from to lane.spare (spare_of net) (ap spare_in lane_changed)
        (λ f t apart. ap spare_in (other_stays f t (place_of net.ends f t) refl apart))

    -- where the lane has no less room than before
    pub lowers_none : (old : Lane) → old ≡ get_or net.lanes at old → old.spare ≤ lane.spare → LowersNoSpare net (with_lane net at lane)
    lowers_none old is more f t =
        subst (λ n. spare_of net f t ≤ n) (sym (spares_changed f t))
        (except_each (λ f t n. spare_of net f t ≤ n) from to lane.spare (spare_of net) (subst (λ n. n ≤ lane.spare) (sym (ap spare_in (lane_there old is))) more) (λ f t apart. omega arith) f t)

    pub lowers_one : (old : Lane) → old ≡ get_or net.lanes at old → old.spare ≤ lane.spare + 1 → LowersByOneAtMost net (with_lane net at lane)
    lowers_one old is more f t =
        subst (λ n. spare_of net f t ≤ n + 1) (sym (spares_changed f t))
        (except_each (λ f t n. spare_of net f t ≤ n + 1) from to lane.spare (spare_of net) (subst (λ n. n ≤ lane.spare + 1) (sym (ap spare_in (lane_there old is))) more) (λ f t apart. omega arith) f t)

    -- the list is changed so
    pub list_put : (old : Lane) → old ≡ get_or net.lanes at old → (change : List (List ℕ) → List (List ℕ)) → lane.list ≡ change old.list
        → HasLists (with_lane net at lane) (except from to (change (list_of net from to)) (list_of net))
    list_put old is change e f t =
        lists_changed f t ∙ ap (λ list. except from to list (list_of net) f t) (e ∙ ap change (sym (ap list_in (lane_there old is))))

    -- or kept
    pub list_kept : (old : Lane) → old ≡ get_or net.lanes at old → lane.list ≡ old.list → HasLists (with_lane net at lane) (list_of net)
    list_kept old is e f t =
        lists_changed f t
        ∙ except_each (λ f t list. list ≡ list_of net f t) from to lane.list (list_of net) (e ∙ sym (ap list_in (lane_there old is))) (λ f t apart. refl) f t

    -- or one spare message's room is taken
    pub spare_put : (old : Lane) → old ≡ get_or net.lanes at old → lane.spare + 1 ≡ old.spare → HasSpares (with_lane net at lane) (except from to (spare_of net from to - 1) (spare_of net))
    spare_put old is e f t =
        let was : spare_of net from to ≡ old.spare = ap spare_in (lane_there old is) in
        let less : lane.spare ≡ spare_of net from to - 1 = omega (arith, was, e) in
        spares_changed f t ∙ ap (λ spare. except from to spare (spare_of net) f t) less

    pub room_made : (extra : ℕ) → extra ≤ lane.spare → extra ≤ spare_of (with_lane net at lane) from to
    room_made extra enough = subst (λ n. extra ≤ n) (sym (ap spare_in lane_changed)) enough

-- ---- all lanes

-- each place of the list is without messages
abbrev pub AreEmpty : List Lane → Type 0
AreEmpty lanes = (k : ℕ) → list_in (slice_get lanes k) ≡ []

pub AreEmpty-push : (lanes : List Lane) (lane : Lane) → AreEmpty lanes → lane.list ≡ [] → AreEmpty (lanes ++ lane ∷ [])
AreEmpty-push [] lane empty is zero = is
AreEmpty-push [] lane empty is (suc k) = refl
AreEmpty-push (l ∷ lanes) lane empty is zero = empty zero
AreEmpty-push (l ∷ lanes) lane empty is (suc k) = AreEmpty-push lanes lane (λ j. empty (suc j)) is k

pub no_messages : (ends : ℕ) (lanes : List Lane) → AreEmpty lanes → HasLists (record { ends = ends; lanes = lanes }) (λ _ _. [])
no_messages ends lanes empty from to = at_place (place_of ends from to)
  where
    at_place : (o : Option ℕ) → list_in (option_and_then (slice_get lanes) o) ≡ []
    at_place None = refl
    at_place (Some k) = empty k

-- lists that stay and room that doesn't shrink, one step after another
pub record Grows (old new : Net) : Type 0 where
  pub lists : HasLists new (list_of old)
  pub spare : LowersNoSpare old new
  pub ends : new.ends ≡ old.ends

pub Grows-itself : (net : Net) → Grows net net
Grows-itself net = record { lists = λ from to. refl; spare = λ from to. omega arith; ends = refl }

pub Grows-then : (a b c : Net) → Grows a b → Grows b c → Grows a c
Grows-then a b c one two = record {
  lists = λ from to. two.lists from to ∙ one.lists from to;
  spare = λ from to. omega (arith, one.spare from to, two.spare from to);
  ends = two.ends ∙ one.ends;
}

-- so many links from an end have room
abbrev pub HasRoomBelow : Net → ℕ → ℕ → ℕ → Type 0
HasRoomBelow net from extra count = (to : ℕ) → to < count → from < net.ends → extra ≤ spare_of net from to

pub room_below_more : (old new : Net) (from extra count : ℕ) → Grows old new → HasRoomBelow old from extra count → (from < new.ends → count < new.ends → extra ≤ spare_of new from count) → count < new.ends → HasRoomBelow new from extra (count + 1)
room_below_more old new from extra count grows before here few to below is =
    ⊎_elim
    (λ lower. let had = before to lower (subst (λ n. from < n) grows.ends is) in omega (arith, had, grows.spare from to))
    (λ last. let same : count ≡ to = omega (arith, below, last) in subst (λ k. extra ≤ spare_of new from k) same (here is few))
    (cases_lt to count)
