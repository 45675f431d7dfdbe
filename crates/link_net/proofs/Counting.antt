-- The counts of all lanes, where one of them changes.
use Rattle.std.proofs.Common.{◌≡◌, ◌≢◌, ℕ, zero, suc, ◌+◌, ◌-◌, ◌*◌, ◌^◌, ◌<◌, ◌≤◌, Bool, true, false, not, ◌==◌, if◌then◌else◌, List, [], ◌∷◌, length, slice_get, slice_set, Some, refl, sym, ap, subst, ◌∙◌, ⊎_elim, arith, length-set, le-leb, eq-eqb, ne_eqb, lt-ltb, le-ltb, position, unwrap_or, option_map}
use Rattle.std.proofs.lemmas.Bool.{cases_Bool, cases_lt, lt-leb}
use Rattle.std.proofs.lemmas.List.Sums.{prefix_len-le-length}
use Rattle.std.specs.List.{position_or_len}
use Rattle.link_net.specs.Links.{Lane, list_in}
use Rattle.link_net.specs.Counting.{Counts, busy_from, messages_on, length_at, AreCountsOf, rank, with_place, without_place, after_change}
use Rattle.link_net.proofs.Nets.{AreEmpty}

-- ---- a place among places

rank_pass : (at place : ℕ) (places : List ℕ) → place < at → rank at (place ∷ places) ≡ suc (rank at places)
rank_pass at place places below = rw (lt-leb at place below) (omega arith)

pass_with : (at place : ℕ) (places : List ℕ) → place < at → with_place at (place ∷ places) ≡ place ∷ with_place at places
pass_with at place places below = rw (rank_pass at place places below) refl

pass_without : (at place : ℕ) (places : List ℕ) → place < at → without_place at (place ∷ places) ≡ place ∷ without_place at places
pass_without at place places below = rw (rank_pass at place places below) refl

rank_zero : (at place : ℕ) (places : List ℕ) → at ≤ place → rank at (place ∷ places) ≡ 0
rank_zero at place places from = rw (le-leb at place from) refl

with_first : (at : ℕ) (places : List ℕ) → rank at places ≡ 0 → with_place at places ≡ at ∷ places
with_first at places first = rw first refl

without_first : (at place : ℕ) (places : List ℕ) → at ≡ place → without_place at (place ∷ places) ≡ places
without_first at place places here = rw (rank_zero at place places (omega (arith, here))) refl

pub position_or_length : {X : Type 0} (p : X → Bool) (xs : List X) → unwrap_or (position p xs) (length xs) ≡ position_or_len p xs
position_or_length p xs =
    ⊎_elim (λ found. rw (lt-ltb (position_or_len p xs) (length xs) found) refl)
    (λ none. rw (le-ltb (position_or_len p xs) (length xs) none) (omega (arith, none, prefix_len-le-length (λ x. not (p x)) xs)))
    (cases_lt (position_or_len p xs) (length xs))

-- ---- the places of the lanes with messages

-- a lane is without messages, or has some
abbrev is_empty : Lane → Bool
is_empty lane = length lane.list == 0

-- one more lane in front
abbrev in_front : ℕ → Bool → List ℕ → List ℕ
in_front at empty places = if empty then places else at ∷ places

rank_of_later : (at first : ℕ) (lanes : List Lane) → at ≤ first → rank at (busy_from first lanes) ≡ 0
rank_of_later at first [] from = refl
rank_of_later at first (lane ∷ lanes) from =
    ⊎_elim (λ empty. rw empty (rank_of_later at (suc first) lanes (omega (arith, from)))) (λ busy. rw busy (rank_zero at first (busy_from (suc first) lanes) from)) (cases_Bool (is_empty lane))

module _ (lane : Lane) where
  -- a lane that goes on with messages, or without
  places_stay : (first k before : ℕ) (lanes : List Lane) → length_at lanes k ≡ Some before → (before == 0) ≡ is_empty lane → busy_from first (slice_set lanes k lane) ≡ busy_from first lanes
  places_stay first k before [] there same = absurd cc
  places_stay first zero before (old ∷ lanes) there same =
      let was : length old.list ≡ before = cc in
      ap (λ empty. in_front first empty (busy_from (suc first) lanes)) (sym same ∙ ap (λ n. n == 0) (sym was))
  places_stay first (suc k) before (old ∷ lanes) there same = ap (in_front first (is_empty old)) (places_stay (suc first) k before lanes there same)

  -- one that gets its first message
  place_comes : (first k at : ℕ) (lanes : List Lane) → length_at lanes k ≡ Some 0 → at ≡ first + k → is_empty lane ≡ false → busy_from first (slice_set lanes k lane) ≡ with_place at (busy_from first lanes)
  place_comes first k at [] there is busy = absurd cc
  place_comes first zero at (old ∷ lanes) there is busy =
      let was : length old.list ≡ 0 = cc in
      let here : first ≡ at = omega (arith, is) in
      let later : rank at (busy_from (suc first) lanes) ≡ 0 = rank_of_later at (suc first) lanes (omega (arith, is)) in
      rw (busy, eq-eqb (length old.list) 0 was) (ap (λ n. n ∷ busy_from (suc first) lanes) here ∙ sym (with_first at (busy_from (suc first) lanes) later))
  place_comes first (suc k) at (old ∷ lanes) there is busy =
      let others = place_comes (suc first) k at lanes there (omega (arith, is)) busy in
      ⊎_elim (λ empty. rw empty others) (λ full. rw full (ap (λ ps. first ∷ ps) others ∙ sym (pass_with at first (busy_from (suc first) lanes) (omega (arith, is)))))
      (cases_Bool (is_empty old))

  -- one that loses its last
  place_goes : (first k at before : ℕ) (lanes : List Lane) → length_at lanes k ≡ Some (suc before) → at ≡ first + k → is_empty lane ≡ true → busy_from first (slice_set lanes k lane) ≡ without_place at (busy_from first lanes)
  place_goes first k at before [] there is empty = absurd cc
  place_goes first zero at before (old ∷ lanes) there is empty =
      let was : length old.list ≡ suc before = cc in
      let here : at ≡ first = omega (arith, is) in
      let stood : is_empty old ≡ false = ne_eqb (length old.list) 0 (λ z. omega (arith, z, was)) in
      rw (empty, stood) (sym (without_first at first (busy_from (suc first) lanes) here))
  place_goes first (suc k) at before (old ∷ lanes) there is empty =
      let others = place_goes (suc first) k at before lanes there (omega (arith, is)) empty in
      ⊎_elim (λ none. rw none others) (λ full. rw full (ap (λ ps. first ∷ ps) others ∙ sym (pass_without at first (busy_from (suc first) lanes) (omega (arith, is)))))
      (cases_Bool (is_empty old))

  pub places_change : (at before after : ℕ) (lanes : List Lane) → length_at lanes at ≡ Some before → length lane.list ≡ after → busy_from 0 (slice_set lanes at lane) ≡ after_change at before after (busy_from 0 lanes)
  places_change at zero zero lanes there is = places_stay 0 at 0 lanes there (sym (eq-eqb (length lane.list) 0 is))
  places_change at zero (suc after) lanes there is = place_comes 0 at at lanes there (omega arith) (ne_eqb (length lane.list) 0 (λ z. omega (arith, z, is)))
  places_change at (suc before) zero lanes there is = place_goes 0 at at before lanes there (omega arith) (eq-eqb (length lane.list) 0 is)
  places_change at (suc before) (suc after) lanes there is = places_stay 0 at (suc before) lanes there (ne_eqb (suc before) 0 (λ z. omega (arith, z)) ∙ sym (ne_eqb (length lane.list) 0 (λ z. omega (arith, z, is))))

  messages_change : (at before : ℕ) (lanes : List Lane) → length_at lanes at ≡ Some before → messages_on (slice_set lanes at lane) + before ≡ messages_on lanes + length lane.list
  messages_change at before [] there = absurd cc
  messages_change zero before (old ∷ lanes) there = let was : length old.list ≡ before = cc in omega (arith, was)
  messages_change (suc at) before (old ∷ lanes) there = omega (arith, messages_change at before lanes there)

  few_stay : (bound : ℕ) (lanes : List Lane) (at : ℕ) → length lane.list < bound → ((k : ℕ) → length (list_in (slice_get lanes k)) < bound) → (k : ℕ) → length (list_in (slice_get (slice_set lanes at lane) k)) < bound
  few_stay bound [] at now few k = few k
  few_stay bound (old ∷ lanes) zero now few zero = now
  few_stay bound (old ∷ lanes) zero now few (suc k) = few (suc k)
  few_stay bound (old ∷ lanes) (suc at) now few zero = few zero
  few_stay bound (old ∷ lanes) (suc at) now few (suc k) = few_stay bound lanes at now (λ j. few (suc j)) k

-- ---- how many there are

places_few : (first : ℕ) (lanes : List Lane) → length (busy_from first lanes) ≤ length lanes
places_few first [] = omega arith
places_few first (lane ∷ lanes) =
    let others = places_few (suc first) lanes in
    ⊎_elim (λ empty. rw empty (omega (arith, others))) (λ busy. rw busy (omega (arith, others))) (cases_Bool (is_empty lane))

places_fewer : (first at : ℕ) (lanes : List Lane) → length_at lanes at ≡ Some 0 → length (busy_from first lanes) < length lanes
places_fewer first at [] there = absurd cc
places_fewer first zero (lane ∷ lanes) there =
    let none : length lane.list ≡ 0 = cc in
    let others = places_few (suc first) lanes in
    rw (eq-eqb (length lane.list) 0 none) (omega (arith, others))
places_fewer first (suc at) (lane ∷ lanes) there =
    let others = places_fewer (suc first) at lanes there in
    ⊎_elim (λ empty. rw empty (omega (arith, others))) (λ busy. rw busy (omega (arith, others))) (cases_Bool (is_empty lane))

rank_within : (first k at before : ℕ) (lanes : List Lane) → length_at lanes k ≡ Some before → before ≢ 0 → at ≡ first + k → rank at (busy_from first lanes) < length (busy_from first lanes)
rank_within first k at before [] there some is = absurd cc
rank_within first zero at before (lane ∷ lanes) there some is =
    let was : length lane.list ≡ before = cc in
    rw (ne_eqb (length lane.list) 0 (λ z. some (sym was ∙ z))) (let here = rank_zero at first (busy_from (suc first) lanes) (omega (arith, is)) in omega (arith, here))
rank_within first (suc k) at before (lane ∷ lanes) there some is =
    let others = rank_within (suc first) k at before lanes there some (omega (arith, is)) in
    ⊎_elim (λ empty. rw empty others) (λ busy. rw busy (let passed = rank_pass at first (busy_from (suc first) lanes) (omega (arith, is)) in omega (arith, passed, others))) (cases_Bool (is_empty lane))

some_on : (at before : ℕ) (lanes : List Lane) → length_at lanes at ≡ Some before → before ≤ messages_on lanes
some_on at before [] there = absurd cc
some_on zero before (lane ∷ lanes) there = let was : length lane.list ≡ before = cc in omega (arith, was)
some_on (suc at) before (lane ∷ lanes) there = omega (arith, some_on at before lanes there)

few_on : (bound : ℕ) (lanes : List Lane) → ((k : ℕ) → length (list_in (slice_get lanes k)) < bound) → messages_on lanes ≤ length lanes * bound
few_on bound [] few = omega arith
few_on bound (lane ∷ lanes) few = let others = few_on bound lanes (λ k. few (suc k)) in let here = few zero in omega (arith, here, others)

-- ---- the counts of lanes

empty_places : (first : ℕ) (lanes : List Lane) → AreEmpty lanes → busy_from first lanes ≡ []
empty_places first [] empty = refl
empty_places first (lane ∷ lanes) empty = rw (eq-eqb (length lane.list) 0 (ap length (empty zero))) (empty_places (suc first) lanes (λ k. empty (suc k)))

empty_messages : (lanes : List Lane) → AreEmpty lanes → messages_on lanes ≡ 0
empty_messages [] empty = refl
empty_messages (lane ∷ lanes) empty = omega (arith, ap length (empty zero), empty_messages lanes (λ k. empty (suc k)))

pub none_counted : (lanes : List Lane) (room : ℕ) → AreEmpty lanes → length lanes ≤ room → AreCountsOf lanes (record { busy = []; room = room; messages = 0 })
none_counted lanes room empty fits = record {
  busy = sym (empty_places 0 lanes empty);
  messages = sym (empty_messages lanes empty);
  room = fits;
  few = λ at. omega (arith, ap length (empty at));
}

-- where a lane keeps its list
pub counts_kept : (lanes : List Lane) (counts : Counts) (at : ℕ) (old lane : Lane) → AreCountsOf lanes counts → slice_get lanes at ≡ Some old → lane.list ≡ old.list → AreCountsOf (slice_set lanes at lane) counts
counts_kept lanes counts at old lane are there same =
    let before = length lane.list in
    let was : length_at lanes at ≡ Some before = ap (option_map (λ (l : Lane). length l.list)) there ∙ ap Some (sym (ap length same)) in
    record {
      busy = are.busy ∙ sym (places_stay lane 0 at before lanes was refl);
      messages = (let sum = messages_change lane at before lanes was in omega (arith, sum, are.messages));
      room = omega (arith, length-set lanes at lane, are.room);
      few = few_stay lane (2 ^ 64) lanes at (subst (λ xs. length xs < 2 ^ 64) (sym same) (subst (λ o. length (list_in o) < 2 ^ 64) there (are.few at))) are.few;
    }

module _ (lanes : List Lane) (counts : Counts) (are : AreCountsOf lanes counts) (at before : ℕ) (there : length_at lanes at ≡ Some before) where
  pub change_subtracts : before ≤ counts.messages
  change_subtracts = omega (arith, some_on at before lanes there, are.messages)

  -- the sum fits 128 bits
  pub change_fits : (after : ℕ) → after < 2 ^ 64 → counts.room < 2 ^ 63 → counts.messages - before + after < 2 ^ 128
  change_fits after now small =
      let most = few_on (2 ^ 64) lanes are.few in
      omega (arith, most, are.messages, are.room)

  pub change_has_room : before ≡ 0 → length counts.busy < counts.room
  change_has_room none =
      let fewer = places_fewer 0 at lanes (there ∙ ap Some none) in
      let is = ap length are.busy in
      omega (arith, fewer, are.room, is)

  pub change_is_there : before ≢ 0 → rank at counts.busy < length counts.busy
  change_is_there some = subst (λ ps. rank at ps < length ps) (sym are.busy) (rank_within 0 at at before lanes there some (omega arith))

  pub changed : (lane : Lane) (after : ℕ) → length lane.list ≡ after → after < 2 ^ 64
      → AreCountsOf (slice_set lanes at lane) (record { busy = after_change at before after counts.busy; room = counts.room; messages = counts.messages - before + after })
  changed lane after is now = record {
    busy = ap (after_change at before after) are.busy ∙ sym (places_change lane at before after lanes there is);
    messages = (let sum = messages_change lane at before lanes there in let some = some_on at before lanes there in omega (arith, sum, some, is, are.messages));
    room = omega (arith, length-set lanes at lane, are.room);
    few = few_stay lane (2 ^ 64) lanes at (omega (arith, is, now)) are.few;
  }
