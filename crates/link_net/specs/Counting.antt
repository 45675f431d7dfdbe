-- What is kept of all lanes together, so that not each has to be looked at.
use Rattle.std.specs.Prelude.{◌≡◌, ℕ, zero, suc, ◌+◌, ◌≤◌, ◌<◌, ◌^◌, ◌==◌, nat_le, if◌then◌else◌, List, [], ◌∷◌, insert, remove, length, Option, option_map, slice_get}
use Rattle.std.specs.List.{position_or_len}
use Rattle.link_net.specs.Links.{Lane, list_in}

-- the places of the lanes with messages, in rising order, how many places there is room for, and how many messages all lanes have
pub record Counts : Type 0 where
  pub busy : List ℕ
  pub room : ℕ
  pub messages : ℕ

-- the places of those with messages, where the first of these lanes has this place
abbrev pub busy_from : ℕ → List Lane → List ℕ
busy_from at [] = []
busy_from at (lane ∷ lanes) = if length lane.list == 0 then busy_from (suc at) lanes else at ∷ busy_from (suc at) lanes

abbrev pub messages_on : List Lane → ℕ
messages_on [] = 0
messages_on (lane ∷ lanes) = length lane.list + messages_on lanes

-- how many messages the lane at a place has
abbrev pub length_at : List Lane → ℕ → Option ℕ
length_at lanes at = option_map (λ (lane : Lane). length lane.list) (slice_get lanes at)

-- These lanes were counted, there is room for the place of each, and the length of each fits 64 bits
pub record AreCountsOf (lanes : List Lane) (counts : Counts) : Type 0 where
  pub busy : counts.busy ≡ busy_from 0 lanes
  pub messages : counts.messages ≡ messages_on lanes
  pub room : length lanes ≤ counts.room
  pub few : (at : ℕ) → length (list_in (slice_get lanes at)) < 2 ^ 64

-- where a place stands, or would stand, among places in rising order
abbrev pub rank : ℕ → List ℕ → ℕ
rank at places = position_or_len (λ place. nat_le at place) places

abbrev pub with_place : ℕ → List ℕ → List ℕ
with_place at places = insert places (rank at places) at

abbrev pub without_place : ℕ → List ℕ → List ℕ
without_place at places = remove places (rank at places)

-- the places once the lane at one of them, which had so many messages, has so many
abbrev pub after_change : ℕ → ℕ → ℕ → List ℕ → List ℕ
after_change at zero zero places = places
after_change at zero (suc after) places = with_place at places
after_change at (suc before) zero places = without_place at places
after_change at (suc before) (suc after) places = places
