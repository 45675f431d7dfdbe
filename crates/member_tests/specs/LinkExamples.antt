-- The messages in flight, which the definitions of `link_net` compute.
use Rattle.std.specs.Prelude.{◌≡◌, ℕ, true, false, List, [], ◌∷◌, map, Some, None, refl}
use Rattle.link_net.specs.Links.{Lane, Net, list_of, place_of, next_link, has_crowded_link, sent_to}

abbrev lane : List ℕ → Lane
lane bytes = record { list = map (λ byte. byte ∷ []) bytes; spare = 0 }

-- Between four ends: one message from 0 to 1, two from 2 to 0, one from 2 to 3 and one from 3 to 0.
abbrev net : Net
net = record {
  ends = 4;
  lanes =
      lane [] ∷ lane (5 ∷ []) ∷ lane [] ∷ lane []
      ∷ lane [] ∷ lane [] ∷ lane [] ∷ lane []
      ∷ lane (6 ∷ 7 ∷ []) ∷ lane [] ∷ lane [] ∷ lane (8 ∷ [])
      ∷ lane (9 ∷ []) ∷ lane [] ∷ lane [] ∷ lane []
      ∷ [];
}

a_link_has_its_own_messages : list_of net 2 0 ≡ (6 ∷ []) ∷ (7 ∷ []) ∷ []
a_link_has_its_own_messages = refl

the_way_back_has_none : list_of net 0 2 ≡ []
the_way_back_has_none = refl

there_is_no_fifth_end : map (place_of 4 2) (0 ∷ 3 ∷ 4 ∷ []) ≡ Some 8 ∷ Some 11 ∷ None ∷ []
there_is_no_fifth_end = refl

the_first_busy_link_is_next : next_link net ≡ Some (record { from = 0; to = 1 })
the_first_busy_link_is_next = refl

-- the same, without the message from 0 to 1
abbrev less : Net
less = record net { lanes = lane [] ∷ lane [] ∷ lane [] ∷ lane [] ∷ lane [] ∷ lane [] ∷ lane [] ∷ lane [] ∷ lane (6 ∷ 7 ∷ []) ∷ lane [] ∷ lane [] ∷ lane (8 ∷ []) ∷ lane (9 ∷ []) ∷ lane [] ∷ lane [] ∷ lane [] ∷ [] }

then_that_of_the_next_sender : next_link less ≡ Some (record { from = 2; to = 0 })
then_that_of_the_next_sender = refl

no_message_makes_no_link_busy : next_link (record { ends = 1; lanes = lane [] ∷ [] }) ≡ None
no_message_makes_no_link_busy = refl

a_link_is_crowded_by_its_own_messages : map (λ most. has_crowded_link most net) (2 ∷ 3 ∷ []) ≡ true ∷ false ∷ []
a_link_is_crowded_by_its_own_messages = refl

each_end_is_sent_its_messages_in_order
    : map (λ to. sent_to to ((1, 5 ∷ []) ∷ (2, 6 ∷ []) ∷ (1, 7 ∷ []) ∷ [])) (1 ∷ 2 ∷ 3 ∷ [])
    ≡ ((5 ∷ []) ∷ (7 ∷ []) ∷ []) ∷ ((6 ∷ []) ∷ []) ∷ [] ∷ []
each_end_is_sent_its_messages_in_order = refl
