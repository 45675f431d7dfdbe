-- One event more.
use Rattle.std.proofs.Common.{◌≡◌, ℕ, ◌+◌, ◌<◌, List, [], ◌∷◌, ◌++◌, length, get_or, take, Option, Some, None, option_map, ap, sym, ◌∙◌, refl}
use Rattle.std.specs.List.{cons_option}
use Rattle.std.specs.Option.{option_to_list}
use Rattle.std.proofs.lemmas.List.{take_more}
use Rattle.std.proofs.lemmas.List.Elements.{filter_map-append}
use Rattle.listeners.specs.Telling.{Sent, told}
use Rattle.listeners.specs.declared.listener.Listener.{Listener}
use Rattle.event_codecs.specs.declared.registration.Registration.{Registration}

-- what one listener is sent, if anything
abbrev pub sent_to : Listener → Option (List ℕ) → Option Sent
sent_to listener event = option_map (λ bytes. (listener.conn, bytes)) event

alone : (o : Option Sent) → cons_option o [] ≡ option_to_list o
alone None = refl
alone (Some sent) = refl

pub told-more : (event : Registration → Option (List ℕ)) (listeners : List Listener) (i : ℕ) (listener : Listener) (before after : List Sent) (its : Option (List ℕ))
    → i < length listeners → listener ≡ get_or listeners i listener → before ≡ told event (take i listeners) → its ≡ event listener.registration
    → after ≡ before ++ option_to_list (sent_to listener its) → after ≡ told event (take (i + 1) listeners)
told-more event listeners i listener before after its within is so_far what pushed =
    let more : take (i + 1) listeners ≡ take i listeners ++ listener ∷ [] = take_more listeners i listener within ∙ ap (λ (p : Listener). take i listeners ++ p ∷ []) (sym is) in
    let front : told event (take (i + 1) listeners) ≡ told event (take i listeners ++ listener ∷ []) = ap (told event) more in
    let both : told event (take i listeners ++ listener ∷ []) ≡ told event (take i listeners) ++ told event (listener ∷ []) = filter_map-append (λ (l : Listener). sent_to l (event l.registration)) (take i listeners) (listener ∷ []) in
    let last : told event (listener ∷ []) ≡ option_to_list (sent_to listener (event listener.registration)) = alone (sent_to listener (event listener.registration)) in
    pushed
    ∙ ap (λ (all : List Sent). all ++ option_to_list (sent_to listener its)) so_far
    ∙ ap (λ (o : Option (List ℕ)). told event (take i listeners) ++ option_to_list (sent_to listener o)) what
    ∙ sym (front ∙ both ∙ ap (λ (end : List Sent). told event (take i listeners) ++ end) last)
