-- Threads that were numbered and have ended.
use Rattle.std.proofs.Common.{◌≡◌, ℕ, ◌+◌, List, [], ◌∷◌, ◌++◌, map, length, All, sym, ap, ◌∙◌, add-one, append_assoc, append-nil}
use Rattle.std.proofs.lemmas.List.{map-append}
use Rattle.std.proofs.lemmas.List.Elements.{All-nil, All-cons, All-append}
use Rattle.thread_crew.specs.declared.room.Ended.{Ended}
use Rattle.thread_crew.specs.Rooms.{Numbered, number_of, thread_of, numbers_below, HasGivenItsNumber}

-- these threads have the numbers below this one
pub record HaveNumbers (number : ℕ) (made : List Numbered) : Type 0 where
  pub numbers : map number_of made ≡ numbers_below number
  pub count : length made ≡ number

-- one more thread, with the next number
pub one_more : (number : ℕ) (made : List Numbered) (thread : Numbered) → number_of thread ≡ number → map number_of made ≡ numbers_below number
    → map number_of (made ++ thread ∷ []) ≡ numbers_below (number + 1)
one_more number made thread is numbers =
    map-append number_of made (thread ∷ []) ∙ (ap (λ l. l ++ number_of thread ∷ []) numbers ∙ (ap (λ n. numbers_below number ++ n ∷ []) is ∙ ap numbers_below (sym (add-one number))))

-- All but these have ended
pub record HaveJoined (made rest : List Numbered) (ended : List Ended) : Type 0 where
  pub all : map thread_of ended ++ rest ≡ made
  pub gave : All HasGivenItsNumber ended

pub none_joined : (made rest : List Numbered) → rest ≡ made → HaveJoined made rest []
none_joined made rest same = record { all = same; gave = All-nil HasGivenItsNumber }

pub one_joined : (made rest later : List Numbered) (ended : List Ended) (thread : Numbered) (one : Ended) → HaveJoined made rest ended → rest ≡ thread ∷ later
    → thread_of one ≡ thread → HasGivenItsNumber one → HaveJoined made later (ended ++ one ∷ [])
one_joined made rest later ended thread one have first is gave = record {
  all = ap (λ l. l ++ later) (map-append thread_of ended (one ∷ [])) ∙ (append_assoc (map thread_of ended) (thread_of one ∷ []) later
      ∙ (ap (λ t. map thread_of ended ++ t ∷ later) is ∙ (ap (λ l. map thread_of ended ++ l) (sym first) ∙ have.all)));
  gave = All-append HasGivenItsNumber ended (one ∷ []) have.gave (All-cons HasGivenItsNumber one [] gave (All-nil HasGivenItsNumber));
}

pub all_joined : (made rest : List Numbered) (ended : List Ended) → HaveJoined made rest ended → rest ≡ [] → map thread_of ended ≡ made
all_joined made rest ended have none = sym (append-nil (map thread_of ended)) ∙ (ap (λ l. map thread_of ended ++ l) (sym none) ∙ have.all)
