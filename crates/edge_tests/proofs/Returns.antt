-- Which connections the doors tell were given back.
use Rattle.std.proofs.Common.{◌≡◌, ◌≢◌, ℕ, ◌+◌, ◌<◌, List, [], ◌∷◌, ◌++◌, All, ap, arith}
use Rattle.std.proofs.lemmas.List.Elements.{All-push}
use Rattle.grid_edge.specs.Doors.{Arrival, Return, Book, after_open, after_arrival, after_return}
use Rattle.tcp_edge.specs.TcpDoors.{TcpDoorway, book_of}
use Rattle.edge_tests.specs.Returns.{AreBelow}

abbrev returns_of : Book → List Return
returns_of book = book.returns

module _ (before after : TcpDoorway) where
  pub kept : book_of after ≡ book_of before → after.listed.returns ≡ before.listed.returns
  kept same = ap returns_of same

  pub kept_at_arrival : (arrival : Arrival) → book_of after ≡ after_arrival (book_of before) arrival → after.listed.returns ≡ before.listed.returns
  kept_at_arrival arrival came = ap returns_of came

  pub none_at_opening : (members port : ℕ) → book_of after ≡ after_open members port → AreBelow after.listed.returns 0
  none_at_opening members port opened =
      let none : after.listed.returns ≡ [] = ap returns_of opened in
      rw none (λ k d within. absurd (omega (arith, within)))

  pub below_after_return : (given : Return) (number : ℕ) → given.number ≡ number → book_of after ≡ after_return (book_of before) given → AreBelow before.listed.returns number → AreBelow after.listed.returns (number + 1)
  below_after_return given number is went below =
      let now : after.listed.returns ≡ before.listed.returns ++ given ∷ [] = ap returns_of went in
      rw now (All-push (λ given. given.number < number + 1) before.listed.returns given (λ k d within. omega (arith, below k d within)) (omega (arith, is)))

-- none of them has this number itself
pub is_out : (returns : List Return) (number : ℕ) → AreBelow returns number → All (λ given. given.number ≢ number) returns
is_out returns number below = λ k d within same. omega (arith, below k d within, same)
