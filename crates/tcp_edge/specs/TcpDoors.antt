-- What contracts see of the doors.
use Rattle.std.specs.Prelude.{ℕ, List, [], Option, None, Some}
use Rattle.grid_edge.specs.declared.doors.Opening.{Opening}
use Rattle.grid_edge.specs.Doors.{Arrival, Return, Book}
use Rattle.tcp_edge.specs.declared.hall.Hall.{Hall}

-- the connections that came, and those that were given back
pub record Listed : Type 0 where
  pub arrivals : List Arrival
  pub returns : List Return

abbrev pub none_listed : Listed
none_listed = record { arrivals = []; returns = [] }

-- the last opening that went well, which connections came since, which were given back, and the counts of faults and of empty looks
pub record TcpDoorway : Type 0 where
  pub opening : Option Opening
  pub listed : Listed
  pub faults : ℕ
  pub looks : ℕ

abbrev pub opening_of : Option Hall → Option Opening
opening_of None = None
opening_of (Some hall) = Some hall.entrance.opening

-- after an opening that went well
abbrev pub opened_for : TcpDoorway → Opening → TcpDoorway
opened_for d opening = record d { opening = Some opening; listed = none_listed }

-- they tell which opening it was, which connections came, and which were given back
abbrev pub book_of : TcpDoorway → Book
book_of d = record { opening = d.opening; arrivals = d.listed.arrivals; returns = d.listed.returns }
