-- The calls that arrive, and those that are executed.
use Rattle.std.specs.Prelude.{ℕ, ◌≢◌, List, [], ◌∷◌, ◌++◌, Contains}
use Rattle.partition_protocol.specs.History.{Entry, Called, Reset}
use Rattle.partition_protocol.specs.Events.{Event, Call}

-- a call as it arrives: its connection and number, its moment, and what it asks
pub record Asked (C : Type 0) : Type 0 where
  pub conn : ℕ
  pub number : ℕ
  pub now : ℕ
  pub call : C

-- the connection and the number name a call
pub record CallName : Type 0 where
  pub conn : ℕ
  pub number : ℕ

-- the name of a call that arrived
abbrev pub name : {C : Type 0} → Asked C → CallName
name a = record { conn = a.conn; number = a.number }

-- the call that an event brings, if it brings one
abbrev pub asked_by : {C : Type 0} → Event C → List (Asked C)
asked_by (Call m conn number call now) = record { conn = conn; number = number; now = now; call = call } ∷ []
asked_by _ = []

-- the calls that arrive, in order
abbrev pub arrivals : {C : Type 0} → List (Event C) → List (Asked C)
arrivals [] = []
arrivals (e ∷ es) = asked_by e ++ arrivals es

-- the calls that were executed, in order
abbrev pub calls_in : {C : Type 0} → List (Entry C) → List (Asked C)
calls_in [] = []
calls_in (Called x ∷ es) = record { conn = x.conn; number = x.number; now = x.now; call = x.call } ∷ calls_in es
calls_in (Reset r ∷ es) = calls_in es

-- no two have one name
abbrev pub NamedOnce : List CallName → Type 0
NamedOnce [] = Unit {0}
NamedOnce (n ∷ ns) = ((m : CallName) → Contains ns m → m ≢ n) × NamedOnce ns
