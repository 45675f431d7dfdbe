-- A request under another correlation.
use Rattle.std.specs.Prelude.{ℕ, ℤ, List, ◌++◌, take, drop}
use Rattle.fixed_fields.specs.Fields.{int64_bytes}

-- It has its correlation behind the six bytes before its first payload and the four of its type.
abbrev pub readdressed : ℤ → List ℕ → List ℕ
readdressed correlation request = take 10 request ++ int64_bytes correlation ++ drop 18 request
