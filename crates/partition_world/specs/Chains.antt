-- A history as a chain of pairs, each of which counts entries of its version.
use Rattle.std.specs.Prelude.{ℕ, List, [], ◌++◌, reverse, Option, Some, None}
use Rattle.std.specs.List.{flat_map}
use Rattle.partition_protocol.specs.Node.{Pair}
use Rattle.partition_protocol.specs.History.{Entry, Opening, opening_at, entries_in}
use Rattle.partition_world.specs.declared.chain.Chain.{Chain}

-- the history at the reopening with that reset, and nothing where there is none
abbrev pub begun_with : {C : Type 0} → List (Opening C) → Option ℕ → List (Entry C)
begun_with openings None = []
begun_with openings (Some reset) = opening_at reset openings

-- what each of these pairs counts, where the newest stands first
abbrev pub counted_by : {C : Type 0} → List (Entry C) → List Pair → List (Entry C)
counted_by log pairs = flat_map (λ (p : Pair). entries_in p log) (reverse pairs)

-- the history that the chain tells
abbrev pub told : {C : Type 0} → List (Opening C) → List (Entry C) → Chain → List (Entry C)
told openings log chain = begun_with openings chain.anew ++ counted_by log chain.pairs.items
