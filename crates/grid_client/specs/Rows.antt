-- The rows that a client heard of, one for a partition at most.
use Rattle.std.specs.Prelude.{ℕ, not, ◌==◌, List, [], ◌∷◌, ◌++◌, filter, Option, option_map, option_and_then, slice_get}
use Rattle.std.specs.List.{find}
use Rattle.event_codecs.specs.declared.seen.SeenRow.{SeenRow}

-- the row that is known of a partition
abbrev pub known_in : ℕ → List SeenRow → Option SeenRow
known_in partition rows = find (λ (r : SeenRow). r.partition == partition) rows

abbrev pub version_in : ℕ → List SeenRow → Option ℕ
version_in partition rows = option_map (λ (r : SeenRow). r.version) (known_in partition rows)

-- A row takes the place of an older one.
abbrev pub knowing : SeenRow → List SeenRow → List SeenRow
knowing row rows = filter (λ (r : SeenRow). not (r.partition == row.partition)) rows ++ row ∷ []

-- the first member of a row leads the partition
abbrev pub leader_in : ℕ → List SeenRow → Option ℕ
leader_in partition rows = option_and_then (λ (r : SeenRow). slice_get r.members 0) (known_in partition rows)
