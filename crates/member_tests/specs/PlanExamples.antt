-- Plans, which the definitions of `rebalance` compute.
use Rattle.std.specs.Prelude.{◌≡◌, ℕ, ◌%◌, Bool, true, false, nat_eq, if◌then◌else◌, List, [], ◌∷◌, ◌++◌, length, map, replicate, take, drop, refl}
use Rattle.std.specs.List.{range_with_len}
use Rattle.partition_table.specs.declared.members.RowMember.{RowMember}
use Rattle.partition_table.specs.declared.row.Row.{Row}
use Rattle.partition_table.specs.Rows.{eligible_member, is_empty}
use Rattle.rebalance.specs.declared.steps.Step.{Step}
use Rattle.rebalance.specs.declared.steps.StepKind.{StepKind}
use Rattle.rebalance.specs.declared.steps.StepKind.TheVariants.{Move, Handover}
use Rattle.rebalance.specs.Plans.{Planned, NoMember, Unsettled, Balanced, plan_of}

-- a row of these members, the primary first; a lost one of none
abbrev row_of : List ℕ → Row
row_of members = record { version = 1; reset = 0; lost = is_empty members; members = map eligible_member members }

abbrev step : ℕ → ℕ → ℕ → StepKind → Step
step partition from to kind = record { partition = partition; from = from; to = to; kind = kind }

abbrev none_moves : ℕ → List Bool
none_moves count = replicate count false

-- lost rows are left, and a load that is shared evenly gets nothing

abbrev twelve : List Row
twelve =
    map row_of
    ((0 ∷ []) ∷ (0 ∷ 2 ∷ []) ∷ [] ∷ (0 ∷ 2 ∷ 1 ∷ []) ∷ [] ∷ (2 ∷ 1 ∷ 0 ∷ []) ∷ [] ∷ (0 ∷ 2 ∷ []) ∷ (0 ∷ 1 ∷ []) ∷ [] ∷ (0 ∷ []) ∷ (0 ∷ 1 ∷ 2 ∷ []) ∷ [])

leaves_lost_rows
    : plan_of twelve (none_moves 12) [] 3
    ≡ Balanced (record {
      steps = step 0 0 1 Move ∷ step 1 0 1 Move ∷ step 3 0 2 Handover ∷ step 7 0 2 Handover ∷ [];
      targets = 3 ∷ 2 ∷ 3 ∷ [];
      excess = 4;
    })
leaves_lost_rows = refl

-- refusals

abbrev joining : Row
joining = record { version = 2; reset = 0; lost = false; members = eligible_member 0 ∷ (let later : RowMember = record { member = 2; eligible = false } in later) ∷ [] }

abbrev four : List Row
four = row_of (0 ∷ 1 ∷ []) ∷ row_of [] ∷ row_of (1 ∷ 2 ∷ []) ∷ joining ∷ []

a_member_that_may_not_lead_yet_is_in_the_way : plan_of four (none_moves 4) [] 3 ≡ Unsettled 3
a_member_that_may_not_lead_yet_is_in_the_way = refl

a_move_is_in_the_way_and_of_a_lost_row_is_not : plan_of four (false ∷ true ∷ true ∷ false ∷ []) [] 3 ≡ Unsettled 2
a_move_is_in_the_way_and_of_a_lost_row_is_not = refl

without_members_there_is_no_plan : plan_of (row_of [] ∷ []) (true ∷ []) (1 ∷ 0 ∷ []) 2 ≡ NoMember
without_members_there_is_no_plan = refl

a_lost_row_alone_needs_no_step : plan_of (row_of [] ∷ []) (true ∷ []) [] 2 ≡ Balanced (record { steps = []; targets = 0 ∷ 0 ∷ []; excess = 0 })
a_lost_row_alone_needs_no_step = refl

-- of 271 partitions whose fourth member crashed

abbrev left_by_the_fourth : ℕ → Row
left_by_the_fourth partition =
    if nat_eq (partition % 4) 0 then row_of (0 ∷ 1 ∷ [])
    else if nat_eq (partition % 4) 1 then row_of (1 ∷ 2 ∷ [])
    else if nat_eq (partition % 4) 2 then row_of (2 ∷ [])
    else row_of (0 ∷ [])

-- the targets, the excess, the number of steps and five of them
pub record Outline : Type 0 where
  pub targets : List ℕ
  pub excess : ℕ
  pub count : ℕ
  pub some : List Step

abbrev outline : Planned → List Outline
outline (Balanced plan) = record { targets = plan.targets; excess = plan.excess; count = length plan.steps; some = take 2 plan.steps ++ take 2 (drop 21 plan.steps) ++ drop 43 plan.steps } ∷ []
outline _ = []

takes_over_for_the_fourth_of_four
    : outline (plan_of (map left_by_the_fourth (range_with_len 0 271)) (none_moves 271) (3 ∷ []) 4)
    ≡ (record {
      targets = 91 ∷ 90 ∷ 90 ∷ 0 ∷ [];
      excess = 44;
      count = 44;
      some = step 0 0 1 Handover ∷ step 3 0 1 Move ∷ step 43 0 1 Move ∷ step 44 0 2 Move ∷ step 87 0 2 Move ∷ [];
    }) ∷ []
takes_over_for_the_fourth_of_four = refl
