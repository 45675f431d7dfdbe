use Rattle.std.proofs.Common.{◌≡◌, rules, ◌∙◌}
use Rattle.partition_table.specs.Rows.{without}
use Rattle.std.proofs.lemmas.Bool.{not_from_false}
use Rattle.partition_table.proofs.RowLaws.{is_in-without, begins_eligible-without, distinct-without}
use Rattle.partition_table.proofs.row.Row.without.Goals as goal

pub returns-in_ok-led_by-in-Some-clause-gone : goal.returns-in_ok-led_by-in-Some-clause-gone
returns-in_ok-led_by-in-Some-clause-gone c =
    let row : c.next-in-Some.result ≡ without c.args.self.now c.args.member = search rules in
    rw row (is_in-without c.args.self.now c.args.member)

pub returns-in_ok-led_by-in-Some-clause-led : goal.returns-in_ok-led_by-in-Some-clause-led
returns-in_ok-led_by-in-Some-clause-led c =
    let row : c.next-in-Some.result ≡ without c.args.self.now c.args.member = search rules in
    rw row (λ stands. begins_eligible-without c.args.self.now c.args.member ∙ not_from_false _ stands)

pub returns-in_ok-led_by-in-Some-clause-distinct :
    goal.returns-in_ok-led_by-in-Some-clause-distinct
returns-in_ok-led_by-in-Some-clause-distinct c =
    let row : c.next-in-Some.result ≡ without c.args.self.now c.args.member = search rules in
    rw row (distinct-without c.args.self.now c.args.member)
