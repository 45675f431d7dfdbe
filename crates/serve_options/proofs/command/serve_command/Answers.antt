use Rattle.std.proofs.Common.{rules, ◌≡◌, ◌∙◌, ap, ap₂, codes}
use Rattle.std.proofs.lemmas.Result.{IfOk-weaker}
use Rattle.clap.specs.Words.{app_of, new_app, rule_of, with_rule}
use Rattle.clap.specs.declared.builder.value_parser.ValueParser.{ValueParser}
use Rattle.serve_options.specs.ServeCommand.{flag as flag_rule, from_to, valued as valued_rule}
use Rattle.serve_options.proofs.command.serve_command.Goals as goal

pub returns : goal.returns
returns c =
    let members_range : c.range.result ≡ from_to 1 8 = rw (c.value_parser.ensures, c.new.ensures.start, c.new.ensures.end) at c.range.ensures in
    let members : rule_of c.help.result ≡ valued_rule (codes "members") (from_to 1 8) (codes "3") =
    ap rule_of c.help.ensures ∙ c.valued-members.ensures.rule ∙ ap (λ (q : ValueParser). valued_rule (codes "members") q (codes "3")) members_range in
    let backups_range : c.range-2.result ≡ from_to 0 6 = rw (c.value_parser-2.ensures, c.new-2.ensures.start, c.new-2.ensures.end) at c.range-2.ensures in
    let backups : rule_of c.help-2.result ≡ valued_rule (codes "backups") (from_to 0 6) (codes "1") =
    ap rule_of c.help-2.ensures ∙ c.valued-backups.ensures.rule ∙ ap (λ (q : ValueParser). valued_rule (codes "backups") q (codes "1")) backups_range in
    let capacity_range : c.range-3.result ≡ from_to 0 2147483647 = rw (c.value_parser-3.ensures, c.new-3.ensures.start, c.new-3.ensures.end) at c.range-3.ensures in
    let capacity : rule_of c.help-3.result ≡ valued_rule (codes "capacity") (from_to 0 2147483647) (codes "1000") =
    ap rule_of c.help-3.ensures ∙ c.valued-capacity.ensures.rule ∙ ap (λ (q : ValueParser). valued_rule (codes "capacity") q (codes "1000")) capacity_range in
    let port_range : c.range-4.result ≡ from_to 1 65528 = rw (c.value_parser-4.ensures, c.new-4.ensures.start, c.new-4.ensures.end) at c.range-4.ensures in
    let port : rule_of c.help-4.result ≡ valued_rule (codes "port") (from_to 1 65528) (codes "5701") =
    ap rule_of c.help-4.ensures ∙ c.valued-port.ensures.rule ∙ ap (λ (q : ValueParser). valued_rule (codes "port") q (codes "5701")) port_range in
    let stay : rule_of c.help-5.result ≡ flag_rule (codes "stay") = ap rule_of c.help-5.ensures ∙ c.flag-stay.ensures.rule in
    let named : app_of c.about.result ≡ new_app (codes "grid serve") = search rules in
    let first = c.in_ok-arg.ensures.shape (ap (λ a. a.global) c.help.ensures ∙ c.valued-members.ensures.local) ∙ ap₂ with_rule named members in
    let second = c.in_ok-arg-2.ensures.shape (ap (λ a. a.global) c.help-2.ensures ∙ c.valued-backups.ensures.local) ∙ ap₂ with_rule first backups in
    let third = c.in_ok-arg-3.ensures.shape (ap (λ a. a.global) c.help-3.ensures ∙ c.valued-capacity.ensures.local) ∙ ap₂ with_rule second capacity in
    let fourth = c.in_ok-arg-4.ensures.shape (ap (λ a. a.global) c.help-4.ensures ∙ c.valued-port.ensures.local) ∙ ap₂ with_rule third port in
    let local = ap (λ a. a.global) c.help-5.ensures ∙ c.flag-stay.ensures.local in
    IfOk-weaker c.arg-5.result _ _ (λ command added. added.shape local ∙ ap₂ with_rule fourth stay) c.arg-5.ensures
