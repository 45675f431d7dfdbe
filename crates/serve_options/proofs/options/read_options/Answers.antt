use Rattle.std.proofs.Common.{◌∙◌, arith, codes}
use Rattle.serve_options.proofs.Refusals.{none_found, refused_as}
use Rattle.serve_options.proofs.ServeReads.{backups_at, capacity_at, flag_read, members_at, number_given, number_read, port_at, serve_parse, some_read}
use Rattle.serve_options.proofs.options.read_options.Goals as goal

pub unwrap-requires : goal.unwrap-requires
unwrap-requires c =
    let parse = serve_parse c.args.words.now c.in_ok-serve_command.field-0 c.in_ok-matches.matches
    c.in_ok-serve_command.ensures c.in_ok-matches.ensures.parsed c.in_ok-matches.ensures.matches in
    some_read c.args.words.now (codes "members") 1 8 c.get_one.result
    (number_read c.args.words.now c.in_ok-matches.matches parse 0 (codes "members") (codes "3") 1 8 8 members_at (omega arith)
    c.get_one.result c.get_one.ensures.value)

pub unwrap-requires-2 : goal.unwrap-requires-2
unwrap-requires-2 c =
    let parse = serve_parse c.args.words.now c.in_ok-serve_command.field-0 c.in_ok-matches.matches
    c.in_ok-serve_command.ensures c.in_ok-matches.ensures.parsed c.in_ok-matches.ensures.matches in
    some_read c.args.words.now (codes "backups") 0 6 c.get_one-2.result
    (number_read c.args.words.now c.in_ok-matches.matches parse 1 (codes "backups") (codes "1") 0 6 8 backups_at (omega arith)
    c.get_one-2.result c.get_one-2.ensures.value)

pub unwrap-requires-3 : goal.unwrap-requires-3
unwrap-requires-3 c =
    let parse = serve_parse c.args.words.now c.in_ok-serve_command.field-0 c.in_ok-matches.matches
    c.in_ok-serve_command.ensures c.in_ok-matches.ensures.parsed c.in_ok-matches.ensures.matches in
    some_read c.args.words.now (codes "capacity") 0 2147483647 c.get_one-3.result
    (number_read c.args.words.now c.in_ok-matches.matches parse 2 (codes "capacity") (codes "1000") 0 2147483647 32 capacity_at (omega arith)
    c.get_one-3.result c.get_one-3.ensures.value)

pub unwrap-requires-4 : goal.unwrap-requires-4
unwrap-requires-4 c =
    let parse = serve_parse c.args.words.now c.in_ok-serve_command.field-0 c.in_ok-matches.matches
    c.in_ok-serve_command.ensures c.in_ok-matches.ensures.parsed c.in_ok-matches.ensures.matches in
    some_read c.args.words.now (codes "port") 1 65528 c.get_one-4.result
    (number_read c.args.words.now c.in_ok-matches.matches parse 3 (codes "port") (codes "5701") 1 65528 16 port_at (omega arith)
    c.get_one-4.result c.get_one-4.ensures.value)

pub returns : goal.returns
returns c =
    let parse = serve_parse c.args.words.now c.in_ok-serve_command.field-0 c.in_ok-matches.matches
    c.in_ok-serve_command.ensures c.in_ok-matches.ensures.parsed c.in_ok-matches.ensures.matches in
    let members = number_given c.args.words.now (codes "members") 1 8 c.get_one.result c.unwrap.result
    (number_read c.args.words.now c.in_ok-matches.matches parse 0 (codes "members") (codes "3") 1 8 8 members_at (omega arith)
    c.get_one.result c.get_one.ensures.value) c.unwrap.ensures in
    let backups = number_given c.args.words.now (codes "backups") 0 6 c.get_one-2.result c.unwrap-2.result
    (number_read c.args.words.now c.in_ok-matches.matches parse 1 (codes "backups") (codes "1") 0 6 8 backups_at (omega arith)
    c.get_one-2.result c.get_one-2.ensures.value) c.unwrap-2.ensures in
    let capacity = number_given c.args.words.now (codes "capacity") 0 2147483647 c.get_one-3.result c.unwrap-3.result
    (number_read c.args.words.now c.in_ok-matches.matches parse 2 (codes "capacity") (codes "1000") 0 2147483647 32 capacity_at (omega arith)
    c.get_one-3.result c.get_one-3.ensures.value) c.unwrap-3.ensures in
    let port = number_given c.args.words.now (codes "port") 1 65528 c.get_one-4.result c.unwrap-4.result
    (number_read c.args.words.now c.in_ok-matches.matches parse 3 (codes "port") (codes "5701") 1 65528 16 port_at (omega arith)
    c.get_one-4.result c.get_one-4.ensures.value) c.unwrap-4.ensures in
    record {
      options = record {
        members = members.0;
        backups = backups.0;
        capacity = capacity.0;
        port = port.0;
        stays = c.eq.ensures ∙ flag_read c.args.words.now c.in_ok-matches.matches parse (codes "stay") c.get_one-5.result c.get_one-5.ensures.none c.get_one-5.ensures.value;
      };
      ranges = record {
        some_member = members.1;
        most_members = members.2;
        most_backups = backups.2;
        most_capacity = capacity.2;
        some_port = port.1;
        most_port = port.2;
      };
      taken = none_found c.in_ok-serve_command.field-0 c.args.words.now c.in_ok-serve_command.ensures c.in_ok-matches.ensures.kinds;
      refused = tt;
    }

pub returns-in_err-matches-clause-refused : goal.returns-in_err-matches-clause-refused
returns-in_err-matches-clause-refused c = refused_as c.in_ok-serve_command.field-0 c.args.words.now c.in_err-matches.field-0.0 _ c.from_residual-in_err-matches.result
    c.in_ok-serve_command.ensures c.in_err-matches.ensures.kinds c.from_residual-in_err-matches.ensures.1
