use Rattle.std.proofs.Common.{option_to_list}
use Rattle.fixed_fields.specs.Fields.{int64_bytes}
use Rattle.request_codecs.proofs.Writing.{all_written}
use Rattle.std.proofs.lemmas.Result.{on_ok_weaker}
use Rattle.request_codecs.proofs.numbers.write_numbers.Goals as goal

pub returns : goal.returns
returns c = on_ok_weaker c.write_number-3.result (λ is. all_written int64_bytes c.args.out.now.items c.write_number.new.out.items c.write_number-2.new.out.items c.write_number-3.new.out.items
    (option_to_list c.args.numbers.thread) (option_to_list c.args.numbers.time) (option_to_list c.args.numbers.idle) c.in_ok-write_number.ensures c.in_ok-write_number-2.ensures is) c.write_number-3.ensures
