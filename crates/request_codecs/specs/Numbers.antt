-- The numbers that a call on a map's entry brings.
use Rattle.std.specs.Prelude.{ℤ, List, ◌++◌, option_to_list}
use Rattle.request_codecs.specs.declared.numbers.Numbers.{Numbers}

abbrev pub numbers_in : Numbers → List ℤ
numbers_in numbers = option_to_list numbers.thread ++ option_to_list numbers.time ++ option_to_list numbers.idle
