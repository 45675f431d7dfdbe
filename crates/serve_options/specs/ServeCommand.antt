-- The command `grid serve`, in clap's words: which options it has.
use Rattle.std.specs.Prelude.{ℕ, pos, List, [], ◌∷◌, Some, fold, codes}
use Rattle.clap.specs.Words.{App, Rule, Text, new_app, new_rule, with_rule}
use Rattle.clap.specs.declared.builder.action.ArgAction.TheVariants.{Set, SetTrue}
use Rattle.clap.specs.declared.builder.value_parser.ValueParser.{ValueParser}
use Rattle.clap.specs.declared.builder.value_parser.ValueParser.TheVariants as parser

-- a decimal number from `least` to `most`
abbrev pub from_to : ℕ → ℕ → ValueParser
from_to least most = parser.Signed (pos least) (pos most)

-- an option of this name with one value, or else the default
abbrev pub valued : Text → ValueParser → Text → Rule
valued name values default = record (new_rule name) {
  long = Some name;
  action = Some Set;
  value_names = 1;
  parser = Some values;
  defaults = default ∷ [];
}

-- an option of this name with no value
abbrev pub flag : Text → Rule
flag name = record (new_rule name) { long = Some name; action = Some SetTrue }

-- the options of `grid serve`: names, bounds and defaults
abbrev pub serve_rules : List Rule
serve_rules = valued (codes "members") (from_to 1 8) (codes "3")
    ∷ valued (codes "backups") (from_to 0 6) (codes "1")
    ∷ valued (codes "capacity") (from_to 0 2147483647) (codes "1000")
    ∷ valued (codes "port") (from_to 1 65528) (codes "5701") ∷ flag (codes "stay") ∷ []

abbrev pub serve_app : App
serve_app = fold with_rule (new_app (codes "grid serve")) serve_rules
