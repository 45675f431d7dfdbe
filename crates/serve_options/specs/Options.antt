-- What the words of `grid serve` say, and why they are refused.
use Rattle.std.specs.Prelude.{◌≡◌, ◌≢◌, ◌≤◌, ⊤, ℕ, Bool, false, List, map, Option, Some, option_map, codes, String, string_bytes}
use Rattle.std.specs.Option.{option_map_or}
use Rattle.std.specs.Str.{bytes_eq}
use Rattle.std.specs.Str.Parse.{digits_value, without_leading_plus}
use Rattle.std.specs.declared.alloc.Global.{Global}
use Rattle.clap.specs.Words.{IsAmong, Kinds, Text, fault_of, matches_of, one_of}
use Rattle.clap.specs.declared.error.kind.ErrorKind.{ErrorKind}
use Rattle.clap.specs.declared.error.kind.ErrorKind.TheVariants.{DisplayHelp, OutOfMemory}
use Rattle.serve_options.specs.ServeCommand.{serve_app}
use Rattle.serve_options.specs.declared.options.ServeOptions.{ServeOptions}
use Rattle.serve_options.specs.declared.refusal.OptionsRefused.{OptionsRefused}
use Rattle.serve_options.specs.declared.refusal.OptionsRefused.TheVariants.{Help, Usage, Memory}

abbrev pub Words : Type 0
Words = List (String Global)

abbrev pub texts : Words → List Text
texts = map (λ word. string_bytes word)

-- what clap finds wrong with the words, a wish for help included; nothing where it takes them
abbrev pub faults : Words → Kinds
faults words = fault_of serve_app (texts words)

-- the text that the words give an option, or else its default
abbrev pub text_of : Text → Words → Option Text
text_of name words = one_of name (matches_of serve_app (texts words))

-- the number that this text writes
abbrev pub number_of : Text → Words → Option ℕ
number_of name words = option_map (λ text. digits_value 10 (without_leading_plus text)) (text_of name words)

-- the words have the flag
abbrev pub has_flag : Text → Words → Bool
has_flag name words = option_map_or (λ text. bytes_eq text (codes "true")) (text_of name words) false

-- each option is what the words say of it
pub record AreOptions (words : Words) (options : ServeOptions) : Type 0 where
  pub members : number_of (codes "members") words ≡ Some options.members
  pub backups : number_of (codes "backups") words ≡ Some options.backups
  pub capacity : number_of (codes "capacity") words ≡ Some options.capacity
  pub port : number_of (codes "port") words ≡ Some options.port
  pub stays : options.stays ≡ has_flag (codes "stay") words

pub record AreInRange (options : ServeOptions) : Type 0 where
  pub some_member : 1 ≤ options.members
  pub most_members : options.members ≤ 8
  pub most_backups : options.backups ≤ 6
  pub most_capacity : options.capacity ≤ 2147483647
  pub some_port : 1 ≤ options.port
  pub most_port : options.port ≤ 65528

-- what it means that a parse failed for this
abbrev pub refused_for : ErrorKind → OptionsRefused
refused_for DisplayHelp = Help
refused_for OutOfMemory = Memory
refused_for kind = Usage

-- words with these faults are refused in this way: one of the faults says so, or memory ran out
abbrev pub IsRefusedFor : Kinds → OptionsRefused → Type 0
IsRefusedFor faults Help = IsAmong DisplayHelp faults
IsRefusedFor faults Usage = (fault : ErrorKind) × IsAmong fault faults × (fault ≢ DisplayHelp)
IsRefusedFor faults Memory = ⊤
