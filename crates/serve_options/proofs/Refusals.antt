-- How a parse of `grid serve` ends, by the faults of the words.
use Rattle.std.proofs.Common.{◌≡◌, ap, sym, subst, inl, inr, [], true, Result, Ok, Err, IfErr, IsErrAnd}
use Rattle.clap.specs.Faults.{fault_of, is_simple_and_free}
use Rattle.clap.specs.Kinds.{HasKind, IsAmong, Kinds}
use Rattle.clap.specs.Simple.{App, app_of}
use Rattle.clap.specs.Values.{kind_of}
use Rattle.clap.specs.declared.builder.command.Command.{Command}
use Rattle.clap.specs.declared.error.Error.{Error}
use Rattle.clap.specs.declared.error.kind.ErrorKind.{ErrorKind}
use Rattle.clap.specs.declared.error.kind.ErrorKind.TheVariants as kind
use Rattle.serve_options.specs.Options.{IsRefusedFor, Words, faults, refused_for, texts}
use Rattle.serve_options.specs.ServeCommand.{serve_app}
use Rattle.serve_options.specs.declared.refusal.OptionsRefused.{OptionsRefused}

-- a fault of this kind is told by its refusal
fault_told : (all : Kinds) (k : ErrorKind) → IsAmong k all → IsRefusedFor all (refused_for k)
fault_told all kind.InvalidValue among = (kind.InvalidValue, among, λ e. cc)
fault_told all kind.UnknownArgument among = (kind.UnknownArgument, among, λ e. cc)
fault_told all kind.InvalidSubcommand among = (kind.InvalidSubcommand, among, λ e. cc)
fault_told all kind.NoEquals among = (kind.NoEquals, among, λ e. cc)
fault_told all kind.ValueValidation among = (kind.ValueValidation, among, λ e. cc)
fault_told all kind.TooManyValues among = (kind.TooManyValues, among, λ e. cc)
fault_told all kind.TooFewValues among = (kind.TooFewValues, among, λ e. cc)
fault_told all kind.WrongNumberOfValues among = (kind.WrongNumberOfValues, among, λ e. cc)
fault_told all kind.ArgumentConflict among = (kind.ArgumentConflict, among, λ e. cc)
fault_told all kind.MissingRequiredArgument among = (kind.MissingRequiredArgument, among, λ e. cc)
fault_told all kind.MissingSubcommand among = (kind.MissingSubcommand, among, λ e. cc)
fault_told all kind.DisplayHelp among = among
fault_told all kind.DisplayHelpOnMissingArgumentOrSubcommand among = (kind.DisplayHelpOnMissingArgumentOrSubcommand, among, λ e. cc)
fault_told all kind.DisplayVersion among = (kind.DisplayVersion, among, λ e. cc)
fault_told all kind.Io among = (kind.Io, among, λ e. cc)
fault_told all kind.Format among = (kind.Format, among, λ e. cc)
fault_told all kind.OutOfMemory among = tt

-- an error has one of the faults, or memory ran out
told : (all : Kinds) (error : Error) → HasKind all error → IsRefusedFor all (refused_for (kind_of error))
told all error (inl memory) = rw memory tt
told all error (inr among) = fault_told all (kind_of error) among

-- the faults of the command's words are those of the words
same_faults : (command : Command) (words : Words) → app_of command ≡ serve_app → fault_of (app_of command) (texts words) ≡ faults words
same_faults command words app = ap (λ (a : App). fault_of a (texts words)) app

is_free : (command : Command) → app_of command ≡ serve_app → is_simple_and_free (app_of command) ≡ true
is_free command app = ap is_simple_and_free app

pub none_found : (command : Command) (words : Words) → app_of command ≡ serve_app
    → (is_simple_and_free (app_of command) ≡ true → fault_of (app_of command) (texts words) ≡ []) → faults words ≡ []
none_found command words app none = subst (λ (all : Kinds). all ≡ []) (same_faults command words app) (none (is_free command app))

pub refused_as : (command : Command) (words : Words) (error : Error) (T : Type 0) (r : Result T OptionsRefused) → app_of command ≡ serve_app
    → (is_simple_and_free (app_of command) ≡ true → HasKind (fault_of (app_of command) (texts words)) error)
    → IsErrAnd r (λ why. why ≡ refused_for (kind_of error)) → IfErr r (IsRefusedFor (faults words))
refused_as command words error T (Ok x) app fails is = absurd is
refused_as command words error T (Err why) app fails is =
    let has : HasKind (faults words) error = subst (λ (all : Kinds). HasKind all error) (same_faults command words app) (fails (is_free command app)) in
    subst (IsRefusedFor (faults words)) (sym is) (told (faults words) error has)

pub some_fault : (command : Command) (words : Words) (error : Error) → app_of command ≡ serve_app
    → (is_simple_and_free (app_of command) ≡ true → HasKind (fault_of (app_of command) (texts words)) error)
    → (kind_of error ≡ kind.OutOfMemory → ⊥) → faults words ≡ [] → ⊥
some_fault command words error app fails remembered none =
    let has : HasKind (faults words) error = subst (λ (all : Kinds). HasKind all error) (same_faults command words app) (fails (is_free command app)) in
    elim has [
      | inl memory ↦ remembered memory
      | inr among ↦ subst (IsAmong (kind_of error)) none among
    ]
