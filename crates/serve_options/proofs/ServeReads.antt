-- What a parse of `grid serve` that succeeds gives of each option.
use Rattle.std.proofs.Common.{lit≤, ◌≡◌, ◌∙◌, ◌<◌, ◌≤◌, ◌^◌, ◌&&◌, is_some, ap, sym, subst, inl, inr, arith, ℕ, Bool, not, true, false, zero, suc, refl, List, [], ◌∷◌, length, map, Option, Some, None, Result, Ok, codes, option_map, true≢false}
use Rattle.std.specs.Prelude.{IsSome}
use Rattle.std.specs.List.{list_all, slice_index_or}
use Rattle.std.specs.Str.{bytes_eq}
use Rattle.std.specs.Borrow.{Bor}
use Rattle.std.specs.Str.Parse.{ExplainsUnsignedError, HasUnsignedDigitsIfOk, ParsesBool, ParsesUnsigned, digits_value, without_leading_plus}
use Rattle.std.specs.declared.num.ParseIntError.{ParseIntError}
use Rattle.std.specs.declared.str.ParseBoolError.{ParseBoolError}
use Rattle.std.proofs.lemmas.Bool.{false_from_ne_true}
use Rattle.std.specs.Option.{option_eq}
use Rattle.std.specs.Bool.{beq}
use Rattle.std.proofs.Math.ListN.{get_or-map}
use Rattle.std.proofs.lemmas.List.{length-map}
use Rattle.std.proofs.lemmas.Slice.Eq.{bytes_eq-Decides}
use Rattle.clap.specs.Facts.{Entry, EntryPasses, HasId, WantsDefault, args_of, groups_of, unwrap_or_range}
use Rattle.clap.specs.Texts.{items_of}
use Rattle.clap.specs.Built.{IsAuto, IsParsedFrom}
use Rattle.clap.specs.Matches.{ReadsOne, found_of, matched_of, one_text}
use Rattle.clap.specs.Simple.{App, HasMatchesOf, app_of, matches_of}
use Rattle.clap.specs.Lexer.{without_minus}
use Rattle.clap.specs.Values.{Accepts, read_as, reading_of}
use Rattle.clap.specs.Walk.{Rule, Text, is_empty, is_simple_arg, one_of, rows_of, rule_of}
use Rattle.clap.specs.declared.builder.arg.Arg.{Arg}
use Rattle.clap.specs.declared.builder.command.Command.{Command}
use Rattle.clap.specs.declared.builder.range.ValueRange.{ValueRange}
use Rattle.clap.specs.declared.builder.value_parser.ValueParser.{ValueParser}
use Rattle.clap.specs.declared.builder.value_parser.Reading.{Reading}
use Rattle.clap.specs.declared.parser.matches.ArgMatches.{ArgMatches}
use Rattle.clap.specs.declared.parser.matches.Found.{Found}
use Rattle.clap.specs.declared.parser.matches.MatchedArg.{MatchedArg}
use Rattle.clap.proofs.CallerLemmas.{default_present, entry_by_id, same_rules_by_id}
use Rattle.clap.proofs.CallerReads.{signed_reads}
use Rattle.clap.proofs.SimpleLemmas.{HasPlainFields, all_simple, is_false, is_nil, plain_fields, simple_groups}
use Rattle.clap.proofs.WalkLemmas.{both, one_text-rows}
use Rattle.serve_options.specs.Options.{Words, has_flag, number_of, text_of, texts}
use Rattle.serve_options.specs.ServeCommand.{from_to, serve_app, serve_rules, valued}
use Rattle.serve_options.proofs.EntryReads.{EachTakesOne, HasText, TakesOne, entry_text, found_at, takes_one_built}

-- the rule at place k has this id, and no other
abbrev pub is_only_at : ℕ → Text → List Rule → Bool
is_only_at k id [] = true
is_only_at zero id (r ∷ rules) = list_all (λ s. not (bytes_eq s.id id)) rules
is_only_at (suc k) id (r ∷ rules) = not (bytes_eq r.id id) && is_only_at k id rules

none_has : (id : Text) (rules : List Rule) → list_all (λ s. not (bytes_eq s.id id)) rules ≡ true
    → (j : ℕ) (d : Rule) → j < length rules → bytes_eq (slice_index_or rules j d).id id ≡ false
none_has id [] none j d lt = absurd (omega arith)
none_has id (r ∷ rules) none zero d lt = is_false _ (both _ _ none).0
none_has id (r ∷ rules) none (suc j) d lt = none_has id rules (both _ _ none).1 j d (omega arith)

only_place : (k : ℕ) (id : Text) (rules : List Rule) → is_only_at k id rules ≡ true
    → (j : ℕ) (d : Rule) → j < length rules → bytes_eq (slice_index_or rules j d).id id ≡ true → j ≡ k
only_place k id [] only j d lt same = absurd (omega arith)
only_place zero id (r ∷ rules) only zero d lt same = refl
only_place zero id (r ∷ rules) only (suc j) d lt same =
    let bad : true ≡ false = sym same ∙ none_has id rules only j d (omega arith) in
    absurd (true≢false bad)
only_place (suc k) id (r ∷ rules) only zero d lt same =
    let bad : true ≡ false = sym same ∙ is_false _ (both _ _ only).0 in
    absurd (true≢false bad)
only_place (suc k) id (r ∷ rules) only (suc j) d lt same = ap suc (only_place k id rules (both _ _ only).1 j d (omega arith) same)

-- the option at a place of the table
pub record IsOptionAt (k : ℕ) (name : Text) (values : ValueParser) (default : Text) : Type 0 where
  pub within : k < length serve_rules
  pub at : (d : Rule) → slice_index_or serve_rules k d ≡ valued name values default
  pub only : is_only_at k name serve_rules ≡ true
  pub named : name ≡ [] → ⊥
  pub no_help : bytes_eq name (codes "help") ≡ false
  pub no_version : bytes_eq name (codes "version") ≡ false

-- the command that was parsed, and what of
pub record IsServeParse (words : Words) (m : ArgMatches) : Type 0 where
  pub command : Command
  pub app : app_of command ≡ serve_app
  pub parsed : IsParsedFrom command m
  pub rows : rows_of (found_of m) ≡ matches_of serve_app (texts words)

pub serve_parse : (words : Words) (command : Command) (m : ArgMatches) → app_of command ≡ serve_app → IsParsedFrom command m
    → HasMatchesOf (app_of command) (texts words) m → IsServeParse words m
serve_parse words command m app parsed matches =
    let of_serve : HasMatchesOf serve_app (texts words) m = subst (λ (a : App). HasMatchesOf a (texts words) m) app matches in
    record { command = command; app = app; parsed = parsed; rows = (of_serve refl).0 }

none_of : {X : Type 0} (o : Option X) → not (is_some o) ≡ true → o ≡ None
none_of None e = refl
none_of (Some x) e = absurd (true≢false (sym e))

some_from : {X Y : Type 0} (f : X → Y) (xs : List X) (y : Y) → map f xs ≡ y ∷ [] → 0 < length xs
some_from f [] y e = cc
some_from f (x ∷ xs) y e = omega arith

-- an argument that has the rule of such an option
takes_one : (name default : Text) (values : ValueParser) (a : Arg) → rule_of a ≡ valued name values default → TakesOne values a × WantsDefault a
takes_one name default values a is =
    let simple : is_simple_arg a ≡ true = ap (λ (r : Rule). r.is_simple) is in
    let no_ifs = both (is_empty a.default_vals_ifs.items) _ (both _ _ simple).1 in
    let no_delimiter = both (not (is_some a.val_delim)) _ (both _ _ no_ifs.1).1 in
    let no_range : a.num_vals ≡ None = ap (λ (r : Rule). r.range) is in
    let given : map (λ (s : Bor Text). s.now) (items_of a.default_vals) ≡ default ∷ [] = ap (λ (r : Rule). r.defaults) is in (
      record {
        action = ap (λ (r : Rule). r.action) is;
        least = subst (λ (o : Option ValueRange). 1 ≤ (unwrap_or_range o).start_inclusive) (sym no_range) (lit≤ tt);
        delimiter = none_of _ no_delimiter.0;
        parser = ap (λ (r : Rule). r.parser) is;
        any_case = ap (λ (r : Rule). r.ignore_case) is;
      },
      (is_nil _ no_ifs.0, some_from _ _ _ given),
    )

-- as `from_str` reads a number of so many bits
abbrev pub ParsesNumber : ℕ → Text → Result ℕ ParseIntError → Type 0
ParsesNumber bits text r = ParsesUnsigned bits 10 text r × ExplainsUnsignedError 10 text r × HasUnsignedDigitsIfOk text r

-- what was read is the number that the words give the option
pub record ReadsNumber (words : Words) (name : Text) (low high : ℕ) (r : Option ℕ) : Type 0 where
  pub value : ℕ
  pub is : r ≡ Some value
  pub said : number_of name words ≡ Some value
  pub least : low ≤ value
  pub most : value ≤ high

-- one of the options, with the text that was found for it
pub record HasAccepted (m : ArgMatches) (name : Text) (values : ValueParser) : Type 0 where
  pub text : Text
  pub found : one_text (found_of m) name ≡ Some (read_as (reading_of values) text)
  pub accepted : Accepts false values text

read_entry : (f : Found) (id : Text) (x : MatchedArg) (text : Bor Text) (rest : List (Bor Text)) (how : Reading)
    → matched_of f id ≡ Some x → x.vals.items ≡ text ∷ rest → x.reading ≡ how → one_text f id ≡ Some (read_as how text.now)
read_entry f id x text rest how found all reading = rw (found, all, reading) refl

some_arg : (xs : List Arg) → 0 < length xs → Arg
some_arg [] some = absurd (omega arith)
some_arg (a ∷ xs) some = a

module _ (words : Words) (m : ArgMatches) (p : IsServeParse words m) where
  plain : HasPlainFields p.command
  plain = plain_fields p.command (ap (λ (a : App). a.top.is_plain) p.app)

  no_groups : groups_of p.parsed.built ≡ []
  no_groups = (p.parsed.from.same_groups (simple_groups p.command (ap (λ (a : App). all_simple a.top.rules) p.app))).1 ∙ plain.groups

  rules : map rule_of (args_of p.command) ≡ serve_rules
  rules = ap (λ (a : App). a.top.rules) p.app

  arg_count : length (args_of p.command) ≡ length serve_rules
  arg_count = sym (length-map (args_of p.command) rule_of) ∙ ap length rules

  rule_at : (k : ℕ) (d : Arg) → rule_of (slice_index_or (args_of p.command) k d) ≡ slice_index_or serve_rules k (rule_of d)
  rule_at k d = sym (get_or-map rule_of (args_of p.command) k d) ∙ ap (λ rs. slice_index_or rs k (rule_of d)) rules

  module _ (k : ℕ) (name default : Text) (values : ValueParser) (option : IsOptionAt k name values default) where
    rule_is : (d : Arg) → rule_of (slice_index_or (args_of p.command) k d) ≡ valued name values default
    rule_is d = rule_at k d ∙ option.at (rule_of d)

    id_is : (d : Arg) → (slice_index_or (args_of p.command) k d).id.now ≡ name
    id_is d = ap (λ (r : Rule). r.id) (rule_is d)

    within : k < length (args_of p.command)
    within = omega (arith, arg_count, option.within)

    has_no_auto_name : (d : Arg) → IsAuto (slice_index_or (args_of p.command) k d) → ⊥
    has_no_auto_name d auto = elim auto [
      | inl help ↦ true≢false (sym ((bytes_eq-Decides name (codes "help")).1 (sym (id_is d) ∙ help)) ∙ option.no_help)
      | inr version ↦ true≢false (sym ((bytes_eq-Decides name (codes "version")).1 (sym (id_is d) ∙ version)) ∙ option.no_version)
    ]

    only : (d : Arg) (j : ℕ) (a : Arg) → j < length (args_of p.command)
        → bytes_eq (slice_index_or (args_of p.command) j a).id.now (slice_index_or (args_of p.command) k d).id.now ≡ true → j ≡ k
    only d j a lt same =
        let in_rules : j < length serve_rules = omega (arith, arg_count) in
        let same_name : bytes_eq (slice_index_or (args_of p.command) j a).id.now name ≡ true = rw (← id_is d) same in
        only_place k name serve_rules option.only j (rule_of a) in_rules (subst (λ (r : Rule). bytes_eq r.id name ≡ true) (rule_at j a) same_name)

    built_takes_one : (d : Arg) → EachTakesOne values p.parsed.built (slice_index_or (args_of p.command) k d).id.now
    built_takes_one d j a lt at same = takes_one_built values (slice_index_or (args_of p.command) k d) a
        (same_rules_by_id p.command m p.parsed k d within (only d) (has_no_auto_name d) j a lt at same)
        (takes_one name default values (slice_index_or (args_of p.command) k d) (rule_is d)).0

    entry_of : (d : Arg) (id : Text) → (slice_index_or (args_of p.command) k d).id.now ≡ id → EachTakesOne values p.parsed.built id
        → (x : MatchedArg) × (matched_of (found_of m) id ≡ Some x) × HasText values x
    entry_of d id is each =
        let has = default_present p.command m p.parsed plain.globals k d within (takes_one name default values (slice_index_or (args_of p.command) k d) (rule_is d)).1 in
        let has_id : HasId (found_of m) id = subst (HasId (found_of m)) is has in
        let found = found_at (found_of m).entries.items id has_id.0 has_id.1 has_id.2 in
        let parsed = p.parsed.parsed (p.parsed.from.globals ∙ plain.globals) in
        let got = entry_by_id (EntryPasses p.parsed.built) (found_of m).entries.items id found.0 parsed.values found.1 in
        (found.0, found.1, text_in got.0 found.0 id is each got.1 ((bytes_eq-Decides got.0.0.now id).0 got.2) got.3)
      where
        text_in : (e : Entry) (x : MatchedArg) (id : Text) → (slice_index_or (args_of p.command) k d).id.now ≡ id → EachTakesOne values p.parsed.built id
            → e.1 ≡ x → e.0.now ≡ id → EntryPasses p.parsed.built e → HasText values x
        text_in e x id is each same key passes =
            let each_here : EachTakesOne values p.parsed.built e.0.now = subst (EachTakesOne values p.parsed.built) (sym key) each in
            subst (HasText values) same (entry_text values p.parsed.built e each_here no_groups (λ empty. option.named (sym (id_is d) ∙ is ∙ sym key ∙ empty)) passes)

    accepted : HasAccepted m name values
    accepted =
        let d = some_arg (args_of p.command) (omega (arith, within)) in
        let entry = entry_of d name (id_is d) (subst (EachTakesOne values p.parsed.built) (id_is d) (built_takes_one d)) in
        let text = entry.2 in
        record {
          text = text.text.now;
          found = read_entry (found_of m) name entry.0 text.text text.rest (reading_of values) entry.1 text.all text.reading;
          accepted = text.accepted;
        }

  text_found : (name text : Text) → one_text (found_of m) name ≡ Some text → text_of name words ≡ Some text
  text_found name text found = ap (one_of name) (sym p.rows) ∙ sym (one_text-rows (found_of m) name) ∙ found

  -- what `get_one` gives of a number
  pub number_read : (k : ℕ) (name default : Text) (low high bits : ℕ) → IsOptionAt k name (from_to low high) default → high < 2 ^ bits
      → (r : Option ℕ) → ((text : Text) → one_text (found_of m) name ≡ Some text → ReadsOne (ParsesNumber bits) text r) → ReadsNumber words name low high r
  number_read k name default low high bits option fits r reads =
      let got = accepted k name default (from_to low high) option in
      let text = without_minus got.text in
      let read = reads text got.found in
      let number = signed_reads ParseIntError (ParsesNumber bits) bits low high got.text r read (λ u x g. g.0) fits got.accepted in
      let parsed : ParsesNumber bits text (Ok number.0) = subst (ReadsOne (ParsesNumber bits) text) number.1 read in
      record {
        value = number.0;
        is = number.1;
        said = ap (option_map (λ t. digits_value 10 (without_leading_plus t))) (text_found name text got.found) ∙ ap (λ n. Some n) (sym parsed.0.1);
        least = number.2;
        most = number.3;
      }

  -- and of the flag
  pub flag_read : (name : Text) (r : Option Bool) → (one_text (found_of m) name ≡ None → r ≡ None)
      → ((text : Text) → one_text (found_of m) name ≡ Some text → ReadsOne {E = ParseBoolError} ParsesBool text r) → option_eq beq r (Some true) ≡ has_flag name words
  flag_read name r none value = go (one_text (found_of m) name) refl
    where
      told : (text : Text) (o : Option Bool) → ReadsOne {E = ParseBoolError} ParsesBool text o → option_eq beq o (Some true) ≡ bytes_eq text (codes "true")
      told text (Some true) h = sym ((bytes_eq-Decides text (codes "true")).1 h)
      told text (Some false) h = rw h refl
      told text None h = sym (false_from_ne_true _ (λ same. h.1.0 ((bytes_eq-Decides text (codes "true")).0 same)))

      go : (o : Option Text) → one_text (found_of m) name ≡ o → option_eq beq r (Some true) ≡ has_flag name words
      go None found =
          let missing : text_of name words ≡ None = ap (one_of name) (sym p.rows) ∙ sym (one_text-rows (found_of m) name) ∙ found in
          rw (none found, missing) refl
      go (Some text) found = rw (text_found name text found) (told text r (value text found))

-- ---- the options

pub members_at : IsOptionAt 0 (codes "members") (from_to 1 8) (codes "3")
members_at = record { within = omega arith; at = λ d. refl; only = refl; named = λ e. cc; no_help = refl; no_version = refl }

pub backups_at : IsOptionAt 1 (codes "backups") (from_to 0 6) (codes "1")
backups_at = record { within = omega arith; at = λ d. refl; only = refl; named = λ e. cc; no_help = refl; no_version = refl }

pub capacity_at : IsOptionAt 2 (codes "capacity") (from_to 0 2147483647) (codes "1000")
capacity_at = record { within = omega arith; at = λ d. refl; only = refl; named = λ e. cc; no_help = refl; no_version = refl }

pub port_at : IsOptionAt 3 (codes "port") (from_to 1 65528) (codes "5701")
port_at = record { within = omega arith; at = λ d. refl; only = refl; named = λ e. cc; no_help = refl; no_version = refl }

-- ---- what was read

pub some_read : (words : Words) (name : Text) (low high : ℕ) (r : Option ℕ) → ReadsNumber words name low high r → IsSome r
some_read words name low high r read = rw read.is refl

-- the number that is given is the one that was read
pub number_given : (words : Words) (name : Text) (low high : ℕ) (r : Option ℕ) (n : ℕ) → ReadsNumber words name low high r → r ≡ Some n
    → (number_of name words ≡ Some n) × (low ≤ n) × (n ≤ high)
number_given words name low high r n read is =
    let same : read.value ≡ n = cc in
    (read.said ∙ sym read.is ∙ is, omega arith, omega arith)
