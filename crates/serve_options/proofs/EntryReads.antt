-- What the entry of an option with one value gives, in a parse that succeeds.
use Rattle.std.proofs.Common.{◌≡◌, ◌∙◌, ◌<◌, ◌≤◌, ap, sym, subst, inl, inr, arith, ℕ, Bool, true, false, zero, suc, refl, List, [], ◌∷◌, length, Some, None}
use Rattle.std.specs.Prelude.{option_map, find}
use Rattle.std.specs.List.{All, slice_index_or}
use Rattle.std.specs.Str.{bytes_eq}
use Rattle.std.specs.Borrow.{Bor}
use Rattle.std.proofs.lemmas.List.Elements.{All-get_or}
use Rattle.clap.specs.Facts.{Entry, EntryPasses, EntryValuesPass, IsFilledEntry, PassesArg, ReadsByParser, args_of, groups_of, least_values, parser_of, parser_of_value}
use Rattle.clap.specs.Built.{SameRules}
use Rattle.clap.specs.Values.{Accepts, reading_of}
use Rattle.clap.specs.declared.builder.action.ArgAction.TheVariants.{Set, Count}
use Rattle.clap.specs.declared.builder.arg.Arg.{Arg}
use Rattle.clap.specs.declared.builder.command.Command.{Command}
use Rattle.clap.specs.declared.builder.value_parser.ValueParser.{ValueParser}
use Rattle.clap.specs.declared.parser.matches.MatchedArg.{MatchedArg}

-- the argument takes one value, which passes this parser
pub record TakesOne (values : ValueParser) (a : Arg) : Type 0 where
  pub action : a.action ≡ Some Set
  pub least : 1 ≤ least_values a
  pub delimiter : a.val_delim ≡ None
  pub parser : a.value_parser ≡ Some values
  pub any_case : a.ignore_case ≡ false

-- and so does the same argument once it is built
pub takes_one_built : (values : ValueParser) (a b : Arg) → SameRules a b → TakesOne values a → TakesOne values b
takes_one_built values a b same takes = record {
  action = same.action Set takes.action;
  least = same.least takes.action takes.least;
  delimiter = same.val_delim ∙ takes.delimiter;
  parser = same.parser values takes.parser;
  any_case = same.ignore_case ∙ takes.any_case;
}

-- each argument of the command with this id takes one value
abbrev pub EachTakesOne : ValueParser → Command → List ℕ → Type 0
EachTakesOne values c id = (k : ℕ) (a : Arg) → k < length (args_of c) → slice_index_or (args_of c) k a ≡ a → bytes_eq a.id.now id ≡ true → TakesOne values a

-- the first text of an entry
pub record HasText (values : ValueParser) (entry : MatchedArg) : Type 0 where
  pub text : Bor (List ℕ)
  pub rest : List (Bor (List ℕ))
  pub all : entry.vals.items ≡ text ∷ rest
  pub reading : entry.reading ≡ reading_of values
  pub accepted : Accepts false values text.now

module _ (values : ValueParser) (c : Command) (e : Entry) (each : EachTakesOne values c e.0.now) where
  passes_parser : (text : List ℕ) → PassesArg c e.0.now text → Accepts false values text
  passes_parser text passes =
      let takes = each passes.0 passes.1 passes.2 passes.3 passes.4.0 in
      let same_parser : parser_of passes.1 ≡ values = ap parser_of_value takes.parser in
      let accepted : Accepts false (parser_of passes.1) text = subst (λ (b : Bool). Accepts b (parser_of passes.1) text) takes.any_case passes.4.1 in
      subst (λ (q : ValueParser). Accepts false q text) same_parser accepted

  is_filled : (e.1.is_group ≡ true → ⊥) → IsFilledEntry c e → 0 < length e.1.vals.items
  is_filled alone filled = elim filled [
    | inl group ↦ absurd (alone group.0)
    | inr (inl some) ↦ some
    | inr (inr (inl counts)) ↦
        let any = counts.1 in
        let takes = each any.0 any.1 any.2 any.3 any.4.0 in
        let set : Set ≡ Count = rw takes.action at any.4.1 in
        cc
    | inr (inr (inr none)) ↦
        let takes = each none.0 none.1 none.2 none.3 none.4.0 in
        elim none.4.1 [
          | inl zero_values ↦ absurd (omega (arith, takes.least))
          | inr delimited ↦
              let bad : false ≡ true = rw takes.delimiter at delimited in
              cc
        ]
  ]

  is_read : (e.1.is_group ≡ true → ⊥) → ReadsByParser c e → e.1.reading ≡ reading_of values
  is_read alone reads = elim reads [
    | inl group ↦ absurd (alone group)
    | inr any ↦
        let takes = each any.0 any.1 any.2 any.3 any.4.0 in
        let same_parser : parser_of any.1 ≡ values = ap parser_of_value takes.parser in
        sym any.4.1 ∙ ap reading_of same_parser
  ]

  all_accepted : (e.1.is_group ≡ true → ⊥) → EntryValuesPass c e → All (λ v. Accepts false values v.now) e.1.vals.items
  all_accepted alone passes = elim passes [
    | inl group ↦ absurd (alone group)
    | inr all ↦ λ k d lt. passes_parser (slice_index_or e.1.vals.items k d).now (all k d lt)
  ]

  first_text : (texts : List (Bor (List ℕ))) → texts ≡ e.1.vals.items → 0 < length texts → All (λ v. Accepts false values v.now) texts
      → e.1.reading ≡ reading_of values → HasText values e.1
  first_text [] is some all reading = absurd (omega arith)
  first_text (text ∷ rest) is some all reading = record {
    text = text;
    rest = rest;
    all = sym is;
    reading = reading;
    accepted = All-get_or (λ (v : Bor (List ℕ)). Accepts false values v.now) (text ∷ rest) 0 text (omega arith) all;
  }

  -- an entry that passes, in a command without groups
  pub entry_text : groups_of c ≡ [] → (e.0.now ≡ [] → ⊥) → EntryPasses c e → HasText values e.1
  entry_text no_groups named passes =
      let alone : e.1.is_group ≡ true → ⊥ = λ group. elim (passes.3 group) [
        | inl empty ↦ named empty
        | inr some ↦
            let none : 0 < 0 = rw no_groups at some in
            absurd (omega arith)
      ] in
      first_text e.1.vals.items refl (is_filled alone passes.1) (all_accepted alone passes.0) (is_read alone passes.4)

-- an id that some entry has is found
pub found_at : (xs : List Entry) (id : List ℕ) (i : ℕ) → i < length xs → ((d : Entry) → bytes_eq (slice_index_or xs i d).0.now id ≡ true)
    → (x : MatchedArg) × (option_map (λ e. e.1) (find (λ e. bytes_eq e.0.now id) xs) ≡ Some x)
found_at [] id i lt at = absurd (omega arith)
found_at (x ∷ xs) id zero lt at =
    let here : bytes_eq x.0.now id ≡ true = at x in
    (x.1, rw here refl)
found_at (x ∷ xs) id (suc i) lt at = go (bytes_eq x.0.now id) refl (found_at xs id i (omega arith) at)
  where
    go : (t : Bool) → bytes_eq x.0.now id ≡ t → ((y : MatchedArg) × (option_map (λ e. e.1) (find (λ e. bytes_eq e.0.now id) xs) ≡ Some y))
        → (y : MatchedArg) × (option_map (λ e. e.1) (find (λ e. bytes_eq e.0.now id) (x ∷ xs)) ≡ Some y)
    go true t later = (x.1, rw t refl)
    go false t later = (later.0, rw t later.1)
