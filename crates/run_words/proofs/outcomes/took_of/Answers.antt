-- A word that no way has is none of theirs.
use Rattle.std.proofs.Common.{◌≡◌, ◌≢◌, ℕ, Option, Some, None, IsNone, true, false, List, [], ◌∷◌, rules, tests, lit<, lit≤}
use Rattle.std.specs.Bool.{⊤}
use Rattle.std.specs.Option.{MatchOption}
use Rattle.std.specs.List.{AllWithin}
use Rattle.std.proofs.lemmas.Iterator.{YieldsList-from_slice, first_from_find}
use Rattle.std.proofs.lemmas.Iterator.Consumers.{YieldsList-from_copied}
use Rattle.member_wire.specs.TookWords.{word_of}
use Rattle.member_wire.specs.declared.took.Took.{Took}
use Rattle.member_wire.specs.declared.took.Took.TheVariants.{Adopted, Synced, Applied, Bridged, Acked, Frozen, Joined, Drained, Already, Gap, Other, Stale, Dropped}
use Rattle.run_words.proofs.outcomes.took_of.Goals as goal

abbrev ways : List Took
ways = Adopted ∷ Synced ∷ Applied ∷ Bridged ∷ Acked ∷ Frozen ∷ Joined ∷ Drained ∷ Already ∷ Gap ∷ Other ∷ Stale ∷ Dropped ∷ []

abbrev HasOtherWord : List ℕ → Took → Type 0
HasOtherWord word took = word_of took ≢ word

no_way_has_it : (word : List ℕ) → AllWithin (HasOtherWord word) ways 0 13 → (took : Took) → word_of took ≢ word
no_way_has_it word none Adopted = none 0 Adopted (lit≤ tt) (lit< tt)
no_way_has_it word none Synced = none 1 Adopted (lit≤ tt) (lit< tt)
no_way_has_it word none Applied = none 2 Adopted (lit≤ tt) (lit< tt)
no_way_has_it word none Bridged = none 3 Adopted (lit≤ tt) (lit< tt)
no_way_has_it word none Acked = none 4 Adopted (lit≤ tt) (lit< tt)
no_way_has_it word none Frozen = none 5 Adopted (lit≤ tt) (lit< tt)
no_way_has_it word none Joined = none 6 Adopted (lit≤ tt) (lit< tt)
no_way_has_it word none Drained = none 7 Adopted (lit≤ tt) (lit< tt)
no_way_has_it word none Already = none 8 Adopted (lit≤ tt) (lit< tt)
no_way_has_it word none Gap = none 9 Adopted (lit≤ tt) (lit< tt)
no_way_has_it word none Other = none 10 Adopted (lit≤ tt) (lit< tt)
no_way_has_it word none Stale = none 11 Adopted (lit≤ tt) (lit< tt)
no_way_has_it word none Dropped = none 12 Adopted (lit≤ tt) (lit< tt)

where_none_is : (word : List ℕ) (found : Option Took) (P : Took → Type 0) →
    MatchOption found (AllWithin (HasOtherWord word) ways 0 13) P → IsNone found → AllWithin (HasOtherWord word) ways 0 13
where_none_is word None P none e = none
where_none_is word (Some took) P some e = let clash : true ≡ false = e in absurd cc

pub returns-clause-none : goal.returns-clause-none
returns-clause-none c = λ nothing.
    let word = c.args.word.now in
    let first = first_from_find _ _ c.find.result (λ _. ⊤) (HasOtherWord word) c.find.ensures.ran (YieldsList-from_copied (YieldsList-from_slice ways cc)) (λ x q k. tt) (λ x q k. search (rules, tests)) in
    no_way_has_it word (where_none_is word c.find.result _ first nothing)
