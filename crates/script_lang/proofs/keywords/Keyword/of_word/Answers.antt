use Rattle.std.proofs.Common.{◌≡◌, List, map, option_map, Bor, rules, tests, refl, ap, ◌∙◌}
use Rattle.std.proofs.lemmas.Iterator.{YieldsList-from_slice}
use Rattle.std.proofs.lemmas.Iterator.Search.{find_from_yields_List}
use Rattle.std.specs.List.{find}
use Rattle.script_lang.specs.Words.{are_same}
use Rattle.script_lang.specs.Lines.{Named, keywords}
use Rattle.script_lang.proofs.NameTables.{Entry, named_by, has_name, found_by_name}
use Rattle.script_lang.proofs.keywords.Keyword.of_word.Goals as goal

pub returns : goal.returns
returns c =
    let table : List Entry = c.iter.result.rest.now in
    let word = c.args.word.now in
    let found = find_from_yields_List (has_name word) _ _ c.find.result c.find.ensures.ran (YieldsList-from_slice table cc) (λ x b q k. search (rules, tests)) in
    let mapped : c.map.result ≡ option_map (λ (entry : Entry). entry.1) (option_map (λ (x : Bor Entry). x.now) c.find.result) = search rules in
    let whole : map named_by table ≡ keywords = rw c.iter.ensures.rest refl in
    mapped ∙ ap (option_map (λ (entry : Entry). entry.1)) found ∙ found_by_name word table
    ∙ ap (λ entries. option_map (λ (entry : Named). entry.keyword) (find (λ (entry : Named). are_same entry.word word) entries)) whole
