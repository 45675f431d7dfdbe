-- What a reader of a script gives.
use Rattle.std.specs.Prelude.{◌≡◌, ℕ, ◌≤◌, ⊤, List, [], ◌∷◌, Result, Ok, Err}
use Rattle.script_lang.specs.Lines.{Range, range_of}
use Rattle.script_lang.specs.declared.fields.Field.{Field}
use Rattle.script_lang.specs.declared.fields.Field.TheVariants.{PartitionOrAll, Hex as HexField}
use Rattle.script_lang.specs.declared.reading.Value.{Value}
use Rattle.script_lang.specs.declared.reading.Value.TheVariants as Values
use Rattle.script_lang.specs.declared.refusal.LineWhy.{LineWhy}
use Rattle.script_lang.specs.declared.refusal.LineRefused.{LineRefused}
use Rattle.script_lang.specs.declared.refusal.LineRefused.TheVariants.{Why, Memory}

-- It gives what the grammar reads, or why the grammar refuses it; want of memory says nothing of the text.
abbrev pub Reads : {A B : Type 0} → (A → B) → Result A LineRefused → Result B LineWhy → Type 0
Reads view (Ok x) read = read ≡ Ok (view x)
Reads view (Err (Why why)) read = read ≡ Err why
Reads view (Err Memory) read = ⊤

-- Whether a value has its field's form.

abbrev pub IsIn : Range → ℕ → Type 0
IsIn range n = (range.least ≤ n) × (n ≤ range.most)

abbrev pub Fits : ℕ → Field → Value → Type 0
Fits members HexField (Values.Number n) = ⊥
Fits members HexField Values.All = ⊥
Fits members HexField (Values.Bytes bytes) = ⊤
Fits members PartitionOrAll Values.All = ⊤
Fits members field (Values.Number n) = IsIn (range_of members field) n
Fits members field value = ⊥

-- one value for each field, each of its form
abbrev pub Fit : ℕ → List Field → List Value → Type 0
Fit members [] [] = ⊤
Fit members (field ∷ fields) (value ∷ values) = Fits members field value × Fit members fields values
Fit members fields values = ⊥
