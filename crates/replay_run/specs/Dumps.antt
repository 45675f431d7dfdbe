-- The text of the objects that a dump prints.
use Rattle.std.specs.Prelude.{ℕ, List, [], ◌∷◌, ◌++◌, Option, Some, None, codes, decimal}
use Rattle.std.specs.Int.{w128, to_be_bytes}
use Rattle.std.specs.Fmt.{signed_decimal}
use Rattle.std.specs.List.{flat_map}
use Rattle.uuid.specs.Text.{lower, hyphenated_text}
pub use Rattle.line_told.specs.Words.{word, number, line_end, hex_word, dash, number_or_dash, value_text}
use Rattle.grid_base.specs.declared.names.ClientKey.{ClientKey}
use Rattle.grid_base.specs.declared.names.ClientKey.TheVariants.{Known, OfConn}
use Rattle.grid_base.specs.declared.names.ObjectKey.{ObjectKey}
use Rattle.grid_base.specs.declared.names.ObjectKey.TheVariants as object
use Rattle.key_locks.specs.declared.locks.Lock.{Lock}
use Rattle.map_records.specs.declared.records.Idle.{Idle}
use Rattle.map_records.specs.declared.records.MapRecord.{MapRecord}
use Rattle.object_store.specs.Records.{Record, entry_in, items_in}
use Rattle.object_store.specs.Partitions.{Partition, stored_in}

-- a client's own number as a UUID, or its connection
abbrev pub client_text : ClientKey → List ℕ
client_text (Known client) = hyphenated_text lower (to_be_bytes w128 client)
client_text (OfConn conn) = codes "conn:" ++ decimal conn

abbrev pub end_text : Option ℕ → List ℕ
end_text None = dash
end_text (Some moment) = decimal moment

-- `SPAN/END`
abbrev pub idle_text : Option Idle → List ℕ
idle_text None = dash
idle_text (Some idle) = decimal idle.span ++ codes "/" ++ decimal idle.end

-- `CLIENT/THREAD/COUNT/UNTIL`
abbrev pub lock_text : Option Lock → List ℕ
lock_text None = dash
lock_text (Some lock) = client_text lock.owner.client ++ codes "/" ++ signed_decimal lock.owner.thread ++ codes "/" ++ decimal lock.count ++ codes "/" ++ end_text lock.until

-- `VALUE EXPIRES IDLE LOCK`
abbrev pub entry_words : MapRecord → List ℕ
entry_words entry = word (value_text entry.value) ++ number_or_dash entry.expires ++ word (idle_text entry.idle) ++ lock_text entry.lock

-- the name and the key of an object; a queue has no key
abbrev pub object_words : ObjectKey → List ℕ
object_words (object.Entry map key) = word (hex_word map) ++ word (hex_word key)
object_words (object.Queue name) = word (hex_word name) ++ word dash

-- items with commas between them
abbrev pub items_text : List (List ℕ) → List ℕ
items_text [] = []
items_text (item ∷ []) = hex_word item
items_text (item ∷ items) = hex_word item ++ codes "," ++ items_text items

-- `I map NAME KEY VALUE EXPIRES IDLE LOCK`, and `I queue NAME ITEMS`
abbrev pub stored_text : ℕ → ObjectKey × Record → List ℕ
stored_text line (object.Entry map key, kept) = number line ++ codes "map " ++ object_words (object.Entry map key) ++ entry_words (entry_in kept) ++ line_end
stored_text line (object.Queue name, kept) = number line ++ codes "queue " ++ word (hex_word name) ++ items_text (items_in kept) ++ line_end

-- each object that a partition keeps, in the order of a snapshot
abbrev pub dumped_text : ℕ → Partition → List ℕ
dumped_text line s = flat_map (stored_text line) (stored_in s)
