-- What a sink took of a picture, by the status with which its command ended.
use Rattle.std.specs.Prelude.{◌≡◌, ℕ, List, Option, ◌++◌}
use Rattle.grid_edge.specs.Sink.{TakesFront}
use Rattle.grid_cli.specs.declared.status.Status.{Status}
use Rattle.grid_cli.specs.declared.status.Status.TheVariants.{Done, Usage, ScriptRefused, ReadFault, WriteFault, Limit, DoorFault, Memory}
use Rattle.svg_picture.specs.Markup.{IsDocument}

-- The sink took one picture.
abbrev pub TakesPicture : List ℕ → List ℕ → Type 0
TakesPicture before after = (picture : List ℕ) × IsDocument picture × (after ≡ before ++ picture)

-- A run that ended so has a picture: it came to its end, or to a line that doesn't run.
abbrev pub HasPicture : Status → Type 0
HasPicture Done = Unit {0}
HasPicture Usage = ⊥
HasPicture (ScriptRefused line why) = Unit {0}
HasPicture ReadFault = ⊥
HasPicture WriteFault = ⊥
HasPicture (Limit what) = Unit {0}
HasPicture DoorFault = ⊥
HasPicture Memory = ⊥

-- One picture where the run came to an end or to a line that doesn't run; some front of one where writing failed, and else
-- nothing.
abbrev pub WritesPicture : Status → List ℕ → List ℕ → Type 0
WritesPicture Done before after = TakesPicture before after
WritesPicture Usage before after = ⊥
WritesPicture (ScriptRefused line why) before after = TakesPicture before after
WritesPicture ReadFault before after = after ≡ before
WritesPicture WriteFault before after = (picture : List ℕ) × IsDocument picture × TakesFront before after picture
WritesPicture (Limit what) before after = TakesPicture before after
WritesPicture DoorFault before after = ⊥
WritesPicture Memory before after = after ≡ before
