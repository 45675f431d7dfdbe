-- What goes over a link, as bytes. All numbers have their low byte first.
use Rattle.std.specs.Prelude.{ℕ, List, ◌∷◌, ◌++◌, length}
use Rattle.std.specs.Int.{w16, w32, w64, to_le_bytes}
use Rattle.murmur_partition.specs.Murmur.{murmur3_of}
use Rattle.link_frames.specs.declared.parts.Batch.{Batch}
use Rattle.link_frames.specs.declared.parts.Hello.{Hello}
use Rattle.link_frames.specs.declared.parts.LinkPart.{LinkPart}
use Rattle.link_frames.specs.declared.parts.LinkPart.TheVariants.{Opens, Answers, Carries}
use Rattle.link_frames.specs.declared.parts.TheConstants.{MAGIC}

-- the number that a link begins with, the grid, who speaks, to whom, the process, and the challenge
abbrev pub hello_bytes : Hello → List ℕ
hello_bytes h = to_le_bytes w32 MAGIC ++ (h.grid ++ (h.member ∷ h.peer ∷ (to_le_bytes w64 h.process ++ h.challenge)))

-- A batch's checksum is the hash of what it carries, with its partition as the seed.
abbrev pub checksum : ℕ → List ℕ → ℕ
checksum partition bytes = murmur3_of bytes partition

-- its partition, how many bytes it carries, its checksum, and the bytes
abbrev pub batch_bytes : Batch → List ℕ
batch_bytes b = to_le_bytes w16 b.partition ++ (to_le_bytes w32 (length b.bytes) ++ (to_le_bytes w32 (checksum b.partition b.bytes) ++ b.bytes))

abbrev pub part_bytes : LinkPart → List ℕ
part_bytes (Opens hello) = hello_bytes hello
part_bytes (Answers answer) = answer
part_bytes (Carries batch) = batch_bytes batch
