-- Which hello of another end is taken.
use Rattle.std.specs.Prelude.{ℕ, ◌==◌, not, if◌then◌else◌, List, bytes_eq, Result, Ok, Err}
use Rattle.link_frames.specs.declared.hellos.HelloRefused.{HelloRefused}
use Rattle.link_frames.specs.declared.hellos.HelloRefused.TheVariants.{OtherGrid, OtherPeer, OtherMember, SameMember}
use Rattle.link_frames.specs.declared.parts.Hello.{Hello}

-- Both are of one grid and mean one another, and they are two. The first of these that fails is told.
abbrev pub checked : Hello → Hello → Result Unit HelloRefused
checked own other =
    if not (bytes_eq other.grid own.grid) then Err OtherGrid
    else if not (other.peer == own.member) then Err OtherPeer
    else if not (other.member == own.peer) then Err OtherMember
    else if other.member == own.member then Err SameMember
    else Ok tt
