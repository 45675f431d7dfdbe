-- What a member does as a master, in the machine's words.
use Rattle.masters_protocol.specs.Members.{Role as RoleThere, Following, Gathering, Serving}
use Rattle.master_wire.specs.declared.decision.Decision.{Decision}
use Rattle.master_member.specs.declared.role.Role.{Role}
use Rattle.master_member.specs.declared.role.Role.TheVariants as code

abbrev pub role_of : Role → RoleThere Decision
role_of code.Following = Following
role_of (code.Gathering tells) = Gathering tells
role_of (code.Serving counts) = Serving counts
