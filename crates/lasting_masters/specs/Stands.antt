-- What a member keeps, and what is said, stands for a whole log: and the masters that keep a base and the rest stand for masters with whole logs.
use Rattle.std.specs.Prelude.{◌≡◌, ℕ, ◌≤◌, false, if◌then◌else◌, List, [], ◌∷◌, ◌++◌, length, slice_get}
use Rattle.partition_protocol.specs.World.{map_or}
use Rattle.masters_protocol.specs.Members as full
use Rattle.masters_protocol.specs.Members.{ToldLog}
use Rattle.masters_protocol.specs.Machine as masters
use Rattle.masters_protocol.specs.Machine.{Masters}
use Rattle.lasting_masters.specs.Kept.{Folding, folded, Kept, reach, Part, From, Whole, has_gap}
use Rattle.lasting_masters.specs.Members.{Role, Following, Gathering, Serving, Member, ToldPart, Message, Store, Stored, Ask, Tell, Sent, fits}
use Rattle.lasting_masters.specs.Machine.{Packet, Lasting, Event, Told, Crash, Propose, Take, Resend, Cut, is_live, happens}
use Rattle.lasting_masters.specs.Repeated as repeated

-- a base and the rest are exactly a log: the base is what the front leads to
pub record Keeps {D S : Type 0} (o : Folding D S) (k : Kept D S) (l : List D) : Type 0 where
  pub front : List D
  pub log : front ++ k.rest ≡ l
  pub cut : k.cut ≡ length front
  pub base : k.base ≡ folded o o.opening front

-- a part is of that log, and what it has cut off is among the first so many
abbrev pub Says : {D S : Type 0} → Folding D S → ℕ → Part D S → List D → Type 0
Says {D} o b (From i ds) l = (front : List D) × (front ++ ds ≡ l) × (i ≡ length front)
Says o b (Whole k) l = Keeps o k l × (k.cut ≤ b)

-- two lists whose elements go together one by one
abbrev pub Pairs : {X Y : Type 0} → (X → Y → Type 0) → List X → List Y → Type 0
Pairs R [] [] = Unit {0}
Pairs R [] (y ∷ ys) = ⊥
Pairs R (x ∷ xs) [] = ⊥
Pairs R (x ∷ xs) (y ∷ ys) = R x y × Pairs R xs ys

-- Here b is how many decisions are published: no more than those is cut off, or known to be published.

-- what was told fits to a log of that length
pub record TellIs {D S : Type 0} (o : Folding D S) (b here : ℕ) (t : ToldPart D S) (k : ToldLog D) : Type 0 where
  pub member : t.member ≡ k.member
  pub part : Says o b t.part k.log
  pub fits : has_gap here t.part ≡ false

abbrev pub RoleIs : {D S : Type 0} → Folding D S → (b here : ℕ) → Role D S → full.Role D → Type 0
RoleIs o b here Following full.Following = Unit {0}
RoleIs o b here (Gathering ts) (full.Gathering ks) = Pairs (TellIs o b here) ts ks
RoleIs o b here (Serving known cs) (full.Serving ds) = cs ≡ ds
RoleIs o b here _ _ = ⊥

pub record MemberIs {D S : Type 0} (o : Folding D S) (b : ℕ) (n : Member D S) (x : full.Member D) : Type 0 where
  pub told : n.told ≡ x.told
  pub seen : n.seen ≡ x.seen
  pub kept : Keeps o n.kept x.log
  pub cut : n.kept.cut ≤ b
  pub settled : n.settled ≤ b
  pub role : RoleIs o b (reach n.kept) n.role x.role

abbrev pub MessageIs : {D S : Type 0} → Folding D S → ℕ → Message D S → full.Message D → Type 0
MessageIs o b (Store t s p) (full.Store u l) = (t ≡ u) × (s ≤ b) × Says o b p l
MessageIs o b (Stored t c) (full.Stored u e) = (t ≡ u) × (c ≡ e)
MessageIs o b (Ask t p) (full.Ask u) = t ≡ u
MessageIs o b (Tell t p) (full.Tell u l) = (t ≡ u) × Says o b p l
MessageIs o b _ _ = ⊥

pub record SentIs {D S : Type 0} (o : Folding D S) (b : ℕ) (x : Sent D S) (y : full.Sent D) : Type 0 where
  pub to : x.to ≡ y.to
  pub message : MessageIs o b x.message y.message

pub record PacketIs {D S : Type 0} (o : Folding D S) (b : ℕ) (p : Packet D S) (q : masters.Packet D) : Type 0 where
  pub from : p.from ≡ q.from
  pub to : p.to ≡ q.to
  pub message : MessageIs o b p.message q.message

-- the whole stands for masters with whole logs, and for all that they ever sent
pub record Matches {D S : Type 0} (o : Folding D S) (w : Lasting D S) (u : Masters D) : Type 0 where
  pub size : w.size ≡ u.size
  pub crashed : w.crashed ≡ u.crashed
  pub members : Pairs (MemberIs o (length u.published)) w.members u.members
  pub packets : Pairs (PacketIs o (length u.published)) w.packets u.packets

-- Each event is one of masters with whole logs. To cut is none, and neither is a message that doesn't fit
abbrev pub event_of : {D S : Type 0} → Lasting D S → Event D → List (repeated.Event D)
event_of w (Told m x) = repeated.Told m x ∷ []
event_of w (Crash m) = repeated.Crash m ∷ []
event_of w (Propose m d) = repeated.Propose m d ∷ []
event_of w (Take i) = map_or (slice_get w.packets i) [] (λ p.
    if is_live w p.to then map_or (slice_get w.members p.to) [] (λ n. if fits p.message n then repeated.Take i ∷ [] else []) else [])
event_of w (Resend m) = repeated.Resend m ∷ []
event_of w (Cut m c) = []

abbrev pub events_of : {D S : Type 0} → Folding D S → Lasting D S → List (Event D) → List (repeated.Event D)
events_of o w [] = []
events_of o w (e ∷ es) = event_of w e ++ events_of o (happens o w e) es
