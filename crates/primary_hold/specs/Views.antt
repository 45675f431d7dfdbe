-- What a primary knows of its backups, and what it sends each of them to catch up.
use Rattle.std.specs.Prelude.{ℕ, false, List, [], ◌∷◌, ◌++◌, Option, Some, None}
use Rattle.partition_protocol.specs.Messages.{Message, Bridge}
use Rattle.partition_protocol.specs.Node.{Acknowledged, Earlier, Node, with_ack}
use Rattle.partition_protocol.specs.CatchUp.{effects, whole_snapshot}
use Rattle.primary_hold.specs.declared.acks.EarlierView.{EarlierView}
use Rattle.primary_hold.specs.declared.view.View.{View}
use Rattle.primary_hold.specs.declared.view.CatchUp.{CatchUp}
use Rattle.primary_hold.specs.declared.view.CatchUp.TheVariants.{Whole, Effects, Bridged}

-- the node, as if it executed on and held no answer: neither plays a part in a catch-up
abbrev pub bare : Node → Node
bare node = record node { frozen = false; held = [] }

abbrev pub earlier_viewed : Option EarlierView → Option Earlier
earlier_viewed None = None
earlier_viewed (Some e) = Some (record { version = e.version; acks = e.acks.now })

-- the acknowledgements with one more, if there is one
abbrev pub with_latest : Option (ℕ × ℕ) → List Acknowledged → List Acknowledged
with_latest None acks = acks
with_latest (Some latest) acks = with_ack latest.0 latest.1 acks

-- it says nothing of whether the node is frozen and of what it holds
abbrev pub viewed : View → Node
viewed view = record {
  known = view.row.now;
  pair = record { version = view.version; count = view.count };
  opening = view.opening;
  acks = with_latest view.latest view.acks.now;
  earlier = earlier_viewed view.earlier;
  recent = view.recent;
  adopted = view.adopted;
  frozen = false;
  held = [];
}

-- the messages of a catch-up
abbrev pub messages_of : Node → CatchUp → List Message
messages_of node Whole = whole_snapshot node
messages_of node (Effects after) = effects node.known.version after node.pair.count
messages_of node (Bridged base) =
    effects base.version base.count node.adopted ++ (Bridge node.known base.version node.adopted ∷ effects node.known.version node.adopted node.pair.count)
