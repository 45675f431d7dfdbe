-- The entries of a recorded history, as those of the protocol.
use Rattle.partition_protocol.specs.History.{Entry as ProtocolEntry, Called, Reset as HasReset}
use Rattle.partition_world.specs.declared.entry.Entry.{Entry}
use Rattle.partition_world.specs.declared.entry.Entry.TheVariants.{Call, Reset}

abbrev pub entry_of : {C : Type 0} → Entry C → ProtocolEntry C
entry_of (Call id version seen now call reply) = Called (record {
  conn = id.conn;
  number = id.number;
  version = version;
  seen = seen;
  now = now;
  call = call;
  reply = reply;
})
entry_of (Reset version) = HasReset version
