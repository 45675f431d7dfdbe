-- What became of a message that was handed over: one word for each way to take it.

-- how a message was taken
pub data Took : Type 0 where
  -- a newer row was adopted
  Adopted : Took
  -- contents were installed whole
  Synced : Took
  -- an effect was applied
  Applied : Took
  -- the contents go on in the row's version as they are
  Bridged : Took
  -- an acknowledgement was kept
  Acked : Took
  -- the primary froze
  Frozen : Took
  -- the joiner became eligible
  Joined : Took
  -- the move's source is drained
  Drained : Took
  -- the taker has it already, and acknowledges what it has
  Already : Took
  -- what comes before it is missing
  Gap : Took
  -- it isn't for the taker as it stands
  Other : Took
  -- it is of an earlier version, or was taken before
  Stale : Took
  -- the taker has crashed
  Dropped : Took
