-- What a session stands for: all bytes of its connection so far, however they were cut.
use Rattle.std.specs.Prelude.{◌≡◌, ℕ, true, List, length, Option, None}
use Rattle.grid_base.specs.declared.names.ClientKey.{ClientKey}
use Rattle.message_frames.specs.MessageReaders.{Hearing, standing}
use Rattle.message_frames.specs.Messages.{messages_of}
use Rattle.session_core.specs.Items.{identity_after_all}

-- a connection's number and member, its reader of messages, its client if it made one known, and how many messages were complete
pub record SessionState : Type 0 where
  pub conn : ℕ
  pub member : ℕ
  pub reader : Hearing
  pub identity : Option ClientKey
  pub count : ℕ

-- the session of a connection on which these bytes arrived
abbrev pub session_after : ℕ → ℕ → List ℕ → SessionState
session_after conn member text = record {
  conn = conn;
  member = member;
  reader = standing true text;
  identity = identity_after_all conn None (messages_of true text);
  count = length (messages_of true text);
}

abbrev pub StandsFor : SessionState → List ℕ → Type 0
StandsFor session text = session ≡ session_after session.conn session.member text
