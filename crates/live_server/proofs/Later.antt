-- How a server's work stands as its clock gives more.
use Rattle.std.proofs.Common.{ℕ, Bool, List}
use Rattle.std.proofs.lemmas.List.Elements.{All-weaker}
use Rattle.grid_base.specs.declared.calls.Request.{Request}
use Rattle.grid_edge.specs.Doors.{Connection, Arrival, Return, Book}
use Rattle.grid_edge.specs.MemoryDoors.{Telling}
use Rattle.hand_cell.specs.declared.names.Key.{Key}
use Rattle.hand_cell.specs.declared.outcome.LiveOutcome.{LiveOutcome}
use Rattle.hand_cell.specs.Told.{Told}
use Rattle.loop_journal.specs.declared.entry.Entry.{Entry}
use Rattle.partition_threads.specs.declared.workplace.Workplace.{Workplace}
use Rattle.session_calls.specs.Learning.{Begins}
use Rattle.live_session.proofs.Given.{given_since}
use Rattle.live_server.specs.declared.client.Client.{Client}
use Rattle.live_server.specs.declared.connections.Connections.{Connections}
use Rattle.live_server.specs.Order.{Mark}
use Rattle.live_server.specs.Serving.{WasAnswered, WasServed}
use Rattle.live_server.specs.Clients.{IsServedSince}
use Rattle.live_server.specs.Standing.{IsServing}

module _ {T P E O : Type 0} (key_of : E → Key) (tells : P → List E → E → LiveOutcome → Type 0) (call_of : ℕ → Request → ℕ → E) (place : Workplace T P E O) (given given_now : List ℕ) (gave : Begins given given_now) where
  pub answered_later : (journal : List Entry) (number member : ℕ) (was is : Connection) (memory : Bool) (seen : ℕ → List E) → WasAnswered key_of tells call_of place given journal number member was is memory seen
      → WasAnswered key_of tells call_of place given_now journal number member was is memory seen
  answered_later journal number member was is memory seen answered = record {
    read = answered.read;
    written = answered.written;
    moved = answered.moved;
    log = answered.log;
    by_clock = given_since answered.log.starts given given_now gave answered.by_clock;
    by_journal = answered.by_journal;
    noted = answered.noted;
    left = answered.left;
    rest = answered.rest;
    answers = answered.answers;
    ended = answered.ended;
  }

  pub served_later : (journal : List Entry) (passes : List (Told E)) (arrivals : List Arrival) (back : Return) → WasServed key_of tells call_of place given journal passes arrivals back → WasServed key_of tells call_of place given_now journal passes arrivals back
  served_later journal passes arrivals back served = record {
    arrival = served.arrival;
    came = served.came;
    seen = served.seen;
    seen_is = served.seen_is;
    answered = answered_later journal back.number served.arrival.member served.arrival.at back.at back.memory served.seen served.answered;
  }

  module _ {F K : Type 0} (telling : Telling F K) where
    pub client_later : (arrivals : List Arrival) (marks : List Mark) (client : Client T F K P E O) → IsServedSince key_of tells call_of place given telling arrivals marks client
        → IsServedSince key_of tells call_of place given_now telling arrivals marks client
    client_later arrivals marks client served = record {
      arrival = served.arrival;
      came = served.came;
      conn = served.conn;
      member = served.member;
      read = served.read;
      written = served.written;
      moved = served.moved;
      log = served.log;
      by_clock = given_since served.log.starts given given_now gave served.by_clock;
      by_journal = served.by_journal;
      seen = served.seen;
      served = served.served;
      marked = served.marked;
      under_way = served.under_way;
      broken = served.broken;
    }

    -- each connection is served as before
    unfoldable pub serving_later : (connections : Connections T F K P E O) (book : Book) → IsServing key_of tells call_of place given telling connections book → IsServing key_of tells call_of place given_now telling connections book
    serving_later connections book serving = record {
      numbered = serving.numbered;
      room = serving.room;
      passes = serving.passes;
      tokens = serving.tokens;
      members = serving.members;
      once = serving.once;
      no_more = serving.no_more;
      marks = serving.marks;
      are_marks = serving.are_marks;
      clients = λ key client there. client_later book.arrivals serving.marks client (serving.clients key client there);
      given_back = All-weaker (WasServed key_of tells call_of place given connections.journal connections.passes.items book.arrivals) (WasServed key_of tells call_of place given_now connections.journal connections.passes.items book.arrivals)
          (served_later connections.journal connections.passes.items book.arrivals) book.returns serving.given_back;
      named = serving.named;
      unseen = serving.unseen;
      undone = serving.undone;
      marked = serving.marked;
    }
