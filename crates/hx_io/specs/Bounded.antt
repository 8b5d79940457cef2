-- A sink in memory that takes no more bytes than it has room for.
use Rattle.std.specs.Prelude.{◌≡◌, ℕ, ◌+◌, List, ◌++◌, length, take, Bool, not, nat_le, Result, is_ok}
use Rattle.hx_io.specs.declared.outside.Failed.{Failed}
use Rattle.hx_io.specs.Faults.{counted}

-- the bytes that it took, how many it has room for, and how many pieces passed the room
pub record Bounded : Type 0 where
  pub bytes : List ℕ
  pub room : ℕ
  pub faults : ℕ

-- whether the piece fits in the room that is left
abbrev pub fits : Bounded → List ℕ → Bool
fits sink piece = nat_le (length sink.bytes + length piece) sink.room

-- the sink after a piece, of which it keeps what fits
abbrev pub with_piece : Bounded → List ℕ → Bounded
with_piece sink piece = record {
  bytes = take sink.room (sink.bytes ++ piece);
  room = sink.room;
  faults = counted sink.faults (not (fits sink piece));
}

-- a call of `put` on such a sink fails exactly where the piece passes the room
abbrev pub BoundedPut : {A : Type 0} → Bounded → List ℕ → Result A Failed → Bounded → Type 0
BoundedPut old piece result new = (is_ok result ≡ fits old piece) × (new ≡ with_piece old piece)
