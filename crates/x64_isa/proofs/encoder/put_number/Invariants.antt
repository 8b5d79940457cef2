use Rattle.std.proofs.Common.{◌≡◌, ◌+◌, ◌-◌, ◌≤◌, ◌++◌}
use Rattle.arrayvec.specs.ArrayVec.{array_vec_len}
use Rattle.hx_words.specs.LittleEndian.{bytes_of}
use Rattle.x64_isa.proofs.encoder.put_number.Given as goal

-- the bytes so far and those of what is left are the bytes of the number
abbrev pub invariant-loop : goal.invariant-loop
invariant-loop l = record {
  bytes : l.out.items ++ bytes_of (l.count - l.counter) l.rest ≡ l.fn.out.items ++ bytes_of l.count l.n;
  room : array_vec_len l.out + (l.count - l.counter) ≤ 15;
}
