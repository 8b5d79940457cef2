use Rattle.std.proofs.Common.{arith}
use Rattle.x64_isa.proofs.Exact.{decoded-read, decoded-short, decoded-unknown}
use Rattle.x64_isa.proofs.Readers.{AreBytes-from_each}
use Rattle.x64_isa.proofs.decoder.decode.Goals as goal

pub returns-clause-read : goal.returns-clause-read
returns-clause-read c = decoded-read _ _ (AreBytes-from_each c.args.bytes.now (λ k. omega (arith, c.type_inv.bytes k))) c.measured.ensures

pub returns-clause-short : goal.returns-clause-short
returns-clause-short c = decoded-short _ _ (AreBytes-from_each c.args.bytes.now (λ k. omega (arith, c.type_inv.bytes k))) c.measured.ensures

pub returns-clause-unknown : goal.returns-clause-unknown
returns-clause-unknown c = decoded-unknown _ _ (AreBytes-from_each c.args.bytes.now (λ k. omega (arith, c.type_inv.bytes k))) c.measured.ensures
