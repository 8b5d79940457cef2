-- A piece that passes the room: what is kept of it.
use Rattle.std.proofs.Common.{◌≡◌, ◌≤◌, ◌-◌, ◌++◌, length, take, arith}
use Rattle.std.proofs.lemmas.Grind.{common_steps}
use Rattle.std.proofs.lemmas.Bool.Decides.{nat_tests}
use Rattle.hx_io.proofs.BoundedLaws.{take_room, IsPrefix-take}
use Rattle.hx_io.proofs.mem_streams.MemSinkSink.put.Goals as goal

pub returns-clause-exact : goal.returns-clause-exact
returns-clause-exact c =
    let within : length c.args.self.now.bytes ≤ c.args.self.now.room = grind arith in
    let kept : c.extend_from_slice-2.new.self.items ≡ take c.args.self.now.room (c.args.self.now.bytes ++ c.args.piece.now) = grind (arith, common_steps, take_room c.args.self.now.bytes c.args.piece.now c.args.self.now.room within) in
    (grind (arith, nat_tests), grind (arith, nat_tests, kept))

pub returns-clause-puts : goal.returns-clause-puts
returns-clause-puts c =
    let kept : c.extend_from_slice-2.new.self.items ≡ c.args.self.now.bytes ++ take (c.args.self.now.room - length c.args.self.now.bytes) c.args.piece.now = grind (arith, common_steps) in
    (take (c.args.self.now.room - length c.args.self.now.bytes) c.args.piece.now, IsPrefix-take _ _, kept)
