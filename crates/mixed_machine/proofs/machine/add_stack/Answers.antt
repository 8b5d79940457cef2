use Rattle.std.proofs.Common.{◌≡◌, ◌-◌, true, false, length, List, ℕ, sym, ap, subst, ◌∙◌}
use Rattle.hx_mem.specs.Space.{Space, after_add, has_room_for_guard}
use Rattle.machine_rules.specs.Layout.{stack_top, guard_size}
use Rattle.machine_rules.specs.Loads.{stack_region}
use Rattle.mixed_machine.proofs.Starting.{length-zeros, room_for_stack, room_for_guard}
use Rattle.mixed_machine.proofs.machine.add_stack.Goals as goal

pub add-requires : goal.add-requires
add-requires c = room_for_stack c.args.mem c.args.stack _ c.requires.guard c.requires.low c.requires.stack.most (ap (λ (xs : List ℕ). length xs) c.in_ok-zero_bytes.ensures.items ∙ length-zeros c.args.stack)

pub guard-requires : goal.guard-requires
guard-requires c =
    let added : c.add.new.self ≡ after_add c.args.mem (stack_region c.args.stack) = c.in_ok-add.ensures.ok ∙ ap (λ (bytes : List ℕ). after_add c.args.mem (record { start = stack_top - c.args.stack; bytes = bytes; write = true; exec = false })) c.in_ok-zero_bytes.ensures.items in
    subst (λ (m : Space). has_room_for_guard m (stack_top - c.args.stack - guard_size) guard_size ≡ true) (sym added) (room_for_guard c.args.mem c.args.stack c.requires.low c.requires.stack.most)
