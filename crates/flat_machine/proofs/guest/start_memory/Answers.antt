use Rattle.std.proofs.Common.{ap, ap₂, true, false, length, List, ◌∙◌, ℕ}
use Rattle.hx_mem.specs.Space.{Space, after_add}
use Rattle.flat_machine.specs.Layout.{image_base}
use Rattle.flat_machine.proofs.Places.{room_for_stack, length-zeros}
use Rattle.flat_machine.proofs.guest.start_memory.Goals as goal

pub add-requires-2 : goal.add-requires-2
add-requires-2 c = room_for_stack c.add.new.self c.args.image.now _ (c.in_ok-add.ensures.ok ∙ ap₂ (λ (m : Space) (bytes : List ℕ). after_add m (record { start = image_base; bytes = bytes; write = false; exec = true })) c.new-mem.ensures.value c.in_ok-from_slice.ensures.items) c.requires (ap (λ (xs : List ℕ). length xs) c.in_ok-zero_bytes.ensures.items ∙ length-zeros 1048576)
