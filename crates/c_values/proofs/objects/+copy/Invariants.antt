use Rattle.std.proofs.Common.{◌≡◌, take}
use Rattle.c_values.proofs.objects.+copy.Given as goal

abbrev pub invariant-copy_parts-loop-part : goal.invariant-copy_parts-loop-part
invariant-copy_parts-loop-part l = l.copy ≡ take l.part-index l.parts
