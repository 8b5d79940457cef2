use Rattle.std.proofs.Common.{◌≡◌, ℕ, ◌<◌, ◌^◌, Some, slice_get}
use Rattle.coff_write.specs.declared.object.ObjSection.{ObjSection as AnySection}
use Rattle.coff_laws.proofs.ranges.look_at_sections.Given as goal

abbrev pub invariant-loop-section : goal.invariant-loop-section
invariant-loop-section l = (k : ℕ) → k < l.section-index → (s : AnySection) → slice_get l.sections k ≡ Some s → (s.flags < 2 ^ 32) × (s.zeros < 2 ^ 32)
