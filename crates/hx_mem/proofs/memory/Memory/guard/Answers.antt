use Rattle.std.proofs.Common.{ap, ◌∙◌}
use Rattle.hx_mem.specs.Space.{has_room_for_guard}
use Rattle.hx_mem.proofs.Places.{IsMemory-guard}
use Rattle.hx_mem.proofs.memory.Memory.guard.Goals as goal

pub invariant_of-self : goal.invariant_of-self
invariant_of-self c =
    IsMemory-guard (record { regions = c.self.inside.regions.items; guard = c.self.inside.guard }) c.args.start c.args.length (ap (λ m. has_room_for_guard m c.args.start c.args.length) c.self.view_is ∙ c.requires) c.self.invariant

pub returns-clause-whole : goal.returns-clause-whole
returns-clause-whole c =
    IsMemory-guard (record { regions = c.self.inside.regions.items; guard = c.self.inside.guard }) c.args.start c.args.length (ap (λ m. has_room_for_guard m c.args.start c.args.length) c.self.view_is ∙ c.requires) c.self.invariant
