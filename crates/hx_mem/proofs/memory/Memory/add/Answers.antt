use Rattle.std.proofs.Common.{ap, ◌∙◌, rules, subst}
use Rattle.hx_words.specs.LittleEndian.{AreBytes}
use Rattle.hx_mem.specs.Segments.{Segment}
use Rattle.hx_mem.proofs.Places.{added, IsMemory-added, place_from}
use Rattle.hx_mem.proofs.memory.Memory.add.Goals as goal

pub invariant_of-self-2 : goal.invariant_of-self-2
invariant_of-self-2 c =
    let inside : Segment = record { start = c.region.inside.start; bytes = c.region.inside.bytes.items; write = c.region.inside.write; exec = c.region.inside.exec } in
    let at = place_from c.args.region inside c.self.inside.regions.items c.deref.result.now c.started_by-i.result c.deref.ensures.value c.region.view_is c.started_by-i.ensures.bound c.started_by-i.ensures.started c.started_by-i.ensures.others in
    let bytes = subst AreBytes (c.deref-2.ensures.value ∙ ap (λ (r : Segment). r.bytes) c.region.view_is) c.has_any.ensures.items in
    IsMemory-added c.self.inside.regions.items c.insert.new.self.items c.self.inside.guard c.args.region c.started_by-i.result c.args.self.now c.self.view_is (search rules) bytes c.requires c.in_ok-insert.ensures.items at c.self.invariant

pub returns-clause-ok : goal.returns-clause-ok
returns-clause-ok c =
    let inside : Segment = record { start = c.region.inside.start; bytes = c.region.inside.bytes.items; write = c.region.inside.write; exec = c.region.inside.exec } in
    let at = place_from c.args.region inside c.self.inside.regions.items c.deref.result.now c.started_by-i.result c.deref.ensures.value c.region.view_is c.started_by-i.ensures.bound c.started_by-i.ensures.started c.started_by-i.ensures.others in
    added c.args.self.now c.args.region c.self.inside.regions.items c.insert.new.self.items c.self.inside.guard c.started_by-i.result c.self.view_is (search rules) c.in_ok-insert.ensures.items at

pub returns-clause-whole : goal.returns-clause-whole
returns-clause-whole c =
    let inside : Segment = record { start = c.region.inside.start; bytes = c.region.inside.bytes.items; write = c.region.inside.write; exec = c.region.inside.exec } in
    let at = place_from c.args.region inside c.self.inside.regions.items c.deref.result.now c.started_by-i.result c.deref.ensures.value c.region.view_is c.started_by-i.ensures.bound c.started_by-i.ensures.started c.started_by-i.ensures.others in
    let bytes = subst AreBytes (c.deref-2.ensures.value ∙ ap (λ (r : Segment). r.bytes) c.region.view_is) c.has_any.ensures.items in
    IsMemory-added c.self.inside.regions.items c.insert.new.self.items c.self.inside.guard c.args.region c.started_by-i.result c.args.self.now c.self.view_is (search rules) bytes c.requires c.in_ok-insert.ensures.items at c.self.invariant
