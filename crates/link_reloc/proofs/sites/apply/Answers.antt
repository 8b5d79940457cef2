use Rattle.std.proofs.Common.{refl, sym, ap, ◌∙◌}
use Rattle.std.proofs.Common.{take}
use Rattle.std.proofs.lemmas.List.{take_rest}
use Rattle.hx_words.specs.LittleEndian.{number_of}
use Rattle.hx_names.specs.declared.pieces.SiteKind.TheVariants.{Addr32Nb, Rel32, Branch26, PageBaseRel21, PageOffset12A, PageOffset12L}
use Rattle.link_reloc.specs.Sites.{becomes, held, place_of, relative_of, branch_of, page_base_of, page_offset_of, access_offset_of}
use Rattle.link_reloc.proofs.OfKinds.{answered, stands, nothing_answered, nothing_stands, address_answered, address_stands}
use Rattle.link_reloc.proofs.sites.apply.Goals as goal

pub returns-in-Nothing-clause-answer : goal.returns-in-Nothing-clause-answer
returns-in-Nothing-clause-answer c = sym (nothing_answered c.args.kind c.args.bytes.now c.args.at c.args.site c.args.target c.args.base c.in-Nothing.is)

pub returns-in-Nothing-clause-after : goal.returns-in-Nothing-clause-after
returns-in-Nothing-clause-after c = nothing_stands c.args.kind c.args.bytes.now c.args.at c.args.site c.args.target c.args.base c.in-Nothing.is

pub returns-in-Addr64-clause-answer : goal.returns-in-Addr64-clause-answer
returns-in-Addr64-clause-answer c = sym (address_answered c.args.kind c.args.bytes.now c.args.at c.args.site c.args.target c.args.base c.in-Addr64.is)

pub returns-in-Addr64-clause-after : goal.returns-in-Addr64-clause-after
unfolding held
returns-in-Addr64-clause-after c = address_stands c.args.kind c.args.bytes.now c.write_at.new.bytes c.args.at c.args.site c.args.target c.args.base c.read_number-number.result c.in-Addr64.is (c.read_number-number.ensures.value ∙ ap (λ l. number_of (take 8 l)) (take_rest c.args.bytes.now c.args.at)) c.write_at.ensures

pub returns-in-Addr32Nb-clause-answer : goal.returns-in-Addr32Nb-clause-answer
unfolding becomes
returns-in-Addr32Nb-clause-answer c = answered c.args.kind Addr32Nb c.args.bytes.now c.args.at c.args.site c.args.target c.args.base c.place.result c.in-Addr32Nb.is (c.place.ensures ∙ ap (place_of c.args.target) c.word_at.ensures) c.put_word.result c.put_word.ensures.answer

pub returns-in-Addr32Nb-clause-after : goal.returns-in-Addr32Nb-clause-after
unfolding becomes
returns-in-Addr32Nb-clause-after c = stands c.args.kind Addr32Nb c.args.bytes.now c.args.at c.args.site c.args.target c.args.base c.place.result c.in-Addr32Nb.is (c.place.ensures ∙ ap (place_of c.args.target) c.word_at.ensures) c.put_word.new.bytes refl c.put_word.ensures.after

pub returns-in-Rel32-clause-answer : goal.returns-in-Rel32-clause-answer
unfolding becomes
returns-in-Rel32-clause-answer c = answered c.args.kind Rel32 c.args.bytes.now c.args.at c.args.site c.args.target c.args.base c.relative.result c.in-Rel32.is (c.relative.ensures ∙ ap (relative_of c.args.site c.args.target) c.word_at-in-Rel32.ensures) c.put_word-in-Rel32.result c.put_word-in-Rel32.ensures.answer

pub returns-in-Rel32-clause-after : goal.returns-in-Rel32-clause-after
unfolding becomes
returns-in-Rel32-clause-after c = stands c.args.kind Rel32 c.args.bytes.now c.args.at c.args.site c.args.target c.args.base c.relative.result c.in-Rel32.is (c.relative.ensures ∙ ap (relative_of c.args.site c.args.target) c.word_at-in-Rel32.ensures) c.put_word-in-Rel32.new.bytes refl c.put_word-in-Rel32.ensures.after

pub returns-in-Branch26-clause-answer : goal.returns-in-Branch26-clause-answer
unfolding becomes
returns-in-Branch26-clause-answer c = answered c.args.kind Branch26 c.args.bytes.now c.args.at c.args.site c.args.target c.args.base c.branch-word_at.result c.in-Branch26.is (c.branch-word_at.ensures ∙ ap (branch_of c.args.site c.args.target) c.word_at-in-Branch26.ensures) c.put_word-in-Branch26.result c.put_word-in-Branch26.ensures.answer

pub returns-in-Branch26-clause-after : goal.returns-in-Branch26-clause-after
unfolding becomes
returns-in-Branch26-clause-after c = stands c.args.kind Branch26 c.args.bytes.now c.args.at c.args.site c.args.target c.args.base c.branch-word_at.result c.in-Branch26.is (c.branch-word_at.ensures ∙ ap (branch_of c.args.site c.args.target) c.word_at-in-Branch26.ensures) c.put_word-in-Branch26.new.bytes refl c.put_word-in-Branch26.ensures.after

pub returns-in-PageBaseRel21-clause-answer : goal.returns-in-PageBaseRel21-clause-answer
unfolding becomes
returns-in-PageBaseRel21-clause-answer c = answered c.args.kind PageBaseRel21 c.args.bytes.now c.args.at c.args.site c.args.target c.args.base c.page_base.result c.in-PageBaseRel21.is (c.page_base.ensures ∙ ap (page_base_of c.args.site c.args.target) c.word_at-in-PageBaseRel21.ensures) c.put_word-in-PageBaseRel21.result c.put_word-in-PageBaseRel21.ensures.answer

pub returns-in-PageBaseRel21-clause-after : goal.returns-in-PageBaseRel21-clause-after
unfolding becomes
returns-in-PageBaseRel21-clause-after c = stands c.args.kind PageBaseRel21 c.args.bytes.now c.args.at c.args.site c.args.target c.args.base c.page_base.result c.in-PageBaseRel21.is (c.page_base.ensures ∙ ap (page_base_of c.args.site c.args.target) c.word_at-in-PageBaseRel21.ensures) c.put_word-in-PageBaseRel21.new.bytes refl c.put_word-in-PageBaseRel21.ensures.after

pub returns-in-PageOffset12A-clause-answer : goal.returns-in-PageOffset12A-clause-answer
unfolding becomes
returns-in-PageOffset12A-clause-answer c = answered c.args.kind PageOffset12A c.args.bytes.now c.args.at c.args.site c.args.target c.args.base c.page_offset.result c.in-PageOffset12A.is (c.page_offset.ensures ∙ ap (page_offset_of c.args.target) c.word_at-in-PageOffset12A.ensures) c.put_word-in-PageOffset12A.result c.put_word-in-PageOffset12A.ensures.answer

pub returns-in-PageOffset12A-clause-after : goal.returns-in-PageOffset12A-clause-after
unfolding becomes
returns-in-PageOffset12A-clause-after c = stands c.args.kind PageOffset12A c.args.bytes.now c.args.at c.args.site c.args.target c.args.base c.page_offset.result c.in-PageOffset12A.is (c.page_offset.ensures ∙ ap (page_offset_of c.args.target) c.word_at-in-PageOffset12A.ensures) c.put_word-in-PageOffset12A.new.bytes refl c.put_word-in-PageOffset12A.ensures.after

pub returns-in-PageOffset12L-clause-answer : goal.returns-in-PageOffset12L-clause-answer
unfolding becomes
returns-in-PageOffset12L-clause-answer c = answered c.args.kind PageOffset12L c.args.bytes.now c.args.at c.args.site c.args.target c.args.base c.access_offset.result c.in-PageOffset12L.is (c.access_offset.ensures ∙ ap (access_offset_of c.args.target) c.word_at-in-PageOffset12L.ensures) c.put_word-in-PageOffset12L.result c.put_word-in-PageOffset12L.ensures.answer

pub returns-in-PageOffset12L-clause-after : goal.returns-in-PageOffset12L-clause-after
unfolding becomes
returns-in-PageOffset12L-clause-after c = stands c.args.kind PageOffset12L c.args.bytes.now c.args.at c.args.site c.args.target c.args.base c.access_offset.result c.in-PageOffset12L.is (c.access_offset.ensures ∙ ap (access_offset_of c.args.target) c.word_at-in-PageOffset12L.ensures) c.put_word-in-PageOffset12L.new.bytes refl c.put_word-in-PageOffset12L.ensures.after
