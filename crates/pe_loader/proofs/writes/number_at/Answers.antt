use Rattle.std.proofs.Common.{◌≡◌, None, sym, ap, ◌∙◌, option_map, rules}
use Rattle.hx_words.specs.LittleEndian.{number_of}
use Rattle.hx_mem.specs.Space.{read, read_in}
use Rattle.hx_mem.proofs.First.{region_none, read_of_none, read_of_region, found_in, region_at_place}
use Rattle.pe_loader.proofs.writes.number_at.Goals as goal

pub number_in-requires-clause-from : goal.number_in-requires-clause-from
number_in-requires-clause-from c = rw c.index-regions-i.is (found_in _ _ _ c.in_ok-i.ensures _).0

pub number_in-requires-clause-before : goal.number_in-requires-clause-before
number_in-requires-clause-before c = rw c.index-regions-i.is (found_in _ _ _ c.in_ok-i.ensures _).1

pub returns-in_err-i : goal.returns-in_err-i
returns-in_err-i c =
    let none : option_map number_of (read c.args.regions.now c.args.at 8) ≡ None = ap (option_map number_of) (read_of_none c.args.regions.now c.args.at 8 (region_none _ _ c.in_err-i.ensures)) in
    search rules

pub returns : goal.returns
returns c =
    c.number_in.ensures
    ∙ sym (ap (option_map number_of) (read_of_region c.args.regions.now c.args.at 8 _ (region_at_place c.args.regions.now c.args.at c.in_ok-i.i c.in_ok-i.ensures c.index-regions-i.result) ∙ ap (λ r. read_in r c.args.at 8) (sym c.index-regions-i.is)))
