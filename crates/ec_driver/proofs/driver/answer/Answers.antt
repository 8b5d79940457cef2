use Rattle.std.proofs.Common.{map, string_bytes, option_map, ap, sym, ◌∙◌}
use Rattle.ec_words.specs.Commands.{form_of}
use Rattle.ec_driver.proofs.Fuel.{read_within}
use Rattle.ec_driver.proofs.driver.answer.Goals as goal

pub obey-requires : goal.obey-requires
obey-requires g c =
    read_within (map string_bytes c.args.words.now) (form_of c.in-Ok-Some.command)
    (ap (option_map form_of) (sym c.in-Ok-Some.field-0-is) ∙ c.in-Ok-Some.ensures)
