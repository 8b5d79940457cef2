use Rattle.std.proofs.Common.{◌≡◌, ◌∙◌, true, ap, drop, map, string_bytes}
use Rattle.clap.specs.Simple.{is_simple, matches_of}
use Rattle.clap.specs.Takes.{takes}
use Rattle.ec_words.specs.Rule.{are_options, options}
use Rattle.ec_words.specs.Table.{options_of}
use Rattle.ec_words.proofs.Walks.{and_left, and_right}
use Rattle.ec_words.proofs.Found.{is_taken, rows_are, found}
use Rattle.ec_words.proofs.parse.parse.Goals as goal

pub returns-in-Ok : goal.returns-in-Ok
returns-in-Ok c =
    let words = map string_bytes c.args.words.now in
    let os_are : are_options (options_of c.args.verb) (options (drop 1 words)) ≡ true = and_right _ _ (and_left _ _ c.requires) in
    let rows = (c.in-Ok.ensures.matches (ap is_simple c.in_ok-line.ensures)).0 ∙ ap (λ a. matches_of a words) c.in_ok-line.ensures ∙ rows_are c.args.verb words os_are in
    found c.args.verb (drop 1 words) c.in-Ok.matches c.requires rows

pub unreachable-requires : goal.unreachable-requires
unreachable-requires c =
    let words = map string_bytes c.args.words.now in
    let os_are : are_options (options_of c.args.verb) (options (drop 1 words)) ≡ true = and_right _ _ (and_left _ _ c.requires) in
    c.in_default.not-OutOfMemory (c.kind.ensures ∙ c.in-Err.ensures.passes (ap (λ a. takes a words) c.in_ok-line.ensures ∙ is_taken c.args.verb words os_are))
