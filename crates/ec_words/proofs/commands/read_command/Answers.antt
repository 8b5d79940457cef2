use Rattle.std.proofs.Common.{◌≡◌, ◌∙◌, ℕ, List, [], ◌∷◌, true, Some, None, option_and_then, if◌then◌else◌, ap, sym, map, drop, length, ◌<◌, slice_index_or, string_bytes, arith, rules}
use Rattle.ec_words.specs.declared.table.Verb.{Verb}
use Rattle.ec_words.specs.Table.{verb_of}
use Rattle.ec_words.specs.Rule.{is_line}
use Rattle.ec_words.specs.Commands.{command_in, command_after, command_of, parts_of}
use Rattle.ec_words.proofs.RuleLemmas.{rest_map}
use Rattle.ec_words.proofs.commands.read_command.Goals as goal

-- the command of a first word that names one, where the others are as its row of the table says
command_is : {A : Type 0} (f : A → List ℕ) (ws : List A) (w : A) (v : Verb) → 0 < length ws → w ≡ slice_index_or ws 0 w → verb_of (f w) ≡ Some v → is_line v (drop 1 (map f ws)) ≡ true
    → command_in v (parts_of (drop 1 (map f ws))) ≡ command_of (map f ws)
command_is f [] w v some first named line = absurd (omega arith)
command_is f (x ∷ xs) w v some first named line =
    let name : verb_of (f x) ≡ Some v = ap (λ y. verb_of (f y)) (sym first) ∙ named in
    sym (ap (option_and_then (λ u. command_after u (map f xs))) name
    ∙ ap (λ b. if b then command_in v (parts_of (map f xs)) else None) line)

pub returns : goal.returns
returns c =
    let words = c.args.words.now in
    let named : verb_of (string_bytes c.index-words-0.result) ≡ Some c.in-Some.verb = ap verb_of (sym c.as_str.ensures.value) ∙ sym c.verb_of.ensures ∙ c.in-Some.is in
    let line : is_line c.in-Some.verb (drop 1 (map string_bytes words)) ≡ true = ap (is_line c.in-Some.verb) (sym (rest_map string_bytes words 1)) ∙ sym c.is_line.ensures ∙ c.if-not-is_line.false in
    c.in_ok-command.ensures ∙ command_is string_bytes words c.index-words-0.result c.in-Some.verb (search rules) c.index-words-0.is named line
