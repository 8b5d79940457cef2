-- The parse of a command line that passes the rule of words: it succeeds, and finds its parts.
use Rattle.std.proofs.Common.{◌≡◌, ◌&&◌, not, Bool, true, false, List, [], ◌∷◌, ◌++◌, Option, Some, None, is_some, codes, if◌then◌else◌, option_map, unwrap_or, refl, ap, subst, ◌∙◌, drop, length, arith}
use Rattle.std.specs.Str.{bytes_eq}
use Rattle.std.specs.List.{fold, list_all}
use Rattle.clap.specs.declared.parser.matches.ArgMatches.{ArgMatches}
use Rattle.clap.specs.Matches.{found_of, matched_of, raw_values, first_value}
use Rattle.clap.specs.Walk.{Row, Rule, Walk, has_row, first_of, all_of, rows_of, default_rows, reading_by, with_default, is_empty, finished, idle}
use Rattle.clap.specs.Simple.{matches_of}
use Rattle.clap.specs.Takes.{takes}
use Rattle.clap.proofs.OnLiterals.{clap_on_literals}
use Rattle.clap.proofs.WalkLemmas.{first_value-rows, raw_values-rows}
use Rattle.ec_words.specs.declared.table.Verb.{Verb}
use Rattle.ec_words.specs.Table.{Text, options_of}
use Rattle.ec_words.specs.declared.table.Verb.TheVariants as verb
use Rattle.ec_words.specs.Rule.{is_operand, operands, options, value_of, are_options, takes_count, is_line}
use Rattle.ec_words.specs.Commands.{parts_of}
use Rattle.ec_words.specs.Parse.{line_app, parts_found}
use Rattle.ec_words.proofs.Steps.{Switch, output, marking, stack, base, fuel, size, name_of, id_of, words_id, top, row, walk_at, words_rows}
use Rattle.std.proofs.lemmas.Bool.Decides.{nat_tests}
use Rattle.ec_words.proofs.Walks.{Ends, words_end, option_rows, id_named, id_named-name, same_switch, known, and_left, and_right, all_rows}

-- ---- after the walk

-- no option has a default
default_same : (rows : List Row) (a : Rule) → is_empty a.defaults ≡ true → with_default rows a ≡ rows
default_same rows a e = go (has_row a.id rows) a.defaults e
  where
    go : (b : Bool) (ds : List Text) → is_empty ds ≡ true → (if b then rows else default_rows a.id (reading_by a) ds rows) ≡ rows
    go true ds e = refl
    go false [] e = refl
    go false (d ∷ ds) e = absurd (grind (arith, nat_tests))

defaults_same : (rules : List Rule) (rows : List Row) → list_all (λ a. is_empty a.defaults) rules ≡ true → fold with_default rows rules ≡ rows
defaults_same [] rows e = refl
defaults_same (a ∷ rules) rows e =
    ap (λ rs. fold with_default rs rules) (default_same rows a (and_left _ _ e)) ∙ defaults_same rules rows (and_right _ _ e)

pub ends_well : (c : Verb) (ws : List Text) → are_options (options_of c) (options ws) ≡ true → Ends (walk_at [] None idle) ws (all_rows [] (operands ws) (options ws))
ends_well c ws e = words_end c ws [] [] None false e (record { settles = refl; passes = refl })

pub is_taken : (c : Verb) (words : List Text) → are_options (options_of c) (options (drop 1 words)) ≡ true → takes line_app words ≡ true
unfolding clap_on_literals
is_taken c words e = let ends = ends_well c (drop 1 words) e in rw (ends.is, ends.passes, ends.stands.passes) refl

pub rows_are : (c : Verb) (words : List Text) → are_options (options_of c) (options (drop 1 words)) ≡ true → matches_of line_app words ≡ all_rows [] (operands (drop 1 words)) (options (drop 1 words))
rows_are c words e = let ends = ends_well c (drop 1 words) e in
    ap (λ (w : Walk). finished top.rules w.held) ends.is ∙ ap (λ rows. fold with_default rows top.rules) ends.stands.settles ∙ defaults_same top.rules _ refl

-- ---- what is found

past_words : (us : List Text) (o : Switch) (rows : List Row) → first_of (id_of o) (words_rows us ++ rows) ≡ first_of (id_of o) rows
past_words [] o rows = refl
past_words (u ∷ us) output rows = refl
past_words (u ∷ us) marking rows = refl
past_words (u ∷ us) stack rows = refl
past_words (u ∷ us) base rows = refl
past_words (u ∷ us) fuel rows = refl
past_words (u ∷ us) size rows = refl

-- the first row has the id, or doesn't
first_here : (id v : Text) (o : Switch) (rows : List Row) (b : Bool) (rest : Option Text) → bytes_eq id (id_of o) ≡ b → first_of (id_of o) rows ≡ rest
    → first_of (id_of o) (row id (v ∷ []) ∷ rows) ≡ (if b then Some v else rest)
first_here id v o rows true rest e same = rw e refl
first_here id v o rows false rest e same = rw e same

value_found : (c : Verb) (o : Switch) (os : List Text) → are_options (options_of c) os ≡ true → first_of (id_of o) (option_rows os) ≡ value_of (name_of o) os
value_found c o [] e = refl
value_found c o (n ∷ []) e = absurd (cc)
value_found c o (n ∷ (v ∷ rest)) e =
    let s = known c n (and_left _ _ e) in
    let after_name : (is_operand v && (not (is_some (value_of n rest)) && are_options (options_of c) rest)) ≡ true = and_right _ _ e in
    let after_value : (not (is_some (value_of n rest)) && are_options (options_of c) rest) ≡ true = and_right _ _ after_name in
    let later = value_found c o rest (and_right _ _ after_value) in
    subst (λ m. first_of (id_of o) (row (id_named m) (v ∷ []) ∷ option_rows rest) ≡ (if bytes_eq m (name_of o) then Some v else value_of (name_of o) rest)) s.1
    (first_here (id_named (name_of s.0)) v o (option_rows rest) (bytes_eq (name_of s.0) (name_of o)) (value_of (name_of o) rest)
    (ap (λ id. bytes_eq id (id_of o)) (id_named-name s.0) ∙ same_switch s.0 o) later)

no_command : (c : Verb) → takes_count c 0 ≡ true → ⊥
no_command verb.Check e = absurd (cc)
no_command verb.Interp e = absurd (cc)
no_command verb.Compile e = absurd (cc)
no_command verb.Link e = absurd (cc)
no_command verb.Build e = absurd (cc)
no_command verb.Run e = absurd (cc)
no_command verb.Exec e = absurd (cc)
no_command verb.Gen e = absurd (cc)
no_command verb.Many e = absurd (cc)

words_found : (c : Verb) (us : List Text) (rows : List Row) → takes_count c (length us) ≡ true → unwrap_or (all_of words_id (words_rows us ++ rows)) [] ≡ us
words_found c [] rows e = absurd (no_command c e)
words_found c (u ∷ us) rows e = refl

pub found : (c : Verb) (ws : List Text) (m : ArgMatches) → is_line c ws ≡ true → rows_of (found_of m) ≡ all_rows [] (operands ws) (options ws) → parts_found m ≡ parts_of ws
found c ws m line rows =
    let counted : takes_count c (length (operands ws)) ≡ true = and_left _ _ (and_left _ _ line) in
    let os_are : are_options (options_of c) (options ws) ≡ true = and_right _ _ (and_left _ _ line) in
    let front : unwrap_or (option_map raw_values (matched_of (found_of m) (codes "words"))) [] ≡ operands ws =
    ap (λ o. unwrap_or o []) (raw_values-rows (found_of m) (codes "words") ∙ ap (all_of words_id) rows) ∙ words_found c (operands ws) (option_rows (options ws)) counted in
    let value : (o : Switch) → first_value (found_of m) (id_of o) ≡ value_of (name_of o) (options ws) =
    λ o. first_value-rows (found_of m) (id_of o) ∙ ap (first_of (id_of o)) rows ∙ past_words (operands ws) o (option_rows (options ws)) ∙ value_found c o (options ws) os_are in
    λ i. record {
      operands = front i;
      output = value output i;
      marking = value marking i;
      stack = value stack i;
      base = value base i;
      fuel = value fuel i;
      size = value size i;
    }
