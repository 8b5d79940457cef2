-- What `clap` makes of one more word of a command line that passes the rule of words.
use Rattle.std.proofs.Common.{◌≡◌, ◌&&◌, ◌||◌, ◌==◌, not, Bool, true, false, List, [], ◌∷◌, ◌++◌, Option, Some, None, codes, if◌then◌else◌, option_and_then, refl, sym, ap, ◌∙◌, append-nil}
use Rattle.std.specs.Str.{bytes_eq}
use Rattle.std.specs.Option.{option_map_or}
use Rattle.clap.specs.declared.builder.value_parser.ValueParser.TheVariants as vp
use Rattle.clap.specs.declared.parser.matches.ValueSource.TheVariants.{CommandLine}
use Rattle.clap.specs.Values.{reading_of}
use Rattle.clap.specs.Lexer.{long_of, long_of_rest, short_of, short_of_rest, strip_byte}
use Rattle.clap.specs.Walk.{Held, Row, Step, Waiting, idle, option, positional, trailing, Walk, walked, after_step, at_row, has_row, long_or_other, more_values, plain_word, pushed, settled, settled_rows, short_or_plain, subcommand_met, subcommand_or_other, with_values, without, word_met}
use Rattle.clap.specs.Simple.{Shape, built}
use Rattle.clap.specs.Takes.{bundle_passes, flag_word_passes, other_passes, settle_passes, step_passes, turn_passes, word_passes}
use Rattle.clap.proofs.OnLiterals.{clap_on_literals}
use Rattle.ec_words.specs.Table.{Text}
use Rattle.ec_words.specs.Rule.{is_operand}
use Rattle.ec_words.specs.Parse.{line_app}

-- the options of the command line
pub data Switch : Type 0 where
  output : Switch
  marking : Switch
  stack : Switch
  base : Switch
  fuel : Switch
  size : Switch

abbrev pub name_of : Switch → Text
name_of output = codes "-o"
name_of marking = codes "-m"
name_of stack = codes "--stack"
name_of base = codes "--base"
name_of fuel = codes "--fuel"
name_of size = codes "--size"

abbrev pub id_of : Switch → Text
id_of output = codes "output"
id_of marking = codes "marking"
id_of stack = codes "stack"
id_of base = codes "base"
id_of fuel = codes "fuel"
id_of size = codes "size"

abbrev pub words_id : Text
words_id = codes "words"

abbrev pub top : Shape
top = (built line_app).top

abbrev pub row : Text → List Text → Row
row id values = record { id = id; values = values; count = None; source = Some CommandLine; reading = reading_of vp.String }

-- what is held between two words, and the walk there
abbrev pub held : List Row → Option (Text × List Text) → Held
held rows pending = record { rows = rows; pending = pending; skip = 0 }

abbrev pub walk_at : List Row → Option (Text × List Text) → Waiting → Walk
walk_at rows pending waiting = record { held = held rows pending; waiting = waiting; position = 1; is_trailing = false; stopped = None }

-- nothing is waited for, or more positional words
abbrev pub open_to : Bool → Waiting
open_to false = idle
open_to true = positional

-- ---- the name of an option

pub name_step : (o : Switch) (more : Bool) (rows : List Row) (p : Option (Text × List Text))
    → walked top.rules [] (walk_at rows p (open_to more)) (name_of o) ≡ walk_at (settled_rows top.rules p rows) (Some (id_of o, [])) (option (id_of o))
unfolding clap_on_literals
name_step output false rows p = refl
name_step output true rows p = refl
name_step marking false rows p = refl
name_step marking true rows p = refl
name_step stack false rows p = refl
name_step stack true rows p = refl
name_step base false rows p = refl
name_step base true rows p = refl
name_step fuel false rows p = refl
name_step fuel true rows p = refl
name_step size false rows p = refl
name_step size true rows p = refl

pub name_passes : (o : Switch) (more : Bool) (rows : List Row) (p : Option (Text × List Text)) → settle_passes top.rules false (held rows p) ≡ true
    → turn_passes top [] (walk_at rows p (open_to more)) (name_of o) ≡ true
unfolding clap_on_literals
name_passes output false rows p e = rw e refl
name_passes output true rows p e = rw e refl
name_passes marking false rows p e = rw e refl
name_passes marking true rows p e = rw e refl
name_passes stack false rows p e = rw e refl
name_passes stack true rows p e = rw e refl
name_passes base false rows p e = rw e refl
name_passes base true rows p e = rw e refl
name_passes fuel false rows p e = rw e refl
name_passes fuel true rows p e = rw e refl
name_passes size false rows p e = rw e refl
name_passes size true rows p e = rw e refl

-- ---- a word that is no option

not_true : (b : Bool) → not b ≡ true → b ≡ false
not_true false e = refl
not_true true e = sym e

and_false : (a : Bool) → (a && false) ≡ false
and_false true = refl
and_false false = refl

-- an operand is neither `--` nor a long nor a short option
no_dashes : (w : Text) → is_operand w ≡ true → bytes_eq w (45 ∷ 45 ∷ []) ≡ false
no_dashes [] e = absurd (cc)
no_dashes (b ∷ bs) e = ap (λ t. t && bytes_eq bs (45 ∷ [])) (not_true (b == 45) e)

no_minus : (w : Text) → is_operand w ≡ true → strip_byte 45 w ≡ None
no_minus [] e = refl
no_minus (b ∷ bs) e = ap (λ t. if t then Some bs else None) (not_true (b == 45) e)

no_long : (w : Text) → is_operand w ≡ true → long_of w ≡ None
no_long w e = ap (λ o. option_and_then long_of_rest (option_and_then (strip_byte 45) o)) (no_minus w e)

no_short : (w : Text) → is_operand w ≡ true → short_of w ≡ None
no_short w e = ap (option_and_then short_of_rest) (no_minus w e)

no_subcommand : (waiting : Waiting) (w : Text) → subcommand_met [] waiting w ≡ None
no_subcommand idle w = refl
no_subcommand (option id) w = refl
no_subcommand positional w = refl

operand_met : (waiting : Waiting) (w : Text) (h : Held) → is_operand w ≡ true → word_met top.rules [] false waiting 1 w h ≡ plain_word top.rules waiting w h
operand_met waiting w h e =
    ap (λ name. subcommand_or_other top.rules name waiting 1 w h) (no_subcommand waiting w)
    ∙ ap (λ t. if t then (h, trailing 1) else long_or_other top.rules waiting w (long_of w) h) (no_dashes w e)
    ∙ ap (λ o. long_or_other top.rules waiting w o h) (no_long w e)
    ∙ ap (λ o. short_or_plain top.rules waiting w o h) (no_short w e)

operand_passes : (waiting : Waiting) (w : Text) (h : Held) → is_operand w ≡ true → word_passes top [] false waiting w h ≡ true
operand_passes waiting w h e =
    ap (λ name. other_passes top name w h) (no_subcommand waiting w)
    ∙ ap (λ t. t || flag_word_passes top.rules top.args_override_self (long_of w) w h) (no_dashes w e)
    ∙ ap (λ o. flag_word_passes top.rules top.args_override_self o w h) (no_long w e)
    ∙ ap (λ o. option_map_or (λ flags. bundle_passes top.rules top.args_override_self flags h) o true) (no_short w e)

operand_walked : (rows : List Row) (p : Option (Text × List Text)) (waiting : Waiting) (w : Text) → is_operand w ≡ true
    → walked top.rules [] (walk_at rows p waiting) w
    ≡ after_step top.rules w (walk_at rows p waiting) (plain_word top.rules waiting w (held rows p)).0 (plain_word top.rules waiting w (held rows p)).1
unfolding walked
operand_walked rows p waiting w e = ap (λ (m : Held × Step). after_step top.rules w (walk_at rows p waiting) m.0 m.1) (operand_met waiting w (held rows p) e)

operand_turn : (rows : List Row) (p : Option (Text × List Text)) (waiting : Waiting) (w : Text) → is_operand w ≡ true
    → turn_passes top [] (walk_at rows p waiting) w
    ≡ step_passes top 1 (plain_word top.rules waiting w (held rows p)).0 (plain_word top.rules waiting w (held rows p)).1
operand_turn rows p waiting w e =
    ap (λ (m : Held × Step). word_passes top [] false waiting w (held rows p) && step_passes top 1 m.0 m.1) (operand_met waiting w (held rows p) e)
    ∙ ap (λ t. t && step_passes top 1 (plain_word top.rules waiting w (held rows p)).0 (plain_word top.rules waiting w (held rows p)).1) (operand_passes waiting w (held rows p) e)

-- ---- the value of an option

pub value_step : (o : Switch) (rows : List Row) (v : Text) → is_operand v ≡ true
    → walked top.rules [] (walk_at rows (Some (id_of o, [])) (option (id_of o))) v ≡ walk_at rows (Some (id_of o, v ∷ [])) idle
value_step output rows v e = operand_walked rows (Some (id_of output, [])) (option (id_of output)) v e
value_step marking rows v e = operand_walked rows (Some (id_of marking, [])) (option (id_of marking)) v e
value_step stack rows v e = operand_walked rows (Some (id_of stack, [])) (option (id_of stack)) v e
value_step base rows v e = operand_walked rows (Some (id_of base, [])) (option (id_of base)) v e
value_step fuel rows v e = operand_walked rows (Some (id_of fuel, [])) (option (id_of fuel)) v e
value_step size rows v e = operand_walked rows (Some (id_of size, [])) (option (id_of size)) v e

pub value_passes : (o : Switch) (rows : List Row) (v : Text) → is_operand v ≡ true
    → turn_passes top [] (walk_at rows (Some (id_of o, [])) (option (id_of o))) v ≡ true
value_passes o rows v e = operand_turn rows (Some (id_of o, [])) (option (id_of o)) v e

-- ---- a positional word

abbrev walk_after : Held → Walk
walk_after h = record { held = h; waiting = positional; position = 1; is_trailing = false; stopped = None }

-- what was pending is settled, since each positional word is a use of its own
word_put : (rows : List Row) (q : Text × List Text) (w : Text)
    → walk_after (pushed words_id w (if bytes_eq q.0 words_id && false then held rows (Some q) else settled top.rules (held rows (Some q))))
    ≡ walk_at (settled_rows top.rules (Some q) rows) (Some (words_id, w ∷ [])) positional
word_put rows q w = ap (λ t. walk_after (pushed words_id w (if t then held rows (Some q) else settled top.rules (held rows (Some q))))) (and_false (bytes_eq q.0 words_id))

pub word_step : (more : Bool) (rows : List Row) (p : Option (Text × List Text)) (w : Text) → is_operand w ≡ true
    → walked top.rules [] (walk_at rows p (open_to more)) w ≡ walk_at (settled_rows top.rules p rows) (Some (words_id, w ∷ [])) positional
word_step false rows None w e = operand_walked rows None idle w e
word_step true rows None w e = operand_walked rows None positional w e
word_step false rows (Some q) w e = operand_walked rows (Some q) idle w e ∙ word_put rows q w
word_step true rows (Some q) w e = operand_walked rows (Some q) positional w e ∙ word_put rows q w

pub word_turn : (more : Bool) (rows : List Row) (p : Option (Text × List Text)) (w : Text) → is_operand w ≡ true → settle_passes top.rules false (held rows p) ≡ true
    → turn_passes top [] (walk_at rows p (open_to more)) w ≡ true
word_turn false rows None w e h = operand_turn rows None idle w e
word_turn true rows None w e h = operand_turn rows None positional w e
word_turn false rows (Some q) w e h = operand_turn rows (Some q) idle w e ∙ ap (λ t. t || settle_passes top.rules false (held rows (Some q))) (and_false (bytes_eq q.0 words_id)) ∙ h
word_turn true rows (Some q) w e h = operand_turn rows (Some q) positional w e ∙ ap (λ t. t || settle_passes top.rules false (held rows (Some q))) (and_false (bytes_eq q.0 words_id)) ∙ h

-- ---- what is settled

pub or_left : (a b : Bool) → (a || b) ≡ false → a ≡ false
or_left false b e = refl
or_left true b e = e

pub or_right : (a b : Bool) → (a || b) ≡ false → b ≡ false
or_right false b e = e
or_right true b e = absurd (cc)

-- rows without an id get what is missing at their end
pub at_absent : (id : Text) (change : Row → List Row) (missing rows : List Row) → has_row id rows ≡ false → at_row id change missing rows ≡ rows ++ missing
at_absent id change missing [] e = refl
at_absent id change missing (r ∷ rs) e =
    rw (or_left (bytes_eq r.id id) (has_row id rs) e) (ap (λ more. r ∷ more) (at_absent id change missing rs (or_right (bytes_eq r.id id) (has_row id rs) e)))

used_absent : (id : Text) (rows : List Row) (v : Text) → has_row id rows ≡ false
    → with_values id (reading_of vp.String) CommandLine (v ∷ []) (without id rows) ≡ rows ++ row id (v ∷ []) ∷ []
used_absent id rows v e =
    ap (with_values id (reading_of vp.String) CommandLine (v ∷ [])) (at_absent id (λ _. []) [] rows e ∙ append-nil rows)
    ∙ at_absent id (more_values CommandLine (v ∷ [])) (row id (v ∷ []) ∷ []) rows e

pub option_settles : (o : Switch) (rows : List Row) (v : Text) → has_row (id_of o) rows ≡ false → settled_rows top.rules (Some (id_of o, v ∷ [])) rows ≡ rows ++ row (id_of o) (v ∷ []) ∷ []
option_settles output rows v e = used_absent (id_of output) rows v e
option_settles marking rows v e = used_absent (id_of marking) rows v e
option_settles stack rows v e = used_absent (id_of stack) rows v e
option_settles base rows v e = used_absent (id_of base) rows v e
option_settles fuel rows v e = used_absent (id_of fuel) rows v e
option_settles size rows v e = used_absent (id_of size) rows v e

pub option_settles_well : (o : Switch) (rows : List Row) (v : Text) → has_row (id_of o) rows ≡ false → settle_passes top.rules false (held rows (Some (id_of o, v ∷ []))) ≡ true
option_settles_well output rows v e = rw e refl
option_settles_well marking rows v e = rw e refl
option_settles_well stack rows v e = rw e refl
option_settles_well base rows v e = rw e refl
option_settles_well fuel rows v e = rw e refl
option_settles_well size rows v e = rw e refl

-- the positional words so far
abbrev pub words_rows : List Text → List Row
words_rows [] = []
words_rows (w ∷ ws) = row words_id (w ∷ ws) ∷ []

pub word_settles : (ws : List Text) (w : Text) → settled_rows top.rules (Some (words_id, w ∷ [])) (words_rows ws) ≡ words_rows (ws ++ w ∷ [])
word_settles [] w = refl
word_settles (x ∷ xs) w = refl

pub word_settles_well : (rows : List Row) (w : Text) → settle_passes top.rules false (held rows (Some (words_id, w ∷ []))) ≡ true
word_settles_well rows w = refl
