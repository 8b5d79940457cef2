-- What `clap` makes of all words of a command line that passes the rule of words.
use Rattle.std.proofs.Common.{◌≡◌, ◌&&◌, ◌||◌, not, Bool, true, false, List, [], ◌∷◌, ◌++◌, Option, Some, is_some, codes, if◌then◌else◌, refl, sym, ap, ap₂, subst, ◌∙◌, append-nil, append_assoc, map}
use Rattle.std.specs.Str.{bytes_eq}
use Rattle.std.specs.List.{fold, list_any}
use Rattle.std.proofs.lemmas.Slice.Eq.{bytes_eq-Decides}
use Rattle.std.proofs.lemmas.List.Folds.{list_any-append}
use Rattle.clap.specs.Walk.{Row, Walk, walked, has_row, settled_rows, option}
use Rattle.clap.specs.Takes.{settle_passes, turn_passes, walk_passes}
use Rattle.ec_words.specs.declared.table.Verb.{Verb}
use Rattle.ec_words.specs.declared.table.Verb.TheVariants as verb
use Rattle.ec_words.specs.Table.{Text, options_of}
use Rattle.ec_words.specs.Rule.{is_operand, operands, options, value_of, are_options}
use Rattle.ec_words.proofs.Steps.{Switch, output, marking, stack, base, fuel, size, name_of, id_of, words_id, top, row, held, walk_at, open_to, name_step, name_passes, value_step, value_passes, word_step, word_turn, option_settles, option_settles_well, words_rows, word_settles, word_settles_well}

-- ---- names of options

abbrev switches : Verb → List Switch
switches verb.Check = []
switches verb.Interp = fuel ∷ []
switches verb.Compile = output ∷ marking ∷ []
switches verb.Link = output ∷ stack ∷ []
switches verb.Build = output ∷ marking ∷ stack ∷ []
switches verb.Run = base ∷ fuel ∷ []
switches verb.Exec = output ∷ marking ∷ stack ∷ base ∷ fuel ∷ []
switches verb.Gen = size ∷ []
switches verb.Many = output ∷ []

switches_name : (v : Verb) → map name_of (switches v) ≡ options_of v
switches_name verb.Check = refl
switches_name verb.Interp = refl
switches_name verb.Compile = refl
switches_name verb.Link = refl
switches_name verb.Build = refl
switches_name verb.Run = refl
switches_name verb.Exec = refl
switches_name verb.Gen = refl
switches_name verb.Many = refl

same_text : (a b : Text) → bytes_eq a b ≡ true → a ≡ b
same_text a b e = (bytes_eq-Decides a b).0 e

found_among : (ss : List Switch) (n : Text) → list_any (λ name. bytes_eq name n) (map name_of ss) ≡ true → (o : Switch) × (name_of o ≡ n)
found_among [] n e = absurd (cc)
found_among (s ∷ ss) n e = go (bytes_eq (name_of s) n) refl (found_among ss n)
  where
    go : (b : Bool) → bytes_eq (name_of s) n ≡ b → (list_any (λ name. bytes_eq name n) (map name_of ss) ≡ true → (o : Switch) × (name_of o ≡ n)) → (o : Switch) × (name_of o ≡ n)
    go true h others = (s, same_text (name_of s) n h)
    go false h others = others (sym (ap (λ t. t || list_any (λ name. bytes_eq name n) (map name_of ss)) h) ∙ e)

-- each option of a command is one of the command line
pub known : (v : Verb) (n : Text) → list_any (λ name. bytes_eq name n) (options_of v) ≡ true → (o : Switch) × (name_of o ≡ n)
known v n e = found_among (switches v) n (ap (list_any (λ name. bytes_eq name n)) (switches_name v) ∙ e)

-- ids tell options apart as names do
pub same_switch : (o p : Switch) → bytes_eq (id_of o) (id_of p) ≡ bytes_eq (name_of o) (name_of p)
same_switch output output = refl
same_switch output marking = refl
same_switch output stack = refl
same_switch output base = refl
same_switch output fuel = refl
same_switch output size = refl
same_switch marking output = refl
same_switch marking marking = refl
same_switch marking stack = refl
same_switch marking base = refl
same_switch marking fuel = refl
same_switch marking size = refl
same_switch stack output = refl
same_switch stack marking = refl
same_switch stack stack = refl
same_switch stack base = refl
same_switch stack fuel = refl
same_switch stack size = refl
same_switch base output = refl
same_switch base marking = refl
same_switch base stack = refl
same_switch base base = refl
same_switch base fuel = refl
same_switch base size = refl
same_switch fuel output = refl
same_switch fuel marking = refl
same_switch fuel stack = refl
same_switch fuel base = refl
same_switch fuel fuel = refl
same_switch fuel size = refl
same_switch size output = refl
same_switch size marking = refl
same_switch size stack = refl
same_switch size base = refl
same_switch size fuel = refl
same_switch size size = refl

-- the id of the option of this name
abbrev pub id_named : Text → Text
id_named n =
    if bytes_eq n (codes "-o") then codes "output"
    else (if bytes_eq n (codes "-m") then codes "marking"
    else (if bytes_eq n (codes "--stack") then codes "stack"
    else (if bytes_eq n (codes "--base") then codes "base"
    else (if bytes_eq n (codes "--fuel") then codes "fuel"
    else codes "size"))))

pub id_named-name : (o : Switch) → id_named (name_of o) ≡ id_of o
id_named-name output = refl
id_named-name marking = refl
id_named-name stack = refl
id_named-name base = refl
id_named-name fuel = refl
id_named-name size = refl

-- the rows of options
abbrev pub option_rows : List Text → List Row
option_rows [] = []
option_rows (n ∷ []) = []
option_rows (n ∷ (v ∷ rest)) = row (id_named n) (v ∷ []) ∷ option_rows rest

-- ---- the walk

-- what is held comes to these rows, and passes
pub record Stands (all rows : List Row) (p : Option (Text × List Text)) : Type 0 where
  pub settles : settled_rows top.rules p rows ≡ all
  pub passes : settle_passes top.rules false (held rows p) ≡ true

-- the walk over words passes, and comes to these rows
pub record Ends (w : Walk) (words : List Text) (all : List Row) : Type 0 where
  pub rows : List Row
  pub pending : Option (Text × List Text)
  pub more : Bool
  pub is : fold (walked top.rules []) w words ≡ walk_at rows pending (open_to more)
  pub stands : Stands all rows pending
  pub passes : walk_passes top [] w words ≡ true

-- no option of the words has a row yet
abbrev Fresh : List Text → List Row → Type 0
Fresh os rows = (o : Switch) → is_some (value_of (name_of o) os) ≡ true → has_row (id_of o) rows ≡ false

pub and_left : (a b : Bool) → (a && b) ≡ true → a ≡ true
and_left true b e = refl
and_left false b e = e

pub and_right : (a b : Bool) → (a && b) ≡ true → b ≡ true
and_right true b e = e
and_right false b e = absurd (cc)

not_both : (b : Bool) → not b ≡ true → b ≡ true → ⊥
not_both true n e = absurd (cc)
not_both false n e = absurd (cc)

-- the option that was met has a row from now on, and isn't met again
fresh_after : (o : Switch) (v : Text) (rest : List Text) (all : List Row) → Fresh (name_of o ∷ (v ∷ rest)) all → not (is_some (value_of (name_of o) rest)) ≡ true
    → Fresh rest (all ++ row (id_of o) (v ∷ []) ∷ [])
fresh_after o v rest all fresh once p later =
    list_any-append (λ r. bytes_eq r.id (id_of p)) all (row (id_of o) (v ∷ []) ∷ []) ∙ ap₂ (λ a b. a || (b || false)) before apart
  where
    named : (b : Bool) → is_some (if b then Some v else value_of (name_of p) rest) ≡ true
    named true = refl
    named false = later

    before : has_row (id_of p) all ≡ false
    before = fresh p (named (bytes_eq (name_of o) (name_of p)))

    go : (b : Bool) → bytes_eq (name_of o) (name_of p) ≡ b → bytes_eq (id_of o) (id_of p) ≡ false
    go false e = same_switch o p ∙ e
    go true e = absurd (not_both _ once (ap (λ n. is_some (value_of n rest)) (same_text (name_of o) (name_of p) e) ∙ later))

    apart : bytes_eq (id_of o) (id_of p) ≡ false
    apart = go (bytes_eq (name_of o) (name_of p)) refl

met_here : (o : Switch) (v : Text) (rest : List Text) → is_some (value_of (name_of o) (name_of o ∷ (v ∷ rest))) ≡ true
met_here output v rest = refl
met_here marking v rest = refl
met_here stack v rest = refl
met_here base v rest = refl
met_here fuel v rest = refl
met_here size v rest = refl

both : (a b c : Bool) → a ≡ true → b ≡ true → c ≡ true → (a && (b && c)) ≡ true
both true true true a b c = refl
both true true false a b c = c
both true false c' a b c = b
both false b' c' a b c = a

-- an option, and the walk over those that follow
option_ends : (o : Switch) (v : Text) (rest : List Text) (all rows : List Row) (p : Option (Text × List Text)) (more : Bool) → is_operand v ≡ true → has_row (id_of o) all ≡ false → Stands all rows p
    → (all' : List Row) → Ends (walk_at all (Some (id_of o, v ∷ [])) (open_to false)) rest all' → Ends (walk_at rows p (open_to more)) (name_of o ∷ (v ∷ rest)) all'
unfolding walk_passes
option_ends o v rest all rows p more operand absent stands all' ends =
    let first : walked top.rules [] (walk_at rows p (open_to more)) (name_of o) ≡ walk_at all (Some (id_of o, [])) (option (id_of o)) =
    name_step o more rows p ∙ ap (λ rs. walk_at rs (Some (id_of o, [])) (option (id_of o))) stands.settles in
    let second : walked top.rules [] (walked top.rules [] (walk_at rows p (open_to more)) (name_of o)) v ≡ walk_at all (Some (id_of o, v ∷ [])) (open_to false) =
    ap (λ w. walked top.rules [] w v) first ∙ value_step o all v operand in
    record {
      rows = ends.rows;
      pending = ends.pending;
      more = ends.more;
      is = ap (λ w. fold (walked top.rules []) w rest) second ∙ ends.is;
      stands = ends.stands;
      passes = both _ _ _ (name_passes o more rows p stands.passes) (ap (λ w. turn_passes top [] w v) first ∙ value_passes o all v operand) (ap (λ w. walk_passes top [] w rest) second ∙ ends.passes);
    }

pub options_end : (c : Verb) (os : List Text) (all rows : List Row) (p : Option (Text × List Text)) (more : Bool) → are_options (options_of c) os ≡ true → Fresh os all → Stands all rows p
    → Ends (walk_at rows p (open_to more)) os (all ++ option_rows os)
unfolding walk_passes
options_end c [] all rows p more os_are fresh stands = record {
  rows = rows;
  pending = p;
  more = more;
  is = refl;
  stands = record { settles = stands.settles ∙ sym (append-nil all); passes = stands.passes };
  passes = refl;
}
options_end c (n ∷ []) all rows p more os_are fresh stands = absurd (cc)
options_end c (n ∷ (v ∷ rest)) all rows p more os_are fresh stands =
    let o = known c n (and_left _ _ os_are) in
    let after_name = and_right _ _ os_are in
    let operand = and_left _ _ after_name in
    let after_value = and_right _ _ after_name in
    let once = and_left _ _ after_value in
    let others = and_right _ _ after_value in
    subst (λ m. Ends (walk_at rows p (open_to more)) (m ∷ (v ∷ rest)) (all ++ option_rows (m ∷ (v ∷ rest)))) o.1
    (go o.0 v operand
    (subst (λ m. Fresh (m ∷ (v ∷ rest)) all) (sym o.1) fresh)
    (subst (λ m. not (is_some (value_of m rest)) ≡ true) (sym o.1) once)
    (λ all' rows' p' more' fresh' stands'. options_end c rest all' rows' p' more' others fresh' stands'))
  where
    go : (o : Switch) (v : Text) → is_operand v ≡ true → Fresh (name_of o ∷ (v ∷ rest)) all → not (is_some (value_of (name_of o) rest)) ≡ true
        → ((all' rows' : List Row) (p' : Option (Text × List Text)) (more' : Bool) → Fresh rest all' → Stands all' rows' p' → Ends (walk_at rows' p' (open_to more')) rest (all' ++ option_rows rest))
        → Ends (walk_at rows p (open_to more)) (name_of o ∷ (v ∷ rest)) (all ++ option_rows (name_of o ∷ (v ∷ rest)))
    go o v operand fresh once next =
        let absent : has_row (id_of o) all ≡ false = fresh o (met_here o v rest) in
        let after = next (all ++ row (id_of o) (v ∷ []) ∷ []) all (Some (id_of o, v ∷ [])) false (fresh_after o v rest all fresh once)
        (record { settles = option_settles o all v absent; passes = option_settles_well o all v absent }) in
        let same : (all ++ row (id_of o) (v ∷ []) ∷ []) ++ option_rows rest ≡ all ++ option_rows (name_of o ∷ (v ∷ rest)) =
        append_assoc all (row (id_of o) (v ∷ []) ∷ []) (option_rows rest) ∙ ap (λ id. all ++ (row id (v ∷ []) ∷ option_rows rest)) (sym (id_named-name o)) in
        subst (Ends (walk_at rows p (open_to more)) (name_of o ∷ (v ∷ rest))) same (option_ends o v rest all rows p more operand absent stands _ after)

words_have : (us : List Text) (o : Switch) → has_row (id_of o) (words_rows us) ≡ false
words_have [] o = refl
words_have (u ∷ us) output = refl
words_have (u ∷ us) marking = refl
words_have (u ∷ us) stack = refl
words_have (u ∷ us) base = refl
words_have (u ∷ us) fuel = refl
words_have (u ∷ us) size = refl

two : (a b : Bool) → a ≡ true → b ≡ true → (a && b) ≡ true
two true b e f = f
two false b e f = e

-- a positional word, and the walk over those that follow
word_ends : (w : Text) (rest us : List Text) (rows : List Row) (p : Option (Text × List Text)) (more : Bool) → is_operand w ≡ true → Stands (words_rows us) rows p
    → (all : List Row) → Ends (walk_at (words_rows us) (Some (words_id, w ∷ [])) (open_to true)) rest all → Ends (walk_at rows p (open_to more)) (w ∷ rest) all
unfolding walk_passes
word_ends w rest us rows p more operand stands all ends =
    let first : walked top.rules [] (walk_at rows p (open_to more)) w ≡ walk_at (words_rows us) (Some (words_id, w ∷ [])) (open_to true) =
    word_step more rows p w operand ∙ ap (λ rs. walk_at rs (Some (words_id, w ∷ [])) (open_to true)) stands.settles in
    record {
      rows = ends.rows;
      pending = ends.pending;
      more = ends.more;
      is = ap (λ v. fold (walked top.rules []) v rest) first ∙ ends.is;
      stands = ends.stands;
      passes = two _ _ (word_turn more rows p w operand stands.passes) (ap (λ v. walk_passes top [] v rest) first ∙ ends.passes);
    }

-- the rows that words come to, after these positional words
abbrev pub all_rows : List Text → List Text → List Text → List Row
all_rows us front back = words_rows (us ++ front) ++ option_rows back

pub words_end : (c : Verb) (ws us : List Text) (rows : List Row) (p : Option (Text × List Text)) (more : Bool) → are_options (options_of c) (options ws) ≡ true → Stands (words_rows us) rows p
    → Ends (walk_at rows p (open_to more)) ws (all_rows us (operands ws) (options ws))
words_end c [] us rows p more os_are stands =
    subst (λ vs. Ends (walk_at rows p (open_to more)) [] (words_rows vs ++ [])) (sym (append-nil us)) (options_end c [] (words_rows us) rows p more refl (λ o _. words_have us o) stands)
words_end c (w ∷ ws) us rows p more os_are stands = go (is_operand w) refl (λ us' rows' p' more' os' stands'. words_end c ws us' rows' p' more' os' stands')
  where
    go : (b : Bool) → is_operand w ≡ b
        → ((us' : List Text) (rows' : List Row) (p' : Option (Text × List Text)) (more' : Bool) → are_options (options_of c) (options ws) ≡ true → Stands (words_rows us') rows' p' → Ends (walk_at rows' p' (open_to more')) ws (all_rows us' (operands ws) (options ws)))
        → Ends (walk_at rows p (open_to more)) (w ∷ ws) (all_rows us (operands (w ∷ ws)) (options (w ∷ ws)))
    go true e next =
        let os' : are_options (options_of c) (options ws) ≡ true = sym (ap (λ b. are_options (options_of c) (if b then options ws else w ∷ ws)) e) ∙ os_are in
        let after = next (us ++ w ∷ []) (words_rows us) (Some (words_id, w ∷ [])) true os' (record { settles = word_settles us w; passes = word_settles_well (words_rows us) w }) in
        subst (λ b. Ends (walk_at rows p (open_to more)) (w ∷ ws) (all_rows us (if b then w ∷ operands ws else []) (if b then options ws else w ∷ ws))) (sym e)
        (subst (λ vs. Ends (walk_at rows p (open_to more)) (w ∷ ws) (words_rows vs ++ option_rows (options ws))) (append_assoc us (w ∷ []) (operands ws))
        (word_ends w ws us rows p more e stands _ after))
    go false e next =
        let os' : are_options (options_of c) (w ∷ ws) ≡ true = sym (ap (λ b. are_options (options_of c) (if b then options ws else w ∷ ws)) e) ∙ os_are in
        subst (λ b. Ends (walk_at rows p (open_to more)) (w ∷ ws) (all_rows us (if b then w ∷ operands ws else []) (if b then options ws else w ∷ ws))) (sym e)
        (subst (λ vs. Ends (walk_at rows p (open_to more)) (w ∷ ws) (words_rows vs ++ option_rows (w ∷ ws))) (sym (append-nil us))
        (options_end c (w ∷ ws) (words_rows us) rows p more os' (λ o _. words_have us o) stands))
