-- What `parse` answers is what the grammar says of the tokens.
use Rattle.std.proofs.Common.{◌≡◌, ◌≢◌, ℕ, ◌+◌, suc, ◌≤◌, ◌<◌, List, [], ◌∷◌, ◌++◌, take, drop, length, get_or, Option, Some, None, Ok, Err, refl, sym, ap, ◌∙◌, subst, add-one, arith}
use Rattle.std.proofs.Math.Seq.{drop-cons, take-suc}
use Rattle.std.proofs.lemmas.List.{drop_all, take_all, map-append}
use Rattle.std.specs.Prelude.{IfOk, IfErr}
use Rattle.c_lex.specs.declared.token.Token.{Token}
use Rattle.c_tree.specs.declared.declarations.Unit.{Unit as Unit'}
use Rattle.c_tree.specs.Height.{unit_height}
use Rattle.parse_terms.specs.declared.answer.Answer.TheVariants.{More, Bad}
use Rattle.parse_terms.specs.declared.terminal.Terminal.{Terminal}
use Rattle.parse_terms.specs.Terminals.{terminal_of}
use Rattle.parse_item.specs.declared.units.UnitState.{UnitState}
use Rattle.parse_item.specs.ItemGrammar.{IsUnit}
use Rattle.parse_item.specs.ItemParts.{UnitPart}
use Rattle.parse_item.specs.UnitMachine.{unit_start, unit_finish, Takes}
use Rattle.parse_item.specs.UnitAnswers.{unit_answer}
use Rattle.item_laws.proofs.UnitLaws.{same_unit}
use Rattle.item_laws.proofs.Bodies.{bodies}
use Rattle.c_parser.specs.declared.refusals.ParseRefusal.{ParseRefusal}
use Rattle.c_parser.specs.declared.refusals.ParseRefusal.TheVariants.{Syntax, TooDeep, NoMemory}
use Rattle.c_parser.specs.Texts.{terminals, IsNoUnit, Stops, IsTooHigh}
use Rattle.c_parser.specs.Readings.{Answered, answer_at_end, answer_behind, reading}
use Rattle.c_parser.specs.Answers.{answer_from, answer_of, Gives, IsRefusal, IsSyntax}
use Rattle.c_parser.proofs.MachineLaws.{Laws}
use Rattle.c_parser.proofs.ReadingLaws.{Read, reads, gives_low, gives_high, gives_stop, was_unit, was_high, was_none, not_memory}
use Rattle.c_parser.proofs.UnitLaws.{unit_laws}

-- ---- the tokens as the grammar sees them

-- one more of them
pub seen_more : (ts : List Token) (i : ℕ) (t : Token) (a : List Terminal) (x : Terminal) → i < length ts → t ≡ get_or ts i t → x ≡ terminal_of t → a ≡ terminals (take i ts) → a ++ x ∷ [] ≡ terminals (take (i + 1) ts)
seen_more ts i t a x h e f inv =
    let front : take (i + 1) ts ≡ take i ts ++ t ∷ [] = ap (λ n. take n ts) (add-one i) ∙ take-suc ts i t h ∙ ap (λ y. take i ts ++ y ∷ []) (sym e) in
    ap (λ l. l ++ x ∷ []) inv ∙ ap (λ y. terminals (take i ts) ++ y ∷ []) f ∙ sym (map-append terminal_of (take i ts) (t ∷ [])) ∙ ap terminals (sym front)

pub seen_all : (ts : List Token) (i : ℕ) (a : List Terminal) → length ts ≤ i → a ≡ terminals (take i ts) → a ≡ terminals ts
seen_all ts i a h inv = inv ∙ ap terminals (take_all i ts h)

-- ---- a list, token by token

pub started : (a : List Terminal) (st : UnitState) → st ≡ unit_start → answer_from 0 (drop 0 a) st ≡ answer_from 0 a unit_start
started a st e = ap (answer_from 0 (drop 0 a)) e

from_end : (at : ℕ) (st : UnitState) → answer_from at [] st ≡ answer_at_end at (unit_finish 256 st)
unfolding answer_from
from_end at st = refl

from_taken : (at : ℕ) (t : Terminal) (a : List Terminal) (st st' : UnitState) → unit_answer 256 t st ≡ More st' → answer_from at (t ∷ a) st ≡ answer_from t.span.«end» a st'
unfolding answer_from
from_taken at t a st st' e = ap (answer_behind t.span.start (reading (unit_answer 256) (unit_finish 256) t.span.«end» a)) e

from_bad : (at : ℕ) (t : Terminal) (a : List Terminal) (st : UnitState) → unit_answer 256 t st ≡ Bad → answer_from at (t ∷ a) st ≡ Err (Syntax t.span.start)
unfolding answer_from
from_bad at t a st e = ap (answer_behind t.span.start (reading (unit_answer 256) (unit_finish 256) t.span.«end» a)) e

rest_is : (a : List Terminal) (i : ℕ) (t : Terminal) → i < length a → t ≡ get_or a i t → drop i a ≡ t ∷ drop (i + 1) a
rest_is a i t h e = drop-cons a i t h ∙ ap (λ y. y ∷ drop (suc i) a) (sym e) ∙ ap (λ n. t ∷ drop n a) (sym (add-one i))

-- one more token
pub goes_on : (a : List Terminal) (i at : ℕ) (t : Terminal) (st st' : UnitState) (o : Option UnitState) (whole : Answered) → i < length a → t ≡ get_or a i t → o ≡ Some st' → Takes o (unit_answer 256 t st) →
    answer_from at (drop i a) st ≡ whole → answer_from t.span.«end» (drop (i + 1) a) st' ≡ whole
goes_on a i at t st st' o whole h e is takes inv =
    let taken : Takes (Some st') (unit_answer 256 t st) = subst (λ p. Takes p (unit_answer 256 t st)) is takes in
    sym (from_taken at t (drop (i + 1) a) st st' taken) ∙ ap (λ l. answer_from at l st) (sym (rest_is a i t h e)) ∙ inv

-- a token that isn't taken
pub halts : (a : List Terminal) (i at : ℕ) (t : Terminal) (st : UnitState) (o : Option UnitState) (whole : Answered) → i < length a → t ≡ get_or a i t → o ≡ None → Takes o (unit_answer 256 t st) →
    answer_from at (drop i a) st ≡ whole → whole ≡ Err (Syntax t.span.start)
halts a i at t st o whole h e is takes inv =
    let bad : Takes None (unit_answer 256 t st) = subst (λ p. Takes p (unit_answer 256 t st)) is takes in
    sym inv ∙ ap (λ l. answer_from at l st) (rest_is a i t h e) ∙ from_bad at t (drop (i + 1) a) st bad

gives_itself : (r : Answered) → Gives r r
gives_itself (Ok u) = refl
gives_itself (Err (Syntax at)) = refl
gives_itself (Err TooDeep) = refl
gives_itself (Err NoMemory) = tt

-- no token is left: what is said of the part
pub told : (a : List Terminal) (i at : ℕ) (st : UnitState) (p : Option UnitPart) (r whole : Answered) → length a ≤ i → answer_from at (drop i a) st ≡ whole → p ≡ unit_finish 256 st → r ≡ answer_at_end at p → Gives r whole
told a i at st p r whole h inv e f =
    let said : r ≡ whole = f ∙ ap (answer_at_end at) e ∙ sym (from_end at st) ∙ ap (λ l. answer_from at l st) (sym (drop_all i a h)) ∙ inv in
    subst (λ (x : Answered). Gives r x) said (gives_itself r)

-- the list was the tokens as the grammar sees them
pub answered : (ts : List Token) (a : List Terminal) (r : Answered) → a ≡ terminals ts → Gives r (answer_from 0 a unit_start) → Gives r (answer_of ts)
unfolding answer_of
answered ts a r e h = subst (λ l. Gives r (answer_from 0 l unit_start)) e h

-- ---- the answer to a list

was_read : (ts : List Token) → Read (unit_answer 256) (unit_finish 256) unit_start 0 (terminals ts) (answer_of ts)
unfolding answer_of answer_from
was_read ts = reads (unit_answer 256) (unit_finish 256) (terminals ts) 0 unit_start

laws : Laws 256 (unit_answer 256) (unit_finish 256) unit_start
laws = unit_laws 256 (omega arith)

pub answer_sound : (ts : List Token) (u : Unit') → answer_of ts ≡ Ok u → IsUnit u (terminals ts) × (unit_height u ≤ 256)
answer_sound ts u e = was_unit (unit_answer 256) (unit_finish 256) 256 unit_start laws (terminals ts) 0 u (answer_of ts) (was_read ts) e

pub answer_whole : (ts : List Token) (u : Unit') → IsUnit u (terminals ts) → unit_height u ≤ 256 → answer_of ts ≡ Ok u
answer_whole ts u d h = gives_low (unit_answer 256) (unit_finish 256) 256 unit_start laws (terminals ts) 0 u (answer_of ts) (was_read ts) d h

pub answer_high : (ts : List Token) → answer_of ts ≡ Err TooDeep → IsTooHigh 256 (terminals ts)
answer_high ts e = was_high (unit_answer 256) (unit_finish 256) 256 unit_start laws (terminals ts) 0 (answer_of ts) (was_read ts) e

pub answer_deep : (ts : List Token) (u : Unit') → IsUnit u (terminals ts) → 256 < unit_height u → answer_of ts ≡ Err TooDeep
answer_deep ts u d h = gives_high (unit_answer 256) (unit_finish 256) 256 unit_start laws (terminals ts) 0 u (answer_of ts) (was_read ts) d h

pub answer_stops : (ts : List Token) (at : ℕ) → answer_of ts ≡ Err (Syntax at) → Stops (terminals ts) at
answer_stops ts at e = was_none (unit_answer 256) (unit_finish 256) 256 unit_start laws (terminals ts) at (answer_of ts) (was_read ts) e

pub answer_syntax : (ts : List Token) (at : ℕ) → Stops (terminals ts) at → answer_of ts ≡ Err (Syntax at)
answer_syntax ts at h = gives_stop (unit_answer 256) (unit_finish 256) 256 unit_start laws (terminals ts) at (answer_of ts) (was_read ts) h

pub answer_memory : (ts : List Token) → answer_of ts ≢ Err NoMemory
answer_memory ts e = not_memory (unit_answer 256) (unit_finish 256) 256 unit_start laws (terminals ts) 0 (answer_of ts) (was_read ts) e

pub one_unit : (ts : List Token) (u v : Unit') → IsUnit u (terminals ts) → IsUnit v (terminals ts) → u ≡ v
one_unit ts u v d e = same_unit bodies u v (terminals ts) d e

-- ---- what a call gives

pub given : (ts : List Token) (r : Answered) → Gives r (answer_of ts) → IfOk r (λ u. IsUnit u (terminals ts) × (unit_height u ≤ 256))
given ts (Ok u) e = answer_sound ts u e
given ts (Err x) e = tt

is_refusal : (ts : List Token) (x : ParseRefusal) → Gives (Err x) (answer_of ts) → IsRefusal (terminals ts) x
is_refusal ts (Syntax at) e = answer_stops ts at e
is_refusal ts TooDeep e = answer_high ts e
is_refusal ts NoMemory e = tt

pub refused : (ts : List Token) (r : Answered) → Gives r (answer_of ts) → IfErr r (λ x. IsRefusal (terminals ts) x)
refused ts (Ok u) e = tt
refused ts (Err x) e = is_refusal ts x e

pub no_unit : (ts : List Token) (r : Answered) → Gives r (answer_of ts) → IsNoUnit (terminals ts) → IsSyntax r
no_unit ts (Ok u) e none = none u (answer_sound ts u e).0
no_unit ts (Err (Syntax at)) e none = tt
no_unit ts (Err TooDeep) e none = let x = answer_high ts e in none x.unit x.reads
no_unit ts (Err NoMemory) e none = tt

pub gives_this : (ts : List Token) (r answer : Answered) → Gives r (answer_of ts) → answer_of ts ≡ answer → Gives r answer
gives_this ts r answer h e = subst (λ (a : Answered). Gives r a) e h
