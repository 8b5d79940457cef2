-- The units of work that a command gives `interp` are within the most.
use Rattle.std.proofs.Common.{◌≡◌, ℕ, ◌≤◌, Bool, true, false, nat_le, ◌&&◌, if◌then◌else◌, List, [], ◌∷◌, Option, Some, None, option_map, option_and_then, refl, sym, subst, arith}
use Rattle.std.proofs.lemmas.Bool.Decides.{nat_tests}
use Rattle.ec_words.specs.declared.table.Verb.{Verb}
use Rattle.ec_words.specs.declared.table.Verb.TheVariants as verb
use Rattle.ec_words.specs.Table.{Text, verb_of}
use Rattle.ec_words.specs.Rule.{is_line}
use Rattle.ec_words.specs.Numbers.{number_of, within, setting}
use Rattle.ec_words.specs.Markings.{marking_of}
use Rattle.ec_words.specs.Commands.{Form, interp, compile, link, build, run, exec, gen, many, Parts, parts_of, first_of, output_of, stack_of, base_of, fuel_of, size_of, command_in, command_after, command_of}
use Rattle.ec_driver.specs.Plans.{IsWithinFuel}

-- a number that a test lets through passed it
if_passes : (b : Bool) (m n : ℕ) → (if b then Some m else None) ≡ Some n → (b ≡ true) × (m ≡ n)
if_passes true m n e = (refl, (cc))
if_passes false m n e = absurd (cc)

below : (low high m : ℕ) → (nat_le low m && nat_le m high) ≡ true → m ≤ high
below low high m t = grind (arith, nat_tests)

within_high : (low high n : ℕ) (o : Option ℕ) → within low high o ≡ Some n → n ≤ high
within_high low high n None e = absurd (cc)
within_high low high n (Some m) e =
    let passed : ((nat_le low m && nat_le m high) ≡ true) × (m ≡ n) = if_passes (nat_le low m && nat_le m high) m n e in
    subst (λ k. k ≤ high) passed.1 (below low high m passed.0)

setting_high : (default low high n : ℕ) (text : Option (List ℕ)) → default ≤ high → setting default low high text ≡ Some n → n ≤ high
setting_high default low high n None h e = let same : default ≡ n = cc in subst (λ k. k ≤ high) same h
setting_high default low high n (Some text) h e = within_high low high n (number_of text) e

also_within : {A : Type 0} (o : Option A) (f : A → Option Form) → ((x : A) → IsWithinFuel (f x)) → IsWithinFuel (option_and_then f o)
also_within None f h = tt
also_within (Some x) f h = h x

map_within : {A : Type 0} (o : Option A) (f : A → Form) → ((x : A) → IsWithinFuel (Some (f x))) → IsWithinFuel (option_map f o)
map_within None f h = tt
map_within (Some x) f h = h x

interp_within : (units : List Text) (o : Option ℕ) → ((n : ℕ) → o ≡ Some n → n ≤ 1000000000000) → IsWithinFuel (option_map (interp units) o)
interp_within units None h = tt
interp_within units (Some n) h = h n refl

in_within : (v : Verb) (p : Parts) → IsWithinFuel (command_in v p)
in_within verb.Check p = tt
in_within verb.Interp p = interp_within p.operands (fuel_of p) (λ n e. setting_high 100000000 0 1000000000000 n p.fuel (omega arith) e)
in_within verb.Compile p = map_within (marking_of p.marking) (compile p.operands (output_of p)) (λ x. tt)
in_within verb.Link p = map_within (stack_of p) (link p.operands (output_of p)) (λ x. tt)
in_within verb.Build p = also_within (marking_of p.marking) (λ m. option_map (build p.operands (output_of p) m) (stack_of p)) (λ m. map_within (stack_of p) (build p.operands (output_of p) m) (λ x. tt))
in_within verb.Run p = also_within (base_of p) (λ base. option_map (run (first_of p) base) (fuel_of p)) (λ base. map_within (fuel_of p) (run (first_of p) base) (λ x. tt))
in_within verb.Exec p =
    also_within (marking_of p.marking) (λ m. option_and_then (λ stack. option_and_then (λ base. option_map (exec p.operands (output_of p) m stack base) (fuel_of p)) (base_of p)) (stack_of p))
    (λ m. also_within (stack_of p) (λ stack. option_and_then (λ base. option_map (exec p.operands (output_of p) m stack base) (fuel_of p)) (base_of p))
    (λ stack. also_within (base_of p) (λ base. option_map (exec p.operands (output_of p) m stack base) (fuel_of p))
    (λ base. map_within (fuel_of p) (exec p.operands (output_of p) m stack base) (λ x. tt))))
in_within verb.Gen p = also_within (number_of (first_of p)) (λ n. option_map (gen n) (size_of p)) (λ n. map_within (size_of p) (gen n) (λ x. tt))
in_within verb.Many p = map_within (number_of (first_of p)) (λ n. many n (output_of p)) (λ x. tt)

if_within : (b : Bool) (c : Option Form) → IsWithinFuel c → IsWithinFuel (if b then c else None)
if_within true c h = h
if_within false c h = tt

-- each command that words are
pub is_within : (words : List Text) → IsWithinFuel (command_of words)
is_within [] = tt
is_within (word ∷ words) = also_within (verb_of word) (λ v. command_after v words) (λ v. if_within (is_line v words) (command_in v (parts_of words)) (in_within v (parts_of words)))

-- so of the command that they were read as
pub read_within : (words : List Text) (f : Form) → Some f ≡ command_of words → IsWithinFuel (Some f)
read_within words f e = subst IsWithinFuel (sym e) (is_within words)
