-- A count in 64 bits passes the same numbers, and the first that does is told.
use Rattle.std.proofs.Common.{◌≡◌, ℕ, ◌<◌, Bool, true, false, List, [], ◌∷◌, ◌++◌, Option, Some, None, sym, ◌∙◌, refl, arith, lit<}
use Rattle.std.specs.Prelude.{nat_lt, if◌then◌else◌}
use Rattle.std.proofs.lemmas.Bool.Decides.{nat_tests}
use Rattle.std.proofs.lemmas.Option.{none-some}
use Rattle.c_program.specs.Nodes.{small}
use Rattle.c_program.specs.declared.program.Program.{Program}
use Rattle.ec_report.specs.declared.kinds.LimitKind.{LimitKind}
use Rattle.ec_limits.specs.declared.counts.Count.{Count}
use Rattle.ec_limits.specs.declared.counts.Passed.{Passed}
use Rattle.ec_limits.specs.Limits.{of_nodes, of_functions, of_parameters, of_extras, amounts, of_structs, of_frames, of_globals, of_names, rest, told, first_passed, passed}

told-row : (which : LimitKind) (most count : ℕ) (a b : Option Passed) → most < 18446744073709551615 → a ≡ b →
    (if nat_lt most (small count) then Some (record { which = which; count = small (small count) }) else a) ≡ (if nat_lt most count then Some (record { which = which; count = small count }) else b)
told-row which most count a b h e = grind (arith, nat_tests)

told_one : (c : Count) → c.most < 18446744073709551615 → first_passed (told c ∷ []) ≡ first_passed (c ∷ [])
told_one c h = told-row c.which c.most c.count None None h refl

pub told_extras : (p : Program) → first_passed (told (of_extras p) ∷ []) ≡ first_passed (of_extras p ∷ [])
told_extras p = told_one (of_extras p) (lit< tt)

pub told_names : (longest : ℕ) → first_passed (told (of_names longest) ∷ []) ≡ first_passed (of_names longest ∷ [])
told_names longest = told_one (of_names longest) (lit< tt)

-- ---- the first of some counts and of others behind them

found-row : (b : Bool) (x y : Passed) (a c : Option Passed) → (a ≡ Some y → c ≡ Some y) → (if b then Some x else a) ≡ Some y → (if b then Some x else c) ≡ Some y
found-row true x y a c more h = h
found-row false x y a c more h = more h

none-row : (b : Bool) (x : Passed) (a c d : Option Passed) → (a ≡ None → c ≡ d) → (if b then Some x else a) ≡ None → (if b then Some x else c) ≡ d
none-row true x a c d more h = absurd (none-some x (sym h))
none-row false x a c d more h = more h

found-first : (xs ys : List Count) (y : Passed) → first_passed xs ≡ Some y → first_passed (xs ++ ys) ≡ Some y
found-first [] ys y h = absurd (none-some y h)
found-first (c ∷ cs) ys y h = found-row (nat_lt c.most c.count) _ y _ _ (found-first cs ys y) h

none-first : (xs ys : List Count) → first_passed xs ≡ None → first_passed (xs ++ ys) ≡ first_passed ys
none-first [] ys h = refl
none-first (c ∷ cs) ys h = none-row (nat_lt c.most c.count) _ _ _ _ (none-first cs ys) h

found : (c : Count) (cs : List Count) (x : Passed) → c.most < 18446744073709551615 → first_passed (told c ∷ []) ≡ Some x → ◌≡◌ {A = Option Passed} (Some x) (first_passed (c ∷ cs))
found c cs x low h = sym (found-first (c ∷ []) cs x (sym (told_one c low) ∙ h))

none : (c : Count) (cs : List Count) → c.most < 18446744073709551615 → first_passed (told c ∷ []) ≡ None → first_passed cs ≡ first_passed (c ∷ cs)
none c cs low h = sym (none-first (c ∷ []) cs (sym (told_one c low) ∙ h))

pub nodes_found : (p : Program) (x : Passed) → first_passed (told (of_nodes p) ∷ []) ≡ Some x → ◌≡◌ {A = Option Passed} (Some x) (first_passed (of_nodes p ∷ of_functions p ∷ of_parameters p ∷ of_extras p ∷ []))
nodes_found p x h = found (of_nodes p) (of_functions p ∷ of_parameters p ∷ of_extras p ∷ []) x (lit< tt) h

pub nodes_none : (p : Program) → first_passed (told (of_nodes p) ∷ []) ≡ None → first_passed (of_functions p ∷ of_parameters p ∷ of_extras p ∷ []) ≡ first_passed (of_nodes p ∷ of_functions p ∷ of_parameters p ∷ of_extras p ∷ [])
nodes_none p h = none (of_nodes p) (of_functions p ∷ of_parameters p ∷ of_extras p ∷ []) (lit< tt) h

pub functions_found : (p : Program) (x : Passed) → first_passed (told (of_functions p) ∷ []) ≡ Some x → ◌≡◌ {A = Option Passed} (Some x) (first_passed (of_functions p ∷ of_parameters p ∷ of_extras p ∷ []))
functions_found p x h = found (of_functions p) (of_parameters p ∷ of_extras p ∷ []) x (lit< tt) h

pub functions_none : (p : Program) → first_passed (told (of_functions p) ∷ []) ≡ None → first_passed (of_parameters p ∷ of_extras p ∷ []) ≡ first_passed (of_functions p ∷ of_parameters p ∷ of_extras p ∷ [])
functions_none p h = none (of_functions p) (of_parameters p ∷ of_extras p ∷ []) (lit< tt) h

pub parameters_found : (p : Program) (x : Passed) → first_passed (told (of_parameters p) ∷ []) ≡ Some x → ◌≡◌ {A = Option Passed} (Some x) (first_passed (of_parameters p ∷ of_extras p ∷ []))
parameters_found p x h = found (of_parameters p) (of_extras p ∷ []) x (lit< tt) h

pub parameters_none : (p : Program) → first_passed (told (of_parameters p) ∷ []) ≡ None → first_passed (of_extras p ∷ []) ≡ first_passed (of_parameters p ∷ of_extras p ∷ [])
parameters_none p h = none (of_parameters p) (of_extras p ∷ []) (lit< tt) h

pub structs_found : (p : Program) (longest : ℕ) (x : Passed) → first_passed (told (of_structs p) ∷ []) ≡ Some x → ◌≡◌ {A = Option Passed} (Some x) (first_passed (of_structs p ∷ rest p longest))
structs_found p longest x h = found (of_structs p) (rest p longest) x (lit< tt) h

pub structs_none : (p : Program) (longest : ℕ) → first_passed (told (of_structs p) ∷ []) ≡ None → first_passed (rest p longest) ≡ first_passed (of_structs p ∷ rest p longest)
structs_none p longest h = none (of_structs p) (rest p longest) (lit< tt) h

pub frames_found : (p : Program) (longest : ℕ) (x : Passed) → first_passed (told (of_frames p) ∷ []) ≡ Some x → ◌≡◌ {A = Option Passed} (Some x) (first_passed (of_frames p ∷ of_globals p ∷ of_names longest ∷ []))
frames_found p longest x h = found (of_frames p) (of_globals p ∷ of_names longest ∷ []) x (lit< tt) h

pub frames_none : (p : Program) (longest : ℕ) → first_passed (told (of_frames p) ∷ []) ≡ None → first_passed (of_globals p ∷ of_names longest ∷ []) ≡ first_passed (of_frames p ∷ of_globals p ∷ of_names longest ∷ [])
frames_none p longest h = none (of_frames p) (of_globals p ∷ of_names longest ∷ []) (lit< tt) h

pub globals_found : (p : Program) (longest : ℕ) (x : Passed) → first_passed (told (of_globals p) ∷ []) ≡ Some x → ◌≡◌ {A = Option Passed} (Some x) (first_passed (of_globals p ∷ of_names longest ∷ []))
globals_found p longest x h = found (of_globals p) (of_names longest ∷ []) x (lit< tt) h

pub globals_none : (p : Program) (longest : ℕ) → first_passed (told (of_globals p) ∷ []) ≡ None → first_passed (of_names longest ∷ []) ≡ first_passed (of_globals p ∷ of_names longest ∷ [])
globals_none p longest h = none (of_globals p) (of_names longest ∷ []) (lit< tt) h

pub amounts_found : (p : Program) (longest : ℕ) (x : Passed) → first_passed (amounts p) ≡ Some x → ◌≡◌ {A = Option Passed} (Some x) (passed p longest)
unfolding passed
amounts_found p longest x h = sym (found-first (amounts p) (of_structs p ∷ rest p longest) x h)

pub amounts_none : (p : Program) (longest : ℕ) → first_passed (amounts p) ≡ None → first_passed (of_structs p ∷ rest p longest) ≡ passed p longest
unfolding passed
amounts_none p longest h = sym (none-first (amounts p) (of_structs p ∷ rest p longest) h)
