-- Codes are read in one way.
use Rattle.std.proofs.Common.{◌≡◌, ℕ, suc, ◌<◌, ◌≤◌, Bool, true, false, List, [], ◌∷◌, ◌++◌, refl, sym, ap, ◌∙◌, subst, arith, lit<, append_assoc, codes, decimal}
use Rattle.std.specs.Char.{digit_value}
use Rattle.std.specs.List.{All, flat_map}
use Rattle.std.specs.Str.Parse.{AllDigits}
use Rattle.std.proofs.lemmas.Fmt.{decimal_is_IsNumeral, decimal_injective}
use Rattle.sig_core.specs.declared.classes.Class.{Class}
use Rattle.sig_core.specs.declared.classes.Class.TheVariants.{Void, Word, Agg}
use Rattle.sig_core.specs.declared.classes.Signature.{Signature}
use Rattle.sig_core.specs.Codes.{class_code, args_code, variadic_code, signature_code}
use Rattle.sig_core.specs.Signatures.{IsArgument, IsResult, Allowed}

-- ---- digits before something else

-- the list doesn't begin with a digit
abbrev BeginsOtherwise : List ℕ → Type 0
BeginsOtherwise [] = Unit {0}
BeginsOtherwise (c ∷ cs) = 10 ≤ digit_value c

record SameParts {X : Type 0} (a b : X) (xs ys : List ℕ) : Type 0 where
  front : a ≡ b
  rest : xs ≡ ys

digits_end : (ds es xs ys : List ℕ) → AllDigits 10 ds → AllDigits 10 es → BeginsOtherwise xs → BeginsOtherwise ys → ds ++ xs ≡ es ++ ys → SameParts ds es xs ys
digits_end [] [] xs ys hd he hx hy e = record { front = refl; rest = e }
digits_end [] (d ∷ es) [] ys hd he hx hy e = absurd cc
digits_end [] (d ∷ es) (x ∷ xs) ys hd he hx hy e =
    let same : x ≡ d = cc in
    let small : digit_value d < 10 = he.0 in
    let large : 10 ≤ digit_value d = subst (λ c. 10 ≤ digit_value c) same hx in
    absurd (omega arith)
digits_end (d ∷ ds) [] xs [] hd he hx hy e = absurd cc
digits_end (d ∷ ds) [] xs (y ∷ ys) hd he hx hy e =
    let same : y ≡ d = cc in
    let small : digit_value d < 10 = hd.0 in
    let large : 10 ≤ digit_value d = subst (λ c. 10 ≤ digit_value c) same hy in
    absurd (omega arith)
digits_end (d ∷ ds) (f ∷ es) xs ys hd he hx hy e =
    let head : d ≡ f = cc in
    let tail : ds ++ xs ≡ es ++ ys = cc in
    let r = digits_end ds es xs ys hd.1 he.1 hx hy tail in
    let fronts = r.front in
    record { front = cc; rest = r.rest }

decimal_end : (m n : ℕ) (xs ys : List ℕ) → m ≤ 65536 → n ≤ 65536 → BeginsOtherwise xs → BeginsOtherwise ys → decimal m ++ xs ≡ decimal n ++ ys → SameParts m n xs ys
decimal_end m n xs ys hm hn hx hy e =
    let r = digits_end (decimal m) (decimal n) xs ys ((decimal_is_IsNumeral m (omega arith)).0.1) ((decimal_is_IsNumeral n (omega arith)).0.1) hx hy e in
    record { front = decimal_injective m n (omega arith) (omega arith) r.front; rest = r.rest }

-- ---- first bytes

first_same : {a b : ℕ} {xs ys : List ℕ} → a ∷ xs ≡ b ∷ ys → a ≡ b
first_same {a} {b} {xs} {ys} e = cc

rest_same : {a b : ℕ} {xs ys : List ℕ} → a ∷ xs ≡ b ∷ ys → xs ≡ ys
rest_same {a} {b} {xs} {ys} e = cc

first_below : {a b : ℕ} {xs ys : List ℕ} → a < b → a ∷ xs ≡ b ∷ ys → ⊥
first_below {a} {b} {xs} {ys} l e = let same : a ≡ b = first_same e in omega arith

first_above : {a b : ℕ} {xs ys : List ℕ} → b < a → a ∷ xs ≡ b ∷ ys → ⊥
first_above {a} {b} {xs} {ys} l e = let same : a ≡ b = first_same e in omega arith

nothing : {a : ℕ} {xs : List ℕ} → [] ≡ a ∷ xs → ⊥
nothing {a} {xs} e = absurd cc

-- ---- one class

class_end : (c d : Class) (xs ys : List ℕ) → IsResult c → IsResult d → BeginsOtherwise xs → BeginsOtherwise ys → class_code c ++ xs ≡ class_code d ++ ys → SameParts c d xs ys
class_end Void Void xs ys hc hd hx hy e = record { front = refl; rest = rest_same e }
class_end Void Word xs ys hc hd hx hy e = absurd (first_above (lit< tt) e)
class_end Void (Agg n) xs ys hc hd hx hy e = absurd (first_above (lit< tt) e)
class_end Word Void xs ys hc hd hx hy e = absurd (first_below (lit< tt) e)
class_end Word Word xs ys hc hd hx hy e = record { front = refl; rest = rest_same (rest_same e) }
class_end Word (Agg n) xs ys hc hd hx hy e = absurd (first_below (lit< tt) e)
class_end (Agg m) Void xs ys hc hd hx hy e = absurd (first_below (lit< tt) e)
class_end (Agg m) Word xs ys hc hd hx hy e = absurd (first_above (lit< tt) e)
class_end (Agg m) (Agg n) xs ys hc hd hx hy e =
    let tail : decimal m ++ xs ≡ decimal n ++ ys = rest_same e in
    let r = decimal_end m n xs ys hc.1 hd.1 hx hy tail in
    record { front = ap Agg r.front; rest = r.rest }

-- ---- the arguments

argument_is_result : (c : Class) → IsArgument c → IsResult c
argument_is_result Void h = absurd h
argument_is_result Word h = h
argument_is_result (Agg n) h = h

-- all of them, by recursion
abbrev Each : List Class → Type 0
Each [] = Unit {0}
Each (c ∷ cs) = IsArgument c × Each cs

each_of : (cs : List Class) → All IsArgument cs → Each cs
each_of [] h = tt
each_of (c ∷ cs) h = (h 0 Void (omega arith), each_of cs (λ k d l. h (suc k) d (omega arith)))

variadic_begins : (v : Bool) → BeginsOtherwise (variadic_code v)
variadic_begins true = omega arith
variadic_begins false = tt

rest_begins : (cs : List Class) (v : Bool) → Each cs → BeginsOtherwise (flat_map class_code cs ++ variadic_code v)
rest_begins [] v h = variadic_begins v
rest_begins (Void ∷ cs) v h = absurd h.0
rest_begins (Word ∷ cs) v h = omega arith
rest_begins (Agg n ∷ cs) v h = omega arith

variadic_same : (v w : Bool) → variadic_code v ≡ variadic_code w → v ≡ w
variadic_same true true e = refl
variadic_same true false e = absurd (nothing (sym e))
variadic_same false true e = absurd (nothing e)
variadic_same false false e = refl

-- no argument's code begins as what follows the arguments, nor as that of no argument
no_more : (c : Class) (v : Bool) (xs : List ℕ) → IsArgument c → variadic_code v ≡ class_code c ++ xs → ⊥
no_more Void v xs h e = h
no_more Word true xs h e = first_below (lit< tt) e
no_more Word false xs h e = nothing e
no_more (Agg n) true xs h e = first_below (lit< tt) e
no_more (Agg n) false xs h e = nothing e

not_none : (c : Class) (v : Bool) (xs : List ℕ) → IsArgument c → codes "v" ++ variadic_code v ≡ class_code c ++ xs → ⊥
not_none Void v xs h e = h
not_none Word v xs h e = first_above (lit< tt) e
not_none (Agg n) v xs h e = first_above (lit< tt) e

record SameArgs (cs ds : List Class) (v w : Bool) : Type 0 where
  args : cs ≡ ds
  variadic : v ≡ w

args_end : (cs ds : List Class) (v w : Bool) → Each cs → Each ds → flat_map class_code cs ++ variadic_code v ≡ flat_map class_code ds ++ variadic_code w → SameArgs cs ds v w
args_end [] [] v w hc hd e = record { args = refl; variadic = variadic_same v w e }
args_end [] (d ∷ ds) v w hc hd e =
    absurd (no_more d v (flat_map class_code ds ++ variadic_code w) hd.0 (e ∙ append_assoc (class_code d) (flat_map class_code ds) (variadic_code w)))
args_end (c ∷ cs) [] v w hc hd e =
    absurd (no_more c w (flat_map class_code cs ++ variadic_code v) hc.0 (sym e ∙ append_assoc (class_code c) (flat_map class_code cs) (variadic_code v)))
args_end (c ∷ cs) (d ∷ ds) v w hc hd e =
    let apart : class_code c ++ (flat_map class_code cs ++ variadic_code v) ≡ class_code d ++ (flat_map class_code ds ++ variadic_code w) =
    sym (append_assoc (class_code c) (flat_map class_code cs) (variadic_code v)) ∙ (e ∙ append_assoc (class_code d) (flat_map class_code ds) (variadic_code w)) in
    let one = class_end c d (flat_map class_code cs ++ variadic_code v) (flat_map class_code ds ++ variadic_code w)
    (argument_is_result c hc.0) (argument_is_result d hd.0) (rest_begins cs v hc.1) (rest_begins ds w hd.1) apart in
    let more = args_end cs ds v w hc.1 hd.1 one.rest in
    let head = one.front in
    let tail = more.args in
    record { args = cc; variadic = more.variadic }

args_same : (cs ds : List Class) (v w : Bool) → Each cs → Each ds → args_code cs ++ variadic_code v ≡ args_code ds ++ variadic_code w → SameArgs cs ds v w
args_same [] [] v w hc hd e = record { args = refl; variadic = variadic_same v w (rest_same e) }
args_same [] (d ∷ ds) v w hc hd e =
    absurd (not_none d v (flat_map class_code ds ++ variadic_code w) hd.0 (e ∙ append_assoc (class_code d) (flat_map class_code ds) (variadic_code w)))
args_same (c ∷ cs) [] v w hc hd e =
    absurd (not_none c w (flat_map class_code cs ++ variadic_code v) hc.0 (sym e ∙ append_assoc (class_code c) (flat_map class_code cs) (variadic_code v)))
args_same (c ∷ cs) (d ∷ ds) v w hc hd e = args_end (c ∷ cs) (d ∷ ds) v w hc hd e

-- ---- whole signatures

abbrev made : Class → List Class → Bool → Signature
made back args v = record { result = back; args = args; variadic = v }

pub same_signature : (s t : Signature) → Allowed s → Allowed t → signature_code s ≡ signature_code t → s ≡ t
same_signature s t hs ht e =
    let first = class_end s.result t.result (codes "$" ++ (args_code s.args ++ variadic_code s.variadic)) (codes "$" ++ (args_code t.args ++ variadic_code t.variadic))
    hs.result ht.result (omega arith) (omega arith) e in
    let behind = first.rest in
    let tail : args_code s.args ++ variadic_code s.variadic ≡ args_code t.args ++ variadic_code t.variadic = rest_same behind in
    let more = args_same s.args t.args s.variadic t.variadic (each_of s.args hs.arguments) (each_of t.args ht.arguments) tail in
    ap (λ c. made c s.args s.variadic) first.front ∙ (ap (λ cs. made t.result cs s.variadic) more.args ∙ ap (λ v. made t.result t.args v) more.variadic)
