-- An instruction of the table and its word determine each other.
use Rattle.std.proofs.Common.{◌≡◌, ◌↔◌, ℕ, ◌^◌, ◌<◌, Bool, true, false, cond, Option, Some, None, subst, sym, ap, ◌∙◌, refl}
use Rattle.std.specs.Prelude.{option_and_then}
use Rattle.a64_isa.specs.declared.instruction.AInstr.{AInstr}
use Rattle.a64_isa.specs.Forms.{encode_of, is_allowed, Valid}
use Rattle.a64_isa.specs.Reading.{candidate_of, decode_of}
use Rattle.a64_isa.proofs.FoundLaws.{candidate_of-found}
use Rattle.a64_isa.proofs.AgainLaws.{candidate_of-again}

abbrev kept : Option AInstr → Option AInstr
kept o = option_and_then (λ i. cond (is_allowed i) (Some i) None) o

passed : (b : Bool) (j i : AInstr) → cond b (Some j) None ≡ Some i → (b ≡ true) × (j ≡ i)
passed true j i e = (refl, cc)
passed false j i e = absurd cc

kept-Some : (o : Option AInstr) (i : AInstr) → kept o ≡ Some i → (o ≡ Some i) × (is_allowed i ≡ true)
kept-Some None i e = absurd cc
kept-Some (Some j) i e =
    let h = passed (is_allowed j) j i e in
    (ap (λ (k : AInstr). Some k) h.1, subst (λ (k : AInstr). is_allowed k ≡ true) h.1 h.0)

kept-allowed : (i : AInstr) (b : Bool) → b ≡ true → cond b (Some i) None ≡ Some i
kept-allowed i true e = refl
kept-allowed i false e = absurd cc

-- what is decoded is of the table, and encodes to the word
pub decode_of-found : (w : ℕ) → w < 2 ^ 32 → (i : AInstr) → decode_of w ≡ Some i → Valid i × (encode_of i ≡ w)
unfolding decode_of
decode_of-found w lt i e =
    let h = kept-Some (candidate_of w) i e in
    let g = (candidate_of-found w lt).found i h.0 in
    (record { in_range = g.0; allowed = h.1 }, g.1)

-- what is encoded is decoded
pub decode_of-encode_of : (i : AInstr) → Valid i → decode_of (encode_of i) ≡ Some i
unfolding decode_of
decode_of-encode_of i v =
    ap kept (candidate_of-again i v.in_range) ∙ kept-allowed i (is_allowed i) v.allowed

pub encode_of-decode_of : (w : ℕ) → w < 2 ^ 32 → (i : AInstr) → decode_of w ≡ Some i → encode_of i ≡ w
encode_of-decode_of w lt i e = (decode_of-found w lt i e).1

pub decode_of-exact : (w : ℕ) → w < 2 ^ 32 → (i : AInstr) → (decode_of w ≡ Some i) ↔ (Valid i × (encode_of i ≡ w))
decode_of-exact w lt i = (decode_of-found w lt i, λ h. ap decode_of (sym h.1) ∙ decode_of-encode_of i h.0)

some_same : (i j : AInstr) → Some i ≡ Some j → i ≡ j
some_same i j e = cc

pub encode_of-injective : (i j : AInstr) → Valid i → Valid j → encode_of i ≡ encode_of j → i ≡ j
encode_of-injective i j v w e = some_same i j (sym (decode_of-encode_of i v) ∙ ap decode_of e ∙ decode_of-encode_of j w)
