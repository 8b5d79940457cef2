-- The signatures that pass the test are those that functions have.
use Rattle.std.proofs.Common.{◌≡◌, ℕ, ◌-◌, ◌≤◌, Bool, true, false, List, length, get_or, refl, sym, ap, ◌∙◌}
use Rattle.std.specs.Prelude.{◌&&◌, not, nat_le, slice_get, Option, Some, None, IsTrue, if◌then◌else◌}
use Rattle.std.specs.List.{All, list_all}
use Rattle.std.proofs.lemmas.Bool.{leb-true}
use Rattle.std.proofs.lemmas.List.Sums.{AllPass-from_list_all}
use Rattle.sig_core.specs.declared.classes.Class.{Class}
use Rattle.sig_core.specs.declared.classes.Class.TheVariants as class
use Rattle.sig_core.specs.declared.classes.Signature.{Signature}
use Rattle.sig_core.specs.Signatures.{IsResult, IsArgument, is_by_pointer, IsCounted, Allowed}
use Rattle.ir_core.specs.Operands.{is_aggregate, is_argument, is_result, is_word, counts_extras, is_signature}
use Rattle.ir_core.proofs.ValidLaws.{first_of, second_of}

aggregate : (n : ℕ) → IsTrue (is_aggregate n) → (1 ≤ n) × (n ≤ 65536)
aggregate n h = (leb-true 1 n (first_of (nat_le 1 n) (nat_le n 65536) h), leb-true n 65536 (second_of (nat_le 1 n) (nat_le n 65536) h))

argument : (c : Class) → IsTrue (is_argument c) → IsArgument c
argument class.Void h = cc
argument class.Word h = tt
argument (class.Agg n) h = aggregate n h

back : (c : Class) → IsTrue (is_result c) → IsResult c
back class.Void h = tt
back class.Word h = tt
back (class.Agg n) h = aggregate n h

word : (o : Option Class) → IsTrue (is_word o) → o ≡ Some class.Word
word None h = cc
word (Some class.Void) h = cc
word (Some class.Word) h = refl
word (Some (class.Agg n)) h = cc

is_false : (b : Bool) → IsTrue (not b) → b ≡ false
is_false true h = cc
is_false false h = refl

counted : (s : Signature) → IsTrue (counts_extras s) → s.variadic ≡ true → IsCounted s
counted s h v =
    let last = is_word (slice_get s.args (length s.args - 1)) in
    let fits = not (is_by_pointer s.result) in
    let both : IsTrue (last && fits) = sym (ap (λ b. if b then last && fits else true) v) ∙ h in
    record {
      count = word (slice_get s.args (length s.args - 1)) (first_of last fits both);
      result = is_false (is_by_pointer s.result) (second_of last fits both);
    }

pub allowed : (s : Signature) → IsTrue (is_signature s) → Allowed s
allowed s h =
    let few = nat_le (length s.args) 64 in
    let arguments = list_all is_argument s.args in
    let fits = is_result s.result in
    let extras = counts_extras s in
    let second = second_of few (arguments && (fits && extras)) h in
    let third = second_of arguments (fits && extras) second in
    record {
      few = leb-true (length s.args) 64 (first_of few (arguments && (fits && extras)) h);
      arguments = each s.args (first_of arguments (fits && extras) second);
      result = back s.result (first_of fits extras third);
      counted = counted s (second_of fits extras third);
    }
  where
    each : (cs : List Class) → IsTrue (list_all is_argument cs) → All IsArgument cs
    each cs k = λ i d lt. argument (get_or cs i d) (AllPass-from_list_all is_argument cs k i d lt)
