-- Names, and where the last zero is.
use Rattle.std.proofs.Common.{◌≡◌, ℕ, ◌-◌, ◌<◌, ◌≤◌, true, not, ltb, leb, List, length, drop, refl, sym, ap, ◌∙◌, arith, inl, inr, length-drop}
use Rattle.std.proofs.lemmas.Bool.{cases_lt, lt-ltb, le-ltb, le-leb, lt-leb}
use Rattle.std.proofs.lemmas.List.{take_all}
use Rattle.file_words.specs.Fields.{part_of}
use Rattle.file_words.specs.Below.{past_last}
use Rattle.file_words.proofs.BelowLaws.{from_last}
use Rattle.chpe_meta.specs.Fields.{name_rva, is_zero, open_name}

pub part_rest : (xs : List ℕ) (o n : ℕ) → n ≡ length xs → part_of xs o n ≡ drop o xs
unfolding part_of
part_rest xs o n e = take_all n (drop o xs) (omega (arith, length-drop o xs))

pub name_before : (b : List ℕ) (at i : ℕ) → name_rva b at i < at → true ≡ open_name b at i
unfolding open_name
name_before b at i lt = rw (lt-ltb (name_rva b at i) at lt) refl

out_case : (o end : ℕ) → leb end o ≡ not (ltb o end)
out_case o end = elim (cases_lt o end) [ inl lt ↦ lt-leb end o lt ∙ sym (ap not (lt-ltb o end lt)) | inr le ↦ le-leb end o le ∙ sym (ap not (le-ltb o end le)) ]

pub name_open : (b : List ℕ) (at end i : ℕ) → end ≡ past_last (is_zero b) (length b) → at ≤ name_rva b at i → leb end (name_rva b at i - at) ≡ open_name b at i
unfolding open_name
name_open b at end i e le = rw (le-ltb (name_rva b at i) at le, from_last (is_zero b) (name_rva b at i - at) (length b), sym e) (out_case (name_rva b at i - at) end)
