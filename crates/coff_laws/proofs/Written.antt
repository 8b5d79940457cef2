-- What is written for a valid object is read back as it was.
use Rattle.std.proofs.Common.{◌≡◌, ◌≢◌, ℕ, List, true, Result, Ok, Err, refl, sym, ap, ◌∙◌}
use Rattle.std.specs.Prelude.{MatchResult}
use Rattle.coff_write.specs.declared.object.Object.{Object}
use Rattle.coff_write.specs.Format.{object_bytes}
use Rattle.coff_write.specs.Valid.{is_valid}
use Rattle.file_words.specs.Firsts.{NoneHolds}
use Rattle.file_words.proofs.FirstLaws.{first_accepts}
use Rattle.coff_read.specs.declared.refusal.ObjRefusal.{ObjRefusal}
use Rattle.coff_read.specs.declared.refusal.ObjRefusal.TheVariants.{TooLarge, Short, BigObject, Machine, OptionalHeader, SectionRange, SymbolRange, NameRange, SymbolKind, Comdat, RelocationRange, RelocationKind, RelocationPlace, HybridRecord, NoMemory}
use Rattle.coff_read.specs.Refusals.{holds, refusals}
use Rattle.coff_read.specs.Objects.{object_in, object_of, Tells}
use Rattle.coff_laws_parts.specs.Ranges.{HasRanges}
use Rattle.coff_laws_base.proofs.Validity.{valid_parts}
use Rattle.coff_laws_parts.proofs.FileReads.{IsRead, is_read}
use Rattle.coff_laws.proofs.ObjectReads.{object_in_is}
use Rattle.coff_laws.proofs.RangeRefusals.{not_too_large, not_short, not_big, machine_good, no_optional, sections_good, symbols_good, names_good}
use Rattle.coff_laws.proofs.SymbolKinds.{kinds_good, comdats_good}
use Rattle.coff_laws.proofs.Relocations.{ranges_good, types_known, places_within, hybrids_good}

none_holds : (o : Object) (b : List ℕ) → IsRead o b → NoneHolds (holds b) refusals
none_holds o b h = (not_too_large o b h, (not_short o b h, (not_big o b h, (machine_good o b h, (no_optional o b h, (sections_good o b h, (symbols_good o b h, (names_good o b h, (kinds_good o b h, (comdats_good o b h, (ranges_good o b h, (types_known o b h, (places_within o b h, (hybrids_good o b h, tt))))))))))))))

reads : (o : Object) (b : List ℕ) → IsRead o b → object_of b ≡ Ok o
unfolding object_of
reads o b h = first_accepts (holds b) refusals (object_in b) (none_holds o b h) ∙ ap (λ (x : Object). Ok x) (object_in_is o b h)

pub reads_back : (o : Object) → HasRanges o → is_valid o ≡ true → object_of (object_bytes o) ≡ Ok o
reads_back o g e = reads o (object_bytes o) (is_read o (valid_parts o e) g)

-- ---- what a reader of the file answers

other_answer : (o : Object) (k : ObjRefusal) → Ok o ≡ Err k → ⊥
other_answer o k e = cc

told : (o : Object) (k : ObjRefusal) (is : Result Object ObjRefusal) → is ≡ Ok o → Tells (Err k) is → k ≢ NoMemory → ⊥
told o k is e t ne = other_answer o k (sym e ∙ t ne)

memory_alone : (k : ObjRefusal) → (k ≢ NoMemory → ⊥) → k ≡ NoMemory
memory_alone TooLarge h = absurd (h (λ e. cc))
memory_alone Short h = absurd (h (λ e. cc))
memory_alone BigObject h = absurd (h (λ e. cc))
memory_alone Machine h = absurd (h (λ e. cc))
memory_alone OptionalHeader h = absurd (h (λ e. cc))
memory_alone SectionRange h = absurd (h (λ e. cc))
memory_alone SymbolRange h = absurd (h (λ e. cc))
memory_alone NameRange h = absurd (h (λ e. cc))
memory_alone SymbolKind h = absurd (h (λ e. cc))
memory_alone Comdat h = absurd (h (λ e. cc))
memory_alone RelocationRange h = absurd (h (λ e. cc))
memory_alone RelocationKind h = absurd (h (λ e. cc))
memory_alone RelocationPlace h = absurd (h (λ e. cc))
memory_alone HybridRecord h = absurd (h (λ e. cc))
memory_alone NoMemory h = refl

told_object : (o x : Object) (is : Result Object ObjRefusal) → is ≡ Ok o → is ≡ Ok x → x ≡ o
told_object o x is e t = cc

answers : (o : Object) (r is : Result Object ObjRefusal) → is ≡ Ok o → Tells r is → MatchResult r (λ x. x ≡ o) (λ k. k ≡ NoMemory)
answers o (Ok x) is e t = told_object o x is e t
answers o (Err k) is e t = memory_alone k (told o k is e t)

pub answers_back : (o : Object) (r : Result Object ObjRefusal) → HasRanges o → is_valid o ≡ true → Tells r (object_of (object_bytes o)) → MatchResult r (λ x. x ≡ o) (λ k. k ≡ NoMemory)
answers_back o r g e t = answers o r (object_of (object_bytes o)) (reads_back o g e) t
