-- Of tags that each stand once, one is completed at most.
use Rattle.std.proofs.Common.{◌≡◌, ℕ, suc, ◌+◌, true, false, cond, not, List, [], ◌∷◌, Some, None, position, bytes_eq, if◌then◌else◌, refl, sym, ap, subst, ◌∙◌, ⊎_elim, arith}
use Rattle.std.specs.List.{position_or_len}
use Rattle.std.specs.Cmp.Lexicographic.{bytes_decides}
use Rattle.std.proofs.lemmas.Bool.{cases_Bool}
use Rattle.named_rows.specs.Places.{NoneNamed, AreDistinct}
use Rattle.named_rows.proofs.PlaceLaws.{position_at, none_named_by}
use Rattle.c_typing.specs.declared.scopes.UnitTag.{UnitTag}
use Rattle.c_typing.specs.Structs.{completed}
use Rattle.check_decls.specs.Steps.{tag_name, completed_tag, completed_at}
use Rattle.check_decls.proofs.FieldLaws.{shift, first-completed}

same_tag : (name : List ℕ) (t : UnitTag) → bytes_eq t.name name ≡ false → completed_tag name t ≡ t
same_tag name t f = ap (λ b. if b then record t { complete = true } else t) f

untouched : (name : List ℕ) (ts : List UnitTag) → NoneNamed tag_name name ts → completed ts name ≡ ts
untouched name [] h = refl
untouched name (t ∷ ts) h = λ j. same_tag name t h.0 j ∷ untouched name ts h.1 j

one_more : (n : ℕ) → 1 + n ≡ suc n
one_more n = omega arith

first_only : (name : List ℕ) (ts : List UnitTag) → AreDistinct tag_name ts → completed_at name (position_or_len (λ t. bytes_eq t.name name) ts) ts ≡ completed ts name
first_only name [] h = refl
first_only name (t ∷ ts) h = ⊎_elim
    (λ y.
    let rest : NoneNamed tag_name name ts = subst (λ (n : List ℕ). NoneNamed tag_name n ts) ((bytes_decides t.name name).0 y) h.0 in
    ap (λ b. completed_at name (cond (not b) (1 + position_or_len (λ t. bytes_eq t.name name) ts) 0) (t ∷ ts)) y
    ∙ first-completed name t ts ∙ ap (λ (us : List UnitTag). completed_tag name t ∷ us) (sym (untouched name ts rest)))
    (λ f.
    ap (λ b. completed_at name (cond (not b) (1 + position_or_len (λ t. bytes_eq t.name name) ts) 0) (t ∷ ts)) f
    ∙ ap (λ (i : ℕ). completed_at name i (t ∷ ts)) (one_more (position_or_len (λ t. bytes_eq t.name name) ts))
    ∙ shift name (position_or_len (λ t. bytes_eq t.name name) ts) t ts ∙ (λ j. sym (same_tag name t f) j ∷ first_only name ts h.1 j))
    (cases_Bool (bytes_eq t.name name))

pub one_tag : (tags : List UnitTag) (name : List ℕ) (at : ℕ) → AreDistinct tag_name tags → Some at ≡ position (λ t. bytes_eq t.name name) tags → completed_at name at tags ≡ completed tags name
one_tag tags name at h is = ap (λ (i : ℕ). completed_at name i tags) (sym (position_at (λ t. bytes_eq t.name name) tags at (sym is))) ∙ first_only name tags h

pub no_tag : (tags : List UnitTag) (name : List ℕ) → None ≡ position (λ t. bytes_eq t.name name) tags → tags ≡ completed tags name
no_tag tags name is = sym (untouched name tags (none_named_by tag_name name tags (sym is)))
