-- Whether a name has a body is told by the first row of the name, where that has one or isn't there.
use Rattle.std.proofs.Common.{◌≡◌, ℕ, Bool, true, false, cond, ◌&&◌, ◌||◌, List, [], ◌∷◌, Option, Some, None, is_some, bytes_eq, refl, sym, ap, ◌∙◌, ⊎_elim}
use Rattle.std.specs.Prelude.{find}
use Rattle.std.specs.List.{list_any}
use Rattle.std.proofs.lemmas.Bool.{cases_Bool}
use Rattle.c_program.specs.declared.program.FunDef.{FunDef}
use Rattle.c_program.specs.declared.program.GlobalDef.{GlobalDef}
use Rattle.c_typing.specs.Units.{defines_function, defines_global}

module _ {A : Type 0} (name : A → List ℕ) (whole : A → Bool) where
  none_whole : (key : List ℕ) (xs : List A) → None ≡ find (λ x. bytes_eq (name x) key) xs → list_any (λ x. bytes_eq (name x) key && whole x) xs ≡ false
  none_whole key [] h = refl
  none_whole key (x ∷ xs) h = ⊎_elim
      (λ t. let e : ◌≡◌ {A = Option A} None (Some x) = h ∙ ap (λ b. cond b (Some x) (find (λ x. bytes_eq (name x) key) xs)) t in cc)
      (λ f.
      let rest : None ≡ find (λ x. bytes_eq (name x) key) xs = h ∙ ap (λ b. cond b (Some x) (find (λ x. bytes_eq (name x) key) xs)) f in
      ap (λ b. b && whole x || list_any (λ x. bytes_eq (name x) key && whole x) xs) f ∙ none_whole key xs rest)
      (cases_Bool (bytes_eq (name x) key))

  some_whole : (key : List ℕ) (xs : List A) (y : A) → Some y ≡ find (λ x. bytes_eq (name x) key) xs → whole y ≡ true → list_any (λ x. bytes_eq (name x) key && whole x) xs ≡ true
  some_whole key [] y h w = let e : ◌≡◌ {A = Option A} (Some y) None = h in cc
  some_whole key (x ∷ xs) y h w = ⊎_elim
      (λ t.
      let e : ◌≡◌ {A = Option A} (Some y) (Some x) = h ∙ ap (λ b. cond b (Some x) (find (λ x. bytes_eq (name x) key) xs)) t in
      let same : y ≡ x = cc in
      ap (λ b. b && whole x || list_any (λ x. bytes_eq (name x) key && whole x) xs) t ∙ ap (λ b. b || list_any (λ x. bytes_eq (name x) key && whole x) xs) (ap whole (sym same) ∙ w))
      (λ f.
      let rest : Some y ≡ find (λ x. bytes_eq (name x) key) xs = h ∙ ap (λ b. cond b (Some x) (find (λ x. bytes_eq (name x) key) xs)) f in
      ap (λ b. b && whole x || list_any (λ x. bytes_eq (name x) key && whole x) xs) f ∙ some_whole key xs y rest w)
      (cases_Bool (bytes_eq (name x) key))

pub function_unnamed : (fs : List FunDef) (key : List ℕ) → None ≡ find (λ f. bytes_eq f.name key) fs → false ≡ list_any (defines_function key) fs
function_unnamed fs key h = sym (none_whole (λ (f : FunDef). f.name) (λ f. is_some f.body) key fs h)

pub function_bodied : (fs : List FunDef) (key : List ℕ) (f : FunDef) → Some f ≡ find (λ f. bytes_eq f.name key) fs → is_some f.body ≡ true → true ≡ list_any (defines_function key) fs
function_bodied fs key f h w = sym (some_whole (λ (f : FunDef). f.name) (λ f. is_some f.body) key fs f h w)

pub global_unnamed : (gs : List GlobalDef) (key : List ℕ) → None ≡ find (λ g. bytes_eq g.name key) gs → false ≡ list_any (defines_global key) gs
global_unnamed gs key h = sym (none_whole (λ (g : GlobalDef). g.name) (λ g. is_some g.body) key gs h)

pub global_bodied : (gs : List GlobalDef) (key : List ℕ) (g : GlobalDef) → Some g ≡ find (λ g. bytes_eq g.name key) gs → is_some g.body ≡ true → true ≡ list_any (defines_global key) gs
global_bodied gs key g h w = sym (some_whole (λ (g : GlobalDef). g.name) (λ g. is_some g.body) key gs g h w)
