-- A table of types with one more row, or one row changed.
use Rattle.std.proofs.Common.{◌≡◌, ℕ, Bool, true, List, [], ◌∷◌, ◌++◌, length, slice_get, slice_set, Option, Some, None, IsSome, sym, ap, subst, ◌∙◌}
use Rattle.std.specs.Prelude.{nat_eq}
use Rattle.std.specs.Global.{Vec}
use Rattle.std.specs.HashMap.{HashMap, Updates}
use Rattle.std.specs.Map.{lookup}
use Rattle.std.specs.Cmp.Lexicographic.{pointwise, bytes_decides}
use Rattle.c_types.specs.declared.types.Ty.{Ty}
use Rattle.c_types.specs.declared.types.FunTy.{FunTy}
use Rattle.c_types.specs.declared.types.StructDef.{StructDef}
use Rattle.c_types.specs.declared.types.Types.{Types}
use Rattle.named_rows.specs.Places.{look_up, KeyFor, Places}
use Rattle.named_rows.proofs.PlaceLaws.{places_kept, places_new, places_again, places_set}
use Rattle.type_table.specs.TypeKeys.{ty_key, fun_key, keeps_tag, IsIndexed}

abbrev pub tag_of : StructDef → List ℕ
tag_of s = s.tag

same_tag : (structs : List StructDef) (place : ℕ) (x y : StructDef) → slice_get structs place ≡ Some y → keeps_tag (slice_get structs place) x.tag ≡ true → y.tag ≡ x.tag
same_tag structs place x y is k = (bytes_decides y.tag x.tag).0 (ap (λ (o : Option StructDef). keeps_tag o x.tag) (sym is) ∙ k)

module _ {A S : Type 0} (name : A → List ℕ) where
  -- a row whose numbers the index lacks, with these at its place
  pushed : (l m n : HashMap (Vec ℕ) ℕ S) (key : Vec ℕ) (rows : List A) (row : A) (numbers : List ℕ) (room : ℕ) → Places name l rows → m.entries ≡ l.entries → numbers ≡ name row
      → KeyFor (look_up nat_eq l numbers) numbers room (Some key) → Updates (λ x y. pointwise nat_eq x.items y.items) m n key (Some (length rows)) → Places name n (rows ++ row ∷ [])
  pushed l m n key rows row numbers room h e is k u =
      places_new name m n key rows row (places_kept name l m rows e h)
      (ap (λ (es : List (Vec ℕ × ℕ)). lookup (λ v. pointwise nat_eq (name row) v.items) es) e ∙ ap (look_up nat_eq l) (sym is) ∙ k.0) (k.1 ∙ is) u

  -- and one whose numbers it has
  repeated : (l m : HashMap (Vec ℕ) ℕ S) (rows : List A) (row : A) (numbers : List ℕ) (room : ℕ) → Places name l rows → m.entries ≡ l.entries → numbers ≡ name row
      → KeyFor (look_up nat_eq l numbers) numbers room None → Places name m (rows ++ row ∷ [])
  repeated l m rows row numbers room h e is k = places_kept name l m (rows ++ row ∷ []) e (places_again name l rows row h (subst (λ (n : List ℕ). IsSome (look_up nat_eq l n)) is k))

module _ {S : Type 0} (t : Types) where
  pub tys_pushed : (l f s m n : HashMap (Vec ℕ) ℕ S) (d : Bool) (key : Vec ℕ) (ty : Ty) (numbers : List ℕ) (room : ℕ) → IsIndexed t l f s d → m.entries ≡ l.entries → numbers ≡ ty_key ty
      → KeyFor (look_up nat_eq l numbers) numbers room (Some key) → Updates (λ x y. pointwise nat_eq x.items y.items) m n key (Some (length t.tys)) → IsIndexed (record t { tys = t.tys ++ ty ∷ [] }) n f s d
  tys_pushed l f s m n d key ty numbers room is e same k u = record { ty_firsts = pushed ty_key l m n key t.tys ty numbers room is.ty_firsts e same k u; fun_firsts = is.fun_firsts; tag_firsts = is.tag_firsts }

  pub tys_repeated : (l f s m : HashMap (Vec ℕ) ℕ S) (d : Bool) (ty : Ty) (numbers : List ℕ) (room : ℕ) → IsIndexed t l f s d → m.entries ≡ l.entries → numbers ≡ ty_key ty
      → KeyFor (look_up nat_eq l numbers) numbers room None → IsIndexed (record t { tys = t.tys ++ ty ∷ [] }) m f s d
  tys_repeated l f s m d ty numbers room is e same k = record { ty_firsts = repeated ty_key l m t.tys ty numbers room is.ty_firsts e same k; fun_firsts = is.fun_firsts; tag_firsts = is.tag_firsts }

  pub funs_pushed : (l f s g h : HashMap (Vec ℕ) ℕ S) (d : Bool) (key : Vec ℕ) (x : FunTy) (numbers : List ℕ) (room : ℕ) → IsIndexed t l f s d → g.entries ≡ f.entries → numbers ≡ fun_key x
      → KeyFor (look_up nat_eq f numbers) numbers room (Some key) → Updates (λ x y. pointwise nat_eq x.items y.items) g h key (Some (length t.funs)) → IsIndexed (record t { funs = t.funs ++ x ∷ [] }) l h s d
  funs_pushed l f s g h d key x numbers room is e same k u = record { ty_firsts = is.ty_firsts; fun_firsts = pushed fun_key f g h key t.funs x numbers room is.fun_firsts e same k u; tag_firsts = is.tag_firsts }

  pub funs_repeated : (l f s g : HashMap (Vec ℕ) ℕ S) (d : Bool) (x : FunTy) (numbers : List ℕ) (room : ℕ) → IsIndexed t l f s d → g.entries ≡ f.entries → numbers ≡ fun_key x
      → KeyFor (look_up nat_eq f numbers) numbers room None → IsIndexed (record t { funs = t.funs ++ x ∷ [] }) l g s d
  funs_repeated l f s g d x numbers room is e same k = record { ty_firsts = is.ty_firsts; fun_firsts = repeated fun_key f g t.funs x numbers room is.fun_firsts e same k; tag_firsts = is.tag_firsts }

  pub structs_kept : (l f s r : HashMap (Vec ℕ) ℕ S) (d : Bool) → r.entries ≡ s.entries → IsIndexed t l f s d → IsIndexed t l f r d
  structs_kept l f s r d e is = record { ty_firsts = is.ty_firsts; fun_firsts = is.fun_firsts; tag_firsts = λ known. places_kept tag_of s r t.structs e (is.tag_firsts known) }

  pub structs_pushed : (l f s r q : HashMap (Vec ℕ) ℕ S) (d : Bool) (key : Vec ℕ) (x : StructDef) (numbers : List ℕ) (room : ℕ) → IsIndexed t l f s d → r.entries ≡ s.entries → numbers ≡ x.tag
      → KeyFor (look_up nat_eq s numbers) numbers room (Some key) → Updates (λ x y. pointwise nat_eq x.items y.items) r q key (Some (length t.structs)) → IsIndexed (record t { structs = t.structs ++ x ∷ [] }) l f q d
  structs_pushed l f s r q d key x numbers room is e same k u = record { ty_firsts = is.ty_firsts; fun_firsts = is.fun_firsts; tag_firsts = λ known. pushed tag_of s r q key t.structs x numbers room (is.tag_firsts known) e same k u }

  pub structs_repeated : (l f s r : HashMap (Vec ℕ) ℕ S) (d : Bool) (x : StructDef) (numbers : List ℕ) (room : ℕ) → IsIndexed t l f s d → r.entries ≡ s.entries → numbers ≡ x.tag
      → KeyFor (look_up nat_eq s numbers) numbers room None → IsIndexed (record t { structs = t.structs ++ x ∷ [] }) l f r d
  structs_repeated l f s r d x numbers room is e same k = record { ty_firsts = is.ty_firsts; fun_firsts = is.fun_firsts; tag_firsts = λ known. repeated tag_of s r t.structs x numbers room (is.tag_firsts known) e same k }

  -- a struct in the place of another, whose tags are known on where it has the same one
  pub struct_set : (l f s : HashMap (Vec ℕ) ℕ S) (known d : Bool) (place : ℕ) (x : StructDef) → (d ≡ true → (known ≡ true) × (keeps_tag (slice_get t.structs place) x.tag ≡ true)) → IsIndexed t l f s known
      → IsIndexed (record t { structs = slice_set t.structs place x }) l f s d
  struct_set l f s known d place x told is = record {
    ty_firsts = is.ty_firsts;
    fun_firsts = is.fun_firsts;
    tag_firsts = λ b. places_set tag_of s t.structs place x (λ y there. same_tag t.structs place x y there (told b).1) (is.tag_firsts (told b).0);
  }
