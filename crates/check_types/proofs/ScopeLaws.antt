-- What a name means is told by the first row of the name.
use Rattle.std.proofs.Common.{◌≡◌, ℕ, true, false, List, [], ◌∷◌, Some, None, bytes_eq, if◌then◌else◌, refl, sym, ap, ◌∙◌}
use Rattle.std.specs.Prelude.{find, option_map}
use Rattle.c_typing.specs.declared.scopes.Meaning.{Meaning}
use Rattle.c_typing.specs.declared.scopes.UnitName.{UnitName}
use Rattle.c_typing.specs.declared.scopes.UnitTag.{UnitTag}
use Rattle.c_typing.specs.declared.scopes.LocalMeaning.{LocalMeaning}
use Rattle.c_typing.specs.declared.scopes.LocalName.{LocalName}
use Rattle.c_typing.specs.Scopes.{meaning_in, tag_in, in_block}

abbrev pub meant : UnitName → Meaning
meant n = n.meaning

meanings : (ns : List UnitName) (name : List ℕ) → meaning_in ns name ≡ option_map meant (find (λ n. bytes_eq n.name name) ns)
meanings [] name = refl
meanings (n ∷ ns) name =
    elim (bytes_eq n.name name) as (λ b. (if b then Some n.meaning else meaning_in ns name) ≡ option_map meant (if b then Some n else find (λ m. bytes_eq m.name name) ns)) [ true ↦ refl | false ↦ meanings ns name ]

pub found_meaning : (ns : List UnitName) (name : List ℕ) (n : UnitName) → Some n ≡ find (λ m. bytes_eq m.name name) ns → Some n.meaning ≡ meaning_in ns name
found_meaning ns name n h = ap (option_map meant) h ∙ sym (meanings ns name)

pub no_meaning : (ns : List UnitName) (name : List ℕ) → None ≡ find (λ m. bytes_eq m.name name) ns → None ≡ meaning_in ns name
no_meaning ns name h = ap (option_map meant) h ∙ sym (meanings ns name)

pub found_tag : (ts : List UnitTag) (name : List ℕ) → find (λ t. bytes_eq t.name name) ts ≡ tag_in ts name
found_tag [] name = refl
found_tag (t ∷ ts) name =
    elim (bytes_eq t.name name) as (λ b. (if b then Some t else find (λ m. bytes_eq m.name name) ts) ≡ (if b then Some t else tag_in ts name)) [ true ↦ refl | false ↦ found_tag ts name ]

abbrev pub meant_in_block : LocalName → LocalMeaning
meant_in_block n = n.meaning

locals : (ns : List LocalName) (name : List ℕ) → in_block ns name ≡ option_map meant_in_block (find (λ n. bytes_eq n.name name) ns)
locals [] name = refl
locals (n ∷ ns) name =
    elim (bytes_eq n.name name) as (λ b. (if b then Some n.meaning else in_block ns name) ≡ option_map meant_in_block (if b then Some n else find (λ m. bytes_eq m.name name) ns)) [ true ↦ refl | false ↦ locals ns name ]

pub found_local : (ns : List LocalName) (name : List ℕ) (n : LocalName) → Some n ≡ find (λ m. bytes_eq m.name name) ns → Some n.meaning ≡ in_block ns name
found_local ns name n h = ap (option_map meant_in_block) h ∙ sym (locals ns name)

pub no_local : (ns : List LocalName) (name : List ℕ) → None ≡ find (λ m. bytes_eq m.name name) ns → None ≡ in_block ns name
no_local ns name h = ap (option_map meant_in_block) h ∙ sym (locals ns name)
