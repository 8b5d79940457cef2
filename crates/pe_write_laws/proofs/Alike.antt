-- Tests of sameness, and what is the same.
use Rattle.std.proofs.Common.{◌≡◌, ℕ, Bool, true, eqb, List, [], ◌∷◌, refl}
use Rattle.std.proofs.lemmas.Bool.{and_parts, and_from, eqb-true, eq-eqb}
use Rattle.chpe_types.specs.declared.image.ImportSlot.{ImportSlot}
use Rattle.chpe_types.specs.declared.image.CodeRange.{CodeRange}
use Rattle.chpe_types.specs.declared.image.Redirect.{Redirect}
use Rattle.chpe_types.specs.declared.image.FnRow.{FnRow}
use Rattle.chpe_types.specs.declared.image.Meta.{Meta}
use Rattle.pe_fields.specs.Imports.{same_text}
use Rattle.pe_write_laws.specs.Places.{same_lists, same_slot, same_range, same_redirect, same_row, same_meta}

pub text_same : (xs ys : List ℕ) → same_text xs ys ≡ true → xs ≡ ys
text_same [] [] e = refl
text_same [] (y ∷ ys) e = absurd cc
text_same (x ∷ xs) [] e = absurd cc
text_same (x ∷ xs) (y ∷ ys) e = let h = and_parts (eqb x y) (same_text xs ys) e in let g = text_same xs ys h.1 in let f = eqb-true x y h.0 in cc

pub same_itself : (xs : List ℕ) → same_text xs xs ≡ true
same_itself [] = refl
same_itself (x ∷ xs) = and_from (eqb x x) (same_text xs xs) (eq-eqb x x refl) (same_itself xs)

lists_alike : {X : Type 0} (same : X → X → Bool) → ((x y : X) → same x y ≡ true → x ≡ y) → (xs ys : List X) → same_lists same xs ys ≡ true → xs ≡ ys
lists_alike same sound [] [] h = refl
lists_alike same sound [] (y ∷ ys) h = absurd cc
lists_alike same sound (x ∷ xs) [] h = absurd cc
lists_alike same sound (x ∷ xs) (y ∷ ys) h =
    let g = and_parts (same x y) (same_lists same xs ys) h in
    let e : x ≡ y = sound x y g.0 in
    let f : xs ≡ ys = lists_alike same sound xs ys g.1 in
    cc

list_itself : {X : Type 0} (same : X → X → Bool) → ((x : X) → same x x ≡ true) → (xs : List X) → same_lists same xs xs ≡ true
list_itself same whole [] = refl
list_itself same whole (x ∷ xs) = and_from (same x x) (same_lists same xs xs) (whole x) (list_itself same whole xs)

number_itself : (n : ℕ) → eqb n n ≡ true
number_itself n = eq-eqb n n refl

-- ---- one of each

slot_is : (n : List ℕ) (r : ℕ) (t : ImportSlot) → n ≡ t.name → r ≡ t.rva → (let x : ImportSlot = record { name = n; rva = r } in x) ≡ t
slot_is n r t e f = rw (e, f) refl

slot_alike : (s t : ImportSlot) → same_slot s t ≡ true → s ≡ t
slot_alike s t h = let g = and_parts (same_text s.name t.name) (eqb s.rva t.rva) h in slot_is s.name s.rva t (text_same s.name t.name g.0) (eqb-true s.rva t.rva g.1)

slot_itself : (s : ImportSlot) → same_slot s s ≡ true
slot_itself s = and_from (same_text s.name s.name) (eqb s.rva s.rva) (same_itself s.name) (number_itself s.rva)

range_is : (s l k : ℕ) (r : CodeRange) → s ≡ r.start → l ≡ r.length → k ≡ r.kind → (let x : CodeRange = record { start = s; length = l; kind = k } in x) ≡ r
range_is s l k r e f g = rw (e, f, g) refl

range_alike : (r s : CodeRange) → same_range r s ≡ true → r ≡ s
range_alike r s h =
    let g = and_parts (eqb r.start s.start) _ h in
    let k = and_parts (eqb r.length s.length) (eqb r.kind s.kind) g.1 in
    range_is r.start r.length r.kind s (eqb-true r.start s.start g.0) (eqb-true r.length s.length k.0) (eqb-true r.kind s.kind k.1)

range_itself : (r : CodeRange) → same_range r r ≡ true
range_itself r = and_from (eqb r.start r.start) _ (number_itself r.start) (and_from (eqb r.length r.length) _ (number_itself r.length) (number_itself r.kind))

redirect_is : (s d : ℕ) (r : Redirect) → s ≡ r.source → d ≡ r.destination → (let x : Redirect = record { source = s; destination = d } in x) ≡ r
redirect_is s d r e f = rw (e, f) refl

redirect_alike : (r s : Redirect) → same_redirect r s ≡ true → r ≡ s
redirect_alike r s h = let g = and_parts (eqb r.source s.source) (eqb r.destination s.destination) h in redirect_is r.source r.destination s (eqb-true r.source s.source g.0) (eqb-true r.destination s.destination g.1)

redirect_itself : (r : Redirect) → same_redirect r r ≡ true
redirect_itself r = and_from (eqb r.source r.source) _ (number_itself r.source) (number_itself r.destination)

row_is : (k s e : ℕ) (n : List ℕ) (r : FnRow) → k ≡ r.kind → n ≡ r.name → s ≡ r.start → e ≡ r.end → (let x : FnRow = record { kind = k; name = n; start = s; end = e } in x) ≡ r
row_is k s e n r h1 h2 h3 h4 = rw (h1, h2, h3, h4) refl

row_alike : (r s : FnRow) → same_row r s ≡ true → r ≡ s
row_alike r s h =
    let g = and_parts (eqb r.kind s.kind) _ h in
    let k = and_parts (same_text r.name s.name) _ g.1 in
    let l = and_parts (eqb r.start s.start) (eqb r.end s.end) k.1 in
    row_is r.kind r.start r.end r.name s (eqb-true r.kind s.kind g.0) (text_same r.name s.name k.0) (eqb-true r.start s.start l.0) (eqb-true r.end s.end l.1)

row_itself : (r : FnRow) → same_row r r ≡ true
row_itself r = and_from (eqb r.kind r.kind) _ (number_itself r.kind) (and_from (same_text r.name r.name) _ (same_itself r.name) (and_from (eqb r.start r.start) _ (number_itself r.start) (number_itself r.end)))

meta_is : (rs : List CodeRange) (ds : List Redirect) (fs : List FnRow) (m : Meta) → rs ≡ m.ranges → ds ≡ m.redirects → fs ≡ m.rows → (let x : Meta = record { ranges = rs; redirects = ds; rows = fs } in x) ≡ m
meta_is rs ds fs m e f g = rw (e, f, g) refl

-- ---- lists of them

pub slots_alike : (xs ys : List ImportSlot) → same_lists same_slot xs ys ≡ true → xs ≡ ys
slots_alike xs ys h = lists_alike same_slot slot_alike xs ys h

pub slots_itself : (xs : List ImportSlot) → same_lists same_slot xs xs ≡ true
slots_itself xs = list_itself same_slot slot_itself xs

pub meta_alike : (m n : Meta) → same_meta m n ≡ true → m ≡ n
meta_alike m n h =
    let g = and_parts (same_lists same_range m.ranges n.ranges) _ h in
    let k = and_parts (same_lists same_redirect m.redirects n.redirects) (same_lists same_row m.rows n.rows) g.1 in
    meta_is m.ranges m.redirects m.rows n (lists_alike same_range range_alike m.ranges n.ranges g.0) (lists_alike same_redirect redirect_alike m.redirects n.redirects k.0) (lists_alike same_row row_alike m.rows n.rows k.1)

pub meta_itself : (m : Meta) → same_meta m m ≡ true
meta_itself m = and_from (same_lists same_range m.ranges m.ranges) _ (list_itself same_range range_itself m.ranges) (and_from (same_lists same_redirect m.redirects m.redirects) _ (list_itself same_redirect redirect_itself m.redirects) (list_itself same_row row_itself m.rows))
