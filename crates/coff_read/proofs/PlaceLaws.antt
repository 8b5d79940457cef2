-- Symbols that sites and rows can name.
use Rattle.std.proofs.Common.{◌≡◌, ◌≢◌, ℕ, ◌+◌, ◌/◌, ◌%◌, ◌<◌, ◌≤◌, Bool, true, false, not, ◌&&◌, ◌||◌, List, length, get_or, eqb, ltb, refl, sym, ap, ◌∙◌, arith}
use Rattle.std.proofs.lemmas.Bool.{lt-ltb, le-ltb, ltb-true, or_parts, not-false, ltb-false}
use Rattle.file_words.specs.Below.{any_below, table}
use Rattle.file_words.proofs.BelowLaws.{table_at, table_long, none_below}
use Rattle.coff_fields.specs.Fields.{section_count, symbol_count, symbol_section, contents_size, skip_at, site_count, site_symbol, is_main, in_section, hybrid_source, hybrid_thunk}
use Rattle.coff_read.specs.Kept.{keeps_section, is_hybrid, may_stay, stays}
use Rattle.coff_read.specs.Refusals.{bad_home, bad_symbol_range, bad_place, bad_places, bad_relocation_place, bad_index, bad_row, bad_hybrid, bad_hybrid_record}

pub past_table : (b : List ℕ) (j : ℕ) (xs : List Bool) → xs ≡ table (may_stay b) (symbol_count b) → length xs ≤ j → true ≡ (not (ltb j (symbol_count b)) || not (may_stay b j))
past_table b j xs e le = rw (le-ltb j (symbol_count b) (omega (arith, table_long (may_stay b) (symbol_count b) xs e))) refl

pub in_table : (b : List ℕ) (j : ℕ) (xs : List Bool) (d : Bool) → xs ≡ table (may_stay b) (symbol_count b) → j < length xs → not (get_or xs j d) ≡ (not (ltb j (symbol_count b)) || not (may_stay b j))
in_table b j xs d e lt =
    let below : j < symbol_count b = omega (arith, table_long (may_stay b) (symbol_count b) xs e) in
    rw (lt-ltb j (symbol_count b) below, table_at (may_stay b) (symbol_count b) xs j d e below) refl

pub past_kept : (b : List ℕ) (j : ℕ) (xs : List Bool) → xs ≡ table (stays b) (symbol_count b) → length xs ≤ j → true ≡ bad_index b j
unfolding bad_index
past_kept b j xs e le = rw (le-ltb j (symbol_count b) (omega (arith, table_long (stays b) (symbol_count b) xs e))) refl

pub in_kept : (b : List ℕ) (j : ℕ) (xs : List Bool) (d : Bool) → xs ≡ table (stays b) (symbol_count b) → j < length xs → not (get_or xs j d) ≡ bad_index b j
unfolding bad_index
in_kept b j xs d e lt =
    let below : j < symbol_count b = omega (arith, table_long (stays b) (symbol_count b) xs e) in
    rw (lt-ltb j (symbol_count b) below, table_at (stays b) (symbol_count b) xs j d e below) refl

-- ---- what is known where no test holds

after_and : (k x : Bool) → k ≡ true → (k && x) ≡ false → x ≡ false
after_and true x t e = e
after_and false x t e = absurd cc

-- a site's symbol is in the table
pub site_counted : (b : List ℕ) (i r : ℕ) → bad_relocation_place b ≡ false → i < section_count b → keeps_section b i ≡ true → r < site_count b i → site_symbol b i r < symbol_count b
unfolding bad_relocation_place bad_places bad_place
site_counted b i r e lt t rlt =
    let here : any_below (bad_place b i) (site_count b i) ≡ false = after_and (keeps_section b i) (any_below (bad_place b i) (site_count b i)) t (none_below (bad_places b) (section_count b) i e lt) in
    let place : bad_place b i r ≡ false = none_below (bad_place b i) (site_count b i) r here rlt in
    ltb-true (site_symbol b i r) (symbol_count b) (not-false (ltb (site_symbol b i r) (symbol_count b)) (or_parts (not (ltb (site_symbol b i r) (symbol_count b))) _ (or_parts _ _ place).1).0)

index_counted : (b : List ℕ) (j : ℕ) → bad_index b j ≡ false → j < symbol_count b
unfolding bad_index
index_counted b j e = ltb-true j (symbol_count b) (not-false (ltb j (symbol_count b)) (or_parts (not (ltb j (symbol_count b))) _ e).0)

row_good : (b : List ℕ) (i r : ℕ) → bad_hybrid_record b ≡ false → i < section_count b → is_hybrid b i ≡ true → r < contents_size b i / 12 → bad_row b i r ≡ false
unfolding bad_hybrid_record bad_hybrid
row_good b i r e lt t rlt =
    let here : (not (eqb (contents_size b i % 12) 0) || any_below (bad_row b i) (contents_size b i / 12)) ≡ false = after_and (is_hybrid b i) _ t (none_below (bad_hybrid b) (section_count b) i e lt) in
    none_below (bad_row b i) (contents_size b i / 12) r (or_parts (not (eqb (contents_size b i % 12) 0)) _ here).1 rlt

pub source_counted : (b : List ℕ) (i r : ℕ) → bad_hybrid_record b ≡ false → i < section_count b → is_hybrid b i ≡ true → r < contents_size b i / 12 → hybrid_source b i r < symbol_count b
unfolding bad_row
source_counted b i r e lt t rlt = index_counted b (hybrid_source b i r) (or_parts (bad_index b (hybrid_source b i r)) _ (row_good b i r e lt t rlt)).0

pub thunk_counted : (b : List ℕ) (i r : ℕ) → bad_hybrid_record b ≡ false → i < section_count b → is_hybrid b i ≡ true → r < contents_size b i / 12 → hybrid_thunk b i r < symbol_count b
unfolding bad_row
thunk_counted b i r e lt t rlt = index_counted b (hybrid_thunk b i r) (or_parts (bad_index b (hybrid_thunk b i r)) _ (or_parts (bad_index b (hybrid_source b i r)) _ (row_good b i r e lt t rlt)).1).0

-- a symbol's section is in the table
home_case : (n s : ℕ) (x : Bool) → (in_section s && (ltb n s || x)) ≡ false → in_section s ≡ true → s ≤ n
home_case n s x e t = ltb-false n s (or_parts (ltb n s) x (after_and (in_section s) (ltb n s || x) t e)).0

pub home_counted : (b : List ℕ) (j n : ℕ) → bad_symbol_range b ≡ false → j < symbol_count b → is_main b j ≡ true → n ≡ symbol_section b j → in_section n ≡ true → n ≤ section_count b
unfolding bad_symbol_range bad_home
home_counted b j n e lt t same u =
    let good : bad_home b j ≡ false = none_below (bad_home b) (symbol_count b) j (or_parts (not (eqb (skip_at b (symbol_count b)) 0)) (any_below (bad_home b) (symbol_count b)) (or_parts _ _ e).1).1 lt in
    let here = after_and (is_main b j) _ t good in
    let known : in_section (symbol_section b j) ≡ true = ap in_section (sym same) ∙ u in
    omega (arith, same, home_case (section_count b) (symbol_section b j) _ here known)

stays_case : (m x y : Bool) → ((m && x) && y) ≡ true → m ≡ true
stays_case true x y e = refl
stays_case false x y e = absurd cc

-- a record that is kept begins a symbol
pub kept_main : (b : List ℕ) (j : ℕ) → stays b j ≡ true → is_main b j ≡ true
unfolding stays may_stay
kept_main b j e = stays_case (is_main b j) _ _ e
