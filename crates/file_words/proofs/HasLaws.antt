-- Texts at places of a file, and the fields that are read there.
use Rattle.std.proofs.Common.{◌≡◌, ℕ, ◌+◌, ◌*◌, ◌/◌, ◌%◌, ◌<◌, ◌≤◌, List, [], ◌∷◌, ◌++◌, length, get_or, take, drop, refl, sym, ap, subst, ◌∙◌, append_assoc, arith}
use Rattle.std.proofs.lemmas.List.{take_at, drop_at, drop-drop, append-nil, length-append, length-drop, get_or-drop, get_or_append_left}
use Rattle.hx_words.specs.LittleEndian.{bytes_of}
use Rattle.file_words.specs.Fields.{byte_of, word_of, dword_of, part_of}
use Rattle.file_words.specs.Standing.{Has}

pub has_here : (text : List ℕ) → Has text 0 text
has_here text = record { rest = []; is = sym (append-nil text) }

pub has_left : (file : List ℕ) (place : ℕ) (x y : List ℕ) → Has file place (x ++ y) → Has file place x
has_left file place x y h = record { rest = y ++ h.rest; is = h.is ∙ append_assoc x y h.rest }

pub has_right : (file : List ℕ) (place : ℕ) (x y : List ℕ) → Has file place (x ++ y) → Has file (place + length x) y
has_right file place x y h = record { rest = h.rest; is = sym (drop-drop (length x) place file) ∙ ap (drop (length x)) (h.is ∙ append_assoc x y h.rest) ∙ drop_at x (y ++ h.rest) (length x) refl }

pub has_moved : (file : List ℕ) (p q : ℕ) (text : List ℕ) → p ≡ q → Has file p text → Has file q text
has_moved file p q text e h = subst (λ (k : ℕ). Has file k text) e h

pub has_same : (file : List ℕ) (p : ℕ) (x y : List ℕ) → x ≡ y → Has file p x → Has file p y
has_same file p x y e h = subst (λ (t : List ℕ). Has file p t) e h

-- what stands there alone
pub part_has : (file : List ℕ) (place n : ℕ) (text : List ℕ) → Has file place text → length text ≡ n → part_of file place n ≡ text
unfolding part_of
part_has file place n text h e = ap (take n) h.is ∙ take_at text h.rest n e

-- a text that isn't empty ends within the file
pub has_within : (file : List ℕ) (place : ℕ) (text : List ℕ) → 0 < length text → Has file place text → place + length text ≤ length file
has_within file place text some h = omega (arith, length-drop place file, ap length h.is, length-append text h.rest)

pub byte_has : (file : List ℕ) (place k q : ℕ) (text : List ℕ) → Has file place text → k < length text → place + k ≡ q → byte_of file q ≡ get_or text k 0
unfolding byte_of
byte_has file place k q text h lt e = ap (λ j. get_or file j 0) (sym e) ∙ sym (get_or-drop place file k 0) ∙ ap (λ (xs : List ℕ). get_or xs k 0) h.is ∙ get_or_append_left text h.rest 0 k lt

two_bytes : (v : ℕ) → bytes_of 2 v ≡ v % 256 ∷ v / 256 % 256 ∷ []
unfolding bytes_of
two_bytes v = refl

four_bytes : (v : ℕ) → bytes_of 4 v ≡ v % 256 ∷ v / 256 % 256 ∷ v / 256 / 256 % 256 ∷ v / 256 / 256 / 256 % 256 ∷ []
unfolding bytes_of
four_bytes v = refl

two_again : (v : ℕ) → v < 65536 → v % 256 + 256 * (v / 256 % 256) ≡ v
two_again v lt = omega arith

four_again : (v : ℕ) → v < 4294967296 → v % 256 + 256 * (v / 256 % 256) + 65536 * (v / 256 / 256 % 256 + 256 * (v / 256 / 256 / 256 % 256)) ≡ v
four_again v lt = omega arith

pub word_has : (file : List ℕ) (place v : ℕ) → v < 65536 → Has file place (bytes_of 2 v) → word_of file place ≡ v
unfolding word_of
word_has file place v lt h =
    let t : Has file place (v % 256 ∷ v / 256 % 256 ∷ []) = has_same file place (bytes_of 2 v) _ (two_bytes v) h in
    rw (byte_has file place 0 place _ t (omega arith) (omega arith), byte_has file place 1 (place + 1) _ t (omega arith) refl) (two_again v lt)

pub dword_has : (file : List ℕ) (place v : ℕ) → v < 4294967296 → Has file place (bytes_of 4 v) → dword_of file place ≡ v
unfolding dword_of word_of
dword_has file place v lt h =
    let t : Has file place (v % 256 ∷ v / 256 % 256 ∷ v / 256 / 256 % 256 ∷ v / 256 / 256 / 256 % 256 ∷ []) = has_same file place (bytes_of 4 v) _ (four_bytes v) h in
    rw (byte_has file place 0 place _ t (omega arith) (omega arith), byte_has file place 1 (place + 1) _ t (omega arith) refl, byte_has file place 2 (place + 2) _ t (omega arith) refl, byte_has file place 3 (place + 2 + 1) _ t (omega arith) (omega arith)) (four_again v lt)
