-- Pieces that fit are read as what they are.
use Rattle.std.proofs.Common.{◌≡◌, ℕ, ◌+◌, ◌<◌, ◌≤◌, Bool, true, false, ◌&&◌, ◌||◌, eqb, List, [], ◌∷◌, ◌++◌, length, get_or, take, drop, Option, Some, None, Ok, refl, ap, ◌∙◌, arith, drop_at, le-leb}
use Rattle.c_lex.specs.declared.token.TokKind.{TokKind}
use Rattle.c_lex.specs.declared.token.TokKind.TheVariants as kind
use Rattle.c_lex.specs.declared.next.Next.{Next}
use Rattle.c_lex.specs.declared.next.Next.TheVariants as next
use Rattle.c_lex.specs.declared.marks.Mark.{Mark}
use Rattle.c_lex.specs.declared.marks.Mark.TheVariants as mark
use Rattle.c_lex.specs.Numbering.{mark_number, mark_text}
use Rattle.c_lex.specs.Bytes.{is_blank, is_letter, is_decimal, is_word_byte}
use Rattle.c_lex.specs.Spelling.{number_of_mark}
use Rattle.c_lex.specs.Reading.{mark_of, mark_at, next_of, ends_line, token, with_front, read_next, reading, tokens_of}
use Rattle.c_lex.specs.Grammar.{is_name}
use Rattle.c_lex.proofs.QuoteLaws.{and_left, and_right}
use Rattle.c_lex.proofs.ReadingLaws.{reading_next}
use Rattle.c_lex.proofs.GrammarLaws.{some_found}
use Rattle.c_lex.proofs.TokenReads.{differs}
use Rattle.gen_tokens.specs.Pieces.{Piece, Space, Line, Reserved, Called, Function, Constant, Sign, text_of, kind_of, joined, before, tokens_at, ends_word, stands_alone, is_operator, is_star, sign_apart, either, is_called, fits, all_fit, AreSmall}
use Rattle.gen_tokens.proofs.TokenLaws.{no_mark, constant_read, function_read, word_read, called_read}

-- marks

mark_here : (n k : ℕ) (text : List ℕ) → n ≤ length text → number_of_mark (take n text) ≡ Some k → mark_of n text ≡ Some (next.Found (kind.Mark k) n)
unfolding mark_of
mark_here n k text within is = rw (le-leb _ _ within, is)

-- a mark of one byte, with which the bytes behind it make no longer one
one_byte : (first : Bool) (b k c : ℕ) (more : List ℕ) → ((m : List ℕ) → number_of_mark (b ∷ c ∷ m) ≡ None) → number_of_mark (b ∷ []) ≡ Some k → mark_at first (b ∷ c ∷ more) ≡ next.Found (kind.Mark k) 1
unfolding mark_at
one_byte first b k c more none is =
    rw (no_mark 3 (b ∷ c ∷ more) (none (take 1 more)), no_mark 2 (b ∷ c ∷ more) (none []), mark_here 1 k (b ∷ c ∷ more) (omega arith) is)

-- and the same at the end of a text
one_byte_ends : (first : Bool) (b k : ℕ) → number_of_mark (b ∷ []) ≡ Some k → mark_at first (b ∷ []) ≡ next.Found (kind.Mark k) 1
unfolding mark_at mark_of
one_byte_ends first b k is = rw is

one_alone : (first : Bool) (b k : ℕ) (rest : List ℕ) → ((c : ℕ) (m : List ℕ) → number_of_mark (b ∷ c ∷ m) ≡ None) → number_of_mark (b ∷ []) ≡ Some k → mark_at first (b ∷ rest) ≡ next.Found (kind.Mark k) 1
one_alone first b k [] none is = one_byte_ends first b k is
one_alone first b k (c ∷ more) none is = one_byte first b k c more (none c) is

two_bytes : (first : Bool) (b d k c : ℕ) (more : List ℕ) → number_of_mark (b ∷ d ∷ c ∷ []) ≡ None → number_of_mark (b ∷ d ∷ []) ≡ Some k → mark_at first (b ∷ d ∷ c ∷ more) ≡ next.Found (kind.Mark k) 2
unfolding mark_at
two_bytes first b d k c more none is = rw (no_mark 3 (b ∷ d ∷ c ∷ more) none, mark_here 2 k (b ∷ d ∷ c ∷ more) (omega arith) is)

two_bytes_end : (first : Bool) (b d k : ℕ) → number_of_mark (b ∷ d ∷ []) ≡ Some k → mark_at first (b ∷ d ∷ []) ≡ next.Found (kind.Mark k) 2
unfolding mark_at mark_of
two_bytes_end first b d k is = rw is

two_plus : (first : Bool) (rest : List ℕ) → mark_at first (43 ∷ 43 ∷ rest) ≡ next.Found (kind.Mark 41) 2
unfolding number_of_mark
two_plus first [] = two_bytes_end first 43 43 41 refl
two_plus first (c ∷ more) = two_bytes first 43 43 41 c more refl refl

abbrev SignIs : Bool → Mark → List ℕ → Type 0
SignIs first m rest = next_of first (mark_text m ++ rest) ≡ next.Found (kind.Mark (mark_number m)) (length (mark_text m))

alone_sign : (first : Bool) (m : Mark) (rest : List ℕ) → stands_alone m ≡ true → SignIs first m rest
unfolding next_of is_blank is_letter is_decimal number_of_mark
alone_sign first mark.OpenParen rest h = one_alone first 40 1 rest (λ c m. refl) refl
alone_sign first mark.CloseParen rest h = one_alone first 41 2 rest (λ c m. refl) refl
alone_sign first mark.Semicolon rest h = one_alone first 59 3 rest (λ c m. refl) refl
alone_sign first mark.OpenBrace rest h = one_alone first 123 4 rest (λ c m. refl) refl
alone_sign first mark.CloseBrace rest h = one_alone first 125 5 rest (λ c m. refl) refl
alone_sign first mark.Comma rest h = one_alone first 44 7 rest (λ c m. refl) refl
alone_sign first mark.OpenBracket rest h = one_alone first 91 9 rest (λ c m. refl) refl
alone_sign first mark.CloseBracket rest h = one_alone first 93 10 rest (λ c m. refl) refl
alone_sign first mark.PlusPlus rest h = two_plus first rest
alone_sign first _ rest h = cc

operator_sign : (first : Bool) (m : Mark) (more : List ℕ) → is_operator m ≡ true → SignIs first m (32 ∷ more)
unfolding next_of is_blank is_letter is_decimal number_of_mark
operator_sign first mark.Star more h = one_byte first 42 0 32 more (λ m. refl) refl
operator_sign first mark.Equal more h = one_byte first 61 6 32 more (λ m. refl) refl
operator_sign first mark.Minus more h = one_byte first 45 8 32 more (λ m. refl) refl
operator_sign first mark.Caret more h = one_byte first 94 29 32 more (λ m. refl) refl
operator_sign first mark.Less more h = one_byte first 60 32 32 more (λ m. refl) refl
operator_sign first mark.Plus more h = one_byte first 43 38 32 more (λ m. refl) refl
operator_sign first mark.Percent more h = one_byte first 37 40 32 more (λ m. refl) refl
operator_sign first _ more h = cc

star_sign : (first : Bool) (m : Mark) (c : ℕ) (more : List ℕ) → is_star m ≡ true → is_letter c ≡ true → SignIs first m (c ∷ more)
unfolding next_of is_blank is_letter is_decimal number_of_mark
star_sign first mark.Star c more h letter =
    let other : eqb c 61 ≡ false = differs is_letter c 61 refl letter in
    one_byte first 42 0 c more (λ m. rw other) refl
star_sign first _ c more h letter = cc

by_either : (P : Type 0) (a b : Bool) → either a b ≡ true → (a ≡ true → P) → (b ≡ true → P) → P
by_either P true b h one other = one refl
by_either P false b h one other = other h

-- the piece behind the mark of an operator
behind_operator : (first : Bool) (m : Mark) (q : Piece) (more : List ℕ) → sign_apart m q ≡ true → (is_called_there : (x : List ℕ) → q ≡ Called x → is_name x ≡ true) → SignIs first m (text_of q ++ more)
unfolding is_name
behind_operator first m Space more h named = operator_sign first m more h
behind_operator first m (Called []) more h named = let no = named [] refl in cc
behind_operator first m (Called (c ∷ cs)) more h named = star_sign first m c (cs ++ more) h (and_left (is_letter c) _ (named (c ∷ cs) refl))
behind_operator first m Line more h named = cc
behind_operator first m (Reserved v) more h named = cc
behind_operator first m (Function k) more h named = cc
behind_operator first m (Constant k) more h named = cc
behind_operator first m (Sign k) more h named = cc

-- no mark begins as a word goes on
mark_first : (m : Mark) (rest : List ℕ) → is_word_byte (get_or (mark_text m ++ rest) 0 0) ≡ false
unfolding is_word_byte is_letter is_decimal
mark_first mark.Star rest = refl
mark_first mark.OpenParen rest = refl
mark_first mark.CloseParen rest = refl
mark_first mark.Semicolon rest = refl
mark_first mark.OpenBrace rest = refl
mark_first mark.CloseBrace rest = refl
mark_first mark.Equal rest = refl
mark_first mark.Comma rest = refl
mark_first mark.Minus rest = refl
mark_first mark.OpenBracket rest = refl
mark_first mark.CloseBracket rest = refl
mark_first mark.Ellipsis rest = refl
mark_first mark.Ampersand rest = refl
mark_first mark.Dot rest = refl
mark_first mark.PlusEqual rest = refl
mark_first mark.MinusEqual rest = refl
mark_first mark.StarEqual rest = refl
mark_first mark.SlashEqual rest = refl
mark_first mark.PercentEqual rest = refl
mark_first mark.AmpersandEqual rest = refl
mark_first mark.BarEqual rest = refl
mark_first mark.CaretEqual rest = refl
mark_first mark.ShiftLeftEqual rest = refl
mark_first mark.ShiftRightEqual rest = refl
mark_first mark.Question rest = refl
mark_first mark.Colon rest = refl
mark_first mark.BarBar rest = refl
mark_first mark.AmpersandAmpersand rest = refl
mark_first mark.Bar rest = refl
mark_first mark.Caret rest = refl
mark_first mark.EqualEqual rest = refl
mark_first mark.NotEqual rest = refl
mark_first mark.Less rest = refl
mark_first mark.LessEqual rest = refl
mark_first mark.Greater rest = refl
mark_first mark.GreaterEqual rest = refl
mark_first mark.ShiftLeft rest = refl
mark_first mark.ShiftRight rest = refl
mark_first mark.Plus rest = refl
mark_first mark.Slash rest = refl
mark_first mark.Percent rest = refl
mark_first mark.PlusPlus rest = refl
mark_first mark.MinusMinus rest = refl
mark_first mark.Tilde rest = refl
mark_first mark.Exclamation rest = refl
mark_first mark.Arrow rest = refl

word_stops : (q : Piece) (more : List ℕ) → ends_word q ≡ true → is_word_byte (get_or (text_of q ++ more) 0 0) ≡ false
unfolding is_word_byte is_letter is_decimal
word_stops Space more h = refl
word_stops Line more h = refl
word_stops (Sign m) more h = mark_first m more
word_stops (Reserved v) more h = cc
word_stops (Called x) more h = cc
word_stops (Function k) more h = cc
word_stops (Constant k) more h = cc

-- what stands in front of a piece's text and more
abbrev read_as : Option TokKind → ℕ → Next
read_as None n = next.Gap n
read_as (Some k) n = next.Found k n

abbrev ReadsAs : Bool → Piece → List Piece → Type 0
ReadsAs first p ps = next_of first (text_of p ++ joined ps) ≡ read_as (kind_of p) (length (text_of p))

-- identifiers behind a piece are some
names_there : (q : Piece) (qs : List Piece) → fits q qs ≡ true → (x : List ℕ) → q ≡ Called x → is_name x ≡ true
names_there q [] h x is = let none = rw is at h in cc
names_there q (r ∷ rs) h x is = and_left (is_name x) _ (and_left (is_called x) _ (rw is at h))

piece_reads : (first : Bool) (p : Piece) (ps : List Piece) → all_fit (p ∷ ps) ≡ true → AreSmall (p ∷ ps) → ReadsAs first p ps
unfolding next_of is_blank
piece_reads first Space ps h small = refl
piece_reads first Line ps h small = refl
piece_reads first (Reserved v) [] h small = cc
piece_reads first (Reserved v) (q ∷ qs) h small = word_read first v (joined (q ∷ qs)) (word_stops q (joined qs) (and_left (ends_word q) _ h))
piece_reads first (Called x) [] h small = cc
piece_reads first (Called x) (q ∷ qs) h small =
    let both = and_left (is_called x && ends_word q) _ h in
    called_read first x (joined (q ∷ qs)) (and_left (is_called x) _ both) (word_stops q (joined qs) (and_right (is_called x) _ both))
piece_reads first (Function k) [] h small = cc
piece_reads first (Function k) (q ∷ qs) h small = function_read first k (joined (q ∷ qs)) small.0 (word_stops q (joined qs) (and_left (ends_word q) _ h))
piece_reads first (Constant k) [] h small = cc
piece_reads first (Constant k) (q ∷ qs) h small = constant_read first k (joined (q ∷ qs)) small.0 (word_stops q (joined qs) (and_left (ends_word q) _ h))
piece_reads first (Sign m) [] h small = cc
piece_reads first (Sign m) (q ∷ qs) h small =
    by_either (ReadsAs first (Sign m) (q ∷ qs)) (stands_alone m) (sign_apart m q) (and_left (either (stands_alone m) (sign_apart m q)) _ h)
    (λ alone. alone_sign first m (joined (q ∷ qs)) alone)
    (λ apart. behind_operator first m q (joined qs) apart (names_there q qs (and_left (fits q qs) _ (and_right (either (stands_alone m) (sign_apart m q)) _ h))))

-- a whole text

text_on : (first : Bool) (at : ℕ) (p : Piece) (ps : List Piece) (o : Option TokKind) → kind_of p ≡ o → 0 < length (text_of p ++ joined ps) → next_of first (text_of p ++ joined ps) ≡ read_as o (length (text_of p)) →
    ((after : Bool) → reading 0 after (at + length (text_of p)) (joined ps) ≡ Ok (tokens_at (at + length (text_of p)) ps)) → reading 0 first at (text_of p ++ joined ps) ≡ Ok (before o at (at + length (text_of p)) (tokens_at (at + length (text_of p)) ps))
unfolding read_next with_front token
text_on first at p ps None is some e more =
    let text = text_of p ++ joined ps in
    let n = length (text_of p) in
    reading_next first at text some
    ∙ ap (read_next first at text (λ m after. reading 0 after (at + m) (drop m text))) e
    ∙ ap (reading 0 (first || ends_line (take n text)) (at + n)) (drop_at (text_of p) (joined ps) n refl)
    ∙ more (first || ends_line (take n text))
text_on first at p ps (Some k) is some e more =
    let text = text_of p ++ joined ps in
    let n = length (text_of p) in
    reading_next first at text some
    ∙ ap (read_next first at text (λ m after. reading 0 after (at + m) (drop m text))) e
    ∙ ap (λ l. with_front (token k at n ∷ []) (reading 0 false (at + n) l)) (drop_at (text_of p) (joined ps) n refl)
    ∙ ap (with_front (token k at n ∷ [])) (more false)

text_some : (first : Bool) (p : Piece) (ps : List Piece) (o : Option TokKind) → kind_of p ≡ o → next_of first (text_of p ++ joined ps) ≡ read_as o (length (text_of p)) → 0 < length (text_of p ++ joined ps)
text_some first p ps (Some k) is e = some_found first (text_of p ++ joined ps) k (length (text_of p)) e
text_some first Space ps None is e = omega arith
text_some first Line ps None is e = omega arith
text_some first (Reserved v) ps None is e = cc
text_some first (Called x) ps None is e = cc
text_some first (Function k) ps None is e = cc
text_some first (Constant k) ps None is e = cc
text_some first (Sign m) ps None is e = cc

small_behind : (p : Piece) (ps : List Piece) → AreSmall (p ∷ ps) → AreSmall ps
small_behind Space ps h = h
small_behind Line ps h = h
small_behind (Reserved v) ps h = h
small_behind (Called x) ps h = h
small_behind (Function k) ps h = h.1
small_behind (Constant k) ps h = h.1
small_behind (Sign m) ps h = h

reads_at : (first : Bool) (at : ℕ) (ps : List Piece) → all_fit ps ≡ true → AreSmall ps → reading 0 first at (joined ps) ≡ Ok (tokens_at at ps)
unfolding reading
reads_at first at [] h small = refl
reads_at first at (p ∷ ps) h small =
    let e = piece_reads first p ps h small in
    text_on first at p ps (kind_of p) refl (text_some first p ps (kind_of p) refl e) e
    (λ after. reads_at after (at + length (text_of p)) ps (and_right (fits p ps) _ h) (small_behind p ps small))

-- pieces that fit are read as their tokens
pub reads_pieces : (ps : List Piece) → all_fit ps ≡ true → AreSmall ps → tokens_of (joined ps) ≡ Ok (tokens_at 0 ps)
unfolding tokens_of
reads_pieces ps h small = reads_at true 0 ps h small
