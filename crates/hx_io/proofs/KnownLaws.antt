-- Known bytes of a writer and a reader over many calls.
use Rattle.std.proofs.Common.{◌≡◌, ℕ, List, [], ◌++◌, ◌+◌, ◌<◌, ◌≤◌, length, Option, Some, None, IfSome, Ok, Vec, vec_len, take, drop, drop-cons, get_or, ◌∷◌, ◌-◌, suc, arith, refl, ap, sym, ◌∙◌, append_assoc}
use Rattle.std.proofs.lemmas.List.{append-nil, length-append, take-append-drop}
use Rattle.std.specs.Io.KnownBytes.{Appends, Keeps, Consumes, IsAtEnd, prepend_known}
use Rattle.std.specs.Prelude.{slice_range}
use Rattle.hx_io.specs.Known.{TakesKnown}
use Rattle.std.specs.declared.alloc.Global.{Global}
use Rattle.hx_io.specs.declared.outside.Found.TheVariants.{Whole, Longer}
use Rattle.hx_io.specs.Files.{Finds}

pub Appends-nil : (known : Option (List ℕ)) → Appends known known []
Appends-nil None = tt
Appends-nil (Some xs) = sym (append-nil xs)

pub Appends-append : (a b c : Option (List ℕ)) (xs ys : List ℕ) → Appends a b xs → Appends b c ys → Appends a c (xs ++ ys)
Appends-append None b c xs ys h k = tt
Appends-append (Some old) None c xs ys h k = absurd h
Appends-append (Some old) (Some mid) None xs ys h k = k
Appends-append (Some old) (Some mid) (Some new) xs ys h k = k ∙ ap (λ zs. zs ++ ys) h ∙ append_assoc old xs ys

pub Appends-Keeps : (a b c : Option (List ℕ)) (xs : List ℕ) → Appends a b xs → Keeps b c → Appends a c xs
Appends-Keeps None b c xs h k = tt
Appends-Keeps (Some old) None c xs h k = absurd h
Appends-Keeps (Some old) (Some mid) None xs h k = k
Appends-Keeps (Some old) (Some mid) (Some new) xs h k = k ∙ h

pub Consumes-nil : (known : Option (List ℕ)) → Consumes known known []
Consumes-nil None = tt
Consumes-nil (Some xs) = refl

pub Consumes-append : (a b c : Option (List ℕ)) (xs ys : List ℕ) → Consumes a b xs → Consumes b c ys → Consumes a c (xs ++ ys)
Consumes-append None b c xs ys h k = tt
Consumes-append (Some old) None c xs ys h k = absurd h
Consumes-append (Some old) (Some mid) None xs ys h k = k
Consumes-append (Some old) (Some mid) (Some new) xs ys h k = h ∙ ap (λ zs. xs ++ zs) k ∙ sym (append_assoc xs ys new)

-- a reader that is at its end gave all that it had left
pub finds_whole : (old new : Option (List ℕ)) (bytes : Vec ℕ Global) (most : ℕ) → Consumes old new bytes.items → IsAtEnd new → vec_len bytes ≤ most → IfSome old (λ left. Finds (Some left) most (Ok (Whole bytes)))
finds_whole None new bytes most h end within = tt
finds_whole (Some old) None bytes most h end within = absurd h
finds_whole (Some old) (Some new) bytes most h end within = (ap (λ xs. Some xs) (h ∙ ap (λ xs. bytes.items ++ xs) end ∙ append-nil bytes.items), within)

-- a reader that gave more than so many bytes had more left
pub finds_longer : (old new : Option (List ℕ)) (front : List ℕ) (most : ℕ) → Consumes old new front → most < length front → IfSome old (λ left. Finds (Some left) most (Ok Longer))
finds_longer None new front most h more = tt
finds_longer (Some old) None front most h more = absurd h
finds_longer (Some old) (Some new) front most h more = omega (arith, ap length h, length-append front new)

-- what a loop of reads keeps: what was read and what is still wanted are what was wanted
pub record IsRead (old now : Option (List ℕ)) (bytes : Vec ℕ Global) (room most : ℕ) : Type 0 where
  pub wanted : vec_len bytes + room ≡ most
  pub given : Consumes old now bytes.items

-- what a loop of writes keeps: the bytes that were taken, and those that are left
pub record IsWritten (old now : Option (List ℕ)) (bytes rest : List ℕ) : Type 0 where
  pub taken : List ℕ
  pub parts : bytes ≡ taken ++ rest
  pub grown : Appends old now taken

-- a write that took so many bytes of the rest
pub IsWritten-more : (old now new : Option (List ℕ)) (bytes rest left : List ℕ) (count : ℕ) → IsWritten old now bytes rest → Appends now new (take count rest) → left ≡ drop count rest → IsWritten old new bytes left
IsWritten-more old now new bytes rest left count h more is = record {
  taken = h.taken ++ take count rest;
  parts = h.parts ∙ ap (λ xs. h.taken ++ xs) (sym (take-append-drop count rest) ∙ ap (λ xs. take count rest ++ xs) (sym is)) ∙ sym (append_assoc h.taken (take count rest) left);
  grown = Appends-append old now new h.taken (take count rest) h.grown more;
}

slice_cons : (xs : List ℕ) (start end : ℕ) → start < end → end ≤ length xs → slice_range xs start end ≡ get_or xs start 0 ∷ slice_range xs (start + 1) end
slice_cons xs start end some within =
    let below : start < length xs = omega arith in
    let size : end - start ≡ suc (end - (start + 1)) = omega arith in
    let next : suc start ≡ start + 1 = omega arith in
    ap (λ k. take k (drop start xs)) size
    ∙ ap (λ ys. take (suc (end - (start + 1))) ys) (drop-cons xs start 0 below)
    ∙ ap (λ k. get_or xs start 0 ∷ take (end - (start + 1)) (drop k xs)) next

-- the first byte of a chunk is the first of those that wait
pub takes_first : (old rest : Option (List ℕ)) (chunk : List ℕ) (start end : ℕ) → start < end → end ≤ length chunk → Keeps old (prepend_known (slice_range chunk start end) rest) → TakesKnown old (Ok (Some (get_or chunk start 0))) (prepend_known (slice_range chunk (start + 1) end) rest)
takes_first None rest chunk start end some within h = tt
takes_first (Some old) None chunk start end some within h = absurd h
takes_first (Some old) (Some rest) chunk start end some within h =
    sym h ∙ ap (λ xs. xs ++ rest) (slice_cons chunk start end some within)
