-- What holds of every reader that is made of the parts.
use Rattle.std.proofs.Common.{◌≡◌, ◌≢◌, ℕ, zero, suc, ◌+◌, ◌*◌, ◌/◌, ◌%◌, ◌^◌, ◌<◌, ◌≤◌, Bool, true, false, eqb, List, [], ◌∷◌, ◌++◌, get_or, Result, Ok, Err, refl, sym, ap, subst, ◌∙◌, append_assoc, arith}
use Rattle.std.proofs.lemmas.Bool.{eqb-true}
use Rattle.hx_words.specs.LittleEndian.{bytes_of, AreBytes}
use Rattle.hx_words.proofs.LittleEndianLaws.{AreBytes-append}
use Rattle.x64_isa.specs.declared.instruction.XBad.{XBad}
use Rattle.x64_isa.specs.declared.instruction.XBad.TheVariants.{Short, Unknown}
use Rattle.x64_isa.specs.Reading.{Read, done, unknown, byte_then, choose, followed, bind, number_at}

pub AreBytes-from_each : (bytes : List ℕ) → ((k : ℕ) → get_or bytes k 0 < 256) → AreBytes bytes
AreBytes-from_each [] h = tt
AreBytes-from_each (b ∷ bytes) h = (h 0, AreBytes-from_each bytes (λ k. h (suc k)))

AreBytes-right : (a b : List ℕ) → AreBytes (a ++ b) → AreBytes b
AreBytes-right [] b h = h
AreBytes-right (x ∷ a) b h = AreBytes-right a b h.1

-- ---- values of reading

abbrev pub ok : {A : Type 0} → A × List ℕ → Result (A × List ℕ) XBad
ok x = Ok x

abbrev pub short : {A : Type 0} → Result (A × List ℕ) XBad
short = Err Short

abbrev nothing : {A : Type 0} → Result (A × List ℕ) XBad
nothing = Err Unknown

pub ok_is : {A : Type 0} (x y : A × List ℕ) → ok x ≡ ok y → x ≡ y
ok_is x y e = cc

ok_apart : {A : Type 0} (o : Result (A × List ℕ) XBad) (x : A × List ℕ) → o ≡ ok x → o ≡ short → ⊥
ok_apart o x e g = cc

pub unknown_apart : {A : Type 0} (o : Result (A × List ℕ) XBad) → o ≡ nothing → o ≡ short → ⊥
unknown_apart o e g = cc

ok_apart_unknown : {A : Type 0} (o : Result (A × List ℕ) XBad) (x : A × List ℕ) → o ≡ nothing → o ≡ ok x → ⊥
ok_apart_unknown o x e g = cc

-- an answer stays when bytes are added
abbrev pub added : {A : Type 0} → Result (A × List ℕ) XBad → List ℕ → Result (A × List ℕ) XBad
added (Ok x) more = Ok (x.0, x.1 ++ more)
added (Err e) more = Err e

-- bytes that go on to a value
pub record Completion {A : Type 0} (p : Read A) (bytes : List ℕ) : Type 0 where
  pub more : List ℕ
  pub value : A
  pub are_bytes : AreBytes more
  pub reads : p (bytes ++ more) ≡ Ok (value, [])

-- a reader reads something
abbrev pub Live : {A : Type 0} → Read A → Type 0
Live p = Completion p []

-- Behind the bytes of the front, what is read is a value in its range and spelled so; an answer other than
-- Short stays when bytes are added; and what is short can be completed.
pub record Good {A : Type 0} (V : A → Type 0) (S : A → List ℕ) (front : List ℕ) (p : Read A) : Type 0 where
  pub keeps : (bytes more : List ℕ) → AreBytes bytes → p bytes ≢ Err Short → p (bytes ++ more) ≡ added (p bytes) more
  pub goes_on : (bytes : List ℕ) → AreBytes bytes → p bytes ≡ Err Short → Completion p bytes
  pub found : (bytes : List ℕ) → AreBytes bytes → (a : A) (rest : List ℕ) → p bytes ≡ Ok (a, rest) → V a × (front ++ bytes ≡ S a ++ rest)

-- ---- the parts

module _ {A : Type 0} (V : A → Type 0) (S : A → List ℕ) where
  pub Good-done : (front : List ℕ) (a : A) → V a → S a ≡ front → Good V S front (done a)
  unfolding done
  Good-done front a v e = record {
    keeps = λ bytes more fits h. refl;
    goes_on = λ bytes fits g. absurd (ok_apart (ok (a, bytes)) (a, bytes) refl g);
    found = λ bytes fits b rest g.
        let P : A × List ℕ → Type 0 = λ y. V y.0 × (front ++ bytes ≡ S y.0 ++ y.1) in
        subst P (ok_is (a, bytes) (b, rest) g) (v, ap (λ (l : List ℕ). l ++ bytes) (sym e));
  }

  pub Good-unknown : (front : List ℕ) → Good V S front unknown
  unfolding unknown
  Good-unknown front = record {
    keeps = λ bytes more fits h. refl;
    goes_on = λ bytes fits g. absurd (unknown_apart {A = A} nothing refl g);
    found = λ bytes fits b rest g. absurd (ok_apart_unknown nothing (b, rest) refl g);
  }

  pub Good-choose : (front : List ℕ) (b : Bool) (p q : Read A) → (b ≡ true → Good V S front p) → (b ≡ false → Good V S front q) → Good V S front (choose b p q)
  unfolding choose
  Good-choose front true p q s t = record { keeps = (s refl).keeps; goes_on = λ bytes fits e. (let c = (s refl).goes_on bytes fits e in record { more = c.more; value = c.value; are_bytes = c.are_bytes; reads = c.reads }); found = (s refl).found }
  Good-choose front false p q s t = record { keeps = (t refl).keeps; goes_on = λ bytes fits e. (let c = (t refl).goes_on bytes fits e in record { more = c.more; value = c.value; are_bytes = c.are_bytes; reads = c.reads }); found = (t refl).found }

  -- a test of the number that the front ends with
  pub Good-at : (F : ℕ → List ℕ) (n k : ℕ) (p q : Read A) → Good V S (F k) p → Good V S (F n) q → Good V S (F n) (choose (eqb n k) p q)
  Good-at F n k p q s t = Good-choose (F n) (eqb n k) p q (λ e. subst (λ (l : List ℕ). Good V S l p) (ap F (sym (eqb-true n k e))) s) (λ e. t)

  byte_keeps : (front : List ℕ) (f : ℕ → Read A) → ((b : ℕ) → b < 256 → Good V S (front ++ (b ∷ [])) (f b)) → (bytes more : List ℕ) → AreBytes bytes → byte_then f bytes ≢ Err Short → byte_then f (bytes ++ more) ≡ added (byte_then f bytes) more
  unfolding byte_then
  byte_keeps front f s [] more fits h = absurd (h refl)
  byte_keeps front f s (b ∷ bytes) more fits h = (s b fits.0).keeps bytes more fits.1 h

  byte_goes_on : (front : List ℕ) (f : ℕ → Read A) → Live (byte_then f) → ((b : ℕ) → b < 256 → Good V S (front ++ (b ∷ [])) (f b)) → (bytes : List ℕ) → AreBytes bytes → byte_then f bytes ≡ Err Short → Completion (byte_then f) bytes
  unfolding byte_then
  byte_goes_on front f start s [] fits e = start
  byte_goes_on front f start s (b ∷ bytes) fits e =
      let c = (s b fits.0).goes_on bytes fits.1 e in
      record { more = c.more; value = c.value; are_bytes = c.are_bytes; reads = c.reads }

  byte_found : (front : List ℕ) (f : ℕ → Read A) → ((b : ℕ) → b < 256 → Good V S (front ++ (b ∷ [])) (f b)) → (bytes : List ℕ) → AreBytes bytes → (a : A) (rest : List ℕ) → byte_then f bytes ≡ Ok (a, rest) → V a × (front ++ bytes ≡ S a ++ rest)
  unfolding byte_then
  byte_found front f s [] fits a rest e = absurd (ok_apart short (a, rest) e refl)
  byte_found front f s (b ∷ bytes) fits a rest e =
      let h = (s b fits.0).found bytes fits.1 a rest e in
      (h.0, sym (append_assoc front (b ∷ []) bytes) ∙ h.1)

  pub Good-byte : (front : List ℕ) (f : ℕ → Read A) → Live (byte_then f) → ((b : ℕ) → b < 256 → Good V S (front ++ (b ∷ [])) (f b)) → Good V S front (byte_then f)
  Good-byte front f start s = record { keeps = byte_keeps front f s; goes_on = byte_goes_on front f start s; found = byte_found front f s }

-- the same reader behind other bytes
pub Good-as : {A : Type 0} (V W : A → Type 0) (S R : A → List ℕ) (front : List ℕ) (p : Read A) → Good V S [] p → ((a : A) → V a → W a × (R a ≡ front ++ S a)) → Good W R front p
Good-as {A} V W S R front p g h = record {
  keeps = g.keeps;
  goes_on = g.goes_on;
  found = λ bytes fits a rest e.
      let x = g.found bytes fits a rest e in
      let y = h a x.0 in
      (y.0, ap (λ (l : List ℕ). front ++ l) x.1 ∙ sym (append_assoc front (S a) rest) ∙ ap (λ (l : List ℕ). l ++ rest) (sym y.1));
}

-- ---- what can be read

pub Live-done : {A : Type 0} (a : A) → Live (done a)
unfolding done
Live-done a = record { more = []; value = a; are_bytes = tt; reads = refl }

pub Live-byte : {A : Type 0} (f : ℕ → Read A) (b : ℕ) → b < 256 → Live (f b) → Live (byte_then f)
unfolding byte_then
Live-byte f b lt c = record { more = b ∷ c.more; value = c.value; are_bytes = (lt, c.are_bytes); reads = c.reads }

pub Live-first : {A : Type 0} (b : Bool) (p q : Read A) → b ≡ true → Live p → Live (choose b p q)
unfolding choose
Live-first true p q e c = record { more = c.more; value = c.value; are_bytes = c.are_bytes; reads = c.reads }
Live-first false p q e c = absurd cc

pub Live-second : {A : Type 0} (b : Bool) (p q : Read A) → b ≡ false → Live q → Live (choose b p q)
unfolding choose
Live-second false p q e c = record { more = c.more; value = c.value; are_bytes = c.are_bytes; reads = c.reads }
Live-second true p q e c = absurd cc

pub Live-map : {A B : Type 0} (p : Read A) (f : A → B) → Live p → Live (bind p (λ a. done (f a)))
unfolding bind done
Live-map p f c = record { more = c.more; value = f c.value; are_bytes = c.are_bytes; reads = ap (followed (λ a. done (f a))) c.reads }

-- ---- one reader behind another

-- bytes that go on to a value behind which something can be read
pub record Joined {A B : Type 0} (p : Read A) (f : A → Read B) (bytes : List ℕ) : Type 0 where
  pub more : List ℕ
  pub value : A
  pub are_bytes : AreBytes more
  pub reads : p (bytes ++ more) ≡ Ok (value, [])
  pub live : Live (f value)

module _ {A B : Type 0} (V : A → Type 0) (S : A → List ℕ) (W : B → Type 0) (R : B → List ℕ) (front : List ℕ) (p : Read A) (f : A → Read B) (g : Good V S [] p) (h : (a : A) → V a → Good W R (front ++ S a) (f a)) where
  behind : (bytes : List ℕ) → AreBytes bytes → (x : A × List ℕ) → p bytes ≡ Ok x → AreBytes x.1 × Good W R (front ++ S x.0) (f x.0)
  behind bytes fits x e =
      let found = g.found bytes fits x.0 x.1 e in
      (AreBytes-right (S x.0) x.1 (subst AreBytes found.1 fits), h x.0 found.0)

  more_read : (bytes more : List ℕ) → AreBytes bytes → (x : A × List ℕ) → p bytes ≡ ok x → p (bytes ++ more) ≡ ok (x.0, x.1 ++ more)
  more_read bytes more fits x e = g.keeps bytes more fits (ok_apart (p bytes) x e) ∙ ap (λ (o : Result (A × List ℕ) XBad). added o more) e

  bind_keeps : (bytes more : List ℕ) → AreBytes bytes → (o : Result (A × List ℕ) XBad) → p bytes ≡ o → followed f o ≢ Err Short → followed f (p (bytes ++ more)) ≡ added (followed f o) more
  bind_keeps bytes more fits (Ok x) e n =
      let b = behind bytes fits x e in
      ap (followed f) (more_read bytes more fits x e) ∙ b.1.keeps x.1 more b.0 n
  bind_keeps bytes more fits (Err Short) e n = absurd (n refl)
  bind_keeps bytes more fits (Err Unknown) e n = ap (followed f) (g.keeps bytes more fits (unknown_apart (p bytes) e) ∙ ap (λ (o : Result (A × List ℕ) XBad). added o more) e)

  bind_goes_on : (bytes : List ℕ) → AreBytes bytes → (p bytes ≡ Err Short → Joined p f bytes) → (o : Result (A × List ℕ) XBad) → p bytes ≡ o → followed f o ≡ Err Short → Completion (bind p f) bytes
  unfolding bind
  bind_goes_on bytes fits joins (Ok x) e n =
      let b = behind bytes fits x e in
      let c = b.1.goes_on x.1 b.0 n in
      record { more = c.more; value = c.value; are_bytes = c.are_bytes; reads = ap (followed f) (more_read bytes c.more fits x e) ∙ c.reads }
  bind_goes_on bytes fits joins (Err Short) e n =
      let j = joins e in
      let c = j.live in
      let whole : AreBytes (bytes ++ j.more) = AreBytes-append bytes j.more fits j.are_bytes in
      record {
        more = j.more ++ c.more;
        value = c.value;
        are_bytes = AreBytes-append j.more c.more j.are_bytes c.are_bytes;
        reads = ap (λ (l : List ℕ). followed f (p l)) (sym (append_assoc bytes j.more c.more)) ∙ ap (followed f) (more_read (bytes ++ j.more) c.more whole (j.value, []) j.reads) ∙ c.reads;
      }
  bind_goes_on bytes fits joins (Err Unknown) e n = absurd (unknown_apart {A = B} nothing refl n)

  bind_found : (bytes : List ℕ) → AreBytes bytes → (o : Result (A × List ℕ) XBad) → p bytes ≡ o → (b : B) (rest : List ℕ) → followed f o ≡ Ok (b, rest) → W b × (front ++ bytes ≡ R b ++ rest)
  bind_found bytes fits (Ok x) e b rest n =
      let first = g.found bytes fits x.0 x.1 e in
      let k = behind bytes fits x e in
      let second = k.1.found x.1 k.0 b rest n in
      (second.0, ap (λ (l : List ℕ). front ++ l) first.1 ∙ sym (append_assoc front (S x.0) x.1) ∙ second.1)
  bind_found bytes fits (Err Short) e b rest n = absurd (ok_apart short (b, rest) n refl)
  bind_found bytes fits (Err Unknown) e b rest n = absurd (ok_apart_unknown nothing (b, rest) refl n)

  pub Good-bind : ((bytes : List ℕ) → AreBytes bytes → p bytes ≡ Err Short → Joined p f bytes) → Good W R front (bind p f)
  unfolding bind
  Good-bind joins = record {
    keeps = λ bytes more fits n. bind_keeps bytes more fits (p bytes) refl n;
    goes_on = λ bytes fits n. bind_goes_on bytes fits (joins bytes fits) (p bytes) refl n;
    found = λ bytes fits b rest n. bind_found bytes fits (p bytes) refl b rest n;
  }

-- a value made of what is read
map_joins : {A B : Type 0} (p : Read A) (f : A → B) (bytes : List ℕ) → Completion p bytes → Joined p (λ a. done (f a)) bytes
map_joins p f bytes c = record { more = c.more; value = c.value; are_bytes = c.are_bytes; reads = c.reads; live = Live-done (f c.value) }

pub Good-map : {A B : Type 0} (V : A → Type 0) (S : A → List ℕ) (W : B → Type 0) (R : B → List ℕ) (front : List ℕ) (p : Read A) (f : A → B) → Good V S [] p → ((a : A) → V a → W (f a) × (R (f a) ≡ front ++ S a)) → Good W R front (bind p (λ a. done (f a)))
Good-map V S W R front p f g h =
    Good-bind V S W R front p (λ a. done (f a)) g (λ a v. let x = h a v in Good-done W R (front ++ S a) (f a) x.0 x.1)
    (λ bytes fits e. map_joins p f bytes (g.goes_on bytes fits e))

pub map_again : {A B : Type 0} (p : Read A) (f : A → B) (bytes : List ℕ) (a : A) (rest : List ℕ) → p bytes ≡ Ok (a, rest) → bind p (λ a. done (f a)) bytes ≡ Ok (f a, rest)
unfolding bind done
map_again p f bytes a rest e = ap (followed (λ a. done (f a))) e

-- ---- numbers

low_byte : (b v : ℕ) → b < 256 → (b + 256 * v) % 256 ≡ b
low_byte b v h = omega arith

rest_byte : (b v : ℕ) → b < 256 → (b + 256 * v) / 256 ≡ v
rest_byte b v h = omega arith

bytes_step : (n b v : ℕ) → b < 256 → bytes_of (suc n) (b + 256 * v) ≡ b ∷ bytes_of n v
unfolding bytes_of
bytes_step n b v h = rw (low_byte b v h, rest_byte b v h) refl

no_bytes : bytes_of 0 0 ≡ []
unfolding bytes_of
no_bytes = refl

abbrev pub Below : ℕ → ℕ → Type 0
Below n v = v < 256 ^ n

pub number_live : (n : ℕ) → Live (number_at n)
unfolding number_at
number_live zero = Live-done 0
number_live (suc n) = Live-byte _ 0 (omega arith) (Live-map (number_at n) (λ v. 0 + 256 * v) (number_live n))

pub number_good : (n : ℕ) → Good (Below n) (bytes_of n) [] (number_at n)
unfolding number_at
number_good zero = Good-done (Below 0) (bytes_of 0) [] 0 (omega arith) no_bytes
number_good (suc n) = Good-byte (Below (suc n)) (bytes_of (suc n)) [] _ (Live-byte _ 0 (omega arith) (Live-map (number_at n) (λ v. 0 + 256 * v) (number_live n))) (λ b lb.
    Good-map (Below n) (bytes_of n) (Below (suc n)) (bytes_of (suc n)) (b ∷ []) (number_at n) (λ v. b + 256 * v) (number_good n) (λ v lv. (omega arith, bytes_step n b v lb)))

pub number_again : (n v : ℕ) (rest : List ℕ) → v < 256 ^ n → number_at n (bytes_of n v ++ rest) ≡ Ok (v, rest)
unfolding bytes_of number_at byte_then done
number_again zero v rest h = let e : 0 ≡ v = omega arith in ap (λ (k : ℕ). ok (k, rest)) e
number_again (suc n) v rest h =
    let lt : v / 256 < 256 ^ n = omega arith in
    let e : v % 256 + 256 * (v / 256) ≡ v = omega arith in
    map_again (number_at n) (λ k. v % 256 + 256 * k) (bytes_of n (v / 256) ++ rest) (v / 256) rest (number_again n (v / 256) rest lt) ∙ ap (λ (k : ℕ). ok (k, rest)) e

short_inside : (b : ℕ) (o : Result (ℕ × List ℕ) XBad) → followed (λ v. done (b + 256 * v)) o ≡ short → o ≡ short
unfolding done
short_inside b (Ok x) e = absurd (ok_apart (ok (b + 256 * x.0, x.1)) (b + 256 * x.0, x.1) refl e)
short_inside b (Err Short) e = refl
short_inside b (Err Unknown) e = absurd (unknown_apart {A = ℕ} nothing refl e)

-- a number whose highest byte is 1 ends what is short
pub number_joins : {B : Type 0} (n : ℕ) (f : ℕ → Read B) → ((v : ℕ) → 256 ^ n ≤ v → v < 2 * 256 ^ n → Live (f v)) → (bytes : List ℕ) → AreBytes bytes → number_at (suc n) bytes ≡ Err Short → Joined (number_at (suc n)) f bytes
unfolding number_at byte_then bind done
number_joins zero f l [] fits e = record { more = 1 ∷ []; value = 1 + 256 * 0; are_bytes = (omega arith, tt); reads = refl; live = l (1 + 256 * 0) (omega arith) (omega arith) }
number_joins zero f l (b ∷ bytes) fits e = absurd (ok_apart (ok (b + 256 * 0, bytes)) (b + 256 * 0, bytes) refl e)
number_joins (suc n) f l [] fits e =
    let j = number_joins n (λ v. f (0 + 256 * v)) (λ v lo hi. l (0 + 256 * v) (omega arith) (omega arith)) [] tt refl in
    record { more = 0 ∷ j.more; value = 0 + 256 * j.value; are_bytes = (omega arith, j.are_bytes); reads = ap (followed (λ v. done (0 + 256 * v))) j.reads; live = j.live }
number_joins (suc n) f l (b ∷ bytes) fits e =
    let lt : b < 256 = fits.0 in
    let j = number_joins n (λ v. f (b + 256 * v)) (λ v lo hi. l (b + 256 * v) (omega arith) (omega arith)) bytes fits.1 (short_inside b (number_at (suc n) bytes) e) in
    record { more = j.more; value = b + 256 * j.value; are_bytes = j.are_bytes; reads = ap (followed (λ v. done (b + 256 * v))) j.reads; live = j.live }
