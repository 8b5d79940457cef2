-- A site of a known kind.
use Rattle.std.proofs.Common.{◌≡◌, ℕ, ◌+◌, ◌%◌, ◌^◌, List, Result, Ok, sym, ap, ◌∙◌}
use Rattle.std.proofs.Math.Nat.{mod-add-mod}
use Rattle.hx_words.specs.LittleEndian.{bytes_of}
use Rattle.hx_names.specs.declared.pieces.SiteKind.{SiteKind}
use Rattle.hx_names.specs.declared.pieces.SiteKind.TheVariants.{Nothing, Addr64}
use Rattle.link_reloc.specs.declared.refusal.RelocRefusal.{RelocRefusal}
use Rattle.link_reloc.specs.Sites.{width, becomes, held, overwritten, answer_of, after_of, site_of, filled, address_of}
use Rattle.link_reloc.proofs.Writes.{overwritten_none}

-- a word that was found is answered and stands
module _ (k j : SiteKind) (bytes : List ℕ) (at site target base : ℕ) (w : Result ℕ RelocRefusal) (is : k ≡ j) (e : w ≡ site_of j bytes at site target base) where
  pub answered : (r : Result (Unit {0}) RelocRefusal) → r ≡ answer_of w → r ≡ answer_of (site_of k bytes at site target base)
  answered r h = h ∙ ap answer_of e ∙ sym (ap (λ i. answer_of (site_of i bytes at site target base)) is)

  pub stands : (new : List ℕ) → width j ≡ 4 → new ≡ after_of 4 bytes at w → new ≡ filled k bytes at site target base
  stands new four h = h ∙ ap (after_of 4 bytes at) e ∙ sym (ap (λ n. after_of n bytes at (site_of j bytes at site target base)) four) ∙ sym (ap (λ i. filled i bytes at site target base) is)

-- nothing is written
pub nothing_answered : (k : SiteKind) (bytes : List ℕ) (at site target base : ℕ) → k ≡ Nothing → answer_of (site_of k bytes at site target base) ≡ Ok tt
unfolding becomes
nothing_answered k bytes at site target base is = ap (λ i. answer_of (site_of i bytes at site target base)) is

pub nothing_stands : (k : SiteKind) (bytes : List ℕ) (at site target base : ℕ) → k ≡ Nothing → bytes ≡ filled k bytes at site target base
unfolding becomes bytes_of
nothing_stands k bytes at site target base is = sym (overwritten_none bytes at) ∙ sym (ap (λ i. filled i bytes at site target base) is)

-- an address of 64 bits
pub address_answered : (k : SiteKind) (bytes : List ℕ) (at site target base : ℕ) → k ≡ Addr64 → answer_of (site_of k bytes at site target base) ≡ Ok tt
unfolding becomes
address_answered k bytes at site target base is = ap (λ i. answer_of (site_of i bytes at site target base)) is

pub address_stands : (k : SiteKind) (bytes new : List ℕ) (at site target base number : ℕ) → k ≡ Addr64 → number ≡ held 8 bytes at → new ≡ overwritten bytes at (bytes_of 8 (((base + target) % 2 ^ 64 + number) % 2 ^ 64)) → new ≡ filled k bytes at site target base
unfolding becomes
address_stands k bytes new at site target base number is e h =
    h ∙ ap (λ v. overwritten bytes at (bytes_of 8 v)) (mod-add-mod (base + target) (2 ^ 64) number ∙ ap (λ n. address_of target base n) e)
    ∙ sym (ap (λ i. filled i bytes at site target base) is)
