-- A site of the file of an object, as the reader takes it.
use Rattle.std.proofs.Common.{◌≡◌, ℕ, ◌+◌, ◌<◌, true, List, [], ◌∷◌, length, get_or, Some, refl, ◌∙◌, arith}
use Rattle.std.specs.Prelude.{slice_index}
use Rattle.std.specs.List.{concat}
use Rattle.hx_names.specs.declared.pieces.SiteKind.{SiteKind}
use Rattle.hx_names.specs.declared.pieces.SiteKind.TheVariants.{Nothing, Addr64, Addr32Nb, Rel32, Branch26, PageBaseRel21, PageOffset12A, PageOffset12L}
use Rattle.coff_write.specs.declared.object.ObjMachine.{ObjMachine}
use Rattle.coff_write.specs.declared.object.ObjMachine.TheVariants.{Amd64, Arm64Ec}
use Rattle.coff_write.specs.declared.object.ObjSite.{ObjSite}
use Rattle.coff_write.specs.declared.object.Object.{Object}
use Rattle.coff_write.specs.Format.{word, dword, site_code, number_or_zero, numbers, relocation}
use Rattle.coff_write.specs.Valid.{has_code}
use Rattle.file_words.specs.Standing.{Has}
use Rattle.file_words.proofs.HasLaws.{has_left, word_has, dword_has}
use Rattle.coff_fields.specs.Fields.{symbol_count, machine_of, site_count, site_place, site_at, site_symbol, site_type}
use Rattle.coff_read.specs.Refusals.{amd64_kind, arm64_kind, kind_of}
use Rattle.coff_laws_base.specs.Records.{no_site, has_more}
use Rattle.coff_laws_base.proofs.Sizes.{four}
use Rattle.coff_laws_base.proofs.Rows.{has_next}
use Rattle.coff_laws_base.proofs.Validity.{SectionValid, section_valid, SiteValid, site_valid}
use Rattle.coff_laws_parts.proofs.SectionReads.{SectionRead, site_count_read, site_there}
use Rattle.coff_laws_base.proofs.Walks.{record_below}
use Rattle.coff_laws_parts.proofs.FileReads.{IsRead, record_at, section_at}

kind_again : (m : ObjMachine) (k : SiteKind) → has_code (site_code m k) ≡ true → kind_of m (number_or_zero (site_code m k)) ≡ Some k
unfolding kind_of amd64_kind arm64_kind
kind_again Amd64 Nothing e = refl
kind_again Amd64 Addr64 e = refl
kind_again Amd64 Addr32Nb e = refl
kind_again Amd64 Rel32 e = refl
kind_again Amd64 Branch26 e = absurd cc
kind_again Amd64 PageBaseRel21 e = absurd cc
kind_again Amd64 PageOffset12A e = absurd cc
kind_again Amd64 PageOffset12L e = absurd cc
kind_again Arm64Ec Nothing e = refl
kind_again Arm64Ec Addr64 e = refl
kind_again Arm64Ec Addr32Nb e = refl
kind_again Arm64Ec Rel32 e = absurd cc
kind_again Arm64Ec Branch26 e = refl
kind_again Arm64Ec PageBaseRel21 e = refl
kind_again Arm64Ec PageOffset12A e = refl
kind_again Arm64Ec PageOffset12L e = refl

code_small : (m : ObjMachine) (k : SiteKind) → number_or_zero (site_code m k) < 65536
code_small Amd64 Nothing = omega arith
code_small Amd64 Addr64 = omega arith
code_small Amd64 Addr32Nb = omega arith
code_small Amd64 Rel32 = omega arith
code_small Amd64 Branch26 = omega arith
code_small Amd64 PageBaseRel21 = omega arith
code_small Amd64 PageOffset12A = omega arith
code_small Amd64 PageOffset12L = omega arith
code_small Arm64Ec Nothing = omega arith
code_small Arm64Ec Addr64 = omega arith
code_small Arm64Ec Addr32Nb = omega arith
code_small Arm64Ec Rel32 = omega arith
code_small Arm64Ec Branch26 = omega arith
code_small Arm64Ec PageBaseRel21 = omega arith
code_small Arm64Ec PageOffset12A = omega arith
code_small Arm64Ec PageOffset12L = omega arith

record SiteParts (b : List ℕ) (p : ℕ) (m : ObjMachine) (records : List ℕ) (t : ObjSite) : Type 0 where
  at : Has b p (dword t.at)
  symbol : Has b (p + 4) (dword (slice_index records t.symbol))
  kind : Has b (p + 8) (word (number_or_zero (site_code m t.kind)))

site_parts : (b : List ℕ) (p : ℕ) (m : ObjMachine) (records : List ℕ) (t : ObjSite) → Has b p (relocation m records t) → SiteParts b p m records t
unfolding relocation
site_parts b p m records t h =
    let code = word (number_or_zero (site_code m t.kind)) in
    let f1 = has_next b p (p + 4) (dword t.at) (concat (dword (slice_index records t.symbol) ∷ code ∷ [])) (omega (arith, four t.at)) h in
    let f2 = has_next b (p + 4) (p + 8) (dword (slice_index records t.symbol)) (concat (code ∷ [])) (omega (arith, four (slice_index records t.symbol))) f1 in
    record { at = has_left b p (dword t.at) _ h; symbol = has_left b (p + 4) (dword (slice_index records t.symbol)) _ f1; kind = has_left b (p + 8) code [] f2 }

-- ---- what is read

pub record SiteRead (o : Object) (b : List ℕ) (i r : ℕ) (t : ObjSite) : Type 0 where
  pub at : site_at b i r ≡ t.at
  pub symbol : site_symbol b i r ≡ record_at o t.symbol
  pub kind : kind_of (machine_of b) (site_type b i r) ≡ Some t.kind
  pub ok : SiteValid o.machine (length (section_at o i).bytes) (length o.symbols) t

pub record_small : (o : Object) (b : List ℕ) (k : ℕ) → IsRead o b → k < length o.symbols → (record_at o k < symbol_count b) × (record_at o k < 4294967296)
record_small o b k h lt =
    let below : record_at o k < record_at o (length o.symbols) = record_below (has_more o.sections o.symbols) k (length o.symbols) lt in
    (omega (arith, below, h.count), omega (arith, below, h.count, h.header.records, h.valid.room.size))

site_of : (o : Object) (b : List ℕ) (i r : ℕ) (t : ObjSite) → IsRead o b → SiteValid o.machine (length (section_at o i).bytes) (length o.symbols) t → length (section_at o i).bytes < 4294967296 → SiteParts b (site_place b i r) o.machine (numbers o) t → SiteRead o b i r t
unfolding site_at site_symbol site_type
site_of o b i r t h ok few parts =
    let p = site_place b i r in
    let number : slice_index (numbers o) t.symbol ≡ record_at o t.symbol = h.numbers_are t.symbol ok.symbol in
    let small : record_at o t.symbol < 4294967296 = (record_small o b t.symbol h ok.symbol).1 in
    record {
      at = dword_has b p t.at (omega (arith, ok.within, few)) parts.at;
      symbol = dword_has b (p + 4) (slice_index (numbers o) t.symbol) (omega (arith, number, small)) parts.symbol ∙ number;
      kind = rw (h.machine, word_has b (p + 8) (number_or_zero (site_code o.machine t.kind)) (code_small o.machine t.kind) parts.kind) (kind_again o.machine t.kind ok.kind);
      ok = ok;
    }

pub site_read : (o : Object) (b : List ℕ) (i r : ℕ) → IsRead o b → i < length o.sections → r < length (section_at o i).sites → SiteRead o b i r (get_or (section_at o i).sites r no_site)
site_read o b i r h lt rlt =
    let s = section_at o i in
    let read : SectionRead o b i s = h.sections i lt in
    let ok : SectionValid o i s = section_valid o i h.valid lt in
    site_of o b i r (get_or s.sites r no_site) h (site_valid o.machine (length s.bytes) (length o.symbols) s.sites r ok.sites rlt) (omega (arith, read.within, h.small)) (site_parts b (site_place b i r) o.machine (numbers o) (get_or s.sites r no_site) (site_there o b i s r read rlt))

pub sites_counted : (o : Object) (b : List ℕ) (i : ℕ) → IsRead o b → i < length o.sections → site_count b i ≡ length (section_at o i).sites
sites_counted o b i h lt = site_count_read o b i (section_at o i) h.small (h.sections i lt)
