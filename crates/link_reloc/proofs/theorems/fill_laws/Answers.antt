use Rattle.link_reloc.specs.Sites.{width, site_of}
use Rattle.link_reloc.proofs.Fills.{size_after, outside_after, inside_filled, apart_filled}
use Rattle.link_reloc.proofs.theorems.fill_laws.Goals as goal

pub returns : goal.returns
returns c = record {
  size = λ k xs at s t b h. size_after (width k) xs at h (site_of k xs at s t b);
  outside = λ k xs at s t b i n h d. outside_after (width k) xs at h (site_of k xs at s t b) i n d;
  inside = inside_filled;
  apart = apart_filled;
}
