-- What a source over a reader of std has left.
use Rattle.std.specs.Prelude.{ℕ, List, Option, slice_range}
use Rattle.std.specs.Io.KnownBytes.{prepend_known}
use Rattle.hx_io.specs.declared.system.StdSource.{StdSource}

-- the bytes that were read and not yet taken, and then those of the reader, where they are known
abbrev pub waiting : {R : Type 0} → (R → Option (List ℕ)) → StdSource R → Option (List ℕ)
waiting remaining source = prepend_known (slice_range source.chunk source.start source.end) (remaining source.reader)
