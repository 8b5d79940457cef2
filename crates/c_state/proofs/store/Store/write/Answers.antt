use Rattle.std.proofs.Common.{ap, sym, ◌∙◌}
use Rattle.c_values.specs.Objects.{write_path}
use Rattle.c_meaning.specs.States.{written, write_root, read_root, with_local, local_in}
use Rattle.c_state.specs.Seen.{state_of, with_frames}
use Rattle.c_state.proofs.store.Store.write.Goals as goal

pub returns-in-Local : goal.returns-in-Local
unfolding written
returns-in-Local c h = let s = state_of c.args.self.now h in let n = c.in-Local.n in let l = c.in-Local.l in
    c.write_local.ensures h
    ∙ ap (λ p. with_frames (with_local s.frames n l (write_path (local_in s.frames n l) p c.args.v)) s) c.as_slice-path.ensures
    ∙ ap (λ r. write_root r (write_path (read_root r s) c.args.o.now.path c.args.v) s) (sym c.in-Local.is)
