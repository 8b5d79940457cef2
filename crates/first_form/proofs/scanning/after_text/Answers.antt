use Rattle.std.proofs.Common.{◌≡◌, ◌+◌, ◌∙◌, sym, List, ℕ, length}
use Rattle.first_form.proofs.ScanningLaws.{after_text-by_front, from_front}
use Rattle.first_form.proofs.scanning.after_text.Goals as goal

pub returns : goal.returns
returns c = from_front c.strip_prefix.result _ _ (λ (x : List ℕ). length x + length c.args.text.now ≡ length c.args.bytes.now) c.strip_prefix.ensures.cases ∙ sym (after_text-by_front c.args.text.now c.args.bytes.now)
