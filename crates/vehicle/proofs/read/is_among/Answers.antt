use Rattle.std.proofs.Common.{◌∙◌, [], sym}
use Rattle.std.specs.Cmp.Lexicographic.{same_text}
use Rattle.vehicle.proofs.KeyLemmas.{among_at}
use Rattle.vehicle.proofs.read.is_among.Goals as goal

pub returns-then-eq : goal.returns-then-eq
returns-then-eq c =
    λ yes. among_at c.args.keys.now c.loop-known.known-index (record { ref_ptr = (0, 0); now = [] }) c.args.key.now c.loop-known-test.true
    (same_text _ _ (sym c.if-eq.true ∙ c.eq.ensures))
