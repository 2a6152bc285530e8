use Rattle.std.proofs.Common.{◌≡◌, ◌<◌, ℕ, length, get_or}
use Rattle.std.specs.Prelude.{IfSome, slice_get}
use Rattle.trouble_code.specs.Code.{IsCode}
use Rattle.picture.specs.Briefs.{number_at_place}
use Rattle.picture.specs.declared.brief.TheConstants.{LISTED}
use Rattle.picture.proofs.brief.first_of.Given as goal

abbrev pub invariant-loop-place : goal.invariant-loop-place
invariant-loop-place l =
    (length l.first ≡ LISTED) × ((k : ℕ) → k < l.place → (get_or l.first k 0 ≡ number_at_place l.codes k) × IfSome (slice_get l.codes k) IsCode)
