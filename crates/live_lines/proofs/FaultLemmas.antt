-- A fault that a frame meets.
use Rattle.std.proofs.Common.{ℕ, ◌≡◌, ◌<◌, true, List, [], length, get_or, refl}
use Rattle.std.proofs.lemmas.Option.{slice_get_read}
use Rattle.can_frame.specs.FrameValue.{FrameValue}
use Rattle.vehicle.specs.declared.fail_line.Deviation.{Deviation}
use Rattle.live_lines.specs.Faults.{Meets, hits}
use Rattle.live_lines.specs.declared.failing.Failing.{Failing}

pub met_there : (all : List Failing) (place now : ℕ) (f : FrameValue) (x : Failing) (d : Deviation) → place < length all → x ≡ get_or all place x
    → x.deviation ≡ d → hits now f x ≡ true → Meets all d now f
met_there all place now f x d l e h k = record { place = place; one = x; at = slice_get_read all (length all) place x refl l e; does = h; met = k }

-- where there is no fault, none is met
pub nothing_met : (all : List Failing) (d : Deviation) (now : ℕ) (f : FrameValue) → Meets all d now f → all ≡ [] → ⊥
nothing_met all d now f m e = let at = rw e at m.at in cc

pub met_as : (all old : List Failing) (one d : Deviation) (now : ℕ) (f : FrameValue) → all ≡ old → d ≡ one → Meets all one now f → Meets old d now f
met_as all old one d now f p q m = rw (← p) (rw q m)
