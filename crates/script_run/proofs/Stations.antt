-- What a reading leaves of the stations.
use Rattle.std.proofs.Common.{ℕ, ◌≡◌, ◌<◌, length, ap, subst, sym}
use Rattle.can_frame.specs.declared.reading.Reading.{Reading}
use Rattle.can_frame.specs.declared.reading.Reading.TheVariants.{Empty, Frame, Gap}
use Rattle.journal.specs.Journal.{GarageValue}
use Rattle.garage.specs.Answers.{Reads}

same_settings : (y : ℕ) (old new : GarageValue) (r : Reading) → Reads y old r new → new.settings ≡ old.settings
same_settings y old new Empty h = ap (λ g. g.settings) h.1
same_settings y old new (Frame f) h = ap (λ g. g.settings) h.adds
same_settings y old new (Gap n) h = ap (λ g. g.settings) h.adds

-- a station that was there is there after a reading of it
pub still_there : (y : ℕ) (old new : GarageValue) (r : Reading) → Reads y old r new → y < length old.settings.stations → y < length new.settings.stations
still_there y old new r h there = subst (λ s. y < length s.stations) (sym (same_settings y old new r h)) there
