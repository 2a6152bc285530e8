-- What `threads` writes of a run: a line for each unit, and the report of each station where that is wanted.
use Rattle.std.specs.Prelude.{◌≡◌, ℕ, zero, suc, if◌then◌else◌, Bool, List, [], ◌∷◌, ◌++◌, length, codes, Option, Some, None, unwrap_or}
use Rattle.std.specs.Fmt.{decimal}
use Rattle.std.specs.Io.KnownBytes.{Appends}
use Rattle.std.specs.List.{All}
use Rattle.journal.specs.Journal.{GarageValue}
use Rattle.journal.specs.Promises.{IsLawful}
use Rattle.journal.specs.declared.tally.Tally.{Tally}
use Rattle.garage.specs.Opening.{new_garage}
use Rattle.report.specs.Text.{report_at}
use Rattle.toml.specs.Data.{Members, table}
use Rattle.toml.specs.Parse.{parse_document}
use Rattle.vehicle.specs.Holding.{HoldsVehicle}
use Rattle.vehicle.specs.declared.Vehicle.{Vehicle}
use Rattle.unit_threads.specs.Ends.{Agrees, AreSeatlessFrom, HaveOwnSeats, counts_told, number_of_end, word_of_end}
use Rattle.unit_threads.specs.Going.{GoesOnFrom}
use Rattle.unit_threads.specs.Opened.{settings_wanted}
use Rattle.unit_threads.specs.declared.ended.Ended.{Ended}
use Rattle.unit_threads.specs.declared.ended.EndReason.{EndReason}
use Rattle.unit_threads.specs.declared.running.TheConstants.{MOST_UNITS}

-- the counts of a unit's seat
abbrev pub tally_text : Tally → List ℕ
tally_text t = codes "joined " ++ decimal t.joined ++ codes " turned " ++ decimal t.turned ++ codes " left " ++ decimal t.left ++ codes "\n"

-- or why it was refused
abbrev pub end_reason_text : EndReason → List ℕ
end_reason_text r = codes "refused " ++ decimal (number_of_end r) ++ codes " " ++ word_of_end r ++ codes "\n"

abbrev pub outcome_text : GarageValue → Option ℕ → Option EndReason → List ℕ
outcome_text g seat None = tally_text (counts_told (unwrap_or seat 0) g)
outcome_text g seat (Some r) = end_reason_text r

-- how the unit with this number ended
abbrev pub unit_end_text : GarageValue → ℕ → Ended → List ℕ
unit_end_text g unit e = (codes "unit " ++ decimal unit ++ codes " ") ++ outcome_text g e.seat e.refusal

-- a line for each unit, the first of which has this number
abbrev pub ends_text : GarageValue → ℕ → List Ended → List ℕ
ends_text g unit [] = []
ends_text g unit (e ∷ es) = unit_end_text g unit e ++ ends_text g (suc unit) es

-- the reports of so many stations, in the order of their numbers
abbrev pub reports_text : GarageValue → ℕ → List ℕ
reports_text g zero = []
reports_text g (suc n) = reports_text g n ++ report_at g n

abbrev pub run_text : GarageValue → List Ended → Bool → List ℕ
run_text g ended report = ends_text g 0 ended ++ (if report then reports_text g (length g.settings.stations) else [])

-- so many units ran so many turns in a garage, which is now this one: it went on, lawfully, how each unit ended agrees with its counts
-- in the journal, none has another's seat, and no seat was left for those behind the first 64
pub record HaveRun (turns units : ℕ) (before g : GarageValue) (ended : List Ended) : Type 0 where
  pub goes_on : GoesOnFrom before g
  pub lawful : IsLawful g
  pub all : length ended ≡ units
  pub agree : All (Agrees turns g) ended
  pub apart : HaveOwnSeats ended
  pub seatless : AreSeatlessFrom MOST_UNITS ended

-- so the units of a vehicle ran in a garage that was opened with its stations, and that was written behind what stood there
pub record IsRunTold (turns : ℕ) (v : Vehicle) (report : Bool) (old new : Option (List ℕ)) : Type 0 where
  pub garage : GarageValue
  pub ended : List Ended
  pub ran : HaveRun turns (length v.units.items) (new_garage (settings_wanted v.station v.second)) garage ended
  pub written : Appends old new (run_text garage ended report)

-- the text is a document with the values of this vehicle
abbrev pub IsSpelled : List ℕ → Vehicle → Type 0
IsSpelled text v = (t : Members) × (parse_document text ≡ Some t) × HoldsVehicle (table t) v

-- the vehicle that a text spells ran so
abbrev pub IsVehicleTold : ℕ → Bool → List ℕ → Option (List ℕ) → Option (List ℕ) → Type 0
IsVehicleTold turns report text old new = (v : Vehicle) × IsSpelled text v × IsRunTold turns v report old new
