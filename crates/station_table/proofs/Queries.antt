-- What is read from the tables is what was heard.
use Rattle.std.proofs.Common.{◌≡◌, ℕ, List, Option, Some, None, length, map, refl, sym, ap, ◌∙◌}
use Rattle.std.specs.Prelude.{slice_get}
use Rattle.std.specs.Option.{option_map}
use Rattle.std.proofs.lemmas.List.{length-map}
use Rattle.can_frame.specs.declared.reading.Reading.{Reading}
use Rattle.bus_model.specs.Heard.{StationSettings, address_heard, names_heard, row_heard, missed_count, unread_count}
use Rattle.entry_lists.specs.declared.row.Row.{Row}
use Rattle.entry_lists.specs.KeptValue.{KeptValue, kept_under}
use Rattle.station_table.specs.StationValue.{StationValue}
use Rattle.station_table.specs.StandsFor.{StandsFor}
use Rattle.entry_lists.specs.KnownRows.{row_known, row_of, row_heard_as}
use Rattle.station_table.proofs.Lines.{held_same}
use Rattle.entry_lists.proofs.RowLemmas.{named}
use Rattle.entry_lists.proofs.RowClaims.{row_words}

pub held_as_heard : (r : StationSettings) (grant : ℕ) (s : StationValue) (h : List Reading) (o : Option ℕ) → o ≡ s.claimer.held → StandsFor r grant s h → o ≡ address_heard r h
held_as_heard r grant s h o e st = e ∙ held_same r grant s h st

pub names_as_heard : (r : StationSettings) (grant : ℕ) (s : StationValue) (h : List Reading) (n : ℕ) → n ≡ length s.rows → StandsFor r grant s h → n ≡ length (names_heard h)
names_as_heard r grant s h n e st = e ∙ (sym (length-map s.rows named) ∙ ap (λ (l : List ℕ). length l) st.names)

pub name_as_heard : (r : StationSettings) (grant : ℕ) (s : StationValue) (h : List Reading) (place : ℕ) (o : Option ℕ)
    → o ≡ slice_get (map named s.rows) place → StandsFor r grant s h → o ≡ slice_get (names_heard h) place
name_as_heard r grant s h place o e st = e ∙ ap (λ (l : List ℕ). slice_get l place) st.names

pub row_as_heard : (r : StationSettings) (grant : ℕ) (s : StationValue) (h : List Reading) (name : ℕ) (o : Option Row)
    → o ≡ row_of s.owners name (kept_under s.rows name) → StandsFor r grant s h → option_map row_heard_as o ≡ row_heard r name h
row_as_heard r grant s h name o e st = ap (option_map row_heard_as) e ∙ (row_words s.owners name (kept_under s.rows name) ∙ st.rows name)

pub missed_as_heard : (r : StationSettings) (grant : ℕ) (s : StationValue) (h : List Reading) (n : ℕ) → n ≡ s.missed → StandsFor r grant s h → n ≡ missed_count h
missed_as_heard r grant s h n e st = e ∙ st.missed

pub unread_as_heard : (r : StationSettings) (grant : ℕ) (s : StationValue) (h : List Reading) (n : ℕ) → n ≡ s.unread → StandsFor r grant s h → n ≡ unread_count r h
unread_as_heard r grant s h n e st = e ∙ st.unread
