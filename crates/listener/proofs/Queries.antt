-- What is read from the tables is what was overheard.
use Rattle.std.proofs.Common.{◌≡◌, ℕ, ◌<◌, List, Option, length, map, sym, ap, ◌∙◌}
use Rattle.std.specs.Prelude.{slice_get}
use Rattle.std.specs.Option.{option_map}
use Rattle.std.proofs.lemmas.List.{length-map}
use Rattle.can_frame.specs.declared.reading.Reading.{Reading}
use Rattle.bus_model.specs.Heard.{missed_count, names_heard, owner_heard}
use Rattle.bus_model.specs.Overheard.{gaps_heard, row_overheard, unread_overheard}
use Rattle.reassembly.specs.Tables.{at}
use Rattle.entry_lists.specs.KeptValue.{kept_under}
use Rattle.entry_lists.specs.KnownRows.{row_heard_as, row_of}
use Rattle.entry_lists.specs.declared.row.Row.{Row}
use Rattle.entry_lists.proofs.RowClaims.{row_words}
use Rattle.entry_lists.proofs.RowLemmas.{named}
use Rattle.listener.specs.ListenerValue.{HasOverheard, ListenerValue}

pub names_as_overheard : (l : ListenerValue) (h : List Reading) (n : ℕ) → n ≡ length l.rows → HasOverheard l h → n ≡ length (names_heard h)
names_as_overheard l h n e st = e ∙ (sym (length-map l.rows named) ∙ ap (λ (xs : List ℕ). length xs) st.names)

pub name_as_overheard : (l : ListenerValue) (h : List Reading) (place : ℕ) (o : Option ℕ) → o ≡ slice_get (map named l.rows) place → HasOverheard l h → o ≡ slice_get (names_heard h) place
name_as_overheard l h place o e st = e ∙ ap (λ (xs : List ℕ). slice_get xs place) st.names

pub row_as_overheard : (l : ListenerValue) (h : List Reading) (name : ℕ) (o : Option Row) → o ≡ row_of l.owners name (kept_under l.rows name) → HasOverheard l h → option_map row_heard_as o ≡ row_overheard name h
row_as_overheard l h name o e st = ap (option_map row_heard_as) e ∙ (row_words l.owners name (kept_under l.rows name) ∙ st.rows name)

pub missed_as_overheard : (l : ListenerValue) (h : List Reading) (n : ℕ) → n ≡ l.missed → HasOverheard l h → n ≡ missed_count h
missed_as_overheard l h n e st = e ∙ st.missed

pub unread_as_overheard : (l : ListenerValue) (h : List Reading) (n : ℕ) → n ≡ l.unread → HasOverheard l h → n ≡ unread_overheard h
unread_as_overheard l h n e st = e ∙ st.unread

pub owner_as_overheard : (l : ListenerValue) (h : List Reading) (a : ℕ) (o : Option ℕ) → a < 256 → o ≡ at l.owners a → HasOverheard l h → o ≡ owner_heard a h
owner_as_overheard l h a o below e st = e ∙ st.owners a below

pub gaps_as_overheard : (l : ListenerValue) (h : List Reading) (n : ℕ) → n ≡ l.gaps → HasOverheard l h → n ≡ gaps_heard h
gaps_as_overheard l h n e st = e ∙ st.gaps
