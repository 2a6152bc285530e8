-- The lines of a snapshot.
use Rattle.std.proofs.Common.{◌≡◌, ℕ, ◌+◌, ◌<◌, List, [], ◌∷◌, ◌++◌, Option, Some, None, arith, length, map, take, get_or, sym, ap, ◌∙◌}
use Rattle.std.proofs.lemmas.List.{map-append, take_more}
use Rattle.std.proofs.lemmas.Option.{slice_get-get_or, slice_get_within}
use Rattle.std.specs.Prelude.{slice_get}
use Rattle.std.specs.Option.{option_map}
use Rattle.bus_model.specs.Heard.{RowHeard, names_heard, address_in_row}
use Rattle.entry_lists.specs.KnownRows.{row_heard_as}
use Rattle.entry_lists.specs.declared.row.Row.{Row}
use Rattle.station_table.proofs.Queries.{name_as_heard, names_as_heard}
use Rattle.journal.specs.Journal.{GarageValue, readings_at}
use Rattle.journal.specs.State.{setting_at}
use Rattle.journal.specs.Worlds.{station_of_at}
use Rattle.garage.specs.Inside.{garage_value_of, Stands}
use Rattle.garage.specs.Snapshots.{line_at}
use Rattle.garage.specs.declared.garage.Garage.TheInside.{Inside}
use Rattle.garage.specs.declared.garage.Post.{Post}
use Rattle.garage.specs.declared.snapshot.RowLine.{RowLine}
use Rattle.garage.proofs.Headline.{kept_tables}

pub names_heard_of : (a : Inside) (v : GarageValue) (y n : ℕ) (x : Post) → garage_value_of a ≡ v → Stands a → y < length v.settings.stations → x ≡ get_or a.posts.items y x → n ≡ length x.station.rows → n ≡ length (names_heard (readings_at y v.journal))
names_heard_of a v y n x is stands h read e =
    names_as_heard (station_of_at v.settings y) (setting_at v.settings y).grant x.station (readings_at y v.journal) n e (kept_tables a v y x is stands h read)

pub name_heard_at : (a : Inside) (v : GarageValue) (y place : ℕ) (x : Post) (o : Option ℕ) → garage_value_of a ≡ v → Stands a → y < length v.settings.stations → x ≡ get_or a.posts.items y x → o ≡ slice_get (map (λ e. e.0) x.station.rows) place
    → o ≡ slice_get (names_heard (readings_at y v.journal)) place
name_heard_at a v y place x o is stands h read e =
    name_as_heard (station_of_at v.settings y) (setting_at v.settings y).grant x.station (readings_at y v.journal) place o e (kept_tables a v y x is stands h read)

-- a row's address is the one that was heard
pub row_address_heard : (row : Row) (h : Option RowHeard) → option_map row_heard_as (Some row) ≡ h → row.address ≡ address_in_row h
row_address_heard row h e = ap address_in_row e

pub no_address : (h : Option RowHeard) → None ≡ h → None ≡ address_in_row h
no_address h e = ap address_in_row e

some_same : {A : Type 0} (x y : A) → Some x ≡ Some y → x ≡ y
some_same x y e = cc

take_one_more : (xs : List ℕ) (i x : ℕ) → slice_get xs i ≡ Some x → take (i + 1) xs ≡ take i xs ++ x ∷ []
take_one_more xs i x e =
    let same : get_or xs i x ≡ x = some_same _ _ (sym (slice_get-get_or xs i x (slice_get_within xs i x e)) ∙ e) in
    take_more xs i x (slice_get_within xs i x e) ∙ ap (λ y. take i xs ++ y ∷ []) same

-- one NAME more, one line more
pub line_more : (g : GarageValue) (y : ℕ) (names : List ℕ) (i n : ℕ) (rows new : List RowLine) → slice_get names i ≡ Some n → rows ≡ map (line_at g y) (take i names)
    → new ≡ rows ++ line_at g y n ∷ [] → new ≡ map (line_at g y) (take (i + 1) names)
line_more g y names i n rows new at before e =
    e ∙ (ap (λ l. l ++ line_at g y n ∷ []) before ∙ (sym (map-append (line_at g y) (take i names) (n ∷ [])) ∙ ap (map (line_at g y)) (sym (take_one_more names i n at))))

-- within the list there is a NAME
pub name_is_there : {P : Type 0} (names : List ℕ) (i n : ℕ) → i < n → n ≡ length names → None ≡ slice_get names i → P
name_is_there names i n l e none = absurd (cc (none, slice_get-get_or names i 0 (omega (arith, l, e))))
