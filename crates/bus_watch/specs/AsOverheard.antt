-- What is shown where neither a unit nor a time is asked for: of what was overheard what goes to the address that is shown.
use Rattle.std.specs.Prelude.{◌≡◌, ℕ, Bool, ◌&&◌, List, [], ◌∷◌, None, if◌then◌else◌, reverse}
use Rattle.bus_model.specs.Overheard.{EntrySent, entries_overheard}
use Rattle.bus_model.specs.declared.who.Who.{Who}
use Rattle.dm_messages.specs.declared.kind.Kind.{Kind}
use Rattle.bus_watch.specs.Runs.{Moment, is_shown_of, is_shown_to, readings_in}
use Rattle.bus_watch.specs.declared.selection.Selection.{Selection}

-- neither a unit nor a time is asked for
pub record AsksForAll (s : Selection) : Type 0 where
  pub unit : s.unit ≡ None
  pub from : s.from ≡ None
  pub to : s.to ≡ None

-- whether messages of this unit to this address are shown
abbrev pub is_shown_between : Selection → Who → ℕ → Bool
is_shown_between s w to = is_shown_of s.unclaimed w && is_shown_to s.address to

-- the entries of a unit that are
abbrev pub entries_shown : Selection → Who → List EntrySent → List EntrySent
entries_shown s w [] = []
entries_shown s w (e ∷ entries) = if is_shown_between s w e.to then e ∷ entries_shown s w entries else entries_shown s w entries

-- those of a unit and kind that were overheard, oldest first
abbrev pub overheard_shown : Selection → List Moment → Who → Kind → List EntrySent
overheard_shown s h w k = reverse (entries_shown s w (entries_overheard w k (readings_in h)))
