-- The listener's law, put to the lists that a watch shows.
use Rattle.std.proofs.Common.{◌≡◌, ℕ, List, reverse, ap, ◌∙◌}
use Rattle.dm_messages.specs.declared.kind.Kind.{Kind}
use Rattle.bus_model.specs.Expected.{Reception}
use Rattle.bus_model.specs.Heard.{StationSettings}
use Rattle.bus_model.specs.Machine.{AreFit, Event, Run, World, start}
use Rattle.bus_model.specs.Overheard.{EntrySent}
use Rattle.bus_model.specs.OverheardExpected.{IsPathOfListener, expected_overheard}
use Rattle.bus_model.specs.declared.who.Who.TheVariants.{Named}
use Rattle.listener.proofs.Exact.{entries_exact}
use Rattle.listener.specs.PathTold.{TellsPath}
use Rattle.bus_watch.specs.AsOverheard.{AsksForAll, entries_shown}
use Rattle.bus_watch.specs.Methods.{read_whole}
use Rattle.bus_watch.specs.Runs.{Moment, lists_shown, readings_in}
use Rattle.bus_watch.specs.declared.selection.Selection.{Selection}
use Rattle.bus_watch.proofs.AsOverheard.{shown_as_overheard}

pub shown_exact : (settings : List StationSettings) → AreFit settings → (events : List Event) (w : World) → Run (start settings) events w → (path : List Reception) → IsPathOfListener w.wire path → (s : Selection) → AsksForAll s → (h : List Moment) → TellsPath (readings_in h) path → (n : ℕ) (k : Kind)
    → read_whole (lists_shown s h (Named n) k) ≡ reverse (entries_shown s (Named n) (expected_overheard n k w.begun path))
shown_exact settings fit events w run path listens s all h told n k =
    shown_as_overheard s all h (Named n) k
    ∙ ap (λ (v : List EntrySent). reverse (entries_shown s (Named n) v)) (entries_exact settings fit events w run path listens (readings_in h) told n k)
