-- Each list with what is shown of its entries, also of those that were read in part.
use Rattle.std.specs.Prelude.{ℕ, ◌&&◌, List, [], ◌∷◌, ◌++◌, Option, Some, None, if◌then◌else◌, is_some}
use Rattle.bus_model.specs.Overheard.{EntrySent, same_who}
use Rattle.bus_model.specs.declared.who.Who.{Who}
use Rattle.can_frame.specs.declared.reading.Reading.{Reading}
use Rattle.dm_messages.specs.Tolerant.{shown_by_method, trouble_of}
use Rattle.dm_messages.specs.View.{same_kind}
use Rattle.dm_messages.specs.declared.kind.Kind.{Kind}
use Rattle.dm_messages.specs.declared.shown.Shown.{Shown}
use Rattle.dm_messages.specs.declared.tolerant.MessageRead.{MessageRead}
use Rattle.dm_messages.specs.declared.tolerant.MessageRead.TheVariants.{Whole, InPart}
use Rattle.dm_messages.specs.declared.trouble.Trouble.{Trouble}
use Rattle.listener.specs.SentEntries.{entry_sent}
use Rattle.listener.specs.declared.entry.SentEntry.{SentEntry}

-- an entry: where it went, 255 for all, its lamps and the codes that can be read, and what of it is not, where it was read in part
pub record EntryRead : Type 0 where
  pub to : ℕ
  pub shown : Shown
  pub trouble : Option Trouble

abbrev pub entry_read_of : ℕ → MessageRead → EntryRead
entry_read_of to (Whole shown) = record { to = to; shown = shown; trouble = None }
entry_read_of to (InPart part) = record { to = to; shown = shown_by_method None part; trouble = Some (trouble_of None part) }

-- lists with one more at the end of its own, if there is one
abbrev pub with_entry_read : Option SentEntry → (Who → Kind → List EntryRead) → Who → Kind → List EntryRead
with_entry_read None lists w k = lists w k
with_entry_read (Some e) lists w k =
    if same_who e.who w && same_kind e.kind k then lists w k ++ entry_read_of e.to e.read ∷ [] else lists w k

-- each list of what was overheard, oldest first
abbrev pub lists_read : List Reading → Who → Kind → List EntryRead
lists_read [] w k = []
lists_read (x ∷ older) w k = with_entry_read (entry_sent x older) (lists_read older) w k

-- those of a list that were read whole
abbrev pub whole_among : List EntryRead → List EntrySent
whole_among [] = []
whole_among (e ∷ entries) = if is_some e.trouble then whole_among entries else record { to = e.to; shown = e.shown } ∷ whole_among entries
