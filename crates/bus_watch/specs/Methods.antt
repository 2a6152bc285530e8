-- The conversion methods that are known of units, and what is shown of an entry by them.
use Rattle.std.specs.Prelude.{ℕ, ◌==◌, List, [], ◌∷◌, ◌++◌, ◌&&◌, Option, Some, None, if◌then◌else◌}
use Rattle.bus_model.specs.Overheard.{EntrySent, same_who}
use Rattle.bus_model.specs.declared.who.Who.{Who}
use Rattle.bus_model.specs.declared.who.Who.TheVariants as who
use Rattle.dm_messages.specs.Tolerant.{shown_by_method, trouble_of}
use Rattle.dm_messages.specs.View.{same_kind}
use Rattle.dm_messages.specs.declared.kind.Kind.{Kind}
use Rattle.dm_messages.specs.declared.method.ConversionMethod.{ConversionMethod}
use Rattle.dm_messages.specs.declared.shown.Shown.{Shown}
use Rattle.dm_messages.specs.declared.tolerant.MessageRead.{MessageRead}
use Rattle.dm_messages.specs.declared.tolerant.MessageRead.TheVariants.{Whole, InPart}
use Rattle.dm_messages.specs.declared.trouble.Trouble.{Trouble}
use Rattle.listener.specs.declared.entry.SentEntry.{SentEntry}
use Rattle.bus_watch.specs.declared.methods.UnitMethod.{UnitMethod}
use Rattle.bus_watch.specs.declared.shown_entry.ShownEntry.{ShownEntry}

abbrev pub method_if : Option UnitMethod → ℕ → Option ConversionMethod
method_if None n = None
method_if (Some u) n = if u.name == n then Some u.method else None

abbrev pub first_method : Option ConversionMethod → Option ConversionMethod → Option ConversionMethod
first_method (Some method) others = Some method
first_method None others = others

-- the first that is of the unit of this NAME
abbrev pub method_in : List (Option UnitMethod) → ℕ → Option ConversionMethod
method_in [] n = None
method_in (u ∷ units) n = first_method (method_if u n) (method_in units n)

abbrev pub method_of : List (Option UnitMethod) → Who → Option ConversionMethod
method_of units (who.Named n) = method_in units n
method_of units (who.Unclaimed a gaps) = None

-- what is shown of a message that went to this address: all of it, or what can be read, and what of it is not
abbrev pub shown_entry : Option ConversionMethod → ℕ → MessageRead → ShownEntry
shown_entry method to (Whole v) = record { to = to; shown = v; trouble = None }
shown_entry method to (InPart t) = record { to = to; shown = shown_by_method method t; trouble = Some (trouble_of method t) }

-- of an entry, by the method of its unit
abbrev pub entry_by_method : List (Option UnitMethod) → SentEntry → ShownEntry
entry_by_method units e = shown_entry (method_of units e.who) e.to e.read

-- lists with an entry at the end of its own, if there is one
abbrev pub with_entry_shown : List (Option UnitMethod) → Option SentEntry → (Who → Kind → List ShownEntry) → Who → Kind → List ShownEntry
with_entry_shown units None lists w k = lists w k
with_entry_shown units (Some e) lists w k =
    if same_who e.who w && same_kind e.kind k then lists w k ++ entry_by_method units e ∷ [] else lists w k

-- ---- what was read whole

abbrev pub put_if_whole : ℕ → Shown → Option Trouble → List EntrySent → List EntrySent
put_if_whole to v None entries = record { to = to; shown = v } ∷ entries
put_if_whole to v (Some t) entries = entries

-- of a list the entries that were read whole
abbrev pub read_whole : List ShownEntry → List EntrySent
read_whole [] = []
read_whole (e ∷ entries) = put_if_whole e.to e.shown e.trouble (read_whole entries)
