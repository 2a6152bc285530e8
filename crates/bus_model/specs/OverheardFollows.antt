-- What follows from what one reading changes of what a listener shows: its rows, NAMEs, lists and counts, by those before it and the change.
use Rattle.std.specs.Prelude.{◌≡◌, ℕ, ◌+◌, Bool, true, false, ◌&&◌, ◌==◌, List, ◌∷◌, Option, Some, None, if◌then◌else◌}
use Rattle.dm_messages.specs.View.{same_kind}
use Rattle.dm_messages.specs.declared.kind.Kind.{Kind}
use Rattle.dm_messages.specs.declared.shown.Shown.{Shown}
use Rattle.bus_model.specs.Changed.{is_lost}
use Rattle.bus_model.specs.Heard.{RowHeard, ack_in_row, addressless, counted, row_with_ack, with_name}
use Rattle.bus_model.specs.Overheard.{EntrySent, same_who}
use Rattle.bus_model.specs.declared.overheard.Overheard.{Overheard}
use Rattle.bus_model.specs.declared.overheard.Overheard.TheVariants.{Claimed, GaveUp, Acknowledged, Listed, ListedInPart, Unreadable, Missed}
use Rattle.bus_model.specs.declared.who.Who.{Who}

-- a NAME's row
abbrev pub row_with : Overheard → ℕ → Option RowHeard → Option RowHeard
row_with (Claimed m a displaced) n row =
    if m == n then Some (record { address = Some a; ack = ack_in_row row })
    else (if is_lost displaced n then addressless row else row)
row_with (GaveUp m) n row = if m == n then Some (record { address = None; ack = ack_in_row row }) else row
row_with (Acknowledged m control pgn source requester to again) n row = if m == n then row_with_ack control pgn row else row
row_with (Missed count) n row = addressless row
row_with _ n row = row

-- the NAMEs that have a row
abbrev pub names_with : Overheard → List ℕ → List ℕ
names_with (Claimed m a displaced) names = with_name m names
names_with (GaveUp m) names = with_name m names
names_with _ names = names

-- the entries of a list, newest first: one more, which went to that address, or the same
abbrev pub HasSent : Bool → ℕ → List EntrySent → List EntrySent → Type 0
HasSent false to before after = after ≡ before
HasSent true to before after = (v : Shown) × (after ≡ record { to = to; shown = v } ∷ before)

-- those of a unit and kind
abbrev pub AreSentWith : Overheard → Who → Kind → List EntrySent → List EntrySent → Type 0
AreSentWith (Listed v l a to) w k before after = HasSent (same_who v w && same_kind l k) to before after
AreSentWith _ w k before after = after ≡ before

-- how many frames were missed, how many gaps there were, and how many messages could not be read whole
abbrev pub missed_with : Overheard → ℕ → ℕ
missed_with (Missed count) missed = counted (missed + count)
missed_with _ missed = missed

abbrev pub gaps_with : Overheard → ℕ → ℕ
gaps_with (Missed count) gaps = counted (gaps + 1)
gaps_with _ gaps = gaps

abbrev pub unread_with : Overheard → ℕ → ℕ
unread_with (ListedInPart w k a to) unread = counted (unread + 1)
unread_with (Unreadable w k a to why) unread = counted (unread + 1)
unread_with _ unread = unread
