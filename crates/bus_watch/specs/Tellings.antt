-- What is told of a line: of what its reading changed, and where that is news.
use Rattle.std.specs.Prelude.{ℕ, Bool, true, false, not, ◌&&◌, ◌||◌, ◌==◌, List, [], ◌∷◌, Option, Some, None, if◌then◌else◌, replicate, slice_index_or, slice_set}
use Rattle.bus_model.specs.OverheardChanged.{change_overheard}
use Rattle.bus_model.specs.declared.overheard.Overheard.{Overheard}
use Rattle.bus_model.specs.declared.overheard.Overheard.TheVariants as heard
use Rattle.bus_model.specs.declared.change.Displaced.{Displaced}
use Rattle.bus_model.specs.declared.who.Who.{Who}
use Rattle.bus_model.specs.declared.who.Who.TheVariants.{Named, Unclaimed}
use Rattle.dm_messages.specs.declared.kind.Kind.{Kind}
use Rattle.bus_watch.specs.Runs.{ListsValue, Moment, is_of_unit, is_shown_at, is_shown_of, readings_in, run_begun_by}
use Rattle.bus_watch.specs.declared.change.WatchChange.{WatchChange}
use Rattle.bus_watch.specs.declared.change.WatchChange.TheVariants.{At, NoAddress, Entry, Missed, Unowned, Ack, Unread}
use Rattle.bus_watch.specs.declared.change.Changes.{Changes}
use Rattle.bus_watch.specs.declared.selection.Selection.{Selection}
use Rattle.bus_watch.specs.declared.selection.UnitShown.{UnitShown}
use Rattle.bus_watch.specs.declared.selection.UnitShown.TheVariants.{Name, Address}

-- the NAME that lost its address to another one, if one did
abbrev pub who_lost : Option Displaced → Option ℕ
who_lost None = None
who_lost (Some d) = if d.lost then Some d.name else None

abbrev pub nothing_told : Changes
nothing_told = record { lost = None; change = None }

abbrev pub one_told : WatchChange → Changes
one_told c = record { lost = None; change = Some c }

-- an entry of a unit; or, where those of addresses that nobody has claimed are not shown, that a message came from such a one
abbrev pub entry_of_who : Bool → Who → Kind → ℕ → WatchChange
entry_of_who unclaimed who kind source = if is_shown_of unclaimed who then Entry who kind else Unowned source

-- what is told of a change, where entries of addresses that nobody has claimed are shown or not
abbrev pub telling_of : Bool → Overheard → Changes
telling_of unclaimed heard.Nothing = nothing_told
telling_of unclaimed (heard.Claimed name address displaced) = record { lost = who_lost displaced; change = Some (At name address) }
telling_of unclaimed (heard.GaveUp name) = one_told (NoAddress name)
telling_of unclaimed (heard.Acknowledged name control pgn source requester to again) = one_told (Ack name control pgn requester)
telling_of unclaimed (heard.Listed who kind source to) = one_told (entry_of_who unclaimed who kind source)
telling_of unclaimed (heard.ListedInPart who kind source to) = one_told (entry_of_who unclaimed who kind source)
telling_of unclaimed (heard.Unreadable who kind source to why) = one_told (Unread who kind to why)
telling_of unclaimed (heard.Unowned kind source) = one_told (Unowned source)
telling_of unclaimed (heard.Missed count) = one_told (Missed count)

-- and that where it is news
abbrev pub told_of : Bool → Bool → Overheard → Changes
told_of unclaimed is_news c = if is_news then telling_of unclaimed c else nothing_told

-- ---- of what it is told

-- a NAME that lost the address, if one did, is the unit that is asked for, or that address is
abbrev pub is_of_loser : Option UnitShown → Option Displaced → ℕ → Bool
is_of_loser u None address = false
is_of_loser u (Some d) address = d.lost && is_of_unit u (Named d.name) address

-- that a NAME cannot claim an address is told of that NAME, and of each address
abbrev pub is_of_giver : Option UnitShown → ℕ → Bool
is_of_giver (Some (Name n)) name = n == name
is_of_giver _ name = true

-- that something came from an address that nobody has claimed is told of that address
abbrev pub is_of_source : Option UnitShown → ℕ → Bool
is_of_source None source = true
is_of_source (Some (Name n)) source = false
is_of_source (Some (Address a)) source = source == a

-- a change is of the unit that is asked for, if one is; missed frames are of each
abbrev pub is_change_of : Option UnitShown → Overheard → Bool
is_change_of u (heard.Claimed name address displaced) = is_of_unit u (Named name) address || is_of_loser u displaced address
is_change_of u (heard.GaveUp name) = is_of_giver u name
is_change_of u (heard.Acknowledged name control pgn source requester to again) = is_of_unit u (Named name) source
is_change_of u (heard.Listed who kind source to) = is_of_unit u who source
is_change_of u (heard.ListedInPart who kind source to) = is_of_unit u who source
is_change_of u (heard.Unreadable who kind source to why) = is_of_unit u who source
is_change_of u (heard.Unowned kind source) = is_of_source u source
is_change_of u _ = true

-- it is told of a change at a time that is asked for, of that unit
abbrev pub is_told : Selection → Option ℕ → Overheard → Bool
is_told s time c = is_shown_at s.from s.to time && is_change_of s.unit c

-- that a message came from an address without owner is told once, until somebody claims it or frames are missed
unfoldable pub none_told : List Bool
none_told = replicate 256 false

abbrev pub told_of_source : Who → ℕ → List Bool → List Bool
told_of_source (Named n) source told = told
told_of_source (Unclaimed a gaps) source told = slice_set told source true

-- of which addresses it was told, after a change of which it is told
abbrev pub told_with : Overheard → List Bool → List Bool
told_with (heard.Unowned kind source) told = slice_set told source true
told_with (heard.Listed who kind source to) told = told_of_source who source told
told_with (heard.ListedInPart who kind source to) told = told_of_source who source told
told_with _ told = told

-- after a change of which it is told or not
abbrev pub told_after : Bool → Overheard → List Bool → List Bool
told_after is_told (heard.Claimed name address displaced) told = slice_set told address false
told_after is_told (heard.Missed count) told = none_told
told_after is_told c told = if is_told then told_with c told else told

-- and after all that was heard of the readings, newest first
abbrev pub told_heard : Selection → List Moment → List Bool
told_heard s [] = none_told
told_heard s (m ∷ older) =
    told_after (is_told s m.time (change_overheard m.reading (readings_in older))) (change_overheard m.reading (readings_in older)) (told_heard s older)

-- an acknowledgment is shown that names this address or goes to it, where there is one; else all are
abbrev pub is_ack_shown : Option ℕ → ℕ → ℕ → Bool
is_ack_shown None requester to = true
is_ack_shown (Some address) requester to = requester == address || to == address

-- an entry is news where it begins a run of its unit's list; where it is not shown, since nobody has claimed its address, where of that it was
-- not told
abbrev pub is_entry_news : List Bool → Bool → Bool → Who → ℕ → Bool
is_entry_news told unclaimed began who source = if is_shown_of unclaimed who then began else not (slice_index_or told source false)

-- whether a change of which it is told is news: such an entry, an acknowledgment that is another one than the last and is shown, a message
-- from an address without owner of which that was not told, where it will not be shown; all else is
abbrev pub is_new : List Bool → Selection → Bool → Overheard → Bool
is_new told s began (heard.Listed who kind source to) = is_entry_news told s.unclaimed began who source
is_new told s began (heard.ListedInPart who kind source to) = is_entry_news told s.unclaimed began who source
is_new told s began (heard.Acknowledged name control pgn source requester to again) = not again && is_ack_shown s.address requester to
is_new told s began (heard.Unowned kind source) = not s.unclaimed && not (slice_index_or told source false)
is_new told s began _ = true

abbrev pub news_by : List Bool → Selection → Option ℕ → Bool → Overheard → Bool
news_by told s time began c = is_told s time c && is_new told s began c

-- whether a run of the list of which a change tells has begun
abbrev pub has_run_begun : ListsValue → ListsValue → Overheard → Bool
has_run_begun before after (heard.Listed who kind source to) = run_begun_by before after who kind
has_run_begun before after (heard.ListedInPart who kind source to) = run_begun_by before after who kind
has_run_begun before after _ = false

abbrev pub is_news : List Bool → ListsValue → ListsValue → Overheard → Bool
is_news told before after c = news_by told before.selection after.time (has_run_begun before after c) c
