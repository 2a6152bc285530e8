-- Who stands in the watches of a page, and how.
use Rattle.std.specs.Prelude.{◌≡◌, ℕ, ◌+◌, ◌-◌, ◌*◌, ◌^◌, ◌<◌, min, Bool, ◌||◌, if◌then◌else◌, is_some, zero, suc, List, [], ◌∷◌, Option, Some, None, get_or, length, map, nat_lt, slice_get}
use Rattle.bus_model.specs.Heard.{counted, missed_count, names_heard, address_in_row}
use Rattle.bus_model.specs.Overheard.{row_overheard}
use Rattle.bus_model.specs.declared.who.Who.{Who}
use Rattle.bus_model.specs.declared.who.Who.TheVariants as who
use Rattle.bus_watch.specs.Runs.{entries_came, runs_by, units_shown}
use Rattle.bus_watch.specs.Told.{Beginning, StandsForAll, Told, all_said, readings_said}
use Rattle.bus_watch.specs.Identified.{first_unit}
use Rattle.bus_watch.specs.declared.buses.BusWatch.{BusWatch}
use Rattle.bus_watch.specs.declared.run.EntryRun.{EntryRun}
use Rattle.bus_watch.specs.declared.text_list.UnitText.{UnitText}
use Rattle.dm_messages.specs.declared.kind.Kind.{Kind}
use Rattle.dm_messages.specs.declared.kind.Kind.TheVariants.{Dm1, Dm2, Dm6}
use Rattle.picture.specs.EverInLogs.{silence_in, worst_in}
use Rattle.picture.specs.Lanes.{DrawnLane, lane_in}
use Rattle.picture.specs.Pictures.{PictureValue}
use Rattle.picture.specs.Severities.{may_show, worst_shown}
use Rattle.picture.specs.declared.ever_in_log.EverInLog.{EverInLog}
use Rattle.picture.specs.declared.lane.Holding.TheVariants as holding
use Rattle.picture.specs.declared.lane.Holding.{Holding}
use Rattle.picture.specs.declared.unit.DrawnUnit.{DrawnUnit}
use Rattle.picture.specs.declared.unit.Sender.{Sender}
use Rattle.picture.specs.declared.unit.Sender.TheVariants as sender
use Rattle.watch_page.specs.Listing.{Lists}
use Rattle.watch_page.specs.declared.standing.Standing.{Standing}
use Rattle.watch_page.specs.declared.unit_list.Listed.{Listed}
use Rattle.watch_page.specs.declared.unit_list.Presence.{Presence}
use Rattle.watch_page.specs.declared.unit_list.Presence.TheVariants as presence

-- how the watch of a bus began, and what it was told
pub record Heard : Type 0 where
  pub began : Beginning
  pub told : List Told

abbrev pub WatchHeard : Heard → BusWatch → Type 0
WatchHeard h one = StandsForAll h.began h.told one.watch

-- whom a watch has there
abbrev pub who_by : Sender → Who
who_by (sender.Named n) = who.Named n
who_by (sender.Unclaimed address gaps) = who.Unclaimed address gaps

abbrev pub runs_told : Heard → Who → Kind → List EntryRun
runs_told h w k = runs_by (entries_came h.began.selection h.began.contests (all_said h.began h.told).moments w k)

-- ---- how bad it is what a unit tells at the end

abbrev pub run_rank : Option EntryRun → ℕ
run_rank None = 0
run_rank (Some run) = worst_shown (may_show run.shown.lamps (length run.shown.codes) (is_some run.trouble))

abbrev pub newest_told : EverInLog → Heard → DrawnUnit → Option EntryRun
newest_told ever h u =
    if is_some (silence_in ever u) then None else (let runs = runs_told h (who_by u.sender) Dm1 in slice_get runs (length runs - 1))

-- ---- whether it is on the bus

abbrev pub unclaimed_presence : Option DrawnLane → Presence
unclaimed_presence None = presence.On
unclaimed_presence (Some lane) = if lane.is_past then presence.Past else presence.On

abbrev pub presence_held : Holding → Presence
presence_held holding.Unknown = presence.Unknown
presence_held _ = presence.Gone

abbrev pub presence_without : Option DrawnLane → ℕ → Presence
presence_without (Some lane) missed = presence_held lane.holding
presence_without None missed = if nat_lt 0 missed then presence.Unknown else presence.Gone

abbrev pub named_presence : Bool → Option DrawnLane → ℕ → Presence
named_presence holds lane missed = if holds then presence.On else presence_without lane missed

abbrev pub presence_told : List DrawnLane → Heard → DrawnUnit → Presence
presence_told lanes h u = presence_by u.sender (lane_in lanes u)
  where
    presence_by : Sender → Option DrawnLane → Presence
    presence_by (sender.Named n) lane =
        named_presence (is_some (address_in_row (row_overheard n (readings_said h.began h.told)))) lane (counted (h.began.before.missed + missed_count (readings_said h.began h.told)))
    presence_by (sender.Unclaimed address gaps) lane = unclaimed_presence lane

-- ---- in which order it stands: the worst at any time first; of equal ones the worst on the bus at the end first, and those that are gone last

abbrev pub steps_now : Presence → ℕ → ℕ
steps_now presence.Gone rank = 7
steps_now presence.Past rank = 7
steps_now _ rank = 6 - rank

abbrev pub order_by : ℕ → Presence → ℕ → ℕ
order_by worst p rank = (6 - worst) * 8 + steps_now p rank

abbrev pub listed_as : EverInLog → List DrawnLane → Heard → DrawnUnit → Listed
listed_as ever lanes h u =
    record { order = order_by (worst_in ever u) (presence_told lanes h u) (run_rank (newest_told ever h u)); unit = u; presence = presence_told lanes h u }

-- ---- who has a place, the newest first, behind those before

abbrev pub with_sender : ℕ → Option Sender → List DrawnUnit → List DrawnUnit
with_sender bus None before = before
with_sender bus (Some s) before = record { bus = bus; sender = s } ∷ before

-- who stands at the first places
abbrev pub with_places : (ℕ → Option Sender) → ℕ → ℕ → List DrawnUnit → List DrawnUnit
with_places at bus zero before = before
with_places at bus (suc place) before = with_sender bus (at place) (with_places at bus place before)

-- a NAME; an address that nobody had claimed; one that told nothing but an identification
abbrev pub named : Option ℕ → Option Sender
named None = None
named (Some n) = Some (sender.Named n)

abbrev pub unclaimed : Option Who → Option Sender
unclaimed (Some (who.Unclaimed address gaps)) = Some (sender.Unclaimed address gaps)
unclaimed _ = None

abbrev pub tells : Heard → Who → Bool
tells h w = nat_lt 0 (length (runs_told h w Dm1)) || (nat_lt 0 (length (runs_told h w Dm2)) || nat_lt 0 (length (runs_told h w Dm6)))

abbrev pub unless_told : Heard → Option Who → Option Who
unless_told h None = None
unless_told h (Some w) = if tells h w then None else Some w

-- of a bus: each NAME that claimed an address, who sent what is shown without a claim, and who told an identification alone
abbrev pub units_on : ℕ → Heard → List UnitText → List DrawnUnit → List DrawnUnit
units_on bus h texts before =
    let names = names_heard (readings_said h.began h.told) in
    let units = units_shown h.began.selection (all_said h.began h.told).moments in
    with_places (λ k. unclaimed (unless_told h (first_unit k (slice_get texts k) texts))) bus (length texts)
    (with_places (λ k. unclaimed (slice_get units k)) bus (length units) (with_places (λ k. named (slice_get names k)) bus (length names) before))

-- of the first so many buses
abbrev pub units_beside : ℕ → Heard → Option BusWatch → List DrawnUnit → List DrawnUnit
units_beside bus h None before = before
units_beside bus h (Some one) before = units_on bus h one.watch.identified.kept before

abbrev pub units_told : (ℕ → Heard) → List BusWatch → ℕ → List DrawnUnit
units_told heard buses zero = []
units_told heard buses (suc bus) = units_beside bus (heard bus) (slice_get buses bus) (units_told heard buses bus)

-- how it stands, with these units, the newest first
pub record UnitsStand (so : DrawnUnit → Listed) (units : List DrawnUnit) (s : Standing) : Type 0 where
  pub lists : Lists so units s.list
  pub all : s.all ≡ counted (length units)
