-- What the records that C reads of a listener say.
use Rattle.std.specs.Prelude.{◌≡◌, ◌==◌, ℕ, List, ◌∷◌, Option, Some, None, if◌then◌else◌, length, min, slice_get}
use Rattle.std.specs.Option.{option_map}
use Rattle.bus_model.specs.declared.change.Displaced.{Displaced}
use Rattle.bus_model.specs.declared.overheard.Overheard.{Overheard}
use Rattle.bus_model.specs.declared.overheard.Overheard.TheVariants.{Nothing, Claimed, GaveUp, Acknowledged, Listed, ListedInPart, Unreadable, Unowned, Missed}
use Rattle.bus_model.specs.declared.who.Who.{Who}
use Rattle.bus_model.specs.declared.who.Who.TheVariants.{Named, Unclaimed}
use Rattle.dm_messages.specs.Refusals.{read_error_number}
use Rattle.dm_messages.specs.declared.trouble.Trouble.{Trouble}
use Rattle.listener.specs.ReadEntries.{EntryRead}
use Rattle.listener.specs.declared.broken.BrokenBy.{BrokenBy}
use Rattle.listener.specs.declared.broken.BrokenBy.TheVariants.{Late, Packet, Length, Differs, Abort, Anew, Claim}
use Rattle.listener.specs.declared.broken.BrokenMessage.{BrokenMessage}
use Rattle.station_c.specs.Records.{code_of, flag, kind_told}
use Rattle.station_c.specs.declared.heard_records.HeardRecord.{HeardRecord}
use Rattle.station_c.specs.declared.heard_records.SentRecord.{SentRecord}
use Rattle.station_c.specs.declared.heard_records.WhoRecord.{WhoRecord}
use Rattle.station_c.specs.declared.records.CodeRecord.{CodeRecord}

-- the unit in a record
abbrev pub who_recorded : WhoRecord → Who
who_recorded r = if r.has_name == 0 then Unclaimed r.address r.gaps else Named r.name

-- what is told of a unit: a NAME, or an address and the gaps before
abbrev pub nobody_told : WhoRecord
nobody_told = record { name = 0; gaps = 0; has_name = 0; address = 0 }

abbrev pub who_told : Who → WhoRecord
who_told (Named n) = record nobody_told { name = n; has_name = 1 }
who_told (Unclaimed a gaps) = record nobody_told { gaps = gaps; address = a }

-- that nothing changed
abbrev pub nothing_heard : HeardRecord
nothing_heard = record {
  who = nobody_told;
  displaced = 0;
  pgn = 0;
  count = 0;
  what = 0;
  kind = 0;
  source = 0;
  to = 0;
  why = 0;
  control = 0;
  requester = 0;
  again = 0;
  has_displaced = 0;
  lost = 0;
  read = 0;
  of = 0;
  number = 0;
  reason = 0;
  by = 0;
  broken = 0;
}

-- the NAME whose address another one claimed, and whether it lost it
abbrev pub with_displaced : Option Displaced → HeardRecord → HeardRecord
with_displaced None told = told
with_displaced (Some d) told = record told { has_displaced = 1; displaced = d.name; lost = flag d.lost }

-- what is told of what was heard: each field that is not named is 0
abbrev pub heard_told : Overheard → HeardRecord
heard_told Nothing = nothing_heard
heard_told (Claimed n a displaced) = with_displaced displaced (record nothing_heard { what = 1; who = who_told (Named n); source = a })
heard_told (GaveUp n) = record nothing_heard { what = 2; who = who_told (Named n) }
heard_told (Acknowledged n control pgn source requester to again) = record nothing_heard {
  what = 3;
  who = who_told (Named n);
  control = control;
  pgn = pgn;
  source = source;
  requester = requester;
  to = to;
  again = flag again;
}
heard_told (Listed who kind source to) = record nothing_heard { what = 4; who = who_told who; kind = kind_told kind; source = source; to = to }
heard_told (ListedInPart who kind source to) =
    record nothing_heard { what = 4; who = who_told who; kind = kind_told kind; source = source; to = to; why = 18 }
heard_told (Unreadable who kind source to why) =
    record nothing_heard { what = 5; who = who_told who; kind = kind_told kind; source = source; to = to; why = read_error_number why }
heard_told (Unowned kind source) = record nothing_heard { what = 6; kind = kind_told kind; source = source }
heard_told (Missed count) = record nothing_heard { what = 7; count = count }

-- why a message broke
abbrev pub reason_told : BrokenBy → HeardRecord
reason_told Late = record nothing_heard { why = 1 }
reason_told (Packet number next) = record nothing_heard { why = 2; number = number }
reason_told (Length number) = record nothing_heard { why = 3; number = number }
reason_told (Differs number) = record nothing_heard { why = 4; number = number }
reason_told (Abort reason by) = record nothing_heard { why = 5; reason = reason; by = by }
reason_told Anew = record nothing_heard { why = 6 }
reason_told Claim = record nothing_heard { why = 7 }

-- that it did
abbrev pub broken_told : BrokenMessage → HeardRecord
broken_told b = record (reason_told b.why) {
  what = 8;
  who = who_told b.who;
  kind = kind_told b.kind;
  source = b.source;
  to = b.to;
  read = b.read;
  of = b.of;
}

-- and how many did, up to 255
abbrev pub with_broken : List BrokenMessage → HeardRecord → HeardRecord
with_broken messages told = record told { broken = min (length messages) 255 }

-- the first message that broke is told where nothing else changed
abbrev pub first_told : Overheard → List BrokenMessage → HeardRecord
first_told Nothing (b ∷ messages) = broken_told b
first_told heard messages = heard_told heard

-- a record tells of this
abbrev pub TellsHeard : HeardRecord → Overheard → List BrokenMessage → Type 0
TellsHeard told heard messages = told ≡ with_broken messages (first_told heard messages)

-- what is told of the message at a place of those that broke
abbrev pub broken_told_at : List BrokenMessage → ℕ → Option HeardRecord
broken_told_at messages place = option_map (λ b. with_broken messages (broken_told b)) (slice_get messages place)

-- what of an entry is not read
abbrev pub with_trouble : Option Trouble → SentRecord → SentRecord
with_trouble None told = told
with_trouble (Some t) told =
    record told { in_part = 1; padding = t.padding; zeros = t.no_code; older = t.older; bytes_behind = t.behind; bytes_missing = t.missing }

-- what is told of an entry: where it went, its lamps, how many codes can be read, and what of it cannot
abbrev pub sent_record : EntryRead → SentRecord
sent_record e = with_trouble e.trouble (record {
  lamps = e.shown.lamps.lamps;
  flashes = e.shown.lamps.flashes;
  to = e.to;
  in_part = 0;
  padding = 0;
  zeros = 0;
  older = 0;
  bytes_behind = 0;
  bytes_missing = 0;
  codes = length e.shown.codes;
})

-- what is told of the entry at a place of a list, if there is one
abbrev pub sent_told : List EntryRead → ℕ → Option SentRecord
sent_told entries place = option_map sent_record (slice_get entries place)

-- what is told of the code at a place of the entry at a place of a list
abbrev pub sent_code_told : List EntryRead → ℕ → ℕ → Option CodeRecord
sent_code_told entries entry place = code_of (option_map (λ e. e.shown) (slice_get entries entry)) place
