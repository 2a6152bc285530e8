-- What a query of a script is answered: what the garage shows, at the station that the line names.
use Rattle.std.specs.Prelude.{ℕ, List, reverse, Option, Some, None, Result, Ok, Err, slice_get}
use Rattle.std.specs.Option.{option_map}
use Rattle.bus_ledger.specs.BusValue.{SeatValue}
use Rattle.bus_ledger.specs.Ledger.{counts_of}
use Rattle.bus_model.specs.Heard.{entries_heard}
use Rattle.entry_lists.specs.KeptValue.{kept_under}
use Rattle.entry_lists.specs.KnownRows.{row_of}
use Rattle.dm_messages.specs.declared.kind.Kind.{Kind}
use Rattle.journal.specs.Journal.{GarageValue, injected_of, readings_at, state_of}
use Rattle.journal.specs.State.{table_at}
use Rattle.journal.specs.Worlds.{station_of_at}
use Rattle.report.specs.Shown.{shown_text}
use Rattle.script_answer.specs.declared.answer.LineAnswer.{LineAnswer}
use Rattle.script_answer.specs.declared.answer.LineAnswer.TheVariants as answer
use Rattle.script_answer.specs.declared.refusal.Refusal.{Refusal}
use Rattle.script_answer.specs.declared.refusal.Refusal.TheVariants.{NoSeat}
use Rattle.script_line.specs.declared.command.Command.{Command}
use Rattle.script_line.specs.declared.command.Command.TheVariants as command

-- a seat that was never given has no counts
abbrev pub counts_answer : Option SeatValue → Result LineAnswer Refusal
counts_answer None = Err NoSeat
counts_answer (Some seat) = Ok (answer.Counts (counts_of seat))

-- what a query is answered that asks for one thing; nothing of any other command
abbrev pub query_answer : GarageValue → ℕ → Command → Option (Result LineAnswer Refusal)
query_answer g y (command.Row (Ok name)) = Some (Ok (answer.Row (row_of (table_at (state_of g) y).owners name (kept_under (table_at (state_of g) y).rows name))))
query_answer g y (command.Counts seat) = Some (counts_answer (slice_get (state_of g).traffic.seats seat))
query_answer g y command.Stats = Some (Ok (answer.Stats (table_at (state_of g) y).missed (table_at (state_of g) y).unread))
query_answer g y command.Injected = Some (Ok (answer.Injected (injected_of g.journal)))
query_answer g y (command.Frame index) = Some (Ok (answer.Frame (option_map (λ c. c.frame) (slice_get (state_of g).traffic.wire index))))
query_answer g y _ = None

-- the text of what is shown: the list that this station heard under the NAME, of this kind
abbrev pub list_shown_at : GarageValue → ℕ → ℕ → Kind → List ℕ
list_shown_at g y name kind = shown_text (reverse (entries_heard (station_of_at g.settings y) name kind (readings_at y g.journal)))
