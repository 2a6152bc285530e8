use Rattle.std.proofs.Common.{◌∙◌, sym}
use Rattle.script_line.specs.Grammar.{command_form}
use Rattle.script_line.proofs.GrammarLemmas.{station_at, station_cut, station_none, station_not, station_some, word_is, word_none}
use Rattle.script_line.proofs.read.read_of_station.Goals.{in_default-via-in-Some+else-is_of_station, in_default-via-in_default}
use Rattle.script_line.proofs.read.read_of_station.Goals as goal

pub returns-in_err-next_word : goal.returns-in_err-next_word
returns-in_err-next_word c =
    rw c.from_residual-in_err-next_word.ensures (station_cut _ _ c.in_ok-station.station c.in_ok-station.ensures (word_none _ c.in_err-next_word.ensures.words.0))

pub returns-in-Some : goal.returns-in-Some
returns-in-Some c =
    let first = c.in_ok-next_word.field-0.now in
    station_some (command_form first) _ c.in_ok-station.station c.read_to_end.result c.in-Some.command c.read_to_end.ensures c.in-Some.is (sym c.is_of_station.ensures ∙ c.if-is_of_station.true)
    ∙ station_at _ _ _ c.in_ok-station.station first c.in_ok-station.ensures (word_is _ first _ c.in_ok-next_word.ensures.words)

pub returns-in_default : goal.returns-in_default
returns-in_default c = elim c.in_default.branch [
  | in_default-via-in-Some+else-is_of_station w ↦
      station_not (command_form c.in_ok-next_word.field-0.now) _ c.in_ok-station.station c.read_to_end.result w.in-Some.command c.read_to_end.ensures w.in-Some.is (sym w.is_of_station.ensures ∙ w.if-is_of_station.false)
      ∙ station_at _ _ _ c.in_ok-station.station c.in_ok-next_word.field-0.now c.in_ok-station.ensures (word_is _ c.in_ok-next_word.field-0.now _ c.in_ok-next_word.ensures.words)
  | in_default-via-in_default w ↦
      station_none (command_form c.in_ok-next_word.field-0.now) _ c.in_ok-station.station c.read_to_end.result c.read_to_end.ensures w.in_default.is
      ∙ station_at _ _ _ c.in_ok-station.station c.in_ok-next_word.field-0.now c.in_ok-station.ensures (word_is _ c.in_ok-next_word.field-0.now _ c.in_ok-next_word.ensures.words)
]
