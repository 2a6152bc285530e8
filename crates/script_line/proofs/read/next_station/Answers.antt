use Rattle.std.proofs.Common.{rules}
use Rattle.script_line.specs.Grammar.{station_words}
use Rattle.script_line.proofs.read.next_station.Goals as goal

pub returns-in_err-next_name : goal.returns-in_err-next_name
unfolding station_words
returns-in_err-next_name c = search rules

pub returns-in_err-next_small_number : goal.returns-in_err-next_small_number
unfolding station_words
returns-in_err-next_small_number c = search rules

pub returns-in_err-next_number : goal.returns-in_err-next_number
unfolding station_words
returns-in_err-next_number c = search rules

pub returns-in_err-next_small_number-2 : goal.returns-in_err-next_small_number-2
unfolding station_words
returns-in_err-next_small_number-2 c = search rules

pub returns : goal.returns
unfolding station_words
returns c = search rules
