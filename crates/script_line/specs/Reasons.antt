-- Why a line is no command, in words.
use Rattle.std.specs.Prelude.{ℕ, List, ◌++◌, codes}
use Rattle.script_line.specs.declared.reasons.ExpectedWord.{ExpectedWord}
use Rattle.script_line.specs.declared.reasons.ExpectedWord.TheVariants as expected
use Rattle.script_line.specs.declared.reasons.LineReason.{LineReason}
use Rattle.script_line.specs.declared.reasons.LineReason.TheVariants.{Blank, Unknown, Missing, Unfit, NoStation, Behind}

-- what a word is that is not what is wanted
abbrev pub unfit_text : ExpectedWord → List ℕ
unfit_text expected.Name = codes "no NAME"
unfit_text expected.Number = codes "no decimal number from 0 to 4294967295"
unfit_text expected.Count = codes "no decimal number from 0 to 4294967295"
unfit_text expected.Small = codes "no decimal number from 0 to 255"
unfit_text expected.Lamps = codes "not four hexadecimal digits"
unfit_text expected.Identifier = codes "not eight hexadecimal digits"
unfit_text expected.Bytes = codes "not two hexadecimal digits"
unfit_text expected.Kind = codes "not plain, guarded or flicker"
unfit_text expected.What = codes "not dm1, dm2, dm3, dm6, dm11, claim or a decimal number"
unfit_text expected.Which = codes "not dm1, dm2 or dm6"

abbrev pub reason_text : LineReason → List ℕ
reason_text Blank = codes "no word"
reason_text (Unknown word) = codes "no command begins with '" ++ word.now ++ codes "'"
reason_text (Missing place) = place.now ++ codes ": missing"
reason_text (Unfit place word wanted) = place.now ++ codes ": '" ++ word.now ++ codes "' is " ++ unfit_text wanted
reason_text (NoStation word) = codes "'" ++ word.now ++ codes "' takes no station: read, ask, command, shown, row, stats and report do"
reason_text (Behind word) = codes "'" ++ word.now ++ codes "' stands behind the command"
