use Rattle.std.proofs.Common.{◌≡◌, ◌≤◌, ◌<◌, ◌^◌, take}
use Rattle.std.specs.Str.Parse.{AllDigits, digits_value}
use Rattle.candump_line.proofs.digits.leading_number.Given as goal

abbrev pub invariant-loop-place : goal.invariant-loop-place
invariant-loop-place l = record {
  digits : AllDigits 10 (take l.place l.text);
  is : l.value ≡ digits_value 10 (take l.place l.text);
  few : l.place ≤ 10;
  small : l.value < 10 ^ 10;
}
