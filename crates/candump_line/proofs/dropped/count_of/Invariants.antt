use Rattle.std.proofs.Common.{◌≡◌, ◌-◌, ◌^◌, ◌<◌, ◌≤◌, take}
use Rattle.std.specs.Str.Parse.{AllDigits, digits_value}
use Rattle.candump_line.proofs.dropped.count_of.Given as goal

abbrev pub invariant-loop-byte : goal.invariant-loop-byte
invariant-loop-byte l = record {
  digits : AllDigits 10 (take l.byte-index l.word);
  told : digits_value 10 (take l.byte-index l.word) < 2 ^ 32 → l.count ≡ digits_value 10 (take l.byte-index l.word);
  most : 2 ^ 32 ≤ digits_value 10 (take l.byte-index l.word) → l.count ≡ 2 ^ 32 - 1;
}
