use Rattle.std.proofs.Common.{not, rules}
use Rattle.std.specs.Char.{is_ascii_hexdigit}
use Rattle.std.proofs.lemmas.Iterator.{YieldsList-from_chars}
use Rattle.std.proofs.lemmas.Iterator.Search.{find_from_yields_List}
use Rattle.std.proofs.lemmas.Str.{IsUtf8-from_ascii, chars-IsAscii}
use borrow.Author.Tests.{tests}
use Rattle.candump_line.proofs.BytesLemmas.{ascii_of_hex, no_other}
use Rattle.candump_line.proofs.word.bad_digit.Goals as goal

pub returns-then-is_ascii_control : goal.returns-then-is_ascii_control
returns-then-is_ascii_control c = λ hex.
    let ascii = ascii_of_hex _ hex in
    let found = find_from_yields_List (λ d. not (is_ascii_hexdigit d)) c.find.new.self _ _ c.in_ok-other.ensures.ran
    (YieldsList-from_chars {s = c.chars.result} c.args.word.now (IsUtf8-from_ascii _ ascii) c.chars.ensures.rest) (λ x b q k. search (rules, tests)) in
    let none = no_other _ hex in
    let same = chars-IsAscii _ ascii in
    absurd cc

pub returns : goal.returns
returns c = λ hex.
    let ascii = ascii_of_hex _ hex in
    let found = find_from_yields_List (λ d. not (is_ascii_hexdigit d)) c.find.new.self _ _ c.in_ok-other.ensures.ran
    (YieldsList-from_chars {s = c.chars.result} c.args.word.now (IsUtf8-from_ascii _ ascii) c.chars.ensures.rest) (λ x b q k. search (rules, tests)) in
    let none = no_other _ hex in
    let same = chars-IsAscii _ ascii in
    absurd cc
