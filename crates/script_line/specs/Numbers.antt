use Rattle.std.specs.Prelude.{ℕ, ◌≡◌, ◌^◌, ◌<◌, List}
use Rattle.std.specs.Str.Parse.{IsNumeral, digits_value}

-- a word of decimal digits alone
abbrev pub IsDecimal : List ℕ → Type 0
IsDecimal word = IsNumeral 10 word

-- the number that decimal digits spell
abbrev pub decimal_value : List ℕ → ℕ
decimal_value word = digits_value 10 word

-- a word of decimal digits whose number is below a limit
abbrev pub IsNumberBelow : ℕ → List ℕ → Type 0
IsNumberBelow limit word = IsDecimal word × (decimal_value word < limit)

-- a word of decimal digits whose number, below 2^32, is n
abbrev pub SpellsNumber : List ℕ → ℕ → Type 0
SpellsNumber word n = IsNumberBelow (2 ^ 32) word × (n ≡ decimal_value word)
