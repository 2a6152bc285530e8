use Rattle.std.specs.Prelude.{ℕ}
use Rattle.program_io.specs.declared.input.TheConstants.{LIMIT}

-- the most bytes of an input
abbrev pub input_limit : ℕ
input_limit = LIMIT
