-- The text of what the station shows of a NAME.
use Rattle.std.specs.Prelude.{ℕ, zero, suc, List, [], ◌∷◌, ◌++◌, length, codes}
use Rattle.std.specs.List.{flat_map}
use Rattle.std.specs.Fmt.{decimal}
use Rattle.trouble_code.specs.Code.{Code}
use Rattle.dm_messages.specs.declared.shown.Shown.{Shown}
use Rattle.report.specs.Text.{lamps_text, line_end}

-- a code: a space, its SPN, its FMI and its count
abbrev pub code_text : Code → List ℕ
code_text c = codes " " ++ decimal c.spn ++ codes "/" ++ decimal c.fmi ++ codes "/" ++ decimal c.count

-- a dash where there is no code
abbrev pub dash_text : List Code → List ℕ
dash_text [] = codes " -"
dash_text (c ∷ cs) = []

-- what parts a message from what stands before it, by its place from 0
abbrev pub before_text : ℕ → List ℕ
before_text zero = codes ":"
before_text (suc place) = codes " |"

-- a message at a place up to its codes: a space and its lamps
abbrev pub head_text : ℕ → Shown → List ℕ
head_text place e = before_text place ++ codes " " ++ lamps_text e.lamps ++ dash_text e.codes

-- a message at a place
abbrev pub entry_text : ℕ → Shown → List ℕ
entry_text place e = head_text place e ++ flat_map code_text e.codes

-- messages, of which the first stands at a place
abbrev pub entries_text : ℕ → List Shown → List ℕ
entries_text place [] = []
entries_text place (e ∷ es) = entry_text place e ++ entries_text (suc place) es

-- how many messages, and each of them
abbrev pub shown_text : List Shown → List ℕ
shown_text entries = codes "shown " ++ decimal (length entries) ++ entries_text 0 entries ++ line_end
