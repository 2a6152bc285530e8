-- What can be read of a payload group by group, where the strict reading refuses the whole.
use Rattle.std.specs.Prelude.{ℕ, Bool, true, false, ◌+◌, ◌-◌, ◌*◌, ◌/◌, ◌%◌, ◌&&◌, ◌==◌, min, nat_le, nat_lt, not, is_some, List, [], ◌∷◌, length, if◌then◌else◌, Option, Some, None}
use Rattle.std.specs.List.{count_by, list_all}
use Rattle.trouble_code.specs.Code.{Code, code}
use Rattle.trouble_code.specs.LampBytes.{lamps_value}
use Rattle.dm_messages.specs.View.{code_of_bytes, decoding}
use Rattle.dm_messages.specs.declared.method.ConversionMethod.{ConversionMethod}
use Rattle.dm_messages.specs.declared.method.ConversionMethod.TheVariants.{First, Second, Third}
use Rattle.dm_messages.specs.declared.shown.Shown.{Shown}
use Rattle.dm_messages.specs.declared.tolerant.GroupRead.{GroupRead}
use Rattle.dm_messages.specs.declared.tolerant.GroupRead.TheVariants.{Readable, Padding, NoCode, Older}
use Rattle.dm_messages.specs.declared.tolerant.MessageRead.{MessageRead}
use Rattle.dm_messages.specs.declared.tolerant.MessageRead.TheVariants.{Whole, InPart}
use Rattle.dm_messages.specs.declared.tolerant.Tolerant.{Tolerant}
use Rattle.dm_messages.specs.declared.trouble.Trouble.{Trouble}

-- ---- the older layouts of a code

-- the code, where its numbers are not all 0
abbrev pub code_unless_zero : ℕ → ℕ → ℕ → Option Code
code_unless_zero spn fmi count = if nat_lt 0 (spn + fmi + count) then Some (code spn fmi count) else None

-- the SPN by conversion method (SAE J1939-73, from memory): its high bits in the first two bytes, the highest first or second, and the 3 lowest
-- beside the FMI; or laid out as today
abbrev pub spn_by_method : ConversionMethod → ℕ → ℕ → ℕ → ℕ
spn_by_method First first second third = 2048 * first + 8 * second + third / 32
spn_by_method Second first second third = 2048 * second + 8 * first + third / 32
spn_by_method Third first second third = first + 256 * second + 65536 * (third / 32)

-- the code of four bytes by such a method; the highest bit of the fourth says that it is an older one
abbrev pub code_by_method : ConversionMethod → ℕ → ℕ → ℕ → ℕ → Option Code
code_by_method method first second third fourth = code_unless_zero (spn_by_method method first second third) (third % 32) (fourth % 128)

-- ---- groups of four bytes

-- a code of today's layout, or the four bytes of an older one
abbrev pub or_older : Option Code → ℕ → ℕ → ℕ → ℕ → GroupRead
or_older (Some c) first second third fourth = Readable c
or_older None first second third fourth = Older first second third fourth

-- all FF is padding, all 00 no code
abbrev pub group_read : ℕ → ℕ → ℕ → ℕ → GroupRead
group_read first second third fourth =
    if list_all (λ b. b == 0) (first ∷ second ∷ third ∷ fourth ∷ []) then NoCode
    else (if list_all (λ b. b == 255) (first ∷ second ∷ third ∷ fourth ∷ []) then Padding
    else or_older (code_of_bytes first second third fourth) first second third fourth)

-- each group, in order
abbrev pub groups_of : List ℕ → List GroupRead
groups_of (first ∷ second ∷ third ∷ fourth ∷ bytes) = group_read first second third fourth ∷ groups_of bytes
groups_of _ = []

-- ---- a payload

-- its lamps, its groups, and how many bytes stand behind the last whole group; nothing is read where the lamps are not whole
abbrev pub tolerant : List ℕ → Option Tolerant
tolerant (lamps ∷ flashes ∷ bytes) =
    Some (record { lamps = lamps_value lamps flashes; groups = groups_of bytes; behind = length bytes % 4 })
tolerant _ = None

-- the code of an older group, where the method of its unit is known
abbrev pub code_if_known : Option ConversionMethod → ℕ → ℕ → ℕ → ℕ → Option Code
code_if_known None first second third fourth = None
code_if_known (Some method) first second third fourth = code_by_method method first second third fourth

-- the code of a group, if it has one that can be read
abbrev pub code_in : Option ConversionMethod → GroupRead → Option Code
code_in method (Readable c) = Some c
code_in method (Older first second third fourth) = code_if_known method first second third fourth
code_in method _ = None

abbrev pub put_code : Option Code → List Code → List Code
put_code (Some c) codes = c ∷ codes
put_code None codes = codes

-- the codes of some groups, in their order
abbrev pub codes_in : Option ConversionMethod → List GroupRead → List Code
codes_in method [] = []
codes_in method (g ∷ groups) = put_code (code_in method g) (codes_in method groups)

-- what is shown of a payload that is read so
abbrev pub shown_by_method : Option ConversionMethod → Tolerant → Shown
shown_by_method method t = record { lamps = t.lamps; codes = codes_in method t.groups }

-- ---- the strict reading

abbrev pub is_readable : GroupRead → Bool
is_readable (Readable c) = true
is_readable _ = false

-- no code in the one group that there is
abbrev pub is_none_read : GroupRead → Bool
is_none_read Padding = true
is_none_read NoCode = true
is_none_read _ = false

abbrev pub is_lone_lawful : List GroupRead → Bool
is_lone_lawful (g ∷ []) = if is_readable g then true else is_none_read g
is_lone_lawful _ = false

-- nothing of it is amiss: one group, which may be of no code, and two bytes; or 2 to 445 codes and no byte more
abbrev pub is_strict : Tolerant → Bool
is_strict t =
    if length t.groups == 1 && t.behind == 2 then is_lone_lawful t.groups
    else ((nat_le 2 (length t.groups) && nat_le (length t.groups) 445) && (t.behind == 0 && list_all is_readable t.groups))

-- what the strict reading shows of it
abbrev pub strict_of : Option Tolerant → Option Shown
strict_of None = None
strict_of (Some t) = if is_strict t then Some (shown_by_method None t) else None

-- ---- a message: strictly, or else what can be read

abbrev pub in_part : Option Tolerant → Option MessageRead
in_part None = None
in_part (Some t) = Some (InPart t)

abbrev pub whole_or_part : Option Shown → Option Tolerant → Option MessageRead
whole_or_part (Some shown) t = Some (Whole shown)
whole_or_part None t = in_part t

abbrev pub message_read : List ℕ → Option MessageRead
message_read bytes = whole_or_part (decoding bytes) (tolerant bytes)

-- ---- what is not read

abbrev pub is_padding : GroupRead → Bool
is_padding Padding = true
is_padding _ = false

abbrev pub is_no_code_read : GroupRead → Bool
is_no_code_read NoCode = true
is_no_code_read _ = false

abbrev pub is_older : GroupRead → Bool
is_older (Older first second third fourth) = true
is_older _ = false

-- an older group is read where the method of its unit is known
abbrev pub is_converted : Option ConversionMethod → GroupRead → Bool
is_converted method g = is_older g && is_some (code_in method g)

abbrev pub is_unread : Option ConversionMethod → GroupRead → Bool
is_unread method g = is_older g && not (is_some (code_in method g))

-- how many groups there are of a sort
abbrev pub counted_16 : ℕ → ℕ
counted_16 n = min n 65535

abbrev pub groups_counted : (GroupRead → Bool) → List GroupRead → ℕ
groups_counted p groups = counted_16 (count_by p groups)

-- how many bytes more than a lone group has behind it, or than several have
abbrev pub bytes_behind : Tolerant → ℕ
bytes_behind t = if length t.groups == 1 then t.behind - 2 else t.behind

-- how many bytes are missing to 8, the least that a message has
abbrev pub bytes_missing : Tolerant → ℕ
bytes_missing t = if nat_le 2 (length t.groups) then 0 else 6 - (4 * length t.groups + t.behind)

-- what of it is not read, or by an older method; a lone group of padding or of no code is as it should be
abbrev pub trouble_of : Option ConversionMethod → Tolerant → Trouble
trouble_of method t = record {
  padding = if length t.groups == 1 then 0 else groups_counted is_padding t.groups;
  no_code = if length t.groups == 1 then 0 else groups_counted is_no_code_read t.groups;
  older = groups_counted (is_unread method) t.groups;
  converted = groups_counted (is_converted method) t.groups;
  behind = bytes_behind t;
  missing = bytes_missing t;
}
