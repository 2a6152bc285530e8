use Rattle.std.proofs.Common.{◌≡◌, ◌≤◌, ℕ, List, ◌∷◌, length, take}
use Rattle.trouble_code.specs.LampBytes.{LampsValue}
use Rattle.picture.specs.Ever.{CodesAppear, ListsKept, ToldMessage, told_at}
use Rattle.picture.specs.declared.ever.TheConstants.{EVER_CODES}
use Rattle.picture.proofs.KeepingCodes.{KeptSoFar}
use Rattle.picture.proofs.ever.keep_further.Given as goal

abbrev pub invariant-loop-code : goal.invariant-loop-code
invariant-loop-code l =
    (told : List ToldMessage) (lamps : LampsValue) (before : ℕ) → CodesAppear (told_at lamps l.codes l.time ∷ told) l.initial.kept.items
    → (before ≡ 0 → ListsKept l.initial.kept.items told) → (1 ≤ before → EVER_CODES ≤ length l.initial.kept.items)
    → KeptSoFar told lamps l.codes l.time before (take l.code-index l.codes) l.kept.items l.more
