-- What is not read whole is what the strict reading refuses.
use Rattle.std.proofs.Common.{◌≡◌, ℕ, List, Option, Some, None, refl, ap, ◌∙◌}
use Rattle.std.specs.Prelude.{Result, Ok, Err, OnOk}
use Rattle.dm_messages.specs.Tolerant.{message_read, tolerant, whole_or_part}
use Rattle.dm_messages.specs.View.{decoding}
use Rattle.dm_messages.specs.declared.shown.Shown.{Shown}
use Rattle.dm_messages.specs.declared.tolerant.MessageRead.{MessageRead}
use Rattle.dm_messages.specs.declared.tolerant.Tolerant.{Tolerant}
use Rattle.listener.specs.ListenerSteps.{after_read_of, after_showing}
use Rattle.listener.specs.ListenerValue.{ListenerValue}

reads_after : (l : ListenerValue) (bytes : List ℕ) (r : Option MessageRead) → r ≡ message_read bytes → after_read_of l r ≡ after_showing l (decoding bytes)
reads_after l bytes r e = ap (after_read_of l) e ∙ go (decoding bytes) (tolerant bytes)
  where
    go : (v : Option Shown) (t : Option Tolerant) → after_read_of l (whole_or_part v t) ≡ after_showing l v
    go (Some v) t = refl
    go None (Some t) = refl
    go None None = refl

pub reads_after_ok : {T E : Type 0} (result : Result T E) (new l : ListenerValue) (bytes : List ℕ) (r : Option MessageRead) → r ≡ message_read bytes
    → OnOk result (new ≡ after_read_of l r) → OnOk result (new ≡ after_showing l (decoding bytes))
reads_after_ok (Ok c) new l bytes r e h = h ∙ reads_after l bytes r e
reads_after_ok (Err c) new l bytes r e h = tt
