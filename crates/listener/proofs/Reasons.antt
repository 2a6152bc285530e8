-- A payload that can be read is refused for nothing.
use Rattle.std.proofs.Common.{◌≡◌, Option, Some, None, refl}
use Rattle.std.specs.Prelude.{Result, Ok, Err}
use Rattle.bus_model.specs.OverheardChanged.{or_bad_length}
use Rattle.dm_messages.specs.declared.error.ReadError.{ReadError}
use Rattle.dm_messages.specs.declared.error.ReadError.TheVariants.{BadLength}
use Rattle.dm_messages.specs.declared.shown.Shown.{Shown}

pub none_refused : (refused : Option ReadError) (v : Shown) → ((e : ReadError) → refused ≡ Some e → ◌≡◌ {A = Result Shown ReadError} (Ok v) (Err e)) → BadLength ≡ or_bad_length refused
none_refused None v differ = refl
none_refused (Some e) v differ = go (differ e refl)
  where
    go : ◌≡◌ {A = Result Shown ReadError} (Ok v) (Err e) → BadLength ≡ or_bad_length (Some e)
    go is = absurd cc
