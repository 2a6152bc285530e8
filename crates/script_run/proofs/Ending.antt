-- What a script came to, of the input that it was read from.
use Rattle.std.proofs.Common.{◌≡◌, ℕ, List, Option, Some, None, IfSome, subst}
use Rattle.std.specs.Io.KnownBytes.{Appends}
use Rattle.std.specs.Str.Lines.{lines}
use Rattle.script_run.specs.Telling.{IsCarriedOut, IsWire, asked_log, script_log}
use Rattle.script_run.specs.declared.line_reporter.LineForm.{LineForm}
use Rattle.script_run.specs.declared.wire.Wire.{Wire}

-- what was told and written
pub logged_of_input : (o : Option (List ℕ)) (text : List ℕ) (how : LineForm) (asked spelled : Option (List ℕ)) (wire : Wire) (P Q : List ℕ → Type 0) (a b d e : Option (List ℕ)) → IfSome o (λ bytes. text ≡ bytes) → ((told : List ℕ) → P told → Q told)
    → IsWire asked spelled wire.bus.now wire.period → IsCarriedOut how (lines text) (λ told s. P told × Appends a b told × Appends d e (asked_log (Some wire) s))
    → IfSome o (λ input. (bus : List ℕ) × (period : ℕ) × IsWire asked spelled bus period × IsCarriedOut how (lines input) (λ told s. Q told × Appends a b told × Appends d e (script_log bus period s)))
logged_of_input None text how asked spelled wire P Q a b d e is shows words h = tt
logged_of_input (Some bytes) text how asked spelled wire P Q a b d e is shows words h = (
  wire.bus.now,
  wire.period,
  words,
  subst (λ ls. IsCarriedOut how (lines ls) (λ told s. Q told × Appends a b told × Appends d e (script_log wire.bus.now wire.period s))) is
      (h.0, h.1, h.2, (shows h.0 h.3.0, h.3.1, h.3.2)),
)
