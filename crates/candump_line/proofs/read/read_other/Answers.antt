use Rattle.std.specs.Prelude.{codes}
use Rattle.std.proofs.Common.{◌++◌, sym, Some, None, lit<, ap, ◌∙◌}
use Rattle.std.proofs.lemmas.Str.Pattern.{starts_char, strip_prefix_char}
use Rattle.candump_line.proofs.FrontLemmas.{begun_of, in_drop, in_time, no_note_empty, no_note_hash, untimed, zero_length}
use Rattle.candump_line.proofs.read.read_other.Goals.{then-is_empty-via-then-is_empty, then-is_empty-via-else-is_empty+then-starts_with}
use Rattle.candump_line.proofs.read.read_other.Goals as goal

pub returns-then-is_empty : goal.returns-then-is_empty
returns-then-is_empty c = λ inner marked.
    let begun = begun_of _ inner _ c.begun-text.ensures marked in
    elim c.then-is_empty.branch [
      | then-is_empty-via-then-is_empty w ↦ no_note_empty inner _ _ begun (zero_length _ _ c.is_empty.ensures w.if-is_empty.true)
      | then-is_empty-via-else-is_empty+then-starts_with w ↦
          no_note_hash inner _ _ begun ((starts_char 35 _ _ w.starts_with.ensures.cases (lit< tt) (lit< tt)).0 w.if-starts_with.true)
    ]

pub returns-in-Some : goal.returns-in-Some
returns-in-Some c = λ inner marked. in_drop inner _ _ _ (begun_of _ inner _ c.begun-text.ensures marked) (c.in-Some.ensures.cases.1.1 ∙ ap (λ t. codes "DROPCOUNT:" ++ t) (sym c.in-Some.ensures.cases.2)) c.read_dropped.ensures

pub returns-in-Some-strip_prefix : goal.returns-in-Some-strip_prefix
returns-in-Some-strip_prefix c = λ inner marked.
    in_time inner _ _ _ (begun_of _ inner _ c.begun-text.ensures marked) (strip_prefix_char 40 _ (Some c.in-Some-strip_prefix.rest) c.in-Some-strip_prefix.ensures.cases (lit< tt)) c.read_timed.ensures

pub returns-in-None : goal.returns-in-None
returns-in-None c = λ inner marked.
    untimed inner _ _ (begun_of _ inner _ c.begun-text.ensures marked) (rw c.in_default.is at c.strip_prefix.ensures.cases) (strip_prefix_char 40 _ None c.in-None.ensures.cases (lit< tt))
    c.read_untimed.ensures.counted c.read_untimed.ensures.joined c.read_untimed.ensures.apart
