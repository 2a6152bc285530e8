use Rattle.std.proofs.Common.{◌≡◌, true, false, sym, ◌∙◌, true≢false, None}
use Rattle.script_line.proofs.ByteLemmas.{byte_spelled, goes_on, no_digits, none_iff, none_spelled, too_short}
use Rattle.script_line.proofs.frames.next_byte.Goals.{in_default, in-len2-up+in_default-byte_of}
use Rattle.script_line.proofs.frames.next_byte.Goals as goal

pub returns-then-ends_word-clause-spelled : goal.returns-then-ends_word-clause-spelled
returns-then-ends_word-clause-spelled c =
    let ends = c.ends_word.ensures.0 c.if-ends_word.true in
    (ends, byte_spelled c.args.text.now c.in-Some.byte c.in-len2-up.len_at_least c.in-Some.ensures.0 c.in-Some.ensures.1 ends)

pub returns-else-ends_word-clause-spelled : goal.returns-else-ends_word-clause-spelled
returns-else-ends_word-clause-spelled c =
    goes_on c.args.text.now c.in-len2-up.len_at_least c.in-Some.ensures.0.0 (λ ends. true≢false (sym (c.ends_word.ensures.1 ends) ∙ c.if-ends_word.false))

pub returns-then-ends_word-2-clause-spelled : goal.returns-then-ends_word-2-clause-spelled
returns-then-ends_word-2-clause-spelled c = (c.ends_word-2.ensures.0 c.if-ends_word-2.true, none_spelled c.args.text.now)

pub returns-else-ends_word-2-clause-spelled : goal.returns-else-ends_word-2-clause-spelled
returns-else-ends_word-2-clause-spelled c = elim c.if-text-lt2.branch [
  | in_default w ↦ too_short c.args.text.now w.in_default.len_below (λ ends. true≢false (sym (c.ends_word-2.ensures.1 ends) ∙ c.if-ends_word-2.false))
  | in-len2-up+in_default-byte_of w ↦ no_digits c.args.text.now (none_iff _ _ w.byte_of.result w.byte_of.ensures w.in_default-byte_of.is)
      (λ ends. true≢false (sym (c.ends_word-2.ensures.1 ends) ∙ c.if-ends_word-2.false))
]
