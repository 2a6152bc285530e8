use Rattle.std.proofs.Common.{refl, arith}
use Rattle.picture.proofs.Ranging.{one_value_more}
use Rattle.picture.proofs.value_range.ValueRange.hear.Goals as goal

pub returns : goal.returns
returns c = λ heard h. one_value_more heard c.args.self.now
    (record { times = c.saturating_add-self.result; newest = c.args.value.now; least = c.lesser-least.result; greatest = c.greater-greatest.result })
    c.args.value.now (omega (arith, c.saturating_add-self.ensures)) refl
    c.lesser-least.ensures.which c.lesser-least.ensures.before c.lesser-least.ensures.value
    c.greater-greatest.ensures.which c.greater-greatest.ensures.before c.greater-greatest.ensures.value h
