use Rattle.std.proofs.Common.{◌≡◌, ◌≤◌, ◌∙◌, ap, arith, length}
use Rattle.std.specs.Prelude.{bytes_eq}
use Rattle.script_line.proofs.SpellingLemmas.{all_same}
use Rattle.script_line.proofs.read.spells.Goals as goal

pub returns : goal.returns
returns c =
    let bytes = c.as_bytes-bytes.result.now in
    let letters = c.args.letters.now in
    let long : length bytes ≡ length letters = first_of (omega arith, grind arith) in
    let end : length letters ≤ c.loop-i.i = first_of (omega arith, grind arith) in
    all_same bytes letters c.loop-i.i long end c.loop-i.invariant ∙ ap (λ w. bytes_eq w letters) c.as_bytes-bytes.ensures.value
