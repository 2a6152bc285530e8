use Rattle.std.proofs.Common.{◌≡◌, ◌+◌, ◌/◌, ◌-◌, ◌++◌, length, take, arith, refl, ap, ◌∙◌}
use Rattle.std.proofs.lemmas.Grind.{common_steps}
use Rattle.std.proofs.lemmas.Slice.{take-put_mid}
use Rattle.candump_line.proofs.BytesLemmas.{bad_none, hex_text}
use Rattle.candump_line.proofs.LineLemmas.{length-data}
use Rattle.candump_line.proofs.bytes.Bytes.add.Goals as goal

pub returns-in-Some : goal.returns-in-Some
returns-in-Some c = λ bs small few e. absurd (bad_none _ (c.in-Some.ensures (hex_text _ bs e)))

pub returns-then-digits-eq1 : goal.returns-then-digits-eq1
returns-then-digits-eq1 c = λ bs small few e. let len = ap length e ∙ length-data bs in absurd (omega (arith, len, c.if-digits-eq1.true))

pub returns-then-count-self : goal.returns-then-count-self
returns-then-count-self c = λ bs small few e.
    let len = ap length e ∙ length-data bs in
    let room : length (take c.args.self.now.len c.args.self.now.room) ≡ c.args.self.now.len = grind (arith, common_steps) in
    absurd (omega (arith, len, c.if-count-self.true, room))

pub returns-then-not-read_pairs : goal.returns-then-not-read_pairs
returns-then-not-read_pairs c = λ bs small few e.
    let len = ap length e ∙ length-data bs in
    let done = c.read_pairs.ensures.reads_back bs small (grind (arith, common_steps)) (c.as_bytes.ensures.value ∙ e) in
    absurd cc

pub returns : goal.returns
returns c = λ bs small few e.
    let len = ap length e ∙ length-data bs in
    let done = c.read_pairs.ensures.reads_back bs small (grind (arith, common_steps)) (c.as_bytes.ensures.value ∙ e) in
    let size = ap length done.1 in
    (refl, take-put_mid c.args.self.now.len (c.args.self.now.len + length c.args.digits.now / 2 - c.args.self.now.len) c.args.self.now.room c.read_pairs.new.bytes (c.args.self.now.len + length c.args.digits.now / 2) (omega arith) (grind (arith, common_steps)) ∙ ap (λ t. take c.args.self.now.len c.args.self.now.room ++ t) done.1)
