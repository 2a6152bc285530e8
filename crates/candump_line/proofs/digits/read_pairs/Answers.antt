use Rattle.std.proofs.Common.{◌≡◌, length, arith, ap, sym, ◌∙◌}
use Rattle.std.proofs.lemmas.List.{length-set}
use Rattle.candump_line.proofs.DigitLemmas.{pair_spells, byte_read}
use Rattle.candump_line.proofs.LineLemmas.{length-data}
use Rattle.candump_line.proofs.LoggedLemmas.{hex_all, hex_pair}
use Rattle.candump_line.proofs.digits.read_pairs.Goals as goal

pub returns-then-digits-ne0-clause-reads_back : goal.returns-then-digits-ne0-clause-reads_back
returns-then-digits-ne0-clause-reads_back c = λ bs small room e. let len = ap length e ∙ length-data bs in absurd (c.if-digits-ne0.true (omega arith))

pub returns-then-digits-bytes-clause-reads_back : goal.returns-then-digits-bytes-clause-reads_back
returns-then-digits-bytes-clause-reads_back c = λ bs small room e. let len = ap length e ∙ length-data bs in absurd (c.if-digits-bytes.true (omega arith))

pub returns-in-None-clause-reads_back : goal.returns-in-None-clause-reads_back
returns-in-None-clause-reads_back c = λ bs small room e.
    let spells = pair_spells _ bs c.loop-place.place e small (omega arith) in
    absurd (c.in-None.ensures (spells.0, spells.1))

pub returns-clause-digits : goal.returns-clause-digits
returns-clause-digits c = λ all. hex_all _ (length c.args.digits.now) c.loop-place.place (omega arith) (omega arith) c.loop-place.invariant.hex

pub loop-place-preserved : goal.loop-place-preserved
loop-place-preserved c = record {
  read = λ bs small room e.
      let len : length c.loop-place.bytes ≡ length bs = sym (length-set c.loop-place.bytes c.loop-place.place c.in-Some.byte) ∙ room in
      let within = c.loop-place-test.true in
      let spells = pair_spells _ bs c.loop-place.place e small (omega arith) in
      byte_read c.loop-place.bytes bs c.loop-place.place c.in-Some.byte (omega arith) len (c.in-Some.ensures.1 ∙ spells.2)
      (c.loop-place.invariant.read bs small len e);
  hex = hex_pair c.args.digits.now c.loop-place.place c.loop-place.invariant.hex (omega arith) c.in-Some.ensures.0.0 c.in-Some.ensures.0.1;
}
