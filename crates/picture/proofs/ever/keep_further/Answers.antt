use Rattle.std.proofs.Common.{◌≡◌, ◌<◌, true, length, sym, arith}
use Rattle.std.specs.List.{list_any}
use Rattle.std.proofs.lemmas.List.{take_all, take_more}
use Rattle.std.proofs.lemmas.List.Folds.{list_any_at}
use Rattle.trouble_code.specs.Code.{same_fault}
use Rattle.picture.proofs.KeepingCodes.{all_so_far, itself, one_more_so_far}
use Rattle.picture.proofs.ever.keep_further.Goals as goal

pub loop-code-preserved : goal.loop-code-preserved
loop-code-preserved c told lamps before appear older full =
    let codes = c.args.codes.now in
    let i = c.loop-code.code-index in
    let code = c.code-item.result in
    let within : i < length codes = omega (arith, c.loop-code-test.true) in
    let listed : list_any (same_fault code) codes ≡ true =
    list_any_at (same_fault code) codes i code within (rw (sym c.code-item.is) (itself code)) in
    rw (take_more codes i code within, sym c.code-item.is)
    (one_more_so_far told lamps codes c.args.time.now before _ _ _ _ _ code _ listed c.in_ok-is_kept.ensures (rw c.unless.ensures at c.saturating_add-more.ensures) (c.loop-code.invariant told lamps before appear older full))

pub returns : goal.returns
returns c told lamps before appear older full =
    let codes = c.args.codes.now in
    let end = take_all c.loop-code.code-index codes (omega (arith, c.loop-code-test.false)) in
    all_so_far told lamps codes c.args.time.now before _ _ (rw end at (c.loop-code.invariant told lamps before appear older full))
