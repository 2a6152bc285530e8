use Rattle.std.proofs.Common.{◌≡◌, ◌<◌, get_or, arith}
use Rattle.std.proofs.lemmas.Grind.{common_steps}
use Rattle.std.proofs.lemmas.Option.{gets}
use Rattle.picture.specs.Briefs.{one_by_one}
use Rattle.picture.proofs.Placing.{code_told, one_of}
use Rattle.picture.proofs.brief.Brief.code.Goals as goal

pub returns-in-Some : goal.returns-in-Some
returns-in-Some c m h =
    let within : c.args.place < one_by_one c.args.self.now.count = one_of m c.args.self.now c.args.place c.listed.result h (c.listed.ensures m h) (omega (arith, c.if-place-listed.false)) in
    let there : c.in-Some.number.now ≡ get_or c.args.self.now.places c.args.place 0 = grind (arith, common_steps, gets, c.get.ensures.lookup, c.in-Some.is, c.in-Some.ensures) in
    code_told m c.args.self.now c.args.place c.in-Some.number.now c.code_of.result h within there c.code_of.ensures
