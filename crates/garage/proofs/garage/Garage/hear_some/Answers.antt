use Rattle.std.proofs.Common.{◌≡◌, ◌+◌, Err, arith, refl, rules}
use Rattle.garage.proofs.HearLemmas.{cut_next, hearing_many, many_both, many_count, next_more, next_none}
use Rattle.garage.proofs.Lent.{if_err_is}
use Rattle.garage.proofs.garage.Garage.hear_some.Goals as goal

pub loop-heard-init : goal.loop-heard-init
loop-heard-init g c = (c.pass_some-heard.ensures.heard, c.pass_some-heard.ensures.most)

pub hear_seated-requires : goal.hear_seated-requires
hear_seated-requires g c = (hearing_many _ _ c.loop-heard.heard c.args.self.now c.args.parked.now c.loop-heard.self c.loop-heard.parked c.loop-heard.invariant.0 c.requires.seated).sits

pub returns-in_default-clause-heard : goal.returns-in_default-clause-heard
returns-in_default-clause-heard g c =
    (next_none _ _ c.loop-heard.heard c.in_ok-hear_seated.field-0 c.args.self.now c.loop-heard.self c.hear_seated.new.self c.args.parked.now c.loop-heard.parked c.hear_seated.new.parked c.loop-heard.invariant.0 c.requires.seated c.in_ok-hear_seated.ensures.heard c.in_default.is).0

pub returns-in_default-clause-all : goal.returns-in_default-clause-all
returns-in_default-clause-all g c = λ l.
    (next_none _ _ c.loop-heard.heard c.in_ok-hear_seated.field-0 c.args.self.now c.loop-heard.self c.hear_seated.new.self c.args.parked.now c.loop-heard.parked c.hear_seated.new.parked c.loop-heard.invariant.0 c.requires.seated c.in_ok-hear_seated.ensures.heard c.in_default.is).1

pub returns-in_err-hear_seated-clause-cut : goal.returns-in_err-hear_seated-clause-cut
returns-in_err-hear_seated-clause-cut g c =
    let e = c.in_err-hear_seated.field-0.0 in
    let told : c.from_residual.result ≡ Err e = search rules in
    let err = c.in_err-hear_seated.ensures in
    if_err_is c.from_residual.result _ e told (
      c.loop-heard.heard,
      c.loop-heard-test.true,
      cut_next _ _ c.loop-heard.heard e c.args.self.now c.loop-heard.self c.hear_seated.new.self c.args.parked.now c.loop-heard.parked c.hear_seated.new.parked c.loop-heard.invariant.0 c.requires.seated
          err.err.0 err.err.1 err.nothing err.full err.only,
    )

pub pass_some-heard-requires-in-loop-heard : goal.pass_some-heard-requires-in-loop-heard
pass_some-heard-requires-in-loop-heard g c =
    let n = c.loop-heard.heard in
    let many = next_more _ _ n (n + 1) c.in_ok-hear_seated.field-0 _ c.args.self.now c.loop-heard.self c.hear_seated.new.self c.args.parked.now c.loop-heard.parked c.hear_seated.new.parked refl c.loop-heard.invariant.0 c.in_ok-hear_seated.ensures.heard c.in-Frame.is in
    (hearing_many _ _ (n + 1) c.args.self.now c.args.parked.now c.hear_seated.new.self c.hear_seated.new.parked many c.requires.seated).sits

pub loop-heard-preserved : goal.loop-heard-preserved
loop-heard-preserved g c =
    let n = c.loop-heard.heard in
    let many = next_more _ _ n (n + 1) c.in_ok-hear_seated.field-0 _ c.args.self.now c.loop-heard.self c.hear_seated.new.self c.args.parked.now c.loop-heard.parked c.hear_seated.new.parked refl c.loop-heard.invariant.0 c.in_ok-hear_seated.ensures.heard c.in-Frame.is in (
      many_both _ _ (n + 1) c.pass_some-heard-in-loop-heard.result _ c.args.self.now c.hear_seated.new.self c.pass_some-heard-in-loop-heard.new.self c.args.parked.now c.hear_seated.new.parked c.pass_some-heard-in-loop-heard.new.parked refl many c.pass_some-heard-in-loop-heard.ensures.heard,
      (let t = c.loop-heard-test.true in let m = c.pass_some-heard-in-loop-heard.ensures.most in omega arith),
    )

pub returns-clause-heard : goal.returns-clause-heard
returns-clause-heard g c =
    many_count _ _ c.loop-heard.heard c.args.most c.args.self.now c.args.parked.now c.loop-heard.self c.loop-heard.parked (let past = c.loop-heard-test.false in let few = c.loop-heard.invariant.1 in omega arith) c.loop-heard.invariant.0
