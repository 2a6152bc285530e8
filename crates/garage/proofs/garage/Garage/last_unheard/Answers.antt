use Rattle.std.proofs.Common.{ℕ, ◌≡◌, arith, get_or, inl, inr, slice_get, subst, sym, ap, ◌∙◌}
use Rattle.std.proofs.lemmas.Option.{slice_get-get_or, slice_get_within}
use Rattle.bus_ledger.proofs.Numbers.{same_or_not}
use Rattle.garage.specs.Hearing.{HasHeardAll}
use Rattle.garage.proofs.LastFrames.{heard_all}
use Rattle.garage.proofs.garage.Garage.last_unheard.Goals as goal

pub unheard-requires : goal.unheard-requires
unheard-requires g c = (c.requires.each c.loop-i.i (get_or c.args.units.now c.loop-i.i c.index-units-i.result) (slice_get-get_or c.args.units.now c.loop-i.i c.index-units-i.result c.loop-i-test.true)).unit

pub loop-i-preserved : goal.loop-i-preserved
loop-i-preserved g c =
    let here = get_or c.args.units.now c.loop-i.i c.index-units-i.result in
    let there = slice_get-get_or c.args.units.now c.loop-i.i c.index-units-i.result c.loop-i-test.true in
    let all : HasHeardAll here.seat c.args.self.now = heard_all c.args.self.now here.seat (let count = c.unheard.ensures in let none = c.if-unheard-gt0.false in omega arith) in
    λ j p l e. elim (same_or_not j c.loop-i.i) [
      | inl same ↦ (let is : p ≡ here = (let at = sym e ∙ (ap (λ (k : ℕ). slice_get c.args.units.now k) same ∙ there) in cc) in subst (λ y. HasHeardAll y.seat c.args.self.now) (sym is) all)
      | inr other ↦ c.loop-i.invariant j p (omega arith) e
    ]

pub returns-clause-heard : goal.returns-clause-heard
returns-clause-heard g c = λ n i p e. c.loop-i.invariant i p (let within = slice_get_within c.args.units.now i p e in let past = c.loop-i-test.false in omega arith) e
