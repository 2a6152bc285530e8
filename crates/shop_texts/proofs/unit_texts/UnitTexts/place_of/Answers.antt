use Rattle.std.proofs.Common.{◌≡◌, ◌+◌, ◌-◌, List, None, Some, sym, subst, arith}
use Rattle.std.specs.HashMap.{get}
use Rattle.std.specs.List.{All}
use Rattle.shop_texts.specs.Exact.{IsPlaceOf}
use Rattle.shop_texts.specs.Index.{is_same, NoneGives, IsLastRow}
use Rattle.shop_texts.specs.declared.unit_row.UnitRow.{UnitRow}
use Rattle.shop_texts.proofs.Index.{IsBelow, passed, found}
use Rattle.shop_texts.proofs.unit_texts.UnitTexts.place_of.Goals as goal

pub loop-less-preserved : goal.loop-less-preserved
loop-less-preserved c =
    let rows = c.self.inside.rows.items in
    let key = c.of_unit-key.result in
    let name = c.args.name in
    let exact = 31 - c.loop-less.less in
    let none : get is_same c.self.inside.index key ≡ None = sym c.in_default.ensures.value in
    let gone : NoneGives key rows = subst (IsLastRow rows key) none (c.self.invariant key) in
    let more : 32 - c.loop-less.less ≡ exact + 1 = omega (arith, c.loop-less-test.true) in
    let below : All (IsBelow name (exact + 1)) rows = subst (λ limit. All (IsBelow name limit) rows) more c.loop-less.invariant in
    let fewer : All (IsBelow name exact) rows = passed rows name exact key c.of_unit-key.ensures below gone in
    let same : exact ≡ 32 - (c.loop-less.less + 1) = omega (arith, c.loop-less-test.true) in
    subst (λ limit. All (IsBelow name limit) rows) same fewer

pub returns-in-Some-clause-found : goal.returns-in-Some-clause-found
returns-in-Some-clause-found c =
    let rows = c.self.inside.rows.items in
    let key = c.of_unit-key.result in
    let name = c.args.name in
    let exact = 31 - c.loop-less.less in
    let place = c.in-Some.place.now in
    let some : get is_same c.self.inside.index key ≡ Some place = sym c.in-Some.ensures.value in
    let last : IsLastRow rows key (Some place) = subst (IsLastRow rows key) some (c.self.invariant key) in
    let more : 32 - c.loop-less.less ≡ exact + 1 = omega (arith, c.loop-less-test.true) in
    let below : All (IsBelow name (exact + 1)) rows = subst (λ limit. All (IsBelow name limit) rows) more c.loop-less.invariant in
    subst (λ (seen : List UnitRow). IsPlaceOf seen name place) c.self.view_is (found rows name exact place key c.of_unit-key.ensures below last)
