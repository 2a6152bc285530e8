use Rattle.std.proofs.Common.{◌≡◌, ◌-◌, ℕ, suc, Some, IfSome, slice_get, get_or, arith, ap, ◌∙◌, sym, subst, inl, inr}
use Rattle.std.proofs.lemmas.Option.{slice_get_within, slice_get-get_or, get_or_from_slice_get}
use Rattle.bus_ledger.proofs.Numbers.{same_or_not}
use Rattle.journal.specs.Journal.{IsSeated}
use Rattle.garage.proofs.garage.Garage.are_seated.Goals as goal

pub loop-i-init : goal.loop-i-init
loop-i-init g c = (λ i p l e. absurd (omega arith), λ i p q l a b. absurd (omega arith))

pub loop-i-preserved : goal.loop-i-preserved
loop-i-preserved g c =
    let units = c.args.units.now in
    let n = c.loop-i.i in
    let x = c.index-units-i.result in
    let here : IsSeated c.args.self.now x.seat ((goal.Unit-dyn g (x.unit.vtable, x.unit.value)).name_of x.unit.value) x.events =
    subst (λ m. IsSeated c.args.self.now x.seat m x.events) c.name.ensures (c.is_seated.ensures.seated.0 c.if-not-is_seated.false) in (
      λ i p l e.
          elim (same_or_not i n) [
            | inl same ↦
                let is = c.index-units-i.is ∙ get_or_from_slice_get units n p x (ap (λ (j : ℕ). slice_get units j) (sym same) ∙ e) in
                subst (λ y. IsSeated c.args.self.now y.seat ((goal.Unit-dyn g (y.unit.vtable, y.unit.value)).name_of y.unit.value) y.events) is here
            | inr other ↦ c.loop-i.invariant.0 i p (omega arith) e
          ],
      λ i p q l a b.
          elim (same_or_not (suc i) n) [
            | inl same ↦
                let is = c.index-units-i.is ∙ get_or_from_slice_get units n q x (ap (λ (j : ℕ). slice_get units j) (sym same) ∙ b) in
                let before : c.seat_before.result ≡ p.seat = subst (λ o. IfSome o (λ y. c.seat_before.result ≡ y.seat)) a (c.seat_before.ensures.before i (sym same)) in
                let seat : x.seat ≡ q.seat = ap (λ y. y.seat) is in
                let low = c.if-parked-seat_before.false in
                omega arith
            | inr other ↦ c.loop-i.invariant.1 i p q (omega arith) a b
          ],
    )

pub returns : goal.returns
returns g c = record {
  each = λ i p e. (let l = slice_get_within c.args.units.now i p e in let past = c.loop-i-test.false in c.loop-i.invariant.0 i p (omega arith) e);
  ordered = λ i p q a b. (let l = slice_get_within c.args.units.now (suc i) q b in let past = c.loop-i-test.false in c.loop-i.invariant.1 i p q (omega arith) a b);
}

pub returns-then-parked-seat_before : goal.returns-then-parked-seat_before
returns-then-parked-seat_before g c seated =
    let units = c.args.units.now in
    let n = c.loop-i.i in
    let x = c.index-units-i.result in
    let high = c.if-parked-seat_before.true in
    let within = c.loop-i-test.true in
    let at : slice_get units n ≡ Some x = slice_get-get_or units n x within ∙ ap Some (sym c.index-units-i.is) in
    elim (same_or_not n 0) [
      | inl none ↦ (let first = c.seat_before.ensures.first none in let seat = c.is_seated.ensures.low c.if-not-is_seated.false in absurd (omega arith))
      | inr some ↦
          let k : ℕ = n - 1 in
          let next : n ≡ suc k = omega arith in
          let p = get_or units k x in
          let at_k : slice_get units k ≡ Some p = slice_get-get_or units k x (omega arith) in
          let before : c.seat_before.result ≡ p.seat = subst (λ o. IfSome o (λ y. c.seat_before.result ≡ y.seat)) at_k (c.seat_before.ensures.before k next) in
          let low = seated.ordered k p x at_k (ap (λ (j : ℕ). slice_get units j) (sym next) ∙ at) in
          absurd (omega arith)
    ]
