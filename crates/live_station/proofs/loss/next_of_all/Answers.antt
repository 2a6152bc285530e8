use Rattle.std.proofs.Common.{rules, arith, ◌≡◌, ◌∷◌, ℕ, List, nat_le, subst, sym}
use Rattle.std.specs.List.{All}
use Rattle.std.proofs.lemmas.List.Elements.{All-cons, All-nil}
use Rattle.live_station.specs.declared.loss.Watch.{Watch}
use Rattle.live_station.proofs.loss.next_of_all.Goals as goal

pub loop-watch-preserved : goal.loop-watch-preserved
loop-watch-preserved c = (
  omega arith,
  λ t from below all.
      let rest : c.loop-watch.rest.now ≡ c.in-Some.watch.now ∷ c.in-Some.others.now = search rules in
      c.loop-watch.invariant.1 t from (omega arith)
      (subst (λ (l : List Watch). All (λ w. nat_le w.until t ≡ nat_le w.until c.args.now) l) (sym rest)
      (All-cons (λ w. nat_le w.until t ≡ nat_le w.until c.args.now) c.in-Some.watch.now c.in-Some.others.now (c.behind.ensures.same t from (omega arith)) all)),
)
