use Rattle.std.proofs.Common.{◌≡◌, true, Some, None, arith, ap, sym, ◌∙◌}
use Rattle.std.specs.Prelude.{slice_set, slice_index_or}
use Rattle.std.proofs.lemmas.List.{length-set}
use Rattle.address_claim.specs.Claiming.{is_free}
use Rattle.address_claim.proofs.FreeAddress.{free_found, none_free}
use Rattle.address_claim.proofs.claimer.Claimer.free_address.Goals as goal

pub returns-then-is_free-clause-value : goal.returns-then-is_free-clause-value
returns-then-is_free-clause-value c =
    let own = c.self.inside.name in
    let noted = slice_set c.self.inside.noted c.args.source (Some c.args.name) in
    let before = rw (← c.self.view_is) at c.loop-address.invariant in
    let here : is_free own (slice_index_or noted c.loop-address.address None) ≡ true = sym (ap (is_free own) c.last_after.ensures.value) ∙ (sym c.is_free.ensures ∙ c.if-is_free.true) in
    rw (← c.self.view_is)
    (free_found own noted c.loop-address.address (length-set c.self.inside.noted c.args.source (Some c.args.name) ∙ c.last_after.ensures.long) c.loop-address.auto.address c.loop-address-test.true before here)

pub returns-clause-value : goal.returns-clause-value
returns-clause-value c =
    none_free c.args.self.now.name (slice_set c.args.self.now.noted c.args.source (Some c.args.name))
    (λ a least lt. c.loop-address.invariant a least (omega (arith, lt, c.loop-address-test.false)))
