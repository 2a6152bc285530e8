use Rattle.std.proofs.Common.{ℕ, arith, ap, ◌∙◌}
use Rattle.bus_ledger.specs.Changes.{heard_more}
use Rattle.bus_ledger.proofs.Seats.{pass_count, pass_few, pass_seat, read_kept, tapped_spares, tapped_traffic}
use Rattle.bus_ledger.proofs.bus.Bus.tap_pass_at.Goals as goal

pub index_mut-place-requires : goal.index_mut-place-requires
index_mut-place-requires c =
    let given = pass_seat c.self.inside c.args.self.now c.args.station c.self.view_is c.self.invariant c.requires in
    grind (arith)

pub hear-requires : goal.hear-requires
hear-requires c =
    pass_few c.self.inside c.args.self.now c.args.station c.pass-passed.result c.index_mut-place.result.now c.self.view_is c.self.invariant c.requires c.index_mut-place.ensures.value
    (pass_count c.self.inside c.args.self.now c.args.station c.pass-passed.result c.index_mut-receive_window.result.now c.self.view_is c.self.invariant c.requires c.index_mut-receive_window.ensures.value c.pass-passed.ensures.count)

pub invariant_of-self : goal.invariant_of-self
invariant_of-self c =
    read_kept c.self.inside c.args.self.now c.args.station c.pass-passed.result c.index_mut-place.result.now c.hear.new.self c.index_mut-receive_window.result.now c.pass-passed.new.self c.self.view_is c.self.invariant c.requires
    c.index_mut-place.ensures.value
    (pass_count c.self.inside c.args.self.now c.args.station c.pass-passed.result c.index_mut-receive_window.result.now c.self.view_is c.self.invariant c.requires c.index_mut-receive_window.ensures.value c.pass-passed.ensures.count)
    c.index_mut-receive_window.ensures.value c.pass-passed.ensures.rest c.hear.ensures.seat

pub returns-clause-traffic : goal.returns-clause-traffic
returns-clause-traffic c =
    tapped_traffic c.self.inside c.args.self.now c.args.station c.pass-passed.result c.index_mut-place.result.now c.hear.new.self c.index_mut-receive_window.result.now c.pass-passed.new.self c.self.view_is c.self.invariant c.requires
    c.index_mut-place.ensures.value c.index_mut-receive_window.ensures.value c.pass-passed.ensures.rest c.hear.ensures.seat
    ∙ ap (λ (n : ℕ). heard_more c.args.station n c.args.self.now.traffic)
    (pass_count c.self.inside c.args.self.now c.args.station c.pass-passed.result c.index_mut-receive_window.result.now c.self.view_is c.self.invariant c.requires c.index_mut-receive_window.ensures.value c.pass-passed.ensures.count)

pub returns-clause-spares : goal.returns-clause-spares
returns-clause-spares c =
    tapped_spares c.self.inside c.args.self.now c.args.station c.index_mut-place.result.now c.hear.new.self c.pass-passed.new.self c.self.view_is c.self.invariant c.requires c.index_mut-place.ensures.value (omega (arith, c.hear.ensures.spare))
