use Rattle.std.proofs.Common.{List, map, length, arith, refl, sym, ap, subst, ◌∙◌}
use Rattle.std.specs.List.{All}
use Rattle.bus_ledger.specs.Changes.{HasWindow, new_traffic}
use Rattle.bus_ledger.specs.declared.traffic.StationSeat.{StationSeat}
use Rattle.journal.specs.Journal.{GarageValue}
use Rattle.journal.specs.State.{Settings, with_claims}
use Rattle.journal.specs.declared.event.Event.{Event}
use Rattle.garage.specs.Opening.{setting_value}
use Rattle.garage.proofs.OpeningLemmas.{opened_settings, opened_stands, seats_count, windows_fit}
use Rattle.garage.proofs.garage.Garage.with_stations.Goals as goal

pub with_stations-requires-clause-windows : goal.with_stations-requires-clause-windows
with_stations-requires-clause-windows c =
    subst (λ (l : List StationSeat). All (λ s. HasWindow s.window) l) (sym (c.as_slice.ensures.value ∙ c.in_ok-seats.ensures.ok)) (windows_fit c.args.settings.now c.args.limit c.if-not-are_settings.ensures)

pub post-requires-clause-spares : goal.post-requires-clause-spares
post-requires-clause-spares c = λ y h.
    c.in_ok-bus.ensures.room y (let n = ap length (c.as_slice.ensures.value ∙ c.in_ok-seats.ensures.ok) in let m = seats_count c.args.settings.now in omega arith)

pub invariant_of-result : goal.invariant_of-result
invariant_of-result c =
    opened_stands _ c.args.settings.now c.if-not-are_settings.ensures c.if-not-are_apart.ensures c.in_ok-posts.ensures.names c.in_ok-posts.ensures.posts refl c.new-2.ensures c.new.ensures.items refl refl refl
    (c.in_ok-posts.ensures.claims
    ∙ ap (with_claims 0 (map setting_value c.args.settings.now)) (c.in_ok-bus.ensures.ok ∙ ap new_traffic (c.as_slice.ensures.value ∙ c.in_ok-seats.ensures.ok)))

pub returns-clause-ok : goal.returns-clause-ok
returns-clause-ok c =
    let settings = opened_settings (record { limit = c.args.limit; bus = c.post.new.bus; posts = c.in_ok-posts.posts; stations = length c.args.settings.now; places = c.new.result; begun = 0; live = 0; injected = 0; journal = c.new-2.result }) c.args.settings.now c.in_ok-posts.ensures.posts in
    ap (λ (r : Settings). let g : GarageValue = record { settings = r; journal = c.new-2.result } in g) settings
    ∙ ap (λ (es : List Event). let g : GarageValue = record { settings = record { stations = map setting_value c.args.settings.now; limit = c.args.limit }; journal = es } in g) c.new-2.ensures
