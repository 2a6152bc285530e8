use Rattle.std.proofs.Common.{◌≡◌, ◌≤◌, ◌⊎◌, inl, inr, ℕ, Some, None, rules, arith}
use Rattle.bus_watch.proofs.Over.{no_owner, none_held, one_holder, one_leaver}
use Rattle.bus_watch.proofs.Steps.{on_ok}
use Rattle.bus_watch.proofs.watch.Watch.hand_over.Goals.{in_default-address_of-via-in-Some-address_of+else-held-le-GREATEST_ADDRESS, in_default-address_of-via-in_default-address_of}
use Rattle.bus_watch.proofs.watch.Watch.hand_over.Goals as goal

pub returns-in_default : goal.returns-in_default
returns-in_default c = λ bound w. no_owner c.args.other.now c.args.self.now bound c.args.address (search rules) w

pub returns-in-Some-address_of : goal.returns-in-Some-address_of
returns-in-Some-address_of c =
    on_ok c.take_over-in-Some-address_of.result (λ second bound w.
    one_holder c.args.other.now c.args.self.now c.take_over.new.self c.take_over-in-Some-address_of.new.self bound c.in-Some.name c.args.address c.in-Some-address_of.held
    c.take_over.ensures.fits c.requires (search rules) (search rules) (search rules) c.in_ok-take_over.ensures.stands second c.take_over.ensures.broken c.take_over-in-Some-address_of.ensures.broken w)
    c.take_over-in-Some-address_of.ensures.stands

pub returns-in_default-address_of : goal.returns-in_default-address_of
returns-in_default-address_of c =
    let which : (c.address_of.result ≡ None) ⊎ ((held : ℕ) × ((c.address_of.result ≡ Some held) × (held ≤ 253 → ⊥))) = elim c.in_default-address_of.branch [
      | in_default-address_of-via-in-Some-address_of+else-held-le-GREATEST_ADDRESS v ↦
          inr (v.in-Some-address_of.held, (v.in-Some-address_of.is, λ le. (let not = v.if-held-le-GREATEST_ADDRESS.false in grind arith)))
      | in_default-address_of-via-in_default-address_of v ↦ inl v.in_default-address_of.is
    ] in
    on_ok c.take_away.result (λ second bound w.
    one_leaver c.args.other.now c.args.self.now c.take_over.new.self c.take_away.new.self bound c.in-Some.name c.args.address
    c.take_over.ensures.fits c.requires (search rules) (none_held c.address_of.result _ c.address_of.ensures which)
    c.in_ok-take_over.ensures.stands second c.take_over.ensures.broken c.take_away.ensures.broken w)
    c.take_away.ensures.stands
