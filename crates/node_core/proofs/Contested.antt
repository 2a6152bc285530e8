-- What a unit owes to a claim that is contested.
use Rattle.std.proofs.Common.{◌≡◌, ◌≢◌, ℕ, refl, ap, ◌∙◌}
use Rattle.address_claim.specs.Claiming.{claim_step, held_after}
use Rattle.address_claim.specs.declared.claimer.ClaimStep.{ClaimStep}
use Rattle.address_claim.specs.declared.claimer.ClaimStep.TheVariants.{Nothing, Defend, Move, CannotClaim}
use Rattle.parameter_group.specs.Group.{AddressClaimed}
use Rattle.node_core.specs.Deed.{Deed, Claims, after_deed}
use Rattle.node_core.specs.NodeValue.{NodeValue}
use Rattle.node_core.specs.Reaction.{noted_from, on_claim, on_step}

step_taken : (node : NodeValue) (source : ℕ) (step : ClaimStep) → step ≢ Nothing → Claims node.claimer.name (held_after step node.claimer.held) ≡ on_step node source step
step_taken node source Nothing n = absurd (n refl)
step_taken node source Defend n = refl
step_taken node source (Move address) n = refl
step_taken node source CannotClaim n = refl

-- it claims what it holds once it has taken note
pub claims_again : (node mid : NodeValue) (source name : ℕ) → mid ≡ noted_from node (AddressClaimed source name) → claim_step source name node.claimer ≢ Nothing
    → Claims mid.claimer.name mid.claimer.held ≡ on_claim node source name
claims_again node mid source name e n = ap (λ (m : NodeValue). Claims m.claimer.name m.claimer.held) e ∙ step_taken node source (claim_step source name node.claimer) n

pub after_claiming : (node mid now : NodeValue) (source name : ℕ) → mid ≡ noted_from node (AddressClaimed source name) → claim_step source name node.claimer ≢ Nothing
    → now ≡ after_deed mid (Claims mid.claimer.name mid.claimer.held) → now ≡ after_deed (noted_from node (AddressClaimed source name)) (on_claim node source name)
after_claiming node mid now source name e n is =
    is ∙ (ap (λ (d : Deed). after_deed mid d) (claims_again node mid source name e n) ∙ ap (λ (m : NodeValue). after_deed m (on_claim node source name)) e)
